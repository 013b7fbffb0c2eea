use Rattle.std.proofs.Common.{◌≡◌, ◌++◌, take}
use Rattle.amqp_trace.specs.Printed.{escaped}
use Rattle.amqp_trace.proofs.text.Line.escape.Given as goal

abbrev pub invariant-loop-octet : goal.invariant-loop-octet
invariant-loop-octet l = l.self ≡ l.initial.self ++ escaped (take l.octet-index l.octets)
