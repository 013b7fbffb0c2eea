use Rattle.std.proofs.Common.{◌≡◌, ◌++◌, take}
use Rattle.amqp_trace.specs.Printed.{hex_octets}
use Rattle.amqp_trace.proofs.text.Line.put_hex_octets.Given as goal

abbrev pub invariant-loop-octet : goal.invariant-loop-octet
invariant-loop-octet l = l.self ≡ l.initial.self ++ hex_octets (take l.octet-index l.octets)
