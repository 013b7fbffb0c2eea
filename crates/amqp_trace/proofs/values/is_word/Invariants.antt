use Rattle.std.proofs.Common.{◌≡◌, drop}
use Rattle.std.specs.List.{list_all}
use Rattle.amqp_trace.specs.Values.{is_word, is_of_word}
use Rattle.amqp_trace.proofs.values.is_word.Given as goal

abbrev pub invariant-loop-octet : goal.invariant-loop-octet
invariant-loop-octet l = list_all is_of_word (drop l.octet-index l.octet-items) ≡ is_word l.text
