use Rattle.std.proofs.Common.{◌↔◌}
use Rattle.amqp_performatives.specs.Part.{no_field}
use Rattle.amqp_decoder.specs.Reading.{AreFields}
use Rattle.amqp_decoder.proofs.fields.Cursor.is_at_end.Given as goal

abbrev pub invariant-loop-rest : goal.invariant-loop-rest
invariant-loop-rest l = AreFields l.rest.depth l.rest.left no_field l.rest.octets.now ↔ AreFields l.fn.self.depth l.fn.self.left no_field l.fn.self.octets.now

abbrev pub decreases-loop-rest : goal.decreases-loop-rest
decreases-loop-rest l = l.rest.left
