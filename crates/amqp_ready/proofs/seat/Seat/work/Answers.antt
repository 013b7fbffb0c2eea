use Rattle.amqp_ready.specs.Serving.{fault_in}
use Rattle.amqp_ready.proofs.seat.Seat.work.Goals as goal

pub returns-clause-turns : goal.returns-clause-turns
returns-clause-turns g c =
    rw c.rest_room.ensures
    record {
      why = fault_in c.serve-answer.result;
      serves = c.serve-answer.ensures.serves;
      told = c.stage_after-self.ensures.told;
      done = λ over. c.serve-answer.ensures.ended (c.stage_after-self.ensures.done over);
    }
