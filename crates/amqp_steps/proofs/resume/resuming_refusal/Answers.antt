use Rattle.amqp_rules.specs.Resume.{resume_body}
use Rattle.amqp_waiting.specs.Kept.{standing_of}
use Rattle.amqp_steps.proofs.resume.resuming_refusal.Goals as goal

pub returns : goal.returns
returns c =
    c.measured_refusal.ensures c.args.max (resume_body c.args.handle c.args.id c.args.settled (standing_of c.args.tag.now c.args.standing.now))
    (rw (c.settles.ensures, c.outcome_lent.ensures, c.flag.ensures, c.is_partial-partial.ensures) at (c.measure_resuming.ensures 0))
