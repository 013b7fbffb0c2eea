use Rattle.amqp_frames.proofs.Progress.{progress}
use Rattle.amqp_frames.proofs.framer.Framer.feed_apart.Goals as goal

pub returns-in-Ok-None-clause-progress : goal.returns-in-Ok-None-clause-progress
returns-in-Ok-None-clause-progress c = progress _ _ _ _ c.args.slot.now c.kept-2.ensures.unfinished (c.keep.ensures.fed c.args.slot.now)

pub returns-in-Ok-Some-clause-progress : goal.returns-in-Ok-Some-clause-progress
returns-in-Ok-Some-clause-progress c = progress _ _ _ _ c.take.new.slot c.kept-2.ensures.unfinished c.take.ensures.fed
