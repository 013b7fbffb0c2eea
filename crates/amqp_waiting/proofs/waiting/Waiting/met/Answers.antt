use Rattle.std.proofs.Common.{◌∙◌, ap, map}
use Rattle.amqp_waiting.specs.Kept.{shown}
use Rattle.amqp_waiting.specs.Waiting.{met}
use Rattle.amqp_waiting.proofs.Meeting.{shown_met}
use Rattle.amqp_waiting.proofs.waiting.Waiting.met.Goals as goal

pub returns : goal.returns
returns c =
    ap (map shown) c.in_ok-items.ensures.entries
    ∙ shown_met c.args.role c.args.unsettled.now c.self.inside.items.entries
    ∙ ap (met c.args.role c.args.unsettled.now) c.self.view_is
