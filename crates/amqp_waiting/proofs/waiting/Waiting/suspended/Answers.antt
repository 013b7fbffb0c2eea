use Rattle.std.proofs.Common.{◌≡◌, ◌∙◌, ap, map}
use Rattle.amqp_waiting.specs.Kept.{suspended_entry}
use Rattle.amqp_waiting.specs.Waiting.{suspended_as}
use Rattle.amqp_waiting.proofs.Aside.{shown_aside}
use Rattle.amqp_waiting.proofs.waiting.Waiting.suspended.Goals as goal

pub returns : goal.returns
returns c =
    let e : map suspended_entry c.self.inside.items.entries ≡ map suspended_as c.args.self.now =
    shown_aside c.self.inside.items.entries ∙ ap (map suspended_as) c.self.view_is in
    rw e at c.suspended_entries.ensures
