use Rattle.std.proofs.Common.{sym, ◌∙◌}
use Rattle.amqp_frames.proofs.Performatives.{transfer_follows, nothing_follows}
use Rattle.amqp_frames.proofs.contents.may_follow.Goals as goal

pub returns-then-names_transfer : goal.returns-then-names_transfer
returns-then-names_transfer c p x rest h e = transfer_follows _ _ rest c.if-names_transfer.true (c.names_transfer.ensures p x rest h e)

pub returns-else-names_transfer : goal.returns-else-names_transfer
returns-else-names_transfer c p x rest h e =
    nothing_follows p x rest _ _ c.skip_value.result (sym c.if-names_transfer.false ∙ c.names_transfer.ensures p x rest h e) c.eq.ensures c.skip_value.ensures h e
