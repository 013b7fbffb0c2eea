use Rattle.std.proofs.Common.{arith, ◌∙◌}
use Rattle.amqp_halves.proofs.Shapes.{text_then, text_else}
use Rattle.amqp_halves.proofs.leaf.is_text.Goals as goal

pub returns-then-eq : goal.returns-then-eq
returns-then-eq c = text_then c.args.text.front.now c.args.text.back.now c.args.name.now _ _ _ (omega arith) c.split_at.ensures.front c.split_at.ensures.back c.if-eq.ensures c.eq-then-eq.ensures

pub returns-else-eq : goal.returns-else-eq
returns-else-eq c = c.if-eq.false ∙ text_else c.args.text.front.now c.args.text.back.now c.args.name.now _ (omega arith) c.split_at.ensures.front c.if-eq.ensures
