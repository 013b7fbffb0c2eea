use Rattle.std.proofs.Common.{◌∙◌, sym, ap, refl}
use Rattle.amqp_types.specs.Canon.{capped}
use Rattle.amqp_types.specs.View.{view}
use Rattle.amqp_types.proofs.Canonical.{canon_deep, canon_is}
use Rattle.amqp_types.proofs.write.value_size.Goals as goal

pub returns-then-is_within : goal.returns-then-is_within
returns-then-is_within c = c.part_len.ensures ∙ ap capped (sym (canon_is (view c.args.value.now) (c.is_within.ensures.0 c.if-is_within.true)))

pub returns-else-is_within : goal.returns-else-is_within
returns-else-is_within c = rw (canon_deep (view c.args.value.now) (λ p. let q = c.is_within.ensures.1 p in cc)) refl
