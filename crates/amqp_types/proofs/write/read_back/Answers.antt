use Rattle.std.proofs.Common.{refl, sym}
use Rattle.amqp_types.proofs.Laws.{one_spelling}
use Rattle.amqp_types.proofs.Canonical.{canon_spells}
use Rattle.amqp_types.proofs.write.read_back.Goals as goal

pub returns : goal.returns
returns c = record {
  there = λ v x rest e. (v, x, rest, canon_spells v x e, refl);
  alone = λ v w x rest y after e h p. let s = one_spelling v w x y rest after (canon_spells v x e) h p in (sym s.0, sym s.1);
}
