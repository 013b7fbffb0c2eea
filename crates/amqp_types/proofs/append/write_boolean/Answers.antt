use Rattle.std.proofs.Common.{◌∷◌, [], refl}
use Rattle.amqp_types.specs.declared.class.Kind.{Kind}
use Rattle.amqp_types.specs.Datum.{number}
use Rattle.amqp_types.proofs.Typed.{appended, true_canon, false_canon}
use Rattle.amqp_types.proofs.append.write_boolean.Goals as goal

pub returns-then-b-clause-ok : goal.returns-then-b-clause-ok
returns-then-b-clause-ok c = rw c.if-b.true (appended (number Kind.Bool 1) (65 ∷ []) _ c.extend_from_slice.result c.args.out.now.items c.extend_from_slice.new.self.items true_canon c.extend_from_slice.ensures.items refl)

pub returns-else-b-clause-ok : goal.returns-else-b-clause-ok
returns-else-b-clause-ok c = rw c.if-b.false (appended (number Kind.Bool 0) (66 ∷ []) _ c.extend_from_slice-else-b.result c.args.out.now.items c.extend_from_slice-else-b.new.self.items false_canon c.extend_from_slice-else-b.ensures.items refl)
