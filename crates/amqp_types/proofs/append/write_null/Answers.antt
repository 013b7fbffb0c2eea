use Rattle.std.proofs.Common.{◌∷◌, [], refl}
use Rattle.amqp_types.specs.declared.class.Kind.{Kind}
use Rattle.amqp_types.specs.Datum.{number}
use Rattle.amqp_types.proofs.Typed.{appended, null_canon}
use Rattle.amqp_types.proofs.append.write_null.Goals as goal

pub returns-clause-ok : goal.returns-clause-ok
returns-clause-ok c = appended (number Kind.Null 0) (64 ∷ []) _ c.extend_from_slice.result c.args.out.now.items c.extend_from_slice.new.self.items (null_canon) c.extend_from_slice.ensures.items (refl)
