use Rattle.std.proofs.Common.{ℕ, List, ◌++◌, ap, ◌∙◌}
use Rattle.amqp_types.specs.View.{view}
use Rattle.amqp_types.proofs.Spelled.{written_behind}
use Rattle.amqp_types.proofs.write.write_value.Goals as goal

pub returns-in-Ok-clause-ok : goal.returns-in-Ok-clause-ok
returns-in-Ok-clause-ok c =
    written_behind (view c.args.value.now) c.in-Some.size c.in_ok-octets.octets.items c.args.out.now.items c.put_part.new.out.items c.extend_from_slice.new.self.items c.in-Some.ensures c.in-Ok.ensures c.in_ok-octets.ensures.items
    (c.in_ok-extend_from_slice-in-Ok.ensures.items ∙ ap (λ (y : List ℕ). c.args.out.now.items ++ y) c.deref.ensures.value)
