use Rattle.std.proofs.Common.{◌≡◌, ℕ, take}
use Rattle.std.specs.BTreeSet.{contains}
use Rattle.std.specs.Ordering.{nat_cmp}
use Rattle.amqp_rules.specs.Suspend.{is_ready}
use Rattle.amqp_links.proofs.link.Link.ready_ids.Given as goal

abbrev pub invariant-loop-place : goal.invariant-loop-place
invariant-loop-place l = (id : ℕ) → contains nat_cmp l.ids id ≡ is_ready id (take l.place l.self.ready)
