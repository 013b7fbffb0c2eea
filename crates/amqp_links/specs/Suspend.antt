-- The ids of what waits on a link to be taken, as they are looked for where it is put aside.
use Rattle.std.specs.Prelude.{ℕ, ◌≡◌}
use Rattle.std.specs.BTreeSet as ids
use Rattle.std.specs.BTreeSet.{BTreeSet}
use Rattle.std.specs.Ordering.{nat_cmp}
use Rattle.amqp_rules.specs.Suspend.{is_ready}
use Rattle.amqp_rules.specs.View.{LinkView}

-- the set has these ids and no other
abbrev pub AreReady : LinkView → BTreeSet ℕ → Type 0
AreReady l set = (id : ℕ) → ids.contains nat_cmp set id ≡ is_ready id l.ready
