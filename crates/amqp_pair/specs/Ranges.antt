-- What the options of a run may be.
use Rattle.std.specs.Prelude.{◌≤◌}
use Rattle.amqp_pair.specs.declared.options.Options.{Options}

pub record IsInRange (o : Options) : Type 0 where
  pub some : 1 ≤ o.count
  pub few : o.count ≤ 100000
  pub some_consumers : 1 ≤ o.consumers
  pub few_consumers : o.consumers ≤ 16
  pub some_credit : 1 ≤ o.credit
  pub little_credit : o.credit ≤ 1000
  pub short : o.size ≤ 1000000
