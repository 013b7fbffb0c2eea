-- What the settings may be.
use Rattle.std.specs.Prelude.{◌≤◌}
use Rattle.amqp_rules.specs.declared.config.Config.{Config}

pub record IsWithinLimits (c : Config) : Type 0 where
  pub takes_some : 1 ≤ c.window
  pub takes_few : c.window ≤ 2147483647
  pub some : 1 ≤ c.journal_limit
  pub few : c.journal_limit ≤ 1073741824
