-- Two ends, as callers see them.
use Rattle.std.specs.Prelude.{ℕ}
use Rattle.amqp_rules.specs.declared.config.Config.{Config}
use Rattle.amqp_rules.specs.Opened.{no_reply}
use Rattle.amqp_laws.specs.declared.entry.Step.TheVariants.{Opened}
use Rattle.amqp_journal.specs.Log.{Log, new_log, logging}
use Rattle.amqp_world.specs.declared.side.Side.{Side}
use Rattle.amqp_world.specs.declared.side.Side.TheVariants.{A, B}

pub record Sides : Type 0 where
  pub a : Log
  pub b : Log

abbrev pub of : Side → Sides → Log
of A w = w.a
of B w = w.b

abbrev pub other : Side → Side
other A = B
other B = A

-- the journal of an end that was told that the other takes frames of so many octets
abbrev pub opened : Config → ℕ → Log
opened c max_frame = logging (new_log c) (Opened max_frame) no_reply
