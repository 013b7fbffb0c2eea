-- Which octets spell a performative (part 2, 2.7).
use Rattle.std.specs.Prelude.{ℕ, List, IsTrue}
use Rattle.amqp_types.specs.Datum.{Datum}
use Rattle.amqp_types.specs.Grammar.{Spells}
use Rattle.amqp_performatives.specs.declared.performative.Performative.{Performative}
use Rattle.amqp_performatives.specs.Part.{Fits}
use Rattle.amqp_performatives.specs.Bodies.{part_of}
use Rattle.amqp_performatives.specs.Fair.{is_fair}

-- the octets spell the performative, in any of the spellings that its fields have
pub record IsPerformative (p : Performative) (x : List ℕ) : Type 0 where
  pub fair : IsTrue (is_fair p)
  pub datum : Datum
  pub fits : Fits (part_of p) datum
  pub spelled : Spells datum x
