-- Passes: shares of the right to make steps, each with the number of those made by it.
use Rattle.std.specs.Prelude.{ℕ, ◌≡◌, ◌≢◌, ◌+◌, cond, Result, Ok, Err, Option, List, ◌∷◌, sum_by}
use Rattle.amqp_rules.specs.declared.op.Op.{Op}
use Rattle.amqp_rules.specs.declared.reply.Given.{Given}
use Rattle.amqp_rules.specs.declared.refusal.Refusal.{Refusal}
use Rattle.amqp_journal.specs.declared.receipt.Receipt.{Receipt}
use Rattle.amqp_conn.specs.declared.fault.ConnFault.{ConnFault}
use Rattle.amqp_conn.specs.declared.fed.Fed.{Fed}
use Rattle.amqp_conn.specs.Connection.{Connection}
use Rattle.amqp_shared.specs.Ring.{Ring}
use Rattle.amqp_shared.specs.declared.retention.Retention.{Retention}
use Rattle.amqp_shared.specs.declared.refused.CloseReason.{CloseReason}
use Rattle.amqp_shared.specs.declared.refused.CloseReason.TheVariants.{PassesMissing, NoMemory}

-- what a call answers
abbrev pub Answer : Type 0
Answer = Result (Receipt × Given) Refusal

-- What a pass records: its parts, the steps that were made by it, and its calls with their answers, the newest first. A
-- step that octets make is counted, but is no call.
pub record Tally : Type 0 where
  pub parts : ℕ
  pub made : ℕ
  pub asked : List (Op × Answer)

abbrev pub raised : Tally → Tally
raised t = record t { made = t.made + 1 }

-- the pass after a call with this answer: one step more if the operation was done
abbrev pub after : Op → Answer → Tally → Tally
after o (Ok r) t = record t { made = t.made + 1; asked = (o, Ok r) ∷ t.asked }
after o (Err e) t = record t { asked = (o, Err e) ∷ t.asked }

abbrev pub total_parts : List Tally → ℕ
total_parts passes = sum_by (λ (p : Tally). p.parts) passes

abbrev pub total_made : List Tally → ℕ
total_made passes = sum_by (λ (p : Tally). p.made) passes

-- how many steps a feed made
abbrev pub steps_fed : Result Fed ConnFault → ℕ
steps_fed (Ok fed) = cond fed.stepped 1 0
steps_fed (Err e) = 0

-- one step more exactly if the feed made one
abbrev pub CountsStep : Result Fed ConnFault → Tally → Tally → Type 0
CountsStep result old new = new ≡ record old { made = old.made + steps_fed result }

-- Why passes with these parts and this many steps are refused for a journal of this length. Passes are missing only if
-- their steps are not the journal's, and never if all parts are there; the reason contains both numbers. `NoMemory` is
-- reported only if no passes are missing.
abbrev pub IsCloseReason : ℕ → ℕ → ℕ → CloseReason → Type 0
IsCloseReason parts made steps (PassesMissing told counted) = (told ≡ made) × (counted ≡ steps) × (made ≢ steps) × (parts ≢ 65536)
IsCloseReason parts made steps NoMemory = parts ≢ 65536 → made ≡ steps

-- # Names

-- a connection before it is shared, with the name of its ledger and its ring
pub record Planted : Type 0 where
  pub conn : Connection
  pub name : ℕ
  pub parts : ℕ
  pub ring : Option Ring
  -- how many units the ring has room for
  pub room : ℕ
  -- which entries of its journal are kept
  pub retention : Retention

-- the name with these members is the seed's
pub record IsNamed (seed : Planted) (name parts : ℕ) (ring : Option Ring) (retention : Retention) : Type 0 where
  pub name_is : seed.name ≡ name
  pub parts_is : seed.parts ≡ parts
  pub ring_is : seed.ring ≡ ring
  pub retention_is : seed.retention ≡ retention
  pub whole : parts ≡ 65536
