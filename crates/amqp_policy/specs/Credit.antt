-- How much credit a receiver grants (part 2, 2.6.7).
use Rattle.std.specs.Prelude.{ℕ, ◌+◌, ◌-◌, ◌/◌, ◌&&◌, cond, min, nat_le, nat_lt, Option, Some, None, List, [], ◌∷◌}
use Rattle.amqp_policy.specs.declared.credit.Incoming.{Incoming}
use Rattle.amqp_policy.specs.declared.credit.Renewal.{Renewal}
use Rattle.amqp_policy.specs.declared.credit.Renewal.TheVariants.{AtZero, AtHalf, Drain}

-- how many messages there is room for beside those that are here already
abbrev pub room : ℕ → Incoming → ℕ → ℕ
room wanted i most = min (wanted - (i.ready + i.begun)) most

-- how much credit is left when more is granted
abbrev pub least : Renewal → ℕ → ℕ
least AtZero most = 0
least AtHalf most = most / 2
least Drain most = 0

-- the credit to grant, if any
abbrev pub credit_to_grant : ℕ → Incoming → ℕ → Renewal → Option ℕ
credit_to_grant wanted i most renewal =
    cond (nat_le i.credit (least renewal most) && nat_lt i.credit (room wanted i most)) (Some (room wanted i most)) None

-- # A link, step by step

-- how many messages were taken, and what the link has of others
pub record Receiving : Type 0 where
  pub taken : ℕ
  pub incoming : Incoming

pub data ReceivingStep : Type 0 where
  -- credit is granted as `credit_to_grant` says, at most so much
  Grants : ℕ → Renewal → ReceivingStep
  -- a delivery begins, which takes one credit
  Begins : ReceivingStep
  -- a delivery that began is complete
  Completes : ReceivingStep
  -- a delivery that began is aborted
  Aborts : ReceivingStep
  -- a delivery that is complete is taken
  Takes : ReceivingStep
  -- the sender gives its credit up
  GivesUp : ReceivingStep

abbrev pub with_credit : Option ℕ → Incoming → Incoming
with_credit None i = i
with_credit (Some credit) i = record i { credit = credit }

abbrev pub with_one_begun : Incoming → Incoming
with_one_begun i = record i { credit = i.credit - 1; begun = i.begun + 1 }

abbrev pub with_one_ready : Incoming → Incoming
with_one_ready i = record i { begun = i.begun - 1; ready = i.ready + 1 }

abbrev pub with_one_taken : Receiving → Receiving
with_one_taken s = record { taken = s.taken + 1; incoming = record s.incoming { ready = s.incoming.ready - 1 } }

abbrev pub with_incoming : Receiving → Incoming → Receiving
with_incoming s i = record s { incoming = i }

-- what a link has when so many messages are asked for in all. A delivery takes one credit, is complete only if it began, and is taken only if it is complete
abbrev pub after_step : ℕ → ReceivingStep → Receiving → Receiving
after_step asked (Grants most renewal) s =
    with_incoming s (with_credit (credit_to_grant (asked - s.taken) s.incoming most renewal) s.incoming)
after_step asked Begins s = cond (nat_lt 0 s.incoming.credit) (with_incoming s (with_one_begun s.incoming)) s
after_step asked Completes s = cond (nat_lt 0 s.incoming.begun) (with_incoming s (with_one_ready s.incoming)) s
after_step asked Aborts s = with_incoming s (record s.incoming { begun = s.incoming.begun - 1 })
after_step asked Takes s = cond (nat_lt 0 s.incoming.ready) (with_one_taken s) s
after_step asked GivesUp s = with_incoming s (record s.incoming { credit = 0 })

-- the newest step first
abbrev pub after_steps : ℕ → List ReceivingStep → Receiving
after_steps asked [] = record { taken = 0; incoming = record { credit = 0; ready = 0; begun = 0 } }
after_steps asked (step ∷ before) = after_step asked step (after_steps asked before)

-- how many messages came or may come
abbrev pub all_of : Receiving → ℕ
all_of s = s.taken + (s.incoming.credit + s.incoming.ready + s.incoming.begun)
