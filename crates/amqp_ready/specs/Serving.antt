-- Octets that were read are fed, with operations of a handler between the feeds.
use Rattle.std.specs.Prelude.{ℕ, ◌≡◌, List, [], ◌∷◌, drop, cond, Option, Some, None, Result, Ok, Err}
use Rattle.amqp_rules.specs.declared.reply.Given.{Given}
use Rattle.amqp_conn.specs.declared.fed.Fed.{Fed}
use Rattle.amqp_conn.specs.Connection.{Connection}
use Rattle.amqp_conn.specs.Feeding.{Feeds}
use Rattle.amqp_conn.specs.Pumping.{AddsAll}
use Rattle.amqp_ready.specs.declared.fault.SlotFault.{SlotFault}
use Rattle.amqp_ready.specs.declared.fault.SlotFault.TheVariants as fault
use Rattle.amqp_ready.specs.Lending.{still}

-- Feeds of x, one after the other, each of what the one before left, which leave y. Before and after each the
-- connection was lent, or units were popped.
abbrev pub Goes : List Fed → Connection → List ℕ → Connection → List ℕ → Type 0
Goes [] c x d y = (still d ≡ still c) × (y ≡ x)
Goes (fed ∷ feds) c x d y = (a b : Connection) × (still a ≡ still c) × Feeds a x (Ok fed) b × Goes feds b (drop fed.used x) d y

-- the fault, if there is one
abbrev pub fault_in : {A : Type 0} → Result A SlotFault → Option SlotFault
fault_in (Ok done) = None
fault_in (Err e) = Some e

-- a feed of what is not fed yet returned the fault; else no feed returned one
abbrev pub Ran : Option SlotFault → List Fed → Connection → List ℕ → Connection → List ℕ → Type 0
Ran None feds c x d y = Goes feds c x d y
Ran (Some (fault.Conn e)) feds c x d y = (m n : Connection) × Goes feds c x m y × Feeds m y (Err e) n × (still d ≡ still n)
Ran (Some (fault.Refused e)) feds c x d y = Goes feds c x d y
Ran (Some fault.Read) feds c x d y = Goes feds c x d y
Ran (Some fault.Write) feds c x d y = Goes feds c x d y
Ran (Some fault.EndOfInput) feds c x d y = Goes feds c x d y
Ran (Some fault.TimedOut) feds c x d y = Goes feds c x d y

-- what the entries that the feeds added return
abbrev pub given_by : List Fed → List Given
given_by [] = []
given_by (fed ∷ feds) = cond fed.stepped (fed.given ∷ given_by feds) (given_by feds)

-- What was read is fed from its front on, and the handler took what that returned: nothing is lost, and nothing is
-- fed twice.
pub record FeedsOn (why : Option SlotFault) (c : Connection) (x : List ℕ) (told : Option (List Given)) (d : Connection) (y : List ℕ) (told' : Option (List Given)) : Type 0 where
  pub feds : List Fed
  pub ran : Ran why feds c x d y
  pub tells : AddsAll told told' (given_by feds)

-- no feed returned the fault
abbrev pub IsNoFeeds : Option SlotFault → Type 0
IsNoFeeds None = Unit {0}
IsNoFeeds (Some (fault.Conn e)) = ⊥
IsNoFeeds (Some (fault.Refused e)) = Unit {0}
IsNoFeeds (Some fault.Read) = Unit {0}
IsNoFeeds (Some fault.Write) = Unit {0}
IsNoFeeds (Some fault.EndOfInput) = Unit {0}
IsNoFeeds (Some fault.TimedOut) = Unit {0}
