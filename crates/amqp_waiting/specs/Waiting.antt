-- The deliveries that wait on a link to be resumed (part 2, 2.6.13): by tag, each with our state, what becomes of it and the peer's state.
use Rattle.std.specs.Prelude.{ℕ, ◌||◌, not, Bool, false, cond, Option, None, Some, List, [], ◌∷◌, find, filter, filter_map, is_some, nat_eq}
use Rattle.std.specs.List.{list_any}
use Rattle.std.specs.Cmp.Lexicographic.{pointwise}
use Rattle.amqp_performatives.specs.declared.bodies.Role.{Role}
use Rattle.amqp_performatives.specs.declared.bodies.Role.TheVariants.{Sender, Receiver}
use Rattle.amqp_performatives.specs.declared.state.DeliveryState.{DeliveryState}
use Rattle.amqp_performatives.specs.declared.state.DeliveryState.TheVariants.{Received, Accepted, Rejected, Released, Modified, Other}
use Rattle.amqp_waiting.specs.declared.item.Verdict.{Verdict}
use Rattle.amqp_waiting.specs.declared.item.Verdict.TheVariants.{Unclear, Absent, Partial, Held, Outcome}
use Rattle.amqp_waiting.specs.declared.item.SuspendedItem.{SuspendedItem}
use Rattle.amqp_waiting.specs.declared.peer.Told.{Told}
use Rattle.amqp_waiting.specs.declared.peer.Unsettled.{Unsettled}

-- a delivery that waits
pub record WaitingItem : Type 0 where
  pub tag : List ℕ
  -- our state of it
  pub state : Option DeliveryState
  pub verdict : Verdict
  -- the peer's state of it, as its attach told
  pub theirs : Option DeliveryState

abbrev pub same_tag : List ℕ → List ℕ → Bool
same_tag a b = pointwise nat_eq a b

abbrev pub waits_as : List ℕ → WaitingItem → Bool
waits_as tag w = same_tag tag w.tag

-- a delivery with the tag waits
abbrev pub waits : List ℕ → List WaitingItem → Bool
waits tag ws = list_any (waits_as tag) ws

-- before both attaches are there nothing is known of it
abbrev pub unclear : SuspendedItem → WaitingItem
unclear i = record { tag = i.tag; state = i.state; verdict = Unclear; theirs = None }

-- two items have one tag
abbrev pub has_twice : List SuspendedItem → Bool
has_twice [] = false
has_twice (i ∷ is) = list_any (λ j. same_tag i.tag j.tag) is || has_twice is

-- # When both attaches are there

-- what the peer told of the tag: of equal tags the first counts
abbrev pub told_of : List ℕ → Unsettled → Option Told
told_of tag u = find (λ t. same_tag tag t.tag) u.told

abbrev pub verdict_by : Option DeliveryState → Verdict
verdict_by None = Held
verdict_by (Some (Received section_number section_offset)) = Partial
verdict_by (Some (Other v)) = Held
verdict_by (Some Accepted) = Outcome
verdict_by (Some (Rejected e)) = Outcome
verdict_by (Some Released) = Outcome
verdict_by (Some (Modified delivery_failed undeliverable_here message_annotations)) = Outcome

-- of a delivery that we sent: what the peer did not tell is absent, unless it did not tell all
abbrev pub sender_verdict : Bool → Option Told → Verdict
sender_verdict incomplete None = cond incomplete Unclear Absent
sender_verdict incomplete (Some t) = verdict_by t.state

abbrev pub state_told : Option Told → Option DeliveryState
state_told None = None
state_told (Some t) = t.state

abbrev pub with_verdict : Verdict → Option DeliveryState → WaitingItem → WaitingItem
with_verdict verdict theirs w = record w { verdict = verdict; theirs = theirs }

-- a delivery that we received waits on where the peer told it, or did not tell all
abbrev pub met_item : Role → Unsettled → WaitingItem → Option WaitingItem
met_item Sender u w = Some (with_verdict (sender_verdict u.incomplete (told_of w.tag u)) (state_told (told_of w.tag u)) w)
met_item Receiver u w = cond (is_some (told_of w.tag u) || u.incomplete) (Some (with_verdict Held (state_told (told_of w.tag u)) w)) None

abbrev pub met : Role → Unsettled → List WaitingItem → List WaitingItem
met role u ws = filter_map (met_item role u) ws

-- the delivery with the tag waits no longer
abbrev pub without : List ℕ → List WaitingItem → List WaitingItem
without tag ws = filter (λ w. not (waits_as tag w)) ws

-- as it is put aside again
abbrev pub suspended_as : WaitingItem → SuspendedItem
suspended_as w = record { tag = w.tag; state = w.state }
