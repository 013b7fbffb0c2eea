-- What the calls on a sender's messages did, one after another. Lists have the newest first.
use Rattle.std.specs.Prelude.{ℕ, ◌≡◌, ◌==◌, ◌&&◌, ◌++◌, not, Bool, true, false, cond, List, [], ◌∷◌}
use Rattle.std.specs.List.{list_any}
use Rattle.amqp_policy.specs.declared.outcome.Outcome.{Outcome}
use Rattle.amqp_policy.specs.Sent.{Sent, none, is_in_doubt, may_begin, after_begin, after_end, after_bring, after_resolve, after_keep}

pub data SentCall (M : Type 0) : Type 0 where
  Begin : M → SentCall M
  End : ℕ → Outcome → SentCall M
  Bring : SentCall M
  Resolve : ℕ → SentCall M
  Keep : ℕ → M → SentCall M

pub data SentEvent : Type 0 where
  -- the message with this number begins
  Begun : ℕ → SentEvent
  -- its outcome is counted
  Ended : ℕ → Outcome → SentEvent
  -- another connection begins
  Joined : SentEvent
  -- the peer's attach has decided what becomes of the message
  Resolved : ℕ → SentEvent

abbrev pub after_call : {M : Type 0} → SentCall M → Sent M → Sent M
after_call (Begin kept) s = after_begin kept s
after_call (End number outcome) s = after_end number outcome s
after_call Bring s = after_bring s
after_call (Resolve number) s = after_resolve number s
after_call (Keep number kept) s = after_keep number kept s

abbrev pub state_after : {M : Type 0} → List (SentCall M) → Sent M
state_after [] = none
state_after (call ∷ before) = after_call call (state_after before)

-- a call that changes nothing is no event
abbrev pub event_of : {M : Type 0} → SentCall M → Sent M → List SentEvent
event_of (Begin kept) s = cond (may_begin s) (Begun s.next ∷ []) []
event_of (End number outcome) s = cond (is_in_doubt number s.doubts) (Ended number outcome ∷ []) []
event_of Bring s = Joined ∷ []
event_of (Resolve number) s = Resolved number ∷ []
event_of (Keep number kept) s = []

abbrev pub events_of : {M : Type 0} → List (SentCall M) → List SentEvent
events_of [] = []
events_of (call ∷ before) = event_of call (state_after before) ++ events_of before

-- # Of a history

abbrev pub begins : ℕ → SentEvent → Bool
begins number (Begun n) = n == number
begins number _ = false

abbrev pub ends : ℕ → SentEvent → Bool
ends number (Ended n outcome) = n == number
ends number _ = false

abbrev pub has_begun : ℕ → List SentEvent → Bool
has_begun number past = list_any (begins number) past

abbrev pub has_ended : ℕ → List SentEvent → Bool
has_ended number past = list_any (ends number) past

-- it was in doubt when the last connection began, and has been neither resolved nor ended since
abbrev pub is_unresolved : ℕ → List SentEvent → Bool
is_unresolved number [] = false
is_unresolved number (Begun n ∷ past) = is_unresolved number past
is_unresolved number (Ended n outcome ∷ past) = not (n == number) && is_unresolved number past
is_unresolved number (Joined ∷ past) = has_begun number past && not (has_ended number past)
is_unresolved number (Resolved n ∷ past) = not (n == number) && is_unresolved number past

-- what is demanded of an event, by what came before it: a message begins once, while nothing is unresolved, and ends once, after it began
abbrev pub IsAllowed : SentEvent → List SentEvent → Type 0
IsAllowed (Begun number) past = (has_begun number past ≡ false) × ((n : ℕ) → is_unresolved n past ≡ false)
IsAllowed (Ended number outcome) past = (has_begun number past ≡ true) × (has_ended number past ≡ false)
IsAllowed Joined past = Unit {0}
IsAllowed (Resolved number) past = Unit {0}

abbrev pub IsLawful : List SentEvent → Type 0
IsLawful [] = Unit {0}
IsLawful (event ∷ past) = IsAllowed event past × IsLawful past
