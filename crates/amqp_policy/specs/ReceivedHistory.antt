-- What the calls on a receiver's messages did, one after another. Lists have the newest first.
use Rattle.std.specs.Prelude.{ℕ, ◌≡◌, ◌||◌, ◌&&◌, ◌++◌, not, Bool, false, List, [], ◌∷◌}
use Rattle.amqp_policy.specs.Outcome.{one_more}
use Rattle.amqp_policy.specs.Received.{Received, none, same_tag, has_tag, after_take, after_settle, after_bring, after_confirm, after_mark, after_keep, after_tell, after_pop_brought, after_pop_told}

pub data ReceivedCall : Type 0 where
  Take : List ℕ → ℕ → ReceivedCall
  Settle : List ℕ → ReceivedCall
  Bring : ReceivedCall
  Confirm : ReceivedCall
  SetMark : ℕ → ReceivedCall
  PopBrought : ReceivedCall
  PopTold : ReceivedCall
  Keep : List ℕ → ReceivedCall
  Tell : List ℕ → ReceivedCall

pub data ReceivedEvent : Type 0 where
  -- a message with this tag is taken
  Taken : List ℕ → ReceivedEvent
  -- its sender asks no more about it
  Settled : List ℕ → ReceivedEvent
  -- it is in doubt after all
  PutBack : List ℕ → ReceivedEvent

abbrev pub after_call : ReceivedCall → Received → Received
after_call (Take tag octets) r = after_take tag octets r
after_call (Settle tag) r = after_settle tag r
after_call Bring r = after_bring r
after_call Confirm r = after_confirm r
after_call (SetMark left) r = after_mark left r
after_call PopBrought r = after_pop_brought r
after_call PopTold r = after_pop_told r
after_call (Keep tag) r = after_keep tag r
after_call (Tell tag) r = after_tell tag r

abbrev pub state_after : List ReceivedCall → Received
state_after [] = none
state_after (call ∷ before) = after_call call (state_after before)

abbrev pub settled_first : List (List ℕ) → List ReceivedEvent
settled_first [] = []
settled_first (tag ∷ tags) = Settled tag ∷ []

abbrev pub event_of : ReceivedCall → Received → List ReceivedEvent
event_of (Take tag octets) r = Taken tag ∷ []
event_of (Settle tag) r = Settled tag ∷ []
event_of Bring r = []
event_of Confirm r = []
event_of (SetMark left) r = []
event_of PopBrought r = settled_first r.brought
event_of PopTold r = settled_first r.told
event_of (Keep tag) r = PutBack tag ∷ []
event_of (Tell tag) r = PutBack tag ∷ []

abbrev pub events_of : List ReceivedCall → List ReceivedEvent
events_of [] = []
events_of (call ∷ before) = event_of call (state_after before) ++ events_of before

-- # Of a history

-- it was taken, and not settled since
abbrev pub is_in_doubt : List ℕ → List ReceivedEvent → Bool
is_in_doubt tag [] = false
is_in_doubt tag (Taken t ∷ past) = same_tag t tag || is_in_doubt tag past
is_in_doubt tag (Settled t ∷ past) = not (same_tag t tag) && is_in_doubt tag past
is_in_doubt tag (PutBack t ∷ past) = same_tag t tag || is_in_doubt tag past

-- how many messages were taken
abbrev pub takings : List ReceivedEvent → ℕ
takings [] = 0
takings (Taken t ∷ past) = one_more (takings past)
takings (Settled t ∷ past) = takings past
takings (PutBack t ∷ past) = takings past

-- no tag is there twice
abbrev pub HasNoTwo : List (List ℕ) → Type 0
HasNoTwo [] = Unit {0}
HasNoTwo (tag ∷ tags) = (has_tag tag tags ≡ false) × HasNoTwo tags
