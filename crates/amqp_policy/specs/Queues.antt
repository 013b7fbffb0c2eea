-- Messages in memory, by address: the first queue that was made first, in each queue the first message first.
use Rattle.std.specs.Prelude.{ℕ, ◌==◌, ◌++◌, not, Bool, true, cond, length, set, remove, slice_get, nat_eq, nat_le, Option, Some, None, List, [], ◌∷◌, sum_by}
use Rattle.std.specs.List.{position}
use Rattle.std.specs.Cmp.Lexicographic.{pointwise}
use Rattle.amqp_policy.specs.declared.queues.Queued.{Queued}

pub record QueueView : Type 0 where
  pub address : List ℕ
  pub messages : List Queued

pub record QueuesView : Type 0 where
  pub limit : ℕ
  pub queues : List QueueView

abbrev pub no_queues : ℕ → QueuesView
no_queues limit = record { limit = limit; queues = [] }

-- how many messages all queues hold together
abbrev pub total : List QueueView → ℕ
total qs = sum_by (λ q. length q.messages) qs

abbrev pub has_address : List ℕ → QueueView → Bool
has_address address q = pointwise nat_eq q.address address

-- the place of the queue with this address
abbrev pub place_of : List ℕ → QueuesView → Option ℕ
place_of address v = position (has_address address) v.queues

-- an empty one is behind the others, if there is none
abbrev pub placed_if : Option ℕ → List ℕ → QueuesView → QueuesView
placed_if None address v = record v { queues = v.queues ++ record { address = address; messages = [] } ∷ [] }
placed_if (Some place) address v = v

abbrev pub placed : List ℕ → QueuesView → QueuesView
placed address v = placed_if (place_of address v) address v

-- one queue has these messages from now on
abbrev pub with_messages : Option QueueView → ℕ → (List Queued → List Queued) → QueuesView → QueuesView
with_messages None place change v = v
with_messages (Some q) place change v = record v { queues = set v.queues place (record q { messages = change q.messages }) }

abbrev pub changed : ℕ → (List Queued → List Queued) → QueuesView → QueuesView
changed place change v = with_messages (slice_get v.queues place) place change v

abbrev pub after_put : ℕ → Queued → QueuesView → QueuesView
after_put place message v = changed place (λ ms. ms ++ message ∷ []) v

abbrev pub after_put_back : ℕ → Queued → QueuesView → QueuesView
after_put_back place message v = changed place (λ ms. message ∷ ms) v

abbrev pub after_clear : ℕ → QueuesView → QueuesView
after_clear place v = changed place (λ ms. []) v

-- # Taking messages

abbrev pub is_not : ℕ → Option ℕ → Bool
is_not taker None = true
is_not taker (Some excluded) = not (excluded == taker)

abbrev pub is_for : ℕ → Queued → Bool
is_for taker m = is_not taker m.excluded

-- it has at most so many octets
abbrev pub if_short : ℕ → ℕ → List Queued → Option Queued → Option ℕ
if_short longest place ms None = None
if_short longest place ms (Some m) = cond (nat_le (length m.payload) longest) (Some place) None

abbrev pub short_at : ℕ → List Queued → Option ℕ → Option ℕ
short_at longest ms None = None
short_at longest ms (Some place) = if_short longest place ms (slice_get ms place)

-- the place of the first message that goes to this taker, if it is short enough
abbrev pub next_place : ℕ → ℕ → List Queued → Option ℕ
next_place longest taker ms = short_at longest ms (position (is_for taker) ms)

abbrev pub of_queue : Option QueueView → List Queued
of_queue None = []
of_queue (Some q) = q.messages

abbrev pub messages_at : ℕ → QueuesView → List Queued
messages_at place v = of_queue (slice_get v.queues place)

abbrev pub message_at : ℕ → ℕ → QueuesView → Option Queued
message_at place at v = slice_get (messages_at place v) at

abbrev pub message_of : List Queued → Option ℕ → Option Queued
message_of ms None = None
message_of ms (Some at) = slice_get ms at

abbrev pub next_of : ℕ → ℕ → ℕ → QueuesView → Option Queued
next_of place longest taker v = let ms = messages_at place v in message_of ms (next_place longest taker ms)

abbrev pub removed : Option ℕ → List Queued → List Queued
removed None ms = ms
removed (Some at) ms = remove ms at

abbrev pub after_next : ℕ → ℕ → ℕ → QueuesView → QueuesView
after_next place longest taker v = changed place (λ ms. removed (next_place longest taker ms) ms) v
