-- What becomes of messages that were sent: what an outcome does, and what a link that ends gives back.
use Rattle.std.specs.Prelude.{ℕ, ◌+◌, ◌==◌, ◌&&◌, not, Bool, true, cond, min, Option, Some, None, List, [], ◌∷◌}
use Rattle.amqp_policy.specs.declared.queues.Queued.{Queued}
use Rattle.amqp_policy.specs.Queues.{QueuesView, after_put_back}
use Rattle.amqp_policy.specs.declared.outcome.AfterOutcome.{AfterOutcome}
use Rattle.amqp_policy.specs.declared.outcome.AfterOutcome.TheVariants.{Finished, Returned, Pending}
use Rattle.amqp_serve.specs.declared.returning.Sending.{Sending}

-- # An outcome

-- one attempt more has failed
abbrev pub counted : Bool → Queued → Queued
counted has_failed m = cond has_failed (record m { delivery_count = min (m.delivery_count + 1) 4294967295 }) m

-- it does not go to this taker again
abbrev pub kept_from : Bool → ℕ → Queued → Queued
kept_from is_elsewhere taker m = cond is_elsewhere (record m { excluded = Some taker }) m

abbrev pub returned : Bool → Bool → ℕ → Queued → Queued
returned has_failed is_elsewhere taker m = kept_from is_elsewhere taker (counted has_failed m)

-- a copy is never put back, since the message itself is still there
abbrev pub put_back_if : Bool → Sending → Queued → Option Sending
put_back_if is_copy s m = cond is_copy None (Some (record s { message = m }))

-- what goes back to its queue, if anything does
abbrev pub after_end : AfterOutcome → ℕ → Sending → Option Sending
after_end Finished taker s = None
after_end Pending taker s = None
after_end (Returned has_failed is_elsewhere) taker s = put_back_if s.is_copy s (returned has_failed is_elsewhere taker s.message)

-- # A link that ends

-- it was sent on this link, or on any if none is named
abbrev pub is_on : Option ℕ → Sending → Bool
is_on None s = true
is_on (Some link) s = s.link == link

abbrev pub goes_back : Option ℕ → Sending → Bool
goes_back link s = is_on link s && not s.is_copy

abbrev pub stays : Option ℕ → Sending → Bool
stays link s = not (is_on link s)

-- a copy is left out
abbrev pub not_if_copy : Sending → List Sending
not_if_copy s = cond s.is_copy [] (s ∷ [])

abbrev pub has_id : ℕ → Sending → Bool
has_id id s = s.id == id

-- # Back in the queues

-- all are in front of their queues, in their order: the first one is first
unfoldable pub restored : List Sending → QueuesView → QueuesView
restored [] v = v
restored (s ∷ ss) v = after_put_back s.place s.message (restored ss v)
