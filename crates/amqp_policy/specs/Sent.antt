-- Which messages of a sender are in doubt (part 2, 2.6.13).
use Rattle.std.specs.Prelude.{ℕ, ◌+◌, ◌==◌, ◌&&◌, ◌++◌, not, Bool, true, false, cond, nat_lt, Option, Some, None, List, [], ◌∷◌, map, filter, set, slice_get, option_map}
use Rattle.std.specs.List.{list_any, position}
use Rattle.amqp_policy.specs.declared.outcome.Outcome.{Outcome}
use Rattle.amqp_policy.specs.declared.outcome.Outcomes.{Outcomes}
use Rattle.amqp_policy.specs.declared.sent.Doubt.{Doubt}
use Rattle.amqp_policy.specs.declared.sent.Begun.{Begun}
use Rattle.amqp_policy.specs.declared.sent.Begun.TheVariants.{Number, Unresolved, NoNumber}
use Rattle.amqp_policy.specs.Outcome.{counted}

pub record Sent (M : Type 0) : Type 0 where
  -- the number of the message that begins next
  pub next : ℕ
  -- those in doubt, in the order in which they began
  pub doubts : List (Doubt M)
  pub outcomes : Outcomes

abbrev pub none : {M : Type 0} → Sent M
none = record { next = 0; doubts = []; outcomes = record { accepted = 0; rejected = 0; released = 0; modified = 0; unknown = 0 } }

abbrev pub is_of : {M : Type 0} → ℕ → Doubt M → Bool
is_of number d = d.number == number

abbrev pub is_in_doubt : {M : Type 0} → ℕ → List (Doubt M) → Bool
is_in_doubt number ds = list_any (is_of number) ds

abbrev pub without : {M : Type 0} → ℕ → List (Doubt M) → List (Doubt M)
without number ds = filter (λ d. not (is_of number d)) ds

-- it was brought in, and is not resolved
abbrev pub is_unresolved : {M : Type 0} → ℕ → Doubt M → Bool
is_unresolved number d = is_of number d && d.is_brought

-- none that was brought in is unresolved
abbrev pub all_resolved : {M : Type 0} → List (Doubt M) → Bool
all_resolved ds = not (list_any (λ d. d.is_brought) ds)

-- the number of one of those that are unresolved, in the order in which they began
abbrev pub brought_number : {M : Type 0} → ℕ → List (Doubt M) → Option ℕ
brought_number place ds = option_map (λ d. d.number) (slice_get (filter (λ d. d.is_brought) ds) place)

abbrev pub may_begin : {M : Type 0} → Sent M → Bool
may_begin s = nat_lt s.next 4294967295 && all_resolved s.doubts

-- # What the calls do

abbrev pub begun_of : {M : Type 0} → Sent M → Begun
begun_of s = cond (all_resolved s.doubts) (cond (nat_lt s.next 4294967295) (Number s.next) NoNumber) Unresolved

abbrev pub with_begun : {M : Type 0} → M → Sent M → Sent M
with_begun kept s = record s { next = s.next + 1; doubts = s.doubts ++ record { number = s.next; is_brought = false; kept = kept } ∷ [] }

abbrev pub after_begin : {M : Type 0} → M → Sent M → Sent M
after_begin kept s = cond (may_begin s) (with_begun kept s) s

abbrev pub with_ended : {M : Type 0} → ℕ → Outcome → Sent M → Sent M
with_ended number outcome s = record s { doubts = without number s.doubts; outcomes = counted outcome s.outcomes }

abbrev pub after_end : {M : Type 0} → ℕ → Outcome → Sent M → Sent M
after_end number outcome s = cond (is_in_doubt number s.doubts) (with_ended number outcome s) s

abbrev pub brought : {M : Type 0} → Doubt M → Doubt M
brought d = record d { is_brought = true }

abbrev pub all_brought : {M : Type 0} → List (Doubt M) → List (Doubt M)
all_brought ds = map brought ds

abbrev pub after_bring : {M : Type 0} → Sent M → Sent M
after_bring s = record s { doubts = all_brought s.doubts }

abbrev pub resolved_if : {M : Type 0} → ℕ → Doubt M → Doubt M
resolved_if number d = cond (is_of number d) (record d { is_brought = false }) d

abbrev pub resolved : {M : Type 0} → ℕ → List (Doubt M) → List (Doubt M)
resolved number ds = map (resolved_if number) ds

abbrev pub after_resolve : {M : Type 0} → ℕ → Sent M → Sent M
after_resolve number s = record s { doubts = resolved number s.doubts }

abbrev pub with_kept : {M : Type 0} → Option (Doubt M) → ℕ → M → List (Doubt M) → List (Doubt M)
with_kept None place kept ds = ds
with_kept (Some d) place kept ds = set ds place (record d { kept = kept })

abbrev pub kept_at : {M : Type 0} → Option ℕ → M → List (Doubt M) → List (Doubt M)
kept_at None kept ds = ds
kept_at (Some place) kept ds = with_kept (slice_get ds place) place kept ds

-- of the message with this number something else is kept
abbrev pub keeping : {M : Type 0} → ℕ → M → List (Doubt M) → List (Doubt M)
keeping number kept ds = kept_at (position (is_of number) ds) kept ds

abbrev pub after_keep : {M : Type 0} → ℕ → M → Sent M → Sent M
after_keep number kept s = record s { doubts = keeping number kept s.doubts }
