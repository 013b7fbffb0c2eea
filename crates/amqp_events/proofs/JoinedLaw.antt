-- The deliveries of a link, as formulas over all its transfers and as single changes.
use Rattle.std.proofs.Common.{◌≡◌, Bool, true, false, cond, not, None, Some, List, [], ◌∷◌, ◌++◌, filter, reverse, drop, ℕ, ◌≤◌, length, refl, sym, append-nil, drop-drop, ◌+◌}
use Rattle.std.proofs.lemmas.List.{reverse-append, drop-append-le}
use Rattle.amqp_events.specs.Joined.{Transferred, Status, Open, Complete, Aborted, Delivery, first_of, and_more, goes_on, is_given, with_transfer, joined, unfinished_of, unfinished, complete, ready, next_delivery, next_unfinished, completed}

-- the newest delivery after the transfer, and those that are then complete
newest : (t : Transferred) (ds : List Delivery) → unfinished_of (with_transfer t ds) ≡ next_unfinished t (unfinished_of ds)
newest t [] = refl
newest t (d ∷ ds) = by_test (goes_on d)
  where
    by_test : (b : Bool) → unfinished_of (cond b (and_more t d ∷ ds) (first_of t ∷ d ∷ ds)) ≡ next_unfinished t (cond b (Some d) None)
    by_test true = refl
    by_test false = refl

pub unfinished-step : (t : Transferred) (past : List Transferred) → unfinished (t ∷ past) ≡ next_unfinished t (unfinished past)
unfinished-step t past = newest t (joined past)

one-front : {A : Type 0} (b : Bool) (x : A) (xs : List A) → reverse (cond b (x ∷ xs) xs) ≡ reverse xs ++ cond b (x ∷ []) []
one-front true x xs = reverse-append (x ∷ []) xs
one-front false x xs = sym (append-nil (reverse xs))

abbrev made : Delivery → Status → Delivery
made d status = record d { status = status }

-- by the newest delivery's status
after-one : (t : Transferred) (ds : List Delivery) (d : Delivery) (status : Status)
    → reverse (filter is_given (with_transfer t (made d status ∷ ds)))
    ≡ reverse (filter is_given (made d status ∷ ds)) ++ completed (next_delivery t (unfinished_of (made d status ∷ ds)))
after-one t ds d Open = one-front (is_given (and_more t (made d Open))) (and_more t (made d Open)) (filter is_given ds)
after-one t ds d Complete = one-front (is_given (first_of t)) (first_of t) (cond (not d.resumed) (made d Complete ∷ filter is_given ds) (filter is_given ds))
after-one t ds d Aborted = one-front (is_given (first_of t)) (first_of t) (filter is_given ds)

after-all : (t : Transferred) (ds : List Delivery)
    → reverse (filter is_given (with_transfer t ds)) ≡ reverse (filter is_given ds) ++ completed (next_delivery t (unfinished_of ds))
after-all t [] = one-front (is_given (first_of t)) (first_of t) []
after-all t (d ∷ ds) = after-one t ds d d.status

pub complete-step : (t : Transferred) (past : List Transferred) → complete (t ∷ past) ≡ complete past ++ completed (next_delivery t (unfinished past))
complete-step t past = after-all t (joined past)

-- a transfer makes the delivery that it completes ready, after the others
pub ready-step : (taken : ℕ) (t : Transferred) (past : List Transferred) → taken ≤ length (complete past)
    → ready taken (t ∷ past) ≡ ready taken past ++ completed (next_delivery t (unfinished past))
ready-step taken t past few = rw (complete-step t past) (drop-append-le taken (complete past) (completed (next_delivery t (unfinished past))) few)

-- the application takes the first
pub take-step : (taken : ℕ) (past : List Transferred) → ready (taken + 1) past ≡ drop 1 (ready taken past)
take-step taken past = sym (drop-drop 1 taken (complete past))
