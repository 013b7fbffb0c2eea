-- Octets that go out: what was popped comes in front of what waits.
use Rattle.std.proofs.Common.{◌≡◌, ◌+◌, ℕ, zero, suc, List, [], ◌∷◌, ◌++◌, take, drop, length, min, Some, sym, ap, ◌∙◌, subst, arith, append_assoc, append-nil, ◌≤◌, ◌<◌, ◌-◌, ◌==◌}
use Rattle.std.specs.Bool.{IsTrue}
use Rattle.std.proofs.Math.Facts.{eqb_yes}
use Rattle.std.proofs.lemmas.Bool.{eq-eqb}
use Rattle.std.proofs.Math.Dec.{T}
use Rattle.std.proofs.Math.ListN.{drop_of_length-le}
use Rattle.std.proofs.Math.Seq.{drop-append-add}
use Rattle.std.proofs.lemmas.List.{drop-append-le, drop-drop, drop_min, length-drop, take-append-drop, take-append-le}
use Rattle.std.specs.List.{slice_get}
use Rattle.amqp_journal.specs.Units.{units}
use Rattle.amqp_conn.specs.Connection.{Connection}
use Rattle.amqp_conn.specs.Calling.{popped}
use Rattle.amqp_conn.specs.Pumping.{joined}
use Rattle.amqp_caller.specs.Calls.{to_come}

left-one : (us : List (List ℕ)) (n : ℕ) (x : List ℕ) → slice_get us n ≡ Some x → joined (drop n us) ≡ x ++ joined (drop (n + 1) us)
left-one us n x e = let k : n + 1 ≡ suc n = omega arith in by us n e ∙ ap (λ m. x ++ joined (drop m us)) (sym k)
  where
    by : (vs : List (List ℕ)) (i : ℕ) → slice_get vs i ≡ Some x → joined (drop i vs) ≡ x ++ joined (drop (suc i) vs)
    by [] i h = absurd cc
    by (v ∷ vs) zero h = let same : v ≡ x = cc in ap (λ y. y ++ joined vs) same
    by (v ∷ vs) (suc i) h = by vs i h

pub pops : (c d : Connection) (x : List ℕ) → slice_get (units c.core.log) c.core.log.popped ≡ Some x → d ≡ popped c → to_come c ≡ x ++ to_come d
pops c d x e p = left-one (units c.core.log) c.core.log.popped x e ∙ ap (λ k. x ++ to_come k) (sym p)

pub gives : (n : ℕ) (room left left' later : List ℕ) → take n room ++ left' ≡ left → take n room ++ (left' ++ later) ≡ left ++ later
gives n room left left' later e = sym (append_assoc (take n room) left' later) ∙ ap (λ y. y ++ later) e

-- # Octets that are given of a unit

whole-drop : (i : ℕ) (xs : List ℕ) → take (length xs - i) (drop i xs) ≡ drop i xs
whole-drop i xs =
    sym (append-nil (take (length xs - i) (drop i xs)))
    ∙ ap (λ y. take (length xs - i) (drop i xs) ++ y) (sym (drop_of_length-le (drop i xs) (omega (arith, length-drop i xs))))
    ∙ take-append-drop (length xs - i) (drop i xs)

pub in-front : (from : ℕ) (head rest : List ℕ) → from < length head → (more : List ℕ) × (take (length head - from) (drop from head) ++ more ≡ drop from (head ++ rest))
in-front from head rest inside = (rest, ap (λ y. y ++ rest) (whole-drop from head) ∙ sym (drop-append-le from head rest (omega arith)))

pub behind : (from : ℕ) (head rest : List ℕ) → length head ≤ from
    → (more : List ℕ) × (take (length rest - (from - length head)) (drop (from - length head) rest) ++ more ≡ drop from (head ++ rest))
behind from head rest past =
    let n = from - length head in let is : length head + n ≡ from = omega arith in
    ([], append-nil (take (length rest - n) (drop n rest)) ∙ whole-drop n rest ∙ sym (drop-append-add head rest n) ∙ ap (λ m. drop m (head ++ rest)) is)

-- octets that are in front were copied, and are left out
pub given-front : (count : ℕ) (piece more room left : List ℕ) → count ≤ length piece → piece ++ more ≡ left → take count room ≡ take count piece → take count room ++ drop count left ≡ left
given-front count piece more room left some whole copied =
    ap (λ y. y ++ drop count left) (copied ∙ sym (take-append-le count piece more some) ∙ ap (take count) whole) ∙ take-append-drop count left

-- so many octets are left out, or all
pub skips : (from count n : ℕ) (bytes left : List ℕ) → n ≡ length bytes → drop from bytes ≡ left → drop (from + min count (n - from)) bytes ≡ drop count left
skips from count n bytes left long is =
    sym (drop-drop (min count (n - from)) from bytes)
    ∙ ap (λ k. drop (min count k) (drop from bytes)) (ap (λ k. k - from) long ∙ sym (length-drop from bytes))
    ∙ drop_min count (drop from bytes)
    ∙ ap (drop count) is

pub is-over : (from n : ℕ) (bytes left : List ℕ) → n ≡ length bytes → from ≤ length bytes → drop from bytes ≡ left → (IsTrue (from == n) → left ≡ []) × (left ≡ [] → IsTrue (from == n))
is-over from n bytes left long low is = (
  (λ t. sym is ∙ drop_of_length-le bytes (omega (arith, long, eqb_yes {a = from} {b = n} (subst T (sym t) tt)))),
  (λ e. eq-eqb from n (omega (arith, long, low, length-drop from bytes, ap length is, ap length e))),
)

pub nothing-before : (left later : List ℕ) → left ≡ [] → later ≡ left ++ later
nothing-before left later e = ap (λ y. y ++ later) (sym e)
