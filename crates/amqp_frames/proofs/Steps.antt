-- One field more.
use Rattle.std.proofs.Common.{◌≡◌, ◌≤◌, ◌+◌, ℕ, Option, Some, None, List, [], ◌∷◌, ◌++◌, length, take, drop, refl, sym, ap, ◌∙◌, arith, length-append, append_assoc, append-nil}
use Rattle.std.proofs.lemmas.List.{take_at, take-append-drop, take-append-le, length-take-le}
use Rattle.amqp_frames.specs.Plain.{full, before_others, trim, Holds}

more_none : (os : List (Option (List ℕ))) (x : List ℕ) → before_others (os ++ Some x ∷ []) ≡ None ∷ (os ++ Some x ∷ [])
more_none [] x = refl
more_none (o ∷ os) x = refl

pub trim_some : (os : List (Option (List ℕ))) (x : List ℕ) → trim (os ++ Some x ∷ []) ≡ os ++ Some x ∷ []
trim_some [] x = refl
trim_some (Some y ∷ os) x = ap (λ t. Some y ∷ t) (trim_some os x)
trim_some (None ∷ os) x = ap before_others (trim_some os x) ∙ more_none os x

pub trim_none : (os : List (Option (List ℕ))) → trim (os ++ None ∷ []) ≡ trim os
trim_none [] = refl
trim_none (Some y ∷ os) = ap (λ t. Some y ∷ t) (trim_none os)
trim_none (None ∷ os) = ap before_others (trim_none os)

pub full_some : (os : List (Option (List ℕ))) (x : List ℕ) → full (os ++ Some x ∷ []) ≡ full os ++ x
full_some [] x = append-nil x
full_some (Some y ∷ os) x = ap (λ t. y ++ t) (full_some os x) ∙ sym (append_assoc y (full os) x)
full_some (None ∷ os) x = ap (λ t. 0x40 ∷ t) (full_some os x)

pub full_none : (os : List (Option (List ℕ))) → full (os ++ None ∷ []) ≡ full os ++ 0x40 ∷ []
full_none [] = refl
full_none (Some y ∷ os) = ap (λ t. y ++ t) (full_none os) ∙ sym (append_assoc y (full os) (0x40 ∷ []))
full_none (None ∷ os) = ap (λ t. 0x40 ∷ t) (full_none os)

pub length_snoc : (os : List (Option (List ℕ))) (o : Option (List ℕ)) → length (os ++ o ∷ []) ≡ length os + 1
length_snoc os o = length-append os (o ∷ [])

-- a field that is present
pub holds_some : (front old new x : List ℕ) (at end count at' number : ℕ) (os : List (Option (List ℕ))) → Holds front old at end count os → take at' new ≡ take at old ++ x → at' ≤ length new → at ≤ at' → number ≡ length os + 1 → Holds front new at' at' number (os ++ Some x ∷ [])
holds_some front old new x at end count at' number os h e i m n =
    let all : take at' new ≡ front ++ full (os ++ Some x ∷ []) = e ∙ ap (λ t. t ++ x) h.all ∙ append_assoc front (full os) x ∙ ap (λ t. front ++ t) (sym (full_some os x)) in
    record {
      low = let l = h.low in let o = h.order in omega arith;
      order = omega arith;
      inside = i;
      all = all;
      shown = all ∙ ap (λ t. front ++ full t) (sym (trim_some os x));
      counted = n ∙ sym (length_snoc os (Some x)) ∙ ap length (sym (trim_some os x));
    }

pub less : (end at : ℕ) (xs : List ℕ) → end ≤ at → at ≤ length xs → take end (take at xs) ≡ take end xs
less end at xs l i = sym (take-append-le end (take at xs) (drop at xs) (omega (arith, length-take-le at xs i))) ∙ ap (take end) (take-append-drop at xs)

-- what was written before stands
kept : (old new x : List ℕ) (at end at' : ℕ) → end ≤ at → at ≤ length old → at ≤ at' → at' ≤ length new → take at' new ≡ take at old ++ x → take end new ≡ take end old
kept old new x at end at' l i m j e =
    sym (less end at' new (omega arith) j) ∙ ap (take end) e ∙ take-append-le end (take at old) x (omega (arith, length-take-le at old i)) ∙ less end at old l i

-- one that is absent
pub holds_none : (front old new : List ℕ) (at end count at' : ℕ) (os : List (Option (List ℕ))) → Holds front old at end count os → take at' new ≡ take at old ++ 0x40 ∷ [] → at' ≤ length new → at ≤ at' → Holds front new at' end count (os ++ None ∷ [])
holds_none front old new at end count at' os h e i m =
    record {
      low = h.low;
      order = let o = h.order in omega arith;
      inside = i;
      all = e ∙ ap (λ t. t ++ 0x40 ∷ []) h.all ∙ append_assoc front (full os) (0x40 ∷ []) ∙ ap (λ t. front ++ t) (sym (full_none os));
      shown = kept old new (0x40 ∷ []) at end at' h.order h.inside m i e ∙ h.shown ∙ ap (λ t. front ++ full t) (sym (trim_none os));
      counted = h.counted ∙ ap length (sym (trim_none os));
    }

pub at_start : (head : List ℕ) → 14 ≤ length head → Holds (take 14 head) head 14 14 0 []
at_start head l = record { low = omega arith; order = omega arith; inside = l; all = sym (append-nil (take 14 head)); shown = sym (append-nil (take 14 head)); counted = refl }

-- the octets in front stand
pub front_same : (end : ℕ) (new front x : List ℕ) → take end new ≡ front ++ x → length front ≡ 14 → 14 ≤ end → end ≤ length new → take end new ≡ take 14 new ++ x
front_same end new front x t l low high =
    let f : take 14 new ≡ front = sym (less 14 end new low high) ∙ ap (take 14) t ∙ take_at front x 14 l in
    t ∙ ap (λ y. y ++ x) (sym f)
