-- Frames that were sent, by the places of their entries.
use Rattle.std.proofs.Common.{ℕ, ◌≡◌, ◌≤◌, ◌+◌, ◌==◌, Option, None, Some, List, [], ◌∷◌, ◌++◌, length, take, drop, reverse, arith, refl, sym, ap, ◌∙◌, subst, Bool, true, false, add-one}
use Rattle.std.specs.List.{slice_get}
use Rattle.std.proofs.lemmas.List.{reverse-append, take-append-drop, take-append-le, take_all}
use Rattle.std.proofs.lemmas.Option.{slice_get_within, get_or_from_slice_get}
use Rattle.std.proofs.Math.Seq.{take-suc}
use Rattle.std.proofs.lemmas.Bool.{eqb-true}
use Rattle.amqp_pair_laws.specs.Moves.{and_one, count, said_as}
use Rattle.amqp_pair_laws.proofs.Lag.{said-stays, and_one-grows}

by-bool : {P : Type 0} (b : Bool) → (b ≡ true → P) → (b ≡ false → P) → P
by-bool true t f = t refl
by-bool false t f = f refl

-- # Lists

-- backwards, the last is the first
pub back-one : {A : Type 0} (xs : List A) (x : A) → reverse (xs ++ x ∷ []) ≡ x ∷ reverse xs
back-one xs x = reverse-append xs (x ∷ [])

take-there : {A : Type 0} (xs : List A) (i : ℕ) (x : A) → slice_get xs i ≡ Some x → take (i + 1) xs ≡ take i xs ++ x ∷ []
take-there xs i x h =
    let inside = slice_get_within xs i x h in
    rw (add-one i) (take-suc xs i x inside ∙ ap (λ y. take i xs ++ y ∷ []) (get_or_from_slice_get xs i x x h))

pub back-there : {A : Type 0} (xs : List A) (i : ℕ) (x : A) → slice_get xs i ≡ Some x → reverse (take (i + 1) xs) ≡ x ∷ reverse (take i xs)
back-there xs i x h = ap reverse (take-there xs i x h) ∙ back-one (take i xs) x

back-parts : {A : Type 0} (xs : List A) (i : ℕ) → reverse xs ≡ reverse (drop i xs) ++ reverse (take i xs)
back-parts xs i = ap reverse (sym (take-append-drop i xs)) ∙ reverse-append (take i xs) (drop i xs)

-- # What is said

module _ {E F : Type 0} (says : E → Option F) where
  -- none as a number that so few do not reach
  pub none-said : (n : ℕ) (past : List E) → count says past ≤ n → said_as says n past ≡ None
  none-said n [] few = refl
  none-said n (e ∷ before) few =
      let grows : count says before ≤ and_one (says e) (count says before) = and_one-grows (says e) (count says before) in
      let rest : said_as says n before ≡ None = none-said n before (omega (arith, grows, few)) in
      by-bool (count says before == n)
      (λ (t : (count says before == n) ≡ true).
      let same : count says before ≡ n = eqb-true (count says before) n t in
      rw t (silent (says e) (subst (λ (k : ℕ). and_one (says e) k ≤ n) same few)))
      (λ (f : (count says before == n) ≡ false). rw f rest)
    where
      silent : (o : Option F) → and_one o n ≤ n → o ≡ None
      silent None few = refl
      silent (Some f) few = absurd (omega (arith, few))

  stays-behind : (n : ℕ) (more past : List E) (f : F) → said_as says n past ≡ Some f → said_as says n (more ++ past) ≡ Some f
  stays-behind n [] past f h = h
  stays-behind n (e ∷ more) past f h = said-stays says n (more ++ past) e f (stays-behind n more past f h)

  equal-true : (m n : ℕ) → m ≡ n → (m == n) ≡ true
  equal-true m n h = grind (arith, h)

  newest : (n : ℕ) (e : E) (past : List E) (f : F) → count says past ≡ n → says e ≡ Some f → said_as says n (e ∷ past) ≡ Some f
  newest n e past f h is = rw (equal-true (count says past) n h) is

  -- what the entry at a place says, by the number of what is said before it
  pub said-there : (n : ℕ) (xs : List E) (i : ℕ) (e : E) (f : F) → count says (reverse (take i xs)) ≡ n → slice_get xs i ≡ Some e → says e ≡ Some f → said_as says n (reverse xs) ≡ Some f
  said-there n xs i e f h there is =
      subst (λ (p : List E). said_as says n p ≡ Some f) (sym (back-parts xs (i + 1) ∙ ap (λ p. reverse (drop (i + 1) xs) ++ p) (back-there xs i e there)))
      (stays-behind n (reverse (drop (i + 1) xs)) (e ∷ reverse (take i xs)) f (newest n e (reverse (take i xs)) f h is))

  pub count-there : (xs : List E) (i : ℕ) (e : E) → slice_get xs i ≡ Some e → count says (reverse (take (i + 1) xs)) ≡ and_one (says e) (count says (reverse (take i xs)))
  count-there xs i e there = ap (count says) (back-there xs i e there)

  -- where the entry at the place says nothing
  pub count-past : (xs : List E) (i : ℕ) (e : E) → slice_get xs i ≡ Some e → says e ≡ None → count says (reverse (take (i + 1) xs)) ≡ count says (reverse (take i xs))
  count-past xs i e there none = count-there xs i e there ∙ ap (λ o. and_one o (count says (reverse (take i xs)))) none

  -- where no entry at the place or behind it says anything
  pub none-there : (n : ℕ) (xs : List E) (i : ℕ) → length xs ≤ i → count says (reverse (take i xs)) ≡ n → said_as says n (reverse xs) ≡ None
  none-there n xs i past h =
      let all : count says (reverse xs) ≡ n = ap (λ ys. count says (reverse ys)) (sym (take_all i xs past)) ∙ h in
      none-said n (reverse xs) (omega (arith, all))

  -- up to a place that is there, nothing changes by what comes behind
  pub count-stays : (xs more : List E) (i : ℕ) → i ≤ length xs → count says (reverse (take i (xs ++ more))) ≡ count says (reverse (take i xs))
  count-stays xs more i h = ap (λ ys. count says (reverse ys)) (take-append-le i xs more h)
