-- The links of each name, as links come, go and change.
use Rattle.std.proofs.Common.{◌≡◌, ◌<◌, ◌≤◌, ℕ, ◌+◌, ◌==◌, not, Bool, true, false, cond, Option, Some, List, [], ◌∷◌, ◌++◌, map, arith, refl, sym, ap, ◌∙◌, find, ⊎_elim}
use Rattle.std.proofs.lemmas.Bool.{cases_Bool, ne_eqb, eqb-true}
use Rattle.std.specs.List.{filter}
use Rattle.std.specs.Prelude.{nat_eq}
use Rattle.std.specs.Cmp.Lexicographic.{pointwise}
use Rattle.amqp_rules.specs.View.{LinkView, has_number, remove_first}
use Rattle.amqp_links.specs.Links.{AreNumbered}
use Rattle.amqp_links.specs.Names.{is_named, numbers_named}
use Rattle.amqp_links.specs.Index.{Indexed, indexed}

pub yes : {A : Type 0} (b : Bool) (x y : A) → b ≡ true → cond b x y ≡ x
yes b x y t = ap (λ c. cond c x y) t

pub no : {A : Type 0} (b : Bool) (x y : A) → b ≡ false → cond b x y ≡ y
no b x y t = ap (λ c. cond c x y) t

pub named-here : (q : List ℕ) (l : LinkView) (ls : List LinkView) → pointwise nat_eq q l.name ≡ true → numbers_named q (l ∷ ls) ≡ l.number ∷ numbers_named q ls
named-here q l ls t = yes (pointwise nat_eq q l.name) (l.number ∷ numbers_named q ls) (numbers_named q ls) t

pub named-past : (q : List ℕ) (l : LinkView) (ls : List LinkView) → pointwise nat_eq q l.name ≡ false → numbers_named q (l ∷ ls) ≡ numbers_named q ls
named-past q l ls t = no (pointwise nat_eq q l.name) (l.number ∷ numbers_named q ls) (numbers_named q ls) t

-- # What the index tells decides

abbrev numbers-in : List ℕ → List Indexed → List ℕ
numbers-in q [] = []
numbers-in q (i ∷ is) = cond (pointwise nat_eq q i.name) (i.number ∷ numbers-in q is) (numbers-in q is)

told : (q : List ℕ) (ls : List LinkView) → numbers_named q ls ≡ numbers-in q (map indexed ls)
told q [] = refl
told q (l ∷ ls) = ap (λ ns. cond (pointwise nat_eq q l.name) (l.number ∷ ns) ns) (told q ls)

pub named-alike : (q : List ℕ) (ls ms : List LinkView) → map indexed ms ≡ map indexed ls → numbers_named q ms ≡ numbers_named q ls
named-alike q ls ms h = told q ms ∙ ap (numbers-in q) h ∙ sym (told q ls)

-- # One more

on-more : (b c : Bool) (n m : ℕ) (ns : List ℕ) → cond b (n ∷ cond c (ns ++ m ∷ []) ns) (cond c (ns ++ m ∷ []) ns) ≡ cond c (cond b (n ∷ ns) ns ++ m ∷ []) (cond b (n ∷ ns) ns)
on-more true true n m ns = refl
on-more true false n m ns = refl
on-more false true n m ns = refl
on-more false false n m ns = refl

pub named-more : (q : List ℕ) (w : LinkView) (ls : List LinkView) → numbers_named q (ls ++ w ∷ []) ≡ cond (is_named q w) (numbers_named q ls ++ w.number ∷ []) (numbers_named q ls)
named-more q w [] = refl
named-more q w (l ∷ ls) =
    ap (λ ns. cond (pointwise nat_eq q l.name) (l.number ∷ ns) ns) (named-more q w ls)
    ∙ on-more (pointwise nat_eq q l.name) (pointwise nat_eq q w.name) l.number w.number (numbers_named q ls)

-- # One less

abbrev rest : ℕ → List ℕ → List ℕ
rest n ns = filter (λ m. not (m == n)) ns

kept : (n m : ℕ) (ns : List ℕ) → (m == n) ≡ false → rest n (m ∷ ns) ≡ m ∷ rest n ns
kept n m ns d = ap (λ b. cond (not b) (m ∷ rest n ns) (rest n ns)) d

left-out : (n m : ℕ) (ns : List ℕ) → (m == n) ≡ true → rest n (m ∷ ns) ≡ rest n ns
left-out n m ns d = ap (λ b. cond (not b) (m ∷ rest n ns) (rest n ns)) d

-- where n is no number of theirs, none is left out
pub others-stay : (q : List ℕ) (n : ℕ) (l : LinkView) (ls : List LinkView) → (l.number == n) ≡ false → rest n (numbers_named q ls) ≡ numbers_named q ls → rest n (numbers_named q (l ∷ ls)) ≡ numbers_named q (l ∷ ls)
others-stay q n l ls d i =
    ⊎_elim
    (λ t. ap (rest n) (named-here q l ls t) ∙ kept n l.number (numbers_named q ls) d ∙ ap (λ ns. l.number ∷ ns) i ∙ sym (named-here q l ls t))
    (λ t. ap (rest n) (named-past q l ls t) ∙ i ∙ sym (named-past q l ls t))
    (cases_Bool (pointwise nat_eq q l.name))

later-stay : (q : List ℕ) (n : ℕ) (ls : List LinkView) (from : ℕ) → AreNumbered from ls → n < from → rest n (numbers_named q ls) ≡ numbers_named q ls
later-stay q n [] from a h = refl
later-stay q n (l ∷ ls) from a h =
    let f : from ≤ l.number = a.0 in
    others-stay q n l ls (ne_eqb l.number n (λ e. omega (arith, e, h, f))) (later-stay q n ls (l.number + 1) a.1 (omega (arith, h, f)))

some-same : {x y : LinkView} → ◌≡◌ {A = Option LinkView} (Some x) (Some y) → x ≡ y
some-same h = cc

on-less : (b d : Bool) (m : ℕ) (rs ns : List ℕ) → cond b (m ∷ cond d rs ns) (cond d rs ns) ≡ cond d (cond b (m ∷ rs) rs) (cond b (m ∷ ns) ns)
on-less true true m rs ns = refl
on-less true false m rs ns = refl
on-less false true m rs ns = refl
on-less false false m rs ns = refl

under-cond : (n : ℕ) (b : Bool) (m : ℕ) (ns : List ℕ) → (m == n) ≡ false → rest n (cond b (m ∷ ns) ns) ≡ cond b (m ∷ rest n ns) (rest n ns)
under-cond n true m ns d = kept n m ns d
under-cond n false m ns d = refl

at-first : (n : ℕ) (b : Bool) (m : ℕ) (ns : List ℕ) → (m == n) ≡ true → rest n ns ≡ ns → ns ≡ cond b (rest n (cond b (m ∷ ns) ns)) (cond b (m ∷ ns) ns)
at-first n true m ns d h = sym (left-out n m ns d ∙ h)
at-first n false m ns d h = refl

pub named-less : (q : List ℕ) (n : ℕ) (l : LinkView) (ls : List LinkView) (from : ℕ) → AreNumbered from ls → find (has_number n) ls ≡ Some l
    → numbers_named q (remove_first (has_number n) ls) ≡ cond (is_named q l) (filter (λ m. not (m == n)) (numbers_named q ls)) (numbers_named q ls)
named-less q n l [] from a h = absurd (cc)
named-less q n l (x ∷ xs) from a h =
    ⊎_elim
    (λ t. let e : x ≡ l = some-same (rw t at h) in
    let k : x.number ≡ n = eqb-true x.number n t in
    ap (numbers_named q) (yes (x.number == n) xs (x ∷ remove_first (has_number n) xs) t)
    ∙ at-first n (pointwise nat_eq q x.name) x.number (numbers_named q xs) t (later-stay q n xs (x.number + 1) a.1 (omega (arith, k)))
    ∙ ap (λ y. cond (pointwise nat_eq q y.name) (rest n (numbers_named q (x ∷ xs))) (numbers_named q (x ∷ xs))) e)
    (λ t. let i = named-less q n l xs (x.number + 1) a.1 (rw t at h) in
    ap (numbers_named q) (no (x.number == n) xs (x ∷ remove_first (has_number n) xs) t)
    ∙ ap (λ ns. cond (pointwise nat_eq q x.name) (x.number ∷ ns) ns) i
    ∙ on-less (pointwise nat_eq q x.name) (pointwise nat_eq q l.name) x.number (rest n (numbers_named q xs)) (numbers_named q xs)
    ∙ ap (λ ns. cond (pointwise nat_eq q l.name) ns (numbers_named q (x ∷ xs))) (sym (under-cond n (pointwise nat_eq q x.name) x.number (numbers_named q xs) t)))
    (cases_Bool (x.number == n))
