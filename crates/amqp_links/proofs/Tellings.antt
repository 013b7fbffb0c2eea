-- What is told of deliveries, one thing after another.
use Rattle.std.proofs.Common.{◌≡◌, ◌<◌, ◌≤◌, ℕ, ◌+◌, ◌-◌, ◌==◌, Bool, true, false, List, [], ◌∷◌, ◌++◌, length, map, arith, refl, ap, ⊎_elim}
use Rattle.std.proofs.lemmas.Bool.{cases_Bool, ne_eqb, eqb-true}
use Rattle.std.proofs.lemmas.List.{append_assoc, append-nil, length-append}
use Rattle.std.proofs.lemmas.List.Elements.{filter-append}
use Rattle.std.proofs.Math.Seq.{take-append_seam}
use Rattle.std.specs.List.{filter}
use Rattle.amqp_events.specs.Told.{Telling}
use Rattle.amqp_rules.proofs.Told.{eqb-sym}
use Rattle.amqp_rules.specs.View.{LinkView, has_number, change_first}
use Rattle.amqp_links.specs.Fate.{changed, links_told, with_told, with_one_told, without_last_told}
use Rattle.amqp_links.specs.Links.{LinksView, AreNumbered}

flip : {A : Type 0} {x y : A} → x ≡ y → y ≡ x
flip h = cc

-- one thing more, told on this link, and told on another
told-here : (t : Telling) (ts : List Telling) (l : LinkView) → (t.link == l.number) ≡ true → with_one_told t (with_told ts l) ≡ with_told (ts ++ t ∷ []) l
told-here t ts l e = rw (filter-append (λ x. x.link == l.number) ts (t ∷ []), e, ← append_assoc l.told (filter (λ x. x.link == l.number) ts) (t ∷ [])) refl

told-elsewhere : (t : Telling) (ts : List Telling) (l : LinkView) → (t.link == l.number) ≡ false → with_told (ts ++ t ∷ []) l ≡ with_told ts l
told-elsewhere t ts l e = rw (filter-append (λ x. x.link == l.number) ts (t ∷ []), e, append-nil (filter (λ x. x.link == l.number) ts)) refl

told-further : (t : Telling) (ts : List Telling) (ls : List LinkView) (from : ℕ) → t.link < from → AreNumbered from ls → map (with_told (ts ++ t ∷ [])) ls ≡ map (with_told ts) ls
told-further t ts [] from h n = refl
told-further t ts (l ∷ ls) from h n =
    let f : from ≤ l.number = n.0 in
    let other : (t.link == l.number) ≡ false = ne_eqb t.link l.number (λ e. omega (arith, e, h, f)) in
    rw (told-elsewhere t ts l other, told-further t ts ls (l.number + 1) (omega (arith, h, f)) n.1) refl

told-in : (t : Telling) (ts : List Telling) (ls : List LinkView) (from : ℕ) → AreNumbered from ls
    → change_first (has_number t.link) (with_one_told t) (map (with_told ts) ls) ≡ map (with_told (ts ++ t ∷ [])) ls
told-in t ts [] from n = refl
told-in t ts (l ∷ ls) from n =
    ⊎_elim
    (λ e. let u : (t.link == l.number) ≡ true = rw (eqb-sym t.link l.number) e in
    let q = eqb-true l.number t.link e in
    rw (e, told-here t ts l u, told-further t ts ls (l.number + 1) (omega (arith, q)) n.1) refl)
    (λ e. let u : (t.link == l.number) ≡ false = rw (eqb-sym t.link l.number) e in
    rw (e, told-elsewhere t ts l u, told-in t ts ls (l.number + 1) n.1) refl)
    (cases_Bool (l.number == t.link))

-- what is told changes no number
alike : (ts us : List Telling) (ls : List LinkView) (from : ℕ) → AreNumbered from (map (with_told ts) ls) → AreNumbered from (map (with_told us) ls)
alike ts us [] from n = tt
alike ts us (l ∷ ls) from n = (n.0, alike ts us ls (l.number + 1) n.1)

plain : (ts : List Telling) (ls : List LinkView) (from : ℕ) → AreNumbered from (map (with_told ts) ls) → AreNumbered from ls
plain ts [] from n = tt
plain ts (l ∷ ls) from n = (n.0, plain ts ls (l.number + 1) n.1)

pub told-next : (s : LinksView) (t : Telling) (ts : List Telling) (ls : LinksView) → AreNumbered 0 s.list → s ≡ links_told ts ls → changed t.link (with_one_told t) s ≡ links_told (ts ++ t ∷ []) ls
told-next s t ts ls n e =
    let m : AreNumbered 0 (map (with_told ts) ls.list) = rw e at n in
    rw (e, told-in t ts ls.list 0 (plain ts ls.list 0 m)) refl

undone-here : (test : LinkView → Bool) (f g : LinkView → LinkView) (l : LinkView) (ls : List LinkView) → test (f l) ≡ true → g (f l) ≡ l → change_first test g (f l ∷ ls) ≡ l ∷ ls
undone-here test f g l ls e back = rw (e, back) refl

undone-further : (test : LinkView → Bool) (f g : LinkView → LinkView) (l : LinkView) (ls : List LinkView) → test l ≡ false
    → change_first test g (change_first test f ls) ≡ ls → change_first test g (l ∷ change_first test f ls) ≡ l ∷ ls
undone-further test f g l ls e back = rw (e, back) refl

-- a change that is undone
undone : (test : LinkView → Bool) (f g : LinkView → LinkView) (ls : List LinkView) → ((l : LinkView) → test (f l) ≡ test l) → ((l : LinkView) → g (f l) ≡ l)
    → change_first test g (change_first test f ls) ≡ ls
undone test f g [] same back = refl
undone test f g (l ∷ ls) same back =
    ⊎_elim
    (λ e. let u : test (f l) ≡ true = rw (same l) e in rw e (undone-here test f g l ls u (back l)))
    (λ e. rw e (undone-further test f g l ls e (undone test f g ls same back)))
    (cases_Bool (test l))

last-back : (t : Telling) (l : LinkView) → without_last_told (with_one_told t l) ≡ l
last-back t l =
    let n : length (l.told ++ t ∷ []) - 1 ≡ length l.told = rw (length-append l.told (t ∷ [])) (omega arith) in
    rw (n, take-append_seam l.told (t ∷ [])) refl

pub told-back : (s : LinksView) (n : ℕ) (t : Telling) (ts : List Telling) (ls : LinksView) → AreNumbered 0 s.list → t.link ≡ n → s ≡ links_told (ts ++ t ∷ []) ls
    → changed n without_last_told s ≡ links_told ts ls
told-back s n t ts ls a k e =
    let m : AreNumbered 0 (map (with_told (ts ++ t ∷ [])) ls.list) = rw e at a in
    rw (
      ← k,
      e,
      ← told-in t ts ls.list 0 (plain (ts ++ t ∷ []) ls.list 0 m),
      undone (has_number t.link) (with_one_told t) without_last_told (map (with_told ts) ls.list) (λ l. refl) (last-back t),
    ) refl

-- # What is taken back, one thing after another

-- of what was told since ls, this is left to be taken back, a link's number for each thing
abbrev pub IsLeft : LinksView → LinksView → List ℕ → Type 0
IsLeft ls s ns = (us : List Telling) × (ns ≡ map (λ t. t.link) us) × (s ≡ links_told us ls)

-- the last of what is mapped
pub record IsSnoc (us : List Telling) (ns : List ℕ) (n : ℕ) : Type 0 where
  pub front : List Telling
  pub last : Telling
  pub all : us ≡ front ++ last ∷ []
  pub links : ns ≡ map (λ t. t.link) front
  pub link : last.link ≡ n

cons-same : {A : Type 0} {x y : A} {xs ys : List A} → x ∷ xs ≡ y ∷ ys → (x ≡ y) × (xs ≡ ys)
cons-same h = (cc, cc)

cons-is : {A : Type 0} {x y : A} {xs ys : List A} → x ≡ y → xs ≡ ys → x ∷ xs ≡ y ∷ ys
cons-is h k = cc

pub snoc : (us : List Telling) (ns : List ℕ) (n : ℕ) → ns ++ n ∷ [] ≡ map (λ t. t.link) us → IsSnoc us ns n
snoc [] [] n h = absurd (cc)
snoc [] (m ∷ ns) n h = absurd (cc)
snoc (u ∷ []) [] n h = record { front = []; last = u; all = refl; links = refl; link = flip (cons-same h).0 }
snoc (u ∷ (v ∷ us)) [] n h = absurd (let p = (cons-same h).1 in cc)
snoc (u ∷ us) (m ∷ ns) n h =
    let p = cons-same h in
    let i = snoc us ns n p.1 in
    record { front = u ∷ i.front; last = i.last; all = ap (λ xs. u ∷ xs) i.all; links = cons-is p.0 i.links; link = i.link }

pub left-next : (ls s : LinksView) (ns : List ℕ) (n : ℕ) → AreNumbered 0 s.list → IsLeft ls s (ns ++ n ∷ []) → IsLeft ls (changed n without_last_told s) ns
left-next ls s ns n a i =
    let p = snoc i.0 ns n i.1 in
    (p.front, p.links, told-back s n p.last p.front ls a p.link (rw (← p.all) i.2))

none-told : (ls : List LinkView) → map (with_told []) ls ≡ ls
none-told [] = refl
none-told (l ∷ ls) = rw (none-told ls, append-nil l.told) refl

pub left-none : (ls s : LinksView) (ns : List ℕ) → ns ≡ [] → IsLeft ls s ns → s ≡ ls
left-none ls s ns e i = by i.0 (rw e at i.1) i.2
  where
    by : (us : List Telling) → [] ≡ map (λ t. t.link) us → s ≡ links_told us ls → s ≡ ls
    by [] h k = rw (k, none-told ls.list) refl
    by (u ∷ us) h k = absurd (cc)

pub told-none : (s : LinksView) → s ≡ links_told [] s
told-none s = rw (none-told s.list) refl

pub nothing : (xs : List ℕ) → length xs ≡ 0 → xs ≡ []
nothing [] h = refl
nothing (x ∷ xs) h = absurd (cc)
