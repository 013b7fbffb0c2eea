-- The links of a journal are numbered in the order in which they were made; nothing was told of one that is to come.
use Rattle.std.proofs.Common.{◌≡◌, ◌<◌, ◌≤◌, ℕ, ◌+◌, suc, Bool, true, false, cond, Some, List, [], ◌∷◌, ◌++◌, length, map, find, drop, refl, sym, ap, ◌∙◌, arith, eqb}
use Rattle.std.proofs.lemmas.Bool.{eqb-true}
use Rattle.amqp_rules.specs.View.{LinkView, has_number, change_first}
use Rattle.amqp_rules.specs.Learn.{learnt_from}
use Rattle.amqp_rules.specs.PeerDisposition.{told_more}
use Rattle.amqp_rules.proofs.Listed.{by-bool}
use Rattle.amqp_rules.proofs.Told.{eqb-sym}
use Rattle.amqp_events.specs.Event.{Learns}
use Rattle.amqp_events.specs.Told.{SentItem, tellings}
use Rattle.amqp_laws.specs.declared.entry.Entry.{Entry}
use Rattle.amqp_laws.specs.Said.{detaches}
use Rattle.amqp_laws.specs.Past.{some_entry}
use Rattle.amqp_laws.specs.Links.{Concern, no_link, link_with, link_not_left, link_or_new, concern, LinkPast, joined, link_pasts, links_there, is_gone, is_there_with, put, put_not_left}

-- from n on, each number one more
abbrev pub Numbered : ℕ → List LinkPast → Type 0
Numbered n [] = Unit {0}
Numbered n (l ∷ links) = (l.number ≡ n) × Numbered (n + 1) links

numbered-changed : (n : ℕ) (test : LinkPast → Bool) (act : LinkPast → LinkPast) (links : List LinkPast) → ((l : LinkPast) → (act l).number ≡ l.number) → Numbered n links → Numbered n (change_first test act links)
numbered-changed n test act [] same h = tt
numbered-changed n test act (l ∷ links) same h =
    by-bool (test l)
    (λ (t : test l ≡ true). rw t (same l ∙ h.0, h.1))
    (λ (t : test l ≡ false). rw t (h.0, numbered-changed (n + 1) test act links same h.1))

next-place : (n k : ℕ) → (n + 1) + k ≡ n + suc k
next-place n k = omega arith

numbered-more : (n : ℕ) (links : List LinkPast) (l : LinkPast) → l.number ≡ n + length links → Numbered n links → Numbered n (links ++ l ∷ [])
numbered-more n [] l is h = (is ∙ none n, tt)
  where
    none : (n : ℕ) → n + 0 ≡ n
    none n = omega arith
numbered-more n (k ∷ links) l is h = (h.0, numbered-more (n + 1) links l (is ∙ sym (next-place n (length links))) h.1)

not-left-number : (e : Entry) (l : LinkPast) → (put_not_left e l).number ≡ l.number
not-left-number e l = by (some_entry detaches l.past)
  where
    by : (b : Bool) → (cond b l (put e l)).number ≡ l.number
    by true = refl
    by false = refl

from-none : (n : ℕ) → n ≡ 0 + n
from-none n = omega arith

joined-numbered : (c : Concern) (e : Entry) (links : List LinkPast) → Numbered 0 links → Numbered 0 (joined c e links)
joined-numbered no_link e links h = h
joined-numbered (link_with test) e links h = numbered-changed 0 (is_there_with test) (put e) links (λ l. refl) h
joined-numbered (link_not_left test) e links h = numbered-changed 0 (is_there_with test) (put_not_left e) links (not-left-number e) h
joined-numbered (link_or_new test role name) e links h = by _
  where
    by : (met : Bool) → Numbered 0 (cond met (change_first (is_there_with test) (put e) links) (links ++ record { number = length links; role = role; name = name; past = e ∷ [] } ∷ []))
    by true = numbered-changed 0 (is_there_with test) (put e) links (λ l. refl) h
    by false = numbered-more 0 links (record { number = length links; role = role; name = name; past = e ∷ [] }) (from-none (length links)) h

pub pasts-numbered : (past : List Entry) → Numbered 0 (link_pasts past)
pasts-numbered [] = tt
pasts-numbered (e ∷ before) = joined-numbered (concern e.step) e (link_pasts before) (pasts-numbered before)

-- # Links that are there

-- from n on the numbers ascend, below m
abbrev pub Rises : ℕ → ℕ → List LinkView → Type 0
Rises m n [] = n ≤ m
Rises m n (l ∷ links) = (n ≤ l.number) × Rises m (l.number + 1) links

rises-sooner : (m k n : ℕ) (links : List LinkView) → k ≤ n → Rises m n links → Rises m k links
rises-sooner m k n [] h r = omega (arith, h, r)
rises-sooner m k n (l ∷ links) h r = let first : n ≤ l.number = r.0 in (omega (arith, h, first), r.1)

there-rises : (n m : ℕ) (links : List LinkPast) → n + length links ≡ m → Numbered n links → Rises m n (links_there links)
there-rises n m [] many h = omega (arith, many)
there-rises n m (l ∷ links) many h =
    let rest = there-rises (n + 1) m links (next-place n (length links) ∙ many) h.1 in
    by-bool (is_gone l)
    (λ (gone : is_gone l ≡ true). rw gone (rises-sooner m n (n + 1) (links_there links) (omega arith) rest))
    (λ (there : is_gone l ≡ false). let is : l.number ≡ n = h.0 in rw there (omega (arith, is), rw is rest))

rises-either : (over : Bool) (m n : ℕ) (links : List LinkView) → n ≤ m → Rises m n links → Rises m n (cond over [] links)
rises-either true m n links few r = few
rises-either false m n links few r = r

rises-map : (m n : ℕ) (f : LinkView → LinkView) (links : List LinkView) → ((l : LinkView) → (f l).number ≡ l.number) → Rises m n links → Rises m n (map f links)
rises-map m n f [] same r = r
rises-map m n f (l ∷ links) same r = rw (same l) (r.0, rises-map m (l.number + 1) f links same r.1)

pub links-rise : (past : List Entry) (over : Bool) (f : LinkView → LinkView) → ((l : LinkView) → (f l).number ≡ l.number) → Rises (length (link_pasts past)) 0 (map f (cond over [] (links_there (link_pasts past))))
links-rise past over f same =
    let m = length (link_pasts past) in
    rises-map m 0 f (cond over [] (links_there (link_pasts past))) same
    (rises-either over m 0 (links_there (link_pasts past)) (omega arith) (there-rises 0 m (link_pasts past) (sym (from-none m)) (pasts-numbered past)))

rises-above : (m n : ℕ) (links : List LinkView) → Rises m n links → n ≤ m
rises-above m n [] r = r
rises-above m n (l ∷ links) r = let first : n ≤ l.number = r.0 in let rest : l.number + 1 ≤ m = rises-above m (l.number + 1) links r.1 in omega (arith, first, rest)

-- a link that is there has a number below m
pub number-below : (m n k : ℕ) (links : List LinkView) (on : LinkView) → Rises m n links → find (has_number k) links ≡ Some on → k < m
number-below m n k [] on r h = absurd (cc)
number-below m n k (l ∷ links) on r h =
    by-bool (has_number k l)
    (λ (t : has_number k l ≡ true). let is : l.number ≡ k = eqb-true l.number k t in let rest : l.number + 1 ≤ m = rises-above m (l.number + 1) links r.1 in omega (arith, is, rest))
    (λ (t : has_number k l ≡ false). let h' = rw t at h in number-below m (l.number + 1) k links on r.1 h')

-- # What is learnt is learnt from the one link

learns-tells : (k : ℕ) (items : List SentItem) → tellings (Learns k) items ≡ []
learns-tells k [] = refl
learns-tells k (s ∷ items) = learns-tells k items

append-none : {A : Type 0} (xs : List A) → xs ++ [] ≡ xs
append-none [] = refl
append-none (x ∷ xs) = ap (λ ys. x ∷ ys) (append-none xs)

-- no link above is learnt from
none-learnt : (m n k : ℕ) (items : List SentItem) (links : List LinkView) → Rises m n links → k < n → map (told_more (Learns k) items) links ≡ links
none-learnt m n k items [] r h = refl
none-learnt m n k items (l ∷ links) r h =
    let first : n ≤ l.number = r.0 in
    by-bool (eqb k l.number)
    (λ (t : eqb k l.number ≡ true). let is : k ≡ l.number = eqb-true k l.number t in absurd (omega (arith, is, first, h)))
    (λ (t : eqb k l.number ≡ false). rw (t, learns-tells k items, append-none l.told, none-learnt m (l.number + 1) k items links r.1 (omega (arith, first, h))) refl)

pub learnt-links : (m n k : ℕ) (items : List SentItem) (links : List LinkView) → Rises m n links → map (told_more (Learns k) items) links ≡ change_first (has_number k) learnt_from links
learnt-links m n k items [] r = refl
learnt-links m n k items (l ∷ links) r =
    by-bool (has_number k l)
    (λ (t : has_number k l ≡ true).
    let is : l.number ≡ k = eqb-true l.number k t in
    let back : eqb k l.number ≡ true = eqb-sym k l.number ∙ t in
    rw (back, t, learns-tells k items, append-none (drop 1 l.told), none-learnt m (l.number + 1) k items links r.1 (omega (arith, is))) refl)
    (λ (t : has_number k l ≡ false).
    let back : eqb k l.number ≡ false = eqb-sym k l.number ∙ t in
    rw (back, t, learns-tells k items, append-none l.told, learnt-links m (l.number + 1) k items links r.1) refl)
