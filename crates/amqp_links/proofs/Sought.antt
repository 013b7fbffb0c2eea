-- A link that is sought among those of its name.
use Rattle.std.proofs.Common.{◌≡◌, ◌<◌, ◌≤◌, ℕ, ◌+◌, ◌==◌, Bool, true, false, cond, Option, None, Some, List, [], ◌∷◌, arith, refl, sym, ap, ◌∙◌, find, is_some, ◌&&◌, length, drop, get_or, ⊎_elim}
use Rattle.std.proofs.lemmas.Bool.{cases_Bool, eq-eqb, ne_eqb}
use Rattle.std.proofs.lemmas.List.{at_drop_more}
use Rattle.std.specs.Prelude.{nat_eq}
use Rattle.std.specs.Cmp.Lexicographic.{pointwise}
use Rattle.amqp_performatives.specs.declared.bodies.Role.{Role}
use Rattle.amqp_rules.specs.View.{LinkView, has_number, has_name, same_role, is_asked, is_offered}
use Rattle.amqp_links.specs.declared.lookups.Standing.{Standing}
use Rattle.amqp_links.specs.declared.lookups.Standing.TheVariants.{Asked, Offered, Ours, Theirs}
use Rattle.amqp_links.specs.Index.{stands_as}
use Rattle.amqp_links.specs.Links.{AreNumbered}
use Rattle.amqp_links.specs.Names.{is_named, numbers_named}
use Rattle.amqp_links.proofs.Named.{no, named-here, named-past}

abbrev among : (LinkView → Bool) → Option LinkView → Option LinkView → Option LinkView
among test None rest = rest
among test (Some l) rest = cond (test l) (Some l) rest

-- the first that passes the test of the links with these numbers
abbrev pub seek : (LinkView → Bool) → List LinkView → List ℕ → Option LinkView
seek test ls [] = None
seek test ls (n ∷ ns) = among test (find (has_number n) ls) (seek test ls ns)

-- each of these is found by its number
abbrev AreThere : List LinkView → List LinkView → Type 0
AreThere whole [] = Unit {0}
AreThere whole (l ∷ ls) = (find (has_number l.number) whole ≡ Some l) × AreThere whole ls

there-past : (x : LinkView) (whole ls : List LinkView) (from : ℕ) → x.number < from → AreNumbered from ls → AreThere whole ls → AreThere (x ∷ whole) ls
there-past x whole [] from h a t = tt
there-past x whole (l ∷ ls) from h a t =
    let f : from ≤ l.number = a.0 in
    let d : (x.number == l.number) ≡ false = ne_eqb x.number l.number (λ e. omega (arith, e, h, f)) in
    (rw d t.0, there-past x whole ls (l.number + 1) (omega (arith, h, f)) a.1 t.1)

there-all : (ls : List LinkView) (from : ℕ) → AreNumbered from ls → AreThere ls ls
there-all [] from a = tt
there-all (l ∷ ls) from a =
    (rw (eq-eqb l.number l.number refl) refl, there-past l ls ls (l.number + 1) (omega arith) a.1 (there-all ls (l.number + 1) a.1))

seek-in : (test : LinkView → Bool) (q : List ℕ) → ((l : LinkView) → test l ≡ true → is_named q l ≡ true) → (whole ls : List LinkView) → AreThere whole ls → find test ls ≡ seek test whole (numbers_named q ls)
seek-in test q its whole [] a = refl
seek-in test q its whole (l ∷ ls) a =
    let i = seek-in test q its whole ls a.1 in
    ⊎_elim
    (λ t. ap (λ o. cond (test l) (Some l) o) i ∙ sym (ap (seek test whole) (named-here q l ls t) ∙ ap (λ o. among test o (seek test whole (numbers_named q ls))) a.0))
    (λ t. no (test l) (Some l) (find test ls) (not-it (test l) (pointwise nat_eq q l.name) (its l) t) ∙ i ∙ sym (ap (seek test whole) (named-past q l ls t)))
    (cases_Bool (pointwise nat_eq q l.name))
  where
    not-it : (b c : Bool) → (b ≡ true → c ≡ true) → c ≡ false → b ≡ false
    not-it true c f h = absurd (let g = f refl in cc)
    not-it false c f h = refl

-- of all links the first that passes the test is sought among those of its name
pub seek-start : (test : LinkView → Bool) (q : List ℕ) (ls : List LinkView) → ((l : LinkView) → test l ≡ true → is_named q l ≡ true) → AreNumbered 0 ls → find test ls ≡ seek test ls (numbers_named q ls)
seek-start test q ls its a = seek-in test q its ls ls (there-all ls 0 a)

pub seek-found : (test : LinkView → Bool) (ls : List LinkView) (n : ℕ) (ns : List ℕ) (l : LinkView) → find (has_number n) ls ≡ Some l → test l ≡ true → find test ls ≡ seek test ls (n ∷ ns) → find test ls ≡ Some l
seek-found test ls n ns l g t h = h ∙ ap (λ o. among test o (seek test ls ns)) g ∙ ap (λ b. cond b (Some l) (seek test ls ns)) t

pub seek-at : (test : LinkView → Bool) (ls : List LinkView) (ns : List ℕ) (i : ℕ) (l : LinkView) → find test ls ≡ seek test ls (drop i ns) → i < length ns → find (has_number (get_or ns i 0)) ls ≡ Some l → test l ≡ true → find test ls ≡ Some l
seek-at test ls ns i l h lt f t = seek-found test ls (get_or ns i 0) (drop (i + 1) ns) l f t (h ∙ at_drop_more (seek test ls) ns i 0 lt)

first-so : (a b : Bool) → (a && b) ≡ true → a ≡ true
first-so true b h = refl
first-so false b h = absurd (cc)

second-so : (a b : Bool) → (a && b) ≡ true → b ≡ true
second-so true b h = h
second-so false b h = absurd (cc)

name-of : (role : Role) (name : List ℕ) (l : LinkView) → has_name role name l ≡ true → is_named name l ≡ true
name-of role name l h = second-so (same_role role l.role) (is_named name l) h

pub stands-named : (s : Standing) (role : Role) (name : List ℕ) (l : LinkView) → stands_as s role name l ≡ true → is_named name l ≡ true
stands-named Asked role name l h = name-of role name l (first-so (has_name role name l) (is_asked l) h)
stands-named Offered role name l h = name-of role name l (first-so (has_name role name l) (is_offered l) h)
stands-named Ours role name l h = name-of role name l (first-so (has_name role name l) (is_some l.ours) h)
stands-named Theirs role name l h = name-of role name l (first-so (has_name role name l) (is_some l.theirs) h)
