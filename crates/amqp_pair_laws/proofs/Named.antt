-- The link of a role and a name among links of which no two have both: what becomes of it where a list of links is changed.
use Rattle.std.proofs.Common.{◌≡◌, ℕ, ◌&&◌, ◌++◌, Bool, true, false, Option, Some, None, List, [], ◌∷◌, refl, sym, ap, ◌∙◌, subst, find, map, is_some, nat_eq}
use Rattle.std.proofs.lemmas.Bool.{eq-eqb, eqb-true}
use Rattle.std.specs.Cmp.Lexicographic.{pointwise}
use Rattle.amqp_performatives.specs.declared.bodies.Role.{Role}
use Rattle.amqp_performatives.specs.declared.bodies.Role.TheVariants.{Sender, Receiver}
use Rattle.amqp_rules.specs.View.{LinkView, View, change_first, has_name, new_link, remove_first, same_role}
use Rattle.amqp_rules.specs.Attach.{join_link}
use Rattle.amqp_rules.specs.Sound.{Apart, Every, keys, shares_name}
use Rattle.amqp_rules.proofs.Listed.{by-bool}
use Rattle.amqp_laws.proofs.Twice.{and-both}

-- # Tests

pub role-same : (r s : Role) → same_role r s ≡ true → r ≡ s
role-same Sender Sender h = refl
role-same Receiver Receiver h = refl
role-same Sender Receiver h = absurd (cc)
role-same Receiver Sender h = absurd (cc)

pub role-self : (r : Role) → same_role r r ≡ true
role-self Sender = refl
role-self Receiver = refl

pub texts-same : (xs ys : List ℕ) → pointwise nat_eq xs ys ≡ true → xs ≡ ys
texts-same [] [] h = refl
texts-same [] (y ∷ ys) h = absurd (cc)
texts-same (x ∷ xs) [] h = absurd (cc)
texts-same (x ∷ xs) (y ∷ ys) h =
    let both = and-both (nat_eq x y) (pointwise nat_eq xs ys) h in
    let one : x ≡ y = eqb-true x y both.0 in
    let rest : xs ≡ ys = texts-same xs ys both.1 in
    rw (one, rest) refl

pub texts-self : (xs : List ℕ) → pointwise nat_eq xs xs ≡ true
texts-self [] = refl
texts-self (x ∷ xs) = rw (eq-eqb x x refl, texts-self xs) refl

pub name-self : (role : Role) (name : List ℕ) → same_role role role && pointwise nat_eq name name ≡ true
name-self role name = rw (role-self role, texts-self name) refl

-- the link has this role and this name
pub record IsNamed (role : Role) (name : List ℕ) (l : LinkView) : Type 0 where
  pub role_is : role ≡ l.role
  pub name_is : name ≡ l.name

pub named-is : (role : Role) (name : List ℕ) (l : LinkView) → has_name role name l ≡ true → IsNamed role name l
named-is role name l h =
    let both = and-both (same_role role l.role) (pointwise nat_eq name l.name) h in
    record { role_is = role-same role l.role both.0; name_is = texts-same name l.name both.1 }

named-shares : (role : Role) (name : List ℕ) (k l : LinkView) → has_name role name k ≡ true → has_name role name l ≡ true → shares_name (keys k) (keys l) ≡ true
named-shares role name k l h m =
    let a = named-is role name k h in
    let b = named-is role name l m in
    let r : l.role ≡ k.role = sym b.role_is ∙ a.role_is in
    let n : l.name ≡ k.name = sym b.name_is ∙ a.name_is in
    rw (r, n) (name-self k.role k.name)

-- # What is found

pub found-passes : {A : Type 0} (test : A → Bool) (xs : List A) (x : A) → find test xs ≡ Some x → test x ≡ true
found-passes test [] x h = absurd (cc)
found-passes test (y ∷ ys) x h =
    by-bool (test y)
    (λ (t : test y ≡ true). let k = rw t at h in let same : y ≡ x = cc k in ap test (sym same) ∙ t)
    (λ (f : test y ≡ false). let k = rw f at h in found-passes test ys x k)

pub every-found : {A : Type 0} (P : A → Type 0) (test : A → Bool) (xs : List A) (x : A) → Every P xs → find test xs ≡ Some x → P x
every-found P test [] x all h = absurd (cc)
every-found P test (y ∷ ys) x all h =
    by-bool (test y)
    (λ (t : test y ≡ true). let k = rw t at h in let same : y ≡ x = cc k in subst P same all.0)
    (λ (f : test y ≡ false). let k = rw f at h in every-found P test ys x all.1 k)

pub every-unmapped : {A B : Type 0} (f : A → B) (P : B → Type 0) (xs : List A) → Every P (map f xs) → Every (λ x. P (f x)) xs
every-unmapped f P [] all = tt
every-unmapped f P (x ∷ xs) all = (all.0, every-unmapped f P xs all.1)

pub none-found : {A : Type 0} (test : A → Bool) (xs : List A) → Every (λ x. test x ≡ false) xs → find test xs ≡ None
none-found test [] all = refl
none-found test (x ∷ xs) all = let f = all.0 in rw f (none-found test xs all.1)

pub none-is : {A : Type 0} (o : Option A) → is_some o ≡ false → o ≡ None
none-is None h = refl
none-is (Some a) h = absurd (cc)

-- a second test, which only things pass that pass the first
pub found-both : {A : Type 0} (test test' : A → Bool) (xs : List A) (x : A) → ((y : A) → test' y ≡ true → test y ≡ true) → find test xs ≡ Some x → test' x ≡ true → find test' xs ≡ Some x
found-both test test' [] x only h is = absurd (cc)
found-both test test' (y ∷ ys) x only h is =
    by-bool (test y)
    (λ (t : test y ≡ true). let k = rw t at h in let same : y ≡ x = cc k in let passes : test' y ≡ true = ap test' same ∙ is in rw passes (ap Some same))
    (λ (f : test y ≡ false).
    let k = rw f at h in
    by-bool (test' y)
    (λ (t : test' y ≡ true). let n = only y t in absurd (cc (n, f)))
    (λ (g : test' y ≡ false). rw g (found-both test test' ys x only k is)))

pub none-both : {A : Type 0} (test test' : A → Bool) (xs : List A) → ((y : A) → test' y ≡ true → test y ≡ true) → find test xs ≡ None → find test' xs ≡ None
none-both test test' [] only h = refl
none-both test test' (y ∷ ys) only h =
    by-bool (test y)
    (λ (t : test y ≡ true). let k = rw t at h in absurd (cc (k)))
    (λ (f : test y ≡ false).
    let k = rw f at h in
    by-bool (test' y)
    (λ (t : test' y ≡ true). let n = only y t in absurd (cc (n, f)))
    (λ (g : test' y ≡ false). rw g (none-both test test' ys only k)))

abbrev pub or_this : {A : Type 0} → Option A → A → A
or_this None x = x
or_this (Some y) x = y

found-more : {A : Type 0} (test : A → Bool) (xs : List A) (x : A) → find test xs ≡ None → test x ≡ true → find test (xs ++ x ∷ []) ≡ Some x
found-more test [] x h is = rw is refl
found-more test (y ∷ ys) x h is =
    by-bool (test y)
    (λ (t : test y ≡ true). let k = rw t at h in absurd (cc (k)))
    (λ (f : test y ≡ false). let k = rw f at h in rw f (found-more test ys x k is))

more-alone : {A : Type 0} (test : A → Bool) (xs : List A) (x : A) → test x ≡ false → find test (xs ++ x ∷ []) ≡ find test xs
more-alone test [] x is = rw is refl
more-alone test (y ∷ ys) x is =
    by-bool (test y)
    (λ (t : test y ≡ true). rw t refl)
    (λ (f : test y ≡ false). rw f (more-alone test ys x is))

-- # One link is changed, or removed

-- a change that leaves role and name
pub record KeepsName (change : LinkView → LinkView) : Type 0 where
  pub role : (l : LinkView) → (change l).role ≡ l.role
  pub name : (l : LinkView) → (change l).name ≡ l.name

changed-name : (role : Role) (name : List ℕ) (change : LinkView → LinkView) → KeepsName change → (l : LinkView) → has_name role name (change l) ≡ has_name role name l
changed-name role name change k l = let r = k.role l in let n = k.name l in rw (r, n) refl

-- the link that is changed has the name
pub changed-there : (role : Role) (name : List ℕ) (test : LinkView → Bool) (change : LinkView → LinkView) (links : List LinkView) (l : LinkView) → KeepsName change
    → find (has_name role name) links ≡ Some l → find test links ≡ Some l → find (has_name role name) (change_first test change links) ≡ Some (change l)
changed-there role name test change [] l keeps h found = absurd (cc)
changed-there role name test change (k ∷ ks) l keeps h found =
    let same = changed-name role name change keeps k in
    by-bool (test k)
    (λ (t : test k ≡ true).
    let f = rw t at found in
    let is : k ≡ l = cc f in
    let named : has_name role name k ≡ true = ap (has_name role name) is ∙ found-passes (has_name role name) (k ∷ ks) l h in
    rw (t, same, named) (ap (λ l. Some (change l)) is))
    (λ (t : test k ≡ false).
    let f = rw t at found in
    by-bool (has_name role name k)
    (λ (n : has_name role name k ≡ true).
    let g = rw n at h in
    let is : k ≡ l = cc g in
    let passes : test k ≡ true = ap test is ∙ found-passes test ks l f in
    absurd (cc (passes, t)))
    (λ (n : has_name role name k ≡ false). let g = rw n at h in rw (t, n) (changed-there role name test change ks l keeps g f)))

-- it has another
pub changed-other : (role : Role) (name : List ℕ) (test : LinkView → Bool) (change : LinkView → LinkView) (links : List LinkView) (l : LinkView) → KeepsName change
    → find test links ≡ Some l → has_name role name l ≡ false → find (has_name role name) (change_first test change links) ≡ find (has_name role name) links
changed-other role name test change [] l keeps found other = absurd (cc)
changed-other role name test change (k ∷ ks) l keeps found other =
    let same = changed-name role name change keeps k in
    by-bool (test k)
    (λ (t : test k ≡ true).
    let f = rw t at found in
    let is : k ≡ l = cc f in
    let unnamed : has_name role name k ≡ false = ap (has_name role name) is ∙ other in
    rw (t, same, unnamed) refl)
    (λ (t : test k ≡ false).
    let f = rw t at found in
    by-bool (has_name role name k)
    (λ (n : has_name role name k ≡ true). rw (t, n) refl)
    (λ (n : has_name role name k ≡ false). rw (t, n) (changed-other role name test change ks l keeps f other)))

-- no two have one name
abbrev pub NamesApart : List LinkView → Type 0
NamesApart links = Apart shares_name (map keys links)

-- the first link with another property, where it has the name, is the link of the name
pub named-found : (role : Role) (name : List ℕ) (test : LinkView → Bool) (links : List LinkView) (l : LinkView) → NamesApart links
    → find test links ≡ Some l → has_name role name l ≡ true → find (has_name role name) links ≡ Some l
named-found role name test [] l apart found named = absurd (cc)
named-found role name test (k ∷ ks) l apart found named =
    by-bool (test k)
    (λ (t : test k ≡ true).
    let f = rw t at found in
    let is : k ≡ l = cc f in
    let n : has_name role name k ≡ true = ap (has_name role name) is ∙ named in
    rw n (ap Some is))
    (λ (t : test k ≡ false).
    let f = rw t at found in
    by-bool (has_name role name k)
    (λ (n : has_name role name k ≡ true).
    let others = every-unmapped keys (λ m. shares_name (keys k) m ≡ false) ks apart.0 in
    let differ : shares_name (keys k) (keys l) ≡ false = every-found _ test ks l others f in
    let shared = named-shares role name k l n named in
    absurd (cc (shared, differ)))
    (λ (n : has_name role name k ≡ false). rw n (named-found role name test ks l apart.1 f named)))

pub removed-there : (role : Role) (name : List ℕ) (test : LinkView → Bool) (links : List LinkView) (l : LinkView) → NamesApart links
    → find test links ≡ Some l → has_name role name l ≡ true → find (has_name role name) (remove_first test links) ≡ None
removed-there role name test [] l apart found named = absurd (cc)
removed-there role name test (k ∷ ks) l apart found named =
    let others = every-unmapped keys (λ m. shares_name (keys k) m ≡ false) ks apart.0 in
    by-bool (test k)
    (λ (t : test k ≡ true).
    let f = rw t at found in
    let is : k ≡ l = cc f in
    let n : has_name role name k ≡ true = ap (has_name role name) is ∙ named in
    rw t (none-found (has_name role name) ks (unnamed ks k n others)))
    (λ (t : test k ≡ false).
    let f = rw t at found in
    by-bool (has_name role name k)
    (λ (n : has_name role name k ≡ true).
    let differ : shares_name (keys k) (keys l) ≡ false = every-found _ test ks l others f in
    let shared = named-shares role name k l n named in
    absurd (cc (shared, differ)))
    (λ (n : has_name role name k ≡ false). rw (t, n) (removed-there role name test ks l apart.1 f named)))
  where
    unnamed : (ms : List LinkView) (k : LinkView) → has_name role name k ≡ true → Every (λ m. shares_name (keys k) (keys m) ≡ false) ms → Every (λ m. has_name role name m ≡ false) ms
    unnamed [] k n all = tt
    unnamed (m ∷ ms) k n all = (
      by-bool (has_name role name m)
          (λ (t : has_name role name m ≡ true). let shared = named-shares role name k m n t in let differ = all.0 in absurd (cc (shared, differ)))
          (λ (f : has_name role name m ≡ false). f),
      unnamed ms k n all.1,
    )

pub removed-other : (role : Role) (name : List ℕ) (test : LinkView → Bool) (links : List LinkView) (l : LinkView)
    → find test links ≡ Some l → has_name role name l ≡ false → find (has_name role name) (remove_first test links) ≡ find (has_name role name) links
removed-other role name test [] l found other = absurd (cc)
removed-other role name test (k ∷ ks) l found other =
    by-bool (test k)
    (λ (t : test k ≡ true).
    let f = rw t at found in
    let is : k ≡ l = cc f in
    let n : has_name role name k ≡ false = ap (has_name role name) is ∙ other in
    rw (t, n) refl)
    (λ (t : test k ≡ false).
    let f = rw t at found in
    by-bool (has_name role name k)
    (λ (n : has_name role name k ≡ true). rw (t, n) refl)
    (λ (n : has_name role name k ≡ false). rw (t, n) (removed-other role name test ks l f other)))

-- # An attach joins a link

-- the link of the name is met where the test is of it; else it is made
pub record Meets (test : LinkView → Bool) (role : Role) (name : List ℕ) (links : List LinkView) : Type 0 where
  pub only : (l : LinkView) → test l ≡ true → has_name role name l ≡ true
  pub all : (l : LinkView) → find (has_name role name) links ≡ Some l → test l ≡ true

pub joined-there : (v : View) (test : LinkView → Bool) (role : Role) (name : List ℕ) (change : LinkView → LinkView) → KeepsName change → Meets test role name v.links
    → (o : Option LinkView) → find (has_name role name) v.links ≡ o → find (has_name role name) (join_link test role name change v).links ≡ Some (change (or_this o (new_link v.made role name)))
joined-there v test role name change keeps m None h =
    let none = none-both (has_name role name) test v.links m.only h in
    let fresh : has_name role name (change (new_link v.made role name)) ≡ true = changed-name role name change keeps (new_link v.made role name) ∙ name-self role name in
    rw none (found-more (has_name role name) v.links (change (new_link v.made role name)) h fresh)
joined-there v test role name change keeps m (Some l) h =
    let there = found-both (has_name role name) test v.links l m.only h (m.all l h) in
    rw there (changed-there role name test change v.links l keeps h there)

-- a link of another name is joined
pub joined-other : (v : View) (test : LinkView → Bool) (role : Role) (name : List ℕ) (role' : Role) (name' : List ℕ) (change : LinkView → LinkView) → KeepsName change
    → ((l : LinkView) → test l ≡ true → has_name role name l ≡ true) → same_role role' role && pointwise nat_eq name' name ≡ false
    → find (has_name role' name') (join_link test role name change v).links ≡ find (has_name role' name') v.links
joined-other v test role name role' name' change keeps only differ = by (find test v.links) refl
  where
    other : (l : LinkView) → has_name role name l ≡ true → has_name role' name' l ≡ false
    other l h = let n = named-is role name l h in let r = n.role_is in let s = n.name_is in rw (← r, ← s) differ

    by : (o : Option LinkView) → find test v.links ≡ o → find (has_name role' name') (join_link test role name change v).links ≡ find (has_name role' name') v.links
    by None h =
        let fresh : has_name role' name' (change (new_link v.made role name)) ≡ false = changed-name role' name' change keeps (new_link v.made role name) ∙ differ in
        rw h (more-alone (has_name role' name') v.links (change (new_link v.made role name)) fresh)
    by (Some l) h = rw h (changed-other role' name' test change v.links l keeps h (other l (only l (found-passes test v.links l h))))
