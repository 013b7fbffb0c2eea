-- A field that is read is the field that was written, and what was written is read again.
use Rattle.std.proofs.Common.{◌≡◌, ℕ, ◌+◌, ◌≤◌, Bool, true, false, cond, ltb, List, ◌++◌, length, take, drop, Option, Some, None, refl, sym, ap, subst, ◌∙◌, append_assoc, arith}
use Rattle.std.proofs.lemmas.Bool.{ltb-false, le-ltb}
use Rattle.std.proofs.lemmas.List.{take_at, drop_at, take-append-drop, length-append, length-take}
use Rattle.amqp_types.specs.declared.class.Width.{Width}
use Rattle.amqp_types.specs.Codes.{octets_in}
use Rattle.amqp_types.specs.Grammar.{number_of, IsField, IsCompound}
use Rattle.amqp_types.specs.Reading.{◌>>=◌, split, field_at, compound_at}

-- the value of a step that is there
pub bind_some : {A B : Type 0} (o : Option A) (f : A → Option B) (y : B) → (o >>= f) ≡ Some y → (x : A) × (o ≡ Some x) × (f x ≡ Some y)
bind_some (Some x) f y e = (x, refl, e)
bind_some None f y e = absurd cc

pub guard_past : {A : Type 0} (b : Bool) (x y : A) → cond b None (Some x) ≡ Some y → (b ≡ false) × (x ≡ y)
guard_past true x y e = absurd cc
guard_past false x y e = (refl, cc)

pub guard_some : {A : Type 0} (b : Bool) (o : Option A) (y : A) → cond b o None ≡ Some y → (b ≡ true) × (o ≡ Some y)
guard_some true o y e = (refl, e)
guard_some false o y e = absurd cc

abbrev some : {A : Type 0} → A → Option A
some x = Some x

pub some_is : {A : Type 0} (x y : A) → some x ≡ some y → x ≡ y
some_is x y e = cc

-- ---- the first octets

pub split_takes : (n : ℕ) (os : List ℕ) (x : List ℕ × List ℕ) → split n os ≡ Some x → (os ≡ x.0 ++ x.1) × (length x.0 ≡ n)
split_takes n os x e =
    let g = guard_past (ltb (length os) n) (take n os, drop n os) x e in
    let long : n ≤ length os = ltb-false _ _ g.0 in
    subst (λ (y : List ℕ × List ℕ). (os ≡ y.0 ++ y.1) × (length y.0 ≡ n)) g.1 (sym (take-append-drop n os), omega (arith, length-take n os))

pub split_again : (n : ℕ) (a r : List ℕ) → length a ≡ n → split n (a ++ r) ≡ Some (a, r)
split_again n a r len =
    let long : ltb (length (a ++ r)) n ≡ false = le-ltb _ _ (omega (arith, length-append a r)) in
    rw (long, take_at a r n len, drop_at a r n len) refl

-- ---- a number

pub record TakesField (w : Width) (n : ℕ) (os rest : List ℕ) : Type 0 where
  pub head : List ℕ
  pub field_is : IsField w n head
  pub parts : os ≡ head ++ rest

pub field_takes : (w : Width) (os : List ℕ) (x : ℕ × List ℕ) → field_at w os ≡ Some x → TakesField w x.0 os x.1
unfolding field_at
field_takes w os x e =
    let b = bind_some (split (octets_in w) os) (λ y. Some (number_of y.0, y.1)) x e in
    let s = split_takes (octets_in w) os b.0 b.1 in
    subst (λ (y : ℕ × List ℕ). TakesField w y.0 os y.1) (some_is (number_of b.0.0, b.0.1) x b.2) (record { head = b.0.0; field_is = (s.1, refl); parts = s.0 })

pub field_again : (w : Width) (n : ℕ) (head rest : List ℕ) → IsField w n head → field_at w (head ++ rest) ≡ Some (n, rest)
unfolding field_at
field_again w n head rest h = rw (split_again (octets_in w) head rest h.0, h.1) refl

-- ---- size and count

pub record TakesCompound (w : Width) (count : ℕ) (content os rest : List ℕ) : Type 0 where
  pub body : List ℕ
  pub compound : IsCompound w count content body
  pub parts : os ≡ body ++ rest

pub compound_takes : (w : Width) (os : List ℕ) (x : (ℕ × List ℕ) × List ℕ) → compound_at w os ≡ Some x → TakesCompound w x.0.0 x.0.1 os x.1
unfolding compound_at
compound_takes w os x e =
    let a = bind_some (field_at w os) (λ size. split size.0 size.1 >>= λ inside. field_at w inside.0 >>= λ count. Some (count, inside.1)) x e in
    let b = bind_some (split a.0.0 a.0.1) (λ inside. field_at w inside.0 >>= λ count. Some (count, inside.1)) x a.2 in
    let c = bind_some (field_at w b.0.0) (λ count. Some (count, b.0.1)) x b.2 in
    let f = field_takes w os a.0 a.1 in
    let s = split_takes a.0.0 a.0.1 b.0 b.1 in
    let g = field_takes w b.0.0 c.0 c.1 in
    let size : octets_in w + length c.0.1 ≡ a.0.0 = omega (arith, s.1, ap length g.parts, length-append g.head c.0.1, g.field_is.0) in
    let whole : os ≡ (f.head ++ (g.head ++ c.0.1)) ++ b.0.1 = f.parts ∙ ap (λ (t : List ℕ). f.head ++ t) (s.0 ∙ ap (λ (t : List ℕ). t ++ b.0.1) g.parts) ∙ sym (append_assoc f.head (g.head ++ c.0.1) b.0.1) in
    subst (λ (y : (ℕ × List ℕ) × List ℕ). TakesCompound w y.0.0 y.0.1 os y.1) (some_is (c.0, b.0.1) x c.2)
    (record { body = f.head ++ (g.head ++ c.0.1); compound = record { size_field = f.head; count_field = g.head; size_is = (f.field_is.0, f.field_is.1 ∙ sym size); count_is = g.field_is; parts = refl }; parts = whole })

pub compound_again : (w : Width) (count : ℕ) (content body rest : List ℕ) → IsCompound w count content body → compound_at w (body ++ rest) ≡ Some ((count, content), rest)
unfolding compound_at
compound_again w count content body rest h =
    let regrouped : body ++ rest ≡ h.size_field ++ ((h.count_field ++ content) ++ rest) = ap (λ (t : List ℕ). t ++ rest) h.parts ∙ append_assoc h.size_field (h.count_field ++ content) rest in
    let len : length (h.count_field ++ content) ≡ octets_in w + length content = omega (arith, length-append h.count_field content, h.count_is.0) in
    rw (regrouped, field_again w (octets_in w + length content) h.size_field ((h.count_field ++ content) ++ rest) h.size_is, split_again (octets_in w + length content) (h.count_field ++ content) rest len, field_again w count h.count_field content h.count_is) refl
