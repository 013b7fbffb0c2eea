-- The canonical spelling of a number.
use Rattle.std.proofs.Common.{◌≡◌, cond, ◌%◌, ◌<◌, ◌≤◌, ◌^◌, ◌++◌, ℕ, false, true, ltb, eqb, List, [], ◌∷◌, length, Option, Some, refl, sym, ap, ◌∙◌, arith}
use Rattle.std.specs.Int.{to_be_bytes, w8, w16, w32, w64}
use Rattle.std.specs.Prelude.{option_map, Result, Ok, Err, is_ok, OnOk}
use Rattle.std.specs.declared.alloc.AllocError.{AllocError}
use Rattle.std.proofs.lemmas.Bool.{lt-ltb, le-ltb, ne_eqb}
use Rattle.std.proofs.lemmas.List.{append-nil}
use Rattle.amqp_types.specs.declared.class.Kind.{Kind}
use Rattle.amqp_types.specs.Codes.{class_of}
use Rattle.amqp_types.specs.Datum.{Datum, number}
use Rattle.amqp_types.specs.Canon.{number_form, number_draft, canon, AppendsCanon}
use Rattle.amqp_types.specs.Writing.{number_code}
use Rattle.amqp_types.proofs.Canonical.{canon_is}
use Rattle.amqp_types.proofs.Choice.{spelled_with}

pub number_canon : (k : Kind) (n code : ℕ) (b : List ℕ) → number_code k n ≡ code → number_form (class_of code) k n ≡ Some b → canon (number k n) ≡ Some (code ∷ b)
number_canon k n code b e f = canon_is (number k n) (omega arith) ∙ spelled_with (number_draft k n) ∙ rw (e, f) (ap (λ (x : List ℕ). Some (code ∷ x)) (append-nil b))

pub null_canon : canon (number Kind.Null 0) ≡ Some (0x40 ∷ [])
unfolding class_of
null_canon = number_canon Kind.Null 0 0x40 [] refl refl

pub true_canon : canon (number Kind.Bool 1) ≡ Some (0x41 ∷ [])
unfolding class_of
true_canon = number_canon Kind.Bool 1 0x41 [] refl refl

pub false_canon : canon (number Kind.Bool 0) ≡ Some (0x42 ∷ [])
unfolding class_of
false_canon = number_canon Kind.Bool 0 0x42 [] refl refl

pub ubyte_canon : (n : ℕ) → n < 2 ^ 8 → canon (number Kind.Ubyte n) ≡ Some (0x50 ∷ to_be_bytes w8 n)
unfolding class_of
ubyte_canon n lt = let e : ltb n (2 ^ 8) ≡ true = lt-ltb _ _ lt in number_canon Kind.Ubyte n 0x50 (to_be_bytes w8 n) refl (simp e)

pub ushort_canon : (n : ℕ) → n < 2 ^ 16 → canon (number Kind.Ushort n) ≡ Some (0x60 ∷ to_be_bytes w16 n)
unfolding class_of
ushort_canon n lt = let e : ltb n (2 ^ 16) ≡ true = lt-ltb _ _ lt in number_canon Kind.Ushort n 0x60 (to_be_bytes w16 n) refl (simp e)

pub uint_zero : (n : ℕ) → n ≡ 0 → canon (number Kind.Uint n) ≡ Some (0x43 ∷ [])
unfolding class_of
uint_zero n z = rw z (number_canon Kind.Uint 0 0x43 [] refl refl)

pub uint_small : (n : ℕ) → (n ≡ 0 → ⊥) → n < 256 → canon (number Kind.Uint n) ≡ Some (0x52 ∷ to_be_bytes w8 n)
unfolding class_of
uint_small n z lt =
    let e : ltb n (2 ^ 32) ≡ true = lt-ltb _ _ (omega (arith, lt)) in
    let f : eqb n 0 ≡ false = ne_eqb n 0 z in
    let g : ltb n 256 ≡ true = lt-ltb _ _ lt in
    number_canon Kind.Uint n 0x52 (to_be_bytes w8 n) (simp (f, g)) (simp (e, g))

pub uint_large : (n : ℕ) → 256 ≤ n → n < 2 ^ 32 → canon (number Kind.Uint n) ≡ Some (0x70 ∷ to_be_bytes w32 n)
unfolding class_of
uint_large n le lt =
    let e : ltb n (2 ^ 32) ≡ true = lt-ltb _ _ lt in
    let f : eqb n 0 ≡ false = ne_eqb n 0 (λ q. omega (arith, q, le)) in
    let g : ltb n 256 ≡ false = le-ltb _ _ le in
    number_canon Kind.Uint n 0x70 (to_be_bytes w32 n) (simp (f, g)) (simp e)

pub ulong_zero : (n : ℕ) → n ≡ 0 → canon (number Kind.Ulong n) ≡ Some (0x44 ∷ [])
unfolding class_of
ulong_zero n z = rw z (number_canon Kind.Ulong 0 0x44 [] refl refl)

pub ulong_small : (n : ℕ) → (n ≡ 0 → ⊥) → n < 256 → canon (number Kind.Ulong n) ≡ Some (0x53 ∷ to_be_bytes w8 n)
unfolding class_of
ulong_small n z lt =
    let e : ltb n (2 ^ 64) ≡ true = lt-ltb _ _ (omega (arith, lt)) in
    let f : eqb n 0 ≡ false = ne_eqb n 0 z in
    let g : ltb n 256 ≡ true = lt-ltb _ _ lt in
    number_canon Kind.Ulong n 0x53 (to_be_bytes w8 n) (simp (f, g)) (simp (e, g))

pub ulong_large : (n : ℕ) → 256 ≤ n → n < 2 ^ 64 → canon (number Kind.Ulong n) ≡ Some (0x80 ∷ to_be_bytes w64 n)
unfolding class_of
ulong_large n le lt =
    let e : ltb n (2 ^ 64) ≡ true = lt-ltb _ _ lt in
    let f : eqb n 0 ≡ false = ne_eqb n 0 (λ q. omega (arith, q, le)) in
    let g : ltb n 256 ≡ false = le-ltb _ _ le in
    number_canon Kind.Ulong n 0x80 (to_be_bytes w64 n) (simp (f, g)) (simp e)

-- what one extend_from_slice has done
pub appended : (v : Datum) (x added : List ℕ) (r : Result (Unit {0}) AllocError) (old new : List ℕ) → canon v ≡ Some x → new ≡ cond (is_ok r) (old ++ added) old → x ≡ added → OnOk r (AppendsCanon v old new)
appended v x added (Ok u) old new c e same = (x, c, e ∙ ap (λ (y : List ℕ). old ++ y) (sym same))
appended v x added (Err u) old new c e same = tt

pub length_is : (o : Option (List ℕ)) (x : List ℕ) → o ≡ Some x → Some (length x) ≡ option_map (λ y. length y) o
length_is o x e = rw e refl

pub one_octet : (c n : ℕ) → n < 256 → (c ∷ to_be_bytes w8 n) ≡ (c ∷ n ∷ [])
one_octet c n lt = let e : n % 256 ≡ n = omega (arith, lt) in rw e refl
