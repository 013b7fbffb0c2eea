-- The canonical spelling of a value without parts.
use Rattle.std.proofs.Common.{◌≡◌, ℕ, ◌+◌, ◌%◌, ◌^◌, ◌<◌, ◌≤◌, ◌≢◌, Bool, true, false, ltb, eqb, List, [], ◌∷◌, ◌++◌, length, Option, Some, None, refl, ◌∙◌, arith}
use Rattle.std.specs.Int.{to_be_bytes, w16, w32, w64}
use Rattle.std.proofs.lemmas.Bool.{ltb-true, lt-ltb, le-ltb, ne_eqb}
use Rattle.amqp_types.specs.declared.class.Kind.{Kind}
use Rattle.amqp_types.specs.declared.class.Run.{Run}
use Rattle.amqp_types.specs.Codes.{class_of}
use Rattle.amqp_types.specs.Grammar.{is_run}
use Rattle.amqp_types.specs.Reading.{◌>>=◌}
use Rattle.amqp_types.specs.Canon.{number_draft, octets_draft, list_draft, spelled}
use Rattle.amqp_frames.specs.Field.{run_octets, list_octets}
use Rattle.amqp_types.proofs.Choice.{spelled_with}

pub null_form : spelled None (number_draft Kind.Null 0) ≡ Some (0x40 ∷ [])
unfolding class_of
null_form = spelled_with (number_draft Kind.Null 0)

pub true_form : spelled None (number_draft Kind.Bool 1) ≡ Some (0x41 ∷ [])
unfolding class_of
true_form = spelled_with (number_draft Kind.Bool 1)

pub false_form : spelled None (number_draft Kind.Bool 0) ≡ Some (0x42 ∷ [])
unfolding class_of
false_form = spelled_with (number_draft Kind.Bool 0)

pub ubyte_form : (n : ℕ) → n < 2 ^ 8 → spelled None (number_draft Kind.Ubyte n) ≡ Some (0x50 ∷ n ∷ [])
unfolding class_of
ubyte_form n lt =
    let e : ltb n (2 ^ 8) ≡ true = lt-ltb _ _ lt in
    let low : n % 256 ≡ n = omega arith in
    spelled_with (number_draft Kind.Ubyte n) ∙ simp (e, low)

pub ushort_form : (n : ℕ) → n < 2 ^ 16 → spelled None (number_draft Kind.Ushort n) ≡ Some (0x60 ∷ to_be_bytes w16 n)
unfolding class_of
ushort_form n lt = let e : ltb n (2 ^ 16) ≡ true = lt-ltb _ _ lt in spelled_with (number_draft Kind.Ushort n) ∙ simp e

pub uint_zero : spelled None (number_draft Kind.Uint 0) ≡ Some (0x43 ∷ [])
unfolding class_of
uint_zero = spelled_with (number_draft Kind.Uint 0)

pub uint_small : (n : ℕ) → n ≢ 0 → n < 256 → spelled None (number_draft Kind.Uint n) ≡ Some (0x52 ∷ n ∷ [])
unfolding class_of
uint_small n ne lt =
    let e0 : ltb n (2 ^ 32) ≡ true = lt-ltb _ _ (omega arith) in
    let e1 : eqb n 0 ≡ false = ne_eqb _ _ ne in
    let e2 : ltb n 256 ≡ true = lt-ltb _ _ lt in
    let low : n % 256 ≡ n = omega arith in
    spelled_with (number_draft Kind.Uint n) ∙ simp (e0, e1, e2, low)

pub uint_large : (n : ℕ) → 256 ≤ n → n < 2 ^ 32 → spelled None (number_draft Kind.Uint n) ≡ Some (0x70 ∷ to_be_bytes w32 n)
unfolding class_of
uint_large n le lt =
    let e0 : ltb n (2 ^ 32) ≡ true = lt-ltb _ _ lt in
    let e1 : eqb n 0 ≡ false = ne_eqb _ _ (λ e. omega (arith, e)) in
    let e2 : ltb n 256 ≡ false = le-ltb _ _ le in
    spelled_with (number_draft Kind.Uint n) ∙ simp (e0, e1, e2)

pub ulong_zero : spelled None (number_draft Kind.Ulong 0) ≡ Some (0x44 ∷ [])
unfolding class_of
ulong_zero = spelled_with (number_draft Kind.Ulong 0)

pub ulong_small : (n : ℕ) → n ≢ 0 → n < 256 → spelled None (number_draft Kind.Ulong n) ≡ Some (0x53 ∷ n ∷ [])
unfolding class_of
ulong_small n ne lt =
    let e0 : ltb n (2 ^ 64) ≡ true = lt-ltb _ _ (omega arith) in
    let e1 : eqb n 0 ≡ false = ne_eqb _ _ ne in
    let e2 : ltb n 256 ≡ true = lt-ltb _ _ lt in
    let low : n % 256 ≡ n = omega arith in
    spelled_with (number_draft Kind.Ulong n) ∙ simp (e0, e1, e2, low)

pub ulong_large : (n : ℕ) → 256 ≤ n → n < 2 ^ 64 → spelled None (number_draft Kind.Ulong n) ≡ Some (0x80 ∷ to_be_bytes w64 n)
unfolding class_of
ulong_large n le lt =
    let e0 : ltb n (2 ^ 64) ≡ true = lt-ltb _ _ lt in
    let e1 : eqb n 0 ≡ false = ne_eqb _ _ (λ e. omega (arith, e)) in
    let e2 : ltb n 256 ≡ false = le-ltb _ _ le in
    spelled_with (number_draft Kind.Ulong n) ∙ simp (e0, e1, e2)

-- ---- octets

binary_by : (text : List ℕ) (b0 b1 : Bool) → ltb (length text) 256 ≡ b0 → ltb (length text) (2 ^ 32) ≡ b1 → spelled None (octets_draft Run.Binary text) ≡ run_octets 0xa0 0xb0 text
unfolding class_of
binary_by text true b1 e0 e1 =
    let low : length text % 256 ≡ length text = omega (arith, ltb-true _ _ e0) in
    spelled_with (octets_draft Run.Binary text) ∙ simp (e0, low)
binary_by text false true e0 e1 = spelled_with (octets_draft Run.Binary text) ∙ simp (e0, e1)
binary_by text false false e0 e1 = spelled_with (octets_draft Run.Binary text) ∙ simp (e0, e1)

pub binary_form : (text : List ℕ) → spelled None (octets_draft Run.Binary text) ≡ run_octets 0xa0 0xb0 text
binary_form text = binary_by text (ltb (length text) 256) (ltb (length text) (2 ^ 32)) refl refl

str_by : (text : List ℕ) (b0 b1 : Bool) → is_run Run.Str text ≡ true → ltb (length text) 256 ≡ b0 → ltb (length text) (2 ^ 32) ≡ b1 → spelled None (octets_draft Run.Str text) ≡ run_octets 0xa1 0xb1 text
unfolding class_of
str_by text true b1 e e0 e1 =
    let low : length text % 256 ≡ length text = omega (arith, ltb-true _ _ e0) in
    spelled_with (octets_draft Run.Str text) ∙ simp (e, e0, low)
str_by text false true e e0 e1 = spelled_with (octets_draft Run.Str text) ∙ simp (e, e0, e1)
str_by text false false e e0 e1 = spelled_with (octets_draft Run.Str text) ∙ simp (e, e0, e1)

pub str_form : (text : List ℕ) → is_run Run.Str text ≡ true → spelled None (octets_draft Run.Str text) ≡ run_octets 0xa1 0xb1 text
str_form text e = str_by text (ltb (length text) 256) (ltb (length text) (2 ^ 32)) e refl refl

symbol_by : (text : List ℕ) (b0 b1 : Bool) → is_run Run.Symbol text ≡ true → ltb (length text) 256 ≡ b0 → ltb (length text) (2 ^ 32) ≡ b1 → spelled None (octets_draft Run.Symbol text) ≡ run_octets 0xa3 0xb3 text
unfolding class_of
symbol_by text true b1 e e0 e1 =
    let low : length text % 256 ≡ length text = omega (arith, ltb-true _ _ e0) in
    spelled_with (octets_draft Run.Symbol text) ∙ simp (e, e0, low)
symbol_by text false true e e0 e1 = spelled_with (octets_draft Run.Symbol text) ∙ simp (e, e0, e1)
symbol_by text false false e e0 e1 = spelled_with (octets_draft Run.Symbol text) ∙ simp (e, e0, e1)

pub symbol_form : (text : List ℕ) → is_run Run.Symbol text ≡ true → spelled None (octets_draft Run.Symbol text) ≡ run_octets 0xa3 0xb3 text
symbol_form text e = symbol_by text (ltb (length text) 256) (ltb (length text) (2 ^ 32)) e refl refl

no_symbol_by : (text : List ℕ) (b : Bool) → is_run Run.Symbol text ≡ false → ltb (length text) 256 ≡ b → spelled None (octets_draft Run.Symbol text) ≡ None
unfolding class_of
no_symbol_by text true e e0 = spelled_with (octets_draft Run.Symbol text) ∙ simp (e, e0)
no_symbol_by text false e e0 = spelled_with (octets_draft Run.Symbol text) ∙ simp (e, e0)

pub no_symbol : (text : List ℕ) → is_run Run.Symbol text ≡ false → spelled None (octets_draft Run.Symbol text) ≡ None
no_symbol text e = no_symbol_by text (ltb (length text) 256) e refl

-- ---- a list

-- octets with others behind them
abbrev pub before : Option (List ℕ) → List ℕ → Option (List ℕ)
before form x = form >>= λ os. Some (os ++ x)

list_by : (count : ℕ) (x : List ℕ) (b0 b1 b2 b3 b4 : Bool) → eqb count 0 ≡ b0 → ltb (1 + length x) 256 ≡ b1 → ltb count 256 ≡ b2 → ltb (4 + length x) (2 ^ 32) ≡ b3 → ltb count (2 ^ 32) ≡ b4
    → spelled None (list_draft count x) ≡ before (list_octets count (length x)) x
unfolding class_of
list_by count x true b1 b2 b3 b4 e0 e1 e2 e3 e4 = spelled_with (list_draft count x) ∙ simp e0
list_by count x false true true b3 b4 e0 e1 e2 e3 e4 =
    let low : (1 + length x) % 256 ≡ 1 + length x = omega (arith, ltb-true _ _ e1) in
    let few : count % 256 ≡ count = omega (arith, ltb-true _ _ e2) in
    spelled_with (list_draft count x) ∙ simp (e0, e1, e2, low, few)
list_by count x false true false true true e0 e1 e2 e3 e4 = spelled_with (list_draft count x) ∙ simp (e0, e1, e2, e3, e4)
list_by count x false true false true false e0 e1 e2 e3 e4 = spelled_with (list_draft count x) ∙ simp (e0, e1, e2, e3, e4)
list_by count x false true false false b4 e0 e1 e2 e3 e4 = spelled_with (list_draft count x) ∙ simp (e0, e1, e2, e3)
list_by count x false false b2 true true e0 e1 e2 e3 e4 = spelled_with (list_draft count x) ∙ simp (e0, e1, e3, e4)
list_by count x false false b2 true false e0 e1 e2 e3 e4 = spelled_with (list_draft count x) ∙ simp (e0, e1, e3, e4)
list_by count x false false b2 false b4 e0 e1 e2 e3 e4 = spelled_with (list_draft count x) ∙ simp (e0, e1, e3)

pub list_form : (count : ℕ) (x : List ℕ) → spelled None (list_draft count x) ≡ before (list_octets count (length x)) x
list_form count x = list_by count x (eqb count 0) (ltb (1 + length x) 256) (ltb count 256) (ltb (4 + length x) (2 ^ 32)) (ltb count (2 ^ 32)) refl refl refl refl refl
