-- The code that the writer chooses is the first of the table that fits.
use Rattle.std.proofs.Common.{◌≡◌, ℕ, ◌+◌, ◌-◌, ◌^◌, Bool, true, false, ltb, eqb, List, ◌∷◌, length, Option, Some, None, refl, ◌∙◌, arith}
use Rattle.std.proofs.lemmas.Bool.{eqb-true, eqb-false, ltb-true, lt-ltb}
use Rattle.amqp_types.specs.declared.class.Kind.{Kind}
use Rattle.amqp_types.specs.declared.class.Run.{Run}
use Rattle.amqp_types.specs.Codes.{class_of}
use Rattle.amqp_types.specs.Grammar.{is_run, is_even, is_element}
use Rattle.amqp_types.specs.Canon.{Draft, number_draft, octets_draft, list_draft, map_draft, array_draft, described_draft, draft_form, first_or, first_of, codes, spelled}
use Rattle.amqp_types.specs.Reading.{◌>>=◌}
use Rattle.amqp_types.specs.Writing.{code_for}

-- the first that fits is the one chosen
abbrev pub IsChosen : Draft → Type 0
IsChosen d = first_of codes d ≡ first_or (draft_form d (class_of (code_for d))) (code_for d) None

first_bind : (o : Option (List ℕ)) (c : ℕ) → first_or o c None ≡ (o >>= λ b. Some (c ∷ b))
first_bind (Some b) c = refl
first_bind None c = refl

uint_chosen : (n : ℕ) (b0 b1 b2 : Bool) → ltb n (2 ^ 32) ≡ b0 → eqb n 0 ≡ b1 → ltb n 256 ≡ b2 → IsChosen (number_draft Kind.Uint n)
unfolding class_of
uint_chosen n true true true e0 e1 e2 = simp (e0, e1, e2)
uint_chosen n true true false e0 e1 e2 = simp (e0, e1, e2)
uint_chosen n true false true e0 e1 e2 = simp (e0, e1, e2)
uint_chosen n true false false e0 e1 e2 = simp (e0, e1, e2)
uint_chosen n false true true e0 e1 e2 = simp (e0, e1, e2)
uint_chosen n false true false e0 e1 e2 = simp (e0, e1, e2)
uint_chosen n false false true e0 e1 e2 = simp (e0, e1, e2)
uint_chosen n false false false e0 e1 e2 = simp (e0, e1, e2)

ulong_chosen : (n : ℕ) (b0 b1 b2 : Bool) → ltb n (2 ^ 64) ≡ b0 → eqb n 0 ≡ b1 → ltb n 256 ≡ b2 → IsChosen (number_draft Kind.Ulong n)
unfolding class_of
ulong_chosen n true true true e0 e1 e2 = simp (e0, e1, e2)
ulong_chosen n true true false e0 e1 e2 = simp (e0, e1, e2)
ulong_chosen n true false true e0 e1 e2 = simp (e0, e1, e2)
ulong_chosen n true false false e0 e1 e2 = simp (e0, e1, e2)
ulong_chosen n false true true e0 e1 e2 = simp (e0, e1, e2)
ulong_chosen n false true false e0 e1 e2 = simp (e0, e1, e2)
ulong_chosen n false false true e0 e1 e2 = simp (e0, e1, e2)
ulong_chosen n false false false e0 e1 e2 = simp (e0, e1, e2)

compound_list : (count : ℕ) (content : List ℕ) (b0 b1 b2 : Bool) → eqb count 0 ≡ b0 → ltb (1 + length content) 256 ≡ b1 → ltb count 256 ≡ b2 → IsChosen (list_draft count content)
unfolding class_of
compound_list count content true true true e0 e1 e2 = simp (e0, e1, e2)
compound_list count content true true false e0 e1 e2 = simp (e0, e1, e2)
compound_list count content true false true e0 e1 e2 = simp (e0, e1, e2)
compound_list count content true false false e0 e1 e2 = simp (e0, e1, e2)
compound_list count content false true true e0 e1 e2 = simp (e0, e1, e2)
compound_list count content false true false e0 e1 e2 = simp (e0, e1, e2)
compound_list count content false false true e0 e1 e2 = simp (e0, e1, e2)
compound_list count content false false false e0 e1 e2 = simp (e0, e1, e2)

compound_map : (count : ℕ) (content : List ℕ) (b0 b1 b2 : Bool) → is_even count ≡ b0 → ltb (1 + length content) 256 ≡ b1 → ltb count 256 ≡ b2 → IsChosen (map_draft count content)
unfolding class_of
compound_map count content true true true e0 e1 e2 = simp (e0, e1, e2)
compound_map count content true true false e0 e1 e2 = simp (e0, e1, e2)
compound_map count content true false true e0 e1 e2 = simp (e0, e1, e2)
compound_map count content true false false e0 e1 e2 = simp (e0, e1, e2)
compound_map count content false true true e0 e1 e2 = simp (e0, e1, e2)
compound_map count content false true false e0 e1 e2 = simp (e0, e1, e2)
compound_map count content false false true e0 e1 e2 = simp (e0, e1, e2)
compound_map count content false false false e0 e1 e2 = simp (e0, e1, e2)

compound_array : (code count : ℕ) (content : List ℕ) (b0 b1 b2 : Bool) → is_element (class_of code) count ≡ b0 → ltb (1 + (1 + length content)) 256 ≡ b1 → ltb count 256 ≡ b2 → IsChosen (array_draft code count content)
unfolding class_of
compound_array code count content true true true e0 e1 e2 = simp (e0, e1, e2)
compound_array code count content true true false e0 e1 e2 = simp (e0, e1, e2)
compound_array code count content true false true e0 e1 e2 = simp (e0, e1, e2)
compound_array code count content true false false e0 e1 e2 = simp (e0, e1, e2)
compound_array code count content false true true e0 e1 e2 = simp (e0, e1, e2)
compound_array code count content false true false e0 e1 e2 = simp (e0, e1, e2)
compound_array code count content false false true e0 e1 e2 = simp (e0, e1, e2)
compound_array code count content false false false e0 e1 e2 = simp (e0, e1, e2)

binary_chosen : (text : List ℕ) (b0 b1 : Bool) → is_run Run.Binary text ≡ b0 → ltb (length text) 256 ≡ b1 → IsChosen (octets_draft Run.Binary text)
unfolding class_of
binary_chosen text true true e0 e1 = simp (e0, e1)
binary_chosen text true false e0 e1 = simp (e0, e1)
binary_chosen text false true e0 e1 = simp (e0, e1)
binary_chosen text false false e0 e1 = simp (e0, e1)

str_chosen : (text : List ℕ) (b0 b1 : Bool) → is_run Run.Str text ≡ b0 → ltb (length text) 256 ≡ b1 → IsChosen (octets_draft Run.Str text)
unfolding class_of
str_chosen text true true e0 e1 = simp (e0, e1)
str_chosen text true false e0 e1 = simp (e0, e1)
str_chosen text false true e0 e1 = simp (e0, e1)
str_chosen text false false e0 e1 = simp (e0, e1)

symbol_chosen : (text : List ℕ) (b0 b1 : Bool) → is_run Run.Symbol text ≡ b0 → ltb (length text) 256 ≡ b1 → IsChosen (octets_draft Run.Symbol text)
unfolding class_of
symbol_chosen text true true e0 e1 = simp (e0, e1)
symbol_chosen text true false e0 e1 = simp (e0, e1)
symbol_chosen text false true e0 e1 = simp (e0, e1)
symbol_chosen text false false e0 e1 = simp (e0, e1)

int_chosen : (n : ℕ) (b0 b1 b2 : Bool) → ltb n (2 ^ 32) ≡ b0 → ltb n 128 ≡ b1 → ltb n (2 ^ 32 - 128) ≡ b2 → IsChosen (number_draft Kind.Int n)
unfolding class_of
int_chosen n true true b2 e0 e1 e2 = let e3 : ltb n 256 ≡ true = lt-ltb _ _ (omega (arith, ltb-true _ _ e1)) in simp (e0, e1, e3)
int_chosen n true false true e0 e1 e2 = simp (e0, e1, e2)
int_chosen n true false false e0 e1 e2 = let e3 : ltb (n - (2 ^ 32 - 256)) 256 ≡ true = lt-ltb _ _ (omega (arith, ltb-true _ _ e0)) in simp (e0, e1, e2, e3)
int_chosen n false true b2 e0 e1 e2 = simp (e0, e1)
int_chosen n false false true e0 e1 e2 = simp (e0, e1, e2)
int_chosen n false false false e0 e1 e2 = simp (e0, e1, e2)

long_chosen : (n : ℕ) (b0 b1 b2 : Bool) → ltb n (2 ^ 64) ≡ b0 → ltb n 128 ≡ b1 → ltb n (2 ^ 64 - 128) ≡ b2 → IsChosen (number_draft Kind.Long n)
unfolding class_of
long_chosen n true true b2 e0 e1 e2 = let e3 : ltb n 256 ≡ true = lt-ltb _ _ (omega (arith, ltb-true _ _ e1)) in simp (e0, e1, e3)
long_chosen n true false true e0 e1 e2 = simp (e0, e1, e2)
long_chosen n true false false e0 e1 e2 = let e3 : ltb (n - (2 ^ 64 - 256)) 256 ≡ true = lt-ltb _ _ (omega (arith, ltb-true _ _ e0)) in simp (e0, e1, e2, e3)
long_chosen n false true b2 e0 e1 e2 = simp (e0, e1)
long_chosen n false false true e0 e1 e2 = simp (e0, e1, e2)
long_chosen n false false false e0 e1 e2 = simp (e0, e1, e2)

bool_chosen : (n : ℕ) (b0 b1 : Bool) → ltb n 2 ≡ b0 → eqb n 0 ≡ b1 → IsChosen (number_draft Kind.Bool n)
unfolding class_of
bool_chosen n true true e0 e1 = let e : n ≡ 0 = eqb-true _ _ e1 in rw e refl
bool_chosen n true false e0 e1 = let e : n ≡ 1 = omega (arith, ltb-true _ _ e0, eqb-false _ _ e1) in rw e refl
bool_chosen n false true e0 e1 = simp (e0, e1)
bool_chosen n false false e0 e1 = simp (e0, e1)

number_chosen : (k : Kind) (n : ℕ) → IsChosen (number_draft k n)
unfolding class_of
number_chosen Kind.Null n = refl
number_chosen Kind.Bool n = bool_chosen n (ltb n 2) (eqb n 0) refl refl
number_chosen Kind.Ubyte n = refl
number_chosen Kind.Ushort n = refl
number_chosen Kind.Uint n = uint_chosen n (ltb n (2 ^ 32)) (eqb n 0) (ltb n 256) refl refl refl
number_chosen Kind.Ulong n = ulong_chosen n (ltb n (2 ^ 64)) (eqb n 0) (ltb n 256) refl refl refl
number_chosen Kind.Sbyte n = refl
number_chosen Kind.Short n = refl
number_chosen Kind.Int n = int_chosen n (ltb n (2 ^ 32)) (ltb n 128) (ltb n (2 ^ 32 - 128)) refl refl refl
number_chosen Kind.Long n = long_chosen n (ltb n (2 ^ 64)) (ltb n 128) (ltb n (2 ^ 64 - 128)) refl refl refl
number_chosen Kind.FloatBits n = refl
number_chosen Kind.DoubleBits n = refl
number_chosen Kind.Dec32 n = refl
number_chosen Kind.Dec64 n = refl
number_chosen Kind.Char n = refl
number_chosen Kind.Timestamp n = refl

octets_chosen : (r : Run) (text : List ℕ) → IsChosen (octets_draft r text)
unfolding class_of
octets_chosen Run.Binary text = binary_chosen text true (ltb (length text) 256) refl refl
octets_chosen Run.Str text = str_chosen text (is_run Run.Str text) (ltb (length text) 256) refl refl
octets_chosen Run.Symbol text = symbol_chosen text (is_run Run.Symbol text) (ltb (length text) 256) refl refl
octets_chosen Run.Dec128 text = refl
octets_chosen Run.Uuid text = refl

described_chosen : (content : List ℕ) → IsChosen (described_draft content)
unfolding class_of
described_chosen content = refl

pub chosen : (d : Draft) → IsChosen d
chosen (number_draft k n) = number_chosen k n
chosen (octets_draft r text) = octets_chosen r text
chosen (list_draft count content) = compound_list count content (eqb count 0) (ltb (1 + length content) 256) (ltb count 256) refl refl refl
chosen (map_draft count content) = compound_map count content (is_even count) (ltb (1 + length content) 256) (ltb count 256) refl refl refl
chosen (array_draft code count content) = compound_array code count content (is_element (class_of code) count) (ltb (1 + (1 + length content)) 256) (ltb count 256) refl refl refl
chosen (described_draft content) = described_chosen content

-- the spelling with a code, and where there is none
pub spelled_with : (d : Draft) → spelled None d ≡ (draft_form d (class_of (code_for d)) >>= λ b. Some (code_for d ∷ b))
unfolding spelled
spelled_with d = chosen d ∙ first_bind (draft_form d (class_of (code_for d))) (code_for d)

pub spelled_under : (d : Draft) (code : ℕ) → spelled (Some code) d ≡ draft_form d (class_of code)
unfolding spelled
spelled_under d code = refl
