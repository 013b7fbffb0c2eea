-- Entries that are put one behind the other.
use Rattle.std.proofs.Common.{◌≡◌, ◌<◌, ◌≤◌, ◌+◌, ℕ, min, Bool, true, false, List, [], ◌∷◌, ◌++◌, length, drop, take, append_assoc, slice_index_or, refl, arith, ◌∙◌, ap, sym, subst, add-one}
use Rattle.std.specs.Prelude.{codes}
use Rattle.std.specs.Borrow.{Bor}
use native.Mathlib.Decide.{dec_le}
use Rattle.std.proofs.Math.Seq.{drop-cons}
use Rattle.std.proofs.Math.ListN.{drop_of_length-le}
use Rattle.amqp_performatives.specs.declared.field.Field.{Field}
use Rattle.amqp_performatives.specs.Part.{Part, Fields, field, no_field}
use Rattle.amqp_performatives.specs.Listed.{part_at, fields_at, is_absent}
use Rattle.amqp_trace.specs.Printed.{escaped, Continues, comma}
use Rattle.amqp_trace.specs.Names.{texts}
use Rattle.amqp_trace.specs.Lines.{present, Entries, length_text, dots, payload_text}

-- the names of the fields that are there, from a place on
abbrev pub from : List (Bor (List ℕ)) → List Field → ℕ → List (List ℕ)
from words fields place = present (texts (drop place words)) (fields_at (drop place fields))

-- what is put from here on makes the entries of all names
pub record SoFar (words : List (Bor (List ℕ))) (fields : List Field) (place : ℕ) (is_first : Bool) (old now : List ℕ) : Type 0 where
  pub then_all : (new : List ℕ) → Entries is_first (from words fields place) now new → Entries true (present (texts words) (fields_at fields)) old new

present_absent : (name : List ℕ) (names : List (List ℕ)) (p : Part) (fs : Fields) → is_absent p ≡ true → present (name ∷ names) (field p fs) ≡ present names fs
unfolding present
present_absent name names p fs e = rw e

present_there : (name : List ℕ) (names : List (List ℕ)) (p : Part) (fs : Fields) → is_absent p ≡ false → present (name ∷ names) (field p fs) ≡ name ∷ present names fs
unfolding present
present_there name names p fs e = rw e

module _ (words : List (Bor (List ℕ))) (fields : List Field) (place : ℕ) (w : Bor (List ℕ)) (f : Field) (in_words : place < length words) (in_fields : place < length fields) where
  from_next : from words fields place ≡ present ((slice_index_or words place w).now ∷ texts (drop (place + 1) words)) (field (part_at (slice_index_or fields place f)) (fields_at (drop (place + 1) fields)))
  from_next = rw (add-one, drop-cons words place w in_words, drop-cons fields place f in_fields)

  pub passed : (is_first : Bool) (old now : List ℕ) → is_absent (part_at (slice_index_or fields place f)) ≡ true → SoFar words fields place is_first old now → SoFar words fields (place + 1) is_first old now
  passed is_first old now e so =
      record { then_all = λ new h. so.then_all new (subst (λ (names : List (List ℕ)). Entries is_first names now new) (sym (from_next ∙ present_absent (slice_index_or words place w).now (texts (drop (place + 1) words)) (part_at (slice_index_or fields place f)) (fields_at (drop (place + 1) fields)) e)) h) }

  pub put_one : (is_first : Bool) (old now next : List ℕ) → is_absent (part_at (slice_index_or fields place f)) ≡ false → Continues (now ++ comma is_first ++ (slice_index_or words place w).now ++ codes "=") next → SoFar words fields place is_first old now → SoFar words fields (place + 1) false old next
  put_one is_first old now next e goes so =
      record { then_all = λ new h. so.then_all new (subst (λ (names : List (List ℕ)). Entries is_first names now new) (sym (from_next ∙ present_there (slice_index_or words place w).now (texts (drop (place + 1) words)) (part_at (slice_index_or fields place f)) (fields_at (drop (place + 1) fields)) e)) (next, goes, h)) }

none_left : (names : List (List ℕ)) → present names no_field ≡ []
unfolding present
none_left [] = refl
none_left (name ∷ names) = refl

no_words : (words : List (Bor (List ℕ))) (fields : List Field) (place : ℕ) → length words ≤ place → from words fields place ≡ []
unfolding present
no_words words fields place h = rw (drop_of_length-le words h)

no_fields : (words : List (Bor (List ℕ))) (fields : List Field) (place : ℕ) → length fields ≤ place → from words fields place ≡ []
no_fields words fields place h = rw (drop_of_length-le fields h) (none_left (texts (drop place words)))

from_end : (words : List (Bor (List ℕ))) (fields : List Field) (place : ℕ) → min (length fields) (length words) ≤ place → from words fields place ≡ []
from_end words fields place h = elim (dec_le (length words) place) [ yes p ↦ no_words words fields place p | no p ↦ no_fields words fields place (omega arith) ]

pub all_put : (words : List (Bor (List ℕ))) (fields : List Field) (place : ℕ) (is_first : Bool) (old now : List ℕ) → min (length fields) (length words) ≤ place → SoFar words fields place is_first old now → Entries true (present (texts words) (fields_at fields)) old now
all_put words fields place is_first old now h so = so.then_all now (subst (λ (names : List (List ℕ)). Entries is_first names now now) (sym (from_end words fields place h)) refl)

-- what three puts make
pub three : (a b c d x y z : List ℕ) → b ≡ a ++ x → c ≡ b ++ y → d ≡ c ++ z → d ≡ a ++ ((x ++ y) ++ z)
three a b c d x y z e f g = rw (g, f, e) (simp append_assoc)

payload_there : (p : List ℕ) → 0 < length p → payload_text p ≡ (length_text (length p) ++ escaped (take 64 p)) ++ dots p
payload_there [] h = absurd (omega arith)
payload_there (o ∷ os) h = refl

pub payload_put : (p a b c d : List ℕ) → 0 < length p → b ≡ a ++ length_text (length p) → c ≡ b ++ escaped (take 64 p) → d ≡ c ++ dots p → d ≡ a ++ payload_text p
payload_put p a b c d h e f g = three a b c d (length_text (length p)) (escaped (take 64 p)) (dots p) e f g ∙ ap (λ (t : List ℕ). a ++ t) (sym (payload_there p h))
