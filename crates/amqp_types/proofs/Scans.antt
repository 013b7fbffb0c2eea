-- Passing over parts one after the other, as a loop does.
use Rattle.std.proofs.Common.{◌≡◌, ◌≤◌, ◌-◌, ℕ, suc, List, length, take, drop, eqb, Bool, true, false, cond, Option, Some, None, refl, sym, ap, subst, ◌∙◌, arith}
use Rattle.std.specs.Prelude.{is_some, MatchOption}
use Rattle.std.proofs.lemmas.List.{take-append-drop}
use Rattle.amqp_types.specs.Datum.{Datum, Data, item}
use Rattle.amqp_types.specs.Reading.{◌>>=◌, after, parts_at, all_parts_at, part_at}
use Rattle.amqp_types.specs.Grammar.{BeginsWithValue, SpellsWithin}
use Rattle.amqp_types.proofs.Laws.{nothing_read, rest_is_short, spelling_taken}
use Rattle.amqp_types.proofs.Compounds.{some_is}
use Rattle.amqp_types.proofs.Loop.{Reader}

from_after : {A : Type 0} (o : Option (A × List ℕ)) (r : List ℕ) → Some r ≡ after o → (x : A × List ℕ) × (o ≡ Some x) × (x.1 ≡ r)
from_after (Some x) r e = (x, refl, some_is x.1 r (sym e))
from_after None r e = absurd cc

none_after : {A : Type 0} (o : Option (A × List ℕ)) → None ≡ after o → o ≡ None
none_after (Some x) e = absurd cc
none_after None e = refl

after_item : (v : Datum) (o : Option (Data × List ℕ)) → after (o >>= λ x. Some (item v x.0, x.1)) ≡ after o
after_item v (Some x) = refl
after_item v None = refl

pub skips_part : (part : Reader) (n m : ℕ) (os r : List ℕ) (total : Option (List ℕ)) → n ≡ suc m → Some r ≡ after (part os) → after (parts_at part n os) ≡ total → after (parts_at part m r) ≡ total
unfolding parts_at
skips_part part n m os r total k h so_far =
    let x = from_after (part os) r h in
    let one : after (parts_at part n os) ≡ after (parts_at part m r) = rw (k, x.1, x.2) (after_item x.0.0 (parts_at part m r)) in
    sym one ∙ so_far

pub stops_at_part : (part : Reader) (n m : ℕ) (os : List ℕ) (count : ℕ) (bytes : List ℕ) → n ≡ suc m → None ≡ after (part os) → after (parts_at part n os) ≡ after (parts_at part count bytes) → false ≡ is_some (all_parts_at part count bytes)
unfolding parts_at all_parts_at
stops_at_part part n m os count bytes k h so_far =
    let one : after (parts_at part n os) ≡ None = rw (k, none_after (part os) h) refl in
    rw (none_after (parts_at part count bytes) (sym one ∙ so_far)) refl

is_some_cond : (b : Bool) (d : Data) → b ≡ is_some (cond b (Some d) None)
is_some_cond true d = refl
is_some_cond false d = refl

pub at_end : (part : Reader) (n : ℕ) (os : List ℕ) (count : ℕ) (bytes : List ℕ) (b : Bool) → n ≡ 0 → b ≡ eqb (length os) 0 → after (parts_at part n os) ≡ after (parts_at part count bytes) → b ≡ is_some (all_parts_at part count bytes)
unfolding parts_at all_parts_at
at_end part n os count bytes b k e so_far =
    let one : after (parts_at part n os) ≡ Some os = rw k refl in
    let x = from_after (parts_at part count bytes) os (sym one ∙ so_far) in
    rw (x.1, x.2, ← e) (is_some_cond b x.0.0)

pub no_scan : (n : ℕ) (bytes : List ℕ) → None ≡ after (part_at n None bytes) → BeginsWithValue n bytes → ⊥
no_scan n bytes h q = nothing_read n bytes (none_after (part_at n None bytes) h) q.0 q.1 q.2 q.3 q.4

-- how far a value reaches
pub scan_short : (n : ℕ) (bytes r : List ℕ) → Some r ≡ after (part_at n None bytes) → length r ≤ length bytes
scan_short n bytes r h =
    let x = from_after (part_at n None bytes) r h in
    omega (arith, rest_is_short n bytes x.0.0 x.0.1 x.1, ap length x.2)

pub scan_spelled : (n : ℕ) (bytes r : List ℕ) → Some r ≡ after (part_at n None bytes) → (v : Datum) × SpellsWithin n v (take (length bytes - length r) bytes)
scan_spelled n bytes r h =
    let x = from_after (part_at n None bytes) r h in
    (x.0.0, subst (λ (s : List ℕ). SpellsWithin n x.0.0 (take (length bytes - length s) bytes)) x.2 (spelling_taken n bytes x.0.0 x.0.1 x.1))

-- what the answer of a scan says of the octets
abbrev pub IsScanned : ℕ → List ℕ → Option ℕ → Type 0
IsScanned n bytes answer = MatchOption answer (BeginsWithValue n bytes → ⊥) (λ used. (used ≤ length bytes) × (v : Datum) × SpellsWithin n v (take used bytes))

pub scanned_some : (n : ℕ) (bytes : List ℕ) (answer : Option ℕ) → IsScanned n bytes answer → is_some answer ≡ true → BeginsWithValue n bytes
scanned_some n bytes (Some used) h e = (h.1, take used bytes, drop used bytes, h.2, sym (take-append-drop used bytes))
scanned_some n bytes None h e = absurd cc
