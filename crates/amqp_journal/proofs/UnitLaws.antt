-- What is put out comes behind all that was put out before, so numbers of units stand.
use Rattle.std.proofs.Common.{◌≡◌, ◌≤◌, ◌<◌, ℕ, ◌+◌, ◌==◌, Bool, true, false, List, [], ◌∷◌, ◌++◌, length, refl, sym, nat_le, arith, append-nil, append_assoc, subst, length-append}
use Rattle.std.proofs.lemmas.Bool.Decides.{nat_tests}
use Rattle.amqp_laws.specs.declared.entry.Entry.{Entry}
use Rattle.amqp_journal.specs.Log.{Log, logging, putting}
use Rattle.amqp_journal.specs.Units.{octets_sent, put_at, put_from, units_from, units, PutWithin}

none-past : (n i : ℕ) (put : List (ℕ × List ℕ)) → n < i → PutWithin n put → put_from i put ≡ []
none-past n i [] h w = refl
none-past n i (p ∷ put) h w =
    let test : nat_le i p.0 ≡ false = (let k : p.0 ≤ n = w.0 in grind (arith, nat_tests, h, k)) in
    rw test (none-past n i put h w.1)

all-at : (i : ℕ) (put : List (ℕ × List ℕ)) → PutWithin i put → put_from i put ≡ put_at i put
all-at i [] w = refl
all-at i (p ∷ put) w =
    let test : nat_le i p.0 ≡ (p.0 == i) = (let k : p.0 ≤ i = w.0 in grind (arith, nat_tests, k)) in
    rw (test, all-at i put w.1) refl

-- of an entry more
units-logged : (i : ℕ) (entries : List Entry) (e : Entry) (put : List (ℕ × List ℕ)) → PutWithin (i + length entries) put
    → units_from i (entries ++ e ∷ []) put ≡ units_from i entries put ++ octets_sent e
units-logged i [] e put w =
    let P : ℕ → Type 0 = λ n. PutWithin n put in
    let here : i + 0 ≡ i = omega arith in
    let within : PutWithin i put = subst P here w in
    rw (none-past i (i + 1) put (omega arith) within, all-at i put within) (append-nil (put_at i put ++ octets_sent e))
units-logged i (d ∷ entries) e put w =
    let P : ℕ → Type 0 = λ n. PutWithin n put in
    let same : i + length (d ∷ entries) ≡ i + 1 + length entries = omega arith in
    let rest = units-logged (i + 1) entries e put (subst P same w) in
    rw rest (sym (append_assoc (put_at i put ++ octets_sent d) (units_from (i + 1) entries put) (octets_sent e)))

at-other : (i n : ℕ) (x : List ℕ) (put : List (ℕ × List ℕ)) → i < n → put_at i (put ++ (n, x) ∷ []) ≡ put_at i put
at-other i n x [] h = let test : (n == i) ≡ false = grind (arith, nat_tests, h) in rw test refl
at-other i n x (p ∷ put) h = rw (at-other i n x put h) refl

from-here : (i : ℕ) (x : List ℕ) (put : List (ℕ × List ℕ)) → put_from i (put ++ (i, x) ∷ []) ≡ put_from i put ++ x ∷ []
from-here i x [] = let test : nat_le i i ≡ true = grind (arith, nat_tests) in rw test refl
from-here i x (p ∷ put) = by (from-here i x put) (nat_le i p.0) refl
  where
    by : put_from i (put ++ (i, x) ∷ []) ≡ put_from i put ++ x ∷ [] → (b : Bool) → nat_le i p.0 ≡ b → put_from i (p ∷ put ++ (i, x) ∷ []) ≡ put_from i (p ∷ put) ++ x ∷ []
    by rest true t = rw (t, rest) refl
    by rest false t = rw (t, rest) refl

-- of octets that are put
units-put : (i n : ℕ) (entries : List Entry) (x : List ℕ) (put : List (ℕ × List ℕ)) → n ≡ i + length entries
    → units_from i entries (put ++ (n, x) ∷ []) ≡ units_from i entries put ++ x ∷ []
units-put i n [] x put h = let here : n ≡ i = omega (arith, h) in rw here (from-here i x put)
units-put i n (d ∷ entries) x put h =
    let same : n ≡ i + 1 + length entries = omega (arith, h) in
    rw (at-other i n x put (omega (arith, h)), units-put (i + 1) n entries x put same)
    (sym (append_assoc (put_at i put ++ octets_sent d) (units_from (i + 1) entries put) (x ∷ [])))

pub logged-behind : (l : Log) (e : Entry) → PutWithin (length l.journal) l.put → units (logging l e.step e.reply) ≡ units l ++ octets_sent e
logged-behind l e w =
    let P : ℕ → Type 0 = λ n. PutWithin n l.put in
    let zero : length l.journal ≡ 0 + length l.journal = omega arith in
    units-logged 0 l.journal e l.put (subst P zero w)

pub put-behind : (l : Log) (x : List ℕ) → units (putting l x) ≡ units l ++ x ∷ []
put-behind l x = units-put 0 (length l.journal) l.journal x l.put (omega arith)

within-more : (n m : ℕ) (put : List (ℕ × List ℕ)) → n ≤ m → PutWithin n put → PutWithin m put
within-more n m [] h w = tt
within-more n m (p ∷ put) h w = (let k : p.0 ≤ n = w.0 in omega (arith, h, k), within-more n m put h w.1)

within-put : (n : ℕ) (x : List ℕ) (put : List (ℕ × List ℕ)) → PutWithin n put → PutWithin n (put ++ (n, x) ∷ [])
within-put n x [] w = (omega arith, tt)
within-put n x (p ∷ put) w = (w.0, within-put n x put w.1)

pub logged-within : (l : Log) (e : Entry) → PutWithin (length l.journal) l.put → PutWithin (length (logging l e.step e.reply).journal) (logging l e.step e.reply).put
logged-within l e w = within-more (length l.journal) (length (l.journal ++ e ∷ [])) l.put (let k = length-append l.journal (e ∷ []) in omega (arith, k)) w

pub put-within : (l : Log) (x : List ℕ) → PutWithin (length l.journal) l.put → PutWithin (length (putting l x).journal) (putting l x).put
put-within l x w = within-put (length l.journal) x l.put w
