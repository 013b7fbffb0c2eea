-- The canonical spelling of a composite value.
use Rattle.std.proofs.Common.{◌≡◌, ℕ, ◌+◌, ◌-◌, ◌^◌, ◌<◌, ◌≤◌, Bool, true, false, leb, ltb, eqb, min, List, [], ◌∷◌, ◌++◌, length, Option, Some, None, refl, sym, ap, arith}
use Rattle.std.proofs.lemmas.Bool.{leb-true, leb-false, le-leb, lt-leb, ltb-true, ltb-false, le-ltb, eqb-true}
use Rattle.amqp_types.specs.Codes.{class_of}
use Rattle.amqp_types.specs.Datum.{Data, none, item, count_of, depth_of, greatest_depth_of}
use Rattle.amqp_types.specs.Reading.{◌>>=◌}
use Rattle.amqp_types.specs.Canon.{part_form, parts_form, capped, spelled, described_draft}
use Rattle.amqp_types.proofs.Choice.{spelled_with}
use Rattle.amqp_frames.specs.Field.{form_within, forms_within, measured, list_octets, list_size, composite_datum}
use Rattle.amqp_frames.proofs.Leaves.{ulong_small, list_form, before}

described_form : (content : List ℕ) → spelled None (described_draft content) ≡ Some (0x00 ∷ content)
unfolding class_of
described_form content = spelled_with (described_draft content)

-- what stands in front of a list's items and the items, and in front of both 00 and a descriptor
abbrev pub composite_octets : ℕ → ℕ → List ℕ → Option (List ℕ)
composite_octets code count x = list_octets count (length x) >>= λ h. Some (0x00 ∷ 0x53 ∷ code ∷ (h ++ x))

described_list : (code : ℕ) (form : Option (List ℕ)) (x : List ℕ) → ((before form x >>= λ b. Some (described_draft ((0x53 ∷ code ∷ []) ++ b))) >>= spelled None) ≡ (form >>= λ h. Some (0x00 ∷ 0x53 ∷ code ∷ (h ++ x)))
described_list code (Some h) x = described_form ((0x53 ∷ code ∷ []) ++ (h ++ x))
described_list code None x = refl

composite_by : (code : ℕ) (ds : Data) (form : Option (List ℕ)) → 0 < code → code < 256 → parts_form ds None ≡ form → part_form None (composite_datum code ds) ≡ (form >>= composite_octets code (count_of ds))
composite_by code ds (Some x) some small e =
    rw (ulong_small code (λ z. omega (arith, z)) small, e, list_form (count_of ds) x) (described_list code (list_octets (count_of ds) (length x)) x)
composite_by code ds None some small e = rw (ulong_small code (λ z. omega (arith, z)) small, e) refl

pub composite_form : (code : ℕ) (ds : Data) → 0 < code → code < 256 → part_form None (composite_datum code ds) ≡ (parts_form ds None >>= composite_octets code (count_of ds))
composite_form code ds some small = composite_by code ds (parts_form ds None) some small refl

-- ---- its size

sized_by : (code count size : ℕ) (x : List ℕ) (b0 b1 b2 b3 b4 : Bool) → (count ≡ 0 → x ≡ []) → size ≡ min (length x) (2 ^ 64 - 1)
    → eqb count 0 ≡ b0 → ltb (1 + size) 256 ≡ b1 → ltb count 256 ≡ b2 → ltb (4 + size) (2 ^ 32) ≡ b3 → ltb count (2 ^ 32) ≡ b4
    → capped (composite_octets code count x) ≡ (list_size count size >>= λ n. Some (n + 3))
sized_by code count size x true b1 b2 b3 b4 empty s e0 e1 e2 e3 e4 =
    let q : x ≡ [] = empty (eqb-true _ _ e0) in
    rw (q, e0) refl
sized_by code count size x false true true b3 b4 empty s e0 e1 e2 e3 e4 =
    let same : size ≡ length x = omega (arith, s, ltb-true _ _ e1) in
    let f1 : ltb (1 + length x) 256 ≡ true = rw (← same) e1 in
    simp (e0, e1, e2, f1) (ap (λ (k : ℕ). let o : Option ℕ = Some k in o) (omega (arith, same, ltb-true _ _ e1)))
sized_by code count size x false true false true true empty s e0 e1 e2 e3 e4 =
    let same : size ≡ length x = omega (arith, s, ltb-true _ _ e1) in
    let f1 : ltb (1 + length x) 256 ≡ true = rw (← same) e1 in
    let f3 : ltb (4 + length x) (2 ^ 32) ≡ true = rw (← same) e3 in
    simp (e0, e1, e2, e3, e4, f1, f3) (ap (λ (k : ℕ). let o : Option ℕ = Some k in o) (omega (arith, same, ltb-true _ _ e3)))
sized_by code count size x false true false true false empty s e0 e1 e2 e3 e4 =
    let same : size ≡ length x = omega (arith, s, ltb-true _ _ e1) in
    let f1 : ltb (1 + length x) 256 ≡ true = rw (← same) e1 in
    let f3 : ltb (4 + length x) (2 ^ 32) ≡ true = rw (← same) e3 in
    simp (e0, e1, e2, e3, e4, f1, f3)
sized_by code count size x false true false false b4 empty s e0 e1 e2 e3 e4 = absurd (omega (arith, ltb-true _ _ e1, ltb-false _ _ e3))
sized_by code count size x false false b2 true true empty s e0 e1 e2 e3 e4 =
    let same : size ≡ length x = omega (arith, s, ltb-true _ _ e3) in
    let f1 : ltb (1 + length x) 256 ≡ false = rw (← same) e1 in
    let f3 : ltb (4 + length x) (2 ^ 32) ≡ true = rw (← same) e3 in
    simp (e0, e1, e3, e4, f1, f3) (ap (λ (k : ℕ). let o : Option ℕ = Some k in o) (omega (arith, same, ltb-true _ _ e3)))
sized_by code count size x false false b2 true false empty s e0 e1 e2 e3 e4 =
    let same : size ≡ length x = omega (arith, s, ltb-true _ _ e3) in
    let f1 : ltb (1 + length x) 256 ≡ false = rw (← same) e1 in
    let f3 : ltb (4 + length x) (2 ^ 32) ≡ true = rw (← same) e3 in
    simp (e0, e1, e3, e4, f1, f3)
sized_by code count size x false false b2 false b4 empty s e0 e1 e2 e3 e4 =
    let f1 : ltb (1 + length x) 256 ≡ false = le-ltb _ _ (omega (arith, s, ltb-false _ _ e3)) in
    let f3 : ltb (4 + length x) (2 ^ 32) ≡ false = le-ltb _ _ (omega (arith, s, ltb-false _ _ e3)) in
    simp (e0, e1, e3, f1, f3)

pub composite_sized : (code count : ℕ) (x : List ℕ) → (count ≡ 0 → x ≡ []) → capped (composite_octets code count x) ≡ (list_size count (min (length x) (2 ^ 64 - 1)) >>= λ n. Some (n + 3))
composite_sized code count x empty =
    let size = min (length x) (2 ^ 64 - 1) in
    sized_by code count size x (eqb count 0) (ltb (1 + size) 256) (ltb count 256) (ltb (4 + size) (2 ^ 32)) (ltb count (2 ^ 32)) empty refl refl refl refl refl refl

pub empty_form : (ds : Data) (x : List ℕ) → parts_form ds None ≡ Some x → count_of ds ≡ 0 → x ≡ []
empty_form none x e z = let P : [] ≡ x = cc in sym P
empty_form (item d ds) x e z = absurd (omega (arith, z))

-- the size of what was measured
abbrev pub size_from : Option (ℕ × ℕ) → Option ℕ
size_from m = m >>= λ m. list_size m.0 m.1 >>= λ n. Some (n + 3)

measured_by : (code : ℕ) (ds : Data) (form : Option (List ℕ)) → 0 < code → code < 256 → parts_form ds None ≡ form → capped (form >>= composite_octets code (count_of ds)) ≡ size_from (measured (count_of ds) form)
measured_by code ds (Some x) some small e = composite_sized code (count_of ds) x (empty_form ds x e)
measured_by code ds None some small e = refl

within_by : (code depth : ℕ) (ds : Data) (b : Bool) → 0 < code → code < 256 → 2 ≤ depth → leb (greatest_depth_of ds) (depth - 2) ≡ b → capped (form_within depth (composite_datum code ds)) ≡ size_from (measured (count_of ds) (forms_within (depth - 2) ds))
within_by code depth ds true some small deep e =
    let f : leb (depth_of (composite_datum code ds)) depth ≡ true = le-leb _ _ (omega (arith, leb-true _ _ e)) in
    rw (e, f, composite_form code ds some small) (measured_by code ds (parts_form ds None) some small refl)
within_by code depth ds false some small deep e =
    let f : leb (depth_of (composite_datum code ds)) depth ≡ false = lt-leb _ _ (omega (arith, leb-false _ _ e)) in
    rw (e, f) refl

pub composite_within : (code depth : ℕ) (ds : Data) → 0 < code → code < 256 → 2 ≤ depth → capped (form_within depth (composite_datum code ds)) ≡ size_from (measured (count_of ds) (forms_within (depth - 2) ds))
composite_within code depth ds some small deep = within_by code depth ds (leb (greatest_depth_of ds) (depth - 2)) some small deep refl
