-- What octets do does not hang on those that come behind.
use Rattle.std.proofs.Common.{⊎_elim, ◌≡◌, ◌≤◌, ◌<◌, ℕ, zero, suc, List, [], ◌∷◌, ◌++◌, length, take, refl, sym, ap, ◌∙◌, subst, inl, inr, arith, append_assoc}
use Rattle.std.specs.List.{slice_index_or}
use Rattle.std.specs.Int.{w32, from_be_bytes}
use Rattle.amqp_frames.specs.declared.fault.FrameFault.{FrameFault}
use Rattle.amqp_frames.specs.declared.fault.FrameFault.TheVariants.{ShortSize, BadDoff, TooBig, BadKind, BadBody, NoMemory}
use Rattle.amqp_frames.specs.Framing.{size_of, doff_of, type_of, IsHeader, IsFrame, Shows}
use Rattle.amqp_conn.specs.Connection.{Core, Connection, more}
use Rattle.amqp_conn.specs.Treating.{Treatment, taken, again, ended, treat, after, Moves}
use Rattle.amqp_conn.specs.Feeding.{MovesTimes}

take-front : (n : ℕ) (x y : List ℕ) → n ≤ length x → take n (x ++ y) ≡ take n x
take-front zero x y h = refl
take-front (suc n) [] y h = absurd (omega arith)
take-front (suc n) (o ∷ x) y h = ap (λ xs. o ∷ xs) (take-front n x y (omega (arith, h)))

index-front : (x y : List ℕ) (n d : ℕ) → n < length x → slice_index_or (x ++ y) n d ≡ slice_index_or x n d
index-front [] y n d h = absurd (omega arith)
index-front (o ∷ x) y zero d h = refl
index-front (o ∷ x) y (suc n) d h = index-front x y n d (omega (arith, h))

size-front : (x y : List ℕ) → 4 ≤ length x → size_of (x ++ y) ≡ size_of x
size-front x y h = ap (from_be_bytes w32) (take-front 4 x y h)

doff-front : (x y : List ℕ) → 8 ≤ length x → doff_of (x ++ y) ≡ doff_of x
doff-front x y h = index-front x y 4 0 (omega (arith, h))

type-front : (x y : List ℕ) → 8 ≤ length x → type_of (x ++ y) ≡ type_of x
type-front x y h = index-front x y 5 0 (omega (arith, h))

length-more : (x y : List ℕ) → length x ≤ length (x ++ y)
length-more [] y = omega arith
length-more (o ∷ x) y = let k = length-more x y in omega (arith, k)

header-more : (max : ℕ) (x y : List ℕ) → IsHeader max x → IsHeader max (x ++ y)
header-more max x y h =
    let whole : 8 ≤ length x = h.whole in
    let s = size-front x y (omega (arith, whole)) in
    let d = doff-front x y whole in
    record {
      whole = let k = length-more x y in omega (arith, k, whole);
      some = rw s h.some;
      low = rw d h.low;
      high = rw (s, d) h.high;
      small = rw s h.small;
      kind = type-front x y whole ∙ h.kind;
    }

pub shows-more : (e : FrameFault) (max : ℕ) (x y : List ℕ) → Shows e max x → Shows e max (x ++ y)
shows-more ShortSize max x y s =
    let n : 4 ≤ length x = s.0 in
    let k = length-more x y in
    (omega (arith, n, k), rw (size-front x y n) s.1)
shows-more BadDoff max x y (l, m, inl s) =
    let k = length-more x y in
    let z = size-front x y (omega (arith, l)) in
    let d = doff-front x y l in
    (omega (arith, l, k), rw z m, inl (rw d s))
shows-more BadDoff max x y (l, m, inr s) =
    let k = length-more x y in
    let z = size-front x y (omega (arith, l)) in
    let d = doff-front x y l in
    (omega (arith, l, k), rw z m, inr (rw (z, d) s))
shows-more TooBig max x y (l, a, b, c, d) =
    let k = length-more x y in
    let z = size-front x y (omega (arith, l)) in
    let o = doff-front x y l in
    (omega (arith, l, k), rw z a, rw o b, rw (z, o) c, rw z d)
shows-more BadKind max x y (l, a, b, c, d, t) =
    let k = length-more x y in
    let z = size-front x y (omega (arith, l)) in
    let o = doff-front x y l in
    (omega (arith, l, k), rw z a, rw o b, rw (z, o) c, rw z d, λ q. t (sym (type-front x y l) ∙ q))
shows-more BadBody max x y (h, n, none) =
    let whole : 8 ≤ length x = h.whole in
    let k = length-more x y in
    let z = size-front x y (omega (arith, whole)) in
    let same : take (size_of (x ++ y)) (x ++ y) ≡ take (size_of x) x = rw z (take-front (size_of x) x y n) in
    (header-more max x y h, rw z (omega (arith, n, k)), λ f p. none f (subst (λ (t : List ℕ). IsFrame f t) same p))
shows-more NoMemory max x y s = s

after-more : (k : Core) (whole back y : List ℕ) (t : Treatment) → more y (after k whole back t) ≡ after k (whole ++ y) (back ++ y) t
after-more k whole back y (taken l) = refl
after-more k whole back y (again l) = refl
after-more k whole back y (ended e) = refl

split-more : (x front back y : List ℕ) → x ≡ front ++ back → x ++ y ≡ front ++ (back ++ y)
split-more x front back y e = ap (λ (z : List ℕ). z ++ y) e ∙ append_assoc front back y

pub moves-more : (y : List ℕ) (c d : Connection) → Moves c d → Moves (more y c) (more y d)
moves-more y c d (inl h) =
    inl
    (record {
      phase = h.phase;
      front = h.front;
      back = h.back ++ y;
      eight = h.eight;
      split = split-more c.unread h.front h.back y h.split;
      does = ⊎_elim (λ p. inl (p.0, ap (more y) p.1)) (λ p. inr (p.0, ap (more y) p.1)) h.does;
    })
moves-more y c d (inr (inl h)) =
    inr
    (inl
    (record {
      f = h.f;
      front = h.front;
      back = h.back ++ y;
      has = record { reads = h.has.reads; framed = h.has.framed; small = h.has.small; split = split-more c.unread h.front h.back y h.has.split };
      does = ap (more y) h.does ∙ after-more c.core c.unread h.back y (treat c.core h.f);
    }))
moves-more y c d (inr (inr h)) =
    inr (inr (record { reads = h.reads; e = h.e; shown = shows-more h.e c.core.config.max_frame c.unread y h.shown; does = ap (more y) h.does }))

pub times-more : (y : List ℕ) (n : ℕ) (c d : Connection) → MovesTimes n c d → MovesTimes n (more y c) (more y d)
times-more y zero c d e = ap (more y) e
times-more y (suc n) c d (m, one, rest) = (more y m, moves-more y c m one, times-more y n m d rest)

abbrev pub both : ℕ → ℕ → ℕ
both zero k = k
both (suc n) k = suc (both n k)

pub times-join : (n k : ℕ) (c d e : Connection) → MovesTimes n c d → MovesTimes k d e → MovesTimes (both n k) c e
times-join zero k c d e same rest = subst (λ (x : Connection). MovesTimes k x e) (sym same) rest
times-join (suc n) k c d e (m, one, others) rest = (m, one, times-join n k m d e others rest)
