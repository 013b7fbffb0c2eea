-- Hearing comes to an end: what is heard by hearing alone is at most twice what was on its way.
use Rattle.std.proofs.Common.{inl, inr, ◌⊎◌, ⊎_elim, zero, suc, ◌≡◌, ◌≤◌, ℕ, ◌+◌, ◌-◌, ◌*◌, true, false, Option, Some, None, List, [], ◌∷◌, IsSome, arith, refl, sym, ap, subst, nat_le}
use Rattle.amqp_frames.specs.declared.frame.Frame.{Frame}
use Rattle.amqp_rules.specs.declared.config.Config.{Config}
use Rattle.amqp_rules.proofs.Listed.{by-bool}
use Rattle.amqp_laws.specs.declared.entry.Entry.{Entry}
use Rattle.amqp_pair_laws.specs.Moves as moves
use Rattle.amqp_pair_laws.specs.Moves.{and_one, count, said_as, IsTail}
use Rattle.amqp_pair_laws.specs.World.{IsFair, World, hears, sends}
use Rattle.amqp_pair_laws.specs.Agreeing.{HearingEnds, HearsOn}
use Rattle.amqp_pair_laws.proofs.Lag as lag
use Rattle.amqp_pair_laws.proofs.SameSource.{sends-grow}
use Rattle.amqp_pair_laws.proofs.TakenEver.{self-tail}
use Rattle.amqp_pair_laws.proofs.Unanswered.{unanswered}

-- # Journals

tail-on : (xs ys zs : List Entry) → IsTail xs ys → IsTail ys zs → IsTail xs zs
tail-on xs ys [] t u = subst (λ (l : List Entry). IsTail xs l) u t
tail-on xs ys (z ∷ zs) t (inl u) = subst (λ (l : List Entry). IsTail xs l) u t
tail-on xs ys (z ∷ zs) t (inr u) = inr (tail-on xs ys zs t u)

some-counts : (o : Option Frame) (n : ℕ) → IsSome o → and_one o n ≡ n + 1
some-counts None n h = absurd (cc (h))
some-counts (Some f) n h = refl

some-there : (o : Option Frame) → IsSome o → (f : Frame) × (o ≡ Some f)
some-there None h = absurd (cc (h))
some-there (Some f) h = (f, refl)

-- each entry hears a frame
heard-more : (k : ℕ) (late early : List Entry) → HearsOn k late early → count hears late ≡ count hears early + k
heard-more zero late early on = let e = ap (λ (l : List Entry). count hears l) on in omega (arith, e)
heard-more (suc k) [] early on = absurd on
heard-more (suc k) (e ∷ late) early on =
    let more = heard-more k late early on.1 in
    let one = some-counts (hears e) (count hears late) on.0 in
    omega (arith, more, one)

-- and sends one at most
sent-fewer : (k : ℕ) (late early : List Entry) → HearsOn k late early → count sends late ≤ count sends early + k
sent-fewer zero late early on = let e = ap (λ (l : List Entry). count sends l) on in omega (arith, e)
sent-fewer (suc k) [] early on = absurd on
sent-fewer (suc k) (e ∷ late) early on =
    let fewer = sent-fewer k late early on.1 in
    let one = lag.and_one-few (sends e) (count sends late) in
    omega (arith, fewer, one)

-- an entry is an earlier one, or hears a frame
since : (k : ℕ) (late early : List Entry) (x : Entry) (before : List Entry) → HearsOn k late early → IsTail (x ∷ before) late → IsTail (x ∷ before) early ⊎ IsSome (hears x)
since zero late early x before on t = inl (subst (λ (l : List Entry). IsTail (x ∷ before) l) on t)
since (suc k) [] early x before on t = absurd on
since (suc k) (e ∷ late) early x before on (inl t) =
    let same : x ≡ e = cc (t) in
    inr (subst (λ (e : Entry). IsSome (hears e)) (sym same) on.0)
since (suc k) (e ∷ late) early x before on (inr t) = since k late early x before on.1 t

-- # The moment at which an entry was made

record Made (ca cb : Config) (n : ℕ) (a : List Entry) (e : Entry) (b : List Entry) : Type 0 where
  so_many : ℕ
  early : List Entry
  is_tail : IsTail early a
  world : World ca cb so_many early b
  next : moves.IsNext sends hears IsFair (hears e) b early
  fair : IsFair cb e b

made : (ca cb : Config) (n : ℕ) (a : List Entry) (e : Entry) (b : List Entry) → World ca cb n a (e ∷ b) → Made ca cb n a e b
made ca cb zero a e b w = absurd (w.1)
made ca cb (suc n) [] e b (inl w) = absurd w
made ca cb (suc n) (x ∷ a) e b (inl w) = let m = made ca cb n a e b w.0 in record { so_many = m.so_many; early = m.early; is_tail = inr m.is_tail; world = m.world; next = m.next; fair = m.fair }
made ca cb (suc n) a e b (inr w) = record { so_many = n; early = a; is_tail = self-tail a; world = w.0; next = w.1.next; fair = w.1.fair }

-- # Answers

-- what is heard of an answer is not answered
answers-none : (ca cb : Config) (n : ℕ) (a late past : List Entry) (e : Entry) (j : ℕ) → World ca cb n late (e ∷ past) → HearsOn j late a → IsSome (hears e) → count sends a ≤ count hears past → sends e ≡ None
answers-none ca cb n a late past e j w on some above =
    let m = made ca cb n late e past w in
    let f = some-there (hears e) some in
    let next' : said_as sends (count hears past) m.early ≡ Some f.0 = subst (λ (o : Option Frame). moves.IsNext sends hears IsFair o past m.early) f.1 m.next in
    let x = lag.waits sends hears IsFair ca cb m.so_many m.early past f.0 m.world next' in
    let tight : count sends x.before ≡ count hears past = x.tight in
    ⊎_elim
    (λ (t : IsTail (x.entry ∷ x.before) a).
    let grows = sends-grow (x.entry ∷ x.before) a t in
    let one : and_one (sends x.entry) (count sends x.before) ≡ count sends x.before + 1 = ap (λ (o : Option Frame). and_one o (count sends x.before)) x.sent in
    absurd (omega (arith, grows, one, tight, above)))
    (λ (h : IsSome (hears x.entry)).
    let g = some-there (hears x.entry) h in
    unanswered ca cb x.moves x.entry x.before e past x.world tight m.fair f.0 g.0 x.sent g.1 f.1)
    (since j late a x.entry x.before on (tail-on (x.entry ∷ x.before) m.early late x.is_tail m.is_tail))

-- the entry that sends nothing is taken back
shorter : (ca cb : Config) (n : ℕ) (late past : List Entry) (e : Entry) → World ca cb n late (e ∷ past) → sends e ≡ None → (m : ℕ) × World ca cb m late past
shorter ca cb zero late past e w none = absurd (w.1)
shorter ca cb (suc n) late past e w none =
    let few : count hears late ≤ count sends (e ∷ past) = (lag.within sends hears IsFair ca cb (suc n) late (e ∷ past) w).0 in
    let same : count sends (e ∷ past) ≡ count sends past = ap (λ (o : Option Frame). and_one o (count sends past)) none in
    let back = lag.cut sends hears IsFair cb ca n e past late (lag.swapped sends hears IsFair ca cb (suc n) late (e ∷ past) w) (omega (arith, few, same)) in
    (n, lag.swapped sends hears IsFair cb ca n past late back)

-- each answers a frame that was on its way at first
answers-few : (ca cb : Config) (a b late late' : List Entry) (j k n : ℕ) → World ca cb n late late' → HearsOn j late a → HearsOn k late' b → count hears b ≤ count sends a
    → count sends late' + count hears b ≤ count sends b + count sends a
answers-few ca cb a b late late' j zero n w on on' few = let e = ap (λ (l : List Entry). count sends l) on' in omega (arith, e, few)
answers-few ca cb a b late [] j (suc k) n w on on' few = absurd on'
answers-few ca cb a b late (e ∷ past) j (suc k) n w on on' few =
    by-bool (nat_le (count sends a) (count hears past))
    (λ (t : nat_le (count sends a) (count hears past) ≡ true).
    let above : count sends a ≤ count hears past = grind (arith, t) in
    let none = answers-none ca cb n a late past e j w on on'.0 above in
    let same : count sends (e ∷ past) ≡ count sends past = ap (λ (o : Option Frame). and_one o (count sends past)) none in
    let s = shorter ca cb n late past e w none in
    let rest = answers-few ca cb a b late past j k s.0 s.1 on on'.1 few in
    omega (arith, same, rest))
    (λ (f : nat_le (count sends a) (count hears past) ≡ false).
    let below : count hears past + 1 ≤ count sends a = grind (arith, f) in
    let sent = sent-fewer k past b on'.1 in
    let heard' = heard-more k past b on'.1 in
    let one = lag.and_one-few (sends e) (count sends past) in
    omega (arith, below, sent, heard', one))

-- # The bound

bound : (sa ha sb hb sa' ha' sb' hb' k k' : ℕ) → ha' ≤ sb' → hb' ≤ sa' → ha' ≡ ha + k → hb' ≡ hb + k' → sb' + hb ≤ sb + sa → sa' + ha ≤ sa + sb → ha ≤ sb → hb ≤ sa
    → k + k' ≤ 2 * ((sa - hb) + (sb - ha))
bound sa ha sb hb sa' ha' sb' hb' k k' p q h h' s s' o o' = omega (arith, p, q, h, h', s, s', o, o')

pub hearing-ends : HearingEnds
hearing-ends ca cb n n' a b late late' k k' w w' on on' =
    let back = lag.swapped sends hears IsFair ca cb n' late late' w' in
    let first = lag.within sends hears IsFair ca cb n a b w in
    let last = lag.within sends hears IsFair ca cb n' late late' w' in
    bound (count sends a) (count hears a) (count sends b) (count hears b) (count sends late) (count hears late) (count sends late') (count hears late') k k'
    last.0 last.1 (heard-more k late a on) (heard-more k' late' b on')
    (answers-few ca cb a b late late' k k' n' w' on on' first.1)
    (answers-few cb ca b a late' late k' k n' back on' on first.0)
    first.0 first.1
