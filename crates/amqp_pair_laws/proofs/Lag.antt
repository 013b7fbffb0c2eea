-- Worlds cut back, and the induction over those where one end has heard all that the other sent.
use Rattle.std.proofs.Common.{zero, suc, ℕ, ◌≡◌, ◌≤◌, ◌<◌, ◌+◌, ◌==◌, Option, None, Some, List, [], ◌∷◌, inl, inr, arith, refl, sym, ap, subst, Bool, true, false}
use Rattle.amqp_pair_laws.specs.Moves.{and_one, count, said_as, IsTail, IsNext, Moves, World, Tight}

by-bool : {P : Type 0} (b : Bool) → (b ≡ true → P) → (b ≡ false → P) → P
by-bool true t f = t refl
by-bool false t f = f refl

pub and_one-grows : {A : Type 0} (o : Option A) (n : ℕ) → n ≤ and_one o n
and_one-grows None n = omega arith
and_one-grows (Some a) n = omega arith

pub and_one-few : {A : Type 0} (o : Option A) (n : ℕ) → and_one o n ≤ n + 1
and_one-few None n = omega arith
and_one-few (Some a) n = omega arith

one-more : {A : Type 0} (o : Option A) (a : A) (n : ℕ) → o ≡ Some a → and_one o n ≡ n + 1
one-more o a n e = rw e refl

is-number : (m n : ℕ) → (m == n) ≡ true → m ≡ n
is-number m n h = grind (arith, h)

is-below : (m n : ℕ) → n < m → (m == n) ≡ false
is-below m n h = grind (arith, h)

-- what is said as number n is one of those that were said
pub said-below : {A E : Type 0} (says : E → Option A) (n : ℕ) (past : List E) (a : A) → said_as says n past ≡ Some a → n < count says past
said-below says n [] a h = absurd cc
said-below says n (e ∷ before) a h =
    let m = count says before in
    by-bool (m == n)
    (λ (t : (m == n) ≡ true).
    let k : says e ≡ Some a = (let k = rw t at h in k) in
    let same : m ≡ n = is-number m n t in
    rw k (omega (arith, same)))
    (λ (f : (m == n) ≡ false).
    let k : said_as says n before ≡ Some a = (let k = rw f at h in k) in
    let below : n < m = said-below says n before a k in
    let grows : m ≤ and_one (says e) m = and_one-grows (says e) m in
    omega (arith, below, grows))

-- it stays
pub said-stays : {A E : Type 0} (says : E → Option A) (n : ℕ) (past : List E) (e : E) (a : A) → said_as says n past ≡ Some a → said_as says n (e ∷ past) ≡ Some a
said-stays says n past e a h = let f = is-below (count says past) n (said-below says n past a h) in rw f h

-- the newest is the last
pub said-last : {A E : Type 0} (says : E → Option A) (n : ℕ) (past : List E) (e : E) (a : A) → said_as says n (e ∷ past) ≡ Some a → count says past ≡ n → says e ≡ Some a
said-last says n past e a h same =
    let t : (count says past == n) ≡ true = grind (arith, same) in
    let k = rw t at h in k

-- the frame that comes after those heard, where no more were sent
none-next : {A E : Type 0} (says : E → Option A) (n : ℕ) (past : List E) (a : A) {P : Type 0} → said_as says n past ≡ Some a → count says past ≤ n → P
none-next says n past a h few = let below = said-below says n past a h in absurd (omega (arith, below, few))

-- an earlier state has a number that never falls no higher
pub tail-grows : {E : Type 0} (f : List E → ℕ) → ((e : E) (past : List E) → f past ≤ f (e ∷ past)) → (early past : List E) → IsTail early past → f early ≤ f past
tail-grows f grows early [] t = rw (ap f t) (omega arith)
tail-grows f grows early (e ∷ past) (inl t) = rw (ap f t) (omega arith)
tail-grows f grows early (e ∷ past) (inr t) =
    let below : f early ≤ f past = tail-grows f grows early past t in
    let more : f past ≤ f (e ∷ past) = grows e past in
    omega (arith, below, more)

module _ {C E F : Type 0} (sends : E → Option F) (hears : E → Option F) (Fair : C → E → List E → Type 0) where
  -- no more is heard than was sent
  heard-one : (o : Option F) (mine theirs : List E) → IsNext sends hears Fair o mine theirs → count hears mine ≤ count sends theirs → and_one o (count hears mine) ≤ count sends theirs
  heard-one None mine theirs next few = few
  heard-one (Some f) mine theirs next few = let below = said-below sends (count hears mine) theirs f next in omega (arith, below)

  pub within : (ca cb : C) (n : ℕ) (a b : List E) → World sends hears Fair ca cb n a b → (count hears a ≤ count sends b) × (count hears b ≤ count sends a)
  within ca cb zero [] [] w = (omega arith, omega arith)
  within ca cb zero (e ∷ a) b w = absurd (w.0)
  within ca cb zero [] (e ∷ b) w = absurd (w.1)
  within ca cb (suc n) [] b (inl w) = absurd w
  within ca cb (suc n) (e ∷ a) b (inl w) =
      let k = within ca cb n a b w.0 in
      let before : count hears b ≤ count sends a = k.1 in
      let grows : count sends a ≤ and_one (sends e) (count sends a) = and_one-grows (sends e) (count sends a) in
      (heard-one (hears e) a b w.1.next k.0, omega (arith, before, grows))
  within ca cb (suc n) a [] (inr w) = absurd w
  within ca cb (suc n) a (e ∷ b) (inr w) =
      let k = within ca cb n a b w.0 in
      let before : count hears a ≤ count sends b = k.0 in
      let grows : count sends b ≤ and_one (sends e) (count sends b) = and_one-grows (sends e) (count sends b) in
      (omega (arith, before, grows), heard-one (hears e) b a w.1.next k.1)

  -- the ends are alike
  pub swapped : (ca cb : C) (n : ℕ) (a b : List E) → World sends hears Fair ca cb n a b → World sends hears Fair cb ca n b a
  swapped ca cb zero a b w = (w.1, w.0)
  swapped ca cb (suc n) [] b (inl w) = absurd w
  swapped ca cb (suc n) (e ∷ a) b (inl w) = inr (swapped ca cb n a b w.0, w.1)
  swapped ca cb (suc n) a [] (inr w) = absurd w
  swapped ca cb (suc n) a (e ∷ b) (inr w) = inl (swapped ca cb n a b w.0, w.1)

  next-stays : (o : Option F) (mine theirs : List E) (e : E) → IsNext sends hears Fair o mine theirs → IsNext sends hears Fair o mine (e ∷ theirs)
  next-stays None mine theirs e next = tt
  next-stays (Some f) mine theirs e next = said-stays sends (count hears mine) theirs e f next

  moves-stay : (c : C) (e : E) (mine theirs : List E) (more : E) → Moves sends hears Fair c e mine theirs → Moves sends hears Fair c e mine (more ∷ theirs)
  moves-stay c e mine theirs more m = record { fair = m.fair; next = next-stays (hears e) mine theirs more m.next }

  -- each entry was a move
  pub moved : (ca cb : C) (n : ℕ) (e : E) (a b : List E) → World sends hears Fair ca cb n (e ∷ a) b → Moves sends hears Fair ca e a b
  moved ca cb zero e a b w = absurd (w.0)
  moved ca cb (suc n) e a b (inl w) = w.1
  moved ca cb (suc n) e a [] (inr w) = absurd w
  moved ca cb (suc n) e a (e' ∷ b) (inr w) = moves-stay ca e a b e' (moved ca cb n e a b w.0)

  next-cut : (o : Option F) (mine theirs : List E) (e : E) → IsNext sends hears Fair o mine (e ∷ theirs) → and_one o (count hears mine) ≤ count sends theirs → IsNext sends hears Fair o mine theirs
  next-cut None mine theirs e next few = tt
  next-cut (Some f) mine theirs e next few =
      let n = count hears mine in
      let different : (count sends theirs == n) ≡ false = is-below (count sends theirs) n (omega (arith, few)) in
      let k = rw different at next in k

  -- the cut: an end's newest entry is taken back, where the other has not heard of it
  pub cut : (ca cb : C) (n : ℕ) (e : E) (a b : List E) → World sends hears Fair ca cb (suc n) (e ∷ a) b → count hears b ≤ count sends a → World sends hears Fair ca cb n a b
  cut ca cb n e a b (inl w) few = w.0
  cut ca cb n e a [] (inr w) few = absurd w
  cut ca cb zero e a (e' ∷ b) (inr w) few = absurd (w.0.0)
  cut ca cb (suc n) e a (e' ∷ b) (inr w) few =
      let grows : count hears b ≤ and_one (hears e') (count hears b) = and_one-grows (hears e') (count hears b) in
      inr (cut ca cb n e a b w.0 (omega (arith, few, grows)), record { fair = w.1.fair; next = next-cut (hears e') b a e w.1.next few })

  -- each entry is fair after those before it
  abbrev pub AllFair : C → List E → Type 0
  AllFair c [] = Unit {0}
  AllFair c (e ∷ before) = AllFair c before × Fair c e before

  pub all-fair : (ca cb : C) (n : ℕ) (a b : List E) → World sends hears Fair ca cb n a b → AllFair ca a
  all-fair ca cb zero [] b w = tt
  all-fair ca cb zero (e ∷ a) b w = absurd (w.0)
  all-fair ca cb (suc n) [] b w = tt
  all-fair ca cb (suc n) (e ∷ a) b (inl w) = (all-fair ca cb n a b w.0, w.1.fair)
  all-fair ca cb (suc n) (e ∷ a) [] (inr w) = absurd w
  all-fair ca cb (suc n) (e ∷ a) (e' ∷ b) (inr w) = all-fair ca cb n (e ∷ a) b w.0

  -- a frame that waits for b: the state of a that sent it, of which b has heard all that went before
  pub record Waits (ca cb : C) (n : ℕ) (a b : List E) (f : F) : Type 0 where
    pub moves : ℕ
    pub few : moves < n
    pub entry : E
    pub before : List E
    pub is_tail : IsTail (entry ∷ before) a
    pub world : World sends hears Fair ca cb (suc moves) (entry ∷ before) b
    pub tight : count sends before ≡ count hears b
    pub sent : sends entry ≡ Some f

  waits-later : (ca cb : C) (n : ℕ) (e : E) (a b : List E) (f : F) → Waits ca cb n a b f → Waits ca cb (suc n) (e ∷ a) b f
  waits-later ca cb n e a b f w = record { moves = w.moves; few = (let few = w.few in omega (arith, few)); entry = w.entry; before = w.before; is_tail = inr w.is_tail; world = w.world; tight = w.tight; sent = w.sent }

  pub waits : (ca cb : C) (n : ℕ) (a b : List E) (f : F) → World sends hears Fair ca cb n a b → said_as sends (count hears b) a ≡ Some f → Waits ca cb n a b f
  waits ca cb n [] b f w next = absurd cc
  waits ca cb zero (e ∷ a) b f w next = absurd (w.0)
  waits ca cb (suc n) (e ∷ a) b f w next =
      by-bool (count sends a == count hears b)
      (λ (t : (count sends a == count hears b) ≡ true).
      let same : count sends a ≡ count hears b = is-number (count sends a) (count hears b) t in
      record { moves = n; few = omega arith; entry = e; before = a; is_tail = inl refl; world = w; tight = same; sent = said-last sends (count hears b) a e f next same })
      (λ (other : (count sends a == count hears b) ≡ false).
      let earlier : said_as sends (count hears b) a ≡ Some f = (let k = rw other at next in k) in
      let below : count hears b < count sends a = said-below sends (count hears b) a f earlier in
      waits-later ca cb n e a b f (waits ca cb n a b f (cut ca cb n e a b w (omega (arith, below))) earlier))

  -- the other cut: an earlier state of b, of which a has heard all
  pub record Star (ca cb : C) (n : ℕ) (a b : List E) : Type 0 where
    pub moves : ℕ
    pub few : moves ≤ n
    pub early : List E
    pub is_tail : IsTail early b
    pub behind : Tight sends hears Fair cb ca moves early a

  self-tail : (b : List E) → IsTail b b
  self-tail [] = refl
  self-tail (e ∷ b) = inl refl

  star-by : (ca cb : C) (n : ℕ) (a : List E) (b : List E) → World sends hears Fair cb ca n b a → Star ca cb n a b
  star-by ca cb n a [] w =
      let k = within cb ca n [] a w in
      let few : count hears a ≤ 0 = k.1 in
      record { moves = n; few = omega arith; early = []; is_tail = refl; behind = record { world = w; tight = omega (arith, few) } }
  star-by ca cb zero a (e ∷ b) w = absurd (w.0)
  star-by ca cb (suc n) a (e ∷ b) w =
      let k = within cb ca (suc n) (e ∷ b) a w in
      let few : count hears a ≤ and_one (sends e) (count sends b) = k.1 in
      let one : and_one (sends e) (count sends b) ≤ count sends b + 1 = and_one-few (sends e) (count sends b) in
      by-bool (and_one (sends e) (count sends b) == count hears a)
      (λ (t : (and_one (sends e) (count sends b) == count hears a) ≡ true).
      record {
        moves = suc n;
        few = omega arith;
        early = e ∷ b;
        is_tail = inl refl;
        behind = record { world = w; tight = is-number (and_one (sends e) (count sends b)) (count hears a) t };
      })
      (λ (f : (and_one (sends e) (count sends b) == count hears a) ≡ false).
      let less : count hears a ≤ count sends b = grind (arith, f, few, one) in
      let s = star-by ca cb n a b (cut cb ca n e b a w less) in
      let fewer : s.moves ≤ n = s.few in
      record { moves = s.moves; few = omega (arith, fewer); early = s.early; is_tail = inr s.is_tail; behind = s.behind })

  pub star : (ca cb : C) (n : ℕ) (a b : List E) → World sends hears Fair ca cb n a b → Star ca cb n a b
  star ca cb n a b w = star-by ca cb n a b (swapped ca cb n a b w)

  -- what is claimed is known of all tight worlds of fewer moves
  abbrev pub Known : (C → C → List E → List E → Type 0) → ℕ → Type 0
  Known P n = (ca cb : C) (m : ℕ) (a b : List E) → m < n → Tight sends hears Fair ca cb m a b → P ca cb a b

  -- what is claimed is kept by each way in which a tight world goes on
  pub record IsKept (P : C → C → List E → List E → Type 0) : Type 0 where
    pub starts : (ca cb : C) → P ca cb [] []
    -- a alone: it sends nothing
    pub quiet : (ca cb : C) (n : ℕ) (e : E) (a b : List E) → Known P (suc n) → World sends hears Fair ca cb (suc n) (e ∷ a) b → Tight sends hears Fair ca cb n a b
        → Moves sends hears Fair ca e a b → sends e ≡ None → P ca cb a b → P ca cb (e ∷ a) b
    -- b alone: it hears nothing
    pub ahead : (ca cb : C) (n : ℕ) (e : E) (a b : List E) → Known P (suc n) → World sends hears Fair ca cb (suc n) a (e ∷ b) → Tight sends hears Fair ca cb n a b
        → Moves sends hears Fair cb e b a → hears e ≡ None → P ca cb a b → P ca cb a (e ∷ b)
    -- a sends, b hears
    pub pass : (ca cb : C) (n : ℕ) (e : E) (a : List E) (e' : E) (b : List E) (f : F) → Known P (suc (suc n)) → World sends hears Fair ca cb (suc n) (e ∷ a) b
        → Tight sends hears Fair ca cb n a b → Moves sends hears Fair ca e a b → Moves sends hears Fair cb e' b (e ∷ a) → sends e ≡ Some f → hears e' ≡ Some f
        → P ca cb a b → P ca cb (e ∷ a) (e' ∷ b)

  -- a counted frame is there or not
  by-sent : {A : Type 0} {P : Type 0} (o : Option A) → (o ≡ None → P) → ((f : A) → o ≡ Some f → P) → P
  by-sent None none some = none refl
  by-sent (Some f) none some = some f refl

  module _ (P : C → C → List E → List E → Type 0) (kept : IsKept P) where
    -- a's newest entry is a move of a alone
    go-quiet : (ca cb : C) (n : ℕ) (known : Known P (suc n)) (e : E) (a b : List E) → World sends hears Fair ca cb (suc n) (e ∷ a) b
        → count sends a ≡ count hears b → sends e ≡ None → P ca cb (e ∷ a) b
    go-quiet ca cb n known e a b w tight silent =
        let before : Tight sends hears Fair ca cb n a b = record { world = cut ca cb n e a b w (omega (arith, tight)); tight = tight } in
        kept.quiet ca cb n e a b known w before (moved ca cb (suc n) e a b w) silent (known ca cb n a b (omega arith) before)

    go-pass : (ca cb : C) (n : ℕ) (known : Known P (suc n)) (e : E) (a : List E) (e' : E) (b : List E) (f : F) → World sends hears Fair ca cb n (e ∷ a) b → Moves sends hears Fair cb e' b (e ∷ a)
        → count sends a ≡ count hears b → sends e ≡ Some f → hears e' ≡ Some f → P ca cb (e ∷ a) (e' ∷ b)
    go-pass ca cb zero known e a e' b f w m tight sent heard = absurd (w.0)
    go-pass ca cb (suc n) known e a e' b f w m tight sent heard =
        let before : Tight sends hears Fair ca cb n a b = record { world = cut ca cb n e a b w (omega (arith, tight)); tight = tight } in
        kept.pass ca cb n e a e' b f known w before (moved ca cb (suc n) e a b w) m sent heard (known ca cb n a b (omega arith) before)

    -- b heard a frame last
    go-heard : (ca cb : C) (n : ℕ) (known : Known P (suc n)) (a : List E) (e' : E) (b : List E) (f : F) → World sends hears Fair ca cb n a b → Moves sends hears Fair cb e' b a
        → World sends hears Fair ca cb (suc n) a (e' ∷ b) → hears e' ≡ Some f → said_as sends (count hears b) a ≡ Some f → count sends a ≡ count hears b + 1 → P ca cb a (e' ∷ b)
    go-heard ca cb n known [] e' b f w m whole heard next tight = absurd cc
    go-heard ca cb n known (e ∷ a) e' b f w m whole heard next tight =
        by-sent (sends e)
        (λ (silent : sends e ≡ None).
        let same : count sends a ≡ count hears b + 1 = (let k = rw silent at tight in k) in
        go-quiet ca cb n known e a (e' ∷ b) whole (rw heard same) silent)
        (λ g (sent : sends e ≡ Some g).
        let more : count sends a + 1 ≡ count hears b + 1 = (let k = rw sent at tight in k) in
        let same : count sends a ≡ count hears b = omega (arith, more) in
        let last : sends e ≡ Some f = said-last sends (count hears b) a e f next same in
        go-pass ca cb n known e a e' b f w m same last heard)

    next-of : (o : Option F) (f : F) (mine theirs : List E) → o ≡ Some f → IsNext sends hears Fair o mine theirs → said_as sends (count hears mine) theirs ≡ Some f
    next-of o f mine theirs is next = subst (λ (o : Option F). IsNext sends hears Fair o mine theirs) is next

    lag : (ca cb : C) (n : ℕ) → Known P n → (a b : List E) → Tight sends hears Fair ca cb n a b → P ca cb a b
    lag ca cb n known a b t = by ca cb n known a b t.world t.tight
      where
        by : (ca cb : C) (n : ℕ) → Known P n → (a b : List E) → World sends hears Fair ca cb n a b → count sends a ≡ count hears b → P ca cb a b
        by ca cb zero known [] [] w tight = kept.starts ca cb
        by ca cb zero known (e ∷ a) b w tight = absurd (w.0)
        by ca cb zero known [] (e ∷ b) w tight = absurd (w.1)
        by ca cb (suc n) known [] b (inl w) tight = absurd w
        by ca cb (suc n) known (e ∷ a) b (inl w) tight =
            let few : count hears b ≤ count sends a = (within ca cb n a b w.0).1 in
            by-sent (sends e)
            (λ (silent : sends e ≡ None).
            let same : count sends a ≡ count hears b = (let k = rw silent at tight in k) in
            go-quiet ca cb n known e a b (inl w) same silent)
            (λ g (sent : sends e ≡ Some g).
            let more : count sends a + 1 ≡ count hears b = (let k = rw sent at tight in k) in
            absurd (omega (arith, more, few)))
        by ca cb (suc n) known a [] (inr w) tight = absurd w
        by ca cb (suc n) known a (e ∷ b) (inr w) tight =
            by-sent (hears e)
            (λ (deaf : hears e ≡ None).
            let same : count sends a ≡ count hears b = (let k = rw deaf at tight in k) in
            let before : Tight sends hears Fair ca cb n a b = record { world = w.0; tight = same } in
            kept.ahead ca cb n e a b known (inr w) before w.1 deaf (known ca cb n a b (omega arith) before))
            (λ f (heard : hears e ≡ Some f).
            let same : count sends a ≡ count hears b + 1 = (let k = rw heard at tight in k) in
            go-heard ca cb n known a e b f w.0 w.1 (inr w) heard (next-of (hears e) f b a heard w.1.next) same)

    all-known : (n : ℕ) → Known P n
    all-known zero ca cb m a b less t = absurd (omega (arith, less))
    all-known (suc n) ca cb m a b less t =
        by-bool (m == n)
        (λ (same : (m == n) ≡ true).
        let is : m ≡ n = is-number m n same in
        lag ca cb m (subst (λ (k : ℕ). Known P k) (sym is) (all-known n)) a b t)
        (λ (other : (m == n) ≡ false).
        let fewer : m < n = grind (arith, less, other) in
        all-known n ca cb m a b fewer t)

    -- what is kept holds of every tight world
    pub exact : (ca cb : C) (n : ℕ) (a b : List E) → Tight sends hears Fair ca cb n a b → P ca cb a b
    exact ca cb n a b t = all-known (suc n) ca cb n a b (omega arith) t
