-- Two ends agree on a slot in every tight world.
use Rattle.std.proofs.Common.{suc, ℕ, ◌≡◌, ◌≤◌, ◌<◌, ◌⊎◌, ◌+◌, ◌++◌, nat_le, Option, None, Some, List, [], ◌∷◌, cond, inl, inr, arith, refl, sym, ap, ◌∙◌, subst, Bool, true, false, is_some, append-nil}
use Rattle.amqp_pair_laws.specs.Moves.{and_one, count, said_as, IsTail, IsNext, Moves, World, Tight}
use Rattle.amqp_pair_laws.proofs.Slots.{Slot, Act, Message, idle, asks, meets, leaves, goes, attach, detach, no_slot, attached, kept, after, tells, learns, IsLegal, added, Agree}
use Rattle.amqp_pair_laws.proofs.Lag as lag
use Rattle.amqp_pair_laws.proofs.SlotSteps.{agree-ahead, agree-quiet, agree-gone, agree-attach, agree-detach}

by-bool : {P : Type 0} (b : Bool) → (b ≡ true → P) → (b ≡ false → P) → P
by-bool true t f = t refl
by-bool false t f = f refl

module _ {H : Type 0} where
  abbrev asked : Act H → List H
  asked (asks h) = h ∷ []
  asked _ = []

  added-none : (act : Act H) → added act [] ≡ asked act
  added-none idle = refl
  added-none (asks h) = refl
  added-none (meets h) = refl
  added-none leaves = refl
  added-none goes = refl

  added-more : (act : Act H) (xs ys : List H) → added act (xs ++ ys) ≡ added act xs ++ ys
  added-more idle xs ys = refl
  added-more (asks h) xs ys = refl
  added-more (meets h) xs ys = refl
  added-more leaves xs ys = refl
  added-more goes xs ys = refl

  abbrev told_asks : Option (Message H) → List H
  told_asks None = []
  told_asks (Some (attach h)) = h ∷ []
  told_asks (Some detach) = []

  tells-asks : (act : Act H) (s : Slot H) → told_asks (tells act s) ≡ asked act
  tells-asks idle s = refl
  tells-asks (asks h) s = refl
  tells-asks (meets h) s = refl
  tells-asks leaves s = refl
  tells-asks goes s = by (attached s)
    where
      by : (b : Bool) → told_asks (cond b (Some detach) None) ≡ []
      by true = refl
      by false = refl

  -- # One step of both, told of slots alone

  and-none : (xs ys : List H) → xs ≡ ys ++ [] → xs ≡ ys
  and-none xs ys e = e ∙ append-nil ys

  -- one attach at most was on its way, and it was heard
  last-heard : (fl fl' : List H) (h : H) (ours : Option H) → fl ≡ fl' ++ h ∷ [] → (fl ≡ []) ⊎ ((g : H) × (fl ≡ g ∷ []) × (ours ≡ Some g)) → fl' ≡ []
  last-heard fl [] h ours e one = refl
  last-heard fl (x ∷ xs) h ours e (inl n) = absurd (cc (e, n))
  last-heard fl (x ∷ []) h ours e (inr n) = let same : x ∷ h ∷ [] ≡ n.0 ∷ [] = sym e ∙ n.1 in absurd (cc (same))
  last-heard fl (x ∷ y ∷ xs) h ours e (inr n) = let same : x ∷ y ∷ (xs ++ h ∷ []) ≡ n.0 ∷ [] = sym e ∙ n.1 in absurd (cc (same))

  quiet-by : (act : Act H) (x y : Slot H) (fl fl' : List H) (told : Option (Message H)) → learns act ≡ told → fl ≡ fl' ++ told_asks told → tells act x ≡ None → IsLegal act x
      → (act ≡ goes → is_some x.theirs ≡ true) → Agree x y fl → Agree (after act x) y fl'
  quiet-by idle x y fl fl' told is rest mute legal gone k =
      let same : fl ≡ fl' = and-none fl fl' (let r = rw (← is) at rest in r) in
      subst (λ (l : List H). Agree x y l) same k
  quiet-by (asks h) x y fl fl' told is rest mute legal gone k = absurd (cc (mute))
  quiet-by (meets h) x y fl fl' told is rest mute legal gone k =
      let all : fl ≡ fl' ++ h ∷ [] = (let r = rw (← is) at rest in r) in
      let none : fl' ≡ [] = last-heard fl fl' h y.ours all k.one in
      let only : fl ≡ h ∷ [] = all ∙ ap (λ l. l ++ h ∷ []) none in
      subst (λ (l : List H). Agree (after (meets h) x) y l) (sym none) (agree-quiet x y fl h legal.0 legal.1 only k)
  quiet-by leaves x y fl fl' told is rest mute legal gone k = absurd (cc (mute))
  quiet-by goes x y fl fl' told is rest mute legal gone k =
      let same : fl ≡ fl' = and-none fl fl' (let r = rw (← is) at rest in r) in
      subst (λ (l : List H). Agree no_slot y l) same (agree-gone x y fl (by (attached x) refl) (gone refl) k)
    where
      by : (b : Bool) → attached x ≡ b → attached x ≡ false
      by true t = let m = rw t at mute in absurd (cc m)
      by false f = f

  -- an attach that was sent is met, a detach takes the link away
  met-by : (act : Act H) (h : H) → learns act ≡ Some (attach h) → act ≡ meets h
  met-by idle h e = absurd (cc)
  met-by (asks k) h e = absurd (cc)
  met-by (meets k) h e = let same : k ≡ h = cc e in ap meets same
  met-by leaves h e = absurd (cc)
  met-by goes h e = absurd (cc)

  gone-by : (act : Act H) → learns act ≡ Some detach → act ≡ goes
  gone-by idle e = absurd (cc)
  gone-by (asks k) e = absurd (cc)
  gone-by (meets k) e = absurd (cc)
  gone-by leaves e = absurd (cc)
  gone-by goes e = refl

  pass-by : (act act' : Act H) (x y : Slot H) (fl fl' : List H) (told : Option (Message H)) → learns act ≡ told → fl ≡ fl' ++ told_asks told → learns act' ≡ tells act x → IsLegal act x → IsLegal act' y
      → (act ≡ goes → is_some x.theirs ≡ true) → Agree x y fl → Agree (after act x) (after act' y) (added act' fl')
  pass-by idle act' x y fl fl' told is rest passes legal legal' gone k = agree-ahead x y fl' act' passes legal' (quiet-by idle x y fl fl' told is rest refl legal gone k)
  pass-by (meets h) act' x y fl fl' told is rest passes legal legal' gone k =
      agree-ahead (after (meets h) x) y fl' act' passes legal' (quiet-by (meets h) x y fl fl' told is rest refl legal gone k)
  pass-by (asks h) act' x y fl fl' told is rest passes legal legal' gone k =
      let same : fl ≡ fl' = and-none fl fl' (let r = rw (← is) at rest in r) in
      subst (λ (b : Act H). Agree (after (asks h) x) (after b y) (added b fl')) (sym (met-by act' h passes))
      (subst (λ (l : List H). Agree (after (asks h) x) (after (meets h) y) l) same (agree-attach x y fl h legal k))
  pass-by leaves act' x y fl fl' told is rest passes legal legal' gone k =
      let same : fl ≡ fl' = and-none fl fl' (let r = rw (← is) at rest in r) in
      subst (λ (b : Act H). Agree (after leaves x) (after b y) (added b fl')) (sym (gone-by act' passes))
      (subst (λ (l : List H). Agree (after leaves x) no_slot l) same (agree-detach x y fl (after leaves x) legal refl (λ h. absurd (cc (h))) k))
  pass-by goes act' x y fl fl' told is rest passes legal legal' gone k =
      by-bool (attached x)
      (λ (t : attached x ≡ true).
      let detached : learns act' ≡ Some detach = (let p = rw t at passes in p) in
      let same : fl ≡ fl' = and-none fl fl' (let r = rw (← is) at rest in r) in
      subst (λ (b : Act H). Agree no_slot (after b y) (added b fl')) (sym (gone-by act' detached))
      (subst (λ (l : List H). Agree no_slot no_slot l) same (agree-detach x y fl no_slot t refl (λ h. refl) k)))
      (λ (f : attached x ≡ false).
      let none : tells goes x ≡ None = rw f refl in
      agree-ahead no_slot y fl' act' (passes ∙ none) legal' (quiet-by goes x y fl fl' told is rest none legal gone k))

-- I: which slot of an end; Meets: the slots of the two ends that are one
module _ {C E F H I : Type 0} (sends : E → Option F) (hears : E → Option F) (Fair : C → E → List E → Type 0) (Meets : I → I → Type 0) (st : I → C → List E → Slot H) (act : I → C → E → List E → Act H) (Lives : List E → Type 0) where
  abbrev pub AllFair : C → List E → Type 0
  AllFair = lag.AllFair sends hears Fair

  -- the attaches that were sent with the frames from number n on, the newest first
  abbrev pub asks_from : I → C → ℕ → List E → List H
  asks_from j c n [] = []
  asks_from j c n (e ∷ before) = cond (nat_le n (count sends before)) (added (act j c e before) (asks_from j c n before)) (asks_from j c n before)

  abbrev pub Agrees : C → C → List E → List E → Type 0
  Agrees ca cb a b = (i j : I) → Meets i j → Lives b → Agree (st i ca a) (st j cb b) (asks_from j cb (count hears a) b)

  -- what is asked of entries, and of the sessions' phases
  pub record Acts : Type 0 where
    pub flips : (i j : I) → Meets i j → Meets j i
    pub starts : (i : I) (c : C) → st i c [] ≡ no_slot
    pub goes_on : (i : I) (c : C) (e : E) (past : List E) → AllFair c (e ∷ past) → Lives (e ∷ past) → st i c (e ∷ past) ≡ after (act i c e past) (st i c past)
    pub legal : (i : I) (c : C) (e : E) (past : List E) → AllFair c (e ∷ past) → Lives (e ∷ past) → IsLegal (act i c e past) (st i c past)
    pub gone : (i : I) (c : C) (e : E) (past : List E) → AllFair c (e ∷ past) → act i c e past ≡ goes → is_some (st i c past).theirs ≡ true
    pub silent : (i : I) (c : C) (e : E) (past : List E) → AllFair c (e ∷ past) → sends e ≡ None → tells (act i c e past) (st i c past) ≡ None
    pub mute : (i : I) (c : C) (e : E) (past : List E) (l : List H) → sends e ≡ None → added (act i c e past) l ≡ l
    pub deaf : (i : I) (c : C) (e : E) (past : List E) → hears e ≡ None → learns (act i c e past) ≡ None
    pub passes : (i j : I) (ca cb : C) (e e' : E) (a b : List E) (f : F) → Meets i j → AllFair ca (e ∷ a) → AllFair cb (e' ∷ b) → Lives (e' ∷ b) → kept (st i ca a) ≡ (st j cb b).theirs → sends e ≡ Some f → hears e' ≡ Some f
        → learns (act j cb e' b) ≡ tells (act i ca e a) (st i ca a)
    pub lived : (e : E) (past : List E) → Lives (e ∷ past) → Lives past
    -- where b has heard all that a sent, and lives, so does a
    pub behind : (ca cb : C) (n : ℕ) (a b : List E) → Tight sends hears Fair ca cb n a b → Lives b → Lives a

  module _ (acts : Acts) where
    yes-below : (n m : ℕ) → n ≤ m → nat_le n m ≡ true
    yes-below n m h = grind (arith, h)

    not-below : (n m : ℕ) → m < n → nat_le n m ≡ false
    not-below n m h = grind (arith, h)

    none-asked : (j : I) (c : C) (n : ℕ) (past : List E) → count sends past ≤ n → asks_from j c n past ≡ []
    none-asked j c n [] few = refl
    none-asked j c n (e ∷ before) few =
        let grows : count sends before ≤ and_one (sends e) (count sends before) = lag.and_one-grows (sends e) (count sends before) in
        let none = none-asked j c n before (omega (arith, few, grows)) in
        by-bool (nat_le n (count sends before))
        (λ (t : nat_le n (count sends before) ≡ true). rw t (by (sends e) refl t few none))
        (λ (f : nat_le n (count sends before) ≡ false). rw f none)
      where
        by : (o : Option F) → sends e ≡ o → nat_le n (count sends before) ≡ true → and_one (sends e) (count sends before) ≤ n → asks_from j c n before ≡ [] → added (act j c e before) (asks_from j c n before) ≡ []
        by None is t few none = acts.mute j c e before (asks_from j c n before) is ∙ none
        by (Some f) is t few none = let more : count sends before + 1 ≤ n = (let k = rw is at few in k) in absurd (let l : n ≤ count sends before = grind (arith, t) in omega (arith, l, more))

    -- the frame with number n, and the attaches sent from it on
    split : (j : I) (c : C) (n : ℕ) (x : E) (p past : List E) → IsTail (x ∷ p) past → count sends p ≡ n → is_some (sends x) ≡ true → asks_from j c n past ≡ asks_from j c (n + 1) past ++ asked (act j c x p)
    split j c n x p [] t same sent = absurd cc
    split j c n x p (e ∷ past) (inl t) same sent =
        subst (λ (l : List E). asks_from j c n l ≡ asks_from j c (n + 1) l ++ asked (act j c x p)) t
        (let here : nat_le n (count sends p) ≡ true = yes-below n (count sends p) (omega (arith, same)) in
        let later : nat_le (n + 1) (count sends p) ≡ false = not-below (n + 1) (count sends p) (omega (arith, same)) in
        let none : asks_from j c n p ≡ [] = none-asked j c n p (omega (arith, same)) in
        let none' : asks_from j c (n + 1) p ≡ [] = none-asked j c (n + 1) p (omega (arith, same)) in
        rw (here, later, none, none') (added-none (act j c x p)))
    split j c n x p (e ∷ past) (inr t) same sent =
        let rest = split j c n x p past t same sent in
        let some : n < count sends past = below x p past n t same sent in
        let here : nat_le n (count sends past) ≡ true = yes-below n (count sends past) (omega (arith, some)) in
        let later : nat_le (n + 1) (count sends past) ≡ true = yes-below (n + 1) (count sends past) (omega (arith, some)) in
        rw (here, later, rest) (added-more (act j c e past) (asks_from j c (n + 1) past) (asked (act j c x p)))
      where
        counted : (o : Option F) (m : ℕ) → is_some o ≡ true → and_one o m ≡ m + 1
        counted None m h = absurd cc
        counted (Some f) m h = refl

        below : (x : E) (p past : List E) (n : ℕ) → IsTail (x ∷ p) past → count sends p ≡ n → is_some (sends x) ≡ true → n < count sends past
        below x p past n t same sent =
            let grows : count sends (x ∷ p) ≤ count sends past = lag.tail-grows (count sends) (λ e l. lag.and_one-grows (sends e) (count sends l)) (x ∷ p) past t in
            let one = counted (sends x) (count sends p) sent in
            let more : count sends p + 1 ≤ count sends past = (let k = rw one at grows in k) in
            omega (arith, more, same)

    -- # What an end hears

    -- the attaches on their way to a, before its entry and after it
    pub record Hears (i j : I) (ca cb : C) (e : E) (a b : List E) : Type 0 where
      pub told : Option (Message H)
      pub is_told : learns (act i ca e a) ≡ told
      pub rest : asks_from j cb (count hears a) b ≡ asks_from j cb (count hears (e ∷ a)) b ++ told_asks told

    hears-now : (i j : I) (ca cb : C) (n : ℕ) (e : E) (a b : List E) → lag.Known sends hears Fair Agrees (suc n) → World sends hears Fair ca cb n a b → Moves sends hears Fair ca e a b
        → (o : Option F) → hears e ≡ o → Meets i j → Lives a → Lives (e ∷ a) → Hears i j ca cb e a b
    hears-now i j ca cb n e a b known w m None is one lives lives' =
        record { told = None; is_told = acts.deaf i ca e a is; rest = rw is (sym (append-nil (asks_from j cb (count hears a) b))) }
    hears-now i j ca cb n e a b known w m (Some f) is one lives lives' =
        let next : said_as sends (count hears a) b ≡ Some f = next-is (hears e) is m.next in
        let back = lag.swapped sends hears Fair ca cb n a b w in
        let x = lag.waits sends hears Fair cb ca n b a f back next in
        let tight : count sends x.before ≡ count hears a = x.tight in
        let few : x.moves < n = x.few in
        let before : Tight sends hears Fair cb ca x.moves x.before a = record { world = lag.cut sends hears Fair cb ca x.moves x.entry x.before a x.world (omega (arith, tight)); tight = tight } in
        let agree = known cb ca x.moves x.before a (omega (arith, few)) before j i (acts.flips i j one) lives in
        let told = acts.passes j i cb ca x.entry e x.before a f (acts.flips i j one) (lag.all-fair sends hears Fair cb ca (suc x.moves) (x.entry ∷ x.before) a x.world)
        (lag.all-fair sends hears Fair ca cb n a b w, m.fair) lives' agree.asked x.sent is in
        let some : is_some (sends x.entry) ≡ true = (let sent = x.sent in rw sent refl) in
        record {
          told = tells (act j cb x.entry x.before) (st j cb x.before);
          is_told = told;
          rest = split j cb (count hears a) x.entry x.before b x.is_tail tight some ∙ rw is (ap (λ l. asks_from j cb (count hears a + 1) b ++ l) (sym (tells-asks (act j cb x.entry x.before) (st j cb x.before))));
        }
      where
        next-is : (o : Option F) → o ≡ Some f → IsNext sends hears Fair o a b → said_as sends (count hears a) b ≡ Some f
        next-is o h next = subst (λ (o : Option F). IsNext sends hears Fair o a b) h next

    kept-starts : (ca cb : C) → Agrees ca cb [] []
    kept-starts ca cb i j one lives = rw (acts.starts i ca, acts.starts j cb) (record { asked = refl; met = λ g t l. absurd (cc (t)); one = inl refl })

    kept-quiet : (ca cb : C) (n : ℕ) (e : E) (a b : List E) → lag.Known sends hears Fair Agrees (suc n) → World sends hears Fair ca cb (suc n) (e ∷ a) b → Tight sends hears Fair ca cb n a b
        → Moves sends hears Fair ca e a b → sends e ≡ None → Agrees ca cb a b → Agrees ca cb (e ∷ a) b
    kept-quiet ca cb n e a b known w t m silent k i j one lives =
        let fair = lag.all-fair sends hears Fair ca cb (suc n) (e ∷ a) b w in
        let same : count sends (e ∷ a) ≡ count hears b = rw silent t.tight in
        let la = acts.behind ca cb n a b t lives in
        let le = acts.behind ca cb (suc n) (e ∷ a) b (record { world = w; tight = same }) lives in
        let h = hears-now i j ca cb n e a b known t.world m (hears e) refl one la le in
        subst (λ (x : Slot H). Agree x (st j cb b) (asks_from j cb (count hears (e ∷ a)) b)) (sym (acts.goes_on i ca e a fair le))
        (quiet-by (act i ca e a) (st i ca a) (st j cb b) (asks_from j cb (count hears a) b) (asks_from j cb (count hears (e ∷ a)) b) h.told h.is_told h.rest
        (acts.silent i ca e a fair silent) (acts.legal i ca e a fair le) (acts.gone i ca e a fair) (k i j one lives))

    kept-ahead : (ca cb : C) (n : ℕ) (e : E) (a b : List E) → World sends hears Fair ca cb n a b → Moves sends hears Fair cb e b a → hears e ≡ None → Agrees ca cb a b → Agrees ca cb a (e ∷ b)
    kept-ahead ca cb n e a b w m deaf k i j one lives =
        let fair : AllFair cb (e ∷ b) = (lag.all-fair sends hears Fair cb ca n b a (lag.swapped sends hears Fair ca cb n a b w), m.fair) in
        let lb = acts.lived e b lives in
        let all : nat_le (count hears a) (count sends b) ≡ true = yes-below (count hears a) (count sends b) (lag.within sends hears Fair ca cb n a b w).0 in
        subst (λ (y : Slot H). Agree (st i ca a) y (asks_from j cb (count hears a) (e ∷ b))) (sym (acts.goes_on j cb e b fair lives))
        (rw all (agree-ahead (st i ca a) (st j cb b) (asks_from j cb (count hears a) b) (act j cb e b) (acts.deaf j cb e b deaf) (acts.legal j cb e b fair lives) (k i j one lb)))

    kept-pass : (ca cb : C) (n : ℕ) (e : E) (a : List E) (e' : E) (b : List E) (f : F) → lag.Known sends hears Fair Agrees (suc (suc n)) → World sends hears Fair ca cb (suc n) (e ∷ a) b
        → Tight sends hears Fair ca cb n a b → Moves sends hears Fair ca e a b → Moves sends hears Fair cb e' b (e ∷ a) → sends e ≡ Some f → hears e' ≡ Some f
        → Agrees ca cb a b → Agrees ca cb (e ∷ a) (e' ∷ b)
    kept-pass ca cb n e a e' b f known w t m m' sent heard k i j one lives =
        let fair = lag.all-fair sends hears Fair ca cb (suc n) (e ∷ a) b w in
        let fair' : AllFair cb (e' ∷ b) = (lag.all-fair sends hears Fair cb ca n b a (lag.swapped sends hears Fair ca cb n a b t.world), m'.fair) in
        let lb = acts.lived e' b lives in
        let la = acts.behind ca cb n a b t lb in
        let all-heard : count sends a ≡ count hears b = t.tight in
        let same : count sends (e ∷ a) ≡ count hears (e' ∷ b) = rw (sent, heard) (ap (λ k. k + 1) all-heard) in
        let whole : World sends hears Fair ca cb (suc (suc n)) (e ∷ a) (e' ∷ b) = inr (w, m') in
        let le = acts.behind ca cb (suc (suc n)) (e ∷ a) (e' ∷ b) (record { world = whole; tight = same }) lives in
        let fewer : lag.Known sends hears Fair Agrees (suc n) = λ ca cb m a b less t. known ca cb m a b (omega (arith, less)) t in
        let h = hears-now i j ca cb n e a b fewer t.world m (hears e) refl one la le in
        let agree = k i j one lb in
        let all : nat_le (count hears (e ∷ a)) (count sends b) ≡ true = yes-below (count hears (e ∷ a)) (count sends b) (lag.within sends hears Fair ca cb (suc n) (e ∷ a) b w).0 in
        let both = pass-by (act i ca e a) (act j cb e' b) (st i ca a) (st j cb b) (asks_from j cb (count hears a) b) (asks_from j cb (count hears (e ∷ a)) b) h.told h.is_told h.rest
        (acts.passes i j ca cb e e' a b f one fair fair' lives agree.asked sent heard) (acts.legal i ca e a fair le) (acts.legal j cb e' b fair' lives) (acts.gone i ca e a fair) agree in
        subst (λ (x : Slot H). Agree x (st j cb (e' ∷ b)) (asks_from j cb (count hears (e ∷ a)) (e' ∷ b))) (sym (acts.goes_on i ca e a fair le))
        (subst (λ (y : Slot H). Agree (after (act i ca e a) (st i ca a)) y (asks_from j cb (count hears (e ∷ a)) (e' ∷ b))) (sym (acts.goes_on j cb e' b fair' lives)) (rw all both))

    slot-kept : lag.IsKept sends hears Fair Agrees
    slot-kept =
        record {
          starts = kept-starts;
          quiet = kept-quiet;
          ahead = λ ca cb n e a b known w t m deaf k. kept-ahead ca cb n e a b t.world m deaf k;
          pass = kept-pass;
        }

    -- where b has heard all that a sent, and lives, the two agree on the slot
    pub slot-agrees : (ca cb : C) (n : ℕ) (a b : List E) → Tight sends hears Fair ca cb n a b → Agrees ca cb a b
    slot-agrees ca cb n a b t = lag.exact sends hears Fair Agrees slot-kept ca cb n a b t
