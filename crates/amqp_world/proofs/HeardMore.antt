-- Hearing alone: what one frame that is heard makes of two ends, and that all was heard where nothing waits.
use Rattle.std.proofs.Common.{zero, suc, ℕ, ◌≡◌, ◌≤◌, ◌<◌, ◌+◌, ◌-◌, ◌*◌, ◌^◌, ◌==◌, Bool, true, false, Option, None, Some, List, [], ◌∷◌, IsTrue, ◌↔◌, length, is_none, take, arith, add-one, refl, sym, ap, ◌∙◌, subst}
use Rattle.amqp_frames.specs.declared.frame.Frame.{Frame}
use Rattle.amqp_rules.specs.declared.reply.Given.{Given}
use Rattle.amqp_laws.specs.declared.entry.Entry.{Entry}
use Rattle.amqp_laws.specs.declared.entry.Step.TheVariants.{Heard}
use Rattle.amqp_laws.specs.Past.{past}
use Rattle.amqp_journal.specs.Log.{Log}
use Rattle.amqp_pair_laws.specs.Moves.{and_one, count, said_as}
use Rattle.amqp_pair_laws.specs.World.{IsFair, hears, sends}
use Rattle.amqp_pair_laws.specs.Agreeing.{HearsOn, on_way}
use Rattle.amqp_pair_laws.proofs.Lag as lag
use Rattle.amqp_pair_laws.proofs.Opens.{few-by}
use Rattle.amqp_world.specs.declared.heard.Hearing.{Hearing}
use Rattle.amqp_world.specs.declared.refusal.HearRefusal.{HearRefusal}
use Rattle.amqp_world.specs.declared.refusal.HearRefusal.TheVariants.{Empty}
use Rattle.amqp_world.specs.declared.settling.Settled.{Settled}
use Rattle.amqp_world.specs.declared.settling.Turn.TheVariants as Turns
use Rattle.amqp_world.specs.declared.side.Side.{Side}
use Rattle.amqp_world.specs.declared.side.Side.TheVariants.{A, B}
use Rattle.amqp_world.specs.Sides.{Sides}
use Rattle.amqp_world.specs.Knowing.{IsPair, Meets}
use Rattle.amqp_world.specs.AtRest.{HaveHeard, IsAtRest, IsBounded, Turned}
use Rattle.amqp_world.specs.Calls.{Hears, IsUnheard, waiting}
use Rattle.amqp_world.specs.Promises.{AreReached, HasHeardAll, HasHeardMore, HearingEnds}
use Rattle.amqp_world.proofs.Appending.{heard-appended}
use Rattle.amqp_world.proofs.Meeting.{back-logged}

by-bool : {P : Type 0} (b : Bool) → (b ≡ true → P) → (b ≡ false → P) → P
by-bool true t f = t refl
by-bool false t f = f refl

-- # What waits

-- what was said as number n is there, where more was said
said-there : {X E : Type 0} (says : E → Option X) (n : ℕ) (past : List E) → n < count says past → said_as says n past ≡ None → ⊥
said-there says n [] more none = absurd (omega (arith, more))
said-there {X = X} says n (e ∷ before) more none =
    by-bool (count says before == n)
    (λ (t : (count says before == n) ≡ true). let k = rw t at none in of (says e) k more (same (count says before) n t))
    (λ (f : (count says before == n) ≡ false). let k = rw f at none in said-there says n before (less (says e) more f) k)
  where
    same : (m n : ℕ) → (m == n) ≡ true → m ≡ n
    same m n h = grind (arith, h)

    of : (o : Option X) → o ≡ None → n < and_one o (count says before) → count says before ≡ n → ⊥
    of None h more e = absurd (omega (arith, more, e))
    of (Some a) h more e = absurd (cc (h))

    less : (o : Option X) → n < and_one o (count says before) → (count says before == n) ≡ false → n < count says before
    less None more f = more
    less (Some a) more f = grind (arith, more, f)

-- where nothing waits, all was heard
pub all-heard : (mine theirs : Log) → AreReached mine theirs → waiting mine theirs ≡ None → HasHeardAll mine theirs
all-heard mine theirs w none =
    let few : count hears (past mine.journal) ≤ count sends (past theirs.journal) = (lag.within sends hears IsFair theirs.config mine.config w.0 (past theirs.journal) (past mine.journal) w.1).1 in
    by-bool (count sends (past theirs.journal) == count hears (past mine.journal))
    (λ (t : (count sends (past theirs.journal) == count hears (past mine.journal)) ≡ true). equal (count sends (past theirs.journal)) (count hears (past mine.journal)) t)
    (λ (f : (count sends (past theirs.journal) == count hears (past mine.journal)) ≡ false).
    absurd (said-there sends (count hears (past mine.journal)) (past theirs.journal) (more (count sends (past theirs.journal)) (count hears (past mine.journal)) few f) none))
  where
    equal : (m n : ℕ) → (m == n) ≡ true → m ≡ n
    equal m n h = grind (arith, h)

    more : (m n : ℕ) → n ≤ m → (m == n) ≡ false → n < m
    more m n h f = grind (arith, h, f)

-- and where all was heard nothing waits
pub none-waits : (mine theirs : Log) → HasHeardAll mine theirs → waiting mine theirs ≡ None
none-waits mine theirs all = by (waiting mine theirs) refl
  where
    by : (o : Option Frame) → waiting mine theirs ≡ o → waiting mine theirs ≡ None
    by None is = is
    by (Some f) is =
        let below : count hears (past mine.journal) < count sends (past theirs.journal) = lag.said-below sends (count hears (past mine.journal)) (past theirs.journal) f is in
        absurd (omega (arith, below, all))

-- # What is heard

pub heard-one : (mine theirs new : Log) (given : Given) → Hears mine theirs given new → HasHeardMore 1 mine new
heard-one mine theirs new given h =
    let a = heard-appended mine new h.0 given h.2 in
    let e : Entry = record { step = Heard h.0; reply = a.reply } in
    let now : past new.journal ≡ e ∷ past mine.journal = ap (λ (l : Log). past l.journal) a.is ∙ back-logged mine (Heard h.0) a.reply in
    record { config = ap (λ (l : Log). l.config) a.is; hears = subst (λ (p : List Entry). HearsOn 1 p (past mine.journal)) (sym now) (refl, refl) }

pub heard-none : (l : Log) → HasHeardMore 0 l l
heard-none l = record { config = refl; hears = refl }

more-on : (k : ℕ) (new mid old : List Entry) → HearsOn 1 new mid → HearsOn k mid old → HearsOn (suc k) new old
more-on k [] mid old on h = absurd on
more-on k (e ∷ late) mid old on h = (on.0, subst (λ (l : List Entry). HearsOn k l old) (sym on.1) h)

pub heard-then : (k : ℕ) (old mid new : Log) → HasHeardMore k old mid → HasHeardMore 1 mid new → HasHeardMore (k + 1) old new
heard-then k old mid new h one =
    record {
      config = one.config ∙ h.config;
      hears = subst (λ (n : ℕ). HearsOn n (past new.journal) (past old.journal)) (sym (add-one k)) (more-on k (past new.journal) (past mid.journal) (past old.journal) one.hears h.hears);
    }

pub heard-still : (k : ℕ) (old mid new : Log) → HasHeardMore k old mid → new ≡ mid → HasHeardMore k old new
heard-still k old mid new h same = subst (λ (l : Log). HasHeardMore k old l) (sym same) h

-- # Numbers

on-short : (k : ℕ) (late early : List Entry) → HearsOn k late early → k ≤ length late
on-short zero late early on = omega arith
on-short (suc k) [] early on = absurd on
on-short (suc k) (e ∷ late) early on = let h = on-short k late early on.1 in omega (arith, h)

-- the journals are short
pub few-heard : (k : ℕ) (old new theirs : Log) → AreReached theirs new → HasHeardMore k old new → k ≤ 2 ^ 30
few-heard k old new theirs w h =
    let few = few-by new.config (past new.journal) (lag.all-fair sends hears IsFair new.config theirs.config w.0 (past new.journal) (past theirs.journal) w.1) in
    let short = on-short k (past new.journal) (past old.journal) h.hears in
    omega (arith, few, short)

-- # Both ends

abbrev pub one_more : Side → Settled → Settled
one_more A s = record s { a = s.a + 1 }
one_more B s = record s { b = s.b + 1 }

pub heard-at-first : (w : Sides) → HaveHeard (record { a = 0; b = 0 }) w w
heard-at-first w A = heard-none w.a
heard-at-first w B = heard-none w.b

pub bounded-at-first : (w : Sides) → IsBounded (record { a = 0; b = 0 }) w
bounded-at-first w = by (on_way (past w.a.journal) (past w.b.journal))
  where
    by : (n : ℕ) → 0 + 0 ≤ 2 * n
    by n = omega arith

back : (mine theirs : Log) → AreReached mine theirs → AreReached theirs mine
back mine theirs w = (w.0, lag.swapped sends hears IsFair theirs.config mine.config w.0 (past theirs.journal) (past mine.journal) w.1)

-- what a frame more makes of how far both came
pub record Progress (s : Settled) (start new : Sides) : Type 0 where
  pub heard : HaveHeard s start new
  pub bounded : IsBounded s start
  pub few-a : s.a ≤ 2 ^ 30
  pub few-b : s.b ≤ 2 ^ 30

progress : (s : Settled) (start new : Sides) → HearingEnds start.a start.b → AreReached new.a new.b → HaveHeard s start new → Progress s start new
progress s start new law reached h =
    record {
      heard = h;
      bounded = law s.a s.b new.a new.b reached (h A) (h B);
      few-a = few-heard s.a start.a new.a new.b (back new.a new.b reached) (h A);
      few-b = few-heard s.b start.b new.b new.a reached (h B);
    }

pub goes-on : (s : Settled) (start old new : Sides) (side : Side) → HearingEnds start.a start.b → HaveHeard s start old → Turned (Turns.Heard side) old new → Progress (one_more side s) start new
goes-on s start old new A law h t = progress (one_more A s) start new law t.2 by
  where
    by : HaveHeard (one_more A s) start new
    by A = heard-then s.a start.a old.a new.a (h A) t.0
    by B = heard-still s.b start.b old.b new.b (h B) t.1
goes-on s start old new B law h t = progress (one_more B s) start new law t.2 by
  where
    by : HaveHeard (one_more B s) start new
    by A = heard-still s.a start.a old.a new.a (h A) t.1
    by B = heard-then s.b start.b old.b new.b (h B) t.0

pub stays : (s : Settled) (start old new : Sides) → HaveHeard s start old → new ≡ old → HaveHeard s start new
stays s start old new h same = subst (λ (w : Sides). HaveHeard s start w) (sym same) h

pub smaller : (w a b a' b' : ℕ) → a' + b' ≡ (a + b) + 1 → a' + b' ≤ w → w - (a' + b') < w - (a + b)
smaller w a b a' b' more bound = omega (arith, more, bound)

-- # What each end has heard, by the place of the next frame

is-some : (o : Option Frame) → is_none o ≡ true → o ≡ None
is-some None h = refl
is-some (Some f) h = absurd (cc (h))

pub heard-there : (h : Hearing) (mine theirs : Log) (r : Bool) → Meets h mine theirs → r ≡ is_none (said_as sends (count sends (past (take h.place theirs.journal))) (past theirs.journal)) → IsTrue r ↔ HasHeardAll mine theirs
heard-there h mine theirs r m is = (
  λ t. all-heard mine theirs (m.moves, m.world) (is-some (waiting mine theirs) (sym now ∙ t)),
  λ all. now ∙ ap (λ (o : Option Frame). is_none o) (none-waits mine theirs all),
)
  where
    now : r ≡ is_none (waiting mine theirs)
    now = is ∙ ap (λ (n : ℕ). is_none (said_as sends n (past theirs.journal))) m.all

pub both-heard : (a_hears b_hears : Hearing) (w v : Sides) (r s : Bool) → IsPair a_hears b_hears v.a v.b → v ≡ w → r ≡ is_none (said_as sends (count sends (past (take a_hears.place v.b.journal))) (past v.b.journal))
    → s ≡ is_none (said_as sends (count sends (past (take b_hears.place v.a.journal))) (past v.a.journal)) → r ≡ true → IsTrue s ↔ IsAtRest w
both-heard a_hears b_hears w v r s p same first second here' =
    let here = heard-there a_hears v.a v.b r p.a_meets first in
    let there = heard-there b_hears v.b v.a s p.b_meets second in
    subst (λ (w : Sides). IsTrue s ↔ IsAtRest w) same (λ t. (here.0 here', there.0 t), λ rest. there.1 rest.1)

pub one-waits : (a_hears b_hears : Hearing) (w v : Sides) (r : Bool) → IsPair a_hears b_hears v.a v.b → v ≡ w → r ≡ is_none (said_as sends (count sends (past (take a_hears.place v.b.journal))) (past v.b.journal))
    → r ≡ false → IsTrue r ↔ IsAtRest w
one-waits a_hears b_hears w v r p same first none =
    let here = heard-there a_hears v.a v.b r p.a_meets first in
    subst (λ (w : Sides). IsTrue r ↔ IsAtRest w) same (λ t. absurd (cc (t, none)), λ rest. here.1 rest.0)

-- neither end has anything to hear
pub rests : (old mid new : Sides) (r s : HearRefusal) → IsUnheard old.a old.b r → r ≡ Empty → IsUnheard mid.b mid.a s → s ≡ Empty → mid ≡ old → new ≡ mid → AreReached new.a new.b → AreReached new.b new.a
    → Turned Turns.Rests old new
rests old mid new r s first e second f same same' reached reached' =
    let here : waiting old.a old.b ≡ None = subst (λ (r : HearRefusal). IsUnheard old.a old.b r) e first in
    let there : waiting mid.b mid.a ≡ None = subst (λ (r : HearRefusal). IsUnheard mid.b mid.a r) f second in
    let here' : waiting new.a new.b ≡ None = ap (λ (w : Sides). waiting w.a w.b) (same' ∙ same) ∙ here in
    let there' : waiting new.b new.a ≡ None = ap (λ (w : Sides). waiting w.b w.a) same' ∙ there in
    (same' ∙ same, (all-heard new.a new.b reached here', all-heard new.b new.a reached' there'))

-- the second end heard, where the first had nothing to hear
pub heard-second : (old mid new : Sides) (given : Given) → mid ≡ old → Hears mid.b mid.a given new.b → new.a ≡ mid.a → AreReached new.a new.b → Turned (Turns.Heard B) old new
heard-second old mid new given same h other' reached =
    (subst (λ (w : Sides). HasHeardMore 1 w.b new.b) same (heard-one mid.b mid.a new.b given h), other' ∙ ap (λ (w : Sides). w.a) same, reached)
