-- In every world, what was taken on an attached link is a front of what was sent complete on the link whose attach was heard.
use Rattle.std.proofs.Common.{zero, suc, ◌≡◌, ◌⊎◌, inl, inr, ℕ, ◌++◌, true, false, arith, subst, Option, Some, None, List, [], ◌∷◌, refl, sym, ap, ◌∙◌, find, map, is_some}
use Rattle.amqp_performatives.specs.declared.bodies.Role.TheVariants.{Sender, Receiver}
use Rattle.amqp_events.specs.Joined.{Transferred, complete, completed, unfinished, next_delivery as joined_to}
use Rattle.amqp_events.proofs.JoinedLaw.{complete-step}
use Rattle.amqp_rules.specs.declared.config.Config.{Config}
use Rattle.amqp_rules.specs.View.{EndView, LinkView, has_name, is_attached, is_over}
use Rattle.amqp_rules.proofs.Listed.{by-bool}
use Rattle.amqp_laws.specs.declared.entry.Entry.{Entry}
use Rattle.amqp_laws.specs.At.{at}
use Rattle.amqp_pair_laws.specs.Moves.{IsTail}
use Rattle.amqp_pair_laws.specs.Passing.{Content, content_of, passed_on, sent_now, sent_on, taken_on}
use Rattle.amqp_pair_laws.specs.Takes.{IsFront, Source, TakesAll, TakesEver, TakesOnAttached, TakesWhatWasSent}
use Rattle.amqp_pair_laws.specs.World.{IsFair, Tight, World, hears, sends}
use Rattle.amqp_pair_laws.proofs.Lag as lag
use Rattle.amqp_pair_laws.proofs.Slots.{kept}
use Rattle.amqp_pair_laws.proofs.SlotOf.{shape}
use Rattle.amqp_pair_laws.proofs.SlotActs.{AllFair, slots-known}
use Rattle.amqp_pair_laws.proofs.CountsKept.{fair-both}
use Rattle.amqp_pair_laws.proofs.CountsPass.{attached-ends, kept-left-some}
use Rattle.amqp_pair_laws.proofs.HeldKnown.{one-sound, ours-there}
use Rattle.amqp_pair_laws.proofs.TakenKnown.{map-more, none-more}
use Rattle.amqp_pair_laws.proofs.TakenPass.{taken-known}
use Rattle.amqp_pair_laws.proofs.TakenEver.{Stood, front-on, self-tail, stood, taken-or}
use Rattle.amqp_pair_laws.proofs.SameSource.{hears-grow, sends-grow, source-known}
use Rattle.amqp_pair_laws.proofs.SaidKnown.{fair-tail}

-- # What is sent later comes after

passed-more : (k : ℕ) (e : Entry) (past : List Entry) → IsFront (passed_on k past) (passed_on k (e ∷ past))
passed-more k e past = by (sent_now k e) refl
  where
    by : (o : Option Transferred) → sent_now k e ≡ o → IsFront (passed_on k past) (passed_on k (e ∷ past))
    by None is = ([], (let same : sent_on k (e ∷ past) ≡ sent_on k past = rw is refl in ap (λ s. map content_of (complete s)) same ∙ sym (none-more (passed_on k past))))
    by (Some t) is =
        let one : sent_on k (e ∷ past) ≡ t ∷ sent_on k past = rw is refl in
        let more = completed (joined_to t (unfinished (sent_on k past))) in
        (map content_of more, ap (λ s. map content_of (complete s)) one ∙ ap (map content_of) (complete-step t (sent_on k past)) ∙ map-more content_of (complete (sent_on k past)) more)

passed-later : (k : ℕ) (early past : List Entry) → IsTail early past → IsFront (passed_on k early) (passed_on k past)
passed-later k early [] t = ([], ap (passed_on k) (sym t) ∙ sym (none-more (passed_on k early)))
passed-later k early (e ∷ past) (inl t) = ([], ap (passed_on k) (sym t) ∙ sym (none-more (passed_on k early)))
passed-later k early (e ∷ past) (inr t) = front-on (passed_on k early) (passed_on k past) (passed_on k (e ∷ past)) (passed-later k early past t) (passed-more k e past)

-- # The clauses

pub takes-all : TakesAll
takes-all ca cb n a b name x y t lives fx ours unleft fy unleft' = (taken-known ca cb n a b t lives name x y fx fy ours unleft unleft').equal

pub takes-sent : TakesWhatWasSent
takes-sent ca cb n a b name y w fy attached =
    let s = lag.star sends hears IsFair cb ca n b a (lag.swapped sends hears IsFair ca cb n a b w) in
    let t = s.behind in
    let fb = (fair-both ca cb n a b w).1 in
    let sound = one-sound cb b fb in
    let lives : is_over (at cb b).session ≡ false =
    by-bool (is_over (at cb b).session)
    (λ (o : is_over (at cb b).session ≡ true). let none = sound.over o in let k : find (has_name Receiver name) [] ≡ Some y = ap (find (has_name Receiver name)) (sym none) ∙ fy in absurd (cc (k)))
    (λ (l : is_over (at cb b).session ≡ false). l) in
    let x = ours-there ca cb s.moves s.early b t lives name y fy attached in
    let slot = slots-known ca cb s.moves s.early b t lives Sender name in
    let p = attached-ends y attached in
    let l = x.link' in
    let ours : is_some l.ours ≡ true = ap (λ (o : Option EndView). is_some o) (sym (kept-left-some l.left l.ours x.unleft) ∙ ap (λ o. kept (shape o)) (sym x.found) ∙ slot.asked ∙ ap (λ o. (shape o).theirs) fy) ∙ p.1.0 in
    let all = takes-all ca cb s.moves s.early b name l y t lives x.found ours x.unleft fy p.1.1 in (
      record { early = s.early; is_tail = s.is_tail; heard_all = t.tight; link = l; found = x.found },
      front-on (taken_on y.number b) (passed_on l.number s.early) (passed_on l.number a) (map content_of y.ready, sym all) (passed-later l.number s.early a s.is_tail),
    )

-- # On links that are left or gone

tail-on : {E : Type 0} (xs ys zs : List E) → IsTail xs ys → IsTail ys zs → IsTail xs zs
tail-on {E = E} xs ys [] t u = subst (λ (ys : List E). IsTail xs ys) u t
tail-on {E = E} xs ys (e ∷ zs) t (inl u) = subst (λ (ys : List E). IsTail xs ys) u t
tail-on {E = E} xs ys (e ∷ zs) t (inr u) = inr (tail-on xs ys zs t u)

-- of two earlier states one is the earlier
either-tail : {E : Type 0} (xs ys zs : List E) → IsTail xs zs → IsTail ys zs → IsTail xs ys ⊎ IsTail ys xs
either-tail {E = E} xs ys [] t u = inl (subst (λ (ys : List E). IsTail xs ys) (sym u) t)
either-tail {E = E} xs ys (e ∷ zs) (inl t) u = inr (subst (λ (zs : List E). IsTail ys zs) (sym t) u)
either-tail {E = E} xs ys (e ∷ zs) (inr t) (inl u) = inl (subst (λ (ys : List E). IsTail xs ys) (sym u) (inr t))
either-tail {E = E} xs ys (e ∷ zs) (inr t) (inr u) = either-tail xs ys zs t u

-- the world in which b was in an earlier state
record Earlier (ca cb : Config) (a early : List Entry) : Type 0 where
  moves : ℕ
  other : List Entry
  is_tail : IsTail other a
  world : World ca cb moves other early

earlier : (ca cb : Config) (n : ℕ) (a b early : List Entry) → World ca cb n a b → IsTail early b → Earlier ca cb a early
earlier ca cb n a [] early w t = record { moves = n; other = a; is_tail = self-tail a; world = subst (λ (b : List Entry). World ca cb n a b) (sym t) w }
earlier ca cb n a (e ∷ b) early w (inl t) = record { moves = n; other = a; is_tail = self-tail a; world = subst (λ (b : List Entry). World ca cb n a b) (sym t) w }
earlier ca cb zero a (e ∷ b) early w (inr t) = absurd (w.1)
earlier ca cb (suc n) [] (e ∷ b) early (inl w) (inr t) = absurd w
earlier ca cb (suc n) (e' ∷ a) (e ∷ b) early (inl w) (inr t) = let x = earlier ca cb n a (e ∷ b) early w.0 (inr t) in record { moves = x.moves; other = x.other; is_tail = inr x.is_tail; world = x.world }
earlier ca cb (suc n) a (e ∷ b) early (inr w) (inr t) = earlier ca cb n a b early w.0 t

-- the link of a's where b has the link y, and had heard all that a had sent
record Sourced (ca cb : Config) (a early : List Entry) (name : List ℕ) (y : LinkView) : Type 0 where
  moves : ℕ
  source : Source ca a early name
  tight : Tight ca cb moves source.early early
  lives : is_over (at cb early).session ≡ false
  ours : is_some source.link.ours ≡ true
  unleft : source.link.left ≡ false
  theirs : is_some y.theirs ≡ true
  stays : y.left ≡ false

sourced : (ca cb : Config) (n : ℕ) (a b early : List Entry) (name : List ℕ) (y : LinkView) → World ca cb n a b → IsTail early b → find (has_name Receiver name) (at cb early).links ≡ Some y → is_attached y ≡ true → Sourced ca cb a early name y
sourced ca cb n a b early name y w tail fy attached =
    let w' = earlier ca cb n a b early w tail in
    let s = lag.star sends hears IsFair cb ca w'.moves early w'.other (lag.swapped sends hears IsFair ca cb w'.moves w'.other early w'.world) in
    let t = s.behind in
    let sound = one-sound cb early (fair-tail cb early b tail (fair-both ca cb n a b w).1) in
    let lives : is_over (at cb early).session ≡ false =
    by-bool (is_over (at cb early).session)
    (λ (o : is_over (at cb early).session ≡ true). let none = sound.over o in let k : find (has_name Receiver name) [] ≡ Some y = ap (find (has_name Receiver name)) (sym none) ∙ fy in absurd (cc (k)))
    (λ (l : is_over (at cb early).session ≡ false). l) in
    let x = ours-there ca cb s.moves s.early early t lives name y fy attached in
    let slot = slots-known ca cb s.moves s.early early t lives Sender name in
    let p = attached-ends y attached in
    let l = x.link' in
    let ours : is_some l.ours ≡ true = ap (λ (o : Option EndView). is_some o) (sym (kept-left-some l.left l.ours x.unleft) ∙ ap (λ o. kept (shape o)) (sym x.found) ∙ slot.asked ∙ ap (λ o. (shape o).theirs) fy) ∙ p.1.0 in
    record {
      moves = s.moves;
      source = record { early = s.early; is_tail = tail-on s.early w'.other a s.is_tail w'.is_tail; heard_all = t.tight; link = l; found = x.found };
      tight = t;
      lives = lives;
      ours = ours;
      unleft = x.unleft;
      theirs = p.1.0;
      stays = p.1.1;
    }

pub takes-ever : TakesEver
takes-ever ca cb n a b early name y w tail fy attached = by (either-tail sx.source.early sz.source.early a sx.source.is_tail sz.source.is_tail)
  where
    fb : AllFair cb b
    fb = (fair-both ca cb n a b w).1

    s : Stood cb early y.number name b
    s = stood cb early b name y fb tail fy attached

    z : LinkView
    z = s.link'

    sx : Sourced ca cb a early name y
    sx = sourced ca cb n a b early name y w tail fy attached

    sz : Sourced ca cb a s.early name z
    sz = sourced ca cb n a b s.early name z w s.is_tail s.found s.attached

    -- what was taken is a front of what was sent when the link was attached last, and that of what is sent now
    front : IsFront (taken_on y.number b) (passed_on sz.source.link.number a)
    front =
        let all = takes-all ca cb sz.moves sz.source.early s.early name sz.source.link z sz.tight sz.lives sz.source.found sz.ours sz.unleft s.found sz.stays in
        let k : IsFront (taken_on y.number b) (passed_on sz.source.link.number sz.source.early) = subst (λ (xs : List Content). IsFront (taken_on y.number b) xs) (ap (λ k. taken_on k s.early ++ map content_of z.ready) (sym s.number) ∙ all) s.front in
        front-on (taken_on y.number b) (passed_on sz.source.link.number sz.source.early) (passed_on sz.source.link.number a) k (passed-later sz.source.link.number sz.source.early a sz.source.is_tail)

    by : IsTail sx.source.early sz.source.early ⊎ IsTail sz.source.early sx.source.early → (x : Source ca a early name) × IsFront (taken_on y.number b) (passed_on x.link.number a)
    by (inl t) =
        let same = source-known ca cb sz.moves sz.source.early s.early sz.tight sz.lives name sz.source.link z sz.source.found s.found sz.ours sz.unleft sz.stays
        sx.source.early early sx.source.link y t s.since sx.source.heard_all sx.source.found fy sx.theirs (sym s.number) in
        (sx.source, subst (λ (k : ℕ). IsFront (taken_on y.number b) (passed_on k a)) (sym same) front)
    by (inr t) =
        let few = sends-grow sz.source.early sx.source.early t in
        let more = hears-grow early s.early s.since in
        let h1 = sx.source.heard_all in
        let h2 = sz.source.heard_all in
        (record { early = sz.source.early; is_tail = sz.source.is_tail; heard_all = omega (arith, few, more, h1, h2); link = sz.source.link; found = sz.source.found }, front)

pub takes-on-attached : TakesOnAttached
takes-on-attached ca cb n a b k w = taken-or cb b k (fair-both ca cb n a b w).1
