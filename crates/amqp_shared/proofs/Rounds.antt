-- What a pass says of a consumer's batches; and batches of one delivery each are rounds of one.
use Rattle.std.specs.Bool.{⊤}
use Rattle.std.specs.Prelude.{MatchResult}
use Rattle.std.proofs.lemmas.List.{length-map}
use Rattle.std.proofs.Common.{inl, inr, ◌≡◌, ℕ, zero, suc, ◌+◌, ◌-◌, ◌≤◌, false, List, [], ◌∷◌, length, map, Option, Some, None, Result, Ok, Err, OnOk, OnErr, refl, sym, ap, subst, ◌∙◌, add-one, arith}
use Rattle.amqp_performatives.specs.declared.state.DeliveryState.{DeliveryState}
use Rattle.amqp_rules.specs.declared.op.Op.{Op}
use Rattle.amqp_rules.specs.declared.reply.Taken.{Taken}
use Rattle.amqp_rules.specs.declared.refusal.Refusal.{Refusal}
use Rattle.amqp_rules.specs.declared.refusal.Refusal.TheVariants as refusal
use Rattle.amqp_shared.specs.Passes.{Tally, Answer, raised, after}
use Rattle.amqp_shared.specs.Consuming.{disposing, granting, Asks, Disposes, GrantsAfter, Goer, Round, Rounds, Runs, Finishes}
use Rattle.amqp_shared.specs.Batching.{TakesMore, TakesBatch, ConsumesAll, TellsSpan, GoesOn, GoesTo, Closes, TellsAll, GrantsThen, SettlesAll, Batched, Batches, RunsBatches, FinishesBatches, IsNext, alone, passed, begins}
use Rattle.amqp_shared.specs.declared.batches.Judged.{Judged}
use Rattle.amqp_shared.specs.declared.batches.Span.{Span}
use Rattle.amqp_shared.specs.declared.consumers.Terms.{Terms}
use Rattle.amqp_shared.specs.Renewing.{MayRest}

-- an answer that is noted once its step is counted
pub noted : (o : Op) (a : Answer) (old counted : Tally) → OnOk a (counted ≡ raised old) → OnErr a (counted ≡ old)
    → record counted { asked = (o, a) ∷ counted.asked } ≡ after o a old
noted o (Ok r) old counted done same = ap (λ (t : Tally). record t { asked = (o, Ok r) ∷ t.asked }) done
noted o (Err e) old counted done same = ap (λ (t : Tally). record t { asked = (o, Err e) ∷ t.asked }) same

-- a delivery that does not follow the open span
pub parted : {S : Type 0} (Does : S → Op → Result (Unit {0}) Refusal → S → Type 0) (begun : Option Span) (s : Span) (j : Judged) (old : S) (told : Result (Unit {0}) Refusal) (new : S) (result : Result (Option Span) Refusal)
    → j.item.settled ≡ false → begun ≡ Some s → (IsNext s j → ⊥) → TellsSpan Does s old told new → result ≡ begins told j → GoesTo Does begun j old result new
parted Does begun s j old told new result unsettled is apart tells same = inr (unsettled, subst (λ o. GoesOn Does o j old result new) (sym is) (inr (apart, told, tells, same)))

-- # A delivery that is taken makes a step

asks-more : (old : Tally) (o : Op) (r : Result (Unit {0}) Refusal) (new : Tally) → Asks old o r new → old.made ≤ new.made
asks-more old o (Ok done) new (r, is) = let e = ap (λ (t : Tally). t.made) is in omega (arith, e)
asks-more old o (Err x) new is = let e = ap (λ (t : Tally). t.made) is in omega (arith, e)

pub takes-more : (link : ℕ) (ts : List Taken) (room : ℕ) (old new : Tally) → TakesMore link ts room old new → old.made + length ts ≤ new.made
takes-more link [] zero old new h = let e = ap (λ (t : Tally). t.made) h in omega (arith, e)
takes-more link [] (suc room) old new (e, is) = let e = ap (λ (t : Tally). t.made) is in omega (arith, e)
takes-more link (t ∷ ts) room old new (r, its, rest) = let more = takes-more link ts room _ new rest in omega (arith, more)

same-more : (old new : Tally) → new ≡ old → old.made ≤ new.made
same-more old new is = let e = ap (λ (t : Tally). t.made) is in omega (arith, e)

on-more : (begun : Option Span) (j : Judged) (old : Tally) (r : Result (Option Span) Refusal) (new : Tally) → GoesOn Asks begun j old r new → old.made ≤ new.made
on-more None j old r new h = same-more old new h.1
on-more (Some s) j old r new (inl h) = same-more old new h.2
on-more (Some s) j old r new (inr (not_next, told, (answer, asks, is), begun)) = asks-more old _ answer new asks

goes-more : (begun : Option Span) (j : Judged) (old : Tally) (r : Result (Option Span) Refusal) (new : Tally) → GoesTo Asks begun j old r new → old.made ≤ new.made
goes-more begun j old r new (inl h) = same-more old new h.2
goes-more begun j old r new (inr h) = on-more begun j old r new h.1

closes-more : (begun : Option Span) (old : Tally) (r : Result (Unit {0}) Refusal) (new : Tally) → Closes Asks begun old r new → old.made ≤ new.made
closes-more None old r new h = same-more old new h.1
closes-more (Some s) old r new (answer, asks, is) = asks-more old _ answer new asks

tells-more : (js : List Judged) (begun : Option Span) (old : Tally) (r : Result (Unit {0}) Refusal) (new : Tally) → TellsAll Asks js begun old r new → old.made ≤ new.made
tells-more [] begun old r new h = closes-more begun old r new h
tells-more (j ∷ js) begun old r new (Ok next, between, goes, rest) =
    let first = goes-more begun j old (Ok next) between goes in
    let others = tells-more js next between r new rest in
    omega (arith, first, others)
tells-more (j ∷ js) begun old r new (Err e, between, goes, rest) =
    let first = goes-more begun j old (Err e) between goes in
    let others = same-more between new rest.1 in
    omega (arith, first, others)

module _ (Due Rests : Tally → Type 0) where
  grants-more : (a : Result (Unit {0}) Refusal) (old : Tally) (o : Op) (r : Result (Unit {0}) Refusal) (new : Tally) → GrantsThen Asks Due Rests a old o r new → old.made ≤ new.made
  grants-more (Ok done) old o r new (inl (due, h)) = asks-more old o r new h
  grants-more (Ok done) old o r new (inr (may, ok, same)) = same-more old new same
  grants-more (Err e) old o r new h = same-more old new h.1

module _ {W : Type 0} (consumes : W → Taken → DeliveryState → W → Type 0) (d : Terms) (more : ℕ) where
  pub batched-more : (old : Goer W) (size : ℕ) (r : Result (Unit {0}) Refusal) (new : Goer W) → Batched consumes d more old size r new → old.pass.made + size ≤ new.pass.made
  batched-more old size r new h =
      let items = map (λ (j : Judged). j.item) h.batch in
      let taken = takes-more d.link items (more + 1 - length items) old.pass h.between h.takes.2 in
      let told = tells-more h.batch None h.between h.settles.answer h.settles.between h.settles.tells in
      let granted = grants-more (λ _. ⊤) (λ _. MayRest d.renewal) h.settles.answer h.settles.between (granting d.link d.credit) r new.pass h.settles.grants in
      let size = h.counted in
      let same = length-map h.batch (λ (j : Judged). j.item) in
      omega (arith, taken, told, granted, size, same)

  pub batches-more : (n count : ℕ) (old new : Goer W) → Batches consumes d more n count old new → old.pass.made + count ≤ new.pass.made
  batches-more zero count old new h = let none = h.0 in let e = ap (λ (g : Goer W). g.pass.made) h.1 in omega (arith, none, e)
  batches-more (suc n) count old new (between, before, size, counted, rounds, last) =
      let r = batches-more n before old between rounds in
      let l = batched-more between size (Ok tt) new last in
      omega (arith, counted, r, l)

-- # Batches of one

-- what is told of one delivery is told as it is of one that is disposed alone
one-told : (j : Judged) (old : Tally) (a : Result (Unit {0}) Refusal) (new : Tally) → TellsAll Asks (j ∷ []) None old a new
    → (answer : Result (Unit {0}) Refusal) × Disposes Asks old j.item j.state answer new × (a ≡ passed answer)
one-told j old a new (step, between, inl (settled, is, same), rest) = settled-told step is rest
  where
    settled-told : (step : Result (Option Span) Refusal) → step ≡ Ok None → MatchResult step (λ next. TellsAll Asks [] next between a new) (λ e. (a ≡ Err e) × (new ≡ between))
        → (answer : Result (Unit {0}) Refusal) × Disposes Asks old j.item j.state answer new × (a ≡ passed answer)
    settled-told step is rest =
        let closed : Closes Asks None between a new = subst (λ s. MatchResult s (λ next. TellsAll Asks [] next between a new) (λ e. (a ≡ Err e) × (new ≡ between))) is rest in (
          Ok tt,
          record {
            told = λ not_settled. absurd (let q = settled in let r = not_settled in cc);
            settled = λ h. (refl, closed.1 ∙ same);
          },
          closed.0,
        )
one-told j old a new (step, between, inr (unsettled, (is, same)), rest) =
    let closed : TellsSpan Asks (alone j) between a new = subst (λ s. MatchResult s (λ next. TellsAll Asks [] next between a new) (λ e. (a ≡ Err e) × (new ≡ between))) is rest in (
      closed.0,
      record {
        told = λ h. subst (λ (t : Tally). Asks t (disposing j.item j.state) closed.0 new) same closed.1;
        settled = λ h. absurd (let q = unsettled in let r = h in cc);
      },
      closed.2,
    )

module _ (Due Rests : Tally → Type 0) where
  granted-after : (answer a : Result (Unit {0}) Refusal) (old : Tally) (o : Op) (r : Result (Unit {0}) Refusal) (new : Tally) → a ≡ passed answer → GrantsThen Asks Due Rests a old o r new → GrantsAfter Asks Due Rests answer old o r new
  granted-after answer a old o r new is h = by answer (subst (λ (x : Result (Unit {0}) Refusal). GrantsThen Asks Due Rests x old o r new) is h)
    where
      by : (answer : Result (Unit {0}) Refusal) → GrantsThen Asks Due Rests (passed answer) old o r new → GrantsAfter Asks Due Rests answer old o r new
      by (Ok done) h = h
      by (Err refusal.NothingHeld) h = h
      by (Err e) h = h

module _ {W : Type 0} (consumes : W → Taken → DeliveryState → W → Type 0) (d : Terms) where
  one-round : (old : Goer W) (size : ℕ) (r : Result (Unit {0}) Refusal) (new : Goer W) → Batched consumes d 0 old size r new → (size ≡ 1) × Round consumes d.link d.credit d.renewal old r new
  one-round old size r new h = by h.batch h.counted h.takes h.consumed h.settles
    where
      by : (js : List Judged) → size ≡ length js → TakesBatch d.link 0 old.pass (map (λ (j : Judged). j.item) js) (Ok tt) h.between → ConsumesAll consumes old.work js new.work
          → SettlesAll Asks (λ _. ⊤) (λ _. MayRest d.renewal) h.between js d.link d.credit r new.pass → (size ≡ 1) × Round consumes d.link d.credit d.renewal old r new
      by [] counted takes consumed settles = absurd (let few = takes.0 in omega (arith, few))
      by (j ∷ []) counted takes consumed settles =
          let (receipt, its, noted) = takes.2 in
          let (answer, disposes, is) = one-told j h.between settles.answer settles.between settles.tells in (
            counted,
            record {
              delivery = j.item;
              state = j.state;
              between = h.between;
              takes = (receipt, noted, its);
              consumed = subst (λ (w : W). consumes old.work j.item j.state w) (sym consumed.2) consumed.1;
              settles = record {
                answer = answer;
                between = settles.between;
                disposes = disposes;
                grants = subst (λ link. GrantsAfter Asks (λ _. ⊤) (λ _. MayRest d.renewal) answer settles.between (granting link d.credit) r new.pass) (sym its)
                    (granted-after (λ _. ⊤) (λ _. MayRest d.renewal) answer settles.answer settles.between (granting d.link d.credit) r new.pass is settles.grants);
              };
            },
          )
      by (j ∷ k ∷ js) counted takes consumed settles = absurd (let few = takes.1 in omega (arith, few))

  one-rounds : (n count : ℕ) (old new : Goer W) → Batches consumes d 0 n count old new → Rounds consumes d.link d.credit d.renewal count old new
  one-rounds zero count old new h = subst (λ n. Rounds consumes d.link d.credit d.renewal n old new) (sym h.0) h.1
  one-rounds (suc n) count old new (between, before, size, counted, batches, last) =
      let (is, round) = one-round between size (Ok tt) new last in
      let rounds = one-rounds n before old between batches in
      subst (λ n. Rounds consumes d.link d.credit d.renewal n old new) (sym (counted ∙ ap (λ s. before + s) is ∙ add-one before)) (between, rounds, round)

  one-runs : (old : Goer W) (count : ℕ) (stopped : Refusal) (new : Goer W) → RunsBatches consumes d 0 old count stopped new → Runs consumes d.link d.credit d.renewal old count stopped new
  one-runs old count stopped new (inl h) =
      inl (record {
        between = h.between;
        rounds = one-rounds h.rounds count old h.between h.batches;
        takes = h.takes;
        rests = h.rests;
      })
  one-runs old count stopped new (inr h) =
      let (is, round) = one-round h.between h.size (Err stopped) new h.last in
      inr (record {
        before = h.before;
        counted = h.counted ∙ ap (λ s. h.before + s) is ∙ add-one h.before;
        between = h.between;
        rounds = one-rounds h.rounds h.before old h.between h.batches;
        last = round;
      })

  pub one-by-one : (old : Goer W) (count left : ℕ) (stopped : Refusal) (new : Goer W) → FinishesBatches consumes d 0 old count left stopped new
      → Finishes consumes d.link d.credit d.renewal old count left stopped new
  one-by-one old count left stopped new h =
      record {
        between = h.between;
        runs = one-runs old count stopped h.between h.runs;
        pass = h.pass;
        leaves = h.leaves;
      }
