-- How many steps a consumer's pass makes: one for each delivery that it takes, and at most two more.
use Rattle.std.specs.Bool.{⊤}
use Rattle.std.proofs.lemmas.List.{length-map}
use Rattle.std.proofs.Common.{inl, inr, ◌≡◌, ℕ, zero, suc, ◌+◌, ◌*◌, ◌-◌, ◌≤◌, List, [], ◌∷◌, length, map, Option, Some, None, Result, Ok, Err, ap, arith}
use Rattle.amqp_performatives.specs.declared.state.DeliveryState.{DeliveryState}
use Rattle.amqp_rules.specs.declared.op.Op.{Op}
use Rattle.amqp_rules.specs.declared.reply.Taken.{Taken}
use Rattle.amqp_rules.specs.declared.refusal.Refusal.{Refusal}
use Rattle.amqp_shared.specs.Passes.{Tally}
use Rattle.amqp_shared.specs.Consuming.{granting, Asks, Goer, MakesSteps}
use Rattle.amqp_shared.specs.Batching.{TakesMore, GoesOn, GoesTo, Closes, TellsAll, GrantsThen, Batched, Batches, RunsBatches, FinishesBatches, begins}
use Rattle.amqp_shared.specs.declared.batches.Judged.{Judged}
use Rattle.amqp_shared.specs.declared.batches.Span.{Span}
use Rattle.amqp_shared.specs.declared.consumers.Terms.{Terms}
use Rattle.amqp_shared.specs.Renewing.{MayRest}
use Rattle.amqp_shared.proofs.Rounds.{batched-more, batches-more}

-- a span that is open has a step to come
abbrev due : Option Span → ℕ
due None = 0
due (Some s) = 1

abbrev due-after : Result (Option Span) Refusal → ℕ
due-after (Ok begun) = due begun
due-after (Err e) = 0

same-made : (old new : Tally) → new ≡ old → new.made ≡ old.made
same-made old new is = ap (λ (t : Tally). t.made) is

asks-most : (old : Tally) (o : Op) (r : Result (Unit {0}) Refusal) (new : Tally) → Asks old o r new → new.made ≤ old.made + 1
asks-most old o (Ok done) new (r, is) = let e = ap (λ (t : Tally). t.made) is in omega (arith, e)
asks-most old o (Err x) new is = let e = ap (λ (t : Tally). t.made) is in omega (arith, e)

takes-most : (link : ℕ) (ts : List Taken) (room : ℕ) (old new : Tally) → TakesMore link ts room old new → new.made ≤ old.made + length ts
takes-most link [] zero old new h = let e = same-made old new h in omega (arith, e)
takes-most link [] (suc room) old new (e, is) = let e = ap (λ (t : Tally). t.made) is in omega (arith, e)
takes-most link (t ∷ ts) room old new (r, its, rest) = let more = takes-most link ts room _ new rest in omega (arith, more)

begins-one : (told : Result (Unit {0}) Refusal) (j : Judged) → due-after (begins told j) ≤ 1
begins-one (Ok done) j = omega arith
begins-one (Err e) j = omega arith

on-most : (begun : Option Span) (j : Judged) (old : Tally) (r : Result (Option Span) Refusal) (new : Tally) → GoesOn Asks begun j old r new
    → new.made + due-after r ≤ old.made + due begun + 1
on-most None j old r new h = let made = same-made old new h.1 in let after = ap due-after h.0 in omega (arith, made, after)
on-most (Some s) j old r new (inl h) = let made = same-made old new h.2 in let after = ap due-after h.1 in omega (arith, made, after)
on-most (Some s) j old r new (inr (not_next, told, (answer, asks, is), next)) =
    let made = asks-most old _ answer new asks in
    let after = ap due-after next in
    let one = begins-one told j in
    omega (arith, made, after, one)

goes-most : (begun : Option Span) (j : Judged) (old : Tally) (r : Result (Option Span) Refusal) (new : Tally) → GoesTo Asks begun j old r new
    → new.made + due-after r ≤ old.made + due begun + 1
goes-most begun j old r new (inl h) = let made = same-made old new h.2 in let after = ap due-after h.1 in omega (arith, made, after)
goes-most begun j old r new (inr h) = on-most begun j old r new h.1

closes-most : (begun : Option Span) (old : Tally) (r : Result (Unit {0}) Refusal) (new : Tally) → Closes Asks begun old r new → new.made ≤ old.made + due begun
closes-most None old r new h = let made = same-made old new h.1 in omega (arith, made)
closes-most (Some s) old r new (answer, asks, is) = asks-most old _ answer new asks

tells-most : (js : List Judged) (begun : Option Span) (old : Tally) (r : Result (Unit {0}) Refusal) (new : Tally) → TellsAll Asks js begun old r new
    → new.made ≤ old.made + due begun + length js
tells-most [] begun old r new h = let made = closes-most begun old r new h in omega (arith, made)
tells-most (j ∷ js) begun old r new (Ok next, between, goes, rest) =
    let first = goes-most begun j old (Ok next) between goes in
    let others = tells-most js next between r new rest in
    omega (arith, first, others)
tells-most (j ∷ js) begun old r new (Err e, between, goes, rest) =
    let first = goes-most begun j old (Err e) between goes in
    let others = same-made between new rest.1 in
    omega (arith, first, others)

module _ (Due Rests : Tally → Type 0) where
  grants-most : (a : Result (Unit {0}) Refusal) (old : Tally) (o : Op) (r : Result (Unit {0}) Refusal) (new : Tally) → GrantsThen Asks Due Rests a old o r new
      → new.made ≤ old.made + 1
  grants-most (Ok done) old o r new (inl (is_due, h)) = asks-most old o r new h
  grants-most (Ok done) old o r new (inr (may, ok, same)) = let made = same-made old new same in omega (arith, made)
  grants-most (Err e) old o r new h = let made = same-made old new h.1 in omega (arith, made)

module _ {W : Type 0} (consumes : W → Taken → DeliveryState → W → Type 0) (d : Terms) (more : ℕ) where
  batched-most : (old : Goer W) (size : ℕ) (r : Result (Unit {0}) Refusal) (new : Goer W) → Batched consumes d more old size r new → new.pass.made ≤ old.pass.made + 3 * size
  batched-most old size r new h =
      let items = map (λ (j : Judged). j.item) h.batch in
      let some = h.takes.0 in
      let taken = takes-most d.link items (more + 1 - length items) old.pass h.between h.takes.2 in
      let told = tells-most h.batch None h.between h.settles.answer h.settles.between h.settles.tells in
      let granted = grants-most (λ _. ⊤) (λ _. MayRest d.renewal) h.settles.answer h.settles.between (granting d.link d.credit) r new.pass h.settles.grants in
      let sized = h.counted in
      let same = length-map h.batch (λ (j : Judged). j.item) in
      omega (arith, some, taken, told, granted, sized, same)

  batches-most : (n count : ℕ) (old new : Goer W) → Batches consumes d more n count old new → new.pass.made ≤ old.pass.made + 3 * count
  batches-most zero count old new h = let none = h.0 in let e = ap (λ (g : Goer W). g.pass.made) h.1 in omega (arith, none, e)
  batches-most (suc n) count old new (between, before, size, counted, rounds, last) =
      let r = batches-most n before old between rounds in
      let l = batched-most between size (Ok tt) new last in
      omega (arith, counted, r, l)

  runs-steps : (old : Goer W) (count : ℕ) (stopped : Refusal) (new : Goer W) → RunsBatches consumes d more old count stopped new → MakesSteps old.pass.made count new.pass.made
  runs-steps old count stopped new (inl h) =
      let least = batches-more consumes d more h.rounds count old h.between h.batches in
      let most = batches-most h.rounds count old h.between h.batches in
      let last = ap (λ (t : Tally). t.made) h.takes.0 in
      record { least = omega (arith, least, last); most = omega (arith, most, last) }
  runs-steps old count stopped new (inr h) =
      let least = batches-more consumes d more h.rounds h.before old h.between h.batches in
      let most = batches-most h.rounds h.before old h.between h.batches in
      let last_least = batched-more consumes d more h.between h.size (Err stopped) new h.last in
      let last_most = batched-most h.between h.size (Err stopped) new h.last in
      let counted = h.counted in
      record { least = omega (arith, least, last_least, counted); most = omega (arith, most, last_most, counted) }

  pub finishes-steps : (old : Goer W) (count left : ℕ) (stopped : Refusal) (new : Goer W) → FinishesBatches consumes d more old count left stopped new
      → MakesSteps old.pass.made count new.pass.made
  finishes-steps old count left stopped new h =
      let runs = runs-steps old count stopped h.between h.runs in
      let last = ap (λ (t : Tally). t.made) h.pass in
      let least = runs.least in
      let most = runs.most in
      record { least = omega (arith, least, last); most = omega (arith, most, last) }
