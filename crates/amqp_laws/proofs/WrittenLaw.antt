-- The frames of each reply of a lawful journal have octets.
use Rattle.std.proofs.Common.{◌≤◌, ◌<◌, ◌^◌, ◌+◌, ℕ, List, [], ◌∷◌, ◌++◌, length, max, arith, subst, sym, ap, ◌∙◌, add-one}
use Rattle.amqp_rules.specs.declared.config.Config.{Config}
use Rattle.amqp_rules.specs.declared.reply.Reply.{Reply}
use Rattle.amqp_rules.specs.Limits.{IsWithinLimits}
use Rattle.amqp_rules.specs.View.{View}
use Rattle.amqp_rules.specs.Ranges.{IsInRange}
use Rattle.amqp_rules.specs.Sound.{IsSound}
use Rattle.amqp_rules.specs.Written.{AllWritten}
use Rattle.amqp_rules.proofs.InRange.{heard-in-range-after, initial-in-range, own-in-range}
use Rattle.amqp_rules.proofs.Writing.{heard-written, none-sent, own-written}
use Rattle.amqp_laws.specs.declared.entry.Entry.{Entry}
use Rattle.amqp_laws.specs.declared.entry.Step.{Step}
use Rattle.amqp_laws.specs.declared.entry.Step.TheVariants.{Opened, Own, Heard}
use Rattle.amqp_laws.specs.Past.{last_or, last_said, past, said_or}
use Rattle.amqp_laws.specs.Said.{max_in, max_told}
use Rattle.amqp_laws.specs.Live.{live}
use Rattle.amqp_laws.specs.At.{at}
use Rattle.amqp_laws.specs.Lawful.{Answers, IsReplayed, next}
use Rattle.amqp_laws.specs.Written.{AreInRange, IsStepInRange, RepliesAreWritten}
use Rattle.amqp_laws.proofs.CreditLaw.{past-split}
use Rattle.amqp_laws.proofs.Sound.{at-first, at-is-sound, law}

-- each peer takes 512 octets
takes-least : (past : List Entry) → 512 ≤ last_or 512 (last_said max_told past)
takes-least [] = omega arith
takes-least (e ∷ before) = by e.step (takes-least before)
  where
    by : (step : Step) → 512 ≤ last_or 512 (last_said max_told before) → 512 ≤ last_or 512 (said_or (max_in step) before (last_said max_told before))
    by (Opened told) earlier = omega arith
    by (Own op) earlier = earlier
    by (Heard f) earlier = earlier

next-in-range : (v : View) (step : Step) (reply : Reply) → Answers v step reply → v.steps < 2 ^ 32 → IsSound v → IsStepInRange step → IsInRange v → IsInRange (next v step)
next-in-range v (Opened told) reply h few s small r = record { window = r.window; links = r.links }
next-in-range v (Own op) reply h few s small r = own-in-range v op reply h few s small r
next-in-range v (Heard f) reply h few s small r = heard-in-range-after v f reply h small r

at-in-range : (c : Config) (past : List Entry) → IsWithinLimits c → IsReplayed c past → length past ≤ 2 ^ 30 → AreInRange past → IsInRange (at c past)
at-in-range c [] limits h short small = subst (λ (v : View). IsInRange v) (at-first c) (initial-in-range c limits)
at-in-range c (e ∷ before) limits h short small =
    let s : length before + 1 ≤ 2 ^ 30 = rw (← add-one (length before)) at short in
    let fewer : length before ≤ 2 ^ 30 = omega (arith, s) in
    let sound = at-is-sound c before h.0 fewer in
    subst (λ (v : View). IsInRange v) (sym (law c before e h.0 fewer h.1))
    (next-in-range (at c before) e.step e.reply h.1 (omega (arith, fewer)) sound small.0 (at-in-range c before limits h.0 fewer small.1))

-- at most so many octets are at most more
more-octets : (few max : ℕ) (reply : Reply) → few ≤ max → AllWritten few reply → AllWritten max reply
more-octets few max reply le all =
    record {
      each = λ k d inside. let w = all.each k d inside in record { octets = w.octets; header = w.header; short = (let short = w.short in omega (arith, short, le)) };
      one = all.one;
    }

step-written : (v : View) (step : Step) (reply : Reply) → Answers v step reply → 512 ≤ v.max_frame → IsStepInRange step → IsInRange v → AllWritten v.max_frame reply
step-written v (Opened told) reply h least small r = none-sent v.max_frame reply (ap (λ (r : Reply). r.sent) (sym h))
step-written v (Own op) reply h least small r = own-written v op reply h
step-written v (Heard f) reply h least small r = more-octets 512 v.max_frame reply least (heard-written v f reply r small h)

written-before : (c : Config) (after : List Entry) (e : Entry) (before : List Entry) → IsWithinLimits c → IsReplayed c (after ++ e ∷ before) → length (after ++ e ∷ before) ≤ 2 ^ 30 → AreInRange (after ++ e ∷ before)
    → AllWritten (at c before).max_frame e.reply
written-before c [] e before limits h short small =
    let s : length before + 1 ≤ 2 ^ 30 = rw (← add-one (length before)) at short in
    step-written (at c before) e.step e.reply h.1 (takes-least (live before)) small.0 (at-in-range c before limits h.0 (omega (arith, s)) small.1)
written-before c (later ∷ after) e before limits h short small =
    let s : length (after ++ e ∷ before) + 1 ≤ 2 ^ 30 = rw (← add-one (length (after ++ e ∷ before))) at short in
    written-before c after e before limits h.0 (omega (arith, s)) small.1

pub replies_are_written : (c : Config) (journal : List Entry) → IsWithinLimits c → IsReplayed c (past journal) → length (past journal) ≤ 2 ^ 30 → AreInRange (past journal) → RepliesAreWritten c journal
replies_are_written c journal limits h short small before after e split =
    let same = ap past split ∙ past-split before after e in
    let whole : List Entry → Type 0 = λ xs. IsReplayed c xs × (length xs ≤ 2 ^ 30) × AreInRange xs in
    let all = subst whole same (h, short, small) in
    written-before c (past after) e (past before) limits all.0 all.1 all.2
