-- A session is sound at all times, and each entry is one step of it.
use Rattle.std.proofs.Common.{◌≡◌, ◌≤◌, ◌^◌, ◌+◌, List, [], ◌∷◌, length, arith, subst, sym, ap, ◌∙◌, add-one, refl}
use Rattle.std.proofs.lemmas.List.{reverse-append}
use Rattle.amqp_rules.specs.declared.config.Config.{Config}
use Rattle.amqp_rules.specs.declared.reply.Reply.{Reply}
use Rattle.amqp_rules.specs.View.{View, initial}
use Rattle.amqp_rules.specs.Sound.{Every, IsSound, IsUnfinished, IsWaitingApart}
use Rattle.amqp_laws.specs.declared.entry.Entry.{Entry}
use Rattle.amqp_laws.specs.declared.entry.Step.{Step}
use Rattle.amqp_laws.specs.declared.entry.Step.TheVariants.{Opened, Own, Heard}
use Rattle.amqp_laws.specs.Past.{past}
use Rattle.amqp_laws.specs.Live.{live}
use Rattle.amqp_laws.specs.Windows.{sent_transfers}
use Rattle.amqp_laws.specs.At.{at}
use Rattle.amqp_laws.specs.Lawful.{Answers, IsLawful, IsReplayed, GoesOn, next}
use Rattle.amqp_rules.proofs.Soundness.{heard-is-sound, initial-is-sound, opened-is-sound, own-is-sound}
use Rattle.amqp_rules.proofs.Apart.{heard-apart-after, initial-apart, opened-apart, own-apart}
use Rattle.amqp_rules.proofs.Unfinished.{heard-unfinished-after, own-unfinished}
use Rattle.amqp_laws.proofs.Counting.{left-none}
use Rattle.amqp_laws.proofs.Taking.{takes-few}
use Rattle.amqp_laws.proofs.ToldLink.{are-learnt}
use Rattle.amqp_laws.proofs.Whole.{step-law}

-- before the first step
pub at-first : (c : Config) → initial c ≡ at c (past [])
at-first c = rw (left-none c.window) refl

next-is-sound : (v : View) (step : Step) (reply : Reply) → Answers v step reply → IsSound v → IsSound (next v step)
next-is-sound v (Opened told) reply h s = opened-is-sound v told s
next-is-sound v (Own op) reply h s = own-is-sound v op reply h s
next-is-sound v (Heard f) reply h s = heard-is-sound v f reply h s

-- one entry more, after a past that leaves the session sound
law-after : (c : Config) (past : List Entry) (e : Entry) → IsReplayed c past → length past ≤ 2 ^ 30 → IsSound (at c past) → Answers (at c past) e.step e.reply → at c (e ∷ past) ≡ next (at c past) e.step
law-after c past e h short s a =
    let few : sent_transfers (live past) ≤ length past = s.sent in
    step-law c past e.step e.reply (record { learnt = are-learnt c past h; small = omega (arith, few, short); few = takes-few c past h }) a

pub at-is-sound : (c : Config) (past : List Entry) → IsReplayed c past → length past ≤ 2 ^ 30 → IsSound (at c past)
at-is-sound c [] h short = subst (λ (v : View). IsSound v) (at-first c) (initial-is-sound c)
at-is-sound c (e ∷ before) h short =
    let s : length before + 1 ≤ 2 ^ 30 = rw (← add-one (length before)) at short in
    let fewer : length before ≤ 2 ^ 30 = omega (arith, s) in
    let sound = at-is-sound c before h.0 fewer in
    rw (law-after c before e h.0 fewer sound h.1) (next-is-sound (at c before) e.step e.reply h.1 sound)

-- one entry more, along a replayed journal
pub law : (c : Config) (past : List Entry) (e : Entry) → IsReplayed c past → length past ≤ 2 ^ 30 → Answers (at c past) e.step e.reply → at c (e ∷ past) ≡ next (at c past) e.step
law c past e h short a = law-after c past e h short (at-is-sound c past h short) a

-- one entry more is one step of the view
pub goes_on_by_steps : (c : Config) (journal : List Entry) → c.journal_limit ≤ 2 ^ 30 → IsLawful c (past journal) → GoesOn c journal
goes_on_by_steps c journal limit h before e split =
    let last : past journal ≡ e ∷ past before = ap past split ∙ reverse-append before (e ∷ []) in
    let P : List Entry → Type 0 = λ p. IsLawful c p in
    let here = subst P last h in
    ap (at c) last ∙ law c (past before) e here.replayed.0 (let s : length (e ∷ past before) ≤ c.journal_limit = here.short in omega (arith, s, limit)) here.replayed.1

-- # What is unfinished

next-unfinished : (v : View) (step : Step) (reply : Reply) → Answers v step reply → Every IsUnfinished v.links → Every IsUnfinished (next v step).links
next-unfinished v (Opened told) reply h all = all
next-unfinished v (Own op) reply h all = own-unfinished v op reply h all
next-unfinished v (Heard f) reply h all = heard-unfinished-after v f reply h all

pub at-unfinished : (c : Config) (past : List Entry) → IsReplayed c past → length past ≤ 2 ^ 30 → Every IsUnfinished (at c past).links
at-unfinished c [] h short = tt
at-unfinished c (e ∷ before) h short =
    let s : length before + 1 ≤ 2 ^ 30 = rw (← add-one (length before)) at short in
    let fewer : length before ≤ 2 ^ 30 = omega (arith, s) in
    subst (λ (v : View). Every IsUnfinished v.links) (sym (law c before e h.0 fewer h.1)) (next-unfinished (at c before) e.step e.reply h.1 (at-unfinished c before h.0 fewer))

-- # What waits

next-apart : (v : View) (step : Step) (reply : Reply) → Answers v step reply → IsSound v → IsWaitingApart v → IsWaitingApart (next v step)
next-apart v (Opened told) reply h s a = opened-apart v told a
next-apart v (Own op) reply h s a = own-apart v op reply h s.links.numbers a
next-apart v (Heard f) reply h s a = heard-apart-after v f reply h s.links.numbers a

pub at-apart : (c : Config) (past : List Entry) → IsReplayed c past → length past ≤ 2 ^ 30 → IsWaitingApart (at c past)
at-apart c [] h short = subst (λ (v : View). IsWaitingApart v) (at-first c) (initial-apart c)
at-apart c (e ∷ before) h short =
    let s : length before + 1 ≤ 2 ^ 30 = rw (← add-one (length before)) at short in
    let fewer : length before ≤ 2 ^ 30 = omega (arith, s) in
    subst (λ (v : View). IsWaitingApart v) (sym (law c before e h.0 fewer h.1)) (next-apart (at c before) e.step e.reply h.1 (at-is-sound c before h.0 fewer) (at-apart c before h.0 fewer))
