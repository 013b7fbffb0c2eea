-- A journal that was appended to: its last entry stands.
use Rattle.std.proofs.Common.{◌≡◌, ◌<◌, ◌≤◌, ◌∷◌, [], Result, Ok, Err, length, ap, arith, length-append}
use Rattle.amqp_rules.specs.declared.reply.Reply.{Reply}
use Rattle.amqp_rules.specs.declared.reply.Given.{Given}
use Rattle.amqp_laws.specs.declared.entry.Step.{Step}
use Rattle.amqp_journal.specs.Log.{Log, Appends, Extends, logging}

pub is_longer : (old new : Log) (step : Step) (reply : Reply) → old.forgotten ≤ length old.journal → new ≡ logging old step reply → new.forgotten < length new.journal
is_longer old new step reply few is =
    let same = ap (λ log. log.forgotten) is in
    let longer = ap (λ log. length log.journal) is in
    omega (arith, few, same, longer, length-append old.journal (record { step = step; reply = reply } ∷ []))

pub has_entry : {E : Type 0} → (old new : Log) (step : Step) (answer : Result Reply E) (given : Given)
    → old.forgotten ≤ length old.journal → Appends old step answer given new → new.forgotten < length new.journal
has_entry old new step (Err e) given few appends = absurd appends
has_entry old new step (Ok reply) given few appends = is_longer old new step reply few appends.0

pub has_own : {E : Type 0} → (old new : Log) (step : Step) (answer : Result Reply E) → old.forgotten ≤ length old.journal → Extends old step answer new → new.forgotten < length new.journal
has_own old new step (Err e) few extends = absurd extends
has_own old new step (Ok reply) few extends = is_longer old new step reply few extends
