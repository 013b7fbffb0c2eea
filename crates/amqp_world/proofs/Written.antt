-- The octets of a journal's units are the frames that it sent, each as short as the peer's open asks.
use Rattle.std.proofs.Common.{suc, ℕ, ◌≡◌, ◌≤◌, ◌<◌, ◌+◌, ◌^◌, ◌&&◌, Bool, true, false, cond, max, None, Some, List, [], ◌∷◌, ◌++◌, length, map, arith, refl, sym, ap, ◌∙◌, subst, add-one, append_assoc}
use Rattle.std.proofs.lemmas.List.Folds.{concat-append}
use Rattle.std.specs.List.{concat, slice_index_or}
use Rattle.amqp_frames.specs.declared.frame.Frame.{Frame}
use Rattle.amqp_frames.specs.Framing.{AreFrames}
use Rattle.amqp_frames.specs.Written.{WrittenIsFramed}
use Rattle.amqp_rules.specs.declared.config.Config.{Config}
use Rattle.amqp_rules.specs.declared.reply.Reply.{Reply}
use Rattle.amqp_rules.specs.declared.reply.Sent.{Sent}
use Rattle.amqp_rules.specs.Limits.{IsWithinLimits}
use Rattle.amqp_rules.specs.Opened.{no_reply}
use Rattle.amqp_rules.specs.Sound.{Every}
use Rattle.amqp_rules.specs.Written.{AllWritten, IsWritten}
use Rattle.amqp_rules.proofs.Writing.{none-sent}
use Rattle.amqp_laws.specs.declared.entry.Entry.{Entry}
use Rattle.amqp_laws.specs.declared.entry.Step.TheVariants.{Opened}
use Rattle.amqp_laws.specs.Past.{last_or, last_said, past, some_entry}
use Rattle.amqp_laws.specs.Said.{ends, hears_no_end, max_told}
use Rattle.amqp_laws.specs.Live.{live}
use Rattle.amqp_laws.specs.At.{at}
use Rattle.amqp_laws.specs.Written.{RepliesAreWritten}
use Rattle.amqp_laws.proofs.CreditLaw.{past-split}
use Rattle.amqp_journal.specs.Units.{units_from}
use Rattle.amqp_world.specs.Octets.{OpensFirst, OpensOnce, frames_sent}
use Rattle.amqp_world.proofs.Channel.{OnZero}

by-bool : {P : Type 0} (b : Bool) → (b ≡ true → P) → (b ≡ false → P) → P
by-bool true t f = t refl
by-bool false t f = f refl

-- # The length that was told

-- after the open, and whatever came after it
told-first : (told : ℕ) (e : Entry) (before : List Entry) → OpensFirst told e before → last_or 512 (last_said max_told (live (e ∷ before))) ≡ max 512 told
told-first told e [] first = rw first refl
told-first told e (e' ∷ before) first =
    by-bool (some_entry ends (live (e' ∷ before)) && hears_no_end e.step)
    (λ (t : some_entry ends (live (e' ∷ before)) && hears_no_end e.step ≡ true). rw t (told-first told e' before first.1))
    (λ (f : some_entry ends (live (e' ∷ before)) && hears_no_end e.step ≡ false).
    let none = first.0 in
    rw (f, none) (told-first told e' before first.1))

-- an entry of a journal that opens once, with those before it
opens-there : (told : ℕ) (after : List Entry) (e : Entry) (before : List Entry) → OpensOnce told (after ++ e ∷ before) → OpensFirst told e before
opens-there told [] e before opens = opens
opens-there told (x ∷ []) e before opens = opens.1
opens-there told (x ∷ (y ∷ after)) e before opens = opens-there told (y ∷ after) e before opens.1

-- # What is written

written-there : (c : Config) (told : ℕ) (e : Entry) (before : List Entry) → OpensFirst told e before → AllWritten (at c before).max_frame e.reply → AllWritten (max 512 told) e.reply
written-there c told e [] first w = none-sent (max 512 told) e.reply (ap (λ (e : Entry). e.reply.sent) first)
written-there c told e (e' ∷ before) first w = subst (λ (m : ℕ). AllWritten m e.reply) (told-first told e' before first.1) w

pub each-written : (c : Config) (told : ℕ) (before after journal : List Entry) → journal ≡ before ++ after → RepliesAreWritten c journal → OpensOnce told (past journal) → Every (λ e. AllWritten (max 512 told) e.reply) after
each-written c told before [] journal split law opens = tt
each-written c told before (e ∷ after) journal split law opens =
    let back : past journal ≡ past after ++ e ∷ past before = ap past split ∙ past-split before after e in
    let first = opens-there told (past after) e (past before) (subst (λ (p : List Entry). OpensOnce told p) back opens) in
    (written-there c told e (past before) first (law before after e split), each-written c told (before ++ e ∷ []) after journal (split ∙ sym (append_assoc before (e ∷ []) after)) law opens)

pub one-each : (max : ℕ) (journal : List Entry) → Every (λ e. AllWritten max e.reply) journal → Every (λ e. length e.reply.sent ≤ 1) journal
one-each max [] w = tt
one-each max (e ∷ journal) w = (w.0.one, one-each max journal w.1)

-- # Units

sent-framed : WrittenIsFramed → (max : ℕ) (sent : List Sent) (more : List (List ℕ)) (frames : List Frame) → length sent ≤ 1 → ((k : ℕ) (d : Sent) → k < length sent → IsWritten max (slice_index_or sent k d)) → Every (λ s. s.frame.channel ≡ 0) sent
    → AreFrames max (concat more) frames [] → AreFrames max (concat (map (λ s. s.bytes) sent ++ more)) (map (λ s. s.frame) sent ++ frames) []
sent-framed law max [] more frames few w zero' h = h
sent-framed law max (s ∷ []) more frames few w zero' h =
    let is = w 0 s (omega arith) in
    let channel : s.frame.channel ≡ 0 = zero'.0 in
    (s.bytes, concat more, law s.frame s.bytes (omega (arith, channel)) is.octets, is.short, refl, h)
sent-framed law max (s ∷ s' ∷ sent) more frames few w zero' h = absurd (omega (arith, few))

pub framed : WrittenIsFramed → (max i : ℕ) (journal : List Entry) → Every (λ e. AllWritten max e.reply) journal → Every (λ e. OnZero e.reply) journal → AreFrames max (concat (units_from i journal [])) (frames_sent journal) []
framed law max i [] w z = refl
framed law max i (e ∷ journal) w z = sent-framed law max e.reply.sent (units_from (i + 1) journal []) (frames_sent journal) w.0.one w.0.each z.0 (framed law max (i + 1) journal w.1 z.1)
