-- What one end hears is what the octets of the other's units say.
use Rattle.std.proofs.Common.{ℕ, ◌≡◌, ◌≤◌, ◌<◌, ◌^◌, max, List, [], ◌∷◌, ◌++◌, filter, length, reverse, arith, refl, sym, ap, ◌∙◌, subst}
use Rattle.std.specs.List.{concat}
use Rattle.std.proofs.lemmas.List.{reverse-append}
use Rattle.amqp_frames.specs.Framing.{AreFrames}
use Rattle.amqp_frames.specs.Written.{WrittenIsFramed}
use Rattle.amqp_frames.specs.declared.frame.Frame.{Frame}
use Rattle.amqp_rules.specs.declared.config.Config.{Config}
use Rattle.amqp_rules.specs.Limits.{IsWithinLimits}
use Rattle.amqp_rules.specs.Sound.{Every}
use Rattle.amqp_rules.specs.Written.{AllWritten}
use Rattle.amqp_laws.specs.declared.entry.Entry.{Entry}
use Rattle.amqp_laws.specs.Past.{past}
use Rattle.amqp_laws.specs.Lawful.{IsLawful}
use Rattle.amqp_laws.specs.Written.{AreInRange, RepliesAreWritten}
use Rattle.amqp_laws.specs.At.{at}
use Rattle.amqp_journal.specs.Log.{Log}
use Rattle.amqp_journal.specs.Units.{units, units_from}
use Rattle.amqp_pair_laws.specs.World.{IsFair, World, hears, sends}
use Rattle.amqp_pair_laws.proofs.Lag as lag
use Rattle.amqp_pair_laws.proofs.Opens.{replayed-by}
use Rattle.amqp_pair_laws.proofs.Plain.{due}
use Rattle.amqp_world.specs.Octets.{HearsTheOctets, OpensOnce, frames_heard, frames_sent, has_body}
use Rattle.amqp_world.proofs.Channel.{OnZero, step-zero}
use Rattle.amqp_world.proofs.Promising.{Met}
use Rattle.amqp_world.proofs.Said.{IsFrontOf, bodies-said, heard-front, heard-told, said, said-back, told}
use Rattle.amqp_world.proofs.Written.{each-written, framed, one-each}

abbrev AllFair : Config → List Entry → Type 0
AllFair = lag.AllFair sends hears IsFair

-- # A lawful journal

fair-short : (c : Config) (past : List Entry) → IsWithinLimits c → AllFair c past → length past ≤ c.journal_limit
fair-short c [] limits fair = let some : 1 ≤ c.journal_limit = limits.some in omega (arith, some)
fair-short c (e ∷ before) limits fair = let room : length before < c.journal_limit = fair.1.room in omega (arith, room)

fair-lawful : (c : Config) (past : List Entry) → IsWithinLimits c → AllFair c past → IsLawful c past
fair-lawful c past limits fair = record { short = fair-short c past limits fair; replayed = replayed-by c past fair }

-- # Channels

fair-zero : (c : Config) (past : List Entry) → AllFair c past → Every (λ e. OnZero e.reply) past
fair-zero c [] fair = tt
fair-zero c (e ∷ before) fair = (step-zero (at c before) e.step e.reply (due fair.1), fair-zero c before fair.0)

every-split : (P : Entry → Type 0) (xs ys : List Entry) → Every P (xs ++ ys) → Every P xs × Every P ys
every-split P [] ys all = (tt, all)
every-split P (x ∷ xs) ys all = let rest = every-split P xs ys all.1 in ((all.0, rest.0), rest.1)

every-back : (P : Entry → Type 0) (xs : List Entry) → Every P (reverse xs) → Every P xs
every-back P [] all = tt
every-back P (x ∷ xs) all =
    let parts = every-split P (reverse xs) (x ∷ []) (subst (λ (ys : List Entry). Every P ys) (reverse-append (x ∷ []) xs) all) in
    (parts.1.0, every-back P xs parts.0)

-- # What is heard

pub hears-octets : WrittenIsFramed → ((c : Config) (journal : List Entry) → IsWithinLimits c → IsLawful c (past journal) → AreInRange (past journal) → RepliesAreWritten c journal) → (mine theirs : Log) → Met mine theirs → HearsTheOctets mine theirs
hears-octets law written mine theirs m =
    let w = m.meets.world in
    let fair = lag.all-fair sends hears IsFair theirs.config mine.config m.meets.moves (past theirs.journal) (past mine.journal) w in
    let replies = written theirs.config theirs.journal m.meets.their_limits (fair-lawful theirs.config (past theirs.journal) m.meets.their_limits fair) m.meets.range in
    let each = each-written theirs.config m.meets.opens.0 [] theirs.journal theirs.journal refl replies m.meets.opens.1 in
    let zeros = every-back (λ e. OnZero e.reply) theirs.journal (fair-zero theirs.config (past theirs.journal) fair) in
    let front = heard-front theirs.config mine.config m.meets.moves (past theirs.journal) (past mine.journal) w in
    record {
      told = m.meets.opens.0;
      opens = m.meets.opens.1;
      framed =
          subst (λ (put : List (ℕ × List ℕ)). AreFrames (max 512 m.meets.opens.0) (concat (units_from 0 theirs.journal put)) (frames_sent theirs.journal) []) (sym m.meets.unput)
          (framed law (max 512 m.meets.opens.0) 0 theirs.journal each zeros);
      rest = front.rest;
      heard =
          bodies-said theirs.journal (one-each (max 512 m.meets.opens.0) theirs.journal each) ∙ sym (said-back sends theirs.journal) ∙ front.parts
          ∙ ap (λ (s : List Frame). s ++ front.rest) (said-back hears mine.journal ∙ sym (heard-told mine.journal));
    }
