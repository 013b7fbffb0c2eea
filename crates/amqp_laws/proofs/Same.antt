-- Entries that `==` finds equal are one.
use Rattle.std.proofs.Common.{◌≡◌, ℕ, Bool, true, false, nat_eq, refl, sym, ap, ◌∙◌}
use Rattle.std.specs.Cmp.{unsigned_Decides, first_so, second_so}
use Rattle.amqp_frames.specs.contracts.frame.FramePartialEq.TheImpl.{ghosts as frames}
use Rattle.amqp_rules.specs.contracts.op.OpPartialEq.TheImpl.{ghosts as ops}
use Rattle.amqp_rules.specs.contracts.reply.ReplyPartialEq.TheImpl.{ghosts as replies}
use Rattle.amqp_rules.proofs.Same.{ops_alike, frame_same, replies_alike}
use Rattle.amqp_laws.specs.declared.entry.Step.{Step}
use Rattle.amqp_laws.specs.declared.entry.Step.TheVariants.{Opened, Own, Heard}
use Rattle.amqp_laws.specs.declared.entry.Entry.{Entry}
use Rattle.amqp_laws.specs.contracts.entry.StepPartialEq.TheImpl.{ghosts as steps}
use Rattle.amqp_laws.specs.contracts.entry.EntryPartialEq.TheImpl.{ghosts as entries}
use Rattle.amqp_laws.specs.contracts.entry.EntryEq.TheImpl.Laws as entries_whole

no : {G : Type 0} → false ≡ true → G
no h = absurd cc

step_same : (a b : Step) → steps.eq a b ≡ true → a ≡ b
step_same (Opened a) (Opened l) h = ap Opened ((unsigned_Decides a l).0 h)
step_same (Own a) (Own l) h = ap Own ((ops_alike a l).0 h)
step_same (Heard a) (Heard l) h = ap Heard (frame_same a l h)
step_same _ _ h = no h

entry_same : (a b : Entry) → entries.eq a b ≡ true → a ≡ b
entry_same a b h =
    let s = step_same a.step b.step (first_so (steps.eq a.step b.step) (replies.eq a.reply b.reply) h) in
    let r = (replies_alike a.reply b.reply).0 (second_so (steps.eq a.step b.step) (replies.eq a.reply b.reply) h) in
    λ i. record { step = s i; reply = r i }

pub entries_alike : (a b : Entry) → (entries.eq a b ≡ true → a ≡ b) × (a ≡ b → entries.eq a b ≡ true)
entries_alike a b = (entry_same a b, λ e. sym (ap (entries.eq a) e) ∙ entries_whole.laws-law.refl a)
