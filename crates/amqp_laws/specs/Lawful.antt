-- Journals in which every reply is the specification's.
use Rattle.std.specs.Prelude.{ℕ, ◌≡◌, ◌<◌, ◌≤◌, true, false, Option, None, Some, Ok, List, [], ◌∷◌, ◌++◌, length, find}
use Rattle.amqp_performatives.specs.declared.bodies.TransferBody.{TransferBody}
use Rattle.amqp_rules.specs.declared.reply.Reply.{Reply}
use Rattle.amqp_rules.specs.declared.config.Config.{Config}
use Rattle.amqp_rules.specs.declared.op.Op.TheVariants.{Start, Resume}
use Rattle.amqp_rules.specs.View.{View, LinkView, has_number, has_peer_handle}
use Rattle.amqp_rules.specs.Opened.{no_reply, next_opened}
use Rattle.amqp_rules.specs.Resume.{resume_begins}
use Rattle.amqp_rules.specs.Answer.{own_answer, heard_answer, next_own, next_heard}
use Rattle.amqp_laws.specs.declared.entry.Entry.{Entry}
use Rattle.amqp_laws.specs.declared.entry.Step.{Step}
use Rattle.amqp_laws.specs.declared.entry.Step.TheVariants.{Opened, Own, Heard}
use Rattle.amqp_laws.specs.Past.{past}
use Rattle.amqp_laws.specs.Said.{transfer_heard}
use Rattle.amqp_laws.specs.At.{at}

abbrev pub Answers : View → Step → Reply → Type 0
Answers v (Opened told) reply = no_reply ≡ reply
Answers v (Own op) reply = own_answer v op ≡ Ok reply
Answers v (Heard frame) reply = heard_answer v frame ≡ Ok reply

abbrev pub next : View → Step → View
next v (Opened told) = next_opened v told
next v (Own op) = next_own v op
next v (Heard frame) = next_heard v frame

-- each entry has the reply that is due after the entries before it
abbrev pub IsReplayed : Config → List Entry → Type 0
IsReplayed c [] = Unit {0}
IsReplayed c (e ∷ before) = IsReplayed c before × Answers (at c before) e.step e.reply

pub record IsLawful (c : Config) (past : List Entry) : Type 0 where
  pub short : length past ≤ c.journal_limit
  pub replayed : IsReplayed c past

-- the link's credit, 0 where there is none
abbrev pub credit_of : Option LinkView → ℕ
credit_of None = 0
credit_of (Some l) = l.credit.credit

-- a start on link k is preceded by credit, and a resume that sends something
abbrev pub StartsWithCredit : View → Step → Type 0
StartsWithCredit v (Own (Start link tag format settled payload more)) = 0 < credit_of (find (has_number link) v.links)
StartsWithCredit v (Own (Resume link tag settled)) = resume_begins tag (find (has_number link) v.links) ≡ true → 0 < credit_of (find (has_number link) v.links)
StartsWithCredit v _ = Unit {0}

-- a transfer that is heard on a link that we have not left, and that begins a delivery, is preceded by credit
abbrev pub HearsWithCredit : View → Option TransferBody → Type 0
HearsWithCredit v None = Unit {0}
HearsWithCredit v (Some b) = (l : LinkView) → find (has_peer_handle b.handle) v.links ≡ Some l → l.left ≡ false → l.receiving ≡ None → 0 < l.credit.credit

-- no delivery begins without credit, at either end
abbrev pub NeverWithoutCredit : Config → List Entry → Type 0
NeverWithoutCredit c journal =
    (before after : List Entry) (e : Entry) → journal ≡ before ++ e ∷ after
    → StartsWithCredit (at c (past before)) e.step × HearsWithCredit (at c (past before)) (transfer_heard e)

-- one entry more changes the view as the entry's step does
abbrev pub GoesOn : Config → List Entry → Type 0
GoesOn c journal = (before : List Entry) (e : Entry) → journal ≡ before ++ e ∷ [] → at c (past journal) ≡ next (at c (past before)) e.step
