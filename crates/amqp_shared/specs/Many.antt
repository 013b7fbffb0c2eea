-- Several operations in their order, up to the first that is refused.
use Rattle.std.specs.Prelude.{◌≡◌, ◌⊎◌, Option, Some, None, List, [], ◌∷◌, Ok, Err}
use Rattle.amqp_rules.specs.declared.op.Op.{Op}
use Rattle.amqp_rules.specs.declared.reply.Given.{Given}
use Rattle.amqp_rules.specs.declared.refusal.Refusal.{Refusal}
use Rattle.amqp_journal.specs.declared.receipt.Receipt.{Receipt}
use Rattle.amqp_shared.specs.Passes.{Tally, Answer, after}
use Rattle.amqp_shared.specs.Session.{Makes, IsReceipt, IsRefused}
use Rattle.amqp_shared.specs.Waking.{Held, IsTold, brought_by_op}

-- Does: what an operation and its answer do to a state. Each operation that was done has its answer, and the one that
-- was refused its refusal.
module _ {S : Type 0} (Does : S → Op → Answer → S → Type 0) where
  abbrev pub CallsAll : S → List Op → List (Receipt × Given) → Option Refusal → S → Type 0
  CallsAll old [] answers refused new = (answers ≡ []) × (refused ≡ None) × (new ≡ old)
  CallsAll old (o ∷ os) answers refused new =
      ((answers ≡ []) × (e : Refusal) × (refused ≡ Some e) × Does old o (Err e) new)
      ⊎ ((r : Receipt × Given) × (rest : List (Receipt × Given)) × (answers ≡ r ∷ rest) × (between : S) × Does old o (Ok r) between × CallsAll between os rest refused new)

-- the data under the lock: the operation was done, its receipt is for the last entry, and the threads that wait for what
-- it brings are woken; or it was refused, and nothing has changed
abbrev pub Tells : Held → Op → Answer → Held → Type 0
Tells old o (Ok r) new = Makes old.conn o r.1 new.conn × IsTold (brought_by_op o) old new × IsReceipt new.conn.core.log o r.1 r.0
Tells old o (Err e) new = IsRefused old.conn o e × (new ≡ old)

-- the pass records it
abbrev pub Notes : Tally → Op → Answer → Tally → Type 0
Notes old o a new = new ≡ after o a old
