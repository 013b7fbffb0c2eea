-- What a consumer does: it takes a delivery, has its work consume it, sends its state and grants its credit, and
-- repeats this until an operation is refused.
use Rattle.std.specs.Prelude.{⊤, ℕ, zero, suc, ◌≡◌, ◌≤◌, ◌+◌, ◌*◌, ◌⊎◌, not, false, Some, Result, Ok, Err, IsTrue, IsFalse}
use Rattle.amqp_performatives.specs.declared.bodies.Role.TheVariants.{Receiver}
use Rattle.amqp_performatives.specs.declared.state.DeliveryState.{DeliveryState}
use Rattle.amqp_rules.specs.declared.op.Op.{Op}
use Rattle.amqp_rules.specs.declared.op.Op.TheVariants as op
use Rattle.amqp_rules.specs.declared.reply.Given.{Given}
use Rattle.amqp_rules.specs.declared.reply.Given.TheVariants as given
use Rattle.amqp_rules.specs.declared.reply.Taken.{Taken}
use Rattle.amqp_rules.specs.declared.refusal.Refusal.{Refusal}
use Rattle.amqp_rules.specs.declared.refusal.Refusal.TheVariants as refusal
use Rattle.amqp_journal.specs.declared.receipt.Receipt.{Receipt}
use Rattle.amqp_conn.specs.Connection.{Connection}
use Rattle.amqp_shared.specs.declared.renewal.Renewal.{Renewal}
use Rattle.amqp_shared.specs.Renewing.{MayRest}
use Rattle.amqp_shared.specs.Passes.{Tally, after}
use Rattle.amqp_shared.specs.Session.{Makes, IsRefused, EndsWait}

-- # The operations for a delivery that was taken

-- the disposition that sends the state of exactly this delivery, and settles it unless the sender is to settle first
-- (part 2, 2.7.3)
abbrev pub disposing : Taken → DeliveryState → Op
disposing t s = op.Dispose Receiver t.id t.id (not t.second) (Some s)

-- the grant that sets the link's credit again
abbrev pub granting : ℕ → ℕ → Op
granting link credit = op.Grant link credit false false

-- whatever an operation does to what is seen of it
module _ {S : Type 0} (Does : S → Op → Result (Unit {0}) Refusal → S → Type 0) where
  -- its state is sent, unless the delivery came settled
  pub record Disposes (old : S) (t : Taken) (s : DeliveryState) (result : Result (Unit {0}) Refusal) (new : S) : Type 0 where
    pub told : IsFalse t.settled → Does old (disposing t s) result new
    pub settled : IsTrue t.settled → (result ≡ Ok tt) × (new ≡ old)

-- Due: credit is due; Rests: a consumer may go on without a grant
module _ {S : Type 0} (Does : S → Op → Result (Unit {0}) Refusal → S → Type 0) (Due Rests : S → Type 0) where
  -- credit is granted if it is due; else nothing is done
  abbrev pub Grants : S → Op → Result (Unit {0}) Refusal → S → Type 0
  Grants old grant result new = (Due old × Does old grant result new) ⊎ (Rests old × (result ≡ Ok tt) × (new ≡ old))

  -- after this answer to the disposition, credit is granted: also if the peer has settled the delivery meanwhile
  abbrev pub GrantsAfter : Result (Unit {0}) Refusal → S → Op → Result (Unit {0}) Refusal → S → Type 0
  GrantsAfter (Ok done) old grant result new = Grants old grant result new
  GrantsAfter (Err refusal.NothingHeld) old grant result new = Grants old grant result new
  GrantsAfter (Err e) old grant result new = (result ≡ Err e) × (new ≡ old)

  -- the delivery's state is sent, and then its credit is granted if it is due
  pub record Settles (old : S) (t : Taken) (s : DeliveryState) (credit : ℕ) (result : Result (Unit {0}) Refusal) (new : S) : Type 0 where
    pub answer : Result (Unit {0}) Refusal
    pub between : S
    pub disposes : Disposes Does old t s answer between
    pub grants : GrantsAfter answer between (granting t.link credit) result new

-- # What it does to the locked session

-- the operation was done; or it was refused for this reason, and nothing has changed
abbrev pub Tells : Connection → Op → Result (Unit {0}) Refusal → Connection → Type 0
Tells old o (Ok done) new = (gives : Given) × Makes old o gives new
Tells old o (Err e) new = IsRefused old o e × (new ≡ old)

-- # What the pass records of it

-- the pass records this operation, and that it was done or refused for this reason
abbrev pub Asks : Tally → Op → Result (Unit {0}) Refusal → Tally → Type 0
Asks old o (Ok done) new = (r : Receipt × Given) × (new ≡ after o (Ok r) old)
Asks old o (Err e) new = new ≡ after o (Err e) old

-- the pass records that this delivery was taken of this link; or why none was taken, after a wait
abbrev pub Takes : ℕ → Tally → Result Taken Refusal → Tally → Type 0
Takes link old (Ok t) new = (r : Receipt) × (new ≡ after (op.Take link) (Ok (r, given.Taken t)) old) × (t.link ≡ link)
Takes link old (Err e) new = (new ≡ after (op.Take link) (Err e) old) × EndsWait e

-- A pass that had made old steps has made new ones after count deliveries: for each of them one step that took it, and
-- at most two more, one for its state and one for a grant.
pub record MakesSteps (old count new : ℕ) : Type 0 where
  pub least : old + count ≤ new
  pub most : new ≤ old + 3 * count

-- the state of a consumer: its pass, and its work
pub record Goer (W : Type 0) : Type 0 where
  pub pass : Tally
  pub work : W

module _ {W : Type 0} (consumes : W → Taken → DeliveryState → W → Type 0) (link : ℕ) where
  -- this many deliveries that the link had left were consumed, and their states are not sent
  abbrev pub ConsumesLeft : ℕ → W → W → Type 0
  ConsumesLeft zero old new = new ≡ old
  ConsumesLeft (suc n) old new = (between : W) × ConsumesLeft n old between × (delivery : Taken) × (delivery.link ≡ link) × (state : DeliveryState) × consumes between delivery state new

module _ {W : Type 0} (consumes : W → Taken → DeliveryState → W → Type 0) (link credit : ℕ) (renewal : Renewal) where
  -- One round: the pass records that a delivery was taken of the link and settled with a state, with this answer; the
  -- work has consumed exactly that delivery, and returned that state.
  pub record Round (old : Goer W) (result : Result (Unit {0}) Refusal) (new : Goer W) : Type 0 where
    pub delivery : Taken
    pub state : DeliveryState
    pub between : Tally
    pub takes : Takes link old.pass (Ok delivery) between
    pub consumed : consumes old.work delivery state new.work
    pub settles : Settles Asks (λ _. ⊤) (λ _. MayRest renewal) between delivery state credit result new.pass

  -- this many rounds, none of them refused
  abbrev pub Rounds : ℕ → Goer W → Goer W → Type 0
  Rounds zero old new = new ≡ old
  Rounds (suc n) old new = (between : Goer W) × Rounds n old between × Round between (Ok tt) new

  -- after some rounds no delivery could be taken any more
  pub record EndsTaking (old : Goer W) (count : ℕ) (stopped : Refusal) (new : Goer W) : Type 0 where
    pub between : Goer W
    pub rounds : Rounds count old between
    pub takes : Takes link between.pass (Err stopped) new.pass
    pub rests : new.work ≡ between.work

  -- after some rounds one more was refused
  pub record EndsSettling (old : Goer W) (count : ℕ) (stopped : Refusal) (new : Goer W) : Type 0 where
    pub before : ℕ
    pub counted : count ≡ suc before
    pub between : Goer W
    pub rounds : Rounds before old between
    pub last : Round between (Err stopped) new

  -- count deliveries were consumed, until this refusal stopped it
  abbrev pub Runs : Goer W → ℕ → Refusal → Goer W → Type 0
  Runs old count stopped new = EndsTaking old count stopped new ⊎ EndsSettling old count stopped new

  -- count deliveries were taken and consumed, until this refusal stopped it, and then left deliveries that the link had
  -- left; the pass records the first ones only
  pub record Finishes (old : Goer W) (count left : ℕ) (stopped : Refusal) (new : Goer W) : Type 0 where
    pub between : Goer W
    pub runs : Runs old count stopped between
    pub pass : new.pass ≡ between.pass
    pub leaves : ConsumesLeft consumes link left between.work new.work
