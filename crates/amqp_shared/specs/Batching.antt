-- What a consumer does with a batch: it takes deliveries of a link under one lock, has its work consume each, sends one
-- disposition for consecutive deliveries in the same state, and grants its credit again once.
use Rattle.std.specs.Prelude.{⊤, ℕ, zero, suc, ◌≡◌, ◌≤◌, ◌+◌, ◌-◌, ◌%◌, ◌^◌, ◌⊎◌, not, length, map, Option, Some, None, List, [], ◌∷◌, Result, Ok, Err, IsTrue, IsFalse, MatchResult}
use Rattle.amqp_performatives.specs.declared.bodies.Role.TheVariants.{Receiver}
use Rattle.amqp_performatives.specs.declared.state.DeliveryState.{DeliveryState}
use Rattle.amqp_rules.specs.declared.op.Op.{Op}
use Rattle.amqp_rules.specs.declared.op.Op.TheVariants as op
use Rattle.amqp_rules.specs.declared.reply.Given.TheVariants as given
use Rattle.amqp_rules.specs.declared.reply.Taken.{Taken}
use Rattle.amqp_rules.specs.declared.refusal.Refusal.{Refusal}
use Rattle.amqp_rules.specs.declared.refusal.Refusal.TheVariants as refusal
use Rattle.amqp_journal.specs.declared.receipt.Receipt.{Receipt}
use Rattle.amqp_shared.specs.declared.batches.Judged.{Judged}
use Rattle.amqp_shared.specs.declared.batches.Span.{Span}
use Rattle.amqp_shared.specs.declared.consumers.Terms.{Terms}
use Rattle.amqp_shared.specs.Renewing.{MayRest}
use Rattle.amqp_shared.specs.Passes.{Tally, after}
use Rattle.amqp_shared.specs.Session.{EndsWait}
use Rattle.amqp_shared.specs.Consuming.{Asks, granting, Grants, Goer, ConsumesLeft}

-- deliveries that were taken and not consumed, and those that were consumed; there is room for more + 1
pub record InHand : Type 0 where
  pub items : List Taken
  pub judged : List Judged
  pub more : ℕ

-- # Taking

-- The pass records that these were taken of the link, in order. Exactly if there was room for more, another take was
-- tried and refused.
abbrev pub TakesMore : ℕ → List Taken → ℕ → Tally → Tally → Type 0
TakesMore link [] zero old new = new ≡ old
TakesMore link [] (suc room) old new = (e : Refusal) × (new ≡ after (op.Take link) (Err e) old)
TakesMore link (t ∷ ts) room old new = (r : Receipt) × (t.link ≡ link) × TakesMore link ts room (after (op.Take link) (Ok (r, given.Taken t)) old) new

-- The pass records that these, at least one and at most more + 1, were taken of the link; or why none was taken, after
-- a wait.
abbrev pub TakesBatch : ℕ → ℕ → Tally → List Taken → Result (Unit {0}) Refusal → Tally → Type 0
TakesBatch link more old ts (Ok done) new = (1 ≤ length ts) × (length ts ≤ more + 1) × TakesMore link ts (more + 1 - length ts) old new
TakesBatch link more old ts (Err e) new = (new ≡ after (op.Take link) (Err e) old) × EndsWait e

-- # Consuming

-- the work consumed each, in order, and returned these states
abbrev pub ConsumesAll : {W : Type 0} → (W → Taken → DeliveryState → W → Type 0) → W → List Judged → W → Type 0
ConsumesAll consumes old [] new = new ≡ old
ConsumesAll {W} consumes old (j ∷ js) new = (between : W) × consumes old j.item j.state between × ConsumesAll consumes between js new

-- # Sending states

-- the disposition that sends the state of exactly these deliveries, and settles them unless the sender is to settle
-- first (part 2, 2.7.3)
abbrev pub telling : Span → Op
telling s = op.Dispose Receiver s.first s.last (not s.second) (Some s.state)

abbrev pub alone : Judged → Span
alone j = record { first = j.item.id; last = j.item.id; second = j.item.second; state = j.state }

-- the delivery's id is the next one after the last (part 2, 2.8.10), and it gets the same state
abbrev pub IsNext : Span → Judged → Type 0
IsNext s j = (j.item.id ≡ (s.last + 1) % 2 ^ 32) × (j.item.second ≡ s.second) × (j.state ≡ s.state)

abbrev pub longer : Span → Judged → Span
longer s j = record s { last = j.item.id }

-- if nothing is held any more, the peer has settled it meanwhile
abbrev pub passed : Result (Unit {0}) Refusal → Result (Unit {0}) Refusal
passed (Ok done) = Ok tt
passed (Err refusal.NothingHeld) = Ok tt
passed (Err e) = Err e

-- the span that is open after the state of one was sent and another began
abbrev pub begins : Result (Unit {0}) Refusal → Judged → Result (Option Span) Refusal
begins (Ok done) j = Ok (Some (alone j))
begins (Err e) j = Err e

-- whatever an operation does to what is seen of it
module _ {S : Type 0} (Does : S → Op → Result (Unit {0}) Refusal → S → Type 0) where
  abbrev pub TellsSpan : Span → S → Result (Unit {0}) Refusal → S → Type 0
  TellsSpan s old result new = (answer : Result (Unit {0}) Refusal) × Does old (telling s) answer new × (result ≡ passed answer)

  -- the span that is open after a delivery whose state is to be sent: a delivery that continues the open span makes it
  -- longer; any other begins a new span, and the state of the open one is sent
  abbrev pub GoesOn : Option Span → Judged → S → Result (Option Span) Refusal → S → Type 0
  GoesOn None j old result new = (result ≡ Ok (Some (alone j))) × (new ≡ old)
  GoesOn (Some s) j old result new =
      (IsNext s j × (result ≡ Ok (Some (longer s j))) × (new ≡ old))
      ⊎ ((IsNext s j → ⊥) × (told : Result (Unit {0}) Refusal) × TellsSpan s old told new × (result ≡ begins told j))

  -- no state is sent of a delivery that came settled
  abbrev pub GoesTo : Option Span → Judged → S → Result (Option Span) Refusal → S → Type 0
  GoesTo begun j old result new = (IsTrue j.item.settled × (result ≡ Ok begun) × (new ≡ old)) ⊎ (IsFalse j.item.settled × GoesOn begun j old result new)

  -- after the last delivery, the state of the open span is sent
  abbrev pub Closes : Option Span → S → Result (Unit {0}) Refusal → S → Type 0
  Closes None old result new = (result ≡ Ok tt) × (new ≡ old)
  Closes (Some s) old result new = TellsSpan s old result new

  -- all states are sent, in order, and that of the open span with them; or one was refused, and no more are sent
  abbrev pub TellsAll : List Judged → Option Span → S → Result (Unit {0}) Refusal → S → Type 0
  TellsAll [] begun old result new = Closes begun old result new
  TellsAll (j ∷ js) begun old result new =
      (answer : Result (Option Span) Refusal) × (between : S) × GoesTo begun j old answer between
      × MatchResult answer (λ next. TellsAll js next between result new) (λ e. (result ≡ Err e) × (new ≡ between))

-- # Settling

-- Due: credit is due; Rests: a consumer may go on without a grant
module _ {S : Type 0} (Does : S → Op → Result (Unit {0}) Refusal → S → Type 0) (Due Rests : S → Type 0) where
  -- if all states were sent, the credit is granted if it is due
  abbrev pub GrantsThen : Result (Unit {0}) Refusal → S → Op → Result (Unit {0}) Refusal → S → Type 0
  GrantsThen (Ok done) old grant result new = Grants Does Due Rests old grant result new
  GrantsThen (Err e) old grant result new = (result ≡ Err e) × (new ≡ old)

  pub record SettlesAll (old : S) (js : List Judged) (link credit : ℕ) (result : Result (Unit {0}) Refusal) (new : S) : Type 0 where
    pub answer : Result (Unit {0}) Refusal
    pub between : S
    pub tells : TellsAll Does js None old answer between
    pub grants : GrantsThen answer between (granting link credit) result new

-- # A consumer

module _ {W : Type 0} (consumes : W → Taken → DeliveryState → W → Type 0) (d : Terms) (more : ℕ) where
  -- One round: the pass records that count deliveries were taken of the link and settled with the states that the work
  -- returned, with this answer; the work has consumed exactly these.
  pub record Batched (old : Goer W) (count : ℕ) (result : Result (Unit {0}) Refusal) (new : Goer W) : Type 0 where
    pub batch : List Judged
    pub counted : count ≡ length batch
    pub between : Tally
    pub takes : TakesBatch d.link more old.pass (map (λ (j : Judged). j.item) batch) (Ok tt) between
    pub consumed : ConsumesAll consumes old.work batch new.work
    pub settles : SettlesAll Asks (λ _. ⊤) (λ _. MayRest d.renewal) between batch d.link d.credit result new.pass

  -- this many rounds of count deliveries in all, none of them refused
  abbrev pub Batches : ℕ → ℕ → Goer W → Goer W → Type 0
  Batches zero count old new = (count ≡ 0) × (new ≡ old)
  Batches (suc n) count old new = (between : Goer W) × (before size : ℕ) × (count ≡ before + size) × Batches n before old between × Batched between size (Ok tt) new

  -- after some rounds no delivery could be taken any more
  pub record EndsAtTaking (old : Goer W) (count : ℕ) (stopped : Refusal) (new : Goer W) : Type 0 where
    pub rounds : ℕ
    pub between : Goer W
    pub batches : Batches rounds count old between
    pub takes : TakesBatch d.link more between.pass [] (Err stopped) new.pass
    pub rests : new.work ≡ between.work

  -- after some rounds one more was refused
  pub record EndsAtSettling (old : Goer W) (count : ℕ) (stopped : Refusal) (new : Goer W) : Type 0 where
    pub rounds : ℕ
    pub before : ℕ
    pub size : ℕ
    pub counted : count ≡ before + size
    pub between : Goer W
    pub batches : Batches rounds before old between
    pub last : Batched between size (Err stopped) new

  -- count deliveries were consumed, until this refusal stopped it
  abbrev pub RunsBatches : Goer W → ℕ → Refusal → Goer W → Type 0
  RunsBatches old count stopped new = EndsAtTaking old count stopped new ⊎ EndsAtSettling old count stopped new

  -- count deliveries were taken and consumed, until this refusal stopped it, and then left deliveries that the link had
  -- left; the pass records the first ones only
  pub record FinishesBatches (old : Goer W) (count left : ℕ) (stopped : Refusal) (new : Goer W) : Type 0 where
    pub between : Goer W
    pub runs : RunsBatches old count stopped between
    pub pass : new.pass ≡ between.pass
    pub leaves : ConsumesLeft consumes d.link left between.work new.work
