-- What holds of every two ends that speak with each other, said of one that hears the other. `amqp_pair_laws` has these for journals; here they are of the
-- journals of a World.
use Rattle.std.specs.Prelude.{ℕ, ◌≡◌, ◌≤◌, ◌<◌, ◌⊎◌, ◌+◌, ◌*◌, true, false, None, Some, List, [], ◌++◌, IsOk, find, is_some, map, option_map}
use Rattle.amqp_performatives.specs.declared.bodies.Role.TheVariants.{Sender, Receiver}
use Rattle.amqp_performatives.specs.declared.bodies.TransferBody.{TransferBody}
use Rattle.amqp_performatives.specs.declared.performative.Performative.TheVariants.{Transfer}
use Rattle.amqp_frames.specs.declared.frame.Frame.{Frame}
use Rattle.amqp_rules.specs.Answer.{heard_answer}
use Rattle.amqp_rules.specs.Sound.{Every}
use Rattle.amqp_rules.specs.PeerTransfer.{receives}
use Rattle.amqp_rules.specs.View.{View, LinkView, has_name, has_peer_handle, is_attached, is_mapped, is_over, next_delivery}
use Rattle.amqp_laws.specs.declared.entry.Entry.{Entry}
use Rattle.amqp_laws.specs.Past.{past}
use Rattle.amqp_laws.specs.Live.{live}
use Rattle.amqp_laws.specs.At.{at}
use Rattle.amqp_journal.specs.Log.{Log}
use Rattle.amqp_pair_laws.specs.Moves.{IsTail, count}
use Rattle.amqp_pair_laws.specs.Premise.{ids_heard, ids_sent}
use Rattle.amqp_pair_laws.specs.World.{World, hears, sends}
use Rattle.amqp_pair_laws.specs.Passing.{content_of, passed_on, taken_on}
use Rattle.amqp_pair_laws.specs.Takes.{IsFront, Source, WasAttached}
use Rattle.amqp_pair_laws.specs.States.{said_state}
use Rattle.amqp_pair_laws.specs.Learns.{WasSaid, all_learnt}
use Rattle.amqp_pair_laws.specs.Agreeing.{AllLinksMeet, AllMeet, CountsMeet, DrainsMeet, EachAttached, HasRefreshed, HearsOn, IsGranted, SessionsMeet, WindowsMeet, on_way}
use Rattle.amqp_world.specs.Calls.{waiting}

-- the two journals are reached by moves: operations of an end, and the hearing of the other's next frame
abbrev pub AreReached : Log → Log → Type 0
AreReached mine theirs = (moves : ℕ) × World theirs.config mine.config moves (past theirs.journal) (past mine.journal)

abbrev pub view : Log → View
view l = at l.config (past l.journal)

-- the frame that waits is no violation
abbrev pub TakesNext : Log → Log → Type 0
TakesNext mine theirs = (f : Frame) → waiting mine theirs ≡ Some f → IsOk (heard_answer (view mine) f)

-- the transfer finds the incoming window open, and its link, on which this end receives; and credit, where it begins a delivery on a link that was not left
pub record FindsRoom (mine : Log) (t : TransferBody) : Type 0 where
  pub window : 0 < (view mine).windows.incoming
  pub link : option_map receives (find (has_peer_handle t.handle) (view mine).links) ≡ Some true
  pub credit : (l : LinkView) → find (has_peer_handle t.handle) (view mine).links ≡ Some l → l.left ≡ false → l.receiving ≡ None → 0 < l.credit.credit

-- so does a transfer that waits, where the session is not over
abbrev pub TransferFindsRoom : Log → Log → Type 0
TransferFindsRoom mine theirs =
    (f : Frame) (t : TransferBody) → waiting mine theirs ≡ Some f → f.body ≡ Some (Transfer t) → is_over (view mine).session ≡ false → FindsRoom mine t

-- what was taken on an attached link is the front of the deliveries that were sent complete on the link whose attach was heard
abbrev pub TakesWhatWasSent : Log → Log → Type 0
TakesWhatWasSent mine theirs =
    (name : List ℕ) (y : LinkView) → find (has_name Receiver name) (view mine).links ≡ Some y → is_attached y ≡ true
    → (x : Source theirs.config (past theirs.journal) (past mine.journal) name) × IsFront (taken_on y.number (past mine.journal)) (passed_on x.link.number (past theirs.journal))

-- so it is on a link that was attached in an earlier state, whether it is left now, or gone, or not
abbrev pub TakesEver : Log → Log → Type 0
TakesEver mine theirs =
    (early : List Entry) (name : List ℕ) (y : LinkView) → IsTail early (past mine.journal)
    → find (has_name Receiver name) (at mine.config early).links ≡ Some y → is_attached y ≡ true
    → (x : Source theirs.config (past theirs.journal) early name) × IsFront (taken_on y.number (past mine.journal)) (passed_on x.link.number (past theirs.journal))

-- and nothing was taken on a link that was never attached
abbrev pub TakesOnAttached : Log → Type 0
TakesOnAttached mine = (k : ℕ) → (taken_on k (past mine.journal) ≡ []) ⊎ WasAttached mine.config (past mine.journal) k

abbrev pub HasHeardAll : Log → Log → Type 0
HasHeardAll mine theirs = count sends (past theirs.journal) ≡ count hears (past mine.journal)

-- what an end knows of the other's session: that it was begun; and where its own is not over, that the other's is not, the ids of the first transfers, and the id
-- of the next one
pub record KnowsSession (mine theirs : Log) : Type 0 where
  pub begun : (view mine).session.begin_heard ≡ (view theirs).session.begin_sent
  pub lives : is_over (view mine).session ≡ false → is_over (view theirs).session ≡ false
  pub ids : is_over (view mine).session ≡ false → ids_heard (live (past mine.journal)) ≡ ids_sent (live (past theirs.journal))
  pub expected : (id : ℕ) → is_over (view mine).session ≡ false → (view mine).expected ≡ Some id → id ≡ next_delivery (view theirs)

-- where all was heard
abbrev pub KnowsTheOther : Log → Log → Type 0
KnowsTheOther mine theirs = HasHeardAll mine theirs → KnowsSession mine theirs

-- where all was heard and the session is not over: what was taken on a link and what waits there is what was sent complete on the other's link of that
-- name, as long as neither has left it
abbrev pub TakesAll : Log → Log → Type 0
TakesAll mine theirs =
    HasHeardAll mine theirs → is_over (view mine).session ≡ false → (name : List ℕ) (x y : LinkView)
    → find (has_name Sender name) (view theirs).links ≡ Some x → is_some x.ours ≡ true → x.left ≡ false
    → find (has_name Receiver name) (view mine).links ≡ Some y → y.left ≡ false
    → taken_on y.number (past mine.journal) ++ map content_of y.ready ≡ passed_on x.number (past theirs.journal)

-- where all was heard and the session is not over: of each unsettled delivery that was sent, the last state that was heard is the last one that was given
abbrev pub HearsWhatWasSaid : Log → Log → Type 0
HearsWhatWasSaid mine theirs =
    HasHeardAll mine theirs → is_over (view mine).session ≡ false → Every (λ s. s.item.remote ≡ said_state s.item.id (past theirs.journal)) (view mine).sent

-- the state of its own that an end has of each unsettled delivery which it received is the last one that it gave
abbrev pub HasWhatItSaid : Log → Type 0
HasWhatItSaid mine = is_over (view mine).session ≡ false → Every (λ i. i.local ≡ said_state i.id (past mine.journal)) (view mine).received

-- all that was learnt the other had said: by the first of its operations that settled that delivery or gave it an outcome
abbrev pub LearnsWhatWasSaid : Log → Log → Type 0
LearnsWhatWasSaid mine theirs = Every (WasSaid theirs.config (past theirs.journal)) (all_learnt (past mine.journal))

-- theirs sends and mine receives: they agree on windows, links, what is counted on them, drains, and unsettled deliveries
pub record Agree (theirs mine : Log) : Type 0 where
  pub windows : WindowsMeet (view theirs).windows (view mine).windows
  pub links : AllLinksMeet (view theirs) (view mine)
  pub counts : EachAttached CountsMeet (view theirs) (view mine)
  pub drains : EachAttached DrainsMeet (view theirs) (view mine)
  pub unsettled : AllMeet (view theirs).sent (view mine).received
  -- no credit was lost: theirs may begin as many deliveries as mine granted and has not seen begun or given up
  pub granted : EachAttached (IsGranted (past mine.journal)) (view theirs) (view mine)
  -- no window is shut for good
  pub reopens : HasRefreshed (past mine.journal) → (view theirs).windows.remote_incoming ≡ mine.config.window

-- their sessions are in one phase, or have begun one after the other; and where they are mapped they agree
abbrev pub IsAgreed : Log → Log → Type 0
IsAgreed mine theirs = SessionsMeet (view theirs).session (view mine).session × (is_mapped (view theirs).session ≡ true → Agree theirs mine)

-- so they are where each has heard all that the other sent
abbrev pub AgreesAtRest : Log → Log → Type 0
AgreesAtRest mine theirs = HasHeardAll mine theirs → HasHeardAll theirs mine → IsAgreed mine theirs

-- # Hearing alone

-- an end has heard so many frames more, and done nothing else
pub record HasHeardMore (k : ℕ) (old new : Log) : Type 0 where
  pub config : new.config ≡ old.config
  pub hears : HearsOn k (past new.journal) (past old.journal)

-- by hearing alone, in any order, at most twice as many frames are heard as are on their way
abbrev pub HearingEnds : Log → Log → Type 0
HearingEnds mine theirs =
    (k k' : ℕ) (mine' theirs' : Log) → AreReached mine' theirs' → HasHeardMore k mine mine' → HasHeardMore k' theirs theirs'
    → k + k' ≤ 2 * on_way (past mine.journal) (past theirs.journal)
