-- What a link has to resume (part 2, 2.6.13): the deliveries that wait on it or, before our attach, what the peer's attach told.
use Rattle.std.specs.Prelude.{ℕ, Option, Some, None, List, [], map}
use Rattle.amqp_performatives.specs.declared.bodies.AttachBody.{AttachBody}
use Rattle.amqp_performatives.specs.declared.bodies.Role.{Role}
use Rattle.amqp_waiting.specs.declared.item.SuspendedItem.{SuspendedItem}
use Rattle.amqp_waiting.specs.declared.peer.Unsettled.{Unsettled}
use Rattle.amqp_waiting.specs.PeerUnsettled.{unsettled_of}
use Rattle.amqp_waiting.specs.Waiting.{WaitingItem, met, unclear, without}
use Rattle.amqp_rules.specs.Attach.{met_where, offer_until}
use Rattle.amqp_rules.specs.View.{LinkView, none_told}
use Rattle.amqp_links.specs.declared.resuming.Kept.{Kept}
use Rattle.amqp_links.specs.declared.resuming.Kept.TheVariants.{Waiting, Offer}

pub record ResumingView : Type 0 where
  -- in order
  pub waiting : List WaitingItem
  -- what the attach of the peer told, until ours is sent
  pub offer : Unsettled

abbrev pub waiting_as : List WaitingItem → ResumingView
waiting_as ws = record { waiting = ws; offer = none_told }

abbrev pub offered_as : Unsettled → ResumingView
offered_as u = record { waiting = []; offer = u }

abbrev pub none_resuming : ResumingView
none_resuming = waiting_as []

abbrev pub resuming_in : Option Kept → ResumingView
resuming_in None = none_resuming
resuming_in (Some (Waiting ws)) = waiting_as ws
resuming_in (Some (Offer u)) = offered_as u

abbrev pub kept_without : List ℕ → Kept → Kept
kept_without tag (Waiting ws) = Waiting (without tag ws)
kept_without tag (Offer u) = Offer u

-- what waits once both attaches are there
abbrev pub met_as : Role → Unsettled → List WaitingItem → ResumingView
met_as role u ws = waiting_as (met role u ws)

-- what our attach, which brings these items in, makes of a link; and what the peer's does
abbrev pub resuming_by_us : List SuspendedItem → LinkView → ResumingView
resuming_by_us items l = waiting_as (met_where l.theirs l.role l.offer (map unclear items))

abbrev pub resuming_by_peer : AttachBody → LinkView → ResumingView
resuming_by_peer b l = record { waiting = met_where l.ours l.role (unsettled_of b) l.waiting; offer = offer_until l.ours (unsettled_of b) }

-- the link with this to resume
abbrev pub with_resuming : ResumingView → LinkView → LinkView
with_resuming r l = record l { waiting = r.waiting; offer = r.offer }
