-- The links that an attach and a detach of the peer's find.
use Rattle.std.specs.Prelude.{◌≡◌, true}
use Rattle.amqp_performatives.specs.declared.bodies.AttachBody.{AttachBody}
use Rattle.amqp_links.specs.Fate.{with_theirs}
use Rattle.amqp_links.specs.Links.{IsFirst}
use Rattle.amqp_links.specs.Resuming.{resuming_by_peer}
use Rattle.amqp_rules.specs.View.{View, LinkView, is_asked_as, opposite, takes_frames, is_attached, has_peer_handle, handle_of}
use Rattle.amqp_rules.specs.Attach.{attached_by_peer, end_of}
use Rattle.amqp_steps.specs.declared.peer_attach.Answered.{Answered}
use Rattle.amqp_performatives.specs.declared.bodies.DetachBody.{DetachBody}
use Rattle.amqp_steps.specs.declared.peer_detach.Parting.{Parting}

-- an attach answers the first link that we asked for by its name in the opposite role, which has these marks after it
pub record IsAnswered (v : View) (b : AttachBody) (a : Answered) : Type 0 where
  pub on : LinkView
  pub link : a.link.now ≡ on
  pub first : IsFirst (is_asked_as (opposite b.role) b.name) v.links on
  pub number : a.number ≡ on.number
  pub marks : with_theirs (end_of b) a.marks (resuming_by_peer b on) on ≡ attached_by_peer b on

-- frames are taken, and this is the link that the peer leaves
pub record IsParting (v : View) (b : DetachBody) (p : Parting) : Type 0 where
  pub on : LinkView
  pub link : p.link.now ≡ on
  pub takes : takes_frames v.session ≡ true
  pub first : IsFirst (has_peer_handle b.handle) v.links on
  pub number : p.number ≡ on.number
  pub handle : p.handle ≡ handle_of on.ours
  pub attached : p.attached ≡ is_attached on
