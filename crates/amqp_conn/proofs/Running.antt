-- What a frame of the session does to a running connection.
use Rattle.std.proofs.Common.{◌≡◌, Option, Some, None, refl}
use Rattle.amqp_performatives.specs.declared.performative.Performative.{Performative}
use Rattle.amqp_performatives.specs.declared.performative.Performative.TheVariants as performative
use Rattle.amqp_frames.specs.declared.frame.Frame.{Frame}
use Rattle.amqp_journal.specs.Log.{heard_due}
use Rattle.amqp_conn.specs.declared.saying.Kind.TheVariants.{Session}
use Rattle.amqp_conn.specs.Connection.{Core}
use Rattle.amqp_conn.specs.Kinds.{kind_of, on_channel}
use Rattle.amqp_conn.specs.Treating.{hearing, run}

pub session-runs : (k : Core) (f : Frame) (body : Option Performative) → kind_of body ≡ Session → run k f body ≡ on_channel f.channel (hearing k f (heard_due k.log f))
session-runs k f None e = absurd cc
session-runs k f (Some (performative.Open b)) e = absurd cc
session-runs k f (Some (performative.Begin b)) e = refl
session-runs k f (Some (performative.Attach b)) e = refl
session-runs k f (Some (performative.Flow b)) e = refl
session-runs k f (Some (performative.Transfer b)) e = refl
session-runs k f (Some (performative.Disposition b)) e = refl
session-runs k f (Some (performative.Detach b)) e = refl
session-runs k f (Some (performative.End b)) e = refl
session-runs k f (Some (performative.Close b)) e = absurd cc
