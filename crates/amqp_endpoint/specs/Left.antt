-- What a step leaves where it is accepted: of the links that it makes gone, what was ready and not taken, and told and not learnt, in order.
use Rattle.std.specs.Prelude.{Option, Some, List, [], find}
use Rattle.amqp_performatives.specs.declared.performative.Performative.{Performative}
use Rattle.amqp_performatives.specs.declared.performative.Performative.TheVariants as heard
use Rattle.amqp_rules.specs.declared.op.Op.{Op}
use Rattle.amqp_rules.specs.declared.op.Op.TheVariants.{End}
use Rattle.amqp_rules.specs.View.{View, has_peer_handle}
use Rattle.amqp_links.specs.declared.left.Left.{Left}
use Rattle.amqp_links.specs.Left.{left_on_all, left_on_found}

-- our end makes all links gone; our detach none, since its link stays until the peer's is heard (part 2, 2.6.6)
abbrev pub left_by_own : View → Op → List Left
left_by_own v (End error) = left_on_all v.links
left_by_own v _ = []

-- a detach makes its link gone, and an end all; once our end was sent there are no links
abbrev pub left_by_heard : View → Option Performative → List Left
left_by_heard v (Some (heard.Detach b)) = left_on_found (find (has_peer_handle b.handle) v.links)
left_by_heard v (Some (heard.End b)) = left_on_all v.links
left_by_heard v _ = []
