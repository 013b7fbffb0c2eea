-- All links of a role, as they would be put aside: those that can be rejoined, since our attach was sent and no detach (part 2, 2.6.13).
use Rattle.std.specs.Prelude.{◌&&◌, not, Bool, List, [], ◌∷◌, cond, is_some}
use Rattle.amqp_performatives.specs.declared.bodies.Role.{Role}
use Rattle.amqp_events.specs.Event.{Item}
use Rattle.amqp_rules.specs.declared.reply.Suspended.{Suspended}
use Rattle.amqp_rules.specs.Dispose.{held_as}
use Rattle.amqp_rules.specs.Suspend.{aside_of}
use Rattle.amqp_rules.specs.View.{View, LinkView, same_role}
use Rattle.amqp_links.specs.Left.{on_all}

abbrev pub can_rejoin : Role → LinkView → Bool
can_rejoin role l = same_role role l.role && is_some l.ours && not l.left

-- with what of these unsettled deliveries goes with the link
abbrev pub aside_on : Role → List Item → LinkView → List Suspended
aside_on role items l = cond (can_rejoin role l) (aside_of l items ∷ []) []

abbrev pub all_aside : View → Role → List Suspended
all_aside v role = on_all (aside_on role (held_as v role)) v.links
