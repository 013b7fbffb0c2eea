-- The unsettled deliveries, as formulas over a whole journal and as single changes.
use Rattle.std.proofs.Common.{◌≡◌, not, ◌&&◌, Option, None, Some, List, ◌∷◌, map, filter, refl}
use Rattle.std.specs.List.{list_any}
use Rattle.std.proofs.lemmas.List.{map-append}
use Rattle.std.proofs.lemmas.List.Elements.{filter-append}
use Rattle.amqp_performatives.specs.declared.state.DeliveryState.{DeliveryState}
use Rattle.amqp_events.specs.Event.{Item, Event, Begins, Continues, PassesOver, Says, Hears, Leaves, Over, Learns, Takes, Nothing}
use Rattle.amqp_events.specs.Since.{with_one, now}
use Rattle.amqp_events.specs.Unsettled.{begins, ends, begun, is_held, shown, held, said_to, says_local, says_remote, added, next_held}
use Rattle.amqp_events.proofs.Lists.{filter-step, not-or}

-- what an event says of a delivery doesn't depend on its states
pub ends-shown : (e : Event) (i : Item) (l r : Option DeliveryState) → ends e (record i { local = l; remote = r }) ≡ ends e i
ends-shown (Begins item unsettled) i l r = refl
ends-shown (Continues id state over) i l r = refl
ends-shown (PassesOver id) i l r = refl
ends-shown (Says d) i l r = refl
ends-shown (Hears d) i l r = refl
ends-shown (Leaves link) i l r = refl
ends-shown Over i l r = refl
ends-shown (Learns link) i l r = refl
ends-shown (Takes link) i l r = refl
ends-shown Nothing i l r = refl

local-shown : (e : Event) (i : Item) (l r : Option DeliveryState) → says_local (record i { local = l; remote = r }) e ≡ says_local i e
local-shown (Says d) i l r = refl
local-shown _ i l r = refl

remote-shown : (e : Event) (i : Item) (l r : Option DeliveryState) → says_remote (record i { local = l; remote = r }) e ≡ says_remote i e
remote-shown (Hears d) i l r = refl
remote-shown (Continues id state over) i l r = refl
remote-shown _ i l r = refl

pub kept-later : (e : Event) (d : Item × List Event) → is_held (with_one e d) ≡ (is_held d && not (ends e (shown d)))
kept-later e d =
    let i = shown d in
    rw (ends-shown e d.0 i.local i.remote) (not-or (ends e d.0) (list_any (λ e. ends e d.0) d.1))

pub shown-later : (e : Event) (d : Item × List Event) → shown (with_one e d) ≡ said_to e (shown d)
shown-later e d =
    let i = shown d in
    rw (local-shown e d.0 i.local i.remote, remote-shown e d.0 i.local i.remote) refl

-- what has just begun is unsettled
begun-now : (b : Option Item) → map shown (filter is_held (now b)) ≡ added b
begun-now None = refl
begun-now (Some i) = refl

pub held-step : (e : Event) (past : List Event) → held (e ∷ past) ≡ next_held e (held past)
held-step e past =
    rw (
      filter-append is_held (map (with_one e) (begun past)) (now (begins e)),
      map-append shown (filter is_held (map (with_one e) (begun past))) (filter is_held (now (begins e))),
      begun-now (begins e),
      filter-step is_held (with_one e) shown (ends e) (said_to e) (kept-later e) (shown-later e) (begun past),
    )
    refl
