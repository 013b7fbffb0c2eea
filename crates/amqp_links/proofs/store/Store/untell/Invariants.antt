use Rattle.std.proofs.Common.{◌≡◌, List, map}
use Rattle.amqp_events.specs.Told.{Telling}
use Rattle.amqp_links.specs.Fate.{links_told}
use Rattle.amqp_links.specs.Index.{IsIndexedAlike}
use Rattle.amqp_links.specs.Links.{LinksView}
use Rattle.amqp_links.proofs.Tellings.{IsLeft}
use Rattle.amqp_links.proofs.store.Store.untell.Given as goal

abbrev pub invariant-loop-number : goal.invariant-loop-number
invariant-loop-number l =
    IsIndexedAlike l.initial.self l.self
    × ((ts : List Telling) (ls : LinksView) → l.initial.links.items ≡ map (λ t. t.link) ts → l.initial.self ≡ links_told ts ls → IsLeft ls l.self l.links.items)

abbrev pub decreases-loop-number : goal.decreases-loop-number
decreases-loop-number l = goal.left-loop-number l
