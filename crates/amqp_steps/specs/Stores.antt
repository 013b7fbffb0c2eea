-- The links and the unsettled deliveries, and what a step makes of both.
use Rattle.std.specs.Prelude.{◌≡◌, false, List, map}
use Rattle.std.specs.List.{list_any}
use Rattle.amqp_performatives.specs.declared.bodies.Role.TheVariants.{Sender, Receiver}
use Rattle.amqp_events.specs.Event as event
use Rattle.amqp_events.specs.Laws.{IsPast}
use Rattle.amqp_events.specs.Told.{SentItem}
use Rattle.amqp_links.specs.declared.fate.Fate.{Fate}
use Rattle.amqp_links.specs.declared.fate.Fate.TheVariants as fate
use Rattle.amqp_links.specs.Links.{LinksView}
use Rattle.amqp_links.specs.Fate.{IsFit, links_after}
use Rattle.amqp_rules.specs.PeerDisposition.{told_more}
use Rattle.amqp_deliveries.specs.declared.change.Change.{Change}
use Rattle.amqp_deliveries.specs.declared.change.Change.TheVariants.{Stay, Begins, Continues, Says, Hears, Leaves, Over}
use Rattle.amqp_deliveries.specs.Change.{TablesView, held_items, is_tagged_as, tables_after}
use Rattle.amqp_deliveries.specs.Held.{GivesState}

pub record StoresView : Type 0 where
  pub links : LinksView
  pub tables : TablesView

-- what a disposition of the peer's tells of our deliveries is kept with their links
abbrev pub told_after : Change → List SentItem → LinksView → LinksView
told_after (Hears Sender d) sent ls = record ls { list = map (told_more (event.Hears d) sent) ls.list }
told_after (Hears Receiver d) sent ls = ls
told_after Stay sent ls = ls
told_after (Begins role i) sent ls = ls
told_after (Continues role id state over) sent ls = ls
told_after (Says role d) sent ls = ls
told_after (Leaves link) sent ls = ls
told_after Over sent ls = ls

abbrev pub stores_after : Fate → Change → StoresView → StoresView
stores_after fate change s = record { links = told_after change s.tables.sent (links_after fate s.links); tables = tables_after change s.tables }

-- a delivery that begins has an id past all that are held, and its tag is not in use on its link; a disposition speaks of no link
abbrev pub IsApt : Fate → Change → TablesView → Type 0
IsApt f (Begins role i) t = IsPast i.id (held_items role t) × (list_any (is_tagged_as i) (held_items role t) ≡ false)
IsApt f (Says role d) t = f ≡ fate.Stay
IsApt f (Hears role d) t = f ≡ fate.Stay
IsApt f Stay t = Unit {0}
IsApt f (Continues role id state over) t = Unit {0}
IsApt f (Leaves link) t = Unit {0}
IsApt f Over t = Unit {0}

-- the links and the deliveries can become what they are to be
pub record IsMet (fate : Fate) (change : Change) (s : StoresView) : Type 0 where
  pub fit : IsFit fate s.links
  pub apt : IsApt fate change s.tables

-- a disposition does where it gives a state to deliveries that stay, and one that is heard of ours where what it tells is kept too
abbrev pub MayNeed : Change → TablesView → Type 0
MayNeed (Says role d) t = GivesState d (held_items role t)
MayNeed (Hears Receiver d) t = GivesState d (held_items Receiver t)
MayNeed _ t = Unit {0}
