-- The indexes of the stored links by what attaches tell of them.
use Rattle.std.specs.Prelude.{ℕ, ◌≡◌, ◌≤◌, Bool, Option, List, map}
use Rattle.amqp_performatives.specs.declared.bodies.Role.{Role}
use Rattle.amqp_rules.specs.View.{LinkView, EndView, is_asked_as, is_offered_as, is_ours, is_theirs}
use Rattle.amqp_links.specs.declared.lookups.Standing.{Standing}
use Rattle.amqp_links.specs.declared.lookups.Standing.TheVariants.{Asked, Offered, Ours, Theirs}
use Rattle.amqp_links.specs.declared.names.Names.{Names}
use Rattle.amqp_links.specs.declared.handles.Handles.{Handles}
use Rattle.amqp_links.specs.Names.{AreNamed}
use Rattle.amqp_links.specs.Handles.{AreHandled}
use Rattle.amqp_links.specs.Links.{LinksView}

-- what the indexes tell of a link
pub record Indexed : Type 0 where
  pub number : ℕ
  pub name : List ℕ
  pub ours : Option EndView

abbrev pub indexed : LinkView → Indexed
indexed l = record { number = l.number; name = l.name; ours = l.ours }

-- the indexes tell the same of both
pub record IsIndexedAlike (a b : LinksView) : Type 0 where
  pub list : map indexed b.list ≡ map indexed a.list
  pub made : b.made ≡ a.made

-- the indexes are those of these links; there are no more handles than links were made
pub record AreIndexed (names : Names) (handles : Handles) (ls : LinksView) : Type 0 where
  pub named : AreNamed names ls.list
  pub handled : AreHandled handles ls.list
  pub low : handles.next ≤ ls.made

-- of this role and name, and so far
abbrev pub stands_as : Standing → Role → List ℕ → LinkView → Bool
stands_as Asked = is_asked_as
stands_as Offered = is_offered_as
stands_as Ours = is_ours
stands_as Theirs = is_theirs
