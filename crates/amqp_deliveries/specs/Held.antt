-- The unsettled deliveries of one role (OASIS AMQP 1.0, part 2, 2.6.12), as a list in serial order.
use Rattle.std.specs.Prelude.{ℕ, ◌≡◌, ◌≢◌, ◌<◌, ◌==◌, ◌^◌, not, cond, Bool, true, false, None, List, [], map, filter}
use Rattle.std.specs.List.{list_any, All, AllPairs}
use Rattle.amqp_flow.specs.Serial.{is_before}
use Rattle.amqp_events.specs.Event.{Item, Disposition}
use Rattle.amqp_events.specs.Told.{SentItem}
use Rattle.amqp_events.specs.Table.{in_range}
use Rattle.amqp_events.specs.Tags.{is_tagged}

-- without the mark whether they were told
abbrev pub items_of : List SentItem → List Item
items_of items = map (λ s. s.item) items

-- a delivery that was not told
abbrev pub untold : Item → SentItem
untold item = record { item = item; told = false }

-- its id is one of those from first to last
abbrev pub is_covered : ℕ → ℕ → SentItem → Bool
is_covered first last s = in_range first last s.item

abbrev pub is_on : ℕ → SentItem → Bool
is_on link s = s.item.link == link

-- it has this tag, on this link
abbrev pub has_tag : ℕ → List ℕ → SentItem → Bool
has_tag link tag s = is_tagged link tag s.item

-- no other of them has its tag on its link
abbrev pub HasItsTag : List SentItem → Item → List SentItem → Type 0
HasItsTag before item after =
    (list_any (has_tag item.link item.tag) before ≡ false) × (list_any (has_tag item.link item.tag) after ≡ false)

-- each comes before all that follow (RFC 1982), so they lie less than 2^31 apart, and no two of one link have the same tag
pub record IsHeld (items : List SentItem) : Type 0 where
  pub in_order : AllPairs (λ s t. is_before s.item.id t.item.id ≡ true) items
  pub apart : AllPairs (λ s t. has_tag t.item.link t.item.tag s ≡ false) items
  pub fit : All (λ s. s.item.id < 2 ^ 32) items

-- those that a range of ids covers, and the others
abbrev pub covered : ℕ → ℕ → List SentItem → List SentItem
covered first last = filter (is_covered first last)

abbrev pub uncovered : ℕ → ℕ → List SentItem → List SentItem
uncovered first last = filter (λ s. not (is_covered first last s))

-- all of them, with those that a range of ids covers changed
abbrev pub change_covered : ℕ → ℕ → (SentItem → SentItem) → List SentItem → List SentItem
change_covered first last change = map (λ s. cond (is_covered first last s) (change s) s)

-- it gives a state to some of them that stay, each of which keeps a copy
pub record GivesState (d : Disposition) (items : List Item) : Type 0 where
  pub stays : d.settled ≡ false
  pub gives : d.state ≢ None
  pub some : filter (in_range d.first d.last) items ≢ []

-- those of a link, and the others
abbrev pub linked : ℕ → List SentItem → List SentItem
linked link = filter (is_on link)

abbrev pub unlinked : ℕ → List SentItem → List SentItem
unlinked link = filter (λ s. not (is_on link s))
