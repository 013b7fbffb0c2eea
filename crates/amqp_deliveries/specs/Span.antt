-- Neighbouring places of a list of deliveries.
use Rattle.std.specs.Prelude.{ℕ, ◌≡◌, ◌<◌, ◌≤◌, ◌+◌, ◌-◌, ◌^◌, List, map, length}
use Rattle.std.specs.List.{slice_range, remove_range, replace_range, slice_index_or}
use Rattle.amqp_flow.specs.Serial.{distance}
use Rattle.amqp_events.specs.Told.{SentItem}
use Rattle.amqp_deliveries.specs.declared.span.Span.{Span}
use Rattle.amqp_deliveries.specs.Held.{covered, uncovered, change_covered}

-- its places are places of the list
pub record IsWithin (span : Span) (items : List SentItem) : Type 0 where
  pub ordered : span.start ≤ span.end
  pub within : span.end ≤ length items

-- the deliveries at its places, and the others
abbrev pub part : Span → List SentItem → List SentItem
part span items = slice_range items span.start span.end

abbrev pub without : Span → List SentItem → List SentItem
without span items = remove_range items span.start span.end

-- all of them, with those at its places changed
abbrev pub change_part : Span → (SentItem → SentItem) → List SentItem → List SentItem
change_part span change items = replace_range items span.start span.end (map change (part span items))

-- its places are those of the deliveries that a range of ids covers
pub record IsSpan (first last : ℕ) (items : List SentItem) (span : Span) : Type 0 where
  pub places : IsWithin span items
  pub inside : part span items ≡ covered first last items
  pub outside : without span items ≡ uncovered first last items
  pub changed : (change : SentItem → SentItem) → change_part span change items ≡ change_covered first last change items

-- how far the id at a place is past the id in front
abbrev pub far : ℕ → List SentItem → ℕ → SentItem → ℕ
far front items k d = distance front (slice_index_or items k d).item.id

-- from place to place the distance from the id in front rises by one at least, and it stays below 2^31
pub record IsSpread (front : ℕ) (items : List SentItem) : Type 0 where
  pub rises : (i j : ℕ) (d : SentItem) → i ≤ j → j < length items → far front items i d + (j - i) ≤ far front items j d
  pub near : (k : ℕ) (d : SentItem) → k < length items → far front items k d < 2 ^ 31

-- a search: below low all lie less than reach past the id in front, and from high on none does
pub record IsNarrowed (front : ℕ) (items : List SentItem) (reach low high : ℕ) : Type 0 where
  pub ordered : low ≤ high
  pub within : high ≤ length items
  pub before : (k : ℕ) (d : SentItem) → k < low → far front items k d < reach
  pub after : (k : ℕ) (d : SentItem) → high ≤ k → k < length items → reach ≤ far front items k d
