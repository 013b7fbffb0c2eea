-- How the links that are not gone are stored: each in a slab, its key under its number and, once its peer's attach was heard, under the
-- peer's handle.
use Rattle.std.specs.Prelude.{ℕ, ◌≡◌, ◌<◌, ◌≤◌, ◌+◌, ◌==◌, Bool, true, false, cond, Option, None, Some, List, [], ◌∷◌, find, is_some, unwrap_or}
use Rattle.std.specs.Ordering.{nat_cmp}
use Rattle.std.specs.BTreeMap.{BTreeMap}
use Rattle.std.specs.BTreeMap as tree
use Rattle.slab.specs.Slab.{Slab}
use Rattle.slab.specs.Slab as slab
use Rattle.amqp_performatives.specs.declared.bodies.Role.TheVariants.{Sender}
use Rattle.amqp_rules.specs.View.{LinkView, new_link, has_number, has_peer_handle, change_first, remove_first}

-- the links that are not gone, in the order in which they were made, and how many were made
pub record LinksView : Type 0 where
  pub made : ℕ
  pub list : List LinkView

-- what stands under a key
abbrev pub link_at : Slab LinkView → ℕ → LinkView
link_at s key = unwrap_or (slab.get s key) (new_link 0 Sender [])

-- what stands under these keys
abbrev pub links_of : Slab LinkView → List (ℕ × ℕ) → List LinkView
links_of s [] = []
links_of s (e ∷ es) = link_at s e.1 ∷ links_of s es

-- what stands under a key that was found
abbrev pub look : Slab LinkView → Option ℕ → Option LinkView
look s None = None
look s (Some key) = slab.get s key

-- the key of the first link that the peer calls by this handle
abbrev pub key_by : ℕ → Slab LinkView → List (ℕ × ℕ) → Option ℕ
key_by h s [] = None
key_by h s (e ∷ es) = cond (has_peer_handle h (link_at s e.1)) (Some e.1) (key_by h s es)

-- each number has a key, and under that the link of that number
abbrev pub AreListed : Slab LinkView → List (ℕ × ℕ) → Type 0
AreListed s [] = Unit {0}
AreListed s (e ∷ es) = (is_some (slab.get s e.1) ≡ true) × ((link_at s e.1).number ≡ e.0) × AreListed s es

-- the numbers rise
abbrev pub AreRising : ℕ → ℕ → List (ℕ × ℕ) → Type 0
AreRising from to [] = Unit {0}
AreRising from to (e ∷ es) = (from ≤ e.0) × (e.0 < to) × AreRising (e.0 + 1) to es

-- no two links have one handle of the peer's
abbrev pub AreApart : Slab LinkView → List (ℕ × ℕ) → Type 0
AreApart s [] = Unit {0}
AreApart s (e ∷ es) = ((h : ℕ) → has_peer_handle h (link_at s e.1) ≡ true → key_by h s es ≡ None) × AreApart s es

abbrev pub holds_number : ℕ → Option LinkView → Bool
holds_number n None = false
holds_number n (Some l) = l.number == n

-- the number of the link under the key, if one is there
abbrev pub stands_at : Slab LinkView → ℕ → ℕ → Bool
stands_at s key n = holds_number n (slab.get s key)

-- each record is listed under its number
abbrev pub IsKnown : Slab LinkView → BTreeMap ℕ ℕ → Type 0
IsKnown s numbers = (key : ℕ) (l : LinkView) → slab.get s key ≡ Some l → tree.get nat_cmp numbers l.number ≡ Some key

pub record IsStored (s : Slab LinkView) (numbers peers : BTreeMap ℕ ℕ) (made : ℕ) : Type 0 where
  pub listed : AreListed s numbers.entries
  pub rising : AreRising 0 made numbers.entries
  pub known : IsKnown s numbers
  pub called : (h : ℕ) → tree.get nat_cmp peers h ≡ key_by h s numbers.entries
  pub apart : AreApart s numbers.entries

-- the first link that passes the test: told by its number, it is changed and removed alone
pub record IsFirst (test : LinkView → Bool) (links : List LinkView) (l : LinkView) : Type 0 where
  pub found : find test links ≡ Some l
  pub passes : test l ≡ true
  pub numbered : find (has_number l.number) links ≡ Some l
  pub alone : (change : LinkView → LinkView) → change_first test change links ≡ change_first (has_number l.number) change links
  pub removed : remove_first test links ≡ remove_first (has_number l.number) links

-- from this number on they rise
abbrev pub AreNumbered : ℕ → List LinkView → Type 0
AreNumbered from [] = Unit {0}
AreNumbered from (l ∷ ls) = (from ≤ l.number) × AreNumbered (l.number + 1) ls

-- they rise, from this number on and below that
abbrev pub AreWithin : ℕ → ℕ → List LinkView → Type 0
AreWithin from to [] = Unit {0}
AreWithin from to (l ∷ ls) = (from ≤ l.number) × (l.number < to) × AreWithin (l.number + 1) to ls
