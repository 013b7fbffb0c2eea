-- How the entries of a map stand for what waits.
use Rattle.std.specs.Prelude.{ℕ, suc, ◌≡◌, ◌||◌, ◌++◌, [], ◌∷◌, Bool, cond, Option, Some, None, List, option_map, is_some, find, slice_get, nat_eq}
use Rattle.std.specs.List.{list_any}
use Rattle.std.specs.Map.{lookup}
use Rattle.std.specs.Ordering.{on}
use Rattle.std.specs.Cmp.Lexicographic.{pointwise}
use Rattle.amqp_performatives.specs.declared.bodies.Role.{Role}
use Rattle.amqp_performatives.specs.declared.bodies.Role.TheVariants.{Sender, Receiver}
use Rattle.amqp_waiting.specs.declared.item.Verdict.{Verdict}
use Rattle.amqp_waiting.specs.declared.item.Verdict.TheVariants.{Held}
use Rattle.amqp_waiting.specs.declared.peer.Told.{Told}
use Rattle.amqp_waiting.specs.declared.item.SuspendedItem.{SuspendedItem}
use Rattle.amqp_waiting.specs.declared.peer.Unsettled.{Unsettled}
use Rattle.amqp_waiting.specs.Waiting.{WaitingItem, same_tag, sender_verdict, met_item, suspended_as, unclear}
use Rattle.amqp_waiting.specs.declared.key.Key.{Key}
use Rattle.indexmap.specs.IndexMap.{insert_entry}
use Rattle.amqp_waiting.specs.declared.item.Standing.{Standing}

abbrev pub standing_of : List ℕ → Standing → WaitingItem
standing_of tag s = record { tag = tag; state = s.state; verdict = s.verdict; theirs = s.theirs }

abbrev pub shown : Key × Standing → WaitingItem
shown e = standing_of e.0.tag e.1

abbrev pub same_key : Key → Key → Bool
same_key = on (λ k. k.tag) (pointwise nat_eq)

-- what is known of it as an entry
abbrev pub entry_of : WaitingItem → Key × Standing
entry_of w = (record { tag = w.tag }, record { state = w.state; verdict = w.verdict; theirs = w.theirs })

-- the entries that stay when both attaches are there
abbrev pub met_entry : Role → Unsettled → Key × Standing → Option (Key × Standing)
met_entry role u e = option_map entry_of (met_item role u (shown e))

-- what waits as an entry, as it is put aside again
abbrev pub suspended_entry : Key × Standing → SuspendedItem
suspended_entry e = suspended_as (shown e)

-- what an item waits as before
abbrev pub unclear_entry : SuspendedItem → Key × Standing
unclear_entry i = entry_of (unclear i)

-- # What becomes of one

abbrev pub first_told : List ℕ → List Told → Option Told
first_told tag ts = find (λ t. same_tag tag t.tag) ts

-- at which place a tag was told first
abbrev pub first_place : List ℕ → List Told → Option ℕ
first_place tag [] = None
first_place tag (t ∷ ts) = cond (same_tag tag t.tag) (Some 0) (option_map suc (first_place tag ts))

abbrev pub told_at : List Told → Option ℕ → Option Told
told_at ts None = None
told_at ts (Some place) = slice_get ts place

abbrev pub key_of : List ℕ → Key
key_of tag = record { tag = tag }

-- the entries have the first place of each tag
abbrev pub AreFirst : List (Key × ℕ) → List Told → Type 0
AreFirst es ts = (tag : List ℕ) → lookup (same_key (key_of tag)) es ≡ first_place tag ts

-- a place for a tag that has none yet
abbrev pub with_place : List (Key × ℕ) → List ℕ → ℕ → List (Key × ℕ)
with_place es tag place = cond (is_some (lookup (same_key (key_of tag)) es)) es (insert_entry same_key es (key_of tag) place)

abbrev pub receiver_verdict : Bool → Option Told → Option Verdict
receiver_verdict incomplete told = cond (is_some told || incomplete) (Some Held) None

abbrev pub verdict_at : Role → Bool → Option Told → Option Verdict
verdict_at Sender incomplete told = Some (sender_verdict incomplete told)
verdict_at Receiver incomplete told = receiver_verdict incomplete told

abbrev pub has_tag : List ℕ → List SuspendedItem → Bool
has_tag tag is = list_any (λ j. same_tag tag j.tag) is

-- # Behind others, where it is there

abbrev pub put_where : List (Key × Standing) → Key → Option Standing → List (Key × Standing)
put_where es key None = es
put_where es key (Some s) = insert_entry same_key es key s

abbrev pub followed_by : List Told → Option Told → List Told
followed_by ts None = ts
followed_by ts (Some t) = ts ++ t ∷ []
