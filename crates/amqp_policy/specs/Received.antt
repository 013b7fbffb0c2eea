-- Which messages of a receiver are in doubt (part 2, 2.6.12 and 2.6.13).
use Rattle.std.specs.Prelude.{ℕ, ◌+◌, ◌-◌, ◌==◌, ◌||◌, ◌++◌, not, Bool, cond, min, length, take, nat_eq, Option, Some, None, List, [], ◌∷◌, filter}
use Rattle.std.specs.List.{list_any}
use Rattle.std.specs.Cmp.Lexicographic.{pointwise}
use Rattle.amqp_policy.specs.declared.received.Mark.{Mark}
use Rattle.amqp_policy.specs.Outcome.{one_more}

pub record Received : Type 0 where
  -- how many messages were taken, and how many octets they had
  pub count : ℕ
  pub octets : ℕ
  -- the tags of those in doubt that came over earlier connections
  pub brought : List (List ℕ)
  -- the tags of those in doubt whose outcome was sent over this connection
  pub told : List (List ℕ)
  pub mark : Option Mark

abbrev pub none : Received
none = record { count = 0; octets = 0; brought = []; told = []; mark = None }

abbrev pub same_tag : List ℕ → List ℕ → Bool
same_tag a b = pointwise nat_eq a b

abbrev pub has_tag : List ℕ → List (List ℕ) → Bool
has_tag tag tags = list_any (λ t. same_tag t tag) tags

abbrev pub without : List ℕ → List (List ℕ) → List (List ℕ)
without tag tags = filter (λ t. not (same_tag t tag)) tags

-- a message with this tag is in doubt
abbrev pub is_known : List ℕ → Received → Bool
is_known tag r = has_tag tag r.brought || has_tag tag r.told

-- # The mark

-- how many of the first tags are not this one
abbrev pub remaining : List ℕ → ℕ → List (List ℕ) → ℕ
remaining tag count tags = length (without tag (take count tags))

-- a mark stands behind so many fewer where one of those goes
abbrev pub mark_without : List ℕ → List (List ℕ) → Option Mark → Option Mark
mark_without tag told None = None
mark_without tag told (Some m) = Some (record m { count = remaining tag m.count told })

abbrev pub mark_after_first : Option Mark → Option Mark
mark_after_first None = None
mark_after_first (Some m) = Some (record m { count = m.count - 1 })

-- a message came: the credit before the mark is used up, or one of it is
abbrev pub confirmed_by : Option Mark → Option ℕ
confirmed_by None = None
confirmed_by (Some m) = cond (m.left == 0) (Some m.count) None

abbrev pub mark_after_message : Option Mark → Option Mark
mark_after_message None = None
mark_after_message (Some m) = cond (m.left == 0) None (Some (record m { left = m.left - 1 }))

abbrev pub new_mark : ℕ → ℕ → Option Mark → Option Mark
new_mark count left None = Some (record { count = count; left = min (left + 1) 4294967295 })
new_mark count left (Some m) = Some m

abbrev pub confirmed_of : Received → Option ℕ
confirmed_of r = confirmed_by r.mark

abbrev pub after_confirm : Received → Received
after_confirm r = record r { mark = mark_after_message r.mark }

abbrev pub after_mark : ℕ → Received → Received
after_mark left r = record r { mark = new_mark (length r.told) left r.mark }

-- # What the calls do

abbrev pub with_settled : List ℕ → Received → Received
with_settled tag r = record r { brought = without tag r.brought; told = without tag r.told; mark = mark_without tag r.told r.mark }

abbrev pub after_settle : List ℕ → Received → Received
after_settle tag r = cond (is_known tag r) (with_settled tag r) r

-- behind the others
abbrev pub with_told : List ℕ → Received → Received
with_told tag r = record r { told = r.told ++ tag ∷ [] }

abbrev pub with_brought : List ℕ → Received → Received
with_brought tag r = record r { brought = r.brought ++ tag ∷ [] }

-- a delivery that had the tag before is settled
abbrev pub after_tell : List ℕ → Received → Received
after_tell tag r = with_told tag (after_settle tag r)

abbrev pub after_keep : List ℕ → Received → Received
after_keep tag r = with_brought tag (after_settle tag r)

abbrev pub with_count : ℕ → Received → Received
with_count octets r = record r { count = one_more r.count; octets = min (r.octets + octets) 18446744073709551615 }

abbrev pub after_take : List ℕ → ℕ → Received → Received
after_take tag octets r = with_count octets (after_tell tag r)

abbrev pub after_bring : Received → Received
after_bring r = record r { brought = r.brought ++ r.told; told = []; mark = None }

-- the first one goes
abbrev pub behind_first : List (List ℕ) → List (List ℕ)
behind_first [] = []
behind_first (tag ∷ tags) = tags

abbrev pub after_pop_brought : Received → Received
after_pop_brought r = record r { brought = behind_first r.brought }

abbrev pub mark_behind : List (List ℕ) → Option Mark → Option Mark
mark_behind [] mark = mark
mark_behind (tag ∷ tags) mark = mark_after_first mark

abbrev pub after_pop_told : Received → Received
after_pop_told r = record r { told = behind_first r.told; mark = mark_behind r.told r.mark }
