-- The links of each name.
use Rattle.std.specs.Prelude.{ℕ, ◌≡◌, Bool, cond, List, [], ◌∷◌, nat_eq}
use Rattle.std.specs.Option.{option_map_or}
use Rattle.std.specs.Cmp.Lexicographic.{pointwise}
use Rattle.std.specs.BTreeMap.{get_by_text}
use Rattle.amqp_rules.specs.View.{LinkView}
use Rattle.amqp_links.specs.declared.names.Names.{Names}

-- of this name, in either role
abbrev pub is_named : List ℕ → LinkView → Bool
is_named name l = pointwise nat_eq name l.name

-- the numbers of the links of this name, in the order in which they were made
abbrev pub numbers_named : List ℕ → List LinkView → List ℕ
numbers_named name [] = []
numbers_named name (l ∷ ls) = cond (is_named name l) (l.number ∷ numbers_named name ls) (numbers_named name ls)

-- what stands under a name
abbrev pub numbers_under : Names → List ℕ → List ℕ
numbers_under names name = option_map_or (λ ns. ns.items) (get_by_text names.numbers name) []

-- under each name stand the numbers of its links
abbrev pub AreNamed : Names → List LinkView → Type 0
AreNamed names links = (name : List ℕ) → numbers_under names name ≡ numbers_named name links
