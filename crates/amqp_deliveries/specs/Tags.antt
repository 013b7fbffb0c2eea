-- Which tags are in use on which link.
use Rattle.std.specs.Prelude.{ℕ, ◌≡◌, nat_eq, Bool, List, length, if◌then◌else◌}
use Rattle.std.specs.List.{list_any}
use Rattle.std.specs.HashSet.{contains}
use Rattle.std.specs.Ordering.{on, eq_of_both}
use Rattle.std.specs.Cmp.Lexicographic.{pointwise}
use Rattle.amqp_deliveries.specs.declared.tags.Brief.{Brief}
use Rattle.amqp_deliveries.specs.declared.tags.Key.{Key}
use Rattle.amqp_deliveries.specs.declared.tags.TagIndex.{TagIndex}
use Rattle.amqp_deliveries.specs.Brief.{is_brief, padded}
use Rattle.amqp_deliveries.specs.Held.{has_tag}
use Rattle.amqp_events.specs.Told.{SentItem}

-- the same tag on the same link
abbrev pub same_key : Key → Key → Bool
same_key = eq_of_both (on (λ k. k.link) nat_eq) (on (λ k. k.tag) (pointwise nat_eq))

abbrev pub same_brief : Brief → Brief → Bool
same_brief = eq_of_both (on (λ k. k.link) nat_eq) (eq_of_both (on (λ k. k.used) nat_eq) (on (λ k. k.octets) (pointwise nat_eq)))

abbrev pub brief : ℕ → List ℕ → Brief
brief link tag = record { link = link; used = length tag; octets = padded tag }

abbrev pub has_brief : TagIndex → ℕ → List ℕ → Bool
has_brief index link tag = contains same_brief index.brief (brief link tag)

abbrev pub has_other : TagIndex → ℕ → List ℕ → Bool
has_other index link tag = contains same_key index.keys (record { link = link; tag = tag })

abbrev pub has_key : TagIndex → ℕ → List ℕ → Bool
has_key index link tag = if is_brief tag then has_brief index link tag else has_other index link tag

-- it has exactly the tags of these deliveries
abbrev pub IsIndex : TagIndex → List SentItem → Type 0
IsIndex index items = (link : ℕ) (tag : List ℕ) → has_key index link tag ≡ list_any (has_tag link tag) items
