-- What all links give is given under their keys.
use Rattle.std.proofs.Common.{◌≡◌, ℕ, false, true, Option, Some, None, List, [], ◌∷◌, map, refl}
use Rattle.std.specs.Prelude.{is_some}
use Rattle.std.specs.BTreeMap.{BTreeMap, values}
use Rattle.slab.specs.Slab.{Slab}
use Rattle.slab.specs.Slab as slab
use Rattle.amqp_rules.specs.View.{LinkView}
use Rattle.amqp_links.specs.Left.{on_all, under}
use Rattle.amqp_links.specs.Links.{AreListed, links_of}

listed : {X : Type 0} (f : LinkView → List X) (s : Slab LinkView) (es : List (ℕ × ℕ)) → AreListed s es → under f s (map (λ e. e.1) es) ≡ on_all f (links_of s es)
listed f s [] h = refl
listed f s (e ∷ es) h = by (listed f s es h.2) (slab.get s e.1) refl h.0
  where
    by : under f s (map (λ e. e.1) es) ≡ on_all f (links_of s es) → (o : Option LinkView) → slab.get s e.1 ≡ o → is_some (slab.get s e.1) ≡ true → under f s (map (λ e. e.1) (e ∷ es)) ≡ on_all f (links_of s (e ∷ es))
    by rest (Some l) found there = rw (found, rest) refl
    by rest None found there = (let no : false ≡ true = rw found at there in absurd cc)

pub all-listed : {X : Type 0} (f : LinkView → List X) (s : Slab LinkView) (numbers : BTreeMap ℕ ℕ) → AreListed s numbers.entries → under f s (values numbers) ≡ on_all f (links_of s numbers.entries)
all-listed f s numbers h = listed f s numbers.entries h
