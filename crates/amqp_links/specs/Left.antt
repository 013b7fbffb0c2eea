-- What a link leaves that goes: its deliveries that were ready and not taken, and what was told of its deliveries and not learnt, in order.
use Rattle.std.specs.Prelude.{ℕ, Option, None, Some, List, [], ◌∷◌, ◌++◌, map}
use Rattle.slab.specs.Slab.{Slab}
use Rattle.slab.specs.Slab as slab
use Rattle.amqp_events.specs.Joined.{Delivery}
use Rattle.amqp_events.specs.Told.{Telling}
use Rattle.amqp_rules.specs.View.{LinkView}
use Rattle.amqp_rules.specs.Take.{taken_of}
use Rattle.amqp_rules.specs.Learn.{learned_of}
use Rattle.amqp_links.specs.declared.left.Left.{Left}
use Rattle.amqp_links.specs.declared.left.Left.TheVariants as left

-- what a take would have given, and what a learn would have, with the name of the link
abbrev pub untaken : ℕ → List ℕ → Delivery → Left
untaken link name d = left.Delivery name (taken_of link d)

abbrev pub unlearnt : List ℕ → Telling → Left
unlearnt name t = left.Outcome name (learned_of t)

abbrev pub left_on : LinkView → List Left
left_on l = map (untaken l.number l.name) l.ready ++ map (unlearnt l.name) l.told

-- what each link gives, one after the other
abbrev pub on_found : {X : Type 0} → (LinkView → List X) → Option LinkView → List X
on_found f None = []
on_found f (Some l) = f l

abbrev pub on_all : {X : Type 0} → (LinkView → List X) → List LinkView → List X
on_all f [] = []
on_all f (l ∷ ls) = f l ++ on_all f ls

-- of those that stand under these keys
abbrev pub under : {X : Type 0} → (LinkView → List X) → Slab LinkView → List ℕ → List X
under f s [] = []
under f s (key ∷ keys) = on_found f (slab.get s key) ++ under f s keys

abbrev pub left_on_found : Option LinkView → List Left
left_on_found o = on_found left_on o

abbrev pub left_on_all : List LinkView → List Left
left_on_all ls = on_all left_on ls

abbrev pub left_under : Slab LinkView → List ℕ → List Left
left_under s keys = under left_on s keys
