-- What pairs of a map tell, with one pair more.
use Rattle.std.proofs.Common.{◌≡◌, ℕ, ◌+◌, ◌<◌, Option, None, Some, List, [], ◌∷◌, ◌++◌, length, take, get_or, refl, sym, ap, ◌∙◌, append-nil}
use Rattle.std.specs.Prelude.{filter_map}
use Rattle.std.specs.List.{cons_option}
use Rattle.std.proofs.lemmas.List.{take_more}
use Rattle.std.proofs.lemmas.List.Elements.{filter_map-append}
use Rattle.amqp_types.specs.declared.value.Value.{Value}
use Rattle.amqp_waiting.specs.declared.peer.Told.{Told}
use Rattle.amqp_waiting.specs.Kept.{followed_by}

followed : (ts : List Told) (o : Option Told) → ts ++ cons_option o [] ≡ followed_by ts o
followed ts None = append-nil ts
followed ts (Some t) = refl

-- what one pair more tells
pub told-more : (f : Value × Value → Option Told) (ps : List (Value × Value)) (n : ℕ) (p : Value × Value) (ts new : List Told) → n < length ps → p ≡ get_or ps n p
    → ts ≡ filter_map f (take n ps) → new ≡ followed_by ts (f p) → new ≡ filter_map f (take (n + 1) ps)
told-more f ps n p ts new within is was made =
    let whole : filter_map f (take (n + 1) ps) ≡ followed_by (filter_map f (take n ps)) (f p) =
    ap (filter_map f) (take_more ps n p within ∙ ap (λ q. take n ps ++ q ∷ []) (sym is))
    ∙ filter_map-append f (take n ps) (p ∷ [])
    ∙ followed (filter_map f (take n ps)) (f p) in
    made ∙ ap (λ l. followed_by l (f p)) was ∙ sym whole
