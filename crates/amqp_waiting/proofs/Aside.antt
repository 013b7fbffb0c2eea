-- What waits, as it is put aside again.
use Rattle.std.proofs.Common.{◌≡◌, ℕ, ◌+◌, take, Some, List, [], ◌∷◌, ◌++◌, map, refl, sym, ap, ◌∙◌}
use Rattle.std.specs.Prelude.{slice_get}
use Rattle.std.proofs.lemmas.List.{map-append}
use Rattle.amqp_waiting.specs.declared.key.Key.{Key}
use Rattle.amqp_waiting.specs.declared.item.Standing.{Standing}
use Rattle.amqp_waiting.specs.declared.item.SuspendedItem.{SuspendedItem}
use Rattle.amqp_waiting.specs.Waiting.{suspended_as}
use Rattle.amqp_waiting.specs.Kept.{shown, suspended_entry}
use Rattle.amqp_waiting.proofs.Meeting.{more}

pub shown_aside : (es : List (Key × Standing)) → map suspended_entry es ≡ map suspended_as (map shown es)
shown_aside [] = refl
shown_aside (e ∷ es) = ap (λ is. suspended_entry e ∷ is) (shown_aside es)

-- one more
pub next_aside : (es : List (Key × Standing)) (n : ℕ) (e : Key × Standing) (made new : List SuspendedItem) → slice_get es n ≡ Some e → made ≡ map suspended_entry (take n es)
    → new ≡ made ++ suspended_entry e ∷ [] → new ≡ map suspended_entry (take (n + 1) es)
next_aside es n e made new h was is =
    is ∙ ap (λ l. l ++ suspended_entry e ∷ []) was ∙ sym (ap (map suspended_entry) (more es n e h) ∙ map-append suspended_entry (take n es) (e ∷ []))
