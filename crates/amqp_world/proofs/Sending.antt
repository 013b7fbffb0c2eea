-- The frame with a body among those that a reply sends.
use Rattle.std.proofs.Common.{suc, ℕ, ◌≡◌, ◌≤◌, ◌<◌, ◌+◌, None, Some, List, ◌∷◌, length, drop, refl, ap, ◌∙◌, true, false, is_some, add-one}
use Rattle.std.specs.List.{slice_get}
use Rattle.std.proofs.lemmas.Option.{slice_get_within, get_or_from_slice_get}
use Rattle.std.proofs.lemmas.List.{drop_all}
use Rattle.std.proofs.Math.Seq.{drop-cons}
use Rattle.amqp_rules.specs.declared.reply.Sent.{Sent}
use Rattle.amqp_pair_laws.specs.World.{frame_among}

drop-there : (sent : List Sent) (i : ℕ) (s : Sent) → slice_get sent i ≡ Some s → drop i sent ≡ s ∷ drop (i + 1) sent
drop-there sent i s h =
    let inside : i < length sent = slice_get_within sent i s h in
    rw (add-one i) (drop-cons sent i s inside ∙ ap (λ x. x ∷ drop (suc i) sent) (get_or_from_slice_get sent i s s h))

pub frame-there : (sent : List Sent) (i : ℕ) (s : Sent) → slice_get sent i ≡ Some s → is_some s.frame.body ≡ true → frame_among (drop i sent) ≡ Some s.frame
frame-there sent i s h some = ap frame_among (drop-there sent i s h) ∙ rw some refl

pub frame-past : (sent : List Sent) (i : ℕ) (s : Sent) → slice_get sent i ≡ Some s → is_some s.frame.body ≡ false → frame_among (drop i sent) ≡ frame_among (drop (i + 1) sent)
frame-past sent i s h none = ap frame_among (drop-there sent i s h) ∙ rw none refl

pub frame-none : (sent : List Sent) (i : ℕ) → length sent ≤ i → frame_among (drop i sent) ≡ None
frame-none sent i past = ap frame_among (drop_all i sent past)
