use Rattle.std.proofs.Common.{◌∙◌, ap, sym}
use Rattle.amqp_waiting.specs.Kept.{with_place}
use Rattle.amqp_waiting.proofs.FirstPlaces.{next_first}
use Rattle.amqp_waiting.proofs.places.first_places.Goals as goal

pub loop-place-preserved : goal.loop-place-preserved
loop-place-preserved c =
    next_first c.args.told.now c.loop-place.place c.index-told-place.result c.loop-place.places.entries c.put_first.new.places.entries c.loop-place-test.true c.index-told-place.is c.loop-place.invariant
    (c.in_ok-put_first.ensures ∙ ap (λ t. with_place c.loop-place.places.entries t.tag c.loop-place.place) (sym c.index-told-place.is))
