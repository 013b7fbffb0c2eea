use Rattle.std.proofs.Common.{◌∙◌, ap}
use Rattle.amqp_waiting.specs.Kept.{told_at}
use Rattle.amqp_waiting.proofs.FirstPlaces.{found_first}
use Rattle.amqp_waiting.proofs.places.find_first.Goals as goal

pub returns-in-Some : goal.returns-in-Some
returns-in-Some c = c.told_at.ensures ∙ ap (told_at c.args.told.now) (c.in-Some.ensures.value ∙ c.requires c.args.tag.now) ∙ found_first c.args.tag.now c.args.told.now

pub returns-in-None : goal.returns-in-None
returns-in-None c = ap (told_at c.args.told.now) (c.in-None.ensures.value ∙ c.requires c.args.tag.now) ∙ found_first c.args.tag.now c.args.told.now
