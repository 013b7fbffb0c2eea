use Rattle.amqp_halves.specs.Halves.{whole}
use Rattle.amqp_halves.proofs.Texts.{no_field, some_field}
use Rattle.amqp_halves.proofs.halves.field.Goals as goal

pub returns-in-None : goal.returns-in-None
returns-in-None c = no_field c.args.width (whole c.args.octets) _ c.octets-count.ensures.value c.in-None.ensures

pub returns-in-Some : goal.returns-in-Some
returns-in-Some c = some_field c.args.width (whole c.args.octets) (whole c.in-Some.text) (whole c.in-Some.rest) _ _ _ c.octets-count.ensures.value c.in-Some.ensures c.octets-count.ensures.bound c.padded-padded.ensures c.from_be_bytes.ensures
