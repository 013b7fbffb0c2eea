use Rattle.std.proofs.Common.{refl}
use Rattle.amqp_types.specs.Codes.{class_of}
use Rattle.amqp_types.proofs.Fronts.{front_binary}
use Rattle.amqp_types.proofs.fields.read_binary.Goals as goal

pub candidate-requires : goal.candidate-requires
unfolding class_of
candidate-requires c = (refl, refl, refl)

pub returns : goal.returns
returns c = front_binary c.args.bytes.now c.candidate.result c.candidate.ensures
