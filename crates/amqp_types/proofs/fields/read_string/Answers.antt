use Rattle.std.proofs.Common.{refl, sym}
use Rattle.std.proofs.lemmas.Str.{is_utf8-from_IsUtf8}
use Rattle.amqp_types.specs.declared.class.Run.{Run}
use Rattle.amqp_types.specs.Codes.{class_of}
use Rattle.amqp_types.proofs.Runs.{not_utf8}
use Rattle.amqp_types.proofs.Fronts.{front_text, front_no_text}
use Rattle.amqp_types.proofs.fields.read_string.Goals as goal

pub candidate-requires : goal.candidate-requires
unfolding class_of
candidate-requires c = (refl, refl, refl)

pub returns-in-Ok : goal.returns-in-Ok
returns-in-Ok c = rw c.in-Ok.ensures.cases.0 (front_text Run.Str c.args.bytes.now c.in_ok-octets.octets.now c.in_ok-octets.used c.in_ok-octets.ensures (is_utf8-from_IsUtf8 c.in_ok-octets.octets.now c.in-Ok.ensures.cases.1))

pub returns-in-Err : goal.returns-in-Err
returns-in-Err c = λ a. front_no_text Run.Str c.args.bytes.now c.in_ok-octets.octets.now c.in_ok-octets.used c.in_ok-octets.ensures (sym (not_utf8 c.in_ok-octets.octets.now c.in-Err.ensures.cases.0)) a.now
