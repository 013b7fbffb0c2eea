use Rattle.std.proofs.Common.{refl, sym, ◌∙◌}
use Rattle.amqp_types.specs.declared.class.Run.{Run}
use Rattle.amqp_types.specs.Codes.{class_of}
use Rattle.amqp_types.proofs.Runs.{symbol_is_utf8}
use Rattle.amqp_types.proofs.Fronts.{front_text, front_no_text}
use Rattle.amqp_types.proofs.fields.read_symbol.Goals as goal

pub candidate-requires : goal.candidate-requires
unfolding class_of
candidate-requires c = (refl, refl, refl)

pub returns-then-not-is_ascii : goal.returns-then-not-is_ascii
returns-then-not-is_ascii c = λ a. front_no_text Run.Symbol c.args.bytes.now c.in_ok-octets.octets.now c.in_ok-octets.used c.in_ok-octets.ensures (sym c.is_ascii.ensures ∙ c.if-not-is_ascii.true) a.now

pub returns-in-Ok : goal.returns-in-Ok
returns-in-Ok c = rw c.in-Ok.ensures.cases.0 (front_text Run.Symbol c.args.bytes.now c.in_ok-octets.octets.now c.in_ok-octets.used c.in_ok-octets.ensures (sym c.is_ascii.ensures ∙ c.if-not-is_ascii.false))

pub returns-in-Err : goal.returns-in-Err
returns-in-Err c = absurd (c.in-Err.ensures.cases.0 (symbol_is_utf8 Run.Symbol c.in_ok-octets.octets.now refl (sym c.is_ascii.ensures ∙ c.if-not-is_ascii.false)))
