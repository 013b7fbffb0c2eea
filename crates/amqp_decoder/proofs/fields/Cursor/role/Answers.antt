use Rattle.std.proofs.Common.{refl, ap, sym}
use Rattle.amqp_performatives.specs.declared.bodies.Role.TheVariants.{Sender, Receiver}
use Rattle.amqp_performatives.specs.Bodies.{boolean, role}
use Rattle.amqp_decoder.specs.Reading.{every}
use Rattle.amqp_decoder.proofs.FirstField.{takes_as, misses_as, role_boolean}
use Rattle.amqp_decoder.proofs.fields.Cursor.role.Goals as goal

pub returns-in-Some-true-default : goal.returns-in-Some-true-default
returns-in-Some-true-default c = takes_as boolean every role every c.args.self.depth c.args.self.left c.args.self.octets.now c.in-Some-true-default.field-0-0 Receiver c.in-Some-true-default.others.depth c.in-Some-true-default.others.left c.in-Some-true-default.others.octets.now (ap boolean (sym c.in-Some-true-default.field-0-0-test)) refl (λ r _. role_boolean r) c.in-Some-true-default.ensures

pub returns-in-Some-false-default : goal.returns-in-Some-false-default
returns-in-Some-false-default c = takes_as boolean every role every c.args.self.depth c.args.self.left c.args.self.octets.now c.in-Some-false-default.field-0-0 Sender c.in-Some-false-default.others.depth c.in-Some-false-default.others.left c.in-Some-false-default.others.octets.now (ap boolean (sym c.in-Some-false-default.field-0-0-test)) refl (λ r _. role_boolean r) c.in-Some-false-default.ensures

pub returns-in-None : goal.returns-in-None
returns-in-None c = misses_as boolean every role every c.args.self.depth c.args.self.left c.args.self.octets.now (λ r _. role_boolean r) c.in-None.ensures
