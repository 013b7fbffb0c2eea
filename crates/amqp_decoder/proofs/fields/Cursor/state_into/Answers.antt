use Rattle.std.proofs.Common.{subst, arith}
use Rattle.amqp_performatives.specs.Bodies.{state}
use Rattle.amqp_performatives.specs.declared.state.DeliveryState.TheVariants.{Accepted, Released}
use Rattle.amqp_performatives.specs.Fair.{is_fair_state}
use Rattle.amqp_decoder.specs.Opening.{IsBareList}
use Rattle.amqp_decoder.proofs.BareLists.{accepted_takes, released_takes}
use Rattle.amqp_decoder.proofs.FirstField.{optional_absent, optional_present}
use Rattle.amqp_decoder.proofs.fields.Cursor.state_into.Goals as goal

pub returns-in-Some : goal.returns-in-Some
returns-in-Some c = optional_absent state is_fair_state c.args.self.depth c.args.self.left c.args.self.octets.now c.in-Some.others.depth c.in-Some.others.left c.in-Some.others.octets.now c.in-Some.ensures

pub returns-in-Some-eq36 : goal.returns-in-Some-eq36
returns-in-Some-eq36 c =
    let s = c.args.self in
    let a = c.after.result in
    optional_present state is_fair_state s.depth s.left s.octets.now Accepted a.depth a.left a.octets.now c.in_default.ensures
    (accepted_takes s.depth s.left s.octets.now a.depth a.left a.octets.now (omega (arith, c.requires)) s.most (subst (λ n. IsBareList n s.octets.now) c.in-Some-eq36.field-0-test c.in-Some-eq36.ensures) c.after.ensures)

pub returns-in-Some-eq38 : goal.returns-in-Some-eq38
returns-in-Some-eq38 c =
    let s = c.args.self in
    let a = c.after-in-Some-eq38.result in
    optional_present state is_fair_state s.depth s.left s.octets.now Released a.depth a.left a.octets.now c.in_default.ensures
    (released_takes s.depth s.left s.octets.now a.depth a.left a.octets.now (omega (arith, c.requires)) s.most (subst (λ n. IsBareList n s.octets.now) c.in-Some-eq38.field-0-test c.in-Some-eq38.ensures) c.after-in-Some-eq38.ensures)
