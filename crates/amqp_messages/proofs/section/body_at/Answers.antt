use Rattle.std.proofs.Common.{◌-◌, ℕ, List, [], take, drop, sym, ap, ◌∙◌}
use Rattle.std.proofs.lemmas.List.{append-nil}
use Rattle.amqp_types.specs.declared.class.Run.TheVariants as Run
use Rattle.amqp_types.specs.Datum.{octets}
use Rattle.amqp_messages.proofs.Bodies.{payload_at, view_binary}
use Rattle.amqp_messages.proofs.section.body_at.Goals as goal

pub returns-in-Some : goal.returns-in-Some
returns-in-Some c = λ v s.
    let front = rw c.as_slice.ensures at c.in-Some.ensures in
    let p = payload_at c.args.octets.now c.args.start c.args.end c.in-Some.field-0-1 Run.Binary c.in-Some.payload.now v c.requires.order c.requires.within front.1 s in
    view_binary c.in_ok-slice.field-0 ∙ ap (octets Run.Binary) (c.in_ok-slice.ensures.ok ∙ p.1) ∙ p.0

pub returns-in-Ok : goal.returns-in-Ok
returns-in-Ok c = λ v s.
    (c.in-Ok.ensures.only v (take (c.args.end - c.args.start) (drop c.args.start c.args.octets.now)) [] s (ap (λ (os : List ℕ). take (c.args.end - c.args.start) (drop c.args.start os)) c.as_slice.ensures ∙ sym (append-nil (take (c.args.end - c.args.start) (drop c.args.start c.args.octets.now))))).0
