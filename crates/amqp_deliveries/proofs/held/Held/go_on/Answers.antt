use Rattle.std.proofs.Common.{◌≡◌, ◌<◌, ◌^◌, ◌∙◌, Bool, false, Option, List, ap, sym, subst, arith}
use Rattle.amqp_performatives.specs.declared.state.DeliveryState.{DeliveryState}
use Rattle.amqp_events.specs.Event.{Continues}
use Rattle.amqp_events.specs.Told.{SentItem, next_sent_held}
use Rattle.amqp_deliveries.specs.declared.item.Side.TheVariants.{Remote}
use Rattle.amqp_deliveries.specs.Edits.{stated}
use Rattle.amqp_deliveries.specs.Span.{IsWithin, change_part}
use Rattle.amqp_deliveries.proofs.Spoken.{continue_ends, continue_states, continue_nothing}
use Rattle.amqp_deliveries.proofs.Spans.{one_place}
use Rattle.amqp_deliveries.proofs.Kept.{kept_changed}
use Rattle.amqp_deliveries.proofs.held.Held.go_on.Goals as goal

pub returns-then-over : goal.returns-then-over
returns-then-over c =
    let small : c.args.id < 2 ^ 32 = omega arith in
    let P : Bool → Type 0 = λ b. c.end_span.new.self ≡ next_sent_held (Continues c.args.id c.args.state b) c.args.self.now in
    subst P (sym c.if-over.true) (c.end_span.ensures ∙ c.span-span.ensures.span.outside ∙ sym (continue_ends c.args.id c.args.state c.args.self.now small c.span-span.ensures.held.fit))

pub set_first-requires-clause-few : goal.set_first-requires-clause-few
set_first-requires-clause-few c = one_place c.args.id c.args.self.now c.span-span.result c.span-span.ensures.held c.span-span.ensures.span

pub returns-in-Some : goal.returns-in-Some
returns-in-Some c =
    let small : c.args.id < 2 ^ 32 = omega arith in
    let P : Bool → Option DeliveryState → Type 0 = λ b o. c.set_first.new.items.items ≡ next_sent_held (Continues c.args.id o b) c.args.self.now in
    let changed = ap (change_part c.span-span.result (stated Remote false c.in-Some.state)) c.self.view_is in
    subst (λ b. P b c.args.state) (sym c.if-over.false) (subst (P false) (sym c.in-Some.is)
    (c.set_first.ensures ∙ changed ∙ c.span-span.ensures.span.changed (stated Remote false c.in-Some.state) ∙ sym (continue_states c.args.id c.in-Some.state c.args.self.now small c.span-span.ensures.held.fit)))

pub returns-in_default : goal.returns-in_default
returns-in_default c =
    let P : Bool → Option DeliveryState → Type 0 = λ b o. c.args.self.now ≡ next_sent_held (Continues c.args.id o b) c.args.self.now in
    subst (λ b. P b c.args.state) (sym c.if-over.false) (subst (P false) (sym c.in_default.is) (sym (continue_nothing c.args.id c.args.self.now)))

pub invariant_of-self : goal.invariant_of-self
invariant_of-self c =
    let P : List SentItem → Type 0 = IsWithin c.span-span.result in
    kept_changed c.self.inside.tags c.span-span.result Remote false c.in-Some.state c.self.inside.items.items c.set_first.new.items.items
    (subst P (sym c.self.view_is) c.span-span.ensures.span.places) c.set_first.ensures c.self.invariant.0 c.self.invariant.1
