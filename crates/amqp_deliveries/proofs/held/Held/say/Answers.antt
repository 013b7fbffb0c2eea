use Rattle.std.proofs.Common.{◌≡◌, ◌∙◌, sym, subst}
use Rattle.std.proofs.lemmas.Result.{on_ok_weaker, on_err_weaker}
use Rattle.amqp_events.specs.Event.{Disposition, Says}
use Rattle.amqp_events.specs.Told.{next_sent_held}
use Rattle.amqp_deliveries.specs.Held.{items_of, GivesState}
use Rattle.amqp_deliveries.proofs.Items.{gives_state}
use Rattle.amqp_deliveries.proofs.Spoken.{say_settles, say_states, say_nothing}
use Rattle.amqp_deliveries.proofs.held.Held.say.Goals as goal

pub returns-then-said-clause-ok : goal.returns-then-said-clause-ok
returns-then-said-clause-ok c =
    let d : Disposition = record { first = c.said.inside.first; last = c.said.inside.last; settled = c.said.inside.settled; state = c.said.inside.state } in
    let P : Disposition → Type 0 = λ x. c.end_range.new.self ≡ next_sent_held (Says x) c.args.self.now in
    subst P c.said.view_is (c.end_range.ensures ∙ sym (say_settles d c.args.self.now c.if-said.true))

pub returns-in-None-clause-ok : goal.returns-in-None-clause-ok
returns-in-None-clause-ok c =
    let d : Disposition = record { first = c.said.inside.first; last = c.said.inside.last; settled = c.said.inside.settled; state = c.said.inside.state } in
    let P : Disposition → Type 0 = λ x. c.args.self.now ≡ next_sent_held (Says x) c.args.self.now in
    subst P c.said.view_is (sym (say_nothing d c.args.self.now c.if-said.false c.in-None.is))

pub returns-in-Some-clause-ok : goal.returns-in-Some-clause-ok
returns-in-Some-clause-ok c =
    let d : Disposition = record { first = c.said.inside.first; last = c.said.inside.last; settled = c.said.inside.settled; state = c.said.inside.state } in
    let P : Disposition → Type 0 = λ x. c.set_local.new.self ≡ next_sent_held (Says x) c.args.self.now in
    on_ok_weaker c.set_local.result
    (λ set. subst P c.said.view_is (set ∙ sym (say_states d c.in-Some.state c.args.self.now c.if-said.false c.in-Some.is)))
    c.set_local.ensures.ok

pub returns-in-Some-clause-needs : goal.returns-in-Some-clause-needs
returns-in-Some-clause-needs c =
    let d : Disposition = record { first = c.said.inside.first; last = c.said.inside.last; settled = c.said.inside.settled; state = c.said.inside.state } in
    let P : Disposition → Type 0 = λ x. GivesState x (items_of c.args.self.now) in
    on_err_weaker c.set_local.result
    (λ some. subst P c.said.view_is (gives_state d c.in-Some.state c.args.self.now c.if-said.false c.in-Some.is some))
    c.set_local.ensures.some
