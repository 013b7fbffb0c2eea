use Rattle.std.proofs.Common.{ℕ, ◌<◌, ◌≤◌, ◌*◌, ◌+◌, ◌^◌, Some, Option, length, find, ap, sym, subst, ◌∙◌, arith}
use Rattle.amqp_rules.specs.View.{SendingView, has_number}
use Rattle.amqp_rules.specs.Carry.{carried}
use Rattle.amqp_steps.specs.Plan.{IsShort}
use Rattle.amqp_steps.proofs.Carried.{found_short, carried_short}
use Rattle.amqp_endpoint.proofs.endpoint.Endpoint.check_carry.Goals as goal

pub overflow_add-size : goal.overflow_add-size
overflow_add-size c =
    let there = ap (λ e. find (has_number c.args.link) e.stores.links.list) c.self-inside.view_is in
    let s = found_short c.self.inside.steps c.args.link c.self.inside.stores.links.list c.in-Some.found.link.now c.in-Some-sending.unfinished c.self.invariant.short (c.in-Some.ensures ∙ there) c.in-Some-sending.ensures in
    let same = ap (λ (x : SendingView). x.size) c.unfinished.view_is in
    let steps = ap (λ v. v.steps) c.self.view_is in
    omega (arith, s, same, steps, c.requires)

pub returns-clause-short : goal.returns-clause-short
returns-clause-short c =
    let there = ap (λ e. find (has_number c.args.link) e.stores.links.list) c.self-inside.view_is in
    let s = found_short c.self.inside.steps c.args.link c.self.inside.stores.links.list c.in-Some.found.link.now c.in-Some-sending.unfinished c.self.invariant.short (c.in-Some.ensures ∙ there) c.in-Some-sending.ensures in
    let d : SendingView = record { id = c.unfinished.inside.id; size = c.unfinished.inside.size } in
    let low : d.size ≤ c.self.inside.steps * 2 ^ 64 = subst (λ (x : SendingView). x.size ≤ c.self.inside.steps * 2 ^ 64) (sym c.unfinished.view_is) s in
    let few : length c.args.payload.now < 2 ^ 64 = omega arith in
    let steps = ap (λ v. v.steps) c.self.view_is in
    subst (λ (x : Option SendingView). IsShort (c.args.self.now.steps + 1) x) (sym c.sending_after-marks.ensures)
    (subst (λ (n : ℕ). IsShort (n + 1) (carried (length c.args.payload.now) c.args.more (Some d))) steps (carried_short c.self.inside.steps (length c.args.payload.now) c.args.more d low few))
