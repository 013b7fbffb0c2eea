use Rattle.std.proofs.Common.{rules, ◌≡◌, ◌-◌, length, ap, sym, arith, length-append}
use Rattle.std.specs.Prelude.{vec_len}
use Rattle.amqp_journal.specs.Log.{Log}
use Rattle.amqp_journal.proofs.Keeping.{steps-are}
use Rattle.amqp_journal.proofs.Standing.{is-there, is-past, stands-some, stands-none}
use Rattle.amqp_journal.proofs.logged.Logged.stands.Goals as goal

pub returns-in-Some : goal.returns-in-Some
returns-in-Some c =
    let gone = c.self.inside.gone.items in
    let journal = c.self.inside.journal.items in
    let place = c.args.receipt.now.place in
    let steps = steps-are _ c.self.inside.endpoint c.self.inside.waiting.items c.self.invariant.0 in
    let many = length-append gone journal in
    let kept : vec_len c.self.inside.journal ≡ length journal = search rules in
    let s = c.steps.ensures in
    let n = c.len.ensures in
    let forgotten : c.steps.result - c.len.result ≡ length gone = omega (arith, steps, many, kept, s, n) in
    let past = c.if-receipt-forgotten.false in
    let read = c.in-Some.ensures.lookup in
    stands-some
    c.args.self.now
    gone
    journal
    place
    c.in-Some.entry.now
    c.args.op.now
    c.args.receipt.now.link
    c.args.receipt.now.id
    c.stands_in.result
    (ap (λ (l : Log). l.journal) (sym c.self.view_is))
    (ap (λ (l : Log). l.forgotten) (sym c.self.view_is))
    (omega (arith, forgotten, past))
    (is-there c.deref.result.now journal _ _ c.in-Some.entry.now c.deref.ensures.value (ap (λ f. place - f) forgotten) read.3.0 read.1)
    c.stands_in.ensures

pub returns-in-None : goal.returns-in-None
returns-in-None c =
    let gone = c.self.inside.gone.items in
    let journal = c.self.inside.journal.items in
    let place = c.args.receipt.now.place in
    let steps = steps-are _ c.self.inside.endpoint c.self.inside.waiting.items c.self.invariant.0 in
    let many = length-append gone journal in
    let kept : vec_len c.self.inside.journal ≡ length journal = search rules in
    let s = c.steps.ensures in
    let n = c.len.ensures in
    let forgotten : c.steps.result - c.len.result ≡ length gone = omega (arith, steps, many, kept, s, n) in
    let past = c.if-receipt-forgotten.false in
    let read = c.in-None.ensures.lookup in
    stands-none
    c.args.self.now
    gone
    journal
    place
    c.args.op.now
    c.args.receipt.now.link
    c.args.receipt.now.id
    (ap (λ (l : Log). l.journal) (sym c.self.view_is))
    (omega (arith, forgotten, past))
    (is-past c.deref.result.now journal _ _ c.deref.ensures.value (ap (λ f. place - f) forgotten) read.3)
