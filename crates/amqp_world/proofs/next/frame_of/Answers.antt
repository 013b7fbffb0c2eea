use Rattle.std.proofs.Common.{sym, ◌∙◌, refl, length}
use Rattle.std.proofs.lemmas.Option.{slice_get_read}
use Rattle.amqp_world.proofs.Sending.{frame-there, frame-past, frame-none}
use Rattle.amqp_world.proofs.next.frame_of.Goals as goal

pub loop-sent-preserved : goal.loop-sent-preserved
loop-sent-preserved c =
    let items = c.as_slice-sent-items.result.now in
    let there = slice_get_read items (length items) c.loop-sent.sent-index c.sent-item.result refl c.loop-sent-test.true c.sent-item.is in
    c.loop-sent.invariant ∙ frame-past items c.loop-sent.sent-index c.sent-item.result there (sym c.is_some.ensures ∙ c.if-is_some.false)

pub returns-then-is_some : goal.returns-then-is_some
returns-then-is_some c =
    let items = c.as_slice-sent-items.result.now in
    let there = slice_get_read items (length items) c.loop-sent.sent-index c.sent-item.result refl c.loop-sent-test.true c.sent-item.is in
    sym (c.loop-sent.invariant ∙ frame-there items c.loop-sent.sent-index c.sent-item.result there (sym c.is_some.ensures ∙ c.if-is_some.true))

pub returns : goal.returns
returns c = sym (c.loop-sent.invariant ∙ frame-none c.as_slice-sent-items.result.now c.loop-sent.sent-index c.loop-sent-test.false)
