use Rattle.std.proofs.Common.{◌∙◌, sym, arith}
use Rattle.amqp_trace.specs.Values.{value_text}
use Rattle.amqp_trace.proofs.Showing.{value_none, value_some, leaf_opened, put_pair, passed, put_entry}
use Rattle.amqp_trace.proofs.values.+showing.Goals as goal
use Rattle.amqp_trace.proofs.values.+showing.Goals.{put_named-then-not-is_null+in_ok-put_comma+in_ok-put_name+in_ok-put_value, put_named-else-not-is_null}

pub put_value-returns-then-depth-eq0-clause-text : goal.put_value-returns-then-depth-eq0-clause-text
put_value-returns-then-depth-eq0-clause-text t c = rw (c.if-depth-eq0.true, value_none c.args.value.now) c.put.ensures.text

pub put_value-returns-clause-text : goal.put_value-returns-clause-text
put_value-returns-clause-text t c = rw (value_some c.args.depth c.args.value.now (omega (arith, c.if-depth-eq0.false))) c.put_opened.ensures.text

pub put_opened-returns-in_default-clause-text : goal.put_opened-returns-in_default-clause-text
put_opened-returns-in_default-clause-text t c =
    rw (leaf_opened (value_text c.args.depth) c.args.value.now c.in_default.not-List c.in_default.not-Map c.in_default.not-Array c.in_default.not-Described) c.put_leaf.ensures.text

pub put_pairs-loop-pair-preserved : goal.put_pairs-loop-pair-preserved
put_pairs-loop-pair-preserved t c =
    put_pair (value_text c.args.depth) c.args.pairs.now c.loop-pair.pair-index c.pair-item.result c.loop-pair.is_first c.loop-pair.line c.put_comma.new.line c.put_value.new.line c.put-in-loop-pair.new.self c.put_value-in-loop-pair.new.line _ c.loop-pair-test.true c.pair-item.is
    c.in_ok-put_comma.ensures.text c.in_ok-put_value.ensures.text c.in_ok-put-2.ensures.text c.in_ok-put_value-2.ensures.text c.loop-pair.invariant

pub put_named-loop-place-preserved : goal.put_named-loop-place-preserved
put_named-loop-place-preserved t c =
    elim c.if-not-is_null.branch [
      | put_named-then-not-is_null+in_ok-put_comma+in_ok-put_name+in_ok-put_value w ↦
          rw (w.line-is, w.is_first-is)
          (put_entry c.args.names.now c.loop-place.place (value_text c.args.depth) c.args.values.now c.index-values-place.result c.loop-place-test.true c.index-values-place.is (sym c.is_null.ensures ∙ w.if-not-is_null.true) c.loop-place.is_first c.loop-place.line w.put_comma.new.line w.put_name.new.line w.put_value.new.line _ w.in_ok-put_comma.ensures.text w.in_ok-put_name.ensures.text w.in_ok-put_value.ensures.text c.loop-place.invariant)
      | put_named-else-not-is_null w ↦
          rw (w.line-is, w.is_first-is) (passed c.args.names.now c.loop-place.place (value_text c.args.depth) c.args.values.now c.index-values-place.result c.loop-place-test.true c.index-values-place.is (sym c.is_null.ensures ∙ w.if-not-is_null.false) c.loop-place.is_first c.loop-place.line _ c.loop-place.invariant)
    ]
