use Rattle.std.proofs.Common.{◌∙◌, sym, ap}
use Rattle.indexmap.specs.IndexMap.{insert_entry}
use Rattle.amqp_waiting.specs.Kept.{same_key}
use Rattle.amqp_waiting.proofs.Entries.{key, one_more_at, all_in}
use Rattle.amqp_waiting.proofs.waiting.Waiting.new.Goals as goal

pub loop-item-preserved : goal.loop-item-preserved
loop-item-preserved c = (
  c.in_ok-put.ensures.entries
      ∙ ap (λ state. insert_entry same_key c.loop-item.entries.entries (key c.item-item.result.tag) (record { state = state; verdict = _; theirs = _ })) c.in_ok-state.ensures
      ∙ one_more_at c.args.items.now c.loop-item.item-index c.item-item.result c.loop-item.entries.entries c.requires c.loop-item-test.true (sym c.item-item.is) c.loop-item.invariant.0,
  c.in_ok-put.ensures.unique,
)

pub returns : goal.returns
returns c = all_in c.args.items.now c.loop-item.item-index c.loop-item.entries.entries c.loop-item-test.false c.loop-item.invariant.0
