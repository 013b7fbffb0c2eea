use Rattle.std.proofs.Common.{◌≡◌, ◌+◌, ◌<◌, List, length, set, ap, ◌∙◌, arith, rules, Some}
use Rattle.std.proofs.lemmas.List.{length-set, length_push}
use Rattle.std.proofs.lemmas.List.Elements.{All-pop}
use Rattle.amqp_performatives.specs.declared.state.DeliveryState.{DeliveryState}
use Rattle.amqp_events.specs.Told.{SentItem}
use Rattle.amqp_deliveries.specs.Edits.{stated}
use Rattle.amqp_deliveries.proofs.Kept.{change_more}
use Rattle.amqp_deliveries.proofs.held.loops.keep.Goals as goal

pub index_mut-item-requires : goal.index_mut-item-requires
index_mut-item-requires c =
    let popped : length c.loop-copy.copies.items ≡ length c.pop.new.self.items + 1 = ap length c.in-Some.ensures.items ∙ length_push c.pop.new.self.items c.in-Some.copy in
    let here : c.loop-copy.place < length c.loop-copy.items.items = omega arith in
    search (rules, here)

pub loop-copy-preserved : goal.loop-copy-preserved
loop-copy-preserved c =
    let was : List SentItem = c.args.items.now.items in
    let now : List SentItem = c.loop-copy.items.items in
    let popped : length c.loop-copy.copies.items ≡ length c.pop.new.self.items + 1 = ap length c.in-Some.ensures.items ∙ length_push c.pop.new.self.items c.in-Some.copy in
    let x : SentItem = c.index_mut-item.result.now in
    let place = c.loop-copy.place in (
      omega arith,
      omega arith,
      length-set now place c.set_state.new.self ∙ c.loop-copy.invariant.2,
      λ state all.
          let P : DeliveryState → Type 0 = λ copy. copy ≡ state in
          let told = c.loop-copy.invariant.3 state all in
          let left = All-pop P c.loop-copy.copies.items c.pop.new.self.items (Some c.in-Some.copy) c.in-Some.ensures.items told.0 in (
            left.0,
            ap (set now place) (c.set_state.ensures ∙ ap (λ s. stated c.args.side c.args.tells s x) left.1)
                ∙ change_more c.args.span.start place (stated c.args.side c.args.tells state) was now x c.loop-copy.invariant.1 (omega arith) told.1 c.index_mut-item.ensures.value,
          ),
    )
