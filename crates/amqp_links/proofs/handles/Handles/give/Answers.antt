use Rattle.std.proofs.Common.{◌==◌, cond, refl}
use Rattle.std.proofs.lemmas.List.Sorted.{sum_by_pushed}
use Rattle.std.specs.BinaryHeap.{heap_items}
use Rattle.amqp_links.proofs.Spares.{from-ok, given}
use Rattle.amqp_links.proofs.handles.Handles.give.Goals as goal

pub returns-clause-handled : goal.returns-clause-handled
returns-clause-handled c = λ less more i g.
    let ok = c.push.ensures.succeeds c.requires in
    let len = from-ok c.push.result _ ok c.push.ensures.len in
    let moved = from-ok c.push.result _ ok c.push.ensures.permutation in
    let ordered = from-ok c.push.result _ ok c.push.ensures.heap_order in
    given c.args.self.now (record { free = c.push.new.self; next = c.args.self.now.next }) c.args.handle less more i g
    (λ k. sum_by_pushed (λ x. cond (x.0 == k) 1 0) _ (heap_items c.args.self.now.free) (heap_items c.push.new.self) moved)
    len refl c.push.ensures.capacity (ordered i.ordered)
