use Rattle.std.proofs.Common.{◌<◌, ◌+◌, ◌==◌, cond, length, refl}
use Rattle.std.proofs.lemmas.List.Sorted.{sum_by_popped}
use Rattle.std.specs.BinaryHeap.{heap_items}
use Rattle.amqp_links.proofs.Spares.{first-counts, above-least, none-left, lowest-spare, lowest-next, taken, taken-next}
use Rattle.amqp_links.proofs.handles.Handles.take.Goals as goal

pub returns-in-Some-clause-handled : goal.returns-in-Some-clause-handled
returns-in-Some-clause-handled c = λ less more i g.
    let some : 0 < length (heap_items c.args.self.now.free) = rw (← c.args.self.now.free.data.ok.0) (c.in-Some.ensures.variant.0 refl) in
    let up = c.in-Some.ensures.heap_order i.ordered in
    let low =
    lowest-spare c.args.self.now less c.in-Some.field-0.0 i
    (first-counts (λ x. x.0) c.in-Some.field-0 (heap_items c.args.self.now.free) c.in-Some.ensures.top some)
    (λ k under. above-least (λ x. x.0) c.in-Some.field-0.0 k (heap_items c.args.self.now.free) up.1 under) in
    taken c.args.self.now (record { free = c.pop.new.self; next = c.args.self.now.next }) c.in-Some.field-0.0 less more i (rw low g)
    (λ k. sum_by_popped (λ x. cond (x.0 == k) 1 0) c.in-Some.field-0 (heap_items c.args.self.now.free) (heap_items c.pop.new.self) c.in-Some.ensures.permutation)
    c.in-Some.ensures.len refl c.pop.ensures.capacity up.0

pub returns-in-None-clause-handled : goal.returns-in-None-clause-handled
returns-in-None-clause-handled c = λ less more i g.
    let none = c.in-None.ensures.none in
    let low = lowest-next c.args.self.now less i (λ k. none-left (λ x. x.0) k (heap_items c.args.self.now.free) (rw (← c.args.self.now.free.data.ok.0) none)) in
    taken-next c.args.self.now (record { free = c.pop.new.self; next = c.args.self.now.next + 1 }) less more i (rw low g) c.requires.room
    none c.in-None.ensures.unchanged.0 c.in-None.ensures.unchanged.1 refl c.pop.ensures.capacity
