use Rattle.std.proofs.Common.{◌≡◌, ◌<◌, ℕ, true, false, length, arith, refl, ⊎_elim}
use Rattle.std.proofs.lemmas.Bool.{cases_lt}
use Rattle.std.specs.BinaryHeap.{heap_items}
use Rattle.amqp_links.proofs.Spares.{first-counts, above-least, none-left, lowest-spare, lowest-next}
use Rattle.amqp_links.proofs.handles.Handles.lowest.Goals as goal

pub returns-in-Some : goal.returns-in-Some
returns-in-Some c = λ links i.
    let some : 0 < length (heap_items c.args.self.now.free) = rw (← c.args.self.now.free.data.ok.0) (c.in-Some.ensures.variant.0 refl) in
    lowest-spare c.args.self.now links c.in-Some.handle.now.0 i
    (first-counts (λ x. x.0) c.in-Some.handle.now (heap_items c.args.self.now.free) c.in-Some.ensures.lookup some)
    (λ k less. above-least (λ x. x.0) c.in-Some.handle.now.0 k (heap_items c.args.self.now.free) (c.in-Some.ensures.greatest i.ordered) less)

pub returns-in-None : goal.returns-in-None
returns-in-None c = λ links i.
    lowest-next c.args.self.now links i (λ k. none-left (λ x. x.0) k (heap_items c.args.self.now.free) (rw (← c.args.self.now.free.data.ok.0) (none-in c.args.self.now.free.data.len c.in-None.ensures.variant.1)))
  where
    none-in : (n : ℕ) → (0 < n → false ≡ true) → n ≡ 0
    none-in n f = ⊎_elim (λ lt. absurd (let e = f lt in cc)) (λ le. omega (arith, le)) (cases_lt 0 n)
