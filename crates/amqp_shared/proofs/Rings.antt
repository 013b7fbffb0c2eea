-- Ends of one ring.
use Rattle.std.proofs.Common.{◌≡◌, Some, ◌∙◌}
use Rattle.rtrb.specs.declared.producer.Producer.{Producer}
use Rattle.rtrb.specs.Ends.{SameRing}
use Rattle.amqp_shared.specs.Ring.{pushes_to}

module _ {T A P : Type 0} where
  pub same-pushes : (p q : Producer T A P) → SameRing p.end q.end → pushes_to q ≡ pushes_to p
  same-pushes p q h = λ i. Some (record { words = h.0 i; slots = h.1 i; names = h.2 i })
