use Rattle.std.proofs.Common.{◌≡◌, map}
use Rattle.amqp_links.specs.Fate.{links_told}
use Rattle.amqp_links.proofs.store.Store.tell.Given as goal

abbrev pub invariant-loop-telling : goal.invariant-loop-telling
invariant-loop-telling l = (l.self ≡ links_told l.yielded l.initial.self) × (l.links.items ≡ map (λ t. t.link) l.yielded)
