use Rattle.std.proofs.Common.{ℕ, List, ◌-◌, subst, arith}
use Rattle.amqp_types.specs.Heads.{datum_of}
use Rattle.amqp_decoder.proofs.DescribedLists.{opens, no_list_opened, none_opened, flat_descriptor, rest_taken}
use Rattle.amqp_decoder.specs.Opening.{FindsItems, NoItems}
use Rattle.amqp_decoder.proofs.opening.open.Goals as goal

pub returns-in-Some-list_items : goal.returns-in-Some-list_items
returns-in-Some-list_items c = let f = c.in-Some.ensures in opens c.args.depth (c.args.depth - 2) c.in-Some.start c.args.octets.now f.1 (datum_of c.in-Some.descriptor) c.in-Some-list_items.left c.in-Some-list_items.items.now c.in-Some-list_items.used c.requires.most (omega arith) (omega arith) f.0 (flat_descriptor c.in-Some.descriptor) f.2 f.3 (subst (λ (t : List ℕ). FindsItems t c.in-Some-list_items.left c.in-Some-list_items.items.now c.in-Some-list_items.used) (rest_taken c.in-Some.start c.args.octets.now) c.in-Some-list_items.ensures)

pub returns-in-None-list_items : goal.returns-in-None-list_items
returns-in-None-list_items c = let f = c.in-Some.ensures in no_list_opened c.args.depth (c.args.depth - 2) c.in-Some.start c.args.octets.now f.1 (datum_of c.in-Some.descriptor) c.requires.most (omega arith) f.2 f.3 (subst (λ (t : List ℕ). NoItems t) (rest_taken c.in-Some.start c.args.octets.now) c.in-None-list_items.ensures)

pub returns-in-None : goal.returns-in-None
returns-in-None c = none_opened c.args.depth (c.args.depth - 2) c.args.octets.now c.requires.most (omega arith) c.in-None.ensures
