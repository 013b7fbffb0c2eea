use Rattle.amqp_halves.specs.Halves.{whole}
use Rattle.amqp_halves.proofs.Shapes.{run_leaf_is, no_run}
use Rattle.amqp_halves.proofs.leaf.run_leaf.Goals as goal

pub returns-in-None : goal.returns-in-None
returns-in-None c d rest e = no_run c.args.run c.args.count (whole c.args.octets) (d, rest) e c.in-None.ensures

pub returns-in-Some : goal.returns-in-Some
returns-in-Some c d rest e = run_leaf_is c.args.run c.args.count (whole c.args.octets) (whole c.in-Some.text) (whole c.in-Some.field-0-1) (d, rest) e c.in-Some.ensures
