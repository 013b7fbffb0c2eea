use Rattle.amqp_laws.specs.Past.{past}
use Rattle.amqp_world.proofs.Meeting.{ids-number}
use Rattle.amqp_world.proofs.world.World.heard.Goals as goal

pub returns-in-A-clause-firsts : goal.returns-in-A-clause-firsts
returns-in-A-clause-firsts c = rw (c.in-A.is, ← c.self.view_is) (ids-number c.self.inside.a_hears (past c.self.inside.a.journal) c.self.invariant.a_meets.knows)

pub returns-in-B-clause-firsts : goal.returns-in-B-clause-firsts
returns-in-B-clause-firsts c = rw (c.in-B.is, ← c.self.view_is) (ids-number c.self.inside.b_hears (past c.self.inside.b.journal) c.self.invariant.b_meets.knows)
