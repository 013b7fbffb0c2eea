use Rattle.std.proofs.Common.{refl}
use Rattle.amqp_steps.proofs.Transfers.{later-plan}
use Rattle.amqp_endpoint.proofs.endpoint.Endpoint.make_later.Goals as goal

pub returns : goal.returns
returns c =
    rw (← c.self.view_is, c.number.ensures, c.rcv_mode.ensures)
    (later-plan c.self.inside.steps c.args.key c.args.progress.id c.self.inside.session c.self.inside.stores c.args.b.now c.args.payload.now c.args.l.now c.requires.going.of c.marks.result _ c.args.progress.resumed c.self.invariant
    (rw (← c.self.view_is) at c.requires.heard) c.requires.left c.requires.going.is c.requires.going.far.id c.requires.going.far.resumed refl c.marks.ensures)
