use Rattle.amqp_steps.specs.Arriving.{arriving_plan}
use Rattle.amqp_steps.specs.Plan.{view_of}
use Rattle.amqp_steps.proofs.Kept.{kept-after, met-after}
use Rattle.amqp_steps.proofs.Transfers.{begun-so}
use Rattle.amqp_endpoint.proofs.endpoint.Endpoint.come_first.Goals as goal

pub arrive_first-requires : goal.arrive_first-requires
arrive_first-requires c =
    let v = view_of c.self.inside.steps c.self.inside.session c.self.inside.stores in
    let may = rw (← c.self.view_is) at c.requires.may in
    rw (c.piece_of-piece.ensures, c.item_of-item.ensures, c.in_ok-payload.ensures.cases, c.in_ok-state.ensures)
    record {
      met = rw (begun-so v c.args.b.now c.args.arriving.now c.requires.begins c.requires.fresh) at
          (met-after c.self.inside.steps c.self.inside.session c.self.inside.stores (arriving_plan v c.args.b.now c.args.payload.now c.args.arriving.now) may.steps c.self.invariant may.sound);
    }

pub invariant_of-self-2 : goal.invariant_of-self-2
invariant_of-self-2 c =
    let v = view_of c.self.inside.steps c.self.inside.session c.self.inside.stores in
    let may = rw (← c.self.view_is) at c.requires.may in
    rw (c.session_heard-self-inside.ensures, c.in-Ok.ensures.ok, c.piece_of-piece.ensures, c.item_of-item.ensures, c.in_ok-payload.ensures.cases, c.in_ok-state.ensures)
    (rw (begun-so v c.args.b.now c.args.arriving.now c.requires.begins c.requires.fresh) at
    (kept-after c.self.inside.steps c.self.inside.session c.self.inside.stores (arriving_plan v c.args.b.now c.args.payload.now c.args.arriving.now) may.steps c.self.invariant may.sound may.apart))
