use Rattle.std.proofs.Common.{◌∙◌, ◌||◌, [], false, unwrap_or}
use Rattle.amqp_steps.specs.Plan.{view_of}
use Rattle.amqp_steps.proofs.Transfers.{brings, first-free, first-plan}
use Rattle.amqp_endpoint.proofs.endpoint.Endpoint.make_first.Goals as goal

pub returns : goal.returns
returns c =
    let h = rw (← c.self.view_is) at c.requires.heard in
    let f = first-free (view_of c.self.inside.steps c.self.inside.session c.self.inside.stores) c.args.b.now c.args.payload.now c.args.l.now h.free c.requires.left c.requires.none in
    rw (← c.self.view_is, c.one_past.ensures, c.unwrap_or-id.ensures, c.is_resumed.ensures, c.number.ensures, c.rcv_mode.ensures)
    (first-plan c.self.inside.steps c.args.key c.self.inside.session c.self.inside.stores c.args.b.now c.args.payload.now c.args.l.now c.marks_first.result _ c.self.invariant
    h c.requires.left c.requires.none (c.begins_unsettled.ensures ∙ brings (unwrap_or c.args.b.now.settled false || unwrap_or c.args.b.now.aborted false) (unwrap_or c.args.b.now.resume false) (unwrap_or c.args.b.now.delivery_tag []) c.args.l.now.waiting) (c.marks_first.ensures.marks f.credit) c.marks_first.ensures.sending)
