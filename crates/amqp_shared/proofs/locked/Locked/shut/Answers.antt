use Rattle.std.proofs.Common.{sym, ◌∙◌}
use Rattle.amqp_shared.proofs.Growth.{close_grows, pushed-stands}
use Rattle.amqp_shared.proofs.locked.Locked.shut.Goals as goal

pub push_units-requires : goal.push_units-requires
push_units-requires g c =
    let v = c.self.invariant in
    let put = c.close in
    record { pushed = v.pushed_is ∙ sym (pushed-stands c.self.inside.conn.core put.new.self.core 0 (close_grows c.self.inside.conn.core put.new.self.core c.args.error put.result put.ensures.closes) v.no_more_moved) }
