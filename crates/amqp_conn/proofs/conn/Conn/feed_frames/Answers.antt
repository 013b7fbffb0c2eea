use Rattle.std.proofs.Common.{subst, sym, IsTrue}
use Rattle.std.specs.Vec.{vec_capacity}
use Rattle.amqp_frames.specs.Slots.{told_with}
use Rattle.amqp_conn.specs.Connection.{Connection, reads_frames}
use Rattle.amqp_conn.specs.Feeding.{Feeds}
use Rattle.amqp_conn.proofs.Whole.{left}
use Rattle.amqp_conn.proofs.Parts.{acted, acted-set, acted-on, told-some}
use Rattle.amqp_conn.proofs.conn.Conn.feed_frames.Goals as goal

pub invariant_of-self : goal.invariant_of-self
invariant_of-self c =
    let reads = subst (λ (v : Connection). IsTrue (reads_frames v.core.phase)) (sym c.self.view_is) c.requires in
    acted-set c.self.inside.machine c.act.new.machine c.self.inside.head.items c.args.octets.now (vec_capacity c.self.inside.head) c.self.inside.framer.state c.feed_into-answer.new.self.state c.act.new.framer.state
    (told_with c.feed_into-answer.result c.feed_into-answer.new.slot) c.act.result reads c.self.invariant c.feed_into-answer.ensures.fed c.act.ensures

pub returns-clause-fed : goal.returns-clause-fed
returns-clause-fed c =
    let reads = subst (λ (v : Connection). IsTrue (reads_frames v.core.phase)) (sym c.self.view_is) c.requires in
    subst (λ (v : Connection). Feeds v c.args.octets.now c.act.result (left c.act.new.machine c.self.inside.head.items c.act.new.framer.state.kept)) c.self.view_is
    (acted c.self.inside.machine c.act.new.machine c.self.inside.head.items c.args.octets.now c.self.inside.framer.state c.feed_into-answer.new.self.state c.act.new.framer.state
    (told_with c.feed_into-answer.result c.feed_into-answer.new.slot) c.act.result reads c.self.invariant.max_is c.feed_into-answer.ensures.fed c.act.ensures)

pub returns-clause-progress : goal.returns-clause-progress
returns-clause-progress c some =
    acted-on _ _ _ _ _ c.act.result c.act.ensures (told-some c.feed_into-answer.result c.feed_into-answer.new.slot (c.feed_into-answer.ensures.progress some))
