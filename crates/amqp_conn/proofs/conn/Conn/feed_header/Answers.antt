use Rattle.std.proofs.Common.{◌≡◌, ◌-◌, ℕ, List, length, ap, subst, sym}
use Rattle.amqp_conn.specs.declared.phase.Phase.TheVariants as phase
use Rattle.amqp_conn.specs.Connection.{Connection}
use Rattle.amqp_conn.specs.Feeding.{Feeds}
use Rattle.amqp_conn.specs.Treats.{ReadsHeader}
use Rattle.amqp_conn.proofs.Whole.{left}
use Rattle.amqp_conn.proofs.Headers.{head-short, reads-header}
use Rattle.amqp_conn.proofs.conn.Conn.feed_header.Goals as goal

pub returns-clause-fed : goal.returns-clause-fed
returns-clause-fed c =
    let k = c.self.inside.machine in
    let head = c.self.inside.head.items in
    let kept = c.self.inside.framer.state.kept in
    let n = 8 - length c.as_slice-count.result.now in
    let p : k.phase ≡ phase.AwaitHeader = subst (λ (v : Connection). v.core.phase ≡ phase.AwaitHeader) (sym c.self.view_is) c.requires in
    let count : length c.as_slice-count.result.now ≡ length head = ap (λ (x : List ℕ). length x) c.as_slice-count.ensures.value in
    let reads = subst (λ (m : ℕ). ReadsHeader k c.fill-2.new.head.items m n c.read_header.result c.read_header.new.machine c.read_header.new.head.items) count c.read_header.ensures.reads in
    subst (λ (v : Connection). Feeds v c.args.piece.now c.read_header.result (left c.read_header.new.machine c.read_header.new.head.items kept)) c.self.view_is
    (reads-header k c.read_header.new.machine head c.fill-2.new.head.items c.read_header.new.head.items kept c.args.piece.now n c.read_header.result p
    (head-short k head kept c.self.inside.framer.state.max_size p c.self.invariant.read) (ap (λ m. 8 - m) count) c.if-piece-missing.false (c.self.invariant.empty p) c.fill-2.ensures.items reads)
