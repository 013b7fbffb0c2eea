use Rattle.std.proofs.Common.{◌≡◌, vec_len, ◌++◌, take, length, arith, sym, ap, ◌∙◌, subst, append_assoc, rules, length-append}
use Rattle.std.proofs.lemmas.List.{take-append-drop}
use Rattle.rtrb.specs.Ring.{known_items, received}
use Rattle.amqp_journal.specs.Units.{units}
use Rattle.amqp_conn.specs.Connection.{Connection}
use Rattle.amqp_journal.specs.Log.{Log}
use Rattle.amqp_shared.proofs.Numbering.{taken-length, waiting-none}
use Rattle.amqp_shared.specs.Units.{units_of, backlog_of, unmoved}
use Rattle.amqp_shared.specs.Waking.{Held}
use Rattle.amqp_shared.proofs.close.take_apart.Goals as goal

pub returns-clause-units : goal.returns-clause-units
returns-clause-units g c =
    let conn = c.locked.inside.conn in
    let b = c.slots_beside-in_ring.ensures in
    let rest = backlog_of conn in
    let known = known_items c.slots_beside-in_ring.new.self in
    let left : c.empty_backlog.new.left.items ≡ known ++ rest = c.empty_backlog.ensures.items ∙ ap (λ l. l ++ rest) (c.empty_ring.ensures.items ∙ ap (λ l. l ++ known) c.requires.empty.0) in
    let got : c.args.writer ≡ received c.slots_beside-in_ring.new.self = sym c.writer.view_is ∙ sym b.looked.1 in
    let whole : c.args.writer ++ known ≡ take conn.core.log.popped (units_of conn) = ap (λ w. w ++ known) got ∙ b.fifo ∙ b.producer.1 ∙ c.locked.invariant.pushed_is in
    let same = ap (λ (x : Connection). units_of x) c.empty_backlog.ensures.conn in
    ap (λ l. c.args.writer ++ l) left ∙ sym (append_assoc c.args.writer known rest) ∙ ap (λ l. l ++ rest) whole ∙ take-append-drop conn.core.log.popped (units_of conn) ∙ sym same

pub empty_backlog-requires : goal.empty_backlog-requires
empty_backlog-requires g c =
    let b = c.slots_beside-in_ring.ensures in
    let log = c.locked.inside.conn.core.log in
    let past = received c.slots_beside-in_ring.new.self in
    let known = known_items c.slots_beside-in_ring.new.self in
    let moved : length (past ++ known) ≡ log.popped = ap length (b.fifo ∙ b.producer.1 ∙ c.locked.invariant.pushed_is) ∙ taken-length log.popped (units log) c.locked.invariant.no_more_moved in
    let split = length-append past known in
    let taken : c.writer.inside.taken ≡ length past = c.writer.invariant.0 ∙ ap length (sym b.looked.1) in
    let ring = b.value in
    let out = c.put_out.ensures.count ∙ ap (λ (l : Log). length (units l)) c.logged.ensures in
    let room = c.requires.room in
    let whole : length (units c.args.locked.conn.core.log) ≡ length (units log) = ap (λ (x : Held). length (units x.conn.core.log)) (sym c.locked.view_is) in
    let writer : length c.args.writer ≡ length past = ap length (sym c.writer.view_is ∙ sym b.looked.1) in
    let filled : vec_len c.empty_ring.new.left ≡ length c.empty_ring.new.left.items = search rules in
    let many = ap length c.empty_ring.ensures.items ∙ length-append c.args.left.items known in
    let none = ap length c.requires.empty.0 in
    let some = c.locked.invariant.no_more_moved in
    (omega (arith, moved, split, taken, ring, out, some), omega (arith, moved, split, taken, ring, out, some, room, whole, writer, filled, many, none, c.empty_ring.ensures.capacity))

pub returns-clause-conn : goal.returns-clause-conn
returns-clause-conn g c =
    let new = c.empty_backlog.new.conn in
    let rest = subst (λ (x : Held). unmoved x.conn new ≡ x.conn) c.locked.view_is c.empty_backlog.ensures.conn in
    let same = ap (λ (x : Connection). length (units x.core.log)) c.empty_backlog.ensures.conn in
    let old = ap (λ (x : Held). x.conn.core.log.popped) c.locked.view_is in
    let some = c.locked.invariant.no_more_moved in
    let all = c.empty_backlog.ensures.all in
    record { rest = rest; more = omega (arith, same, old, some, all) }

pub returns-clause-none_waits : goal.returns-clause-none_waits
returns-clause-none_waits g c =
    let log = c.empty_backlog.new.conn.core.log in
    let all = c.empty_backlog.ensures.all in
    waiting-none log.popped (units log) (omega (arith, all))

pub returns-clause-retained : goal.returns-clause-retained
returns-clause-retained g c = λ all. ap (λ (x : Connection). x.core.log.forgotten) c.empty_backlog.ensures.conn ∙ c.locked.invariant.retained all
