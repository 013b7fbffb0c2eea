use Rattle.std.proofs.Common.{◌≡◌, ◌≤◌, ◌+◌, ◌-◌, ◌*◌, length, take, arith, ap, ◌∙◌}
use Rattle.std.proofs.lemmas.List.{drop-append-le}
use Rattle.amqp_frames.proofs.Feeding.{kept_front, done_view, framed, view_max, view_kept}
use Rattle.amqp_frames.proofs.framer.Framer.take.Goals as goal

pub returns-then-reads_behind-clause-fed : goal.returns-then-reads_behind-clause-fed
returns-then-reads_behind-clause-fed c =
    let kept = c.args.self.now.state.kept in
    let missing = c.args.header.size - length c.kept-count.result.now in
    let count = ap length c.kept-count.ensures.value in
    let size : length kept + missing ≡ c.args.header.size = grind (arith, count) in
    let whole : missing ≤ length c.args.octets.now = omega (arith, ap length c.as_slice-piece.ensures) in
    let f = framed c.reads_behind.new.slot c.args.header c.args.self.now.state.max_size missing kept c.args.octets.now _ c.requires size whole (drop-append-le (4 * c.args.header.doff) kept (take missing c.args.octets.now) (omega arith)) c.if-reads_behind.ensures.0 c.if-reads_behind.ensures.1 in
    (whole, f.0, f.1, done_view _ _ _ _ kept (ap view_max c.self.view_is) (ap (λ n. take n c.self.inside.buffer.octets) count ∙ kept_front _ _ _ (ap view_kept c.self.view_is)))
