use Rattle.std.proofs.Common.{◌≡◌, ◌≤◌, ◌+◌, ◌-◌, ◌*◌, length, take, arith, refl, ap, ◌∙◌}
use Rattle.amqp_frames.proofs.Feeding.{kept_front, done_view, framed, refused, in_piece, view_max, view_kept}
use Rattle.amqp_frames.proofs.framer.Framer.finish_in_place.Goals as goal

pub returns-in-Ok-clause-fed : goal.returns-in-Ok-clause-fed
returns-in-Ok-clause-fed c =
    let kept = c.args.self.now.state.kept in
    let missing = c.args.header.size - c.args.count in
    let size : length kept + missing ≡ c.args.header.size = omega (arith, c.requires.kept, c.requires.place, c.requires.begins.high) in
    let whole : missing ≤ length c.args.octets.now = omega (arith, c.requires.whole) in
    let at = in_piece kept c.args.octets.now (4 * c.args.header.doff) _ missing c.args.count c.start.ensures c.requires.kept c.requires.place (omega (arith, c.requires.begins.high)) in
    let f = framed c.read_contents.new.slot c.args.header c.args.self.now.state.max_size missing kept c.args.octets.now _ c.requires.begins size whole at c.in-Ok.ensures.0 c.in-Ok.ensures.1 in
    (whole, f.0, f.1, done_view _ _ _ _ kept (ap view_max c.self.view_is) (ap (λ n. take n c.self.inside.buffer.octets) c.requires.kept ∙ kept_front _ _ _ (ap view_kept c.self.view_is)))

pub returns-in-Err-clause-fed : goal.returns-in-Err-clause-fed
returns-in-Err-clause-fed c =
    let kept = c.args.self.now.state.kept in
    let missing = c.args.header.size - c.args.count in
    let size : length kept + missing ≡ c.args.header.size = omega (arith, c.requires.kept, c.requires.place, c.requires.begins.high) in
    let whole : missing ≤ length c.args.octets.now = omega (arith, c.requires.whole) in
    let at = in_piece kept c.args.octets.now (4 * c.args.header.doff) _ missing c.args.count c.start.ensures c.requires.kept c.requires.place (omega (arith, c.requires.begins.high)) in
    (refused _ c.args.header _ missing kept c.args.octets.now _ c.requires.begins size whole at c.in-Err.ensures, refl)
