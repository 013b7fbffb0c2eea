use Rattle.std.proofs.Common.{◌<◌, ◌++◌, ◌*◌, List, ℕ, length, take, drop, arith, sym, ap, subst, ◌∙◌}
use Rattle.amqp_frames.proofs.Feeding.{done_view, framed, refused, in_joined, not_done, joined_some, room_of, sound_done, sound_again, same_view, front_taken, view_max, view_kept, view_state, view_room}
use Rattle.amqp_frames.specs.Contents.{AreNoContents}
use Rattle.amqp_frames.proofs.Cuts.{from_place, cut_short}
use Rattle.amqp_frames.proofs.framer.Framer.finish.Goals as goal

pub invariant_of-self : goal.invariant_of-self
invariant_of-self c = sound_again c.self.inside.max_size _ _ c.self.inside.is_done c.self.inside.before c.reserve.new.self.octets c.self.inside.buffer.octets c.reserve.ensures.octets c.reserve.ensures.more c.self.invariant

pub returns-in_default-clause-fed : goal.returns-in_default-clause-fed
returns-in_default-clause-fed c =
    let kept = c.args.self.now.state.kept in
    let held = ap view_kept c.self.view_is in
    let some : 0 < length kept = omega (arith, c.requires.begins.low, c.requires.place) in
    let same = not_done c.self.inside.is_done c.self.inside.buffer.octets kept held some in
    let at = from_place c.as_slice.result.now kept (4 * c.args.header.doff) c.start.result c.start.ensures (c.as_slice.ensures ∙ c.reserve.ensures.octets ∙ same) in (
      cut_short _ c.args.header _ c.args.missing kept c.args.octets.now c.requires.begins c.requires.size c.requires.whole c.requires.place
          (subst (λ (x : List ℕ). AreNoContents c.front_fault.result (drop (4 * c.args.header.doff) kept ++ take c.args.missing x)) c.as_slice-piece.ensures
          (subst (λ (x : List ℕ). AreNoContents c.front_fault.result (x ++ take c.args.missing c.as_slice-piece.result.now)) at c.front_fault.ensures)),
      same_view c.self.inside.max_size c.self.inside.is_done c.self.inside.before c.reserve.new.self.octets c.self.inside.buffer.octets c.reserve.ensures.octets ∙ ap view_state c.self.view_is,
    )

pub invariant_of-self-in-Ok-read_contents : goal.invariant_of-self-in-Ok-read_contents
invariant_of-self-in-Ok-read_contents c =
    let kept = c.args.self.now.state.kept in
    let held = ap view_kept c.self.view_is in
    let some : 0 < length kept = omega (arith, c.requires.begins.low, c.requires.place) in
    let same = not_done c.self.inside.is_done c.self.inside.buffer.octets kept held some in
    let items = c.append.ensures.octets ∙ ap (λ (t : List ℕ). t ++ take c.args.missing c.as_slice-piece.result.now) c.reserve.ensures.octets ∙ ap (λ (t : List ℕ). c.self.inside.buffer.octets ++ take c.args.missing t) c.as_slice-piece.ensures in
    sound_done _ _ _ _ _ kept (front_taken c.append.new.self.octets c.self.inside.buffer.octets (take c.args.missing c.args.octets.now) c.kept-count.result.now kept items same c.kept-count.ensures.value) (room_of _ _ _ kept held c.self.invariant.now)
    (omega (arith, c.reserve.ensures.more, c.append.ensures.room))

pub invariant_of-self-in-Err : goal.invariant_of-self-in-Err
invariant_of-self-in-Err c =
    let kept = c.args.self.now.state.kept in
    let held = ap view_kept c.self.view_is in
    let some : 0 < length kept = omega (arith, c.requires.begins.low, c.requires.place) in
    let same = not_done c.self.inside.is_done c.self.inside.buffer.octets kept held some in
    let items = c.append.ensures.octets ∙ ap (λ (t : List ℕ). t ++ take c.args.missing c.as_slice-piece.result.now) c.reserve.ensures.octets ∙ ap (λ (t : List ℕ). c.self.inside.buffer.octets ++ take c.args.missing t) c.as_slice-piece.ensures in
    let back = c.truncate.ensures.octets ∙ front_taken c.append.new.self.octets c.self.inside.buffer.octets (take c.args.missing c.args.octets.now) c.kept-count.result.now kept items same c.kept-count.ensures.value ∙ sym same in
    sound_again c.self.inside.max_size _ _ c.self.inside.is_done c.self.inside.before c.truncate.new.self.octets c.self.inside.buffer.octets back (omega (arith, c.reserve.ensures.more, c.append.ensures.room, c.truncate.ensures.room)) c.self.invariant

pub returns-in-Ok-read_contents-clause-fed : goal.returns-in-Ok-read_contents-clause-fed
returns-in-Ok-read_contents-clause-fed c =
    let kept = c.args.self.now.state.kept in
    let held = ap view_kept c.self.view_is in
    let some : 0 < length kept = omega (arith, c.requires.begins.low, c.requires.place) in
    let same = not_done c.self.inside.is_done c.self.inside.buffer.octets kept held some in
    let items = c.append.ensures.octets ∙ ap (λ (t : List ℕ). t ++ take c.args.missing c.as_slice-piece.result.now) c.reserve.ensures.octets ∙ ap (λ (t : List ℕ). c.self.inside.buffer.octets ++ take c.args.missing t) c.as_slice-piece.ensures in
    let at = in_joined kept c.args.octets.now c.lent.result (4 * c.args.header.doff) c.start-2.result c.args.header.size c.args.missing c.start-2.ensures (c.lent.ensures ∙ c.as_slice-joined.ensures ∙ items ∙ ap (λ (t : List ℕ). t ++ take c.args.missing c.args.octets.now) same) c.requires.whole c.requires.size in
    let f = framed c.read_contents.new.slot c.args.header c.args.self.now.state.max_size c.args.missing kept c.args.octets.now _ c.requires.begins c.requires.size c.requires.whole at c.in-Ok-read_contents.ensures.0 c.in-Ok-read_contents.ensures.1 in
    (c.requires.whole, f.0, f.1, done_view _ _ _ _ kept (ap view_max c.self.view_is) (front_taken c.append.new.self.octets c.self.inside.buffer.octets (take c.args.missing c.args.octets.now) c.kept-count.result.now kept items same c.kept-count.ensures.value))

pub returns-in-Err-clause-fed : goal.returns-in-Err-clause-fed
returns-in-Err-clause-fed c =
    let kept = c.args.self.now.state.kept in
    let held = ap view_kept c.self.view_is in
    let some : 0 < length kept = omega (arith, c.requires.begins.low, c.requires.place) in
    let same = not_done c.self.inside.is_done c.self.inside.buffer.octets kept held some in
    let items = c.append.ensures.octets ∙ ap (λ (t : List ℕ). t ++ take c.args.missing c.as_slice-piece.result.now) c.reserve.ensures.octets ∙ ap (λ (t : List ℕ). c.self.inside.buffer.octets ++ take c.args.missing t) c.as_slice-piece.ensures in
    let back = c.truncate.ensures.octets ∙ front_taken c.append.new.self.octets c.self.inside.buffer.octets (take c.args.missing c.args.octets.now) c.kept-count.result.now kept items same c.kept-count.ensures.value ∙ sym same in
    let at = in_joined kept c.args.octets.now c.lent.result (4 * c.args.header.doff) c.start-2.result c.args.header.size c.args.missing c.start-2.ensures (c.lent.ensures ∙ c.as_slice-joined.ensures ∙ items ∙ ap (λ (t : List ℕ). t ++ take c.args.missing c.args.octets.now) same) c.requires.whole c.requires.size in
    (refused _ c.args.header _ c.args.missing kept c.args.octets.now _ c.requires.begins c.requires.size c.requires.whole at c.in-Err.ensures, same_view c.self.inside.max_size c.self.inside.is_done c.self.inside.before c.truncate.new.self.octets c.self.inside.buffer.octets back ∙ ap view_state c.self.view_is)

pub returns-in-Ok-read_contents-clause-room : goal.returns-in-Ok-read_contents-clause-room
returns-in-Ok-read_contents-clause-room c =
    let some : 0 < length c.args.self.now.state.kept = omega (arith, c.requires.begins.low, c.requires.place) in
    omega (arith, joined_some c.args.self.now.state.kept c.args.missing some, ap view_room c.self.view_is, c.requires.size, c.in-Ok.ensures.made, c.append.ensures.room)

pub returns-in-Err-clause-room : goal.returns-in-Err-clause-room
returns-in-Err-clause-room c =
    let some : 0 < length c.args.self.now.state.kept = omega (arith, c.requires.begins.low, c.requires.place) in
    omega (arith, joined_some c.args.self.now.state.kept (length c.args.octets.now) some, ap view_room c.self.view_is, c.requires.size, c.requires.whole, c.in-Ok.ensures.made, c.append.ensures.room, c.truncate.ensures.room)
