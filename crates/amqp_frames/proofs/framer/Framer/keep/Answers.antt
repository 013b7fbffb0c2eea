use Rattle.std.proofs.Common.{◌≡◌, ◌++◌, List, ℕ, length, take, arith, ap, ◌∙◌}
use Rattle.amqp_frames.proofs.Feeding.{kept_front, kept_view, sound_kept, sound_again, room_of, unfinished_of, view_max, view_kept, view_room}
use Rattle.amqp_frames.proofs.framer.Framer.keep.Goals as goal

pub invariant_of-self-2 : goal.invariant_of-self-2
invariant_of-self-2 c =
    let kept = c.args.self.now.state.kept in
    let held = ap view_kept c.self.view_is in
    let front : c.truncate.new.self.octets ≡ kept =
    c.truncate.ensures.octets ∙ ap (take (length c.kept-count.result.now)) c.in-Ok.ensures.octets ∙ ap (λ (t : List ℕ). take (length t) c.self.inside.buffer.octets) c.kept-count.ensures.value ∙ kept_front _ _ _ held in
    let items = c.append.ensures.octets ∙ ap (λ (t : List ℕ). t ++ c.as_slice-piece.result.now) front ∙ ap (λ (t : List ℕ). kept ++ t) c.as_slice-piece.ensures in
    sound_kept c.self.inside.max_size c.self.inside.buffer.room c.append.new.self.room (length c.kept-count.result.now) c.append.new.self.octets kept c.args.octets.now items (ap length c.kept-count.ensures.value) (room_of _ _ _ kept held c.self.invariant.now)
    (omega (arith, c.in-Ok.ensures.more, c.truncate.ensures.room, c.append.ensures.room)) (unfinished_of _ _ _ (ap view_max c.self.view_is) c.requires.unfinished) (λ n s. omega (arith, s, c.requires.size n, c.in-Ok.ensures.short, c.truncate.ensures.room, c.append.ensures.room))

pub returns-clause-fed : goal.returns-clause-fed
returns-clause-fed c slot =
    let kept = c.args.self.now.state.kept in
    let held = ap view_kept c.self.view_is in
    let front : c.truncate.new.self.octets ≡ kept =
    c.truncate.ensures.octets ∙ ap (take (length c.kept-count.result.now)) c.in-Ok.ensures.octets ∙ ap (λ (t : List ℕ). take (length t) c.self.inside.buffer.octets) c.kept-count.ensures.value ∙ kept_front _ _ _ held in
    let items = c.append.ensures.octets ∙ ap (λ (t : List ℕ). t ++ c.as_slice-piece.result.now) front ∙ ap (λ (t : List ℕ). kept ++ t) c.as_slice-piece.ensures in
    (ap length c.as_slice-piece.ensures, c.requires.unfinished, kept_view _ _ _ _ kept c.args.octets.now (ap view_max c.self.view_is) items (ap length c.kept-count.ensures.value))

pub returns-clause-room : goal.returns-clause-room
returns-clause-room c slot = omega (arith, ap length c.as_slice-piece.ensures, ap view_room c.self.view_is, ap length c.kept-count.ensures.value, c.in-Ok.ensures.bounded, c.truncate.ensures.room, c.append.ensures.room)

pub invariant_of-self : goal.invariant_of-self
invariant_of-self c = sound_again c.self.inside.max_size _ _ c.self.inside.is_done c.self.inside.before c.make_room.new.buffer.octets c.self.inside.buffer.octets c.make_room.ensures.octets c.make_room.ensures.more c.self.invariant
