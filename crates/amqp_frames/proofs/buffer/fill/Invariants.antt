use Rattle.std.proofs.Common.{◌≡◌, ◌≤◌, ◌-◌, take}
use Rattle.std.specs.Vec.{vec_len, vec_capacity}
use Rattle.amqp_frames.proofs.buffer.fill.Given as goal

abbrev pub invariant-loop-place : goal.invariant-loop-place
invariant-loop-place l =
    (take (vec_len l.fn.place) l.place.items ≡ l.fn.place.items) × (vec_len l.fn.place ≤ vec_len l.place)
    × (vec_len l.place ≤ vec_capacity l.place) × (vec_capacity l.place ≡ vec_capacity l.fn.place)

abbrev pub decreases-loop-place : goal.decreases-loop-place
decreases-loop-place l = vec_capacity l.place - vec_len l.place
