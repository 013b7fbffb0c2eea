use Rattle.std.proofs.Common.{◌≢◌, ◌≤◌, ◌+◌, ◌*◌, ◌-◌, max, [], length, vec_capacity}
use Rattle.amqp_frames.specs.Stream.{Takes, EndsAFrame}
use Rattle.amqp_frames.proofs.framer.Framer.feed_all.Given as goal

abbrev pub invariant-loop-more : goal.invariant-loop-more
invariant-loop-more l = record {
  taken : Takes l.fn.self.state l.fn.piece l.fn.frames.items l.used l.self.state l.frames.items;
  front : EndsAFrame l.fn.self.state l.used l.self.state;
  left : l.fn.piece ≢ [] → l.used ≢ length l.fn.piece;
  came : length l.self.state.kept ≤ length l.fn.self.state.kept + l.used;
  room : l.self.room ≤ max l.fn.self.room (max 512 (2 * (length l.fn.self.state.kept + length l.fn.piece)));
  list : vec_capacity l.frames ≤ max (vec_capacity l.fn.frames) (max 4 (2 * length l.frames.items));
}

abbrev pub decreases-loop-more : goal.decreases-loop-more
decreases-loop-more l = length l.fn.piece - l.used
