use Rattle.std.proofs.Common.{subst, ℕ, arith, vec_capacity}
use Rattle.amqp_frames.specs.Stream.{Takes}
use Rattle.amqp_frames.proofs.Taken.{took_more, frame_ended, room_more, list_more, list_same}
use Rattle.amqp_frames.proofs.framer.Framer.feed_all.Goals as goal

pub returns-then-used-piece-clause-fed : goal.returns-then-used-piece-clause-fed
returns-then-used-piece-clause-fed c =
    let all = took_more _ _ _ _ _ _ _ _ _ c.loop-more.invariant.taken c.in-Ok.ensures.fed in
    (subst (λ (n : ℕ). Takes c.args.self.now.state c.args.piece.now c.args.frames.now.items n c.feed_front.new.self.state c.feed_front.new.frames.items) c.if-used-piece.true all.0, all.1)

pub returns-then-used-piece-clause-room : goal.returns-then-used-piece-clause-room
returns-then-used-piece-clause-room c =
    room_more c.args.self.now c.loop-more.self c.feed_front.new.self c.args.piece.now c.loop-more.used c.loop-more.invariant.taken.within c.loop-more.invariant.came c.loop-more.invariant.room c.in-Ok.ensures.room

pub returns-then-used-piece-clause-list : goal.returns-then-used-piece-clause-list
returns-then-used-piece-clause-list c =
    list_more c.loop-more.frames.items c.feed_front.new.frames.items c.in-Ok.ensures.fed.0.given (vec_capacity c.args.frames.now) (vec_capacity c.loop-more.frames) (vec_capacity c.feed_front.new.frames) c.in-Ok.ensures.fed.0.put c.loop-more.invariant.list c.in-Ok.ensures.list

pub returns-in-Err-clause-room : goal.returns-in-Err-clause-room
returns-in-Err-clause-room c =
    room_more c.args.self.now c.loop-more.self c.feed_front.new.self c.args.piece.now c.loop-more.used c.loop-more.invariant.taken.within c.loop-more.invariant.came c.loop-more.invariant.room c.in-Err.ensures.room

pub returns-in-Err-clause-list : goal.returns-in-Err-clause-list
returns-in-Err-clause-list c =
    list_same c.loop-more.frames.items c.feed_front.new.frames.items (vec_capacity c.args.frames.now) (vec_capacity c.loop-more.frames) (vec_capacity c.feed_front.new.frames) c.in-Err.ensures.fed.1 c.loop-more.invariant.list c.in-Err.ensures.list

pub loop-more-preserved : goal.loop-more-preserved
loop-more-preserved c = record {
  taken = (took_more _ _ _ _ _ _ _ _ _ c.loop-more.invariant.taken c.in-Ok.ensures.fed).0;
  front = frame_ended _ _ _ _ _ _ _ _ _ c.loop-more.invariant.taken c.in-Ok.ensures.fed c.if-used-piece.false;
  left = λ some. c.if-used-piece.false;
  came = omega (arith, c.loop-more.invariant.came, c.in-Ok.ensures.came);
  room = room_more c.args.self.now c.loop-more.self c.feed_front.new.self c.args.piece.now c.loop-more.used c.loop-more.invariant.taken.within c.loop-more.invariant.came c.loop-more.invariant.room c.in-Ok.ensures.room;
  list = list_more c.loop-more.frames.items c.feed_front.new.frames.items c.in-Ok.ensures.fed.0.given (vec_capacity c.args.frames.now) (vec_capacity c.loop-more.frames) (vec_capacity c.feed_front.new.frames) c.in-Ok.ensures.fed.0.put c.loop-more.invariant.list c.in-Ok.ensures.list;
}
