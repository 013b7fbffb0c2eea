use Rattle.std.proofs.Common.{subst, Option, arith, refl}
use Rattle.std.specs.Prelude.{Ok}
use Rattle.amqp_frames.specs.declared.frame.Frame.{Frame}
use Rattle.amqp_frames.specs.Framer.{Feeds}
use Rattle.amqp_frames.proofs.Taken.{took_frame, took_all, no_room, asked_within, came_within, unread_room}
use Rattle.amqp_frames.proofs.framer.Framer.feed_front.Goals as goal

pub returns-in-Ok-clause-fed : goal.returns-in-Ok-clause-fed
returns-in-Ok-clause-fed c =
    took_frame c.args.self.now.state c.feed.new.self.state c.args.piece.now c.in-Ok-default-Some.used c.in-Ok-default-Some.frame c.args.frames.now.items c.push.new.frames.items
    (subst (λ (o : Option Frame). Feeds c.args.self.now.state c.args.piece.now (Ok (c.in-Ok-default-Some.used, o)) c.feed.new.self.state) c.in-Ok-default-Some.field-0-1-is c.in-Ok-default-Some.ensures.fed) c.in-Ok.ensures.items

pub returns-in-Err-push-clause-fed : goal.returns-in-Err-push-clause-fed
returns-in-Err-push-clause-fed c =
    no_room c.args.self.now.state c.feed.new.self c.unread.new.self c.args.piece.now c.in-Ok-default-Some.used c.in-Ok-default-Some.frame c.args.frames.now.items c.push.new.frames.items
    (subst (λ (o : Option Frame). Feeds c.args.self.now.state c.args.piece.now (Ok (c.in-Ok-default-Some.used, o)) c.feed.new.self.state) c.in-Ok-default-Some.field-0-1-is c.in-Ok-default-Some.ensures.fed) c.in-Err-push.ensures.items
    c.unread.ensures

pub returns-in-Ok-default-None-clause-fed : goal.returns-in-Ok-default-None-clause-fed
returns-in-Ok-default-None-clause-fed c = took_all c.args.self.now.state c.feed.new.self.state c.args.piece.now c.in-Ok-default-None.used c.args.frames.now.items
    (subst (λ (o : Option Frame). Feeds c.args.self.now.state c.args.piece.now (Ok (c.in-Ok-default-None.used, o)) c.feed.new.self.state) c.in-Ok-default-None.field-0-1-is c.in-Ok-default-None.ensures.fed)

pub returns-in-Ok-clause-room : goal.returns-in-Ok-clause-room
returns-in-Ok-clause-room c = omega (arith, c.feed.ensures.room, asked_within c.args.self.now.state c.feed.new.self.state c.args.piece.now c.feed.result c.feed.ensures.fed)

pub returns-in-Err-push-clause-room : goal.returns-in-Err-push-clause-room
returns-in-Err-push-clause-room c =
    let fed = subst (λ (o : Option Frame). Feeds c.args.self.now.state c.args.piece.now (Ok (c.in-Ok-default-Some.used, o)) c.feed.new.self.state) c.in-Ok-default-Some.field-0-1-is c.in-Ok-default-Some.ensures.fed in
    omega (arith, c.feed.ensures.room, asked_within c.args.self.now.state c.feed.new.self.state c.args.piece.now c.feed.result c.feed.ensures.fed, unread_room c.feed.new.self c.unread.new.self c.args.self.now.state fed.3 c.feed.new.self.state.before refl c.unread.ensures)

pub returns-in-Ok-default-None-clause-room : goal.returns-in-Ok-default-None-clause-room
returns-in-Ok-default-None-clause-room c = omega (arith, c.feed.ensures.room, asked_within c.args.self.now.state c.feed.new.self.state c.args.piece.now c.feed.result c.feed.ensures.fed)

pub returns-in-Err-clause-room : goal.returns-in-Err-clause-room
returns-in-Err-clause-room c = omega (arith, c.feed.ensures.room, asked_within c.args.self.now.state c.feed.new.self.state c.args.piece.now c.feed.result c.feed.ensures.fed)

pub returns-in-Ok-clause-came : goal.returns-in-Ok-clause-came
returns-in-Ok-clause-came c = came_within c.args.self.now.state c.feed.new.self.state c.args.piece.now _ _ c.in-Ok-default-Some.ensures.fed

pub returns-in-Ok-default-None-clause-came : goal.returns-in-Ok-default-None-clause-came
returns-in-Ok-default-None-clause-came c = came_within c.args.self.now.state c.feed.new.self.state c.args.piece.now _ _ c.in-Ok-default-None.ensures.fed
