use Rattle.std.proofs.Common.{refl, subst, sym}
use Rattle.amqp_world.specs.declared.heard.Hearing.{Hearing}
use Rattle.amqp_world.specs.Knowing.{Meets}
use Rattle.amqp_world.proofs.Finding.{Found, found, full-told, memory-told, no-other, room-there, some-waits, told}
use Rattle.amqp_world.proofs.Meeting.{heard-meets, heard-met}
use Rattle.amqp_world.proofs.world.hear_from.Goals as goal

pub hear-requires-clause-frames : goal.hear-requires-clause-frames
hear-requires-clause-frames c =
    let h = record c.args.hearing.now { place = c.next_frame.new.place } in
    let x : Found h c.args.mine.now c.args.theirs.now c.in-Some.frame.now =
    found c.args.hearing.now c.next_frame.new.place c.args.mine.now c.args.theirs.now c.whole.result.now c.in-Some.frame.now c.requires c.whole.ensures c.in-Some.ensures.next c.in-Some.ensures.within c.in-Some.ensures.all c.in-Some.ensures.there in
    (room-there h c.args.mine.now c.receive.new.self c.args.theirs.now c.in-Some.frame.now c.in-Ok.given x c.in-Ok.ensures.step).frames

pub hear-requires-clause-firsts : goal.hear-requires-clause-firsts
hear-requires-clause-firsts c =
    let h = record c.args.hearing.now { place = c.next_frame.new.place } in
    let x : Found h c.args.mine.now c.args.theirs.now c.in-Some.frame.now =
    found c.args.hearing.now c.next_frame.new.place c.args.mine.now c.args.theirs.now c.whole.result.now c.in-Some.frame.now c.requires c.whole.ensures c.in-Some.ensures.next c.in-Some.ensures.within c.in-Some.ensures.all c.in-Some.ensures.there in
    (room-there h c.args.mine.now c.receive.new.self c.args.theirs.now c.in-Some.frame.now c.in-Ok.given x c.in-Ok.ensures.step).firsts

pub unreachable-requires : goal.unreachable-requires
unreachable-requires c =
    let h = record c.args.hearing.now { place = c.next_frame.new.place } in
    let x : Found h c.args.mine.now c.args.theirs.now c.in-Some.frame.now =
    found c.args.hearing.now c.next_frame.new.place c.args.mine.now c.args.theirs.now c.whole.result.now c.in-Some.frame.now c.requires c.whole.ensures c.in-Some.ensures.next c.in-Some.ensures.within c.in-Some.ensures.all c.in-Some.ensures.there in
    no-other c.args.mine.now c.in-Err.violation c.in-Err.violation.kind (told c.laws.ensures.taken h c.args.mine.now c.args.theirs.now c.in-Some.frame.now c.in-Err.violation x c.in-Err.ensures.violation) refl c.in_default-kind.not-JournalFull c.in_default-kind.not-NoMemory

pub returns-in-Ok-clause-meets : goal.returns-in-Ok-clause-meets
returns-in-Ok-clause-meets c =
    let h = record c.args.hearing.now { place = c.next_frame.new.place } in
    let x : Found h c.args.mine.now c.args.theirs.now c.in-Some.frame.now =
    found c.args.hearing.now c.next_frame.new.place c.args.mine.now c.args.theirs.now c.whole.result.now c.in-Some.frame.now c.requires c.whole.ensures c.in-Some.ensures.next c.in-Some.ensures.within c.in-Some.ensures.all c.in-Some.ensures.there in
    subst (λ (k : Hearing). Meets k c.receive.new.self c.args.theirs.now) (sym c.hear.ensures) (heard-meets h c.args.mine.now c.receive.new.self c.args.theirs.now c.in-Some.frame.now c.in-Ok.given x.waits c.body_fits.ensures x.there c.in-Ok.ensures.step x.meets)

pub returns-in-Ok-clause-met : goal.returns-in-Ok-clause-met
returns-in-Ok-clause-met c =
    let h = record c.args.hearing.now { place = c.next_frame.new.place } in
    let x : Found h c.args.mine.now c.args.theirs.now c.in-Some.frame.now =
    found c.args.hearing.now c.next_frame.new.place c.args.mine.now c.args.theirs.now c.whole.result.now c.in-Some.frame.now c.requires c.whole.ensures c.in-Some.ensures.next c.in-Some.ensures.within c.in-Some.ensures.all c.in-Some.ensures.there in
    λ k m. heard-met k c.args.mine.now c.receive.new.self c.args.theirs.now c.in-Some.frame.now c.in-Ok.given x.waits c.body_fits.ensures c.in-Ok.ensures.step m

pub returns-in-JournalFull-clause-refusal : goal.returns-in-JournalFull-clause-refusal
returns-in-JournalFull-clause-refusal c =
    let h = record c.args.hearing.now { place = c.next_frame.new.place } in
    let x : Found h c.args.mine.now c.args.theirs.now c.in-Some.frame.now =
    found c.args.hearing.now c.next_frame.new.place c.args.mine.now c.args.theirs.now c.whole.result.now c.in-Some.frame.now c.requires c.whole.ensures c.in-Some.ensures.next c.in-Some.ensures.within c.in-Some.ensures.all c.in-Some.ensures.there in
    (some-waits h c.args.mine.now c.args.theirs.now c.in-Some.frame.now x, full-told c.args.mine.now c.in-Err.violation (told c.laws.ensures.taken h c.args.mine.now c.args.theirs.now c.in-Some.frame.now c.in-Err.violation x c.in-Err.ensures.violation) c.in-JournalFull.is)

pub returns-in-NoMemory-clause-refusal : goal.returns-in-NoMemory-clause-refusal
returns-in-NoMemory-clause-refusal c =
    let h = record c.args.hearing.now { place = c.next_frame.new.place } in
    let x : Found h c.args.mine.now c.args.theirs.now c.in-Some.frame.now =
    found c.args.hearing.now c.next_frame.new.place c.args.mine.now c.args.theirs.now c.whole.result.now c.in-Some.frame.now c.requires c.whole.ensures c.in-Some.ensures.next c.in-Some.ensures.within c.in-Some.ensures.all c.in-Some.ensures.there in
    (some-waits h c.args.mine.now c.args.theirs.now c.in-Some.frame.now x, memory-told c.args.mine.now c.in-Err.violation (told c.laws.ensures.taken h c.args.mine.now c.args.theirs.now c.in-Some.frame.now c.in-Err.violation x c.in-Err.ensures.violation) c.in-NoMemory.is)
