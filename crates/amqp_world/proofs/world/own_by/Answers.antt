use Rattle.std.proofs.Common.{sym, ◌∙◌, subst}
use Rattle.amqp_laws.specs.Past.{past}
use Rattle.amqp_world.specs.declared.heard.Hearing.{Hearing}
use Rattle.amqp_world.specs.Knowing.{Meets}
use Rattle.amqp_world.proofs.Meeting.{ahead-by, keeps-by, own-meets, own-met}
use Rattle.amqp_world.proofs.world.own_by.Goals as goal

pub returns-then-reaches_ahead-clause-refusal : goal.returns-then-reaches_ahead-clause-refusal
returns-then-reaches_ahead-clause-refusal c = ahead-by c.args.hearing.now (past c.args.mine.now.journal) c.args.op.now c.requires (sym c.reaches_ahead.ensures ∙ c.if-reaches_ahead.true)

pub returns-in-Ok-clause-given : goal.returns-in-Ok-clause-given
returns-in-Ok-clause-given c = (keeps-by c.args.hearing.now (past c.args.mine.now.journal) c.args.op.now c.requires (sym c.reaches_ahead.ensures ∙ c.if-reaches_ahead.false), (sym c.resumes.ensures ∙ c.if-resumes.false), c.in-Ok.ensures.step)

pub returns-in-Ok-clause-meets : goal.returns-in-Ok-clause-meets
returns-in-Ok-clause-meets c =
    λ theirs m.
    subst (λ (h : Hearing). Meets h c.apply.new.self theirs) (sym c.own.ensures)
    (own-meets c.args.hearing.now c.args.mine.now c.apply.new.self theirs c.args.op.now c.in-Ok.given
    (keeps-by c.args.hearing.now (past c.args.mine.now.journal) c.args.op.now c.requires (sym c.reaches_ahead.ensures ∙ c.if-reaches_ahead.false)) (sym c.resumes.ensures ∙ c.if-resumes.false) c.op_fits.ensures c.in-Ok.ensures.step m)

pub returns-in-Ok-clause-met : goal.returns-in-Ok-clause-met
returns-in-Ok-clause-met c =
    λ h theirs m.
    own-met h c.args.mine.now c.apply.new.self theirs c.args.op.now c.in-Ok.given
    (keeps-by c.args.hearing.now (past c.args.mine.now.journal) c.args.op.now c.requires (sym c.reaches_ahead.ensures ∙ c.if-reaches_ahead.false)) (sym c.resumes.ensures ∙ c.if-resumes.false) c.op_fits.ensures c.in-Ok.ensures.step m

pub returns-in-Err-clause-refusal : goal.returns-in-Err-clause-refusal
returns-in-Err-clause-refusal c = (keeps-by c.args.hearing.now (past c.args.mine.now.journal) c.args.op.now c.requires (sym c.reaches_ahead.ensures ∙ c.if-reaches_ahead.false), (sym c.resumes.ensures ∙ c.if-resumes.false), c.in-Err.ensures.refusal)

pub returns-then-resumes-clause-refusal : goal.returns-then-resumes-clause-refusal
returns-then-resumes-clause-refusal c = (keeps-by c.args.hearing.now (past c.args.mine.now.journal) c.args.op.now c.requires (sym c.reaches_ahead.ensures ∙ c.if-reaches_ahead.false), sym c.resumes.ensures ∙ c.if-resumes.true)
