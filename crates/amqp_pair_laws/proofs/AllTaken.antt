-- Each frame that comes next is taken.
use Rattle.std.proofs.Common.{◌≡◌, true, false, Option, Some, None, [], refl, sym, ap, ◌∙◌, subst, IsOk}
use Rattle.amqp_performatives.specs.declared.performative.Performative.{Performative}
use Rattle.amqp_performatives.specs.declared.performative.Performative.TheVariants as heard
use Rattle.amqp_frames.specs.declared.frame.Frame.{Frame}
use Rattle.amqp_rules.specs.declared.op.Op.{Op}
use Rattle.amqp_rules.specs.declared.reply.Reply.{Reply}
use Rattle.amqp_rules.specs.View.{View}
use Rattle.amqp_laws.specs.Said.{body_heard, own_in}
use Rattle.amqp_laws.specs.At.{at}
use Rattle.amqp_laws.specs.Lawful.{next}
use Rattle.amqp_rules.specs.Answer.{heard_answer}
use Rattle.amqp_pair_laws.specs.World.{frame_among}
use Rattle.amqp_pair_laws.specs.Taken.{NextIsTaken}
use Rattle.amqp_pair_laws.proofs.FrameKinds.{AreTaken, IsAttach, IsBegin, IsDetach, IsDisposition, IsEnd, IsFlow, IsTransfer}
use Rattle.amqp_pair_laws.proofs.Sends.{Sending, begins, flows, is_spoken, others, silent, step-sending, transfers}
use Rattle.amqp_pair_laws.proofs.Opens.{body-of}
use Rattle.amqp_pair_laws.proofs.Next.{next-of}
use Rattle.amqp_pair_laws.proofs.SessionTaken.{begins-taken, dispositions-taken, ends-taken}
use Rattle.amqp_pair_laws.proofs.AttachTaken.{attaches-taken}
use Rattle.amqp_pair_laws.proofs.DetachTaken.{detaches-taken}
use Rattle.amqp_pair_laws.proofs.LinkFlowTaken.{flows-taken}
use Rattle.amqp_pair_laws.proofs.TagFree.{transfers-taken}

-- what is sent is of the session
is-spoken : (v after : View) (heard' : Option Performative) (op : Option Op) (reply : Reply) (f : Frame) → Sending v after heard' op reply → frame_among reply.sent ≡ Some f → is_spoken f.body ≡ true
is-spoken v after heard' op reply f (silent q) sent = absurd (cc (q, sent))
is-spoken v after heard' op reply f (transfers t payload deaf mapped room named carries' is) sent = ap is_spoken (body-of reply.sent (heard.Transfer t) payload f is sent)
is-spoken v after heard' op reply f (flows w t mapped open' begun numbers is) sent = ap is_spoken (body-of reply.sent (heard.Flow w) [] f is sent)
is-spoken v after heard' op reply f (begins w deaf is-begin unsent open' takes comes is) sent = ap is_spoken (body-of reply.sent (heard.Begin w) [] f is sent)
is-spoken v after heard' op reply f (others p payload t w beside is) sent = ap is_spoken (body-of reply.sent p payload f is sent) ∙ beside.spoken

-- the next frame is no violation
pub next-taken : NextIsTaken
next-taken ca cb n a b f w waits =
    let x = next-of ca cb n a b f w waits in
    by f.body refl (is-spoken (at ca x.before) (next (at ca x.before) x.entry.step) (body_heard x.entry.step) (own_in x.entry.step) x.entry.reply f (step-sending (at ca x.before) x.entry.step x.entry.reply x.answers) x.sent)
  where
    of : (Kind : Option Performative → Type 0) (body : Option Performative) → f.body ≡ body → Kind body → AreTaken Kind → IsOk (heard_answer (at cb b) f)
    of Kind body e k taken = taken ca cb n a b f w waits (subst (λ (o : Option Performative). Kind o) (sym e) k)

    by : (body : Option Performative) → f.body ≡ body → is_spoken f.body ≡ true → IsOk (heard_answer (at cb b) f)
    by (Some (heard.Begin p)) e s = of IsBegin (Some (heard.Begin p)) e tt begins-taken
    by (Some (heard.Attach p)) e s = of IsAttach (Some (heard.Attach p)) e tt attaches-taken
    by (Some (heard.Flow p)) e s = of IsFlow (Some (heard.Flow p)) e tt flows-taken
    by (Some (heard.Transfer p)) e s = of IsTransfer (Some (heard.Transfer p)) e tt transfers-taken
    by (Some (heard.Disposition p)) e s = of IsDisposition (Some (heard.Disposition p)) e tt dispositions-taken
    by (Some (heard.Detach p)) e s = of IsDetach (Some (heard.Detach p)) e tt detaches-taken
    by (Some (heard.End p)) e s = of IsEnd (Some (heard.End p)) e tt ends-taken
    by (Some (heard.Open p)) e s = let k : is_spoken f.body ≡ false = ap is_spoken e in absurd (cc (k, s))
    by (Some (heard.Close p)) e s = let k : is_spoken f.body ≡ false = ap is_spoken e in absurd (cc (k, s))
    by None e s = let k : is_spoken f.body ≡ false = ap is_spoken e in absurd (cc (k, s))
