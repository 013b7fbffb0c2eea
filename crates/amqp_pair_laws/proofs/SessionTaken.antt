-- The next frame is taken, where it is a begin, an end or a disposition.
use Rattle.std.proofs.Common.{◌≡◌, ℕ, false, Option, Some, List, [], refl, subst, IsOk}
use Rattle.amqp_performatives.specs.declared.performative.Performative.{Performative}
use Rattle.amqp_performatives.specs.declared.performative.Performative.TheVariants as heard
use Rattle.amqp_frames.specs.declared.frame.Frame.{Frame}
use Rattle.amqp_rules.specs.declared.config.Config.{Config}
use Rattle.amqp_rules.specs.Answer.{heard_answer}
use Rattle.amqp_laws.specs.declared.entry.Entry.{Entry}
use Rattle.amqp_laws.specs.Said.{own_in, body_heard, tells_windows}
use Rattle.amqp_laws.specs.At.{at}
use Rattle.amqp_laws.specs.Lawful.{next}
use Rattle.amqp_pair_laws.specs.Moves.{count, said_as}
use Rattle.amqp_pair_laws.specs.World.{World, hears, sends}
use Rattle.amqp_pair_laws.proofs.Sends.{Sending, Beside, begins as begins', flows, others, silent, step-sending, transfers}
use Rattle.amqp_pair_laws.proofs.Opens.{body-of}
use Rattle.amqp_pair_laws.proofs.Next.{Next, next-of, ready-by}
use Rattle.amqp_pair_laws.proofs.EndTaken.{end-taken}
use Rattle.amqp_pair_laws.proofs.DispositionTaken.{disposition-taken}
use Rattle.amqp_pair_laws.proofs.BeginTaken.{begin-next}
use Rattle.amqp_pair_laws.proofs.FrameKinds.{AreTaken, IsBegin, IsEnd, IsDisposition}

-- begins, ends and dispositions
abbrev IsOfSession : Option Performative → Type 0
IsOfSession (Some (heard.Begin b)) = Unit {0}
IsOfSession (Some (heard.End b)) = Unit {0}
IsOfSession (Some (heard.Disposition b)) = Unit {0}
IsOfSession _ = ⊥

session-taken : (ca cb : Config) (b : List Entry) (f : Frame) (x : Next ca cb b f) → Sending (at ca x.before) (next (at ca x.before) x.entry.step) (body_heard x.entry.step) (own_in x.entry.step) x.entry.reply
    → IsOfSession f.body → IsOk (heard_answer (at cb b) f)
session-taken ca cb b f x (silent q) of = let sent = x.sent in absurd (cc (q, sent))
session-taken ca cb b f x (transfers t payload deaf mapped room named carries' is) of =
    let body = body-of x.entry.reply.sent (heard.Transfer t) payload f is x.sent in
    absurd (subst (λ (o : Option Performative). IsOfSession o) body of)
session-taken ca cb b f x (flows w t mapped open' begun numbers is) of =
    let body = body-of x.entry.reply.sent (heard.Flow w) [] f is x.sent in
    absurd (subst (λ (o : Option Performative). IsOfSession o) body of)
session-taken ca cb b f x (begins' w deaf is-begin' unsent open' takes comes is) of =
    let body = body-of x.entry.reply.sent (heard.Begin w) [] f is x.sent in
    begin-next ca cb b f x w body unsent open'
session-taken ca cb b f x (others p payload t w beside is) of =
    let body = body-of x.entry.reply.sent p payload f is x.sent in
    by p w (subst (λ (o : Option Performative). IsOfSession o) body of) beside body
  where
    by : (p : Performative) → tells_windows (Some p) ≡ false → IsOfSession (Some p) → Beside (at ca x.before) (next (at ca x.before) x.entry.step) (body_heard x.entry.step) (own_in x.entry.step) p → f.body ≡ Some p → IsOk (heard_answer (at cb b) f)
    by (heard.Disposition d) tells of beside body = disposition-taken (at cb b) f d (ready-by ca cb b f x (beside.mapped refl)) body (beside.range d refl)
    by (heard.End e) tells of beside body = end-taken (at cb b) f e (ready-by ca cb b f x (beside.mapped refl)) body
    by (heard.Begin e) tells of beside body = absurd (cc (tells))
    by (heard.Flow e) tells of beside body = absurd (cc (tells))
    by p tells of beside body = absurd of

-- the next frame, where it is a begin, an end or a disposition, is no violation
session-frame-is-taken : (ca cb : Config) (n : ℕ) (a b : List Entry) (f : Frame) → World ca cb n a b → said_as sends (count hears b) a ≡ Some f → IsOfSession f.body → IsOk (heard_answer (at cb b) f)
session-frame-is-taken ca cb n a b f w waits of =
    let x = next-of ca cb n a b f w waits in
    session-taken ca cb b f x (step-sending (at ca x.before) x.entry.step x.entry.reply x.answers) of

pub begins-taken : AreTaken IsBegin
begins-taken ca cb n a b f w waits of = session-frame-is-taken ca cb n a b f w waits (by f.body of)
  where
    by : (body : Option Performative) → IsBegin body → IsOfSession body
    by (Some (heard.Begin b)) k = k
    by _ k = absurd k

pub ends-taken : AreTaken IsEnd
ends-taken ca cb n a b f w waits of = session-frame-is-taken ca cb n a b f w waits (by f.body of)
  where
    by : (body : Option Performative) → IsEnd body → IsOfSession body
    by (Some (heard.End b)) k = k
    by _ k = absurd k

pub dispositions-taken : AreTaken IsDisposition
dispositions-taken ca cb n a b f w waits of = session-frame-is-taken ca cb n a b f w waits (by f.body of)
  where
    by : (body : Option Performative) → IsDisposition body → IsOfSession body
    by (Some (heard.Disposition b)) k = k
    by _ k = absurd k
