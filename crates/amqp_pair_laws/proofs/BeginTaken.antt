-- A begin is taken.
use Rattle.std.proofs.Common.{◌≡◌, true, false, Some, List, ◌∷◌, refl, ap, ◌∙◌, IsOk}
use Rattle.amqp_performatives.specs.declared.bodies.BeginBody.{BeginBody}
use Rattle.amqp_performatives.specs.declared.performative.Performative.TheVariants as heard
use Rattle.amqp_frames.specs.declared.frame.Frame.{Frame}
use Rattle.amqp_rules.specs.declared.config.Config.{Config}
use Rattle.amqp_rules.specs.View.{View, is_over}
use Rattle.amqp_rules.specs.Answer.{heard_answer}
use Rattle.amqp_rules.proofs.Listed.{by-bool}
use Rattle.amqp_laws.specs.declared.entry.Entry.{Entry}
use Rattle.amqp_laws.specs.Past.{some_entry}
use Rattle.amqp_laws.specs.Said.{ends, hears_begin, hears_end}
use Rattle.amqp_laws.specs.Live.{live}
use Rattle.amqp_laws.specs.Session.{session_at}
use Rattle.amqp_laws.specs.At.{at}
use Rattle.amqp_laws.specs.Lawful.{next}
use Rattle.amqp_laws.proofs.Sound.{law}
use Rattle.amqp_pair_laws.proofs.Plain.{is-due}
use Rattle.amqp_pair_laws.specs.World.{IsFair, hears, sends}
use Rattle.amqp_pair_laws.proofs.Lag as lag
use Rattle.amqp_pair_laws.proofs.Opens.{good}
use Rattle.amqp_pair_laws.proofs.Phases.{ended-heard, over-stays, phases-known}
use Rattle.amqp_pair_laws.proofs.Next.{Next}

begin-taken : (v : View) (f : Frame) (w : BeginBody) → f.body ≡ Some (heard.Begin w) → v.session.begin_heard ≡ false → v.session.end_sent ≡ false → v.session.end_heard ≡ false → IsOk (heard_answer v f)
begin-taken v f w is fresh unsent unheard' = rw (is, fresh, unsent, unheard') refl

-- a's first begin is b's first
pub begin-next : (ca cb : Config) (b : List Entry) (f : Frame) (x : Next ca cb b f) (w : BeginBody) → f.body ≡ Some (heard.Begin w) → (at ca x.before).session.begin_sent ≡ false
    → is_over (next (at ca x.before) x.entry.step).session ≡ false → IsOk (heard_answer (at cb b) f)
begin-next ca cb b f x w body unsent open' =
    let p = phases-known ca cb x.moves x.before b x.tight in
    let t = x.tight in
    let ga = good ca cb x.moves x.before b t.world in
    let gb = good cb ca x.moves b x.before (lag.swapped sends hears IsFair ca cb x.moves x.before b t.world) in
    let l = law ca x.before x.entry ga.replayed ga.few (is-due (at ca x.before) x.entry.step x.entry.reply x.answers) in
    let fresh : some_entry hears_begin (live b) ≡ false = p.begun ∙ unsent in
    let unsent' : some_entry ends (live b) ≡ false =
    by-bool (some_entry ends (live b)) (λ (h : some_entry ends (live b) ≡ true). let k = ended-heard cb b gb.replayed h in absurd (cc (k, fresh))) (λ (h : some_entry ends (live b) ≡ false). h) in
    let unheard' : some_entry hears_end (live b) ≡ false =
    by-bool (some_entry hears_end (live b))
    (λ (h : some_entry hears_end (live b) ≡ true).
    let over : is_over (session_at (live (x.entry ∷ x.before))) ≡ true = over-stays x.entry x.before (p.ended h) in
    let still : is_over (session_at (live (x.entry ∷ x.before))) ≡ false = ap (λ (v : View). is_over v.session) l ∙ open' in
    absurd (cc (over, still)))
    (λ (h : some_entry hears_end (live b) ≡ false). h) in
    begin-taken (at cb b) f w body fresh unsent' unheard'
