-- The phases of two sessions: an end has heard of the other's begin and end what was sent; so no frame comes out of session.
use Rattle.std.proofs.Common.{◌≡◌, ℕ, ◌&&◌, ◌||◌, Bool, true, false, not, cond, Option, Some, None, Ok, List, [], ◌∷◌, refl, sym, ap, ◌∙◌, is_some}
use Rattle.amqp_performatives.specs.declared.bodies.BeginBody.{BeginBody}
use Rattle.amqp_performatives.specs.declared.performative.Performative.{Performative}
use Rattle.amqp_performatives.specs.declared.performative.Performative.TheVariants as heard
use Rattle.amqp_frames.specs.declared.frame.Frame.{Frame}
use Rattle.amqp_rules.specs.declared.config.Config.{Config}
use Rattle.amqp_rules.specs.declared.op.Op.{Op}
use Rattle.amqp_rules.specs.declared.op.Op.TheVariants as own
use Rattle.amqp_rules.specs.declared.reply.Given.TheVariants as given
use Rattle.amqp_rules.specs.declared.refusal.Refusal.TheVariants as refusal
use Rattle.amqp_events.specs.Event.{Over}
use Rattle.amqp_rules.specs.Deliveries.{ended_by}
use Rattle.amqp_rules.specs.Begin.{begin_body, begin_refusals}
use Rattle.amqp_rules.specs.End.{end_body}
use Rattle.amqp_rules.specs.declared.reply.Reply.{Reply}
use Rattle.amqp_rules.specs.declared.reply.Sent.{Sent}
use Rattle.amqp_rules.specs.View.{View, is_mapped, is_over}
use Rattle.amqp_rules.specs.Sending.{sent_of}
use Rattle.amqp_rules.specs.Answer.{is_end, own_answer}
use Rattle.amqp_rules.proofs.Accepted.{not-false, sends-ok, sends-ending-ok}
use Rattle.amqp_rules.proofs.Listed.{by-bool}
use Rattle.amqp_laws.specs.declared.entry.Entry.{Entry}
use Rattle.amqp_laws.specs.declared.entry.Step.{Step}
use Rattle.amqp_laws.specs.declared.entry.Step.TheVariants.{Opened, Own, Heard}
use Rattle.amqp_laws.specs.Past.{some_entry}
use Rattle.amqp_laws.specs.Said.{own_in, is_begin, is_own_end, begin_in, begins, body_heard, ends, hears_begin, hears_end, hears_no_end, tells_windows}
use Rattle.amqp_laws.specs.Live.{live}
use Rattle.amqp_laws.specs.Session.{session_at}
use Rattle.amqp_laws.specs.At.{at}
use Rattle.amqp_laws.specs.Lawful.{IsReplayed, next}
use Rattle.amqp_laws.specs.Lawful as lawful
use Rattle.amqp_laws.proofs.Sound.{law}
use Rattle.amqp_laws.proofs.Twice.{and-both}
use Rattle.amqp_pair_laws.proofs.Plain.{Answers, OwnAnswers, due}
use Rattle.amqp_pair_laws.specs.World.{IsFair, Tight, frame_among, hears, sends}
use Rattle.amqp_pair_laws.proofs.Lag as lag
use Rattle.amqp_pair_laws.proofs.Sends.{Sending, begins as begins', flows, others, silent, step-sending, transfers}
use Rattle.amqp_pair_laws.proofs.Opens.{body-of, deaf-body, good, heard-begun, heard-body}
use Rattle.amqp_pair_laws.proofs.Windows.{or-true, sender-lives}

-- # One journal

own-begin : (v : View) (op : Op) (reply : Reply) → OwnAnswers v op reply → is_begin (Some op) ≡ true → (b : BeginBody) × (reply.sent ≡ sent_of (Some (heard.Begin b)) [] ∷ [])
own-begin v own.Begin reply h is =
    let s = sends-ok v.max_frame (begin_refusals v) (begin_body v) [] given.Nothing reply h in
    (_, ap (λ (r : Reply). r.sent) (sym s.replies))
own-begin v _ reply h is = absurd (cc)

begin-of : (v : View) (step : Step) (reply : Reply) → Answers v step reply → is_begin (own_in step) ≡ true → (b : BeginBody) × (reply.sent ≡ sent_of (Some (heard.Begin b)) [] ∷ [])
begin-of v (Opened told) reply h is = absurd (cc)
begin-of v (Own op) reply h is = own-begin v op reply h is
begin-of v (Heard f) reply h is = absurd (cc)

-- what sends another frame, or none, is no begin
no-begin : (v : View) (step : Step) (reply : Reply) → Answers v step reply → ((b : BeginBody) → reply.sent ≡ sent_of (Some (heard.Begin b)) [] ∷ [] → ⊥) → is_begin (own_in step) ≡ false
no-begin v step reply h other =
    by-bool (is_begin (own_in step)) (λ (t : is_begin (own_in step) ≡ true). let k = begin-of v step reply h t in absurd (other k.0 k.1)) (λ (f : is_begin (own_in step) ≡ false). f)

-- the frame that is sent is no begin
other-frame : (sent : List Sent) (b : BeginBody) (f : Frame) → frame_among sent ≡ Some f → begin_in f.body ≡ None → sent ≡ sent_of (Some (heard.Begin b)) [] ∷ [] → ⊥
other-frame sent b f h none is =
    let body = body-of sent (heard.Begin b) [] f is h in
    let found : begin_in f.body ≡ Some b = ap begin_in body in
    absurd (cc (none, found))

own-end : (v : View) (op : Op) (reply : Reply) → own_answer v op ≡ Ok reply → is_own_end (Some op) ≡ true → is_mapped v.session ≡ true
own-end v (own.End error) reply h is =
    let s = sends-ending-ok v.max_frame ((not (is_mapped v.session), refusal.NotMapped) ∷ []) (end_body error) (ended_by Over Over v) given.Nothing reply h in
    not-false (is_mapped v.session) s.none_holds.0
own-end v _ reply h is = absurd (cc)

end-mapped : (v : View) (step : Step) (reply : Reply) → lawful.Answers v step reply → is_own_end (own_in step) ≡ true → is_mapped v.session ≡ true
end-mapped v (Opened told) reply h is = absurd (cc)
end-mapped v (Own op) reply h is = own-end v op reply h is
end-mapped v (Heard f) reply h is = absurd (cc)

-- the peer's begin was heard where we have ended the session
pub ended-heard : (c : Config) (past : List Entry) → IsReplayed c past → some_entry ends (live past) ≡ true → some_entry hears_begin (live past) ≡ true
ended-heard c [] h is = absurd (cc (is))
ended-heard c (e ∷ before) h is = by (some_entry ends (live before) && hears_no_end e.step) (ended-heard c before h.0) is
  where
    by : (dropped : Bool) → (some_entry ends (live before) ≡ true → some_entry hears_begin (live before) ≡ true)
        → some_entry ends (cond dropped (live before) (e ∷ live before)) ≡ true → some_entry hears_begin (cond dropped (live before) (e ∷ live before)) ≡ true
    by true earlier is = earlier is
    by false earlier is =
        let here : some_entry hears_begin (live before) ≡ true =
        by-bool (ends e)
        (λ (t : ends e ≡ true). heard-begun (at c before).session (end-mapped (at c before) e.step e.reply h.1 t))
        (λ (f : ends e ≡ false). earlier (let k = rw f at is in k)) in
        rw here (or-true (hears_begin e))

pub over-stays : (e : Entry) (past : List Entry) → is_over (session_at (live past)) ≡ true → is_over (session_at (live (e ∷ past))) ≡ true
over-stays e past h = by (some_entry ends (live past) && hears_no_end e.step)
  where
    parts : (a b c d : Bool) → b || d ≡ true → (a || b) || (c || d) ≡ true
    parts true b c d h = refl
    parts false true c d h = refl
    parts false false true d h = refl
    parts false false false d h = h

    by : (dropped : Bool) → is_over (session_at (cond dropped (live past) (e ∷ live past))) ≡ true
    by true = h
    by false = parts (ends e) (some_entry ends (live past)) (hears_end e) (some_entry hears_end (live past)) h

-- # What is claimed

pub record Phases (x y : List Entry) : Type 0 where
  pub begun : some_entry hears_begin y ≡ some_entry begins x
  pub ended : some_entry hears_end y ≡ true → is_over (session_at x) ≡ true

abbrev pub PhasesAgree : Config → Config → List Entry → List Entry → Type 0
PhasesAgree ca cb a b = Phases (live a) (live b)

phases-quiet : (ca cb : Config) (e : Entry) (a b : List Entry) → begins e ≡ false → PhasesAgree ca cb a b → PhasesAgree ca cb (e ∷ a) b
phases-quiet ca cb e a b none k =
    record { begun = k.begun ∙ by (some_entry ends (live a) && hears_no_end e.step); ended = λ h. over-stays e a (k.ended h) }
  where
    by : (dropped : Bool) → some_entry begins (live a) ≡ some_entry begins (cond dropped (live a) (e ∷ live a))
    by true = refl
    by false = rw none refl

phases-ahead : (ca cb : Config) (e : Entry) (a b : List Entry) → body_heard e.step ≡ None → PhasesAgree ca cb a b → PhasesAgree ca cb a (e ∷ b)
phases-ahead ca cb e a b none k = by (some_entry ends (live b) && hears_no_end e.step)
  where
    by : (dropped : Bool) → Phases (live a) (cond dropped (live b) (e ∷ live b))
    by true = k
    by false = record { begun = rw none k.begun; ended = rw none k.ended }

-- a frame passes that is no begin; it may be an end, by which a's session is over
phases-other : (ca cb : Config) (e : Entry) (a : List Entry) (e' : Entry) (b : List Entry) (body : Option Performative) → begins e ≡ false → body_heard e'.step ≡ body → is_some (begin_in body) ≡ false
    → (is_end body ≡ true → is_over (session_at (live (e ∷ a))) ≡ true) → PhasesAgree ca cb a b → PhasesAgree ca cb (e ∷ a) (e' ∷ b)
phases-other ca cb e a e' b body none hears other over k = by (some_entry ends (live b) && hears_no_end e'.step)
  where
    before : Phases (live (e ∷ a)) (live b)
    before = phases-quiet ca cb e a b none k

    either : (p q : Bool) {P : Type 0} → (p ≡ true → P) → (q ≡ true → P) → p || q ≡ true → P
    either true q l r h = l refl
    either false q l r h = r h

    by : (dropped : Bool) → Phases (live (e ∷ a)) (cond dropped (live b) (e' ∷ live b))
    by true = before
    by false =
        record {
          begun = rw (hears, other) before.begun;
          ended = either (hears_end e') (some_entry hears_end (live b)) (λ h. over (let k = rw hears at h in k)) before.ended;
        }

phases-begin : (ca cb : Config) (e : Entry) (a : List Entry) (e' : Entry) (b : List Entry) (w : BeginBody) → begins e ≡ true → some_entry begins (live a) ≡ false → live (e ∷ a) ≡ e ∷ live a
    → body_heard e'.step ≡ Some (heard.Begin w) → (some_entry ends (live b) ≡ true → some_entry hears_begin (live b) ≡ true) → PhasesAgree ca cb a b → PhasesAgree ca cb (e ∷ a) (e' ∷ b)
phases-begin ca cb e a e' b w is unsent go hears ended k =
    by (some_entry ends (live b) && hears_no_end e'.step) (λ h. (and-both (some_entry ends (live b)) (hears_no_end e'.step) h).0)
  where
    sent : some_entry begins (live (e ∷ a)) ≡ true
    sent = ap (some_entry begins) go ∙ rw is refl

    by : (dropped : Bool) → (dropped ≡ true → some_entry ends (live b) ≡ true) → Phases (live (e ∷ a)) (cond dropped (live b) (e' ∷ live b))
    by true over =
        let heard-it = ended (over refl) in
        let same = k.begun in
        absurd (cc (heard-it, same, unsent))
    by false over = record { begun = rw hears (sym sent); ended = rw hears (λ h. over-stays e a (k.ended h)) }

phases-pass : (ca cb : Config) (e : Entry) (a : List Entry) (e' : Entry) (b : List Entry) (f : Frame)
    → Sending (at ca a) (next (at ca a) e.step) (body_heard e.step) (own_in e.step) e.reply → Answers (at ca a) e.step e.reply
    → at ca (e ∷ a) ≡ next (at ca a) e.step → live (e ∷ a) ≡ e ∷ live a → IsReplayed cb b → frame_among e.reply.sent ≡ Some f → body_heard e'.step ≡ f.body
    → PhasesAgree ca cb a b → PhasesAgree ca cb (e ∷ a) (e' ∷ b)
phases-pass ca cb e a e' b f (silent q) ans l go rb sent hb k = absurd (cc (q, sent))
phases-pass ca cb e a e' b f (transfers t payload deaf mapped room named carries' is) ans l go rb sent hb k =
    let body = body-of e.reply.sent (heard.Transfer t) payload f is sent in
    let none : begin_in f.body ≡ None = ap begin_in body in
    let no' = no-begin (at ca a) e.step e.reply ans (λ w same. other-frame e.reply.sent w f sent none same) in
    phases-other ca cb e a e' b (Some (heard.Transfer t)) no' (hb ∙ body) refl (λ h. absurd (cc (h))) k
phases-pass ca cb e a e' b f (flows w t mapped open' begun numbers is) ans l go rb sent hb k =
    let body = body-of e.reply.sent (heard.Flow w) [] f is sent in
    let none : begin_in f.body ≡ None = ap begin_in body in
    let no' = no-begin (at ca a) e.step e.reply ans (λ w same. other-frame e.reply.sent w f sent none same) in
    phases-other ca cb e a e' b (Some (heard.Flow w)) no' (hb ∙ body) refl (λ h. absurd (cc (h))) k
phases-pass ca cb e a e' b f (begins' w deaf is-begin' unsent open' takes comes is) ans l go rb sent hb k =
    let body = body-of e.reply.sent (heard.Begin w) [] f is sent in
    phases-begin ca cb e a e' b w is-begin' unsent go (hb ∙ body) (ended-heard cb b rb) k
phases-pass ca cb e a e' b f (others p payload t w beside is) ans l go rb sent hb k =
    let body = body-of e.reply.sent p payload f is sent in
    let quiet' : begin_in (Some p) ≡ None = no-windows p w in
    let none : begin_in f.body ≡ None = ap begin_in body ∙ quiet' in
    let no' = no-begin (at ca a) e.step e.reply ans (λ w same. other-frame e.reply.sent w f sent none same) in
    let plain : is_some (begin_in (Some p)) ≡ false = rw quiet' refl in
    phases-other ca cb e a e' b (Some p) no' (hb ∙ body) plain (λ h. ap (λ (v : View). is_over v.session) l ∙ beside.ends h) k
  where
    no-windows : (p : Performative) → tells_windows (Some p) ≡ false → begin_in (Some p) ≡ None
    no-windows (heard.Begin b) h = absurd (cc)
    no-windows p h = refl

phases-kept : lag.IsKept sends hears IsFair PhasesAgree
phases-kept =
    record {
      starts = λ ca cb. record { begun = refl; ended = λ h. absurd (cc (h)) };
      quiet = λ ca cb n e a b known w t m quiet k. phases-quiet ca cb e a b (no-begin (at ca a) e.step e.reply (due m.fair) (λ w same. silent-other e.reply.sent w quiet same)) k;
      ahead = λ ca cb n e a b known w t m deaf k. phases-ahead ca cb e a b (deaf-body e.step deaf) k;
      pass = λ ca cb n e a e' b f known w t m m' sent heard k.
          let ga = good ca cb n a b t.world in
          let gb = good cb ca n b a (lag.swapped sends hears IsFair ca cb n a b t.world) in
          phases-pass ca cb e a e' b f (step-sending (at ca a) e.step e.reply (due m.fair)) (due m.fair) (law ca a e ga.replayed ga.few m.fair.answers)
          (sender-lives ca a e.step e.reply f (due m.fair) sent) gb.replayed sent (heard-body e'.step f heard) k;
    }
  where
    silent-other : (sent : List Sent) (b : BeginBody) → frame_among sent ≡ None → sent ≡ sent_of (Some (heard.Begin b)) [] ∷ [] → ⊥
    silent-other sent b none is = let k = rw is at none in absurd (cc k)

pub phases-known : (ca cb : Config) (n : ℕ) (a b : List Entry) → Tight ca cb n a b → PhasesAgree ca cb a b
phases-known ca cb n a b t = lag.exact sends hears IsFair PhasesAgree phases-kept ca cb n a b t
