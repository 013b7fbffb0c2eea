-- Where an end has heard all that the other sent, and its session is not over, the other's is not over either.
use Rattle.std.proofs.Common.{⊎_elim, inl, inr, ◌⊎◌, ◌≡◌, ◌≤◌, ℕ, ◌+◌, ◌^◌, ◌&&◌, ◌||◌, suc, Bool, true, false, not, cond, Option, Some, None, Ok, List, [], ◌∷◌, arith, refl, sym, ap, ◌∙◌, subst, length, add-one}
use Rattle.amqp_performatives.specs.declared.performative.Performative.{Performative}
use Rattle.amqp_performatives.specs.declared.performative.Performative.TheVariants as heard
use Rattle.amqp_frames.specs.declared.frame.Frame.{Frame}
use Rattle.amqp_rules.specs.declared.config.Config.{Config}
use Rattle.amqp_rules.specs.declared.op.Op.{Op}
use Rattle.amqp_rules.specs.declared.op.Op.TheVariants as own
use Rattle.amqp_rules.specs.declared.reply.Given.TheVariants as given
use Rattle.amqp_rules.specs.declared.refusal.Refusal.TheVariants as refusal
use Rattle.amqp_events.specs.Event.{Over}
use Rattle.amqp_rules.specs.Deliveries.{ended_by}
use Rattle.amqp_rules.specs.End.{end_body}
use Rattle.amqp_rules.specs.declared.reply.Reply.{Reply}
use Rattle.amqp_rules.specs.View.{View, is_ending, is_mapped, is_over, takes_frames}
use Rattle.amqp_rules.specs.Sending.{reply_ending, sent_of}
use Rattle.amqp_rules.specs.Answer.{body_answer, is_dropped, is_end}
use Rattle.amqp_rules.specs.PeerEnd.{end_reply}
use Rattle.amqp_rules.specs.Refusing.{unlinked}
use Rattle.amqp_rules.specs.declared.violation.ViolationKind.TheVariants.{OutOfSession}
use Rattle.amqp_rules.proofs.Accepted.{unless_Ok}
use Rattle.amqp_rules.proofs.Accepted.{sends-ending-ok}
use Rattle.amqp_rules.proofs.Listed.{by-bool}
use Rattle.amqp_laws.specs.declared.entry.Entry.{Entry}
use Rattle.amqp_laws.specs.declared.entry.Step.{Step}
use Rattle.amqp_laws.specs.declared.entry.Step.TheVariants.{Opened, Own, Heard}
use Rattle.amqp_laws.specs.Past.{some_entry}
use Rattle.amqp_laws.specs.Said.{own_in, is_own_end, body_heard, ends, hears_end, hears_no_end}
use Rattle.amqp_laws.specs.Live.{live}
use Rattle.amqp_laws.specs.Session.{session_at}
use Rattle.amqp_laws.specs.At.{at}
use Rattle.amqp_laws.specs.Lawful.{next}
use Rattle.amqp_laws.proofs.Sound.{law}
use Rattle.amqp_pair_laws.proofs.Plain.{Answers, OwnAnswers, due}
use Rattle.amqp_pair_laws.specs.Moves as moves
use Rattle.amqp_pair_laws.specs.Moves.{count, said_as, IsTail}
use Rattle.amqp_pair_laws.specs.World.{IsFair, Moves, Tight, World, frame_among, frame_in, hears, sends}
use Rattle.amqp_pair_laws.proofs.Lag as lag
use Rattle.amqp_pair_laws.proofs.Sends.{Sending, begins as begins', flows, others, silent, step-sending, transfers}
use Rattle.amqp_pair_laws.proofs.Opens.{body-of, good, heard-body}
use Rattle.amqp_pair_laws.proofs.Phases.{over-stays}

own-end-sends : (v : View) (op : Op) (reply : Reply) (f : Frame) → OwnAnswers v op reply → is_own_end (Some op) ≡ true → frame_among reply.sent ≡ Some f → is_end f.body ≡ true
own-end-sends v (own.End error) reply f h is sent =
    let s = sends-ending-ok v.max_frame ((not (is_mapped v.session), refusal.NotMapped) ∷ []) (end_body error) (ended_by Over Over v) given.Nothing reply h in
    let body = body-of reply.sent _ [] f (ap (λ (r : Reply). r.sent) (sym s.replies)) sent in
    ap is_end body
own-end-sends v _ reply f h is sent = absurd (cc (is))

pub own-end-loud : (v : View) (op : Op) (reply : Reply) → OwnAnswers v op reply → is_own_end (Some op) ≡ true → frame_among reply.sent ≡ None → ⊥
own-end-loud v (own.End error) reply h is none =
    let s = sends-ending-ok v.max_frame ((not (is_mapped v.session), refusal.NotMapped) ∷ []) (end_body error) (ended_by Over Over v) given.Nothing reply h in
    let one : reply.sent ≡ sent_of (end_body error) [] ∷ [] = ap (λ (r : Reply). r.sent) (sym s.replies) in
    let k = rw one at none in absurd (cc k)
own-end-loud v _ reply h is none = absurd (cc (is))

reply-end : (mapped : Bool) (v : View) (reply : Reply) (f : Frame)
    → cond mapped (reply_ending (end_body None) [] (ended_by Over Over v) given.Nothing) (record { sent = []; ended = ended_by Over Over v; given = given.Nothing }) ≡ reply
    → frame_among reply.sent ≡ Some f → is_end f.body ≡ true
reply-end true v reply f h sent = let body = body-of reply.sent _ [] f (ap (λ (r : Reply). r.sent) (sym h)) sent in ap is_end body
reply-end false v reply f h sent = let none : frame_among reply.sent ≡ None = ap (λ (r : Reply). frame_among r.sent) (sym h) in absurd (cc (none, sent))

body-end-sends : (v : View) (body : Option Performative) (payload : List ℕ) (reply : Reply) (f : Frame) → body_answer v body payload ≡ Ok reply → is_end body ≡ true → frame_among reply.sent ≡ Some f → is_end f.body ≡ true
body-end-sends v (Some (heard.End b)) payload reply f h is sent =
    let u = unless_Ok (not (is_ending v.session || takes_frames v.session)) (unlinked OutOfSession) (Ok (end_reply v)) reply h in
    let said = u.1 in
    let e : end_reply v ≡ reply = cc said in
    reply-end (is_mapped v.session) v reply f e sent
body-end-sends v _ payload reply f h is sent = absurd (cc (is))

-- an entry that is our end, or the peer's, sends an end if it sends a frame
pub last-sends : (v : View) (step : Step) (reply : Reply) (f : Frame) → Answers v step reply → is_own_end (own_in step) || is_end (body_heard step) ≡ true → frame_among reply.sent ≡ Some f → is_end f.body ≡ true
last-sends v (Opened told) reply f h is sent = absurd (cc (is))
last-sends v (Own op) reply f h is sent = own-end-sends v op reply f h (by (is_own_end (Some op)) is) sent
  where
    by : (b : Bool) → b || false ≡ true → b ≡ true
    by true h = refl
    by false h = h
last-sends v (Heard g) reply f h is sent =
    let kept : is_dropped v g.body ≡ false = (let e : is_end g.body ≡ true = is in rw e (and-none' (is_ending v.session))) in
    let k = rw kept at h in
    body-end-sends v g.body g.payload reply f k is sent
  where
    and-none' : (b : Bool) → b && false ≡ false
    and-none' true = refl
    and-none' false = refl

-- what makes a session over
pub newly : (e : Entry) (past : List Entry) → is_over (session_at (live (e ∷ past))) ≡ true → (is_over (session_at (live past)) ≡ true) ⊎ (ends e || hears_end e ≡ true)
newly e past h = by (some_entry ends (live past) && hears_no_end e.step) h
  where
    parts : (a b c d : Bool) → (a || b) || (c || d) ≡ true → (b || d ≡ true) ⊎ (a || c ≡ true)
    parts true b c d h = inr refl
    parts false true c d h = inl refl
    parts false false true d h = inr refl
    parts false false false d h = inl h

    by : (dropped : Bool) → is_over (session_at (cond dropped (live past) (e ∷ live past))) ≡ true → (is_over (session_at (live past)) ≡ true) ⊎ (ends e || hears_end e ≡ true)
    by true h = inl h
    by false h = parts (ends e) (some_entry ends (live past)) (hears_end e) (some_entry hears_end (live past)) h

-- the peer's end is never dropped
heard-over : (e : Entry) (past : List Entry) → hears_end e ≡ true → hears_no_end e.step ≡ false → is_over (session_at (live (e ∷ past))) ≡ true
heard-over e past is kept = by (some_entry ends (live past)) (and-none' (some_entry ends (live past)))
  where
    and-none' : (b : Bool) → b && hears_no_end e.step ≡ false
    and-none' true = kept
    and-none' false = refl

    some : (a : Bool) → a || true ≡ true
    some true = refl
    some false = refl

    by : (sent : Bool) → some_entry ends (live past) && hears_no_end e.step ≡ false → is_over (session_at (live (e ∷ past))) ≡ true
    by sent open' = rw (open', is) (some (ends e || some_entry ends (live past)))

pub end-kept : (step : Step) → is_end (body_heard step) ≡ true → hears_no_end step ≡ false
end-kept (Opened told) h = absurd (cc (h))
end-kept (Own op) h = absurd (cc (h))
end-kept (Heard g) h = rw h refl

over-later : (early past : List Entry) → IsTail early past → is_over (session_at (live early)) ≡ true → is_over (session_at (live past)) ≡ true
over-later early [] t h = subst (λ (l : List Entry). is_over (session_at (live l)) ≡ true) t h
over-later early (e ∷ past) (inl t) h = subst (λ (l : List Entry). is_over (session_at (live l)) ≡ true) t h
over-later early (e ∷ past) (inr t) h = over-stays e past (over-later early past t h)

abbrev pub OverAgree : Config → Config → List Entry → List Entry → Type 0
OverAgree ca cb a b = is_over (session_at (live a)) ≡ true → is_over (session_at (live b)) ≡ true

-- a frame that is an end leaves its sender's session over
sender-over : (c : Config) (past : List Entry) (e : Entry) (f : Frame) → Sending (at c past) (next (at c past) e.step) (body_heard e.step) (own_in e.step) e.reply → at c (e ∷ past) ≡ next (at c past) e.step
    → frame_among e.reply.sent ≡ Some f → is_end f.body ≡ true → is_over (session_at (live (e ∷ past))) ≡ true
sender-over c past e f (silent q) l sent is = absurd (cc (q, sent))
sender-over c past e f (transfers t payload deaf mapped room named carries' one) l sent is = let b = ap is_end (body-of e.reply.sent (heard.Transfer t) payload f one sent) in absurd (cc (b, is))
sender-over c past e f (flows w t mapped open' begun numbers one) l sent is = let b = ap is_end (body-of e.reply.sent (heard.Flow w) [] f one sent) in absurd (cc (b, is))
sender-over c past e f (begins' w deaf is-begin' unsent open' takes comes one) l sent is = let b = ap is_end (body-of e.reply.sent (heard.Begin w) [] f one sent) in absurd (cc (b, is))
sender-over c past e f (others p payload t w beside one) l sent is =
    let b = ap is_end (body-of e.reply.sent p payload f one sent) in
    ap (λ (v : View). is_over v.session) l ∙ beside.ends (sym b ∙ is)

-- where a hears an end that b sent, b's session is over
pub over-there : (ca cb : Config) (n : ℕ) (e : Entry) (a b : List Entry) → World ca cb n a b → Moves ca e a b → (g : Frame) → e.step ≡ Heard g → is_end g.body ≡ true → is_over (session_at (live b)) ≡ true
over-there ca cb n e a b w m g same is =
    let heard-it : hears e ≡ Some g = ap frame_in same in
    let next' : said_as sends (count hears a) b ≡ Some g = subst (λ (o : Option Frame). moves.IsNext sends hears IsFair o a b) heard-it m.next in
    let back = lag.swapped sends hears IsFair ca cb n a b w in
    let x = lag.waits sends hears IsFair cb ca n b a g back next' in
    let f = lag.all-fair sends hears IsFair cb ca (suc x.moves) (x.entry ∷ x.before) a x.world in
    let gx = good cb ca (suc x.moves) (x.entry ∷ x.before) a x.world in
    let fewer : length x.before ≤ 2 ^ 30 = (let few : length (x.entry ∷ x.before) ≤ 2 ^ 30 = gx.few in let k : length x.before + 1 ≤ 2 ^ 30 = rw (← add-one (length x.before)) at few in omega (arith, k)) in
    let l = law cb x.before x.entry gx.replayed.0 fewer f.1.answers in
    over-later (x.entry ∷ x.before) b x.is_tail (sender-over cb x.before x.entry g (step-sending (at cb x.before) x.entry.step x.entry.reply (due f.1)) l x.sent is)

over-quiet : (ca cb : Config) (n : ℕ) (e : Entry) (a b : List Entry) → Tight ca cb n a b → Moves ca e a b → sends e ≡ None → (ends e || hears_end e ≡ true) → is_over (session_at (live b)) ≡ true
over-quiet ca cb n e a b t m quiet is = by e.step refl (due m.fair) is
  where
    by : (step : Step) → e.step ≡ step → Answers (at ca a) step e.reply → is_own_end (own_in step) || is_end (body_heard step) ≡ true → is_over (session_at (live b)) ≡ true
    by (Opened told) same h is = absurd (cc (is))
    by (Own op) same h is = absurd (own-end-loud (at ca a) op e.reply h (or-none' (is_own_end (Some op)) is) quiet)
      where
        or-none' : (b : Bool) → b || false ≡ true → b ≡ true
        or-none' true h = refl
        or-none' false h = h
    by (Heard g) same h is = over-there ca cb n e a b t.world m g same is

over-pass : (ca cb : Config) (e : Entry) (a : List Entry) (e' : Entry) (b : List Entry) (f : Frame) → Answers (at ca a) e.step e.reply → frame_among e.reply.sent ≡ Some f → hears e' ≡ Some f
    → (ends e || hears_end e ≡ true) → is_over (session_at (live (e' ∷ b))) ≡ true
over-pass ca cb e a e' b f h sent heard' is =
    let end' = last-sends (at ca a) e.step e.reply f h is sent in
    let body : is_end (body_heard e'.step) ≡ true = ap is_end (heard-body e'.step f heard') ∙ end' in
    heard-over e' b body (end-kept e'.step body)

over-kept : lag.IsKept sends hears IsFair OverAgree
over-kept =
    record {
      starts = λ ca cb h. absurd (cc (h));
      quiet = λ ca cb n e a b known w t m quiet k h. ⊎_elim k (λ is. over-quiet ca cb n e a b t m quiet is) (newly e a h);
      ahead = λ ca cb n e a b known w t m deaf k h. over-stays e b (k h);
      pass = λ ca cb n e a e' b f known w t m m' sent heard' k h. ⊎_elim (λ o. over-stays e' b (k o)) (λ is. over-pass ca cb e a e' b f (due m.fair) sent heard' is) (newly e a h);
    }

-- where b has heard all that a sent, and its session is not over, nor is a's
pub behind-lives : (ca cb : Config) (n : ℕ) (a b : List Entry) → Tight ca cb n a b → is_over (session_at (live b)) ≡ false → is_over (session_at (live a)) ≡ false
behind-lives ca cb n a b t lives =
    by-bool (is_over (session_at (live a)))
    (λ (h : is_over (session_at (live a)) ≡ true). let over = lag.exact sends hears IsFair OverAgree over-kept ca cb n a b t h in absurd (cc (over, lives)))
    (λ (h : is_over (session_at (live a)) ≡ false). h)
