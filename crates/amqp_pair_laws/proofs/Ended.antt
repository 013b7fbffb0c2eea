-- An end that was sent is heard, and each is answered: where b has heard all that a sent, and a's session is over, b has heard an end.
use Rattle.std.proofs.Common.{⊎_elim, inl, inr, ◌≡◌, ℕ, ◌&&◌, ◌||◌, suc, Bool, true, false, not, cond, Option, Some, None, Ok, List, [], ◌∷◌, arith, refl, sym, ap, ◌∙◌, subst}
use Rattle.amqp_performatives.specs.declared.performative.Performative.{Performative}
use Rattle.amqp_performatives.specs.declared.performative.Performative.TheVariants as heard
use Rattle.amqp_frames.specs.declared.frame.Frame.{Frame}
use Rattle.amqp_rules.specs.declared.config.Config.{Config}
use Rattle.amqp_rules.specs.declared.op.Op.{Op}
use Rattle.amqp_rules.specs.declared.reply.Reply.{Reply}
use Rattle.amqp_rules.specs.declared.violation.ViolationKind.TheVariants.{OutOfSession}
use Rattle.amqp_rules.specs.View.{SessionView, View, is_ending, is_mapped, is_over, takes_frames}
use Rattle.amqp_rules.specs.Refusing.{unlinked}
use Rattle.amqp_rules.specs.PeerEnd.{end_reply}
use Rattle.amqp_rules.specs.Answer.{body_answer, is_dropped, is_end}
use Rattle.amqp_rules.proofs.Accepted.{not-false, unless_Ok}
use Rattle.amqp_rules.proofs.Listed.{by-bool}
use Rattle.amqp_laws.specs.declared.entry.Entry.{Entry}
use Rattle.amqp_laws.specs.declared.entry.Step.{Step}
use Rattle.amqp_laws.specs.declared.entry.Step.TheVariants.{Opened, Own, Heard}
use Rattle.amqp_laws.specs.Past.{some_entry}
use Rattle.amqp_laws.specs.Said.{begins, body_heard, ends, hears_begin, hears_end, hears_no_end, is_detach, is_own_end, own_in}
use Rattle.amqp_laws.specs.Live.{live}
use Rattle.amqp_laws.specs.Session.{session_at}
use Rattle.amqp_laws.specs.At.{at}
use Rattle.amqp_laws.specs.Lawful.{next}
use Rattle.amqp_laws.proofs.Twice.{and-both}
use Rattle.amqp_pair_laws.proofs.Plain.{Answers, due}
use Rattle.amqp_pair_laws.specs.Moves as moves
use Rattle.amqp_pair_laws.specs.Moves.{count, said_as, IsTail}
use Rattle.amqp_pair_laws.specs.World.{IsFair, Moves, Tight, World, frame_among, frame_in, hears, sends}
use Rattle.amqp_pair_laws.specs.Agreeing.{SessionsAgree}
use Rattle.amqp_pair_laws.proofs.Lag as lag
use Rattle.amqp_pair_laws.proofs.Sends.{Sending, begins as begins', flows, others, silent, step-sending, transfers}
use Rattle.amqp_pair_laws.proofs.Opens.{body-of, heard-body}
use Rattle.amqp_pair_laws.proofs.Windows.{or-none, or-true}
use Rattle.amqp_pair_laws.proofs.Phases.{phases-known}
use Rattle.amqp_pair_laws.proofs.Over.{behind-lives, end-kept, last-sends, newly, own-end-loud}

-- # One journal

some-stays : (test : Entry → Bool) (e : Entry) (past : List Entry) → some_entry test (live past) ≡ true → some_entry test (live (e ∷ past)) ≡ true
some-stays test e past h = by (some_entry ends (live past) && hears_no_end e.step)
  where
    by : (dropped : Bool) → some_entry test (cond dropped (live past) (e ∷ live past)) ≡ true
    by true = h
    by false = rw h (or-true (test e))

some-later : (test : Entry → Bool) (early past : List Entry) → IsTail early past → some_entry test (live early) ≡ true → some_entry test (live past) ≡ true
some-later test early [] t h = subst (λ (l : List Entry). some_entry test (live l) ≡ true) t h
some-later test early (e ∷ past) (inl t) h = subst (λ (l : List Entry). some_entry test (live l) ≡ true) t h
some-later test early (e ∷ past) (inr t) h = some-stays test e past (some-later test early past t h)

-- an end that is heard is never dropped
end-there : (e : Entry) (past : List Entry) → hears_end e ≡ true → some_entry hears_end (live (e ∷ past)) ≡ true
end-there e past is = by (some_entry ends (live past)) (end-kept e.step is)
  where
    by : (sent : Bool) → hears_no_end e.step ≡ false → some_entry hears_end (cond (sent && hears_no_end e.step) (live past) (e ∷ live past)) ≡ true
    by true kept = rw (kept, is) refl
    by false kept = rw is refl

-- an end is sent by a session that is mapped
end-mapped : (v after : View) (heard' : Option Performative) (op : Option Op) (reply : Reply) (f : Frame) → Sending v after heard' op reply → frame_among reply.sent ≡ Some f → is_end f.body ≡ true → is_mapped v.session ≡ true
end-mapped v after heard' op reply f (silent q) sent is = absurd (cc (q, sent))
end-mapped v after heard' op reply f (transfers t payload deaf mapped room named carries' one) sent is = mapped
end-mapped v after heard' op reply f (flows w t mapped open' begun numbers one) sent is = mapped
end-mapped v after heard' op reply f (begins' w deaf is-begin unsent open' takes comes one) sent is = let b = ap is_end (body-of reply.sent (heard.Begin w) [] f one sent) in absurd (cc (b, is))
end-mapped v after heard' op reply f (others p payload t w beside one) sent is = beside.mapped (no-detach p (sym (ap is_end (body-of reply.sent p payload f one sent)) ∙ is))
  where
    no-detach : (p : Performative) → is_end (Some p) ≡ true → is_detach (Some p) ≡ false
    no-detach (heard.End b) h = refl
    no-detach p h = absurd (cc (h))

-- an end that is heard by a mapped session is answered
answered-by : (v : View) (body : Option Performative) (payload : List ℕ) (reply : Reply) → body_answer v body payload ≡ Ok reply → is_end body ≡ true → is_mapped v.session ≡ true → frame_among reply.sent ≡ None → ⊥
answered-by v (Some (heard.End b)) payload reply h is mapped none =
    let u = unless_Ok (not (is_ending v.session || takes_frames v.session)) (unlinked OutOfSession) (Ok (end_reply v)) reply h in
    let said = u.1 in
    let e : end_reply v ≡ reply = cc said in
    let k : frame_among (end_reply v).sent ≡ None = ap (λ (r : Reply). frame_among r.sent) e ∙ none in
    let bad = rw mapped at k in
    absurd (cc bad)
answered-by v _ payload reply h is mapped none = absurd (cc (is))

takes-end : (v : View) (body : Option Performative) (payload : List ℕ) (reply : Reply) → body_answer v body payload ≡ Ok reply → is_end body ≡ true → is_over v.session ≡ false → v.session.begin_heard ≡ true
takes-end v (Some (heard.End b)) payload reply h is lives =
    let u = unless_Ok (not (is_ending v.session || takes_frames v.session)) (unlinked OutOfSession) (Ok (end_reply v)) reply h in
    by v.session.end_sent v.session.end_heard v.session.begin_heard lives (not-false (is_ending v.session || takes_frames v.session) u.0)
  where
    by : (sent heard' begun : Bool) → sent || heard' ≡ false → (sent && not heard') || (begun && not (sent || heard')) ≡ true → begun ≡ true
    by true heard' begun o h = absurd (cc (o))
    by false true begun o h = absurd (cc (o))
    by false false true o h = refl
    by false false false o h = absurd (cc (h))
takes-end v _ payload reply h is lives = absurd (cc (is))

mapped-by : (s : SessionView) → s.begin_sent ≡ true → s.begin_heard ≡ true → is_over s ≡ false → is_mapped s ≡ true
mapped-by s a b c = rw (a, b, c) refl

-- # What is claimed

abbrev EndsHeard : Config → Config → List Entry → List Entry → Type 0
EndsHeard ca cb a b = is_over (session_at (live a)) ≡ true → some_entry hears_end (live b) ≡ true

-- where a hears an end and its session was not over, it is mapped, so it answers
heard-quiet : (ca cb : Config) (n : ℕ) (e : Entry) (a b : List Entry) → Tight ca cb n a b → Moves ca e a b → sends e ≡ None → (g : Frame) → e.step ≡ Heard g → is_end g.body ≡ true → is_over (session_at (live a)) ≡ false → ⊥
heard-quiet ca cb n e a b t m quiet g same is lives =
    let heard-it : hears e ≡ Some g = ap frame_in same in
    let next' : said_as sends (count hears a) b ≡ Some g = subst (λ (o : Option Frame). moves.IsNext sends hears IsFair o a b) heard-it m.next in
    let back = lag.swapped sends hears IsFair ca cb n a b t.world in
    let x = lag.waits sends hears IsFair cb ca n b a g back next' in
    let tight : count sends x.before ≡ count hears a = x.tight in
    let f = lag.all-fair sends hears IsFair cb ca (suc x.moves) (x.entry ∷ x.before) a x.world in
    let before : World cb ca x.moves x.before a = lag.cut sends hears IsFair cb ca x.moves x.entry x.before a x.world (omega (arith, tight)) in
    let mapped = end-mapped (at cb x.before) (next (at cb x.before) x.entry.step) (body_heard x.entry.step) (own_in x.entry.step) x.entry.reply g (step-sending (at cb x.before) x.entry.step x.entry.reply (due f.1)) x.sent is in
    let begun' : some_entry hears_begin (live x.before) ≡ true = (and-both (at cb x.before).session.begin_heard _ (and-both (at cb x.before).session.begin_sent (takes_frames (at cb x.before).session) mapped).1).0 in
    let s = lag.star sends hears IsFair cb ca x.moves x.before a before in
    let sent : some_entry begins (live a) ≡ true = some-later begins s.early a s.is_tail (sym (phases-known ca cb s.moves s.early x.before s.behind).begun ∙ begun') in
    let unsent : (at ca a).session.end_sent ≡ false = (or-none (at ca a).session.end_sent (at ca a).session.end_heard lives).0 in
    let answers : Answers (at ca a) (Heard g) e.reply = subst (λ (s : Step). Answers (at ca a) s e.reply) same (due m.fair) in
    let taken : is_dropped (at ca a) g.body ≡ false = rw unsent refl in
    let k : body_answer (at ca a) g.body g.payload ≡ Ok e.reply = (let k = rw taken at answers in k) in
    answered-by (at ca a) g.body g.payload e.reply k is (mapped-by (at ca a).session sent (takes-end (at ca a) g.body g.payload e.reply k is lives) lives) quiet

ends-quiet : (ca cb : Config) (n : ℕ) (e : Entry) (a b : List Entry) → Tight ca cb n a b → Moves ca e a b → sends e ≡ None → EndsHeard ca cb a b → (ends e || hears_end e ≡ true) → some_entry hears_end (live b) ≡ true
ends-quiet ca cb n e a b t m quiet k is =
    by-bool (is_over (session_at (live a)))
    (λ (o : is_over (session_at (live a)) ≡ true). k o)
    (λ (lives : is_over (session_at (live a)) ≡ false). absurd (by lives e.step refl (due m.fair) is))
  where
    by : is_over (session_at (live a)) ≡ false → (step : Step) → e.step ≡ step → Answers (at ca a) step e.reply → is_own_end (own_in step) || is_end (body_heard step) ≡ true → ⊥
    by lives (Opened told) same h is = absurd (cc (is))
    by lives (Own op) same h is = own-end-loud (at ca a) op e.reply h (or-none' (is_own_end (Some op)) is) quiet
      where
        or-none' : (b : Bool) → b || false ≡ true → b ≡ true
        or-none' true h = refl
        or-none' false h = h
    by lives (Heard g) same h is = heard-quiet ca cb n e a b t m quiet g same is lives

ends-kept : lag.IsKept sends hears IsFair EndsHeard
ends-kept =
    record {
      starts = λ ca cb h. absurd (cc (h));
      quiet = λ ca cb n e a b known w t m quiet k h. ⊎_elim k (λ is. ends-quiet ca cb n e a b t m quiet k is) (newly e a h);
      ahead = λ ca cb n e a b known w t m deaf k h. some-stays hears_end e b (k h);
      pass = λ ca cb n e a e' b f known w t m m' sent heard' k h.
          ⊎_elim (λ o. some-stays hears_end e' b (k o))
          (λ is. end-there e' b (ap is_end (heard-body e'.step f heard') ∙ last-sends (at ca a) e.step e.reply f (due m.fair) is sent))
          (newly e a h);
    }

pub ends-known : (ca cb : Config) (n : ℕ) (a b : List Entry) → Tight ca cb n a b → EndsHeard ca cb a b
ends-known ca cb n a b t = lag.exact sends hears IsFair EndsHeard ends-kept ca cb n a b t

-- # At rest

over-heard : (s : SessionView) → s.end_heard ≡ true → is_over s ≡ true
over-heard s h = rw h (or-true s.end_sent)

not-ending : (s : SessionView) → s.end_heard ≡ true → is_ending s ≡ false
not-ending s h = rw h (and-false s.end_sent)
  where
    and-false : (b : Bool) → b && false ≡ false
    and-false true = refl
    and-false false = refl

unended : (s : SessionView) → s.end_sent ≡ false → is_ending s ≡ false
unended s h = rw h refl

pub sessions-agree : SessionsAgree
sessions-agree ca cb n a b r =
    by-bool (is_over (session_at (live a)))
    (λ (o : is_over (session_at (live a)) ≡ true).
    let there' : some_entry hears_end (live b) ≡ true = ends-known ca cb n a b there o in
    let here' : some_entry hears_end (live a) ≡ true = ends-known cb ca n b a back (over-heard (session_at (live b)) there') in
    record {
      begun = (phases-known ca cb n a b there).begun;
      begun' = (phases-known cb ca n b a back).begun;
      ended = here' ∙ sym there';
      answered = not-ending (session_at (live a)) here';
      answered' = not-ending (session_at (live b)) there';
    })
    (λ (lives : is_over (session_at (live a)) ≡ false).
    let la = or-none (at ca a).session.end_sent (at ca a).session.end_heard lives in
    let lb = or-none (at cb b).session.end_sent (at cb b).session.end_heard (behind-lives cb ca n b a back lives) in
    record {
      begun = (phases-known ca cb n a b there).begun;
      begun' = (phases-known cb ca n b a back).begun;
      ended = la.1 ∙ sym lb.1;
      answered = unended (session_at (live a)) la.0;
      answered' = unended (session_at (live b)) lb.0;
    })
  where
    there : Tight ca cb n a b
    there = record { world = r.world; tight = r.heard }

    back : Tight cb ca n b a
    back = record { world = lag.swapped sends hears IsFair ca cb n a b r.world; tight = r.answered }
