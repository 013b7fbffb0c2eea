-- No answer is answered: an entry that hears what the other end sent as it heard a frame sends nothing.
use Rattle.std.proofs.Common.{⊎_elim, suc, ◌≡◌, ◌≤◌, ℕ, ◌+◌, ◌&&◌, ◌||◌, Bool, true, false, not, cond, Option, Some, None, Result, Ok, List, [], ◌∷◌, arith, refl, sym, ap, ◌∙◌, subst, find, is_some, option_map, nat_eq}
use Rattle.std.specs.Cmp.Lexicographic.{pointwise}
use Rattle.amqp_flow.specs.Windows.{WindowsView}
use Rattle.amqp_performatives.specs.declared.bodies.Role.{Role}
use Rattle.amqp_performatives.specs.declared.bodies.Role.TheVariants.{Sender, Receiver}
use Rattle.amqp_performatives.specs.declared.bodies.DetachBody.{DetachBody}
use Rattle.amqp_performatives.specs.declared.bodies.FlowBody.{FlowBody}
use Rattle.amqp_performatives.specs.declared.performative.Performative.{Performative}
use Rattle.amqp_performatives.specs.declared.performative.Performative.TheVariants as heard
use Rattle.amqp_frames.specs.declared.frame.Frame.{Frame}
use Rattle.amqp_events.specs.Event.{Over}
use Rattle.amqp_rules.specs.declared.config.Config.{Config}
use Rattle.amqp_rules.specs.declared.reply.Reply.{Reply}
use Rattle.amqp_rules.specs.declared.reply.Given.TheVariants as given
use Rattle.amqp_rules.specs.declared.violation.Violation.{Violation}
use Rattle.amqp_rules.specs.declared.violation.ViolationKind.TheVariants.{OutOfSession, BadHandle}
use Rattle.amqp_rules.specs.View.{EndView, LinkView, View, handle_of, has_name, has_peer_handle, is_attached, is_ending, is_mapped, is_over, opposite, same_role, takes_frames}
use Rattle.amqp_rules.specs.Refusing.{answered, first_refusal, if_there, unlinked}
use Rattle.amqp_rules.specs.Opened.{no_reply}
use Rattle.amqp_rules.specs.Sending.{frame_of, reply_ending}
use Rattle.amqp_rules.specs.Telling.{session_flow, standing_flow}
use Rattle.amqp_rules.specs.Deliveries.{disposition_of, ended_by}
use Rattle.amqp_rules.specs.End.{end_body}
use Rattle.amqp_rules.specs.Flow.{asks_echo, echo_body, echoes, flow_link, flow_reply, flow_violations, flow_windows, named_link}
use Rattle.amqp_rules.specs.PeerBegin.{begin_violations}
use Rattle.amqp_rules.specs.PeerAttach.{attach_heard_reply, attach_violations}
use Rattle.amqp_rules.specs.PeerTransfer.{transfer_reply, transfer_violations}
use Rattle.amqp_rules.specs.PeerDisposition.{disposition_reply, disposition_violations}
use Rattle.amqp_rules.specs.PeerDetach.{detach_reply}
use Rattle.amqp_rules.specs.PeerEnd.{end_reply}
use Rattle.amqp_rules.specs.Answer.{body_answer, heard_answer, is_dropped, is_end}
use Rattle.amqp_rules.specs.Sound.{IsSound}
use Rattle.amqp_rules.proofs.Accepted.{answered_Ok, there_Ok, unless_Ok}
use Rattle.amqp_rules.proofs.Listed.{by-bool}
use Rattle.amqp_laws.specs.declared.entry.Entry.{Entry}
use Rattle.amqp_laws.specs.declared.entry.Step.{Step}
use Rattle.amqp_laws.specs.declared.entry.Step.TheVariants.{Opened, Own, Heard}
use Rattle.amqp_laws.specs.Said.{body_heard, ends, hears_end, is_detach, is_own_end, own_in}
use Rattle.amqp_laws.specs.Live.{live}
use Rattle.amqp_laws.specs.Session.{session_at}
use Rattle.amqp_laws.specs.At.{at}
use Rattle.amqp_laws.proofs.AttachLaw.{mapped-not-over, not-over}
use Rattle.amqp_pair_laws.proofs.Plain.{Answers, due}
use Rattle.amqp_pair_laws.specs.Moves.{count, IsTail}
use Rattle.amqp_pair_laws.specs.World.{IsFair, Moves, Tight, World, frame_among, frame_in, hears, sends}
use Rattle.amqp_pair_laws.proofs.Lag as lag
use Rattle.amqp_pair_laws.proofs.Slots.{Act, Message, Slot, attach, attached, detach, goes, idle, learns, meets, tells}
use Rattle.amqp_pair_laws.proofs.SlotKept as slots
use Rattle.amqp_pair_laws.proofs.SlotOf.{shape}
use Rattle.amqp_pair_laws.proofs.Doing.{body_act, detach-sends, on_named, step_act}
use Rattle.amqp_pair_laws.proofs.SlotActs.{AllFair, Lives, Meets, act, acts, one-more, st}
use Rattle.amqp_pair_laws.proofs.Named.{name-self, named-found}
use Rattle.amqp_pair_laws.proofs.Over.{behind-lives, newly, over-there}
use Rattle.amqp_pair_laws.proofs.TurnHeard.{reply-sent}
use Rattle.amqp_pair_laws.proofs.CountsKept.{fair-both}
use Rattle.amqp_pair_laws.proofs.Answered.{balanced, detaches-known, left_heard, left_sent, opposite-twice, owed, plus}

-- # What an answer is

-- by what was heard: a flow that asks for none, a detach, or the end that answers an end
abbrev IsAnswer : Option Performative → Option Performative → Type 0
IsAnswer body (Some (heard.Flow b)) = asks_echo b ≡ false
IsAnswer body (Some (heard.Detach b)) = Unit {0}
IsAnswer body (Some (heard.End b)) = is_end body ≡ true
IsAnswer body _ = ⊥

-- a reply that sends nothing
quiet-by : {P : Type 0} (r reply : Reply) (f : Frame) → r ≡ reply → frame_among r.sent ≡ None → frame_among reply.sent ≡ Some f → P
quiet-by r reply f e quiet sent = let none : frame_among reply.sent ≡ None = ap (λ (r : Reply). frame_among r.sent) (sym e) ∙ quiet in absurd (cc (none, sent))

echo-asks-none : (w : WindowsView) (o : Option LinkView) → asks_echo (echo_body w o) ≡ false
echo-asks-none w None = refl
echo-asks-none w (Some l) = by (is_attached l) l.role
  where
    by : (attached : Bool) (r : Role) → asks_echo (cond attached (standing_flow w l r) (session_flow w)) ≡ false
    by true Sender = refl
    by true Receiver = refl
    by false r = refl

is-frame : (body : Option Performative) (echo : Bool) (f g : Frame) → cond echo (Some f) None ≡ Some g → IsAnswer body f.body → IsAnswer body g.body
is-frame body true f g e k = let one : f ≡ g = cc e in subst (λ (f : Frame). IsAnswer body f.body) one k
is-frame body false f g e k = absurd (cc (e))

end-frame : (body : Option Performative) (mapped : Bool) (v : View) (reply : Reply) (g : Frame) → is_end body ≡ true
    → cond mapped (reply_ending (end_body None) [] (ended_by Over Over v) given.Nothing) (record { sent = []; ended = ended_by Over Over v; given = given.Nothing }) ≡ reply
    → frame_among reply.sent ≡ Some g → IsAnswer body g.body
end-frame body true v reply g is e sent =
    is-frame body true (frame_of (end_body None) []) g (ap (λ (r : Reply). frame_among r.sent) e ∙ sent) is
end-frame body false v reply g is e sent = quiet-by _ reply g e refl sent

answers-are : (v : View) (body : Option Performative) (payload : List ℕ) (reply : Reply) (g : Frame) → body_answer v body payload ≡ Ok reply → frame_among reply.sent ≡ Some g → IsAnswer body g.body
answers-are v (Some (heard.Begin b)) payload reply g h sent =
    let a = answered_Ok (first_refusal (begin_violations v)) no_reply reply h in
    quiet-by no_reply reply g a.replies refl sent
answers-are v (Some (heard.Attach b)) payload reply g h sent =
    let a = answered_Ok (first_refusal (attach_violations v b)) (attach_heard_reply v b) reply h in
    quiet-by (attach_heard_reply v b) reply g a.replies refl sent
answers-are v (Some (heard.Flow b)) payload reply g h sent =
    let w = flow_windows v b in
    let o = option_map (flow_link b) (named_link v.links b.handle) in
    let a = answered_Ok (first_refusal (flow_violations v b)) (flow_reply (echoes v b) w o) reply h in
    is-frame (Some (heard.Flow b)) (echoes v b) (frame_of (Some (heard.Flow (echo_body w o))) []) g (sym (reply-sent (echoes v b) w o) ∙ ap (λ (r : Reply). frame_among r.sent) a.replies ∙ sent) (echo-asks-none w o)
answers-are v (Some (heard.Transfer b)) payload reply g h sent =
    let say : LinkView → Result Reply Violation = λ l. answered (first_refusal (transfer_violations v b payload l)) (transfer_reply v b l) in
    let u = unless_Ok (not (takes_frames v.session)) (unlinked OutOfSession) (if_there (find (has_peer_handle b.handle) v.links) (unlinked BadHandle) say) reply h in
    let t = there_Ok (find (has_peer_handle b.handle) v.links) (unlinked BadHandle) say reply u.1 in
    let a = answered_Ok (first_refusal (transfer_violations v b payload t.on)) (transfer_reply v b t.on) reply t.said in
    quiet-by (transfer_reply v b t.on) reply g a.replies refl sent
answers-are v (Some (heard.Disposition b)) payload reply g h sent =
    let a = answered_Ok (first_refusal (disposition_violations v (disposition_of b))) (disposition_reply v b) reply h in
    quiet-by (disposition_reply v b) reply g a.replies refl sent
answers-are v (Some (heard.Detach b)) payload reply g h sent =
    let say : LinkView → Result Reply Violation = λ l. Ok (detach_reply v b l) in
    let u = unless_Ok (not (takes_frames v.session)) (unlinked OutOfSession) (if_there (find (has_peer_handle b.handle) v.links) (unlinked BadHandle) say) reply h in
    let t = there_Ok (find (has_peer_handle b.handle) v.links) (unlinked BadHandle) say reply u.1 in
    let said = t.said in
    let e : detach_reply v b t.on ≡ reply = cc said in
    is-frame (Some (heard.Detach b)) (is_attached t.on) (frame_of (Some (heard.Detach (record { handle = handle_of t.on.ours; closed = b.closed; error = None }))) []) g
    (sym (detach-sends (is_attached t.on) v b t.on) ∙ ap (λ (r : Reply). frame_among r.sent) e ∙ sent) tt
answers-are v (Some (heard.End b)) payload reply g h sent =
    let u = unless_Ok (not (is_ending v.session || takes_frames v.session)) (unlinked OutOfSession) (Ok (end_reply v)) reply h in
    let said = u.1 in
    let e : end_reply v ≡ reply = cc said in
    end-frame (Some (heard.End b)) (is_mapped v.session) v reply g refl e sent
answers-are v _ payload reply g h sent = absurd (cc)

-- what is answered was not dropped
kept-answer : (v : View) (f : Frame) (reply : Reply) (g : Frame) → heard_answer v f ≡ Ok reply → frame_among reply.sent ≡ Some g → body_answer v f.body f.payload ≡ Ok reply
kept-answer v f reply g h sent =
    by-bool (is_dropped v f.body)
    (λ (dropped : is_dropped v f.body ≡ true).
    let k = rw dropped at h in
    let e : no_reply ≡ reply = cc k in
    quiet-by no_reply reply g e refl sent)
    (λ (taken : is_dropped v f.body ≡ false). let k = rw taken at h in k)

heard-answer : (c : Config) (e : Entry) (before : List Entry) (f : Frame) → IsFair c e before → e.step ≡ Heard f → heard_answer (at c before) f ≡ Ok e.reply
heard-answer c e before f fair is = subst (λ (s : Step). Answers (at c before) s e.reply) is (due fair)

heard-step : (step : Step) (f : Frame) → frame_in step ≡ Some f → step ≡ Heard f
heard-step (Opened told) f is = absurd (cc (is))
heard-step (Own op) f is = absurd (cc (is))
heard-step (Heard g) f is = let one : g ≡ f = cc is in ap Heard one

-- # A flow that asks for none

flow-unanswered : (v : View) (b : FlowBody) (payload : List ℕ) (reply : Reply) (g : Frame) → asks_echo b ≡ false → body_answer v (Some (heard.Flow b)) payload ≡ Ok reply → frame_among reply.sent ≡ Some g → ⊥
flow-unanswered v b payload reply g none h sent =
    let w = flow_windows v b in
    let o = option_map (flow_link b) (named_link v.links b.handle) in
    let a = answered_Ok (first_refusal (flow_violations v b)) (flow_reply (echoes v b) w o) reply h in
    let off : echoes v b ≡ false = rw none refl in
    let k : cond (echoes v b) (Some (frame_of (Some (heard.Flow (echo_body w o))) [])) None ≡ Some g = sym (reply-sent (echoes v b) w o) ∙ ap (λ (r : Reply). frame_among r.sent) a.replies ∙ sent in
    let bad = rw off at k in
    absurd (cc bad)

-- # An end

end-answers-mapped : (v : View) (body : Option Performative) (payload : List ℕ) (reply : Reply) (g : Frame) → is_end body ≡ true → body_answer v body payload ≡ Ok reply → frame_among reply.sent ≡ Some g → is_mapped v.session ≡ true
end-answers-mapped v (Some (heard.End b)) payload reply g is h sent =
    let u = unless_Ok (not (is_ending v.session || takes_frames v.session)) (unlinked OutOfSession) (Ok (end_reply v)) reply h in
    let said = u.1 in
    let e : end_reply v ≡ reply = cc said in
    by-bool (is_mapped v.session)
    (λ (t : is_mapped v.session ≡ true). t)
    (λ (f : is_mapped v.session ≡ false).
    let k : frame_among (end_reply v).sent ≡ Some g = ap (λ (r : Reply). frame_among r.sent) e ∙ sent in
    let bad = rw f at k in
    absurd (cc bad))
end-answers-mapped v _ payload reply g is h sent = absurd (cc (is))

-- # A detach

-- a detach that is answered was heard on an attached link
record Parts (c : Config) (e : Entry) (past : List Entry) : Type 0 where
  role : Role
  name : List ℕ
  lives : Lives past
  goes' : act (role, name) c e past ≡ goes
  attached' : attached (st (role, name) c past) ≡ true

parts : (c : Config) (e : Entry) (past : List Entry) (f : Frame) (d : DetachBody) (reply : Reply) (g : Frame) → IsSound (at c past) → e.step ≡ Heard f → f.body ≡ Some (heard.Detach d)
    → body_answer (at c past) (Some (heard.Detach d)) f.payload ≡ Ok reply → frame_among reply.sent ≡ Some g → Parts c e past
parts c e past f d reply g s step body h sent =
    let v = at c past in
    let say : LinkView → Result Reply Violation = λ l. Ok (detach_reply v d l) in
    let u = unless_Ok (not (takes_frames v.session)) (unlinked OutOfSession) (if_there (find (has_peer_handle d.handle) v.links) (unlinked BadHandle) say) reply h in
    let t = there_Ok (find (has_peer_handle d.handle) v.links) (unlinked BadHandle) say reply u.1 in
    let l = t.on in
    let said = t.said in
    let same : detach_reply v d l ≡ reply = cc said in
    let takes : takes_frames v.session ≡ true = open' (takes_frames v.session) u.0 in
    let lives' : is_over v.session ≡ false = not-over v.session.begin_heard (is_over v.session) takes in
    let here = named-found l.role l.name (has_peer_handle d.handle) v.links l s.links.names t.found (name-self l.role l.name) in
    let k : cond (is_attached l) (Some (frame_of (Some (heard.Detach (record { handle = handle_of l.ours; closed = d.closed; error = None }))) [])) None ≡ Some g =
    sym (detach-sends (is_attached l) v d l) ∙ ap (λ (r : Reply). frame_among r.sent) same ∙ sent in
    record {
      role = l.role;
      name = l.name;
      lives = lives';
      goes' = ap (λ (s : Step). step_act l.role l.name v s (sends e)) step ∙ act-goes v l f d lives' body t.found;
      attached' = ap (λ o. attached (shape o)) here ∙ is-there (is_attached l) (frame_of (Some (heard.Detach (record { handle = handle_of l.ours; closed = d.closed; error = None }))) []) g k;
    }
  where
    open' : (b : Bool) → not b ≡ false → b ≡ true
    open' true h = refl
    open' false h = absurd (cc (h))

    is-there : (b : Bool) (f g : Frame) → cond b (Some f) None ≡ Some g → b ≡ true
    is-there true f g h = refl
    is-there false f g h = absurd (cc (h))

    act-goes : (v : View) (l : LinkView) (f : Frame) (d : DetachBody) → is_over v.session ≡ false → f.body ≡ Some (heard.Detach d) → find (has_peer_handle d.handle) v.links ≡ Some l
        → step_act l.role l.name v (Heard f) (sends e) ≡ goes
    act-goes v l f d lives' body found =
        let unsent : v.session.end_sent ≡ false = first-none v.session.end_sent v.session.end_heard lives' in
        let kept' : is_dropped v f.body ≡ false = rw unsent refl in
        let named : has_name l.role l.name l ≡ true = name-self l.role l.name in
        rw (kept', body, found, named) refl
      where
        first-none : (a b : Bool) → a || b ≡ false → a ≡ false
        first-none true b h = absurd (cc (h))
        first-none false b h = refl

-- a step that hears leaves no link; a link goes by a detach
heard-goes : (role : Role) (name : List ℕ) (v : View) (g : Frame) (sent : Option Frame) (s : Slot EndView) → tells (step_act role name v (Heard g) sent) s ≡ Some detach
    → (learns (step_act role name v (Heard g) sent) ≡ Some detach) × ((attached s ≡ true) × (is_detach g.body ≡ true))
heard-goes role name v g sent s h = by (is_dropped v g.body) g.body h
  where
    met : (b : Bool) (h : EndView) → tells (cond b (meets h) idle) s ≡ Some detach → ⊥
    met true h e = absurd (cc (e))
    met false h e = absurd (cc (e))

    gone : (b : Bool) → ◌≡◌ {A = Option (Message EndView)} (cond b (Some detach) None) (Some detach) → b ≡ true
    gone true e = refl
    gone false e = absurd (cc (e))

    named : (b : Bool) → tells (cond b goes idle) s ≡ Some detach → (learns {H = EndView} (cond b goes idle) ≡ Some detach) × (attached s ≡ true)
    named true e = (refl, gone (attached s) e)
    named false e = absurd (cc (e))

    of : (o : Option LinkView) → tells (on_named role name goes o) s ≡ Some detach → (learns (on_named role name goes o) ≡ Some detach) × (attached s ≡ true)
    of None e = absurd (cc (e))
    of (Some l) e = named (has_name role name l) e

    by : (dropped : Bool) (body : Option Performative) → tells (cond dropped idle (body_act role name v body)) s ≡ Some detach
        → (learns (cond dropped idle (body_act role name v body)) ≡ Some detach) × ((attached s ≡ true) × (is_detach body ≡ true))
    by true body e = absurd (cc (e))
    by false (Some (heard.Attach b)) e = absurd (met (same_role role (opposite b.role) && pointwise nat_eq name b.name) _ e)
    by false (Some (heard.Detach b)) e = let k = of (find (has_peer_handle b.handle) v.links) e in (k.0, (k.1, refl))
    by false _ e = absurd (cc (e))

plus-grows : (o : Option (Message EndView)) (n : ℕ) → n ≤ plus o n
plus-grows None n = omega arith
plus-grows (Some (attach h)) n = omega arith
plus-grows (Some detach) n = omega arith

sent-grows : (i : Role × List ℕ) (c : Config) (early past : List Entry) → IsTail early past → left_sent i c early ≤ left_sent i c past
sent-grows i c early past t = lag.tail-grows (λ p. left_sent i c p) (λ e p. plus-grows (tells (act i c e p) (st i c p)) (left_sent i c p)) early past t

-- left once, an end is owed no more
owes-none : (s : Slot EndView) → attached s ≡ true → owed s ≡ 0
owes-none s h = by (is_some s.ours && is_some s.theirs) s.left h
  where
    by : (b l : Bool) → b && not l ≡ true → ◌≡◌ {A = ℕ} (cond l 1 0) 0
    by true true h = absurd (cc (h))
    by true false h = refl
    by false l h = absurd (cc (h))

-- # Two entries: x sends f as it heard g, and e hears f

module _ (ca cb : Config) (m : ℕ) (x : Entry) (before : List Entry) (e : Entry) (past : List Entry) (w : World ca cb (suc m) (x ∷ before) past) (tight : count sends before ≡ count hears past) (fair : IsFair cb e past)
    (f g : Frame) (sent : sends x ≡ Some f) (heard-it : hears x ≡ Some g) (heard' : hears e ≡ Some f) where
  there : Tight ca cb m before past
  there = record { world = lag.cut sends hears IsFair ca cb m x before past w (omega (arith, tight)); tight = tight }

  move : Moves ca x before past
  move = lag.moved sends hears IsFair ca cb (suc m) x before past w

  -- neither is an end
  still-lives : (y : Entry) (rest : List Entry) (k : Frame) → y.step ≡ Heard k → is_end k.body ≡ false → Lives rest → Lives (y ∷ rest)
  still-lives y rest k step other lives =
      by-bool (is_over (session_at (live (y ∷ rest))))
      (λ (over : is_over (session_at (live (y ∷ rest))) ≡ true).
      absurd (⊎_elim (λ (o : is_over (session_at (live rest)) ≡ true). cc (o, lives))
      (λ (last : ends y || hears_end y ≡ true).
      let none : ends y || hears_end y ≡ false = ap (λ (s : Step). is_own_end (own_in s) || is_end (body_heard s)) step ∙ other in
      cc (last, none)) (newly y rest over)))
      (λ (open' : is_over (session_at (live (y ∷ rest))) ≡ false). open')

  no-end : (body : Option Performative) → is_detach body ≡ true → is_end body ≡ false
  no-end (Some (heard.Detach d)) h = refl
  no-end _ h = absurd (cc (h))

  too-many : (hb hb' sb sp hp se : ℕ) → hb' ≡ hb + 1 → hb' ≡ se → se ≤ sp → hp ≡ sb → sb ≡ hb → sp ≡ hp → ⊥
  too-many hb hb' sb sp hp se a b c d e f = absurd (omega (arith, a, b, c, d, e, f))

  none-owed : (s h : ℕ) (o : ℕ) → s ≡ h + o → o ≡ 0 → s ≡ h
  none-owed s h o e z = omega (arith, e, z)

  detach-unanswered : is_detach f.body ≡ true → Parts cb e past → ⊥
  detach-unanswered is p =
      let i : Role × List ℕ = (opposite p.role, p.name) in
      let j : Role × List ℕ = (p.role, p.name) in
      let one : Meets i j = (opposite-twice p.role, refl) in
      let other : Meets j i = (refl, refl) in
      let fa : AllFair ca (x ∷ before) = lag.all-fair sends hears IsFair ca cb (suc m) (x ∷ before) past w in
      let fb : AllFair cb (e ∷ past) = ((fair-both ca cb m before past there.world).1, fair) in
      let after' : Lives (e ∷ past) = still-lives e past f (heard-step e.step f heard') (no-end f.body is) p.lives in
      let agree = slots.slot-agrees sends hears IsFair Meets st act Lives acts ca cb m before past there i j one p.lives in
      let told = acts.passes i j ca cb x e before past f one fa fb after' agree.asked sent heard' in
      let step : x.step ≡ Heard g = heard-step x.step g heard-it in
      let told' : tells (step_act i.0 i.1 (at ca before) x.step (sends x)) (st i ca before) ≡ Some detach = sym told ∙ ap (λ (a : Act EndView). learns a) p.goes' in
      let k = heard-goes i.0 i.1 (at ca before) g (sends x) (st i ca before) (subst (λ (s : Step). tells (step_act i.0 i.1 (at ca before) s (sends x)) (st i ca before) ≡ Some detach) step told') in
      let learnt : learns (act i ca x before) ≡ Some detach = subst (λ (s : Step). learns (step_act i.0 i.1 (at ca before) s (sends x)) ≡ Some detach) (sym step) k.0 in
      let lives-before : Lives before = behind-lives ca cb m before past there p.lives in
      let lives-x : Lives (x ∷ before) = still-lives x before g step (no-end g.body k.1.1) lives-before in
      let s = lag.star sends hears IsFair ca cb (suc m) (x ∷ before) past w in
      let heard-more : left_heard i ca (x ∷ before) ≡ left_heard i ca before + 1 = ap (λ o. plus o (left_heard i ca before)) learnt in
      too-many (left_heard i ca before) (left_heard i ca (x ∷ before)) (left_sent i ca before) (left_sent j cb past) (left_heard j cb past) (left_sent j cb s.early)
      heard-more
      (detaches-known cb ca s.moves s.early (x ∷ before) s.behind lives-x j i other)
      (sent-grows j cb s.early past s.is_tail)
      (detaches-known ca cb m before past there p.lives i j one)
      (none-owed (left_sent i ca before) (left_heard i ca before) (owed (st i ca before)) (balanced ca cb m before past there.world lives-before i) (owes-none (st i ca before) k.1.0))
      (none-owed (left_sent j cb past) (left_heard j cb past) (owed (st j cb past)) (balanced cb ca m past before (lag.swapped sends hears IsFair ca cb m before past there.world) p.lives j) (owes-none (st j cb past) p.attached'))

  end-unanswered : is_end g.body ≡ true → is_mapped (at cb past).session ≡ true → ⊥
  end-unanswered is mapped =
      let over = over-there ca cb m x before past there.world move g (heard-step x.step g heard-it) is in
      let lives = mapped-not-over (at cb past).session mapped in
      cc (over, lives)

  pub unanswered : sends e ≡ None
  unanswered = by (sends e) refl
    where
      of : (h : Frame) → frame_among e.reply.sent ≡ Some h → (body : Option Performative) → f.body ≡ body → body_answer (at cb past) body f.payload ≡ Ok e.reply → IsAnswer g.body body → ⊥
      of h is (Some (heard.Flow b)) body k a = flow-unanswered (at cb past) b f.payload e.reply h a k is
      of h is (Some (heard.Detach d)) body k a =
          let fb : AllFair cb (e ∷ past) = ((fair-both ca cb m before past there.world).1, fair) in
          detach-unanswered (ap is_detach body) (parts cb e past f d e.reply h (one-more (Sender, []) cb e past fb).sound (heard-step e.step f heard') body k is)
      of h is (Some (heard.End b)) body k a = end-unanswered a (end-answers-mapped (at cb past) (Some (heard.End b)) f.payload e.reply h refl k is)
      of h is _ body k a = a

      by : (o : Option Frame) → sends e ≡ o → sends e ≡ None
      by None is = is
      by (Some h) is =
          let k = kept-answer (at cb past) f e.reply h (heard-answer cb e past f fair (heard-step e.step f heard')) is in
          let k' = kept-answer (at ca before) g x.reply f (heard-answer ca x before g move.fair (heard-step x.step g heard-it)) sent in
          absurd (of h is f.body refl k (answers-are (at ca before) g.body g.payload x.reply f k' sent))
