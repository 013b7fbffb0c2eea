-- An attach is taken.
use Rattle.std.proofs.Common.{◌≡◌, ℕ, ◌==◌, ◌&&◌, Bool, true, false, cond, Option, Some, None, Ok, List, [], refl, sym, ap, ◌∙◌, find, is_some, is_none, IsOk}
use Rattle.amqp_performatives.specs.declared.bodies.Role.{Role}
use Rattle.amqp_performatives.specs.declared.bodies.Role.TheVariants.{Sender, Receiver}
use Rattle.amqp_performatives.specs.declared.performative.Performative.{Performative}
use Rattle.amqp_performatives.specs.declared.performative.Performative.TheVariants as heard
use Rattle.amqp_frames.specs.declared.frame.Frame.{Frame}
use Rattle.amqp_rules.specs.declared.config.Config.{Config}
use Rattle.amqp_rules.specs.declared.op.Op.{Op}
use Rattle.amqp_rules.specs.declared.op.Op.TheVariants.{Attach}
use Rattle.amqp_rules.specs.declared.reply.Reply.{Reply}
use Rattle.amqp_rules.specs.declared.reply.Given.TheVariants as given
use Rattle.amqp_rules.specs.View.{EndView, LinkView, View, free_handle, has_handle, has_name, has_peer_handle, holds, is_mapped, is_offered_as, is_over, is_sender, is_theirs, opposite, takes_frames}
use Rattle.amqp_rules.specs.Attach.{Wanted, attach_answer, attach_refusals, attach_sent, number_met}
use Rattle.amqp_rules.specs.PeerAttach.{lacks_count}
use Rattle.amqp_rules.specs.Answer.{heard_answer, is_end}
use Rattle.amqp_rules.specs.Sound.{IsSound}
use Rattle.amqp_rules.proofs.Accepted.{not-false, sends-ok}
use Rattle.amqp_rules.proofs.Free.{free-handle_is-lowest}
use Rattle.amqp_rules.proofs.Listed.{none-passes}
use Rattle.amqp_laws.specs.declared.entry.Entry.{Entry}
use Rattle.amqp_laws.specs.declared.entry.Step.{Step}
use Rattle.amqp_laws.specs.declared.entry.Step.TheVariants.{Opened, Own, Heard}
use Rattle.amqp_laws.specs.Said.{body_heard, own_in}
use Rattle.amqp_laws.specs.At.{at}
use Rattle.amqp_laws.proofs.Sound.{at-is-sound}
use Rattle.amqp_laws.proofs.Twice.{and-both}
use Rattle.amqp_laws.proofs.AttachLaw.{not-over}
use Rattle.amqp_pair_laws.proofs.Plain.{Answers, OwnAnswers}
use Rattle.amqp_pair_laws.specs.World.{IsFair, frame_among, hears, sends}
use Rattle.amqp_pair_laws.proofs.FrameKinds.{AreTaken, IsAttach}
use Rattle.amqp_pair_laws.proofs.Lag as lag
use Rattle.amqp_pair_laws.proofs.Slots.{Slot, kept}
use Rattle.amqp_pair_laws.proofs.SlotOf.{shape, slot_of}
use Rattle.amqp_pair_laws.proofs.Named.{every-found, found-passes, name-self, named-found}
use Rattle.amqp_pair_laws.proofs.Doing.{free-ours}
use Rattle.amqp_pair_laws.proofs.SlotActs.{SlotsAgree, slots-known}
use Rattle.amqp_pair_laws.proofs.Sends.{Sending, begins, flows, is_attach, is_own_attach, others, silent, step-sending, transfers}
use Rattle.amqp_pair_laws.proofs.Opens.{body-of, good}
use Rattle.amqp_pair_laws.proofs.Next.{Next, next-of, ready-by, taken-by}

-- # The end that sent it

record WasAttach (v : View) (reply : Reply) : Type 0 where
  wanted : Wanted
  answer : attach_answer v wanted ≡ Ok reply

was-own : (v : View) (op : Op) (reply : Reply) → OwnAnswers v op reply → is_own_attach (Some op) ≡ true → WasAttach v reply
was-own v (Attach name role snd rcv source target count max_message) reply h is =
    record { wanted = record { name = name; role = role; snd = snd; rcv = rcv; source = source; target = target; count = count; max_message = max_message; items = [] }; answer = h }
was-own v _ reply h is = absurd (cc (is))

was-attach : (v : View) (step : Step) (reply : Reply) → Answers v step reply → is_own_attach (own_in step) ≡ true → WasAttach v reply
was-attach v (Opened told) reply h is = absurd (cc (is))
was-attach v (Own op) reply h is = was-own v op reply h is
was-attach v (Heard f) reply h is = absurd (cc (is))

attach-asked : (v after : View) (hears : Option Performative) (op : Option Op) (reply : Reply) (f : Frame) → Sending v after hears op reply → frame_among reply.sent ≡ Some f → is_attach f.body ≡ true → is_own_attach op ≡ true
attach-asked v after hears op reply f (silent q) sent is = absurd (cc (q, sent))
attach-asked v after hears op reply f (transfers t payload deaf mapped room named carries' one) sent is = let b = ap is_attach (body-of reply.sent (heard.Transfer t) payload f one sent) in absurd (cc (b, is))
attach-asked v after hears op reply f (flows w t mapped open' begun numbers one) sent is = let b = ap is_attach (body-of reply.sent (heard.Flow w) [] f one sent) in absurd (cc (b, is))
attach-asked v after hears op reply f (begins w deaf is-begin unsent open' takes comes one) sent is = let b = ap is_attach (body-of reply.sent (heard.Begin w) [] f one sent) in absurd (cc (b, is))
attach-asked v after hears op reply f (others p payload t w beside one) sent is = let b = ap is_attach (body-of reply.sent p payload f one sent) in beside.attaches (sym b ∙ is)

-- # The end that hears it

kept-none : (s : Slot EndView) → s.ours ≡ None → kept s ≡ None
kept-none s n = by s.left n
  where
    by : (left : Bool) → s.ours ≡ None → cond left None s.ours ≡ None
    by true n = refl
    by false n = n

opposite-twice : (r : Role) → opposite (opposite r) ≡ r
opposite-twice Sender = refl
opposite-twice Receiver = refl

name-is-free : (role : Role) (name : List ℕ) (va vb : View) → IsSound vb → SlotsAgree role name va vb → (slot_of role name va.links).ours ≡ None → is_some (find (is_theirs (opposite role) name) vb.links) ≡ false
name-is-free role name va vb s k none = by (find (is_theirs (opposite role) name) vb.links) refl
  where
    by : (o : Option LinkView) → find (is_theirs (opposite role) name) vb.links ≡ o → is_some o ≡ false
    by None f = refl
    by (Some m) f =
        let both = and-both (has_name (opposite role) name m) (is_some m.theirs) (found-passes (is_theirs (opposite role) name) vb.links m f) in
        let there = named-found (opposite role) name (is_theirs (opposite role) name) vb.links m s.links.names f both.0 in
        let e : ◌≡◌ {A = Option EndView} None m.theirs = sym (kept-none (slot_of role name va.links) none) ∙ k.asked ∙ ap (λ o. (shape o).theirs) there in
        let some = both.1 in
        absurd (cc (e, some))

handle-is-free : (va vb : View) (h : ℕ) → IsSound vb → ((role : Role) (name : List ℕ) → SlotsAgree role name va vb) → is_some (find (has_handle h) va.links) ≡ false → is_some (find (has_peer_handle h) vb.links) ≡ false
handle-is-free va vb h s k free = by (find (has_peer_handle h) vb.links) refl
  where
    kept-ours : (left : Bool) (o t : Option EndView) → cond left None o ≡ t → holds (λ e. e.handle == h) t ≡ true → holds (λ e. e.handle == h) o ≡ true
    kept-ours true o t e is = let n = rw (← e) at is in absurd (cc (n))
    kept-ours false o t e is = ap (λ (o : Option EndView). holds (λ e. e.handle == h) o) e ∙ is

    asked-by : (o : Option LinkView) (role : Role) (name : List ℕ) (t : Option EndView) → find (has_name role name) va.links ≡ o → kept (shape o) ≡ t → holds (λ e. e.handle == h) t ≡ true → ⊥
    asked-by None role name t f e is = let n = rw (← e) at is in absurd (cc (n))
    asked-by (Some l) role name t f e is =
        let mine : has_handle h l ≡ true = kept-ours l.left l.ours t e is in
        let other : has_handle h l ≡ false = every-found (λ l. has_handle h l ≡ false) (has_name role name) va.links l (none-passes (has_handle h) va.links free) f in
        absurd (cc (mine, other))

    by : (o : Option LinkView) → find (has_peer_handle h) vb.links ≡ o → is_some o ≡ false
    by None f = refl
    by (Some m) f =
        let there = named-found m.role m.name (has_peer_handle h) vb.links m s.links.names f (name-self m.role m.name) in
        let e : kept (slot_of (opposite m.role) m.name va.links) ≡ m.theirs =
        (k (opposite m.role) m.name).asked ∙ ap (λ (r : Role). (slot_of r m.name vb.links).theirs) (opposite-twice m.role) ∙ ap (λ o. (shape o).theirs) there in
        absurd (asked-by (find (has_name (opposite m.role) m.name) va.links) (opposite m.role) m.name m.theirs refl e (found-passes (has_peer_handle h) vb.links m f))

has-count : (v : View) (a : Wanted) → lacks_count (attach_sent v a) ≡ false
has-count v a = by a.role
  where
    by : (role : Role) → is_sender role && is_none (cond (is_sender role) (Some a.count) None) ≡ false
    by Sender = refl
    by Receiver = refl

attach-next : (ca cb : Config) (b : List Entry) (f : Frame) (x : Next ca cb b f) → WasAttach (at ca x.before) x.entry.reply → IsOk (heard_answer (at cb b) f)
attach-next ca cb b f x was =
    let v = at ca x.before in
    let a = was.wanted in
    let t = attach_sent v a in
    let k = sends-ok v.max_frame (attach_refusals v a) (Some (heard.Attach t)) [] (given.Link (number_met v.made (find (is_offered_as a.role a.name) v.links))) x.entry.reply was.answer in
    let body : f.body ≡ Some (heard.Attach t) = body-of x.entry.reply.sent (heard.Attach t) [] f (ap (λ (r : Reply). r.sent) (sym k.replies)) x.sent in
    let other : is_end f.body ≡ false = ap is_end body in
    let tight = x.tight in
    let gb = good cb ca x.moves b x.before (lag.swapped sends hears IsFair ca cb x.moves x.before b tight.world) in
    let sound = at-is-sound cb b gb.replayed gb.few in
    taken-by (at cb b) f (ready-by ca cb b f x (not-false (is_mapped v.session) k.none_holds.0)) other
    (λ (takes : takes_frames (at cb b).session ≡ true).
    let lives = not-over (at cb b).session.begin_heard (is_over (at cb b).session) takes in
    let agree = slots-known ca cb x.moves x.before b tight lives in
    let free = free-ours v a.role a.name k.none_holds.1.0 (find (has_name a.role a.name) v.links) refl in
    let name = name-is-free a.role a.name v (at cb b) sound (agree a.role a.name) free in
    let handle = handle-is-free v (at cb b) (free_handle v.links) sound agree (free-handle_is-lowest v.links).free in
    rw (body, takes, handle, name, has-count v a) refl)

-- the next frame, where it is an attach, is no violation
pub attaches-taken : AreTaken IsAttach
attaches-taken ca cb n a b f w waits of =
    let x = next-of ca cb n a b f w waits in
    let s = step-sending (at ca x.before) x.entry.step x.entry.reply x.answers in
    let asked = attach-asked (at ca x.before) _ (body_heard x.entry.step) (own_in x.entry.step) x.entry.reply f s x.sent (by f.body of) in
    attach-next ca cb b f x (was-attach (at ca x.before) x.entry.step x.entry.reply x.answers asked)
  where
    by : (body : Option Performative) → IsAttach body → is_attach body ≡ true
    by (Some (heard.Attach b)) k = refl
    by _ k = absurd k
