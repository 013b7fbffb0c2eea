-- What one accepted step does in the slot of a role and a name, and what of it the other end is told.
use Rattle.std.proofs.Common.{◌≡◌, ℕ, ◌==◌, ◌&&◌, ◌||◌, Bool, true, false, not, cond, Option, Some, None, Result, Ok, List, [], refl, sym, ap, ◌∙◌, subst, find, is_some, is_none, nat_eq}
use Rattle.std.specs.Cmp.Lexicographic.{pointwise}
use Rattle.amqp_performatives.specs.declared.bodies.Role.{Role}
use Rattle.amqp_performatives.specs.declared.bodies.AttachBody.{AttachBody}
use Rattle.amqp_performatives.specs.declared.bodies.DetachBody.{DetachBody}
use Rattle.amqp_performatives.specs.declared.error.AmqpError.{AmqpError}
use Rattle.amqp_performatives.specs.declared.performative.Performative.{Performative}
use Rattle.amqp_performatives.specs.declared.performative.Performative.TheVariants as heard
use Rattle.amqp_frames.specs.declared.frame.Frame.{Frame}
use Rattle.amqp_events.specs.Event.{Leaves}
use Rattle.amqp_rules.specs.declared.op.Op.{Op}
use Rattle.amqp_rules.specs.declared.op.Op.TheVariants.{Begin, Attach, Start, Carry, Abort, Dispose, Learn, Grant, Offer, Drained, Refresh, Take, Detach, Suspend, Rejoin, Resume, End, Beat}
use Rattle.amqp_rules.specs.declared.reply.Reply.{Reply}
use Rattle.amqp_rules.specs.declared.reply.Given.TheVariants as given
use Rattle.amqp_rules.specs.declared.violation.Violation.{Violation}
use Rattle.amqp_rules.specs.declared.violation.ViolationKind.TheVariants.{OutOfSession, BadHandle}
use Rattle.amqp_rules.specs.View.{EndView, LinkView, View, handle_of, has_name, has_number, has_peer_handle, holds, is_attached, is_asked_as, is_offered_as, is_offered, is_asked, is_mapped, is_ours, is_over, is_theirs, new_link, opposite, same_role, takes_frames}
use Rattle.amqp_rules.specs.Refusing.{first_refusal, if_there, unlinked}
use Rattle.amqp_rules.specs.Opened.{no_reply}
use Rattle.amqp_rules.specs.Sending.{frame_of, reply_ending, sends_ending}
use Rattle.amqp_rules.specs.Deliveries.{ended_by}
use Rattle.amqp_rules.specs.Attach.{Wanted, attach_answer, attach_refusals, attach_sent, attached_by_peer, attached_by_us, end_of, next_attach, number_met}
use Rattle.amqp_rules.specs.PeerAttach.{attach_heard_answer, attach_heard_reply, attach_violations, next_attach_heard}
use Rattle.amqp_rules.specs.Detach.{detach_body, detach_refusals, left_by_us, next_detach}
use Rattle.amqp_rules.specs.PeerDetach.{detach_heard_answer, detach_reply, next_detach_heard, parting}
use Rattle.amqp_rules.specs.Answer.{body_answer, is_dropped, next_body, next_own}
use Rattle.amqp_rules.specs.Sound.{IsSound, has_end, keys}
use Rattle.amqp_rules.proofs.Accepted.{answered_Ok, no_refusal, not-false, on-link-ok, sends-ok, sends-ending-ok, there_Ok, unless_Ok}
use Rattle.amqp_rules.proofs.Listed.{by-bool, none-passes}
use Rattle.amqp_laws.specs.Said.{is_detach}
use Rattle.amqp_laws.specs.declared.entry.Step.{Step}
use Rattle.amqp_laws.specs.declared.entry.Step.TheVariants.{Opened, Own, Heard}
use Rattle.amqp_laws.specs.Lawful.{next}
use Rattle.amqp_laws.proofs.Twice.{and-both}
use Rattle.amqp_pair_laws.proofs.Plain.{Answers, OwnAnswers, bare}
use Rattle.amqp_pair_laws.specs.World.{frame_among}
use Rattle.amqp_pair_laws.proofs.Slots.{Act, idle, asks, meets, leaves, goes, after, no_slot}
use Rattle.amqp_pair_laws.proofs.SlotOf.{IsIdle, IsIdleBody, body-idle, own-idle, shape, slot_of}
use Rattle.amqp_pair_laws.proofs.Sends.{Sending, begins, body-sending, flows, is_attach, is_own_attach, is_own_detach, others, own-sending, silent, transfers}
use Rattle.amqp_pair_laws.proofs.Opens.{body-of}
use Rattle.amqp_pair_laws.proofs.Named.{KeepsName, Meets, changed-other, changed-there, every-found, every-unmapped, found-passes, joined-other, joined-there, named-found, none-is, or_this, removed-other, removed-there, role-same, texts-same}
use Rattle.amqp_rules.specs.Suspend.{put_aside}
use Rattle.amqp_rules.specs.OnLink.{on_link}
use Rattle.amqp_rules.specs.declared.reply.Given.{Given}

-- # Acts

abbrev pub asks_in : Role → List ℕ → Option Performative → Act EndView
asks_in role name (Some (heard.Attach b)) = cond (same_role role b.role && pointwise nat_eq name b.name) (asks (end_of b)) idle
asks_in role name _ = idle

abbrev pub asks_of : Role → List ℕ → Option Frame → Act EndView
asks_of role name None = idle
asks_of role name (Some f) = asks_in role name f.body

-- where the link has the role and the name
abbrev pub on_named : Role → List ℕ → Act EndView → Option LinkView → Act EndView
on_named role name act None = idle
on_named role name act (Some l) = cond (has_name role name l) act idle

-- we leave the link with this number
abbrev pub left_act : Role → List ℕ → View → ℕ → Option Frame → Act EndView
left_act role name v link sent = cond (is_some sent) (on_named role name leaves (find (has_number link) v.links)) idle

abbrev pub own_act : Role → List ℕ → View → Op → Option Frame → Act EndView
own_act role name v (Attach name' role' snd rcv source target count max_message) sent = asks_of role name sent
own_act role name v (Detach link error) sent = left_act role name v link sent
own_act role name v (Suspend link) sent = left_act role name v link sent
own_act role name v _ sent = idle

abbrev pub body_act : Role → List ℕ → View → Option Performative → Act EndView
body_act role name v (Some (heard.Attach b)) = cond (same_role role (opposite b.role) && pointwise nat_eq name b.name) (meets (end_of b)) idle
body_act role name v (Some (heard.Detach b)) = on_named role name goes (find (has_peer_handle b.handle) v.links)
body_act role name v _ = idle

abbrev pub step_act : Role → List ℕ → View → Step → Option Frame → Act EndView
step_act role name v (Opened told) sent = idle
step_act role name v (Own op) sent = own_act role name v op sent
step_act role name v (Heard f) sent = cond (is_dropped v f.body) idle (body_act role name v f.body)

-- # What is told of another slot

-- a detach of a link of ours that has another role or name
pub record IsOther (role : Role) (name : List ℕ) (v : View) (d : DetachBody) : Type 0 where
  pub test : LinkView → Bool
  pub link : LinkView
  pub found : find test v.links ≡ Some link
  pub handle : d.handle ≡ handle_of link.ours
  pub attached : is_attached link ≡ true
  pub unnamed : has_name role name link ≡ false

abbrev pub IsApartIn : Role → List ℕ → View → Option Performative → Type 0
IsApartIn role name v (Some (heard.Attach b)) = same_role role b.role && pointwise nat_eq name b.name ≡ false
IsApartIn role name v (Some (heard.Detach d)) = IsOther role name v d
IsApartIn role name v _ = Unit {0}

abbrev pub IsApart : Role → List ℕ → View → Option Frame → Type 0
IsApart role name v None = Unit {0}
IsApart role name v (Some f) = IsApartIn role name v f.body

-- by the links before and after
pub data Doing (role : Role) (name : List ℕ) (v after' : View) (act : Act EndView) (sent : Option Frame) : Type 0 where
  idles : act ≡ idle → (is_over after'.session ≡ false → slot_of role name after'.links ≡ slot_of role name v.links) → IsApart role name v sent → Doing role name v after' act sent
  asking : (b : AttachBody) (f : Frame) → takes_frames v.session ≡ true → act ≡ asks (end_of b) → sent ≡ Some f → f.body ≡ Some (heard.Attach b) → same_role role b.role && pointwise nat_eq name b.name ≡ true
      → (slot_of role name v.links).ours ≡ None → slot_of role name after'.links ≡ after (asks (end_of b)) (slot_of role name v.links) → Doing role name v after' act sent
  meeting : (b : AttachBody) → takes_frames v.session ≡ true → act ≡ meets (end_of b) → sent ≡ None → (slot_of role name v.links).theirs ≡ None
      → slot_of role name after'.links ≡ after (meets (end_of b)) (slot_of role name v.links) → Doing role name v after' act sent
  leaving : (l : LinkView) (f : Frame) (d : DetachBody) → act ≡ leaves → sent ≡ Some f → f.body ≡ Some (heard.Detach d) → d.handle ≡ handle_of l.ours → slot_of role name v.links ≡ shape (Some l)
      → find (has_name role name) v.links ≡ Some l → is_attached l ≡ true → slot_of role name after'.links ≡ after leaves (slot_of role name v.links) → Doing role name v after' act sent
  going : (l : LinkView) (d : DetachBody) → act ≡ goes → sent ≡ cond (is_attached l) (Some (frame_of (Some (heard.Detach d)) [])) None → d.handle ≡ handle_of l.ours → slot_of role name v.links ≡ shape (Some l)
      → find (has_name role name) v.links ≡ Some l → is_some l.theirs ≡ true → slot_of role name after'.links ≡ no_slot → Doing role name v after' act sent

-- # Steps that speak of no link's attach or detach

apart-by : (role : Role) (name : List ℕ) (v after' : View) (hears : Option Performative) (op : Option Op) (reply : Reply) → Sending v after' hears op reply
    → is_own_attach op ≡ false → is_own_detach op || is_detach hears ≡ false → (o : Option Frame) → frame_among reply.sent ≡ o → IsApart role name v o
apart-by role name v after' hears op reply s na nd None is = tt
apart-by role name v after' hears op reply (silent q) na nd (Some f) is = absurd (cc (q, is))
apart-by role name v after' hears op reply (transfers t payload deaf mapped room named carries' one) na nd (Some f) is =
    subst (λ (o : Option Performative). IsApartIn role name v o) (sym (body-of reply.sent (heard.Transfer t) payload f one is)) tt
apart-by role name v after' hears op reply (flows w t mapped open' begun numbers one) na nd (Some f) is =
    subst (λ (o : Option Performative). IsApartIn role name v o) (sym (body-of reply.sent (heard.Flow w) [] f one is)) tt
apart-by role name v after' hears op reply (begins w deaf is-begin unsent open' takes comes one) na nd (Some f) is =
    subst (λ (o : Option Performative). IsApartIn role name v o) (sym (body-of reply.sent (heard.Begin w) [] f one is)) tt
apart-by role name v after' hears op reply (others p payload t w beside one) na nd (Some f) is =
    subst (λ (o : Option Performative). IsApartIn role name v o) (sym (body-of reply.sent p payload f one is)) (by p beside.attaches beside.detaches)
  where
    by : (p : Performative) → (is_attach (Some p) ≡ true → is_own_attach op ≡ true) → (is_detach (Some p) ≡ true → is_own_detach op || is_detach hears ≡ true) → IsApartIn role name v (Some p)
    by (heard.Attach b) a d = let k = a refl in absurd (cc (k, na))
    by (heard.Detach b) a d = let k = d refl in absurd (cc (k, nd))
    by _ a d = tt

abbrev OwnDoes : Role → List ℕ → View → Op → Reply → Type 0
OwnDoes role name v op reply = Doing role name v (next_own v op) (own_act role name v op (frame_among reply.sent)) (frame_among reply.sent)

idle-does : (role : Role) (name : List ℕ) (v : View) (op : Op) (reply : Reply) → OwnAnswers v op reply → IsIdle op → is_own_attach (Some op) ≡ false → is_own_detach (Some op) || false ≡ false
    → own_act role name v op (frame_among reply.sent) ≡ idle → OwnDoes role name v op reply
idle-does role name v op reply h i na nd is =
    idles is (λ o. own-idle role name v op i) (apart-by role name v (next_own v op) None (Some op) reply (own-sending v op reply h) na nd (frame_among reply.sent) refl)

-- # Our attach

offered-by : (named : Bool) (ours theirs : Option EndView) → named ≡ true → named && is_some ours ≡ false → is_some ours || is_some theirs ≡ true → named && (is_some theirs && is_none ours) ≡ true
offered-by true (Some o) theirs n h e = absurd (cc (h))
offered-by true None (Some t) n h e = refl
offered-by true None None n h e = absurd (cc (e))
offered-by false ours theirs n h e = absurd (cc (n))

asked-by : (named : Bool) (ours theirs : Option EndView) → named ≡ true → named && is_some theirs ≡ false → is_some ours || is_some theirs ≡ true → named && (is_some ours && is_none theirs) ≡ true
asked-by true ours (Some t) n h e = absurd (cc (h))
asked-by true (Some o) None n h e = refl
asked-by true None None n h e = absurd (cc (e))
asked-by false ours theirs n h e = absurd (cc (n))

and-some-none : (named : Bool) (o : Option EndView) → named ≡ true → named && is_some o ≡ false → o ≡ None
and-some-none true o n h = none-is o h
and-some-none false o n h = absurd (cc (n))

end-there : (v : View) → IsSound v → (test : LinkView → Bool) (l : LinkView) → find test v.links ≡ Some l → is_some l.ours || is_some l.theirs ≡ true
end-there v s test l h = every-found (λ l. has_end (keys l) ≡ true) test v.links l (every-unmapped keys (λ k. has_end k ≡ true) v.links s.links.ends) h

pub free-ours : (v : View) (role : Role) (name : List ℕ) → is_some (find (is_ours role name) v.links) ≡ false → (o : Option LinkView) → find (has_name role name) v.links ≡ o → (shape o).ours ≡ None
free-ours v role name free None h = refl
free-ours v role name free (Some l) h =
    and-some-none (has_name role name l) l.ours (found-passes (has_name role name) v.links l h) (every-found (λ l. is_ours role name l ≡ false) (has_name role name) v.links l (none-passes (is_ours role name) v.links free) h)

pub free-theirs : (v : View) (role : Role) (name : List ℕ) → is_some (find (is_theirs role name) v.links) ≡ false → (o : Option LinkView) → find (has_name role name) v.links ≡ o → (shape o).theirs ≡ None
free-theirs v role name free None h = refl
free-theirs v role name free (Some l) h =
    and-some-none (has_name role name l) l.theirs (found-passes (has_name role name) v.links l h) (every-found (λ l. is_theirs role name l ≡ false) (has_name role name) v.links l (none-passes (is_theirs role name) v.links free) h)

shape-asked : (b : AttachBody) (k : ℕ) (role : Role) (name : List ℕ) (o : Option LinkView) → shape (Some (attached_by_us b [] (or_this o (new_link k role name)))) ≡ after (asks (end_of b)) (shape o)
shape-asked b k role name None = refl
shape-asked b k role name (Some l) = refl

shape-met : (b : AttachBody) (k : ℕ) (role : Role) (name : List ℕ) (o : Option LinkView) → shape (Some (attached_by_peer b (or_this o (new_link k role name)))) ≡ after (meets (end_of b)) (shape o)
shape-met b k role name None = refl
shape-met b k role name (Some l) = refl

pub us-keeps : (b : AttachBody) → KeepsName (attached_by_us b [])
us-keeps b = record { role = λ l. refl; name = λ l. refl }

pub peer-keeps : (b : AttachBody) → KeepsName (attached_by_peer b)
peer-keeps b = record { role = λ l. refl; name = λ l. refl }

pub attach-joins-at : (v : View) (a : Wanted) → IsSound v → is_some (find (is_ours a.role a.name) v.links) ≡ false
    → find (has_name a.role a.name) (next_attach v (bare a)).links ≡ Some (attached_by_us (attach_sent v (bare a)) [] (or_this (find (has_name a.role a.name) v.links) (new_link v.made a.role a.name)))
attach-joins-at v a s free =
    let b = attach_sent v (bare a) in
    let m : Meets (is_offered_as a.role a.name) a.role a.name v.links =
    record {
      only = λ l h. (and-both (has_name a.role a.name l) (is_offered l) h).0;
      all = λ l h. offered-by (has_name a.role a.name l) l.ours l.theirs (found-passes (has_name a.role a.name) v.links l h)
          (every-found (λ l. is_ours a.role a.name l ≡ false) (has_name a.role a.name) v.links l (none-passes (is_ours a.role a.name) v.links free) h) (end-there v s (has_name a.role a.name) l h);
    } in
    joined-there v (is_offered_as a.role a.name) a.role a.name (attached_by_us b []) (us-keeps b) m (find (has_name a.role a.name) v.links) refl

attach-joins : (v : View) (a : Wanted) → IsSound v → is_some (find (is_ours a.role a.name) v.links) ≡ false
    → slot_of a.role a.name (next_attach v (bare a)).links ≡ after (asks (end_of (attach_sent v (bare a)))) (slot_of a.role a.name v.links)
attach-joins v a s free = ap shape (attach-joins-at v a s free) ∙ shape-asked (attach_sent v (bare a)) v.made a.role a.name (find (has_name a.role a.name) v.links)

attach-does : (role : Role) (name : List ℕ) (v : View) (a : Wanted) (reply : Reply) → attach_answer v (bare a) ≡ Ok reply → IsSound v
    → Doing role name v (next_attach v (bare a)) (asks_of role name (frame_among reply.sent)) (frame_among reply.sent)
attach-does role name v a reply h s =
    let b = attach_sent v (bare a) in
    let k = sends-ok v.max_frame (attach_refusals v (bare a)) (Some (heard.Attach b)) [] (given.Link (number_met v.made (find (is_offered_as a.role a.name) v.links))) reply h in
    let f = frame_of (Some (heard.Attach b)) [] in
    let sent : frame_among reply.sent ≡ Some f = ap (λ (r : Reply). frame_among r.sent) (sym k.replies) in
    let free : is_some (find (is_ours a.role a.name) v.links) ≡ false = k.none_holds.1.0 in
    let takes : takes_frames v.session ≡ true = (and-both v.session.begin_sent (takes_frames v.session) (not-false (is_mapped v.session) k.none_holds.0)).1 in
    subst (λ (o : Option Frame). Doing role name v (next_attach v (bare a)) (asks_of role name o) o) (sym sent)
    (by-bool (same_role role a.role && pointwise nat_eq name a.name)
    (λ (t : same_role role a.role && pointwise nat_eq name a.name ≡ true).
    let both = and-both (same_role role a.role) (pointwise nat_eq name a.name) t in
    let r : role ≡ a.role = role-same role a.role both.0 in
    let n : name ≡ a.name = texts-same name a.name both.1 in
    asking b f takes (rw t refl) refl refl t (rw (r, n) (free-ours v a.role a.name free (find (has_name a.role a.name) v.links) refl)) (rw (r, n) (attach-joins v a s free)))
    (λ (d : same_role role a.role && pointwise nat_eq name a.name ≡ false).
    idles (rw d refl)
    (λ o. ap shape (joined-other v (is_offered_as a.role a.name) a.role a.name role name (attached_by_us b []) (us-keeps b) (λ l h. (and-both (has_name a.role a.name l) (is_offered l) h).0) d))
    d))

-- # The peer's attach

pub met-joins-at : (v : View) (b : AttachBody) → IsSound v → is_some (find (is_theirs (opposite b.role) b.name) v.links) ≡ false
    → find (has_name (opposite b.role) b.name) (next_attach_heard v b).links ≡ Some (attached_by_peer b (or_this (find (has_name (opposite b.role) b.name) v.links) (new_link v.made (opposite b.role) b.name)))
met-joins-at v b s free =
    let role = opposite b.role in
    let m : Meets (is_asked_as role b.name) role b.name v.links =
    record {
      only = λ l h. (and-both (has_name role b.name l) (is_asked l) h).0;
      all = λ l h. asked-by (has_name role b.name l) l.ours l.theirs (found-passes (has_name role b.name) v.links l h)
          (every-found (λ l. is_theirs role b.name l ≡ false) (has_name role b.name) v.links l (none-passes (is_theirs role b.name) v.links free) h) (end-there v s (has_name role b.name) l h);
    } in
    joined-there v (is_asked_as role b.name) role b.name (attached_by_peer b) (peer-keeps b) m (find (has_name role b.name) v.links) refl

met-joins : (v : View) (b : AttachBody) → IsSound v → is_some (find (is_theirs (opposite b.role) b.name) v.links) ≡ false
    → slot_of (opposite b.role) b.name (next_attach_heard v b).links ≡ after (meets (end_of b)) (slot_of (opposite b.role) b.name v.links)
met-joins v b s free = ap shape (met-joins-at v b s free) ∙ shape-met b v.made (opposite b.role) b.name (find (has_name (opposite b.role) b.name) v.links)

attach-heard-does : (role : Role) (name : List ℕ) (v : View) (b : AttachBody) (reply : Reply) → attach_heard_answer v b ≡ Ok reply → IsSound v
    → Doing role name v (next_attach_heard v b) (body_act role name v (Some (heard.Attach b))) (frame_among reply.sent)
attach-heard-does role name v b reply h s =
    let k = answered_Ok (first_refusal (attach_violations v b)) (attach_heard_reply v b) reply h in
    let rows = no_refusal (attach_violations v b) k.none in
    let free : is_some (find (is_theirs (opposite b.role) b.name) v.links) ≡ false = rows.1.1.0 in
    let takes : takes_frames v.session ≡ true = not-false (takes_frames v.session) rows.0 in
    let sent : frame_among reply.sent ≡ None = ap (λ (r : Reply). frame_among r.sent) (sym k.replies) in
    subst (λ (o : Option Frame). Doing role name v (next_attach_heard v b) (body_act role name v (Some (heard.Attach b))) o) (sym sent)
    (by-bool (same_role role (opposite b.role) && pointwise nat_eq name b.name)
    (λ (t : same_role role (opposite b.role) && pointwise nat_eq name b.name ≡ true).
    let both = and-both (same_role role (opposite b.role)) (pointwise nat_eq name b.name) t in
    let r : role ≡ opposite b.role = role-same role (opposite b.role) both.0 in
    let n : name ≡ b.name = texts-same name b.name both.1 in
    meeting b takes (rw t refl) refl (rw (r, n) (free-theirs v (opposite b.role) b.name free (find (has_name (opposite b.role) b.name) v.links) refl)) (rw (r, n) (met-joins v b s free)))
    (λ (d : same_role role (opposite b.role) && pointwise nat_eq name b.name ≡ false).
    idles (rw d refl)
    (λ o. ap shape (joined-other v (is_asked_as (opposite b.role) b.name) (opposite b.role) b.name role name (attached_by_peer b) (peer-keeps b) (λ l h. (and-both (has_name (opposite b.role) b.name l) (is_asked l) h).0) d))
    tt))

-- # Our detach

left-keeps : KeepsName left_by_us
left-keeps = record { role = λ l. refl; name = λ l. refl }

-- a link that we leave, for good or not
leave-does : (role : Role) (name : List ℕ) (v : View) (link : ℕ) (closed : Option Bool) (error : Option AmqpError) (tell : LinkView → Given) (reply : Reply)
    → on_link v link (λ l. sends_ending v.max_frame (detach_refusals l) (detach_body (handle_of l.ours) closed error) (ended_by (Leaves link) (Leaves link) v) (tell l)) ≡ Ok reply
    → IsSound v → Doing role name v (next_detach v link) (left_act role name v link (frame_among reply.sent)) (frame_among reply.sent)
leave-does role name v link closed error tell reply h s =
    let ended = ended_by (Leaves link) (Leaves link) v in
    let o = on-link-ok v link (λ l. sends_ending v.max_frame (detach_refusals l) (detach_body (handle_of l.ours) closed error) ended (tell l)) reply h in
    let k = sends-ending-ok v.max_frame (detach_refusals o.on) (detach_body (handle_of o.on.ours) closed error) ended (tell o.on) reply o.said in
    let attached : is_attached o.on ≡ true = not-false (is_attached o.on) k.none_holds.0 in
    let d : DetachBody = record { handle = handle_of o.on.ours; closed = closed; error = error } in
    let f = frame_of (Some (heard.Detach d)) [] in
    let sent : frame_among reply.sent ≡ Some f = ap (λ (r : Reply). frame_among r.sent) (sym k.replies) in
    let found = o.found in
    subst (λ (p : Option Frame). Doing role name v (next_detach v link) (left_act role name v link p) p) (sym sent)
    (by-bool (has_name role name o.on)
    (λ (t : has_name role name o.on ≡ true).
    let there = named-found role name (has_number link) v.links o.on s.links.names found t in
    let is : slot_of role name v.links ≡ shape (Some o.on) = ap shape there in
    let gone : slot_of role name (next_detach v link).links ≡ shape (Some (left_by_us o.on)) = ap shape (changed-there role name (has_number link) left_by_us v.links o.on left-keeps there found) in
    leaving o.on f d (rw (found, t) refl) refl refl refl is there attached (gone ∙ sym (ap (after leaves) is)))
    (λ (u : has_name role name o.on ≡ false).
    idles (rw (found, u) refl) (λ p. ap shape (changed-other role name (has_number link) left_by_us v.links o.on left-keeps found u))
    (record { test = has_number link; link = o.on; found = found; handle = refl; attached = attached; unnamed = u })))

-- # The peer's detach

abbrev detach_by : Bool → View → DetachBody → LinkView → Reply
detach_by attached v b l =
    cond attached (reply_ending (detach_body (handle_of l.ours) b.closed None) [] (ended_by (Leaves l.number) (Leaves l.number) v) (parting v b l)) (record { sent = []; ended = ended_by (Leaves l.number) (Leaves l.number) v; given = given.Gone l.number })

pub detach-sends : (attached : Bool) (v : View) (b : DetachBody) (l : LinkView)
    → frame_among (detach_by attached v b l).sent ≡ cond attached (Some (frame_of (Some (heard.Detach (record { handle = handle_of l.ours; closed = b.closed; error = None }))) [])) None
detach-sends true v b l = refl
detach-sends false v b l = refl

pub theirs-there : (h : ℕ) (l : LinkView) → has_peer_handle h l ≡ true → is_some l.theirs ≡ true
theirs-there h l is = by l.theirs is
  where
    by : (o : Option EndView) → holds (λ e. e.handle == h) o ≡ true → is_some o ≡ true
    by None is = absurd (cc (is))
    by (Some e) is = refl

detach-heard-does : (role : Role) (name : List ℕ) (v : View) (b : DetachBody) (reply : Reply) → detach_heard_answer v b ≡ Ok reply → IsSound v
    → Doing role name v (next_detach_heard v b) (body_act role name v (Some (heard.Detach b))) (frame_among reply.sent)
detach-heard-does role name v b reply h s =
    let say : LinkView → Result Reply Violation = λ l. Ok (detach_reply v b l) in
    let u = unless_Ok (not (takes_frames v.session)) (unlinked OutOfSession) (if_there (find (has_peer_handle b.handle) v.links) (unlinked BadHandle) say) reply h in
    let t = there_Ok (find (has_peer_handle b.handle) v.links) (unlinked BadHandle) say reply u.1 in
    let said = t.said in
    let e : detach_reply v b t.on ≡ reply = cc said in
    let found = t.found in
    let l = t.on in
    let d : DetachBody = record { handle = handle_of l.ours; closed = b.closed; error = None } in
    let sent : frame_among reply.sent ≡ cond (is_attached l) (Some (frame_of (Some (heard.Detach d)) [])) None = ap (λ (r : Reply). frame_among r.sent) (sym e) ∙ detach-sends (is_attached l) v b l in
    let theirs = theirs-there b.handle l (found-passes (has_peer_handle b.handle) v.links l found) in
    by-bool (has_name role name l)
    (λ (n : has_name role name l ≡ true).
    let there = named-found role name (has_peer_handle b.handle) v.links l s.links.names found n in
    going l d (rw (found, n) refl) sent refl (ap shape there) there theirs (ap shape (removed-there role name (has_peer_handle b.handle) v.links l s.links.names found n)))
    (λ (n : has_name role name l ≡ false).
    idles (rw (found, n) refl) (λ p. ap shape (removed-other role name (has_peer_handle b.handle) v.links l found n))
    (subst (λ (o : Option Frame). IsApart role name v o) (sym sent)
    (by-bool (is_attached l)
    (λ (a : is_attached l ≡ true). rw a (record { test = has_peer_handle b.handle; link = l; found = found; handle = refl; attached = a; unnamed = n }))
    (λ (a : is_attached l ≡ false). rw a tt))))

-- # All steps

or-true : (a : Bool) → a || true ≡ true
or-true true = refl
or-true false = refl

own-does : (role : Role) (name : List ℕ) (v : View) (op : Op) (reply : Reply) → OwnAnswers v op reply → IsSound v → OwnDoes role name v op reply
own-does role name v (Attach name' role' snd rcv source target count max_message) reply h s =
    attach-does role name v (record { name = name'; role = role'; snd = snd; rcv = rcv; source = source; target = target; count = count; max_message = max_message; items = [] }) reply h s
own-does role name v (Detach link error) reply h s = leave-does role name v link (Some true) error (λ l. given.Nothing) reply h s
own-does role name v (Suspend link) reply h s = leave-does role name v link None None (λ l. given.Suspended (put_aside v l)) reply h s
own-does role name v (Rejoin r) reply h s = absurd h
own-does role name v (Resume link tag settled) reply h s = absurd h
own-does role name v (End error) reply h s =
    idles refl (λ o. absurd (cc (o))) (apart-by role name v (next_own v (End error)) None (Some (End error)) reply (own-sending v (End error) reply h) refl refl (frame_among reply.sent) refl)
own-does role name v Begin reply h s = idle-does role name v Begin reply h tt refl refl refl
own-does role name v (Start link tag format settled payload more) reply h s = idle-does role name v (Start link tag format settled payload more) reply h tt refl refl refl
own-does role name v (Carry link payload more) reply h s = idle-does role name v (Carry link payload more) reply h tt refl refl refl
own-does role name v (Abort link) reply h s = idle-does role name v (Abort link) reply h tt refl refl refl
own-does role name v (Dispose role' first last settled state) reply h s = idle-does role name v (Dispose role' first last settled state) reply h tt refl refl refl
own-does role name v (Learn link) reply h s = idle-does role name v (Learn link) reply h tt refl refl refl
own-does role name v (Grant link credit drain echo) reply h s = idle-does role name v (Grant link credit drain echo) reply h tt refl refl refl
own-does role name v (Offer link available) reply h s = idle-does role name v (Offer link available) reply h tt refl refl refl
own-does role name v (Drained link) reply h s = idle-does role name v (Drained link) reply h tt refl refl refl
own-does role name v (Refresh echo) reply h s = idle-does role name v (Refresh echo) reply h tt refl refl refl
own-does role name v (Take link) reply h s = idle-does role name v (Take link) reply h tt refl refl refl
own-does role name v Beat reply h s = idle-does role name v Beat reply h tt refl refl refl

abbrev BodyDoes : Role → List ℕ → View → Option Performative → List ℕ → Reply → Type 0
BodyDoes role name v body payload reply = Doing role name v (next_body v body payload) (body_act role name v body) (frame_among reply.sent)

idle-body-does : (role : Role) (name : List ℕ) (v : View) (body : Option Performative) (payload : List ℕ) (reply : Reply) → body_answer v body payload ≡ Ok reply → IsIdleBody body → is_detach body ≡ false
    → body_act role name v body ≡ idle → BodyDoes role name v body payload reply
idle-body-does role name v body payload reply h i nd is =
    idles is (λ o. body-idle role name v body payload i) (apart-by role name v (next_body v body payload) body None reply (body-sending v body payload reply h) refl nd (frame_among reply.sent) refl)

body-does : (role : Role) (name : List ℕ) (v : View) (body : Option Performative) (payload : List ℕ) (reply : Reply) → body_answer v body payload ≡ Ok reply → IsSound v → BodyDoes role name v body payload reply
body-does role name v (Some (heard.Attach b)) payload reply h s = attach-heard-does role name v b reply h s
body-does role name v (Some (heard.Detach b)) payload reply h s = detach-heard-does role name v b reply h s
body-does role name v (Some (heard.End b)) payload reply h s =
    idles refl (λ o. (let t = or-true v.session.end_sent in absurd (cc (o, t))))
    (apart-by role name v (next_body v (Some (heard.End b)) payload) (Some (heard.End b)) None reply (body-sending v (Some (heard.End b)) payload reply h) refl refl (frame_among reply.sent) refl)
body-does role name v (Some (heard.Begin b)) payload reply h s = idle-body-does role name v (Some (heard.Begin b)) payload reply h tt refl refl
body-does role name v (Some (heard.Flow b)) payload reply h s = idle-body-does role name v (Some (heard.Flow b)) payload reply h tt refl refl
body-does role name v (Some (heard.Transfer b)) payload reply h s = idle-body-does role name v (Some (heard.Transfer b)) payload reply h tt refl refl
body-does role name v (Some (heard.Disposition b)) payload reply h s = idle-body-does role name v (Some (heard.Disposition b)) payload reply h tt refl refl
body-does role name v _ payload reply h s = absurd (cc)

-- what an accepted step does in the slot
pub step-does : (role : Role) (name : List ℕ) (v : View) (step : Step) (reply : Reply) → Answers v step reply → IsSound v
    → Doing role name v (next v step) (step_act role name v step (frame_among reply.sent)) (frame_among reply.sent)
step-does role name v (Opened told) reply h s =
    let none : frame_among reply.sent ≡ None = ap (λ (r : Reply). frame_among r.sent) (sym h) in
    idles refl (λ o. refl) (rw none tt)
step-does role name v (Own op) reply h s = own-does role name v op reply h s
step-does role name v (Heard f) reply h s =
    by-bool (is_dropped v f.body)
    (λ (dropped : is_dropped v f.body ≡ true).
    let k = rw dropped at h in
    let e : no_reply ≡ reply = cc k in
    let none : frame_among reply.sent ≡ None = ap (λ (r : Reply). frame_among r.sent) (sym e) in
    rw (dropped, none) (idles refl (λ o. refl) tt))
    (λ (taken : is_dropped v f.body ≡ false).
    let k : body_answer v f.body f.payload ≡ Ok reply = (let k = rw taken at h in k) in
    rw taken (body-does role name v f.body f.payload reply k s))
