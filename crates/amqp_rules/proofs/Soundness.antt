-- Each step that is accepted leaves a session sound.
use Rattle.std.proofs.Common.{◌≡◌, ◌≤◌, ℕ, ◌+◌, ◌&&◌, ◌||◌, Bool, true, false, not, cond, Option, Some, None, Result, Ok, List, length, [], ◌∷◌, ◌++◌, map, arith, refl, sym, ◌∙◌, find, is_some, is_none, eqb, nat_eq}
use Rattle.std.proofs.lemmas.List.{map-append}
use Rattle.std.specs.Cmp.Lexicographic.{pointwise}
use Rattle.amqp_performatives.specs.declared.bodies.AttachBody.{AttachBody}
use Rattle.amqp_performatives.specs.declared.bodies.Role.{Role}
use Rattle.amqp_performatives.specs.declared.performative.Performative.{Performative}
use Rattle.amqp_performatives.specs.declared.performative.Performative.TheVariants as heard
use Rattle.amqp_frames.specs.declared.frame.Frame.{Frame}
use Rattle.amqp_rules.specs.declared.config.Config.{Config}
use Rattle.amqp_rules.specs.declared.op.Op.{Op}
use Rattle.amqp_rules.specs.declared.op.Op.TheVariants.{Begin, Attach, Start, Carry, Abort, Dispose, Learn, Grant, Offer, Drained, Refresh, Take, Detach, Suspend, Rejoin, Resume, End, Beat}
use Rattle.amqp_rules.specs.declared.reply.Reply.{Reply}
use Rattle.amqp_rules.specs.Rejoin.{rejoined}
use Rattle.amqp_rules.specs.Resume.{resume_begins, begin_resumed, resumed_from}
use Rattle.amqp_rules.specs.declared.reply.Given.TheVariants as given
use Rattle.amqp_rules.specs.View.{EndView, LinkView, SessionView, View, change_first, free_handle, has_handle, has_number, has_peer_handle, holds, initial, is_asked_as, is_mapped, is_offered_as, is_ours, is_over, is_theirs, new_link, next_delivery, opposite, remove_first, same_role, takes_frames}
use Rattle.amqp_rules.specs.Refusing.{first_refusal}
use Rattle.amqp_rules.specs.Answer.{body_answer, heard_answer, is_dropped, next_body, next_heard, next_own, own_answer}
use Rattle.amqp_rules.specs.Attach.{Wanted, attach_answer, attach_refusals, attach_sent, attached_by_peer, attached_by_us, end_of, join_link, next_attach, number_met}
use Rattle.amqp_rules.specs.Start.{begin_delivery}
use Rattle.amqp_rules.specs.Grant.{granted_on}
use Rattle.amqp_rules.specs.Offer.{offered}
use Rattle.amqp_rules.specs.Drained.{drained}
use Rattle.amqp_rules.specs.Take.{taken_from}
use Rattle.amqp_rules.specs.Detach.{left_by_us}
use Rattle.amqp_rules.specs.Opened.{next_opened}
use Rattle.amqp_rules.specs.Flow.{flow_link, flow_links, flow_windows, flowed, windows_by, echoes, session_part}
use Rattle.amqp_rules.specs.PeerAttach.{attach_heard_answer, attach_heard_reply, attach_violations, next_attach_heard}
use Rattle.amqp_rules.specs.PeerTransfer.{heard_on, received_on}
use Rattle.amqp_rules.specs.PeerDisposition.{told_more}
use Rattle.amqp_rules.specs.Deliveries.{sent_by_body}
use Rattle.amqp_rules.specs.Carry.{carry_on}
use Rattle.amqp_rules.specs.Abort.{aborted}
use Rattle.amqp_rules.specs.Learn.{learnt_from}
use Rattle.amqp_rules.specs.OnLink.{on_link}
use Rattle.amqp_rules.specs.declared.refusal.Refusal.{Refusal}
use Rattle.amqp_events.specs.Event.{Item}
use Rattle.amqp_events.specs.Told.{SentItem}
use Rattle.amqp_flow.specs.Windows.{WindowsView, windows_begun, windows_heard, windows_renewed, windows_sent}
use Rattle.amqp_performatives.specs.declared.bodies.FlowBody.{FlowBody}
use Rattle.amqp_rules.specs.Sound.{AreSound, Every, IsSound, Keys, has_end, keys, same_handle, shares_handle, shares_peer_handle}
use Rattle.amqp_rules.proofs.Accepted.{answered_Ok, no_refusal, not-false, on-link-ok, sends-ok}
use Rattle.amqp_rules.proofs.Listed.{by-bool, every-both, every-mapped, map-changed, map-kept, map-removed, none-passes}
use Rattle.amqp_rules.proofs.Free.{free-handle_is-free}
use Rattle.amqp_rules.proofs.Told.{no-handle, sound-more, sound-none, sound-ours, sound-removed, sound-theirs, with_ours, with_theirs}

-- a step after which the links are told apart as before
record Stays (v w : View) : Type 0 where
  steps : w.steps ≡ v.steps + 1
  sent : w.windows.sent ≤ v.windows.sent + 1
  deliveries : w.deliveries ≤ v.deliveries + 1
  made : w.made ≡ v.made
  links : map keys w.links ≡ map keys v.links
  over : is_over w.session ≡ true → w.links ≡ []
  unbegun : w.session.begin_sent ≡ false → w.windows.sent ≡ 0

stays-sound : (v w : View) → IsSound v → Stays v w → IsSound w
stays-sound v w s k =
    let steps : w.steps ≡ v.steps + 1 = k.steps in
    let sent : w.windows.sent ≤ v.windows.sent + 1 = k.sent in
    let deliveries : w.deliveries ≤ v.deliveries + 1 = k.deliveries in
    let made : w.made ≡ v.made = k.made in
    let sent' : v.windows.sent ≤ v.steps = s.sent in
    let deliveries' : v.deliveries ≤ v.steps = s.deliveries in
    let made' : v.made ≤ v.steps = s.made in
    record {
      sent = omega (arith, steps, sent, sent');
      deliveries = omega (arith, steps, deliveries, deliveries');
      made = omega (arith, steps, made, made');
      links = rw (k.links, made) s.links;
      over = k.over;
      unbegun = k.unbegun;
    }

more-one : (n : ℕ) → n ≤ n + 1
more-one n = omega arith

none-changed : {A : Type 0} (test : A → Bool) (change : A → A) (xs : List A) → xs ≡ [] → change_first test change xs ≡ []
none-changed test change xs e = rw e refl

none-removed : {A : Type 0} (test : A → Bool) (xs : List A) → xs ≡ [] → remove_first test xs ≡ []
none-removed test xs e = rw e refl

-- the first link that passes the test is changed, and told apart as before; the windows are others
changed-sound : (v : View) (expected : Option ℕ) (held : List SentItem) (received : List Item) (w : WindowsView) (test : LinkView → Bool) (change : LinkView → LinkView)
    → w.sent ≡ v.windows.sent → ((l : LinkView) → keys (change l) ≡ keys l)
    → IsSound v → IsSound (record v { steps = v.steps + 1; windows = w; expected = expected; links = change_first test change v.links; sent = held; received = received })
changed-sound v expected held received w test change sent same s =
    stays-sound v (record v { steps = v.steps + 1; windows = w; expected = expected; links = change_first test change v.links; sent = held; received = received }) s
    (record {
      steps = refl;
      sent = rw sent (more-one v.windows.sent);
      deliveries = more-one v.deliveries;
      made = refl;
      links = map-kept keys test change v.links same;
      over = λ o. none-changed test change v.links (s.over o);
      unbegun = λ b. sent ∙ s.unbegun b;
    })

-- the links stay; the session, the windows and what the peer told may be others
told-sound : (v : View) (session : SessionView) (held : List SentItem) (received : List Item) (w : WindowsView) (max_frame handle_max : ℕ)
    → w.sent ≡ v.windows.sent → is_over session ≡ is_over v.session → (session.begin_sent ≡ false → v.session.begin_sent ≡ false)
    → IsSound v → IsSound (record v { steps = v.steps + 1; session = session; windows = w; max_frame = max_frame; handle_max = handle_max; sent = held; received = received })
told-sound v session held received w max_frame handle_max sent over begun s =
    stays-sound v (record v { steps = v.steps + 1; session = session; windows = w; max_frame = max_frame; handle_max = handle_max; sent = held; received = received }) s
    (record {
      steps = refl;
      sent = rw sent (more-one v.windows.sent);
      deliveries = more-one v.deliveries;
      made = refl;
      links = refl;
      over = λ o. s.over (sym over ∙ o);
      unbegun = λ b. sent ∙ s.unbegun (begun b);
    })

-- all links are gone
ended-sound : (v : View) (session : SessionView) → (session.begin_sent ≡ v.session.begin_sent) → IsSound v → IsSound (record v { steps = v.steps + 1; session = session; links = []; sent = []; received = [] })
ended-sound v session begun s =
    record {
      sent = let h : v.windows.sent ≤ v.steps = s.sent in omega (arith, h);
      deliveries = let h : v.deliveries ≤ v.steps = s.deliveries in omega (arith, h);
      made = let h : v.made ≤ v.steps = s.made in omega (arith, h);
      links = sound-none v.made;
      over = λ o. refl;
      unbegun = λ b. s.unbegun (sym begun ∙ b);
    }

-- # Attaches

-- a name that no link has: none has it with our end, none is offered with it, and each has an end
name-free : (named : Bool) (ours theirs : Option EndView) → named && is_some ours ≡ false → named && (is_some theirs && is_none ours) ≡ false → is_some ours || is_some theirs ≡ true → named ≡ false
name-free false ours theirs a b h = refl
name-free true (Some e) theirs a b h = absurd (cc)
name-free true None (Some e) a b h = absurd (cc)
name-free true None None a b h = absurd (cc)

name-free-theirs : (named : Bool) (ours theirs : Option EndView) → named && is_some theirs ≡ false → named && (is_some ours && is_none theirs) ≡ false → is_some ours || is_some theirs ≡ true → named ≡ false
name-free-theirs false ours theirs a b h = refl
name-free-theirs true ours (Some e) a b h = absurd (cc)
name-free-theirs true (Some e) None a b h = absurd (cc)
name-free-theirs true None None a b h = absurd (cc)

record Joins (v : View) (test : LinkView → Bool) (k : Keys) (change : LinkView → LinkView) : Type 0 where
  met : AreSound v.made (map keys (change_first test change v.links))
  new : is_some (find test v.links) ≡ false → AreSound (v.made + 1) (map keys v.links ++ k ∷ [])
  open' : is_over v.session ≡ false

joined-sound : (v : View) (test : LinkView → Bool) (role : Role) (name : List ℕ) (change : LinkView → LinkView) → IsSound v → Joins v test (keys (change (new_link v.made role name))) change → IsSound (join_link test role name change v)
joined-sound v test role name change s j =
    by-bool (is_some (find test v.links))
    (λ (met : is_some (find test v.links) ≡ true).
    rw met
    record {
      sent = let h : v.windows.sent ≤ v.steps = s.sent in omega (arith, h);
      deliveries = let h : v.deliveries ≤ v.steps = s.deliveries in omega (arith, h);
      made = let h : v.made ≤ v.steps = s.made in omega (arith, h);
      links = j.met;
      over = λ o. absurd (let n = j.open' in cc (o, n));
      unbegun = s.unbegun;
    })
    (λ (new : is_some (find test v.links) ≡ false).
    rw new
    record {
      sent = let h : v.windows.sent ≤ v.steps = s.sent in omega (arith, h);
      deliveries = let h : v.deliveries ≤ v.steps = s.deliveries in omega (arith, h);
      made = let h : v.made ≤ v.steps = s.made in omega (arith, h);
      links = rw (map-append keys v.links (change (new_link v.made role name) ∷ [])) (j.new new);
      over = λ o. absurd (let n = j.open' in cc (o, n));
      unbegun = s.unbegun;
    })

not-over : (begun over : Bool) → begun && not over ≡ true → over ≡ false
not-over true true h = absurd (cc)
not-over true false h = refl
not-over false over h = absurd (cc)

mapped-open : (s : SessionView) → is_mapped s ≡ true → is_over s ≡ false
mapped-open s h = by s.begin_sent h
  where
    by : (sent : Bool) → sent && takes_frames s ≡ true → is_over s ≡ false
    by true h = not-over s.begin_heard (is_over s) h
    by false h = absurd (cc)

mapped-begun : (s : SessionView) → is_mapped s ≡ true → s.begin_sent ≡ true
mapped-begun s h = by s.begin_sent h
  where
    by : (sent : Bool) → sent && takes_frames s ≡ true → sent ≡ true
    by true h = refl
    by false h = absurd (cc)

attach-sound : (v : View) (a : Wanted) (reply : Reply) → attach_answer v a ≡ Ok reply → IsSound v → IsSound (next_attach v a)
attach-sound v a reply h s =
    let b = attach_sent v a in
    let e = end_of b in
    let k = sends-ok v.max_frame (attach_refusals v a) (Some (heard.Attach b)) [] (given.Link (number_met v.made (find (is_offered_as a.role a.name) v.links))) reply h in
    let mapped = not-false (is_mapped v.session) k.none_holds.0 in
    let test' : Keys → Bool = λ k. (same_role a.role k.role && pointwise nat_eq a.name k.name) && (is_some k.theirs && is_none k.ours) in
    let free : Every (λ k. holds (λ f. eqb f.handle e.handle) k.ours ≡ false) (map keys v.links) =
    every-mapped keys (λ k. holds (λ f. eqb f.handle e.handle) k.ours ≡ false) v.links (none-passes (has_handle (free_handle v.links)) v.links (free-handle_is-free v.links)) in
    joined-sound v (is_offered_as a.role a.name) a.role a.name (attached_by_us b a.items) s
    (record {
      met = rw (map-changed keys (is_offered_as a.role a.name) (attached_by_us b a.items) test' (with_ours e) v.links (λ l. refl) (λ l. refl)) (sound-ours v.made test' e (map keys v.links) s.links free);
      new =
          λ unmet.
          let in_use = every-mapped keys (λ k. (same_role a.role k.role && pointwise nat_eq a.name k.name) && is_some k.ours ≡ false) v.links (none-passes (is_ours a.role a.name) v.links k.none_holds.1.0) in
          let offered = every-mapped keys (λ k. test' k ≡ false) v.links (none-passes (is_offered_as a.role a.name) v.links unmet) in
          let unnamed = every-both _ _ (λ k. (has_end k ≡ true) → same_role a.role k.role && pointwise nat_eq a.name k.name ≡ false) (map keys v.links) in_use offered (λ k i o h. name-free (same_role a.role k.role && pointwise nat_eq a.name k.name) k.ours k.theirs i o h) in
          let names = every-both _ _ (λ k. same_role a.role k.role && pointwise nat_eq a.name k.name ≡ false) (map keys v.links) unnamed s.links.ends (λ k f h. f h) in
          sound-more v.made (record { number = v.made; role = a.role; name = a.name; ours = Some e; theirs = None }) (map keys v.links) s.links refl refl
          (every-both _ _ (λ l. shares_handle l (record { number = v.made; role = a.role; name = a.name; ours = Some e; theirs = None }) ≡ false) (map keys v.links) free free (λ l f g. (no-handle e l.ours f).1))
          (every-both _ _ (λ l. shares_peer_handle l (record { number = v.made; role = a.role; name = a.name; ours = Some e; theirs = None }) ≡ false) (map keys v.links) free free (λ l f g. none-shared l.theirs))
          names;
      open' = mapped-open v.session mapped;
    })
  where
    none-shared : (o : Option EndView) → same_handle o None ≡ false
    none-shared None = refl
    none-shared (Some e) = refl

attach-heard-sound : (v : View) (b : AttachBody) (reply : Reply) → attach_heard_answer v b ≡ Ok reply → IsSound v → IsSound (next_attach_heard v b)
attach-heard-sound v b reply h s =
    let e = end_of b in
    let role = opposite b.role in
    let a = answered_Ok (first_refusal (attach_violations v b)) (attach_heard_reply v b) reply h in
    let k = no_refusal (attach_violations v b) a.none in
    let test' : Keys → Bool = λ k. (same_role role k.role && pointwise nat_eq b.name k.name) && (is_some k.ours && is_none k.theirs) in
    let free : Every (λ k. holds (λ f. eqb f.handle e.handle) k.theirs ≡ false) (map keys v.links) =
    every-mapped keys (λ k. holds (λ f. eqb f.handle e.handle) k.theirs ≡ false) v.links (none-passes (has_peer_handle b.handle) v.links k.1.0) in
    joined-sound v (is_asked_as role b.name) role b.name (attached_by_peer b) s
    (record {
      met = rw (map-changed keys (is_asked_as role b.name) (attached_by_peer b) test' (with_theirs e) v.links (λ l. refl) (λ l. refl)) (sound-theirs v.made test' e (map keys v.links) s.links free);
      new =
          λ unmet.
          let in_use = every-mapped keys (λ k. (same_role role k.role && pointwise nat_eq b.name k.name) && is_some k.theirs ≡ false) v.links (none-passes (is_theirs role b.name) v.links k.1.1.0) in
          let asked = every-mapped keys (λ k. test' k ≡ false) v.links (none-passes (is_asked_as role b.name) v.links unmet) in
          let unnamed = every-both _ _ (λ k. (has_end k ≡ true) → same_role role k.role && pointwise nat_eq b.name k.name ≡ false) (map keys v.links) in_use asked (λ k i o h. name-free-theirs (same_role role k.role && pointwise nat_eq b.name k.name) k.ours k.theirs i o h) in
          let names = every-both _ _ (λ k. same_role role k.role && pointwise nat_eq b.name k.name ≡ false) (map keys v.links) unnamed s.links.ends (λ k f h. f h) in
          sound-more v.made (record { number = v.made; role = role; name = b.name; ours = None; theirs = Some e }) (map keys v.links) s.links refl refl
          (every-both _ _ (λ l. shares_handle l (record { number = v.made; role = role; name = b.name; ours = None; theirs = Some e }) ≡ false) (map keys v.links) free free (λ l f g. none-shared l.ours))
          (every-both _ _ (λ l. shares_peer_handle l (record { number = v.made; role = role; name = b.name; ours = None; theirs = Some e }) ≡ false) (map keys v.links) free free (λ l f g. (no-handle e l.theirs f).1))
          names;
      open' = not-over v.session.begin_heard (is_over v.session) (not-false (takes_frames v.session) k.0);
    })
  where
    none-shared : (o : Option EndView) → same_handle o None ≡ false
    none-shared None = refl
    none-shared (Some e) = refl

-- # All steps

-- a transfer is sent on a link
sent-sound : (v : View) (deliveries : ℕ) (held : List SentItem) (test : LinkView → Bool) (change : LinkView → LinkView)
    → is_mapped v.session ≡ true → deliveries ≤ v.deliveries + 1 → ((l : LinkView) → keys (change l) ≡ keys l)
    → IsSound v → IsSound (record v { steps = v.steps + 1; windows = windows_sent v.windows; deliveries = deliveries; links = change_first test change v.links; sent = held })
sent-sound v deliveries held test change mapped few same s =
    let begun = mapped-begun v.session mapped in
    stays-sound v (record v { steps = v.steps + 1; windows = windows_sent v.windows; deliveries = deliveries; links = change_first test change v.links; sent = held }) s
    (record {
      steps = refl;
      sent = omega arith;
      deliveries = few;
      made = refl;
      links = map-kept keys test change v.links same;
      over = λ o. none-changed test change v.links (s.over o);
      unbegun = λ b. absurd (cc (b, begun));
    })

-- all links are changed, and told apart as before
map-keys : (change : LinkView → LinkView) → ((l : LinkView) → keys (change l) ≡ keys l) → (links : List LinkView) → map keys (map change links) ≡ map keys links
map-keys change same [] = refl
map-keys change same (l ∷ links) = rw (same l, map-keys change same links) refl

none-mapped : (change : LinkView → LinkView) (links : List LinkView) → links ≡ [] → map change links ≡ []
none-mapped change links e = rw e refl

mapped-sound : (v : View) (held : List SentItem) (received : List Item) (change : LinkView → LinkView)
    → ((l : LinkView) → keys (change l) ≡ keys l)
    → IsSound v → IsSound (record v { steps = v.steps + 1; links = map change v.links; sent = held; received = received })
mapped-sound v held received change same s =
    stays-sound v (record v { steps = v.steps + 1; links = map change v.links; sent = held; received = received }) s
    (record {
      steps = refl;
      sent = more-one v.windows.sent;
      deliveries = more-one v.deliveries;
      made = refl;
      links = map-keys change same v.links;
      over = λ o. none-mapped change v.links (s.over o);
      unbegun = s.unbegun;
    })

mapped-on : (v : View) (link : ℕ) (say : LinkView → Result Reply Refusal) (reply : Reply) → on_link v link say ≡ Ok reply → is_mapped v.session ≡ true
mapped-on v link say reply h = let o = on-link-ok v link say reply h in o.mapped

own-sound : (v : View) (op : Op) (reply : Reply) → own_answer v op ≡ Ok reply → IsSound v → IsSound (next_own v op)
own-sound v Begin reply h s = told-sound v (record v.session { begin_sent = true }) v.sent v.received (windows_renewed v.windows) v.max_frame v.handle_max refl refl (λ b. absurd (cc b)) s
own-sound v (Attach name role snd rcv source target count max_message) reply h s =
    attach-sound v (record { name = name; role = role; snd = snd; rcv = rcv; source = source; target = target; count = count; max_message = max_message; items = [] }) reply h s
own-sound v (Start link tag format settled payload more) reply h s =
    sent-sound v (v.deliveries + 1) _ (has_number link) (begin_delivery (next_delivery v) (length payload) more) (mapped-on v link _ reply h) (omega arith) (λ l. refl) s
own-sound v (Carry link payload more) reply h s =
    sent-sound v v.deliveries v.sent (has_number link) (carry_on (length payload) more) (mapped-on v link _ reply h) (more-one v.deliveries) (λ l. refl) s
own-sound v (Abort link) reply h s = sent-sound v v.deliveries _ (has_number link) aborted (mapped-on v link _ reply h) (more-one v.deliveries) (λ l. refl) s
own-sound v (Dispose role first last settled state) reply h s = told-sound v v.session _ _ v.windows v.max_frame v.handle_max refl refl (λ b. b) s
own-sound v (Learn link) reply h s = changed-sound v v.expected v.sent v.received v.windows (has_number link) learnt_from refl (λ l. refl) s
own-sound v (Grant link credit drain echo) reply h s = changed-sound v v.expected v.sent v.received (windows_renewed v.windows) (has_number link) (granted_on credit drain) refl (λ l. refl) s
own-sound v (Offer link available) reply h s = changed-sound v v.expected v.sent v.received (windows_renewed v.windows) (has_number link) (offered available) refl (λ l. refl) s
own-sound v (Drained link) reply h s = changed-sound v v.expected v.sent v.received (windows_renewed v.windows) (has_number link) drained refl (λ l. refl) s
own-sound v (Refresh echo) reply h s = told-sound v v.session v.sent v.received (windows_renewed v.windows) v.max_frame v.handle_max refl refl (λ b. b) s
own-sound v (Take link) reply h s = changed-sound v v.expected v.sent v.received v.windows (has_number link) taken_from refl (λ l. refl) s
own-sound v (Detach link error) reply h s = changed-sound v v.expected _ _ v.windows (has_number link) left_by_us refl (λ l. refl) s
own-sound v (Suspend link) reply h s = changed-sound v v.expected _ _ v.windows (has_number link) left_by_us refl (λ l. refl) s
own-sound v (Rejoin r) reply h s = attach-sound v (rejoined r) reply h s
own-sound v (Resume link tag settled) reply h s =
    let mapped = mapped-on v link _ reply h in
    by-bool (resume_begins tag (find (has_number link) v.links))
    (λ (anew : resume_begins tag (find (has_number link) v.links) ≡ true). rw anew (sent-sound v (v.deliveries + 1) _ (has_number link) (begin_resumed tag) mapped (omega arith) (λ l. refl) s))
    (λ (none : resume_begins tag (find (has_number link) v.links) ≡ false). rw none (changed-sound v v.expected v.sent v.received v.windows (has_number link) (resumed_from tag) refl (λ l. refl) s))
own-sound v (End error) reply h s = ended-sound v (record v.session { end_sent = true }) refl s
own-sound v Beat reply h s = told-sound v v.session v.sent v.received v.windows v.max_frame v.handle_max refl refl (λ b. b) s

keys-either : (b : Bool) (k l : LinkView) → keys k ≡ keys l → keys (cond b k l) ≡ keys k
keys-either true k l e = refl
keys-either false k l e = sym e

sent-either : (b : Bool) (w x : WindowsView) (n : ℕ) → w.sent ≡ n → x.sent ≡ n → (cond b w x).sent ≡ n
sent-either true w x n h k = h
sent-either false w x n h k = k

flow-sent : (v : View) (b : FlowBody) → (flow_windows v b).sent ≡ v.windows.sent
flow-sent v b =
    let told = sent-either v.session.begin_sent (windows_heard (session_part b) v.windows) (windows_begun b.next_outgoing_id b.incoming_window b.outgoing_window v.windows) v.windows.sent refl refl in
    sent-either (echoes v b) (windows_renewed (windows_by v b)) (windows_by v b) v.windows.sent told told

flow-sound : (v : View) (b : FlowBody) (handle : Option ℕ) → IsSound v → IsSound (record v { steps = v.steps + 1; windows = flow_windows v b; links = flow_links b handle v.links })
flow-sound v b None s = told-sound v v.session v.sent v.received (flow_windows v b) v.max_frame v.handle_max (flow-sent v b) refl (λ b. b) s
flow-sound v b (Some h) s = changed-sound v v.expected v.sent v.received (flow_windows v b) (has_peer_handle h) (flow_link b) (flow-sent v b) (λ l. keys-either l.left l (flowed b l) refl) s

detached-sound : (v : View) (held : List SentItem) (received : List Item) (test : LinkView → Bool) (test' : Keys → Bool) → ((l : LinkView) → test l ≡ test' (keys l)) → IsSound v → IsSound (record v { steps = v.steps + 1; links = remove_first test v.links; sent = held; received = received })
detached-sound v held received test test' same s =
    record {
      sent = let h : v.windows.sent ≤ v.steps = s.sent in omega (arith, h);
      deliveries = let h : v.deliveries ≤ v.steps = s.deliveries in omega (arith, h);
      made = let h : v.made ≤ v.steps = s.made in omega (arith, h);
      links = rw (map-removed keys test test' v.links same) (sound-removed v.made test' (map keys v.links) s.links);
      over = λ o. none-removed test v.links (s.over o);
      unbegun = s.unbegun;
    }

pub body-sound : (v : View) (body : Option Performative) (payload : List ℕ) (reply : Reply) → body_answer v body payload ≡ Ok reply → IsSound v → IsSound (next_body v body payload)
body-sound v (Some (heard.Begin b)) payload reply h s = told-sound v (record v.session { begin_heard = true }) v.sent v.received (windows_begun b.next_outgoing_id b.incoming_window b.outgoing_window v.windows) v.max_frame _ refl refl (λ b. b) s
body-sound v (Some (heard.Attach b)) payload reply h s = attach-heard-sound v b reply h s
body-sound v (Some (heard.Flow b)) payload reply h s = flow-sound v b b.handle s
body-sound v (Some (heard.Transfer b)) payload reply h s = changed-sound v _ v.sent _ _ (has_peer_handle b.handle) (heard_on b payload) refl (λ l. keys-either l.left l (received_on b payload l) refl) s
body-sound v (Some (heard.Disposition b)) payload reply h s = mapped-sound v _ _ (told_more (sent_by_body v (Some (heard.Disposition b))) v.sent) (λ l. refl) s
body-sound v (Some (heard.Detach b)) payload reply h s = detached-sound v _ _ (has_peer_handle b.handle) (λ k. holds (λ e. eqb e.handle b.handle) k.theirs) (λ l. refl) s
body-sound v (Some (heard.End b)) payload reply h s = ended-sound v (record v.session { end_heard = true }) refl s
body-sound v _ payload reply h s = absurd (cc)

heard-sound : (v : View) (f : Frame) (reply : Reply) → heard_answer v f ≡ Ok reply → IsSound v → IsSound (next_heard v f)
heard-sound v f reply h s =
    by-bool (is_dropped v f.body)
    (λ (dropped : is_dropped v f.body ≡ true). rw dropped (told-sound v v.session v.sent v.received v.windows v.max_frame v.handle_max refl refl (λ b. b) s))
    (λ (taken : is_dropped v f.body ≡ false). let k = rw taken at h in rw taken (body-sound v f.body f.payload reply k s))

pub opened-is-sound : (v : View) (told : ℕ) → IsSound v → IsSound (next_opened v told)
opened-is-sound v told s = told-sound v v.session v.sent v.received v.windows _ v.handle_max refl refl (λ b. b) s

-- an operation that is accepted leaves it sound
pub own-is-sound : (v : View) (op : Op) (reply : Reply) → own_answer v op ≡ Ok reply → IsSound v → IsSound (next_own v op)
own-is-sound v op reply h s = own-sound v op reply h s

-- a frame that is accepted leaves it sound
pub heard-is-sound : (v : View) (f : Frame) (reply : Reply) → heard_answer v f ≡ Ok reply → IsSound v → IsSound (next_heard v f)
heard-is-sound v f reply h s = heard-sound v f reply h s

pub initial-is-sound : (c : Config) → IsSound (initial c)
initial-is-sound c =
    record { sent = omega arith; deliveries = omega arith; made = omega arith; links = sound-none 0; over = λ o. refl; unbegun = λ b. refl }
