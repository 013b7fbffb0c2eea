-- What our operations do to the counts of a link.
use Rattle.std.proofs.Common.{unwrap_or, ◌||◌, ◌≡◌, ◌≤◌, inr, ℕ, ◌+◌, ◌&&◌, ◌++◌, Bool, true, false, not, Option, Some, None, Result, Ok, List, [], ◌∷◌, arith, refl, sym, ap, ◌∙◌, subst, find, is_some, is_none, nat_eq, nat_lt, length, option_map}
use Rattle.std.proofs.lemmas.List.{length-append}
use Rattle.std.specs.Cmp.Lexicographic.{pointwise}
use Rattle.amqp_flow.specs.Serial.{wire}
use Rattle.amqp_flow.specs.Receiver.{granted}
use Rattle.amqp_flow.specs.Sender.{sender_drained}
use Rattle.amqp_performatives.specs.declared.bodies.Role.{Role}
use Rattle.amqp_performatives.specs.declared.bodies.Role.TheVariants.{Sender, Receiver}
use Rattle.amqp_performatives.specs.declared.bodies.TransferBody.{TransferBody}
use Rattle.amqp_performatives.specs.declared.error.AmqpError.{AmqpError}
use Rattle.amqp_performatives.specs.declared.performative.Performative.{Performative}
use Rattle.amqp_performatives.specs.declared.performative.Performative.TheVariants as heard
use Rattle.amqp_frames.specs.declared.frame.Frame.{Frame}
use Rattle.amqp_events.specs.Event.{Leaves, Over, Nothing as No_event}
use Rattle.amqp_events.specs.Joined.{Delivery, next_unfinished, next_delivery as joined_to, unless_resumed}
use Rattle.amqp_events.specs.Event.{Disposition}
use Rattle.amqp_rules.specs.declared.op.Op.{Op}
use Rattle.amqp_rules.specs.declared.op.Op.TheVariants as own
use Rattle.amqp_rules.specs.declared.reply.Reply.{Reply}
use Rattle.amqp_rules.specs.declared.reply.Given.TheVariants as given
use Rattle.amqp_rules.specs.declared.refusal.Refusal.{Refusal}
use Rattle.amqp_rules.specs.declared.refusal.Refusal.TheVariants as refusal
use Rattle.amqp_rules.specs.View.{is_too_long, max_of, EndView, snd_mode, snd_of, LinkView, SendingView, View, change_first, handle_of, has_name, has_number, is_attached, is_mapped, is_offered, is_offered_as, is_ours, next_delivery, same_role}
use Rattle.amqp_rules.specs.Refusing.{unless}
use Rattle.amqp_rules.specs.OnLink.{attached_as, on_link}
use Rattle.amqp_rules.specs.Sending.{frame_of, sends, sends_ending, sent_of}
use Rattle.amqp_rules.specs.Telling.{flag, sender_flow}
use Rattle.amqp_rules.specs.Deliveries.{ended_by, received_by_own, sent_by_own, transferred}
use Rattle.amqp_rules.specs.Attach.{Wanted, attach_answer, attach_refusals, attach_sent, attached_by_us, next_attach, number_met}
use Rattle.amqp_rules.specs.Start.{mode_forbids, begin_delivery, sending_after, start_answer, start_body, start_refusals}
use Rattle.amqp_rules.specs.Carry.{size_so_far, carried, carry_on, carry_refusals, later_body}
use Rattle.amqp_rules.specs.Abort.{abort_refusals, aborted}
use Rattle.amqp_rules.specs.Dispose.{dispose_body, dispose_refusals}
use Rattle.amqp_rules.specs.Begin.{begin_body, begin_refusals}
use Rattle.amqp_rules.specs.Learn.{learn_first, learnt_from}
use Rattle.amqp_rules.specs.Take.{take_first, taken_from}
use Rattle.amqp_rules.specs.Grant.{grant_body, grant_flow, grant_refusals, granted_on}
use Rattle.amqp_rules.specs.Offer.{offer_body, offered}
use Rattle.amqp_rules.specs.Drained.{drained, drained_body, drained_refusals}
use Rattle.amqp_rules.specs.Refresh.{refresh_body}
use Rattle.amqp_rules.specs.Detach.{detach_body, detach_refusals, left_by_us, next_detach}
use Rattle.amqp_rules.specs.End.{end_body}
use Rattle.amqp_rules.specs.Answer.{next_own, own_answer}
use Rattle.amqp_rules.specs.Sound.{IsSound}
use Rattle.amqp_rules.proofs.Accepted.{not-false, on-link-ok, sends-ok, sends-ending-ok, there_Ok, unless_Ok}
use Rattle.amqp_rules.proofs.Listed.{by-bool}
use Rattle.amqp_laws.specs.Transfers.{size_of}
use Rattle.amqp_laws.proofs.Twice.{and-both}
use Rattle.amqp_pair_laws.proofs.Plain.{OwnAnswers, bare}
use Rattle.amqp_pair_laws.specs.World.{frame_among}
use Rattle.amqp_pair_laws.proofs.Doing.{IsOther, attach-joins-at, free-ours, us-keeps}
use Rattle.amqp_pair_laws.proofs.Named.{KeepsName, changed-other, changed-there, joined-other, named-found, named-is, role-same, texts-same}
use Rattle.amqp_pair_laws.proofs.Sends.{learn-silent, take-silent}
use Rattle.amqp_pair_laws.proofs.Turns.{Carries, Fits, Goes, IsAside, IsUncounted, OwnDrain, OwnNumbers, Turn, asks, attached-stays, away, both_ends, by_handle, goes, leaving, rest-turn, rests, sending, tells}
use Rattle.amqp_rules.specs.Suspend.{put_aside}
use Rattle.amqp_rules.specs.declared.reply.Given.{Given}

-- a change that leaves role, name and attaches
pub record KeepsEnds (change : LinkView → LinkView) : Type 0 where
  pub named : KeepsName change
  pub ours : (l : LinkView) → (change l).ours ≡ l.ours
  pub theirs : (l : LinkView) → (change l).theirs ≡ l.theirs
  pub stays : (l : LinkView) → (change l).left ≡ false → l.left ≡ false

-- a step changes the first link that passes a test
pub turn-on : (role : Role) (name : List ℕ) (v after : View) (hears : Option Performative) (sent : Option Frame) (test : LinkView → Bool) (change : LinkView → LinkView) (l : LinkView) → KeepsEnds change → IsSound v
    → find test v.links ≡ Some l → after.links ≡ change_first test change v.links
    → (has_name role name l ≡ true → Goes role name v (is_some hears) l (change l) sent) → (has_name role name l ≡ false → IsAside role name v sent) → Turn role name v after hears sent
turn-on role name v after hears sent test change l keeps s found to here aside =
    by-bool (has_name role name l)
    (λ (t : has_name role name l ≡ true).
    let there = named-found role name test v.links l s.links.names found t in
    goes l (change l) there (ap (find (has_name role name)) to ∙ changed-there role name test change v.links l keeps.named there found) (keeps.ours l) (keeps.theirs l) (keeps.stays l) (here t))
    (λ (f : has_name role name l ≡ false).
    rest-turn role name v after hears sent (ap (find (has_name role name)) to ∙ changed-other role name test change v.links l keeps.named found f) (aside f))

pub plain : (change : LinkView → LinkView) → ((l : LinkView) → (change l).role ≡ l.role) → ((l : LinkView) → (change l).name ≡ l.name) → ((l : LinkView) → (change l).ours ≡ l.ours)
    → ((l : LinkView) → (change l).theirs ≡ l.theirs) → ((l : LinkView) → (change l).left ≡ false → l.left ≡ false) → KeepsEnds change
plain change r n o t s = record { named = record { role = r; name = n }; ours = o; theirs = t; stays = s }

attached-both : (l : LinkView) → is_attached l ≡ true → both_ends l ≡ true
attached-both l h = (and-both (both_ends l) (not l.left) h).0

pub other-on : (role : Role) (name : List ℕ) (v : View) (test : LinkView → Bool) (l : LinkView) → find test v.links ≡ Some l → is_attached l ≡ true → has_name role name l ≡ false
    → IsOther role name v (by_handle (handle_of l.ours))
other-on role name v test l found attached unnamed = record { test = test; link = l; found = found; handle = refl; attached = attached; unnamed = unnamed }

-- the role of the link that is named
role-of : (role : Role) (name : List ℕ) (l : LinkView) → has_name role name l ≡ true → (r : Role) → not (same_role r l.role) ≡ false → role ≡ r
role-of role name l n r is = (named-is role name l n).role_is ∙ sym (role-same r l.role (not-false (same_role r l.role) is))

abbrev OwnTurn : Role → List ℕ → View → Op → Option Frame → Type 0
OwnTurn role name v op sent = Turn role name v (next_own v op) None sent

-- # Transfers

pub none-size : (d : Option Delivery) → None ≡ option_map size_of d → d ≡ None
none-size None h = refl
none-size (Some d) h = absurd (cc)

-- the first transfer of a delivery
abbrev pub start_transfer : ℕ → ℕ → List ℕ → ℕ → Bool → Bool → TransferBody
start_transfer handle id tag format settled more =
    record {
      handle = handle;
      delivery_id = Some id;
      delivery_tag = Some tag;
      message_format = Some format;
      settled = flag settled;
      more = flag more;
      rcv_settle_mode = None;
      state = None;
      resume = None;
      aborted = None;
      batchable = None;
    }

start-id : (more : Bool) (id size : ℕ) (d : SendingView) → sending_after more id size ≡ Some d → d.id ≡ id
start-id true id size d h = let x : ◌≡◌ {A = Option SendingView} (Some (record { id = id; size = size })) (Some d) = h in let one : record { id = id; size = size } ≡ d = cc x in ap (λ (d : SendingView). d.id) (sym one)
start-id false id size d h = absurd (cc (h))

some-fresh : (s : Option SendingView) (c : SendingView) → s ≡ Some c → is_some s ≡ false → ⊥
some-fresh s c is none = let k = rw is at none in absurd (cc (k))

carry-id : (size : ℕ) (more : Bool) (s : Option SendingView) (c d : SendingView) → s ≡ Some c → carried size more s ≡ Some d → d.id ≡ c.id
carry-id size more None c d was now = absurd (cc (was))
carry-id size more (Some u) c d was now =
    let one : u ≡ c = cc was in
    start-id more u.id (u.size + size) d now ∙ ap (λ (d : SendingView). d.id) one

start-carries : (o : Option EndView) (handle id : ℕ) (tag : List ℕ) (format : ℕ) (settled more : Bool) (payload : List ℕ) (s : Option SendingView) → is_some s ≡ false → mode_forbids (snd_of o) settled ≡ false
    → Carries o (start_transfer handle id tag format settled more) payload s (sending_after more id (length payload))
start-carries o handle id tag format settled more payload (Some u) none fits mode d e x = absurd (cc (none))
start-carries o handle id tag format settled more payload None none fits mode None e x = (by more, of more settled fits)
  where
    by : (more : Bool) → sending_after more id (length payload) ≡ option_map size_of (next_unfinished (transferred mode (start_transfer handle id tag format settled more) payload) None)
    by true = refl
    by false = refl

    of : (more settled : Bool) → mode_forbids (snd_of o) settled ≡ false → Fits o (next_unfinished (transferred mode (start_transfer handle id tag format settled more) payload) None)
    of true true f = (f, refl)
    of true false f = (f, refl)
    of false settled f = tt
start-carries o handle id tag format settled more payload None none fits mode (Some u) e x = absurd (cc (e))

-- a later one
abbrev pub later_transfer : ℕ → Option Bool → Option Bool → TransferBody
later_transfer handle more aborted =
    record {
      handle = handle;
      delivery_id = None;
      delivery_tag = None;
      message_format = None;
      settled = None;
      more = more;
      rcv_settle_mode = None;
      state = None;
      resume = None;
      aborted = aborted;
      batchable = None;
    }

carry-carries : (o : Option EndView) (handle : ℕ) (more : Bool) (payload : List ℕ) (s : Option SendingView) → is_none s ≡ false → Carries o (later_transfer handle (flag more) None) payload s (carried (length payload) more s)
carry-carries o handle more payload None some mode d e x = absurd (cc (some))
carry-carries o handle more payload (Some u) some mode None e x = absurd (cc (e))
carry-carries o handle more payload (Some u) some mode (Some d) e x = (by more, of more)
  where
    same : u ≡ size_of d
    same = cc e

    longer : (u : SendingView) → u ≡ size_of d → ◌≡◌ {A = Option SendingView} (Some (record { id = u.id; size = u.size + length payload })) (Some (record { id = d.id; size = length (d.payload ++ payload) }))
    longer u k = let both = length-append d.payload payload in rw (k, both) refl

    by : (more : Bool) → carried (length payload) more (Some u) ≡ option_map size_of (next_unfinished (transferred mode (later_transfer handle (flag more) None) payload) (Some d))
    by true = longer u same ∙ ap (λ (b : Bool). Some (record { id = d.id; size = length (d.payload ++ unless_resumed b payload) })) (sym x.1)
    by false = refl

    or-same : (b : Bool) → b ≡ b || false
    or-same true = refl
    or-same false = refl

    of : (more : Bool) → Fits o (next_unfinished (transferred mode (later_transfer handle (flag more) None) payload) (Some d))
    of true = (subst (λ (b : Bool). mode_forbids (snd_of o) b ≡ false) (or-same d.settled) x.0, x.1)
    of false = tt

abort-carries : (o : Option EndView) (handle : ℕ) (payload : List ℕ) (s : Option SendingView) → Carries o (later_transfer handle None (Some true)) payload s None
abort-carries o handle payload s mode None e x = (refl, tt)
abort-carries o handle payload s mode (Some d) e x = (refl, tt)

start-allows : (o : Option EndView) (handle id : ℕ) (tag : List ℕ) (format : ℕ) (settled more : Bool) (payload : List ℕ) (s : Option SendingView) → is_some s ≡ false → mode_forbids (snd_of o) settled ≡ false
    → (mode : ℕ) (d : Option Delivery) → s ≡ option_map size_of d → mode_forbids (snd_of o) (joined_to (transferred mode (start_transfer handle id tag format settled more) payload) d).settled ≡ false
start-allows o handle id tag format settled more payload (Some u) none fits mode d e = absurd (cc (none))
start-allows o handle id tag format settled more payload None none fits mode (Some u) e = absurd (cc (e))
start-allows o handle id tag format settled more payload None none fits mode None e = by settled fits
  where
    by : (settled : Bool) → mode_forbids (snd_of o) settled ≡ false → mode_forbids (snd_of o) (unwrap_or (flag settled) false) ≡ false
    by true f = f
    by false f = f

start-short : (max : ℕ) (handle id : ℕ) (tag : List ℕ) (format : ℕ) (settled more : Bool) (payload : List ℕ) (s : Option SendingView) → is_some s ≡ false → is_too_long max (length payload) ≡ false
    → (mode : ℕ) (d : Option Delivery) → s ≡ option_map size_of d → is_too_long max (length (joined_to (transferred mode (start_transfer handle id tag format settled more) payload) d).payload) ≡ false
start-short max handle id tag format settled more payload (Some u) none few mode d e = absurd (cc (none))
start-short max handle id tag format settled more payload None none few mode (Some u) e = absurd (cc (e))
start-short max handle id tag format settled more payload None none few mode None e = few

carry-allows : (o : Option EndView) (handle : ℕ) (more : Bool) (payload : List ℕ) (s : Option SendingView) → is_none s ≡ false
    → (mode : ℕ) (d : Option Delivery) → s ≡ option_map size_of d → Fits o d → mode_forbids (snd_of o) (joined_to (transferred mode (later_transfer handle (flag more) None) payload) d).settled ≡ false
carry-allows o handle more payload None some mode d e x = absurd (cc (some))
carry-allows o handle more payload (Some u) some mode None e x = absurd (cc (e))
carry-allows o handle more payload (Some u) some mode (Some d) e x = subst (λ (b : Bool). mode_forbids (snd_of o) b ≡ false) (or-same d.settled) x.0
  where
    or-same : (b : Bool) → b ≡ b || false
    or-same true = refl
    or-same false = refl

carry-short : (o : Option EndView) (max : ℕ) (handle : ℕ) (more : Bool) (payload : List ℕ) (s : Option SendingView) → is_none s ≡ false → is_too_long max (size_so_far s + length payload) ≡ false
    → (mode : ℕ) (d : Option Delivery) → s ≡ option_map size_of d → Fits o d → is_too_long max (length (joined_to (transferred mode (later_transfer handle (flag more) None) payload) d).payload) ≡ false
carry-short o max handle more payload None some few mode d e x = absurd (cc (some))
carry-short o max handle more payload (Some u) some few mode None e x = absurd (cc (e))
carry-short o max handle more payload (Some u) some few mode (Some d) e x =
    let same : u ≡ size_of d = cc e in
    let long : u.size + length payload ≡ length (d.payload ++ unless_resumed d.resumed payload) =
    ap (λ (u : SendingView). u.size + length payload) same ∙ sym (length-append d.payload payload) ∙ ap (λ (b : Bool). length (d.payload ++ unless_resumed b payload)) (sym x.1) in
    subst (λ (n : ℕ). is_too_long max n ≡ false) long few

start-turn : (role : Role) (name : List ℕ) (v : View) (link : ℕ) (tag : List ℕ) (format : ℕ) (settled : Bool) (payload : List ℕ) (more : Bool) (reply : Reply)
    → start_answer v link tag format settled payload more ≡ Ok reply → IsSound v → OwnTurn role name v (own.Start link tag format settled payload more) (frame_among reply.sent)
start-turn role name v link tag format settled payload more reply h s =
    let id = next_delivery v in
    let o = on-link-ok v link (λ l. sends v.max_frame (start_refusals v l tag settled payload) (start_body (handle_of l.ours) id tag format settled more) payload (given.Delivery id)) reply h in
    let k = sends-ok v.max_frame (start_refusals v o.on tag settled payload) (start_body (handle_of o.on.ours) id tag format settled more) payload (given.Delivery id) reply o.said in
    let l = o.on in
    let attached : is_attached l ≡ true = not-false (is_attached l) k.none_holds.0 in
    let fresh : is_some l.sending ≡ false = k.none_holds.1.1.0 in
    let sender : same_role Sender l.role ≡ true = not-false (same_role Sender l.role) k.none_holds.1.0 in
    let forbids : mode_forbids (snd_mode l) settled ≡ false = k.none_holds.1.1.1.1.0 in
    let fits : mode_forbids (snd_of l.ours) settled ≡ false = (let x = rw sender at forbids in x) in
    let f = frame_of (start_body (handle_of l.ours) id tag format settled more) payload in
    let sent : frame_among reply.sent ≡ Some f = ap (λ (r : Reply). frame_among r.sent) (sym k.replies) in
    subst (λ (p : Option Frame). OwnTurn role name v (own.Start link tag format settled payload more) p) (sym sent)
    (turn-on role name v (next_own v (own.Start link tag format settled payload more)) None (Some f) (has_number link) (begin_delivery id (length payload) more) l
    (plain _ (λ l. refl) (λ l. refl) (λ l. refl) (λ l. refl) (λ l h. h)) s o.found refl
    (λ n. sending (role-of role name l n Sender k.none_holds.1.0) (rw fresh refl) (λ h. k.none_holds.1.1.1.1.1.0) refl
    (record { frame = f; transfer = start_transfer (handle_of l.ours) id tag format settled more; attached = attached; is_sent = refl; body = refl; handle = refl; carries = start-carries l.ours (handle_of l.ours) id tag format settled more payload l.sending fresh fits; names = λ h. (refl, refl); later = λ h. absurd (cc (h, fresh)); no-mode = refl; begins-id = λ d none was. start-id more id (length payload) d was; keeps-id = λ c d was now. absurd (some-fresh l.sending c was fresh); allows = λ mode d e x y. start-allows l.ours (handle_of l.ours) id tag format settled more payload l.sending fresh fits mode d e; short = λ mode d e x y. start-short (max_of l.theirs) (handle_of l.ours) id tag format settled more payload l.sending fresh k.none_holds.1.1.1.1.1.1.1.0 mode d e }))
    (λ n. other-on role name v (has_number link) l o.found attached n))

carry-turn : (role : Role) (name : List ℕ) (v : View) (link : ℕ) (payload : List ℕ) (more : Bool) (reply : Reply)
    → own_answer v (own.Carry link payload more) ≡ Ok reply → IsSound v → OwnTurn role name v (own.Carry link payload more) (frame_among reply.sent)
carry-turn role name v link payload more reply h s =
    let o = on-link-ok v link (λ l. sends v.max_frame (carry_refusals v l payload) (later_body (handle_of l.ours) (flag more) None) payload given.Nothing) reply h in
    let k = sends-ok v.max_frame (carry_refusals v o.on payload) (later_body (handle_of o.on.ours) (flag more) None) payload given.Nothing reply o.said in
    let l = o.on in
    let attached : is_attached l ≡ true = not-false (is_attached l) k.none_holds.0 in
    let some : is_none l.sending ≡ false = k.none_holds.1.1.0 in
    let is = unfinished-some l.sending some in
    let f = frame_of (later_body (handle_of l.ours) (flag more) None) payload in
    let sent : frame_among reply.sent ≡ Some f = ap (λ (r : Reply). frame_among r.sent) (sym k.replies) in
    subst (λ (p : Option Frame). OwnTurn role name v (own.Carry link payload more) p) (sym sent)
    (turn-on role name v (next_own v (own.Carry link payload more)) None (Some f) (has_number link) (carry_on (length payload) more) l
    (plain _ (λ l. refl) (λ l. refl) (λ l. refl) (λ l. refl) (λ l h. h)) s o.found refl
    (λ n. sending (role-of role name l n Sender k.none_holds.1.0) (rw is refl) (λ h. absurd (cc (h, is))) refl
    (record { frame = f; transfer = later_transfer (handle_of l.ours) (flag more) None; attached = attached; is_sent = refl; body = refl; handle = refl; carries = carry-carries l.ours (handle_of l.ours) more payload l.sending some; names = λ h. absurd (cc (h, is)); later = λ h. refl; no-mode = refl; begins-id = λ d none was. absurd (cc (none, is)); keeps-id = λ c d was now. carry-id (length payload) more l.sending c d was now; allows = λ mode d e x y. carry-allows l.ours (handle_of l.ours) more payload l.sending some mode d e x; short = λ mode d e x y. carry-short l.ours (max_of l.theirs) (handle_of l.ours) more payload l.sending some k.none_holds.1.1.1.1.0 mode d e x }))
    (λ n. other-on role name v (has_number link) l o.found attached n))
  where
    unfinished-some : (o : Option SendingView) → is_none o ≡ false → is_some o ≡ true
    unfinished-some None h = absurd (cc (h))
    unfinished-some (Some u) h = refl

abort-turn : (role : Role) (name : List ℕ) (v : View) (link : ℕ) (reply : Reply)
    → own_answer v (own.Abort link) ≡ Ok reply → IsSound v → OwnTurn role name v (own.Abort link) (frame_among reply.sent)
abort-turn role name v link reply h s =
    let ended = ended_by (sent_by_own v (own.Abort link)) No_event v in
    let o = on-link-ok v link (λ l. sends_ending v.max_frame (abort_refusals v l) (later_body (handle_of l.ours) None (Some true)) ended given.Nothing) reply h in
    let k = sends-ending-ok v.max_frame (abort_refusals v o.on) (later_body (handle_of o.on.ours) None (Some true)) ended given.Nothing reply o.said in
    let l = o.on in
    let attached : is_attached l ≡ true = not-false (is_attached l) k.none_holds.0 in
    let is = unfinished-some l.sending k.none_holds.1.1.0 in
    let f = frame_of (later_body (handle_of l.ours) None (Some true)) [] in
    let sent : frame_among reply.sent ≡ Some f = ap (λ (r : Reply). frame_among r.sent) (sym k.replies) in
    subst (λ (p : Option Frame). OwnTurn role name v (own.Abort link) p) (sym sent)
    (turn-on role name v (next_own v (own.Abort link)) None (Some f) (has_number link) aborted l
    (plain _ (λ l. refl) (λ l. refl) (λ l. refl) (λ l. refl) (λ l h. h)) s o.found refl
    (λ n. sending (role-of role name l n Sender k.none_holds.1.0) (rw is refl) (λ h. absurd (cc (h, is))) refl
    (record { frame = f; transfer = later_transfer (handle_of l.ours) None (Some true); attached = attached; is_sent = refl; body = refl; handle = refl; carries = abort-carries l.ours (handle_of l.ours) [] l.sending; names = λ h. absurd (cc (h, is)); later = λ h. refl; no-mode = refl; begins-id = λ d none now. absurd (cc (now)); keeps-id = λ c d was now. absurd (cc (now)); allows = λ mode d e x y. absurd (cc (y)); short = λ mode d e x y. absurd (cc (y)) }))
    (λ n. other-on role name v (has_number link) l o.found attached n))
  where
    unfinished-some : (o : Option SendingView) → is_none o ≡ false → is_some o ≡ true
    unfinished-some None h = absurd (cc (h))
    unfinished-some (Some u) h = refl

-- # Flows

no-receiver : (r : Role) → not (same_role Sender r) ≡ false → r ≡ Receiver → ⊥
no-receiver Sender h is = absurd (cc (is))
no-receiver Receiver h is = absurd (cc (h))

same-wire : (p : ℕ) → wire p ≡ wire (p + 0)
same-wire p = omega arith

grant-turn : (role : Role) (name : List ℕ) (v : View) (link credit : ℕ) (drain echo : Bool) (reply : Reply)
    → own_answer v (own.Grant link credit drain echo) ≡ Ok reply → IsSound v → OwnTurn role name v (own.Grant link credit drain echo) (frame_among reply.sent)
grant-turn role name v link credit drain echo reply h s =
    let o = on-link-ok v link (λ l. sends v.max_frame (grant_refusals l credit) (grant_body v.windows (granted_on credit drain l) drain echo) [] given.Nothing) reply h in
    let k = sends-ok v.max_frame (grant_refusals o.on credit) (grant_body v.windows (granted_on credit drain o.on) drain echo) [] given.Nothing reply o.said in
    let l = o.on in
    let attached : is_attached l ≡ true = not-false (is_attached l) k.none_holds.0 in
    let below : nat_lt 2147483647 credit ≡ false = k.none_holds.1.1.0 in
    let keeps : nat_lt credit l.credit.credit ≡ false = k.none_holds.1.1.1.0 in
    let f = frame_of (grant_body v.windows (granted_on credit drain l) drain echo) [] in
    let sent : frame_among reply.sent ≡ Some f = ap (λ (r : Reply). frame_among r.sent) (sym k.replies) in
    subst (λ (p : Option Frame). OwnTurn role name v (own.Grant link credit drain echo) p) (sym sent)
    (turn-on role name v (next_own v (own.Grant link credit drain echo)) None (Some f) (has_number link) (granted_on credit drain) l
    (plain _ (λ l. refl) (λ l. refl) (λ l. refl) (λ l. refl) (λ l h. h)) s o.found refl
    (λ n. tells 0 refl (same-wire l.credit.passed)
    (subst (λ (r : Role). OwnNumbers r 0 l.credit.credit credit) (sym (role-of role name l n Receiver k.none_holds.1.0)) (refl, (not-over credit l.credit.credit keeps, not-over 2147483647 credit below)))
    (subst (λ (r : Role). OwnDrain r l.credit (granted credit drain l.credit)) (sym (role-of role name l n Receiver k.none_holds.1.0)) tt) refl refl
    (record { frame = f; flow = grant_flow v.windows (granted_on credit drain l) drain echo; attached = attached; stays = attached-stays l attached; is_sent = refl; body = refl; handle = refl; count = refl; credit = refl; drains = λ r o. ap flag (and-both drain (nat_lt 0 credit) o).0 }))
    (λ n. other-on role name v (has_number link) l o.found attached n))
  where
    not-over : (a b : ℕ) → nat_lt a b ≡ false → b ≤ a
    not-over a b h = grind (arith, h)

offer-turn : (role : Role) (name : List ℕ) (v : View) (link available : ℕ) (reply : Reply)
    → own_answer v (own.Offer link available) ≡ Ok reply → IsSound v → OwnTurn role name v (own.Offer link available) (frame_among reply.sent)
offer-turn role name v link available reply h s =
    let o = on-link-ok v link (λ l. sends v.max_frame (attached_as Sender l []) (offer_body v.windows (offered available l)) [] given.Nothing) reply h in
    let k = sends-ok v.max_frame (attached_as Sender o.on []) (offer_body v.windows (offered available o.on)) [] given.Nothing reply o.said in
    let l = o.on in
    let attached : is_attached l ≡ true = not-false (is_attached l) k.none_holds.0 in
    let f = frame_of (offer_body v.windows (offered available l)) [] in
    let sent : frame_among reply.sent ≡ Some f = ap (λ (r : Reply). frame_among r.sent) (sym k.replies) in
    subst (λ (p : Option Frame). OwnTurn role name v (own.Offer link available) p) (sym sent)
    (turn-on role name v (next_own v (own.Offer link available)) None (Some f) (has_number link) (offered available) l
    (plain _ (λ l. refl) (λ l. refl) (λ l. refl) (λ l. refl) (λ l h. h)) s o.found refl
    (λ n. tells 0 refl (same-wire l.credit.passed)
    (subst (λ (r : Role). OwnNumbers r 0 l.credit.credit l.credit.credit) (sym (role-of role name l n Sender k.none_holds.1.0)) (none-passed l.credit.credit))
    (subst (λ (r : Role). OwnDrain r l.credit l.credit) (sym (role-of role name l n Sender k.none_holds.1.0)) (λ h. refl)) refl refl
    (record { frame = f; flow = sender_flow v.windows (offered available l) (flag l.credit.drain); attached = attached; stays = attached-stays l attached; is_sent = refl; body = refl; handle = refl; count = refl; credit = refl; drains = λ r o. absurd (no-receiver l.role k.none_holds.1.0 r) }))
    (λ n. other-on role name v (has_number link) l o.found attached n))
  where
    none-passed : (c : ℕ) → c ≡ c + 0
    none-passed c = omega arith

drained-turn : (role : Role) (name : List ℕ) (v : View) (link : ℕ) (reply : Reply)
    → own_answer v (own.Drained link) ≡ Ok reply → IsSound v → OwnTurn role name v (own.Drained link) (frame_among reply.sent)
drained-turn role name v link reply h s =
    let o = on-link-ok v link (λ l. sends v.max_frame (drained_refusals l) (drained_body v.windows (drained l)) [] given.Nothing) reply h in
    let k = sends-ok v.max_frame (drained_refusals o.on) (drained_body v.windows (drained o.on)) [] given.Nothing reply o.said in
    let l = o.on in
    let attached : is_attached l ≡ true = not-false (is_attached l) k.none_holds.0 in
    let f = frame_of (drained_body v.windows (drained l)) [] in
    let sent : frame_among reply.sent ≡ Some f = ap (λ (r : Reply). frame_among r.sent) (sym k.replies) in
    subst (λ (p : Option Frame). OwnTurn role name v (own.Drained link) p) (sym sent)
    (turn-on role name v (next_own v (own.Drained link)) None (Some f) (has_number link) drained l
    (plain _ (λ l. refl) (λ l. refl) (λ l. refl) (λ l. refl) (λ l h. h)) s o.found refl
    (λ n. tells l.credit.credit refl (twice-wire (l.credit.passed + l.credit.credit))
    (subst (λ (r : Role). OwnNumbers r l.credit.credit l.credit.credit 0) (sym (role-of role name l n Sender k.none_holds.1.0)) (all-passed l.credit.credit))
    (subst (λ (r : Role). OwnDrain r l.credit (sender_drained l.credit)) (sym (role-of role name l n Sender k.none_holds.1.0)) (λ h. absurd (omega (arith, h)))) refl refl
    (record { frame = f; flow = sender_flow v.windows (drained l) (Some true); attached = attached; stays = attached-stays l attached; is_sent = refl; body = refl; handle = refl; count = refl; credit = refl; drains = λ r o. absurd (no-receiver l.role k.none_holds.1.0 r) }))
    (λ n. other-on role name v (has_number link) l o.found attached n))
  where
    twice-wire : (n : ℕ) → wire (wire n) ≡ wire n
    twice-wire n = omega arith

    all-passed : (c : ℕ) → c ≡ 0 + c
    all-passed c = omega arith

-- # Others

-- a link that we leave, for good or not, by an operation that begins nothing
leave-turn : (role : Role) (name : List ℕ) (v : View) (link : ℕ) (closed : Option Bool) (error : Option AmqpError) (tell : LinkView → Given) (reply : Reply)
    → on_link v link (λ l. sends_ending v.max_frame (detach_refusals l) (detach_body (handle_of l.ours) closed error) (ended_by (Leaves link) (Leaves link) v) (tell l)) ≡ Ok reply
    → IsSound v → Turn role name v (next_detach v link) None (frame_among reply.sent)
leave-turn role name v link closed error tell reply h s =
    let ended = ended_by (Leaves link) (Leaves link) v in
    let o = on-link-ok v link (λ l. sends_ending v.max_frame (detach_refusals l) (detach_body (handle_of l.ours) closed error) ended (tell l)) reply h in
    let k = sends-ending-ok v.max_frame (detach_refusals o.on) (detach_body (handle_of o.on.ours) closed error) ended (tell o.on) reply o.said in
    let l = o.on in
    let attached : is_attached l ≡ true = not-false (is_attached l) k.none_holds.0 in
    let f = frame_of (detach_body (handle_of l.ours) closed error) [] in
    let sent : frame_among reply.sent ≡ Some f = ap (λ (r : Reply). frame_among r.sent) (sym k.replies) in
    subst (λ (p : Option Frame). Turn role name v (next_detach v link) None p) (sym sent)
    (turn-on role name v (next_detach v link) None (Some f) (has_number link) left_by_us l
    (plain _ (λ l. refl) (λ l. refl) (λ l. refl) (λ l. refl) (λ l h. absurd (cc (h)))) s o.found refl
    (λ n. leaving refl (attached-both l attached) refl refl)
    (λ n. other-on role name v (has_number link) l o.found attached n))

attach-turn : (role : Role) (name : List ℕ) (v : View) (a : Wanted) (reply : Reply) → attach_answer v (bare a) ≡ Ok reply → IsSound v
    → Turn role name v (next_attach v (bare a)) None (frame_among reply.sent)
attach-turn role name v a reply h s =
    let b = attach_sent v (bare a) in
    let k = sends-ok v.max_frame (attach_refusals v (bare a)) (Some (heard.Attach b)) [] (given.Link (number_met v.made (find (is_offered_as a.role a.name) v.links))) reply h in
    let f = frame_of (Some (heard.Attach b)) [] in
    let sent : frame_among reply.sent ≡ Some f = ap (λ (r : Reply). frame_among r.sent) (sym k.replies) in
    let free : is_some (find (is_ours a.role a.name) v.links) ≡ false = k.none_holds.1.0 in
    subst (λ (o : Option Frame). Turn role name v (next_attach v (bare a)) None o) (sym sent)
    (by-bool (same_role role a.role && pointwise nat_eq name a.name)
    (λ (t : same_role role a.role && pointwise nat_eq name a.name ≡ true).
    let both = and-both (same_role role a.role) (pointwise nat_eq name a.name) t in
    let r : role ≡ a.role = role-same role a.role both.0 in
    let n : name ≡ a.name = texts-same name a.name both.1 in
    asks b f v.made refl refl refl (rw (r, n) (free-ours v a.role a.name free (find (has_name a.role a.name) v.links) refl)) (rw (r, n) (attach-joins-at v a s free)))
    (λ (d : same_role role a.role && pointwise nat_eq name a.name ≡ false).
    rest-turn role name v (next_attach v (bare a)) None (Some f)
    (joined-other v (is_offered_as a.role a.name) a.role a.name role name (attached_by_us b []) (us-keeps b) (λ l h. (and-both (has_name a.role a.name l) (is_offered l) h).0) d)
    d))

-- nothing of links is sent or changed
still-turn : (role : Role) (name : List ℕ) (v : View) (op : Op) (body : Option Performative) (payload : List ℕ) (sent : Option Frame) → (next_own v op).links ≡ v.links
    → sent ≡ frame_among (sent_of body payload ∷ []) → IsAside role name v (frame_among (sent_of body payload ∷ [])) → OwnTurn role name v op sent
still-turn role name v op body payload sent same is aside =
    rest-turn role name v (next_own v op) None sent (ap (find (has_name role name)) same) (subst (λ (o : Option Frame). IsAside role name v o) (sym is) aside)

pub own-turn : (role : Role) (name : List ℕ) (v : View) (op : Op) (reply : Reply) → OwnAnswers v op reply → IsSound v → OwnTurn role name v op (frame_among reply.sent)
own-turn role name v own.Begin reply h s =
    let k = sends-ok v.max_frame (begin_refusals v) (begin_body v) [] given.Nothing reply h in
    still-turn role name v own.Begin (begin_body v) [] (frame_among reply.sent) refl (ap (λ (r : Reply). frame_among r.sent) (sym k.replies)) tt
own-turn role name v (own.Attach name' role' snd rcv source target count max_message) reply h s =
    attach-turn role name v (record { name = name'; role = role'; snd = snd; rcv = rcv; source = source; target = target; count = count; max_message = max_message; items = [] }) reply h s
own-turn role name v (own.Start link tag format settled payload more) reply h s = start-turn role name v link tag format settled payload more reply h s
own-turn role name v (own.Carry link payload more) reply h s = carry-turn role name v link payload more reply h s
own-turn role name v (own.Abort link) reply h s = abort-turn role name v link reply h s
own-turn role name v (own.Dispose role' first last settled state) reply h s =
    let d : Disposition = record { first = first; last = last; settled = settled; state = state } in
    let op = own.Dispose role' first last settled state in
    let k = sends-ending-ok v.max_frame (dispose_refusals v role' d) (dispose_body role' d) (ended_by (sent_by_own v op) (received_by_own v op) v) given.Nothing reply h in
    still-turn role name v op (dispose_body role' d) [] (frame_among reply.sent) refl (ap (λ (r : Reply). frame_among r.sent) (sym k.replies)) tt
own-turn role name v (own.Learn link) reply h s =
    let say : LinkView → Result Reply Refusal = λ l. unless (not (same_role Sender l.role)) refusal.WrongRole (learn_first l.told) in
    let t = there_Ok (find (has_number link) v.links) refusal.NoLink say reply h in
    let u = unless_Ok (not (same_role Sender t.on.role)) refusal.WrongRole (learn_first t.on.told) reply t.said in
    let none = learn-silent t.on.told reply u.1 in
    subst (λ (o : Option Frame). OwnTurn role name v (own.Learn link) o) (sym none)
    (turn-on role name v (next_own v (own.Learn link)) None None (has_number link) learnt_from t.on (plain _ (λ l. refl) (λ l. refl) (λ l. refl) (λ l. refl) (λ l h. h)) s t.found refl (λ n. rests refl refl refl tt) (λ n. tt))
own-turn role name v (own.Grant link credit drain echo) reply h s = grant-turn role name v link credit drain echo reply h s
own-turn role name v (own.Offer link available) reply h s = offer-turn role name v link available reply h s
own-turn role name v (own.Drained link) reply h s = drained-turn role name v link reply h s
own-turn role name v (own.Refresh echo) reply h s =
    let k = sends-ok v.max_frame ((not (is_mapped v.session), refusal.NotMapped) ∷ []) (refresh_body v.windows echo) [] given.Nothing reply h in
    still-turn role name v (own.Refresh echo) (refresh_body v.windows echo) [] (frame_among reply.sent) refl (ap (λ (r : Reply). frame_among r.sent) (sym k.replies)) tt
own-turn role name v (own.Take link) reply h s =
    let say : LinkView → Result Reply Refusal = λ l. unless (not (same_role Receiver l.role)) refusal.WrongRole (take_first l.number l.ready) in
    let t = there_Ok (find (has_number link) v.links) refusal.NoLink say reply h in
    let u = unless_Ok (not (same_role Receiver t.on.role)) refusal.WrongRole (take_first t.on.number t.on.ready) reply t.said in
    let none = take-silent t.on.number t.on.ready reply u.1 in
    subst (λ (o : Option Frame). OwnTurn role name v (own.Take link) o) (sym none)
    (turn-on role name v (next_own v (own.Take link)) None None (has_number link) taken_from t.on (plain _ (λ l. refl) (λ l. refl) (λ l. refl) (λ l. refl) (λ l h. h)) s t.found refl (λ n. rests refl refl refl tt) (λ n. tt))
own-turn role name v (own.Detach link error) reply h s = leave-turn role name v link (Some true) error (λ l. given.Nothing) reply h s
own-turn role name v (own.Suspend link) reply h s = leave-turn role name v link None None (λ l. given.Suspended (put_aside v l)) reply h s
own-turn role name v (own.Rejoin r) reply h s = absurd h
own-turn role name v (own.Resume link tag settled) reply h s = absurd h
own-turn role name v (own.End error) reply h s =
    let k = sends-ending-ok v.max_frame ((not (is_mapped v.session), refusal.NotMapped) ∷ []) (end_body error) (ended_by Over Over v) given.Nothing reply h in
    let sent : frame_among reply.sent ≡ frame_among (sent_of (end_body error) [] ∷ []) = ap (λ (r : Reply). frame_among r.sent) (sym k.replies) in
    away refl (inr (subst (λ (o : Option Frame). IsUncounted o) (sym sent) refl))
own-turn role name v own.Beat reply h s =
    let k = sends-ok v.max_frame [] None [] given.Nothing reply h in
    still-turn role name v own.Beat None [] (frame_among reply.sent) refl (ap (λ (r : Reply). frame_among r.sent) (sym k.replies)) tt
