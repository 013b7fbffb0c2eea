-- The tags that wait on a link are not those of unsettled deliveries, at all times.
use Rattle.std.proofs.Common.{◌≡◌, ◌<◌, ◌≤◌, ℕ, ◌+◌, ◌&&◌, ◌||◌, Bool, true, false, not, cond, Option, Some, None, Result, Ok, List, [], ◌∷◌, ◌++◌, map, filter, refl, sym, ap, ◌∙◌, find, is_some, is_none, subst, eqb, nat_eq, arith, unwrap_or, length}
use Rattle.std.specs.List.{list_any}
use Rattle.std.specs.Cmp.Lexicographic.{pointwise, bytes_decides}
use Rattle.std.proofs.lemmas.Bool.{eqb-true, or_parts}
use Rattle.amqp_performatives.specs.declared.bodies.AttachBody.{AttachBody}
use Rattle.amqp_performatives.specs.declared.bodies.DispositionBody.{DispositionBody}
use Rattle.amqp_performatives.specs.declared.bodies.FlowBody.{FlowBody}
use Rattle.amqp_performatives.specs.declared.bodies.TransferBody.{TransferBody}
use Rattle.amqp_performatives.specs.declared.bodies.Role.{Role}
use Rattle.amqp_performatives.specs.declared.bodies.Role.TheVariants.{Sender, Receiver}
use Rattle.amqp_performatives.specs.declared.performative.Performative.{Performative}
use Rattle.amqp_performatives.specs.declared.performative.Performative.TheVariants as heard
use Rattle.amqp_frames.specs.declared.frame.Frame.{Frame}
use Rattle.amqp_events.specs.Event.{Disposition, Event, Item, Begins, Leaves, PassesOver, Nothing as No_event}
use Rattle.amqp_events.specs.Joined.{Delivery, Transferred}
use Rattle.amqp_events.specs.Tags.{is_tagged}
use Rattle.amqp_events.specs.Unsettled.{added, begins, ends, next_held, said_to}
use Rattle.amqp_events.specs.Told.{SentItem, next_sent_held}
use Rattle.amqp_events.proofs.Gone.{items-next}
use Rattle.amqp_waiting.specs.declared.item.SuspendedItem.{SuspendedItem}
use Rattle.amqp_waiting.specs.declared.peer.Unsettled.{Unsettled}
use Rattle.amqp_waiting.specs.Waiting.{WaitingItem, met, told_of, unclear, waits, waits_as, without}
use Rattle.amqp_waiting.specs.PeerUnsettled.{unsettled_of}
use Rattle.amqp_rules.specs.declared.config.Config.{Config}
use Rattle.amqp_rules.specs.declared.op.Op.{Op}
use Rattle.amqp_rules.specs.declared.op.Op.TheVariants.{Begin, Attach, Start, Carry, Abort, Dispose, Learn, Grant, Offer, Drained, Refresh, Take, Detach, Suspend, Rejoin, Resume, End, Beat}
use Rattle.amqp_rules.specs.declared.refusal.Refusal.{Refusal}
use Rattle.amqp_rules.specs.declared.refusal.Refusal.TheVariants.{NotWaiting}
use Rattle.amqp_rules.specs.declared.reply.Reply.{Reply}
use Rattle.amqp_rules.specs.declared.reply.Given.TheVariants as given
use Rattle.amqp_rules.specs.declared.violation.Violation.{Violation}
use Rattle.amqp_rules.specs.declared.violation.ViolationKind.TheVariants.{OutOfSession, BadHandle}
use Rattle.amqp_rules.specs.View.{EndView, LinkView, SendingView, View, change_first, handle_of, has_name, has_number, has_peer_handle, initial, is_asked_as, is_attached, is_offered_as, is_sender, new_link, next_delivery, opposite, rcv_mode, remove_first, takes_frames}
use Rattle.amqp_rules.specs.Refusing.{answered, first_refusal, if_there, unlinked}
use Rattle.amqp_rules.specs.Sending.{sends}
use Rattle.amqp_rules.specs.Opened.{next_opened}
use Rattle.amqp_rules.specs.Answer.{body_answer, heard_answer, is_dropped, next_body, next_heard, next_own, own_answer}
use Rattle.amqp_rules.specs.Attach.{Wanted, attach_sent, attached_by_peer, attached_by_us, join_link, met_where, next_attach}
use Rattle.amqp_rules.specs.Rejoin.{rejoined}
use Rattle.amqp_rules.specs.Start.{begin_delivery, start_body, start_refusals}
use Rattle.amqp_rules.specs.Carry.{carry_on}
use Rattle.amqp_rules.specs.Abort.{aborted}
use Rattle.amqp_rules.specs.Learn.{learnt_from}
use Rattle.amqp_rules.specs.Grant.{granted_on}
use Rattle.amqp_rules.specs.Offer.{offered}
use Rattle.amqp_rules.specs.Drained.{drained}
use Rattle.amqp_rules.specs.Take.{taken_from}
use Rattle.amqp_rules.specs.Detach.{left_by_us}
use Rattle.amqp_rules.specs.Resume.{begin_resumed, early_refusals, resume_begins, resume_item, resumed_from, unless_refused}
use Rattle.amqp_rules.specs.Flow.{flow_link, flow_links, flowed}
use Rattle.amqp_rules.specs.PeerTransfer.{delivery_violations, heard_on, received_on, receives, transfer_reply, transfer_violations, waiting_after}
use Rattle.amqp_rules.specs.PeerDisposition.{told_more}
use Rattle.amqp_rules.specs.Deliveries.{begins_unsettled, begun_on, belongs_to, brought_by, continued_on, heard_of, is_partial, is_sent_anew, item_of, left_by_peer, resumed_as, resumed_on, said_of, sending_on, sent_by_body, sent_by_own, state_brought, transfer_on, transferred}
use Rattle.amqp_rules.specs.Sound.{AllWaitApart, Ascends, Every, IsWaitingApart, WaitsApart, keys}
use Rattle.amqp_rules.proofs.Accepted.{NoneHolds, answered_Ok, no_refusal, not-false, on-link-ok, sends-ok, there_Ok, unless_Ok, unless_refused_Ok}
use Rattle.amqp_rules.proofs.Listed.{by-bool, every-both, every-more, every-removed}

-- the links stand in the order in which they were made
abbrev pub AreInOrder : View → Type 0
AreInOrder v = Ascends v.made 0 (map keys v.links)

-- # Lists

every-all : {A : Type 0} (P : A → Type 0) (xs : List A) → ((x : A) → P x) → Every P xs
every-all P [] all = tt
every-all P (x ∷ xs) all = (all x, every-all P xs all)

every-weaker : {A : Type 0} (P Q : A → Type 0) (xs : List A) → Every P xs → ((x : A) → P x → Q x) → Every Q xs
every-weaker P Q xs all h = every-both P P Q xs all all (λ x p q. h x p)

-- the first that passes is changed, and passed
every-changed-if : {A : Type 0} (P : A → Type 0) (test : A → Bool) (change : A → A) (xs : List A) → Every P xs → ((x : A) → test x ≡ true → P x → P (change x)) → Every P (change_first test change xs)
every-changed-if P test change [] all keeps = tt
every-changed-if P test change (x ∷ xs) all keeps =
    by-bool (test x)
    (λ (t : test x ≡ true). rw t (keeps x t all.0, all.1))
    (λ (t : test x ≡ false). rw t (all.0, every-changed-if P test change xs all.1 keeps))

every-filter : {A : Type 0} (P : A → Type 0) (test : A → Bool) (xs : List A) → Every P xs → Every P (filter test xs)
every-filter P test [] all = tt
every-filter P test (x ∷ xs) all =
    by-bool (test x) (λ (t : test x ≡ true). rw t (all.0, every-filter P test xs all.1)) (λ (t : test x ≡ false). rw t (every-filter P test xs all.1))

every-passes : {A : Type 0} (test : A → Bool) (xs : List A) → Every (λ x. test x ≡ true) (filter test xs)
every-passes test [] = tt
every-passes test (x ∷ xs) =
    by-bool (test x) (λ (t : test x ≡ true). rw t (t, every-passes test xs)) (λ (t : test x ≡ false). rw t (every-passes test xs))

none-of : {A : Type 0} (test : A → Bool) (xs : List A) → list_any test xs ≡ false → Every (λ x. test x ≡ false) xs
none-of test [] h = tt
none-of test (x ∷ xs) h = let p = or_parts (test x) (list_any test xs) h in (p.0, none-of test xs p.1)

-- what is found passes
passes-found : {A : Type 0} (test : A → Bool) (xs : List A) (on : A) → find test xs ≡ Some on → test on ≡ true
passes-found test [] on h = absurd (cc)
passes-found {A} test (x ∷ xs) on h =
    by-bool (test x)
    (λ (t : test x ≡ true). let h' = rw t at h in let same : x ≡ on = cc in subst (λ (y : A). test y ≡ true) same t)
    (λ (t : test x ≡ false). let h' = rw t at h in passes-found test xs on h')

-- # Unsettled deliveries after an event: those that were, and the one that begins

any-next : (test : Item → Bool) (e : Event) (items : List Item) → ((i : Item) → test (said_to e i) ≡ test i)
    → list_any test items ≡ false → list_any test (added (begins e)) ≡ false → list_any test (next_held e items) ≡ false
any-next test e [] same h k = k
any-next test e (i ∷ items) same h k = by (ends e i) (or_parts (test i) (list_any test items) h).0 (any-next test e items same (or_parts (test i) (list_any test items) h).1 k)
  where
    by : (over : Bool) → test i ≡ false → list_any test (next_held e items) ≡ false
        → list_any test (map (said_to e) (cond (not over) (i ∷ filter (λ i. not (ends e i)) items) (filter (λ i. not (ends e i)) items)) ++ added (begins e)) ≡ false
    by true free rest = rest
    by false free rest = rw (same i, free) rest

made-next : (made : ℕ) (e : Event) (items : List Item) → Every (λ i. i.link < made) items → Every (λ i. i.link < made) (added (begins e)) → Every (λ i. i.link < made) (next_held e items)
made-next made e [] all more = more
made-next made e (i ∷ items) all more = by (ends e i) (made-next made e items all.1 more)
  where
    by : (over : Bool) → Every (λ i. i.link < made) (next_held e items)
        → Every (λ i. i.link < made) (map (said_to e) (cond (not over) (i ∷ filter (λ i. not (ends e i)) items) (filter (λ i. not (ends e i)) items)) ++ added (begins e))
    by true rest = rest
    by false rest = (all.0, rest)

apart-next : (e : Event) (items : List Item) (l : LinkView) → WaitsApart items l → WaitsApart (added (begins e)) l → WaitsApart (next_held e items) l
apart-next e items l a b =
    record {
      waiting =
          every-both (λ w. list_any (is_tagged l.number w.tag) items ≡ false) (λ w. list_any (is_tagged l.number w.tag) (added (begins e)) ≡ false) (λ w. list_any (is_tagged l.number w.tag) (next_held e items) ≡ false) l.waiting a.waiting b.waiting
          (λ w h k. any-next (is_tagged l.number w.tag) e items (λ i. refl) h k);
      bare = λ none. any-next (λ i. eqb i.link l.number) e items (λ i. refl) (a.bare none) (b.bare none);
    }

all-next : (made : ℕ) (links : List LinkView) (e : Event) (items : List Item) → AllWaitApart made links items → AllWaitApart made links (added (begins e)) → AllWaitApart made links (next_held e items)
all-next made links e items a b =
    record {
      apart = every-both (WaitsApart items) (WaitsApart (added (begins e))) (WaitsApart (next_held e items)) links a.apart b.apart (apart-next e items);
      below = made-next made e items a.below b.below;
    }

none-apart : (made : ℕ) (links : List LinkView) → AllWaitApart made links []
none-apart made links = record { apart = every-all (WaitsApart []) links (λ l. record { waiting = every-all _ l.waiting (λ w. refl); bare = λ none. refl }); below = tt }

-- none begins
all-quiet : (made : ℕ) (links : List LinkView) (e : Event) (items : List Item) → begins e ≡ None → AllWaitApart made links items → AllWaitApart made links (next_held e items)
all-quiet made links e items quiet a = all-next made links e items a (rw quiet (none-apart made links))

-- the same of those that we sent
sent-next : (made : ℕ) (links : List LinkView) (e : Event) (sent : List SentItem) → AllWaitApart made links (map (λ s. s.item) sent) → AllWaitApart made links (added (begins e)) → AllWaitApart made links (map (λ s. s.item) (next_sent_held e sent))
sent-next made links e sent a b = rw (items-next e sent) (all-next made links e (map (λ s. s.item) sent) a b)

sent-quiet : (made : ℕ) (links : List LinkView) (e : Event) (sent : List SentItem) → begins e ≡ None → AllWaitApart made links (map (λ s. s.item) sent) → AllWaitApart made links (map (λ s. s.item) (next_sent_held e sent))
sent-quiet made links e sent quiet a = sent-next made links e sent a (rw quiet (none-apart made links))

-- # Links that are changed

-- what is asked of a link is told of its number, of what waits, and of whether our attach was sent
changed-apart : (made : ℕ) (test : LinkView → Bool) (change : LinkView → LinkView) (links : List LinkView) (items : List Item)
    → ((l : LinkView) → test l ≡ true → WaitsApart items l → WaitsApart items (change l)) → AllWaitApart made links items → AllWaitApart made (change_first test change links) items
changed-apart made test change links items keeps a = record { apart = every-changed-if (WaitsApart items) test change links a.apart keeps; below = a.below }

-- # Attaches

-- no delivery of the link, so none with whatever tag
untagged : (k : ℕ) (tag : List ℕ) (items : List Item) → list_any (λ i. eqb i.link k) items ≡ false → list_any (is_tagged k tag) items ≡ false
untagged k tag [] h = refl
untagged k tag (i ∷ items) h = let p = or_parts (eqb i.link k) (list_any (λ i. eqb i.link k) items) h in rw p.0 (untagged k tag items p.1)

-- our attach: no delivery was unsettled before it
ours-apart : (b : AttachBody) (brought : List SuspendedItem) (items : List Item) (l : LinkView) → is_some l.ours ≡ false → WaitsApart items l → WaitsApart items (attached_by_us b brought l)
ours-apart b brought items l none a =
    record {
      waiting = every-all (λ w. list_any (is_tagged l.number w.tag) items ≡ false) (met_where l.theirs l.role l.offer (map unclear brought)) (λ w. untagged l.number w.tag items (a.bare none));
      bare = λ (h : true ≡ false). absurd (cc);
    }

-- those that wait on keep their tags
met-kept : (P : List ℕ → Type 0) (role : Role) (u : Unsettled) (ws : List WaitingItem) → Every (λ w. P w.tag) ws → Every (λ w. P w.tag) (met role u ws)
met-kept P role u [] all = tt
met-kept P Sender u (w ∷ ws) all = (all.0, met-kept P Sender u ws all.1)
met-kept P Receiver u (w ∷ ws) all =
    by-bool (is_some (told_of w.tag u) || u.incomplete)
    (λ (t : is_some (told_of w.tag u) || u.incomplete ≡ true). rw t (all.0, met-kept P Receiver u ws all.1))
    (λ (t : is_some (told_of w.tag u) || u.incomplete ≡ false). rw t (met-kept P Receiver u ws all.1))

met-where-kept : (P : List ℕ → Type 0) (o : Option EndView) (role : Role) (u : Unsettled) (ws : List WaitingItem) → Every (λ w. P w.tag) ws → Every (λ w. P w.tag) (met_where o role u ws)
met-where-kept P None role u ws all = all
met-where-kept P (Some e) role u ws all = met-kept P role u ws all

theirs-apart : (b : AttachBody) (items : List Item) (l : LinkView) → WaitsApart items l → WaitsApart items (attached_by_peer b l)
theirs-apart b items l a =
    record { waiting = met-where-kept (λ tag. list_any (is_tagged l.number tag) items ≡ false) l.ours l.role (unsettled_of b) l.waiting a.waiting; bare = a.bare }

-- a link that is made has no delivery
unmade : (made : ℕ) (items : List Item) → Every (λ i. i.link < made) items → list_any (λ i. eqb i.link made) items ≡ false
unmade made [] all = refl
unmade made (i ∷ items) all =
    by-bool (eqb i.link made)
    (λ (t : eqb i.link made ≡ true). let same = eqb-true i.link made t in let less : i.link < made = all.0 in absurd (omega (arith, same, less)))
    (λ (t : eqb i.link made ≡ false). rw t (unmade made items all.1))

new-apart : (made : ℕ) (role : Role) (name : List ℕ) (items : List Item) → Every (λ i. i.link < made) items → WaitsApart items (new_link made role name)
new-apart made role name items below = record { waiting = tt; bare = λ none. unmade made items below }

more-made : (made : ℕ) (i : Item) → i.link < made → i.link < made + 1
more-made made i h = omega (arith, h)

joined-apart : (v : View) (test : LinkView → Bool) (role : Role) (name : List ℕ) (change : LinkView → LinkView)
    → ((items : List Item) (l : LinkView) → test l ≡ true → WaitsApart items l → WaitsApart items (change l))
    → ((items : List Item) → WaitsApart items (new_link v.made role name) → WaitsApart items (change (new_link v.made role name)))
    → IsWaitingApart v → IsWaitingApart (join_link test role name change v)
joined-apart v test role name change keeps makes a = by (is_some (find test v.links))
  where
    one-more : (items : List Item) → AllWaitApart v.made v.links items → AllWaitApart (v.made + 1) (v.links ++ change (new_link v.made role name) ∷ []) items
    one-more items h =
        record {
          apart = every-more (WaitsApart items) v.links (change (new_link v.made role name)) h.apart (makes items (new-apart v.made role name items h.below));
          below = every-weaker (λ i. i.link < v.made) (λ i. i.link < v.made + 1) items h.below (more-made v.made);
        }

    by : (met : Bool) → IsWaitingApart (cond met (record v { steps = v.steps + 1; links = change_first test change v.links }) (record v { steps = v.steps + 1; made = v.made + 1; links = v.links ++ change (new_link v.made role name) ∷ [] }))
    by true =
        record {
          sent = changed-apart v.made test change v.links (map (λ s. s.item) v.sent) (keeps (map (λ s. s.item) v.sent)) a.sent;
          received = changed-apart v.made test change v.links v.received (keeps v.received) a.received;
        }
    by false = record { sent = one-more (map (λ s. s.item) v.sent) a.sent; received = one-more v.received a.received }

offered-bare : (named theirs ours : Bool) → named && (theirs && not ours) ≡ true → ours ≡ false
offered-bare true true false h = refl
offered-bare true true true h = absurd (cc)
offered-bare true false ours h = absurd (cc)
offered-bare false theirs ours h = absurd (cc)

none-some : (o : Option EndView) → is_none o ≡ not (is_some o)
none-some None = refl
none-some (Some e) = refl

attach-apart : (v : View) (a : Wanted) → IsWaitingApart v → IsWaitingApart (next_attach v a)
attach-apart v a h =
    joined-apart v (is_offered_as a.role a.name) a.role a.name (attached_by_us (attach_sent v a) a.items)
    (λ items l offered. ours-apart (attach_sent v a) a.items items l (offered-bare (has_name a.role a.name l) (is_some l.theirs) (is_some l.ours) (ap (λ b. has_name a.role a.name l && (is_some l.theirs && b)) (sym (none-some l.ours)) ∙ offered)))
    (λ items. ours-apart (attach_sent v a) a.items items (new_link v.made a.role a.name) refl)
    h

-- # A delivery begins

-- on another link it has no say
other-link : (i : Item) (l : LinkView) → eqb i.link l.number ≡ false → WaitsApart (i ∷ []) l
other-link i l other =
    record {
      waiting = every-all (λ w. list_any (is_tagged l.number w.tag) (i ∷ []) ≡ false) l.waiting (λ w. rw other refl);
      bare = λ none. rw other refl;
    }

eqb-less : (m n : ℕ) → m < n → eqb m n ≡ false
eqb-less m n h = by-bool (eqb m n) (λ (t : eqb m n ≡ true). let same = eqb-true m n t in absurd (omega (arith, same, h))) (λ (t : eqb m n ≡ false). t)

eqb-more : (m n : ℕ) → n < m → eqb m n ≡ false
eqb-more m n h = by-bool (eqb m n) (λ (t : eqb m n ≡ true). let same = eqb-true m n t in absurd (omega (arith, same, h))) (λ (t : eqb m n ≡ false). t)

-- links behind
later-links : (i : Item) (made n : ℕ) (links : List LinkView) → i.link < n → Ascends made n (map keys links) → Every (WaitsApart (i ∷ [])) links
later-links i made n [] h a = tt
later-links i made n (l ∷ links) h a =
    let first : n ≤ l.number = a.0 in
    (other-link i l (eqb-less i.link l.number (omega (arith, h, first))), later-links i made (l.number + 1) links (omega (arith, h, first)) a.1)

-- the number of one that is found is not below those that ascend
found-above : (made n : ℕ) (test : LinkView → Bool) (links : List LinkView) (on : LinkView) → Ascends made n (map keys links) → find test links ≡ Some on → n ≤ on.number
found-above made n test [] on a h = absurd (cc)
found-above made n test (l ∷ links) on a h =
    by-bool (test l)
    (λ (t : test l ≡ true). let h' = rw t at h in let same : l ≡ on = cc in subst (λ (m : LinkView). n ≤ m.number) same a.0)
    (λ (t : test l ≡ false). let h' = rw t at h in let rest = found-above made (l.number + 1) test links on a.1 h' in let first : n ≤ l.number = a.0 in omega (arith, rest, first))

found-below : (made n : ℕ) (test : LinkView → Bool) (links : List LinkView) (on : LinkView) → Ascends made n (map keys links) → find test links ≡ Some on → on.number < made
found-below made n test [] on a h = absurd (cc)
found-below made n test (l ∷ links) on a h =
    by-bool (test l)
    (λ (t : test l ≡ true). let h' = rw t at h in let same : l ≡ on = cc in let small = below made (l.number + 1) (map keys links) a.1 in subst (λ (m : LinkView). m.number < made) same (omega (arith, small)))
    (λ (t : test l ≡ false). let h' = rw t at h in found-below made (l.number + 1) test links on a.1 h')
  where
    below : (made n : ℕ) (ks : List _) → Ascends made n ks → n ≤ made
    below made n [] a = a
    below made n (k ∷ ks) a = let first : n ≤ k.number = a.0 in let rest = below made (k.number + 1) ks a.1 in omega (arith, first, rest)

-- the link on which it begins is the first that passes
begun-apart : (i : Item) (made n : ℕ) (test : LinkView → Bool) (change : LinkView → LinkView) (links : List LinkView) (on : LinkView)
    → Ascends made n (map keys links) → find test links ≡ Some on → i.link ≡ on.number → WaitsApart (i ∷ []) (change on) → Every (WaitsApart (i ∷ [])) (change_first test change links)
begun-apart i made n test change [] on a h is fits = absurd (cc)
begun-apart i made n test change (l ∷ links) on a h is fits =
    by-bool (test l)
    (λ (t : test l ≡ true).
    let h' = rw t at h in
    let same : on ≡ l = cc in
    rw t (
      subst (λ (m : LinkView). WaitsApart (i ∷ []) (change m)) same fits,
      later-links i made (l.number + 1) links (let here : i.link ≡ l.number = is ∙ ap (λ (m : LinkView). m.number) same in omega (arith, here)) a.1,
    ))
    (λ (t : test l ≡ false).
    let h' = rw t at h in
    let above = found-above made (l.number + 1) test links on a.1 h' in
    rw t (other-link i l (eqb-more i.link l.number (omega (arith, is, above))), begun-apart i made (l.number + 1) test change links on a.1 h' is fits))

-- on this link it fits, where its tag does not wait and our attach was sent
begun-fits : (i : Item) (l : LinkView) → Every (λ w. pointwise nat_eq i.tag w.tag ≡ false) l.waiting → is_some l.ours ≡ true → WaitsApart (i ∷ []) l
begun-fits i l free attached =
    record {
      waiting = every-weaker (λ w. pointwise nat_eq i.tag w.tag ≡ false) (λ w. list_any (is_tagged l.number w.tag) (i ∷ []) ≡ false) l.waiting free (λ w h. differs (eqb i.link l.number) w.tag h);
      bare = λ none. absurd (cc (none, attached));
    }
  where
    turned : (a b : List ℕ) → pointwise nat_eq a b ≡ false → pointwise nat_eq b a ≡ false
    turned a b h =
        by-bool (pointwise nat_eq b a)
        (λ (t : pointwise nat_eq b a ≡ true). let same : a ≡ b = sym ((bytes_decides b a).0 t) in let k : pointwise nat_eq a b ≡ true = (bytes_decides a b).1 same in absurd (cc (k, h)))
        (λ (t : pointwise nat_eq b a ≡ false). t)

    differs : (here : Bool) (tag : List ℕ) → pointwise nat_eq i.tag tag ≡ false → (here && pointwise nat_eq tag i.tag) || false ≡ false
    differs true tag h = rw (turned i.tag tag h) refl
    differs false tag h = refl

-- a tag that does not wait is none of those that do
not-waiting : (tag : List ℕ) (ws : List WaitingItem) → waits tag ws ≡ false → Every (λ w. pointwise nat_eq tag w.tag ≡ false) ws
not-waiting tag ws h = none-of (waits_as tag) ws h

not-true : (b : Bool) → not b ≡ true → b ≡ false
not-true false h = refl
not-true true h = absurd (cc)

-- nor is one that has gone
gone-tag : (tag : List ℕ) (ws : List WaitingItem) → Every (λ w. pointwise nat_eq tag w.tag ≡ false) (without tag ws)
gone-tag tag ws =
    every-weaker (λ w. not (waits_as tag w) ≡ true) (λ w. pointwise nat_eq tag w.tag ≡ false) (without tag ws) (every-passes (λ w. not (waits_as tag w)) ws) (λ w h. not-true (waits_as tag w) h)

attached-ours : (ours theirs left : Bool) → (ours && theirs) && not left ≡ true → ours ≡ true
attached-ours true theirs left h = refl
attached-ours false theirs left h = absurd (cc)

-- one item begins, or none does
begin-where : (unsettled : Bool) (made : ℕ) (links : List LinkView) (i : Item) → AllWaitApart made links (i ∷ []) → AllWaitApart made links (added (cond unsettled (Some i) None))
begin-where true made links i a = a
begin-where false made links i a = none-apart made links

-- # Start

tag-free : (a b : Bool) → a || b ≡ false → b ≡ false
tag-free a b h = (or_parts a b h).1

start-apart : (v : View) (link : ℕ) (tag : List ℕ) (format : ℕ) (settled : Bool) (payload : List ℕ) (more : Bool) (reply : Reply)
    → own_answer v (Start link tag format settled payload more) ≡ Ok reply → AreInOrder v → IsWaitingApart v → IsWaitingApart (next_own v (Start link tag format settled payload more))
start-apart v link tag format settled payload more reply h s a =
    let id = next_delivery v in
    let o = on-link-ok v link (λ l. sends v.max_frame (start_refusals v l tag settled payload) (start_body (handle_of l.ours) id tag format settled more) payload (given.Delivery id)) reply h in
    let k = sends-ok v.max_frame (start_refusals v o.on tag settled payload) (start_body (handle_of o.on.ours) id tag format settled more) payload (given.Delivery id) reply o.said in
    let change = begin_delivery id (length payload) more in
    let i : Item = record { id = id; link = link; tag = tag; second = eqb (rcv_mode o.on) 1; local = None; remote = None } in
    let number : link ≡ o.on.number = sym (eqb-true o.on.number link (passes-found (has_number link) v.links o.on o.found)) in
    let ours = attached-ours (is_some o.on.ours) (is_some o.on.theirs) o.on.left (not-false (is_attached o.on) k.none_holds.0) in
    let free = not-waiting tag o.on.waiting (tag-free (list_any (λ s. is_tagged o.on.number tag s.item) v.sent) (waits tag o.on.waiting) k.none_holds.1.1.1.0) in
    let begun : AllWaitApart v.made (change_first (has_number link) change v.links) (i ∷ []) =
    record {
      apart = begun-apart i v.made 0 (has_number link) change v.links o.on s o.found number (begun-fits i (change o.on) free ours);
      below = (let small = found-below v.made 0 (has_number link) v.links o.on s o.found in omega (arith, number, small), tt);
    }
    in
    record {
      sent =
          sent-next v.made (change_first (has_number link) change v.links) (begun_on id link tag settled (find (has_number link) v.links)) v.sent
          (changed-apart v.made (has_number link) change v.links (map (λ s. s.item) v.sent) (λ l t p. record { waiting = p.waiting; bare = p.bare }) a.sent)
          (rw o.found (begin-where (not settled) v.made (change_first (has_number link) change v.links) i begun));
      received = changed-apart v.made (has_number link) change v.links v.received (λ l t p. record { waiting = p.waiting; bare = p.bare }) a.received;
    }

-- # Resume

-- the delivery that is resumed has the tag that it waits by
tag-of : (tag : List ℕ) (w : WaitingItem) → waits_as tag w ≡ true → tag ≡ w.tag
tag-of tag w h = (bytes_decides tag w.tag).0 h

less-apart : (tag : List ℕ) (items : List Item) (l : LinkView) → WaitsApart items l → WaitsApart items (resumed_from tag l)
less-apart tag items l a =
    record {
      waiting = every-filter (λ w. list_any (is_tagged l.number w.tag) items ≡ false) (λ w. not (waits_as tag w)) l.waiting a.waiting;
      bare = a.bare;
    }

begin-less-apart : (tag : List ℕ) (items : List Item) (l : LinkView) → WaitsApart items l → WaitsApart items (begin_resumed tag l)
begin-less-apart tag items l a = let b = less-apart tag items l a in record { waiting = b.waiting; bare = b.bare }

resume-begun : (v : View) (link id : ℕ) (tag : List ℕ) (settled : Bool) (on : LinkView) → AreInOrder v
    → find (has_number link) v.links ≡ Some on → is_some on.ours ≡ true
    → AllWaitApart v.made (change_first (has_number link) (begin_resumed tag) v.links) (added (begins (resumed_on id link tag settled (Some on))))
resume-begun v link id tag settled on s found ours = by (find (waits_as tag) on.waiting) refl
  where
    one : (w : WaitingItem) → waits_as tag w ≡ true
        → AllWaitApart v.made (change_first (has_number link) (begin_resumed tag) v.links) (record { id = id; link = link; tag = w.tag; second = eqb (rcv_mode on) 1; local = w.state; remote = w.theirs } ∷ [])
    one w t =
        let i : Item = record { id = id; link = link; tag = w.tag; second = eqb (rcv_mode on) 1; local = w.state; remote = w.theirs } in
        let number : link ≡ on.number = sym (eqb-true on.number link (passes-found (has_number link) v.links on found)) in
        let free = subst (λ (other : List ℕ). Every (λ w. pointwise nat_eq other w.tag ≡ false) (without tag on.waiting)) (tag-of tag w t) (gone-tag tag on.waiting) in
        record {
          apart = begun-apart i v.made 0 (has_number link) (begin_resumed tag) v.links on s found number (begun-fits i (begin_resumed tag on) free ours);
          below = (let small = found-below v.made 0 (has_number link) v.links on s found in omega (arith, number, small), tt);
        }

    anew : (sent : Bool) (w : WaitingItem) → waits_as tag w ≡ true
        → AllWaitApart v.made (change_first (has_number link) (begin_resumed tag) v.links)
        (added (begins (cond sent (Begins (record { id = id; link = link; tag = w.tag; second = eqb (rcv_mode on) 1; local = w.state; remote = w.theirs }) (not (settled || is_partial w))) No_event)))
    anew true w t = begin-where (not (settled || is_partial w)) v.made (change_first (has_number link) (begin_resumed tag) v.links) (record { id = id; link = link; tag = w.tag; second = eqb (rcv_mode on) 1; local = w.state; remote = w.theirs }) (one w t)
    anew false w t = none-apart v.made (change_first (has_number link) (begin_resumed tag) v.links)

    by : (o : Option WaitingItem) → find (waits_as tag) on.waiting ≡ o → AllWaitApart v.made (change_first (has_number link) (begin_resumed tag) v.links) (added (begins (resumed_as id link settled on o)))
    by None e = none-apart v.made (change_first (has_number link) (begin_resumed tag) v.links)
    by (Some w) e = anew (is_sent_anew w) w (passes-found (waits_as tag) on.waiting w e)

resume-apart : (v : View) (link : ℕ) (tag : List ℕ) (settled : Bool) (reply : Reply) → own_answer v (Resume link tag settled) ≡ Ok reply → AreInOrder v → IsWaitingApart v → IsWaitingApart (next_own v (Resume link tag settled))
resume-apart v link tag settled reply h s a =
    let say : LinkView → Result Reply Refusal = λ l. unless_refused (first_refusal (early_refusals l)) (if_there (find (waits_as tag) l.waiting) NotWaiting (resume_item v l settled)) in
    let o = on-link-ok v link say reply h in
    let r = unless_refused_Ok (first_refusal (early_refusals o.on)) (if_there (find (waits_as tag) o.on.waiting) NotWaiting (resume_item v o.on settled)) reply o.said in
    let k = no_refusal (early_refusals o.on) r.0 in
    let ours = attached-ours (is_some o.on.ours) (is_some o.on.theirs) o.on.left (not-false (is_attached o.on) k.0) in
    by-bool (resume_begins tag (find (has_number link) v.links))
    (λ (anew : resume_begins tag (find (has_number link) v.links) ≡ true).
    rw anew (
    record {
      sent =
          sent-next v.made (change_first (has_number link) (begin_resumed tag) v.links) (resumed_on (next_delivery v) link tag settled (find (has_number link) v.links)) v.sent
          (changed-apart v.made (has_number link) (begin_resumed tag) v.links (map (λ s. s.item) v.sent) (λ l t p. begin-less-apart tag (map (λ s. s.item) v.sent) l p) a.sent)
          (rw o.found (resume-begun v link (next_delivery v) tag settled o.on s o.found ours));
      received = changed-apart v.made (has_number link) (begin_resumed tag) v.links v.received (λ l t p. begin-less-apart tag v.received l p) a.received;
    }))
    (λ (none : resume_begins tag (find (has_number link) v.links) ≡ false).
    rw none (
    record {
      sent = changed-apart v.made (has_number link) (resumed_from tag) v.links (map (λ s. s.item) v.sent) (λ l t p. less-apart tag (map (λ s. s.item) v.sent) l p) a.sent;
      received = changed-apart v.made (has_number link) (resumed_from tag) v.links v.received (λ l t p. less-apart tag v.received l p) a.received;
    }))

-- what is so of each is so of one that is found
found-so : {A : Type 0} (P : A → Type 0) (test : A → Bool) (xs : List A) (on : A) → Every P xs → find test xs ≡ Some on → P on
found-so P test [] on all h = absurd (cc)
found-so P test (x ∷ xs) on all h =
    by-bool (test x)
    (λ (t : test x ≡ true). let h' = rw t at h in let same : x ≡ on = cc in subst P same all.0)
    (λ (t : test x ≡ false). let h' = rw t at h in found-so P test xs on all.1 h')

-- the tag of one that waits is free
pub waiting-untagged : (v : View) (link : ℕ) (tag : List ℕ) (on : LinkView) (w : WaitingItem) → IsWaitingApart v
    → find (has_number link) v.links ≡ Some on → find (waits_as tag) on.waiting ≡ Some w → list_any (is_tagged link w.tag) (map (λ s. s.item) v.sent) ≡ false
waiting-untagged v link tag on w a found waits' =
    let items = map (λ s. s.item) v.sent in
    let here = found-so (WaitsApart items) (has_number link) v.links on a.sent.apart found in
    let free = found-so (λ x. list_any (is_tagged on.number x.tag) items ≡ false) (waits_as tag) on.waiting w here.waiting waits' in
    let number : on.number ≡ link = eqb-true on.number link (passes-found (has_number link) v.links on found) in
    subst (λ (k : ℕ). list_any (is_tagged k w.tag) items ≡ false) number free

-- # A transfer that is heard

-- the tag of a first transfer is none of those that wait on
first-tag : (t : Transferred) (ws : List WaitingItem) → not t.resumed && waits t.tag ws ≡ false → Every (λ w. pointwise nat_eq t.tag w.tag ≡ false) (cond t.resumed (without t.tag ws) ws)
first-tag t ws h = by t.resumed h
  where
    by : (resumed : Bool) → not resumed && waits t.tag ws ≡ false → Every (λ w. pointwise nat_eq t.tag w.tag ≡ false) (cond resumed (without t.tag ws) ws)
    by true k = gone-tag t.tag ws
    by false k = not-waiting t.tag ws k

after-kept : (P : WaitingItem → Type 0) (t : Transferred) (d : Option Delivery) (ws : List WaitingItem) → Every P ws → Every P (waiting_after t d ws)
after-kept P t None ws all = by t.resumed
  where
    by : (resumed : Bool) → Every P (cond resumed (without t.tag ws) ws)
    by true = every-filter P (λ w. not (waits_as t.tag w)) ws all
    by false = all
after-kept P t (Some d) ws all = all

taken-apart : (b : TransferBody) (payload : List ℕ) (items : List Item) (l : LinkView) → WaitsApart items l → WaitsApart items (received_on b payload l)
taken-apart b payload items l a =
    record {
      waiting = after-kept (λ w. list_any (is_tagged l.number w.tag) items ≡ false) (transferred (rcv_mode l) b payload) l.receiving l.waiting a.waiting;
      bare = a.bare;
    }

heard-apart : (b : TransferBody) (payload : List ℕ) (items : List Item) (l : LinkView) → WaitsApart items l → WaitsApart items (heard_on b payload l)
heard-apart b payload items l a = by l.left
  where
    by : (left : Bool) → WaitsApart items (cond left l (received_on b payload l))
    by true = a
    by false = taken-apart b payload items l a

receives-ours : (ours sender : Bool) → ours && not sender ≡ true → ours ≡ true
receives-ours true sender h = refl
receives-ours false sender h = absurd (cc)

-- what begins by a transfer fits the link after it
begun-by : (v : View) (b : TransferBody) (payload : List ℕ) (on : LinkView) → AreInOrder v
    → find (has_peer_handle b.handle) v.links ≡ Some on
    → receives on ≡ true
    → (on.left ≡ false → on.receiving ≡ None → not (unwrap_or b.resume false) && waits (unwrap_or b.delivery_tag []) on.waiting ≡ false)
    → AllWaitApart v.made (change_first (has_peer_handle b.handle) (heard_on b payload) v.links) (added (begins (transfer_on b (Some on))))
begun-by v b payload on s found takes free = by on.left on.receiving refl refl
  where
    stays-fits : (i : Item) (left : Bool) → left ≡ false → WaitsApart (i ∷ []) (received_on b payload on) → WaitsApart (i ∷ []) (cond left on (received_on b payload on))
    stays-fits i false stays fits = fits
    stays-fits i true stays fits = absurd (cc)

    one : (i : Item) → i.link ≡ on.number → i.tag ≡ unwrap_or b.delivery_tag [] → on.left ≡ false → on.receiving ≡ None
        → AllWaitApart v.made (change_first (has_peer_handle b.handle) (heard_on b payload) v.links) (i ∷ [])
    one i is tagged stays first =
        let t = transferred (rcv_mode on) b payload in
        let fits : Every (λ w. pointwise nat_eq i.tag w.tag ≡ false) (received_on b payload on).waiting = rw (first, tagged) (first-tag t on.waiting (free stays first)) in
        let ours = receives-ours (is_some on.ours) (is_sender on.role) takes in
        record {
          apart = begun-apart i v.made 0 (has_peer_handle b.handle) (heard_on b payload) v.links on s found is (stays-fits i on.left stays (begun-fits i (received_on b payload on) fits ours));
          below = (let small = found-below v.made 0 (has_peer_handle b.handle) v.links on s found in omega (arith, is, small), tt);
        }

    by : (left : Bool) (d : Option Delivery) → on.left ≡ left → on.receiving ≡ d
        → AllWaitApart v.made (change_first (has_peer_handle b.handle) (heard_on b payload) v.links) (added (begins (cond left (PassesOver b.delivery_id) (belongs_to on.number on.waiting (transferred (rcv_mode on) b []) b.state d))))
    by true d e f = none-apart v.made (change_first (has_peer_handle b.handle) (heard_on b payload) v.links)
    by false (Some d) e f = none-apart v.made (change_first (has_peer_handle b.handle) (heard_on b payload) v.links)
    by false None e f =
        let t = transferred (rcv_mode on) b [] in
        let brought = brought_by t on.waiting in
        begin-where (begins_unsettled t brought) v.made (change_first (has_peer_handle b.handle) (heard_on b payload) v.links) (record (item_of on.number t b.state) { local = state_brought brought }) (one (record (item_of on.number t b.state) { local = state_brought brought }) refl refl e f)

transfer-apart : (v : View) (b : TransferBody) (payload : List ℕ) (reply : Reply) → body_answer v (Some (heard.Transfer b)) payload ≡ Ok reply → AreInOrder v → IsWaitingApart v → IsWaitingApart (next_body v (Some (heard.Transfer b)) payload)
transfer-apart v b payload reply h s a =
    let say : LinkView → Result Reply Violation = λ l. answered (first_refusal (transfer_violations v b payload l)) (transfer_reply v b l) in
    let u = unless_Ok (not (takes_frames v.session)) (unlinked OutOfSession) (if_there (find (has_peer_handle b.handle) v.links) (unlinked BadHandle) say) reply h in
    let t = there_Ok (find (has_peer_handle b.handle) v.links) (unlinked BadHandle) say reply u.1 in
    let n = answered_Ok (first_refusal (transfer_violations v b payload t.on)) (transfer_reply v b t.on) reply t.said in
    let k = no_refusal (transfer_violations v b payload t.on) n.none in
    record {
      sent = changed-apart v.made (has_peer_handle b.handle) (heard_on b payload) v.links (map (λ s. s.item) v.sent) (λ l p. heard-apart b payload (map (λ s. s.item) v.sent) l) a.sent;
      received =
          all-next v.made (change_first (has_peer_handle b.handle) (heard_on b payload) v.links) (transfer_on b (find (has_peer_handle b.handle) v.links)) v.received
          (changed-apart v.made (has_peer_handle b.handle) (heard_on b payload) v.links v.received (λ l p. heard-apart b payload v.received l) a.received)
          (rw t.found (begun-by v b payload t.on s t.found (not-false (receives t.on) k.0) (free t.on k.1.1)));
    }
  where
    free : (l : LinkView) → NoneHolds (cond l.left [] (delivery_violations v b payload l)) → l.left ≡ false → l.receiving ≡ None
        → not (unwrap_or b.resume false) && waits (unwrap_or b.delivery_tag []) l.waiting ≡ false
    free l none stays first =
        let rows = rw (stays, first) at none in
        (or_parts (list_any (is_tagged l.number (unwrap_or b.delivery_tag [])) v.received) (not (unwrap_or b.resume false) && waits (unwrap_or b.delivery_tag []) l.waiting) rows.1.1.0).1

-- # All steps

-- one link is changed, and no delivery
one-changed : (v w : View) (link : ℕ) (change : LinkView → LinkView) → w.made ≡ v.made → w.sent ≡ v.sent → w.received ≡ v.received → w.links ≡ change_first (has_number link) change v.links
    → ((l : LinkView) → (change l).number ≡ l.number) → ((l : LinkView) → (change l).waiting ≡ l.waiting) → ((l : LinkView) → (change l).ours ≡ l.ours)
    → IsWaitingApart v → IsWaitingApart w
one-changed v w link change made sent received links number waiting ours a =
    record {
      sent = rw (made, sent, links) (changed-apart v.made (has_number link) change v.links (map (λ s. s.item) v.sent) (keeps (map (λ s. s.item) v.sent)) a.sent);
      received = rw (made, received, links) (changed-apart v.made (has_number link) change v.links v.received (keeps v.received) a.received);
    }
  where
    keeps : (items : List Item) (l : LinkView) → has_number link l ≡ true → WaitsApart items l → WaitsApart items (change l)
    keeps items l t p =
        record {
          waiting = rw (number l, waiting l) p.waiting;
          bare = λ none. rw (number l) (p.bare (ap (λ (o : Option EndView). is_some o) (sym (ours l)) ∙ none));
        }

-- and by an event none begins
link-event : (v w : View) (link : ℕ) (change : LinkView → LinkView) (e f : Event) → w.made ≡ v.made → w.sent ≡ next_sent_held e v.sent → w.received ≡ next_held f v.received → w.links ≡ change_first (has_number link) change v.links
    → begins e ≡ None → begins f ≡ None
    → ((l : LinkView) → (change l).number ≡ l.number) → ((l : LinkView) → (change l).waiting ≡ l.waiting) → ((l : LinkView) → (change l).ours ≡ l.ours)
    → IsWaitingApart v → IsWaitingApart w
link-event v w link change e f made sent received links quiet quiet' number waiting ours a =
    let x = one-changed v (record v { links = change_first (has_number link) change v.links }) link change refl refl refl refl number waiting ours a in
    record {
      sent = rw (made, sent, links) (sent-quiet v.made (change_first (has_number link) change v.links) e v.sent quiet x.sent);
      received = rw (made, received, links) (all-quiet v.made (change_first (has_number link) change v.links) f v.received quiet' x.received);
    }

continued-quiet : (over : Bool) (d : Option SendingView) → begins (continued_on over d) ≡ None
continued-quiet over None = refl
continued-quiet over (Some d) = refl

said-quiet : (mine role : Role) (d : Disposition) → begins (said_of mine role d) ≡ None
said-quiet Sender Sender d = refl
said-quiet Sender Receiver d = refl
said-quiet Receiver Sender d = refl
said-quiet Receiver Receiver d = refl

heard-quiet : (mine : Role) (b : DispositionBody) (role : Role) → begins (heard_of mine b role) ≡ None
heard-quiet Sender b Sender = refl
heard-quiet Sender b Receiver = refl
heard-quiet Receiver b Sender = refl
heard-quiet Receiver b Receiver = refl

left-quiet : (o : Option LinkView) → begins (left_by_peer o) ≡ None
left-quiet None = refl
left-quiet (Some l) = refl

pub own-apart : (v : View) (op : Op) (reply : Reply) → own_answer v op ≡ Ok reply → AreInOrder v → IsWaitingApart v → IsWaitingApart (next_own v op)
own-apart v Begin reply h s a = record { sent = a.sent; received = a.received }
own-apart v (Attach name role snd rcv source target count max_message) reply h s a =
    attach-apart v (record { name = name; role = role; snd = snd; rcv = rcv; source = source; target = target; count = count; max_message = max_message; items = [] }) a
own-apart v (Start link tag format settled payload more) reply h s a = start-apart v link tag format settled payload more reply h s a
own-apart v (Carry link payload more) reply h s a = one-changed v (next_own v (Carry link payload more)) link (carry_on (length payload) more) refl refl refl refl (λ l. refl) (λ l. refl) (λ l. refl) a
own-apart v (Abort link) reply h s a =
    let x = one-changed v (record v { links = change_first (has_number link) aborted v.links }) link aborted refl refl refl refl (λ l. refl) (λ l. refl) (λ l. refl) a in
    record {
      sent = sent-quiet v.made (change_first (has_number link) aborted v.links) (sent_by_own v (Abort link)) v.sent (continued-quiet true (sending_on (find (has_number link) v.links))) x.sent;
      received = x.received;
    }
own-apart v (Dispose role first last settled state) reply h s a =
    let d : Disposition = record { first = first; last = last; settled = settled; state = state } in
    record {
      sent = sent-quiet v.made v.links (said_of Sender role d) v.sent (said-quiet Sender role d) a.sent;
      received = all-quiet v.made v.links (said_of Receiver role d) v.received (said-quiet Receiver role d) a.received;
    }
own-apart v (Learn link) reply h s a = one-changed v (next_own v (Learn link)) link learnt_from refl refl refl refl (λ l. refl) (λ l. refl) (λ l. refl) a
own-apart v (Grant link credit drain echo) reply h s a = one-changed v (next_own v (Grant link credit drain echo)) link (granted_on credit drain) refl refl refl refl (λ l. refl) (λ l. refl) (λ l. refl) a
own-apart v (Offer link available) reply h s a = one-changed v (next_own v (Offer link available)) link (offered available) refl refl refl refl (λ l. refl) (λ l. refl) (λ l. refl) a
own-apart v (Drained link) reply h s a = one-changed v (next_own v (Drained link)) link drained refl refl refl refl (λ l. refl) (λ l. refl) (λ l. refl) a
own-apart v (Refresh echo) reply h s a = record { sent = a.sent; received = a.received }
own-apart v (Take link) reply h s a = one-changed v (next_own v (Take link)) link taken_from refl refl refl refl (λ l. refl) (λ l. refl) (λ l. refl) a
own-apart v (Detach link error) reply h s a = link-event v (next_own v (Detach link error)) link left_by_us (Leaves link) (Leaves link) refl refl refl refl refl refl (λ l. refl) (λ l. refl) (λ l. refl) a
own-apart v (Suspend link) reply h s a = link-event v (next_own v (Suspend link)) link left_by_us (Leaves link) (Leaves link) refl refl refl refl refl refl (λ l. refl) (λ l. refl) (λ l. refl) a
own-apart v (Rejoin r) reply h s a = attach-apart v (rejoined r) a
own-apart v (Resume link tag settled) reply h s a = resume-apart v link tag settled reply h s a
own-apart v (End error) reply h s a = record { sent = none-apart v.made []; received = none-apart v.made [] }
own-apart v Beat reply h s a = record { sent = a.sent; received = a.received }

flow-apart : (b : FlowBody) (items : List Item) (l : LinkView) → WaitsApart items l → WaitsApart items (flow_link b l)
flow-apart b items l a = by l.left
  where
    by : (left : Bool) → WaitsApart items (cond left l (flowed b l))
    by true = a
    by false = record { waiting = a.waiting; bare = a.bare }

flows-apart : (b : FlowBody) (h : Option ℕ) (made : ℕ) (links : List LinkView) (items : List Item) → AllWaitApart made links items → AllWaitApart made (flow_links b h links) items
flows-apart b None made links items a = a
flows-apart b (Some h) made links items a = changed-apart made (has_peer_handle h) (flow_link b) links items (λ l t. flow-apart b items l) a

told-apart : (e : Event) (sent : List SentItem) (links : List LinkView) (items : List Item) → Every (WaitsApart items) links → Every (WaitsApart items) (map (told_more e sent) links)
told-apart e sent [] items all = tt
told-apart e sent (l ∷ links) items all = (record { waiting = all.0.waiting; bare = all.0.bare }, told-apart e sent links items all.1)

told-all : (e : Event) (sent : List SentItem) (made : ℕ) (links : List LinkView) (items : List Item) → AllWaitApart made links items → AllWaitApart made (map (told_more e sent) links) items
told-all e sent made links items a = record { apart = told-apart e sent links items a.apart; below = a.below }

removed-apart : (test : LinkView → Bool) (made : ℕ) (links : List LinkView) (items : List Item) → AllWaitApart made links items → AllWaitApart made (remove_first test links) items
removed-apart test made links items a = record { apart = every-removed (WaitsApart items) test links a.apart; below = a.below }

pub body-apart : (v : View) (body : Option Performative) (payload : List ℕ) (reply : Reply) → body_answer v body payload ≡ Ok reply → AreInOrder v → IsWaitingApart v → IsWaitingApart (next_body v body payload)
body-apart v (Some (heard.Begin b)) payload reply h s a = record { sent = a.sent; received = a.received }
body-apart v (Some (heard.Attach b)) payload reply h s a =
    joined-apart v (is_asked_as (opposite b.role) b.name) (opposite b.role) b.name (attached_by_peer b)
    (λ items l t. theirs-apart b items l) (λ items. theirs-apart b items (new_link v.made (opposite b.role) b.name)) a
body-apart v (Some (heard.Flow b)) payload reply h s a =
    record { sent = flows-apart b b.handle v.made v.links (map (λ s. s.item) v.sent) a.sent; received = flows-apart b b.handle v.made v.links v.received a.received }
body-apart v (Some (heard.Transfer b)) payload reply h s a = transfer-apart v b payload reply h s a
body-apart v (Some (heard.Disposition b)) payload reply h s a =
    let e = sent_by_body v (Some (heard.Disposition b)) in
    let links' = map (told_more e v.sent) v.links in
    record {
      sent = sent-quiet v.made links' (heard_of Sender b b.role) v.sent (heard-quiet Sender b b.role) (told-all e v.sent v.made v.links (map (λ s. s.item) v.sent) a.sent);
      received = all-quiet v.made links' (heard_of Receiver b b.role) v.received (heard-quiet Receiver b b.role) (told-all e v.sent v.made v.links v.received a.received);
    }
body-apart v (Some (heard.Detach b)) payload reply h s a =
    let o = find (has_peer_handle b.handle) v.links in
    let links' = remove_first (has_peer_handle b.handle) v.links in
    record {
      sent = sent-quiet v.made links' (left_by_peer o) v.sent (left-quiet o) (removed-apart (has_peer_handle b.handle) v.made v.links (map (λ s. s.item) v.sent) a.sent);
      received = all-quiet v.made links' (left_by_peer o) v.received (left-quiet o) (removed-apart (has_peer_handle b.handle) v.made v.links v.received a.received);
    }
body-apart v (Some (heard.End b)) payload reply h s a = record { sent = none-apart v.made []; received = none-apart v.made [] }
body-apart v _ payload reply h s a = absurd (cc)

pub heard-apart-after : (v : View) (f : Frame) (reply : Reply) → heard_answer v f ≡ Ok reply → AreInOrder v → IsWaitingApart v → IsWaitingApart (next_heard v f)
heard-apart-after v f reply h s a =
    by-bool (is_dropped v f.body)
    (λ (dropped : is_dropped v f.body ≡ true). rw dropped (record { sent = a.sent; received = a.received }))
    (λ (taken : is_dropped v f.body ≡ false). let k = rw taken at h in rw taken (body-apart v f.body f.payload reply k s a))

pub opened-apart : (v : View) (told : ℕ) → IsWaitingApart v → IsWaitingApart (next_opened v told)
opened-apart v told a = record { sent = a.sent; received = a.received }

pub initial-apart : (c : Config) → IsWaitingApart (initial c)
initial-apart c = record { sent = none-apart 0 []; received = none-apart 0 [] }
