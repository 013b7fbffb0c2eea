-- The plan of a transfer that is heard.
use Rattle.std.proofs.Common.{◌≡◌, ◌∙◌, sym, ℕ, ◌+◌, ◌<◌, ◌==◌, ◌&&◌, ◌||◌, ◌++◌, not, Bool, true, false, cond, Option, Some, None, List, [], ◌∷◌, inl, inr, arith, refl, ap, is_none, map, unwrap_or, find, is_some, subst, ⊎_elim}
use Rattle.std.proofs.lemmas.Bool.{cases_Bool, eq-eqb, eqb-true, eqb-false}
use Rattle.std.proofs.lemmas.List.{append-nil}
use Rattle.amqp_flow.specs.Serial.{wire}
use Rattle.amqp_flow.specs.Credit.{delivery_begun}
use Rattle.amqp_flow.specs.Windows.{windows_received}
use Rattle.amqp_performatives.specs.declared.bodies.Role.TheVariants.{Receiver}
use Rattle.amqp_performatives.specs.declared.bodies.TransferBody.{TransferBody}
use Rattle.amqp_events.specs.Event as event
use Rattle.amqp_events.specs.Event.{Event, Item}
use Rattle.amqp_events.specs.Joined.{Delivery, Open, Complete, Aborted, and_more, first_of}
use Rattle.amqp_events.specs.Named.{has_id, ids_gone}
use Rattle.amqp_events.specs.Numbers.{id_used, one_past}
use Rattle.amqp_events.specs.Told.{SentItem, next_sent_held}
use Rattle.amqp_events.specs.Unsettled.{next_held}
use Rattle.amqp_deliveries.specs.declared.change.Change.{Change}
use Rattle.amqp_deliveries.specs.declared.change.Change.TheVariants.{Stay, Begins, Continues}
use Rattle.amqp_deliveries.specs.Change.{ended_in}
use Rattle.amqp_links.specs.declared.fate.Fate.{Fate}
use Rattle.amqp_links.specs.declared.fate.Fate.TheVariants as fate
use Rattle.amqp_links.specs.declared.marks.Marks.{Marks}
use Rattle.amqp_links.specs.Arrivals.{with_piece}
use Rattle.amqp_links.specs.Fate.{with_heard}
use Rattle.amqp_links.specs.Marks.{IsMarksOf, with_marks}
use Rattle.amqp_rules.specs.declared.reply.Given.{Given}
use Rattle.amqp_rules.specs.declared.reply.Given.TheVariants.{Nothing, Ready}
use Rattle.amqp_rules.specs.declared.violation.Violation.{Violation}
use Rattle.amqp_rules.specs.View.{View, LinkView, has_number, has_peer_handle, change_first, rcv_mode}
use Rattle.std.specs.List.{list_any}
use Rattle.amqp_events.specs.Tags.{is_tagged}
use Rattle.amqp_waiting.specs.Waiting.{WaitingItem, waits, waits_as}
use Rattle.amqp_rules.specs.Status.{waiting_of}
use Rattle.amqp_rules.specs.Deliveries.{begins_unsettled, brought_by, ended_by, item_of, state_brought, transfer_on, transferred}
use Rattle.amqp_rules.specs.PeerTransfer.{breaks_mode, breaks_size, credit_used, delivery_violations, given_by, heard_on, is_nameless, is_unexpected, name_violations, received_on, receives, tag_is_taken, transfer_given, transfer_violations}
use Rattle.amqp_rules.specs.Refusing.{first_refusal, of_link, unlinked}
use Rattle.amqp_rules.specs.declared.violation.ViolationKind.TheVariants.{BadHandle, Window, MissingField, IdOrder, TagHeld, Mode, Credit, TooLong}
use Rattle.amqp_steps.specs.declared.plan.Session.{Session}
use Rattle.amqp_steps.specs.Stores.{StoresView, stores_after}
use Rattle.amqp_steps.specs.Plan.{IsBegun, IsCounted, IsDue, IsExpectedNext, IsKept, IsSound, quiet_plan, view_of}
use Rattle.amqp_steps.specs.declared.arriving.Arriving.{Arriving}
use Rattle.amqp_steps.specs.Arriving.{IsHeard, PlansTransfer, brought_on, change_arriving, change_on, item_back, passed_plan}
use Rattle.amqp_steps.specs.Transferring.{delivery_rows, first_rows, given_heard}
use Rattle.amqp_steps.proofs.Plans.{change-alike, short-found, shorter, expects-same, row-free}
use Rattle.amqp_steps.proofs.Flows.{stays-first}

-- # Rows

refused-first : (xs ys : List (Bool × Violation)) (e : Violation) → first_refusal xs ≡ Some e → first_refusal (xs ++ ys) ≡ Some e
refused-first [] ys e h = absurd (cc)
refused-first (x ∷ xs) ys e h =
    ⊎_elim
    (λ t. rw t (rw t at h))
    (λ t. rw t (refused-first xs ys e (rw t at h)))
    (cases_Bool x.0)

pub named-first : (xs ys : List (Bool × Violation)) (o : Option Violation) (e : Violation) → o ≡ first_refusal xs → o ≡ Some e → ◌≡◌ {A = Option Violation} (Some e) (first_refusal (xs ++ ys))
named-first xs ys o e a b = sym (refused-first xs ys e (sym a ∙ b))

free-both : (xs ys : List (Bool × Violation)) → first_refusal (xs ++ ys) ≡ None → (first_refusal xs ≡ None) × (first_refusal ys ≡ None)
free-both [] ys h = (refl, h)
free-both (x ∷ xs) ys h =
    ⊎_elim
    (λ t. absurd (let g = rw t at h in cc))
    (λ t. let i = free-both xs ys (rw t at h) in (rw t i.0, i.1))
    (cases_Bool x.0)

rest-free : (v : View) (b : TransferBody) (payload : List ℕ) (l : LinkView) → first_refusal (transfer_violations v b payload l) ≡ None → first_refusal (cond l.left [] (delivery_violations v b payload l)) ≡ None
rest-free v b payload l h =
    let rest = cond l.left [] (delivery_violations v b payload l) in
    (row-free (v.windows.incoming == 0) (unlinked Window) rest (row-free (not (receives l)) (unlinked BadHandle) ((v.windows.incoming == 0, unlinked Window) ∷ rest) h).1).1

-- # What an event that ends nothing leaves

quiet-sent : (xs : List SentItem) → next_sent_held event.Nothing xs ≡ xs
quiet-sent [] = refl
quiet-sent (x ∷ xs) = ap (λ ys. x ∷ ys) (quiet-sent xs)

quiet-passed : (id : Option ℕ) (xs : List Item) → next_held (event.PassesOver id) xs ≡ xs
quiet-passed id [] = refl
quiet-passed id (x ∷ xs) = ap (λ ys. x ∷ ys) (quiet-passed id xs)

quiet-settled : (i : Item) (xs : List Item) → next_held (event.Begins i false) xs ≡ xs
quiet-settled i [] = refl
quiet-settled i (x ∷ xs) = ap (λ ys. x ∷ ys) (quiet-settled i xs)

one-more : (i : Item) (xs : List Item) → next_held (event.Begins i true) xs ≡ xs ++ i ∷ []
one-more i [] = refl
one-more i (x ∷ xs) = ap (λ ys. x ∷ ys) (one-more i xs)

-- their ids are among those
abbrev AreIn : List Item → List Item → Type 0
AreIn [] ys = Unit {0}
AreIn (x ∷ xs) ys = (has_id ys x.id ≡ true) × AreIn xs ys

or-true : (a b : Bool) → b ≡ true → (a || b) ≡ true
or-true true b h = refl
or-true false b h = h

in-more : (xs ys : List Item) (y : Item) → AreIn xs ys → AreIn xs (y ∷ ys)
in-more [] ys y h = tt
in-more (x ∷ xs) ys y h = (or-true (y.id == x.id) (has_id ys x.id) h.0, in-more xs ys y h.1)

in-self : (xs ys : List Item) → AreIn xs (xs ++ ys)
in-self [] ys = tt
in-self (x ∷ xs) ys = (rw (eq-eqb x.id x.id refl) refl, in-more xs (xs ++ ys) x (in-self xs ys))

none-gone : (xs ys : List Item) → AreIn xs ys → ids_gone xs ys ≡ []
none-gone [] ys h = refl
none-gone (x ∷ xs) ys h = rw h.0 (none-gone xs ys h.1)

none-left : (xs : List Item) → ids_gone xs xs ≡ []
none-left xs = none-gone xs xs (rw (append-nil xs) at (in-self xs []))

none-ended : (e : Event) (v : View) (items : List Item) → next_held e v.received ≡ items → AreIn v.received items → ended_by event.Nothing e v ≡ []
none-ended e v items h i = rw (quiet-sent v.sent, none-left (map (λ s. s.item) v.sent), h, none-gone v.received items i) refl

-- # The plan

pub heard-plan : (k : ℕ) (s t : Session) (st : StoresView) (b : TransferBody) (payload : List ℕ) (l : LinkView) (e : Event) (f : Fate) (c : Change) (g : Given)
    → IsHeard (view_of k s st) b payload l → transfer_on b (Some l) ≡ e → ended_by event.Nothing e (view_of k s st) ≡ ended_in c st.tables → transfer_given b l ≡ g
    → view_of (k + 1) (record s { windows = windows_received s.windows; expected = one_past (id_used e s.expected) s.expected })
    (record { links = record st.links { list = change_first (has_peer_handle b.handle) (heard_on b payload) st.links.list }; tables = record st.tables { received = next_held e st.tables.received } })
    ≡ view_of (k + 1) t (stores_after f c st)
    → IsSound (view_of k s st) (quiet_plan t f c g)
    → PlansTransfer (view_of k s st) b payload (quiet_plan t f c g)
heard-plan k s t st b payload l e f c g h is ended given leaves sound =
    record {
      due = rw (h.takes, h.found.found, h.free, is, ended, given) refl;
      leaves = rw (h.found.found, is) leaves;
      sound = sound;
    }

-- # A transfer that is passed over

expected-passed : (id e : Option ℕ) → IsExpectedNext e (one_past (id_used (event.PassesOver id) e) e)
expected-passed None None = tt
expected-passed None (Some n) = inl refl
expected-passed (Some i) None = tt
expected-passed (Some i) (Some n) =
    ⊎_elim
    (λ t. let q : i ≡ n = eqb-true i n t in rw (t, q) (inr refl))
    (λ t. rw t (inl refl))
    (cases_Bool (i == n))

moved-on : (k : ℕ) (s : Session) (st : StoresView) (e : Option ℕ) (c : Change) → IsKept k s st → IsExpectedNext s.expected e → IsBegun (view_of k s st) c (record s { windows = windows_received s.windows; expected = e })
    → IsCounted (view_of k s st) c (record s { windows = windows_received s.windows; expected = e })
moved-on k s st e c i x g =
    record {
      sent = (let h = i.sent in omega (arith, h));
      deliveries = (let h = i.deliveries in omega (arith, h));
      ours = inl refl;
      theirs = x;
      begun = g;
    }

left-event : (b : TransferBody) (l : LinkView) → l.left ≡ true → transfer_on b (Some l) ≡ event.PassesOver b.delivery_id
left-event b l h = rw h refl

left-given : (b : TransferBody) (l : LinkView) → l.left ≡ true → transfer_given b l ≡ Nothing
left-given b l h = rw h refl

left-heard : (b : TransferBody) (payload : List ℕ) (l : LinkView) → l.left ≡ true → heard_on b payload l ≡ l
left-heard b payload l h = by l.left h
  where
    by : (x : Bool) → x ≡ true → cond x l (received_on b payload l) ≡ l
    by true e = refl
    by false e = absurd (cc)

pub passed-plan : (k : ℕ) (s : Session) (st : StoresView) (b : TransferBody) (payload : List ℕ) (l : LinkView) → IsKept k s st → IsHeard (view_of k s st) b payload l → l.left ≡ true
    → PlansTransfer (view_of k s st) b payload (passed_plan (view_of k s st) (one_past (id_used (event.PassesOver b.delivery_id) s.expected) s.expected))
passed-plan k s st b payload l i h left =
    heard-plan k s _ st b payload l (event.PassesOver b.delivery_id) fate.Stay Stay Nothing h (left-event b l left)
    (none-ended (event.PassesOver b.delivery_id) (view_of k s st) st.tables.received (quiet-passed b.delivery_id st.tables.received) (rw (append-nil st.tables.received) at (in-self st.tables.received [])))
    (left-given b l left)
    (rw (
      h.found.alone (heard_on b payload),
      change-alike (has_number l.number) (heard_on b payload) (λ x. x) st.links.list l h.found.numbered (left-heard b payload l left),
      stays-first (has_number l.number) st.links.list,
      quiet-passed b.delivery_id st.tables.received,
    ) refl)
    (record { fit = tt; short = tt; counted = moved-on k s st _ Stay i (expected-passed b.delivery_id s.expected) tt; alone = tt })

-- # The first transfer of a delivery

pub record IsFirstFree (v : View) (b : TransferBody) (l : LinkView) : Type 0 where
  pub credit : 0 < l.credit.credit
  pub named : is_nameless b ≡ false
  pub due : is_unexpected v.expected b ≡ false
  pub fresh : list_any (is_tagged l.number (unwrap_or b.delivery_tag [])) v.received ≡ false

or-left : (a b : Bool) → (a || b) ≡ false → a ≡ false
or-left true b h = absurd (cc)
or-left false b h = refl

credit-there : (a : Bool) (n : ℕ) → a ≡ true → (a && n == 0) ≡ false → 0 < n
credit-there true n e h = let d = eqb-false n 0 h in omega (arith, d)
credit-there false n e h = absurd (cc)

names-of : (v : View) (b : TransferBody) (l : LinkView) (o : Option Delivery) → o ≡ None → first_refusal (name_violations v b l o) ≡ None → first_refusal (first_rows v b l) ≡ None
names-of v b l None e h = h
names-of v b l (Some d) e h = absurd (cc)

none-there : (o : Option Delivery) → o ≡ None → is_none o ≡ true
none-there o e = rw e refl

pub first-free : (v : View) (b : TransferBody) (payload : List ℕ) (l : LinkView) → first_refusal (transfer_violations v b payload l) ≡ None → l.left ≡ false → l.receiving ≡ None → IsFirstFree v b l
first-free v b payload l free left none =
    let rest : first_refusal (delivery_violations v b payload l) ≡ None = rw left at (rest-free v b payload l free) in
    let both = free-both (name_violations v b l l.receiving) (delivery_rows b payload l) rest in
    let names = names-of v b l l.receiving none both.0 in
    let a = row-free (is_nameless b) (unlinked MissingField) ((is_unexpected v.expected b, unlinked IdOrder) ∷ (tag_is_taken v l b, unlinked TagHeld) ∷ []) names in
    let d = row-free (is_unexpected v.expected b) (unlinked IdOrder) ((tag_is_taken v l b, unlinked TagHeld) ∷ []) a.1 in
    let t = row-free (tag_is_taken v l b) (unlinked TagHeld) [] d.1 in
    let m = row-free (breaks_mode l b) (unlinked Mode) ((is_none l.receiving && l.credit.credit == 0, of_link l.number Credit) ∷ (breaks_size l (transferred (rcv_mode l) b payload), of_link l.number TooLong) ∷ []) both.1 in
    let c = row-free (is_none l.receiving && l.credit.credit == 0) (of_link l.number Credit) ((breaks_size l (transferred (rcv_mode l) b payload), of_link l.number TooLong) ∷ []) m.1 in
    record {
      credit = credit-there (is_none l.receiving) l.credit.credit (none-there l.receiving none) c.0;
      named = a.0;
      due = d.0;
      fresh = or-left (list_any (is_tagged l.number (unwrap_or b.delivery_tag [])) v.received) (not (unwrap_or b.resume false) && waits (unwrap_or b.delivery_tag []) l.waiting) t.0;
    }

not-true : (b : Bool) → not b ≡ false → b ≡ true
not-true true h = refl
not-true false h = absurd (cc)

-- the id is the one that is due
id-due : (n given : ℕ) → not (given == n) ≡ false → given ≡ n
id-due n given h = eqb-true given n (not-true (given == n) h)

due-id : (e id : Option ℕ) (b : TransferBody) → b.delivery_id ≡ id → is_none id ≡ false → is_unexpected e b ≡ false → IsDue (unwrap_or id 0) e × IsExpectedNext e (Some (wire (unwrap_or id 0 + 1)))
due-id e None b q none h = absurd (cc)
due-id None (Some given) b q none h = (tt, tt)
due-id (Some n) (Some given) b q none h =
    let d = id-due n given (rw q at h) in
    (d, inr (rw d refl))

-- what the first transfer on the link brings in, and the delivery that it begins
abbrev pub brought_first : TransferBody → LinkView → Option WaitingItem
brought_first b l = brought_by (transferred (rcv_mode l) b []) l.waiting

abbrev pub item_first : TransferBody → LinkView → Item
item_first b l = item_back l.number (rcv_mode l) b (state_brought (brought_first b l))

abbrev pub unsettled_first : TransferBody → LinkView → Bool
unsettled_first b l = begins_unsettled (transferred (rcv_mode l) b []) (brought_first b l)

first-event : (b : TransferBody) (l : LinkView) → l.left ≡ false → l.receiving ≡ None → transfer_on b (Some l) ≡ event.Begins (item_first b l) (unsettled_first b l)
first-event b l h e = rw (h, e) refl

given-of : (k : ℕ) (d : Delivery) (a m r : Bool) → d.status ≡ cond a Aborted (cond m Open Complete) → d.resumed ≡ r → given_by k d ≡ cond ((a || m) || r) Nothing (Ready k d.id)
given-of k d true m r e q = rw e refl
given-of k d false true r e q = rw e refl
given-of k d false false true e q = rw (e, q) refl
given-of k d false false false e q = rw (e, q) refl

first-given : (b : TransferBody) (l : LinkView) → l.left ≡ false → l.receiving ≡ None → transfer_given b l ≡ given_heard l.number (unwrap_or b.delivery_id 0) (unwrap_or b.resume false) b
first-given b l h e = rw (h, e) (given-of l.number (first_of (transferred (rcv_mode l) b [])) (unwrap_or b.aborted false) (unwrap_or b.more false) (unwrap_or b.resume false) refl refl)

any-found : (tag : List ℕ) (ws : List WaitingItem) → waits tag ws ≡ is_some (find (waits_as tag) ws)
any-found tag [] = refl
any-found tag (w ∷ ws) =
    ⊎_elim
    (λ t. rw t refl)
    (λ t. rw t (any-found tag ws))
    (cases_Bool (waits_as tag w))

-- the tag waits where the transfer brings in what waits
pub brings : (over resume : Bool) (tag : List ℕ) (ws : List WaitingItem) → (not over && (not resume || waits tag ws)) ≡ (not over && (not resume || is_some (cond resume (find (waits_as tag) ws) None)))
brings over true tag ws = ap (λ (x : Bool). not over && x) (any-found tag ws)
brings over false tag ws = refl

heard-so : (b : TransferBody) (payload : List ℕ) (l : LinkView) (m : Marks) → l.left ≡ false → with_marks m l ≡ record l { credit = credit_used l.receiving l.credit }
    → heard_on b payload l ≡ with_heard m (transferred (rcv_mode l) b payload) l
heard-so b payload l m h q = by l.left h ∙ sym (ap (λ x. with_piece (transferred (rcv_mode l) b payload) x) q)
  where
    by : (x : Bool) → x ≡ false
        → cond x l (received_on b payload l) ≡ with_piece (transferred (rcv_mode l) b payload) (record l { credit = credit_used l.receiving l.credit })
    by true e = absurd (cc)
    by false e = refl

first-heard : (b : TransferBody) (payload : List ℕ) (l : LinkView) (m : Marks) → l.left ≡ false → l.receiving ≡ None → with_marks m l ≡ record l { credit = delivery_begun l.credit }
    → heard_on b payload l ≡ with_heard m (transferred (rcv_mode l) b payload) l
first-heard b payload l m h e q = heard-so b payload l m h (q ∙ ap (λ (o : Option Delivery). record l { credit = credit_used o l.credit }) (sym e))

-- what becomes of the unsettled deliveries
abbrev pub change_first_by : Bool → Item → Change
change_first_by begins item = cond begins (Begins Receiver item) Stay

abbrev first_session : Session → TransferBody → Session
first_session s b = record s { windows = windows_received s.windows; expected = Some (wire (unwrap_or b.delivery_id 0 + 1)) }

first-by : (k key : ℕ) (s : Session) (st : StoresView) (b : TransferBody) (payload : List ℕ) (l : LinkView) (m : Marks) (begins : Bool) → IsKept k s st
    → IsHeard (view_of k s st) b payload l → l.left ≡ false → l.receiving ≡ None → begins ≡ unsettled_first b l
    → with_marks m l ≡ record l { credit = delivery_begun l.credit } → m.sending ≡ l.sending
    → PlansTransfer (view_of k s st) b payload
    (quiet_plan (first_session s b)
    (fate.Heard key l.number m (transferred (rcv_mode l) b payload))
    (change_first_by begins (item_first b l))
    (given_heard l.number (unwrap_or b.delivery_id 0) (unwrap_or b.resume false) b))
first-by k key s st b payload l m false i h left none is marks sending =
    let f = first-free (view_of k s st) b payload l h.free left none in
    let d = due-id s.expected b.delivery_id b refl (or-left (is_none b.delivery_id) (is_none b.delivery_tag) f.named) f.due in
    let item = item_first b l in
    heard-plan k s _ st b payload l (event.Begins item false) _ _ _ h
    (first-event b l left none ∙ ap (λ y. event.Begins item y) (sym is))
    (none-ended (event.Begins item false) (view_of k s st) st.tables.received (quiet-settled item st.tables.received) (rw (append-nil st.tables.received) at (in-self st.tables.received [])))
    (first-given b l left none)
    (rw (
      h.found.alone (heard_on b payload),
      change-alike (has_number l.number) (heard_on b payload) (with_heard m (transferred (rcv_mode l) b payload)) st.links.list l h.found.numbered (first-heard b payload l m left none marks),
      quiet-settled item st.tables.received,
    ) refl)
    (record { fit = tt; short = rw sending (shorter k _ (short-found k (has_peer_handle b.handle) st.links.list l i.short h.found.found)); counted = moved-on k s st _ Stay i d.1 tt; alone = tt })
first-by k key s st b payload l m true i h left none is marks sending =
    let f = first-free (view_of k s st) b payload l h.free left none in
    let d = due-id s.expected b.delivery_id b refl (or-left (is_none b.delivery_id) (is_none b.delivery_tag) f.named) f.due in
    let item = item_first b l in
    heard-plan k s _ st b payload l (event.Begins item true) _ _ _ h
    (first-event b l left none ∙ ap (λ y. event.Begins item y) (sym is))
    (none-ended (event.Begins item true) (view_of k s st) (st.tables.received ++ item ∷ []) (one-more item st.tables.received) (in-self st.tables.received (item ∷ [])))
    (first-given b l left none)
    (rw (h.found.alone (heard_on b payload), change-alike (has_number l.number) (heard_on b payload) (with_heard m (transferred (rcv_mode l) b payload)) st.links.list l h.found.numbered (first-heard b payload l m left none marks)) refl)
    (record { fit = tt; short = rw sending (shorter k _ (short-found k (has_peer_handle b.handle) st.links.list l i.short h.found.found)); counted = moved-on k s st _ (Begins Receiver item) i d.1 (d.0, refl, f.fresh); alone = tt })

-- what waits is looked for on the link of its number
pub first-plan : (k key : ℕ) (s : Session) (st : StoresView) (b : TransferBody) (payload : List ℕ) (l : LinkView) (m : Marks) (begins : Bool) → IsKept k s st
    → IsHeard (view_of k s st) b payload l → l.left ≡ false → l.receiving ≡ None → begins ≡ unsettled_first b l
    → with_marks m l ≡ record l { credit = delivery_begun l.credit } → m.sending ≡ l.sending
    → PlansTransfer (view_of k s st) b payload
    (quiet_plan (first_session s b)
    (fate.Heard key l.number m (transferred (rcv_mode l) b payload))
    (change_first_by begins (item_back l.number (rcv_mode l) b (state_brought (brought_on (view_of k s st) l.number b))))
    (given_heard l.number (unwrap_or b.delivery_id 0) (unwrap_or b.resume false) b))
first-plan k key s st b payload l m begins i h left none is marks sending =
    let same : item_first b l ≡ item_back l.number (rcv_mode l) b (state_brought (brought_on (view_of k s st) l.number b)) =
    ap (λ (o : Option LinkView). item_back l.number (rcv_mode l) b (state_brought (brought_by (transferred 0 b []) (waiting_of o)))) (sym h.found.numbered) in
    subst
    (λ (x : Item). PlansTransfer (view_of k s st) b payload
    (quiet_plan (first_session s b)
    (fate.Heard key l.number m (transferred (rcv_mode l) b payload))
    (change_first_by begins x)
    (given_heard l.number (unwrap_or b.delivery_id 0) (unwrap_or b.resume false) b)))
    same
    (first-by k key s st b payload l m begins i h left none is marks sending)

-- # A further transfer of the unfinished delivery

later-event : (b : TransferBody) (l : LinkView) (d : Delivery) → l.left ≡ false → l.receiving ≡ Some d
    → transfer_on b (Some l) ≡ event.Continues d.id b.state (unwrap_or b.settled false || unwrap_or b.aborted false)
later-event b l d h e = rw (h, e) refl

later-given : (b : TransferBody) (l : LinkView) (d : Delivery) → l.left ≡ false → l.receiving ≡ Some d → transfer_given b l ≡ given_heard l.number d.id d.resumed b
later-given b l d h e = rw (h, e) (given-of l.number (and_more (transferred (rcv_mode l) b []) d) (unwrap_or b.aborted false) (unwrap_or b.more false) d.resumed refl refl)

later-heard : (b : TransferBody) (payload : List ℕ) (l : LinkView) (d : Delivery) (m : Marks) → l.left ≡ false → l.receiving ≡ Some d → with_marks m l ≡ l
    → heard_on b payload l ≡ with_heard m (transferred (rcv_mode l) b payload) l
later-heard b payload l d m h e q = heard-so b payload l m h (q ∙ ap (λ (o : Option Delivery). record l { credit = credit_used o l.credit }) (sym e))

pub marks-same : (l : LinkView) (m : Marks) → IsMarksOf l m → with_marks m l ≡ l
marks-same l m i = rw (i.role, i.credit, i.left, i.available, i.sending) refl

pub later-plan : (k key id : ℕ) (s : Session) (st : StoresView) (b : TransferBody) (payload : List ℕ) (l : LinkView) (d : Delivery) (m : Marks) (over resumed : Bool) → IsKept k s st
    → IsHeard (view_of k s st) b payload l → l.left ≡ false → l.receiving ≡ Some d → id ≡ d.id → resumed ≡ d.resumed → over ≡ (unwrap_or b.settled false || unwrap_or b.aborted false) → IsMarksOf l m
    → PlansTransfer (view_of k s st) b payload
    (quiet_plan (record s { windows = windows_received s.windows; expected = s.expected })
    (fate.Heard key l.number m (transferred (rcv_mode l) b payload))
    (Continues Receiver id b.state over)
    (given_heard l.number id resumed b))
later-plan k key id s st b payload l d m over resumed i h left some same back is marks =
    heard-plan k s _ st b payload l (event.Continues id b.state over) _ _ _ h
    (rw (same, is) (later-event b l d left some))
    refl
    (rw (same, back) (later-given b l d left some))
    (rw (h.found.alone (heard_on b payload), change-alike (has_number l.number) (heard_on b payload) (with_heard m (transferred (rcv_mode l) b payload)) st.links.list l h.found.numbered (later-heard b payload l d m left some (marks-same l m marks))) refl)
    (record { fit = tt; short = rw marks.sending (shorter k _ (short-found k (has_peer_handle b.handle) st.links.list l i.short h.found.found)); counted = moved-on k s st s.expected (Continues Receiver id b.state over) i (expects-same s.expected) tt; alone = tt })

-- # What a transfer makes of the unsettled deliveries, by how it comes

-- one that begins
pub begun-so : (v : View) (b : TransferBody) (a : Arriving) → a.begins ≡ true → unwrap_or b.resume false ≡ false
    → ◌≡◌ {A = Change} (change_arriving v b a) (Begins Receiver (item_of a.number (transferred a.mode b []) b.state))
begun-so v b a begins fresh = rw (begins, fresh) refl

-- one that is brought in
pub back-so : (v : View) (b : TransferBody) (a : Arriving) → a.begins ≡ true → unwrap_or b.resume false ≡ true
    → ◌≡◌ {A = Change} (change_arriving v b a) (Begins Receiver (item_back a.number a.mode b (state_brought (find (waits_as (unwrap_or b.delivery_tag [])) (waiting_of (find (has_number a.number) v.links))))))
back-so v b a begins back = rw (begins, back) refl

-- none that is unsettled
pub on-so : (v : View) (b : TransferBody) (a : Arriving) → a.begins ≡ false → ◌≡◌ {A = Change} (change_arriving v b a) (change_on b a)
on-so v b a none = rw none refl
