-- The plan of a delivery that begins.
use Rattle.std.proofs.Common.{Ok, sym, ◌∙◌, ◌≡◌, ◌<◌, ℕ, ◌+◌, ◌^◌, ◌==◌, ◌||◌, not, Bool, true, false, Some, None, Result, List, [], ◌∷◌, inr, arith, refl, ap, find, is_some, length, map}
use Rattle.std.proofs.lemmas.List.{append-nil}
use Rattle.std.specs.List.{filter, list_any}
use Rattle.amqp_events.specs.Tags.{is_tagged}
use Rattle.amqp_waiting.specs.Waiting.{waits}
use Rattle.amqp_flow.specs.Serial.{wire}
use Rattle.amqp_events.specs.Event as event
use Rattle.amqp_events.specs.Event.{Item}
use Rattle.amqp_events.specs.Told.{SentItem, next_sent, next_sent_held}
use Rattle.amqp_events.specs.Unsettled.{ends}
use Rattle.amqp_deliveries.specs.Change.{is_tagged_as, tables_after}
use Rattle.amqp_links.specs.Fate.{changed}
use Rattle.amqp_performatives.specs.declared.bodies.Role.TheVariants.{Sender}
use Rattle.amqp_links.specs.declared.fate.Fate.TheVariants.{Marked}
use Rattle.amqp_rules.specs.declared.refusal.Refusal.{Refusal}
use Rattle.amqp_rules.specs.declared.refusal.Refusal.TheVariants.{NotAttached, WrongRole, InDelivery, TagHeld, SettleMode, NoCredit, NoWindow, MessageTooLong}
use Rattle.amqp_rules.specs.declared.reply.Given.TheVariants.{Delivery}
use Rattle.amqp_rules.specs.View.{View, LinkView, next_delivery, has_number, handle_of, rcv_mode, is_attached, is_too_long, max_of, same_role, snd_mode}
use Rattle.amqp_rules.specs.Refusing.{first_refusal}
use Rattle.amqp_rules.specs.Start.{begin_delivery, mode_forbids, next_start, sending_after, start_answer, start_body, start_refusals, tag_is_held}
use Rattle.amqp_steps.specs.declared.plan.Session.{Session}
use Rattle.amqp_steps.specs.declared.onlink.OnLink.{OnLink}
use Rattle.amqp_steps.specs.Stores.{StoresView}
use Rattle.amqp_steps.specs.Drafting.{IsDraft}
use Rattle.amqp_steps.specs.Plan.{IsCounted, IsKept, IsPlan, IsShort, planned, sending_plan, tables_in, view_of}
use Rattle.amqp_steps.specs.Starting.{change_begun, item_begun, second_on, start_plan, started}
use Rattle.amqp_steps.specs.declared.start.Starting.{Starting}
use Rattle.amqp_steps.specs.declared.done.Done.{Done}
use Rattle.amqp_steps.specs.Doing.{IsDone}
use Rattle.amqp_rules.specs.declared.reply.Reply.{Reply}
use Rattle.amqp_deliveries.specs.Change.{TablesView, ended_in}
use Rattle.amqp_steps.specs.Taking.{IsTaken}
use Rattle.amqp_steps.proofs.Sends.{draft-on}
use Rattle.amqp_steps.proofs.Plans.{found-number, any-of, expects-same}

-- a delivery that begins settled changes none of the unsettled ones
unspoken-of : (i : Item) (xs : List SentItem) → map (next_sent (event.Begins i false)) (filter (λ s. not (ends (event.Begins i false) s.item)) xs) ≡ xs
unspoken-of i [] = refl
unspoken-of i (x ∷ xs) = rw (unspoken-of i xs) refl

pub unspoken : (i : Item) (xs : List SentItem) → next_sent_held (event.Begins i false) xs ≡ xs
unspoken i xs = rw (append-nil (map (next_sent (event.Begins i false)) (filter (λ s. not (ends (event.Begins i false) s.item)) xs))) (unspoken-of i xs)

pub next-wire : (n d : ℕ) → wire (n + (d + 1)) ≡ wire (wire (n + d) + 1)
next-wire n d = omega arith

short-after : (k size id : ℕ) (more : Bool) → size < 2 ^ 64 → IsShort (k + 1) (sending_after more id size)
short-after k size id true h = omega (arith, h)
short-after k size id false h = omega arith

fourth : (a b c d : Bool) (w x y z : Refusal) (rows : List (Bool × Refusal)) → first_refusal ((a, w) ∷ (b, x) ∷ (c, y) ∷ (d, z) ∷ rows) ≡ None → d ≡ false
fourth true b c d w x y z rows h = absurd (cc)
fourth false true c d w x y z rows h = absurd (cc)
fourth false false true d w x y z rows h = absurd (cc)
fourth false false false true w x y z rows h = absurd (cc)
fourth false false false false w x y z rows h = refl

or-left : (a b : Bool) → (a || b) ≡ false → a ≡ false
or-left true b h = absurd (cc)
or-left false b h = refl

-- no unsettled delivery of ours on the link has the tag
abbrev pub IsTagFree : View → ℕ → List ℕ → Type 0
IsTagFree v link tag = list_any (λ s. is_tagged link tag s.item) v.sent ≡ false

tag-free : (v : View) (link : ℕ) (l : LinkView) (tag payload : List ℕ) (settled : Bool) → find (has_number link) v.links ≡ Some l → first_refusal (start_refusals v l tag settled payload) ≡ None → IsTagFree v link tag
tag-free v link l tag payload settled f h =
    rw (found-number link v.links l f) at
    (or-left (list_any (λ s. is_tagged l.number tag s.item) v.sent) (waits tag l.waiting) (fourth (not (is_attached l)) (not (same_role Sender l.role)) (is_some l.sending) (tag_is_held v l tag) NotAttached WrongRole InDelivery TagHeld
    ((mode_forbids (snd_mode l) settled, SettleMode)
    ∷ (l.credit.credit == 0, NoCredit)
    ∷ (v.windows.remote_incoming == 0, NoWindow)
    ∷ (is_too_long (max_of l.theirs) (length payload), MessageTooLong)
    ∷ []) h))

counted : (k : ℕ) (s : Session) (st : StoresView) (link : ℕ) (tag : List ℕ) (settled second : Bool) → IsKept k s st → IsTagFree (view_of k s st) link tag
    → IsCounted (view_of k s st) (change_begun settled (item_begun (next_delivery (view_of k s st)) link tag second)) (started s)
counted k s st link tag true second i free =
    record {
      sent = (let h = i.sent in omega (arith, h));
      deliveries = (let h = i.deliveries in omega (arith, h));
      ours = inr (next-wire s.windows.first s.deliveries);
      theirs = expects-same s.expected;
      begun = tt;
    }
counted k s st link tag false second i free =
    record {
      sent = (let h = i.sent in omega (arith, h));
      deliveries = (let h = i.deliveries in omega (arith, h));
      ours = inr (next-wire s.windows.first s.deliveries);
      theirs = expects-same s.expected;
      begun = (
        refl,
        next-wire s.windows.first s.deliveries,
        rw (any-of (is_tagged_as (item_begun (next_delivery (view_of k s st)) link tag second)) (λ x. x.item) st.tables.sent) free,
      );
    }

start-leaves : (k : ℕ) (s : Session) (st : StoresView) (link format : ℕ) (tag payload : List ℕ) (settled more second : Bool) (l : LinkView) → find (has_number link) st.links.list ≡ Some l → second ≡ (rcv_mode l == 1)
    → next_start (view_of k s st) link tag format settled payload more
    ≡ view_of (k + 1) (started s) (record { links = changed link (begin_delivery (next_delivery (view_of k s st)) (length payload) more) st.links; tables = tables_after (change_begun settled (item_begun (next_delivery (view_of k s st)) link tag second)) st.tables })
start-leaves k s st link format tag payload true more second l f e =
    rw (f, unspoken (record { id = next_delivery (view_of k s st); link = link; tag = tag; second = rcv_mode l == 1; local = None; remote = None }) st.tables.sent) refl
start-leaves k s st link format tag payload false more second l f e = rw (f, e) refl

pub start-draft : (k : ℕ) (s : Session) (st : StoresView) (link format : ℕ) (tag payload : List ℕ) (settled more second : Bool) (o : OnLink)
    → IsKept k s st → length payload < 2 ^ 64 → second ≡ second_on (find (has_number link) st.links.list)
    → IsTaken (view_of k s st) link (λ l. start_refusals (view_of k s st) l tag settled payload) (begin_delivery (next_delivery (view_of k s st)) (length payload) more) o
    → IsDraft (view_of k s st) (start_answer (view_of k s st) link tag format settled payload more) (next_start (view_of k s st) link tag format settled payload more)
    (start_body o.handle (next_delivery (view_of k s st)) tag format settled more) payload
    (sending_plan (started s) (Marked o.key link o.marks) (change_begun settled (item_begun (next_delivery (view_of k s st)) link tag second))
    (start_body o.handle (next_delivery (view_of k s st)) tag format settled more) payload (Delivery (next_delivery (view_of k s st))))
start-draft k s st link format tag payload true more second o i fits is t =
    let v = view_of k s st in
    let free = tag-free v link t.on tag payload true t.found t.free in
    let e : o.marks.sending ≡ sending_after more (next_delivery v) (length payload) = ap (λ x. x.sending) t.marks in
    rw (start-leaves k s st link format tag payload true more second t.on t.found (rw t.found at is))
    (draft-on v link (λ l. start_refusals v l tag true payload) (begin_delivery (next_delivery v) (length payload) more) o (started s) _
    (λ l. start_body (handle_of l.ours) (next_delivery v) tag format true more) _ payload (Delivery (next_delivery v)) t
    (ap (λ x. start_body x (next_delivery v) tag format true more) t.handle) (counted k s st link tag true second i free) (rw e (short-after k (length payload) (next_delivery v) more fits)) tt)
start-draft k s st link format tag payload false more second o i fits is t =
    let v = view_of k s st in
    let free = tag-free v link t.on tag payload false t.found t.free in
    let e : o.marks.sending ≡ sending_after more (next_delivery v) (length payload) = ap (λ x. x.sending) t.marks in
    rw (start-leaves k s st link format tag payload false more second t.on t.found (rw t.found at is))
    (draft-on v link (λ l. start_refusals v l tag false payload) (begin_delivery (next_delivery v) (length payload) more) o (started s) _
    (λ l. start_body (handle_of l.ours) (next_delivery v) tag format false more) _ payload (Delivery (next_delivery v)) t
    (ap (λ x. start_body x (next_delivery v) tag format false more) t.handle) (counted k s st link tag false second i free) (rw e (short-after k (length payload) (next_delivery v) more fits)) tt)

ended-begun : (settled : Bool) (i : Item) (t : TablesView) → ended_in (change_begun settled i) t ≡ []
ended-begun true i t = refl
ended-begun false i t = refl

-- what a delivery gives that begins at once
pub started-done : (v new after : View) (link : ℕ) (tag : List ℕ) (settled : Bool) (x : Starting) (answer : Result Reply Refusal) (d : Done) → IsPlan v answer after (start_plan v link tag settled x)
    → d ≡ record { reply = record { sent = x.sent ∷ []; ended = []; given = Delivery (next_delivery v) }; octets = Some x.sent.bytes; given = Delivery (next_delivery v) }
    → new ≡ planned v (start_plan v link tag settled x) → IsDone answer after new d
started-done v new after link tag settled x answer d p is n =
    rw is
    record {
      due = p.due ∙ (λ i. Ok (record { sent = x.sent ∷ []; ended = ended-begun settled (item_begun (next_delivery v) link tag x.second) (tables_in v) i; given = Delivery (next_delivery v) }));
      leaves = n ∙ sym p.leaves;
      octets = refl;
      given = refl;
    }
