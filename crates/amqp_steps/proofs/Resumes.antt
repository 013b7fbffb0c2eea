-- The plan of a delivery that is resumed.
use Rattle.std.proofs.Common.{◌≡◌, ℕ, ◌+◌, ◌<◌, ◌==◌, ◌&&◌, ◌||◌, not, Bool, true, false, Option, Some, None, Err, List, [], ◌∷◌, inr, arith, refl, ap, sym, subst, find, map, ⊎_elim}
use Rattle.std.proofs.lemmas.Bool.{cases_Bool, eqb-false}
use Rattle.std.specs.List.{list_any}
use Rattle.amqp_flow.specs.Credit.{delivery_begun}
use Rattle.amqp_events.specs.Event.{Item}
use Rattle.amqp_events.specs.Tags.{is_tagged}
use Rattle.amqp_deliveries.specs.Change.{TablesView, ended_in}
use Rattle.amqp_links.specs.declared.fate.Fate.{Fate}
use Rattle.amqp_links.specs.Fate.{with_resumed}
use Rattle.amqp_links.specs.Marks.{with_marks}
use Rattle.amqp_rules.specs.Carry.{size_so_far}
use Rattle.amqp_rules.specs.Deliveries.{is_partial, is_sent_anew}
use Rattle.amqp_rules.specs.Refusing.{first_refusal}
use Rattle.amqp_rules.specs.Resume.{begin_resumed, early_refusals, is_unclear, next_resume, resume_answer, resume_body, resume_refusals, resumed_from}
use Rattle.amqp_rules.specs.Sending.{frame_refused}
use Rattle.amqp_rules.specs.Sound.{AllWaitApart, Every, WaitsApart}
use Rattle.amqp_rules.specs.View.{LinkView, SendingView, View, handle_of, has_number, is_mapped, next_delivery, rcv_mode, snd_mode}
use Rattle.amqp_rules.specs.Start.{mode_forbids}
use Rattle.amqp_waiting.specs.Waiting.{WaitingItem, waits_as, without}
use Rattle.amqp_steps.specs.declared.plan.Session.{Session}
use Rattle.amqp_steps.specs.declared.resume.Resuming.{Resuming}
use Rattle.amqp_links.specs.declared.fate.Fate.TheVariants as fate
use Rattle.amqp_steps.specs.Stores.{StoresView, stores_after}
use Rattle.amqp_steps.specs.Plan.{IsAlone, IsCounted, IsKept, IsPlan, IsShort, flags_of, view_of}
use Rattle.amqp_steps.specs.Resuming.{item_at, item_resumed, late_rows, resume_plan}
use Rattle.amqp_steps.specs.Starting.{change_begun, started}
use Rattle.amqp_rules.specs.declared.refusal.Refusal.{Refusal}
use Rattle.amqp_rules.specs.declared.refusal.Refusal.TheVariants.{Unclear, SettleMode, NoCredit, NoWindow}
use Rattle.amqp_steps.proofs.Plans.{change-alike, counted-still, expects-same, found-number, row-free, same, short-found, shorter}
use Rattle.amqp_steps.proofs.Starts.{next-wire, unspoken}

-- # What holds of each holds of what is found

every-found : {A : Type 0} (P : A → Type 0) (test : A → Bool) (xs : List A) (x : A) → Every P xs → find test xs ≡ Some x → P x
every-found P test [] x all h = absurd (cc)
every-found P test (y ∷ xs) x all h =
    ⊎_elim
    (λ t. let s : y ≡ x = same (rw t at h) in subst P s all.0)
    (λ t. every-found P test xs x all.1 (rw t at h))
    (cases_Bool (test y))

-- the tag of what waits is not in use
tag-unheld : (made link : ℕ) (tag : List ℕ) (links : List LinkView) (items : List Item) (l : LinkView) (w : WaitingItem) → AllWaitApart made links items → find (has_number link) links ≡ Some l → find (waits_as tag) l.waiting ≡ Some w
    → list_any (is_tagged link w.tag) items ≡ false
tag-unheld made link tag links items l w all f h =
    let on : WaitsApart items l = every-found (WaitsApart items) (has_number link) links l all.apart f in
    subst (λ (n : ℕ). list_any (is_tagged n w.tag) items ≡ false) (found-number link links l f)
    (every-found (λ (x : WaitingItem). list_any (is_tagged l.number x.tag) items ≡ false) (waits_as tag) l.waiting w on.waiting h)

-- # What is known where a delivery is resumed

pub record IsThere (k : ℕ) (s : Session) (st : StoresView) (link : ℕ) (tag : List ℕ) (r : Resuming) (on : LinkView) : Type 0 where
  pub kept : IsKept k s st
  pub mapped : is_mapped (flags_of s) ≡ true
  pub found : find (has_number link) st.links.list ≡ Some on
  pub early : first_refusal (early_refusals on) ≡ None
  pub waits : find (waits_as tag) on.waiting ≡ Some (item_at tag r)
  pub clear : is_unclear (item_at tag r) ≡ false
  pub sending : r.on.marks.sending ≡ on.sending

short-there : (k : ℕ) (s : Session) (st : StoresView) (link : ℕ) (tag : List ℕ) (r : Resuming) (on : LinkView) → IsThere k s st link tag r on → IsShort (k + 1) r.on.marks.sending
short-there k s st link tag r on t =
    subst (λ (x : Option SendingView). IsShort (k + 1) x) (sym t.sending) (shorter k (size_so_far on.sending) (short-found k (has_number link) st.links.list on t.kept.short t.found))

-- # What is refused

pub refused-unclear : (v : View) (link : ℕ) (tag : List ℕ) (settled : Bool) (on : LinkView) (w : WaitingItem) → is_mapped v.session ≡ true → find (has_number link) v.links ≡ Some on → first_refusal (early_refusals on) ≡ None
    → find (waits_as tag) on.waiting ≡ Some w → is_unclear w ≡ true → resume_answer v link tag settled ≡ Err Unclear
refused-unclear v link tag settled on w mapped found early waits unclear = rw (mapped, found, early, waits, unclear) refl

pub refused-late : (v : View) (link : ℕ) (tag : List ℕ) (settled : Bool) (on : LinkView) (w : WaitingItem) (e : Refusal) → is_mapped v.session ≡ true → find (has_number link) v.links ≡ Some on → first_refusal (early_refusals on) ≡ None
    → find (waits_as tag) on.waiting ≡ Some w → is_unclear w ≡ false → is_sent_anew w ≡ true → first_refusal (late_rows v on settled (is_partial w)) ≡ Some e → resume_answer v link tag settled ≡ Err e
refused-late v link tag settled on w e mapped found early waits clear anew late = rw (mapped, found, early, waits, clear, anew, late) refl

pub refused-frame : (v : View) (link : ℕ) (tag : List ℕ) (settled : Bool) (on : LinkView) (w : WaitingItem) (e : Refusal) → is_mapped v.session ≡ true → find (has_number link) v.links ≡ Some on → first_refusal (early_refusals on) ≡ None
    → find (waits_as tag) on.waiting ≡ Some w → is_unclear w ≡ false → is_sent_anew w ≡ true → first_refusal (late_rows v on settled (is_partial w)) ≡ None
    → frame_refused v.max_frame (resume_body (handle_of on.ours) (next_delivery v) settled w) [] ≡ Some e → resume_answer v link tag settled ≡ Err e
refused-frame v link tag settled on w e mapped found early waits clear anew late frame = rw (mapped, found, early, waits, clear, anew, late, frame) refl

-- and what a table that refuses nothing tells
pub record AreFree (v : View) (on : LinkView) : Type 0 where
  pub credit : 0 < on.credit.credit
  pub window : 0 < v.windows.remote_incoming

above : (n : ℕ) → (n == 0) ≡ false → 0 < n
above n h = let d = eqb-false n 0 h in omega (arith, d)

pub late-free : (v : View) (on : LinkView) (settled partial : Bool) → first_refusal (late_rows v on settled partial) ≡ None → AreFree v on
late-free v on settled partial h =
    let m = row-free (not partial && mode_forbids (snd_mode on) settled) SettleMode ((on.credit.credit == 0, NoCredit) ∷ (v.windows.remote_incoming == 0, NoWindow) ∷ []) h in
    let c = row-free (on.credit.credit == 0) NoCredit ((v.windows.remote_incoming == 0, NoWindow) ∷ []) m.1 in
    let w = row-free (v.windows.remote_incoming == 0) NoWindow [] c.1 in
    record { credit = above on.credit.credit c.0; window = above v.windows.remote_incoming w.0 }

pub never : (P : Type 0) (b : Bool) → b ≡ false → b ≡ true → P
never P true a h = absurd (cc)
never P false a h = absurd (cc)

-- # One that the peer does not know

pub absent-is-plan : (k : ℕ) (s : Session) (st : StoresView) (link : ℕ) (tag : List ℕ) (settled : Bool) (r : Resuming) (on : LinkView) → IsThere k s st link tag r on
    → is_sent_anew (item_at tag r) ≡ false → with_marks r.on.marks on ≡ on
    → IsPlan {E = Refusal} (view_of k s st) (resume_answer (view_of k s st) link tag settled) (next_resume (view_of k s st) link tag settled) (resume_plan (view_of k s st) link tag settled r)
absent-is-plan k s st link tag settled r on t absent marks =
    let alike : resumed_from tag on ≡ with_resumed r.on.marks tag on = sym (ap (λ (x : LinkView). record x { waiting = without tag on.waiting }) marks) in
    rw absent
    record {
      due = rw (t.mapped, t.found, t.early, t.waits, t.clear, absent) refl;
      leaves = rw (t.found, t.waits, absent, change-alike (has_number link) (resumed_from tag) (with_resumed r.on.marks tag) st.links.list on t.found alike) refl;
      sound = record {
        fit = tt;
        short = short-there k s st link tag r on t;
        counted = counted-still k s s st _ tt t.kept refl refl refl refl;
        alone = tt;
      };
    }

-- # One that is sent anew

counted : (k : ℕ) (s : Session) (st : StoresView) (link : ℕ) (over second : Bool) (w : WaitingItem) → IsKept k s st → list_any (is_tagged link w.tag) (map (λ x. x.item) st.tables.sent) ≡ false
    → IsCounted (view_of k s st) (change_begun over (item_resumed (next_delivery (view_of k s st)) link second w)) (started s)
counted k s st link true second w i free =
    record {
      sent = (let h = i.sent in omega (arith, h));
      deliveries = (let h = i.deliveries in omega (arith, h));
      ours = inr (next-wire s.windows.first s.deliveries);
      theirs = expects-same s.expected;
      begun = tt;
    }
counted k s st link false second w i free =
    record {
      sent = (let h = i.sent in omega (arith, h));
      deliveries = (let h = i.deliveries in omega (arith, h));
      ours = inr (next-wire s.windows.first s.deliveries);
      theirs = expects-same s.expected;
      begun = (refl, next-wire s.windows.first s.deliveries, free);
    }

ended-none : (over : Bool) (i : Item) (t : TablesView) → ended_in (change_begun over i) t ≡ []
ended-none true i t = refl
ended-none false i t = refl

alone-so : (f : Fate) (over : Bool) (i : Item) → IsAlone f (change_begun over i)
alone-so f true i = tt
alone-so f false i = tt

sent-leaves : (k : ℕ) (s : Session) (st : StoresView) (link : ℕ) (tag : List ℕ) (settled over : Bool) (r : Resuming) (on : LinkView) → IsThere k s st link tag r on
    → is_sent_anew (item_at tag r) ≡ true → (settled || is_partial (item_at tag r)) ≡ over → r.second ≡ (rcv_mode on == 1) → begin_resumed tag on ≡ with_resumed r.on.marks tag on
    → next_resume (view_of k s st) link tag settled
    ≡ view_of (k + 1) (started s)
    (stores_after (fate.Resumed r.on.key link r.on.marks tag) (change_begun over (item_resumed (next_delivery (view_of k s st)) link r.second (item_at tag r))) st)
sent-leaves k s st link tag settled true r on t anew is second alike =
    rw (
      t.found,
      t.waits,
      anew,
      is,
      change-alike (has_number link) (begin_resumed tag) (with_resumed r.on.marks tag) st.links.list on t.found alike,
      unspoken (item_resumed (next_delivery (view_of k s st)) link (rcv_mode on == 1) (item_at tag r)) st.tables.sent,
    ) refl
sent-leaves k s st link tag settled false r on t anew is second alike =
    rw (t.found, t.waits, anew, is, second, change-alike (has_number link) (begin_resumed tag) (with_resumed r.on.marks tag) st.links.list on t.found alike) refl

pub sent-is-plan : (k : ℕ) (s : Session) (st : StoresView) (link : ℕ) (tag : List ℕ) (settled : Bool) (r : Resuming) (on : LinkView) → IsThere k s st link tag r on
    → is_sent_anew (item_at tag r) ≡ true → r.second ≡ (rcv_mode on == 1) → r.on.handle ≡ handle_of on.ours
    → first_refusal (resume_refusals (view_of k s st) on settled (item_at tag r)) ≡ None
    → frame_refused s.max_frame (resume_body r.on.handle (next_delivery (view_of k s st)) settled (item_at tag r)) [] ≡ None
    → with_marks r.on.marks on ≡ record on { credit = delivery_begun on.credit }
    → IsPlan {E = Refusal} (view_of k s st) (resume_answer (view_of k s st) link tag settled) (next_resume (view_of k s st) link tag settled) (resume_plan (view_of k s st) link tag settled r)
sent-is-plan k s st link tag settled r on t anew second handle free written marks =
    let alike : begin_resumed tag on ≡ with_resumed r.on.marks tag on = sym (ap (λ (x : LinkView). record x { waiting = without tag on.waiting }) marks) in
    let over : Bool = settled || is_partial (item_at tag r) in
    let item : Item = item_resumed (next_delivery (view_of k s st)) link r.second (item_at tag r) in
    let writable : frame_refused s.max_frame (resume_body (handle_of on.ours) (next_delivery (view_of k s st)) settled (item_at tag r)) [] ≡ None = rw handle at written in
    rw anew
    record {
      due = rw (t.mapped, t.found, t.early, t.waits, t.clear, anew, free, writable, handle, ended-none over item st.tables) refl;
      leaves = sent-leaves k s st link tag settled over r on t anew refl second alike;
      sound = record {
        fit = tt;
        short = short-there k s st link tag r on t;
        counted = counted k s st link over r.second (item_at tag r) t.kept (tag-unheld st.links.made link tag st.links.list (map (λ x. x.item) st.tables.sent) on (item_at tag r) t.kept.apart.apart.sent t.found t.waits);
        alone = alone-so _ over item;
      };
    }
