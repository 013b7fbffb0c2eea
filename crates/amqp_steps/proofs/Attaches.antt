-- A link that we attach.
use Rattle.std.proofs.Common.{◌≡◌, ℕ, ◌+◌, true, Option, Some, None, [], refl, ap, sym, ◌∙◌, find, is_some, arith, subst}
use Rattle.std.specs.Prelude.{is_none}
use Rattle.std.specs.Cmp.{second_so}
use Rattle.amqp_performatives.specs.declared.bodies.AttachBody.{AttachBody}
use Rattle.amqp_performatives.specs.declared.performative.Performative.TheVariants.{Attach}
use Rattle.amqp_links.specs.declared.fate.Fate.{Fate}
use Rattle.amqp_links.specs.declared.marks.Marks.{Marks}
use Rattle.amqp_links.specs.Fate.{with_ours}
use Rattle.amqp_links.specs.Marks.{with_marks}
use Rattle.amqp_links.specs.Resuming.{resuming_by_us, with_resuming}
use Rattle.amqp_rules.specs.declared.reply.Given.TheVariants.{Link}
use Rattle.amqp_rules.specs.Carry.{size_so_far}
use Rattle.amqp_rules.specs.View.{LinkView, EndView, SendingView, has_name, has_number, is_offered, is_offered_as, new_link, free_handle}
use Rattle.amqp_rules.specs.Attach.{Wanted, own_attach, end_of, attached_by_us, attach_answer, next_attach}
use Rattle.amqp_steps.specs.declared.attach.Meeting.{Meeting}
use Rattle.amqp_steps.specs.declared.plan.Plan.{Plan}
use Rattle.amqp_steps.specs.declared.plan.Session.{Session}
use Rattle.amqp_deliveries.specs.declared.change.Change.TheVariants.{Stay}
use Rattle.amqp_steps.specs.Stores.{StoresView}
use Rattle.amqp_steps.specs.Plan.{IsPlan, IsKept, IsShort, view_of, sending_plan}
use Rattle.amqp_steps.specs.Attaching.{IsMeeting, Meets, attached_fate, counted_by, resuming_met}
use Rattle.amqp_steps.proofs.Plans.{same, change-alike, counted-still, short-found, shorter}

-- the link after our attach: by its marks, or by its body
ours-alike : (a : Wanted) (handle : ℕ) (m : Marks) (l : LinkView) → with_marks m l ≡ counted_by a l
    → with_ours (end_of (own_attach a handle)) m (resuming_by_us a.items l) l ≡ attached_by_us (own_attach a handle) a.items l
ours-alike a handle m l e = ap (λ (x : LinkView). record (with_resuming (resuming_by_us a.items l) x) { ours = Some (end_of (own_attach a handle)) }) e

no-end : (o : Option EndView) → is_none o ≡ true → o ≡ None
no-end None h = refl
no-end (Some e) h = absurd (cc)

-- an offered link has no attach of ours
offered-bare : (a : Wanted) (l : LinkView) → is_offered_as a.role a.name l ≡ true → l.ours ≡ None
offered-bare a l h =
    no-end l.ours (second_so (is_some l.theirs) (is_none l.ours) (second_so (has_name a.role a.name l) (is_offered l) h))

abbrev attach_plan : Session → Fate → Wanted → ℕ → ℕ → Plan
attach_plan s fate a handle number = sending_plan s fate Stay (Some (Attach (own_attach a handle))) [] (Link number)

pub plan-attached : (steps : ℕ) (s : Session) (st : StoresView) (a : Wanted) (w : Meeting) → IsKept steps s st → IsMeeting (view_of steps s st) a w
    → IsPlan (view_of steps s st) (attach_answer (view_of steps s st) a) (next_attach (view_of steps s st) a)
    (attach_plan s (attached_fate a.name w.met w.number (end_of (own_attach a w.handle)) w.marks (resuming_met a (find (is_offered_as a.role a.name) st.links.list))) a w.handle w.number)
plan-attached steps s st a w k t = rw t.handle (by w.met w.number t.meets)
  where
    by : (met : Option ℕ) (n : ℕ) → Meets (view_of steps s st) a met n w.marks
        → IsPlan (view_of steps s st) (attach_answer (view_of steps s st) a) (next_attach (view_of steps s st) a)
        (attach_plan s (attached_fate a.name met n (end_of (own_attach a (free_handle st.links.list))) w.marks (resuming_met a (find (is_offered_as a.role a.name) st.links.list))) a (free_handle st.links.list) n)
    by None n m =
        let e = ours-alike a (free_handle st.links.list) w.marks (new_link st.links.made a.role a.name) (m.3 st.links.made) in
        let none : w.marks.sending ≡ None = ap (λ (l : LinkView). l.sending) (m.3 0) in
        rw (m.1, m.0)
        record {
          due = rw (t.mapped, t.unused, t.low, t.distinct, t.fair, t.written) refl;
          leaves = rw e refl;
          sound = record {
            fit = refl;
            short = subst (λ (x : Option SendingView). IsShort (steps + 1) x) (sym none) (omega arith);
            counted = counted-still steps s s st Stay tt k refl refl refl refl;
            alone = tt;
          };
        }
    by (Some key) n (on, first, number, marks) =
        let e = ours-alike a (free_handle st.links.list) w.marks on marks in
        let sends : w.marks.sending ≡ on.sending = ap (λ (l : LinkView). l.sending) marks in
        let bare = offered-bare a on first.passes in
        let b : AttachBody = own_attach a (free_handle st.links.list) in
        let alike = change-alike (has_number on.number) (attached_by_us b a.items) (with_ours (end_of b) w.marks (resuming_by_us a.items on)) st.links.list on first.numbered (sym e) in
        rw (number, first.found)
        record {
          due = rw (t.mapped, t.unused, t.low, t.distinct, t.fair, t.written) refl;
          leaves = rw (first.alone (attached_by_us b a.items), alike) refl;
          sound = record {
            fit = (refl, λ l found. let q : on ≡ l = same (sym first.numbered ∙ found) in subst (λ (x : LinkView). x.ours ≡ None) q bare);
            short = subst (λ (x : Option SendingView). IsShort (steps + 1) x) (sym sends) (shorter steps (size_so_far on.sending) (short-found steps (is_offered_as a.role a.name) st.links.list on k.short first.found));
            counted = counted-still steps s s st Stay tt k refl refl refl refl;
            alone = tt;
          };
        }
