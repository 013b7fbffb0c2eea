-- What answers an attach and a detach of the peer's.
use Rattle.std.proofs.Common.{◌≡◌, ℕ, ◌+◌, not, Bool, true, false, Option, Some, None, [], ◌∷◌, refl, ap, sym, subst, find, is_some, is_none, Result, Ok, Err, ◌∙◌, inr, MatchResult}
use Rattle.std.specs.Prelude.{◌&&◌}
use Rattle.amqp_performatives.specs.declared.bodies.AttachBody.{AttachBody}
use Rattle.amqp_deliveries.specs.declared.change.Change.TheVariants as change
use Rattle.amqp_links.specs.declared.fate.Fate.TheVariants.{Theirs}
use Rattle.amqp_links.specs.Fate.{with_theirs}
use Rattle.amqp_links.specs.Links.{IsFirst}
use Rattle.amqp_links.specs.Resuming.{resuming_by_peer}
use Rattle.amqp_rules.specs.declared.reply.Given.TheVariants.{Attached}
use Rattle.amqp_rules.specs.declared.violation.Violation.{Violation}
use Rattle.amqp_rules.specs.declared.violation.ViolationKind.TheVariants.{OutOfSession, HandleTaken, NameTaken, MissingField}
use Rattle.amqp_rules.specs.View.{LinkView, EndView, SendingView, opposite, has_number, has_peer_handle, is_asked_as, is_theirs, takes_frames, is_attached}
use Rattle.amqp_rules.specs.Carry.{size_so_far}
use Rattle.amqp_rules.specs.Refusing.{first_refusal, unlinked, no_memory}
use Rattle.amqp_rules.specs.Attach.{attached_by_peer, end_of}
use Rattle.amqp_rules.specs.PeerAttach.{lacks_count, attach_heard_answer, attach_violations, next_attach_heard}
use Rattle.amqp_steps.specs.declared.plan.Session.{Session}
use Rattle.amqp_steps.specs.declared.plan.Plan.{Plan}
use Rattle.amqp_steps.specs.declared.peer_attach.Answered.{Answered}
use Rattle.amqp_steps.specs.Answered.{IsAnswered, IsParting}
use Rattle.amqp_steps.specs.Stores.{StoresView}
use Rattle.amqp_steps.specs.Plan.{IsKept, IsPlan, IsShort, flags_of, quiet_plan, view_of, Plans, sending_plan}
use Rattle.amqp_steps.proofs.Plans.{same, change-alike, counted-still, short-found, shorter}
use Rattle.amqp_performatives.specs.declared.bodies.DetachBody.{DetachBody}
use Rattle.amqp_performatives.specs.declared.performative.Performative.{Performative}
use Rattle.amqp_links.specs.declared.fate.Fate.TheVariants as fate
use Rattle.amqp_rules.specs.declared.reply.Given.TheVariants as given
use Rattle.amqp_rules.specs.Detach.{detach_body}
use Rattle.amqp_rules.specs.declared.reply.Given.{Given}
use Rattle.amqp_rules.specs.PeerDetach.{detach_heard_answer, next_detach_heard, parting}
use Rattle.amqp_deliveries.specs.declared.change.Change.TheVariants.{Leaves}
use Rattle.amqp_steps.specs.declared.peer_detach.Parting.{Parting}

-- # An attach that answers ours

none-at : (o : Option LinkView) (a c d : Bool) (x y z w : Violation) → first_refusal ((a, x) ∷ (is_some o, y) ∷ (c, z) ∷ (d, w) ∷ []) ≡ None → o ≡ None
none-at None a c d x y z w h = refl
none-at (Some l) true c d x y z w h = absurd (cc)
none-at (Some l) false c d x y z w h = absurd (cc)

asked-free : (named ours : Bool) (o : Option EndView) → (named && (ours && is_none o)) ≡ true → o ≡ None
asked-free true true None h = refl
asked-free true true (Some e) h = absurd (cc)
asked-free true false o h = absurd (cc)
asked-free false ours o h = absurd (cc)

pub answering-plan : (steps : ℕ) (s : Session) (st : StoresView) (b : AttachBody) (a : Answered) (p : Plan)
    → first_refusal (attach_violations (view_of steps s st) b) ≡ None
    → IsAnswered (view_of steps s st) b a
    → IsKept steps s st
    → p ≡ quiet_plan s (Theirs a.key a.number (end_of b) a.marks (resuming_by_peer b a.link.now)) change.Stay (Attached a.number)
    → IsPlan {E = Violation} (view_of steps s st) (attach_heard_answer (view_of steps s st) b) (next_attach_heard (view_of steps s st) b) p
answering-plan steps s st b a p none answered k is =
    let l : LinkView = answered.on in
    let first : IsFirst (is_asked_as (opposite b.role) b.name) st.links.list l = answered.first in
    let m : with_theirs (end_of b) a.marks (resuming_by_peer b l) l ≡ attached_by_peer b l = answered.marks in
    let sends : a.marks.sending ≡ l.sending = ap (λ (x : LinkView). x.sending) m in
    let short : IsShort steps l.sending = short-found steps (is_asked_as (opposite b.role) b.name) st.links.list l k.short first.found in
    rw (is, answered.number, answered.link)
    record {
      due = rw (none, first.found) refl;
      leaves = rw (first.found, first.alone (attached_by_peer b), change-alike (has_number l.number) (attached_by_peer b) (with_theirs (end_of b) a.marks (resuming_by_peer b l)) st.links.list l first.numbered (rw m refl)) refl;
      sound = record {
        fit = (
          none-at (find (has_peer_handle b.handle) st.links.list) (not (takes_frames (flags_of s))) (is_some (find (is_theirs (opposite b.role) b.name) st.links.list)) (lacks_count b) (unlinked OutOfSession) (unlinked HandleTaken) (unlinked NameTaken) (unlinked MissingField) none,
          λ j e. (let q : l ≡ j = same (sym first.numbered ∙ e) in rw (← q) (asked-free _ _ l.theirs first.passes)),
        );
        short = subst (λ (x : Option SendingView). IsShort (steps + 1) x) (sym sends) (shorter steps (size_so_far l.sending) short);
        counted = counted-still steps s s st change.Stay tt k refl refl refl refl;
        alone = tt;
      };
    }

-- # A detach

abbrev gone_body : DetachBody → Parting → Option Performative
gone_body b p = detach_body p.handle b.closed None

-- the peer leaves a link that is not attached
pub plan-gone : (steps : ℕ) (s : Session) (st : StoresView) (b : DetachBody) (p : Parting) → IsKept steps s st → IsParting (view_of steps s st) b p → p.attached ≡ false
    → IsPlan (view_of steps s st) (detach_heard_answer (view_of steps s st) b) (next_detach_heard (view_of steps s st) b) (quiet_plan s (fate.Gone p.key p.number) (Leaves p.number) (given.Gone p.number))
plan-gone steps s st b p k t a =
    let q : is_attached t.on ≡ false = sym t.attached ∙ a in
    rw t.number
    record {
      due = rw (t.takes, t.first.found, q) refl;
      leaves = rw (t.first.found, t.first.removed) refl;
      sound = record { fit = tt; short = tt; counted = counted-still steps s s st (Leaves t.on.number) tt k refl refl refl refl; alone = tt };
    }

-- and one that is
pub plan-gone-told : (steps : ℕ) (s : Session) (st : StoresView) (b : DetachBody) (p : Parting) (g : Given) (r : Result Plan Violation) → IsKept steps s st → IsParting (view_of steps s st) b p → p.attached ≡ true
    → g ≡ parting (view_of steps s st) b p.link.now
    → MatchResult r
    (λ plan. plan ≡ sending_plan s (fate.Gone p.key p.number) (Leaves p.number) (gone_body b p) [] g)
    (λ e. e ≡ no_memory)
    → Plans no_memory (view_of steps s st) (detach_heard_answer (view_of steps s st) b) (next_detach_heard (view_of steps s st) b) r
plan-gone-told steps s st b p g (Ok plan) k t a tells r =
    let q : is_attached t.on ≡ true = sym t.attached ∙ a in
    rw (r, tells, t.link, t.number, t.handle)
    record {
      due = rw (t.takes, t.first.found, q) refl;
      leaves = rw (t.first.found, t.first.removed) refl;
      sound = record { fit = tt; short = tt; counted = counted-still steps s s st (Leaves t.on.number) tt k refl refl refl refl; alone = tt };
    }
plan-gone-told steps s st b p g (Err e) k t a tells r = inr (rw (t.takes, t.first.found) refl, r)
