-- A further transfer of ours, and a delivery that is given up.
use Rattle.std.proofs.Common.{◌≡◌, ◌<◌, ◌≤◌, ℕ, ◌+◌, ◌*◌, ◌^◌, Bool, true, false, Option, Some, None, Result, List, [], ◌∷◌, length, refl, ap, sym, find, inl, arith, subst, ◌∙◌}
use Rattle.amqp_performatives.specs.declared.performative.Performative.{Performative}
use Rattle.amqp_performatives.specs.declared.bodies.Role.TheVariants.{Sender}
use Rattle.amqp_flow.specs.Windows.{windows_sent}
use Rattle.amqp_links.specs.declared.fate.Fate.TheVariants.{Marked}
use Rattle.amqp_links.specs.Marks.{with_marks}
use Rattle.amqp_rules.specs.declared.reply.Given.TheVariants.{Nothing}
use Rattle.amqp_rules.specs.Abort.{abort_answer, aborted, next_abort}
use Rattle.amqp_rules.specs.Carry.{size_so_far, carried, carry_answer, carry_on, carry_refusals, later_body, next_carry}
use Rattle.amqp_rules.specs.Telling.{flag}
use Rattle.amqp_rules.specs.declared.refusal.Refusal.{Refusal}
use Rattle.amqp_rules.specs.declared.reply.Reply.{Reply}
use Rattle.amqp_rules.specs.View.{View, LinkView, SendingView, has_number, handle_of}
use Rattle.amqp_steps.specs.declared.abort.Aborted.{Aborted}
use Rattle.amqp_steps.specs.declared.plan.Session.{Session}
use Rattle.amqp_deliveries.specs.declared.change.Change.{Change}
use Rattle.amqp_deliveries.specs.declared.change.Change.TheVariants.{Continues, Stay}
use Rattle.amqp_steps.specs.Taking.{IsAborted, IsTaken}
use Rattle.amqp_steps.specs.Drafting.{IsDraft}
use Rattle.amqp_steps.specs.Stores.{StoresView}
use Rattle.amqp_steps.specs.Plan.{IsBegun, IsCounted, IsKept, IsPlan, IsShort, AreShortOn, planned, view_of, sending_plan}
use Rattle.amqp_steps.specs.Carrying.{carried_session, carry_plan}
use Rattle.amqp_steps.specs.Doing.{IsDone}
use Rattle.amqp_steps.specs.declared.done.Done.{Done}
use Rattle.amqp_steps.specs.declared.carry.Carrying.{Carrying}
use Rattle.amqp_steps.specs.declared.onlink.OnLink.{OnLink}
use Rattle.amqp_steps.proofs.Sends.{draft-on}
use Rattle.amqp_steps.proofs.Plans.{change-alike, short-found, expects-same}

-- # Lengths

-- what is unfinished on the link that was found
pub found_short : (steps : ℕ) (link : ℕ) (links : List LinkView) (l : LinkView) (d : SendingView) → AreShortOn steps links → Some l ≡ find (has_number link) links → Some d ≡ l.sending → d.size ≤ steps * 2 ^ 64
found_short steps link links l d short found is =
    let s : IsShort steps l.sending = short-found steps (has_number link) links l short (sym found) in
    subst (λ (x : Option SendingView). size_so_far x ≤ steps * 2 ^ 64) (sym is) s

pub carried_short : (steps n : ℕ) (more : Bool) (d : SendingView) → d.size ≤ steps * 2 ^ 64 → n < 2 ^ 64 → IsShort (steps + 1) (carried n more (Some d))
carried_short steps n true d h k = let e : d.size + n ≤ (steps + 1) * 2 ^ 64 = omega (arith, h, k) in e
carried_short steps n false d h k = let e : 0 ≤ (steps + 1) * 2 ^ 64 = omega arith in e

-- # Counts

-- one transfer more is sent, and nothing begins
pub counted_sent : (steps : ℕ) (s : Session) (st : StoresView) (change : Change) → IsBegun (view_of steps s st) change (record s { windows = windows_sent s.windows }) → IsKept steps s st
    → IsCounted (view_of steps s st) change (record s { windows = windows_sent s.windows })
counted_sent steps s st change begins k =
    let few : s.windows.sent ≤ steps = k.sent in
    let begun : s.deliveries ≤ steps = k.deliveries in
    record {
      sent = omega (arith, few);
      deliveries = omega (arith, begun);
      ours = inl refl;
      theirs = expects-same s.expected;
      begun = begins;
    }

-- # A further transfer

pub carry-draft : (k : ℕ) (s : Session) (st : StoresView) (link : ℕ) (payload : List ℕ) (more : Bool) (o : OnLink) → IsKept k s st
    → IsTaken (view_of k s st) link (λ l. carry_refusals (view_of k s st) l payload) (carry_on (length payload) more) o → IsShort (k + 1) o.marks.sending
    → IsDraft (view_of k s st) (carry_answer (view_of k s st) link payload more) (next_carry (view_of k s st) link payload more) (later_body o.handle (flag more) None) payload
    (sending_plan (carried_session s) (Marked o.key link o.marks) Stay (later_body o.handle (flag more) None) payload Nothing)
carry-draft k s st link payload more o i t short =
    let v = view_of k s st in
    draft-on v link (λ l. carry_refusals v l payload) (carry_on (length payload) more) o (carried_session s) Stay (λ l. later_body (handle_of l.ours) (flag more) None)
    (later_body o.handle (flag more) None) payload Nothing t (λ j. later_body (t.handle j) (flag more) None) (counted_sent k s st Stay tt i) short tt

-- what a transfer gives that goes out at once
pub carried-done : (v new after : View) (link : ℕ) (x : Carrying) (answer : Result Reply Refusal) (d : Done) → IsPlan v answer after (carry_plan v link x)
    → d ≡ record { reply = record { sent = x.sent ∷ []; ended = []; given = Nothing }; octets = Some x.sent.bytes; given = Nothing }
    → new ≡ planned v (carry_plan v link x) → IsDone answer after new d
carried-done v new after link x answer d p is n = rw is record { due = p.due; leaves = n ∙ sym p.leaves; octets = refl; given = refl }

-- # A delivery is given up

pub draft_aborted : (steps : ℕ) (s : Session) (st : StoresView) (link : ℕ) (a : Aborted) (said : Option Performative) → IsKept steps s st
    → IsAborted (view_of steps s st) link a → said ≡ later_body a.on.handle None (Some true)
    → IsDraft (view_of steps s st) (abort_answer (view_of steps s st) link) (next_abort (view_of steps s st) link) said []
    (sending_plan (record s { windows = windows_sent s.windows }) (Marked a.on.key link a.on.marks) (Continues Sender a.id None true) said [] Nothing)
draft_aborted steps s st link a said k t b =
    let h : said ≡ later_body (handle_of t.taken.on.ours) None (Some true) = b ∙ ap (λ n. later_body n None (Some true)) t.taken.handle in
    let gone : a.on.marks.sending ≡ None = ap (λ l. l.sending) t.taken.marks in
    record {
      due = rw (t.taken.mapped, t.taken.found, t.taken.free, h, t.unfinished) refl;
      leaves = rw (change-alike (has_number link) aborted (with_marks a.on.marks) st.links.list t.taken.on t.taken.found (rw t.taken.marks refl), t.taken.found, t.unfinished) refl;
      sound = record {
        fit = tt;
        short = subst (λ (x : Option SendingView). IsShort (steps + 1) x) (sym gone) (let e : 0 ≤ (steps + 1) * 2 ^ 64 = omega arith in e);
        counted = counted_sent steps s st (Continues Sender a.id None true) tt k;
        alone = tt;
      };
    }
