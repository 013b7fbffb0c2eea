-- Dispose: what the deliveries of a table refuse, and the plan.
use Rattle.std.proofs.Common.{◌≡◌, ◌<◌, ◌≤◌, ◌-◌, ◌∙◌, ℕ, Bool, true, false, None, List, [], ◌∷◌, length, take, drop, filter, refl, sym, ap, arith, ⊎_elim}
use Rattle.std.specs.Prelude.{IsTrue, ◌↔◌}
use Rattle.std.specs.List.{list_any}
use Rattle.std.proofs.lemmas.Bool.{cases_lt}
use Rattle.std.proofs.lemmas.List.Edits.{length-between}
use Rattle.amqp_performatives.specs.declared.bodies.Role.{Role}
use Rattle.amqp_performatives.specs.declared.bodies.Role.TheVariants.{Sender, Receiver}
use Rattle.amqp_events.specs.Event.{Item, Disposition}
use Rattle.amqp_events.specs.States.{is_fixed}
use Rattle.amqp_events.specs.Table.{in_range}
use Rattle.amqp_events.specs.Told.{SentItem}
use Rattle.amqp_events.specs.Unsettled.{covers}
use Rattle.amqp_deliveries.specs.declared.change.Change.TheVariants.{Says}
use Rattle.amqp_deliveries.specs.declared.span.Span.{Span}
use Rattle.amqp_deliveries.specs.Dispose as tables
use Rattle.amqp_deliveries.specs.Held.{items_of}
use Rattle.amqp_deliveries.specs.Span.{IsSpan, part}
use Rattle.amqp_deliveries.proofs.Items.{any_item, filter_item}
use Rattle.amqp_links.specs.declared.fate.Fate.TheVariants as fate
use Rattle.amqp_rules.specs.declared.reply.Given.TheVariants.{Nothing}
use Rattle.amqp_rules.specs.Dispose.{dispose_answer, dispose_body, dispose_refusals, is_empty, next_dispose, waits_for_sender}
use Rattle.amqp_rules.specs.Refusing.{first_refusal}
use Rattle.amqp_rules.specs.Sending.{frame_refused}
use Rattle.amqp_steps.specs.declared.plan.Session.{Session}
use Rattle.amqp_steps.specs.Stores.{StoresView}
use Rattle.amqp_steps.specs.Plan.{IsPlan, IsKept, view_of, sending_plan}
use Rattle.amqp_steps.proofs.Plans.{counted-still}

-- # Those that a disposition speaks of stand at the places of a span

spoken : (d : Disposition) (items : List SentItem) (span : Span) → IsSpan d.first d.last items span → items_of (part span items) ≡ filter (covers d) (items_of items)
spoken d items span r = ap items_of r.inside ∙ sym (filter_item (in_range d.first d.last) items)

some-there : (xs : List SentItem) → 0 < length xs → is_empty (items_of xs) ≡ false
some-there [] h = absurd (omega arith)
some-there (x ∷ xs) h = refl

no-place : (items : List SentItem) (span : Span) → span.end ≤ span.start → is_empty (items_of (part span items)) ≡ true
no-place items span h =
    let none : span.end - span.start ≡ 0 = omega arith in
    ap (λ n. is_empty (items_of (take n (drop span.start items)))) none

not-true : (b : Bool) → (b ≡ true → ⊥) → b ≡ false
not-true true h = absurd (h refl)
not-true false h = refl

pub none_spoken : (d : Disposition) (items : List SentItem) (span : Span) (b : Bool) → IsSpan d.first d.last items span → (IsTrue b ↔ (span.end ≤ span.start)) → b ≡ is_empty (filter (covers d) (items_of items))
none_spoken d items span b r e =
    let long = length-between items span.start span.end r.places.within in
    ⊎_elim
    (λ l. let some : 0 < length (part span items) = omega arith in not-true b (λ t. let k : span.end ≤ span.start = e.0 t in absurd (omega (arith, k, l))) ∙ sym (some-there (part span items) some))
    (λ l. e.1 l ∙ sym (no-place items span l))
    (cases_lt span.start span.end)
    ∙ ap is_empty (spoken d items span r)

none-waits : (xs : List Item) → false ≡ list_any (waits_for_sender Sender) xs
none-waits [] = refl
none-waits (x ∷ xs) = none-waits xs

pub sender_waits : (d : Disposition) (items : List SentItem) → false ≡ list_any (waits_for_sender Sender) (filter (covers d) (items_of items))
sender_waits d items = none-waits (filter (covers d) (items_of items))

pub receiver_waits : (d : Disposition) (items : List SentItem) (span : Span) (b : Bool) → IsSpan d.first d.last items span → b ≡ tables.any_second (part span items)
    → b ≡ list_any (waits_for_sender Receiver) (filter (covers d) (items_of items))
receiver_waits d items span b r e = e ∙ sym (any_item (waits_for_sender Receiver) (part span items)) ∙ ap (list_any (waits_for_sender Receiver)) (spoken d items span r)

pub any_fixed_of : (d : Disposition) (items : List SentItem) (span : Span) (b : Bool) → IsSpan d.first d.last items span → b ≡ tables.any_fixed d.state (part span items)
    → b ≡ list_any (is_fixed d.state) (filter (covers d) (items_of items))
any_fixed_of d items span b r e = e ∙ sym (any_item (is_fixed d.state) (part span items)) ∙ ap (list_any (is_fixed d.state)) (spoken d items span r)

-- # The plan

pub plan_said : (steps : ℕ) (s : Session) (st : StoresView) (role : Role) (d sent kept : Disposition) → IsKept steps s st → first_refusal (dispose_refusals (view_of steps s st) role d) ≡ None
    → frame_refused s.max_frame (dispose_body role d) [] ≡ None → sent ≡ d → kept ≡ d
    → IsPlan (view_of steps s st) (dispose_answer (view_of steps s st) role d) (next_dispose (view_of steps s st) role d) (sending_plan s fate.Stay (Says role kept) (dispose_body role sent) [] Nothing)
plan_said steps s st Sender d sent kept k free written e f =
    rw (e, f)
    record {
      due = rw (free, written) refl;
      leaves = refl;
      sound = record { fit = tt; short = tt; counted = counted-still steps s s st (Says Sender d) tt k refl refl refl refl; alone = refl };
    }
plan_said steps s st Receiver d sent kept k free written e f =
    rw (e, f)
    record {
      due = rw (free, written) refl;
      leaves = refl;
      sound = record { fit = tt; short = tt; counted = counted-still steps s s st (Says Receiver d) tt k refl refl refl refl; alone = refl };
    }
