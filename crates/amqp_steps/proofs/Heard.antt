-- A disposition that is heard.
use Rattle.std.proofs.Common.{◌≡◌, ◌==◌, ℕ, true, false, List, [], ◌∷◌, ◌++◌, map, filter, refl, ap, sym, subst, ◌∙◌, append-nil}
use Rattle.amqp_performatives.specs.declared.bodies.DispositionBody.{DispositionBody}
use Rattle.amqp_performatives.specs.declared.bodies.Role.{Role}
use Rattle.amqp_performatives.specs.declared.bodies.Role.TheVariants.{Sender, Receiver}
use Rattle.amqp_events.specs.Event as event
use Rattle.amqp_events.specs.Event.{Disposition}
use Rattle.amqp_events.specs.Told.{SentItem, tellings, Telling}
use Rattle.amqp_links.specs.declared.fate.Fate.TheVariants as fate
use Rattle.amqp_deliveries.specs.declared.change.Change.TheVariants.{Hears}
use Rattle.amqp_rules.specs.declared.reply.Given.TheVariants.{Nothing}
use Rattle.amqp_rules.specs.declared.violation.Violation.{Violation}
use Rattle.amqp_rules.specs.Deliveries.{disposition_of}
use Rattle.amqp_rules.specs.Dispose.{is_backwards}
use Rattle.amqp_rules.specs.PeerDisposition.{disposition_answer, next_disposition, told_more}
use Rattle.amqp_rules.specs.View.{LinkView, opposite, takes_frames}
use Rattle.amqp_steps.specs.declared.plan.Plan.{Plan}
use Rattle.amqp_steps.specs.declared.plan.Session.{Session}
use Rattle.amqp_steps.specs.Stores.{StoresView, stores_after}
use Rattle.amqp_steps.specs.Plan.{IsPlan, IsKept, flags_of, view_of, quiet_plan}
use Rattle.amqp_steps.proofs.Plans.{counted-still}
use Rattle.amqp_links.specs.Links.{LinksView}
use Rattle.amqp_links.specs.Fate.{links_told}
use Rattle.amqp_deliveries.specs.Change.{TablesView, tables_after}

-- # What says nothing tells nothing

nothing-told : (items : List SentItem) → tellings event.Nothing items ≡ []
nothing-told [] = refl
nothing-told (s ∷ items) = nothing-told items

pub links_untold : (items : List SentItem) (links : List LinkView) → links ≡ map (told_more event.Nothing items) links
links_untold items [] = refl
links_untold items (l ∷ links) =
    let same : l.told ≡ l.told ++ filter (λ t. t.link == l.number) (tellings event.Nothing items) =
    sym (append-nil l.told) ∙ ap (λ ts. l.told ++ filter (λ t. t.link == l.number) ts) (sym (nothing-told items)) in
    λ i. record l { told = same i } ∷ links_untold items links i

-- # The plan

of-role : (steps : ℕ) (s : Session) (st : StoresView) (b : DispositionBody) (role : Role) → IsKept steps s st → takes_frames (flags_of s) ≡ true
    → is_backwards (disposition_of b).first (disposition_of b).last ≡ false
    → IsPlan {E = Violation} (view_of steps s st) (disposition_answer (view_of steps s st) (record b { role = role })) (next_disposition (view_of steps s st) (record b { role = role }))
    (quiet_plan s fate.Stay (Hears (opposite role) (disposition_of b)) Nothing)
of-role steps s st b Receiver k takes back =
    record {
      due = rw (takes, back) refl;
      leaves = refl;
      sound = record { fit = tt; short = tt; counted = counted-still steps s s st (Hears Sender (disposition_of b)) tt k refl refl refl refl; alone = refl };
    }
of-role steps s st b Sender k takes back =
    record {
      due = rw (takes, back) refl;
      leaves = λ i. record (next_disposition (view_of steps s st) (record b { role = Sender })) { links = sym (links_untold st.tables.sent st.links.list) i };
      sound = record { fit = tt; short = tt; counted = counted-still steps s s st (Hears Receiver (disposition_of b)) tt k refl refl refl refl; alone = refl };
    }

pub plan_heard : (steps : ℕ) (s : Session) (st : StoresView) (b : DispositionBody) (role : Role) (d : Disposition) (p : Plan) → IsKept steps s st → takes_frames (flags_of s) ≡ true
    → is_backwards (disposition_of b).first (disposition_of b).last ≡ false → d ≡ disposition_of b → role ≡ opposite b.role → p ≡ quiet_plan s fate.Stay (Hears role d) Nothing
    → IsPlan {E = Violation} (view_of steps s st) (disposition_answer (view_of steps s st) b) (next_disposition (view_of steps s st) b) p
plan_heard steps s st b role d p k takes back said ours is =
    let P : Plan → Type 0 = IsPlan {E = Violation} (view_of steps s st) (disposition_answer (view_of steps s st) b) (next_disposition (view_of steps s st) b) in
    subst P (sym (is ∙ (λ i. quiet_plan s fate.Stay (Hears (ours i) (said i)) Nothing))) (of-role steps s st b b.role k takes back)

pub heard-told : (role : Role) (d : event.Disposition) (s : StoresView) (l : LinksView) (ts : List Telling) (t : TablesView)
    → role ≡ Sender → l ≡ links_told ts s.links → ts ≡ tellings (event.Hears d) s.tables.sent → t ≡ tables_after (Hears role d) s.tables
    → ◌≡◌ {A = StoresView} (record { links = l; tables = t }) (stores_after fate.Stay (Hears role d) s)
heard-told Sender d s l ts t e a b f = rw (a, b, f) refl
heard-told Receiver d s l ts t e a b f = absurd (cc)
