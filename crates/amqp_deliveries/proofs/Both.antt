-- What one event makes of both tables, seen as their view.
use Rattle.std.proofs.Common.{◌≡◌, ◌-◌, ℕ, zero, suc, List, [], ◌∷◌, ◌++◌, length, take, refl, sym, ap, ◌∙◌, arith, length-append}
use Rattle.std.proofs.lemmas.List.{length-map}
use Rattle.amqp_performatives.specs.declared.bodies.Role.TheVariants.{Sender, Receiver}
use Rattle.amqp_events.specs.Event.{Item, Event, Nothing}
use Rattle.amqp_events.specs.Unsettled.{next_held}
use Rattle.amqp_events.specs.Told.{SentItem, next_sent_held}
use Rattle.amqp_events.proofs.Gone.{items-next, sent-left, held-left, nothing-left}
use Rattle.amqp_events.proofs.TableWords.{begin-adds}
use Rattle.amqp_deliveries.specs.Held.{items_of, untold}
use Rattle.amqp_deliveries.specs.Change.{TablesView, tables_after}
use Rattle.amqp_deliveries.specs.declared.change.Change.TheVariants as change
use Rattle.amqp_deliveries.proofs.Spoken.{begin_adds}

-- the view of both tables
abbrev pub both : List SentItem → List SentItem → TablesView
both sent received = record { sent = sent; received = items_of received }

pub sent_changed : (e : Event) (sent now received : List SentItem) → now ≡ next_sent_held e sent
    → both now received ≡ record { sent = next_sent_held e sent; received = next_held Nothing (items_of received) }
sent_changed e sent now received h = λ i. record { sent = h i; received = sym (held-left Nothing (items_of received) nothing-left) i }

pub received_changed : (e : Event) (sent received now : List SentItem) → now ≡ next_sent_held e received
    → both sent now ≡ record { sent = next_sent_held Nothing sent; received = next_held e (items_of received) }
received_changed e sent received now h = λ i. record { sent = sym (sent-left Nothing sent nothing-left) i; received = (ap items_of h ∙ items-next e received) i }

pub sent_alone : (e : Event) (sent now received : List SentItem) → now ≡ next_sent_held e sent → both now received ≡ record (both sent received) { sent = next_sent_held e sent }
sent_alone e sent now received h = λ i. record (both sent received) { sent = h i }

pub received_alone : (e : Event) (sent received now : List SentItem) → now ≡ next_sent_held e received
    → both sent now ≡ record (both sent received) { received = next_held e (items_of received) }
received_alone e sent received now h = λ i. record (both sent received) { received = (ap items_of h ∙ items-next e received) i }

pub both_changed : (e : Event) (sent received now then : List SentItem) → now ≡ next_sent_held e sent → then ≡ next_sent_held e received
    → both now then ≡ record { sent = next_sent_held e sent; received = next_held e (items_of received) }
both_changed e sent received now then h k = λ i. record { sent = h i; received = (ap items_of k ∙ items-next e received) i }

-- # Back

take-item : (n : ℕ) (items : List SentItem) → items_of (take n items) ≡ take n (items_of items)
take-item zero items = refl
take-item (suc n) [] = refl
take-item (suc n) (s ∷ items) = ap (λ t. s.item ∷ t) (take-item n items)

take-front : {X : Type 0} (xs : List X) (x : X) → take (length (xs ++ x ∷ []) - 1) (xs ++ x ∷ []) ≡ xs
take-front {X} xs x =
    let e : length (xs ++ x ∷ []) - 1 ≡ length xs = omega (arith, length-append xs (x ∷ [])) in
    ap (λ n. take n (xs ++ x ∷ [])) e ∙ take-whole xs (x ∷ [])
  where
    take-whole : (ys zs : List X) → take (length ys) (ys ++ zs) ≡ ys
    take-whole [] zs = refl
    take-whole (y ∷ ys) zs = ap (λ t. y ∷ t) (take-whole ys zs)

pub sent_back : (sent received : List SentItem) (before : TablesView) (item : Item) → both sent received ≡ tables_after (change.Begins Sender item) before
    → both (take (length sent - 1) sent) received ≡ before
sent_back sent received before item h =
    let s : sent ≡ before.sent ++ untold item ∷ [] = ap (λ t. t.sent) h ∙ begin_adds item before.sent in
    let r : items_of received ≡ before.received = ap (λ t. t.received) h in
    λ i. record { sent = (ap (λ xs. take (length xs - 1) xs) s ∙ take-front before.sent (untold item)) i; received = r i }

pub received_back : (sent received : List SentItem) (before : TablesView) (item : Item) → both sent received ≡ tables_after (change.Begins Receiver item) before
    → both sent (take (length received - 1) received) ≡ before
received_back sent received before item h =
    let s : sent ≡ before.sent = ap (λ t. t.sent) h in
    let r : items_of received ≡ before.received ++ item ∷ [] = ap (λ t. t.received) h ∙ begin-adds item before.received in
    let long : length received ≡ length (items_of received) = sym (length-map received (λ s. s.item)) in
    λ i. record {
      sent = s i;
      received = (take-item (length received - 1) received ∙ ap (λ n. take (n - 1) (items_of received)) long ∙ ap (λ xs. take (length xs - 1) xs) r ∙ take-front before.received item) i;
    }
