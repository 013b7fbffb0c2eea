-- The id of the next delivery is none of those that were sent; so no range of what was heard has it.
use Rattle.std.proofs.Common.{◌≡◌, ◌≤◌, ◌<◌, ℕ, ◌+◌, ◌^◌, ◌==◌, ◌&&◌, ◌||◌, Bool, true, false, cond, Option, Some, None, List, [], ◌∷◌, arith, refl, sym, ap, ◌∙◌, subst, length}
use Rattle.std.proofs.lemmas.Bool.{eqb-true}
use Rattle.std.specs.Option.{option_and_then}
use Rattle.std.specs.List.{cons_option}
use Rattle.amqp_flow.specs.Serial.{is_inside, wire}
use Rattle.amqp_performatives.specs.declared.bodies.Role.TheVariants.{Receiver}
use Rattle.amqp_performatives.specs.declared.bodies.TransferBody.{TransferBody}
use Rattle.amqp_performatives.specs.declared.performative.Performative.{Performative}
use Rattle.amqp_events.specs.Named.{is_among}
use Rattle.amqp_rules.specs.declared.config.Config.{Config}
use Rattle.amqp_rules.specs.declared.op.Op.{Op}
use Rattle.amqp_rules.specs.declared.op.Op.TheVariants as own
use Rattle.amqp_rules.specs.declared.reply.Reply.{Reply}
use Rattle.amqp_rules.specs.declared.reply.Given.TheVariants as given
use Rattle.amqp_rules.specs.View.{View, handle_of, next_delivery}
use Rattle.amqp_rules.specs.Sending.{sends as sends'}
use Rattle.amqp_rules.specs.Start.{start_body, start_refusals}
use Rattle.amqp_rules.proofs.Accepted.{on-link-ok, sends-ok}
use Rattle.amqp_rules.proofs.Listed.{by-bool}
use Rattle.amqp_laws.specs.declared.entry.Entry.{Entry}
use Rattle.amqp_laws.specs.declared.entry.Step.{Step}
use Rattle.amqp_laws.specs.declared.entry.Step.TheVariants.{Opened, Own, Heard}
use Rattle.amqp_laws.specs.Past.{some_entry}
use Rattle.amqp_laws.specs.Said.{body_heard, ends, hears_no_end, is_start, own_in, starts, transfer_among, transfer_sent}
use Rattle.amqp_laws.specs.Live.{live}
use Rattle.amqp_laws.specs.At.{at, started}
use Rattle.amqp_laws.specs.Lawful.{next}
use Rattle.amqp_laws.proofs.Sound.{at-is-sound}
use Rattle.amqp_pair_laws.proofs.Plain.{Answers, OwnAnswers, due, starts-alone, no-start}
use Rattle.amqp_pair_laws.specs.Premise.{KeepsToHeard, ids_heard, ids_sent}
use Rattle.amqp_pair_laws.proofs.Sends.{Sending, begins, flows, others, silent, step-sending, transfers}
use Rattle.amqp_pair_laws.proofs.SlotActs.{AllFair}
use Rattle.amqp_pair_laws.proofs.Opens.{few-by, replayed-by}
use Rattle.amqp_pair_laws.proofs.Ids.{none-sent}

-- the id of what is sent
abbrev id_in : Option (TransferBody × List ℕ) → Option ℕ
id_in o = option_and_then (λ t. t.0.delivery_id) o

start-sent : (v : View) (op : Op) (reply : Reply) → OwnAnswers v op reply → is_start (Some op) ≡ true → id_in (transfer_among reply.sent) ≡ Some (next_delivery v)
start-sent v (own.Start number tag format settled payload more) reply h is =
    let id = next_delivery v in
    let o = on-link-ok v number (λ l. sends' v.max_frame (start_refusals v l tag settled payload) (start_body (handle_of l.ours) id tag format settled more) payload (given.Delivery id)) reply h in
    let k = sends-ok v.max_frame (start_refusals v o.on tag settled payload) (start_body (handle_of o.on.ours) id tag format settled more) payload (given.Delivery id) reply o.said in
    ap (λ (r : Reply). id_in (transfer_among r.sent)) (sym k.replies)
start-sent v _ reply h is = absurd (cc (is))

starts-sent : (v : View) (step : Step) (reply : Reply) → Answers v step reply → starts (record { step = step; reply = reply }) ≡ true → id_in (transfer_among reply.sent) ≡ Some (next_delivery v)
starts-sent v (Opened told) reply h is = absurd (cc (is))
starts-sent v (Own op) reply h is = start-sent v op reply h (sym (starts-alone v (Own op) reply h) ∙ is)
starts-sent v (Heard f) reply h is = absurd (cc (is))

others-sent : (v after : View) (heard' : Option Performative) (op : Option Op) (reply : Reply) → Sending v after heard' op reply → is_start op ≡ false → id_in (transfer_among reply.sent) ≡ None
others-sent v after heard' op reply (silent q) other = ap id_in (none-sent reply.sent q)
others-sent v after heard' op reply (transfers t payload deaf mapped room named carries' is) other = let none = named other in rw (is, none) refl
others-sent v after heard' op reply (flows w t mapped open' begun numbers is) other = rw is refl
others-sent v after heard' op reply (begins w deaf is-begin unsent open' takes comes is) other = rw is refl
others-sent v after heard' op reply (others p payload t w beside is) other = rw (is, t) refl

-- # Serial numbers

-- one of the first n ids
abbrev pub IsSerial : Config → ℕ → ℕ → Type 0
IsSerial c n id = (k : ℕ) × ((k < n) × (id ≡ wire (c.first_id + k)))

pub serial-more : (c : Config) (n : ℕ) (id : ℕ) → IsSerial c n id → IsSerial c (n + 1) id
serial-more c n id x = let few = x.1.0 in (x.0, (omega (arith, few), x.1.1))

or-two : (a b : Bool) → a || b ≡ true → (a ≡ false → b ≡ true)
or-two true b h = λ f. absurd (cc (f))
or-two false b h = λ f. h

pub serials-sent : (c : Config) (past : List Entry) → AllFair c past → (id : ℕ) → is_among (ids_sent (live past)) id ≡ true → IsSerial c (started (live past)) id
serials-sent c [] fair id h = absurd (cc (h))
serials-sent c (e ∷ past) fair id h = by (serials-sent c past fair.0 id) (some_entry ends (live past) && hears_no_end e.step) h
  where
    p : List Entry
    p = live past

    on : (is_among (ids_sent p) id ≡ true → IsSerial c (started p) id) → (s : Bool) → starts e ≡ s → is_among (cons_option (id_in (transfer_sent e)) (ids_sent p)) id ≡ true → IsSerial c (started (e ∷ p)) id
    on before true s k =
        let named = starts-sent (at c past) e.step e.reply (due fair.1) s in
        let k' : (next_delivery (at c past) == id) || is_among (ids_sent p) id ≡ true = rw named at k in
        subst (λ (n : ℕ). IsSerial c n id) (more s)
        (by-bool (next_delivery (at c past) == id)
        (λ (t : (next_delivery (at c past) == id) ≡ true). let same : next_delivery (at c past) ≡ id = eqb-true (next_delivery (at c past)) id t in (started p, (omega arith, sym same)))
        (λ (f : (next_delivery (at c past) == id) ≡ false). serial-more c (started p) id (before (or-two (next_delivery (at c past) == id) (is_among (ids_sent p) id) k' f))))
      where
        more : starts e ≡ true → started p + 1 ≡ started (e ∷ p)
        more s = rw s refl
    on before false s k =
        let none = others-sent (at c past) (next (at c past) e.step) (body_heard e.step) (own_in e.step) e.reply (step-sending (at c past) e.step e.reply (due fair.1)) (no-start e s) in
        let k' : is_among (ids_sent p) id ≡ true = rw none at k in
        subst (λ (n : ℕ). IsSerial c n id) (same s) (before k')
      where
        same : starts e ≡ false → started p ≡ started (e ∷ p)
        same s = rw s refl

    by : (is_among (ids_sent p) id ≡ true → IsSerial c (started p) id) → (dropped : Bool) → is_among (ids_sent (cond dropped p (e ∷ p))) id ≡ true → IsSerial c (started (cond dropped p (e ∷ p))) id
    by before true k = before k
    by before false k = on before (starts e) refl k

pub serial-apart : (c : Config) (n : ℕ) (id : ℕ) → n ≤ 2 ^ 30 → IsSerial c n id → id ≡ wire (c.first_id + n) → ⊥
serial-apart c n id few x is = by c.first_id x.0 n x.1.0 few (sym x.1.1 ∙ is)
  where
    by : (first k n : ℕ) → k < n → n ≤ 2 ^ 30 → wire (first + k) ≡ wire (first + n) → ⊥
    by first k n h few e = omega (arith, h, few, e)

pub started-few : (c : Config) (past : List Entry) → AllFair c past → started (live past) ≤ 2 ^ 30
started-few c past fair =
    let s = at-is-sound c past (replayed-by c past fair) (few-by c past fair) in
    let begun : started (live past) ≤ length past = s.deliveries in
    let few : length past ≤ 2 ^ 30 = few-by c past fair in
    omega (arith, begun, few)

-- the next id is new
pub next-fresh : (c : Config) (past : List Entry) → AllFair c past → is_among (ids_sent (live past)) (next_delivery (at c past)) ≡ false
next-fresh c past fair =
    by-bool (is_among (ids_sent (live past)) (next_delivery (at c past)))
    (λ (t : is_among (ids_sent (live past)) (next_delivery (at c past)) ≡ true).
    absurd (serial-apart c (started (live past)) (next_delivery (at c past)) (started-few c past fair) (serials-sent c past fair (next_delivery (at c past)) t) refl))
    (λ (f : is_among (ids_sent (live past)) (next_delivery (at c past)) ≡ false). f)

-- # Ranges that were disposed

-- no disposition of received deliveries that settles has the id in its range
abbrev pub IsOutside : Step → ℕ → Type 0
IsOutside (Own (own.Dispose Receiver first last true state)) id = is_inside id first last ≡ false
IsOutside _ id = Unit {0}

abbrev pub AllOutside : List Entry → ℕ → Type 0
AllOutside [] id = Unit {0}
AllOutside (e ∷ past) id = IsOutside e.step id × AllOutside past id

pub among-earlier : (o : Option ℕ) (ids : List ℕ) (id : ℕ) → is_among (cons_option o ids) id ≡ false → is_among ids id ≡ false
among-earlier None ids id h = h
among-earlier (Some j) ids id h = by (j == id) h
  where
    by : (b : Bool) → b || is_among ids id ≡ false → is_among ids id ≡ false
    by true h = absurd (cc (h))
    by false h = h

outside-by : (step : Step) (past : List Entry) (id : ℕ) → id < 2 ^ 32 → is_among (ids_heard (live past)) id ≡ false → KeepsToHeard step past → IsOutside step id
outside-by (Own (own.Dispose Receiver first last true state)) past id small new told =
    by-bool (is_inside id first last)
    (λ (t : is_inside id first last ≡ true). let there = told id small t in absurd (cc (there, new)))
    (λ (f : is_inside id first last ≡ false). f)
outside-by _ past id small new told = tt

-- an id that was not heard is outside of all
pub outside-new : (c : Config) (past : List Entry) (id : ℕ) → AllFair c past → id < 2 ^ 32 → is_among (ids_heard (live past)) id ≡ false → AllOutside past id
outside-new c [] id fair small new = tt
outside-new c (e ∷ past) id fair small new =
    let earlier = by (some_entry ends (live past) && hears_no_end e.step) new in
    (outside-by e.step past id small earlier fair.1.told, outside-new c past id fair.0 small earlier)
  where
    by : (dropped : Bool) → is_among (ids_heard (cond dropped (live past) (e ∷ live past))) id ≡ false → is_among (ids_heard (live past)) id ≡ false
    by true h = h
    by false h = among-earlier _ (ids_heard (live past)) id h
