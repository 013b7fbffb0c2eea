-- The ids of the first transfers that were sent, and of those that were heard: the serial numbers from the sender's first one on.
use Rattle.std.proofs.Common.{suc, ◌≡◌, ℕ, ◌+◌, ◌&&◌, Bool, true, false, cond, Option, Some, None, List, [], ◌∷◌, add-one, refl, sym, ap, ◌∙◌}
use Rattle.std.specs.Option.{option_and_then}
use Rattle.std.specs.List.{cons_option}
use Rattle.amqp_flow.specs.Serial.{wire}
use Rattle.amqp_performatives.specs.declared.bodies.TransferBody.{TransferBody}
use Rattle.amqp_performatives.specs.declared.performative.Performative.{Performative}
use Rattle.amqp_rules.specs.declared.config.Config.{Config}
use Rattle.amqp_rules.specs.declared.op.Op.{Op}
use Rattle.amqp_rules.specs.declared.op.Op.TheVariants as own
use Rattle.amqp_rules.specs.declared.reply.Reply.{Reply}
use Rattle.amqp_rules.specs.declared.reply.Given.TheVariants as given
use Rattle.amqp_rules.specs.View.{View, handle_of, next_delivery}
use Rattle.amqp_rules.specs.Sending.{sends as sends'}
use Rattle.amqp_rules.specs.Start.{start_body, start_refusals}
use Rattle.amqp_rules.proofs.Accepted.{on-link-ok, sends-ok}
use Rattle.amqp_laws.specs.declared.entry.Entry.{Entry}
use Rattle.amqp_laws.specs.declared.entry.Step.{Step}
use Rattle.amqp_laws.specs.declared.entry.Step.TheVariants.{Opened, Own, Heard}
use Rattle.amqp_laws.specs.Past.{some_entry}
use Rattle.amqp_laws.specs.Said.{body_heard, ends, hears_no_end, is_start, own_in, starts, transfer_among, transfer_sent}
use Rattle.amqp_laws.specs.Live.{live}
use Rattle.amqp_laws.specs.At.{at, started}
use Rattle.amqp_laws.specs.Lawful.{next}
use Rattle.amqp_pair_laws.specs.Premise.{ids_sent}
use Rattle.amqp_pair_laws.proofs.Sends.{Sending, begins, flows, others, silent, step-sending, transfers}
use Rattle.amqp_pair_laws.proofs.SlotActs.{AllFair}
use Rattle.amqp_pair_laws.proofs.Ids.{none-sent}
use Rattle.amqp_pair_laws.proofs.Plain.{Answers, OwnAnswers, due, no-start, starts-alone}
use Rattle.amqp_world.specs.Knowing.{serials}

abbrev id_in : Option (TransferBody × List ℕ) → Option ℕ
id_in o = option_and_then (λ t. t.0.delivery_id) o

start-sent : (v : View) (op : Op) (reply : Reply) → OwnAnswers v op reply → is_start (Some op) ≡ true → id_in (transfer_among reply.sent) ≡ Some (next_delivery v)
start-sent v (own.Start number tag format settled payload more) reply h is =
    let id = next_delivery v in
    let o = on-link-ok v number (λ l. sends' v.max_frame (start_refusals v l tag settled payload) (start_body (handle_of l.ours) id tag format settled more) payload (given.Delivery id)) reply h in
    let k = sends-ok v.max_frame (start_refusals v o.on tag settled payload) (start_body (handle_of o.on.ours) id tag format settled more) payload (given.Delivery id) reply o.said in
    ap (λ (r : Reply). id_in (transfer_among r.sent)) (sym k.replies)
start-sent v _ reply h is = absurd (cc (is))

starts-sent : (v : View) (step : Step) (reply : Reply) → Answers v step reply → starts (record { step = step; reply = reply }) ≡ true → id_in (transfer_among reply.sent) ≡ Some (next_delivery v)
starts-sent v (Opened told) reply h is = absurd (cc (is))
starts-sent v (Own op) reply h is = start-sent v op reply h (sym (starts-alone v (Own op) reply h) ∙ is)
starts-sent v (Heard f) reply h is = absurd (cc (is))

others-sent : (v after : View) (heard : Option Performative) (op : Option Op) (reply : Reply) → Sending v after heard op reply → is_start op ≡ false → id_in (transfer_among reply.sent) ≡ None
others-sent v after heard op reply (silent q) other = ap id_in (none-sent reply.sent q)
others-sent v after heard op reply (transfers t payload deaf mapped room named carries is) other = let none = named other in rw (is, none) refl
others-sent v after heard op reply (flows w t mapped open' begun numbers is) other = rw is refl
others-sent v after heard op reply (begins w deaf is-begin unsent open' takes comes is) other = rw is refl
others-sent v after heard op reply (others p payload t w beside is) other = rw (is, t) refl

-- the i-th first transfer has the i-th serial number
pub sent-serials : (c : Config) (past : List Entry) → AllFair c past → ids_sent (live past) ≡ serials c.first_id (started (live past))
sent-serials c [] fair = refl
sent-serials c (e ∷ past) fair = by (sent-serials c past fair.0) (some_entry ends (live past) && hears_no_end e.step)
  where
    p : List Entry
    p = live past

    on : ids_sent p ≡ serials c.first_id (started p) → (s : Bool) → starts e ≡ s → cons_option (id_in (transfer_sent e)) (ids_sent p) ≡ serials c.first_id (started (e ∷ p))
    on before true s =
        let named = starts-sent (at c past) e.step e.reply (due fair.1) s in
        let one : started (e ∷ p) ≡ suc (started p) = rw s (add-one (started p)) in
        rw (named, one) (ap (λ (ids : List ℕ). wire (c.first_id + started p) ∷ ids) before)
    on before false s =
        let none = others-sent (at c past) (next (at c past) e.step) (body_heard e.step) (own_in e.step) e.reply (step-sending (at c past) e.step e.reply (due fair.1)) (no-start e s) in
        let same : started (e ∷ p) ≡ started p = rw s refl in
        rw (none, same) before

    by : ids_sent p ≡ serials c.first_id (started p) → (dropped : Bool) → ids_sent (cond dropped p (e ∷ p)) ≡ serials c.first_id (started (cond dropped p (e ∷ p)))
    by before true = before
    by before false = on before (starts e) refl
