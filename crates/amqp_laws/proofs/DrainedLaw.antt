-- A drain, as formulas over the whole past and as single changes.
use Rattle.std.proofs.Common.{◌≡◌, ℕ, ◌+◌, ◌-◌, true, false, Some, Ok, List, [], ◌∷◌, refl, arith}
use Rattle.amqp_performatives.specs.declared.bodies.FlowBody.{FlowBody}
use Rattle.amqp_performatives.specs.declared.bodies.Role.{Role}
use Rattle.amqp_performatives.specs.declared.bodies.Role.TheVariants.{Sender, Receiver}
use Rattle.amqp_performatives.specs.declared.performative.Performative.TheVariants.{Flow}
use Rattle.amqp_rules.specs.declared.op.Op.TheVariants.{Drained}
use Rattle.amqp_rules.specs.declared.reply.Reply.{Reply}
use Rattle.amqp_rules.specs.declared.reply.Given.TheVariants.{Nothing}
use Rattle.amqp_rules.specs.declared.config.Config.{Config}
use Rattle.amqp_rules.specs.View.{has_number, same_role}
use Rattle.amqp_rules.specs.Sending.{reply_of, sends}
use Rattle.amqp_rules.specs.Telling.{sender_flow}
use Rattle.amqp_rules.specs.Drained.{drained, drained_answer, drained_body, drained_refusals, next_drained}
use Rattle.amqp_laws.specs.declared.entry.Entry.{Entry}
use Rattle.amqp_laws.specs.declared.entry.Step.TheVariants.{Own}
use Rattle.amqp_laws.specs.Sending.{limit, passed}
use Rattle.amqp_laws.specs.Windows.{heard_transfers}
use Rattle.amqp_laws.specs.Links.{link_at, link_pasts, is_gone, put, is_there_with}
use Rattle.amqp_laws.specs.At.{seen, sent_events}
use Rattle.amqp_rules.proofs.Accepted.{sends-ok, on-link-ok, not-false}
use Rattle.amqp_laws.proofs.Counting.{more-is}
use Rattle.amqp_laws.proofs.FlowCredit.{wire-sum}
use Rattle.amqp_laws.proofs.Found.{some-left}
use Rattle.amqp_rules.proofs.Listed.{length-changed}
use Rattle.amqp_laws.proofs.Joining.{Changes}
use Rattle.amqp_laws.proofs.Beside.{told-changed, told-role}
use Rattle.amqp_laws.proofs.TableLaw.{table-law}
use Rattle.amqp_events.specs.Laws.{AreLearnt}
use Rattle.amqp_events.specs.Event.{Nothing as No_event}

abbrev pub drained_entry : ℕ → FlowBody → Entry
drained_entry link b = record { step = Own (Drained link); reply = reply_of (Some (Flow b)) [] Nothing }

all-passed : (limit n : ℕ) → limit - (n + (limit - n)) ≡ 0
all-passed limit n = omega arith

drained-changes : (link : ℕ) (b : FlowBody) (number : ℕ) (role : Role) (name : List ℕ) (past : List Entry)
    → is_gone (record { number = number; role = role; name = name; past = past }) ≡ false
    → same_role Sender role ≡ true
    → Changes (put (drained_entry link b)) drained (record { number = number; role = role; name = name; past = past })
drained-changes link b number Sender name past there h =
    record { stays = there; changed = rw (more-is (limit past - passed past) (passed past), all-passed (limit past) (passed past), wire-sum (passed past) (limit past - passed past)) refl }
drained-changes link b number Receiver name past there h = absurd (cc)

pub drained-law : (c : Config) (n : ℕ) (past : List Entry) (link : ℕ) (reply : Reply)
    → AreLearnt (sent_events c past)
    → drained_answer (seen c n past) link ≡ Ok reply
    → seen c (n + 1) (record { step = Own (Drained link); reply = reply } ∷ past) ≡ next_drained (seen c n past) link
drained-law c n past link reply learnt h =
    let v = seen c n past in
    let o = on-link-ok v link (λ l. sends v.max_frame (drained_refusals l) (drained_body v.windows (drained l)) [] Nothing) reply h in
    let s = sends-ok v.max_frame (drained_refusals o.on) (drained_body v.windows (drained o.on)) [] Nothing reply o.said in
    let role = not-false (same_role Sender o.on.role) s.none_holds.1.0 in
    let b = sender_flow v.windows (drained o.on) (Some true) in
    let e = drained_entry link b in
    let links = told-changed c past No_event (has_number link) (put e) drained o.on learnt tt (λ l. refl) (λ l. refl) o.found
    (λ l there whole. drained-changes link b l.number l.role l.name l.past there (told-role Sender (sent_events c past) (link_at l) o.on whole role)) in
    let tables = table-law c n (n + 1) past e tt in
    rw (← s.replies, links, length-changed (is_there_with (has_number link)) (put e) (link_pasts past), some-left (heard_transfers past) c.window, tables.sends, tables.receives, tables.expects) refl
