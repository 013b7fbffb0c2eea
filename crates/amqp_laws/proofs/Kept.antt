-- What holds of the unsettled deliveries of a lawful journal.
use Rattle.std.proofs.Common.{◌≤◌, ◌+◌, ℕ, ◌^◌, List, length, sym, subst, arith}
use Rattle.amqp_events.specs.Event.{Item}
use Rattle.amqp_events.specs.Laws.{AreInOrder, IsPast}
use Rattle.amqp_events.specs.Unsettled.{held}
use Rattle.amqp_events.specs.Tags.{AreApart}
use Rattle.amqp_events.proofs.Summary.{sent-order, sent-past, heard-order, heard-past}
use Rattle.amqp_events.proofs.TagLaw.{tags-apart}
use Rattle.amqp_rules.specs.declared.config.Config.{Config}
use Rattle.amqp_rules.specs.View.{next_delivery}
use Rattle.amqp_laws.specs.declared.entry.Entry.{Entry}
use Rattle.amqp_laws.specs.Live.{live}
use Rattle.amqp_laws.specs.At.{at, sent_events, received_events}
use Rattle.amqp_laws.specs.Lawful.{IsReplayed}
use Rattle.amqp_laws.specs.DeliveryLaws.{AreKept}
use Rattle.amqp_laws.proofs.SentOrder.{sent-so}
use Rattle.amqp_laws.proofs.SentTags.{sent-free}
use Rattle.amqp_laws.proofs.HeardOrder.{heard-so}
use Rattle.amqp_laws.proofs.Shown.{items-held, sent-events_many, received-events_many, live-few}
use Rattle.amqp_flow.specs.Serial.{wire}

pub kept : (c : Config) (past : List Entry) → IsReplayed c past → length past ≤ 2 ^ 30 → AreKept (at c past)
kept c past h few =
    let s = sent-so c past h in
    let r = heard-so c past h in
    let short = live-few past in
    let p = live past in
    let few_sent : length (sent_events c p) ≤ 2 ^ 30 = let m = sent-events_many c p in omega (arith, m, short, few) in
    let few_received : length (received_events c p) ≤ 2 ^ 30 = let m = received-events_many c p in omega (arith, m, short, few) in
    let same = sym (items-held (sent_events c p)) in
    let O : List Item → Type 0 = λ is. AreInOrder is in
    let P : List Item → Type 0 = λ is. IsPast (next_delivery (at c past)) is in
    let T : List Item → Type 0 = λ is. AreApart is in
    let Q : ℕ → Type 0 = λ n. IsPast (wire (c.first_id + n)) (held (sent_events c p)) in
    record {
      sent_order = subst O same (sent-order c.first_id (sent_events c p) s.order few_sent);
      sent_past = subst P same (subst Q s.count (sent-past c.first_id (sent_events c p) s.order few_sent));
      sent_tags = subst T same (tags-apart (sent_events c p) (sent-free c past h few));
      received_order = heard-order (received_events c p) r.order few_received;
      received_past = heard-past (received_events c p) r.order few_received;
      received_tags = tags-apart (received_events c p) r.free;
    }
