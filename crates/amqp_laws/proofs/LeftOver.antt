-- What is unsettled is what began, less what was named as ended: over a whole journal.
use Rattle.std.proofs.Common.{◌≡◌, ◌≤◌, ◌^◌, List, length, arith, sym, ap, ◌∙◌}
use Rattle.std.proofs.lemmas.List.{reverse-reverse, length-reverse}
use Rattle.amqp_performatives.specs.declared.bodies.Role.TheVariants.{Sender, Receiver}
use Rattle.amqp_rules.specs.declared.config.Config.{Config}
use Rattle.amqp_events.specs.Named.{ids_of, ids_begun, less}
use Rattle.amqp_events.proofs.Left.{sent-left-over, heard-left-over}
use Rattle.amqp_laws.specs.declared.entry.Entry.{Entry}
use Rattle.amqp_laws.specs.Past.{past}
use Rattle.amqp_laws.specs.Live.{live}
use Rattle.amqp_laws.specs.At.{sent_events, received_events}
use Rattle.amqp_laws.specs.Lawful.{IsReplayed}
use Rattle.amqp_laws.specs.DeliveryLaws.{AreLeft, named, only}
use Rattle.amqp_laws.proofs.SentOrder.{sent-so}
use Rattle.amqp_laws.proofs.HeardOrder.{heard-so}
use Rattle.amqp_laws.proofs.Shown.{items-held, sent-events_many, received-events_many, live-few}
use Rattle.amqp_laws.proofs.Twice.{names_in, names-so, names-named}

pub are_left : (c : Config) (journal : List Entry) → IsReplayed c (past journal) → length journal ≤ 2 ^ 30 → AreLeft c journal
are_left c journal h few =
    let p = past journal in
    let names = names-so c p h in
    let s = sent-so c p h in
    let r = heard-so c p h in
    let short = live-few p in
    let same_length = length-reverse journal in
    let few_sent : length (sent_events c (live p)) ≤ 2 ^ 30 = let m = sent-events_many c (live p) in omega (arith, m, short, same_length, few) in
    let few_received : length (received_events c (live p)) ≤ 2 ^ 30 = let m = received-events_many c (live p) in omega (arith, m, short, same_length, few) in
    let is : names_in p ≡ named journal = sym (names-named p) ∙ ap named (reverse-reverse journal) in
    record {
      sent =
          ap ids_of (items-held (sent_events c (live p))) ∙ sent-left-over c.first_id (sent_events c (live p)) s.order few_sent
          ∙ ap (λ ids. less (ids_begun (sent_events c (live p))) ids) (sym names.sent ∙ ap (only Sender) is);
      received =
          heard-left-over (received_events c (live p)) r.order few_received
          ∙ ap (λ ids. less (ids_begun (received_events c (live p))) ids) (sym names.received ∙ ap (only Receiver) is);
    }
