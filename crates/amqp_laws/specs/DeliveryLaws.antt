-- The laws of deliveries along a journal.
use Rattle.std.specs.Prelude.{ℕ, ◌≡◌, ◌≢◌, cond, List, [], ◌∷◌, AllPairs, IfSome, map, filter_map, EachIndex, slice_get, Some, ◌+◌}
use Rattle.std.specs.List.{flat_map}
use Rattle.amqp_performatives.specs.declared.bodies.Role.{Role}
use Rattle.amqp_performatives.specs.declared.bodies.Role.TheVariants.{Sender, Receiver}
use Rattle.amqp_events.specs.Named.{ids_of, ids_begun, less}
use Rattle.amqp_events.specs.Laws.{AreInOrder, IsPast}
use Rattle.amqp_events.specs.Tags.{AreApart}
use Rattle.amqp_flow.specs.Serial.{wire}
use Rattle.amqp_rules.specs.declared.reply.Reply.{Reply}
use Rattle.amqp_laws.specs.Said.{transfer_in}
use Rattle.amqp_rules.specs.declared.config.Config.{Config}
use Rattle.amqp_rules.specs.View.{View, next_delivery, same_role}
use Rattle.amqp_laws.specs.declared.entry.Entry.{Entry}
use Rattle.amqp_laws.specs.Past.{past}
use Rattle.amqp_laws.specs.At.{at, sent_events, received_events}
use Rattle.amqp_laws.specs.Live.{live}

-- the unsettled deliveries stand in the order of their serial numbers, before the next one, and their tags on a link differ
pub record AreKept (v : View) : Type 0 where
  pub sent_order : AreInOrder (map (λ s. s.item) v.sent)
  pub sent_past : IsPast (next_delivery v) (map (λ s. s.item) v.sent)
  pub sent_tags : AreApart (map (λ s. s.item) v.sent)
  pub received_order : AreInOrder v.received
  pub received_past : IfSome v.expected (λ id. IsPast id v.received)
  pub received_tags : AreApart v.received

-- all that the replies name as ended, in order
abbrev pub named : List Entry → List (Role × ℕ)
named journal = flat_map (λ e. e.reply.ended) journal

-- those of this role
abbrev pub only : Role → List (Role × ℕ) → List ℕ
only role [] = []
only role (p ∷ ps) = cond (same_role role p.0) (p.1 ∷ only role ps) (only role ps)

-- the unsettled deliveries are those that began unsettled, less those that the replies named as ended
pub record AreLeft (c : Config) (journal : List Entry) : Type 0 where
  pub sent : ids_of (map (λ s. s.item) (at c (past journal)).sent) ≡ less (ids_begun (sent_events c (live (past journal)))) (only Sender (named journal))
  pub received : ids_of (at c (past journal)).received ≡ less (ids_begun (received_events c (live (past journal)))) (only Receiver (named journal))

-- no delivery settles twice
abbrev pub NeverTwice : List Entry → Type 0
NeverTwice journal = AllPairs (λ i j. i ≢ j) (named journal)

-- the delivery-ids of the transfers that a reply sends: first transfers have one
abbrev pub ids_in : Reply → List ℕ
ids_in r = filter_map (λ b. b.delivery_id) (filter_map (λ s. transfer_in s.frame.body) r.sent)

abbrev pub sent_ids : List Entry → List ℕ
sent_ids journal = flat_map (λ e. ids_in e.reply) journal

-- the i-th first transfer sent carries the i-th serial number, counted from the first
abbrev pub SendsSerials : ℕ → List Entry → Type 0
SendsSerials first journal = EachIndex (sent_ids journal) (λ i. slice_get (sent_ids journal) i ≡ Some (wire (first + i)))
