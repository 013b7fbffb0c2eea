-- A transfer that is heard, over a link's own past and as a single change of the link.
use Rattle.std.specs.List.{cons_option}
use Rattle.amqp_laws.proofs.BroughtLaw.{one-named}
use Rattle.amqp_laws.specs.Attaches.{our_attach, peer_attach}
use Rattle.amqp_laws.specs.Brought.{still_waits, tag_brought, tags_named, as_met, items_brought}
use Rattle.amqp_waiting.specs.Waiting.{WaitingItem, without, unclear}
use Rattle.amqp_rules.specs.Deliveries.{transferred}
use Rattle.std.proofs.Common.{◌≡◌, ◌≤◌, ℕ, ◌+◌, ◌-◌, Bool, false, cond, Option, Some, None, is_none, List, [], ◌∷◌, length, arith, refl, true, map, filter, unwrap_or}
use Rattle.amqp_flow.specs.Serial.{wire}
use Rattle.amqp_flow.specs.Credit.{CreditView}
use Rattle.amqp_performatives.specs.declared.bodies.TransferBody.{TransferBody}
use Rattle.amqp_performatives.specs.declared.bodies.Role.{Role}
use Rattle.amqp_performatives.specs.declared.bodies.Role.TheVariants.{Receiver}
use Rattle.amqp_performatives.specs.declared.performative.Performative.TheVariants.{Transfer}
use Rattle.amqp_rules.specs.declared.reply.Reply.{Reply}
use Rattle.amqp_rules.specs.declared.reply.Given.{Given}
use Rattle.amqp_rules.specs.PeerTransfer.{received_on as link_heard, credit_used, waiting_after}
use Rattle.amqp_events.specs.Joined.{Delivery, unfinished, complete}
use Rattle.amqp_laws.specs.declared.entry.Entry.{Entry}
use Rattle.amqp_laws.specs.declared.entry.Step.TheVariants.{Heard}
use Rattle.amqp_laws.specs.Past.{more, some_entry}
use Rattle.amqp_laws.specs.Said.{detaches}
use Rattle.amqp_laws.specs.Receiving.{limit, passed, first_count, asks_drain}
use Rattle.amqp_laws.specs.Transfers.{heard_on, receiving, taken, mode_by}
use Rattle.amqp_laws.specs.Links.{link_at}
use Rattle.amqp_laws.proofs.LinkDeliveries.{transfer-receiving, transfer-ready}
use Rattle.amqp_laws.proofs.StartWhole.{left-sum}

abbrev transfer_entry : ℕ → TransferBody → List ℕ → List (Role × ℕ) → Given → Entry
transfer_entry channel b payload ended given =
    record { step = Heard (record { channel = channel; body = Some (Transfer b); payload = payload }); reply = record { sent = []; ended = ended; given = given } }

wire-sum : (n j : ℕ) → wire (n + j) ≡ wire (wire n + j)
wire-sum n j = omega arith

-- only a first transfer uses a credit
credit-at : (past : List Entry) (d : Option Delivery) (first limit passed : ℕ) (drain : Bool)
    → ◌≡◌ {A = CreditView} (record {
      first_count = wire first;
      passed = wire (more (more (cond (is_none d) 1 0) 0) passed);
      credit = limit - more (more (cond (is_none d) 1 0) 0) passed;
      drain = drain;
    })
    (credit_used d (record { first_count = wire first; passed = wire passed; credit = limit - passed; drain = drain }))
credit-at past None first limit passed drain = rw (wire-sum passed 1, left-sum limit passed 1) refl
credit-at past (Some d) first limit passed drain = refl

waits-by : (resumed : Bool) (tag : List ℕ) (tags : List (List ℕ)) (ws : List WaitingItem)
    → filter (still_waits (cons_option (cond resumed (Some tag) None) tags)) ws ≡ cond resumed (without tag (filter (still_waits tags) ws)) (filter (still_waits tags) ws)
waits-by true tag tags ws = one-named tag tags ws
waits-by false tag tags ws = refl

-- a first transfer that brings a delivery in names its tag
transfer-waits : (mode : ℕ) (b : TransferBody) (payload : List ℕ) (o : Option Delivery) (tags : List (List ℕ)) (ws : List WaitingItem)
    → filter (still_waits (cons_option (cond (is_none o) (tag_brought (Some b)) None) tags)) ws ≡ waiting_after (transferred mode b payload) o (filter (still_waits tags) ws)
transfer-waits mode b payload None tags ws = waits-by (unwrap_or b.resume false) (unwrap_or b.delivery_tag []) tags ws
transfer-waits mode b payload (Some d) tags ws = refl

pub transfer-changed : (channel : ℕ) (b : TransferBody) (payload : List ℕ) (ended : List (Role × ℕ)) (given : Given) (number : ℕ) (name : List ℕ) (past : List Entry)
    → some_entry detaches past ≡ false
    → taken past ≤ length (complete (heard_on past))
    → link_at (record { number = number; role = Receiver; name = name; past = transfer_entry channel b payload ended given ∷ past })
    ≡ link_heard b payload (link_at (record { number = number; role = Receiver; name = name; past = past }))
transfer-changed channel b payload ended given number name past stays few =
    let reply : Reply = record { sent = []; ended = ended; given = given } in
    let here : receiving past ≡ unfinished (heard_on past) = rw stays refl in
    rw (
      transfer-receiving channel b payload reply past stays,
      transfer-ready channel b payload reply past stays few,
      stays,
      credit-at past (unfinished (heard_on past)) (first_count past) (limit past) (passed past) (asks_drain past),
      transfer-waits (mode_by (our_attach past)) b payload (unfinished (heard_on past)) (tags_named past) (as_met Receiver (our_attach past) (peer_attach past) (map unclear (items_brought past))),
    )
    refl
