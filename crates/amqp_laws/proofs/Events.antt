-- What an entry does to deliveries, read from the links alone and from the whole view.
use Rattle.std.proofs.Common.{◌≡◌, ℕ, Bool, true, false, cond, Option, None, Some, List, [], ◌∷◌, map, option_map, find, refl}
use Rattle.amqp_performatives.specs.declared.bodies.TransferBody.{TransferBody}
use Rattle.amqp_performatives.specs.declared.performative.Performative.{Performative}
use Rattle.amqp_performatives.specs.declared.performative.Performative.TheVariants as heard
use Rattle.amqp_rules.specs.declared.op.Op.{Op}
use Rattle.amqp_rules.specs.declared.op.Op.TheVariants.{Start, Carry, Abort, Resume}
use Rattle.amqp_rules.specs.declared.config.Config.{Config}
use Rattle.amqp_rules.specs.View.{LinkView, has_number, has_peer_handle, next_delivery}
use Rattle.amqp_rules.specs.Deliveries.{begun_on, sending_on, continued_on, left_by_peer, transfer_on, sent_by_own, sent_by_body, received_by_own, received_by_body, resumed_on}
use Rattle.amqp_events.specs.Event.{Event}
use Rattle.amqp_laws.specs.declared.entry.Entry.{Entry}
use Rattle.amqp_laws.specs.declared.entry.Step.{Step}
use Rattle.amqp_laws.specs.declared.entry.Step.TheVariants.{Opened, Own, Heard}
use Rattle.amqp_laws.specs.Session.{links_at}
use Rattle.amqp_laws.specs.At.{base, seen, with_told, sent_events, sent_by, received_by}

-- a look-up that does not read what was told
pub find-map : (test : LinkView → Bool) (f : LinkView → LinkView) → ((l : LinkView) → test (f l) ≡ test l) → (links : List LinkView)
    → find test (map f links) ≡ option_map f (find test links)
find-map test f same [] = refl
find-map test f same (l ∷ links) = rw (same l) (by_test (test l) (find-map test f same links))
  where
    by_test : (b : Bool) → find test (map f links) ≡ option_map f (find test links)
        → cond b (Some (f l)) (find test (map f links)) ≡ option_map f (cond b (Some l) (find test links))
    by_test true rest = refl
    by_test false rest = rest

pub numbered-told : (events : List Event) (k : ℕ) (links : List LinkView)
    → find (has_number k) (map (with_told events) links) ≡ option_map (with_told events) (find (has_number k) links)
numbered-told events k links = find-map (has_number k) (with_told events) (λ l. refl) links

pub called-told : (events : List Event) (h : ℕ) (links : List LinkView)
    → find (has_peer_handle h) (map (with_told events) links) ≡ option_map (with_told events) (find (has_peer_handle h) links)
called-told events h links = find-map (has_peer_handle h) (with_told events) (λ l. refl) links

begun-told : (events : List Event) (id k : ℕ) (tag : List ℕ) (settled : Bool) (o : Option LinkView)
    → begun_on id k tag settled (option_map (with_told events) o) ≡ begun_on id k tag settled o
begun-told events id k tag settled None = refl
begun-told events id k tag settled (Some l) = refl

continued-told : (events : List Event) (over : Bool) (o : Option LinkView)
    → continued_on over (sending_on (option_map (with_told events) o)) ≡ continued_on over (sending_on o)
continued-told events over None = refl
continued-told events over (Some l) = refl

left-told : (events : List Event) (o : Option LinkView) → left_by_peer (option_map (with_told events) o) ≡ left_by_peer o
left-told events None = refl
left-told events (Some l) = refl

transfer-told : (events : List Event) (b : TransferBody) (o : Option LinkView) → transfer_on b (option_map (with_told events) o) ≡ transfer_on b o
transfer-told events b None = refl
transfer-told events b (Some l) = refl

resumed-told : (events : List Event) (id k : ℕ) (tag : List ℕ) (settled : Bool) (o : Option LinkView) → resumed_on id k tag settled (option_map (with_told events) o) ≡ resumed_on id k tag settled o
resumed-told events id k tag settled None = refl
resumed-told events id k tag settled (Some l) = refl

own-sent : (c : Config) (n : ℕ) (past : List Entry) (op : Op) → sent_by_own (seen c n past) op ≡ sent_by_own (base c 0 past) op
own-sent c n past (Start link tag format settled payload more) =
    rw (numbered-told (sent_events c past) link (links_at past)) (begun-told (sent_events c past) (next_delivery (base c 0 past)) link tag settled (find (has_number link) (links_at past)))
own-sent c n past (Carry link payload more) =
    rw (numbered-told (sent_events c past) link (links_at past)) (continued-told (sent_events c past) false (find (has_number link) (links_at past)))
own-sent c n past (Abort link) =
    rw (numbered-told (sent_events c past) link (links_at past)) (continued-told (sent_events c past) true (find (has_number link) (links_at past)))
own-sent c n past (Resume link tag settled) =
    rw (numbered-told (sent_events c past) link (links_at past)) (resumed-told (sent_events c past) (next_delivery (base c 0 past)) link tag settled (find (has_number link) (links_at past)))
own-sent c n past _ = refl

body-sent : (c : Config) (n : ℕ) (past : List Entry) (body : Option Performative) → sent_by_body (seen c n past) body ≡ sent_by_body (base c 0 past) body
body-sent c n past (Some (heard.Detach b)) =
    rw (called-told (sent_events c past) b.handle (links_at past)) (left-told (sent_events c past) (find (has_peer_handle b.handle) (links_at past)))
body-sent c n past _ = refl

pub sent-same : (c : Config) (n : ℕ) (past : List Entry) (step : Step) → sent_by (seen c n past) step ≡ sent_by (base c 0 past) step
sent-same c n past (Opened told) = refl
sent-same c n past (Own op) = own-sent c n past op
sent-same c n past (Heard f) = body-sent c n past f.body

own-received : (c : Config) (n : ℕ) (past : List Entry) (op : Op) → received_by_own (seen c n past) op ≡ received_by_own (base c 0 past) op
own-received c n past _ = refl

body-received : (c : Config) (n : ℕ) (past : List Entry) (body : Option Performative) → received_by_body (seen c n past) body ≡ received_by_body (base c 0 past) body
body-received c n past (Some (heard.Transfer b)) =
    rw (called-told (sent_events c past) b.handle (links_at past)) (transfer-told (sent_events c past) b (find (has_peer_handle b.handle) (links_at past)))
body-received c n past (Some (heard.Detach b)) =
    rw (called-told (sent_events c past) b.handle (links_at past)) (left-told (sent_events c past) (find (has_peer_handle b.handle) (links_at past)))
body-received c n past _ = refl

pub received-same : (c : Config) (n : ℕ) (past : List Entry) (step : Step) → received_by (seen c n past) step ≡ received_by (base c 0 past) step
received-same c n past (Opened told) = refl
received-same c n past (Own op) = own-received c n past op
received-same c n past (Heard f) = body-received c n past f.body
