-- What passes from one application to the other: the deliveries that were sent complete on a link, and those that were taken on one.
use Rattle.std.specs.Prelude.{ℕ, ◌==◌, Bool, false, cond, Option, None, Some, List, [], ◌∷◌, ◌++◌, map, option_map}
use Rattle.amqp_events.specs.Joined.{Delivery, Transferred, complete}
use Rattle.amqp_rules.specs.declared.op.Op.{Op}
use Rattle.amqp_rules.specs.declared.op.Op.TheVariants.{Start, Carry, Abort}
use Rattle.amqp_rules.specs.declared.reply.Given.{Given}
use Rattle.amqp_rules.specs.declared.reply.Given.TheVariants as given
use Rattle.amqp_rules.specs.declared.reply.Taken.{Taken}
use Rattle.amqp_rules.specs.Deliveries.{transferred}
use Rattle.amqp_laws.specs.declared.entry.Entry.{Entry}
use Rattle.amqp_laws.specs.Past.{said_back}
use Rattle.amqp_laws.specs.Said.{own_in, transfer_sent}

-- what both ends see of a delivery (part 2, 2.7.5): all but which of them settles first
pub record Content : Type 0 where
  pub id : ℕ
  pub tag : List ℕ
  pub format : ℕ
  pub payload : List ℕ
  pub settled : Bool

abbrev pub content_of : Delivery → Content
content_of d = record { id = d.id; tag = d.tag; format = d.format; payload = d.payload; settled = d.settled }

-- # Sent

-- the operation sends a transfer on link k
abbrev pub names : ℕ → Option Op → Bool
names k (Some (Start link tag format settled payload more)) = link == k
names k (Some (Carry link payload more)) = link == k
names k (Some (Abort link)) = link == k
names k _ = false

abbrev pub sent_now : ℕ → Entry → Option Transferred
sent_now k e = cond (names k (own_in e.step)) (option_map (λ t. transferred 0 t.0 t.1) (transfer_sent e)) None

-- the transfers that were sent on link k, the newest first
abbrev pub sent_on : ℕ → List Entry → List Transferred
sent_on k past = said_back (λ e before. sent_now k e) past

-- the deliveries that were sent complete on it and not aborted, the oldest first
abbrev pub passed_on : ℕ → List Entry → List Content
passed_on k past = map content_of (complete (sent_on k past))

-- # Taken

abbrev pub content_in : Taken → Content
content_in t = record { id = t.id; tag = t.tag; format = t.format; payload = t.payload; settled = t.settled }

abbrev pub taken_in : ℕ → Given → List Content
taken_in k (given.Taken t) = cond (t.link == k) (content_in t ∷ []) []
taken_in k _ = []

-- what the application took on link k, the oldest first
abbrev pub taken_on : ℕ → List Entry → List Content
taken_on k [] = []
taken_on k (e ∷ before) = taken_on k before ++ taken_in k e.reply.given
