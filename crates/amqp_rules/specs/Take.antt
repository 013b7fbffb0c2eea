-- Take: the first delivery that waits on a link on which we receive is given. Nothing is sent.
use Rattle.std.specs.Prelude.{ℕ, ◌+◌, not, Option, Some, None, Result, Ok, Err, List, [], ◌∷◌, find, drop}
use Rattle.amqp_performatives.specs.declared.bodies.Role.TheVariants.{Receiver}
use Rattle.amqp_rules.specs.declared.reply.Reply.{Reply}
use Rattle.amqp_rules.specs.declared.reply.Taken.{Taken}
use Rattle.amqp_rules.specs.declared.reply.Given.{Given}
use Rattle.amqp_rules.specs.declared.reply.Given.TheVariants as given
use Rattle.amqp_rules.specs.declared.refusal.Refusal.{Refusal}
use Rattle.amqp_rules.specs.declared.refusal.Refusal.TheVariants.{NoLink, WrongRole, Nothing}
use Rattle.amqp_rules.specs.View.{View, LinkView, has_number, same_role, change_first}
use Rattle.amqp_events.specs.Joined.{Delivery}
use Rattle.amqp_rules.specs.Refusing.{if_there, unless}

abbrev pub taken_of : ℕ → Delivery → Taken
taken_of link d =
    record { id = d.id; link = link; tag = d.tag; format = d.format; payload = d.payload; settled = d.settled; second = d.second }

abbrev pub take_reply : ℕ → Delivery → Reply
take_reply link d = record { sent = []; ended = []; given = given.Taken (taken_of link d) }

-- the first that waits
abbrev pub take_first : ℕ → List Delivery → Result Reply Refusal
take_first link [] = Err Nothing
take_first link (d ∷ ds) = Ok (take_reply link d)

-- also of a link that we are leaving
abbrev pub take_answer : View → ℕ → Result Reply Refusal
take_answer v link =
    if_there (find (has_number link) v.links) NoLink (λ l. unless (not (same_role Receiver l.role)) WrongRole (take_first l.number l.ready))

abbrev pub taken_from : LinkView → LinkView
taken_from l = record l { ready = drop 1 l.ready }

abbrev pub next_take : View → ℕ → View
next_take v link = record v { steps = v.steps + 1; links = change_first (has_number link) taken_from v.links }

-- the delivery that is given, where one is
abbrev pub taken_in : Given → Option Taken
taken_in (given.Taken t) = Some t
taken_in _ = None
