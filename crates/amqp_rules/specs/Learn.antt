-- Learn: the first thing that was told of a delivery on a link on which we send is given. Nothing is sent.
use Rattle.std.specs.Prelude.{ℕ, ◌+◌, not, Result, Ok, Err, List, [], ◌∷◌, find, drop}
use Rattle.amqp_performatives.specs.declared.bodies.Role.TheVariants.{Sender}
use Rattle.amqp_events.specs.Told.{Telling}
use Rattle.amqp_rules.specs.declared.reply.Reply.{Reply}
use Rattle.amqp_rules.specs.declared.reply.Learned.{Learned}
use Rattle.amqp_rules.specs.declared.reply.Given.TheVariants as given
use Rattle.amqp_rules.specs.declared.refusal.Refusal.{Refusal}
use Rattle.amqp_rules.specs.declared.refusal.Refusal.TheVariants.{NoLink, WrongRole, Nothing}
use Rattle.amqp_rules.specs.View.{View, LinkView, has_number, same_role, change_first}
use Rattle.amqp_rules.specs.Refusing.{if_there, unless}

abbrev pub learned_of : Telling → Learned
learned_of t = record { id = t.id; link = t.link; tag = t.tag; state = t.state; settled = t.by.settled }

abbrev pub learn_reply : Telling → Reply
learn_reply t = record { sent = []; ended = []; given = given.Learned (learned_of t) }

-- the first that was told
abbrev pub learn_first : List Telling → Result Reply Refusal
learn_first [] = Err Nothing
learn_first (t ∷ ts) = Ok (learn_reply t)

-- also of a link that we are leaving
abbrev pub learn_answer : View → ℕ → Result Reply Refusal
learn_answer v link =
    if_there (find (has_number link) v.links) NoLink (λ l. unless (not (same_role Sender l.role)) WrongRole (learn_first l.told))

abbrev pub learnt_from : LinkView → LinkView
learnt_from l = record l { told = drop 1 l.told }

abbrev pub next_learn : View → ℕ → View
next_learn v link = record v { steps = v.steps + 1; links = change_first (has_number link) learnt_from v.links }
