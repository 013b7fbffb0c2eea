-- What an entry of a world answers: the reply that is due, to a step that brings nothing in.
use Rattle.std.proofs.Common.{◌≡◌, ◌==◌, ◌||◌, ℕ, Bool, true, false, not, cond, Option, Some, None, Ok, List, [], refl, find}
use Rattle.amqp_events.specs.Event.{Begins, Event, Item, Nothing as No_event}
use Rattle.amqp_waiting.specs.Waiting.{WaitingItem, waits_as}
use Rattle.amqp_rules.specs.declared.op.Op.{Op}
use Rattle.amqp_rules.specs.declared.op.Op.TheVariants.{Begin, Attach, Start, Carry, Abort, Dispose, Learn, Grant, Offer, Drained, Refresh, Take, Detach, Suspend, Rejoin, Resume, End, Beat}
use Rattle.amqp_rules.specs.declared.reply.Reply.{Reply}
use Rattle.amqp_rules.specs.declared.config.Config.{Config}
use Rattle.amqp_rules.specs.View.{LinkView, View, rcv_mode}
use Rattle.amqp_rules.specs.Deliveries.{is_partial, is_sent_anew, resumed_as, resumed_on}
use Rattle.amqp_rules.specs.Answer.{own_answer, heard_answer}
use Rattle.amqp_rules.specs.Opened.{no_reply}
use Rattle.amqp_rules.specs.Attach.{Wanted}
use Rattle.amqp_laws.specs.declared.entry.Entry.{Entry}
use Rattle.amqp_laws.specs.declared.entry.Step.{Step}
use Rattle.amqp_laws.specs.declared.entry.Step.TheVariants.{Opened, Own, Heard}
use Rattle.amqp_laws.specs.Said.{is_start, own_in, starts}
use Rattle.amqp_laws.specs.At.{at}
use Rattle.amqp_laws.specs.Lawful as lawful
use Rattle.amqp_pair_laws.specs.Premise.{IsPlain}
use Rattle.amqp_pair_laws.specs.World.{IsFair}

-- what an Attach asks for
abbrev pub bare : Wanted → Wanted
bare a = record a { items = [] }

-- an operation that brings nothing in has the reply that is due
abbrev pub OwnAnswers : View → Op → Reply → Type 0
OwnAnswers v (Rejoin r) reply = ⊥
OwnAnswers v (Resume link tag settled) reply = ⊥
OwnAnswers v op reply = own_answer v op ≡ Ok reply

abbrev pub Answers : View → Step → Reply → Type 0
Answers v (Opened told) reply = no_reply ≡ reply
Answers v (Own op) reply = OwnAnswers v op reply
Answers v (Heard frame) reply = heard_answer v frame ≡ Ok reply

own-plain : (v : View) (op : Op) (reply : Reply) → IsPlain (Own op) → own_answer v op ≡ Ok reply → OwnAnswers v op reply
own-plain v Begin reply p h = h
own-plain v (Attach name role snd rcv source target count max_message) reply p h = h
own-plain v (Start link tag format settled payload more) reply p h = h
own-plain v (Carry link payload more) reply p h = h
own-plain v (Abort link) reply p h = h
own-plain v (Dispose role first last settled state) reply p h = h
own-plain v (Learn link) reply p h = h
own-plain v (Grant link credit drain echo) reply p h = h
own-plain v (Offer link available) reply p h = h
own-plain v (Drained link) reply p h = h
own-plain v (Refresh echo) reply p h = h
own-plain v (Take link) reply p h = h
own-plain v (Detach link error) reply p h = h
own-plain v (Suspend link) reply p h = h
own-plain v (Rejoin r) reply p h = absurd p
own-plain v (Resume link tag settled) reply p h = absurd p
own-plain v (End error) reply p h = h
own-plain v Beat reply p h = h

plain : (v : View) (step : Step) (reply : Reply) → IsPlain step → lawful.Answers v step reply → Answers v step reply
plain v (Opened told) reply p h = h
plain v (Own op) reply p h = own-plain v op reply p h
plain v (Heard f) reply p h = h

-- what an entry of a world answers
pub due : {c : Config} {e : Entry} {before : List Entry} → IsFair c e before → Answers (at c before) e.step e.reply
due {c} {e} {before} fair = plain (at c before) e.step e.reply fair.plain fair.answers

own-due : (v : View) (op : Op) (reply : Reply) → OwnAnswers v op reply → own_answer v op ≡ Ok reply
own-due v Begin reply h = h
own-due v (Attach name role snd rcv source target count max_message) reply h = h
own-due v (Start link tag format settled payload more) reply h = h
own-due v (Carry link payload more) reply h = h
own-due v (Abort link) reply h = h
own-due v (Dispose role first last settled state) reply h = h
own-due v (Learn link) reply h = h
own-due v (Grant link credit drain echo) reply h = h
own-due v (Offer link available) reply h = h
own-due v (Drained link) reply h = h
own-due v (Refresh echo) reply h = h
own-due v (Take link) reply h = h
own-due v (Detach link error) reply h = h
own-due v (Suspend link) reply h = h
own-due v (Rejoin r) reply h = absurd h
own-due v (Resume link tag settled) reply h = absurd h
own-due v (End error) reply h = h
own-due v Beat reply h = h

-- it is the reply that is due
pub is-due : (v : View) (step : Step) (reply : Reply) → Answers v step reply → lawful.Answers v step reply
is-due v (Opened told) reply h = h
is-due v (Own op) reply h = own-due v op reply h
is-due v (Heard f) reply h = h

-- # What begins a delivery: a start alone

own-starts : (v : View) (op : Op) (reply : Reply) → OwnAnswers v op reply → starts (record { step = Own op; reply = reply }) ≡ is_start (Some op)
own-starts v Begin reply h = refl
own-starts v (Attach name role snd rcv source target count max_message) reply h = refl
own-starts v (Start link tag format settled payload more) reply h = refl
own-starts v (Carry link payload more) reply h = refl
own-starts v (Abort link) reply h = refl
own-starts v (Dispose role first last settled state) reply h = refl
own-starts v (Learn link) reply h = refl
own-starts v (Grant link credit drain echo) reply h = refl
own-starts v (Offer link available) reply h = refl
own-starts v (Drained link) reply h = refl
own-starts v (Refresh echo) reply h = refl
own-starts v (Take link) reply h = refl
own-starts v (Detach link error) reply h = refl
own-starts v (Suspend link) reply h = refl
own-starts v (Rejoin r) reply h = absurd h
own-starts v (Resume link tag settled) reply h = absurd h
own-starts v (End error) reply h = refl
own-starts v Beat reply h = refl

pub starts-alone : (v : View) (step : Step) (reply : Reply) → Answers v step reply → starts (record { step = step; reply = reply }) ≡ is_start (own_in step)
starts-alone v (Opened told) reply h = refl
starts-alone v (Own op) reply h = own-starts v op reply h
starts-alone v (Heard f) reply h = refl

either-false : (a b : Bool) → a || b ≡ false → a ≡ false
either-false true b h = absurd (cc (h))
either-false false b h = refl

-- what begins none is no start
pub no-start : (e : Entry) → starts e ≡ false → is_start (own_in e.step) ≡ false
no-start e h = either-false (is_start (own_in e.step)) _ h

-- and a start begins one
pub start-starts : (e : Entry) → is_start (own_in e.step) ≡ true → starts e ≡ true
start-starts e h = rw h refl

-- # The event of a Resume

-- what is so of none, and of one that begins
pub of-resumed : (P : Event → Type 0) → P No_event → ((i : Item) (unsettled : Bool) → P (Begins i unsettled)) → (id k : ℕ) (tag : List ℕ) (settled : Bool) (o : Option LinkView) → P (resumed_on id k tag settled o)
of-resumed P none begins id k tag settled None = none
of-resumed P none begins id k tag settled (Some l) = of (find (waits_as tag) l.waiting)
  where
    of : (o : Option WaitingItem) → P (resumed_as id k settled l o)
    of None = none
    of (Some w) = by (is_sent_anew w)
      where
        by : (anew : Bool) → P (cond anew (Begins (record { id = id; link = k; tag = w.tag; second = rcv_mode l == 1; local = w.state; remote = w.theirs }) (not (settled || is_partial w))) No_event)
        by true = begins _ _
        by false = none
