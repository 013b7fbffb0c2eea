-- A take, as formulas over the whole past and as single changes.
use Rattle.std.proofs.Common.{◌≡◌, ℕ, ◌+◌, not, false, Ok, List, [], ◌∷◌, refl, find}
use Rattle.amqp_performatives.specs.declared.bodies.Role.{Role}
use Rattle.amqp_performatives.specs.declared.bodies.Role.TheVariants.{Sender, Receiver}
use Rattle.amqp_rules.specs.declared.op.Op.TheVariants.{Take}
use Rattle.amqp_rules.specs.declared.reply.Reply.{Reply}
use Rattle.amqp_rules.specs.declared.refusal.Refusal.TheVariants.{NoLink, WrongRole}
use Rattle.amqp_rules.specs.declared.config.Config.{Config}
use Rattle.amqp_rules.specs.View.{has_number, same_role}
use Rattle.amqp_rules.specs.Refusing.{unless}
use Rattle.amqp_rules.specs.Take.{next_take, take_answer, take_first, take_reply, taken_from}
use Rattle.amqp_laws.specs.declared.entry.Entry.{Entry}
use Rattle.amqp_laws.specs.declared.entry.Step.TheVariants.{Own}
use Rattle.amqp_events.specs.Joined.{Delivery}
use Rattle.amqp_laws.proofs.LinkDeliveries.{take-ready}
use Rattle.amqp_laws.specs.Links.{link_pasts, is_gone, put, is_there_with}
use Rattle.amqp_laws.specs.At.{seen, sent_events}
use Rattle.amqp_rules.proofs.Accepted.{there_Ok, unless_Ok}
use Rattle.amqp_rules.proofs.Listed.{length-changed}
use Rattle.amqp_laws.proofs.Joining.{Changes}
use Rattle.amqp_laws.proofs.Beside.{told-changed}
use Rattle.amqp_laws.proofs.TableLaw.{table-law}
use Rattle.amqp_events.specs.Laws.{AreLearnt}
use Rattle.amqp_events.specs.Event.{Nothing as No_event}

abbrev pub take_entry : ℕ → ℕ → Delivery → Entry
take_entry link k d = record { step = Own (Take link); reply = take_reply k d }

take-changes : (link k : ℕ) (d : Delivery) (number : ℕ) (role : Role) (name : List ℕ) (past : List Entry)
    → is_gone (record { number = number; role = role; name = name; past = past }) ≡ false
    → Changes (put (take_entry link k d)) taken_from (record { number = number; role = role; name = name; past = past })
take-changes link k d number Sender name past there = record { stays = there; changed = rw (take-ready link (take_reply k d) past) refl }
take-changes link k d number Receiver name past there = record { stays = there; changed = rw (take-ready link (take_reply k d) past) refl }

-- what a take gives, where it gives something
pub record Takes (link : ℕ) (ds : List Delivery) (reply : Reply) : Type 0 where
  pub first : Delivery
  pub rest : List Delivery
  pub waits : ds ≡ first ∷ rest
  pub replies : take_reply link first ≡ reply

pub take-ok : (link : ℕ) (ds : List Delivery) (reply : Reply) → take_first link ds ≡ Ok reply → Takes link ds reply
take-ok link [] reply h = absurd (cc)
take-ok link (d ∷ ds) reply h = record { first = d; rest = ds; waits = refl; replies = cc }

pub take-law : (c : Config) (n : ℕ) (past : List Entry) (link : ℕ) (reply : Reply)
    → AreLearnt (sent_events c past)
    → take_answer (seen c n past) link ≡ Ok reply
    → seen c (n + 1) (record { step = Own (Take link); reply = reply } ∷ past) ≡ next_take (seen c n past) link
take-law c n past link reply learnt h =
    let v = seen c n past in
    let t = there_Ok (find (has_number link) v.links) NoLink (λ l. unless (not (same_role Receiver l.role)) WrongRole (take_first l.number l.ready)) reply h in
    let u = unless_Ok (not (same_role Receiver t.on.role)) WrongRole (take_first t.on.number t.on.ready) reply t.said in
    let g = take-ok t.on.number t.on.ready reply u.1 in
    let e = take_entry link t.on.number g.first in
    let links = told-changed c past No_event (has_number link) (put e) taken_from t.on learnt tt (λ l. refl) (λ l. refl) t.found
    (λ l there whole. take-changes link t.on.number g.first l.number l.role l.name l.past there) in
    let tables = table-law c n (n + 1) past e tt in
    rw (← g.replies, links, length-changed (is_there_with (has_number link)) (put e) (link_pasts past), tables.sends, tables.receives, tables.expects) refl
