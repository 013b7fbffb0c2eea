-- A link that is put aside, as formulas over the whole past and as single changes: as by a detach of ours.
use Rattle.std.proofs.Common.{◌≡◌, ℕ, ◌+◌, false, Some, None, Ok, List, [], ◌∷◌, refl}
use Rattle.amqp_performatives.specs.declared.bodies.Role.{Role}
use Rattle.amqp_performatives.specs.declared.bodies.Role.TheVariants.{Sender, Receiver}
use Rattle.amqp_rules.specs.declared.op.Op.TheVariants.{Suspend}
use Rattle.amqp_rules.specs.declared.reply.Reply.{Reply}
use Rattle.amqp_rules.specs.declared.reply.Suspended.{Suspended}
use Rattle.amqp_rules.specs.declared.reply.Given.TheVariants as given
use Rattle.amqp_rules.specs.declared.config.Config.{Config}
use Rattle.amqp_rules.specs.View.{handle_of, has_number}
use Rattle.amqp_rules.specs.Sending.{reply_ending, sends_ending}
use Rattle.amqp_rules.specs.Detach.{detach_body, detach_refusals, left_by_us}
use Rattle.amqp_rules.specs.Suspend.{put_aside, suspend_answer, next_suspend}
use Rattle.amqp_laws.specs.declared.entry.Entry.{Entry}
use Rattle.amqp_laws.specs.declared.entry.Step.TheVariants.{Own}
use Rattle.amqp_laws.specs.Links.{link_pasts, is_gone, put, is_there_with}
use Rattle.amqp_laws.specs.At.{seen, sent_events}
use Rattle.amqp_rules.proofs.Accepted.{sends-ending-ok, on-link-ok}
use Rattle.amqp_rules.proofs.Listed.{length-changed}
use Rattle.amqp_laws.proofs.Joining.{Changes}
use Rattle.amqp_laws.proofs.Beside.{told-changed}
use Rattle.amqp_laws.proofs.TableLaw.{table-law}
use Rattle.amqp_events.specs.Event.{Leaves}
use Rattle.amqp_events.specs.Laws.{AreLearnt}
use Rattle.amqp_rules.specs.Deliveries.{ended_by}

abbrev pub suspend_entry : ℕ → ℕ → List (Role × ℕ) → Suspended → Entry
suspend_entry link handle ended aside = record { step = Own (Suspend link); reply = reply_ending (detach_body handle None None) [] ended (given.Suspended aside) }

suspend-changes : (link handle : ℕ) (ended : List (Role × ℕ)) (aside : Suspended) (number : ℕ) (role : Role) (name : List ℕ) (past : List Entry)
    → is_gone (record { number = number; role = role; name = name; past = past }) ≡ false
    → Changes (put (suspend_entry link handle ended aside)) left_by_us (record { number = number; role = role; name = name; past = past })
suspend-changes link handle ended aside number Sender name past there = record { stays = there; changed = refl }
suspend-changes link handle ended aside number Receiver name past there = record { stays = there; changed = refl }

pub suspend-law : (c : Config) (n : ℕ) (past : List Entry) (link : ℕ) (reply : Reply)
    → AreLearnt (sent_events c past)
    → suspend_answer (seen c n past) link ≡ Ok reply
    → seen c (n + 1) (record { step = Own (Suspend link); reply = reply } ∷ past) ≡ next_suspend (seen c n past) link
suspend-law c n past link reply learnt h =
    let v = seen c n past in
    let ended = ended_by (Leaves link) (Leaves link) v in
    let o = on-link-ok v link (λ l. sends_ending v.max_frame (detach_refusals l) (detach_body (handle_of l.ours) None None) ended (given.Suspended (put_aside v l))) reply h in
    let aside = put_aside v o.on in
    let s = sends-ending-ok v.max_frame (detach_refusals o.on) (detach_body (handle_of o.on.ours) None None) ended (given.Suspended aside) reply o.said in
    let e = suspend_entry link (handle_of o.on.ours) ended aside in
    let links = told-changed c past (Leaves link) (has_number link) (put e) left_by_us o.on learnt tt (λ l. refl) (λ l. refl) o.found
    (λ l there whole. suspend-changes link (handle_of o.on.ours) ended aside l.number l.role l.name l.past there) in
    let tables = table-law c n (n + 1) past e tt in
    rw (← s.replies, links, length-changed (is_there_with (has_number link)) (put e) (link_pasts past), tables.sends, tables.receives, tables.expects) refl
