-- A grant, as formulas over the whole past and as single changes.
use Rattle.std.proofs.Common.{◌≡◌, ℕ, ◌+◌, Bool, true, false, Some, Ok, List, [], ◌∷◌, refl}
use Rattle.amqp_performatives.specs.declared.bodies.FlowBody.{FlowBody}
use Rattle.amqp_performatives.specs.declared.bodies.Role.{Role}
use Rattle.amqp_performatives.specs.declared.bodies.Role.TheVariants.{Sender, Receiver}
use Rattle.amqp_performatives.specs.declared.performative.Performative.TheVariants.{Flow}
use Rattle.amqp_rules.specs.declared.op.Op.TheVariants.{Grant}
use Rattle.amqp_rules.specs.declared.reply.Reply.{Reply}
use Rattle.amqp_rules.specs.declared.reply.Given.TheVariants.{Nothing}
use Rattle.amqp_rules.specs.declared.config.Config.{Config}
use Rattle.amqp_rules.specs.View.{has_number, same_role}
use Rattle.amqp_rules.specs.Sending.{reply_of, sends}
use Rattle.amqp_rules.specs.Grant.{grant_answer, grant_body, grant_flow, grant_refusals, granted_on, next_grant}
use Rattle.amqp_laws.specs.declared.entry.Entry.{Entry}
use Rattle.amqp_laws.specs.declared.entry.Step.TheVariants.{Own}
use Rattle.amqp_laws.specs.Receiving.{passed}
use Rattle.amqp_laws.specs.Links.{link_at, link_pasts, is_gone, put, is_there_with}
use Rattle.amqp_laws.specs.Windows.{heard_transfers}
use Rattle.amqp_laws.specs.At.{seen, sent_events}
use Rattle.amqp_rules.proofs.Accepted.{sends-ok, on-link-ok, not-false}
use Rattle.amqp_rules.proofs.Listed.{length-changed}
use Rattle.amqp_laws.proofs.Found.{some-left}
use Rattle.amqp_laws.proofs.Joining.{Changes}
use Rattle.amqp_laws.proofs.Beside.{told-changed, told-role}
use Rattle.amqp_laws.proofs.TableLaw.{table-law}
use Rattle.amqp_events.specs.Laws.{AreLearnt}
use Rattle.amqp_events.specs.Event.{Nothing as No_event}

-- a grant on the link, with a flow in reply
abbrev pub grant_entry : ℕ → ℕ → Bool → Bool → FlowBody → Entry
grant_entry link credit drain echo b = record { step = Own (Grant link credit drain echo); reply = reply_of (Some (Flow b)) [] Nothing }

grant-changes : (link credit : ℕ) (drain echo : Bool) (b : FlowBody) (number : ℕ) (role : Role) (name : List ℕ) (past : List Entry)
    → is_gone (record { number = number; role = role; name = name; past = past }) ≡ false
    → same_role Receiver role ≡ true
    → Changes (put (grant_entry link credit drain echo b)) (granted_on credit drain) (record { number = number; role = role; name = name; past = past })
grant-changes link credit drain echo b number Sender name past there h = absurd (cc)
grant-changes link credit drain echo b number Receiver name past there h = record { stays = there; changed = rw (some-left (passed past) credit) refl }

pub grant-law : (c : Config) (n : ℕ) (past : List Entry) (link credit : ℕ) (drain echo : Bool) (reply : Reply)
    → AreLearnt (sent_events c past)
    → grant_answer (seen c n past) link credit drain echo ≡ Ok reply
    → seen c (n + 1) (record { step = Own (Grant link credit drain echo); reply = reply } ∷ past) ≡ next_grant (seen c n past) link credit drain
grant-law c n past link credit drain echo reply learnt h =
    let v = seen c n past in
    let o = on-link-ok v link (λ l. sends v.max_frame (grant_refusals l credit) (grant_body v.windows (granted_on credit drain l) drain echo) [] Nothing) reply h in
    let s = sends-ok v.max_frame (grant_refusals o.on credit) (grant_body v.windows (granted_on credit drain o.on) drain echo) [] Nothing reply o.said in
    let role = not-false (same_role Receiver o.on.role) s.none_holds.1.0 in
    let e = grant_entry link credit drain echo (grant_flow v.windows (granted_on credit drain o.on) drain echo) in
    let links = told-changed c past No_event (has_number link) (put e) (granted_on credit drain) o.on learnt tt (λ l. refl) (λ l. refl) o.found
    (λ l there whole. grant-changes link credit drain echo (grant_flow v.windows (granted_on credit drain o.on) drain echo) l.number l.role l.name l.past there (told-role Receiver (sent_events c past) (link_at l) o.on whole role)) in
    let tables = table-law c n (n + 1) past e tt in
    rw (← s.replies, links, length-changed (is_there_with (has_number link)) (put e) (link_pasts past), some-left (heard_transfers past) c.window, tables.sends, tables.receives, tables.expects) refl
