-- The incoming window is ours less the transfers heard since our last begin or flow.
use Rattle.std.proofs.Common.{◌≡◌, ℕ, ◌+◌, ◌-◌, ◌&&◌, Bool, true, false, not, cond, Option, Some, Result, Ok, List, [], ◌∷◌, arith, refl, sym, ap, find, is_some}
use Rattle.amqp_performatives.specs.declared.bodies.TransferBody.{TransferBody}
use Rattle.amqp_performatives.specs.declared.performative.Performative.{Performative}
use Rattle.amqp_performatives.specs.declared.performative.Performative.TheVariants as heard
use Rattle.amqp_frames.specs.declared.frame.Frame.{Frame}
use Rattle.amqp_rules.specs.declared.config.Config.{Config}
use Rattle.amqp_rules.specs.declared.reply.Reply.{Reply}
use Rattle.amqp_rules.specs.declared.violation.Violation.{Violation}
use Rattle.amqp_rules.specs.declared.violation.ViolationKind.TheVariants.{OutOfSession, BadHandle}
use Rattle.amqp_rules.specs.View.{LinkView, View, has_peer_handle, takes_frames}
use Rattle.amqp_rules.specs.Refusing.{answered, first_refusal, if_there, unlinked}
use Rattle.amqp_rules.specs.Opened.{no_reply}
use Rattle.amqp_rules.specs.Answer.{body_answer, is_dropped}
use Rattle.amqp_rules.specs.PeerTransfer.{transfer_reply, transfer_violations}
use Rattle.amqp_laws.specs.declared.entry.Entry.{Entry}
use Rattle.amqp_laws.specs.declared.entry.Step.{Step}
use Rattle.amqp_laws.specs.declared.entry.Step.TheVariants.{Opened, Own, Heard}
use Rattle.amqp_laws.specs.Past.{some_entry, total_since}
use Rattle.amqp_laws.specs.Said.{ends, has_windows, hears_no_end, sends_windows, transfer_in, transfers_heard}
use Rattle.amqp_laws.specs.Live.{live}
use Rattle.amqp_laws.specs.Windows.{heard_transfers, promise}
use Rattle.amqp_laws.specs.At.{at}
use Rattle.amqp_laws.specs.Lawful.{Answers, IsReplayed}
use Rattle.amqp_rules.proofs.Accepted.{answered_Ok, there_Ok, unless_Ok}
use Rattle.amqp_rules.proofs.Listed.{by-bool}
use Rattle.amqp_laws.proofs.Counting.{more-is}

-- how many transfers were heard before our last begin or flow
abbrev heard_then : List Entry → ℕ
heard_then [] = 0
heard_then (e ∷ before) = cond (sends_windows e) (heard_transfers before) (heard_then before)

-- what tells our window is no transfer that is heard
record TellsAlone (e : Entry) : Type 0 where
  alone : sends_windows e ≡ true → transfers_heard e ≡ 0

silent : (v : View) (b : TransferBody) (payload : List ℕ) (reply : Reply) → body_answer v (Some (heard.Transfer b)) payload ≡ Ok reply → has_windows reply.sent ≡ false
silent v b payload reply h =
    let say : LinkView → Result Reply Violation = λ l. answered (first_refusal (transfer_violations v b payload l)) (transfer_reply v b l) in
    let u = unless_Ok (not (takes_frames v.session)) (unlinked OutOfSession) (if_there (find (has_peer_handle b.handle) v.links) (unlinked BadHandle) say) reply h in
    let t = there_Ok (find (has_peer_handle b.handle) v.links) (unlinked BadHandle) say reply u.1 in
    let a = answered_Ok (first_refusal (transfer_violations v b payload t.on)) (transfer_reply v b t.on) reply t.said in
    ap (λ r. has_windows r.sent) (sym a.replies)

body-alone : (v : View) (f : Frame) (body : Option Performative) (reply : Reply) → body_answer v body f.payload ≡ Ok reply → has_windows reply.sent ≡ true → cond {A = ℕ} (is_some (transfer_in body)) 1 0 ≡ 0
body-alone v f (Some (heard.Transfer b)) reply h tells = let none = silent v b f.payload reply h in absurd (cc (none, tells))
body-alone v f _ reply h tells = refl

step-alone : (v : View) (step : Step) (reply : Reply) → Answers v step reply → has_windows reply.sent ≡ true → transfers_heard (record { step = step; reply = reply }) ≡ 0
step-alone v (Opened told) reply h tells = refl
step-alone v (Own op) reply h tells = refl
step-alone v (Heard f) reply h tells =
    by-bool (is_dropped v f.body)
    (λ (dropped : is_dropped v f.body ≡ true).
    let k = rw dropped at h in
    let replies : no_reply ≡ reply = cc k in
    let none : has_windows reply.sent ≡ false = ap (λ r. has_windows r.sent) (sym replies) in
    absurd (cc (none, tells)))
    (λ (taken : is_dropped v f.body ≡ false). let k = rw taken at h in body-alone v f f.body reply k tells)

record Since (c : Config) (past : List Entry) : Type 0 where
  promised : promise c past ≡ heard_then past + c.window
  heard : heard_transfers past ≡ heard_then past + total_since sends_windows transfers_heard past

since-more : (c : Config) (e : Entry) (past : List Entry) → TellsAlone e → Since c past → Since c (e ∷ past)
since-more c e past one s =
    by-bool (sends_windows e)
    (λ (tells : sends_windows e ≡ true).
    let none = one.alone tells in
    record { promised = rw tells refl; heard = rw (tells, none) (omega arith) })
    (λ (quiet : sends_windows e ≡ false).
    let k = more-is (transfers_heard e) (heard_transfers past) in
    let l = more-is (transfers_heard e) (total_since sends_windows transfers_heard past) in
    let h : heard_transfers past ≡ heard_then past + total_since sends_windows transfers_heard past = s.heard in
    record { promised = rw quiet s.promised; heard = rw (quiet, k, l) (omega (arith, h)) })

all-since : (c : Config) (past : List Entry) → IsReplayed c past → Since c (live past)
all-since c [] h = record { promised = omega arith; heard = refl }
all-since c (e ∷ before) h = by (some_entry ends (live before) && hears_no_end e.step) (all-since c before h.0)
  where
    by : (dropped : Bool) → Since c (live before) → Since c (cond dropped (live before) (e ∷ live before))
    by true s = s
    by false s = since-more c e (live before) (record { alone = step-alone (at c before) e.step e.reply h.1 }) s

left-since : (p h b w s : ℕ) → p ≡ b + w → h ≡ b + s → p - h ≡ w - s
left-since p h b w s e f = omega arith

-- the window, as the transfers heard since leave it
pub incoming-since : (c : Config) (past : List Entry) → IsReplayed c past → (at c past).windows.incoming ≡ c.window - total_since sends_windows transfers_heard (live past)
incoming-since c past h =
    let s = all-since c past h in
    left-since (promise c (live past)) (heard_transfers (live past)) (heard_then (live past)) c.window (total_since sends_windows transfers_heard (live past)) s.promised s.heard
