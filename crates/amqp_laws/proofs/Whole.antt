-- One entry more is one step of the view.
use Rattle.std.proofs.Common.{◌≡◌, ◌<◌, ℕ, ◌+◌, ◌^◌, ◌&&◌, suc, Bool, true, false, cond, Option, Some, Ok, List, [], ◌∷◌, length, refl, sym, ap, ◌∙◌, add-one}
use Rattle.amqp_performatives.specs.declared.performative.Performative.{Performative}
use Rattle.amqp_performatives.specs.declared.performative.Performative.TheVariants as heard
use Rattle.amqp_frames.specs.declared.frame.Frame.{Frame}
use Rattle.amqp_rules.specs.declared.op.Op.{Op}
use Rattle.amqp_rules.specs.declared.op.Op.TheVariants.{Begin, Attach, Start, Carry, Abort, Dispose, Learn, Grant, Offer, Drained, Refresh, Take, Detach, Suspend, Rejoin, Resume, End, Beat}
use Rattle.amqp_rules.specs.declared.config.Config.{Config}
use Rattle.amqp_rules.specs.declared.reply.Reply.{Reply}
use Rattle.amqp_rules.specs.Rejoin.{rejoined}
use Rattle.amqp_rules.specs.Answer.{body_answer, heard_answer, is_dropped, is_end, next_body, next_heard, next_own, own_answer}
use Rattle.amqp_rules.specs.View.{is_ending}
use Rattle.amqp_rules.specs.Sound.{Every}
use Rattle.amqp_rules.proofs.Listed.{by-bool}
use Rattle.amqp_events.specs.Laws.{AreLearnt}
use Rattle.amqp_laws.specs.declared.entry.Entry.{Entry}
use Rattle.amqp_laws.specs.declared.entry.Step.{Step}
use Rattle.amqp_laws.specs.declared.entry.Step.TheVariants.{Opened, Own, Heard}
use Rattle.amqp_laws.specs.Past.{some_entry}
use Rattle.amqp_laws.specs.Said.{ends, hears_end}
use Rattle.amqp_laws.specs.Live.{live}
use Rattle.amqp_laws.specs.Windows.{sent_transfers}
use Rattle.amqp_laws.specs.Links.{link_pasts}
use Rattle.amqp_laws.specs.At.{at, seen, sent_events}
use Rattle.amqp_laws.specs.Lawful.{Answers, next}
use Rattle.amqp_laws.proofs.SessionLaw.{opened-law, begin-law, refresh-law, end-law, beat-law, begin-heard-law, end-heard-law}
use Rattle.amqp_laws.proofs.ResumeLaw.{resume-law}
use Rattle.amqp_laws.proofs.AttachLaw.{attach-law, attach-law-bare, attach-heard-law}
use Rattle.amqp_laws.proofs.StartWhole.{start-whole}
use Rattle.amqp_laws.proofs.OtherWhole.{carry-whole, disposition-whole}
use Rattle.amqp_laws.proofs.HeldWhole.{abort-whole, dispose-whole, learn-whole}
use Rattle.amqp_laws.proofs.GrantLaw.{grant-law}
use Rattle.amqp_laws.proofs.OfferLaw.{offer-law}
use Rattle.amqp_laws.proofs.DrainedLaw.{drained-law}
use Rattle.amqp_laws.proofs.TakeLaw.{take-law}
use Rattle.amqp_laws.proofs.SuspendLaw.{suspend-law}
use Rattle.amqp_laws.proofs.DetachLaw.{detach-law, detach-heard-law}
use Rattle.amqp_laws.proofs.FlowLaw.{flow-law}
use Rattle.amqp_laws.proofs.TransferLaw.{TakesFew, transfer-law}
use Rattle.amqp_laws.proofs.Twice.{NotOk, body-over}

own-law : (c : Config) (n : ℕ) (past : List Entry) (op : Op) (reply : Reply)
    → AreLearnt (sent_events c past)
    → own_answer (seen c n past) op ≡ Ok reply
    → seen c (n + 1) (record { step = Own op; reply = reply } ∷ past) ≡ next_own (seen c n past) op
own-law c n past Begin reply learnt h = begin-law c n past reply learnt h
own-law c n past (Attach name role snd rcv source target count max_message) reply learnt h =
    attach-law-bare c n past (record { name = name; role = role; snd = snd; rcv = rcv; source = source; target = target; count = count; max_message = max_message; items = [] }) reply learnt h
own-law c n past (Start link tag format settled payload more) reply learnt h = start-whole c n past link tag format settled payload more reply learnt h
own-law c n past (Carry link payload more) reply learnt h = carry-whole c n past link payload more reply learnt h
own-law c n past (Abort link) reply learnt h = abort-whole c n past link reply learnt h
own-law c n past (Dispose role first last settled state) reply learnt h = dispose-whole c n past role first last settled state reply learnt h
own-law c n past (Learn link) reply learnt h = learn-whole c n past link reply learnt h
own-law c n past (Grant link credit drain echo) reply learnt h = grant-law c n past link credit drain echo reply learnt h
own-law c n past (Offer link available) reply learnt h = offer-law c n past link available reply learnt h
own-law c n past (Drained link) reply learnt h = drained-law c n past link reply learnt h
own-law c n past (Refresh echo) reply learnt h = refresh-law c n past echo reply learnt h
own-law c n past (Take link) reply learnt h = take-law c n past link reply learnt h
own-law c n past (Detach link error) reply learnt h = detach-law c n past link error reply learnt h
own-law c n past (Suspend link) reply learnt h = suspend-law c n past link reply learnt h
own-law c n past (Rejoin r) reply learnt h = attach-law c n past (rejoined r) reply learnt h
own-law c n past (Resume link tag settled) reply learnt h = resume-law c n past link tag settled reply learnt h
own-law c n past (End error) reply learnt h = end-law c n past error reply learnt h
own-law c n past Beat reply learnt h = beat-law c n past reply learnt h

-- what is asked of the past: the application learnt what was told, the transfers sent are few, and no more were taken than were complete
pub record IsFit (c : Config) (past : List Entry) : Type 0 where
  pub learnt : AreLearnt (sent_events c past)
  pub small : sent_transfers past < 2 ^ 32
  pub few : Every TakesFew (link_pasts past)

body-law : (c : Config) (n : ℕ) (past : List Entry) (channel : ℕ) (body : Option Performative) (payload : List ℕ) (reply : Reply)
    → IsFit c past
    → body_answer (seen c n past) body payload ≡ Ok reply
    → seen c (n + 1) (record { step = Heard (record { channel = channel; body = body; payload = payload }); reply = reply } ∷ past) ≡ next_body (seen c n past) body payload
body-law c n past channel (Some (heard.Begin b)) payload reply fit h = begin-heard-law c n past channel b payload reply fit.learnt h
body-law c n past channel (Some (heard.Attach b)) payload reply fit h = attach-heard-law c n past channel b payload reply fit.learnt h
body-law c n past channel (Some (heard.Flow b)) payload reply fit h = flow-law c n past channel b payload reply fit.learnt fit.small h
body-law c n past channel (Some (heard.Transfer b)) payload reply fit h = transfer-law c n past channel b payload reply fit.learnt fit.few h
body-law c n past channel (Some (heard.Disposition b)) payload reply fit h = disposition-whole c n past channel b payload reply fit.learnt h
body-law c n past channel (Some (heard.Detach b)) payload reply fit h = detach-heard-law c n past channel b payload reply fit.learnt h
body-law c n past channel (Some (heard.End b)) payload reply fit h = end-heard-law c n past channel b payload reply h
body-law c n past channel _ payload reply fit h = absurd (cc)

abbrev heard_entry : Frame → Reply → Entry
heard_entry f reply = record { step = Heard f; reply = reply }

-- a frame that is taken
taken-law : (c : Config) (past : List Entry) (f : Frame) (reply : Reply)
    → IsFit c (live past)
    → live (heard_entry f reply ∷ past) ≡ heard_entry f reply ∷ live past
    → is_dropped (at c past) f.body ≡ false
    → heard_answer (at c past) f ≡ Ok reply
    → at c (heard_entry f reply ∷ past) ≡ next_heard (at c past) f
taken-law c past f reply fit kept taken h =
    let answer : body_answer (at c past) f.body f.payload ≡ Ok reply = rw taken at h in
    ap (λ p. seen c (suc (length past)) p) kept
    ∙ ap (λ n. seen c n (heard_entry f reply ∷ live past)) (sym (add-one (length past)))
    ∙ body-law c (length past) (live past) f.channel f.body f.payload reply fit answer
    ∙ rw taken refl

-- a frame that is dropped
dropped-law : (c : Config) (past : List Entry) (f : Frame) (reply : Reply)
    → live (heard_entry f reply ∷ past) ≡ live past
    → is_dropped (at c past) f.body ≡ true
    → at c (heard_entry f reply ∷ past) ≡ next_heard (at c past) f
dropped-law c past f reply kept dropped =
    ap (λ p. seen c (suc (length past)) p) kept
    ∙ ap (λ n. seen c n (live past)) (sym (add-one (length past)))
    ∙ rw dropped refl

and-false : (b : Bool) → b && false ≡ false
and-false true = refl
and-false false = refl

heard-law : (c : Config) (past : List Entry) (f : Frame) (reply : Reply)
    → IsFit c (live past)
    → heard_answer (at c past) f ≡ Ok reply
    → at c (heard_entry f reply ∷ past) ≡ next_heard (at c past) f
heard-law c past f reply fit h =
    let s = (at c past).session in
    by-bool (is_end f.body)
    (λ (end : is_end f.body ≡ true). taken-law c past f reply fit (rw (end, and-false (some_entry ends (live past))) refl) (rw end (and-false (is_ending s))) h)
    (λ (other : is_end f.body ≡ false).
    by-bool (some_entry ends (live past))
    (λ (sent : some_entry ends (live past) ≡ true).
    by-bool (some_entry hears_end (live past))
    (λ (gone : some_entry hears_end (live past) ≡ true).
    let taken : is_dropped (at c past) f.body ≡ false = rw (other, sent, gone) refl in
    let answer : body_answer (at c past) f.body f.payload ≡ Ok reply = rw taken at h in
    let refused : NotOk (body_answer (at c past) f.body f.payload) = body-over (at c past) f.body f.payload sent other in
    absurd (let bad = rw answer at refused in bad))
    (λ (waits : some_entry hears_end (live past) ≡ false). dropped-law c past f reply (rw (other, sent) refl) (rw (other, sent, waits) refl)))
    (λ (open' : some_entry ends (live past) ≡ false). taken-law c past f reply fit (rw open' refl) (rw (other, open') refl) h))

-- what is no frame is never dropped
kept-live : (c : Config) (past : List Entry) (e : Entry) (b : Bool) → b ≡ false → seen c (suc (length past)) (cond b (live past) (e ∷ live past)) ≡ seen c (length past + 1) (e ∷ live past)
kept-live c past e b none = rw none (ap (λ n. seen c n (e ∷ live past)) (sym (add-one (length past))))

-- one entry more is one step of the view
pub step-law : (c : Config) (past : List Entry) (step : Step) (reply : Reply)
    → IsFit c (live past)
    → Answers (at c past) step reply
    → at c (record { step = step; reply = reply } ∷ past) ≡ next (at c past) step
step-law c past (Opened told) reply fit h =
    kept-live c past (record { step = Opened told; reply = reply }) (some_entry ends (live past) && false) (and-false (some_entry ends (live past)))
    ∙ opened-law c (length past) (live past) told reply fit.learnt h
step-law c past (Own op) reply fit h =
    kept-live c past (record { step = Own op; reply = reply }) (some_entry ends (live past) && false) (and-false (some_entry ends (live past)))
    ∙ own-law c (length past) (live past) op reply fit.learnt h
step-law c past (Heard f) reply fit h = heard-law c past f reply fit h
