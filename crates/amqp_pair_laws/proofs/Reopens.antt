-- After a refresh that was heard the window is open again.
use Rattle.std.proofs.Common.{inl, inr, ◌≡◌, ℕ, ◌+◌, ◌-◌, Bool, true, false, not, cond, Option, Some, None, List, [], ◌∷◌, arith, refl, sym, ap, ◌∙◌, subst, is_some}
use Rattle.amqp_performatives.specs.declared.bodies.TransferBody.{TransferBody}
use Rattle.amqp_rules.specs.declared.config.Config.{Config}
use Rattle.amqp_rules.specs.declared.op.Op.{Op}
use Rattle.amqp_rules.specs.declared.op.Op.TheVariants as own
use Rattle.amqp_rules.specs.declared.reply.Reply.{Reply}
use Rattle.amqp_rules.specs.declared.reply.Given.TheVariants as given
use Rattle.amqp_rules.specs.declared.refusal.Refusal.TheVariants as refusal
use Rattle.amqp_rules.specs.View.{View, is_mapped}
use Rattle.amqp_rules.specs.Refresh.{refresh_body}
use Rattle.amqp_rules.proofs.Accepted.{sends-ok}
use Rattle.amqp_laws.specs.declared.entry.Entry.{Entry}
use Rattle.amqp_laws.specs.declared.entry.Step.{Step}
use Rattle.amqp_laws.specs.declared.entry.Step.TheVariants.{Opened, Own, Heard}
use Rattle.amqp_laws.specs.Past.{more, said_or}
use Rattle.amqp_laws.specs.Said.{has_windows, own_in, sends_windows, transfer_heard}
use Rattle.amqp_laws.specs.Live.{live}
use Rattle.amqp_laws.specs.Windows.{heard_transfers, last_telling, promise, promise_by}
use Rattle.amqp_laws.specs.At.{at}
use Rattle.amqp_pair_laws.specs.Agreeing.{HasRefreshed, WindowReopens, is_refresh}
use Rattle.amqp_pair_laws.proofs.Plain.{Answers, OwnAnswers, due}
use Rattle.amqp_pair_laws.proofs.SlotActs.{AllFair, Lives}
use Rattle.amqp_pair_laws.proofs.Windows.{lives-goes}
use Rattle.amqp_pair_laws.proofs.CountsKept.{fair-both}
use Rattle.amqp_pair_laws.proofs.Resting.{both, windows-agree}

-- a refresh tells the window, and hears nothing
own-refresh : (v : View) (op : Op) (reply : Reply) → OwnAnswers v op reply → is_refresh (Some op) ≡ true → has_windows reply.sent ≡ true
own-refresh v (own.Refresh echo) reply h is =
    let s = sends-ok v.max_frame ((not (is_mapped v.session), refusal.NotMapped) ∷ []) (refresh_body v.windows echo) [] given.Nothing reply h in
    ap (λ (r : Reply). has_windows r.sent) (sym s.replies)
own-refresh v _ reply h is = absurd (cc (is))

refresh-tells : (v : View) (e : Entry) (step : Step) → e.step ≡ step → Answers v step e.reply → is_refresh (own_in step) ≡ true → (sends_windows e ≡ true) × (transfer_heard e ≡ None)
refresh-tells v e (Opened told) same h is = absurd (cc (is))
refresh-tells v e (Own op) same h is = (own-refresh v op e.reply h is, rw same refl)
refresh-tells v e (Heard f) same h is = absurd (cc (is))

-- the window in whole is promised, beyond what was heard
abbrev IsOpen : Config → List Entry → Type 0
IsOpen c past = promise c past ≡ heard_transfers past + c.window

opens-by : (c : Config) (e : Entry) (past : List Entry) → transfer_heard e ≡ None → (sends_windows e ≡ false → IsOpen c past) → IsOpen c (e ∷ past)
opens-by c e past deaf earlier = by (sends_windows e) refl
  where
    none : heard_transfers (e ∷ past) ≡ heard_transfers past
    none = ap (λ (o : Option TransferBody). more (cond (is_some o) 1 0) (heard_transfers past)) deaf

    by : (tells : Bool) → sends_windows e ≡ tells → promise_by c.window (said_or (cond tells (Some tt) None) past (last_telling past)) ≡ heard_transfers (e ∷ past) + c.window
    by true is = ap (λ n. n + c.window) (sym none)
    by false is = earlier is ∙ ap (λ n. n + c.window) (sym none)

open-since : (c : Config) (past : List Entry) → AllFair c past → Lives past → HasRefreshed past → IsOpen c (live past)
open-since c [] h lives r = absurd r
open-since c (e ∷ past) h lives (inl is) =
    let g = lives-goes e past lives in
    let k = refresh-tells (at c past) e e.step refl (due h.1) is in
    let tells = k.0 in
    subst (λ (l : List Entry). IsOpen c l) (sym g.is_live) (opens-by c e (live past) k.1 (λ silent. absurd (cc (tells, silent))))
open-since c (e ∷ past) h lives (inr r) =
    let g = lives-goes e past lives in
    subst (λ (l : List Entry). IsOpen c l) (sym g.is_live) (opens-by c e (live past) r.0 (λ silent. open-since c past h.0 g.lived r.1))

pub window-reopens : WindowReopens
window-reopens ca cb n a b r mapped refreshed =
    let s = both ca cb n a b r mapped in
    let fair = fair-both ca cb n a b r.world in
    let whole : promise cb (live b) ≡ heard_transfers (live b) + cb.window = open-since cb b fair.1 s.second refreshed in
    (windows-agree ca cb n a b r mapped).room ∙ left (promise cb (live b)) (heard_transfers (live b)) cb.window whole
  where
    left : (p n w : ℕ) → p ≡ n + w → p - n ≡ w
    left p n w e = omega (arith, e)
