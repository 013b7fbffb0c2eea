-- A flow does not tell more transfers than were sent.
use Rattle.std.proofs.Common.{◌≡◌, ◌≤◌, ◌<◌, ℕ, ◌+◌, ◌^◌, ◌&&◌, suc, Bool, true, false, Some, List, ◌∷◌, arith, refl, sym, ap, ◌∙◌, length, nat_lt}
use Rattle.amqp_flow.specs.Serial.{wire, distance}
use Rattle.amqp_performatives.specs.declared.bodies.FlowBody.{FlowBody}
use Rattle.amqp_frames.specs.declared.frame.Frame.{Frame}
use Rattle.amqp_rules.specs.declared.config.Config.{Config}
use Rattle.amqp_rules.specs.View.{View, is_over}
use Rattle.amqp_rules.specs.Flow.{is_ahead_of_session, session_part}
use Rattle.amqp_flow.specs.Windows.{session_is_ahead}
use Rattle.amqp_laws.specs.declared.entry.Entry.{Entry}
use Rattle.amqp_laws.specs.Past.{some_entry}
use Rattle.amqp_laws.specs.Said.{hears_begin}
use Rattle.amqp_laws.specs.Live.{live}
use Rattle.amqp_laws.specs.Windows.{sent_transfers}
use Rattle.amqp_laws.specs.At.{at}
use Rattle.amqp_laws.specs.Lawful.{next}
use Rattle.amqp_laws.proofs.Sound.{at-is-sound, law}
use Rattle.amqp_pair_laws.proofs.Plain.{is-due}
use Rattle.amqp_pair_laws.specs.World.{IsFair, hears, sends}
use Rattle.amqp_pair_laws.proofs.Lag as lag
use Rattle.amqp_pair_laws.proofs.Sends.{TellsNumbers}
use Rattle.amqp_pair_laws.proofs.Opens.{windows-known, good}
use Rattle.amqp_pair_laws.proofs.Credit.{lag-told}
use Rattle.amqp_pair_laws.proofs.Windows.{sent-grows}
use Rattle.amqp_pair_laws.proofs.Next.{Next}

-- a's frame tells no count of ours that we have not reached
near-by : (first s0 s : ℕ) → s0 ≤ s → s < 2 ^ 32 → nat_lt s (distance (wire (first + s0)) (wire (first + s))) ≡ false
near-by first s0 s few small = rw (lag-told first s s0 few (omega (arith, few, small))) (grind (arith, few))

pub session-near : (ca cb : Config) (b : List Entry) (f : Frame) (x : Next ca cb b f) (w : FlowBody)
    → is_over (next (at ca x.before) x.entry.step).session ≡ false → (next (at ca x.before) x.entry.step).session.begin_heard ≡ true → TellsNumbers (at ca x.before) (next (at ca x.before) x.entry.step).windows w
    → is_ahead_of_session (at cb b) w ≡ false
session-near ca cb b f x w open' begun numbers =
    let t = x.tight in
    let ga = good ca cb x.moves x.before b t.world in
    let gb = good cb ca x.moves b x.before (lag.swapped sends hears IsFair ca cb x.moves x.before b t.world) in
    let l = law ca x.before x.entry ga.replayed ga.few (is-due (at ca x.before) x.entry.step x.entry.reply x.answers) in
    let s = lag.star sends hears IsFair ca cb (suc x.moves) (x.entry ∷ x.before) b x.whole in
    let there = windows-known cb ca s.moves s.early (x.entry ∷ x.before) s.behind (ap (λ (v : View). is_over v.session) l ∙ open') in
    let heard-begin : some_entry hears_begin (live (x.entry ∷ x.before)) ≡ true = ap (λ (v : View). v.session.begin_heard) l ∙ begun in
    let awaits : w.next_incoming_id ≡ Some (wire (cb.first_id + sent_transfers (live s.early))) = numbers.awaits ∙ sym (ap (λ (v : View). v.windows.next_incoming) l) ∙ there.awaits heard-begin in
    let few : sent_transfers (live s.early) ≤ sent_transfers (live b) = lag.tail-grows (λ p. sent_transfers (live p)) sent-grows s.early b s.is_tail in
    let steps : sent_transfers (live b) ≤ length b = (at-is-sound cb b gb.replayed gb.few).sent in
    let short = gb.few in
    let near = near-by cb.first_id (sent_transfers (live s.early)) (sent_transfers (live b)) few (omega (arith, steps, short)) in
    let behind : session_is_ahead (session_part w) (at cb b).windows ≡ false = rw awaits near in
    by (at cb b).session.begin_sent (session_is_ahead (session_part w) (at cb b).windows) behind
  where
    by : (sent ahead : Bool) → ahead ≡ false → sent && ahead ≡ false
    by true ahead h = h
    by false ahead h = refl
