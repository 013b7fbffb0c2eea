-- The next frame on its way, with the end that sent it as it was then, and what the phases say of the end that hears it.
use Rattle.std.proofs.Common.{◌≡◌, ℕ, suc, true, false, Some, List, ◌∷◌, arith, refl, ◌∙◌, IsOk}
use Rattle.amqp_frames.specs.declared.frame.Frame.{Frame}
use Rattle.amqp_rules.specs.declared.config.Config.{Config}
use Rattle.amqp_rules.specs.View.{View, SessionView, is_ending, is_mapped, takes_frames}
use Rattle.amqp_rules.specs.Answer.{body_answer, heard_answer, is_dropped, is_end}
use Rattle.amqp_rules.proofs.Listed.{by-bool}
use Rattle.amqp_laws.specs.declared.entry.Entry.{Entry}
use Rattle.amqp_laws.specs.Past.{some_entry}
use Rattle.amqp_laws.specs.Said.{hears_end}
use Rattle.amqp_laws.specs.Live.{live}
use Rattle.amqp_laws.specs.At.{at}
use Rattle.amqp_laws.proofs.Twice.{and-both}
use Rattle.amqp_laws.proofs.AttachLaw.{mapped-not-over}
use Rattle.amqp_pair_laws.proofs.Plain.{Answers, due}
use Rattle.amqp_pair_laws.specs.Moves.{count, said_as}
use Rattle.amqp_pair_laws.specs.World.{IsFair, Tight, World, frame_among, hears, sends}
use Rattle.amqp_pair_laws.proofs.Lag as lag
use Rattle.amqp_pair_laws.proofs.Phases.{phases-known}

-- the peer's begin was heard, and not its end
pub record IsReady (s : SessionView) : Type 0 where
  pub begun : s.begin_heard ≡ true
  pub open' : s.end_heard ≡ false

pub ready-takes : (s : SessionView) → IsReady s → s.end_sent ≡ false → takes_frames s ≡ true
ready-takes s r unsent = let b = r.begun in let o = r.open' in rw (b, unsent, o) refl

pub ready-ends : (s : SessionView) → IsReady s → s.end_sent ≡ true → is_ending s ≡ true
ready-ends s r sent = let o = r.open' in rw (sent, o) refl

-- a frame that is no end is taken, or dropped after our end
pub taken-by : (v : View) (f : Frame) → IsReady v.session → is_end f.body ≡ false → (takes_frames v.session ≡ true → IsOk (body_answer v f.body f.payload)) → IsOk (heard_answer v f)
taken-by v f r other answer =
    by-bool v.session.end_sent
    (λ (sent : v.session.end_sent ≡ true).
    let dropped : is_dropped v f.body ≡ true = rw (ready-ends v.session r sent, other) refl in
    rw dropped refl)
    (λ (unsent : v.session.end_sent ≡ false).
    let kept : is_dropped v f.body ≡ false = rw unsent refl in
    rw kept (answer (ready-takes v.session r unsent)))

-- b has heard all that a sent before the frame; a's next entry sends it
pub record Next (ca cb : Config) (b : List Entry) (f : Frame) : Type 0 where
  pub moves : ℕ
  pub entry : Entry
  pub before : List Entry
  pub whole : World ca cb (suc moves) (entry ∷ before) b
  pub tight : Tight ca cb moves before b
  pub answers : Answers (at ca before) entry.step entry.reply
  pub sent : frame_among entry.reply.sent ≡ Some f

pub next-of : (ca cb : Config) (n : ℕ) (a b : List Entry) (f : Frame) → World ca cb n a b → said_as sends (count hears b) a ≡ Some f → Next ca cb b f
next-of ca cb n a b f w waits =
    let x = lag.waits sends hears IsFair ca cb n a b f w waits in
    let tight : count sends x.before ≡ count hears b = x.tight in
    let before = lag.cut sends hears IsFair ca cb x.moves x.entry x.before b x.world (omega (arith, tight)) in
    let m = lag.moved sends hears IsFair ca cb (suc x.moves) x.entry x.before b x.world in
    record { moves = x.moves; entry = x.entry; before = x.before; whole = x.world; tight = record { world = before; tight = tight }; answers = (due m.fair); sent = x.sent }

pub ready-by : (ca cb : Config) (b : List Entry) (f : Frame) (x : Next ca cb b f) → is_mapped (at ca x.before).session ≡ true → IsReady (at cb b).session
ready-by ca cb b f x mapped =
    let p = phases-known ca cb x.moves x.before b x.tight in
    let parts = and-both (at ca x.before).session.begin_sent (takes_frames (at ca x.before).session) mapped in
    let open' = mapped-not-over (at ca x.before).session mapped in
    record {
      begun = p.begun ∙ parts.0;
      open' = by-bool (some_entry hears_end (live b)) (λ (h : some_entry hears_end (live b) ≡ true). let over = p.ended h in absurd (cc (over, open'))) (λ (h : some_entry hears_end (live b) ≡ false). h);
    }
