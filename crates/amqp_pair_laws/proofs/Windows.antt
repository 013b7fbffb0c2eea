-- What an end has heard of the other's windows is what the other promised: so a transfer on its way never finds the window shut.
use Rattle.std.proofs.Common.{◌≡◌, ◌≤◌, ◌<◌, ℕ, ◌+◌, ◌^◌, ◌&&◌, ◌||◌, zero, suc, Bool, true, false, cond, Option, Some, None, Ok, List, [], ◌∷◌, arith, refl, sym, ap, subst, length, filter_map, is_some}
use Rattle.amqp_flow.specs.Serial.{wire}
use Rattle.amqp_flow.specs.Windows.{awaited}
use Rattle.amqp_flow.specs.declared.flow.SessionFlow.{SessionFlow}
use Rattle.amqp_flow.proofs.SerialLaws.{numbered-only}
use Rattle.amqp_performatives.specs.declared.bodies.TransferBody.{TransferBody}
use Rattle.amqp_performatives.specs.declared.bodies.FlowBody.{FlowBody}
use Rattle.amqp_performatives.specs.declared.bodies.BeginBody.{BeginBody}
use Rattle.amqp_performatives.specs.declared.performative.Performative.{Performative}
use Rattle.amqp_performatives.specs.declared.performative.Performative.TheVariants as heard
use Rattle.amqp_frames.specs.declared.frame.Frame.{Frame}
use Rattle.amqp_rules.specs.declared.config.Config.{Config}
use Rattle.amqp_rules.specs.declared.reply.Reply.{Reply}
use Rattle.amqp_rules.specs.declared.reply.Sent.{Sent}
use Rattle.amqp_rules.specs.View.{is_over}
use Rattle.amqp_rules.specs.Opened.{no_reply}
use Rattle.amqp_rules.specs.Answer.{body_answer, is_dropped, is_end}
use Rattle.amqp_rules.proofs.Listed.{by-bool}
use Rattle.amqp_laws.specs.declared.entry.Entry.{Entry}
use Rattle.amqp_laws.specs.declared.entry.Step.{Step}
use Rattle.amqp_laws.specs.declared.entry.Step.TheVariants.{Opened, Own, Heard}
use Rattle.amqp_laws.specs.Past.{more, some_entry}
use Rattle.amqp_laws.specs.Said.{begins, body_heard, ends, has_windows, hears_begin, hears_end, hears_no_end, tells_windows, transfer_in, transfers_sent}
use Rattle.amqp_laws.specs.Live.{live}
use Rattle.amqp_laws.specs.Session.{session_at}
use Rattle.amqp_laws.specs.Windows.{heard_since_told, heard_transfers, known, last_told, next_incoming, promise, sent_transfers}
use Rattle.amqp_laws.specs.At.{at}
use Rattle.amqp_laws.proofs.Promises.{promise-grows}
use Rattle.amqp_laws.proofs.Twice.{NotOk, body-over, and-both}
use Rattle.amqp_pair_laws.proofs.Plain.{Answers}
use Rattle.amqp_pair_laws.specs.World.{frame_among}

-- # What is sent

pub record SendsNone (sent : List Sent) : Type 0 where
  pub transfers : length (filter_map (λ (s : Sent). transfer_in s.frame.body) sent) ≡ 0
  pub windows : has_windows sent ≡ false

no-body : (o : Option Performative) → is_some o ≡ false → o ≡ None
no-body None h = refl
no-body (Some p) h = absurd (cc)

pub sends-none : (sent : List Sent) → frame_among sent ≡ None → SendsNone sent
sends-none [] h = record { transfers = refl; windows = refl }
sends-none (s ∷ sent) h =
    by-bool (is_some s.frame.body)
    (λ (t : is_some s.frame.body ≡ true). let k = rw t at h in absurd (cc k))
    (λ (f : is_some s.frame.body ≡ false).
    let k : frame_among sent ≡ None = (let k = rw f at h in k) in
    let none = no-body s.frame.body f in
    let rest = sends-none sent k in
    record { transfers = rw none rest.transfers; windows = rw none rest.windows })

-- # The live journal

pub or-none : (a b : Bool) → a || b ≡ false → (a ≡ false) × (b ≡ false)
or-none true b h = absurd (cc)
or-none false b h = (refl, h)

pub or-true : (a : Bool) → a || true ≡ true
or-true true = refl
or-true false = refl

none-or : (a b : Bool) → a ≡ false → b ≡ false → a || b ≡ false
none-or a b h k = rw (h, k) refl

and-false : (b : Bool) → b && false ≡ false
and-false true = refl
and-false false = refl

pub record Goes (e : Entry) (past : List Entry) : Type 0 where
  pub is_live : live (e ∷ past) ≡ e ∷ live past
  pub lived : is_over (session_at (live past)) ≡ false

-- an entry after which the session is not over is a live one
pub lives-goes : (e : Entry) (past : List Entry) → is_over (session_at (live (e ∷ past))) ≡ false → Goes e past
lives-goes e past h =
    by-bool (some_entry ends (live past))
    (λ (over : some_entry ends (live past) ≡ true).
    by-bool (hears_no_end e.step)
    (λ (t : hears_no_end e.step ≡ true). let k = rw (over, t, over) at h in absurd (cc k))
    (λ (f : hears_no_end e.step ≡ false). let k = rw (over, f, over, or-true (ends e)) at h in absurd (cc k)))
    (λ (open' : some_entry ends (live past) ≡ false).
    let is : live (e ∷ past) ≡ e ∷ live past = rw open' refl in
    let k : is_over (session_at (e ∷ live past)) ≡ false = subst (λ (p : List Entry). is_over (session_at p) ≡ false) is h in
    let both = or-none (ends e || some_entry ends (live past)) (hears_end e || some_entry hears_end (live past)) k in
    let gone = or-none (hears_end e) (some_entry hears_end (live past)) both.1 in
    record { is_live = is; lived = none-or (some_entry ends (live past)) (some_entry hears_end (live past)) open' gone.1 })

-- an entry that sends a frame is a live one
pub sender-lives : (c : Config) (past : List Entry) (step : Step) (reply : Reply) (f : Frame) → Answers (at c past) step reply → frame_among reply.sent ≡ Some f
    → live (record { step = step; reply = reply } ∷ past) ≡ record { step = step; reply = reply } ∷ live past
sender-lives c past (Opened told) reply f h sent = rw (and-false (some_entry ends (live past))) refl
sender-lives c past (Own op) reply f h sent = rw (and-false (some_entry ends (live past))) refl
sender-lives c past (Heard g) reply f h sent =
    by-bool (some_entry ends (live past) && hears_no_end (Heard g))
    (λ (dropped : some_entry ends (live past) && hears_no_end (Heard g) ≡ true).
    let both = and-both (some_entry ends (live past)) (hears_no_end (Heard g)) dropped in
    let other : is_end g.body ≡ false = other-end (is_end g.body) both.1 in
    by-bool (is_dropped (at c past) g.body)
    (λ (t : is_dropped (at c past) g.body ≡ true).
    let k = rw t at h in
    let e : no_reply ≡ reply = cc k in
    let none : frame_among reply.sent ≡ None = ap (λ (r : Reply). frame_among r.sent) (sym e) in
    absurd (cc (none, sent)))
    (λ (t : is_dropped (at c past) g.body ≡ false).
    let k : body_answer (at c past) g.body g.payload ≡ Ok reply = (let k = rw t at h in k) in
    let refused : NotOk (body_answer (at c past) g.body g.payload) = body-over (at c past) g.body g.payload both.0 other in
    absurd (let bad = rw k at refused in bad)))
    (λ (kept : some_entry ends (live past) && hears_no_end (Heard g) ≡ false). rw kept refl)
  where
    other-end : (b : Bool) → cond b false true ≡ true → b ≡ false
    other-end true h = absurd (cc)
    other-end false h = refl

-- # Growth

pub silent-sent : (e : Entry) (past : List Entry) → SendsNone e.reply.sent → sent_transfers (live (e ∷ past)) ≡ sent_transfers (live past)
silent-sent e past s = by (some_entry ends (live past) && hears_no_end e.step)
  where
    by : (dropped : Bool) → sent_transfers (cond dropped (live past) (e ∷ live past)) ≡ sent_transfers (live past)
    by true = refl
    by false = let none = s.transfers in rw none refl

pub silent-promise : (c : Config) (e : Entry) (past : List Entry) → SendsNone e.reply.sent → promise c (live (e ∷ past)) ≡ promise c (live past)
silent-promise c e past s = by (some_entry ends (live past) && hears_no_end e.step)
  where
    by : (dropped : Bool) → promise c (cond dropped (live past) (e ∷ live past)) ≡ promise c (live past)
    by true = refl
    by false = let none = s.windows in rw none refl

more-grows : (k n : ℕ) → n ≤ more k n
more-grows zero n = omega arith
more-grows (suc k) n = let below = more-grows k n in omega (arith, below)

pub sent-grows : (e : Entry) (past : List Entry) → sent_transfers (live past) ≤ sent_transfers (live (e ∷ past))
sent-grows e past = by (some_entry ends (live past) && hears_no_end e.step)
  where
    by : (dropped : Bool) → sent_transfers (live past) ≤ sent_transfers (cond dropped (live past) (e ∷ live past))
    by true = omega arith
    by false = more-grows (length (transfers_sent e)) (sent_transfers (live past))

pub promise-later : (c : Config) (e : Entry) (past : List Entry) → promise c (live past) ≤ promise c (live (e ∷ past))
promise-later c e past = by (some_entry ends (live past) && hears_no_end e.step)
  where
    by : (dropped : Bool) → promise c (live past) ≤ promise c (cond dropped (live past) (e ∷ live past))
    by true = omega arith
    by false = promise-grows c (live past) e

-- # What is claimed

-- b, of live past y, knows the windows of a, of live past x
pub record Knows (ca cb : Config) (x y : List Entry) : Type 0 where
  pub heard : heard_transfers y ≡ sent_transfers x
  pub awaits : some_entry hears_begin y ≡ true → next_incoming (last_told y) (heard_since_told y) ≡ Some (wire (ca.first_id + sent_transfers x))
  pub known : some_entry hears_begin y ≡ true → known cb y ≡ promise ca x

-- as long as b's session is not over
abbrev pub Agree : Config → Config → List Entry → List Entry → Type 0
Agree ca cb a b = is_over (session_at (live b)) ≡ false → Knows ca cb (live a) (live b)

-- b hears no frame
pub deaf-knows : (ca cb : Config) (x y : List Entry) (e : Entry) → body_heard e.step ≡ None → Knows ca cb x y → Knows ca cb x (e ∷ y)
deaf-knows ca cb x y e none k = record { heard = rw none k.heard; awaits = rw none k.awaits; known = rw none k.known }

-- a frame passes that is no transfer and tells no windows
pub other-knows : (ca cb : Config) (x y : List Entry) (e e' : Entry) (p : Performative) → transfer_in (Some p) ≡ None → tells_windows (Some p) ≡ false
    → SendsNone e.reply.sent → body_heard e'.step ≡ Some p → is_over (session_at (e' ∷ y)) ≡ false → Knows ca cb x y → Knows ca cb (e ∷ x) (e' ∷ y)
other-knows ca cb x y e e' (heard.Begin b) t w s h lives k = absurd (cc)
other-knows ca cb x y e e' (heard.Flow b) t w s h lives k = absurd (cc)
other-knows ca cb x y e e' (heard.Transfer b) t w s h lives k = absurd (cc)
other-knows ca cb x y e e' p t w s h lives k =
    let none = s.transfers in
    let mute = s.windows in
    record { heard = rw (h, none) k.heard; awaits = rw (h, none) k.awaits; known = rw (h, mute) k.known }

next-transfer : (o : Option (SessionFlow × List Entry)) (h first s : ℕ) → next_incoming o h ≡ Some (wire (first + s)) → next_incoming o (h + 1) ≡ Some (wire (first + (s + 1)))
next-transfer None h first s e = absurd (cc)
next-transfer (Some said) h first s e =
    let same : wire (said.0.next_outgoing_id + h) ≡ wire (first + s) = cc in
    ap Some (on (said.0.next_outgoing_id) same)
  where
    on : (m : ℕ) → wire (m + h) ≡ wire (first + s) → wire (m + (h + 1)) ≡ wire (first + (s + 1))
    on m e = omega (arith, e)

-- a transfer passes
pub transfer-knows : (ca cb : Config) (x y : List Entry) (e e' : Entry) (t : TransferBody) → length (transfers_sent e) ≡ 1 → has_windows e.reply.sent ≡ false
    → body_heard e'.step ≡ Some (heard.Transfer t) → Knows ca cb x y → Knows ca cb (e ∷ x) (e' ∷ y)
transfer-knows ca cb x y e e' t one mute h k =
    let both = k.heard in
    record {
      heard = rw (h, one) (ap (λ n. n + 1) both);
      awaits = rw (h, one) (λ begun. next-transfer (last_told y) (heard_since_told y) ca.first_id (sent_transfers x) (k.awaits begun));
      known = rw (h, mute) k.known;
    }

none-further : (n : ℕ) → wire (wire n + 0) ≡ wire n
none-further n = omega arith

known-flow : (begun : Bool) (first s0 s heard window : ℕ) (id : Option ℕ) → id ≡ Some (wire (first + s0)) → s0 ≤ s → s < 2 ^ 32 → heard ≡ s0 → (begun ≡ false → s ≡ 0)
    → cond begun (awaited first s id) 0 + window ≡ heard + window
known-flow true first s0 s heard window id is few small same none =
    let far : s < s0 + 2 ^ 32 = omega (arith, few, small) in
    let there : wire (first + s0) ≡ wire (wire (first + s0)) = omega arith in
    rw (is, numbered-only first (wire (first + s0)) s s0 few far there, same) refl
known-flow false first s0 s heard window id is few small same none =
    let zero' : s ≡ 0 = none refl in
    omega (arith, few, zero', same)

-- a flow passes
pub flow-knows : (ca cb : Config) (x y : List Entry) (e e' : Entry) (b : FlowBody) (s0 : ℕ) → length (transfers_sent e) ≡ 0 → has_windows e.reply.sent ≡ true
    → body_heard e'.step ≡ Some (heard.Flow b) → b.next_incoming_id ≡ Some (wire (cb.first_id + s0)) → b.incoming_window ≡ ca.window → b.next_outgoing_id ≡ wire (ca.first_id + sent_transfers x)
    → s0 ≤ sent_transfers y → sent_transfers y < 2 ^ 32 → heard_transfers x ≡ s0 → (some_entry begins y ≡ false → sent_transfers y ≡ 0)
    → Knows ca cb x y → Knows ca cb (e ∷ x) (e' ∷ y)
flow-knows ca cb x y e e' b s0 none tells h awaits takes comes few small same unbegun k =
    record {
      heard = rw (h, none) k.heard;
      awaits = rw (h, none, comes) (λ begun. ap Some (none-further (ca.first_id + sent_transfers x)));
      known = rw (h, tells, takes) (λ begun. known-flow (some_entry begins y) cb.first_id s0 (sent_transfers y) (heard_transfers x) ca.window b.next_incoming_id awaits few small same unbegun);
    }

-- a begin passes
pub begin-knows : (ca cb : Config) (x y : List Entry) (e e' : Entry) (b : BeginBody) → length (transfers_sent e) ≡ 0 → has_windows e.reply.sent ≡ true
    → body_heard e'.step ≡ Some (heard.Begin b) → b.incoming_window ≡ ca.window → b.next_outgoing_id ≡ wire (ca.first_id + sent_transfers x) → heard_transfers x ≡ 0
    → Knows ca cb x y → Knows ca cb (e ∷ x) (e' ∷ y)
begin-knows ca cb x y e e' b none tells h takes comes nothing k =
    record {
      heard = rw (h, none) k.heard;
      awaits = rw (h, none, comes) (λ begun. ap Some (none-further (ca.first_id + sent_transfers x)));
      known = rw (h, tells, takes, nothing) (λ begun. by (some_entry begins y));
    }
  where
    by : (sent : Bool) → cond sent (awaited cb.first_id (sent_transfers y) None) 0 + ca.window ≡ 0 + ca.window
    by true = refl
    by false = refl
