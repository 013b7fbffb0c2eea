-- The windows of two ends: what is known is kept, and a transfer on its way finds the window open.
use Rattle.std.proofs.Common.{◌≡◌, ◌≤◌, ◌<◌, ℕ, ◌+◌, ◌-◌, ◌^◌, ◌==◌, ◌&&◌, suc, Bool, true, false, not, cond, Option, Some, None, Ok, List, [], ◌∷◌, arith, refl, sym, ap, ◌∙◌, subst, length, filter_map, add-one}
use Rattle.amqp_flow.specs.Serial.{wire}
use Rattle.amqp_performatives.specs.declared.bodies.TransferBody.{TransferBody}
use Rattle.amqp_performatives.specs.declared.bodies.BeginBody.{BeginBody}
use Rattle.amqp_performatives.specs.declared.performative.Performative.{Performative}
use Rattle.amqp_performatives.specs.declared.performative.Performative.TheVariants as heard
use Rattle.amqp_frames.specs.declared.frame.Frame.{Frame}
use Rattle.amqp_rules.specs.declared.config.Config.{Config}
use Rattle.amqp_rules.specs.declared.op.Op.{Op}
use Rattle.amqp_rules.specs.declared.reply.Reply.{Reply}
use Rattle.amqp_rules.specs.declared.reply.Sent.{Sent}
use Rattle.amqp_rules.specs.View.{View, SessionView, awaits_begin, is_mapped, is_over, takes_frames}
use Rattle.amqp_rules.specs.Opened.{no_reply}
use Rattle.amqp_rules.specs.Refusing.{first_refusal}
use Rattle.amqp_rules.specs.Sending.{frame_of, sent_of}
use Rattle.amqp_rules.specs.Answer.{body_answer, is_dropped}
use Rattle.amqp_rules.specs.PeerBegin.{begin_violations}
use Rattle.amqp_rules.specs.Sound.{IsSound}
use Rattle.amqp_rules.proofs.Accepted.{answered_Ok, no_refusal, not-false}
use Rattle.amqp_laws.specs.declared.entry.Entry.{Entry}
use Rattle.amqp_laws.specs.declared.entry.Step.{Step}
use Rattle.amqp_laws.specs.declared.entry.Step.TheVariants.{Opened, Own, Heard}
use Rattle.amqp_laws.specs.Past.{some_entry}
use Rattle.amqp_laws.specs.Said.{own_in, body_heard, ends, has_windows, hears_begin, hears_no_end, transfer_in, transfers_sent}
use Rattle.amqp_laws.specs.Live.{live}
use Rattle.amqp_laws.specs.Session.{session_at}
use Rattle.amqp_laws.specs.Windows.{heard_transfers, known, promise, sent_transfers}
use Rattle.amqp_laws.specs.At.{at}
use Rattle.amqp_laws.specs.Lawful.{IsReplayed, next}
use Rattle.amqp_laws.proofs.Sound.{at-is-sound, law}
use Rattle.amqp_laws.proofs.Twice.{and-both}
use Rattle.amqp_laws.proofs.AttachLaw.{mapped-not-over}
use Rattle.amqp_pair_laws.proofs.Plain.{Answers, due}
use Rattle.amqp_pair_laws.specs.Moves.{count, said_as}
use Rattle.amqp_pair_laws.specs.World.{IsFair, Moves, Tight, World, frame_among, frame_in, hears, sends}
use Rattle.amqp_pair_laws.proofs.Lag as lag
use Rattle.amqp_pair_laws.proofs.Sends.{Sending, begins as begins', flows, others, silent, step-sending, transfers}
use Rattle.amqp_pair_laws.proofs.Windows.{Agree, Knows, SendsNone, begin-knows, deaf-knows, flow-knows, lives-goes, or-none, other-knows, promise-later, sender-lives, sends-none, sent-grows, silent-promise, silent-sent, transfer-knows}

-- # One journal

-- its entries are replayed, and few
pub replayed-by : (c : Config) (past : List Entry) → lag.AllFair sends hears IsFair c past → IsReplayed c past
replayed-by c [] h = tt
replayed-by c (e ∷ before) h = (replayed-by c before h.0, h.1.answers)

pub few-by : (c : Config) (past : List Entry) → lag.AllFair sends hears IsFair c past → length past ≤ 2 ^ 30
few-by c [] h = omega arith
few-by c (e ∷ before) h =
    let room : length before < c.journal_limit = h.1.room in
    let few : c.journal_limit ≤ 1073741824 = h.1.limits.few in
    rw (← add-one (length before)) (omega (arith, room, few))

pub record IsGood (c : Config) (past : List Entry) : Type 0 where
  pub fair : lag.AllFair sends hears IsFair c past
  pub replayed : IsReplayed c past
  pub few : length past ≤ 2 ^ 30

pub good : (ca cb : Config) (n : ℕ) (a b : List Entry) → World ca cb n a b → IsGood ca a
good ca cb n a b w = let f = lag.all-fair sends hears IsFair ca cb n a b w in record { fair = f; replayed = replayed-by ca a f; few = few-by ca a f }

pub body-of : (sent : List Sent) (p : Performative) (payload : List ℕ) (f : Frame) → sent ≡ sent_of (Some p) payload ∷ [] → frame_among sent ≡ Some f → f.body ≡ Some p
body-of sent p payload f is h =
    let k = rw is at h in
    let same : frame_of (Some p) payload ≡ f = cc k in
    ap (λ (f : Frame). f.body) (sym same)

pub heard-body : (step : Step) (f : Frame) → frame_in step ≡ Some f → body_heard step ≡ f.body
heard-body (Opened told) f h = absurd (cc)
heard-body (Own op) f h = absurd (cc)
heard-body (Heard g) f h = let same : g ≡ f = cc in ap (λ (f : Frame). f.body) same

pub deaf-body : (step : Step) → frame_in step ≡ None → body_heard step ≡ None
deaf-body (Opened told) h = refl
deaf-body (Own op) h = refl
deaf-body (Heard g) h = absurd (cc)

pub heard-begun : (s : SessionView) → is_mapped s ≡ true → s.begin_heard ≡ true
heard-begun s h = let k = and-both s.begin_sent (takes_frames s) h in (and-both s.begin_heard (not (is_over s)) k.1).0

-- nothing is sent before the peer's begin is heard
none-before : (v after : View) (heard' : Option Performative) (op : Option Op) (reply : Reply) → Sending v after heard' op reply → v.session.begin_heard ≡ false
    → length (filter_map (λ (s : Sent). transfer_in s.frame.body) reply.sent) ≡ 0
none-before v after heard' op reply (silent q) h = (sends-none reply.sent q).transfers
none-before v after heard' op reply (transfers t payload deaf mapped room named carries' sent) h = let k = heard-begun v.session mapped in absurd (cc (h, k))
none-before v after heard' op reply (flows b t mapped open' begun numbers sent) h = rw sent refl
none-before v after heard' op reply (begins' b deaf is-begin unsent open' takes comes sent) h = rw sent refl
none-before v after heard' op reply (others p payload t w beside sent) h = rw (sent, t) refl

unheard : (c : Config) (past : List Entry) → lag.AllFair sends hears IsFair c past → some_entry hears_begin (live past) ≡ false → sent_transfers (live past) ≡ 0
unheard c [] h none = refl
unheard c (e ∷ before) h none = by (some_entry ends (live before) && hears_no_end e.step) (unheard c before h.0) none
  where
    by : (dropped : Bool) → (some_entry hears_begin (live before) ≡ false → sent_transfers (live before) ≡ 0)
        → some_entry hears_begin (cond dropped (live before) (e ∷ live before)) ≡ false → sent_transfers (cond dropped (live before) (e ∷ live before)) ≡ 0
    by true earlier none = earlier none
    by false earlier none =
        let both = or-none (hears_begin e) (some_entry hears_begin (live before)) none in
        let zero' = none-before (at c before) (next (at c before) e.step) (body_heard e.step) (own_in e.step) e.reply (step-sending (at c before) e.step e.reply (due h.1)) both.1 in
        rw zero' (earlier both.1)

-- a begin is heard once
awaited-unheard : (s : SessionView) → awaits_begin s ≡ true → s.begin_heard ≡ false
awaited-unheard s h = by s.begin_heard (and-both (not s.begin_heard) (not (is_over s)) h).0
  where
    by : (b : Bool) → not b ≡ true → b ≡ false
    by true h = absurd (cc)
    by false h = refl

begin-body : (v : View) (body : Option Performative) (payload : List ℕ) (reply : Reply) (b : BeginBody) → body_answer v body payload ≡ Ok reply → body ≡ Some (heard.Begin b) → v.session.begin_heard ≡ false
begin-body v body payload reply b h is =
    let k = rw is at h in
    let a = answered_Ok (first_refusal (begin_violations v)) no_reply reply k in
    let rows = no_refusal (begin_violations v) a.none in
    awaited-unheard v.session (not-false (awaits_begin v.session) rows.0)

begin-once : (v : View) (step : Step) (reply : Reply) (b : BeginBody) → Answers v step reply → body_heard step ≡ Some (heard.Begin b) → is_over v.session ≡ false → v.session.begin_heard ≡ false
begin-once v (Opened told) reply b h is open' = absurd (cc)
begin-once v (Own op) reply b h is open' = absurd (cc)
begin-once v (Heard f) reply b h is open' =
    let both = or-none v.session.end_sent v.session.end_heard open' in
    let unsent : v.session.end_sent ≡ false = both.0 in
    let taken : is_dropped v f.body ≡ false = rw unsent refl in
    let k : body_answer v f.body f.payload ≡ Ok reply = (let k = rw taken at h in k) in
    begin-body v f.body f.payload reply b k is

heard-none : (e : Entry) (past : List Entry) → transfer_in (body_heard e.step) ≡ None → heard_transfers (e ∷ past) ≡ heard_transfers past
heard-none e past h = rw h refl

-- # What is known is kept

known-starts : (ca cb : Config) → Agree ca cb [] []
known-starts ca cb lives = record { heard = refl; awaits = λ h. absurd (cc (h)); known = λ h. absurd (cc (h)) }

known-quiet : (ca cb : Config) (e : Entry) (a b : List Entry) → sends e ≡ None → Agree ca cb a b → Agree ca cb (e ∷ a) b
known-quiet ca cb e a b quiet k lives =
    let s = sends-none e.reply.sent quiet in
    let before = k lives in
    record {
      heard = before.heard ∙ sym (silent-sent e a s);
      awaits = λ begun. before.awaits begun ∙ ap (λ n. Some (wire (ca.first_id + n))) (sym (silent-sent e a s));
      known = λ begun. before.known begun ∙ sym (silent-promise ca e a s);
    }

known-ahead : (ca cb : Config) (e : Entry) (a b : List Entry) → hears e ≡ None → Agree ca cb a b → Agree ca cb a (e ∷ b)
known-ahead ca cb e a b deaf k lives =
    let g = lives-goes e b lives in
    subst (λ (p : List Entry). Knows ca cb (live a) p) (sym g.is_live) (deaf-knows ca cb (live a) (live b) e (deaf-body e.step deaf) (k g.lived))

-- the other cut, as the end that sends sees it
record Other (ca cb : Config) (e : Entry) (a b : List Entry) : Type 0 where
  early : List Entry
  few : sent_transfers (live early) ≤ sent_transfers (live b)
  knows : is_over (session_at (live (e ∷ a))) ≡ false → Knows cb ca (live early) (live (e ∷ a))

other-of : (ca cb : Config) (n : ℕ) (e : Entry) (a b : List Entry) → lag.Known sends hears IsFair Agree (suc (suc n)) → World ca cb (suc n) (e ∷ a) b → Other ca cb e a b
other-of ca cb n e a b known w =
    let s = lag.star sends hears IsFair ca cb (suc n) (e ∷ a) b w in
    let few : s.moves ≤ suc n = s.few in
    record {
      early = s.early;
      few = lag.tail-grows (λ p. sent_transfers (live p)) sent-grows s.early b s.is_tail;
      knows = known cb ca s.moves s.early (e ∷ a) (omega (arith, few)) s.behind;
    }

pass-by : (ca cb : Config) (e : Entry) (a : List Entry) (e' : Entry) (b : List Entry) (f : Frame)
    → Sending (at ca a) (next (at ca a) e.step) (body_heard e.step) (own_in e.step) e.reply
    → at ca (e ∷ a) ≡ next (at ca a) e.step → live (e ∷ a) ≡ e ∷ live a → lag.AllFair sends hears IsFair cb b → length b ≤ 2 ^ 30 → IsSound (at cb b) → Answers (at cb b) e'.step e'.reply
    → is_over (session_at (live b)) ≡ false → is_over (session_at (e' ∷ live b)) ≡ false
    → frame_among e.reply.sent ≡ Some f → body_heard e'.step ≡ f.body → Other ca cb e a b → Knows ca cb (live a) (live b) → Knows ca cb (e ∷ live a) (e' ∷ live b)
pass-by ca cb e a e' b f (silent q) l go rb fb sb ans lives lives' sent hb other k = absurd (cc (q, sent))
pass-by ca cb e a e' b f (transfers t payload deaf mapped room named carries' is) l go rb fb sb ans lives lives' sent hb other k =
    let body = hb ∙ body-of e.reply.sent (heard.Transfer t) payload f is sent in
    let one : length (transfers_sent e) ≡ 1 = rw is refl in
    let mute : has_windows e.reply.sent ≡ false = rw is refl in
    transfer-knows ca cb (live a) (live b) e e' t one mute body k
pass-by ca cb e a e' b f (flows w t mapped open' begun numbers is) l go rb fb sb ans lives lives' sent hb other k =
    let body = hb ∙ body-of e.reply.sent (heard.Flow w) [] f is sent in
    let none : length (transfers_sent e) ≡ 0 = rw is refl in
    let tells : has_windows e.reply.sent ≡ true = rw is refl in
    let there = other.knows (ap (λ (v : View). is_over v.session) l ∙ open') in
    let heard-begin : some_entry hears_begin (live (e ∷ a)) ≡ true = ap (λ (v : View). v.session.begin_heard) l ∙ begun in
    let awaits : w.next_incoming_id ≡ Some (wire (cb.first_id + sent_transfers (live other.early))) = numbers.awaits ∙ sym (ap (λ (v : View). v.windows.next_incoming) l) ∙ there.awaits heard-begin in
    let same : heard_transfers (live a) ≡ sent_transfers (live other.early) = sym (heard-none e (live a) t) ∙ ap heard_transfers (sym go) ∙ there.heard in
    let steps : sent_transfers (live b) ≤ length b = sb.sent in
    flow-knows ca cb (live a) (live b) e e' w (sent_transfers (live other.early)) none tells body awaits numbers.takes numbers.comes other.few (omega (arith, steps, fb)) same sb.unbegun k
pass-by ca cb e a e' b f (begins' w deaf is-begin unsent open' takes comes is) l go rb fb sb ans lives lives' sent hb other k =
    let body = hb ∙ body-of e.reply.sent (heard.Begin w) [] f is sent in
    let none : length (transfers_sent e) ≡ 0 = rw is refl in
    let tells : has_windows e.reply.sent ≡ true = rw is refl in
    let there = other.knows (ap (λ (v : View). is_over v.session) l ∙ open') in
    let deaf' : transfer_in (body_heard e.step) ≡ None = rw deaf refl in
    let same : heard_transfers (live a) ≡ sent_transfers (live other.early) = sym (heard-none e (live a) deaf') ∙ ap heard_transfers (sym go) ∙ there.heard in
    let fresh : some_entry hears_begin (live b) ≡ false = begin-once (at cb b) e'.step e'.reply w ans body lives in
    let zero' = unheard cb b rb fresh in
    let few : sent_transfers (live other.early) ≤ sent_transfers (live b) = other.few in
    begin-knows ca cb (live a) (live b) e e' w none tells body takes comes (omega (arith, same, zero', few)) k
pass-by ca cb e a e' b f (others p payload t w beside is) l go rb fb sb ans lives lives' sent hb other k =
    let body = hb ∙ body-of e.reply.sent p payload f is sent in
    let s : SendsNone e.reply.sent = record { transfers = rw (is, t) refl; windows = rw (is, w) refl } in
    other-knows ca cb (live a) (live b) e e' p t w s body lives' k

known-pass : (ca cb : Config) (n : ℕ) (e : Entry) (a : List Entry) (e' : Entry) (b : List Entry) (f : Frame) → lag.Known sends hears IsFair Agree (suc (suc n)) → World ca cb (suc n) (e ∷ a) b
    → Tight ca cb n a b → Moves ca e a b → Moves cb e' b (e ∷ a) → sends e ≡ Some f → hears e' ≡ Some f → Agree ca cb a b → Agree ca cb (e ∷ a) (e' ∷ b)
known-pass ca cb n e a e' b f known w t m m' sent heard k lives =
    let g = lives-goes e' b lives in
    let ga = good ca cb n a b t.world in
    let gb = good cb ca n b a (lag.swapped sends hears IsFair ca cb n a b t.world) in
    let l = law ca a e ga.replayed ga.few m.fair.answers in
    let go = sender-lives ca a e.step e.reply f (due m.fair) sent in
    let open' : is_over (session_at (e' ∷ live b)) ≡ false = subst (λ (p : List Entry). is_over (session_at p) ≡ false) g.is_live lives in
    let both = pass-by ca cb e a e' b f (step-sending (at ca a) e.step e.reply (due m.fair)) l go gb.fair gb.few (at-is-sound cb b gb.replayed gb.few) (due m'.fair)
    g.lived open' sent (heard-body e'.step f heard) (other-of ca cb n e a b known w) (k g.lived) in
    let here = subst (λ (p : List Entry). Knows ca cb p (e' ∷ live b)) (sym go) both in
    subst (λ (p : List Entry). Knows ca cb (live (e ∷ a)) p) (sym g.is_live) here

known-kept : lag.IsKept sends hears IsFair Agree
known-kept =
    record {
      starts = known-starts;
      quiet = λ ca cb n e a b known w t m quiet k. known-quiet ca cb e a b quiet k;
      ahead = λ ca cb n e a b known w t m deaf k. known-ahead ca cb e a b deaf k;
      pass = known-pass;
    }

-- where b has heard all that a sent, and its session is not over, it knows a's windows
pub windows-known : (ca cb : Config) (n : ℕ) (a b : List Entry) → Tight ca cb n a b → Agree ca cb a b
windows-known ca cb n a b t = lag.exact sends hears IsFair Agree known-kept ca cb n a b t

-- # A transfer on its way

pub room-there : (v after : View) (heard' : Option Performative) (op : Option Op) (reply : Reply) (f : Frame) (t : TransferBody) → Sending v after heard' op reply → frame_among reply.sent ≡ Some f → f.body ≡ Some (heard.Transfer t)
    → (is_mapped v.session ≡ true) × ((v.windows.remote_incoming == 0) ≡ false)
room-there v after heard' op reply f t (silent q) sent is = absurd (cc (q, sent))
room-there v after heard' op reply f t (transfers b payload deaf mapped room named carries' one) sent is = (mapped, room)
room-there v after heard' op reply f t (flows b n mapped open' begun numbers one) sent is = let k = body-of reply.sent (heard.Flow b) [] f one sent in absurd (cc (k, is))
room-there v after heard' op reply f t (begins' b deaf is-begin unsent open' takes comes one) sent is = let k = body-of reply.sent (heard.Begin b) [] f one sent in absurd (cc (k, is))
room-there v after heard' op reply f t (others p payload none w beside one) sent is =
    let k = body-of reply.sent p payload f one sent in
    let same : Some p ≡ Some (heard.Transfer t) = sym k ∙ is in
    let found : transfer_in (Some p) ≡ Some t = ap transfer_in same in
    absurd (cc (none, found))

-- the next frame that b is to hear, where it is a transfer and b's session is not over, finds b's window open
pub window-is-open : (ca cb : Config) (n : ℕ) (a b : List Entry) (f : Frame) (t : TransferBody) → World ca cb n a b → said_as sends (count hears b) a ≡ Some f → f.body ≡ Some (heard.Transfer t)
    → is_over (session_at (live b)) ≡ false → 0 < (at cb b).windows.incoming
window-is-open ca cb n a b f t w waits is lives =
    let x = lag.waits sends hears IsFair ca cb n a b f w waits in
    let tight : count sends x.before ≡ count hears b = x.tight in
    let before = lag.cut sends hears IsFair ca cb x.moves x.entry x.before b x.world (omega (arith, tight)) in
    let m = lag.moved sends hears IsFair ca cb (suc x.moves) x.entry x.before b x.world in
    let r = room-there (at ca x.before) (next (at ca x.before) x.entry.step) (body_heard x.entry.step) (own_in x.entry.step) x.entry.reply f t (step-sending (at ca x.before) x.entry.step x.entry.reply (due m.fair)) x.sent is in
    let here = windows-known ca cb x.moves x.before b (record { world = before; tight = tight }) lives in
    let s = lag.star sends hears IsFair ca cb x.moves x.before b before in
    let there = windows-known cb ca s.moves s.early x.before s.behind (mapped-not-over (at ca x.before).session r.0) in
    let told : known ca (live x.before) ≡ promise cb (live s.early) = there.known (heard-begun (at ca x.before).session r.0) in
    let grows : promise cb (live s.early) ≤ promise cb (live b) = lag.tail-grows (λ p. promise cb (live p)) (promise-later cb) s.early b s.is_tail in
    open-by (known ca (live x.before)) (sent_transfers (live x.before)) (promise cb (live s.early)) (promise cb (live b)) (heard_transfers (live b)) r.1 told grows here.heard
  where
    open-by : (k s early p h : ℕ) → (k - s == 0) ≡ false → k ≡ early → early ≤ p → h ≡ s → 0 < p - h
    open-by k s early p h room told grows same = grind (arith, room, told, grows, same)
