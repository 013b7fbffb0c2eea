-- The ids of the first transfers that were heard go on with the serial numbers of the end that sent them.
use Rattle.std.proofs.Common.{suc, ◌≡◌, ◌≤◌, ℕ, ◌+◌, ◌==◌, ◌&&◌, not, Bool, true, false, cond, Option, Some, None, Result, Ok, List, [], ◌∷◌, length, inr, arith, refl, sym, ap, ◌∙◌, subst, find}
use Rattle.std.specs.Option.{option_and_then}
use Rattle.std.specs.List.{cons_option}
use Rattle.amqp_performatives.specs.declared.bodies.TransferBody.{TransferBody}
use Rattle.amqp_performatives.specs.declared.performative.Performative.TheVariants as body
use Rattle.amqp_frames.specs.declared.frame.Frame.{Frame}
use Rattle.amqp_rules.specs.declared.config.Config.{Config}
use Rattle.amqp_rules.specs.declared.reply.Reply.{Reply}
use Rattle.amqp_rules.specs.declared.violation.Violation.{Violation}
use Rattle.amqp_rules.specs.declared.violation.ViolationKind.TheVariants.{OutOfSession, BadHandle}
use Rattle.amqp_rules.specs.View.{LinkView, View, SessionView, has_peer_handle, is_over, takes_frames}
use Rattle.amqp_rules.specs.Refusing.{answered, first_refusal, if_there, unlinked}
use Rattle.amqp_rules.specs.PeerTransfer.{transfer_answer, transfer_reply, transfer_violations}
use Rattle.amqp_rules.specs.Answer.{heard_answer, is_dropped}
use Rattle.amqp_rules.proofs.Accepted.{unless_Ok}
use Rattle.amqp_laws.specs.declared.entry.Entry.{Entry}
use Rattle.amqp_laws.specs.declared.entry.Step.TheVariants.{Heard}
use Rattle.amqp_laws.specs.Past.{some_entry}
use Rattle.amqp_laws.specs.Said.{ends, hears_no_end, transfer_heard}
use Rattle.amqp_laws.specs.Live.{live}
use Rattle.amqp_laws.specs.Session.{session_at}
use Rattle.amqp_laws.specs.At.{at, started}
use Rattle.amqp_laws.proofs.Twice.{and-both}
use Rattle.amqp_pair_laws.specs.Moves.{count, said_as, and_one}
use Rattle.amqp_pair_laws.specs.World.{IsFair, Tight, World, hears, sends}
use Rattle.amqp_pair_laws.specs.Premise.{ids_heard}
use Rattle.amqp_pair_laws.proofs.Lag as lag
use Rattle.amqp_pair_laws.proofs.SlotActs.{AllFair}
use Rattle.amqp_pair_laws.proofs.Next.{Next, next-of}
use Rattle.amqp_pair_laws.proofs.Ids.{ids-known}
use Rattle.amqp_world.specs.Knowing.{serials}
use Rattle.amqp_world.proofs.Ranges.{serials-length}
use Rattle.amqp_world.proofs.SentIds.{sent-serials}

by-bool : {P : Type 0} (b : Bool) → (b ≡ true → P) → (b ≡ false → P) → P
by-bool true t f = t refl
by-bool false t f = f refl

-- # An end that hears a transfer lives

not-false : (b : Bool) → not b ≡ false → b ≡ true
not-false true h = refl
not-false false h = absurd (cc (h))

not-true : (b : Bool) → not b ≡ true → b ≡ false
not-true true h = absurd (cc (h))
not-true false h = refl

takes-lives : (s : SessionView) → takes_frames s ≡ true → is_over s ≡ false
takes-lives s h = not-true (is_over s) (and-both s.begin_heard (not (is_over s)) h).1

transfer-lives : (v : View) (t : TransferBody) (payload : List ℕ) (reply : Reply) → transfer_answer v t payload ≡ Ok reply → is_over v.session ≡ false
transfer-lives v t payload reply h =
    let say : LinkView → Result Reply Violation = λ l. answered (first_refusal (transfer_violations v t payload l)) (transfer_reply v t l) in
    let u = unless_Ok (not (takes_frames v.session)) (unlinked OutOfSession) (if_there (find (has_peer_handle t.handle) v.links) (unlinked BadHandle) say) reply h in
    takes-lives v.session (not-false (takes_frames v.session) u.0)

-- a transfer that is taken, where our end was not sent
hears-lives : (v : View) (f : Frame) (t : TransferBody) (reply : Reply) → f.body ≡ Some (body.Transfer t) → v.session.end_sent ≡ false → heard_answer v f ≡ Ok reply → is_over v.session ≡ false
hears-lives v f t reply is unsent h =
    let kept : is_dropped v f.body ≡ false = rw unsent refl in
    let k = rw (kept, is) at h in
    transfer-lives v t f.payload reply k

-- # The ids

equal-true : (m n : ℕ) → m ≡ n → (m == n) ≡ true
equal-true m n h = grind (arith, h)

-- hearing the frame, b has heard all that a had sent with it
pub heard-tight : (ca cb : Config) (n : ℕ) (b : List Entry) (f : Frame) (reply : Reply) (x : Next ca cb b f) → IsFair cb (record { step = Heard f; reply = reply }) b → Tight ca cb (suc (suc x.moves)) (x.entry ∷ x.before) (record { step = Heard f; reply = reply } ∷ b)
heard-tight ca cb n b f reply x fair =
    let t : count sends x.before ≡ count hears b = x.tight.tight in
    let waits : said_as sends (count hears b) (x.entry ∷ x.before) ≡ Some f = rw (equal-true (count sends x.before) (count hears b) t) x.sent in
    record {
      world = inr (x.whole, record { fair = fair; next = waits });
      tight = ap (λ (o : Option Frame). and_one o (count sends x.before)) x.sent ∙ ap (λ (k : ℕ). k + 1) t;
    }

-- the new list is one of serial numbers too
pub heard-serials : (ca cb : Config) (n : ℕ) (a b : List Entry) (f : Frame) (t : TransferBody) (id : ℕ) (reply : Reply) (k : ℕ) → World ca cb n a b → said_as sends (count hears b) a ≡ Some f
    → IsFair cb (record { step = Heard f; reply = reply }) b → f.body ≡ Some (body.Transfer t) → t.delivery_id ≡ Some id → some_entry ends (live b) ≡ false
    → ids_heard (live b) ≡ serials ca.first_id k → id ∷ ids_heard (live b) ≡ serials ca.first_id (k + 1)
heard-serials ca cb n a b f t id reply k w waits fair is named unsent known =
    let e : Entry = record { step = Heard f; reply = reply } in
    let x = next-of ca cb n a b f w waits in
    let tight = heard-tight ca cb n b f reply x fair in
    let lives : is_over (at cb b).session ≡ false = hears-lives (at cb b) f t reply is unsent fair.answers in
    let here : live (e ∷ b) ≡ e ∷ live b = rw unsent refl in
    let still : is_over (session_at (live (e ∷ b))) ≡ false = subst (λ (p : List Entry). is_over (session_at p) ≡ false) (sym here) (rw is lives) in
    let same = ids-known ca cb (suc (suc x.moves)) (x.entry ∷ x.before) (e ∷ b) tight still in
    let more : ids_heard (live (e ∷ b)) ≡ id ∷ ids_heard (live b) = ap ids_heard here ∙ rw (is, named) refl in
    let fair-a : AllFair ca (x.entry ∷ x.before) = lag.all-fair sends hears IsFair ca cb (suc x.moves) (x.entry ∷ x.before) b x.whole in
    let all : id ∷ ids_heard (live b) ≡ serials ca.first_id (started (live (x.entry ∷ x.before))) = sym more ∙ same ∙ sent-serials ca (x.entry ∷ x.before) fair-a in
    let long : length (id ∷ ids_heard (live b)) ≡ started (live (x.entry ∷ x.before)) = ap length all ∙ serials-length ca.first_id (started (live (x.entry ∷ x.before))) in
    let short : length (ids_heard (live b)) ≡ k = ap length known ∙ serials-length ca.first_id k in
    subst (λ (m : ℕ). id ∷ ids_heard (live b) ≡ serials ca.first_id m) (sym long ∙ count-is (length (ids_heard (live b))) k short) all
  where
    count-is : (l k : ℕ) → l ≡ k → suc l ≡ k + 1
    count-is l k h = omega (arith, h)

-- no more ids than entries
pub ids-few : (past : List Entry) → length (ids_heard (live past)) ≤ length past
ids-few [] = omega arith
ids-few (e ∷ past) = by (some_entry ends (live past) && hears_no_end e.step) (ids-few past)
  where
    at-most : (o : Option ℕ) (ids : List ℕ) (n : ℕ) → length ids ≤ n → length (cons_option o ids) ≤ suc n
    at-most None ids n h = omega (arith, h)
    at-most (Some id) ids n h = omega (arith, h)

    by : (dropped : Bool) → length (ids_heard (live past)) ≤ length past → length (ids_heard (cond dropped (live past) (e ∷ live past))) ≤ length (e ∷ past)
    by true h = omega (arith, h)
    by false h = at-most (option_and_then (λ t. t.delivery_id) (transfer_heard e)) (ids_heard (live past)) (length past) h
