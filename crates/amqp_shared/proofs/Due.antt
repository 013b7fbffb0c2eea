-- What an operation that was done gives, and its receipt.
use Rattle.std.proofs.Common.{◌≡◌, ℕ, ◌+◌, ◌≤◌, ◌++◌, List, [], ◌∷◌, length, Bool, true, false, cond, Option, Some, None, Ok, Err, refl, sym, ap, ◌∙◌, subst, nat_le, arith, length-append}
use Rattle.std.specs.Prelude.{slice_get, find, not, ◌==◌}
use Rattle.std.proofs.lemmas.Bool.{eqb-true}
use Rattle.amqp_events.specs.Joined.{Delivery}
use Rattle.amqp_rules.specs.declared.op.Op.{Op}
use Rattle.amqp_rules.specs.declared.op.Op.TheVariants as op
use Rattle.amqp_rules.specs.declared.reply.Reply.{Reply}
use Rattle.amqp_rules.specs.declared.reply.Given.{Given}
use Rattle.amqp_rules.specs.declared.refusal.Refusal.TheVariants as refusal
use Rattle.amqp_rules.specs.View.{View, LinkView, has_number, same_role}
use Rattle.amqp_rules.specs.Refusing.{if_there, unless}
use Rattle.amqp_rules.specs.Take.{take_first, take_reply, take_answer}
use Rattle.amqp_performatives.specs.declared.bodies.Role.TheVariants.{Receiver}
use Rattle.amqp_laws.specs.declared.entry.Entry.{Entry}
use Rattle.amqp_laws.specs.declared.entry.Step.TheVariants.{Own}
use Rattle.amqp_laws.specs.Past.{past}
use Rattle.amqp_laws.specs.At.{at}
use Rattle.amqp_journal.specs.declared.receipt.Receipt.{Receipt}
use Rattle.amqp_journal.specs.Log.{Log, own_due}
use Rattle.amqp_journal.specs.Units.{given_link, given_id}
use Rattle.amqp_conn.specs.declared.phase.Phase.{Phase}
use Rattle.amqp_conn.specs.declared.phase.Phase.TheVariants as phase
use Rattle.amqp_conn.specs.Connection.{Core}
use Rattle.amqp_conn.specs.Calling.{Does, due_in}
use Rattle.amqp_shared.specs.Session.{Fits, IsReceipt}

-- # Taking gives a delivery of that link

-- what is found by its number has it
found-number : (link : ℕ) (ls : List LinkView) (l : LinkView) → find (has_number link) ls ≡ Some l → l.number ≡ link
found-number link [] l h = absurd cc
found-number link (x ∷ xs) l h = tested (x.number == link) refl (found-number link xs l) h
  where
    tested : (b : Bool) → (x.number == link) ≡ b → (find (has_number link) xs ≡ Some l → l.number ≡ link) → cond b (Some x) (find (has_number link) xs) ≡ Some l → l.number ≡ link
    tested true is later found = let same : x ≡ l = cc in subst (λ (y : LinkView). y.number ≡ link) same (eqb-true x.number link is)
    tested false is later found = later found

first-fits : (link n : ℕ) (ready : List Delivery) (reply : Reply) → n ≡ link → take_first n ready ≡ Ok reply → Fits (op.Take link) reply.given
first-fits link n [] reply same h = absurd cc
first-fits link n (d ∷ ready) reply same h =
    let e : take_reply n d ≡ reply = cc in
    subst (λ (r : Reply). Fits (op.Take link) r.given) e same

unless-fits : (b : Bool) (link n : ℕ) (ready : List Delivery) (reply : Reply) → n ≡ link → unless b refusal.WrongRole (take_first n ready) ≡ Ok reply → Fits (op.Take link) reply.given
unless-fits true link n ready reply same h = absurd cc
unless-fits false link n ready reply same h = first-fits link n ready reply same h

found-fits : (o : Option LinkView) (link : ℕ) (reply : Reply) → ((l : LinkView) → o ≡ Some l → l.number ≡ link)
    → if_there o refusal.NoLink (λ (l : LinkView). unless (not (same_role Receiver l.role)) refusal.WrongRole (take_first l.number l.ready)) ≡ Ok reply
    → Fits (op.Take link) reply.given
found-fits None link reply same h = absurd cc
found-fits (Some l) link reply same h = unless-fits (not (same_role Receiver l.role)) link l.number l.ready reply (same l refl) h

full-fits : (b : Bool) (v : View) (link : ℕ) (reply : Reply) → cond b (Err refusal.JournalFull) (take_answer v link) ≡ Ok reply → Fits (op.Take link) reply.given
full-fits true v link reply h = absurd cc
full-fits false v link reply h = found-fits (find (has_number link) v.links) link reply (found-number link v.links) h

due-fits : (l : Log) (link : ℕ) (reply : Reply) → own_due l (op.Take link) ≡ Ok reply → Fits (op.Take link) reply.given
unfolding own_due
due-fits l link reply h = full-fits (nat_le l.config.journal_limit (length l.journal)) (at l.config (past l.journal)) link reply h

phase-fits : (p : Phase) (l : Log) (link : ℕ) (reply : Reply) → due_in p l (op.Take link) ≡ Ok reply → Fits (op.Take link) reply.given
phase-fits phase.AwaitHeader l link reply h = absurd cc
phase-fits phase.AwaitOpen l link reply h = absurd cc
phase-fits phase.Running l link reply h = due-fits l link reply h
phase-fits phase.Closing l link reply h = absurd cc
phase-fits phase.Closed l link reply h = absurd cc

pub fits : (o : Op) (k l : Core) (gives : Given) → Does k o (Ok gives) l → Fits o gives
fits (op.Take link) k l gives (reply, due, is-given, is) = subst (λ (g : Given). Fits (op.Take link) g) (sym is-given) (phase-fits k.phase k.log link reply due)
fits op.Begin k l gives h = tt
fits (op.Attach name role snd rcv source target count max) k l gives h = tt
fits (op.Start link tag format settled payload more) k l gives h = tt
fits (op.Carry link payload more) k l gives h = tt
fits (op.Abort link) k l gives h = tt
fits (op.Dispose role first last settled state) k l gives h = tt
fits (op.Learn link) k l gives h = tt
fits (op.Grant link credit drain echo) k l gives h = tt
fits (op.Offer link available) k l gives h = tt
fits (op.Drained link) k l gives h = tt
fits (op.Refresh echo) k l gives h = tt
fits (op.Detach link error) k l gives h = tt
fits (op.Suspend link) k l gives h = tt
fits (op.Rejoin r) k l gives h = tt
fits (op.Resume link tag settled) k l gives h = tt
fits (op.End error) k l gives h = tt
fits op.Beat k l gives h = tt

-- # Receipts

last-get : {X : Type 0} (xs : List X) (x : X) → slice_get (xs ++ x ∷ []) (length xs) ≡ Some x
last-get [] x = refl
last-get (y ∷ ys) x = last-get ys x

pub is-receipt : (k l : Core) (o : Op) (gives : Given) (j : Log) (r : Receipt) → Does k o (Ok gives) l → j.journal ≡ l.log.journal → j.forgotten ≡ l.log.forgotten
    → k.log.forgotten ≤ length k.log.journal → r.place ≡ length k.log.journal → r.link ≡ given_link gives → r.id ≡ given_id gives → IsReceipt j o gives r
is-receipt k l o gives j r (reply, due, is-given, is) same kept stored place link id =
    let e : Entry = record { step = Own o; reply = reply } in
    let journal : j.journal ≡ k.log.journal ++ e ∷ [] = same ∙ ap (λ (x : Core). x.log.journal) is in
    let there : slice_get j.journal r.place ≡ Some e = ap (λ n. slice_get j.journal n) place ∙ ap (λ xs. slice_get xs (length k.log.journal)) journal ∙ last-get k.log.journal e in
    let many = ap length journal ∙ length-append k.log.journal (e ∷ []) in
    let forgotten : j.forgotten ≡ k.log.forgotten = kept ∙ ap (λ (x : Core). x.log.forgotten) is in
    record {
      stands = (e, there, refl, ap given_link (sym is-given) ∙ sym link, ap given_id (sym is-given) ∙ sym id);
      stored = omega (arith, forgotten, stored, place);
      last = ap (λ n. n + 1) place ∙ sym many;
      gave = (e, there, sym is-given);
    }
