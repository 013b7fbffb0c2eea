-- Single feeds, one after the other.
use Rattle.std.proofs.Common.{◌≡◌, ℕ, suc, List, [], ◌∷◌, ◌++◌, take, drop, Option, Some, None, Result, Ok, Err, refl, sym, ap, ◌∙◌, subst, inl, inr}
use Rattle.std.proofs.lemmas.List.{take-append-drop}
use Rattle.amqp_rules.specs.declared.violation.Violation.{Violation}
use Rattle.amqp_laws.specs.declared.entry.Step.TheVariants.{Own}
use Rattle.amqp_conn.specs.declared.phase.Phase.{Phase}
use Rattle.amqp_conn.specs.declared.phase.Phase.TheVariants as phase
use Rattle.amqp_conn.specs.declared.fault.ConnFault.{ConnFault}
use Rattle.amqp_conn.specs.declared.fault.ConnFault.TheVariants as fault
use Rattle.amqp_conn.specs.declared.fed.Fed.{Fed}
use Rattle.amqp_conn.specs.Connection.{Core, Connection, connection, more, HasRead, IsQuiet, stepping}
use Rattle.amqp_conn.specs.Treating.{after, ending, Moves}
use Rattle.amqp_conn.specs.Feeding.{kept_in, IsFed, IsAnswered, EndsByFrame, Ends, Takes, FeedsInTurn}
use Rattle.amqp_conn.proofs.Cutting.{cut, none}

pub ending-closed : (e : ConnFault) (k : Core) → (ending e k).phase ≡ phase.Closed
unfolding ending
ending-closed e k = refl

-- one thing that ends the connection
ends-once : (e : ConnFault) (c d : Connection) (piece rest : List ℕ) → Moves (more piece c) (connection (ending e c.core) rest) → d ≡ connection (ending e c.core) [] → IsFed c piece d
ends-once e c d piece rest move is =
    let closed = ending-closed e c.core in
    let gone : kept_in (ending e c.core).phase rest ≡ [] = ap (λ p. kept_in p rest) closed in
    record {
      times = 1;
      last = connection (ending e c.core) rest;
      moved = (connection (ending e c.core) rest, move, refl);
      is = is ∙ ap (connection (ending e c.core)) (sym gone);
      quiet = subst IsQuiet (sym is) (subst (λ (p : Phase). HasRead p (ending e c.core).config.max_frame []) (sym closed) refl);
    }

by-frame : (e : ConnFault) (c d : Connection) (piece : List ℕ) → EndsByFrame e (more piece c) → d ≡ connection (ending e c.core) [] → IsFed c piece d
by-frame e c d piece (f, front, back, has, t) is =
    ends-once e c d piece back (inr (inl (record { f = f; front = front; back = back; has = has; does = sym (ap (after c.core (c.unread ++ piece) back) t) }))) is

pub ends : (e : ConnFault) (c d : Connection) (piece : List ℕ) → Ends e (more piece c) d → IsFed c piece d
ends fault.BadHeader c d piece ((p, front, back, eight, other, split), is) =
    ends-once fault.BadHeader c d piece back (inl (record { phase = p; front = front; back = back; eight = eight; split = split; does = inr (other, refl) })) is
ends (fault.Framing e) c d piece ((reads, shown), is) =
    ends-once (fault.Framing e) c d piece (c.unread ++ piece) (inr (inr (record { reads = reads; e = e; shown = shown; does = refl }))) is
ends fault.OutOfPlace c d piece (p, is) = by-frame fault.OutOfPlace c d piece p is
ends fault.BadChannel c d piece (p, is) = by-frame fault.BadChannel c d piece p is
ends fault.JournalFull c d piece (p, is) = by-frame fault.JournalFull c d piece p is
ends fault.Closed c d piece (p, is) = absurd p
ends fault.NoMemory c d piece (p, is) = absurd p

-- a closed connection drops what comes
pub dropped : (c : Connection) (piece : List ℕ) → IsQuiet c → c.core.phase ≡ phase.Closed → IsFed c piece c
dropped c piece q e =
    let empty : c.unread ≡ [] = subst (λ (p : Phase). HasRead p c.core.config.max_frame c.unread) e q in
    let gone : kept_in c.core.phase (c.unread ++ piece) ≡ [] = ap (λ p. kept_in p (c.unread ++ piece)) e in
    record { times = 0; last = more piece c; moved = refl; is = ap (connection c.core) (empty ∙ sym gone); quiet = q }

-- a frame that is answered and then read again
pub answered-first : (c m d : Connection) (piece : List ℕ) (v : Violation) (fed : Fed) → IsAnswered c piece v fed.given m → IsFed m piece d → IsFed c piece d
answered-first c m d piece v fed a p =
    let here : more piece m ≡ connection m.core (c.unread ++ piece) = ap (λ x. connection m.core (x ++ piece)) a.stands in
    let move : Moves (more piece c) (more piece m) =
    inr (inl (record { f = a.f; front = a.front; back = a.back; has = a.has; does = here ∙ sym (ap (after c.core (c.unread ++ piece) a.back) a.treated) })) in
    record { times = suc p.times; last = p.last; moved = (more piece m, move, p.moved); is = p.is; quiet = p.quiet }

answered-quiet : (c m : Connection) (piece : List ℕ) (v : Violation) (fed : Fed) → IsAnswered c piece v fed.given m → IsQuiet c → IsQuiet m
answered-quiet c m piece v fed a q =
    let same : m ≡ connection (stepping (Own a.answers.op) a.answers.reply c.core) c.unread = λ i. connection (a.answers.does i) (a.stands i) in
    subst IsQuiet (sym same) q

pub in-turn : (calls : List (Result Fed ConnFault)) (c d : Connection) (piece : List ℕ) → IsQuiet c → FeedsInTurn calls c piece d → IsFed c piece d
in-turn [] c d piece q (inl e, is) = subst (λ (x : List ℕ). IsFed c x d) (sym e) (subst (λ (x : Connection). IsFed c [] x) (sym is) (none c q))
in-turn [] c d piece q (inr e, is) = subst (λ (x : Connection). IsFed c piece x) (sym is) (dropped c piece q e)
in-turn (Ok fed ∷ calls) c d piece q (m, first, rest) = by (λ r. in-turn calls m d (drop fed.used piece) r rest) fed.violation first
  where
    by : (IsQuiet m → IsFed m (drop fed.used piece) d) → (v : Option Violation) → Takes c piece fed v m → IsFed c piece d
    by go None t =
        subst (λ (x : List ℕ). IsFed c x d) (take-append-drop fed.used piece) (cut c m d (take fed.used piece) (drop fed.used piece) t.1 (go t.1.quiet))
    by go (Some v) t =
        let whole : drop fed.used piece ≡ piece = ap (λ n. drop n piece) t.0 in
        let on : IsFed m piece d = subst (λ (x : List ℕ). IsFed m x d) whole (go (answered-quiet c m piece v fed t.2 q)) in
        answered-first c m d piece v fed t.2 on
in-turn (Err fault.NoMemory ∷ calls) c d piece q t = absurd t
in-turn (Err fault.Closed ∷ calls) c d piece q (e, is) = subst (λ (x : Connection). IsFed c piece x) (sym is) (dropped c piece q e)
in-turn (Err fault.BadHeader ∷ calls) c d piece q t = ends fault.BadHeader c d piece t
in-turn (Err (fault.Framing e) ∷ calls) c d piece q t = ends (fault.Framing e) c d piece t
in-turn (Err fault.OutOfPlace ∷ calls) c d piece q t = ends fault.OutOfPlace c d piece t
in-turn (Err fault.BadChannel ∷ calls) c d piece q t = ends fault.BadChannel c d piece t
in-turn (Err fault.JournalFull ∷ calls) c d piece q t = ends fault.JournalFull c d piece t
