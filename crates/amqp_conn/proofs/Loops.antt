-- A loop of feeds: each goes on, and comes to an end.
use Rattle.std.proofs.Common.{◌≡◌, ◌≤◌, ◌<◌, ◌+◌, ◌-◌, ℕ, List, [], ◌∷◌, ◌++◌, ◌≢◌, length, take, drop, nat_le, Bool, true, false, cond, Option, Some, None, Result, Ok, Err, refl, sym, ap, ◌∙◌, subst, arith, append_assoc, append-nil, inr, length-append, length-drop}
use Rattle.std.proofs.lemmas.List.{take-append-drop, drop-drop}
use Rattle.std.proofs.lemmas.Bool.Decides.{nat_tests}
use Rattle.amqp_rules.specs.declared.op.Op.{Op}
use Rattle.amqp_rules.specs.declared.reply.Reply.{Reply}
use Rattle.amqp_rules.specs.declared.reply.Given.{Given}
use Rattle.amqp_rules.specs.declared.refusal.Refusal.{Refusal}
use Rattle.amqp_rules.specs.declared.refusal.Refusal.TheVariants.{JournalFull}
use Rattle.amqp_rules.specs.declared.violation.Violation.{Violation}
use Rattle.amqp_laws.specs.declared.entry.Entry.{Entry}
use Rattle.amqp_laws.specs.declared.entry.Step.TheVariants.{Own}
use Rattle.amqp_rules.specs.Answer.{own_answer}
use Rattle.amqp_laws.specs.Past.{past}
use Rattle.amqp_laws.specs.At.{at}
use Rattle.amqp_journal.specs.Log.{Log, own_due}
use Rattle.amqp_conn.specs.declared.fed.Fed.{Fed}
use Rattle.amqp_conn.specs.Connection.{Core, Connection, more}
use Rattle.amqp_conn.specs.Feeding.{IsFed, IsAnswered, AddsEntry, Ends, Takes, Feeds, MovesBy, MovesOn}
use Rattle.amqp_conn.specs.Turning.{room, GoesOn, Took, IsTaken, ClosesWell, StoppedBy}
use Rattle.amqp_journal.specs.Units.{units, octets_sent}
use Rattle.amqp_journal.proofs.UnitLaws.{logged-behind}
use Rattle.amqp_frames.proofs.OneFrame.{one_frame}
use Rattle.amqp_conn.proofs.Deciding.{one}
use Rattle.amqp_conn.specs.declared.phase.Phase.TheVariants as phase
use Rattle.amqp_conn.proofs.Cutting.{cut}
use Rattle.amqp_conn.specs.declared.fault.ConnFault.{ConnFault}
use Rattle.amqp_conn.specs.declared.fault.ConnFault.TheVariants as fault
use Rattle.amqp_conn.proofs.Turns.{answered-first, ending-closed, ends, dropped}
use Rattle.amqp_conn.proofs.Onward.{Within, fed-onward}

-- an operation is accepted where the journal has room alone
had-room : (l : Log) (op : Op) (reply : Reply) → own_due l op ≡ Ok reply → length l.journal < l.config.journal_limit
unfolding own_due
had-room l op reply h = by (nat_le l.config.journal_limit (length l.journal)) (own_answer (at l.config (past l.journal)) op) refl h
  where
    by : (b : Bool) (r : Result Reply Refusal) → nat_le l.config.journal_limit (length l.journal) ≡ b → cond b (Err JournalFull) r ≡ Ok reply → length l.journal < l.config.journal_limit
    by false r t h = grind (arith, nat_tests, t)
    by true r t h = absurd (cc)

no-shorter : (before after : List Entry) (stepped : Bool) (given : Given) → AddsEntry before after stepped given → length before ≤ length after
no-shorter before after true given (e, p, g) = let n : length after ≡ length before + 1 = ap length p ∙ length-append before (e ∷ []) in omega (arith, n)
no-shorter before after false given (p, g) = let n : length after ≡ length before = ap length p in omega (arith, n)

-- octets were used
shorter : (c m : Connection) (rest : List ℕ) (used : ℕ) → m.core.log.config.journal_limit ≡ c.core.log.config.journal_limit → used ≤ length rest → 0 < used
    → length (drop used rest) ≡ length rest - used → length c.core.log.journal ≤ length m.core.log.journal → length (drop used rest) + room m < length rest + room c
shorter c m rest used limit within some left longer = omega (arith, limit, within, some, left, longer)

-- an entry was added
fuller : (c m : Connection) (rest back : List ℕ) → m.core.log.config.journal_limit ≡ c.core.log.config.journal_limit → length back ≡ length rest
    → length m.core.log.journal ≡ length c.core.log.journal + 1 → length c.core.log.journal < c.core.log.config.journal_limit → length back + room m < length rest + room c
fuller c m rest back limit left journal had = omega (arith, limit, left, journal, had)

pub goes-on : (c m : Connection) (rest : List ℕ) (fed : Fed) → Feeds c rest (Ok fed) m → MovesOn (Ok fed) → GoesOn c rest fed.used m
goes-on c m rest fed f o = by fed.violation f o
  where
    by : (v : Option Violation) → Takes c rest fed v m → MovesBy v fed → GoesOn c rest fed.used m
    by None t some =
        let limit : m.core.log.config.journal_limit ≡ c.core.log.config.journal_limit = ap (λ x. x.journal_limit) (fed-onward c m (take fed.used rest) t.1).limits in
        let longer = no-shorter c.core.log.journal m.core.log.journal fed.stepped fed.given t.2 in
        let within : fed.used ≤ length rest = t.0 in
        let left = length-drop fed.used rest in
        record {
          within = within;
          less = shorter c m rest fed.used limit within some left longer;
        }
    by (Some v) t some =
        let whole : drop fed.used rest ≡ rest = ap (λ n. drop n rest) t.0 in
        let a = t.2.answers in
        let had = had-room c.core.log a.op a.reply a.answered in
        let limit : m.core.log.config.journal_limit ≡ c.core.log.config.journal_limit = ap (λ (k : Core). k.log.config.journal_limit) a.does in
        let journal : length m.core.log.journal ≡ length c.core.log.journal + 1 = ap (λ (k : Core). length k.log.journal) a.does ∙ length-append c.core.log.journal (record { step = Own a.op; reply = a.reply } ∷ []) in
        let left : length (drop fed.used rest) ≡ length rest = ap length whole in
        record {
          within = let z : fed.used ≡ 0 = t.0 in omega (arith, z);
          less = fuller c m rest (drop fed.used rest) limit left journal had;
        }

-- ---- what feeds left

pub took-none : (c : Connection) (x : List ℕ) → Took c x c x
took-none c x = record { later = λ z e on. on; popped = refl; more = []; all = sym (append-nil (units c.core.log)) }

pub took-then : (c d e : Connection) (x y z : List ℕ) → Took c x d y → Took d y e z → Took c x e z
took-then c d e x y z p q =
    record {
      later = λ w f on. p.later w f (q.later w f on);
      popped = q.popped ∙ p.popped;
      more = p.more ++ q.more;
      all = q.all ∙ ap (λ us. us ++ q.more) p.all ∙ append_assoc (units c.core.log) p.more q.more;
    }

-- what is left over is dropped
pub took-over : (c : Connection) (x : List ℕ) → IsFed c x c → Took c x c []
took-over c x f = record { later = λ z e on. cut c c e x z f on; popped = refl; more = []; all = sym (append-nil (units c.core.log)) }

took-same : (c d : Connection) (x : List ℕ) → d ≡ c → Took c x d x
took-same c d x e = subst (λ (y : Connection). Took c x y x) (sym e) (took-none c x)

-- more octets behind change nothing
answered-more : (c m : Connection) (piece z : List ℕ) (v : Violation) (given : Given) → IsAnswered c piece v given m → IsAnswered c (piece ++ z) v given m
answered-more c m piece z v given a =
    record {
      f = a.f;
      front = a.front;
      back = a.back ++ z;
      has =
          record {
            reads = a.has.reads;
            framed = a.has.framed;
            small = a.has.small;
            split = sym (append_assoc c.unread piece z) ∙ ap (λ x. x ++ z) a.has.split ∙ append_assoc a.front a.back z;
          };
      treated = a.treated;
      answers = a.answers;
      stands = a.stands;
    }

pub took-fed : (c m : Connection) (rest : List ℕ) (fed : Fed) → Within c.core → Feeds c rest (Ok fed) m → Took c rest m (drop fed.used rest)
took-fed c m rest fed w f = by fed.violation f
  where
    by : (v : Option Violation) → Takes c rest fed v m → Took c rest m (drop fed.used rest)
    by None t =
        let o = fed-onward c m (take fed.used rest) t.1 in
        let b = o.behind w in
        record {
          later =
              λ z e on.
              subst (λ (x : List ℕ). IsFed c x e) (sym (append_assoc (take fed.used rest) (drop fed.used rest) z) ∙ ap (λ x. x ++ z) (take-append-drop fed.used rest))
              (cut c m e (take fed.used rest) (drop fed.used rest ++ z) t.1 on);
          popped = o.popped;
          more = b.more;
          all = b.all;
        }
    by (Some v) t =
        let whole : drop fed.used rest ≡ rest = ap (λ n. drop n rest) t.0 in
        let a = t.2.answers in
        let entry : Entry = record { step = Own a.op; reply = a.reply } in
        record {
          later = λ z e on. answered-first c m e (rest ++ z) v fed (answered-more c m rest z v fed.given t.2) (subst (λ (x : List ℕ). IsFed m (x ++ z) e) whole on);
          popped = ap (λ (k : Core). k.log.popped) a.does;
          more = octets_sent entry;
          all = ap (λ (k : Core). units k.log) a.does ∙ logged-behind c.core.log entry w;
        }

-- a connection that has ended with a fault drops what comes
took-ended : (e : ConnFault) (c d : Connection) (rest : List ℕ) → Within c.core → Ends e (more rest c) d → Took c rest d rest
took-ended e c d rest w t =
    let fed : IsFed c rest d = ends e c d rest t in
    let closed : d.core.phase ≡ phase.Closed = ap (λ (x : Connection). x.core.phase) t.1 ∙ ending-closed e c.core in
    let o = fed-onward c d rest fed in
    let b = o.behind w in
    record {
      later =
          λ z f on.
          let stays : f ≡ d = one d f d (rest ++ z) one_frame on (dropped d (rest ++ z) fed.quiet closed) in
          subst (λ (x : Connection). IsFed c (rest ++ z) x) (sym stays) (cut c d d rest z fed (dropped d z fed.quiet closed));
      popped = o.popped;
      more = b.more;
      all = b.all;
    }

pub took-fault : (e : ConnFault) (c d : Connection) (rest : List ℕ) → Within c.core → Feeds c rest (Err e) d → Took c rest d rest
took-fault fault.NoMemory c d rest w t = took-same c d rest t.2
took-fault fault.Closed c d rest w t = took-same c d rest t.1
took-fault fault.BadHeader c d rest w t = took-ended fault.BadHeader c d rest w t
took-fault (fault.Framing e) c d rest w t = took-ended (fault.Framing e) c d rest w t
took-fault fault.OutOfPlace c d rest w t = took-ended fault.OutOfPlace c d rest w t
took-fault fault.BadChannel c d rest w t = took-ended fault.BadChannel c d rest w t
took-fault fault.JournalFull c d rest w t = took-ended fault.JournalFull c d rest w t

-- ---- a loop of them

-- one feed more of the rest behind so many octets
pub took-on : (c l m : Connection) (piece rest : List ℕ) (used n : ℕ) → rest ≡ drop used piece → Took c piece l (drop used piece) → Took l rest m (drop n rest) → Took c piece m (drop (used + n) piece)
took-on c l m piece rest used n same p q =
    let further : drop n rest ≡ drop (used + n) piece = ap (drop n) same ∙ drop-drop n used piece in
    let here : Took l (drop used piece) m (drop n rest) = subst (λ (x : List ℕ). Took l x m (drop n rest)) same q in
    subst (λ (x : List ℕ). Took c piece m x) further (took-then c l m piece (drop used piece) (drop n rest) p here)

pub used-on : (l m : Connection) (piece rest : List ℕ) (used n : ℕ) → rest ≡ drop used piece → used ≤ length piece → GoesOn l rest n m → used + n ≤ length piece
used-on l m piece rest used n same u g =
    let k : length rest ≡ length (drop used piece) = ap length same in
    let d = length-drop used piece in
    let w = g.within in
    omega (arith, k, d, w, u)

-- nothing is left but what is dropped
pub took-all : (c l : Connection) (piece rest : List ℕ) (used : ℕ) → rest ≡ drop used piece → Took c piece l (drop used piece) → IsFed l rest l → Took c piece l []
took-all c l piece rest used same p f =
    took-then c l l piece (drop used piece) [] p (took-over l (drop used piece) (subst (λ (x : List ℕ). IsFed l x l) same f))

pub stopped-by : (c l m : Connection) (piece rest : List ℕ) (used : ℕ) (e : ConnFault) → rest ≡ drop used piece → used ≤ length piece → Took c piece l (drop used piece)
    → l.core.phase ≢ phase.Closed → Feeds l rest (Err e) m → Took l rest m rest → StoppedBy c piece used e m
stopped-by c l m piece rest used e same u p open' f t =
    record {
      within = u;
      before = l;
      took = p;
      was_open = open';
      feeds = subst (λ (x : List ℕ). Feeds l x (Err e) m) same f;
      kept = took-then c l m piece (drop used piece) (drop used piece) p (subst (λ (x : List ℕ). Took l x m x) same t);
    }

pub closed-by : (c l m : Connection) (piece rest : List ℕ) (used : ℕ) → rest ≡ drop used piece → Took c piece l (drop used piece) → l.core.phase ≢ phase.Closed → IsTaken l rest m → ClosesWell c piece m
closed-by c l m piece rest used same p open' t =
    λ closed.
    inr (record { before = l; left = drop used piece; took = p; was_open = open'; fed = t.0; feeds = subst (λ (x : List ℕ). Feeds l x (Ok t.0) m) same t.1 })
