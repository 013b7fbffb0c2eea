-- What the entries of a journal give is told, one after the other.
use Rattle.std.proofs.Common.{◌≡◌, ℕ, List, [], ◌∷◌, ◌++◌, Bool, true, false, Option, Some, None, Ok, Err, ◌-◌, take, drop, length, length-drop, refl, sym, ap, ◌∙◌, subst, arith, append_assoc, append-nil}
use Rattle.std.proofs.lemmas.List.{take_all}
use Rattle.std.specs.Bool.{OnTrue, OnFalse}
use Rattle.amqp_rules.specs.declared.reply.Given.{Given}
use Rattle.amqp_laws.specs.declared.entry.Entry.{Entry}
use Rattle.amqp_conn.specs.declared.fed.Fed.{Fed}
use Rattle.amqp_conn.specs.declared.fault.ConnFault.{ConnFault}
use Rattle.amqp_conn.specs.declared.fault.ConnFault.TheVariants as fault
use Rattle.amqp_conn.specs.Connection.{Connection}
use Rattle.amqp_conn.specs.Treating.{ending}
use Rattle.amqp_conn.specs.Feeding.{AddsEntry, Feeds}
use Rattle.amqp_conn.specs.Pumping.{AddsAll, Adds, given_by, Tells}
use Rattle.amqp_conn.proofs.Calls.{one-entry, closes-once}

-- what is left of a slice behind its front
pub rest_taken : (start : ℕ) (os : List ℕ) → take (length os - start) (drop start os) ≡ drop start os
rest_taken start os = take_all (length os - start) (drop start os) (omega (arith, length-drop start os))

adds-none : (h : Option (List Given)) → AddsAll h h []
adds-none None = tt
adds-none (Some u) = sym (append-nil u)

adds-then : (a b c : Option (List Given)) (x y : List Given) → AddsAll a b x → AddsAll b c y → AddsAll a c (x ++ y)
adds-then None b c x y p q = tt
adds-then (Some u) None c x y p q = absurd p
adds-then (Some u) (Some v) None x y p q = absurd q
adds-then (Some u) (Some v) (Some w) x y p q = q ∙ ap (λ z. z ++ y) p ∙ append_assoc u x y

given-append : (xs ys : List Entry) → given_by (xs ++ ys) ≡ given_by xs ++ given_by ys
given-append [] ys = refl
given-append (x ∷ xs) ys = ap (λ z. x.reply.given ∷ z) (given-append xs ys)

-- the journal stands, and nothing was told
pub tells-none : (before after : List Entry) (h : Option (List Given)) → after ≡ before → Tells before after h h
tells-none before after h e = record { entries = []; added = e ∙ sym (append-nil before); told = adds-none h }

pub tells-then : (x y z : List Entry) (a b c : Option (List Given)) → Tells x y a b → Tells y z b c → Tells x z a c
tells-then x y z a b c p q =
    record {
      entries = p.entries ++ q.entries;
      added = q.added ∙ ap (λ w. w ++ q.entries) p.added ∙ append_assoc x p.entries q.entries;
      told = subst (λ (w : List Given). AddsAll a c w) (sym (given-append p.entries q.entries)) (adds-then a b c (given_by p.entries) (given_by q.entries) p.told q.told);
    }

-- what one feed gave
pub tells-fed : (c d : Connection) (piece : List ℕ) (fed : Fed) (h h' : Option (List Given)) → Feeds c piece (Ok fed) d → OnTrue fed.stepped (Adds h h' fed.given) → OnFalse fed.stepped (h' ≡ h)
    → Tells c.core.log.journal d.core.log.journal h h'
tells-fed c d piece fed h h' f = by fed.stepped (one-entry c d piece fed f)
  where
    by : (b : Bool) → AddsEntry c.core.log.journal d.core.log.journal b fed.given → OnTrue b (Adds h h' fed.given) → OnFalse b (h' ≡ h) → Tells c.core.log.journal d.core.log.journal h h'
    by true (e, p, g) on off = record { entries = e ∷ []; added = p; told = subst (λ (x : Given). Adds h h' x) g on }
    by false (p, g) on off = subst (λ (x : Option (List Given)). Tells c.core.log.journal d.core.log.journal h x) (sym off) (tells-none c.core.log.journal d.core.log.journal h p)

ended : (e : ConnFault) (c d : Connection) → d ≡ record { core = ending e c.core; unread = [] } → d.core.log.journal ≡ c.core.log.journal
ended e c d is = ap (λ (x : Connection). x.core.log.journal) is ∙ (closes-once e c.core).journal

-- a fault adds no entry
pub fault-adds-none : (e : ConnFault) (c d : Connection) (piece : List ℕ) → Feeds c piece (Err e) d → d.core.log.journal ≡ c.core.log.journal
fault-adds-none fault.NoMemory c d piece f = ap (λ (x : Connection). x.core.log.journal) f.2
fault-adds-none fault.Closed c d piece f = ap (λ (x : Connection). x.core.log.journal) f.1
fault-adds-none fault.BadHeader c d piece f = ended fault.BadHeader c d f.1
fault-adds-none (fault.Framing e) c d piece f = ended (fault.Framing e) c d f.1
fault-adds-none fault.OutOfPlace c d piece f = ended fault.OutOfPlace c d f.1
fault-adds-none fault.BadChannel c d piece f = ended fault.BadChannel c d f.1
fault-adds-none fault.JournalFull c d piece f = ended fault.JournalFull c d f.1
