-- What is done with a connection that is lent keeps what is to stay.
use Rattle.std.proofs.Common.{◌≡◌, ◌≤◌, ℕ, List, [], ◌∷◌, ◌++◌, length, take, Option, Some, None, Result, Ok, Err, IfOk, OnErr, refl, ap, ◌∙◌}
use Rattle.std.proofs.lemmas.List.{take-append-le}
use Rattle.amqp_performatives.specs.declared.error.AmqpError.{AmqpError}
use Rattle.amqp_rules.specs.declared.op.Op.{Op}
use Rattle.amqp_rules.specs.declared.reply.Reply.{Reply}
use Rattle.amqp_rules.specs.declared.refusal.Refusal.{Refusal}
use Rattle.amqp_laws.specs.declared.entry.Entry.{Entry}
use Rattle.amqp_laws.specs.declared.entry.Step.TheVariants.{Own}
use Rattle.amqp_journal.specs.Units.{units, octets_sent, PutWithin}
use Rattle.amqp_journal.proofs.UnitLaws.{logged-behind, put-behind}
use Rattle.amqp_conn.specs.declared.refused.CloseRefusal.{CloseRefusal}
use Rattle.amqp_conn.specs.declared.refused.CloseRefusal.TheVariants as close
use Rattle.amqp_conn.specs.declared.phase.Phase.TheVariants as phase
use Rattle.amqp_conn.specs.Connection.{Core, Connection, connection, stepping, sending, in_phase}
use Rattle.amqp_conn.specs.Calling.{Performs, Closes, forgotten}
use Rattle.amqp_conn.specs.Octets.{close_frame}
use Rattle.amqp_rules.specs.Sending.{octets_of}
use Rattle.amqp_conn.specs.Pumping.{joined, OnlyWrote}
use Rattle.amqp_conn.specs.Leaving.{Gives, but_left}
use Rattle.amqp_links.specs.declared.left.Left.{Left}
use Rattle.std.specs.declared.alloc.AllocError.{AllocError}
use Rattle.amqp_ready.specs.Gathering.{gone, gone_of}
use Rattle.amqp_ready.specs.Lending.{heard_before, heard_in, kept, still}

-- units that come behind change nothing of what was popped
pub gone-more : (c d : Connection) (more : List (List ℕ)) → c.core.log.popped ≤ length (units c.core.log) → d.core.log.popped ≡ c.core.log.popped → units d.core.log ≡ units c.core.log ++ more → gone d ≡ gone c
unfolding gone
gone-more c d more within popped all =
    ap (λ n. joined (take n (units d.core.log))) popped
    ∙ ap (λ us. joined (take c.core.log.popped us)) all
    ∙ ap joined (take-append-le c.core.log.popped (units c.core.log) more within)

pub kept-parts : (c d : Connection) → d.unread ≡ c.unread → gone d ≡ gone c → heard_in d.core.log.journal ≡ heard_in c.core.log.journal → kept d ≡ kept c
unfolding kept
kept-parts c d u g h = λ i. record { unread = u i; popped = g i; heard = h i }

-- what is left is no part of what was popped
gone-left : (c d : Connection) → but_left d.core ≡ but_left c.core → gone d ≡ gone c
unfolding gone
gone-left c d e = ap (λ (k : Core). gone_of k.log) e

pub kept-left : (c d : Connection) → but_left d.core ≡ but_left c.core → d.unread ≡ c.unread → kept d ≡ kept c
kept-left c d e u = kept-parts c d u (gone-left c d e) (ap (λ (k : Core). heard_in k.log.journal) e)

pub kept-gives : (c d : Connection) (result : Result (Option Left) AllocError) → IfOk result (λ given. Gives c.core given d.core) → d.unread ≡ c.unread → OnErr result (d ≡ c) → kept d ≡ kept c
kept-gives c d (Ok None) (none, still, e) u h = kept-left c d e u
kept-gives c d (Ok (Some x)) (first, e) u h = kept-left c d e u
kept-gives c d (Err e) g u h = ap kept h

heard-own : (entries : List Entry) (op : Op) (reply : Reply) → heard_in (entries ++ record { step = Own op; reply = reply } ∷ []) ≡ heard_in entries
heard-own [] op reply = refl
heard-own (e ∷ entries) op reply = ap (heard_before e.step) (heard-own entries op reply)

pub kept-gone : (c d : Connection) → kept d ≡ kept c → gone d ≡ gone c
unfolding kept
kept-gone c d e = ap (λ k. k.popped) e

stepped : (c : Connection) (op : Op) (reply : Reply) → PutWithin (length c.core.log.journal) c.core.log.put → c.core.log.popped ≤ length (units c.core.log)
    → kept (connection (stepping (Own op) reply c.core) c.unread) ≡ kept c
stepped c op reply w s =
    let e : Entry = record { step = Own op; reply = reply } in
    let d : Connection = connection (stepping (Own op) reply c.core) c.unread in
    kept-parts c d refl (gone-more c d (octets_sent e) s refl (logged-behind c.core.log e w)) (heard-own c.core.log.journal op reply)

same : (c d : Connection) → d.core ≡ c.core → d.unread ≡ c.unread → d ≡ c
same c d k u = λ i. record { core = k i; unread = u i }

at : (c d : Connection) (k : Core) → d.core ≡ k → d.unread ≡ c.unread → kept (connection k c.unread) ≡ kept c → kept d ≡ kept c
at c d k e u h = ap kept (same (connection k c.unread) d e u) ∙ h

pub kept-performs : (c d : Connection) (op : Op) (result : Result (Unit {0}) Refusal) → PutWithin (length c.core.log.journal) c.core.log.put → c.core.log.popped ≤ length (units c.core.log)
    → Performs c.core op result d.core → d.unread ≡ c.unread → kept d ≡ kept c
kept-performs c d op (Ok done) w s (reply, due, is) u = at c d (stepping (Own op) reply c.core) is u (stepped c op reply w s)
kept-performs c d op (Err e) w s (refused, is) u = at c d c.core is u refl

pub kept-closes : (c d : Connection) (error : Option AmqpError) (result : Result (Unit {0}) CloseRefusal) → c.core.log.popped ≤ length (units c.core.log)
    → Closes c.core error result d.core → d.unread ≡ c.unread → kept d ≡ kept c
kept-closes c d error (Ok done) s (running, written, is) u =
    let x = octets_of (close_frame error) in
    let k : Core = in_phase phase.Closing (sending x c.core) in
    at c d k is u (kept-parts c (connection k c.unread) refl (gone-more c (connection k c.unread) (x ∷ []) s refl (put-behind c.core.log x)) refl)
kept-closes c d error (Err close.NotOpen) s (a, is) u = at c d c.core is u refl
kept-closes c d error (Err close.NotWritable) s (a, b, is) u = at c d c.core is u refl
kept-closes c d error (Err close.FrameTooBig) s (a, b, is) u = at c d c.core is u refl
kept-closes c d error (Err close.NoMemory) s (a, b, is) u = at c d c.core is u refl

pub kept-forgotten : (c d : Connection) → d ≡ forgotten c → kept d ≡ kept c
unfolding kept gone
kept-forgotten c d e = ap kept e

pub kept-still : (c d : Connection) → kept d ≡ kept c → still d ≡ still c
unfolding kept still
kept-still c d e = ap (λ k. record { unread = k.unread; heard = k.heard }) e

-- units were popped, and nothing else changed
pub still-popped : (c d : Connection) → OnlyWrote c d → still d ≡ still c
unfolding still
still-popped c d e = ap still e
