-- An operation that its entry keeps.
use Rattle.std.proofs.Common.{◌≡◌, Result, Ok, Err, refl, sym, ap, subst}
use Rattle.std.specs.Prelude.{OnOk, OnErr, IfErr}
use Rattle.amqp_rules.specs.declared.op.Op.{Op}
use Rattle.amqp_rules.specs.declared.reply.Reply.{Reply}
use Rattle.amqp_rules.specs.declared.refusal.Refusal.{Refusal}
use Rattle.amqp_rules.specs.declared.refusal.Refusal.TheVariants as refusal
use Rattle.amqp_laws.specs.declared.entry.Step.TheVariants.{Own}
use Rattle.amqp_journal.specs.Log.{Log, own_due, Extends, IsRefusal}
use Rattle.amqp_conn.specs.declared.phase.Phase.{Phase}
use Rattle.amqp_conn.specs.declared.phase.Phase.TheVariants as phase
use Rattle.amqp_conn.specs.Connection.{Core, stepping}
use Rattle.amqp_conn.specs.Calling.{due_in, Performs}

extended : (k : Core) (log : Log) (op : Op) (due : Result Reply Refusal) → k.phase ≡ phase.Running → own_due k.log op ≡ due → Extends k.log (Own op) due log
    → (reply : Reply) × (due_in k.phase k.log op ≡ Ok reply) × (record k { log = log } ≡ stepping (Own op) reply k)
extended k log op (Ok reply) running e is = (reply, subst (λ (p : Phase). due_in p k.log op ≡ Ok reply) (sym running) e, ap (λ (l : Log). record k { log = l }) is)
extended k log op (Err r) running e is = absurd is

pub performs : (k : Core) (log : Log) (op : Op) (r : Result (Unit {0}) Refusal) → k.phase ≡ phase.Running → OnOk r (Extends k.log (Own op) (own_due k.log op) log)
    → IfErr r (IsRefusal refusal.NoMemory (own_due k.log op)) → OnErr r (log ≡ k.log) → Performs k op r (record k { log = log })
performs k log op (Ok done) running step refused same = extended k log op (own_due k.log op) running refl step
performs k log op (Err e) running step refused same =
    (subst (λ (p : Phase). IsRefusal refusal.NoMemory (due_in p k.log op) e) (sym running) refused, ap (λ (l : Log). record k { log = l }) same)
