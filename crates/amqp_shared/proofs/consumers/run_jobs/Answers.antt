use Rattle.std.proofs.Common.{◌≡◌, length, vec_len, slice_index_or, sym, subst, arith, rules}
use Rattle.amqp_shared.specs.Batching.{FinishesBatches}
use denote.Param.{param}
use denote.Param.Send.{sendable}
use Rattle.std.proofs.Crossing.{crosses}
use Rattle.amqp_shared.proofs.Crossing.{shared_sync, job_send}
use Rattle.amqp_shared.proofs.Found.{if_ok-map}
use Rattle.amqp_shared.proofs.consumers.run_jobs.Goals as goal

pub returns-clause-each : goal.returns-clause-each
returns-clause-each g c =
    let size : length c.args.jobs.items ≡ vec_len c.args.jobs = search rules in
    if_ok-map _ _ c.map_vec.result (λ v h i j d low.
    let x = (h i d (omega (arith, size, low))).1 in
    let done = slice_index_or v.items i d in
    subst (λ job. FinishesBatches g.W.Work.consumes job.terms job.batch.more (record { pass = job.pass; work = job.work }) done.count done.left done.stopped (record { pass = done.pass; work = done.work })) (sym (x.job_is j)) x.call.met) c.map_vec.ensures.each

-- a `&` to the runtime, which is `Sync` by its bound, and one to what threads share
pub map_vec-requires-sync-F : goal.map_vec-requires-sync-F
map_vec-requires-sync-F g c κs within = record {
  shared = λ x b o κ. (
    (
      ((λ q. tt), c.type_bounds.sync-R.shared x.0.now x.0.ref_ptr.0 x.0.ref_ptr.1 κs.1.1.1.1.1.1.1.0),
      (((λ q. tt), (shared_sync (param 0 g.row.N) g.N.Name g.N.Ledger).shared x.1.now x.1.ref_ptr.0 x.1.ref_ptr.1 κs.1.1.1.1.1.1.1.1.0), tt),
    ),
    λ q. tt,
  );
}

pub map_vec-requires-send-J : goal.map_vec-requires-send-J
map_vec-requires-send-J g c κs within = search (sendable, crosses, job_send) depth 40 fits 20000
