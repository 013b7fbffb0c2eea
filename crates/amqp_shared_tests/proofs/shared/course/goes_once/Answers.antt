use denote.Param.{param}
use Rattle.amqp_shared.proofs.Crossing.{shared_sync}
use Rattle.amqp_shared_tests.proofs.shared.course.goes_once.Goals as goal

-- a `&` to the runtime, which is `Sync` by its bound, and one to what threads share
pub for_each_mut-requires-sync-F : goal.for_each_mut-requires-sync-F
for_each_mut-requires-sync-F g c κs within = record {
  shared = λ x b o κ. (
    (
      ((λ q. tt), c.type_bounds.sync-R.shared x.0.now x.0.ref_ptr.0 x.0.ref_ptr.1 κs.1.1.1.1.1.1.1.0),
      (((λ q. tt), (shared_sync (param 0 g.row.N) g.N.Name g.N.Ledger).shared x.1.now x.1.ref_ptr.0 x.1.ref_ptr.1 κs.1.1.1.1.1.1.1.1.0), tt),
    ),
    λ q. tt,
  );
}
