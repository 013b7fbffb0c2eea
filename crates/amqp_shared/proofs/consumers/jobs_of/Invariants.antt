use Rattle.std.proofs.Common.{◌≡◌, ◌++◌, length, map}
use Rattle.amqp_shared.specs.Passes.{Tally}
use Rattle.amqp_shared.proofs.consumers.jobs_of.Given as goal

abbrev pub invariant-loop-pass : goal.invariant-loop-pass
invariant-loop-pass g l =
    (map (λ job. job.pass) l.jobs.items ++ l.pass-iterator.a.rest.items ≡ l.fn.passes.items)
    × (map (λ job. job.work) l.jobs.items ++ l.pass-iterator.b.rest.items ≡ l.fn.works.items)
    × (map (λ job. job.terms) l.jobs.items ++ map (λ (p : Tally). l.fn.terms) l.pass-iterator.a.rest.items ≡ map (λ (p : Tally). l.fn.terms) l.fn.passes.items)
    × (map (λ job. job.batch.more) l.jobs.items ++ map (λ (p : Tally). l.fn.more) l.pass-iterator.a.rest.items ≡ map (λ (p : Tally). l.fn.more) l.fn.passes.items)
    × (length l.pass-iterator.a.rest.items ≡ length l.pass-iterator.b.rest.items)
