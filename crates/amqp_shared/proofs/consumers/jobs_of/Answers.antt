use Rattle.std.proofs.Common.{◌≡◌, [], ◌++◌, length, map, sym, ap, ◌∙◌, append-nil, rules}
use Rattle.std.proofs.lemmas.List.{nil_from_length}
use Rattle.amqp_shared.specs.Passes.{Tally}
use Rattle.amqp_shared.proofs.consumers.jobs_of.Goals as goal

pub returns : goal.returns
returns g c =
    let jobs = c.loop-pass.jobs.items in
    let was = c.loop-pass.invariant in
    let passes = c.loop-pass.pass-iterator.a.rest.items in
    let works = c.loop-pass.pass-iterator.b.rest.items in
    let none : length passes ≡ 0 = search rules in
    let no_work : length works ≡ 0 = search rules in
    let past : passes ≡ [] = nil_from_length passes none in
    record {
      passes = sym (append-nil (map (λ j. j.pass) jobs)) ∙ ap (λ r. map (λ j. j.pass) jobs ++ r) (sym past) ∙ was.0;
      works = sym (append-nil (map (λ j. j.work) jobs)) ∙ ap (λ r. map (λ j. j.work) jobs ++ r) (sym (nil_from_length works no_work)) ∙ was.1;
      terms = sym (append-nil (map (λ j. j.terms) jobs)) ∙ ap (λ r. map (λ j. j.terms) jobs ++ map (λ (p : Tally). c.args.terms) r) (sym past) ∙ was.2;
      more = sym (append-nil (map (λ j. j.batch.more) jobs)) ∙ ap (λ r. map (λ j. j.batch.more) jobs ++ map (λ (p : Tally). c.args.more) r) (sym past) ∙ was.3;
    }
