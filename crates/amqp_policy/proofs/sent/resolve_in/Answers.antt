use Rattle.std.proofs.Common.{rules}
use Rattle.std.proofs.lemmas.List.Edits.{map_over_more}
use Rattle.std.proofs.lemmas.List.{take_all, drop_all}
use Rattle.amqp_policy.specs.Sent.{resolved_if}
use Rattle.amqp_policy.proofs.sent.resolve_in.Goals as goal

pub loop-place-preserved : goal.loop-place-preserved
loop-place-preserved g c = search (rules, map_over_more (resolved_if {M = g.row.M.Denot} c.args.number))

pub returns : goal.returns
returns g c = search (rules, take_all, drop_all)
