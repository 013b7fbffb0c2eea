use Rattle.std.proofs.Common.{◌∙◌, sym, ap}
use Rattle.std.specs.Prelude.{slice_get}
use Rattle.amqp_waiting.proofs.Meeting.{next_met}
use Rattle.amqp_waiting.proofs.waiting.met_entries.Goals as goal

pub loop-key-preserved : goal.loop-key-preserved
loop-key-preserved c = (
  c.in_ok-put_met.ensures.entries
      ∙ next_met c.args.role c.args.unsettled.now c.args.items.now.entries c.loop-key.place (c.in-Some.key.now, c.in-Some.standing.now) c.in_ok-met.met c.loop-key.entries.entries
      c.as_slice-all.ensures.unique (ap (λ es. slice_get es c.loop-key.place) (sym c.as_slice-all.ensures.entries) ∙ sym c.in-Some.ensures.entry) c.in_ok-met.ensures c.loop-key.invariant.0,
  c.in_ok-put_met.ensures.unique,
)
