use Rattle.std.proofs.Common.{◌≡◌, ◌||◌, ◌∙◌, true, false, refl, sym}
use Rattle.amqp_steps.specs.Resuming.{in_part}
use Rattle.amqp_steps.proofs.resume.change_resumed.Goals as goal

pub returns-then-over : goal.returns-then-over
returns-then-over c =
    let e : (c.args.settled || in_part c.args.standing.now.verdict) ≡ true = rw c.is_partial.ensures at (sym c.either-over.ensures ∙ c.if-over.true) in
    rw e refl

pub returns : goal.returns
returns c =
    let e : (c.args.settled || in_part c.args.standing.now.verdict) ≡ false = rw c.is_partial.ensures at (sym c.either-over.ensures ∙ c.if-over.false) in
    rw (e, c.in_ok-local.ensures, c.in_ok-remote.ensures) refl
