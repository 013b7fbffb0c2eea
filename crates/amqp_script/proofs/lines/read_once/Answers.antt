use Rattle.std.proofs.Common.{length, subst, rules}
use Rattle.std.specs.Io.BufRead.{FillKeeps}
use Rattle.amqp_script.proofs.KnownOctets.{at_end}
use Rattle.amqp_script.proofs.lines.read_once.Goals as goal

pub returns-then-is_empty-clause-end : goal.returns-then-is_empty-clause-end
returns-then-is_empty-clause-end g c =
    let rested = c.fill_buf.follows.lender-at-none in
    let filled = subst (FillKeeps _ (g.R.Read.remaining rested) (g.R.BufRead.consumable_len rested)) c.in-Ok.is c.fill_buf.follows.holds-at-none in
    λ _. at_end _ _ (length c.in-Ok.octets.now) filled.0 c.in-Ok.ensures.end (search rules)
