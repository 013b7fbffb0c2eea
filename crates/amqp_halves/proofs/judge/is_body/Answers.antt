use Rattle.amqp_halves.proofs.FieldRows.{named_fits}
use Rattle.amqp_halves.proofs.judge.is_body.Goals as goal

pub returns-then-is_named : goal.returns-then-is_named
returns-then-is_named c a b rest l e = named_fits _ _ _ (c.if-is_named.ensures a l) (c.fits.ensures b rest e)
