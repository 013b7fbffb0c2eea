use Rattle.std.proofs.Common.{refl}
use Rattle.amqp_decoder.proofs.setup.AttachRef.owned.Goals as goal

pub returns-clause-part : goal.returns-clause-part
returns-clause-part c = rw (c.in_ok-boxed.ensures, c.in_ok-name.ensures, c.in_ok-source.ensures.part, c.in_ok-target.ensures.part, c.in_ok-unsettled.ensures, c.in_ok-offered_capabilities.ensures.part, c.in_ok-desired_capabilities.ensures.part, c.in_ok-properties.ensures.part) refl

pub returns-clause-fair : goal.returns-clause-fair
returns-clause-fair c = rw (c.in_ok-boxed.ensures, c.in_ok-source.ensures.fair, c.in_ok-target.ensures.fair, c.in_ok-offered_capabilities.ensures.fair, c.in_ok-desired_capabilities.ensures.fair, c.in_ok-properties.ensures.fair) refl
