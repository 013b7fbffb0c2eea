use Rattle.std.proofs.Common.{refl}
use Rattle.amqp_decoder.proofs.setup.OpenRef.owned.Goals as goal

pub returns-clause-part : goal.returns-clause-part
returns-clause-part c = rw (c.in_ok-boxed.ensures, c.in_ok-container_id.ensures, c.in_ok-hostname.ensures, c.in_ok-outgoing_locales.ensures.part, c.in_ok-incoming_locales.ensures.part, c.in_ok-offered_capabilities.ensures.part, c.in_ok-desired_capabilities.ensures.part, c.in_ok-properties.ensures.part) refl

pub returns-clause-fair : goal.returns-clause-fair
returns-clause-fair c = rw (c.in_ok-boxed.ensures, c.in_ok-outgoing_locales.ensures.fair, c.in_ok-incoming_locales.ensures.fair, c.in_ok-offered_capabilities.ensures.fair, c.in_ok-desired_capabilities.ensures.fair, c.in_ok-properties.ensures.fair) refl
