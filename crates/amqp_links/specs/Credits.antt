-- The credit of our end of a link: by it the end's role is told.
use Rattle.amqp_performatives.specs.declared.bodies.Role.{Role}
use Rattle.amqp_performatives.specs.declared.bodies.Role.TheVariants.{Sender, Receiver}
use Rattle.amqp_flow.specs.Credit.{CreditView}
use Rattle.amqp_links.specs.declared.credit.Credit.{Credit}
use Rattle.amqp_links.specs.declared.credit.Credit.TheVariants.{Sending, Receiving}

abbrev pub role_of : Credit → Role
role_of (Sending c) = Sender
role_of (Receiving c) = Receiver

abbrev pub credit_in : Credit → CreditView
credit_in (Sending c) = c
credit_in (Receiving c) = c
