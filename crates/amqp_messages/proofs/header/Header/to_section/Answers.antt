use Rattle.std.proofs.Common.{refl}
use Rattle.amqp_types.proofs.Views.{view_list}
use Rattle.amqp_messages.proofs.header.Header.to_section.Goals as goal

pub returns : goal.returns
returns c = rw (view_list, c.in_ok-items.ensures, c.fields.ensures) refl
