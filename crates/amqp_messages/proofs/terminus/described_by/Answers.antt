use Rattle.amqp_messages.proofs.LendingLaws.{described_is}
use Rattle.amqp_messages.proofs.terminus.described_by.Goals as goal

pub returns : goal.returns
returns c = described_is c.in_ok-descriptor.descriptor c.in_ok-body.body c.args.number c.args.items c.in_ok-descriptor.ensures c.in_ok-body.ensures
