use Rattle.amqp_script.proofs.Entries.{has_own}
use Rattle.amqp_script.proofs.script.Script.apply.Goals as goal

pub print_entry-requires : goal.print_entry-requires
print_entry-requires g c = has_own _ _ _ _ c.make_room.ensures c.in-Ok.ensures.step
