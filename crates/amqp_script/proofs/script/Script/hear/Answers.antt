use Rattle.amqp_script.proofs.Entries.{has_entry}
use Rattle.amqp_script.proofs.script.Script.hear.Goals as goal

pub print_entry-requires : goal.print_entry-requires
print_entry-requires g c = has_entry _ _ _ _ _ c.make_room.ensures c.in-Ok.ensures.step
