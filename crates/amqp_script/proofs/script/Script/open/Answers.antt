use Rattle.amqp_script.proofs.Entries.{is_longer}
use Rattle.amqp_script.proofs.script.Script.open.Goals as goal

pub print_entry-requires : goal.print_entry-requires
print_entry-requires g c = is_longer _ _ _ _ c.make_room.ensures c.in-Ok.ensures.step
