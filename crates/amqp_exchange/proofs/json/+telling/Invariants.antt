use Rattle.std.proofs.Common.{◌+◌, ◌*◌}
use Rattle.amqp_exchange.proofs.json.+telling.Given as goal

abbrev pub decreases-write_value : goal.decreases-write_value
decreases-write_value g l = 3 * l.depth

abbrev pub decreases-write_values : goal.decreases-write_values
decreases-write_values g l = 3 * l.depth + 1

abbrev pub decreases-write_map : goal.decreases-write_map
decreases-write_map g l = 3 * l.depth + 1

abbrev pub decreases-write_list : goal.decreases-write_list
decreases-write_list g l = 3 * l.depth + 2
