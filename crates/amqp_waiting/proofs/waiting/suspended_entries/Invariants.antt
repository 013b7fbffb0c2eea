use Rattle.std.proofs.Common.{◌≡◌, ◌-◌, length, map, take}
use Rattle.amqp_waiting.specs.Kept.{suspended_entry}
use Rattle.amqp_waiting.proofs.waiting.suspended_entries.Given as goal

abbrev pub invariant-loop-key : goal.invariant-loop-key
invariant-loop-key l = l.aside.items ≡ map suspended_entry (take l.place l.fn.items.entries)

abbrev pub decreases-loop-key : goal.decreases-loop-key
decreases-loop-key l = length l.fn.items.entries - l.place
