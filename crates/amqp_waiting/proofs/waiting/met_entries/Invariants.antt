use Rattle.std.proofs.Common.{◌≡◌, ◌-◌, length, take}
use Rattle.std.specs.Prelude.{filter_map}
use Rattle.indexmap.specs.IndexMap.{IsUnique}
use Rattle.amqp_waiting.specs.Kept.{met_entry, same_key}
use Rattle.amqp_waiting.proofs.waiting.met_entries.Given as goal

abbrev pub invariant-loop-key : goal.invariant-loop-key
invariant-loop-key l = (l.entries.entries ≡ filter_map (met_entry l.role l.unsettled) (take l.place l.fn.items.entries)) × IsUnique same_key l.entries

abbrev pub decreases-loop-key : goal.decreases-loop-key
decreases-loop-key l = length l.fn.items.entries - l.place
