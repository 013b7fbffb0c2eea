-- What a handle owns: the box of a caller, and the right to free it, where it is live.
use base.Fml.{Fml, ftrue, ffalse}
use denote.RawPtr.{Ptr}
use Rattle.std.specs.Prelude.{Bool, true, false, Option, Some, None}
use Rattle.std.specs.Box.Ownership.{box_owns}
use Rattle.std.specs.Global.{Global}
use Rattle.std.specs.Coded.{Coded, coded_option}
use Rattle.std_heap.specs.contracts.GlobalAllocator.TheImpl.{ghosts}
use Rattle.amqp_caller.specs.contracts.caller.Caller.{the_row}

abbrev pub held : Global → Bool → Ptr → Option the_row.Denot → Fml
held alloc true p (Some x) = box_owns (ghosts.dealloc_token alloc) the_row p x
held alloc true p None = ffalse
held alloc false p (Some x) = ffalse
held alloc false p None = ftrue

-- how the logic stores what a handle has
abbrev pub held_coded : Coded (Option the_row.Denot)
held_coded = coded_option the_row.coded
