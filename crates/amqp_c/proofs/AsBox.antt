-- A handle and an unboxed caller own what a box of a caller owns.
use mathlib.Core.List.{[]}
use mir.Syntax.{impl, tnil, dnil}
use denote.Signature.{Slot, plain}
use Rattle.std_alloc.proofs.BoxSteps.Form.{Bx}
use Rattle.std_heap.specs.contracts.Global as Heap
use Rattle.std_heap.specs.contracts.GlobalAllocator.TheImpl.{ghosts, dict}
use Rattle.std_heap.proofs.Global.TheLaws as heap
use Rattle.amqp_caller.specs.contracts.caller.Caller as Caller
use Rattle.amqp_caller.proofs.caller.Caller.TheLaws as caller
use Rattle.amqp_c.specs.contracts.unboxed.Unboxed as Unboxed
use Rattle.amqp_c.specs.contracts.handle.Handle as Handle

abbrev pub E : Bx
E = record { row = Caller.the_row; laws = caller.the_row_laws; al = record { row = Heap.the_row; laws = heap.the_row_laws; g = ghosts; d = dict; drops = impl [] tnil dnil } }

abbrev pub FromAlloc : Slot 0
FromAlloc = plain (λ _. Heap.the_row)

abbrev pub FromUnboxed : Slot 0
FromUnboxed = plain (λ _. Unboxed.the_row Caller.the_row Heap.the_row ghosts)

abbrev pub FromHandle : Slot 0
FromHandle = plain (λ _. Handle.the_row)
