-- The numbers of faults and refusals, in the order in which they are tested.
use Rattle.std.specs.Prelude.{ℕ}
use Rattle.amqp_conn.specs.declared.fault.ConnFault.{ConnFault}
use Rattle.amqp_conn.specs.declared.fault.ConnFault.TheVariants as fault
use Rattle.amqp_conn.specs.declared.refused.StartFault.{StartFault}
use Rattle.amqp_conn.specs.declared.refused.StartFault.TheVariants as start
use Rattle.amqp_conn.specs.declared.refused.CloseRefusal.{CloseRefusal}
use Rattle.amqp_conn.specs.declared.refused.CloseRefusal.TheVariants as refusal

abbrev pub fault_number : ConnFault → ℕ
fault_number fault.BadHeader = 1
fault_number (fault.Framing e) = 2
fault_number fault.OutOfPlace = 3
fault_number fault.BadChannel = 4
fault_number fault.JournalFull = 5
fault_number fault.Closed = 6
fault_number fault.NoMemory = 7

abbrev pub start_number : StartFault → ℕ
start_number start.BadConfig = 1
start_number start.NoMemory = 2

abbrev pub close_number : CloseRefusal → ℕ
close_number refusal.NotOpen = 1
close_number refusal.NotWritable = 2
close_number refusal.FrameTooBig = 3
close_number refusal.NoMemory = 4
