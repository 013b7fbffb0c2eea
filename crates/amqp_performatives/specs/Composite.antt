-- The table of composite types: the number and the name of each descriptor (part 2, 2.7 and 2.8.14; part 3, 3.4).
use Rattle.std.specs.Prelude.{ℕ, List, codes}
use Rattle.amqp_performatives.specs.declared.composite.Composite.{Composite}
use Rattle.amqp_performatives.specs.declared.composite.Composite.TheVariants.{Open, Begin, Attach, Flow, Transfer, Disposition, Detach, End, Close, Error, Received, Accepted, Rejected, Released, Modified}

abbrev pub type_of : Composite → ℕ × List ℕ
type_of Open = (0x10, codes "amqp:open:list")
type_of Begin = (0x11, codes "amqp:begin:list")
type_of Attach = (0x12, codes "amqp:attach:list")
type_of Flow = (0x13, codes "amqp:flow:list")
type_of Transfer = (0x14, codes "amqp:transfer:list")
type_of Disposition = (0x15, codes "amqp:disposition:list")
type_of Detach = (0x16, codes "amqp:detach:list")
type_of End = (0x17, codes "amqp:end:list")
type_of Close = (0x18, codes "amqp:close:list")
type_of Error = (0x1d, codes "amqp:error:list")
type_of Received = (0x23, codes "amqp:received:list")
type_of Accepted = (0x24, codes "amqp:accepted:list")
type_of Rejected = (0x25, codes "amqp:rejected:list")
type_of Released = (0x26, codes "amqp:released:list")
type_of Modified = (0x27, codes "amqp:modified:list")
