use Rattle.amqp_types.specs.Heads.{datum_of}
use Rattle.amqp_decoder.proofs.front.read_described.Goals as goal

pub returns-then-is_named : goal.returns-then-is_named
returns-then-is_named c = c.read_open.ensures (datum_of c.args.descriptor) (c.is_named.ensures.0 c.if-is_named.true)

pub returns-then-is_named-2 : goal.returns-then-is_named-2
returns-then-is_named-2 c = c.read_begin.ensures (datum_of c.args.descriptor) (c.is_named-2.ensures.0 c.if-is_named-2.true)

pub returns-then-is_named-3 : goal.returns-then-is_named-3
returns-then-is_named-3 c = c.read_attach.ensures (datum_of c.args.descriptor) (c.is_named-3.ensures.0 c.if-is_named-3.true)

pub returns-then-is_named-4 : goal.returns-then-is_named-4
returns-then-is_named-4 c = c.read_detach.ensures (datum_of c.args.descriptor) (c.is_named-4.ensures.0 c.if-is_named-4.true)

pub returns-then-is_named-5 : goal.returns-then-is_named-5
returns-then-is_named-5 c = c.read_end.ensures (datum_of c.args.descriptor) (c.is_named-5.ensures.0 c.if-is_named-5.true)

pub returns-then-is_named-6 : goal.returns-then-is_named-6
returns-then-is_named-6 c = c.read_close.ensures (datum_of c.args.descriptor) (c.is_named-6.ensures.0 c.if-is_named-6.true)
