use Rattle.amqp_performatives.specs.Composite.{type_of}
use Rattle.amqp_performatives.specs.Listed.{shown_fields}
use Rattle.amqp_frames.proofs.Puts.{canon_measured}
use Rattle.amqp_frames.proofs.writing.put_list.Goals as goal

pub returns : goal.returns
returns c = rw (canon_measured c.args.list.count c.args.list.size (type_of c.args.composite).0 (shown_fields c.args.fields.now) c.requires) c.put_described.ensures
