use Rattle.std.proofs.Common.{arith}
use Rattle.amqp_types.specs.Heads.{datum_of}
use Rattle.amqp_decoder.specs.Parts.{state_in}
use Rattle.amqp_decoder.proofs.DescribedLists.{unnamed_descriptor, unnamed_none}
use Rattle.amqp_decoder.proofs.StateParts.{state_takes, state_unfit, state_missing}
use Rattle.amqp_decoder.proofs.fields.Cursor.required_state.Goals as goal

pub other_state-requires-in-None-state_kind-2-clause-other : goal.other_state-requires-in-None-state_kind-2-clause-other
other_state-requires-in-None-state_kind-2-clause-other c = let f = c.in-Some-read_descriptor.ensures in unnamed_descriptor c.args.self.depth c.in-Some-read_descriptor.field-0-1 c.args.self.octets.now f.1 (datum_of c.in-Some-read_descriptor.descriptor) (omega (arith, c.requires.deep)) c.args.self.most f.2 f.3 c.in-None-state_kind-2.ensures

pub other_state-requires-in-None-read_descriptor-clause-other : goal.other_state-requires-in-None-read_descriptor-clause-other
other_state-requires-in-None-read_descriptor-clause-other c = unnamed_none c.args.self.depth c.args.self.octets.now (omega (arith, c.requires.deep)) c.args.self.most c.in-None-read_descriptor.ensures

pub returns-in-Some-state_fields : goal.returns-in-Some-state_fields
returns-in-Some-state_fields c = let o = c.in-Some.opened in state_takes c.in-Some-state_kind.kind c.args.self.depth c.args.self.left c.args.self.octets.now (datum_of o.descriptor) o.fields.depth o.fields.left o.fields.octets.now o.used (state_in c.in-Some-state_fields.state) c.after.result.depth c.after.result.left c.after.result.octets.now c.in-Some.ensures c.in-Some-state_kind.ensures c.in-Some-state_fields.ensures c.after.ensures

pub returns-in-None-state_fields : goal.returns-in-None-state_fields
returns-in-None-state_fields c = let o = c.in-Some.opened in state_unfit c.in-Some-state_kind.kind c.args.self.depth c.args.self.left c.args.self.octets.now (datum_of o.descriptor) o.fields.depth o.fields.left o.fields.octets.now o.used c.in-Some.ensures c.in-Some-state_kind.ensures c.requires.present.some c.in-None-state_fields.ensures

pub returns-in-Some-state_kind-2 : goal.returns-in-Some-state_kind-2
returns-in-Some-state_kind-2 c = let f = c.in-Some-read_descriptor.ensures in state_missing c.in-Some-state_kind-2.field-0 c.args.self.depth c.args.self.left c.in-Some-read_descriptor.field-0-1 c.args.self.octets.now f.1 (datum_of c.in-Some-read_descriptor.descriptor) (omega (arith, c.requires.deep)) c.args.self.most c.requires.present.some c.in-None.ensures f.2 f.3 c.in-Some-state_kind-2.ensures
