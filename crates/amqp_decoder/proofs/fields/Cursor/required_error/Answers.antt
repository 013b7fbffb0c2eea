use Rattle.std.proofs.Common.{arith}
use Rattle.amqp_types.specs.Heads.{datum_of}
use Rattle.amqp_performatives.specs.Bodies.{error_type}
use Rattle.amqp_performatives.specs.Fair.{is_fair_error}
use Rattle.amqp_performatives.specs.Part.{IsDescriptor}
use Rattle.amqp_decoder.specs.Parts.{error_fields, error_in}
use Rattle.amqp_decoder.proofs.DescribedLists.{composite_takes, composite_unfit, composite_other, composite_missing, not_named}
use Rattle.amqp_decoder.proofs.fields.Cursor.required_error.Goals as goal

pub returns-in-Some-error_fields : goal.returns-in-Some-error_fields
returns-in-Some-error_fields c = composite_takes error_type error_fields is_fair_error c.args.self.depth c.args.self.left c.args.self.octets.now (datum_of c.in-Some.opened.descriptor) c.in-Some.opened.fields.depth c.in-Some.opened.fields.left c.in-Some.opened.fields.octets.now c.in-Some.opened.used (error_in c.in-Some-error_fields.error) c.after.result.depth c.after.result.left c.after.result.octets.now c.in-Some.ensures (c.is_named.ensures.0 c.if-not-is_named.false) c.in-Some-error_fields.ensures c.after.ensures

pub returns-in-None-error_fields : goal.returns-in-None-error_fields
returns-in-None-error_fields c = composite_unfit error_type error_fields is_fair_error c.args.self.depth c.args.self.left c.args.self.octets.now (datum_of c.in-Some.opened.descriptor) c.in-Some.opened.fields.depth c.in-Some.opened.fields.left c.in-Some.opened.fields.octets.now c.in-Some.opened.used c.in-Some.ensures (omega arith) c.in-None-error_fields.ensures

pub returns-then-not-is_named : goal.returns-then-not-is_named
returns-then-not-is_named c = composite_other error_type error_fields is_fair_error c.args.self.depth c.args.self.left c.args.self.octets.now (datum_of c.in-Some.opened.descriptor) c.in-Some.opened.fields.depth c.in-Some.opened.fields.left c.in-Some.opened.fields.octets.now c.in-Some.opened.used c.in-Some.ensures (omega arith) (not_named c.is_named.result (IsDescriptor error_type (datum_of c.in-Some.opened.descriptor)) c.is_named.ensures c.if-not-is_named.true)

pub returns-in-None : goal.returns-in-None
returns-in-None c = composite_missing error_type error_fields is_fair_error c.args.self.depth c.args.self.left c.args.self.octets.now c.in-None.ensures (omega arith)
