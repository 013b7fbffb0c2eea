use Rattle.std.proofs.Common.{refl, arith}
use Rattle.amqp_types.specs.declared.class.Run.TheVariants as Run
use Rattle.amqp_types.specs.Datum.{octets}
use Rattle.amqp_decoder.proofs.FirstField.{leaf_misses, borrowed_misses}
use Rattle.amqp_performatives.specs.Fair.{is_tag}
use Rattle.amqp_decoder.proofs.FirstField.{tag_takes, tag_unfit}
use Rattle.amqp_decoder.proofs.fields.Cursor.required_tag.Goals as goal

pub returns-then-octets-le-MAX_LEN-clause-reads : goal.returns-then-octets-le-MAX_LEN-clause-reads
returns-then-octets-le-MAX_LEN-clause-reads c =
    let text = c.in-Some.octets.now in
    tag_takes c.args.self.depth c.args.self.left c.args.self.octets.now text text c.in-Some.used c.after.result.depth c.after.result.left c.after.result.octets.now c.in-Some.ensures c.args.self.some (refl, c.if-octets-le-MAX_LEN.true) c.after.ensures

pub returns-else-octets-le-MAX_LEN-clause-reads : goal.returns-else-octets-le-MAX_LEN-clause-reads
returns-else-octets-le-MAX_LEN-clause-reads c = tag_unfit c.args.self.depth c.args.self.left c.args.self.octets.now c.in-Some.octets.now c.in-Some.used c.in-Some.ensures c.args.self.some (omega arith) c.if-octets-le-MAX_LEN.false

pub returns-in-None-clause-reads : goal.returns-in-None-clause-reads
returns-in-None-clause-reads c = leaf_misses (λ t. octets Run.Binary t) is_tag c.args.self.depth c.args.self.left c.args.self.octets.now (borrowed_misses (λ t. octets Run.Binary t) c.args.self.octets.now c.in-None.ensures) (λ b. omega arith) (omega arith)
