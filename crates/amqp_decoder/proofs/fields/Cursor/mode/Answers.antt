use Rattle.amqp_performatives.specs.Bodies.{ubyte}
use Rattle.std.proofs.Common.{ℕ}
use Rattle.std.specs.Prelude.{nat_le}
use Rattle.amqp_decoder.proofs.FirstField.{optional_misses, optional_absent, optional_present}
use Rattle.amqp_decoder.proofs.fields.Cursor.mode.Goals as goal

pub returns-in-Some : goal.returns-in-Some
returns-in-Some c = optional_absent ubyte (λ (n : ℕ). nat_le n c.args.most) c.args.self.depth c.args.self.left c.args.self.octets.now c.in-Some.others.depth c.in-Some.others.left c.in-Some.others.octets.now c.in-Some.ensures

pub returns-in-Some-required_mode : goal.returns-in-Some-required_mode
returns-in-Some-required_mode c = optional_present ubyte (λ (n : ℕ). nat_le n c.args.most) c.args.self.depth c.args.self.left c.args.self.octets.now c.in-Some-required_mode.value c.in-Some-required_mode.others.depth c.in-Some-required_mode.others.left c.in-Some-required_mode.others.octets.now c.in-None.ensures c.in-Some-required_mode.ensures

pub returns-in-None-required_mode : goal.returns-in-None-required_mode
returns-in-None-required_mode c = optional_misses ubyte (λ (n : ℕ). nat_le n c.args.most) c.args.self.depth c.args.self.left c.args.self.octets.now c.in-None.ensures c.in-None-required_mode.ensures
