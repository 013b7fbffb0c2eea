use Rattle.std.proofs.Common.{ℕ, List, subst}
use Rattle.amqp_messages.specs.Messages.{seen_all, IsSome, Refuses}
use Rattle.amqp_messages.proofs.Sequences.{refused, read_message, same_sections}
use Rattle.amqp_messages.proofs.message.read_message.Goals as goal

pub returns-in-Err-clause-answer : goal.returns-in-Err-clause-answer
returns-in-Err-clause-answer c = subst (λ (os : List ℕ). Refuses os c.in-Err.fault) c.as_slice.ensures c.in-Err.ensures

pub returns-in-Err-clause-only : goal.returns-in-Err-clause-only
returns-in-Err-clause-only c = λ ss m. refused c.args.octets.now c.in-Err.fault ss (subst (λ (os : List ℕ). Refuses os c.in-Err.fault) c.as_slice.ensures c.in-Err.ensures) m

pub returns-in-Ok-sections_of-clause-answer : goal.returns-in-Ok-sections_of-clause-answer
returns-in-Ok-sections_of-clause-answer c = read_message c.args.octets.now c.in-Ok-sections_of.sections (subst IsSome c.as_slice.ensures c.in-Ok.ensures) c.in-Ok-sections_of.ensures

pub returns-in-Ok-sections_of-clause-only : goal.returns-in-Ok-sections_of-clause-only
returns-in-Ok-sections_of-clause-only c = λ ss m. same_sections (seen_all c.in-Ok-sections_of.sections) ss c.args.octets.now c.in-Ok-sections_of.ensures m.spelled
