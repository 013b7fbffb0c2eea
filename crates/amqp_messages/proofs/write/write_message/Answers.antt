use Rattle.std.proofs.Common.{ℕ, List, ◌++◌, ap, subst, ◌∙◌}
use Rattle.std.specs.Prelude.{vec_capacity}
use Rattle.amqp_types.specs.Canon.{Appends}
use Rattle.amqp_messages.specs.declared.section.Section.{Section}
use Rattle.amqp_messages.specs.Messages.{seen_all}
use Rattle.amqp_messages.specs.Written.{bare_forms}
use Rattle.amqp_messages.proofs.Canonical.{written_message}
use Rattle.amqp_messages.proofs.write.write_message.Goals as goal

pub returns-in-Ok-put_sections-clause-ok : goal.returns-in-Ok-put_sections-clause-ok
returns-in-Ok-put_sections-clause-ok c =
    let put = subst (λ (ss : List Section). Appends (bare_forms (seen_all ss)) c.in-Ok.octets.items c.put_sections.new.out.items) c.as_slice.ensures c.in-Ok-put_sections.ensures in
    written_message (seen_all c.args.message.now.sections) (vec_capacity c.in-Ok.octets) c.in-Ok.octets.items c.args.out.now.items c.put_sections.new.out.items c.extend_from_slice.new.self.items c.in-Ok.ensures.room put c.in-Ok.ensures.empty
    (c.in_ok-extend_from_slice-in-Ok-put_sections.ensures.items ∙ ap (λ (y : List ℕ). c.args.out.now.items ++ y) c.deref.ensures.value)
