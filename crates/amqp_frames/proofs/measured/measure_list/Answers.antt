use Rattle.std.proofs.Common.{◌+◌, ℕ, Option, Some, sym, ap, ◌∙◌}
use Rattle.amqp_types.specs.Reading.{◌>>=◌}
use Rattle.amqp_types.specs.Canon.{canon}
use Rattle.amqp_performatives.specs.Listed.{shown_fields}
use Rattle.amqp_frames.specs.Field.{composite_datum, size_answer}
use Rattle.amqp_frames.proofs.Composites.{size_from}
use Rattle.amqp_frames.proofs.Measuring.{canon_sized, no_form, refused_form, measured_list}
use Rattle.amqp_frames.proofs.measured.measure_list.Goals as goal

pub returns-in_default : goal.returns-in_default
returns-in_default c code channel payload some small n =
    let ds = shown_fields c.args.fields.now in
    no_form channel c.args.max (canon (composite_datum code ds)) payload (canon_sized code ds some small ∙ ap size_from (sym c.in_default.ensures))

pub returns-in_default-list_len : goal.returns-in_default-list_len
returns-in_default-list_len c code channel payload some small n =
    let ds = shown_fields c.args.fields.now in
    no_form channel c.args.max (canon (composite_datum code ds)) payload
    (canon_sized code ds some small ∙ ap size_from (sym c.in-Some.ensures) ∙ ap (λ (o : Option ℕ). o >>= λ n. Some (n + 3)) (sym c.in_default-list_len.ensures))

pub returns-in-Ok : goal.returns-in-Ok
returns-in-Ok c code channel payload some small n =
    let ds = shown_fields c.args.fields.now in
    let size = c.in-Some-list_len.size + 3 in
    measured_list size c.in-Ok.size channel c.args.max code ds payload c.in-Some.list
    (ap (λ (o : Option ℕ). o >>= λ n. Some (n + 3)) c.in-Some-list_len.ensures ∙ ap size_from c.in-Some.ensures ∙ sym (canon_sized code ds some small))
    (c.in-Ok.ensures ∙ ap (λ (k : ℕ). size_answer (8 + (size + k)) c.args.max) (sym n)) c.in-Some.ensures

pub returns-in-Err : goal.returns-in-Err
returns-in-Err c code channel payload some small n =
    let ds = shown_fields c.args.fields.now in
    let size = c.in-Some-list_len.size + 3 in
    refused_form size channel c.args.max (canon (composite_datum code ds)) payload c.in-Err.refusal
    (ap (λ (o : Option ℕ). o >>= λ n. Some (n + 3)) c.in-Some-list_len.ensures ∙ ap size_from c.in-Some.ensures ∙ sym (canon_sized code ds some small))
    (c.in-Err.ensures ∙ ap (λ (k : ℕ). size_answer (8 + (size + k)) c.args.max) (sym n))
