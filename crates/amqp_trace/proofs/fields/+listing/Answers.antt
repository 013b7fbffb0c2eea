use Rattle.std.proofs.Common.{◌<◌, length, List, ℕ, [], arith, ◌∙◌, ap, sym}
use Rattle.std.specs.Borrow.{Bor}
use Rattle.amqp_performatives.specs.declared.field.Field.{Field}
use Rattle.amqp_performatives.specs.Listed.{part_at, is_absent}
use Rattle.amqp_trace.proofs.Going.{goes_far}
use Rattle.amqp_trace.proofs.Tables.{name_printable}
use Rattle.amqp_trace.proofs.Entering.{passed, put_one, all_put}
use Rattle.amqp_trace.proofs.fields.+listing.Goals as goal
use Rattle.amqp_trace.proofs.fields.+listing.Goals.{put_entries-then-not-is_absent+in_ok-put_name+in_ok-put_field, put_entries-else-not-is_absent}

pub put_entries-put_name-requires : goal.put_entries-put_name-requires
put_entries-put_name-requires t c = name_printable c.args.names.now c.loop-place.place _ c.requires (omega (arith, c.min-place-end.ensures, c.loop-place-test.true))

pub put_entries-loop-place-preserved : goal.put_entries-loop-place-preserved
put_entries-loop-place-preserved t c =
    let none : Bor (List ℕ) = record { ref_ptr = (0, 0); now = [] } in
    let in_words : c.loop-place.place < length c.args.names.now = omega (arith, c.min-place-end.ensures, c.loop-place-test.true) in
    let in_fields : c.loop-place.place < length c.args.fields.now = omega (arith, c.min-place-end.ensures, c.loop-place-test.true) in
    let told = sym (ap (λ (f : Field). is_absent (part_at f)) c.index-fields-place.is) ∙ sym c.is_absent.ensures in
    elim c.if-not-is_absent.branch [
      | put_entries-then-not-is_absent+in_ok-put_name+in_ok-put_field w ↦
          rw (w.line-is, w.is_first-is) (record {
            entries = put_one c.args.names.now c.args.fields.now c.loop-place.place none c.index-fields-place.result in_words in_fields c.loop-place.is_first c.args.line.now c.loop-place.line w.put_field.new.line (told ∙ w.if-not-is_absent.true) (rw w.in_ok-put_name.ensures.text at w.in_ok-put_field.ensures) c.loop-place.invariant.entries;
            goes = goes_far c.loop-place.invariant.goes (goes_far w.in_ok-put_name.ensures.goes w.in_ok-put_field.ensures);
          })
      | put_entries-else-not-is_absent w ↦
          rw (w.line-is, w.is_first-is) (record {
            entries = passed c.args.names.now c.args.fields.now c.loop-place.place none c.index-fields-place.result in_words in_fields c.loop-place.is_first c.args.line.now c.loop-place.line (told ∙ w.if-not-is_absent.false) c.loop-place.invariant.entries;
            goes = c.loop-place.invariant.goes;
          })
    ]

pub put_entries-returns-clause-entries : goal.put_entries-returns-clause-entries
put_entries-returns-clause-entries t c = all_put c.args.names.now c.args.fields.now c.loop-place.place c.loop-place.is_first c.args.line.now c.loop-place.line (omega (arith, c.min-place-end.ensures, c.loop-place-test.false)) c.loop-place.invariant.entries
