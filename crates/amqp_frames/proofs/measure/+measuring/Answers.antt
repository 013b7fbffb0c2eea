use Rattle.std.proofs.Common.{◌+◌, ℕ, [], ◌∷◌, Option, Some, None, length, refl, sym, ap, ◌∙◌, arith}
use Rattle.std.proofs.lemmas.Str.{is_utf8-from_IsUtf8}
use Rattle.amqp_types.specs.declared.class.Kind.{Kind}
use Rattle.amqp_types.specs.declared.class.Run.{Run}
use Rattle.amqp_types.specs.Datum.{number, octets}
use Rattle.amqp_types.specs.Reading.{◌>>=◌}
use Rattle.amqp_types.specs.Canon.{part_form}
use Rattle.amqp_frames.specs.Field.{run_octets}
use Rattle.amqp_performatives.specs.Composite.{type_of}
use Rattle.amqp_performatives.specs.Listed.{shown_fields}
use Rattle.amqp_frames.proofs.Leaves.{null_form, binary_form, str_form}
use Rattle.amqp_frames.proofs.Sizes.{form_size, boolean_size, number_size}
use Rattle.amqp_frames.proofs.Composites.{composite_within, size_from}
use Rattle.amqp_frames.proofs.Fields.{size_whole}
use Rattle.amqp_frames.proofs.measure.+measuring.Goals as goal

pub composite_len-returns-in_err-size : goal.composite_len-returns-in_err-size
composite_len-returns-in_err-size t c =
    let code = (type_of c.args.composite).0 in
    let n = c.number-code.ensures in
    c.from_residual-in_err-size.ensures ∙ ap (λ (o : Option ℕ). o >>= λ n. Some (n + 3)) c.in_err-size.ensures ∙ ap size_from c.in_ok-measure.ensures ∙ sym (composite_within code c.args.depth (shown_fields c.args.fields.now) (omega (arith, n.value, n.some)) (omega (arith, n.value)) (omega arith))

pub composite_len-returns : goal.composite_len-returns
composite_len-returns t c =
    let code = (type_of c.args.composite).0 in
    let n = c.number-code.ensures in
    ap (λ (o : Option ℕ). o >>= λ n. Some (n + 3)) c.in_ok-size.ensures ∙ ap size_from c.in_ok-measure.ensures ∙ sym (composite_within code c.args.depth (shown_fields c.args.fields.now) (omega (arith, n.value, n.some)) (omega (arith, n.value)) (omega arith))

pub field_len-returns-in-Absent : goal.field_len-returns-in-Absent
field_len-returns-in-Absent t c = rw c.in-Absent.is (form_size c.args.depth (number Kind.Null 0) (Some (0x40 ∷ [])) refl c.if-depth-eq0.false null_form)

pub field_len-returns-in-Boolean : goal.field_len-returns-in-Boolean
field_len-returns-in-Boolean t c = rw c.in-Boolean.is (boolean_size c.args.depth c.in-Boolean.field-0 c.if-depth-eq0.false)

pub field_len-returns-in-Ubyte : goal.field_len-returns-in-Ubyte
field_len-returns-in-Ubyte t c =
    let d = number Kind.Ubyte c.in-Ubyte.n in
    rw c.in-Ubyte.is (c.ubyte_size.ensures ∙ form_size c.args.depth d (part_form None d) refl c.if-depth-eq0.false refl)

pub field_len-returns-in-Ushort : goal.field_len-returns-in-Ushort
field_len-returns-in-Ushort t c =
    let d = number Kind.Ushort c.in-Ushort.n in
    rw c.in-Ushort.is (c.ushort_size.ensures ∙ form_size c.args.depth d (part_form None d) refl c.if-depth-eq0.false refl)

pub field_len-returns-in-Uint : goal.field_len-returns-in-Uint
field_len-returns-in-Uint t c = rw c.in-Uint.is (number_size c.args.depth Kind.Uint c.in-Uint.n c.uint_size.result c.if-depth-eq0.false (omega arith) c.uint_size.ensures)

pub field_len-returns-in-Ulong : goal.field_len-returns-in-Ulong
field_len-returns-in-Ulong t c = rw c.in-Ulong.is (number_size c.args.depth Kind.Ulong c.in-Ulong.n c.ulong_size.result c.if-depth-eq0.false (omega arith) c.ulong_size.ensures)

pub field_len-returns-in-Binary : goal.field_len-returns-in-Binary
field_len-returns-in-Binary t c =
    let text = c.in-Binary.octets.now in
    rw c.in-Binary.is (c.run_len.ensures 0xa0 0xb0 text refl ∙ form_size c.args.depth (octets Run.Binary text) (run_octets 0xa0 0xb0 text) refl c.if-depth-eq0.false (binary_form text))

pub field_len-returns-in-Str : goal.field_len-returns-in-Str
field_len-returns-in-Str t c =
    let text = c.in-Str.text.now in
    rw c.in-Str.is (c.run_len-in-Str.ensures 0xa1 0xb1 text (ap length (sym c.as_bytes.ensures.value))
    ∙ form_size c.args.depth (octets Run.Str text) (run_octets 0xa1 0xb1 text) refl c.if-depth-eq0.false (str_form text (rw (c.as_bytes.ensures.value) at (is_utf8-from_IsUtf8 c.as_bytes.result.now c.as_bytes.ensures.utf8))))

pub field_len-returns-in-Symbol : goal.field_len-returns-in-Symbol
field_len-returns-in-Symbol t c =
    let d = octets Run.Symbol c.in-Symbol.text.now in
    rw c.in-Symbol.is (c.symbol_len.ensures ∙ form_size c.args.depth d (part_form None d) refl c.if-depth-eq0.false refl)

pub fields_len-returns : goal.fields_len-returns
fields_len-returns t c =
    rw c.shown_count-count.ensures.count (size_whole c.args.depth c.args.fields.now c.loop-i.i c.loop-i.size c.loop-i.invariant.within (omega (arith, c.loop-i.invariant.counted)) c.loop-i.invariant.so_far)
