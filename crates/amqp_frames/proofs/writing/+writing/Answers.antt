use Rattle.std.proofs.Common.{◌≡◌, ◌-◌, suc, drop, Some, None, refl, arith}
use Rattle.std.proofs.lemmas.Str.{is_utf8-from_IsUtf8}
use Rattle.amqp_types.specs.declared.class.Kind.{Kind}
use Rattle.amqp_types.specs.Datum.{number, count_of}
use Rattle.amqp_types.specs.Canon.{part_form, parts_form}
use Rattle.amqp_frames.specs.Field.{composite_datum, added}
use Rattle.amqp_performatives.specs.Listed.{shown_fields}
use Rattle.amqp_frames.proofs.Leaves.{binary_form, str_form}
use Rattle.amqp_frames.proofs.Fields.{put_step, put_whole}
use Rattle.amqp_performatives.proofs.Shown.{IsNext, index_inside, next_field}
use Rattle.amqp_frames.proofs.Puts.{on_ok, canon_appended, described_put}
use Rattle.amqp_frames.proofs.writing.+writing.Goals as goal

pub put_described-returns : goal.put_described-returns
put_described-returns t c =
    let ds = shown_fields c.args.fields.now in
    rw (← c.number.ensures.value) (on_ok c.put_fields.result (added c.put_list_head.new.out.items (parts_form ds None) ≡ Some c.put_fields.new.out.items) (added c.args.out.now.items (part_form None (composite_datum c.number.result ds)) ≡ Some c.put_fields.new.out.items)
    (described_put c.number.result c.args.measure.count c.args.measure.size c.args.depth ds c.args.out.now.items c.extend_from_slice.new.self.items c.put_list_head.new.out.items c.put_fields.new.out.items
    c.number.ensures.some (omega arith) c.requires c.in_ok-extend_from_slice.ensures.items c.in_ok-put_list_head.ensures)
    c.put_fields.ensures)

pub put_field-returns-in_ok-write_null-in-Absent : goal.put_field-returns-in_ok-write_null-in-Absent
put_field-returns-in_ok-write_null-in-Absent t c = rw c.in-Absent.is (canon_appended (number Kind.Null 0) c.args.out.now.items c.write_null.new.out.items refl c.in_ok-write_null-in-Absent.ensures.ok)

pub put_field-returns-in_ok-write_boolean-in-Boolean : goal.put_field-returns-in_ok-write_boolean-in-Boolean
put_field-returns-in_ok-write_boolean-in-Boolean t c = rw c.in-Boolean.is (canon_appended _ c.args.out.now.items c.write_boolean.new.out.items refl c.in_ok-write_boolean-in-Boolean.ensures.ok)

pub put_field-returns-in_ok-write_ubyte-in-Ubyte : goal.put_field-returns-in_ok-write_ubyte-in-Ubyte
put_field-returns-in_ok-write_ubyte-in-Ubyte t c = rw c.in-Ubyte.is (canon_appended (number Kind.Ubyte c.in-Ubyte.n) c.args.out.now.items c.write_ubyte.new.out.items refl c.in_ok-write_ubyte-in-Ubyte.ensures.ok)

pub put_field-returns-in_ok-write_ushort-in-Ushort : goal.put_field-returns-in_ok-write_ushort-in-Ushort
put_field-returns-in_ok-write_ushort-in-Ushort t c = rw c.in-Ushort.is (canon_appended (number Kind.Ushort c.in-Ushort.n) c.args.out.now.items c.write_ushort.new.out.items refl c.in_ok-write_ushort-in-Ushort.ensures.ok)

pub put_field-returns-in_ok-write_uint-in-Uint : goal.put_field-returns-in_ok-write_uint-in-Uint
put_field-returns-in_ok-write_uint-in-Uint t c = rw c.in-Uint.is (canon_appended (number Kind.Uint c.in-Uint.n) c.args.out.now.items c.write_uint.new.out.items refl c.in_ok-write_uint-in-Uint.ensures.ok)

pub put_field-returns-in_ok-write_ulong-in-Ulong : goal.put_field-returns-in_ok-write_ulong-in-Ulong
put_field-returns-in_ok-write_ulong-in-Ulong t c = rw c.in-Ulong.is (canon_appended (number Kind.Ulong c.in-Ulong.n) c.args.out.now.items c.write_ulong.new.out.items refl c.in_ok-write_ulong-in-Ulong.ensures.ok)

pub put_field-returns-in-Binary : goal.put_field-returns-in-Binary
put_field-returns-in-Binary t c = rw (c.in-Binary.is, binary_form c.in-Binary.octets.now) c.put_run.ensures

pub put_field-returns-in-Str : goal.put_field-returns-in-Str
put_field-returns-in-Str t c =
    let e = c.as_bytes.ensures.value in
    rw (c.in-Str.is, str_form c.in-Str.text.now (rw e at (is_utf8-from_IsUtf8 c.as_bytes.result.now c.as_bytes.ensures.utf8)), ← e) c.put_run-in-Str.ensures

pub put_fields-loop-i-preserved : goal.put_fields-loop-i-preserved
put_fields-loop-i-preserved t c =
    let fs = c.args.fields.now in
    let i = c.loop-i.i in
    let n = c.args.count - i - 1 in
    let counted : count_of (shown_fields (drop i fs)) ≡ suc n = omega (arith, c.loop-i.invariant.counted) in
    let next : IsNext fs i n c.index-fields-i.result = next_field fs i n c.index-fields-i.result (index_inside fs i n counted) c.index-fields-i.is counted in
    record {
      counted = omega (arith, next.left);
      so_far = put_step fs i n c.index-fields-i.result c.loop-i.out.items c.put_field.new.out.items (added c.args.out.now.items (parts_form (shown_fields fs) None)) next c.in_ok-put_field.ensures c.loop-i.invariant.so_far;
    }

pub put_fields-returns : goal.put_fields-returns
put_fields-returns t c = put_whole c.args.fields.now c.loop-i.i c.args.out.now.items c.loop-i.out.items (omega (arith, c.loop-i.invariant.counted)) c.loop-i.invariant.so_far
