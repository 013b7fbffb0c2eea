use Rattle.std.proofs.Common.{◌*◌, length, arith, subst, refl, sym, ◌∙◌, None, Some}
use Rattle.std.proofs.lemmas.Result.{err_from_is_err_and}
use Rattle.amqp_types.specs.Datum.{Datum, octets, list, map, array}
use Rattle.amqp_types.specs.Canon.{Writes, octets_draft, list_draft, map_draft, array_draft, parts_form, part_form}
use Rattle.amqp_types.specs.View.{view, views, views_of_pairs}
use Rattle.amqp_types.specs.declared.forms.Head.TheVariants as head
use Rattle.amqp_types.proofs.Spelled.{fails, capped_some, octets_head_of, list_head_of, map_head_of, array_head_of, list_drafted, map_drafted, array_drafted, fails_head, fails_described_head, writes_number, put_content, put_parts_behind, described_behind}
use Rattle.amqp_types.proofs.Depths.{depth_in, depths_in}
use Rattle.amqp_types.proofs.write.+putting.Goals as goal

pub put_parts-put_part-requires : goal.put_parts-put_part-requires
put_parts-put_part-requires t c = (omega (arith, c.decreases, depth_in c.args.values.now c.loop-value.value-index c.value-item.result c.loop-value-test.true c.value-item.is), tt)

pub put_pairs-put_part-requires : goal.put_pairs-put_part-requires
put_pairs-put_part-requires t c = (omega (arith, c.decreases, (depths_in c.args.pairs.now c.loop-pair.pair-index c.pair-item.result c.loop-pair-test.true c.pair-item.is).0), tt)

pub put_pairs-put_part-requires-in-loop-pair : goal.put_pairs-put_part-requires-in-loop-pair
put_pairs-put_part-requires-in-loop-pair t c = (omega (arith, c.decreases, (depths_in c.args.pairs.now c.loop-pair.pair-index c.pair-item.result c.loop-pair-test.true c.pair-item.is).1), tt)

pub put_part-returns-in-Number : goal.put_part-returns-in-Number
put_part-returns-in-Number t c = writes_number (view c.args.value.now) c.in-Number.kind c.in-Number.n c.in-Number.ensures c.args.how c.put_spelled_head.result c.args.out.now.items c.put_spelled_head.new.out.items c.put_spelled_head.ensures

pub put_part-returns-in_err-put_spelled_head-in-Octets : goal.put_part-returns-in_err-put_spelled_head-in-Octets
put_part-returns-in_err-put_spelled_head-in-Octets t c =
    let p = err_from_is_err_and c.from_residual.result c.from_residual.ensures.1 in
    rw (p.1, p.2) (subst (λ (u : Datum). Writes (part_form c.args.how u) (fails c.in_err-put_spelled_head-in-Octets.field-0.0) c.args.out.now.items c.put_spelled_head-in-Octets.new.out.items) c.in-Octets.ensures (fails_head (octets c.in-Octets.run' c.in-Octets.octets.now) (octets_draft c.in-Octets.run' c.in-Octets.octets.now) (head.Octets c.in-Octets.run' c.in-Octets.octets) c.args.how refl (octets_head_of c.in-Octets.run' c.in-Octets.octets)
    c.in_err-put_spelled_head-in-Octets.field-0.0 c.args.out.now.items c.put_spelled_head-in-Octets.new.out.items c.in_err-put_spelled_head-in-Octets.ensures))

pub put_part-returns-in_ok-extend_from_slice-in-Octets : goal.put_part-returns-in_ok-extend_from_slice-in-Octets
put_part-returns-in_ok-extend_from_slice-in-Octets t c =
    rw (← c.in-Octets.ensures) (put_content (octets c.in-Octets.run' c.in-Octets.octets.now) (octets_draft c.in-Octets.run' c.in-Octets.octets.now) (head.Octets c.in-Octets.run' c.in-Octets.octets) c.args.how refl (octets_head_of c.in-Octets.run' c.in-Octets.octets)
    c.args.out.now.items c.put_spelled_head-in-Octets.new.out.items c.extend_from_slice.new.self.items c.in_ok-put_spelled_head-in-Octets.ensures c.in_ok-extend_from_slice-in-Octets.ensures.items)

pub put_part-returns-in_err-put_spelled_head-in-List : goal.put_part-returns-in_err-put_spelled_head-in-List
put_part-returns-in_err-put_spelled_head-in-List t c =
    let p = err_from_is_err_and c.from_residual-in_err-put_spelled_head-in-List.result c.from_residual-in_err-put_spelled_head-in-List.ensures.1 in
    let s = capped_some (parts_form (views c.in-List.values.now) None) c.in_ok-size-in-List.size (sym c.in_ok-size-in-List.ensures.ok_part ∙ c.parts_len.ensures) in
    rw (p.1, p.2) (subst (λ (u : Datum). Writes (part_form c.args.how u) (fails c.in_err-put_spelled_head-in-List.field-0.0) c.args.out.now.items c.put_spelled_head-in-List.new.out.items) c.in-List.ensures (fails_head (list (views c.in-List.values.now)) (list_draft (length c.in-List.values.now) s.0) (head.List (length c.in-List.values.now) c.in_ok-size-in-List.size) c.args.how (list_drafted c.in-List.values.now s.0 s.1) (list_head_of (length c.in-List.values.now) c.in_ok-size-in-List.size s.0 s.2) c.in_err-put_spelled_head-in-List.field-0.0 c.args.out.now.items c.put_spelled_head-in-List.new.out.items c.in_err-put_spelled_head-in-List.ensures))

pub put_part-returns-in_ok-put_spelled_head-in-List : goal.put_part-returns-in_ok-put_spelled_head-in-List
put_part-returns-in_ok-put_spelled_head-in-List t c =
    let s = capped_some (parts_form (views c.in-List.values.now) None) c.in_ok-size-in-List.size (sym c.in_ok-size-in-List.ensures.ok_part ∙ c.parts_len.ensures) in
    rw (← c.in-List.ensures) (put_parts_behind (list (views c.in-List.values.now)) (list_draft (length c.in-List.values.now) s.0) (head.List (length c.in-List.values.now) c.in_ok-size-in-List.size) c.args.how (list_drafted c.in-List.values.now s.0 s.1) (list_head_of (length c.in-List.values.now) c.in_ok-size-in-List.size s.0 s.2) (parts_form (views c.in-List.values.now) None) s.1 c.put_parts.result c.args.out.now.items c.put_spelled_head-in-List.new.out.items c.put_parts.new.out.items c.in_ok-put_spelled_head-in-List.ensures c.put_parts.ensures)

pub put_part-returns-in_err-put_spelled_head-in-Map : goal.put_part-returns-in_err-put_spelled_head-in-Map
put_part-returns-in_err-put_spelled_head-in-Map t c =
    let p = err_from_is_err_and c.from_residual-in_err-put_spelled_head-in-Map.result c.from_residual-in_err-put_spelled_head-in-Map.ensures.1 in
    let s = capped_some (parts_form (views_of_pairs c.in-Map.pairs.now) None) c.in_ok-size-in-Map.size (sym c.in_ok-size-in-Map.ensures.ok_part ∙ c.pairs_len.ensures) in
    rw (p.1, p.2) (subst (λ (u : Datum). Writes (part_form c.args.how u) (fails c.in_err-put_spelled_head-in-Map.field-0.0) c.args.out.now.items c.put_spelled_head-in-Map.new.out.items) c.in-Map.ensures (fails_head (map (views_of_pairs c.in-Map.pairs.now)) (map_draft (2 * length c.in-Map.pairs.now) s.0) (head.Map (2 * length c.in-Map.pairs.now) c.in_ok-size-in-Map.size) c.args.how (map_drafted c.in-Map.pairs.now s.0 s.1) (map_head_of (2 * length c.in-Map.pairs.now) c.in_ok-size-in-Map.size s.0 s.2) c.in_err-put_spelled_head-in-Map.field-0.0 c.args.out.now.items c.put_spelled_head-in-Map.new.out.items c.in_err-put_spelled_head-in-Map.ensures))

pub put_part-returns-in_ok-put_spelled_head-in-Map : goal.put_part-returns-in_ok-put_spelled_head-in-Map
put_part-returns-in_ok-put_spelled_head-in-Map t c =
    let s = capped_some (parts_form (views_of_pairs c.in-Map.pairs.now) None) c.in_ok-size-in-Map.size (sym c.in_ok-size-in-Map.ensures.ok_part ∙ c.pairs_len.ensures) in
    rw (← c.in-Map.ensures) (put_parts_behind (map (views_of_pairs c.in-Map.pairs.now)) (map_draft (2 * length c.in-Map.pairs.now) s.0) (head.Map (2 * length c.in-Map.pairs.now) c.in_ok-size-in-Map.size) c.args.how (map_drafted c.in-Map.pairs.now s.0 s.1) (map_head_of (2 * length c.in-Map.pairs.now) c.in_ok-size-in-Map.size s.0 s.2) (parts_form (views_of_pairs c.in-Map.pairs.now) None) s.1 c.put_pairs.result c.args.out.now.items c.put_spelled_head-in-Map.new.out.items c.put_pairs.new.out.items c.in_ok-put_spelled_head-in-Map.ensures c.put_pairs.ensures)

pub put_part-returns-in_err-put_spelled_head-in-Array : goal.put_part-returns-in_err-put_spelled_head-in-Array
put_part-returns-in_err-put_spelled_head-in-Array t c =
    let p = err_from_is_err_and c.from_residual-in_err-put_spelled_head-in-Array.result c.from_residual-in_err-put_spelled_head-in-Array.ensures.1 in
    let s = capped_some (parts_form (views c.in-Array.values.now) (Some c.in-Array.code)) c.in_ok-size-in-Array.size (sym c.in_ok-size-in-Array.ensures.ok_part ∙ c.parts_len-in-Array.ensures) in
    rw (p.1, p.2) (subst (λ (u : Datum). Writes (part_form c.args.how u) (fails c.in_err-put_spelled_head-in-Array.field-0.0) c.args.out.now.items c.put_spelled_head-in-Array.new.out.items) c.in-Array.ensures (fails_head (array c.in-Array.code (views c.in-Array.values.now)) (array_draft c.in-Array.code (length c.in-Array.values.now) s.0) (head.Array c.in-Array.code (length c.in-Array.values.now) c.in_ok-size-in-Array.size) c.args.how (array_drafted c.in-Array.code c.in-Array.values.now s.0 s.1) (array_head_of c.in-Array.code (length c.in-Array.values.now) c.in_ok-size-in-Array.size s.0 s.2) c.in_err-put_spelled_head-in-Array.field-0.0 c.args.out.now.items c.put_spelled_head-in-Array.new.out.items c.in_err-put_spelled_head-in-Array.ensures))

pub put_part-returns-in_ok-put_spelled_head-in-Array : goal.put_part-returns-in_ok-put_spelled_head-in-Array
put_part-returns-in_ok-put_spelled_head-in-Array t c =
    let s = capped_some (parts_form (views c.in-Array.values.now) (Some c.in-Array.code)) c.in_ok-size-in-Array.size (sym c.in_ok-size-in-Array.ensures.ok_part ∙ c.parts_len-in-Array.ensures) in
    rw (← c.in-Array.ensures) (put_parts_behind (array c.in-Array.code (views c.in-Array.values.now)) (array_draft c.in-Array.code (length c.in-Array.values.now) s.0) (head.Array c.in-Array.code (length c.in-Array.values.now) c.in_ok-size-in-Array.size) c.args.how (array_drafted c.in-Array.code c.in-Array.values.now s.0 s.1) (array_head_of c.in-Array.code (length c.in-Array.values.now) c.in_ok-size-in-Array.size s.0 s.2) (parts_form (views c.in-Array.values.now) (Some c.in-Array.code)) s.1 c.put_parts-in-Array.result c.args.out.now.items c.put_spelled_head-in-Array.new.out.items c.put_parts-in-Array.new.out.items c.in_ok-put_spelled_head-in-Array.ensures c.put_parts-in-Array.ensures)

pub put_part-returns-in_err-put_spelled_head-in-Described : goal.put_part-returns-in_err-put_spelled_head-in-Described
put_part-returns-in_err-put_spelled_head-in-Described t c =
    let p = err_from_is_err_and c.from_residual-in_err-put_spelled_head-in-Described.result c.from_residual-in_err-put_spelled_head-in-Described.ensures.1 in
    rw (p.1, p.2) (subst (λ (u : Datum). Writes (part_form c.args.how u) (fails c.in_err-put_spelled_head-in-Described.field-0.0) c.args.out.now.items c.put_spelled_head-in-Described.new.out.items) c.in-Described.ensures (fails_described_head c.args.how (view c.in-Described.descriptor.now) (view c.in-Described.value.now) c.in_err-put_spelled_head-in-Described.field-0.0 c.args.out.now.items c.put_spelled_head-in-Described.new.out.items c.in_err-put_spelled_head-in-Described.ensures))

pub put_part-returns-in_ok-put_part-in-Described : goal.put_part-returns-in_ok-put_part-in-Described
put_part-returns-in_ok-put_part-in-Described t c =
    rw (← c.in-Described.ensures) (described_behind (view c.in-Described.descriptor.now) (view c.in-Described.value.now) c.args.how c.put_part-in-Described.result c.args.out.now.items c.put_spelled_head-in-Described.new.out.items c.put_part.new.out.items c.put_part-in-Described.new.out.items
    c.in_ok-put_spelled_head-in-Described.ensures c.in_ok-put_part-in-Described.ensures c.put_part-in-Described.ensures)
