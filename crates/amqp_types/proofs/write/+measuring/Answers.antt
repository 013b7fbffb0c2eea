use Rattle.std.proofs.Common.{◌*◌, length, arith, refl, ◌∙◌, ◌++◌, None}
use Rattle.amqp_types.specs.Datum.{number, octets, list, map, array, described}
use Rattle.amqp_types.specs.Canon.{number_draft, octets_draft, list_draft, map_draft, array_draft, described_draft, part_form}
use Rattle.amqp_types.specs.View.{view, views, views_of_pairs}
use Rattle.amqp_types.specs.declared.forms.Head.TheVariants as head
use Rattle.amqp_types.proofs.Depths.{depth_in, depths_in}
use Rattle.amqp_types.proofs.Spelled.{part_len_from, capped_some, number_head_of, octets_head_of, list_head_of, map_head_of, array_head_of, described_head_of, list_drafted, map_drafted, array_drafted, described_drafted, both_sizes}
use Rattle.amqp_types.proofs.write.+measuring.Goals as goal

pub parts_len-part_len-requires : goal.parts_len-part_len-requires
parts_len-part_len-requires t c = (omega (arith, c.decreases, depth_in c.args.values.now c.loop-value.value-index c.value-item.result c.loop-value-test.true c.value-item.is), tt)

pub pairs_len-part_len-requires : goal.pairs_len-part_len-requires
pairs_len-part_len-requires t c = (omega (arith, c.decreases, (depths_in c.args.pairs.now c.loop-pair.pair-index c.pair-item.result c.loop-pair-test.true c.pair-item.is).0), tt)

pub pairs_len-part_len-requires-in-loop-pair : goal.pairs_len-part_len-requires-in-loop-pair
pairs_len-part_len-requires-in-loop-pair t c = (omega (arith, c.decreases, (depths_in c.args.pairs.now c.loop-pair.pair-index c.pair-item.result c.loop-pair-test.true c.pair-item.is).1), tt)

pub part_len-returns-in-Number : goal.part_len-returns-in-Number
part_len-returns-in-Number t c =
    rw (← c.in-Number.ensures) (c.spelled_len.ensures ∙ part_len_from (number c.in-Number.kind c.in-Number.n) (number_draft c.in-Number.kind c.in-Number.n) (head.Number c.in-Number.kind c.in-Number.n) c.args.how 0 refl (number_head_of c.in-Number.kind c.in-Number.n) refl)

pub part_len-returns-in-Octets : goal.part_len-returns-in-Octets
part_len-returns-in-Octets t c =
    rw (← c.in-Octets.ensures) (c.spelled_len-in-Octets.ensures ∙ part_len_from (octets c.in-Octets.run' c.in-Octets.octets.now) (octets_draft c.in-Octets.run' c.in-Octets.octets.now) (head.Octets c.in-Octets.run' c.in-Octets.octets) c.args.how _ refl (octets_head_of c.in-Octets.run' c.in-Octets.octets) refl)

pub part_len-returns-in_ok-size-in-List : goal.part_len-returns-in_ok-size-in-List
part_len-returns-in_ok-size-in-List t c =
    let s = capped_some _ c.in_ok-size-in-List.size c.in_ok-size-in-List.ensures in
    rw (← c.in-List.ensures) (c.spelled_len-in-List.ensures ∙ part_len_from (list (views c.in-List.values.now)) (list_draft (length c.in-List.values.now) s.0) (head.List (length c.in-List.values.now) c.in_ok-size-in-List.size) c.args.how c.in_ok-size-in-List.size
    (list_drafted c.in-List.values.now s.0 s.1) (list_head_of (length c.in-List.values.now) c.in_ok-size-in-List.size s.0 s.2) s.2)

pub part_len-returns-in_ok-size-in-Map : goal.part_len-returns-in_ok-size-in-Map
part_len-returns-in_ok-size-in-Map t c =
    let s = capped_some _ c.in_ok-size-in-Map.size c.in_ok-size-in-Map.ensures in
    rw (← c.in-Map.ensures) (c.spelled_len-in-Map.ensures ∙ part_len_from (map (views_of_pairs c.in-Map.pairs.now)) (map_draft (2 * length c.in-Map.pairs.now) s.0) (head.Map (2 * length c.in-Map.pairs.now) c.in_ok-size-in-Map.size) c.args.how c.in_ok-size-in-Map.size
    (map_drafted c.in-Map.pairs.now s.0 s.1) (map_head_of (2 * length c.in-Map.pairs.now) c.in_ok-size-in-Map.size s.0 s.2) s.2)

pub part_len-returns-in_ok-size-in-Array : goal.part_len-returns-in_ok-size-in-Array
part_len-returns-in_ok-size-in-Array t c =
    let s = capped_some _ c.in_ok-size-in-Array.size c.in_ok-size-in-Array.ensures in
    rw (← c.in-Array.ensures) (c.spelled_len-in-Array.ensures ∙ part_len_from (array c.in-Array.code (views c.in-Array.values.now)) (array_draft c.in-Array.code (length c.in-Array.values.now) s.0) (head.Array c.in-Array.code (length c.in-Array.values.now) c.in_ok-size-in-Array.size) c.args.how c.in_ok-size-in-Array.size
    (array_drafted c.in-Array.code c.in-Array.values.now s.0 s.1) (array_head_of c.in-Array.code (length c.in-Array.values.now) c.in_ok-size-in-Array.size s.0 s.2) s.2)

pub part_len-returns-in_ok-second-in-Described : goal.part_len-returns-in_ok-second-in-Described
part_len-returns-in_ok-second-in-Described t c =
    let a = capped_some (part_form None (view c.in-Described.descriptor.now)) c.in_ok-first-in-Described.first c.in_ok-first-in-Described.ensures in
    let b = capped_some (part_form None (view c.in-Described.value.now)) c.in_ok-second-in-Described.second c.in_ok-second-in-Described.ensures in
    rw (← c.in-Described.ensures) (c.spelled_len-in-Described.ensures ∙ part_len_from (described (view c.in-Described.descriptor.now) (view c.in-Described.value.now)) (described_draft (a.0 ++ b.0)) head.Described c.args.how c.saturating_add.result
    (described_drafted (view c.in-Described.descriptor.now) (view c.in-Described.value.now) a.0 b.0 a.1 b.1) (described_head_of (a.0 ++ b.0)) (both_sizes c.in_ok-first-in-Described.first c.in_ok-second-in-Described.second c.saturating_add.result a.0 b.0 a.2 b.2 c.saturating_add.ensures))
