use Rattle.std.proofs.Common.{refl}
use Rattle.amqp_types.specs.Datum.{none}
use Rattle.amqp_types.specs.Reading.{part_at}
use Rattle.amqp_halves.specs.Halves.{whole}
use Rattle.amqp_halves.proofs.Shapes.{level, shape_of, first_of, not_list, empty_items, list_items, no_items}
use Rattle.amqp_halves.proofs.leaf.items.Goals as goal

pub returns-in-EmptyList : goal.returns-in-EmptyList
returns-in-EmptyList c n d rest e =
    let l = level n c.in-Some.code (whole c.args.octets) (whole c.in-Some.rest) _ (d, rest) e c.in-Some.ensures c.in-EmptyList.ensures in
    (l.inner, none, l.deep, first_of _ _ (d, rest) l.reads, empty_items l.inner _ refl)

pub returns-in-None-compound : goal.returns-in-None-compound
returns-in-None-compound c n d rest e =
    let l = level n c.in-Some.code (whole c.args.octets) (whole c.in-Some.rest) _ (d, rest) e c.in-Some.ensures c.in-List.ensures in
    absurd (no_items (part_at l.inner) c.in-List.width (whole c.in-Some.rest) (d, rest) l.reads c.in-None-compound.ensures)

pub returns-in-Some-compound : goal.returns-in-Some-compound
returns-in-Some-compound c n d rest e =
    let l = level n c.in-Some.code (whole c.args.octets) (whole c.in-Some.rest) _ (d, rest) e c.in-Some.ensures c.in-List.ensures in
    let i = list_items l.inner c.in-List.width (whole c.in-Some.rest) (d, rest) c.in-Some-compound.count (whole c.in-Some-compound.content) (whole c.in-Some-compound.field-0-2) l.reads c.in-Some-compound.ensures in
    (l.inner, i.0, l.deep, i.1, i.2)

pub returns-in_default : goal.returns-in_default
returns-in_default c n d rest e =
    let l = level n c.in-Some.code (whole c.args.octets) (whole c.in-Some.rest) _ (d, rest) e c.in-Some.ensures c.class_of.ensures in
    not_list c.class_of.result d (shape_of (part_at l.inner) c.class_of.result (whole c.in-Some.rest) (d, rest) l.reads) c.in_default.not-EmptyList c.in_default.not-List
