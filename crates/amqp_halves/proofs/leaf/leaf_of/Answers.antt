use Rattle.amqp_types.specs.declared.class.Class.{Class}
use Rattle.amqp_types.specs.Reading.{part_at}
use Rattle.amqp_halves.specs.Halves.{whole}
use Rattle.amqp_halves.proofs.Shapes.{level, shape_of, number_leaf, number_high, no_number, sized_run, no_size}
use Rattle.amqp_halves.proofs.leaf.leaf_of.Goals as goal

pub returns-in-None-field : goal.returns-in-None-field
returns-in-None-field c n d rest e =
    let l = level n c.in-Some.code (whole c.args.octets) (whole c.in-Some.rest) _ (d, rest) e c.in-Some.ensures c.in-Number.ensures in
    no_number c.in-Number.kind c.in-Number.width c.in-Number.reading (whole c.in-Some.rest) (d, rest) l.reads c.in-None-field.ensures

pub returns-in-None-read_number : goal.returns-in-None-read_number
returns-in-None-read_number c n d rest e =
    let l = level n c.in-Some.code (whole c.args.octets) (whole c.in-Some.rest) _ (d, rest) e c.in-Some.ensures c.in-Number.ensures in
    number_high c.in-Number.kind c.in-Number.width c.in-Number.reading (whole c.in-Some.rest) (whole c.in-Some-field.field-0-1) c.in-Some-field.n (d, rest) l.reads c.in-Some-field.ensures c.in-None-read_number.ensures

pub returns-in-Some-read_number : goal.returns-in-Some-read_number
returns-in-Some-read_number c n d rest e =
    let l = level n c.in-Some.code (whole c.args.octets) (whole c.in-Some.rest) _ (d, rest) e c.in-Some.ensures c.in-Number.ensures in
    number_leaf c.in-Number.kind c.in-Number.width c.in-Number.reading (whole c.in-Some.rest) (whole c.in-Some-field.field-0-1) c.in-Some-field.n c.in-Some-read_number.n (d, rest) l.reads c.in-Some-field.ensures c.in-Some-read_number.ensures

pub returns-in-None-field-2 : goal.returns-in-None-field-2
returns-in-None-field-2 c n d rest e =
    let l = level n c.in-Some.code (whole c.args.octets) (whole c.in-Some.rest) _ (d, rest) e c.in-Some.ensures c.in-Octets.ensures in
    no_size c.in-Octets.run' c.in-Octets.width (whole c.in-Some.rest) (d, rest) l.reads c.in-None-field-2.ensures

pub returns-in-Some-field-2 : goal.returns-in-Some-field-2
returns-in-Some-field-2 c n d rest e =
    let l = level n c.in-Some.code (whole c.args.octets) (whole c.in-Some.rest) _ (d, rest) e c.in-Some.ensures c.in-Octets.ensures in
    c.run_leaf.ensures d rest (sized_run c.in-Octets.run' c.in-Octets.width (whole c.in-Some.rest) (whole c.in-Some-field-2.rest) c.in-Some-field-2.count (d, rest) l.reads c.in-Some-field-2.ensures)

pub returns-in-Sixteen : goal.returns-in-Sixteen
returns-in-Sixteen c n d rest e =
    let l = level n c.in-Some.code (whole c.args.octets) (whole c.in-Some.rest) _ (d, rest) e c.in-Some.ensures c.in-Sixteen.ensures in
    c.run_leaf-in-Sixteen.ensures d rest l.reads

pub returns-in-EmptyList : goal.returns-in-EmptyList
returns-in-EmptyList c n d rest e =
    let l = level n c.in-Some.code (whole c.args.octets) (whole c.in-Some.rest) _ (d, rest) e c.in-Some.ensures c.in-EmptyList.ensures in
    shape_of (part_at l.inner) Class.EmptyList (whole c.in-Some.rest) (d, rest) l.reads

pub returns-in-List : goal.returns-in-List
returns-in-List c n d rest e =
    let l = level n c.in-Some.code (whole c.args.octets) (whole c.in-Some.rest) _ (d, rest) e c.in-Some.ensures c.in-List.ensures in
    shape_of (part_at l.inner) (Class.List c.in-List.field-0) (whole c.in-Some.rest) (d, rest) l.reads

pub returns-in-Map : goal.returns-in-Map
returns-in-Map c n d rest e =
    let l = level n c.in-Some.code (whole c.args.octets) (whole c.in-Some.rest) _ (d, rest) e c.in-Some.ensures c.in-Map.ensures in
    shape_of (part_at l.inner) (Class.Map c.in-Map.field-0) (whole c.in-Some.rest) (d, rest) l.reads

pub returns-in-Array : goal.returns-in-Array
returns-in-Array c n d rest e =
    let l = level n c.in-Some.code (whole c.args.octets) (whole c.in-Some.rest) _ (d, rest) e c.in-Some.ensures c.in-Array.ensures in
    shape_of (part_at l.inner) (Class.Array c.in-Array.field-0) (whole c.in-Some.rest) (d, rest) l.reads

pub returns-in-Described : goal.returns-in-Described
returns-in-Described c n d rest e =
    let l = level n c.in-Some.code (whole c.args.octets) (whole c.in-Some.rest) _ (d, rest) e c.in-Some.ensures c.in-Described.ensures in
    shape_of (part_at l.inner) Class.Described (whole c.in-Some.rest) (d, rest) l.reads

pub returns-in-Unknown : goal.returns-in-Unknown
returns-in-Unknown c n d rest e =
    let l = level n c.in-Some.code (whole c.args.octets) (whole c.in-Some.rest) _ (d, rest) e c.in-Some.ensures c.in-Unknown.ensures in
    shape_of (part_at l.inner) Class.Unknown (whole c.in-Some.rest) (d, rest) l.reads
