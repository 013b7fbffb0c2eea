use Rattle.std.proofs.Common.{◌+◌, ◌-◌, ◌∙◌, sym, ap, refl, arith, List, Some, None}
use Rattle.amqp_types.specs.Datum.{Datum}
use Rattle.amqp_types.specs.Reading.{part_at}
use Rattle.amqp_halves.specs.declared.rows.Row.{Row}
use Rattle.amqp_halves.specs.Halves.{whole}
use Rattle.amqp_halves.specs.Judging.{admits, are_rows, fits}
use Rattle.amqp_halves.proofs.Shapes.{no_depth_read, inner_part}
use Rattle.amqp_halves.proofs.FieldRows.{rows_begin, rows_next, rows_stop, rows_cut, rows_end, may_rows, named_fits, is_number, is_described, state_received, state_accepted, state_rejected, state_released, state_modified}
use Rattle.amqp_halves.proofs.judge.+judging.Goals as goal

pub admits-returns-in-Some-Number : goal.admits-returns-in-Some-Number
admits-returns-in-Some-Number t c d rest e = c.admits_number.ensures ∙ ap (admits c.args.sort) (sym (is_number _ c.in-Some-Number.kind c.in-Some-Number.n d c.in-Some-Number.field-0-is (c.in-Some-Number.ensures c.args.depth d rest e)))

pub admits-returns-in-Some-Described : goal.admits-returns-in-Some-Described
admits-returns-in-Some-Described t c d rest e =
    let l = is_described _ d c.in-Some-Described.field-0-is (c.in-Some-Described.ensures c.args.depth d rest e) in
    c.admits_described.ensures l.0 l.1 rest (e ∙ ap (λ (x : Datum). Some (x, rest)) l.2) ∙ ap (admits c.args.sort) (sym l.2)

pub admits_described-returns-then-is_named : goal.admits_described-returns-then-is_named
admits_described-returns-then-is_named t c a b rest e =
    let o = c.in-Some.ensures.value a b rest e in
    rw c.in-Error.is (named_fits _ _ _ (c.if-is_named.ensures a o.0) (c.fits.ensures b o.1 o.2))

pub admits_described-returns-in-Some-opened : goal.admits_described-returns-in-Some-opened
admits_described-returns-in-Some-opened t c a b rest e =
    let o = c.in-Some-opened.ensures.value a b rest e in
    rw c.in-State.is (c.is_state.ensures a b o.1 o.0 o.2)

pub are_rows-loop-init : goal.are_rows-loop-init
are_rows-loop-init t c ds e = rows_begin (part_at c.args.depth None) c.args.count _ (whole c.args.octets) c.args.rows.now ds (omega arith) e

pub are_rows-returns-then-not-first_fits : goal.are_rows-returns-then-not-first_fits
are_rows-returns-then-not-first_fits t c ds e =
    rows_stop (part_at c.args.depth None) _ (c.args.count - (c.loop.counter + 1)) (whole c.loop.rest) c.loop.others.now c.args.rows.now ds _ (omega arith) (c.loop.invariant ds e) c.if-not-first_fits.ensures refl

pub are_rows-returns-in-None : goal.are_rows-returns-in-None
are_rows-returns-in-None t c ds e =
    absurd (rows_cut (part_at c.args.depth None) _ (c.args.count - (c.loop.counter + 1)) (whole c.loop.rest) c.loop.others.now c.args.rows.now ds (omega arith) (c.loop.invariant ds e) c.in-None.ensures)

pub are_rows-loop-preserved : goal.are_rows-loop-preserved
are_rows-loop-preserved t c ds e =
    rows_next (part_at c.args.depth None) _ (c.args.count - (c.loop.counter + 1)) (whole c.loop.rest) (whole c.in-Some.next) c.loop.others.now c.after_first-others.result.now c.args.rows.now ds _ (omega arith) (c.loop.invariant ds e) c.in-Some.ensures
    c.after_first-others.ensures c.if-not-first_fits.ensures refl

pub are_rows-returns : goal.are_rows-returns
are_rows-returns t c ds e = c.all_optional.ensures ∙ rows_end (part_at c.args.depth None) _ (whole c.loop.rest) c.loop.others.now c.args.rows.now ds (omega arith) (c.loop.invariant ds e)

pub first_fits-returns-else-is_null : goal.first_fits-returns-else-is_null
first_fits-returns-else-is_null t c d rest e =
    may_rows c.args.rows.now c.in-Some.row.now c.in-Some.field-0-1.now d _ c.in-Some.ensures.cases.0 c.in-May.sort c.in-May.is (c.if-is_null.ensures c.args.depth d rest e) (c.admits-else-is_null.ensures d rest e)

pub fits-returns-then-depth-eq0 : goal.fits-returns-then-depth-eq0
fits-returns-then-depth-eq0 t c d rest e = absurd (no_depth_read c.args.depth (whole c.args.octets) (d, rest) (omega arith) e)

pub fits-returns-in-Some : goal.fits-returns-in-Some
fits-returns-in-Some t c d rest e =
    let i = c.in-Some.ensures c.args.depth d rest e in
    c.are_rows.ensures i.1 (inner_part c.args.depth i.0 _ _ i.1 i.2 i.4) ∙ ap (λ (rows : List Row). are_rows i.1 rows) c.rows_of.ensures ∙ ap (λ (x : Datum). fits x c.args.composite) (sym i.3)

pub is_state-returns-then-is_named : goal.is_state-returns-then-is_named
is_state-returns-then-is_named t c a b rest l e = state_received a (fits b) _ (c.if-is_named.ensures a l) (c.fits.ensures b rest e)

pub is_state-returns-then-is_named-2 : goal.is_state-returns-then-is_named-2
is_state-returns-then-is_named-2 t c a b rest l e = state_accepted a (fits b) _ (c.if-is_named.ensures a l) (c.if-is_named-2.ensures a l) (c.fits-then-is_named-2.ensures b rest e)

pub is_state-returns-then-is_named-3 : goal.is_state-returns-then-is_named-3
is_state-returns-then-is_named-3 t c a b rest l e = state_rejected a (fits b) _ (c.if-is_named.ensures a l) (c.if-is_named-2.ensures a l) (c.if-is_named-3.ensures a l) (c.fits-then-is_named-3.ensures b rest e)

pub is_state-returns-then-is_named-4 : goal.is_state-returns-then-is_named-4
is_state-returns-then-is_named-4 t c a b rest l e = state_released a (fits b) _ (c.if-is_named.ensures a l) (c.if-is_named-2.ensures a l) (c.if-is_named-3.ensures a l) (c.if-is_named-4.ensures a l) (c.fits-then-is_named-4.ensures b rest e)

pub is_state-returns-then-is_named-5 : goal.is_state-returns-then-is_named-5
is_state-returns-then-is_named-5 t c a b rest l e =
    state_modified a (fits b) _ (c.if-is_named.ensures a l) (c.if-is_named-2.ensures a l) (c.if-is_named-3.ensures a l) (c.if-is_named-4.ensures a l) (c.if-is_named-5.ensures a l) (c.fits-then-is_named-5.ensures b rest e)
