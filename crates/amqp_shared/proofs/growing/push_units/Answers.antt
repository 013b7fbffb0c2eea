use Rattle.std.proofs.Common.{◌<◌, [], ◌∷◌, ◌++◌, length, arith, refl, sym, ap, ◌∙◌, rules}
use Rattle.std.proofs.lemmas.Option.{slice_get_within}
use Rattle.rtrb.specs.Ring.{known_free}
use Rattle.amqp_journal.specs.Units.{units}
use Rattle.amqp_shared.proofs.Numbering.{taken-length, next-moved, none-waits}
use Rattle.amqp_shared.proofs.Rings.{same-pushes}
use Rattle.amqp_shared.proofs.growing.push_units.Goals as goal

pub push_reserved-requires : goal.push_reserved-requires
push_reserved-requires c =
    let was = c.loop-conn.invariant in
    let log = c.loop-conn.conn.core.log in
    let some = c.in-Some.ensures.some in
    let free : 0 < known_free c.is_full.new.self = search rules in
    let many = ap length (c.is_full.ensures.looked.1 ∙ was.0) ∙ taken-length log.popped (units log) was.1 in
    let more = slice_get_within (units log) log.popped c.in-Some.unit.bytes some.1 in
    (free, (some.0 ∙ sym many, omega (arith, some.0, more, was.2)))

pub loop-conn-smaller : goal.loop-conn-smaller
loop-conn-smaller c =
    let log = c.loop-conn.conn.core.log in
    let some = c.in-Some.ensures.some in
    let more = slice_get_within (units log) log.popped c.in-Some.unit.bytes some.1 in
    rw some.2 (omega (arith, more))

pub loop-conn-preserved : goal.loop-conn-preserved
loop-conn-preserved c =
    let was = c.loop-conn.invariant in
    let log = c.loop-conn.conn.core.log in
    let unit = c.in-Some.unit in
    let some = c.in-Some.ensures.some in
    let looked = c.is_full.ensures.looked in
    let pushed = c.push_reserved.ensures.sent in
    let more = slice_get_within (units log) log.popped unit.bytes some.1 in
    rw some.2 (
      pushed.0 ∙ ap (λ s. s ++ unit ∷ []) (looked.1 ∙ was.0) ∙ sym (next-moved log.popped (units log) unit some.0 some.1),
      omega (arith, more),
      was.2,
      same-pushes c.is_full.new.self c.push_reserved.new.self c.push_reserved.ensures.ring.0 ∙ same-pushes c.loop-conn.producer c.is_full.new.self looked.0.0 ∙ was.3,
      record { rest = was.4.rest; more = omega (arith, was.4.more) },
    )

pub returns-in-None-clause-full : goal.returns-in-None-clause-full
returns-in-None-clause-full c =
    let log = c.loop-conn.conn.core.log in
    let none = c.in-None.ensures.none refl in
    let past = none-waits log.popped (units log) none.0 in
    rw none.1 (λ h. absurd (omega (arith, past, h)))
