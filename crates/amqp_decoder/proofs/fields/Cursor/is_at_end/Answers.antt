use Rattle.std.proofs.Common.{◌≡◌, ◌∙◌, sym, ap, length, eq-eqb, arith, true, false}
use Rattle.std.proofs.lemmas.Bool.{eqb-true}
use Rattle.std.proofs.lemmas.List.{nil_from_length}
use Rattle.amqp_decoder.proofs.FirstField.{absent_takes, absent_misses, null_passed, no_null, at_end, only_end}
use Rattle.amqp_decoder.proofs.fields.Cursor.is_at_end.Goals as goal

pub loop-rest-preserved : goal.loop-rest-preserved
loop-rest-preserved c =
    let t = absent_takes c.loop-rest.rest.depth c.loop-rest.rest.left c.loop-rest.rest.octets.now c.in-Some.used c.after-rest.result.depth c.after-rest.result.left c.after-rest.result.octets.now c.in-Some.ensures c.loop-rest.rest.some c.after-rest.ensures in
    let p = null_passed c.loop-rest.rest.depth c.loop-rest.rest.left c.loop-rest.rest.octets.now c.after-rest.result.depth c.after-rest.result.left c.after-rest.result.octets.now t in
    (λ h. c.loop-rest.invariant.0 (p.0 h), λ h. p.1 (c.loop-rest.invariant.1 h))

pub returns-in-None : goal.returns-in-None
returns-in-None c =
    let m = absent_misses c.loop-rest.rest.left c.loop-rest.rest.octets.now c.in-None.ensures (omega arith) in
    (λ h. absurd (let q : false ≡ true = h in cc), λ h. absurd (no_null c.loop-rest.rest.depth c.loop-rest.rest.left c.loop-rest.rest.octets.now m (c.loop-rest.invariant.1 h)))

pub returns : goal.returns
returns c =
    let os = c.loop-rest.rest.octets.now in (
      λ h. c.loop-rest.invariant.0 (at_end c.loop-rest.rest.depth c.loop-rest.rest.left os (omega arith) (nil_from_length os (eqb-true (length os) 0 (sym c.is_empty.ensures ∙ h)))),
      λ h. c.is_empty.ensures ∙ eq-eqb (length os) 0 (ap length (only_end c.loop-rest.rest.depth c.loop-rest.rest.left os (omega arith) (c.loop-rest.invariant.1 h))),
    )
