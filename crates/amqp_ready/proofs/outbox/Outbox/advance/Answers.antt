use Rattle.std.proofs.Common.{◌≡◌, ◌++◌, ◌-◌, length, drop, sym, ap, ◌∙◌, arith, length-drop}
use Rattle.std.proofs.lemmas.List.{drop-drop}
use Rattle.amqp_ready.proofs.Cursor.{drop-both}
use Rattle.amqp_ready.proofs.outbox.Outbox.advance.Goals as goal

pub returns : goal.returns
returns c =
    let sent = c.self.inside.sent in
    let short = c.self.inside.short.items in
    let long = c.self.inside.long in
    let last = c.self.inside.last in
    let of_short = c.min-of_short.result in
    let of_long = c.min-of_long.result in
    let count = c.args.count in
    let size = length-drop sent short in
    let least = c.min-of_short.ensures in
    let fewer = c.min-of_long.ensures in
    let len : length c.as_slice.result.now ≡ length short = ap length c.as_slice.ensures.value in
    let within = c.self.invariant in
    let longer = c.len.ensures.value in
    ap (λ x. x ++ (c.advance.new.self ++ c.advance-2.new.self)) (sym (drop-drop of_short sent short))
    ∙ ap (λ y. drop of_short (drop sent short) ++ y)
    (ap (λ z. z ++ c.advance-2.new.self) c.advance.ensures
    ∙ ap (λ z. drop of_long long ++ z) c.advance-2.ensures
    ∙ drop-both (count - of_short) of_long long last (omega (arith, fewer)) (omega (arith, fewer, longer)) (λ less. omega (arith, less, fewer, longer)))
    ∙ drop-both count of_short (drop sent short) (long ++ last) (omega (arith, least)) (omega (arith, least, len, size, within)) (λ less. omega (arith, less, least, len, size, within))
    ∙ ap (drop count) c.self.view_is
