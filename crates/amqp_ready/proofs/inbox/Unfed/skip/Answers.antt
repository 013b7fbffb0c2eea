use Rattle.std.proofs.Common.{◌≡◌, ◌≤◌, ◌-◌, ℕ, List, length, take, drop, ap, ◌∙◌, subst, sym}
use Rattle.amqp_conn.proofs.Spans.{skipped}
use Rattle.amqp_ready.proofs.Spans.{span-length}
use Rattle.amqp_ready.proofs.inbox.Unfed.skip.Goals as goal

pub returns : goal.returns
returns c =
    let b = c.self.inside.room.items in
    let s = c.self.inside.start in
    let e = c.self.inside.end in
    let view : take (e - s) (drop s b) ≡ c.args.self.now = c.self.view_is in
    let short : c.args.used ≤ length (take (e - s) (drop s b)) = subst (λ (x : List ℕ). c.args.used ≤ length x) (sym view) c.requires in
    let within : c.args.used ≤ e - s = subst (λ (n : ℕ). c.args.used ≤ n) (span-length b s e c.self.invariant) short in
    skipped b s e c.args.used within ∙ ap (drop c.args.used) view
