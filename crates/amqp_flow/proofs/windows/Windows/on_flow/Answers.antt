use Rattle.std.proofs.Common.{◌≡◌, ◌<◌, ◌≤◌, ◌^◌, ap, arith}
use Rattle.amqp_flow.specs.Windows.{WindowsView, session_lag}
use Rattle.amqp_flow.proofs.FlowLaws.{known-lag}
use Rattle.amqp_flow.proofs.windows.Windows.on_flow.Goals as goal

pub returns-clause-counted : goal.returns-clause-counted
returns-clause-counted c =
    let before = c.args.self.now in
    let flow = c.args.flow.now in
    let same : c.self.inside.sent ≡ before.sent = ap (λ (w : WindowsView). w.sent) c.self.view_is in
    let small : before.sent < 2 ^ 32 = omega arith in
    let behind : session_lag flow before ≤ before.sent = omega arith in
    let told = known-lag before.first before.sent flow.incoming_window flow.next_incoming_id small behind in
    let left : c.take_told.new.self.remote_incoming ≡ c.saturating_sub-remote_incoming.result =
    ap (λ (w : WindowsView). w.remote_incoming) c.take_told.ensures in
    omega (arith, told, left)
