-- What was promised never falls.
use Rattle.std.proofs.Common.{◌≡◌, ◌≤◌, ◌+◌, Bool, true, false, cond, Some, None, List, [], ◌∷◌, arith}
use Rattle.amqp_rules.specs.declared.config.Config.{Config}
use Rattle.amqp_laws.specs.declared.entry.Entry.{Entry}
use Rattle.amqp_laws.specs.Past.{more, said_or}
use Rattle.amqp_laws.specs.Said.{sends_windows, transfers_heard}
use Rattle.amqp_laws.specs.Windows.{heard_transfers, last_telling, promise, promise_by}
use Rattle.amqp_laws.proofs.Counting.{more-is}

promise-within : (c : Config) (past : List Entry) → promise c past ≤ heard_transfers past + c.window
promise-within c [] = omega arith
promise-within c (e ∷ before) =
    let earlier = promise-within c before in
    let sum = more-is (transfers_heard e) (heard_transfers before) in
    by (sends_windows e) earlier sum
  where
    by : (tells : Bool) → promise c before ≤ heard_transfers before + c.window → more (transfers_heard e) (heard_transfers before) ≡ heard_transfers before + transfers_heard e
        → promise_by c.window (said_or (cond tells (Some tt) None) before (last_telling before)) ≤ more (transfers_heard e) (heard_transfers before) + c.window
    by true earlier sum = rw sum (omega arith)
    by false earlier sum = rw sum (omega (arith, earlier))

pub promise-grows : (c : Config) (past : List Entry) (e : Entry) → promise c past ≤ promise c (e ∷ past)
promise-grows c past e = by (sends_windows e) (promise-within c past)
  where
    by : (tells : Bool) → promise c past ≤ heard_transfers past + c.window → promise c past ≤ promise_by c.window (said_or (cond tells (Some tt) None) past (last_telling past))
    by true within = within
    by false within = omega arith
