-- Windows and credit against counts over a whole session: a window is what was told in all, less those that passed.
use Rattle.std.proofs.Common.{◌≡◌, ◌<◌, ◌≤◌, ℕ, ◌+◌, ◌-◌, ◌^◌, Option, None, Some, unwrap_or, arith}
use Rattle.amqp_flow.specs.Serial.{wire, distance}
use Rattle.amqp_flow.specs.Windows.{awaited}
use Rattle.amqp_flow.proofs.SerialLaws.{numbered-back}

-- what was told when n had passed, of which the peer had not seen the last few
pub left-told : (n told lag : ℕ) → (n + told) - (lag + n) ≡ told - lag
left-told n told lag = omega arith

-- the same, counted from the one that the peer awaited
pub left-awaited : (awaited n told lag : ℕ) → lag ≤ n → awaited ≡ n - lag → (awaited + told) - n ≡ told - lag
left-awaited awaited n told lag h e = omega arith

-- a delivery-count, by counts without bound
pub count-wire : (first n : ℕ) → wire (wire first + wire n) ≡ wire (first + n)
count-wire first n = omega arith

-- the transfer that the peer awaits, by the lag
pub awaited-lag : (first n : ℕ) (id : Option ℕ) → n < 2 ^ 32 → distance (unwrap_or id first) (wire (first + n)) ≤ n
    → awaited first n id ≡ n - distance (unwrap_or id first) (wire (first + n))
awaited-lag first n None small h = omega arith
awaited-lag first n (Some id) small h = numbered-back first id n h

-- the remote window after a flow, by what was told in all and by what is on its way
pub known-lag : (first n window : ℕ) (id : Option ℕ) → n < 2 ^ 32 → distance (unwrap_or id first) (wire (first + n)) ≤ n
    → (awaited first n id + window) - n ≡ window - distance (unwrap_or id first) (wire (first + n))
known-lag first n window id small h =
    left-awaited (awaited first n id) n window (distance (unwrap_or id first) (wire (first + n))) h (awaited-lag first n id small h)
