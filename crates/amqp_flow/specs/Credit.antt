-- The credit of a link (OASIS AMQP 1.0, part 2, 2.6.7), at either end.
use Rattle.std.specs.Prelude.{ℕ, ◌+◌, ◌-◌, Bool, false}
use Rattle.amqp_flow.specs.Serial.{wire}

pub record CreditView : Type 0 where
  -- the initial delivery-count: that of the sender's attach, 0 before it
  pub first_count : ℕ
  -- how many deliveries were begun or given up on the link, modulo 2^32
  pub passed : ℕ
  -- how many deliveries may still begin
  pub credit : ℕ
  -- at the sender: the last flow asks to drain; at the receiver: the last grant did
  pub drain : Bool

-- delivery-count
abbrev pub delivery_count : CreditView → ℕ
delivery_count c = wire (c.first_count + c.passed)

abbrev pub no_credit : ℕ → CreditView
no_credit first_count = record { first_count = wire first_count; passed = 0; credit = 0; drain = false }

-- the sender's attach gives the initial delivery-count
abbrev pub count_given : ℕ → CreditView → CreditView
count_given first_count c = record c { first_count = wire first_count }

-- a delivery begins
abbrev pub delivery_begun : CreditView → CreditView
delivery_begun c = record c { passed = wire (c.passed + 1); credit = c.credit - 1 }

-- so many deliveries are given up
abbrev pub given_up : ℕ → CreditView → CreditView
given_up n c = record c { passed = wire (c.passed + n); credit = c.credit - n }
