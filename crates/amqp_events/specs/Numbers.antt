-- The ids of deliveries (part 2, 2.6.12): serial numbers, each one past the one before.
use Rattle.std.specs.Prelude.{ℕ, ◌≡◌, ◌+◌, ◌==◌, Bool, true, false, Option, None, Some, List, [], ◌∷◌, cond}
use Rattle.amqp_flow.specs.Serial.{wire}
use Rattle.amqp_events.specs.Event.{Event, Begins, PassesOver}
use Rattle.amqp_events.specs.Since.{total}

abbrev pub is_begin : Event → Bool
is_begin (Begins item unsettled) = true
is_begin _ = false

-- how many deliveries began
abbrev pub deliveries : List Event → ℕ
deliveries past = total (λ e. cond (is_begin e) 1 0) past

-- the id, where there is one, is the one that is expected
abbrev pub is_expected : Option ℕ → Option ℕ → Bool
is_expected (Some id) (Some next) = id == next
is_expected _ _ = false

-- the id that the event uses: it begins a delivery, or it is passed over and has the id that is expected
abbrev pub id_used : Event → Option ℕ → Option ℕ
id_used (Begins item unsettled) next = Some item.id
id_used (PassesOver id) next = cond (is_expected id next) id None
id_used _ next = None

-- one past the id that was used, or else the one that was expected earlier
abbrev pub one_past : Option ℕ → Option ℕ → Option ℕ
one_past None earlier = earlier
one_past (Some id) earlier = Some (wire (id + 1))

-- the id that is expected: one past the last that was used; none before a delivery has begun
abbrev pub expected : List Event → Option ℕ
expected [] = None
expected (e ∷ before) = one_past (id_used e (expected before)) (expected before)

-- # What is required of an event

-- the first id is free
abbrev pub Follows : ℕ → Option ℕ → Type 0
Follows id None = Unit {0}
Follows id (Some next) = id ≡ next

abbrev pub IsNext : Event → List Event → Type 0
IsNext (Begins item unsettled) before = Follows item.id (expected before)
IsNext _ before = Unit {0}

-- deliveries that are heard: each has the id that is expected
abbrev pub AreHeardInOrder : List Event → Type 0
AreHeardInOrder [] = Unit {0}
AreHeardInOrder (e ∷ before) = AreHeardInOrder before × IsNext e before

abbrev pub IsSent : ℕ → Event → List Event → Type 0
IsSent first (Begins item unsettled) before = item.id ≡ wire (first + deliveries before)
IsSent first (PassesOver id) before = ⊥
IsSent first _ before = Unit {0}

-- deliveries that are sent: the i-th has the i-th serial number from the first one on
abbrev pub AreSentInOrder : ℕ → List Event → Type 0
AreSentInOrder first [] = Unit {0}
AreSentInOrder first (e ∷ before) = AreSentInOrder first before × IsSent first e before
