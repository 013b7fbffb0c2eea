-- The states of deliveries that one end said, and that the other heard.
use Rattle.std.specs.Prelude.{ℕ, ◌≡◌, false, cond, Option, None, List, [], ◌∷◌}
use Rattle.amqp_flow.specs.Serial.{is_inside}
use Rattle.amqp_performatives.specs.declared.state.DeliveryState.{DeliveryState}
use Rattle.amqp_performatives.specs.declared.bodies.Role.TheVariants.{Receiver}
use Rattle.amqp_events.specs.Since.{or_earlier}
use Rattle.amqp_rules.specs.declared.config.Config.{Config}
use Rattle.amqp_rules.specs.declared.op.Op.TheVariants.{Dispose}
use Rattle.amqp_rules.specs.Sound.{Every}
use Rattle.amqp_rules.specs.View.{is_over}
use Rattle.amqp_laws.specs.declared.entry.Entry.{Entry}
use Rattle.amqp_laws.specs.declared.entry.Step.{Step}
use Rattle.amqp_laws.specs.declared.entry.Step.TheVariants.{Own}
use Rattle.amqp_laws.specs.At.{at}
use Rattle.amqp_pair_laws.specs.World.{World, Tight}

-- the state that an operation gives to the delivery with this id among those that the end receives (part 2, 2.7.6)
abbrev pub state_by : Step → ℕ → Option DeliveryState
state_by (Own (Dispose Receiver first last settled state)) id = cond (is_inside id first last) state None
state_by _ id = None

-- the last state that an end gave to the delivery with this id
abbrev pub said_state : ℕ → List Entry → Option DeliveryState
said_state id [] = None
said_state id (e ∷ before) = or_earlier (state_by e.step id) (said_state id before)

-- where b has heard all that a sent: of each unsettled delivery that b sent, the last state that it heard is the last one that a gave
abbrev pub HearsWhatWasSaid : Type 0
HearsWhatWasSaid =
    (ca cb : Config) (n : ℕ) (a b : List Entry) → Tight ca cb n a b → is_over (at cb b).session ≡ false → Every (λ s. s.item.remote ≡ said_state s.item.id a) (at cb b).sent

-- in every world, the state of its own that an end has of an unsettled delivery which it received is the last one that it gave
abbrev pub HasWhatItSaid : Type 0
HasWhatItSaid = (ca cb : Config) (n : ℕ) (a b : List Entry) → World ca cb n a b → is_over (at ca a).session ≡ false → Every (λ i. i.local ≡ said_state i.id a) (at ca a).received
