-- What is learnt was said.
use Rattle.std.specs.Prelude.{ℕ, ◌≡◌, ◌⊎◌, ◌&&◌, ◌||◌, Bool, true, false, Option, List, [], ◌∷◌, ◌++◌}
use Rattle.amqp_flow.specs.Serial.{is_inside}
use Rattle.amqp_performatives.specs.declared.state.DeliveryState.{DeliveryState}
use Rattle.amqp_performatives.specs.declared.bodies.Role.TheVariants.{Receiver}
use Rattle.amqp_events.specs.Event.{Item}
use Rattle.amqp_events.specs.Since.{or_earlier}
use Rattle.amqp_events.specs.Told.{has_outcome}
use Rattle.amqp_rules.specs.declared.config.Config.{Config}
use Rattle.amqp_rules.specs.declared.op.Op.TheVariants.{Dispose}
use Rattle.amqp_rules.specs.declared.reply.Given.{Given}
use Rattle.amqp_rules.specs.declared.reply.Given.TheVariants as given
use Rattle.amqp_rules.specs.declared.reply.Learned.{Learned}
use Rattle.amqp_rules.specs.Sound.{Every}
use Rattle.amqp_laws.specs.declared.entry.Entry.{Entry}
use Rattle.amqp_laws.specs.declared.entry.Step.{Step}
use Rattle.amqp_laws.specs.declared.entry.Step.TheVariants.{Own}
use Rattle.amqp_laws.specs.At.{at}
use Rattle.amqp_pair_laws.specs.Moves.{IsTail}
use Rattle.amqp_pair_laws.specs.World.{World}
use Rattle.amqp_pair_laws.specs.States.{said_state}

abbrev pub learnt_in : Given → List Learned
learnt_in (given.Learned l) = l ∷ []
learnt_in _ = []

-- what the application learnt of the deliveries that it sent, the oldest first
abbrev pub all_learnt : List Entry → List Learned
all_learnt [] = []
all_learnt (e ∷ before) = all_learnt before ++ learnt_in e.reply.given

-- the operation settles the delivery with this id among those that the end receives, or gives it an outcome (part 2, 2.6.12 and 2.7.6)
abbrev pub tells_by : Step → ℕ → Bool
tells_by (Own (Dispose Receiver first last settled state)) id = is_inside id first last && (settled || has_outcome state)
tells_by _ id = false

abbrev pub was_told : ℕ → List Entry → Bool
was_told id [] = false
was_told id (e ∷ before) = tells_by e.step id || was_told id before

-- it stands in the list
abbrev pub IsOneOf : {A : Type 0} → A → List A → Type 0
IsOneOf x [] = ⊥
IsOneOf x (y ∷ ys) = (x ≡ y) ⊎ IsOneOf x ys

-- a told it: by the first of its operations that settled the delivery or gave it an outcome. Settled is told just where this one said so. a held
-- the delivery then, and the state is the one that this operation gave, or else that a had as its own before; so it is the last one that a gave
pub record WasSaid (c : Config) (a : List Entry) (l : Learned) : Type 0 where
  pub entry : Entry
  pub before : List Entry
  pub is_tail : IsTail (entry ∷ before) a
  pub first : ℕ
  pub last : ℕ
  pub state : Option DeliveryState
  pub disposes : entry.step ≡ Own (Dispose Receiver first last l.settled state)
  pub tells : tells_by entry.step l.id ≡ true
  pub is_first : was_told l.id before ≡ false
  pub held : Item
  pub there : IsOneOf held (at c before).received
  pub id : held.id ≡ l.id
  pub tag : held.tag ≡ l.tag
  pub local : l.state ≡ or_earlier state held.local
  pub said : l.state ≡ said_state l.id (entry ∷ before)

-- in every world, all that b learnt a had said
abbrev pub LearnsWhatWasSaid : Type 0
LearnsWhatWasSaid = (ca cb : Config) (n : ℕ) (a b : List Entry) → World ca cb n a b → Every (WasSaid ca a) (all_learnt b)
