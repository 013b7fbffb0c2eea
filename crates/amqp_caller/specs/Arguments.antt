-- The operations that numbers and octets describe.
use Rattle.std.specs.Prelude.{ℕ, ◌≡◌, Option, Some, None, List, [], ◌∷◌}
use Rattle.amqp_types.specs.declared.value.Value.{Value}
use Rattle.amqp_types.specs.declared.value.Value.TheVariants as value
use Rattle.amqp_performatives.specs.declared.bodies.Role.{Role}
use Rattle.amqp_performatives.specs.declared.error.AmqpError.{AmqpError}
use Rattle.amqp_performatives.specs.declared.state.DeliveryState.{DeliveryState}
use Rattle.amqp_performatives.specs.declared.state.DeliveryState.TheVariants as state
use Rattle.amqp_rules.specs.declared.op.Op.{Op}
use Rattle.amqp_rules.specs.declared.op.Op.TheVariants as op
use Rattle.amqp_caller.specs.declared.arguments.LinkSettings.{LinkSettings}
use Rattle.amqp_caller.specs.declared.arguments.Outcome.{Outcome}
use Rattle.amqp_caller.specs.declared.arguments.Range.{Range}
use Rattle.amqp_caller.specs.Numbers.{role_number}

-- a text; none if it is empty
abbrev pub named : List ℕ → Option (List ℕ)
named [] = None
named (x ∷ xs) = Some (x ∷ xs)

-- the address of a source (40) or of a target (41); none if it is empty
abbrev pub address : ℕ → List ℕ → Option Value
address d [] = None
address d (x ∷ xs) = Some (value.Described (value.Ulong d) (value.List (value.Str (x ∷ xs) ∷ [])))

-- the error of a condition and a description; none if the condition is empty
abbrev pub error_given : List ℕ → List ℕ → Option AmqpError
error_given [] description = None
error_given (x ∷ xs) description = Some (record { condition = x ∷ xs; description = named description; info = None })

abbrev pub IsAttach : List ℕ → ℕ → List ℕ → List ℕ → LinkSettings → Op → Type 0
IsAttach name number source target s o = (r : Role) × (role_number r ≡ number) × (o ≡ op.Attach name r s.snd s.rcv (address 40 source) (address 41 target) s.count s.max_message)

-- the state that an outcome describes, with the error of a rejection
abbrev pub IsOutcome : Outcome → List ℕ → List ℕ → Option DeliveryState → Type 0
IsOutcome o c d None = o.state ≡ 0
IsOutcome o c d (Some (state.Received n k)) = (o.state ≡ 1) × (n ≡ o.section_number) × (k ≡ o.section_offset)
IsOutcome o c d (Some state.Accepted) = o.state ≡ 2
IsOutcome o c d (Some (state.Rejected e)) = (o.state ≡ 3) × (e ≡ error_given c d)
IsOutcome o c d (Some state.Released) = o.state ≡ 4
IsOutcome o c d (Some (state.Modified f u m)) = (o.state ≡ 5) × (f ≡ Some o.delivery_failed) × (u ≡ Some o.undeliverable_here) × (m ≡ None)
IsOutcome o c d (Some (state.Other v)) = ⊥

abbrev pub IsDispose : Range → Outcome → List ℕ → List ℕ → Op → Type 0
IsDispose g o c d p = (r : Role) × (s : Option DeliveryState) × (role_number r ≡ g.role) × IsOutcome o c d s × (p ≡ op.Dispose r g.first g.last g.settled s)
