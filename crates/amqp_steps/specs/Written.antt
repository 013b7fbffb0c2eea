-- A frame that is written, where it stays: alone in its list, with one handle more of its octets.
use Rattle.std.specs.Prelude.{ℕ, ◌≡◌, ◌⊎◌, Option, Some, None, Result, Ok, Err, List, [], ◌∷◌}
use Rattle.amqp_performatives.specs.declared.performative.Performative.{Performative}
use Rattle.amqp_rules.specs.declared.refusal.Refusal.{Refusal}
use Rattle.amqp_rules.specs.declared.refusal.Refusal.TheVariants.{NoMemory}
use Rattle.amqp_rules.specs.declared.reply.Sent.{Sent}
use Rattle.amqp_rules.specs.Sending.{frame_refused}

abbrev pub first_of : List Sent → Sent
first_of [] = record { frame = record { channel = 0; body = None; payload = [] }; bytes = [] }
first_of (s ∷ ss) = s

pub record IsAlone (list : List Sent) (octets : List ℕ) : Type 0 where
  pub alone : list ≡ first_of list ∷ []
  pub same : octets ≡ (first_of list).bytes

-- the frame is not refused, and this is made of it; or it is refused as is due, or for want of memory
abbrev pub Writes : {X : Type 0} → ℕ → Option Performative → List ℕ → X → Result X Refusal → Type 0
Writes max body payload x (Ok y) = (frame_refused max body payload ≡ None) × (y ≡ x)
Writes max body payload x (Err e) = (frame_refused max body payload ≡ Some e) ⊎ ((frame_refused max body payload ≡ None) × (e ≡ NoMemory))
