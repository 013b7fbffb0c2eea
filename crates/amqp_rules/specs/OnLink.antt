-- Operations of a link: the session is mapped, the link is there, attached and of the right role.
use Rattle.std.specs.Prelude.{ℕ, not, Bool, Result, List, ◌∷◌, find}
use Rattle.amqp_performatives.specs.declared.bodies.Role.{Role}
use Rattle.amqp_rules.specs.declared.reply.Reply.{Reply}
use Rattle.amqp_rules.specs.declared.refusal.Refusal.{Refusal}
use Rattle.amqp_rules.specs.declared.refusal.Refusal.TheVariants.{NotMapped, NoLink, NotAttached, WrongRole}
use Rattle.amqp_rules.specs.View.{View, LinkView, is_mapped, is_attached, has_number, same_role}
use Rattle.amqp_rules.specs.Refusing.{if_there, unless}

-- what is said of the link with this number in a mapped session
abbrev pub on_link : View → ℕ → (LinkView → Result Reply Refusal) → Result Reply Refusal
on_link v link say = unless (not (is_mapped v.session)) NotMapped (if_there (find (has_number link) v.links) NoLink say)

-- an operation of an attached link on which we have this role
abbrev pub attached_as : Role → LinkView → List (Bool × Refusal) → List (Bool × Refusal)
attached_as role l rows = (not (is_attached l), NotAttached) ∷ (not (same_role role l.role), WrongRole) ∷ rows
