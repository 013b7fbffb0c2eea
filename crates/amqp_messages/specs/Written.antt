-- Which octets are written for a message: each section's canonical spelling, with its descriptor as a number.
use Rattle.std.specs.Prelude.{ℕ, nat_le, ◌++◌, ◌&&◌, Bool, Option, Some, None, List, [], ◌∷◌, if◌then◌else◌}
use Rattle.amqp_types.specs.Datum.{depth_of}
use Rattle.amqp_types.specs.Reading.{◌>>=◌}
use Rattle.amqp_types.specs.Canon.{part_form}
use Rattle.amqp_messages.specs.Sections.{SectionData, type_of, is_body}
use Rattle.amqp_messages.specs.Messages.{are_ordered, has_body}

-- the descriptor as a ulong of one octet, and the body with the shortest format codes
abbrev pub bare_form : SectionData → Option (List ℕ)
bare_form s = part_form None s.1 >>= λ b. Some (0x00 ∷ 0x53 ∷ (type_of s.0).0 ∷ b)

-- None if the kind does not take the body, or if the body is nested too deep
abbrev pub section_form : SectionData → Option (List ℕ)
section_form s = if is_body s.0 s.1 && nat_le (depth_of s.1) 31 then bare_form s else None

abbrev pub sections_form : List SectionData → Option (List ℕ)
sections_form [] = Some []
sections_form (s ∷ ss) = section_form s >>= λ a. sections_form ss >>= λ b. Some (a ++ b)

-- whether the sections are in an order that a message may have, and one of them is a body
abbrev pub is_message : List SectionData → Bool
is_message ss = are_ordered None ss && has_body ss

abbrev pub message_form : List SectionData → Option (List ℕ)
message_form ss = if is_message ss then sections_form ss else None

-- the spelling of the sections if type and depth of the bodies are not checked, for private functions
abbrev pub bare_forms : List SectionData → Option (List ℕ)
bare_forms [] = Some []
bare_forms (s ∷ ss) = bare_form s >>= λ a. bare_forms ss >>= λ b. Some (a ++ b)
