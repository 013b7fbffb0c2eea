-- What the writer's functions return, in the terms of the canonical encoding.
use Rattle.std.specs.Prelude.{◌+◌, ◌-◌, ◌^◌, ℕ, List, ◌∷◌, length, min, Option, Some, None, if◌then◌else◌, ◌==◌}
use Rattle.amqp_types.specs.declared.class.Class.{Class}
use Rattle.amqp_types.specs.declared.forms.Head.{Head}
use Rattle.amqp_types.specs.declared.forms.Head.TheVariants as head
use Rattle.amqp_types.specs.Codes.{class_of}
use Rattle.amqp_types.specs.Reading.{◌>>=◌}
use Rattle.amqp_types.specs.Canon.{number_form, octets_head, list_head, map_head, array_head, described_head}
use Rattle.amqp_types.specs.Writing.{number_code, octets_code, compound_code}

abbrev pub head_form : Head → Class → Option (List ℕ)
head_form (head.Number k n) class = number_form class k n
head_form (head.Octets r text) class = octets_head class r text.now
head_form (head.List count size) class = list_head class count size
head_form (head.Map count size) class = map_head class count size
head_form (head.Array code count size) class = array_head class code count size
head_form head.Described class = described_head class

abbrev pub head_code : Head → ℕ
head_code (head.Number k n) = number_code k n
head_code (head.Octets r text) = octets_code r (length text.now)
head_code (head.List count size) = if count == 0 then 0x45 else compound_code 0xc0 0xd0 count size
head_code (head.Map count size) = compound_code 0xc1 0xd1 count size
head_code (head.Array code count size) = compound_code 0xe0 0xf0 count (1 + size)
head_code head.Described = 0

-- the head with its code, or without one as an element of an array
abbrev pub spelled_head : Option ℕ → Head → Option (List ℕ)
spelled_head None h = head_form h (class_of (head_code h)) >>= λ os. Some (head_code h ∷ os)
spelled_head (Some c) h = head_form h (class_of c)

-- the number of octets with size more after them, at most 2 ^ 64 - 1
abbrev pub capped_with : ℕ → Option (List ℕ) → Option ℕ
capped_with size form = form >>= λ os. Some (min (length os + size) (2 ^ 64 - 1))
