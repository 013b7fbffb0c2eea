-- The attaches of a link, over the link's own past (part 2, 2.6.3).
use Rattle.std.specs.Prelude.{ℕ, Option, None, Some, List}
use Rattle.amqp_performatives.specs.declared.bodies.AttachBody.{AttachBody}
use Rattle.amqp_rules.specs.Attach.{count_of}
use Rattle.amqp_laws.specs.declared.entry.Entry.{Entry}
use Rattle.amqp_laws.specs.Past.{last_said, last_of}
use Rattle.amqp_laws.specs.Said.{attach_sent, attach_heard}

-- our attach, if it was sent
abbrev pub our_attach : List Entry → Option AttachBody
our_attach past = last_of (last_said attach_sent past)

-- the peer's attach, if it was heard
abbrev pub peer_attach : List Entry → Option AttachBody
peer_attach past = last_of (last_said attach_heard past)

-- the initial delivery-count of an attach, 0 before it
abbrev pub count_in : Option AttachBody → ℕ
count_in None = 0
count_in (Some b) = count_of b
