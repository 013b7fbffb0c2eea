-- What the attach of a peer is answered with (part 2, 2.6.3).
use Rattle.std.specs.Prelude.{Bool, cond}
use Rattle.amqp_performatives.specs.declared.bodies.Role.{Role}
use Rattle.amqp_performatives.specs.declared.bodies.Role.TheVariants.{Sender, Receiver}
use Rattle.amqp_serve.specs.declared.answer.Terminus.{Terminus}
use Rattle.amqp_serve.specs.declared.answer.Terminus.TheVariants.{Absent, Node, Coordinator, Unknown}
use Rattle.amqp_serve.specs.declared.answer.Reason.TheVariants.{NotImplemented, InvalidField}
use Rattle.amqp_serve.specs.declared.answer.Answer.{Answer}
use Rattle.amqp_serve.specs.declared.answer.Answer.TheVariants.{Queue, Temporary, ByMessage, Refused}

-- Without such an end at all, a link goes to the queue of its own name.

-- a node that the peer names, or one that is made for the link; without either, what the last argument says
abbrev pub node_answer : Bool → Bool → Answer → Answer
node_answer has_address is_dynamic otherwise = cond is_dynamic Temporary (cond has_address Queue otherwise)

-- where the messages come from that we send
abbrev pub source_answer : Terminus → Answer
source_answer Absent = Queue
source_answer (Node has_address is_dynamic) = node_answer has_address is_dynamic (Refused InvalidField)
source_answer Coordinator = Refused NotImplemented
source_answer Unknown = Refused NotImplemented

-- where the messages go that we receive: without an address, where each message says
abbrev pub target_answer : Terminus → Answer
target_answer Absent = Queue
target_answer (Node has_address is_dynamic) = node_answer has_address is_dynamic ByMessage
target_answer Coordinator = Refused NotImplemented
target_answer Unknown = Refused NotImplemented

-- by the role of our end
abbrev pub answer_of : Role → Terminus → Terminus → Answer
answer_of Sender source target = source_answer source
answer_of Receiver source target = target_answer target
