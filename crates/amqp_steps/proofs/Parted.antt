-- What waits stays apart from what is unsettled.
use Rattle.std.proofs.Common.{◌≡◌, ◌≤◌, ℕ, ◌+◌, List, Ok, arith, subst}
use Rattle.amqp_performatives.specs.declared.performative.Performative.{Performative}
use Rattle.std.specs.Prelude.{Option}
use Rattle.amqp_deliveries.specs.declared.change.Change.TheVariants.{Stay}
use Rattle.amqp_links.specs.declared.fate.Fate.TheVariants as fate
use Rattle.amqp_rules.specs.declared.op.Op.{Op}
use Rattle.amqp_rules.specs.declared.reply.Given.{Given}
use Rattle.amqp_rules.specs.declared.violation.Violation.{Violation}
use Rattle.amqp_rules.specs.Answer.{body_answer, next_body, next_own, own_answer}
use Rattle.amqp_rules.specs.View.{View}
use Rattle.amqp_rules.proofs.Apart.{body-apart, own-apart}
use Rattle.amqp_rules.proofs.Soundness.{body-sound, own-is-sound}
use Rattle.amqp_steps.specs.declared.plan.Plan.{Plan}
use Rattle.amqp_steps.specs.Doing.{session_in}
use Rattle.amqp_steps.specs.Plan.{IsApart, IsPlan, KeepsApart, plan_reply, planned, quiet_plan}

own-apart-after : (v : View) (op : Op) (p : Plan) → own_answer v op ≡ Ok (plan_reply p v) → IsApart v → IsApart (next_own v op)
own-apart-after v op p due a =
    record {
      sound = own-is-sound v op (plan_reply p v) due a.sound;
      apart = own-apart v op (plan_reply p v) due a.sound.links.numbers a.apart;
    }

-- after an operation
pub own-keeps : (v : View) (op : Op) (p : Plan) → IsPlan v (own_answer v op) (next_own v op) p → KeepsApart v (planned v p)
own-keeps v op p i a = subst IsApart i.leaves (own-apart-after v op p i.due a)

body-apart-after : (v : View) (body : Option Performative) (payload : List ℕ) (p : Plan) → body_answer v body payload ≡ Ok (plan_reply p v) → IsApart v → IsApart (next_body v body payload)
body-apart-after v body payload p due a =
    record {
      sound = body-sound v body payload (plan_reply p v) due a.sound;
      apart = body-apart v body payload (plan_reply p v) due a.sound.links.numbers a.apart;
    }

-- after a frame that is heard and not dropped
pub body-keeps : (v : View) (body : Option Performative) (payload : List ℕ) (p : Plan) → IsPlan {E = Violation} v (body_answer v body payload) (next_body v body payload) p → KeepsApart v (planned v p)
body-keeps v body payload p i a = subst IsApart i.leaves (body-apart-after v body payload p i.due a)

more : (a b : ℕ) → a ≤ b → a ≤ b + 1
more a b h = omega (arith, h)

-- after a step that leaves the links, the deliveries and the session
pub quiet-keeps : (v : View) (told : ℕ) (g : Given) → KeepsApart v (planned v (quiet_plan (record (session_in v) { max_frame = told }) fate.Stay Stay g))
quiet-keeps v told g a =
    let s = a.sound in
    record {
      sound = record {
        sent = more v.windows.sent v.steps s.sent;
        deliveries = more v.deliveries v.steps s.deliveries;
        made = more v.made v.steps s.made;
        links = s.links;
        over = s.over;
        unbegun = s.unbegun;
      };
      apart = record { sent = a.apart.sent; received = a.apart.received };
    }
