-- Rejoin: a link is attached, and the deliveries that were put aside wait on it to be resumed (part 2, 2.6.3 and 2.6.13).
use Rattle.std.specs.Prelude.{Result}
use Rattle.amqp_rules.specs.declared.op.Rejoin.{Rejoin}
use Rattle.amqp_rules.specs.declared.reply.Reply.{Reply}
use Rattle.amqp_rules.specs.declared.refusal.Refusal.{Refusal}
use Rattle.amqp_rules.specs.View.{View}
use Rattle.amqp_rules.specs.Attach.{Wanted, attach_answer, next_attach}

-- as an Attach that brings its items in
abbrev pub rejoined : Rejoin → Wanted
rejoined r =
    record {
      name = r.name;
      role = r.role;
      snd = r.snd;
      rcv = r.rcv;
      source = r.source;
      target = r.target;
      count = r.count;
      max_message = r.max_message;
      items = r.items;
    }

abbrev pub rejoin_answer : View → Rejoin → Result Reply Refusal
rejoin_answer v r = attach_answer v (rejoined r)

abbrev pub next_rejoin : View → Rejoin → View
next_rejoin v r = next_attach v (rejoined r)
