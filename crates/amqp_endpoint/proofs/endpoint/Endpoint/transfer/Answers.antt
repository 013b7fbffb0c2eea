use Rattle.std.proofs.Common.{Some}
use Rattle.amqp_performatives.specs.declared.performative.Performative.TheVariants.{Transfer}
use Rattle.amqp_steps.proofs.Parted.{body-keeps}
use Rattle.amqp_endpoint.proofs.endpoint.Endpoint.transfer.Goals as goal

pub pass-requires-clause-apart : goal.pass-requires-clause-apart
pass-requires-clause-apart c =
    let p = rw c.in-Ok-Passed.field-0-is at c.in-Ok-Passed.ensures.plan in
    body-keeps c.args.self.now (Some (Transfer c.args.b.now)) c.args.payload.now _ p

pub come-requires : goal.come-requires
come-requires c =
    let p = rw c.in-Ok-Comes.field-0-is at c.in-Ok-Comes.ensures.plan in
    record {
      may = record {
        steps = c.requires;
        window = c.in-Ok-Comes.ensures.window;
        sound = p.sound;
        apart = body-keeps c.args.self.now (Some (Transfer c.args.b.now)) c.args.payload.now _ p;
      };
    }
