use Rattle.amqp_types.proofs.Runs.{text_is_utf8, symbol_is_utf8}
use Rattle.amqp_types.proofs.leaves.made_run.Goals as goal

pub text_of-requires : goal.text_of-requires
text_of-requires c = text_is_utf8 c.args.run c.args.bytes.now c.in-Str.is c.requires

pub text_of-requires-in-Symbol : goal.text_of-requires-in-Symbol
text_of-requires-in-Symbol c = symbol_is_utf8 c.args.run c.args.bytes.now c.in-Symbol.is c.requires
