use Rattle.std.proofs.Common.{sym, ◌∙◌}
use Rattle.amqp_frames.proofs.Leaves.{symbol_form}
use Rattle.amqp_frames.proofs.writing.put_symbol.Goals as goal

pub returns-then-is_symbol : goal.returns-then-is_symbol
returns-then-is_symbol c =
    let e = c.as_bytes.ensures.value in
    rw (symbol_form c.args.text.now (sym c.is_symbol.ensures ∙ c.if-is_symbol.true), ← e) c.put_run.ensures
