use Rattle.std.proofs.Common.{length, sym, ap, ◌∙◌}
use Rattle.amqp_types.specs.Canon.{capped}
use Rattle.amqp_frames.proofs.Leaves.{symbol_form, no_symbol}
use Rattle.amqp_frames.proofs.measure.symbol_len.Goals as goal

pub returns-then-is_symbol : goal.returns-then-is_symbol
returns-then-is_symbol c =
    c.run_len.ensures 0xa3 0xb3 c.args.text.now (ap length (sym c.as_bytes.ensures.value)) ∙ ap capped (sym (symbol_form c.args.text.now (sym c.is_symbol.ensures ∙ c.if-is_symbol.true)))

pub returns-else-is_symbol : goal.returns-else-is_symbol
returns-else-is_symbol c = ap capped (sym (no_symbol c.args.text.now (sym c.is_symbol.ensures ∙ c.if-is_symbol.false)))
