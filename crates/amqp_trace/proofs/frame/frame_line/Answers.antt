use Rattle.std.proofs.Common.{List, ℕ, ◌++◌, ◌∙◌, ap, subst}
use Rattle.amqp_trace.specs.Lines.{IsBody, head, payload_text}
use Rattle.amqp_trace.proofs.frame.frame_line.Goals as goal

pub returns : goal.returns
returns c =
    let front = head c.args.direction c.args.frame.now.channel in (
      c.put_body.new.line,
      subst (λ (old : List ℕ). IsBody c.args.frame.now.body old c.put_body.new.line) (c.in_ok-put_head.ensures ∙ ap (λ (t : List ℕ). t ++ front) c.new-line.ensures) c.in_ok-put_body.ensures,
      c.in_ok-put_payload.ensures ∙ ap (λ (t : List ℕ). c.put_body.new.line ++ payload_text t) c.as_slice.ensures,
    )
