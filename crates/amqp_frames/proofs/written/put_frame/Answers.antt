use Rattle.std.proofs.Common.{◌≡◌, Some, sym, ap, ◌∙◌}
use Rattle.amqp_types.specs.Canon.{canon}
use Rattle.amqp_performatives.specs.Part.{canonical}
use Rattle.amqp_performatives.specs.Bodies.{part_of}
use Rattle.amqp_frames.specs.Field.{added, with_payload}
use Rattle.amqp_frames.specs.Written.{frame_octets}
use Rattle.amqp_frames.proofs.Puts.{on_ok, frame_put, empty_put}
use Rattle.amqp_frames.proofs.written.put_frame.Goals as goal

pub returns-in-Some : goal.returns-in-Some
returns-in-Some c =
    let f = c.args.frame.now in
    let form = canon (canonical (part_of c.in-Some.performative)) in
    let old = c.put_header.new.out.items in
    let end = c.put_contents.new.out.items in
    on_ok c.put_contents.result (added old (with_payload form c.as_slice.result.now) ≡ Some end) (added c.args.out.now.items (frame_octets f) ≡ Some end)
    (λ put. frame_put f c.in-Some.performative c.args.measured c.args.out.now.items old end c.requires c.in-Some.is c.in_ok-put_header.ensures (ap (λ payload. added old (with_payload form payload)) (sym c.as_slice.ensures) ∙ put))
    c.put_contents.ensures

pub returns-in-None : goal.returns-in-None
returns-in-None c = empty_put c.args.frame.now c.args.measured c.args.out.now.items c.put_header.new.out.items c.requires c.in-None.is c.in_ok-put_header.ensures
