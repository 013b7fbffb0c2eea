use Rattle.std.proofs.Common.{arith, refl, ap, ◌∙◌}
use Rattle.amqp_types.specs.Canon.{canon}
use Rattle.amqp_frames.specs.Field.{composite_datum, body_answer, header}
use Rattle.std.proofs.Common.{◌++◌, ◌∷◌, [], ◌-◌, take, drop}
use Rattle.amqp_performatives.specs.Composite.{type_of}
use Rattle.amqp_frames.proofs.Measuring.{refused_form, is_there}
use Rattle.amqp_frames.proofs.Plain.{extended, refused, refused_so, no_room, is_plain, payload_behind, plain_sized, plain_there}
use Rattle.amqp_frames.proofs.append.append_plain.Goals as goal

pub returns-in-Err : goal.returns-in-Err
returns-in-Err c ds x form counted nested t =
    let p = is_plain (type_of c.args.composite).0 c.args.shown.1 c.args.shown.0 ds x c.args.head.now (omega (arith, c.number-code.ensures.value, c.number-code.ensures.some)) (omega (arith, c.number-code.ensures.value)) (omega arith) (omega arith) (omega arith) (omega arith) (omega arith) form counted nested t in
    refused_so c.args.apart c.args.envelope.now.payload.now c.in-Err.refusal _ c.args.out.now.items c.args.out.now.items (refused c.in-Err.refusal _ c.args.out.now.items c.args.out.now.items
    (refused_form _ c.args.envelope.now.channel c.args.envelope.now.max (canon (composite_datum (type_of c.args.composite).0 ds)) c.args.envelope.now.payload.now c.in-Err.refusal (plain_sized (type_of c.args.composite).0 c.args.shown.1 c.args.shown.0 ds x c.args.head.now (omega arith) (omega arith) p) c.in-Err.ensures) refl)

pub returns-in_default : goal.returns-in_default
returns-in_default c ds x form counted nested t =
    let p = is_plain (type_of c.args.composite).0 c.args.shown.1 c.args.shown.0 ds x c.args.head.now (omega (arith, c.number-code.ensures.value, c.number-code.ensures.some)) (omega (arith, c.number-code.ensures.value)) (omega arith) (omega arith) (omega arith) (omega arith) (omega arith) form counted nested t in
    let octets = canon (composite_datum (type_of c.args.composite).0 ds) in
    let there = is_there _ c.in-Ok.size c.args.envelope.now.channel c.args.envelope.now.max octets c.args.envelope.now.payload.now (plain_sized (type_of c.args.composite).0 c.args.shown.1 c.args.shown.0 ds x c.args.head.now (omega arith) (omega arith) p) c.in-Ok.ensures in
    refused_so c.args.apart c.args.envelope.now.payload.now _ _ c.args.out.now.items c.reserve.new.self.items (no_room (body_answer c.args.envelope.now.channel c.args.envelope.now.max octets c.args.envelope.now.payload.now) _ c.args.out.now.items c.reserve.new.self.items there.1.answer c.reserve.ensures.items)

pub returns-then-apart : goal.returns-then-apart
returns-then-apart c ds x form counted nested t =
    let p = is_plain (type_of c.args.composite).0 c.args.shown.1 c.args.shown.0 ds x c.args.head.now (omega (arith, c.number-code.ensures.value, c.number-code.ensures.some)) (omega (arith, c.number-code.ensures.value)) (omega arith) (omega arith) (omega arith) (omega arith) (omega arith) form counted nested t in
    let there = plain_there (type_of c.args.composite).0 c.args.shown.1 c.args.shown.0 c.in-Ok.size c.args.envelope.now.channel c.args.envelope.now.max ds x c.args.head.now (c.copy_from_slice.new.self ++ drop 14 c.args.head.now) c.args.envelope.now.payload.now c.args.out.now.items c.extend_from_slice.new.self.items
    (omega arith) (omega arith) (omega arith) p t c.in-Ok.ensures refl
    (ap (λ f. f ++ drop 14 c.args.head.now) (c.copy_from_slice.ensures.after ∙ c.plain_head.ensures ∙ ap (λ n. header c.in-Ok.size c.args.envelope.now.channel ++ 0x00 ∷ 0x53 ∷ n ∷ 0xc0 ∷ (c.args.shown.0 - 13) ∷ c.args.shown.1 ∷ []) c.number-code.ensures.value))
    (extended _ _ _ c.reserve.new.self.items (take c.args.shown.0 (c.copy_from_slice.new.self ++ drop 14 c.args.head.now)) c.extend_from_slice.ensures.items c.unwrap.ensures ∙ ap (λ o. o ++ take c.args.shown.0 (c.copy_from_slice.new.self ++ drop 14 c.args.head.now)) c.reserve.ensures.items) in
    rw c.if-apart.true there

pub returns : goal.returns
returns c ds x form counted nested t =
    let p = is_plain (type_of c.args.composite).0 c.args.shown.1 c.args.shown.0 ds x c.args.head.now (omega (arith, c.number-code.ensures.value, c.number-code.ensures.some)) (omega (arith, c.number-code.ensures.value)) (omega arith) (omega arith) (omega arith) (omega arith) (omega arith) form counted nested t in
    let there = plain_there (type_of c.args.composite).0 c.args.shown.1 c.args.shown.0 c.in-Ok.size c.args.envelope.now.channel c.args.envelope.now.max ds x c.args.head.now (c.copy_from_slice.new.self ++ drop 14 c.args.head.now) c.args.envelope.now.payload.now c.args.out.now.items c.extend_from_slice.new.self.items
    (omega arith) (omega arith) (omega arith) p t c.in-Ok.ensures refl
    (ap (λ f. f ++ drop 14 c.args.head.now) (c.copy_from_slice.ensures.after ∙ c.plain_head.ensures ∙ ap (λ n. header c.in-Ok.size c.args.envelope.now.channel ++ 0x00 ∷ 0x53 ∷ n ∷ 0xc0 ∷ (c.args.shown.0 - 13) ∷ c.args.shown.1 ∷ []) c.number-code.ensures.value))
    (extended _ _ _ c.reserve.new.self.items (take c.args.shown.0 (c.copy_from_slice.new.self ++ drop 14 c.args.head.now)) c.extend_from_slice.ensures.items c.unwrap.ensures ∙ ap (λ o. o ++ take c.args.shown.0 (c.copy_from_slice.new.self ++ drop 14 c.args.head.now)) c.reserve.ensures.items) in
    rw c.if-apart.false (payload_behind _ _ c.args.envelope.now.payload.now c.args.out.now.items c.extend_from_slice.new.self.items c.extend_from_slice-2.new.self.items there
    (extended _ _ _ c.extend_from_slice.new.self.items c.args.envelope.now.payload.now c.extend_from_slice-2.ensures.items c.unwrap-2.ensures))
