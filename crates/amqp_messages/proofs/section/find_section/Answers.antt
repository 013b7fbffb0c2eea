use Rattle.std.proofs.Common.{◌≡◌, drop, sym, subst, ◌∙◌}
use Rattle.std.proofs.lemmas.List.{nil_from_length}
use Rattle.amqp_types.specs.Heads.{datum_of}
use Rattle.amqp_messages.specs.Sections.{is_body}
use Rattle.amqp_messages.proofs.Described.{behind, none_described, none_named, flat_descriptor, found_at}
use Rattle.amqp_messages.proofs.Bodies.{not_empty, rest_taken, refused_body, accepted_body}
use Rattle.amqp_messages.proofs.OneKind.{one_kind}
use Rattle.amqp_messages.specs.declared.kind.SectionKind.{SectionKind}
use Rattle.std.specs.Prelude.{IsTrue}
use Rattle.amqp_messages.proofs.section.find_section.Goals as goal

pub returns-in_default : goal.returns-in_default
returns-in_default c = none_described c.args.octets.now c.in_default.ensures

pub returns-in_default-named : goal.returns-in_default-named
returns-in_default-named c = none_named c.args.octets.now c.in-Some.ensures.1 c.in-Some.start (datum_of c.in-Some.descriptor) c.in-Some.ensures.2 c.in-Some.ensures.3 c.in_default-named.ensures

pub returns-in_default-split_first : goal.returns-in_default-split_first
returns-in_default-split_first c = λ s y rest p e.
    let b = behind c.args.octets.now c.in-Some.ensures.1 c.in-Some.start (datum_of c.in-Some.descriptor) s y rest c.in-Some.ensures.2 c.in-Some.ensures.3 p e in
    not_empty s.1 b.text rest b.spelled.0 (sym (nil_from_length (drop c.in-Some.start c.args.octets.now) (rw rest_taken at c.in_default-split_first.ensures.cases)) ∙ b.parts)

pub returns-then-not-begins : goal.returns-then-not-begins
returns-then-not-begins c = λ s y rest p e.
    let b = behind c.args.octets.now c.in-Some.ensures.1 c.in-Some.start (datum_of c.in-Some.descriptor) s y rest c.in-Some.ensures.2 c.in-Some.ensures.3 p e in
    let k : s.0 ≡ c.in-Some-named.kind = one_kind s.0 c.in-Some-named.kind (datum_of c.in-Some.descriptor) b.named c.in-Some-named.ensures in
    refused_body c.in-Some-named.kind s.1 c.in-Some-split_first.code.now b.text rest c.in-Some-split_first.field-0-1.now (drop c.in-Some.start c.args.octets.now) c.begins.result c.begins.ensures c.if-not-begins.true (subst (λ (m : SectionKind). IsTrue (is_body m s.1)) k p.formed) b.spelled.0 (rw rest_taken at c.in-Some-split_first.ensures.cases.0) b.parts

pub returns-in_default-skip_within : goal.returns-in_default-skip_within
returns-in_default-skip_within c = λ s y rest p e.
    let b = behind c.args.octets.now c.in-Some.ensures.1 c.in-Some.start (datum_of c.in-Some.descriptor) s y rest c.in-Some.ensures.2 c.in-Some.ensures.3 p e in
    c.in_default-skip_within.ensures (s.1, b.text, rest, b.spelled, rest_taken c.in-Some.start c.args.octets.now ∙ b.parts)

pub returns : goal.returns
returns c =
    let body = rw rest_taken at c.in-Some-skip_within.ensures in
    let formed = accepted_body c.in-Some-named.kind body.1 c.in-Some-split_first.code.now c.in-Some-skip_within.used c.in-Some-split_first.field-0-1.now (drop c.in-Some.start c.args.octets.now) c.begins.result c.begins.ensures c.if-not-begins.false body.2.0 (rw rest_taken at c.in-Some-split_first.ensures.cases.0) in
    found_at c.args.octets.now c.in-Some.ensures.1 c.in-Some.start c.in-Some-skip_within.used (datum_of c.in-Some.descriptor) body.1 c.in-Some-named.kind c.in-Some.ensures.0 body.0 (flat_descriptor c.in-Some.descriptor) c.in-Some.ensures.2 c.in-Some.ensures.3 c.in-Some-named.ensures formed body.2
