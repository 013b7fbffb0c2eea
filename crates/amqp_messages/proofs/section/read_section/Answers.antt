use Rattle.std.proofs.Common.{◌≡◌, ◌-◌, ℕ, List, length, take, drop, sym, ap, subst, ◌∙◌}
use Rattle.std.proofs.lemmas.List.{take-append-drop}
use Rattle.amqp_types.specs.Datum.{Datum}
use Rattle.amqp_types.specs.Grammar.{SpellsWithin}
use Rattle.amqp_messages.specs.Sections.{IsSection, HasNoSection}
use Rattle.amqp_messages.specs.InPlace.{IsFound}
use Rattle.amqp_messages.proofs.Bodies.{further, rest_taken}
use Rattle.amqp_messages.proofs.section.read_section.Goals as goal

seen_from : (from : ℕ) (seen os : List ℕ) → seen ≡ os → take (length seen - from) (drop from seen) ≡ drop from os
seen_from from seen os e = rest_taken from seen ∙ ap (drop from) e

pub returns-in_default : goal.returns-in_default
returns-in_default c = subst HasNoSection (seen_from c.args.from c.as_slice.result.now c.args.octets.now c.as_slice.ensures) c.in_default.ensures

pub returns-in-Ok : goal.returns-in-Ok
returns-in-Ok c =
    let found : IsFound (drop c.args.from c.args.octets.now) c.in-Some.place = subst (λ (os : List ℕ). IsFound os c.in-Some.place) (seen_from c.args.from c.as_slice.result.now c.args.octets.now c.as_slice.ensures) c.in-Some.ensures in
    let body = c.in-Ok.ensures found.body (subst (λ (os : List ℕ). SpellsWithin 31 found.body os) (sym (further c.args.from c.in-Some.place.start c.in-Some.place.end c.args.octets.now)) found.spelled) in
    (found.within, subst (λ (v : Datum). IsSection (c.in-Some.place.kind, v) (take c.in-Some.place.end (drop c.args.from c.args.octets.now))) (sym body) found.is)

pub returns-in-Err : goal.returns-in-Err
returns-in-Err c =
    let found : IsFound (drop c.args.from c.args.octets.now) c.in-Some.place = subst (λ (os : List ℕ). IsFound os c.in-Some.place) (seen_from c.args.from c.as_slice.result.now c.args.octets.now c.as_slice.ensures) c.in-Some.ensures in
    ((c.in-Some.place.kind, found.body), take c.in-Some.place.end (drop c.args.from c.args.octets.now), drop c.in-Some.place.end (drop c.args.from c.args.octets.now), found.is, sym (take-append-drop c.in-Some.place.end (drop c.args.from c.args.octets.now)))
