use Rattle.std.proofs.Common.{◌≡◌, ◌==◌, ◌∙◌, sym, not, filter, [], arith, rules}
use Rattle.std.proofs.lemmas.Bool.{eqb-true}
use Rattle.std.proofs.lemmas.Fn.{filter_same}
use Rattle.std.proofs.lemmas.Grind.{text_groups}
use Rattle.amqp_links.proofs.Tellings.{nothing}
use Rattle.amqp_links.proofs.names.Names.remove.Goals as goal

pub returns-then-gone : goal.returns-then-gone
returns-then-gone c = λ q.
    let kept : c.retain.new.self.items ≡ filter (λ n. not (n == c.args.number)) c.in-Some.numbers.now.items =
    filter_same _ (λ n. not (n == c.args.number)) _ (λ x b f' k. search rules) _ _ c.retain.ensures.filtered in
    let len : c.retain.new.self.len ≡ 0 = eqb-true c.retain.new.self.len 0 (rw (← c.is_empty-gone.ensures) c.if-gone.true) in
    let none : c.retain.new.self.items ≡ [] = nothing c.retain.new.self.items (rw (← c.retain.new.self.ok.0) len) in
    let gone : filter (λ n. not (n == c.args.number)) c.in-Some.numbers.now.items ≡ [] = sym kept ∙ none in
    grind (arith, text_groups, gone)

pub returns-else-gone : goal.returns-else-gone
returns-else-gone c = λ q.
    let kept : c.retain.new.self.items ≡ filter (λ n. not (n == c.args.number)) c.in-Some.numbers.now.items =
    filter_same _ (λ n. not (n == c.args.number)) _ (λ x b f' k. search rules) _ _ c.retain.ensures.filtered in
    grind (arith, text_groups, kept)
