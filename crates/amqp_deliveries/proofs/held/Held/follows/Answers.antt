use Rattle.std.proofs.Common.{◌≡◌, ◌∙◌, ◌<◌, ◌-◌, true, List, length, get_or, ap, sym, subst, deque_len, rules}
use Rattle.amqp_flow.specs.Serial.{is_before}
use Rattle.amqp_events.specs.Laws.{IsPast}
use Rattle.amqp_events.specs.Told.{SentItem}
use Rattle.amqp_deliveries.specs.Held.{items_of}
use Rattle.amqp_deliveries.proofs.Items.{past_held, held_past}
use Rattle.amqp_deliveries.proofs.Search.{after_all, all_last}
use Rattle.amqp_deliveries.proofs.held.Held.follows.Goals as goal

pub returns-then-is_before : goal.returns-then-is_before
returns-then-is_before c =
    let items : List SentItem = c.self.inside.items.items in
    let x : SentItem = c.in-Some-Some.first.now in
    let y : SentItem = c.in-Some-Some.last.now in
    let P : List SentItem → Type 0 = λ xs. IsPast c.args.id (items_of xs) in
    let long : length items ≡ deque_len c.self.inside.items = sym c.self.inside.items.ok.0 in
    let some : 0 < length items = search (rules, long) in
    let last : y ≡ get_or items (length items - 1) y = c.in-Some-Some.ensures'.lookup ∙ ap (λ n. get_or items (n - 1) y) (sym long) in
    let a : is_before x.item.id c.args.id ≡ true = ap (λ n. is_before n c.args.id) (sym c.id.ensures) ∙ sym c.is_before.ensures ∙ c.if-is_before.true in (
      λ t. subst P c.self.view_is (held_past items c.args.id (after_all items x y c.args.id c.in-Some-Some.ensures.lookup last c.self.invariant.0 a
          (ap (λ n. is_before n c.args.id) (sym c.id-then-is_before.ensures) ∙ sym c.is_before-then-is_before.ensures ∙ t))),
      λ all. c.is_before-then-is_before.ensures ∙ ap (λ n. is_before n c.args.id) c.id-then-is_before.ensures ∙ all_last items y c.args.id last some (past_held items c.args.id (subst P (sym c.self.view_is) all)),
    )
