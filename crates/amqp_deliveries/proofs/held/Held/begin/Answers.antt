use Rattle.std.proofs.Common.{◌≡◌, ◌<◌, ◌^◌, ◌++◌, ◌∷◌, [], ◌∙◌, List, ap, sym, subst, rules}
use Rattle.std.specs.List.{list_any}
use Rattle.amqp_events.specs.Laws.{IsPast}
use Rattle.amqp_events.specs.Told.{SentItem}
use Rattle.amqp_deliveries.specs.Held.{items_of, untold, has_tag}
use Rattle.amqp_deliveries.specs.Tags.{IsIndex}
use Rattle.amqp_deliveries.proofs.Items.{past_held}
use Rattle.amqp_deliveries.proofs.Kept.{kept_as, held_more}
use Rattle.amqp_deliveries.proofs.held.Held.begin.Goals as goal

pub invariant_of-self : goal.invariant_of-self
invariant_of-self c =
    let was : List SentItem = c.self.inside.items.items in
    let x : SentItem = untold c.args.item in
    let P : List SentItem → Type 0 = λ xs. IsPast c.args.item.id (items_of xs) in
    let small : c.args.item.id < 2 ^ 32 = search rules in
    let e : c.push_back_reserved.new.self.items ≡ was ++ x ∷ [] = c.push_back_reserved.ensures.items ∙ (λ i. c.make_room.ensures.items i ++ c.new-entry.ensures i ∷ []) in
    kept_as c.make_room.new.tags (was ++ x ∷ []) c.push_back_reserved.new.self.items e
    (held_more was x c.self.invariant.0 (past_held was c.args.item.id (subst P (sym c.self.view_is) c.requires.follows))
    (ap (list_any (has_tag c.args.item.link c.args.item.tag)) c.self.view_is ∙ c.requires.fresh) small)
    (subst (λ y. IsIndex c.make_room.new.tags (was ++ y ∷ [])) c.new-entry.ensures (c.in-Ok.ensures.ok was c.self.invariant.1))
