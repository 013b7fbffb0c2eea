use Rattle.std.proofs.Common.{◌≡◌, ◌∙◌, ap}
use Rattle.std.specs.BTreeMap.{values}
use Rattle.amqp_deliveries.specs.Held.{items_of}
use Rattle.amqp_links.specs.Rejoining.{aside_on}
use Rattle.amqp_links.specs.Left.{on_all, under}
use Rattle.amqp_links.specs.Links.{LinksView}
use Rattle.amqp_links.proofs.Leaving.{all-listed}
use Rattle.amqp_links.proofs.store.Store.aside.Goals as goal

pub returns : goal.returns
returns c =
    let f = aside_on c.args.role (items_of c.args.held.now) in
    let e : under f c.self.inside.slab (values c.self.inside.numbers) ≡ on_all f c.args.self.now.list =
    all-listed f c.self.inside.slab c.self.inside.numbers c.self.invariant.listed ∙ ap (λ (v : LinksView). on_all f v.list) c.self.view_is
    in
    rw e at c.aside_under.ensures
