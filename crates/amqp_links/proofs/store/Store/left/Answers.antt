use Rattle.std.proofs.Common.{◌≡◌, ◌∙◌, ap}
use Rattle.std.specs.BTreeMap.{values}
use Rattle.amqp_links.specs.Left.{left_on, left_on_all, left_under}
use Rattle.amqp_links.specs.Links.{LinksView}
use Rattle.amqp_links.proofs.Leaving.{all-listed}
use Rattle.amqp_links.proofs.store.Store.left.Goals as goal

pub returns : goal.returns
returns c =
    let e : left_under c.self.inside.slab (values c.self.inside.numbers) ≡ left_on_all c.args.self.now.list =
    all-listed left_on c.self.inside.slab c.self.inside.numbers c.self.invariant.listed ∙ ap (λ (v : LinksView). left_on_all v.list) c.self.view_is
    in
    rw e at c.left_under.ensures
