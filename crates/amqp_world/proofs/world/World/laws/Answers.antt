use Rattle.std.proofs.Common.{subst}
use Rattle.amqp_world.specs.Sides.{Sides, of, other}
use Rattle.amqp_world.specs.Knowing.{IsPair}
use Rattle.amqp_world.proofs.Promising.{agrees, either, finds-room, has-said, hearing-ends, hears-said, knows-other, learns-said, reached, takes-all, takes-ever, takes-next, takes-on-attached, takes-sent}
use Rattle.amqp_world.proofs.Octets.{hears-octets}
use Rattle.amqp_world.proofs.world.World.laws.Goals as goal

pub returns-clause-reached : goal.returns-clause-reached
returns-clause-reached c =
    λ side.
    reached (of side c.args.self.now) (of (other side) c.args.self.now)
    (either c.self.inside.a_hears c.self.inside.b_hears c.args.self.now (subst (λ (w : Sides). IsPair c.self.inside.a_hears c.self.inside.b_hears w.a w.b) c.self.view_is c.self.invariant) side)

pub returns-clause-next : goal.returns-clause-next
returns-clause-next c =
    λ side.
    takes-next c.laws.ensures.taken (of side c.args.self.now) (of (other side) c.args.self.now)
    (either c.self.inside.a_hears c.self.inside.b_hears c.args.self.now (subst (λ (w : Sides). IsPair c.self.inside.a_hears c.self.inside.b_hears w.a w.b) c.self.view_is c.self.invariant) side)

pub returns-clause-sent : goal.returns-clause-sent
returns-clause-sent c =
    λ side.
    takes-sent c.laws.ensures.sent (of side c.args.self.now) (of (other side) c.args.self.now)
    (either c.self.inside.a_hears c.self.inside.b_hears c.args.self.now (subst (λ (w : Sides). IsPair c.self.inside.a_hears c.self.inside.b_hears w.a w.b) c.self.view_is c.self.invariant) side)

pub returns-clause-all : goal.returns-clause-all
returns-clause-all c =
    λ side.
    takes-all c.laws.ensures.all (of side c.args.self.now) (of (other side) c.args.self.now)
    (either c.self.inside.a_hears c.self.inside.b_hears c.args.self.now (subst (λ (w : Sides). IsPair c.self.inside.a_hears c.self.inside.b_hears w.a w.b) c.self.view_is c.self.invariant) side)

pub returns-clause-states : goal.returns-clause-states
returns-clause-states c =
    λ side.
    hears-said c.laws.ensures.states (of side c.args.self.now) (of (other side) c.args.self.now)
    (either c.self.inside.a_hears c.self.inside.b_hears c.args.self.now (subst (λ (w : Sides). IsPair c.self.inside.a_hears c.self.inside.b_hears w.a w.b) c.self.view_is c.self.invariant) side)

pub returns-clause-ever : goal.returns-clause-ever
returns-clause-ever c =
    λ side.
    takes-ever c.laws.ensures.ever (of side c.args.self.now) (of (other side) c.args.self.now)
    (either c.self.inside.a_hears c.self.inside.b_hears c.args.self.now (subst (λ (w : Sides). IsPair c.self.inside.a_hears c.self.inside.b_hears w.a w.b) c.self.view_is c.self.invariant) side)

pub returns-clause-learnt : goal.returns-clause-learnt
returns-clause-learnt c =
    λ side.
    learns-said c.laws.ensures.learnt (of side c.args.self.now) (of (other side) c.args.self.now)
    (either c.self.inside.a_hears c.self.inside.b_hears c.args.self.now (subst (λ (w : Sides). IsPair c.self.inside.a_hears c.self.inside.b_hears w.a w.b) c.self.view_is c.self.invariant) side)

pub returns-clause-only : goal.returns-clause-only
returns-clause-only c =
    λ side.
    takes-on-attached c.laws.ensures.only (of side c.args.self.now) (of (other side) c.args.self.now)
    (either c.self.inside.a_hears c.self.inside.b_hears c.args.self.now (subst (λ (w : Sides). IsPair c.self.inside.a_hears c.self.inside.b_hears w.a w.b) c.self.view_is c.self.invariant) side)

pub returns-clause-own : goal.returns-clause-own
returns-clause-own c =
    λ side.
    has-said c.laws.ensures.own c.self.inside.a_hears c.self.inside.b_hears c.args.self.now
    (subst (λ (w : Sides). IsPair c.self.inside.a_hears c.self.inside.b_hears w.a w.b) c.self.view_is c.self.invariant) side

pub returns-clause-transfer : goal.returns-clause-transfer
returns-clause-transfer c =
    λ side.
    finds-room (λ ca cb n a b f t w waits is lives. c.laws.ensures.window ca cb n a b f t w waits is lives)
    (λ ca cb n a b f t w waits is lives. c.laws.ensures.link ca cb n a b f t w waits is lives)
    (λ ca cb n a b f t w waits is lives l found stays first. c.laws.ensures.credit ca cb n a b f t l w waits is lives found stays first)
    (of side c.args.self.now) (of (other side) c.args.self.now)
    (either c.self.inside.a_hears c.self.inside.b_hears c.args.self.now (subst (λ (w : Sides). IsPair c.self.inside.a_hears c.self.inside.b_hears w.a w.b) c.self.view_is c.self.invariant) side)

pub returns-clause-knows : goal.returns-clause-knows
returns-clause-knows c =
    λ side.
    knows-other c.laws.ensures.begun c.laws.ensures.lives c.laws.ensures.ids
    (λ ca cb n a b t id lives is. c.laws.ensures.expected ca cb n a b id t lives is)
    (of side c.args.self.now) (of (other side) c.args.self.now)
    (either c.self.inside.a_hears c.self.inside.b_hears c.args.self.now (subst (λ (w : Sides). IsPair c.self.inside.a_hears c.self.inside.b_hears w.a w.b) c.self.view_is c.self.invariant) side)

pub returns-clause-agree : goal.returns-clause-agree
returns-clause-agree c =
    λ side.
    agrees
    (record {
      sessions = c.laws.ensures.sessions;
      windows = c.laws.ensures.windows;
      links = c.laws.ensures.links;
      counts = c.laws.ensures.counts;
      drains = c.laws.ensures.drains;
      unsettled = c.laws.ensures.unsettled;
      granted = c.laws.ensures.granted;
      reopens = c.laws.ensures.reopens;
    })
    (of side c.args.self.now) (of (other side) c.args.self.now)
    (either c.self.inside.a_hears c.self.inside.b_hears c.args.self.now (subst (λ (w : Sides). IsPair c.self.inside.a_hears c.self.inside.b_hears w.a w.b) c.self.view_is c.self.invariant) side)

pub returns-clause-ends : goal.returns-clause-ends
returns-clause-ends c =
    λ side.
    hearing-ends c.laws.ensures.ends (of side c.args.self.now) (of (other side) c.args.self.now)
    (either c.self.inside.a_hears c.self.inside.b_hears c.args.self.now (subst (λ (w : Sides). IsPair c.self.inside.a_hears c.self.inside.b_hears w.a w.b) c.self.view_is c.self.invariant) side)

pub returns-clause-octets : goal.returns-clause-octets
returns-clause-octets c =
    λ side.
    hears-octets c.written_is_framed.ensures c.laws-2.ensures.written (of side c.args.self.now) (of (other side) c.args.self.now)
    (either c.self.inside.a_hears c.self.inside.b_hears c.args.self.now (subst (λ (w : Sides). IsPair c.self.inside.a_hears c.self.inside.b_hears w.a w.b) c.self.view_is c.self.invariant) side)
