use Rattle.std.proofs.Common.{arith, refl, take, [], ◌∷◌, ◌<◌, Option, Some, None, List, ℕ, sym, subst, length}
use Rattle.std.specs.Prelude.{option_map}
use Rattle.amqp_performatives.specs.declared.bodies.FlowBody.{FlowBody}
use Rattle.amqp_performatives.specs.Bodies.{flow_fields, any, optional}
use Rattle.amqp_frames.specs.Plain.{Holds, trim, IsShown, AreShown, uint_octets, boolean_octets}
use Rattle.amqp_frames.proofs.Steps.{at_start}
use Rattle.amqp_frames.proofs.Plain.{fewer, second_there}
use Rattle.amqp_frames.proofs.append.put_flow.Goals as goal
use Rattle.amqp_frames.proofs.append.put_flow.Goals.{After-absent-last}

abbrev octets_of : FlowBody → List (Option (List ℕ))
octets_of b =
    option_map uint_octets b.next_incoming_id ∷ Some (uint_octets b.incoming_window) ∷ Some (uint_octets b.next_outgoing_id) ∷ Some (uint_octets b.outgoing_window) ∷ option_map uint_octets b.handle ∷ option_map uint_octets b.delivery_count ∷ option_map uint_octets b.link_credit ∷ option_map uint_octets b.available ∷ option_map boolean_octets b.drain ∷ option_map boolean_octets b.echo ∷ None ∷ []

-- the fields, one after the other
all : (c : After-absent-last) → Holds (take 14 c.args.head.now) c.absent-last.new.head c.absent-last.result.at c.absent-last.result.end c.absent-last.result.count (octets_of c.args.body.now)
all c =
    c.absent-last.ensures.holds _ _ (c.boolean-echo.ensures.holds _ _ (c.boolean-drain.ensures.holds _ _ (c.uint-available.ensures.holds _ _ (c.uint-credit.ensures.holds _ _ (c.uint-counted.ensures.holds _ _ (c.uint-handle.ensures.holds _ _ (c.uint-theirs.ensures.holds _ _ (c.uint-outgoing.ensures.holds _ _ (c.uint-window.ensures.holds _ _ (c.uint-incoming.ensures.holds _ _ (at_start c.args.head.now (omega arith)) refl) refl) refl) refl) refl) refl) refl) refl) refl) refl)

are_shown : (c : After-absent-last) → AreShown (flow_fields c.args.body.now) (octets_of c.args.body.now)
are_shown c =
    (c.uint-incoming.ensures.shown, (c.uint-window.ensures.shown, (c.uint-outgoing.ensures.shown, (c.uint-theirs.ensures.shown, (c.uint-handle.ensures.shown, (c.uint-counted.ensures.shown, (c.uint-credit.ensures.shown, (c.uint-available.ensures.shown, (c.boolean-drain.ensures.shown, (c.boolean-echo.ensures.shown, (subst (λ p. IsShown (optional any p) None) (sym c.requires.bare) tt, tt)))))))))))

pub returns-clause-bound : goal.returns-clause-bound
returns-clause-bound c =
    let a = (goal.at.returns-clause-bound c).After-absent-last in
    let h = all a in
    let f = fewer (octets_of a.args.body.now) in
    (h.low, (let o = h.order in omega arith), let n = h.counted in omega arith)

some_shown : (b : FlowBody) → 0 < length (trim (octets_of b))
some_shown b = second_there (option_map uint_octets b.next_incoming_id) (uint_octets b.incoming_window) _

pub returns-clause-some : goal.returns-clause-some
returns-clause-some c =
    let a = (goal.at.returns-clause-some c).After-absent-last in
    let n = (all a).counted in
    omega (arith, n, some_shown a.args.body.now)

pub returns-clause-shown : goal.returns-clause-shown
returns-clause-shown c =
    let a = (goal.at.returns-clause-shown c).After-absent-last in
    (octets_of a.args.body.now, are_shown a, (all a).shown, (all a).counted)
