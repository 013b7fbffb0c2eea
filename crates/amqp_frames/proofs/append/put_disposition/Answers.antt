use Rattle.std.proofs.Common.{arith, refl, take, [], ◌∷◌, Bool, Option, Some, List, ℕ, sym, subst}
use Rattle.std.specs.Prelude.{option_map}
use Rattle.amqp_performatives.specs.declared.bodies.DispositionBody.{DispositionBody}
use Rattle.amqp_performatives.specs.Bodies.{disposition_fields, state, optional}
use Rattle.amqp_frames.specs.declared.append.PlainState.{PlainState}
use Rattle.amqp_frames.specs.Plain.{Holds, IsShown, AreShown, uint_octets, boolean_octets, bare_octets}
use Rattle.amqp_frames.proofs.Steps.{at_start}
use Rattle.amqp_frames.proofs.Plain.{fewer, state_shown, role_shown}
use Rattle.amqp_frames.proofs.append.put_disposition.Goals as goal
use Rattle.amqp_frames.proofs.append.put_disposition.Goals.{After-boolean-end}

abbrev octets_of : DispositionBody → Bool → PlainState → List (Option (List ℕ))
octets_of b v r =
    Some (boolean_octets (v)) ∷ Some (uint_octets b.first) ∷ option_map uint_octets b.last ∷ option_map boolean_octets b.settled ∷ bare_octets r ∷ option_map boolean_octets b.batchable ∷ []

-- the fields, one after the other
all : (c : After-boolean-end) → Holds (take 14 c.args.head.now) c.boolean-end.new.head c.boolean-end.result.at c.boolean-end.result.end c.boolean-end.result.count (octets_of c.args.body.now c.is_receiver.result c.args.reached)
all c =
    c.boolean-end.ensures.holds _ _ (c.state-outcome.ensures.holds _ _ (c.boolean-settled.ensures.holds _ _ (c.uint-last.ensures.holds _ _ (c.uint-first.ensures.holds _ _ (c.boolean-role.ensures.holds _ _ (at_start c.args.head.now (omega arith)) refl) refl) refl) refl) refl) refl

are_shown : (c : After-boolean-end) → AreShown (disposition_fields c.args.body.now) (octets_of c.args.body.now c.is_receiver.result c.args.reached)
are_shown c =
    (role_shown c.args.body.now.role c.is_receiver.result c.is_receiver.ensures c.boolean-role.ensures.shown, (c.uint-first.ensures.shown, (c.uint-last.ensures.shown, (c.boolean-settled.ensures.shown, (subst (λ s. IsShown (optional state s) (bare_octets c.args.reached)) (sym c.requires.bare) (state_shown c.args.reached), (c.boolean-end.ensures.shown, tt))))))

pub returns-clause-bound : goal.returns-clause-bound
returns-clause-bound c =
    let a = (goal.at.returns-clause-bound c).After-boolean-end in
    let h = all a in
    let f = fewer (octets_of a.args.body.now a.is_receiver.result a.args.reached) in
    (h.low, (let o = h.order in omega arith), let n = h.counted in omega arith)

pub returns-clause-some : goal.returns-clause-some
returns-clause-some c = let n = (all (goal.at.returns-clause-some c).After-boolean-end).counted in omega arith

pub returns-clause-shown : goal.returns-clause-shown
returns-clause-shown c =
    let a = (goal.at.returns-clause-shown c).After-boolean-end in
    (octets_of a.args.body.now a.is_receiver.result a.args.reached, are_shown a, (all a).shown, (all a).counted)
