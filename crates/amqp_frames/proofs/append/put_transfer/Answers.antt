use Rattle.std.proofs.Common.{arith, refl, take, [], ◌∷◌, Option, Some, List, ℕ, sym, subst}
use Rattle.std.specs.Prelude.{option_map}
use Rattle.amqp_performatives.specs.declared.bodies.TransferBody.{TransferBody}
use Rattle.amqp_performatives.specs.Bodies.{transfer_fields, state, optional}
use Rattle.amqp_frames.specs.declared.append.PlainState.{PlainState}
use Rattle.amqp_frames.specs.Plain.{Holds, IsShown, AreShown, uint_octets, boolean_octets, ubyte_octets, binary_octets, bare_octets}
use Rattle.amqp_frames.proofs.Steps.{at_start}
use Rattle.amqp_frames.proofs.Plain.{fewer, state_shown}
use Rattle.amqp_frames.proofs.append.put_transfer.Goals as goal
use Rattle.amqp_frames.proofs.append.put_transfer.Goals.{After-boolean-last}

abbrev octets_of : TransferBody → PlainState → List (Option (List ℕ))
octets_of b r =
    Some (uint_octets b.handle) ∷ option_map uint_octets b.delivery_id ∷ option_map binary_octets b.delivery_tag ∷ option_map uint_octets b.message_format ∷ option_map boolean_octets b.settled ∷ option_map boolean_octets b.more ∷ option_map ubyte_octets b.rcv_settle_mode ∷ bare_octets r ∷ option_map boolean_octets b.resume ∷ option_map boolean_octets b.aborted ∷ option_map boolean_octets b.batchable ∷ []

-- the fields, one after the other
all : (c : After-boolean-last) → Holds (take 14 c.args.head.now) c.boolean-last.new.head c.boolean-last.result.at c.boolean-last.result.end c.boolean-last.result.count (octets_of c.args.body.now c.args.reached)
all c =
    c.boolean-last.ensures.holds _ _ (c.boolean-aborted.ensures.holds _ _ (c.boolean-resume.ensures.holds _ _ (c.state-outcome.ensures.holds _ _ (c.ubyte-mode.ensures.holds _ _ (c.boolean-more.ensures.holds _ _ (c.boolean-settled.ensures.holds _ _ (c.uint-format.ensures.holds _ _ (c.tag-named.ensures.holds _ _ (c.uint-id.ensures.holds _ _ (c.uint-handle.ensures.holds _ _ (at_start c.args.head.now (omega arith)) refl) refl) refl) refl) refl) refl) refl) refl) refl) refl) refl

are_shown : (c : After-boolean-last) → AreShown (transfer_fields c.args.body.now) (octets_of c.args.body.now c.args.reached)
are_shown c =
    (c.uint-handle.ensures.shown, (c.uint-id.ensures.shown, (c.tag-named.ensures.shown, (c.uint-format.ensures.shown, (c.boolean-settled.ensures.shown, (c.boolean-more.ensures.shown, (c.ubyte-mode.ensures.shown, (subst (λ s. IsShown (optional state s) (bare_octets c.args.reached)) (sym c.requires.bare) (state_shown c.args.reached), (c.boolean-resume.ensures.shown, (c.boolean-aborted.ensures.shown, (c.boolean-last.ensures.shown, tt)))))))))))

pub returns-clause-bound : goal.returns-clause-bound
returns-clause-bound c =
    let a = (goal.at.returns-clause-bound c).After-boolean-last in
    let h = all a in
    let f = fewer (octets_of a.args.body.now a.args.reached) in
    (h.low, (let o = h.order in omega arith), let n = h.counted in omega arith)

pub returns-clause-some : goal.returns-clause-some
returns-clause-some c = let n = (all (goal.at.returns-clause-some c).After-boolean-last).counted in omega arith

pub returns-clause-shown : goal.returns-clause-shown
returns-clause-shown c =
    let a = (goal.at.returns-clause-shown c).After-boolean-last in
    (octets_of a.args.body.now a.args.reached, are_shown a, (all a).shown, (all a).counted)
