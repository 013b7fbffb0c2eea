use Rattle.std.proofs.Common.{◌≡◌, ◌++◌, ◌∙◌, ℕ, List, Some, ap, drop, length, subst, sym, take}
use Rattle.std.specs.Prelude.{Option}
use Rattle.std.proofs.lemmas.List.{take-append-drop}
use Rattle.amqp_rules.specs.declared.reply.Taken.{Taken}
use Rattle.amqp_caller.specs.Calls.{LendsPayload}
use Rattle.amqp_caller.proofs.caller.Caller.payload_at.Goals as goal

-- what is in front of the rest of the payload is followed by more of it
lends : (taken : Option Taken) (t u : Taken) (from : ℕ) (octets : List ℕ) → taken ≡ Some t → u ≡ t → octets ≡ take (length octets) (drop from u.payload) → LendsPayload taken from octets
lends taken t u from octets is same front =
    let n = length octets in
    let rest = drop from t.payload in
    let whole : octets ≡ take n rest = front ∙ ap (λ (s : Taken). take n (drop from s.payload)) same in
    subst (λ (o : Option Taken). LendsPayload o from octets) (sym is) (drop n rest, ap (λ y. y ++ drop n rest) whole ∙ take-append-drop n rest)

pub returns-in-Some : goal.returns-in-Some
returns-in-Some c = lends c.args.self.now.taken c.in-Some.taken c.get.result.now c.args.from c.slice_from.result.now c.in-Some.is c.get.ensures c.slice_from.ensures.front
