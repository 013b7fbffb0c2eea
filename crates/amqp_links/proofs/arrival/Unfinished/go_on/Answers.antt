use Rattle.std.proofs.Common.{◌≡◌, ◌+◌, List, [], ◌∷◌, ◌++◌, ℕ, arith, length, min, refl}
use Rattle.std.specs.List.{concat}
use Rattle.std.proofs.lemmas.List.{append-nil}
use Rattle.std.proofs.lemmas.List.Folds.{concat-append}
use Rattle.std.proofs.lemmas.List.{length-append}
use Rattle.amqp_links.specs.Arrivals.{size_told}
use Rattle.amqp_links.proofs.arrival.Unfinished.go_on.Goals as goal

concat-push : (parts : List (List ℕ)) (part : List ℕ) → concat (parts ++ part ∷ []) ≡ concat parts ++ part
concat-push parts part = rw (concat-append parts (part ∷ []), append-nil part) refl

pub returns-clause-ok : goal.returns-clause-ok
returns-clause-ok c =
    rw (c.either-self-inside.ensures, c.in_ok-append.ensures.ok, concat-push, c.unless_resumed-payload.ensures, ← c.self.view_is, ← c.piece.view_is) refl

sized : (xs p : List ℕ) (s n r : ℕ) → s ≡ size_told xs → n ≡ length p → r ≡ min (s + n) 340282366920938463463374607431768211455 → r ≡ size_told (xs ++ p)
sized xs p s n r a b e = let l = length-append xs p in omega (arith, a, b, e, l)

pub invariant_of-self-2 : goal.invariant_of-self-2
invariant_of-self-2 c =
    rw (c.in_ok-append.ensures.ok, concat-push)
    (sized (concat c.self.inside.parts) c.unless_resumed-payload.result c.self.inside.size c.len.result c.saturating_add-size.result c.self.invariant c.len.ensures.value c.saturating_add-size.ensures)
