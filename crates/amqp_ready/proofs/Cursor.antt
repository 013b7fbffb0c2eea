-- Octets that are written a part at a time.
use Rattle.std.proofs.Common.{◌≡◌, ◌≤◌, ◌<◌, ◌-◌, ℕ, zero, suc, List, [], ◌∷◌, ◌++◌, length, drop, Option, refl, sym, ap, ◌∙◌, arith, append_assoc}
use Rattle.std.proofs.KnownBytes.{Appends-nil, Appends-trans}
use Rattle.amqp_ready.specs.declared.device.Moved.TheVariants.{Octets}
use Rattle.amqp_ready.specs.Moving.{PassesOn}

-- so many of the first, and the others of the second
pub drop-both : (n o : ℕ) (xs ys : List ℕ) → o ≤ n → o ≤ length xs → (o < n → length xs ≤ o) → drop o xs ++ drop (n - o) ys ≡ drop n (xs ++ ys)
drop-both zero zero xs ys h k all = refl
drop-both (suc n) zero [] ys h k all = let e : suc n - 0 ≡ suc n = omega arith in ap (λ m. drop m ys) e
drop-both (suc n) zero (x ∷ xs) ys h k all = let few = all (omega arith) in absurd (omega (arith, few))
drop-both zero (suc o) xs ys h k all = absurd (omega (arith, h))
drop-both (suc n) (suc o) [] ys h k all = absurd (omega (arith, k))
drop-both (suc n) (suc o) (x ∷ xs) ys h k all =
    let e : suc n - suc o ≡ n - o = omega arith in
    ap (λ m. drop o xs ++ drop m ys) e
    ∙ drop-both n o xs ys (omega (arith, h)) (omega (arith, k)) (λ l. let few = all (omega (arith, l)) in omega (arith, few))

pub passes-none : (a : Option (List ℕ)) (x : List ℕ) → PassesOn a a x x
passes-none a x = record { front = []; split = refl; appends = Appends-nil a }

pub passes-then : (a b c : Option (List ℕ)) (x y z : List ℕ) → PassesOn a b x y → PassesOn b c y z → PassesOn a c x z
passes-then a b c x y z p q =
    record {
      front = p.front ++ q.front;
      split = p.split ∙ ap (λ w. p.front ++ w) q.split ∙ sym (append_assoc p.front q.front z);
      appends = Appends-trans a b c p.front q.front p.appends q.appends;
    }
