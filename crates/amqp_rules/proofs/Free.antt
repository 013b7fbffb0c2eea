-- The free handle is the lowest number that is no handle of ours.
use Rattle.std.proofs.Common.{◌≡◌, ◌<◌, ◌≤◌, ℕ, ◌+◌, zero, suc, true, false, cond, Option, Some, None, List, [], ◌∷◌, length, arith, find, is_some, eqb, nat_lt}
use Rattle.std.proofs.lemmas.Bool.{eqb-true, eqb-false}
use Rattle.amqp_rules.specs.View.{LinkView, EndView, free_from, free_handle, has_handle, holds}
use Rattle.amqp_rules.specs.Sound.{IsLowestFree}
use Rattle.amqp_rules.proofs.Listed.{by-bool}

-- how many links have a handle of ours below n
abbrev below_in : ℕ → Option EndView → ℕ
below_in n None = 0
below_in n (Some e) = cond (nat_lt e.handle n) 1 0

abbrev below : ℕ → List LinkView → ℕ
below n [] = 0
below n (l ∷ links) = below_in n l.ours + below n links

below-few : (n : ℕ) (links : List LinkView) → below n links ≤ length links
below-few n [] = omega arith
below-few n (l ∷ links) =
    let rest = below-few n links in
    let one = few n l.ours in
    omega (arith, rest, one)
  where
    few : (n : ℕ) (o : Option EndView) → below_in n o ≤ 1
    few n None = omega arith
    few n (Some e) = grind arith

grows : (n : ℕ) (links : List LinkView) → below n links ≤ below (n + 1) links
grows n [] = omega arith
grows n (l ∷ links) =
    let rest = grows n links in
    let one = more n l.ours in
    omega (arith, rest, one)
  where
    more : (n : ℕ) (o : Option EndView) → below_in n o ≤ below_in (n + 1) o
    more n None = omega arith
    more n (Some e) = grind arith

-- one that has the handle n counts below n + 1, and not below n
grows-found : (n : ℕ) (links : List LinkView) → is_some (find (has_handle n) links) ≡ true → below n links + 1 ≤ below (n + 1) links
grows-found n [] h = absurd (cc)
grows-found n (l ∷ links) h =
    by-bool (has_handle n l)
    (λ (has : has_handle n l ≡ true).
    let rest = grows n links in
    let one = counts n l.ours has in
    omega (arith, rest, one))
    (λ (not' : has_handle n l ≡ false).
    let k = rw not' at h in
    let rest = grows-found n links k in
    let one = more n l.ours in
    omega (arith, rest, one))
  where
    counts : (n : ℕ) (o : Option EndView) → holds (λ e. eqb e.handle n) o ≡ true → below_in n o + 1 ≤ below_in (n + 1) o
    counts n None h = absurd (cc)
    counts n (Some e) h = let same : e.handle ≡ n = eqb-true e.handle n h in grind arith

    more : (n : ℕ) (o : Option EndView) → below_in n o ≤ below_in (n + 1) o
    more n None = omega arith
    more n (Some e) = grind arith

-- where n numbers are handles, and k + n is how many links there are, the handle that is found is free
from-free : (k n : ℕ) (links : List LinkView) → n ≤ below n links → k + n ≡ length links → is_some (find (has_handle (free_from k n links)) links) ≡ false
from-free zero n links h e =
    by-bool (is_some (find (has_handle n) links))
    (λ (found : is_some (find (has_handle n) links) ≡ true).
    let more = grows-found n links found in
    let few = below-few (n + 1) links in
    absurd (omega (arith, more, few)))
    (λ (free : is_some (find (has_handle n) links) ≡ false). free)
from-free (suc k) n links h e =
    by-bool (is_some (find (has_handle n) links))
    (λ (found : is_some (find (has_handle n) links) ≡ true).
    let more = grows-found n links found in
    rw found (from-free k (n + 1) links (omega (arith, more)) (omega arith)))
    (λ (free : is_some (find (has_handle n) links) ≡ false). rw free free)

pub free-handle_is-free : (links : List LinkView) → is_some (find (has_handle (free_handle links)) links) ≡ false
free-handle_is-free links = from-free (length links) 0 links (omega arith) (omega arith)

from-small : (k n : ℕ) (links : List LinkView) → free_from k n links ≤ n + k
from-small zero n links = omega arith
from-small (suc k) n links =
    by-bool (is_some (find (has_handle n) links))
    (λ (found : is_some (find (has_handle n) links) ≡ true). let s = from-small k (n + 1) links in rw found (omega (arith, s)))
    (λ (free : is_some (find (has_handle n) links) ≡ false). rw free (omega arith))

-- so many links use at most so many handles
pub free-handle_small : (links : List LinkView) → free_handle links ≤ length links
free-handle_small links = let s = from-small (length links) 0 links in omega (arith, s)

from-lowest : (k n h : ℕ) (links : List LinkView) → n ≤ h → h < free_from k n links → is_some (find (has_handle h) links) ≡ true
from-lowest zero n h links above below' = absurd (omega arith)
from-lowest (suc k) n h links above below' =
    by-bool (is_some (find (has_handle n) links))
    (λ (found : is_some (find (has_handle n) links) ≡ true).
    let less = rw found at below' in
    by-bool (eqb h n)
    (λ (here : eqb h n ≡ true). let same : h ≡ n = eqb-true h n here in rw same found)
    (λ (past : eqb h n ≡ false). let other = eqb-false h n past in from-lowest k (n + 1) h links (omega (arith, other)) less))
    (λ (free : is_some (find (has_handle n) links) ≡ false). let less = rw free at below' in absurd (omega (arith, less)))

-- each lower number is a handle of ours
pub free-handle_lowest : (links : List LinkView) (h : ℕ) → h < free_handle links → is_some (find (has_handle h) links) ≡ true
free-handle_lowest links h less = from-lowest (length links) 0 h links (omega arith) less

pub free-handle_is-lowest : (links : List LinkView) → IsLowestFree links (free_handle links)
free-handle_is-lowest links = record { free = free-handle_is-free links; lowest = λ k less. free-handle_lowest links k less }
