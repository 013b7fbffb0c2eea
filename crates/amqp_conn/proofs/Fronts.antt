-- Octets that are written a part at a time.
use Rattle.std.proofs.Common.{◌≡◌, ◌≤◌, ◌+◌, ◌-◌, ℕ, List, ◌++◌, length, take, drop, Option, Some, None, sym, ap, ◌∙◌, subst, arith, length-drop, append_assoc}
use Rattle.std.proofs.lemmas.List.{take-append-drop, length-take-le, take_all}
use Rattle.std.proofs.Math.Seq.{take-append-add}
use Rattle.std.specs.Io.KnownBytes.{Appends, Keeps}
use Rattle.amqp_conn.specs.Pumping.{AppendsFront}
use Rattle.amqp_conn.proofs.Pumps.{appends-then}

take_more : (n m : ℕ) (xs : List ℕ) → n ≤ length xs → take (n + m) xs ≡ take n xs ++ take m (drop n xs)
take_more n m xs h =
    ap (λ (k : ℕ). take (k + m) xs) (sym (length-take-le n xs h))
    ∙ ap (λ (t : List ℕ). take (length (take n xs) + m) t) (sym (take-append-drop n xs))
    ∙ take-append-add (take n xs) (drop n xs) m

pub front_at : (a b : Option (List ℕ)) (n : ℕ) (xs : List ℕ) → Appends a b (take n xs) → AppendsFront a b xs
front_at a b n xs h = record { front = take n xs; back = drop n xs; split = sym (take-append-drop n xs); appends = h }

pub appends_kept : (a b c : Option (List ℕ)) (x : List ℕ) → Appends a b x → Keeps b c → Appends a c x
appends_kept None b c x p q = tt
appends_kept (Some u) None c x p q = absurd p
appends_kept (Some u) (Some v) None x p q = absurd q
appends_kept (Some u) (Some v) (Some w) x p q = q ∙ p

-- the part that is written is cut out of what was left
pub appends_more : (a b c : Option (List ℕ)) (n m : ℕ) (xs : List ℕ) → n ≤ length xs → Appends a b (take n xs) → Appends b c (take m (take (length xs - n) (drop n xs))) → Appends a c (take (n + m) xs)
appends_more a b c n m xs h p q =
    let all : take (length xs - n) (drop n xs) ≡ drop n xs = take_all (length xs - n) (drop n xs) (omega (arith, length-drop n xs)) in
    let more : Appends b c (take m (drop n xs)) = subst (λ (t : List ℕ). Appends b c (take m t)) all q in
    subst (λ (t : List ℕ). Appends a c t) (sym (take_more n m xs h)) (appends-then a b c (take n xs) (take m (drop n xs)) p more)

-- octets, and then a front of others
pub front_behind : (a b c : Option (List ℕ)) (xs ys : List ℕ) → Appends a b xs → AppendsFront b c ys → AppendsFront a c (xs ++ ys)
front_behind a b c xs ys p h = record { front = xs ++ h.front; back = h.back; split = ap (λ t. xs ++ t) h.split ∙ sym (append_assoc xs h.front h.back); appends = appends-then a b c xs h.front p h.appends }
