-- Look-ups among the stored links.
use Rattle.std.proofs.Common.{◌≡◌, ◌+◌, ℕ, ◌==◌, true, Option, None, Some, List, [], ◌∷◌, arith, refl, find, is_some, unwrap_or, ⊎_elim}
use Rattle.std.proofs.lemmas.Bool.{cases_Bool}
use Rattle.std.specs.Ordering.{nat_cmp}
use Rattle.std.specs.Map.{lookup}
use Rattle.std.specs.BTreeMap as tree
use Rattle.std.specs.BTreeMap.{BTreeMap}
use Rattle.slab.specs.Slab.{Slab}
use Rattle.slab.specs.Slab as slab
use Rattle.amqp_performatives.specs.declared.bodies.Role.TheVariants.{Sender}
use Rattle.amqp_rules.specs.View.{LinkView, new_link, has_number, has_peer_handle}
use Rattle.amqp_links.specs.Links.{link_at, links_of, look, key_by, AreListed, AreRising, AreNumbered, AreWithin, IsStored}

-- what a tree's look-up of a number tests
pub at-number : (n m : ℕ) → tree.is_at (nat_cmp n) m ≡ (m == n)
at-number n m = grind (arith)

ap-sym : {A : Type 0} {x y : A} → x ≡ y → y ≡ x
ap-sym h = cc

there : (o : Option LinkView) (d : LinkView) → is_some o ≡ true → o ≡ Some (unwrap_or o d)
there None d h = absurd (cc)
there (Some l) d h = refl

pub found-number : (s : Slab LinkView) (es : List (ℕ × ℕ)) (n : ℕ) → AreListed s es → find (has_number n) (links_of s es) ≡ look s (lookup (tree.is_at (nat_cmp n)) es)
found-number s [] n h = refl
found-number s (e ∷ es) n h =
    rw (h.1, at-number n e.0)
    (⊎_elim
    (λ t. rw t (ap-sym (there (slab.get s e.1) (new_link 0 Sender []) h.0)))
    (λ t. rw t (found-number s es n h.2))
    (cases_Bool (e.0 == n)))

pub found-handle : (s : Slab LinkView) (es : List (ℕ × ℕ)) (h : ℕ) → AreListed s es → find (has_peer_handle h) (links_of s es) ≡ look s (key_by h s es)
found-handle s [] h a = refl
found-handle s (e ∷ es) h a =
    ⊎_elim
    (λ t. rw t (ap-sym (there (slab.get s e.1) (new_link 0 Sender []) a.0)))
    (λ t. rw t (found-handle s es h a.2))
    (cases_Bool (has_peer_handle h (link_at s e.1)))

-- the same, from what the calls say
pub by-number : (s : Slab LinkView) (numbers peers : BTreeMap ℕ ℕ) (made n : ℕ) (key : Option ℕ) (r : Option LinkView)
    → IsStored s numbers peers made → key ≡ tree.get nat_cmp numbers n → r ≡ look s key → r ≡ find (has_number n) (links_of s numbers.entries)
by-number s numbers peers made n key r i k l = rw (found-number s numbers.entries n i.listed, l, k) refl

pub by-handle : (s : Slab LinkView) (numbers peers : BTreeMap ℕ ℕ) (made h : ℕ) (key : Option ℕ) (r : Option LinkView)
    → IsStored s numbers peers made → key ≡ tree.get nat_cmp peers h → r ≡ look s key → r ≡ find (has_peer_handle h) (links_of s numbers.entries)
by-handle s numbers peers made h key r i k l = rw (found-handle s numbers.entries h i.listed, l, k, i.called h) refl

-- the numbers of the stored links rise
numbered-in : (s : Slab LinkView) (es : List (ℕ × ℕ)) (from to : ℕ) → AreListed s es → AreRising from to es → AreNumbered from (links_of s es)
numbered-in s [] from to a r = tt
numbered-in s (e ∷ es) from to a r = (rw a.1 r.0, rw a.1 (numbered-in s es (e.0 + 1) to a.2 r.2))

pub numbered : (s : Slab LinkView) (numbers peers : BTreeMap ℕ ℕ) (made : ℕ) → IsStored s numbers peers made → AreNumbered 0 (links_of s numbers.entries)
numbered s numbers peers made i = numbered-in s numbers.entries 0 made i.listed i.rising

within-in : (s : Slab LinkView) (es : List (ℕ × ℕ)) (from to : ℕ) → AreListed s es → AreRising from to es → AreWithin from to (links_of s es)
within-in s [] from to a r = tt
within-in s (e ∷ es) from to a r = (rw a.1 r.0, rw a.1 r.1, rw a.1 (within-in s es (e.0 + 1) to a.2 r.2))

-- they lie below the number of the link that is made next
pub within : (s : Slab LinkView) (numbers peers : BTreeMap ℕ ℕ) (made : ℕ) → IsStored s numbers peers made → AreWithin 0 made (links_of s numbers.entries)
within s numbers peers made i = within-in s numbers.entries 0 made i.listed i.rising
