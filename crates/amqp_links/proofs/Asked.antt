-- A link more is stored, which the peer does not call by a handle yet.
use Rattle.std.proofs.Common.{◌≡◌, ℕ, ◌+◌, false, None, Some, List, [], ◌∷◌, ◌++◌, arith, refl}
use Rattle.std.specs.Ordering.{nat_cmp}
use Rattle.std.specs.BTreeMap as tree
use Rattle.std.specs.BTreeMap.{BTreeMap}
use Rattle.slab.specs.Slab.{Slab, Updates}
use Rattle.slab.specs.Slab as slab
use Rattle.amqp_rules.specs.View.{LinkView, has_peer_handle}
use Rattle.amqp_links.specs.Links.{key_by, AreApart, IsStored}
use Rattle.amqp_links.proofs.Written.{at-key}
use Rattle.amqp_links.proofs.Offered.{AreSame, same-added, listed-added, rising-added, insert-last, known-added}

uncalled : (h : ℕ) (w : LinkView) → w.theirs ≡ None → has_peer_handle h w ≡ false
uncalled h w e = rw e refl

key-asked : (s n : Slab LinkView) (k m h : ℕ) (w : LinkView) (es : List (ℕ × ℕ)) → slab.get n k ≡ Some w → w.theirs ≡ None → AreSame s n es → key_by h n (es ++ (m, k) ∷ []) ≡ key_by h s es
key-asked s n k m h w [] e j a = let i = at-key n k w e in rw (i, uncalled h w j) refl
key-asked s n k m h w (x ∷ es) e j a = rw (a.0, key-asked s n k m h w es e j a.1) refl

apart-asked : (s n : Slab LinkView) (k m : ℕ) (w : LinkView) (es : List (ℕ × ℕ)) → slab.get n k ≡ Some w → w.theirs ≡ None → AreSame s n es → AreApart s es → AreApart n (es ++ (m, k) ∷ [])
apart-asked s n k m w [] e j a p = ((λ h t. refl), tt)
apart-asked s n k m w (x ∷ es) e j a p = ((λ h t. rw (key-asked s n k m h w es e j a.1) (p.0 h (rw a.0 at t))), apart-asked s n k m w es e j a.1 p.1)

pub stored-asked : (s n : Slab LinkView) (numbers peers more : BTreeMap ℕ ℕ) (made key : ℕ) (w : LinkView)
    → IsStored s numbers peers made → slab.get s key ≡ None → Updates s n key (Some w) → w.number ≡ made → w.theirs ≡ None
    → tree.Updates nat_cmp numbers more made (Some key) → more.entries ≡ tree.insert_entry nat_cmp numbers.entries made key
    → IsStored n more peers (made + 1)
stored-asked s n numbers peers more made key w i vacant u number theirs v entries =
    let same = same-added s n key vacant u.others numbers.entries i.listed in
    let at-end : more.entries ≡ numbers.entries ++ (made, key) ∷ [] = rw (← insert-last made key 0 numbers.entries i.rising) entries in
    record {
      listed = rw at-end (listed-added s n key made w numbers.entries u.changed number same i.listed);
      rising = rw at-end (rising-added 0 made key numbers.entries (omega arith) i.rising);
      known = known-added s n numbers more key made w i.known i.rising v u.changed number u.others;
      called = λ h. rw (at-end, key-asked s n key made h w numbers.entries u.changed theirs same) (i.called h);
      apart = rw at-end (apart-asked s n key made w numbers.entries u.changed theirs same i.apart);
    }
