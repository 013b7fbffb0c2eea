-- The place of a distance, by halving.
use Rattle.std.proofs.Common.{◌≡◌, ◌<◌, ◌≤◌, ◌+◌, ◌-◌, ◌^◌, ⊎_elim, min, ℕ, zero, suc, IsTrue, List, length, get_or, arith, sym, ap, ◌∙◌, subst}
use Rattle.std.specs.List.{All}
use Rattle.std.proofs.lemmas.List.{get_or_read}
use Rattle.std.proofs.lemmas.Bool.{cases_lt}
use Rattle.amqp_flow.specs.Serial.{distance, is_before}
use Rattle.amqp_events.specs.Told.{SentItem}
use Rattle.amqp_deliveries.specs.Held.{IsHeld}
use Rattle.amqp_deliveries.specs.Span.{IsSpread, IsNarrowed, far}
use Rattle.amqp_deliveries.proofs.Serials.{before-far, before-farther, far-self}

-- # Ids in order are spread

far-front : (items : List SentItem) (x : SentItem) → x ≡ get_or items 0 x → 0 < length items → (d : SentItem) → far x.item.id items 0 d ≡ 0
far-front items x is some d = ap (λ y. distance x.item.id y.item.id) (sym (get_or_read items 0 x some is d)) ∙ far-self x.item.id

far-more : (items : List SentItem) (x : SentItem) → x ≡ get_or items 0 x → IsHeld items → (j : ℕ) (d : SentItem) → 0 < j → j < length items
    → (0 < far x.item.id items j d) × (far x.item.id items j d < 2 ^ 31)
far-more items x is held j d h k =
    let front : get_or items 0 d ≡ x = sym (get_or_read items 0 x (omega arith) is d) in
    let P : SentItem → Type 0 = λ y. IsTrue (is_before y.item.id (get_or items j d).item.id) in
    before-far x.item.id (get_or items j d).item.id (subst P front (held.in_order 0 j d h k))

far-rises : (items : List SentItem) (x : SentItem) → x ≡ get_or items 0 x → IsHeld items → (i j : ℕ) (d : SentItem) → i < j → j < length items
    → far x.item.id items i d < far x.item.id items j d
far-rises items x is held zero j d h k =
    let e = far-front items x is (omega arith) d in
    let m = far-more items x is held j d h k in
    omega arith
far-rises items x is held (suc i) j d h k =
    let front : get_or items 0 d ≡ x = sym (get_or_read items 0 x (omega arith) is d) in
    let P : ℕ → SentItem → Type 0 = λ n y. IsTrue (is_before y.item.id (get_or items n d).item.id) in
    before-farther x.item.id (get_or items (suc i) d).item.id (get_or items j d).item.id
    (subst (P (suc i)) front (held.in_order 0 (suc i) d (omega arith) (omega arith)))
    (held.in_order (suc i) j d h k)
    (subst (P j) front (held.in_order 0 j d (omega arith) k))

far-apart : (items : List SentItem) (x : SentItem) → x ≡ get_or items 0 x → IsHeld items → (i j : ℕ) (d : SentItem) → i ≤ j → j < length items
    → far x.item.id items i d + (j - i) ≤ far x.item.id items j d
far-apart items x is held i zero d h k = let same : i ≡ 0 = omega arith in omega (arith, ap (λ n. far x.item.id items n d) same)
far-apart items x is held i (suc j) d h k =
    ⊎_elim
    (λ l. let before = far-apart items x is held i j d (omega arith) (omega arith) in
    let more = far-rises items x is held j (suc j) d (omega arith) k in
    omega arith)
    (λ l. let same : i ≡ suc j = omega arith in omega (arith, ap (λ n. far x.item.id items n d) same))
    (cases_lt i (suc j))

far-near : (items : List SentItem) (x : SentItem) → x ≡ get_or items 0 x → IsHeld items → (k : ℕ) (d : SentItem) → k < length items → far x.item.id items k d < 2 ^ 31
far-near items x is held zero d h = let e = far-front items x is h d in omega arith
far-near items x is held (suc k) d h = (far-more items x is held (suc k) d (omega arith) h).1

-- x is the delivery in front
pub spread : (items : List SentItem) (x : SentItem) → x ≡ get_or items 0 x → IsHeld items → IsSpread x.item.id items
spread items x is held =
    record { rises = far-apart items x is held; near = far-near items x is held }

pub spread_of : (items : List SentItem) (x : SentItem) (front : ℕ) → front ≡ x.item.id → x ≡ get_or items 0 x → IsHeld items → IsSpread front items
spread_of items x front e is held = let P : ℕ → Type 0 = λ n. IsSpread n items in subst P (sym e) (spread items x is held)

-- # What comes after all of them

before-within : (f x l id : ℕ) → IsTrue (is_before f x) → IsTrue (is_before x l) → IsTrue (is_before f l) → IsTrue (is_before f id) → IsTrue (is_before l id) → IsTrue (is_before x id)
before-within f x l id a b c d e = grind arith

pub after_all : (items : List SentItem) (x y : SentItem) (id : ℕ) → x ≡ get_or items 0 x → y ≡ get_or items (length items - 1) y → IsHeld items
    → IsTrue (is_before x.item.id id) → IsTrue (is_before y.item.id id) → All (λ z. IsTrue (is_before z.item.id id)) items
after_all items x y id first last held a b = λ k d h.
    let P : SentItem → Type 0 = λ z. IsTrue (is_before z.item.id id) in
    let front : get_or items 0 d ≡ x = sym (get_or_read items 0 x (omega arith) first d) in
    let back : get_or items (length items - 1) d ≡ y = sym (get_or_read items (length items - 1) y (omega arith) last d) in
    let z : SentItem = get_or items k d in
    ⊎_elim
    (λ i. ⊎_elim
    (λ j.
    let from : IsTrue (is_before x.item.id z.item.id) = let Q : SentItem → Type 0 = λ w. IsTrue (is_before w.item.id z.item.id) in subst Q front (held.in_order 0 k d i h) in
    let to : IsTrue (is_before z.item.id y.item.id) = let Q : SentItem → Type 0 = λ w. IsTrue (is_before z.item.id w.item.id) in subst Q back (held.in_order k (length items - 1) d j (omega arith)) in
    let whole : IsTrue (is_before x.item.id y.item.id) =
    let Q : SentItem → SentItem → Type 0 = λ v w. IsTrue (is_before v.item.id w.item.id) in
    subst (Q x) back (subst (λ v. Q v (get_or items (length items - 1) d)) front (held.in_order 0 (length items - 1) d (omega arith) (omega arith))) in
    before-within x.item.id z.item.id y.item.id id from to whole a b)
    (λ j. let e : k ≡ length items - 1 = omega arith in subst P (sym (ap (λ n. get_or items n d) e ∙ back)) b)
    (cases_lt k (length items - 1)))
    (λ i. let e : k ≡ 0 = omega arith in subst P (sym (ap (λ n. get_or items n d) e ∙ front)) a)
    (cases_lt 0 k)

pub all_first : (items : List SentItem) (x : SentItem) (id : ℕ) → x ≡ get_or items 0 x → 0 < length items → All (λ z. IsTrue (is_before z.item.id id)) items → IsTrue (is_before x.item.id id)
all_first items x id first h all = let P : SentItem → Type 0 = λ z. IsTrue (is_before z.item.id id) in subst P (sym first) (all 0 x h)

pub all_last : (items : List SentItem) (y : SentItem) (id : ℕ) → y ≡ get_or items (length items - 1) y → 0 < length items → All (λ z. IsTrue (is_before z.item.id id)) items → IsTrue (is_before y.item.id id)
all_last items y id last h all = let P : SentItem → Type 0 = λ z. IsTrue (is_before z.item.id id) in subst P (sym last) (all (length items - 1) y (omega arith))

-- # Halving

far-read : (front : ℕ) (items : List SentItem) (k : ℕ) (x d : SentItem) → k < length items → x ≡ get_or items k x → far front items k d ≡ distance front x.item.id
far-read front items k x d h is = ap (λ y. distance front y.item.id) (sym (get_or_read items k x h is d))

-- among the places that the ids that are not held leave open
pub narrowed-start : (front : ℕ) (items : List SentItem) (reach : ℕ) (x : SentItem) (holes low high : ℕ) → IsSpread front items → 0 < length items → x ≡ get_or items (length items - 1) x
    → holes ≡ distance front x.item.id + 1 - length items → low ≡ min (length items) (reach - holes) → high ≡ min (length items) reach → IsNarrowed front items reach low high
narrowed-start front items reach x holes low high s some last is l h =
    record {
      ordered = omega arith;
      within = omega arith;
      before = λ k d b.
          let e = far-read front items (length items - 1) x d (omega arith) last in
          let m = s.rises k (length items - 1) d (omega arith) (omega arith) in
          let z = s.rises 0 (length items - 1) d (omega arith) (omega arith) in
          omega arith;
      after = λ k d a b. let m = s.rises 0 k d (omega arith) b in omega arith;
    }

pub narrowed-up : (front : ℕ) (items : List SentItem) (reach low high middle : ℕ) (x : SentItem) → IsSpread front items → IsNarrowed front items reach low high
    → low ≤ middle → middle < high → x ≡ get_or items middle x → distance front x.item.id < reach → IsNarrowed front items reach (middle + 1) high
narrowed-up front items reach low high middle x s n l h is short =
    record {
      ordered = omega arith;
      within = n.within;
      before = λ k d b.
          let inside : middle < length items = omega (arith, n.within) in
          let e = far-read front items middle x d inside is in
          let m = s.rises k middle d (omega arith) inside in
          omega arith;
      after = n.after;
    }

pub narrowed-down : (front : ℕ) (items : List SentItem) (reach low high middle : ℕ) (x : SentItem) → IsSpread front items → IsNarrowed front items reach low high
    → low ≤ middle → middle < high → x ≡ get_or items middle x → reach ≤ distance front x.item.id → IsNarrowed front items reach low middle
narrowed-down front items reach low high middle x s n l h is long =
    record {
      ordered = l;
      within = omega (arith, n.within);
      before = n.before;
      after = λ k d a b.
          let inside : middle < length items = omega (arith, n.within) in
          let e = far-read front items middle x d inside is in
          let m = s.rises middle k d a b in
          omega arith;
    }
