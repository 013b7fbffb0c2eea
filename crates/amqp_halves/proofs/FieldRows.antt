-- The values of a list, one after the other, against the fields of a type.
use Rattle.std.proofs.lemmas.List.{drop_all}
use Rattle.std.proofs.Common.{◌≡◌, ◌<◌, ◌≤◌, ℕ, suc, Bool, true, false, cond, eqb, ◌&&◌, List, [], ◌∷◌, length, drop, get_or, Option, Some, None, refl, sym, ap, subst, ◌∙◌, ◌+◌, add-one, drop-cons}
use Rattle.amqp_types.specs.declared.class.Kind.{Kind}
use Rattle.amqp_types.specs.Datum.{Datum, Data, none, item, number, described}
use Rattle.amqp_halves.specs.declared.leaf.Leaf.{Leaf}
use Rattle.amqp_halves.specs.declared.leaf.Leaf.TheVariants as leaf
use Rattle.amqp_halves.specs.Leaves.{IsLeaf}
use Rattle.amqp_types.specs.Reading.{◌>>=◌, parts_at, all_parts_at, after}
use Rattle.amqp_types.proofs.Compounds.{bind_some, guard_some, some_is}
use Rattle.amqp_halves.specs.declared.rows.Row.{Row}
use Rattle.amqp_halves.specs.declared.rows.Sort.{Sort}
use Rattle.amqp_performatives.specs.declared.composite.Composite.{Composite}
use Rattle.amqp_performatives.specs.declared.composite.Composite.TheVariants as kind
use Rattle.amqp_performatives.specs.Composite.{type_of}
use Rattle.amqp_performatives.specs.Fair.{is_null, is_descriptor}
use Rattle.amqp_halves.specs.Judging.{all_optional, admits, are_rows, first_fits, is_state, first_body, fits}
use Rattle.amqp_halves.proofs.Shapes.{from_after}

abbrev pub Reader : Type 0
Reader = List ℕ → Option (Datum × List ℕ)

-- what is left of the values and of the fields
pub record RowsLeft (part : Reader) (left : ℕ) (rest : List ℕ) (others rows : List Row) (ds : Data) : Type 0 where
  pub values : Data
  pub all : all_parts_at part left rest ≡ Some values
  pub same : are_rows values others ≡ are_rows ds rows

pub record First (part : Reader) (m : ℕ) (os : List ℕ) (ds : Data) : Type 0 where
  pub x : Datum × List ℕ
  pub others : Data
  pub at : part os ≡ Some x
  pub is : ds ≡ item x.0 others
  pub all : all_parts_at part m x.1 ≡ Some others

pub first_part : (part : Reader) (n m : ℕ) (os : List ℕ) (ds : Data) → n ≡ suc m → all_parts_at part n os ≡ Some ds → First part m os ds
unfolding parts_at all_parts_at
first_part part n m os ds k e =
    let e' : all_parts_at part (suc m) os ≡ Some ds = ap (λ (t : ℕ). all_parts_at part t os) (sym k) ∙ e in
    let a = bind_some (parts_at part (suc m) os) (λ (x : Data × List ℕ). cond (eqb (length x.1) 0) (Some x.0) None) ds e' in
    let g = guard_some (eqb (length a.0.1) 0) (Some a.0.0) ds a.2 in
    let b = bind_some (part os) (λ (v : Datum × List ℕ). parts_at part m v.1 >>= λ vs. Some (item v.0 vs.0, vs.1)) a.0 a.1 in
    let d = bind_some (parts_at part m b.0.1) (λ (vs : Data × List ℕ). Some (item b.0.0 vs.0, vs.1)) a.0 b.2 in
    let same = some_is (item b.0.0 d.0.0, d.0.1) a.0 d.2 in
    let none_left : eqb (length d.0.1) 0 ≡ true = ap (λ (p : Data × List ℕ). eqb (length p.1) 0) same ∙ g.0 in
    record {
      x = b.0;
      others = d.0.0;
      at = b.1;
      is = sym (ap (λ (p : Data × List ℕ). p.0) same ∙ some_is a.0.0 ds g.1);
      all = ap (λ (o : Option (Data × List ℕ)). o >>= λ (vs : Data × List ℕ). cond (eqb (length vs.1) 0) (Some vs.0) None) d.1 ∙ ap (λ (b : Bool). cond b (Some d.0.0) None) none_left;
    }

no_part : (part : Reader) (n : ℕ) (os : List ℕ) (ds : Data) → n ≡ 0 → all_parts_at part n os ≡ Some ds → ds ≡ none
unfolding parts_at all_parts_at
no_part part n os ds k e =
    let e' : all_parts_at part 0 os ≡ Some ds = ap (λ (t : ℕ). all_parts_at part t os) (sym k) ∙ e in
    let g = guard_some (eqb (length os) 0) (Some none) ds e' in
    sym (some_is none ds g.1)

are_first : (d : Datum) (ds : Data) (rows : List Row) → are_rows (item d ds) rows ≡ (first_fits rows d && are_rows ds (drop 1 rows))
are_first d ds [] = refl
are_first d ds (Row.Must s ∷ rows) = refl
are_first d ds (Row.May s ∷ rows) = refl

pub rows_begin : (part : Reader) (count n : ℕ) (os : List ℕ) (rows : List Row) (ds : Data) → n ≡ count → all_parts_at part count os ≡ Some ds → RowsLeft part n os rows rows ds
rows_begin part count n os rows ds k e = record { values = ds; all = ap (λ (t : ℕ). all_parts_at part t os) k ∙ e; same = refl }

pub rows_next : (part : Reader) (n m : ℕ) (os next : List ℕ) (others later rows : List Row) (ds : Data) (b : Bool) → n ≡ suc m → RowsLeft part n os others rows ds → Some next ≡ after (part os) → later ≡ drop 1 others
    → ((d : Datum) (rest : List ℕ) → part os ≡ Some (d, rest) → b ≡ first_fits others d) → b ≡ true → RowsLeft part m next later rows ds
rows_next part n m os next others later rows ds b k left f l fits t =
    let p = first_part part n m os left.values k left.all in
    let x = from_after (part os) next f in
    let at : p.x.1 ≡ next = ap (λ (q : Datum × List ℕ). q.1) (some_is p.x x.0 (sym p.at ∙ x.1)) ∙ x.2 in
    let one : first_fits others p.x.0 ≡ true = sym (fits p.x.0 p.x.1 p.at) ∙ t in
    record {
      values = p.others;
      all = subst (λ (y : List ℕ). all_parts_at part m y ≡ Some p.others) at p.all;
      same = ap (are_rows p.others) l ∙ ap (λ (c : Bool). c && are_rows p.others (drop 1 others)) (sym one) ∙ sym (are_first p.x.0 p.others others) ∙ ap (λ (v : Data). are_rows v others) (sym p.is) ∙ left.same;
    }

pub rows_stop : (part : Reader) (n m : ℕ) (os : List ℕ) (others rows : List Row) (ds : Data) (b : Bool) → n ≡ suc m → RowsLeft part n os others rows ds
    → ((d : Datum) (rest : List ℕ) → part os ≡ Some (d, rest) → b ≡ first_fits others d) → b ≡ false → false ≡ are_rows ds rows
rows_stop part n m os others rows ds b k left fits t =
    let p = first_part part n m os left.values k left.all in
    let one : first_fits others p.x.0 ≡ false = sym (fits p.x.0 p.x.1 p.at) ∙ t in
    ap (λ (c : Bool). c && are_rows p.others (drop 1 others)) (sym one) ∙ sym (are_first p.x.0 p.others others) ∙ ap (λ (v : Data). are_rows v others) (sym p.is) ∙ left.same

pub rows_cut : (part : Reader) (n m : ℕ) (os : List ℕ) (others rows : List Row) (ds : Data) → n ≡ suc m → RowsLeft part n os others rows ds → None ≡ after (part os) → ⊥
rows_cut part n m os others rows ds k left f =
    let p = first_part part n m os left.values k left.all in
    let q : None ≡ Some p.x.1 = f ∙ ap after p.at in cc

pub rows_end : (part : Reader) (n : ℕ) (os : List ℕ) (others rows : List Row) (ds : Data) → n ≡ 0 → RowsLeft part n os others rows ds → all_optional others ≡ are_rows ds rows
rows_end part n os others rows ds k left = ap (λ (v : Data). are_rows v others) (sym (no_part part n os left.values k left.all)) ∙ left.same

-- ---- an optional field

pub may_rows : (rows : List Row) (row : Row) (others : List Row) (d : Datum) (b : Bool) → rows ≡ row ∷ others → (s : Sort) → row ≡ Row.May s → false ≡ is_null d → b ≡ admits s d → b ≡ first_fits rows d
may_rows rows row others d b e s k n h = rw (e, k, ← n) h

-- ---- states, by their descriptors

abbrev Of : Type 0
Of = Composite → Bool

pub state_received : (a : Datum) (of : Of) (r : Bool) → true ≡ is_descriptor (type_of kind.Received) a → r ≡ of kind.Received → r ≡ is_state a of
state_received a of r h e = rw (← h) e

pub state_accepted : (a : Datum) (of : Of) (r : Bool) → false ≡ is_descriptor (type_of kind.Received) a → true ≡ is_descriptor (type_of kind.Accepted) a → r ≡ of kind.Accepted → r ≡ is_state a of
state_accepted a of r h i e = rw (← h, ← i) e

pub state_rejected : (a : Datum) (of : Of) (r : Bool) → false ≡ is_descriptor (type_of kind.Received) a → false ≡ is_descriptor (type_of kind.Accepted) a → true ≡ is_descriptor (type_of kind.Rejected) a → r ≡ of kind.Rejected → r ≡ is_state a of
state_rejected a of r h i j e = rw (← h, ← i, ← j) e

pub state_released : (a : Datum) (of : Of) (r : Bool) → false ≡ is_descriptor (type_of kind.Received) a → false ≡ is_descriptor (type_of kind.Accepted) a → false ≡ is_descriptor (type_of kind.Rejected) a → true ≡ is_descriptor (type_of kind.Released) a → r ≡ of kind.Released → r ≡ is_state a of
state_released a of r h i j k e = rw (← h, ← i, ← j, ← k) e

pub state_modified : (a : Datum) (of : Of) (r : Bool) → false ≡ is_descriptor (type_of kind.Received) a → false ≡ is_descriptor (type_of kind.Accepted) a → false ≡ is_descriptor (type_of kind.Rejected) a → false ≡ is_descriptor (type_of kind.Released) a
    → true ≡ is_descriptor (type_of kind.Modified) a → r ≡ of kind.Modified → r ≡ is_state a of
state_modified a of r h i j k l e = rw (← h, ← i, ← j, ← k, ← l) e

-- ---- performatives

pub later_body : (bodies : List Composite) (i : ℕ) (d : Composite) (a b : Datum) (all : Option Composite) → i < length bodies → false ≡ (is_descriptor (type_of (get_or bodies i d)) a && fits b (get_or bodies i d)) → first_body (drop i bodies) a b ≡ all → first_body (drop (i + 1) bodies) a b ≡ all
later_body bodies i d a b all n h e =
    let c = get_or bodies i d in
    let one : first_body (drop i bodies) a b ≡ first_body (drop (suc i) bodies) a b = ap (λ (xs : List Composite). first_body xs a b) (drop-cons bodies i d n) ∙ ap (λ (t : Bool). cond t (Some c) (first_body (drop (suc i) bodies) a b)) (sym h) in
    rw add-one (sym one ∙ e)

pub this_body : (bodies : List Composite) (i : ℕ) (d : Composite) (a b : Datum) (all : Option Composite) → i < length bodies → true ≡ (is_descriptor (type_of (get_or bodies i d)) a && fits b (get_or bodies i d)) → first_body (drop i bodies) a b ≡ all → Some (get_or bodies i d) ≡ all
this_body bodies i d a b all n h e =
    let c = get_or bodies i d in
    let one : first_body (drop i bodies) a b ≡ Some c = ap (λ (xs : List Composite). first_body xs a b) (drop-cons bodies i d n) ∙ ap (λ (t : Bool). cond t (Some c) (first_body (drop (suc i) bodies) a b)) (sym h) in
    sym one ∙ e

pub no_body : (bodies : List Composite) (i : ℕ) (a b : Datum) (all : Option Composite) → length bodies ≤ i → first_body (drop i bodies) a b ≡ all → None ≡ all
no_body bodies i a b all n e = ap (λ (xs : List Composite). first_body xs a b) (sym (drop_all i bodies n)) ∙ e

pub named_fits : (n r b : Bool) → true ≡ n → r ≡ b → r ≡ (n && b)
named_fits n r b h e = rw (← h) e

-- ---- leaves

pub is_number : (l : Leaf) (k : Kind) (n : ℕ) (d : Datum) → l ≡ leaf.Number k n → IsLeaf l d → d ≡ number k n
is_number l k n d e h = subst (λ (m : Leaf). IsLeaf m d) e h

pub is_described : (l : Leaf) (d : Datum) → l ≡ leaf.Described → IsLeaf l d → (a b : Datum) × (d ≡ described a b)
is_described l d e h = subst (λ (m : Leaf). IsLeaf m d) e h
