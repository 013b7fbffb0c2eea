-- What the fields of a composite type hold: a value is admitted exactly if something of the field's type is it.
use Rattle.std.proofs.Common.{◌≡◌, ◌⊎◌, inl, inr, ℕ, zero, suc, Bool, true, false, not, cond, eqb, ltb, ◌&&◌, ◌||◌, List, [], ◌∷◌, length, Option, Some, None, refl, sym, ap, subst, ◌∙◌, arith}
use Rattle.std.specs.Prelude.{nat_le}
use Rattle.std.proofs.lemmas.Bool.{eqb-true, ltb-true}
use Rattle.std.proofs.lemmas.Slice.Eq.{bytes_eq-Decides}
use Rattle.amqp_types.specs.declared.value.Value.{Value}
use Rattle.amqp_types.specs.declared.class.Kind.{Kind}
use Rattle.amqp_types.specs.declared.class.Run.{Run}
use Rattle.amqp_types.specs.Codes.{class_of}
use Rattle.amqp_types.specs.Datum.{Datum, number, octets, list, map, array, described, Data, none, item, count_of, depth_of}
use Rattle.amqp_types.specs.Grammar.{fits as fits_kind, IsPart, IsBody, AreParts}
use Rattle.amqp_types.specs.View.{view, views_of_pairs}
use Rattle.amqp_performatives.specs.declared.bodies.Role.{Role}
use Rattle.amqp_performatives.specs.declared.bodies.Role.TheVariants.{Sender, Receiver}
use Rattle.amqp_performatives.specs.declared.error.AmqpError.{AmqpError}
use Rattle.amqp_performatives.specs.declared.state.DeliveryState.{DeliveryState}
use Rattle.amqp_performatives.specs.declared.state.DeliveryState.TheVariants.{Received, Accepted, Rejected, Released, Modified, Other}
use Rattle.amqp_performatives.specs.declared.composite.Composite.{Composite}
use Rattle.amqp_performatives.specs.declared.composite.Composite.TheVariants as kind
use Rattle.amqp_performatives.specs.Composite.{type_of}
use Rattle.amqp_performatives.specs.Part.{Part, Fields, composite, no_field, field, null, IsDescriptor, Fits, FitInOrder}
use Rattle.amqp_performatives.specs.Bodies.{boolean, role, ubyte, ushort, uint, ulong, binary, string, symbol, mapping, any, error, state, optional}
use Rattle.amqp_performatives.specs.Fair.{where_present, is_null, is_present, is_tag, is_descriptor, names_state, is_other_state, is_fair_error, is_fair_state}
use Rattle.amqp_decoder.specs.Borrowed.{value_of, value_pairs_of}
use Rattle.amqp_decoder.proofs.SeenValues.{number_fits, list_parts, described_parts, spelled_seen, map_seen}
use Rattle.amqp_decoder.proofs.Conjunctions.{and_left, and_right, and_both}
use Rattle.amqp_halves.specs.declared.rows.Sort.{Sort}
use Rattle.amqp_halves.specs.declared.rows.Row.{Row}
use Rattle.amqp_halves.specs.Rows.{rows_of}
use Rattle.amqp_halves.specs.Judging.{admits_number, admits_octets, admits_described, all_optional, admits, fits, are_rows}

-- ---- what a field holds

abbrev pub Held : Sort → Type 0
Held Sort.Boolean = Bool
Held Sort.Role = Role
Held (Sort.Ubyte most) = ℕ
Held Sort.Ushort = ℕ
Held Sort.Uint = ℕ
Held Sort.Ulong = ℕ
Held Sort.Tag = List ℕ
Held Sort.Str = List ℕ
Held Sort.Symbol = List ℕ
Held Sort.Map = List (Value × Value)
Held Sort.Any = Value
Held Sort.Error = AmqpError
Held Sort.State = DeliveryState

abbrev pub part_in : (s : Sort) → Held s → Part
part_in Sort.Boolean a = boolean a
part_in Sort.Role a = role a
part_in (Sort.Ubyte most) a = ubyte a
part_in Sort.Ushort a = ushort a
part_in Sort.Uint a = uint a
part_in Sort.Ulong a = ulong a
part_in Sort.Tag a = binary a
part_in Sort.Str a = string a
part_in Sort.Symbol a = symbol a
part_in Sort.Map a = mapping a
part_in Sort.Any a = any a
part_in Sort.Error a = error a
part_in Sort.State a = state a

abbrev pub may_hold : (s : Sort) → Held s → Bool
may_hold (Sort.Ubyte most) a = nat_le a most
may_hold Sort.Tag a = is_tag a
may_hold Sort.Any a = is_present a
may_hold Sort.Error a = is_fair_error a
may_hold Sort.State a = is_fair_state a
may_hold Sort.Boolean a = true
may_hold Sort.Role a = true
may_hold Sort.Ushort a = true
may_hold Sort.Uint a = true
may_hold Sort.Ulong a = true
may_hold Sort.Str a = true
may_hold Sort.Symbol a = true
may_hold Sort.Map a = true

abbrev pub HeldBy : Row → Type 0
HeldBy (Row.Must s) = Held s
HeldBy (Row.May s) = Option (Held s)

abbrev pub HeldAll : List Row → Type 0
HeldAll [] = Unit {0}
HeldAll (r ∷ rows) = HeldBy r × HeldAll rows

abbrev pub part_by : (r : Row) → HeldBy r → Part
part_by (Row.Must s) a = part_in s a
part_by (Row.May s) a = optional (part_in s) a

abbrev pub fields_by : (rows : List Row) → HeldAll rows → Fields
fields_by [] h = no_field
fields_by (r ∷ rows) h = field (part_by r h.0) (fields_by rows h.1)

-- what may stand in an optional field; true where anything may
abbrev pub fair_optional : (s : Sort) → Option (Held s) → Bool
fair_optional (Sort.Ubyte most) a = where_present (λ (n : ℕ). nat_le n most) a
fair_optional Sort.Tag a = where_present is_tag a
fair_optional Sort.Any a = where_present is_present a
fair_optional Sort.Error a = where_present is_fair_error a
fair_optional Sort.State a = where_present is_fair_state a
fair_optional Sort.Boolean a = true
fair_optional Sort.Role a = true
fair_optional Sort.Ushort a = true
fair_optional Sort.Uint a = true
fair_optional Sort.Ulong a = true
fair_optional Sort.Str a = true
fair_optional Sort.Symbol a = true
fair_optional Sort.Map a = true

abbrev pub fair_by : (r : Row) → HeldBy r → Bool
fair_by (Row.Must s) a = may_hold s a
fair_by (Row.May s) a = fair_optional s a

abbrev pub fair_all : (rows : List Row) → HeldAll rows → Bool
fair_all [] h = true
fair_all (r ∷ rows) h = fair_by r h.0 && fair_all rows h.1

pub fair_some : (s : Sort) (a : Held s) → fair_optional s (Some a) ≡ may_hold s a
fair_some Sort.Boolean a = refl
fair_some Sort.Role a = refl
fair_some (Sort.Ubyte most) a = refl
fair_some Sort.Ushort a = refl
fair_some Sort.Uint a = refl
fair_some Sort.Ulong a = refl
fair_some Sort.Tag a = refl
fair_some Sort.Str a = refl
fair_some Sort.Symbol a = refl
fair_some Sort.Map a = refl
fair_some Sort.Any a = refl
fair_some Sort.Error a = refl
fair_some Sort.State a = refl

fair_none : (s : Sort) → fair_optional s None ≡ true
fair_none Sort.Boolean = refl
fair_none Sort.Role = refl
fair_none (Sort.Ubyte most) = refl
fair_none Sort.Ushort = refl
fair_none Sort.Uint = refl
fair_none Sort.Ulong = refl
fair_none Sort.Tag = refl
fair_none Sort.Str = refl
fair_none Sort.Symbol = refl
fair_none Sort.Map = refl
fair_none Sort.Any = refl
fair_none Sort.Error = refl
fair_none Sort.State = refl

-- ---- values that are spelled

abbrev pub Good : Datum → Type 0
Good d = (x : List ℕ) × IsPart None (IsBody d) x

abbrev pub GoodAll : Data → Type 0
GoodAll ds = (x : List ℕ) × AreParts ds None x

pub good_value : (a b : Datum) → Good (described a b) → Good b
good_value a b ([], h) = absurd h
good_value a b (c ∷ os, h) = let p = described_parts (class_of c) (IsPart None (IsBody a)) (IsPart None (IsBody b)) os h in (p.b, p.second)

items_from : (ds : Data) → (count_of ds ≡ 0) ⊎ ((content : List ℕ) × AreParts ds None content) → GoodAll ds
items_from none (inl e) = ([], refl)
items_from (item d ds) (inl e) = absurd cc
items_from ds (inr h) = h

pub good_items : (ds : Data) → Good (list ds) → GoodAll ds
good_items ds ([], h) = absurd h
good_items ds (c ∷ os, h) = items_from ds (list_parts (class_of c) (count_of ds) (AreParts ds None) os h)

good_first : (d : Datum) (ds : Data) → GoodAll (item d ds) → Good d
good_first d ds g = (g.1.0, g.1.2)

good_rest : (d : Datum) (ds : Data) → GoodAll (item d ds) → GoodAll ds
good_rest d ds g = (g.1.1, g.1.3)

good_number : (k : Kind) (n : ℕ) → Good (number k n) → fits_kind k n ≡ true
good_number k n ([], h) = absurd h
good_number k n (c ∷ os, h) = number_fits (class_of c) k n os h

good_seen : (d : Datum) → Good d → view (value_of d) ≡ d
good_seen d g = spelled_seen (depth_of d) d g.0 (g.1, omega arith)

good_map : (ds : Data) → Good (map ds) → views_of_pairs (value_pairs_of ds) ≡ ds
good_map ds g = map_seen (depth_of (map ds)) ds g.0 (g.1, omega arith)

good_null : (d : Datum) → Good d → is_null d ≡ true → d ≡ null
good_null (number Kind.Null n) g h = ap (number Kind.Null) (eqb-true n 0 (good_number Kind.Null n g))
good_null (number _ n) g h = absurd cc
good_null (octets r os) g h = absurd cc
good_null (list ds) g h = absurd cc
good_null (map ds) g h = absurd cc
good_null (array c ds) g h = absurd cc
good_null (described a b) g h = absurd cc

-- ---- what is admitted is held

pub record Made (s : Sort) (d : Datum) : Type 0 where
  pub held : Held s
  pub fair : may_hold s held ≡ true
  pub fit : Fits (part_in s held) d

pub record MadeBy (r : Row) (d : Datum) : Type 0 where
  pub held : HeldBy r
  pub fair : fair_by r held ≡ true
  pub fit : Fits (part_by r held) d

pub record MadeAll (rows : List Row) (ds : Data) : Type 0 where
  pub held : HeldAll rows
  pub fair : fair_all rows held ≡ true
  pub fit : FitInOrder (fields_by rows held) ds

pub record MadeList (c : Composite) (d : Datum) : Type 0 where
  pub items : Data
  pub is : d ≡ list items
  pub made : MadeAll (rows_of c) items

bool_back : (n : ℕ) → ltb n 2 ≡ true → n ≡ cond (eqb n 1) 1 0
bool_back zero h = refl
bool_back (suc zero) h = refl
bool_back (suc (suc n)) h = let k = ltb-true (suc (suc n)) 2 h in absurd (omega arith)

abbrev role_at : Bool → Role
role_at true = Receiver
role_at false = Sender

role_is : (b : Bool) → role (role_at b) ≡ boolean b
role_is true = refl
role_is false = refl

role_fits : (n : ℕ) → ltb n 2 ≡ true → Fits (role (role_at (eqb n 1))) (number Kind.Bool n)
role_fits n h = subst (λ (p : Part). Fits p (number Kind.Bool n)) (sym (role_is (eqb n 1))) (ap (number Kind.Bool) (bool_back n h))

made_any : (d : Datum) → Good d → not (is_null d) ≡ true → Made Sort.Any d
made_any d g h = let s = good_seen d g in record { held = value_of d; fair = ap (λ (x : Datum). not (is_null x)) s ∙ h; fit = sym s }

made_other : (d : Datum) → Good d → is_other_state d ≡ true → Made Sort.State d
made_other d g h = let s = good_seen d g in record { held = Other (value_of d); fair = ap is_other_state s ∙ h; fit = sym s }

any_number : (k : Kind) (n : ℕ) → admits_number Sort.Any k n ≡ true → not (is_null (number k n)) ≡ true
any_number Kind.Null n h = absurd cc
any_number _ n h = refl

state_number : (k : Kind) (n : ℕ) → admits_number Sort.State k n ≡ true → not (is_null (number k n)) ≡ true
state_number Kind.Null n h = absurd cc
state_number _ n h = refl

made_number : (s : Sort) (k : Kind) (n : ℕ) → Good (number k n) → admits_number s k n ≡ true → Made s (number k n)
made_number Sort.Any k n g h = made_any (number k n) g (any_number k n h)
made_number Sort.State k n g h = made_other (number k n) g (state_number k n h)
made_number Sort.Boolean Kind.Bool n g h = record { held = eqb n 1; fair = refl; fit = ap (number Kind.Bool) (bool_back n (good_number Kind.Bool n g)) }
made_number Sort.Role Kind.Bool n g h = record { held = role_at (eqb n 1); fair = refl; fit = role_fits n (good_number Kind.Bool n g) }
made_number (Sort.Ubyte most) Kind.Ubyte n g h = record { held = n; fair = h; fit = refl }
made_number Sort.Ushort Kind.Ushort n g h = record { held = n; fair = refl; fit = refl }
made_number Sort.Uint Kind.Uint n g h = record { held = n; fair = refl; fit = refl }
made_number Sort.Ulong Kind.Ulong n g h = record { held = n; fair = refl; fit = refl }
made_number _ k n g h = absurd cc

made_octets : (s : Sort) (r : Run) (os : List ℕ) → Good (octets r os) → admits_octets s r (length os) ≡ true → Made s (octets r os)
made_octets Sort.Any r os g h = made_any (octets r os) g refl
made_octets Sort.State r os g h = made_other (octets r os) g refl
made_octets Sort.Tag Run.Binary os g h = record { held = os; fair = h; fit = refl }
made_octets Sort.Str Run.Str os g h = record { held = os; fair = refl; fit = refl }
made_octets Sort.Symbol Run.Symbol os g h = record { held = os; fair = refl; fit = refl }
made_octets _ r os g h = absurd cc

made_list : (s : Sort) (ds : Data) → Good (list ds) → admits s (list ds) ≡ true → Made s (list ds)
made_list Sort.Any ds g h = made_any (list ds) g refl
made_list Sort.State ds g h = made_other (list ds) g refl
made_list _ ds g h = absurd cc

made_array : (s : Sort) (c : ℕ) (ds : Data) → Good (array c ds) → admits s (array c ds) ≡ true → Made s (array c ds)
made_array Sort.Any c ds g h = made_any (array c ds) g refl
made_array Sort.State c ds g h = made_other (array c ds) g refl
made_array _ c ds g h = absurd cc

made_map : (s : Sort) (ds : Data) → Good (map ds) → admits s (map ds) ≡ true → Made s (map ds)
made_map Sort.Any ds g h = made_any (map ds) g refl
made_map Sort.State ds g h = made_other (map ds) g refl
made_map Sort.Map ds g h = record { held = value_pairs_of ds; fair = refl; fit = ap map (sym (good_map ds g)) }
made_map _ ds g h = absurd cc

-- ---- errors and states

pub descriptor_true : (type : ℕ × List ℕ) (d : Datum) → is_descriptor type d ≡ true → IsDescriptor type d
descriptor_true type (number Kind.Ulong n) h = inl (ap (number Kind.Ulong) (eqb-true n type.0 h))
descriptor_true type (number _ n) h = absurd cc
descriptor_true type (octets Run.Symbol name) h = inr (ap (octets Run.Symbol) ((bytes_eq-Decides name type.1).0 h))
descriptor_true type (octets _ name) h = absurd cc
descriptor_true type (list ds) h = absurd cc
descriptor_true type (map ds) h = absurd cc
descriptor_true type (array c ds) h = absurd cc
descriptor_true type (described d v) h = absurd cc

abbrev Lists : Datum → Type 0
Lists b = (c : Composite) → fits b c ≡ true → MadeList c b

composite_fits : (c : Composite) (a b : Datum) (fs : Fields) (m : MadeList c b) → is_descriptor (type_of c) a ≡ true → FitInOrder fs m.items → Fits (composite (type_of c) fs) (described a b)
composite_fits c a b fs m t f = (a, m.items, descriptor_true (type_of c) a t, f, ap (described a) m.is)

last_true : (b : Bool) → (b && true) ≡ true → b ≡ true
last_true b h = and_left b true h

made_error : (a b : Datum) → Lists b → (is_descriptor (type_of kind.Error) a && fits b kind.Error) ≡ true → Made Sort.Error (described a b)
made_error a b lists h =
    let m = lists kind.Error (and_right (is_descriptor (type_of kind.Error) a) (fits b kind.Error) h) in
    let x = m.made.held in
    let e : AmqpError = record { condition = x.0; description = x.1.0; info = x.1.1.0 } in
    record { held = e; fair = last_true (where_present is_present x.1.1.0) m.made.fair; fit = composite_fits kind.Error a b (fields_by (rows_of kind.Error) m.made.held) m (and_left (is_descriptor (type_of kind.Error) a) (fits b kind.Error) h) m.made.fit }

received : (a b : Datum) → is_descriptor (type_of kind.Received) a ≡ true → MadeList kind.Received b → Made Sort.State (described a b)
received a b t m = record { held = Received m.made.held.0 m.made.held.1.0; fair = refl; fit = composite_fits kind.Received a b (fields_by (rows_of kind.Received) m.made.held) m t m.made.fit }

accepted : (a b : Datum) → is_descriptor (type_of kind.Accepted) a ≡ true → MadeList kind.Accepted b → Made Sort.State (described a b)
accepted a b t m = record { held = Accepted; fair = refl; fit = composite_fits kind.Accepted a b (fields_by (rows_of kind.Accepted) m.made.held) m t m.made.fit }

rejected : (a b : Datum) → is_descriptor (type_of kind.Rejected) a ≡ true → MadeList kind.Rejected b → Made Sort.State (described a b)
rejected a b t m = record { held = Rejected m.made.held.0; fair = last_true (where_present is_fair_error m.made.held.0) m.made.fair; fit = composite_fits kind.Rejected a b (fields_by (rows_of kind.Rejected) m.made.held) m t m.made.fit }

released : (a b : Datum) → is_descriptor (type_of kind.Released) a ≡ true → MadeList kind.Released b → Made Sort.State (described a b)
released a b t m = record { held = Released; fair = refl; fit = composite_fits kind.Released a b (fields_by (rows_of kind.Released) m.made.held) m t m.made.fit }

modified : (a b : Datum) → is_descriptor (type_of kind.Modified) a ≡ true → MadeList kind.Modified b → Made Sort.State (described a b)
modified a b t m =
    let x = m.made.held in
    record { held = Modified x.0 x.1.0 x.1.1.0; fair = last_true (where_present is_present x.1.1.0) m.made.fair; fit = composite_fits kind.Modified a b (fields_by (rows_of kind.Modified) m.made.held) m t m.made.fit }

abbrev named : Composite → Datum → Bool
named c a = is_descriptor (type_of c) a

-- none of the five names
no_state : (a : Datum) → named kind.Received a ≡ false → named kind.Accepted a ≡ false → named kind.Rejected a ≡ false → named kind.Released a ≡ false → named kind.Modified a ≡ false → names_state a ≡ false
no_state a h i j k l = rw (h, i, j, k, l) refl

made_state : (a b : Datum) → Good (described a b) → Lists b → (r s t u v : Bool) → named kind.Received a ≡ r → named kind.Accepted a ≡ s → named kind.Rejected a ≡ t → named kind.Released a ≡ u → named kind.Modified a ≡ v
    → cond r (fits b kind.Received) (cond s (fits b kind.Accepted) (cond t (fits b kind.Rejected) (cond u (fits b kind.Released) (cond v (fits b kind.Modified) true)))) ≡ true → Made Sort.State (described a b)
made_state a b g lists true s t u v h i j k l e = received a b h (lists kind.Received e)
made_state a b g lists false true t u v h i j k l e = accepted a b i (lists kind.Accepted e)
made_state a b g lists false false true u v h i j k l e = rejected a b j (lists kind.Rejected e)
made_state a b g lists false false false true v h i j k l e = released a b k (lists kind.Released e)
made_state a b g lists false false false false true h i j k l e = modified a b l (lists kind.Modified e)
made_state a b g lists false false false false false h i j k l e = made_other (described a b) g (ap not (no_state a h i j k l))

made_described : (s : Sort) (a b : Datum) → Good (described a b) → Lists b → admits_described s a (fits b) ≡ true → Made s (described a b)
made_described Sort.Any a b g lists h = made_any (described a b) g refl
made_described Sort.Error a b g lists h = made_error a b lists h
made_described Sort.State a b g lists h = made_state a b g lists (named kind.Received a) (named kind.Accepted a) (named kind.Rejected a) (named kind.Released a) (named kind.Modified a) refl refl refl refl refl h
made_described _ a b g lists h = absurd cc

-- ---- lists

made_none : (rows : List Row) → all_optional rows ≡ true → MadeAll rows none
made_none [] h = record { held = tt; fair = refl; fit = tt }
made_none (Row.Must s ∷ rows) h = absurd cc
made_none (Row.May s ∷ rows) h =
    let m = made_none rows h in
    record { held = (None, m.held); fair = and_both (fair_optional s None) (fair_all rows m.held) (fair_none s) m.fair; fit = (refl, m.fit) }

made_may : (s : Sort) (d : Datum) → Good d → (b : Bool) → is_null d ≡ b → (admits s d ≡ true → Made s d) → (b || admits s d) ≡ true → MadeBy (Row.May s) d
made_may s d g true n make h = record { held = None; fair = fair_none s; fit = good_null d g n }
made_may s d g false n make h = let m = make h in record { held = Some m.held; fair = fair_some s m.held ∙ m.fair; fit = m.fit }

made_next : (r : Row) (rows : List Row) (d : Datum) (ds : Data) → MadeBy r d → MadeAll rows ds → MadeAll (r ∷ rows) (item d ds)
made_next r rows d ds m n = record { held = (m.held, n.held); fair = and_both (fair_by r m.held) (fair_all rows n.held) m.fair n.fair; fit = (m.fit, n.fit) }

mutual
  pub made : (s : Sort) (d : Datum) → Good d → admits s d ≡ true → Made s d
  made s (number k n) g h = made_number s k n g h
  made s (octets r os) g h = made_octets s r os g h
  made s (list ds) g h = made_list s ds g h
  made s (map ds) g h = made_map s ds g h
  made s (array c ds) g h = made_array s c ds g h
  made s (described a b) g h = made_described s a b g (λ c t. made_fields c b (good_value a b g) t) h

  pub made_fields : (c : Composite) (d : Datum) → Good d → fits d c ≡ true → MadeList c d
  made_fields c (list ds) g h = record { items = ds; is = refl; made = made_rows (rows_of c) ds (good_items ds g) h }
  made_fields c (number k n) g h = absurd cc
  made_fields c (octets r os) g h = absurd cc
  made_fields c (map ds) g h = absurd cc
  made_fields c (array k ds) g h = absurd cc
  made_fields c (described a b) g h = absurd cc

  made_rows : (rows : List Row) (ds : Data) → GoodAll ds → are_rows ds rows ≡ true → MadeAll rows ds
  made_rows rows none g h = made_none rows h
  made_rows [] (item d ds) g h =
      let m = made_rows [] ds (good_rest d ds g) (and_right (is_null d) (are_rows ds []) h) in
      record { held = tt; fair = refl; fit = (good_null d (good_first d ds g) (and_left (is_null d) (are_rows ds []) h), m.fit) }
  made_rows (Row.Must s ∷ rows) (item d ds) g h =
      let m = made s d (good_first d ds g) (and_left (admits s d) (are_rows ds rows) h) in
      made_next (Row.Must s) rows d ds (record { held = m.held; fair = m.fair; fit = m.fit }) (made_rows rows ds (good_rest d ds g) (and_right (admits s d) (are_rows ds rows) h))
  made_rows (Row.May s ∷ rows) (item d ds) g h =
      made_next (Row.May s) rows d ds
      (made_may s d (good_first d ds g) (is_null d) refl (λ t. made s d (good_first d ds g) t) (and_left (is_null d || admits s d) (are_rows ds rows) h))
      (made_rows rows ds (good_rest d ds g) (and_right (is_null d || admits s d) (are_rows ds rows) h))
