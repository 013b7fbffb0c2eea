-- What a field holds is admitted.
use Rattle.std.proofs.Common.{◌≡◌, inl, inr, ℕ, Bool, true, false, not, eq-eqb, ◌&&◌, ◌||◌, List, [], ◌∷◌, Some, None, refl, sym, ap, ◌∙◌}
use Rattle.std.proofs.lemmas.Bool.{or_parts, or_right}
use Rattle.std.proofs.lemmas.Slice.Eq.{bytes_eq-Decides}
use Rattle.amqp_types.specs.declared.class.Kind.{Kind}
use Rattle.amqp_types.specs.Datum.{Datum, number, octets, list, map, array, described, Data, none, item}
use Rattle.amqp_performatives.specs.declared.bodies.Role.TheVariants.{Sender, Receiver}
use Rattle.amqp_performatives.specs.declared.state.DeliveryState.TheVariants.{Received, Accepted, Rejected, Released, Modified, Other}
use Rattle.amqp_performatives.specs.declared.composite.Composite.{Composite}
use Rattle.amqp_performatives.specs.declared.composite.Composite.TheVariants as kind
use Rattle.amqp_performatives.specs.Composite.{type_of}
use Rattle.amqp_performatives.specs.Part.{absent, IsDescriptor, Fits, FitInOrder}
use Rattle.amqp_performatives.specs.Fair.{is_null, is_descriptor, names_state, is_other_state}
use Rattle.amqp_decoder.proofs.Conjunctions.{and_left, and_right, and_both}
use Rattle.amqp_halves.specs.declared.rows.Sort.{Sort}
use Rattle.amqp_halves.specs.declared.rows.Row.{Row}
use Rattle.amqp_halves.specs.Rows.{rows_of}
use Rattle.amqp_halves.specs.Judging.{is_state, admits, fits, are_rows}
use Rattle.amqp_halves.proofs.Held.{Held, part_in, may_hold, HeldAll, fields_by, fair_by, fair_all, fair_some}

abbrev pub Tell : Sort → Type 0
Tell s = (a : Held s) (d : Datum) → may_hold s a ≡ true → Fits (part_in s a) d → admits s d ≡ true

abbrev Tells : List Row → Type 0
Tells [] = Unit {0}
Tells (Row.Must s ∷ rows) = Tell s × Tells rows
Tells (Row.May s ∷ rows) = Tell s × Tells rows

never_absent : (s : Sort) (a : Held s) → part_in s a ≡ absent → ⊥
never_absent Sort.Boolean a e = cc
never_absent Sort.Role Sender e = cc
never_absent Sort.Role Receiver e = cc
never_absent (Sort.Ubyte most) a e = cc
never_absent Sort.Ushort a e = cc
never_absent Sort.Uint a e = cc
never_absent Sort.Ulong a e = cc
never_absent Sort.Tag a e = cc
never_absent Sort.Str a e = cc
never_absent Sort.Symbol a e = cc
never_absent Sort.Map a e = cc
never_absent Sort.Any a e = cc
never_absent Sort.Error a e = cc
never_absent Sort.State (Received n o) e = cc
never_absent Sort.State Accepted e = cc
never_absent Sort.State (Rejected x) e = cc
never_absent Sort.State Released e = cc
never_absent Sort.State (Modified f u m) e = cc
never_absent Sort.State (Other v) e = cc

or_first : (a b : Bool) → a ≡ true → (a || b) ≡ true
or_first true b h = refl
or_first false b h = absurd cc

told_rows : (rows : List Row) → Tells rows → (h : HeldAll rows) (ds : Data) → fair_all rows h ≡ true → FitInOrder (fields_by rows h) ds → are_rows ds rows ≡ true
told_rows [] t h none f k = refl
told_rows [] t h (item d ds) f k = and_both (is_null d) (are_rows ds []) (ap is_null k.0) (told_rows [] t h ds refl k.1)
told_rows (Row.Must s ∷ rows) t h none f k = absurd (never_absent s h.0 k.0)
told_rows (Row.Must s ∷ rows) t h (item d ds) f k =
    and_both (admits s d) (are_rows ds rows) (t.0 h.0 d (and_left (may_hold s h.0) (fair_all rows h.1) f) k.0) (told_rows rows t.1 h.1 ds (and_right (may_hold s h.0) (fair_all rows h.1) f) k.1)
told_rows (Row.May s ∷ rows) t (None, h) none f k = told_rows rows t.1 h none (and_right (fair_by (Row.May s) None) (fair_all rows h) f) k.1
told_rows (Row.May s ∷ rows) t (Some a, h) none f k = absurd (never_absent s a k.0)
told_rows (Row.May s ∷ rows) t (None, h) (item d ds) f k =
    and_both (is_null d || admits s d) (are_rows ds rows) (or_first (is_null d) (admits s d) (ap is_null k.0)) (told_rows rows t.1 h ds (and_right (fair_by (Row.May s) None) (fair_all rows h) f) k.1)
told_rows (Row.May s ∷ rows) t (Some a, h) (item d ds) f k =
    and_both (is_null d || admits s d) (are_rows ds rows)
    (or_right (is_null d) (admits s d) (t.0 a d (sym (fair_some s a) ∙ and_left (fair_by (Row.May s) (Some a)) (fair_all rows h) f) k.0))
    (told_rows rows t.1 h ds (and_right (fair_by (Row.May s) (Some a)) (fair_all rows h) f) k.1)

-- ---- leaves

any_is : (d : Datum) → not (is_null d) ≡ true → admits Sort.Any d ≡ true
any_is (number Kind.Null n) h = absurd cc
any_is (number _ n) h = refl
any_is (octets r os) h = refl
any_is (list ds) h = refl
any_is (map ds) h = refl
any_is (array c ds) h = refl
any_is (described a b) h = refl

tell_boolean : Tell Sort.Boolean
tell_boolean a d f e = ap (admits Sort.Boolean) e

tell_role : Tell Sort.Role
tell_role Sender d f e = ap (admits Sort.Role) e
tell_role Receiver d f e = ap (admits Sort.Role) e

tell_ubyte : (most : ℕ) → Tell (Sort.Ubyte most)
tell_ubyte most a d f e = ap (admits (Sort.Ubyte most)) e ∙ f

tell_ushort : Tell Sort.Ushort
tell_ushort a d f e = ap (admits Sort.Ushort) e

tell_uint : Tell Sort.Uint
tell_uint a d f e = ap (admits Sort.Uint) e

tell_ulong : Tell Sort.Ulong
tell_ulong a d f e = ap (admits Sort.Ulong) e

tell_tag : Tell Sort.Tag
tell_tag a d f e = ap (admits Sort.Tag) e ∙ f

tell_str : Tell Sort.Str
tell_str a d f e = ap (admits Sort.Str) e

tell_symbol : Tell Sort.Symbol
tell_symbol a d f e = ap (admits Sort.Symbol) e

tell_map : Tell Sort.Map
tell_map a d f e = ap (admits Sort.Map) e

tell_any : Tell Sort.Any
tell_any a d f e = any_is d (ap (λ (x : Datum). not (is_null x)) e ∙ f)

-- ---- errors and states

pub true_of : (type : ℕ × List ℕ) (d : Datum) → IsDescriptor type d → is_descriptor type d ≡ true
true_of type d (inl e) = ap (is_descriptor type) e ∙ eq-eqb type.0 type.0 refl
true_of type d (inr e) = ap (is_descriptor type) e ∙ (bytes_eq-Decides type.1 type.1).1 refl

last_and : (b : Bool) → b ≡ true → (b && true) ≡ true
last_and b h = and_both b true h refl

tell_error : Tell Sort.Error
tell_error a d f (desc, ds, is, k, e) =
    ap (admits Sort.Error) e
    ∙ and_both (is_descriptor (type_of kind.Error) desc) (are_rows ds (rows_of kind.Error)) (true_of (type_of kind.Error) desc is) (told_rows (rows_of kind.Error) (tell_symbol, (tell_str, (tell_any, tt))) (a.condition, (a.description, (a.info, tt))) ds (last_and _ f) k)

abbrev Of : Type 0
Of = Composite → Bool

is_received : (d : Datum) (of : Of) → IsDescriptor (type_of kind.Received) d → is_state d of ≡ of kind.Received
is_received d of (inl e) = ap (λ (x : Datum). is_state x of) e
is_received d of (inr e) = ap (λ (x : Datum). is_state x of) e

is_accepted : (d : Datum) (of : Of) → IsDescriptor (type_of kind.Accepted) d → is_state d of ≡ of kind.Accepted
is_accepted d of (inl e) = ap (λ (x : Datum). is_state x of) e
is_accepted d of (inr e) = ap (λ (x : Datum). is_state x of) e

is_rejected : (d : Datum) (of : Of) → IsDescriptor (type_of kind.Rejected) d → is_state d of ≡ of kind.Rejected
is_rejected d of (inl e) = ap (λ (x : Datum). is_state x of) e
is_rejected d of (inr e) = ap (λ (x : Datum). is_state x of) e

is_released : (d : Datum) (of : Of) → IsDescriptor (type_of kind.Released) d → is_state d of ≡ of kind.Released
is_released d of (inl e) = ap (λ (x : Datum). is_state x of) e
is_released d of (inr e) = ap (λ (x : Datum). is_state x of) e

is_modified : (d : Datum) (of : Of) → IsDescriptor (type_of kind.Modified) d → is_state d of ≡ of kind.Modified
is_modified d of (inl e) = ap (λ (x : Datum). is_state x of) e
is_modified d of (inr e) = ap (λ (x : Datum). is_state x of) e

not_true : (b : Bool) → not b ≡ true → b ≡ false
not_true true h = absurd cc
not_true false h = refl

none_named : (a : Datum) (of : Of) → names_state a ≡ false → is_state a of ≡ true
none_named a of h =
    let p = or_parts (is_descriptor (type_of kind.Received) a) _ h in
    let q = or_parts (is_descriptor (type_of kind.Accepted) a) _ p.1 in
    let r = or_parts (is_descriptor (type_of kind.Rejected) a) _ q.1 in
    let s = or_parts (is_descriptor (type_of kind.Released) a) _ r.1 in
    let t = or_parts (is_descriptor (type_of kind.Modified) a) _ s.1 in
    rw (p.0, q.0, r.0, s.0, t.0) refl

other_is : (d : Datum) → is_other_state d ≡ true → admits Sort.State d ≡ true
other_is (number Kind.Null n) h = absurd cc
other_is (number _ n) h = refl
other_is (octets r os) h = refl
other_is (list ds) h = refl
other_is (map ds) h = refl
other_is (array c ds) h = refl
other_is (described a b) h = none_named a (fits b) (not_true (names_state a) h)

tell_state : Tell Sort.State
tell_state (Received n o) d f (desc, ds, is, k, e) =
    ap (admits Sort.State) e ∙ is_received desc (fits (list ds)) is ∙ told_rows (rows_of kind.Received) (tell_uint, (tell_ulong, tt)) (n, (o, tt)) ds refl k
tell_state Accepted d f (desc, ds, is, k, e) = ap (admits Sort.State) e ∙ is_accepted desc (fits (list ds)) is ∙ told_rows (rows_of kind.Accepted) tt tt ds refl k
tell_state (Rejected x) d f (desc, ds, is, k, e) =
    ap (admits Sort.State) e ∙ is_rejected desc (fits (list ds)) is ∙ told_rows (rows_of kind.Rejected) (tell_error, tt) (x, tt) ds (last_and _ f) k
tell_state Released d f (desc, ds, is, k, e) = ap (admits Sort.State) e ∙ is_released desc (fits (list ds)) is ∙ told_rows (rows_of kind.Released) tt tt ds refl k
tell_state (Modified u v w) d f (desc, ds, is, k, e) =
    ap (admits Sort.State) e ∙ is_modified desc (fits (list ds)) is ∙ told_rows (rows_of kind.Modified) (tell_boolean, (tell_boolean, (tell_any, tt))) (u, (v, (w, tt))) ds (last_and _ f) k
tell_state (Other v) d f e = other_is d (ap is_other_state e ∙ f)

tell : (s : Sort) → Tell s
tell Sort.Boolean = tell_boolean
tell Sort.Role = tell_role
tell (Sort.Ubyte most) = tell_ubyte most
tell Sort.Ushort = tell_ushort
tell Sort.Uint = tell_uint
tell Sort.Ulong = tell_ulong
tell Sort.Tag = tell_tag
tell Sort.Str = tell_str
tell Sort.Symbol = tell_symbol
tell Sort.Map = tell_map
tell Sort.Any = tell_any
tell Sort.Error = tell_error
tell Sort.State = tell_state

all_tell : (rows : List Row) → Tells rows
all_tell [] = tt
all_tell (Row.Must s ∷ rows) = (tell s, all_tell rows)
all_tell (Row.May s ∷ rows) = (tell s, all_tell rows)

pub told : (rows : List Row) (h : HeldAll rows) (ds : Data) → fair_all rows h ≡ true → FitInOrder (fields_by rows h) ds → are_rows ds rows ≡ true
told rows h ds f k = told_rows rows (all_tell rows) h ds f k
