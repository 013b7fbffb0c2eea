-- What the fields of a composite are is told by their octets: two lists of fields that fit one list of data are the same, one after the other.
use Rattle.std.proofs.Common.{◌≡◌, ℕ, ◌⊎◌, inl, inr, Bool, true, false, not, List, [], ◌∷◌, Option, Some, None, refl, sym, ap, subst, ◌∙◌}
use Rattle.std.specs.Prelude.{IsTrue}
use Rattle.amqp_types.specs.declared.class.Kind.{Kind as Sort}
use Rattle.amqp_types.specs.declared.class.Kind.TheVariants as Kind
use Rattle.amqp_types.specs.declared.class.Run.{Run as Text}
use Rattle.amqp_types.specs.declared.class.Run.TheVariants as Run
use Rattle.amqp_types.specs.declared.value.Value.{Value}
use Rattle.amqp_types.specs.Codes.{class_of}
use Rattle.amqp_types.specs.Datum.{Datum, number, octets, list, map, described, Data, none, item, count_of}
use Rattle.amqp_types.specs.Grammar.{IsPart, IsBody, AreParts, number_of}
use Rattle.amqp_types.specs.View.{view, views_of_pairs}
use Rattle.amqp_performatives.specs.declared.bodies.Role.{Role}
use Rattle.amqp_performatives.specs.declared.bodies.Role.TheVariants.{Sender, Receiver}
use Rattle.amqp_performatives.specs.Part.{Part, Fields, value, composite, field, null, IsDescriptor, Fits, FitInOrder}
use Rattle.amqp_performatives.specs.Bodies.{boolean, ubyte, ushort, uint, ulong, binary, string, symbol, mapping, any, role, optional}
use Rattle.amqp_performatives.specs.Fair.{is_null, where_present, is_present}
use Rattle.amqp_decoder.specs.Borrowed.{value_of, value_pairs_of}
use Rattle.amqp_decoder.proofs.SeenValues.{list_parts, described_parts}
use Rattle.amqp_decoder.proofs.StateTypes.{differ, apart, untrue}
use Rattle.amqp_decoder.proofs.OneValue.{value_spelled, pairs_spelled}

abbrev pub IsSpelled : Datum → Type 0
IsSpelled d = (os : List ℕ) × IsPart None (IsBody d) os

abbrev pub AreSpelled : Data → Type 0
AreSpelled ds = (os : List ℕ) × AreParts ds None os

-- two of a type that fit one datum are the same
pub record Same {A : Type 0} (of : A → Part) (may : A → Bool) : Type 0 where
  pub one : (a b : A) (d : Datum) → IsSpelled d → IsTrue (may a) → IsTrue (may b) → Fits (of a) d → Fits (of b) d → a ≡ b

-- the same of a type of which none fits null
pub record Present {A : Type 0} (of : A → Part) (may : A → Bool) : Type 0 where
  pub same : Same of may
  pub there : (a : A) → IsTrue (may a) → Fits (of a) null → ⊥

abbrev pub every : {A : Type 0} → A → Bool
every a = true

null_body : IsPart None (IsBody null) (0x40 ∷ [])
unfolding class_of number_of
null_body = (refl, refl, refl, refl)

-- ---- a field that may be absent

pub optional_same : {A : Type 0} → (of : A → Part) → (may : A → Bool) → Present of may → Same (optional of) (where_present may)
optional_same {A} of may p = record { one = by }
  where
    by : (a b : Option A) (d : Datum) → IsSpelled d → IsTrue (where_present may a) → IsTrue (where_present may b) → Fits (optional of a) d → Fits (optional of b) d → a ≡ b
    by None None d s m n f g = refl
    by None (Some b) d s m n f g = absurd (p.there b n (subst (λ (x : Datum). Fits (of b) x) f g))
    by (Some a) None d s m n f g = absurd (p.there a m (subst (λ (x : Datum). Fits (of a) x) g f))
    by (Some a) (Some b) d s m n f g = ap Some (p.same.one a b d s m n f g)

plain_there : {A : Type 0} → (a : Option A) → IsTrue (where_present (λ (x : A). true) a)
plain_there None = refl
plain_there (Some a) = refl

optional_plain : {A : Type 0} → (of : A → Part) → Present of every → Same (optional of) every
optional_plain of p = let o = optional_same of every p in record { one = λ a b d s m n f g. o.one a b d s (plain_there a) (plain_there b) f g }

-- ---- the types

number_present : (k : Sort) → (Kind.Null ≡ k → ⊥) → Present (λ n. value (number k n)) every
number_present k h = record {
  same = record { one = λ a b d s m n f g. let e : number k a ≡ number k b = sym f ∙ g in cc };
  there = λ a m f. let e : null ≡ number k a = f in let q : Kind.Null ≡ k = cc in h q;
}

octets_present : (r : Text) → Present (λ os. value (octets r os)) every
octets_present r = record {
  same = record { one = λ a b d s m n f g. let e : octets r a ≡ octets r b = sym f ∙ g in cc };
  there = λ a m f. let e : null ≡ octets r a = f in absurd cc;
}

boolean_present : Present boolean every
boolean_present = record { same = record { one = by }; there = there }
  where
    by : (a b : Bool) (d : Datum) → IsSpelled d → IsTrue (every a) → IsTrue (every b) → Fits (boolean a) d → Fits (boolean b) d → a ≡ b
    by true true d s m n f g = refl
    by false false d s m n f g = refl
    by true false d s m n f g = let e : number Kind.Bool 1 ≡ number Kind.Bool 0 = sym f ∙ g in absurd cc
    by false true d s m n f g = let e : number Kind.Bool 0 ≡ number Kind.Bool 1 = sym f ∙ g in absurd cc

    there : (a : Bool) → IsTrue (every a) → Fits (boolean a) null → ⊥
    there true m f = let e : null ≡ number Kind.Bool 1 = f in absurd cc
    there false m f = let e : null ≡ number Kind.Bool 0 = f in absurd cc

pub role_same : Same role every
role_same = record { one = by }
  where
    by : (a b : Role) (d : Datum) → IsSpelled d → IsTrue (every a) → IsTrue (every b) → Fits (role a) d → Fits (role b) d → a ≡ b
    by Sender Sender d s m n f g = refl
    by Receiver Receiver d s m n f g = refl
    by Receiver Sender d s m n f g = let e : number Kind.Bool 1 ≡ number Kind.Bool 0 = sym f ∙ g in absurd cc
    by Sender Receiver d s m n f g = let e : number Kind.Bool 0 ≡ number Kind.Bool 1 = sym f ∙ g in absurd cc

spelled_as : (d e : Datum) (os : List ℕ) → d ≡ e → IsPart None (IsBody d) os → IsPart None (IsBody e) os
spelled_as d e os q h = subst (λ (x : Datum). IsPart None (IsBody x) os) q h

pub any_same : (may : Value → Bool) → Same any may
any_same may = record { one = λ a b d s m n f g. sym (value_spelled a s.0 (spelled_as d (view a) s.0 f s.1)) ∙ ap value_of (sym f ∙ g) ∙ value_spelled b s.0 (spelled_as d (view b) s.0 g s.1) }

any_present : Present any is_present
any_present = record { same = any_same is_present; there = λ a m f. let q : not (is_null (view a)) ≡ true = m in untrue (is_null (view a)) q (ap is_null (sym f)) }

mapping_present : Present mapping every
mapping_present = record {
  same = record {
    one = λ a b d s m n f g.
        let e : map (views_of_pairs a) ≡ map (views_of_pairs b) = sym f ∙ g in
        let same : views_of_pairs a ≡ views_of_pairs b = cc in
        sym (pairs_spelled a s.0 (spelled_as d (map (views_of_pairs a)) s.0 f s.1)) ∙ ap value_pairs_of same ∙ pairs_spelled b s.0 (spelled_as d (map (views_of_pairs b)) s.0 g s.1);
  };
  there = λ a m f. let e : null ≡ map (views_of_pairs a) = f in absurd cc;
}

uint_present : Present uint every
uint_present = number_present Kind.Uint (λ e. cc)

ulong_present : Present ulong every
ulong_present = number_present Kind.Ulong (λ e. cc)

pub uint_same : Same uint every
uint_same = uint_present.same

pub ulong_same : Same ulong every
ulong_same = ulong_present.same

pub string_same : Same string every
string_same = let p = octets_present Run.Str in p.same

pub symbol_same : Same symbol every
symbol_same = let p = octets_present Run.Symbol in p.same

pub optional_boolean_same : Same (optional boolean) every
optional_boolean_same = optional_plain boolean boolean_present

pub optional_ubyte_same : Same (optional ubyte) every
optional_ubyte_same = optional_plain ubyte (number_present Kind.Ubyte (λ e. cc))

pub optional_ushort_same : Same (optional ushort) every
optional_ushort_same = optional_plain ushort (number_present Kind.Ushort (λ e. cc))

pub optional_uint_same : Same (optional uint) every
optional_uint_same = optional_plain uint uint_present

pub optional_ulong_same : Same (optional ulong) every
optional_ulong_same = optional_plain ulong ulong_present

pub optional_binary_same : Same (optional binary) every
optional_binary_same = optional_plain binary (octets_present Run.Binary)

pub optional_string_same : Same (optional string) every
optional_string_same = optional_plain string (octets_present Run.Str)

pub optional_mapping_same : Same (optional mapping) every
optional_mapping_same = optional_plain mapping mapping_present

pub optional_any_same : Same (optional any) (where_present is_present)
optional_any_same = optional_same any is_present any_present

-- ---- fields in their order

-- two lists of fields that one list of data fits
pub record Both (fs gs : Fields) : Type 0 where
  pub values : Data
  pub spelled : AreSpelled values
  pub left : FitInOrder fs values
  pub right : FitInOrder gs values

at_end : {A : Type 0} → (of : A → Part) → (may : A → Bool) → Same of may → (a b : A) → (fs gs : Fields) (ds : Data) → IsTrue (may a) → IsTrue (may b) → AreSpelled ds → FitInOrder (field (of a) fs) ds → FitInOrder (field (of b) gs) ds → (a ≡ b) × Both fs gs
at_end of may same a b fs gs none m n s f g = (
  same.one a b null (0x40 ∷ [], null_body) m n (subst (λ (p : Part). Fits p null) (sym f.0) refl) (subst (λ (p : Part). Fits p null) (sym g.0) refl),
  record { values = none; spelled = s; left = f.1; right = g.1 },
)
at_end of may same a b fs gs (item d ds) m n s f g = (same.one a b d (s.1.0, s.1.2) m n f.0 g.0, record { values = ds; spelled = (s.1.1, s.1.3); left = f.1; right = g.1 })

-- the first of them are the same, and the others fit the rest
pub step : {A : Type 0} {of : A → Part} {may : A → Bool} → Same of may → (a b : A) → {fs gs : Fields} → IsTrue (may a) → IsTrue (may b) → Both (field (of a) fs) (field (of b) gs) → (a ≡ b) × Both fs gs
step {A} {of} {may} same a b {fs} {gs} m n w = at_end of may same a b fs gs w.values m n w.spelled w.left w.right

-- ---- a composite

none_of : (ds : Data) → count_of ds ≡ 0 → AreSpelled ds
none_of none h = ([], refl)
none_of (item d ds) h = absurd cc

items_spelled : (ds : Data) → IsSpelled (list ds) → AreSpelled ds
items_spelled ds ([], h) = absurd h
items_spelled ds (c ∷ os, h) = found (list_parts (class_of c) (count_of ds) (AreParts ds None) os h)
  where
    found : (count_of ds ≡ 0) ⊎ ((content : List ℕ) × AreParts ds None content) → AreSpelled ds
    found (inl e) = none_of ds e
    found (inr k) = k

described_spelled : (d v : Datum) → IsSpelled (described d v) → IsSpelled v
described_spelled d v ([], h) = absurd h
described_spelled d v (c ∷ os, h) = let p = described_parts (class_of c) (IsPart None (IsBody d)) (IsPart None (IsBody v)) os h in (p.b, p.second)

-- two composites that one datum fits
record Shared (s t : ℕ × List ℕ) (fs gs : Fields) : Type 0 where
  descriptor : Datum
  first : IsDescriptor s descriptor
  second : IsDescriptor t descriptor
  fields : Both fs gs

shared : (s t : ℕ × List ℕ) (fs gs : Fields) (d : Datum) → IsSpelled d → Fits (composite s fs) d → Fits (composite t gs) d → Shared s t fs gs
shared s t fs gs d w (p, ds, i, f, e) (q, es, j, g, k) =
    let same : described p (list ds) ≡ described q (list es) = sym e ∙ k in
    let one : p ≡ q = cc in
    let whole : ds ≡ es = cc in
    record {
      descriptor = p;
      first = i;
      second = subst (λ (x : Datum). IsDescriptor t x) (sym one) j;
      fields = record {
        values = ds;
        spelled = items_spelled ds (described_spelled p (list ds) (subst IsSpelled e w));
        left = f;
        right = subst (λ (x : Data). FitInOrder gs x) (sym whole) g;
      };
    }

pub both : (type : ℕ × List ℕ) (fs gs : Fields) (d : Datum) → IsSpelled d → Fits (composite type fs) d → Fits (composite type gs) d → Both fs gs
both type fs gs d w f g = let s = shared type type fs gs d w f g in s.fields

pub other_type : {G : Type 0} → (s t : ℕ × List ℕ) (fs gs : Fields) (d : Datum) → differ s t ≡ true → IsSpelled d → Fits (composite s fs) d → Fits (composite t gs) d → G
other_type s t fs gs d h w f g = let b = shared s t fs gs d w f g in absurd (apart s t b.descriptor h b.first b.second)

pub composite_there : (t : ℕ × List ℕ) (fs : Fields) → Fits (composite t fs) null → ⊥
composite_there t fs (p, ds, i, f, e) = let q : null ≡ described p (list ds) = e in absurd cc
