-- A field that is a delivery state.
use Rattle.std.proofs.Common.{◌≡◌, ℕ, ◌+◌, ◌≤◌, ◌⊎◌, inl, inr, true, not, ◌&&◌, List, ◌∷◌, ◌++◌, take, drop, sym, subst, ◌∙◌}
use Rattle.std.specs.Prelude.{IsTrue}
use Rattle.amqp_types.specs.Datum.{Datum}
use Rattle.amqp_types.specs.declared.value.Value.{Value}
use Rattle.amqp_types.specs.Grammar.{SpellsWithin, Spells}
use Rattle.amqp_types.specs.View.{view}
use Rattle.amqp_performatives.specs.declared.state.DeliveryState.{DeliveryState}
use Rattle.amqp_performatives.specs.declared.state.DeliveryState.TheVariants.{Other}
use Rattle.amqp_performatives.specs.Part.{Part, composite, Fits, IsDescriptor}
use Rattle.amqp_performatives.specs.Bodies.{any, state}
use Rattle.amqp_performatives.specs.Fair.{is_null, is_fair_state, is_other_state, names_state}
use Rattle.amqp_decoder.specs.Borrowed.{datum_in, value_in}
use Rattle.amqp_decoder.specs.declared.states.StateKind.{StateKind}
use Rattle.amqp_decoder.specs.Opening.{DescribedBy, NoStateNamed, SpellsPart, Opens, NotOpened}
use Rattle.amqp_decoder.specs.Reading.{AreFields, Takes, Misses, MissesAbsent, Passes}
use Rattle.amqp_decoder.specs.States.{type_of, is_of, state_fields}
use Rattle.amqp_decoder.proofs.Conjunctions.{and_left, and_right, and_both}
use Rattle.amqp_decoder.proofs.DescribedLists.{front_part, described_by}
use Rattle.amqp_decoder.proofs.FirstField.{passes, pass_found, pass_only, front_of, value_seen, value_present}
use Rattle.amqp_decoder.proofs.OfKind.{kind_part, kind_or_other, same_kind, kind_named, other_fair}
use Rattle.amqp_decoder.proofs.StateTypes.{untrue}

abbrev KindOrOther : DeliveryState → Type 0
KindOrOther s = ((k : StateKind) × (is_of k s ≡ true)) ⊎ ((v : Value) × (s ≡ Other v))

-- ---- one of the five

pub state_takes : (k : StateKind) (depth left : ℕ) (os : List ℕ) (D : Datum) (inner count : ℕ) (items : List ℕ) (used : ℕ) (s : DeliveryState) (depth' left' : ℕ) (os' : List ℕ) → Opens depth os D inner count items used → IsDescriptor (type_of k) D → IsTrue (is_of k s && is_fair_state s) × AreFields inner count (state_fields s) items → (depth' ≡ depth) × (left' + 1 ≡ left) × (os' ≡ drop used os) → Takes state is_fair_state depth left os s depth' left' os'
state_takes k depth left os D inner count items used s depth' left' os' o is h e =
    let f = o.found (type_of k) (state_fields s) is h.1 in
    let p = passes depth left os f.datum used depth' left' os' f.spelled e in
    let fits : Fits (state s) f.datum = subst (λ (part : Part). Fits part f.datum) (sym (kind_part k s (and_left (is_of k s) (is_fair_state s) h.0))) f.fits in
    record {
      fair = and_right (is_of k s) (is_fair_state s) h.0;
      same_depth = e.0;
      found = λ others g. pass_found depth left os (take used os) f.datum depth' left' os' p (state s) fits others g;
      only = λ c others _ g. (pass_only depth left os (take used os) f.datum depth' left' os' p (state c) others g).1;
    }

-- a value with the descriptor of one of the five is no other state
not_other : (k : StateKind) (depth : ℕ) (os x rest : List ℕ) (D : Datum) (v : Value) → DescribedBy depth os D → IsDescriptor (type_of k) D → is_other_state (view v) ≡ true → SpellsPart depth (any v) x → os ≡ x ++ rest → ⊥
not_other k depth os x rest D v named is fair p e =
    let w = named p.datum x rest p.spelled e in
    let n : not (names_state D) ≡ true = subst (λ (d : Datum). is_other_state d ≡ true) (sym p.fits ∙ w.1) fair in
    untrue (names_state D) n (kind_named k D is)

of_kind : (depth : ℕ) (s : DeliveryState) (x : List ℕ) (j : StateKind) → is_of j s ≡ true → SpellsPart depth (state s) x → SpellsPart depth (composite (type_of j) (state_fields s)) x
of_kind depth s x j h p = subst (λ (part : Part). SpellsPart depth part x) (kind_part j s h) p

unfit_as : (k : StateKind) (depth : ℕ) (os : List ℕ) (D : Datum) (inner count : ℕ) (items : List ℕ) (used : ℕ) → Opens depth os D inner count items used → IsDescriptor (type_of k) D → ((s : DeliveryState) → IsTrue (is_of k s && is_fair_state s) → AreFields inner count (state_fields s) items → ⊥) → (s : DeliveryState) (x rest : List ℕ) → is_fair_state s ≡ true → SpellsPart depth (state s) x → os ≡ x ++ rest → KindOrOther s → ⊥
unfit_as k depth os D inner count items used o is unfit s x rest fair p e (inl j) =
    let f = o.only (type_of j.0) (state_fields s) x rest (of_kind depth s x j.0 j.1 p) e in
    let of_k : is_of k s ≡ true = subst (λ (i : StateKind). is_of i s ≡ true) (same_kind j.0 k D f.0 is) j.1 in
    unfit s (and_both (is_of k s) (is_fair_state s) of_k fair) f.1
unfit_as k depth os D inner count items used o is unfit s x rest fair p e (inr v) =
    not_other k depth os x rest D v.0 o.named is
    (subst (λ (t : DeliveryState). is_fair_state t ≡ true) v.1 fair)
    (subst (λ (t : DeliveryState). SpellsPart depth (state t) x) v.1 p) e

pub state_unfit : (k : StateKind) (depth left : ℕ) (os : List ℕ) (D : Datum) (inner count : ℕ) (items : List ℕ) (used : ℕ) → Opens depth os D inner count items used → IsDescriptor (type_of k) D → 1 ≤ left → ((s : DeliveryState) → IsTrue (is_of k s && is_fair_state s) → AreFields inner count (state_fields s) items → ⊥) → Misses state is_fair_state depth left os
state_unfit k depth left os D inner count items used o is some unfit s others fair h =
    let x = front_part depth left os (state s) others some h in
    unfit_as k depth os D inner count items used o is unfit s x.0 x.1 fair x.2 x.3 (kind_or_other s)

missing_as : (k : StateKind) (depth : ℕ) (os : List ℕ) (D : Datum) → NotOpened depth os → DescribedBy depth os D → IsDescriptor (type_of k) D → (s : DeliveryState) (x rest : List ℕ) → is_fair_state s ≡ true → SpellsPart depth (state s) x → os ≡ x ++ rest → KindOrOther s → ⊥
missing_as k depth os D m named is s x rest fair p e (inl j) = m (type_of j.0) (state_fields s) x rest (of_kind depth s x j.0 j.1 p) e
missing_as k depth os D m named is s x rest fair p e (inr v) =
    not_other k depth os x rest D v.0 named is
    (subst (λ (t : DeliveryState). is_fair_state t ≡ true) v.1 fair)
    (subst (λ (t : DeliveryState). SpellsPart depth (state t) x) v.1 p) e

pub state_missing : (k : StateKind) (depth left start : ℕ) (os x : List ℕ) (D : Datum) → 3 ≤ depth → depth ≤ 32 → 1 ≤ left → NotOpened depth os → Spells D x → take start os ≡ 0 ∷ x → IsDescriptor (type_of k) D → Misses state is_fair_state depth left os
state_missing k depth left start os x D deep low some m spelled t is s others fair h =
    let y = front_part depth left os (state s) others some h in
    missing_as k depth os D m (described_by depth start os x D deep low spelled t) is s y.0 y.1 fair y.2 y.3 (kind_or_other s)

-- ---- another

pub other_takes : (depth left : ℕ) (os text : List ℕ) (depth' left' : ℕ) (os' : List ℕ) → depth ≤ 32 → MissesAbsent left os → NoStateNamed depth os → Passes depth left os text (datum_in text) depth' left' os' → Takes state is_fair_state depth left os (Other (value_in text)) depth' left' os'
other_takes depth left os text depth' left' os' low m unnamed p =
    let seen = value_seen depth left os text depth' left' os' p in
    let present : not (is_null (datum_in text)) ≡ true = subst (λ (w : Datum). not (is_null w) ≡ true) seen (value_present depth left os text depth' left' os' low m p) in
    let other = other_fair (datum_in text) present (λ d v is. unnamed d v text os' (subst (λ (w : Datum). SpellsWithin depth w text) is p.spelled) p.parts) in
    record {
      fair = subst (λ (w : Datum). is_other_state w ≡ true) (sym seen) other;
      same_depth = p.same_depth;
      found = λ others h. pass_found depth left os text (datum_in text) depth' left' os' p (any (value_in text)) (sym seen) others h;
      only = λ b others _ h. (pass_only depth left os text (datum_in text) depth' left' os' p (state b) others h).1;
    }

pub other_misses : (depth left : ℕ) (os : List ℕ) → 1 ≤ left → ((v : Datum) (x rest : List ℕ) → 1 ≤ left → SpellsWithin depth v x → os ≡ x ++ rest → ⊥) → Misses state is_fair_state depth left os
other_misses depth left os some nothing b others fair h =
    let x = front_of depth left os (state b) others some h in
    nothing x.0 x.1 x.2 some x.3 x.5
