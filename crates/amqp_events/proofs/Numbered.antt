-- The ids of deliveries against numbers that are counted without bound.
use Rattle.std.proofs.Common.{suc, ◌≡◌, ◌<◌, ◌≤◌, ℕ, ◌+◌, ◌⊎◌, ⊎_elim, inl, inr, eqb, Bool, true, false, cond, Option, None, Some, List, [], ◌∷◌, length, refl, sym, ap, ◌∙◌, subst, arith}
use Rattle.std.proofs.lemmas.Bool.{eqb-true}
use Rattle.amqp_flow.specs.Serial.{wire}
use Rattle.amqp_flow.proofs.SerialLaws.{wire-more, wire-wire}
use Rattle.amqp_events.specs.Event.{Item, Event, Begins, PassesOver}
use Rattle.amqp_events.specs.Since.{more}
use Rattle.amqp_events.specs.Numbers.{deliveries, is_expected, one_past, expected, Follows, IsNext, AreHeardInOrder, IsSent, AreSentInOrder}
use Rattle.amqp_events.proofs.Used.{uses, used}

-- a delivery that begins has the serial number after all ids that were used
abbrev pub AtNumber : ℕ → Event → List Event → Type 0
AtNumber first (Begins item unsettled) before = wire item.id ≡ wire (first + used before)
AtNumber first _ before = Unit {0}

abbrev pub AreNumbered : ℕ → List Event → Type 0
AreNumbered first [] = Unit {0}
AreNumbered first (e ∷ before) = AreNumbered first before × AtNumber first e before

-- # Deliveries that are sent

pub record Sent (first : ℕ) (past : List Event) : Type 0 where
  pub numbered : AreNumbered first past
  pub count : used past ≡ deliveries past

sent-one : (first : ℕ) (e : Event) (before : List Event) → IsSent first e before → Sent first before → Sent first (e ∷ before)
sent-one first (Begins item unsettled) before h s =
    record { numbered = (s.numbered, ap wire h ∙ (wire-wire (first + deliveries before) ∙ ap (λ n. wire (first + n)) (sym s.count))); count = ap (λ n. n + 1) s.count }
sent-one first (PassesOver id) before h s = absurd h
sent-one first _ before h s = record { numbered = (s.numbered, tt); count = s.count }

pub sent-numbered : (first : ℕ) (past : List Event) → AreSentInOrder first past → Sent first past
sent-numbered first [] h = record { numbered = tt; count = refl }
sent-numbered first (e ∷ before) h = sent-one first e before h.1 (sent-numbered first before h.0)

-- # Deliveries that are heard

abbrev pub Expects : ℕ → ℕ → Option ℕ → Type 0
Expects first n next = ((n ≡ 0) × (next ≡ None)) ⊎ ((0 < n) × (next ≡ Some (wire (first + n))))

pub record Heard (past : List Event) : Type 0 where
  pub first : ℕ
  pub numbered : AreNumbered first past
  pub expects : Expects first (used past) (expected past)

nothing : Heard []
nothing = record { first = 0; numbered = tt; expects = inl (refl, refl) }

none-used : (b : Bool) (n : ℕ) → more (cond b 1 0) n ≡ 0 → n ≡ 0
none-used true n h = absurd (omega (arith, h))
none-used false n h = h

begins-uses : (n : ℕ) → n + 1 ≡ 0 → ⊥
begins-uses n h = omega (arith, h)

-- where none was used, none has begun
any-first : (first : ℕ) (past : List Event) → used past ≡ 0 → AreNumbered first past
any-first first [] h = tt
any-first first (Begins item unsettled ∷ before) h = absurd (begins-uses (used before) h)
any-first first (PassesOver id ∷ before) h =
    (any-first first before (none-used (is_expected id (expected before)) (used before) h), tt)
any-first first (_ ∷ before) h = (any-first first before h, tt)

wire-and_none : (n : ℕ) → wire n ≡ wire (n + 0)
wire-and_none n = omega arith

first-begins : (item : Item) (unsettled : Bool) (before : List Event) → used before ≡ 0 → expected before ≡ None
    → Heard (Begins item unsettled ∷ before)
first-begins item unsettled before zero' none =
    record {
      first = item.id;
      numbered = (any-first item.id before zero', rw zero' (wire-and_none item.id));
      expects = inr (omega arith, rw zero' refl);
    }

next-begins : (item : Item) (unsettled : Bool) (before : List Event) (s : Heard before) → Follows item.id (expected before)
    → 0 < used before → expected before ≡ Some (wire (s.first + used before))
    → Heard (Begins item unsettled ∷ before)
next-begins item unsettled before s h some is =
    let same : item.id ≡ wire (s.first + used before) = subst (λ (x : Option ℕ). Follows item.id x) is h in
    record {
      first = s.first;
      numbered = (s.numbered, ap wire same ∙ wire-wire (s.first + used before));
      expects = inr (omega arith, rw same (ap (λ n. Some n) (wire-more s.first (used before))));
    }

passes : (first n : ℕ) (id next : Option ℕ) → Expects first n next
    → Expects first (more (cond (is_expected id next) 1 0) n) (one_past (cond (is_expected id next) id None) next)
passes first n None next h = h
passes first n (Some id) None h = h
passes first n (Some id) (Some next) h = by_test (eqb id next) refl
  where
    one-more : Expects first n (Some next) → id ≡ next → Expects first (n + 1) (Some (wire (id + 1)))
    one-more (inl a) same = absurd (let e : Some next ≡ None = a.1 in cc)
    one-more (inr a) same =
        let at : next ≡ wire (first + n) = (let e : Some next ≡ Some (wire (first + n)) = a.1 in cc) in
        inr (omega arith, rw (same, at) (ap (λ n. Some n) (wire-more first n)))

    by_test : (b : Bool) → eqb id next ≡ b → Expects first (more (cond b 1 0) n) (one_past (cond b (Some id) None) (Some next))
    by_test true e = one-more h (eqb-true id next e)
    by_test false e = h

heard-one : (e : Event) (before : List Event) → IsNext e before → Heard before → Heard (e ∷ before)
heard-one (Begins item unsettled) before h s =
    ⊎_elim (λ a. first-begins item unsettled before a.0 a.1) (λ a. next-begins item unsettled before s h a.0 a.1) s.expects
heard-one (PassesOver id) before h s =
    record { first = s.first; numbered = (s.numbered, tt); expects = passes s.first (used before) id (expected before) s.expects }
heard-one _ before h s = record { first = s.first; numbered = (s.numbered, tt); expects = s.expects }

pub heard-numbered : (past : List Event) → AreHeardInOrder past → Heard past
heard-numbered [] h = nothing
heard-numbered (e ∷ before) h = heard-one e before h.1 (heard-numbered before h.0)

-- an event uses at most one id
pub used-few : (past : List Event) → used past ≤ length past
used-few [] = omega arith
used-few (e ∷ before) = few (uses e (expected before)) (used before) (length before) (used-few before)
  where
    few : (b : Bool) (n m : ℕ) → n ≤ m → more (cond b 1 0) n ≤ suc m
    few true n m h = omega (arith, h)
    few false n m h = omega (arith, h)
