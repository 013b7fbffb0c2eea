-- What a frame's contents determine: a performative's octets, and whether it is a transfer.
use Rattle.std.proofs.Common.{◌≡◌, ◌≢◌, ◌≤◌, ◌<◌, ◌+◌, ◌⊎◌, Bool, true, false, IsTrue, Option, Some, None, List, [], ◌∷◌, ◌++◌, length, refl, sym, ap, ◌∙◌, subst, inl, inr, arith, length-append}
use Rattle.amqp_types.specs.declared.class.Kind.TheVariants as Kind
use Rattle.amqp_types.specs.declared.class.Run.TheVariants as Run
use Rattle.amqp_types.specs.Datum.{Datum, number, octets, list, described}
use Rattle.amqp_types.specs.Grammar.{Spells}
use Rattle.amqp_types.proofs.Laws.{one_spelling}
use Rattle.amqp_performatives.specs.declared.performative.Performative.{Performative}
use Rattle.amqp_performatives.specs.declared.performative.Performative.TheVariants.{Open, Begin, Attach, Flow, Transfer, Disposition, Detach, End, Close}
use Rattle.amqp_performatives.specs.Part.{Fits, IsDescriptor}
use Rattle.amqp_performatives.specs.Bodies.{part_of, descriptor_of}
use Rattle.amqp_performatives.specs.Fair.{is_descriptor}
use Rattle.amqp_frames.specs.Framing.{is_transfer, MayFollow, AreContents}
use Rattle.amqp_performatives.specs.Spelling.{IsPerformative}
use Rattle.std.specs.Prelude.{codes, ◌==◌, ◌||◌}
use Rattle.std.proofs.lemmas.Bool.{eqb-true}
use Rattle.std.specs.Option.{MatchOption, option_eq}
use Rattle.std.proofs.Common.{ℕ, zero, suc, ◌-◌, take, drop, max, eqb, eq-eqb, Bor, length-drop, append_assoc}
use Rattle.std.proofs.lemmas.List.{take-append-drop, take_all, length-take-le}
use Rattle.amqp_types.specs.declared.class.Class.{Class}
use Rattle.amqp_types.specs.declared.heads.Descriptor.{Descriptor}
use Rattle.amqp_types.specs.declared.heads.Descriptor.TheVariants as heads
use Rattle.amqp_types.specs.Heads as Heads
use Rattle.amqp_types.specs.Codes.{table, class_of}
use Rattle.amqp_types.specs.Grammar.{SpellsWithin, BeginsWithValue, IsPart, IsBody, IsDescribedBody, Then}
use Rattle.amqp_types.specs.Datum.{depth_of}
use Rattle.amqp_types.proofs.Fronts.{class_listed, is_code}

-- the descriptor of a transfer
abbrev pub names_transfer : Datum → Bool
names_transfer d = is_descriptor (0x14, codes "amqp:transfer:list") d

named : (p : Performative) (d : Datum) (b : Bool) → names_transfer (number Kind.Ulong (descriptor_of p).0) ≡ b → names_transfer (octets Run.Symbol (descriptor_of p).1) ≡ b → IsDescriptor (descriptor_of p) d → names_transfer d ≡ b
named p d b e k (inl h) = ap names_transfer h ∙ e
named p d b e k (inr h) = ap names_transfer h ∙ k

transfer_named : (p : Performative) (d : Datum) → IsDescriptor (descriptor_of p) d → names_transfer d ≡ is_transfer p
transfer_named (Open b) d h = named (Open b) d false refl refl h
transfer_named (Begin b) d h = named (Begin b) d false refl refl h
transfer_named (Attach b) d h = named (Attach b) d false refl refl h
transfer_named (Flow b) d h = named (Flow b) d false refl refl h
transfer_named (Transfer b) d h = named (Transfer b) d true refl refl h
transfer_named (Disposition b) d h = named (Disposition b) d false refl refl h
transfer_named (Detach b) d h = named (Detach b) d false refl refl h
transfer_named (End b) d h = named (End b) d false refl refl h
transfer_named (Close b) d h = named (Close b) d false refl refl h

same_descriptor : (a b : Datum) (v w : Datum) → described a v ≡ described b w → a ≡ b
same_descriptor a b v w e = cc

-- two performatives that one value is are both transfers or neither is
same_kind : (p q : Performative) (d : Datum) → Fits (part_of p) d → Fits (part_of q) d → is_transfer p ≡ is_transfer q
same_kind p q d h k =
    let e = same_descriptor h.0 k.0 (list h.1) (list k.1) (sym h.4 ∙ k.4) in
    sym (transfer_named p h.0 h.2) ∙ ap names_transfer e ∙ transfer_named q k.0 k.2

-- octets begin with the spelling of at most one performative's value
pub one_front : (p q : Performative) (x y a b : List ℕ) → IsPerformative p x → IsPerformative q y → x ++ a ≡ y ++ b → (is_transfer p ≡ is_transfer q) × (x ≡ y)
one_front p q x y a b h k e =
    let s = one_spelling h.datum k.datum x y a b h.spelled k.spelled e in
    (same_kind p q k.datum (subst (λ (d : Datum). Fits (part_of p) d) s.0 h.fits) k.fits, s.1)

same_rest : (x a b : List ℕ) → x ++ a ≡ x ++ b → a ≡ b
same_rest [] a b e = e
same_rest (t ∷ x) a b e = same_rest x a b cc

follows : (t : Bool) (a b : List ℕ) → t ≡ false → a ≡ b → b ≢ [] → (IsTrue t ⊎ (a ≡ [])) → ⊥
follows t a b e k n (inl h) = absurd cc
follows t a b e k n (inr h) = n (sym k ∙ h)

pub empty : (x : List ℕ) → length x ≡ 0 → x ≡ []
empty [] e = refl
empty (a ∷ x) e = absurd (omega arith)

-- octets after a performative that is no transfer are no contents
pub none_follow : (p : Performative) (x rest : List ℕ) → IsPerformative p x → is_transfer p ≡ false → rest ≢ [] → (o : Option Performative) (payload : List ℕ) → AreContents o payload (x ++ rest) → ⊥
none_follow p x rest h t n None payload k = n (let e : length (x ++ rest) ≡ 0 = ap length k.1 in empty rest (omega (arith, length-append x rest)))
none_follow p x rest h t n (Some q) payload k =
    let s = one_front p q x k.0 rest payload h k.1 k.3 in
    let e : rest ≡ payload = same_rest x rest payload (k.3 ∙ ap (λ (y : List ℕ). y ++ payload) (sym s.1)) in
    follows (is_transfer q) payload rest (sym s.0 ∙ t) (sym e) n k.2

-- ---- what is read of the contents

not_zero : (n : ℕ) → false ≡ (n == 0) → 0 < n
not_zero zero e = absurd cc
not_zero (suc n) e = omega arith

tail : (x : List ℕ) (n : ℕ) → take (length x - n) (drop n x) ≡ drop n x
tail x n = take_all (length x - n) (drop n x) (omega (arith, length-drop n x))

pub bad_rest : (p : Performative) (x : List ℕ) (size : ℕ) → IsPerformative p (take size x) → false ≡ is_transfer p → false ≡ (length (take (length x - size) (drop size x)) == 0)
    → (o : Option Performative) (payload : List ℕ) → AreContents o payload x → ⊥
bad_rest p x size h t n o payload k =
    let some : drop size x ≡ [] → ⊥ = λ e. let z : length (take (length x - size) (drop size x)) ≡ 0 = ap length (tail x size ∙ e) in let m = not_zero _ n in omega arith in
    none_follow p (take size x) (drop size x) h (sym t) some o payload (subst (λ (y : List ℕ). AreContents o payload y) (sym (take-append-drop size x)) k)

never : IsTrue false → ⊥
never h = absurd cc

is_true : (b : Bool) → true ≡ b → IsTrue b
is_true b e = sym e

pub refused_payload : (p : Performative) (x : List ℕ) (size : ℕ) → IsPerformative p (take size x) → true ≡ is_transfer p → (o : Option Performative) × (payload : List ℕ) × AreContents o payload x
refused_payload p x size h t = (Some p, drop size x, (take size x, h, inl (is_true (is_transfer p) t), sym (take-append-drop size x)))

some_octet : (x : List ℕ) → false ≡ (length x == 0) → x ≡ [] → ⊥
some_octet x n e = let m = not_zero _ n in let z : length x ≡ 0 = ap length e in omega arith

pub none_in : (x : List ℕ) → 0 < length x → ((p : Performative) (y rest : List ℕ) → IsPerformative p y → x ≡ y ++ rest → ⊥) → (o : Option Performative) (payload : List ℕ) → AreContents o payload x → ⊥
none_in x n none None payload k = let z : length x ≡ 0 = ap length k.1 in absurd (omega arith)
none_in x n none (Some q) payload k = none q k.0 payload k.1 k.3

pub none_there : (x : List ℕ) → false ≡ (length x == 0) → ((p : Performative) (y rest : List ℕ) → IsPerformative p y → x ≡ y ++ rest → ⊥) → (o : Option Performative) (payload : List ℕ) → AreContents o payload x → ⊥
none_there x n none None payload k = some_octet x n k.1
none_there x n none (Some q) payload k = none q k.0 payload k.1 k.3

pub may_not : (x : List ℕ) → false ≡ (length x == 0) → ((p : Performative) (y rest : List ℕ) → IsPerformative p y → x ≡ y ++ rest → (IsTrue false → MayFollow rest p) × (MayFollow rest p → IsTrue false)) → (o : Option Performative) (payload : List ℕ) → AreContents o payload x → ⊥
may_not x n answer None payload k = some_octet x n k.1
may_not x n answer (Some q) payload k = never ((answer q k.0 payload k.1 k.3).1 k.2)

-- ---- the first octets of a performative

abbrev is_described : Class → Bool
is_described Class.Described = true
is_described _ = false

described_body : (class : Class) (P Q : List ℕ → Type 0) (os : List ℕ) → IsDescribedBody class P Q os → (is_described class ≡ true) × Then P Q os
described_body Class.Described P Q os h = (refl, h)
described_body _ P Q os h = absurd h

-- only the octet 00 stands before a descriptor
or_false : (b : Bool) → (b || false) ≡ true → b ≡ true
or_false true e = refl
or_false false e = e

only_zero : (c : ℕ) → is_code (0 ∷ []) c ≡ true → c ≡ 0
only_zero c e = eqb-true c 0 (or_false (eqb c 0) e)

code_zero : (c : ℕ) → is_described (class_of c) ≡ true → c ≡ 0
unfolding class_of
code_zero c h = only_zero c (class_listed is_described refl table c h)

record Head (p : Performative) (x : List ℕ) : Type 0 where
  descriptor : Datum
  front : List ℕ
  back : List ℕ
  spelled : Spells descriptor front
  of : IsDescriptor (descriptor_of p) descriptor
  parts : x ≡ 0 ∷ (front ++ back)

described_parts : (d v : Datum) (x : List ℕ) → Spells (described d v) x → (a b : List ℕ) × Spells d a × (x ≡ 0 ∷ (a ++ b))
described_parts d v [] s = absurd s.0
described_parts d v (c ∷ os) s =
    let t = described_body (class_of c) (IsPart None (IsBody d)) (IsPart None (IsBody v)) os s.0 in
    let zero_first : c ≡ 0 = code_zero c t.0 in
    let deep : max (depth_of d) (depth_of v) + 1 ≤ 32 = omega (arith, s.1) in
    (t.1.0, t.1.1, (t.1.2, omega arith), ap (λ (y : List ℕ). c ∷ y) t.1.4 ∙ ap (λ (m : ℕ). m ∷ (t.1.0 ++ t.1.1)) zero_first)

head_of : (p : Performative) (x : List ℕ) → IsPerformative p x → Head p x
head_of p x h =
    let t = described_parts h.fits.0 (list h.fits.1) x (subst (λ (d : Datum). Spells d x) h.fits.4 h.spelled) in
    record { descriptor = h.fits.0; front = t.0; back = t.1; spelled = t.2; of = h.fits.2; parts = t.3 }

rest_same : (a b : ℕ) (x y : List ℕ) → a ∷ x ≡ b ∷ y → x ≡ y
rest_same a b x y e = cc

pub named_front : (p : Performative) (x rest os : List ℕ) (found : Descriptor) (used : ℕ) → Heads.IsDescriptor os (Some (found, used)) → IsPerformative p x → os ≡ x ++ rest → names_transfer (Heads.datum_of found) ≡ is_transfer p
named_front p x rest os found used (n, y, s, t) h e =
    let head = head_of p x h in
    let k : 0 ∷ (y ++ drop used os) ≡ 0 ∷ (head.front ++ (head.back ++ rest)) =
    ap (λ (z : List ℕ). z ++ drop used os) (sym t) ∙ take-append-drop used os ∙ e ∙ ap (λ (z : List ℕ). z ++ rest) head.parts ∙ ap (λ (z : List ℕ). 0 ∷ z) (append_assoc head.front head.back rest) in
    let same = one_spelling (Heads.datum_of found) head.descriptor y head.front (drop used os) (head.back ++ rest) s head.spelled (rest_same 0 0 _ _ k) in
    ap names_transfer same.0 ∙ transfer_named p head.descriptor head.of

none_of : (os : Bor (List ℕ)) (d : Datum) (a b : List ℕ) (type : ℕ × List ℕ) → Heads.IsDescriptor os.now None → Spells d a → IsDescriptor type d → os.now ≡ (0 ∷ a) ++ b → ⊥
none_of os d a b type none s (inl h) e = none (heads.Number type.0) a b (subst (λ (w : Datum). Spells w a) h s) e
none_of os d a b type none s (inr h) e = none (heads.Name (record os { now = type.1 })) a b (subst (λ (w : Datum). Spells w a) h s) e

pub none_named : (p : Performative) (x rest : List ℕ) (os : Bor (List ℕ)) → Heads.IsDescriptor os.now None → IsPerformative p x → os.now ≡ x ++ rest → ⊥
none_named p x rest os none h e =
    let head = head_of p x h in
    let parts : os.now ≡ (0 ∷ head.front) ++ (head.back ++ rest) = e ∙ ap (λ (z : List ℕ). z ++ rest) head.parts ∙ ap (λ (z : List ℕ). 0 ∷ z) (append_assoc head.front head.back rest) in
    none_of os head.descriptor head.front (head.back ++ rest) (descriptor_of p) none head.spelled head.of parts

-- ---- what may follow

pub transfer_follows : (b t : Bool) (rest : List ℕ) → b ≡ true → b ≡ t → (IsTrue b → IsTrue t ⊎ (rest ≡ [])) × (IsTrue t ⊎ (rest ≡ []) → IsTrue b)
transfer_follows b t rest e k = (λ _. inl (is_true t (sym e ∙ k)), λ _. is_true b (sym e))

is_used : (used all : ℕ) (b : Bool) → b ≡ eqb used all → IsTrue b → used ≡ all
is_used used all b e h = eqb-true used all (sym e ∙ h)

nothing_left : (used all : ℕ) (b : Bool) → b ≡ eqb used all → (t : Bool) (rest : List ℕ) → false ≡ t → (IsTrue t ⊎ (rest ≡ [])) → (length rest ≡ 0 → used ≡ all) → IsTrue b
nothing_left used all b e t rest f (inl h) k = absurd (never (subst (λ (v : Bool). IsTrue v) (sym f) h))
nothing_left used all b e t rest f (inr h) k = is_true b (sym (e ∙ eq-eqb used all (k (ap length h))))

pub nothing_follows : (p : Performative) (x rest os : List ℕ) (b : Bool) (skipped : Option ℕ) → false ≡ is_transfer p → b ≡ option_eq eqb skipped (Some (length os))
    → MatchOption skipped (BeginsWithValue 32 os → ⊥) (λ used. (used ≤ length os) × (v : Datum) × SpellsWithin 32 v (take used os)) → IsPerformative p x → os ≡ x ++ rest
    → (IsTrue b → MayFollow rest p) × (MayFollow rest p → IsTrue b)
nothing_follows p x rest os b None t e skip h k = absurd (skip (h.datum, x, rest, h.spelled, k))
nothing_follows p x rest os b (Some used) t e (n, v, s) h k =
    let same = one_spelling v h.datum (take used os) x (drop used os) rest s h.spelled (take-append-drop used os ∙ k) in
    let at : used ≡ length x = sym (length-take-le used os n) ∙ ap length same.1 in
    let all : length os ≡ length x + length rest = ap length k ∙ length-append x rest in
    (λ whole. inr (empty rest (let w = is_used used (length os) b e whole in omega arith)), λ may. nothing_left used (length os) b e (is_transfer p) rest t may (λ z. omega arith))
