-- From what a check promises to a plan.
use Rattle.std.proofs.Common.{◌≡◌, ℕ, Bool, true, false, Option, Some, None, List, [], ◌∷◌, inl, refl, find, map, ⊎_elim, ◌≤◌, ◌+◌, ◌*◌, ◌^◌, ap, sym, arith, subst, ◌∙◌}
use Rattle.std.proofs.lemmas.Bool.{cases_Bool, eqb-true}
use Rattle.std.specs.List.{list_any}
use Rattle.amqp_rules.specs.View.{LinkView, has_number, SendingView, change_first}
use Rattle.amqp_rules.specs.Refusing.{first_refusal}
use Rattle.amqp_steps.specs.Plan.{IsExpectedNext, IsBegun, IsCounted, IsKept, IsShort, AreShortOn, view_of, next_id}
use Rattle.amqp_rules.specs.declared.refusal.Refusal.{Refusal}
use Rattle.amqp_rules.specs.Carry.{size_so_far}
use Rattle.amqp_steps.specs.declared.onlink.OnLink.{OnLink}
use Rattle.amqp_steps.specs.declared.plan.Session.{Session}
use Rattle.amqp_deliveries.specs.declared.change.Change.{Change}
use Rattle.amqp_steps.specs.Stores.{StoresView}
use Rattle.amqp_steps.specs.Taking.{IsTaken}

-- # What a table that refuses nothing tells, and what a found link is

pub row-free : {E : Type 0} (b : Bool) (e : E) (rows : List (Bool × E)) → first_refusal ((b, e) ∷ rows) ≡ None → (b ≡ false) × (first_refusal rows ≡ None)
row-free true e rows h = absurd (cc)
row-free false e rows h = (refl, h)

pub same : {A : Type 0} {x y : A} → ◌≡◌ {A = Option A} (Some x) (Some y) → x ≡ y
same h = cc

pub found-passes : {A : Type 0} (test : A → Bool) (xs : List A) (x : A) → find test xs ≡ Some x → test x ≡ true
found-passes test [] x h = absurd (cc)
found-passes test (y ∷ xs) x h =
    ⊎_elim
    (λ t. let s = same (rw t at h) in rw (← s) t)
    (λ t. found-passes test xs x (rw t at h))
    (cases_Bool (test y))

pub found-number : (k : ℕ) (links : List LinkView) (l : LinkView) → find (has_number k) links ≡ Some l → l.number ≡ k
found-number k links l h = eqb-true l.number k (found-passes (has_number k) links l h)

pub any-of : {A B : Type 0} (test : B → Bool) (f : A → B) (xs : List A) → list_any test (map f xs) ≡ list_any (λ x. test (f x)) xs
any-of test f [] = refl
any-of test f (x ∷ xs) = rw (any-of test f xs) refl

-- the expected id that stays
pub expects-same : (e : Option ℕ) → IsExpectedNext e e
expects-same None = tt
expects-same (Some n) = inl refl

-- # What a plan keeps

-- only what a change makes of the link that is found counts
pub change-alike : (test : LinkView → Bool) (f g : LinkView → LinkView) (links : List LinkView) (l : LinkView) → find test links ≡ Some l → f l ≡ g l → change_first test f links ≡ change_first test g links
change-alike test f g [] l h e = refl
change-alike test f g (m ∷ links) l h e =
    ⊎_elim
    (λ t. let s : m ≡ l = same (rw t at h) in let u : test l ≡ true = rw s at t in rw (s, u, e) refl)
    (λ t. rw t (ap (λ ls. m ∷ ls) (change-alike test f g links l (rw t at h) e)))
    (cases_Bool (test m))

-- what is unfinished on a link that is found is short
pub short-found : (steps : ℕ) (test : LinkView → Bool) (links : List LinkView) (l : LinkView) → AreShortOn steps links → find test links ≡ Some l → IsShort steps l.sending
short-found steps test [] l h e = absurd (cc)
short-found steps test (m ∷ links) l h e =
    ⊎_elim
    (λ t. let s : m ≡ l = same (rw t at e) in subst (λ (x : LinkView). IsShort steps x.sending) s h.0)
    (λ t. short-found steps test links l h.1 (rw t at e))
    (cases_Bool (test m))

-- and stays so with a step more
pub shorter : (steps n : ℕ) → n ≤ steps * 2 ^ 64 → n ≤ (steps + 1) * 2 ^ 64
shorter steps n h = omega (arith, h)

-- a step that begins nothing leaves the counts as they are
pub counted-still : (steps : ℕ) (s t : Session) (st : StoresView) (change : Change) → IsBegun (view_of steps s st) change t → IsKept steps s st → t.windows.sent ≡ s.windows.sent → t.windows.first ≡ s.windows.first → t.deliveries ≡ s.deliveries → t.expected ≡ s.expected
    → IsCounted (view_of steps s st) change t
counted-still steps s t st change begins k sent first deliveries expected =
    let few : s.windows.sent ≤ steps = k.sent in
    let begun : s.deliveries ≤ steps = k.deliveries in
    record {
      sent = omega (arith, few, sent);
      deliveries = omega (arith, begun, deliveries);
      ours = inl (λ i. next_id (record s { deliveries = deliveries i; windows = record s.windows { first = first i } }));
      theirs = subst (λ (e : Option ℕ). IsExpectedNext s.expected e) (sym expected) (expects-same s.expected);
      begun = begins;
    }

-- what is unfinished on a link on which an operation is taken is short
pub taken-short : (steps : ℕ) (s : Session) (st : StoresView) (link : ℕ) (rows : LinkView → List (Bool × Refusal)) (change : LinkView → LinkView) (o : OnLink) → IsKept steps s st
    → IsTaken (view_of steps s st) link rows change o → ((l : LinkView) → (change l).sending ≡ l.sending) → IsShort (steps + 1) o.marks.sending
taken-short steps s st link rows change o k t keeps =
    let e : o.marks.sending ≡ t.on.sending = ap (λ l. l.sending) t.marks ∙ keeps t.on in
    subst (λ (x : Option SendingView). IsShort (steps + 1) x) (sym e) (shorter steps (size_so_far t.on.sending) (short-found steps (has_number link) st.links.list t.on k.short t.found))
