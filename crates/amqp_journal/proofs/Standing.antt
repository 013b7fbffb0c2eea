-- An entry that was not forgotten stands behind those that were.
use Rattle.std.proofs.Common.{◌≡◌, ◌<◌, ◌≤◌, ◌-◌, ◌↔◌, ℕ, zero, suc, Bool, false, Option, None, Some, List, [], ◌∷◌, ◌++◌, length, get_or, refl, sym, ap, ◌∙◌, subst, arith}
use Rattle.std.specs.Prelude.{IsTrue, slice_get}
use Rattle.amqp_rules.specs.declared.op.Op.{Op}
use Rattle.amqp_laws.specs.declared.entry.Entry.{Entry}
use Rattle.amqp_laws.specs.declared.entry.Step.TheVariants.{Own}
use Rattle.amqp_journal.specs.Log.{Log}
use Rattle.amqp_journal.specs.Units.{Stands, given_link, given_id}
use Rattle.amqp_journal.proofs.Placing.{front}

at-past : (gone journal : List Entry) (place : ℕ) → length gone ≤ place → slice_get (gone ++ journal) place ≡ slice_get journal (place - length gone)
at-past [] journal place h = let same : place ≡ place - 0 = omega arith in ap (slice_get journal) same
at-past (g ∷ gone) journal zero h = absurd (omega (arith, h))
at-past (g ∷ gone) journal (suc place) h =
    let same : place - length gone ≡ suc place - length (g ∷ gone) = omega arith in
    at-past gone journal place (omega (arith, h)) ∙ ap (slice_get journal) same

none-past : (xs : List Entry) (n : ℕ) → length xs ≤ n → slice_get xs n ≡ None
none-past [] n h = refl
none-past (x ∷ xs) zero h = absurd (omega (arith, h))
none-past (x ∷ xs) (suc n) h = none-past xs n (omega (arith, h))

-- what a read of the kept entries gives
pub is-there : (xs ys : List Entry) (n m : ℕ) (e : Entry) → xs ≡ ys → n ≡ m → n < length xs → e ≡ get_or xs n e → slice_get ys m ≡ Some e
is-there xs ys n m e p q h g = sym (λ i. slice_get (p i) (q i)) ∙ (front xs n e h).2 ∙ ap (λ x. Some x) (sym g)

pub is-past : (xs ys : List Entry) (n m : ℕ) → xs ≡ ys → n ≡ m → length xs ≤ n → slice_get ys m ≡ None
is-past xs ys n m p q h = sym (λ i. slice_get (p i) (q i)) ∙ none-past xs n h

abbrev pub Is : Op → Option ℕ → Option ℕ → Entry → Type 0
Is op link id e = (e.step ≡ Own op) × (given_link e.reply.given ≡ link) × (given_id e.reply.given ≡ id)

-- so the receipt stands exactly where that entry is the operation's
pub stands-some : (l : Log) (gone journal : List Entry) (place : ℕ) (e : Entry) (op : Op) (link id : Option ℕ) (b : Bool) → l.journal ≡ gone ++ journal → l.forgotten ≡ length gone → length gone ≤ place
    → slice_get journal (place - length gone) ≡ Some e → IsTrue b ↔ Is op link id e → IsTrue b ↔ (l.forgotten ≤ place) × Stands l op place link id
stands-some l gone journal place e op link id b j f h found s =
    let here : slice_get l.journal place ≡ Some e = ap (λ xs. slice_get xs place) j ∙ at-past gone journal place h ∙ found in
    let kept : l.forgotten ≤ place = omega (arith, f, h) in
    (λ t. let i = s.0 t in (kept, (e, here, i.0, i.1, i.2)), λ x. by x.1.0 (sym here ∙ x.1.1) (x.1.2, x.1.3, x.1.4))
  where
    by : (y : Entry) → Some e ≡ Some y → Is op link id y → IsTrue b
    by y q is = let same : y ≡ e = cc in s.1 (subst (Is op link id) same is)

pub stands-none : (l : Log) (gone journal : List Entry) (place : ℕ) (op : Op) (link id : Option ℕ) → l.journal ≡ gone ++ journal → length gone ≤ place → slice_get journal (place - length gone) ≡ None
    → IsTrue false ↔ (l.forgotten ≤ place) × Stands l op place link id
stands-none l gone journal place op link id j h none =
    let here : slice_get l.journal place ≡ None = ap (λ xs. slice_get xs place) j ∙ at-past gone journal place h ∙ none in
    (λ t. never t, λ x. by x.1.0 (sym here ∙ x.1.1))
  where
    never : IsTrue false → (l.forgotten ≤ place) × Stands l op place link id
    never t = absurd (cc)

    by : (y : Entry) → None ≡ Some y → IsTrue false
    by y q = absurd (cc)
