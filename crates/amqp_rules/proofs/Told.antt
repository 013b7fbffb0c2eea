-- Links stay told apart where one is changed, made or removed.
use Rattle.std.proofs.Common.{◌≡◌, ◌≤◌, ℕ, ◌+◌, Bool, true, false, Option, Some, None, List, [], ◌∷◌, ◌++◌, arith, refl, sym, eqb, ◌∙◌, ◌||◌, is_some}
use Rattle.std.proofs.lemmas.Bool.{eqb-true, eq-eqb}
use Rattle.amqp_rules.specs.View.{EndView, change_first, remove_first, holds}
use Rattle.amqp_rules.specs.Sound.{Apart, AreSound, Ascends, Every, Keys, has_end, same_handle, shares_handle, shares_name, shares_peer_handle}
use Rattle.amqp_rules.proofs.Listed.{by-bool, every-changed, every-more, every-removed}

-- # Numbers

ascends-sooner : (made m n : ℕ) (ks : List Keys) → m ≤ n → Ascends made n ks → Ascends made m ks
ascends-sooner made m n [] h a = omega (arith, a)
ascends-sooner made m n (k ∷ ks) h a = let first : n ≤ k.number = a.0 in (omega (arith, first), a.1)

ascends-changed : (made n : ℕ) (test : Keys → Bool) (change : Keys → Keys) (ks : List Keys) → ((k : Keys) → (change k).number ≡ k.number) → Ascends made n ks → Ascends made n (change_first test change ks)
ascends-changed made n test change [] same a = a
ascends-changed made n test change (k ∷ ks) same a =
    by-bool (test k)
    (λ (t : test k ≡ true). rw (t, same k) a)
    (λ (t : test k ≡ false). rw t (a.0, ascends-changed made (k.number + 1) test change ks same a.1))

ascends-removed : (made n : ℕ) (test : Keys → Bool) (ks : List Keys) → Ascends made n ks → Ascends made n (remove_first test ks)
ascends-removed made n test [] a = a
ascends-removed made n test (k ∷ ks) a =
    by-bool (test k)
    (λ (t : test k ≡ true). let first : n ≤ k.number = a.0 in rw t (ascends-sooner made n (k.number + 1) ks (omega (arith, first)) a.1))
    (λ (t : test k ≡ false). rw t (a.0, ascends-removed made (k.number + 1) test ks a.1))

ascends-more : (made n : ℕ) (ks : List Keys) (k : Keys) → k.number ≡ made → Ascends made n ks → Ascends (made + 1) n (ks ++ k ∷ [])
ascends-more made n [] k is a = (let h : n ≤ made = a in omega (arith, is, h), omega (arith, is))
ascends-more made n (l ∷ ks) k is a = (a.0, ascends-more made (l.number + 1) ks k is a.1)

-- # Tests that tell apart

apart-removed : (same : Keys → Keys → Bool) (test : Keys → Bool) (ks : List Keys) → Apart same ks → Apart same (remove_first test ks)
apart-removed same test [] a = tt
apart-removed same test (k ∷ ks) a =
    by-bool (test k)
    (λ (t : test k ≡ true). rw t a.1)
    (λ (t : test k ≡ false). rw t (every-removed (λ l. same k l ≡ false) test ks a.0, apart-removed same test ks a.1))

apart-more : (same : Keys → Keys → Bool) (ks : List Keys) (l : Keys) → Apart same ks → Every (λ k. same k l ≡ false) ks → Apart same (ks ++ l ∷ [])
apart-more same [] l a all = (tt, tt)
apart-more same (k ∷ ks) l a all = (every-more (λ l. same k l ≡ false) ks l a.0 all.0, apart-more same ks l a.1 all.1)

-- a change that the test does not see
apart-kept : (same : Keys → Keys → Bool) (test : Keys → Bool) (change : Keys → Keys) (ks : List Keys)
    → ((k l : Keys) → same (change k) l ≡ same k l) → ((k l : Keys) → same k (change l) ≡ same k l)
    → Apart same ks → Apart same (change_first test change ks)
apart-kept same test change [] first second a = tt
apart-kept same test change (k ∷ ks) first second a =
    by-bool (test k)
    (λ (t : test k ≡ true). rw t (every-same ks a.0, a.1))
    (λ (t : test k ≡ false). rw t (every-changed (λ l. same k l ≡ false) test change ks a.0 (λ l h. second k l ∙ h), apart-kept same test change ks first second a.1))
  where
    every-same : (ls : List Keys) → Every (λ l. same k l ≡ false) ls → Every (λ l. same (change k) l ≡ false) ls
    every-same [] all = tt
    every-same (l ∷ ls) all = (first k l ∙ all.0, every-same ls all.1)

-- the changed one is told apart from each other one
pub record IsNew (same : Keys → Keys → Bool) (change : Keys → Keys) (l : Keys) : Type 0 where
  pub before : (k : Keys) → same (change k) l ≡ false
  pub after : (k : Keys) → same l (change k) ≡ false

apart-set : (same : Keys → Keys → Bool) (test : Keys → Bool) (change : Keys → Keys) (ks : List Keys) → Apart same ks → Every (IsNew same change) ks → Apart same (change_first test change ks)
apart-set same test change [] a all = tt
apart-set same test change (k ∷ ks) a all =
    by-bool (test k)
    (λ (t : test k ≡ true). rw t (befores ks all.1, a.1))
    (λ (t : test k ≡ false). rw t (every-changed (λ l. same k l ≡ false) test change ks a.0 (λ l h. all.0.after l), apart-set same test change ks a.1 all.1))
  where
    befores : (ls : List Keys) → Every (IsNew same change) ls → Every (λ l. same (change k) l ≡ false) ls
    befores [] all = tt
    befores (l ∷ ls) all = (all.0.before k, befores ls all.1)

-- # Handles

pub eqb-sym : (m n : ℕ) → eqb m n ≡ eqb n m
eqb-sym m n =
    by-bool (eqb n m)
    (λ (h : eqb n m ≡ true). h2 (eqb-true n m h))
    (λ (h : eqb n m ≡ false).
    by-bool (eqb m n)
    (λ (k : eqb m n ≡ true). let same : m ≡ n = eqb-true m n k in let back : eqb n m ≡ true = eq-eqb n m (sym same) in absurd (cc (back, h)))
    (λ (k : eqb m n ≡ false). k ∙ sym h))
  where
    h2 : n ≡ m → eqb m n ≡ eqb n m
    h2 e = rw e refl

-- no end has the handle of e
pub no-handle : (e : EndView) (o : Option EndView) → holds (λ f. eqb f.handle e.handle) o ≡ false → (same_handle (Some e) o ≡ false) × (same_handle o (Some e) ≡ false)
no-handle e None h = (refl, refl)
no-handle e (Some f) h = (h, eqb-sym e.handle f.handle ∙ h)

-- # Attaches

abbrev pub with_ours : EndView → Keys → Keys
with_ours e k = record k { ours = Some e }

abbrev pub with_theirs : EndView → Keys → Keys
with_theirs e k = record k { theirs = Some e }

or-true : (b : Bool) → b || true ≡ true
or-true true = refl
or-true false = refl

-- a link gets an end of ours, with a handle that no link has
pub sound-ours : (made : ℕ) (test : Keys → Bool) (e : EndView) (ks : List Keys) → AreSound made ks → Every (λ k. holds (λ f. eqb f.handle e.handle) k.ours ≡ false) ks → AreSound made (change_first test (with_ours e) ks)
sound-ours made test e ks s free =
    record {
      numbers = ascends-changed made 0 test (with_ours e) ks (λ k. refl) s.numbers;
      handles = apart-set shares_handle test (with_ours e) ks s.handles (news ks free);
      peer_handles = apart-kept shares_peer_handle test (with_ours e) ks (λ k l. refl) (λ k l. refl) s.peer_handles;
      names = apart-kept shares_name test (with_ours e) ks (λ k l. refl) (λ k l. refl) s.names;
      ends = every-changed (λ k. has_end k ≡ true) test (with_ours e) ks s.ends (λ k h. refl);
    }
  where
    news : (ks : List Keys) → Every (λ k. holds (λ f. eqb f.handle e.handle) k.ours ≡ false) ks → Every (IsNew shares_handle (with_ours e)) ks
    news [] free = tt
    news (k ∷ ks) free = (record { before = λ l. (no-handle e k.ours free.0).0; after = λ l. (no-handle e k.ours free.0).1 }, news ks free.1)

-- a link gets an end of the peer's, with a handle that no link has
pub sound-theirs : (made : ℕ) (test : Keys → Bool) (e : EndView) (ks : List Keys) → AreSound made ks → Every (λ k. holds (λ f. eqb f.handle e.handle) k.theirs ≡ false) ks → AreSound made (change_first test (with_theirs e) ks)
sound-theirs made test e ks s free =
    record {
      numbers = ascends-changed made 0 test (with_theirs e) ks (λ k. refl) s.numbers;
      handles = apart-kept shares_handle test (with_theirs e) ks (λ k l. refl) (λ k l. refl) s.handles;
      peer_handles = apart-set shares_peer_handle test (with_theirs e) ks s.peer_handles (news ks free);
      names = apart-kept shares_name test (with_theirs e) ks (λ k l. refl) (λ k l. refl) s.names;
      ends = every-changed (λ k. has_end k ≡ true) test (with_theirs e) ks s.ends (λ k h. or-true (is_some k.ours));
    }
  where
    news : (ks : List Keys) → Every (λ k. holds (λ f. eqb f.handle e.handle) k.theirs ≡ false) ks → Every (IsNew shares_peer_handle (with_theirs e)) ks
    news [] free = tt
    news (k ∷ ks) free = (record { before = λ l. (no-handle e k.theirs free.0).0; after = λ l. (no-handle e k.theirs free.0).1 }, news ks free.1)

-- a new link, told apart from each that is there
pub sound-more : (made : ℕ) (k : Keys) (ks : List Keys)
    → AreSound made ks
    → k.number ≡ made → has_end k ≡ true
    → Every (λ l. shares_handle l k ≡ false) ks → Every (λ l. shares_peer_handle l k ≡ false) ks → Every (λ l. shares_name l k ≡ false) ks
    → AreSound (made + 1) (ks ++ k ∷ [])
sound-more made k ks s is ended handles peer_handles names =
    record {
      numbers = ascends-more made 0 ks k is s.numbers;
      handles = apart-more shares_handle ks k s.handles handles;
      peer_handles = apart-more shares_peer_handle ks k s.peer_handles peer_handles;
      names = apart-more shares_name ks k s.names names;
      ends = every-more (λ k. has_end k ≡ true) ks k s.ends ended;
    }

pub sound-removed : (made : ℕ) (test : Keys → Bool) (ks : List Keys) → AreSound made ks → AreSound made (remove_first test ks)
sound-removed made test ks s =
    record {
      numbers = ascends-removed made 0 test ks s.numbers;
      handles = apart-removed shares_handle test ks s.handles;
      peer_handles = apart-removed shares_peer_handle test ks s.peer_handles;
      names = apart-removed shares_name test ks s.names;
      ends = every-removed (λ k. has_end k ≡ true) test ks s.ends;
    }

pub sound-none : (made : ℕ) → AreSound made []
sound-none made = record { numbers = omega arith; handles = tt; peer_handles = tt; names = tt; ends = tt }
