-- Values with parts that are printed one part at a time.
use Rattle.std.proofs.Common.{◌≡◌, ◌<◌, ◌≤◌, ◌+◌, ◌-◌, ℕ, zero, suc, Bool, true, false, List, [], ◌∷◌, ◌++◌, length, drop, map, get_or, append_assoc, refl, arith, ◌∙◌, ap, sym, cond}
use Rattle.std.specs.Prelude.{codes}
use Rattle.std.specs.Borrow.{Bor}
use native.Mathlib.Decide.{dec_le}
use Rattle.std.proofs.lemmas.List.{drop_more}
use Rattle.std.proofs.Math.ListN.{drop_of_length-le}
use Rattle.amqp_types.specs.declared.value.Value.{Value}
use Rattle.amqp_types.specs.declared.value.Value.TheOpen.{Value-F}
use Rattle.amqp_types.specs.declared.value.Value.TheVariants as W
use Rattle.amqp_types.specs.declared.value.Value.TheVariants.{rolls-List, rolls-Map, rolls-Array, rolls-Described}
use Rattle.amqp_types.specs.declared.value.Value.TheViews.{out-Value, roll-Value, roll-out-Value}
use Rattle.amqp_trace.specs.Printed.{comma}
use Rattle.amqp_trace.specs.Names.{texts}
use Rattle.amqp_trace.specs.Values.{value_text, opened_text, leaf_text, listed, pair_text, name_text, entries, is_null}

pub value_none : (v : Value) → value_text 0 v ≡ codes ".."
unfolding value_text
value_none v = refl

pub value_some : (depth : ℕ) (v : Value) → 0 < depth → value_text depth v ≡ opened_text (value_text (depth - 1)) (out-Value v)
unfolding value_text
value_some zero v h = absurd (omega arith)
value_some (suc depth) v h = let e : suc depth - 1 ≡ depth = omega arith in rw e refl

leaf_case :
    (text : Value → List ℕ) (o : Value-F Value)
    → ((vs : List Value) → o ≡ Value-F.List vs → ⊥)
    → ((ps : List (Value × Value)) → o ≡ Value-F.Map ps → ⊥)
    → ((code : ℕ) (vs : List Value) → o ≡ Value-F.Array code vs → ⊥)
    → ((d v : Value) → o ≡ Value-F.Described d v → ⊥)
    → opened_text text o ≡ leaf_text o
leaf_case text (Value-F.List vs) a b c d = absurd (a vs refl)
leaf_case text (Value-F.Map ps) a b c d = absurd (b ps refl)
leaf_case text (Value-F.Array code vs) a b c d = absurd (c code vs refl)
leaf_case text (Value-F.Described e v) a b c d = absurd (d e v refl)
leaf_case text _ a b c d = refl

rolled : (v : Value) (o : Value-F Value) → out-Value v ≡ o → v ≡ roll-Value o
rolled v o e = sym (roll-out-Value v) ∙ ap roll-Value e

pub leaf_opened :
    (text : Value → List ℕ) (v : Value)
    → ((vs : List Value) → v ≡ W.List vs → ⊥)
    → ((ps : List (Value × Value)) → v ≡ W.Map ps → ⊥)
    → ((code : ℕ) (vs : List Value) → v ≡ W.Array code vs → ⊥)
    → ((d w : Value) → v ≡ W.Described d w → ⊥)
    → opened_text text (out-Value v) ≡ leaf_text (out-Value v)
leaf_opened text v a b c d =
    leaf_case text (out-Value v)
    (λ vs e. a vs (rolled v (Value-F.List vs) e ∙ rolls-List vs))
    (λ ps e. b ps (rolled v (Value-F.Map ps) e ∙ rolls-Map ps))
    (λ code vs e. c code vs (rolled v (Value-F.Array code vs) e ∙ rolls-Array code vs))
    (λ f w e. d f w (rolled v (Value-F.Described f w) e ∙ rolls-Described f w))

five : (l c x e y r : List ℕ) → ((((l ++ c) ++ x) ++ e) ++ y) ++ r ≡ l ++ ((c ++ ((x ++ e) ++ y)) ++ r)
five l c x e y r = simp append_assoc

four : (l c n t r : List ℕ) → (((l ++ c) ++ n) ++ t) ++ r ≡ l ++ ((c ++ (n ++ t)) ++ r)
four l c n t r = simp append_assoc

pub put_pair :
    (f : Value → List ℕ) (ps : List (Value × Value)) (i : ℕ) (p : Value × Value) (first : Bool) (line a b c d whole : List ℕ)
    → i < length ps
    → p ≡ get_or ps i p
    → a ≡ line ++ comma first
    → b ≡ a ++ f p.0
    → c ≡ b ++ codes "="
    → d ≡ c ++ f p.1
    → line ++ listed first (map (pair_text f) (drop i ps)) ≡ whole
    → d ++ listed false (map (pair_text f) (drop (i + 1) ps)) ≡ whole
put_pair f ps i p first line a b c d whole h is e g j k so =
    let rest = listed false (map (pair_text f) (drop (i + 1) ps)) in
    let here = ap (λ (qs : List (Value × Value)). listed first (map (pair_text f) qs)) (drop_more ps i p h ∙ ap (λ q. q ∷ drop (i + 1) ps) (sym is)) in
    rw (k, j, g, e) (five line (comma first) (f p.0) (codes "=") (f p.1) rest ∙ ap (λ t. line ++ t) (sym here) ∙ so)

module _ (words : List (Bor (List ℕ))) (i : ℕ) where
  name_there : (d : Bor (List ℕ)) → i < length words → name_text (texts (drop i words)) ≡ (get_or words i d).now ++ codes "="
  name_there d h = rw (drop_more words i d h) refl

  pub name_put : (d : Bor (List ℕ)) (a b : List ℕ) → i < length words → b ≡ a ++ (get_or words i d).now → a ++ name_text (texts (drop i words)) ≡ b ++ codes "="
  name_put d a b h e = rw (e, name_there d h) (sym (append_assoc a (get_or words i d).now (codes "=")))

  pub name_past : length words ≤ i → name_text (texts (drop i words)) ≡ []
  name_past h = rw (drop_of_length-le words h) refl

  next_names : drop 1 (texts (drop i words)) ≡ texts (drop (i + 1) words)
  next_names =
      elim (dec_le (length words) i) [
        | yes p ↦ (let q : length words ≤ i + 1 = omega (arith, p) in rw (drop_of_length-le words p, drop_of_length-le words q) refl)
        | no p ↦ (let none : Bor (List ℕ) = record { ref_ptr = (0, 0); now = [] } in let q : i < length words = omega (arith, p) in rw (drop_more words i none q) refl)
      ]

  module _ (f : Value → List ℕ) (vs : List Value) (v : Value) (inside : i < length vs) (is : v ≡ get_or vs i v) where
    opened : drop i vs ≡ v ∷ drop (i + 1) vs
    opened = drop_more vs i v inside ∙ ap (λ w. w ∷ drop (i + 1) vs) (sym is)

    tested : entries f (texts (drop i words)) (drop i vs) ≡ cond (is_null (out-Value v)) (entries f (texts (drop (i + 1) words)) (drop (i + 1) vs)) ((name_text (texts (drop i words)) ++ f v) ∷ entries f (texts (drop (i + 1) words)) (drop (i + 1) vs))
    tested = rw (opened, ← next_names) refl

    pub passed : is_null (out-Value v) ≡ true → (first : Bool) (line whole : List ℕ)
        → line ++ listed first (entries f (texts (drop i words)) (drop i vs)) ≡ whole
        → line ++ listed first (entries f (texts (drop (i + 1) words)) (drop (i + 1) vs)) ≡ whole
    passed e first line whole so =
        ap (λ (ts : List (List ℕ)). line ++ listed first ts) (sym (tested ∙ ap (λ b. cond b (entries f (texts (drop (i + 1) words)) (drop (i + 1) vs)) ((name_text (texts (drop i words)) ++ f v) ∷ entries f (texts (drop (i + 1) words)) (drop (i + 1) vs))) e)) ∙ so

    pub put_entry : is_null (out-Value v) ≡ false → (first : Bool) (line a b c whole : List ℕ)
        → a ≡ line ++ comma first
        → b ≡ a ++ name_text (texts (drop i words))
        → c ≡ b ++ f v
        → line ++ listed first (entries f (texts (drop i words)) (drop i vs)) ≡ whole
        → c ++ listed false (entries f (texts (drop (i + 1) words)) (drop (i + 1) vs)) ≡ whole
    put_entry e first line a b c whole g h j so =
        let rest = entries f (texts (drop (i + 1) words)) (drop (i + 1) vs) in
        let here = tested ∙ ap (λ t. cond t rest ((name_text (texts (drop i words)) ++ f v) ∷ rest)) e in
        rw (j, h, g) (four line (comma first) (name_text (texts (drop i words))) (f v) (listed false rest) ∙ ap (λ (ts : List (List ℕ)). line ++ listed first ts) (sym here) ∙ so)
