-- The first word of a line, and those after it.
use Rattle.std.proofs.Common.{◌≡◌, ℕ, zero, suc, ◌+◌, ◌<◌, ◌≤◌, Bool, true, false, cond, not, ◌==◌, nat_lt, List, [], ◌∷◌, length, take, drop, get_or, refl, sym, ◌∙◌, ap, arith, Some, None, position, rules}
use Rattle.std.proofs.lemmas.List.Quantifiers.{position-Some}
use Rattle.std.specs.List.{position_or_len}
use Rattle.amqp_script.specs.Words.{words, in_front}

-- a space
abbrev pub is_space : ℕ → Bool
is_space octet = octet == 32

in_front-some : (octet : ℕ) (others : List (List ℕ)) → in_front octet others ≡ [] → ⊥
in_front-some octet [] none = cc
in_front-some octet (word ∷ others) none = cc

some_of : (space : Bool) (octet : ℕ) (others : List (List ℕ)) → cond space ([] ∷ others) (in_front octet others) ≡ [] → ⊥
some_of true octet others none = cc
some_of false octet others none = in_front-some octet others none

-- a line has a word
pub words-some : (line : List ℕ) → words line ≡ [] → ⊥
words-some [] none = cc
words-some (octet ∷ rest) none = some_of (octet == 32) octet (words rest) none

-- one octet more in front of a first word
further : (octet : ℕ) (rest : List ℕ) (n : ℕ) → words rest ≡ take n rest ∷ words (drop (n + 1) rest)
    → in_front octet (words rest) ≡ take (suc n) (octet ∷ rest) ∷ words (drop (suc n + 1) (octet ∷ rest))
further octet rest n found =
    let one : suc n + 1 ≡ suc (n + 1) = omega arith in
    ap (in_front octet) found ∙ ap (λ k. (octet ∷ take n rest) ∷ words (drop k (octet ∷ rest))) (sym one)

cut : (line : List ℕ) (end : ℕ) → end < length line → is_space (get_or line end 0) ≡ true
    → ((k : ℕ) → k < end → is_space (get_or line k 0) ≡ false) → words line ≡ take end line ∷ words (drop (end + 1) line)
cut [] end inside here before = absurd (omega (arith, inside))
cut (octet ∷ rest) zero inside here before = ap (λ b. cond b ([] ∷ words rest) (in_front octet (words rest))) here
cut (octet ∷ rest) (suc n) inside here before =
    let others = cut rest n (omega (arith, inside)) here (λ k below. before (suc k) (omega (arith, below))) in
    ap (λ b. cond b ([] ∷ words rest) (in_front octet (words rest))) (before 0 (omega arith)) ∙ further octet rest n others

-- up to the first space stands the first word, and after it the others
pub words-cut : (line : List ℕ) (end : ℕ) → position is_space line ≡ Some end
    → words line ≡ take end line ∷ words (drop (end + 1) line)
words-cut line end found = let at = position-Some is_space line end 0 found in cut line end at.0 at.1 at.2

none_of : (b : Bool) (n : ℕ) → cond b (Some n) None ≡ None → b ≡ false
none_of true n none = cc
none_of false n none = refl

whole_of : (octet : ℕ) (rest : List ℕ) (n : ℕ) (space : Bool) → (length rest ≤ n → words rest ≡ rest ∷ [])
    → suc (length rest) ≤ cond (not space) (1 + n) 0 → cond space ([] ∷ words rest) (in_front octet (words rest)) ≡ (octet ∷ rest) ∷ []
whole_of octet rest n true further past = absurd (omega (arith, past))
whole_of octet rest n false further past = ap (in_front octet) (further (omega (arith, past)))

whole : (line : List ℕ) → length line ≤ position_or_len is_space line → words line ≡ line ∷ []
whole [] past = refl
whole (octet ∷ rest) past = whole_of octet rest (position_or_len is_space rest) (octet == 32) (whole rest) past

-- without a space the line is one word
pub words-whole : (line : List ℕ) → position is_space line ≡ None → words line ≡ line ∷ []
words-whole line none =
    let past = none_of (nat_lt (position_or_len is_space line) (length line)) (position_or_len is_space line) none in
    whole line (search (rules, past))
