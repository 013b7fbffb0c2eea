-- The number that the first octets are.
use Rattle.std.proofs.Common.{◌≡◌, ◌+◌, ℕ, List, [], ◌∷◌, length, take, drop, get_or, ltb, false, Some, refl, ap, ◌∙◌, arith}
use Rattle.std.specs.Int.{from_be_bytes, w16, w32, w64}
use Rattle.std.proofs.lemmas.Bool.{le-ltb}
use Rattle.std.proofs.lemmas.List.{length-take}
use Rattle.amqp_types.specs.declared.class.Width.{Width}
use Rattle.amqp_types.specs.Codes.{octets_in}
use Rattle.amqp_types.specs.Grammar.{number_of}
use Rattle.amqp_types.specs.Reading.{field_at}

pub number_of_one : (bs : List ℕ) → length bs ≡ 1 → get_or bs 0 0 ≡ number_of bs
unfolding number_of
number_of_one [] h = absurd (omega arith)
number_of_one (a ∷ []) h = omega arith
number_of_one (a ∷ b ∷ bs) h = absurd (omega arith)

pub number_of_two : (bs : List ℕ) → length bs ≡ 2 → from_be_bytes w16 bs ≡ number_of bs
unfolding number_of
number_of_two [] h = absurd (omega arith)
number_of_two (a ∷ []) h = absurd (omega arith)
number_of_two (a ∷ b ∷ []) h = omega arith
number_of_two (a ∷ b ∷ c ∷ bs) h = absurd (omega arith)

pub number_of_four : (bs : List ℕ) → length bs ≡ 4 → from_be_bytes w32 bs ≡ number_of bs
unfolding number_of
number_of_four [] h = absurd (omega arith)
number_of_four (a ∷ []) h = absurd (omega arith)
number_of_four (a ∷ b ∷ []) h = absurd (omega arith)
number_of_four (a ∷ b ∷ c ∷ []) h = absurd (omega arith)
number_of_four (a ∷ b ∷ c ∷ d ∷ []) h = omega arith
number_of_four (a ∷ b ∷ c ∷ d ∷ e ∷ bs) h = absurd (omega arith)

pub number_of_eight : (bs : List ℕ) → length bs ≡ 8 → from_be_bytes w64 bs ≡ number_of bs
unfolding number_of
number_of_eight [] h = absurd (omega arith)
number_of_eight (a ∷ []) h = absurd (omega arith)
number_of_eight (a ∷ b ∷ []) h = absurd (omega arith)
number_of_eight (a ∷ b ∷ c ∷ []) h = absurd (omega arith)
number_of_eight (a ∷ b ∷ c ∷ d ∷ []) h = absurd (omega arith)
number_of_eight (a ∷ b ∷ c ∷ d ∷ e ∷ []) h = absurd (omega arith)
number_of_eight (a ∷ b ∷ c ∷ d ∷ e ∷ f ∷ []) h = absurd (omega arith)
number_of_eight (a ∷ b ∷ c ∷ d ∷ e ∷ f ∷ g ∷ []) h = absurd (omega arith)
number_of_eight (a ∷ b ∷ c ∷ d ∷ e ∷ f ∷ g ∷ i ∷ []) h = omega arith
number_of_eight (a ∷ b ∷ c ∷ d ∷ e ∷ f ∷ g ∷ i ∷ j ∷ bs) h = absurd (omega arith)

-- what split_first_chunk says
pub record IsCut (n : ℕ) (os front rest : List ℕ) : Type 0 where
  pub front_is : front ≡ take n os
  pub rest_is : rest ≡ drop n os
  pub whole : length rest + n ≡ length os

pub cut_length : (n : ℕ) (os front rest : List ℕ) → IsCut n os front rest → length front ≡ n
cut_length n os front rest h = ap length h.front_is ∙ omega (arith, length-take n os, h.whole)

pub field_cut : (w : Width) (os front rest : List ℕ) (n : ℕ) → IsCut (octets_in w) os front rest → n ≡ number_of front → Some (n, rest) ≡ field_at w os
unfolding field_at
field_cut w os front rest n h e =
    let long : ltb (length os) (octets_in w) ≡ false = le-ltb _ _ (omega (arith, h.whole)) in
    rw (long, e, h.front_is, h.rest_is) refl

pub field_empty : (w : Width) (os : List ℕ) → w ≡ Width.Zero → Some (0, os) ≡ field_at w os
unfolding field_at number_of
field_empty w os e = let long : ltb (length os) 0 ≡ false = le-ltb _ _ (omega arith) in rw (e, long) refl

pub no_octets : (os : List ℕ) → Some (0, os) ≡ field_at Width.Zero os
no_octets os = field_empty Width.Zero os refl
