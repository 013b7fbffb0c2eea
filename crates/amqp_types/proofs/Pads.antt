-- Octets in front of zeros.
use Rattle.std.proofs.Common.{◌≡◌, ℕ, ◌-◌, ◌≤◌, List, ◌++◌, length, drop, sym, ap, ◌∙◌, arith}
use Rattle.std.proofs.lemmas.List.{take_at, drop-replicate, length-append, length-replicate}
use Rattle.std.specs.Prelude.{replicate}
use Rattle.amqp_types.specs.Tag.{IsPadded}

pub padded_is : (os : List ℕ) (n : ℕ) → length os ≡ n → n ≤ 32 → IsPadded (os ++ drop {A = ℕ} n (replicate 32 0)) n
padded_is os n len le =
    let zeros : drop {A = ℕ} n (replicate 32 0) ≡ replicate {A = ℕ} (32 - n) 0 = drop-replicate n 32 0 in
    rw zeros (record {
      short = le;
      whole = length-append os (replicate (32 - n) 0) ∙ omega (arith, length-replicate {A = ℕ} (32 - n) 0, len, le);
      zeros = ap (λ (t : List ℕ). t ++ replicate {A = ℕ} (32 - n) 0) (sym (take_at os (replicate (32 - n) 0) n len));
    })
