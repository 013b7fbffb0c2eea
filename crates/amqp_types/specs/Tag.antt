-- Octets that are stored in 32 bytes.
use Rattle.std.specs.Prelude.{ℕ, ◌≡◌, ◌-◌, ◌≤◌, ◌++◌, List, length, take, replicate}
use Rattle.std.proofs.Common.{arith, ap, sym}
use Rattle.std.proofs.lemmas.List.{length-take-le}
use Rattle.amqp_types.specs.declared.tag.Tag.TheInside.{Inside}

-- the octets, padded with zeros to 32
abbrev pub padded : List ℕ → List ℕ
padded octets = octets ++ replicate (32 - length octets) 0

-- there are 32 octets, and all but the first n are zeros
pub record IsPadded (octets : List ℕ) (n : ℕ) : Type 0 where
  pub short : n ≤ 32
  pub whole : length octets ≡ 32
  pub zeros : octets ≡ take n octets ++ replicate (32 - n) 0

pub padded-take : (t : Inside) → IsPadded t.octets t.used → ◌≡◌ {A = Inside} (record { octets = padded (take t.used t.octets); used = length (take t.used t.octets) }) t
padded-take t h =
    let n : length (take t.used t.octets) ≡ t.used = length-take-le t.used t.octets (omega (arith, h.short, h.whole)) in
    rw n (ap (λ (o : List ℕ). let x : Inside = record { octets = o; used = t.used } in x) (sym h.zeros))
