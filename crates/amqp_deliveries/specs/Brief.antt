-- Tags of at most eight octets, and what is hashed of one on its link.
use Rattle.std.specs.Prelude.{ℕ, ◌≡◌, ◌++◌, ◌-◌, ◌&&◌, Bool, true, List, length, replicate, nat_eq, nat_le}
use Rattle.std.specs.Int.{from_le_bytes, w64}
use Rattle.std.specs.Cmp.{unsigned_Decides, first_so, second_so}
use Rattle.std.specs.Cmp.Lexicographic.{pointwise, bytes_decides}
use Rattle.std.specs.Hash as fed

abbrev pub is_brief : List ℕ → Bool
is_brief tag = nat_le (length tag) 8

abbrev pub padded : List ℕ → List ℕ
padded tag = tag ++ replicate (8 - length tag) 0

-- it is the same of equal keys
pub fed_alike : (a b n m : ℕ) (x y : List ℕ) → (nat_eq a b && (nat_eq n m && pointwise nat_eq x y)) ≡ true → fed.u32 a ++ fed.u64 (from_le_bytes w64 x) ≡ fed.u32 b ++ fed.u64 (from_le_bytes w64 y)
fed_alike a b n m x y h =
    let rest = second_so (nat_eq a b) (nat_eq n m && pointwise nat_eq x y) h in
    let link : a ≡ b = (unsigned_Decides a b).0 (first_so (nat_eq a b) (nat_eq n m && pointwise nat_eq x y) h) in
    let octets : x ≡ y = (bytes_decides x y).0 (second_so (nat_eq n m) (pointwise nat_eq x y) rest) in
    λ i. fed.u32 (link i) ++ fed.u64 (from_le_bytes w64 (octets i))
