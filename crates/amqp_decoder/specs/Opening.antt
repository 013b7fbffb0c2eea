-- What the private readers of described lists promise to one another.
use Rattle.std.specs.Prelude.{ℕ, ◌≡◌, ◌≤◌, ◌<◌, ◌+◌, ◌^◌, suc, false, None, List, ◌∷◌, ◌++◌, length, take, drop}
use Rattle.amqp_types.specs.Datum.{Datum, list, described, Data, count_of, greatest_depth_of}
use Rattle.amqp_types.specs.Grammar.{AreParts, SpellsWithin}
use Rattle.amqp_performatives.specs.Part.{Part, Fields, composite, Fits, IsDescriptor}
use Rattle.amqp_performatives.specs.Fair.{names_state}
use Rattle.amqp_decoder.specs.Reading.{AreFields}

-- in front of the octets is the list of the items that the content spells, so many
pub record FindsItems (octets : List ℕ) (count : ℕ) (content : List ℕ) (used : ℕ) : Type 0 where
  pub within : used ≤ length octets
  pub found : (depth : ℕ) (ds : Data) → count_of ds ≡ count → AreParts ds None content → greatest_depth_of ds ≤ depth → SpellsWithin (suc depth) (list ds) (take used octets)
  pub only : (depth : ℕ) (ds : Data) (x rest : List ℕ) → SpellsWithin depth (list ds) x → octets ≡ x ++ rest → (count_of ds ≡ count) × AreParts ds None content × (rest ≡ drop used octets)

abbrev pub NoItems : List ℕ → Type 0
NoItems octets = (depth : ℕ) (ds : Data) (x rest : List ℕ) → SpellsWithin depth (list ds) x → octets ≡ x ++ rest → ⊥

-- the octets spell the part
pub record SpellsPart (depth : ℕ) (part : Part) (octets : List ℕ) : Type 0 where
  pub datum : Datum
  pub fits : Fits part datum
  pub spelled : SpellsWithin depth datum octets

-- whatever value is in front of the octets has this descriptor
abbrev pub DescribedBy : ℕ → List ℕ → Datum → Type 0
DescribedBy depth octets descriptor = (v : Datum) (x rest : List ℕ) → SpellsWithin depth v x → octets ≡ x ++ rest → (w : Datum) × (v ≡ described descriptor w)

-- in front of the octets is the described list of the fields that the content spells
pub record Opens (depth : ℕ) (octets : List ℕ) (descriptor : Datum) (inner left : ℕ) (content : List ℕ) (used : ℕ) : Type 0 where
  pub within : used ≤ length octets
  pub deep : inner + 2 ≡ depth
  pub named : DescribedBy depth octets descriptor
  pub found : (type : ℕ × List ℕ) (fs : Fields) → IsDescriptor type descriptor → AreFields inner left fs content → SpellsPart depth (composite type fs) (take used octets)
  pub only : (type : ℕ × List ℕ) (fs : Fields) (x rest : List ℕ) → SpellsPart depth (composite type fs) x → octets ≡ x ++ rest → IsDescriptor type descriptor × AreFields inner left fs content × (rest ≡ drop used octets)

abbrev pub NotOpened : ℕ → List ℕ → Type 0
NotOpened depth octets = (type : ℕ × List ℕ) (fs : Fields) (x rest : List ℕ) → SpellsPart depth (composite type fs) x → octets ≡ x ++ rest → ⊥

-- no described value in front has the descriptor of one of the five delivery states
abbrev pub NoStateNamed : ℕ → List ℕ → Type 0
NoStateNamed depth octets = (d v : Datum) (x rest : List ℕ) → SpellsWithin depth (described d v) x → octets ≡ x ++ rest → names_state d ≡ false

-- these four octets in front are a described value, its number in one octet, and a list of no items
pub record IsBareList (number : ℕ) (octets : List ℕ) : Type 0 where
  pub rest : List ℕ
  pub is : octets ≡ 0x00 ∷ 0x53 ∷ number ∷ 0x45 ∷ rest
  pub low : number < 2 ^ 8
