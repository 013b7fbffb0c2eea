-- A described list without items that four octets spell, and the states that are spelled so.
use Rattle.std.proofs.Common.{◌≡◌, ℕ, ◌+◌, ◌-◌, ◌≤◌, ◌<◌, ◌^◌, inl, List, [], ◌∷◌, drop, refl, sym, subst, arith}
use Rattle.std.specs.List.{IsFirstAndRest}
use Rattle.std.proofs.lemmas.Bool.{lt-ltb}
use Rattle.amqp_types.specs.declared.class.Kind.TheVariants as Kind
use Rattle.amqp_types.specs.Codes.{class_of}
use Rattle.amqp_types.specs.Datum.{number}
use Rattle.amqp_types.specs.Grammar.{Spells, number_of}
use Rattle.amqp_types.proofs.ListHeads.{empty_head}
use Rattle.amqp_performatives.specs.Bodies.{state as state_part}
use Rattle.amqp_performatives.specs.Fair.{is_fair_state}
use Rattle.amqp_decoder.specs.Opening.{FindsItems, Opens, IsBareList}
use Rattle.amqp_decoder.specs.Reading.{Takes}
use Rattle.amqp_performatives.specs.declared.state.DeliveryState.TheVariants.{Accepted, Released}
use Rattle.amqp_decoder.specs.declared.states.StateKind.TheVariants as kind
use Rattle.amqp_decoder.proofs.DescribedLists.{opens, finds_items}
use Rattle.amqp_decoder.proofs.FirstField.{at_end}
use Rattle.amqp_decoder.proofs.StateParts.{state_takes}

-- a ulong in one octet
small_ulong : (n : ℕ) → n < 2 ^ 8 → Spells (number Kind.Ulong n) (0x53 ∷ n ∷ [])
unfolding class_of number_of
small_ulong n low = ((refl, refl, (let z : 0 + n ≡ n = omega arith in z), lt-ltb n (2 ^ 64) (omega (arith, low))), omega arith)

no_items : (rest : List ℕ) → FindsItems (0x45 ∷ rest) 0 [] 1
unfolding class_of
no_items rest =
    let first : IsFirstAndRest (0x45 ∷ rest) 0x45 rest = (refl, omega arith) in
    finds_items (0x45 ∷ rest) 0 1 1 (empty_head 0x45 rest (0x45 ∷ rest) first refl) [] refl

pub bare_opens : (depth inner n : ℕ) (os : List ℕ) → IsBareList n os → depth ≤ 32 → 1 ≤ inner → inner + 2 ≡ depth → Opens depth os (number Kind.Ulong n) inner 0 [] 4
bare_opens depth inner n os b low some deep =
    let whole : List ℕ = 0x00 ∷ 0x53 ∷ n ∷ 0x45 ∷ b.rest in
    subst (λ (t : List ℕ). Opens depth t (number Kind.Ulong n) inner 0 [] 4) (sym b.is)
    (opens depth inner 3 (0x00 ∷ 0x53 ∷ n ∷ 0x45 ∷ b.rest) (0x53 ∷ n ∷ []) (number Kind.Ulong n) 0 [] 1 low some deep (omega arith) refl (small_ulong n b.low) refl (no_items b.rest))

-- accepted is the first field, where it is spelled so
pub accepted_takes : (depth left : ℕ) (os : List ℕ) (depth' left' : ℕ) (os' : List ℕ) → 3 ≤ depth → depth ≤ 32 → IsBareList 0x24 os → (depth' ≡ depth) × (left' + 1 ≡ left) × (os' ≡ drop 4 os) → Takes state_part is_fair_state depth left os Accepted depth' left' os'
accepted_takes depth left os depth' left' os' deep low b e =
    let inner = depth - 2 in
    state_takes kind.Accepted depth left os (number Kind.Ulong 0x24) inner 0 [] 4 Accepted depth' left' os' (bare_opens depth inner 0x24 os b low (omega (arith, deep)) (omega (arith, deep))) (inl refl) (refl, at_end inner 0 [] refl refl) e

-- and released
pub released_takes : (depth left : ℕ) (os : List ℕ) (depth' left' : ℕ) (os' : List ℕ) → 3 ≤ depth → depth ≤ 32 → IsBareList 0x26 os → (depth' ≡ depth) × (left' + 1 ≡ left) × (os' ≡ drop 4 os) → Takes state_part is_fair_state depth left os Released depth' left' os'
released_takes depth left os depth' left' os' deep low b e =
    let inner = depth - 2 in
    state_takes kind.Released depth left os (number Kind.Ulong 0x26) inner 0 [] 4 Released depth' left' os' (bare_opens depth inner 0x26 os b low (omega (arith, deep)) (omega (arith, deep))) (inl refl) (refl, at_end inner 0 [] refl refl) e
