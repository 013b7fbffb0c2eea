-- The format code of a body says of which form it is.
use Rattle.std.proofs.Common.{◌≡◌, ℕ, ◌+◌, ◌-◌, ◌≤◌, Bool, true, false, List, [], ◌∷◌, ◌++◌, length, take, drop, Some, None, refl, sym, ap, ◌∙◌, arith}
use Rattle.std.specs.Prelude.{IsTrue}
use Rattle.std.proofs.lemmas.List.{append-nil, length-append, length-take-le, drop-drop, drop-take, take-append-drop, take_all}
use Rattle.std.proofs.Math.Seq.{drop-append_seam}
use Rattle.std.proofs.Math.ListN.{length-drop}
use Rattle.amqp_types.proofs.Laws.{one_spelling}
use Rattle.amqp_types.specs.declared.class.Class.{Class}
use Rattle.amqp_types.specs.declared.class.Kind.{Kind}
use Rattle.amqp_types.specs.declared.class.Run.{Run}
use Rattle.amqp_types.specs.declared.class.Run.TheVariants as run
use Rattle.amqp_types.specs.declared.class.Width.{Width}
use Rattle.amqp_types.specs.declared.value.Value.TheVariants as W
use Rattle.amqp_types.specs.declared.value.Value.TheOpen.{Value-F}
use Rattle.amqp_types.specs.declared.value.Value.TheFolds.{fold-roll-Value}
use Rattle.amqp_types.specs.declared.value.Value.TheViews as V
use Rattle.amqp_types.specs.View.{view, view_step}
use Rattle.amqp_types.specs.Codes.{class_of}
use Rattle.amqp_types.specs.Datum.{Datum, number, octets, list, map, array, described, Data, count_of}
use Rattle.amqp_types.specs.Grammar.{IsPart, IsBody, AreParts, IsNumberBody, IsOctetsBody, IsListBody, IsMapBody, IsArrayBody, IsDescribedBody, SpellsWithin, Spells}
use Rattle.amqp_messages.specs.declared.kind.SectionKind.{SectionKind}
use Rattle.amqp_messages.specs.declared.kind.SectionKind.TheVariants as kind
use Rattle.amqp_messages.specs.Sections.{is_list, is_map, is_binary, is_body}
use Rattle.amqp_messages.specs.InPlace.{of_lists, of_maps, of_binaries, begins}

record Formed (class : Class) (v : Datum) : Type 0 where
  lists : of_lists class ≡ is_list v
  maps : of_maps class ≡ is_map v
  binaries : of_binaries class ≡ is_binary v

number_formed : (class : Class) (k : Kind) (n : ℕ) (b : List ℕ) → IsNumberBody class k n b → Formed class (number k n)
number_formed (Class.Number k' w r) k n b h = record { lists = refl; maps = refl; binaries = refl }
number_formed _ k n b h = absurd h

sized_run : (r : Run) (w : Width) (text : List ℕ) → of_binaries (Class.Octets r w) ≡ is_binary (octets r text)
sized_run run.Binary w text = refl
sized_run run.Str w text = refl
sized_run run.Symbol w text = refl
sized_run run.Dec128 w text = refl
sized_run run.Uuid w text = refl

sixteen_run : (r : Run) (text : List ℕ) → of_binaries (Class.Sixteen r) ≡ is_binary (octets r text)
sixteen_run run.Binary text = refl
sixteen_run run.Str text = refl
sixteen_run run.Symbol text = refl
sixteen_run run.Dec128 text = refl
sixteen_run run.Uuid text = refl

octets_formed : (class : Class) (r : Run) (text b : List ℕ) → IsOctetsBody class r text b → Formed class (octets r text)
octets_formed (Class.Octets r' w) r text b h = record { lists = refl; maps = refl; binaries = ap (λ (q : Run). of_binaries (Class.Octets q w)) h.0 ∙ sized_run r w text }
octets_formed (Class.Sixteen r') r text b h = record { lists = refl; maps = refl; binaries = ap (λ (q : Run). of_binaries (Class.Sixteen q)) h.0 ∙ sixteen_run r text }
octets_formed _ r text b h = absurd h

list_formed : (class : Class) (vs : Data) (count : ℕ) (P : List ℕ → Type 0) (b : List ℕ) → IsListBody class count P b → Formed class (list vs)
list_formed Class.EmptyList vs count P b h = record { lists = refl; maps = refl; binaries = refl }
list_formed (Class.List w) vs count P b h = record { lists = refl; maps = refl; binaries = refl }
list_formed _ vs count P b h = absurd h

map_formed : (class : Class) (vs : Data) (count : ℕ) (P : List ℕ → Type 0) (b : List ℕ) → IsMapBody class count P b → Formed class (map vs)
map_formed (Class.Map w) vs count P b h = record { lists = refl; maps = refl; binaries = refl }
map_formed _ vs count P b h = absurd h

array_formed : (class : Class) (code : ℕ) (vs : Data) (count : ℕ) (P : List ℕ → Type 0) (b : List ℕ) → IsArrayBody class code count P b → Formed class (array code vs)
array_formed (Class.Array w) code vs count P b h = record { lists = refl; maps = refl; binaries = refl }
array_formed _ code vs count P b h = absurd h

described_formed : (class : Class) (d v : Datum) (P Q : List ℕ → Type 0) (b : List ℕ) → IsDescribedBody class P Q b → Formed class (described d v)
described_formed Class.Described d v P Q b h = record { lists = refl; maps = refl; binaries = refl }
described_formed _ d v P Q b h = absurd h

formed : (v : Datum) (c : ℕ) (b : List ℕ) → IsBody v c b → Formed (class_of c) v
formed (number k n) c b h = number_formed (class_of c) k n b h
formed (octets r text) c b h = octets_formed (class_of c) r text b h
formed (list vs) c b h = list_formed (class_of c) vs (count_of vs) (AreParts vs None) b h
formed (map vs) c b h = map_formed (class_of c) vs (count_of vs) (AreParts vs None) b h
formed (array code vs) c b h = array_formed (class_of c) code vs (count_of vs) (AreParts vs (Some code)) b h
formed (described d v) c b h = described_formed (class_of c) d v (IsPart None (IsBody d)) (IsPart None (IsBody v)) b h

by_kind : (k : SectionKind) (class : Class) (v : Datum) → Formed class v → begins k class ≡ is_body k v
by_kind kind.Header class v f = f.lists
by_kind kind.DeliveryAnnotations class v f = f.maps
by_kind kind.MessageAnnotations class v f = f.maps
by_kind kind.Properties class v f = f.lists
by_kind kind.ApplicationProperties class v f = f.maps
by_kind kind.Data class v f = f.binaries
by_kind kind.AmqpSequence class v f = f.lists
by_kind kind.AmqpValue class v f = refl
by_kind kind.Footer class v f = f.maps

-- whatever value is in front of octets, their first one says whether it is such a body
pub begins_body : (k : SectionKind) (v : Datum) (c : ℕ) (x rest after : List ℕ) → IsPart None (IsBody v) x → c ∷ after ≡ x ++ rest → begins k (class_of c) ≡ is_body k v
begins_body k v c [] rest after h e = absurd h
begins_body k v c (c' ∷ b) rest after h e =
    let same : c ≡ c' = cc in
    ap (λ (d : ℕ). begins k (class_of d)) same ∙ by_kind k (class_of c') v (formed v c' b h)

pub not_empty : (v : Datum) (x rest : List ℕ) → IsPart None (IsBody v) x → [] ≡ x ++ rest → ⊥
not_empty v [] rest h e = h
not_empty v (c ∷ b) rest h e = cc

-- a binary is the last of the octets that spell it
run_suffix : (class : Class) (r : Run) (text b : List ℕ) → IsOctetsBody class r text b → (head : List ℕ) × (b ≡ head ++ text)
run_suffix (Class.Octets r' w) r text b h = (h.2, h.4)
run_suffix (Class.Sixteen r') r text b h = ([], h.3)
run_suffix _ r text b h = absurd h

pub binary_suffix : (r : Run) (text x : List ℕ) → IsPart None (IsBody (octets r text)) x → (head : List ℕ) × (x ≡ head ++ text)
binary_suffix r text [] h = absurd h
binary_suffix r text (c ∷ b) h = let s = run_suffix (class_of c) r text b h in (c ∷ s.0, ap (λ (z : List ℕ). c ∷ z) s.1)

-- so it lies at the end of what spells it
pub payload_at : (os : List ℕ) (start end used : ℕ) (r : Run) (text : List ℕ) (v : Datum) → start ≤ end → end ≤ length os → Spells (octets r text) (take used (take (end - start) (drop start os))) → SpellsWithin 31 v (take (end - start) (drop start os)) → (octets r text ≡ v) × (take (end - (end - length text)) (drop (end - length text) os) ≡ text)
payload_at os start end used r text v order within s t =
    let whole : List ℕ = take (end - start) (drop start os) in
    let deep : Spells v whole = (t.0, omega (arith, t.1)) in
    let same = one_spelling (octets r text) v (take used whole) whole (drop used whole) [] s deep (take-append-drop used whole ∙ sym (append-nil whole)) in
    let cut = binary_suffix r text (take used whole) s.0 in
    let e : whole ≡ cut.0 ++ text = sym same.1 ∙ cut.1 in
    let n : end - start ≡ length cut.0 + length text = sym (length-take-le (end - start) (drop start os) (omega (arith, length-drop start os))) ∙ ap length e ∙ length-append cut.0 text in
    let at : end - length text ≡ start + length cut.0 = omega (arith, n) in
    let len : end - (end - length text) ≡ length text = omega (arith, n) in
    (same.0, ap (λ (k : ℕ). take k (drop (end - length text) os)) len ∙ ap (λ (k : ℕ). take (length text) (drop k os)) at ∙ ap (take (length text)) (sym (drop-drop (length cut.0) start os)) ∙ sym (drop-take (length cut.0) (length text) (drop start os)) ∙ ap (λ (k : ℕ). drop (length cut.0) (take k (drop start os))) (sym n) ∙ ap (drop (length cut.0)) e ∙ drop-append_seam cut.0 text)

-- places that are counted from further in front
pub further : (from start end : ℕ) (os : List ℕ) → take (from + end - (from + start)) (drop (from + start) os) ≡ take (end - start) (drop start (drop from os))
further from start end os =
    let n : from + end - (from + start) ≡ end - start = omega arith in
    ap (λ (k : ℕ). take k (drop (from + start) os)) n ∙ ap (take (end - start)) (sym (drop-drop start from os))

-- what an index from a place on gives
pub rest_taken : (start : ℕ) (os : List ℕ) → take (length os - start) (drop start os) ≡ drop start os
rest_taken start os = take_all (length os - start) (drop start os) (omega (arith, length-drop start os))

pub view_binary : (os : List ℕ) → view (W.Binary os) ≡ octets run.Binary os
unfolding V.roll-Value denote.Hole.Carrier.roll
view_binary os = fold-roll-Value Datum view_step (Value-F.Binary os)

pub refused_body : (k : SectionKind) (v : Datum) (c : ℕ) (x rest after os : List ℕ) (b : Bool) → b ≡ begins k (class_of c) → b ≡ false → IsTrue (is_body k v) → IsPart None (IsBody v) x → os ≡ c ∷ after → os ≡ x ++ rest → ⊥
refused_body k v c x rest after os b made refused formed h first e =
    let t : false ≡ is_body k v = sym refused ∙ made ∙ begins_body k v c x rest after h (sym first ∙ e) in
    cc

pub accepted_body : (k : SectionKind) (v : Datum) (c used : ℕ) (after os : List ℕ) (b : Bool) → b ≡ begins k (class_of c) → b ≡ true → IsPart None (IsBody v) (take used os) → os ≡ c ∷ after → IsTrue (is_body k v)
accepted_body k v c used after os b made accepted h first = sym (begins_body k v c (take used os) (drop used os) after h (sym first ∙ sym (take-append-drop used os))) ∙ sym made ∙ accepted
