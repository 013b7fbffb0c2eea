-- The heads of lists and of described values.
use Rattle.std.proofs.Common.{◌≡◌, ◌≤◌, ◌+◌, ℕ, suc, false, true, List, [], ◌∷◌, ◌++◌, length, take, drop, Option, Some, None, refl, sym, ap, subst, ◌∙◌, append_assoc, arith}
use Rattle.std.specs.List.{IsFirstAndRest}
use Rattle.std.specs.Prelude.{MatchOption}
use Rattle.amqp_types.specs.declared.heads.ListHead.{ListHead}
use Rattle.std.proofs.lemmas.List.{length-append, take_at, drop_at}
use Rattle.amqp_types.specs.declared.class.Class.{Class}
use Rattle.amqp_types.specs.declared.class.Width.{Width}
use Rattle.amqp_types.specs.Codes.{table, class_of, codes_in}
use Rattle.amqp_types.specs.Datum.{Datum, list, described, Data, none, item, count_of}
use Rattle.amqp_types.specs.Grammar.{IsListBody, IsCompound, AreParts, SpellsWithin, IsListWith}
use Rattle.amqp_types.specs.Heads.{IsListHead, HasNoList}
use Rattle.amqp_types.specs.Reading.{compound_at}
use Rattle.amqp_types.proofs.Compounds.{compound_takes, compound_again}
use Rattle.amqp_types.proofs.Fronts.{of_list, is_code, class_listed}

-- ---- a list's head found

compound_drop : (w : Width) (count : ℕ) (content body : List ℕ) (c start : ℕ) → IsCompound w count content body → start + length content ≡ suc (length body) → drop start (c ∷ body) ≡ content
compound_drop w count content body c start f at =
    let front : List ℕ = c ∷ (f.size_field ++ f.count_field) in
    let whole : c ∷ body ≡ front ++ content = ap (λ (l : List ℕ). c ∷ l) (f.parts ∙ sym (append_assoc f.size_field f.count_field content)) in
    let len : length front ≡ start = omega (arith, ap length whole, length-append front content, at) in
    ap (drop start) whole ∙ drop_at front content start len

pub head_found : (c : ℕ) (w : Width) (body bytes : List ℕ) → IsFirstAndRest bytes c body → class_of c ≡ Class.List w
    → (count start end : ℕ) (content after : List ℕ) → compound_at w body ≡ Some ((count, content), after) → end + length after ≡ length bytes → start + length content ≡ end → IsListHead bytes count start end
head_found c w body bytes first is count start end content after compound end_is start_is =
    let f = compound_takes w body ((count, content), after) compound in
    let whole : bytes ≡ (c ∷ f.body) ++ after = first.0 ∙ ap (λ (l : List ℕ). c ∷ l) f.parts in
    let len : length (c ∷ f.body) ≡ end = omega (arith, ap length whole, length-append (c ∷ f.body) after, end_is) in
    let front : take end bytes ≡ c ∷ f.body = ap (take end) whole ∙ take_at (c ∷ f.body) after end len in
    let items : drop start (c ∷ f.body) ≡ content = compound_drop w count content f.body c start f.compound (start_is ∙ sym len) in (
      omega arith,
      omega arith,
      subst (λ (x : List ℕ). IsListWith count (drop start x) x) (sym front) (rw is (content, sym items, f.compound)),
      (λ e. omega (arith, e, len, start_is, ap length f.compound.parts, length-append f.compound.size_field (f.compound.count_field ++ content), length-append f.compound.count_field content)),
    )

pub empty_head : (c : ℕ) (body bytes : List ℕ) → IsFirstAndRest bytes c body → class_of c ≡ Class.EmptyList → IsListHead bytes 0 1 1
empty_head c body bytes first is =
    let front : take 1 bytes ≡ c ∷ [] = ap (take 1) first.0 in
    (omega arith, omega (arith, first.1), subst (λ (x : List ℕ). IsListWith 0 (drop 1 x) x) (sym front) (rw is (refl, refl)), (λ e. refl))

-- ---- no list's head

list_body_listed : (count : ℕ) (P : List ℕ → Type 0) (class : Class) (b : List ℕ) → IsListBody class count P b → of_list class ≡ true
list_body_listed count P Class.EmptyList b h = refl
list_body_listed count P (Class.List w) b h = refl
list_body_listed count P _ b h = absurd h

pub no_list_code : (c : ℕ) (body bytes : List ℕ) → IsFirstAndRest bytes c body → is_code (69 ∷ 192 ∷ 208 ∷ []) c ≡ false → HasNoList bytes
unfolding class_of
no_list_code c body bytes first other count content [] rest h e = h
no_list_code c body bytes first other count content (c' ∷ b) rest h e =
    let same : c' ≡ c = let q : c ∷ body ≡ c' ∷ (b ++ rest) = sym first.0 ∙ e in cc in
    let listed : is_code (codes_in of_list table) c' ≡ true = class_listed of_list refl table c' (list_body_listed count (λ x. x ≡ content) (class_of c') b h) in
    let yes : is_code (69 ∷ 192 ∷ 208 ∷ []) c ≡ true = subst (λ (d : ℕ). is_code (codes_in of_list table) d ≡ true) same listed in
    absurd (let q : false ≡ true = sym other ∙ yes in cc)

list_body_again : (w : Width) (count : ℕ) (content : List ℕ) (class : Class) (b rest : List ℕ) → class ≡ Class.List w → IsListBody class count (λ x. x ≡ content) b → compound_at w (b ++ rest) ≡ Some ((count, content), rest)
list_body_again w count content (Class.List v) b rest e h =
    let same : v ≡ w = cc in
    let compound : IsCompound w count content b = subst (λ (u : Width). IsCompound u count content b) same (subst (λ (x : List ℕ). IsCompound v count x b) h.1 h.2) in
    compound_again w count content b rest compound
list_body_again w count content _ b rest e h = absurd cc

pub no_list_compound : (c : ℕ) (w : Width) (body bytes : List ℕ) → IsFirstAndRest bytes c body → class_of c ≡ Class.List w → compound_at w body ≡ None → HasNoList bytes
no_list_compound c w body bytes first is missing count content [] rest h e = h
no_list_compound c w body bytes first is missing count content (c' ∷ b) rest h e =
    let both : c ∷ body ≡ c' ∷ (b ++ rest) = sym first.0 ∙ e in
    let same : c' ≡ c = cc in
    let behind : body ≡ b ++ rest = cc in
    let again : compound_at w (b ++ rest) ≡ Some ((count, content), rest) = list_body_again w count content (class_of c') b rest (ap class_of same ∙ is) h in
    let missed : compound_at w (b ++ rest) ≡ None = ap (compound_at w) (sym behind) ∙ missing in
    absurd (let q : ◌≡◌ {A = Option ((ℕ × List ℕ) × List ℕ)} None (Some ((count, content), rest)) = sym missed ∙ again in cc)

-- ---- a list from its head and its items

no_items : (vs : Data) → count_of vs ≡ 0 → AreParts vs None []
no_items none h = refl
no_items (item v vs) h = absurd cc

head_of_body : (vs : Data) (b : List ℕ) (class : Class) → IsListBody class (count_of vs) (AreParts vs None) b → (content : List ℕ) × IsListBody class (count_of vs) (λ x. x ≡ content) b × AreParts vs None content
head_of_body vs b Class.EmptyList g = ([], g, no_items vs g.0)
head_of_body vs b (Class.List w) g = (g.0, (g.0, refl, g.2), g.1)
head_of_body vs b _ g = absurd g

-- and a list has one
pub head_of_list : (n : ℕ) (vs : Data) (os : List ℕ) → SpellsWithin n (list vs) os → (content : List ℕ) × IsListWith (count_of vs) content os × AreParts vs None content
head_of_list n vs [] h = absurd h.0
head_of_list n vs (c ∷ b) h = head_of_body vs b (class_of c) h.0

-- ---- a described value

pub described_from_parts : (n : ℕ) (d v : Datum) (x y : List ℕ) → SpellsWithin n d x → SpellsWithin n v y → SpellsWithin (suc n) (described d v) (0x00 ∷ (x ++ y))
unfolding class_of
described_from_parts n d v x y hd hv = ((x, y, hd.0, hv.0, refl), omega (arith, hd.1, hv.1))

-- ---- what read_compound_head gives

pub compound_room : (w : Width) (body : List ℕ) (count : ℕ) (content after : List ℕ) → Some ((count, content), after) ≡ compound_at w body → length content + length after ≤ length body
compound_room w body count content after compound =
    let f = compound_takes w body ((count, content), after) (sym compound) in
    omega (arith, ap length f.parts, length-append f.body after, ap length f.compound.parts, length-append f.compound.size_field (f.compound.count_field ++ content), length-append f.compound.count_field content)

abbrev IsCompoundHead : Width → List ℕ → ℕ → Option ListHead → Type 0
IsCompoundHead w body whole answer = MatchOption answer (compound_at w body ≡ None)
    (λ head. (content after : List ℕ) × (compound_at w body ≡ Some ((head.count, content), after)) × (head.end + length after ≡ whole) × (head.start + length content ≡ head.end))

pub compound_answer : (c code : ℕ) (w : Width) (body bytes : List ℕ) → IsFirstAndRest bytes c body → c ≡ code → class_of code ≡ Class.List w → (whole : ℕ) → whole ≡ length bytes → (answer : Option ListHead) → IsCompoundHead w body whole answer
    → MatchOption answer (HasNoList bytes) (λ head. IsListHead bytes head.count head.start head.end)
compound_answer c code w body bytes first e is whole all None h = no_list_compound c w body bytes first (ap class_of e ∙ is) h
compound_answer c code w body bytes first e is whole all (Some head) h = head_found c w body bytes first (ap class_of e ∙ is) head.count head.start head.end h.0 h.1 h.2 (h.3 ∙ all) h.4
