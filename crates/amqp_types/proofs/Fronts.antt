-- What a reader of one type finds in front of octets.
use Rattle.std.proofs.Common.{◌≡◌, ◌≤◌, ◌-◌, ◌+◌, ℕ, suc, Bool, true, false, cond, eqb, ◌||◌, List, [], ◌∷◌, ◌++◌, length, take, Option, Some, None, get_or, refl, sym, ap, subst, ◌∙◌, arith, eq-eqb, ◌<◌, ◌*◌, ◌^◌, zero}
use Rattle.std.specs.Borrow.{Bor}
use Rattle.std.specs.Prelude.{option_map}
use Rattle.std.specs.List.{list_any, IsFirstAndRest}
use Rattle.std.proofs.lemmas.Bool.{ne_eqb}
use Rattle.std.proofs.lemmas.List.{length-append}
use Rattle.std.proofs.Math.Nat.{pow-suc, mul-le-mul_right}
use Rattle.amqp_types.specs.declared.class.Class.{Class}
use Rattle.amqp_types.specs.declared.class.Kind.{Kind}
use Rattle.amqp_types.specs.declared.class.Run.{Run}
use Rattle.amqp_types.specs.declared.class.Conversion.{Conversion}
use Rattle.amqp_types.specs.declared.class.Width.{Width}
use Rattle.amqp_types.specs.Codes.{table, class_in, class_of, octets_in, kind_index, run_index, codes_in, of_run, HasCodes}
use Rattle.amqp_types.specs.Datum.{number, octets}
use Rattle.amqp_types.specs.Grammar.{number_from, number_of, read_number, fits, IsNumberBody, IsOctetsBody, is_run, Spells, IsFront, IsCandidate}
use Rattle.amqp_types.specs.Reading.{split, field_at, number_at, run_at, octets_at, body_by, body_at, part_at}
use Rattle.amqp_types.proofs.Compounds.{field_takes, split_takes, guard_some}
use Rattle.amqp_types.proofs.Laws.{nothing_read, spelling_taken, spelled_is_read}

-- ---- the codes of a type

abbrev pub is_code : List ℕ → ℕ → Bool
is_code codes c = list_any (λ code. eqb c code) codes

code_here : (c code : ℕ) (codes : List ℕ) → eqb c code ≡ true → is_code (code ∷ codes) c ≡ true
code_here c code codes e = rw e refl

or_true : (a b : Bool) → b ≡ true → (a || b) ≡ true
or_true true b e = refl
or_true false b e = e

code_later : (here : Bool) (c code : ℕ) (codes : List ℕ) → is_code codes c ≡ true → is_code (cond here (code ∷ codes) codes) c ≡ true
code_later true c code codes e = or_true (eqb c code) (is_code codes c) e
code_later false c code codes e = e

code_found : (of : Class → Bool) (rows : List (ℕ × Class)) (c code : ℕ) (class : Class) (at here : Bool) → eqb c code ≡ at → of class ≡ here → (of (class_in rows c) ≡ true → is_code (codes_in of rows) c ≡ true)
    → of (cond at class (class_in rows c)) ≡ true → is_code (cond here (code ∷ codes_in of rows) (codes_in of rows)) c ≡ true
code_found of rows c code class true true e k later h = code_here c code (codes_in of rows) e
code_found of rows c code class true false e k later h = absurd (let q : false ≡ true = sym k ∙ h in cc)
code_found of rows c code class false here e k later h = code_later here c code (codes_in of rows) (later h)

-- a code whose class is of a type is among the codes of that type
pub class_listed : (of : Class → Bool) → of Class.Unknown ≡ false → (rows : List (ℕ × Class)) (c : ℕ) → of (class_in rows c) ≡ true → is_code (codes_in of rows) c ≡ true
class_listed of none [] c h = absurd (let q : false ≡ true = sym none ∙ h in cc)
class_listed of none (row ∷ rows) c h = code_found of rows c row.0 row.1 (eqb c row.0) (of row.1) refl refl (class_listed of none rows c) h

abbrev pub of_kind : Kind → Class → Bool
of_kind k (Class.Number k' w r) = eqb (kind_index k') (kind_index k)
of_kind k _ = false

abbrev pub of_list : Class → Bool
of_list Class.EmptyList = true
of_list (Class.List w) = true
of_list _ = false

-- ---- numbers

number_body_kind : (k : Kind) (n : ℕ) (class : Class) (b : List ℕ) → IsNumberBody class k n b → of_kind k class ≡ true
number_body_kind k n (Class.Number k' w r) b h = eq-eqb _ _ (ap kind_index h.0)
number_body_kind k n _ b h = absurd h

-- no code of the type
pub front_other : (k : Kind) (codes : List ℕ) (c : ℕ) (os bytes : List ℕ) → codes_in (of_kind k) table ≡ codes → IsFirstAndRest bytes c os → is_code codes c ≡ false
    → (n : ℕ) (x rest : List ℕ) → Spells (number k n) x → bytes ≡ x ++ rest → ⊥
unfolding class_of
front_other k codes c os bytes all first other n [] rest h e = h.0
front_other k codes c os bytes all first other n (c' ∷ b) rest h e =
    let same : c' ≡ c = let q : c ∷ os ≡ c' ∷ (b ++ rest) = sym first.0 ∙ e in cc in
    let yes : is_code codes c ≡ true = rw (← all, ← same) (class_listed (of_kind k) refl table c' (number_body_kind k n (class_of c') b h.0)) in
    absurd (let q : false ≡ true = sym other ∙ yes in cc)

pub read_front : (n c : ℕ) (os bytes : List ℕ) → IsFirstAndRest bytes c os → part_at (suc n) None bytes ≡ body_by (part_at n) (class_of c) os
unfolding body_at
read_front n c os bytes first = rw first.0 refl

read_number_front : (k : Kind) (w : Width) (r : Conversion) (c code : ℕ) (os bytes : List ℕ) → IsFirstAndRest bytes c os → c ≡ code → class_of code ≡ Class.Number k w r → part_at 32 None bytes ≡ number_at k w r os
read_number_front k w r c code os bytes first e is = read_front 31 c os bytes first ∙ rw (e, is) refl

-- a code of the type, and too few octets
pub front_short : (k : Kind) (w : Width) (r : Conversion) (c code : ℕ) (os bytes : List ℕ) → IsFirstAndRest bytes c os → c ≡ code → class_of code ≡ Class.Number k w r → None ≡ field_at w os
    → (n : ℕ) (x rest : List ℕ) → Spells (number k n) x → bytes ≡ x ++ rest → ⊥
unfolding number_at
front_short k w r c code os bytes first e is short n x rest h parts =
    nothing_read 32 bytes (read_number_front k w r c code os bytes first e is ∙ rw (← short) refl) (number k n) x rest h parts

-- a code of the type, and a number that it does not have
pub front_unfit : (k : Kind) (w : Width) (r : Conversion) (c code : ℕ) (os bytes : List ℕ) → IsFirstAndRest bytes c os → c ≡ code → class_of code ≡ Class.Number k w r
    → (m : ℕ) (after : List ℕ) → Some (m, after) ≡ field_at w os → fits k (read_number r m) ≡ false → (n : ℕ) (x rest : List ℕ) → Spells (number k n) x → bytes ≡ x ++ rest → ⊥
unfolding number_at
front_unfit k w r c code os bytes first e is m after there unfit n x rest h parts =
    nothing_read 32 bytes (read_number_front k w r c code os bytes first e is ∙ rw (← there, unfit) refl) (number k n) x rest h parts

get_or-front : (a b os : List ℕ) (i : ℕ) → ((j : ℕ) → get_or os j 0 < 256) → os ≡ a ++ b → get_or a i 0 < 256
get_or-front [] b os i small e = omega arith
get_or-front (x ∷ a) b os zero small e = let q : get_or os 0 0 ≡ x = ap (λ (l : List ℕ). get_or l 0 0) e in omega (arith, small 0, q)
get_or-front (x ∷ a) b os (suc i) small e = get_or-front a b (a ++ b) i (λ j. let q : get_or os (suc j) 0 ≡ get_or (a ++ b) j 0 = ap (λ (l : List ℕ). get_or l (suc j) 0) e in omega (arith, small (suc j), q)) refl

-- how large a number of so many octets is
number_from-bound : (n : ℕ) (bs : List ℕ) → ((i : ℕ) → get_or bs i 0 < 256) → number_from n bs < (n + 1) * 256 ^ length bs
number_from-bound n [] h = omega arith
number_from-bound n (b ∷ bs) h =
    let b_is : b < 256 = h 0 in
    let others : number_from (n * 256 + b) bs < (n * 256 + b + 1) * 256 ^ length bs = number_from-bound (n * 256 + b) bs (λ i. h (suc i)) in
    let most : (n * 256 + b + 1) * 256 ^ length bs ≤ ((n + 1) * 256) * 256 ^ length bs = mul-le-mul_right (256 ^ length bs) (omega arith) in
    rw pow-suc (omega (arith, others, most))

front_bound : (w : Width) (os : List ℕ) (m : ℕ) (after : List ℕ) → ((i : ℕ) → get_or os i 0 < 256) → Some (m, after) ≡ field_at w os → m < 256 ^ octets_in w
unfolding number_of
front_bound w os m after small there =
    let f = field_takes w os (m, after) (sym there) in
    let small_head : (i : ℕ) → get_or f.head i 0 < 256 = λ i. get_or-front f.head after os i small f.parts in
    let b : number_from 0 f.head < (0 + 1) * 256 ^ length f.head = number_from-bound 0 f.head small_head in
    let len : 256 ^ length f.head ≡ 256 ^ octets_in w = ap (λ (k : ℕ). 256 ^ k) f.field_is.0 in
    let same : number_from 0 f.head ≡ m = f.field_is.1 in
    omega (arith, b, len, same)

-- a number
pub front_found : (k : Kind) (w : Width) (r : Conversion) (c code : ℕ) (os bytes : List ℕ) → IsFirstAndRest bytes c os → c ≡ code → class_of code ≡ Class.Number k w r
    → ((i : ℕ) → get_or bytes i 0 < 256) → (m : ℕ) (after : List ℕ) → Some (m, after) ≡ field_at w os → (n : ℕ) → read_number r m ≡ n → (m < 256 ^ octets_in w → fits k n ≡ true)
    → (suc (octets_in w) ≤ length bytes) × Spells (number k n) (take (suc (octets_in w)) bytes)
unfolding number_at
front_found k w r c code os bytes first e is small m after there n m_is fit_of =
    let small_rest : (i : ℕ) → get_or os i 0 < 256 = λ i. let q : get_or bytes (suc i) 0 ≡ get_or os i 0 = rw first.0 refl in rw (← q) (small (suc i)) in
    let fit : fits k n ≡ true = fit_of (front_bound w os m after small_rest there) in
    let read : part_at 32 None bytes ≡ Some (number k n, after) = read_number_front k w r c code os bytes first e is ∙ rw (← there, m_is, fit) refl in
    let f = field_takes w os (m, after) (sym there) in
    let len : length os ≡ octets_in w + length after = ap length f.parts ∙ length-append f.head after ∙ ap (λ (i : ℕ). i + length after) f.field_is.0 in
    let used : length bytes - length after ≡ suc (octets_in w) = omega (arith, first.1, len) in
    (omega (arith, first.1, len), subst (λ (i : ℕ). Spells (number k n) (take i bytes)) used (spelling_taken 32 bytes (number k n) after read))

pub not_code : (c code : ℕ) (codes : List ℕ) → (c ≡ code → ⊥) → is_code codes c ≡ false → is_code (code ∷ codes) c ≡ false
not_code c code codes apart others = rw (ne_eqb c code apart) others

-- ---- octets

octets_body_run : (r : Run) (text : List ℕ) (class : Class) (b : List ℕ) → IsOctetsBody class r text b → of_run r class ≡ true
octets_body_run r text (Class.Octets r' w) b h = eq-eqb _ _ (ap run_index h.0)
octets_body_run r text (Class.Sixteen r') b h = eq-eqb _ _ (ap run_index h.0)
octets_body_run r text _ b h = absurd h

pub candidate_other : (r : Run) (small large c : ℕ) (os bytes : List ℕ) → HasCodes r small large → IsFirstAndRest bytes c os → (c ≡ small → ⊥) → (c ≡ large → ⊥) → IsCandidate r bytes None
unfolding class_of
candidate_other r small large c os bytes codes first other_small other_large text [] rest h e = h.0
candidate_other r small large c os bytes codes first other_small other_large text (c' ∷ b) rest h e =
    let same : c' ≡ c = let q : c ∷ os ≡ c' ∷ (b ++ rest) = sym first.0 ∙ e in cc in
    let listed : is_code (codes_in (of_run r) table) c' ≡ true = class_listed (of_run r) refl table c' (octets_body_run r text (class_of c') b h.0) in
    let yes : is_code (small ∷ large ∷ []) c ≡ true = subst (λ (l : List ℕ). is_code l c ≡ true) codes.0 (subst (λ (d : ℕ). is_code (codes_in (of_run r) table) d ≡ true) same listed) in
    let other : is_code (small ∷ large ∷ []) c ≡ false = not_code c small (large ∷ []) other_small (not_code c large [] other_large refl) in
    absurd (let q : false ≡ true = sym other ∙ yes in cc)

read_octets_front : (r : Run) (w : Width) (c code : ℕ) (os bytes : List ℕ) → IsFirstAndRest bytes c os → c ≡ code → class_of code ≡ Class.Octets r w → part_at 32 None bytes ≡ octets_at r w os
read_octets_front r w c code os bytes first e is = read_front 31 c os bytes first ∙ rw (e, is) refl

pub candidate_no_size : (r : Run) (w : Width) (c code : ℕ) (os bytes : List ℕ) → IsFirstAndRest bytes c os → c ≡ code → class_of code ≡ Class.Octets r w → None ≡ field_at w os → IsCandidate r bytes None
unfolding octets_at
candidate_no_size r w c code os bytes first e is short text x rest h parts =
    nothing_read 32 bytes (read_octets_front r w c code os bytes first e is ∙ rw (← short) refl) (octets r text) x rest h parts

pub candidate_short : (r : Run) (w : Width) (c code : ℕ) (os bytes : List ℕ) → IsFirstAndRest bytes c os → c ≡ code → class_of code ≡ Class.Octets r w
    → (n : ℕ) (behind : List ℕ) → Some (n, behind) ≡ field_at w os → None ≡ split n behind → IsCandidate r bytes None
unfolding octets_at run_at
candidate_short r w c code os bytes first e is n behind sized short text x rest h parts =
    nothing_read 32 bytes (read_octets_front r w c code os bytes first e is ∙ rw (← sized, ← short) refl) (octets r text) x rest h parts

pub candidate_after : (w : Width) (c : ℕ) (os bytes : List ℕ) → IsFirstAndRest bytes c os → (n : ℕ) (behind text after : List ℕ) → Some (n, behind) ≡ field_at w os → Some (text, after) ≡ split n behind → length after ≤ length bytes
candidate_after w c os bytes first n behind text after sized cut =
    let f = field_takes w os (n, behind) (sym sized) in
    let s = split_takes n behind (text, after) (sym cut) in
    omega (arith, first.1, ap length f.parts, length-append f.head behind, ap length s.0, length-append text after)

pub candidate_found : (r : Run) (w : Width) (c code : ℕ) (os bytes : List ℕ) → IsFirstAndRest bytes c os → c ≡ code → class_of code ≡ Class.Octets r w
    → (n : ℕ) (behind text after : List ℕ) → Some (n, behind) ≡ field_at w os → Some (text, after) ≡ split n behind → IsCandidate r bytes (Some (text, length bytes - length after))
unfolding octets_at run_at
candidate_found r w c code os bytes first e is n behind text after sized cut =
    let read : part_at 32 None bytes ≡ cond (is_run r text) (Some (octets r text, after)) None = read_octets_front r w c code os bytes first e is ∙ rw (← sized, ← cut) refl in (
      omega arith,
      λ ok. spelling_taken 32 bytes (octets r text) after (read ∙ rw ok refl),
      λ text' x rest h parts.
          let again : cond (is_run r text) (Some (octets r text, after)) None ≡ Some (octets r text', rest) = sym read ∙ ap (part_at 32 None) parts ∙ spelled_is_read 32 (octets r text') x rest h in
          (guard_some (is_run r text) (Some (octets r text, after)) (octets r text', rest) again).0,
    )

-- with octets that the sort may have, and without
pub front_text : (r : Run) (bytes text : List ℕ) (used : ℕ) → IsCandidate r bytes (Some (text, used)) → is_run r text ≡ true → (used ≤ length bytes) × Spells (octets r text) (take used bytes)
front_text r bytes text used h ok = (h.0, h.1 ok)

pub front_no_text : (r : Run) (bytes text : List ℕ) (used : ℕ) → IsCandidate r bytes (Some (text, used)) → is_run r text ≡ false → IsCandidate r bytes None
front_no_text r bytes text used h bad text' x rest spelled parts = let ok = h.2 text' x rest spelled parts in cc

pub front_binary : (bytes : List ℕ) (answer : Option (Bor (List ℕ) × ℕ)) → IsCandidate Run.Binary bytes (option_map (λ x. (x.0.now, x.1)) answer) → IsFront (λ t. octets Run.Binary t.now) bytes answer
front_binary bytes (Some found) h = (h.0, h.1 refl)
front_binary bytes None h = λ a. h a.now
