-- Octets in two places: numbers, symbols and texts.
use Rattle.std.proofs.Common.{◌≡◌, ◌≤◌, ◌<◌, ◌+◌, ◌-◌, ℕ, zero, suc, Bool, true, false, ltb, List, [], ◌∷◌, ◌++◌, length, take, drop, min, replicate, refl, sym, ap, subst, ◌∙◌, Some, None, arith, length-append, append-nil, append_assoc, ◌⊎◌, ⊎_elim, ◌&&◌}
use Rattle.std.proofs.lemmas.List.{take-append-drop, take_at, drop_at, take_min, take-take, take-append-le, take-replicate, drop_all, length-replicate, length-take-le}
use Rattle.std.proofs.Math.Seq.{take-append-add, take-length}
use Rattle.std.proofs.lemmas.Slice.{take-put_mid, drop-put_mid}
use borrow.Rule.Slice.PartMut.{put_mid, post_of, Post-is}
use Rattle.std.specs.Int.{from_be_bytes, w64}
use Rattle.amqp_types.specs.declared.class.Width.{Width}
use Rattle.amqp_types.specs.Codes.{octets_in}
use Rattle.amqp_types.specs.Reading.{split, field_at}
use Rattle.amqp_types.proofs.Octets.{number_of_eight}
use Rattle.amqp_types.proofs.Compounds.{split_takes}
use Rattle.std.specs.Str.{IsUtf8, is_utf8}
use Rattle.std.proofs.lemmas.Str.{IsUtf8-append, IsUtf8-drop, IsUtf8-take, IsUtf8-from_is_utf8, is_utf8-from_IsUtf8, IsCharBoundary-from_take, IsCharBoundary-at_seam, IsUtf8-past_char, length-encode, len_utf8_bounds}
use lib.Utf8.{encode, encodes}
use Rattle.amqp_types.specs.Grammar.{number_of, is_ascii}

pub number_padded : (k : ℕ) (text : List ℕ) → number_of (replicate {A = ℕ} k 0 ++ text) ≡ number_of text
unfolding number_of
number_padded zero text = refl
number_padded (suc k) text = number_padded k text

pub ascii_both : (xs ys : List ℕ) → (is_ascii xs && is_ascii ys) ≡ is_ascii (xs ++ ys)
ascii_both [] ys = refl
ascii_both (x ∷ xs) ys = and_next (ltb x 128) (is_ascii xs) (is_ascii ys) (is_ascii (xs ++ ys)) (ascii_both xs ys)
  where
    and_next : (a b c d : Bool) → (b && c) ≡ d → ((a && b) && c) ≡ (a && d)
    and_next true b c d e = e
    and_next false b c d e = refl

same : (a b : Bool) → (a ≡ true → b ≡ true) → (b ≡ true → a ≡ true) → a ≡ b
same true b h k = sym (h refl)
same false true h k = k refl
same false false h k = refl

-- a text in front is taken away
off : (os : List ℕ) (k : ℕ) → k ≤ length os → is_utf8 (take k os) ≡ true → is_utf8 (drop k os) ≡ is_utf8 os
off os k n h =
    let front = IsUtf8-from_is_utf8 (take k os) h in
    same (is_utf8 (drop k os)) (is_utf8 os)
    (λ r. is_utf8-from_IsUtf8 os (subst (λ (x : List ℕ). IsUtf8 x) (take-append-drop k os) (IsUtf8-append (take k os) (drop k os) front (IsUtf8-from_is_utf8 (drop k os) r))))
    (λ w. let u = IsUtf8-from_is_utf8 os w in is_utf8-from_IsUtf8 (drop k os) (IsUtf8-drop os k u (IsCharBoundary-from_take os k u n front)))

head_of : (os head : List ℕ) (count k : ℕ) → take count head ≡ take 4 os → count ≡ min 4 (length os) → k ≤ count → take k head ≡ take k os
head_of os head count k e n h = sym (take-take k count head h) ∙ ap (take k) e ∙ take-take k 4 os (omega arith)

pub char_off : (os head : List ℕ) (count k : ℕ) → take count head ≡ take 4 os → count ≡ min 4 (length os) → k ≤ count → true ≡ is_utf8 (take k head) → is_utf8 (drop k os) ≡ is_utf8 os
char_off os head count k e n h u = off os k (omega arith) (ap is_utf8 (sym (head_of os head count k e n h)) ∙ sym u)

-- a text that is not empty begins with a character of at most four octets
record Begins (os : List ℕ) : Type 0 where
  size : ℕ
  some : 1 ≤ size
  most : size ≤ 4
  within : size ≤ length os
  is : is_utf8 (take size os) ≡ true

begins : (os : List ℕ) → 0 < length os → IsUtf8 os → Begins os
begins os n ([], (s, e)) = absurd (omega (arith, ap length e))
begins os n (c ∷ cs, (s, e)) =
    let parts : os ≡ encode c ++ encodes cs = sym e in
    let u : IsUtf8 os = (c ∷ cs, (s, e)) in
    let rest = IsUtf8-past_char os (encodes cs) c u parts in
    let b = len_utf8_bounds c in
    record {
      size = length (encode c);
      some = omega (arith, length-encode c, b.0);
      most = omega (arith, length-encode c, b.1);
      within = omega (arith, ap length parts, length-append (encode c) (encodes cs));
      is = is_utf8-from_IsUtf8 (take (length (encode c)) os) (IsUtf8-take os (length (encode c)) u (IsCharBoundary-at_seam os (encode c) (encodes cs) parts rest));
    }

pub no_char : (os head : List ℕ) (count : ℕ) → take count head ≡ take 4 os → count ≡ min 4 (length os) → 0 < length os → ((k : ℕ) → 1 ≤ k → k ≤ count → false ≡ is_utf8 (take k head)) → is_utf8 os ≡ false
no_char os head count e n some none = false_of (is_utf8 os) (λ w.
    let b = begins os some (IsUtf8-from_is_utf8 os w) in
    let m : b.size ≤ count = omega (arith, b.most, b.within) in
    let q : true ≡ false = sym (ap is_utf8 (head_of os head count b.size e n m) ∙ b.is) ∙ sym (none b.size b.some m) in cc)
  where
    false_of : (b : Bool) → (b ≡ true → ⊥) → b ≡ false
    false_of true h = absurd (h refl)
    false_of false h = refl

-- ---- the first octets

first_many : (most : ℕ) (x y : List ℕ) (m n : ℕ) → m ≡ min (length x) most → n ≡ min (length y) (most - m) → most ≤ length x → take m x ++ take n y ≡ take most (x ++ y)
first_many most x y m n e f h =
    let a : m ≡ most = omega arith in
    let b : n ≡ 0 = omega arith in
    ap (λ (t : ℕ). take t x ++ take n y) a ∙ ap (λ (t : ℕ). take most x ++ take t y) b ∙ append-nil (take most x) ∙ sym (take-append-le most x y h)

first_few : (most : ℕ) (x y : List ℕ) (m n : ℕ) → m ≡ min (length x) most → n ≡ min (length y) (most - m) → length x < most → take m x ++ take n y ≡ take most (x ++ y)
first_few most x y m n e f h =
    let a : m ≡ length x = omega arith in
    let b : n ≡ min (most - length x) (length y) = omega arith in
    let c : most ≡ length x + (most - length x) = omega arith in
    ap (λ (t : ℕ). take t x ++ take n y) a ∙ ap (λ (t : List ℕ). t ++ take n y) (take-length x)
    ∙ ap (λ (t : ℕ). x ++ take t y) b ∙ ap (λ (t : List ℕ). x ++ t) (take_min (most - length x) y)
    ∙ sym (ap (λ (t : ℕ). take t (x ++ y)) c ∙ take-append-add x y (most - length x))

first_split : (most n : ℕ) → (most ≤ n) ⊎ (n < most)
first_split most n = grind arith

pub first_are : (most : ℕ) (x y : List ℕ) (m n : ℕ) → m ≡ min (length x) most → n ≡ min (length y) (most - m) → take m x ++ take n y ≡ take most (x ++ y)
first_are most x y m n e f = ⊎_elim (first_many most x y m n e f) (first_few most x y m n e f) (first_split most (length x))

pub written : (m n : ℕ) (zeros p q x y : List ℕ) → p ≡ take m x → q ≡ take n y → m ≤ length x → n ≤ length y → take (m + n) (put_mid m (m + n - m) (p ++ drop m zeros) q) ≡ take m x ++ take n y
written m n zeros p q x y e f h k =
    let a : length p ≡ m = ap length e ∙ length-take-le m x h in
    let b : length q ≡ n = ap length f ∙ length-take-le n y k in
    take-put_mid m (m + n - m) (p ++ drop m zeros) q (m + n) (omega arith) (omega (arith, length-append p (drop m zeros)))
    ∙ ap (λ (t : List ℕ). t ++ q) (take_at p (drop m zeros) m a ∙ e) ∙ ap (λ (t : List ℕ). take m x ++ t) f

abbrev zeros : List ℕ
zeros = replicate {A = ℕ} 8 0

pub padded_is : (s m : ℕ) (p q x y : List ℕ) → p ≡ x → q ≡ y → m ≡ s + length x → m + length y ≡ 8 → put_mid m (8 - m) (put_mid s (m - s) zeros p) q ≡ replicate {A = ℕ} s 0 ++ (x ++ y)
padded_is s m p q x y e f n k =
    let lp : length p ≡ length x = ap length e in
    let z : List ℕ = put_mid s (m - s) zeros p in
    let front : take m z ≡ replicate {A = ℕ} s 0 ++ p = take-put_mid s (m - s) zeros p m (omega arith) (omega arith) ∙ ap (λ (t : List ℕ). t ++ p) (take-replicate s 8 0 (omega arith)) in
    let back : post_of m (8 - m) z ≡ [] = Post-is m 8 z (omega arith) ∙ drop-put_mid s (m - s) zeros p 8 (omega arith) (omega arith) (omega arith) ∙ drop_all 8 zeros (omega arith) in
    ap (λ (t : List ℕ). t ++ (q ++ post_of m (8 - m) z)) front ∙ ap (λ (t : List ℕ). (replicate {A = ℕ} s 0 ++ p) ++ (q ++ t)) back
    ∙ ap (λ (t : List ℕ). (replicate {A = ℕ} s 0 ++ p) ++ t) (append-nil q) ∙ append_assoc (replicate {A = ℕ} s 0) p q
    ∙ ap (λ (t : List ℕ). replicate {A = ℕ} s 0 ++ (t ++ q)) e ∙ ap (λ (t : List ℕ). replicate {A = ℕ} s 0 ++ (x ++ t)) f

pub no_field : (w : Width) (os : List ℕ) (count : ℕ) → count ≡ octets_in w → None ≡ split count os → None ≡ field_at w os
unfolding field_at
no_field w os count e h = rw (← e, ← h) refl

pub some_field : (w : Width) (os text rest eight : List ℕ) (count n : ℕ) → count ≡ octets_in w → Some (text, rest) ≡ split count os → count ≤ 8 → eight ≡ replicate {A = ℕ} (8 - count) 0 ++ text → n ≡ from_be_bytes w64 eight → Some (n, rest) ≡ field_at w os
unfolding field_at
some_field w os text rest eight count n e h most is from =
    let t = split_takes count os (text, rest) (sym h) in
    let len : length eight ≡ 8 = ap length is ∙ length-append (replicate {A = ℕ} (8 - count) 0) text ∙ omega (arith, length-replicate {A = ℕ} (8 - count) 0, t.1) in
    let same : n ≡ number_of text = from ∙ number_of_eight eight len ∙ ap number_of is ∙ number_padded (8 - count) text in
    rw (← e, ← h, same) refl

-- what is left of a text without the character in front
pub past_char : (os head text rest : List ℕ) (count k : ℕ) → take count head ≡ take 4 os → count ≡ min 4 (length os) → 1 ≤ k → k ≤ count → true ≡ is_utf8 (take k head) → Some (text, rest) ≡ split k os → (is_utf8 rest ≡ is_utf8 os) × (length rest < length os)
past_char os head text rest count k e n some h u cut =
    let t = split_takes k os (text, rest) (sym cut) in
    let parts : drop k os ≡ rest = ap (drop k) t.0 ∙ drop_at text rest k t.1 in
    (ap is_utf8 (sym parts) ∙ char_off os head count k e n h u, omega (arith, ap length t.0, length-append text rest, t.1))

abbrev pub NoTexts : List ℕ → ℕ → Type 0
NoTexts head n = (k : ℕ) → 1 ≤ k → k ≤ n → false ≡ is_utf8 (take k head)

last_or_less : (k n : ℕ) → k ≤ n + 1 → (k ≤ n) ⊎ (k ≡ n + 1)
last_or_less k n h = grind arith

pub no_texts_next : (head : List ℕ) (n : ℕ) → NoTexts head n → false ≡ is_utf8 (take (n + 1) head) → NoTexts head (n + 1)
no_texts_next head n none last k some most = ⊎_elim (λ m. none k some m) (λ e. last ∙ ap (λ (t : ℕ). is_utf8 (take t head)) (sym e)) (last_or_less k n most)

pub no_texts : (head : List ℕ) (n : ℕ) → n ≡ 0 → NoTexts head n
no_texts head n e k some most = absurd (omega arith)
