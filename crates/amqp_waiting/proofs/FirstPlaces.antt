-- Where the peer told each tag first.
use Rattle.std.proofs.Common.{◌≡◌, ℕ, suc, ◌+◌, ◌<◌, Bool, true, false, cond, ◌||◌, true≢false, Option, None, Some, List, [], ◌∷◌, ◌++◌, length, take, get_or, is_some, option_map, refl, sym, ap, ◌∙◌, arith, length-take-le}
use Rattle.std.specs.List.{list_any}
use Rattle.std.specs.Map.{keys_of, lookup}
use Rattle.std.specs.Cmp.Lexicographic.{bytes_decides}
use Rattle.std.proofs.lemmas.List.{take_more}
use Rattle.indexmap.specs.IndexMap.{insert_entry}
use Rattle.amqp_waiting.specs.declared.key.Key.{Key}
use Rattle.amqp_waiting.specs.declared.peer.Told.{Told}
use Rattle.amqp_waiting.specs.Waiting.{same_tag}
use Rattle.amqp_waiting.specs.Kept.{same_key, key_of, first_told, first_place, told_at, with_place, AreFirst}
use Rattle.amqp_waiting.proofs.Entries.{goes_last}

-- the first of two that is there
abbrev or_place : Option ℕ → Option ℕ → Option ℕ
or_place None o = o
or_place (Some n) o = Some n

abbrev here : Bool → ℕ → Option ℕ
here b n = cond b (Some n) None

-- # With one more told

suc_or : (o : Option ℕ) (b : Bool) (n : ℕ) → option_map suc (or_place o (here b n)) ≡ or_place (option_map suc o) (here b (suc n))
suc_or None true n = refl
suc_or None false n = refl
suc_or (Some m) b n = refl

after_one : (a b : Bool) (whole part : Option ℕ) (n : ℕ) → whole ≡ or_place part (here b n) → cond a (Some 0) (option_map suc whole) ≡ or_place (cond a (Some 0) (option_map suc part)) (here b (suc n))
after_one true b whole part n h = refl
after_one false b whole part n h = ap (option_map suc) h ∙ suc_or part b n

placed : (tag : List ℕ) (t : Told) (ts : List Told) → first_place tag (ts ++ t ∷ []) ≡ or_place (first_place tag ts) (here (same_tag tag t.tag) (length ts))
placed tag t [] = refl
placed tag t (x ∷ xs) = after_one (same_tag tag x.tag) (same_tag tag t.tag) (first_place tag (xs ++ t ∷ [])) (first_place tag xs) (length xs) (placed tag t xs)

-- # With one more kept

behind_one : (a b : Bool) (m n : ℕ) (whole part : Option ℕ) → whole ≡ or_place part (here b n) → cond a (Some m) whole ≡ or_place (cond a (Some m) part) (here b n)
behind_one true b m n whole part h = refl
behind_one false b m n whole part h = h

found_behind : (tag : List ℕ) (k : Key) (n : ℕ) (es : List (Key × ℕ)) → lookup (same_key (key_of tag)) (es ++ (k, n) ∷ []) ≡ or_place (lookup (same_key (key_of tag)) es) (here (same_tag tag k.tag) n)
found_behind tag k n [] = refl
found_behind tag k n (e ∷ es) = behind_one (same_tag tag e.0.tag) (same_tag tag k.tag) e.1 n _ _ (found_behind tag k n es)

none_behind : (a : Bool) (m : ℕ) (o : Option ℕ) (any : Bool) → is_some (cond a (Some m) o) ≡ false → (is_some o ≡ false → any ≡ false) → (a || any) ≡ false
none_behind true m o any h rest = absurd (true≢false h)
none_behind false m o any h rest = rest h

not_there : (k : Key) (es : List (Key × ℕ)) → is_some (lookup (same_key k) es) ≡ false → list_any (same_key k) (keys_of es) ≡ false
not_there k [] h = refl
not_there k (e ∷ es) h = none_behind (same_key k e.0) e.1 (lookup (same_key k) es) (list_any (same_key k) (keys_of es)) h (not_there k es)

some_stays : (o : Option ℕ) (x : Option ℕ) → is_some o ≡ true → o ≡ or_place o x
some_stays None x h = absurd (true≢false (sym h))
some_stays (Some m) x h = refl

none_added : (o : Option ℕ) → o ≡ or_place o None
none_added None = refl
none_added (Some m) = refl

-- a tag that is kept already
kept_before : (tag other : List ℕ) (n : ℕ) (es : List (Key × ℕ)) (b : Bool) → same_tag tag other ≡ b → is_some (lookup (same_key (key_of other)) es) ≡ true
    → lookup (same_key (key_of tag)) es ≡ or_place (lookup (same_key (key_of tag)) es) (here b n)
kept_before tag other n es true s h = some_stays (lookup (same_key (key_of tag)) es) (Some n) (ap (λ os. is_some (lookup (same_key (key_of os)) es)) ((bytes_decides tag other).0 s) ∙ h)
kept_before tag other n es false s h = none_added (lookup (same_key (key_of tag)) es)

kept_by : (tag other : List ℕ) (n : ℕ) (es : List (Key × ℕ)) (c : Bool) → is_some (lookup (same_key (key_of other)) es) ≡ c
    → lookup (same_key (key_of tag)) (cond c es (insert_entry same_key es (key_of other) n)) ≡ or_place (lookup (same_key (key_of tag)) es) (here (same_tag tag other) n)
kept_by tag other n es true h = kept_before tag other n es (same_tag tag other) refl h
kept_by tag other n es false h =
    ap (lookup (same_key (key_of tag))) (goes_last (key_of other) n es (not_there (key_of other) es h))
    ∙ found_behind tag (key_of other) n es

-- # In a loop

pub next_first : (ts : List Told) (n : ℕ) (t : Told) (es new : List (Key × ℕ)) → n < length ts → t ≡ get_or ts n t → AreFirst es (take n ts) → new ≡ with_place es t.tag n
    → AreFirst new (take (n + 1) ts)
next_first ts n t es new within is was made = λ tag.
    let whole : take (n + 1) ts ≡ take n ts ++ t ∷ [] = take_more ts n t within ∙ ap (λ x. take n ts ++ x ∷ []) (sym is) in
    let long : length (take n ts) ≡ n = length-take-le n ts (omega (arith, within)) in
    ap (lookup (same_key (key_of tag))) made
    ∙ kept_by tag t.tag n es (is_some (lookup (same_key (key_of t.tag)) es)) refl
    ∙ ap (λ o. or_place o (here (same_tag tag t.tag) n)) (was tag)
    ∙ ap (λ m. or_place (first_place tag (take n ts)) (here (same_tag tag t.tag) m)) (sym long)
    ∙ sym (placed tag t (take n ts))
    ∙ ap (first_place tag) (sym whole)

-- # What is found

found_one : (a : Bool) (t : Told) (ts : List Told) (o : Option ℕ) (first : Option Told) → told_at ts o ≡ first → told_at (t ∷ ts) (cond a (Some 0) (option_map suc o)) ≡ cond a (Some t) first
found_one true t ts o first h = refl
found_one false t ts None first h = h
found_one false t ts (Some n) first h = h

pub found_first : (tag : List ℕ) (ts : List Told) → told_at ts (first_place tag ts) ≡ first_told tag ts
found_first tag [] = refl
found_first tag (t ∷ ts) = found_one (same_tag tag t.tag) t ts (first_place tag ts) (first_told tag ts) (found_first tag ts)
