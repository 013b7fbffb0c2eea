-- What waits, as the entries of a map.
use Rattle.std.proofs.Common.{◌≡◌, ℕ, zero, suc, ◌+◌, ◌<◌, ◌≤◌, length, take, get_or, arith, Bool, true, false, not, cond, Option, None, Some, List, [], ◌∷◌, ◌++◌, ◌||◌, if◌then◌else◌, true≢false, is_some, map, find, option_map, refl, sym, ap, ◌∙◌}
use Rattle.std.specs.List.{list_any, AllByRecursion, IsDistinct}
use Rattle.std.specs.Map.{keys_of, lookup, remove_entry}
use Rattle.std.specs.Cmp.Lexicographic.{bytes_decides, nat_list_eq_equiv}
use Rattle.std.proofs.lemmas.Map.Keys.{IsDistinct-head, IsDistinct-tail}
use Rattle.amqp_waiting.specs.declared.key.Key.{Key}
use Rattle.amqp_waiting.specs.declared.item.Standing.{Standing}
use Rattle.amqp_waiting.specs.declared.item.SuspendedItem.{SuspendedItem}
use Rattle.amqp_waiting.specs.declared.item.Verdict.TheVariants.{Unclear}
use Rattle.std.proofs.lemmas.List.{map-append, take_more, take_all}
use Rattle.indexmap.specs.IndexMap.{insert_entry}
use Rattle.amqp_waiting.specs.Waiting.{WaitingItem, same_tag, waits_as, waits, without, unclear, has_twice}
use Rattle.amqp_waiting.specs.Kept.{shown, standing_of, same_key, unclear_entry}

abbrev pub key : List ℕ → Key
key tag = record { tag = tag }

-- the first that waits with the tag
found_first : (tag : List ℕ) (e : Key × Standing) (es : List (Key × Standing)) (b : Bool) → same_tag tag e.0.tag ≡ b
    → find (waits_as tag) (map shown es) ≡ option_map (standing_of tag) (lookup (same_key (key tag)) es)
    → cond b (Some (shown e)) (find (waits_as tag) (map shown es)) ≡ option_map (standing_of tag) (cond b (Some e.1) (lookup (same_key (key tag)) es))
found_first tag e es true t h = ap (λ os. Some (standing_of os e.1)) (sym ((bytes_decides tag e.0.tag).0 t))
found_first tag e es false t h = h

pub found : (tag : List ℕ) (es : List (Key × Standing)) → find (waits_as tag) (map shown es) ≡ option_map (standing_of tag) (lookup (same_key (key tag)) es)
found tag [] = refl
found tag (e ∷ es) = found_first tag e es (same_tag tag e.0.tag) refl (found tag es)

any_found : (tag : List ℕ) (e : Key × Standing) (es : List (Key × Standing)) (b : Bool)
    → is_some (lookup (same_key (key tag)) es) ≡ list_any (waits_as tag) (map shown es)
    → is_some (cond b (Some e.1) (lookup (same_key (key tag)) es)) ≡ (b || list_any (waits_as tag) (map shown es))
any_found tag e es true h = refl
any_found tag e es false h = h

pub has_found : (tag : List ℕ) (es : List (Key × Standing)) → is_some (lookup (same_key (key tag)) es) ≡ waits tag (map shown es)
has_found tag [] = refl
has_found tag (e ∷ es) = any_found tag e es (same_tag tag e.0.tag) (has_found tag es)

-- what a look-up gives
pub found_there : (tag : List ℕ) (ws : List WaitingItem) (es : List (Key × Standing)) → map shown es ≡ ws → (r : Option Standing) → r ≡ lookup (same_key (key tag)) es
    → find (waits_as tag) ws ≡ option_map (standing_of tag) r
found_there tag ws es is r e = sym (ap (find (waits_as tag)) is) ∙ found tag es ∙ ap (option_map (standing_of tag)) (sym e)

-- none of those behind an entry has its tag
none_left : (tag : List ℕ) (k : Key) (es : List (Key × Standing)) → same_tag tag k.tag ≡ true
    → AllByRecursion (λ j. same_key k j ≡ false) (keys_of es) → without tag (map shown es) ≡ map shown es
none_left tag k [] t apart = refl
none_left tag k (e ∷ es) t apart =
    let other : same_tag tag e.0.tag ≡ false = ap (λ os. same_tag os e.0.tag) ((bytes_decides tag k.tag).0 t) ∙ apart.0 in
    (λ i. cond (not (other i)) (shown e ∷ without tag (map shown es)) (without tag (map shown es))) ∙ ap (λ l. shown e ∷ l) (none_left tag k es t apart.1)

removed_first : (tag : List ℕ) (e : Key × Standing) (es : List (Key × Standing)) (b : Bool) → same_tag tag e.0.tag ≡ b
    → AllByRecursion (λ j. same_key e.0 j ≡ false) (keys_of es)
    → map shown (remove_entry (same_key (key tag)) es) ≡ without tag (map shown es)
    → map shown (cond b es (e ∷ remove_entry (same_key (key tag)) es)) ≡ cond (not b) (shown e ∷ without tag (map shown es)) (without tag (map shown es))
removed_first tag e es true t apart h = sym (none_left tag e.0 es t apart)
removed_first tag e es false t apart h = ap (λ l. shown e ∷ l) h

-- the entry with the tag goes
pub removed : (tag : List ℕ) (es : List (Key × Standing)) → IsDistinct same_key (keys_of es)
    → map shown (remove_entry (same_key (key tag)) es) ≡ without tag (map shown es)
removed tag [] d = refl
removed tag (e ∷ es) d =
    removed_first tag e es (same_tag tag e.0.tag) refl (IsDistinct-head same_key e.0 (keys_of es) d)
    (removed tag es (IsDistinct-tail same_key e.0 (keys_of es) d))

-- # One more

after_others : {V : Type 0} (k : Key) (s : V) (e : Key × V) (es : List (Key × V)) (b any : Bool) → (b || any) ≡ false
    → (any ≡ false → insert_entry same_key es k s ≡ es ++ (k, s) ∷ [])
    → (if b then (e.0, s) ∷ es else e ∷ insert_entry same_key es k s) ≡ e ∷ es ++ (k, s) ∷ []
after_others k s e es true any h rest = absurd (true≢false h)
after_others k s e es false any h rest = ap (λ l. e ∷ l) (rest h)

-- a key that is not there goes last
pub goes_last : {V : Type 0} (k : Key) (s : V) (es : List (Key × V)) → list_any (same_key k) (keys_of es) ≡ false → insert_entry same_key es k s ≡ es ++ (k, s) ∷ []
goes_last k s [] h = refl
goes_last k s (e ∷ es) h = after_others k s e es (same_key k e.0) (list_any (same_key k) (keys_of es)) h (goes_last k s es)

neither : (a b : Bool) → (a || b) ≡ false → (a ≡ false) × (b ≡ false)
neither true b h = absurd (true≢false h)
neither false b h = (refl, h)

tags_behind : (x i : SuspendedItem) (xs ys : List SuspendedItem) → list_any (λ j. same_tag x.tag j.tag) (xs ++ i ∷ ys) ≡ false → same_tag x.tag i.tag ≡ false
tags_behind x i [] ys h = (neither (same_tag x.tag i.tag) _ h).0
tags_behind x i (y ∷ xs) ys h = tags_behind x i xs ys (neither (same_tag x.tag y.tag) _ h).1

-- no item before another has its tag, where none is there twice
pub is_new : (i : SuspendedItem) (xs ys : List SuspendedItem) → has_twice (xs ++ i ∷ ys) ≡ false
    → list_any (same_key (key i.tag)) (keys_of (map unclear_entry xs)) ≡ false
is_new i [] ys h = refl
is_new i (x ∷ xs) ys h =
    let parts = neither (list_any (λ j. same_tag x.tag j.tag) (xs ++ i ∷ ys)) (has_twice (xs ++ i ∷ ys)) h in
    let other : same_tag i.tag x.tag ≡ false = nat_list_eq_equiv.symm i.tag x.tag ∙ tags_behind x i xs ys parts.0 in
    (λ t. other t || list_any (same_key (key i.tag)) (keys_of (map unclear_entry xs))) ∙ is_new i xs ys parts.1

-- the items as entries, with one more
pub one_more : (i : SuspendedItem) (xs ys : List SuspendedItem) (es : List (Key × Standing)) → has_twice (xs ++ i ∷ ys) ≡ false → es ≡ map unclear_entry xs
    → insert_entry same_key es (key i.tag) (record { state = i.state; verdict = Unclear; theirs = None }) ≡ map unclear_entry (xs ++ i ∷ [])
one_more i xs ys es h e =
    ap (λ l. insert_entry same_key l (key i.tag) (record { state = i.state; verdict = Unclear; theirs = None })) e
    ∙ goes_last (key i.tag) _ (map unclear_entry xs) (is_new i xs ys h)
    ∙ sym (map-append unclear_entry xs (i ∷ []))

pub shown-unclear : (xs : List SuspendedItem) → map shown (map unclear_entry xs) ≡ map unclear xs
shown-unclear [] = refl
shown-unclear (x ∷ xs) = ap (λ l. unclear x ∷ l) (shown-unclear xs)

split_at : (xs : List SuspendedItem) (n : ℕ) (d : SuspendedItem) → n < length xs → (ys : List SuspendedItem) × (xs ≡ take n xs ++ get_or xs n d ∷ ys)
split_at [] n d h = let no : ⊥ = omega (arith, h) in absurd no
split_at (x ∷ xs) zero d h = (xs, refl)
split_at (x ∷ xs) (suc n) d h = let rest = split_at xs n d (omega (arith, h)) in (rest.0, ap (λ l. x ∷ l) rest.1)

-- the item at a place, behind those before it
pub one_more_at : (xs : List SuspendedItem) (n : ℕ) (i : SuspendedItem) (es : List (Key × Standing)) → has_twice xs ≡ false → n < length xs → get_or xs n i ≡ i
    → es ≡ map unclear_entry (take n xs)
    → insert_entry same_key es (key i.tag) (record { state = i.state; verdict = Unclear; theirs = None }) ≡ map unclear_entry (take (n + 1) xs)
one_more_at xs n i es h within is e =
    let parts = split_at xs n i within in
    let whole : xs ≡ take n xs ++ i ∷ parts.0 = parts.1 ∙ ap (λ j. take n xs ++ j ∷ parts.0) is in
    one_more i (take n xs) parts.0 es (sym (ap has_twice whole) ∙ h) e
    ∙ ap (map unclear_entry) (ap (λ j. take n xs ++ j ∷ []) (sym is) ∙ sym (take_more xs n i within))

pub all_in : (xs : List SuspendedItem) (n : ℕ) (es : List (Key × Standing)) → length xs ≤ n → es ≡ map unclear_entry (take n xs) → map shown es ≡ map unclear xs
all_in xs n es h e = ap (map shown) (e ∙ ap (map unclear_entry) (take_all n xs h)) ∙ shown-unclear xs
