-- The tags in use, as deliveries begin and end.
use Rattle.std.proofs.Common.{◌≡◌, ℕ, Bool, true, false, not, ◌&&◌, ◌||◌, ◌==◌, cond, ◌-◌, List, [], ◌∷◌, ◌++◌, length, take, refl, sym, ap, ◌∙◌, nat_eq}
use Rattle.std.specs.Prelude.{if◌then◌else◌, replicate}
use Rattle.std.proofs.lemmas.List.{take_at}
use Rattle.std.specs.List.{list_any, filter}
use Rattle.std.specs.HashSet.{contains}
use Rattle.std.specs.Cmp.{unsigned_Decides, first_so, second_so}
use Rattle.std.specs.Cmp.Lexicographic.{pointwise, bytes_decides, nat_list_eq_equiv}
use Rattle.std.proofs.lemmas.List.Folds.{list_any-append}
use Rattle.std.proofs.lemmas.Map.Views.{any-filter_same}
use Rattle.amqp_events.specs.Told.{SentItem}
use Rattle.amqp_deliveries.specs.declared.tags.Brief.{Brief}
use Rattle.amqp_deliveries.specs.declared.tags.Key.{Key}
use Rattle.amqp_deliveries.specs.declared.tags.TagIndex.{TagIndex}
use Rattle.amqp_deliveries.specs.Held.{has_tag, is_on, unlinked, HasItsTag}
use Rattle.amqp_deliveries.specs.Brief.{is_brief, padded}
use Rattle.amqp_deliveries.specs.Tags.{same_key, same_brief, brief, has_key, has_brief, has_other}

abbrev same_tag : List ℕ → List ℕ → Bool
same_tag = pointwise nat_eq

-- # Keys

tagged-link : (link : ℕ) (tag : List ℕ) (x : SentItem) → has_tag link tag x ≡ true → x.item.link ≡ link
tagged-link link tag x h = (unsigned_Decides x.item.link link).0 (first_so (x.item.link == link) (same_tag tag x.item.tag) h)

tagged-tag : (link : ℕ) (tag : List ℕ) (x : SentItem) → has_tag link tag x ≡ true → x.item.tag ≡ tag
tagged-tag link tag x h = sym ((bytes_decides tag x.item.tag).0 (second_so (x.item.link == link) (same_tag tag x.item.tag) h))

item_tied : (k : Key) (x : SentItem) (q : Key) → k.link ≡ x.item.link → k.tag ≡ x.item.tag → same_key k q ≡ has_tag q.link q.tag x
item_tied k x q e f = (λ i. (e i == q.link) && same_tag (f i) q.tag) ∙ ap (λ b. x.item.link == q.link && b) (nat_list_eq_equiv.symm x.item.tag q.tag)

-- # Those of at most eight octets, and others

both_so : (a b : Bool) → a ≡ true → b ≡ true → (a && b) ≡ true
both_so true b e f = f
both_so false b e f = e

pads_one : (x y : List ℕ) → length x ≡ length y → padded x ≡ padded y → x ≡ y
pads_one x y l e =
    sym (take_at x (replicate (8 - length x) 0) (length x) refl) ∙ ap (take (length x)) e ∙ take_at y (replicate (8 - length y) 0) (length x) (sym l)

pads_same : (x y : List ℕ) → ((length x == length y) && same_tag (padded x) (padded y)) ≡ same_tag y x
pads_same x y = by (same_tag y x) ((length x == length y) && same_tag (padded x) (padded y)) refl refl
  where
    by : (t u : Bool) → same_tag y x ≡ t → ((length x == length y) && same_tag (padded x) (padded y)) ≡ u → u ≡ t
    by true true e h = refl
    by false false e h = refl
    by true false e h =
        let p : x ≡ y = sym ((bytes_decides y x).0 e) in
        sym h ∙ both_so (length x == length y) (same_tag (padded x) (padded y)) ((unsigned_Decides (length x) (length y)).1 (ap length p)) ((bytes_decides (padded x) (padded y)).1 (ap padded p))
    by false true e h =
        let l : length x ≡ length y = (unsigned_Decides (length x) (length y)).0 (first_so (length x == length y) (same_tag (padded x) (padded y)) h) in
        let p : padded x ≡ padded y = (bytes_decides (padded x) (padded y)).0 (second_so (length x == length y) (same_tag (padded x) (padded y)) h) in
        sym ((bytes_decides y x).1 (sym (pads_one x y l p))) ∙ e

brief_tied : (k : Brief) (x : SentItem) (link : ℕ) (tag : List ℕ) → k.link ≡ x.item.link → k.used ≡ length x.item.tag → k.octets ≡ padded x.item.tag → same_brief k (brief link tag) ≡ has_tag link tag x
brief_tied k x link tag e n f =
    (λ i. (e i == link) && ((n i == length tag) && same_tag (f i) (padded tag))) ∙ ap (λ b. x.item.link == link && b) (pads_same x.item.tag tag)

neither : (b : Bool) → b ≡ not b → ⊥
neither true e = absurd (cc)
neither false e = absurd (cc)

-- a tag of one kind is none of the other
differs : (link : ℕ) (tag : List ℕ) (x : SentItem) (b : Bool) → is_brief tag ≡ b → is_brief x.item.tag ≡ not b → has_tag link tag x ≡ false
differs link tag x b h g = by (has_tag link tag x) refl
  where
    by : (t : Bool) → has_tag link tag x ≡ t → t ≡ false
    by true e = absurd (neither b (sym h ∙ ap is_brief (sym (tagged-tag link tag x e)) ∙ g))
    by false e = refl

-- one key of the first kind comes or goes
pub brief_moved : (old new : TagIndex) (k : Brief) (x : SentItem) (v : Bool) → k.link ≡ x.item.link → k.used ≡ length x.item.tag → k.octets ≡ padded x.item.tag → is_brief x.item.tag ≡ true
    → ((q : Brief) → contains same_brief new.brief q ≡ cond (same_brief k q) v (contains same_brief old.brief q)) → new.keys ≡ old.keys
    → (link : ℕ) (tag : List ℕ) → has_key new link tag ≡ cond (has_tag link tag x) v (has_key old link tag)
brief_moved old new k x v e n f short moved still link tag = by (is_brief tag) refl
  where
    by : (b : Bool) → is_brief tag ≡ b → (if b then has_brief new link tag else has_other new link tag) ≡ cond (has_tag link tag x) v (if b then has_brief old link tag else has_other old link tag)
    by true h = moved (brief link tag) ∙ (λ i. cond (brief_tied k x link tag e n f i) v (has_brief old link tag))
    by false h = ap (λ keys. contains same_key keys (record { link = link; tag = tag })) still ∙ sym (λ i. cond (differs link tag x false h short i) v (has_other old link tag))

-- one of the other
pub other_moved : (old new : TagIndex) (k : Key) (x : SentItem) (v : Bool) → k.link ≡ x.item.link → k.tag ≡ x.item.tag → is_brief x.item.tag ≡ false
    → ((q : Key) → contains same_key new.keys q ≡ cond (same_key k q) v (contains same_key old.keys q)) → new.brief ≡ old.brief
    → (link : ℕ) (tag : List ℕ) → has_key new link tag ≡ cond (has_tag link tag x) v (has_key old link tag)
other_moved old new k x v e f other moved still link tag = by (is_brief tag) refl
  where
    by : (b : Bool) → is_brief tag ≡ b → (if b then has_brief new link tag else has_other new link tag) ≡ cond (has_tag link tag x) v (if b then has_brief old link tag else has_other old link tag)
    by true h = ap (λ keys. contains same_brief keys (brief link tag)) still ∙ sym (λ i. cond (differs link tag x true h other i) v (has_brief old link tag))
    by false h = moved (record { link = link; tag = tag }) ∙ (λ i. cond (item_tied k x (record { link = link; tag = tag }) e f i) v (has_other old link tag))

-- # One more, one less

one_more : (b was any : Bool) → was ≡ any → cond b true was ≡ (any || (b || false))
one_more true was true h = refl
one_more true was false h = refl
one_more false was true h = h
one_more false was false h = h

one_less : (b was before after : Bool) → (b ≡ true → before ≡ false) → (b ≡ true → after ≡ false) → was ≡ (before || (b || after)) → cond b false was ≡ (before || after)
one_less true was before after f g h = λ i. sym (f refl) i || sym (g refl) i
one_less false was before after f g h = h

pub tag_added : (items : List SentItem) (x : SentItem) (link : ℕ) (tag : List ℕ) (was : Bool)
    → was ≡ list_any (has_tag link tag) items → cond (has_tag link tag x) true was ≡ list_any (has_tag link tag) (items ++ x ∷ [])
tag_added items x link tag was h =
    one_more (has_tag link tag x) was (list_any (has_tag link tag) items) h ∙ sym (list_any-append (has_tag link tag) items (x ∷ []))

pub tag_removed : (before : List SentItem) (x : SentItem) (after : List SentItem) (link : ℕ) (tag : List ℕ) (was : Bool)
    → HasItsTag before x.item after → was ≡ list_any (has_tag link tag) (before ++ x ∷ after)
    → cond (has_tag link tag x) false was ≡ list_any (has_tag link tag) (before ++ after)
tag_removed before x after link tag was alone h =
    let test = has_tag link tag in
    let is_its : test x ≡ true → (items : List SentItem) → list_any (has_tag x.item.link x.item.tag) items ≡ false → list_any test items ≡ false
    = λ t items none. sym (λ i. list_any (has_tag (tagged-link link tag x t i) (tagged-tag link tag x t i)) items) ∙ none in
    one_less (test x) was (list_any test before) (list_any test after) (λ t. is_its t before alone.0) (λ t. is_its t after alone.1)
    (h ∙ list_any-append test before (x ∷ after))
    ∙ sym (list_any-append test before after)

-- # A link's

linked-differs : (gone link : ℕ) (tag : List ℕ) (x : SentItem) → has_tag link tag x ≡ true → not (is_on gone x) ≡ not (link == gone)
linked-differs gone link tag x h = ap (λ n. not (n == gone)) (tagged-link link tag x h)

pub tags_unlinked : (items : List SentItem) (gone link : ℕ) (tag : List ℕ) → list_any (has_tag link tag) (unlinked gone items) ≡ (not (link == gone) && list_any (has_tag link tag) items)
tags_unlinked items gone link tag =
    any-filter_same (has_tag link tag) (λ x. not (is_on gone x)) (not (link == gone)) (linked-differs gone link tag) items

key-differs : (gone : ℕ) (k q : Key) → same_key k q ≡ true → not (q.link == gone) ≡ not (k.link == gone)
key-differs gone k q h = ap (λ n. not (n == gone)) (sym ((unsigned_Decides k.link q.link).0 (first_so (k.link == q.link) (same_tag k.tag q.tag) h)))

brief-differs : (gone : ℕ) (k q : Brief) → same_brief k q ≡ true → not (q.link == gone) ≡ not (k.link == gone)
brief-differs gone k q h = ap (λ n. not (n == gone)) (sym ((unsigned_Decides k.link q.link).0 (first_so (k.link == q.link) ((k.used == q.used) && same_tag k.octets q.octets) h)))

pub keys_unlinked : (old new : TagIndex) (gone : ℕ) → new.brief.keys ≡ filter (λ q. not (q.link == gone)) old.brief.keys → new.keys.keys ≡ filter (λ q. not (q.link == gone)) old.keys.keys
    → (link : ℕ) (tag : List ℕ) → has_key new link tag ≡ (not (link == gone) && has_key old link tag)
keys_unlinked old new gone f g link tag = by (is_brief tag)
  where
    by : (b : Bool) → (if b then has_brief new link tag else has_other new link tag) ≡ (not (link == gone) && (if b then has_brief old link tag else has_other old link tag))
    by true = ap (list_any (same_brief (brief link tag))) f ∙ any-filter_same (same_brief (brief link tag)) (λ q. not (q.link == gone)) (not (link == gone)) (brief-differs gone (brief link tag)) old.brief.keys
    by false = ap (list_any (same_key (record { link = link; tag = tag }))) g ∙ any-filter_same (same_key (record { link = link; tag = tag })) (λ q. not (q.link == gone)) (not (link == gone)) (key-differs gone (record { link = link; tag = tag })) old.keys.keys
