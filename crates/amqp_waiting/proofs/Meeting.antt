-- The entries that stay when both attaches are there.
use Rattle.std.proofs.Common.{◌≡◌, ℕ, suc, ◌+◌, take, drop, Bool, true, false, cond, Option, None, Some, List, [], ◌∷◌, ◌++◌, ◌||◌, is_some, map, option_map, refl, sym, ap, subst, ◌∙◌, take-append-drop, drop-cons}
use Rattle.std.specs.Prelude.{filter_map, slice_get}
use Rattle.std.specs.List.{list_any, AllByRecursion, IsDistinct, cons_option}
use Rattle.std.specs.Map.{keys_of}
use Rattle.std.specs.Cmp.Lexicographic.{nat_list_eq_equiv}
use Rattle.std.proofs.lemmas.Map.Keys.{IsDistinct-head, IsDistinct-tail}
use Rattle.std.proofs.lemmas.List.{take_more}
use Rattle.std.proofs.lemmas.List.Elements.{filter_map-append}
use Rattle.std.proofs.lemmas.Option.{slice_get_within, get_or_from_slice_get}
use Rattle.indexmap.specs.IndexMap.{insert_entry}
use Rattle.amqp_performatives.specs.declared.bodies.Role.{Role}
use Rattle.amqp_performatives.specs.declared.bodies.Role.TheVariants.{Sender, Receiver}
use Rattle.amqp_waiting.specs.declared.key.Key.{Key}
use Rattle.amqp_waiting.specs.declared.item.Standing.{Standing}
use Rattle.amqp_waiting.specs.declared.item.Verdict.TheVariants.{Held}
use Rattle.amqp_waiting.specs.declared.peer.Unsettled.{Unsettled}
use Rattle.amqp_waiting.specs.Waiting.{WaitingItem, told_of, state_told, with_verdict, met_item, met}
use Rattle.amqp_waiting.specs.Kept.{shown, standing_of, entry_of, same_key, met_entry, put_where}
use Rattle.amqp_waiting.proofs.Entries.{goes_last}

-- # Keys

all_at : (P : Key → Type 0) (e : Key × Standing) (xs ys : List (Key × Standing)) → AllByRecursion P (keys_of (xs ++ e ∷ ys)) → P e.0
all_at P e [] ys h = h.0
all_at P e (x ∷ xs) ys h = all_at P e xs ys h.1

-- no entry before another has its key
apart : (e : Key × Standing) (xs ys : List (Key × Standing)) → IsDistinct same_key (keys_of (xs ++ e ∷ ys)) → list_any (same_key e.0) (keys_of xs) ≡ false
apart e [] ys d = refl
apart e (x ∷ xs) ys d =
    let other : same_key e.0 x.0 ≡ false = nat_list_eq_equiv.symm e.0.tag x.0.tag ∙ all_at (λ k. same_key x.0 k ≡ false) e xs ys (IsDistinct-head same_key x.0 (keys_of (xs ++ e ∷ ys)) d) in
    (λ i. other i || list_any (same_key e.0) (keys_of xs)) ∙ apart e xs ys (IsDistinct-tail same_key x.0 (keys_of (xs ++ e ∷ ys)) d)

-- nor among those of them that stay
stays_apart : (k : Key) (u : Unsettled) (e : Key × Standing) (kept : List (Key × Standing)) (b : Bool) → same_key k e.0 ≡ false → list_any (same_key k) (keys_of kept) ≡ false
    → list_any (same_key k) (keys_of (cons_option (option_map entry_of (cond b (Some (with_verdict Held (state_told (told_of e.0.tag u)) (shown e))) None)) kept)) ≡ false
stays_apart k u e kept true t h = (λ i. t i || list_any (same_key k) (keys_of kept)) ∙ h
stays_apart k u e kept false t h = h

one_apart : (role : Role) (k : Key) (u : Unsettled) (e : Key × Standing) (es : List (Key × Standing)) → same_key k e.0 ≡ false → list_any (same_key k) (keys_of (filter_map (met_entry role u) es)) ≡ false
    → list_any (same_key k) (keys_of (filter_map (met_entry role u) (e ∷ es))) ≡ false
one_apart Sender k u e es t h = (λ i. t i || list_any (same_key k) (keys_of (filter_map (met_entry Sender u) es))) ∙ h
one_apart Receiver k u e es t h = stays_apart k u e (filter_map (met_entry Receiver u) es) (is_some (told_of e.0.tag u) || u.incomplete) t h

neither : (a b : Bool) → (a || b) ≡ false → (a ≡ false) × (b ≡ false)
neither true b h = absurd cc
neither false b h = (refl, h)

still_apart : (role : Role) (k : Key) (u : Unsettled) (es : List (Key × Standing)) → list_any (same_key k) (keys_of es) ≡ false → list_any (same_key k) (keys_of (filter_map (met_entry role u) es)) ≡ false
still_apart role k u [] h = refl
still_apart role k u (e ∷ es) h =
    let parts = neither (same_key k e.0) (list_any (same_key k) (keys_of es)) h in
    one_apart role k u e es parts.0 (still_apart role k u es parts.1)

-- # One more

split_there : (es : List (Key × Standing)) (n : ℕ) (e : Key × Standing) → slice_get es n ≡ Some e → es ≡ take n es ++ e ∷ drop (suc n) es
split_there es n e h =
    sym (take-append-drop n es) ∙ ap (λ l. take n es ++ l) (drop-cons es n e (slice_get_within es n e h) ∙ ap (λ x. x ∷ drop (suc n) es) (get_or_from_slice_get es n e e h))

pub more : (es : List (Key × Standing)) (n : ℕ) (e : Key × Standing) → slice_get es n ≡ Some e → take (n + 1) es ≡ take n es ++ e ∷ []
more es n e h = take_more es n e (slice_get_within es n e h) ∙ ap (λ x. take n es ++ x ∷ []) (get_or_from_slice_get es n e e h)

with_one : (role : Role) (u : Unsettled) (es : List (Key × Standing)) (n : ℕ) (e : Key × Standing) (o : Option (Key × Standing)) → slice_get es n ≡ Some e → met_entry role u e ≡ o
    → filter_map (met_entry role u) (take (n + 1) es) ≡ filter_map (met_entry role u) (take n es) ++ cons_option o []
with_one role u es n e o h is =
    ap (filter_map (met_entry role u)) (more es n e h)
    ∙ filter_map-append (met_entry role u) (take n es) (e ∷ [])
    ∙ ap (λ x. filter_map (met_entry role u) (take n es) ++ cons_option x []) is

-- the state of one that stays, as an entry
as_entry : (role : Role) (u : Unsettled) (e : Key × Standing) (o : Option Standing) → option_map (standing_of e.0.tag) o ≡ met_item role u (shown e) → met_entry role u e ≡ option_map (λ s. (e.0, s)) o
as_entry role u e None h = ap (option_map entry_of) (sym h)
as_entry role u e (Some s) h = ap (option_map entry_of) (sym h)

-- an entry that stays goes behind those before it
pub one_stays : (role : Role) (u : Unsettled) (es : List (Key × Standing)) (n : ℕ) (e : Key × Standing) (s : Standing) (made : List (Key × Standing))
    → IsDistinct same_key (keys_of es) → slice_get es n ≡ Some e → option_map (standing_of e.0.tag) (Some s) ≡ met_item role u (shown e)
    → made ≡ filter_map (met_entry role u) (take n es)
    → insert_entry same_key made e.0 s ≡ filter_map (met_entry role u) (take (n + 1) es)
one_stays role u es n e s made d h is was =
    let distinct : IsDistinct same_key (keys_of (take n es ++ e ∷ drop (suc n) es)) = subst (λ (l : List (Key × Standing)). IsDistinct same_key (keys_of l)) (split_there es n e h) d in
    ap (λ l. insert_entry same_key l e.0 s) was
    ∙ goes_last e.0 s (filter_map (met_entry role u) (take n es)) (still_apart role e.0 u (take n es) (apart e (take n es) (drop (suc n) es) distinct))
    ∙ sym (with_one role u es n e (Some (e.0, s)) h (as_entry role u e (Some s) is))

append-none : (l : List (Key × Standing)) → l ++ [] ≡ l
append-none [] = refl
append-none (x ∷ l) = ap (λ t. x ∷ t) (append-none l)

-- one that does not stay is left out
pub one_goes : (role : Role) (u : Unsettled) (es : List (Key × Standing)) (n : ℕ) (e : Key × Standing) (made : List (Key × Standing))
    → slice_get es n ≡ Some e → option_map (standing_of e.0.tag) None ≡ met_item role u (shown e)
    → made ≡ filter_map (met_entry role u) (take n es)
    → made ≡ filter_map (met_entry role u) (take (n + 1) es)
one_goes role u es n e made h is was =
    was ∙ sym (with_one role u es n e None h (as_entry role u e None is) ∙ append-none (filter_map (met_entry role u) (take n es)))

-- the next one, whether it stays or not
pub next_met : (role : Role) (u : Unsettled) (es : List (Key × Standing)) (n : ℕ) (e : Key × Standing) (o : Option Standing) (made : List (Key × Standing))
    → IsDistinct same_key (keys_of es) → slice_get es n ≡ Some e → option_map (standing_of e.0.tag) o ≡ met_item role u (shown e)
    → made ≡ filter_map (met_entry role u) (take n es)
    → put_where made e.0 o ≡ filter_map (met_entry role u) (take (n + 1) es)
next_met role u es n e None made d h is was = one_goes role u es n e made h is was
next_met role u es n e (Some s) made d h is was = one_stays role u es n e s made d h is was

-- # All of them, as what waits

shown-one : (o : Option WaitingItem) (kept : List (Key × Standing)) (ws : List WaitingItem) → map shown kept ≡ ws → map shown (cons_option (option_map entry_of o) kept) ≡ cons_option o ws
shown-one None kept ws h = h
shown-one (Some w) kept ws h = ap (λ l. w ∷ l) h

pub shown_met : (role : Role) (u : Unsettled) (es : List (Key × Standing)) → map shown (filter_map (met_entry role u) es) ≡ met role u (map shown es)
shown_met role u [] = refl
shown_met role u (e ∷ es) = shown-one (met_item role u (shown e)) (filter_map (met_entry role u) es) (met role u (map shown es)) (shown_met role u es)
