-- What holds after every sequence of calls on a receiver's messages.
use Rattle.std.proofs.Common.{◌≡◌, ℕ, Bool, true, false, cond, ◌||◌, not, List, [], ◌∷◌, ◌++◌, refl, sym, ap, subst, ◌∙◌, append_assoc}
use Rattle.std.specs.Prelude.{◌&&◌, filter}
use Rattle.std.proofs.lemmas.List.Folds.{list_any-append}
use Rattle.std.proofs.lemmas.List.Elements.{filter-append}
use Rattle.amqp_policy.specs.Outcome.{one_more}
use Rattle.amqp_policy.specs.Received.{Received, same_tag, has_tag, without, is_known, with_settled, after_settle, with_told, with_brought, after_tell, behind_first}
use Rattle.amqp_policy.specs.ReceivedHistory.{ReceivedCall, Take, Settle, Bring, Confirm, SetMark, PopBrought, PopTold, Keep, Tell, ReceivedEvent, Settled, PutBack, after_call, state_after, settled_first, event_of, events_of, is_in_doubt, takings, HasNoTwo}
use Rattle.amqp_policy.proofs.Tests.{or_false, or_parts, tag_refl, tag_sym, tag_is, tag_same, tag_other, goes, stays}

-- # A tag goes

removed_by : (n k d : List ℕ) (ds : List (List ℕ)) (e : Bool) → same_tag d k ≡ e → has_tag n (without k ds) ≡ (not (same_tag k n) && has_tag n ds)
    → has_tag n (cond (not e) (d ∷ without k ds) (without k ds)) ≡ (not (same_tag k n) && (same_tag d n || has_tag n ds))
removed_by n k d ds true e h = goes (same_tag d n) (same_tag k n) (has_tag n ds) (same_tag d n) (has_tag n (without k ds)) (λ t. t) (tag_same d k n e) h
removed_by n k d ds false e h = stays (same_tag k n) (has_tag n ds) (same_tag d n) (has_tag n (without k ds)) (λ t. tag_other d k n e t) h

has-without : (n k : List ℕ) (ds : List (List ℕ)) → has_tag n (without k ds) ≡ (not (same_tag k n) && has_tag n ds)
has-without n k [] = elim (same_tag k n) as (λ q. false ≡ (not q && false)) [ true ↦ refl | false ↦ refl ]
has-without n k (d ∷ ds) = removed_by n k d ds (same_tag d k) refl (has-without n k ds)

both : (q b t x y : Bool) → x ≡ (not q && b) → y ≡ (not q && t) → (x || y) ≡ (not q && (b || t))
both true b t x y h k = (λ i. h i || k i)
both false b t x y h k = (λ i. h i || k i)

-- one that is not there
absent : (q d : Bool) → (q ≡ true → d ≡ false) → d ≡ (not q && d)
absent true d h = h refl
absent false d h = refl

-- # No two

not_there : (t : List ℕ) (p : List ℕ → Bool) (xs : List (List ℕ)) → has_tag t xs ≡ false → has_tag t (filter p xs) ≡ false
not_there t p [] h = refl
not_there t p (x ∷ xs) h =
    let parts = or_parts (same_tag x t) (has_tag t xs) h in
    elim (p x) as (λ b. has_tag t (cond b (x ∷ filter p xs) (filter p xs)) ≡ false) [
      | true ↦ (λ i. parts.0 i || has_tag t (filter p xs)) ∙ not_there t p xs parts.1
      | false ↦ not_there t p xs parts.1
    ]

filtered : (p : List ℕ → Bool) (xs : List (List ℕ)) → HasNoTwo xs → HasNoTwo (filter p xs)
filtered p [] h = tt
filtered p (x ∷ xs) h =
    elim (p x) as (λ b. HasNoTwo (cond b (x ∷ filter p xs) (filter p xs))) [
      | true ↦ (not_there x p xs h.0, filtered p xs h.1)
      | false ↦ filtered p xs h.1
    ]

parts_of : (t : List ℕ) (xs ys : List (List ℕ)) → has_tag t (xs ++ ys) ≡ false → (has_tag t xs ≡ false) × (has_tag t ys ≡ false)
parts_of t xs ys h = or_parts (has_tag t xs) (has_tag t ys) (sym (list_any-append (λ x. same_tag x t) xs ys) ∙ h)

-- one more in between
without_it : (x t : List ℕ) (xs ys : List (List ℕ)) → same_tag x t ≡ false → has_tag x (xs ++ ys) ≡ false → has_tag x (xs ++ t ∷ ys) ≡ false
without_it x t xs ys other h =
    let parts = parts_of x xs ys h in
    list_any-append (λ y. same_tag y x) xs (t ∷ ys) ∙ (λ i. parts.0 i || ((tag_sym t x ∙ other) i || parts.1 i))

inserted : (t : List ℕ) (xs ys : List (List ℕ)) → has_tag t (xs ++ ys) ≡ false → HasNoTwo (xs ++ ys) → HasNoTwo (xs ++ t ∷ ys)
inserted t [] ys h k = (h, k)
inserted t (x ∷ xs) ys h k =
    let parts = or_parts (same_tag x t) (has_tag t (xs ++ ys)) h in
    (without_it x t xs ys parts.0 k.0, inserted t xs ys parts.1 k.1)

-- one less
removed : (t : List ℕ) (xs ys : List (List ℕ)) → HasNoTwo (xs ++ t ∷ ys) → (has_tag t (xs ++ ys) ≡ false) × HasNoTwo (xs ++ ys)
removed t [] ys h = h
removed t (x ∷ xs) ys h =
    let rest = removed t xs ys h.1 in
    let parts = parts_of x xs (t ∷ ys) h.0 in
    let more = or_parts (same_tag t x) (has_tag x ys) parts.1 in
    ((λ i. (tag_sym x t ∙ more.0) i || rest.0 i), (list_any-append (λ y. same_tag y x) xs ys ∙ (λ i. parts.0 i || more.1 i), rest.1))

-- # The state and the events before it

record Agrees (r : Received) (past : List ReceivedEvent) : Type 0 where
  doubt : (t : List ℕ) → is_known t r ≡ is_in_doubt t past
  once : HasNoTwo (r.brought ++ r.told)
  counted : r.count ≡ takings past

known_of : (t : List ℕ) (r : Received) → has_tag t (r.brought ++ r.told) ≡ is_known t r
known_of t r = list_any-append (λ x. same_tag x t) r.brought r.told

-- # It is settled

settled_known : (t k : List ℕ) (r : Received) → is_known t (with_settled k r) ≡ (not (same_tag k t) && is_known t r)
settled_known t k r = both (same_tag k t) (has_tag t r.brought) (has_tag t r.told) (has_tag t (without k r.brought)) (has_tag t (without k r.told)) (has-without t k r.brought) (has-without t k r.told)

settle_by : (k : List ℕ) (r : Received) (past : List ReceivedEvent) (test : Bool) → is_known k r ≡ test → Agrees r past → Agrees (cond test (with_settled k r) r) (Settled k ∷ past)
settle_by k r past true e a = record {
  doubt = λ t. settled_known t k r ∙ ap (λ d. not (same_tag k t) && d) (a.doubt t);
  once = subst HasNoTwo (filter-append (λ x. not (same_tag x k)) r.brought r.told) (filtered (λ x. not (same_tag x k)) (r.brought ++ r.told) a.once);
  counted = a.counted;
}
settle_by k r past false e a = record {
  doubt = λ t. absent (same_tag k t) (is_known t r) (λ same. ap (λ x. is_known x r) (sym (tag_is k t same)) ∙ e) ∙ ap (λ d. not (same_tag k t) && d) (a.doubt t);
  once = a.once;
  counted = a.counted;
}

settle : (k : List ℕ) (r : Received) (past : List ReceivedEvent) → Agrees r past → Agrees (after_settle k r) (Settled k ∷ past)
settle k r past a = settle_by k r past (is_known k r) refl a

-- it is not in doubt then
gone : (k : List ℕ) (r : Received) (past : List ReceivedEvent) → Agrees r past → is_known k (after_settle k r) ≡ false
gone k r past a = (settle k r past a).doubt k ∙ (λ i. not (tag_refl k i) && is_in_doubt k past)

-- # It is in doubt again

put_known : (q d x : Bool) → x ≡ (not q && d) → (x || (q || false)) ≡ (q || d)
put_known true true x h = (λ i. h i || true)
put_known true false x h = (λ i. h i || true)
put_known false d x h = or_false x ∙ h

or_swap : (b q t : Bool) → ((b || q) || t) ≡ ((b || t) || q)
or_swap true q t = refl
or_swap false true true = refl
or_swap false true false = refl
or_swap false false true = refl
or_swap false false false = refl

or_assoc : (b t q : Bool) → (b || (t || q)) ≡ ((b || t) || q)
or_assoc true t q = refl
or_assoc false t q = refl

told_known : (t k : List ℕ) (s : Received) → is_known t (with_told k s) ≡ (is_known t s || (same_tag k t || false))
told_known t k s =
    ap (λ x. has_tag t s.brought || x) (list_any-append (λ x. same_tag x t) s.told (k ∷ []))
    ∙ or_assoc (has_tag t s.brought) (has_tag t s.told) (same_tag k t || false)

brought_known : (t k : List ℕ) (s : Received) → is_known t (with_brought k s) ≡ (is_known t s || (same_tag k t || false))
brought_known t k s =
    ap (λ x. x || has_tag t s.told) (list_any-append (λ x. same_tag x t) s.brought (k ∷ []))
    ∙ or_swap (has_tag t s.brought) (same_tag k t || false) (has_tag t s.told)

append_none : (xs : List (List ℕ)) → xs ++ [] ≡ xs
append_none [] = refl
append_none (x ∷ xs) = ap (λ l. x ∷ l) (append_none xs)

told_once : (k : List ℕ) (s : Received) → is_known k s ≡ false → HasNoTwo (s.brought ++ s.told) → HasNoTwo (s.brought ++ (s.told ++ k ∷ []))
told_once k s e h =
    let all = s.brought ++ s.told in
    let here : has_tag k (all ++ []) ≡ false = ap (has_tag k) (append_none all) ∙ known_of k s ∙ e in
    subst HasNoTwo (append_assoc s.brought s.told (k ∷ [])) (inserted k all [] here (subst HasNoTwo (sym (append_none all)) h))

brought_once : (k : List ℕ) (s : Received) → is_known k s ≡ false → HasNoTwo (s.brought ++ s.told) → HasNoTwo ((s.brought ++ k ∷ []) ++ s.told)
brought_once k s e h = subst HasNoTwo (sym (append_assoc s.brought (k ∷ []) s.told)) (inserted k s.brought s.told (known_of k s ∙ e) h)

tell : (k : List ℕ) (r : Received) (past : List ReceivedEvent) → Agrees r past → Agrees (after_tell k r) (PutBack k ∷ past)
tell k r past a =
    let b = settle k r past a in
    record {
      doubt = λ t. told_known t k (after_settle k r) ∙ put_known (same_tag k t) (is_in_doubt t past) (is_known t (after_settle k r)) (b.doubt t);
      once = told_once k (after_settle k r) (gone k r past a) b.once;
      counted = b.counted;
    }

-- # The first one goes

first_known : (q d : Bool) → (q ≡ true → d ≡ false) → d ≡ (not q && (q || d))
first_known true d h = h refl
first_known false d h = refl

popped : (t k : List ℕ) (rest : List (List ℕ)) → has_tag k rest ≡ false → has_tag t rest ≡ (not (same_tag k t) && (same_tag k t || has_tag t rest))
popped t k rest e = first_known (same_tag k t) (has_tag t rest) (λ same. ap (λ x. has_tag x rest) (sym (tag_is k t same)) ∙ e)

or_front : (b q t : Bool) → (b || (q || t)) ≡ (q || (b || t))
or_front true true t = refl
or_front true false t = refl
or_front false q t = refl

pop_brought : (brought told : List (List ℕ)) (past : List ReceivedEvent)
    → ((t : List ℕ) → (has_tag t brought || has_tag t told) ≡ is_in_doubt t past) → HasNoTwo (brought ++ told)
    → ((t : List ℕ) → (has_tag t (behind_first brought) || has_tag t told) ≡ is_in_doubt t (settled_first brought ++ past)) × HasNoTwo (behind_first brought ++ told)
pop_brought [] told past d h = (d, h)
pop_brought (k ∷ ks) told past d h = (
  λ t. sym (list_any-append (λ x. same_tag x t) ks told) ∙ popped t k (ks ++ told) h.0
      ∙ ap (λ x. not (same_tag k t) && (same_tag k t || x)) (list_any-append (λ x. same_tag x t) ks told)
      ∙ ap (λ x. not (same_tag k t) && x) (or_assoc (same_tag k t) (has_tag t ks) (has_tag t told) ∙ d t),
  h.1,
)

pop_told : (brought told : List (List ℕ)) (past : List ReceivedEvent)
    → ((t : List ℕ) → (has_tag t brought || has_tag t told) ≡ is_in_doubt t past) → HasNoTwo (brought ++ told)
    → ((t : List ℕ) → (has_tag t brought || has_tag t (behind_first told)) ≡ is_in_doubt t (settled_first told ++ past)) × HasNoTwo (brought ++ behind_first told)
pop_told brought [] past d h = (d, h)
pop_told brought (k ∷ ks) past d h =
    let rest = removed k brought ks h in (
      λ t. sym (list_any-append (λ x. same_tag x t) brought ks) ∙ popped t k (brought ++ ks) rest.0
          ∙ ap (λ x. not (same_tag k t) && (same_tag k t || x)) (list_any-append (λ x. same_tag x t) brought ks)
          ∙ ap (λ x. not (same_tag k t) && x) (sym (or_front (has_tag t brought) (same_tag k t) (has_tag t ks)) ∙ d t),
      rest.1,
    )

-- a first one that goes is not counted
takings_popped : (tags : List (List ℕ)) (past : List ReceivedEvent) → takings past ≡ takings (settled_first tags ++ past)
takings_popped [] past = refl
takings_popped (t ∷ ts) past = refl

step : (call : ReceivedCall) (r : Received) (past : List ReceivedEvent) → Agrees r past → Agrees (after_call call r) (event_of call r ++ past)
step (Take k octets) r past a =
    let b = tell k r past a in
    record { doubt = b.doubt; once = b.once; counted = ap one_more b.counted }
step (Settle k) r past a = settle k r past a
step Bring r past a = record {
  doubt = λ t. or_false _ ∙ known_of t r ∙ a.doubt t;
  once = subst HasNoTwo (sym (append_none (r.brought ++ r.told))) a.once;
  counted = a.counted;
}
step Confirm r past a = record { doubt = a.doubt; once = a.once; counted = a.counted }
step (SetMark left) r past a = record { doubt = a.doubt; once = a.once; counted = a.counted }
step PopBrought r past a =
    let p = pop_brought r.brought r.told past a.doubt a.once in
    record { doubt = p.0; once = p.1; counted = a.counted ∙ takings_popped r.brought past }
step PopTold r past a =
    let p = pop_told r.brought r.told past a.doubt a.once in
    record { doubt = p.0; once = p.1; counted = a.counted ∙ takings_popped r.told past }
step (Keep k) r past a =
    let b = settle k r past a in
    record {
      doubt = λ t. brought_known t k (after_settle k r) ∙ put_known (same_tag k t) (is_in_doubt t past) (is_known t (after_settle k r)) (b.doubt t);
      once = brought_once k (after_settle k r) (gone k r past a) b.once;
      counted = b.counted;
    }
step (Tell k) r past a = tell k r past a

all_agree : (calls : List ReceivedCall) → Agrees (state_after calls) (events_of calls)
all_agree [] = record { doubt = λ t. refl; once = tt; counted = refl }
all_agree (call ∷ before) = step call (state_after before) (events_of before) (all_agree before)

pub doubt_is : (calls : List ReceivedCall) (t : List ℕ) → is_known t (state_after calls) ≡ is_in_doubt t (events_of calls)
doubt_is calls t = (all_agree calls).doubt t

pub no_two : (calls : List ReceivedCall) → HasNoTwo ((state_after calls).brought ++ (state_after calls).told)
no_two calls = (all_agree calls).once

pub count_is : (calls : List ReceivedCall) → (state_after calls).count ≡ takings (events_of calls)
count_is calls = (all_agree calls).counted
