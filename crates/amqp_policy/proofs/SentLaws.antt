-- What holds after every sequence of calls on a sender's messages.
use Rattle.std.proofs.Common.{◌≡◌, ℕ, zero, suc, Option, None, Some, ◌+◌, ◌≤◌, Bool, true, false, cond, ◌||◌, not, List, [], ◌∷◌, ◌++◌, map, refl, sym, ap, ◌∙◌, arith}
use Rattle.std.specs.Prelude.{◌==◌, ◌&&◌, nat_lt, set, slice_get}
use Rattle.std.specs.List.{list_any, position}
use Rattle.std.proofs.lemmas.Bool.{eqb-true}
use Rattle.std.proofs.lemmas.Bool.Decides.{nat_tests}
use Rattle.std.proofs.lemmas.List.Folds.{list_any-append}
use Rattle.amqp_policy.specs.declared.outcome.Outcome.{Outcome}
use Rattle.amqp_policy.specs.declared.sent.Doubt.{Doubt}
use Rattle.amqp_policy.specs.Sent.{Sent, is_of, is_in_doubt, is_unresolved as is_open, without, all_resolved, may_begin, with_begun, with_ended, brought, resolved_if, resolved, with_kept, kept_at}
use Rattle.amqp_policy.specs.SentHistory.{SentCall, Begin, End, Bring, Resolve, Keep, SentEvent, Begun, Ended, after_call, state_after, event_of, events_of, has_begun, has_ended, is_unresolved, IsAllowed, IsLawful}
use Rattle.amqp_policy.proofs.Tests.{or_false, or_parts, and_parts, not_true, number_same, number_other, goes, stays}

-- # One message ends

removed_by : {M : Type 0} (n k : ℕ) (g : Doubt M → Bool) (d : Doubt M) (ds : List (Doubt M)) (e : Bool) → (d.number == k) ≡ e → (g d ≡ true → (d.number == n) ≡ true)
    → list_any g (without k ds) ≡ (not (k == n) && list_any g ds) → list_any g (cond (not e) (d ∷ without k ds) (without k ds)) ≡ (not (k == n) && (g d || list_any g ds))
removed_by n k g d ds true e only h = goes (d.number == n) (k == n) (list_any g ds) (g d) (list_any g (without k ds)) only (number_same d.number k n e) h
removed_by n k g d ds false e only h = stays (k == n) (list_any g ds) (g d) (list_any g (without k ds)) (λ t. number_other d.number k n e (only t)) h

any-without : {M : Type 0} (n k : ℕ) (g : Doubt M → Bool) → ((d : Doubt M) → g d ≡ true → (d.number == n) ≡ true) → (ds : List (Doubt M)) → list_any g (without k ds) ≡ (not (k == n) && list_any g ds)
any-without n k g only [] = elim (k == n) as (λ q. false ≡ (not q && false)) [ true ↦ refl | false ↦ refl ]
any-without n k g only (d ∷ ds) = removed_by n k g d ds (d.number == k) refl (only d) (any-without n k g only ds)

-- # All change in place

any-map : {M : Type 0} (f : Doubt M → Doubt M) (g h : Doubt M → Bool) → ((d : Doubt M) → g (f d) ≡ h d) → (ds : List (Doubt M)) → list_any g (map f ds) ≡ list_any h ds
any-map f g h same [] = refl
any-map f g h same (d ∷ ds) = (λ i. same d i || any-map f g h same ds i)

of-resolved : {M : Type 0} (n k : ℕ) (d : Doubt M) (e : Bool) → is_of n (cond e (record d { is_brought = false }) d) ≡ is_of n d
of-resolved n k d true = refl
of-resolved n k d false = refl

-- one keeps something else
any-set : {M : Type 0} (g : Doubt M → Bool) (ds : List (Doubt M)) (place : ℕ) (d e : Doubt M) → slice_get ds place ≡ Some d → g e ≡ g d → list_any g (set ds place e) ≡ list_any g ds
any-set g [] place d e h same = refl
any-set g (x ∷ xs) zero d e h same = let first : x ≡ d = cc in (λ i. (same ∙ ap g (sym first)) i || list_any g xs)
any-set g (x ∷ xs) (suc place) d e h same = (λ i. g x || any-set g xs place d e h same i)

any-with_kept : {M : Type 0} (g : Doubt M → Bool) (kept : M) → ((d : Doubt M) → g (record d { kept = kept }) ≡ g d) → (ds : List (Doubt M)) (place : ℕ) (o : Option (Doubt M)) → slice_get ds place ≡ o
    → list_any g (with_kept o place kept ds) ≡ list_any g ds
any-with_kept g kept same ds place None e = refl
any-with_kept g kept same ds place (Some d) e = any-set g ds place d (record d { kept = kept }) e (same d)

any-keeping : {M : Type 0} (g : Doubt M → Bool) (kept : M) → ((d : Doubt M) → g (record d { kept = kept }) ≡ g d) → (ds : List (Doubt M)) (o : Option ℕ) → list_any g (kept_at o kept ds) ≡ list_any g ds
any-keeping g kept same ds None = refl
any-keeping g kept same ds (Some place) = any-with_kept g kept same ds place (slice_get ds place) refl

-- one is resolved
and_false : (b : Bool) → (b && false) ≡ false
and_false true = refl
and_false false = refl

resolves : {M : Type 0} (n k : ℕ) (d : Doubt M) (r x : Bool) (e : Bool) → (d.number == k) ≡ e → x ≡ (not (k == n) && r)
    → (is_open n (cond e (record d { is_brought = false }) d) || x) ≡ (not (k == n) && (is_open n d || r))
resolves n k d r x true e h =
    (λ i. and_false (d.number == n) i || x) ∙ goes (d.number == n) (k == n) r (is_open n d) x (λ t. (and_parts (d.number == n) d.is_brought t).0) (number_same d.number k n e) h
resolves n k d r x false e h = stays (k == n) r (is_open n d) x (λ t. number_other d.number k n e (and_parts (d.number == n) d.is_brought t).0) h

open-resolved : {M : Type 0} (n k : ℕ) (ds : List (Doubt M)) → list_any (is_open n) (resolved k ds) ≡ (not (k == n) && list_any (is_open n) ds)
open-resolved n k [] = elim (k == n) as (λ q. false ≡ (not q && false)) [ true ↦ refl | false ↦ refl ]
open-resolved n k (d ∷ ds) = resolves n k d (list_any (is_open n) ds) (list_any (is_open n) (resolved k ds)) (d.number == k) refl (open-resolved n k ds)

and_true : (b : Bool) → (b && true) ≡ b
and_true true = refl
and_true false = refl

-- # Nothing is unresolved

open_none : {M : Type 0} (n : ℕ) (ds : List (Doubt M)) → list_any (λ d. d.is_brought) ds ≡ false → list_any (is_open n) ds ≡ false
open_none n [] h = refl
open_none n (d ∷ ds) h =
    let parts = or_parts d.is_brought (list_any (λ d. d.is_brought) ds) h in
    (λ i. (d.number == n) && parts.0 i || list_any (is_open n) ds) ∙ (λ i. and_false (d.number == n) i || list_any (is_open n) ds) ∙ open_none n ds parts.1

-- # The state and the events before it

record Agrees {M : Type 0} (s : Sent M) (past : List SentEvent) : Type 0 where
  doubt : (n : ℕ) → is_in_doubt n s.doubts ≡ (has_begun n past && not (has_ended n past))
  unresolved : (n : ℕ) → list_any (is_open n) s.doubts ≡ is_unresolved n past
  fresh : (n : ℕ) → s.next ≤ n → has_begun n past ≡ false
  later : (n : ℕ) → s.next ≤ n → has_ended n past ≡ false
  lawful : IsLawful past

begun_doubt : (d b e q : Bool) → d ≡ (b && not e) → (q ≡ true → e ≡ false) → (d || (q || false)) ≡ ((q || b) && not e)
begun_doubt d b e false h k = or_false d ∙ h
begun_doubt true b e true h k = sym (ap not (k refl))
begun_doubt false b e true h k = sym (ap not (k refl))

ended_doubt : (d b e q : Bool) → d ≡ (b && not e) → (not q && d) ≡ (b && not (q || e))
ended_doubt d b e false h = h
ended_doubt d true e true h = refl
ended_doubt d false e true h = refl

begin_allowed : {M : Type 0} (s : Sent M) (past : List SentEvent) → may_begin s ≡ true → Agrees s past → IsAllowed (Begun s.next) past
begin_allowed s past t a =
    let parts = and_parts (nat_lt s.next 4294967295) (all_resolved s.doubts) t in
    (a.fresh s.next (omega arith), λ n. sym (a.unresolved n) ∙ open_none n s.doubts (not_true _ parts.1))

not_next : (next n : ℕ) → next + 1 ≤ n → (next == n) ≡ false
not_next next n h = grind (arith, nat_tests, h)

after_begun : {M : Type 0} (kept : M) (s : Sent M) (past : List SentEvent) → may_begin s ≡ true → Agrees s past → Agrees (with_begun kept s) (Begun s.next ∷ past)
after_begun kept s past t a = record {
  doubt = λ n.
      list_any-append (is_of n) s.doubts (record { number = s.next; is_brought = false; kept = kept } ∷ [])
      ∙ begun_doubt (is_in_doubt n s.doubts) (has_begun n past) (has_ended n past) (s.next == n) (a.doubt n) (λ e. a.later n (let same : s.next ≡ n = eqb-true s.next n e in omega arith));
  unresolved = λ n.
      list_any-append (is_open n) s.doubts (record { number = s.next; is_brought = false; kept = kept } ∷ [])
      ∙ (λ i. list_any (is_open n) s.doubts || (and_false (s.next == n) i || false)) ∙ or_false _ ∙ a.unresolved n;
  fresh = λ n h. (λ i. not_next s.next n h i || has_begun n past) ∙ a.fresh n (omega arith);
  later = λ n h. a.later n (omega arith);
  lawful = (begin_allowed s past t a, a.lawful);
}

begin_by : {M : Type 0} (kept : M) (s : Sent M) (past : List SentEvent) (test : Bool) → may_begin s ≡ test → Agrees s past → Agrees (cond test (with_begun kept s) s) (cond test (Begun s.next ∷ []) [] ++ past)
begin_by kept s past true t a = after_begun kept s past t a
begin_by kept s past false t a = a

-- what began has a number below the next one
ended_later : {M : Type 0} (k n : ℕ) (s : Sent M) (past : List SentEvent) (q : Bool) → (k == n) ≡ q → has_begun k past ≡ true → s.next ≤ n → Agrees s past → (q || has_ended n past) ≡ false
ended_later k n s past true e b h a =
    let same : k ≡ n = eqb-true k n e in
    let none : has_begun k past ≡ false = a.fresh k (omega arith) in
    absurd cc
ended_later k n s past false e b h a = a.later n h

after_ended : {M : Type 0} (k : ℕ) (outcome : Outcome) (s : Sent M) (past : List SentEvent) → is_in_doubt k s.doubts ≡ true → Agrees s past → Agrees (with_ended k outcome s) (Ended k outcome ∷ past)
after_ended k outcome s past t a =
    let parts = and_parts (has_begun k past) (not (has_ended k past)) (sym (a.doubt k) ∙ t) in
    record {
      doubt = λ n. any-without n k (is_of n) (λ d h. h) s.doubts ∙ ended_doubt (is_in_doubt n s.doubts) (has_begun n past) (has_ended n past) (k == n) (a.doubt n);
      unresolved = λ n. any-without n k (is_open n) (λ d h. (and_parts (d.number == n) d.is_brought h).0) s.doubts ∙ ap (λ r. not (k == n) && r) (a.unresolved n);
      fresh = a.fresh;
      later = λ n h. ended_later k n s past (k == n) refl parts.0 h a;
      lawful = ((parts.0, not_true _ parts.1), a.lawful);
    }

end_by : {M : Type 0} (k : ℕ) (outcome : Outcome) (s : Sent M) (past : List SentEvent) (test : Bool) → is_in_doubt k s.doubts ≡ test → Agrees s past
    → Agrees (cond test (with_ended k outcome s) s) (cond test (Ended k outcome ∷ []) [] ++ past)
end_by k outcome s past true t a = after_ended k outcome s past t a
end_by k outcome s past false t a = a

step : {M : Type 0} (call : SentCall M) (s : Sent M) (past : List SentEvent) → Agrees s past → Agrees (after_call call s) (event_of call s ++ past)
step (Begin kept) s past a = begin_by kept s past (may_begin s) refl a
step (End k outcome) s past a = end_by k outcome s past (is_in_doubt k s.doubts) refl a
step Bring s past a = record {
  doubt = λ n. any-map brought (is_of n) (is_of n) (λ d. refl) s.doubts ∙ a.doubt n;
  unresolved = λ n. any-map brought (is_open n) (is_of n) (λ d. and_true (d.number == n)) s.doubts ∙ a.doubt n;
  fresh = a.fresh;
  later = a.later;
  lawful = (tt, a.lawful);
}
step (Resolve k) s past a = record {
  doubt = λ n. any-map (resolved_if k) (is_of n) (is_of n) (λ d. of-resolved n k d (d.number == k)) s.doubts ∙ a.doubt n;
  unresolved = λ n. open-resolved n k s.doubts ∙ ap (λ r. not (k == n) && r) (a.unresolved n);
  fresh = a.fresh;
  later = a.later;
  lawful = (tt, a.lawful);
}
step (Keep k kept) s past a = record {
  doubt = λ n. any-keeping (is_of n) kept (λ d. refl) s.doubts (position (is_of k) s.doubts) ∙ a.doubt n;
  unresolved = λ n. any-keeping (is_open n) kept (λ d. refl) s.doubts (position (is_of k) s.doubts) ∙ a.unresolved n;
  fresh = a.fresh;
  later = a.later;
  lawful = a.lawful;
}

all_agree : {M : Type 0} (calls : List (SentCall M)) → Agrees (state_after calls) (events_of calls)
all_agree [] = record { doubt = λ n. refl; unresolved = λ n. refl; fresh = λ n h. refl; later = λ n h. refl; lawful = tt }
all_agree (call ∷ before) = step call (state_after before) (events_of before) (all_agree before)

pub all_lawful : {M : Type 0} (calls : List (SentCall M)) → IsLawful (events_of calls)
all_lawful calls = (all_agree calls).lawful

pub doubt_is : {M : Type 0} (calls : List (SentCall M)) (n : ℕ) → is_in_doubt n (state_after calls).doubts ≡ (has_begun n (events_of calls) && not (has_ended n (events_of calls)))
doubt_is calls n = (all_agree calls).doubt n

pub unresolved_is : {M : Type 0} (calls : List (SentCall M)) (n : ℕ) → list_any (is_open n) (state_after calls).doubts ≡ is_unresolved n (events_of calls)
unresolved_is calls n = (all_agree calls).unresolved n
