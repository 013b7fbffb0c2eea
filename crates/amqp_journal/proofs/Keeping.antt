-- What holds at all times goes on with a step, with what is put and with what is popped.
use Rattle.std.proofs.Common.{◌≡◌, ◌<◌, ◌≤◌, ℕ, ◌+◌, ◌^◌, zero, suc, Option, Some, None, List, [], ◌∷◌, ◌++◌, length, map, drop, refl, sym, ap, ◌∙◌, subst, arith, length-append, append-nil, append_assoc}
use Rattle.std.specs.Prelude.{OnOk, Result, Ok, Err, option_to_list, slice_get}
use Rattle.std.proofs.lemmas.List.{reverse-append, length-reverse, drop-append-le}
use Rattle.amqp_frames.specs.declared.frame.Frame.{Frame}
use Rattle.amqp_rules.specs.declared.config.Config.{Config}
use Rattle.amqp_rules.specs.declared.op.Op.{Op}
use Rattle.amqp_rules.specs.declared.reply.Reply.{Reply}
use Rattle.amqp_rules.specs.Limits.{IsWithinLimits}
use Rattle.amqp_rules.specs.View.{View, initial}
use Rattle.amqp_laws.specs.declared.entry.Entry.{Entry}
use Rattle.amqp_laws.specs.declared.entry.Step.{Step}
use Rattle.amqp_laws.specs.declared.entry.Step.TheVariants.{Opened, Own, Heard}
use Rattle.amqp_laws.specs.Past.{past}
use Rattle.amqp_laws.specs.At.{at}
use Rattle.amqp_laws.specs.Lawful.{IsLawful, Answers, GoesOn, next}
use Rattle.amqp_links.specs.declared.left.Left.{Left}
use Rattle.amqp_journal.specs.Log.{Log, new_log, logging, putting, popping, forgetting, leaving, left_at, left_by, left_on_links}
use Rattle.amqp_links.specs.Left.{left_on_all}
use Rattle.amqp_endpoint.specs.Left.{left_by_own, left_by_heard}
use Rattle.amqp_journal.specs.Units.{units, octets_sent}
use Rattle.amqp_journal.specs.Kept.{IsKept}
use Rattle.amqp_journal.proofs.UnitLaws.{logged-behind, put-behind, logged-within, put-within}

-- so is the law of one entry more
abbrev pub GoesOnAlong : Config → Type 0
GoesOnAlong c = (journal : List Entry) → IsWithinLimits c → IsLawful c (past journal) → GoesOn c journal

lawful-more : (l : Log) (step : Step) (reply : Reply) → IsLawful l.config (past l.journal) → length l.journal < l.config.journal_limit
    → Answers (at l.config (past l.journal)) step reply → IsLawful l.config (past (l.journal ++ record { step = step; reply = reply } ∷ []))
lawful-more l step reply h room a =
    let e : Entry = record { step = step; reply = reply } in
    let here : past (l.journal ++ e ∷ []) ≡ e ∷ past l.journal = reverse-append l.journal (e ∷ []) in
    let many : length (past l.journal) ≡ length l.journal = length-reverse l.journal in
    subst (λ (p : List Entry). IsLawful l.config p) (sym here) (record { short = omega (arith, many, room); replayed = (h.replayed, a) })

pub kept-logged : (l : Log) (endpoint after : View) (queue : List (List ℕ)) (step : Step) (reply : Reply) (unit : Option (List ℕ)) → GoesOnAlong l.config → IsKept l endpoint queue
    → length l.journal < l.config.journal_limit → Answers (at l.config (past l.journal)) step reply → after ≡ next (at l.config (past l.journal)) step
    → option_to_list unit ≡ map (λ s. s.bytes) reply.sent → IsKept (logging l step reply) after (queue ++ option_to_list unit)
kept-logged l endpoint after queue step reply unit goes k room a n u =
    let e : Entry = record { step = step; reply = reply } in
    let lawful = lawful-more l step reply k.lawful room a in
    let behind : units (logging l step reply) ≡ units l ++ octets_sent e = logged-behind l e k.within in
    let some : l.popped ≤ length (units l) = k.some in
    let few : length (units l) ≤ length l.journal + length l.put = k.few in
    let one : length (option_to_list unit) ≤ 1 = at-most-one unit in
    let same : length (option_to_list unit) ≡ length (octets_sent e) = ap length u in
    let many : length (units (logging l step reply)) ≡ length (units l) + length (octets_sent e) = ap length behind ∙ length-append (units l) (octets_sent e) in
    let longer : length (l.journal ++ e ∷ []) ≡ length l.journal + 1 = length-append l.journal (e ∷ []) in
    record {
      limits = k.limits;
      lawful = lawful;
      is_at = n ∙ sym (goes (l.journal ++ e ∷ []) k.limits lawful l.journal e refl);
      queued = (λ i. k.queued i ++ u i) ∙ sym (drop-append-le l.popped (units l) (octets_sent e) some) ∙ ap (drop l.popped) (sym behind);
      within = logged-within l e k.within;
      some = omega (arith, some, many);
      few = omega (arith, few, one, same, many, longer);
      forgot = (let f : l.forgotten ≤ length l.journal = k.forgot in omega (arith, f, longer));
    }
  where
    at-most-one : (o : Option (List ℕ)) → length (option_to_list o) ≤ 1
    at-most-one None = omega arith
    at-most-one (Some x) = omega arith

pub kept-put : (l : Log) (endpoint : View) (queue : List (List ℕ)) (octets : List ℕ) → IsKept l endpoint queue → IsKept (putting l octets) endpoint (queue ++ octets ∷ [])
kept-put l endpoint queue octets k =
    let behind : units (putting l octets) ≡ units l ++ octets ∷ [] = put-behind l octets in
    let some : l.popped ≤ length (units l) = k.some in
    let few : length (units l) ≤ length l.journal + length l.put = k.few in
    let many : length (units (putting l octets)) ≡ length (units l) + 1 = ap length behind ∙ length-append (units l) (octets ∷ []) in
    let longer : length (l.put ++ (length l.journal, octets) ∷ []) ≡ length l.put + 1 = length-append l.put ((length l.journal, octets) ∷ []) in
    record {
      limits = k.limits;
      lawful = k.lawful;
      is_at = k.is_at;
      queued = ap (λ q. q ++ octets ∷ []) k.queued ∙ sym (drop-append-le l.popped (units l) (octets ∷ []) some) ∙ ap (drop l.popped) (sym behind);
      within = put-within l octets k.within;
      some = omega (arith, some, many);
      few = omega (arith, few, many, longer);
      forgot = k.forgot;
    }

-- the first of what is left is in its place
first-left : (n : ℕ) (xs : List (List ℕ)) (y : List ℕ) (ys : List (List ℕ)) → y ∷ ys ≡ drop n xs → (slice_get xs n ≡ Some y) × (ys ≡ drop (n + 1) xs) × (n + 1 ≤ length xs)
first-left zero [] y ys h = absurd (cc)
first-left zero (x ∷ xs) y ys h = (let e : y ≡ x = cc in ap (λ z. Some z) (sym e), let e : ys ≡ xs = cc in e, omega arith)
first-left (suc n) [] y ys h = absurd (cc)
first-left (suc n) (x ∷ xs) y ys h =
    let rest = first-left n xs y ys h in
    let short : n + 1 ≤ length xs = rest.2 in
    let more : suc n + 1 ≡ suc (n + 1) = omega arith in
    (rest.0, rest.1 ∙ ap (λ k. drop k (x ∷ xs)) (sym more), omega (arith, short))

pub popped-first : (l : Log) (endpoint : View) (queue left : List (List ℕ)) (bytes : List ℕ) → IsKept l endpoint queue → queue ≡ bytes ∷ left → slice_get (units l) l.popped ≡ Some bytes
popped-first l endpoint queue left bytes k e = (first-left l.popped (units l) bytes left (sym e ∙ k.queued)).0

pub kept-popped : (l : Log) (endpoint : View) (queue left : List (List ℕ)) (bytes : List ℕ) → IsKept l endpoint queue → queue ≡ bytes ∷ left → IsKept (popping l) endpoint left
kept-popped l endpoint queue left bytes k e =
    let first = first-left l.popped (units l) bytes left (sym e ∙ k.queued) in
    record { limits = k.limits; lawful = k.lawful; is_at = k.is_at; queued = first.1; within = k.within; some = first.2; few = k.few; forgot = k.forgot }

-- before the first step
pub kept-first : (c : Config) (endpoint : View) → IsWithinLimits c → endpoint ≡ initial c → initial c ≡ at c (past []) → IsKept (new_log c) endpoint []
kept-first c endpoint limits e first =
    record {
      limits = limits;
      lawful = record { short = omega arith; replayed = tt };
      is_at = e ∙ first;
      queued = refl;
      within = tt;
      some = omega arith;
      few = omega arith;
      forgot = omega arith;
    }

-- the queue is as long as what waits
pub put-out : (l : Log) (endpoint : View) (queue : List (List ℕ)) → IsKept l endpoint queue → l.popped + length queue ≡ length (units l)
put-out l endpoint queue k = ap (λ q. l.popped + length q) k.queued ∙ by l.popped (units l) k.some
  where
    by : (n : ℕ) (xs : List (List ℕ)) → n ≤ length xs → n + length (drop n xs) ≡ length xs
    by zero xs h = omega arith
    by (suc n) [] h = absurd (omega arith)
    by (suc n) (x ∷ xs) h = let rest = by n xs (omega (arith, h)) in omega (arith, rest)

pub few-steps : (c : Config) → IsWithinLimits c → c.journal_limit ≤ 2 ^ 30
few-steps c h = let few : c.journal_limit ≤ 1073741824 = h.few in omega (arith, few)

-- the endpoint counts the steps
pub steps-are : (l : Log) (endpoint : View) (queue : List (List ℕ)) → IsKept l endpoint queue → endpoint.steps ≡ length l.journal
steps-are l endpoint queue k = ap (λ (v : View). v.steps) k.is_at ∙ length-reverse l.journal

-- # The same of parts that were changed one by one: the entries that were forgotten, and those after them

abbrev pub log_of : Config → List Entry → List Entry → List (ℕ × List ℕ) → ℕ → List Left → Log
log_of c gone journal put popped left = record { config = c; journal = gone ++ journal; forgotten = length gone; put = put; popped = popped; left = left }

-- it holds whatever was left
pub kept-leaving : (l : Log) (left : List Left) (endpoint : View) (queue : List (List ℕ)) → IsKept l endpoint queue → IsKept (record l { left = left }) endpoint queue
kept-leaving l left endpoint queue k =
    record { limits = k.limits; lawful = k.lawful; is_at = k.is_at; queued = k.queued; within = k.within; some = k.some; few = k.few; forgot = k.forgot }

pub kept-step : (c : Config) (gone before after : List Entry) (put : List (ℕ × List ℕ)) (popped : ℕ) (left later_left : List Left) (endpoint later : View) (queue queued : List (List ℕ)) (step : Step) (reply : Reply) (unit : Option (List ℕ))
    → GoesOnAlong c → IsKept (log_of c gone before put popped left) endpoint queue → length (gone ++ before) < c.journal_limit → Answers (at c (past (gone ++ before))) step reply
    → later ≡ next (at c (past (gone ++ before))) step → option_to_list unit ≡ map (λ s. s.bytes) reply.sent → after ≡ before ++ record { step = step; reply = reply } ∷ [] → queued ≡ queue ++ option_to_list unit
    → IsKept (log_of c gone after put popped later_left) later queued
kept-step c gone before after put popped left later_left endpoint later queue queued step reply unit goes k room a n u j q =
    let l : Log = log_of c gone before put popped left in
    let e : Entry = record { step = step; reply = reply } in
    let logged : IsKept (logging l step reply) later (queue ++ option_to_list unit) = kept-logged l endpoint later queue step reply unit goes k room a n u in
    let here : IsKept (record (logging l step reply) { left = later_left }) later (queue ++ option_to_list unit) = kept-leaving (logging l step reply) later_left later (queue ++ option_to_list unit) logged in
    let all : gone ++ after ≡ (gone ++ before) ++ e ∷ [] = ap (λ (x : List Entry). gone ++ x) j ∙ sym (append_assoc gone before (e ∷ [])) in
    let P : List (List ℕ) → Type 0 = λ x. IsKept (log_of c gone after put popped later_left) later x in
    let Q : List Entry → Type 0 = λ x. IsKept (record { config = c; journal = x; forgotten = length gone; put = put; popped = popped; left = later_left }) later (queue ++ option_to_list unit) in
    subst P (sym q) (subst Q (sym all) here)

-- the log of the parts after a step is the one that the step makes
pub logged-parts : (l : Log) (c : Config) (gone before after : List Entry) (put : List (ℕ × List ℕ)) (popped : ℕ) (left later_left : List Left) (step : Step) (reply : Reply) → log_of c gone before put popped left ≡ l
    → after ≡ before ++ record { step = step; reply = reply } ∷ [] → later_left ≡ left ++ left_by c (gone ++ before) step → log_of c gone after put popped later_left ≡ logging l step reply
logged-parts l c gone before after put popped left later_left step reply is j m =
    let e : Entry = record { step = step; reply = reply } in
    let all : gone ++ after ≡ (gone ++ before) ++ e ∷ [] = ap (λ (x : List Entry). gone ++ x) j ∙ sym (append_assoc gone before (e ∷ [])) in
    let here : log_of c gone after put popped later_left ≡ logging (log_of c gone before put popped left) step reply =
    λ i. record { config = c; journal = all i; forgotten = length gone; put = put; popped = popped; left = m i }
    in
    here ∙ ap (λ (x : Log). logging x step reply) is

pub kept-put-parts : (c : Config) (gone journal : List Entry) (before after : List (ℕ × List ℕ)) (popped place : ℕ) (left : List Left) (endpoint : View) (queue queued : List (List ℕ)) (octets : List ℕ)
    → IsKept (log_of c gone journal before popped left) endpoint queue → place ≡ length (gone ++ journal) → after ≡ before ++ (place, octets) ∷ [] → queued ≡ queue ++ octets ∷ []
    → IsKept (log_of c gone journal after popped left) endpoint queued
kept-put-parts c gone journal before after popped place left endpoint queue queued octets k h p q =
    let l : Log = log_of c gone journal before popped left in
    let P : List (List ℕ) → Type 0 = λ x. IsKept (log_of c gone journal after popped left) endpoint x in
    let Q : List (ℕ × List ℕ) → Type 0 = λ x. IsKept (record { config = c; journal = gone ++ journal; forgotten = length gone; put = x; popped = popped; left = left }) endpoint (queue ++ octets ∷ []) in
    let here : after ≡ before ++ (length (gone ++ journal), octets) ∷ [] = p ∙ ap (λ n. before ++ (n, octets) ∷ []) h in
    subst P (sym q) (subst Q (sym here) (kept-put l endpoint queue octets k))

pub kept-forgotten : (l : Log) (endpoint : View) (queue : List (List ℕ)) → IsKept l endpoint queue → IsKept (forgetting l) endpoint queue
kept-forgotten l endpoint queue k =
    record { limits = k.limits; lawful = k.lawful; is_at = k.is_at; queued = k.queued; within = k.within; some = k.some; few = k.few; forgot = omega arith }

-- # What was left

-- by a step of the endpoint
pub own-leaves : (c : Config) (journal : List Entry) (v : View) (op : Op) (step : Step) (before after : List Left) → v ≡ at c (past journal) → step ≡ Own op → after ≡ before ++ left_by_own v op
    → after ≡ before ++ left_by c journal step
unfolding left_by
own-leaves c journal v op step before after is same h = h ∙ (λ i. before ++ left_at (is i) (sym same i))

pub heard-leaves : (c : Config) (journal : List Entry) (v : View) (f : Frame) (step : Step) (before after : List Left) → v ≡ at c (past journal) → step ≡ Heard f
    → after ≡ before ++ left_by_heard v f.body → after ≡ before ++ left_by c journal step
unfolding left_by
heard-leaves c journal v f step before after is same h = h ∙ (λ i. before ++ left_at (is i) (sym same i))

pub opened-leaves : (c : Config) (journal : List Entry) (max : ℕ) (left : List Left) → left ≡ left ++ left_by c journal (Opened max)
unfolding left_by
opened-leaves c journal max left = sym (append-nil left)

-- all that the links have
pub links-leave : (l : Log) (v : View) (queue : List (List ℕ)) (after : List Left) → IsKept l v queue → after ≡ l.left ++ left_on_all v.links → after ≡ l.left ++ left_on_links l.config l.journal
unfolding left_on_links
links-leave l v queue after k h = h ∙ ap (λ (x : View). l.left ++ left_on_all x.links) k.is_at

-- all that the links have is left
pub leaving-parts : (l : Log) (c : Config) (gone journal : List Entry) (put : List (ℕ × List ℕ)) (popped : ℕ) (left later : List Left) (v : View) (queue : List (List ℕ)) → log_of c gone journal put popped left ≡ l
    → IsKept (log_of c gone journal put popped left) v queue → later ≡ left ++ left_on_all v.links → log_of c gone journal put popped later ≡ leaving l
leaving-parts l c gone journal put popped left later v queue is k h =
    (λ i. log_of c gone journal put popped (links-leave (log_of c gone journal put popped left) v queue later k h i)) ∙ ap leaving is

pub on-ok : {X E : Type 0} {P Q : Type 0} (r : Result X E) → (P → Q) → OnOk r P → OnOk r Q
on-ok (Ok x) f p = f p
on-ok (Err e) f p = tt
