-- No more deliveries are taken on a link than were received.
use Rattle.std.proofs.Common.{◌≡◌, ◌≤◌, ℕ, ◌+◌, Bool, true, false, not, cond, Option, Some, None, List, [], ◌∷◌, ◌++◌, length, drop, arith, refl, sym, ap, ◌∙◌, find, subst, length-append, ◌&&◌}
use Rattle.std.proofs.lemmas.List.{length-drop}
use Rattle.amqp_rules.specs.declared.op.Op.{Op}
use Rattle.amqp_rules.specs.declared.op.Op.TheVariants.{Take}
use Rattle.amqp_rules.specs.declared.reply.Reply.{Reply}
use Rattle.amqp_rules.specs.declared.config.Config.{Config}
use Rattle.amqp_rules.specs.declared.refusal.Refusal.TheVariants.{NoLink, WrongRole}
use Rattle.amqp_performatives.specs.declared.bodies.Role.TheVariants.{Receiver}
use Rattle.amqp_rules.specs.View.{LinkView, change_first, has_number, is_over, same_role}
use Rattle.amqp_rules.specs.Refusing.{unless}
use Rattle.amqp_rules.specs.Take.{take_first}
use Rattle.amqp_laws.specs.declared.entry.Entry.{Entry}
use Rattle.amqp_laws.specs.declared.entry.Step.{Step}
use Rattle.amqp_laws.specs.declared.entry.Step.TheVariants.{Opened, Own, Heard}
use Rattle.amqp_laws.specs.Past.{some_entry}
use Rattle.amqp_laws.specs.Said.{detaches, ends, hears_no_end, takes}
use Rattle.std.specs.List.{cons_option}
use Rattle.amqp_events.specs.Joined.{Delivery, Transferred, complete}
use Rattle.amqp_events.proofs.JoinedLaw.{complete-step}
use Rattle.amqp_laws.specs.Transfers.{heard_now, heard_on, taken}
use Rattle.amqp_laws.proofs.Events.{numbered-told}
use Rattle.amqp_laws.proofs.StartWhole.{found-bare}
use Rattle.amqp_laws.specs.Live.{live}
use Rattle.amqp_laws.specs.Links.{Concern, LinkPast, concern, is_gone, is_there_with, joined, link_at, link_pasts, links_there, no_link, link_with, link_not_left, link_or_new, put, put_not_left}
use Rattle.amqp_laws.specs.Session.{session_at, links_at}
use Rattle.amqp_laws.specs.At.{seen, sent_events, with_told}
use Rattle.amqp_laws.specs.Lawful.{Answers, IsReplayed}
use Rattle.amqp_rules.proofs.Accepted.{there_Ok, unless_Ok}
use Rattle.amqp_rules.specs.Sound.{Every}
use Rattle.amqp_rules.proofs.Listed.{by-bool, every-changed, every-more}
use Rattle.amqp_laws.proofs.TakeLaw.{take-ok}
use Rattle.amqp_laws.proofs.TransferLaw.{TakesFew}

one-more : (o : Option Transferred) (ts : List Transferred) → length (complete ts) ≤ length (complete (cons_option o ts))
one-more None ts = omega arith
one-more (Some t) ts = rw (complete-step t ts, length-append) (omega arith)

put-few : (e : Entry) (l : LinkPast) → takes e ≡ false → TakesFew l → TakesFew (put e l)
put-few e l h few =
    let longer = one-more (heard_now e l.past) (heard_on l.past) in
    let f : taken l.past ≤ length (complete (heard_on l.past)) = few.few in
    record { few = rw h (omega (arith, longer, f)) }

put_not_left-few : (e : Entry) (l : LinkPast) → takes e ≡ false → TakesFew l → TakesFew (put_not_left e l)
put_not_left-few e l h few = by (some_entry detaches l.past)
  where
    by : (left : Bool) → TakesFew (cond left l (put e l))
    by true = few
    by false = put-few e l h few

new-few : (e : Entry) (l : LinkPast) → takes e ≡ false → l.past ≡ e ∷ [] → TakesFew l
new-few e l h is = record { few = rw (is, h) (omega arith) }

joined-few : (c : Concern) (e : Entry) (links : List LinkPast) → takes e ≡ false → Every TakesFew links → Every TakesFew (joined c e links)
joined-few no_link e links h all = all
joined-few (link_with test) e links h all = every-changed TakesFew (is_there_with test) (put e) links all (λ l few. put-few e l h few)
joined-few (link_not_left test) e links h all = every-changed TakesFew (is_there_with test) (put_not_left e) links all (λ l few. put_not_left-few e l h few)
joined-few (link_or_new test role name) e links h all = by _
  where
    by : (met : Bool) → Every TakesFew (cond met (change_first (is_there_with test) (put e) links) (links ++ record { number = length links; role = role; name = name; past = e ∷ [] } ∷ []))
    by true = every-changed TakesFew (is_there_with test) (put e) links all (λ l few. put-few e l h few)
    by false = every-more TakesFew links (record { number = length links; role = role; name = name; past = e ∷ [] }) all (new-few e (record { number = length links; role = role; name = name; past = e ∷ [] }) h refl)

-- the link that was found has a delivery that waits
found-few : (test : LinkView → Bool) (e : Entry) (links : List LinkPast) (found : Option LinkView)
    → find test (links_there links) ≡ found
    → ((l : LinkPast) → found ≡ Some (link_at l) → TakesFew (put e l))
    → Every TakesFew links → Every TakesFew (change_first (is_there_with test) (put e) links)
found-few test e [] found f h all = tt
found-few test e (l ∷ links) found f h all =
    by-bool (is_gone l)
    (λ (gone : is_gone l ≡ true). let f' = rw gone at f in rw gone (all.0, found-few test e links found f' h all.1))
    (λ (there : is_gone l ≡ false). let g = rw there at f in
    by-bool (test (link_at l))
    (λ (passes : test (link_at l) ≡ true). let f' = rw passes at g in rw (there, passes) (h l (sym f'), all.1))
    (λ (fails : test (link_at l) ≡ false). let f' = rw fails at g in rw (there, fails) (all.0, found-few test e links found f' h all.1)))

more-wait : (t : ℕ) (ds rest : List Delivery) (d : Delivery) → drop t ds ≡ d ∷ rest → t + 1 ≤ length ds
more-wait t ds rest d h =
    let some : length (drop t ds) ≡ length (d ∷ rest) = ap (λ xs. length xs) h in
    let left = length-drop t ds in
    omega (arith, some, left)

take-few : (link : ℕ) (reply : Reply) (on : LinkView) (rest : List Delivery) (d : Delivery) (l : LinkPast) → ◌≡◌ {A = Option LinkView} (Some on) (Some (link_at l)) → on.ready ≡ d ∷ rest → TakesFew (put (record { step = Own (Take link); reply = reply }) l)
take-few link reply on rest d l found waits =
    let same : on ≡ link_at l = cc in
    let there : drop (taken l.past) (complete (heard_on l.past)) ≡ d ∷ rest = subst (λ (l : LinkView). l.ready ≡ d ∷ rest) same waits in
    record { few = more-wait (taken l.past) (complete (heard_on l.past)) rest d there }

found-open : (over : Bool) (test : LinkView → Bool) (links : List LinkView) (on : LinkView) → find test (cond over [] links) ≡ Some on → find test links ≡ Some on
found-open true test links on h = absurd (cc)
found-open false test links on h = h

own-few : (c : Config) (n : ℕ) (past : List Entry) (op : Op) (reply : Reply) → Answers (seen c n past) (Own op) reply → Every TakesFew (link_pasts past) → Every TakesFew (link_pasts (record { step = Own op; reply = reply } ∷ past))
own-few c n past (Take link) reply h all =
    let v = seen c n past in
    let t = there_Ok (find (has_number link) v.links) NoLink (λ l. unless (not (same_role Receiver l.role)) WrongRole (take_first l.number l.ready)) reply h in
    let u = unless_Ok (not (same_role Receiver t.on.role)) WrongRole (take_first t.on.number t.on.ready) reply t.said in
    let g = take-ok t.on.number t.on.ready reply u.1 in
    let bare = found-bare (with_told (sent_events c past)) (find (has_number link) (links_at past)) t.on (sym (numbered-told (sent_events c past) link (links_at past)) ∙ t.found) in
    found-few (has_number link) (record { step = Own (Take link); reply = reply }) (link_pasts past) (Some bare.0)
    (found-open (is_over (session_at past)) (has_number link) (links_there (link_pasts past)) bare.0 bare.1)
    (λ l same. take-few link reply bare.0 g.rest g.first l same (subst (λ (x : LinkView). x.ready ≡ g.first ∷ g.rest) (sym bare.2) g.waits))
    all
own-few c n past op reply h all = joined-few (concern (Own op)) (record { step = Own op; reply = reply }) (link_pasts past) refl all

step-few : (c : Config) (n : ℕ) (past : List Entry) (step : Step) (reply : Reply) → Answers (seen c n past) step reply → Every TakesFew (link_pasts past) → Every TakesFew (link_pasts (record { step = step; reply = reply } ∷ past))
step-few c n past (Own op) reply h all = own-few c n past op reply h all
step-few c n past (Opened told) reply h all = joined-few (concern (Opened told)) (record { step = Opened told; reply = reply }) (link_pasts past) refl all
step-few c n past (Heard f) reply h all = joined-few (concern (Heard f)) (record { step = Heard f; reply = reply }) (link_pasts past) refl all

pub takes-few : (c : Config) (past : List Entry) → IsReplayed c past → Every TakesFew (link_pasts (live past))
takes-few c [] h = tt
takes-few c (e ∷ before) h = by (some_entry ends (live before) && hears_no_end e.step) (takes-few c before h.0)
  where
    by : (dropped : Bool) → Every TakesFew (link_pasts (live before)) → Every TakesFew (link_pasts (cond dropped (live before) (e ∷ live before)))
    by true few = few
    by false few = step-few c (length before) (live before) e.step e.reply h.1 few
