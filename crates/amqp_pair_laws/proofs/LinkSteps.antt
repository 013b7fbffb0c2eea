-- What a step does to the links of a session: a link keeps its number, and is attached, until it is left.
use Rattle.std.proofs.Common.{◌≡◌, ◌≤◌, ℕ, ◌+◌, ◌==◌, ◌&&◌, ◌++◌, Bool, true, false, not, cond, Option, Some, None, Result, Ok, List, [], ◌∷◌, arith, refl, sym, ap, ◌∙◌, subst, find, map, is_some, length}
use Rattle.std.proofs.lemmas.Bool.{eq-eqb, eqb-true}
use Rattle.amqp_performatives.specs.declared.bodies.Role.{Role}
use Rattle.amqp_performatives.specs.declared.bodies.Role.TheVariants.{Sender, Receiver}
use Rattle.amqp_performatives.specs.declared.bodies.AttachBody.{AttachBody}
use Rattle.amqp_performatives.specs.declared.bodies.DispositionBody.{DispositionBody}
use Rattle.amqp_performatives.specs.declared.performative.Performative.{Performative}
use Rattle.amqp_performatives.specs.declared.performative.Performative.TheVariants as heard
use Rattle.amqp_events.specs.Event.{Disposition, Event, Leaves, Over}
use Rattle.amqp_rules.specs.declared.op.Op.{Op}
use Rattle.amqp_rules.specs.declared.op.Op.TheVariants as own
use Rattle.amqp_rules.specs.declared.reply.Reply.{Reply}
use Rattle.amqp_rules.specs.declared.violation.Violation.{Violation}
use Rattle.amqp_rules.specs.declared.violation.ViolationKind.TheVariants.{OutOfSession, BadHandle}
use Rattle.amqp_rules.specs.View.{LinkView, SendingView, View, change_first, has_name, has_number, has_peer_handle, is_asked_as, is_attached, is_offered_as, is_over, new_link, next_delivery, opposite, remove_first, takes_frames}
use Rattle.amqp_rules.specs.Refusing.{if_there, unlinked}
use Rattle.amqp_rules.specs.Attach.{attach_sent, attached_by_peer, attached_by_us, join_link}
use Rattle.amqp_rules.specs.Start.{begin_delivery}
use Rattle.amqp_rules.specs.Carry.{carry_on}
use Rattle.amqp_rules.specs.Abort.{aborted}
use Rattle.amqp_rules.specs.Learn.{learnt_from}
use Rattle.amqp_rules.specs.Grant.{granted_on}
use Rattle.amqp_rules.specs.Offer.{offered}
use Rattle.amqp_rules.specs.Drained.{drained}
use Rattle.amqp_rules.specs.Take.{taken_from}
use Rattle.amqp_rules.specs.Detach.{left_by_us}
use Rattle.amqp_rules.specs.PeerDetach.{detach_reply}
use Rattle.amqp_rules.specs.PeerDisposition.{told_more}
use Rattle.amqp_rules.specs.PeerTransfer.{heard_on, received_on}
use Rattle.amqp_rules.specs.Flow.{flow_link, flow_links, flowed}
use Rattle.amqp_rules.specs.Deliveries.{begun_on, continued_on, heard_of, left_by_peer, said_of, sending_on, sent_by_body, sent_by_own, received_by_body, received_by_own}
use Rattle.amqp_rules.specs.Answer.{body_answer, is_dropped, next_body, next_own}
use Rattle.amqp_rules.specs.Sound.{Ascends, IsSound, keys}
use Rattle.amqp_rules.proofs.Accepted.{there_Ok, unless_Ok}
use Rattle.amqp_rules.proofs.Listed.{by-bool}
use Rattle.amqp_laws.specs.declared.entry.Step.{Step}
use Rattle.amqp_laws.specs.declared.entry.Step.TheVariants.{Opened, Own, Heard}
use Rattle.amqp_laws.specs.At.{received_by, sent_by}
use Rattle.amqp_laws.specs.Lawful.{next}
use Rattle.amqp_pair_laws.proofs.Plain.{Answers, OwnAnswers}
use Rattle.amqp_pair_laws.proofs.Named.{changed-there, found-passes, removed-there}
use Rattle.amqp_pair_laws.proofs.Windows.{or-none}
use Rattle.amqp_pair_laws.proofs.CountsKnown.{same-some}

-- # Changes of a link

-- its role, name and number stay
pub record KeepsKeys (change : LinkView → LinkView) : Type 0 where
  pub role : (l : LinkView) → (change l).role ≡ l.role
  pub name : (l : LinkView) → (change l).name ≡ l.name
  pub number : (l : LinkView) → (change l).number ≡ l.number

-- and an attached link stays attached
pub record Keeps (change : LinkView → LinkView) : Type 0 where
  pub its : KeepsKeys change
  pub attached : (l : LinkView) → is_attached l ≡ true → is_attached (change l) ≡ true

plain : (change : LinkView → LinkView) → ((l : LinkView) → (change l).role ≡ l.role) → ((l : LinkView) → (change l).name ≡ l.name) → ((l : LinkView) → (change l).number ≡ l.number)
    → ((l : LinkView) → is_attached l ≡ true → is_attached (change l) ≡ true) → Keeps change
plain change r n k a = record { its = record { role = r; name = n; number = k }; attached = a }

-- the event neither leaves a link nor ends the session
abbrev pub IsMild : Event → Type 0
IsMild (Leaves link) = ⊥
IsMild Over = ⊥
IsMild _ = Unit {0}

-- es and er: what the step says of the deliveries that are sent, and of those that are received
pub data LinkStep (v after : View) (es er : Event) : Type 0 where
  still : IsMild es → after.links ≡ v.links → LinkStep v after es er
  changes : (test : LinkView → Bool) (change : LinkView → LinkView) → IsMild es → Keeps change → after.links ≡ change_first test change v.links → LinkStep v after es er
  maps : (change : LinkView → LinkView) → IsMild es → Keeps change → after.links ≡ map change v.links → LinkStep v after es er
  adds : (l : LinkView) → IsMild es → is_attached l ≡ false → after.links ≡ v.links ++ l ∷ [] → LinkStep v after es er
  leaves : (k : ℕ) → es ≡ Leaves k → er ≡ Leaves k → after.links ≡ change_first (has_number k) left_by_us v.links → LinkStep v after es er
  removes : (test : LinkView → Bool) (l : LinkView) → find test v.links ≡ Some l → es ≡ Leaves l.number → er ≡ Leaves l.number → after.links ≡ remove_first test v.links → LinkStep v after es er
  clears : es ≡ Over → er ≡ Over → after.links ≡ [] → LinkStep v after es er

-- # What is found

-- a test by role, name and number
pub record Sees (P : LinkView → Bool) : Type 0 where
  pub sees : (change : LinkView → LinkView) → KeepsKeys change → (l : LinkView) → P (change l) ≡ P l

pub sees-number : (k : ℕ) → Sees (has_number k)
sees-number k = record { sees = λ change keeps l. (let n = keeps.number l in rw n refl) }

pub sees-name : (role : Role) (name : List ℕ) → Sees (has_name role name)
sees-name role name = record { sees = λ change keeps l. (let r = keeps.role l in let n = keeps.name l in rw (r, n) refl) }

-- the link m, after a step
pub record Went (P : LinkView → Bool) (links : List LinkView) (m : LinkView) : Type 0 where
  pub link' : LinkView
  pub found : find P links ≡ Some link'
  pub number : link'.number ≡ m.number
  pub attached : is_attached m ≡ true → is_attached link' ≡ true

went-same : (P : LinkView → Bool) (links : List LinkView) (m : LinkView) → find P links ≡ Some m → Went P links m
went-same P links m h = record { link' = m; found = h; number = refl; attached = λ a. a }

changed-went : (P test : LinkView → Bool) (change : LinkView → LinkView) (xs : List LinkView) (m : LinkView) → Sees P → Keeps change → find P xs ≡ Some m → Went P (change_first test change xs) m
changed-went P test change [] m s k h = absurd (cc (h))
changed-went P test change (x ∷ xs) m s k h =
    let same = s.sees change k.its x in
    by-bool (test x)
    (λ (t : test x ≡ true).
    by-bool (P x)
    (λ (p : P x ≡ true).
    let f = rw p at h in
    let one : x ≡ m = cc f in
    let there : find P (change_first test change (x ∷ xs)) ≡ Some (change x) = rw (t, same, p) refl in
    record { link' = change x; found = there; number = k.its.number x ∙ ap (λ (l : LinkView). l.number) one; attached = λ a. k.attached x (ap is_attached one ∙ a) })
    (λ (p : P x ≡ false).
    let f = rw p at h in
    went-same P (change_first test change (x ∷ xs)) m (rw (t, same, p) f)))
    (λ (t : test x ≡ false).
    by-bool (P x)
    (λ (p : P x ≡ true).
    let f = rw p at h in
    went-same P (change_first test change (x ∷ xs)) m (rw (t, p) f))
    (λ (p : P x ≡ false).
    let f = rw p at h in
    let w = changed-went P test change xs m s k f in
    record { link' = w.link'; found = rw (t, p) w.found; number = w.number; attached = w.attached }))

mapped-went : (P : LinkView → Bool) (change : LinkView → LinkView) (xs : List LinkView) (m : LinkView) → Sees P → Keeps change → find P xs ≡ Some m → Went P (map change xs) m
mapped-went P change [] m s k h = absurd (cc (h))
mapped-went P change (x ∷ xs) m s k h =
    let same = s.sees change k.its x in
    by-bool (P x)
    (λ (p : P x ≡ true).
    let f = rw p at h in
    let one : x ≡ m = cc f in
    let there : find P (map change (x ∷ xs)) ≡ Some (change x) = rw (same, p) refl in
    record { link' = change x; found = there; number = k.its.number x ∙ ap (λ (l : LinkView). l.number) one; attached = λ a. k.attached x (ap is_attached one ∙ a) })
    (λ (p : P x ≡ false).
    let f = rw p at h in
    let w = mapped-went P change xs m s k f in
    record { link' = w.link'; found = rw (same, p) w.found; number = w.number; attached = w.attached })

added-there : (P : LinkView → Bool) (xs : List LinkView) (y m : LinkView) → find P xs ≡ Some m → find P (xs ++ y ∷ []) ≡ Some m
added-there P [] y m h = absurd (cc (h))
added-there P (x ∷ xs) y m h =
    by-bool (P x)
    (λ (p : P x ≡ true). let f = rw p at h in rw p f)
    (λ (p : P x ≡ false). let f = rw p at h in rw p (added-there P xs y m f))

-- another link is changed
pub changed-apart : (P test : LinkView → Bool) (change : LinkView → LinkView) (xs : List LinkView) (m : LinkView) → Sees P → KeepsKeys change → find P xs ≡ Some m → test m ≡ false → find P (change_first test change xs) ≡ Some m
changed-apart P test change [] m s k h other = absurd (cc (h))
changed-apart P test change (x ∷ xs) m s k h other =
    let same = s.sees change k x in
    by-bool (test x)
    (λ (t : test x ≡ true).
    by-bool (P x)
    (λ (p : P x ≡ true).
    let f = rw p at h in
    let one : x ≡ m = cc f in
    let here : test m ≡ true = ap test (sym one) ∙ t in
    absurd (cc (here, other)))
    (λ (p : P x ≡ false). let f = rw p at h in rw (t, same, p) f))
    (λ (t : test x ≡ false).
    by-bool (P x)
    (λ (p : P x ≡ true). let f = rw p at h in rw (t, p) f)
    (λ (p : P x ≡ false). let f = rw p at h in rw (t, p) (changed-apart P test change xs m s k f other)))

-- another link is removed
removed-apart : (P test : LinkView → Bool) (xs : List LinkView) (l m : LinkView) → find test xs ≡ Some l → find P xs ≡ Some m → (m ≡ l → ⊥) → find P (remove_first test xs) ≡ Some m
removed-apart P test [] l m g h other = absurd (cc (h))
removed-apart P test (x ∷ xs) l m g h other =
    by-bool (test x)
    (λ (t : test x ≡ true).
    let f = rw t at g in
    let one : x ≡ l = cc f in
    by-bool (P x)
    (λ (p : P x ≡ true). let k = rw p at h in let two : x ≡ m = cc k in absurd (other (sym two ∙ one)))
    (λ (p : P x ≡ false). let k = rw p at h in rw t k))
    (λ (t : test x ≡ false).
    let f = rw t at g in
    by-bool (P x)
    (λ (p : P x ≡ true). let k = rw p at h in rw (t, p) k)
    (λ (p : P x ≡ false). let k = rw p at h in rw (t, p) (removed-apart P test xs l m f k other)))

changed-none : (P test : LinkView → Bool) (change : LinkView → LinkView) (xs : List LinkView) → Sees P → KeepsKeys change → find P xs ≡ None → find P (change_first test change xs) ≡ None
changed-none P test change [] s k h = refl
changed-none P test change (x ∷ xs) s k h =
    let same = s.sees change k x in
    by-bool (P x)
    (λ (p : P x ≡ true). let f = rw p at h in absurd (cc (f)))
    (λ (p : P x ≡ false).
    let f = rw p at h in
    by-bool (test x)
    (λ (t : test x ≡ true). rw (t, same, p) f)
    (λ (t : test x ≡ false). rw (t, p) (changed-none P test change xs s k f)))

mapped-none : (P : LinkView → Bool) (change : LinkView → LinkView) (xs : List LinkView) → Sees P → KeepsKeys change → find P xs ≡ None → find P (map change xs) ≡ None
mapped-none P change [] s k h = refl
mapped-none P change (x ∷ xs) s k h =
    let same = s.sees change k x in
    by-bool (P x)
    (λ (p : P x ≡ true). let f = rw p at h in absurd (cc (f)))
    (λ (p : P x ≡ false). let f = rw p at h in rw (same, p) (mapped-none P change xs s k f))

added-one : (P : LinkView → Bool) (xs : List LinkView) (y m : LinkView) → find P xs ≡ None → find P (xs ++ y ∷ []) ≡ Some m → m ≡ y
added-one P [] y m h is =
    by-bool (P y)
    (λ (p : P y ≡ true). let f = rw p at is in let one : y ≡ m = cc f in sym one)
    (λ (p : P y ≡ false). let f = rw p at is in absurd (cc (f)))
added-one P (x ∷ xs) y m h is =
    by-bool (P x)
    (λ (p : P x ≡ true). let f = rw p at h in absurd (cc (f)))
    (λ (p : P x ≡ false). let f = rw p at h in let g = rw p at is in added-one P xs y m f g)

removed-none : (P test : LinkView → Bool) (xs : List LinkView) → find P xs ≡ None → find P (remove_first test xs) ≡ None
removed-none P test [] h = refl
removed-none P test (x ∷ xs) h =
    by-bool (P x)
    (λ (p : P x ≡ true). let f = rw p at h in absurd (cc (f)))
    (λ (p : P x ≡ false).
    let f = rw p at h in
    by-bool (test x)
    (λ (t : test x ≡ true). rw t f)
    (λ (t : test x ≡ false). rw (t, p) (removed-none P test xs f)))

-- # A number tells links apart

above : (test : LinkView → Bool) (made n : ℕ) (xs : List LinkView) (l : LinkView) → Ascends made n (map keys xs) → find test xs ≡ Some l → n ≤ l.number
above test made n [] l a h = absurd (cc (h))
above test made n (x ∷ xs) l a h =
    let first : n ≤ x.number = a.0 in
    by-bool (test x)
    (λ (t : test x ≡ true). let f = rw t at h in let one : x ≡ l = cc f in let same : x.number ≡ l.number = ap (λ (l : LinkView). l.number) one in omega (arith, first, same))
    (λ (t : test x ≡ false). let f = rw t at h in let more : x.number + 1 ≤ l.number = above test made (x.number + 1) xs l a.1 f in omega (arith, first, more))

numbered : (test : LinkView → Bool) (made n : ℕ) (xs : List LinkView) (l : LinkView) → Ascends made n (map keys xs) → find test xs ≡ Some l → find (has_number l.number) xs ≡ Some l
numbered test made n [] l a h = absurd (cc (h))
numbered test made n (x ∷ xs) l a h =
    by-bool (test x)
    (λ (t : test x ≡ true).
    let f = rw t at h in
    let one : x ≡ l = cc f in
    let same : has_number l.number x ≡ true = eq-eqb x.number l.number (ap (λ (l : LinkView). l.number) one) in
    rw same f)
    (λ (t : test x ≡ false).
    let f = rw t at h in
    let more : x.number + 1 ≤ l.number = above test made (x.number + 1) xs l a.1 f in
    let other : has_number l.number x ≡ false = differ x.number l.number more in
    rw other (numbered test made (x.number + 1) xs l a.1 f))
  where
    differ : (a b : ℕ) → a + 1 ≤ b → (a == b) ≡ false
    differ a b h = grind (arith, h)

pub by-number : (v : View) (test : LinkView → Bool) (l : LinkView) → IsSound v → find test v.links ≡ Some l → find (has_number l.number) v.links ≡ Some l
by-number v test l s h = numbered test v.made 0 v.links l s.links.numbers h

-- links of one number are one
pub one-number : (v : View) (P Q : LinkView → Bool) (l m : LinkView) → IsSound v → find P v.links ≡ Some l → find Q v.links ≡ Some m → l.number ≡ m.number → l ≡ m
one-number v P Q l m s h k same =
    let here = by-number v P l s h in
    let there = by-number v Q m s k in
    same-some (find (has_number m.number) v.links) l m (ap (λ n. find (has_number n) v.links) (sym same) ∙ here) there

-- # A step

leaves-keeps : KeepsKeys left_by_us
leaves-keeps = record { role = λ l. refl; name = λ l. refl; number = λ l. refl }

not-mild : (e e' : Event) → e ≡ e' → IsMild e → IsMild e'
not-mild e e' same m = subst (λ (e : Event). IsMild e) same m

left-number : (k n : ℕ) → ◌≡◌ {A = Event} (Leaves k) (Leaves n) → k ≡ n
left-number k n e = cc e

-- a link that is not left by the step is there after it
pub step-went : (v after : View) (es er : Event) (P : LinkView → Bool) (m : LinkView) → LinkStep v after es er → Sees P → IsSound v → find P v.links ≡ Some m
    → ((k : ℕ) → er ≡ Leaves k → m.number ≡ k → ⊥) → (er ≡ Over → ⊥) → Went P after.links m
step-went v after es er P m (still mild to) s sound h stays lives = went-same P after.links m (ap (find P) to ∙ h)
step-went v after es er P m (changes test change mild keeps to) s sound h stays lives = subst (λ (links : List LinkView). Went P links m) (sym to) (changed-went P test change v.links m s keeps h)
step-went v after es er P m (maps change mild keeps to) s sound h stays lives = subst (λ (links : List LinkView). Went P links m) (sym to) (mapped-went P change v.links m s keeps h)
step-went v after es er P m (adds l mild apart to) s sound h stays lives = went-same P after.links m (ap (find P) to ∙ added-there P v.links l m h)
step-went v after es er P m (leaves k e e' to) s sound h stays lives =
    by-bool (has_number k m)
    (λ (t : has_number k m ≡ true). absurd (stays k e' (eqb-true m.number k t)))
    (λ (f : has_number k m ≡ false). went-same P after.links m (ap (find P) to ∙ changed-apart P (has_number k) left_by_us v.links m s leaves-keeps h f))
step-went v after es er P m (removes test l g e e' to) s sound h stays lives =
    went-same P after.links m (ap (find P) to ∙ removed-apart P test v.links l m g h (λ (same : m ≡ l). stays l.number e' (ap (λ (l : LinkView). l.number) same)))
step-went v after es er P m (clears e e' to) s sound h stays lives = absurd (lives e')

-- the link of a role and a name, before a step and after it
pub record GoesOn (es : Event) (x x' : LinkView) : Type 0 where
  pub number : x'.number ≡ x.number
  -- it is not left
  pub stays : (k : ℕ) → es ≡ Leaves k → x.number ≡ k → ⊥
  pub lives : es ≡ Over → ⊥

mild-on : (es : Event) (x x' : LinkView) → IsMild es → x'.number ≡ x.number → GoesOn es x x'
mild-on es x x' mild same = record { number = same; stays = λ k e n. not-mild es (Leaves k) e mild; lives = λ e. not-mild es Over e mild }

apart-on : (es : Event) (n : ℕ) (x x' : LinkView) → es ≡ Leaves n → x' ≡ x → (x.number ≡ n → ⊥) → GoesOn es x x'
apart-on es n x x' e same other =
    record {
      number = ap (λ (l : LinkView). l.number) same;
      stays = λ k e' at-k. other (at-k ∙ left-number k n (sym e' ∙ e));
      lives = λ e'. (let k = e in absurd (cc (k, e')));
    }

-- a link of a name that is there before and after, and was not left by us, goes on
pub stays-on : (v after : View) (es er : Event) (role : Role) (name : List ℕ) (x x' : LinkView) → LinkStep v after es er → IsSound v → find (has_name role name) v.links ≡ Some x → find (has_name role name) after.links ≡ Some x'
    → x'.left ≡ false → GoesOn es x x'
stays-on v after es er role name x x' step sound h is unleft = by step
  where
    P : LinkView → Bool
    P = has_name role name

    went : (links : List LinkView) → after.links ≡ links → (w : Went P links x) → x'.number ≡ x.number
    went links to w = ap (λ (l : LinkView). l.number) (same-some (find P after.links) x' w.link' is (ap (find P) to ∙ w.found)) ∙ w.number

    one : find P after.links ≡ Some x → x' ≡ x
    one there = same-some (find P after.links) x' x is there

    by : LinkStep v after es er → GoesOn es x x'
    by (still mild to) = mild-on es x x' mild (went v.links to (went-same P v.links x h))
    by (changes test change mild keeps to) = mild-on es x x' mild (went (change_first test change v.links) to (changed-went P test change v.links x (sees-name role name) keeps h))
    by (maps change mild keeps to) = mild-on es x x' mild (went (map change v.links) to (mapped-went P change v.links x (sees-name role name) keeps h))
    by (adds l mild apart to) = mild-on es x x' mild (went (v.links ++ l ∷ []) to (went-same P (v.links ++ l ∷ []) x (added-there P v.links l x h)))
    by (leaves k e e' to) =
        by-bool (has_number k x)
        (λ (t : has_number k x ≡ true).
        let n : x.number ≡ k = eqb-true x.number k t in
        let here : find (has_number k) v.links ≡ Some x = ap (λ n. find (has_number n) v.links) (sym n) ∙ by-number v P x sound h in
        let there = ap (find P) to ∙ changed-there role name (has_number k) left_by_us v.links x (record { role = λ l. refl; name = λ l. refl }) h here in
        let left' : x'.left ≡ true = ap (λ (l : LinkView). l.left) (same-some (find P after.links) x' (left_by_us x) is there) in
        absurd (cc (left', unleft)))
        (λ (f : has_number k x ≡ false).
        apart-on es k x x' e (one (ap (find P) to ∙ changed-apart P (has_number k) left_by_us v.links x (sees-name role name) leaves-keeps h f)) (λ n. (let t = eq-eqb x.number k n in absurd (cc (t, f)))))
    by (removes test l g e e' to) =
        by-bool (has_number l.number x)
        (λ (t : has_number l.number x ≡ true).
        let n : x.number ≡ l.number = eqb-true x.number l.number t in
        let same : l ≡ x = sym (one-number v P test x l sound h g n) in
        let named : has_name role name l ≡ true = ap P same ∙ found-passes P v.links x h in
        let none = ap (find P) to ∙ removed-there role name test v.links l sound.links.names g named in
        absurd (cc (none, is)))
        (λ (f : has_number l.number x ≡ false).
        let differ : x.number ≡ l.number → ⊥ = λ n. (let t = eq-eqb x.number l.number n in absurd (cc (t, f))) in
        apart-on es l.number x x' e (one (ap (find P) to ∙ removed-apart P test v.links l x g h (λ (same : x ≡ l). differ (ap (λ (l : LinkView). l.number) same)))) differ)
    by (clears e e' to) = let none : find P after.links ≡ None = ap (find P) to in absurd (cc (none, is))

-- an attached link was there before
pub none-before : (v after : View) (es er : Event) (role : Role) (name : List ℕ) (x' : LinkView) → LinkStep v after es er → find (has_name role name) v.links ≡ None → find (has_name role name) after.links ≡ Some x'
    → is_attached x' ≡ true → ⊥
none-before v after es er role name x' step h is attached = by step
  where
    P : LinkView → Bool
    P = has_name role name

    none : find P after.links ≡ None → ⊥
    none n = absurd (cc (n, is))

    by : LinkStep v after es er → ⊥
    by (still mild to) = none (ap (find P) to ∙ h)
    by (changes test change mild keeps to) = none (ap (find P) to ∙ changed-none P test change v.links (sees-name role name) keeps.its h)
    by (maps change mild keeps to) = none (ap (find P) to ∙ mapped-none P change v.links (sees-name role name) keeps.its h)
    by (adds l mild apart to) =
        let one : x' ≡ l = added-one P v.links l x' h (ap (find P) (sym to) ∙ is) in
        let yes : is_attached l ≡ true = ap is_attached (sym one) ∙ attached in
        absurd (cc (yes, apart))
    by (leaves k e e' to) = none (ap (find P) to ∙ changed-none P (has_number k) left_by_us v.links (sees-name role name) leaves-keeps h)
    by (removes test l g e e' to) = none (ap (find P) to ∙ removed-none P test v.links h)
    by (clears e e' to) = none (ap (find P) to)

-- # All steps

ours-attached : (b : AttachBody) (l : LinkView) → is_attached l ≡ true → is_attached (attached_by_us b [] l) ≡ true
ours-attached b l h = by (is_some l.ours) (is_some l.theirs) l.left h
  where
    by : (o t left : Bool) → (o && t) && not left ≡ true → (true && t) && not left ≡ true
    by true t left h = h
    by false t left h = absurd (cc (h))

theirs-attached : (b : AttachBody) (l : LinkView) → is_attached l ≡ true → is_attached (attached_by_peer b l) ≡ true
theirs-attached b l h = by (is_some l.ours) (is_some l.theirs) l.left h
  where
    by : (o t left : Bool) → (o && t) && not left ≡ true → (o && true) && not left ≡ true
    by true true left h = h
    by true false left h = absurd (cc (h))
    by false t left h = absurd (cc (h))

joined-step : (v : View) (test : LinkView → Bool) (role : Role) (name : List ℕ) (change : LinkView → LinkView) (es er : Event) → IsMild es → Keeps change → is_attached (change (new_link v.made role name)) ≡ false
    → LinkStep v (join_link test role name change v) es er
joined-step v test role name change es er mild keeps apart = by (is_some (find test v.links))
  where
    by : (met : Bool) → LinkStep v (cond met (record v { steps = v.steps + 1; links = change_first test change v.links }) (record v { steps = v.steps + 1; made = v.made + 1; links = v.links ++ change (new_link v.made role name) ∷ [] })) es er
    by true = changes test change mild keeps refl
    by false = adds (change (new_link v.made role name)) mild apart refl

mild-begun : (id k : ℕ) (tag : List ℕ) (settled : Bool) (o : Option LinkView) → IsMild (begun_on id k tag settled o)
mild-begun id k tag settled None = tt
mild-begun id k tag settled (Some l) = tt

mild-continued : (over : Bool) (o : Option SendingView) → IsMild (continued_on over o)
mild-continued over None = tt
mild-continued over (Some d) = tt

mild-said : (role : Role) (d : Disposition) → IsMild (said_of Sender role d)
mild-said Sender d = tt
mild-said Receiver d = tt

mild-heard : (b : DispositionBody) (role : Role) → IsMild (heard_of Sender b role)
mild-heard b Sender = tt
mild-heard b Receiver = tt

own-step : (v : View) (op : Op) (reply : Reply) → OwnAnswers v op reply → LinkStep v (next_own v op) (sent_by_own v op) (received_by_own v op)
own-step v own.Begin reply h = still tt refl
own-step v (own.Attach name role snd rcv source target count max_message) reply h =
    let b = attach_sent v (record { name = name; role = role; snd = snd; rcv = rcv; source = source; target = target; count = count; max_message = max_message; items = [] }) in
    joined-step v (is_offered_as role name) role name (attached_by_us b []) _ _ tt (plain (attached_by_us b []) (λ l. refl) (λ l. refl) (λ l. refl) (ours-attached b)) refl
own-step v (own.Start link tag format settled payload more) reply h = changes (has_number link) (begin_delivery (next_delivery v) (length payload) more) (mild-begun (next_delivery v) link tag settled (find (has_number link) v.links)) (plain (begin_delivery (next_delivery v) (length payload) more) (λ l. refl) (λ l. refl) (λ l. refl) (λ l a. a)) refl
own-step v (own.Carry link payload more) reply h = changes (has_number link) (carry_on (length payload) more) (mild-continued false (sending_on (find (has_number link) v.links))) (plain (carry_on (length payload) more) (λ l. refl) (λ l. refl) (λ l. refl) (λ l a. a)) refl
own-step v (own.Abort link) reply h = changes (has_number link) aborted (mild-continued true (sending_on (find (has_number link) v.links))) (plain aborted (λ l. refl) (λ l. refl) (λ l. refl) (λ l a. a)) refl
own-step v (own.Dispose role first last settled state) reply h = still (mild-said role (record { first = first; last = last; settled = settled; state = state })) refl
own-step v (own.Learn link) reply h = changes (has_number link) learnt_from tt (plain learnt_from (λ l. refl) (λ l. refl) (λ l. refl) (λ l a. a)) refl
own-step v (own.Grant link credit drain echo) reply h = changes (has_number link) (granted_on credit drain) tt (plain (granted_on credit drain) (λ l. refl) (λ l. refl) (λ l. refl) (λ l a. a)) refl
own-step v (own.Offer link available) reply h = changes (has_number link) (offered available) tt (plain (offered available) (λ l. refl) (λ l. refl) (λ l. refl) (λ l a. a)) refl
own-step v (own.Drained link) reply h = changes (has_number link) drained tt (plain drained (λ l. refl) (λ l. refl) (λ l. refl) (λ l a. a)) refl
own-step v (own.Refresh echo) reply h = still tt refl
own-step v (own.Take link) reply h = changes (has_number link) taken_from tt (plain taken_from (λ l. refl) (λ l. refl) (λ l. refl) (λ l a. a)) refl
own-step v (own.Detach link error) reply h = leaves link refl refl refl
own-step v (own.Suspend link) reply h = leaves link refl refl refl
own-step v (own.Rejoin r) reply h = absurd h
own-step v (own.Resume link tag settled) reply h = absurd h
own-step v (own.End error) reply h = clears refl refl refl
own-step v own.Beat reply h = still tt refl

unless-left : (change : LinkView → LinkView) → Keeps change → Keeps (λ l. cond l.left l (change l))
unless-left change k = plain _ (λ l. r l l.left) (λ l. n l l.left) (λ l. m l l.left) (λ l h. a l l.left h)
  where
    r : (l : LinkView) (b : Bool) → (cond b l (change l)).role ≡ l.role
    r l true = refl
    r l false = k.its.role l

    n : (l : LinkView) (b : Bool) → (cond b l (change l)).name ≡ l.name
    n l true = refl
    n l false = k.its.name l

    m : (l : LinkView) (b : Bool) → (cond b l (change l)).number ≡ l.number
    m l true = refl
    m l false = k.its.number l

    a : (l : LinkView) (b : Bool) → is_attached l ≡ true → is_attached (cond b l (change l)) ≡ true
    a l true h = h
    a l false h = k.attached l h

left-there : (o : Option LinkView) (l : LinkView) → o ≡ Some l → left_by_peer o ≡ Leaves l.number
left-there o l e = rw e refl

body-step : (v : View) (body : Option Performative) (payload : List ℕ) (reply : Reply) → body_answer v body payload ≡ Ok reply → LinkStep v (next_body v body payload) (sent_by_body v body) (received_by_body v body)
body-step v (Some (heard.Begin b)) payload reply h = still tt refl
body-step v (Some (heard.Attach b)) payload reply h =
    joined-step v (is_asked_as (opposite b.role) b.name) (opposite b.role) b.name (attached_by_peer b) _ _ tt (plain (attached_by_peer b) (λ l. refl) (λ l. refl) (λ l. refl) (theirs-attached b)) refl
body-step v (Some (heard.Flow b)) payload reply h = by b.handle refl
  where
    by : (o : Option ℕ) → b.handle ≡ o → LinkStep v (next_body v (Some (heard.Flow b)) payload) (sent_by_body v (Some (heard.Flow b))) (received_by_body v (Some (heard.Flow b)))
    by None e = still tt (ap (λ h. flow_links b h v.links) e)
    by (Some k) e = changes (has_peer_handle k) (flow_link b) tt (unless-left (flowed b) (plain (flowed b) (λ l. refl) (λ l. refl) (λ l. refl) (λ l a. a))) (ap (λ h. flow_links b h v.links) e)
body-step v (Some (heard.Transfer b)) payload reply h = changes (has_peer_handle b.handle) (heard_on b payload) tt (unless-left (received_on b payload) (plain (received_on b payload) (λ l. refl) (λ l. refl) (λ l. refl) (λ l a. a))) refl
body-step v (Some (heard.Disposition b)) payload reply h =
    maps (told_more (sent_by_body v (Some (heard.Disposition b))) v.sent) (mild-heard b b.role) (plain (told_more (sent_by_body v (Some (heard.Disposition b))) v.sent) (λ l. refl) (λ l. refl) (λ l. refl) (λ l a. a)) refl
body-step v (Some (heard.Detach b)) payload reply h =
    let say : LinkView → Result Reply Violation = λ l. Ok (detach_reply v b l) in
    let u = unless_Ok (not (takes_frames v.session)) (unlinked OutOfSession) (if_there (find (has_peer_handle b.handle) v.links) (unlinked BadHandle) say) reply h in
    let t = there_Ok (find (has_peer_handle b.handle) v.links) (unlinked BadHandle) say reply u.1 in
    removes (has_peer_handle b.handle) t.on t.found (left-there (find (has_peer_handle b.handle) v.links) t.on t.found) (left-there (find (has_peer_handle b.handle) v.links) t.on t.found) refl
body-step v (Some (heard.End b)) payload reply h = clears refl refl refl
body-step v _ payload reply h = absurd (cc (h))

-- of a session that is not over
pub link-step : (v : View) (step : Step) (reply : Reply) → Answers v step reply → is_over v.session ≡ false → LinkStep v (next v step) (sent_by v step) (received_by v step)
link-step v (Opened told) reply h o = still tt refl
link-step v (Own op) reply h o = own-step v op reply h
link-step v (Heard f) reply h o =
    let unsent : v.session.end_sent ≡ false = (or-none v.session.end_sent v.session.end_heard o).0 in
    let taken : is_dropped v f.body ≡ false = rw unsent refl in
    let k = rw taken at h in
    rw taken (body-step v f.body f.payload reply k)
