-- What is taken on a link once it is left, or gone, waited there when it was attached; and on a link that was never attached nothing is taken.
use Rattle.std.proofs.Common.{◌≡◌, ◌⊎◌, inl, inr, ◌≤◌, ◌<◌, ℕ, ◌==◌, ◌&&◌, ◌++◌, Bool, true, false, not, cond, Option, Some, None, Ok, List, [], ◌∷◌, arith, refl, sym, ap, ◌∙◌, subst, drop, find, map, is_some}
use Rattle.std.proofs.lemmas.Bool.{eq-eqb, eqb-true}
use Rattle.amqp_performatives.specs.declared.bodies.Role.{Role}
use Rattle.amqp_performatives.specs.declared.bodies.Role.TheVariants.{Sender, Receiver}
use Rattle.amqp_performatives.specs.declared.bodies.TransferBody.{TransferBody}
use Rattle.amqp_performatives.specs.declared.performative.Performative.{Performative}
use Rattle.amqp_performatives.specs.declared.performative.Performative.TheVariants as heard
use Rattle.amqp_frames.specs.declared.frame.Frame.{Frame}
use Rattle.amqp_events.specs.Joined.{Delivery}
use Rattle.amqp_rules.specs.declared.config.Config.{Config}
use Rattle.amqp_rules.specs.declared.reply.Reply.{Reply}
use Rattle.amqp_rules.specs.declared.reply.Given.{Given}
use Rattle.amqp_rules.specs.declared.reply.Given.TheVariants as given
use Rattle.amqp_rules.specs.View.{LinkView, View, change_first, has_name, has_number, has_peer_handle, is_attached, is_over, is_sender}
use Rattle.amqp_rules.specs.Take.{taken_from, taken_of}
use Rattle.amqp_rules.specs.PeerTransfer.{heard_on, received_on}
use Rattle.amqp_rules.specs.Answer.{body_answer}
use Rattle.amqp_rules.specs.Sound.{IsSound}
use Rattle.amqp_rules.proofs.Listed.{by-bool}
use Rattle.amqp_laws.specs.declared.entry.Entry.{Entry}
use Rattle.amqp_laws.specs.declared.entry.Step.{Step}
use Rattle.amqp_laws.specs.declared.entry.Step.TheVariants.{Heard}
use Rattle.amqp_laws.specs.At.{at}
use Rattle.amqp_laws.specs.Lawful.{next}
use Rattle.amqp_laws.proofs.Twice.{and-both}
use Rattle.amqp_pair_laws.proofs.Plain.{Answers, due}
use Rattle.amqp_pair_laws.specs.World.{frame_in}
use Rattle.amqp_pair_laws.specs.Moves.{IsTail}
use Rattle.amqp_pair_laws.specs.Passing.{Content, content_of, taken_in, taken_on}
use Rattle.amqp_pair_laws.specs.Takes.{IsFront, WasAttached}
use Rattle.amqp_pair_laws.proofs.Named.{found-passes, name-self, named-found, named-is}
use Rattle.amqp_pair_laws.proofs.Phases.{over-stays}
use Rattle.amqp_pair_laws.proofs.SlotActs.{AllFair, OneMore, by-peer-handle, one-more}
use Rattle.amqp_pair_laws.proofs.TurnHeard.{transfer-accepts}
use Rattle.amqp_pair_laws.proofs.CountsKnown.{same-some}
use Rattle.amqp_pair_laws.proofs.CountsPass.{attached-ends}
use Rattle.amqp_pair_laws.proofs.Expected.{heard-answers}
use Rattle.amqp_pair_laws.proofs.HeldKnown.{one-sound}
use Rattle.amqp_pair_laws.proofs.Members.{In}
use Rattle.amqp_pair_laws.proofs.LinkSteps.{by-number}
use Rattle.amqp_pair_laws.proofs.ReadySteps.{From, New, ReadyStep, Rests, found-in, hears, idle-step, in-changed, in-number, ready-step, rests, takes}
use Rattle.amqp_pair_laws.proofs.TakenKnown.{more-more, none-more}
use Rattle.amqp_pair_laws.proofs.Unused.{below, comes, made-grows, number-is, theirs-some}

-- # Fronts

pub front-self : {A : Type 0} (xs : List A) → IsFront xs xs
front-self xs = ([], sym (none-more xs))

pub front-on : {A : Type 0} (xs ys zs : List A) → IsFront xs ys → IsFront ys zs → IsFront xs zs
front-on xs ys zs f g = (f.0 ++ g.0, g.1 ∙ ap (λ ws. ws ++ g.0) f.1 ∙ more-more xs f.0 g.0)

front-first : {A : Type 0} (xs ys : List A) → IsFront xs (xs ++ ys)
front-first xs ys = (ys, refl)

-- # One step

-- what waits on the link of this number is what waited there, or the first of it is taken; or it is new
data Waits (v : View) (k : ℕ) (m : LinkView) (g : Given) : Type 0 where
  fresh : m.ready ≡ [] → taken_in k g ≡ [] → Waits v k m g
  waited : (l : LinkView) → find (has_number k) v.links ≡ Some l → m.ready ≡ l.ready → taken_in k g ≡ [] → Waits v k m g
  took : (l : LinkView) (d : Delivery) (ds : List Delivery) → find (has_number k) v.links ≡ Some l → l.ready ≡ d ∷ ds → m.ready ≡ ds → taken_in k g ≡ content_of d ∷ [] → Waits v k m g

found-changed : {A : Type 0} (test : A → Bool) (change : A → A) (xs : List A) (l : A) → ((x : A) → test (change x) ≡ test x) → find test xs ≡ Some l → find test (change_first test change xs) ≡ Some (change l)
found-changed test change [] l keeps h = absurd (cc (h))
found-changed test change (x ∷ xs) l keeps h =
    by-bool (test x)
    (λ (t : test x ≡ true).
    let k = rw t at h in
    let one : x ≡ l = cc k in
    let t' : test (change x) ≡ true = keeps x ∙ t in
    rw (t, t') (ap (λ x. Some (change x)) one))
    (λ (f : test x ≡ false). let k = rw f at h in rw (f, f) (found-changed test change xs l keeps k))

-- a take names its link
taken-here : (l : LinkView) (d : Delivery) (n : ℕ) → l.number ≡ n → taken_in n (given.Taken (taken_of l.number d)) ≡ content_of d ∷ []
taken-here l d n same = let yes = eq-eqb l.number n same in rw yes refl

taken-there : (l : LinkView) (d : Delivery) (n k : ℕ) → l.number ≡ n → (k == n) ≡ false → taken_in k (given.Taken (taken_of l.number d)) ≡ []
taken-there l d n k same other = let no = apart l.number n k same other in rw no refl
  where
    apart : (l n k : ℕ) → l ≡ n → (k == n) ≡ false → (l == k) ≡ false
    apart l n k same other = grind (arith, same, other)

-- where the link of the number is not there after the step, nothing is taken on it
gone-none : (v after : View) (step : Step) (g : Given) (k : ℕ) → ReadyStep v after step g → find (has_number k) after.links ≡ None → taken_in k g ≡ []
gone-none v after step g k (rests mute f none) gone = none k
gone-none v after step g k (hears f t is body to none) gone = none k
gone-none v after step g k (takes l d ds n is found ready to given') gone =
    by-bool (k == n)
    (λ (t : (k == n) ≡ true).
    let same : k ≡ n = eqb-true k n t in
    let there : find (has_number n) after.links ≡ Some (taken_from l) = ap (find (has_number n)) to ∙ found-changed (has_number n) taken_from v.links l (λ x. refl) found in
    let none : find (has_number n) after.links ≡ None = ap (λ k. find (has_number k) after.links) (sym same) ∙ gone in
    absurd (cc (there, none)))
    (λ (f : (k == n) ≡ false). ap (taken_in k) given' ∙ taken-there l d n k (number-is v n l found) f)

-- a link that is left stays as it is
left-same : (t : TransferBody) (payload : List ℕ) (m x : LinkView) → m ≡ heard_on t payload x → m.left ≡ true → m.ready ≡ x.ready
left-same t payload m x is left' = by x.left refl is
  where
    by : (b : Bool) → x.left ≡ b → m ≡ cond b x (received_on t payload x) → m.ready ≡ x.ready
    by true e is = ap (λ (l : LinkView). l.ready) is
    by false e is = let stays : m.left ≡ false = ap (λ (l : LinkView). l.left) is ∙ e in absurd (cc (stays, left'))

-- where no transfer changes the link
waits-step : (v after : View) (step : Step) (g : Given) (k : ℕ) (m : LinkView) → IsSound v → ReadyStep v after step g → find (has_number k) after.links ≡ Some m
    → ((f : Frame) (t : TransferBody) (x : LinkView) → step ≡ Heard f → f.body ≡ Some (heard.Transfer t) → In x v.links → x.number ≡ k → has_peer_handle t.handle x ≡ true → m ≡ heard_on t f.payload x → m.ready ≡ x.ready) → Waits v k m g
waits-step v after step g k m s r found deaf = by r
  where
    n : m.number ≡ k
    n = number-is after k m found

    there : In m after.links
    there = found-in (has_number k) after.links m found

    at-k : (x : LinkView) → In x v.links → x.number ≡ k → find (has_number k) v.links ≡ Some x
    at-k x h e = ap (λ k. find (has_number k) v.links) (sym e) ∙ in-number v x s h

    by : ReadyStep v after step g → Waits v k m g
    by (rests mute f none) = on (f m there)
      where
        on : Rests v m ⊎ New v m → Waits v k m g
        on (inl r) = waited r.was.before (ap (λ k. find (has_number k) v.links) (sym n) ∙ r.was.found) r.ready (none k)
        on (inr new) = fresh new.ready (none k)
    by (hears f t is body to none) =
        let x = in-changed (has_peer_handle t.handle) (heard_on t f.payload) v.links m (subst (λ (links : List LinkView). In m links) to there) in
        on x.0 x.1.0 x.1.1
      where
        on : (x : LinkView) → In x v.links → (m ≡ x) ⊎ ((m ≡ heard_on t f.payload x) × (has_peer_handle t.handle x ≡ true)) → Waits v k m g
        on x h (inl e) = waited x (at-k x h (sym (ap (λ (l : LinkView). l.number) e) ∙ n)) (ap (λ (l : LinkView). l.ready) e) (none k)
        on x h (inr e) =
            let e' : x.number ≡ k = sym (ap (λ (l : LinkView). l.number) e.0 ∙ heard-number x) ∙ n in
            waited x (at-k x h e') (deaf f t x is body h e' e.1 e.0) (none k)
          where
            heard-number : (x : LinkView) → (heard_on t f.payload x).number ≡ x.number
            heard-number x = by-left x.left
              where
                by-left : (b : Bool) → (cond b x (received_on t f.payload x)).number ≡ x.number
                by-left true = refl
                by-left false = refl
    by (takes l d ds n' is at-l ready to given') =
        by-bool (k == n')
        (λ (t : (k == n') ≡ true).
        let e : k ≡ n' = eqb-true k n' t in
        let found' : find (has_number k) v.links ≡ Some l = ap (λ k. find (has_number k) v.links) e ∙ at-l in
        let to' : after.links ≡ change_first (has_number k) taken_from v.links = to ∙ ap (λ n. change_first (has_number n) taken_from v.links) (sym e) in
        let after' : find (has_number k) after.links ≡ Some (taken_from l) = ap (find (has_number k)) to' ∙ found-changed (has_number k) taken_from v.links l (λ x. refl) found' in
        let one : m ≡ taken_from l = same-some (find (has_number k) after.links) m (taken_from l) found after' in
        took l d ds found' ready (ap (λ (l : LinkView). l.ready) one ∙ ap (drop 1) ready) (ap (taken_in k) given' ∙ taken-here l d k (number-is v k l found')))
        (λ (f : (k == n') ≡ false).
        let x = in-changed (has_number n') taken_from v.links m (subst (λ (links : List LinkView). In m links) to there) in
        on f x.0 x.1.0 x.1.1)
      where
        on : (k == n') ≡ false → (x : LinkView) → In x v.links → (m ≡ x) ⊎ ((m ≡ taken_from x) × (has_number n' x ≡ true)) → Waits v k m g
        on f x h (inl e) = waited x (at-k x h (sym (ap (λ (l : LinkView). l.number) e) ∙ n)) (ap (λ (l : LinkView). l.ready) e) (ap (taken_in k) given' ∙ taken-there l d n' k (number-is v n' l at-l) f)
        on f x h (inr e) =
            let here : x.number ≡ n' = eqb-true x.number n' e.1 in
            let other : x.number ≡ k = sym (ap (λ (l : LinkView). l.number) e.0) ∙ n in
            let same' = eq-eqb k n' (sym other ∙ here) in
            absurd (cc (same', f))

-- # The link of a number

-- it is of this name, and both attaches were sent
pub record Was (v : View) (k : ℕ) (name : List ℕ) : Type 0 where
  pub made : k < v.made
  pub its : (l : LinkView) → find (has_number k) v.links ≡ Some l → (is_some l.ours ≡ true) × ((is_some l.theirs ≡ true) × ((l.role ≡ Receiver) × (l.name ≡ name)))

was-found : (v : View) (k : ℕ) (name : List ℕ) (l : LinkView) → IsSound v → Was v k name → find (has_number k) v.links ≡ Some l → find (has_name Receiver name) v.links ≡ Some l
was-found v k name l s w found =
    let x = w.its l found in
    let named : has_name Receiver name l ≡ true = ap (λ (r : Role). has_name r name l) (sym x.1.1.0) ∙ ap (λ n. has_name l.role n l) (sym x.1.1.1) ∙ name-self l.role l.name in
    named-found Receiver name (has_number k) v.links l s.links.names found named

was-attached : (l : LinkView) → is_some l.ours ≡ true → is_some l.theirs ≡ true → l.left ≡ false → is_attached l ≡ true
was-attached l o t u = rw (o, t, u) refl

was-now : (v : View) (name : List ℕ) (y : LinkView) → IsSound v → find (has_name Receiver name) v.links ≡ Some y → is_attached y ≡ true → Was v y.number name
was-now v name y s found attached =
    record {
      made = below v y s (found-in (has_name Receiver name) v.links y found);
      its = λ l h. (let one : y ≡ l = same-some (find (has_number y.number) v.links) y l (by-number v (has_name Receiver name) y s found) h in subst (λ (l : LinkView). (is_some l.ours ≡ true) × ((is_some l.theirs ≡ true) × ((l.role ≡ Receiver) × (l.name ≡ name)))) one its');
    }
  where
    its' : (is_some y.ours ≡ true) × ((is_some y.theirs ≡ true) × ((y.role ≡ Receiver) × (y.name ≡ name)))
    its' =
        let p = attached-ends y attached in
        let n = named-is Receiver name y (found-passes (has_name Receiver name) v.links y found) in
        (p.0, (p.1.0, (sym n.role_is, sym n.name_is)))

was-later : (c : Config) (e : Entry) (past : List Entry) (k : ℕ) (name : List ℕ) → AllFair c (e ∷ past) → Was (at c past) k name → Was (at c (e ∷ past)) k name
was-later c e past k name fair w = subst (λ (v : View). Was v k name) (sym o.goes_on) (record { made = made'; its = its' })
  where
    v : View
    v = at c past

    o : OneMore (Receiver, name) c e past
    o = one-more (Receiver, name) c e past fair

    over-none : is_over v.session ≡ true → (l : LinkView) → find (has_number k) (next v e.step).links ≡ Some l → ⊥
    over-none over l found =
        let none : (at c (e ∷ past)).links ≡ [] = (one-sound c (e ∷ past) fair).over (over-stays e past over) in
        let none' : (next v e.step).links ≡ [] = ap (λ (v : View). v.links) (sym o.goes_on) ∙ none in
        let here : find (has_number k) [] ≡ Some l = subst (λ (links : List LinkView). find (has_number k) links ≡ Some l) none' found in
        absurd (cc (here))

    by : (l : LinkView) → find (has_number k) (next v e.step).links ≡ Some l → From v l ⊎ New v l → (is_some l.ours ≡ true) × ((is_some l.theirs ≡ true) × ((l.role ≡ Receiver) × (l.name ≡ name)))
    by l found (inl f) =
        let x = w.its f.before (ap (λ k. find (has_number k) v.links) (sym (number-is (next v e.step) k l found)) ∙ f.found) in
        (f.ours x.0, (f.theirs x.1.0, (f.role ∙ x.1.1.0, f.name ∙ x.1.1.1)))
    by l found (inr new) =
        let few : k < v.made = w.made in
        let at-made : l.number ≡ v.made = new.number in
        let n : l.number ≡ k = number-is (next v e.step) k l found in
        absurd (omega (arith, few, at-made, n))

    made' : k < (next v e.step).made
    made' = let few : k < v.made = w.made in let more : v.made ≤ (next v e.step).made = made-grows v e.step in omega (arith, few, more)

    its' : (l : LinkView) → find (has_number k) (next v e.step).links ≡ Some l → (is_some l.ours ≡ true) × ((is_some l.theirs ≡ true) × ((l.role ≡ Receiver) × (l.name ≡ name)))
    its' l found =
        by-bool (is_over v.session)
        (λ (over : is_over v.session ≡ true). absurd (over-none over l found))
        (λ (lives : is_over v.session ≡ false).
        let r = ready-step v e.step e.reply (due fair.1) lives o.sound in
        by l found (comes v (next v e.step) e.step e.reply.given r o.sound l (found-in (has_number k) (next v e.step).links l found)))

-- # The last state in which the link was attached

pub record Stood (c : Config) (from : List Entry) (k : ℕ) (name : List ℕ) (past : List Entry) : Type 0 where
  pub early : List Entry
  pub since : IsTail from early
  pub is_tail : IsTail early past
  pub link' : LinkView
  pub found : find (has_name Receiver name) (at c early).links ≡ Some link'
  pub number : link'.number ≡ k
  pub attached : is_attached link' ≡ true
  pub was : Was (at c past) k name
  pub front : IsFront (taken_on k past) (taken_on k early ++ map content_of link'.ready)
  pub waits : (l : LinkView) → find (has_number k) (at c past).links ≡ Some l → IsFront (taken_on k past ++ map content_of l.ready) (taken_on k early ++ map content_of link'.ready)

pub self-tail : {E : Type 0} (b : List E) → IsTail b b
self-tail [] = refl
self-tail (e ∷ b) = inl refl

-- it is attached now
stood-now : (c : Config) (from past : List Entry) (k : ℕ) (name : List ℕ) (y : LinkView) → IsTail from past → AllFair c past → find (has_name Receiver name) (at c past).links ≡ Some y → y.number ≡ k → is_attached y ≡ true → Stood c from k name past
stood-now c from past k name y tail fair found number attached =
    let s = one-sound c past fair in
    record {
      early = past;
      since = tail;
      is_tail = self-tail past;
      link' = y;
      found = found;
      number = number;
      attached = attached;
      was = subst (λ (k : ℕ). Was (at c past) k name) number (was-now (at c past) name y s found attached);
      front = front-first (taken_on k past) (map content_of y.ready);
      waits = λ l h. (let one : y ≡ l = same-some (find (has_number k) (at c past).links) y l (ap (λ k. find (has_number k) (at c past).links) (sym number) ∙ by-number (at c past) (has_name Receiver name) y s found) h in
          subst (λ (l : LinkView). IsFront (taken_on k past ++ map content_of l.ready) (taken_on k past ++ map content_of y.ready)) one (front-self (taken_on k past ++ map content_of y.ready)));
    }

-- it is left now, or gone
stood-on : (c : Config) (from : List Entry) (k : ℕ) (name : List ℕ) (e : Entry) (past : List Entry) → (s : Stood c from k name past) → Was (at c (e ∷ past)) k name
    → IsFront (taken_on k (e ∷ past)) (taken_on k s.early ++ map content_of s.link'.ready)
    → ((l : LinkView) → find (has_number k) (at c (e ∷ past)).links ≡ Some l → IsFront (taken_on k (e ∷ past) ++ map content_of l.ready) (taken_on k s.early ++ map content_of s.link'.ready))
    → Stood c from k name (e ∷ past)
stood-on c from k name e past s was front waits = record { early = s.early; since = s.since; is_tail = inr s.is_tail; link' = s.link'; found = s.found; number = s.number; attached = s.attached; was = was; front = front; waits = waits }

stood-more : (c : Config) (from : List Entry) (k : ℕ) (name : List ℕ) (e : Entry) (past : List Entry) → AllFair c (e ∷ past) → IsTail from past → Stood c from k name past → Stood c from k name (e ∷ past)
stood-more c from k name e past fair tail s = by-bool (is_over v.session) (λ (over : is_over v.session ≡ true). ended over) (λ (lives : is_over v.session ≡ false). by (find (has_number k) (at c (e ∷ past)).links) refl (ready-step v e.step e.reply (due fair.1) lives o.sound))
  where
    v : View
    v = at c past

    o : OneMore (Receiver, name) c e past
    o = one-more (Receiver, name) c e past fair

    was' : Was (at c (e ∷ past)) k name
    was' = was-later c e past k name fair s.was

    whole : List Content
    whole = taken_on k s.early ++ map content_of s.link'.ready

    still-taken : taken_in k e.reply.given ≡ [] → taken_on k (e ∷ past) ≡ taken_on k past
    still-taken none = ap (λ xs. taken_on k past ++ xs) none ∙ none-more (taken_on k past)

    absent : taken_in k e.reply.given ≡ [] → find (has_number k) (at c (e ∷ past)).links ≡ None → Stood c from k name (e ∷ past)
    absent none gone = stood-on c from k name e past s was' (subst (λ (xs : List Content). IsFront xs whole) (sym (still-taken none)) s.front) (λ l h. absurd (cc (gone, h)))

    ended : is_over v.session ≡ true → Stood c from k name (e ∷ past)
    ended over =
        let gone : (at c (e ∷ past)).links ≡ [] = (one-sound c (e ∷ past) fair).over (over-stays e past over) in
        absent (idle-step v e.step e.reply (due fair.1) o.sound (o.sound.over over) k) (ap (find (has_number k)) gone)

    here : (m : LinkView) → find (has_number k) (at c (e ∷ past)).links ≡ Some m → IsFront (taken_on k (e ∷ past) ++ map content_of m.ready) whole → Stood c from k name (e ∷ past)
    here m found f =
        stood-on c from k name e past s was' (front-on (taken_on k (e ∷ past)) (taken_on k (e ∷ past) ++ map content_of m.ready) whole (front-first (taken_on k (e ∷ past)) (map content_of m.ready)) f)
        (λ l h. (let one : m ≡ l = same-some (find (has_number k) (at c (e ∷ past)).links) m l found h in subst (λ (l : LinkView). IsFront (taken_on k (e ∷ past) ++ map content_of l.ready) whole) one f))

    -- it is left
    left-on : (m : LinkView) → find (has_number k) (at c (e ∷ past)).links ≡ Some m → Waits v k m e.reply.given → Stood c from k name (e ∷ past)
    left-on m found (fresh none nothing) =
        let empty : taken_on k (e ∷ past) ++ map content_of m.ready ≡ taken_on k past = ap (λ ds. taken_on k (e ∷ past) ++ map content_of ds) none ∙ none-more (taken_on k (e ∷ past)) ∙ still-taken nothing in
        here m found (subst (λ (xs : List Content). IsFront xs whole) (sym empty) s.front)
    left-on m found (waited l was-l ready none) =
        let f : IsFront (taken_on k (e ∷ past) ++ map content_of m.ready) whole =
        subst (λ (xs : List Content). IsFront xs whole) (sym (ap (λ xs. xs ++ map content_of m.ready) (still-taken none) ∙ ap (λ ds. taken_on k past ++ map content_of ds) ready)) (s.waits l was-l) in
        here m found f
    left-on m found (took l d ds was-l ready rest took') =
        let now : taken_on k (e ∷ past) ++ map content_of m.ready ≡ taken_on k past ++ map content_of l.ready =
        ap (λ ds. (taken_on k past ++ taken_in k e.reply.given) ++ map content_of ds) rest ∙ ap (λ c. (taken_on k past ++ c) ++ map content_of ds) took'
        ∙ more-more (taken_on k past) (content_of d ∷ []) (map content_of ds) ∙ ap (λ rs. taken_on k past ++ map content_of rs) (sym ready) in
        here m found (subst (λ (xs : List Content). IsFront xs whole) (sym now) (s.waits l was-l))

    by : (b : Option LinkView) → find (has_number k) (at c (e ∷ past)).links ≡ b → ReadyStep v (next v e.step) e.step e.reply.given → Stood c from k name (e ∷ past)
    by None gone r = absent (gone-none v (next v e.step) e.step e.reply.given k r (ap (λ (v : View). find (has_number k) v.links) (sym o.goes_on) ∙ gone)) gone
    by (Some m) found r =
        by-bool m.left
        (λ (left' : m.left ≡ true).
        left-on m found
        (waits-step v (next v e.step) e.step e.reply.given k m o.sound r (ap (λ (v : View). find (has_number k) v.links) (sym o.goes_on) ∙ found)
        (λ f t x is body h e' met heard'. left-same t f.payload m x heard' left')))
        (λ (unleft : m.left ≡ false).
        let x = was'.its m found in
        stood-now c from (e ∷ past) k name m (inr tail) fair (was-found (at c (e ∷ past)) k name m (one-sound c (e ∷ past) fair) was' found) (number-is (at c (e ∷ past)) k m found)
        (was-attached m x.0 x.1.0 unleft))

-- from a state in which it was attached on
pub stood : (c : Config) (early past : List Entry) (name : List ℕ) (y : LinkView) → AllFair c past → IsTail early past → find (has_name Receiver name) (at c early).links ≡ Some y → is_attached y ≡ true → Stood c early y.number name past
stood c early [] name y fair tail found attached = let none : find (has_name Receiver name) (at c []).links ≡ Some y = ap (λ (p : List Entry). find (has_name Receiver name) (at c p).links) (sym tail) ∙ found in absurd (cc (none))
stood c early (e ∷ past) name y fair (inl same) found attached =
    stood-now c early (e ∷ past) y.number name y (inl same) fair (ap (λ (p : List Entry). find (has_name Receiver name) (at c p).links) (sym same) ∙ found) refl attached
stood c early (e ∷ past) name y fair (inr tail) found attached = stood-more c early y.number name e past fair tail (stood c early past name y fair.0 tail found attached)

-- # Links that were never attached

-- nothing was taken there, and nothing waits
record Never (c : Config) (past : List Entry) (k : ℕ) : Type 0 where
  taken : taken_on k past ≡ []
  ready : (l : LinkView) → find (has_number k) (at c past).links ≡ Some l → l.ready ≡ []

nothing-waits : (v : View) (k : ℕ) (m : LinkView) (g : Given) → ((l : LinkView) → find (has_number k) v.links ≡ Some l → l.ready ≡ []) → Waits v k m g → (m.ready ≡ []) × (taken_in k g ≡ [])
nothing-waits v k m g none (fresh empty nothing) = (empty, nothing)
nothing-waits v k m g none (waited l was-l ready nothing) = (ready ∙ none l was-l, nothing)
nothing-waits v k m g none (took l d ds was-l ready rest took') = let empty = none l was-l in absurd (cc (empty, ready))

-- a link on which the end receives, and that is attached
abbrev takes_there : LinkView → Bool
takes_there l = is_attached l && not (is_sender l.role)

-- a transfer reaches no other
reached : (v : View) (step : Step) (reply : Reply) (m : LinkView) → Answers v step reply → is_over v.session ≡ false → IsSound v → takes_there m ≡ false
    → (f : Frame) (t : TransferBody) (x : LinkView) → step ≡ Heard f → f.body ≡ Some (heard.Transfer t) → In x v.links → has_peer_handle t.handle x ≡ true → m ≡ heard_on t f.payload x → m.ready ≡ x.ready
reached v step reply m h o s closed f t x is body there met heard' = by x.left refl heard'
  where
    by : (b : Bool) → x.left ≡ b → m ≡ cond b x (received_on t f.payload x) → m.ready ≡ x.ready
    by true e is' = ap (λ (l : LinkView). l.ready) is'
    by false e is' =
        let answer : body_answer v f.body f.payload ≡ Ok reply = heard-answers v step reply f h o (ap frame_in is) in
        let answer' : body_answer v (Some (heard.Transfer t)) f.payload ≡ Ok reply = subst (λ (b : Option Performative). body_answer v b f.payload ≡ Ok reply) body answer in
        let accepts = transfer-accepts v t f.payload reply answer' in
        let found = by-peer-handle v t.handle (has_number x.number) x s (in-number v x s there) met in
        let one : accepts.on ≡ x = same-some (find (has_peer_handle t.handle) v.links) accepts.on x accepts.found found in
        let ours : is_some m.ours ≡ true = ap (λ (l : LinkView). is_some l.ours) is' ∙ ap (λ (l : LinkView). is_some l.ours) (sym one) ∙ accepts.ours in
        let theirs : is_some m.theirs ≡ true = ap (λ (l : LinkView). is_some l.theirs) is' ∙ theirs-some t.handle x met in
        let role : m.role ≡ Receiver = ap (λ (l : LinkView). l.role) is' ∙ ap (λ (l : LinkView). l.role) (sym one) ∙ accepts.role_is in
        let open' : takes_there m ≡ true = rw (was-attached m ours theirs (ap (λ (l : LinkView). l.left) is' ∙ e), role) refl in
        absurd (cc (open', closed))

never-more : (c : Config) (k : ℕ) (e : Entry) (past : List Entry) → AllFair c (e ∷ past) → Never c past k → Never c (e ∷ past) k ⊎ WasAttached c (e ∷ past) k
never-more c k e past fair x = by-bool (is_over v.session) (λ (over : is_over v.session ≡ true). inl (ended over)) (λ (lives : is_over v.session ≡ false). by lives (find (has_number k) (at c (e ∷ past)).links) refl (ready-step v e.step e.reply (due fair.1) lives o.sound))
  where
    v : View
    v = at c past

    o : OneMore (Receiver, []) c e past
    o = one-more (Receiver, []) c e past fair

    still-none : taken_in k e.reply.given ≡ [] → taken_on k (e ∷ past) ≡ []
    still-none none = ap (λ xs. taken_on k past ++ xs) none ∙ none-more (taken_on k past) ∙ x.taken

    ended : is_over v.session ≡ true → Never c (e ∷ past) k
    ended over =
        let gone : (at c (e ∷ past)).links ≡ [] = (one-sound c (e ∷ past) fair).over (over-stays e past over) in
        record {
          taken = still-none (idle-step v e.step e.reply (due fair.1) o.sound (o.sound.over over) k);
          ready = λ l h. (let here : find (has_number k) [] ≡ Some l = subst (λ (links : List LinkView). find (has_number k) links ≡ Some l) gone h in absurd (cc (here)));
        }

    open-now : (m : LinkView) → find (has_number k) (at c (e ∷ past)).links ≡ Some m → (is_attached m ≡ true) × (not (is_sender m.role) ≡ true) → WasAttached c (e ∷ past) k
    open-now m found both =
        let named : has_name Receiver m.name m ≡ true = ap (λ (r : Role). has_name r m.name m) (sym (receiver-by m.role both.1)) ∙ name-self m.role m.name in
        record {
          early = e ∷ past;
          is_tail = inl refl;
          name = m.name;
          link = m;
          found = named-found Receiver m.name (has_number k) (at c (e ∷ past)).links m (one-sound c (e ∷ past) fair).links.names found named;
          number = number-is (at c (e ∷ past)) k m found;
          attached = both.0;
        }
      where
        receiver-by : (r : Role) → not (is_sender r) ≡ true → r ≡ Receiver
        receiver-by Sender h = absurd (cc (h))
        receiver-by Receiver h = refl

    by : is_over v.session ≡ false → (b : Option LinkView) → find (has_number k) (at c (e ∷ past)).links ≡ b → ReadyStep v (next v e.step) e.step e.reply.given → Never c (e ∷ past) k ⊎ WasAttached c (e ∷ past) k
    by lives None gone r =
        inl (record { taken = still-none (gone-none v (next v e.step) e.step e.reply.given k r (ap (λ (v : View). find (has_number k) v.links) (sym o.goes_on) ∙ gone)); ready = λ l h. absurd (cc (gone, h)) })
    by lives (Some m) found r =
        by-bool (takes_there m)
        (λ (t : takes_there m ≡ true). inr (open-now m found (and-both (is_attached m) (not (is_sender m.role)) t)))
        (λ (f : takes_there m ≡ false).
        let w = nothing-waits v k m e.reply.given x.ready (waits-step v (next v e.step) e.step e.reply.given k m o.sound r (ap (λ (v : View). find (has_number k) v.links) (sym o.goes_on) ∙ found)
        (λ g t y is body h n met heard'. reached v e.step e.reply m (due fair.1) lives o.sound f g t y is body h met heard')) in
        inl (record { taken = still-none w.1; ready = λ l h. (let one : m ≡ l = same-some (find (has_number k) (at c (e ∷ past)).links) m l found h in ap (λ (l : LinkView). l.ready) (sym one) ∙ w.0) }))

never-or : (c : Config) (past : List Entry) (k : ℕ) → AllFair c past → Never c past k ⊎ WasAttached c past k
never-or c [] k fair = inl (record { taken = refl; ready = λ l h. absurd (cc (h)) })
never-or c (e ∷ past) k fair = by (never-or c past k fair.0)
  where
    by : Never c past k ⊎ WasAttached c past k → Never c (e ∷ past) k ⊎ WasAttached c (e ∷ past) k
    by (inl x) = never-more c k e past fair x
    by (inr w) = inr (record { early = w.early; is_tail = inr w.is_tail; name = w.name; link = w.link; found = w.found; number = w.number; attached = w.attached })

pub taken-or : (c : Config) (past : List Entry) (k : ℕ) → AllFair c past → (taken_on k past ≡ []) ⊎ WasAttached c past k
taken-or c past k fair = by (never-or c past k fair)
  where
    by : Never c past k ⊎ WasAttached c past k → (taken_on k past ≡ []) ⊎ WasAttached c past k
    by (inl x) = inl x.taken
    by (inr w) = inr w
