-- What a step does to what waits to be learnt, and what is learnt by it.
use Rattle.std.proofs.Common.{◌≡◌, ◌⊎◌, inl, inr, ◌==◌, ◌&&◌, ℕ, Bool, true, false, not, cond, Option, Some, None, List, [], ◌∷◌, refl, sym, ap, ◌∙◌, subst, drop, filter, filter_map}
use Rattle.std.specs.List.{cons_option}
use Rattle.amqp_performatives.specs.declared.bodies.Role.{Role}
use Rattle.amqp_performatives.specs.declared.bodies.Role.TheVariants.{Sender, Receiver}
use Rattle.amqp_performatives.specs.declared.bodies.DispositionBody.{DispositionBody}
use Rattle.amqp_performatives.specs.declared.performative.Performative.TheVariants as heard
use Rattle.amqp_frames.specs.declared.frame.Frame.{Frame}
use Rattle.amqp_events.specs.Event.{Event, Hears, Item}
use Rattle.amqp_events.specs.Told.{SentItem, Telling, is_learn, learnt, telling, tellings, tells, tells_now}
use Rattle.amqp_rules.specs.declared.reply.Given.{Given}
use Rattle.amqp_rules.specs.declared.reply.Learned.{Learned}
use Rattle.amqp_rules.specs.View.{LinkView, View, is_over}
use Rattle.amqp_rules.specs.Learn.{learned_of}
use Rattle.amqp_rules.specs.PeerDisposition.{told_more}
use Rattle.amqp_rules.specs.Deliveries.{disposition_of, heard_of}
use Rattle.amqp_rules.proofs.Listed.{by-bool}
use Rattle.amqp_laws.specs.declared.entry.Step.{Step}
use Rattle.amqp_laws.specs.declared.entry.Step.TheVariants.{Heard}
use Rattle.amqp_pair_laws.specs.Learns.{learnt_in}
use Rattle.amqp_pair_laws.proofs.Members.{In, in-append}

-- it was told and not learnt
pub record Waits (v : View) (t : Telling) : Type 0 where
  pub link' : LinkView
  pub there : In link' v.links
  pub told : In t link'.told

-- the step tells it: a disposition is heard of a delivery of which nothing was told
pub record IsTold (v : View) (step : Step) (t : Telling) : Type 0 where
  pub frame : Frame
  pub body : DispositionBody
  pub is-heard : step ≡ Heard frame
  pub is-body : frame.body ≡ Some (heard.Disposition body)
  pub role-is : body.role ≡ Receiver
  pub lives : is_over v.session ≡ false
  pub held : SentItem
  pub there : In held v.sent
  pub now : tells held.item (Hears (disposition_of body)) ≡ true
  pub new : held.told ≡ false
  pub is : telling (disposition_of body) held.item ≡ t

-- what is learnt waited
pub record WasWaiting (v : View) (l : Learned) : Type 0 where
  pub telling' : Telling
  pub waits : Waits v telling'
  pub is : learned_of telling' ≡ l

pub record LearnStep (v after : View) (step : Step) (g : Given) : Type 0 where
  pub waits : (t : Telling) → Waits after t → Waits v t ⊎ IsTold v step t
  pub learns : (l : Learned) → In l (learnt_in g) → WasWaiting v l

-- # What is told

in-filter : {A : Type 0} (test : A → Bool) (x : A) (xs : List A) → In x (filter test xs) → In x xs
in-filter {A = A} test x [] h = absurd h
in-filter {A = A} test x (y ∷ ys) h =
    by-bool (test y)
    (λ (t : test y ≡ true). let k : (x ≡ y) ⊎ In x (filter test ys) = (let k = rw t at h in k) in by (in-filter test x ys) k)
    (λ (f : test y ≡ false). let k : In x (filter test ys) = (let k = rw f at h in k) in inr (in-filter test x ys k))
  where
    by : (In x (filter test ys) → In x ys) → (x ≡ y) ⊎ In x (filter test ys) → In x (y ∷ ys)
    by later (inl e) = inl e
    by later (inr k) = inr (later k)

in-chosen : {A B : Type 0} (choose : A → Option B) (y : B) (xs : List A) → In y (filter_map choose xs) → (x : A) × (In x xs × (choose x ≡ Some y))
in-chosen {A = A} {B = B} choose y [] h = absurd h
in-chosen {A = A} {B = B} choose y (x ∷ xs) h = by (in-chosen choose y xs) (choose x) refl h
  where
    first : (In y (filter_map choose xs) → (x' : A) × (In x' xs × (choose x' ≡ Some y))) → (z : B) → choose x ≡ Some z → (y ≡ z) ⊎ In y (filter_map choose xs) → (x' : A) × (In x' (x ∷ xs) × (choose x' ≡ Some y))
    first later z is (inl e) = (x, (inl refl, is ∙ ap Some (sym e)))
    first later z is (inr k) = let r = later k in (r.0, (inr r.1.0, r.1.1))

    by : (In y (filter_map choose xs) → (x' : A) × (In x' xs × (choose x' ≡ Some y))) → (o : Option B) → choose x ≡ o → In y (cons_option o (filter_map choose xs)) → (x' : A) × (In x' (x ∷ xs) × (choose x' ≡ Some y))
    by later None is h = let r = later h in (r.0, (inr r.1.0, r.1.1))
    by later (Some z) is h = first later z is h

pub in-drop : {A : Type 0} (x : A) (xs : List A) → In x (drop 1 xs) → In x xs
in-drop x [] h = h
in-drop x (y ∷ ys) h = inr h

in-learnt : (k : ℕ) (e : Event) (t : Telling) (ts : List Telling) → In t (learnt k e ts) → In t ts
in-learnt k e t ts h =
    by-bool (is_learn k e)
    (λ (b : is_learn k e ≡ true). let k : In t (drop 1 ts) = (let k = rw b at h in k) in in-drop t ts k)
    (λ (b : is_learn k e ≡ false). let k : In t ts = (let k = rw b at h in k) in k)

-- # A disposition that is heard

tells-as : (body : DispositionBody) (role : Role) (i : Item) (known : Bool) (t : Telling) → tells_now (heard_of Sender body role) i known ≡ Some t
    → (role ≡ Receiver) × ((tells i (Hears (disposition_of body)) ≡ true) × ((known ≡ false) × (telling (disposition_of body) i ≡ t)))
tells-as body Sender i known t h = absurd (cc (h))
tells-as body Receiver i known t h = by (tells i (Hears (disposition_of body))) known refl h
  where
    by : (b c : Bool) → tells i (Hears (disposition_of body)) ≡ b → cond (b && not c) (Some (telling (disposition_of body) i)) None ≡ Some t
        → (Receiver ≡ Receiver) × ((tells i (Hears (disposition_of body)) ≡ true) × ((c ≡ false) × (telling (disposition_of body) i ≡ t)))
    by true false is h = let one : telling (disposition_of body) i ≡ t = cc h in (refl, (is, (refl, one)))
    by true true is h = absurd (cc (h))
    by false c is h = absurd (cc (h))

pub told-by : (v : View) (frame : Frame) (body : DispositionBody) (t : Telling) (l : LinkView) → frame.body ≡ Some (heard.Disposition body) → is_over v.session ≡ false → In l v.links → In t (told_more (heard_of Sender body body.role) v.sent l).told
    → Waits v t ⊎ IsTold v (Heard frame) t
told-by v frame body t l is lives there h = by (in-append t (learnt l.number e l.told) (filter (λ t. t.link == l.number) (tellings e v.sent)) h)
  where
    e : Event
    e = heard_of Sender body body.role

    new : (s : SentItem) × (In s v.sent × (tells_now e s.item s.told ≡ Some t)) → IsTold v (Heard frame) t
    new x =
        let k = tells-as body body.role x.0.item x.0.told t x.1.1 in
        record { frame = frame; body = body; is-heard = refl; is-body = is; role-is = k.0; lives = lives; held = x.0; there = x.1.0; now = k.1.0; new = k.1.1.0; is = k.1.1.1 }

    by : In t (learnt l.number e l.told) ⊎ In t (filter (λ t. t.link == l.number) (tellings e v.sent)) → Waits v t ⊎ IsTold v (Heard frame) t
    by (inl h) = inl (record { link' = l; there = there; told = in-learnt l.number e t l.told h })
    by (inr h) = inr (new (in-chosen (λ s. tells_now e s.item s.told) t v.sent (in-filter (λ t. t.link == l.number) t (tellings e v.sent) h)))

-- # Links that keep what waits

pub waits-among : (v after : View) (t : Telling) → ((l : LinkView) → In l after.links → In t l.told → Waits v t) → Waits after t → Waits v t
waits-among v after t from w = from w.link' w.there w.told

pub waits-as : (v : View) (t : Telling) (m l : LinkView) → In l v.links → m.told ≡ l.told → In t m.told → Waits v t
waits-as v t m l there same h = record { link' = l; there = there; told = subst (λ (ts : List Telling). In t ts) same h }
