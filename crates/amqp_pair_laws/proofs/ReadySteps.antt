-- What a step does to what waits to be taken on each link, and what is taken by it; and what waits to be learnt.
use Rattle.std.proofs.Common.{◌≡◌, ◌⊎◌, inl, inr, ◌≤◌, ℕ, ◌+◌, ◌==◌, ◌||◌, ◌&&◌, ◌++◌, Bool, true, false, not, cond, Option, Some, None, Result, Ok, List, [], ◌∷◌, arith, refl, sym, ap, ◌∙◌, subst, find, map, is_some, length, option_map, unwrap_or}
use Rattle.std.proofs.lemmas.Bool.{eq-eqb}
use Rattle.amqp_performatives.specs.declared.bodies.Role.{Role}
use Rattle.amqp_performatives.specs.declared.bodies.Role.TheVariants.{Sender, Receiver}
use Rattle.amqp_performatives.specs.declared.bodies.AttachBody.{AttachBody}
use Rattle.amqp_performatives.specs.declared.bodies.TransferBody.{TransferBody}
use Rattle.amqp_performatives.specs.declared.performative.Performative.{Performative}
use Rattle.amqp_performatives.specs.declared.performative.Performative.TheVariants as heard
use Rattle.amqp_frames.specs.declared.frame.Frame.{Frame}
use Rattle.amqp_events.specs.Event.{Disposition, Leaves, Over, Nothing as No_event}
use Rattle.amqp_events.specs.Joined.{Delivery, is_given, next_delivery as joined_to}
use Rattle.amqp_events.specs.Told.{Telling}
use Rattle.amqp_flow.specs.Windows.{WindowsView}
use Rattle.amqp_rules.specs.declared.op.Op.{Op}
use Rattle.amqp_rules.specs.declared.op.Op.TheVariants as own
use Rattle.amqp_rules.specs.declared.reply.Reply.{Reply}
use Rattle.amqp_rules.specs.declared.reply.Given.{Given}
use Rattle.amqp_rules.specs.declared.reply.Given.TheVariants as given
use Rattle.amqp_rules.specs.declared.reply.Learned.{Learned}
use Rattle.amqp_rules.specs.declared.refusal.Refusal.{Refusal}
use Rattle.amqp_rules.specs.declared.refusal.Refusal.TheVariants as refusal
use Rattle.amqp_rules.specs.declared.violation.Violation.{Violation}
use Rattle.amqp_rules.specs.declared.violation.ViolationKind.TheVariants.{OutOfSession, BadHandle}
use Rattle.amqp_rules.specs.View.{EndView, LinkView, SessionView, View, change_first, handle_of, has_number, has_peer_handle, is_asked_as, is_attached, is_ending, is_mapped, is_offered_as, is_over, new_link, next_delivery, opposite, rcv_mode, remove_first, same_role, takes_frames}
use Rattle.amqp_rules.specs.Refusing.{answered, first_refusal, if_there, unless, unlinked}
use Rattle.amqp_rules.specs.OnLink.{attached_as}
use Rattle.amqp_rules.specs.Opened.{no_reply}
use Rattle.amqp_rules.specs.Sending.{reply_ending, sends, sends_ending}
use Rattle.amqp_rules.specs.Telling.{flag}
use Rattle.amqp_rules.specs.Begin.{begin_body, begin_refusals}
use Rattle.amqp_rules.specs.Attach.{Wanted, attach_refusals, attach_sent, attached_by_peer, attached_by_us, join_link, number_met}
use Rattle.amqp_rules.specs.Start.{begin_delivery, start_body, start_refusals}
use Rattle.amqp_rules.specs.Carry.{carry_on, carry_refusals, later_body}
use Rattle.amqp_rules.specs.Abort.{abort_refusals, aborted}
use Rattle.amqp_rules.specs.Dispose.{dispose_body, dispose_refusals}
use Rattle.amqp_rules.specs.Learn.{learn_first, learn_reply, learned_of, learnt_from}
use Rattle.amqp_rules.specs.Grant.{grant_body, grant_refusals, granted_on}
use Rattle.amqp_rules.specs.Offer.{offer_body, offered}
use Rattle.amqp_rules.specs.Drained.{drained, drained_body, drained_refusals}
use Rattle.amqp_rules.specs.Refresh.{refresh_body}
use Rattle.amqp_rules.specs.Take.{take_first, take_reply, taken_from, taken_of}
use Rattle.amqp_rules.specs.Detach.{detach_body, detach_refusals, left_by_us}
use Rattle.amqp_rules.specs.End.{end_body}
use Rattle.amqp_rules.specs.Flow.{echoes, flow_link, flow_links, flow_reply, flow_violations, flow_windows, flowed, named_link}
use Rattle.amqp_rules.specs.PeerBegin.{begin_violations}
use Rattle.amqp_rules.specs.PeerAttach.{attach_heard_reply, attach_violations, met_or_made}
use Rattle.amqp_rules.specs.PeerTransfer.{given_by, heard_on, received_on, transfer_reply, transfer_violations}
use Rattle.amqp_rules.specs.PeerDisposition.{disposition_reply, disposition_violations, told_more}
use Rattle.amqp_rules.specs.PeerDetach.{detach_reply, parting}
use Rattle.amqp_rules.specs.PeerEnd.{end_reply}
use Rattle.amqp_rules.specs.Deliveries.{disposition_of, ended_by, received_by_own, sent_by_body, sent_by_own, transferred}
use Rattle.amqp_rules.specs.Answer.{body_answer, is_dropped, next_body, next_own}
use Rattle.amqp_rules.specs.Sound.{Ascends, IsSound, keys}
use Rattle.amqp_rules.proofs.Accepted.{answered_Ok, no_refusal, not-false, on-link-ok, sends-ok, sends-ending-ok, there_Ok, unless_Ok}
use Rattle.amqp_rules.proofs.Listed.{by-bool}
use Rattle.amqp_laws.specs.declared.entry.Step.{Step}
use Rattle.amqp_laws.specs.declared.entry.Step.TheVariants.{Opened, Own, Heard}
use Rattle.amqp_laws.specs.Said.{body_heard, transfer_in}
use Rattle.amqp_laws.specs.Lawful.{next}
use Rattle.amqp_pair_laws.proofs.Plain.{Answers, OwnAnswers}
use Rattle.amqp_pair_laws.specs.Passing.{taken_in}
use Rattle.amqp_pair_laws.specs.Learns.{learnt_in}
use Rattle.amqp_pair_laws.proofs.Windows.{or-none}
use Rattle.amqp_pair_laws.proofs.Members.{In, in-append}
use Rattle.amqp_rules.specs.Suspend.{put_aside}
use Rattle.amqp_pair_laws.proofs.LearnSteps.{LearnStep, Waits, WasWaiting, in-drop, told-by, waits-among, waits-as}

-- # Members of a list of links

pub found-in : {A : Type 0} (P : A → Bool) (xs : List A) (x : A) → find P xs ≡ Some x → In x xs
found-in P [] x h = absurd (cc (h))
found-in P (y ∷ ys) x h =
    by-bool (P y)
    (λ (p : P y ≡ true). let k = rw p at h in let one : y ≡ x = cc k in inl (sym one))
    (λ (p : P y ≡ false). let k = rw p at h in inr (found-in P ys x k))

lowest : (made n : ℕ) (xs : List LinkView) (l : LinkView) → Ascends made n (map keys xs) → In l xs → n ≤ l.number
lowest made n [] l a h = absurd h
lowest made n (x ∷ xs) l a (inl e) = let first : n ≤ x.number = a.0 in let same : l.number ≡ x.number = ap (λ (l : LinkView). l.number) e in omega (arith, first, same)
lowest made n (x ∷ xs) l a (inr h) = let first : n ≤ x.number = a.0 in let more : x.number + 1 ≤ l.number = lowest made (x.number + 1) xs l a.1 h in omega (arith, first, more)

in-numbered : (made n : ℕ) (xs : List LinkView) (l : LinkView) → Ascends made n (map keys xs) → In l xs → find (has_number l.number) xs ≡ Some l
in-numbered made n [] l a h = absurd h
in-numbered made n (x ∷ xs) l a (inl e) =
    let same : has_number l.number x ≡ true = eq-eqb x.number l.number (ap (λ (l : LinkView). l.number) (sym e)) in
    rw same (ap Some (sym e))
in-numbered made n (x ∷ xs) l a (inr h) =
    let more : x.number + 1 ≤ l.number = lowest made (x.number + 1) xs l a.1 h in
    let other : has_number l.number x ≡ false = differ x.number l.number more in
    rw other (in-numbered made (x.number + 1) xs l a.1 h)
  where
    differ : (a b : ℕ) → a + 1 ≤ b → (a == b) ≡ false
    differ a b h = grind (arith, h)

pub in-number : (v : View) (l : LinkView) → IsSound v → In l v.links → find (has_number l.number) v.links ≡ Some l
in-number v l s h = in-numbered v.made 0 v.links l s.links.numbers h

-- # What a link was

-- the link of this number before
pub record From (v : View) (l : LinkView) : Type 0 where
  pub before : LinkView
  pub found : find (has_number l.number) v.links ≡ Some before
  pub role : l.role ≡ before.role
  pub name : l.name ≡ before.name
  pub ours : is_some before.ours ≡ true → is_some l.ours ≡ true
  pub theirs : is_some before.theirs ≡ true → is_some l.theirs ≡ true
  pub unleft : l.left ≡ false → before.left ≡ false

-- the same waits on it
pub record Rests (v : View) (l : LinkView) : Type 0 where
  pub was : From v l
  pub ready : l.ready ≡ was.before.ready
  pub receiving : l.left ≡ false → l.receiving ≡ was.before.receiving

pub record New (v : View) (l : LinkView) : Type 0 where
  pub number : l.number ≡ v.made
  pub ready : l.ready ≡ []
  pub receiving : l.receiving ≡ None

pub record Same (l m : LinkView) : Type 0 where
  pub number : m.number ≡ l.number
  pub role : m.role ≡ l.role
  pub name : m.name ≡ l.name
  pub ours : is_some l.ours ≡ true → is_some m.ours ≡ true
  pub theirs : is_some l.theirs ≡ true → is_some m.theirs ≡ true
  pub unleft : m.left ≡ false → l.left ≡ false

record Leaves' (l m : LinkView) : Type 0 where
  same : Same l m
  ready : m.ready ≡ l.ready
  receiving : m.left ≡ false → m.receiving ≡ l.receiving

self : (l : LinkView) → Leaves' l l
self l = record { same = record { number = refl; role = refl; name = refl; ours = λ h. h; theirs = λ h. h; unleft = λ h. h }; ready = refl; receiving = λ h. refl }

pub from-same : (v : View) (l m : LinkView) → IsSound v → In l v.links → Same l m → From v m
from-same v l m s h k = record { before = l; found = ap (λ n. find (has_number n) v.links) k.number ∙ in-number v l s h; role = k.role; name = k.name; ours = k.ours; theirs = k.theirs; unleft = k.unleft }

rests-same : (v : View) (l m : LinkView) → IsSound v → In l v.links → Leaves' l m → Rests v m
rests-same v l m s h k =
    let n = k.same.number in
    record {
      was = record { before = l; found = ap (λ n. find (has_number n) v.links) n ∙ in-number v l s h; role = k.same.role; name = k.same.name; ours = k.same.ours; theirs = k.same.theirs; unleft = k.same.unleft };
      ready = k.ready;
      receiving = k.receiving;
    }

-- a link of a changed list
pub in-changed : (test : LinkView → Bool) (change : LinkView → LinkView) (xs : List LinkView) (m : LinkView) → In m (change_first test change xs) → (l : LinkView) × (In l xs × ((m ≡ l) ⊎ ((m ≡ change l) × (test l ≡ true))))
in-changed test change [] m h = absurd h
in-changed test change (x ∷ xs) m h =
    by-bool (test x)
    (λ (t : test x ≡ true).
    let k : (m ≡ change x) ⊎ In m xs = (let k = rw t at h in k) in
    first t k)
    (λ (t : test x ≡ false).
    let k : (m ≡ x) ⊎ In m (change_first test change xs) = (let k = rw t at h in k) in
    rest (λ (k : In m (change_first test change xs)). in-changed test change xs m k) k)
  where
    first : test x ≡ true → (m ≡ change x) ⊎ In m xs → (l : LinkView) × (In l (x ∷ xs) × ((m ≡ l) ⊎ ((m ≡ change l) × (test l ≡ true))))
    first t (inl e) = (x, (inl refl, inr (e, t)))
    first t (inr k) = (m, (inr k, inl refl))

    rest : (In m (change_first test change xs) → (l : LinkView) × (In l xs × ((m ≡ l) ⊎ ((m ≡ change l) × (test l ≡ true))))) → (m ≡ x) ⊎ In m (change_first test change xs)
        → (l : LinkView) × (In l (x ∷ xs) × ((m ≡ l) ⊎ ((m ≡ change l) × (test l ≡ true))))
    rest later (inl e) = (x, (inl refl, inl e))
    rest later (inr k) = let r = later k in (r.0, (inr r.1.0, r.1.1))

in-mapped : (change : LinkView → LinkView) (xs : List LinkView) (m : LinkView) → In m (map change xs) → (l : LinkView) × (In l xs × (m ≡ change l))
in-mapped change [] m h = absurd h
in-mapped change (x ∷ xs) m (inl e) = (x, (inl refl, e))
in-mapped change (x ∷ xs) m (inr h) = let r = in-mapped change xs m h in (r.0, (inr r.1.0, r.1.1))

in-removed : (test : LinkView → Bool) (xs : List LinkView) (m : LinkView) → In m (remove_first test xs) → In m xs
in-removed test [] m h = absurd h
in-removed test (x ∷ xs) m h =
    by-bool (test x)
    (λ (t : test x ≡ true). let k = rw t at h in inr k)
    (λ (t : test x ≡ false).
    let k : (m ≡ x) ⊎ In m (remove_first test xs) = (let k = rw t at h in k) in
    by (λ (k : In m (remove_first test xs)). in-removed test xs m k) k)
  where
    by : (In m (remove_first test xs) → In m xs) → (m ≡ x) ⊎ In m (remove_first test xs) → In m (x ∷ xs)
    by later (inl e) = inl e
    by later (inr k) = inr (later k)

-- # A step

pub data ReadyStep (v after : View) (step : Step) (g : Given) : Type 0 where
  rests : transfer_in (body_heard step) ≡ None → ((l : LinkView) → In l after.links → Rests v l ⊎ New v l) → ((k : ℕ) → taken_in k g ≡ []) → ReadyStep v after step g
  takes : (l : LinkView) (d : Delivery) (ds : List Delivery) (n : ℕ) → step ≡ Own (own.Take n) → find (has_number n) v.links ≡ Some l → l.ready ≡ d ∷ ds → after.links ≡ change_first (has_number n) taken_from v.links → g ≡ given.Taken (taken_of l.number d) → ReadyStep v after step g
  hears : (f : Frame) (t : TransferBody) → step ≡ Heard f → f.body ≡ Some (heard.Transfer t) → after.links ≡ change_first (has_peer_handle t.handle) (heard_on t f.payload) v.links → ((k : ℕ) → taken_in k g ≡ []) → ReadyStep v after step g

-- neither taken nor learnt
abbrev is_other : Given → Bool
is_other (given.Taken t) = false
is_other (given.Learned l) = false
is_other _ = true

none-taken : (g : Given) → is_other g ≡ true → (k : ℕ) → taken_in k g ≡ []
none-taken (given.Taken t) h k = absurd (cc (h))
none-taken given.Nothing h k = refl
none-taken (given.Link l) h k = refl
none-taken (given.Offered l) h k = refl
none-taken (given.Attached l) h k = refl
none-taken (given.Gone l) h k = refl
none-taken (given.Delivery l) h k = refl
none-taken (given.Ready l d) h k = refl
none-taken (given.Learned l) h k = absurd (cc (h))
none-taken (given.Suspended s) h k = refl
none-taken (given.Resumed r) h k = refl
none-taken (given.Parted l s) h k = refl

none-learnt : (v : View) (g : Given) → is_other g ≡ true → (l : Learned) → In l (learnt_in g) → WasWaiting v l
none-learnt v (given.Learned m) h l there = absurd (cc (h))
none-learnt v _ h l there = absurd there

-- what a step does to what waits to be taken, and to be learnt
record Both (v after : View) (step : Step) (g : Given) : Type 0 where
  ready : ReadyStep v after step g
  learn : LearnStep v after step g

pub still-learn : (v after : View) (step : Step) (g : Given) → after.links ≡ v.links → is_other g ≡ true → LearnStep v after step g
still-learn v after step g to other =
    record {
      waits = λ t w. inl (waits-among v after t (λ l h told. waits-as v t l l (subst (λ (links : List LinkView). In l links) to h) refl told) w);
      learns = none-learnt v g other;
    }

still : (v after : View) (step : Step) (g : Given) → transfer_in (body_heard step) ≡ None → IsSound v → after.links ≡ v.links → is_other g ≡ true → Both v after step g
still v after step g mute s to other =
    record {
      ready = rests mute (λ l h. inl (rests-same v l l s (subst (λ (links : List LinkView). In l links) to h) (self l))) (none-taken g other);
      learn = still-learn v after step g to other;
    }

changes-ready : (v after : View) (step : Step) (g : Given) (test : LinkView → Bool) (change : LinkView → LinkView) → transfer_in (body_heard step) ≡ None → IsSound v → after.links ≡ change_first test change v.links → ((l : LinkView) → Leaves' l (change l)) → ((k : ℕ) → taken_in k g ≡ []) → ReadyStep v after step g
changes-ready v after step g test change mute s to keeps none = rests mute (λ m h. (let x = in-changed test change v.links m (subst (λ (links : List LinkView). In m links) to h) in inl (by m x.0 x.1.0 x.1.1))) none
  where
    by : (m l : LinkView) → In l v.links → (m ≡ l) ⊎ ((m ≡ change l) × (test l ≡ true)) → Rests v m
    by m l h (inl e) = rests-same v l m s h (subst (λ (m : LinkView). Leaves' l m) (sym e) (self l))
    by m l h (inr e) = rests-same v l m s h (subst (λ (m : LinkView). Leaves' l m) (sym e.0) (keeps l))

-- one link changes: of what waits there to be learnt nothing comes
changes-waits : (v after : View) (test : LinkView → Bool) (change : LinkView → LinkView) → after.links ≡ change_first test change v.links → ((l : LinkView) (t : Telling) → In t (change l).told → In t l.told) → (t : Telling) → Waits after t → Waits v t
changes-waits v after test change to keeps t w = waits-among v after t (λ m h told. (let x = in-changed test change v.links m (subst (λ (links : List LinkView). In m links) to h) in by m x.0 x.1.0 told x.1.1)) w
  where
    by : (m l : LinkView) → In l v.links → In t m.told → (m ≡ l) ⊎ ((m ≡ change l) × (test l ≡ true)) → Waits v t
    by m l h told (inl e) = waits-as v t m l h (ap (λ (l : LinkView). l.told) e) told
    by m l h told (inr e) = waits-as v t l l h refl (keeps l t (subst (λ (m : LinkView). In t m.told) e.0 told))

changes-learn : (v after : View) (step : Step) (g : Given) (test : LinkView → Bool) (change : LinkView → LinkView) → after.links ≡ change_first test change v.links → ((l : LinkView) → (change l).told ≡ l.told) → ((l : Learned) → In l (learnt_in g) → WasWaiting v l) → LearnStep v after step g
changes-learn v after step g test change to same learns = record { waits = λ t w. inl (changes-waits v after test change to (λ l t h. subst (λ (ts : List Telling). In t ts) (same l) h) t w); learns = learns }

changes : (v after : View) (step : Step) (g : Given) (test : LinkView → Bool) (change : LinkView → LinkView) → transfer_in (body_heard step) ≡ None → IsSound v → after.links ≡ change_first test change v.links → ((l : LinkView) → Leaves' l (change l)) → ((l : LinkView) → (change l).told ≡ l.told) → is_other g ≡ true → Both v after step g
changes v after step g test change mute s to keeps same other =
    record { ready = changes-ready v after step g test change mute s to keeps (none-taken g other); learn = changes-learn v after step g test change to same (none-learnt v g other) }

joins : (v : View) (step : Step) (g : Given) (test : LinkView → Bool) (role : Role) (name : List ℕ) (change : LinkView → LinkView) → transfer_in (body_heard step) ≡ None → IsSound v → ((l : LinkView) → Leaves' l (change l)) → ((l : LinkView) → (change l).told ≡ l.told) → (change (new_link v.made role name)).left ≡ false → is_other g ≡ true
    → Both v (join_link test role name change v) step g
joins v step g test role name change mute s keeps same unleft other = by (is_some (find test v.links))
  where
    added : (m : LinkView) → In m (change (new_link v.made role name) ∷ []) → New v m
    added m (inl e) =
        let k = keeps (new_link v.made role name) in
        record { number = ap (λ (l : LinkView). l.number) e ∙ k.same.number; ready = ap (λ (l : LinkView). l.ready) e ∙ k.ready; receiving = ap (λ (l : LinkView). l.receiving) e ∙ k.receiving unleft }
    added m (inr h) = absurd h

    one : (m : LinkView) → In m v.links ⊎ In m (change (new_link v.made role name) ∷ []) → Rests v m ⊎ New v m
    one m (inl h) = inl (rests-same v m m s h (self m))
    one m (inr h) = inr (added m h)

    waits' : (t : Telling) (m : LinkView) → In t m.told → In m v.links ⊎ In m (change (new_link v.made role name) ∷ []) → Waits v t
    waits' t m told (inl h) = waits-as v t m m h refl told
    waits' t m told (inr (inl e)) = let none : m.told ≡ [] = ap (λ (l : LinkView). l.told) e ∙ same (new_link v.made role name) in absurd (subst (λ (ts : List Telling). In t ts) none told)
    waits' t m told (inr (inr h)) = absurd h

    by : (met : Bool)
        → Both v (cond met (record v { steps = v.steps + 1; links = change_first test change v.links }) (record v { steps = v.steps + 1; made = v.made + 1; links = v.links ++ change (new_link v.made role name) ∷ [] })) step g
    by true = changes v _ step g test change mute s refl keeps same other
    by false =
        record {
          ready = rests mute (λ m h. one m (in-append m v.links (change (new_link v.made role name) ∷ []) h)) (none-taken g other);
          learn = record { waits = λ t w. inl (waits' t w.link' w.told (in-append w.link' v.links (change (new_link v.made role name) ∷ []) w.there)); learns = none-learnt v g other };
        }

-- no link is there
gone : (v after : View) (step : Step) (g : Given) → transfer_in (body_heard step) ≡ None → after.links ≡ [] → is_other g ≡ true → Both v after step g
gone v after step g mute to other =
    record {
      ready = rests mute (λ l h. absurd (subst (λ (links : List LinkView). In l links) to h)) (none-taken g other);
      learn = record { waits = λ t w. absurd (subst (λ (links : List LinkView). In w.link' links) to w.there); learns = none-learnt v g other };
    }

-- a link that is left stays as it is
keep-told : (change : LinkView → LinkView) → ((l : LinkView) → (change l).told ≡ l.told) → (l : LinkView) → (cond l.left l (change l)).told ≡ l.told
keep-told change k l = by l.left
  where
    by : (b : Bool) → (cond b l (change l)).told ≡ l.told
    by true = refl
    by false = k l

keep : (change : LinkView → LinkView) → ((l : LinkView) → Leaves' l (change l)) → (l : LinkView) → Leaves' l (cond l.left l (change l))
keep change k l = by l.left
  where
    by : (b : Bool) → Leaves' l (cond b l (change l))
    by true = self l
    by false = k l

given-is : (r reply : Reply) → r ≡ reply → is_other r.given ≡ true → is_other reply.given ≡ true
given-is r reply e h = ap (λ (r : Reply). is_other r.given) (sym e) ∙ h

-- all of it stays
all : (l m : LinkView) → m.number ≡ l.number → m.role ≡ l.role → m.name ≡ l.name → m.ours ≡ l.ours → m.theirs ≡ l.theirs → m.left ≡ l.left → m.ready ≡ l.ready → m.receiving ≡ l.receiving → Leaves' l m
all l m n r e o t u y c =
    record {
      same = record { number = n; role = r; name = e; ours = λ h. ap (λ (x : Option EndView). is_some x) o ∙ h; theirs = λ h. ap (λ (x : Option EndView). is_some x) t ∙ h; unleft = λ h. sym u ∙ h };
      ready = y;
      receiving = λ h. c;
    }

us-leaves : (b : AttachBody) (l : LinkView) → Leaves' l (attached_by_us b [] l)
us-leaves b l = record { same = record { number = refl; role = refl; name = refl; ours = λ h. refl; theirs = λ h. h; unleft = λ h. h }; ready = refl; receiving = λ h. refl }

peer-leaves : (b : AttachBody) (l : LinkView) → Leaves' l (attached_by_peer b l)
peer-leaves b l = record { same = record { number = refl; role = refl; name = refl; ours = λ h. h; theirs = λ h. refl; unleft = λ h. h }; ready = refl; receiving = λ h. refl }

left-leaves : (l : LinkView) → Leaves' l (left_by_us l)
left-leaves l = record { same = record { number = refl; role = refl; name = refl; ours = λ h. h; theirs = λ h. h; unleft = λ h. absurd (cc (h)) }; ready = refl; receiving = λ h. absurd (cc (h)) }

-- the first that was told is learnt
learn-taken : (ts : List Telling) (reply : Reply) → learn_first ts ≡ Ok reply → (k : ℕ) → taken_in k reply.given ≡ []
learn-taken [] reply h k = absurd (cc (h))
learn-taken (t ∷ ts) reply h k = let e : learn_reply t ≡ reply = cc h in ap (λ (r : Reply). taken_in k r.given) (sym e)

learn-was : (v : View) (m : LinkView) → In m v.links → (ts : List Telling) (reply : Reply) → m.told ≡ ts → learn_first ts ≡ Ok reply → (l : Learned) → In l (learnt_in reply.given) → WasWaiting v l
learn-was v m there [] reply is h l k = absurd (cc (h))
learn-was v m there (t ∷ ts) reply is h l k = by (let e : learn_reply t ≡ reply = cc h in subst (λ (r : Reply). In l (learnt_in r.given)) (sym e) k)
  where
    by : (l ≡ learned_of t) ⊎ ⊥ → WasWaiting v l
    by (inl e) = record { telling' = t; waits = record { link' = m; there = there; told = subst (λ (ts : List Telling). In t ts) (sym is) (inl refl) }; is = sym e }
    by (inr k) = absurd k

own-ready : (v : View) (op : Op) (reply : Reply) → OwnAnswers v op reply → IsSound v → Both v (next_own v op) (Own op) reply.given
own-ready v own.Begin reply h s =
    let k = sends-ok v.max_frame (begin_refusals v) (begin_body v) [] given.Nothing reply h in
    still v (next_own v own.Begin) (Own own.Begin) reply.given refl s refl (given-is _ reply k.replies refl)
own-ready v (own.Attach name role snd rcv source target count max_message) reply h s =
    let w : Wanted = record { name = name; role = role; snd = snd; rcv = rcv; source = source; target = target; count = count; max_message = max_message; items = [] } in
    let k = sends-ok v.max_frame (attach_refusals v w) (Some (heard.Attach (attach_sent v w))) [] (given.Link (number_met v.made (find (is_offered_as role name) v.links))) reply h in
    joins v (Own (own.Attach name role snd rcv source target count max_message)) reply.given (is_offered_as role name) role name (attached_by_us (attach_sent v w) []) refl s (us-leaves (attach_sent v w)) (λ l. refl) refl (given-is _ reply k.replies refl)
own-ready v (own.Start link tag format settled payload more) reply h s =
    let id = next_delivery v in
    let o = on-link-ok v link (λ l. sends v.max_frame (start_refusals v l tag settled payload) (start_body (handle_of l.ours) id tag format settled more) payload (given.Delivery id)) reply h in
    let k = sends-ok v.max_frame (start_refusals v o.on tag settled payload) (start_body (handle_of o.on.ours) id tag format settled more) payload (given.Delivery id) reply o.said in
    changes v (next_own v (own.Start link tag format settled payload more)) (Own (own.Start link tag format settled payload more)) reply.given (has_number link) (begin_delivery id (length payload) more) refl s refl (λ l. all l (begin_delivery id (length payload) more l) refl refl refl refl refl refl refl refl) (λ l. refl) (given-is _ reply k.replies refl)
own-ready v (own.Carry link payload more) reply h s =
    let o = on-link-ok v link (λ l. sends v.max_frame (carry_refusals v l payload) (later_body (handle_of l.ours) (flag more) None) payload given.Nothing) reply h in
    let k = sends-ok v.max_frame (carry_refusals v o.on payload) (later_body (handle_of o.on.ours) (flag more) None) payload given.Nothing reply o.said in
    changes v (next_own v (own.Carry link payload more)) (Own (own.Carry link payload more)) reply.given (has_number link) (carry_on (length payload) more) refl s refl (λ l. all l (carry_on (length payload) more l) refl refl refl refl refl refl refl refl) (λ l. refl) (given-is _ reply k.replies refl)
own-ready v (own.Abort link) reply h s =
    let ended = ended_by (sent_by_own v (own.Abort link)) No_event v in
    let o = on-link-ok v link (λ l. sends_ending v.max_frame (abort_refusals v l) (later_body (handle_of l.ours) None (Some true)) ended given.Nothing) reply h in
    let k = sends-ending-ok v.max_frame (abort_refusals v o.on) (later_body (handle_of o.on.ours) None (Some true)) ended given.Nothing reply o.said in
    changes v (next_own v (own.Abort link)) (Own (own.Abort link)) reply.given (has_number link) aborted refl s refl (λ l. all l (aborted l) refl refl refl refl refl refl refl refl) (λ l. refl) (given-is _ reply k.replies refl)
own-ready v (own.Dispose role first last settled state) reply h s =
    let d : Disposition = record { first = first; last = last; settled = settled; state = state } in
    let op = own.Dispose role first last settled state in
    let k = sends-ending-ok v.max_frame (dispose_refusals v role d) (dispose_body role d) (ended_by (sent_by_own v op) (received_by_own v op) v) given.Nothing reply h in
    still v (next_own v op) (Own op) reply.given refl s refl (given-is _ reply k.replies refl)
own-ready v (own.Learn link) reply h s =
    let say : LinkView → Result Reply Refusal = λ l. unless (not (same_role Sender l.role)) refusal.WrongRole (learn_first l.told) in
    let t = there_Ok (find (has_number link) v.links) refusal.NoLink say reply h in
    let u = unless_Ok (not (same_role Sender t.on.role)) refusal.WrongRole (learn_first t.on.told) reply t.said in
    let after = next_own v (own.Learn link) in
    record {
      ready = changes-ready v after (Own (own.Learn link)) reply.given (has_number link) learnt_from refl s refl (λ l. all l (learnt_from l) refl refl refl refl refl refl refl refl) (learn-taken t.on.told reply u.1);
      learn = record {
        waits = λ x w. inl (changes-waits v after (has_number link) learnt_from refl (λ l x h. in-drop x l.told h) x w);
        learns = learn-was v t.on (found-in (has_number link) v.links t.on t.found) t.on.told reply refl u.1;
      };
    }
own-ready v (own.Grant link credit drain echo) reply h s =
    let o = on-link-ok v link (λ l. sends v.max_frame (grant_refusals l credit) (grant_body v.windows (granted_on credit drain l) drain echo) [] given.Nothing) reply h in
    let k = sends-ok v.max_frame (grant_refusals o.on credit) (grant_body v.windows (granted_on credit drain o.on) drain echo) [] given.Nothing reply o.said in
    changes v (next_own v (own.Grant link credit drain echo)) (Own (own.Grant link credit drain echo)) reply.given (has_number link) (granted_on credit drain) refl s refl (λ l. all l (granted_on credit drain l) refl refl refl refl refl refl refl refl) (λ l. refl) (given-is _ reply k.replies refl)
own-ready v (own.Offer link available) reply h s =
    let o = on-link-ok v link (λ l. sends v.max_frame (attached_as Sender l []) (offer_body v.windows (offered available l)) [] given.Nothing) reply h in
    let k = sends-ok v.max_frame (attached_as Sender o.on []) (offer_body v.windows (offered available o.on)) [] given.Nothing reply o.said in
    changes v (next_own v (own.Offer link available)) (Own (own.Offer link available)) reply.given (has_number link) (offered available) refl s refl (λ l. all l (offered available l) refl refl refl refl refl refl refl refl) (λ l. refl) (given-is _ reply k.replies refl)
own-ready v (own.Drained link) reply h s =
    let o = on-link-ok v link (λ l. sends v.max_frame (drained_refusals l) (drained_body v.windows (drained l)) [] given.Nothing) reply h in
    let k = sends-ok v.max_frame (drained_refusals o.on) (drained_body v.windows (drained o.on)) [] given.Nothing reply o.said in
    changes v (next_own v (own.Drained link)) (Own (own.Drained link)) reply.given (has_number link) drained refl s refl (λ l. all l (drained l) refl refl refl refl refl refl refl refl) (λ l. refl) (given-is _ reply k.replies refl)
own-ready v (own.Refresh echo) reply h s =
    let k = sends-ok v.max_frame ((not (is_mapped v.session), refusal.NotMapped) ∷ []) (refresh_body v.windows echo) [] given.Nothing reply h in
    still v (next_own v (own.Refresh echo)) (Own (own.Refresh echo)) reply.given refl s refl (given-is _ reply k.replies refl)
own-ready v (own.Take link) reply h s =
    let say : LinkView → Result Reply Refusal = λ l. unless (not (same_role Receiver l.role)) refusal.WrongRole (take_first l.number l.ready) in
    let t = there_Ok (find (has_number link) v.links) refusal.NoLink say reply h in
    let u = unless_Ok (not (same_role Receiver t.on.role)) refusal.WrongRole (take_first t.on.number t.on.ready) reply t.said in
    by t.on t.found t.on.ready refl u.1
  where
    by : (l : LinkView) → find (has_number link) v.links ≡ Some l → (ds : List Delivery) → l.ready ≡ ds → take_first l.number ds ≡ Ok reply → Both v (next_own v (own.Take link)) (Own (own.Take link)) reply.given
    by l found [] is h = absurd (cc (h))
    by l found (d ∷ ds) is h =
        let e : take_reply l.number d ≡ reply = cc h in
        let after = next_own v (own.Take link) in
        record {
          ready = takes l d ds link refl found is refl (ap (λ (r : Reply). r.given) (sym e));
          learn = changes-learn v after (Own (own.Take link)) reply.given (has_number link) taken_from refl (λ l. refl) (λ x h. absurd (subst (λ (r : Reply). In x (learnt_in r.given)) (sym e) h));
        }
own-ready v (own.Detach link error) reply h s =
    let ended = ended_by (Leaves link) (Leaves link) v in
    let o = on-link-ok v link (λ l. sends_ending v.max_frame (detach_refusals l) (detach_body (handle_of l.ours) (Some true) error) ended given.Nothing) reply h in
    let k = sends-ending-ok v.max_frame (detach_refusals o.on) (detach_body (handle_of o.on.ours) (Some true) error) ended given.Nothing reply o.said in
    changes v (next_own v (own.Detach link error)) (Own (own.Detach link error)) reply.given (has_number link) left_by_us refl s refl left-leaves (λ l. refl) (given-is _ reply k.replies refl)
own-ready v (own.Suspend link) reply h s =
    let ended = ended_by (Leaves link) (Leaves link) v in
    let o = on-link-ok v link (λ l. sends_ending v.max_frame (detach_refusals l) (detach_body (handle_of l.ours) None None) ended (given.Suspended (put_aside v l))) reply h in
    let k = sends-ending-ok v.max_frame (detach_refusals o.on) (detach_body (handle_of o.on.ours) None None) ended (given.Suspended (put_aside v o.on)) reply o.said in
    changes v (next_own v (own.Suspend link)) (Own (own.Suspend link)) reply.given (has_number link) left_by_us refl s refl left-leaves (λ l. refl) (given-is _ reply k.replies refl)
own-ready v (own.Rejoin r) reply h s = absurd h
own-ready v (own.Resume link tag settled) reply h s = absurd h
own-ready v (own.End error) reply h s =
    let k = sends-ending-ok v.max_frame ((not (is_mapped v.session), refusal.NotMapped) ∷ []) (end_body error) (ended_by Over Over v) given.Nothing reply h in
    gone v (next_own v (own.End error)) (Own (own.End error)) reply.given refl refl (given-is _ reply k.replies refl)
own-ready v own.Beat reply h s =
    let k = sends-ok v.max_frame [] None [] given.Nothing reply h in
    still v (next_own v own.Beat) (Own own.Beat) reply.given refl s refl (given-is _ reply k.replies refl)

met-other : (made : ℕ) (o : Option LinkView) → is_other (met_or_made made o) ≡ true
met-other made None = refl
met-other made (Some l) = refl

ready-other : (left : Bool) (k : ℕ) (d : Delivery) → is_other (cond left given.Nothing (given_by k d)) ≡ true
ready-other true k d = refl
ready-other false k d = by (is_given d)
  where
    by : (b : Bool) → is_other (cond b (given.Ready k d.id) given.Nothing) ≡ true
    by true = refl
    by false = refl

body-ready : (v : View) (f : Frame) (body : Option Performative) (reply : Reply) → f.body ≡ body → body_answer v body f.payload ≡ Ok reply → IsSound v → Both v (next_body v body f.payload) (Heard f) reply.given
body-ready v f (Some (heard.Begin b)) reply is h s =
    let a = answered_Ok (first_refusal (begin_violations v)) no_reply reply h in
    still v _ (Heard f) reply.given (ap transfer_in is) s refl (given-is _ reply a.replies refl)
body-ready v f (Some (heard.Attach b)) reply is h s =
    let a = answered_Ok (first_refusal (attach_violations v b)) (attach_heard_reply v b) reply h in
    joins v (Heard f) reply.given (is_asked_as (opposite b.role) b.name) (opposite b.role) b.name (attached_by_peer b) (ap transfer_in is) s (peer-leaves b) (λ l. refl) refl (given-is _ reply a.replies (met-other v.made (find (is_asked_as (opposite b.role) b.name) v.links)))
body-ready v f (Some (heard.Flow b)) reply is h s =
    let w = flow_windows v b in
    let o = option_map (flow_link b) (named_link v.links b.handle) in
    let a = answered_Ok (first_refusal (flow_violations v b)) (flow_reply (echoes v b) w o) reply h in
    by b.handle refl (given-is _ reply a.replies (echo-other (echoes v b) w o))
  where
    echo-other : (echo : Bool) (w : WindowsView) (o : Option LinkView) → is_other (flow_reply echo w o).given ≡ true
    echo-other true w o = refl
    echo-other false w o = refl

    by : (o : Option ℕ) → b.handle ≡ o → is_other reply.given ≡ true → Both v (next_body v (Some (heard.Flow b)) f.payload) (Heard f) reply.given
    by None e other = still v _ (Heard f) reply.given (ap transfer_in is) s (ap (λ h. flow_links b h v.links) e) other
    by (Some k) e other = changes v _ (Heard f) reply.given (has_peer_handle k) (flow_link b) (ap transfer_in is) s (ap (λ h. flow_links b h v.links) e) (keep (flowed b) (λ l. all l (flowed b l) refl refl refl refl refl refl refl refl)) (keep-told (flowed b) (λ l. refl)) other
body-ready v f (Some (heard.Transfer b)) reply is h s =
    let say : LinkView → Result Reply Violation = λ l. answered (first_refusal (transfer_violations v b f.payload l)) (transfer_reply v b l) in
    let u = unless_Ok (not (takes_frames v.session)) (unlinked OutOfSession) (if_there (find (has_peer_handle b.handle) v.links) (unlinked BadHandle) say) reply h in
    let t = there_Ok (find (has_peer_handle b.handle) v.links) (unlinked BadHandle) say reply u.1 in
    let a = answered_Ok (first_refusal (transfer_violations v b f.payload t.on)) (transfer_reply v b t.on) reply t.said in
    let other = given-is _ reply a.replies (ready-other t.on.left t.on.number (joined_to (transferred (rcv_mode t.on) b []) t.on.receiving)) in
    record {
      ready = hears f b refl is refl (none-taken reply.given other);
      learn = changes-learn v (next_body v (Some (heard.Transfer b)) f.payload) (Heard f) reply.given (has_peer_handle b.handle) (heard_on b f.payload) refl (keep-told (received_on b f.payload) (λ l. refl)) (none-learnt v reply.given other);
    }
body-ready v f (Some (heard.Disposition b)) reply is h s =
    let a = answered_Ok (first_refusal (disposition_violations v (disposition_of b))) (disposition_reply v b) reply h in
    let other = given-is _ reply a.replies refl in
    let lives = lives-by v.session (not-false (takes_frames v.session) (no_refusal (disposition_violations v (disposition_of b)) a.none).0) in
    record {
      ready = rests (ap transfer_in is) (λ m there. (let x = in-mapped (told_more (sent_by_body v (Some (heard.Disposition b))) v.sent) v.links m there in inl (by m x.0 x.1.0 x.1.1))) (none-taken reply.given other);
      learn = record {
        waits = λ t w. (let x = in-mapped (told_more (sent_by_body v (Some (heard.Disposition b))) v.sent) v.links w.link' w.there in told-by v f b t x.0 is lives x.1.0 (subst (λ (m : LinkView). In t m.told) x.1.1 w.told));
        learns = none-learnt v reply.given other;
      };
    }
  where
    lives-by : (s : SessionView) → takes_frames s ≡ true → is_over s ≡ false
    lives-by s h = by-parts s.begin_heard (is_over s) h
      where
        by-parts : (b o : Bool) → b && not o ≡ true → o ≡ false
        by-parts b false h = refl
        by-parts true true h = absurd (cc (h))
        by-parts false true h = absurd (cc (h))

    by : (m l : LinkView) → In l v.links → m ≡ told_more (sent_by_body v (Some (heard.Disposition b))) v.sent l → Rests v m
    by m l h' e = rests-same v l m s h' (subst (λ (m : LinkView). Leaves' l m) (sym e) (all l (told_more (sent_by_body v (Some (heard.Disposition b))) v.sent l) refl refl refl refl refl refl refl refl))
body-ready v f (Some (heard.Detach b)) reply is h s =
    let say : LinkView → Result Reply Violation = λ l. Ok (detach_reply v b l) in
    let u = unless_Ok (not (takes_frames v.session)) (unlinked OutOfSession) (if_there (find (has_peer_handle b.handle) v.links) (unlinked BadHandle) say) reply h in
    let t = there_Ok (find (has_peer_handle b.handle) v.links) (unlinked BadHandle) say reply u.1 in
    let said = t.said in
    let e : detach_reply v b t.on ≡ reply = cc said in
    let other = given-is (detach_reply v b t.on) reply e (gone-other (is_attached t.on) t.on) in
    record {
      ready = rests (ap transfer_in is) (λ m there. inl (rests-same v m m s (in-removed (has_peer_handle b.handle) v.links m there) (self m))) (none-taken reply.given other);
      learn = record { waits = λ t w. inl (waits-as v t w.link' w.link' (in-removed (has_peer_handle b.handle) v.links w.link' w.there) refl w.told); learns = none-learnt v reply.given other };
    }
  where
    gone-other : (attached : Bool) (l : LinkView)
        → is_other (cond attached (reply_ending (detach_body (handle_of l.ours) b.closed None) [] (ended_by (Leaves l.number) (Leaves l.number) v) (parting v b l)) (record { sent = []; ended = ended_by (Leaves l.number) (Leaves l.number) v; given = given.Gone l.number })).given ≡ true
    gone-other true l = parting-other (unwrap_or b.closed false)
      where
        parting-other : (closed : Bool) → is_other (cond closed (given.Gone l.number) (given.Parted l.number (put_aside v l))) ≡ true
        parting-other true = refl
        parting-other false = refl
    gone-other false l = refl
body-ready v f (Some (heard.End b)) reply is h s =
    let u = unless_Ok (not (is_ending v.session || takes_frames v.session)) (unlinked OutOfSession) (Ok (end_reply v)) reply h in
    let said = u.1 in
    let e : end_reply v ≡ reply = cc said in
    gone v (next_body v (Some (heard.End b)) f.payload) (Heard f) reply.given (ap transfer_in is) refl (given-is (end_reply v) reply e (end-other (is_mapped v.session)))
  where
    end-other : (mapped : Bool) → is_other (cond mapped (reply_ending (end_body None) [] (ended_by Over Over v) given.Nothing) (record { sent = []; ended = ended_by Over Over v; given = given.Nothing })).given ≡ true
    end-other true = refl
    end-other false = refl
body-ready v f _ reply is h s = absurd (cc (h))

-- of a session that is not over
pub ready-step : (v : View) (step : Step) (reply : Reply) → Answers v step reply → is_over v.session ≡ false → IsSound v → ReadyStep v (next v step) step reply.given
ready-step v (Opened told) reply h o s = (still v _ (Opened told) reply.given refl s refl (given-is no_reply reply h refl)).ready
ready-step v (Own op) reply h o s = (own-ready v op reply h s).ready
ready-step v (Heard f) reply h o s =
    let unsent : v.session.end_sent ≡ false = (or-none v.session.end_sent v.session.end_heard o).0 in
    let taken : is_dropped v f.body ≡ false = rw unsent refl in
    let k = rw taken at h in
    rw taken (body-ready v f f.body reply refl k s).ready

-- where no link is there, nothing is taken
pub idle-step : (v : View) (step : Step) (reply : Reply) → Answers v step reply → IsSound v → v.links ≡ [] → (k : ℕ) → taken_in k reply.given ≡ []
idle-step v step reply h s empty k = by step h
  where
    idle : {after : View} {step : Step} → ReadyStep v after step reply.given → taken_in k reply.given ≡ []
    idle (rests mute f none) = none k
    idle (takes l d ds n is found ready to g) = let here : find (has_number n) [] ≡ Some l = subst (λ (links : List LinkView). find (has_number n) links ≡ Some l) empty found in absurd (cc (here))
    idle (hears f t is body to none) = none k

    by : (step : Step) → Answers v step reply → taken_in k reply.given ≡ []
    by (Opened told) h = ap (λ (r : Reply). taken_in k r.given) (sym h)
    by (Own op) h = idle (own-ready v op reply h s).ready
    by (Heard f) h =
        by-bool (is_dropped v f.body)
        (λ (dropped : is_dropped v f.body ≡ true).
        let x : Ok no_reply ≡ Ok reply = (let x = rw dropped at h in x) in
        let same : no_reply ≡ reply = cc x in
        ap (λ (r : Reply). taken_in k r.given) (sym same))
        (λ (taken : is_dropped v f.body ≡ false).
        let x = rw taken at h in
        idle (body-ready v f f.body reply refl x s).ready)

pub learn-step : (v : View) (step : Step) (reply : Reply) → Answers v step reply → IsSound v → LearnStep v (next v step) step reply.given
learn-step v (Opened told) reply h s = still-learn v _ (Opened told) reply.given refl (given-is no_reply reply h refl)
learn-step v (Own op) reply h s = (own-ready v op reply h s).learn
learn-step v (Heard f) reply h s =
    by-bool (is_dropped v f.body)
    (λ (dropped : is_dropped v f.body ≡ true).
    let k : Ok no_reply ≡ Ok reply = (let k = rw dropped at h in k) in
    let none : no_reply ≡ reply = cc k in
    rw dropped (still-learn v (record v { steps = v.steps + 1 }) (Heard f) reply.given refl (given-is no_reply reply none refl)))
    (λ (taken : is_dropped v f.body ≡ false).
    let k = rw taken at h in
    rw taken (body-ready v f f.body reply refl k s).learn)
