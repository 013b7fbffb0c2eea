-- What an end holds of what it sent is on attached links, and was there, on the same ones, in each earlier state since it began.
use Rattle.std.proofs.Common.{◌≡◌, ◌⊎◌, inl, inr, ◌≤◌, ℕ, Bool, true, false, cond, Option, Some, None, Ok, List, [], ◌∷◌, arith, refl, sym, ap, ◌∙◌, subst, find}
use Rattle.amqp_performatives.specs.declared.bodies.Role.{Role}
use Rattle.amqp_performatives.specs.declared.bodies.Role.TheVariants.{Sender, Receiver}
use Rattle.amqp_performatives.specs.declared.bodies.TransferBody.{TransferBody}
use Rattle.amqp_performatives.specs.declared.performative.Performative.{Performative}
use Rattle.amqp_performatives.specs.declared.performative.Performative.TheVariants as heard
use Rattle.amqp_events.specs.Event.{Disposition, Event, Item, Leaves, Over, PassesOver}
use Rattle.amqp_events.specs.Joined.{Delivery}
use Rattle.amqp_events.specs.Told.{SentItem}
use Rattle.amqp_events.specs.Unsettled.{begins}
use Rattle.amqp_rules.specs.declared.config.Config.{Config}
use Rattle.amqp_rules.specs.declared.op.Op.TheVariants as own
use Rattle.amqp_rules.specs.declared.reply.Reply.{Reply}
use Rattle.amqp_rules.specs.View.{LinkView, View, handle_of, has_name, has_number, has_peer_handle, is_attached, is_over, next_delivery, rcv_mode, same_role}
use Rattle.amqp_rules.specs.Sending.{sends as sends'}
use Rattle.amqp_rules.specs.Start.{start_body, start_refusals}
use Rattle.amqp_rules.specs.declared.reply.Given.TheVariants as given
use Rattle.amqp_rules.specs.Deliveries.{belongs_to, heard_of, received_by_body, said_of, sent_by_body, transfer_on, transferred}
use Rattle.amqp_rules.specs.Answer.{own_answer}
use Rattle.amqp_rules.specs.Sound.{IsSound}
use Rattle.amqp_rules.proofs.Accepted.{not-false, on-link-ok, sends-ok}
use Rattle.amqp_laws.specs.declared.entry.Entry.{Entry}
use Rattle.amqp_laws.specs.declared.entry.Step.{Step}
use Rattle.amqp_laws.specs.declared.entry.Step.TheVariants.{Own, Heard}
use Rattle.amqp_laws.specs.Live.{live}
use Rattle.amqp_laws.specs.At.{at, received_by, sent_by, started}
use Rattle.amqp_laws.specs.Lawful.{next}
use Rattle.amqp_pair_laws.proofs.Plain.{Answers, due}
use Rattle.amqp_pair_laws.specs.Moves.{IsTail}
use Rattle.amqp_pair_laws.proofs.Lag as lag
use Rattle.amqp_pair_laws.proofs.Named.{found-passes, name-self, named-found, role-same}
use Rattle.amqp_pair_laws.proofs.SlotActs.{AllFair, Lives, OneMore, one-more}
use Rattle.amqp_pair_laws.proofs.Windows.{lives-goes}
use Rattle.amqp_pair_laws.proofs.Tallies.{link}
use Rattle.amqp_pair_laws.proofs.Members.{In, IsSame, Was}
use Rattle.amqp_pair_laws.proofs.LinkSteps.{link-step, one-number, sees-name, step-went}
use Rattle.amqp_pair_laws.proofs.HeldSteps.{BeginsOurs, HeldStep, begins-ours, held-step}
use Rattle.amqp_pair_laws.proofs.Fresh.{IsSerial, serial-apart, started-few}
use Rattle.amqp_pair_laws.proofs.Attached.{ends-left, ends-over}
use Rattle.amqp_pair_laws.proofs.SaidKnown.{started-grows}
use Rattle.std.proofs.lemmas.Bool.{eqb-true}

-- # A link or a session ends for both directions

abbrev pub is_leave : Event → Bool
is_leave (Leaves k) = true
is_leave Over = true
is_leave _ = false

transfer-stays : (t : TransferBody) (o : Option LinkView) → is_leave (transfer_on t o) ≡ false
transfer-stays t None = refl
transfer-stays t (Some l) = by l.left
  where
    on : (o : Option Delivery) → is_leave (belongs_to l.number l.waiting (transferred (rcv_mode l) t []) t.state o) ≡ false
    on None = refl
    on (Some d) = refl

    by : (left : Bool) → is_leave (cond left (PassesOver t.delivery_id) (belongs_to l.number l.waiting (transferred (rcv_mode l) t []) t.state l.receiving)) ≡ false
    by true = refl
    by false = on l.receiving

stays-not : {P : Type 0} (e e' : Event) → is_leave e ≡ false → e ≡ e' → is_leave e' ≡ true → P
stays-not e e' mute h loud = let x : is_leave e ≡ true = ap is_leave h ∙ loud in absurd (cc (mute, x))

body-leave : (v : View) (body : Option Performative) (e : Event) → received_by_body v body ≡ e → is_leave e ≡ true → sent_by_body v body ≡ e
body-leave v (Some (heard.Transfer t)) e h l = stays-not (received_by_body v (Some (heard.Transfer t))) e (transfer-stays t (find (has_peer_handle t.handle) v.links)) h l
body-leave v (Some (heard.Disposition d)) e h l = stays-not (heard_of Receiver d d.role) e (by d.role) h l
  where
    by : (role : Role) → is_leave (heard_of Receiver d role) ≡ false
    by Sender = refl
    by Receiver = refl
body-leave v (Some (heard.Detach d)) e h l = h
body-leave v (Some (heard.End d)) e h l = h
body-leave v _ e h l = h

pub same-leave : (v : View) (step : Step) (e : Event) → received_by v step ≡ e → is_leave e ≡ true → sent_by v step ≡ e
same-leave v (Own (own.Dispose role first last settled state)) e h l = stays-not (said_of Receiver role d) e (by role) h l
  where
    d : Disposition
    d = record { first = first; last = last; settled = settled; state = state }

    by : (role : Role) → is_leave (said_of Receiver role d) ≡ false
    by Sender = refl
    by Receiver = refl
same-leave v (Own (own.Detach link error)) e h l = h
same-leave v (Own (own.Suspend link)) e h l = h
same-leave v (Own (own.End error)) e h l = h
same-leave v (Heard f) e h l = body-leave v f.body e h l
same-leave v _ e h l = let x : false ≡ true = ap is_leave h ∙ l in absurd (cc (x))

-- # The links of what was sent

-- the link of this name and number is attached
pub record OnName (v : View) (name : List ℕ) (k : ℕ) : Type 0 where
  pub link' : LinkView
  pub found : find (has_name Sender name) v.links ≡ Some link'
  pub number : link'.number ≡ k
  pub attached : is_attached link' ≡ true

name-after : (v : View) (step : Step) (reply : Reply) (name : List ℕ) (k : ℕ) → Answers v step reply → is_over v.session ≡ false → IsSound v → OnName v name k
    → ((n : ℕ) → sent_by v step ≡ Leaves n → k ≡ n → ⊥) → (sent_by v step ≡ Over → ⊥) → OnName (next v step) name k
name-after v step reply name k h o s a stays lives =
    let w = step-went v (next v step) (sent_by v step) (received_by v step) (has_name Sender name) a.link' (link-step v step reply h o) (sees-name Sender name) s a.found
    (λ m e at-m. stays m (same-leave v step (Leaves m) e refl) (sym a.number ∙ at-m)) (λ e. lives (same-leave v step Over e refl)) in
    record { link' = w.link'; found = w.found; number = w.number ∙ a.number; attached = w.attached a.attached }

-- a delivery begins on an attached link on which the end sends
begun-on-name : (v : View) (step : Step) (reply : Reply) (s : SentItem) → Answers v step reply → IsSound v → BeginsOurs v step s.item → (name : List ℕ) × OnName v name s.item.link
begun-on-name v step reply s h sound b =
    let answer : own_answer v (own.Start b.number b.tag b.format b.settled b.payload b.more) ≡ Ok reply = subst (λ (step : Step). Answers v step reply) b.is-start h in
    let id = next_delivery v in
    let o = on-link-ok v b.number (λ l. sends' v.max_frame (start_refusals v l b.tag b.settled b.payload) (start_body (handle_of l.ours) id b.tag b.format b.settled b.more) b.payload (given.Delivery id)) reply answer in
    let k = sends-ok v.max_frame (start_refusals v o.on b.tag b.settled b.payload) (start_body (handle_of o.on.ours) id b.tag b.format b.settled b.more) b.payload (given.Delivery id) reply o.said in
    let l = o.on in
    let role = role-same Sender l.role (not-false (same_role Sender l.role) k.none_holds.1.0) in
    let named : has_name Sender l.name l ≡ true = ap (λ (r : Role). has_name r l.name l) role ∙ name-self l.role l.name in (
      l.name,
      record {
        link' = l;
        found = named-found Sender l.name (has_number b.number) v.links l sound.links.names o.found named;
        number = eqb-true l.number b.number (found-passes (has_number b.number) v.links l o.found) ∙ sym b.on;
        attached = not-false (is_attached l) k.none_holds.0;
      },
    )

begins-none : (e : Event) (i : Item) → is_leave e ≡ true → begins e ≡ Some i → ⊥
begins-none (Leaves k) i l h = absurd (cc (h))
begins-none Over i l h = absurd (cc (h))
begins-none _ i l h = absurd (cc (l))

-- what is held is on attached links, as long as the session is not over
pub on-name : (c : Config) (past : List Entry) → AllFair c past → Lives past → (s : SentItem) → In s (at c past).sent → (name : List ℕ) × OnName (at c past) name s.item.link
on-name c [] fair lives s there = absurd there
on-name c (e ∷ past) fair lives s there = by (λ s there. on-name c past fair.0 lp s there) (h.ours s (subst (λ (v : View). In s v.sent) o.goes_on there))
  where
    v : View
    v = at c past

    lp : Lives past
    lp = (lives-goes e past lives).lived

    o : OneMore (Sender, []) c e past
    o = one-more (Sender, []) c e past fair

    h : HeldStep v (next v e.step) (sent_by v e.step) (received_by v e.step)
    h = held-step v e.step e.reply (due fair.1) lp

    goes : (name : List ℕ) (k : ℕ) → OnName v name k → s.item.link ≡ k → ((n : ℕ) → sent_by v e.step ≡ Leaves n → k ≡ n → ⊥) → (sent_by v e.step ≡ Over → ⊥) → (name : List ℕ) × OnName (at c (e ∷ past)) name s.item.link
    goes name k a same stays lives' =
        let b = name-after v e.step e.reply name k (due fair.1) lp o.sound a stays lives' in
        (name, subst (λ (v : View). OnName v name s.item.link) (sym o.goes_on) (subst (λ (k : ℕ). OnName (next v e.step) name k) (sym same) b))

    by : ((s : SentItem) → In s v.sent → (name : List ℕ) × OnName v name s.item.link) → Was (sent_by v e.step) v.sent s ⊎ (begins (sent_by v e.step) ≡ Some s.item) → (name : List ℕ) × OnName (at c (e ∷ past)) name s.item.link
    by known (inl w) =
        let a = known w.before w.there in
        goes a.0 w.before.item.link a.1 w.same.link (λ n e' at-n. ends-left (sent_by v e.step) w.before.item n e' at-n w.stays) (λ e'. ends-over (sent_by v e.step) w.before.item e' w.stays)
    by known (inr is) =
        let a = begun-on-name v e.step e.reply s (due fair.1) o.sound (begins-ours v e.step e.reply (due fair.1) s.item is) in
        goes a.0 s.item.link a.1 refl (λ n e' at-n. begins-none (sent_by v e.step) s.item (ap is_leave e') is) (λ e'. begins-none (sent_by v e.step) s.item (ap is_leave e') is)

-- so the link of the name, where one is held on it
pub name-attached : (c : Config) (past : List Entry) → AllFair c past → Lives past → IsSound (at c past) → (P : LinkView → Bool) (x : LinkView) (s : SentItem) → find P (at c past).links ≡ Some x → In s (at c past).sent → s.item.link ≡ x.number → is_attached x ≡ true
name-attached c past fair lives sound P x s found there on =
    let a = (on-name c past fair lives s there).1 in
    let one : x ≡ a.link' = one-number (at c past) P (has_name Sender (on-name c past fair lives s there).0) x a.link' sound found a.found (sym on ∙ sym a.number) in
    ap is_attached one ∙ a.attached

-- # Earlier states

-- it was there since it began, and on the link of the same name
pub record Since (c : Config) (early past : List Entry) (s : SentItem) : Type 0 where
  pub before : SentItem
  pub there : In before (at c early).sent
  pub same : IsSame before.item s.item
  pub name : List ℕ
  pub first : OnName (at c early) name before.item.link
  pub last : OnName (at c past) name s.item.link

same-self : (i : Item) → IsSame i i
same-self i = record { id = refl; link = refl; tag = refl }

pub sent-since : (c : Config) (early past : List Entry) → IsTail early past → AllFair c past → Lives past → (s : SentItem) → In s (at c past).sent → IsSerial c (started (live early)) s.item.id → Since c early past s
sent-since c early [] t fair lives s there serial = absurd there
sent-since c early (e ∷ past) (inl t) fair lives s there serial =
    let a = on-name c (e ∷ past) fair lives s there in
    subst (λ (p : List Entry). Since c p (e ∷ past) s) (sym t) (record { before = s; there = there; same = same-self s.item; name = a.0; first = a.1; last = a.1 })
sent-since c early (e ∷ past) (inr t) fair lives s there serial = by (λ s there serial. sent-since c early past t fair.0 lp s there serial) (h.ours s (subst (λ (v : View). In s v.sent) o.goes_on there))
  where
    v : View
    v = at c past

    lp : Lives past
    lp = (lives-goes e past lives).lived

    o : OneMore (Sender, []) c e past
    o = one-more (Sender, []) c e past fair

    h : HeldStep v (next v e.step) (sent_by v e.step) (received_by v e.step)
    h = held-step v e.step e.reply (due fair.1) lp

    later : {m k id : ℕ} → IsSerial c m id → m ≤ k → IsSerial c k id
    later x h = (x.0, ((let few = x.1.0 in omega (arith, few, h)), x.1.1))

    by : ((s : SentItem) → In s v.sent → IsSerial c (started (live early)) s.item.id → Since c early past s) → Was (sent_by v e.step) v.sent s ⊎ (begins (sent_by v e.step) ≡ Some s.item) → Since c early (e ∷ past) s
    by earlier (inl w) =
        let x = earlier w.before w.there (subst (λ (id : ℕ). IsSerial c (started (live early)) id) w.same.id serial) in
        let b = name-after v e.step e.reply x.name w.before.item.link (due fair.1) lp o.sound x.last (λ n e' at-n. ends-left (sent_by v e.step) w.before.item n e' at-n w.stays) (λ e'. ends-over (sent_by v e.step) w.before.item e' w.stays) in
        record {
          before = x.before;
          there = x.there;
          same = record { id = w.same.id ∙ x.same.id; link = w.same.link ∙ x.same.link; tag = w.same.tag ∙ x.same.tag };
          name = x.name;
          first = x.first;
          last = subst (λ (v : View). OnName v x.name s.item.link) (sym o.goes_on) (subst (λ (k : ℕ). OnName (next v e.step) x.name k) (sym w.same.link) b);
        }
    by earlier (inr is) =
        let b = begins-ours v e.step e.reply (due fair.1) s.item is in
        let grows : started (live early) ≤ started (live past) = lag.tail-grows (λ p. started (live p)) started-grows early past t in
        absurd (serial-apart c (started (live past)) s.item.id (started-few c past fair.0) (later serial grows) b.id)
