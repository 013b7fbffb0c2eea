-- The delivery that is unfinished on a link is of that link, by its id.
use Rattle.std.proofs.Common.{◌≡◌, inl, inr, ◌⊎◌, ℕ, ◌+◌, Bool, true, false, cond, Option, Some, None, List, [], ◌∷◌, arith, refl, sym, ap, ◌∙◌, subst, find, is_some}
use Rattle.std.proofs.lemmas.Bool.{eqb-true}
use Rattle.amqp_performatives.specs.declared.bodies.Role.{Role}
use Rattle.amqp_performatives.specs.declared.bodies.Role.TheVariants.{Sender}
use Rattle.amqp_performatives.specs.declared.bodies.TransferBody.{TransferBody}
use Rattle.amqp_performatives.specs.declared.performative.Performative.{Performative}
use Rattle.amqp_performatives.specs.declared.performative.Performative.TheVariants as heard
use Rattle.amqp_frames.specs.declared.frame.Frame.{Frame}
use Rattle.amqp_events.specs.Event.{Item}
use Rattle.amqp_events.specs.Told.{SentItem}
use Rattle.amqp_events.specs.Unsettled.{begins}
use Rattle.amqp_rules.specs.declared.config.Config.{Config}
use Rattle.amqp_rules.specs.declared.op.Op.TheVariants as own
use Rattle.amqp_rules.specs.View.{LinkView, SendingView, View, handle_of, has_handle, has_name, has_number, new_link, next_delivery}
use Rattle.amqp_rules.specs.Attach.{attached_by_peer, attached_by_us}
use Rattle.amqp_rules.proofs.Listed.{by-bool}
use Rattle.amqp_laws.specs.declared.entry.Entry.{Entry}
use Rattle.amqp_laws.specs.declared.entry.Step.{Step}
use Rattle.amqp_laws.specs.declared.entry.Step.TheVariants.{Own}
use Rattle.amqp_laws.specs.Said.{body_heard, own_in, starts}
use Rattle.amqp_laws.specs.Live.{live}
use Rattle.amqp_laws.specs.At.{at, received_by, sent_by, started}
use Rattle.amqp_laws.specs.Lawful.{next}
use Rattle.amqp_pair_laws.proofs.Plain.{due, no-start}
use Rattle.amqp_pair_laws.specs.World.{sends}
use Rattle.amqp_pair_laws.proofs.Named.{found-passes, or_this}
use Rattle.amqp_pair_laws.proofs.Windows.{lives-goes}
use Rattle.amqp_pair_laws.proofs.SlotActs.{AllFair, Lives, OneMore, attached-ours, by-handle, its-handle, one-more}
use Rattle.amqp_pair_laws.proofs.Sends.{step-sending}
use Rattle.amqp_pair_laws.proofs.Turns.{Goes, TellsTransfer, Turn, asks, away, goes, hearing, leaving, meets, rests, sending, tells}
use Rattle.amqp_pair_laws.proofs.Tallies.{link, turn-of}
use Rattle.amqp_pair_laws.proofs.CountsKnown.{same-some}
use Rattle.amqp_pair_laws.proofs.Expected.{Began, began, later-none}
use Rattle.amqp_pair_laws.proofs.Members.{In, Was}
use Rattle.amqp_pair_laws.proofs.LinkSteps.{link-step, stays-on}
use Rattle.amqp_pair_laws.proofs.HeldSteps.{BeginsOurs, begins-ours, held-step}
use Rattle.amqp_pair_laws.proofs.Fresh.{IsSerial, serial-apart, serial-more, started-few}
use Rattle.amqp_pair_laws.proofs.Closed.{no-id}

-- # Serial numbers stay

started-one : (e : Entry) (past : List Entry) → Lives (e ∷ past) → (s : Bool) → starts e ≡ s → started (live (e ∷ past)) ≡ cond s (started (live past) + 1) (started (live past))
started-one e past lives true is = ap started (lives-goes e past lives).is_live ∙ rw is refl
started-one e past lives false is = ap started (lives-goes e past lives).is_live ∙ rw is refl

serial-later : (c : Config) (e : Entry) (past : List Entry) (id : ℕ) → Lives (e ∷ past) → IsSerial c (started (live past)) id → IsSerial c (started (live (e ∷ past))) id
serial-later c e past id lives x = by (starts e) refl
  where
    by : (s : Bool) → starts e ≡ s → IsSerial c (started (live (e ∷ past))) id
    by true is = subst (λ (n : ℕ). IsSerial c n id) (sym (started-one e past lives true is)) (serial-more c (started (live past)) id x)
    by false is = subst (λ (n : ℕ). IsSerial c n id) (sym (started-one e past lives false is)) x

serial-now : (c : Config) (e : Entry) (past : List Entry) (id : ℕ) → Lives (e ∷ past) → starts e ≡ true → id ≡ next_delivery (at c past) → IsSerial c (started (live (e ∷ past))) id
serial-now c e past id lives is same =
    subst (λ (n : ℕ). IsSerial c n id) (sym (started-one e past lives true is)) (started (live past), (omega arith, same))

starts-by : (c : Config) (e : Entry) (past : List Entry) (i : Item) → BeginsOurs (at c past) e.step i → starts e ≡ true
starts-by c e past i b = by e.step b.is-start
  where
    by : (step : Step) {n : ℕ} {tag : List ℕ} {format : ℕ} {settled : Bool} {payload : List ℕ} {more : Bool} → step ≡ Own (own.Start n tag format settled payload more) → starts (record e { step = step }) ≡ true
    by step is = rw is refl

-- # What is held

-- the id is one of those of deliveries that began
abbrev HeldSerial : Config → List Entry → Type 0
HeldSerial c past = (s : SentItem) → In s (at c past).sent → IsSerial c (started (live past)) s.item.id

pub held-serial : (c : Config) (past : List Entry) → AllFair c past → Lives past → HeldSerial c past
held-serial c [] fair lives s there = absurd there
held-serial c (e ∷ past) fair lives s there =
    let o = one-more (Sender, []) c e past fair in
    let lp = (lives-goes e past lives).lived in
    let h = held-step (at c past) e.step e.reply (due fair.1) lp in
    by (held-serial c past fair.0 lp) (h.ours s (subst (λ (v : View). In s v.sent) o.goes_on there))
  where
    by : HeldSerial c past → Was (sent_by (at c past) e.step) (at c past).sent s ⊎ (begins (sent_by (at c past) e.step) ≡ Some s.item) → IsSerial c (started (live (e ∷ past))) s.item.id
    by before (inl w) = serial-later c e past s.item.id lives (subst (λ (id : ℕ). IsSerial c (started (live past)) id) (sym w.same.id) (before w.before w.there))
    by before (inr is) =
        let b = begins-ours (at c past) e.step e.reply (due fair.1) s.item is in
        serial-now c e past s.item.id lives (starts-by c e past s.item b) b.id

-- # What is unfinished

pub record IsOurs (c : Config) (past : List Entry) (x : LinkView) (d : SendingView) : Type 0 where
  pub serial : IsSerial c (started (live past)) d.id
  pub on : (s : SentItem) → In s (at c past).sent → s.item.id ≡ d.id → s.item.link ≡ x.number

-- it was there before the step
ours-later : (c : Config) (e : Entry) (past : List Entry) (l x : LinkView) (b d : SendingView) → AllFair c (e ∷ past) → Lives (e ∷ past) → d.id ≡ b.id → x.number ≡ l.number → IsOurs c past l b → IsOurs c (e ∷ past) x d
ours-later c e past l x b d fair lives same number k =
    let o = one-more (Sender, []) c e past fair in
    let lp = (lives-goes e past lives).lived in
    let h = held-step (at c past) e.step e.reply (due fair.1) lp in
    record {
      serial = serial-later c e past d.id lives (subst (λ (id : ℕ). IsSerial c (started (live past)) id) (sym same) k.serial);
      on = λ s there is. by s (h.ours s (subst (λ (v : View). In s v.sent) o.goes_on there)) (is ∙ same);
    }
  where
    by : (s : SentItem) → Was (sent_by (at c past) e.step) (at c past).sent s ⊎ (begins (sent_by (at c past) e.step) ≡ Some s.item) → s.item.id ≡ b.id → s.item.link ≡ x.number
    by s (inl w) is = w.same.link ∙ k.on w.before w.there (sym w.same.id ∙ is) ∙ sym number
    by s (inr now) is =
        let y = begins-ours (at c past) e.step e.reply (due fair.1) s.item now in
        absurd (serial-apart c (started (live past)) b.id (started-few c past fair.0) k.serial (sym is ∙ y.id))

-- it begins by the step
ours-now : (c : Config) (e : Entry) (past : List Entry) (f : Frame) (l x : LinkView) (d : SendingView) → AllFair c (e ∷ past) → Lives (e ∷ past) → starts e ≡ true → sends e ≡ Some f
    → (y : Began (at c past) e.step f) → y.link ≡ l → d.id ≡ next_delivery (at c past) → x.number ≡ l.number → IsOurs c (e ∷ past) x d
ours-now c e past f l x d fair lives is sent y one id number =
    let o = one-more (Sender, []) c e past fair in
    let lp = (lives-goes e past lives).lived in
    let h = held-step (at c past) e.step e.reply (due fair.1) lp in
    record {
      serial = serial-now c e past d.id lives is id;
      on = λ s there same. by s lp (h.ours s (subst (λ (v : View). In s v.sent) o.goes_on there)) (same ∙ id);
    }
  where
    by : (s : SentItem) → Lives past → Was (sent_by (at c past) e.step) (at c past).sent s ⊎ (begins (sent_by (at c past) e.step) ≡ Some s.item) → s.item.id ≡ next_delivery (at c past) → s.item.link ≡ x.number
    by s lp (inl w) same =
        absurd (serial-apart c (started (live past)) w.before.item.id (started-few c past fair.0) (held-serial c past fair.0 lp w.before w.there) (sym w.same.id ∙ same))
    by s lp (inr now) same =
        let z = begins-ours (at c past) e.step e.reply (due fair.1) s.item now in
        z.on ∙ at-number z ∙ ap (λ (l : LinkView). l.number) one ∙ sym number
      where
        at-number : (z : BeginsOurs (at c past) e.step s.item) → z.number ≡ y.link.number
        at-number z =
            let same : Own (own.Start z.number z.tag z.format z.settled z.payload z.more) ≡ Own (own.Start y.number y.tag y.format y.settled y.payload y.more) = sym z.is-start ∙ y.is-start in
            let n : z.number ≡ y.number = cc same in
            n ∙ sym (eqb-true y.link.number y.number (found-passes (has_number y.number) (at c past).links y.link y.found))

-- the links of a role that sends
abbrev pub OursOn : Config → List Entry → Type 0
OursOn c past = (name : List ℕ) (x : LinkView) (d : SendingView) → link (Sender, name) c past ≡ Some x → x.left ≡ false → x.sending ≡ Some d → IsOurs c past x d

ours-step : (c : Config) (e : Entry) (past : List Entry) → AllFair c (e ∷ past) → Lives (e ∷ past) → OursOn c past → OursOn c (e ∷ past)
ours-step c e past fair lives k name x d found stays is = by (turn-of (Sender, name) c e past fair)
  where
    i : Role × List ℕ
    i = (Sender, name)

    o : OneMore i c e past
    o = one-more i c e past fair

    lp : Lives past
    lp = (lives-goes e past lives).lived

    -- an attach leaves what is unfinished as it is
    joined : (b : Option LinkView) (change : LinkView → LinkView) (n : ℕ) → link i c past ≡ b → ((l : LinkView) → (change l).sending ≡ l.sending) → ((l : LinkView) → (change l).left ≡ l.left) → ((l : LinkView) → (change l).number ≡ l.number)
        → link i c (e ∷ past) ≡ Some (change (or_this b (new_link n Sender name))) → IsOurs c (e ∷ past) x d
    joined None change n was s l m to =
        let one = same-some (link i c (e ∷ past)) (change (new_link n Sender name)) x to found in
        let none : x.sending ≡ None = ap (λ (l : LinkView). l.sending) (sym one) ∙ s (new_link n Sender name) in
        absurd (cc (none, is))
    joined (Some y) change n was s l m to =
        let one = same-some (link i c (e ∷ past)) (change y) x to found in
        ours-later c e past y x d d fair lives refl (ap (λ (l : LinkView). l.number) (sym one) ∙ m y)
        (k name y d was (sym (l y) ∙ ap (λ (l : LinkView). l.left) one ∙ stays) (sym (s y) ∙ ap (λ (l : LinkView). l.sending) one ∙ is))

    number-of : (l : LinkView) → link i c past ≡ Some l → x.number ≡ l.number
    number-of l was =
        let step = link-step (at c past) e.step e.reply (due fair.1) lp in
        let g = stays-on (at c past) (next (at c past) e.step) (sent_by (at c past) e.step) (received_by (at c past) e.step) Sender name l x step o.sound was (ap (λ (v : View). find (has_name Sender name) v.links) (sym o.goes_on) ∙ found) stays in
        g.number

    same : (l : LinkView) → link i c past ≡ Some l → l.left ≡ false → l.sending ≡ Some d → IsOurs c (e ∷ past) x d
    same l was unleft was-d = ours-later c e past l x d d fair lives refl (number-of l was) (k name l d was unleft was-d)

    transfer : (l : LinkView) → link i c past ≡ Some l → l.left ≡ false → TellsTransfer (next_delivery (at c past)) l x (sends e) → (b : Option SendingView) → l.sending ≡ b → IsOurs c (e ∷ past) x d
    transfer l was unleft t (Some b) was-b = ours-later c e past l x b d fair lives (t.keeps-id b d was-b is) (number-of l was) (k name l b was unleft was-b)
    transfer l was unleft t None none =
        let fresh : is_some l.sending ≡ false = rw none refl in
        let id : d.id ≡ next_delivery (at c past) = t.begins-id d fresh is in
        by-bool (starts e)
        (λ (s : starts e ≡ true).
        let y = began (at c past) e.step e.reply t.frame (due fair.1) s t.is_sent in
        let same : y.transfer ≡ t.transfer = (let z : ◌≡◌ {A = Option Performative} (Some (heard.Transfer y.transfer)) (Some (heard.Transfer t.transfer)) = sym y.body ∙ t.body in cc z) in
        let handle : y.transfer.handle ≡ handle_of l.ours = ap (λ (t : TransferBody). t.handle) same ∙ t.handle in
        let here = by-handle (at c past) y.transfer.handle (has_number y.number) y.link o.sound y.found (its-handle y.link.ours y.transfer.handle (attached-ours y.link y.attached) y.handle) in
        let there = by-handle (at c past) y.transfer.handle (has_name Sender name) l o.sound was (its-handle l.ours y.transfer.handle (attached-ours l t.attached) handle) in
        let one : y.link ≡ l = same-some (find (has_handle y.transfer.handle) (at c past).links) y.link l here there in
        ours-now c e past t.frame l x d fair lives s t.is_sent y one id (number-of l was))
        (λ (s : starts e ≡ false).
        let none' = no-id t.frame.body t.transfer (later-none (at c past) (next (at c past) e.step) (body_heard e.step) (own_in e.step) e.reply t.frame (step-sending (at c past) e.step e.reply (due fair.1)) (no-start e s) t.is_sent) t.body in
        let named = (t.names fresh).0 in
        absurd (cc (none', named)))

    on : (l : LinkView) → link i c past ≡ Some l → l.left ≡ false → Goes Sender name (at c past) (is_some (body_heard e.step)) l x (sends e) → IsOurs c (e ∷ past) x d
    on l was unleft (rests c' s r aside) = same l was unleft (sym s ∙ is)
    on l was unleft (tells j first p own' dr s r t) = same l was unleft (sym s ∙ is)
    on l was unleft (leaving gone both c' mute) = absurd (cc (gone, stays))
    on l was unleft (sending role-is c' some r t) = transfer l was unleft t l.sending refl
    on l was unleft (hearing j h first p numbers dr s theirs early t) = same l was unleft (sym s ∙ is)

    by : Turn Sender name (at c past) (at c (e ∷ past)) (body_heard e.step) (sends e) → IsOurs c (e ∷ past) x d
    by (away gone why) = absurd (cc (gone, found))
    by (asks b f n deaf s body free to) = joined (link i c past) (attached_by_us b []) n refl (λ l. refl) (λ l. refl) (λ l. refl) to
    by (meets b n heard' s free to) = joined (link i c past) (attached_by_peer b) n refl (λ l. refl) (λ l. refl) (λ l. refl) to
    by (goes l m was to ours' theirs' unleft g) =
        let one = same-some (link i c (e ∷ past)) m x to found in
        on l was (unleft (ap (λ (l : LinkView). l.left) one ∙ stays)) (subst (λ (m : LinkView). Goes Sender name (at c past) (is_some (body_heard e.step)) l m (sends e)) one g)

-- what is unfinished on a link that was not left is of that link, as long as the session is not over
pub ours-known : (c : Config) (past : List Entry) → AllFair c past → Lives past → OursOn c past
ours-known c [] fair lives name x d found stays is = absurd (cc (found))
ours-known c (e ∷ past) fair lives name x d found stays is =
    ours-step c e past fair lives (λ name x d found stays is. ours-known c past fair.0 (lives-goes e past lives).lived name x d found stays is) name x d found stays is
