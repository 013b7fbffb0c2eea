-- The state of its own that an end has of a delivery which it received is the last one that it gave.
use Rattle.std.proofs.Common.{zero, suc, ◌≡◌, ◌⊎◌, inl, inr, ℕ, ◌==◌, Bool, true, false, cond, Option, Some, None, List, [], ◌∷◌, arith, refl, sym, ap, ◌∙◌, subst, find, unwrap_or}
use Rattle.amqp_performatives.specs.declared.bodies.Role.{Role}
use Rattle.amqp_performatives.specs.declared.bodies.Role.TheVariants.{Sender, Receiver}
use Rattle.amqp_performatives.specs.declared.bodies.TransferBody.{TransferBody}
use Rattle.amqp_performatives.specs.declared.performative.Performative.{Performative}
use Rattle.amqp_performatives.specs.declared.performative.Performative.TheVariants as heard
use Rattle.amqp_frames.specs.declared.frame.Frame.{Frame}
use Rattle.amqp_events.specs.Event.{Item, PassesOver}
use Rattle.amqp_events.specs.Joined.{Delivery}
use Rattle.amqp_events.specs.Named.{is_among}
use Rattle.amqp_events.specs.Since.{or_earlier}
use Rattle.amqp_events.specs.Unsettled.{begins, says_local}
use Rattle.amqp_rules.specs.declared.config.Config.{Config}
use Rattle.amqp_rules.specs.declared.op.Op.TheVariants as own
use Rattle.amqp_rules.specs.View.{LinkView, View, has_peer_handle, next_delivery, rcv_mode}
use Rattle.amqp_rules.specs.Deliveries.{belongs_to, heard_of, left_by_peer, received_by_body, transfer_on, transferred}
use Rattle.amqp_laws.specs.declared.entry.Entry.{Entry}
use Rattle.amqp_laws.specs.declared.entry.Step.{Step}
use Rattle.amqp_laws.specs.declared.entry.Step.TheVariants.{Opened, Own, Heard}
use Rattle.amqp_laws.specs.Live.{live}
use Rattle.amqp_laws.specs.At.{at, received_by}
use Rattle.amqp_pair_laws.proofs.Plain.{due}
use Rattle.amqp_pair_laws.specs.Moves.{IsNext, count, said_as}
use Rattle.amqp_pair_laws.specs.Premise.{ids_heard}
use Rattle.amqp_pair_laws.specs.States.{HasWhatItSaid, said_state, state_by}
use Rattle.amqp_pair_laws.specs.World.{IsFair, Moves, World, frame_in, hears, sends}
use Rattle.amqp_pair_laws.proofs.Lag as lag
use Rattle.amqp_pair_laws.proofs.SlotActs.{Lives, one-more}
use Rattle.amqp_pair_laws.proofs.Windows.{lives-goes}
use Rattle.amqp_pair_laws.proofs.CountsKept.{fair-both}
use Rattle.amqp_pair_laws.proofs.Ids.{ids-known}
use Rattle.amqp_pair_laws.proofs.Members.{In, Stayed}
use Rattle.amqp_pair_laws.proofs.HeldSteps.{held-step}
use Rattle.amqp_pair_laws.proofs.Fresh.{next-fresh}
use Rattle.amqp_pair_laws.proofs.Closed.{began-here, heard-body', own-begins, starts-there, wire-small}
use Rattle.amqp_pair_laws.proofs.SaidKnown.{every-in, unsaid}

-- # What a step says

transfer-mute : (t : TransferBody) (i : Item) (o : Option LinkView) → says_local i (transfer_on t o) ≡ None
transfer-mute t i None = refl
transfer-mute t i (Some l) = by l.left
  where
    on : (o : Option Delivery) → says_local i (belongs_to l.number l.waiting (transferred (rcv_mode l) t []) t.state o) ≡ None
    on None = refl
    on (Some d) = refl

    by : (left : Bool) → says_local i (cond left (PassesOver t.delivery_id) (belongs_to l.number l.waiting (transferred (rcv_mode l) t []) t.state l.receiving)) ≡ None
    by true = refl
    by false = on l.receiving

body-mute : (v : View) (body : Option Performative) (i : Item) → says_local i (received_by_body v body) ≡ None
body-mute v (Some (heard.Transfer t)) i = transfer-mute t i (find (has_peer_handle t.handle) v.links)
body-mute v (Some (heard.Disposition d)) i = by d.role
  where
    by : (role : Role) → says_local i (heard_of Receiver d role) ≡ None
    by Sender = refl
    by Receiver = refl
body-mute v (Some (heard.Detach d)) i = by (find (has_peer_handle d.handle) v.links)
  where
    by : (o : Option LinkView) → says_local i (left_by_peer o) ≡ None
    by None = refl
    by (Some l) = refl
body-mute v _ i = refl

-- only a disposition of its own
says-as : (v : View) (step : Step) (i : Item) → says_local i (received_by v step) ≡ state_by step i.id
says-as v (Own (own.Dispose Sender first last settled state)) i = refl
says-as v (Own (own.Dispose Receiver first last settled state)) i = refl
says-as v (Heard f) i = body-mute v f.body i
says-as v _ i = refl

heard-none : (step : Step) (f : Frame) (id : ℕ) → frame_in step ≡ Some f → state_by step id ≡ None
heard-none (Opened told) f id is = refl
heard-none (Own op) f id is = absurd (cc (is))
heard-none (Heard g) f id is = refl

-- # The id of a delivery that begins is new, and it has no state of ours

begun-new : (ca cb : Config) (n : ℕ) (a : List Entry) (e : Entry) (b : List Entry) (f : Frame) (u : Item) → World ca cb n a b → Moves cb e b a → Lives b → hears e ≡ Some f → begins (received_by (at cb b) e.step) ≡ Some u → (said_state u.id b ≡ None) × (u.local ≡ None)
begun-new ca cb n a e b f u w m lb heard' is =
    let next' : said_as sends (count hears b) a ≡ Some f = subst (λ (o : Option Frame). IsNext sends hears IsFair o b a) heard' m.next in
    let x = lag.waits sends hears IsFair ca cb n a b f w next' in
    let tight : count sends x.before ≡ count hears b = x.tight in
    let before = lag.cut sends hears IsFair ca cb x.moves x.entry x.before b x.world (omega (arith, tight)) in
    let m1 = lag.moved sends hears IsFair ca cb (suc x.moves) x.entry x.before b x.world in
    let now : said_as sends (count hears b) (x.entry ∷ x.before) ≡ Some f = (let t : (count sends x.before == count hears b) ≡ true = grind (arith, tight) in let s = x.sent in rw (t, s) refl) in
    let m2 : Moves cb e b (x.entry ∷ x.before) = record { fair = m.fair; next = subst (λ (o : Option Frame). IsNext sends hears IsFair o b (x.entry ∷ x.before)) (sym heard') now } in
    let fair = fair-both ca cb x.moves x.before b before in
    let z = began-here (at cb b) f.body u (ap begins (sym (heard-body' (at cb b) e.step f heard')) ∙ is) in
    let s = starts-there ca cb x.moves x.entry x.before e b f m1 m2 lb x.sent heard' u z in
    let id = next_delivery (at ca x.before) in
    let new : is_among (ids_heard (live b)) id ≡ false = ap (λ ids. is_among ids id) (ids-known ca cb x.moves x.before b (record { world = before; tight = tight }) lb) ∙ next-fresh ca x.before fair.0 in
    let same : z.transfer ≡ s.began'.transfer = (let k : ◌≡◌ {A = Option Performative} (Some (heard.Transfer z.transfer)) (Some (heard.Transfer s.began'.transfer)) = sym z.body-is ∙ s.began'.body in cc k) in (
      ap (λ id. said_state id b) s.id ∙ (unsaid cb b id fair.1 (wire-small _) new).0,
      ap (λ (i : Item). i.local) z.item ∙ z.bare (ap (λ (t : TransferBody). unwrap_or t.resume false) (same ∙ s.began'.transfer-is)),
    )

-- # Along a world

abbrev pub HasSaid : Config → List Entry → Type 0
HasSaid c past = Lives past → (u : Item) → In u (at c past).received → u.local ≡ said_state u.id past

said-more : (ca cb : Config) (n : ℕ) (a : List Entry) (e : Entry) (b : List Entry) → World ca cb n a b → Moves cb e b a → HasSaid cb b → HasSaid cb (e ∷ b)
said-more ca cb n a e b w m k lives u there =
    let lb = (lives-goes e b lives).lived in
    let o = one-more (Sender, []) cb e b ((fair-both ca cb n a b w).1, m.fair) in
    let h = held-step (at cb b) e.step e.reply (due m.fair) lb in
    by lb (h.received u (subst (λ (v : View). In u v.received) o.goes_on there))
  where
    v : View
    v = at cb b

    begun : Lives b → begins (received_by v e.step) ≡ Some u → (o : Option Frame) → hears e ≡ o → u.local ≡ said_state u.id (e ∷ b)
    begun lb is None deaf = absurd (own-begins v e.step u deaf is)
    begun lb is (Some f) heard' =
        let new = begun-new ca cb n a e b f u w m lb heard' is in
        new.1 ∙ sym (ap (λ o. or_earlier o (said_state u.id b)) (heard-none e.step f u.id heard') ∙ new.0)

    by : Lives b → Stayed (received_by v e.step) v.received u ⊎ (begins (received_by v e.step) ≡ Some u) → u.local ≡ said_state u.id (e ∷ b)
    by lb (inl s) =
        s.local ∙ ap (λ o. or_earlier o s.item.local) (says-as v e.step s.item) ∙ ap (or_earlier (state_by e.step s.item.id)) (k lb s.item s.there) ∙ ap (λ id. said_state id (e ∷ b)) (sym s.same.id)
    by lb (inr is) = begun lb is (hears e) refl

pub has-said : (ca cb : Config) (n : ℕ) (a b : List Entry) → World ca cb n a b → HasSaid cb b
has-said ca cb zero [] [] w = λ lives u there. absurd there
has-said ca cb zero (e ∷ a) b w = absurd (w.0)
has-said ca cb zero [] (e ∷ b) w = absurd (w.1)
has-said ca cb (suc n) [] b (inl w) = absurd w
has-said ca cb (suc n) (e ∷ a) b (inl w) = has-said ca cb n a b w.0
has-said ca cb (suc n) a [] (inr w) = absurd w
has-said ca cb (suc n) a (e ∷ b) (inr w) = said-more ca cb n a e b w.0 w.1 (has-said ca cb n a b w.0)

pub has-what-it-said : HasWhatItSaid
has-what-it-said ca cb n a b w lives = every-in (λ i. i.local ≡ said_state i.id a) (at ca a).received (has-said cb ca n b a (lag.swapped sends hears IsFair ca cb n a b w) lives)
