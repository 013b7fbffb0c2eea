-- What one accepted step does to the counts of the link of a role and a name, and what of it the other end is told.
use Rattle.std.proofs.Common.{length, unwrap_or, ◌≡◌, ◌≤◌, ◌<◌, ◌⊎◌, inl, ℕ, ◌+◌, ◌==◌, ◌&&◌, Bool, true, false, not, cond, Option, Some, None, List, refl, ◌∙◌, find, is_some, nat_eq, option_map, []}
use Rattle.std.specs.Cmp.Lexicographic.{pointwise}
use Rattle.amqp_flow.specs.Serial.{wire}
use Rattle.amqp_flow.specs.Credit.{CreditView, delivery_begun, delivery_count}
use Rattle.amqp_flow.specs.Receiver.{has_open_drain}
use Rattle.amqp_performatives.specs.declared.bodies.Role.{Role}
use Rattle.amqp_performatives.specs.declared.bodies.Role.TheVariants.{Sender, Receiver}
use Rattle.amqp_performatives.specs.declared.bodies.AttachBody.{AttachBody}
use Rattle.amqp_performatives.specs.declared.bodies.DetachBody.{DetachBody}
use Rattle.amqp_performatives.specs.declared.bodies.FlowBody.{FlowBody}
use Rattle.amqp_performatives.specs.declared.bodies.TransferBody.{TransferBody}
use Rattle.amqp_performatives.specs.declared.performative.Performative.{Performative}
use Rattle.amqp_performatives.specs.declared.performative.Performative.TheVariants as heard
use Rattle.amqp_frames.specs.declared.frame.Frame.{Frame}
use Rattle.amqp_events.specs.Joined.{Delivery, next_unfinished, next_delivery as joined_to}
use Rattle.amqp_rules.specs.View.{is_too_long, max_of, next_delivery, EndView, LinkView, SendingView, View, handle_of, has_name, is_attached, new_link, same_role, snd_of}
use Rattle.amqp_rules.specs.Attach.{attached_by_peer, attached_by_us}
use Rattle.amqp_rules.specs.Deliveries.{transferred}
use Rattle.amqp_rules.specs.Start.{mode_forbids}
use Rattle.amqp_laws.specs.Transfers.{size_of}
use Rattle.amqp_laws.proofs.Twice.{and-both}
use Rattle.amqp_pair_laws.proofs.Doing.{IsOther}
use Rattle.amqp_pair_laws.proofs.Named.{or_this}
use Rattle.amqp_pair_laws.proofs.SlotOf.{slot_of}

abbrev pub both_ends : LinkView → Bool
both_ends l = is_some l.ours && is_some l.theirs

-- # What is told

-- a frame on the link that has this handle
abbrev pub by_handle : ℕ → DetachBody
by_handle h = record { handle = h; closed = None; error = None }

abbrev pub IsAsideFlow : Role → List ℕ → View → Option ℕ → Type 0
IsAsideFlow role name v None = Unit {0}
IsAsideFlow role name v (Some h) = IsOther role name v (by_handle h)

abbrev pub IsAsideIn : Role → List ℕ → View → Option Performative → Type 0
IsAsideIn role name v (Some (heard.Attach b)) = same_role role b.role && pointwise nat_eq name b.name ≡ false
IsAsideIn role name v (Some (heard.Flow w)) = IsAsideFlow role name v w.handle
IsAsideIn role name v (Some (heard.Transfer t)) = IsOther role name v (by_handle t.handle)
IsAsideIn role name v (Some (heard.Detach d)) = IsOther role name v (by_handle d.handle)
IsAsideIn role name v _ = Unit {0}

-- no frame is sent on the link
abbrev pub IsAside : Role → List ℕ → View → Option Frame → Type 0
IsAside role name v None = Unit {0}
IsAside role name v (Some f) = IsAsideIn role name v f.body

-- a flow or a transfer
abbrev pub is_counted : Option Performative → Bool
is_counted (Some (heard.Flow w)) = true
is_counted (Some (heard.Transfer t)) = true
is_counted _ = false

abbrev pub IsUncounted : Option Frame → Type 0
IsUncounted None = Unit {0}
IsUncounted (Some f) = is_counted f.body ≡ false

-- a flow tells the link's numbers as they are after the step
pub record TellsFlow (l m : LinkView) (sent : Option Frame) : Type 0 where
  pub frame : Frame
  pub flow : FlowBody
  pub attached : is_attached l ≡ true
  pub stays : m.left ≡ false
  pub is_sent : sent ≡ Some frame
  pub body : frame.body ≡ Some (heard.Flow flow)
  pub handle : flow.handle ≡ Some (handle_of l.ours)
  pub count : flow.delivery_count ≡ Some (delivery_count m.credit)
  pub credit : flow.link_credit ≡ Some m.credit.credit
  -- of a receiver, it asks to drain where a drain is open
  pub drains : m.role ≡ Receiver → has_open_drain m.credit ≡ true → flow.drain ≡ Some true

-- the mode of the sender's attach allows what an unfinished delivery says of being settled, and it was not brought in
abbrev pub Fits : Option EndView → Option Delivery → Type 0
Fits o None = Unit {0}
Fits o (Some d) = (mode_forbids (snd_of o) d.settled ≡ false) × (d.resumed ≡ false)

-- the unfinished delivery of the end that hears a transfer stays that of the end that sends it
abbrev pub Carries : Option EndView → TransferBody → List ℕ → Option SendingView → Option SendingView → Type 0
Carries o t payload s s' =
    (mode : ℕ) (d : Option Delivery) → s ≡ option_map size_of d → Fits o d
    → (s' ≡ option_map size_of (next_unfinished (transferred mode t payload) d)) × Fits o (next_unfinished (transferred mode t payload) d)

-- a transfer is sent; id is that of the delivery that begins next
pub record TellsTransfer (id : ℕ) (l m : LinkView) (sent : Option Frame) : Type 0 where
  pub frame : Frame
  pub transfer : TransferBody
  pub attached : is_attached l ≡ true
  pub is_sent : sent ≡ Some frame
  pub body : frame.body ≡ Some (heard.Transfer transfer)
  pub handle : transfer.handle ≡ handle_of l.ours
  pub carries : Carries l.ours transfer frame.payload l.sending m.sending
  -- it has an id and a tag just where it begins a delivery
  pub names : is_some l.sending ≡ false → (transfer.delivery_id ≡ Some id) × (is_some transfer.delivery_tag ≡ true)
  pub later : is_some l.sending ≡ true → transfer.delivery_id ≡ None
  pub no-mode : transfer.rcv_settle_mode ≡ None
  -- what is unfinished after it is the delivery that begins, or the one that was unfinished before
  pub begins-id : (d : SendingView) → is_some l.sending ≡ false → m.sending ≡ Some d → d.id ≡ id
  pub keeps-id : (c d : SendingView) → l.sending ≡ Some c → m.sending ≡ Some d → d.id ≡ c.id
  -- unless it aborts the delivery, the mode allows what is said of being settled, and the payloads are not too long together
  pub allows : (mode : ℕ) (d : Option Delivery) → l.sending ≡ option_map size_of d → Fits l.ours d → unwrap_or transfer.aborted false ≡ false → mode_forbids (snd_of l.ours) (joined_to (transferred mode transfer frame.payload) d).settled ≡ false
  pub short : (mode : ℕ) (d : Option Delivery) → l.sending ≡ option_map size_of d → Fits l.ours d → unwrap_or transfer.aborted false ≡ false → is_too_long (max_of l.theirs) (length (joined_to (transferred mode transfer frame.payload) d).payload) ≡ false

-- # Numbers: j deliveries pass, and the credit goes from c to c'

abbrev pub OwnNumbers : Role → ℕ → ℕ → ℕ → Type 0
OwnNumbers Sender j c c' = c ≡ c' + j
OwnNumbers Receiver j c c' = (j ≡ 0) × ((c ≤ c') × (c' ≤ 2147483647))

abbrev pub HeardNumbers : Role → ℕ → ℕ → ℕ → Type 0
HeardNumbers Sender j c c' = j ≡ 0
HeardNumbers Receiver j c c' = c ≡ c' + j

-- # What becomes of a drain: c before the step, c' after it

-- a sender that has credit left still wishes what it wished
abbrev pub OwnDrain : Role → CreditView → CreditView → Type 0
OwnDrain Sender c c' = 0 < c'.credit → c'.drain ≡ c.drain
OwnDrain Receiver c c' = Unit {0}

-- a receiver still asks what its last grant asked
abbrev pub HeardDrain : Role → CreditView → CreditView → Type 0
HeardDrain Sender c c' = Unit {0}
HeardDrain Receiver c c' = c'.drain ≡ c.drain

-- the link is l before the step, and m after it
pub data Goes (role : Role) (name : List ℕ) (v : View) (hears : Bool) (l m : LinkView) (sent : Option Frame) : Type 0 where
  rests : m.credit ≡ l.credit → m.sending ≡ l.sending → m.receiving ≡ l.receiving → IsAside role name v sent → Goes role name v hears l m sent
  -- as rests, with a flow
  tells : (j : ℕ) → m.credit.first_count ≡ l.credit.first_count → wire m.credit.passed ≡ wire (l.credit.passed + j) → OwnNumbers role j l.credit.credit m.credit.credit → OwnDrain role l.credit m.credit
      → m.sending ≡ l.sending → m.receiving ≡ l.receiving → TellsFlow l m sent → Goes role name v hears l m sent
  leaving : m.left ≡ true → both_ends l ≡ true → m.credit ≡ l.credit → IsUncounted sent → Goes role name v hears l m sent
  sending : role ≡ Sender → m.credit ≡ cond (is_some l.sending) l.credit (delivery_begun l.credit) → (is_some l.sending ≡ false → (l.credit.credit == 0) ≡ false) → m.receiving ≡ l.receiving
      → TellsTransfer (next_delivery v) l m sent → Goes role name v hears l m sent
  hearing : (j : ℕ) → hears ≡ true → m.credit.first_count ≡ l.credit.first_count → wire m.credit.passed ≡ wire (l.credit.passed + j) → HeardNumbers role j l.credit.credit m.credit.credit → HeardDrain role l.credit m.credit
      → m.sending ≡ l.sending → is_some l.theirs ≡ true → (is_some l.ours ≡ false → (j ≡ 0) × (m.receiving ≡ l.receiving)) → IsAside role name v sent ⊎ TellsFlow l m sent → Goes role name v hears l m sent

pub data Turn (role : Role) (name : List ℕ) (v after : View) (hears : Option Performative) (sent : Option Frame) : Type 0 where
  away : find (has_name role name) after.links ≡ None → ((find (has_name role name) v.links ≡ None) × IsAside role name v sent) ⊎ IsUncounted sent → Turn role name v after hears sent
  asks : (b : AttachBody) (f : Frame) (k : ℕ) → hears ≡ None → sent ≡ Some f → f.body ≡ Some (heard.Attach b) → (slot_of role name v.links).ours ≡ None
      → find (has_name role name) after.links ≡ Some (attached_by_us b [] (or_this (find (has_name role name) v.links) (new_link k role name))) → Turn role name v after hears sent
  meets : (b : AttachBody) (k : ℕ) → hears ≡ Some (heard.Attach b) → sent ≡ None → (slot_of role name v.links).theirs ≡ None
      → find (has_name role name) after.links ≡ Some (attached_by_peer b (or_this (find (has_name role name) v.links) (new_link k role name))) → Turn role name v after hears sent
  goes : (l m : LinkView) → find (has_name role name) v.links ≡ Some l → find (has_name role name) after.links ≡ Some m → m.ours ≡ l.ours → m.theirs ≡ l.theirs → (m.left ≡ false → l.left ≡ false)
      → Goes role name v (is_some hears) l m sent → Turn role name v after hears sent

-- an attached link is not left
pub attached-stays : (l : LinkView) → is_attached l ≡ true → l.left ≡ false
attached-stays l h = by l.left (and-both (both_ends l) (not l.left) h).1
  where
    by : (b : Bool) → not b ≡ true → b ≡ false
    by true h = absurd (cc (h))
    by false h = refl

-- the link is as it was
pub rest-turn : (role : Role) (name : List ℕ) (v after : View) (hears : Option Performative) (sent : Option Frame) → find (has_name role name) after.links ≡ find (has_name role name) v.links
    → IsAside role name v sent → Turn role name v after hears sent
rest-turn role name v after hears sent same aside = by (find (has_name role name) v.links) refl
  where
    by : (o : Option LinkView) → find (has_name role name) v.links ≡ o → Turn role name v after hears sent
    by None e = away (same ∙ e) (inl (e, aside))
    by (Some l) e = goes l l e (same ∙ e) refl refl (λ h. h) (rests refl refl refl aside)
