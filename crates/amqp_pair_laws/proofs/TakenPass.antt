-- A frame passes, and what was taken and waits at the one end is what was sent complete at the other; so it is in every tight world.
use Rattle.std.proofs.Common.{suc, ◌≡◌, ◌⊎◌, inl, inr, ◌<◌, ℕ, ◌+◌, ◌==◌, ◌++◌, Bool, true, false, cond, Option, Some, None, List, [], ◌∷◌, arith, refl, sym, ap, ◌∙◌, subst, find, map, is_some, option_map}
use Rattle.std.proofs.lemmas.Bool.{eq-eqb, eqb-true}
use Rattle.amqp_performatives.specs.declared.bodies.Role.{Role}
use Rattle.amqp_performatives.specs.declared.bodies.Role.TheVariants.{Sender, Receiver}
use Rattle.amqp_performatives.specs.declared.bodies.AttachBody.{AttachBody}
use Rattle.amqp_performatives.specs.declared.bodies.TransferBody.{TransferBody}
use Rattle.amqp_performatives.specs.declared.performative.Performative.{Performative}
use Rattle.amqp_performatives.specs.declared.performative.Performative.TheVariants as heard
use Rattle.amqp_frames.specs.declared.frame.Frame.{Frame}
use Rattle.amqp_events.specs.Joined.{Delivery, complete, unfinished}
use Rattle.amqp_rules.specs.declared.config.Config.{Config}
use Rattle.amqp_rules.specs.declared.op.Op.{Op}
use Rattle.amqp_rules.specs.declared.reply.Reply.{Reply}
use Rattle.amqp_rules.specs.View.{EndView, LinkView, View, change_first, has_name, has_number, has_peer_handle, new_link}
use Rattle.amqp_rules.specs.Attach.{attached_by_peer}
use Rattle.amqp_rules.specs.PeerTransfer.{heard_on, received_on}
use Rattle.amqp_rules.specs.Deliveries.{transferred}
use Rattle.amqp_rules.specs.Sound.{IsSound}
use Rattle.amqp_rules.proofs.Listed.{by-bool}
use Rattle.amqp_laws.specs.declared.entry.Entry.{Entry}
use Rattle.amqp_laws.specs.declared.entry.Step.{Step}
use Rattle.amqp_laws.specs.declared.entry.Step.TheVariants.{Own}
use Rattle.amqp_laws.specs.Said.{body_heard, own_in, transfer_in}
use Rattle.amqp_laws.specs.At.{at}
use Rattle.amqp_laws.specs.Lawful.{next}
use Rattle.amqp_pair_laws.proofs.Plain.{due}
use Rattle.amqp_pair_laws.specs.Moves.{count}
use Rattle.amqp_pair_laws.specs.Passing.{content_of, sent_now, sent_on, taken_in, taken_on}
use Rattle.amqp_pair_laws.specs.World.{IsFair, Moves, Tight, World, frame_among, frame_in, hears, sends}
use Rattle.amqp_pair_laws.proofs.Lag as lag
use Rattle.amqp_pair_laws.proofs.Slots.{kept}
use Rattle.amqp_pair_laws.proofs.SlotOf.{shape, slot_of}
use Rattle.amqp_pair_laws.proofs.Named.{changed-there, found-passes, name-self, named-found, named-is, or_this}
use Rattle.amqp_pair_laws.proofs.Sends.{Sending, begins, flows, is_carrier, others, silent, step-sending, transfers}
use Rattle.amqp_pair_laws.proofs.SlotActs.{AllFair, IsMet, Lives, by-peer-handle, is-met, one-more, slots-known}
use Rattle.amqp_pair_laws.proofs.Windows.{lives-goes}
use Rattle.amqp_pair_laws.proofs.Opens.{body-of, heard-body}
use Rattle.amqp_pair_laws.proofs.Over.{behind-lives}
use Rattle.amqp_pair_laws.proofs.Turns.{Turn, asks, away, goes, meets}
use Rattle.amqp_pair_laws.proofs.TurnHeard.{transfer-keeps}
use Rattle.amqp_pair_laws.proofs.Tallies.{link, turn-of}
use Rattle.amqp_pair_laws.proofs.CountsKnown.{met-fresh, same-some}
use Rattle.amqp_pair_laws.proofs.CountsKept.{fair-both}
use Rattle.amqp_pair_laws.proofs.CountsPass.{kept-left-none, kept-left-some, transfer-open}
use Rattle.amqp_pair_laws.proofs.LinkSteps.{KeepsKeys, by-number, changed-apart, one-number, sees-name}
use Rattle.amqp_pair_laws.proofs.ReadySteps.{From, New, ReadyStep, found-in, hears as hears', ready-step, rests, takes}
use Rattle.amqp_pair_laws.proofs.Unused.{IsUsed, NoneTaken, Transfers, carries, comes, its-ours, its-theirs, none-sent-on, none-taken-on, sent-none}
use Rattle.amqp_pair_laws.proofs.TakenKnown.{FirstWas, TakenAgree, Whole, asked, first-was, other-rests, other-was, taken-ahead, taken-quiet, was, whole-hears, whole-rests, whole-still}

-- who sends a transfer
pub sends-transfer : (v after : View) (heard' : Option Performative) (op : Option Op) (reply : Reply) (f : Frame) (t : TransferBody) → Sending v after heard' op reply → frame_among reply.sent ≡ Some f → f.body ≡ Some (heard.Transfer t) → is_carrier op ≡ true
sends-transfer v after heard' op reply f t (silent q) sent is = absurd (cc (q, sent))
sends-transfer v after heard' op reply f t (transfers b payload deaf mapped room named carries' one) sent is = carries'
sends-transfer v after heard' op reply f t (flows w b mapped open' begun numbers one) sent is = let k = body-of reply.sent (heard.Flow w) [] f one sent in absurd (cc (k, is))
sends-transfer v after heard' op reply f t (begins w deaf is-begin unsent open' takes' comes' one) sent is = let k = body-of reply.sent (heard.Begin w) [] f one sent in absurd (cc (k, is))
sends-transfer v after heard' op reply f t (others p payload none w beside one) sent is =
    let k = body-of reply.sent p payload f one sent in
    let some : transfer_in (Some p) ≡ Some t = ap transfer_in (sym k ∙ is) in
    absurd (cc (none, some))

no-own : (step : Step) (op : Op) (f : Frame) → step ≡ Own op → frame_in step ≡ Some f → ⊥
no-own step op f is heard' = let none : frame_in step ≡ None = ap frame_in is in absurd (cc (none, heard'))

transfer-some : (o : Option Performative) (t : TransferBody) → transfer_in o ≡ Some t → o ≡ Some (heard.Transfer t)
transfer-some (Some (heard.Transfer b)) t h = let one : b ≡ t = cc h in ap (λ (b : TransferBody). Some (heard.Transfer b)) one
transfer-some _ t h = absurd (cc (h))

module _ (ca cb : Config) (n : ℕ) (e : Entry) (a : List Entry) (e' : Entry) (b : List Entry) (f : Frame) (t : Tight ca cb n a b) (m : Moves ca e a b) (sent : sends e ≡ Some f) (heard'' : hears e' ≡ Some f) (k : TakenAgree ca cb a b)
    (lb : Lives b) (la : Lives a) (fa : AllFair ca (e ∷ a)) (fb : AllFair cb (e' ∷ b)) (name : List ℕ) where
  abbrev va : View
  va = at ca a

  abbrev vb : View
  vb = at cb b

  abbrev after : List LinkView
  after = (next vb e'.step).links

  body-is : body_heard e'.step ≡ f.body
  body-is = heard-body e'.step f heard''

  -- the links of both ends were there before
  module _ (x y y' : LinkView) (fx : link (Sender, name) ca a ≡ Some x) (fy : link (Receiver, name) cb b ≡ Some y) (to : link (Receiver, name) cb (e' ∷ b) ≡ Some y') (number : y'.number ≡ y.number) (unleft : y'.left ≡ false)
      (w : y.left ≡ false → Whole x.number a y b) where
    sa : IsSound va
    sa = (one-more (Sender, []) ca e a fa).sound

    sb : IsSound vb
    sb = (one-more (Sender, []) cb e' b fb).sound

    to' : find (has_name Receiver name) after ≡ Some y'
    to' = ap (λ (v : View). find (has_name Receiver name) v.links) (sym (one-more (Sender, []) cb e' b fb).goes_on) ∙ to

    -- no transfer passes
    pass-still : is_carrier (own_in e.step) ≡ false → Whole x.number (e ∷ a) y' (e' ∷ b)
    pass-still none = whole-still x.number e a y' (e' ∷ b) (sent-none x.number e none) (other-rests x.number a cb e' b name y y' lb fb fy to number unleft (mute (transfer_in f.body) refl) w)
      where
        mute : (o : Option TransferBody) → transfer_in f.body ≡ o → transfer_in (body_heard e'.step) ≡ None
        mute None h = ap transfer_in body-is ∙ h
        mute (Some t0) h =
            let yes = sends-transfer va (next va e.step) (body_heard e.step) (own_in e.step) e.reply f t0 (step-sending va e.step e.reply (due m.fair)) sent (transfer-some f.body t0 h) in
            absurd (cc (yes, none))

    -- one passes
    module _ (z : Transfers va e f) where
      abbrev x0 : LinkView
      x0 = z.link'

      abbrev t0 : TransferBody
      t0 = z.transfer

      here : link (Sender, x0.name) ca a ≡ Some x0
      here = named-found Sender x0.name (has_number z.number) va.links x0 sa.links.names z.found (ap (λ (r : Role). has_name r x0.name x0) (sym z.role-is) ∙ name-self x0.role x0.name)

      met : IsMet Receiver x0.name vb t0.handle
      met = is-met Receiver x0.name vb x0 t0.handle sb z.attached z.handle (ap (λ o. kept (shape o)) (sym here) ∙ (slots-known ca cb n a b t lb Sender x0.name).asked)

      number-is : z.number ≡ x0.number
      number-is = sym (eqb-true x0.number z.number (found-passes (has_number z.number) va.links x0 z.found))

      -- on these links
      on-these : has_peer_handle t0.handle y ≡ true → after ≡ change_first (has_peer_handle t0.handle) (heard_on t0 f.payload) vb.links → ((k : ℕ) → taken_in k e'.reply.given ≡ []) → Whole x.number (e ∷ a) y' (e' ∷ b)
      on-these met' to-l none =
          let found = by-peer-handle vb t0.handle (has_name Receiver name) y sb fy met' in
          let one : met.link ≡ y = same-some (find (has_peer_handle t0.handle) vb.links) met.link y met.found found in
          let n1 = named-is Receiver x0.name met.link (found-passes (has_name Receiver x0.name) vb.links met.link met.named) in
          let n2 = named-is Receiver name y (found-passes (has_name Receiver name) vb.links y fy) in
          let names' : x0.name ≡ name = n1.name_is ∙ ap (λ (l : LinkView). l.name) one ∙ sym n2.name_is in
          let same : x0 ≡ x = same-some (link (Sender, name) ca a) x0 x (ap (λ n. link (Sender, n) ca a) (sym names') ∙ here) fx in
          let numbered : z.number ≡ x.number = number-is ∙ ap (λ (l : LinkView). l.number) same in
          let now : sent_now x.number e ≡ Some (transferred 0 t0 f.payload) = z.now x.number ∙ (let yes = eq-eqb z.number x.number numbered in rw yes refl) in
          let there = ap (find (has_name Receiver name)) to-l ∙ changed-there Receiver name (has_peer_handle t0.handle) (heard_on t0 f.payload) vb.links y (transfer-keeps t0 f.payload).named fy found in
          let linked : heard_on t0 f.payload y ≡ y' = same-some (find (has_name Receiver name) after) (heard_on t0 f.payload y) y' there to' in
          let stays : y.left ≡ false = sym (kept-left y y.left refl) ∙ ap (λ (l : LinkView). l.left) linked ∙ unleft in
          subst (λ (y' : LinkView). Whole x.number (e ∷ a) y' (e' ∷ b)) (sym (transfer-open t0 f.payload y stays) ∙ linked) (whole-hears x.number e a e' y b t0 f.payload now (none y.number) (w stays))
        where
          kept-left : (y : LinkView) (b : Bool) → y.left ≡ b → (heard_on t0 f.payload y).left ≡ y.left
          kept-left y c h = by y.left
            where
              by : (b : Bool) → (cond b y (received_on t0 f.payload y)).left ≡ y.left
              by true = refl
              by false = refl

      -- on others
      on-others : has_peer_handle t0.handle y ≡ false → after ≡ change_first (has_peer_handle t0.handle) (heard_on t0 f.payload) vb.links → ((k : ℕ) → taken_in k e'.reply.given ≡ []) → Whole x.number (e ∷ a) y' (e' ∷ b)
      on-others unmet to-l none =
          let there = ap (find (has_name Receiver name)) to-l ∙ changed-apart (has_name Receiver name) (has_peer_handle t0.handle) (heard_on t0 f.payload) vb.links y (sees-name Receiver name) keeps fy unmet in
          let two : y ≡ y' = same-some (find (has_name Receiver name) after) y y' there to' in
          let now : sent_now x.number e ≡ None = z.now x.number ∙ by-bool (z.number == x.number) (λ (yes : (z.number == x.number) ≡ true). absurd (apart (eqb-true z.number x.number yes))) (λ (no : (z.number == x.number) ≡ false). rw no refl) in
          whole-still x.number e a y' (e' ∷ b) now (subst (λ (y' : LinkView). Whole x.number a y' (e' ∷ b)) two (whole-rests x.number a e' y y b (none y.number) refl refl refl (w (ap (λ (l : LinkView). l.left) two ∙ unleft))))
        where
          keeps : KeepsKeys (heard_on t0 f.payload)
          keeps = record { role = λ l. r l l.left; name = λ l. s l l.left; number = λ l. q l l.left }
            where
              r : (l : LinkView) (b : Bool) → (cond b l (received_on t0 f.payload l)).role ≡ l.role
              r l true = refl
              r l false = refl

              s : (l : LinkView) (b : Bool) → (cond b l (received_on t0 f.payload l)).name ≡ l.name
              s l true = refl
              s l false = refl

              q : (l : LinkView) (b : Bool) → (cond b l (received_on t0 f.payload l)).number ≡ l.number
              q l true = refl
              q l false = refl

          apart : z.number ≡ x.number → ⊥
          apart numbered =
              let same : x0 ≡ x = one-number va (has_name Sender x0.name) (has_name Sender name) x0 x sa here fx (sym number-is ∙ numbered) in
              let n1 = named-is Sender name x (found-passes (has_name Sender name) va.links x fx) in
              let names' : x0.name ≡ name = ap (λ (l : LinkView). l.name) same ∙ sym n1.name_is in
              let there : link (Receiver, name) cb b ≡ Some met.link = ap (λ n. link (Receiver, n) cb b) (sym names') ∙ met.named in
              let one : met.link ≡ y = same-some (link (Receiver, name) cb b) met.link y there fy in
              let yes : has_peer_handle t0.handle y ≡ true = ap (has_peer_handle t0.handle) (sym one) ∙ found-passes (has_peer_handle t0.handle) vb.links met.link met.found in
              absurd (cc (yes, unmet))

      pass-transfer : Whole x.number (e ∷ a) y' (e' ∷ b)
      pass-transfer = by (ready-step vb e'.step e'.reply (due fb.1) lb sb)
        where
          by : ReadyStep vb (next vb e'.step) e'.step e'.reply.given → Whole x.number (e ∷ a) y' (e' ∷ b)
          by (rests quiet g none) =
              let some : transfer_in (body_heard e'.step) ≡ Some t0 = ap transfer_in (body-is ∙ z.body) in
              absurd (cc (quiet, some))
          by (takes l d ds m' take at-l is to-l g) = absurd (no-own e'.step _ f take heard'')
          by (hears' f1 t1 is body to-l none) =
              let one : f1 ≡ f = same-some (frame_in e'.step) f1 f (ap frame_in is) heard'' in
              let bodies : ◌≡◌ {A = Option Performative} (Some (heard.Transfer t1)) (Some (heard.Transfer t0)) = sym body ∙ ap (λ (f : Frame). f.body) one ∙ z.body in
              let two : t1 ≡ t0 = cc bodies in
              let to-l' : after ≡ change_first (has_peer_handle t0.handle) (heard_on t0 f.payload) vb.links =
              to-l ∙ ap (λ (t : TransferBody). change_first (has_peer_handle t.handle) (heard_on t f1.payload) vb.links) two ∙ ap (λ (f : Frame). change_first (has_peer_handle t0.handle) (heard_on t0 f.payload) vb.links) one in
              by-bool (has_peer_handle t0.handle y) (λ (yes : has_peer_handle t0.handle y ≡ true). on-these yes to-l' none) (λ (no : has_peer_handle t0.handle y ≡ false). on-others no to-l' none)

    pass-was : Whole x.number (e ∷ a) y' (e' ∷ b)
    pass-was = by-bool (is_carrier (own_in e.step)) (λ (yes : is_carrier (own_in e.step) ≡ true). pass-transfer (carries va e f (due m.fair) yes sent)) (λ (no : is_carrier (own_in e.step) ≡ false). pass-still no)

  -- # An attach passes

  heard-none : (k : ℕ) → taken_in k e'.reply.given ≡ []
  heard-none j = by (ready-step vb e'.step e'.reply (due fb.1) lb (one-more (Sender, []) cb e' b fb).sound)
    where
      by : ReadyStep vb (next vb e'.step) e'.step e'.reply.given → taken_in j e'.reply.given ≡ []
      by (rests quiet g none) = none j
      by (takes l d ds m' take at-l is to-l g) = absurd (no-own e'.step _ f take heard'')
      by (hears' f1 t1 is body to-l none) = none j

  fresh-first : (x' : LinkView) → link (Sender, name) ca (e ∷ a) ≡ Some x' → (slot_of Sender name va.links).ours ≡ None → sent_on x'.number a ≡ []
  fresh-first x' to free = by (none-sent-on ca a fa.0 la x'.number)
    where
      was' : From va x' → IsUsed va x'.number its-ours → ⊥
      was' g u =
          let o = one-more (Sender, name) ca e a fa in
          let n1 = named-is Sender name x' (found-passes (has_name Sender name) (at ca (e ∷ a)).links x' to) in
          let l = g.before in
          let named : has_name Sender name l ≡ true = ap (λ (r : Role). has_name r name l) (n1.role_is ∙ g.role) ∙ ap (λ n. has_name l.role n l) (n1.name_is ∙ g.name) ∙ name-self l.role l.name in
          let there = named-found Sender name (has_number x'.number) va.links l o.sound.links.names g.found named in
          let none : l.ours ≡ None = ap (λ o. (shape o).ours) (sym there) ∙ free in
          let some = u.attach l g.found in
          let no : is_some l.ours ≡ false = ap (λ (x : Option EndView). is_some x) none in
          absurd (cc (some, no))

      by : (sent_on x'.number a ≡ []) ⊎ IsUsed va x'.number its-ours → sent_on x'.number a ≡ []
      by (inl none) = none
      by (inr u) =
          let o = one-more (Sender, name) ca e a fa in
          let r = ready-step va e.step e.reply (due fa.1) la o.sound in
          let to'' : find (has_name Sender name) (next va e.step).links ≡ Some x' = ap (λ (v : View). find (has_name Sender name) v.links) (sym o.goes_on) ∙ to in
          absurd (on (comes va (next va e.step) e.step e.reply.given r o.sound x' (found-in (has_name Sender name) (next va e.step).links x' to'')))
        where
          on : From va x' ⊎ New va x' → ⊥
          on (inl g) = was' g u
          on (inr new) = let few : x'.number < va.made = u.made in let at-made : x'.number ≡ va.made = new.number in omega (arith, few, at-made)

  fresh-other : (y' : LinkView) (b' : AttachBody) (j : ℕ) → (o : Option LinkView) → link (Receiver, name) cb b ≡ o → (shape o).theirs ≡ None → y' ≡ attached_by_peer b' (or_this o (new_link j Receiver name)) → link (Receiver, name) cb (e' ∷ b) ≡ Some y'
      → (taken_on y'.number b ≡ []) × (y'.ready ≡ [])
  fresh-other y' b' j (Some l) found free is to = by (none-taken-on cb b fb.0 lb l.number)
    where
      sb : IsSound vb
      sb = (one-more (Sender, []) cb e' b fb).sound

      here : find (has_number l.number) vb.links ≡ Some l
      here = by-number vb (has_name Receiver name) l sb found

      by : NoneTaken cb b l.number ⊎ IsUsed vb l.number its-theirs → (taken_on y'.number b ≡ []) × (y'.ready ≡ [])
      by (inl x) = (ap (λ (y : LinkView). taken_on y.number b) is ∙ x.taken, ap (λ (y : LinkView). y.ready) is ∙ x.ready l here)
      by (inr u) =
          let some = u.attach l here in
          let no : is_some l.theirs ≡ false = ap (λ (x : Option EndView). is_some x) free in
          absurd (cc (some, no))
  fresh-other y' b' j None found free is to = by (none-taken-on cb b fb.0 lb y'.number)
    where
      ready' : y'.ready ≡ []
      ready' = ap (λ (y : LinkView). y.ready) is

      was' : From vb y' → ⊥
      was' g =
          let o = one-more (Receiver, name) cb e' b fb in
          let n1 = named-is Receiver name y' (found-passes (has_name Receiver name) (at cb (e' ∷ b)).links y' to) in
          let l = g.before in
          let named : has_name Receiver name l ≡ true = ap (λ (r : Role). has_name r name l) (n1.role_is ∙ g.role) ∙ ap (λ n. has_name l.role n l) (n1.name_is ∙ g.name) ∙ name-self l.role l.name in
          let there = named-found Receiver name (has_number y'.number) vb.links l o.sound.links.names g.found named in
          absurd (cc (there, found))

      by : NoneTaken cb b y'.number ⊎ IsUsed vb y'.number its-theirs → (taken_on y'.number b ≡ []) × (y'.ready ≡ [])
      by (inl x) = (x.taken, ready')
      by (inr u) =
          let o = one-more (Receiver, name) cb e' b fb in
          let r = ready-step vb e'.step e'.reply (due fb.1) lb o.sound in
          let to'' : find (has_name Receiver name) after ≡ Some y' = ap (λ (v : View). find (has_name Receiver name) v.links) (sym o.goes_on) ∙ to in
          absurd (on (comes vb (next vb e'.step) e'.step e'.reply.given r o.sound y' (found-in (has_name Receiver name) after y' to'')))
        where
          on : From vb y' ⊎ New vb y' → ⊥
          on (inl g) = was' g
          on (inr new) = let few : y'.number < vb.made = u.made in let at-made : y'.number ≡ vb.made = new.number in omega (arith, few, at-made)

  -- nothing passed on the links yet
  pass-asked : (x' y' : LinkView) (b' : AttachBody) → f.body ≡ Some (heard.Attach b') → link (Sender, name) ca (e ∷ a) ≡ Some x' → (slot_of Sender name va.links).ours ≡ None
      → (b'' : AttachBody) (j : ℕ) → (slot_of Receiver name vb.links).theirs ≡ None → link (Receiver, name) cb (e' ∷ b) ≡ Some (attached_by_peer b'' (or_this (link (Receiver, name) cb b) (new_link j Receiver name))) → link (Receiver, name) cb (e' ∷ b) ≡ Some y'
      → Whole x'.number (e ∷ a) y' (e' ∷ b)
  pass-asked x' y' b' body fx free b'' j free' at' fy =
      let one = same-some (link (Receiver, name) cb (e' ∷ b)) y' (attached_by_peer b'' (or_this (link (Receiver, name) cb b) (new_link j Receiver name))) fy at' in
      let z = fresh-other y' b'' j (link (Receiver, name) cb b) refl free' one fy in
      let none = fresh-first x' fx free in
      let now : sent_now x'.number e ≡ None = sent-none x'.number e (by-bool (is_carrier (own_in e.step)) (λ (yes : is_carrier (own_in e.step) ≡ true). (let c = (carries va e f (due m.fair) yes sent).body in absurd (cc (c, body)))) (λ (no : is_carrier (own_in e.step) ≡ false). no)) in
      let sent' : sent_on x'.number (e ∷ a) ≡ [] = rw (now, none) refl in
      let fresh = (met-fresh (Receiver, name) cb e' b b'' j y' fb (link (Receiver, name) cb b) refl free' at' fy).fresh.receiving' in
      record {
        equal = ap (λ xs. (xs ++ taken_in y'.number e'.reply.given) ++ map content_of y'.ready) z.0 ∙ ap (λ xs. xs ++ map content_of y'.ready) (heard-none y'.number) ∙ ap (map content_of) z.1 ∙ ap (λ s. map content_of (complete s)) (sym sent');
        like = ap (option_map plain') fresh ∙ ap (λ s. option_map plain' (unfinished s)) (sym sent');
      }
    where
      plain' : Delivery → Delivery
      plain' d = record d { second = false }

taken-pass : (ca cb : Config) (n : ℕ) (e : Entry) (a : List Entry) (e' : Entry) (b : List Entry) (f : Frame) → World ca cb (suc n) (e ∷ a) b → Tight ca cb n a b → Moves ca e a b → Moves cb e' b (e ∷ a)
    → sends e ≡ Some f → hears e' ≡ Some f → TakenAgree ca cb a b → TakenAgree ca cb (e ∷ a) (e' ∷ b)
taken-pass ca cb n e a e' b f world t m m' sent heard'' k lives name x' y' fx fy ours unleft unleft' = by (first-was ca e a name x' fa la fx ours unleft)
  where
    fa : AllFair ca (e ∷ a)
    fa = (fair-both ca cb (suc n) (e ∷ a) b world).0

    fb : AllFair cb (e' ∷ b)
    fb = ((fair-both ca cb (suc n) (e ∷ a) b world).1, m'.fair)

    lb : Lives b
    lb = (lives-goes e' b lives).lived

    la : Lives a
    la = behind-lives ca cb n a b t lb

    after' : Tight ca cb (suc (suc n)) (e ∷ a) (e' ∷ b)
    after' =
        let all-heard : count sends a ≡ count hears b = t.tight in
        record { world = inr (world, m'); tight = rw (sent, heard'') (ap (λ k. k + 1) all-heard) }

    met : (b' : AttachBody) → f.body ≡ Some (heard.Attach b') → (slot_of Sender name (at ca a).links).ours ≡ None → Turn Receiver name (at cb b) (at cb (e' ∷ b)) (body_heard e'.step) (sends e') → Whole x'.number (e ∷ a) y' (e' ∷ b)
    met b' body free (away gone why) = absurd (cc (gone, fy))
    met b' body free (asks b'' f'' j none s body'' free'' to'') = let some = heard-body e'.step f heard'' ∙ body in absurd (cc (none, some))
    met b' body free (meets b'' j is s free'' to'') = pass-asked ca cb n e a e' b f t m sent heard'' k lb la fa fb name x' y' b' body fx free b'' j free'' to'' fy
    met b' body free (goes l l' found to'' o t' left' g) =
        let one = same-some (link (Receiver, name) cb (e' ∷ b)) l' y' to'' fy in
        let before = slots-known ca cb n a b t lb Sender name in
        let now = slots-known ca cb (suc (suc n)) (e ∷ a) (e' ∷ b) after' lives Sender name in
        let none : l.theirs ≡ None = ap (λ o. (shape o).theirs) (sym found) ∙ sym before.asked ∙ kept-left-none (slot_of Sender name (at ca a).links).left (slot_of Sender name (at ca a).links).ours free in
        let none' : y'.theirs ≡ None = ap (λ (l : LinkView). l.theirs) (sym one) ∙ t' ∙ none in
        let some : x'.ours ≡ y'.theirs = sym (kept-left-some x'.left x'.ours unleft) ∙ ap (λ o. kept (shape o)) (sym fx) ∙ now.asked ∙ ap (λ o. (shape o).theirs) fy in
        let no : is_some x'.ours ≡ false = ap (λ (o : Option EndView). is_some o) (some ∙ none') in
        absurd (cc (no, ours))

    by : FirstWas ca e a name x' → Whole x'.number (e ∷ a) y' (e' ∷ b)
    by (was x found some stays number) =
        let z = other-was ca cb n a e' b name x y' t lb fb found some stays fy unleft' in
        subst (λ (n : ℕ). Whole n (e ∷ a) y' (e' ∷ b)) (sym number)
        (pass-was ca cb n e a e' b f t m sent heard'' k lb la fa fb name x z.link' y' found z.found fy z.number unleft' (λ left'. k lb name x z.link' found z.found some stays left'))
    by (asked b' f' j s body free at') =
        let one = same-some (sends e) f' f s sent in
        met b' (ap (λ (f : Frame). f.body) (sym one) ∙ body) free (turn-of (Receiver, name) cb e' b fb)

taken-kept : lag.IsKept sends hears IsFair TakenAgree
taken-kept =
    record {
      starts = λ ca cb lives name x y f. absurd (cc (f));
      quiet = λ ca cb n e a b known w t m silent' k. taken-quiet ca cb n e a b w t m silent' k;
      ahead = λ ca cb n e a b known w t m deaf k. taken-ahead ca cb n e a b w t deaf k;
      pass = λ ca cb n e a e' b f known w t m m' sent heard'' k. taken-pass ca cb n e a e' b f w t m m' sent heard'' k;
    }

-- where b has heard all that a sent, and its session is not over, what it took on a link, and what waits, is what a sent complete
pub taken-known : (ca cb : Config) (n : ℕ) (a b : List Entry) → Tight ca cb n a b → TakenAgree ca cb a b
taken-known ca cb n a b t = lag.exact sends hears IsFair TakenAgree taken-kept ca cb n a b t
