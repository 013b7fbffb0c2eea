-- A transfer that comes next finds its link, and credit where it begins a delivery.
use Rattle.std.proofs.Common.{suc, length, unwrap_or, ◌≡◌, ◌≤◌, ◌<◌, inl, inr, ℕ, ◌+◌, ◌==◌, Bool, true, false, Option, Some, None, List, [], ◌∷◌, arith, refl, sym, ap, ◌∙◌, subst, find, is_some, option_map}
use Rattle.amqp_performatives.specs.declared.bodies.Role.{Role}
use Rattle.amqp_performatives.specs.declared.bodies.Role.TheVariants.{Sender, Receiver}
use Rattle.amqp_performatives.specs.declared.bodies.TransferBody.{TransferBody}
use Rattle.amqp_performatives.specs.declared.performative.Performative.{Performative}
use Rattle.amqp_performatives.specs.declared.performative.Performative.TheVariants as heard
use Rattle.amqp_frames.specs.declared.frame.Frame.{Frame}
use Rattle.amqp_events.specs.Joined.{Delivery, next_delivery as joined_to}
use Rattle.amqp_rules.specs.declared.config.Config.{Config}
use Rattle.amqp_rules.specs.View.{EndView, LinkView, SendingView, View, handle_of, has_name, has_peer_handle, is_attached, is_over, is_too_long, max_of, next_delivery, opposite, snd_of}
use Rattle.amqp_rules.specs.Deliveries.{transferred}
use Rattle.amqp_rules.specs.Start.{mode_forbids}
use Rattle.amqp_rules.specs.PeerTransfer.{receives}
use Rattle.amqp_rules.specs.Sound.{IsSound}
use Rattle.amqp_laws.specs.declared.entry.Entry.{Entry}
use Rattle.amqp_laws.specs.Said.{body_heard}
use Rattle.amqp_laws.specs.Transfers.{size_of}
use Rattle.amqp_laws.specs.At.{at}
use Rattle.amqp_laws.proofs.Sound.{at-is-sound}
use Rattle.amqp_pair_laws.specs.Moves.{count, said_as}
use Rattle.amqp_pair_laws.specs.World.{World, hears, sends}
use Rattle.amqp_pair_laws.proofs.Slots.{kept}
use Rattle.amqp_pair_laws.proofs.SlotOf.{shape, slot_of}
use Rattle.amqp_pair_laws.proofs.SlotActs.{AllFair, is-met, kept-is, one-more, slots-known}
use Rattle.amqp_pair_laws.proofs.Doing.{IsOther}
use Rattle.amqp_pair_laws.proofs.Named.{name-self, named-found}
use Rattle.amqp_pair_laws.proofs.Opens.{few-by, replayed-by}
use Rattle.amqp_pair_laws.proofs.Over.{behind-lives}
use Rattle.amqp_pair_laws.proofs.Next.{Next, next-of}
use Rattle.amqp_pair_laws.proofs.Turns.{Fits, Goes, IsAside, IsAsideIn, IsUncounted, TellsFlow, TellsTransfer, Turn, asks, away, by_handle, goes, hearing, is_counted, leaving, meets, rests, sending, tells}
use Rattle.amqp_pair_laws.proofs.Tallies.{asks_from, link, tally, turn-of}
use Rattle.amqp_pair_laws.proofs.Counts.{Agreed, Behind}
use Rattle.amqp_pair_laws.proofs.CountsKnown.{answered-there, behind, same-some}
use Rattle.amqp_pair_laws.proofs.CountsKept.{fair-both, role-of}
use Rattle.amqp_pair_laws.proofs.CountsPass.{attached-ends, counts-known}
use Rattle.amqp_pair_laws.proofs.LinkFlowTaken.{one-link}

-- what the end that sends it knows of a transfer, on link l; id is that of the delivery that begins next
pub record Says (id : ℕ) (l : LinkView) (t : TransferBody) (payload : List ℕ) : Type 0 where
  pub names : is_some l.sending ≡ false → (t.delivery_id ≡ Some id) × (is_some t.delivery_tag ≡ true)
  pub later : is_some l.sending ≡ true → t.delivery_id ≡ None
  pub no-mode : t.rcv_settle_mode ≡ None
  pub allows : (mode : ℕ) (d : Option Delivery) → l.sending ≡ option_map size_of d → Fits l.ours d → unwrap_or t.aborted false ≡ false → mode_forbids (snd_of l.ours) (joined_to (transferred mode t payload) d).settled ≡ false
  pub short : (mode : ℕ) (d : Option Delivery) → l.sending ≡ option_map size_of d → Fits l.ours d → unwrap_or t.aborted false ≡ false → is_too_long (max_of l.theirs) (length (joined_to (transferred mode t payload) d).payload) ≡ false

says-of : (id : ℕ) (l m : LinkView) (o : Option Frame) (x : TellsTransfer id l m o) → Says id l x.transfer x.frame.payload
says-of id l m o x = record { names = x.names; later = x.later; no-mode = x.no-mode; allows = x.allows; short = x.short }

says-by : (id : ℕ) (l m : LinkView) (o : Option Frame) (f : Frame) (t : TransferBody) → o ≡ Some f → f.body ≡ Some (heard.Transfer t) → TellsTransfer id l m o → Says id l t f.payload
says-by id l m o f t is body x =
    let one = same-some o x.frame f x.is_sent is in
    let y : ◌≡◌ {A = Option Performative} (Some (heard.Transfer x.transfer)) (Some (heard.Transfer t)) = sym x.body ∙ ap (λ (f : Frame). f.body) one ∙ body in
    let z : x.transfer ≡ t = cc y in
    subst (λ (t : TransferBody). Says id l t f.payload) z (subst (λ (f : Frame). Says id l x.transfer f.payload) one (says-of id l m o x))

-- the link on which it was sent
pub record SentOn (ca : Config) (past : List Entry) (t : TransferBody) (payload : List ℕ) : Type 0 where
  pub link' : LinkView
  pub found : link (link'.role, link'.name) ca past ≡ Some link'
  pub attached : is_attached link' ≡ true
  pub handle : t.handle ≡ handle_of link'.ours
  pub role-is : link'.role ≡ Sender
  pub credit : is_some link'.sending ≡ false → (link'.credit.credit == 0) ≡ false
  pub says : Says (next_delivery (at ca past)) link' t payload

aside-transfer : (role : Role) (name : List ℕ) (v : View) (o : Option Frame) (f : Frame) (t : TransferBody) → o ≡ Some f → f.body ≡ Some (heard.Transfer t) → IsAside role name v o → IsOther role name v (by_handle t.handle)
aside-transfer role name v o f t is body x =
    let y : IsAsideIn role name v f.body = subst (λ (o : Option Frame). IsAside role name v o) is x in
    subst (λ (o : Option Performative). IsAsideIn role name v o) body y

uncounted : (o : Option Frame) (f : Frame) (t : TransferBody) → o ≡ Some f → f.body ≡ Some (heard.Transfer t) → IsUncounted o → ⊥
uncounted o f t is body x =
    let y : is_counted f.body ≡ false = subst (λ (o : Option Frame). IsUncounted o) is x in
    let z : is_counted f.body ≡ true = ap is_counted body in
    absurd (cc (y, z))

no-told : (l m : LinkView) (o : Option Frame) (f : Frame) (t : TransferBody) → o ≡ Some f → f.body ≡ Some (heard.Transfer t) → TellsFlow l m o → ⊥
no-told l m o f t is body x =
    let one = same-some o x.frame f x.is_sent is in
    let y : f.body ≡ Some (heard.Flow x.flow) = ap (λ (f : Frame). f.body) (sym one) ∙ x.body in
    absurd (cc (y, body))

-- by what the step does in the slot of the link
on-slot : (ca : Config) (e : Entry) (past : List Entry) (f : Frame) (t : TransferBody) (l : LinkView) → AllFair ca (e ∷ past) → sends e ≡ Some f → f.body ≡ Some (heard.Transfer t)
    → link (l.role, l.name) ca past ≡ Some l → is_attached l ≡ true → t.handle ≡ handle_of l.ours → SentOn ca past t f.payload
on-slot ca e past f t l fair sent body found attached is = by (turn-of (l.role, l.name) ca e past fair)
  where
    none : IsAside l.role l.name (at ca past) (sends e) → ⊥
    none x = one-link l.role l.name (at ca past) t.handle l (one-more (l.role, l.name) ca e past fair).sound found (name-self l.role l.name) attached is (aside-transfer l.role l.name (at ca past) (sends e) f t sent body x)

    on : (m : LinkView) → Goes l.role l.name (at ca past) (is_some (body_heard e.step)) l m (sends e) → SentOn ca past t f.payload
    on m (rests c s r aside) = absurd (none aside)
    on m (tells j first p own' dr s r x) = absurd (no-told l m (sends e) f t sent body x)
    on m (leaving gone both c mute) = absurd (uncounted (sends e) f t sent body mute)
    on m (sending role-is c some r x) = record { link' = l; found = found; attached = attached; handle = is; role-is = role-is; credit = some; says = says-by (next_delivery (at ca past)) l m (sends e) f t sent body x }
    on m (hearing j h first p numbers dr s theirs early (inl aside)) = absurd (none aside)
    on m (hearing j h first p numbers dr s theirs early (inr x)) = absurd (no-told l m (sends e) f t sent body x)

    by : Turn l.role l.name (at ca past) (at ca (e ∷ past)) (body_heard e.step) (sends e) → SentOn ca past t f.payload
    by (away gone (inl before)) = let x = before.0 in absurd (cc (x, found))
    by (away gone (inr mute)) = absurd (uncounted (sends e) f t sent body mute)
    by (asks b f' k deaf s body' free to) =
        let one = same-some (sends e) f' f s sent in
        let x : f.body ≡ Some (heard.Attach b) = ap (λ (f : Frame). f.body) (sym one) ∙ body' in
        absurd (cc (x, body))
    by (meets b k is' s free to) = absurd (cc (s, sent))
    by (goes l0 m found0 to o t' left' g) =
        let one = same-some (link (l.role, l.name) ca past) l0 l found0 found in
        on m (subst (λ (x : LinkView). Goes l.role l.name (at ca past) (is_some (body_heard e.step)) x m (sends e)) one g)

sent-on : (ca : Config) (e : Entry) (past : List Entry) (f : Frame) (t : TransferBody) → AllFair ca (e ∷ past) → sends e ≡ Some f → f.body ≡ Some (heard.Transfer t) → SentOn ca past t f.payload
sent-on ca e past f t fair sent body = by (turn-of (Sender, []) ca e past fair)
  where
    s : IsSound (at ca past)
    s = (one-more (Sender, []) ca e past fair).sound

    here : (test : LinkView → Bool) (l : LinkView) → find test (at ca past).links ≡ Some l → is_attached l ≡ true → t.handle ≡ handle_of l.ours → SentOn ca past t f.payload
    here test l found attached is = on-slot ca e past f t l fair sent body (named-found l.role l.name test (at ca past).links l s.links.names found (name-self l.role l.name)) attached is

    aside : IsAside Sender [] (at ca past) (sends e) → SentOn ca past t f.payload
    aside x = let y = aside-transfer Sender [] (at ca past) (sends e) f t sent body x in here y.test y.link y.found y.attached y.handle

    on : (l m : LinkView) → link (Sender, []) ca past ≡ Some l → Goes Sender [] (at ca past) (is_some (body_heard e.step)) l m (sends e) → SentOn ca past t f.payload
    on l m found (rests c s' r x) = aside x
    on l m found (tells j first p own' dr s' r x) = absurd (no-told l m (sends e) f t sent body x)
    on l m found (leaving gone both c mute) = absurd (uncounted (sends e) f t sent body mute)
    on l m found (sending role-is c some r x) =
        let one = same-some (sends e) x.frame f x.is_sent sent in
        let y : ◌≡◌ {A = Option Performative} (Some (heard.Transfer x.transfer)) (Some (heard.Transfer t)) = sym x.body ∙ ap (λ (f : Frame). f.body) one ∙ body in
        let z : x.transfer ≡ t = cc y in
        here (has_name Sender []) l found x.attached (ap (λ (t : TransferBody). t.handle) (sym z) ∙ x.handle)
    on l m found (hearing j h first p numbers dr s' theirs early (inl x)) = aside x
    on l m found (hearing j h first p numbers dr s' theirs early (inr x)) = absurd (no-told l m (sends e) f t sent body x)

    by : Turn Sender [] (at ca past) (at ca (e ∷ past)) (body_heard e.step) (sends e) → SentOn ca past t f.payload
    by (away gone (inl x)) = aside x.1
    by (away gone (inr mute)) = absurd (uncounted (sends e) f t sent body mute)
    by (asks b f' k deaf s' body' free to) =
        let one = same-some (sends e) f' f s' sent in
        let x : f.body ≡ Some (heard.Attach b) = ap (λ (f : Frame). f.body) (sym one) ∙ body' in
        absurd (cc (x, body))
    by (meets b k is' s' free to) = absurd (cc (s', sent))
    by (goes l m found to o t' left' g) = on l m found g

pub sizes-none : (s : Option SendingView) (d : Option Delivery) → s ≡ option_map size_of d → d ≡ None → is_some s ≡ false
sizes-none s d e none = ap (λ (s : Option SendingView). is_some s) (e ∙ ap (λ (d : Option Delivery). option_map size_of d) none)

-- the link of the end that hears it
pub record Met (ca cb : Config) (b : List Entry) (f : Frame) (x : Next ca cb b f) (t : TransferBody) : Type 0 where
  pub sent-on' : SentOn ca x.before t f.payload
  pub link' : LinkView
  pub found : find (has_peer_handle t.handle) (at cb b).links ≡ Some link'
  pub named : link (opposite sent-on'.link'.role, sent-on'.link'.name) cb b ≡ Some link'
  pub none : asks_from (opposite sent-on'.link'.role, sent-on'.link'.name) cb (count hears x.before) b ≡ []
  pub ours : is_some link'.ours ≡ true
  pub same-ours : link'.ours ≡ sent-on'.link'.theirs
  pub same-theirs : link'.theirs ≡ sent-on'.link'.ours
  pub receives' : link'.role ≡ Receiver

pub met-by : (ca cb : Config) (b : List Entry) (f : Frame) (x : Next ca cb b f) (t : TransferBody) → f.body ≡ Some (heard.Transfer t) → is_over (at cb b).session ≡ false → Met ca cb b f x t
met-by ca cb b f x t body lives =
    let fair = fair-both ca cb (suc x.moves) (x.entry ∷ x.before) b x.whole in
    let s = sent-on ca x.entry x.before f t fair.0 x.sent body in
    let l = s.link' in
    let sb = at-is-sound cb b (replayed-by cb b fair.1) (few-by cb b fair.1) in
    let slot = slots-known ca cb x.moves x.before b x.tight lives l.role l.name in
    let met = is-met (opposite l.role) l.name (at cb b) l t.handle sb s.attached s.handle (ap (λ o. kept (shape o)) (sym s.found) ∙ slot.asked) in
    let p = attached-ends l s.attached in
    let y = answered-there ca cb x.moves x.before b x.tight lives l.role l.name l s.found p.1.0 p.1.1 in
    let named = met.named in
    record {
      sent-on' = s;
      link' = met.link;
      found = met.found;
      named = named;
      none = y.none;
      ours = ap (λ o. is_some (shape o).ours) (sym named) ∙ y.ours;
      same-ours = ap (λ o. (shape o).ours) (sym named) ∙ its-ours (slot_of (opposite l.role) l.name (at cb b).links).ours l.theirs p.1.0 (λ g is. slot.answered g (ap (λ o. (shape o).theirs) s.found ∙ is) (ap (λ o. (shape o).left) s.found ∙ p.1.1));
      same-theirs = ap (λ o. (shape o).theirs) (sym named) ∙ sym slot.asked ∙ ap (λ o. kept (shape o)) s.found ∙ kept-is l s.attached;
      receives' = role-of (opposite l.role, l.name) cb b met.link named ∙ ap opposite s.role-is;
    }
  where
    its-ours : (o g : Option EndView) → is_some g ≡ true → ((x : EndView) → g ≡ Some x → o ≡ Some x) → o ≡ g
    its-ours o None some answered = absurd (cc (some))
    its-ours o (Some x) some answered = answered x refl

-- the next frame, where it is a transfer, finds the link, on which its end receives
pub link-there : (ca cb : Config) (n : ℕ) (a b : List Entry) (f : Frame) (t : TransferBody) → World ca cb n a b → said_as sends (count hears b) a ≡ Some f → f.body ≡ Some (heard.Transfer t)
    → is_over (at cb b).session ≡ false → option_map receives (find (has_peer_handle t.handle) (at cb b).links) ≡ Some true
link-there ca cb n a b f t w waits body lives =
    let m = met-by ca cb b f (next-of ca cb n a b f w waits) t body lives in
    let o = m.ours in
    let r = m.receives' in
    ap (option_map receives) m.found ∙ ap (λ (b : Bool). Some b) (receives-by m.link' o r)
  where
    receives-by : (l : LinkView) → is_some l.ours ≡ true → l.role ≡ Receiver → receives l ≡ true
    receives-by l o r = rw (o, r) refl

-- the next frame, where it is a first transfer on a link that was not left, finds credit
pub credit-there : (ca cb : Config) (n : ℕ) (a b : List Entry) (f : Frame) (t : TransferBody) (m : LinkView) → World ca cb n a b → said_as sends (count hears b) a ≡ Some f → f.body ≡ Some (heard.Transfer t)
    → is_over (at cb b).session ≡ false → find (has_peer_handle t.handle) (at cb b).links ≡ Some m → m.left ≡ false → m.receiving ≡ None → 0 < m.credit.credit
credit-there ca cb n a b f t m w waits body lives found stays first =
    let x = next-of ca cb n a b f w waits in
    let y = met-by ca cb b f x t body lives in
    let one = same-some (find (has_peer_handle t.handle) (at cb b).links) y.link' m y.found found in
    let s = y.sent-on' in
    let l = s.link' in
    let p = attached-ends l s.attached in
    let named : link (opposite l.role, l.name) cb b ≡ Some m = y.named ∙ ap (λ (l : LinkView). Some l) one in
    let ours : is_some m.ours ≡ true = ap (λ (l : LinkView). is_some l.ours) (sym one) ∙ y.ours in
    let t' = x.tight in
    let la = behind-lives ca cb x.moves x.before b x.tight lives in
    let N = tally (l.role, l.name) ca x.before in
    let K = tally (opposite l.role, l.name) cb b in
    let agreed : Agreed l.role l N m K = counts-known ca cb x.moves x.before b x.tight lives l.role l.name l m s.found named p.0 p.1.1 stays in
    let later : Behind l.role l N m K = behind ca cb x.moves x.before b (λ ca cb m a b less t. counts-known ca cb m a b t) t'.world la lives l.role l.name l m s.found named p.1.1 ours stays y.none in
    let agreed' : Agreed Sender l N m K = subst (λ (r : Role). Agreed r l N m K) s.role-is agreed in
    let later' : Behind Sender l N m K = subst (λ (r : Role). Behind r l N m K) s.role-is later in
    enough N K l.credit.credit m.credit.credit agreed'.1.0 later' (s.credit (sizes-none l.sending m.receiving agreed'.1.1.0 first))
  where
    enough : (n k c d : ℕ) → n ≡ k → n + c ≤ k + d → (c == 0) ≡ false → 0 < d
    enough n k c d e h some = grind (arith, e, h, some)
