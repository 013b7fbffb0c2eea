-- A flow is taken, of a link or of the session alone.
use Rattle.std.proofs.Common.{suc, ◌≡◌, inl, inr, ℕ, ◌+◌, ◌&&◌, Bool, true, false, Option, Some, None, List, [], ◌∷◌, refl, sym, ap, ◌∙◌, subst, find, is_some, is_none, IsOk}
use Rattle.amqp_performatives.specs.declared.bodies.Role.{Role}
use Rattle.amqp_performatives.specs.declared.bodies.Role.TheVariants.{Sender}
use Rattle.amqp_performatives.specs.declared.bodies.FlowBody.{FlowBody}
use Rattle.amqp_performatives.specs.declared.performative.Performative.{Performative}
use Rattle.amqp_performatives.specs.declared.performative.Performative.TheVariants as heard
use Rattle.amqp_frames.specs.declared.frame.Frame.{Frame}
use Rattle.amqp_rules.specs.declared.config.Config.{Config}
use Rattle.amqp_rules.specs.View.{LinkView, View, handle_of, has_handle, has_name, has_peer_handle, is_attached, is_over, opposite, takes_frames}
use Rattle.amqp_rules.specs.Flow.{count_ahead, flow_answer, is_ahead_of_link, is_ahead_of_session, named_link, names_no_link}
use Rattle.amqp_rules.specs.Answer.{heard_answer, is_end}
use Rattle.amqp_rules.specs.Sound.{IsSound}
use Rattle.amqp_rules.proofs.Listed.{by-bool}
use Rattle.amqp_laws.specs.declared.entry.Entry.{Entry}
use Rattle.amqp_laws.specs.Said.{body_heard, own_in, tells_windows}
use Rattle.amqp_laws.specs.At.{at}
use Rattle.amqp_laws.specs.Lawful.{next}
use Rattle.amqp_laws.proofs.AttachLaw.{not-over}
use Rattle.amqp_laws.proofs.Sound.{at-is-sound}
use Rattle.amqp_pair_laws.specs.World.{sends}
use Rattle.amqp_pair_laws.proofs.FrameKinds.{AreTaken, IsFlow}
use Rattle.amqp_pair_laws.proofs.SlotActs.{AllFair, Lives, attached-ours, by-handle, its-handle, one-more}
use Rattle.amqp_pair_laws.proofs.Doing.{IsOther}
use Rattle.amqp_pair_laws.proofs.Named.{name-self, named-found}
use Rattle.amqp_pair_laws.proofs.Opens.{body-of, few-by, replayed-by}
use Rattle.amqp_pair_laws.proofs.Sends.{Sending, begins as begins', flows, others, silent, step-sending, transfers}
use Rattle.amqp_pair_laws.proofs.Next.{Next, next-of, ready-by, taken-by}
use Rattle.amqp_pair_laws.proofs.FlowTaken.{session-near}
use Rattle.amqp_pair_laws.proofs.Turns.{Goes, IsAside, IsAsideFlow, IsAsideIn, IsUncounted, TellsFlow, Turn, asks, attached-stays, away, by_handle, goes, hearing, is_counted, leaving, meets, rests, sending, tells}
use Rattle.amqp_pair_laws.proofs.Tallies.{Grows, goes-grows, link, tallied, tally, turn-of}
use Rattle.amqp_flow.specs.Serial.{distance}
use Rattle.amqp_pair_laws.proofs.Counts.{flow-near}
use Rattle.amqp_pair_laws.proofs.CountsKnown.{same-some}
use Rattle.amqp_pair_laws.proofs.CountsKept.{fair-both, role-of}
use Rattle.amqp_pair_laws.proofs.CountsPass.{counts-known, flow-met}

-- # The end that sent it

-- the link on which it was sent
record SentOn (ca : Config) (e : Entry) (past : List Entry) (w : FlowBody) : Type 0 where
  role : Role
  name : List ℕ
  link' : LinkView
  after' : LinkView
  found : link (role, name) ca past ≡ Some link'
  to : link (role, name) ca (e ∷ past) ≡ Some after'
  tells' : TellsFlow link' after' (sends e)
  says : tells'.flow ≡ w
  same : after'.sending ≡ link'.sending
  ours : after'.ours ≡ link'.ours
  grows : Grows role link' (tally (role, name) ca past) after' (tally (role, name) ca past + distance link'.credit.passed after'.credit.passed)

flow-is : (f g : Frame) (o : Option Frame) (w u : FlowBody) → o ≡ Some f → f.body ≡ Some (heard.Flow w) → o ≡ Some g → g.body ≡ Some (heard.Flow u) → u ≡ w
flow-is f g o w u a b c d =
    let one = same-some o g f c a in
    let x : ◌≡◌ {A = Option Performative} (Some (heard.Flow u)) (Some (heard.Flow w)) = sym d ∙ ap (λ (f : Frame). f.body) one ∙ b in
    cc x

-- two links that are found by one handle of ours are one
pub one-link : (role : Role) (name : List ℕ) (v : View) (h : ℕ) (l : LinkView) → IsSound v → find (has_name role name) v.links ≡ Some l → has_name role name l ≡ true → is_attached l ≡ true → h ≡ handle_of l.ours → IsOther role name v (by_handle h) → ⊥
one-link role name v h l s found named attached is x =
    let a = by-handle v h (has_name role name) l s found (its-handle l.ours h (attached-ours l attached) is) in
    let b = by-handle v h x.test x.link s x.found (its-handle x.link.ours h (attached-ours x.link x.attached) x.handle) in
    let one = same-some (find (has_handle h) v.links) l x.link a b in
    let n : has_name role name x.link ≡ true = ap (has_name role name) (sym one) ∙ named in
    let u = x.unnamed in
    absurd (cc (n, u))

aside-handle : (role : Role) (name : List ℕ) (v : View) (o : Option Frame) (f : Frame) (w : FlowBody) (h : ℕ) → o ≡ Some f → f.body ≡ Some (heard.Flow w) → w.handle ≡ Some h → IsAside role name v o → IsOther role name v (by_handle h)
aside-handle role name v o f w h is body handle x =
    let y : IsAsideIn role name v f.body = subst (λ (o : Option Frame). IsAside role name v o) is x in
    let z : IsAsideFlow role name v w.handle = subst (λ (o : Option Performative). IsAsideIn role name v o) body y in
    subst (λ (o : Option ℕ). IsAsideFlow role name v o) handle z

no-flow : (o : Option Frame) (f : Frame) (w : FlowBody) → o ≡ Some f → f.body ≡ Some (heard.Flow w) → IsUncounted o → ⊥
no-flow o f w is body x =
    let y : is_counted f.body ≡ false = subst (λ (o : Option Frame). IsUncounted o) is x in
    let z : is_counted f.body ≡ true = ap is_counted body in
    absurd (cc (y, z))

-- by what the step does in the slot of the link
on-slot : (ca : Config) (e : Entry) (past : List Entry) (f : Frame) (w : FlowBody) (h : ℕ) (l : LinkView) → AllFair ca (e ∷ past) → sends e ≡ Some f → f.body ≡ Some (heard.Flow w) → w.handle ≡ Some h
    → link (l.role, l.name) ca past ≡ Some l → is_attached l ≡ true → h ≡ handle_of l.ours → SentOn ca e past w
on-slot ca e past f w h l fair sent body handle found attached is = by (turn-of (l.role, l.name) ca e past fair)
  where
    none : IsAside l.role l.name (at ca past) (sends e) → ⊥
    none x = one-link l.role l.name (at ca past) h l (one-more (l.role, l.name) ca e past fair).sound found (name-self l.role l.name) attached is (aside-handle l.role l.name (at ca past) (sends e) f w h sent body handle x)

    told : (m : LinkView) → link (l.role, l.name) ca (e ∷ past) ≡ Some m → TellsFlow l m (sends e) → m.sending ≡ l.sending → m.ours ≡ l.ours → Goes l.role l.name (at ca past) (is_some (body_heard e.step)) l m (sends e) → SentOn ca e past w
    told m to t same o g =
        record {
          role = l.role;
          name = l.name;
          link' = l;
          after' = m;
          found = found;
          to = to;
          tells' = t;
          says = flow-is f t.frame (sends e) w t.flow sent body t.is_sent t.body;
          same = same;
          ours = o;
          grows = goes-grows l.role l.name (at ca past) (is_some (body_heard e.step)) l m (sends e) (tally (l.role, l.name) ca past) g (tallied (l.role, l.name) ca past fair.0 l found);
        }

    on : (m : LinkView) → link (l.role, l.name) ca (e ∷ past) ≡ Some m → m.ours ≡ l.ours → Goes l.role l.name (at ca past) (is_some (body_heard e.step)) l m (sends e) → Goes l.role l.name (at ca past) (is_some (body_heard e.step)) l m (sends e) → SentOn ca e past w
    on m to o g (rests c s r aside) = absurd (none aside)
    on m to o g (tells j first p own' dr s r t) = told m to t s o g
    on m to o g (leaving gone both c mute) = absurd (no-flow (sends e) f w sent body mute)
    on m to o g (sending role-is c some r t) =
        let one = same-some (sends e) t.frame f t.is_sent sent in
        let x : f.body ≡ Some (heard.Transfer t.transfer) = ap (λ (f : Frame). f.body) (sym one) ∙ t.body in
        absurd (cc (x, body))
    on m to o g (hearing j h' first p numbers dr s theirs early (inl aside)) = absurd (none aside)
    on m to o g (hearing j h' first p numbers dr s theirs early (inr t)) = told m to t s o g

    by : Turn l.role l.name (at ca past) (at ca (e ∷ past)) (body_heard e.step) (sends e) → SentOn ca e past w
    by (away gone (inl before)) = let none = before.0 in absurd (cc (none, found))
    by (away gone (inr mute)) = absurd (no-flow (sends e) f w sent body mute)
    by (asks b f' k deaf s body' free to) =
        let one = same-some (sends e) f' f s sent in
        let x : f.body ≡ Some (heard.Attach b) = ap (λ (f : Frame). f.body) (sym one) ∙ body' in
        absurd (cc (x, body))
    by (meets b k is' s free to) = absurd (cc (s, sent))
    by (goes l0 m found0 to o t' left' g) =
        let one = same-some (link (l.role, l.name) ca past) l0 l found0 found in
        let g' = subst (λ (x : LinkView). Goes l.role l.name (at ca past) (is_some (body_heard e.step)) x m (sends e)) one g in
        on m to (o ∙ ap (λ (l : LinkView). l.ours) one) g' g'

-- a flow with a handle is sent on an attached link
abbrev Held : Config → List Entry → ℕ → Type 0
Held ca past h = (l : LinkView) × (link (l.role, l.name) ca past ≡ Some l) × (is_attached l ≡ true) × (h ≡ handle_of l.ours)

held-by : (ca : Config) (past : List Entry) (h : ℕ) (test : LinkView → Bool) (l : LinkView) → IsSound (at ca past) → find test (at ca past).links ≡ Some l → is_attached l ≡ true → h ≡ handle_of l.ours → Held ca past h
held-by ca past h test l s found attached is = (l, named-found l.role l.name test (at ca past).links l s.links.names found (name-self l.role l.name), attached, is)

held : (ca : Config) (e : Entry) (past : List Entry) (f : Frame) (w : FlowBody) (h : ℕ) → AllFair ca (e ∷ past) → sends e ≡ Some f → f.body ≡ Some (heard.Flow w) → w.handle ≡ Some h
    → Held ca past h
held ca e past f w h fair sent body handle = by (turn-of (Sender, []) ca e past fair)
  where
    s : IsSound (at ca past)
    s = (one-more (Sender, []) ca e past fair).sound

    aside : IsAside Sender [] (at ca past) (sends e) → Held ca past h
    aside x = let y = aside-handle Sender [] (at ca past) (sends e) f w h sent body handle x in held-by ca past h y.test y.link s y.found y.attached y.handle

    told : (l m : LinkView) → link (Sender, []) ca past ≡ Some l → TellsFlow l m (sends e) → Held ca past h
    told l m found t =
        let one = flow-is f t.frame (sends e) w t.flow sent body t.is_sent t.body in
        let x : ◌≡◌ {A = Option ℕ} (Some h) (Some (handle_of l.ours)) = sym handle ∙ ap (λ (w : FlowBody). w.handle) (sym one) ∙ t.handle in
        let is : h ≡ handle_of l.ours = cc x in
        held-by ca past h (has_name Sender []) l s found t.attached is

    on : (l m : LinkView) → link (Sender, []) ca past ≡ Some l → Goes Sender [] (at ca past) (is_some (body_heard e.step)) l m (sends e) → Held ca past h
    on l m found (rests c s' r x) = aside x
    on l m found (tells j first p own' dr s' r t) = told l m found t
    on l m found (leaving gone both c mute) = absurd (no-flow (sends e) f w sent body mute)
    on l m found (sending role-is c some r t) =
        let one = same-some (sends e) t.frame f t.is_sent sent in
        let x : f.body ≡ Some (heard.Transfer t.transfer) = ap (λ (f : Frame). f.body) (sym one) ∙ t.body in
        absurd (cc (x, body))
    on l m found (hearing j h' first p numbers dr s' theirs early (inl x)) = aside x
    on l m found (hearing j h' first p numbers dr s' theirs early (inr t)) = told l m found t

    by : Turn Sender [] (at ca past) (at ca (e ∷ past)) (body_heard e.step) (sends e) → Held ca past h
    by (away gone (inl x)) = aside x.1
    by (away gone (inr mute)) = absurd (no-flow (sends e) f w sent body mute)
    by (asks b f' k deaf s' body' free to) =
        let one = same-some (sends e) f' f s' sent in
        let x : f.body ≡ Some (heard.Attach b) = ap (λ (f : Frame). f.body) (sym one) ∙ body' in
        absurd (cc (x, body))
    by (meets b k is' s' free to) = absurd (cc (s', sent))
    by (goes l m found to o t' left' g) = on l m found g

-- # The end that hears it

flow-ok : (v : View) (w : FlowBody) → takes_frames v.session ≡ true → names_no_link w v.links ≡ false → is_ahead_of_session v w ≡ false → is_ahead_of_link w (named_link v.links w.handle) ≡ false → IsOk (flow_answer v w)
flow-ok v w takes known near near' = rw (takes, known, near, near') refl

-- the link is known
record Known (v : View) (w : FlowBody) : Type 0 where
  there : names_no_link w v.links ≡ false
  near : is_ahead_of_link w (named_link v.links w.handle) ≡ false

known-none : (v : View) (w : FlowBody) → w.handle ≡ None → Known v w
known-none v w is =
    record {
      there = ap (λ h. is_some h && is_none (named_link v.links h)) is;
      near = ap (λ h. is_ahead_of_link w (named_link v.links h)) is;
    }

known-some : (v : View) (w : FlowBody) (h : ℕ) (m : LinkView) → w.handle ≡ Some h → find (has_peer_handle h) v.links ≡ Some m → is_attached m && count_ahead m.role w m.credit ≡ false → Known v w
known-some v w h m is found near =
    record {
      there = ap (λ h. is_some h && is_none (named_link v.links h)) is ∙ ap (λ (o : Option LinkView). is_none o) found;
      near = ap (λ h. is_ahead_of_link w (named_link v.links h)) is ∙ ap (λ (o : Option LinkView). is_ahead_of_link w o) found ∙ near;
    }

-- by what its sender told
told-known : (ca cb : Config) (b : List Entry) (f : Frame) (x : Next ca cb b f) (w : FlowBody) (h : ℕ) → Lives (x.entry ∷ x.before) → Lives b → IsSound (at cb b) → w.handle ≡ Some h → SentOn ca x.entry x.before w → Known (at cb b) w
told-known ca cb b f x w h la lb sb handle s =
    let t = s.tells' in
    let says = s.says in
    let there : w.handle ≡ Some (handle_of s.link'.ours) = ap (λ (w : FlowBody). w.handle) (sym says) ∙ t.handle in
    let y = flow-met ca cb x.moves x.entry x.before b s.role s.name s.link' s.after' w (λ ca cb m a b less t. counts-known ca cb m a b t) x.whole x.tight sb la lb s.found s.to t.attached t.stays s.same s.ours s.grows
    (ap (λ (w : FlowBody). w.delivery_count) (sym says) ∙ t.count) (ap (λ (w : FlowBody). w.link_credit) (sym says) ∙ t.credit) (counts-known ca cb x.moves x.before b x.tight) in
    let m = y.met.link in
    let named = y.met.named in
    let role-is : m.role ≡ opposite s.role = role-of (opposite s.role, s.name) cb b m named in
    known-some (at cb b) w (handle_of s.link'.ours) m there y.met.found
    (by-bool (is_attached m)
    (λ (a : is_attached m ≡ true).
    let near : count_ahead m.role w m.credit ≡ false =
    ap (λ (r : Role). count_ahead r w m.credit) role-is
    ∙ flow-near s.role s.link' (tally (s.role, s.name) ca x.before) s.after' (tally (s.role, s.name) ca (x.entry ∷ x.before)) m (tally (opposite s.role, s.name) cb b) w (y.tells' (attached-stays m a)) in
    rw (a, near) refl)
    (λ (n : is_attached m ≡ false). rw n refl))

flow-known : (ca cb : Config) (b : List Entry) (f : Frame) (x : Next ca cb b f) (w : FlowBody) → f.body ≡ Some (heard.Flow w) → Lives (x.entry ∷ x.before) → Lives b → Known (at cb b) w
flow-known ca cb b f x w body la lb = by w.handle refl
  where
    fair : AllFair ca (x.entry ∷ x.before)
    fair = (fair-both ca cb (suc x.moves) (x.entry ∷ x.before) b x.whole).0

    sb : IsSound (at cb b)
    sb =
        let fb = (fair-both ca cb (suc x.moves) (x.entry ∷ x.before) b x.whole).1 in
        at-is-sound cb b (replayed-by cb b fb) (few-by cb b fb)

    by : (o : Option ℕ) → w.handle ≡ o → Known (at cb b) w
    by None is = known-none (at cb b) w is
    by (Some h) is =
        let l = held ca x.entry x.before f w h fair x.sent body is in
        told-known ca cb b f x w h la lb sb is (on-slot ca x.entry x.before f w h l.0 fair x.sent body is l.1 l.2 l.3)

flow-next : (ca cb : Config) (b : List Entry) (f : Frame) (x : Next ca cb b f) → Sending (at ca x.before) (next (at ca x.before) x.entry.step) (body_heard x.entry.step) (own_in x.entry.step) x.entry.reply
    → (w : FlowBody) → f.body ≡ Some (heard.Flow w) → IsOk (heard_answer (at cb b) f)
flow-next ca cb b f x (silent q) w body = let sent = x.sent in absurd (cc (q, sent))
flow-next ca cb b f x (transfers t payload deaf mapped room named carries' is) w body = let k = body-of x.entry.reply.sent (heard.Transfer t) payload f is x.sent in absurd (cc (k, body))
flow-next ca cb b f x (flows u t mapped open' begun numbers is) w body =
    let k = body-of x.entry.reply.sent (heard.Flow u) [] f is x.sent in
    let e : ◌≡◌ {A = Option Performative} (Some (heard.Flow u)) (Some (heard.Flow w)) = sym k ∙ body in
    let one : u ≡ w = cc e in
    let near = subst (λ (w : FlowBody). is_ahead_of_session (at cb b) w ≡ false) one (session-near ca cb b f x u open' begun numbers) in
    let fair = (fair-both ca cb (suc x.moves) (x.entry ∷ x.before) b x.whole).0 in
    let l = (one-more (Sender, []) ca x.entry x.before fair).goes_on in
    let la : Lives (x.entry ∷ x.before) = ap (λ (v : View). is_over v.session) l ∙ open' in
    taken-by (at cb b) f (ready-by ca cb b f x mapped) (ap is_end body)
    (λ (takes : takes_frames (at cb b).session ≡ true).
    let lives = not-over (at cb b).session.begin_heard (is_over (at cb b).session) takes in
    let known = flow-known ca cb b f x w body la lives in
    rw body (flow-ok (at cb b) w takes known.there near known.near))
flow-next ca cb b f x (begins' u deaf is-begin' unsent open' takes comes is) w body = let k = body-of x.entry.reply.sent (heard.Begin u) [] f is x.sent in absurd (cc (k, body))
flow-next ca cb b f x (others p payload t mute beside is) w body =
    let k = body-of x.entry.reply.sent p payload f is x.sent in
    let e : Some p ≡ Some (heard.Flow w) = sym k ∙ body in
    let yes : tells_windows (Some p) ≡ true = ap tells_windows e in
    absurd (cc (yes, mute))

-- the next frame, where it is a flow, is no violation
pub flows-taken : AreTaken IsFlow
flows-taken ca cb n a b f w waits of =
    let x = next-of ca cb n a b f w waits in
    let u = by f.body refl of in
    flow-next ca cb b f x (step-sending (at ca x.before) x.entry.step x.entry.reply x.answers) u.0 u.1
  where
    by : (body : Option Performative) → f.body ≡ body → IsFlow body → (w : FlowBody) × (f.body ≡ Some (heard.Flow w))
    by (Some (heard.Flow w)) e k = (w, e)
    by _ e k = absurd k
