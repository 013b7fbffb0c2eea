-- A detach is taken.
use Rattle.std.proofs.Common.{suc, ◌==◌, ◌≡◌, ℕ, true, false, Option, Some, None, List, [], ◌∷◌, refl, sym, ap, ◌∙◌, IsOk}
use Rattle.amqp_performatives.specs.declared.bodies.Role.{Role}
use Rattle.amqp_performatives.specs.declared.bodies.Role.TheVariants.{Sender}
use Rattle.amqp_performatives.specs.declared.bodies.DetachBody.{DetachBody}
use Rattle.amqp_performatives.specs.declared.performative.Performative.{Performative}
use Rattle.amqp_performatives.specs.declared.performative.Performative.TheVariants as heard
use Rattle.amqp_frames.specs.declared.frame.Frame.{Frame}
use Rattle.amqp_rules.specs.declared.config.Config.{Config}
use Rattle.amqp_rules.specs.View.{EndView, LinkView, has_peer_handle, is_over, opposite}
use Rattle.amqp_rules.specs.Answer.{heard_answer, is_end}
use Rattle.amqp_rules.proofs.Listed.{by-bool}
use Rattle.amqp_laws.specs.declared.entry.Entry.{Entry}
use Rattle.amqp_laws.specs.Past.{some_entry}
use Rattle.amqp_laws.specs.Said.{hears_end}
use Rattle.amqp_laws.specs.Live.{live}
use Rattle.amqp_laws.specs.At.{at}
use Rattle.amqp_laws.specs.Lawful.{next}
use Rattle.amqp_pair_laws.specs.World.{IsFair, hears, sends}
use Rattle.amqp_pair_laws.proofs.FrameKinds.{AreTaken, IsDetach}
use Rattle.amqp_pair_laws.proofs.Lag as lag
use Rattle.amqp_pair_laws.proofs.Slots.{kept}
use Rattle.amqp_pair_laws.proofs.SlotOf.{shape}
use Rattle.amqp_pair_laws.proofs.Named.{found-passes, name-self, named-found}
use Rattle.amqp_pair_laws.proofs.SlotActs.{DetachSent, IsMet, act, begun-first, does-detach, is-met, one-more, slots-known}
use Rattle.amqp_laws.proofs.Sound.{at-is-sound}
use Rattle.amqp_laws.proofs.AttachLaw.{not-over}
use Rattle.amqp_rules.specs.View.{takes_frames, holds}
use Rattle.amqp_pair_laws.proofs.Opens.{few-by, replayed-by}
use Rattle.amqp_pair_laws.proofs.Phases.{ended-heard, phases-known}
use Rattle.amqp_pair_laws.proofs.Next.{IsReady, Next, next-of, taken-by}

-- the end that hears it has the link, where its session is not over
met-there : (ca cb : Config) (b : List Entry) (f : Frame) (x : Next ca cb b f) (d : DetachBody) → DetachSent (at ca x.before) d → is_over (at cb b).session ≡ false
    → (role : Role) × ((name : List ℕ) × IsMet role name (at cb b) d.handle)
met-there ca cb b f x d s lives =
    let v = at ca x.before in
    let l = s.link in
    let t = x.tight in
    let fa = lag.all-fair sends hears IsFair ca cb (suc x.moves) (x.entry ∷ x.before) b x.whole in
    let fb = lag.all-fair sends hears IsFair cb ca x.moves b x.before (lag.swapped sends hears IsFair ca cb x.moves x.before b t.world) in
    let m = one-more (Sender, []) ca x.entry x.before fa in
    let here = named-found l.role l.name s.test v.links l m.sound.links.names s.found (name-self l.role l.name) in
    let agree = slots-known ca cb x.moves x.before b t lives l.role l.name in
    (opposite l.role, (l.name, is-met (opposite l.role) l.name (at cb b) l d.handle (at-is-sound cb b (replayed-by cb b fb) (few-by cb b fb)) s.attached s.handle (ap (λ o. kept (shape o)) (sym here) ∙ agree.asked)))

-- the sender's session is not over: it has the link
sender-open : (ca cb : Config) (b : List Entry) (f : Frame) (x : Next ca cb b f) (d : DetachBody) → DetachSent (at ca x.before) d → is_over (at ca x.before).session ≡ false
sender-open ca cb b f x d s =
    let fa = lag.all-fair sends hears IsFair ca cb (suc x.moves) (x.entry ∷ x.before) b x.whole in
    let m = one-more (Sender, []) ca x.entry x.before fa in
    by-bool (is_over (at ca x.before).session)
    (λ (t : is_over (at ca x.before).session ≡ true). let none = m.sound.over t in let found = s.found in let k = rw none at found in absurd (cc (k)))
    (λ (u : is_over (at ca x.before).session ≡ false). u)

no-theirs : (h : ℕ) (m : LinkView) → has_peer_handle h m ≡ true → m.theirs ≡ None → ⊥
no-theirs h m is none = by m.theirs is none
  where
    by : (o : Option EndView) → holds (λ e. e.handle == h) o ≡ true → o ≡ None → ⊥
    by None is none = absurd (cc (is))
    by (Some e) is none = absurd (cc (none))

detach-ready : (ca cb : Config) (b : List Entry) (f : Frame) (x : Next ca cb b f) (d : DetachBody) → DetachSent (at ca x.before) d → IsReady (at cb b).session
detach-ready ca cb b f x d s =
    let t = x.tight in
    let fb = lag.all-fair sends hears IsFair cb ca x.moves b x.before (lag.swapped sends hears IsFair ca cb x.moves x.before b t.world) in
    let p = phases-known ca cb x.moves x.before b t in
    let open' = sender-open ca cb b f x d s in
    let unheard : some_entry hears_end (live b) ≡ false =
    by-bool (some_entry hears_end (live b)) (λ (h : some_entry hears_end (live b) ≡ true). let over = p.ended h in absurd (cc (over, open'))) (λ (h : some_entry hears_end (live b) ≡ false). h) in
    record {
      begun = by-bool (at cb b).session.end_sent
          (λ (h : (at cb b).session.end_sent ≡ true). ended-heard cb b (replayed-by cb b fb) h)
          (λ (u : (at cb b).session.end_sent ≡ false).
          let lives : is_over (at cb b).session ≡ false = rw (u, unheard) refl in
          let m = met-there ca cb b f x d s lives in
          by-bool (at cb b).session.begin_heard
          (λ (h : (at cb b).session.begin_heard ≡ true). h)
          (λ (n : (at cb b).session.begin_heard ≡ false).
          let none = begun-first (m.0, m.1.0) cb b fb lives n in
          let there = m.1.1 in
          let e : there.link.theirs ≡ None = ap (λ o. (shape o).theirs) (sym there.named) ∙ none in
          absurd (no-theirs d.handle there.link (found-passes (has_peer_handle d.handle) (at cb b).links there.link there.found) e)));
      open' = unheard;
    }

detach-next : (ca cb : Config) (b : List Entry) (f : Frame) (x : Next ca cb b f) (d : DetachBody) → f.body ≡ Some (heard.Detach d) → DetachSent (at ca x.before) d → IsOk (heard_answer (at cb b) f)
detach-next ca cb b f x d body s =
    taken-by (at cb b) f (detach-ready ca cb b f x d s) (ap is_end body)
    (λ (takes : takes_frames (at cb b).session ≡ true).
    let lives = not-over (at cb b).session.begin_heard (is_over (at cb b).session) takes in
    let m = met-there ca cb b f x d s lives in
    let found = m.1.1.found in
    rw (body, takes, found) refl)

-- the next frame, where it is a detach, is no violation
pub detaches-taken : AreTaken IsDetach
detaches-taken ca cb n a b f w waits of =
    let x = next-of ca cb n a b f w waits in
    let fa = lag.all-fair sends hears IsFair ca cb (suc x.moves) (x.entry ∷ x.before) b x.whole in
    let m = one-more (Sender, []) ca x.entry x.before fa in
    let d = by f.body refl of in
    detach-next ca cb b f x d.0 d.1 (does-detach Sender [] (at ca x.before) (next (at ca x.before) x.entry.step) (act (Sender, []) ca x.entry x.before) f (sends x.entry) d.0 m.does x.sent d.1)
  where
    by : (body : Option Performative) → f.body ≡ body → IsDetach body → (d : DetachBody) × (f.body ≡ Some (heard.Detach d))
    by (Some (heard.Detach d)) e k = (d, e)
    by _ e k = absurd k
