-- The slots of two sessions agree, by what each entry does in them.
use Rattle.std.proofs.Common.{◌≡◌, ℕ, ◌==◌, ◌&&◌, Bool, true, false, not, cond, Option, Some, None, List, [], ◌∷◌, refl, sym, ap, ◌∙◌, subst, find, map, is_some, nat_eq}
use Rattle.std.proofs.lemmas.Bool.{eq-eqb, eqb-true}
use Rattle.std.specs.Cmp.Lexicographic.{pointwise}
use Rattle.amqp_performatives.specs.declared.bodies.Role.{Role}
use Rattle.amqp_performatives.specs.declared.bodies.Role.TheVariants.{Sender, Receiver}
use Rattle.amqp_performatives.specs.declared.bodies.DetachBody.{DetachBody}
use Rattle.amqp_performatives.specs.declared.performative.Performative.{Performative}
use Rattle.amqp_performatives.specs.declared.performative.Performative.TheVariants as heard
use Rattle.amqp_frames.specs.declared.frame.Frame.{Frame}
use Rattle.amqp_rules.specs.declared.config.Config.{Config}
use Rattle.amqp_rules.specs.declared.op.Op.TheVariants.{Attach, Detach, Suspend}
use Rattle.amqp_rules.specs.View.{EndView, LinkView, View, handle_of, has_handle, has_name, has_number, has_peer_handle, holds, is_attached, is_over, opposite, same_role}
use Rattle.amqp_rules.specs.Attach.{end_of}
use Rattle.amqp_rules.specs.Answer.{is_dropped}
use Rattle.amqp_rules.specs.Sending.{frame_of}
use Rattle.amqp_rules.specs.Sound.{Apart, IsSound, Keys, keys, same_handle, shares_handle, shares_peer_handle}
use Rattle.amqp_rules.proofs.Listed.{by-bool}
use Rattle.amqp_laws.specs.declared.entry.Entry.{Entry}
use Rattle.amqp_laws.specs.declared.entry.Step.{Step}
use Rattle.amqp_laws.specs.declared.entry.Step.TheVariants.{Opened, Own, Heard}
use Rattle.amqp_laws.specs.Past.{some_entry}
use Rattle.amqp_laws.specs.Said.{hears_begin}
use Rattle.amqp_laws.specs.Live.{live}
use Rattle.amqp_laws.specs.Session.{session_at}
use Rattle.amqp_laws.specs.At.{at}
use Rattle.amqp_laws.specs.Lawful.{next}
use Rattle.amqp_laws.proofs.Sound.{at-is-sound, law}
use Rattle.amqp_laws.proofs.Twice.{and-both}
use Rattle.amqp_pair_laws.proofs.Plain.{due}
use Rattle.amqp_pair_laws.specs.World.{IsFair, Tight, frame_in, hears, sends}
use Rattle.amqp_pair_laws.proofs.Lag as lag
use Rattle.amqp_pair_laws.proofs.Slots.{Act, IsLegal, Slot, added, after, asks, attached, goes, idle, kept, learns, leaves, meets, tells}
use Rattle.amqp_pair_laws.proofs.SlotKept as slots
use Rattle.amqp_pair_laws.proofs.SlotOf.{shape, slot_of}
use Rattle.amqp_pair_laws.proofs.Named.{every-found, every-unmapped, found-passes, named-found}
use Rattle.amqp_pair_laws.proofs.Doing.{Doing, IsApart, IsApartIn, IsOther, asking, asks_in, asks_of, body_act, going, idles, leaving, meeting, on_named, step-does, step_act, left_act}
use Rattle.amqp_pair_laws.proofs.Opens.{few-by, replayed-by}
use Rattle.amqp_pair_laws.proofs.Over.{behind-lives}
use Rattle.amqp_pair_laws.proofs.Windows.{lives-goes, or-none}

-- # One step

does-after : (role : Role) (name : List ℕ) (v after' : View) (act : Act EndView) (sent : Option Frame) → Doing role name v after' act sent → is_over after'.session ≡ false
    → slot_of role name after'.links ≡ after act (slot_of role name v.links)
does-after role name v after' act sent (idles is same apart) o = rw is (same o)
does-after role name v after' act sent (asking b f takes is s body n free to) o = rw is to
does-after role name v after' act sent (meeting b takes is s free to) o = rw is to
does-after role name v after' act sent (leaving l f d is s body h at' there attached' to) o = rw is to
does-after role name v after' act sent (going l d is s h at' there theirs to) o = rw is to

-- what the rules ask, but for having left
abbrev IsFree : Act EndView → Slot EndView → Type 0
IsFree idle s = Unit {0}
IsFree (asks h) s = s.ours ≡ None
IsFree (meets h) s = s.theirs ≡ None
IsFree leaves s = attached s ≡ true
IsFree goes s = Unit {0}

does-free : (role : Role) (name : List ℕ) (v after' : View) (act : Act EndView) (sent : Option Frame) → Doing role name v after' act sent → IsFree act (slot_of role name v.links)
does-free role name v after' act sent (idles is same apart) = subst (λ (a : Act EndView). IsFree a (slot_of role name v.links)) (sym is) tt
does-free role name v after' act sent (asking b f takes is s body n free to) = subst (λ (a : Act EndView). IsFree a (slot_of role name v.links)) (sym is) free
does-free role name v after' act sent (meeting b takes is s free to) = subst (λ (a : Act EndView). IsFree a (slot_of role name v.links)) (sym is) free
does-free role name v after' act sent (leaving l f d is s body h at' there attached' to) =
    subst (λ (a : Act EndView). IsFree a (slot_of role name v.links)) (sym is) (ap (λ (s : Slot EndView). attached s) at' ∙ attached')
does-free role name v after' act sent (going l d is s h at' there theirs to) = subst (λ (a : Act EndView). IsFree a (slot_of role name v.links)) (sym is) tt

does-gone : (role : Role) (name : List ℕ) (v after' : View) (act : Act EndView) (sent : Option Frame) → Doing role name v after' act sent → act ≡ goes → is_some (slot_of role name v.links).theirs ≡ true
does-gone role name v after' act sent (idles is same apart) g = absurd (cc (is, g))
does-gone role name v after' act sent (asking b f takes is s body n free to) g = absurd (cc (is, g))
does-gone role name v after' act sent (meeting b takes is s free to) g = absurd (cc (is, g))
does-gone role name v after' act sent (leaving l f d is s body h at' there attached' to) g = absurd (cc (is, g))
does-gone role name v after' act sent (going l d is s h at' there theirs to) g = ap (λ (s : Slot EndView). is_some s.theirs) at' ∙ theirs

does-silent : (role : Role) (name : List ℕ) (v after' : View) (act : Act EndView) (sent : Option Frame) → Doing role name v after' act sent → sent ≡ None → tells act (slot_of role name v.links) ≡ None
does-silent role name v after' act sent (idles is same apart) none = rw is refl
does-silent role name v after' act sent (asking b f takes is s body n free to) none = absurd (cc (s, none))
does-silent role name v after' act sent (meeting b takes is s free to) none = rw is refl
does-silent role name v after' act sent (leaving l f d is s body h at' there attached' to) none = absurd (cc (s, none))
does-silent role name v after' act sent (going l d is s h at' there theirs to) none =
    by-bool (is_attached l)
    (λ (t : is_attached l ≡ true). let k = rw t at s in absurd (cc (k, none)))
    (λ (f : is_attached l ≡ false). let apart : attached (slot_of role name v.links) ≡ false = ap (λ (s : Slot EndView). attached s) at' ∙ f in rw (is, apart) refl)

-- # A link that was left has both attaches

abbrev IsWell : Slot EndView → Type 0
IsWell s = s.left && not (is_some s.ours && is_some s.theirs) ≡ false

unleft : (left : Bool) (o t : Option EndView) → left && not (is_some o && is_some t) ≡ false → is_some o && is_some t ≡ false → left ≡ false
unleft true (Some o) (Some t) h n = absurd (cc (n))
unleft true (Some o) None h n = absurd (cc (h))
unleft true None t h n = absurd (cc (h))
unleft false o t h n = refl

none-ours : (s : Slot EndView) → s.ours ≡ None → IsWell s → s.left ≡ false
none-ours s n w = unleft s.left s.ours s.theirs w (rw n refl)

none-theirs : (s : Slot EndView) → s.theirs ≡ None → IsWell s → s.left ≡ false
none-theirs s n w = unleft s.left s.ours s.theirs w (rw n (and-false (is_some s.ours)))
  where
    and-false : (b : Bool) → b && false ≡ false
    and-false true = refl
    and-false false = refl

legal-by : (act : Act EndView) (s : Slot EndView) → IsFree act s → IsWell s → IsLegal act s
legal-by idle s f w = tt
legal-by (asks h) s f w = (f, none-ours s f w)
legal-by (meets h) s f w = (f, none-theirs s f w)
legal-by leaves s f w = f
legal-by goes s f w = tt

well-after : (act : Act EndView) (s : Slot EndView) → IsFree act s → IsWell s → IsWell (after act s)
well-after idle s f w = w
well-after (asks h) s f w = let l = none-ours s f w in rw l refl
well-after (meets h) s f w = let l = none-theirs s f w in rw l refl
well-after leaves s f w = let both = (and-both (is_some s.ours && is_some s.theirs) (not s.left) f).0 in rw both refl
well-after goes s f w = refl

-- # One journal

abbrev pub st : Role × List ℕ → Config → List Entry → Slot EndView
st i c past = slot_of i.0 i.1 (at c past).links

abbrev pub act : Role × List ℕ → Config → Entry → List Entry → Act EndView
act i c e past = step_act i.0 i.1 (at c past) e.step (sends e)

-- the slots of the two ends that are one: of one name, and of opposite roles
abbrev pub Meets : Role × List ℕ → Role × List ℕ → Type 0
Meets i j = (j.0 ≡ opposite i.0) × (j.1 ≡ i.1)

abbrev pub Lives : List Entry → Type 0
Lives past = is_over (session_at (live past)) ≡ false

abbrev pub AllFair : Config → List Entry → Type 0
AllFair = lag.AllFair sends hears IsFair

pub record OneMore (i : Role × List ℕ) (c : Config) (e : Entry) (past : List Entry) : Type 0 where
  pub sound : IsSound (at c past)
  pub goes_on : at c (e ∷ past) ≡ next (at c past) e.step
  pub does : Doing i.0 i.1 (at c past) (next (at c past) e.step) (act i c e past) (sends e)

pub one-more : (i : Role × List ℕ) (c : Config) (e : Entry) (past : List Entry) → AllFair c (e ∷ past) → OneMore i c e past
one-more i c e past h =
    let r = replayed-by c past h.0 in
    let few = few-by c past h.0 in
    let s = at-is-sound c past r few in
    record { sound = s; goes_on = law c past e r few h.1.answers; does = step-does i.0 i.1 (at c past) e.step e.reply (due h.1) s }

pub goes-on : (i : Role × List ℕ) (c : Config) (e : Entry) (past : List Entry) → AllFair c (e ∷ past) → Lives (e ∷ past) → st i c (e ∷ past) ≡ after (act i c e past) (st i c past)
goes-on i c e past h lives =
    let m = one-more i c e past h in
    ap (λ (v : View). slot_of i.0 i.1 v.links) m.goes_on
    ∙ does-after i.0 i.1 (at c past) (next (at c past) e.step) (act i c e past) (sends e) m.does (ap (λ (v : View). is_over v.session) (sym m.goes_on) ∙ lives)

well : (i : Role × List ℕ) (c : Config) (past : List Entry) → AllFair c past → Lives past → IsWell (st i c past)
well i c [] h lives = refl
well i c (e ∷ past) h lives =
    let m = one-more i c e past h in
    let before = well i c past h.0 (lives-goes e past lives).lived in
    subst (λ (s : Slot EndView). IsWell s) (sym (goes-on i c e past h lives))
    (well-after (act i c e past) (st i c past) (does-free i.0 i.1 (at c past) (next (at c past) e.step) (act i c e past) (sends e) m.does) before)

mute-by : (role : Role) (name : List ℕ) (v : View) (step : Step) (sent : Option Frame) (l : List EndView) → sent ≡ None → added (step_act role name v step sent) l ≡ l
mute-by role name v (Opened told) sent l none = refl
mute-by role name v (Own (Attach name' role' snd rcv source target count max_message)) sent l none = rw none refl
mute-by role name v (Own (Detach link error)) sent l none = rw none refl
mute-by role name v (Own (Suspend link)) sent l none = rw none refl
mute-by role name v (Own op) sent l none = refl
mute-by role name v (Heard f) sent l none = by (is_dropped v f.body) f.body
  where
    named : (o : Option LinkView) → added (on_named role name goes o) l ≡ l
    named None = refl
    named (Some k) = one (has_name role name k)
      where
        one : (b : Bool) → added (cond b goes idle) l ≡ l
        one true = refl
        one false = refl

    met : (b : Bool) (h : EndView) → added (cond b (meets h) idle) l ≡ l
    met true h = refl
    met false h = refl

    by : (dropped : Bool) (body : Option Performative) → added (cond dropped idle (body_act role name v body)) l ≡ l
    by true body = refl
    by false (Some (heard.Attach b)) = met (same_role role (opposite b.role) && pointwise nat_eq name b.name) (end_of b)
    by false (Some (heard.Detach b)) = named (find (has_peer_handle b.handle) v.links)
    by false _ = refl

deaf-left : (role : Role) (name : List ℕ) (v : View) (link : ℕ) (sent : Option Frame) → learns (left_act role name v link sent) ≡ None
deaf-left role name v link sent = by (is_some sent) (find (has_number link) v.links)
  where
    one : (b : Bool) → learns {H = EndView} (cond b leaves idle) ≡ None
    one true = refl
    one false = refl

    by : (b : Bool) (o : Option LinkView) → learns (cond b (on_named role name leaves o) idle) ≡ None
    by false o = refl
    by true None = refl
    by true (Some k) = one (has_name role name k)

deaf-by : (role : Role) (name : List ℕ) (v : View) (step : Step) (sent : Option Frame) → frame_in step ≡ None → learns (step_act role name v step sent) ≡ None
deaf-by role name v (Opened told) sent none = refl
deaf-by role name v (Own (Attach name' role' snd rcv source target count max_message)) sent none = by sent
  where
    met : (b : Bool) (h : EndView) → learns (cond b (asks h) idle) ≡ None
    met true h = refl
    met false h = refl

    of : (body : Option Performative) → learns (asks_in role name body) ≡ None
    of (Some (heard.Attach b)) = met (same_role role b.role && pointwise nat_eq name b.name) (end_of b)
    of _ = refl

    by : (o : Option Frame) → learns (asks_of role name o) ≡ None
    by None = refl
    by (Some f) = of f.body
deaf-by role name v (Own (Detach link error)) sent none = deaf-left role name v link sent
deaf-by role name v (Own (Suspend link)) sent none = deaf-left role name v link sent
deaf-by role name v (Own op) sent none = refl
deaf-by role name v (Heard f) sent none = absurd (cc (none))

-- # A peer's attach is heard only after its begin

does-begun : (role : Role) (name : List ℕ) (v after' : View) (act : Act EndView) (sent : Option Frame) → Doing role name v after' act sent → v.session.begin_heard ≡ false
    → (slot_of role name v.links).theirs ≡ None → (after act (slot_of role name v.links)).theirs ≡ None
does-begun role name v after' act sent (idles is same apart) u none = rw is none
does-begun role name v after' act sent (asking b f takes is s body n free to) u none = rw is none
does-begun role name v after' act sent (meeting b takes is s free to) u none = let k = rw u at takes in absurd (cc (k))
does-begun role name v after' act sent (leaving l f d is s body h at' there attached' to) u none = rw is none
does-begun role name v after' act sent (going l d is s h at' there theirs to) u none = rw is refl

pub begun-first : (i : Role × List ℕ) (c : Config) (past : List Entry) → AllFair c past → Lives past → (at c past).session.begin_heard ≡ false → (st i c past).theirs ≡ None
begun-first i c [] h lives u = refl
begun-first i c (e ∷ past) h lives u =
    let m = one-more i c e past h in
    let g = lives-goes e past lives in
    let both = or-none (hears_begin e) (some_entry hears_begin (live past)) (ap (some_entry hears_begin) (sym g.is_live) ∙ u) in
    let before = begun-first i c past h.0 g.lived both.1 in
    ap (λ (s : Slot EndView). s.theirs) (goes-on i c e past h lives) ∙ does-begun i.0 i.1 (at c past) (next (at c past) e.step) (act i c e past) (sends e) m.does both.1 before

-- # A detach comes from a link

-- the link on which a detach was sent
pub record DetachSent (v : View) (d : DetachBody) : Type 0 where
  pub test : LinkView → Bool
  pub link : LinkView
  pub found : find test v.links ≡ Some link
  pub handle : d.handle ≡ handle_of link.ours
  pub attached : is_attached link ≡ true

apart-detach : (role : Role) (name : List ℕ) (v : View) (o : Option Performative) (d : DetachBody) → IsApartIn role name v o → o ≡ Some (heard.Detach d) → DetachSent v d
apart-detach role name v o d x is =
    let y : IsOther role name v d = subst (λ (o : Option Performative). IsApartIn role name v o) is x in
    record { test = y.test; link = y.link; found = y.found; handle = y.handle; attached = y.attached }

same-detach : (a b : DetachBody) (o : Option Performative) → o ≡ Some (heard.Detach a) → o ≡ Some (heard.Detach b) → b.handle ≡ a.handle
same-detach a b o e f = let x : ◌≡◌ {A = Option Performative} (Some (heard.Detach b)) (Some (heard.Detach a)) = sym f ∙ e in let y : b ≡ a = cc x in ap (λ (d : DetachBody). d.handle) y

pub does-detach : (role : Role) (name : List ℕ) (v after' : View) (act : Act EndView) (f : Frame) (sent : Option Frame) (d : DetachBody) → Doing role name v after' act sent → sent ≡ Some f → f.body ≡ Some (heard.Detach d) → DetachSent v d
does-detach role name v after' act f sent d (idles is same apart) e body =
    apart-detach role name v f.body d (subst (λ (o : Option Frame). IsApart role name v o) e apart) body
does-detach role name v after' act f sent d (asking b g takes is s body' n free to) e body =
    let one : g ≡ f = (let x : ◌≡◌ {A = Option Frame} (Some g) (Some f) = sym s ∙ e in cc x) in
    let here : f.body ≡ Some (heard.Attach b) = ap (λ (f : Frame). f.body) (sym one) ∙ body' in
    absurd (cc (here, body))
does-detach role name v after' act f sent d (meeting b takes is s free to) e body = absurd (cc (s, e))
does-detach role name v after' act f sent d (leaving l g d' is s body' h at' there attached' to) e body =
    let one : g ≡ f = (let x : ◌≡◌ {A = Option Frame} (Some g) (Some f) = sym s ∙ e in cc x) in
    let here : f.body ≡ Some (heard.Detach d') = ap (λ (f : Frame). f.body) (sym one) ∙ body' in
    record { test = has_name role name; link = l; found = there; handle = same-detach d' d f.body here body ∙ h; attached = attached' }
does-detach role name v after' act f sent d (going l d' is s h at' there theirs to) e body =
    by-bool (is_attached l)
    (λ (t : is_attached l ≡ true).
    let s' = rw t at s in
    let one : frame_of (Some (heard.Detach d')) [] ≡ f = (let x : ◌≡◌ {A = Option Frame} (Some (frame_of (Some (heard.Detach d')) [])) (Some f) = sym s' ∙ e in cc x) in
    let here : f.body ≡ Some (heard.Detach d') = ap (λ (f : Frame). f.body) (sym one) in
    record { test = has_name role name; link = l; found = there; handle = same-detach d' d f.body here body ∙ h; attached = t })
    (λ (u : is_attached l ≡ false). let s' = rw u at s in absurd (cc (s', e)))

-- # A frame passes

pub opposite-same : (r s : Role) → same_role (opposite r) (opposite s) ≡ same_role r s
opposite-same Sender Sender = refl
opposite-same Sender Receiver = refl
opposite-same Receiver Sender = refl
opposite-same Receiver Receiver = refl

-- a handle tells links apart
apart-found : (same : Keys → Keys → Bool) (P test : LinkView → Bool) (links : List LinkView) (l : LinkView) → Apart same (map keys links)
    → ((k l : LinkView) → P k ≡ true → P l ≡ true → same (keys k) (keys l) ≡ true) → find test links ≡ Some l → P l ≡ true → find P links ≡ Some l
apart-found same P test [] l apart shared found is = absurd (cc (found))
apart-found same P test (k ∷ ks) l apart shared found is =
    by-bool (test k)
    (λ (t : test k ≡ true).
    let f = rw t at found in
    let one : k ≡ l = cc f in
    let n : P k ≡ true = ap P one ∙ is in
    rw n (ap Some one))
    (λ (t : test k ≡ false).
    let f = rw t at found in
    by-bool (P k)
    (λ (n : P k ≡ true).
    let others = every-unmapped keys (λ m. same (keys k) m ≡ false) ks apart.0 in
    let differ : same (keys k) (keys l) ≡ false = every-found (λ m. same (keys k) (keys m) ≡ false) test ks l others f in
    let both = shared k l n is in
    absurd (cc (both, differ)))
    (λ (n : P k ≡ false). rw n (apart-found same P test ks l apart.1 shared f is)))

same-by : (h : ℕ) (o p : Option EndView) → holds (λ e. e.handle == h) o ≡ true → holds (λ e. e.handle == h) p ≡ true → same_handle o p ≡ true
same-by h None p a b = absurd (cc (a))
same-by h (Some e) None a b = absurd (cc (b))
same-by h (Some e) (Some f) a b = let x : e.handle ≡ h = eqb-true e.handle h a in let y : f.handle ≡ h = eqb-true f.handle h b in eq-eqb f.handle e.handle (y ∙ sym x)

pub by-handle : (v : View) (h : ℕ) (test : LinkView → Bool) (l : LinkView) → IsSound v → find test v.links ≡ Some l → has_handle h l ≡ true → find (has_handle h) v.links ≡ Some l
by-handle v h test l s found is = apart-found shares_handle (has_handle h) test v.links l s.links.handles (λ k m a b. same-by h k.ours m.ours a b) found is

pub by-peer-handle : (v : View) (h : ℕ) (test : LinkView → Bool) (l : LinkView) → IsSound v → find test v.links ≡ Some l → has_peer_handle h l ≡ true → find (has_peer_handle h) v.links ≡ Some l
by-peer-handle v h test l s found is = apart-found shares_peer_handle (has_peer_handle h) test v.links l s.links.peer_handles (λ k m a b. same-by h k.theirs m.theirs a b) found is

pub its-handle : (o : Option EndView) (h : ℕ) → is_some o ≡ true → h ≡ handle_of o → holds (λ e. e.handle == h) o ≡ true
its-handle None h is e = absurd (cc (is))
its-handle (Some x) h is e = eq-eqb x.handle h (sym e)

-- the link of the other end that hears this handle
pub record IsMet (role : Role) (name : List ℕ) (vb : View) (h : ℕ) : Type 0 where
  pub link : LinkView
  pub named : find (has_name role name) vb.links ≡ Some link
  pub found : find (has_peer_handle h) vb.links ≡ Some link

pub kept-is : (l : LinkView) → is_attached l ≡ true → kept (shape (Some l)) ≡ l.ours
kept-is l h = by l.left (and-both (is_some l.ours && is_some l.theirs) (not l.left) h).1
  where
    by : (left : Bool) → not left ≡ true → cond left None l.ours ≡ l.ours
    by true h = absurd (cc (h))
    by false h = refl

pub attached-ours : (l : LinkView) → is_attached l ≡ true → is_some l.ours ≡ true
attached-ours l h = (and-both (is_some l.ours) (is_some l.theirs) (and-both (is_some l.ours && is_some l.theirs) (not l.left) h).0).0

-- the handle of an attached link finds the link of the slot at the other end
pub is-met : (role' : Role) (name : List ℕ) (vb : View) (l : LinkView) (h : ℕ) → IsSound vb → is_attached l ≡ true → h ≡ handle_of l.ours
    → kept (shape (Some l)) ≡ (slot_of role' name vb.links).theirs → IsMet role' name vb h
is-met role' name vb l h s a is k = by (find (has_name role' name) vb.links) refl (sym (kept-is l a) ∙ k)
  where
    by : (o : Option LinkView) → find (has_name role' name) vb.links ≡ o → l.ours ≡ (shape o).theirs → IsMet role' name vb h
    by None f e = let some = attached-ours l a in absurd (cc (some, e))
    by (Some m) f e =
        let some : is_some m.theirs ≡ true = ap (λ (o : Option EndView). is_some o) (sym e) ∙ attached-ours l a in
        let same : h ≡ handle_of m.theirs = is ∙ ap handle_of e in
        record { link = m; named = f; found = by-peer-handle vb h (has_name role' name) m s f (its-handle m.theirs h some same) }

-- another link's detach does not meet the slot
pub other-unmet : (role : Role) (name : List ℕ) (va vb : View) (d : DetachBody) → IsSound va → IsSound vb → IsOther role name va d → kept (slot_of role name va.links) ≡ (slot_of (opposite role) name vb.links).theirs
    → (m : LinkView) → find (has_peer_handle d.handle) vb.links ≡ Some m → has_name (opposite role) name m ≡ true → ⊥
other-unmet role name va vb d sa sb x k m found n =
    let there = named-found (opposite role) name (has_peer_handle d.handle) vb.links m sb.links.names found n in
    by (find (has_name role name) va.links) refl (k ∙ ap (λ o. (shape o).theirs) there)
  where
    no-handle : (o : Option EndView) → o ≡ None → holds (λ e. e.handle == d.handle) o ≡ true → ⊥
    no-handle o e h = let k = rw e at h in absurd (cc (k))

    kept-ours : (left : Bool) (o t : Option EndView) → cond left None o ≡ t → holds (λ e. e.handle == d.handle) t ≡ true → holds (λ e. e.handle == d.handle) o ≡ true
    kept-ours true o t e h = absurd (no-handle t (sym e) h)
    kept-ours false o t e h = ap (λ (o : Option EndView). holds (λ e. e.handle == d.handle) o) e ∙ h

    by : (o : Option LinkView) → find (has_name role name) va.links ≡ o → kept (shape o) ≡ m.theirs → ⊥
    by None f e = no-handle m.theirs (sym e) (found-passes (has_peer_handle d.handle) vb.links m found)
    by (Some l) f e =
        let mine : has_handle d.handle l ≡ true = kept-ours l.left l.ours m.theirs e (found-passes (has_peer_handle d.handle) vb.links m found) in
        let one = by-handle va d.handle (has_name role name) l sa f mine in
        let two = by-handle va d.handle x.test x.link sa x.found (its-handle x.link.ours d.handle (attached-ours x.link x.attached) x.handle) in
        let same : l ≡ x.link = (let e : ◌≡◌ {A = Option LinkView} (Some l) (Some x.link) = sym one ∙ two in cc e) in
        let named : has_name role name x.link ≡ true = ap (has_name role name) (sym same) ∙ found-passes (has_name role name) va.links l f in
        let un = x.unnamed in
        absurd (cc (named, un))

apart-idle : (role : Role) (name : List ℕ) (va vb : View) (o : Option Performative) → IsSound va → IsSound vb → kept (slot_of role name va.links) ≡ (slot_of (opposite role) name vb.links).theirs
    → IsApartIn role name va o → learns (body_act (opposite role) name vb o) ≡ None
apart-idle role name va vb (Some (heard.Attach b)) sa sb k a = let o = opposite-same role b.role in rw (o, a) refl
apart-idle role name va vb (Some (heard.Detach d)) sa sb k x = by (find (has_peer_handle d.handle) vb.links) refl
  where
    by : (o : Option LinkView) → find (has_peer_handle d.handle) vb.links ≡ o → learns (on_named (opposite role) name goes o) ≡ None
    by None f = refl
    by (Some m) f =
        by-bool (has_name (opposite role) name m)
        (λ (n : has_name (opposite role) name m ≡ true). absurd (other-unmet role name va vb d sa sb x k m f n))
        (λ (n : has_name (opposite role) name m ≡ false). rw n refl)
apart-idle role name va vb _ sa sb k x = refl

met-goes : (role' : Role) (name : List ℕ) (vb : View) (d : DetachBody) → IsMet role' name vb d.handle → body_act role' name vb (Some (heard.Detach d)) ≡ goes
met-goes role' name vb d m = let f = m.found in let n = found-passes (has_name role' name) vb.links m.link m.named in rw (f, n) refl

does-pass : (role : Role) (name : List ℕ) (va vb after' : View) (act : Act EndView) (f : Frame) (sent : Option Frame) → Doing role name va after' act sent → sent ≡ Some f → IsSound va → IsSound vb
    → kept (slot_of role name va.links) ≡ (slot_of (opposite role) name vb.links).theirs → learns (body_act (opposite role) name vb f.body) ≡ tells act (slot_of role name va.links)
does-pass role name va vb after' act f sent (idles is same apart) e sa sb k =
    let here : IsApartIn role name va f.body = subst (λ (o : Option Frame). IsApart role name va o) e apart in
    rw is (apart-idle role name va vb f.body sa sb k here)
does-pass role name va vb after' act f sent (asking b g takes is s body n free to) e sa sb k =
    let one : g ≡ f = (let x : ◌≡◌ {A = Option Frame} (Some g) (Some f) = sym s ∙ e in cc x) in
    let here : f.body ≡ Some (heard.Attach b) = ap (λ (f : Frame). f.body) (sym one) ∙ body in
    let o = opposite-same role b.role in
    rw (is, here, o, n) refl
does-pass role name va vb after' act f sent (meeting b takes is s free to) e sa sb k = absurd (cc (s, e))
does-pass role name va vb after' act f sent (leaving l g d is s body h at' there attached' to) e sa sb k =
    let one : g ≡ f = (let x : ◌≡◌ {A = Option Frame} (Some g) (Some f) = sym s ∙ e in cc x) in
    let here : f.body ≡ Some (heard.Detach d) = ap (λ (f : Frame). f.body) (sym one) ∙ body in
    let m = is-met (opposite role) name vb l d.handle sb attached' h (ap (λ (s : Slot EndView). kept s) (sym at') ∙ k) in
    rw (is, here, met-goes (opposite role) name vb d m) refl
does-pass role name va vb after' act f sent (going l d is s h at' there theirs to) e sa sb k =
    by-bool (is_attached l)
    (λ (t : is_attached l ≡ true).
    let s' = rw t at s in
    let one : frame_of (Some (heard.Detach d)) [] ≡ f = (let x : ◌≡◌ {A = Option Frame} (Some (frame_of (Some (heard.Detach d)) [])) (Some f) = sym s' ∙ e in cc x) in
    let here : f.body ≡ Some (heard.Detach d) = ap (λ (f : Frame). f.body) (sym one) in
    let m = is-met (opposite role) name vb l d.handle sb t h (ap (λ (s : Slot EndView). kept s) (sym at') ∙ k) in
    let open' : attached (slot_of role name va.links) ≡ true = ap (λ (s : Slot EndView). attached s) at' ∙ t in
    rw (is, here, met-goes (opposite role) name vb d m, open') refl)
    (λ (u : is_attached l ≡ false). let s' = rw u at s in absurd (cc (s', e)))

-- what is heard where the session is not over is not dropped
pub heard-act : (role : Role) (name : List ℕ) (v : View) (step : Step) (sent : Option Frame) (f : Frame) → is_over v.session ≡ false → frame_in step ≡ Some f → step_act role name v step sent ≡ body_act role name v f.body
heard-act role name v (Opened told) sent f o is = absurd (cc (is))
heard-act role name v (Own op) sent f o is = absurd (cc (is))
heard-act role name v (Heard g) sent f o is =
    let one : g ≡ f = cc is in
    let unsent : v.session.end_sent ≡ false = (or-none v.session.end_sent v.session.end_heard o).0 in
    let kept' : is_dropped v g.body ≡ false = rw unsent refl in
    rw kept' (ap (λ (f : Frame). body_act role name v f.body) one)

pub acts : slots.Acts sends hears IsFair Meets st act Lives
acts =
    record {
      flips = λ i j m. (let o : j.0 ≡ opposite i.0 = m.0 in twice i.0 ∙ ap opposite (sym o), sym m.1);
      starts = λ i c. refl;
      goes_on = goes-on;
      legal = λ i c e past h lives.
          let m = one-more i c e past h in
          legal-by (act i c e past) (st i c past) (does-free i.0 i.1 (at c past) (next (at c past) e.step) (act i c e past) (sends e) m.does) (well i c past h.0 (lives-goes e past lives).lived);
      gone = λ i c e past h is. does-gone i.0 i.1 (at c past) (next (at c past) e.step) (act i c e past) (sends e) (one-more i c e past h).does is;
      silent = λ i c e past h none. does-silent i.0 i.1 (at c past) (next (at c past) e.step) (act i c e past) (sends e) (one-more i c e past h).does none;
      mute = λ i c e past l none. mute-by i.0 i.1 (at c past) e.step (sends e) l none;
      deaf = λ i c e past none. deaf-by i.0 i.1 (at c past) e.step (sends e) none;
      passes = λ i j ca cb e e' a b f m ha hb lives k sent heard'.
          let x = one-more i ca e a ha in
          let y = one-more j cb e' b hb in
          let r = m.0 in
          let n = m.1 in
          let k' : kept (slot_of i.0 i.1 (at ca a).links) ≡ (slot_of (opposite i.0) i.1 (at cb b).links).theirs =
          k ∙ (ap (λ (x : Role). (slot_of x j.1 (at cb b).links).theirs) r ∙ ap (λ (x : List ℕ). (slot_of (opposite i.0) x (at cb b).links).theirs) n) in
          let o = (lives-goes e' b lives).lived in
          let acts' = heard-act j.0 j.1 (at cb b) e'.step (sends e') f o heard' in
          ap learns acts' ∙ rw (r, n) (does-pass i.0 i.1 (at ca a) (at cb b) (next (at ca a) e.step) (act i ca e a) f (sends e) x.does sent x.sound y.sound k');
      lived = λ e past lives. (lives-goes e past lives).lived;
      behind = λ ca cb n a b t lives. behind-lives ca cb n a b t lives;
    }
  where
    twice : (r : Role) → r ≡ opposite (opposite r)
    twice Sender = refl
    twice Receiver = refl

-- where b has heard all that a sent, and b's session is not over, the slots of a role and of the opposite one agree
pub record SlotsAgree (role : Role) (name : List ℕ) (va vb : View) : Type 0 where
  pub asked : kept (slot_of role name va.links) ≡ (slot_of (opposite role) name vb.links).theirs
  pub answered : (g : EndView) → (slot_of role name va.links).theirs ≡ Some g → (slot_of role name va.links).left ≡ false → (slot_of (opposite role) name vb.links).ours ≡ Some g

pub slots-known : (ca cb : Config) (n : ℕ) (a b : List Entry) → Tight ca cb n a b → is_over (session_at (live b)) ≡ false → (role : Role) (name : List ℕ) → SlotsAgree role name (at ca a) (at cb b)
slots-known ca cb n a b t lives role name =
    let k = slots.slot-agrees sends hears IsFair Meets st act Lives acts ca cb n a b t (role, name) (opposite role, name) (refl, refl) lives in
    record { asked = k.asked; answered = λ g s l. (k.met g s l).1 }
