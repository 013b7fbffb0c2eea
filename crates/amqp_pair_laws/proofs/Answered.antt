-- A detach is answered by a detach, and no answer is answered: so where nothing is on its way no link is left that is not gone.
use Rattle.std.proofs.Common.{zero, suc, inl, inr, ◌≡◌, ℕ, ◌+◌, ◌&&◌, Bool, true, false, not, cond, Option, Some, None, List, [], ◌∷◌, arith, refl, sym, ap, ◌∙◌, subst, find, is_some}
use Rattle.amqp_performatives.specs.declared.bodies.Role.{Role}
use Rattle.amqp_performatives.specs.declared.bodies.Role.TheVariants.{Sender, Receiver}
use Rattle.amqp_frames.specs.declared.frame.Frame.{Frame}
use Rattle.amqp_rules.specs.declared.config.Config.{Config}
use Rattle.amqp_rules.specs.View.{EndView, LinkView, View, has_name, opposite}
use Rattle.amqp_rules.proofs.Listed.{by-bool}
use Rattle.amqp_laws.specs.declared.entry.Entry.{Entry}
use Rattle.amqp_laws.specs.At.{at}
use Rattle.amqp_laws.specs.Lawful.{next}
use Rattle.amqp_pair_laws.specs.Moves.{IsNext, count, said_as}
use Rattle.amqp_pair_laws.specs.World.{IsFair, Moves, Tight, World, hears, sends}
use Rattle.amqp_pair_laws.proofs.Lag as lag
use Rattle.amqp_pair_laws.proofs.Slots.{Act, IsLegal, Message, Slot, after, asks, attach, attached, detach, goes, idle, learns, leaves, meets, tells}
use Rattle.amqp_pair_laws.proofs.SlotKept as slots
use Rattle.amqp_pair_laws.proofs.SlotOf.{shape, slot_of}
use Rattle.amqp_pair_laws.proofs.Doing.{Doing, asking, going, idles, leaving, meeting}
use Rattle.amqp_pair_laws.proofs.SlotActs.{AllFair, Lives, Meets, act, acts, goes-on, one-more, st}
use Rattle.amqp_pair_laws.proofs.Windows.{lives-goes}
use Rattle.amqp_pair_laws.proofs.CountsKept.{fair-both}

-- # Detaches, counted along a journal

abbrev pub plus : Option (Message EndView) → ℕ → ℕ
plus None n = n
plus (Some (attach h)) n = n
plus (Some detach) n = n + 1

-- those that were sent in a slot, and those that were heard
abbrev pub left_sent : Role × List ℕ → Config → List Entry → ℕ
left_sent i c [] = 0
left_sent i c (e ∷ past) = plus (tells (act i c e past) (st i c past)) (left_sent i c past)

abbrev pub left_heard : Role × List ℕ → Config → List Entry → ℕ
left_heard i c [] = 0
left_heard i c (e ∷ past) = plus (learns (act i c e past)) (left_heard i c past)

-- one is owed to an end that has left
abbrev pub owed : Slot EndView → ℕ
owed s = cond s.left 1 0

-- # Each that was sent is heard

abbrev DetachesAgree : Config → Config → List Entry → List Entry → Type 0
DetachesAgree ca cb a b = Lives b → (i j : Role × List ℕ) → Meets i j → left_heard j cb b ≡ left_sent i ca a

detaches-kept : lag.IsKept sends hears IsFair DetachesAgree
detaches-kept =
    record {
      starts = λ ca cb lives i j m. refl;
      quiet = λ ca cb n e a b known w t mv silent k lives i j m.
          let fair = lag.all-fair sends hears IsFair ca cb (suc n) (e ∷ a) b w in
          let none = acts.silent i ca e a fair silent in
          k lives i j m ∙ sym (ap (λ o. plus o (left_sent i ca a)) none);
      ahead = λ ca cb n e a b known w t mv deaf k lives i j m.
          let none = acts.deaf j cb e b deaf in
          ap (λ o. plus o (left_heard j cb b)) none ∙ k (lives-goes e b lives).lived i j m;
      pass = λ ca cb n e a e' b f known w t mv mv' sent heard' k lives i j m.
          let fair = lag.all-fair sends hears IsFair ca cb (suc n) (e ∷ a) b w in
          let fair' : AllFair cb (e' ∷ b) = ((fair-both ca cb n a b t.world).1, mv'.fair) in
          let lb = (lives-goes e' b lives).lived in
          let agree = slots.slot-agrees sends hears IsFair Meets st act Lives acts ca cb n a b t i j m lb in
          let told = acts.passes i j ca cb e e' a b f m fair fair' lives agree.asked sent heard' in
          ap (λ o. plus o (left_heard j cb b)) told ∙ ap (plus (tells (act i ca e a) (st i ca a))) (k lb i j m);
    }

pub detaches-known : (ca cb : Config) (n : ℕ) (a b : List Entry) → Tight ca cb n a b → DetachesAgree ca cb a b
detaches-known ca cb n a b t = lag.exact sends hears IsFair DetachesAgree detaches-kept ca cb n a b t

-- # Each end sends one for each that it hears, and one more where it has left

balance-goes : (o t : Option EndView) (left' : Bool) (sent heard : ℕ) → is_some o ≡ true → is_some t ≡ true → sent ≡ heard + cond left' 1 0
    → plus (cond ((is_some o && is_some t) && not left') (Some detach) None) sent ≡ (heard + 1) + 0
balance-goes None t l sent heard ho ht e = absurd (cc (ho))
balance-goes (Some o) None l sent heard ho ht e = absurd (cc (ht))
balance-goes (Some o) (Some t) true sent heard ho ht e = omega (arith, e)
balance-goes (Some o) (Some t) false sent heard ho ht e = omega (arith, e)

unleft-of : (o t : Option EndView) (left' : Bool) → (is_some o && is_some t) && not left' ≡ true → left' ≡ false
unleft-of (Some o) (Some t) true h = absurd (cc (h))
unleft-of (Some o) (Some t) false h = refl
unleft-of (Some o) None l h = absurd (cc (h))
unleft-of None t l h = absurd (cc (h))

balance : (act : Act EndView) (s : Slot EndView) (sent heard : ℕ) → IsLegal act s → (act ≡ goes → (is_some s.ours ≡ true) × (is_some s.theirs ≡ true)) → sent ≡ heard + owed s
    → plus (tells act s) sent ≡ plus (learns act) heard + owed (after act s)
balance idle s sent heard legal ends e = e
balance (asks h) s sent heard legal ends e = e
balance (meets h) s sent heard legal ends e = e
balance leaves s sent heard legal ends e =
    let f = unleft-of s.ours s.theirs s.left legal in
    by s.left f e
  where
    by : (l : Bool) → l ≡ false → sent ≡ heard + cond l 1 0 → sent + 1 ≡ heard + 1
    by true f e = absurd (cc (f))
    by false f e = omega (arith, e)
balance goes s sent heard legal ends e = balance-goes s.ours s.theirs s.left sent heard (ends refl).0 (ends refl).1 e

-- a detach is sent from an attached link
tells-attached : (role : Role) (name : List ℕ) (v after' : View) (act : Act EndView) (sent : Option Frame) → Doing role name v after' act sent → tells act (slot_of role name v.links) ≡ Some detach
    → attached (slot_of role name v.links) ≡ true
tells-attached role name v after' act sent (idles is same apart) h = let k = rw is at h in absurd (cc k)
tells-attached role name v after' act sent (asking b f takes is s body n free to) h = let k = rw is at h in absurd (cc k)
tells-attached role name v after' act sent (meeting b takes is s free to) h = let k = rw is at h in absurd (cc k)
tells-attached role name v after' act sent (leaving l f d is s body h' at' there attached' to) h = ap (λ (s : Slot EndView). attached s) at' ∙ attached'
tells-attached role name v after' act sent (going l d is s h' at' there theirs to) h =
    by-bool (attached (slot_of role name v.links))
    (λ (t : attached (slot_of role name v.links) ≡ true). t)
    (λ (f : attached (slot_of role name v.links) ≡ false). let k = rw (is, f) at h in absurd (cc k))

pub opposite-twice : (r : Role) → r ≡ opposite (opposite r)
opposite-twice Sender = refl
opposite-twice Receiver = refl

some-is : (o : Option EndView) (l : Bool) → is_some o ≡ true → (g : EndView) × (o ≡ Some g)
some-is None l h = absurd (cc (h))
some-is (Some g) l h = (g, refl)

-- a link that a detach ends was attached, or left, at this end
ours-there : (ca cb : Config) (n : ℕ) (e : Entry) (a b : List Entry) → World ca cb n a b → Moves ca e a b → Lives (e ∷ a) → (i : Role × List ℕ) → act i ca e a ≡ goes → is_some (st i ca a).ours ≡ true
ours-there ca cb n e a b w m lives i is = by (hears e) refl
  where
    lp : Lives a
    lp = (lives-goes e a lives).lived

    by : (o : Option Frame) → hears e ≡ o → is_some (st i ca a).ours ≡ true
    by None none =
        let told = acts.deaf i ca e a none in
        let gone = ap (λ (x : Act EndView). learns x) is in
        absurd (cc (told, gone))
    by (Some f) some =
        let j : Role × List ℕ = (opposite i.0, i.1) in
        let next' : said_as sends (count hears a) b ≡ Some f = subst (λ (o : Option Frame). IsNext sends hears IsFair o a b) some m.next in
        let back = lag.swapped sends hears IsFair ca cb n a b w in
        let x = lag.waits sends hears IsFair cb ca n b a f back next' in
        let tight : count sends x.before ≡ count hears a = x.tight in
        let before : Tight cb ca x.moves x.before a = record { world = lag.cut sends hears IsFair cb ca x.moves x.entry x.before a x.world (omega (arith, tight)); tight = tight } in
        let fair = lag.all-fair sends hears IsFair cb ca (suc x.moves) (x.entry ∷ x.before) a x.world in
        let fair' : AllFair ca (e ∷ a) = ((fair-both ca cb n a b w).0, m.fair) in
        let one : Meets j i = (opposite-twice i.0, refl) in
        let agree = slots.slot-agrees sends hears IsFair Meets st act Lives acts cb ca x.moves x.before a before j i one lp in
        let told = acts.passes j i cb ca x.entry e x.before a f one fair fair' lives agree.asked x.sent some in
        let detached : tells (act j cb x.entry x.before) (st j cb x.before) ≡ Some detach = sym told ∙ ap (λ (x : Act EndView). learns x) is in
        let open' = tells-attached j.0 j.1 (at cb x.before) (next (at cb x.before) x.entry.step) (act j cb x.entry x.before) (sends x.entry) (one-more j cb x.entry x.before fair).does detached in
        let s = parts (st j cb x.before).ours (st j cb x.before).theirs (st j cb x.before).left open' in
        let ours = (agree.met s.0 s.1 s.2).1 in
        ap (λ (o : Option EndView). is_some o) ours
      where
        parts : (o t : Option EndView) (l : Bool) → (is_some o && is_some t) && not l ≡ true → (g : EndView) × (t ≡ Some g) × (l ≡ false)
        parts (Some o) (Some t) false h = (t, refl, refl)
        parts (Some o) (Some t) true h = absurd (cc (h))
        parts (Some o) None l h = absurd (cc (h))
        parts None t l h = absurd (cc (h))

abbrev Balanced : Config → List Entry → Type 0
Balanced c past = Lives past → (i : Role × List ℕ) → left_sent i c past ≡ left_heard i c past + owed (st i c past)

balanced-more : (ca cb : Config) (n : ℕ) (e : Entry) (a b : List Entry) → World ca cb n a b → Moves ca e a b → Balanced ca a → Balanced ca (e ∷ a)
balanced-more ca cb n e a b w m k lives i =
    let lp = (lives-goes e a lives).lived in
    let fair : AllFair ca (e ∷ a) = ((fair-both ca cb n a b w).0, m.fair) in
    subst (λ (s : Slot EndView). plus (tells (act i ca e a) (st i ca a)) (left_sent i ca a) ≡ plus (learns (act i ca e a)) (left_heard i ca a) + owed s) (sym (goes-on i ca e a fair lives))
    (balance (act i ca e a) (st i ca a) (left_sent i ca a) (left_heard i ca a) (acts.legal i ca e a fair lives)
    (λ is. (ours-there ca cb n e a b w m lives i is, acts.gone i ca e a fair is)) (k lp i))

pub balanced : (ca cb : Config) (n : ℕ) (a b : List Entry) → World ca cb n a b → Balanced ca a
balanced ca cb zero [] b w = λ lives i. refl
balanced ca cb zero (e ∷ a) b w = absurd (w.0)
balanced ca cb (suc n) [] b (inl w) = absurd w
balanced ca cb (suc n) (e ∷ a) b (inl w) = balanced-more ca cb n e a b w.0 w.1 (balanced ca cb n a b w.0)
balanced ca cb (suc n) a [] (inr w) = absurd w
balanced ca cb (suc n) a (e ∷ b) (inr w) = balanced ca cb n a b w.0

-- # At rest

none-owed : (s h t g x y : ℕ) → g ≡ s → h ≡ t → s ≡ h + x → t ≡ g + y → x ≡ 0
none-owed s h t g x y p q e f = omega (arith, p, q, e, f)

unleft : (o : Option LinkView) (x : LinkView) → o ≡ Some x → owed (shape o) ≡ 0 → x.left ≡ false
unleft o x is e = by x.left (sym (ap (λ o. owed (shape o)) is) ∙ e)
  where
    by : (l : Bool) → ◌≡◌ {A = ℕ} (cond l 1 0) 0 → l ≡ false
    by true e = absurd (cc (e))
    by false e = refl

-- where each has heard all that the other sent, no link is left
pub none-left : (ca cb : Config) (n : ℕ) (a b : List Entry) → Tight ca cb n a b → Tight cb ca n b a → Lives a → Lives b
    → (role : Role) (name : List ℕ) (x : LinkView) → find (has_name role name) (at ca a).links ≡ Some x → x.left ≡ false
none-left ca cb n a b t back la lb role name x fx =
    let i : Role × List ℕ = (role, name) in
    let j : Role × List ℕ = (opposite role, name) in
    let p = detaches-known ca cb n a b t lb i j (refl, refl) in
    let q = detaches-known cb ca n b a back la j i (opposite-twice role, refl) in
    let e = balanced ca cb n a b t.world la i in
    let f = balanced cb ca n b a back.world lb j in
    unleft (find (has_name role name) (at ca a).links) x fx
    (none-owed (left_sent i ca a) (left_heard i ca a) (left_sent j cb b) (left_heard j cb b) (owed (st i ca a)) (owed (st j cb b)) p q e f)
