-- As long as an attached link is not left, the link of its name at the other end is the same one.
use Rattle.std.proofs.Common.{suc, ◌≡◌, ◌⊎◌, inl, inr, ◌≤◌, ◌<◌, ℕ, ◌+◌, Bool, true, false, Option, Some, None, List, [], ◌∷◌, arith, refl, sym, ap, ◌∙◌, subst, find, is_some}
use Rattle.amqp_performatives.specs.declared.bodies.Role.{Role}
use Rattle.amqp_performatives.specs.declared.bodies.Role.TheVariants.{Sender, Receiver}
use Rattle.amqp_frames.specs.declared.frame.Frame.{Frame}
use Rattle.amqp_rules.specs.declared.config.Config.{Config}
use Rattle.amqp_rules.specs.View.{EndView, LinkView, View, has_name, has_number}
use Rattle.amqp_rules.specs.Sound.{IsSound}
use Rattle.amqp_laws.specs.declared.entry.Entry.{Entry}
use Rattle.amqp_laws.specs.At.{at}
use Rattle.amqp_laws.specs.Lawful.{next}
use Rattle.amqp_pair_laws.proofs.Plain.{due}
use Rattle.amqp_pair_laws.specs.Moves.{IsTail, count}
use Rattle.amqp_pair_laws.specs.World.{IsFair, Moves, Tight, World, hears, sends}
use Rattle.amqp_pair_laws.proofs.Lag as lag
use Rattle.amqp_pair_laws.proofs.Slots.{kept}
use Rattle.amqp_pair_laws.proofs.SlotOf.{shape, slot_of}
use Rattle.amqp_pair_laws.proofs.Named.{found-passes, name-self, named-found, named-is}
use Rattle.amqp_pair_laws.proofs.SlotActs.{AllFair, Lives, OneMore, one-more, slots-known}
use Rattle.amqp_pair_laws.proofs.Windows.{lives-goes}
use Rattle.amqp_pair_laws.proofs.Over.{behind-lives}
use Rattle.amqp_pair_laws.proofs.Tallies.{link}
use Rattle.amqp_pair_laws.proofs.CountsKnown.{same-some}
use Rattle.amqp_pair_laws.proofs.CountsKept.{fair-both}
use Rattle.amqp_pair_laws.proofs.CountsPass.{kept-left-none, kept-left-some}
use Rattle.amqp_pair_laws.proofs.HeldKnown.{one-sound}
use Rattle.amqp_pair_laws.proofs.Members.{In}
use Rattle.amqp_pair_laws.proofs.LinkSteps.{by-number}
use Rattle.amqp_pair_laws.proofs.ReadySteps.{From, New, found-in, ready-step}
use Rattle.amqp_pair_laws.proofs.Unused.{IsUsed, below, comes, its-theirs, used-later}
use Rattle.amqp_pair_laws.proofs.TakenKnown.{FirstWas, asked, first-was, other-was, was}
use Rattle.amqp_pair_laws.proofs.TakenEver.{self-tail}
use Rattle.amqp_pair_laws.proofs.SaidKnown.{fair-tail}

-- # Earlier states

pub sends-grow : (early past : List Entry) → IsTail early past → count sends early ≤ count sends past
sends-grow early past t = lag.tail-grows (λ p. count sends p) (λ e p. lag.and_one-grows (sends e) (count sends p)) early past t

pub hears-grow : (early past : List Entry) → IsTail early past → count hears early ≤ count hears past
hears-grow early past t = lag.tail-grows (λ p. count hears p) (λ e p. lag.and_one-grows (hears e) (count hears p)) early past t

-- an attach that was heard stays with the number of its link
used-since : (c : Config) (k : ℕ) (early past : List Entry) → IsTail early past → AllFair c past → Lives past → IsUsed (at c early) k its-theirs → IsUsed (at c past) k its-theirs
used-since c k early [] t fair lives u = subst (λ (p : List Entry). IsUsed (at c p) k its-theirs) t u
used-since c k early (e ∷ past) (inl t) fair lives u = subst (λ (p : List Entry). IsUsed (at c p) k its-theirs) t u
used-since c k early (e ∷ past) (inr t) fair lives u =
    let lp = (lives-goes e past lives).lived in
    let o = one-more (Sender, []) c e past fair in
    let before = used-since c k early past t fair.0 lp u in
    subst (λ (v : View). IsUsed v k its-theirs) (sym o.goes_on)
    (used-later (at c past) e.step e.reply.given k its-theirs (ready-step (at c past) e.step e.reply (due fair.1) lp o.sound) o.sound (λ m f h. f.theirs h) before)

used-now : (v : View) (P : LinkView → Bool) (y : LinkView) → IsSound v → find P v.links ≡ Some y → is_some y.theirs ≡ true → IsUsed v y.number its-theirs
used-now v P y s found some =
    record {
      made = below v y s (found-in P v.links y found);
      attach = λ l h. (let one : y ≡ l = same-some (find (has_number y.number) v.links) y l (by-number v P y s found) h in ap (λ (l : LinkView). is_some l.theirs) (sym one) ∙ some);
    }

-- a link that is not left was not left before
pub unleft-before : (c : Config) (e : Entry) (past : List Entry) (name : List ℕ) (y y' : LinkView) → AllFair c (e ∷ past) → Lives past → link (Receiver, name) c past ≡ Some y → link (Receiver, name) c (e ∷ past) ≡ Some y' → y'.number ≡ y.number → y'.left ≡ false → y.left ≡ false
unleft-before c e past name y y' fair lp found to number unleft = by (comes v (next v e.step) e.step e.reply.given (ready-step v e.step e.reply (due fair.1) lp o.sound) o.sound y' there)
  where
    v : View
    v = at c past

    o : OneMore (Receiver, name) c e past
    o = one-more (Receiver, name) c e past fair

    there : In y' (next v e.step).links
    there = found-in (has_name Receiver name) (next v e.step).links y' (ap (λ (v : View). find (has_name Receiver name) v.links) (sym o.goes_on) ∙ to)

    by : From v y' ⊎ New v y' → y.left ≡ false
    by (inl f) =
        let one : f.before ≡ y = same-some (find (has_number y'.number) v.links) f.before y f.found (ap (λ n. find (has_number n) v.links) number ∙ by-number v (has_name Receiver name) y o.sound found) in
        ap (λ (l : LinkView). l.left) (sym one) ∙ f.unleft unleft
    by (inr new) =
        let few : y.number < v.made = below v y o.sound (found-in (has_name Receiver name) v.links y found) in
        let at-made : y'.number ≡ v.made = new.number in
        absurd (omega (arith, few, at-made, number))

-- # The claim

-- a1, b1: earlier states, in which b had heard all that a had sent, and b the link y
abbrev pub SourceAgree : Config → Config → List Entry → List Entry → Type 0
SourceAgree ca cb a b =
    Lives b → (name : List ℕ) (x y : LinkView) → link (Sender, name) ca a ≡ Some x → link (Receiver, name) cb b ≡ Some y → is_some x.ours ≡ true → x.left ≡ false → y.left ≡ false
    → (a1 b1 : List Entry) (x1 y1 : LinkView) → IsTail a1 a → IsTail b1 b → count sends a1 ≡ count hears b1 → link (Sender, name) ca a1 ≡ Some x1 → link (Receiver, name) cb b1 ≡ Some y1 → is_some y1.theirs ≡ true → y1.number ≡ y.number
    → x1.number ≡ x.number

-- in the same state it is the same
now-same : (c : Config) (name : List ℕ) (a1 a : List Entry) (x1 x : LinkView) → a1 ≡ a → link (Sender, name) c a1 ≡ Some x1 → link (Sender, name) c a ≡ Some x → x1.number ≡ x.number
now-same c name a1 a x1 x same f1 fx = ap (λ (l : LinkView). l.number) (same-some (link (Sender, name) c a) x1 x (ap (λ p. link (Sender, name) c p) (sym same) ∙ f1) fx)

source-quiet : (ca cb : Config) (n : ℕ) (e : Entry) (a b : List Entry) → World ca cb (suc n) (e ∷ a) b → Tight ca cb n a b → sends e ≡ None → SourceAgree ca cb a b → SourceAgree ca cb (e ∷ a) b
source-quiet ca cb n e a b w t silent k lives name x' y fx fy ours unleft unleft' a1 b1 x1 y1 ta tb all f1 g1 theirs number = by ta
  where
    on : IsTail a1 a → FirstWas ca e a name x' → x1.number ≡ x'.number
    on ta (was x found some stays same) = k lives name x y found fy some stays unleft' a1 b1 x1 y1 ta tb all f1 g1 theirs number ∙ sym same
    on ta (asked b' f' h sent body free at') = absurd (cc (sent, silent))

    by : (a1 ≡ e ∷ a) ⊎ IsTail a1 a → x1.number ≡ x'.number
    by (inl same) = now-same ca name a1 (e ∷ a) x1 x' same f1 fx
    by (inr ta) = on ta (first-was ca e a name x' (fair-both ca cb (suc n) (e ∷ a) b w).0 (behind-lives ca cb n a b t lives) fx ours unleft)

source-ahead : (ca cb : Config) (n : ℕ) (e : Entry) (a b : List Entry) → World ca cb (suc n) a (e ∷ b) → Tight ca cb n a b → hears e ≡ None → SourceAgree ca cb a b → SourceAgree ca cb a (e ∷ b)
source-ahead ca cb n e a b w t deaf k lives name x y' fx fy ours unleft unleft' a1 b1 x1 y1 ta tb all f1 g1 theirs number = by tb
  where
    fb : AllFair cb (e ∷ b)
    fb = (fair-both ca cb (suc n) a (e ∷ b) w).1

    lb : Lives b
    lb = (lives-goes e b lives).lived

    by : (b1 ≡ e ∷ b) ⊎ IsTail b1 b → x1.number ≡ x.number
    by (inl same) =
        let z = other-was ca cb n a e b name x y' t lb fb fx ours unleft fy unleft' in
        let slot = slots-known ca cb n a b t lb Sender name in
        let some : is_some z.link'.theirs ≡ true = ap (λ (o : Option EndView). is_some o) (sym (sym (kept-left-some x.left x.ours unleft) ∙ ap (λ o. kept (shape o)) (sym fx) ∙ slot.asked ∙ ap (λ o. (shape o).theirs) z.found)) ∙ ours in
        let all' : count sends a1 ≡ count hears b = all ∙ ap (λ p. count hears p) same ∙ (rw deaf refl) in
        k lb name x z.link' fx z.found ours unleft (unleft-before cb e b name z.link' y' fb lb z.found fy z.number unleft') a1 b x1 z.link' ta (self-tail b) all' f1 z.found some refl
    by (inr tb) =
        let z = other-was ca cb n a e b name x y' t lb fb fx ours unleft fy unleft' in
        k lb name x z.link' fx z.found ours unleft (unleft-before cb e b name z.link' y' fb lb z.found fy z.number unleft') a1 b1 x1 y1 ta tb all f1 g1 theirs (number ∙ z.number)

source-pass : (ca cb : Config) (n : ℕ) (e : Entry) (a : List Entry) (e' : Entry) (b : List Entry) (f : Frame) → World ca cb (suc n) (e ∷ a) b → Tight ca cb n a b → Moves cb e' b (e ∷ a) → sends e ≡ Some f → hears e' ≡ Some f → SourceAgree ca cb a b
    → SourceAgree ca cb (e ∷ a) (e' ∷ b)
source-pass ca cb n e a e' b f world t m' sent heard k lives name x' y' fx fy ours unleft unleft' a1 b1 x1 y1 ta tb all f1 g1 theirs number = by ta tb
  where
    fb : AllFair cb (e' ∷ b)
    fb = ((fair-both ca cb (suc n) (e ∷ a) b world).1, m'.fair)

    lb : Lives b
    lb = (lives-goes e' b lives).lived

    sent-more : count sends (e ∷ a) ≡ count sends a + 1
    sent-more = rw sent refl

    heard-more : count hears (e' ∷ b) ≡ count hears b + 1
    heard-more = rw heard refl

    v : View
    v = at cb b

    o : OneMore (Receiver, name) cb e' b
    o = one-more (Receiver, name) cb e' b fb

    there : In y' (next v e'.step).links
    there = found-in (has_name Receiver name) (next v e'.step).links y' (ap (λ (v : View). find (has_name Receiver name) v.links) (sym o.goes_on) ∙ fy)

    -- our attach passes, so the other end had not heard one of this link
    fresh : (slot_of Sender name (at ca a).links).ours ≡ None → IsTail b1 b → ⊥
    fresh free tb =
        let u1 = used-now (at cb b1) (has_name Receiver name) y1 (one-sound cb b1 (fair-tail cb b1 b tb fb.0)) g1 theirs in
        let u = used-since cb y'.number b1 b tb fb.0 lb (subst (λ (k : ℕ). IsUsed (at cb b1) k its-theirs) number u1) in
        on u (comes v (next v e'.step) e'.step e'.reply.given (ready-step v e'.step e'.reply (due fb.1) lb o.sound) o.sound y' there)
      where
        on : IsUsed v y'.number its-theirs → From v y' ⊎ New v y' → ⊥
        on u (inl g) =
            let n1 = named-is Receiver name y' (found-passes (has_name Receiver name) (at cb (e' ∷ b)).links y' fy) in
            let l = g.before in
            let named : has_name Receiver name l ≡ true = ap (λ (r : Role). has_name r name l) (n1.role_is ∙ g.role) ∙ ap (λ n. has_name l.role n l) (n1.name_is ∙ g.name) ∙ name-self l.role l.name in
            let found = named-found Receiver name (has_number y'.number) v.links l o.sound.links.names g.found named in
            let slot = slots-known ca cb n a b t lb Sender name in
            let none : l.theirs ≡ None = ap (λ o. (shape o).theirs) (sym found) ∙ sym slot.asked ∙ kept-left-none (slot_of Sender name (at ca a).links).left (slot_of Sender name (at ca a).links).ours free in
            let no : is_some l.theirs ≡ false = ap (λ (o : Option EndView). is_some o) none in
            let some = u.attach l g.found in
            absurd (cc (some, no))
        on u (inr new) = let few : y'.number < v.made = u.made in let at-made : y'.number ≡ v.made = new.number in absurd (omega (arith, few, at-made))

    on : IsTail a1 a → IsTail b1 b → FirstWas ca e a name x' → x1.number ≡ x'.number
    on ta tb (was x found some stays same) =
        let z = other-was ca cb n a e' b name x y' t lb fb found some stays fy unleft' in
        k lb name x z.link' found z.found some stays (unleft-before cb e' b name z.link' y' fb lb z.found fy z.number unleft') a1 b1 x1 y1 ta tb all f1 g1 theirs (number ∙ z.number) ∙ sym same
    on ta tb (asked b' f' j s body free at') = absurd (fresh free tb)

    by : (a1 ≡ e ∷ a) ⊎ IsTail a1 a → (b1 ≡ e' ∷ b) ⊎ IsTail b1 b → x1.number ≡ x'.number
    by (inl same) tb = now-same ca name a1 (e ∷ a) x1 x' same f1 fx
    by (inr ta) (inl same) =
        let few = sends-grow a1 a ta in
        let one : count hears b1 ≡ count hears b + 1 = ap (λ p. count hears p) same ∙ heard-more in
        let tight : count sends a ≡ count hears b = t.tight in
        absurd (omega (arith, few, one, tight, all))
    by (inr ta) (inr tb) = on ta tb (first-was ca e a name x' (fair-both ca cb (suc n) (e ∷ a) b world).0 (behind-lives ca cb n a b t lb) fx ours unleft)

source-kept : lag.IsKept sends hears IsFair SourceAgree
source-kept =
    record {
      starts = λ ca cb lives name x y f. absurd (cc (f));
      quiet = λ ca cb n e a b known w t m silent k. source-quiet ca cb n e a b w t silent k;
      ahead = λ ca cb n e a b known w t m deaf k. source-ahead ca cb n e a b w t deaf k;
      pass = λ ca cb n e a e' b f known w t m m' sent heard k. source-pass ca cb n e a e' b f w t m' sent heard k;
    }

-- where b has heard all that a sent, and its session is not over, the link of a's is the one of each earlier state since b heard its attach
pub source-known : (ca cb : Config) (n : ℕ) (a b : List Entry) → Tight ca cb n a b → SourceAgree ca cb a b
source-known ca cb n a b t = lag.exact sends hears IsFair SourceAgree source-kept ca cb n a b t
