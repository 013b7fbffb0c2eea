-- How many deliveries passed on the link of a role and a name, counted along a journal; what does not fall while the link stays.
use Rattle.std.proofs.Common.{◌≡◌, ◌≤◌, ◌<◌, inl, inr, ℕ, ◌+◌, ◌^◌, ◌&&◌, Bool, true, false, not, cond, Option, Some, None, List, [], ◌∷◌, arith, refl, sym, ap, ◌∙◌, subst, find, is_some, nat_le}
use Rattle.amqp_flow.specs.Serial.{distance, wire}
use Rattle.amqp_flow.specs.Credit.{CreditView, count_given, delivery_begun}
use Rattle.amqp_performatives.specs.declared.bodies.Role.{Role}
use Rattle.amqp_performatives.specs.declared.bodies.Role.TheVariants.{Sender, Receiver}
use Rattle.amqp_performatives.specs.declared.bodies.AttachBody.{AttachBody}
use Rattle.amqp_frames.specs.declared.frame.Frame.{Frame}
use Rattle.amqp_rules.specs.declared.config.Config.{Config}
use Rattle.amqp_rules.specs.View.{EndView, LinkView, View, has_name, is_attached, is_sender, new_link}
use Rattle.amqp_rules.specs.Attach.{attached_by_peer, attached_by_us, count_of}
use Rattle.amqp_laws.specs.declared.entry.Entry.{Entry}
use Rattle.amqp_laws.specs.Said.{body_heard}
use Rattle.amqp_laws.specs.At.{at}
use Rattle.amqp_laws.proofs.Twice.{and-both}
use Rattle.amqp_pair_laws.proofs.Plain.{due}
use Rattle.amqp_pair_laws.specs.Moves.{count, IsTail}
use Rattle.amqp_pair_laws.specs.World.{IsFair, hears, sends}
use Rattle.amqp_pair_laws.proofs.Lag as lag
use Rattle.amqp_pair_laws.proofs.Slots.{Act, Slot, added, after, idle, asks as asking, meets as meeting, leaves as leaving', goes as going}
use Rattle.amqp_pair_laws.proofs.SlotKept as slots
use Rattle.amqp_pair_laws.proofs.SlotOf.{shape}
use Rattle.amqp_pair_laws.proofs.SlotActs.{AllFair, Lives, Meets, act, goes-on, one-more, st}
use Rattle.amqp_pair_laws.proofs.Named.{found-passes, named-is, or_this}
use Rattle.amqp_pair_laws.proofs.Windows.{lives-goes}
use Rattle.amqp_pair_laws.proofs.Turns.{Goes, HeardNumbers, OwnNumbers, Turn, asks, away, both_ends, goes, hearing, leaving, meets, rests, sending, tells}
use Rattle.amqp_pair_laws.proofs.TurnHeard.{step-turn}

-- the link, where it is not gone
abbrev pub link : Role × List ℕ → Config → List Entry → Option LinkView
link i c past = find (has_name i.0 i.1) (at c past).links

abbrev pub grown : Option LinkView → Option LinkView → ℕ → ℕ
grown None m n = 0
grown (Some l) None n = 0
grown (Some l) (Some m) n = n + distance l.credit.passed m.credit.passed

-- how many deliveries passed on it
abbrev pub tally : Role × List ℕ → Config → List Entry → ℕ
tally i c [] = 0
tally i c (e ∷ past) = grown (link i c past) (link i c (e ∷ past)) (tally i c past)

pub turn-of : (i : Role × List ℕ) (c : Config) (e : Entry) (past : List Entry) → AllFair c (e ∷ past) → Turn i.0 i.1 (at c past) (at c (e ∷ past)) (body_heard e.step) (sends e)
turn-of i c e past h =
    let m = one-more i c e past h in
    subst (λ (v : View). Turn i.0 i.1 (at c past) v (body_heard e.step) (sends e)) (sym m.goes_on) (step-turn i.0 i.1 (at c past) e.step e.reply (due h.1) m.sound)

-- # Numbers

pub none-between : (p q : ℕ) → wire q ≡ wire p → distance p q ≡ 0
none-between p q e = omega (arith, e)

pub so-many : (p q j : ℕ) → wire q ≡ wire (p + j) → j < 2 ^ 32 → distance p q ≡ j
so-many p q j e small = omega (arith, e, small)

wire-on : (n p q : ℕ) → wire n ≡ wire p → wire (n + distance p q) ≡ wire q
wire-on n p q e = omega (arith, e)

-- # What holds of a link by its own journal

abbrev pub IsIdle : Role → LinkView → Type 0
IsIdle Sender l = is_some l.theirs ≡ false → l.credit.credit ≡ 0
IsIdle Receiver l = both_ends l ≡ false → l.credit.credit ≡ 0

abbrev pub IsSmall : Role → LinkView → Type 0
IsSmall Sender l = Unit {0}
IsSmall Receiver l = l.credit.credit ≤ 2147483647

pub record Tallied (role : Role) (l : LinkView) (n : ℕ) : Type 0 where
  pub told : wire n ≡ wire l.credit.passed
  pub fresh : both_ends l ≡ false → (n ≡ 0) × ((l.sending ≡ None) × (l.receiving ≡ None))
  pub idle' : IsIdle role l
  pub small : IsSmall role l

-- a link whose counts are those of another
pub record Same (l m : LinkView) : Type 0 where
  pub passed : m.credit.passed ≡ l.credit.passed
  pub credit : m.credit.credit ≡ l.credit.credit
  pub sending' : m.sending ≡ l.sending
  pub receiving' : m.receiving ≡ l.receiving

still : (n p q : ℕ) → q ≡ p → n + distance p q ≡ n
still n p q e = let k = none-between p q (ap wire e) in omega (arith, k)

same-told : (l m : LinkView) (n : ℕ) → wire n ≡ wire l.credit.passed → wire (n + distance l.credit.passed m.credit.passed) ≡ wire m.credit.passed
same-told l m n e = wire-on n l.credit.passed m.credit.passed e

idle-same : (role : Role) (l m : LinkView) → m.credit.credit ≡ l.credit.credit → (is_some m.theirs ≡ false → is_some l.theirs ≡ false) → (both_ends m ≡ false → both_ends l ≡ false) → IsIdle role l → IsIdle role m
idle-same Sender l m e t b k = λ h. e ∙ k (t h)
idle-same Receiver l m e t b k = λ h. e ∙ k (b h)

small-same : (role : Role) (l m : LinkView) → m.credit.credit ≡ l.credit.credit → IsSmall role l → IsSmall role m
small-same Sender l m e k = tt
small-same Receiver l m e k = let same = e in rw same k

-- one more of its attaches
joined-tallied : (role : Role) (l m : LinkView) (n : ℕ) → both_ends l ≡ false → (is_some m.theirs ≡ false → is_some l.theirs ≡ false) → Same l m → Tallied role l n → Tallied role m (n + distance l.credit.passed m.credit.passed)
joined-tallied role l m n apart t s k =
    let f = k.fresh apart in
    record {
      told = same-told l m n k.told;
      fresh = λ h. (still n l.credit.passed m.credit.passed s.passed ∙ f.0, (s.sending' ∙ f.1.0, s.receiving' ∙ f.1.1));
      idle' = idle-same role l m s.credit t (λ h. apart) k.idle';
      small = small-same role l m s.credit k.small;
    }

new-tallied : (role : Role) (m : LinkView) → m.credit.passed ≡ 0 → m.credit.credit ≡ 0 → m.sending ≡ None → m.receiving ≡ None → Tallied role m 0
new-tallied role m p c s r =
    record { told = (let k = p in rw k refl); fresh = λ h. (refl, (s, r)); idle' = of role; small = few role }
  where
    of : (role : Role) → IsIdle role m
    of Sender = λ h. c
    of Receiver = λ h. c

    few : (role : Role) → IsSmall role m
    few Sender = tt
    few Receiver = let k = c in rw k (omega arith)

pub us-same : (b : AttachBody) (l : LinkView) → Same l (attached_by_us b [] l)
us-same b l = by l.role
  where
    by : (r : Role) → Same l (record (attached_by_us b [] l) { credit = cond (is_sender r) (count_given (count_of b) l.credit) l.credit })
    by Sender = record { passed = refl; credit = refl; sending' = refl; receiving' = refl }
    by Receiver = record { passed = refl; credit = refl; sending' = refl; receiving' = refl }

pub peer-same : (b : AttachBody) (l : LinkView) → Same l (attached_by_peer b l)
peer-same b l = by l.role
  where
    by : (r : Role) → Same l (record (attached_by_peer b l) { credit = cond (is_sender r) l.credit (count_given (count_of b) l.credit) })
    by Sender = record { passed = refl; credit = refl; sending' = refl; receiving' = refl }
    by Receiver = record { passed = refl; credit = refl; sending' = refl; receiving' = refl }

new-same : (role : Role) (k : ℕ) (r : Role) (name : List ℕ) (m : LinkView) → Same (new_link k r name) m → Tallied role m 0
new-same role k r name m s = new-tallied role m s.passed s.credit s.sending' s.receiving'

-- # The link goes on

apart-both : (l m : LinkView) → m.ours ≡ l.ours → m.theirs ≡ l.theirs → both_ends m ≡ both_ends l
apart-both l m o t = rw (o, t) refl

attached-parts : (l : LinkView) → is_attached l ≡ true → (is_some l.ours ≡ true) × ((is_some l.theirs ≡ true) × (both_ends l ≡ true))
attached-parts l h =
    let b = (and-both (both_ends l) (not l.left) h).0 in
    let p = and-both (is_some l.ours) (is_some l.theirs) b in
    (p.0, (p.1, b))

-- attached, so not fresh
attached-tallied : (role : Role) (l m : LinkView) (n : ℕ) → both_ends l ≡ true → m.ours ≡ l.ours → m.theirs ≡ l.theirs → IsSmall role m → Tallied role l n → Tallied role m (n + distance l.credit.passed m.credit.passed)
attached-tallied role l m n b o t few k =
    let both : both_ends m ≡ true = apart-both l m o t ∙ b in
    let theirs : is_some m.theirs ≡ true = (and-both (is_some m.ours) (is_some m.theirs) both).1 in
    record { told = same-told l m n k.told; fresh = λ h. absurd (cc (h, both)); idle' = of role both theirs; small = few }
  where
    of : (role : Role) → both_ends m ≡ true → is_some m.theirs ≡ true → IsIdle role m
    of Sender b t = λ h. absurd (cc (h, t))
    of Receiver b t = λ h. absurd (cc (h, b))

own-small : (role : Role) (j : ℕ) (l m : LinkView) → OwnNumbers role j l.credit.credit m.credit.credit → IsSmall role m
own-small Sender j l m h = tt
own-small Receiver j l m h = h.1.1

heard-small : (role : Role) (j : ℕ) (l m : LinkView) → HeardNumbers role j l.credit.credit m.credit.credit → IsSmall role l → IsSmall role m
heard-small Sender j l m h k = tt
heard-small Receiver j l m h k = by l.credit.credit m.credit.credit h k
  where
    by : (c c' : ℕ) → c ≡ c' + j → c ≤ 2147483647 → c' ≤ 2147483647
    by c c' h k = omega (arith, h, k)

sender-small : (role : Role) (m : LinkView) → role ≡ Sender → IsSmall role m
sender-small Sender m h = tt
sender-small Receiver m h = absurd (cc (h))

hearing-idle : (role : Role) (j : ℕ) (l m : LinkView) → HeardNumbers role j l.credit.credit m.credit.credit → is_some m.theirs ≡ true → (both_ends m ≡ false → (j ≡ 0) × (both_ends l ≡ false)) → IsIdle role l → IsIdle role m
hearing-idle Sender j l m h t b k = λ e. absurd (cc (e, t))
hearing-idle Receiver j l m h t b k = λ e. by l.credit.credit m.credit.credit h (b e).0 (k (b e).1)
  where
    by : (c c' : ℕ) → c ≡ c' + j → j ≡ 0 → c ≡ 0 → c' ≡ 0
    by c c' h z k = omega (arith, h, z, k)

not-ours : (o t : Bool) → o && t ≡ false → t ≡ true → o ≡ false
not-ours true t h e = absurd (cc (h, e))
not-ours false t h e = refl

goes-tallied : (role : Role) (name : List ℕ) (v : View) (hears : Bool) (l m : LinkView) (sent : Option Frame) (n : ℕ) → Goes role name v hears l m sent → m.ours ≡ l.ours → m.theirs ≡ l.theirs
    → Tallied role l n → Tallied role m (n + distance l.credit.passed m.credit.passed)
goes-tallied role name v hears l m sent n (rests c s r aside) o t k =
    let passed : m.credit.passed ≡ l.credit.passed = ap (λ (c : CreditView). c.passed) c in
    let both = apart-both l m o t in
    record {
      told = same-told l m n k.told;
      fresh = λ h. (let f = k.fresh (sym both ∙ h) in (still n l.credit.passed m.credit.passed passed ∙ f.0, (s ∙ f.1.0, r ∙ f.1.1)));
      idle' = idle-same role l m (ap (λ (c : CreditView). c.credit) c) (λ h. ap (λ (e : Option EndView). is_some e) (sym t) ∙ h) (λ h. sym both ∙ h) k.idle';
      small = small-same role l m (ap (λ (c : CreditView). c.credit) c) k.small;
    }
goes-tallied role name v hears l m sent n (tells j f p own' dr s r told') o t k = attached-tallied role l m n (attached-parts l told'.attached).1.1 o t (own-small role j l m own') k
goes-tallied role name v hears l m sent n (leaving left' b c mute) o t k = attached-tallied role l m n b o t (small-same role l m (ap (λ (c : CreditView). c.credit) c) k.small) k
goes-tallied role name v hears l m sent n (sending is c some r told') o t k = attached-tallied role l m n (attached-parts l told'.attached).1.1 o t (sender-small role m is) k
goes-tallied role name v hears l m sent n (hearing j h f p numbers dr s theirs early told') o t k =
    let both = apart-both l m o t in
    let there : is_some m.theirs ≡ true = ap (λ (e : Option EndView). is_some e) t ∙ theirs in
    record {
      told = same-told l m n k.told;
      fresh = λ h.
          let apart : both_ends l ≡ false = sym both ∙ h in
          let g = k.fresh apart in
          let y = early (not-ours (is_some l.ours) (is_some l.theirs) apart theirs) in
          (none-more n l.credit.passed m.credit.passed j p y.0 ∙ g.0, (s ∙ g.1.0, y.1 ∙ g.1.1));
      idle' = hearing-idle role j l m numbers there (λ h. (let apart : both_ends l ≡ false = sym both ∙ h in ((early (not-ours (is_some l.ours) (is_some l.theirs) apart theirs)).0, apart))) k.idle';
      small = heard-small role j l m numbers k.small;
    }
  where
    none-more : (n p q j : ℕ) → wire q ≡ wire (p + j) → j ≡ 0 → n + distance p q ≡ n
    none-more n p q j e z = omega (arith, e, z)

ours-none : (l : LinkView) → l.ours ≡ None → both_ends l ≡ false
ours-none l h = rw h refl

pub theirs-none : (l : LinkView) → l.theirs ≡ None → both_ends l ≡ false
theirs-none l h = rw h (by (is_some l.ours))
  where
    by : (b : Bool) → b && false ≡ false
    by true = refl
    by false = refl

-- the number along one step
pub tally-from : (i : Role × List ℕ) (c : Config) (e : Entry) (past : List Entry) (l m : LinkView) → link i c past ≡ Some l → link i c (e ∷ past) ≡ Some m
    → tally i c (e ∷ past) ≡ tally i c past + distance l.credit.passed m.credit.passed
tally-from i c e past l m a b = rw (a, b) refl

pub tally-new : (i : Role × List ℕ) (c : Config) (e : Entry) (past : List Entry) → link i c past ≡ None → tally i c (e ∷ past) ≡ 0
tally-new i c e past a = rw a refl

tallied-on : (i : Role × List ℕ) (c : Config) (e : Entry) (past : List Entry) → AllFair c (e ∷ past) → ((l : LinkView) → link i c past ≡ Some l → Tallied i.0 l (tally i c past))
    → (m : LinkView) → link i c (e ∷ past) ≡ Some m → Tallied i.0 m (tally i c (e ∷ past))
tallied-on i c e past h before m is = by (turn-of i c e past h)
  where
    joined : (o : Option LinkView) (change : LinkView → LinkView) (k : ℕ) → link i c past ≡ o → ((l : LinkView) → Same l (change l)) → link i c (e ∷ past) ≡ Some (change (or_this o (new_link k i.0 i.1)))
        → ((l : LinkView) → o ≡ Some l → both_ends l ≡ false) → ((l : LinkView) → is_some (change l).theirs ≡ false → is_some l.theirs ≡ false) → Tallied i.0 m (tally i c (e ∷ past))
    joined None change k found same to apart t =
        let one : m ≡ change (new_link k i.0 i.1) = (let x : ◌≡◌ {A = Option LinkView} (Some m) (Some (change (new_link k i.0 i.1))) = sym is ∙ to in cc x) in
        subst (λ (n : ℕ). Tallied i.0 m n) (sym (tally-new i c e past found)) (subst (λ (m : LinkView). Tallied i.0 m 0) (sym one) (new-same i.0 k i.0 i.1 (change (new_link k i.0 i.1)) (same (new_link k i.0 i.1))))
    joined (Some l) change k found same to apart t =
        let one : m ≡ change l = (let x : ◌≡◌ {A = Option LinkView} (Some m) (Some (change l)) = sym is ∙ to in cc x) in
        subst (λ (n : ℕ). Tallied i.0 m n) (sym (tally-from i c e past l m found is))
        (subst (λ (m : LinkView). Tallied i.0 m (tally i c past + distance l.credit.passed m.credit.passed)) (sym one) (joined-tallied i.0 l (change l) (tally i c past) (apart l refl) (t l) (same l) (before l found)))

    by : Turn i.0 i.1 (at c past) (at c (e ∷ past)) (body_heard e.step) (sends e) → Tallied i.0 m (tally i c (e ∷ past))
    by (away gone why) = absurd (cc (gone, is))
    by (asks b f k none sent body free to) =
        joined (link i c past) (attached_by_us b []) k refl (us-same b) to (λ l f. ours-none l (ap (λ o. (shape o).ours) (sym f) ∙ free)) (λ l h. h)
    by (meets b k none sent free to) =
        joined (link i c past) (attached_by_peer b) k refl (peer-same b) to (λ l f. theirs-none l (ap (λ o. (shape o).theirs) (sym f) ∙ free)) (λ l h. absurd (cc (h)))
    by (goes l x found to o t left' g) =
        let one : m ≡ x = (let y : ◌≡◌ {A = Option LinkView} (Some m) (Some x) = sym is ∙ to in cc y) in
        subst (λ (n : ℕ). Tallied i.0 m n) (sym (tally-from i c e past l m found is))
        (subst (λ (m : LinkView). Tallied i.0 m (tally i c past + distance l.credit.passed m.credit.passed)) (sym one)
        (goes-tallied i.0 i.1 (at c past) (is_some (body_heard e.step)) l x (sends e) (tally i c past) g o t (before l found)))

pub tallied : (i : Role × List ℕ) (c : Config) (past : List Entry) → AllFair c past → (m : LinkView) → link i c past ≡ Some m → Tallied i.0 m (tally i c past)
tallied i c [] h m is = absurd (cc (is))
tallied i c (e ∷ past) h m is = tallied-on i c e past h (λ l found. tallied i c past h.0 l found) m is

-- # What does not fall while the link stays

abbrev pub Grows : Role → LinkView → ℕ → LinkView → ℕ → Type 0
Grows Sender l n m k = (m.credit.first_count ≡ l.credit.first_count) × (n ≤ k)
Grows Receiver l n m k = n + l.credit.credit ≤ k + m.credit.credit

grows-on : (role : Role) (l : LinkView) (n : ℕ) (x : LinkView) (j : ℕ) (m : LinkView) (k : ℕ) → Grows role l n x j → Grows role x j m k → Grows role l n m k
grows-on Sender l n x j m k a b = (b.0 ∙ a.0, (let p = a.1 in let q = b.1 in omega (arith, p, q)))
grows-on Receiver l n x j m k a b = by (n + l.credit.credit) (j + x.credit.credit) (k + m.credit.credit) a b
  where
    by : (x y z : ℕ) → x ≤ y → y ≤ z → x ≤ z
    by x y z a b = omega (arith, a, b)

grows-self : (role : Role) (l : LinkView) (n : ℕ) → Grows role l n l n
grows-self Sender l n = (refl, omega arith)
grows-self Receiver l n = omega arith

more-or-same : (n d : ℕ) → n ≤ n + d
more-or-same n d = omega arith

rest-grows : (role : Role) (l m : LinkView) (n d : ℕ) → m.credit.first_count ≡ l.credit.first_count → m.credit.credit ≡ l.credit.credit → Grows role l n m (n + d)
rest-grows Sender l m n d f c = (f, more-or-same n d)
rest-grows Receiver l m n d f c = by l.credit.credit m.credit.credit c
  where
    by : (x y : ℕ) → y ≡ x → n + x ≤ (n + d) + y
    by x y e = omega (arith, e)

own-grows : (role : Role) (l m : LinkView) (n d j : ℕ) → m.credit.first_count ≡ l.credit.first_count → OwnNumbers role j l.credit.credit m.credit.credit → Grows role l n m (n + d)
own-grows Sender l m n d j f h = (f, more-or-same n d)
own-grows Receiver l m n d j f h = by l.credit.credit m.credit.credit h.1.0
  where
    by : (x y : ℕ) → x ≤ y → n + x ≤ (n + d) + y
    by x y e = omega (arith, e)

heard-grows : (role : Role) (l m : LinkView) (n j : ℕ) → m.credit.first_count ≡ l.credit.first_count → wire m.credit.passed ≡ wire (l.credit.passed + j) → HeardNumbers role j l.credit.credit m.credit.credit → IsSmall role l
    → Grows role l n m (n + distance l.credit.passed m.credit.passed)
heard-grows Sender l m n j f p h s = (f, more-or-same n (distance l.credit.passed m.credit.passed))
heard-grows Receiver l m n j f p h s =
    by l.credit.credit m.credit.credit (distance l.credit.passed m.credit.passed) h (so-many l.credit.passed m.credit.passed j p (below l.credit.credit m.credit.credit h s))
  where
    below : (x y : ℕ) → x ≡ y + j → x ≤ 2147483647 → j < 2 ^ 32
    below x y h s = omega (arith, h, s)

    by : (x y d : ℕ) → x ≡ y + j → d ≡ j → n + x ≤ (n + d) + y
    by x y d h e = omega (arith, h, e)

sent-grows : (role : Role) (l m : LinkView) (n d : ℕ) (b : Bool) → role ≡ Sender → m.credit ≡ cond b l.credit (delivery_begun l.credit) → Grows role l n m (n + d)
sent-grows Receiver l m n d b is c = absurd (cc (is))
sent-grows Sender l m n d b is c = (by b c, more-or-same n d)
  where
    by : (b : Bool) → m.credit ≡ cond b l.credit (delivery_begun l.credit) → m.credit.first_count ≡ l.credit.first_count
    by true c = ap (λ (c : CreditView). c.first_count) c
    by false c = ap (λ (c : CreditView). c.first_count) c

pub goes-grows : (role : Role) (name : List ℕ) (v : View) (hears : Bool) (l m : LinkView) (sent : Option Frame) (n : ℕ) → Goes role name v hears l m sent → Tallied role l n
    → Grows role l n m (n + distance l.credit.passed m.credit.passed)
goes-grows role name v hears l m sent n (rests c s r aside) k = rest-grows role l m n (distance l.credit.passed m.credit.passed) (ap (λ (c : CreditView). c.first_count) c) (ap (λ (c : CreditView). c.credit) c)
goes-grows role name v hears l m sent n (tells j f p own' dr s r told') k = own-grows role l m n (distance l.credit.passed m.credit.passed) j f own'
goes-grows role name v hears l m sent n (leaving left' b c mute) k = rest-grows role l m n (distance l.credit.passed m.credit.passed) (ap (λ (c : CreditView). c.first_count) c) (ap (λ (c : CreditView). c.credit) c)
goes-grows role name v hears l m sent n (sending is c some r told') k = sent-grows role l m n (distance l.credit.passed m.credit.passed) (is_some l.sending) is c
goes-grows role name v hears l m sent n (hearing j h f p numbers dr s theirs early told') k = heard-grows role l m n j f p numbers k.small

-- the peer's attach is met: the count of a sender is its own
met-grows : (role : Role) (b : AttachBody) (l : LinkView) (n d : ℕ) → l.role ≡ role → Grows role l n (attached_by_peer b l) (n + d)
met-grows Sender b l n d is = (rw is refl, more-or-same n d)
met-grows Receiver b l n d is = let s = (peer-same b l).credit in by l.credit.credit (attached_by_peer b l).credit.credit s
  where
    by : (x y : ℕ) → y ≡ x → n + x ≤ (n + d) + y
    by x y e = omega (arith, e)

pub record Since (i : Role × List ℕ) (c : Config) (early : List Entry) (m : LinkView) (k : ℕ) : Type 0 where
  pub link' : LinkView
  pub found : link i c early ≡ Some link'
  pub ours : is_some link'.ours ≡ true
  pub stays : link'.left ≡ false
  pub grows : Grows i.0 link' (tally i c early) m k

one-back : (i : Role × List ℕ) (c : Config) (e : Entry) (past : List Entry) → AllFair c (e ∷ past) → is_some (st i c past).ours ≡ true → (m : LinkView) → link i c (e ∷ past) ≡ Some m → m.left ≡ false
    → Since i c past m (tally i c (e ∷ past))
one-back i c e past h some m is stays = by (turn-of i c e past h)
  where
    there : (l : LinkView) → link i c past ≡ Some l → is_some l.ours ≡ true
    there l found = ap (λ o. is_some (shape o).ours) (sym found) ∙ some

    met : (o : Option LinkView) (b : AttachBody) (k : ℕ) → link i c past ≡ o → link i c (e ∷ past) ≡ Some (attached_by_peer b (or_this o (new_link k i.0 i.1))) → Since i c past m (tally i c (e ∷ past))
    met None b k found to = let none : is_some (st i c past).ours ≡ false = ap (λ o. is_some (shape o).ours) found in absurd (cc (none, some))
    met (Some l) b k found to =
        let one : m ≡ attached_by_peer b l = (let x : ◌≡◌ {A = Option LinkView} (Some m) (Some (attached_by_peer b l)) = sym is ∙ to in cc x) in
        let role : l.role ≡ i.0 = (let n = named-is i.0 i.1 l (found-passes (has_name i.0 i.1) (at c past).links l found) in sym n.role_is) in
        record {
          link' = l;
          found = found;
          ours = there l found;
          stays = ap (λ (m : LinkView). m.left) (sym one) ∙ stays;
          grows = subst (λ (k : ℕ). Grows i.0 l (tally i c past) m k) (sym (tally-from i c e past l m found is))
              (subst (λ (m : LinkView). Grows i.0 l (tally i c past) m (tally i c past + distance l.credit.passed m.credit.passed)) (sym one)
              (met-grows i.0 b l (tally i c past) (distance l.credit.passed (attached_by_peer b l).credit.passed) role));
        }

    by : Turn i.0 i.1 (at c past) (at c (e ∷ past)) (body_heard e.step) (sends e) → Since i c past m (tally i c (e ∷ past))
    by (away gone why) = absurd (cc (gone, is))
    by (asks b f k none sent body free to) = let n : is_some (st i c past).ours ≡ false = ap (λ (o : Option EndView). is_some o) free in absurd (cc (n, some))
    by (meets b k none sent free to) = met (link i c past) b k refl to
    by (goes l x found to o t left' g) =
        let one : m ≡ x = (let y : ◌≡◌ {A = Option LinkView} (Some m) (Some x) = sym is ∙ to in cc y) in
        record {
          link' = l;
          found = found;
          ours = there l found;
          stays = left' (ap (λ (m : LinkView). m.left) (sym one) ∙ stays);
          grows = subst (λ (k : ℕ). Grows i.0 l (tally i c past) m k) (sym (tally-from i c e past l m found is))
              (subst (λ (m : LinkView). Grows i.0 l (tally i c past) m (tally i c past + distance l.credit.passed m.credit.passed)) (sym one)
              (goes-grows i.0 i.1 (at c past) (is_some (body_heard e.step)) l x (sends e) (tally i c past) g (tallied i c past h.0 l found)));
        }

-- no attach of ours was sent: it stood before
asked-before : (a : Act EndView) (s : Slot EndView) (l : List EndView) → added a l ≡ [] → is_some (after a s).ours ≡ true → is_some s.ours ≡ true
asked-before idle s l none some = some
asked-before (asking h) s l none some = absurd (cc (none))
asked-before (meeting h) s l none some = some
asked-before leaving' s l none some = some
asked-before going s l none some = absurd (cc (some))

pub added-none : (a : Act EndView) (l : List EndView) → added a l ≡ [] → l ≡ []
added-none idle l none = none
added-none (asking h) l none = absurd (cc (none))
added-none (meeting h) l none = none
added-none leaving' l none = none
added-none going l none = none

abbrev pub asks_from : Role × List ℕ → Config → ℕ → List Entry → List EndView
asks_from i c n past = slots.asks_from sends hears IsFair Meets st act Lives i c n past

-- while no attach of ours is on its way, the link was there before
pub since : (i : Role × List ℕ) (c : Config) (n : ℕ) (early past : List Entry) → IsTail early past → count sends early ≡ n → AllFair c past → Lives past → asks_from i c n past ≡ []
    → (m : LinkView) → link i c past ≡ Some m → is_some m.ours ≡ true → m.left ≡ false → Since i c early m (tally i c past)
since i c n early [] t same h lives none m is some stays = absurd (cc (is))
since i c n early (e ∷ past) (inl t) same h lives none m is some stays =
    subst (λ (p : List Entry). Since i c p m (tally i c (e ∷ past))) (sym t) (record { link' = m; found = is; ours = some; stays = stays; grows = grows-self i.0 m (tally i c (e ∷ past)) })
since i c n early (e ∷ past) (inr t) same h lives none m is some stays =
    let grows : count sends early ≤ count sends past = lag.tail-grows (count sends) (λ e l. lag.and_one-grows (sends e) (count sends l)) early past t in
    let here : nat_le n (count sends past) ≡ true = yes n (count sends early) (count sends past) same grows in
    let added' : added (act i c e past) (asks_from i c n past) ≡ [] = (let k = rw here at none in k) in
    let ours : is_some (after (act i c e past) (st i c past)).ours ≡ true = ap (λ (s : Slot EndView). is_some s.ours) (sym (goes-on i c e past h lives)) ∙ (ap (λ o. is_some (shape o).ours) is ∙ some) in
    let back = one-back i c e past h (asked-before (act i c e past) (st i c past) (asks_from i c n past) added' ours) m is stays in
    let rest = since i c n early past t same h.0 (lives-goes e past lives).lived (added-none (act i c e past) (asks_from i c n past) added') back.link' back.found back.ours back.stays in
    record {
      link' = rest.link';
      found = rest.found;
      ours = rest.ours;
      stays = rest.stays;
      grows = grows-on i.0 rest.link' (tally i c early) back.link' (tally i c past) m (tally i c (e ∷ past)) rest.grows back.grows;
    }
  where
    yes : (n m k : ℕ) → m ≡ n → m ≤ k → nat_le n k ≡ true
    yes n m k e h = grind (arith, e, h)
