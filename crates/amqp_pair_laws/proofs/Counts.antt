-- The counts and the credit of a link at both its ends, by the steps of either.
use Rattle.std.proofs.Common.{subst, ◌≡◌, ◌≤◌, ◌<◌, ℕ, ◌+◌, ◌-◌, ◌^◌, ◌==◌, ◌&&◌, Bool, true, false, cond, Option, Some, None, List, arith, refl, sym, ap, ◌∙◌, is_some, nat_le, nat_lt, option_map}
use Rattle.amqp_flow.specs.Serial.{distance, wire}
use Rattle.amqp_flow.specs.Credit.{CreditView, delivery_begun, delivery_count}
use Rattle.amqp_flow.specs.Receiver.{count_lead, jump}
use Rattle.amqp_performatives.specs.declared.bodies.Role.{Role}
use Rattle.amqp_performatives.specs.declared.bodies.Role.TheVariants.{Sender, Receiver}
use Rattle.amqp_performatives.specs.declared.bodies.FlowBody.{FlowBody}
use Rattle.amqp_performatives.specs.declared.bodies.TransferBody.{TransferBody}
use Rattle.amqp_frames.specs.declared.frame.Frame.{Frame}
use Rattle.amqp_events.specs.Joined.{Delivery, next_unfinished}
use Rattle.amqp_rules.specs.View.{EndView, LinkView, View, opposite, rcv_mode}
use Rattle.amqp_rules.specs.Flow.{count_ahead, credit_heard}
use Rattle.amqp_rules.specs.PeerTransfer.{credit_used, received_on}
use Rattle.amqp_rules.specs.Deliveries.{transferred}
use Rattle.amqp_laws.specs.Transfers.{size_of}
use Rattle.amqp_pair_laws.proofs.Credit.{lag-told}
use Rattle.amqp_pair_laws.proofs.Turns.{Carries, Fits, Goes, HeardNumbers, OwnNumbers, hearing, leaving, rests, sending, tells}
use Rattle.amqp_pair_laws.proofs.Tallies.{Grows, IsSmall, none-between, so-many}

-- l and n: the link of the end that lags in hearing, and how many passed on it; m and k: that of the end that has heard all
abbrev pub Agreed : Role → LinkView → ℕ → LinkView → ℕ → Type 0
Agreed Sender l n m k = (l.credit.first_count ≡ m.credit.first_count) × ((n ≡ k) × ((l.sending ≡ option_map size_of m.receiving) × Fits l.ours m.receiving))
Agreed Receiver l n m k = n + l.credit.credit ≡ k + m.credit.credit

-- what the first end knows is behind what the other is
abbrev pub Behind : Role → LinkView → ℕ → LinkView → ℕ → Type 0
Behind Sender l n m k = n + l.credit.credit ≤ k + m.credit.credit
Behind Receiver l n m k = (l.credit.first_count ≡ m.credit.first_count) × (n ≤ k)

pub behind-by : (role : Role) (l0 : LinkView) (n0 : ℕ) (l : LinkView) (n : ℕ) (m : LinkView) (k : ℕ) → Agreed (opposite role) l0 n0 l n → Grows (opposite role) l0 n0 m k → Behind role l n m k
behind-by Sender l0 n0 l n m k a g = by (n0 + l0.credit.credit) (n + l.credit.credit) (k + m.credit.credit) a g
  where
    by : (x y z : ℕ) → x ≡ y → x ≤ z → y ≤ z
    by x y z a g = omega (arith, a, g)
behind-by Receiver l0 n0 l n m k a g = (sym a.0 ∙ sym g.0, (let same = a.1.0 in let more = g.1 in omega (arith, same, more)))

still : (n p q : ℕ) → q ≡ p → n + distance p q ≡ n
still n p q e = let k = none-between p q (ap wire e) in omega (arith, k)

same-passed : (l m : LinkView) → m.credit ≡ l.credit → m.credit.passed ≡ l.credit.passed
same-passed l m e = ap (λ (c : CreditView). c.passed) e

-- # The first end alone

pub rests-agrees : (role : Role) (l l' : LinkView) (n : ℕ) (m : LinkView) (k : ℕ) → (role ≡ Sender → l'.credit.first_count ≡ l.credit.first_count) → l'.credit.passed ≡ l.credit.passed → l'.credit.credit ≡ l.credit.credit → l'.sending ≡ l.sending → l'.ours ≡ l.ours
    → Agreed role l n m k → Agreed role l' (n + distance l.credit.passed l'.credit.passed) m k
rests-agrees Sender l l' n m k f p c s o a = (f refl ∙ a.0, (still n l.credit.passed l'.credit.passed p ∙ a.1.0, (s ∙ a.1.1.0, subst (λ (o : Option EndView). Fits o m.receiving) (sym o) a.1.1.1)))
rests-agrees Receiver l l' n m k f p c s o a = by l.credit.credit l'.credit.credit (n + distance l.credit.passed l'.credit.passed) (k + m.credit.credit) (still n l.credit.passed l'.credit.passed p) c a
  where
    by : (x y d z : ℕ) → d ≡ n → y ≡ x → n + x ≡ z → d + y ≡ z
    by x y d z e f h = omega (arith, e, f, h)

pub hearing-agrees : (role : Role) (l l' : LinkView) (n : ℕ) (m : LinkView) (k j : ℕ) → l'.credit.first_count ≡ l.credit.first_count → wire l'.credit.passed ≡ wire (l.credit.passed + j)
    → HeardNumbers role j l.credit.credit l'.credit.credit → l'.sending ≡ l.sending → l'.ours ≡ l.ours → IsSmall role l → Agreed role l n m k → Agreed role l' (n + distance l.credit.passed l'.credit.passed) m k
hearing-agrees Sender l l' n m k j f p h s o few a =
    let none : distance l.credit.passed l'.credit.passed ≡ 0 = none-more l.credit.passed l'.credit.passed p h in
    (f ∙ a.0, ((let same = a.1.0 in omega (arith, none, same)), (s ∙ a.1.1.0, subst (λ (o : Option EndView). Fits o m.receiving) (sym o) a.1.1.1)))
  where
    none-more : (p q : ℕ) → wire q ≡ wire (p + j) → j ≡ 0 → distance p q ≡ 0
    none-more p q e z = omega (arith, e, z)
hearing-agrees Receiver l l' n m k j f p h s o few a =
    by l.credit.credit l'.credit.credit (distance l.credit.passed l'.credit.passed) (k + m.credit.credit) h (so-many l.credit.passed l'.credit.passed j p (below l.credit.credit l'.credit.credit h few)) a
  where
    below : (x y : ℕ) → x ≡ y + j → x ≤ 2147483647 → j < 2 ^ 32
    below x y h s = omega (arith, h, s)

    by : (x y d z : ℕ) → x ≡ y + j → d ≡ j → n + x ≡ z → (n + d) + y ≡ z
    by x y d z h e a = omega (arith, h, e, a)

-- # The other end alone

pub rests-agreed : (role : Role) (l : LinkView) (n : ℕ) (m m' : LinkView) (k : ℕ) → (role ≡ Sender → m'.credit.first_count ≡ m.credit.first_count) → m'.credit.passed ≡ m.credit.passed → m'.credit.credit ≡ m.credit.credit → m'.receiving ≡ m.receiving
    → Agreed role l n m k → Agreed role l n m' (k + distance m.credit.passed m'.credit.passed)
rests-agreed Sender l n m m' k f p c r a = (a.0 ∙ sym (f refl), (a.1.0 ∙ sym (still k m.credit.passed m'.credit.passed p), (a.1.1.0 ∙ ap (λ (d : Option Delivery). option_map size_of d) (sym r), subst (λ (d : Option Delivery). Fits l.ours d) (sym r) a.1.1.1)))
rests-agreed Receiver l n m m' k f p c r a = by m.credit.credit m'.credit.credit (k + distance m.credit.passed m'.credit.passed) (n + l.credit.credit) (still k m.credit.passed m'.credit.passed p) c a
  where
    by : (x y d z : ℕ) → d ≡ k → y ≡ x → z ≡ k + x → z ≡ d + y
    by x y d z e f h = omega (arith, e, f, h)

-- its own operations
own-agreed : (role : Role) (l : LinkView) (n : ℕ) (m m' : LinkView) (k j : ℕ) → m'.credit.first_count ≡ m.credit.first_count → wire m'.credit.passed ≡ wire (m.credit.passed + j)
    → OwnNumbers (opposite role) j m.credit.credit m'.credit.credit → m'.receiving ≡ m.receiving → m.credit.credit < 2 ^ 32 → Agreed role l n m k → Agreed role l n m' (k + distance m.credit.passed m'.credit.passed)
own-agreed Sender l n m m' k j f p h r few a =
    let none : distance m.credit.passed m'.credit.passed ≡ 0 = none-more m.credit.passed m'.credit.passed p h.0 in
    (a.0 ∙ sym f, ((let same = a.1.0 in omega (arith, none, same)), (a.1.1.0 ∙ ap (λ (d : Option Delivery). option_map size_of d) (sym r), subst (λ (d : Option Delivery). Fits l.ours d) (sym r) a.1.1.1)))
  where
    none-more : (p q : ℕ) → wire q ≡ wire (p + j) → j ≡ 0 → distance p q ≡ 0
    none-more p q e z = omega (arith, e, z)
own-agreed Receiver l n m m' k j f p h r few a =
    by m.credit.credit m'.credit.credit (distance m.credit.passed m'.credit.passed) (n + l.credit.credit) h (so-many m.credit.passed m'.credit.passed j p (below m.credit.credit m'.credit.credit h few)) a
  where
    below : (x y : ℕ) → x ≡ y + j → x < 2 ^ 32 → j < 2 ^ 32
    below x y h s = omega (arith, h, s)

    by : (x y d z : ℕ) → x ≡ y + j → d ≡ j → z ≡ k + x → z ≡ (k + d) + y
    by x y d z h e a = omega (arith, h, e, a)

begun-by : (p q : ℕ) → q ≡ wire (p + 1) → distance p q ≡ 1
begun-by p q e = omega (arith, e)

sent-agreed : (role : Role) (l : LinkView) (n : ℕ) (m m' : LinkView) (k : ℕ) → opposite role ≡ Sender → (b : Bool) → m'.credit ≡ cond b m.credit (delivery_begun m.credit) → (b ≡ false → (m.credit.credit == 0) ≡ false)
    → Agreed role l n m k → Agreed role l n m' (k + distance m.credit.passed m'.credit.passed)
sent-agreed Sender l n m m' k is b c some a = absurd (cc (is))
sent-agreed Receiver l n m m' k is true c some a =
    by m.credit.credit m'.credit.credit (k + distance m.credit.passed m'.credit.passed) (n + l.credit.credit) (still k m.credit.passed m'.credit.passed (same-passed m m' c)) (ap (λ (c : CreditView). c.credit) c) a
  where
    by : (x y d z : ℕ) → d ≡ k → y ≡ x → z ≡ k + x → z ≡ d + y
    by x y d z e f h = omega (arith, e, f, h)
sent-agreed Receiver l n m m' k is false c some a =
    by m.credit.credit m'.credit.credit (distance m.credit.passed m'.credit.passed) (n + l.credit.credit) (begun-by m.credit.passed m'.credit.passed (ap (λ (c : CreditView). c.passed) c)) (ap (λ (c : CreditView). c.credit) c) (some refl) a
  where
    by : (x y d z : ℕ) → d ≡ 1 → y ≡ x - 1 → (x == 0) ≡ false → z ≡ k + x → z ≡ (k + d) + y
    by x y d z e f s h = grind (arith, e, f, s, h)

pub ahead-agrees : (role : Role) (name : List ℕ) (v : View) (l : LinkView) (n : ℕ) (m m' : LinkView) (k : ℕ) (sent : Option Frame) → Goes (opposite role) name v false m m' sent → m'.left ≡ false → m.credit.credit < 2 ^ 32
    → Agreed role l n m k → Agreed role l n m' (k + distance m.credit.passed m'.credit.passed)
ahead-agrees role name v l n m m' k sent (rests c s r aside) stays few a =
    rests-agreed role l n m m' k (λ h. ap (λ (c : CreditView). c.first_count) c) (same-passed m m' c) (ap (λ (c : CreditView). c.credit) c) r a
ahead-agrees role name v l n m m' k sent (tells j f p own' dr s r told) stays few a = own-agreed role l n m m' k j f p own' r few a
ahead-agrees role name v l n m m' k sent (leaving left' b c mute) stays few a = absurd (cc (left', stays))
ahead-agrees role name v l n m m' k sent (sending is c some r told) stays few a = sent-agreed role l n m m' k is (is_some m.sending) c some a
ahead-agrees role name v l n m m' k sent (hearing j h f p numbers dr s theirs early told) stays few a = absurd (cc (h))

-- the credit of a sender is that of the receiver, or less
pub small-there : (l : LinkView) (n : ℕ) (m : LinkView) (k : ℕ) → Agreed Receiver l n m k → Behind Receiver l n m k → l.credit.credit ≤ 2147483647 → m.credit.credit < 2 ^ 32
small-there l n m k a b few = by l.credit.credit m.credit.credit a b.1 few
  where
    by : (x y : ℕ) → n + x ≡ k + y → n ≤ k → x ≤ 2147483647 → y < 2 ^ 32
    by x y a b few = omega (arith, a, b, few)

-- # A flow on its way

count-is : (f p n : ℕ) → wire n ≡ wire p → wire (f + p) ≡ wire (f + n)
count-is f p n e = omega (arith, e)

-- what is told of a link, by its end that lags in hearing
pub record Tells (role : Role) (l : LinkView) (n : ℕ) (l' : LinkView) (n' : ℕ) (m : LinkView) (k : ℕ) (w : FlowBody) : Type 0 where
  pub agreed : Agreed role l n m k
  pub grows : Grows role l n l' n'
  pub behind : Behind role l' n' m k
  pub told : wire n' ≡ wire l'.credit.passed
  pub there : wire k ≡ wire m.credit.passed
  pub small : IsSmall role l'
  pub small' : IsSmall (opposite role) m
  pub same : l'.sending ≡ l.sending
  pub ours : l'.ours ≡ l.ours
  pub count : w.delivery_count ≡ Some (delivery_count l'.credit)
  pub credit : w.link_credit ≡ Some l'.credit.credit

-- a receiver jumps as far as the sender went
jumps : (l : LinkView) (n : ℕ) (l' : LinkView) (n' : ℕ) (m : LinkView) (k : ℕ) (w : FlowBody) → Tells Sender l n l' n' m k w → (c : ℕ) → w.delivery_count ≡ Some c → (count_lead c m.credit ≡ n' - n) × (n' - n ≤ m.credit.credit)
jumps l n l' n' m k w t c is =
    let same : n ≡ k = t.agreed.1.0 in
    let first : l'.credit.first_count ≡ m.credit.first_count = t.grows.0 ∙ t.agreed.0 in
    let more : n ≤ n' = t.grows.1 in
    let few = t.small' in
    let b = t.behind in
    let told : c ≡ wire (l'.credit.first_count + n') = (let x : ◌≡◌ {A = Option ℕ} (Some c) (Some (delivery_count l'.credit)) = sym is ∙ t.count in let y : c ≡ delivery_count l'.credit = cc x in y ∙ count-is l'.credit.first_count l'.credit.passed n' t.told) in
    let here : delivery_count m.credit ≡ wire (m.credit.first_count + k) = count-is m.credit.first_count m.credit.passed k t.there in
    let j = within n n' k l'.credit.credit m.credit.credit same more b few in
    (rw (told, here, first) (far m.credit.first_count n n' k same more j.1), j.0)
  where
    within : (n n' k c' c : ℕ) → n ≡ k → n ≤ n' → n' + c' ≤ k + c → c ≤ 2147483647 → (n' - n ≤ c) × (n' < k + 2 ^ 32)
    within n n' k c' c e m b f = (omega (arith, e, m, b, f), omega (arith, e, m, b, f))

    far : (f n n' k : ℕ) → n ≡ k → n ≤ n' → n' < k + 2 ^ 32 → distance (wire (f + k)) (wire (f + n')) ≡ n' - n
    far f n n' k e m near = let same = e in let x : k ≤ n' = omega (arith, e, m) in lag-told f n' k x near ∙ (omega (arith, e))

jump-is : (d c j : ℕ) → d ≡ j → j ≤ c → cond (nat_le d c) d 0 ≡ j
jump-is d c j e few = by (nat_le d c) (grind (arith, e, few))
  where
    by : (b : Bool) → b ≡ true → cond b d 0 ≡ j
    by true h = e
    by false h = absurd (cc (h))

-- a sender counts how many the receiver has not heard of
lags : (l : LinkView) (n : ℕ) (l' : LinkView) (n' : ℕ) (m : LinkView) (k : ℕ) (w : FlowBody) → Tells Receiver l n l' n' m k w → (c : ℕ) → w.delivery_count ≡ Some c
    → (distance c (delivery_count m.credit) ≡ k - n') × ((k - n' ≤ l'.credit.credit) × (n' ≤ k))
lags l n l' n' m k w t c is =
    let a = t.agreed in
    let g = t.grows in
    let few = t.small in
    let first : l'.credit.first_count ≡ m.credit.first_count = t.behind.0 in
    let more : n' ≤ k = t.behind.1 in
    let told : c ≡ wire (l'.credit.first_count + n') = (let x : ◌≡◌ {A = Option ℕ} (Some c) (Some (delivery_count l'.credit)) = sym is ∙ t.count in let y : c ≡ delivery_count l'.credit = cc x in y ∙ count-is l'.credit.first_count l'.credit.passed n' t.told) in
    let here : delivery_count m.credit ≡ wire (m.credit.first_count + k) = count-is m.credit.first_count m.credit.passed k t.there in
    let j = within n l.credit.credit n' l'.credit.credit k m.credit.credit a g few in
    (rw (told, here, first) (lag-told m.credit.first_count k n' more j.1), (j.0, more))
  where
    within : (n c n' c' k d : ℕ) → n + c ≡ k + d → n + c ≤ n' + c' → c' ≤ 2147483647 → (k - n' ≤ c') × (k < n' + 2 ^ 32)
    within n c n' c' k d a g f = (omega (arith, a, g, f), omega (arith, a, g, f))

pub flow-agrees : (role : Role) (l : LinkView) (n : ℕ) (l' : LinkView) (n' : ℕ) (m : LinkView) (k : ℕ) (w : FlowBody) → Tells role l n l' n' m k w → (m' : LinkView) → m'.receiving ≡ m.receiving
    → m'.credit ≡ credit_heard (opposite role) true w m.credit → Agreed role l' n' m' (k + distance m.credit.passed m'.credit.passed)
flow-agrees Sender l n l' n' m k w t m' r c =
    let j = jumps l n l' n' m k w t (delivery_count l'.credit) t.count in
    let jumped : jump w.delivery_count m.credit ≡ n' - n = (let told = t.count in rw told (jump-is (count_lead (delivery_count l'.credit) m.credit) m.credit.credit (n' - n) j.0 j.1)) in
    let passed : m'.credit.passed ≡ wire (m.credit.passed + (n' - n)) = ap (λ (c : CreditView). c.passed) c ∙ ap (λ j. wire (m.credit.passed + j)) jumped in
    let first : m'.credit.first_count ≡ m.credit.first_count = ap (λ (c : CreditView). c.first_count) c in
    let few = t.small' in
    let some : n' - n < 2 ^ 32 = below (n' - n) m.credit.credit j.1 few in (
      t.grows.0 ∙ t.agreed.0 ∙ sym first,
      (
        to n n' k (distance m.credit.passed m'.credit.passed) t.agreed.1.0 t.grows.1 (so-far m.credit.passed m'.credit.passed (n' - n) passed some),
        (t.same ∙ t.agreed.1.1.0 ∙ ap (λ (d : Option Delivery). option_map size_of d) (sym r), subst (λ (d : Option Delivery). Fits l'.ours d) (sym r) (subst (λ (o : Option EndView). Fits o m.receiving) (sym t.ours) t.agreed.1.1.1)),
      ),
    )
  where
    below : (j c : ℕ) → j ≤ c → c ≤ 2147483647 → j < 2 ^ 32
    below j c a b = omega (arith, a, b)

    so-far : (p q j : ℕ) → q ≡ wire (p + j) → j < 2 ^ 32 → distance p q ≡ j
    so-far p q j e few = omega (arith, e, few)

    to : (n n' k d : ℕ) → n ≡ k → n ≤ n' → d ≡ n' - n → n' ≡ k + d
    to n n' k d e m h = omega (arith, e, m, h)
flow-agrees Receiver l n l' n' m k w t m' r c =
    let j = lags l n l' n' m k w t (delivery_count l'.credit) t.count in
    let told = t.count in
    let says = t.credit in
    let credit : m'.credit.credit ≡ l'.credit.credit - (k - n') = ap (λ (c : CreditView). c.credit) c ∙ rw (told, says) (ap (λ d. l'.credit.credit - d) j.0) in
    by (k + distance m.credit.passed m'.credit.passed) l'.credit.credit m'.credit.credit (still k m.credit.passed m'.credit.passed (ap (λ (c : CreditView). c.passed) c)) credit j.1.0 j.1.1
  where
    by : (d c' x : ℕ) → d ≡ k → x ≡ c' - (k - n') → k - n' ≤ c' → n' ≤ k → n' + c' ≡ d + x
    by d c' x e h f m = omega (arith, e, h, f, m)

-- it is not ahead
pub flow-near : (role : Role) (l : LinkView) (n : ℕ) (l' : LinkView) (n' : ℕ) (m : LinkView) (k : ℕ) (w : FlowBody) → Tells role l n l' n' m k w → count_ahead (opposite role) w m.credit ≡ false
flow-near Sender l n l' n' m k w t =
    let j = jumps l n l' n' m k w t (delivery_count l'.credit) t.count in
    let told = t.count in
    rw told (by (count_lead (delivery_count l'.credit) m.credit) (n' - n) m.credit.credit j.0 j.1)
  where
    first-false : (b c : Bool) → b ≡ false → b && c ≡ false
    first-false true c h = absurd (cc (h))
    first-false false c h = refl

    by : (d j c : ℕ) → d ≡ j → j ≤ c → nat_lt c d && nat_lt d (2 ^ 31) ≡ false
    by d j c e few = first-false (nat_lt c d) (nat_lt d (2 ^ 31)) (grind (arith, e, few))
flow-near Receiver l n l' n' m k w t =
    let j = lags l n l' n' m k w t (delivery_count l'.credit) t.count in
    let told = t.count in
    let few = t.small in
    rw told (by (distance (delivery_count l'.credit) (delivery_count m.credit)) (k - n') l'.credit.credit j.0 j.1.0 few)
  where
    by : (d j c : ℕ) → d ≡ j → j ≤ c → c ≤ 2147483647 → nat_le (2 ^ 31) d ≡ false
    by d j c e few small = grind (arith, e, few, small)

-- # A transfer on its way

one-begun : (p q : ℕ) → q ≡ wire (p + 1) → distance p q ≡ 1
one-begun p q e = omega (arith, e)

begun-both : (l l' : LinkView) (n : ℕ) (m : LinkView) (k : ℕ) (d : Option Delivery) → l.sending ≡ option_map size_of d → l'.credit ≡ cond (is_some l.sending) l.credit (delivery_begun l.credit)
    → l.credit.first_count ≡ m.credit.first_count → n ≡ k
    → (l'.credit.first_count ≡ (credit_used d m.credit).first_count) × (n + distance l.credit.passed l'.credit.passed ≡ k + distance m.credit.passed (credit_used d m.credit).passed)
begun-both l l' n m k None e c f same =
    let c' : l'.credit ≡ delivery_begun l.credit = (let x = rw e at c in x) in (
      ap (λ (c : CreditView). c.first_count) c' ∙ f,
      both (distance l.credit.passed l'.credit.passed) (distance m.credit.passed (delivery_begun m.credit).passed) (one-begun l.credit.passed l'.credit.passed (ap (λ (c : CreditView). c.passed) c')) (one-begun m.credit.passed (delivery_begun m.credit).passed refl),
    )
  where
    both : (d e : ℕ) → d ≡ 1 → e ≡ 1 → n + d ≡ k + e
    both d e x y = omega (arith, x, y, same)
begun-both l l' n m k (Some d) e c f same =
    let c' : l'.credit ≡ l.credit = (let x = rw e at c in x) in (
      ap (λ (c : CreditView). c.first_count) c' ∙ f,
      still n l.credit.passed l'.credit.passed (ap (λ (c : CreditView). c.passed) c') ∙ same ∙ sym (still k m.credit.passed m.credit.passed refl),
    )

pub transfer-agrees : (l l' : LinkView) (n : ℕ) (m : LinkView) (k : ℕ) (t : TransferBody) (payload : List ℕ) → l'.credit ≡ cond (is_some l.sending) l.credit (delivery_begun l.credit) → Carries l.ours t payload l.sending l'.sending → l'.ours ≡ l.ours
    → Agreed Sender l n m k → Agreed Sender l' (n + distance l.credit.passed l'.credit.passed) (received_on t payload m) (k + distance m.credit.passed (received_on t payload m).credit.passed)
transfer-agrees l l' n m k t payload c carries o a =
    let s = carries (rcv_mode m) m.receiving a.1.1.0 a.1.1.1 in
    let numbers = begun-both l l' n m k m.receiving a.1.1.0 c a.0 a.1.0 in
    (numbers.0, (numbers.1, (s.0, subst (λ (o : Option EndView). Fits o (next_unfinished (transferred (rcv_mode m) t payload) m.receiving)) (sym o) s.1)))
