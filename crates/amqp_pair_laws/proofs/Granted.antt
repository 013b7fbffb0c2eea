-- Where nothing is on its way, the sender's credit is what the receiver's journal granted, less what it has seen begun or given up.
use Rattle.std.proofs.Common.{inl, inr, ◌≡◌, ◌-◌, Bool, true, false, Some, List, [], ◌∷◌, refl, sym, ap, ◌∙◌, find, map}
use Rattle.amqp_events.specs.Event.{Event}
use Rattle.amqp_performatives.specs.declared.bodies.Role.{Role}
use Rattle.amqp_performatives.specs.declared.bodies.Role.TheVariants.{Receiver}
use Rattle.amqp_rules.specs.View.{LinkView, has_name, is_over}
use Rattle.amqp_rules.proofs.Listed.{by-bool}
use Rattle.amqp_laws.specs.Live.{live}
use Rattle.amqp_laws.specs.Session.{links_at, session_at}
use Rattle.amqp_laws.specs.Receiving.{limit, passed}
use Rattle.amqp_laws.specs.Links.{LinkPast, credit_at, is_gone, link_at, link_pasts, links_there}
use Rattle.amqp_laws.specs.At.{sent_events, with_told}
use Rattle.amqp_pair_laws.specs.Learns.{IsOneOf}
use Rattle.amqp_pair_laws.specs.Agreeing.{CreditIsKept}
use Rattle.amqp_pair_laws.proofs.CountsKept.{role-of}
use Rattle.amqp_pair_laws.proofs.Resting.{both, counts-agree}

-- a link that is found is one of those that were made
record Shown (events : List Event) (links : List LinkPast) (y : LinkView) : Type 0 where
  link : LinkPast
  there : IsOneOf link links
  is : with_told events (link_at link) ≡ y

shown : (events : List Event) (test : LinkView → Bool) (links : List LinkPast) (y : LinkView) → find test (map (with_told events) (links_there links)) ≡ Some y → Shown events links y
shown events test [] y found = absurd (cc (found))
shown events test (l ∷ links) y found =
    by-bool (is_gone l)
    (λ (t : is_gone l ≡ true). let k = rw t at found in later (shown events test links y k))
    (λ (f : is_gone l ≡ false).
    let k = rw f at found in
    by-bool (test (with_told events (link_at l)))
    (λ (t : test (with_told events (link_at l)) ≡ true).
    let k' = rw t at k in
    let one : with_told events (link_at l) ≡ y = cc k' in
    record { link = l; there = inl refl; is = one })
    (λ (f : test (with_told events (link_at l)) ≡ false). let k' = rw f at k in later (shown events test links y k')))
  where
    later : Shown events links y → Shown events (l ∷ links) y
    later s = record { link = s.link; there = inr s.there; is = s.is }

pub credit-is-kept : CreditIsKept
credit-is-kept ca cb n a b r mapped name x y fx fy ax ay =
    let lives : is_over (session_at (live b)) ≡ false = (both ca cb n a b r mapped).second in
    let events = sent_events cb (live b) in
    let there : links_at (live b) ≡ links_there (link_pasts (live b)) = rw lives refl in
    let s = shown events (has_name Receiver name) (link_pasts (live b)) y (sym (ap (λ (l : List LinkView). find (has_name Receiver name) (map (with_told events) l)) there) ∙ fy) in
    let role-is : s.link.role ≡ Receiver = ap (λ (l : LinkView). l.role) s.is ∙ role-of (Receiver, name) cb b y fy in
    let here : y.credit.credit ≡ limit s.link.past - passed s.link.past = ap (λ (l : LinkView). l.credit.credit) (sym s.is) ∙ ap (λ (r : Role). (credit_at r s.link.past).credit) role-is in
    record {
      link = s.link;
      there = s.there;
      number = ap (λ (l : LinkView). l.number) s.is;
      name = ap (λ (l : LinkView). l.name) s.is;
      role = role-is;
      credit = (counts-agree ca cb n a b r mapped name x y fx fy ax ay).credit ∙ here;
    }
