-- Two ends agree at rest: what follows of what is known where each has heard all that the other sent.
use Rattle.std.proofs.Common.{◌≡◌, ◌<◌, ℕ, ◌+◌, true, false, Option, Some, None, List, arith, refl, sym, ap, ◌∙◌, find}
use Rattle.amqp_flow.specs.Serial.{wire}
use Rattle.amqp_performatives.specs.declared.bodies.Role.{Role}
use Rattle.amqp_performatives.specs.declared.bodies.Role.TheVariants.{Sender, Receiver}
use Rattle.amqp_rules.specs.declared.config.Config.{Config}
use Rattle.amqp_rules.specs.View.{LinkView, View, has_name, is_mapped, is_over, opposite, takes_frames}
use Rattle.amqp_rules.specs.Sound.{has_end, keys}
use Rattle.amqp_laws.specs.declared.entry.Entry.{Entry}
use Rattle.amqp_laws.specs.Past.{some_entry}
use Rattle.amqp_laws.specs.Said.{hears_begin}
use Rattle.amqp_laws.specs.Live.{live}
use Rattle.amqp_laws.specs.Session.{session_at}
use Rattle.amqp_laws.specs.Windows.{heard_transfers, known, promise, sent_transfers}
use Rattle.amqp_laws.specs.At.{at}
use Rattle.amqp_laws.proofs.AttachLaw.{mapped-not-over}
use Rattle.amqp_laws.proofs.Sound.{at-is-sound}
use Rattle.amqp_laws.proofs.Twice.{and-both}
use Rattle.amqp_pair_laws.specs.World.{IsFair, Tight, hears, sends}
use Rattle.amqp_pair_laws.specs.Agreeing.{AtRest, CountsAgree, DrainsAgree, LinksAgree, LinksMeet, WindowsAgree}
use Rattle.amqp_pair_laws.proofs.Lag as lag
use Rattle.amqp_pair_laws.proofs.Slots.{kept}
use Rattle.amqp_pair_laws.proofs.SlotOf.{shape, slot_of}
use Rattle.amqp_pair_laws.proofs.SlotActs.{slots-known}
use Rattle.amqp_pair_laws.proofs.Named.{every-found, every-unmapped}
use Rattle.amqp_pair_laws.proofs.Opens.{good, heard-begun, windows-known}
use Rattle.amqp_pair_laws.proofs.Phases.{phases-known}
use Rattle.amqp_pair_laws.proofs.Over.{behind-lives}
use Rattle.amqp_pair_laws.proofs.Tallies.{tallied, tally}
use Rattle.amqp_pair_laws.proofs.CountsKept.{fair-both}
use Rattle.amqp_pair_laws.proofs.CountsPass.{attached-ends, counts-known}
use Rattle.amqp_pair_laws.proofs.DrainsKnown.{drains-known, open-some}
use Rattle.amqp_pair_laws.proofs.Answered.{none-left}

-- # Both cuts

module _ (ca cb : Config) (n : ℕ) (a b : List Entry) (r : AtRest ca cb n a b) where
  pub there : Tight ca cb n a b
  there = record { world = r.world; tight = r.heard }

  pub back : Tight cb ca n b a
  back = record { world = lag.swapped sends hears IsFair ca cb n a b r.world; tight = r.answered }

  -- neither session is over where the first is mapped
  pub record Both : Type 0 where
    pub first : is_over (session_at (live a)) ≡ false
    pub second : is_over (session_at (live b)) ≡ false
    pub heard : some_entry hears_begin (live a) ≡ true
    pub heard' : some_entry hears_begin (live b) ≡ true

  pub both : is_mapped (at ca a).session ≡ true → Both
  both mapped =
      let first : is_over (session_at (live a)) ≡ false = mapped-not-over (at ca a).session mapped in
      record {
        first = first;
        second = behind-lives cb ca n b a back first;
        heard = heard-begun (at ca a).session mapped;
        heard' = (phases-known ca cb n a b there).begun ∙ (and-both (at ca a).session.begin_sent (takes_frames (at ca a).session) mapped).0;
      }

-- # Windows

pub windows-agree : WindowsAgree
windows-agree ca cb n a b r mapped =
    let s = both ca cb n a b r mapped in
    let here = windows-known ca cb n a b (there ca cb n a b r) s.second in
    let other = windows-known cb ca n b a (back ca cb n a b r) s.first in
    let told : known ca (live a) ≡ promise cb (live b) = other.known s.heard in
    let passed : heard_transfers (live b) ≡ sent_transfers (live a) = here.heard in
    record { next = here.awaits s.heard'; room = rw (told, passed) refl }

-- # Counts and credit

same-count : (f g p q n k : ℕ) → f ≡ g → n ≡ k → wire n ≡ wire p → wire k ≡ wire q → wire (f + p) ≡ wire (g + q)
same-count f g p q n k e same h j = omega (arith, e, same, h, j)

same-credit : (n k x y : ℕ) → n ≡ k → k + y ≡ n + x → x ≡ y
same-credit n k x y same e = omega (arith, same, e)

pub counts-agree : CountsAgree
counts-agree ca cb n a b r mapped name x y fx fy ax ay =
    let s = both ca cb n a b r mapped in
    let ex = attached-ends x ax in
    let ey = attached-ends y ay in
    let fair = fair-both ca cb n a b r.world in
    let here = counts-known ca cb n a b (there ca cb n a b r) s.second Sender name x y fx fy ex.0 ex.1.1 ey.1.1 in
    let other = counts-known cb ca n b a (back ca cb n a b r) s.first Receiver name y x fy fx ey.0 ey.1.1 ex.1.1 in
    let tx = tallied (Sender, name) ca a fair.0 x fx in
    let ty = tallied (Receiver, name) cb b fair.1 y fy in
    record {
      counts = same-count x.credit.first_count y.credit.first_count x.credit.passed y.credit.passed (tally (Sender, name) ca a) (tally (Receiver, name) cb b) here.0 here.1.0 tx.told ty.told;
      credit = same-credit (tally (Sender, name) ca a) (tally (Receiver, name) cb b) x.credit.credit y.credit.credit here.1.0 other;
      unfinished = here.1.1.0;
    }

-- # Drains

pub drains-agree : DrainsAgree
drains-agree ca cb n a b r mapped name x y fx fy ax ay open' =
    let s = both ca cb n a b r mapped in
    let ex = attached-ends x ax in
    let ey = attached-ends y ay in
    let same : x.credit.credit ≡ y.credit.credit = (counts-agree ca cb n a b r mapped name x y fx fy ax ay).credit in
    drains-known cb ca n b a (back ca cb n a b r) s.first name y x fy fx ey.0 ey.1.1 ex.1.1 open' (some-there x.credit.credit y.credit.credit same (open-some y.credit open'))
  where
    some-there : (x y : ℕ) → x ≡ y → 0 < y → 0 < x
    some-there x y e h = omega (arith, e, h)

-- # Links

-- none of its links is left
abbrev pub NoneLeft : View → Type 0
NoneLeft v = (role : Role) (name : List ℕ) (x : LinkView) → find (has_name role name) v.links ≡ Some x → x.left ≡ false

opposite-twice : (r : Role) → opposite (opposite r) ≡ r
opposite-twice Sender = refl
opposite-twice Receiver = refl

kept-all : (o : Option LinkView) → ((x : LinkView) → o ≡ Some x → x.left ≡ false) → kept (shape o) ≡ (shape o).ours
kept-all None h = refl
kept-all (Some x) h = let l = h x refl in rw l refl

-- the slots of two ends, of which none is left
meet-by : (v w : View) (role : Role) (name : List ℕ) (x : LinkView) → find (has_name role name) v.links ≡ Some x → has_end (keys x) ≡ true → x.left ≡ false
    → x.ours ≡ (slot_of (opposite role) name w.links).theirs → x.theirs ≡ (slot_of (opposite role) name w.links).ours → NoneLeft w
    → (y : LinkView) × (find (has_name (opposite role) name) w.links ≡ Some y) × LinksMeet x y
meet-by v w role name x fx some left ours theirs none = by (find (has_name (opposite role) name) w.links) refl ours theirs
  where
    by : (o : Option LinkView) → find (has_name (opposite role) name) w.links ≡ o → x.ours ≡ (shape o).theirs → x.theirs ≡ (shape o).ours
        → (y : LinkView) × (find (has_name (opposite role) name) w.links ≡ Some y) × LinksMeet x y
    by None is o t = let k = rw (o, t) at some in absurd (cc k)
    by (Some y) is o t = (y, is, record { ours = o; theirs = t; unleft = left; unleft' = none (opposite role) name y is })

pub links-agree : LinksAgree
links-agree ca cb n a b r mapped role name x fx =
    let s = both ca cb n a b r mapped in
    let none : NoneLeft (at ca a) = none-left ca cb n a b (there ca cb n a b r) (back ca cb n a b r) s.first s.second in
    let none' : NoneLeft (at cb b) = none-left cb ca n b a (back ca cb n a b r) (there ca cb n a b r) s.second s.first in
    let g = good ca cb n a b r.world in
    let sound = at-is-sound ca a g.replayed g.few in
    let here = slots-known ca cb n a b (there ca cb n a b r) s.second role name in
    let other = slots-known cb ca n b a (back ca cb n a b r) s.first (opposite role) name in
    let left = none role name x fx in
    let some : has_end (keys x) ≡ true = every-found (λ l. has_end (keys l) ≡ true) (has_name role name) (at ca a).links x (every-unmapped keys (λ k. has_end k ≡ true) (at ca a).links sound.links.ends) fx in
    let ours : x.ours ≡ (slot_of (opposite role) name (at cb b).links).theirs =
    sym (ap (λ o. (shape o).ours) fx) ∙ sym (kept-all (find (has_name role name) (at ca a).links) (λ l is. none role name l is)) ∙ here.asked in
    let theirs' : (slot_of (opposite role) name (at cb b).links).ours ≡ (slot_of (opposite (opposite role)) name (at ca a).links).theirs =
    sym (kept-all (find (has_name (opposite role) name) (at cb b).links) (λ l is. none' (opposite role) name l is)) ∙ other.asked in
    let theirs : x.theirs ≡ (slot_of (opposite role) name (at cb b).links).ours =
    sym (ap (λ o. (shape o).theirs) fx) ∙ ap (λ role. (slot_of role name (at ca a).links).theirs) (sym (opposite-twice role)) ∙ sym theirs' in
    meet-by (at ca a) (at cb b) role name x fx some left ours theirs none'
