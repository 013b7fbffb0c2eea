-- What parts of a slot's turn do, one behind the other.
use Rattle.std.proofs.Common.{◌≡◌, ℕ, Bool, List, [], ◌++◌, Option, None, Some, refl, sym, ap, ◌∙◌, subst, append_assoc, append-nil}
use Rattle.std.specs.Io.KnownBytes.{Consumes}
use Rattle.std.proofs.KnownBytes.{Consumes-nil, Consumes-trans}
use Rattle.amqp_rules.specs.declared.reply.Given.{Given}
use Rattle.amqp_conn.specs.Connection.{Connection}
use Rattle.amqp_conn.specs.Pumping.{OnlyWrote, as_popped}
use Rattle.amqp_ready.specs.declared.fault.SlotFault.{SlotFault}
use Rattle.amqp_ready.specs.Moving.{PassesOn}
use Rattle.amqp_ready.specs.Gathering.{gone}
use Rattle.amqp_ready.specs.Lending.{still}
use Rattle.amqp_ready.specs.Failing.{EndsSo, IsOfFeeding, Stays, TellsFailure}
use Rattle.amqp_ready.specs.Serving.{FeedsOn, IsNoFeeds}
use Rattle.amqp_ready.specs.Slotting.{Sent, Parts, parts, Serves}
use Rattle.amqp_ready.proofs.Cursor.{passes-none, passes-then}
use Rattle.amqp_ready.proofs.Failures.{fails-then, fails-last, fails-fed, ends-fed}
use Rattle.amqp_ready.proofs.Keeping.{still-popped}
use Rattle.amqp_ready.proofs.Onward.{feeds-none, feeds-then, feeds-more, feeds-still, feeds-other}

-- ---- what is written

passes-behind : (a b : Option (List ℕ)) (x y z : List ℕ) → PassesOn a b x y → PassesOn a b (x ++ z) (y ++ z)
passes-behind a b x y z p = record { front = p.front; split = ap (λ w. w ++ z) p.split ∙ append_assoc p.front y z; appends = p.appends }

pub sent-none : (c d : Connection) (l : List ℕ) (k : Option (List ℕ)) → gone d ≡ gone c → Sent c d l l k k
sent-none c d l k g = record { more = []; popped = g ∙ sym (append-nil (gone c)); passes = subst (λ (x : List ℕ). PassesOn k k x l) (sym (append-nil l)) (passes-none k l) }

pub sent-then : (c d e : Connection) (l m n : List ℕ) (i j k : Option (List ℕ)) → Sent c d l m i j → Sent d e m n j k → Sent c e l n i k
sent-then c d e l m n i j k p q =
    record {
      more = p.more ++ q.more;
      popped = q.popped ∙ ap (λ x. x ++ q.more) p.popped ∙ append_assoc (gone c) p.more q.more;
      passes =
          subst (λ (x : List ℕ). PassesOn i k x n) (append_assoc l p.more q.more)
          (passes-then i j k ((l ++ p.more) ++ q.more) (m ++ q.more) n (passes-behind i j (l ++ p.more) m q.more p.passes) q.passes);
    }

pub only-then : (c d e : Connection) → OnlyWrote c d → OnlyWrote d e → OnlyWrote c e
only-then c d e a b = b ∙ ap (as_popped e.core.log.popped) a

-- ---- a slot

nothing-more : (why : Option SlotFault) (c d : Connection) (x y : List ℕ) (t u : Option (List Given)) → FeedsOn why c x t d y u → FeedsOn why c (x ++ []) t d y u
nothing-more why c d x y t u p = subst (λ (w : List ℕ). FeedsOn why c w t d y u) (sym (append-nil x)) p

-- what was unfed is fed
pub serves-fed : (why : Option SlotFault) (s k : Option (List ℕ)) (f : Bool) (c d : Connection) (x y l : List ℕ) (t u : Option (List Given)) → FeedsOn why c x t d y u → gone d ≡ gone c → IsOfFeeding why
    → Serves why (parts s x c t l k f) (parts s y d u l k f)
serves-fed why s k f c d x y l t u feeds g told =
    record {
      piece = [];
      read = Consumes-nil s;
      fed = nothing-more why c d x y t u feeds;
      sent = sent-none c d l k g;
      fails = fails-fed why f told;
      ends = ends-fed why s told;
    }

-- what was put out is written, or as much as went before the stream failed
pub serves-sent : (why : Option SlotFault) (s s' k k' : Option (List ℕ)) (f f' : Bool) (c d : Connection) (x l m : List ℕ) (t : Option (List Given)) → IsNoFeeds why → s' ≡ s → Sent c d l m k k' → OnlyWrote c d
    → TellsFailure why f f' → EndsSo why s' → Serves why (parts s x c t l k f) (parts s' x d t m k' f')
serves-sent why s s' k k' f f' c d x l m t r e p o fails ends =
    record {
      piece = [];
      read = subst (λ (r : Option (List ℕ)). Consumes s r []) (sym e) (Consumes-nil s);
      fed = nothing-more why c d x x t t (feeds-other why c d x x t t r (feeds-still None c c d x x t t (feeds-none c x t) (still-popped c d o)));
      sent = p;
      fails = fails;
      ends = ends;
    }

-- octets are read, where all were fed, or none, where the stream failed
pub serves-read : (why : Option SlotFault) (s s' k k' : Option (List ℕ)) (f f' : Bool) (c : Connection) (x y l : List ℕ) (t : Option (List Given)) → IsNoFeeds why → x ≡ [] → Consumes s s' y → k' ≡ k
    → TellsFailure why f f' → EndsSo why s' → Serves why (parts s x c t l k f) (parts s' y c t l k' f')
serves-read why s s' k k' f f' c x y l t r none reads e fails ends =
    record {
      piece = y;
      read = reads;
      fed = feeds-other why c c (x ++ y) y t t r (subst (λ (w : List ℕ). FeedsOn None c (w ++ y) t c y t) (sym none) (feeds-none c y t));
      sent = subst (λ (w : Option (List ℕ)). Sent c c l l k w) (sym e) (sent-none c c l k refl);
      fails = fails;
      ends = ends;
    }

-- the connection is lent
pub serves-lent : (s k : Option (List ℕ)) (f : Bool) (c d : Connection) (x l : List ℕ) (t u : Option (List Given)) → still d ≡ still c → gone d ≡ gone c → u ≡ t
    → Serves None (parts s x c t l k f) (parts s x d u l k f)
serves-lent s k f c d x l t u h g e =
    record {
      piece = [];
      read = Consumes-nil s;
      fed = nothing-more None c d x x t u (subst (λ (w : Option (List Given)). FeedsOn None c x t d x w) (sym e) (feeds-still None c c d x x t t (feeds-none c x t) h));
      sent = sent-none c d l k g;
      fails = refl;
      ends = tt;
    }

pub serves-then : (why : Option SlotFault) (p q r : Parts) → Serves None p q → Serves why q r → Serves why p r
serves-then why p q r a b =
    record {
      piece = a.piece ++ b.piece;
      read = Consumes-trans p.source q.source r.source a.piece b.piece a.read b.read;
      fed =
          subst (λ (w : List ℕ). FeedsOn why p.conn w p.told r.conn r.unfed r.told) (append_assoc p.unfed a.piece b.piece)
          (feeds-then why p.conn q.conn r.conn ((p.unfed ++ a.piece) ++ b.piece) (q.unfed ++ b.piece) r.unfed p.told q.told r.told
          (feeds-more p.conn q.conn (p.unfed ++ a.piece) q.unfed b.piece p.told q.told a.fed) b.fed);
      sent = sent-then p.conn q.conn r.conn p.left q.left r.left p.sink q.sink r.sink a.sent b.sent;
      fails = fails-then why p.failed q.failed r.failed a.fails b.fails;
      ends = b.ends;
    }

-- behind a fault what was put out is written, which may fail the stream
pub serves-last : (e : SlotFault) (p : Parts) (s s' k k' : Option (List ℕ)) (f f' : Bool) (c d : Connection) (x l m : List ℕ) (t : Option (List Given)) → Serves (Some e) p (parts s x c t l k f) → s' ≡ s
    → Sent c d l m k k' → OnlyWrote c d → Stays f f' → Serves (Some e) p (parts s' x d t m k' f')
serves-last e p s s' k k' f f' c d x l m t a same sent o stays =
    record {
      piece = a.piece;
      read = subst (λ (r : Option (List ℕ)). Consumes p.source r a.piece) (sym same) a.read;
      fed = feeds-still (Some e) p.conn c d (p.unfed ++ a.piece) x p.told t a.fed (still-popped c d o);
      sent = sent-then p.conn c d p.left l m p.sink k k' a.sent sent;
      fails = fails-last e p.failed f f' a.fails stays;
      ends = subst (λ (r : Option (List ℕ)). EndsSo (Some e) r) (sym same) a.ends;
    }

pub serves-none : (p : Parts) → Serves None p p
serves-none p = serves-fed None p.source p.sink p.failed p.conn p.conn p.unfed p.unfed p.left p.told p.told (feeds-none p.conn p.unfed p.told) refl tt

-- a fault that is no failure of the stream
pub serves-other : (why : Option SlotFault) (p q : Parts) → IsNoFeeds why → TellsFailure why p.failed p.failed → EndsSo why q.source → Serves None p q → Serves why p q
serves-other why p q r fails ends a =
    record {
      piece = a.piece;
      read = a.read;
      fed = feeds-other why p.conn q.conn (p.unfed ++ a.piece) q.unfed p.told q.told r a.fed;
      sent = a.sent;
      fails = subst (λ (f : Bool). TellsFailure why p.failed f) (sym a.fails) fails;
      ends = ends;
    }
