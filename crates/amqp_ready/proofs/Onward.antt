-- Feeds go on where the one before stopped, and nothing is lost.
use Rattle.std.proofs.Common.{◌≡◌, ◌≤◌, ℕ, List, [], ◌∷◌, ◌++◌, length, take, drop, Bool, true, false, cond, Option, Some, None, Ok, Err, refl, sym, ap, ◌∙◌, subst, arith, append_assoc, append-nil, length-append}
use Rattle.std.proofs.lemmas.List.{take-append-le, drop-append-le}
use Rattle.std.specs.Bool.{OnTrue, OnFalse}
use Rattle.amqp_rules.specs.declared.reply.Given.{Given}
use Rattle.amqp_rules.specs.declared.violation.Violation.{Violation}
use Rattle.amqp_journal.specs.Units.{units, PutWithin}
use Rattle.amqp_conn.specs.declared.fault.ConnFault.{ConnFault}
use Rattle.amqp_conn.specs.declared.fed.Fed.{Fed}
use Rattle.amqp_conn.specs.Connection.{Connection, more}
use Rattle.amqp_conn.specs.Feeding.{Feeds, Takes, IsFed, IsPassed, IsAnswered}
use Rattle.amqp_conn.specs.Pumping.{Adds, AddsAll}
use Rattle.amqp_conn.specs.Turning.{Took}
use Rattle.amqp_conn.proofs.Loops.{took-fed, took-fault}
use Rattle.amqp_ready.specs.declared.fault.SlotFault.{SlotFault}
use Rattle.amqp_ready.specs.declared.fault.SlotFault.TheVariants as fault
use Rattle.amqp_ready.specs.Gathering.{gone}
use Rattle.amqp_ready.specs.Lending.{still}
use Rattle.amqp_ready.specs.Serving.{Goes, Ran, given_by, FeedsOn, IsNoFeeds}
use Rattle.amqp_ready.proofs.Keeping.{gone-more}

-- ---- one feed

pub used-within : (c d : Connection) (x : List ℕ) (fed : Fed) → Feeds c x (Ok fed) d → fed.used ≤ length x
used-within c d x fed f = by fed.violation f
  where
    by : (v : Option Violation) → Takes c x fed v d → fed.used ≤ length x
    by None t = t.0
    by (Some v) t = let none : fed.used ≡ 0 = t.0 in omega (arith, none)

took-gone : (c d : Connection) (x y : List ℕ) → c.core.log.popped ≤ length (units c.core.log) → Took c x d y → gone d ≡ gone c
took-gone c d x y s t = gone-more c d t.more s t.popped t.all

pub fed-gone : (c d : Connection) (x : List ℕ) (fed : Fed) → PutWithin (length c.core.log.journal) c.core.log.put → c.core.log.popped ≤ length (units c.core.log) → Feeds c x (Ok fed) d → gone d ≡ gone c
fed-gone c d x fed w s f = took-gone c d x (drop fed.used x) s (took-fed c d x fed w f)

pub fault-gone : (e : ConnFault) (c d : Connection) (x : List ℕ) → PutWithin (length c.core.log.journal) c.core.log.put → c.core.log.popped ≤ length (units c.core.log) → Feeds c x (Err e) d → gone d ≡ gone c
fault-gone e c d x w s f = took-gone c d x x s (took-fault e c d x w f)

-- ---- what is told

adds-none : (a : Option (List Given)) → AddsAll a a []
adds-none None = tt
adds-none (Some u) = sym (append-nil u)

adds-then : (a b c : Option (List Given)) (x y : List Given) → AddsAll a b x → AddsAll b c y → AddsAll a c (x ++ y)
adds-then None b c x y p q = tt
adds-then (Some u) None c x y p q = absurd p
adds-then (Some u) (Some v) None x y p q = absurd q
adds-then (Some u) (Some v) (Some w) x y p q = q ∙ ap (λ z. z ++ y) p ∙ append_assoc u x y

tells-one : (stepped : Bool) (given : Given) (a b : Option (List Given)) → OnTrue stepped (Adds a b given) → OnFalse stepped (b ≡ a) → AddsAll a b (cond stepped (given ∷ []) [])
tells-one true given a b t f = t
tells-one false given a b t f = subst (λ (o : Option (List Given)). AddsAll a o []) (sym f) (adds-none a)

given-append : (feds others : List Fed) → given_by (feds ++ others) ≡ given_by feds ++ given_by others
given-append [] others = refl
given-append (fed ∷ feds) others = by fed.stepped (given-append feds others)
  where
    by : (b : Bool) → given_by (feds ++ others) ≡ given_by feds ++ given_by others → cond b (fed.given ∷ given_by (feds ++ others)) (given_by (feds ++ others)) ≡ cond b (fed.given ∷ given_by feds) (given_by feds) ++ given_by others
    by true rest = ap (λ gs. fed.given ∷ gs) rest
    by false rest = rest

-- ---- one after the other

goes-none : (c : Connection) (x : List ℕ) → Goes [] c x c x
goes-none c x = (refl, refl)

goes-then : (feds others : List Fed) (c d e : Connection) (x y z : List ℕ) → Goes feds c x d y → Goes others d y e z → Goes (feds ++ others) c x e z
goes-then [] [] c d e x y z p q = (q.0 ∙ p.0, q.1 ∙ p.1)
goes-then [] (fed ∷ others) c d e x y z p (a, b, k, f, rest) =
    (a, b, k ∙ p.0, subst (λ (w : List ℕ). Feeds a w (Ok fed) b) p.1 f, subst (λ (w : List ℕ). Goes others b (drop fed.used w) e z) p.1 rest)
goes-then (fed ∷ feds) others c d e x y z (a, b, k, f, rest) q = (a, b, k, f, goes-then feds others b d e (drop fed.used x) y z rest q)

goes-one : (fed : Fed) (c b d : Connection) (x y : List ℕ) → Feeds c x (Ok fed) b → still d ≡ still b → y ≡ drop fed.used x → Goes (fed ∷ []) c x d y
goes-one fed c b d x y f k e = (c, b, refl, f, (k, e))

ran-goes : (why : Option SlotFault) (feds : List Fed) (c d : Connection) (x y : List ℕ) → IsNoFeeds why → Goes feds c x d y → Ran why feds c x d y
ran-goes None feds c d x y r g = g
ran-goes (Some fault.Read) feds c d x y r g = g
ran-goes (Some fault.Write) feds c d x y r g = g
ran-goes (Some fault.EndOfInput) feds c d x y r g = g
ran-goes (Some fault.TimedOut) feds c d x y r g = g
ran-goes (Some (fault.Refused e)) feds c d x y r g = g
ran-goes (Some (fault.Conn e)) feds c d x y r g = absurd r

ran-then : (why : Option SlotFault) (feds others : List Fed) (c d e : Connection) (x y z : List ℕ) → Goes feds c x d y → Ran why others d y e z → Ran why (feds ++ others) c x e z
ran-then None feds others c d e x y z p q = goes-then feds others c d e x y z p q
ran-then (Some fault.Read) feds others c d e x y z p q = goes-then feds others c d e x y z p q
ran-then (Some fault.Write) feds others c d e x y z p q = goes-then feds others c d e x y z p q
ran-then (Some fault.EndOfInput) feds others c d e x y z p q = goes-then feds others c d e x y z p q
ran-then (Some fault.TimedOut) feds others c d e x y z p q = goes-then feds others c d e x y z p q
ran-then (Some (fault.Refused f)) feds others c d e x y z p q = goes-then feds others c d e x y z p q
ran-then (Some (fault.Conn f)) feds others c d e x y z p (m, n, q, told, k) = (m, n, goes-then feds others c d m x y z p q, told, k)

-- ---- with what is told

pub feeds-none : (c : Connection) (x : List ℕ) (t : Option (List Given)) → FeedsOn None c x t c x t
feeds-none c x t = record { feds = []; ran = goes-none c x; tells = adds-none t }

pub feeds-one : (why : Option SlotFault) (fed : Fed) (c b d : Connection) (x y : List ℕ) (t t' : Option (List Given)) → Feeds c x (Ok fed) b → still d ≡ still b → y ≡ drop fed.used x
    → IsNoFeeds why → OnTrue fed.stepped (Adds t t' fed.given) → OnFalse fed.stepped (t' ≡ t) → FeedsOn why c x t d y t'
feeds-one why fed c b d x y t t' f k e refused ts fs =
    record { feds = fed ∷ []; ran = ran-goes why (fed ∷ []) c d x y refused (goes-one fed c b d x y f k e); tells = tells-one fed.stepped fed.given t t' ts fs }

pub feeds-fault : (e : ConnFault) (c d : Connection) (x : List ℕ) (t : Option (List Given)) → Feeds c x (Err e) d → FeedsOn (Some (fault.Conn e)) c x t d x t
feeds-fault e c d x t f = record { feds = []; ran = (c, d, goes-none c x, f, refl); tells = adds-none t }

pub feeds-then : (why : Option SlotFault) (c d e : Connection) (x y z : List ℕ) (t u v : Option (List Given)) → FeedsOn None c x t d y u → FeedsOn why d y u e z v → FeedsOn why c x t e z v
feeds-then why c d e x y z t u v p q =
    record {
      feds = p.feds ++ q.feds;
      ran = ran-then why p.feds q.feds c d e x y z p.ran q.ran;
      tells = subst (λ (gs : List Given). AddsAll t v gs) (sym (given-append p.feds q.feds)) (adds-then t u v (given_by p.feds) (given_by q.feds) p.tells q.tells);
    }

-- ---- more octets behind

answered-more : (c m : Connection) (x z : List ℕ) (v : Violation) (given : Given) → IsAnswered c x v given m → IsAnswered c (x ++ z) v given m
answered-more c m x z v given a =
    record {
      f = a.f;
      front = a.front;
      back = a.back ++ z;
      has =
          record {
            reads = a.has.reads;
            framed = a.has.framed;
            small = a.has.small;
            split = sym (append_assoc c.unread x z) ∙ ap (λ y. y ++ z) a.has.split ∙ append_assoc a.front a.back z;
          };
      treated = a.treated;
      answers = a.answers;
      stands = a.stands;
    }

fed-more : (c d : Connection) (x z : List ℕ) (fed : Fed) → Feeds c x (Ok fed) d → Feeds c (x ++ z) (Ok fed) d
fed-more c d x z fed f = by fed.violation f
  where
    by : (v : Option Violation) → Takes c x fed v d → Takes c (x ++ z) fed v d
    by None t =
        let front : take fed.used (x ++ z) ≡ take fed.used x = take-append-le fed.used x z t.0 in
        let longer = length-append x z in
        let within : fed.used ≤ length x = t.0 in (
          omega (arith, within, longer),
          subst (λ (w : List ℕ). IsFed c w d) (sym front) t.1,
          t.2,
          subst (λ (w : List ℕ). IsPassed (more w c)) (sym front) t.3,
        )
    by (Some v) t = (t.0, t.1, answered-more c d x z v fed.given t.2)

goes-more : (feds : List Fed) (c d : Connection) (x y z : List ℕ) → Goes feds c x d y → Goes feds c (x ++ z) d (y ++ z)
goes-more [] c d x y z (k, e) = (k, ap (λ w. w ++ z) e)
goes-more (fed ∷ feds) c d x y z (a, b, k, f, rest) =
    let cut : drop fed.used (x ++ z) ≡ drop fed.used x ++ z = drop-append-le fed.used x z (used-within a b x fed f) in
    (a, b, k, fed-more a b x z fed f, subst (λ (w : List ℕ). Goes feds b w d (y ++ z)) (sym cut) (goes-more feds b d (drop fed.used x) y z rest))

pub feeds-more : (c d : Connection) (x y z : List ℕ) (t t' : Option (List Given)) → FeedsOn None c x t d y t' → FeedsOn None c (x ++ z) t d (y ++ z) t'
feeds-more c d x y z t t' p = record { feds = p.feds; ran = goes-more p.feds c d x y z p.ran; tells = p.tells }

-- ---- behind a feed the connection is lent, or units are popped

goes-still : (feds : List Fed) (c d e : Connection) (x y : List ℕ) → Goes feds c x d y → still e ≡ still d → Goes feds c x e y
goes-still [] c d e x y (k, s) h = (h ∙ k, s)
goes-still (fed ∷ feds) c d e x y (a, b, k, f, rest) h = (a, b, k, f, goes-still feds b d e (drop fed.used x) y rest h)

ran-still : (why : Option SlotFault) (feds : List Fed) (c d e : Connection) (x y : List ℕ) → Ran why feds c x d y → still e ≡ still d → Ran why feds c x e y
ran-still None feds c d e x y g h = goes-still feds c d e x y g h
ran-still (Some fault.Read) feds c d e x y g h = goes-still feds c d e x y g h
ran-still (Some fault.Write) feds c d e x y g h = goes-still feds c d e x y g h
ran-still (Some fault.EndOfInput) feds c d e x y g h = goes-still feds c d e x y g h
ran-still (Some fault.TimedOut) feds c d e x y g h = goes-still feds c d e x y g h
ran-still (Some (fault.Refused f)) feds c d e x y g h = goes-still feds c d e x y g h
ran-still (Some (fault.Conn f)) feds c d e x y (m, n, g, told, k) h = (m, n, g, told, h ∙ k)

pub feeds-still : (why : Option SlotFault) (c d e : Connection) (x y : List ℕ) (t t' : Option (List Given)) → FeedsOn why c x t d y t' → still e ≡ still d → FeedsOn why c x t e y t'
feeds-still why c d e x y t t' p h = record { feds = p.feds; ran = ran-still why p.feds c d e x y p.ran h; tells = p.tells }

-- a fault that no feed told
pub feeds-other : (why : Option SlotFault) (c d : Connection) (x y : List ℕ) (t t' : Option (List Given)) → IsNoFeeds why → FeedsOn None c x t d y t' → FeedsOn why c x t d y t'
feeds-other why c d x y t t' r p = record { feds = p.feds; ran = ran-goes why p.feds c d x y r p.ran; tells = p.tells }
