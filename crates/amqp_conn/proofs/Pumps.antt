-- Pumping goes on where it stopped.
use Rattle.std.proofs.Common.{◌≡◌, ◌≢◌, ◌≤◌, ◌<◌, ◌+◌, ℕ, zero, suc, List, [], ◌∷◌, ◌++◌, length, take, drop, Option, Some, None, Ok, Err, refl, sym, ap, ◌∙◌, subst, inl, inr, ◌⊎◌, ⊎_elim, arith, append_assoc, append-nil, length-append, length-drop}
use Rattle.std.specs.List.{slice_get}
use Rattle.std.proofs.lemmas.List.{take-append-drop, length-take-le, nil_from_length}
use Rattle.std.proofs.lemmas.Option.{slice_get_within}
use Rattle.std.specs.Io.KnownBytes.{Consumes, Appends, IsAtEnd, Keeps}
use Rattle.amqp_journal.specs.Log.{Log}
use Rattle.amqp_journal.specs.Units.{units, waiting}
use Rattle.amqp_conn.specs.Connection.{Connection}
use Rattle.amqp_conn.specs.Calling.{popped}
use Rattle.amqp_conn.specs.Feeding.{IsFed}
use Rattle.amqp_conn.specs.declared.phase.Phase.TheVariants as phase
use Rattle.amqp_conn.specs.declared.fault.ConnFault.{ConnFault}
use Rattle.amqp_conn.specs.declared.pumping.PumpEnd.{PumpEnd}
use Rattle.amqp_conn.specs.declared.pumping.PumpEnd.TheVariants as end
use Rattle.amqp_conn.specs.declared.pumping.PumpFault.{PumpFault}
use Rattle.amqp_conn.specs.declared.pumping.PumpFault.TheVariants as fault
use Rattle.amqp_conn.specs.Pumping.{Line, line, Later, as_popped, joined, IsPiece, ArePieces, AppendsFront, WentOut, Carries, Closes, EndsBy, Breaks, Fails, Ran, Runs, AllWent, OnlyWrote}
use Rattle.amqp_conn.specs.Turning.{Took, ClosedBy, ClosesWell, StoppedBy, WritesOne, WriteFails, TellsLast, FedAll, TurnEnds, Turned, TurnFails}
use Rattle.amqp_conn.proofs.Onward.{fed-onward}
use Rattle.amqp_conn.proofs.Popping.{fed-also}

-- ---- devices

consumes-then : (a b c : Option (List ℕ)) (x y : List ℕ) → Consumes a b x → Consumes b c y → Consumes a c (x ++ y)
consumes-then None b c x y p q = tt
consumes-then (Some u) None c x y p q = absurd p
consumes-then (Some u) (Some v) None x y p q = absurd q
consumes-then (Some u) (Some v) (Some w) x y p q = p ∙ ap (λ z. x ++ z) q ∙ sym (append_assoc x y w)

consumes-none : (a : Option (List ℕ)) → Consumes a a []
consumes-none None = tt
consumes-none (Some u) = refl

pub appends-then : (a b c : Option (List ℕ)) (x y : List ℕ) → Appends a b x → Appends b c y → Appends a c (x ++ y)
appends-then None b c x y p q = tt
appends-then (Some u) None c x y p q = absurd p
appends-then (Some u) (Some v) None x y p q = absurd q
appends-then (Some u) (Some v) (Some w) x y p q = q ∙ ap (λ z. z ++ y) p ∙ append_assoc u x y

appends-none : (a : Option (List ℕ)) → Appends a a []
appends-none None = tt
appends-none (Some u) = sym (append-nil u)

joined-append : (xs ys : List (List ℕ)) → joined (xs ++ ys) ≡ joined xs ++ joined ys
joined-append [] ys = refl
joined-append (x ∷ xs) ys = ap (λ z. x ++ z) (joined-append xs ys) ∙ sym (append_assoc x (joined xs) (joined ys))

-- ---- units

fronts : (xs ys a b : List (List ℕ)) → length xs ≡ length ys → xs ++ a ≡ ys ++ b → xs ≡ ys
fronts [] [] a b n e = refl
fronts [] (y ∷ ys) a b n e = absurd (omega (arith, n))
fronts (x ∷ xs) [] a b n e = absurd (omega (arith, n))
fronts (x ∷ xs) (y ∷ ys) a b n e =
    let here : x ≡ y = cc in
    let rest : xs ++ a ≡ ys ++ b = cc in
    let k = fronts xs ys a b (omega (arith, n)) rest in
    λ i. here i ∷ k i

at-place : (xs : List (List ℕ)) (i : ℕ) (x : List ℕ) → slice_get xs i ≡ Some x → xs ≡ take i xs ++ x ∷ drop (suc i) xs
at-place [] i x e = absurd (cc)
at-place (y ∷ xs) zero x e = let here : y ≡ x = cc in ap (λ z. z ∷ xs) here
at-place (y ∷ xs) (suc i) x e = ap (λ z. y ∷ z) (at-place xs i x e)

none-out : (l : Log) → l.popped ≤ length (units l) → WentOut l l []
none-out l s =
    let n = length-take-le l.popped (units l) s in
    let same : take l.popped (units l) ++ [] ≡ take l.popped (units l) = append-nil (take l.popped (units l)) in
    record {
      front = take l.popped (units l);
      popped = n;
      now = ap length same ∙ n;
      all = sym (take-append-drop l.popped (units l)) ∙ ap (λ x. x ++ waiting l) (sym same);
      more = [];
      grown = sym (append-nil (units l));
    }

-- units that come behind do not go out
still-out : (k l : Log) (more : List (List ℕ)) → k.popped ≤ length (units k) → l.popped ≡ k.popped → units l ≡ units k ++ more → l.popped ≤ length (units l) → WentOut k l []
still-out k l more s same grown t =
    let n = length-take-le l.popped (units l) t in
    let nil : take l.popped (units l) ++ [] ≡ take l.popped (units l) = append-nil (take l.popped (units l)) in
    record {
      front = take l.popped (units l);
      popped = n ∙ same;
      now = ap length nil ∙ n;
      all = sym (take-append-drop l.popped (units l)) ∙ ap (λ x. x ++ waiting l) (sym nil);
      more = more;
      grown = grown;
    }

one-out : (l m : Log) (x : List ℕ) → l.popped ≤ length (units l) → slice_get (units l) l.popped ≡ Some x → m.popped ≡ suc l.popped → units m ≡ units l → WentOut l m (x ∷ [])
one-out l m x s e p same =
    let front = take l.popped (units l) in
    let n : length front ≡ l.popped = length-take-le l.popped (units l) s in
    let behind : waiting m ≡ drop (suc l.popped) (units l) = ap (λ k. drop k (units m)) p ∙ ap (drop (suc l.popped)) same in
    record {
      front = front;
      popped = n;
      now = let k = length-append front (x ∷ []) in omega (arith, k, n, p);
      all = same ∙ at-place (units l) l.popped x e ∙ ap (λ z. front ++ x ∷ z) (sym behind) ∙ sym (append_assoc front (x ∷ []) (waiting m));
      more = [];
      grown = same ∙ sym (append-nil (units l));
    }

out-then : (k l m : Log) (xs ys : List (List ℕ)) → WentOut k l xs → WentOut l m ys → WentOut k m (xs ++ ys)
out-then k l m xs ys p q =
    let both : q.front ++ (ys ++ waiting m) ≡ (p.front ++ xs) ++ (waiting l ++ q.more) =
    sym (append_assoc q.front ys (waiting m)) ∙ sym q.all ∙ q.grown ∙ ap (λ z. z ++ q.more) p.all ∙ append_assoc (p.front ++ xs) (waiting l) q.more in
    let front : q.front ≡ p.front ++ xs = fronts q.front (p.front ++ xs) (ys ++ waiting m) (waiting l ++ q.more) (q.popped ∙ sym p.now) both in
    let here : q.front ++ ys ≡ p.front ++ (xs ++ ys) = ap (λ z. z ++ ys) front ∙ append_assoc p.front xs ys in
    record {
      front = p.front;
      popped = p.popped;
      now = ap length (sym here) ∙ q.now;
      all = q.all ∙ ap (λ z. z ++ waiting m) here;
      more = p.more ++ q.more;
      grown = q.grown ∙ ap (λ us. us ++ q.more) p.grown ∙ append_assoc (units k) p.more q.more;
    }

-- ---- what is carried

pieces-then : (xs ys : List (List ℕ)) → ArePieces xs → ArePieces ys → ArePieces (xs ++ ys)
pieces-then [] ys p q = q
pieces-then (x ∷ xs) ys (p, ps) q = (p, pieces-then xs ys ps q)

later-none : (c d : Connection) (x y : List ℕ) → Later c x d y → Later c (x ++ []) d y
later-none c d x y p = subst (λ (w : List ℕ). Later c w d y) (sym (append-nil x)) p

-- the source lost nothing
carries-still : (s s' k : Option (List ℕ)) (c : Connection) (x : List ℕ) → Consumes s s' [] → c.core.log.popped ≤ length (units c.core.log) → Carries [] (line s x c k) (line s' x c k)
carries-still s s' k c x r n =
    record { sized = tt; read = r; fed = later-none c c x x (λ z e on. on); out = []; went = none-out c.core.log n; written = appends-none k }

-- one unit goes out
pub carries-unit : (s k k' : Option (List ℕ)) (c d : Connection) (x u : List ℕ) → c.core.log.popped ≤ length (units c.core.log) → slice_get (units c.core.log) c.core.log.popped ≡ Some u
    → d ≡ popped c → Appends k k' u → Carries [] (line s x c k) (line s x d k')
carries-unit s k k' c d x u n e is a =
    subst (λ (y : Connection). Carries [] (line s x c k) (line s x y k')) (sym is)
    (record {
      sized = tt;
      read = consumes-none s;
      fed = later-none c c x x (λ z f on. on);
      out = u ∷ [];
      went = one-out c.core.log (popped c).core.log u n e (omega arith) refl;
      written = subst (λ (y : List ℕ). Appends k k' y) (sym (append-nil u)) a;
    })

-- or not whole
pub breaks-unit : (s k k' : Option (List ℕ)) (c d : Connection) (x u : List ℕ) → c.core.log.popped ≤ length (units c.core.log) → slice_get (units c.core.log) c.core.log.popped ≡ Some u
    → d ≡ popped c → AppendsFront k k' u → Breaks [] (line s x c k) (line s x d k')
breaks-unit s k k' c d x u n e is a =
    record { before = line s x c k; carried = carries-still s s k c x (consumes-none s) n; unit = u; waits = e; popped = is; written = a; source = refl; rest = refl }

-- nothing goes out
pub writes-none : (k : Option (List ℕ)) (c : Connection) → c.core.log.popped ≤ length (units c.core.log) → WritesOne c c k k
writes-none k c n = λ s x. carries-still s s k c x (consumes-none s) n

-- octets are fed
carries-took : (s k : Option (List ℕ)) (c d : Connection) (x y : List ℕ) → c.core.log.popped ≤ length (units c.core.log) → Took c x d y → Carries [] (line s x c k) (line s y d k)
carries-took s k c d x y n t =
    let popped-same : d.core.log.popped ≡ c.core.log.popped = t.popped in
    let back : as_popped c.core.log.popped d ≡ d = ap (λ m. as_popped m d) (sym popped-same) in
    let grown = length-append (units c.core.log) t.more in
    let longer : length (units d.core.log) ≡ length (units c.core.log ++ t.more) = ap length t.all in
    record {
      sized = tt;
      read = consumes-none s;
      fed = later-none c (as_popped c.core.log.popped d) x y (subst (λ (w : Connection). Later c x w y) (sym back) t.later);
      out = [];
      went = still-out c.core.log d.core.log t.more n popped-same t.all (let same = popped-same in omega (arith, n, same, grown, longer));
      written = appends-none k;
    }

-- a piece is read
carries-read : (s s' k : Option (List ℕ)) (c : Connection) (x : List ℕ) → Consumes s s' x → IsPiece x → c.core.log.popped ≤ length (units c.core.log) → Carries (x ∷ []) (line s [] c k) (line s' x c k)
carries-read s s' k c x r i n =
    let all : x ++ [] ≡ x = append-nil x in
    record {
      sized = (i, tt);
      read = subst (λ (w : List ℕ). Consumes s s' w) (sym all) r;
      fed = subst (λ (w : List ℕ). Later c w c x) (sym all) (λ z e on. on);
      out = [];
      went = none-out c.core.log n;
      written = appends-none k;
    }

pub carries-then : (xs ys : List (List ℕ)) (p q r : Line) → Carries xs p q → Carries ys q r → Carries (xs ++ ys) p r
carries-then xs ys p q r a b =
    let n = p.conn.core.log.popped in
    let m = q.conn.core.log.popped in
    record {
      sized = pieces-then xs ys a.sized b.sized;
      read = subst (λ (w : List ℕ). Consumes p.source r.source w) (sym (joined-append xs ys)) (consumes-then p.source q.source r.source (joined xs) (joined ys) a.read b.read);
      fed =
          λ z e on.
          let same : e.core.log.popped ≡ n = (fed-onward (as_popped n r.conn) e (r.rest ++ z) on).popped in
          let there : as_popped n e ≡ e = ap (λ i. as_popped i e) (sym same) in
          let one : IsFed q.conn ((q.rest ++ joined ys) ++ z) (as_popped m e) = b.fed z (as_popped m e) (fed-also m (as_popped n r.conn) e (r.rest ++ z) on) in
          let two : IsFed (as_popped n q.conn) ((q.rest ++ joined ys) ++ z) (as_popped n e) = fed-also n q.conn (as_popped m e) ((q.rest ++ joined ys) ++ z) one in
          let three : IsFed (as_popped n q.conn) (q.rest ++ (joined ys ++ z)) e =
          subst (λ (w : List ℕ). IsFed (as_popped n q.conn) w e) (append_assoc q.rest (joined ys) z) (subst (λ (d : Connection). IsFed (as_popped n q.conn) ((q.rest ++ joined ys) ++ z) d) there two) in
          let four : IsFed p.conn ((p.rest ++ joined xs) ++ (joined ys ++ z)) e = a.fed (joined ys ++ z) e three in
          subst (λ (w : List ℕ). IsFed p.conn w e) (regroup p.rest xs ys z) four;
      out = a.out ++ b.out;
      went = out-then p.conn.core.log q.conn.core.log r.conn.core.log a.out b.out a.went b.went;
      written = subst (λ (y : List ℕ). Appends p.sink r.sink y) (sym (joined-append a.out b.out)) (appends-then p.sink q.sink r.sink (joined a.out) (joined b.out) a.written b.written);
    }
  where
    regroup : (x : List ℕ) (us ws : List (List ℕ)) (z : List ℕ) → (x ++ joined us) ++ (joined ws ++ z) ≡ (x ++ joined (us ++ ws)) ++ z
    regroup x us ws z =
        append_assoc x (joined us) (joined ws ++ z)
        ∙ ap (λ w. x ++ w) (sym (append_assoc (joined us) (joined ws) z) ∙ ap (λ w. w ++ z) (sym (joined-append us ws)))
        ∙ sym (append_assoc x (joined (us ++ ws)) z)

pub writes-then : (k k' k'' : Option (List ℕ)) (c d e : Connection) → WritesOne c d k k' → WritesOne d e k' k'' → WritesOne c e k k''
writes-then k k' k'' c d e a b = λ s x. carries-then [] [] (line s x c k) (line s x d k') (line s x e k'') (a s x) (b s x)

-- ---- what comes behind

breaks-then : (xs ys : List (List ℕ)) (p q r : Line) → Carries xs p q → Breaks ys q r → Breaks (xs ++ ys) p r
breaks-then xs ys p q r a b =
    record { before = b.before; carried = carries-then xs ys p q b.before a b.carried; unit = b.unit; waits = b.waits; popped = b.popped; written = b.written; source = b.source; rest = b.rest }

ends-then : (e : ConnFault) (xs ys : List (List ℕ)) (p q r : Line) → Carries xs p q → EndsBy e ys q r → EndsBy e (xs ++ ys) p r
ends-then e xs ys p q r a b =
    record {
      before = b.before;
      carried = carries-then xs ys p q b.before a b.carried;
      was_open = b.was_open;
      after = b.after;
      feeds = b.feeds;
      wrote = b.wrote;
      whole = carries-then xs ys p q r a b.whole;
      rest = b.rest;
      all = b.all;
    }

fails-then : (e : PumpFault) (xs ys : List (List ℕ)) (p q r : Line) → Carries xs p q → Fails e ys q r → Fails e (xs ++ ys) p r
fails-then fault.Read xs ys p q r a b = (carries-then xs ys p q r a b.0, b.1, b.2, b.3)
fails-then fault.Write xs ys p q r a b = breaks-then xs ys p q r a b
fails-then (fault.Conn e) xs ys p q r a b = ends-then e xs ys p q r a b

closes-then : (xs ys : List (List ℕ)) (p q : Line) (d : Connection) → Carries xs p q → Closes ys q d → Closes (xs ++ ys) p d
closes-then xs ys p q d a b =
    record {
      before = b.before;
      carried = carries-then xs ys p q b.before a b.carried;
      was_open = b.was_open;
      fed = b.fed;
      after = b.after;
      feeds = b.feeds;
      closed = b.closed;
      wrote = b.wrote;
    }

-- units that go out afterwards change nothing of it
closes-wrote : (xs : List (List ℕ)) (p : Line) (c d : Connection) → Closes xs p c → OnlyWrote c d → Closes xs p d
closes-wrote xs p c d b o =
    record {
      before = b.before;
      carried = b.carried;
      was_open = b.was_open;
      fed = b.fed;
      after = b.after;
      feeds = b.feeds;
      closed = b.closed;
      wrote = o ∙ ap (as_popped d.core.log.popped) b.wrote;
    }

pub only-then : (c d e : Connection) → OnlyWrote c d → OnlyWrote d e → OnlyWrote c e
only-then c d e a b = b ∙ ap (as_popped e.core.log.popped) a

pub write-fails-then : (k k' k'' : Option (List ℕ)) (c d e : Connection) → WritesOne c d k k' → WriteFails d e k' k'' → WriteFails c e k k''
write-fails-then k k' k'' c d e a b = λ s x. breaks-then [] [] (line s x c k) (line s x d k') (line s x e k'') (a s x) (b s x)

-- ---- what is kept is fed

pub kept-fed : (s k : Option (List ℕ)) (c d : Connection) (x y : List ℕ) → c.core.log.popped ≤ length (units c.core.log) → y ≡ [] → Took c x d [] → ClosesWell c x d → FedAll (line s x c k) (line s y d k)
kept-fed s k c d x y n empty t w =
    let carried : Carries [] (line s x c k) (line s y d k) = subst (λ (u : List ℕ). Carries [] (line s x c k) (line s u d k)) (sym empty) (carries-took s k c d x [] n t) in
    (carried, empty, λ closed. ⊎_elim (λ h. inl h) (λ h. inr (of closed h)) (w closed))
  where
    of : d.core.phase ≡ phase.Closed → ClosedBy c x d → Closes [] (line s x c k) d
    of closed h =
        record {
          before = line s h.left h.before k;
          carried = carries-took s k c h.before x h.left n h.took;
          was_open = h.was_open;
          fed = h.fed;
          after = d;
          feeds = h.feeds;
          closed = closed;
          wrote = refl;
        }

pub kept-fails : (why : PumpFault) (e : ConnFault) (s k k' : Option (List ℕ)) (c d f : Connection) (x y : List ℕ) (used : ℕ) → c.core.log.popped ≤ length (units c.core.log)
    → y ≡ drop used x → StoppedBy c x used e d → TellsLast why e d f k k' → Fails why [] (line s x c k) (line s y f k')
kept-fails why e s k k' c d f x y used n same b t =
    subst (λ (u : List ℕ). Fails why [] (line s x c k) (line s u f k')) (sym same) (by why t)
  where
    by : (why : PumpFault) → TellsLast why e d f k k' → Fails why [] (line s x c k) (line s (drop used x) f k')
    by fault.Read t = absurd t
    by fault.Write t =
        breaks-then [] [] (line s x c k) (line s (drop used x) d k) (line s (drop used x) f k') (carries-took s k c d x (drop used x) n b.kept) (t s (drop used x))
    by (fault.Conn told) t =
        let ended : EndsBy e [] (line s x c k) (line s (drop used x) f k') = record {
          before = line s (drop used x) b.before k;
          carried = carries-took s k c b.before x (drop used x) n b.took;
          was_open = b.was_open;
          after = d;
          feeds = b.feeds;
          wrote = t.3;
          whole = carries-then [] [] (line s x c k) (line s (drop used x) d k) (line s (drop used x) f k') (carries-took s k c d x (drop used x) n b.kept) (t.1 s (drop used x));
          rest = refl;
          all = t.2;
        } in
        subst (λ (g : ConnFault). EndsBy g [] (line s x c k) (line s (drop used x) f k')) (sym t.0) ended

-- ---- a turn

pub some-count : (n : ℕ) → n ≢ 0 → 0 < n
some-count zero h = absurd (h refl)
some-count (suc n) h = omega arith

consumes-kept : (s s' : Option (List ℕ)) → Keeps s s' → Consumes s s' []
consumes-kept None s' h = tt
consumes-kept (Some u) None h = absurd h
consumes-kept (Some u) (Some v) h = sym h

-- a read gave nothing
still-reads : (s s' k k' : Option (List ℕ)) (c d : Connection) (x y : List ℕ) → WritesOne c d k k' → d.core.log.popped ≤ length (units d.core.log) → x ≡ [] → y ≡ [] → Consumes s s' []
    → Carries [] (line s x c k) (line s' y d k')
still-reads s s' k k' c d x y w n ex ey r =
    let same : x ≡ y = ex ∙ sym ey in
    subst (λ (u : List ℕ). Carries [] (line s x c k) (line s' u d k')) same
    (carries-then [] [] (line s x c k) (line s x d k') (line s' x d k') (w s x) (carries-still s s' k' d x r n))

pub turn-read-fails : (s s' k k' : Option (List ℕ)) (c d : Connection) (x y : List ℕ) → WritesOne c d k k' → d.core.log.popped ≤ length (units d.core.log) → x ≡ [] → y ≡ [] → Keeps s s'
    → AllWent d → d.core.phase ≢ phase.Closed → TurnFails fault.Read (line s x c k) (line s' y d k')
turn-read-fails s s' k k' c d x y w n ex ey r went open' =
    ([], omega arith, (still-reads s s' k k' c d x y w n ex ey (consumes-kept s s' r), went, ey, open'))

pub turn-ends : (s s' k k' : Option (List ℕ)) (c d : Connection) (x y : List ℕ) → WritesOne c d k k' → d.core.log.popped ≤ length (units d.core.log) → x ≡ [] → length y ≡ 0 → Consumes s s' y
    → AllWent d → d.core.phase ≢ phase.Closed → IsAtEnd s' → Turned (Some end.EndOfInput) (line s x c k) (line s' y d k')
turn-ends s s' k k' c d x y w n ex none r went open' over =
    let ey : y ≡ [] = nil_from_length y none in
    (ey, (still-reads s s' k k' c d x y w n ex ey (subst (λ (u : List ℕ). Consumes s s' u) ey r), went, over, open'))

-- a piece is read
piece-reads : (s s' k k' : Option (List ℕ)) (c d : Connection) (x y : List ℕ) → WritesOne c d k k' → d.core.log.popped ≤ length (units d.core.log) → x ≡ [] → IsPiece y → Consumes s s' y
    → Carries (y ∷ []) (line s x c k) (line s' y d k')
piece-reads s s' k k' c d x y w n ex i r =
    subst (λ (u : List ℕ). Carries (y ∷ []) (line s u c k) (line s' y d k')) (sym ex)
    (carries-then [] (y ∷ []) (line s [] c k) (line s [] d k') (line s' y d k') (w s []) (carries-read s s' k' d y r i n))

pub turn-fed : (s s' k k' k'' : Option (List ℕ)) (c d f : Connection) (x y z : List ℕ) → WritesOne c d k k' → d.core.log.popped ≤ length (units d.core.log) → x ≡ [] → IsPiece y → Consumes s s' y
    → d.core.phase ≢ phase.Closed → FedAll (line s' y d k') (line s' z f k'') → Turned None (line s x c k) (line s' z f k'')
turn-fed s s' k k' k'' c d f x y z w n ex i r open' (carried, empty, closes) =
    let reads = piece-reads s s' k k' c d x y w n ex i r in (
      y,
      carries-then (y ∷ []) [] (line s x c k) (line s' y d k') (line s' z f k'') reads carried,
      empty,
      λ closed. ⊎_elim (λ h. absurd (open' h)) (λ h. closes-then (y ∷ []) [] (line s x c k) (line s' y d k') f reads h) (closes closed),
    )

pub turn-fails : (why : PumpFault) (s s' k k' k'' : Option (List ℕ)) (c d f : Connection) (x y z : List ℕ) → WritesOne c d k k' → d.core.log.popped ≤ length (units d.core.log) → x ≡ [] → IsPiece y
    → Consumes s s' y → Fails why [] (line s' y d k') (line s' z f k'') → TurnFails why (line s x c k) (line s' z f k'')
turn-fails why s s' k k' k'' c d f x y z w n ex i r fails =
    (y ∷ [], omega arith, fails-then why (y ∷ []) [] (line s x c k) (line s' y d k') (line s' z f k'') (piece-reads s s' k k' c d x y w n ex i r) fails)

-- ---- so many turns

-- so many were made, each read a piece, and nothing is kept
pub record Turning (n : ℕ) (p q : Line) : Type 0 where
  pub pieces : List (List ℕ)
  pub count : length pieces ≡ n
  pub carried : Carries pieces p q
  pub none : q.rest ≡ []
  pub well : q.conn.core.phase ≡ phase.Closed → (p.conn.core.phase ≡ phase.Closed) ⊎ Closes pieces p q.conn

pub turning-none : (p q : Line) → FedAll p q → Turning 0 p q
turning-none p q (carried, empty, well) = record { pieces = []; count = refl; carried = carried; none = empty; well = well }

pub turning-on : (n : ℕ) (p q r : Line) → Turning n p q → Turned None q r → Turning (n + 1) p r
turning-on n p q r t (piece, carried, empty, well) =
    let k = length-append t.pieces (piece ∷ []) in
    let c = t.count in
    record {
      pieces = t.pieces ++ piece ∷ [];
      count = omega (arith, k, c);
      carried = carries-then t.pieces (piece ∷ []) p q r t.carried carried;
      none = empty;
      well = λ closed. inr (closes-then t.pieces (piece ∷ []) p q r.conn t.carried (well closed));
    }

-- a last turn that reads nothing
plain : (xs : List (List ℕ)) (p q : Line) → Carries (xs ++ []) p q → Carries xs p q
plain xs p q c = subst (λ (ys : List (List ℕ)). Carries ys p q) (append-nil xs) c

pub turning-ends : (turns n : ℕ) (e : PumpEnd) (p q r : Line) → n ≤ turns → Turning n p q → Turned (Some e) q r → Runs turns (Ok e) p r
turning-ends turns n e p q r few t (empty, by) =
    let c = t.count in
    (t.pieces, omega (arith, c, few), of e by)
  where
    of : (e : PumpEnd) → TurnEnds e q r → Ran turns (Ok e) t.pieces p r
    of end.Closed (carried, went, only, closed) =
        let was : q.conn.core.phase ≡ phase.Closed = ap (λ (x : Connection). x.core.phase) (sym only) ∙ closed in (
          plain t.pieces p r (carries-then t.pieces [] p q r t.carried carried),
          empty,
          (closed, went, ⊎_elim (λ h. inl h) (λ h. inr (closes-wrote t.pieces p q.conn r.conn h only)) (t.well was)),
        )
    of end.EndOfInput (carried, went, over, open') = (plain t.pieces p r (carries-then t.pieces [] p q r t.carried carried), empty, (over, went, open'))
    of end.TurnsOver none = absurd none

pub turning-fails : (turns n : ℕ) (why : PumpFault) (p q r : Line) → n < turns → Turning n p q → TurnFails why q r → Runs turns (Err why) p r
turning-fails turns n why p q r few t (pieces, one, fails) =
    let k = length-append t.pieces pieces in
    let c = t.count in
    (t.pieces ++ pieces, omega (arith, k, c, one, few), fails-then why t.pieces pieces p q r t.carried fails)

-- fewer units wait
pub pops-less : (c d : Connection) (x : List ℕ) → slice_get (units c.core.log) c.core.log.popped ≡ Some x → d ≡ popped c → length (waiting d.core.log) < length (waiting c.core.log)
pops-less c d x e is =
    let within = slice_get_within (units c.core.log) c.core.log.popped x e in
    let old = length-drop c.core.log.popped (units c.core.log) in
    let new = length-drop (c.core.log.popped + 1) (units c.core.log) in
    let same : length (waiting d.core.log) ≡ length (drop (c.core.log.popped + 1) (units c.core.log)) = ap (λ (y : Connection). length (waiting y.core.log)) is in
    omega (arith, within, old, new, same)
