-- What was taken on a link, with what waits on it, is what was sent complete on the link of its name at the other end.
use Rattle.std.proofs.Common.{suc, ◌≡◌, ◌⊎◌, inl, inr, ◌<◌, ℕ, ◌==◌, ◌++◌, Bool, true, false, cond, Option, Some, None, List, [], ◌∷◌, arith, refl, sym, ap, ◌∙◌, subst, drop, find, map, is_some, option_map}
use Rattle.std.proofs.lemmas.Bool.{eq-eqb, eqb-true}
use Rattle.amqp_performatives.specs.declared.bodies.Role.TheVariants.{Sender, Receiver}
use Rattle.amqp_performatives.specs.declared.bodies.AttachBody.{AttachBody}
use Rattle.amqp_performatives.specs.declared.bodies.TransferBody.{TransferBody}
use Rattle.amqp_performatives.specs.declared.performative.Performative.TheVariants as heard
use Rattle.amqp_frames.specs.declared.frame.Frame.{Frame}
use Rattle.amqp_events.specs.Joined.{Delivery, and_more, complete, completed, goes_on, is_given, unfinished, next_delivery as joined_to}
use Rattle.amqp_events.proofs.JoinedLaw.{complete-step, unfinished-step}
use Rattle.amqp_rules.specs.declared.config.Config.{Config}
use Rattle.amqp_rules.specs.View.{EndView, LinkView, View, has_name, has_number, new_link, rcv_mode}
use Rattle.amqp_rules.specs.Attach.{attached_by_peer, attached_by_us}
use Rattle.amqp_rules.specs.Take.{taken_from}
use Rattle.amqp_rules.specs.PeerTransfer.{received_on}
use Rattle.amqp_rules.specs.Deliveries.{transferred}
use Rattle.amqp_rules.proofs.Listed.{by-bool}
use Rattle.amqp_laws.specs.declared.entry.Entry.{Entry}
use Rattle.amqp_laws.specs.Said.{body_heard, transfer_in}
use Rattle.amqp_laws.specs.At.{at, received_by, sent_by}
use Rattle.amqp_laws.specs.Lawful.{next}
use Rattle.amqp_pair_laws.proofs.Plain.{due}
use Rattle.amqp_pair_laws.specs.Passing.{content_of, passed_on, sent_now, sent_on, taken_in, taken_on}
use Rattle.amqp_pair_laws.specs.World.{Moves, Tight, World, hears, sends}
use Rattle.amqp_pair_laws.proofs.Slots.{kept}
use Rattle.amqp_pair_laws.proofs.SlotOf.{shape, slot_of}
use Rattle.amqp_pair_laws.proofs.Named.{changed-there, found-passes, or_this}
use Rattle.amqp_pair_laws.proofs.SlotActs.{AllFair, Lives, OneMore, one-more, slots-known}
use Rattle.amqp_pair_laws.proofs.Windows.{lives-goes}
use Rattle.amqp_pair_laws.proofs.Opens.{deaf-body}
use Rattle.amqp_pair_laws.proofs.Over.{behind-lives}
use Rattle.amqp_pair_laws.proofs.Turns.{Turn, asks, away, goes, meets}
use Rattle.amqp_pair_laws.proofs.Tallies.{link, turn-of}
use Rattle.amqp_pair_laws.proofs.CountsKnown.{same-some}
use Rattle.amqp_pair_laws.proofs.CountsKept.{fair-both}
use Rattle.amqp_pair_laws.proofs.Members.{In}
use Rattle.amqp_pair_laws.proofs.LinkSteps.{by-number, changed-apart, link-step, sees-name, stays-on}
use Rattle.amqp_pair_laws.proofs.ReadySteps.{From, New, ReadyStep, Rests, found-in, hears as hears', ready-step, rests, takes}
use Rattle.amqp_pair_laws.proofs.Unused.{below, sent-none, silent-carrier}

-- # Deliveries, but for who settles first

abbrev plain : Delivery → Delivery
plain d = record d { second = false }

pub map-more : {A B : Type 0} (f : A → B) (xs ys : List A) → map f (xs ++ ys) ≡ map f xs ++ map f ys
map-more f [] ys = refl
map-more f (x ∷ xs) ys = ap (λ zs. f x ∷ zs) (map-more f xs ys)

pub more-more : {A : Type 0} (xs ys zs : List A) → (xs ++ ys) ++ zs ≡ xs ++ (ys ++ zs)
more-more [] ys zs = refl
more-more (x ∷ xs) ys zs = ap (λ ws. x ∷ ws) (more-more xs ys zs)

pub none-more : {A : Type 0} (xs : List A) → xs ++ [] ≡ xs
none-more [] = refl
none-more (x ∷ xs) = ap (λ ys. x ∷ ys) (none-more xs)

-- a transfer goes on with the delivery, or begins one, at both ends
plain-next : (m : ℕ) (t : TransferBody) (payload : List ℕ) (r u : Option Delivery) → option_map plain r ≡ option_map plain u
    → plain (joined_to (transferred m t payload) r) ≡ plain (joined_to (transferred 0 t payload) u)
plain-next m t payload None None e = refl
plain-next m t payload (Some r) None e = absurd (cc (e))
plain-next m t payload None (Some u) e = absurd (cc (e))
plain-next m t payload (Some r) (Some u) e =
    let same : plain r ≡ plain u = cc e in
    ap (and_more (transferred 0 t payload)) same

plain-unfinished : (n k : Delivery) → plain n ≡ plain k → option_map plain (cond (goes_on n) (Some n) None) ≡ option_map plain (cond (goes_on k) (Some k) None)
plain-unfinished n k e = by (goes_on n) (goes_on k) (ap goes_on e)
  where
    by : (b c : Bool) → b ≡ c → option_map plain (cond b (Some n) None) ≡ option_map plain (cond c (Some k) None)
    by true true h = ap Some e
    by true false h = absurd (cc (h))
    by false true h = absurd (cc (h))
    by false false h = refl

plain-completed : (n k : Delivery) → plain n ≡ plain k → map content_of (completed n) ≡ map content_of (completed k)
plain-completed n k e = by (is_given n) (is_given k) (ap is_given e)
  where
    by : (b c : Bool) → b ≡ c → map content_of (cond b (n ∷ []) []) ≡ map content_of (cond c (k ∷ []) [])
    by true true h = ap (λ d. content_of d ∷ []) e
    by true false h = absurd (cc (h))
    by false true h = absurd (cc (h))
    by false false h = refl

-- # The claim

-- y: the link of the end that receives; k: the number of the link of the end that sends
pub record Whole (k : ℕ) (a : List Entry) (y : LinkView) (b : List Entry) : Type 0 where
  pub equal : taken_on y.number b ++ map content_of y.ready ≡ passed_on k a
  pub like : option_map plain y.receiving ≡ option_map plain (unfinished (sent_on k a))

abbrev pub TakenAgree : Config → Config → List Entry → List Entry → Type 0
TakenAgree ca cb a b =
    Lives b → (name : List ℕ) (x y : LinkView) → link (Sender, name) ca a ≡ Some x → link (Receiver, name) cb b ≡ Some y → is_some x.ours ≡ true → x.left ≡ false → y.left ≡ false → Whole x.number a y b

-- no transfer is sent on the link
pub whole-still : (k : ℕ) (e : Entry) (a : List Entry) (y : LinkView) (b : List Entry) → sent_now k e ≡ None → Whole k a y b → Whole k (e ∷ a) y b
whole-still k e a y b none w = record { equal = w.equal ∙ ap (λ s. map content_of (complete s)) (sym same); like = w.like ∙ ap (λ s. option_map plain (unfinished s)) (sym same) }
  where
    same : sent_on k (e ∷ a) ≡ sent_on k a
    same = rw none refl

-- the link rests
pub whole-rests : (k : ℕ) (a : List Entry) (e' : Entry) (y y' : LinkView) (b : List Entry) → taken_in y.number e'.reply.given ≡ [] → y'.number ≡ y.number → y'.ready ≡ y.ready → y'.receiving ≡ y.receiving → Whole k a y b → Whole k a y' (e' ∷ b)
whole-rests k a e' y y' b none number ready receiving w =
    let here : taken_on y.number (e' ∷ b) ≡ taken_on y.number b = ap (λ xs. taken_on y.number b ++ xs) none ∙ none-more (taken_on y.number b) in
    record {
      equal = ap (λ n. taken_on n (e' ∷ b) ++ map content_of y'.ready) number ∙ ap (λ ds. taken_on y.number (e' ∷ b) ++ map content_of ds) ready ∙ ap (λ xs. xs ++ map content_of y.ready) here ∙ w.equal;
      like = ap (option_map plain) receiving ∙ w.like;
    }

-- the first that waits is taken
whole-takes : (k : ℕ) (a : List Entry) (e' : Entry) (y : LinkView) (b : List Entry) (d : Delivery) (ds : List Delivery) → y.ready ≡ d ∷ ds → taken_in y.number e'.reply.given ≡ content_of d ∷ [] → Whole k a y b → Whole k a (taken_from y) (e' ∷ b)
whole-takes k a e' y b d ds is took w =
    record {
      equal = ap (λ rs. (taken_on y.number b ++ taken_in y.number e'.reply.given) ++ map content_of (drop 1 rs)) is ∙ ap (λ c. (taken_on y.number b ++ c) ++ map content_of ds) took
          ∙ more-more (taken_on y.number b) (content_of d ∷ []) (map content_of ds) ∙ ap (λ rs. taken_on y.number b ++ map content_of rs) (sym is) ∙ w.equal;
      like = w.like;
    }

-- a transfer passes
pub whole-hears : (k : ℕ) (e : Entry) (a : List Entry) (e' : Entry) (y : LinkView) (b : List Entry) (t : TransferBody) (payload : List ℕ) → sent_now k e ≡ Some (transferred 0 t payload) → taken_in y.number e'.reply.given ≡ []
    → Whole k a y b → Whole k (e ∷ a) (received_on t payload y) (e' ∷ b)
whole-hears k e a e' y b t payload now none w =
    let t0 = transferred 0 t payload in
    let t1 = transferred (rcv_mode y) t payload in
    let next' = plain-next (rcv_mode y) t payload y.receiving (unfinished (sent_on k a)) w.like in
    let sent : sent_on k (e ∷ a) ≡ t0 ∷ sent_on k a = rw now refl in
    let here : taken_on y.number (e' ∷ b) ≡ taken_on y.number b = ap (λ xs. taken_on y.number b ++ xs) none ∙ none-more (taken_on y.number b) in
    let more : passed_on k (e ∷ a) ≡ passed_on k a ++ map content_of (completed (joined_to t0 (unfinished (sent_on k a)))) =
    ap (λ s. map content_of (complete s)) sent ∙ ap (map content_of) (complete-step t0 (sent_on k a)) ∙ map-more content_of (complete (sent_on k a)) (completed (joined_to t0 (unfinished (sent_on k a)))) in
    record {
      equal = ap (λ xs. xs ++ map content_of (y.ready ++ completed (joined_to t1 y.receiving))) here ∙ ap (λ xs. taken_on y.number b ++ xs) (map-more content_of y.ready (completed (joined_to t1 y.receiving)))
          ∙ sym (more-more (taken_on y.number b) (map content_of y.ready) (map content_of (completed (joined_to t1 y.receiving))))
          ∙ ap (λ xs. xs ++ map content_of (completed (joined_to t1 y.receiving))) w.equal ∙ ap (λ xs. passed_on k a ++ xs) (plain-completed (joined_to t1 y.receiving) (joined_to t0 (unfinished (sent_on k a))) next') ∙ sym more;
      like = plain-unfinished (joined_to t1 y.receiving) (joined_to t0 (unfinished (sent_on k a))) next' ∙ ap (option_map plain) (sym (unfinished-step t0 (sent_on k a))) ∙ ap (λ s. option_map plain (unfinished s)) (sym sent);
    }

-- # The first end's link

-- it was there before the step, or our attach was sent by it
pub data FirstWas (ca : Config) (e : Entry) (a : List Entry) (name : List ℕ) (x' : LinkView) : Type 0 where
  was : (x : LinkView) → link (Sender, name) ca a ≡ Some x → is_some x.ours ≡ true → x.left ≡ false → x'.number ≡ x.number → FirstWas ca e a name x'
  asked : (b' : AttachBody) (f' : Frame) (n : ℕ) → sends e ≡ Some f' → f'.body ≡ Some (heard.Attach b') → (slot_of Sender name (at ca a).links).ours ≡ None
      → link (Sender, name) ca (e ∷ a) ≡ Some (attached_by_us b' [] (or_this (link (Sender, name) ca a) (new_link n Sender name))) → FirstWas ca e a name x'

pub first-was : (ca : Config) (e : Entry) (a : List Entry) (name : List ℕ) (x' : LinkView) → AllFair ca (e ∷ a) → Lives a → link (Sender, name) ca (e ∷ a) ≡ Some x' → is_some x'.ours ≡ true → x'.left ≡ false → FirstWas ca e a name x'
first-was ca e a name x' fair la to ours unleft = by (turn-of (Sender, name) ca e a fair)
  where
    o : OneMore (Sender, name) ca e a
    o = one-more (Sender, name) ca e a fair

    met : (b : Option LinkView) (b' : AttachBody) (n : ℕ) → link (Sender, name) ca a ≡ b → link (Sender, name) ca (e ∷ a) ≡ Some (attached_by_peer b' (or_this b (new_link n Sender name))) → FirstWas ca e a name x'
    met None b' n found at' =
        let one = same-some (link (Sender, name) ca (e ∷ a)) (attached_by_peer b' (new_link n Sender name)) x' at' to in
        let none : is_some x'.ours ≡ false = ap (λ (l : LinkView). is_some l.ours) (sym one) in
        absurd (cc (none, ours))
    met (Some l) b' n found at' =
        let one = same-some (link (Sender, name) ca (e ∷ a)) (attached_by_peer b' l) x' at' to in
        was l found (ap (λ (l : LinkView). is_some l.ours) one ∙ ours) (ap (λ (l : LinkView). l.left) one ∙ unleft) (ap (λ (l : LinkView). l.number) (sym one))

    by : Turn Sender name (at ca a) (at ca (e ∷ a)) (body_heard e.step) (sends e) → FirstWas ca e a name x'
    by (away gone why) = absurd (cc (gone, to))
    by (asks b' f' n none sent body free at') = asked b' f' n sent body free at'
    by (meets b' n is none free at') = met (link (Sender, name) ca a) b' n refl at'
    by (goes l m found at' o' t' left' g) =
        let one = same-some (link (Sender, name) ca (e ∷ a)) m x' at' to in
        let s = stays-on (at ca a) (next (at ca a) e.step) (sent_by (at ca a) e.step) (received_by (at ca a) e.step) Sender name l x' (link-step (at ca a) e.step e.reply (due fair.1) la) o.sound found
        (ap (λ (v : View). find (has_name Sender name) v.links) (sym o.goes_on) ∙ to) unleft in
        was l found (ap (λ (x : Option EndView). is_some x) (sym o') ∙ ap (λ (l : LinkView). is_some l.ours) one ∙ ours) (left' (ap (λ (l : LinkView). l.left) one ∙ unleft)) s.number

-- # The other end's link

pub record OtherWas (cb : Config) (b : List Entry) (name : List ℕ) (y' : LinkView) : Type 0 where
  pub link' : LinkView
  pub found : link (Receiver, name) cb b ≡ Some link'
  pub number : y'.number ≡ link'.number

-- it was there, where the first end's was
pub other-was : (ca cb : Config) (n : ℕ) (a : List Entry) (e' : Entry) (b : List Entry) (name : List ℕ) (x y' : LinkView) → Tight ca cb n a b → Lives b → AllFair cb (e' ∷ b) → link (Sender, name) ca a ≡ Some x → is_some x.ours ≡ true → x.left ≡ false
    → link (Receiver, name) cb (e' ∷ b) ≡ Some y' → y'.left ≡ false → OtherWas cb b name y'
other-was ca cb n a e' b name x y' t lb fb found ours unleft to unleft' =
    let slot = slots-known ca cb n a b t lb Sender name in
    let some : is_some (slot_of Receiver name (at cb b).links).theirs ≡ true = ap (λ (o : Option EndView). is_some o) (sym slot.asked ∙ ap (λ o. kept (shape o)) found ∙ by-left x.left x.ours unleft) ∙ ours in
    by (link (Receiver, name) cb b) refl some
  where
    by-left : (left' : Bool) (o : Option EndView) → left' ≡ false → cond left' None o ≡ o
    by-left true o h = absurd (cc (h))
    by-left false o h = refl

    by : (o : Option LinkView) → link (Receiver, name) cb b ≡ o → is_some (shape o).theirs ≡ true → OtherWas cb b name y'
    by None none some = absurd (cc (some))
    by (Some y) there some =
        let o = one-more (Receiver, name) cb e' b fb in
        let s = stays-on (at cb b) (next (at cb b) e'.step) (sent_by (at cb b) e'.step) (received_by (at cb b) e'.step) Receiver name y y' (link-step (at cb b) e'.step e'.reply (due fb.1) lb) o.sound there
        (ap (λ (v : View). find (has_name Receiver name) v.links) (sym o.goes_on) ∙ to) unleft' in
        record { link' = y; found = there; number = s.number }

-- a step by which no transfer is heard
pub other-rests : (k : ℕ) (a : List Entry) (cb : Config) (e' : Entry) (b : List Entry) (name : List ℕ) (y y' : LinkView) → Lives b → AllFair cb (e' ∷ b) → link (Receiver, name) cb b ≡ Some y → link (Receiver, name) cb (e' ∷ b) ≡ Some y'
    → y'.number ≡ y.number → y'.left ≡ false → transfer_in (body_heard e'.step) ≡ None → (y.left ≡ false → Whole k a y b) → Whole k a y' (e' ∷ b)
other-rests k a cb e' b name y y' lb fb found to number unleft mute w = by (ready-step v e'.step e'.reply (due fb.1) lb o.sound)
  where
    v : View
    v = at cb b

    o : OneMore (Receiver, name) cb e' b
    o = one-more (Receiver, name) cb e' b fb

    to' : find (has_name Receiver name) (next v e'.step).links ≡ Some y'
    to' = ap (λ (v : View). find (has_name Receiver name) v.links) (sym o.goes_on) ∙ to

    there : In y' (next v e'.step).links
    there = found-in (has_name Receiver name) (next v e'.step).links y' to'

    same-before : (f : From v y') → f.before ≡ y
    same-before f = same-some (find (has_number y'.number) v.links) f.before y f.found (ap (λ n. find (has_number n) v.links) number ∙ by-number v (has_name Receiver name) y o.sound found)

    rest : Rests v y' ⊎ New v y' → ((k : ℕ) → taken_in k e'.reply.given ≡ []) → Whole k a y' (e' ∷ b)
    rest (inl r) none =
        let one = same-before r.was in
        whole-rests k a e' y y' b (none y.number) number (r.ready ∙ ap (λ (l : LinkView). l.ready) one) (r.receiving unleft ∙ ap (λ (l : LinkView). l.receiving) one) (w (ap (λ (l : LinkView). l.left) (sym one) ∙ r.was.unleft unleft))
    rest (inr new) none =
        let few : y.number < v.made = below v y o.sound (found-in (has_name Receiver name) v.links y found) in
        let at-made : y'.number ≡ v.made = new.number in
        absurd (omega (arith, few, at-made, number))

    by : ReadyStep v (next v e'.step) e'.step e'.reply.given → Whole k a y' (e' ∷ b)
    by (rests quiet f none) = rest (f y' there) none
    by (takes l d ds m take at-l is to-l g) =
        by-bool (has_number m y)
        (λ (t : has_number m y ≡ true).
        let n : y.number ≡ m = eqb-true y.number m t in
        let here : find (has_number m) v.links ≡ Some y = ap (λ n. find (has_number n) v.links) (sym n) ∙ by-number v (has_name Receiver name) y o.sound found in
        let one : l ≡ y = same-some (find (has_number m) v.links) l y at-l here in
        let now = ap (find (has_name Receiver name)) to-l ∙ changed-there Receiver name (has_number m) taken_from v.links y (record { role = λ l. refl; name = λ l. refl }) found here in
        let two : taken_from y ≡ y' = same-some (find (has_name Receiver name) (next v e'.step).links) (taken_from y) y' now to' in
        let took : taken_in y.number e'.reply.given ≡ content_of d ∷ [] = ap (taken_in y.number) g ∙ (let same = eq-eqb l.number y.number (ap (λ (l : LinkView). l.number) one) in rw same refl) in
        subst (λ (y' : LinkView). Whole k a y' (e' ∷ b)) two (whole-takes k a e' y b d ds (ap (λ (l : LinkView). l.ready) (sym one) ∙ is) took (w (ap (λ (l : LinkView). l.left) two ∙ unleft))))
        (λ (f : has_number m y ≡ false).
        let now = ap (find (has_name Receiver name)) to-l ∙ changed-apart (has_name Receiver name) (has_number m) taken_from v.links y (sees-name Receiver name) (record { role = λ l. refl; name = λ l. refl; number = λ l. refl }) found f in
        let two : y ≡ y' = same-some (find (has_name Receiver name) (next v e'.step).links) y y' now to' in
        let at-m : l.number ≡ m = eqb-true l.number m (found-passes (has_number m) v.links l at-l) in
        let none : taken_in y.number e'.reply.given ≡ [] = ap (taken_in y.number) g ∙ (let other = apart l.number m y.number at-m f in rw other refl) in
        subst (λ (y' : LinkView). Whole k a y' (e' ∷ b)) two (whole-rests k a e' y y b none refl refl refl (w (ap (λ (l : LinkView). l.left) two ∙ unleft))))
      where
        apart : (l m y : ℕ) → l ≡ m → (y == m) ≡ false → (l == y) ≡ false
        apart l m y e f = grind (arith, e, f)
    by (hears' f t is body to-l none) =
        let yes : transfer_in (body_heard e'.step) ≡ Some t = ap (λ s. transfer_in (body_heard s)) is ∙ ap transfer_in body in
        absurd (cc (yes, mute))

-- # One end alone

pub taken-quiet : (ca cb : Config) (n : ℕ) (e : Entry) (a b : List Entry) → World ca cb (suc n) (e ∷ a) b → Tight ca cb n a b → Moves ca e a b → sends e ≡ None → TakenAgree ca cb a b → TakenAgree ca cb (e ∷ a) b
taken-quiet ca cb n e a b w t m silent' k lives name x' y fx fy ours unleft unleft' = by (first-was ca e a name x' (fair-both ca cb (suc n) (e ∷ a) b w).0 (behind-lives ca cb n a b t lives) fx ours unleft)
  where
    by : FirstWas ca e a name x' → Whole x'.number (e ∷ a) y b
    by (was x found some stays number) =
        let none = sent-none x.number e (silent-carrier (at ca a) e.step e.reply (due m.fair) silent') in
        subst (λ (n : ℕ). Whole n (e ∷ a) y b) (sym number) (whole-still x.number e a y b none (k lives name x y found fy some stays unleft'))
    by (asked b' f' h sent body free at') = absurd (cc (sent, silent'))

pub taken-ahead : (ca cb : Config) (n : ℕ) (e : Entry) (a b : List Entry) → World ca cb (suc n) a (e ∷ b) → Tight ca cb n a b → hears e ≡ None → TakenAgree ca cb a b → TakenAgree ca cb a (e ∷ b)
taken-ahead ca cb n e a b w t deaf k lives name x y' fx fy ours unleft unleft' =
    let fb = (fair-both ca cb (suc n) a (e ∷ b) w).1 in
    let lb = (lives-goes e b lives).lived in
    let z = other-was ca cb n a e b name x y' t lb fb fx ours unleft fy unleft' in
    other-rests x.number a cb e b name z.link' y' lb fb z.found fy z.number unleft' (ap transfer_in (deaf-body e.step deaf)) (λ left'. k lb name x z.link' fx z.found ours unleft left')
