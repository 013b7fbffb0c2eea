-- What always holds of an endpoint holds after each sound plan.
use Rattle.std.proofs.Common.{◌≡◌, ◌<◌, ◌≤◌, ℕ, ◌+◌, ◌*◌, ◌^◌, ◌&&◌, not, nat_lt, Bool, true, Option, Some, None, List, [], ◌∷◌, ◌++◌, map, arith, refl, ⊎_elim}
use Rattle.std.proofs.lemmas.Bool.{cases_Bool}
use Rattle.std.proofs.lemmas.List.{map-append}
use Rattle.std.proofs.lemmas.List.Elements.{All-nil, All-cons}
use Rattle.std.specs.List.{filter}
use Rattle.amqp_flow.specs.Serial.{wire, distance, is_before}
use Rattle.amqp_performatives.specs.declared.bodies.Role.TheVariants.{Sender, Receiver}
use Rattle.amqp_events.specs.Event as event
use Rattle.amqp_events.specs.Event.{Event, Item}
use Rattle.amqp_events.specs.Laws.{IsPast}
use Rattle.amqp_events.specs.Unsettled.{ends, begins, added, said_to, next_held}
use Rattle.amqp_events.specs.Told.{SentItem, added_sent, next_sent, next_sent_held}
use Rattle.amqp_links.specs.declared.fate.Fate.{Fate}
use Rattle.amqp_links.specs.declared.fate.Fate.TheVariants as fate
use Rattle.amqp_links.specs.Links.{LinksView}
use Rattle.amqp_links.specs.Fate.{links_after}
use Rattle.amqp_rules.specs.View.{View, LinkView, change_first, remove_first}
use Rattle.amqp_rules.specs.PeerDisposition.{told_more}
use Rattle.amqp_steps.specs.declared.plan.Session.{Session}
use Rattle.amqp_steps.specs.declared.plan.Plan.{Plan}
use Rattle.amqp_deliveries.specs.declared.change.Change.{Change}
use Rattle.amqp_deliveries.specs.declared.change.Change.TheVariants.{Stay, Begins, Continues, Says, Hears, Over}
use Rattle.amqp_deliveries.specs.Change.{TablesView, held_items, received_event, sent_event, tables_after}
use Rattle.amqp_steps.specs.Stores.{StoresView, IsApt, IsMet, told_after, stores_after}
use Rattle.amqp_steps.specs.Plan.{AreBehind, AreBehindExpected, AreShort, AreShortOn, IsShort, IsAlone, IsAtMostNext, IsBegun, IsDue, IsExpectedNext, IsKept, IsSound, KeepsApart, next_id, planned, view_of}

-- # Ids

before-is : (d : ℕ) → 1 ≤ d → d < 2 ^ 31 → (nat_lt 0 d && nat_lt d (2 ^ 31)) ≡ true
before-is d h k = grind (arith, h, k)

pub older : (k n : ℕ) (items : List Item) → k < 2 ^ 30 → AreBehind k n items → IsPast n items
older k n [] s b = All-nil (λ i. is_before i.id n ≡ true)
older k n (i ∷ items) s b =
    All-cons (λ i. is_before i.id n ≡ true) i items (before-is (distance i.id n) b.0 (let h = b.1 in omega (arith, h, s))) (older k n items s b.2)

one-more : (a b : ℕ) → distance a b < 2 ^ 31 → distance a (wire (b + 1)) ≡ distance a b + 1
one-more a b h = omega (arith, h)

first-more : (a : ℕ) → distance a (wire (a + 1)) ≡ 1
first-more a = omega arith

later : (k n : ℕ) (items : List Item) → AreBehind k n items → AreBehind (k + 1) n items
later k n [] b = tt
later k n (i ∷ items) b = (b.0, (let h = b.1 in omega (arith, h)), later k n items b.2)

next-later : (k n : ℕ) (items : List Item) → k < 2 ^ 30 → AreBehind k n items → AreBehind (k + 1) (wire (n + 1)) items
next-later k n [] s b = tt
next-later k n (i ∷ items) s b =
    let f = b.0 in
    let h = b.1 in
    let e = one-more i.id n (omega (arith, h, s)) in
    (omega (arith, e, f), omega (arith, e, h), next-later k n items s b.2)

moved : (k n m : ℕ) (items : List Item) → k < 2 ^ 30 → IsAtMostNext n m → AreBehind k n items → AreBehind (k + 1) m items
moved k n m items s a b =
    ⊎_elim
    (λ e. rw e (later k n items b))
    (λ e. rw e (next-later k n items s b))
    a

alone-behind : (k : ℕ) (i : Item) (n m : ℕ) → i.id ≡ n → m ≡ wire (n + 1) → AreBehind (k + 1) m (i ∷ [])
alone-behind k i n m e f =
    let d : distance i.id m ≡ 1 = rw (f, ← e) (first-more i.id) in
    (omega (arith, d), omega (arith, d), tt)

behind-append : (k n : ℕ) (xs ys : List Item) → AreBehind k n xs → AreBehind k n ys → AreBehind k n (xs ++ ys)
behind-append k n [] ys a b = b
behind-append k n (x ∷ xs) ys a b = (a.0, a.1, behind-append k n xs ys a.2 b)

behind-sent : (k n : ℕ) (e : Event) (xs : List SentItem) → AreBehind k n (map (λ s. s.item) xs) → AreBehind k n (map (λ s. s.item) (map (next_sent e) (filter (λ s. not (ends e s.item)) xs)))
behind-sent k n e [] b = tt
behind-sent k n e (x ∷ xs) b =
    ⊎_elim
    (λ t. rw t (b.0, b.1, behind-sent k n e xs b.2))
    (λ t. rw t (behind-sent k n e xs b.2))
    (cases_Bool (not (ends e x.item)))

behind-held : (k n : ℕ) (e : Event) (xs : List Item) → AreBehind k n xs → AreBehind k n (map (said_to e) (filter (λ i. not (ends e i)) xs))
behind-held k n e [] b = tt
behind-held k n e (x ∷ xs) b =
    ⊎_elim
    (λ t. rw t (b.0, b.1, behind-held k n e xs b.2))
    (λ t. rw t (behind-held k n e xs b.2))
    (cases_Bool (not (ends e x)))

kept-sent : (k n : ℕ) (e : Event) (xs : List SentItem) → AreBehind k n (map (λ s. s.item) xs) → AreBehind k n (map (λ s. s.item) (added_sent (begins e))) → AreBehind k n (map (λ s. s.item) (next_sent_held e xs))
kept-sent k n e xs b a =
    rw (map-append (λ s. s.item) (map (next_sent e) (filter (λ s. not (ends e s.item)) xs)) (added_sent (begins e)))
    (behind-append k n _ _ (behind-sent k n e xs b) a)

kept-held : (k n : ℕ) (e : Event) (xs : List Item) → AreBehind k n xs → AreBehind k n (added (begins e)) → AreBehind k n (next_held e xs)
kept-held k n e xs b a = behind-append k n _ _ (behind-held k n e xs b) a

-- those that we send
ours-kept : (k n : ℕ) (v : View) (s : Session) (c : Change) (t : TablesView) → IsBegun v c s → (next_id s ≡ n) → AreBehind (k + 1) n (map (λ x. x.item) t.sent)
    → AreBehind (k + 1) n (map (λ x. x.item) (tables_after c t).sent)
ours-kept k n v s Stay t g e b = b
ours-kept k n v s (Begins Sender i) t g e b = kept-sent (k + 1) n (event.Begins i true) t.sent b (alone-behind k i _ n g.0 (rw (← e) g.1))
ours-kept k n v s (Begins Receiver i) t g e b = b
ours-kept k n v s (Continues Receiver id state over) t g e b = b
ours-kept k n v s (Says Sender d) t g e b = kept-sent (k + 1) n (event.Says d) t.sent b tt
ours-kept k n v s (Hears Sender d) t g e b = kept-sent (k + 1) n (event.Hears d) t.sent b tt
ours-kept k n v s Over t g e b = tt
ours-kept k n v s c t g e b = kept-sent (k + 1) n (sent_event c) t.sent b tt

-- those that we receive
theirs-kept : (k n : ℕ) (c : Change) (t : TablesView) → AreBehind (k + 1) n t.received → ((i : Item) → c ≡ Begins Receiver i → AreBehind (k + 1) n (i ∷ [])) → AreBehind (k + 1) n (tables_after c t).received
theirs-kept k n Stay t b g = b
theirs-kept k n (Begins Sender i) t b g = b
theirs-kept k n (Begins Receiver i) t b g = kept-held (k + 1) n (event.Begins i true) t.received b (g i refl)
theirs-kept k n (Continues Sender id state over) t b g = b
theirs-kept k n (Says Sender d) t b g = kept-held (k + 1) n event.Nothing t.received b tt
theirs-kept k n (Hears Sender d) t b g = kept-held (k + 1) n event.Nothing t.received b tt
theirs-kept k n Over t b g = tt
theirs-kept k n c t b g = kept-held (k + 1) n (received_event c) t.received b tt

is-begin : (c : Change) → (i : Item) → c ≡ Begins Receiver i → (v : View) (s : Session) → IsBegun v c s → IsDue i.id v.expected × (s.expected ≡ Some (wire (i.id + 1)))
is-begin c i e v s g = let h : IsBegun v (Begins Receiver i) s = rw e at g in (h.0, h.1)

expected-kept : (k : ℕ) (v : View) (s : Session) (c : Change) (t : TablesView) (e : Option ℕ) → k < 2 ^ 30 → e ≡ v.expected → IsExpectedNext e s.expected → IsBegun v c s → AreBehindExpected k e t.received
    → AreBehindExpected (k + 1) s.expected (tables_after c t).received
expected-kept k v s c t None small is x g b = from-none c g
  where
    all : (m : Option ℕ) (items : List Item) → items ≡ [] → AreBehindExpected (k + 1) m items
    all None items h = h
    all (Some n) items h = rw h tt

    nothing : (i : Item) (n : ℕ) → n ≡ wire (i.id + 1) → AreBehind (k + 1) n (i ∷ [])
    nothing i n h = alone-behind k i i.id n refl h

    begin : (i : Item) (m : Option ℕ) → m ≡ Some (wire (i.id + 1)) → AreBehindExpected (k + 1) m (next_held (event.Begins i true) t.received)
    begin i m h = rw (h, b) (nothing i (wire (i.id + 1)) refl)

    from-none : (d : Change) → IsBegun v d s → AreBehindExpected (k + 1) s.expected (tables_after d t).received
    from-none (Begins Receiver i) h = begin i s.expected h.1
    from-none (Continues Sender id state over) h = all s.expected _ b
    from-none (Says Sender d) h = all s.expected _ (rw b refl)
    from-none (Hears Sender d) h = all s.expected _ (rw b refl)
    from-none Over h = all s.expected _ refl
    from-none d h = all s.expected _ (rw b refl)
expected-kept k v s c t (Some n) small is x g b =
    ⊎_elim
    (λ e. rw e (theirs-kept k n c t (later k n t.received b) (λ i q. (let h = is-begin c i q v s g in absurd (one-of n i (rw (← is) at h.0) (rw e at h.1))))))
    (λ e. rw e (theirs-kept k (wire (n + 1)) c t (next-later k n t.received small b) (λ i q. (let h = is-begin c i q v s g in let d : i.id ≡ n = rw (← is) at h.0 in alone-behind k i n (wire (n + 1)) d refl))))
    x
  where
    one-of : (n : ℕ) (i : Item) → i.id ≡ n → ◌≡◌ {A = Option ℕ} (Some n) (Some (wire (i.id + 1))) → ⊥
    one-of n i d e = let h : n ≡ wire (n + 1) = (let h : ◌≡◌ {A = Option ℕ} (Some n) (Some (wire (n + 1))) = rw d at e in some h) in omega (arith, h)
      where
        some : {a b : ℕ} → ◌≡◌ {A = Option ℕ} (Some a) (Some b) → a ≡ b
        some h = cc

-- # Sizes

short-later : (k n : ℕ) → n ≤ k * 2 ^ 64 → n ≤ (k + 1) * 2 ^ 64
short-later k n h = omega (arith, h)

on-later : (k : ℕ) (ls : List LinkView) → AreShortOn k ls → AreShortOn (k + 1) ls
on-later k [] s = tt
on-later k (l ∷ ls) s = (short-later k _ s.0, on-later k ls s.1)

on-changed : (k : ℕ) (test : LinkView → Bool) (f : LinkView → LinkView) (ls : List LinkView) → ((l : LinkView) → IsShort k l.sending → IsShort k (f l).sending) → AreShortOn k ls → AreShortOn k (change_first test f ls)
on-changed k test f [] g s = tt
on-changed k test f (l ∷ ls) g s =
    ⊎_elim
    (λ e. rw e (g l s.0, s.1))
    (λ e. rw e (s.0, on-changed k test f ls g s.1))
    (cases_Bool (test l))

on-removed : (k : ℕ) (test : LinkView → Bool) (ls : List LinkView) → AreShortOn k ls → AreShortOn k (remove_first test ls)
on-removed k test [] s = tt
on-removed k test (l ∷ ls) s =
    ⊎_elim
    (λ e. rw e s.1)
    (λ e. rw e (s.0, on-removed k test ls s.1))
    (cases_Bool (test l))

on-added : (k : ℕ) (ls : List LinkView) (l : LinkView) → AreShortOn k ls → IsShort k l.sending → AreShortOn k (ls ++ l ∷ [])
on-added k [] l s h = (h, tt)
on-added k (m ∷ ls) l s h = (s.0, on-added k ls l s.1 h)

on-told : (k : ℕ) (e : Event) (items : List SentItem) (ls : List LinkView) → AreShortOn k ls → AreShortOn k (map (told_more e items) ls)
on-told k e items [] s = tt
on-told k e items (l ∷ ls) s = (s.0, on-told k e items ls s.1)

none-short : (k : ℕ) → 0 ≤ k * 2 ^ 64
none-short k = omega arith

fate-short : (k : ℕ) (f : Fate) (ls : LinksView) → AreShortOn k ls.list → AreShort k f → AreShortOn k (links_after f ls).list
fate-short k fate.Stay ls s h = s
fate-short k (fate.Asked name end m r) ls s h = on-added k ls.list _ s h
fate-short k (fate.Offered name end m r) ls s h = on-added k ls.list _ s h
fate-short k (fate.Left key n) ls s h = on-changed k _ _ ls.list (λ l q. none-short k) s
fate-short k (fate.Taken key n) ls s h = on-changed k _ _ ls.list (λ l q. q) s
fate-short k (fate.Learnt key n) ls s h = on-changed k _ _ ls.list (λ l q. q) s
fate-short k (fate.Gone key n) ls s h = on-removed k _ ls.list s
fate-short k fate.AllGone ls s h = tt
fate-short k f ls s h = on-changed k _ _ ls.list (λ l q. h) s

told-short : (k : ℕ) (c : Change) (items : List SentItem) (ls : LinksView) → AreShortOn k ls.list → AreShortOn k (told_after c items ls).list
told-short k (Hears Sender d) items ls s = on-told k (event.Hears d) items ls.list s
told-short k c items ls s = s

-- # Links

told-made : (c : Change) (items : List SentItem) (ls : LinksView) → (told_after c items ls).made ≡ ls.made
told-made (Hears Sender d) items ls = refl
told-made c items ls = refl

fate-made : (f : Fate) (ls : LinksView) → (links_after f ls).made ≤ ls.made + 1
fate-made fate.Stay ls = omega arith
fate-made f ls = omega arith

-- # All of it

pub kept-after : (k : ℕ) (s : Session) (st : StoresView) (p : Plan) → k < 2 ^ 30 → IsKept k s st → IsSound (view_of k s st) p → KeepsApart (view_of k s st) (planned (view_of k s st) p)
    → IsKept (k + 1) p.session (stores_after p.fate p.change st)
kept-after k s st p small i h a =
    let c = h.counted in
    record {
      sent = c.sent;
      deliveries = c.deliveries;
      made = (let a = told-made p.change st.tables.sent (links_after p.fate st.links) in let b = fate-made p.fate st.links in let m = i.made in rw a (omega (arith, b, m)));
      short = told-short (k + 1) p.change st.tables.sent (links_after p.fate st.links) (fate-short (k + 1) p.fate st.links (on-later k st.links.list i.short) h.short);
      ours = ours-kept k (next_id p.session) (view_of k s st) p.session p.change st.tables c.begun refl (moved k (next_id s) (next_id p.session) (held_items Sender st.tables) small c.ours i.ours);
      theirs = expected-kept k (view_of k s st) p.session p.change st.tables s.expected small refl c.theirs c.begun i.theirs;
      apart = a i.apart;
    }

apt-after : (k : ℕ) (s : Session) (st : StoresView) (f : Fate) (c : Change) (t : Session) → k < 2 ^ 30 → IsKept k s st → IsBegun (view_of k s st) c t → IsAlone f c → IsApt f c st.tables
apt-after k s st f Stay t small i g a = tt
apt-after k s st f (Begins Sender x) t small i g a = (rw g.0 (older k (next_id s) (held_items Sender st.tables) small i.ours), g.2)
apt-after k s st f (Begins Receiver x) t small i g a = (from s.expected g.0 i.theirs, g.2)
  where
    from : (e : Option ℕ) → IsDue x.id e → AreBehindExpected k e st.tables.received → IsPast x.id st.tables.received
    from None d b = rw b (All-nil (λ i. is_before i.id x.id ≡ true))
    from (Some n) d b = rw d (older k n st.tables.received small b)
apt-after k s st f (Says role d) t small i g a = a
apt-after k s st f (Hears role d) t small i g a = a
apt-after k s st f c t small i g a = tt

pub met-after : (k : ℕ) (s : Session) (st : StoresView) (p : Plan) → k < 2 ^ 30 → IsKept k s st → IsSound (view_of k s st) p → IsMet p.fate p.change st
met-after k s st p small i h = record { fit = h.fit; apt = apt-after k s st p.fate p.change p.session small i h.counted.begun h.alone }
