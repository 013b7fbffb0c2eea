-- The nine performatives, and the table of their fields.
use Rattle.std.proofs.Common.{◌≡◌, ◌≤◌, ◌-◌, ℕ, Bool, true, false, cond, ◌&&◌, List, [], ◌∷◌, ◌++◌, length, take, Some, None, refl, sym, ap, subst, ◌∙◌, arith}
use Rattle.amqp_types.specs.Datum.{Datum, number, octets, list, map, array, described}
use Rattle.amqp_types.specs.Grammar.{Spells}
use Rattle.amqp_types.specs.Reading.{part_at, after}
use Rattle.amqp_types.proofs.Laws.{spelled_is_read, rest_is_short, spelling_taken}
use Rattle.amqp_performatives.specs.declared.performative.Performative.{Performative}
use Rattle.amqp_performatives.specs.declared.performative.Performative.TheVariants.{Open, Begin, Attach, Flow, Transfer, Disposition, Detach, End, Close}
use Rattle.amqp_performatives.specs.declared.composite.Composite.{Composite}
use Rattle.amqp_performatives.specs.declared.composite.Composite.TheVariants as kind
use Rattle.amqp_performatives.specs.Composite.{type_of}
use Rattle.amqp_performatives.specs.Part.{Fields, Fits, FitInOrder, IsDescriptor}
use Rattle.amqp_performatives.specs.Bodies.{descriptor_of, fields_of, part_of}
use Rattle.amqp_performatives.specs.Fair.{where_present, is_present, is_tag, is_sender_mode, is_receiver_mode, is_fair_error, is_fair_state, is_fair, is_descriptor}
use Rattle.amqp_performatives.specs.Spelling.{IsPerformative}
use Rattle.amqp_decoder.proofs.Conjunctions.{and_left, and_right, and_both}
use Rattle.amqp_halves.specs.Rows.{rows_of}
use Rattle.amqp_halves.specs.Judging.{fits, bodies, first_body, body_of, is_transfer_type}
use Rattle.amqp_halves.specs.Finding.{is_transfer}
use Rattle.amqp_halves.proofs.Shapes.{from_after}
use Rattle.amqp_halves.proofs.Held.{Good, good_value, HeldAll, fields_by, fair_all, made_fields, descriptor_true}
use Rattle.amqp_halves.proofs.Told.{told, true_of}

abbrev pub kind_of : Performative → Composite
kind_of (Open b) = kind.Open
kind_of (Begin b) = kind.Begin
kind_of (Attach b) = kind.Attach
kind_of (Flow b) = kind.Flow
kind_of (Transfer b) = kind.Transfer
kind_of (Disposition b) = kind.Disposition
kind_of (Detach b) = kind.Detach
kind_of (End b) = kind.End
kind_of (Close b) = kind.Close

descriptor_is : (p : Performative) → descriptor_of p ≡ type_of (kind_of p)
descriptor_is (Open b) = refl
descriptor_is (Begin b) = refl
descriptor_is (Attach b) = refl
descriptor_is (Flow b) = refl
descriptor_is (Transfer b) = refl
descriptor_is (Disposition b) = refl
descriptor_is (Detach b) = refl
descriptor_is (End b) = refl
descriptor_is (Close b) = refl

transfer_is : (p : Performative) → is_transfer_type (kind_of p) ≡ is_transfer p
transfer_is (Open b) = refl
transfer_is (Begin b) = refl
transfer_is (Attach b) = refl
transfer_is (Flow b) = refl
transfer_is (Transfer b) = refl
transfer_is (Disposition b) = refl
transfer_is (Detach b) = refl
transfer_is (End b) = refl
transfer_is (Close b) = refl

-- ---- a performative's fields, as what its table holds

abbrev held_of : (p : Performative) → HeldAll (rows_of (kind_of p))
held_of (Open b) = (b.container_id, (b.hostname, (b.max_frame_size, (b.channel_max, (b.idle_time_out, (b.outgoing_locales, (b.incoming_locales, (b.offered_capabilities, (b.desired_capabilities, (b.properties, tt))))))))))
held_of (Begin b) = (b.remote_channel, (b.next_outgoing_id, (b.incoming_window, (b.outgoing_window, (b.handle_max, (b.offered_capabilities, (b.desired_capabilities, (b.properties, tt))))))))
held_of (Attach b) =
    (b.name, (b.handle, (b.role, (b.snd_settle_mode, (b.rcv_settle_mode, (b.source, (b.target, (b.unsettled, (b.incomplete_unsettled, (b.initial_delivery_count, (b.max_message_size, (b.offered_capabilities, (b.desired_capabilities, (b.properties, tt))))))))))))))
held_of (Flow b) =
    (b.next_incoming_id, (b.incoming_window, (b.next_outgoing_id, (b.outgoing_window, (b.handle, (b.delivery_count, (b.link_credit, (b.available, (b.drain, (b.echo, (b.properties, tt)))))))))))
held_of (Transfer b) = (b.handle, (b.delivery_id, (b.delivery_tag, (b.message_format, (b.settled, (b.more, (b.rcv_settle_mode, (b.state, (b.resume, (b.aborted, (b.batchable, tt)))))))))))
held_of (Disposition b) = (b.role, (b.first, (b.last, (b.settled, (b.state, (b.batchable, tt))))))
held_of (Detach b) = (b.handle, (b.closed, (b.error, tt)))
held_of (End b) = (b.error, tt)
held_of (Close b) = (b.error, tt)

fields_are : (p : Performative) → fields_by (rows_of (kind_of p)) (held_of p) ≡ fields_of p
fields_are (Open b) = refl
fields_are (Begin b) = refl
fields_are (Attach b) = refl
fields_are (Flow b) = refl
fields_are (Transfer b) = refl
fields_are (Disposition b) = refl
fields_are (Detach b) = refl
fields_are (End b) = refl
fields_are (Close b) = refl

and1 : (a : Bool) → (a && true) ≡ a
and1 true = refl
and1 false = refl

and2 : (a b : Bool) → (a && (b && true)) ≡ (a && b)
and2 true b = and1 b
and2 false b = refl

and3 : (a b c : Bool) → (a && (b && (c && true))) ≡ ((a && b) && c)
and3 true b c = and2 b c
and3 false b c = refl

and4 : (a b c d : Bool) → (a && (b && (c && (d && true)))) ≡ (((a && b) && c) && d)
and4 true b c d = and3 b c d
and4 false b c d = refl

and5 : (a b c d e : Bool) → (a && (b && (c && (d && (e && true))))) ≡ ((((a && b) && c) && d) && e)
and5 true b c d e = and4 b c d e
and5 false b c d e = refl

and6 : (a b c d e f : Bool) → (a && (b && (c && (d && (e && (f && true)))))) ≡ (((((a && b) && c) && d) && e) && f)
and6 true b c d e f = and5 b c d e f
and6 false b c d e f = refl

and7 : (a b c d e f g : Bool) → (a && (b && (c && (d && (e && (f && (g && true))))))) ≡ ((((((a && b) && c) && d) && e) && f) && g)
and7 true b c d e f g = and6 b c d e f g
and7 false b c d e f g = refl

fair_is : (p : Performative) → fair_all (rows_of (kind_of p)) (held_of p) ≡ is_fair p
fair_is (Open b) = and5 (where_present is_present b.outgoing_locales) (where_present is_present b.incoming_locales) (where_present is_present b.offered_capabilities) (where_present is_present b.desired_capabilities) (where_present is_present b.properties)
fair_is (Begin b) = and3 (where_present is_present b.offered_capabilities) (where_present is_present b.desired_capabilities) (where_present is_present b.properties)
fair_is (Attach b) =
    and7 (where_present is_sender_mode b.snd_settle_mode) (where_present is_receiver_mode b.rcv_settle_mode) (where_present is_present b.source) (where_present is_present b.target) (where_present is_present b.offered_capabilities)
    (where_present is_present b.desired_capabilities) (where_present is_present b.properties)
fair_is (Flow b) = and1 (where_present is_present b.properties)
fair_is (Transfer b) = and3 (where_present is_tag b.delivery_tag) (where_present is_receiver_mode b.rcv_settle_mode) (where_present is_fair_state b.state)
fair_is (Disposition b) = and1 (where_present is_fair_state b.state)
fair_is (Detach b) = and1 (where_present is_fair_error b.error)
fair_is (End b) = and1 (where_present is_fair_error b.error)
fair_is (Close b) = and1 (where_present is_fair_error b.error)

record Body (c : Composite) (h : HeldAll (rows_of c)) : Type 0 where
  p : Performative
  kind_is : kind_of p ≡ c
  fields : fields_of p ≡ fields_by (rows_of c) h
  fair : is_fair p ≡ fair_all (rows_of c) h

from : (p : Performative) → Body (kind_of p) (held_of p)
from p = record { p = p; kind_is = refl; fields = sym (fields_are p); fair = sym (fair_is p) }

abbrev is_body : Composite → Bool
is_body kind.Open = true
is_body kind.Begin = true
is_body kind.Attach = true
is_body kind.Flow = true
is_body kind.Transfer = true
is_body kind.Disposition = true
is_body kind.Detach = true
is_body kind.End = true
is_body kind.Close = true
is_body _ = false

body : (c : Composite) (h : HeldAll (rows_of c)) → is_body c ≡ true → Body c h
body kind.Open (a, (b, (c, (d, (e, (f, (g, (h, (i, (j, k)))))))))) t =
    from (Open (record { container_id = a; hostname = b; max_frame_size = c; channel_max = d; idle_time_out = e; outgoing_locales = f; incoming_locales = g; offered_capabilities = h; desired_capabilities = i; properties = j }))
body kind.Begin (a, (b, (c, (d, (e, (f, (g, (h, k)))))))) t =
    from (Begin (record { remote_channel = a; next_outgoing_id = b; incoming_window = c; outgoing_window = d; handle_max = e; offered_capabilities = f; desired_capabilities = g; properties = h }))
body kind.Attach (a, (b, (c, (d, (e, (f, (g, (h, (i, (j, (l, (m, (n, (o, k)))))))))))))) t =
    from (Attach (record { name = a; handle = b; role = c; snd_settle_mode = d; rcv_settle_mode = e; source = f; target = g; unsettled = h; incomplete_unsettled = i; initial_delivery_count = j; max_message_size = l; offered_capabilities = m; desired_capabilities = n; properties = o }))
body kind.Flow (a, (b, (c, (d, (e, (f, (g, (h, (i, (j, (l, k))))))))))) t =
    from (Flow (record { next_incoming_id = a; incoming_window = b; next_outgoing_id = c; outgoing_window = d; handle = e; delivery_count = f; link_credit = g; available = h; drain = i; echo = j; properties = l }))
body kind.Transfer (a, (b, (c, (d, (e, (f, (g, (h, (i, (j, (l, k))))))))))) t =
    from (Transfer (record { handle = a; delivery_id = b; delivery_tag = c; message_format = d; settled = e; more = f; rcv_settle_mode = g; state = h; resume = i; aborted = j; batchable = l }))
body kind.Disposition (a, (b, (c, (d, (e, (f, k)))))) t = from (Disposition (record { role = a; first = b; last = c; settled = d; state = e; batchable = f }))
body kind.Detach (a, (b, (c, k))) t = from (Detach (record { handle = a; closed = b; error = c }))
body kind.End (a, k) t = from (End (record { error = a }))
body kind.Close (a, k) t = from (Close (record { error = a }))
body _ h t = absurd cc

-- ---- the first type that a value is of

abbrev all_bodies : List Composite → Bool
all_bodies [] = true
all_bodies (c ∷ cs) = is_body c && all_bodies cs

record IsBody (c : Composite) (a b : Datum) : Type 0 where
  is : is_body c ≡ true
  named : is_descriptor (type_of c) a ≡ true
  fit : fits b c ≡ true

found_step : (c d : Composite) (cs : List Composite) (a b : Datum) (t : Bool) → is_descriptor (type_of c) a && fits b c ≡ t → is_body c ≡ true → (Some d ≡ first_body cs a b → IsBody d a b) → Some d ≡ cond t (Some c) (first_body cs a b) → IsBody d a b
found_step c d cs a b true h is others e =
    let same : c ≡ d = cc in
    subst (λ (x : Composite). IsBody x a b) same (record { is = is; named = and_left (is_descriptor (type_of c) a) (fits b c) h; fit = and_right (is_descriptor (type_of c) a) (fits b c) h })
found_step c d cs a b false h is others e = others e

found : (cs : List Composite) (d : Composite) (a b : Datum) → all_bodies cs ≡ true → Some d ≡ first_body cs a b → IsBody d a b
found [] d a b all e = absurd cc
found (c ∷ cs) d a b all e = found_step c d cs a b (is_descriptor (type_of c) a && fits b c) refl (and_left (is_body c) (all_bodies cs) all) (λ f. found cs d a b (and_right (is_body c) (all_bodies cs) all) f) e

abbrev NoneIs : List Composite → Datum → Datum → Type 0
NoneIs [] a b = Unit {0}
NoneIs (c ∷ cs) a b = ((is_descriptor (type_of c) a && fits b c) ≡ false) × NoneIs cs a b

missed_step : (c : Composite) (cs : List Composite) (a b : Datum) (t : Bool) → is_descriptor (type_of c) a && fits b c ≡ t → (None ≡ first_body cs a b → NoneIs cs a b) → None ≡ cond t (Some c) (first_body cs a b) → NoneIs (c ∷ cs) a b
missed_step c cs a b true h others e = absurd cc
missed_step c cs a b false h others e = (h, others e)

missed : (cs : List Composite) (a b : Datum) → None ≡ first_body cs a b → NoneIs cs a b
missed [] a b e = tt
missed (c ∷ cs) a b e = missed_step c cs a b (is_descriptor (type_of c) a && fits b c) refl (λ f. missed cs a b f) e

-- one of the nine
no_kind : (p : Performative) (a b : Datum) → NoneIs bodies a b → (is_descriptor (type_of (kind_of p)) a && fits b (kind_of p)) ≡ false
no_kind (Transfer x) a b n = n.0
no_kind (Flow x) a b n = n.1.0
no_kind (Disposition x) a b n = n.1.1.0
no_kind (Open x) a b n = n.1.1.1.0
no_kind (Begin x) a b n = n.1.1.1.1.0
no_kind (Attach x) a b n = n.1.1.1.1.1.0
no_kind (Detach x) a b n = n.1.1.1.1.1.1.0
no_kind (End x) a b n = n.1.1.1.1.1.1.1.0
no_kind (Close x) a b n = n.1.1.1.1.1.1.1.1.0

-- ---- a value is a performative

record IsOne (c : Composite) (d : Datum) : Type 0 where
  p : Performative
  kind_is : kind_of p ≡ c
  fair : is_fair p ≡ true
  fit : Fits (part_of p) d

one_from : (c : Composite) (a b : Datum) → Good b → IsBody c a b → IsOne c (described a b)
one_from c a b g i =
    let m = made_fields c b g i.fit in
    let x = body c m.made.held i.is in
    let type : descriptor_of x.p ≡ type_of c = descriptor_is x.p ∙ ap type_of x.kind_is in
    record {
      p = x.p;
      kind_is = x.kind_is;
      fair = x.fair ∙ m.made.fair;
      fit = (a, m.items, subst (λ (t : ℕ × List ℕ). IsDescriptor t a) (sym type) (descriptor_true (type_of c) a i.named), subst (λ (fs : Fields). FitInOrder fs m.items) (sym x.fields) m.made.fit, ap (described a) m.is);
    }

one : (c : Composite) (d : Datum) → Good d → Some c ≡ body_of d → IsOne c d
one c (described a b) g e = one_from c a b (good_value a b g) (found bodies c a b refl e)
one c (number k n) g e = absurd cc
one c (octets r os) g e = absurd cc
one c (list ds) g e = absurd cc
one c (map ds) g e = absurd cc
one c (array k ds) g e = absurd cc

told_one : (p : Performative) (d : Datum) → is_fair p ≡ true → Fits (part_of p) d → None ≡ body_of d → ⊥
told_one p d f (a, ds, is, k, e) none =
    let q : None ≡ first_body bodies a (list ds) = none ∙ ap body_of e in
    let n = no_kind p a (list ds) (missed bodies a (list ds) q) in
    let named = true_of (type_of (kind_of p)) a (subst (λ (t : ℕ × List ℕ). IsDescriptor t a) (descriptor_is p) is) in
    let fit : fits (list ds) (kind_of p) ≡ true = told (rows_of (kind_of p)) (held_of p) ds (fair_is p ∙ f) (subst (λ (fs : Fields). FitInOrder fs ds) (sym (fields_are p)) k) in
    let both = and_both (is_descriptor (type_of (kind_of p)) a) (fits (list ds) (kind_of p)) named fit in
    let z : true ≡ false = sym both ∙ n in absurd cc

-- ---- octets

pub none_scanned : (os : List ℕ) → None ≡ after (part_at 32 None os) → (p : Performative) (x rest : List ℕ) → IsPerformative p x → os ≡ x ++ rest → ⊥
none_scanned os h p x rest i e = let q : None ≡ Some rest = h ∙ ap (λ (t : List ℕ). after (part_at 32 None t)) e ∙ ap after (spelled_is_read 32 i.datum x rest i.spelled) in cc

pub none_found : (os r : List ℕ) → Some r ≡ after (part_at 32 None os) → ((d : Datum) (rest : List ℕ) → part_at 32 None os ≡ Some (d, rest) → None ≡ body_of d) → (p : Performative) (x rest : List ℕ) → IsPerformative p x → os ≡ x ++ rest → ⊥
none_found os r h none p x rest i e =
    let q : part_at 32 None os ≡ Some (i.datum, rest) = ap (part_at 32 None) e ∙ spelled_is_read 32 i.datum x rest i.spelled in
    told_one p i.datum i.fair i.fits (none i.datum rest q)

pub record Found (os r : List ℕ) (t : Bool) (used : ℕ) : Type 0 where
  pub within : used ≤ length os
  pub p : Performative
  pub is : IsPerformative p (take used os)
  pub transfer : t ≡ is_transfer p

pub one_found : (os r : List ℕ) (c : Composite) (t : Bool) (used : ℕ) → used ≡ length os - length r → t ≡ is_transfer_type c → Some r ≡ after (part_at 32 None os) → ((d : Datum) (rest : List ℕ) → part_at 32 None os ≡ Some (d, rest) → Some c ≡ body_of d) → Found os r t used
one_found os r c t used u k h some =
    let x = from_after (part_at 32 None os) r h in
    let s = spelling_taken 32 os x.0.0 x.0.1 x.1 in
    let n : used ≡ length os - length x.0.1 = omega (arith, u, ap length x.2) in
    let o = one c x.0.0 (take (length os - length x.0.1) os, s.0) (some x.0.0 x.0.1 x.1) in
    record {
      within = omega arith;
      p = o.p;
      is = record { fair = o.fair; datum = x.0.0; fits = o.fit; spelled = subst (λ (m : ℕ). Spells x.0.0 (take m os)) (sym n) s };
      transfer = k ∙ ap is_transfer_type (sym o.kind_is) ∙ transfer_is o.p;
    }

pub rest_within : (os r : List ℕ) → Some r ≡ after (part_at 32 None os) → length r ≤ length os
rest_within os r h = let x = from_after (part_at 32 None os) r h in omega (arith, rest_is_short 32 os x.0.0 x.0.1 x.1, ap length x.2)
