-- Sections, one after the other.
use Rattle.std.proofs.Common.{◌≡◌, ℕ, zero, suc, ◌+◌, ◌-◌, ◌≤◌, ◌<◌, ◌&&◌, ◌||◌, Bool, true, false, List, [], ◌∷◌, ◌++◌, length, take, drop, Option, Some, None, refl, sym, ap, subst, ◌∙◌, arith, append_assoc, get_or, add-one, drop-cons}
use Rattle.std.specs.Prelude.{IsTrue, Err}
use Rattle.std.proofs.lemmas.List.{append-nil, take-append-drop, append_cancel_left, take_all}
use Rattle.std.proofs.Math.Seq.{take-add}
use Rattle.std.proofs.Math.ListN.{length-drop}
use Rattle.amqp_types.specs.Datum.{Datum, described}
use Rattle.amqp_types.proofs.Laws.{one_spelling}
use Rattle.amqp_performatives.specs.Part.{IsDescriptor}
use Rattle.amqp_messages.specs.declared.kind.SectionKind.{SectionKind}
use Rattle.amqp_messages.specs.declared.section.Section.{Section}
use Rattle.amqp_messages.specs.declared.section.Place.{Place}
use Rattle.amqp_messages.specs.declared.fault.MessageFault.{MessageFault}
use Rattle.amqp_messages.specs.declared.fault.MessageFault.TheVariants as fault
use Rattle.amqp_messages.specs.Sections.{SectionData, type_of, seen, IsSection, HasNoSection}
use Rattle.amqp_messages.specs.InPlace.{IsFound}
use Rattle.amqp_messages.specs.Messages.{AreSections, are_ordered, last_of, may_follow, is_of_body, has_body, IsMessage, IsSome, StandUpTo, Refuses, Finds, seen_all}
use Rattle.amqp_messages.proofs.Bodies.{not_empty, rest_taken}
use Rattle.amqp_messages.proofs.OneKind.{one_kind}

-- ---- one section

pub section_not_empty : (s : SectionData) (x rest : List ℕ) → IsSection s x → [] ≡ x ++ rest → ⊥
section_not_empty s x rest p e = not_empty (described p.descriptor s.1) x rest p.spelled.0 e

pub section_moves : (s : SectionData) (used : ℕ) (os : List ℕ) → IsSection s (take used os) → 0 < used
section_moves s zero os p = absurd (section_not_empty s [] [] p refl)
section_moves s (suc n) os p = omega arith

pair_same : (s t : SectionData) → s.0 ≡ t.0 → s.1 ≡ t.1 → s ≡ t
pair_same s t e f = rw (e, f) refl

pub one_section : (s t : SectionData) (x y a b : List ℕ) → IsSection s x → IsSection t y → x ++ a ≡ y ++ b → (s ≡ t) × (x ≡ y) × (a ≡ b)
one_section s t x y a b p q e =
    let same = one_spelling (described p.descriptor s.1) (described q.descriptor t.1) x y a b p.spelled q.spelled e in
    let d : p.descriptor ≡ q.descriptor = let k = same.0 in cc in
    let v : s.1 ≡ t.1 = let k = same.0 in cc in
    let k : s.0 ≡ t.0 = one_kind s.0 t.0 q.descriptor (subst (λ (w : Datum). IsDescriptor (type_of s.0) w) d p.named) q.named in
    (pair_same s t k v, same.1, append_cancel_left x a b (e ∙ ap (λ (z : List ℕ). z ++ b) (sym same.1)))

-- ---- one section more

pub are_sections-more : (ss : List SectionData) (s : SectionData) (a b : List ℕ) → AreSections ss a → IsSection s b → AreSections (ss ++ s ∷ []) (a ++ b)
are_sections-more [] s a b h p = (b, [], p, refl, ap (λ (z : List ℕ). z ++ b) h ∙ sym (append-nil b))
are_sections-more (t ∷ ss) s a b h p = (h.0, h.1 ++ b, h.2, are_sections-more ss s h.1 b h.3 p, ap (λ (z : List ℕ). z ++ b) h.4 ∙ append_assoc h.0 h.1 b)

pub and_first : (a b : Bool) → (a && b) ≡ true → a ≡ true
and_first true b h = refl
and_first false b h = h

pub and_second : (a b : Bool) → (a && b) ≡ true → b ≡ true
and_second true b h = h
and_second false b h = cc

both : (a b : Bool) → a ≡ true → b ≡ true → (a && b) ≡ true
both a b h g = rw (h, g) refl

pub or_false : (a : Bool) → (a || false) ≡ a
or_false true = refl
or_false false = refl

pub or_assoc : (a b c : Bool) → (a || (b || c)) ≡ ((a || b) || c)
or_assoc true b c = refl
or_assoc false b c = refl

pub ordered-more : (before : Option SectionKind) (ss : List SectionData) (s : SectionData) → IsTrue (are_ordered before ss) → may_follow (last_of before ss) s.0 ≡ true → IsTrue (are_ordered before (ss ++ s ∷ []))
ordered-more before [] s h f = both (may_follow before s.0) true f refl
ordered-more before (t ∷ ss) s h f = both (may_follow before t.0) (are_ordered (Some t.0) (ss ++ s ∷ [])) (and_first (may_follow before t.0) (are_ordered (Some t.0) ss) h) (ordered-more (Some t.0) ss s (and_second (may_follow before t.0) (are_ordered (Some t.0) ss) h) f)

pub last-more : (before : Option SectionKind) (ss : List SectionData) (s : SectionData) → last_of before (ss ++ s ∷ []) ≡ Some s.0
last-more before [] s = refl
last-more before (t ∷ ss) s = last-more (Some t.0) ss s

pub body-more : (ss : List SectionData) (s : SectionData) → has_body (ss ++ s ∷ []) ≡ (has_body ss || is_of_body s.0)
body-more [] s = or_false (is_of_body s.0)
body-more (t ∷ ss) s = ap (λ (b : Bool). is_of_body t.0 || b) (body-more ss s) ∙ or_assoc (is_of_body t.0) (has_body ss) (is_of_body s.0)

-- ---- what is known in front of a place

pub record Begun (os : List ℕ) (at : ℕ) (last : Option SectionKind) (body : Bool) : Type 0 where
  pub sections : List SectionData
  pub stand : StandUpTo sections at os
  pub last_is : last_of None sections ≡ last
  pub body_is : has_body sections ≡ body

pub begun-none : (os : List ℕ) → Begun os 0 None false
begun-none os = record {
  sections = [];
  stand = record { within = omega arith; spelled = refl; ordered = refl };
  last_is = refl;
  body_is = refl;
}

pub begun-more : (os : List ℕ) (at : ℕ) (last : Option SectionKind) (body : Bool) (place : Place) → Begun os at last body → IsFound (drop at os) place → may_follow last place.kind ≡ true → Begun os (at + place.end) (Some place.kind) (body || is_of_body place.kind)
begun-more os at last body place b f follows =
    let s : SectionData = (place.kind, f.body) in
    record {
      sections = b.sections ++ s ∷ [];
      stand = record {
        within = omega (arith, b.stand.within, f.within, length-drop at os);
        spelled = subst (λ (z : List ℕ). AreSections (b.sections ++ s ∷ []) z) (sym (take-add at place.end os)) (are_sections-more b.sections s (take at os) (take place.end (drop at os)) b.stand.spelled f.is);
        ordered = ordered-more None b.sections s b.stand.ordered (ap (λ (l : Option SectionKind). may_follow l place.kind) b.last_is ∙ follows);
      };
      last_is = last-more None b.sections s;
      body_is = body-more b.sections s ∙ ap (λ (c : Bool). c || is_of_body place.kind) b.body_is;
    }

pub all_spelled : (os : List ℕ) (at : ℕ) (ss : List SectionData) → StandUpTo ss at os → length os ≤ at → AreSections ss os
all_spelled os at ss h end = subst (λ (z : List ℕ). AreSections ss z) (take_all at os end) h.spelled

-- ---- octets spell one list of sections at most

same_more : (s t : SectionData) (ts us : List SectionData) → s ≡ t → ts ≡ us → t ∷ ts ≡ s ∷ us
same_more s t ts us e f = rw (e, f) refl

pub behind_all : (ss ts : List SectionData) (a b : List ℕ) → AreSections ss a → AreSections ts (a ++ b) → (uu : List SectionData) × (ts ≡ ss ++ uu) × AreSections uu b
behind_all [] ts a b h g = (ts, refl, subst (λ (z : List ℕ). AreSections ts (z ++ b)) h g)
behind_all (s ∷ ss) [] a b h g = absurd (section_not_empty s h.0 (h.1 ++ b) h.2 (sym g ∙ ap (λ (z : List ℕ). z ++ b) h.4 ∙ append_assoc h.0 h.1 b))
behind_all (s ∷ ss) (t ∷ ts) a b h g =
    let e : h.0 ++ (h.1 ++ b) ≡ g.0 ++ g.1 = sym (append_assoc h.0 h.1 b) ∙ ap (λ (z : List ℕ). z ++ b) (sym h.4) ∙ g.4 in
    let one = one_section s t h.0 g.0 (h.1 ++ b) g.1 h.2 g.2 e in
    let rest = behind_all ss ts h.1 b h.3 (subst (λ (z : List ℕ). AreSections ts z) (sym one.2) g.3) in
    (rest.0, same_more s t ts (ss ++ rest.0) one.0 rest.1, rest.2)

none_left : (uu : List SectionData) → AreSections uu [] → uu ≡ []
none_left [] h = refl
none_left (u ∷ uu) h = absurd (section_not_empty u h.0 h.1 h.2 h.4)

pub same_sections : (ss ts : List SectionData) (os : List ℕ) → AreSections ss os → AreSections ts os → ss ≡ ts
same_sections ss ts os h g =
    let b = behind_all ss ts os [] h (subst (λ (z : List ℕ). AreSections ts z) (sym (append-nil os)) g) in
    sym (b.1 ∙ ap (λ (z : List SectionData). ss ++ z) (none_left b.0 b.2) ∙ append-nil ss)

ordered_at : (before : Option SectionKind) (ss : List SectionData) (s : SectionData) (ts : List SectionData) → IsTrue (are_ordered before (ss ++ s ∷ ts)) → may_follow (last_of before ss) s.0 ≡ true
ordered_at before [] s ts h = and_first (may_follow before s.0) (are_ordered (Some s.0) ts) h
ordered_at before (t ∷ ss) s ts h = ordered_at (Some t.0) ss s ts (and_second (may_follow before t.0) (are_ordered (Some t.0) (ss ++ s ∷ ts)) h)

-- what stands behind a place where sections end
rest_of : (os : List ℕ) (at : ℕ) (ss ts : List SectionData) → StandUpTo ss at os → AreSections ts os → (uu : List SectionData) × (ts ≡ ss ++ uu) × AreSections uu (drop at os)
rest_of os at ss ts h g = behind_all ss ts (take at os) (drop at os) h.spelled (subst (λ (z : List ℕ). AreSections ts z) (sym (take-append-drop at os)) g)

no_section_left : (os : List ℕ) (at : ℕ) (uu : List SectionData) → at < length os → HasNoSection (drop at os) → AreSections uu (drop at os) → ⊥
no_section_left os at [] more none h = absurd (omega (arith, more, length-drop at os, ap length h))
no_section_left os at (u ∷ uu) more none h = none u h.0 h.1 h.2 h.4

out_of_order : (os : List ℕ) (ss uu : List SectionData) (s : SectionData) (x rest : List ℕ) → IsSection s x → os ≡ x ++ rest → may_follow (last_of None ss) s.0 ≡ false → IsTrue (are_ordered None (ss ++ uu)) → AreSections uu os → ⊥
out_of_order os ss [] s x rest p e f ordered h = section_not_empty s x rest p (sym h ∙ e)
out_of_order os ss (u ∷ uu) s x rest p e f ordered h =
    let one = one_section u s h.0 x h.1 rest h.2 p (sym h.4 ∙ e) in
    let held = ordered_at None ss u uu ordered in
    let not_held : may_follow (last_of None ss) u.0 ≡ false = ap (λ (t : SectionData). may_follow (last_of None ss) t.0) one.0 ∙ f in
    cc

-- so what refuses octets refuses them alone that are no message
pub refused : (os : List ℕ) (f : MessageFault) (ts : List SectionData) → Refuses os f → IsMessage ts os → Finds ts (Err f)
refused os (fault.NoSection at) ts h m =
    let r = rest_of os at h.0 ts h.1 m.spelled in
    no_section_left os at r.0 h.2 h.3 r.2
refused os (fault.OutOfOrder at) ts h m =
    let r = rest_of os at h.0 ts h.1 m.spelled in
    out_of_order (drop at os) h.0 r.0 h.2 h.3.0 h.3.1 h.3.2 h.3.3 h.4 (subst (λ (z : List SectionData). IsTrue (are_ordered None z)) r.1 m.ordered) r.2
refused os fault.NoBody ts h m =
    let e = same_sections h.0 ts os h.1 m.spelled in
    let held = m.body in
    let not_held : has_body ts ≡ false = ap has_body (sym e) ∙ h.3 in
    cc
refused os fault.NoMemory ts h m = tt

-- ---- what a pass over the octets answers

pub begun-next : (os : List ℕ) (at : ℕ) (last : Option SectionKind) (body : Bool) (place : Place) → Begun os at last body → IsFound (take (length os - at) (drop at os)) place → may_follow last place.kind ≡ true → Begun os (at + place.end) (Some place.kind) (body || is_of_body place.kind)
begun-next os at last body place b f follows = begun-more os at last body place b (subst (λ (z : List ℕ). IsFound z place) (rest_taken at os) f) follows

pub stops : (os : List ℕ) (at : ℕ) (last : Option SectionKind) (body : Bool) → Begun os at last body → at < length os → HasNoSection (take (length os - at) (drop at os)) → Refuses os (fault.NoSection at)
stops os at last body b more none = (b.sections, b.stand, more, subst HasNoSection (rest_taken at os) none)

pub disordered : (os : List ℕ) (at : ℕ) (last : Option SectionKind) (body : Bool) (place : Place) → Begun os at last body → IsFound (take (length os - at) (drop at os)) place → may_follow last place.kind ≡ false → Refuses os (fault.OutOfOrder at)
disordered os at last body place b g not_so =
    let f = subst (λ (z : List ℕ). IsFound z place) (rest_taken at os) g in
    (b.sections, b.stand, (place.kind, f.body), (take place.end (drop at os), drop place.end (drop at os), f.is, sym (take-append-drop place.end (drop at os))), ap (λ (l : Option SectionKind). may_follow l place.kind) b.last_is ∙ not_so)

pub whole : (os : List ℕ) (at : ℕ) (last : Option SectionKind) (body : Bool) → Begun os at last body → length os ≤ at → body ≡ true → IsSome os
whole os at last body b end there = (b.sections, record { ordered = b.stand.ordered; body = b.body_is ∙ there; spelled = all_spelled os at b.sections b.stand end })

pub bodiless : (os : List ℕ) (at : ℕ) (last : Option SectionKind) (body : Bool) → Begun os at last body → length os ≤ at → body ≡ false → Refuses os fault.NoBody
bodiless os at last body b end none = (b.sections, all_spelled os at b.sections b.stand end, b.stand.ordered, b.body_is ∙ none)

-- ---- sections that are read one after the other

pub seen-more : (ss : List Section) (s : Section) → seen_all (ss ++ s ∷ []) ≡ seen_all ss ++ seen s ∷ []
seen-more [] s = refl
seen-more (t ∷ ss) s = ap (λ (z : List SectionData). seen t ∷ z) (seen-more ss s)

pub read-more : (os : List ℕ) (from used : ℕ) (ss all : List Section) (s : Section) → AreSections (seen_all ss) (take from os) → used ≤ length (drop from os) → IsSection (seen s) (take used (drop from os)) → all ≡ ss ++ s ∷ [] → AreSections (seen_all all) (take (from + used) os)
read-more os from used ss all s h within p e =
    rw (e, seen-more ss s) (subst (λ (z : List ℕ). AreSections (seen_all ss ++ seen s ∷ []) z) (sym (take-add from used os)) (are_sections-more (seen_all ss) (seen s) (take from os) (take used (drop from os)) h p))

pub seen-drop : (ss : List Section) (i : ℕ) (s : Section) → i < length ss → s ≡ get_or ss i s → seen_all (drop i ss) ≡ seen s ∷ seen_all (drop (i + 1) ss)
seen-drop ss i s h e = rw (add-one, drop-cons ss i s h, ← e) refl

pub read_message : (os : List ℕ) (all : List Section) → IsSome os → AreSections (seen_all all) os → IsMessage (seen_all all) os
read_message os all m h = subst (λ (z : List SectionData). IsMessage z os) (same_sections m.0 (seen_all all) os m.1.spelled h) m.1

pub found_moves : (os : List ℕ) (at : ℕ) (place : Place) → IsFound (take (length os - at) (drop at os)) place → (0 < place.end) × (place.end ≤ length os - at)
found_moves os at place f =
    let g = subst (λ (z : List ℕ). IsFound z place) (rest_taken at os) f in
    (section_moves (place.kind, g.body) place.end (drop at os) g.is, omega (arith, g.within, length-drop at os))
