-- A frame whose body is kept in part, and no memory to join it: what its contents show.
use Rattle.std.proofs.Common.{◌≡◌, ◌≤◌, ◌<◌, ◌+◌, ◌-◌, ◌*◌, ◌++◌, ℕ, true, false, Some, None, List, [], length, take, drop, refl, sym, ap, ◌∙◌, subst, inr, arith, length-append, length-drop}
use Rattle.std.proofs.lemmas.List.{take_all, drop_all, drop-append-le, take-append-drop}
use Rattle.amqp_performatives.specs.declared.performative.Performative.{Performative}
use Rattle.amqp_performatives.specs.declared.performative.Performative.TheVariants.{Open, Begin, Attach, Flow, Transfer, Disposition, Detach, End, Close}
use Rattle.amqp_halves.specs.declared.judge.Found.{Found}
use Rattle.amqp_halves.specs.Finding.{Finds}
use Rattle.amqp_halves.specs.Finding as finding
use Rattle.amqp_frames.specs.declared.header.Header.{Header}
use Rattle.amqp_frames.specs.declared.fault.FrameFault.{FrameFault}
use Rattle.amqp_frames.specs.declared.fault.FrameFault.TheVariants.{BadBody, NoMemory}
use Rattle.amqp_frames.specs.Framing.{is_transfer, AreContents}
use Rattle.amqp_frames.specs.Header.{BeginsWith}
use Rattle.amqp_frames.specs.Contents.{AreNoContents}
use Rattle.amqp_frames.specs.Framer.{Faulty}
use Rattle.amqp_frames.proofs.Feeding.{refused}
use Rattle.amqp_frames.proofs.Performatives.{none_follow, none_in, refused_payload}

-- ---- contents in two places

-- a transfer here is a transfer there
same_word : (p : Performative) → finding.is_transfer p ≡ is_transfer p
same_word (Open b) = refl
same_word (Begin b) = refl
same_word (Attach b) = refl
same_word (Flow b) = refl
same_word (Transfer b) = refl
same_word (Disposition b) = refl
same_word (Detach b) = refl
same_word (End b) = refl
same_word (Close b) = refl

pub none_found : (x y : List ℕ) → 0 < length x → Finds (x ++ y) None → AreNoContents BadBody (x ++ y)
none_found x y some none = none_in (x ++ y) (omega (arith, length-append x y)) none

pub transfer_found : (z : List ℕ) (found : Found) → Finds z (Some found) → found.is_transfer ≡ true → AreNoContents NoMemory z
transfer_found z found (n, p, is, k) t = refused_payload p z found.used is (sym t ∙ k ∙ same_word p)

pub whole_found : (z : List ℕ) (found : Found) → Finds z (Some found) → found.used ≡ length z → AreNoContents NoMemory z
whole_found z found (n, p, is, k) u =
    let nothing : drop found.used z ≡ [] = drop_all found.used z (omega arith) in
    (Some p, drop found.used z, (take found.used z, is, inr nothing, sym (take-append-drop found.used z)))

pub other_found : (z : List ℕ) (found : Found) → Finds z (Some found) → found.is_transfer ≡ false → (found.used ≡ length z → ⊥) → AreNoContents BadBody z
other_found z found (n, p, is, k) t u = λ o payload c.
    let some : drop found.used z ≡ [] → ⊥ = λ q. u (omega (arith, n, ap length q, length-drop found.used z)) in
    none_follow p (take found.used z) (drop found.used z) is (sym (sym t ∙ k ∙ same_word p)) some o payload (subst (λ (s : List ℕ). AreContents o payload s) (sym (take-append-drop found.used z)) c)

-- ---- the frame

pub from_place : (items kept : List ℕ) (place start : ℕ) → start ≡ place → items ≡ kept → take (length items - start) (drop start items) ≡ drop place kept
from_place items kept place start at e =
    take_all (length items - start) (drop start items) (omega (arith, length-drop start items)) ∙ ap (λ (k : ℕ). drop k items) at ∙ ap (drop place) e

pub cut_short : (fault : FrameFault) (h : Header) (max missing : ℕ) (kept piece : List ℕ) → BeginsWith h max (kept ++ piece) → length kept + missing ≡ h.size → missing ≤ length piece → 4 * h.doff < length kept → AreNoContents fault (drop (4 * h.doff) kept ++ take missing piece)
    → Faulty fault max kept piece
cut_short fault h max missing kept piece b s n place none = refused fault h max missing kept piece (drop (4 * h.doff) kept ++ take missing piece) b s n (drop-append-le (4 * h.doff) kept (take missing piece) (omega arith)) none
