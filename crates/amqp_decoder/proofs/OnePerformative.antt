-- Octets spell at most one performative.
use Rattle.std.proofs.Common.{◌≡◌, ℕ, true, List, [], refl, sym, ap, subst}
use Rattle.amqp_types.specs.Datum.{Datum}
use Rattle.amqp_types.proofs.Laws.{one_spelling}
use Rattle.amqp_performatives.specs.declared.performative.Performative.{Performative}
use Rattle.amqp_performatives.specs.declared.performative.Performative.TheVariants.{Open, Begin, Attach, Flow, Transfer, Disposition, Detach, End, Close}
use Rattle.amqp_performatives.specs.Part.{Fits}
use Rattle.amqp_performatives.specs.Bodies.{fields_of, descriptor_of, part_of}
use Rattle.amqp_performatives.specs.Fair.{is_fair}
use Rattle.amqp_performatives.specs.Spelling.{IsPerformative}
use Rattle.amqp_decoder.proofs.SameField.{IsSpelled, both, other_type}
use Rattle.amqp_decoder.proofs.SameBody.{open_one, begin_one, attach_one, flow_one, transfer_one, disposition_one, detach_one, end_one, close_one}

part_one : (p q : Performative) (d : Datum) → IsSpelled d → is_fair p ≡ true → is_fair q ≡ true → Fits (part_of p) d → Fits (part_of q) d → p ≡ q
part_one (Open b) (Open c) d s m n f g = ap Open (open_one b c m n (both (descriptor_of (Open b)) (fields_of (Open b)) (fields_of (Open c)) d s f g))
part_one (Begin b) (Begin c) d s m n f g = ap Begin (begin_one b c m n (both (descriptor_of (Begin b)) (fields_of (Begin b)) (fields_of (Begin c)) d s f g))
part_one (Attach b) (Attach c) d s m n f g = ap Attach (attach_one b c m n (both (descriptor_of (Attach b)) (fields_of (Attach b)) (fields_of (Attach c)) d s f g))
part_one (Flow b) (Flow c) d s m n f g = ap Flow (flow_one b c m n (both (descriptor_of (Flow b)) (fields_of (Flow b)) (fields_of (Flow c)) d s f g))
part_one (Transfer b) (Transfer c) d s m n f g = ap Transfer (transfer_one b c m n (both (descriptor_of (Transfer b)) (fields_of (Transfer b)) (fields_of (Transfer c)) d s f g))
part_one (Disposition b) (Disposition c) d s m n f g = ap Disposition (disposition_one b c m n (both (descriptor_of (Disposition b)) (fields_of (Disposition b)) (fields_of (Disposition c)) d s f g))
part_one (Detach b) (Detach c) d s m n f g = ap Detach (detach_one b c m n (both (descriptor_of (Detach b)) (fields_of (Detach b)) (fields_of (Detach c)) d s f g))
part_one (End b) (End c) d s m n f g = ap End (end_one b c m n (both (descriptor_of (End b)) (fields_of (End b)) (fields_of (End c)) d s f g))
part_one (Close b) (Close c) d s m n f g = ap Close (close_one b c m n (both (descriptor_of (Close b)) (fields_of (Close b)) (fields_of (Close c)) d s f g))
part_one p q d s m n f g = other_type (descriptor_of p) (descriptor_of q) (fields_of p) (fields_of q) d refl s f g

pub one_performative : (p q : Performative) (x : List ℕ) → IsPerformative p x → IsPerformative q x → p ≡ q
one_performative p q x h k =
    let e : h.datum ≡ k.datum = (one_spelling h.datum k.datum x x [] [] h.spelled k.spelled refl).0 in
    part_one p q h.datum (x, h.spelled.0) h.fair k.fair h.fits (subst (λ (d : Datum). Fits (part_of q) d) (sym e) k.fits)
