-- A performative is read by its descriptor.
use Rattle.std.proofs.Common.{◌≡◌, ◌≤◌, ℕ, List, ◌++◌, length, take, drop, refl, sym}
use Rattle.std.specs.Prelude.{Result, Ok, Err, Option, Some, None}
use Rattle.std.proofs.lemmas.List.{take-append-drop}
use Rattle.amqp_types.specs.Datum.{Datum}
use Rattle.amqp_decoder.specs.declared.fields.Cursor.{Cursor}
use Rattle.amqp_performatives.specs.declared.performative.Performative.{Performative}
use Rattle.amqp_performatives.specs.declared.performative.Performative.TheVariants.{Open, Begin, Attach, Flow, Transfer, Disposition, Detach, End, Close}
use Rattle.amqp_decoder.specs.declared.fault.BodyFault.{BodyFault}
use Rattle.amqp_decoder.specs.declared.fault.BodyFault.TheVariants.{NoBody, NoMemory}
use Rattle.amqp_performatives.specs.Part.{IsDescriptor}
use Rattle.amqp_performatives.specs.Bodies.{descriptor_of, fields_of, open_fields, begin_fields, attach_fields, flow_fields, transfer_fields, disposition_fields, detach_fields, end_fields, close_fields}
use Rattle.amqp_performatives.specs.Fair.{is_fair, is_fair_open, is_fair_begin, is_fair_attach}
use Rattle.amqp_performatives.specs.Spelling.{IsPerformative}
use Rattle.amqp_decoder.specs.Opening.{Opens, NotOpened}
use Rattle.amqp_decoder.specs.Parts.{ReadsAll}
use Rattle.amqp_decoder.specs.ReadPerformatives.{open_type, begin_type, attach_type, flow_type, transfer_type, disposition_type, detach_type, end_type, close_type, IsDescribed, ReadsDescribed, ReadsFront}
use Rattle.amqp_decoder.specs.Slots.{LeavesDescribed, LeavesFront}
use Rattle.amqp_decoder.proofs.StateTypes.{apart}

pub none_transfer : (d : Datum) (from : Cursor) → IsDescriptor transfer_type d → ReadsAll transfer_fields (λ b. is_fair (Transfer b)) from None → (p : Performative) → IsDescribed d from p → ⊥
none_transfer d from is h (Open b) p = apart open_type transfer_type d refl p.1 is
none_transfer d from is h (Begin b) p = apart begin_type transfer_type d refl p.1 is
none_transfer d from is h (Attach b) p = apart attach_type transfer_type d refl p.1 is
none_transfer d from is h (Flow b) p = apart flow_type transfer_type d refl p.1 is
none_transfer d from is h (Transfer b) p = h b p.0 p.2
none_transfer d from is h (Disposition b) p = apart disposition_type transfer_type d refl p.1 is
none_transfer d from is h (Detach b) p = apart detach_type transfer_type d refl p.1 is
none_transfer d from is h (End b) p = apart end_type transfer_type d refl p.1 is
none_transfer d from is h (Close b) p = apart close_type transfer_type d refl p.1 is

pub none_flow : (d : Datum) (from : Cursor) → IsDescriptor flow_type d → ReadsAll flow_fields (λ b. is_fair (Flow b)) from None → (p : Performative) → IsDescribed d from p → ⊥
none_flow d from is h (Open b) p = apart open_type flow_type d refl p.1 is
none_flow d from is h (Begin b) p = apart begin_type flow_type d refl p.1 is
none_flow d from is h (Attach b) p = apart attach_type flow_type d refl p.1 is
none_flow d from is h (Flow b) p = h b p.0 p.2
none_flow d from is h (Transfer b) p = apart transfer_type flow_type d refl p.1 is
none_flow d from is h (Disposition b) p = apart disposition_type flow_type d refl p.1 is
none_flow d from is h (Detach b) p = apart detach_type flow_type d refl p.1 is
none_flow d from is h (End b) p = apart end_type flow_type d refl p.1 is
none_flow d from is h (Close b) p = apart close_type flow_type d refl p.1 is

pub none_disposition : (d : Datum) (from : Cursor) → IsDescriptor disposition_type d → ReadsAll disposition_fields (λ b. is_fair (Disposition b)) from None → (p : Performative) → IsDescribed d from p → ⊥
none_disposition d from is h (Open b) p = apart open_type disposition_type d refl p.1 is
none_disposition d from is h (Begin b) p = apart begin_type disposition_type d refl p.1 is
none_disposition d from is h (Attach b) p = apart attach_type disposition_type d refl p.1 is
none_disposition d from is h (Flow b) p = apart flow_type disposition_type d refl p.1 is
none_disposition d from is h (Transfer b) p = apart transfer_type disposition_type d refl p.1 is
none_disposition d from is h (Disposition b) p = h b p.0 p.2
none_disposition d from is h (Detach b) p = apart detach_type disposition_type d refl p.1 is
none_disposition d from is h (End b) p = apart end_type disposition_type d refl p.1 is
none_disposition d from is h (Close b) p = apart close_type disposition_type d refl p.1 is

pub none_open : (d : Datum) (from : Cursor) → IsDescriptor open_type d → ReadsAll open_fields (is_fair_open) from None → (p : Performative) → IsDescribed d from p → ⊥
none_open d from is h (Open b) p = h b p.0 p.2
none_open d from is h (Begin b) p = apart begin_type open_type d refl p.1 is
none_open d from is h (Attach b) p = apart attach_type open_type d refl p.1 is
none_open d from is h (Flow b) p = apart flow_type open_type d refl p.1 is
none_open d from is h (Transfer b) p = apart transfer_type open_type d refl p.1 is
none_open d from is h (Disposition b) p = apart disposition_type open_type d refl p.1 is
none_open d from is h (Detach b) p = apart detach_type open_type d refl p.1 is
none_open d from is h (End b) p = apart end_type open_type d refl p.1 is
none_open d from is h (Close b) p = apart close_type open_type d refl p.1 is

pub none_begin : (d : Datum) (from : Cursor) → IsDescriptor begin_type d → ReadsAll begin_fields (is_fair_begin) from None → (p : Performative) → IsDescribed d from p → ⊥
none_begin d from is h (Open b) p = apart open_type begin_type d refl p.1 is
none_begin d from is h (Begin b) p = h b p.0 p.2
none_begin d from is h (Attach b) p = apart attach_type begin_type d refl p.1 is
none_begin d from is h (Flow b) p = apart flow_type begin_type d refl p.1 is
none_begin d from is h (Transfer b) p = apart transfer_type begin_type d refl p.1 is
none_begin d from is h (Disposition b) p = apart disposition_type begin_type d refl p.1 is
none_begin d from is h (Detach b) p = apart detach_type begin_type d refl p.1 is
none_begin d from is h (End b) p = apart end_type begin_type d refl p.1 is
none_begin d from is h (Close b) p = apart close_type begin_type d refl p.1 is

pub none_attach : (d : Datum) (from : Cursor) → IsDescriptor attach_type d → ReadsAll attach_fields (is_fair_attach) from None → (p : Performative) → IsDescribed d from p → ⊥
none_attach d from is h (Open b) p = apart open_type attach_type d refl p.1 is
none_attach d from is h (Begin b) p = apart begin_type attach_type d refl p.1 is
none_attach d from is h (Attach b) p = h b p.0 p.2
none_attach d from is h (Flow b) p = apart flow_type attach_type d refl p.1 is
none_attach d from is h (Transfer b) p = apart transfer_type attach_type d refl p.1 is
none_attach d from is h (Disposition b) p = apart disposition_type attach_type d refl p.1 is
none_attach d from is h (Detach b) p = apart detach_type attach_type d refl p.1 is
none_attach d from is h (End b) p = apart end_type attach_type d refl p.1 is
none_attach d from is h (Close b) p = apart close_type attach_type d refl p.1 is

pub none_detach : (d : Datum) (from : Cursor) → IsDescriptor detach_type d → ReadsAll detach_fields (λ b. is_fair (Detach b)) from None → (p : Performative) → IsDescribed d from p → ⊥
none_detach d from is h (Open b) p = apart open_type detach_type d refl p.1 is
none_detach d from is h (Begin b) p = apart begin_type detach_type d refl p.1 is
none_detach d from is h (Attach b) p = apart attach_type detach_type d refl p.1 is
none_detach d from is h (Flow b) p = apart flow_type detach_type d refl p.1 is
none_detach d from is h (Transfer b) p = apart transfer_type detach_type d refl p.1 is
none_detach d from is h (Disposition b) p = apart disposition_type detach_type d refl p.1 is
none_detach d from is h (Detach b) p = h b p.0 p.2
none_detach d from is h (End b) p = apart end_type detach_type d refl p.1 is
none_detach d from is h (Close b) p = apart close_type detach_type d refl p.1 is

pub none_end : (d : Datum) (from : Cursor) → IsDescriptor end_type d → ReadsAll end_fields (λ b. is_fair (End b)) from None → (p : Performative) → IsDescribed d from p → ⊥
none_end d from is h (Open b) p = apart open_type end_type d refl p.1 is
none_end d from is h (Begin b) p = apart begin_type end_type d refl p.1 is
none_end d from is h (Attach b) p = apart attach_type end_type d refl p.1 is
none_end d from is h (Flow b) p = apart flow_type end_type d refl p.1 is
none_end d from is h (Transfer b) p = apart transfer_type end_type d refl p.1 is
none_end d from is h (Disposition b) p = apart disposition_type end_type d refl p.1 is
none_end d from is h (Detach b) p = apart detach_type end_type d refl p.1 is
none_end d from is h (End b) p = h b p.0 p.2
none_end d from is h (Close b) p = apart close_type end_type d refl p.1 is

pub none_close : (d : Datum) (from : Cursor) → IsDescriptor close_type d → ReadsAll close_fields (λ b. is_fair (Close b)) from None → (p : Performative) → IsDescribed d from p → ⊥
none_close d from is h (Open b) p = apart open_type close_type d refl p.1 is
none_close d from is h (Begin b) p = apart begin_type close_type d refl p.1 is
none_close d from is h (Attach b) p = apart attach_type close_type d refl p.1 is
none_close d from is h (Flow b) p = apart flow_type close_type d refl p.1 is
none_close d from is h (Transfer b) p = apart transfer_type close_type d refl p.1 is
none_close d from is h (Disposition b) p = apart disposition_type close_type d refl p.1 is
none_close d from is h (Detach b) p = apart detach_type close_type d refl p.1 is
none_close d from is h (End b) p = apart end_type close_type d refl p.1 is
none_close d from is h (Close b) p = h b p.0 p.2

pub unnamed : (d : Datum) (from : Cursor) → (IsDescriptor open_type d → ⊥) → (IsDescriptor begin_type d → ⊥) → (IsDescriptor attach_type d → ⊥) → (IsDescriptor flow_type d → ⊥) → (IsDescriptor transfer_type d → ⊥) → (IsDescriptor disposition_type d → ⊥) → (IsDescriptor detach_type d → ⊥) → (IsDescriptor end_type d → ⊥) → (IsDescriptor close_type d → ⊥) → (p : Performative) → IsDescribed d from p → ⊥
unnamed d from o b a f t s d2 e c2 (Open x) p = o p.1
unnamed d from o b a f t s d2 e c2 (Begin x) p = b p.1
unnamed d from o b a f t s d2 e c2 (Attach x) p = a p.1
unnamed d from o b a f t s d2 e c2 (Flow x) p = f p.1
unnamed d from o b a f t s d2 e c2 (Transfer x) p = t p.1
unnamed d from o b a f t s d2 e c2 (Disposition x) p = s p.1
unnamed d from o b a f t s d2 e c2 (Detach x) p = d2 p.1
unnamed d from o b a f t s d2 e c2 (End x) p = e p.1
unnamed d from o b a f t s d2 e c2 (Close x) p = c2 p.1

-- ---- in front of octets

abbrev OpensFront : List ℕ → Datum → Cursor → ℕ → Type 0
OpensFront os d from used = Opens 32 os d from.depth from.left from.octets.now used

is_front : (os : List ℕ) (d : Datum) (from : Cursor) (used : ℕ) → OpensFront os d from used → (p : Performative) → IsDescribed d from p → IsPerformative p (take used os)
is_front os d from used o p h = let s = o.found (descriptor_of p) (fields_of p) h.1 h.2 in record { fair = h.0; datum = s.datum; fits = s.fits; spelled = s.spelled }

pub front_found : (os : List ℕ) (d : Datum) (from : Cursor) (used : ℕ) → OpensFront os d from used → (p : Performative) → IsDescribed d from p → (used ≤ length os) × IsPerformative p (take used os)
front_found os d from used o p h = (o.within, is_front os d from used o p h)

from_front : (os : List ℕ) (d : Datum) (from : Cursor) (used : ℕ) → OpensFront os d from used → (p : Performative) (x rest : List ℕ) → IsPerformative p x → os ≡ x ++ rest → IsDescribed d from p
from_front os d from used o p x rest i e =
    let h = o.only (descriptor_of p) (fields_of p) x rest (record { datum = i.datum; fits = i.fits; spelled = i.spelled }) e in
    (i.fair, h.0, h.1)

pub front_fault : (os : List ℕ) (d : Datum) (from : Cursor) (used : ℕ) (fault : BodyFault) → OpensFront os d from used → ReadsDescribed d from (Err fault) → ReadsFront os (Err fault)
front_fault os d from used NoBody o h = λ p x rest i e. h p (from_front os d from used o p x rest i e)
front_fault os d from used NoMemory o h = (h.0, take used os, drop used os, is_front os d from used o h.0 h.1, sym (take-append-drop used os))

pub front_missing : (os : List ℕ) → NotOpened 32 os → ReadsFront os (Err NoBody)
front_missing os m = λ p x rest i e. m (descriptor_of p) (fields_of p) x rest (record { datum = i.datum; fits = i.fits; spelled = i.spelled }) e

pub front_left : (os : List ℕ) (d : Datum) (from : Cursor) (used : ℕ) → OpensFront os d from used → (u : Unit {0}) (slot : Option Performative) → LeavesDescribed d from (Ok u) slot → LeavesFront os (Ok used) slot
front_left os d from used o u (Some p) h = front_found os d from used o p h
front_left os d from used o u None h = h
