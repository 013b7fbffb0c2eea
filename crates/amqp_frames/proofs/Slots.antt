-- What is behind a performative that a slot has, in octets that are a part of others.
use Rattle.std.proofs.Common.{◌≡◌, ◌≢◌, ◌≤◌, ◌<◌, ◌+◌, ◌-◌, inl, ℕ, true, false, ◌==◌, Option, Some, None, List, ◌++◌, length, take, drop, sym, ap, ◌∙◌, arith}
use Rattle.std.specs.Prelude.{Ok}
use Rattle.amqp_performatives.specs.declared.performative.Performative.{Performative}
use Rattle.amqp_decoder.specs.Slots.{LeavesFront}
use Rattle.amqp_frames.specs.Framing.{AreContents}
use Rattle.amqp_frames.specs.Slots.{holds_transfer}
use Rattle.std.proofs.lemmas.Bool.{ne_eqb}
use Rattle.std.proofs.lemmas.List.{take-append-drop, length-take-le, length-drop, drop-drop, drop-take}
use Rattle.amqp_frames.proofs.Performatives.{bad_rest, refused_payload}

pub bad_slot : (body : Option Performative) (x : List ℕ) (size : ℕ) → LeavesFront x (Ok size) body → false ≡ holds_transfer body → false ≡ (length (take (length x - size) (drop size x)) == 0) → (o : Option Performative) (payload : List ℕ) → AreContents o payload x → ⊥
bad_slot (Some p) x size h t n = bad_rest p x size h.1 t n
bad_slot None x size h t n = absurd h

pub refused_slot : (body : Option Performative) (x : List ℕ) (size : ℕ) → LeavesFront x (Ok size) body → true ≡ holds_transfer body → (o : Option Performative) × (payload : List ℕ) × AreContents o payload x
refused_slot (Some p) x size h t = refused_payload p x size h.1 t
refused_slot None x size h t = absurd h

-- the payload stands behind a transfer
pub with_slot : (body : Option Performative) (x payload : List ℕ) (size : ℕ) → LeavesFront x (Ok size) body → true ≡ holds_transfer body → payload ≡ drop size x → AreContents body payload x
with_slot (Some p) x payload size h t e = (take size x, h.1, inl (sym t), sym (take-append-drop size x) ∙ ap (λ y. take size x ++ y) (sym e))
with_slot None x payload size h t e = absurd h

-- ---- a part of octets

part_length : (s : List ℕ) (start end : ℕ) → start ≤ end → end ≤ length s → length (take (end - start) (drop start s)) ≡ end - start
part_length s start end h k = length-take-le (end - start) (drop start s) (omega (arith, length-drop start s))

over : (x : List ℕ) (size : ℕ) → size < length x → false ≡ (length (take (length x - size) (drop size x)) == 0)
over x size h = sym (ne_eqb _ _ (λ e. omega (arith, e, length-take-le (length x - size) (drop size x) (omega (arith, length-drop size x)))))

pub left_over : (s : List ℕ) (start end size : ℕ) → start ≤ end → end ≤ length s → size ≤ end - start → start + size ≢ end
    → false ≡ (length (take (length (take (end - start) (drop start s)) - size) (drop size (take (end - start) (drop start s)))) == 0)
left_over s start end size h k l n =
    let apart : size ≢ end - start = λ e. n (omega (arith, e)) in
    over (take (end - start) (drop start s)) size (omega (arith, part_length s start end h k, apart))

pub sliced : (s : List ℕ) (start end size : ℕ) → start ≤ end → size ≤ end - start → take (end - (start + size)) (drop (start + size) s) ≡ drop size (take (end - start) (drop start s))
sliced s start end size h l =
    let n = end - (start + size) in
    let e : end - start ≡ size + n = omega arith in
    ap (take n) (sym (drop-drop size start s)) ∙ sym (drop-take size n (drop start s)) ∙ ap (λ k. drop size (take k (drop start s))) (sym e)
