-- How many octets a field without parts takes.
use Rattle.std.proofs.Common.{◌≡◌, ◌≢◌, ℕ, ◌-◌, ◌^◌, ◌≤◌, Bool, true, false, cond, List, [], ◌∷◌, length, Option, Some, None, refl, sym, ap, ◌∙◌, arith}
use Rattle.std.specs.Prelude.{option_map}
use Rattle.amqp_types.specs.declared.class.Kind.{Kind}
use Rattle.amqp_types.specs.Datum.{Datum, number, depth_of}
use Rattle.amqp_types.specs.Canon.{part_form, canon, capped}
use Rattle.amqp_types.proofs.Canonical.{canon_is}
use Rattle.amqp_frames.specs.Field.{form_within}
use Rattle.amqp_frames.proofs.Fields.{leaf_within}
use Rattle.amqp_frames.proofs.Leaves.{true_form, false_form}

pub form_size : (depth : ℕ) (d : Datum) (form : Option (List ℕ)) → depth_of d ≡ 1 → depth ≢ 0 → part_form None d ≡ form → capped form ≡ capped (form_within depth d)
form_size depth d form one deep e = ap capped (sym e ∙ sym (leaf_within depth d one deep))

pub boolean_size : (depth : ℕ) (b : Bool) → depth ≢ 0 → Some 1 ≡ capped (form_within depth (number Kind.Bool (cond b 1 0)))
boolean_size depth true deep = form_size depth (number Kind.Bool 1) (Some (0x41 ∷ [])) refl deep true_form
boolean_size depth false deep = form_size depth (number Kind.Bool 0) (Some (0x42 ∷ [])) refl deep false_form

capped_length : (n : ℕ) (o : Option (List ℕ)) → n ≤ 2 ^ 64 - 1 → Some n ≡ option_map (λ x. length x) o → Some n ≡ capped o
capped_length n (Some x) le e = let m : n ≡ length x = cc in ap (λ (k : ℕ). let o : Option ℕ = Some k in o) (omega (arith, m, le))
capped_length n None le e = absurd cc

pub number_size : (depth : ℕ) (k : Kind) (m n : ℕ) → depth ≢ 0 → n ≤ 2 ^ 64 - 1 → Some n ≡ option_map (λ x. length x) (canon (number k m)) → Some n ≡ capped (form_within depth (number k m))
number_size depth k m n deep le e = capped_length n (canon (number k m)) le e ∙ ap capped (canon_is (number k m) (omega arith) ∙ sym (leaf_within depth (number k m) refl deep))
