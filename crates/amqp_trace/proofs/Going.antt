-- Texts that go on from others.
use Rattle.std.proofs.Common.{◌≡◌, ℕ, List, ◌++◌, [], append_assoc, ap, ◌∙◌, sym}
use Rattle.std.proofs.lemmas.List.{append-nil}
use Rattle.amqp_trace.specs.Printed.{Continues}

pub stays : (a : List ℕ) → Continues a a
stays a = record { more = []; is = sym (append-nil a) }

pub goes_on : {a b : List ℕ} (t : List ℕ) → b ≡ a ++ t → Continues a b
goes_on t e = record { more = t; is = e }

pub goes_far : {a b c : List ℕ} → Continues a b → Continues b c → Continues a c
goes_far {a} p q = record { more = p.more ++ q.more; is = q.is ∙ ap (λ (x : List ℕ). x ++ q.more) p.is ∙ append_assoc a p.more q.more }

-- what is put twice
pub put_two : (a b c x y : List ℕ) → b ≡ a ++ x → c ≡ b ++ y → c ≡ a ++ (x ++ y)
put_two a b c x y e f = rw (f, e) (append_assoc a x y)
