-- Messages that are put back one after another, the last one first; lists that are walked to their end.
use Rattle.std.proofs.Common.{◌≡◌, ◌++◌, Bool, List, [], ◌∷◌, refl, ap, sym, ◌∙◌, arith, length, filter}
use Rattle.std.proofs.lemmas.List.{append-nil}
use Rattle.amqp_policy.specs.Queues.{QueuesView, after_put_back}
use Rattle.amqp_serve.specs.declared.returning.Sending.{Sending}
use Rattle.amqp_serve.specs.Returning.{restored}

pub restored_last : (ss : List Sending) (s : Sending) (v : QueuesView) → restored (ss ++ s ∷ []) v ≡ restored ss (after_put_back s.place s.message v)
unfolding restored
restored_last [] s v = refl
restored_last (x ∷ ss) s v = ap (λ w. after_put_back x.place x.message w) (restored_last ss s v)

pub none_left : {A : Type 0} (xs : List A) → length xs ≡ 0 → xs ≡ []
none_left [] e = refl
none_left (x ∷ xs) e = grind arith

pub all_walked : {A : Type 0} (p : A → Bool) (xs done r : List A) → xs ≡ [] → done ++ filter p xs ≡ r → done ≡ r
all_walked p [] done r e h = sym (append-nil done) ∙ h
all_walked p (x ∷ xs) done r e h = grind arith

pub all_restored : (ss : List Sending) (v w : QueuesView) → ss ≡ [] → restored ss v ≡ w → v ≡ w
unfolding restored
all_restored [] v w e h = h
all_restored (s ∷ ss) v w e h = grind arith
