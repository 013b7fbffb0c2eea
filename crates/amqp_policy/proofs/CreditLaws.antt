-- What may come, what came and what was taken never exceed what is asked for.
use Rattle.std.proofs.Common.{◌≡◌, ℕ, ◌-◌, ◌≤◌, ◌<◌, Bool, true, false, cond, Some, None, List, [], ◌∷◌, refl, arith}
use Rattle.std.specs.Prelude.{nat_lt, nat_le, ◌&&◌}
use Rattle.std.proofs.lemmas.Bool.{ltb-true}
use Rattle.amqp_policy.specs.Credit.{room, least, Receiving, ReceivingStep, Grants, Begins, Completes, Aborts, Takes, GivesUp, with_credit, with_one_begun, with_one_ready, with_one_taken, with_incoming, after_step, after_steps, all_of}

granted : (asked most : ℕ) (s : Receiving) (test : Bool) → all_of s ≤ asked
    → all_of (with_incoming s (with_credit (cond test (Some (room (asked - s.taken) s.incoming most)) None) s.incoming)) ≤ asked
granted asked most s true h = omega arith
granted asked most s false h = h

begins : (asked : ℕ) (s : Receiving) (test : Bool) → nat_lt 0 s.incoming.credit ≡ test → all_of s ≤ asked
    → all_of (cond test (with_incoming s (with_one_begun s.incoming)) s) ≤ asked
begins asked s true t h = let some : 0 < s.incoming.credit = ltb-true _ _ t in omega arith
begins asked s false t h = h

completes : (asked : ℕ) (s : Receiving) (test : Bool) → nat_lt 0 s.incoming.begun ≡ test → all_of s ≤ asked
    → all_of (cond test (with_incoming s (with_one_ready s.incoming)) s) ≤ asked
completes asked s true t h = let some : 0 < s.incoming.begun = ltb-true _ _ t in omega arith
completes asked s false t h = h

takes : (asked : ℕ) (s : Receiving) (test : Bool) → nat_lt 0 s.incoming.ready ≡ test → all_of s ≤ asked
    → all_of (cond test (with_one_taken s) s) ≤ asked
takes asked s true t h = let some : 0 < s.incoming.ready = ltb-true _ _ t in omega arith
takes asked s false t h = h

step : (asked : ℕ) (e : ReceivingStep) (s : Receiving) → all_of s ≤ asked → all_of (after_step asked e s) ≤ asked
step asked (Grants most renewal) s h =
    granted asked most s (nat_le s.incoming.credit (least renewal most) && nat_lt s.incoming.credit (room (asked - s.taken) s.incoming most)) h
step asked Begins s h = begins asked s (nat_lt 0 s.incoming.credit) refl h
step asked Completes s h = completes asked s (nat_lt 0 s.incoming.begun) refl h
step asked Aborts s h = omega arith
step asked Takes s h = takes asked s (nat_lt 0 s.incoming.ready) refl h
step asked GivesUp s h = omega arith

pub all_within : (asked : ℕ) (steps : List ReceivingStep) → all_of (after_steps asked steps) ≤ asked
all_within asked [] = omega arith
all_within asked (e ∷ before) = step asked e (after_steps asked before) (all_within asked before)
