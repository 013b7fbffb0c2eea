-- Units that were popped come behind what was left.
use Rattle.std.proofs.Common.{◌≡◌, ◌≤◌, ◌+◌, ℕ, zero, suc, List, [], ◌∷◌, ◌++◌, length, take, drop, Some, refl, sym, ap, ◌∙◌, subst, arith, append_assoc, append-nil}
use Rattle.std.specs.List.{slice_get}
use Rattle.std.proofs.lemmas.List.{drop-append-le}
use Rattle.amqp_journal.specs.Units.{units}
use Rattle.amqp_conn.specs.Connection.{Connection}
use Rattle.amqp_conn.specs.Calling.{popped}
use Rattle.amqp_conn.specs.Pumping.{joined}
use Rattle.amqp_ready.specs.Gathering.{gone, to_come, Gathers}

taken-one : (us : List (List ℕ)) (n : ℕ) (x : List ℕ) → slice_get us n ≡ Some x → joined (take (n + 1) us) ≡ joined (take n us) ++ x
taken-one us n x e = let k : n + 1 ≡ suc n = omega arith in ap (λ m. joined (take m us)) k ∙ by us n e
  where
    by : (vs : List (List ℕ)) (i : ℕ) → slice_get vs i ≡ Some x → joined (take (suc i) vs) ≡ joined (take i vs) ++ x
    by [] i h = absurd cc
    by (v ∷ vs) zero h = let same : v ≡ x = cc in append-nil v ∙ same
    by (v ∷ vs) (suc i) h = ap (λ y. v ++ y) (by vs i h) ∙ sym (append_assoc v (joined (take i vs)) x)

left-one : (us : List (List ℕ)) (n : ℕ) (x : List ℕ) → slice_get us n ≡ Some x → joined (drop n us) ≡ x ++ joined (drop (n + 1) us)
left-one us n x e = let k : n + 1 ≡ suc n = omega arith in by us n e ∙ ap (λ m. x ++ joined (drop m us)) (sym k)
  where
    by : (vs : List (List ℕ)) (i : ℕ) → slice_get vs i ≡ Some x → joined (drop i vs) ≡ x ++ joined (drop (suc i) vs)
    by [] i h = absurd cc
    by (v ∷ vs) zero h = let same : v ≡ x = cc in ap (λ y. y ++ joined vs) same
    by (v ∷ vs) (suc i) h = by vs i h

gathers-unit : (left x : List ℕ) (c : Connection) → slice_get (units c.core.log) c.core.log.popped ≡ Some x → Gathers left c (left ++ x) (popped c)
unfolding gone
gathers-unit left x c e =
    record {
      more = x;
      popped = taken-one (units c.core.log) c.core.log.popped x e;
      behind = refl;
      none_lost = append_assoc left x (to_come (popped c)) ∙ ap (λ y. left ++ y) (sym (left-one (units c.core.log) c.core.log.popped x e));
    }

-- the unit in front was popped, and its octets put behind
pub gathers-one : (left left' x : List ℕ) (c d : Connection) → slice_get (units c.core.log) c.core.log.popped ≡ Some x → d ≡ popped c → left' ≡ left ++ x → Gathers left c left' d
gathers-one left left' x c d e p b =
    subst (λ (y : List ℕ). Gathers left c y d) (sym b) (subst (λ (y : Connection). Gathers left c (left ++ x) y) (sym p) (gathers-unit left x c e))

-- what is left has more octets behind: copied, or from where they stand
pub copied-behind : (sent : ℕ) (short short' long x left : List ℕ) → sent ≤ length short → drop sent short ++ long ≡ left → long ≡ [] → short' ≡ short ++ x → drop sent short' ++ long ≡ left ++ x
copied-behind sent short short' long x left within view none same =
    ap (λ y. drop sent short' ++ y) none
    ∙ append-nil (drop sent short')
    ∙ ap (drop sent) same
    ∙ drop-append-le sent short x within
    ∙ ap (λ y. y ++ x) (sym (append-nil (drop sent short)) ∙ ap (λ y. drop sent short ++ y) (sym none) ∙ view)

pub long-behind : (sent : ℕ) (short short' long x left : List ℕ) → drop sent short ++ long ≡ left → long ≡ [] → short' ≡ short → drop sent short' ++ x ≡ left ++ x
long-behind sent short short' long x left view none same =
    ap (λ y. drop sent y ++ x) same ∙ ap (λ y. y ++ x) (sym (append-nil (drop sent short)) ∙ ap (λ y. drop sent short ++ y) (sym none) ∙ view)

-- what is left has more octets behind: a front of them copied, and the others from where they stand
pub head-behind : (sent : ℕ) (short still copied long more rest x left : List ℕ) → sent ≤ length short → drop sent short ++ long ≡ left → long ≡ [] → still ≡ short → copied ≡ still ++ more → more ++ rest ≡ x → drop sent copied ++ rest ≡ left ++ x
head-behind sent short still copied long more rest x left within view none same new all =
    let inside : sent ≤ length still = omega (arith, ap length same, within) in
    ap (λ y. drop sent y ++ rest) new
    ∙ ap (λ y. y ++ rest) (drop-append-le sent still more inside)
    ∙ append_assoc (drop sent still) more rest
    ∙ ap (λ y. drop sent still ++ y) all
    ∙ long-behind sent short still long x left view none same

pub both-none : (long last : List ℕ) → long ≡ [] → last ≡ [] → long ++ last ≡ []
both-none long last e f = ap (λ x. x ++ last) e ∙ f
