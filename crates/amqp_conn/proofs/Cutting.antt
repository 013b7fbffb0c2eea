-- However a stream is cut.
use Rattle.std.proofs.Common.{◌≡◌, ℕ, zero, suc, List, [], ◌++◌, IsTrue, Bool, true, false, refl, sym, ap, ◌∙◌, subst, inl, inr, ◌⊎◌, ⊎_elim, append_assoc, append-nil}
use Rattle.amqp_conn.specs.declared.phase.Phase.{Phase}
use Rattle.amqp_conn.specs.declared.phase.Phase.TheVariants as phase
use Rattle.amqp_conn.specs.Connection.{Core, Connection, connection, more, reads_frames, HasRead, IsQuiet}
use Rattle.amqp_conn.specs.Treating.{Moves}
use Rattle.amqp_conn.specs.Feeding.{MovesTimes, kept_in, trimmed, IsFed}
use Rattle.amqp_conn.proofs.Appended.{times-more, times-join, both}

abbrev pub is_closed : Phase → Bool
is_closed phase.AwaitHeader = false
is_closed phase.AwaitOpen = false
is_closed phase.Running = false
is_closed phase.Closing = false
is_closed phase.Closed = true

pub closed-or-kept : (p : Phase) → (p ≡ phase.Closed) ⊎ ((x : List ℕ) → kept_in p x ≡ x)
closed-or-kept phase.AwaitHeader = inr (λ x. refl)
closed-or-kept phase.AwaitOpen = inr (λ x. refl)
closed-or-kept phase.Running = inr (λ x. refl)
closed-or-kept phase.Closing = inr (λ x. refl)
closed-or-kept phase.Closed = inl refl

pub not-closed : phase.AwaitHeader ≡ phase.Closed → ⊥
not-closed e = let b : false ≡ true = ap is_closed e in absurd cc

pub closed-reads : (p : Phase) → p ≡ phase.Closed → IsTrue (reads_frames p) → ⊥
closed-reads p e r = let b : false ≡ true = sym (ap reads_frames e) ∙ r in absurd cc

pub closed-stuck : (c d : Connection) → c.core.phase ≡ phase.Closed → Moves c d → ⊥
closed-stuck c d e (inl h) = not-closed (sym h.phase ∙ e)
closed-stuck c d e (inr (inl h)) = closed-reads c.core.phase e h.has.reads
closed-stuck c d e (inr (inr h)) = closed-reads c.core.phase e h.reads

pub closed-times : (n : ℕ) (c d : Connection) → c.core.phase ≡ phase.Closed → MovesTimes n c d → c ≡ d
closed-times zero c d e same = same
closed-times (suc n) c d e (m, one, rest) = absurd (closed-stuck c m e one)

closed-kept : (p : Phase) (x y : List ℕ) → p ≡ phase.Closed → kept_in p x ≡ kept_in p y
closed-kept p x y e = ap (λ q. kept_in q x) e ∙ sym (ap (λ q. kept_in q y) e)

pub closed-trimmed : (k : Core) (x y : List ℕ) → k.phase ≡ phase.Closed → trimmed (record { core = k; unread = x }) ≡ trimmed (record { core = k; unread = y })
closed-trimmed k x y e = ap (λ (z : List ℕ). connection k z) (closed-kept k.phase x y e)

pub open-trimmed : (c : Connection) → ((x : List ℕ) → kept_in c.core.phase x ≡ x) → trimmed c ≡ c
open-trimmed c k = ap (λ (z : List ℕ). connection c.core z) (k c.unread)

pub more-more : (c : Connection) (x y : List ℕ) → more y (more x c) ≡ more (x ++ y) c
more-more c x y = ap (λ (z : List ℕ). connection c.core z) (append_assoc c.unread x y)

pub cut : (c d e : Connection) (x y : List ℕ) → IsFed c x d → IsFed d y e → IsFed c (x ++ y) e
cut c d e x y p q = ⊎_elim closed open' (closed-or-kept p.last.core.phase)
  where
    moved : MovesTimes p.times (more (x ++ y) c) (more y p.last)
    moved = subst (λ (m : Connection). MovesTimes p.times m (more y p.last)) (more-more c x y) (times-more y p.times (more x c) p.last p.moved)

    closed : p.last.core.phase ≡ phase.Closed → IsFed c (x ++ y) e
    closed h =
        let here : (more y d).core.phase ≡ phase.Closed = ap (λ (m : Connection). m.core.phase) p.is ∙ h in
        let stays : more y d ≡ q.last = closed-times q.times (more y d) q.last here q.moved in
        let same : trimmed (more y d) ≡ trimmed (more y p.last) = ap (λ (m : Connection). trimmed (more y m)) p.is ∙ closed-trimmed p.last.core (kept_in p.last.core.phase p.last.unread ++ y) (p.last.unread ++ y) h in
        record { times = p.times; last = more y p.last; moved = moved; is = q.is ∙ sym (ap trimmed stays) ∙ same; quiet = q.quiet }

    open' : ((z : List ℕ) → kept_in p.last.core.phase z ≡ z) → IsFed c (x ++ y) e
    open' k =
        let same : d ≡ p.last = p.is ∙ open-trimmed p.last k in
        let on : MovesTimes q.times (more y p.last) q.last = subst (λ (m : Connection). MovesTimes q.times (more y m) q.last) same q.moved in
        record { times = both p.times q.times; last = q.last; moved = times-join p.times q.times (more (x ++ y) c) (more y p.last) q.last moved on; is = q.is; quiet = q.quiet }

more-none : (c : Connection) → c ≡ more [] c
more-none c = ap (λ (z : List ℕ). connection c.core z) (sym (append-nil c.unread))

-- of no octets
pub none : (c : Connection) → IsQuiet c → IsFed c [] c
none c q = record { times = 0; last = c; moved = sym (more-none c); is = ⊎_elim closed (λ k. sym (open-trimmed c k)) (closed-or-kept c.core.phase); quiet = q }
  where
    closed : c.core.phase ≡ phase.Closed → c ≡ trimmed c
    closed e =
        let empty : c.unread ≡ [] = subst (λ (p : Phase). HasRead p c.core.config.max_frame c.unread) e q in
        let gone : kept_in c.core.phase c.unread ≡ [] = ap (λ p. kept_in p c.unread) e in
        ap (connection c.core) (empty ∙ sym gone)
