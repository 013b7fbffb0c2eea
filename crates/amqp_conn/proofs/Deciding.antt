-- Octets make one thing of a connection.
use Rattle.std.proofs.Common.{◌≡◌, ◌<◌, ◌+◌, ℕ, zero, suc, List, [], ◌∷◌, ◌++◌, length, IsTrue, true, false, refl, sym, ap, ◌∙◌, subst, inl, inr, ⊎_elim, arith, length-append}
use Rattle.amqp_frames.specs.declared.fault.FrameFault.{FrameFault}
use Rattle.amqp_frames.specs.declared.frame.Frame.{Frame}
use Rattle.amqp_frames.specs.Framing.{IsFrame, IsUnfinished, Shows}
use Rattle.amqp_frames.proofs.Streams.{one_front, frame_shows, frame_unfinished, unfinished_shows, one_fault}
use Rattle.amqp_conn.specs.declared.phase.Phase.{Phase}
use Rattle.amqp_conn.specs.declared.phase.Phase.TheVariants as phase
use Rattle.amqp_conn.specs.declared.fault.ConnFault.TheVariants as fault
use Rattle.amqp_conn.specs.Connection.{Connection, connection, more, reads_frames, HasRead, IsQuiet}
use Rattle.amqp_conn.specs.Treating.{treat, after, greeted, ending, TakesHeader, TakesFrame, TakesFault, Moves}
use Rattle.amqp_conn.specs.Feeding.{MovesTimes, kept_in, trimmed, IsFed}

-- octets are at most one frame
abbrev pub OneFrame : Type 0
OneFrame = (f g : Frame) (x : List ℕ) → IsFrame f x → IsFrame g x → f ≡ g

-- two fronts of one length
pub same-front : (x y a b : List ℕ) → length x ≡ length y → x ++ a ≡ y ++ b → (x ≡ y) × (a ≡ b)
same-front [] [] a b n e = (refl, e)
same-front [] (t ∷ y) a b n e = absurd (omega (arith, n))
same-front (s ∷ x) [] a b n e = absurd (omega (arith, n))
same-front (s ∷ x) (t ∷ y) a b n e =
    let here : s ≡ t = cc in
    let rest : x ++ a ≡ y ++ b = cc in
    let k = same-front x y a b (omega (arith, n)) rest in
    (λ i. here i ∷ k.0 i, k.1)

awaits-no-frame : (p : Phase) → p ≡ phase.AwaitHeader → IsTrue (reads_frames p) → ⊥
awaits-no-frame p e r = let b : false ≡ true = sym (ap reads_frames e) ∙ r in absurd cc

headers-same : (c d e : Connection) → TakesHeader c d → TakesHeader c e → d ≡ e
headers-same c d e h k =
    let s = same-front h.front k.front h.back k.back (h.eight ∙ sym k.eight) (sym h.split ∙ k.split) in
    ⊎_elim
    (λ p.
    ⊎_elim
    (λ q. p.1 ∙ ap (connection (greeted c.core)) s.1 ∙ sym q.1)
    (λ q. absurd (q.0 (sym s.0 ∙ p.0)))
    k.does)
    (λ p.
    ⊎_elim
    (λ q. absurd (p.0 (s.0 ∙ q.0)))
    (λ q. p.1 ∙ ap (connection (ending fault.BadHeader c.core)) s.1 ∙ sym q.1)
    k.does)
    h.does

frames-same : OneFrame → (c d e : Connection) → TakesFrame c d → TakesFrame c e → d ≡ e
frames-same one c d e h k =
    let same : h.front ++ h.back ≡ k.front ++ k.back = sym h.has.split ∙ k.has.split in
    let front : h.front ≡ k.front = one_front h.f k.f h.front k.front h.back k.back h.has.framed k.has.framed same in
    let back : h.back ≡ k.back = (same-front h.front k.front h.back k.back (ap length front) same).1 in
    let f : h.f ≡ k.f = one h.f k.f h.front h.has.framed (subst (λ (x : List ℕ). IsFrame k.f x) (sym front) k.has.framed) in
    h.does ∙ (λ i. after c.core c.unread (back i) (treat c.core (f i))) ∙ sym k.does

frame-no-fault : (c d e : Connection) → TakesFrame c d → TakesFault c e → ⊥
frame-no-fault c d e h k =
    frame_shows k.e h.f c.core.config.max_frame h.front h.back h.has.framed h.has.small (subst (λ (x : List ℕ). Shows k.e c.core.config.max_frame x) h.has.split k.shown)

faults-same : (c d e : Connection) → TakesFault c d → TakesFault c e → d ≡ e
faults-same c d e h k =
    let same : h.e ≡ k.e = one_fault h.e k.e c.core.config.max_frame c.unread h.shown k.shown in
    h.does ∙ ap (λ (f : FrameFault). connection (ending (fault.Framing f) c.core) c.unread) same ∙ sym k.does

pub one-move : OneFrame → (c d e : Connection) → Moves c d → Moves c e → d ≡ e
one-move one c d e (inl h) (inl k) = headers-same c d e h k
one-move one c d e (inl h) (inr (inl k)) = absurd (awaits-no-frame c.core.phase h.phase k.has.reads)
one-move one c d e (inl h) (inr (inr k)) = absurd (awaits-no-frame c.core.phase h.phase k.reads)
one-move one c d e (inr (inl h)) (inl k) = absurd (awaits-no-frame c.core.phase k.phase h.has.reads)
one-move one c d e (inr (inl h)) (inr (inl k)) = frames-same one c d e h k
one-move one c d e (inr (inl h)) (inr (inr k)) = absurd (frame-no-fault c d e h k)
one-move one c d e (inr (inr h)) (inl k) = absurd (awaits-no-frame c.core.phase k.phase h.reads)
one-move one c d e (inr (inr h)) (inr (inl k)) = absurd (frame-no-fault c e d k h)
one-move one c d e (inr (inr h)) (inr (inr k)) = faults-same c d e h k

-- ---- what is quiet

reading : (p : Phase) (max : ℕ) (x : List ℕ) → IsTrue (reads_frames p) → HasRead p max (kept_in p x) → IsUnfinished max x
reading phase.AwaitHeader max x r h = absurd cc
reading phase.AwaitOpen max x r h = h
reading phase.Running max x r h = h
reading phase.Closing max x r h = h
reading phase.Closed max x r h = absurd cc

pub still : (c d : Connection) → IsQuiet (trimmed c) → Moves c d → ⊥
still c d q (inl h) =
    let short : length c.unread < 8 = subst (λ (p : Phase). HasRead p c.core.config.max_frame (kept_in p c.unread)) h.phase q in
    let eight : length h.front ≡ 8 = h.eight in
    let n : length c.unread ≡ length h.front + length h.back = ap length h.split ∙ length-append h.front h.back in
    omega (arith, short, n, eight)
still c d q (inr (inl h)) =
    let u = reading c.core.phase c.core.config.max_frame c.unread h.has.reads q in
    frame_unfinished h.f c.core.config.max_frame h.front h.back h.has.framed (subst (λ (x : List ℕ). IsUnfinished c.core.config.max_frame x) h.has.split u)
still c d q (inr (inr h)) =
    unfinished_shows h.e c.core.config.max_frame c.unread (reading c.core.phase c.core.config.max_frame c.unread h.reads q) h.shown

abbrev IsStill : Connection → Type 0
IsStill c = (d : Connection) → Moves c d → ⊥

one-last : OneFrame → (n k : ℕ) (c d e : Connection) → MovesTimes n c d → IsStill d → MovesTimes k c e → IsStill e → d ≡ e
one-last one zero zero c d e p s q t = sym p ∙ q
one-last one zero (suc k) c d e p s (m, move, rest) t = absurd (s m (subst (λ (x : Connection). Moves x m) p move))
one-last one (suc n) zero c d e (m, move, rest) s q t = absurd (t m (subst (λ (x : Connection). Moves x m) q move))
one-last one (suc n) (suc k) c d e (m, move, rest) s (l, other, others) t =
    let same : m ≡ l = one-move one c m l move other in
    one-last one n k m d e rest s (subst (λ (x : Connection). MovesTimes k x e) (sym same) others) t

fed-still : (c d : Connection) (x : List ℕ) (p : IsFed c x d) → IsStill p.last
fed-still c d x p = λ m move. still p.last m (subst (λ (y : Connection). IsQuiet y) p.is p.quiet) move

pub one : (c d e : Connection) (x : List ℕ) → OneFrame → IsFed c x d → IsFed c x e → d ≡ e
one c d e x frame p q =
    let last : p.last ≡ q.last = one-last frame p.times q.times (more x c) p.last q.last p.moved (fed-still c d x p) q.moved (fed-still c e x q) in
    p.is ∙ ap trimmed last ∙ sym q.is
