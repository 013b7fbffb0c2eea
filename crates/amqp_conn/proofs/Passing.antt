-- Octets that show no fault, and of which a feed takes one thing at most.
use Rattle.std.proofs.Common.{◌≡◌, ◌≤◌, ◌<◌, ◌+◌, ℕ, List, [], ◌++◌, length, IsTrue, true, false, sym, ap, ◌∙◌, subst, append-nil}
use Rattle.amqp_frames.specs.declared.frame.Frame.{Frame}
use Rattle.amqp_frames.specs.Framing.{IsFrame, IsUnfinished, Shows}
use Rattle.amqp_frames.proofs.OneFrame.{one_frame}
use Rattle.amqp_frames.proofs.Streams.{one_front, frame_shows, frame_unfinished, unfinished_shows}
use Rattle.amqp_conn.specs.declared.phase.Phase.{Phase}
use Rattle.amqp_conn.specs.declared.phase.Phase.TheVariants as phase
use Rattle.amqp_conn.specs.Connection.{Core, Connection, more, reads_frames}
use Rattle.amqp_conn.specs.Octets.{header}
use Rattle.amqp_conn.specs.Treating.{taken, treat, HasFrame}
use Rattle.amqp_conn.specs.Feeding.{IsPassed}
use Rattle.amqp_conn.proofs.Cutting.{not-closed}
use Rattle.amqp_conn.proofs.Deciding.{same-front}

no-head : (p : Phase) → p ≡ phase.AwaitHeader → IsTrue (reads_frames p) → ⊥
no-head p e r = let b : false ≡ true = sym (ap reads_frames e) ∙ r in absurd cc

no-end : (p : Phase) → IsTrue (reads_frames p) → p ≡ phase.Closed → ⊥
no-end p r e = let b : false ≡ true = sym (ap reads_frames e) ∙ r in absurd cc

-- a whole frame that is taken
pub passes-frame : (c : Connection) (x : List ℕ) (f : Frame) (l : Core) → IsTrue (reads_frames c.core.phase) → IsFrame f (c.unread ++ x) → length (c.unread ++ x) ≤ c.core.config.max_frame
    → treat c.core f ≡ taken l → IsPassed (more x c)
passes-frame c x f l reads framed small t =
    record {
      goes_on = no-end c.core.phase reads;
      begins = λ front back p n e. absurd (no-head c.core.phase p reads);
      faultless = λ e r shown. frame_shows e f c.core.config.max_frame (c.unread ++ x) [] framed small (subst (λ (y : List ℕ). Shows e c.core.config.max_frame y) (sym (append-nil (c.unread ++ x))) shown);
      whole = λ g front back h. at g front back h;
    }
  where
    at : (g : Frame) (front back : List ℕ) → HasFrame (more x c) g front back → (back ≡ []) × ((k : Core) × (treat c.core g ≡ taken k))
    at g front back h =
        let split : (c.unread ++ x) ++ [] ≡ front ++ back = append-nil (c.unread ++ x) ∙ h.split in
        let same : c.unread ++ x ≡ front = one_front f g (c.unread ++ x) front [] back framed h.framed split in
        let rest : [] ≡ back = (same-front (c.unread ++ x) front [] back (ap length same) split).1 in
        let one : f ≡ g = one_frame f g (c.unread ++ x) framed (subst (λ (y : List ℕ). IsFrame g y) (sym same) h.framed) in
        (sym rest, (l, sym (ap (treat c.core) one) ∙ t))

-- octets of a frame that is not whole
pub passes-part : (c : Connection) (x : List ℕ) → IsTrue (reads_frames c.core.phase) → IsUnfinished c.core.config.max_frame (c.unread ++ x) → IsPassed (more x c)
passes-part c x reads u =
    record {
      goes_on = no-end c.core.phase reads;
      begins = λ front back p n e. absurd (no-head c.core.phase p reads);
      faultless = λ e r shown. unfinished_shows e c.core.config.max_frame (c.unread ++ x) u shown;
      whole = λ g front back h. absurd (frame_unfinished g c.core.config.max_frame front back h.framed (subst (λ (y : List ℕ). IsUnfinished c.core.config.max_frame y) h.split u));
    }

-- the header
pub passes-header : (c : Connection) (x : List ℕ) → c.core.phase ≡ phase.AwaitHeader → c.unread ++ x ≡ header → IsPassed (more x c)
passes-header c x p e =
    record {
      goes_on = λ q. not-closed (sym p ∙ q);
      begins =
          λ front back q n s.
          let k = same-front front header back [] n (sym s ∙ e ∙ sym (append-nil header)) in
          (k.0, k.1);
      faultless = λ f r shown. no-head c.core.phase p r;
      whole = λ g front back h. absurd (no-head c.core.phase p h.reads);
    }
