-- A feed of some octets takes one at least.
use Rattle.std.proofs.Common.{◌≢◌, ◌<◌, ℕ, zero, suc, List, [], ◌∷◌, ◌++◌, length, take, refl, sym, subst, ◌∙◌, arith}
use Rattle.std.specs.Prelude.{Result, Ok, Err, IfOk}
use Rattle.std.proofs.lemmas.List.{append-nil}
use Rattle.amqp_frames.specs.declared.frame.Frame.{Frame}
use Rattle.amqp_frames.specs.declared.fault.FrameFault.{FrameFault}
use Rattle.amqp_frames.specs.Framing.{IsFrame, IsUnfinished}
use Rattle.amqp_frames.specs.declared.filled.Filled.{Filled}
use Rattle.amqp_frames.specs.declared.filled.Filled.TheVariants.{Part, Whole}
use Rattle.amqp_frames.specs.Framer.{FramerState}
use Rattle.amqp_frames.specs.Slots.{FeedsSlot, used_in}
use Rattle.amqp_frames.proofs.Streams.{frame_unfinished}

some_length : (xs : List ℕ) → xs ≢ [] → 0 < length xs
some_length [] some = absurd (some refl)
some_length (x ∷ xs) some = omega arith

-- what was kept was no frame yet
some_used : (f : Frame) (max used : ℕ) (kept piece : List ℕ) → IsUnfinished max kept → IsFrame f (kept ++ take used piece) → 0 < used
some_used f max zero kept piece unfinished framed =
    absurd (frame_unfinished f max (kept ++ []) [] framed (subst (λ (x : List ℕ). IsUnfinished max x) (sym (append-nil (kept ++ []) ∙ append-nil kept)) unfinished))
some_used f max (suc n) kept piece unfinished framed = omega arith

pub progress : (old new : FramerState) (piece : List ℕ) (r : Result Filled FrameFault) (slot : Frame) → IsUnfinished old.max_size old.kept → FeedsSlot old piece r slot new → piece ≢ [] → IfOk r (λ filled. 0 < used_in filled)
progress old new piece (Ok (Whole used)) slot unfinished fed some = some_used slot old.max_size used old.kept piece unfinished fed.1
progress old new piece (Ok (Part used)) slot unfinished fed some = omega (arith, fed.0, some_length piece some)
progress old new piece (Err fault) slot unfinished fed some = tt
