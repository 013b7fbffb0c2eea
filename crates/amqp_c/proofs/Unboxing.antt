-- An unboxed value is, as the machine stores it, the box that it was; so it owns the same.
use Rattle.std.proofs.Common.{◌≡◌, ℕ, List, [], ◌∷◌, refl}
use mir.Syntax.{Dict, Args, a_type, dcons, dnil}
use mir.Val.{Val}
use base.Logic.{id⊢}
use seplogic.Ra.Ura.{Ura}
use types.Logic.{Logic}
use types.Kit.{Item, Goal, Seq, Step, step, ‵, ◌$◌, use1}
use denote.Param.{bounded}
use denote.RattleType.{RattleType}
use Rattle.core.proofs.alloc.Calls.{Fits}
use Rattle.std_alloc.proofs.BoxSteps.Form.{Bx, D, P, R, B, word}
use Rattle.std_alloc.proofs.BoxSteps.Steps.{box_out, box_in}
use Rattle.amqp_c.specs.contracts.unboxed.Unboxed as Unboxed

module _ (E : Bx) where
  abbrev pub Apart : RattleType
  Apart = Unboxed.the_row (R E) (P E) E.al.g

  -- the same value, unboxed
  abbrev pub apart : D E → Apart.Denot
  apart d = record { at = d.ptr; alloc = d.alloc; value = d.value }

  -- the type arguments of both functions: the value's type with its drop, and the allocator's with its drop
  abbrev pub instance : Dict → Args
  instance drops = bounded (a_type ∷ a_type ∷ []) (E.row, (E.al.row, tt)) (dcons E.al.d (dcons drops (dcons E.al.drops dnil)))

  module _ {M : Type 1} {𝓤 : Ura M} {𝓛 : Logic 𝓤} {K : Type 0} {Γ : List (Item 𝓤)} {G : Goal 𝓤 𝓛.H} where
    -- the machine value of a box is a pointer into a block, and the allocator's
    pub box_is : K → (d : D E) (vs : List Val) → ((b o : ℕ) (h : Val) → d.ptr ≡ denote.RawPtr.block_ptr b o → vs ≡ word E h b o ∷ [] → Fits E.al h → Seq K 𝓛 (‵ ((B E).own_val d (word E h b o ∷ [])) ∷ Γ) G)
        → Seq K 𝓛 (‵ ((B E).own_val d vs) ∷ Γ) G
    box_is t d vs k = box_out E t d vs (λ b o h e ws fits. box_in E t d b o d.value e refl $ k b o h e ws fits)

    pub parts_in : K → (d : D E) (v : Val) → Step K 𝓛 (‵ (Apart.own_val (apart d) (v ∷ [])) ∷ Γ) G (‵ ((B E).own_val d (v ∷ [])) ∷ Γ) G
    parts_in t d v = step (λ s. use1 𝓛 (‵ (Apart.own_val (apart d) (v ∷ []))) (id⊢ 𝓤 _) $ s)
