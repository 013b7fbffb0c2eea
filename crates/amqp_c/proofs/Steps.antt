-- The machine value of a handle, and what it owns beside it.
use Rattle.std.proofs.Common.{◌≡◌, List, [], ◌∷◌, ◌++◌, refl, subst, lit<}
use mathlib.Core.Bool.{Bool}
use lib.Dec.{T}
use seplogic.Ra.Ura.{Ura}
use mir.Syntax.{Ty, ty_ptr}
use mir.Val.{Val, vbool, vstruct, vcons, vnil, of_list, has_ty, WT}
use types.Logic.{Logic}
use types.Kit.{Item, Goal, Seq, Step, step, ‵, ◌$◌, move, drop, fsplit, fjoin, fpick, fpack, feq_i, feq_l}
use denote.RattleType.{RattleType, Valss}
use denote.Builtin.{RawPtr, bool}
use denote.RawPtr.{Ptr, block_ptr, null_ptr, ptr_val}
use denote.Steps.{nothing}
use denote.Param.{layout}
use denote.Struct.Struct.{within}
use denote.Struct.Owning.{shape}
use Rattle.core.proofs.alloc.Calls.{α, Fits, handle_tells}
use Rattle.std_alloc.proofs.ResultValues.{and_tt}
use Rattle.std.specs.Prelude.{Option}
use Rattle.amqp_caller.specs.contracts.caller.Caller as caller
use Rattle.amqp_c.specs.Held.{held}
use Rattle.amqp_c.specs.contracts.handle.Handle as handle
use Rattle.amqp_c.proofs.AsBox.{E}

abbrev pub Z : RattleType
Z = E.al.row

abbrev pub three : Val → Val → Val → Val
three u v w = vstruct (vcons u (vcons v (vcons w vnil)))

abbrev pub made : Ptr → Bool → Z.Denot → Option caller.the_row.Denot → handle.the_row.Denot
made p l a o = record { at = p; live = l; alloc = a; caller = o }

pub ptr_typed : (p : Ptr) → T (has_ty ty_ptr (ptr_val p)) × WT (ptr_val p)
ptr_typed (block_ptr b o) = (tt, tt)
ptr_typed null_ptr = (tt, record { fits = lit< tt })

-- a handle's type, as a machine's
abbrev pub handle_ty : Ty
handle_ty = layout handle.the_row

pub handle_typed : (p : Ptr) (l : Bool) (h : Val) → Fits E.al h → T (has_ty handle_ty (three (ptr_val p) (vbool l) h)) × WT (three (ptr_val p) (vbool l) h)
handle_typed (block_ptr b o) l h fa = (and_tt (has_ty (α E.al) h) fa.0, (tt, (tt, (fa.1, tt))))
handle_typed null_ptr l h fa = (and_tt (has_ty (α E.al) h) fa.0, (record { fits = lit< tt }, (tt, (fa.1, tt))))

module _ {M : Type 1} {𝓤 : Ura M} {𝓛 : Logic 𝓤} {K : Type 0} {Γ : List (Item 𝓤)} {G : Goal 𝓤 𝓛.H} where
  pub handle_in : K → (p : Ptr) (l : Bool) (h : Val) (a : Z.Denot) (o : Option caller.the_row.Denot)
      → Step K 𝓛 (‵ (handle.the_row.own_val (made p l a o) (three (ptr_val p) (vbool l) h ∷ [])) ∷ Γ) G (‵ (held a l p o) ∷ ‵ (Z.own_val a (h ∷ [])) ∷ Γ) G
  handle_in t p l h a o = step (λ s. let v : Val = three (ptr_val p) (vbool l) h in
      nothing t $ move t (2 ∷ 0 ∷ []) $ fjoin t $ feq_i t (List Val) (vbool l ∷ []) (vbool l ∷ []) refl $ fjoin t $ feq_i t (List Val) (ptr_val p ∷ []) (ptr_val p ∷ []) refl $ fjoin t $
      feq_i t (List Val) (v ∷ []) (v ∷ []) refl $ fjoin t $
      fpack t (Valss (RawPtr ∷ bool ∷ Z ∷ [])) (within (shape handle.the_type) (p, (l, (((a.memory.seal, tt), tt), tt))) (v ∷ [])) (ptr_val p ∷ [], (vbool l ∷ [], (h ∷ [], tt))) $ fjoin t $ s)

  pub handle_out : K → (d : handle.the_row.Denot) (vs : List Val)
      → ((h : Val) → vs ≡ three (ptr_val d.at) (vbool d.live) h ∷ [] → Fits E.al h → Seq K 𝓛 (‵ (held d.alloc d.live d.at d.caller) ∷ ‵ (Z.own_val d.alloc (h ∷ [])) ∷ Γ) G)
      → Seq K 𝓛 (‵ (handle.the_row.own_val d vs) ∷ Γ) G
  handle_out t d vs k =
      fsplit t $ fpick t (λ vss. fsplit t $ feq_l t (λ ev. fsplit t $ feq_l t (λ ep. fsplit t $ feq_l t (λ eb. fsplit t $ handle_tells E.al t d.alloc vss.1.1.0 (λ h ea fits. move t (1 ∷ []) $ drop t $ move t (1 ∷ []) $
      k h
      (subst (λ (ws : List Val). vs ≡ vstruct (of_list (ptr_val d.at ∷ vbool d.live ∷ (ws ++ []))) ∷ []) ea
      (subst (λ (ws : List Val). vs ≡ vstruct (of_list (ptr_val d.at ∷ (ws ++ (vss.1.1.0 ++ [])))) ∷ []) eb
      (subst (λ (ws : List Val). vs ≡ vstruct (of_list (ws ++ (vss.1.0 ++ (vss.1.1.0 ++ [])))) ∷ []) ep ev))) fits)))))
