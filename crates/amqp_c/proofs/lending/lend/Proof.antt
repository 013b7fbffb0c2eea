-- `lend` writes the pointer that a slice has into a pointer of the caller's.
use Rattle.std.proofs.Common.{List, [], ◌∷◌, refl}
use base.Fraction.{full_share}
use base.Fml.{ftrue, flft}
use mir.Syntax.{named, ty_ptr}
use mir.Val.{Val, vunit}
use types.Kit.{‵, ◌⊛◌, ◌$◌, ◌∵◌, !, qed, done, move, keep, split, split3, join, frame, fsplit3, fjoin, fjoin3, feq_i, feq_l, rewrite, suffices}
use types.Run.{enter, of_opd, unit_lit, addr, store, stop, fld, hop, from, assigns, returns}
use types.Part.{whole, sub}
use types.ByLocal.{alloc_all, pass_all, free_all, look_at, look_in_at, get, through, sets}
use denote.Builtin.{u8}
use denote.Exit.{yes}
use denote.Memory.{cell_at}
use denote.RawPtr.{Ptr, RawPtr, block_ptr, ptr_val}
use denote.Ref.{MutRef, mut_vals, mut_Tells}
use denote.Signature.{plain}
use denote.Slice.{ShrSlice, shr_slice_vals, shr_slice_Tells}
use denote.Steps.{nothing, opens, closes}
use denote.Triple.Walked.{says, Stays, stay_ref, Goes-ref, stay_none_slice, Goes-none_slice, ends_at}
use Rattle.std.proofs.raw_atomic.Walks.{proved}
use Rattle.amqp_c.specs.contracts.lending.lend as F
use Rattle.amqp_c.proofs.lending.lend.Statement.{statement}
use Rattle.amqp_c.proofs.lending.lend.Code as code

abbrev stayed : Stays F.ended.signature.params F.ended.kept
stayed = (stay_none_slice (0 ∷ []) tt (plain (λ _. u8)) yes, (stay_ref (1 ∷ []) tt (plain (λ _. RawPtr)), tt))

pub lend_spec : {M : Type 1} → statement M
lend_spec 𝓤 𝓛 𝓜 𝓡 wired =
    let c = F.clauses 𝓛 𝓜.mem 𝓡.returns in
    proved 𝓛 F.ended stayed c 𝓜 𝓡 (Goes-none_slice 𝓛 2 (0 ∷ []) tt (plain (λ _. u8)) yes, (Goes-ref 𝓛 2 1 tt (plain (λ _. RawPtr)), tt))
    F.Key.name code.function (code.unfolded 𝓤 𝓛.H 𝓜 𝓡 wired)
    (λ κs. (shr_slice_vals, (mut_vals, tt))) (λ κs. (shr_slice_Tells (named 0) κs.0 u8, (mut_Tells (named 1) κs.1.0 RawPtr, tt))) (λ κs qs bounds a _ are.
    let octets = a.0 in
    let at = a.1.0 in
    let b = at.ref_ptr.0 in
    let o = at.ref_ptr.1 in
    let place : Ptr = block_ptr octets.ref_ptr.0 octets.ref_ptr.1 in
    let octets_vals = shr_slice_vals octets in
    let at_vals = mut_vals at in
    qed 𝓛 (((‵ (flft κs.0 qs.0) ⊛ ‵ (flft κs.1.0 qs.1.0) ⊛ ‵ ftrue) ⊛ ‵ ((ShrSlice (named 0) κs.0 u8).own_val octets octets_vals) ⊛ ‵ ((MutRef (named 1) κs.1.0 RawPtr).own_val at at_vals) ⊛ ‵ ftrue) ∷ ‵ ftrue ∷ []) ∵
    split ! $ split3 ! $ move ! (3 ∷ []) $ split3 ! $ keep ! (1 ∷ 4 ∷ 3 ∷ 0 ∷ []) $
    -- [the reference; the token of its lifetime; the token of the slice's; the slice]
    enter ! _ _ _ _ _ $ alloc_all ! (λ l. pass_all ! refl ((tt, (tt, (record { fits = are.0.0.1.0 }, tt))), ((tt, tt), tt)) $
    sets ! (addr ! (from ! (fld ! refl (hop ! (look_in_at ! 1 (sub ! 0 refl (whole !))) (stop !))))) refl (tt, tt) $
    fsplit3 ! $ move ! (1 ∷ 2 ∷ 3 ∷ []) $ opens ! tt RawPtr b o (λ us. move ! (1 ∷ []) $ feq_l ! (λ old.
    rewrite ! 0 (λ (ws : List Val). ‵ (cell_at full_share (ty_ptr ∷ []) ws b o)) old refl $
    assigns ! (of_opd ! (get ! refl)) (through ! refl (stop !)) (store ! 0 refl (tt, tt)) $
    feq_i ! (List Val) (ptr_val place ∷ []) (ptr_val place ∷ []) refl $ move ! (1 ∷ 0 ∷ []) $ closes ! tt RawPtr place (ptr_val place ∷ []) b o $
    sets ! (of_opd ! (unit_lit !)) refl (tt, tt) $
    returns ! (look_at ! 0 refl) $ free_all ! refl $
    suffices ! _ (ends_at 𝓛 F.ended stayed c ((κs, qs, bounds, a, (octets_vals, (at_vals, tt))), tt) vunit tt (tt, (place, tt)) (tt, (tt, tt))) $ says ! refl $
    -- [what the pointer is seen at; its borrow; its token; where it is; the token of the slice; the slice]
    nothing ! $ move ! (3 ∷ 0 ∷ []) $ join ! $ move ! (4 ∷ 0 ∷ []) $ join ! $ frame ! $
    nothing ! $ move ! (3 ∷ 1 ∷ 2 ∷ []) $ fjoin3 ! $ fjoin ! $ move ! (1 ∷ 0 ∷ []) $ fjoin ! $
    feq_i ! (List Val) (vunit ∷ []) (vunit ∷ []) refl $ move ! (1 ∷ 0 ∷ []) $ done !))))
