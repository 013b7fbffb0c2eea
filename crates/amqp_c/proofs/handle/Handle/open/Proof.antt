-- `open` tests the mark, and hands on what the handle owned.
use mathlib.Core.Path.{refl, sym, subst}
use mathlib.Core.List.{List, [], ◌∷◌, ◌++◌}
use seplogic.Ra.Ura.{Ura}
use mir.Val.{Val, of_list, has_ty, vbool, vptr}
use base.Logic.{SProp, never_e, ent, emp, id⊢}
use base.Fml.{ftrue, fsep}
use prog.Memory.{Memory}
use prog.Routine.{Routine}
use prog.Wp.{WpFn, Tables}
use types.Logic.{Logic}
use mathlib.Core.Bool.{◌&&◌}
use contract.Monad.{Fun}
use contract.Running.{tables, tables_of}
use sound.WpLaws.{WpFn-mono}
use types.Kit.{Item, keep, use0, at_ret, ‵, raw, ◌⊛◌, ◌$◌, ◌∵◌, !, qed, by, move, drop, use1, join, split, fsplit, fjoin, fpick, fpack, feq_i, feq_l, suffices, done}
use types.Part.{whole, sub, agg}
use types.Run.{stop, fld, no_more, and_then, of_opd, lit, first, branches, skips, exec, returns, returns_within, enter}
use types.ByLocal.{env, alloc_all, pass_all, free_all, look_at, get, get_in, sets}
use denote.Exit.{yes}
use denote.RattleType.{RattleType}
use types.Match.{live}
use Prim.Native.Nat.{ℕ}
use denote.RawPtr.{Ptr, null_ptr, block_ptr, ptr_val}
use denote.Steps.{nothing}
use denote.Triple.Spec.{triple_of}
use denote.Triple.Table.{entered}
use denote.Triple.Walked.{says, Stays, stay_dropped, walk_of, ends_at, Goes-dropped, walk_Meets}
use Rattle.core.proofs.alloc.Calls.{α, Fits}
use Rattle.std_alloc.proofs.ResultValues.{and_tt}
use Rattle.std.proofs.Common.{lit<}
use Rattle.std_alloc.proofs.BoxSteps.Form.{D, word, box_typed}
use Rattle.std_alloc.proofs.BoxSteps.Steps.{box_in}
use Rattle.amqp_c.specs.Held.{held}
use Rattle.amqp_c.proofs.AsBox.{E, FromHandle}
use Rattle.amqp_c.proofs.Steps.{three, made, handle_out, handle_typed, ptr_typed}
use Rattle.amqp_caller.specs.contracts.caller.Caller as Caller
use Rattle.amqp_c.specs.contracts.unboxed.Unboxed as Unboxed
use Rattle.amqp_c.specs.contracts.handle.Handle as Handle
use Rattle.core.specs.contracts.option.Option.{the_row as OptionOf}
use Rattle.core.proofs.option.Made.{Some-of, none_of}
use Rattle.std.specs.Prelude.{Bool, true, false, Option, Some, None}
use Rattle.amqp_c.specs.contracts.handle.Handle.open as F
use Rattle.amqp_c.specs.contracts.handle.Handle.open.Key.{name as #self}
use Rattle.amqp_c.proofs.handle.Handle.open.Statement as stated
use Rattle.amqp_c.proofs.handle.Handle.open.Code as code

abbrev stayed : Stays (F.ended).signature.params (F.ended).kept
stayed = (stay_dropped FromHandle yes, tt)

module _ {M : Type 1} {𝓤 : Ura M} (𝓛 : Logic 𝓤) (at_mem : Memory → SProp 𝓤) (run : Routine → Fun 𝓤) (𝓣 : Tables 𝓤 𝓛.H) where
  open 𝓛 use {H}

  abbrev ghost : List Val → Handle.the_row.Denot → (walk_of 𝓛 F.ended stayed (F.clauses 𝓛 at_mem run)).Ghost
  ghost us d = ((tt, tt, tt, (d, tt), (us, tt)), tt)

  abbrev Post : List Val → Handle.the_row.Denot → Val → SProp 𝓤
  Post us d = (walk_of 𝓛 F.ended stayed (F.clauses 𝓛 at_mem run)).post (ghost us d)

  abbrev Apart : RattleType
  Apart = Unboxed.the_row Caller.the_row E.al.row E.al.g

  abbrev Apart-of : ℕ → ℕ → E.al.row.Denot → Caller.the_row.Denot → Apart.Denot
  Apart-of b o a x = record { at = block_ptr b o; alloc = a; value = x }

  module _ (us : List Val) (hv : Val) (fa : Fits E.al hv) where
    some_case : (b o : ℕ) (a : E.al.row.Denot) (x : Caller.the_row.Denot)
        → ent 𝓤 (types.Kit.⋆ 𝓛 (‵ (held a true (block_ptr b o) (Some x)) ∷ ‵ (E.al.row.own_val a (hv ∷ [])) ∷ []))
        (WpFn 𝓤 H 𝓣.C 𝓣.Λ code.function (three (vptr b o) (vbool true) hv ∷ []) (Post us (made (block_ptr b o) true a (Some x))))
    some_case b o a x =
        let w = word E hv b o in let d = made (block_ptr b o) true a (Some x) in let v : D E = record { ptr = block_ptr b o; alloc = a; value = x } in
        qed 𝓛 (‵ (held a true (block_ptr b o) (Some x)) ∷ ‵ (E.al.row.own_val a (hv ∷ [])) ∷ []) ∵ fsplit ! $
        box_in E ! v b o x refl refl $ use1 𝓛 (‵ (Apart.own_val (Apart-of b o a x) (w ∷ []))) (id⊢ 𝓤 _) $
        use1 𝓛 (‵ ((OptionOf Apart).own_val (Some (Apart-of b o a x)) (live 1 (of_list (w ∷ [])) ∷ []))) (Some-of 𝓛 Apart (Apart-of b o a x) w) $
        enter ! 𝓣.C 𝓣.Λ code.function (three (vptr b o) (vbool true) hv ∷ []) _ $ alloc_all ! (λ ls. pass_all ! refl (handle_typed (block_ptr b o) true hv fa, tt) $
        sets ! (of_opd ! (get_in ! (fld ! refl (stop !)) (sub ! 0 refl (whole !)))) refl (tt, tt) $ sets ! (of_opd ! (get_in ! (fld ! refl (stop !)) (sub ! 1 refl (whole !)))) refl (tt, tt) $
        sets ! (of_opd ! (get_in ! (fld ! refl (stop !)) (sub ! 2 refl (whole !)))) refl fa $ sets ! (of_opd ! (get ! refl)) refl (tt, tt) $
        first ! $ branches ! (get ! refl)
        (λ big. sets ! (of_opd ! (get ! refl)) refl (tt, tt) $ sets ! (agg ! (and_then ! (get ! refl) (and_then ! (get ! refl) (no_more !)))) refl (box_typed E hv b o fa) $
        sets ! (agg ! (and_then ! (lit ! tt) (and_then ! (get ! refl) (no_more !)))) refl (and_tt (has_ty (α E.al) hv && true) (and_tt (has_ty (α E.al) hv) fa.0), (record { fits = lit< tt }, ((tt, (fa.1, tt)), tt))) $
        returns_within ! (Post us d) refl (look_at ! 0 refl) $ free_all ! refl $
        suffices ! _ (ends_at 𝓛 F.ended stayed (F.clauses 𝓛 at_mem run) (ghost us d) (live 1 (of_list (w ∷ []))) (Some (Apart-of b o a x)) (tt, tt) (tt, tt)) $ says ! refl $
        nothing ! $ nothing ! $ fjoin ! $ join ! $ nothing ! $ join ! $ done !)
        (λ small. absurd small))

    none_case : (p : Ptr) (a : E.al.row.Denot)
        → ent 𝓤 (types.Kit.⋆ 𝓛 (‵ (held a false p None) ∷ ‵ (E.al.row.own_val a (hv ∷ [])) ∷ []))
        (WpFn 𝓤 H 𝓣.C 𝓣.Λ code.function (three (ptr_val p) (vbool false) hv ∷ []) (Post us (made p false a None)))
    none_case p a =
        let d = made p false a None in
        qed 𝓛 (‵ (held a false p None) ∷ ‵ (E.al.row.own_val a (hv ∷ [])) ∷ []) ∵ drop ! $ drop ! $
        use0 𝓛 (‵ ((OptionOf Apart).own_val None (live 0 (of_list []) ∷ []))) (none_of 𝓛 Apart) $
        enter ! 𝓣.C 𝓣.Λ code.function (three (ptr_val p) (vbool false) hv ∷ []) _ $ alloc_all ! (λ ls. pass_all ! refl (handle_typed p false hv fa, tt) $
        sets ! (of_opd ! (get_in ! (fld ! refl (stop !)) (sub ! 0 refl (whole !)))) refl (ptr_typed p) $ sets ! (of_opd ! (get_in ! (fld ! refl (stop !)) (sub ! 1 refl (whole !)))) refl (tt, tt) $
        sets ! (of_opd ! (get_in ! (fld ! refl (stop !)) (sub ! 2 refl (whole !)))) refl fa $ sets ! (of_opd ! (get ! refl)) refl (tt, tt) $
        first ! $ branches ! (get ! refl) (λ big. absurd big)
        (λ small. skips ! $ exec ! 𝓣.C 𝓣.Λ (env code.Mir.locals ls) code.Mir.t-6 (at_ret _ (Post us d)) $
        sets ! (agg ! (and_then ! (lit ! tt) (no_more !))) refl (tt, (record { fits = lit< tt }, tt)) $ returns ! (look_at ! 0 refl) $ free_all ! refl $
        suffices ! _ (ends_at 𝓛 F.ended stayed (F.clauses 𝓛 at_mem run) (ghost us d) (live 0 (of_list [])) None (tt, tt) (tt, tt)) $ says ! refl $
        nothing ! $ nothing ! $ fjoin ! $ join ! $ nothing ! $ join ! $ done !))

    abbrev Runs : Ptr → Bool → E.al.row.Denot → Option Caller.the_row.Denot → SProp 𝓤
    Runs p l a o = WpFn 𝓤 H 𝓣.C 𝓣.Λ code.function (three (ptr_val p) (vbool l) hv ∷ []) (Post us (made p l a o))

    -- a live handle holds a box, whose pointer is not null; one that is not live holds none
    each : (p : Ptr) (l : Bool) (a : E.al.row.Denot) (o : Option Caller.the_row.Denot)
        → ent 𝓤 (types.Kit.⋆ 𝓛 (‵ (held a l p o) ∷ ‵ (E.al.row.own_val a (hv ∷ [])) ∷ []))
        (WpFn 𝓤 H 𝓣.C 𝓣.Λ code.function (three (ptr_val p) (vbool l) hv ∷ []) (Post us (made p l a o)))
    each (block_ptr b o) true a (Some x) = some_case b o a x
    each null_ptr true a (Some x) = qed 𝓛 (‵ (held a true null_ptr (Some x)) ∷ ‵ (E.al.row.own_val a (hv ∷ [])) ∷ []) ∵ fsplit ! $ keep ! (0 ∷ []) $ by ! (never_e 𝓤 (Runs null_ptr true a (Some x)))
    each p true a None = qed 𝓛 (‵ (held a true p None) ∷ ‵ (E.al.row.own_val a (hv ∷ [])) ∷ []) ∵ keep ! (0 ∷ []) $ by ! (never_e 𝓤 (Runs p true a None))
    each p false a (Some x) = qed 𝓛 (‵ (held a false p (Some x)) ∷ ‵ (E.al.row.own_val a (hv ∷ [])) ∷ []) ∵ keep ! (0 ∷ []) $ by ! (never_e 𝓤 (Runs p false a (Some x)))
    each p false a None = none_case p a

  walk : (z : (walk_of 𝓛 F.ended stayed (F.clauses 𝓛 at_mem run)).Ghost)
      → ent 𝓤 ((walk_of 𝓛 F.ended stayed (F.clauses 𝓛 at_mem run)).pre z) (WpFn 𝓤 H 𝓣.C 𝓣.Λ code.function (z.0.4.0 ++ []) ((walk_of 𝓛 F.ended stayed (F.clauses 𝓛 at_mem run)).post z))
  walk z =
      let d = z.0.3.0 in let us = z.0.4.0 in
      qed 𝓛 ((‵ ftrue ⊛ ‵ (fsep (Handle.the_row.own_val d us) ftrue)) ∷ raw (emp 𝓤) ∷ []) ∵ split ! $ drop ! $ fsplit ! $
      handle_out ! d us (λ hv ws fa. keep ! (0 ∷ 1 ∷ []) $
      by ! (subst (λ (vs : List Val). ent 𝓤 (types.Kit.⋆ 𝓛 (‵ (held d.alloc d.live d.at d.caller) ∷ ‵ (E.al.row.own_val d.alloc (hv ∷ [])) ∷ [])) (WpFn 𝓤 H 𝓣.C 𝓣.Λ code.function (vs ++ []) (Post us d))) (sym ws)
      (each us hv fa d.at d.live d.alloc d.caller)))

pub open_spec : {M : Type 1} → stated.statement M
unfolding tables_of
open_spec 𝓤 𝓛 𝓜 𝓡 wired =
    let 𝓣 : Tables 𝓤 𝓛.H = tables_of 𝓤 𝓛.H 𝓜 (tables 𝓤 𝓛.H 𝓜 𝓡 𝓡.env) in
    entered 𝓤 𝓛.H (triple_of 𝓛 F.signature (F.spec 𝓛 𝓜.mem 𝓡.returns)) 𝓣.C 𝓣.Λ #self code.function (code.unfolded 𝓤 𝓛.H 𝓜 𝓡 wired)
    (walk_Meets 𝓛 F.ended stayed (Goes-dropped 𝓛 0 FromHandle yes (λ κs x f. refl), tt) (F.clauses 𝓛 𝓜.mem 𝓡.returns) (WpFn 𝓤 𝓛.H 𝓣.C 𝓣.Λ code.function) (WpFn-mono 𝓤 𝓛.H 𝓛.laws 𝓣 code.function)
    (walk 𝓛 𝓜.mem 𝓡.returns 𝓣))
