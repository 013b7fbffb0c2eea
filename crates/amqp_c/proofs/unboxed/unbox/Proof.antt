-- `unbox` asks the box for its pointer and its allocator, and puts both into one value.
use Rattle.std.proofs.Common.{◌≡◌, List, [], ◌∷◌, ◌++◌, refl, sym, ap, ◌∙◌, subst}
use mir.Raw.{raw as bare}
use mir.MapTy.{inst_fn}
use mir.Val.{Val, vstruct, of_list}
use base.Logic.{SProp, ent, never, id⊢, fst∗}
use base.Fml.{ftrue, fsep, flft}
use prog.Wp.{WpFn}
use types.Logic.{sem}
use types.Kit.{‵, raw, ◌⊛◌, some, later, ◌$◌, ◌∵◌, !, qed, by, move, keep, drop, split, split3, join, fsplit, fjoin, fpick, pick, suffices, use0, use1, await, rewrite, feq_l}
use types.Run.{stop, fld, of_opd, no_more, and_then, returns, enter}
use types.ByLocal.{alloc_all, pass_all, free_all, look_at, get, get_in, sets, lands_as}
use types.Part.{agg, sub, whole}
use contract.Monad.{fact, fact_i}
use contract.Running.{tables}
use denote.Exit.{no}
use denote.RattleType.{owns}
use denote.Signature.{types_at, plain}
use denote.Builtin.{RawPtr}
use denote.RawPtr.{Ptr, block_ptr, null_ptr, ptr_val, in_a_block}
use denote.Steps.{nothing, only, heard}
use denote.Struct.Tuple.{Tuple}
use denote.Triple.Call.{calls_at}
use denote.Triple.Spec.{triple_of}
use denote.Triple.Walked.{Stays, stay_dropped, walk_of}
use Rattle.core.proofs.alloc.Calls.{Goes-blank, token, handle_tells}
use Rattle.core.proofs.atomic.Steps.{fm}
use Rattle.std_alloc.specs.Box.Ownership.{box_owns}
use Rattle.std_alloc.proofs.BoxSteps.Form.{Bx, D, P, R, B, τ, word, box_typed}
use Rattle.std_alloc.proofs.BoxSteps.Steps.{box_in}
use Rattle.std.proofs.raw_atomic.Walks.{proved_at, leaves}
use Rattle.std_alloc.specs.contracts.boxed.Box.into_raw_with_allocator as raw_parts
use Rattle.std_alloc.proofs.boxed.Box.into_raw_with_allocator.Met.{met}
use Rattle.amqp_c.specs.contracts.unboxed.unbox as F
use Rattle.amqp_c.specs.contracts.unboxed.unbox.Key.{name as #self}
use Rattle.amqp_c.proofs.unboxed.unbox.Statement.{statement}
use Rattle.amqp_c.proofs.unboxed.unbox.Code as code
use Rattle.amqp_c.proofs.Unboxing.{apart, box_is, instance, parts_in}

pub unbox_spec : {M : Type 1} → statement M
unbox_spec 𝓤 𝓛 𝓜 𝓡 wired X Z LX LZ g d dx dz allocator drops_x drops_z =
    let H = 𝓛.H in
    let 𝓣 = tables 𝓤 H 𝓜 𝓡 𝓡.env in
    let E : Bx = record { row = X; laws = LX; al = record { row = Z; laws = LZ; g = g; d = d; drops = dz } } in
    let ended = F.ended X Z g d dx dz in
    let clauses = F.clauses X Z g d dx dz 𝓛 𝓜.mem 𝓡.returns in
    let stays : Stays ended.signature.params ended.kept = (stay_dropped (plain (λ _. B E)) no, tt) in
    let fn = inst_fn (instance E dx) code.function in
    let Parts = triple_of 𝓛 (raw_parts.signature X Z g d dz dx) (raw_parts.spec X Z g d dz dx 𝓛 𝓜.mem 𝓡.returns) in
    let Pair = Tuple (RawPtr ∷ P E ∷ []) in
    proved_at 𝓛 ended stays clauses 𝓜 𝓡 (Goes-blank 𝓛 2 (plain (λ _. B E)) no (λ κs x f. tt), tt) (#self (instance E dx)) fn (code.unfolded 𝓤 H 𝓜 𝓡 wired (X, (Z, tt)) d dx dz) (λ z are.
    let κs = z.0.0 in
    let qs = z.0.1 in
    let v = z.0.3.0 in
    let a = v.alloc in
    let Done : Val → SProp 𝓤 = (walk_of 𝓛 ended stays clauses).post z in
    let Run : List Val → SProp 𝓤 = λ vs. WpFn 𝓤 H 𝓣.C 𝓣.Λ fn vs Done in
    let alive = ‵ (flft κs.0 qs.0) ⊛ ‵ (flft κs.1.0 qs.1.0) ⊛ ‵ ftrue in
    let own_parts : Ptr → types.Kit.Item 𝓤 = λ p. ‵ (box_owns (token E.al a) (R E) p v.value) in
    qed 𝓛 ((alive ⊛ ‵ (owns (types_at ended.signature.params κs) z.0.3 z.0.4)) ∷ raw ((clauses κs z.0.3).requires z.1) ∷ []) ∵
    split ! $ move ! (1 ∷ []) $ fsplit ! $ box_is E ! v z.0.4.0 (λ b o h e ws fits.
    -- [the box; nothing; the tokens; what was required]
    let w = word E h b o in
    let given : Parts.Ghost = ((κs, qs, tt, (v, tt), (w ∷ [], tt)), tt) in
    fjoin ! $ move ! (1 ∷ 0 ∷ []) $ join ! $ join ! $ use1 𝓛 (raw (Parts.pre given)) (id⊢ 𝓤 _) $
    suffices ! (Run (w ∷ [])) (subst (λ (vs : List Val). ent 𝓤 (Run (w ∷ [])) (Run vs)) (sym (ap (λ vs. vs ++ []) ws)) (id⊢ 𝓤 (Run (w ∷ [])))) $
    enter ! 𝓣.C 𝓣.Λ fn (w ∷ []) Done $ alloc_all ! (λ ls. pass_all ! refl (box_typed E h b o fits, tt) $
    sets ! (of_opd ! (get ! refl)) refl (box_typed E h b o fits) $
    calls_at ! (fm 𝓛 𝓜 𝓡) Parts (met 𝓤 𝓛 𝓜 𝓡 (code.calls-std_alloc::boxed::Box::into_raw_with_allocator 𝓡.env wired) X Z LX LZ g d dz dx allocator drops_z drops_x) given (and_then ! (get ! refl) (no_more !)) (λ u.
    use1 𝓛 (later (some (λ (r : Ptr × Z.Denot). (alive ⊛ ‵ (Pair.own_val r (u ∷ []))) ⊛ some (λ (_ : (Unit {0} × (Unit {0} × Unit {0})) × Unit {0}). ‵ (fsep (fsep ftrue (fsep ftrue ftrue)) ftrue) ⊛ (raw (fact 𝓤 (r.1 ≡ a)) ⊛ own_parts r.0))))) (id⊢ 𝓤 _) $
    await ! tt $ pick ! (λ r. split ! $ move ! (1 ∷ []) $ pick ! (λ _. split3 ! $ drop ! $ heard ! (r.1 ≡ a) (λ same.
    in_a_block ! r.0 (λ p. box_owns (token E.al a) (R E) p v.value) (fst∗ 𝓤 (never 𝓤) (sem 𝓛 (token E.al a (bare (τ E)) null_ptr))) (λ b' o' at.
    -- [what the box owned; the tokens with the pair; ..]
    move ! (1 ∷ []) $ split ! $ move ! (1 ∷ []) $ fpick ! (λ vss. fsplit ! $ feq_l ! (λ pair. fsplit ! $ feq_l ! (λ pointer. fsplit ! $
    rewrite ! 0 (λ (s : Z.Denot). ‵ (Z.own_val s vss.1.0)) same refl $ handle_tells E.al ! a vss.1.0 (λ h' handle fits'.
    let w' = word E h' b' o' in
    let typed = box_typed E h' b' o' fits' in
    let taken : D E = record { ptr = block_ptr b' o'; alloc = a; value = v.value } in
    lands_as ! (ap only (pair ∙ (λ j. vstruct (of_list ((pointer ∙ ap (λ (p : Ptr). ptr_val p ∷ []) at) j ++ (handle j ++ []))) ∷ []))) refl typed $
    sets ! (of_opd ! (get_in ! (fld ! refl (stop !)) (sub ! 0 refl (whole !)))) refl (tt, tt) $
    sets ! (of_opd ! (get_in ! (fld ! refl (stop !)) (sub ! 1 refl (whole !)))) refl fits' $
    sets ! (of_opd ! (get ! refl)) refl fits' $
    sets ! (agg ! (and_then ! (get ! refl) (and_then ! (get ! refl) (no_more !)))) refl typed $
    returns ! (look_at ! 0 refl) $ free_all ! refl $
    -- [the handle; nothing; the tokens; what the box owned]
    move ! (3 ∷ []) $ fsplit ! $ box_in E ! taken b' o' v.value refl refl $ parts_in E ! taken w' $
    use0 𝓛 (raw (fact 𝓤 (v.value ≡ v.value))) (fact_i 𝓤 (v.value ≡ v.value) (base.Logic.emp 𝓤) refl) $ nothing ! $ nothing ! $ fjoin ! $
    keep ! (4 ∷ 0 ∷ 2 ∷ 1 ∷ []) $ by ! (leaves 𝓛 ended stays clauses z w' (apart E taken) ((tt, (tt, tt)), tt) (tt, tt))))))))))))))
