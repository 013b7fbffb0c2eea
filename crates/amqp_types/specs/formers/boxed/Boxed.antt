-- One value, in the Box that holds it.
use mathlib.Core.Path.{refl}
use mathlib.Core.Former.{Former, this, const, pair, via}
use base.Fml.{ftrue}
use base.Stored.{gnil}
use denote.RattleType.{RattleType}
use denote.Memory.{part_of}
use denote.RawPtr.{Ptr}
use denote.Sharing.{nothing}
use denote.HoleLaws.{Alike}
use denote.HolePlaces.{Recodes, struct_places, laid, one_value}
use denote.Hole.Fix.{over}
use denote.Param.Weighed.{Weighed}
use denote.Model.Placed.{view_places}
use Rattle.std.specs.contracts.alloc.Global as global
use Rattle.std.specs.contracts.boxed.Box as box
use Rattle.std.specs.contracts.impls.GlobalAllocator.TheImpl.{ghosts}
use Rattle.std.specs.declared.alloc.Global.{Global}
use Rattle.std.specs.declared.boxed.Box.{Box}
use Rattle.amqp_types.specs.contracts.boxed.Boxed as whole
use Rattle.amqp_types.specs.contracts.boxed.Boxed.TheInside as inside
use Rattle.amqp_types.specs.declared.boxed.Boxed.TheInside.{Inside}
use Rattle.amqp_types.specs.declared.boxed.Boxed.TheView.{view, invariant}

-- contracts see the value alone, which weighs what it weighs
abbrev pub the_former : Former {0} → Former {0}
the_former of = of

abbrev pub the_weighed : {of : Former {0}} → Weighed of → Weighed (the_former of)
the_weighed weight = weight

-- the one field: a pointer and an allocator, which hold no value, and the value
abbrev box_inside : Former {0}
box_inside = via (pair (const (Ptr × Global)) this) Inside (λ X it. ((it.boxed.ptr, it.boxed.alloc), it.boxed.value))
    (λ X v. record { boxed = record { ptr = v.0.0; alloc = v.0.1; value = v.1 } }) (λ X it. refl) (λ X v. refl)

-- the box at the same place, with another value
abbrev refilled : {X Y : Type 0} → Box X Global → Y → Box Y Global
refilled it value = record { ptr = it.ptr; alloc = it.alloc; value = value }

abbrev box_type : RattleType → RattleType
box_type A = box.the_row A global.the_row ghosts

module _ (A B : RattleType) (h : A.Denot → B.Denot) where
  box_alike : Alike A B h → Alike (box_type A) (box_type B) (λ it. refilled it (h it.value))
  unfolding part_of
  box_alike alike = record {
    mir_same = λ i. (box_type (one_value A (alike.mir_same i) (λ _. ftrue) (λ _ _. nothing) gnil)).mir;
    own_same = λ it i. (box_type (one_value A (alike.mir_same i) (alike.own_same it.value i) (alike.shr_same it.value i) gnil)).own_val (refilled it tt);
    shr_same = λ it i. (box_type (one_value A (alike.mir_same i) (alike.own_same it.value i) (alike.shr_same it.value i) gnil)).shr_at (refilled it tt);
  }

  abbrev mapped_value : (whole.the_row A).Denot → (whole.the_row B).Denot
  mapped_value = (the_former this).map A.Denot B.Denot h

  -- at two types that are alike the field lies and owns alike, and the view shows its one value
  pub the_places : Alike A B h → Alike (whole.the_row A) (whole.the_row B) mapped_value
  the_places alike = view_places box_inside this view (λ X Y k it. refl) (λ X it. refl) A.Denot B.Denot h (whole.the_row A).coded (whole.the_row B).coded
      (invariant A.Denot) (invariant B.Denot) (λ it p q. refl) (λ it p q. refl) (λ it e. tt) (λ it e. tt)
      (over (inside.the_row A)) (over (inside.the_row B))
      (struct_places (inside.the_type A) (inside.the_type B) ((λ it. refilled it (h it.value)), tt) _ (λ it. refl) refl (laid _ _ _ (box_alike alike), tt))

  pub the_codes_placed : Recodes A B h → Recodes (whole.the_row A) (whole.the_row B) mapped_value
  the_codes_placed same value = same value
