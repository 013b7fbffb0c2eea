-- A list of values, in the Vec that holds them.
use mathlib.Core.Path.{◌≡◌, refl, sym}
use mathlib.Core.List.{List, []}
use mathlib.Core.Former.{Former, this, list, via, children}
use base.Stored.{code_map}
use denote.RattleType.{RattleType}
use denote.HoleLaws.{Alike}
use denote.HolePlaces.{Recodes, struct_places, laid}
use denote.Hole.Carrier.{listed, list-listed}
use denote.Hole.Fix.{over}
use denote.Param.Weighed.{Weighed, w_list}
use denote.Model.Placed.{view_places}
use Rattle.std.specs.contracts.alloc.Global as global
use Rattle.std.specs.contracts.impls.GlobalAllocator.TheImpl.{ghosts}
use Rattle.std.specs.declared.alloc.Global.{Global}
use Rattle.std.specs.formers.vec.Vec as vec
use Rattle.amqp_types.specs.contracts.items.Items as whole
use Rattle.amqp_types.specs.contracts.items.Items.TheInside as inside
use Rattle.amqp_types.specs.declared.items.Items.TheInside.{Inside}
use Rattle.amqp_types.specs.declared.items.Items.TheView.{view, invariant}

-- contracts see a list of values, which weighs as much as its heaviest
abbrev pub the_former : Former {0} → Former {0}
the_former of = list of

abbrev pub the_weighed : {of : Former {0}} → Weighed of → Weighed (the_former of)
the_weighed weight = w_list weight

pub the_empty : List ⊥
the_empty = []

abbrev pub the_items : (X : Type 0) → List X → List X
the_items X values = values

pub the_items_listed : (X : Type 0) (values : List X) → listed _ (children (the_former this) X values) ≡ the_items X values
the_items_listed X values = list-listed X values

-- the one field, a Vec
abbrev vec_inside : Former {0}
vec_inside = via (vec.the_former this Global) Inside (λ X it. it.items) (λ X v. record { items = v }) (λ X it. refl) (λ X v. refl)

module _ (A B : RattleType) (h : A.Denot → B.Denot) where
  abbrev mapped_values : (whole.the_row A).Denot → (whole.the_row B).Denot
  mapped_values = (the_former this).map A.Denot B.Denot h

  -- at two types that are alike the field lies and owns alike, and the view shows its values in their order
  pub the_places : Alike A B h → Alike (whole.the_row A) (whole.the_row B) mapped_values
  the_places alike = view_places vec_inside (list this) view (λ X Y k it. refl) (λ X it. refl) A.Denot B.Denot h (whole.the_row A).coded (whole.the_row B).coded
      (invariant A.Denot) (invariant B.Denot) (λ it p q. refl) (λ it p q. refl) (λ it e. tt) (λ it e. tt)
      (over (inside.the_row A)) (over (inside.the_row B))
      (struct_places (inside.the_type A) (inside.the_type B) (vec.mapped h, tt) _ (λ it. refl) refl (laid _ _ _ (vec.the_places global.the_row ghosts A B h alike), tt))

  pub the_codes_placed : Recodes A B h → Recodes (whole.the_row A) (whole.the_row B) mapped_values
  the_codes_placed same values = sym (code_map A.coded.code B.coded.code h (λ x. sym (same x)) values)
