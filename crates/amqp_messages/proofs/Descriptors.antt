-- Lists that a descriptor of a type describes.
use Rattle.std.proofs.Common.{◌≡◌, ℕ, inl, inr, Bool, true, false, Some, None, List, refl, sym, ap, subst, ◌∙◌, eq-eqb}
use Rattle.std.proofs.lemmas.Bool.{eqb-true}
use Rattle.std.proofs.lemmas.Slice.Eq.{bytes_eq-Decides}
use Rattle.amqp_types.specs.declared.class.Kind.TheVariants as Kind
use Rattle.amqp_types.specs.declared.class.Run.TheVariants as Run
use Rattle.amqp_types.specs.Datum.{Datum, number, octets, list, map, array, described, Data}
use Rattle.amqp_performatives.specs.Part.{Fields, composite, IsDescriptor, Fits, FitInOrder}
use Rattle.amqp_performatives.specs.Fair.{is_descriptor}
use Rattle.amqp_messages.specs.Termini.{described_in, list_in, IsListOf}

descriptor_true : (type : ℕ × List ℕ) (d : Datum) → is_descriptor type d ≡ true → IsDescriptor type d
descriptor_true type (number Kind.Ulong n) h = inl (ap (number Kind.Ulong) (eqb-true n type.0 h))
descriptor_true type (number _ n) h = absurd cc
descriptor_true type (octets Run.Symbol name) h = inr (ap (octets Run.Symbol) ((bytes_eq-Decides name type.1).0 h))
descriptor_true type (octets _ name) h = absurd cc
descriptor_true type (list ds) h = absurd cc
descriptor_true type (map ds) h = absurd cc
descriptor_true type (array c ds) h = absurd cc
descriptor_true type (described d v) h = absurd cc

true_of : (type : ℕ × List ℕ) (d : Datum) → IsDescriptor type d → is_descriptor type d ≡ true
true_of type d (inl e) = rw e (eq-eqb type.0 type.0 refl)
true_of type d (inr e) = rw e ((bytes_eq-Decides type.1 type.1).1 refl)

same_parts : (v d x e y : Datum) → v ≡ described d x → v ≡ described e y → (d ≡ e) × (x ≡ y)
same_parts v d x e y h g = let k : described d x ≡ described e y = sym h ∙ g in (cc, cc)

same_list : (xs ys : Data) → list xs ≡ list ys → xs ≡ ys
same_list xs ys h = cc

part_is : (v d x : Datum) → Some (described d x) ≡ described_in v → v ≡ described d x
part_is (described d' x') d x h = cc
part_is _ d x h = absurd cc

list_is : (v : Datum) (ds : Data) → Some (list ds) ≡ list_in v → v ≡ list ds
list_is (list ds') ds h = cc
list_is _ ds h = absurd cc

pub none_parts : (type : ℕ × List ℕ) (v : Datum) (ds : Data) → None ≡ described_in v → IsListOf type v ds → ⊥
none_parts type v ds h l = let k : None ≡ Some (described l.0 (list ds)) = h ∙ ap described_in l.2 in cc

pub none_named : (type : ℕ × List ℕ) (v d x : Datum) (ds : Data) (b : Bool) → Some (described d x) ≡ described_in v → b ≡ is_descriptor type d → b ≡ false → IsListOf type v ds → ⊥
none_named type v d x ds b h made not_so l =
    let same = same_parts v d x l.0 (list ds) (part_is v d x h) l.2 in
    let held = true_of type d (subst (λ (e : Datum). IsDescriptor type e) (sym same.0) l.1) in
    let k : false ≡ true = sym not_so ∙ made ∙ held in
    cc

pub none_listed : (type : ℕ × List ℕ) (v d x : Datum) (ds : Data) → Some (described d x) ≡ described_in v → None ≡ list_in x → IsListOf type v ds → ⊥
none_listed type v d x ds h none l =
    let same = same_parts v d x l.0 (list ds) (part_is v d x h) l.2 in
    let k : None ≡ Some (list ds) = none ∙ ap list_in same.1 in
    cc

pub list_found : (type : ℕ × List ℕ) (v d x : Datum) (ds : Data) (b : Bool) → Some (described d x) ≡ described_in v → b ≡ is_descriptor type d → b ≡ true → Some (list ds) ≡ list_in x → IsListOf type v ds
list_found type v d x ds b h made holds there = (d, descriptor_true type d (sym made ∙ holds), part_is v d x h ∙ ap (described d) (list_is x ds there))

-- the fields are those of the list that was found
pub listed : (fs : Fields) (type : ℕ × List ℕ) (v : Datum) (ds : Data) → IsListOf type v ds → Fits (composite type fs) v → FitInOrder fs ds
listed fs type v ds l fit =
    let same = same_parts v fit.0 (list fit.1) l.0 (list ds) fit.4 l.2 in
    subst (λ (z : Data). FitInOrder fs z) (same_list fit.1 ds same.1) fit.3
