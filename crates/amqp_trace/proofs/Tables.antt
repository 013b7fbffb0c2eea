-- The tables of names.
use Rattle.std.proofs.Common.{◌≡◌, ◌<◌, ℕ, true, List, length, slice_index_or, refl, sym, ◌∙◌}
use Rattle.std.specs.List.{list_all}
use Rattle.std.specs.Borrow.{Bor}
use Rattle.std.proofs.lemmas.List.Folds.{list_all-map}
use Rattle.std.proofs.lemmas.List.Sums.{AllPass-from_list_all}
use Rattle.amqp_performatives.specs.declared.composite.Composite.{Composite}
use Rattle.amqp_performatives.specs.declared.composite.Composite.TheVariants.{Open, Begin, Attach, Flow, Transfer, Disposition, Detach, End, Close, Error, Received, Accepted, Rejected, Released, Modified}
use Rattle.amqp_trace.specs.Printed.{are_printable}
use Rattle.amqp_trace.specs.Names.{type_name, field_names, AreNames}

pub type_printable : (k : Composite) → are_printable (type_name k) ≡ true
type_printable Open = refl
type_printable Begin = refl
type_printable Attach = refl
type_printable Flow = refl
type_printable Transfer = refl
type_printable Disposition = refl
type_printable Detach = refl
type_printable End = refl
type_printable Close = refl
type_printable Error = refl
type_printable Received = refl
type_printable Accepted = refl
type_printable Rejected = refl
type_printable Released = refl
type_printable Modified = refl

pub fields_printable : (k : Composite) → list_all are_printable (field_names k) ≡ true
fields_printable Open = refl
fields_printable Begin = refl
fields_printable Attach = refl
fields_printable Flow = refl
fields_printable Transfer = refl
fields_printable Disposition = refl
fields_printable Detach = refl
fields_printable End = refl
fields_printable Close = refl
fields_printable Error = refl
fields_printable Received = refl
fields_printable Accepted = refl
fields_printable Rejected = refl
fields_printable Released = refl
fields_printable Modified = refl

pub name_printable : (words : List (Bor (List ℕ))) (i : ℕ) (d : Bor (List ℕ)) → AreNames words → i < length words → are_printable (slice_index_or words i d).now ≡ true
name_printable words i d h below = AllPass-from_list_all (λ (word : Bor (List ℕ)). are_printable word.now) words (sym (list_all-map are_printable (λ (word : Bor (List ℕ)). word.now) words) ∙ h) i d below
