-- The spelling of a value from its head and its content, as the writer makes it.
use Rattle.std.proofs.Common.{◌≡◌, ◌≤◌, ◌+◌, ◌-◌, ◌^◌, ◌*◌, ℕ, Bool, true, false, cond, ltb, List, [], ◌∷◌, ◌++◌, length, min, Option, Some, None, Result, Ok, Err, refl, sym, ap, subst, ◌∙◌, append_assoc, arith}
use Rattle.std.proofs.lemmas.Bool.{ltb-true, ltb-false}
use Rattle.std.proofs.lemmas.List.{length-append, append-nil}
use Rattle.std.specs.Borrow.{Bor}
use Rattle.std.specs.Int.{to_be_bytes, w8, w32}
use Rattle.amqp_types.specs.declared.class.Class.{Class}
use Rattle.amqp_types.specs.declared.class.Kind.{Kind}
use Rattle.amqp_types.specs.declared.class.Run.{Run}
use Rattle.amqp_types.specs.declared.class.Width.{Width}
use Rattle.amqp_types.specs.declared.fault.WriteFault.{WriteFault}
use Rattle.amqp_types.specs.declared.fault.WriteFault.TheVariants as fault
use Rattle.amqp_types.specs.declared.forms.Head.{Head}
use Rattle.amqp_types.specs.declared.forms.Head.TheVariants as head
use Rattle.amqp_types.specs.declared.value.Value.{Value}
use Rattle.amqp_types.specs.Codes.{class_of, octets_in}
use Rattle.amqp_types.specs.Datum.{Datum, number, list, map, array, described}
use Rattle.amqp_types.specs.View.{views, views_of_pairs}
use Rattle.amqp_types.specs.Reading.{◌>>=◌}
use Rattle.amqp_types.specs.Canon.{Writes, size_field, compound_head, list_head, map_head, array_head, Draft, number_draft, octets_draft, list_draft, map_draft, array_draft, described_draft, head_of, content_of, spelled, draft, part_form, parts_form, Appends, canon, capped}
use Rattle.amqp_types.specs.Writing.{code_for, compound_code}
use Rattle.amqp_types.specs.Forms.{head_form, head_code, spelled_head, capped_with}
use Rattle.amqp_types.proofs.Canonical.{canon_there}
use Rattle.amqp_types.proofs.Compounds.{some_is}
use Rattle.amqp_types.proofs.Choice.{spelled_with, spelled_under}
use Rattle.amqp_types.proofs.Contents.{count_of-views, count_of-pairs}

-- ---- a size that is told only up to 2 ^ 64 - 1

abbrev pub SameSize : ℕ → ℕ → Type 0
SameSize size len = min size (2 ^ 64 - 1) ≡ min len (2 ^ 64 - 1)

tests_alike : (m n : ℕ) → SameSize m n → (k : ℕ) → k ≤ 2 ^ 60 → (a b : Bool) → ltb m k ≡ a → ltb n k ≡ b → a ≡ b
tests_alike m n s k le true true e f = refl
tests_alike m n s k le false false e f = refl
tests_alike m n s k le true false e f = absurd (omega (arith, s, le, ltb-true _ _ e, ltb-false _ _ f))
tests_alike m n s k le false true e f = absurd (omega (arith, s, le, ltb-false _ _ e, ltb-true _ _ f))

same_size : (m n : ℕ) → SameSize m n → (k : ℕ) → k ≤ 2 ^ 60 → ltb m k ≡ ltb n k
same_size m n s k le = tests_alike m n s k le (ltb m k) (ltb n k) refl refl

field_test : (bound m n : ℕ) (f : ℕ → List ℕ) → bound ≤ 2 ^ 60 → SameSize m n → (b : Bool) → ltb n bound ≡ b → cond (ltb m bound) (Some (f m)) None ≡ cond (ltb n bound) (Some (f n)) None
field_test bound m n f le s true e = let same : m ≡ n = omega (arith, s, le, ltb-true _ _ e) in rw same refl
field_test bound m n f le s false e = let other : ltb m bound ≡ false = same_size m n s bound le ∙ e in rw (e, other) refl

field_same : (bound : ℕ) (m n : ℕ) (f : ℕ → List ℕ) → bound ≤ 2 ^ 60 → SameSize m n → cond (ltb m bound) (Some (f m)) None ≡ cond (ltb n bound) (Some (f n)) None
field_same bound m n f le s = field_test bound m n f le s (ltb n bound) refl

size_field_same : (w : Width) (m n : ℕ) → SameSize m n → size_field w m ≡ size_field w n
size_field_same Width.Zero m n s = refl
size_field_same Width.One m n s = field_same (2 ^ 8) m n (to_be_bytes w8) (omega arith) s
size_field_same Width.Two m n s = refl
size_field_same Width.Four m n s = field_same (2 ^ 32) m n (to_be_bytes w32) (omega arith) s
size_field_same Width.Eight m n s = refl

compound_head_same : (w : Width) (count m n : ℕ) → SameSize m n → compound_head w count m ≡ compound_head w count n
compound_head_same w count m n s = rw (size_field_same w (octets_in w + m) (octets_in w + n) (omega (arith, s))) refl

compound_code_same : (small large count m n : ℕ) → SameSize m n → compound_code small large count m ≡ compound_code small large count n
compound_code_same small large count m n s = rw (same_size (1 + m) (1 + n) (omega (arith, s)) 256 (omega arith)) refl

-- ---- heads of drafts

pub record IsHeadOf (d : Draft) (h : Head) : Type 0 where
  pub form : (class : Class) → head_form h class ≡ head_of d class
  pub code : head_code h ≡ code_for d

pub number_head_of : (k : Kind) (n : ℕ) → IsHeadOf (number_draft k n) (head.Number k n)
number_head_of k n = record { form = λ class. refl; code = refl }

pub octets_head_of : (r : Run) (text : Bor (List ℕ)) → IsHeadOf (octets_draft r text.now) (head.Octets r text)
octets_head_of r text = record { form = λ class. refl; code = refl }

list_head_same : (class : Class) (count m n : ℕ) → SameSize m n → list_head class count m ≡ list_head class count n
list_head_same (Class.List w) count m n s = compound_head_same w count m n s
list_head_same _ count m n s = refl

map_head_same : (class : Class) (count m n : ℕ) → SameSize m n → map_head class count m ≡ map_head class count n
map_head_same (Class.Map w) count m n s = rw (compound_head_same w count m n s) refl
map_head_same _ count m n s = refl

array_head_same : (class : Class) (code count m n : ℕ) → SameSize m n → array_head class code count m ≡ array_head class code count n
array_head_same (Class.Array w) code count m n s = rw (compound_head_same w count (1 + m) (1 + n) (omega (arith, s))) refl
array_head_same _ code count m n s = refl

pub list_head_of : (count size : ℕ) (content : List ℕ) → SameSize size (length content) → IsHeadOf (list_draft count content) (head.List count size)
list_head_of count size content s = record { form = λ class. list_head_same class count size (length content) s; code = rw (compound_code_same 0xc0 0xd0 count size (length content) s) refl }

pub map_head_of : (count size : ℕ) (content : List ℕ) → SameSize size (length content) → IsHeadOf (map_draft count content) (head.Map count size)
map_head_of count size content s = record { form = λ class. map_head_same class count size (length content) s; code = compound_code_same 0xc1 0xd1 count size (length content) s }

pub array_head_of : (code count size : ℕ) (bodies : List ℕ) → SameSize size (length bodies) → IsHeadOf (array_draft code count bodies) (head.Array code count size)
array_head_of code count size bodies s = record { form = λ class. array_head_same class code count size (length bodies) s; code = compound_code_same 0xe0 0xf0 count (1 + size) (1 + length bodies) (omega (arith, s)) }

pub described_head_of : (content : List ℕ) → IsHeadOf (described_draft content) head.Described
described_head_of content = record { form = λ class. refl; code = refl }

-- ---- the spelling of a draft

under_code : (o p : Option (List ℕ)) (c : ℕ) (content : List ℕ) → o ≡ p → ((o >>= λ h. Some (h ++ content)) >>= λ b. Some (c ∷ b)) ≡ ((p >>= λ os. Some (c ∷ os)) >>= λ x. Some (x ++ content))
under_code (Some x) p c content e = rw (← e) refl
under_code None p c content e = rw (← e) refl

pub spelled_from_head : (d : Draft) (h : Head) → IsHeadOf d h → (how : Option ℕ) → spelled how d ≡ (spelled_head how h >>= λ x. Some (x ++ content_of d))
spelled_from_head d h is None =
    spelled_with d ∙ rw is.code (under_code (head_of d (class_of (code_for d))) (head_form h (class_of (code_for d))) (code_for d) (content_of d) (sym (is.form (class_of (code_for d)))))
spelled_from_head d h is (Some c) = spelled_under d c ∙ rw (is.form (class_of c)) refl

pub part_from_head : (v : Datum) (d : Draft) (h : Head) → draft v ≡ Some d → IsHeadOf d h → (how : Option ℕ) → part_form how v ≡ (spelled_head how h >>= λ x. Some (x ++ content_of d))
part_from_head v d h e is how = rw e (spelled_from_head d h is how)

-- ---- its length

capped_content : (o : Option (List ℕ)) (content : List ℕ) (size : ℕ) → SameSize size (length content) → capped_with size o ≡ capped (o >>= λ x. Some (x ++ content))
capped_content (Some x) content size s = ap (λ (k : ℕ). Some k) (rw (length-append x content) (omega (arith, s)))
capped_content None content size s = refl

pub part_len_from : (v : Datum) (d : Draft) (h : Head) (how : Option ℕ) (size : ℕ) → draft v ≡ Some d → IsHeadOf d h → SameSize size (length (content_of d)) → capped_with size (spelled_head how h) ≡ capped (part_form how v)
part_len_from v d h how size e is s = capped_content (spelled_head how h) (content_of d) size s ∙ ap capped (sym (part_from_head v d h e is how))

pub capped_some : (f : Option (List ℕ)) (n : ℕ) → Some n ≡ capped f → (x : List ℕ) × (f ≡ Some x) × SameSize n (length x)
capped_some (Some x) n e = (x, refl, let q : n ≡ min (length x) (2 ^ 64 - 1) = cc in omega (arith, q))
capped_some None n e = absurd cc

-- ---- drafts of values with parts

pub list_drafted : (vs : List Value) (content : List ℕ) → parts_form (views vs) None ≡ Some content → draft (list (views vs)) ≡ Some (list_draft (length vs) content)
list_drafted vs content h = rw (h, count_of-views vs) refl

pub map_drafted : (ps : List (Value × Value)) (content : List ℕ) → parts_form (views_of_pairs ps) None ≡ Some content → draft (map (views_of_pairs ps)) ≡ Some (map_draft (2 * length ps) content)
map_drafted ps content h = rw (h, count_of-pairs ps) refl

pub array_drafted : (c : ℕ) (vs : List Value) (content : List ℕ) → parts_form (views vs) (Some c) ≡ Some content → draft (array c (views vs)) ≡ Some (array_draft c (length vs) content)
array_drafted c vs content h = rw (h, count_of-views vs) refl

pub described_drafted : (d v : Datum) (a b : List ℕ) → part_form None d ≡ Some a → part_form None v ≡ Some b → draft (described d v) ≡ Some (described_draft (a ++ b))
described_drafted d v a b h k = rw (h, k) refl

-- ---- writing

pub writes_behind : (head_octets content : List ℕ) (start middle end : List ℕ) (form : Option (List ℕ)) → form ≡ Some (head_octets ++ content) → middle ≡ start ++ head_octets → end ≡ middle ++ content → Appends form start end
writes_behind h content start middle end form e m f = (h ++ content, e, f ∙ ap (λ (x : List ℕ). x ++ content) m ∙ append_assoc start h content)

abbrev pub fails : WriteFault → Result (Unit {0}) WriteFault
fails x = Err x

-- the head, and then the content
pub put_content : (v : Datum) (d : Draft) (h : Head) (how : Option ℕ) → draft v ≡ Some d → IsHeadOf d h → (start middle end : List ℕ) → Appends (spelled_head how h) start middle → end ≡ middle ++ content_of d → Appends (part_form how v) start end
put_content v d h how e is start middle end a f =
    writes_behind a.0 (content_of d) start middle end (part_form how v) (part_from_head v d h e is how ∙ rw a.1 refl) a.2 f

pub put_no_head : (v : Datum) (d : Draft) (h : Head) (how : Option ℕ) → draft v ≡ Some d → IsHeadOf d h → spelled_head how h ≡ None → part_form how v ≡ None
put_no_head v d h how e is none = part_from_head v d h e is how ∙ rw none refl

pub fails_head : (v : Datum) (d : Draft) (h : Head) (how : Option ℕ) → draft v ≡ Some d → IsHeadOf d h → (x : WriteFault) (start middle : List ℕ)
    → Writes (spelled_head how h) (fails x) start middle → Writes (part_form how v) (fails x) start middle
fails_head v d h how e is fault.NoMemory s m w = tt
fails_head v d h how e is fault.NotWritable s m w = put_no_head v d h how e is w

pub writes_number : (v : Datum) (k : Kind) (n : ℕ) → number k n ≡ v → (how : Option ℕ) (r : Result (Unit {0}) WriteFault) (start end : List ℕ) → Writes (spelled_head how (head.Number k n)) r start end → Writes (part_form how v) r start end
writes_number v k n same how (Ok x) start end w =
    subst (λ (u : Datum). Appends (part_form how u) start end) same
    (put_content (number k n) (number_draft k n) (head.Number k n) how refl (number_head_of k n) start end end w (sym (append-nil end)))
writes_number v k n same how (Err x) start end w =
    subst (λ (u : Datum). Writes (part_form how u) (fails x) start end) same (fails_head (number k n) (number_draft k n) (head.Number k n) how refl (number_head_of k n) x start end w)

pub put_parts_behind : (v : Datum) (d : Draft) (h : Head) (how : Option ℕ) → draft v ≡ Some d → IsHeadOf d h → (parts : Option (List ℕ)) → parts ≡ Some (content_of d)
    → {X : Type 0} (r : Result X WriteFault) (start middle end : List ℕ) → Appends (spelled_head how h) start middle → Writes parts r middle end → Writes (part_form how v) r start end
put_parts_behind v d h how e is parts there (Ok x) start middle end a w =
    let same : w.0 ≡ content_of d = some_is w.0 (content_of d) (sym w.1 ∙ there) in
    put_content v d h how e is start middle end a (w.2 ∙ ap (λ (y : List ℕ). middle ++ y) same)
put_parts_behind v d h how e is parts there (Err fault.NoMemory) start middle end a w = tt
put_parts_behind v d h how e is parts there (Err fault.NotWritable) start middle end a w = absurd (let q : ◌≡◌ {A = Option (List ℕ)} None (Some (content_of d)) = sym w ∙ there in cc)

pub both_sizes : (m n k : ℕ) (a b : List ℕ) → SameSize m (length a) → SameSize n (length b) → k ≡ min (m + n) (2 ^ 64 - 1) → SameSize k (length (a ++ b))
both_sizes m n k a b s r e = rw (length-append a b) (omega (arith, s, r, e))

no_second : (o p : Option (List ℕ)) → p ≡ None → (o >>= λ a. p >>= λ b. Some (described_draft (a ++ b))) ≡ None
no_second (Some a) p e = rw e refl
no_second None p e = refl

no_described : (d v : Datum) (how : Option ℕ) → part_form None v ≡ None → part_form how (described d v) ≡ None
no_described d v how e = rw (no_second (part_form None d) (part_form None v) e) refl

pub no_descriptor : (d v : Datum) (how : Option ℕ) → part_form None d ≡ None → part_form how (described d v) ≡ None
no_descriptor d v how e = rw e refl

headless : (how : Option ℕ) → spelled_head how head.Described ≡ None → (d v : Datum) (o p : Option (List ℕ)) → part_form None d ≡ o → part_form None v ≡ p → part_form how (described d v) ≡ None
headless how e d v None p f g = no_descriptor d v how f
headless how e d v (Some a) None f g = no_described d v how g
headless how e d v (Some a) (Some b) f g = put_no_head (described d v) (described_draft (a ++ b)) head.Described how (described_drafted d v a b f g) (described_head_of (a ++ b)) e

pub fails_described_head : (how : Option ℕ) (d v : Datum) (x : WriteFault) (start middle : List ℕ) → Writes (spelled_head how head.Described) (fails x) start middle → Writes (part_form how (described d v)) (fails x) start middle
fails_described_head how d v fault.NoMemory start middle w = tt
fails_described_head how d v fault.NotWritable start middle w = headless how w d v (part_form None d) (part_form None v) refl refl

pub described_behind : (d v : Datum) (how : Option ℕ) (r : Result (Unit {0}) WriteFault) (start middle behind end : List ℕ)
    → Appends (spelled_head how head.Described) start middle → Appends (part_form None d) middle behind → Writes (part_form None v) r behind end → Writes (part_form how (described d v)) r start end
described_behind d v how (Ok x) start middle behind end a b w =
    put_content (described d v) (described_draft (b.0 ++ w.0)) head.Described how (described_drafted d v b.0 w.0 b.1 w.1) (described_head_of (b.0 ++ w.0)) start middle end a
    (w.2 ∙ ap (λ (y : List ℕ). y ++ w.0) b.2 ∙ append_assoc middle b.0 w.0)
described_behind d v how (Err fault.NoMemory) start middle behind end a b w = tt
described_behind d v how (Err fault.NotWritable) start middle behind end a b w = no_described d v how w

-- what was written beside and then behind
pub written_behind : (v : Datum) (size : ℕ) (nothing start beside end : List ℕ) → Some size ≡ capped (canon v) → Appends (part_form None v) nothing beside → nothing ≡ [] → end ≡ start ++ beside → Appends (canon v) start end
written_behind v size nothing start beside end there a none f =
    let s = capped_some (canon v) size there in
    (a.0, canon_there v s.0 s.1 ∙ a.1, f ∙ ap (λ (y : List ℕ). start ++ y) (a.2 ∙ ap (λ (y : List ℕ). y ++ a.0) none))
