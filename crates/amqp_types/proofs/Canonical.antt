-- The canonical spelling is a spelling.
use Rattle.std.proofs.Common.{◌≡◌, ℕ, zero, suc, ◌+◌, ◌-◌, ◌^◌, ◌<◌, ◌≤◌, Bool, true, false, cond, ltb, leb, eqb, ◌&&◌, List, [], ◌∷◌, ◌++◌, length, Option, Some, None, refl, sym, ap, subst, ◌∙◌, append_assoc, arith, ◌⊎◌, inl, inr}
use Rattle.std.specs.Int.{to_be_bytes, w8, w16, w32, w64}
use Rattle.std.proofs.lemmas.Bool.{eqb-true, ltb-true, ltb-false, leb-true, leb-false, le-ltb}
use Rattle.std.proofs.lemmas.Nat.{from_be_bytes-to_be_bytes_4, from_be_bytes-to_be_bytes_8}
use Rattle.amqp_types.specs.declared.class.Class.{Class}
use Rattle.amqp_types.specs.declared.class.Kind.{Kind}
use Rattle.amqp_types.specs.declared.class.Run.{Run}
use Rattle.amqp_types.specs.declared.class.Conversion.{Conversion}
use Rattle.amqp_types.specs.declared.class.Width.{Width}
use Rattle.std.proofs.lemmas.List.{append-nil}
use Rattle.amqp_types.specs.Codes.{class_of, octets_in, kind_index, run_index}
use Rattle.amqp_types.specs.Datum.{Datum, number, octets, list, map, array, described, Data, none, item, count_of, depth_of}
use Rattle.amqp_types.specs.Grammar.{number_of, read_number, fits, is_run, is_even, is_element, IsField, IsCompound, IsNumberBody, IsOctetsBody, IsListBody, IsMapBody, IsArrayBody, IsDescribedBody, IsPart, IsBody, AreParts, Spells}
use Rattle.amqp_types.specs.Reading.{◌>>=◌}
use Rattle.amqp_types.specs.Canon.{unread_number, field, size_field, number_form, octets_head, compound_head, list_head, map_head, array_head, described_head, Draft, number_draft, octets_draft, list_draft, map_draft, array_draft, described_draft, draft_form, first_or, first_of, codes, spelled, draft, parts_form, canon}
use Rattle.amqp_types.proofs.Compounds.{bind_some, guard_some, guard_past, some_is}

abbrev kind_at : ℕ → Kind
kind_at zero = Kind.Null
kind_at (suc zero) = Kind.Bool
kind_at (suc (suc zero)) = Kind.Ubyte
kind_at (suc (suc (suc zero))) = Kind.Ushort
kind_at (suc (suc (suc (suc zero)))) = Kind.Uint
kind_at (suc (suc (suc (suc (suc zero))))) = Kind.Ulong
kind_at (suc (suc (suc (suc (suc (suc zero)))))) = Kind.Sbyte
kind_at (suc (suc (suc (suc (suc (suc (suc zero))))))) = Kind.Short
kind_at (suc (suc (suc (suc (suc (suc (suc (suc zero)))))))) = Kind.Int
kind_at (suc (suc (suc (suc (suc (suc (suc (suc (suc zero))))))))) = Kind.Long
kind_at (suc (suc (suc (suc (suc (suc (suc (suc (suc (suc zero)))))))))) = Kind.FloatBits
kind_at (suc (suc (suc (suc (suc (suc (suc (suc (suc (suc (suc zero))))))))))) = Kind.DoubleBits
kind_at (suc (suc (suc (suc (suc (suc (suc (suc (suc (suc (suc (suc zero)))))))))))) = Kind.Dec32
kind_at (suc (suc (suc (suc (suc (suc (suc (suc (suc (suc (suc (suc (suc zero))))))))))))) = Kind.Dec64
kind_at (suc (suc (suc (suc (suc (suc (suc (suc (suc (suc (suc (suc (suc (suc zero)))))))))))))) = Kind.Char
kind_at (suc (suc (suc (suc (suc (suc (suc (suc (suc (suc (suc (suc (suc (suc (suc n))))))))))))))) = Kind.Timestamp

kind_at-index : (k : Kind) → kind_at (kind_index k) ≡ k
kind_at-index Kind.Null = refl
kind_at-index Kind.Bool = refl
kind_at-index Kind.Ubyte = refl
kind_at-index Kind.Ushort = refl
kind_at-index Kind.Uint = refl
kind_at-index Kind.Ulong = refl
kind_at-index Kind.Sbyte = refl
kind_at-index Kind.Short = refl
kind_at-index Kind.Int = refl
kind_at-index Kind.Long = refl
kind_at-index Kind.FloatBits = refl
kind_at-index Kind.DoubleBits = refl
kind_at-index Kind.Dec32 = refl
kind_at-index Kind.Dec64 = refl
kind_at-index Kind.Char = refl
kind_at-index Kind.Timestamp = refl

pub same_kind : (k l : Kind) → eqb (kind_index k) (kind_index l) ≡ true → k ≡ l
same_kind k l e = sym (kind_at-index k) ∙ ap kind_at (eqb-true _ _ e) ∙ kind_at-index l

abbrev run_at : ℕ → Run
run_at zero = Run.Binary
run_at (suc zero) = Run.Str
run_at (suc (suc zero)) = Run.Symbol
run_at (suc (suc (suc zero))) = Run.Dec128
run_at (suc (suc (suc (suc n)))) = Run.Uuid

run_at-index : (r : Run) → run_at (run_index r) ≡ r
run_at-index Run.Binary = refl
run_at-index Run.Str = refl
run_at-index Run.Symbol = refl
run_at-index Run.Dec128 = refl
run_at-index Run.Uuid = refl

pub same_run : (k l : Run) → eqb (run_index k) (run_index l) ≡ true → k ≡ l
same_run k l e = sym (run_at-index k) ∙ ap run_at (eqb-true _ _ e) ∙ run_at-index l

and_parts : (a b : Bool) → (a && b) ≡ true → (a ≡ true) × (b ≡ true)
and_parts true b h = (refl, h)
and_parts false b h = absurd cc

pub field_is : (w : Width) (n : ℕ) (h : List ℕ) → field w n ≡ Some h → IsField w n h
unfolding number_of
field_is Width.Zero n h e =
    let g = guard_some (eqb n 0) (Some []) h e in
    subst (λ (x : List ℕ). IsField Width.Zero n x) (some_is [] h g.1) (refl, sym (eqb-true _ _ g.0))
field_is Width.One n h e =
    let g = guard_some (ltb n (2 ^ 8)) (Some (to_be_bytes w8 n)) h e in
    subst (λ (x : List ℕ). IsField Width.One n x) (some_is (to_be_bytes w8 n) h g.1) (refl, let lt : n < 2 ^ 8 = ltb-true _ _ g.0 in omega arith)
field_is Width.Two n h e =
    let g = guard_some (ltb n (2 ^ 16)) (Some (to_be_bytes w16 n)) h e in
    subst (λ (x : List ℕ). IsField Width.Two n x) (some_is (to_be_bytes w16 n) h g.1) (refl, let lt : n < 2 ^ 16 = ltb-true _ _ g.0 in omega arith)
field_is Width.Four n h e =
    let g = guard_some (ltb n (2 ^ 32)) (Some (to_be_bytes w32 n)) h e in
    subst (λ (x : List ℕ). IsField Width.Four n x) (some_is (to_be_bytes w32 n) h g.1) (refl, let lt : n < 2 ^ 32 = ltb-true _ _ g.0 in omega (arith, from_be_bytes-to_be_bytes_4 n lt))
field_is Width.Eight n h e =
    let g = guard_some (ltb n (2 ^ 64)) (Some (to_be_bytes w64 n)) h e in
    subst (λ (x : List ℕ). IsField Width.Eight n x) (some_is (to_be_bytes w64 n) h g.1) (refl, let lt : n < 2 ^ 64 = ltb-true _ _ g.0 in omega (arith, from_be_bytes-to_be_bytes_8 n lt))

chosen : {A : Type 0} (b : Bool) (x y z : A) → cond b x y ≡ z → ((b ≡ true) × (x ≡ z)) ⊎ ((b ≡ false) × (y ≡ z))
chosen true x y z e = inl (refl, e)
chosen false x y z e = inr (refl, e)

-- one octet widened, where low is the number that the least negative one has
widened_is : (low n m : ℕ) → 128 ≤ low → cond (ltb n 128) (Some n) (cond (ltb n low) None (Some (n - (low - 128)))) ≡ Some m → cond (ltb m 128) m (m + (low - 128)) ≡ n
widened_is low n m wide e =
    elim (chosen (ltb n 128) (Some n) (cond (ltb n low) None (Some (n - (low - 128)))) (Some m) e) [
      | inl p ↦ rw (← some_is n m p.1, p.0) refl
      | inr p ↦
          let g = guard_past (ltb n low) (n - (low - 128)) m p.1 in
          let le : low ≤ n = ltb-false _ _ g.0 in
          let test : ltb m 128 ≡ false = le-ltb _ _ (omega (arith, g.1)) in
          rw test (omega (arith, g.1))
    ]

unread_is : (r : Conversion) (n m : ℕ) → unread_number r n ≡ Some m → read_number r m ≡ n
unread_is Conversion.Plain n m e = sym (some_is n m e)
unread_is Conversion.One n m e =
    let g = guard_some (eqb n 1) (Some 0) m e in
    omega (arith, eqb-true _ _ g.0, some_is 0 m g.1)
unread_is Conversion.Widened32 n m e = widened_is (2 ^ 32 - 128) n m (omega arith) e
unread_is Conversion.Widened64 n m e = widened_is (2 ^ 64 - 128) n m (omega arith) e

number_form_is : (class : Class) (k : Kind) (n : ℕ) (b : List ℕ) → number_form class k n ≡ Some b → IsNumberBody class k n b
number_form_is (Class.Number k' w r) k n b e =
    let g = guard_some (eqb (kind_index k') (kind_index k) && fits k n) (unread_number r n >>= field w) b e in
    let p = and_parts (eqb (kind_index k') (kind_index k)) (fits k n) g.0 in
    let m = bind_some (unread_number r n) (field w) b g.1 in
    let f = field_is w m.0 b m.2 in
    (same_kind k' k p.0, f.0, ap (read_number r) f.1 ∙ unread_is r n m.0 m.1, p.1)
number_form_is _ k n b e = absurd cc

size_field_is : (w : Width) (n : ℕ) (h : List ℕ) → size_field w n ≡ Some h → IsField w n h
size_field_is Width.One n h e = field_is Width.One n h e
size_field_is Width.Four n h e = field_is Width.Four n h e
size_field_is _ n h e = absurd cc

number_body : (class : Class) (k : Kind) (n : ℕ) (b : List ℕ) → (number_form class k n >>= λ h. Some (h ++ [])) ≡ Some b → IsNumberBody class k n b
number_body class k n b e =
    let m = bind_some (number_form class k n) (λ h. Some (h ++ [])) b e in
    let same : b ≡ m.0 = sym (some_is (m.0 ++ []) b m.2) ∙ append-nil m.0 in
    subst (λ (x : List ℕ). IsNumberBody class k n x) (sym same) (number_form_is class k n m.0 m.1)

octets_body : (class : Class) (r : Run) (text b : List ℕ) → (octets_head class r text >>= λ h. Some (h ++ text)) ≡ Some b → IsOctetsBody class r text b
octets_body (Class.Octets r' w) r text b e =
    let m = bind_some (octets_head (Class.Octets r' w) r text) (λ h. Some (h ++ text)) b e in
    let g = guard_some (eqb (run_index r') (run_index r) && is_run r text) (size_field w (length text)) m.0 m.1 in
    let p = and_parts (eqb (run_index r') (run_index r)) (is_run r text) g.0 in
    (same_run r' r p.0, p.1, m.0, size_field_is w (length text) m.0 g.1, sym (some_is (m.0 ++ text) b m.2))
octets_body (Class.Sixteen r') r text b e =
    let m = bind_some (octets_head (Class.Sixteen r') r text) (λ h. Some (h ++ text)) b e in
    let g = guard_some (eqb (run_index r') (run_index r) && (is_run r text && eqb (length text) 16)) (Some []) m.0 m.1 in
    let p = and_parts (eqb (run_index r') (run_index r)) (is_run r text && eqb (length text) 16) g.0 in
    let q = and_parts (is_run r text) (eqb (length text) 16) p.1 in
    let nothing : m.0 ≡ [] = sym (some_is [] m.0 g.1) in
    (same_run r' r p.0, q.0, eqb-true _ _ q.1, sym (some_is (m.0 ++ text) b m.2) ∙ ap (λ (x : List ℕ). x ++ text) nothing)
octets_body _ r text b e = absurd cc

compound_body : (w : Width) (count size : ℕ) (content h : List ℕ) → size ≡ length content → compound_head w count size ≡ Some h → IsCompound w count content (h ++ content)
compound_body w count size content h len e =
    let s = bind_some (size_field w (octets_in w + size)) (λ s. size_field w count >>= λ c. Some (s ++ c)) h e in
    let c = bind_some (size_field w count) (λ c. Some (s.0 ++ c)) h s.2 in
    let sized : IsField w (octets_in w + length content) s.0 = rw (← len) (size_field_is w (octets_in w + size) s.0 s.1) in
    record {
      size_field = s.0;
      count_field = c.0;
      size_is = sized;
      count_is = size_field_is w count c.0 c.1;
      parts = ap (λ (x : List ℕ). x ++ content) (sym (some_is (s.0 ++ c.0) h c.2)) ∙ append_assoc s.0 c.0 content;
    }

list_body : (class : Class) (count : ℕ) (content : List ℕ) (P : List ℕ → Type 0) → P content → (count ≡ 0 → content ≡ []) → (b : List ℕ) → (list_head class count (length content) >>= λ h. Some (h ++ content)) ≡ Some b → IsListBody class count P b
list_body Class.EmptyList count content P p empty b e =
    let m = bind_some (list_head Class.EmptyList count (length content)) (λ h. Some (h ++ content)) b e in
    let g = guard_some (eqb count 0) (Some []) m.0 m.1 in
    let none : count ≡ 0 = eqb-true _ _ g.0 in
    let nothing : m.0 ≡ [] = sym (some_is [] m.0 g.1) in
    (none, sym (some_is (m.0 ++ content) b m.2) ∙ ap (λ (x : List ℕ). x ++ content) nothing ∙ empty none)
list_body (Class.List w) count content P p empty b e =
    let m = bind_some (compound_head w count (length content)) (λ h. Some (h ++ content)) b e in
    (content, p, subst (λ (x : List ℕ). IsCompound w count content x) (some_is (m.0 ++ content) b m.2) (compound_body w count (length content) content m.0 refl m.1))
list_body _ count content P p empty b e = absurd cc

map_body : (class : Class) (count : ℕ) (content : List ℕ) (P : List ℕ → Type 0) → P content → (b : List ℕ) → (map_head class count (length content) >>= λ h. Some (h ++ content)) ≡ Some b → IsMapBody class count P b
map_body (Class.Map w) count content P p b e =
    let m = bind_some (map_head (Class.Map w) count (length content)) (λ h. Some (h ++ content)) b e in
    let g = guard_some (is_even count) (compound_head w count (length content)) m.0 m.1 in
    (g.0, content, p, subst (λ (x : List ℕ). IsCompound w count content x) (some_is (m.0 ++ content) b m.2) (compound_body w count (length content) content m.0 refl g.1))
map_body _ count content P p b e = absurd cc

array_body : (class : Class) (code count : ℕ) (bodies : List ℕ) (P : List ℕ → Type 0) → P bodies → (b : List ℕ) → (array_head class code count (length bodies) >>= λ h. Some (h ++ bodies)) ≡ Some b → IsArrayBody class code count P b
array_body (Class.Array w) code count bodies P p b e =
    let m = bind_some (array_head (Class.Array w) code count (length bodies)) (λ h. Some (h ++ bodies)) b e in
    let g = guard_some (is_element (class_of code) count) (compound_head w count (1 + length bodies) >>= λ h. Some (h ++ code ∷ [])) m.0 m.1 in
    let f = bind_some (compound_head w count (1 + length bodies)) (λ h. Some (h ++ code ∷ [])) m.0 g.1 in
    let whole : f.0 ++ (code ∷ bodies) ≡ b = sym (append_assoc f.0 (code ∷ []) bodies) ∙ ap (λ (x : List ℕ). x ++ bodies) (some_is (f.0 ++ code ∷ []) m.0 f.2) ∙ some_is (m.0 ++ bodies) b m.2 in
    (code ∷ bodies, (refl, g.0, p), subst (λ (x : List ℕ). IsCompound w count (code ∷ bodies) x) whole (compound_body w count (1 + length bodies) (code ∷ bodies) f.0 (omega arith) f.1))
array_body _ code count bodies P p b e = absurd cc

described_body : (class : Class) (x y : List ℕ) (P Q : List ℕ → Type 0) → P x → Q y → (b : List ℕ) → (described_head class >>= λ h. Some (h ++ (x ++ y))) ≡ Some b → IsDescribedBody class P Q b
described_body Class.Described x y P Q h k b e = (x, y, h, k, sym (some_is (x ++ y) b e))
described_body _ x y P Q h k b e = absurd cc

-- each body of the draft is one of the value
abbrev IsDraftOf : Datum → Draft → Type 0
IsDraftOf v d = (c : ℕ) (b : List ℕ) → draft_form d (class_of c) ≡ Some b → IsBody v c b

first_or_is : (o : Option (List ℕ)) (c : ℕ) (others : Option (List ℕ)) (B : ℕ → List ℕ → Type 0) → ((b : List ℕ) → o ≡ Some b → B c b) → ((x : List ℕ) → others ≡ Some x → IsPart None B x)
    → (x : List ℕ) → first_or o c others ≡ Some x → IsPart None B x
first_or_is None c others B is is_others x e = is_others x e
first_or_is (Some os) c others B is is_others x e = subst (λ (y : List ℕ). IsPart None B y) (some_is (c ∷ os) x e) (is os refl)

first_is : (v : Datum) (d : Draft) → IsDraftOf v d → (cs : List ℕ) (x : List ℕ) → first_of cs d ≡ Some x → IsPart None (IsBody v) x
first_is v d is [] x e = absurd cc
first_is v d is (c ∷ cs) x e = first_or_is (draft_form d (class_of c)) c (first_of cs d) (IsBody v) (is c) (first_is v d is cs) x e

spelled_is : (v : Datum) (d : Draft) → IsDraftOf v d → (how : Option ℕ) (x : List ℕ) → spelled how d ≡ Some x → IsPart how (IsBody v) x
unfolding spelled
spelled_is v d is None x e = first_is v d is codes x e
spelled_is v d is (Some c) x e = is c x e

same_draft : (v : Datum) (d f : Draft) → Some d ≡ Some f → IsDraftOf v d → IsDraftOf v f
same_draft v d f e h = subst (λ (g : Draft). IsDraftOf v g) (let P : d ≡ f = cc in P) h

pub no_content : (vs : Data) (how : Option ℕ) (x : List ℕ) → parts_form vs how ≡ Some x → count_of vs ≡ 0 → x ≡ []
no_content none how x e h = sym (some_is [] x e)
no_content (item v vs) how x e h = absurd cc

mutual
  draft_is : (v : Datum) (d : Draft) → draft v ≡ Some d → IsDraftOf v d
  draft_is (number k n) d e = same_draft (number k n) (number_draft k n) d e (λ c b h. number_body (class_of c) k n b h)
  draft_is (octets r text) d e = same_draft (octets r text) (octets_draft r text) d e (λ c b h. octets_body (class_of c) r text b h)
  draft_is (list vs) d e =
      let x = bind_some (parts_form vs None) (λ x. Some (list_draft (count_of vs) x)) d e in
      same_draft (list vs) (list_draft (count_of vs) x.0) d x.2 (λ c b h. list_body (class_of c) (count_of vs) x.0 (AreParts vs None) (parts_form_are vs None x.0 x.1) (no_content vs None x.0 x.1) b h)
  draft_is (map vs) d e =
      let x = bind_some (parts_form vs None) (λ x. Some (map_draft (count_of vs) x)) d e in
      same_draft (map vs) (map_draft (count_of vs) x.0) d x.2 (λ c b h. map_body (class_of c) (count_of vs) x.0 (AreParts vs None) (parts_form_are vs None x.0 x.1) b h)
  draft_is (array code vs) d e =
      let x = bind_some (parts_form vs (Some code)) (λ x. Some (array_draft code (count_of vs) x)) d e in
      same_draft (array code vs) (array_draft code (count_of vs) x.0) d x.2 (λ c b h. array_body (class_of c) code (count_of vs) x.0 (AreParts vs (Some code)) (parts_form_are vs (Some code) x.0 x.1) b h)
  draft_is (described w v) d e =
      let x = bind_some (draft w >>= spelled None) (λ a. (draft v >>= spelled None) >>= λ b. Some (described_draft (a ++ b))) d e in
      let y = bind_some (draft v >>= spelled None) (λ b. Some (described_draft (x.0 ++ b))) d x.2 in
      let p = bind_some (draft w) (spelled None) x.0 x.1 in
      let q = bind_some (draft v) (spelled None) y.0 y.1 in
      same_draft (described w v) (described_draft (x.0 ++ y.0)) d y.2 (λ c b h.
      described_body (class_of c) x.0 y.0 (IsPart None (IsBody w)) (IsPart None (IsBody v)) (spelled_is w p.0 (draft_is w p.0 p.1) None x.0 p.2) (spelled_is v q.0 (draft_is v q.0 q.1) None y.0 q.2) b h)

  parts_form_are : (vs : Data) (how : Option ℕ) (x : List ℕ) → parts_form vs how ≡ Some x → AreParts vs how x
  parts_form_are none how x e = sym (some_is [] x e)
  parts_form_are (item v vs) how x e =
      let a = bind_some (draft v >>= spelled how) (λ a. parts_form vs how >>= λ b. Some (a ++ b)) x e in
      let b = bind_some (parts_form vs how) (λ b. Some (a.0 ++ b)) x a.2 in
      let p = bind_some (draft v) (spelled how) a.0 a.1 in
      (a.0, b.0, spelled_is v p.0 (draft_is v p.0 p.1) how a.0 p.2, parts_form_are vs how b.0 b.1, sym (some_is (a.0 ++ b.0) x b.2))

pub canon_spells : (v : Datum) (x : List ℕ) → canon v ≡ Some x → Spells v x
unfolding canon
canon_spells v x e =
    let g = guard_some (leb (depth_of v) 32) (draft v >>= spelled None) x e in
    let p = bind_some (draft v) (spelled None) x g.1 in
    (spelled_is v p.0 (draft_is v p.0 p.1) None x p.2, leb-true _ _ g.0)

pub canon_deep : (v : Datum) → (depth_of v ≤ 32 → ⊥) → canon v ≡ None
unfolding canon
canon_deep v h = elim (chosen (leb (depth_of v) 32) (draft v >>= spelled None) None (canon v) refl) [
  | inl p ↦ absurd (h (leb-true _ _ p.0))
  | inr p ↦ sym p.1
]

pub canon_is : (v : Datum) → depth_of v ≤ 32 → canon v ≡ (draft v >>= spelled None)
unfolding canon
canon_is v h = elim (chosen (leb (depth_of v) 32) (draft v >>= spelled None) None (canon v) refl) [
  | inl p ↦ sym p.1
  | inr p ↦ absurd (omega (arith, leb-false _ _ p.0))
]

pub canon_there : (v : Datum) (x : List ℕ) → canon v ≡ Some x → canon v ≡ (draft v >>= spelled None)
unfolding canon
canon_there v x e = let g = guard_some (leb (depth_of v) 32) (draft v >>= spelled None) x e in e ∙ sym g.1
