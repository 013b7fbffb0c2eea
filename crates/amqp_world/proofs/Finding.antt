-- What is heard next: the frame that waits, at the place of its entry.
use Rattle.std.proofs.Common.{◌≡◌, ◌≤◌, ◌<◌, ◌⊎◌, ℕ, ◌^◌, Option, Some, None, List, length, take, inl, inr, arith, refl, sym, ap, ◌∙◌, subst, IsSome}
use Rattle.std.specs.List.{slice_get}
use Rattle.std.proofs.lemmas.Option.{slice_get_within}
use Rattle.std.proofs.lemmas.List.{length-reverse}
use Rattle.amqp_frames.specs.declared.frame.Frame.{Frame}
use Rattle.amqp_rules.specs.declared.reply.Given.{Given}
use Rattle.amqp_rules.specs.declared.violation.Violation.{Violation}
use Rattle.amqp_rules.specs.declared.violation.ViolationKind.{ViolationKind}
use Rattle.amqp_rules.specs.declared.violation.ViolationKind.TheVariants.{JournalFull as Full, NoMemory}
use Rattle.amqp_rules.specs.Refusing.{no_memory}
use Rattle.amqp_laws.specs.declared.entry.Entry.{Entry}
use Rattle.amqp_laws.specs.declared.entry.Step.TheVariants.{Heard}
use Rattle.amqp_laws.specs.Past.{past}
use Rattle.amqp_journal.specs.Log.{Log, Appends, IsRefusal, heard_due}
use Rattle.amqp_pair_laws.specs.Moves.{count, said_as}
use Rattle.amqp_pair_laws.specs.World.{sends}
use Rattle.amqp_pair_laws.specs.Taken.{NextIsTaken}
use Rattle.amqp_pair_laws.proofs.Lag as lag
use Rattle.amqp_pair_laws.proofs.Opens.{few-by}
use Rattle.amqp_pair_laws.specs.World.{IsFair, hears}
use Rattle.amqp_world.specs.declared.heard.Hearing.{Hearing}
use Rattle.amqp_world.specs.Calls.{waiting}
use Rattle.amqp_world.specs.Knowing.{Meets}
use Rattle.amqp_world.proofs.Appending.{Full', Wanting, heard-appended, only-these}
use Rattle.amqp_world.proofs.Meeting.{IsThere, bounded, meets-place}

-- the place is that of the next frame's entry
pub record Found (h : Hearing) (mine theirs : Log) (f : Frame) : Type 0 where
  pub meets : Meets h mine theirs
  pub waits : waiting mine theirs ≡ Some f
  pub there : IsThere h theirs f

moved-on : (h : Hearing) (place : ℕ) (mine theirs : Log) (entries : List Entry) → Meets h mine theirs → entries ≡ theirs.journal → place ≤ length entries
    → count sends (past (take place entries)) ≡ count sends (past (take h.place entries)) → Meets (record h { place = place }) mine theirs
moved-on h place mine theirs entries m is inside same =
    meets-place h place mine theirs (subst (λ (es : List Entry). place ≤ length es) is inside)
    (subst (λ (es : List Entry). count sends (past (take place es)) ≡ count sends (past (take h.place es))) is same) m

waiting-is : (h : Hearing) (mine theirs : Log) (entries : List Entry) (o : Option Frame) → Meets h mine theirs → entries ≡ theirs.journal → o ≡ said_as sends (count sends (past (take h.place entries))) (past entries)
    → waiting mine theirs ≡ o
waiting-is h mine theirs entries o m is next =
    let next' = subst (λ (es : List Entry). o ≡ said_as sends (count sends (past (take h.place es))) (past es)) is next in
    ap (λ (n : ℕ). said_as sends n (past theirs.journal)) (sym m.all) ∙ sym next'

pub found : (h : Hearing) (place : ℕ) (mine theirs : Log) (entries : List Entry) (f : Frame) → Meets h mine theirs → entries ≡ theirs.journal
    → Some f ≡ said_as sends (count sends (past (take h.place entries))) (past entries) → place ≤ length entries
    → count sends (past (take place entries)) ≡ count sends (past (take h.place entries)) → (e : Entry) × (slice_get entries place ≡ Some e) × (sends e ≡ Some f)
    → Found (record h { place = place }) mine theirs f
found h place mine theirs entries f m is next inside same there =
    record {
      meets = moved-on h place mine theirs entries m is inside same;
      waits = waiting-is h mine theirs entries (Some f) m is next;
      there = record { entry = there.0; is = subst (λ (es : List Entry). slice_get es place ≡ Some there.0) is there.1; sent = there.2 };
    }

pub some-waits : (h : Hearing) (mine theirs : Log) (f : Frame) → Found h mine theirs f → IsSome (waiting mine theirs)
some-waits h mine theirs f x = by (waiting mine theirs) x.waits
  where
    by : (o : Option Frame) → o ≡ Some f → IsSome o
    by (Some g) is = refl
    by None is = absurd (cc (is))

-- the journals are short
their-few : (h : Hearing) (mine theirs : Log) → Meets h mine theirs → length theirs.journal ≤ 2 ^ 30
their-few h mine theirs m =
    let few : length (past theirs.journal) ≤ 2 ^ 30 = few-by theirs.config (past theirs.journal) (lag.all-fair sends hears IsFair theirs.config mine.config m.moves (past theirs.journal) (past mine.journal) m.world) in
    let same : length (past theirs.journal) ≡ length theirs.journal = length-reverse theirs.journal in
    omega (arith, few, same)

-- what the frame that was heard finds
pub record Room (h : Hearing) : Type 0 where
  pub frames : h.frames < 2 ^ 30
  pub firsts : h.firsts < 2 ^ 30
  pub place : h.place < 2 ^ 63

pub room-there : (h : Hearing) (mine new theirs : Log) (f : Frame) (given : Given) → Found h mine theirs f → Appends mine (Heard f) (heard_due mine f) given new → Room h
room-there h mine new theirs f given x a =
    let b = bounded h mine theirs x.meets (heard-appended mine new f given a).room in
    let few : length theirs.journal ≤ 2 ^ 30 = their-few h mine theirs x.meets in
    let inside : h.place < length theirs.journal = slice_get_within theirs.journal h.place x.there.entry x.there.is in
    record { frames = b.frames; firsts = b.firsts; place = omega (arith, few, inside) }

-- a frame that waits is no violation: only these two are told
pub told : NextIsTaken → (h : Hearing) (mine theirs : Log) (f : Frame) (v : Violation) → Found h mine theirs f → IsRefusal no_memory (heard_due mine f) v → Full' mine v ⊎ Wanting mine v
told law h mine theirs f v x r = only-these mine f v (law theirs.config mine.config x.meets.moves (past theirs.journal) (past mine.journal) f x.meets.world x.waits) r

pub full-told : (mine : Log) (v : Violation) → Full' mine v ⊎ Wanting mine v → v.kind ≡ Full → mine.config.journal_limit ≤ length mine.journal
full-told mine v (inl x) is = x.full
full-told mine v (inr x) is = let k : v.kind ≡ NoMemory = ap (λ (v : Violation). v.kind) x.is in absurd (cc (is, k))

pub memory-told : (mine : Log) (v : Violation) → Full' mine v ⊎ Wanting mine v → v.kind ≡ NoMemory → length mine.journal < mine.config.journal_limit
memory-told mine v (inl x) is = let k : v.kind ≡ Full = ap (λ (v : Violation). v.kind) x.is in absurd (cc (is, k))
memory-told mine v (inr x) is = x.room

pub no-other : (mine : Log) (v : Violation) (kind : ViolationKind) → Full' mine v ⊎ Wanting mine v → v.kind ≡ kind → (kind ≡ Full → ⊥) → (kind ≡ NoMemory → ⊥) → ⊥
no-other mine v kind (inl x) is full memory = full (sym is ∙ ap (λ (v : Violation). v.kind) x.is)
no-other mine v kind (inr x) is full memory = memory (sym is ∙ ap (λ (v : Violation). v.kind) x.is)
