-- Two ends go on as two ends with each entry of one.
use Rattle.std.proofs.Common.{suc, ◌≡◌, ◌≤◌, ◌<◌, ℕ, ◌+◌, ◌^◌, ◌&&◌, ◌||◌, not, Bool, true, false, cond, Option, Some, None, List, [], ◌∷◌, ◌++◌, length, take, inl, inr, arith, refl, sym, ap, ◌∙◌, subst, length-append, is_some}
use Rattle.std.specs.List.{slice_get}
use Rattle.std.specs.Option.{option_and_then}
use Rattle.std.proofs.lemmas.List.{length-reverse}
use Rattle.std.proofs.lemmas.Option.{slice_get_within}
use Rattle.amqp_performatives.specs.declared.bodies.TransferBody.{TransferBody}
use Rattle.amqp_performatives.specs.declared.bodies.Role.TheVariants.{Receiver}
use Rattle.amqp_performatives.specs.declared.performative.Performative.{Performative}
use Rattle.amqp_performatives.specs.declared.performative.Performative.TheVariants as body
use Rattle.amqp_frames.specs.declared.frame.Frame.{Frame}
use Rattle.amqp_rules.specs.declared.config.Config.{Config}
use Rattle.amqp_rules.specs.declared.op.Op.{Op}
use Rattle.amqp_rules.specs.declared.op.Op.TheVariants.{Dispose, Rejoin, Resume}
use Rattle.amqp_rules.specs.declared.reply.Reply.{Reply}
use Rattle.amqp_rules.specs.declared.reply.Given.{Given}
use Rattle.amqp_rules.specs.Limits.{IsWithinLimits}
use Rattle.amqp_laws.specs.declared.entry.Entry.{Entry}
use Rattle.amqp_laws.specs.declared.entry.Step.{Step}
use Rattle.amqp_laws.specs.declared.entry.Step.TheVariants.{Own, Heard}
use Rattle.amqp_laws.specs.Past.{past, some_entry}
use Rattle.amqp_laws.specs.Said.{ends, hears_no_end, is_own_end, transfer_in}
use Rattle.amqp_laws.specs.Live.{live}
use Rattle.amqp_laws.specs.At.{at}
use Rattle.amqp_laws.specs.Lawful.{Answers}
use Rattle.amqp_laws.specs.Said.{max_in}
use Rattle.amqp_laws.specs.Written.{AreInRange, IsStepInRange}
use Rattle.amqp_rules.specs.Ranges.{IsBodyInRange, IsOpInRange}
use Rattle.amqp_journal.specs.Log.{Log, Appends, logging, own_due, heard_due}
use Rattle.amqp_pair_laws.specs.Moves.{and_one, count, said_as}
use Rattle.amqp_pair_laws.specs.World.{IsFair, World, hears, sends}
use Rattle.amqp_pair_laws.specs.Premise.{IsPlain, KeepsToHeard, ids_heard}
use Rattle.amqp_pair_laws.proofs.Lag.{and_one-few}
use Rattle.amqp_world.specs.Calls.{resumes, waiting}
use Rattle.amqp_world.specs.Octets.{OpensOnce}
use Rattle.amqp_world.specs.declared.heard.Hearing.{Hearing}
use Rattle.amqp_world.specs.Knowing.{Knows, Meets, having_done, having_heard, reaches_ahead, serials}
use Rattle.amqp_world.proofs.Places.{back-one, count-stays, count-there}
use Rattle.amqp_world.proofs.Ranges.{all-heard, not-heard, serials-length}
use Rattle.amqp_world.proofs.HeardIds.{heard-serials, ids-few}
use Rattle.amqp_world.proofs.Appending.{own-appended, heard-appended}

by-bool : {P : Type 0} (b : Bool) → (b ≡ true → P) → (b ≡ false → P) → P
by-bool true t f = t refl
by-bool false t f = f refl

-- # The journal

-- what an entry more is, backwards
pub back-logged : (l : Log) (step : Step) (reply : Reply) → past (logging l step reply).journal ≡ record { step = step; reply = reply } ∷ past l.journal
back-logged l step reply = back-one l.journal (record { step = step; reply = reply })

-- an entry that was appended is fair
pub fair-there : (l : Log) (step : Step) (reply : Reply) → IsWithinLimits l.config → length l.journal < l.config.journal_limit → Answers (at l.config (past l.journal)) step reply → KeepsToHeard step (past l.journal) → IsPlain step
    → IsFair l.config (record { step = step; reply = reply }) (past l.journal)
fair-there l step reply limits room answers told plain =
    let same : length (past l.journal) ≡ length l.journal = length-reverse l.journal in
    record { limits = limits; room = omega (arith, same, room); answers = answers; told = told; plain = plain }

-- # What the other end hears

-- what waits is the next frame, or the step hears none
abbrev pub HearsNext : Step → Log → Log → Type 0
HearsNext (Heard f) mine theirs = waiting mine theirs ≡ Some f
HearsNext _ mine theirs = Unit {0}

pub record Goes (mine theirs : Log) (step : Step) (reply : Reply) : Type 0 where
  pub limits : IsWithinLimits mine.config
  pub room : length mine.journal < mine.config.journal_limit
  pub answers : Answers (at mine.config (past mine.journal)) step reply
  pub told : KeepsToHeard step (past mine.journal)
  pub plain : IsPlain step
  pub range : IsStepInRange step
  pub later : max_in step ≡ None
  pub next : HearsNext step mine theirs

-- no entry but the first is the peer's open
later-opens : (told : ℕ) (e : Entry) (past : List Entry) → max_in e.step ≡ None → OpensOnce told past → OpensOnce told (e ∷ past)
later-opens told e [] none opens = absurd opens
later-opens told e (x ∷ past) none opens = (none, opens)

-- the move, at the end that hears
world-hears : (mine theirs : Log) (step : Step) (reply : Reply) (moves : ℕ) → Goes mine theirs step reply → World theirs.config mine.config moves (past theirs.journal) (past mine.journal)
    → World theirs.config mine.config (suc moves) (past theirs.journal) (past (logging mine step reply).journal)
world-hears mine theirs step reply moves g w =
    subst (λ (p : List Entry). World theirs.config mine.config (suc moves) (past theirs.journal) p) (sym (back-logged mine step reply)) (by step g)
  where
    by : (step : Step) → Goes mine theirs step reply → World theirs.config mine.config (suc moves) (past theirs.journal) (record { step = step; reply = reply } ∷ past mine.journal)
    by (Heard f) g = inr (w, record { fair = fair-there mine (Heard f) reply g.limits g.room g.answers g.told g.plain; next = g.next })
    by step g = inr (w, record { fair = fair-there mine step reply g.limits g.room g.answers g.told g.plain; next = tt })

-- and at the end that is heard
world-heard : (mine theirs : Log) (step : Step) (reply : Reply) (moves : ℕ) → Goes mine theirs step reply → World mine.config theirs.config moves (past mine.journal) (past theirs.journal)
    → World mine.config theirs.config (suc moves) (past (logging mine step reply).journal) (past theirs.journal)
world-heard mine theirs step reply moves g w =
    subst (λ (p : List Entry). World mine.config theirs.config (suc moves) p (past theirs.journal)) (sym (back-logged mine step reply)) (by step g)
  where
    by : (step : Step) → Goes mine theirs step reply → World mine.config theirs.config (suc moves) (record { step = step; reply = reply } ∷ past mine.journal) (past theirs.journal)
    by (Heard f) g = inl (w, record { fair = fair-there mine (Heard f) reply g.limits g.room g.answers g.told g.plain; next = g.next })
    by step g = inl (w, record { fair = fair-there mine step reply g.limits g.room g.answers g.told g.plain; next = tt })

-- the other end meets it as before
pub met : (h : Hearing) (mine theirs : Log) (step : Step) (reply : Reply) → Goes mine theirs step reply → Meets h theirs mine → Meets h theirs (logging mine step reply)
met h mine theirs step reply g m =
    let e : Entry = record { step = step; reply = reply } in
    let inside : h.place ≤ length mine.journal = m.within in
    let longer : length (mine.journal ++ e ∷ []) ≡ length mine.journal + 1 = length-append mine.journal (e ∷ []) in
    record {
      limits = m.limits;
      their_limits = m.their_limits;
      whole = m.whole;
      unput = m.unput;
      opens = (m.opens.0, subst (λ (p : List Entry). OpensOnce m.opens.0 p) (sym (back-logged mine step reply)) (later-opens m.opens.0 e (past mine.journal) g.later m.opens.1));
      range = subst (λ (p : List Entry). AreInRange p) (sym (back-logged mine step reply)) (g.range, m.range);
      moves = suc m.moves;
      world = world-heard mine theirs step reply m.moves g m.world;
      knows = m.knows;
      first = m.first;
      within = omega (arith, inside, longer);
      all = count-stays sends mine.journal (e ∷ []) h.place m.within ∙ m.all;
    }

-- # What this end knows

pub ids-number : (h : Hearing) (mine : List Entry) → Knows h mine → h.firsts ≡ length (ids_heard (live mine))
ids-number h mine k = sym (ap length k.ids ∙ serials-length h.first_id h.firsts)

and-false : (b : Bool) → b && false ≡ false
and-false true = refl
and-false false = refl

-- an operation is never dropped
own-live : (mine : List Entry) (op : Op) (reply : Reply) → live (record { step = Own op; reply = reply } ∷ mine) ≡ record { step = Own op; reply = reply } ∷ live mine
own-live mine op reply = rw (and-false (some_entry ends (live mine))) refl

-- after an operation
pub knows-done : (h : Hearing) (mine : List Entry) (op : Op) (reply : Reply) → Knows h mine → Knows (having_done op h) (record { step = Own op; reply = reply } ∷ mine)
knows-done h mine op reply k =
    record {
      frames = k.frames;
      ids = ap ids_heard (own-live mine op reply) ∙ k.ids;
      few = k.few;
      ended = by (is_own_end (Some op)) ∙ sym (ap (some_entry ends) (own-live mine op reply));
    }
  where
    by : (is : Bool) → cond is true h.ended ≡ is || some_entry ends (live mine)
    by true = refl
    by false = k.ended

-- the id of a first transfer
abbrev id_of : Frame → Option ℕ
id_of f = option_and_then (λ t. t.delivery_id) (transfer_in f.body)

record Named (f : Frame) (id : ℕ) : Type 0 where
  transfer : TransferBody
  is : f.body ≡ Some (body.Transfer transfer)
  named : transfer.delivery_id ≡ Some id

named-by : (f : Frame) (id : ℕ) → id_of f ≡ Some id → Named f id
named-by f id h = by f.body refl h
  where
    by : (o : Option Performative) → f.body ≡ o → option_and_then (λ t. t.delivery_id) (transfer_in o) ≡ Some id → Named f id
    by (Some (body.Transfer t)) is h = record { transfer = t; is = is; named = h }
    by _ is h = absurd (cc (h))

-- after a frame
pub knows-heard : (ca cb : Config) (n : ℕ) (a : List Entry) (h : Hearing) (mine : List Entry) (f : Frame) (reply : Reply) → Knows h mine → h.first_id ≡ ca.first_id → World ca cb n a mine
    → said_as sends (count hears mine) a ≡ Some f → IsFair cb (record { step = Heard f; reply = reply }) mine → Knows (having_heard f h) (record { step = Heard f; reply = reply } ∷ mine)
knows-heard ca cb n a h mine f reply k first w waits fair =
    record {
      frames = ap (λ (m : ℕ). m + 1) k.frames;
      ids = ids (id_of f) refl;
      few = few';
      ended = still (some_entry ends (live mine) && hears_no_end (Heard f));
    }
  where
    e : Entry
    e = record { step = Heard f; reply = reply }

    still : (dropped : Bool) → h.ended ≡ some_entry ends (cond dropped (live mine) (e ∷ live mine))
    still true = k.ended
    still false = k.ended

    same : (dropped : Bool) → id_of f ≡ None → ids_heard (cond dropped (live mine) (e ∷ live mine)) ≡ ids_heard (live mine)
    same true none = refl
    same false none = rw none refl

    ids : (o : Option ℕ) → id_of f ≡ o → ids_heard (live (e ∷ mine)) ≡ serials h.first_id (having_heard f h).firsts
    ids None none = same (some_entry ends (live mine) && hears_no_end (Heard f)) none ∙ k.ids ∙ ap (λ (m : ℕ). serials h.first_id m) (sym (as-none (not h.ended)))
      where
        as-none : (b : Bool) → cond (b && is_some (id_of f)) (h.firsts + 1) h.firsts ≡ h.firsts
        as-none true = rw none refl
        as-none false = refl
    ids (Some id) named =
        let x = named-by f id named in
        by-bool h.ended
        (λ (t : h.ended ≡ true).
        let over : some_entry ends (live mine) ≡ true = sym k.ended ∙ t in
        let is = x.is in
        let dropped : live (e ∷ mine) ≡ live mine = rw (over, is) refl in
        let same-count : (having_heard f h).firsts ≡ h.firsts = rw t refl in
        ap ids_heard dropped ∙ k.ids ∙ ap (λ (m : ℕ). serials h.first_id m) (sym same-count))
        (λ (u : h.ended ≡ false).
        let unsent : some_entry ends (live mine) ≡ false = sym k.ended ∙ u in
        let here : live (e ∷ mine) ≡ e ∷ live mine = rw unsent refl in
        let more : ids_heard (live (e ∷ mine)) ≡ id ∷ ids_heard (live mine) = ap ids_heard here ∙ rw named refl in
        let one : (having_heard f h).firsts ≡ h.firsts + 1 = rw (u, named) refl in
        let known : ids_heard (live mine) ≡ serials ca.first_id h.firsts = k.ids ∙ ap (λ (i : ℕ). serials i h.firsts) first in
        let all = heard-serials ca cb n a mine f x.transfer id reply h.firsts w waits fair x.is x.named unsent known in
        more ∙ all ∙ ap (λ (i : ℕ). serials i (h.firsts + 1)) (sym first) ∙ ap (λ (m : ℕ). serials h.first_id m) (sym one))

    few' : (having_heard f h).firsts ≤ 2 ^ 30
    few' =
        let number : length (ids_heard (live (e ∷ mine))) ≡ (having_heard f h).firsts = ap length (ids (id_of f) refl) ∙ serials-length h.first_id (having_heard f h).firsts in
        let some : length (ids_heard (live (e ∷ mine))) ≤ length (e ∷ mine) = ids-few (e ∷ mine) in
        let room : length mine < cb.journal_limit = fair.room in
        let limit : cb.journal_limit ≤ 1073741824 = fair.limits.few in
        by (length (ids_heard (live (e ∷ mine)))) (having_heard f h).firsts (length mine) cb.journal_limit number some room limit
      where
        by : (l n m limit : ℕ) → l ≡ n → l ≤ suc m → m < limit → limit ≤ 1073741824 → n ≤ 2 ^ 30
        by l n m limit e s r f = omega (arith, e, s, r, f)

-- # Calls

is-plain : (op : Op) → resumes op ≡ false → IsPlain (Own op)
is-plain (Rejoin r) h = absurd (cc (h))
is-plain (Resume link tag settled) h = absurd (cc (h))
is-plain _ h = tt

-- an operation that keeps to what was heard
goes-own : (h : Hearing) (mine theirs : Log) (op : Op) (reply : Reply) → IsWithinLimits mine.config → length mine.journal < mine.config.journal_limit → Answers (at mine.config (past mine.journal)) (Own op) reply
    → KeepsToHeard (Own op) (past mine.journal) → resumes op ≡ false → IsOpInRange op → Goes mine theirs (Own op) reply
goes-own h mine theirs op reply limits room answers told plain range = record { limits = limits; room = room; answers = answers; told = told; plain = is-plain op plain; range = range; later = refl; next = tt }

done-meets : (h : Hearing) (mine theirs : Log) (op : Op) (reply : Reply) → Goes mine theirs (Own op) reply → Meets h mine theirs → Meets (having_done op h) (logging mine (Own op) reply) theirs
done-meets h mine theirs op reply g m =
    record {
      limits = m.limits;
      their_limits = m.their_limits;
      whole = m.whole;
      unput = m.unput;
      opens = m.opens;
      range = m.range;
      moves = suc m.moves;
      world = world-hears mine theirs (Own op) reply m.moves g m.world;
      knows = subst (λ (p : List Entry). Knows (having_done op h) p) (sym (back-logged mine (Own op) reply)) (knows-done h (past mine.journal) op reply m.knows);
      first = m.first;
      within = m.within;
      all = m.all ∙ sym (ap (λ (p : List Entry). count hears p) (back-logged mine (Own op) reply));
    }

pub own-meets : (h : Hearing) (mine new theirs : Log) (op : Op) (given : Given) → KeepsToHeard (Own op) (past mine.journal) → resumes op ≡ false → IsOpInRange op → Appends mine (Own op) (own_due mine op) given new → Meets h mine theirs
    → Meets (having_done op h) new theirs
own-meets h mine new theirs op given told plain range h' m =
    let a = own-appended mine new op given h' in
    subst (λ (l : Log). Meets (having_done op h) l theirs) (sym a.is) (done-meets h mine theirs op a.reply (goes-own h mine theirs op a.reply m.limits a.room a.answers told plain range) m)

pub own-met : (h : Hearing) (mine new theirs : Log) (op : Op) (given : Given) → KeepsToHeard (Own op) (past mine.journal) → resumes op ≡ false → IsOpInRange op → Appends mine (Own op) (own_due mine op) given new → Meets h theirs mine
    → Meets h theirs new
own-met h mine new theirs op given told plain range h' m =
    let a = own-appended mine new op given h' in
    subst (λ (l : Log). Meets h theirs l) (sym a.is) (met h mine theirs (Own op) a.reply (goes-own h mine theirs op a.reply m.their_limits a.room a.answers told plain range) m)

goes-heard : (mine theirs : Log) (f : Frame) (reply : Reply) → IsWithinLimits mine.config → length mine.journal < mine.config.journal_limit → Answers (at mine.config (past mine.journal)) (Heard f) reply
    → waiting mine theirs ≡ Some f → IsBodyInRange f.body → Goes mine theirs (Heard f) reply
goes-heard mine theirs f reply limits room answers waits range = record { limits = limits; room = room; answers = answers; told = tt; plain = tt; range = range; later = refl; next = waits }

-- the place of the frame's entry was found
pub record IsThere (h : Hearing) (theirs : Log) (f : Frame) : Type 0 where
  pub entry : Entry
  pub is : slice_get theirs.journal h.place ≡ Some entry
  pub sent : sends entry ≡ Some f

heard-by : (h : Hearing) (mine theirs : Log) (f : Frame) (reply : Reply) → Goes mine theirs (Heard f) reply → IsThere h theirs f → Meets h mine theirs → Meets (having_heard f h) (logging mine (Heard f) reply) theirs
heard-by h mine theirs f reply g there m =
    let inside : h.place < length theirs.journal = slice_get_within theirs.journal h.place there.entry there.is in
    record {
      limits = m.limits;
      their_limits = m.their_limits;
      whole = m.whole;
      unput = m.unput;
      opens = m.opens;
      range = m.range;
      moves = suc m.moves;
      world = world-hears mine theirs (Heard f) reply m.moves g m.world;
      knows =
          subst (λ (p : List Entry). Knows (having_heard f h) p) (sym (back-logged mine (Heard f) reply))
          (knows-heard theirs.config mine.config m.moves (past theirs.journal) h (past mine.journal) f reply m.knows m.first m.world g.next (fair-there mine (Heard f) reply g.limits g.room g.answers g.told g.plain));
      first = m.first;
      within = omega (arith, inside);
      all =
          count-there sends theirs.journal h.place there.entry there.is ∙ ap (λ (o : Option Frame). and_one o (count sends (past (take h.place theirs.journal)))) there.sent
          ∙ ap (λ (k : ℕ). k + 1) m.all ∙ sym (ap (λ (p : List Entry). count hears p) (back-logged mine (Heard f) reply));
    }

pub heard-meets : (h : Hearing) (mine new theirs : Log) (f : Frame) (given : Given) → waiting mine theirs ≡ Some f → IsBodyInRange f.body → IsThere h theirs f → Appends mine (Heard f) (heard_due mine f) given new → Meets h mine theirs
    → Meets (having_heard f h) new theirs
heard-meets h mine new theirs f given waits range there h' m =
    let a = heard-appended mine new f given h' in
    subst (λ (l : Log). Meets (having_heard f h) l theirs) (sym a.is) (heard-by h mine theirs f a.reply (goes-heard mine theirs f a.reply m.limits a.room a.answers waits range) there m)

pub heard-met : (h : Hearing) (mine new theirs : Log) (f : Frame) (given : Given) → waiting mine theirs ≡ Some f → IsBodyInRange f.body → Appends mine (Heard f) (heard_due mine f) given new → Meets h theirs mine
    → Meets h theirs new
heard-met h mine new theirs f given waits range h' m =
    let a = heard-appended mine new f given h' in
    subst (λ (l : Log). Meets h theirs l) (sym a.is) (met h mine theirs (Heard f) a.reply (goes-heard mine theirs f a.reply m.their_limits a.room a.answers waits range) m)

-- the place moves over entries that sent nothing
pub meets-place : (h : Hearing) (place : ℕ) (mine theirs : Log) → place ≤ length theirs.journal → count sends (past (take place theirs.journal)) ≡ count sends (past (take h.place theirs.journal)) → Meets h mine theirs
    → Meets (record h { place = place }) mine theirs
meets-place h place mine theirs inside same m =
    record {
      limits = m.limits;
      their_limits = m.their_limits;
      whole = m.whole;
      unput = m.unput;
      opens = m.opens;
      range = m.range;
      moves = m.moves;
      world = m.world;
      knows = record { frames = m.knows.frames; ids = m.knows.ids; few = m.knows.few; ended = m.knows.ended };
      first = m.first;
      within = inside;
      all = same ∙ m.all;
    }

-- # What is refused

pub keeps-by : (h : Hearing) (mine : List Entry) (op : Op) → Knows h mine → reaches_ahead op h ≡ false → KeepsToHeard (Own op) mine
keeps-by h mine (Dispose Receiver first last settled state) k no' = λ id small inside. rw (k.ids) (all-heard h.first_id h.firsts first last no' id small inside)
keeps-by h mine _ k no' = tt

pub ahead-by : (h : Hearing) (mine : List Entry) (op : Op) → Knows h mine → reaches_ahead op h ≡ true → KeepsToHeard (Own op) mine → ⊥
ahead-by h mine (Dispose Receiver first last settled state) k yes' keeps =
    not-heard h.first_id h.firsts first last k.few yes' (λ id small inside. let x = keeps id small inside in rw (k.ids) at x)
ahead-by h mine _ k yes' keeps = absurd (cc (yes'))

-- # Bounds

pub record Bounded (h : Hearing) : Type 0 where
  pub frames : h.frames < 2 ^ 30
  pub firsts : h.firsts < 2 ^ 30

count-few : (past : List Entry) → count hears past ≤ length past
count-few [] = omega arith
count-few (e ∷ past) =
    let few : count hears past ≤ length past = count-few past in
    let one : and_one (hears e) (count hears past) ≤ count hears past + 1 = and_one-few (hears e) (count hears past) in
    by (and_one (hears e) (count hears past)) (count hears past) (length past) few one
  where
    by : (k n l : ℕ) → n ≤ l → k ≤ n + 1 → k ≤ suc l
    by k n l f o = omega (arith, f, o)

-- where an entry was appended, no count is at its end
pub bounded : (h : Hearing) (mine theirs : Log) → Meets h mine theirs → length mine.journal < mine.config.journal_limit → Bounded h
bounded h mine theirs m room =
    let same : length (past mine.journal) ≡ length mine.journal = length-reverse mine.journal in
    let frames : h.frames ≡ count hears (past mine.journal) = m.knows.frames in
    let firsts : h.firsts ≡ length (ids_heard (live (past mine.journal))) = ids-number h (past mine.journal) m.knows in
    let limit : mine.config.journal_limit ≤ 1073741824 = m.limits.few in
    let few : count hears (past mine.journal) ≤ length (past mine.journal) = count-few (past mine.journal) in
    let some : length (ids_heard (live (past mine.journal))) ≤ length (past mine.journal) = ids-few (past mine.journal) in
    record {
      frames = by h.frames (count hears (past mine.journal)) (length (past mine.journal)) (length mine.journal) mine.config.journal_limit frames few same room limit;
      firsts = by h.firsts (length (ids_heard (live (past mine.journal)))) (length (past mine.journal)) (length mine.journal) mine.config.journal_limit firsts some same room limit;
    }
  where
    by : (k n p l limit : ℕ) → k ≡ n → n ≤ p → p ≡ l → l < limit → limit ≤ 1073741824 → k < 2 ^ 30
    by k n p l limit a b c d e = omega (arith, a, b, c, d, e)
