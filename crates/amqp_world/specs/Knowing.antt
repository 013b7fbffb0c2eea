-- What is kept beside the journals, so that a call looks into no more than it must: it says what the journals say.
use Rattle.std.specs.Prelude.{zero, suc, ℕ, ◌≡◌, ◌≤◌, ◌+◌, ◌^◌, ◌&&◌, Bool, true, false, not, cond, nat_le, nat_lt, Some, List, [], ◌∷◌, length, take, is_some, option_and_then}
use Rattle.amqp_flow.specs.Serial.{wire, distance}
use Rattle.amqp_performatives.specs.declared.bodies.Role.TheVariants.{Receiver}
use Rattle.amqp_frames.specs.declared.frame.Frame.{Frame}
use Rattle.amqp_rules.specs.declared.op.Op.{Op}
use Rattle.amqp_rules.specs.declared.op.Op.TheVariants.{Dispose}
use Rattle.amqp_rules.specs.Limits.{IsWithinLimits}
use Rattle.amqp_laws.specs.declared.entry.Entry.{Entry}
use Rattle.amqp_laws.specs.Past.{past, some_entry}
use Rattle.amqp_laws.specs.Said.{ends, is_own_end, transfer_in}
use Rattle.amqp_laws.specs.Live.{live}
use Rattle.amqp_laws.specs.Written.{AreInRange}
use Rattle.amqp_journal.specs.Log.{Log}
use Rattle.amqp_pair_laws.specs.Moves.{count}
use Rattle.amqp_pair_laws.specs.World.{World, hears, sends}
use Rattle.amqp_pair_laws.specs.Premise.{ids_heard}
use Rattle.amqp_world.specs.declared.heard.Hearing.{Hearing}
use Rattle.amqp_world.specs.Octets.{OpensOnce}

abbrev pub unheard : ℕ → Hearing
unheard first_id = record { frames = 0; firsts = 0; place = 0; first_id = first_id; ended = false }

-- only a first transfer has an id
abbrev pub begins : Frame → Bool
begins f = is_some (option_and_then (λ t. t.delivery_id) (transfer_in f.body))

abbrev pub having_heard : Frame → Hearing → Hearing
having_heard f h = record h { frames = h.frames + 1; firsts = cond (not h.ended && begins f) (h.firsts + 1) h.firsts; place = h.place + 1 }

abbrev pub having_done : Op → Hearing → Hearing
having_done op h = record h { ended = cond (is_own_end (Some op)) true h.ended }

-- of so many first transfers, counted from this id on, not all ids of the range are
abbrev pub passes : ℕ → ℕ → ℕ → ℕ → Bool
passes first_id firsts first last = nat_lt (distance first last) (2 ^ 31) && nat_le firsts (distance first_id first + distance first last)

abbrev pub reaches_ahead : Op → Hearing → Bool
reaches_ahead (Dispose Receiver first last settled state) h = passes h.first_id h.firsts first last
reaches_ahead _ h = false

-- the ids of the first n deliveries, the newest first
abbrev pub serials : ℕ → ℕ → List ℕ
serials first zero = []
serials first (suc n) = wire (first + n) ∷ serials first n

-- of an end's own journal, backwards
pub record Knows (h : Hearing) (mine : List Entry) : Type 0 where
  pub frames : h.frames ≡ count hears mine
  pub ids : ids_heard (live mine) ≡ serials h.first_id h.firsts
  pub few : h.firsts ≤ 2 ^ 30
  pub ended : h.ended ≡ some_entry ends (live mine)

-- two ends that speak with each other, and how far one has heard the other
pub record Meets (h : Hearing) (mine theirs : Log) : Type 0 where
  pub limits : IsWithinLimits mine.config
  pub their_limits : IsWithinLimits theirs.config
  -- nothing of what the other did was forgotten
  pub whole : theirs.forgotten ≡ 0
  -- its octets are those of its frames alone, which are as short as it was told at first
  pub unput : theirs.put ≡ []
  pub opens : (told : ℕ) × OpensOnce told (past theirs.journal)
  pub range : AreInRange (past theirs.journal)
  pub moves : ℕ
  pub world : World theirs.config mine.config moves (past theirs.journal) (past mine.journal)
  pub knows : Knows h (past mine.journal)
  pub first : h.first_id ≡ theirs.config.first_id
  pub within : h.place ≤ length theirs.journal
  pub all : count sends (past (take h.place theirs.journal)) ≡ count hears (past mine.journal)

pub record IsPair (a_hears b_hears : Hearing) (a b : Log) : Type 0 where
  pub a_meets : Meets a_hears a b
  pub b_meets : Meets b_hears b a
