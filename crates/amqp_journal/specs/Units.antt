-- Units: what goes out to the peer, in the order of the journal. Each is the octets of one frame, or octets that were put (a connection's header, open and close).
use Rattle.std.specs.Prelude.{ℕ, ◌≡◌, ◌≤◌, ◌+◌, ◌==◌, nat_le, Option, None, Some, List, [], ◌∷◌, ◌++◌, map, drop, cond, slice_get}
use Rattle.amqp_rules.specs.declared.op.Op.{Op}
use Rattle.amqp_rules.specs.declared.reply.Given.{Given}
use Rattle.amqp_rules.specs.declared.reply.Given.TheVariants as given
use Rattle.amqp_laws.specs.declared.entry.Entry.{Entry}
use Rattle.amqp_laws.specs.declared.entry.Step.TheVariants.{Own}
use Rattle.amqp_journal.specs.Log.{Log}

-- the octets of the frames that the entry's reply sends
abbrev pub octets_sent : Entry → List (List ℕ)
octets_sent e = map (λ s. s.bytes) e.reply.sent

-- what was put directly before entry i
abbrev pub put_at : ℕ → List (ℕ × List ℕ) → List (List ℕ)
put_at i [] = []
put_at i (p ∷ put) = cond (p.0 == i) (p.1 ∷ put_at i put) (put_at i put)

-- what was put before entry i or later
abbrev pub put_from : ℕ → List (ℕ × List ℕ) → List (List ℕ)
put_from i [] = []
put_from i (p ∷ put) = cond (nat_le i p.0) (p.1 ∷ put_from i put) (put_from i put)

-- those of the entries from number i on
abbrev pub units_from : ℕ → List Entry → List (ℕ × List ℕ) → List (List ℕ)
units_from i [] put = put_from i put
units_from i (e ∷ entries) put = put_at i put ++ octets_sent e ++ units_from (i + 1) entries put

-- all that was put out, in order: a unit's number is its place here
abbrev pub units : Log → List (List ℕ)
units l = units_from 0 l.journal l.put

-- what was not popped yet
abbrev pub waiting : Log → List (List ℕ)
waiting l = drop l.popped (units l)

-- nothing was put before an entry that is still to come
abbrev pub PutWithin : ℕ → List (ℕ × List ℕ) → Type 0
PutWithin n [] = Unit {0}
PutWithin n (p ∷ put) = (p.0 ≤ n) × PutWithin n put

-- the link and the delivery that a step's answer names
abbrev pub given_link : Given → Option ℕ
given_link (given.Link k) = Some k
given_link (given.Offered k) = Some k
given_link (given.Attached k) = Some k
given_link (given.Gone k) = Some k
given_link (given.Ready k id) = Some k
given_link (given.Taken t) = Some t.link
given_link (given.Learned t) = Some t.link
given_link (given.Parted k s) = Some k
given_link (given.Suspended s) = None
given_link (given.Resumed r) = None
given_link (given.Delivery id) = None
given_link given.Nothing = None

abbrev pub given_id : Given → Option ℕ
given_id (given.Delivery id) = Some id
given_id (given.Ready k id) = Some id
given_id (given.Taken t) = Some t.id
given_id (given.Learned t) = Some t.id
given_id (given.Link k) = None
given_id (given.Offered k) = None
given_id (given.Attached k) = None
given_id (given.Gone k) = None
given_id (given.Resumed r) = r.id
given_id (given.Suspended s) = None
given_id (given.Parted k s) = None
given_id given.Nothing = None

-- the entry at this place is that operation's, and its answer names this link and this delivery
abbrev pub Stands : Log → Op → ℕ → Option ℕ → Option ℕ → Type 0
Stands l op place link id = (e : Entry) × (slice_get l.journal place ≡ Some e) × (e.step ≡ Own op) × (given_link e.reply.given ≡ link) × (given_id e.reply.given ≡ id)
