-- Two ends that hear each other until nothing waits.
use Rattle.std.specs.Prelude.{ℕ, ◌≡◌, ◌≤◌, ◌+◌, ◌*◌, IsSome, Err, Ok, Result}
use Rattle.amqp_laws.specs.Past.{past}
use Rattle.amqp_pair_laws.specs.Agreeing.{on_way}
use Rattle.amqp_world.specs.declared.refusal.HearRefusal.{HearRefusal}
use Rattle.amqp_world.specs.declared.settling.Settled.{Settled}
use Rattle.amqp_world.specs.declared.settling.Unsettled.{Unsettled}
use Rattle.amqp_world.specs.declared.settling.Turn.{Turn}
use Rattle.amqp_world.specs.declared.settling.Turn.TheVariants.{Heard, Rests, Stops}
use Rattle.amqp_world.specs.declared.side.Side.{Side}
use Rattle.amqp_world.specs.declared.side.Side.TheVariants.{A, B}
use Rattle.amqp_world.specs.Sides.{Sides, of, other}
use Rattle.amqp_world.specs.Calls.{IsUnheard, waiting}
use Rattle.amqp_world.specs.Promises.{AreReached, HasHeardAll, HasHeardMore}

-- nothing is on its way
abbrev pub IsAtRest : Sides → Type 0
IsAtRest w = HasHeardAll w.a w.b × HasHeardAll w.b w.a

abbrev pub heard_by : Side → Settled → ℕ
heard_by A s = s.a
heard_by B s = s.b

-- each end has heard so many frames more, and done nothing else
abbrev pub HaveHeard : Settled → Sides → Sides → Type 0
HaveHeard s old new = (side : Side) → HasHeardMore (heard_by side s) (of side old) (of side new)

-- together no more than twice as many as were on their way
abbrev pub IsBounded : Settled → Sides → Type 0
IsBounded s old = s.a + s.b ≤ 2 * on_way (past old.a.journal) (past old.b.journal)

abbrev pub how_far : Result Settled Unsettled → Settled
how_far (Ok s) = s
how_far (Err u) = u.heard

-- this end cannot hear what waits for it
abbrev pub IsStopped : Side → HearRefusal → Sides → Type 0
IsStopped side refusal w = IsSome (waiting (of side w) (of (other side) w)) × IsUnheard (of side w) (of (other side) w) refusal

-- one frame was heard; or nothing waits; or a frame waits that is not heard
abbrev pub Turned : Turn → Sides → Sides → Type 0
Turned (Heard side) old new = HasHeardMore 1 (of side old) (of side new) × (of (other side) new ≡ of (other side) old) × AreReached new.a new.b
Turned Rests old new = (new ≡ old) × IsAtRest new
Turned (Stops side refusal) old new = (new ≡ old) × IsStopped side refusal new
