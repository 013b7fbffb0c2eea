-- What a connection leaves: what links left that were removed, and once no step is done any more what the other links
-- have.
use Rattle.std.specs.Prelude.{◌≡◌, ◌&&◌, not, Bool, true, false, cond, Option, Some, None, List, [], ◌∷◌, find, ℕ}
use Rattle.amqp_performatives.specs.declared.bodies.Role.{Role}
use Rattle.amqp_links.specs.declared.left.Left.{Left}
use Rattle.amqp_rules.specs.View.{remove_first}
use Rattle.amqp_journal.specs.Log.{leaving, is_left_by}
use Rattle.amqp_conn.specs.declared.phase.Phase.{Phase}
use Rattle.amqp_conn.specs.declared.phase.Phase.TheVariants as phase
use Rattle.amqp_conn.specs.Connection.{Core}

-- no step is done any more: our close went out, and until the peer's comes each operation is refused and each frame
-- dropped; or the connection has ended
abbrev pub is_over : Phase → Bool
is_over phase.AwaitHeader = false
is_over phase.AwaitOpen = false
is_over phase.Running = false
is_over phase.Closing = true
is_over phase.Closed = true

-- no step is done any more, and the links have not left their items
abbrev pub is_ungathered : Core → Bool
is_ungathered k = is_over k.phase && not k.gathered

-- they leave them, after what was left before
abbrev pub gathering : Core → Core
gathering k = cond (is_ungathered k) (record k { gathered = true; log = leaving k.log }) k

-- all that is left, in order
abbrev pub left_of : Core → List Left
left_of k = (gathering k).log.left

-- all that is not of what is left
abbrev pub but_left : Core → Core
but_left k = record k { gathered = false; log = record k.log { left = [] } }

-- A pop returns the first item that is left, and removes it; nothing else has changed.
abbrev pub Gives : Core → Option Left → Core → Type 0
Gives k None l = (left_of k ≡ []) × (left_of l ≡ []) × (but_left l ≡ but_left k)
Gives k (Some x) l = (left_of k ≡ x ∷ left_of l) × (but_left l ≡ but_left k)

-- A pop returns the first item that the link of this number left, of a receiver or of a sender, and removes it.
abbrev pub GivesOf : Role → ℕ → Core → Option Left → Core → Type 0
GivesOf role link k None l = (find (is_left_by role link) (left_of k) ≡ None) × (left_of l ≡ left_of k) × (but_left l ≡ but_left k)
GivesOf role link k (Some x) l = (find (is_left_by role link) (left_of k) ≡ Some x) × (left_of l ≡ remove_first (is_left_by role link) (left_of k)) × (but_left l ≡ but_left k)
