-- What a link left is of that link.
use Rattle.std.proofs.Common.{◌≡◌, ℕ, List, Option, Some}
use Rattle.amqp_conn.specs.Connection.{Core}
use Rattle.amqp_conn.specs.Leaving.{GivesOf, left_of}
use Rattle.std.proofs.lemmas.Bool.{eqb-true}
use Rattle.amqp_performatives.specs.declared.bodies.Role.TheVariants.{Receiver}
use Rattle.amqp_rules.specs.declared.reply.Taken.{Taken}
use Rattle.amqp_links.specs.declared.left.Left.{Left}
use Rattle.amqp_links.specs.declared.left.Left.TheVariants as thing
use Rattle.amqp_journal.specs.Log.{is_left_by}
use Rattle.amqp_steps.proofs.Plans.{found-passes}

-- a delivery that a link of a receiver left is of that link
pub gives-its-link : (link : ℕ) (k : Core) (given : Option Left) (l : Core) (name : List ℕ) (t : Taken) → given ≡ Some (thing.Delivery name t) → GivesOf Receiver link k given l → t.link ≡ link
gives-its-link link k given l name t is gives =
    let found = rw is at gives in
    eqb-true t.link link (found-passes (is_left_by Receiver link) (left_of k) (thing.Delivery name t) found.0)
