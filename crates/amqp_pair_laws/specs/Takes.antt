-- What is taken was sent.
use Rattle.std.specs.Prelude.{ℕ, ◌≡◌, ◌⊎◌, true, false, Some, List, [], ◌++◌, find, is_some, map}
use Rattle.amqp_performatives.specs.declared.bodies.Role.TheVariants.{Sender, Receiver}
use Rattle.amqp_rules.specs.declared.config.Config.{Config}
use Rattle.amqp_rules.specs.View.{LinkView, has_name, is_attached, is_over}
use Rattle.amqp_laws.specs.declared.entry.Entry.{Entry}
use Rattle.amqp_laws.specs.At.{at}
use Rattle.amqp_pair_laws.specs.Moves.{IsTail, count}
use Rattle.amqp_pair_laws.specs.World.{World, Tight, hears, sends}
use Rattle.amqp_pair_laws.specs.Passing.{content_of, passed_on, taken_on}

-- where b has heard all that a sent: what b took on a link of a name, and what waits there, is what a sent complete on its link of that name;
-- as long as b's session is not over, and neither has left the link
abbrev pub TakesAll : Type 0
TakesAll =
    (ca cb : Config) (n : ℕ) (a b : List Entry) (name : List ℕ) (x y : LinkView) → Tight ca cb n a b → is_over (at cb b).session ≡ false
    → find (has_name Sender name) (at ca a).links ≡ Some x → is_some x.ours ≡ true → x.left ≡ false
    → find (has_name Receiver name) (at cb b).links ≡ Some y → y.left ≡ false
    → taken_on y.number b ++ map content_of y.ready ≡ passed_on x.number a

-- these, and others after them
abbrev pub IsFront : {A : Type 0} → List A → List A → Type 0
IsFront {A = A} xs ys = (rest : List A) × (ys ≡ xs ++ rest)

-- the link of a's whose attach b heard: that of the name, in the state of a in which it had sent just what b has heard
pub record Source (ca : Config) (a b : List Entry) (name : List ℕ) : Type 0 where
  pub early : List Entry
  pub is_tail : IsTail early a
  pub heard_all : count sends early ≡ count hears b
  pub link : LinkView
  pub found : find (has_name Sender name) (at ca early).links ≡ Some link

-- in every world, what was taken on an attached link is the front of the deliveries that were sent complete on the link whose attach was heard
abbrev pub TakesWhatWasSent : Type 0
TakesWhatWasSent =
    (ca cb : Config) (n : ℕ) (a b : List Entry) (name : List ℕ) (y : LinkView) → World ca cb n a b
    → find (has_name Receiver name) (at cb b).links ≡ Some y → is_attached y ≡ true
    → (x : Source ca a b name) × IsFront (taken_on y.number b) (passed_on x.link.number a)

-- and so it is on a link that was attached in an earlier state, whether it is left now, or gone, or not
abbrev pub TakesEver : Type 0
TakesEver =
    (ca cb : Config) (n : ℕ) (a b early : List Entry) (name : List ℕ) (y : LinkView) → World ca cb n a b → IsTail early b
    → find (has_name Receiver name) (at cb early).links ≡ Some y → is_attached y ≡ true
    → (x : Source ca a early name) × IsFront (taken_on y.number b) (passed_on x.link.number a)

-- link k, on which the end receives, was attached in an earlier state
pub record WasAttached (c : Config) (past : List Entry) (k : ℕ) : Type 0 where
  pub early : List Entry
  pub is_tail : IsTail early past
  pub name : List ℕ
  pub link : LinkView
  pub found : find (has_name Receiver name) (at c early).links ≡ Some link
  pub number : link.number ≡ k
  pub attached : is_attached link ≡ true

-- nothing is taken on other links
abbrev pub TakesOnAttached : Type 0
TakesOnAttached = (ca cb : Config) (n : ℕ) (a b : List Entry) (k : ℕ) → World ca cb n a b → (taken_on k b ≡ []) ⊎ WasAttached cb b k
