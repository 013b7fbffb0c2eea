-- What the private checks of operations on a link promise.
use Rattle.std.specs.Prelude.{ℕ, ◌≡◌, Bool, true, Some, None, List, find, nat_lt, [], ◌∷◌, Option}
use Rattle.amqp_steps.specs.declared.onlink.OnLink.{OnLink}
use Rattle.amqp_rules.specs.declared.refusal.Refusal.{Refusal}
use Rattle.amqp_rules.specs.View.{View, LinkView, is_mapped, has_number, handle_of, is_attached}
use Rattle.amqp_rules.specs.Refusing.{first_refusal}
use Rattle.amqp_links.specs.Marks.{with_marks}
use Rattle.amqp_rules.specs.Abort.{aborted, abort_refusals}
use Rattle.amqp_steps.specs.declared.abort.Aborted.{Aborted}
use Rattle.amqp_flow.specs.Credit.{CreditView}
use Rattle.amqp_flow.specs.Receiver.{has_open_drain}
use Rattle.amqp_rules.specs.declared.refusal.Refusal.TheVariants.{BadCredit, CreditRecedes, Draining}
use Rattle.amqp_performatives.specs.declared.error.AmqpError.{AmqpError}
use Rattle.amqp_rules.specs.Detach.{detach_body}
use Rattle.amqp_rules.specs.Sending.{frame_refused}
use Rattle.amqp_steps.specs.declared.detach.Leaving.{Leaving}

-- an operation of a link is taken: the session is mapped, the link is there, no refusal is due, and these are its marks after it
pub record IsTaken (v : View) (link : ℕ) (rows : LinkView → List (Bool × Refusal)) (change : LinkView → LinkView) (o : OnLink) : Type 0 where
  pub on : LinkView
  pub mapped : is_mapped v.session ≡ true
  pub found : find (has_number link) v.links ≡ Some on
  pub free : first_refusal (rows on) ≡ None
  pub handle : o.handle ≡ handle_of on.ours
  pub marks : with_marks o.marks on ≡ change on

-- the operation is taken on the link, whose unfinished delivery has this id
pub record IsAborted (v : View) (link : ℕ) (a : Aborted) : Type 0 where
  pub taken : IsTaken v link (abort_refusals v) aborted a.on
  pub size : ℕ
  pub unfinished : taken.on.sending ≡ Some (record { id = a.id; size = size })

-- the refusals of a grant that its credit decides
abbrev pub grant_rows : CreditView → ℕ → List (Bool × Refusal)
grant_rows c credit = (nat_lt 2147483647 credit, BadCredit) ∷ (nat_lt credit c.credit, CreditRecedes) ∷ (has_open_drain c, Draining) ∷ []

-- the session is mapped, this is the link, it is attached, and a detach that does not close it can be sent
pub record IsPutAside (v : View) (link : ℕ) (on : LinkView) : Type 0 where
  pub mapped : is_mapped v.session ≡ true
  pub found : find (has_number link) v.links ≡ Some on
  pub attached : is_attached on ≡ true
  pub written : frame_refused v.max_frame (detach_body (handle_of on.ours) None None) [] ≡ None

-- the session is mapped, the link is there and attached, and a detach of it can be sent
pub record IsLeft (v : View) (link : ℕ) (error : Option AmqpError) (w : Leaving) : Type 0 where
  pub on : LinkView
  pub mapped : is_mapped v.session ≡ true
  pub found : find (has_number link) v.links ≡ Some on
  pub attached : is_attached on ≡ true
  pub handle : w.handle ≡ handle_of on.ours
  pub written : frame_refused v.max_frame (detach_body (handle_of on.ours) (Some true) error) [] ≡ None
