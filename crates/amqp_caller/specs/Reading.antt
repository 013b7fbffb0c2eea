-- What a caller reads of its connection.
use Rattle.std.specs.Prelude.{ℕ, ◌≡◌, ◌<◌, ◌-◌, ◌^◌, min, take, length, find, sum_by, is_some, option_map, Option, Some, None, MatchOption, List}
use Rattle.amqp_deliveries.specs.Change.{held_items}
use Rattle.amqp_performatives.specs.declared.bodies.OpenBody.{OpenBody}
use Rattle.amqp_performatives.specs.declared.bodies.Role.TheVariants as role
use Rattle.amqp_performatives.specs.declared.error.AmqpError.{AmqpError}
use Rattle.amqp_performatives.specs.declared.state.DeliveryState.{DeliveryState}
use Rattle.amqp_performatives.specs.declared.state.DeliveryState.TheVariants.{Rejected}
use Rattle.amqp_rules.specs.declared.reply.Given.{Given}
use Rattle.amqp_rules.specs.declared.reply.Given.TheVariants.{Learned}
use Rattle.amqp_rules.specs.declared.status.LinkPhase.{LinkPhase}
use Rattle.amqp_rules.specs.declared.status.LinkPhase.TheVariants as link
use Rattle.amqp_rules.specs.Status.{link_status, windows_of}
use Rattle.amqp_rules.specs.View.{View, LinkView, has_number, max_of, rcv_mode, snd_mode}
use Rattle.amqp_steps.specs.Plan.{tables_in}
use Rattle.amqp_journal.specs.Units.{waiting}
use Rattle.amqp_laws.specs.At.{at}
use Rattle.amqp_laws.specs.Past.{past}
use Rattle.amqp_conn.specs.Connection.{Connection}
use Rattle.amqp_conn.specs.Saying.{detached_by, error_heard, error_of_close, given_by, heard_by, newest}
use Rattle.amqp_caller.specs.declared.texts.TextKind.{TextKind}
use Rattle.amqp_caller.specs.declared.texts.TextKind.TheVariants as text
use Rattle.amqp_caller.specs.declared.standing.ConnStatus.{ConnStatus}
use Rattle.amqp_caller.specs.declared.standing.LinkStatus.{LinkStatus}
use Rattle.amqp_caller.specs.declared.caller.Caller.{Caller}
use Rattle.amqp_caller.specs.Numbers.{id_number, phase_number, role_number}

-- the session as it stands
abbrev pub view_of : Connection → View
view_of c = at c.core.log.config (past c.core.log.journal)

-- the link of this number
abbrev pub link_at : Connection → ℕ → Option LinkView
link_at c number = find (has_number number) (view_of c).links

-- # Texts

abbrev pub text_number : TextKind → ℕ
text_number text.LinkName = 0
text_number text.ContainerId = 1
text_number text.Hostname = 2
text_number text.HeardCondition = 3
text_number text.HeardDescription = 4
text_number text.CloseCondition = 5
text_number text.CloseDescription = 6
text_number text.DetachCondition = 7
text_number text.DetachDescription = 8
text_number text.RejectionCondition = 9
text_number text.RejectionDescription = 10

abbrev pub condition_in : Option AmqpError → Option (List ℕ)
condition_in None = None
condition_in (Some e) = Some e.condition

abbrev pub description_in : Option AmqpError → Option (List ℕ)
description_in None = None
description_in (Some e) = e.description

abbrev pub host_in : Option OpenBody → Option (List ℕ)
host_in None = None
host_in (Some b) = b.hostname

-- the error of a rejection
abbrev pub rejection_of : Option DeliveryState → Option AmqpError
rejection_of (Some (Rejected e)) = e
rejection_of _ = None

-- the error of the rejection that was learnt
abbrev pub rejection_in : Option Given → Option AmqpError
rejection_in (Some (Learned t)) = rejection_of t.state
rejection_in _ = None

-- the text of this kind, if there is one
abbrev pub text_asked : Option TextKind → ℕ → Connection → Option (List ℕ)
text_asked None number c = None
text_asked (Some text.LinkName) number c = option_map (λ l. l.name) (link_at c number)
text_asked (Some text.ContainerId) number c = option_map (λ b. b.container_id) c.core.peer
text_asked (Some text.Hostname) number c = host_in c.core.peer
text_asked (Some text.HeardCondition) number c = condition_in (error_heard (heard_by (newest c.core.log)))
text_asked (Some text.HeardDescription) number c = description_in (error_heard (heard_by (newest c.core.log)))
text_asked (Some text.CloseCondition) number c = condition_in (error_of_close c.core.parting)
text_asked (Some text.CloseDescription) number c = description_in (error_of_close c.core.parting)
text_asked (Some text.DetachCondition) number c = condition_in (detached_by number c.core.log)
text_asked (Some text.DetachDescription) number c = description_in (detached_by number c.core.log)
text_asked (Some text.RejectionCondition) number c = condition_in (rejection_in (given_by (newest c.core.log)))
text_asked (Some text.RejectionDescription) number c = description_in (rejection_in (given_by (newest c.core.log)))

-- the count is the length of the text, and as much of it as had room was copied; 0 if there is no text
abbrev pub IsCopied : Option (List ℕ) → ℕ → List ℕ → ℕ → Type 0
IsCopied None size room count = count ≡ 0
IsCopied (Some t) size room count = (count ≡ length t) × (take (min (length t) size) room ≡ take (min (length t) size) t)

-- the text of the kind of this number was copied into a room of this size
pub record TextOf (what number : ℕ) (c : Connection) (size : ℕ) (room : List ℕ) (count : ℕ) : Type 0 where
  pub kind : Option TextKind
  pub named : MatchOption kind (10 < what) (λ k. text_number k ≡ what)
  pub copied : IsCopied (text_asked kind number c) size room count

-- # How a link stands

abbrev pub link_phase_number : LinkPhase → ℕ
link_phase_number link.Asked = 1
link_phase_number link.Offered = 2
link_phase_number link.Attached = 3
link_phase_number link.Leaving = 4

pub record IsLinkStatus (l : LinkView) (s : LinkStatus) : Type 0 where
  pub role : s.role ≡ role_number l.role
  pub phase : s.phase ≡ link_phase_number (link_status l).phase
  pub count : s.count ≡ (link_status l).count
  pub credit : s.credit ≡ l.credit.credit
  pub peer_handle : s.peer_handle ≡ id_number (option_map (λ e. e.handle) l.theirs)
  pub ready : s.ready ≡ length l.ready
  pub peer_max_message : s.peer_max_message ≡ max_of l.theirs
  pub max_message : s.max_message ≡ max_of l.ours
  pub snd : s.snd ≡ snd_mode l
  pub rcv : s.rcv ≡ rcv_mode l
  pub drain : s.drain ≡ (link_status l).drain
  pub mid : s.mid ≡ (link_status l).mid

-- the status of a link, 0; or 2 and no change if there is none
abbrev pub LinkTold : Option LinkView → ℕ → LinkStatus → LinkStatus → Type 0
LinkTold None status old new = (status ≡ 2) × (new ≡ old)
LinkTold (Some l) status old new = (status ≡ 0) × IsLinkStatus l new

-- # How a connection stands

abbrev pub max_told : Option OpenBody → ℕ
max_told None = 0
max_told (Some b) = id_number b.max_frame_size

abbrev pub idle_in : Option ℕ → ℕ
idle_in None = 0
idle_in (Some n) = n

abbrev pub idle_told : Option OpenBody → ℕ
idle_told None = 0
idle_told (Some b) = idle_in b.idle_time_out

pub record IsConnStatus (k : Caller) (s : ConnStatus) : Type 0 where
  pub phase : s.phase ≡ phase_number k.conn.core.phase
  pub steps_left : s.steps_left ≡ k.conn.core.log.config.journal_limit - length k.conn.core.log.journal
  pub next_in : s.next_in ≡ id_number (windows_of (view_of k.conn)).next_in
  pub incoming : s.incoming ≡ (windows_of (view_of k.conn)).incoming
  pub next_out : s.next_out ≡ (windows_of (view_of k.conn)).next_out
  pub remote_in : s.remote_in ≡ (windows_of (view_of k.conn)).remote_in
  pub next_delivery : s.next_delivery ≡ (windows_of (view_of k.conn)).next_delivery
  pub peer_max_frame : s.peer_max_frame ≡ max_told k.conn.core.peer
  pub peer_idle_time_out : s.peer_idle_time_out ≡ idle_told k.conn.core.peer
  pub units : s.units ≡ length (waiting k.conn.core.log)
  pub octets : s.octets ≡ min (sum_by length (waiting k.conn.core.log)) (2 ^ 64 - 1)
  pub unwritten : s.unwritten ≡ length k.rest
  pub sent_unsettled : s.sent_unsettled ≡ length (held_items role.Sender (tables_in (view_of k.conn)))
  pub received_unsettled : s.received_unsettled ≡ length (held_items role.Receiver (tables_in (view_of k.conn)))
  pub begun : s.begun ≡ is_some (windows_of (view_of k.conn)).next_in
