-- What a session is, as callers see it (part 2, 2.5 and 2.6).
use Rattle.std.specs.Prelude.{zero, suc, ℕ, ◌+◌, ◌==◌, ◌&&◌, ◌||◌, not, Bool, true, false, Option, None, Some, List, [], ◌∷◌, length, find, is_some, is_none, cond, nat_eq, nat_lt}
use Rattle.std.specs.Cmp.Lexicographic.{pointwise}
use Rattle.amqp_types.specs.declared.value.Value.{Value}
use Rattle.amqp_flow.specs.Serial.{wire}
use Rattle.amqp_flow.specs.Windows.{WindowsView, unused_windows}
use Rattle.amqp_flow.specs.Credit.{CreditView, no_credit}
use Rattle.amqp_performatives.specs.declared.bodies.Role.{Role}
use Rattle.amqp_performatives.specs.declared.bodies.Role.TheVariants.{Sender, Receiver}
use Rattle.amqp_events.specs.Event.{Item}
use Rattle.amqp_events.specs.Joined.{Delivery}
use Rattle.amqp_events.specs.Told.{Telling, SentItem}
use Rattle.amqp_waiting.specs.Waiting.{WaitingItem}
use Rattle.amqp_waiting.specs.declared.peer.Unsettled.{Unsettled}
use Rattle.amqp_rules.specs.declared.config.Config.{Config}

-- How far the session has begun and ended (part 2, 2.5.5): by these four the phases are told apart.
pub record SessionView : Type 0 where
  -- our begin was sent, the peer's was heard
  pub begin_sent : Bool
  pub begin_heard : Bool
  -- our end was sent, the peer's was heard
  pub end_sent : Bool
  pub end_heard : Bool

-- what the attach of one end tells that stays with the link (part 2, 2.7.3)
pub record EndView : Type 0 where
  pub handle : ℕ
  -- 0 unsettled, 1 settled, 2 mixed
  pub snd_mode : ℕ
  -- 0 first, 1 second
  pub rcv_mode : ℕ
  -- in octets; 0: no limit
  pub max_message : ℕ
  -- where its messages come from, and where they go to
  pub source : Option Value
  pub target : Option Value

-- a delivery that we send and that is unfinished: its id, and the length of its payloads so far
pub record SendingView : Type 0 where
  pub id : ℕ
  pub size : ℕ

-- a link that is not gone (part 2, 2.6.3): by its two attaches and our detach its phases are told apart
pub record LinkView : Type 0 where
  pub number : ℕ
  pub name : List ℕ
  -- our end of it
  pub role : Role
  -- what our attach told, once it was sent, and what the peer's told, once it was heard
  pub ours : Option EndView
  pub theirs : Option EndView
  -- our detach was sent
  pub left : Bool
  pub credit : CreditView
  -- how many messages the application said to be available
  pub available : ℕ
  -- the unfinished delivery: of ours, or of the peer's
  pub sending : Option SendingView
  pub receiving : Option Delivery
  -- what was received and not taken, in order
  pub ready : List Delivery
  -- what was told of our deliveries and not learnt, in order
  pub told : List Telling
  -- the deliveries that wait to be resumed, in order (part 2, 2.6.13)
  pub waiting : List WaitingItem
  -- what the attach of the peer told of its unsettled deliveries, until ours is sent
  pub offer : Unsettled

pub record View : Type 0 where
  -- how many were accepted
  pub steps : ℕ
  pub session : SessionView
  pub windows : WindowsView
  -- how many deliveries were begun
  pub deliveries : ℕ
  -- the id of the delivery that the peer begins next; none before its first
  pub expected : Option ℕ
  -- in octets: the longest frame that the peer takes
  pub max_frame : ℕ
  -- the highest handle that the peer takes
  pub handle_max : ℕ
  -- how many links were made
  pub made : ℕ
  -- those that are not gone, in the order in which they were made
  pub links : List LinkView
  -- the unsettled deliveries that we sent, and those that we received, in order
  pub sent : List SentItem
  pub received : List Item

-- the id of the delivery that begins next: the first delivery has the id of the first transfer
abbrev pub next_delivery : View → ℕ
next_delivery v = wire (v.windows.first + v.deliveries)

-- # Phases of the session: unmapped, begin sent, begin heard, mapped, end sent, ended

-- an end was sent or heard
abbrev pub is_over : SessionView → Bool
is_over s = s.end_sent || s.end_heard

-- unmapped, or begin heard
abbrev pub may_begin : SessionView → Bool
may_begin s = not s.begin_sent && not (is_over s)

-- unmapped, or begin sent
abbrev pub awaits_begin : SessionView → Bool
awaits_begin s = not s.begin_heard && not (is_over s)

-- begin heard, or mapped
abbrev pub takes_frames : SessionView → Bool
takes_frames s = s.begin_heard && not (is_over s)

abbrev pub is_mapped : SessionView → Bool
is_mapped s = s.begin_sent && takes_frames s

-- end sent
abbrev pub is_ending : SessionView → Bool
is_ending s = s.end_sent && not s.end_heard

-- # Phases of a link: asked, offered, attached, leaving

-- our attach was sent, the peer's was not heard
abbrev pub is_asked : LinkView → Bool
is_asked l = is_some l.ours && is_none l.theirs

-- the peer's attach was heard, ours was not sent
abbrev pub is_offered : LinkView → Bool
is_offered l = is_some l.theirs && is_none l.ours

abbrev pub is_attached : LinkView → Bool
is_attached l = (is_some l.ours && is_some l.theirs) && not l.left

-- # Look-ups

abbrev pub opposite : Role → Role
opposite Sender = Receiver
opposite Receiver = Sender

abbrev pub is_sender : Role → Bool
is_sender Sender = true
is_sender Receiver = false

abbrev pub same_role : Role → Role → Bool
same_role Sender role = is_sender role
same_role Receiver role = not (is_sender role)

-- the end is there and passes the test
abbrev pub holds : (EndView → Bool) → Option EndView → Bool
holds test None = false
holds test (Some e) = test e

abbrev pub has_number : ℕ → LinkView → Bool
has_number k l = l.number == k

-- we call it by this handle
abbrev pub has_handle : ℕ → LinkView → Bool
has_handle h l = holds (λ e. e.handle == h) l.ours

-- the peer calls it by this handle
abbrev pub has_peer_handle : ℕ → LinkView → Bool
has_peer_handle h l = holds (λ e. e.handle == h) l.theirs

-- a link on which we have this role, of this name
abbrev pub has_name : Role → List ℕ → LinkView → Bool
has_name role name l = same_role role l.role && pointwise nat_eq name l.name

-- of this role and name, asked for by us
abbrev pub is_asked_as : Role → List ℕ → LinkView → Bool
is_asked_as role name l = has_name role name l && is_asked l

-- of this role and name, offered by the peer
abbrev pub is_offered_as : Role → List ℕ → LinkView → Bool
is_offered_as role name l = has_name role name l && is_offered l

-- of this role and name, with an attach of ours
abbrev pub is_ours : Role → List ℕ → LinkView → Bool
is_ours role name l = has_name role name l && is_some l.ours

-- of this role and name, with an attach of the peer's
abbrev pub is_theirs : Role → List ℕ → LinkView → Bool
is_theirs role name l = has_name role name l && is_some l.theirs

-- the handle that an end gave
abbrev pub handle_of : Option EndView → ℕ
handle_of None = 0
handle_of (Some e) = e.handle

-- the lowest of the numbers from n on that is no handle of ours, among k + 1 of them
abbrev pub free_from : ℕ → ℕ → List LinkView → ℕ
free_from zero n links = n
free_from (suc k) n links = cond (is_some (find (has_handle n) links)) (free_from k (n + 1) links) n

-- the lowest number that is no handle of ours: so many links have at most so many
abbrev pub free_handle : List LinkView → ℕ
free_handle links = free_from (length links) 0 links

-- # Modes

abbrev pub snd_of : Option EndView → ℕ
snd_of None = 2
snd_of (Some e) = e.snd_mode

abbrev pub rcv_of : Option EndView → ℕ
rcv_of None = 0
rcv_of (Some e) = e.rcv_mode

abbrev pub max_of : Option EndView → ℕ
max_of None = 0
max_of (Some e) = e.max_message

-- the modes in use: the sender's attach tells the one, the receiver's the other (part 2, 2.8.2 and 2.8.3)
abbrev pub snd_mode : LinkView → ℕ
snd_mode l = cond (is_sender l.role) (snd_of l.ours) (snd_of l.theirs)

abbrev pub rcv_mode : LinkView → ℕ
rcv_mode l = cond (is_sender l.role) (rcv_of l.theirs) (rcv_of l.ours)

-- a message of this length is longer than an end takes; 0 is no limit
abbrev pub is_too_long : ℕ → ℕ → Bool
is_too_long max size = nat_lt 0 max && nat_lt max size

-- # Changes

-- the list, with the first that passes the test changed
abbrev pub change_first : {A : Type 0} → (A → Bool) → (A → A) → List A → List A
change_first test change [] = []
change_first test change (l ∷ links) = cond (test l) (change l ∷ links) (l ∷ change_first test change links)

-- the list, without the first that passes the test
abbrev pub remove_first : {A : Type 0} → (A → Bool) → List A → List A
remove_first test [] = []
remove_first test (l ∷ links) = cond (test l) links (l ∷ remove_first test links)

-- no unsettled delivery was told, and there are no others
abbrev pub none_told : Unsettled
none_told = record { told = []; incomplete = false }

-- a link that no attach has spoken of
abbrev pub new_link : ℕ → Role → List ℕ → LinkView
new_link k role name =
    record {
      number = k;
      name = name;
      role = role;
      ours = None;
      theirs = None;
      left = false;
      credit = no_credit 0;
      available = 0;
      sending = None;
      receiving = None;
      ready = [];
      told = [];
      waiting = [];
      offer = none_told;
    }

abbrev pub not_begun : SessionView
not_begun = record { begin_sent = false; begin_heard = false; end_sent = false; end_heard = false }

-- the view of the empty journal: nothing was sent or heard; each peer takes frames of 512 octets
abbrev pub initial : Config → View
initial c =
    record {
      steps = 0;
      session = not_begun;
      windows = unused_windows c.first_id c.window;
      deliveries = 0;
      expected = None;
      max_frame = 512;
      handle_max = 4294967295;
      made = 0;
      links = [];
      sent = [];
      received = [];
    }
