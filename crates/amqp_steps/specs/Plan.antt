-- A step as it is planned: its reply, and what it leaves.
use Rattle.std.specs.Prelude.{ℕ, ◌≡◌, ◌≤◌, ◌+◌, ◌*◌, ◌^◌, ◌⊎◌, Option, Some, None, Result, Ok, Err, IsOk, List, [], ◌∷◌, option_to_list}
use Rattle.amqp_flow.specs.Serial.{wire, distance}
use Rattle.amqp_events.specs.Event.{Item}
use Rattle.amqp_performatives.specs.declared.performative.Performative.{Performative}
use Rattle.amqp_performatives.specs.declared.bodies.Role.TheVariants.{Sender, Receiver}
use Rattle.amqp_links.specs.declared.fate.Fate.{Fate}
use Rattle.amqp_links.specs.declared.fate.Fate.TheVariants as fate
use Rattle.amqp_rules.specs.declared.reply.Reply.{Reply}
use Rattle.amqp_rules.specs.declared.reply.Sent.{Sent}
use Rattle.amqp_rules.specs.declared.reply.Given.{Given}
use Rattle.amqp_rules.specs.View.{View, SessionView, LinkView, SendingView, next_delivery}
use Rattle.amqp_rules.specs.Carry.{size_so_far}
use Rattle.amqp_rules.specs.Sending.{sent_of}
use Rattle.amqp_rules.specs.Sound.{IsWaitingApart, IsSound as IsSoundView}
use Rattle.amqp_steps.specs.declared.plan.Session.{Session}
use Rattle.amqp_steps.specs.declared.plan.Plan.{Plan}
use Rattle.amqp_deliveries.specs.declared.change.Change.{Change}
use Rattle.amqp_deliveries.specs.declared.change.Change.TheVariants.{Begins, Says, Hears}
use Rattle.amqp_deliveries.specs.Change.{TablesView, ended_in, held_items, is_tagged_as}
use Rattle.amqp_steps.specs.Stores.{StoresView, stores_after}
use Rattle.amqp_links.specs.Fate.{IsFit}
use Rattle.amqp_links.specs.Links.{LinksView}
use Rattle.std.specs.Prelude.{false}
use Rattle.std.specs.List.{list_any}

abbrev pub links_in : View → LinksView
links_in v = record { made = v.made; list = v.links }

abbrev pub tables_in : View → TablesView
tables_in v = record { sent = v.sent; received = v.received }

abbrev pub stores_in : View → StoresView
stores_in v = record { links = links_in v; tables = tables_in v }

abbrev pub flags_of : Session → SessionView
flags_of s = record { begin_sent = s.begin_sent; begin_heard = s.begin_heard; end_sent = s.end_sent; end_heard = s.end_heard }

-- the view with so many steps, this session and these links and deliveries
abbrev pub view_of : ℕ → Session → StoresView → View
view_of steps s st =
    record {
      steps = steps;
      session = flags_of s;
      windows = s.windows;
      deliveries = s.deliveries;
      expected = s.expected;
      max_frame = s.max_frame;
      handle_max = s.handle_max;
      made = st.links.made;
      links = st.links.list;
      sent = st.tables.sent;
      received = st.tables.received;
    }

-- # What a plan answers

abbrev pub octets_sent : Option Sent → Option (List ℕ)
octets_sent None = None
octets_sent (Some s) = Some s.bytes

abbrev pub plan_reply : Plan → View → Reply
plan_reply p v = record { sent = option_to_list p.sent; ended = ended_in p.change (tables_in v); given = p.given }

-- # What it leaves

abbrev pub planned : View → Plan → View
planned v p = view_of (v.steps + 1) p.session (stores_after p.fate p.change (stores_in v))

-- # When it is sound

-- the unfinished delivery of ours is no longer than so many steps can make it
abbrev pub IsShort : ℕ → Option SendingView → Type 0
IsShort steps sending = size_so_far sending ≤ steps * 2 ^ 64

abbrev pub AreShort : ℕ → Fate → Type 0
AreShort steps (fate.Marked key n m) = IsShort steps m.sending
AreShort steps (fate.Ours key n end m r) = IsShort steps m.sending
AreShort steps (fate.Theirs key n end m r) = IsShort steps m.sending
AreShort steps (fate.Asked name end m r) = IsShort steps m.sending
AreShort steps (fate.Offered name end m r) = IsShort steps m.sending
AreShort steps (fate.Heard key n m t) = IsShort steps m.sending
AreShort steps (fate.Resumed key n m tag) = IsShort steps m.sending
AreShort steps _ = Unit {0}

-- the id of the delivery that we begin next
abbrev pub next_id : Session → ℕ
next_id s = wire (s.windows.first + s.deliveries)

-- at most one id is used
abbrev pub IsAtMostNext : ℕ → ℕ → Type 0
IsAtMostNext n m = (m ≡ n) ⊎ (m ≡ wire (n + 1))

-- the peer's first id is free
abbrev pub IsExpectedNext : Option ℕ → Option ℕ → Type 0
IsExpectedNext None m = Unit {0}
IsExpectedNext (Some n) m = (m ≡ Some n) ⊎ (m ≡ Some (wire (n + 1)))

abbrev pub IsDue : ℕ → Option ℕ → Type 0
IsDue id None = Unit {0}
IsDue id (Some n) = id ≡ n

-- a delivery that begins has the id that is due, and its tag is not in use on its link
abbrev pub IsBegun : View → Change → Session → Type 0
IsBegun v (Begins Sender i) s = (i.id ≡ next_delivery v) × (next_id s ≡ wire (next_delivery v + 1)) × (list_any (is_tagged_as i) (held_items Sender (tables_in v)) ≡ false)
IsBegun v (Begins Receiver i) s = IsDue i.id v.expected × (s.expected ≡ Some (wire (i.id + 1))) × (list_any (is_tagged_as i) v.received ≡ false)
IsBegun v _ s = Unit {0}

-- neither transfers nor deliveries outrun the steps, and ids go up one at a time
pub record IsCounted (v : View) (change : Change) (s : Session) : Type 0 where
  pub sent : s.windows.sent ≤ v.steps + 1
  pub deliveries : s.deliveries ≤ v.steps + 1
  pub ours : IsAtMostNext (next_delivery v) (next_id s)
  pub theirs : IsExpectedNext v.expected s.expected
  pub begun : IsBegun v change s

-- a disposition speaks of no link
abbrev pub IsAlone : Fate → Change → Type 0
IsAlone f (Says role d) = f ≡ fate.Stay
IsAlone f (Hears role d) = f ≡ fate.Stay
IsAlone f _ = Unit {0}

pub record IsSound (v : View) (p : Plan) : Type 0 where
  pub fit : IsFit p.fate (links_in v)
  pub short : AreShort (v.steps + 1) p.fate
  pub counted : IsCounted v p.change p.session
  pub alone : IsAlone p.fate p.change

-- what waits on a link has no tag of a delivery that is unsettled on it
pub record IsApart (v : View) : Type 0 where
  pub sound : IsSoundView v
  pub apart : IsWaitingApart v

-- and so it is after the step
abbrev pub KeepsApart : View → View → Type 0
KeepsApart v after = IsApart v → IsApart after

-- the plan of a step that has this answer and leaves this view
pub record IsPlan {E : Type 0} (v : View) (answer : Result Reply E) (after : View) (p : Plan) : Type 0 where
  pub due : answer ≡ Ok (plan_reply p v)
  pub leaves : after ≡ planned v p
  pub sound : IsSound v p

-- the call gives this refusal, or memory was refused where a reply was due
abbrev pub IsRefused : {E : Type 0} → E → Result Reply E → E → Type 0
IsRefused no_memory answer e = (answer ≡ Err e) ⊎ (IsOk answer × (e ≡ no_memory))

-- the call plans the step that has this answer and leaves this view, or it refuses as the answer does, or for want of memory
abbrev pub Plans : {E : Type 0} → E → View → Result Reply E → View → Result Plan E → Type 0
Plans no_memory v answer after (Ok p) = IsPlan v answer after p
Plans no_memory v answer after (Err e) = IsRefused no_memory answer e

-- the same of a call that makes what the step needs
abbrev pub Makes : {X E : Type 0} → E → View → Result Reply E → View → (X → Plan) → Result X E → Type 0
Makes no_memory v answer after plan_of (Ok x) = IsPlan v answer after (plan_of x)
Makes no_memory v answer after plan_of (Err e) = IsRefused no_memory answer e

-- the check tells what the step needs that has this answer and leaves this view, or it refuses as the answer does
abbrev pub Checks : {X E : Type 0} → View → Result Reply E → View → (X → Plan) → Result X E → Type 0
Checks v answer after plan_of (Ok x) = IsPlan v answer after (plan_of x)
Checks v answer after plan_of (Err e) = answer ≡ Err e

-- # Plans, by what they send

abbrev pub quiet_plan : Session → Fate → Change → Given → Plan
quiet_plan session fate change given = record { session = session; fate = fate; change = change; sent = None; given = given }

abbrev pub sending_plan : Session → Fate → Change → Option Performative → List ℕ → Given → Plan
sending_plan session fate change body payload given =
    record { session = session; fate = fate; change = change; sent = Some (sent_of body payload); given = given }

-- # What always holds of an endpoint

-- each id comes before this one, by no more than so many steps
abbrev pub AreBehind : ℕ → ℕ → List Item → Type 0
AreBehind steps next [] = Unit {0}
AreBehind steps next (i ∷ is) = (1 ≤ distance i.id next) × (distance i.id next ≤ steps) × AreBehind steps next is

abbrev pub AreBehindExpected : ℕ → Option ℕ → List Item → Type 0
AreBehindExpected steps None items = items ≡ []
AreBehindExpected steps (Some next) items = AreBehind steps next items

abbrev pub AreShortOn : ℕ → List LinkView → Type 0
AreShortOn steps [] = Unit {0}
AreShortOn steps (l ∷ ls) = IsShort steps l.sending × AreShortOn steps ls

pub record IsKept (steps : ℕ) (s : Session) (st : StoresView) : Type 0 where
  pub sent : s.windows.sent ≤ steps
  pub deliveries : s.deliveries ≤ steps
  pub made : st.links.made ≤ steps
  pub short : AreShortOn steps st.links.list
  pub ours : AreBehind steps (next_id s) (held_items Sender st.tables)
  pub theirs : AreBehindExpected steps s.expected st.tables.received
  pub apart : IsApart (view_of steps s st)
