-- Two ends agree where nothing is on its way, and what is on its way comes to an end.
use Rattle.std.specs.Prelude.{zero, suc, ℕ, ◌≡◌, ◌≤◌, ◌⊎◌, ◌+◌, ◌-◌, ◌*◌, Bool, true, false, Option, None, Some, List, [], ◌∷◌, IsSome, find, option_map}
use Rattle.amqp_performatives.specs.declared.bodies.Role.{Role}
use Rattle.amqp_performatives.specs.declared.bodies.Role.TheVariants.{Sender, Receiver}
use Rattle.amqp_flow.specs.Windows.{WindowsView, next_outgoing}
use Rattle.amqp_flow.specs.Credit.{delivery_count}
use Rattle.amqp_flow.specs.Receiver.{has_open_drain}
use Rattle.amqp_events.specs.Event.{Item}
use Rattle.amqp_events.specs.Told.{SentItem}
use Rattle.amqp_rules.specs.declared.config.Config.{Config}
use Rattle.amqp_rules.specs.declared.op.Op.{Op}
use Rattle.amqp_rules.specs.declared.op.Op.TheVariants.{Refresh}
use Rattle.amqp_rules.specs.View.{View, SessionView, LinkView, has_name, is_attached, is_ending, is_mapped, opposite}
use Rattle.amqp_laws.specs.declared.entry.Entry.{Entry}
use Rattle.amqp_laws.specs.Said.{own_in, transfer_heard}
use Rattle.amqp_laws.specs.Live.{live}
use Rattle.amqp_laws.specs.Transfers.{size_of}
use Rattle.amqp_laws.specs.Receiving.{limit, passed}
use Rattle.amqp_laws.specs.Links.{LinkPast, link_pasts}
use Rattle.amqp_laws.specs.At.{at}
use Rattle.amqp_pair_laws.specs.Moves.{count}
use Rattle.amqp_pair_laws.specs.World.{World, hears, sends}
use Rattle.amqp_pair_laws.specs.Learns.{IsOneOf}

-- at rest each end has heard all that the other sent: nothing is on its way
pub record AtRest (ca cb : Config) (n : ℕ) (a b : List Entry) : Type 0 where
  pub world : World ca cb n a b
  pub heard : count sends a ≡ count hears b
  pub answered : count sends b ≡ count hears a

-- # What two ends agree on: v, x are of one end, w, y of the other

-- both are in one phase, or one is begin sent and the other begin heard; none waits for the answer to its end
pub record SessionsMeet (x y : SessionView) : Type 0 where
  pub begun : y.begin_heard ≡ x.begin_sent
  pub begun' : x.begin_heard ≡ y.begin_sent
  pub ended : x.end_heard ≡ y.end_heard
  pub answered : is_ending x ≡ false
  pub answered' : is_ending y ≡ false

-- the next transfer of x is the one that y awaits, and x may send as many as y still takes
pub record WindowsMeet (x y : WindowsView) : Type 0 where
  pub next : y.next_incoming ≡ Some (next_outgoing x)
  pub room : x.remote_incoming ≡ y.incoming

-- each has heard the attach of the other that was sent, and none has left: so both are attached, or one is asked and the other offered
pub record LinksMeet (x y : LinkView) : Type 0 where
  pub ours : x.ours ≡ y.theirs
  pub theirs : x.theirs ≡ y.ours
  pub unleft : x.left ≡ false
  pub unleft' : y.left ≡ false

-- each link of one end is at the other, in the opposite role
abbrev pub AllLinksMeet : View → View → Type 0
AllLinksMeet v w =
    (role : Role) (name : List ℕ) (x : LinkView) → find (has_name role name) v.links ≡ Some x
    → (y : LinkView) × (find (has_name (opposite role) name) w.links ≡ Some y) × LinksMeet x y

-- x sends, y receives: they count the same deliveries, x may begin as many as y still awaits, and what is unfinished is so at both
pub record CountsMeet (x y : LinkView) : Type 0 where
  pub counts : delivery_count x.credit ≡ delivery_count y.credit
  pub credit : x.credit.credit ≡ y.credit.credit
  pub unfinished : x.sending ≡ option_map size_of y.receiving

-- a drain that is open at y is wished at x
abbrev pub DrainsMeet : LinkView → LinkView → Type 0
DrainsMeet x y = has_open_drain y.credit ≡ true → x.credit.drain ≡ true

-- of each link that is attached, on which v sends
abbrev pub EachAttached : (LinkView → LinkView → Type 0) → View → View → Type 0
EachAttached P v w =
    (name : List ℕ) (x y : LinkView) → find (has_name Sender name) v.links ≡ Some x → find (has_name Receiver name) w.links ≡ Some y
    → is_attached x ≡ true → is_attached y ≡ true → P x y

-- one delivery, sent by one end and received by the other: what is local here is remote there
pub record ItemsMeet (s i : Item) : Type 0 where
  pub id : s.id ≡ i.id
  pub tag : s.tag ≡ i.tag
  pub remote : s.remote ≡ i.local
  pub local : s.local ≡ i.remote

-- the same ones, in the same order
abbrev pub AllMeet : List SentItem → List Item → Type 0
AllMeet [] [] = Unit {0}
AllMeet (s ∷ sent) (i ∷ received) = ItemsMeet s.item i × AllMeet sent received
AllMeet _ _ = ⊥

-- # The promises

-- at rest, of sessions
abbrev pub SessionsAgree : Type 0
SessionsAgree = (ca cb : Config) (n : ℕ) (a b : List Entry) → AtRest ca cb n a b → SessionsMeet (at ca a).session (at cb b).session

-- and where they are mapped, of one end that sends and the other that receives; the ends are alike, so it holds both ways
abbrev pub WhereMapped : (View → View → Type 0) → Type 0
WhereMapped P = (ca cb : Config) (n : ℕ) (a b : List Entry) → AtRest ca cb n a b → is_mapped (at ca a).session ≡ true → P (at ca a) (at cb b)

abbrev pub WindowsAgree : Type 0
WindowsAgree = WhereMapped (λ v w. WindowsMeet v.windows w.windows)

abbrev pub LinksAgree : Type 0
LinksAgree = WhereMapped AllLinksMeet

abbrev pub CountsAgree : Type 0
CountsAgree = WhereMapped (EachAttached CountsMeet)

abbrev pub DrainsAgree : Type 0
DrainsAgree = WhereMapped (EachAttached DrainsMeet)

-- what one holds unsettled the other does
abbrev pub UnsettledAgree : Type 0
UnsettledAgree = WhereMapped (λ v w. AllMeet v.sent w.received)

-- # Credit and windows, by the journal of the end that receives

-- The receiver's link y, with the entries that concern it: x may begin as many deliveries as y granted in all, less those that passed at y: that it has seen
-- begun, or given up. None is lost on the way.
pub record IsGranted (past : List Entry) (x y : LinkView) : Type 0 where
  pub link : LinkPast
  pub there : IsOneOf link (link_pasts (live past))
  pub number : link.number ≡ y.number
  pub name : link.name ≡ y.name
  pub role : link.role ≡ Receiver
  pub credit : x.credit.credit ≡ limit link.past - passed link.past

abbrev pub CreditIsKept : Type 0
CreditIsKept =
    (ca cb : Config) (n : ℕ) (a b : List Entry) → AtRest ca cb n a b → is_mapped (at ca a).session ≡ true → EachAttached (IsGranted b) (at ca a) (at cb b)

abbrev pub is_refresh : Option Op → Bool
is_refresh (Some (Refresh echo)) = true
is_refresh _ = false

-- the end refreshed its window, and has heard no transfer since
abbrev pub HasRefreshed : List Entry → Type 0
HasRefreshed [] = ⊥
HasRefreshed (e ∷ before) = (is_refresh (own_in e.step) ≡ true) ⊎ ((transfer_heard e ≡ None) × HasRefreshed before)

-- after a refresh that was heard, the other end may send as many transfers as the window has
abbrev pub WindowReopens : Type 0
WindowReopens =
    (ca cb : Config) (n : ℕ) (a b : List Entry) → AtRest ca cb n a b → is_mapped (at ca a).session ≡ true → HasRefreshed b → (at ca a).windows.remote_incoming ≡ cb.window

-- # Hearing ends

-- late is early with so many entries more, each of which hears a frame
abbrev pub HearsOn : ℕ → List Entry → List Entry → Type 0
HearsOn zero late early = late ≡ early
HearsOn (suc k) [] early = ⊥
HearsOn (suc k) (e ∷ late) early = IsSome (hears e) × HearsOn k late early

-- how many frames are on their way
abbrev pub on_way : List Entry → List Entry → ℕ
on_way a b = (count sends a - count hears b) + (count sends b - count hears a)

-- by hearing alone, in any order, at most twice as many frames are heard as were on their way; while one waits, it is taken (`NextIsTaken`)
abbrev pub HearingEnds : Type 0
HearingEnds =
    (ca cb : Config) (n n' : ℕ) (a b late late' : List Entry) (k k' : ℕ) → World ca cb n a b → World ca cb n' late late' → HearsOn k late a → HearsOn k' late' b
    → k + k' ≤ 2 * on_way a b
