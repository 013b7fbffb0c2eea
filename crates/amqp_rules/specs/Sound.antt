-- What holds of a session at all times, beside what its steps say: its links are told apart, its counts stay small, and what waits has tags of its own.
use Rattle.std.specs.Prelude.{ℕ, ◌≡◌, ◌<◌, ◌≤◌, ◌+◌, ◌==◌, ◌&&◌, ◌||◌, not, Bool, true, false, Option, List, [], ◌∷◌, map, find, is_some, nat_eq}
use Rattle.std.specs.List.{list_any}
use Rattle.std.specs.Cmp.Lexicographic.{pointwise}
use Rattle.amqp_performatives.specs.declared.bodies.Role.{Role}
use Rattle.amqp_events.specs.Event.{Item}
use Rattle.amqp_events.specs.Tags.{is_tagged}
use Rattle.amqp_rules.specs.View.{View, LinkView, EndView, has_handle, holds, is_attached, is_over, is_sender, same_role}

-- P holds of each
abbrev pub Every : {A : Type 0} → (A → Type 0) → List A → Type 0
Every P [] = Unit {0}
Every P (x ∷ xs) = P x × Every P xs

-- by what links are told apart
pub record Keys : Type 0 where
  pub number : ℕ
  pub role : Role
  pub name : List ℕ
  pub ours : Option EndView
  pub theirs : Option EndView

abbrev pub keys : LinkView → Keys
keys l = record { number = l.number; role = l.role; name = l.name; ours = l.ours; theirs = l.theirs }

-- no two, the earlier one first, are the same by this test
abbrev pub Apart : (Keys → Keys → Bool) → List Keys → Type 0
Apart same [] = Unit {0}
Apart same (k ∷ ks) = Every (λ l. same k l ≡ false) ks × Apart same ks

abbrev pub same_handle : Option EndView → Option EndView → Bool
same_handle a b = holds (λ e. holds (λ f. f.handle == e.handle) b) a

-- we call both by one handle
abbrev pub shares_handle : Keys → Keys → Bool
shares_handle k l = same_handle k.ours l.ours

-- the peer calls both by one handle
abbrev pub shares_peer_handle : Keys → Keys → Bool
shares_peer_handle k l = same_handle k.theirs l.theirs

-- they have one role and one name
abbrev pub shares_name : Keys → Keys → Bool
shares_name k l = same_role l.role k.role && pointwise nat_eq l.name k.name

-- from n on the numbers ascend, and stay below made
abbrev pub Ascends : ℕ → ℕ → List Keys → Type 0
Ascends made n [] = n ≤ made
Ascends made n (k ∷ ks) = (n ≤ k.number) × Ascends made (k.number + 1) ks

-- an attach was sent or heard
abbrev pub has_end : Keys → Bool
has_end k = is_some k.ours || is_some k.theirs

pub record AreSound (made : ℕ) (ks : List Keys) : Type 0 where
  pub numbers : Ascends made 0 ks
  pub handles : Apart shares_handle ks
  pub peer_handles : Apart shares_peer_handle ks
  pub names : Apart shares_name ks
  pub ends : Every (λ k. has_end k ≡ true) ks

pub record IsSound (v : View) : Type 0 where
  pub sent : v.windows.sent ≤ v.steps
  pub deliveries : v.deliveries ≤ v.steps
  pub made : v.made ≤ v.steps
  pub links : AreSound v.made (map keys v.links)
  -- the links of a session that is over are gone
  pub over : is_over v.session ≡ true → v.links ≡ []
  -- nothing is sent before our begin
  pub unbegun : v.session.begin_sent ≡ false → v.windows.sent ≡ 0

-- h is no handle of ours, and each lower number is one
pub record IsLowestFree (links : List LinkView) (h : ℕ) : Type 0 where
  pub free : is_some (find (has_handle h) links) ≡ false
  pub lowest : (k : ℕ) → k < h → is_some (find (has_handle k) links) ≡ true

-- what is unfinished on a link: a delivery of ours where it is attached and we send, one of the peer's where it is attached and we receive
pub record IsUnfinished (l : LinkView) : Type 0 where
  pub sending : is_some l.sending && not (is_attached l && is_sender l.role) ≡ false
  pub receiving : is_some l.receiving && not (is_attached l && not (is_sender l.role)) ≡ false

-- # What waits, beside unsettled deliveries of one direction

-- on the link
pub record WaitsApart (items : List Item) (l : LinkView) : Type 0 where
  -- no tag that waits is that of an unsettled delivery
  pub waiting : Every (λ w. list_any (is_tagged l.number w.tag) items ≡ false) l.waiting
  -- without our attach there is no unsettled delivery
  pub bare : is_some l.ours ≡ false → list_any (λ i. i.link == l.number) items ≡ false

pub record AllWaitApart (made : ℕ) (links : List LinkView) (items : List Item) : Type 0 where
  pub apart : Every (WaitsApart items) links
  -- the links of unsettled deliveries were made
  pub below : Every (λ i. i.link < made) items

-- no tag that waits on a link is that of a delivery which is unsettled on it
pub record IsWaitingApart (v : View) : Type 0 where
  pub sent : AllWaitApart v.made v.links (map (λ s. s.item) v.sent)
  pub received : AllWaitApart v.made v.links v.received
