-- What becomes of the links.
use Rattle.std.specs.Prelude.{ℕ, ◌≡◌, ◌+◌, ◌-◌, ◌==◌, Some, None, List, [], ◌∷◌, ◌++◌, find, filter, map, take, length}
use Rattle.amqp_events.specs.Told.{Telling}
use Rattle.amqp_events.specs.Joined.{Transferred}
use Rattle.amqp_rules.specs.View.{LinkView, EndView, has_number, has_peer_handle, free_handle, new_link, change_first, remove_first}
use Rattle.amqp_rules.specs.Take.{taken_from}
use Rattle.amqp_rules.specs.Learn.{learnt_from}
use Rattle.amqp_rules.specs.Detach.{left_by_us}
use Rattle.amqp_links.specs.declared.marks.Marks.{Marks}
use Rattle.amqp_links.specs.declared.fate.Fate.{Fate}
use Rattle.amqp_links.specs.declared.fate.Fate.TheVariants.{Stay, Marked, Ours, Theirs, Asked, Offered, Left, Taken, Learnt, Heard, Resumed, Gone, AllGone}
use Rattle.amqp_links.specs.Credits.{role_of}
use Rattle.amqp_links.specs.Marks.{with_marks}
use Rattle.amqp_links.specs.Arrivals.{with_piece}
use Rattle.amqp_links.specs.Links.{LinksView}
use Rattle.amqp_links.specs.Resuming.{ResumingView, with_resuming}
use Rattle.amqp_waiting.specs.Waiting.{without}

-- the link after our attach, and after the peer's
abbrev pub with_ours : EndView → Marks → ResumingView → LinkView → LinkView
with_ours end m r l = record (with_resuming r (with_marks m l)) { ours = Some end }

abbrev pub with_theirs : EndView → Marks → ResumingView → LinkView → LinkView
with_theirs end m r l = record (with_resuming r (with_marks m l)) { theirs = Some end }

-- the link after a delivery that waited on it is resumed
abbrev pub with_resumed : Marks → List ℕ → LinkView → LinkView
with_resumed m tag l = record (with_marks m l) { waiting = without tag l.waiting }

-- the link after a transfer that is heard
abbrev pub with_heard : Marks → Transferred → LinkView → LinkView
with_heard m t l = with_piece t (with_marks m l)

-- one link more
abbrev pub with_more : LinkView → LinksView → LinksView
with_more l ls = record { made = ls.made + 1; list = ls.list ++ l ∷ [] }

abbrev pub changed : ℕ → (LinkView → LinkView) → LinksView → LinksView
changed n change ls = record ls { list = change_first (has_number n) change ls.list }

abbrev pub links_after : Fate → LinksView → LinksView
links_after Stay ls = ls
links_after (Marked key n m) ls = changed n (with_marks m) ls
links_after (Ours key n end m r) ls = changed n (with_ours end m r) ls
links_after (Theirs key n end m r) ls = changed n (with_theirs end m r) ls
links_after (Asked name end m r) ls = with_more (with_ours end m r (new_link ls.made (role_of m.credit) name)) ls
links_after (Offered name end m r) ls = with_more (with_theirs end m r (new_link ls.made (role_of m.credit) name)) ls
links_after (Left key n) ls = changed n left_by_us ls
links_after (Taken key n) ls = changed n taken_from ls
links_after (Learnt key n) ls = changed n learnt_from ls
links_after (Heard key n m t) ls = changed n (with_heard m t) ls
links_after (Resumed key n m tag) ls = changed n (with_resumed m tag) ls
links_after (Gone key n) ls = record ls { list = remove_first (has_number n) ls.list }
links_after AllGone ls = record ls { list = [] }

-- our attach gives the lowest free handle and the peer's a new one, and each is the first of its end on its link
abbrev pub IsFit : Fate → LinksView → Type 0
IsFit (Ours key n end m r) ls =
    (end.handle ≡ free_handle ls.list) × ((l : LinkView) → find (has_number n) ls.list ≡ Some l → l.ours ≡ None)
IsFit (Theirs key n end m r) ls =
    (find (has_peer_handle end.handle) ls.list ≡ None) × ((l : LinkView) → find (has_number n) ls.list ≡ Some l → l.theirs ≡ None)
IsFit (Asked name end m r) ls = end.handle ≡ free_handle ls.list
IsFit (Offered name end m r) ls = find (has_peer_handle end.handle) ls.list ≡ None
IsFit _ ls = Unit {0}

-- the link with what was told of its deliveries
abbrev pub with_told : List Telling → LinkView → LinkView
with_told ts l = record l { told = l.told ++ filter (λ t. t.link == l.number) ts }

abbrev pub links_told : List Telling → LinksView → LinksView
links_told ts ls = record ls { list = map (with_told ts) ls.list }

-- one thing more is told, and the last is taken back
abbrev pub with_one_told : Telling → LinkView → LinkView
with_one_told t l = record l { told = l.told ++ t ∷ [] }

abbrev pub without_last_told : LinkView → LinkView
without_last_told l = record l { told = take (length l.told - 1) l.told }
