-- What waits on a link, as a formula over the link's past and as single changes.
use Rattle.std.proofs.Common.{◌≡◌, ℕ, Bool, true, false, not, cond, ◌||◌, Option, None, Some, List, [], ◌∷◌, map, filter, filter_map, is_some, is_none, option_map, refl, sym, ap, ◌∙◌}
use Rattle.std.specs.List.{list_any, cons_option}
use Rattle.amqp_performatives.specs.declared.bodies.AttachBody.{AttachBody}
use Rattle.amqp_performatives.specs.declared.bodies.Role.{Role}
use Rattle.amqp_performatives.specs.declared.bodies.Role.TheVariants.{Sender, Receiver}
use Rattle.amqp_waiting.specs.Waiting.{WaitingItem, waits_as, unclear, met, met_item, without, told_of, same_tag, state_told}
use Rattle.amqp_waiting.specs.declared.item.Verdict.TheVariants.{Held}
use Rattle.amqp_waiting.specs.declared.item.SuspendedItem.{SuspendedItem}
use Rattle.amqp_waiting.specs.declared.peer.Unsettled.{Unsettled}
use Rattle.amqp_rules.specs.View.{none_told}
use Rattle.amqp_waiting.specs.PeerUnsettled.{unsettled_of}
use Rattle.amqp_rules.specs.Attach.{end_of, met_where, offer_until}
use Rattle.amqp_laws.specs.Brought.{as_met, offer_by, still_waits}

-- where no tag was named all wait
pub none-named : (ws : List WaitingItem) → filter (still_waits []) ws ≡ ws
none-named [] = refl
none-named (w ∷ ws) = ap (λ l. w ∷ l) (none-named ws)

both-tests : (tag : List ℕ) (w : WaitingItem) (xs ys : List WaitingItem) (named any : Bool) → waits_as tag w ≡ named → xs ≡ without tag ys
    → cond (not (named || any)) (w ∷ xs) xs ≡ without tag (cond (not any) (w ∷ ys) ys)
both-tests tag w xs ys true true e h = h
both-tests tag w xs ys false true e h = h
both-tests tag w xs ys true false e h = h ∙ sym (ap (λ b. cond (not b) (w ∷ without tag ys) (without tag ys)) e)
both-tests tag w xs ys false false e h = ap (λ l. w ∷ l) h ∙ sym (ap (λ b. cond (not b) (w ∷ without tag ys) (without tag ys)) e)

-- one tag more was named
pub one-named : (tag : List ℕ) (tags : List (List ℕ)) (ws : List WaitingItem) → filter (still_waits (tag ∷ tags)) ws ≡ without tag (filter (still_waits tags) ws)
one-named tag tags [] = refl
one-named tag tags (w ∷ ws) =
    both-tests tag w (filter (still_waits (tag ∷ tags)) ws) (filter (still_waits tags) ws) (waits_as tag w) (list_any (λ t. waits_as t w) tags) refl (one-named tag tags ws)

-- the meeting of the attaches changes no tag
after-met : (role : Role) (u : Unsettled) (m : WaitingItem) (w : WaitingItem) (xs ys : List WaitingItem) (b : Bool) → met_item role u w ≡ Some m → xs ≡ met role u ys
    → cond b (m ∷ xs) xs ≡ met role u (cond b (w ∷ ys) ys)
after-met role u m w xs ys true e h = ap (λ l. m ∷ l) h ∙ sym (ap (λ o. cons_option o (met role u ys)) e)
after-met role u m w xs ys false e h = h

after-dropped : (role : Role) (u : Unsettled) (w : WaitingItem) (xs ys : List WaitingItem) (b : Bool) → met_item role u w ≡ None → xs ≡ met role u ys
    → xs ≡ met role u (cond b (w ∷ ys) ys)
after-dropped role u w xs ys true e h = h ∙ sym (ap (λ o. cons_option o (met role u ys)) e)
after-dropped role u w xs ys false e h = h

-- an item that stays keeps its tag
abbrev Keeps : WaitingItem → Option WaitingItem → Type 0
Keeps w None = Unit {0}
Keeps w (Some m) = m.tag ≡ w.tag

keeps-tag : (role : Role) (u : Unsettled) (w : WaitingItem) → Keeps w (met_item role u w)
keeps-tag Sender u w = refl
keeps-tag Receiver u w = by (is_some (told_of w.tag u) || u.incomplete) (record w { verdict = Held; theirs = state_told (told_of w.tag u) }) refl
  where
    by : (b : Bool) (m : WaitingItem) → m.tag ≡ w.tag → Keeps w (cond b (Some m) None)
    by true m e = e
    by false m e = tt

met-by : (role : Role) (u : Unsettled) (tags : List (List ℕ)) (w : WaitingItem) (ws : List WaitingItem) (o : Option WaitingItem)
    → met_item role u w ≡ o → Keeps w o
    → filter (still_waits tags) (met role u ws) ≡ met role u (filter (still_waits tags) ws)
    → filter (still_waits tags) (cons_option o (met role u ws)) ≡ met role u (cond (still_waits tags w) (w ∷ filter (still_waits tags) ws) (filter (still_waits tags) ws))
met-by role u tags w ws None e keeps h = after-dropped role u w _ (filter (still_waits tags) ws) (still_waits tags w) e h
met-by role u tags w ws (Some m) e keeps h =
    ap (λ t. cond (not (list_any (λ tag. same_tag tag t) tags)) (m ∷ filter (still_waits tags) (met role u ws)) (filter (still_waits tags) (met role u ws))) keeps
    ∙ after-met role u m w _ (filter (still_waits tags) ws) (still_waits tags w) e h

pub met-still : (role : Role) (u : Unsettled) (tags : List (List ℕ)) (ws : List WaitingItem) → filter (still_waits tags) (met role u ws) ≡ met role u (filter (still_waits tags) ws)
met-still role u tags [] = refl
met-still role u tags (w ∷ ws) = met-by role u tags w ws (met_item role u w) refl (keeps-tag role u w) (met-still role u tags ws)

-- # Attaches

-- ours brings items in
pub own-waits : (role : Role) (b : AttachBody) (o p : Option AttachBody) (items : List SuspendedItem) → o ≡ None
    → filter (still_waits []) (as_met role (Some b) p (map unclear items)) ≡ met_where (option_map end_of p) role (offer_by o p) (map unclear items)
own-waits role b o None items e = none-named (map unclear items)
own-waits role b None (Some t) items e = none-named (met role (unsettled_of t) (map unclear items))
own-waits role b (Some x) (Some t) items e = absurd (cc)

-- the peer's meets ours, or is kept
pub peer-waits : (role : Role) (b : AttachBody) (o p : Option AttachBody) (tags : List (List ℕ)) (ws : List WaitingItem) → p ≡ None
    → filter (still_waits tags) (as_met role o (Some b) ws) ≡ met_where (option_map end_of o) role (unsettled_of b) (filter (still_waits tags) (as_met role o p ws))
peer-waits role b None p tags ws e = refl
peer-waits role b (Some x) None tags ws e = met-still role (unsettled_of b) tags ws
peer-waits role b (Some x) (Some t) tags ws e = absurd (cc)

pub peer-offers : (b : AttachBody) (o : Option AttachBody) → offer_by o (Some b) ≡ offer_until (option_map end_of o) (unsettled_of b)
peer-offers b None = refl
peer-offers b (Some x) = refl

pub no-attach : (o : Option AttachBody) → is_none (option_map end_of o) ≡ true → o ≡ None
no-attach None h = refl
no-attach (Some b) h = absurd (cc)
