-- A step's change of the links goes on beside what was told of them.
use Rattle.std.proofs.Common.{◌≡◌, Bool, true, false, cond, Option, Some, None, List, [], ◌∷◌, map, find, is_some, option_map, refl, sym, ap, ◌∙◌, subst}
use Rattle.amqp_performatives.specs.declared.bodies.Role.{Role}
use Rattle.amqp_rules.specs.declared.config.Config.{Config}
use Rattle.amqp_rules.specs.View.{LinkView, is_over, same_role, change_first, remove_first}
use Rattle.amqp_rules.specs.Sound.{Every}
use Rattle.amqp_rules.proofs.Listed.{map-removed}
use Rattle.amqp_events.specs.Event.{Event}
use Rattle.amqp_events.specs.Laws.{AreLearnt}
use Rattle.amqp_events.specs.Told.{sent_held}
use Rattle.amqp_laws.specs.declared.entry.Entry.{Entry}
use Rattle.amqp_laws.specs.Links.{LinkPast, link_at, link_pasts, links_there, is_gone, is_there_with}
use Rattle.amqp_laws.specs.Session.{session_at, links_at}
use Rattle.amqp_laws.specs.At.{with_told, sent_events}
use Rattle.amqp_laws.proofs.Events.{find-map}
use Rattle.amqp_laws.proofs.Joining.{Changes, at-changed-of}
use Rattle.amqp_laws.proofs.StartWhole.{found-bare}
use Rattle.amqp_laws.proofs.ToldLink.{told-step, change-told, mute-links, IsMute}

-- an event that tells nothing
pub told-mute : (event : Event) (events : List Event) (links : List LinkView) → AreLearnt events → IsMute event
    → map (with_told (event ∷ events)) links ≡ map (with_told events) links
told-mute event events links learnt mute = told-step event events links learnt ∙ mute-links event (sent_held events) (map (with_told events) links) mute

-- the first link that passes the test is changed
pub told-changed-of : (P : LinkPast → Type 0) (c : Config) (past : List Entry) (event : Event) (test : LinkView → Bool) (act : LinkPast → LinkPast) (change : LinkView → LinkView) (on : LinkView)
    → AreLearnt (sent_events c past) → IsMute event
    → ((l : LinkView) → test (with_told (sent_events c past) l) ≡ test l)
    → ((l : LinkView) → with_told (sent_events c past) (change l) ≡ change (with_told (sent_events c past) l))
    → Every P (link_pasts past)
    → find test (map (with_told (sent_events c past)) (links_at past)) ≡ Some on
    → ((l : LinkPast) → P l → is_gone l ≡ false → with_told (sent_events c past) (link_at l) ≡ on → Changes act change l)
    → map (with_told (event ∷ sent_events c past)) (cond (is_over (session_at past)) [] (links_there (change_first (is_there_with test) act (link_pasts past))))
    ≡ change_first test change (map (with_told (sent_events c past)) (links_at past))
told-changed-of P c past event test act change on learnt mute t k all found changes =
    let events = sent_events c past in
    let bare = found-bare (with_told events) (find test (links_at past)) on (sym (find-map test (with_told events) t (links_at past)) ∙ found) in
    let links = at-changed-of P (is_over (session_at past)) test act change (link_pasts past) (Some bare.0) all bare.1
    (λ l p there same. changes l p there (let here : link_at l ≡ bare.0 = (let s : Some bare.0 ≡ Some (link_at l) = same in cc) in ap (with_told events) here ∙ bare.2)) in
    told-mute event events (cond (is_over (session_at past)) [] (links_there (change_first (is_there_with test) act (link_pasts past)))) learnt mute
    ∙ ap (λ ls. map (with_told events) ls) links
    ∙ change-told (with_told events) test change t k (links_at past)

pub trivially : (links : List LinkPast) → Every (λ l. Unit {0}) links
trivially [] = tt
trivially (l ∷ links) = (tt, trivially links)

pub told-changed : (c : Config) (past : List Entry) (event : Event) (test : LinkView → Bool) (act : LinkPast → LinkPast) (change : LinkView → LinkView) (on : LinkView)
    → AreLearnt (sent_events c past) → IsMute event
    → ((l : LinkView) → test (with_told (sent_events c past) l) ≡ test l)
    → ((l : LinkView) → with_told (sent_events c past) (change l) ≡ change (with_told (sent_events c past) l))
    → find test (map (with_told (sent_events c past)) (links_at past)) ≡ Some on
    → ((l : LinkPast) → is_gone l ≡ false → with_told (sent_events c past) (link_at l) ≡ on → Changes act change l)
    → map (with_told (event ∷ sent_events c past)) (cond (is_over (session_at past)) [] (links_there (change_first (is_there_with test) act (link_pasts past))))
    ≡ change_first test change (map (with_told (sent_events c past)) (links_at past))
told-changed c past event test act change on learnt mute t k found changes =
    told-changed-of (λ l. Unit {0}) c past event test act change on learnt mute t k (trivially (link_pasts past)) found (λ l u. changes l)

-- the first link that passes the test is gone
pub told-removed : (event : Event) (events : List Event) (test : LinkView → Bool) (links : List LinkView)
    → AreLearnt events → IsMute event
    → ((l : LinkView) → test l ≡ test (with_told events l))
    → map (with_told (event ∷ events)) (remove_first test links) ≡ remove_first test (map (with_told events) links)
told-removed event events test links learnt mute t = told-mute event events (remove_first test links) learnt mute ∙ map-removed (with_told events) test test links t

-- the role of the link that was found
pub told-role : (role : Role) (events : List Event) (l on : LinkView) → with_told events l ≡ on → same_role role on.role ≡ true → same_role role l.role ≡ true
told-role role events l on whole h = subst (λ (x : LinkView). same_role role x.role ≡ true) (sym whole) h

-- a link is found or not whatever was told
pub met-told : (f : LinkView → LinkView) (test : LinkView → Bool) → ((l : LinkView) → test (f l) ≡ test l) → (links : List LinkView)
    → is_some (find test (map f links)) ≡ is_some (find test links)
met-told f test same links = ap (λ (o : Option LinkView). is_some o) (find-map test f same links) ∙ by (find test links)
  where
    by : (o : Option LinkView) → is_some (option_map f o) ≡ is_some o
    by None = refl
    by (Some l) = refl
