-- An attach, sent or heard, as formulas over the whole past and as single changes.
use Rattle.std.proofs.Common.{◌≡◌, ℕ, ◌+◌, Bool, true, false, cond, not, Option, Some, None, Ok, List, [], ◌∷◌, ◌++◌, length, map, ap, ◌∙◌, arith, subst, refl, find, is_some, is_none, length-append, ◌&&◌}
use Rattle.std.specs.List.{cons_option}
use Rattle.amqp_performatives.specs.declared.bodies.AttachBody.{AttachBody}
use Rattle.amqp_performatives.specs.declared.bodies.Role.{Role}
use Rattle.amqp_performatives.specs.declared.bodies.Role.TheVariants.{Sender, Receiver}
use Rattle.amqp_performatives.specs.declared.performative.Performative.TheVariants as heard
use Rattle.amqp_rules.specs.declared.op.Rejoin.{Rejoin as Rejoining}
use Rattle.amqp_rules.specs.declared.op.Op.TheVariants.{Attach, Rejoin}
use Rattle.amqp_rules.specs.declared.reply.Reply.{Reply}
use Rattle.amqp_rules.specs.declared.reply.Given.{Given}
use Rattle.amqp_rules.specs.declared.reply.Given.TheVariants.{Link}
use Rattle.amqp_rules.specs.declared.config.Config.{Config}
use Rattle.amqp_rules.specs.View.{LinkView, has_name, SessionView, is_over, is_mapped, takes_frames, is_offered_as, is_asked_as, new_link, opposite, change_first}
use Rattle.amqp_rules.specs.Sending.{reply_of}
use Rattle.amqp_rules.specs.Attach.{Wanted, attach_answer, attach_refusals, attach_sent, attached_by_us, attached_by_peer, join_link, next_attach, number_met}
use Rattle.amqp_rules.specs.PeerAttach.{attach_heard_answer, attach_heard_reply, attach_violations, met_or_made, next_attach_heard}
use Rattle.amqp_rules.specs.Refusing.{first_refusal}
use Rattle.amqp_laws.specs.declared.entry.Entry.{Entry}
use Rattle.amqp_laws.specs.declared.entry.Step.TheVariants.{Own, Heard}
use Rattle.amqp_laws.specs.Links.{LinkPast, link_at, link_pasts, link_there, links_there, is_gone, put, is_there_with}
use Rattle.amqp_laws.specs.Session.{session_at}
use Rattle.amqp_laws.specs.Attaches.{our_attach, peer_attach}
use Rattle.amqp_laws.specs.Brought.{tags_named, items_brought}
use Rattle.amqp_waiting.specs.Waiting.{unclear}
use Rattle.amqp_laws.proofs.BroughtLaw.{none-named, own-waits, peer-waits, peer-offers, no-attach}
use Rattle.amqp_laws.specs.At.{seen, sent_events, received_events, with_told}
use Rattle.amqp_rules.proofs.Accepted.{sends-ok, not-false, answered_Ok, no_refusal}
use Rattle.amqp_rules.proofs.Listed.{by-bool, length-changed}
use Rattle.amqp_laws.proofs.Joining.{Changes, there-changed, there-more}
use Rattle.amqp_laws.proofs.Beside.{told-mute, met-told}
use Rattle.amqp_laws.proofs.Below.{none-to-learn}
use Rattle.amqp_laws.proofs.ToldLink.{change-told}
use Rattle.amqp_laws.proofs.TableLaw.{quiet-sent, quiet-held}
use Rattle.std.proofs.lemmas.List.{map-append}
use Rattle.amqp_events.specs.Laws.{AreLearnt}
use Rattle.amqp_events.specs.Event.{Nothing as No_event}

-- what is wanted, as a Rejoin asks for it
abbrev asking : Wanted → Rejoining
asking a =
    record {
      name = a.name;
      role = a.role;
      snd = a.snd;
      rcv = a.rcv;
      source = a.source;
      target = a.target;
      count = a.count;
      max_message = a.max_message;
      items = a.items;
    }

-- a Rejoin for what is wanted, with this attach in reply
abbrev pub own_attach_entry : Wanted → AttachBody → Given → Entry
own_attach_entry a b given =
    record { step = Own (Rejoin (asking a)); reply = reply_of (Some (heard.Attach b)) [] given }

-- an attach of the peer's; nothing is sent in reply
abbrev pub peer_attach_entry : ℕ → AttachBody → List ℕ → Given → Entry
peer_attach_entry channel b payload given =
    record { step = Heard (record { channel = channel; body = Some (heard.Attach b); payload = payload }); reply = record { sent = []; ended = []; given = given } }

-- an offered link has no attach of ours
unasked : (named theirs ours : Bool) → named && (theirs && ours) ≡ true → ours ≡ true
unasked true true ours h = h
unasked true false ours h = absurd (cc)
unasked false theirs ours h = absurd (cc)

pub own-attach-changes : (a : Wanted) (b : AttachBody) (given : Given) (number : ℕ) (role : Role) (name : List ℕ) (past : List Entry)
    → is_gone (record { number = number; role = role; name = name; past = past }) ≡ false
    → our_attach past ≡ None
    → Changes (put (own_attach_entry a b given)) (attached_by_us b a.items) (record { number = number; role = role; name = name; past = past })
own-attach-changes a b given number Sender name past there none = record {
  stays = there;
  changed = ap (λ ws. record (attached_by_us b a.items (link_at (record { number = number; role = Sender; name = name; past = past }))) { waiting = ws }) (own-waits Sender b (our_attach past) (peer_attach past) a.items none);
}
own-attach-changes a b given number Receiver name past there none = record {
  stays = there;
  changed = ap (λ ws. record (attached_by_us b a.items (link_at (record { number = number; role = Receiver; name = name; past = past }))) { waiting = ws }) (own-waits Receiver b (our_attach past) (peer_attach past) a.items none);
}

pub own-attach-makes : (a : Wanted) (b : AttachBody) (given : Given) (number : ℕ) (role : Role) (name : List ℕ)
    → link_at (record { number = number; role = role; name = name; past = own_attach_entry a b given ∷ [] }) ≡ attached_by_us b a.items (new_link number role name)
own-attach-makes a b given number Sender name = ap (λ ws. record (attached_by_us b a.items (new_link number Sender name)) { waiting = ws }) (none-named (map unclear a.items))
own-attach-makes a b given number Receiver name = ap (λ ws. record (attached_by_us b a.items (new_link number Receiver name)) { waiting = ws }) (none-named (map unclear a.items))

pub peer-attach-changes : (channel : ℕ) (b : AttachBody) (payload : List ℕ) (given : Given) (number : ℕ) (role : Role) (name : List ℕ) (past : List Entry)
    → is_gone (record { number = number; role = role; name = name; past = past }) ≡ false
    → peer_attach past ≡ None
    → Changes (put (peer_attach_entry channel b payload given)) (attached_by_peer b) (record { number = number; role = role; name = name; past = past })
peer-attach-changes channel b payload given number Sender name past there none = record {
  stays = there;
  changed = λ i. record (attached_by_peer b (link_at (record { number = number; role = Sender; name = name; past = past }))) {
    waiting = peer-waits Sender b (our_attach past) (peer_attach past) (tags_named past) (map unclear (items_brought past)) none i;
    offer = peer-offers b (our_attach past) i;
  };
}
peer-attach-changes channel b payload given number Receiver name past there none = record {
  stays = there;
  changed = λ i. record (attached_by_peer b (link_at (record { number = number; role = Receiver; name = name; past = past }))) {
    waiting = peer-waits Receiver b (our_attach past) (peer_attach past) (tags_named past) (map unclear (items_brought past)) none i;
    offer = peer-offers b (our_attach past) i;
  };
}

pub peer-attach-makes : (channel : ℕ) (b : AttachBody) (payload : List ℕ) (given : Given) (number : ℕ) (role : Role) (name : List ℕ)
    → link_at (record { number = number; role = role; name = name; past = peer_attach_entry channel b payload given ∷ [] }) ≡ attached_by_peer b (new_link number role name)
peer-attach-makes channel b payload given number Sender name = refl
peer-attach-makes channel b payload given number Receiver name = refl

-- what is found passes the test
find-passes : (test : LinkView → Bool) (links : List LinkView) (l : LinkView) → find test links ≡ Some l → test l ≡ true
find-passes test [] l h = absurd (cc)
find-passes test (k ∷ links) l h =
    by-bool (test k)
    (λ (passes : test k ≡ true). let h' = rw passes at h in let same : k ≡ l = cc in subst (λ (m : LinkView). test m ≡ true) same passes)
    (λ (fails : test k ≡ false). let h' = rw fails at h in find-passes test links l h')

length-more : {A : Type 0} (xs : List A) (x : A) → length (xs ++ x ∷ []) ≡ length xs + 1
length-more xs x = rw length-append refl

pub not-over : (begun over : Bool) → begun && not over ≡ true → over ≡ false
not-over true true h = absurd (cc)
not-over true false h = refl
not-over false over h = absurd (cc)

pub mapped-not-over : (s : SessionView) → is_mapped s ≡ true → is_over s ≡ false
mapped-not-over s h = by s.begin_sent h
  where
    by : (sent : Bool) → sent && takes_frames s ≡ true → is_over s ≡ false
    by true h = not-over s.begin_heard (is_over s) h
    by false h = absurd (cc)

-- our attach meets an offered link, or makes one
pub own-attach-joins : (c : Config) (n : ℕ) (past : List Entry) (a : Wanted) (b : AttachBody) (given : Given)
    → AreLearnt (sent_events c past)
    → is_over (session_at past) ≡ false
    → seen c (n + 1) (own_attach_entry a b given ∷ past) ≡ join_link (is_offered_as a.role a.name) a.role a.name (attached_by_us b a.items) (seen c n past)
own-attach-joins c n past a b given learnt open' =
    let test = is_offered_as a.role a.name in
    let e = own_attach_entry a b given in
    let links = link_pasts past in
    let events = sent_events c past in
    let met-same = met-told (with_told events) test (λ l. refl) (links_there links) in
    by-bool (is_some (find test (links_there links)))
    (λ (met : is_some (find test (links_there links)) ≡ true).
    let changed = there-changed test (put e) (attached_by_us b a.items) links (find test (links_there links)) refl (λ l there found. own-attach-changes a b given l.number l.role l.name l.past there
    (no-attach (our_attach l.past) (unasked (has_name a.role a.name (link_at l)) (is_some (link_at l).theirs) (is_none (link_at l).ours) (find-passes test (links_there links) (link_at l) found)))) in
    let told = ap (λ ls. map (with_told (No_event ∷ events)) ls) changed ∙ told-mute No_event events (change_first test (attached_by_us b a.items) (links_there links)) learnt tt
    ∙ change-told (with_told events) test (attached_by_us b a.items) (λ l. refl) (λ l. refl) (links_there links) in
    rw (open', met-same, met, told, length-changed (is_there_with test) (put e) links, quiet-sent events, quiet-held (received_events c past)) refl)
    (λ (new : is_some (find test (links_there links)) ≡ false).
    let l : LinkPast = record { number = length links; role = a.role; name = a.name; past = e ∷ [] } in
    let untold : with_told events (attached_by_us b a.items (new_link (length links) a.role a.name)) ≡ attached_by_us b a.items (new_link (length links) a.role a.name) = rw (none-to-learn c past (length links) learnt (omega arith)) refl in
    let told = ap (λ ls. map (with_told (No_event ∷ events)) ls) (there-more links l refl) ∙ told-mute No_event events (links_there links ++ link_at l ∷ []) learnt tt
    ∙ map-append (with_told events) (links_there links) (link_at l ∷ [])
    ∙ ap (λ x. map (with_told events) (links_there links) ++ x ∷ []) (ap (with_told events) (own-attach-makes a b given (length links) a.role a.name) ∙ untold) in
    rw (open', met-same, new, told, length-more links l, quiet-sent events, quiet-held (received_events c past)) refl)

pub attach-law : (c : Config) (n : ℕ) (past : List Entry) (a : Wanted) (reply : Reply)
    → AreLearnt (sent_events c past)
    → attach_answer (seen c n past) a ≡ Ok reply
    → seen c (n + 1) (record { step = Own (Rejoin (asking a)); reply = reply } ∷ past) ≡ next_attach (seen c n past) a
attach-law c n past a reply learnt h =
    let v = seen c n past in
    let given = Link (number_met v.made (find (is_offered_as a.role a.name) v.links)) in
    let s = sends-ok v.max_frame (attach_refusals v a) (Some (heard.Attach (attach_sent v a))) [] given reply h in
    let mapped = not-false (is_mapped v.session) s.none_holds.0 in
    rw (← s.replies) (own-attach-joins c n past a (attach_sent v a) given learnt (mapped-not-over (session_at past) mapped))

-- # An Attach: what a Rejoin without items is

abbrev bare : Wanted → Wanted
bare a = record a { items = [] }

-- an Attach for what is wanted, with this attach in reply
abbrev bare_entry : Wanted → AttachBody → Given → Entry
bare_entry a b given =
    record { step = Own (Attach a.name a.role a.snd a.rcv a.source a.target a.count a.max_message); reply = reply_of (Some (heard.Attach b)) [] given }

bare-link : (a : Wanted) (b : AttachBody) (given : Given) (number : ℕ) (role : Role) (name : List ℕ) (past : List Entry)
    → link_at (record { number = number; role = role; name = name; past = bare_entry a b given ∷ past })
    ≡ link_at (record { number = number; role = role; name = name; past = own_attach_entry (bare a) b given ∷ past })
bare-link a b given number Sender name past = refl
bare-link a b given number Receiver name past = refl

bare-there : (a : Wanted) (b : AttachBody) (given : Given) (l : LinkPast) → link_there (put (bare_entry a b given) l) ≡ link_there (put (own_attach_entry (bare a) b given) l)
bare-there a b given l = by (is_gone l)
  where
    by : (gone : Bool) → cond gone None (Some (link_at (put (bare_entry a b given) l))) ≡ cond gone None (Some (link_at (put (own_attach_entry (bare a) b given) l)))
    by true = refl
    by false = ap (λ (x : LinkView). Some x) (bare-link a b given l.number l.role l.name l.past)

same-there : (test : LinkView → Bool) (e f : Entry) (links : List LinkPast) → ((l : LinkPast) → link_there (put e l) ≡ link_there (put f l))
    → links_there (change_first (is_there_with test) (put e) links) ≡ links_there (change_first (is_there_with test) (put f) links)
same-there test e f [] same = refl
same-there test e f (l ∷ links) same =
    by-bool (is_there_with test l)
    (λ (t : is_there_with test l ≡ true). rw t (ap (λ (o : Option LinkView). cons_option o (links_there links)) (same l)))
    (λ (t : is_there_with test l ≡ false). rw t (ap (λ (ls : List LinkView). cons_option (link_there l) ls) (same-there test e f links same)))

-- the two make one view
bare-seen : (c : Config) (n : ℕ) (past : List Entry) (a : Wanted) (b : AttachBody) (given : Given)
    → seen c n (bare_entry a b given ∷ past) ≡ seen c n (own_attach_entry (bare a) b given ∷ past)
bare-seen c n past a b given =
    let test = is_offered_as a.role a.name in
    let e = bare_entry a b given in
    let f = own_attach_entry (bare a) b given in
    let links = link_pasts past in
    by-bool (is_some (find test (links_there links)))
    (λ (met : is_some (find test (links_there links)) ≡ true).
    rw (met, same-there test e f links (bare-there a b given), length-changed (is_there_with test) (put e) links, length-changed (is_there_with test) (put f) links) refl)
    (λ (new : is_some (find test (links_there links)) ≡ false).
    let k : LinkPast = record { number = length links; role = a.role; name = a.name; past = e ∷ [] } in
    let l : LinkPast = record { number = length links; role = a.role; name = a.name; past = f ∷ [] } in
    rw (new, there-more links k refl, there-more links l refl, length-more links k, length-more links l, bare-link a b given (length links) a.role a.name []) refl)

pub attach-law-bare : (c : Config) (n : ℕ) (past : List Entry) (a : Wanted) (reply : Reply)
    → AreLearnt (sent_events c past)
    → attach_answer (seen c n past) (bare a) ≡ Ok reply
    → seen c (n + 1) (record { step = Own (Attach a.name a.role a.snd a.rcv a.source a.target a.count a.max_message); reply = reply } ∷ past) ≡ next_attach (seen c n past) (bare a)
attach-law-bare c n past a reply learnt h =
    let v = seen c n past in
    let given = Link (number_met v.made (find (is_offered_as a.role a.name) v.links)) in
    let s = sends-ok v.max_frame (attach_refusals v (bare a)) (Some (heard.Attach (attach_sent v (bare a)))) [] given reply h in
    let mapped = not-false (is_mapped v.session) s.none_holds.0 in
    rw (← s.replies) (
    bare-seen c (n + 1) past a (attach_sent v (bare a)) given
    ∙ own-attach-joins c n past (bare a) (attach_sent v (bare a)) given learnt (mapped-not-over (session_at past) mapped))

-- the peer's attach meets a link for which we asked, or offers one
pub peer-attach-joins : (c : Config) (n : ℕ) (past : List Entry) (channel : ℕ) (b : AttachBody) (payload : List ℕ) (given : Given)
    → AreLearnt (sent_events c past)
    → is_over (session_at past) ≡ false
    → seen c (n + 1) (peer_attach_entry channel b payload given ∷ past) ≡ join_link (is_asked_as (opposite b.role) b.name) (opposite b.role) b.name (attached_by_peer b) (seen c n past)
peer-attach-joins c n past channel b payload given learnt open' =
    let test = is_asked_as (opposite b.role) b.name in
    let e = peer_attach_entry channel b payload given in
    let links = link_pasts past in
    let events = sent_events c past in
    let met-same = met-told (with_told events) test (λ l. refl) (links_there links) in
    by-bool (is_some (find test (links_there links)))
    (λ (met : is_some (find test (links_there links)) ≡ true).
    let changed = there-changed test (put e) (attached_by_peer b) links (find test (links_there links)) refl (λ l there found. peer-attach-changes channel b payload given l.number l.role l.name l.past there
    (no-attach (peer_attach l.past) (unasked (has_name (opposite b.role) b.name (link_at l)) (is_some (link_at l).ours) (is_none (link_at l).theirs) (find-passes test (links_there links) (link_at l) found)))) in
    let told = ap (λ ls. map (with_told (No_event ∷ events)) ls) changed ∙ told-mute No_event events (change_first test (attached_by_peer b) (links_there links)) learnt tt
    ∙ change-told (with_told events) test (attached_by_peer b) (λ l. refl) (λ l. refl) (links_there links) in
    rw (open', met-same, met, told, length-changed (is_there_with test) (put e) links, quiet-sent events, quiet-held (received_events c past)) refl)
    (λ (new : is_some (find test (links_there links)) ≡ false).
    let l : LinkPast = record { number = length links; role = opposite b.role; name = b.name; past = e ∷ [] } in
    let untold : with_told events (attached_by_peer b (new_link (length links) (opposite b.role) b.name)) ≡ attached_by_peer b (new_link (length links) (opposite b.role) b.name) = rw (none-to-learn c past (length links) learnt (omega arith)) refl in
    let told = ap (λ ls. map (with_told (No_event ∷ events)) ls) (there-more links l refl) ∙ told-mute No_event events (links_there links ++ link_at l ∷ []) learnt tt
    ∙ map-append (with_told events) (links_there links) (link_at l ∷ [])
    ∙ ap (λ x. map (with_told events) (links_there links) ++ x ∷ []) (ap (with_told events) (peer-attach-makes channel b payload given (length links) (opposite b.role) b.name) ∙ untold) in
    rw (open', met-same, new, told, length-more links l, quiet-sent events, quiet-held (received_events c past)) refl)

pub attach-heard-law : (c : Config) (n : ℕ) (past : List Entry) (channel : ℕ) (b : AttachBody) (payload : List ℕ) (reply : Reply)
    → AreLearnt (sent_events c past)
    → attach_heard_answer (seen c n past) b ≡ Ok reply
    → seen c (n + 1) (record { step = Heard (record { channel = channel; body = Some (heard.Attach b); payload = payload }); reply = reply } ∷ past) ≡ next_attach_heard (seen c n past) b
attach-heard-law c n past channel b payload reply learnt h =
    let v = seen c n past in
    let a = answered_Ok (first_refusal (attach_violations v b)) (attach_heard_reply v b) reply h in
    let k = no_refusal (attach_violations v b) a.none in
    let takes = not-false (takes_frames v.session) k.0 in
    let given = met_or_made v.made (find (is_asked_as (opposite b.role) b.name) v.links) in
    rw (← a.replies) (peer-attach-joins c n past channel b payload given learnt (not-over v.session.begin_heard (is_over v.session) takes))
