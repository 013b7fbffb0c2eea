-- The links that are there, once an entry is put with the link that it concerns.
use Rattle.std.proofs.Common.{◌≡◌, Bool, true, false, cond, Option, Some, List, [], ◌∷◌, ◌++◌, refl, sym, ap, find, ◌∙◌}
use Rattle.std.proofs.lemmas.List.Elements.{filter_map-append}
use Rattle.amqp_rules.specs.View.{LinkView, change_first, remove_first}
use Rattle.amqp_rules.specs.Sound.{Every}
use Rattle.amqp_rules.proofs.Listed.{by-bool}
use Rattle.amqp_laws.specs.declared.entry.Entry.{Entry}
use Rattle.amqp_laws.specs.Said.{detaches}
use Rattle.amqp_laws.specs.Past.{some_entry}
use Rattle.amqp_laws.specs.Links.{LinkPast, put_not_left, link_at, link_there, links_there, is_gone, is_there_with, put}

-- what is done to a link's past changes the link, and leaves it there
pub record Changes (act : LinkPast → LinkPast) (change : LinkView → LinkView) (l : LinkPast) : Type 0 where
  pub stays : is_gone (act l) ≡ false
  pub changed : link_at (act l) ≡ change (link_at l)

link-of-either : (b : Bool) (k l : LinkPast) → link_at (cond b k l) ≡ cond b (link_at k) (link_at l)
link-of-either true k l = refl
link-of-either false k l = refl

gone-either : (b : Bool) (k l : LinkPast) → is_gone k ≡ false → is_gone l ≡ false → is_gone (cond b k l) ≡ false
gone-either true k l h i = h
gone-either false k l h i = i

-- a link that we have left stays as it is
pub unless-left : (e : Entry) (change : LinkView → LinkView) (l : LinkPast) → is_gone l ≡ false → is_gone (put e l) ≡ false → link_at (put e l) ≡ change (link_at l)
    → Changes (put_not_left e) (λ l. cond l.left l (change l)) l
unless-left e change l there stays changed =
    record {
      stays = gone-either (some_entry detaches l.past) l (put e l) there stays;
      changed = link-of-either (some_entry detaches l.past) l (put e l) ∙ ap (λ x. cond (some_entry detaches l.past) (link_at l) x) changed;
    }

-- the same, where we have not left it
pub unless-left-so : (e : Entry) (change : LinkView → LinkView) (l : LinkPast) → is_gone l ≡ false → is_gone (put e l) ≡ false
    → (some_entry detaches l.past ≡ false → link_at (put e l) ≡ change (link_at l))
    → Changes (put_not_left e) (λ l. cond l.left l (change l)) l
unless-left-so e change l there stays changed =
    record { stays = gone-either (some_entry detaches l.past) l (put e l) there stays; changed = by (some_entry detaches l.past) refl }
  where
    by : (left : Bool) → some_entry detaches l.past ≡ left → link_at (cond left l (put e l)) ≡ cond left (link_at l) (change (link_at l))
    by true h = refl
    by false h = changed h

-- the first link that passes the test is changed
pub there-changed-of : (P : LinkPast → Type 0) (test : LinkView → Bool) (act : LinkPast → LinkPast) (change : LinkView → LinkView) (links : List LinkPast) (found : Option LinkView)
    → Every P links
    → find test (links_there links) ≡ found
    → ((l : LinkPast) → P l → is_gone l ≡ false → found ≡ Some (link_at l) → Changes act change l)
    → links_there (change_first (is_there_with test) act links) ≡ change_first test change (links_there links)
there-changed-of P test act change [] found all f h = refl
there-changed-of P test act change (l ∷ links) found all f h =
    by-bool (is_gone l)
    (λ (gone : is_gone l ≡ true). let f' = rw gone at f in rw (gone, gone) (there-changed-of P test act change links found all.1 f' h))
    (λ (there : is_gone l ≡ false). let g = rw there at f in
    by-bool (test (link_at l))
    (λ (passes : test (link_at l) ≡ true). let f' = rw passes at g in
    let k = h l all.0 there (sym f') in
    rw (there, passes, k.stays, k.changed) refl)
    (λ (fails : test (link_at l) ≡ false). let f' = rw fails at g in
    rw (there, fails, there) (ap (λ xs. link_at l ∷ xs) (there-changed-of P test act change links found all.1 f' h))))

trivially : (links : List LinkPast) → Every (λ l. Unit {0}) links
trivially [] = tt
trivially (l ∷ links) = (tt, trivially links)

pub there-changed : (test : LinkView → Bool) (act : LinkPast → LinkPast) (change : LinkView → LinkView) (links : List LinkPast) (found : Option LinkView)
    → find test (links_there links) ≡ found
    → ((l : LinkPast) → is_gone l ≡ false → found ≡ Some (link_at l) → Changes act change l)
    → links_there (change_first (is_there_with test) act links) ≡ change_first test change (links_there links)
there-changed test act change links found f h = there-changed-of (λ l. Unit {0}) test act change links found (trivially links) f (λ l u. h l)

-- the first link that passes the test is gone
pub there-removed : (test : LinkView → Bool) (e : Entry) (links : List LinkPast)
    → ((l : LinkPast) → is_gone (put e l) ≡ true)
    → links_there (change_first (is_there_with test) (put e) links) ≡ remove_first test (links_there links)
there-removed test e [] h = refl
there-removed test e (l ∷ links) h =
    by-bool (is_gone l)
    (λ (gone : is_gone l ≡ true). rw (gone, gone) (there-removed test e links h))
    (λ (there : is_gone l ≡ false).
    by-bool (test (link_at l))
    (λ (passes : test (link_at l) ≡ true). rw (there, passes, h l) refl)
    (λ (fails : test (link_at l) ≡ false). rw (there, fails, there) (ap (λ xs. link_at l ∷ xs) (there-removed test e links h))))

-- one link more
pub there-more : (links : List LinkPast) (l : LinkPast) → is_gone l ≡ false → links_there (links ++ l ∷ []) ≡ links_there links ++ link_at l ∷ []
there-more links l h = filter_map-append link_there links (l ∷ []) ∙ ap (λ xs. links_there links ++ xs) (rw h refl)

-- the same, of a session whose links are all gone once it is over
pub at-changed-of : (P : LinkPast → Type 0) (over : Bool) (test : LinkView → Bool) (act : LinkPast → LinkPast) (change : LinkView → LinkView) (links : List LinkPast) (found : Option LinkView)
    → Every P links
    → find test (cond over [] (links_there links)) ≡ found
    → ((l : LinkPast) → P l → is_gone l ≡ false → found ≡ Some (link_at l) → Changes act change l)
    → cond over [] (links_there (change_first (is_there_with test) act links)) ≡ change_first test change (cond over [] (links_there links))
at-changed-of P true test act change links found all f h = refl
at-changed-of P false test act change links found all f h = there-changed-of P test act change links found all f h

pub at-changed : (over : Bool) (test : LinkView → Bool) (act : LinkPast → LinkPast) (change : LinkView → LinkView) (links : List LinkPast) (found : Option LinkView)
    → find test (cond over [] (links_there links)) ≡ found
    → ((l : LinkPast) → is_gone l ≡ false → found ≡ Some (link_at l) → Changes act change l)
    → cond over [] (links_there (change_first (is_there_with test) act links)) ≡ change_first test change (cond over [] (links_there links))
at-changed true test act change links found f h = refl
at-changed false test act change links found f h = there-changed test act change links found f h

pub at-removed : (over : Bool) (test : LinkView → Bool) (e : Entry) (links : List LinkPast)
    → ((l : LinkPast) → is_gone (put e l) ≡ true)
    → cond over [] (links_there (change_first (is_there_with test) (put e) links)) ≡ remove_first test (cond over [] (links_there links))
at-removed true test e links h = refl
at-removed false test e links h = there-removed test e links h
