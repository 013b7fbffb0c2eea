-- What an answer tells of the view that gave it.
use Rattle.std.proofs.Common.{◌≡◌, ℕ, Bool, true, false, not, cond, Option, Some, None, Result, Ok, List, [], ◌∷◌, refl, find}
use Rattle.std.specs.Option.{option_or}
use Rattle.amqp_performatives.specs.declared.bodies.Role.{Role}
use Rattle.amqp_performatives.specs.declared.performative.Performative.{Performative}
use Rattle.amqp_rules.specs.declared.reply.Reply.{Reply}
use Rattle.amqp_rules.specs.declared.reply.Given.{Given}
use Rattle.amqp_rules.specs.declared.refusal.Refusal.{Refusal}
use Rattle.amqp_rules.specs.declared.refusal.Refusal.TheVariants.{NoLink, NotMapped}
use Rattle.amqp_rules.specs.View.{View, LinkView, has_number, is_mapped}
use Rattle.amqp_rules.specs.Refusing.{first_refusal, answered, if_there, unless}
use Rattle.amqp_rules.specs.Sending.{frame_refused, sends, sends_ending, reply_of, reply_ending}
use Rattle.amqp_rules.specs.OnLink.{on_link}
use Rattle.amqp_rules.specs.Resume.{unless_refused}

pub not-false : (b : Bool) → not b ≡ false → b ≡ true
not-false true h = refl
not-false false h = absurd (cc)

pub record IsAnswered {A E : Type 0} (o : Option E) (r reply : A) : Type 0 where
  pub none : o ≡ None
  pub replies : r ≡ reply

pub answered_Ok : {A E : Type 0} → (o : Option E) (r reply : A) → answered o r ≡ Ok reply → IsAnswered o r reply
answered_Ok None r reply h = record { none = refl; replies = cc }
answered_Ok (Some e) r reply h = absurd (cc)

-- the condition of a refusal does not hold, and the rest is answered
pub unless_Ok : {A E : Type 0} → (b : Bool) (e : E) (answer : Result A E) (reply : A) → unless b e answer ≡ Ok reply → (b ≡ false) × (answer ≡ Ok reply)
unless_Ok true e answer reply h = absurd (cc)
unless_Ok false e answer reply h = (refl, h)

-- nothing is refused, and the rest is answered
pub unless_refused_Ok : (o : Option Refusal) (said : Result Reply Refusal) (reply : Reply) → unless_refused o said ≡ Ok reply → (o ≡ None) × (said ≡ Ok reply)
unless_refused_Ok None said reply h = (refl, h)
unless_refused_Ok (Some e) said reply h = absurd (cc)

pub record IsThere {A B E : Type 0} (o : Option A) (say : A → Result B E) (reply : B) : Type 0 where
  pub on : A
  pub found : o ≡ Some on
  pub said : say on ≡ Ok reply

pub there_Ok : {A B E : Type 0} → (o : Option A) (e : E) (say : A → Result B E) (reply : B) → if_there o e say ≡ Ok reply → IsThere o say reply
there_Ok None e say reply h = absurd (cc)
there_Ok (Some l) e say reply h = record { on = l; found = refl; said = h }

-- no condition of the table holds
abbrev pub NoneHolds : {E : Type 0} → List (Bool × E) → Type 0
NoneHolds [] = Unit {0}
NoneHolds (row ∷ rows) = (row.0 ≡ false) × NoneHolds rows

no_row : {E : Type 0} (b : Bool) (e : E) (rows : List (Bool × E)) → (first_refusal rows ≡ None → NoneHolds rows) → cond b (Some e) (first_refusal rows) ≡ None → (b ≡ false) × NoneHolds rows
no_row true e rows more h = absurd (cc)
no_row false e rows more h = (refl, more h)

pub no_refusal : {E : Type 0} (rows : List (Bool × E)) → first_refusal rows ≡ None → NoneHolds rows
no_refusal [] h = tt
no_refusal (row ∷ rows) h = no_row row.0 row.1 rows (no_refusal rows) h

neither : {E : Type 0} (o p : Option E) → option_or o p ≡ None → (o ≡ None) × (p ≡ None)
neither None p h = (refl, h)
neither (Some e) p h = absurd (cc)

-- a frame was sent: no refusal of the table was due, and the frame can be written
pub record IsSent (max : ℕ) (rows : List (Bool × Refusal)) (body : Option Performative) (payload : List ℕ) (given : Given) (reply : Reply) : Type 0 where
  pub none_holds : NoneHolds rows
  pub written : frame_refused max body payload ≡ None
  pub replies : reply_of body payload given ≡ reply

pub sends-ok : (max : ℕ) (rows : List (Bool × Refusal)) (body : Option Performative) (payload : List ℕ) (given : Given) (reply : Reply)
    → sends max rows body payload given ≡ Ok reply → IsSent max rows body payload given reply
sends-ok max rows body payload given reply h =
    let a = answered_Ok (option_or (first_refusal rows) (frame_refused max body payload)) (reply_of body payload given) reply h in
    let n = neither (first_refusal rows) (frame_refused max body payload) a.none in
    record { none_holds = no_refusal rows n.0; written = n.1; replies = a.replies }

-- the same, of a frame by which deliveries are ended
pub record IsSentEnding (max : ℕ) (rows : List (Bool × Refusal)) (body : Option Performative) (ended : List (Role × ℕ)) (given : Given) (reply : Reply) : Type 0 where
  pub none_holds : NoneHolds rows
  pub written : frame_refused max body [] ≡ None
  pub replies : reply_ending body [] ended given ≡ reply

pub sends-ending-ok : (max : ℕ) (rows : List (Bool × Refusal)) (body : Option Performative) (ended : List (Role × ℕ)) (given : Given) (reply : Reply)
    → sends_ending max rows body ended given ≡ Ok reply → IsSentEnding max rows body ended given reply
sends-ending-ok max rows body ended given reply h =
    let a = answered_Ok (option_or (first_refusal rows) (frame_refused max body [])) (reply_ending body [] ended given) reply h in
    let n = neither (first_refusal rows) (frame_refused max body []) a.none in
    record { none_holds = no_refusal rows n.0; written = n.1; replies = a.replies }

-- an operation of a link was accepted: the session is mapped, the link is there, and the answer speaks of it
pub record IsOn (v : View) (link : ℕ) (say : LinkView → Result Reply Refusal) (reply : Reply) : Type 0 where
  pub mapped : is_mapped v.session ≡ true
  pub on : LinkView
  pub found : find (has_number link) v.links ≡ Some on
  pub said : say on ≡ Ok reply

pub on-link-ok : (v : View) (link : ℕ) (say : LinkView → Result Reply Refusal) (reply : Reply) → on_link v link say ≡ Ok reply → IsOn v link say reply
on-link-ok v link say reply h =
    let u = unless_Ok (not (is_mapped v.session)) NotMapped (if_there (find (has_number link) v.links) NoLink say) reply h in
    let t = there_Ok (find (has_number link) v.links) NoLink say reply u.1 in
    record { mapped = not-false (is_mapped v.session) u.0; on = t.on; found = t.found; said = t.said }
