-- The peer's header: eight octets, however they come.
use Rattle.std.proofs.Common.{◌≡◌, ◌≢◌, ◌≤◌, ◌<◌, ◌-◌, ℕ, List, [], ◌++◌, length, take, drop, Bool, true, false, None, Result, Ok, Err, refl, sym, ap, ◌∙◌, subst, arith, append_assoc, length-append}
use Rattle.std.proofs.lemmas.List.{take-append-drop, length-take-le, take_at}
use Rattle.amqp_rules.specs.declared.reply.Given.TheVariants.{Nothing}
use Rattle.amqp_conn.specs.declared.phase.Phase.{Phase}
use Rattle.amqp_conn.specs.declared.phase.Phase.TheVariants as phase
use Rattle.amqp_conn.specs.declared.fault.ConnFault.{ConnFault}
use Rattle.amqp_conn.specs.declared.fault.ConnFault.TheVariants as fault
use Rattle.amqp_conn.specs.declared.fed.Fed.{Fed}
use Rattle.amqp_conn.specs.Connection.{Core, Connection, connection, HasRead, unread_in, in_phase}
use Rattle.amqp_conn.specs.Octets.{header, last_words}
use Rattle.amqp_conn.specs.Treating.{greeted, ending, sending_last}
use Rattle.amqp_conn.specs.Feeding.{IsFed, Feeds, Takes, NeedsMemory}
use Rattle.amqp_conn.specs.Treats.{ReadsHeader}
use Rattle.amqp_conn.proofs.Calls.{takes-header}
use Rattle.amqp_conn.proofs.Passing.{passes-header}
use Rattle.amqp_conn.proofs.Whole.{left}

-- while a header is awaited its octets are what is unread
pub head-unread : (k : Core) (head kept : List ℕ) → k.phase ≡ phase.AwaitHeader → unread_in k.phase head kept ≡ head
head-unread k head kept p = ap (λ q. unread_in q head kept) p

pub head-short : (k : Core) (head kept : List ℕ) (max : ℕ) → k.phase ≡ phase.AwaitHeader → HasRead k.phase max (unread_in k.phase head kept) → length head < 8
head-short k head kept max p r = subst (λ (q : Phase). HasRead q max (unread_in q head kept)) p r

-- the octets that are missing make eight
pub eight : (head piece : List ℕ) (n : ℕ) → length head < 8 → n ≡ 8 - length head → n ≤ length piece → length (head ++ take n piece) ≡ 8
eight head piece n s e w =
    let k = length-append head (take n piece) in
    let l = length-take-le n piece w in
    omega (arith, s, e, k, l)

whole : (head piece : List ℕ) (n : ℕ) → head ++ piece ≡ (head ++ take n piece) ++ drop n piece
whole head piece n = ap (λ x. head ++ x) (sym (take-append-drop n piece)) ∙ sym (append_assoc head (take n piece) (drop n piece))

ends-here : (k : Core) → k.phase ≡ phase.AwaitHeader → ending fault.BadHeader k ≡ in_phase phase.Closed k
unfolding ending
ends-here k p = ap (λ q. in_phase phase.Closed (sending_last (last_words q fault.BadHeader) k)) p

closed-left : (l : Core) (head kept : List ℕ) → l.phase ≡ phase.Closed → left l head kept ≡ connection l []
closed-left l head kept p = ap (connection l) (ap (λ q. unread_in q head kept) p)

-- eight octets that are not the header
pub bad-header : (k l : Core) (head head' kept piece : List ℕ) (n : ℕ) → k.phase ≡ phase.AwaitHeader → length head < 8 → n ≡ 8 - length head → n ≤ length piece
    → head' ≡ head ++ take n piece → head' ≢ header → l ≡ in_phase phase.Closed k → Feeds (left k head kept) piece (Err fault.BadHeader) (left l head' kept)
bad-header k l head head' kept piece n p s e w h other is =
    let unread = head-unread k head kept p in
    let split : (left k head kept).unread ++ piece ≡ (head ++ take n piece) ++ drop n piece = ap (λ x. x ++ piece) unread ∙ whole head piece n in
    let core : l ≡ ending fault.BadHeader k = is ∙ sym (ends-here k p) in (
      (p, head ++ take n piece, drop n piece, eight head piece n s e w, λ q. other (h ∙ q), split),
      closed-left l head' kept (ap (λ (x : Core). x.phase) is) ∙ ap (λ x. connection x []) core,
    )

-- the header is whole
pub good-header : (k l : Core) (head head' kept piece : List ℕ) (n : ℕ) (fed : Fed) → k.phase ≡ phase.AwaitHeader → n ≤ length piece → head' ≡ head ++ take n piece → head' ≡ header
    → kept ≡ [] → l ≡ greeted k → fed ≡ record { used = n; stepped = false; given = Nothing; violation = None } → Takes (left k head kept) piece fed fed.violation (left l head' kept)
good-header k l head head' kept piece n fed p w h is none greets gives =
    let c = left k head kept in
    let unread = head-unread k head kept p in
    let octets : c.unread ++ take n piece ≡ header = ap (λ x. x ++ take n piece) unread ∙ sym h ∙ is in
    let there : left l head' kept ≡ connection (greeted k) [] = ap (λ x. left x head' kept) greets ∙ ap (connection (greeted k)) none in
    let made : IsFed c (take n piece) (left l head' kept) = subst (λ (d : Connection). IsFed c (take n piece) d) (sym there) (takes-header c (take n piece) p octets) in
    let journal : (left l head' kept).core.log.journal ≡ k.log.journal = ap (λ (x : Core). x.log.journal) greets in
    let P : Fed → Type 0 = λ x. Takes c piece x x.violation (left l head' kept) in
    subst P (sym gives) (w, made, (journal, refl), passes-header c (take n piece) p octets)

-- memory was refused where the header is whole
pub stood-header : (k l : Core) (head head' kept piece : List ℕ) (n : ℕ) → k.phase ≡ phase.AwaitHeader → length head < 8 → n ≡ 8 - length head → n ≤ length piece
    → head ++ take n piece ≡ header → head' ≡ head → l ≡ k → Feeds (left k head kept) piece (Err fault.NoMemory) (left l head' kept)
stood-header k l head head' kept piece n p s e w is back same =
    let unread = head-unread k head kept p in
    let split : (left k head kept).unread ++ piece ≡ (head ++ take n piece) ++ drop n piece = ap (λ x. x ++ piece) unread ∙ whole head piece n in (
      λ q. open' (sym p ∙ q),
      subst (λ (r : Phase). NeedsMemory r (left k head kept) piece) (sym p) (drop n piece, split ∙ ap (λ x. x ++ drop n piece) is),
      λ i. left (same i) (back i) kept,
    )
  where
    is_awaiting : Phase → Bool
    is_awaiting phase.AwaitHeader = true
    is_awaiting phase.AwaitOpen = false
    is_awaiting phase.Running = false
    is_awaiting phase.Closing = false
    is_awaiting phase.Closed = false

    open' : phase.AwaitHeader ≡ phase.Closed → ⊥
    open' q = let b : true ≡ false = ap is_awaiting q in absurd cc

-- what was read of the eight octets
pub reads-header : (k l : Core) (head octets head' kept piece : List ℕ) (n : ℕ) (result : Result Fed ConnFault) → k.phase ≡ phase.AwaitHeader → length head < 8 → n ≡ 8 - length head
    → n ≤ length piece → kept ≡ [] → octets ≡ head ++ take n piece → ReadsHeader k octets (length head) n result l head' → Feeds (left k head kept) piece result (left l head' kept)
reads-header k l head octets head' kept piece n (Ok fed) p s e w none h r = good-header k l head head' kept piece n fed p w (r.2 ∙ h) (r.2 ∙ r.0) none r.1 r.3
reads-header k l head octets head' kept piece n (Err fault.BadHeader) p s e w none h r = bad-header k l head head' kept piece n p s e w (r.2 ∙ h) (λ q. r.0 (sym r.2 ∙ q)) r.1
reads-header k l head octets head' kept piece n (Err fault.NoMemory) p s e w none h r =
    stood-header k l head head' kept piece n p s e w (sym h ∙ r.0) (r.2 ∙ ap (take (length head)) h ∙ take_at head (take n piece) (length head) refl) r.1
reads-header k l head octets head' kept piece n (Err (fault.Framing z)) p s e w none h r = absurd r
reads-header k l head octets head' kept piece n (Err fault.OutOfPlace) p s e w none h r = absurd r
reads-header k l head octets head' kept piece n (Err fault.BadChannel) p s e w none h r = absurd r
reads-header k l head octets head' kept piece n (Err fault.JournalFull) p s e w none h r = absurd r
reads-header k l head octets head' kept piece n (Err fault.Closed) p s e w none h r = absurd r
