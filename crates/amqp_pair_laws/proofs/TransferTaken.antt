-- A transfer is taken, where its tag is free.
use Rattle.std.proofs.Common.{unwrap_or, ◌||◌, ◌≡◌, ◌<◌, ℕ, ◌==◌, ◌&&◌, ◌++◌, Bool, true, false, not, cond, Option, Some, None, List, [], ◌∷◌, arith, refl, sym, ap, ◌∙◌, subst, find, is_some, is_none, length, option_map, IsOk}
use Rattle.std.proofs.lemmas.Bool.{eq-eqb}
use Rattle.amqp_performatives.specs.declared.bodies.Role.{Role}
use Rattle.amqp_performatives.specs.declared.bodies.Role.TheVariants.{Sender, Receiver}
use Rattle.amqp_performatives.specs.declared.bodies.TransferBody.{TransferBody}
use Rattle.amqp_performatives.specs.declared.performative.Performative.TheVariants as heard
use Rattle.amqp_frames.specs.declared.frame.Frame.{Frame}
use Rattle.amqp_events.specs.Joined.{Delivery, next_delivery as joined_to}
use Rattle.amqp_rules.specs.declared.config.Config.{Config}
use Rattle.amqp_rules.specs.declared.violation.Violation.{Violation}
use Rattle.amqp_rules.specs.View.{EndView, LinkView, SendingView, View, has_peer_handle, is_over, is_too_long, max_of, next_delivery, opposite, rcv_mode, snd_mode, snd_of, takes_frames}
use Rattle.amqp_rules.specs.Refusing.{first_refusal}
use Rattle.amqp_rules.specs.Deliveries.{transferred}
use Rattle.amqp_rules.specs.Start.{mode_forbids}
use Rattle.amqp_rules.specs.PeerTransfer.{breaks_mode, breaks_rcv_mode, breaks_size, breaks_snd_mode, delivery_violations, is_nameless, is_unexpected, name_violations, receives, tag_is_taken, transfer_answer, transfer_violations}
use Rattle.amqp_rules.specs.Answer.{heard_answer, is_end}
use Rattle.amqp_rules.proofs.Listed.{by-bool}
use Rattle.amqp_laws.specs.declared.entry.Entry.{Entry}
use Rattle.amqp_laws.specs.Said.{body_heard, own_in}
use Rattle.amqp_laws.specs.Transfers.{size_of}
use Rattle.amqp_laws.specs.At.{at}
use Rattle.amqp_laws.specs.Lawful.{next}
use Rattle.amqp_laws.proofs.AttachLaw.{not-over}
use Rattle.amqp_pair_laws.specs.Moves.{count, said_as}
use Rattle.amqp_pair_laws.specs.World.{World, hears, sends}
use Rattle.amqp_pair_laws.proofs.Sends.{step-sending}
use Rattle.amqp_pair_laws.proofs.Opens.{room-there, window-is-open}
use Rattle.amqp_pair_laws.proofs.Next.{Next, next-of, ready-by, taken-by}
use Rattle.amqp_pair_laws.proofs.Turns.{Fits}
use Rattle.amqp_pair_laws.proofs.Tallies.{tally}
use Rattle.amqp_pair_laws.proofs.Counts.{Agreed}
use Rattle.amqp_pair_laws.proofs.CountsPass.{attached-ends, counts-known}
use Rattle.amqp_pair_laws.proofs.Expected.{expected-known}
use Rattle.amqp_pair_laws.proofs.TransferMet.{Met, Says, credit-there, met-by}

-- # Tables in which no row holds

no-rows : (names rows : List (Bool × Violation)) → first_refusal names ≡ None → first_refusal rows ≡ None → first_refusal (names ++ rows) ≡ None
no-rows [] rows h k = k
no-rows (row ∷ names) rows h k =
    by-bool row.0
    (λ (t : row.0 ≡ true). let x = rw t at h in absurd (cc (x)))
    (λ (f : row.0 ≡ false). let x = rw f at h in rw f (no-rows names rows x k))

three : (a b c : Bool) (x y z : Violation) → a ≡ false → b ≡ false → c ≡ false → first_refusal ((a, x) ∷ (b, y) ∷ (c, z) ∷ []) ≡ None
three a b c x y z h k l = rw (h, k, l) refl

whole : (a b left : Bool) (x y : Violation) (rows : List (Bool × Violation)) → a ≡ false → b ≡ false → (left ≡ false → first_refusal rows ≡ None) → first_refusal ((a, x) ∷ (b, y) ∷ cond left [] rows) ≡ None
whole a b true x y rows h k l = rw (h, k) refl
whole a b false x y rows h k l = rw (h, k) (l refl)

-- # The rows of a transfer

-- what is known of it at the link y of the end that hears it; x is that of the end that sends it
record Finds (v : View) (t : TransferBody) (payload : List ℕ) (id : ℕ) (x y : LinkView) : Type 0 where
  says : Says id x t payload
  same : x.sending ≡ option_map size_of y.receiving
  fits : Fits x.ours y.receiving
  ours : y.ours ≡ x.theirs
  theirs : y.theirs ≡ x.ours
  receives' : y.role ≡ Receiver
  expected : (n : ℕ) → v.expected ≡ Some n → n ≡ id
  credit : y.receiving ≡ None → 0 < y.credit.credit
  free : y.receiving ≡ None → tag_is_taken v y t ≡ false

none-there : (o : Option Delivery) → o ≡ None → is_some (option_map size_of o) ≡ false
none-there o e = rw e refl

nameless-by : (t : TransferBody) (id : ℕ) → t.delivery_id ≡ Some id → is_some t.delivery_tag ≡ true → is_nameless t ≡ false
nameless-by t id named tagged = rw named (by t.delivery_tag tagged)
  where
    by : (o : Option (List ℕ)) → is_some o ≡ true → is_none o ≡ false
    by None h = absurd (cc (h))
    by (Some x) h = refl

expected-by : (o : Option ℕ) (t : TransferBody) (id : ℕ) → t.delivery_id ≡ Some id → ((n : ℕ) → o ≡ Some n → n ≡ id) → is_unexpected o t ≡ false
expected-by None t id named is = refl
expected-by (Some n) t id named is = let same = eq-eqb id n (sym (is n refl)) in rw (named, same) refl

names-hold : (v : View) (t : TransferBody) (payload : List ℕ) (id : ℕ) (x y : LinkView) → Finds v t payload id x y → (d : Option Delivery) → y.receiving ≡ d → first_refusal (name_violations v t y d) ≡ None
names-hold v t payload id x y k None is =
    let says = k.says in
    let named = says.names (ap (λ (s : Option SendingView). is_some s) k.same ∙ none-there y.receiving is) in
    three (is_nameless t) (is_unexpected v.expected t) (tag_is_taken v y t) _ _ _ (nameless-by t id named.0 named.1) (expected-by v.expected t id named.0 k.expected) (k.free is)
names-hold v t payload id x y k (Some d) is =
    let says = k.says in
    let none = says.later (ap (λ (s : Option SendingView). is_some s) k.same ∙ some-there y.receiving d is) in
    rw none refl
  where
    some-there : (o : Option Delivery) (d : Delivery) → o ≡ Some d → is_some (option_map size_of o) ≡ true
    some-there o d e = rw e refl

-- what is settled does not depend on the payload
settled-same : (mode : ℕ) (t : TransferBody) (payload : List ℕ) (o : Option Delivery) → (joined_to (transferred mode t payload) o).settled ≡ (joined_to (transferred mode t []) o).settled
settled-same mode t payload None = refl
settled-same mode t payload (Some d) = refl

snd-holds : (m : ℕ) (aborted more settled : Bool) → (aborted ≡ false → mode_forbids m settled ≡ false) → not aborted && (not more && (not settled && m == 1) || settled && m == 0) ≡ false
snd-holds m true more settled h = refl
snd-holds m false more settled h = by (m == 1) (m == 0) more settled (h refl)
  where
    by : (one zero more settled : Bool) → one && not settled || zero && settled ≡ false → not more && (not settled && one) || settled && zero ≡ false
    by true zero true true h = by-zero zero h
      where
        by-zero : (zero : Bool) → zero && true ≡ false → zero ≡ false
        by-zero true h = absurd (cc (h))
        by-zero false h = refl
    by true zero false true h = by-zero zero h
      where
        by-zero : (zero : Bool) → zero && true ≡ false → zero ≡ false
        by-zero true h = absurd (cc (h))
        by-zero false h = refl
    by true zero more false h = absurd (cc (h))
    by false true more true h = absurd (cc (h))
    by false true true false h = refl
    by false true false false h = refl
    by false false true true h = refl
    by false false false true h = refl
    by false false true false h = refl
    by false false false false h = refl

mode-holds : (v : View) (t : TransferBody) (payload : List ℕ) (id : ℕ) (x y : LinkView) → Finds v t payload id x y → breaks_mode y t ≡ false
mode-holds v t payload id x y k =
    let says = k.says in
    let role = k.receives' in
    let mode : snd_mode y ≡ snd_of x.ours = receiver-mode y role ∙ ap snd_of k.theirs in
    let d = joined_to (transferred (rcv_mode y) t []) y.receiving in
    let snd : breaks_snd_mode (snd_mode y) (transferred (rcv_mode y) t []) d ≡ false =
    snd-holds (snd_mode y) (unwrap_or t.aborted false) (unwrap_or t.more false) d.settled
    (λ (goes : unwrap_or t.aborted false ≡ false).
    ap (λ m. mode_forbids m d.settled) mode ∙ ap (λ s. mode_forbids (snd_of x.ours) s) (sym (settled-same (rcv_mode y) t payload y.receiving)) ∙ says.allows (rcv_mode y) y.receiving k.same k.fits goes) in
    both-false (breaks_snd_mode (snd_mode y) (transferred (rcv_mode y) t []) d) (breaks_rcv_mode (rcv_mode y) t) snd (rcv-holds (rcv_mode y) t says.no-mode)
  where
    receiver-mode : (y : LinkView) → y.role ≡ Receiver → snd_mode y ≡ snd_of y.theirs
    receiver-mode y r = rw r refl

    rcv-holds : (m : ℕ) (t : TransferBody) → t.rcv_settle_mode ≡ None → breaks_rcv_mode m t ≡ false
    rcv-holds m t none = rw none refl

    both-false : (a b : Bool) → a ≡ false → b ≡ false → a || b ≡ false
    both-false a b h k = rw (h, k) refl

size-holds : (v : View) (t : TransferBody) (payload : List ℕ) (id : ℕ) (x y : LinkView) → Finds v t payload id x y → breaks_size y (transferred (rcv_mode y) t payload) ≡ false
size-holds v t payload id x y k =
    let says = k.says in
    let n = length (joined_to (transferred (rcv_mode y) t payload) y.receiving).payload in
    by (unwrap_or t.aborted false) (is_too_long (max_of y.ours) n) (λ goes. ap (λ (o : Option EndView). is_too_long (max_of o) n) k.ours ∙ says.short (rcv_mode y) y.receiving k.same k.fits goes)
  where
    by : (aborted long : Bool) → (aborted ≡ false → long ≡ false) → not aborted && long ≡ false
    by true long h = refl
    by false long h = h refl

credit-holds : (o : Option Delivery) (c : ℕ) → (o ≡ None → 0 < c) → is_none o && c == 0 ≡ false
credit-holds (Some d) c some = refl
credit-holds None c some = by c (some refl)
  where
    by : (c : ℕ) → 0 < c → (c == 0) ≡ false
    by c h = grind (arith, h)

delivery-holds : (v : View) (t : TransferBody) (payload : List ℕ) (id : ℕ) (x y : LinkView) → Finds v t payload id x y → first_refusal (delivery_violations v t payload y) ≡ None
delivery-holds v t payload id x y k =
    no-rows (name_violations v t y y.receiving) _ (names-hold v t payload id x y k y.receiving refl)
    (three (breaks_mode y t) (is_none y.receiving && y.credit.credit == 0) (breaks_size y (transferred (rcv_mode y) t payload)) _ _ _ (mode-holds v t payload id x y k) (credit-holds y.receiving y.credit.credit k.credit) (size-holds v t payload id x y k))

transfer-holds : (v : View) (t : TransferBody) (payload : List ℕ) (id : ℕ) (x y : LinkView) → receives y ≡ true → 0 < v.windows.incoming → (y.left ≡ false → Finds v t payload id x y) → first_refusal (transfer_violations v t payload y) ≡ None
transfer-holds v t payload id x y received room k =
    whole (not (receives y)) (v.windows.incoming == 0) y.left _ _ (delivery_violations v t payload y) (ap not received) (by v.windows.incoming room) (λ stays. delivery-holds v t payload id x y (k stays))
  where
    by : (c : ℕ) → 0 < c → (c == 0) ≡ false
    by c h = grind (arith, h)

transfer-ok : (v : View) (t : TransferBody) (payload : List ℕ) (y : LinkView) → takes_frames v.session ≡ true → find (has_peer_handle t.handle) v.links ≡ Some y → first_refusal (transfer_violations v t payload y) ≡ None → IsOk (transfer_answer v t payload)
transfer-ok v t payload y takes found none = rw (takes, found, none) refl

-- # On its way

-- its tag is free on the link, where it begins a delivery
abbrev pub IsFreshTag : View → TransferBody → Type 0
IsFreshTag v t = (y : LinkView) → find (has_peer_handle t.handle) v.links ≡ Some y → y.left ≡ false → y.receiving ≡ None → tag_is_taken v y t ≡ false

finds-by : (ca cb : Config) (n : ℕ) (a b : List Entry) (f : Frame) (t : TransferBody) → World ca cb n a b → said_as sends (count hears b) a ≡ Some f → f.body ≡ Some (heard.Transfer t)
    → is_over (at cb b).session ≡ false → (x : Next ca cb b f) → (m : Met ca cb b f x t) → IsFreshTag (at cb b) t → m.link'.left ≡ false
    → Finds (at cb b) t f.payload (next_delivery (at ca x.before)) m.sent-on'.link' m.link'
finds-by ca cb n a b f t w waits body lives x m free stays =
    let s = m.sent-on' in
    let l = s.link' in
    let y = m.link' in
    let p = attached-ends l s.attached in
    let agreed : Agreed l.role l (tally (l.role, l.name) ca x.before) y (tally (opposite l.role, l.name) cb b) = counts-known ca cb x.moves x.before b x.tight lives l.role l.name l y s.found m.named p.0 p.1.1 stays in
    let agreed' : Agreed Sender l (tally (l.role, l.name) ca x.before) y (tally (opposite l.role, l.name) cb b) = subst (λ (r : Role). Agreed r l (tally (l.role, l.name) ca x.before) y (tally (opposite l.role, l.name) cb b)) s.role-is agreed in
    record {
      says = s.says;
      same = agreed'.1.1.0;
      fits = agreed'.1.1.1;
      ours = m.same-ours;
      theirs = m.same-theirs;
      receives' = m.receives';
      expected = λ n is. expected-known ca cb x.moves x.before b x.tight lives n is;
      credit = λ first. credit-there ca cb n a b f t y w waits body lives m.found stays first;
      free = λ first. free y m.found stays first;
    }

-- the next frame, where it is a transfer whose tag is free, is no violation
pub transfer-taken : (ca cb : Config) (n : ℕ) (a b : List Entry) (f : Frame) (t : TransferBody) → World ca cb n a b → said_as sends (count hears b) a ≡ Some f → f.body ≡ Some (heard.Transfer t)
    → (is_over (at cb b).session ≡ false → IsFreshTag (at cb b) t) → IsOk (heard_answer (at cb b) f)
transfer-taken ca cb n a b f t w waits body free =
    let x = next-of ca cb n a b f w waits in
    let r = room-there (at ca x.before) (next (at ca x.before) x.entry.step) (body_heard x.entry.step) (own_in x.entry.step) x.entry.reply f t (step-sending (at ca x.before) x.entry.step x.entry.reply x.answers) x.sent body in
    taken-by (at cb b) f (ready-by ca cb b f x r.0) (ap is_end body)
    (λ (takes : takes_frames (at cb b).session ≡ true).
    let lives = not-over (at cb b).session.begin_heard (is_over (at cb b).session) takes in
    let m = met-by ca cb b f x t body lives in
    let open' = window-is-open ca cb n a b f t w waits body lives in
    let rows = transfer-holds (at cb b) t f.payload (next_delivery (at ca x.before)) m.sent-on'.link' m.link' (receives-by m.link' m.ours m.receives') open' (finds-by ca cb n a b f t w waits body lives x m (free lives)) in
    rw body (transfer-ok (at cb b) t f.payload m.link' takes m.found rows))
  where
    receives-by : (l : LinkView) → is_some l.ours ≡ true → l.role ≡ Receiver → receives l ≡ true
    receives-by l o r = rw (o, r) refl
