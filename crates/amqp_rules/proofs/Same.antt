-- Operations and replies that `==` finds equal are one.
use Rattle.std.proofs.Common.{◌≡◌, ℕ, Bool, true, false, ◌&&◌, nat_eq, Option, Some, None, List, [], ◌∷◌, refl, sym, ap, ◌∙◌}
use Rattle.std.specs.Option.{option_eq}
use Rattle.std.specs.Bool.{beq}
use Rattle.std.specs.Cmp.{unsigned_Decides, booleans_Decides, first_so, second_so}
use Rattle.std.specs.Cmp.Lexicographic.{pointwise, bytes_decides}
use Rattle.amqp_types.specs.contracts.value.ValuePartialEq.TheImpl.{ghosts as values}
use Rattle.amqp_types.proofs.Equal.{equal_same}
use Rattle.amqp_performatives.specs.declared.bodies.Role.{Role}
use Rattle.amqp_performatives.specs.declared.bodies.Role.TheVariants.{Sender, Receiver}
use Rattle.amqp_performatives.specs.contracts.bodies.RolePartialEq.TheImpl.{ghosts as roles}
use Rattle.amqp_performatives.specs.contracts.error.AmqpErrorPartialEq.TheImpl.{ghosts as errors}
use Rattle.amqp_performatives.specs.contracts.state.DeliveryStatePartialEq.TheImpl.{ghosts as states}
use Rattle.amqp_performatives.specs.contracts.performative.PerformativePartialEq.TheImpl.{ghosts as performatives}
use Rattle.amqp_performatives.proofs.Same.{errors_alike, states_alike, performatives_alike}
use Rattle.amqp_frames.specs.declared.frame.Frame.{Frame}
use Rattle.amqp_frames.specs.contracts.frame.FramePartialEq.TheImpl.{ghosts as frames}
use Rattle.amqp_waiting.specs.contracts.item.SuspendedItemPartialEq.TheImpl.{ghosts as waitings}
use Rattle.amqp_waiting.specs.declared.item.Verdict.{Verdict}
use Rattle.amqp_waiting.specs.declared.item.Verdict.TheVariants.{Unclear, Absent, Partial, Held, Outcome}
use Rattle.amqp_waiting.specs.contracts.item.VerdictPartialEq.TheImpl.{ghosts as verdicts}
use Rattle.amqp_rules.specs.declared.op.Rejoin.{Rejoin as Rejoined}
use Rattle.amqp_rules.specs.contracts.op.RejoinPartialEq.TheImpl.{ghosts as rejoins}
use Rattle.amqp_rules.specs.declared.op.Op.{Op}
use Rattle.amqp_rules.specs.declared.op.Op.TheVariants.{Begin, Attach, Start, Carry, Abort, Dispose, Learn, Grant, Offer, Drained, Refresh, Take, Detach, Suspend, Rejoin, Resume, End, Beat}
use Rattle.amqp_rules.specs.contracts.op.OpPartialEq.TheImpl.{ghosts as ops}
use Rattle.amqp_rules.specs.contracts.op.OpEq.TheImpl.Laws as ops_whole
use Rattle.amqp_rules.specs.declared.reply.Sent.{Sent}
use Rattle.amqp_rules.specs.declared.reply.Taken.{Taken}
use Rattle.amqp_rules.specs.declared.reply.Learned.{Learned}
use Rattle.amqp_rules.specs.declared.reply.Suspended.{Suspended}
use Rattle.amqp_rules.specs.declared.reply.Reply.{Reply}
use Rattle.amqp_rules.specs.declared.reply.Given.{Given}
use Rattle.amqp_rules.specs.declared.reply.Given.TheVariants as given
use Rattle.amqp_rules.specs.contracts.reply.SentPartialEq.TheImpl.{ghosts as sents}
use Rattle.amqp_rules.specs.contracts.reply.TakenPartialEq.TheImpl.{ghosts as takens}
use Rattle.amqp_rules.specs.contracts.reply.LearnedPartialEq.TheImpl.{ghosts as learneds}
use Rattle.amqp_rules.specs.contracts.reply.SuspendedPartialEq.TheImpl.{ghosts as suspendeds}
use Rattle.amqp_rules.specs.contracts.reply.ResumedPartialEq.TheImpl.{ghosts as resumeds}
use Rattle.amqp_rules.specs.contracts.reply.GivenPartialEq.TheImpl.{ghosts as givens}
use Rattle.amqp_rules.specs.contracts.reply.ReplyPartialEq.TheImpl.{ghosts as replies}
use Rattle.amqp_rules.specs.contracts.reply.ReplyEq.TheImpl.Laws as replies_whole

-- the test holds of equal things alone
record Tells {A : Type 0} (test : A → A → Bool) : Type 0 where
  is : (x y : A) → test x y ≡ true → x ≡ y

no : {G : Type 0} → false ≡ true → G
no h = absurd cc

abbrev each : {A B : Type 0} → (A → A → Bool) → (B → B → Bool) → A × B → A × B → Bool
each E F p q = E p.0 q.0 && F p.1 q.1

infixr 20 ◌⊗◌
◌⊗◌ : {A B : Type 0} {E : A → A → Bool} {F : B → B → Bool} → Tells E → Tells F → Tells (each E F)
◌⊗◌ {A} {B} {E} {F} e f = record { is = λ p q h. λ i. (e.is p.0 q.0 (first_so (E p.0 q.0) (F p.1 q.1) h) i, f.is p.1 q.1 (second_so (E p.0 q.0) (F p.1 q.1) h) i) }

some_same : {A : Type 0} (E : A → A → Bool) → Tells E → (o p : Option A) → option_eq E o p ≡ true → o ≡ p
some_same E e None None h = refl
some_same E e (Some x) (Some y) h = ap Some (e.is x y h)
some_same E e _ _ h = no h

maybe : {A : Type 0} {E : A → A → Bool} → Tells E → Tells (option_eq E)
maybe {A} {E} e = record { is = some_same E e }

items_same : {A : Type 0} (E : A → A → Bool) → Tells E → (xs ys : List A) → pointwise E xs ys ≡ true → xs ≡ ys
items_same E e [] [] h = refl
items_same E e (x ∷ xs) (y ∷ ys) h = λ i. e.is x y (first_so (E x y) (pointwise E xs ys) h) i ∷ items_same E e xs ys (second_so (E x y) (pointwise E xs ys) h) i
items_same E e _ _ h = no h

items : {A : Type 0} {E : A → A → Bool} → Tells E → Tells (pointwise E)
items {A} {E} e = record { is = items_same E e }

octets : Tells (pointwise nat_eq)
octets = record { is = λ x y h. (bytes_decides x y).0 h }

number : Tells nat_eq
number = record { is = λ x y h. (unsigned_Decides x y).0 h }

boolean : Tells beq
boolean = record { is = λ x y h. (booleans_Decides x y).0 h }

any : Tells values.eq
any = record { is = equal_same }

role_same : (x y : Role) → roles.eq x y ≡ true → x ≡ y
role_same Sender Sender h = refl
role_same Receiver Receiver h = refl
role_same _ _ h = no h

role : Tells roles.eq
role = record { is = role_same }

error : Tells errors.eq
error = record { is = λ x y. (errors_alike x y).0 }

state : Tells states.eq
state = record { is = λ x y. (states_alike x y).0 }

waiting : Tells waitings.eq
waiting = record { is = λ x y h. let t = (octets ⊗ maybe state).is (x.tag, x.state) (y.tag, y.state) h in λ i. record { tag = (t i).0; state = (t i).1 } }

rejoin : Tells rejoins.eq
rejoin =
    record {
      is = λ x y h. let t = (octets ⊗ role ⊗ number ⊗ number ⊗ maybe any ⊗ maybe any ⊗ number ⊗ number ⊗ items waiting).is (x.name, (x.role, (x.snd, (x.rcv, (x.source, (x.target, (x.count, (x.max_message, x.items)))))))) (y.name, (y.role, (y.snd, (y.rcv, (y.source, (y.target, (y.count, (y.max_message, y.items)))))))) h in
          λ i. record { name = (t i).0; role = (t i).1.0; snd = (t i).1.1.0; rcv = (t i).1.1.1.0; source = (t i).1.1.1.1.0; target = (t i).1.1.1.1.1.0; count = (t i).1.1.1.1.1.1.0; max_message = (t i).1.1.1.1.1.1.1.0; items = (t i).1.1.1.1.1.1.1.1 };
    }

same : (a b : Op) → ops.eq a b ≡ true → a ≡ b
same Begin Begin h = refl
same (Attach a b c d e f g k) (Attach l m n o p q r s) h =
    let t = (octets ⊗ role ⊗ number ⊗ number ⊗ maybe any ⊗ maybe any ⊗ number ⊗ number).is (a, (b, (c, (d, (e, (f, (g, k))))))) (l, (m, (n, (o, (p, (q, (r, s))))))) h in
    λ i. Attach (t i).0 (t i).1.0 (t i).1.1.0 (t i).1.1.1.0 (t i).1.1.1.1.0 (t i).1.1.1.1.1.0 (t i).1.1.1.1.1.1.0 (t i).1.1.1.1.1.1.1
same (Start a b c d e f) (Start l m n o p q) h =
    let t = (number ⊗ octets ⊗ number ⊗ boolean ⊗ octets ⊗ boolean).is (a, (b, (c, (d, (e, f))))) (l, (m, (n, (o, (p, q))))) h in
    λ i. Start (t i).0 (t i).1.0 (t i).1.1.0 (t i).1.1.1.0 (t i).1.1.1.1.0 (t i).1.1.1.1.1
same (Carry a b c) (Carry l m n) h = let t = (number ⊗ octets ⊗ boolean).is (a, (b, c)) (l, (m, n)) h in λ i. Carry (t i).0 (t i).1.0 (t i).1.1
same (Abort a) (Abort l) h = ap Abort (number.is a l h)
same (Dispose a b c d e) (Dispose l m n o p) h =
    let t = (role ⊗ number ⊗ number ⊗ boolean ⊗ maybe state).is (a, (b, (c, (d, e)))) (l, (m, (n, (o, p)))) h in
    λ i. Dispose (t i).0 (t i).1.0 (t i).1.1.0 (t i).1.1.1.0 (t i).1.1.1.1
same (Learn a) (Learn l) h = ap Learn (number.is a l h)
same (Grant a b c d) (Grant l m n o) h =
    let t = (number ⊗ number ⊗ boolean ⊗ boolean).is (a, (b, (c, d))) (l, (m, (n, o))) h in
    λ i. Grant (t i).0 (t i).1.0 (t i).1.1.0 (t i).1.1.1
same (Offer a b) (Offer l m) h = let t = (number ⊗ number).is (a, b) (l, m) h in λ i. Offer (t i).0 (t i).1
same (Drained a) (Drained l) h = ap Drained (number.is a l h)
same (Refresh a) (Refresh l) h = ap Refresh (boolean.is a l h)
same (Take a) (Take l) h = ap Take (number.is a l h)
same (Detach a b) (Detach l m) h = let t = (number ⊗ maybe error).is (a, b) (l, m) h in λ i. Detach (t i).0 (t i).1
same (Suspend a) (Suspend l) h = ap Suspend (number.is a l h)
same (Rejoin a) (Rejoin l) h = ap Rejoin (rejoin.is a l h)
same (Resume a b c) (Resume l m n) h = let t = (number ⊗ octets ⊗ boolean).is (a, (b, c)) (l, (m, n)) h in λ i. Resume (t i).0 (t i).1.0 (t i).1.1
same (End a) (End l) h = ap End ((maybe error).is a l h)
same Beat Beat h = refl
same _ _ h = no h

pub ops_alike : (a b : Op) → (ops.eq a b ≡ true → a ≡ b) × (a ≡ b → ops.eq a b ≡ true)
ops_alike a b = (same a b, λ e. sym (ap (ops.eq a) e) ∙ ops_whole.laws-law.refl a)

-- # Replies

frame : Tells frames.eq
frame = record { is = λ x y h. let t = (number ⊗ maybe (record { is = λ p q. (performatives_alike p q).0 }) ⊗ octets).is (x.channel, (x.body, x.payload)) (y.channel, (y.body, y.payload)) h in λ i. record { channel = (t i).0; body = (t i).1.0; payload = (t i).1.1 } }

sent : Tells sents.eq
sent = record { is = λ x y h. let t = (frame ⊗ octets).is (x.frame, x.bytes) (y.frame, y.bytes) h in λ i. record { frame = (t i).0; bytes = (t i).1 } }

taken : Tells takens.eq
taken =
    record {
      is = λ x y h. let t = (number ⊗ number ⊗ octets ⊗ number ⊗ octets ⊗ boolean ⊗ boolean).is (x.id, (x.link, (x.tag, (x.format, (x.payload, (x.settled, x.second)))))) (y.id, (y.link, (y.tag, (y.format, (y.payload, (y.settled, y.second)))))) h in
          λ i. record { id = (t i).0; link = (t i).1.0; tag = (t i).1.1.0; format = (t i).1.1.1.0; payload = (t i).1.1.1.1.0; settled = (t i).1.1.1.1.1.0; second = (t i).1.1.1.1.1.1 };
    }

learned : Tells learneds.eq
learned =
    record {
      is = λ x y h. let t = (number ⊗ number ⊗ octets ⊗ maybe state ⊗ boolean).is (x.id, (x.link, (x.tag, (x.state, x.settled)))) (y.id, (y.link, (y.tag, (y.state, y.settled)))) h in
          λ i. record { id = (t i).0; link = (t i).1.0; tag = (t i).1.1.0; state = (t i).1.1.1.0; settled = (t i).1.1.1.1 };
    }

aside : Tells suspendeds.eq
aside =
    record {
      is = λ x y h. let t = (octets ⊗ role ⊗ items waiting).is (x.name, (x.role, x.items)) (y.name, (y.role, y.items)) h in
          λ i. record { name = (t i).0; role = (t i).1.0; items = (t i).1.1 };
    }

verdict_same : (x y : Verdict) → verdicts.eq x y ≡ true → x ≡ y
verdict_same Unclear Unclear h = refl
verdict_same Absent Absent h = refl
verdict_same Partial Partial h = refl
verdict_same Held Held h = refl
verdict_same Outcome Outcome h = refl
verdict_same _ _ h = no h

verdict : Tells verdicts.eq
verdict = record { is = verdict_same }

resumed : Tells resumeds.eq
resumed =
    record {
      is = λ x y h. let t = (verdict ⊗ maybe number ⊗ maybe state).is (x.verdict, (x.id, x.state)) (y.verdict, (y.id, y.state)) h in
          λ i. record { verdict = (t i).0; id = (t i).1.0; state = (t i).1.1 };
    }

given_same : (a b : Given) → givens.eq a b ≡ true → a ≡ b
given_same given.Nothing given.Nothing h = refl
given_same (given.Link a) (given.Link l) h = ap given.Link (number.is a l h)
given_same (given.Offered a) (given.Offered l) h = ap given.Offered (number.is a l h)
given_same (given.Attached a) (given.Attached l) h = ap given.Attached (number.is a l h)
given_same (given.Gone a) (given.Gone l) h = ap given.Gone (number.is a l h)
given_same (given.Delivery a) (given.Delivery l) h = ap given.Delivery (number.is a l h)
given_same (given.Ready a b) (given.Ready l m) h = let t = (number ⊗ number).is (a, b) (l, m) h in λ i. given.Ready (t i).0 (t i).1
given_same (given.Taken a) (given.Taken l) h = ap given.Taken (taken.is a l h)
given_same (given.Learned a) (given.Learned l) h = ap given.Learned (learned.is a l h)
given_same (given.Suspended a) (given.Suspended l) h = ap given.Suspended (aside.is a l h)
given_same (given.Parted a b) (given.Parted l m) h = let t = (number ⊗ aside).is (a, b) (l, m) h in λ i. given.Parted (t i).0 (t i).1
given_same (given.Resumed a) (given.Resumed l) h = ap given.Resumed (resumed.is a l h)
given_same _ _ h = no h

told : Tells givens.eq
told = record { is = given_same }

reply : Tells replies.eq
reply =
    record {
      is = λ x y h. let t = (items sent ⊗ items (role ⊗ number) ⊗ told).is (x.sent, (x.ended, x.given)) (y.sent, (y.ended, y.given)) h in
          λ i. record { sent = (t i).0; ended = (t i).1.0; given = (t i).1.1 };
    }

pub replies_alike : (a b : Reply) → (replies.eq a b ≡ true → a ≡ b) × (a ≡ b → replies.eq a b ≡ true)
replies_alike a b = (reply.is a b, λ e. sym (ap (replies.eq a) e) ∙ replies_whole.laws-law.refl a)

pub frame_same : (a b : Frame) → frames.eq a b ≡ true → a ≡ b
frame_same = frame.is
