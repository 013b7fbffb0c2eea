-- The ids of the first transfers: those that b has heard are those that a sent.
use Rattle.std.proofs.Common.{option_map, is_some, ◌≡◌, ℕ, ◌&&◌, Bool, true, false, cond, Option, Some, None, List, [], ◌∷◌, refl, sym, ap, ◌∙◌}
use Rattle.amqp_performatives.specs.declared.bodies.TransferBody.{TransferBody}
use Rattle.amqp_performatives.specs.declared.performative.Performative.{Performative}
use Rattle.amqp_performatives.specs.declared.performative.Performative.TheVariants as heard
use Rattle.amqp_frames.specs.declared.frame.Frame.{Frame}
use Rattle.amqp_rules.specs.declared.config.Config.{Config}
use Rattle.amqp_rules.specs.declared.reply.Sent.{Sent}
use Rattle.amqp_rules.specs.View.{is_over}
use Rattle.amqp_rules.proofs.Listed.{by-bool}
use Rattle.amqp_laws.specs.declared.entry.Entry.{Entry}
use Rattle.amqp_laws.specs.Past.{some_entry}
use Rattle.amqp_laws.specs.Said.{transfer_among, transfer_heard, transfer_sent, own_in, body_heard, ends, hears_no_end}
use Rattle.amqp_laws.specs.Live.{live}
use Rattle.amqp_laws.specs.Session.{session_at}
use Rattle.amqp_laws.specs.At.{at}
use Rattle.amqp_laws.specs.Lawful.{next}
use Rattle.amqp_pair_laws.proofs.Plain.{due}
use Rattle.amqp_pair_laws.specs.World.{IsFair, Tight, frame_among, hears, sends}
use Rattle.amqp_pair_laws.proofs.Lag as lag
use Rattle.amqp_pair_laws.proofs.Sends.{Sending, begins as begins', flows, others, silent, step-sending, transfers}
use Rattle.amqp_pair_laws.proofs.Windows.{lives-goes, sender-lives}
use Rattle.amqp_pair_laws.proofs.Opens.{body-of, deaf-body, heard-body}
use Rattle.amqp_pair_laws.specs.Premise.{ids_heard, ids_sent}

pub none-sent : (sent : List Sent) → frame_among sent ≡ None → transfer_among sent ≡ None
none-sent [] h = refl
none-sent (s ∷ sent) h =
    by-bool (is_some s.frame.body)
    (λ (t : is_some s.frame.body ≡ true). let k = rw t at h in absurd (cc k))
    (λ (f : is_some s.frame.body ≡ false).
    let rest = none-sent sent (let k = rw f at h in k) in
    let none = no-body s.frame.body f in
    rw none rest)
  where
    no-body : (o : Option Performative) → is_some o ≡ false → o ≡ None
    no-body None h = refl
    no-body (Some p) h = absurd (cc)

abbrev pub IdsAgree : Config → Config → List Entry → List Entry → Type 0
IdsAgree ca cb a b = is_over (session_at (live b)) ≡ false → ids_heard (live b) ≡ ids_sent (live a)

ids-quiet : (e : Entry) (past : List Entry) → transfer_sent e ≡ None → ids_sent (live (e ∷ past)) ≡ ids_sent (live past)
ids-quiet e past none = by (some_entry ends (live past) && hears_no_end e.step)
  where
    by : (dropped : Bool) → ids_sent (cond dropped (live past) (e ∷ live past)) ≡ ids_sent (live past)
    by true = refl
    by false = rw none refl

ids-both : (x y : List Entry) (e e' : Entry) (o : Option (TransferBody × List ℕ)) → transfer_sent e ≡ o → transfer_heard e' ≡ option_map (λ t. t.0) o → ids_heard y ≡ ids_sent x → ids_heard (e' ∷ y) ≡ ids_sent (e ∷ x)
ids-both x y e e' None s h k = rw (s, h) k
ids-both x y e e' (Some t) s h k = rw (s, h, k) refl

ids-pass : (ca cb : Config) (e : Entry) (a : List Entry) (e' : Entry) (b : List Entry) (f : Frame)
    → Sending (at ca a) (next (at ca a) e.step) (body_heard e.step) (own_in e.step) e.reply → frame_among e.reply.sent ≡ Some f → body_heard e'.step ≡ f.body
    → ids_heard (live b) ≡ ids_sent (live a) → ids_heard (e' ∷ live b) ≡ ids_sent (e ∷ live a)
ids-pass ca cb e a e' b f (silent q) sent hb k = absurd (cc (q, sent))
ids-pass ca cb e a e' b f (transfers t payload deaf mapped room named carries' is) sent hb k =
    let body = hb ∙ body-of e.reply.sent (heard.Transfer t) payload f is sent in
    ids-both (live a) (live b) e e' (Some (t, payload)) (rw is refl) (rw body refl) k
ids-pass ca cb e a e' b f (flows w t mapped open' begun numbers is) sent hb k =
    let body = hb ∙ body-of e.reply.sent (heard.Flow w) [] f is sent in
    ids-both (live a) (live b) e e' None (rw is refl) (rw body refl) k
ids-pass ca cb e a e' b f (begins' w deaf is-begin' unsent open' takes comes is) sent hb k =
    let body = hb ∙ body-of e.reply.sent (heard.Begin w) [] f is sent in
    ids-both (live a) (live b) e e' None (rw is refl) (rw body refl) k
ids-pass ca cb e a e' b f (others p payload t w beside is) sent hb k =
    let body = hb ∙ body-of e.reply.sent p payload f is sent in
    ids-both (live a) (live b) e e' None (rw (is, t) refl) (rw body t) k

ids-kept : lag.IsKept sends hears IsFair IdsAgree
ids-kept =
    record {
      starts = λ ca cb lives. refl;
      quiet = λ ca cb n e a b known w t m quiet k lives. k lives ∙ sym (ids-quiet e a (none-sent e.reply.sent quiet));
      ahead = λ ca cb n e a b known w t m deaf k lives.
          let g = lives-goes e b lives in
          let none = deaf-body e.step deaf in
          let same : ids_heard (e ∷ live b) ≡ ids_heard (live b) = rw none refl in
          ap ids_heard g.is_live ∙ same ∙ k g.lived;
      pass = λ ca cb n e a e' b f known w t m m' sent heard' k lives.
          let g = lives-goes e' b lives in
          ap ids_heard g.is_live ∙ ids-pass ca cb e a e' b f (step-sending (at ca a) e.step e.reply (due m.fair)) sent (heard-body e'.step f heard') (k g.lived)
          ∙ ap ids_sent (sym (sender-lives ca a e.step e.reply f (due m.fair) sent));
    }

-- where b has heard all that a sent, and its session is not over, it has heard the ids that a sent
pub ids-known : (ca cb : Config) (n : ℕ) (a b : List Entry) → Tight ca cb n a b → IdsAgree ca cb a b
ids-known ca cb n a b t = lag.exact sends hears IsFair IdsAgree ids-kept ca cb n a b t
