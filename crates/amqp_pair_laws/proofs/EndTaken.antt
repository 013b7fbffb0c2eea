-- An end is taken.
use Rattle.std.proofs.Common.{◌≡◌, true, false, Some, refl, IsOk}
use Rattle.amqp_performatives.specs.declared.performative.Performative.TheVariants as heard
use Rattle.amqp_frames.specs.declared.frame.Frame.{Frame}
use Rattle.amqp_rules.specs.View.{View, is_ending}
use Rattle.amqp_rules.specs.Answer.{heard_answer}
use Rattle.amqp_performatives.specs.declared.bodies.EndBody.{EndBody}
use Rattle.amqp_rules.proofs.Listed.{by-bool}
use Rattle.amqp_pair_laws.proofs.Next.{IsReady, ready-takes, ready-ends}

pub end-taken : (v : View) (f : Frame) (e : EndBody) → IsReady v.session → f.body ≡ Some (heard.End e) → IsOk (heard_answer v f)
end-taken v f e r is =
    by-bool v.session.end_sent
    (λ (sent : v.session.end_sent ≡ true). let ending = ready-ends v.session r sent in rw (is, ending) refl)
    (λ (unsent : v.session.end_sent ≡ false).
    let takes = ready-takes v.session r unsent in
    let kept : is_ending v.session ≡ false = rw unsent refl in
    rw (is, kept, takes) refl)
