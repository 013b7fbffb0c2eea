-- A disposition is taken.
use Rattle.std.proofs.Common.{◌≡◌, true, false, Some, refl, IsOk}
use Rattle.amqp_performatives.specs.declared.performative.Performative.TheVariants as heard
use Rattle.amqp_frames.specs.declared.frame.Frame.{Frame}
use Rattle.amqp_rules.specs.View.{View, takes_frames}
use Rattle.amqp_rules.specs.Answer.{heard_answer, is_end}
use Rattle.amqp_rules.specs.Dispose.{is_backwards}
use Rattle.amqp_rules.specs.Deliveries.{disposition_of}
use Rattle.amqp_performatives.specs.declared.bodies.DispositionBody.{DispositionBody}
use Rattle.amqp_pair_laws.proofs.Next.{IsReady, taken-by}

pub disposition-taken : (v : View) (f : Frame) (d : DispositionBody) → IsReady v.session → f.body ≡ Some (heard.Disposition d) → is_backwards (disposition_of d).first (disposition_of d).last ≡ false → IsOk (heard_answer v f)
disposition-taken v f d r is forward =
    taken-by v f r (let k : is_end (Some (heard.Disposition d)) ≡ false = refl in rw is k) (λ (takes : takes_frames v.session ≡ true). rw (is, takes, forward) refl)
