-- Refresh: the peer is told our window anew, and may be asked to tell its own (part 2, 2.5.6).
use Rattle.std.specs.Prelude.{not, Bool, Option, Some, Result, [], ◌∷◌}
use Rattle.amqp_performatives.specs.declared.performative.Performative.{Performative}
use Rattle.amqp_performatives.specs.declared.performative.Performative.TheVariants.{Flow}
use Rattle.amqp_flow.specs.Windows.{WindowsView}
use Rattle.amqp_rules.specs.declared.reply.Reply.{Reply}
use Rattle.amqp_rules.specs.declared.reply.Given.TheVariants.{Nothing}
use Rattle.amqp_rules.specs.declared.refusal.Refusal.{Refusal}
use Rattle.amqp_rules.specs.declared.refusal.Refusal.TheVariants.{NotMapped}
use Rattle.amqp_rules.specs.View.{View, is_mapped}
use Rattle.amqp_rules.specs.Sending.{sends}
use Rattle.amqp_rules.specs.Telling.{flag, session_flow, flow_sent}

abbrev pub refresh_body : WindowsView → Bool → Option Performative
refresh_body w echo = Some (Flow (record (session_flow w) { echo = flag echo }))

abbrev pub refresh_answer : View → Bool → Result Reply Refusal
refresh_answer v echo = sends v.max_frame ((not (is_mapped v.session), NotMapped) ∷ []) (refresh_body v.windows echo) [] Nothing

abbrev pub next_refresh : View → View
next_refresh v = flow_sent v v.links
