use Rattle.std.proofs.Common.{◌∙◌, ◌==◌, ap, sym, find, rules}
use Rattle.amqp_rules.specs.View.{has_number}
use Rattle.amqp_waiting.specs.Kept.{standing_of}
use Rattle.amqp_rules.specs.Deliveries.{is_sent_anew}
use Rattle.amqp_steps.specs.Resuming.{MaySend}
use Rattle.amqp_steps.specs.Plan.{view_of}
use Rattle.amqp_steps.proofs.Transfers.{marks-same}
use Rattle.amqp_steps.proofs.Resumes.{absent-is-plan, late-free, never, refused-frame, refused-late, refused-unclear, sent-is-plan}
use Rattle.amqp_endpoint.proofs.endpoint.Endpoint.check_resume.Goals as goal

pub returns-then-is_unclear-clause-plan : goal.returns-then-is_unclear-clause-plan
returns-then-is_unclear-clause-plan c =
    let there = ap (λ e. find (has_number c.args.link) e.stores.links.list) c.self-inside.view_is in
    let found = sym (c.in-Some.ensures ∙ there) in
    let early = sym c.early_refusal.ensures ∙ c.in_default-early_refusal.is in
    rw (← c.self.view_is)
    (refused-unclear (view_of c.self.inside.steps c.self.inside.session c.self.inside.stores) c.args.link c.args.tag.now c.args.settled c.in-Some.found.link.now (standing_of c.args.tag.now c.in-Some-standing.standing.now) (search rules) found early c.in-Some-standing.ensures (sym c.is_unclear.ensures ∙ c.if-is_unclear.true))

pub returns-then-not-is_sent_anew-clause-plan : goal.returns-then-not-is_sent_anew-clause-plan
returns-then-not-is_sent_anew-clause-plan c =
    let there = ap (λ e. find (has_number c.args.link) e.stores.links.list) c.self-inside.view_is in
    let found = sym (c.in-Some.ensures ∙ there) in
    let early = sym c.early_refusal.ensures ∙ c.in_default-early_refusal.is in
    let clear = sym c.is_unclear.ensures ∙ c.if-is_unclear.false in
    rw (← c.self.view_is)
    (absent-is-plan c.self.inside.steps c.self.inside.session c.self.inside.stores c.args.link c.args.tag.now c.args.settled (record { on = record { key = c.in-Some.found.key; handle = c.our_handle-handle.result; marks = c.marks.result }; second = c.rcv_mode-second.result == 1; standing = c.in-Some-standing.standing }) c.in-Some.found.link.now
    (record {
      kept = c.self.invariant;
      mapped = search rules;
      found = found;
      early = early;
      waits = c.in-Some-standing.ensures;
      clear = clear;
      sending = c.marks.ensures.sending;
    })
    (sym c.is_sent_anew.ensures ∙ c.if-not-is_sent_anew.true) (marks-same c.in-Some.found.link.now c.marks.result c.marks.ensures))

pub returns-then-not-is_sent_anew-clause-may : goal.returns-then-not-is_sent_anew-clause-may
returns-then-not-is_sent_anew-clause-may c h =
    never (MaySend c.args.self.now c.args.tag.now c.args.settled (record { on = record { key = c.in-Some.found.key; handle = c.our_handle-handle.result; marks = c.marks.result }; second = c.rcv_mode-second.result == 1; standing = c.in-Some-standing.standing })) (is_sent_anew (standing_of c.args.tag.now c.in-Some-standing.standing.now)) (sym c.is_sent_anew.ensures ∙ c.if-not-is_sent_anew.true) h

pub returns-in-Some-late_refusal-clause-plan : goal.returns-in-Some-late_refusal-clause-plan
returns-in-Some-late_refusal-clause-plan c =
    let there = ap (λ e. find (has_number c.args.link) e.stores.links.list) c.self-inside.view_is in
    let found = sym (c.in-Some.ensures ∙ there) in
    let early = sym c.early_refusal.ensures ∙ c.in_default-early_refusal.is in
    let clear = sym c.is_unclear.ensures ∙ c.if-is_unclear.false in
    let anew = sym c.is_sent_anew.ensures ∙ c.if-not-is_sent_anew.false in
    rw (← c.self.view_is)
    (refused-late (view_of c.self.inside.steps c.self.inside.session c.self.inside.stores) c.args.link c.args.tag.now c.args.settled c.in-Some.found.link.now (standing_of c.args.tag.now c.in-Some-standing.standing.now) c.in-Some-late_refusal.refusal (search rules) found early c.in-Some-standing.ensures clear anew
    (rw (← c.self.view_is, c.is_partial-partial.ensures) at (sym c.late_refusal.ensures ∙ c.in-Some-late_refusal.is)))

pub returns-in-Some-resuming_refusal-clause-plan : goal.returns-in-Some-resuming_refusal-clause-plan
returns-in-Some-resuming_refusal-clause-plan c =
    let there = ap (λ e. find (has_number c.args.link) e.stores.links.list) c.self-inside.view_is in
    let found = sym (c.in-Some.ensures ∙ there) in
    let early = sym c.early_refusal.ensures ∙ c.in_default-early_refusal.is in
    let clear = sym c.is_unclear.ensures ∙ c.if-is_unclear.false in
    let anew = sym c.is_sent_anew.ensures ∙ c.if-not-is_sent_anew.false in
    rw (← c.self.view_is)
    (refused-frame (view_of c.self.inside.steps c.self.inside.session c.self.inside.stores) c.args.link c.args.tag.now c.args.settled c.in-Some.found.link.now (standing_of c.args.tag.now c.in-Some-standing.standing.now) c.in-Some-resuming_refusal.refusal (search rules) found early c.in-Some-standing.ensures clear anew
    (rw (← c.self.view_is, c.is_partial-partial.ensures) at (sym c.late_refusal.ensures ∙ c.in_default-late_refusal.is))
    (rw (c.our_handle-handle.ensures, c.next_delivery-id.ensures, ap (λ e. e.session) c.self-inside.view_is) at (sym c.resuming_refusal.ensures ∙ c.in-Some-resuming_refusal.is)))

pub returns-clause-plan : goal.returns-clause-plan
returns-clause-plan c =
    let there = ap (λ e. find (has_number c.args.link) e.stores.links.list) c.self-inside.view_is in
    let found = sym (c.in-Some.ensures ∙ there) in
    let early = sym c.early_refusal.ensures ∙ c.in_default-early_refusal.is in
    let clear = sym c.is_unclear.ensures ∙ c.if-is_unclear.false in
    let anew = sym c.is_sent_anew.ensures ∙ c.if-not-is_sent_anew.false in
    let late = sym c.late_refusal.ensures ∙ c.in_default-late_refusal.is in
    rw (← c.self.view_is)
    (sent-is-plan c.self.inside.steps c.self.inside.session c.self.inside.stores c.args.link c.args.tag.now c.args.settled (record { on = record { key = c.in-Some.found.key; handle = c.our_handle-handle.result; marks = c.marks_first.result }; second = c.rcv_mode-second.result == 1; standing = c.in-Some-standing.standing }) c.in-Some.found.link.now
    (record {
      kept = c.self.invariant;
      mapped = search rules;
      found = found;
      early = early;
      waits = c.in-Some-standing.ensures;
      clear = clear;
      sending = c.marks_first.ensures.sending;
    })
    anew (ap (λ n. n == 1) c.rcv_mode-second.ensures) c.our_handle-handle.ensures
    (rw (← c.self.view_is, c.is_partial-partial.ensures) at late)
    (rw (c.next_delivery-id.ensures, ap (λ e. e.session) c.self-inside.view_is) at (sym c.resuming_refusal.ensures ∙ c.in_default-resuming_refusal.is))
    (c.marks_first.ensures.marks (late-free c.args.self.now c.in-Some.found.link.now c.args.settled c.is_partial-partial.result late).credit))

pub returns-clause-may : goal.returns-clause-may
returns-clause-may c h =
    record {
      window = (late-free c.args.self.now c.in-Some.found.link.now c.args.settled c.is_partial-partial.result (sym c.late_refusal.ensures ∙ c.in_default-late_refusal.is)).window;
      written = rw (← c.self.view_is) (rw (c.next_delivery-id.ensures, ap (λ e. e.session) c.self-inside.view_is) at (sym c.resuming_refusal.ensures ∙ c.in_default-resuming_refusal.is));
    }
