use Rattle.amqp_events.proofs.UnsettledLaw.{held-step}
use Rattle.amqp_events.proofs.ToldLaw.{sent-step, to-learn-step}
use Rattle.amqp_events.proofs.TagLaw.{tags-apart}
use Rattle.amqp_events.proofs.JoinedLaw.{unfinished-step, ready-step, take-step}
use Rattle.amqp_events.proofs.Summary.{sent-order, sent-past, sent-once, heard-order, heard-past, heard-once, learnt-once}
use Rattle.amqp_events.proofs.Left.{sent-left-over, heard-left-over}
use Rattle.amqp_events.proofs.laws.Goals as goal

pub returns-clause-held : goal.returns-clause-held
returns-clause-held t = held-step

pub returns-clause-sent : goal.returns-clause-sent
returns-clause-sent t = sent-step

pub returns-clause-told : goal.returns-clause-told
returns-clause-told t = to-learn-step

pub returns-clause-sent_order : goal.returns-clause-sent_order
returns-clause-sent_order t = sent-order

pub returns-clause-sent_past : goal.returns-clause-sent_past
returns-clause-sent_past t = sent-past

pub returns-clause-sent_once : goal.returns-clause-sent_once
returns-clause-sent_once t = sent-once

pub returns-clause-heard_order : goal.returns-clause-heard_order
returns-clause-heard_order t = heard-order

pub returns-clause-heard_past : goal.returns-clause-heard_past
returns-clause-heard_past t = heard-past

pub returns-clause-heard_once : goal.returns-clause-heard_once
returns-clause-heard_once t = heard-once

pub returns-clause-tags : goal.returns-clause-tags
returns-clause-tags t = tags-apart

pub returns-clause-unfinished : goal.returns-clause-unfinished
returns-clause-unfinished t = unfinished-step

pub returns-clause-ready : goal.returns-clause-ready
returns-clause-ready t = ready-step

pub returns-clause-taken : goal.returns-clause-taken
returns-clause-taken t = take-step

pub returns-clause-told_once : goal.returns-clause-told_once
returns-clause-told_once t = learnt-once

pub returns-clause-sent_left : goal.returns-clause-sent_left
returns-clause-sent_left t = λ first past h few. sent-left-over first past h few

pub returns-clause-heard_left : goal.returns-clause-heard_left
returns-clause-heard_left t = λ past h few. heard-left-over past h few
