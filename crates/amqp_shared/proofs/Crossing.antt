-- What lies under the lock may cross threads, and so what threads share by reference: each type in turn, since values hold values.
use denote.RattleType.{RattleType}
use denote.Param.Send.{IsSend, IsSync, sendable, struct_send, recorded_send}
use denote.Struct.Declared.{shape}
use Rattle.std.proofs.Crossing.{crosses, frees}
use Rattle.std.proofs.alloc.Global.TheSendSync as heap
use Rattle.std.specs.contracts.alloc.Global as global
use Rattle.std.specs.contracts.impls.GlobalAllocator.TheImpl.{ghosts}
use Rattle.bytes.proofs.shared.Bytes.TheSendSync as bytes_crosses
use Rattle.bytes.proofs.unique.BytesMut.TheSendSync as buffer_crosses
use Rattle.bytes.specs.contracts.unique.BytesMut as buffer
use Rattle.bytes.specs.contracts.shared.Bytes as bytes
use Rattle.amqp_history.proofs.history.History.TheSendSync as history_crosses
use Rattle.amqp_shared.proofs.waiting.Conditions.TheSendSync as conditions
use Rattle.amqp_shared.proofs.retention.Retention.TheSendSync as retention
use Rattle.amqp_shared.proofs.waiting.Waiters.TheSendSync as waiters
use Rattle.amqp_shared.proofs.sleepers.Sleepers.TheSendSync as sleepers
use Rattle.std.proofs.sync.ledger.Book.TheSendSync as book
use Rattle.rtrb.proofs.producer.Producer.TheSendSync as producer
use Rattle.amqp_journal.proofs.unit.Unit.TheSendSync as unit
use Rattle.std.specs.declared.sync.ledger.Ledger as ledger
use Rattle.amqp_shared.specs.declared.name.Name as name
use Rattle.amqp_shared.specs.contracts.locked.Locked as locked
use Rattle.amqp_shared.specs.contracts.locked.Locked.TheInside as inside
use Rattle.amqp_shared.specs.contracts.name.Numbered as numbered
use Rattle.amqp_shared.specs.contracts.name.NumberedProtocolUnit.TheImpl as numbered_protocol
use Rattle.rtrb.specs.contracts.producer.Producer as producer_row
use Rattle.amqp_journal.specs.contracts.unit.Unit as unit_row
use Rattle.amqp_shared.specs.contracts.shared.Shared as shared
use Rattle.amqp_shared.specs.contracts.batches.Judged as judged
use Rattle.amqp_shared.specs.contracts.batches.Batch as batch
use Rattle.amqp_shared.specs.contracts.consumers.Job as job
use Rattle.amqp_shared.proofs.pass.Pass.TheSendSync as pass_crosses
use Rattle.slab.proofs.Slab.TheSendSync as slab_crosses
use Rattle.std.proofs.collections.BTreeMap.TheSendSync as btree_crosses
use Rattle.amqp_types.proofs.tag.Tag.TheSendSync as tag
use Rattle.amqp_types.proofs.text.Text.TheSendSync as text
use Rattle.amqp_types.proofs.items.Items.TheSendSync as items_crosses
use Rattle.amqp_types.specs.contracts.items.Items as items
use mathlib.Core.List.{◌∷◌, []}
use denote.Struct.Tuple.{Tuple}
use Rattle.amqp_types.proofs.boxed.Boxed.TheSendSync as boxed
use Rattle.amqp_types.specs.contracts.value.Value as value
use Rattle.amqp_types.proofs.value.Value.TheLaws.TheKnot.{send-Value}
use Rattle.amqp_rules.proofs.reply.Taken.TheSendSync as taken_crosses
use Rattle.amqp_rules.proofs.sliced.Sliced.TheSendSync as sliced_crosses
use Rattle.amqp_deliveries.proofs.tags.TagIndex.TheSendSync as tag_index_crosses
use Rattle.amqp_links.proofs.credit.Credit.TheSendSync as credit_crosses
use Rattle.amqp_links.proofs.marks.Sending.TheSendSync as sending_crosses
use Rattle.amqp_links.proofs.arrival.Unfinished.TheSendSync as unfinished_crosses
use Rattle.amqp_links.proofs.arrival.Waiting.TheSendSync as waiting_crosses
use Rattle.amqp_links.specs.contracts.left.Left as left
use Rattle.amqp_steps.proofs.plan.Session.TheSendSync as session_crosses
use Rattle.amqp_rules.proofs.config.Config.TheSendSync as session_config_crosses
use Rattle.amqp_frames.proofs.framer.Framer.TheSendSync as framer_crosses
use Rattle.amqp_conn.proofs.config.Config.TheSendSync as config_crosses
use Rattle.amqp_conn.proofs.phase.Phase.TheSendSync as phase_crosses
use Rattle.amqp_performatives.specs.contracts.error.AmqpError as amqp_error
use Rattle.amqp_performatives.specs.contracts.state.DeliveryState as delivery_state
use Rattle.amqp_performatives.specs.contracts.bodies.OpenBody as open_body
use Rattle.amqp_performatives.specs.contracts.bodies.BeginBody as begin_body
use Rattle.amqp_performatives.specs.contracts.bodies.AttachBody as attach_body
use Rattle.amqp_performatives.specs.contracts.bodies.FlowBody as flow_body
use Rattle.amqp_performatives.specs.contracts.bodies.TransferBody as transfer_body
use Rattle.amqp_performatives.specs.contracts.bodies.DispositionBody as disposition_body
use Rattle.amqp_performatives.specs.contracts.bodies.DetachBody as detach_body
use Rattle.amqp_performatives.specs.contracts.bodies.EndBody as end_body
use Rattle.amqp_performatives.specs.contracts.bodies.CloseBody as close_body
use Rattle.amqp_performatives.specs.contracts.performative.Performative as performative
use Rattle.amqp_frames.specs.contracts.frame.Frame as frame
use Rattle.amqp_rules.specs.contracts.reply.Sent as sent
use Rattle.amqp_rules.specs.contracts.reply.Learned as learned
use Rattle.amqp_waiting.specs.contracts.item.SuspendedItem as suspended_item
use Rattle.indexmap.proofs.map.IndexMap.TheSendSync as index_map
use Rattle.amqp_waiting.proofs.key.Key.TheSendSync as key
use Rattle.amqp_waiting.specs.contracts.item.Standing as standing
use Rattle.amqp_waiting.specs.contracts.waiting.Waiting as resumable
use Rattle.amqp_waiting.specs.contracts.peer.Told as told
use Rattle.amqp_waiting.specs.contracts.peer.Unsettled as unsettled
use Rattle.amqp_rules.specs.contracts.reply.Suspended as suspended
use Rattle.amqp_rules.specs.contracts.reply.Resumed as resumed
use Rattle.amqp_rules.specs.contracts.reply.Given as given
use Rattle.amqp_rules.specs.contracts.reply.Reply as reply
use Rattle.amqp_waiting.specs.contracts.brought.Brought as brought
use Rattle.amqp_rules.specs.contracts.op.Rejoin as rejoin
use Rattle.amqp_rules.specs.contracts.op.Op as op
use Rattle.amqp_laws.specs.contracts.entry.Step as step
use Rattle.amqp_laws.specs.contracts.entry.Entry as entry
use Rattle.amqp_deliveries.specs.contracts.item.HeldItem as held_item
use Rattle.amqp_deliveries.specs.contracts.item.Entry as held_entry
use Rattle.amqp_deliveries.specs.contracts.held.Held as held
use Rattle.amqp_deliveries.specs.contracts.disposition.Telling as telling
use Rattle.amqp_deliveries.specs.contracts.tables.Tables as tables
use Rattle.amqp_links.specs.contracts.end.End as link_end
use Rattle.amqp_links.specs.contracts.resuming.Kept as kept
use Rattle.amqp_links.specs.contracts.resuming.Resuming as resuming
use Rattle.amqp_links.specs.contracts.link.Link as link
use Rattle.amqp_links.specs.contracts.links.Links as links
use Rattle.amqp_steps.specs.contracts.stores.Stores as stores
use Rattle.amqp_endpoint.specs.contracts.endpoint.Endpoint as endpoint
use Rattle.amqp_journal.specs.contracts.logged.Logged as logged
use Rattle.amqp_conn.specs.contracts.treating.Machine as machine
use Rattle.amqp_conn.specs.contracts.conn.Conn as conn

pub bytes_send : IsSend (bytes.the_row global.the_row ghosts)
bytes_send = bytes_crosses.the_send global.the_row ghosts heap.the_send heap.the_sync frees

pub pair_send : (h : RattleType) → IsSend h → IsSend (items.the_row (Tuple (h ∷ h ∷ [])))
pair_send h s = items_crosses.the_send (Tuple (h ∷ h ∷ [])) (search sendable)

pub value_send : IsSend (value.the_field).row
value_send =
    send-Value (search sendable) (search sendable) (search sendable) (search sendable) (search sendable) (search sendable) (search sendable) (search sendable)
    (search sendable) (search sendable) (search sendable) (search (sendable, bytes_send)) (search (sendable, text.the_send))
    (λ h s. items_crosses.the_send h s)
    (λ h s. pair_send h s)
    (λ h s. boxed.the_send h s)

pub amqp_error_send : IsSend (amqp_error.the_field).row
amqp_error_send = search (sendable, crosses, text.the_send, boxed.the_send, value_send) depth 40 fits 20000

pub delivery_state_send : IsSend (delivery_state.the_field).row
delivery_state_send = search (sendable, crosses, boxed.the_send, value_send, amqp_error_send) depth 40 fits 20000

pub open_body_send : IsSend (open_body.the_field).row
open_body_send = search (sendable, crosses, text.the_send, boxed.the_send, value_send, items_crosses.the_send) depth 40 fits 20000

pub begin_body_send : IsSend (begin_body.the_field).row
begin_body_send = search (sendable, crosses, boxed.the_send, value_send, items_crosses.the_send) depth 40 fits 20000

pub attach_body_send : IsSend (attach_body.the_field).row
attach_body_send = search (sendable, crosses, text.the_send, boxed.the_send, value_send, items_crosses.the_send, pair_send) depth 40 fits 20000

pub flow_body_send : IsSend (flow_body.the_field).row
flow_body_send = search (sendable, crosses, boxed.the_send, value_send) depth 40 fits 20000

pub transfer_body_send : IsSend (transfer_body.the_field).row
transfer_body_send = search (sendable, crosses, tag.the_send, delivery_state_send, boxed.the_send, value_send) depth 40 fits 20000

pub disposition_body_send : IsSend (disposition_body.the_field).row
disposition_body_send = search (sendable, crosses, delivery_state_send) depth 40 fits 20000

pub detach_body_send : IsSend (detach_body.the_field).row
detach_body_send = search (sendable, crosses, boxed.the_send, amqp_error_send) depth 40 fits 20000

pub end_body_send : IsSend (end_body.the_field).row
end_body_send = search (sendable, crosses, boxed.the_send, amqp_error_send) depth 40 fits 20000

pub close_body_send : IsSend (close_body.the_field).row
close_body_send = search (sendable, crosses, boxed.the_send, amqp_error_send) depth 40 fits 20000

pub performative_send : IsSend (performative.the_field).row
performative_send = search (sendable, crosses, boxed.the_send, open_body_send, begin_body_send, attach_body_send, flow_body_send, transfer_body_send, disposition_body_send, detach_body_send, end_body_send, close_body_send) depth 40 fits 20000

pub frame_send : IsSend (frame.the_field).row
frame_send = search (sendable, crosses, bytes_send, performative_send) depth 40 fits 20000

pub sent_send : IsSend (sent.the_field).row
sent_send = search (sendable, crosses, sliced_crosses.the_send, frame_send) depth 40 fits 20000

pub judged_send : IsSend (judged.the_field).row
judged_send = search (sendable, crosses, taken_crosses.the_field_send, delivery_state_send) depth 40 fits 20000

pub batch_send : IsSend (batch.the_field).row
batch_send = search (sendable, crosses, taken_crosses.the_send, judged_send, heap.the_send) depth 40 fits 20000

pub learned_send : IsSend (learned.the_field).row
learned_send = search (sendable, crosses, tag.the_send, delivery_state_send) depth 40 fits 20000

pub suspended_item_send : IsSend (suspended_item.the_field).row
suspended_item_send = search (sendable, crosses, tag.the_send, delivery_state_send) depth 40 fits 20000

pub suspended_send : IsSend (suspended.the_field).row
suspended_send = search (sendable, crosses, text.the_send, items_crosses.the_send, suspended_item_send) depth 40 fits 20000

pub resumed_send : IsSend (resumed.the_field).row
resumed_send = search (sendable, crosses, delivery_state_send) depth 40 fits 20000

pub given_send : IsSend (given.the_field).row
given_send = search (sendable, crosses, taken_crosses.the_send, learned_send, suspended_send, resumed_send, bytes_send, tag.the_send) depth 40 fits 20000

pub reply_send : IsSend (reply.the_field).row
reply_send = search (sendable, crosses, items_crosses.the_send, sent_send, given_send) depth 40 fits 20000

pub brought_send : IsSend (brought.the_field).row
brought_send = search (sendable, crosses, items_crosses.the_send, pair_send, value_send, suspended_item_send) depth 40 fits 20000

pub rejoin_send : IsSend (rejoin.the_field).row
rejoin_send = search (sendable, crosses, text.the_send, boxed.the_send, value_send, brought_send) depth 40 fits 20000

pub op_send : IsSend (op.the_field).row
op_send = search (sendable, crosses, text.the_send, tag.the_send, bytes_send, boxed.the_send, value_send, delivery_state_send, amqp_error_send, rejoin_send) depth 40 fits 20000

pub step_send : IsSend (step.the_field).row
step_send = search (sendable, crosses, op_send, frame_send) depth 40 fits 20000

pub entry_send : IsSend (entry.the_field).row
entry_send = search (sendable, crosses, step_send, reply_send) depth 40 fits 20000

pub held_item_send : IsSend (held_item.the_field).row
held_item_send = search (sendable, crosses, tag.the_send, delivery_state_send) depth 40 fits 20000

pub held_entry_send : IsSend (held_entry.the_field).row
held_entry_send = search (sendable, crosses, held_item_send) depth 40 fits 20000

pub held_send : IsSend (held.the_field).row
held_send = search (sendable, crosses, held_entry_send, tag_index_crosses.the_field_send, heap.the_send) depth 40 fits 20000

pub telling_send : IsSend (telling.the_field).row
telling_send = search (sendable, crosses, tag.the_send, delivery_state_send, held_item_send) depth 40 fits 20000

pub tables_send : IsSend (tables.the_field).row
tables_send = search (sendable, crosses, held_send) depth 40 fits 20000

pub standing_send : IsSend (standing.the_field).row
standing_send = search (sendable, crosses, delivery_state_send) depth 40 fits 20000

pub resumable_send : IsSend (resumable.the_field).row
resumable_send = search (sendable, crosses, index_map.the_send, key.the_send, standing_send, heap.the_send, frees) depth 40 fits 20000

pub told_send : IsSend (told.the_field).row
told_send = search (sendable, crosses, tag.the_send, delivery_state_send) depth 40 fits 20000

pub unsettled_send : IsSend (unsettled.the_field).row
unsettled_send = search (sendable, crosses, items_crosses.the_send, told_send) depth 40 fits 20000

pub kept_send : IsSend (kept.the_field).row
kept_send = search (sendable, crosses, resumable_send, unsettled_send) depth 40 fits 20000

pub resuming_send : IsSend (resuming.the_field).row
resuming_send = search (sendable, crosses, kept_send) depth 40 fits 20000

pub link_end_send : IsSend (link_end.the_field).row
link_end_send = search (sendable, crosses, boxed.the_send, value_send) depth 40 fits 20000

pub link_send : IsSend (link.the_field).row
link_send = search (sendable, crosses, text.the_send, link_end_send, credit_crosses.the_send, sending_crosses.the_send, unfinished_crosses.the_send, waiting_crosses.the_send, telling_send, resuming_send) depth 40 fits 20000

pub links_send : IsSend (links.the_field).row
links_send = search (sendable, crosses, link_send, slab_crosses.the_send, btree_crosses.the_send, heap.the_send, heap.the_sync) depth 40 fits 20000

pub stores_send : IsSend (stores.the_field).row
stores_send = search (sendable, crosses, links_send, tables_send) depth 40 fits 20000

pub buffer_send : IsSend (buffer.the_row global.the_row ghosts)
buffer_send = buffer_crosses.the_send global.the_row ghosts heap.the_send heap.the_sync frees

pub endpoint_send : IsSend (endpoint.the_field).row
endpoint_send = search (sendable, crosses, session_crosses.the_send, stores_send, buffer_send, heap.the_send) depth 60 fits 100000

pub left_send : IsSend (left.the_field).row
left_send = search (sendable, crosses, text.the_send, boxed.the_send, taken_crosses.the_send, learned_send) depth 40 fits 20000

pub logged_send : IsSend (logged.the_field).row
logged_send = search (sendable, crosses, session_config_crosses.the_send, endpoint_send, entry_send, bytes_send, sliced_crosses.the_send, history_crosses.the_send, left_send, heap.the_send) depth 40 fits 20000

pub machine_send : IsSend (machine.the_field).row
machine_send = search (sendable, crosses, config_crosses.the_send, bytes_send, phase_crosses.the_send, logged_send, boxed.the_send, open_body_send, close_body_send) depth 40 fits 20000

pub conn_send : IsSend (conn.the_field).row
conn_send = search (sendable, crosses, boxed.the_send, machine_send, framer_crosses.the_send) depth 40 fits 20000

producer_send : IsSend (producer_row.the_field unit_row.the_row global.the_row numbered.the_row ghosts numbered_protocol.ghosts).row
producer_send = producer.the_field_send _ _ _ _ _ unit.the_send heap.the_send frees

inside_send : (N : RattleType) (n : name.Ghosts N.Denot) (l : ledger.Ghosts N.Denot) → IsSend (inside.the_row N n l)
inside_send N n l =
    recorded_send (inside.the_field N n l).row _ _ (inside.the_type N n l).to_one
    (struct_send (shape (inside.the_type N n l)) (conn_send, (book.the_send N l, (producer_send, (search sendable, (search (sendable, crosses, retention.the_field_send), (search (sendable, crosses, waiters.the_field_send), (search (sendable, crosses, sleepers.the_field_send), tt))))))))

pub locked_send : (N : RattleType) (n : name.Ghosts N.Denot) (l : ledger.Ghosts N.Denot) → IsSend (locked.the_row N n l)
locked_send N n l = search (sendable, inside_send) depth 10

pub shared_sync : (N : RattleType) (n : name.Ghosts N.Denot) (l : ledger.Ghosts N.Denot) → IsSync (shared.the_row N n l)
shared_sync N n l = search (sendable, crosses, locked_send, conditions.the_sync) depth 40 fits 20000

-- what a consumer's thread starts with
pub job_send : (N W : RattleType) (n : name.Ghosts N.Denot) (l : ledger.Ghosts N.Denot) → IsSend W → IsSend (job.the_row N W n l)
job_send N W n l s = search (sendable, crosses, pass_crosses.the_send, batch_send) depth 40 fits 20000
