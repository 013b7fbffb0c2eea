-- Worked scripts of deliveries: what each line answers, computed.
use Rattle.std.proofs.Common.{◌≡◌, true, false, Some, None, [], ◌∷◌, refl}
use Rattle.std.specs.Str.{chars, is_utf8}
use lib.Utf8.{encode}
use Rattle.amqp_types.specs.Canon.{canon, spelled}
use Rattle.amqp_types.specs.Codes.{class_of}
use Rattle.amqp_performatives.specs.declared.bodies.Role.TheVariants.{Sender, Receiver}
use Rattle.amqp_performatives.specs.declared.performative.Performative.TheVariants as heard
use Rattle.amqp_performatives.specs.declared.state.DeliveryState.TheVariants as state
use Rattle.amqp_rules.specs.declared.op.Op.TheVariants as own
use Rattle.amqp_rules.specs.declared.reply.Given.TheVariants as given
use Rattle.amqp_rules.specs.declared.status.LinkPhase.TheVariants as phase
use Rattle.amqp_rules.specs.Sending.{octets_of, frame_refused}
use Rattle.amqp_laws.specs.declared.entry.Step.TheVariants.{Opened, Own, Heard}
use Rattle.amqp_laws.proofs.Scripts.{ask, ask_windows, ask_link, ask_held, ok, refused, violated, windows, link, held, lines_of}

-- a delivery is sent unsettled; its tag is taken while it is held
a_tag_in_use : lines_of (record { first_id = 0; window = 2048; journal_limit = 1073741824 })
    (ask (Opened 65536)
    ∷ ask (Own own.Begin)
    ∷ ask (Heard (record { channel = 0; body = (Some (heard.Begin (record { remote_channel = (Some 0); next_outgoing_id = 0; incoming_window = 2048; outgoing_window = 2147483647; handle_max = None; offered_capabilities = None; desired_capabilities = None; properties = None }))); payload = ([]) }))
    ∷ ask (Own (own.Attach (113 ∷ []) Sender 2 0 None None 0 0))
    ∷ ask (Heard (record { channel = 0; body = (Some (heard.Attach (record { name = (113 ∷ []); handle = 0; role = Receiver; snd_settle_mode = None; rcv_settle_mode = None; source = None; target = None; unsettled = None; incomplete_unsettled = None; initial_delivery_count = None; max_message_size = None; offered_capabilities = None; desired_capabilities = None; properties = None }))); payload = ([]) }))
    ∷ ask (Heard (record { channel = 0; body = (Some (heard.Flow (record { next_incoming_id = (Some 0); incoming_window = 2048; next_outgoing_id = 0; outgoing_window = 2147483647; handle = (Some 0); delivery_count = (Some 0); link_credit = (Some 5); available = None; drain = None; echo = None; properties = None }))); payload = ([]) }))
    ∷ ask (Own (own.Start 0 (1 ∷ []) 0 false (0 ∷ 83 ∷ 117 ∷ 160 ∷ 2 ∷ 104 ∷ 105 ∷ []) false))
    ∷ ask (Own (own.Start 0 (1 ∷ []) 0 false (0 ∷ 83 ∷ 117 ∷ 160 ∷ 2 ∷ 104 ∷ 105 ∷ []) false)) ∷ [])
    ≡ (refused 12 ∷ ok (given.Delivery 0) ([]) ((0 ∷ 0 ∷ 0 ∷ 27 ∷ 2 ∷ 0 ∷ 0 ∷ 0 ∷ 0 ∷ 83 ∷ 20 ∷ 192 ∷ 7 ∷ 4 ∷ 67 ∷ 67 ∷ 160 ∷ 1 ∷ 1 ∷ 67 ∷ 0 ∷ 83 ∷ 117 ∷ 160 ∷ 2 ∷ 104 ∷ 105 ∷ []) ∷ []) ∷ ok given.Nothing ([]) ([]) ∷ ok (given.Attached 0) ([]) ([]) ∷ ok (given.Link 0) ([]) ((0 ∷ 0 ∷ 0 ∷ 28 ∷ 2 ∷ 0 ∷ 0 ∷ 0 ∷ 0 ∷ 83 ∷ 18 ∷ 192 ∷ 15 ∷ 10 ∷ 161 ∷ 1 ∷ 113 ∷ 67 ∷ 66 ∷ 80 ∷ 2 ∷ 80 ∷ 0 ∷ 64 ∷ 64 ∷ 64 ∷ 64 ∷ 67 ∷ []) ∷ []) ∷ ok given.Nothing ([]) ([]) ∷ ok given.Nothing ([]) ((0 ∷ 0 ∷ 0 ∷ 26 ∷ 2 ∷ 0 ∷ 0 ∷ 0 ∷ 0 ∷ 83 ∷ 17 ∷ 192 ∷ 13 ∷ 4 ∷ 64 ∷ 67 ∷ 112 ∷ 0 ∷ 0 ∷ 8 ∷ 0 ∷ 112 ∷ 127 ∷ 255 ∷ 255 ∷ 255 ∷ []) ∷ []) ∷ ok given.Nothing ([]) ([]) ∷ [])
unfolding octets_of frame_refused canon spelled class_of is_utf8 chars encode
a_tag_in_use = refl

-- the sender settles what it sent
sender_settles : lines_of (record { first_id = 0; window = 2048; journal_limit = 1073741824 })
    (ask (Opened 65536)
    ∷ ask (Own own.Begin)
    ∷ ask (Heard (record { channel = 0; body = (Some (heard.Begin (record { remote_channel = (Some 0); next_outgoing_id = 0; incoming_window = 2048; outgoing_window = 2147483647; handle_max = None; offered_capabilities = None; desired_capabilities = None; properties = None }))); payload = ([]) }))
    ∷ ask (Own (own.Attach (113 ∷ []) Sender 2 0 None None 0 0))
    ∷ ask (Heard (record { channel = 0; body = (Some (heard.Attach (record { name = (113 ∷ []); handle = 0; role = Receiver; snd_settle_mode = None; rcv_settle_mode = None; source = None; target = None; unsettled = None; incomplete_unsettled = None; initial_delivery_count = None; max_message_size = None; offered_capabilities = None; desired_capabilities = None; properties = None }))); payload = ([]) }))
    ∷ ask (Heard (record { channel = 0; body = (Some (heard.Flow (record { next_incoming_id = (Some 0); incoming_window = 2048; next_outgoing_id = 0; outgoing_window = 2147483647; handle = (Some 0); delivery_count = (Some 0); link_credit = (Some 5); available = None; drain = None; echo = None; properties = None }))); payload = ([]) }))
    ∷ ask (Own (own.Start 0 (1 ∷ []) 0 false (0 ∷ 83 ∷ 117 ∷ 160 ∷ 2 ∷ 104 ∷ 105 ∷ []) false))
    ∷ ask_held Sender
    ∷ ask (Own (own.Dispose Sender 0 0 true None))
    ∷ ask_held Sender ∷ [])
    ≡ (held ([]) ∷ ok given.Nothing ((Sender, 0) ∷ []) ((0 ∷ 0 ∷ 0 ∷ 18 ∷ 2 ∷ 0 ∷ 0 ∷ 0 ∷ 0 ∷ 83 ∷ 21 ∷ 192 ∷ 5 ∷ 4 ∷ 66 ∷ 67 ∷ 67 ∷ 65 ∷ []) ∷ []) ∷ held (record { id = 0; link = 0; tag = (1 ∷ []); second = false; local = None; remote = None } ∷ []) ∷ ok (given.Delivery 0) ([]) ((0 ∷ 0 ∷ 0 ∷ 27 ∷ 2 ∷ 0 ∷ 0 ∷ 0 ∷ 0 ∷ 83 ∷ 20 ∷ 192 ∷ 7 ∷ 4 ∷ 67 ∷ 67 ∷ 160 ∷ 1 ∷ 1 ∷ 67 ∷ 0 ∷ 83 ∷ 117 ∷ 160 ∷ 2 ∷ 104 ∷ 105 ∷ []) ∷ []) ∷ ok given.Nothing ([]) ([]) ∷ ok (given.Attached 0) ([]) ([]) ∷ ok (given.Link 0) ([]) ((0 ∷ 0 ∷ 0 ∷ 28 ∷ 2 ∷ 0 ∷ 0 ∷ 0 ∷ 0 ∷ 83 ∷ 18 ∷ 192 ∷ 15 ∷ 10 ∷ 161 ∷ 1 ∷ 113 ∷ 67 ∷ 66 ∷ 80 ∷ 2 ∷ 80 ∷ 0 ∷ 64 ∷ 64 ∷ 64 ∷ 64 ∷ 67 ∷ []) ∷ []) ∷ ok given.Nothing ([]) ([]) ∷ ok given.Nothing ([]) ((0 ∷ 0 ∷ 0 ∷ 26 ∷ 2 ∷ 0 ∷ 0 ∷ 0 ∷ 0 ∷ 83 ∷ 17 ∷ 192 ∷ 13 ∷ 4 ∷ 64 ∷ 67 ∷ 112 ∷ 0 ∷ 0 ∷ 8 ∷ 0 ∷ 112 ∷ 127 ∷ 255 ∷ 255 ∷ 255 ∷ []) ∷ []) ∷ ok given.Nothing ([]) ([]) ∷ [])
unfolding octets_of frame_refused canon spelled class_of is_utf8 chars encode
sender_settles = refl

-- the ids of deliveries go over from 4294967295 to 0
ids_wrap : lines_of (record { first_id = 4294967295; window = 2048; journal_limit = 1073741824 })
    (ask (Opened 65536)
    ∷ ask (Own own.Begin)
    ∷ ask (Heard (record { channel = 0; body = (Some (heard.Begin (record { remote_channel = (Some 0); next_outgoing_id = 0; incoming_window = 2048; outgoing_window = 2147483647; handle_max = None; offered_capabilities = None; desired_capabilities = None; properties = None }))); payload = ([]) }))
    ∷ ask (Own (own.Attach (113 ∷ []) Sender 2 0 None None 0 0))
    ∷ ask (Heard (record { channel = 0; body = (Some (heard.Attach (record { name = (113 ∷ []); handle = 0; role = Receiver; snd_settle_mode = None; rcv_settle_mode = None; source = None; target = None; unsettled = None; incomplete_unsettled = None; initial_delivery_count = None; max_message_size = None; offered_capabilities = None; desired_capabilities = None; properties = None }))); payload = ([]) }))
    ∷ ask (Heard (record { channel = 0; body = (Some (heard.Flow (record { next_incoming_id = (Some 4294967295); incoming_window = 2048; next_outgoing_id = 0; outgoing_window = 2147483647; handle = (Some 0); delivery_count = (Some 0); link_credit = (Some 5); available = None; drain = None; echo = None; properties = None }))); payload = ([]) }))
    ∷ ask (Own (own.Start 0 (1 ∷ []) 0 false ([]) false))
    ∷ ask (Own (own.Start 0 (2 ∷ []) 0 false ([]) false))
    ∷ ask (Own (own.Start 0 (3 ∷ []) 0 false ([]) false))
    ∷ ask_held Sender ∷ [])
    ≡ (held (record { id = 4294967295; link = 0; tag = (1 ∷ []); second = false; local = None; remote = None } ∷ record { id = 0; link = 0; tag = (2 ∷ []); second = false; local = None; remote = None } ∷ record { id = 1; link = 0; tag = (3 ∷ []); second = false; local = None; remote = None } ∷ []) ∷ ok (given.Delivery 1) ([]) ((0 ∷ 0 ∷ 0 ∷ 21 ∷ 2 ∷ 0 ∷ 0 ∷ 0 ∷ 0 ∷ 83 ∷ 20 ∷ 192 ∷ 8 ∷ 4 ∷ 67 ∷ 82 ∷ 1 ∷ 160 ∷ 1 ∷ 3 ∷ 67 ∷ []) ∷ []) ∷ ok (given.Delivery 0) ([]) ((0 ∷ 0 ∷ 0 ∷ 20 ∷ 2 ∷ 0 ∷ 0 ∷ 0 ∷ 0 ∷ 83 ∷ 20 ∷ 192 ∷ 7 ∷ 4 ∷ 67 ∷ 67 ∷ 160 ∷ 1 ∷ 2 ∷ 67 ∷ []) ∷ []) ∷ ok (given.Delivery 4294967295) ([]) ((0 ∷ 0 ∷ 0 ∷ 24 ∷ 2 ∷ 0 ∷ 0 ∷ 0 ∷ 0 ∷ 83 ∷ 20 ∷ 192 ∷ 11 ∷ 4 ∷ 67 ∷ 112 ∷ 255 ∷ 255 ∷ 255 ∷ 255 ∷ 160 ∷ 1 ∷ 1 ∷ 67 ∷ []) ∷ []) ∷ ok given.Nothing ([]) ([]) ∷ ok (given.Attached 0) ([]) ([]) ∷ ok (given.Link 0) ([]) ((0 ∷ 0 ∷ 0 ∷ 28 ∷ 2 ∷ 0 ∷ 0 ∷ 0 ∷ 0 ∷ 83 ∷ 18 ∷ 192 ∷ 15 ∷ 10 ∷ 161 ∷ 1 ∷ 113 ∷ 67 ∷ 66 ∷ 80 ∷ 2 ∷ 80 ∷ 0 ∷ 64 ∷ 64 ∷ 64 ∷ 64 ∷ 67 ∷ []) ∷ []) ∷ ok given.Nothing ([]) ([]) ∷ ok given.Nothing ([]) ((0 ∷ 0 ∷ 0 ∷ 30 ∷ 2 ∷ 0 ∷ 0 ∷ 0 ∷ 0 ∷ 83 ∷ 17 ∷ 192 ∷ 17 ∷ 4 ∷ 64 ∷ 112 ∷ 255 ∷ 255 ∷ 255 ∷ 255 ∷ 112 ∷ 0 ∷ 0 ∷ 8 ∷ 0 ∷ 112 ∷ 127 ∷ 255 ∷ 255 ∷ 255 ∷ []) ∷ []) ∷ ok given.Nothing ([]) ([]) ∷ [])
unfolding octets_of frame_refused canon spelled class_of is_utf8 chars encode
ids_wrap = refl

-- a range of ids that goes over from 4294967295 to 0 is settled once, and told once
settled_over_the_wrap : lines_of (record { first_id = 4294967295; window = 2048; journal_limit = 1073741824 })
    (ask (Opened 65536)
    ∷ ask (Own own.Begin)
    ∷ ask (Heard (record { channel = 0; body = (Some (heard.Begin (record { remote_channel = (Some 0); next_outgoing_id = 0; incoming_window = 2048; outgoing_window = 2147483647; handle_max = None; offered_capabilities = None; desired_capabilities = None; properties = None }))); payload = ([]) }))
    ∷ ask (Own (own.Attach (113 ∷ []) Sender 2 0 None None 0 0))
    ∷ ask (Heard (record { channel = 0; body = (Some (heard.Attach (record { name = (113 ∷ []); handle = 0; role = Receiver; snd_settle_mode = None; rcv_settle_mode = None; source = None; target = None; unsettled = None; incomplete_unsettled = None; initial_delivery_count = None; max_message_size = None; offered_capabilities = None; desired_capabilities = None; properties = None }))); payload = ([]) }))
    ∷ ask (Heard (record { channel = 0; body = (Some (heard.Flow (record { next_incoming_id = (Some 4294967295); incoming_window = 2048; next_outgoing_id = 0; outgoing_window = 2147483647; handle = (Some 0); delivery_count = (Some 0); link_credit = (Some 5); available = None; drain = None; echo = None; properties = None }))); payload = ([]) }))
    ∷ ask (Own (own.Start 0 (1 ∷ []) 0 false ([]) false))
    ∷ ask (Own (own.Start 0 (2 ∷ []) 0 false ([]) false))
    ∷ ask (Own (own.Start 0 (3 ∷ []) 0 false ([]) false))
    ∷ ask (Heard (record { channel = 0; body = (Some (heard.Disposition (record { role = Receiver; first = 4294967295; last = (Some 0); settled = (Some true); state = (Some state.Accepted); batchable = None }))); payload = ([]) }))
    ∷ ask (Heard (record { channel = 0; body = (Some (heard.Disposition (record { role = Receiver; first = 4294967295; last = (Some 0); settled = (Some true); state = (Some state.Accepted); batchable = None }))); payload = ([]) }))
    ∷ ask_held Sender
    ∷ ask (Own (own.Learn 0))
    ∷ ask (Own (own.Learn 0))
    ∷ ask (Own (own.Learn 0)) ∷ [])
    ≡ (refused 25 ∷ ok (given.Learned (record { id = 0; link = 0; tag = (2 ∷ []); state = (Some state.Accepted); settled = true })) ([]) ([]) ∷ ok (given.Learned (record { id = 4294967295; link = 0; tag = (1 ∷ []); state = (Some state.Accepted); settled = true })) ([]) ([]) ∷ held (record { id = 1; link = 0; tag = (3 ∷ []); second = false; local = None; remote = None } ∷ []) ∷ ok given.Nothing ([]) ([]) ∷ ok given.Nothing ((Sender, 4294967295) ∷ (Sender, 0) ∷ []) ([]) ∷ ok (given.Delivery 1) ([]) ((0 ∷ 0 ∷ 0 ∷ 21 ∷ 2 ∷ 0 ∷ 0 ∷ 0 ∷ 0 ∷ 83 ∷ 20 ∷ 192 ∷ 8 ∷ 4 ∷ 67 ∷ 82 ∷ 1 ∷ 160 ∷ 1 ∷ 3 ∷ 67 ∷ []) ∷ []) ∷ ok (given.Delivery 0) ([]) ((0 ∷ 0 ∷ 0 ∷ 20 ∷ 2 ∷ 0 ∷ 0 ∷ 0 ∷ 0 ∷ 83 ∷ 20 ∷ 192 ∷ 7 ∷ 4 ∷ 67 ∷ 67 ∷ 160 ∷ 1 ∷ 2 ∷ 67 ∷ []) ∷ []) ∷ ok (given.Delivery 4294967295) ([]) ((0 ∷ 0 ∷ 0 ∷ 24 ∷ 2 ∷ 0 ∷ 0 ∷ 0 ∷ 0 ∷ 83 ∷ 20 ∷ 192 ∷ 11 ∷ 4 ∷ 67 ∷ 112 ∷ 255 ∷ 255 ∷ 255 ∷ 255 ∷ 160 ∷ 1 ∷ 1 ∷ 67 ∷ []) ∷ []) ∷ ok given.Nothing ([]) ([]) ∷ ok (given.Attached 0) ([]) ([]) ∷ ok (given.Link 0) ([]) ((0 ∷ 0 ∷ 0 ∷ 28 ∷ 2 ∷ 0 ∷ 0 ∷ 0 ∷ 0 ∷ 83 ∷ 18 ∷ 192 ∷ 15 ∷ 10 ∷ 161 ∷ 1 ∷ 113 ∷ 67 ∷ 66 ∷ 80 ∷ 2 ∷ 80 ∷ 0 ∷ 64 ∷ 64 ∷ 64 ∷ 64 ∷ 67 ∷ []) ∷ []) ∷ ok given.Nothing ([]) ([]) ∷ ok given.Nothing ([]) ((0 ∷ 0 ∷ 0 ∷ 30 ∷ 2 ∷ 0 ∷ 0 ∷ 0 ∷ 0 ∷ 83 ∷ 17 ∷ 192 ∷ 17 ∷ 4 ∷ 64 ∷ 112 ∷ 255 ∷ 255 ∷ 255 ∷ 255 ∷ 112 ∷ 0 ∷ 0 ∷ 8 ∷ 0 ∷ 112 ∷ 127 ∷ 255 ∷ 255 ∷ 255 ∷ []) ∷ []) ∷ ok given.Nothing ([]) ([]) ∷ [])
unfolding octets_of frame_refused canon spelled class_of is_utf8 chars encode
settled_over_the_wrap = refl

-- the peer gives up a delivery: it is ended, and nothing can be taken
peer_gives_up : lines_of (record { first_id = 0; window = 2048; journal_limit = 1073741824 })
    (ask (Opened 65536)
    ∷ ask (Own own.Begin)
    ∷ ask (Heard (record { channel = 0; body = (Some (heard.Begin (record { remote_channel = (Some 0); next_outgoing_id = 0; incoming_window = 2048; outgoing_window = 2147483647; handle_max = None; offered_capabilities = None; desired_capabilities = None; properties = None }))); payload = ([]) }))
    ∷ ask (Own (own.Attach (113 ∷ []) Receiver 2 0 None None 0 0))
    ∷ ask (Heard (record { channel = 0; body = (Some (heard.Attach (record { name = (113 ∷ []); handle = 0; role = Sender; snd_settle_mode = (Some 2); rcv_settle_mode = (Some 0); source = None; target = None; unsettled = None; incomplete_unsettled = None; initial_delivery_count = (Some 0); max_message_size = None; offered_capabilities = None; desired_capabilities = None; properties = None }))); payload = ([]) }))
    ∷ ask (Own (own.Grant 0 2 false false))
    ∷ ask (Heard (record { channel = 0; body = (Some (heard.Transfer (record { handle = 0; delivery_id = (Some 0); delivery_tag = (Some (1 ∷ [])); message_format = (Some 0); settled = None; more = (Some true); rcv_settle_mode = None; state = None; resume = None; aborted = None; batchable = None }))); payload = (120 ∷ []) }))
    ∷ ask_link 0
    ∷ ask (Heard (record { channel = 0; body = (Some (heard.Transfer (record { handle = 0; delivery_id = None; delivery_tag = None; message_format = None; settled = None; more = (Some true); rcv_settle_mode = None; state = None; resume = None; aborted = None; batchable = None }))); payload = ([]) }))
    ∷ ask (Heard (record { channel = 0; body = (Some (heard.Transfer (record { handle = 0; delivery_id = None; delivery_tag = None; message_format = None; settled = None; more = (Some true); rcv_settle_mode = None; state = None; resume = None; aborted = (Some true); batchable = None }))); payload = ([]) }))
    ∷ ask_link 0
    ∷ ask (Own (own.Take 0)) ∷ [])
    ≡ (refused 25 ∷ link (Some (record { role = Receiver; phase = phase.Attached; count = 1; credit = 1; drain = false; mid = false; ready = 0 })) ∷ ok given.Nothing ((Receiver, 0) ∷ []) ([]) ∷ ok given.Nothing ([]) ([]) ∷ link (Some (record { role = Receiver; phase = phase.Attached; count = 1; credit = 1; drain = false; mid = true; ready = 0 })) ∷ ok given.Nothing ([]) ([]) ∷ ok given.Nothing ([]) ((0 ∷ 0 ∷ 0 ∷ 30 ∷ 2 ∷ 0 ∷ 0 ∷ 0 ∷ 0 ∷ 83 ∷ 19 ∷ 192 ∷ 17 ∷ 7 ∷ 67 ∷ 112 ∷ 0 ∷ 0 ∷ 8 ∷ 0 ∷ 67 ∷ 112 ∷ 127 ∷ 255 ∷ 255 ∷ 255 ∷ 67 ∷ 67 ∷ 82 ∷ 2 ∷ []) ∷ []) ∷ ok (given.Attached 0) ([]) ([]) ∷ ok (given.Link 0) ([]) ((0 ∷ 0 ∷ 0 ∷ 23 ∷ 2 ∷ 0 ∷ 0 ∷ 0 ∷ 0 ∷ 83 ∷ 18 ∷ 192 ∷ 10 ∷ 5 ∷ 161 ∷ 1 ∷ 113 ∷ 67 ∷ 65 ∷ 80 ∷ 2 ∷ 80 ∷ 0 ∷ []) ∷ []) ∷ ok given.Nothing ([]) ([]) ∷ ok given.Nothing ([]) ((0 ∷ 0 ∷ 0 ∷ 26 ∷ 2 ∷ 0 ∷ 0 ∷ 0 ∷ 0 ∷ 83 ∷ 17 ∷ 192 ∷ 13 ∷ 4 ∷ 64 ∷ 67 ∷ 112 ∷ 0 ∷ 0 ∷ 8 ∷ 0 ∷ 112 ∷ 127 ∷ 255 ∷ 255 ∷ 255 ∷ []) ∷ []) ∷ ok given.Nothing ([]) ([]) ∷ [])
unfolding octets_of frame_refused canon spelled class_of is_utf8 chars encode
peer_gives_up = refl

-- a receiver that settles second tells a state and waits for its sender
receiver_second : lines_of (record { first_id = 0; window = 2048; journal_limit = 1073741824 })
    (ask (Opened 65536)
    ∷ ask (Own own.Begin)
    ∷ ask (Heard (record { channel = 0; body = (Some (heard.Begin (record { remote_channel = (Some 0); next_outgoing_id = 0; incoming_window = 2048; outgoing_window = 2147483647; handle_max = None; offered_capabilities = None; desired_capabilities = None; properties = None }))); payload = ([]) }))
    ∷ ask (Own (own.Attach (113 ∷ []) Receiver 2 1 None None 0 0))
    ∷ ask (Heard (record { channel = 0; body = (Some (heard.Attach (record { name = (113 ∷ []); handle = 0; role = Sender; snd_settle_mode = (Some 2); rcv_settle_mode = (Some 0); source = None; target = None; unsettled = None; incomplete_unsettled = None; initial_delivery_count = (Some 0); max_message_size = None; offered_capabilities = None; desired_capabilities = None; properties = None }))); payload = ([]) }))
    ∷ ask (Own (own.Grant 0 2 false false))
    ∷ ask (Heard (record { channel = 0; body = (Some (heard.Transfer (record { handle = 0; delivery_id = (Some 0); delivery_tag = (Some (1 ∷ [])); message_format = (Some 0); settled = None; more = None; rcv_settle_mode = None; state = None; resume = None; aborted = None; batchable = None }))); payload = (0 ∷ 83 ∷ 117 ∷ 160 ∷ 2 ∷ 104 ∷ 105 ∷ []) }))
    ∷ ask (Own (own.Dispose Receiver 0 0 true (Some state.Accepted)))
    ∷ ask (Own (own.Dispose Receiver 0 0 false (Some state.Accepted)))
    ∷ ask_held Receiver
    ∷ ask (Heard (record { channel = 0; body = (Some (heard.Disposition (record { role = Sender; first = 0; last = None; settled = (Some true); state = None; batchable = None }))); payload = ([]) }))
    ∷ ask_held Receiver
    ∷ ask (Own (own.Take 0)) ∷ [])
    ≡ (ok (given.Taken (record { id = 0; link = 0; tag = (1 ∷ []); format = 0; payload = (0 ∷ 83 ∷ 117 ∷ 160 ∷ 2 ∷ 104 ∷ 105 ∷ []); settled = false; second = true })) ([]) ([]) ∷ held ([]) ∷ ok given.Nothing ((Receiver, 0) ∷ []) ([]) ∷ held (record { id = 0; link = 0; tag = (1 ∷ []); second = true; local = (Some state.Accepted); remote = None } ∷ []) ∷ ok given.Nothing ([]) ((0 ∷ 0 ∷ 0 ∷ 22 ∷ 2 ∷ 0 ∷ 0 ∷ 0 ∷ 0 ∷ 83 ∷ 21 ∷ 192 ∷ 9 ∷ 5 ∷ 65 ∷ 67 ∷ 67 ∷ 64 ∷ 0 ∷ 83 ∷ 36 ∷ 69 ∷ []) ∷ []) ∷ refused 23 ∷ ok (given.Ready 0 0) ([]) ([]) ∷ ok given.Nothing ([]) ((0 ∷ 0 ∷ 0 ∷ 30 ∷ 2 ∷ 0 ∷ 0 ∷ 0 ∷ 0 ∷ 83 ∷ 19 ∷ 192 ∷ 17 ∷ 7 ∷ 67 ∷ 112 ∷ 0 ∷ 0 ∷ 8 ∷ 0 ∷ 67 ∷ 112 ∷ 127 ∷ 255 ∷ 255 ∷ 255 ∷ 67 ∷ 67 ∷ 82 ∷ 2 ∷ []) ∷ []) ∷ ok (given.Attached 0) ([]) ([]) ∷ ok (given.Link 0) ([]) ((0 ∷ 0 ∷ 0 ∷ 23 ∷ 2 ∷ 0 ∷ 0 ∷ 0 ∷ 0 ∷ 83 ∷ 18 ∷ 192 ∷ 10 ∷ 5 ∷ 161 ∷ 1 ∷ 113 ∷ 67 ∷ 65 ∷ 80 ∷ 2 ∷ 80 ∷ 1 ∷ []) ∷ []) ∷ ok given.Nothing ([]) ([]) ∷ ok given.Nothing ([]) ((0 ∷ 0 ∷ 0 ∷ 26 ∷ 2 ∷ 0 ∷ 0 ∷ 0 ∷ 0 ∷ 83 ∷ 17 ∷ 192 ∷ 13 ∷ 4 ∷ 64 ∷ 67 ∷ 112 ∷ 0 ∷ 0 ∷ 8 ∷ 0 ∷ 112 ∷ 127 ∷ 255 ∷ 255 ∷ 255 ∷ []) ∷ []) ∷ ok given.Nothing ([]) ([]) ∷ [])
unfolding octets_of frame_refused canon spelled class_of is_utf8 chars encode
receiver_second = refl

-- a transfer on a link that we have left uses the window alone
transfer_on_a_left_link : lines_of (record { first_id = 0; window = 2048; journal_limit = 1073741824 })
    (ask (Opened 65536)
    ∷ ask (Own own.Begin)
    ∷ ask (Heard (record { channel = 0; body = (Some (heard.Begin (record { remote_channel = (Some 0); next_outgoing_id = 0; incoming_window = 2048; outgoing_window = 2147483647; handle_max = None; offered_capabilities = None; desired_capabilities = None; properties = None }))); payload = ([]) }))
    ∷ ask (Own (own.Attach (113 ∷ []) Receiver 2 0 None None 0 0))
    ∷ ask (Heard (record { channel = 0; body = (Some (heard.Attach (record { name = (113 ∷ []); handle = 0; role = Sender; snd_settle_mode = (Some 2); rcv_settle_mode = (Some 0); source = None; target = None; unsettled = None; incomplete_unsettled = None; initial_delivery_count = (Some 0); max_message_size = None; offered_capabilities = None; desired_capabilities = None; properties = None }))); payload = ([]) }))
    ∷ ask (Own (own.Grant 0 2 false false))
    ∷ ask (Own (own.Detach 0 None))
    ∷ ask (Heard (record { channel = 0; body = (Some (heard.Transfer (record { handle = 0; delivery_id = (Some 0); delivery_tag = (Some (1 ∷ [])); message_format = (Some 0); settled = None; more = None; rcv_settle_mode = None; state = None; resume = None; aborted = None; batchable = None }))); payload = (0 ∷ 83 ∷ 117 ∷ 160 ∷ 2 ∷ 104 ∷ 105 ∷ []) }))
    ∷ ask_windows
    ∷ ask (Heard (record { channel = 0; body = (Some (heard.Detach (record { handle = 0; closed = (Some true); error = None }))); payload = ([]) })) ∷ [])
    ≡ (ok (given.Gone 0) ([]) ([]) ∷ windows (record { next_in = (Some 1); incoming = 2047; next_out = 0; remote_in = 2048; remote_out = 2147483646; next_delivery = 0 }) ∷ ok given.Nothing ([]) ([]) ∷ ok given.Nothing ([]) ((0 ∷ 0 ∷ 0 ∷ 16 ∷ 2 ∷ 0 ∷ 0 ∷ 0 ∷ 0 ∷ 83 ∷ 22 ∷ 192 ∷ 3 ∷ 2 ∷ 67 ∷ 65 ∷ []) ∷ []) ∷ ok given.Nothing ([]) ((0 ∷ 0 ∷ 0 ∷ 30 ∷ 2 ∷ 0 ∷ 0 ∷ 0 ∷ 0 ∷ 83 ∷ 19 ∷ 192 ∷ 17 ∷ 7 ∷ 67 ∷ 112 ∷ 0 ∷ 0 ∷ 8 ∷ 0 ∷ 67 ∷ 112 ∷ 127 ∷ 255 ∷ 255 ∷ 255 ∷ 67 ∷ 67 ∷ 82 ∷ 2 ∷ []) ∷ []) ∷ ok (given.Attached 0) ([]) ([]) ∷ ok (given.Link 0) ([]) ((0 ∷ 0 ∷ 0 ∷ 23 ∷ 2 ∷ 0 ∷ 0 ∷ 0 ∷ 0 ∷ 83 ∷ 18 ∷ 192 ∷ 10 ∷ 5 ∷ 161 ∷ 1 ∷ 113 ∷ 67 ∷ 65 ∷ 80 ∷ 2 ∷ 80 ∷ 0 ∷ []) ∷ []) ∷ ok given.Nothing ([]) ([]) ∷ ok given.Nothing ([]) ((0 ∷ 0 ∷ 0 ∷ 26 ∷ 2 ∷ 0 ∷ 0 ∷ 0 ∷ 0 ∷ 83 ∷ 17 ∷ 192 ∷ 13 ∷ 4 ∷ 64 ∷ 67 ∷ 112 ∷ 0 ∷ 0 ∷ 8 ∷ 0 ∷ 112 ∷ 127 ∷ 255 ∷ 255 ∷ 255 ∷ []) ∷ []) ∷ ok given.Nothing ([]) ([]) ∷ [])
unfolding octets_of frame_refused canon spelled class_of is_utf8 chars encode
transfer_on_a_left_link = refl

-- a delivery of two transfers
two_transfers : lines_of (record { first_id = 0; window = 2048; journal_limit = 1073741824 })
    (ask (Opened 65536)
    ∷ ask (Own own.Begin)
    ∷ ask (Heard (record { channel = 0; body = (Some (heard.Begin (record { remote_channel = (Some 0); next_outgoing_id = 0; incoming_window = 2048; outgoing_window = 2147483647; handle_max = None; offered_capabilities = None; desired_capabilities = None; properties = None }))); payload = ([]) }))
    ∷ ask (Own (own.Attach (113 ∷ []) Sender 2 0 None None 0 0))
    ∷ ask (Heard (record { channel = 0; body = (Some (heard.Attach (record { name = (113 ∷ []); handle = 0; role = Receiver; snd_settle_mode = None; rcv_settle_mode = None; source = None; target = None; unsettled = None; incomplete_unsettled = None; initial_delivery_count = None; max_message_size = None; offered_capabilities = None; desired_capabilities = None; properties = None }))); payload = ([]) }))
    ∷ ask (Heard (record { channel = 0; body = (Some (heard.Flow (record { next_incoming_id = (Some 0); incoming_window = 2048; next_outgoing_id = 0; outgoing_window = 2147483647; handle = (Some 0); delivery_count = (Some 0); link_credit = (Some 5); available = None; drain = None; echo = None; properties = None }))); payload = ([]) }))
    ∷ ask (Own (own.Start 0 (1 ∷ []) 0 false (120 ∷ []) true))
    ∷ ask_link 0
    ∷ ask (Own (own.Carry 0 (120 ∷ []) false))
    ∷ ask_link 0 ∷ [])
    ≡ (link (Some (record { role = Sender; phase = phase.Attached; count = 1; credit = 4; drain = false; mid = false; ready = 0 })) ∷ ok given.Nothing ([]) ((0 ∷ 0 ∷ 0 ∷ 16 ∷ 2 ∷ 0 ∷ 0 ∷ 0 ∷ 0 ∷ 83 ∷ 20 ∷ 192 ∷ 2 ∷ 1 ∷ 67 ∷ 120 ∷ []) ∷ []) ∷ link (Some (record { role = Sender; phase = phase.Attached; count = 1; credit = 4; drain = false; mid = true; ready = 0 })) ∷ ok (given.Delivery 0) ([]) ((0 ∷ 0 ∷ 0 ∷ 23 ∷ 2 ∷ 0 ∷ 0 ∷ 0 ∷ 0 ∷ 83 ∷ 20 ∷ 192 ∷ 9 ∷ 6 ∷ 67 ∷ 67 ∷ 160 ∷ 1 ∷ 1 ∷ 67 ∷ 64 ∷ 65 ∷ 120 ∷ []) ∷ []) ∷ ok given.Nothing ([]) ([]) ∷ ok (given.Attached 0) ([]) ([]) ∷ ok (given.Link 0) ([]) ((0 ∷ 0 ∷ 0 ∷ 28 ∷ 2 ∷ 0 ∷ 0 ∷ 0 ∷ 0 ∷ 83 ∷ 18 ∷ 192 ∷ 15 ∷ 10 ∷ 161 ∷ 1 ∷ 113 ∷ 67 ∷ 66 ∷ 80 ∷ 2 ∷ 80 ∷ 0 ∷ 64 ∷ 64 ∷ 64 ∷ 64 ∷ 67 ∷ []) ∷ []) ∷ ok given.Nothing ([]) ([]) ∷ ok given.Nothing ([]) ((0 ∷ 0 ∷ 0 ∷ 26 ∷ 2 ∷ 0 ∷ 0 ∷ 0 ∷ 0 ∷ 83 ∷ 17 ∷ 192 ∷ 13 ∷ 4 ∷ 64 ∷ 67 ∷ 112 ∷ 0 ∷ 0 ∷ 8 ∷ 0 ∷ 112 ∷ 127 ∷ 255 ∷ 255 ∷ 255 ∷ []) ∷ []) ∷ ok given.Nothing ([]) ([]) ∷ [])
unfolding octets_of frame_refused canon spelled class_of is_utf8 chars encode
two_transfers = refl

-- we give up a delivery: it is ended
we_give_up : lines_of (record { first_id = 0; window = 2048; journal_limit = 1073741824 })
    (ask (Opened 65536)
    ∷ ask (Own own.Begin)
    ∷ ask (Heard (record { channel = 0; body = (Some (heard.Begin (record { remote_channel = (Some 0); next_outgoing_id = 0; incoming_window = 2048; outgoing_window = 2147483647; handle_max = None; offered_capabilities = None; desired_capabilities = None; properties = None }))); payload = ([]) }))
    ∷ ask (Own (own.Attach (113 ∷ []) Sender 2 0 None None 0 0))
    ∷ ask (Heard (record { channel = 0; body = (Some (heard.Attach (record { name = (113 ∷ []); handle = 0; role = Receiver; snd_settle_mode = None; rcv_settle_mode = None; source = None; target = None; unsettled = None; incomplete_unsettled = None; initial_delivery_count = None; max_message_size = None; offered_capabilities = None; desired_capabilities = None; properties = None }))); payload = ([]) }))
    ∷ ask (Heard (record { channel = 0; body = (Some (heard.Flow (record { next_incoming_id = (Some 0); incoming_window = 2048; next_outgoing_id = 0; outgoing_window = 2147483647; handle = (Some 0); delivery_count = (Some 0); link_credit = (Some 5); available = None; drain = None; echo = None; properties = None }))); payload = ([]) }))
    ∷ ask (Own (own.Start 0 (1 ∷ []) 0 false (120 ∷ []) true))
    ∷ ask (Own (own.Abort 0))
    ∷ ask_held Sender ∷ [])
    ≡ (held ([]) ∷ ok given.Nothing ((Sender, 0) ∷ []) ((0 ∷ 0 ∷ 0 ∷ 24 ∷ 2 ∷ 0 ∷ 0 ∷ 0 ∷ 0 ∷ 83 ∷ 20 ∷ 192 ∷ 11 ∷ 10 ∷ 67 ∷ 64 ∷ 64 ∷ 64 ∷ 64 ∷ 64 ∷ 64 ∷ 64 ∷ 64 ∷ 65 ∷ []) ∷ []) ∷ ok (given.Delivery 0) ([]) ((0 ∷ 0 ∷ 0 ∷ 23 ∷ 2 ∷ 0 ∷ 0 ∷ 0 ∷ 0 ∷ 83 ∷ 20 ∷ 192 ∷ 9 ∷ 6 ∷ 67 ∷ 67 ∷ 160 ∷ 1 ∷ 1 ∷ 67 ∷ 64 ∷ 65 ∷ 120 ∷ []) ∷ []) ∷ ok given.Nothing ([]) ([]) ∷ ok (given.Attached 0) ([]) ([]) ∷ ok (given.Link 0) ([]) ((0 ∷ 0 ∷ 0 ∷ 28 ∷ 2 ∷ 0 ∷ 0 ∷ 0 ∷ 0 ∷ 83 ∷ 18 ∷ 192 ∷ 15 ∷ 10 ∷ 161 ∷ 1 ∷ 113 ∷ 67 ∷ 66 ∷ 80 ∷ 2 ∷ 80 ∷ 0 ∷ 64 ∷ 64 ∷ 64 ∷ 64 ∷ 67 ∷ []) ∷ []) ∷ ok given.Nothing ([]) ([]) ∷ ok given.Nothing ([]) ((0 ∷ 0 ∷ 0 ∷ 26 ∷ 2 ∷ 0 ∷ 0 ∷ 0 ∷ 0 ∷ 83 ∷ 17 ∷ 192 ∷ 13 ∷ 4 ∷ 64 ∷ 67 ∷ 112 ∷ 0 ∷ 0 ∷ 8 ∷ 0 ∷ 112 ∷ 127 ∷ 255 ∷ 255 ∷ 255 ∷ []) ∷ []) ∷ ok given.Nothing ([]) ([]) ∷ [])
unfolding octets_of frame_refused canon spelled class_of is_utf8 chars encode
we_give_up = refl

-- a message that is longer than the peer takes
longer_than_the_peer_takes : lines_of (record { first_id = 0; window = 2048; journal_limit = 1073741824 })
    (ask (Opened 65536)
    ∷ ask (Own own.Begin)
    ∷ ask (Heard (record { channel = 0; body = (Some (heard.Begin (record { remote_channel = (Some 0); next_outgoing_id = 0; incoming_window = 2048; outgoing_window = 2147483647; handle_max = None; offered_capabilities = None; desired_capabilities = None; properties = None }))); payload = ([]) }))
    ∷ ask (Own (own.Attach (113 ∷ []) Sender 2 0 None None 0 0))
    ∷ ask (Heard (record { channel = 0; body = (Some (heard.Attach (record { name = (113 ∷ []); handle = 0; role = Receiver; snd_settle_mode = None; rcv_settle_mode = None; source = None; target = None; unsettled = None; incomplete_unsettled = None; initial_delivery_count = None; max_message_size = (Some 1); offered_capabilities = None; desired_capabilities = None; properties = None }))); payload = ([]) }))
    ∷ ask (Heard (record { channel = 0; body = (Some (heard.Flow (record { next_incoming_id = (Some 0); incoming_window = 2048; next_outgoing_id = 0; outgoing_window = 2147483647; handle = (Some 0); delivery_count = (Some 0); link_credit = (Some 5); available = None; drain = None; echo = None; properties = None }))); payload = ([]) }))
    ∷ ask (Own (own.Start 0 (1 ∷ []) 0 false (120 ∷ 121 ∷ []) false)) ∷ [])
    ≡ (refused 16 ∷ ok given.Nothing ([]) ([]) ∷ ok (given.Attached 0) ([]) ([]) ∷ ok (given.Link 0) ([]) ((0 ∷ 0 ∷ 0 ∷ 28 ∷ 2 ∷ 0 ∷ 0 ∷ 0 ∷ 0 ∷ 83 ∷ 18 ∷ 192 ∷ 15 ∷ 10 ∷ 161 ∷ 1 ∷ 113 ∷ 67 ∷ 66 ∷ 80 ∷ 2 ∷ 80 ∷ 0 ∷ 64 ∷ 64 ∷ 64 ∷ 64 ∷ 67 ∷ []) ∷ []) ∷ ok given.Nothing ([]) ([]) ∷ ok given.Nothing ([]) ((0 ∷ 0 ∷ 0 ∷ 26 ∷ 2 ∷ 0 ∷ 0 ∷ 0 ∷ 0 ∷ 83 ∷ 17 ∷ 192 ∷ 13 ∷ 4 ∷ 64 ∷ 67 ∷ 112 ∷ 0 ∷ 0 ∷ 8 ∷ 0 ∷ 112 ∷ 127 ∷ 255 ∷ 255 ∷ 255 ∷ []) ∷ []) ∷ ok given.Nothing ([]) ([]) ∷ [])
unfolding octets_of frame_refused canon spelled class_of is_utf8 chars encode
longer_than_the_peer_takes = refl

-- a message of the peer that is longer than we take
longer_than_we_take : lines_of (record { first_id = 0; window = 2048; journal_limit = 1073741824 })
    (ask (Opened 65536)
    ∷ ask (Own own.Begin)
    ∷ ask (Heard (record { channel = 0; body = (Some (heard.Begin (record { remote_channel = (Some 0); next_outgoing_id = 0; incoming_window = 2048; outgoing_window = 2147483647; handle_max = None; offered_capabilities = None; desired_capabilities = None; properties = None }))); payload = ([]) }))
    ∷ ask (Own (own.Attach (113 ∷ []) Receiver 2 0 None None 0 1))
    ∷ ask (Heard (record { channel = 0; body = (Some (heard.Attach (record { name = (113 ∷ []); handle = 0; role = Sender; snd_settle_mode = (Some 2); rcv_settle_mode = (Some 0); source = None; target = None; unsettled = None; incomplete_unsettled = None; initial_delivery_count = (Some 0); max_message_size = None; offered_capabilities = None; desired_capabilities = None; properties = None }))); payload = ([]) }))
    ∷ ask (Own (own.Grant 0 2 false false))
    ∷ ask (Heard (record { channel = 0; body = (Some (heard.Transfer (record { handle = 0; delivery_id = (Some 0); delivery_tag = (Some (1 ∷ [])); message_format = (Some 0); settled = None; more = None; rcv_settle_mode = None; state = None; resume = None; aborted = None; batchable = None }))); payload = (0 ∷ 83 ∷ 117 ∷ 160 ∷ 2 ∷ 104 ∷ 105 ∷ []) })) ∷ [])
    ≡ (violated 13 ∷ ok given.Nothing ([]) ((0 ∷ 0 ∷ 0 ∷ 30 ∷ 2 ∷ 0 ∷ 0 ∷ 0 ∷ 0 ∷ 83 ∷ 19 ∷ 192 ∷ 17 ∷ 7 ∷ 67 ∷ 112 ∷ 0 ∷ 0 ∷ 8 ∷ 0 ∷ 67 ∷ 112 ∷ 127 ∷ 255 ∷ 255 ∷ 255 ∷ 67 ∷ 67 ∷ 82 ∷ 2 ∷ []) ∷ []) ∷ ok (given.Attached 0) ([]) ([]) ∷ ok (given.Link 0) ([]) ((0 ∷ 0 ∷ 0 ∷ 30 ∷ 2 ∷ 0 ∷ 0 ∷ 0 ∷ 0 ∷ 83 ∷ 18 ∷ 192 ∷ 17 ∷ 11 ∷ 161 ∷ 1 ∷ 113 ∷ 67 ∷ 65 ∷ 80 ∷ 2 ∷ 80 ∷ 0 ∷ 64 ∷ 64 ∷ 64 ∷ 64 ∷ 64 ∷ 83 ∷ 1 ∷ []) ∷ []) ∷ ok given.Nothing ([]) ([]) ∷ ok given.Nothing ([]) ((0 ∷ 0 ∷ 0 ∷ 26 ∷ 2 ∷ 0 ∷ 0 ∷ 0 ∷ 0 ∷ 83 ∷ 17 ∷ 192 ∷ 13 ∷ 4 ∷ 64 ∷ 67 ∷ 112 ∷ 0 ∷ 0 ∷ 8 ∷ 0 ∷ 112 ∷ 127 ∷ 255 ∷ 255 ∷ 255 ∷ []) ∷ []) ∷ ok given.Nothing ([]) ([]) ∷ [])
unfolding octets_of frame_refused canon spelled class_of is_utf8 chars encode
longer_than_we_take = refl

-- a delivery-id of the peer out of order
id_used_again : lines_of (record { first_id = 0; window = 2048; journal_limit = 1073741824 })
    (ask (Opened 65536)
    ∷ ask (Own own.Begin)
    ∷ ask (Heard (record { channel = 0; body = (Some (heard.Begin (record { remote_channel = (Some 0); next_outgoing_id = 0; incoming_window = 2048; outgoing_window = 2147483647; handle_max = None; offered_capabilities = None; desired_capabilities = None; properties = None }))); payload = ([]) }))
    ∷ ask (Own (own.Attach (113 ∷ []) Receiver 2 0 None None 0 0))
    ∷ ask (Heard (record { channel = 0; body = (Some (heard.Attach (record { name = (113 ∷ []); handle = 0; role = Sender; snd_settle_mode = (Some 2); rcv_settle_mode = (Some 0); source = None; target = None; unsettled = None; incomplete_unsettled = None; initial_delivery_count = (Some 0); max_message_size = None; offered_capabilities = None; desired_capabilities = None; properties = None }))); payload = ([]) }))
    ∷ ask (Own (own.Grant 0 2 false false))
    ∷ ask (Heard (record { channel = 0; body = (Some (heard.Transfer (record { handle = 0; delivery_id = (Some 0); delivery_tag = (Some (1 ∷ [])); message_format = (Some 0); settled = None; more = None; rcv_settle_mode = None; state = None; resume = None; aborted = None; batchable = None }))); payload = (0 ∷ 83 ∷ 117 ∷ 160 ∷ 2 ∷ 104 ∷ 105 ∷ []) }))
    ∷ ask (Heard (record { channel = 0; body = (Some (heard.Transfer (record { handle = 0; delivery_id = (Some 0); delivery_tag = (Some (1 ∷ [])); message_format = (Some 0); settled = None; more = None; rcv_settle_mode = None; state = None; resume = None; aborted = None; batchable = None }))); payload = (0 ∷ 83 ∷ 117 ∷ 160 ∷ 2 ∷ 104 ∷ 105 ∷ []) })) ∷ [])
    ≡ (violated 9 ∷ ok (given.Ready 0 0) ([]) ([]) ∷ ok given.Nothing ([]) ((0 ∷ 0 ∷ 0 ∷ 30 ∷ 2 ∷ 0 ∷ 0 ∷ 0 ∷ 0 ∷ 83 ∷ 19 ∷ 192 ∷ 17 ∷ 7 ∷ 67 ∷ 112 ∷ 0 ∷ 0 ∷ 8 ∷ 0 ∷ 67 ∷ 112 ∷ 127 ∷ 255 ∷ 255 ∷ 255 ∷ 67 ∷ 67 ∷ 82 ∷ 2 ∷ []) ∷ []) ∷ ok (given.Attached 0) ([]) ([]) ∷ ok (given.Link 0) ([]) ((0 ∷ 0 ∷ 0 ∷ 23 ∷ 2 ∷ 0 ∷ 0 ∷ 0 ∷ 0 ∷ 83 ∷ 18 ∷ 192 ∷ 10 ∷ 5 ∷ 161 ∷ 1 ∷ 113 ∷ 67 ∷ 65 ∷ 80 ∷ 2 ∷ 80 ∷ 0 ∷ []) ∷ []) ∷ ok given.Nothing ([]) ([]) ∷ ok given.Nothing ([]) ((0 ∷ 0 ∷ 0 ∷ 26 ∷ 2 ∷ 0 ∷ 0 ∷ 0 ∷ 0 ∷ 83 ∷ 17 ∷ 192 ∷ 13 ∷ 4 ∷ 64 ∷ 67 ∷ 112 ∷ 0 ∷ 0 ∷ 8 ∷ 0 ∷ 112 ∷ 127 ∷ 255 ∷ 255 ∷ 255 ∷ []) ∷ []) ∷ ok given.Nothing ([]) ([]) ∷ [])
unfolding octets_of frame_refused canon spelled class_of is_utf8 chars encode
id_used_again = refl

-- an outcome stays; a range that holds nothing, or runs backwards
outcome_stays : lines_of (record { first_id = 0; window = 2048; journal_limit = 1073741824 })
    (ask (Opened 65536)
    ∷ ask (Own own.Begin)
    ∷ ask (Heard (record { channel = 0; body = (Some (heard.Begin (record { remote_channel = (Some 0); next_outgoing_id = 0; incoming_window = 2048; outgoing_window = 2147483647; handle_max = None; offered_capabilities = None; desired_capabilities = None; properties = None }))); payload = ([]) }))
    ∷ ask (Own (own.Attach (113 ∷ []) Receiver 2 0 None None 0 0))
    ∷ ask (Heard (record { channel = 0; body = (Some (heard.Attach (record { name = (113 ∷ []); handle = 0; role = Sender; snd_settle_mode = (Some 2); rcv_settle_mode = (Some 0); source = None; target = None; unsettled = None; incomplete_unsettled = None; initial_delivery_count = (Some 0); max_message_size = None; offered_capabilities = None; desired_capabilities = None; properties = None }))); payload = ([]) }))
    ∷ ask (Own (own.Grant 0 2 false false))
    ∷ ask (Heard (record { channel = 0; body = (Some (heard.Transfer (record { handle = 0; delivery_id = (Some 0); delivery_tag = (Some (1 ∷ [])); message_format = (Some 0); settled = None; more = None; rcv_settle_mode = None; state = None; resume = None; aborted = None; batchable = None }))); payload = (0 ∷ 83 ∷ 117 ∷ 160 ∷ 2 ∷ 104 ∷ 105 ∷ []) }))
    ∷ ask (Own (own.Dispose Receiver 0 0 false (Some state.Accepted)))
    ∷ ask (Own (own.Dispose Receiver 0 0 false (Some state.Released)))
    ∷ ask (Own (own.Dispose Receiver 5 5 false None))
    ∷ ask (Own (own.Dispose Receiver 0 2147483648 false None)) ∷ [])
    ≡ (refused 21 ∷ refused 22 ∷ refused 24 ∷ ok given.Nothing ([]) ((0 ∷ 0 ∷ 0 ∷ 22 ∷ 2 ∷ 0 ∷ 0 ∷ 0 ∷ 0 ∷ 83 ∷ 21 ∷ 192 ∷ 9 ∷ 5 ∷ 65 ∷ 67 ∷ 67 ∷ 64 ∷ 0 ∷ 83 ∷ 36 ∷ 69 ∷ []) ∷ []) ∷ ok (given.Ready 0 0) ([]) ([]) ∷ ok given.Nothing ([]) ((0 ∷ 0 ∷ 0 ∷ 30 ∷ 2 ∷ 0 ∷ 0 ∷ 0 ∷ 0 ∷ 83 ∷ 19 ∷ 192 ∷ 17 ∷ 7 ∷ 67 ∷ 112 ∷ 0 ∷ 0 ∷ 8 ∷ 0 ∷ 67 ∷ 112 ∷ 127 ∷ 255 ∷ 255 ∷ 255 ∷ 67 ∷ 67 ∷ 82 ∷ 2 ∷ []) ∷ []) ∷ ok (given.Attached 0) ([]) ([]) ∷ ok (given.Link 0) ([]) ((0 ∷ 0 ∷ 0 ∷ 23 ∷ 2 ∷ 0 ∷ 0 ∷ 0 ∷ 0 ∷ 83 ∷ 18 ∷ 192 ∷ 10 ∷ 5 ∷ 161 ∷ 1 ∷ 113 ∷ 67 ∷ 65 ∷ 80 ∷ 2 ∷ 80 ∷ 0 ∷ []) ∷ []) ∷ ok given.Nothing ([]) ([]) ∷ ok given.Nothing ([]) ((0 ∷ 0 ∷ 0 ∷ 26 ∷ 2 ∷ 0 ∷ 0 ∷ 0 ∷ 0 ∷ 83 ∷ 17 ∷ 192 ∷ 13 ∷ 4 ∷ 64 ∷ 67 ∷ 112 ∷ 0 ∷ 0 ∷ 8 ∷ 0 ∷ 112 ∷ 127 ∷ 255 ∷ 255 ∷ 255 ∷ []) ∷ []) ∷ ok given.Nothing ([]) ([]) ∷ [])
unfolding octets_of frame_refused canon spelled class_of is_utf8 chars encode
outcome_stays = refl

-- what was told of a delivery is told once
told_once : lines_of (record { first_id = 0; window = 2048; journal_limit = 1073741824 })
    (ask (Opened 65536)
    ∷ ask (Own own.Begin)
    ∷ ask (Heard (record { channel = 0; body = (Some (heard.Begin (record { remote_channel = (Some 0); next_outgoing_id = 0; incoming_window = 2048; outgoing_window = 2147483647; handle_max = None; offered_capabilities = None; desired_capabilities = None; properties = None }))); payload = ([]) }))
    ∷ ask (Own (own.Attach (113 ∷ []) Sender 2 0 None None 0 0))
    ∷ ask (Heard (record { channel = 0; body = (Some (heard.Attach (record { name = (113 ∷ []); handle = 0; role = Receiver; snd_settle_mode = None; rcv_settle_mode = None; source = None; target = None; unsettled = None; incomplete_unsettled = None; initial_delivery_count = None; max_message_size = None; offered_capabilities = None; desired_capabilities = None; properties = None }))); payload = ([]) }))
    ∷ ask (Heard (record { channel = 0; body = (Some (heard.Flow (record { next_incoming_id = (Some 0); incoming_window = 2048; next_outgoing_id = 0; outgoing_window = 2147483647; handle = (Some 0); delivery_count = (Some 0); link_credit = (Some 5); available = None; drain = None; echo = None; properties = None }))); payload = ([]) }))
    ∷ ask (Own (own.Start 0 (1 ∷ []) 0 false (120 ∷ []) false))
    ∷ ask (Own (own.Learn 0))
    ∷ ask (Own (own.Learn 0)) ∷ [])
    ≡ (refused 25 ∷ refused 25 ∷ ok (given.Delivery 0) ([]) ((0 ∷ 0 ∷ 0 ∷ 21 ∷ 2 ∷ 0 ∷ 0 ∷ 0 ∷ 0 ∷ 83 ∷ 20 ∷ 192 ∷ 7 ∷ 4 ∷ 67 ∷ 67 ∷ 160 ∷ 1 ∷ 1 ∷ 67 ∷ 120 ∷ []) ∷ []) ∷ ok given.Nothing ([]) ([]) ∷ ok (given.Attached 0) ([]) ([]) ∷ ok (given.Link 0) ([]) ((0 ∷ 0 ∷ 0 ∷ 28 ∷ 2 ∷ 0 ∷ 0 ∷ 0 ∷ 0 ∷ 83 ∷ 18 ∷ 192 ∷ 15 ∷ 10 ∷ 161 ∷ 1 ∷ 113 ∷ 67 ∷ 66 ∷ 80 ∷ 2 ∷ 80 ∷ 0 ∷ 64 ∷ 64 ∷ 64 ∷ 64 ∷ 67 ∷ []) ∷ []) ∷ ok given.Nothing ([]) ([]) ∷ ok given.Nothing ([]) ((0 ∷ 0 ∷ 0 ∷ 26 ∷ 2 ∷ 0 ∷ 0 ∷ 0 ∷ 0 ∷ 83 ∷ 17 ∷ 192 ∷ 13 ∷ 4 ∷ 64 ∷ 67 ∷ 112 ∷ 0 ∷ 0 ∷ 8 ∷ 0 ∷ 112 ∷ 127 ∷ 255 ∷ 255 ∷ 255 ∷ []) ∷ []) ∷ ok given.Nothing ([]) ([]) ∷ [])
unfolding octets_of frame_refused canon spelled class_of is_utf8 chars encode
told_once = refl

-- a detach ends what is held on its link
detach_ends : lines_of (record { first_id = 0; window = 2048; journal_limit = 1073741824 })
    (ask (Opened 65536)
    ∷ ask (Own own.Begin)
    ∷ ask (Heard (record { channel = 0; body = (Some (heard.Begin (record { remote_channel = (Some 0); next_outgoing_id = 0; incoming_window = 2048; outgoing_window = 2147483647; handle_max = None; offered_capabilities = None; desired_capabilities = None; properties = None }))); payload = ([]) }))
    ∷ ask (Own (own.Attach (113 ∷ []) Sender 2 0 None None 0 0))
    ∷ ask (Heard (record { channel = 0; body = (Some (heard.Attach (record { name = (113 ∷ []); handle = 0; role = Receiver; snd_settle_mode = None; rcv_settle_mode = None; source = None; target = None; unsettled = None; incomplete_unsettled = None; initial_delivery_count = None; max_message_size = None; offered_capabilities = None; desired_capabilities = None; properties = None }))); payload = ([]) }))
    ∷ ask (Heard (record { channel = 0; body = (Some (heard.Flow (record { next_incoming_id = (Some 0); incoming_window = 2048; next_outgoing_id = 0; outgoing_window = 2147483647; handle = (Some 0); delivery_count = (Some 0); link_credit = (Some 5); available = None; drain = None; echo = None; properties = None }))); payload = ([]) }))
    ∷ ask (Own (own.Start 0 (1 ∷ []) 0 false (120 ∷ []) true))
    ∷ ask (Own (own.Start 0 (2 ∷ []) 0 false (120 ∷ []) false))
    ∷ ask (Own (own.Detach 0 None))
    ∷ ask_held Sender
    ∷ ask (Own (own.Learn 0))
    ∷ ask (Heard (record { channel = 0; body = (Some (heard.Detach (record { handle = 0; closed = (Some true); error = None }))); payload = ([]) }))
    ∷ ask (Own (own.Learn 0)) ∷ [])
    ≡ (refused 5 ∷ ok (given.Gone 0) ([]) ([]) ∷ refused 25 ∷ held ([]) ∷ ok given.Nothing ((Sender, 0) ∷ []) ((0 ∷ 0 ∷ 0 ∷ 16 ∷ 2 ∷ 0 ∷ 0 ∷ 0 ∷ 0 ∷ 83 ∷ 22 ∷ 192 ∷ 3 ∷ 2 ∷ 67 ∷ 65 ∷ []) ∷ []) ∷ refused 10 ∷ ok (given.Delivery 0) ([]) ((0 ∷ 0 ∷ 0 ∷ 23 ∷ 2 ∷ 0 ∷ 0 ∷ 0 ∷ 0 ∷ 83 ∷ 20 ∷ 192 ∷ 9 ∷ 6 ∷ 67 ∷ 67 ∷ 160 ∷ 1 ∷ 1 ∷ 67 ∷ 64 ∷ 65 ∷ 120 ∷ []) ∷ []) ∷ ok given.Nothing ([]) ([]) ∷ ok (given.Attached 0) ([]) ([]) ∷ ok (given.Link 0) ([]) ((0 ∷ 0 ∷ 0 ∷ 28 ∷ 2 ∷ 0 ∷ 0 ∷ 0 ∷ 0 ∷ 83 ∷ 18 ∷ 192 ∷ 15 ∷ 10 ∷ 161 ∷ 1 ∷ 113 ∷ 67 ∷ 66 ∷ 80 ∷ 2 ∷ 80 ∷ 0 ∷ 64 ∷ 64 ∷ 64 ∷ 64 ∷ 67 ∷ []) ∷ []) ∷ ok given.Nothing ([]) ([]) ∷ ok given.Nothing ([]) ((0 ∷ 0 ∷ 0 ∷ 26 ∷ 2 ∷ 0 ∷ 0 ∷ 0 ∷ 0 ∷ 83 ∷ 17 ∷ 192 ∷ 13 ∷ 4 ∷ 64 ∷ 67 ∷ 112 ∷ 0 ∷ 0 ∷ 8 ∷ 0 ∷ 112 ∷ 127 ∷ 255 ∷ 255 ∷ 255 ∷ []) ∷ []) ∷ ok given.Nothing ([]) ([]) ∷ [])
unfolding octets_of frame_refused canon spelled class_of is_utf8 chars encode
detach_ends = refl

-- a link that is put aside gives what is held on it
suspend_gives : lines_of (record { first_id = 0; window = 2048; journal_limit = 1073741824 })
    (ask (Opened 65536)
    ∷ ask (Own own.Begin)
    ∷ ask (Heard (record { channel = 0; body = (Some (heard.Begin (record { remote_channel = (Some 0); next_outgoing_id = 0; incoming_window = 2048; outgoing_window = 2147483647; handle_max = None; offered_capabilities = None; desired_capabilities = None; properties = None }))); payload = ([]) }))
    ∷ ask (Own (own.Attach (113 ∷ []) Sender 2 0 None None 0 0))
    ∷ ask (Heard (record { channel = 0; body = (Some (heard.Attach (record { name = (113 ∷ []); handle = 0; role = Receiver; snd_settle_mode = None; rcv_settle_mode = None; source = None; target = None; unsettled = None; incomplete_unsettled = None; initial_delivery_count = None; max_message_size = None; offered_capabilities = None; desired_capabilities = None; properties = None }))); payload = ([]) }))
    ∷ ask (Heard (record { channel = 0; body = (Some (heard.Flow (record { next_incoming_id = (Some 0); incoming_window = 2048; next_outgoing_id = 0; outgoing_window = 2147483647; handle = (Some 0); delivery_count = (Some 0); link_credit = (Some 5); available = None; drain = None; echo = None; properties = None }))); payload = ([]) }))
    ∷ ask (Own (own.Start 0 (1 ∷ []) 0 false (120 ∷ []) false))
    ∷ ask (Own (own.Start 0 (2 ∷ []) 0 false (121 ∷ []) false))
    ∷ ask (Own (own.Suspend 0))
    ∷ ask_held Sender
    ∷ ask (Heard (record { channel = 0; body = (Some (heard.Detach (record { handle = 0; closed = None; error = None }))); payload = ([]) })) ∷ [])
    ≡ (ok (given.Gone 0) ([]) ([]) ∷ held ([]) ∷ ok (given.Suspended (record { name = (113 ∷ []); role = Sender; items = (record { tag = (1 ∷ []); state = None } ∷ record { tag = (2 ∷ []); state = None } ∷ []) })) ((Sender, 0) ∷ (Sender, 1) ∷ []) ((0 ∷ 0 ∷ 0 ∷ 15 ∷ 2 ∷ 0 ∷ 0 ∷ 0 ∷ 0 ∷ 83 ∷ 22 ∷ 192 ∷ 2 ∷ 1 ∷ 67 ∷ []) ∷ []) ∷ ok (given.Delivery 1) ([]) ((0 ∷ 0 ∷ 0 ∷ 22 ∷ 2 ∷ 0 ∷ 0 ∷ 0 ∷ 0 ∷ 83 ∷ 20 ∷ 192 ∷ 8 ∷ 4 ∷ 67 ∷ 82 ∷ 1 ∷ 160 ∷ 1 ∷ 2 ∷ 67 ∷ 121 ∷ []) ∷ []) ∷ ok (given.Delivery 0) ([]) ((0 ∷ 0 ∷ 0 ∷ 21 ∷ 2 ∷ 0 ∷ 0 ∷ 0 ∷ 0 ∷ 83 ∷ 20 ∷ 192 ∷ 7 ∷ 4 ∷ 67 ∷ 67 ∷ 160 ∷ 1 ∷ 1 ∷ 67 ∷ 120 ∷ []) ∷ []) ∷ ok given.Nothing ([]) ([]) ∷ ok (given.Attached 0) ([]) ([]) ∷ ok (given.Link 0) ([]) ((0 ∷ 0 ∷ 0 ∷ 28 ∷ 2 ∷ 0 ∷ 0 ∷ 0 ∷ 0 ∷ 83 ∷ 18 ∷ 192 ∷ 15 ∷ 10 ∷ 161 ∷ 1 ∷ 113 ∷ 67 ∷ 66 ∷ 80 ∷ 2 ∷ 80 ∷ 0 ∷ 64 ∷ 64 ∷ 64 ∷ 64 ∷ 67 ∷ []) ∷ []) ∷ ok given.Nothing ([]) ([]) ∷ ok given.Nothing ([]) ((0 ∷ 0 ∷ 0 ∷ 26 ∷ 2 ∷ 0 ∷ 0 ∷ 0 ∷ 0 ∷ 83 ∷ 17 ∷ 192 ∷ 13 ∷ 4 ∷ 64 ∷ 67 ∷ 112 ∷ 0 ∷ 0 ∷ 8 ∷ 0 ∷ 112 ∷ 127 ∷ 255 ∷ 255 ∷ 255 ∷ []) ∷ []) ∷ ok given.Nothing ([]) ([]) ∷ [])
unfolding octets_of frame_refused canon spelled class_of is_utf8 chars encode
suspend_gives = refl

-- an end ends all that is held
end_ends_all : lines_of (record { first_id = 0; window = 2048; journal_limit = 1073741824 })
    (ask (Opened 65536)
    ∷ ask (Own own.Begin)
    ∷ ask (Heard (record { channel = 0; body = (Some (heard.Begin (record { remote_channel = (Some 0); next_outgoing_id = 0; incoming_window = 2048; outgoing_window = 2147483647; handle_max = None; offered_capabilities = None; desired_capabilities = None; properties = None }))); payload = ([]) }))
    ∷ ask (Own (own.Attach (113 ∷ []) Sender 2 0 None None 0 0))
    ∷ ask (Heard (record { channel = 0; body = (Some (heard.Attach (record { name = (113 ∷ []); handle = 0; role = Receiver; snd_settle_mode = None; rcv_settle_mode = None; source = None; target = None; unsettled = None; incomplete_unsettled = None; initial_delivery_count = None; max_message_size = None; offered_capabilities = None; desired_capabilities = None; properties = None }))); payload = ([]) }))
    ∷ ask (Heard (record { channel = 0; body = (Some (heard.Flow (record { next_incoming_id = (Some 0); incoming_window = 2048; next_outgoing_id = 0; outgoing_window = 2147483647; handle = (Some 0); delivery_count = (Some 0); link_credit = (Some 5); available = None; drain = None; echo = None; properties = None }))); payload = ([]) }))
    ∷ ask (Own (own.Start 0 (1 ∷ []) 0 false (120 ∷ []) false))
    ∷ ask (Own (own.Start 0 (2 ∷ []) 0 false (121 ∷ []) false))
    ∷ ask (Own (own.End None))
    ∷ ask_held Sender ∷ [])
    ≡ (held ([]) ∷ ok given.Nothing ((Sender, 0) ∷ (Sender, 1) ∷ []) ((0 ∷ 0 ∷ 0 ∷ 12 ∷ 2 ∷ 0 ∷ 0 ∷ 0 ∷ 0 ∷ 83 ∷ 23 ∷ 69 ∷ []) ∷ []) ∷ ok (given.Delivery 1) ([]) ((0 ∷ 0 ∷ 0 ∷ 22 ∷ 2 ∷ 0 ∷ 0 ∷ 0 ∷ 0 ∷ 83 ∷ 20 ∷ 192 ∷ 8 ∷ 4 ∷ 67 ∷ 82 ∷ 1 ∷ 160 ∷ 1 ∷ 2 ∷ 67 ∷ 121 ∷ []) ∷ []) ∷ ok (given.Delivery 0) ([]) ((0 ∷ 0 ∷ 0 ∷ 21 ∷ 2 ∷ 0 ∷ 0 ∷ 0 ∷ 0 ∷ 83 ∷ 20 ∷ 192 ∷ 7 ∷ 4 ∷ 67 ∷ 67 ∷ 160 ∷ 1 ∷ 1 ∷ 67 ∷ 120 ∷ []) ∷ []) ∷ ok given.Nothing ([]) ([]) ∷ ok (given.Attached 0) ([]) ([]) ∷ ok (given.Link 0) ([]) ((0 ∷ 0 ∷ 0 ∷ 28 ∷ 2 ∷ 0 ∷ 0 ∷ 0 ∷ 0 ∷ 83 ∷ 18 ∷ 192 ∷ 15 ∷ 10 ∷ 161 ∷ 1 ∷ 113 ∷ 67 ∷ 66 ∷ 80 ∷ 2 ∷ 80 ∷ 0 ∷ 64 ∷ 64 ∷ 64 ∷ 64 ∷ 67 ∷ []) ∷ []) ∷ ok given.Nothing ([]) ([]) ∷ ok given.Nothing ([]) ((0 ∷ 0 ∷ 0 ∷ 26 ∷ 2 ∷ 0 ∷ 0 ∷ 0 ∷ 0 ∷ 83 ∷ 17 ∷ 192 ∷ 13 ∷ 4 ∷ 64 ∷ 67 ∷ 112 ∷ 0 ∷ 0 ∷ 8 ∷ 0 ∷ 112 ∷ 127 ∷ 255 ∷ 255 ∷ 255 ∷ []) ∷ []) ∷ ok given.Nothing ([]) ([]) ∷ [])
unfolding octets_of frame_refused canon spelled class_of is_utf8 chars encode
end_ends_all = refl
