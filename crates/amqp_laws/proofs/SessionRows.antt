-- Worked scripts of sessions and links: what each line answers, computed.
use Rattle.std.proofs.Common.{◌≡◌, true, false, Some, None, [], ◌∷◌, refl}
use Rattle.std.specs.Str.{chars, is_utf8}
use lib.Utf8.{encode}
use Rattle.amqp_types.specs.Canon.{canon, spelled}
use Rattle.amqp_types.specs.Codes.{class_of}
use Rattle.amqp_performatives.specs.declared.bodies.Role.TheVariants.{Sender, Receiver}
use Rattle.amqp_performatives.specs.declared.performative.Performative.TheVariants as heard
use Rattle.amqp_rules.specs.declared.op.Op.TheVariants as own
use Rattle.amqp_rules.specs.declared.reply.Given.TheVariants as given
use Rattle.amqp_rules.specs.declared.status.LinkPhase.TheVariants as phase
use Rattle.amqp_rules.specs.Sending.{octets_of, frame_refused}
use Rattle.amqp_laws.specs.declared.entry.Step.TheVariants.{Opened, Own, Heard}
use Rattle.amqp_laws.proofs.Scripts.{ask, ask_windows, ask_link, ok, refused, violated, windows, link, lines_of}

-- settled deliveries use credit, ids and the window
settled_deliveries : lines_of (record { first_id = 0; window = 2048; journal_limit = 1073741824 })
    (ask (Opened 65536)
    ∷ ask (Own own.Begin)
    ∷ ask (Heard (record { channel = 0; body = (Some (heard.Begin (record { remote_channel = (Some 0); next_outgoing_id = 0; incoming_window = 2048; outgoing_window = 2147483647; handle_max = None; offered_capabilities = None; desired_capabilities = None; properties = None }))); payload = ([]) }))
    ∷ ask (Own (own.Attach (113 ∷ []) Sender 2 0 None None 0 0))
    ∷ ask (Heard (record { channel = 0; body = (Some (heard.Attach (record { name = (113 ∷ []); handle = 0; role = Receiver; snd_settle_mode = None; rcv_settle_mode = None; source = None; target = None; unsettled = None; incomplete_unsettled = None; initial_delivery_count = None; max_message_size = None; offered_capabilities = None; desired_capabilities = None; properties = None }))); payload = ([]) }))
    ∷ ask (Own (own.Start 0 (1 ∷ []) 0 true (120 ∷ []) false))
    ∷ ask (Heard (record { channel = 0; body = (Some (heard.Flow (record { next_incoming_id = (Some 0); incoming_window = 2048; next_outgoing_id = 0; outgoing_window = 2147483647; handle = (Some 0); delivery_count = (Some 0); link_credit = (Some 5); available = None; drain = None; echo = None; properties = None }))); payload = ([]) }))
    ∷ ask (Own (own.Start 0 (1 ∷ []) 0 true (120 ∷ []) false))
    ∷ ask (Own (own.Start 0 (1 ∷ []) 0 true (120 ∷ []) false))
    ∷ ask_windows
    ∷ ask_link 0 ∷ [])
    ≡ (link (Some (record { role = Sender; phase = phase.Attached; count = 2; credit = 3; drain = false; mid = false; ready = 0 })) ∷ windows (record { next_in = (Some 0); incoming = 2048; next_out = 2; remote_in = 2046; remote_out = 2147483647; next_delivery = 2 }) ∷ ok (given.Delivery 1) ([]) ((0 ∷ 0 ∷ 0 ∷ 23 ∷ 2 ∷ 0 ∷ 0 ∷ 0 ∷ 0 ∷ 83 ∷ 20 ∷ 192 ∷ 9 ∷ 5 ∷ 67 ∷ 82 ∷ 1 ∷ 160 ∷ 1 ∷ 1 ∷ 67 ∷ 65 ∷ 120 ∷ []) ∷ []) ∷ ok (given.Delivery 0) ([]) ((0 ∷ 0 ∷ 0 ∷ 22 ∷ 2 ∷ 0 ∷ 0 ∷ 0 ∷ 0 ∷ 83 ∷ 20 ∷ 192 ∷ 8 ∷ 5 ∷ 67 ∷ 67 ∷ 160 ∷ 1 ∷ 1 ∷ 67 ∷ 65 ∷ 120 ∷ []) ∷ []) ∷ ok given.Nothing ([]) ([]) ∷ refused 14 ∷ ok (given.Attached 0) ([]) ([]) ∷ ok (given.Link 0) ([]) ((0 ∷ 0 ∷ 0 ∷ 28 ∷ 2 ∷ 0 ∷ 0 ∷ 0 ∷ 0 ∷ 83 ∷ 18 ∷ 192 ∷ 15 ∷ 10 ∷ 161 ∷ 1 ∷ 113 ∷ 67 ∷ 66 ∷ 80 ∷ 2 ∷ 80 ∷ 0 ∷ 64 ∷ 64 ∷ 64 ∷ 64 ∷ 67 ∷ []) ∷ []) ∷ ok given.Nothing ([]) ([]) ∷ ok given.Nothing ([]) ((0 ∷ 0 ∷ 0 ∷ 26 ∷ 2 ∷ 0 ∷ 0 ∷ 0 ∷ 0 ∷ 83 ∷ 17 ∷ 192 ∷ 13 ∷ 4 ∷ 64 ∷ 67 ∷ 112 ∷ 0 ∷ 0 ∷ 8 ∷ 0 ∷ 112 ∷ 127 ∷ 255 ∷ 255 ∷ 255 ∷ []) ∷ []) ∷ ok given.Nothing ([]) ([]) ∷ [])
unfolding octets_of frame_refused canon spelled class_of is_utf8 chars encode
settled_deliveries = refl

-- a session is begun once, and links wait until it is mapped
begin_once : lines_of (record { first_id = 0; window = 2048; journal_limit = 1073741824 })
    (ask (Opened 65536)
    ∷ ask (Own own.Begin)
    ∷ ask (Own own.Begin)
    ∷ ask (Own (own.Attach (113 ∷ []) Sender 2 0 None None 0 0)) ∷ [])
    ≡ (refused 4 ∷ refused 3 ∷ ok given.Nothing ([]) ((0 ∷ 0 ∷ 0 ∷ 26 ∷ 2 ∷ 0 ∷ 0 ∷ 0 ∷ 0 ∷ 83 ∷ 17 ∷ 192 ∷ 13 ∷ 4 ∷ 64 ∷ 67 ∷ 112 ∷ 0 ∷ 0 ∷ 8 ∷ 0 ∷ 112 ∷ 127 ∷ 255 ∷ 255 ∷ 255 ∷ []) ∷ []) ∷ ok given.Nothing ([]) ([]) ∷ [])
unfolding octets_of frame_refused canon spelled class_of is_utf8 chars encode
begin_once = refl

-- the peer's window counts from the transfer that it awaits
window_from_what_the_peer_awaits : lines_of (record { first_id = 10; window = 2048; journal_limit = 1073741824 })
    (ask (Opened 65536)
    ∷ ask (Own own.Begin)
    ∷ ask (Heard (record { channel = 0; body = (Some (heard.Begin (record { remote_channel = (Some 0); next_outgoing_id = 0; incoming_window = 2048; outgoing_window = 2147483647; handle_max = None; offered_capabilities = None; desired_capabilities = None; properties = None }))); payload = ([]) }))
    ∷ ask (Own (own.Attach (113 ∷ []) Sender 2 0 None None 0 0))
    ∷ ask (Heard (record { channel = 0; body = (Some (heard.Attach (record { name = (113 ∷ []); handle = 0; role = Receiver; snd_settle_mode = None; rcv_settle_mode = None; source = None; target = None; unsettled = None; incomplete_unsettled = None; initial_delivery_count = None; max_message_size = None; offered_capabilities = None; desired_capabilities = None; properties = None }))); payload = ([]) }))
    ∷ ask (Heard (record { channel = 0; body = (Some (heard.Flow (record { next_incoming_id = (Some 10); incoming_window = 2048; next_outgoing_id = 0; outgoing_window = 2147483647; handle = (Some 0); delivery_count = (Some 0); link_credit = (Some 5); available = None; drain = None; echo = None; properties = None }))); payload = ([]) }))
    ∷ ask (Own (own.Start 0 (1 ∷ []) 0 true (120 ∷ []) false))
    ∷ ask (Own (own.Start 0 (2 ∷ []) 0 true (120 ∷ []) false))
    ∷ ask (Own (own.Start 0 (3 ∷ []) 0 true (120 ∷ []) false))
    ∷ ask (Heard (record { channel = 0; body = (Some (heard.Flow (record { next_incoming_id = (Some 11); incoming_window = 4; next_outgoing_id = 0; outgoing_window = 2147483647; handle = None; delivery_count = None; link_credit = None; available = None; drain = None; echo = None; properties = None }))); payload = ([]) }))
    ∷ ask_windows ∷ [])
    ≡ (windows (record { next_in = (Some 0); incoming = 2048; next_out = 13; remote_in = 2; remote_out = 2147483647; next_delivery = 13 }) ∷ ok given.Nothing ([]) ([]) ∷ ok (given.Delivery 12) ([]) ((0 ∷ 0 ∷ 0 ∷ 23 ∷ 2 ∷ 0 ∷ 0 ∷ 0 ∷ 0 ∷ 83 ∷ 20 ∷ 192 ∷ 9 ∷ 5 ∷ 67 ∷ 82 ∷ 12 ∷ 160 ∷ 1 ∷ 3 ∷ 67 ∷ 65 ∷ 120 ∷ []) ∷ []) ∷ ok (given.Delivery 11) ([]) ((0 ∷ 0 ∷ 0 ∷ 23 ∷ 2 ∷ 0 ∷ 0 ∷ 0 ∷ 0 ∷ 83 ∷ 20 ∷ 192 ∷ 9 ∷ 5 ∷ 67 ∷ 82 ∷ 11 ∷ 160 ∷ 1 ∷ 2 ∷ 67 ∷ 65 ∷ 120 ∷ []) ∷ []) ∷ ok (given.Delivery 10) ([]) ((0 ∷ 0 ∷ 0 ∷ 23 ∷ 2 ∷ 0 ∷ 0 ∷ 0 ∷ 0 ∷ 83 ∷ 20 ∷ 192 ∷ 9 ∷ 5 ∷ 67 ∷ 82 ∷ 10 ∷ 160 ∷ 1 ∷ 1 ∷ 67 ∷ 65 ∷ 120 ∷ []) ∷ []) ∷ ok given.Nothing ([]) ([]) ∷ ok (given.Attached 0) ([]) ([]) ∷ ok (given.Link 0) ([]) ((0 ∷ 0 ∷ 0 ∷ 28 ∷ 2 ∷ 0 ∷ 0 ∷ 0 ∷ 0 ∷ 83 ∷ 18 ∷ 192 ∷ 15 ∷ 10 ∷ 161 ∷ 1 ∷ 113 ∷ 67 ∷ 66 ∷ 80 ∷ 2 ∷ 80 ∷ 0 ∷ 64 ∷ 64 ∷ 64 ∷ 64 ∷ 67 ∷ []) ∷ []) ∷ ok given.Nothing ([]) ([]) ∷ ok given.Nothing ([]) ((0 ∷ 0 ∷ 0 ∷ 27 ∷ 2 ∷ 0 ∷ 0 ∷ 0 ∷ 0 ∷ 83 ∷ 17 ∷ 192 ∷ 14 ∷ 4 ∷ 64 ∷ 82 ∷ 10 ∷ 112 ∷ 0 ∷ 0 ∷ 8 ∷ 0 ∷ 112 ∷ 127 ∷ 255 ∷ 255 ∷ 255 ∷ []) ∷ []) ∷ ok given.Nothing ([]) ([]) ∷ [])
unfolding octets_of frame_refused canon spelled class_of is_utf8 chars encode
window_from_what_the_peer_awaits = refl

-- where it awaits none by name, the peer's window counts from the first transfer
window_from_the_first : lines_of (record { first_id = 10; window = 2048; journal_limit = 1073741824 })
    (ask (Opened 65536)
    ∷ ask (Own own.Begin)
    ∷ ask (Heard (record { channel = 0; body = (Some (heard.Begin (record { remote_channel = (Some 0); next_outgoing_id = 0; incoming_window = 2048; outgoing_window = 2147483647; handle_max = None; offered_capabilities = None; desired_capabilities = None; properties = None }))); payload = ([]) }))
    ∷ ask (Own (own.Attach (113 ∷ []) Sender 2 0 None None 0 0))
    ∷ ask (Heard (record { channel = 0; body = (Some (heard.Attach (record { name = (113 ∷ []); handle = 0; role = Receiver; snd_settle_mode = None; rcv_settle_mode = None; source = None; target = None; unsettled = None; incomplete_unsettled = None; initial_delivery_count = None; max_message_size = None; offered_capabilities = None; desired_capabilities = None; properties = None }))); payload = ([]) }))
    ∷ ask (Heard (record { channel = 0; body = (Some (heard.Flow (record { next_incoming_id = (Some 10); incoming_window = 2048; next_outgoing_id = 0; outgoing_window = 2147483647; handle = (Some 0); delivery_count = (Some 0); link_credit = (Some 5); available = None; drain = None; echo = None; properties = None }))); payload = ([]) }))
    ∷ ask (Own (own.Start 0 (1 ∷ []) 0 true (120 ∷ []) false))
    ∷ ask (Own (own.Start 0 (2 ∷ []) 0 true (120 ∷ []) false))
    ∷ ask (Heard (record { channel = 0; body = (Some (heard.Flow (record { next_incoming_id = None; incoming_window = 4; next_outgoing_id = 0; outgoing_window = 2147483647; handle = None; delivery_count = None; link_credit = None; available = None; drain = None; echo = None; properties = None }))); payload = ([]) }))
    ∷ ask_windows ∷ [])
    ≡ (windows (record { next_in = (Some 0); incoming = 2048; next_out = 12; remote_in = 2; remote_out = 2147483647; next_delivery = 12 }) ∷ ok given.Nothing ([]) ([]) ∷ ok (given.Delivery 11) ([]) ((0 ∷ 0 ∷ 0 ∷ 23 ∷ 2 ∷ 0 ∷ 0 ∷ 0 ∷ 0 ∷ 83 ∷ 20 ∷ 192 ∷ 9 ∷ 5 ∷ 67 ∷ 82 ∷ 11 ∷ 160 ∷ 1 ∷ 2 ∷ 67 ∷ 65 ∷ 120 ∷ []) ∷ []) ∷ ok (given.Delivery 10) ([]) ((0 ∷ 0 ∷ 0 ∷ 23 ∷ 2 ∷ 0 ∷ 0 ∷ 0 ∷ 0 ∷ 83 ∷ 20 ∷ 192 ∷ 9 ∷ 5 ∷ 67 ∷ 82 ∷ 10 ∷ 160 ∷ 1 ∷ 1 ∷ 67 ∷ 65 ∷ 120 ∷ []) ∷ []) ∷ ok given.Nothing ([]) ([]) ∷ ok (given.Attached 0) ([]) ([]) ∷ ok (given.Link 0) ([]) ((0 ∷ 0 ∷ 0 ∷ 28 ∷ 2 ∷ 0 ∷ 0 ∷ 0 ∷ 0 ∷ 83 ∷ 18 ∷ 192 ∷ 15 ∷ 10 ∷ 161 ∷ 1 ∷ 113 ∷ 67 ∷ 66 ∷ 80 ∷ 2 ∷ 80 ∷ 0 ∷ 64 ∷ 64 ∷ 64 ∷ 64 ∷ 67 ∷ []) ∷ []) ∷ ok given.Nothing ([]) ([]) ∷ ok given.Nothing ([]) ((0 ∷ 0 ∷ 0 ∷ 27 ∷ 2 ∷ 0 ∷ 0 ∷ 0 ∷ 0 ∷ 83 ∷ 17 ∷ 192 ∷ 14 ∷ 4 ∷ 64 ∷ 82 ∷ 10 ∷ 112 ∷ 0 ∷ 0 ∷ 8 ∷ 0 ∷ 112 ∷ 127 ∷ 255 ∷ 255 ∷ 255 ∷ []) ∷ []) ∷ ok given.Nothing ([]) ([]) ∷ [])
unfolding octets_of frame_refused canon spelled class_of is_utf8 chars encode
window_from_the_first = refl

-- a flow that counts further than we sent
ahead_of_what_was_sent : lines_of (record { first_id = 10; window = 2048; journal_limit = 1073741824 })
    (ask (Opened 65536)
    ∷ ask (Own own.Begin)
    ∷ ask (Heard (record { channel = 0; body = (Some (heard.Begin (record { remote_channel = (Some 0); next_outgoing_id = 0; incoming_window = 2048; outgoing_window = 2147483647; handle_max = None; offered_capabilities = None; desired_capabilities = None; properties = None }))); payload = ([]) }))
    ∷ ask (Own (own.Attach (113 ∷ []) Sender 2 0 None None 0 0))
    ∷ ask (Heard (record { channel = 0; body = (Some (heard.Attach (record { name = (113 ∷ []); handle = 0; role = Receiver; snd_settle_mode = None; rcv_settle_mode = None; source = None; target = None; unsettled = None; incomplete_unsettled = None; initial_delivery_count = None; max_message_size = None; offered_capabilities = None; desired_capabilities = None; properties = None }))); payload = ([]) }))
    ∷ ask (Heard (record { channel = 0; body = (Some (heard.Flow (record { next_incoming_id = (Some 10); incoming_window = 2048; next_outgoing_id = 0; outgoing_window = 2147483647; handle = (Some 0); delivery_count = (Some 0); link_credit = (Some 5); available = None; drain = None; echo = None; properties = None }))); payload = ([]) }))
    ∷ ask (Own (own.Start 0 (1 ∷ []) 0 true (120 ∷ []) false))
    ∷ ask (Own (own.Start 0 (2 ∷ []) 0 true (120 ∷ []) false))
    ∷ ask (Own (own.Start 0 (3 ∷ []) 0 true (120 ∷ []) false))
    ∷ ask (Heard (record { channel = 0; body = (Some (heard.Flow (record { next_incoming_id = (Some 14); incoming_window = 4; next_outgoing_id = 0; outgoing_window = 2147483647; handle = None; delivery_count = None; link_credit = None; available = None; drain = None; echo = None; properties = None }))); payload = ([]) }))
    ∷ ask_windows ∷ [])
    ≡ (windows (record { next_in = (Some 0); incoming = 2048; next_out = 13; remote_in = 2045; remote_out = 2147483647; next_delivery = 13 }) ∷ violated 6 ∷ ok (given.Delivery 12) ([]) ((0 ∷ 0 ∷ 0 ∷ 23 ∷ 2 ∷ 0 ∷ 0 ∷ 0 ∷ 0 ∷ 83 ∷ 20 ∷ 192 ∷ 9 ∷ 5 ∷ 67 ∷ 82 ∷ 12 ∷ 160 ∷ 1 ∷ 3 ∷ 67 ∷ 65 ∷ 120 ∷ []) ∷ []) ∷ ok (given.Delivery 11) ([]) ((0 ∷ 0 ∷ 0 ∷ 23 ∷ 2 ∷ 0 ∷ 0 ∷ 0 ∷ 0 ∷ 83 ∷ 20 ∷ 192 ∷ 9 ∷ 5 ∷ 67 ∷ 82 ∷ 11 ∷ 160 ∷ 1 ∷ 2 ∷ 67 ∷ 65 ∷ 120 ∷ []) ∷ []) ∷ ok (given.Delivery 10) ([]) ((0 ∷ 0 ∷ 0 ∷ 23 ∷ 2 ∷ 0 ∷ 0 ∷ 0 ∷ 0 ∷ 83 ∷ 20 ∷ 192 ∷ 9 ∷ 5 ∷ 67 ∷ 82 ∷ 10 ∷ 160 ∷ 1 ∷ 1 ∷ 67 ∷ 65 ∷ 120 ∷ []) ∷ []) ∷ ok given.Nothing ([]) ([]) ∷ ok (given.Attached 0) ([]) ([]) ∷ ok (given.Link 0) ([]) ((0 ∷ 0 ∷ 0 ∷ 28 ∷ 2 ∷ 0 ∷ 0 ∷ 0 ∷ 0 ∷ 83 ∷ 18 ∷ 192 ∷ 15 ∷ 10 ∷ 161 ∷ 1 ∷ 113 ∷ 67 ∷ 66 ∷ 80 ∷ 2 ∷ 80 ∷ 0 ∷ 64 ∷ 64 ∷ 64 ∷ 64 ∷ 67 ∷ []) ∷ []) ∷ ok given.Nothing ([]) ([]) ∷ ok given.Nothing ([]) ((0 ∷ 0 ∷ 0 ∷ 27 ∷ 2 ∷ 0 ∷ 0 ∷ 0 ∷ 0 ∷ 83 ∷ 17 ∷ 192 ∷ 14 ∷ 4 ∷ 64 ∷ 82 ∷ 10 ∷ 112 ∷ 0 ∷ 0 ∷ 8 ∷ 0 ∷ 112 ∷ 127 ∷ 255 ∷ 255 ∷ 255 ∷ []) ∷ []) ∷ ok given.Nothing ([]) ([]) ∷ [])
unfolding octets_of frame_refused canon spelled class_of is_utf8 chars encode
ahead_of_what_was_sent = refl

-- credit that is given before our attach waits for it
credit_before_our_attach : lines_of (record { first_id = 0; window = 2048; journal_limit = 1073741824 })
    (ask (Opened 65536)
    ∷ ask (Own own.Begin)
    ∷ ask (Heard (record { channel = 0; body = (Some (heard.Begin (record { remote_channel = (Some 0); next_outgoing_id = 0; incoming_window = 2048; outgoing_window = 2147483647; handle_max = None; offered_capabilities = None; desired_capabilities = None; properties = None }))); payload = ([]) }))
    ∷ ask (Heard (record { channel = 0; body = (Some (heard.Attach (record { name = (113 ∷ []); handle = 0; role = Receiver; snd_settle_mode = None; rcv_settle_mode = None; source = None; target = None; unsettled = None; incomplete_unsettled = None; initial_delivery_count = None; max_message_size = None; offered_capabilities = None; desired_capabilities = None; properties = None }))); payload = ([]) }))
    ∷ ask (Heard (record { channel = 0; body = (Some (heard.Flow (record { next_incoming_id = (Some 0); incoming_window = 2048; next_outgoing_id = 0; outgoing_window = 2147483647; handle = (Some 0); delivery_count = None; link_credit = (Some 5); available = None; drain = None; echo = None; properties = None }))); payload = ([]) }))
    ∷ ask_link 0
    ∷ ask (Own (own.Attach (113 ∷ []) Sender 2 0 None None 0 0))
    ∷ ask_link 0 ∷ [])
    ≡ (link (Some (record { role = Sender; phase = phase.Attached; count = 0; credit = 5; drain = false; mid = false; ready = 0 })) ∷ ok (given.Link 0) ([]) ((0 ∷ 0 ∷ 0 ∷ 28 ∷ 2 ∷ 0 ∷ 0 ∷ 0 ∷ 0 ∷ 83 ∷ 18 ∷ 192 ∷ 15 ∷ 10 ∷ 161 ∷ 1 ∷ 113 ∷ 67 ∷ 66 ∷ 80 ∷ 2 ∷ 80 ∷ 0 ∷ 64 ∷ 64 ∷ 64 ∷ 64 ∷ 67 ∷ []) ∷ []) ∷ link (Some (record { role = Sender; phase = phase.Offered; count = 0; credit = 5; drain = false; mid = false; ready = 0 })) ∷ ok given.Nothing ([]) ([]) ∷ ok (given.Offered 0) ([]) ([]) ∷ ok given.Nothing ([]) ([]) ∷ ok given.Nothing ([]) ((0 ∷ 0 ∷ 0 ∷ 26 ∷ 2 ∷ 0 ∷ 0 ∷ 0 ∷ 0 ∷ 83 ∷ 17 ∷ 192 ∷ 13 ∷ 4 ∷ 64 ∷ 67 ∷ 112 ∷ 0 ∷ 0 ∷ 8 ∷ 0 ∷ 112 ∷ 127 ∷ 255 ∷ 255 ∷ 255 ∷ []) ∷ []) ∷ ok given.Nothing ([]) ([]) ∷ [])
unfolding octets_of frame_refused canon spelled class_of is_utf8 chars encode
credit_before_our_attach = refl

-- a start without credit uses no credit and no id
refused_start_uses_nothing : lines_of (record { first_id = 0; window = 2048; journal_limit = 1073741824 })
    (ask (Opened 65536)
    ∷ ask (Own own.Begin)
    ∷ ask (Heard (record { channel = 0; body = (Some (heard.Begin (record { remote_channel = (Some 0); next_outgoing_id = 0; incoming_window = 2048; outgoing_window = 2147483647; handle_max = None; offered_capabilities = None; desired_capabilities = None; properties = None }))); payload = ([]) }))
    ∷ ask (Own (own.Attach (113 ∷ []) Sender 2 0 None None 0 0))
    ∷ ask (Heard (record { channel = 0; body = (Some (heard.Attach (record { name = (113 ∷ []); handle = 0; role = Receiver; snd_settle_mode = None; rcv_settle_mode = None; source = None; target = None; unsettled = None; incomplete_unsettled = None; initial_delivery_count = None; max_message_size = None; offered_capabilities = None; desired_capabilities = None; properties = None }))); payload = ([]) }))
    ∷ ask (Heard (record { channel = 0; body = (Some (heard.Flow (record { next_incoming_id = (Some 0); incoming_window = 2048; next_outgoing_id = 0; outgoing_window = 2147483647; handle = (Some 0); delivery_count = (Some 0); link_credit = (Some 1); available = None; drain = None; echo = None; properties = None }))); payload = ([]) }))
    ∷ ask (Own (own.Start 0 (1 ∷ []) 0 true (120 ∷ []) false))
    ∷ ask_windows
    ∷ ask (Own (own.Start 0 (2 ∷ []) 0 true (120 ∷ []) false))
    ∷ ask_windows ∷ [])
    ≡ (windows (record { next_in = (Some 0); incoming = 2048; next_out = 1; remote_in = 2047; remote_out = 2147483647; next_delivery = 1 }) ∷ refused 14 ∷ windows (record { next_in = (Some 0); incoming = 2048; next_out = 1; remote_in = 2047; remote_out = 2147483647; next_delivery = 1 }) ∷ ok (given.Delivery 0) ([]) ((0 ∷ 0 ∷ 0 ∷ 22 ∷ 2 ∷ 0 ∷ 0 ∷ 0 ∷ 0 ∷ 83 ∷ 20 ∷ 192 ∷ 8 ∷ 5 ∷ 67 ∷ 67 ∷ 160 ∷ 1 ∷ 1 ∷ 67 ∷ 65 ∷ 120 ∷ []) ∷ []) ∷ ok given.Nothing ([]) ([]) ∷ ok (given.Attached 0) ([]) ([]) ∷ ok (given.Link 0) ([]) ((0 ∷ 0 ∷ 0 ∷ 28 ∷ 2 ∷ 0 ∷ 0 ∷ 0 ∷ 0 ∷ 83 ∷ 18 ∷ 192 ∷ 15 ∷ 10 ∷ 161 ∷ 1 ∷ 113 ∷ 67 ∷ 66 ∷ 80 ∷ 2 ∷ 80 ∷ 0 ∷ 64 ∷ 64 ∷ 64 ∷ 64 ∷ 67 ∷ []) ∷ []) ∷ ok given.Nothing ([]) ([]) ∷ ok given.Nothing ([]) ((0 ∷ 0 ∷ 0 ∷ 26 ∷ 2 ∷ 0 ∷ 0 ∷ 0 ∷ 0 ∷ 83 ∷ 17 ∷ 192 ∷ 13 ∷ 4 ∷ 64 ∷ 67 ∷ 112 ∷ 0 ∷ 0 ∷ 8 ∷ 0 ∷ 112 ∷ 127 ∷ 255 ∷ 255 ∷ 255 ∷ []) ∷ []) ∷ ok given.Nothing ([]) ([]) ∷ [])
unfolding octets_of frame_refused canon spelled class_of is_utf8 chars encode
refused_start_uses_nothing = refl

-- the credit is given up as the peer wishes, once
drained_once : lines_of (record { first_id = 0; window = 2048; journal_limit = 1073741824 })
    (ask (Opened 65536)
    ∷ ask (Own own.Begin)
    ∷ ask (Heard (record { channel = 0; body = (Some (heard.Begin (record { remote_channel = (Some 0); next_outgoing_id = 0; incoming_window = 2048; outgoing_window = 2147483647; handle_max = None; offered_capabilities = None; desired_capabilities = None; properties = None }))); payload = ([]) }))
    ∷ ask (Own (own.Attach (113 ∷ []) Sender 2 0 None None 0 0))
    ∷ ask (Heard (record { channel = 0; body = (Some (heard.Attach (record { name = (113 ∷ []); handle = 0; role = Receiver; snd_settle_mode = None; rcv_settle_mode = None; source = None; target = None; unsettled = None; incomplete_unsettled = None; initial_delivery_count = None; max_message_size = None; offered_capabilities = None; desired_capabilities = None; properties = None }))); payload = ([]) }))
    ∷ ask (Heard (record { channel = 0; body = (Some (heard.Flow (record { next_incoming_id = (Some 0); incoming_window = 2048; next_outgoing_id = 0; outgoing_window = 2147483647; handle = (Some 0); delivery_count = (Some 0); link_credit = (Some 3); available = None; drain = (Some true); echo = None; properties = None }))); payload = ([]) }))
    ∷ ask (Own (own.Drained 0))
    ∷ ask (Own (own.Drained 0))
    ∷ ask_link 0 ∷ [])
    ≡ (link (Some (record { role = Sender; phase = phase.Attached; count = 3; credit = 0; drain = false; mid = false; ready = 0 })) ∷ refused 20 ∷ ok given.Nothing ([]) ((0 ∷ 0 ∷ 0 ∷ 32 ∷ 2 ∷ 0 ∷ 0 ∷ 0 ∷ 0 ∷ 83 ∷ 19 ∷ 192 ∷ 19 ∷ 9 ∷ 67 ∷ 112 ∷ 0 ∷ 0 ∷ 8 ∷ 0 ∷ 67 ∷ 112 ∷ 127 ∷ 255 ∷ 255 ∷ 255 ∷ 67 ∷ 82 ∷ 3 ∷ 67 ∷ 67 ∷ 65 ∷ []) ∷ []) ∷ ok given.Nothing ([]) ([]) ∷ ok (given.Attached 0) ([]) ([]) ∷ ok (given.Link 0) ([]) ((0 ∷ 0 ∷ 0 ∷ 28 ∷ 2 ∷ 0 ∷ 0 ∷ 0 ∷ 0 ∷ 83 ∷ 18 ∷ 192 ∷ 15 ∷ 10 ∷ 161 ∷ 1 ∷ 113 ∷ 67 ∷ 66 ∷ 80 ∷ 2 ∷ 80 ∷ 0 ∷ 64 ∷ 64 ∷ 64 ∷ 64 ∷ 67 ∷ []) ∷ []) ∷ ok given.Nothing ([]) ([]) ∷ ok given.Nothing ([]) ((0 ∷ 0 ∷ 0 ∷ 26 ∷ 2 ∷ 0 ∷ 0 ∷ 0 ∷ 0 ∷ 83 ∷ 17 ∷ 192 ∷ 13 ∷ 4 ∷ 64 ∷ 67 ∷ 112 ∷ 0 ∷ 0 ∷ 8 ∷ 0 ∷ 112 ∷ 127 ∷ 255 ∷ 255 ∷ 255 ∷ []) ∷ []) ∷ ok given.Nothing ([]) ([]) ∷ [])
unfolding octets_of frame_refused canon spelled class_of is_utf8 chars encode
drained_once = refl

-- a transfer on a link that we have left uses the window alone; the detach of the peer takes the link away
settled_transfer_on_a_left_link : lines_of (record { first_id = 0; window = 2048; journal_limit = 1073741824 })
    (ask (Opened 65536)
    ∷ ask (Own own.Begin)
    ∷ ask (Heard (record { channel = 0; body = (Some (heard.Begin (record { remote_channel = (Some 0); next_outgoing_id = 0; incoming_window = 2048; outgoing_window = 2147483647; handle_max = None; offered_capabilities = None; desired_capabilities = None; properties = None }))); payload = ([]) }))
    ∷ ask (Own (own.Attach (113 ∷ []) Receiver 2 0 None None 0 0))
    ∷ ask (Heard (record { channel = 0; body = (Some (heard.Attach (record { name = (113 ∷ []); handle = 0; role = Sender; snd_settle_mode = (Some 2); rcv_settle_mode = (Some 0); source = None; target = None; unsettled = None; incomplete_unsettled = None; initial_delivery_count = (Some 0); max_message_size = None; offered_capabilities = None; desired_capabilities = None; properties = None }))); payload = ([]) }))
    ∷ ask (Own (own.Grant 0 2 false false))
    ∷ ask (Own (own.Detach 0 None))
    ∷ ask_link 0
    ∷ ask (Heard (record { channel = 0; body = (Some (heard.Transfer (record { handle = 0; delivery_id = (Some 0); delivery_tag = (Some (1 ∷ [])); message_format = (Some 0); settled = (Some true); more = None; rcv_settle_mode = None; state = None; resume = None; aborted = None; batchable = None }))); payload = (0 ∷ 83 ∷ 117 ∷ 160 ∷ 2 ∷ 104 ∷ 105 ∷ []) }))
    ∷ ask_windows
    ∷ ask (Heard (record { channel = 0; body = (Some (heard.Detach (record { handle = 0; closed = (Some true); error = None }))); payload = ([]) }))
    ∷ ask_link 0
    ∷ ask_windows ∷ [])
    ≡ (windows (record { next_in = (Some 1); incoming = 2047; next_out = 0; remote_in = 2048; remote_out = 2147483646; next_delivery = 0 }) ∷ link None ∷ ok (given.Gone 0) ([]) ([]) ∷ windows (record { next_in = (Some 1); incoming = 2047; next_out = 0; remote_in = 2048; remote_out = 2147483646; next_delivery = 0 }) ∷ ok given.Nothing ([]) ([]) ∷ link (Some (record { role = Receiver; phase = phase.Leaving; count = 0; credit = 2; drain = false; mid = false; ready = 0 })) ∷ ok given.Nothing ([]) ((0 ∷ 0 ∷ 0 ∷ 16 ∷ 2 ∷ 0 ∷ 0 ∷ 0 ∷ 0 ∷ 83 ∷ 22 ∷ 192 ∷ 3 ∷ 2 ∷ 67 ∷ 65 ∷ []) ∷ []) ∷ ok given.Nothing ([]) ((0 ∷ 0 ∷ 0 ∷ 30 ∷ 2 ∷ 0 ∷ 0 ∷ 0 ∷ 0 ∷ 83 ∷ 19 ∷ 192 ∷ 17 ∷ 7 ∷ 67 ∷ 112 ∷ 0 ∷ 0 ∷ 8 ∷ 0 ∷ 67 ∷ 112 ∷ 127 ∷ 255 ∷ 255 ∷ 255 ∷ 67 ∷ 67 ∷ 82 ∷ 2 ∷ []) ∷ []) ∷ ok (given.Attached 0) ([]) ([]) ∷ ok (given.Link 0) ([]) ((0 ∷ 0 ∷ 0 ∷ 23 ∷ 2 ∷ 0 ∷ 0 ∷ 0 ∷ 0 ∷ 83 ∷ 18 ∷ 192 ∷ 10 ∷ 5 ∷ 161 ∷ 1 ∷ 113 ∷ 67 ∷ 65 ∷ 80 ∷ 2 ∷ 80 ∷ 0 ∷ []) ∷ []) ∷ ok given.Nothing ([]) ([]) ∷ ok given.Nothing ([]) ((0 ∷ 0 ∷ 0 ∷ 26 ∷ 2 ∷ 0 ∷ 0 ∷ 0 ∷ 0 ∷ 83 ∷ 17 ∷ 192 ∷ 13 ∷ 4 ∷ 64 ∷ 67 ∷ 112 ∷ 0 ∷ 0 ∷ 8 ∷ 0 ∷ 112 ∷ 127 ∷ 255 ∷ 255 ∷ 255 ∷ []) ∷ []) ∷ ok given.Nothing ([]) ([]) ∷ [])
unfolding octets_of frame_refused canon spelled class_of is_utf8 chars encode
settled_transfer_on_a_left_link = refl

-- a delivery is received and taken once
received_and_taken : lines_of (record { first_id = 0; window = 2048; journal_limit = 1073741824 })
    (ask (Opened 65536)
    ∷ ask (Own own.Begin)
    ∷ ask (Heard (record { channel = 0; body = (Some (heard.Begin (record { remote_channel = (Some 0); next_outgoing_id = 0; incoming_window = 2048; outgoing_window = 2147483647; handle_max = None; offered_capabilities = None; desired_capabilities = None; properties = None }))); payload = ([]) }))
    ∷ ask (Own (own.Attach (113 ∷ []) Receiver 2 0 None None 0 0))
    ∷ ask (Heard (record { channel = 0; body = (Some (heard.Attach (record { name = (113 ∷ []); handle = 0; role = Sender; snd_settle_mode = (Some 2); rcv_settle_mode = (Some 0); source = None; target = None; unsettled = None; incomplete_unsettled = None; initial_delivery_count = (Some 0); max_message_size = None; offered_capabilities = None; desired_capabilities = None; properties = None }))); payload = ([]) }))
    ∷ ask (Own (own.Grant 0 2 false false))
    ∷ ask (Heard (record { channel = 0; body = (Some (heard.Transfer (record { handle = 0; delivery_id = (Some 0); delivery_tag = (Some (1 ∷ [])); message_format = (Some 0); settled = (Some true); more = None; rcv_settle_mode = None; state = None; resume = None; aborted = None; batchable = None }))); payload = (0 ∷ 83 ∷ 117 ∷ 160 ∷ 2 ∷ 104 ∷ 105 ∷ []) }))
    ∷ ask_link 0
    ∷ ask (Own (own.Take 0))
    ∷ ask (Own (own.Take 0))
    ∷ ask_link 0 ∷ [])
    ≡ (link (Some (record { role = Receiver; phase = phase.Attached; count = 1; credit = 1; drain = false; mid = false; ready = 0 })) ∷ refused 25 ∷ ok (given.Taken (record { id = 0; link = 0; tag = (1 ∷ []); format = 0; payload = (0 ∷ 83 ∷ 117 ∷ 160 ∷ 2 ∷ 104 ∷ 105 ∷ []); settled = true; second = false })) ([]) ([]) ∷ link (Some (record { role = Receiver; phase = phase.Attached; count = 1; credit = 1; drain = false; mid = false; ready = 1 })) ∷ ok (given.Ready 0 0) ([]) ([]) ∷ ok given.Nothing ([]) ((0 ∷ 0 ∷ 0 ∷ 30 ∷ 2 ∷ 0 ∷ 0 ∷ 0 ∷ 0 ∷ 83 ∷ 19 ∷ 192 ∷ 17 ∷ 7 ∷ 67 ∷ 112 ∷ 0 ∷ 0 ∷ 8 ∷ 0 ∷ 67 ∷ 112 ∷ 127 ∷ 255 ∷ 255 ∷ 255 ∷ 67 ∷ 67 ∷ 82 ∷ 2 ∷ []) ∷ []) ∷ ok (given.Attached 0) ([]) ([]) ∷ ok (given.Link 0) ([]) ((0 ∷ 0 ∷ 0 ∷ 23 ∷ 2 ∷ 0 ∷ 0 ∷ 0 ∷ 0 ∷ 83 ∷ 18 ∷ 192 ∷ 10 ∷ 5 ∷ 161 ∷ 1 ∷ 113 ∷ 67 ∷ 65 ∷ 80 ∷ 2 ∷ 80 ∷ 0 ∷ []) ∷ []) ∷ ok given.Nothing ([]) ([]) ∷ ok given.Nothing ([]) ((0 ∷ 0 ∷ 0 ∷ 26 ∷ 2 ∷ 0 ∷ 0 ∷ 0 ∷ 0 ∷ 83 ∷ 17 ∷ 192 ∷ 13 ∷ 4 ∷ 64 ∷ 67 ∷ 112 ∷ 0 ∷ 0 ∷ 8 ∷ 0 ∷ 112 ∷ 127 ∷ 255 ∷ 255 ∷ 255 ∷ []) ∷ []) ∷ ok given.Nothing ([]) ([]) ∷ [])
unfolding octets_of frame_refused canon spelled class_of is_utf8 chars encode
received_and_taken = refl

-- grants that are too large, that recede, and while a drain is open
grants : lines_of (record { first_id = 0; window = 2048; journal_limit = 1073741824 })
    (ask (Opened 65536)
    ∷ ask (Own own.Begin)
    ∷ ask (Heard (record { channel = 0; body = (Some (heard.Begin (record { remote_channel = (Some 0); next_outgoing_id = 0; incoming_window = 2048; outgoing_window = 2147483647; handle_max = None; offered_capabilities = None; desired_capabilities = None; properties = None }))); payload = ([]) }))
    ∷ ask (Own (own.Attach (113 ∷ []) Receiver 2 0 None None 0 0))
    ∷ ask (Heard (record { channel = 0; body = (Some (heard.Attach (record { name = (113 ∷ []); handle = 0; role = Sender; snd_settle_mode = (Some 2); rcv_settle_mode = (Some 0); source = None; target = None; unsettled = None; incomplete_unsettled = None; initial_delivery_count = (Some 0); max_message_size = None; offered_capabilities = None; desired_capabilities = None; properties = None }))); payload = ([]) }))
    ∷ ask (Own (own.Grant 0 2 false false))
    ∷ ask (Own (own.Grant 0 2147483648 false false))
    ∷ ask (Own (own.Grant 0 1 false false))
    ∷ ask (Own (own.Grant 0 2 true false))
    ∷ ask (Own (own.Grant 0 3 false false))
    ∷ ask_link 0 ∷ [])
    ≡ (link (Some (record { role = Receiver; phase = phase.Attached; count = 0; credit = 2; drain = true; mid = false; ready = 0 })) ∷ refused 19 ∷ ok given.Nothing ([]) ((0 ∷ 0 ∷ 0 ∷ 32 ∷ 2 ∷ 0 ∷ 0 ∷ 0 ∷ 0 ∷ 83 ∷ 19 ∷ 192 ∷ 19 ∷ 9 ∷ 67 ∷ 112 ∷ 0 ∷ 0 ∷ 8 ∷ 0 ∷ 67 ∷ 112 ∷ 127 ∷ 255 ∷ 255 ∷ 255 ∷ 67 ∷ 67 ∷ 82 ∷ 2 ∷ 64 ∷ 65 ∷ []) ∷ []) ∷ refused 18 ∷ refused 17 ∷ ok given.Nothing ([]) ((0 ∷ 0 ∷ 0 ∷ 30 ∷ 2 ∷ 0 ∷ 0 ∷ 0 ∷ 0 ∷ 83 ∷ 19 ∷ 192 ∷ 17 ∷ 7 ∷ 67 ∷ 112 ∷ 0 ∷ 0 ∷ 8 ∷ 0 ∷ 67 ∷ 112 ∷ 127 ∷ 255 ∷ 255 ∷ 255 ∷ 67 ∷ 67 ∷ 82 ∷ 2 ∷ []) ∷ []) ∷ ok (given.Attached 0) ([]) ([]) ∷ ok (given.Link 0) ([]) ((0 ∷ 0 ∷ 0 ∷ 23 ∷ 2 ∷ 0 ∷ 0 ∷ 0 ∷ 0 ∷ 83 ∷ 18 ∷ 192 ∷ 10 ∷ 5 ∷ 161 ∷ 1 ∷ 113 ∷ 67 ∷ 65 ∷ 80 ∷ 2 ∷ 80 ∷ 0 ∷ []) ∷ []) ∷ ok given.Nothing ([]) ([]) ∷ ok given.Nothing ([]) ((0 ∷ 0 ∷ 0 ∷ 26 ∷ 2 ∷ 0 ∷ 0 ∷ 0 ∷ 0 ∷ 83 ∷ 17 ∷ 192 ∷ 13 ∷ 4 ∷ 64 ∷ 67 ∷ 112 ∷ 0 ∷ 0 ∷ 8 ∷ 0 ∷ 112 ∷ 127 ∷ 255 ∷ 255 ∷ 255 ∷ []) ∷ []) ∷ ok given.Nothing ([]) ([]) ∷ [])
unfolding octets_of frame_refused canon spelled class_of is_utf8 chars encode
grants = refl

-- a link of this role and name is there
name_in_use : lines_of (record { first_id = 0; window = 2048; journal_limit = 1073741824 })
    (ask (Opened 65536)
    ∷ ask (Own own.Begin)
    ∷ ask (Heard (record { channel = 0; body = (Some (heard.Begin (record { remote_channel = (Some 0); next_outgoing_id = 0; incoming_window = 2048; outgoing_window = 2147483647; handle_max = None; offered_capabilities = None; desired_capabilities = None; properties = None }))); payload = ([]) }))
    ∷ ask (Own (own.Attach (113 ∷ []) Sender 2 0 None None 0 0))
    ∷ ask (Heard (record { channel = 0; body = (Some (heard.Attach (record { name = (113 ∷ []); handle = 0; role = Receiver; snd_settle_mode = None; rcv_settle_mode = None; source = None; target = None; unsettled = None; incomplete_unsettled = None; initial_delivery_count = None; max_message_size = None; offered_capabilities = None; desired_capabilities = None; properties = None }))); payload = ([]) }))
    ∷ ask (Own (own.Attach (113 ∷ []) Sender 2 0 None None 0 0)) ∷ [])
    ≡ (refused 8 ∷ ok (given.Attached 0) ([]) ([]) ∷ ok (given.Link 0) ([]) ((0 ∷ 0 ∷ 0 ∷ 28 ∷ 2 ∷ 0 ∷ 0 ∷ 0 ∷ 0 ∷ 83 ∷ 18 ∷ 192 ∷ 15 ∷ 10 ∷ 161 ∷ 1 ∷ 113 ∷ 67 ∷ 66 ∷ 80 ∷ 2 ∷ 80 ∷ 0 ∷ 64 ∷ 64 ∷ 64 ∷ 64 ∷ 67 ∷ []) ∷ []) ∷ ok given.Nothing ([]) ([]) ∷ ok given.Nothing ([]) ((0 ∷ 0 ∷ 0 ∷ 26 ∷ 2 ∷ 0 ∷ 0 ∷ 0 ∷ 0 ∷ 83 ∷ 17 ∷ 192 ∷ 13 ∷ 4 ∷ 64 ∷ 67 ∷ 112 ∷ 0 ∷ 0 ∷ 8 ∷ 0 ∷ 112 ∷ 127 ∷ 255 ∷ 255 ∷ 255 ∷ []) ∷ []) ∷ ok given.Nothing ([]) ([]) ∷ [])
unfolding octets_of frame_refused canon spelled class_of is_utf8 chars encode
name_in_use = refl

-- the peer's handle is in use, or unknown
handle_in_use_and_unknown : lines_of (record { first_id = 0; window = 2048; journal_limit = 1073741824 })
    (ask (Opened 65536)
    ∷ ask (Own own.Begin)
    ∷ ask (Heard (record { channel = 0; body = (Some (heard.Begin (record { remote_channel = (Some 0); next_outgoing_id = 0; incoming_window = 2048; outgoing_window = 2147483647; handle_max = None; offered_capabilities = None; desired_capabilities = None; properties = None }))); payload = ([]) }))
    ∷ ask (Own (own.Attach (113 ∷ []) Sender 2 0 None None 0 0))
    ∷ ask (Heard (record { channel = 0; body = (Some (heard.Attach (record { name = (113 ∷ []); handle = 0; role = Receiver; snd_settle_mode = None; rcv_settle_mode = None; source = None; target = None; unsettled = None; incomplete_unsettled = None; initial_delivery_count = None; max_message_size = None; offered_capabilities = None; desired_capabilities = None; properties = None }))); payload = ([]) }))
    ∷ ask (Heard (record { channel = 0; body = (Some (heard.Attach (record { name = (113 ∷ []); handle = 0; role = Receiver; snd_settle_mode = None; rcv_settle_mode = None; source = None; target = None; unsettled = None; incomplete_unsettled = None; initial_delivery_count = None; max_message_size = None; offered_capabilities = None; desired_capabilities = None; properties = None }))); payload = ([]) }))
    ∷ ask (Heard (record { channel = 0; body = (Some (heard.Detach (record { handle = 5; closed = None; error = None }))); payload = ([]) })) ∷ [])
    ≡ (violated 3 ∷ violated 4 ∷ ok (given.Attached 0) ([]) ([]) ∷ ok (given.Link 0) ([]) ((0 ∷ 0 ∷ 0 ∷ 28 ∷ 2 ∷ 0 ∷ 0 ∷ 0 ∷ 0 ∷ 83 ∷ 18 ∷ 192 ∷ 15 ∷ 10 ∷ 161 ∷ 1 ∷ 113 ∷ 67 ∷ 66 ∷ 80 ∷ 2 ∷ 80 ∷ 0 ∷ 64 ∷ 64 ∷ 64 ∷ 64 ∷ 67 ∷ []) ∷ []) ∷ ok given.Nothing ([]) ([]) ∷ ok given.Nothing ([]) ((0 ∷ 0 ∷ 0 ∷ 26 ∷ 2 ∷ 0 ∷ 0 ∷ 0 ∷ 0 ∷ 83 ∷ 17 ∷ 192 ∷ 13 ∷ 4 ∷ 64 ∷ 67 ∷ 112 ∷ 0 ∷ 0 ∷ 8 ∷ 0 ∷ 112 ∷ 127 ∷ 255 ∷ 255 ∷ 255 ∷ []) ∷ []) ∷ ok given.Nothing ([]) ([]) ∷ [])
unfolding octets_of frame_refused canon spelled class_of is_utf8 chars encode
handle_in_use_and_unknown = refl

-- an end of the peer is answered, and the session stays ended
end_answered : lines_of (record { first_id = 0; window = 2048; journal_limit = 1073741824 })
    (ask (Opened 65536)
    ∷ ask (Own own.Begin)
    ∷ ask (Heard (record { channel = 0; body = (Some (heard.Begin (record { remote_channel = (Some 0); next_outgoing_id = 0; incoming_window = 2048; outgoing_window = 2147483647; handle_max = None; offered_capabilities = None; desired_capabilities = None; properties = None }))); payload = ([]) }))
    ∷ ask (Heard (record { channel = 0; body = (Some (heard.End (record { error = None }))); payload = ([]) }))
    ∷ ask (Own own.Begin)
    ∷ ask_windows ∷ [])
    ≡ (windows (record { next_in = (Some 0); incoming = 2048; next_out = 0; remote_in = 2048; remote_out = 2147483647; next_delivery = 0 }) ∷ refused 3 ∷ ok given.Nothing ([]) ((0 ∷ 0 ∷ 0 ∷ 12 ∷ 2 ∷ 0 ∷ 0 ∷ 0 ∷ 0 ∷ 83 ∷ 23 ∷ 69 ∷ []) ∷ []) ∷ ok given.Nothing ([]) ([]) ∷ ok given.Nothing ([]) ((0 ∷ 0 ∷ 0 ∷ 26 ∷ 2 ∷ 0 ∷ 0 ∷ 0 ∷ 0 ∷ 83 ∷ 17 ∷ 192 ∷ 13 ∷ 4 ∷ 64 ∷ 67 ∷ 112 ∷ 0 ∷ 0 ∷ 8 ∷ 0 ∷ 112 ∷ 127 ∷ 255 ∷ 255 ∷ 255 ∷ []) ∷ []) ∷ ok given.Nothing ([]) ([]) ∷ [])
unfolding octets_of frame_refused canon spelled class_of is_utf8 chars encode
end_answered = refl

-- after our end all frames but the end are dropped
frames_after_our_end : lines_of (record { first_id = 0; window = 2048; journal_limit = 1073741824 })
    (ask (Opened 65536)
    ∷ ask (Own own.Begin)
    ∷ ask (Heard (record { channel = 0; body = (Some (heard.Begin (record { remote_channel = (Some 0); next_outgoing_id = 0; incoming_window = 2048; outgoing_window = 2147483647; handle_max = None; offered_capabilities = None; desired_capabilities = None; properties = None }))); payload = ([]) }))
    ∷ ask (Own (own.Attach (113 ∷ []) Sender 2 0 None None 0 0))
    ∷ ask (Heard (record { channel = 0; body = (Some (heard.Attach (record { name = (113 ∷ []); handle = 0; role = Receiver; snd_settle_mode = None; rcv_settle_mode = None; source = None; target = None; unsettled = None; incomplete_unsettled = None; initial_delivery_count = None; max_message_size = None; offered_capabilities = None; desired_capabilities = None; properties = None }))); payload = ([]) }))
    ∷ ask (Own (own.End None))
    ∷ ask (Heard (record { channel = 0; body = (Some (heard.Flow (record { next_incoming_id = (Some 0); incoming_window = 2048; next_outgoing_id = 0; outgoing_window = 2147483647; handle = (Some 0); delivery_count = (Some 0); link_credit = (Some 5); available = None; drain = None; echo = None; properties = None }))); payload = ([]) }))
    ∷ ask (Heard (record { channel = 0; body = (Some (heard.Begin (record { remote_channel = (Some 0); next_outgoing_id = 0; incoming_window = 2048; outgoing_window = 2147483647; handle_max = None; offered_capabilities = None; desired_capabilities = None; properties = None }))); payload = ([]) }))
    ∷ ask (Heard (record { channel = 0; body = (Some (heard.Attach (record { name = (113 ∷ []); handle = 0; role = Receiver; snd_settle_mode = None; rcv_settle_mode = None; source = None; target = None; unsettled = None; incomplete_unsettled = None; initial_delivery_count = None; max_message_size = None; offered_capabilities = None; desired_capabilities = None; properties = None }))); payload = ([]) }))
    ∷ ask_link 0
    ∷ ask_windows
    ∷ ask (Own own.Begin)
    ∷ ask (Own own.Beat)
    ∷ ask (Own (own.Attach (113 ∷ []) Sender 2 0 None None 0 0))
    ∷ ask (Heard (record { channel = 0; body = (Some (heard.End (record { error = None }))); payload = ([]) }))
    ∷ ask (Heard (record { channel = 0; body = (Some (heard.End (record { error = None }))); payload = ([]) }))
    ∷ ask_windows ∷ [])
    ≡ (windows (record { next_in = (Some 0); incoming = 2048; next_out = 0; remote_in = 2048; remote_out = 2147483647; next_delivery = 0 }) ∷ violated 2 ∷ ok given.Nothing ([]) ([]) ∷ refused 4 ∷ ok given.Nothing ([]) ((0 ∷ 0 ∷ 0 ∷ 8 ∷ 2 ∷ 0 ∷ 0 ∷ 0 ∷ []) ∷ []) ∷ refused 3 ∷ windows (record { next_in = (Some 0); incoming = 2048; next_out = 0; remote_in = 2048; remote_out = 2147483647; next_delivery = 0 }) ∷ link None ∷ ok given.Nothing ([]) ([]) ∷ ok given.Nothing ([]) ([]) ∷ ok given.Nothing ([]) ([]) ∷ ok given.Nothing ([]) ((0 ∷ 0 ∷ 0 ∷ 12 ∷ 2 ∷ 0 ∷ 0 ∷ 0 ∷ 0 ∷ 83 ∷ 23 ∷ 69 ∷ []) ∷ []) ∷ ok (given.Attached 0) ([]) ([]) ∷ ok (given.Link 0) ([]) ((0 ∷ 0 ∷ 0 ∷ 28 ∷ 2 ∷ 0 ∷ 0 ∷ 0 ∷ 0 ∷ 83 ∷ 18 ∷ 192 ∷ 15 ∷ 10 ∷ 161 ∷ 1 ∷ 113 ∷ 67 ∷ 66 ∷ 80 ∷ 2 ∷ 80 ∷ 0 ∷ 64 ∷ 64 ∷ 64 ∷ 64 ∷ 67 ∷ []) ∷ []) ∷ ok given.Nothing ([]) ([]) ∷ ok given.Nothing ([]) ((0 ∷ 0 ∷ 0 ∷ 26 ∷ 2 ∷ 0 ∷ 0 ∷ 0 ∷ 0 ∷ 83 ∷ 17 ∷ 192 ∷ 13 ∷ 4 ∷ 64 ∷ 67 ∷ 112 ∷ 0 ∷ 0 ∷ 8 ∷ 0 ∷ 112 ∷ 127 ∷ 255 ∷ 255 ∷ 255 ∷ []) ∷ []) ∷ ok given.Nothing ([]) ([]) ∷ [])
unfolding octets_of frame_refused canon spelled class_of is_utf8 chars encode
frames_after_our_end = refl

-- a session and links that the peer begins; the lowest free handles
begun_by_the_peer : lines_of (record { first_id = 5; window = 7; journal_limit = 1073741824 })
    (ask (Opened 100)
    ∷ ask (Heard (record { channel = 0; body = (Some (heard.Begin (record { remote_channel = (Some 0); next_outgoing_id = 0; incoming_window = 2048; outgoing_window = 2147483647; handle_max = None; offered_capabilities = None; desired_capabilities = None; properties = None }))); payload = ([]) }))
    ∷ ask (Heard (record { channel = 0; body = (Some (heard.Attach (record { name = (113 ∷ []); handle = 0; role = Receiver; snd_settle_mode = None; rcv_settle_mode = None; source = None; target = None; unsettled = None; incomplete_unsettled = None; initial_delivery_count = None; max_message_size = None; offered_capabilities = None; desired_capabilities = None; properties = None }))); payload = ([]) }))
    ∷ ask (Heard (record { channel = 0; body = (Some (heard.Flow (record { next_incoming_id = (Some 0); incoming_window = 2048; next_outgoing_id = 0; outgoing_window = 2147483647; handle = (Some 0); delivery_count = None; link_credit = (Some 5); available = None; drain = None; echo = None; properties = None }))); payload = ([]) }))
    ∷ ask (Heard (record { channel = 0; body = (Some (heard.Flow (record { next_incoming_id = (Some 255); incoming_window = 2048; next_outgoing_id = 0; outgoing_window = 2147483647; handle = (Some 0); delivery_count = None; link_credit = (Some 7); available = None; drain = None; echo = None; properties = None }))); payload = ([]) }))
    ∷ ask_windows
    ∷ ask_link 0
    ∷ ask (Own (own.Attach (113 ∷ []) Sender 2 0 None None 0 0))
    ∷ ask (Own own.Begin)
    ∷ ask_windows
    ∷ ask (Own (own.Attach (113 ∷ []) Sender 2 0 None None 4294967295 0))
    ∷ ask_link 0
    ∷ ask (Own (own.Attach (114 ∷ []) Receiver 2 0 None None 0 0))
    ∷ ask_link 1
    ∷ ask (Own (own.Attach (115 ∷ []) Receiver 2 0 None None 0 0))
    ∷ ask (Own (own.Detach 0 None))
    ∷ ask (Heard (record { channel = 0; body = (Some (heard.Detach (record { handle = 0; closed = (Some true); error = None }))); payload = ([]) }))
    ∷ ask_link 0
    ∷ ask (Own (own.Attach (116 ∷ []) Receiver 2 0 None None 0 0))
    ∷ ask_link 1
    ∷ ask_link 3 ∷ [])
    ≡ (link (Some (record { role = Receiver; phase = phase.Asked; count = 0; credit = 0; drain = false; mid = false; ready = 0 })) ∷ link (Some (record { role = Receiver; phase = phase.Asked; count = 0; credit = 0; drain = false; mid = false; ready = 0 })) ∷ ok (given.Link 3) ([]) ((0 ∷ 0 ∷ 0 ∷ 23 ∷ 2 ∷ 0 ∷ 0 ∷ 0 ∷ 0 ∷ 83 ∷ 18 ∷ 192 ∷ 10 ∷ 5 ∷ 161 ∷ 1 ∷ 116 ∷ 67 ∷ 65 ∷ 80 ∷ 2 ∷ 80 ∷ 0 ∷ []) ∷ []) ∷ link None ∷ ok (given.Gone 0) ([]) ([]) ∷ ok given.Nothing ([]) ((0 ∷ 0 ∷ 0 ∷ 16 ∷ 2 ∷ 0 ∷ 0 ∷ 0 ∷ 0 ∷ 83 ∷ 22 ∷ 192 ∷ 3 ∷ 2 ∷ 67 ∷ 65 ∷ []) ∷ []) ∷ ok (given.Link 2) ([]) ((0 ∷ 0 ∷ 0 ∷ 24 ∷ 2 ∷ 0 ∷ 0 ∷ 0 ∷ 0 ∷ 83 ∷ 18 ∷ 192 ∷ 11 ∷ 5 ∷ 161 ∷ 1 ∷ 115 ∷ 82 ∷ 2 ∷ 65 ∷ 80 ∷ 2 ∷ 80 ∷ 0 ∷ []) ∷ []) ∷ link (Some (record { role = Receiver; phase = phase.Asked; count = 0; credit = 0; drain = false; mid = false; ready = 0 })) ∷ ok (given.Link 1) ([]) ((0 ∷ 0 ∷ 0 ∷ 24 ∷ 2 ∷ 0 ∷ 0 ∷ 0 ∷ 0 ∷ 83 ∷ 18 ∷ 192 ∷ 11 ∷ 5 ∷ 161 ∷ 1 ∷ 114 ∷ 82 ∷ 1 ∷ 65 ∷ 80 ∷ 2 ∷ 80 ∷ 0 ∷ []) ∷ []) ∷ link (Some (record { role = Sender; phase = phase.Attached; count = 4294967295; credit = 7; drain = false; mid = false; ready = 0 })) ∷ ok (given.Link 0) ([]) ((0 ∷ 0 ∷ 0 ∷ 32 ∷ 2 ∷ 0 ∷ 0 ∷ 0 ∷ 0 ∷ 83 ∷ 18 ∷ 192 ∷ 19 ∷ 10 ∷ 161 ∷ 1 ∷ 113 ∷ 67 ∷ 66 ∷ 80 ∷ 2 ∷ 80 ∷ 0 ∷ 64 ∷ 64 ∷ 64 ∷ 64 ∷ 112 ∷ 255 ∷ 255 ∷ 255 ∷ 255 ∷ []) ∷ []) ∷ windows (record { next_in = (Some 0); incoming = 7; next_out = 5; remote_in = 2048; remote_out = 2147483647; next_delivery = 5 }) ∷ ok given.Nothing ([]) ((0 ∷ 0 ∷ 0 ∷ 26 ∷ 2 ∷ 0 ∷ 0 ∷ 0 ∷ 0 ∷ 83 ∷ 17 ∷ 192 ∷ 13 ∷ 4 ∷ 96 ∷ 0 ∷ 0 ∷ 82 ∷ 5 ∷ 82 ∷ 7 ∷ 112 ∷ 127 ∷ 255 ∷ 255 ∷ 255 ∷ []) ∷ []) ∷ refused 4 ∷ link (Some (record { role = Sender; phase = phase.Offered; count = 0; credit = 7; drain = false; mid = false; ready = 0 })) ∷ windows (record { next_in = (Some 0); incoming = 7; next_out = 5; remote_in = 2048; remote_out = 2147483647; next_delivery = 5 }) ∷ ok given.Nothing ([]) ([]) ∷ ok given.Nothing ([]) ([]) ∷ ok (given.Offered 0) ([]) ([]) ∷ ok given.Nothing ([]) ([]) ∷ ok given.Nothing ([]) ([]) ∷ [])
unfolding octets_of frame_refused canon spelled class_of is_utf8 chars encode
begun_by_the_peer = refl

-- the sender moves its delivery-count on
sender_moves_its_count : lines_of (record { first_id = 0; window = 2048; journal_limit = 1073741824 })
    (ask (Opened 65536)
    ∷ ask (Own own.Begin)
    ∷ ask (Heard (record { channel = 0; body = (Some (heard.Begin (record { remote_channel = (Some 0); next_outgoing_id = 0; incoming_window = 2048; outgoing_window = 2147483647; handle_max = None; offered_capabilities = None; desired_capabilities = None; properties = None }))); payload = ([]) }))
    ∷ ask (Own (own.Attach (113 ∷ []) Receiver 2 0 None None 0 0))
    ∷ ask (Heard (record { channel = 0; body = (Some (heard.Attach (record { name = (113 ∷ []); handle = 0; role = Sender; snd_settle_mode = (Some 2); rcv_settle_mode = (Some 0); source = None; target = None; unsettled = None; incomplete_unsettled = None; initial_delivery_count = (Some 0); max_message_size = None; offered_capabilities = None; desired_capabilities = None; properties = None }))); payload = ([]) }))
    ∷ ask (Own (own.Grant 0 2 false false))
    ∷ ask (Heard (record { channel = 0; body = (Some (heard.Flow (record { next_incoming_id = (Some 0); incoming_window = 2048; next_outgoing_id = 0; outgoing_window = 2147483647; handle = (Some 0); delivery_count = (Some 1); link_credit = None; available = None; drain = None; echo = None; properties = None }))); payload = ([]) }))
    ∷ ask_link 0
    ∷ ask (Heard (record { channel = 0; body = (Some (heard.Flow (record { next_incoming_id = (Some 0); incoming_window = 2048; next_outgoing_id = 0; outgoing_window = 2147483647; handle = (Some 0); delivery_count = (Some 4294967295); link_credit = None; available = None; drain = None; echo = None; properties = None }))); payload = ([]) }))
    ∷ ask_link 0
    ∷ ask (Heard (record { channel = 0; body = (Some (heard.Flow (record { next_incoming_id = (Some 0); incoming_window = 2048; next_outgoing_id = 0; outgoing_window = 2147483647; handle = (Some 0); delivery_count = (Some 3); link_credit = None; available = None; drain = None; echo = None; properties = None }))); payload = ([]) }))
    ∷ ask (Own (own.Grant 0 2 true false))
    ∷ ask_link 0
    ∷ ask (Heard (record { channel = 0; body = (Some (heard.Flow (record { next_incoming_id = (Some 0); incoming_window = 2048; next_outgoing_id = 0; outgoing_window = 2147483647; handle = (Some 0); delivery_count = (Some 3); link_credit = None; available = None; drain = None; echo = None; properties = None }))); payload = ([]) }))
    ∷ ask_link 0
    ∷ ask (Own (own.Grant 0 1 false false))
    ∷ ask_link 0 ∷ [])
    ≡ (link (Some (record { role = Receiver; phase = phase.Attached; count = 3; credit = 1; drain = false; mid = false; ready = 0 })) ∷ ok given.Nothing ([]) ((0 ∷ 0 ∷ 0 ∷ 31 ∷ 2 ∷ 0 ∷ 0 ∷ 0 ∷ 0 ∷ 83 ∷ 19 ∷ 192 ∷ 18 ∷ 7 ∷ 67 ∷ 112 ∷ 0 ∷ 0 ∷ 8 ∷ 0 ∷ 67 ∷ 112 ∷ 127 ∷ 255 ∷ 255 ∷ 255 ∷ 67 ∷ 82 ∷ 3 ∷ 82 ∷ 1 ∷ []) ∷ []) ∷ link (Some (record { role = Receiver; phase = phase.Attached; count = 3; credit = 0; drain = false; mid = false; ready = 0 })) ∷ ok given.Nothing ([]) ([]) ∷ link (Some (record { role = Receiver; phase = phase.Attached; count = 1; credit = 2; drain = true; mid = false; ready = 0 })) ∷ ok given.Nothing ([]) ((0 ∷ 0 ∷ 0 ∷ 33 ∷ 2 ∷ 0 ∷ 0 ∷ 0 ∷ 0 ∷ 83 ∷ 19 ∷ 192 ∷ 20 ∷ 9 ∷ 67 ∷ 112 ∷ 0 ∷ 0 ∷ 8 ∷ 0 ∷ 67 ∷ 112 ∷ 127 ∷ 255 ∷ 255 ∷ 255 ∷ 67 ∷ 82 ∷ 1 ∷ 82 ∷ 2 ∷ 64 ∷ 65 ∷ []) ∷ []) ∷ violated 6 ∷ link (Some (record { role = Receiver; phase = phase.Attached; count = 1; credit = 1; drain = false; mid = false; ready = 0 })) ∷ ok given.Nothing ([]) ([]) ∷ link (Some (record { role = Receiver; phase = phase.Attached; count = 1; credit = 1; drain = false; mid = false; ready = 0 })) ∷ ok given.Nothing ([]) ([]) ∷ ok given.Nothing ([]) ((0 ∷ 0 ∷ 0 ∷ 30 ∷ 2 ∷ 0 ∷ 0 ∷ 0 ∷ 0 ∷ 83 ∷ 19 ∷ 192 ∷ 17 ∷ 7 ∷ 67 ∷ 112 ∷ 0 ∷ 0 ∷ 8 ∷ 0 ∷ 67 ∷ 112 ∷ 127 ∷ 255 ∷ 255 ∷ 255 ∷ 67 ∷ 67 ∷ 82 ∷ 2 ∷ []) ∷ []) ∷ ok (given.Attached 0) ([]) ([]) ∷ ok (given.Link 0) ([]) ((0 ∷ 0 ∷ 0 ∷ 23 ∷ 2 ∷ 0 ∷ 0 ∷ 0 ∷ 0 ∷ 83 ∷ 18 ∷ 192 ∷ 10 ∷ 5 ∷ 161 ∷ 1 ∷ 113 ∷ 67 ∷ 65 ∷ 80 ∷ 2 ∷ 80 ∷ 0 ∷ []) ∷ []) ∷ ok given.Nothing ([]) ([]) ∷ ok given.Nothing ([]) ((0 ∷ 0 ∷ 0 ∷ 26 ∷ 2 ∷ 0 ∷ 0 ∷ 0 ∷ 0 ∷ 83 ∷ 17 ∷ 192 ∷ 13 ∷ 4 ∷ 64 ∷ 67 ∷ 112 ∷ 0 ∷ 0 ∷ 8 ∷ 0 ∷ 112 ∷ 127 ∷ 255 ∷ 255 ∷ 255 ∷ []) ∷ []) ∷ ok given.Nothing ([]) ([]) ∷ [])
unfolding octets_of frame_refused canon spelled class_of is_utf8 chars encode
sender_moves_its_count = refl

-- a link that we are leaving
a_left_link : lines_of (record { first_id = 0; window = 2048; journal_limit = 1073741824 })
    (ask (Opened 65536)
    ∷ ask (Own own.Begin)
    ∷ ask (Heard (record { channel = 0; body = (Some (heard.Begin (record { remote_channel = (Some 0); next_outgoing_id = 0; incoming_window = 2048; outgoing_window = 2147483647; handle_max = None; offered_capabilities = None; desired_capabilities = None; properties = None }))); payload = ([]) }))
    ∷ ask (Own (own.Attach (113 ∷ []) Sender 2 0 None None 0 0))
    ∷ ask (Heard (record { channel = 0; body = (Some (heard.Attach (record { name = (113 ∷ []); handle = 0; role = Receiver; snd_settle_mode = None; rcv_settle_mode = None; source = None; target = None; unsettled = None; incomplete_unsettled = None; initial_delivery_count = None; max_message_size = None; offered_capabilities = None; desired_capabilities = None; properties = None }))); payload = ([]) }))
    ∷ ask (Heard (record { channel = 0; body = (Some (heard.Flow (record { next_incoming_id = (Some 0); incoming_window = 2048; next_outgoing_id = 0; outgoing_window = 2147483647; handle = (Some 0); delivery_count = (Some 0); link_credit = (Some 5); available = None; drain = None; echo = None; properties = None }))); payload = ([]) }))
    ∷ ask (Own (own.Start 0 (1 ∷ []) 0 true (120 ∷ []) false))
    ∷ ask (Own (own.Detach 0 None))
    ∷ ask (Heard (record { channel = 0; body = (Some (heard.Flow (record { next_incoming_id = (Some 0); incoming_window = 2048; next_outgoing_id = 0; outgoing_window = 2147483647; handle = (Some 0); delivery_count = (Some 0); link_credit = (Some 9); available = None; drain = None; echo = None; properties = None }))); payload = ([]) }))
    ∷ ask_link 0
    ∷ ask (Own (own.Start 0 (2 ∷ []) 0 true (120 ∷ []) false))
    ∷ ask (Own (own.Detach 0 None))
    ∷ ask (Own (own.Take 0))
    ∷ ask (Heard (record { channel = 0; body = (Some (heard.Detach (record { handle = 0; closed = (Some true); error = None }))); payload = ([]) }))
    ∷ ask_link 0
    ∷ ask (Own (own.Attach (113 ∷ []) Sender 2 0 None None 0 0))
    ∷ ask_link 1 ∷ [])
    ≡ (link (Some (record { role = Sender; phase = phase.Asked; count = 0; credit = 0; drain = false; mid = false; ready = 0 })) ∷ ok (given.Link 1) ([]) ((0 ∷ 0 ∷ 0 ∷ 28 ∷ 2 ∷ 0 ∷ 0 ∷ 0 ∷ 0 ∷ 83 ∷ 18 ∷ 192 ∷ 15 ∷ 10 ∷ 161 ∷ 1 ∷ 113 ∷ 67 ∷ 66 ∷ 80 ∷ 2 ∷ 80 ∷ 0 ∷ 64 ∷ 64 ∷ 64 ∷ 64 ∷ 67 ∷ []) ∷ []) ∷ link None ∷ ok (given.Gone 0) ([]) ([]) ∷ refused 7 ∷ refused 6 ∷ refused 6 ∷ link (Some (record { role = Sender; phase = phase.Leaving; count = 1; credit = 4; drain = false; mid = false; ready = 0 })) ∷ ok given.Nothing ([]) ([]) ∷ ok given.Nothing ([]) ((0 ∷ 0 ∷ 0 ∷ 16 ∷ 2 ∷ 0 ∷ 0 ∷ 0 ∷ 0 ∷ 83 ∷ 22 ∷ 192 ∷ 3 ∷ 2 ∷ 67 ∷ 65 ∷ []) ∷ []) ∷ ok (given.Delivery 0) ([]) ((0 ∷ 0 ∷ 0 ∷ 22 ∷ 2 ∷ 0 ∷ 0 ∷ 0 ∷ 0 ∷ 83 ∷ 20 ∷ 192 ∷ 8 ∷ 5 ∷ 67 ∷ 67 ∷ 160 ∷ 1 ∷ 1 ∷ 67 ∷ 65 ∷ 120 ∷ []) ∷ []) ∷ ok given.Nothing ([]) ([]) ∷ ok (given.Attached 0) ([]) ([]) ∷ ok (given.Link 0) ([]) ((0 ∷ 0 ∷ 0 ∷ 28 ∷ 2 ∷ 0 ∷ 0 ∷ 0 ∷ 0 ∷ 83 ∷ 18 ∷ 192 ∷ 15 ∷ 10 ∷ 161 ∷ 1 ∷ 113 ∷ 67 ∷ 66 ∷ 80 ∷ 2 ∷ 80 ∷ 0 ∷ 64 ∷ 64 ∷ 64 ∷ 64 ∷ 67 ∷ []) ∷ []) ∷ ok given.Nothing ([]) ([]) ∷ ok given.Nothing ([]) ((0 ∷ 0 ∷ 0 ∷ 26 ∷ 2 ∷ 0 ∷ 0 ∷ 0 ∷ 0 ∷ 83 ∷ 17 ∷ 192 ∷ 13 ∷ 4 ∷ 64 ∷ 67 ∷ 112 ∷ 0 ∷ 0 ∷ 8 ∷ 0 ∷ 112 ∷ 127 ∷ 255 ∷ 255 ∷ 255 ∷ []) ∷ []) ∷ ok given.Nothing ([]) ([]) ∷ [])
unfolding octets_of frame_refused canon spelled class_of is_utf8 chars encode
a_left_link = refl

-- the ids that are expected of the peer
expected_ids : lines_of (record { first_id = 0; window = 2048; journal_limit = 1073741824 })
    (ask (Opened 65536)
    ∷ ask (Own own.Begin)
    ∷ ask (Heard (record { channel = 0; body = (Some (heard.Begin (record { remote_channel = (Some 0); next_outgoing_id = 0; incoming_window = 2048; outgoing_window = 2147483647; handle_max = None; offered_capabilities = None; desired_capabilities = None; properties = None }))); payload = ([]) }))
    ∷ ask (Own (own.Attach (113 ∷ []) Receiver 2 0 None None 0 0))
    ∷ ask (Heard (record { channel = 0; body = (Some (heard.Attach (record { name = (113 ∷ []); handle = 0; role = Sender; snd_settle_mode = (Some 2); rcv_settle_mode = (Some 0); source = None; target = None; unsettled = None; incomplete_unsettled = None; initial_delivery_count = (Some 0); max_message_size = None; offered_capabilities = None; desired_capabilities = None; properties = None }))); payload = ([]) }))
    ∷ ask (Own (own.Grant 0 2 false false))
    ∷ ask (Heard (record { channel = 0; body = (Some (heard.Transfer (record { handle = 0; delivery_id = (Some 0); delivery_tag = (Some (1 ∷ [])); message_format = (Some 0); settled = (Some true); more = None; rcv_settle_mode = None; state = None; resume = None; aborted = None; batchable = None }))); payload = (0 ∷ 83 ∷ 117 ∷ 160 ∷ 2 ∷ 104 ∷ 105 ∷ []) }))
    ∷ ask (Own (own.Detach 0 None))
    ∷ ask (Heard (record { channel = 0; body = (Some (heard.Transfer (record { handle = 0; delivery_id = (Some 1); delivery_tag = (Some (1 ∷ [])); message_format = (Some 0); settled = (Some true); more = None; rcv_settle_mode = None; state = None; resume = None; aborted = None; batchable = None }))); payload = ([]) }))
    ∷ ask (Own (own.Attach (114 ∷ []) Receiver 2 0 None None 0 0))
    ∷ ask (Heard (record { channel = 0; body = (Some (heard.Attach (record { name = (114 ∷ []); handle = 1; role = Sender; snd_settle_mode = (Some 2); rcv_settle_mode = (Some 0); source = None; target = None; unsettled = None; incomplete_unsettled = None; initial_delivery_count = (Some 0); max_message_size = None; offered_capabilities = None; desired_capabilities = None; properties = None }))); payload = ([]) }))
    ∷ ask (Own (own.Grant 1 2 false false))
    ∷ ask (Heard (record { channel = 0; body = (Some (heard.Transfer (record { handle = 1; delivery_id = (Some 1); delivery_tag = (Some (1 ∷ [])); message_format = (Some 0); settled = (Some true); more = None; rcv_settle_mode = None; state = None; resume = None; aborted = None; batchable = None }))); payload = ([]) }))
    ∷ ask (Heard (record { channel = 0; body = (Some (heard.Transfer (record { handle = 1; delivery_id = (Some 2); delivery_tag = (Some (1 ∷ [])); message_format = (Some 0); settled = (Some true); more = None; rcv_settle_mode = None; state = None; resume = None; aborted = None; batchable = None }))); payload = ([]) }))
    ∷ ask_link 1
    ∷ ask (Own (own.Take 1))
    ∷ ask_windows ∷ [])
    ≡ (windows (record { next_in = (Some 3); incoming = 2047; next_out = 0; remote_in = 2048; remote_out = 2147483644; next_delivery = 0 }) ∷ ok (given.Taken (record { id = 2; link = 1; tag = (1 ∷ []); format = 0; payload = ([]); settled = true; second = false })) ([]) ([]) ∷ link (Some (record { role = Receiver; phase = phase.Attached; count = 1; credit = 1; drain = false; mid = false; ready = 1 })) ∷ ok (given.Ready 1 2) ([]) ([]) ∷ violated 9 ∷ ok given.Nothing ([]) ((0 ∷ 0 ∷ 0 ∷ 32 ∷ 2 ∷ 0 ∷ 0 ∷ 0 ∷ 0 ∷ 83 ∷ 19 ∷ 192 ∷ 19 ∷ 7 ∷ 82 ∷ 2 ∷ 112 ∷ 0 ∷ 0 ∷ 8 ∷ 0 ∷ 67 ∷ 112 ∷ 127 ∷ 255 ∷ 255 ∷ 255 ∷ 82 ∷ 1 ∷ 67 ∷ 82 ∷ 2 ∷ []) ∷ []) ∷ ok (given.Attached 1) ([]) ([]) ∷ ok (given.Link 1) ([]) ((0 ∷ 0 ∷ 0 ∷ 24 ∷ 2 ∷ 0 ∷ 0 ∷ 0 ∷ 0 ∷ 83 ∷ 18 ∷ 192 ∷ 11 ∷ 5 ∷ 161 ∷ 1 ∷ 114 ∷ 82 ∷ 1 ∷ 65 ∷ 80 ∷ 2 ∷ 80 ∷ 0 ∷ []) ∷ []) ∷ ok given.Nothing ([]) ([]) ∷ ok given.Nothing ([]) ((0 ∷ 0 ∷ 0 ∷ 16 ∷ 2 ∷ 0 ∷ 0 ∷ 0 ∷ 0 ∷ 83 ∷ 22 ∷ 192 ∷ 3 ∷ 2 ∷ 67 ∷ 65 ∷ []) ∷ []) ∷ ok (given.Ready 0 0) ([]) ([]) ∷ ok given.Nothing ([]) ((0 ∷ 0 ∷ 0 ∷ 30 ∷ 2 ∷ 0 ∷ 0 ∷ 0 ∷ 0 ∷ 83 ∷ 19 ∷ 192 ∷ 17 ∷ 7 ∷ 67 ∷ 112 ∷ 0 ∷ 0 ∷ 8 ∷ 0 ∷ 67 ∷ 112 ∷ 127 ∷ 255 ∷ 255 ∷ 255 ∷ 67 ∷ 67 ∷ 82 ∷ 2 ∷ []) ∷ []) ∷ ok (given.Attached 0) ([]) ([]) ∷ ok (given.Link 0) ([]) ((0 ∷ 0 ∷ 0 ∷ 23 ∷ 2 ∷ 0 ∷ 0 ∷ 0 ∷ 0 ∷ 83 ∷ 18 ∷ 192 ∷ 10 ∷ 5 ∷ 161 ∷ 1 ∷ 113 ∷ 67 ∷ 65 ∷ 80 ∷ 2 ∷ 80 ∷ 0 ∷ []) ∷ []) ∷ ok given.Nothing ([]) ([]) ∷ ok given.Nothing ([]) ((0 ∷ 0 ∷ 0 ∷ 26 ∷ 2 ∷ 0 ∷ 0 ∷ 0 ∷ 0 ∷ 83 ∷ 17 ∷ 192 ∷ 13 ∷ 4 ∷ 64 ∷ 67 ∷ 112 ∷ 0 ∷ 0 ∷ 8 ∷ 0 ∷ 112 ∷ 127 ∷ 255 ∷ 255 ∷ 255 ∷ []) ∷ []) ∷ ok given.Nothing ([]) ([]) ∷ [])
unfolding octets_of frame_refused canon spelled class_of is_utf8 chars encode
expected_ids = refl

-- deliveries of the peer use up the credit
credit_used_up : lines_of (record { first_id = 0; window = 2048; journal_limit = 1073741824 })
    (ask (Opened 65536)
    ∷ ask (Own own.Begin)
    ∷ ask (Heard (record { channel = 0; body = (Some (heard.Begin (record { remote_channel = (Some 0); next_outgoing_id = 0; incoming_window = 2048; outgoing_window = 2147483647; handle_max = None; offered_capabilities = None; desired_capabilities = None; properties = None }))); payload = ([]) }))
    ∷ ask (Own (own.Attach (113 ∷ []) Receiver 2 0 None None 0 0))
    ∷ ask (Heard (record { channel = 0; body = (Some (heard.Attach (record { name = (113 ∷ []); handle = 0; role = Sender; snd_settle_mode = (Some 2); rcv_settle_mode = (Some 0); source = None; target = None; unsettled = None; incomplete_unsettled = None; initial_delivery_count = (Some 0); max_message_size = None; offered_capabilities = None; desired_capabilities = None; properties = None }))); payload = ([]) }))
    ∷ ask (Own (own.Grant 0 2 false false))
    ∷ ask (Own (own.Grant 0 2 true false))
    ∷ ask (Heard (record { channel = 0; body = (Some (heard.Transfer (record { handle = 0; delivery_id = (Some 0); delivery_tag = (Some (1 ∷ [])); message_format = (Some 0); settled = (Some true); more = None; rcv_settle_mode = None; state = None; resume = None; aborted = None; batchable = None }))); payload = (0 ∷ 83 ∷ 117 ∷ 160 ∷ 2 ∷ 104 ∷ 105 ∷ []) }))
    ∷ ask (Heard (record { channel = 0; body = (Some (heard.Transfer (record { handle = 0; delivery_id = (Some 1); delivery_tag = (Some (1 ∷ [])); message_format = (Some 0); settled = (Some true); more = None; rcv_settle_mode = None; state = None; resume = None; aborted = None; batchable = None }))); payload = (0 ∷ 83 ∷ 117 ∷ 160 ∷ 2 ∷ 104 ∷ 105 ∷ []) }))
    ∷ ask (Heard (record { channel = 0; body = (Some (heard.Transfer (record { handle = 0; delivery_id = (Some 2); delivery_tag = (Some (1 ∷ [])); message_format = (Some 0); settled = (Some true); more = None; rcv_settle_mode = None; state = None; resume = None; aborted = None; batchable = None }))); payload = (0 ∷ 83 ∷ 117 ∷ 160 ∷ 2 ∷ 104 ∷ 105 ∷ []) }))
    ∷ ask_link 0
    ∷ ask (Own (own.Take 0))
    ∷ ask (Own (own.Take 0))
    ∷ ask (Own (own.Take 0)) ∷ [])
    ≡ (refused 25 ∷ ok (given.Taken (record { id = 1; link = 0; tag = (1 ∷ []); format = 0; payload = (0 ∷ 83 ∷ 117 ∷ 160 ∷ 2 ∷ 104 ∷ 105 ∷ []); settled = true; second = false })) ([]) ([]) ∷ ok (given.Taken (record { id = 0; link = 0; tag = (1 ∷ []); format = 0; payload = (0 ∷ 83 ∷ 117 ∷ 160 ∷ 2 ∷ 104 ∷ 105 ∷ []); settled = true; second = false })) ([]) ([]) ∷ link (Some (record { role = Receiver; phase = phase.Attached; count = 2; credit = 0; drain = false; mid = false; ready = 2 })) ∷ violated 12 ∷ ok (given.Ready 0 1) ([]) ([]) ∷ ok (given.Ready 0 0) ([]) ([]) ∷ ok given.Nothing ([]) ((0 ∷ 0 ∷ 0 ∷ 32 ∷ 2 ∷ 0 ∷ 0 ∷ 0 ∷ 0 ∷ 83 ∷ 19 ∷ 192 ∷ 19 ∷ 9 ∷ 67 ∷ 112 ∷ 0 ∷ 0 ∷ 8 ∷ 0 ∷ 67 ∷ 112 ∷ 127 ∷ 255 ∷ 255 ∷ 255 ∷ 67 ∷ 67 ∷ 82 ∷ 2 ∷ 64 ∷ 65 ∷ []) ∷ []) ∷ ok given.Nothing ([]) ((0 ∷ 0 ∷ 0 ∷ 30 ∷ 2 ∷ 0 ∷ 0 ∷ 0 ∷ 0 ∷ 83 ∷ 19 ∷ 192 ∷ 17 ∷ 7 ∷ 67 ∷ 112 ∷ 0 ∷ 0 ∷ 8 ∷ 0 ∷ 67 ∷ 112 ∷ 127 ∷ 255 ∷ 255 ∷ 255 ∷ 67 ∷ 67 ∷ 82 ∷ 2 ∷ []) ∷ []) ∷ ok (given.Attached 0) ([]) ([]) ∷ ok (given.Link 0) ([]) ((0 ∷ 0 ∷ 0 ∷ 23 ∷ 2 ∷ 0 ∷ 0 ∷ 0 ∷ 0 ∷ 83 ∷ 18 ∷ 192 ∷ 10 ∷ 5 ∷ 161 ∷ 1 ∷ 113 ∷ 67 ∷ 65 ∷ 80 ∷ 2 ∷ 80 ∷ 0 ∷ []) ∷ []) ∷ ok given.Nothing ([]) ([]) ∷ ok given.Nothing ([]) ((0 ∷ 0 ∷ 0 ∷ 26 ∷ 2 ∷ 0 ∷ 0 ∷ 0 ∷ 0 ∷ 83 ∷ 17 ∷ 192 ∷ 13 ∷ 4 ∷ 64 ∷ 67 ∷ 112 ∷ 0 ∷ 0 ∷ 8 ∷ 0 ∷ 112 ∷ 127 ∷ 255 ∷ 255 ∷ 255 ∷ []) ∷ []) ∷ ok given.Nothing ([]) ([]) ∷ [])
unfolding octets_of frame_refused canon spelled class_of is_utf8 chars encode
credit_used_up = refl
