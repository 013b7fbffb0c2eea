-- Random scripts, with the answers of an independent model of the endpoint: the definitions give the same.
use Rattle.std.proofs.Common.{◌≡◌, true, false, Some, None, [], ◌∷◌, refl}
use Rattle.std.specs.Str.{chars, is_utf8}
use lib.Utf8.{encode}
use Rattle.amqp_types.specs.Canon.{canon, spelled}
use Rattle.amqp_types.specs.Codes.{class_of}
use Rattle.amqp_performatives.specs.declared.bodies.Role.TheVariants.{Sender, Receiver}
use Rattle.amqp_performatives.specs.declared.performative.Performative.TheVariants as heard
use Rattle.amqp_performatives.specs.declared.state.DeliveryState.TheVariants as state
use Rattle.amqp_rules.specs.declared.op.Op.TheVariants as own
use Rattle.amqp_rules.specs.declared.reply.Given.TheVariants as given
use Rattle.amqp_rules.specs.declared.status.LinkPhase.TheVariants as phase
use Rattle.amqp_rules.specs.Sending.{octets_of, frame_refused}
use Rattle.amqp_laws.specs.declared.entry.Step.TheVariants.{Opened, Own, Heard}
use Rattle.amqp_laws.proofs.Scripts.{ask, ask_windows, ask_link, ask_held, ok, refused, violated, windows, link, held, short_lines_of}

random_000 : short_lines_of (record { first_id = 0; window = 5; journal_limit = 1073741824 })
    (ask (Opened 65536)
    ∷ ask (Own own.Begin)
    ∷ ask (Own (own.Attach (97 ∷ 195 ∷ 169 ∷ []) Sender 2 0 None None 0 4))
    ∷ ask (Heard (record { channel = 0; body = (Some (heard.Attach (record { name = (97 ∷ 195 ∷ 169 ∷ []); handle = 0; role = Receiver; snd_settle_mode = (Some 2); rcv_settle_mode = (Some 0); source = None; target = None; unsettled = None; incomplete_unsettled = None; initial_delivery_count = None; max_message_size = (Some 1); offered_capabilities = None; desired_capabilities = None; properties = None }))); payload = ([]) }))
    ∷ ask (Heard (record { channel = 0; body = (Some (heard.Flow (record { next_incoming_id = (Some 0); incoming_window = 2; next_outgoing_id = 0; outgoing_window = 0; handle = None; delivery_count = None; link_credit = None; available = None; drain = None; echo = (Some false); properties = None }))); payload = ([]) }))
    ∷ ask (Own (own.Attach (97 ∷ 195 ∷ 169 ∷ []) Receiver 1 0 None None 0 18446744073709551615))
    ∷ ask (Heard (record { channel = 0; body = (Some (heard.Flow (record { next_incoming_id = (Some 0); incoming_window = 2048; next_outgoing_id = 0; outgoing_window = 2048; handle = None; delivery_count = None; link_credit = None; available = None; drain = None; echo = (Some true); properties = None }))); payload = ([]) }))
    ∷ ask (Heard (record { channel = 0; body = (Some (heard.Attach (record { name = (97 ∷ 195 ∷ 169 ∷ []); handle = 0; role = Sender; snd_settle_mode = (Some 2); rcv_settle_mode = (Some 0); source = None; target = None; unsettled = None; incomplete_unsettled = (Some true); initial_delivery_count = (Some 5); max_message_size = None; offered_capabilities = None; desired_capabilities = None; properties = None }))); payload = ([]) }))
    ∷ ask (Own (own.Grant 7 1 false false))
    ∷ ask (Own (own.Attach (113 ∷ []) Receiver 2 1 None None 5 300))
    ∷ ask (Heard (record { channel = 0; body = (Some (heard.Attach (record { name = (113 ∷ []); handle = 0; role = Sender; snd_settle_mode = None; rcv_settle_mode = None; source = None; target = None; unsettled = None; incomplete_unsettled = (Some true); initial_delivery_count = None; max_message_size = None; offered_capabilities = None; desired_capabilities = None; properties = None }))); payload = ([]) }))
    ∷ ask (Own (own.Grant 7 100 false false))
    ∷ ask (Heard (record { channel = 0; body = (Some (heard.Begin (record { remote_channel = (Some 7); next_outgoing_id = 4294967295; incoming_window = 4294967295; outgoing_window = 4294967295; handle_max = None; offered_capabilities = None; desired_capabilities = None; properties = None }))); payload = ([]) }))
    ∷ ask (Heard (record { channel = 0; body = (Some (heard.Flow (record { next_incoming_id = (Some 0); incoming_window = 2048; next_outgoing_id = 4294967295; outgoing_window = 2147483647; handle = None; delivery_count = None; link_credit = None; available = (Some 5); drain = None; echo = (Some true); properties = None }))); payload = ([]) }))
    ∷ ask (Own own.Beat)
    ∷ ask (Own (own.Refresh false))
    ∷ ask_link 3
    ∷ ask (Own own.Beat)
    ∷ ask (Own own.Beat)
    ∷ ask (Heard (record { channel = 0; body = (Some (heard.Attach (record { name = (122 ∷ []); handle = 0; role = Sender; snd_settle_mode = (Some 0); rcv_settle_mode = None; source = None; target = None; unsettled = None; incomplete_unsettled = None; initial_delivery_count = (Some 0); max_message_size = (Some 18446744073709551615); offered_capabilities = None; desired_capabilities = None; properties = None }))); payload = ([]) }))
    ∷ ask_held Receiver
    ∷ ask (Heard (record { channel = 0; body = (Some (heard.Flow (record { next_incoming_id = (Some 0); incoming_window = 2048; next_outgoing_id = 2267133431; outgoing_window = 3; handle = None; delivery_count = None; link_credit = None; available = None; drain = None; echo = None; properties = None }))); payload = ([]) }))
    ∷ ask (Heard (record { channel = 0; body = (Some (heard.Attach (record { name = (121 ∷ []); handle = 1; role = Receiver; snd_settle_mode = None; rcv_settle_mode = None; source = None; target = None; unsettled = None; incomplete_unsettled = None; initial_delivery_count = None; max_message_size = None; offered_capabilities = None; desired_capabilities = None; properties = None }))); payload = ([]) }))
    ∷ ask (Own (own.Attach (121 ∷ []) Sender 2 0 None None 4294967294 0))
    ∷ ask (Heard (record { channel = 0; body = (Some (heard.Flow (record { next_incoming_id = (Some 0); incoming_window = 2048; next_outgoing_id = 2267133431; outgoing_window = 3; handle = (Some 1); delivery_count = (Some 4294967294); link_credit = (Some 10); available = None; drain = (Some true); echo = (Some true); properties = None }))); payload = ([]) }))
    ∷ ask (Own (own.Start 1 (107 ∷ 132 ∷ []) 0 false (120 ∷ []) true))
    ∷ ask (Heard (record { channel = 0; body = (Some (heard.Disposition (record { role = Receiver; first = 0; last = (Some 0); settled = None; state = None; batchable = None }))); payload = ([]) }))
    ∷ ask_windows
    ∷ ask (Own (own.Start 1 (226 ∷ 225 ∷ []) 256 false (120 ∷ 120 ∷ 120 ∷ []) false))
    ∷ ask (Own (own.Attach (113 ∷ []) Receiver 2 0 None None 2147483647 4))
    ∷ ask (Heard (record { channel = 0; body = (Some (heard.Flow (record { next_incoming_id = (Some 1); incoming_window = 5; next_outgoing_id = 2267133431; outgoing_window = 4294967295; handle = (Some 0); delivery_count = (Some 1); link_credit = None; available = None; drain = (Some true); echo = None; properties = None }))); payload = ([]) }))
    ∷ ask (Heard (record { channel = 0; body = (Some (heard.Attach (record { name = (113 ∷ []); handle = 2; role = Sender; snd_settle_mode = (Some 0); rcv_settle_mode = None; source = None; target = None; unsettled = None; incomplete_unsettled = None; initial_delivery_count = (Some 5); max_message_size = None; offered_capabilities = None; desired_capabilities = None; properties = None }))); payload = ([]) }))
    ∷ ask (Own (own.Grant 7 5 false false))
    ∷ ask (Own (own.Carry 1 (120 ∷ 120 ∷ 120 ∷ []) true))
    ∷ ask_link 1
    ∷ ask (Own (own.Grant 2 2 false false))
    ∷ ask (Own (own.Carry 1 (120 ∷ 120 ∷ []) true))
    ∷ ask_windows
    ∷ ask_link 0
    ∷ ask_link 1
    ∷ ask_link 2
    ∷ ask_link 3
    ∷ ask_held Sender
    ∷ ask_held Receiver ∷ [])
    ≡ (held ([]) ∷ held (record { id = 0; link = 1; tag = (107 ∷ 132 ∷ []); second = false; local = None; remote = None } ∷ []) ∷ link None ∷ link (Some (record { role = Receiver; phase = phase.Attached; count = 5; credit = 2; drain = false; mid = false; ready = 0 })) ∷ link (Some (record { role = Sender; phase = phase.Attached; count = 4294967295; credit = 9; drain = true; mid = true; ready = 0 })) ∷ link (Some (record { role = Receiver; phase = phase.Offered; count = 0; credit = 0; drain = false; mid = false; ready = 0 })) ∷ windows (record { next_in = (Some 2267133431); incoming = 5; next_out = 3; remote_in = 3; remote_out = 4294967295; next_delivery = 1 }) ∷ ok given.Nothing ([]) ([] ∷ []) ∷ ok given.Nothing ([]) ([] ∷ []) ∷ link (Some (record { role = Sender; phase = phase.Attached; count = 4294967295; credit = 9; drain = true; mid = true; ready = 0 })) ∷ ok given.Nothing ([]) ([] ∷ []) ∷ refused 5 ∷ ok (given.Attached 2) ([]) ([]) ∷ ok given.Nothing ([]) ([]) ∷ ok (given.Link 2) ([]) ([] ∷ []) ∷ refused 10 ∷ windows (record { next_in = (Some 2267133431); incoming = 5; next_out = 1; remote_in = 2047; remote_out = 3; next_delivery = 1 }) ∷ ok given.Nothing ([]) ([]) ∷ ok (given.Delivery 0) ([]) ([] ∷ []) ∷ ok given.Nothing ([]) ([] ∷ []) ∷ ok (given.Link 1) ([]) ([] ∷ []) ∷ ok (given.Offered 1) ([]) ([]) ∷ ok given.Nothing ([]) ([]) ∷ held ([]) ∷ ok (given.Offered 0) ([]) ([]) ∷ ok given.Nothing ([]) ([] ∷ []) ∷ ok given.Nothing ([]) ([] ∷ []) ∷ link None ∷ ok given.Nothing ([]) ([] ∷ []) ∷ ok given.Nothing ([]) ([] ∷ []) ∷ ok given.Nothing ([]) ([] ∷ []) ∷ ok given.Nothing ([]) ([]) ∷ refused 4 ∷ violated 2 ∷ refused 4 ∷ refused 4 ∷ violated 2 ∷ violated 2 ∷ refused 4 ∷ violated 2 ∷ violated 2 ∷ refused 4 ∷ ok given.Nothing ([]) ([] ∷ []) ∷ ok given.Nothing ([]) ([]) ∷ [])
unfolding octets_of frame_refused canon spelled class_of is_utf8 chars encode
random_000 = refl

random_001 : short_lines_of (record { first_id = 0; window = 2048; journal_limit = 1073741824 })
    (ask (Own own.Begin)
    ∷ ask (Heard (record { channel = 0; body = (Some (heard.Begin (record { remote_channel = (Some 0); next_outgoing_id = 4294967295; incoming_window = 3; outgoing_window = 2147483647; handle_max = (Some 0); offered_capabilities = None; desired_capabilities = None; properties = None }))); payload = ([]) }))
    ∷ ask (Own (own.Attach (113 ∷ []) Receiver 0 1 None None 0 4))
    ∷ ask (Heard (record { channel = 0; body = (Some (heard.Attach (record { name = (113 ∷ []); handle = 3; role = Sender; snd_settle_mode = (Some 2); rcv_settle_mode = None; source = None; target = None; unsettled = None; incomplete_unsettled = None; initial_delivery_count = (Some 2147483648); max_message_size = None; offered_capabilities = None; desired_capabilities = None; properties = None }))); payload = ([]) }))
    ∷ ask (Own (own.Grant 0 1 false false))
    ∷ ask (Heard (record { channel = 0; body = (Some (heard.Transfer (record { handle = 3; delivery_id = (Some 0); delivery_tag = (Some (3 ∷ 3 ∷ 3 ∷ 3 ∷ 3 ∷ 3 ∷ 3 ∷ 3 ∷ 3 ∷ 3 ∷ 3 ∷ 3 ∷ 3 ∷ 3 ∷ 3 ∷ 3 ∷ 3 ∷ 3 ∷ 3 ∷ 3 ∷ 3 ∷ 3 ∷ 3 ∷ 3 ∷ 3 ∷ 3 ∷ 3 ∷ 3 ∷ 3 ∷ 3 ∷ 3 ∷ 3 ∷ [])); message_format = (Some 4294967295); settled = None; more = None; rcv_settle_mode = None; state = None; resume = None; aborted = None; batchable = None }))); payload = (120 ∷ []) }))
    ∷ ask (Own (own.Dispose Receiver 0 0 false None))
    ∷ ask (Own (own.Grant 0 1 false false))
    ∷ ask_held Receiver
    ∷ ask (Heard (record { channel = 0; body = (Some (heard.Transfer (record { handle = 3; delivery_id = (Some 0); delivery_tag = (Some (69 ∷ 204 ∷ [])); message_format = None; settled = (Some false); more = (Some false); rcv_settle_mode = (Some 1); state = (Some state.Accepted); resume = None; aborted = None; batchable = None }))); payload = (120 ∷ []) }))
    ∷ ask (Own (own.Attach (122 ∷ []) Sender 2 0 None None 2147483647 6))
    ∷ ask (Heard (record { channel = 0; body = (Some (heard.Attach (record { name = (122 ∷ []); handle = 0; role = Receiver; snd_settle_mode = None; rcv_settle_mode = (Some 1); source = None; target = None; unsettled = None; incomplete_unsettled = None; initial_delivery_count = None; max_message_size = None; offered_capabilities = None; desired_capabilities = None; properties = None }))); payload = ([]) }))
    ∷ ask (Heard (record { channel = 0; body = (Some (heard.Flow (record { next_incoming_id = (Some 4294967295); incoming_window = 2048; next_outgoing_id = 0; outgoing_window = 2048; handle = None; delivery_count = None; link_credit = None; available = None; drain = None; echo = (Some true); properties = None }))); payload = ([]) }))
    ∷ ask (Heard (record { channel = 65535; body = (Some (heard.Disposition (record { role = Sender; first = 0; last = None; settled = None; state = None; batchable = None }))); payload = ([]) }))
    ∷ ask_windows
    ∷ ask (Own own.Beat)
    ∷ ask (Own (own.Dispose Receiver 0 0 false (Some state.Accepted)))
    ∷ ask (Own (own.Take 0))
    ∷ ask (Own (own.Take 3))
    ∷ ask (Heard (record { channel = 0; body = (Some (heard.Transfer (record { handle = 3; delivery_id = (Some 1); delivery_tag = (Some (68 ∷ 238 ∷ [])); message_format = None; settled = (Some false); more = (Some true); rcv_settle_mode = (Some 1); state = None; resume = None; aborted = (Some true); batchable = None }))); payload = (120 ∷ 120 ∷ 120 ∷ []) }))
    ∷ ask (Heard (record { channel = 0; body = (Some (heard.Disposition (record { role = Sender; first = 0; last = None; settled = (Some true); state = None; batchable = None }))); payload = ([]) }))
    ∷ ask (Own (own.Attach (121 ∷ []) Sender 2 0 None None 2147483647 1))
    ∷ ask (Heard (record { channel = 0; body = (Some (heard.Attach (record { name = (121 ∷ []); handle = 1; role = Receiver; snd_settle_mode = (Some 0); rcv_settle_mode = None; source = None; target = None; unsettled = None; incomplete_unsettled = None; initial_delivery_count = None; max_message_size = None; offered_capabilities = None; desired_capabilities = None; properties = None }))); payload = ([]) }))
    ∷ ask (Own (own.Grant 0 100 false false))
    ∷ ask_link 1
    ∷ ask_windows
    ∷ ask_link 0
    ∷ ask_link 1
    ∷ ask_link 2
    ∷ ask_link 3
    ∷ ask_held Sender
    ∷ ask_held Receiver ∷ [])
    ≡ (held ([]) ∷ held ([]) ∷ link None ∷ link (Some (record { role = Sender; phase = phase.Offered; count = 0; credit = 0; drain = false; mid = false; ready = 0 })) ∷ link (Some (record { role = Sender; phase = phase.Offered; count = 0; credit = 0; drain = false; mid = false; ready = 0 })) ∷ link (Some (record { role = Receiver; phase = phase.Attached; count = 2147483650; credit = 100; drain = false; mid = false; ready = 0 })) ∷ windows (record { next_in = (Some 1); incoming = 2048; next_out = 0; remote_in = 3; remote_out = 2147483645; next_delivery = 0 }) ∷ link (Some (record { role = Sender; phase = phase.Offered; count = 0; credit = 0; drain = false; mid = false; ready = 0 })) ∷ ok given.Nothing ([]) ([] ∷ []) ∷ ok (given.Offered 2) ([]) ([]) ∷ refused 9 ∷ ok given.Nothing ((Receiver, 0) ∷ []) ([]) ∷ ok given.Nothing ([]) ([]) ∷ refused 5 ∷ ok (given.Taken (record { id = 0; link = 0; tag = (3 ∷ 3 ∷ 3 ∷ 3 ∷ 3 ∷ 3 ∷ 3 ∷ 3 ∷ 3 ∷ 3 ∷ 3 ∷ 3 ∷ 3 ∷ 3 ∷ 3 ∷ 3 ∷ 3 ∷ 3 ∷ 3 ∷ 3 ∷ 3 ∷ 3 ∷ 3 ∷ 3 ∷ 3 ∷ 3 ∷ 3 ∷ 3 ∷ 3 ∷ 3 ∷ 3 ∷ 3 ∷ []); format = 4294967295; payload = (120 ∷ []); settled = false; second = true })) ([]) ([]) ∷ ok given.Nothing ([]) ([] ∷ []) ∷ ok given.Nothing ([]) ([] ∷ []) ∷ windows (record { next_in = (Some 0); incoming = 2048; next_out = 0; remote_in = 3; remote_out = 2147483646; next_delivery = 0 }) ∷ ok given.Nothing ([]) ([]) ∷ violated 6 ∷ ok (given.Offered 1) ([]) ([]) ∷ refused 9 ∷ violated 9 ∷ held (record { id = 0; link = 0; tag = (3 ∷ 3 ∷ 3 ∷ 3 ∷ 3 ∷ 3 ∷ 3 ∷ 3 ∷ 3 ∷ 3 ∷ 3 ∷ 3 ∷ 3 ∷ 3 ∷ 3 ∷ 3 ∷ 3 ∷ 3 ∷ 3 ∷ 3 ∷ 3 ∷ 3 ∷ 3 ∷ 3 ∷ 3 ∷ 3 ∷ 3 ∷ 3 ∷ 3 ∷ 3 ∷ 3 ∷ 3 ∷ []); second = true; local = None; remote = None } ∷ []) ∷ ok given.Nothing ([]) ([] ∷ []) ∷ ok given.Nothing ([]) ([] ∷ []) ∷ ok (given.Ready 0 0) ([]) ([]) ∷ ok given.Nothing ([]) ([] ∷ []) ∷ ok (given.Attached 0) ([]) ([]) ∷ ok (given.Link 0) ([]) ([] ∷ []) ∷ ok given.Nothing ([]) ([]) ∷ ok given.Nothing ([]) ([] ∷ []) ∷ [])
unfolding octets_of frame_refused canon spelled class_of is_utf8 chars encode
random_001 = refl

random_002 : short_lines_of (record { first_id = 4294967294; window = 2048; journal_limit = 1073741824 })
    (ask (Opened 512)
    ∷ ask (Own own.Begin)
    ∷ ask (Heard (record { channel = 0; body = (Some (heard.Begin (record { remote_channel = (Some 0); next_outgoing_id = 1738859352; incoming_window = 3; outgoing_window = 2; handle_max = (Some 1); offered_capabilities = None; desired_capabilities = None; properties = None }))); payload = ([]) }))
    ∷ ask (Own (own.Attach (113 ∷ []) Receiver 1 0 None None 2147483647 0))
    ∷ ask (Heard (record { channel = 0; body = (Some (heard.Attach (record { name = (113 ∷ []); handle = 0; role = Sender; snd_settle_mode = None; rcv_settle_mode = None; source = None; target = None; unsettled = None; incomplete_unsettled = None; initial_delivery_count = (Some 4294967295); max_message_size = None; offered_capabilities = None; desired_capabilities = None; properties = None }))); payload = ([]) }))
    ∷ ask (Own (own.Grant 0 2 false false))
    ∷ ask (Own (own.Attach (97 ∷ 195 ∷ 169 ∷ []) Sender 0 0 None None 2147483647 0))
    ∷ ask (Heard (record { channel = 0; body = (Some (heard.Attach (record { name = (97 ∷ 195 ∷ 169 ∷ []); handle = 1; role = Receiver; snd_settle_mode = None; rcv_settle_mode = None; source = None; target = None; unsettled = None; incomplete_unsettled = None; initial_delivery_count = None; max_message_size = (Some 300); offered_capabilities = None; desired_capabilities = None; properties = None }))); payload = ([]) }))
    ∷ ask (Heard (record { channel = 0; body = (Some (heard.Flow (record { next_incoming_id = (Some 4294967294); incoming_window = 5; next_outgoing_id = 1738859352; outgoing_window = 0; handle = (Some 1); delivery_count = (Some 2147483645); link_credit = (Some 2); available = None; drain = (Some false); echo = (Some true); properties = None }))); payload = ([]) }))
    ∷ ask (Own (own.Attach (121 ∷ []) Receiver 2 1 None None 0 0))
    ∷ ask (Heard (record { channel = 0; body = (Some (heard.Attach (record { name = (121 ∷ []); handle = 2; role = Sender; snd_settle_mode = None; rcv_settle_mode = (Some 0); source = None; target = None; unsettled = None; incomplete_unsettled = None; initial_delivery_count = (Some 0); max_message_size = None; offered_capabilities = None; desired_capabilities = None; properties = None }))); payload = ([]) }))
    ∷ ask (Own (own.Grant 0 0 true false))
    ∷ ask (Own (own.Take 1))
    ∷ ask (Heard (record { channel = 0; body = (Some (heard.Transfer (record { handle = 0; delivery_id = (Some 4294967294); delivery_tag = (Some (195 ∷ 26 ∷ [])); message_format = None; settled = (Some true); more = None; rcv_settle_mode = None; state = None; resume = None; aborted = None; batchable = None }))); payload = (120 ∷ 120 ∷ []) }))
    ∷ ask_held Receiver
    ∷ ask (Heard (record { channel = 0; body = (Some (heard.Flow (record { next_incoming_id = (Some 4294967294); incoming_window = 2048; next_outgoing_id = 1738859353; outgoing_window = 0; handle = (Some 1); delivery_count = (Some 2147483647); link_credit = (Some 0); available = None; drain = None; echo = None; properties = None }))); payload = ([]) }))
    ∷ ask_windows
    ∷ ask (Heard (record { channel = 0; body = (Some (heard.Disposition (record { role = Sender; first = 0; last = (Some 2147483648); settled = None; state = None; batchable = None }))); payload = ([]) }))
    ∷ ask_windows
    ∷ ask (Own (own.Detach 1 None))
    ∷ ask_link 2
    ∷ ask (Own (own.Grant 0 3 false true))
    ∷ ask (Own (own.Take 0))
    ∷ ask (Opened 511)
    ∷ ask (Heard (record { channel = 0; body = (Some (heard.Detach (record { handle = 1; closed = (Some true); error = None }))); payload = ([]) }))
    ∷ ask (Own (own.Grant 0 5 false true))
    ∷ ask (Heard (record { channel = 0; body = (Some (heard.Transfer (record { handle = 0; delivery_id = (Some 4294967295); delivery_tag = None; message_format = None; settled = (Some false); more = None; rcv_settle_mode = (Some 1); state = None; resume = None; aborted = None; batchable = None }))); payload = (120 ∷ []) }))
    ∷ ask_link 2
    ∷ ask (Heard (record { channel = 0; body = (Some (heard.Transfer (record { handle = 0; delivery_id = (Some 4294967295); delivery_tag = (Some (200 ∷ 219 ∷ [])); message_format = (Some 0); settled = None; more = (Some true); rcv_settle_mode = None; state = None; resume = (Some true); aborted = None; batchable = None }))); payload = (120 ∷ 120 ∷ 120 ∷ 120 ∷ 120 ∷ 120 ∷ 120 ∷ 120 ∷ 120 ∷ 120 ∷ 120 ∷ 120 ∷ 120 ∷ 120 ∷ 120 ∷ 120 ∷ 120 ∷ 120 ∷ 120 ∷ 120 ∷ 120 ∷ 120 ∷ 120 ∷ 120 ∷ 120 ∷ 120 ∷ 120 ∷ 120 ∷ 120 ∷ 120 ∷ 120 ∷ 120 ∷ 120 ∷ 120 ∷ 120 ∷ 120 ∷ 120 ∷ 120 ∷ 120 ∷ 120 ∷ 120 ∷ 120 ∷ 120 ∷ 120 ∷ 120 ∷ 120 ∷ 120 ∷ 120 ∷ 120 ∷ 120 ∷ 120 ∷ 120 ∷ 120 ∷ 120 ∷ 120 ∷ 120 ∷ 120 ∷ 120 ∷ 120 ∷ 120 ∷ 120 ∷ 120 ∷ 120 ∷ 120 ∷ 120 ∷ 120 ∷ 120 ∷ 120 ∷ 120 ∷ 120 ∷ 120 ∷ 120 ∷ 120 ∷ 120 ∷ 120 ∷ 120 ∷ 120 ∷ 120 ∷ 120 ∷ 120 ∷ 120 ∷ 120 ∷ 120 ∷ 120 ∷ 120 ∷ 120 ∷ 120 ∷ 120 ∷ 120 ∷ 120 ∷ 120 ∷ 120 ∷ 120 ∷ 120 ∷ 120 ∷ 120 ∷ 120 ∷ 120 ∷ 120 ∷ 120 ∷ 120 ∷ 120 ∷ 120 ∷ 120 ∷ 120 ∷ 120 ∷ 120 ∷ 120 ∷ 120 ∷ 120 ∷ 120 ∷ 120 ∷ 120 ∷ 120 ∷ 120 ∷ 120 ∷ 120 ∷ 120 ∷ 120 ∷ 120 ∷ 120 ∷ 120 ∷ 120 ∷ 120 ∷ 120 ∷ 120 ∷ 120 ∷ 120 ∷ 120 ∷ 120 ∷ 120 ∷ 120 ∷ 120 ∷ 120 ∷ 120 ∷ 120 ∷ 120 ∷ 120 ∷ 120 ∷ 120 ∷ 120 ∷ 120 ∷ 120 ∷ 120 ∷ 120 ∷ 120 ∷ 120 ∷ 120 ∷ 120 ∷ 120 ∷ 120 ∷ 120 ∷ 120 ∷ 120 ∷ 120 ∷ 120 ∷ 120 ∷ 120 ∷ 120 ∷ 120 ∷ 120 ∷ 120 ∷ 120 ∷ 120 ∷ 120 ∷ 120 ∷ 120 ∷ 120 ∷ 120 ∷ 120 ∷ 120 ∷ 120 ∷ 120 ∷ 120 ∷ 120 ∷ 120 ∷ 120 ∷ 120 ∷ 120 ∷ 120 ∷ 120 ∷ 120 ∷ 120 ∷ 120 ∷ 120 ∷ 120 ∷ 120 ∷ 120 ∷ 120 ∷ 120 ∷ 120 ∷ 120 ∷ 120 ∷ 120 ∷ 120 ∷ 120 ∷ 120 ∷ 120 ∷ 120 ∷ 120 ∷ 120 ∷ 120 ∷ 120 ∷ 120 ∷ 120 ∷ 120 ∷ 120 ∷ 120 ∷ 120 ∷ 120 ∷ 120 ∷ 120 ∷ 120 ∷ 120 ∷ 120 ∷ 120 ∷ 120 ∷ 120 ∷ 120 ∷ 120 ∷ 120 ∷ 120 ∷ 120 ∷ 120 ∷ 120 ∷ 120 ∷ 120 ∷ 120 ∷ 120 ∷ 120 ∷ 120 ∷ 120 ∷ 120 ∷ 120 ∷ 120 ∷ 120 ∷ 120 ∷ 120 ∷ 120 ∷ 120 ∷ 120 ∷ 120 ∷ 120 ∷ 120 ∷ 120 ∷ 120 ∷ 120 ∷ 120 ∷ 120 ∷ 120 ∷ 120 ∷ 120 ∷ 120 ∷ 120 ∷ 120 ∷ 120 ∷ 120 ∷ 120 ∷ 120 ∷ 120 ∷ 120 ∷ 120 ∷ 120 ∷ 120 ∷ 120 ∷ 120 ∷ 120 ∷ 120 ∷ 120 ∷ 120 ∷ 120 ∷ 120 ∷ 120 ∷ 120 ∷ 120 ∷ 120 ∷ 120 ∷ 120 ∷ 120 ∷ 120 ∷ 120 ∷ 120 ∷ 120 ∷ 120 ∷ 120 ∷ 120 ∷ 120 ∷ 120 ∷ 120 ∷ 120 ∷ 120 ∷ 120 ∷ 120 ∷ 120 ∷ 120 ∷ 120 ∷ 120 ∷ 120 ∷ 120 ∷ 120 ∷ 120 ∷ 120 ∷ 120 ∷ 120 ∷ 120 ∷ 120 ∷ 120 ∷ 120 ∷ 120 ∷ 120 ∷ 120 ∷ 120 ∷ 120 ∷ 120 ∷ 120 ∷ 120 ∷ 120 ∷ 120 ∷ 120 ∷ 120 ∷ 120 ∷ 120 ∷ 120 ∷ 120 ∷ 120 ∷ 120 ∷ 120 ∷ 120 ∷ 120 ∷ 120 ∷ 120 ∷ 120 ∷ 120 ∷ 120 ∷ 120 ∷ 120 ∷ 120 ∷ 120 ∷ 120 ∷ 120 ∷ 120 ∷ 120 ∷ 120 ∷ 120 ∷ 120 ∷ 120 ∷ 120 ∷ 120 ∷ 120 ∷ 120 ∷ 120 ∷ 120 ∷ 120 ∷ 120 ∷ 120 ∷ 120 ∷ 120 ∷ 120 ∷ 120 ∷ 120 ∷ 120 ∷ 120 ∷ 120 ∷ 120 ∷ 120 ∷ 120 ∷ 120 ∷ 120 ∷ 120 ∷ 120 ∷ 120 ∷ 120 ∷ 120 ∷ 120 ∷ 120 ∷ 120 ∷ 120 ∷ 120 ∷ 120 ∷ 120 ∷ 120 ∷ 120 ∷ 120 ∷ 120 ∷ 120 ∷ 120 ∷ 120 ∷ 120 ∷ 120 ∷ 120 ∷ 120 ∷ 120 ∷ 120 ∷ 120 ∷ 120 ∷ 120 ∷ 120 ∷ 120 ∷ 120 ∷ 120 ∷ 120 ∷ 120 ∷ 120 ∷ 120 ∷ 120 ∷ 120 ∷ 120 ∷ 120 ∷ 120 ∷ 120 ∷ 120 ∷ 120 ∷ 120 ∷ 120 ∷ 120 ∷ 120 ∷ 120 ∷ 120 ∷ 120 ∷ 120 ∷ 120 ∷ 120 ∷ 120 ∷ 120 ∷ 120 ∷ 120 ∷ 120 ∷ 120 ∷ 120 ∷ 120 ∷ 120 ∷ 120 ∷ 120 ∷ 120 ∷ 120 ∷ 120 ∷ 120 ∷ 120 ∷ 120 ∷ 120 ∷ 120 ∷ 120 ∷ 120 ∷ 120 ∷ 120 ∷ 120 ∷ 120 ∷ 120 ∷ 120 ∷ 120 ∷ 120 ∷ 120 ∷ 120 ∷ 120 ∷ 120 ∷ 120 ∷ 120 ∷ 120 ∷ 120 ∷ 120 ∷ 120 ∷ 120 ∷ 120 ∷ 120 ∷ 120 ∷ 120 ∷ 120 ∷ 120 ∷ 120 ∷ 120 ∷ 120 ∷ 120 ∷ 120 ∷ 120 ∷ 120 ∷ 120 ∷ 120 ∷ 120 ∷ 120 ∷ 120 ∷ []) }))
    ∷ ask (Heard (record { channel = 0; body = (Some (heard.Attach (record { name = (97 ∷ 195 ∷ 169 ∷ []); handle = 1; role = Sender; snd_settle_mode = None; rcv_settle_mode = (Some 1); source = None; target = None; unsettled = None; incomplete_unsettled = None; initial_delivery_count = (Some 0); max_message_size = None; offered_capabilities = None; desired_capabilities = None; properties = None }))); payload = ([]) }))
    ∷ ask (Heard (record { channel = 65535; body = (Some (heard.Flow (record { next_incoming_id = (Some 4294967294); incoming_window = 2048; next_outgoing_id = 0; outgoing_window = 4294967295; handle = (Some 2); delivery_count = None; link_credit = (Some 5); available = None; drain = (Some true); echo = (Some true); properties = None }))); payload = ([]) }))
    ∷ ask (Own (own.Attach (97 ∷ 195 ∷ 169 ∷ []) Receiver 2 1 None None 0 18446744073709551615))
    ∷ ask (Own (own.Grant 3 0 false false))
    ∷ ask (Heard (record { channel = 0; body = (Some (heard.Transfer (record { handle = 0; delivery_id = None; delivery_tag = None; message_format = None; settled = None; more = None; rcv_settle_mode = None; state = None; resume = None; aborted = None; batchable = None }))); payload = (120 ∷ []) }))
    ∷ ask (Opened 1000)
    ∷ ask (Heard (record { channel = 0; body = (Some (heard.Transfer (record { handle = 0; delivery_id = (Some 4294967295); delivery_tag = (Some (85 ∷ 179 ∷ [])); message_format = (Some 0); settled = (Some false); more = (Some false); rcv_settle_mode = None; state = None; resume = None; aborted = None; batchable = None }))); payload = (120 ∷ 120 ∷ 120 ∷ 120 ∷ 120 ∷ 120 ∷ 120 ∷ 120 ∷ []) }))
    ∷ ask (Own (own.Take 0))
    ∷ ask_windows
    ∷ ask_link 0
    ∷ ask_link 1
    ∷ ask_link 2
    ∷ ask_link 3
    ∷ ask_link 4
    ∷ ask_held Sender
    ∷ ask_held Receiver ∷ [])
    ≡ (held ([]) ∷ held ([]) ∷ link None ∷ link (Some (record { role = Receiver; phase = phase.Attached; count = 0; credit = 0; drain = false; mid = false; ready = 0 })) ∷ link (Some (record { role = Receiver; phase = phase.Offered; count = 0; credit = 0; drain = false; mid = false; ready = 0 })) ∷ link None ∷ link (Some (record { role = Receiver; phase = phase.Attached; count = 1; credit = 4; drain = false; mid = false; ready = 0 })) ∷ windows (record { next_in = (Some 1); incoming = 2047; next_out = 4294967294; remote_in = 2048; remote_out = 4294967294; next_delivery = 4294967294 }) ∷ refused 25 ∷ violated 9 ∷ ok given.Nothing ([]) ([]) ∷ ok given.Nothing ([]) ([]) ∷ ok given.Nothing ([]) ([] ∷ []) ∷ ok (given.Link 3) ([]) ([] ∷ []) ∷ ok given.Nothing ([]) ([] ∷ []) ∷ ok (given.Offered 3) ([]) ([]) ∷ ok given.Nothing ([]) ([]) ∷ link (Some (record { role = Receiver; phase = phase.Offered; count = 0; credit = 0; drain = false; mid = false; ready = 0 })) ∷ violated 8 ∷ ok given.Nothing ([]) ([] ∷ []) ∷ ok (given.Gone 1) ([]) ([]) ∷ ok given.Nothing ([]) ([]) ∷ ok (given.Taken (record { id = 4294967294; link = 0; tag = (195 ∷ 26 ∷ []); format = 0; payload = (120 ∷ 120 ∷ []); settled = true; second = false })) ([]) ([]) ∷ ok given.Nothing ([]) ([] ∷ []) ∷ link (Some (record { role = Receiver; phase = phase.Offered; count = 0; credit = 0; drain = false; mid = false; ready = 0 })) ∷ ok given.Nothing ([]) ([] ∷ []) ∷ windows (record { next_in = (Some 1738859353); incoming = 2047; next_out = 4294967294; remote_in = 2048; remote_out = 0; next_delivery = 4294967294 }) ∷ violated 14 ∷ windows (record { next_in = (Some 1738859353); incoming = 2047; next_out = 4294967294; remote_in = 2048; remote_out = 0; next_delivery = 4294967294 }) ∷ ok given.Nothing ([]) ([]) ∷ held ([]) ∷ ok (given.Ready 0 4294967294) ([]) ([]) ∷ refused 7 ∷ refused 18 ∷ ok (given.Offered 2) ([]) ([]) ∷ refused 9 ∷ ok given.Nothing ([]) ([] ∷ []) ∷ ok (given.Attached 1) ([]) ([]) ∷ ok (given.Link 1) ([]) ([] ∷ []) ∷ ok given.Nothing ([]) ([] ∷ []) ∷ ok (given.Attached 0) ([]) ([]) ∷ ok (given.Link 0) ([]) ([] ∷ []) ∷ ok given.Nothing ([]) ([]) ∷ ok given.Nothing ([]) ([] ∷ []) ∷ ok given.Nothing ([]) ([]) ∷ [])
unfolding octets_of frame_refused canon spelled class_of is_utf8 chars encode
random_002 = refl

random_006 : short_lines_of (record { first_id = 0; window = 2048; journal_limit = 1073741824 })
    (ask (Opened 600)
    ∷ ask (Heard (record { channel = 0; body = (Some (heard.Begin (record { remote_channel = (Some 7); next_outgoing_id = 1; incoming_window = 3; outgoing_window = 2; handle_max = None; offered_capabilities = None; desired_capabilities = None; properties = None }))); payload = ([]) }))
    ∷ ask (Own (own.Attach (113 ∷ []) Receiver 2 1 None None 0 0))
    ∷ ask (Heard (record { channel = 0; body = (Some (heard.Attach (record { name = (113 ∷ []); handle = 0; role = Sender; snd_settle_mode = (Some 0); rcv_settle_mode = None; source = None; target = None; unsettled = None; incomplete_unsettled = None; initial_delivery_count = (Some 5); max_message_size = None; offered_capabilities = None; desired_capabilities = None; properties = None }))); payload = ([]) }))
    ∷ ask (Own (own.Attach (97 ∷ 195 ∷ 169 ∷ []) Sender 2 0 None None 0 0))
    ∷ ask (Heard (record { channel = 0; body = (Some (heard.Attach (record { name = (97 ∷ 195 ∷ 169 ∷ []); handle = 1; role = Receiver; snd_settle_mode = (Some 1); rcv_settle_mode = (Some 1); source = None; target = None; unsettled = None; incomplete_unsettled = None; initial_delivery_count = None; max_message_size = (Some 300); offered_capabilities = None; desired_capabilities = None; properties = None }))); payload = ([]) }))
    ∷ ask (Heard (record { channel = 0; body = (Some (heard.Attach (record { name = (97 ∷ 195 ∷ 169 ∷ []); handle = 2; role = Receiver; snd_settle_mode = (Some 0); rcv_settle_mode = None; source = None; target = None; unsettled = None; incomplete_unsettled = None; initial_delivery_count = None; max_message_size = None; offered_capabilities = None; desired_capabilities = None; properties = None }))); payload = ([]) }))
    ∷ ask (Own (own.Attach (97 ∷ 195 ∷ 169 ∷ []) Sender 1 0 None None 0 0))
    ∷ ask (Heard (record { channel = 0; body = (Some (heard.Flow (record { next_incoming_id = (Some 0); incoming_window = 2048; next_outgoing_id = 1; outgoing_window = 4294967295; handle = None; delivery_count = None; link_credit = None; available = None; drain = None; echo = None; properties = None }))); payload = ([]) }))
    ∷ ask (Own (own.Carry 4294967295 (120 ∷ []) false))
    ∷ ask_link 0
    ∷ ask (Own (own.Attach (113 ∷ []) Receiver 2 0 None None 4294967294 0))
    ∷ ask (Heard (record { channel = 0; body = (Some (heard.Begin (record { remote_channel = (Some 0); next_outgoing_id = 0; incoming_window = 2048; outgoing_window = 4294967295; handle_max = None; offered_capabilities = None; desired_capabilities = None; properties = None }))); payload = ([]) }))
    ∷ ask (Opened 1000)
    ∷ ask_held Sender
    ∷ ask (Own (own.Dispose Receiver 5 2147483652 false None))
    ∷ ask_windows
    ∷ ask (Heard (record { channel = 0; body = (Some (heard.Begin (record { remote_channel = (Some 0); next_outgoing_id = 0; incoming_window = 1; outgoing_window = 2147483647; handle_max = (Some 4294967295); offered_capabilities = None; desired_capabilities = None; properties = None }))); payload = ([]) }))
    ∷ ask (Own (own.Learn 0))
    ∷ ask (Heard (record { channel = 0; body = (Some (heard.Begin (record { remote_channel = None; next_outgoing_id = 4294967294; incoming_window = 1; outgoing_window = 4294967295; handle_max = None; offered_capabilities = None; desired_capabilities = None; properties = None }))); payload = ([]) }))
    ∷ ask (Heard (record { channel = 0; body = (Some (heard.Begin (record { remote_channel = (Some 7); next_outgoing_id = 0; incoming_window = 0; outgoing_window = 2147483647; handle_max = None; offered_capabilities = None; desired_capabilities = None; properties = None }))); payload = ([]) }))
    ∷ ask (Heard (record { channel = 0; body = (Some (heard.Begin (record { remote_channel = (Some 7); next_outgoing_id = 1; incoming_window = 1; outgoing_window = 2147483647; handle_max = None; offered_capabilities = None; desired_capabilities = None; properties = None }))); payload = ([]) }))
    ∷ ask_link 1
    ∷ ask (Own own.Begin)
    ∷ ask (Own (own.Attach (113 ∷ []) Receiver 2 0 None None 0 6))
    ∷ ask (Own (own.Grant 0 4294967295 false false))
    ∷ ask_windows
    ∷ ask (Heard (record { channel = 0; body = (Some (heard.Flow (record { next_incoming_id = (Some 0); incoming_window = 2048; next_outgoing_id = 1; outgoing_window = 2147483647; handle = None; delivery_count = None; link_credit = None; available = None; drain = None; echo = None; properties = None }))); payload = ([]) }))
    ∷ ask (Own (own.Grant 0 2 false true))
    ∷ ask (Heard (record { channel = 0; body = (Some (heard.Transfer (record { handle = 0; delivery_id = (Some 18); delivery_tag = (Some (2 ∷ [])); message_format = (Some 0); settled = (Some true); more = None; rcv_settle_mode = None; state = None; resume = None; aborted = None; batchable = None }))); payload = (120 ∷ []) }))
    ∷ ask (Heard (record { channel = 0; body = (Some (heard.Transfer (record { handle = 0; delivery_id = (Some 17); delivery_tag = (Some (152 ∷ 198 ∷ [])); message_format = (Some 1); settled = None; more = None; rcv_settle_mode = None; state = None; resume = (Some false); aborted = None; batchable = None }))); payload = (120 ∷ 120 ∷ 120 ∷ []) }))
    ∷ ask_link 1
    ∷ ask (Heard (record { channel = 65535; body = (Some (heard.Attach (record { name = (108 ∷ 111 ∷ 110 ∷ 103 ∷ 110 ∷ 110 ∷ 110 ∷ 110 ∷ 110 ∷ 110 ∷ 110 ∷ 110 ∷ 110 ∷ 110 ∷ 110 ∷ 110 ∷ 110 ∷ 110 ∷ 110 ∷ 110 ∷ 110 ∷ 110 ∷ 110 ∷ 110 ∷ 110 ∷ 110 ∷ 110 ∷ 110 ∷ 110 ∷ 110 ∷ 110 ∷ 110 ∷ 110 ∷ 110 ∷ 110 ∷ 110 ∷ 110 ∷ 110 ∷ 110 ∷ 110 ∷ 110 ∷ 110 ∷ 110 ∷ 110 ∷ 110 ∷ 110 ∷ 110 ∷ 110 ∷ 110 ∷ 110 ∷ 110 ∷ 110 ∷ 110 ∷ 110 ∷ 110 ∷ 110 ∷ 110 ∷ 110 ∷ 110 ∷ 110 ∷ 110 ∷ 110 ∷ 110 ∷ 110 ∷ 110 ∷ 110 ∷ 110 ∷ 110 ∷ 110 ∷ 110 ∷ 110 ∷ 110 ∷ 110 ∷ 110 ∷ 110 ∷ 110 ∷ 110 ∷ 110 ∷ 110 ∷ 110 ∷ 110 ∷ 110 ∷ 110 ∷ 110 ∷ 110 ∷ 110 ∷ 110 ∷ 110 ∷ 110 ∷ 110 ∷ 110 ∷ 110 ∷ 110 ∷ 110 ∷ 110 ∷ 110 ∷ 110 ∷ 110 ∷ 110 ∷ 110 ∷ 110 ∷ 110 ∷ 110 ∷ 110 ∷ 110 ∷ 110 ∷ 110 ∷ 110 ∷ 110 ∷ 110 ∷ 110 ∷ 110 ∷ 110 ∷ 110 ∷ 110 ∷ 110 ∷ 110 ∷ 110 ∷ 110 ∷ 110 ∷ 110 ∷ 110 ∷ 110 ∷ 110 ∷ 110 ∷ 110 ∷ 110 ∷ 110 ∷ 110 ∷ 110 ∷ 110 ∷ 110 ∷ 110 ∷ 110 ∷ 110 ∷ 110 ∷ 110 ∷ 110 ∷ 110 ∷ 110 ∷ 110 ∷ 110 ∷ 110 ∷ 110 ∷ 110 ∷ 110 ∷ 110 ∷ 110 ∷ 110 ∷ 110 ∷ 110 ∷ 110 ∷ 110 ∷ 110 ∷ 110 ∷ 110 ∷ 110 ∷ 110 ∷ 110 ∷ 110 ∷ 110 ∷ 110 ∷ 110 ∷ 110 ∷ 110 ∷ 110 ∷ 110 ∷ 110 ∷ 110 ∷ 110 ∷ 110 ∷ 110 ∷ 110 ∷ 110 ∷ 110 ∷ 110 ∷ 110 ∷ 110 ∷ 110 ∷ 110 ∷ 110 ∷ 110 ∷ 110 ∷ 110 ∷ 110 ∷ 110 ∷ 110 ∷ 110 ∷ 110 ∷ 110 ∷ 110 ∷ 110 ∷ 110 ∷ 110 ∷ 110 ∷ 110 ∷ 110 ∷ 110 ∷ 110 ∷ 110 ∷ 110 ∷ 110 ∷ 110 ∷ 110 ∷ 110 ∷ 110 ∷ 110 ∷ 110 ∷ 110 ∷ 110 ∷ 110 ∷ 110 ∷ 110 ∷ 110 ∷ 110 ∷ 110 ∷ 110 ∷ 110 ∷ 110 ∷ 110 ∷ 110 ∷ 110 ∷ 110 ∷ 110 ∷ 110 ∷ 110 ∷ 110 ∷ 110 ∷ 110 ∷ 110 ∷ 110 ∷ 110 ∷ 110 ∷ 110 ∷ 110 ∷ 110 ∷ 110 ∷ 110 ∷ 110 ∷ 110 ∷ 110 ∷ 110 ∷ 110 ∷ 110 ∷ 110 ∷ 110 ∷ 110 ∷ 110 ∷ 110 ∷ 110 ∷ 110 ∷ 110 ∷ 110 ∷ 110 ∷ 110 ∷ 110 ∷ 110 ∷ 110 ∷ 110 ∷ 110 ∷ 110 ∷ 110 ∷ 110 ∷ 110 ∷ 110 ∷ 110 ∷ 110 ∷ 110 ∷ 110 ∷ 110 ∷ 110 ∷ 110 ∷ 110 ∷ 110 ∷ 110 ∷ 110 ∷ 110 ∷ 110 ∷ 110 ∷ 110 ∷ 110 ∷ 110 ∷ 110 ∷ 110 ∷ 110 ∷ 110 ∷ 110 ∷ 110 ∷ 110 ∷ 110 ∷ 110 ∷ 110 ∷ 110 ∷ 110 ∷ 110 ∷ 110 ∷ 110 ∷ 110 ∷ 110 ∷ 110 ∷ 110 ∷ 110 ∷ 110 ∷ 110 ∷ 110 ∷ 110 ∷ 110 ∷ 110 ∷ 110 ∷ 110 ∷ 110 ∷ 110 ∷ 110 ∷ 110 ∷ 110 ∷ 110 ∷ 110 ∷ 110 ∷ 110 ∷ 110 ∷ 110 ∷ 110 ∷ 110 ∷ 110 ∷ 110 ∷ 110 ∷ 110 ∷ 110 ∷ 110 ∷ 110 ∷ 110 ∷ 110 ∷ 110 ∷ 110 ∷ 110 ∷ 110 ∷ 110 ∷ 110 ∷ 110 ∷ 110 ∷ 110 ∷ 110 ∷ 110 ∷ 110 ∷ 110 ∷ 110 ∷ 110 ∷ 110 ∷ 110 ∷ 110 ∷ 110 ∷ 110 ∷ 110 ∷ 110 ∷ 110 ∷ 110 ∷ 110 ∷ 110 ∷ 110 ∷ 110 ∷ 110 ∷ 110 ∷ 110 ∷ 110 ∷ 110 ∷ 110 ∷ 110 ∷ 110 ∷ 110 ∷ 110 ∷ 110 ∷ 110 ∷ 110 ∷ 110 ∷ 110 ∷ 110 ∷ 110 ∷ 110 ∷ 110 ∷ 110 ∷ 110 ∷ 110 ∷ 110 ∷ 110 ∷ 110 ∷ 110 ∷ 110 ∷ 110 ∷ 110 ∷ 110 ∷ 110 ∷ 110 ∷ 110 ∷ 110 ∷ 110 ∷ 110 ∷ 110 ∷ 110 ∷ 110 ∷ 110 ∷ 110 ∷ 110 ∷ 110 ∷ 110 ∷ 110 ∷ 110 ∷ 110 ∷ 110 ∷ 110 ∷ 110 ∷ 110 ∷ 110 ∷ 110 ∷ 110 ∷ 110 ∷ 110 ∷ 110 ∷ 110 ∷ 110 ∷ 110 ∷ 110 ∷ 110 ∷ 110 ∷ 110 ∷ 110 ∷ 110 ∷ 110 ∷ 110 ∷ 110 ∷ 110 ∷ 110 ∷ 110 ∷ 110 ∷ 110 ∷ 110 ∷ 110 ∷ 110 ∷ 110 ∷ 110 ∷ 110 ∷ 110 ∷ 110 ∷ 110 ∷ 110 ∷ 110 ∷ 110 ∷ 110 ∷ 110 ∷ 110 ∷ 110 ∷ 110 ∷ 110 ∷ 110 ∷ 110 ∷ 110 ∷ 110 ∷ 110 ∷ 110 ∷ 110 ∷ 110 ∷ 110 ∷ 110 ∷ 110 ∷ 110 ∷ 110 ∷ 110 ∷ 110 ∷ 110 ∷ 110 ∷ 110 ∷ 110 ∷ 110 ∷ 110 ∷ 110 ∷ 110 ∷ 110 ∷ 110 ∷ 110 ∷ 110 ∷ 110 ∷ 110 ∷ 110 ∷ 110 ∷ 110 ∷ 110 ∷ 110 ∷ 110 ∷ 110 ∷ 110 ∷ 110 ∷ 110 ∷ 110 ∷ 110 ∷ 110 ∷ 110 ∷ 110 ∷ 110 ∷ 110 ∷ 110 ∷ 110 ∷ 110 ∷ 110 ∷ 110 ∷ 110 ∷ 110 ∷ 110 ∷ 110 ∷ 110 ∷ 110 ∷ 110 ∷ 110 ∷ 110 ∷ 110 ∷ 110 ∷ 110 ∷ 110 ∷ 110 ∷ 110 ∷ 110 ∷ 110 ∷ 110 ∷ 110 ∷ 110 ∷ 110 ∷ 110 ∷ 110 ∷ 110 ∷ 110 ∷ 110 ∷ 110 ∷ 110 ∷ 110 ∷ 110 ∷ 110 ∷ 110 ∷ 110 ∷ 110 ∷ 110 ∷ 110 ∷ 110 ∷ 110 ∷ 110 ∷ 110 ∷ 110 ∷ 110 ∷ 110 ∷ 110 ∷ 110 ∷ 110 ∷ 110 ∷ 110 ∷ 110 ∷ 110 ∷ 110 ∷ 110 ∷ 110 ∷ 110 ∷ 110 ∷ 110 ∷ 110 ∷ 110 ∷ 110 ∷ 110 ∷ 110 ∷ 110 ∷ 110 ∷ 110 ∷ 110 ∷ 110 ∷ 110 ∷ 110 ∷ 110 ∷ 110 ∷ 110 ∷ 110 ∷ 110 ∷ 110 ∷ 110 ∷ 110 ∷ 110 ∷ 110 ∷ 110 ∷ 110 ∷ 110 ∷ 110 ∷ 110 ∷ 110 ∷ 110 ∷ 110 ∷ 110 ∷ 110 ∷ 110 ∷ 110 ∷ 110 ∷ 110 ∷ 110 ∷ 110 ∷ 110 ∷ 110 ∷ 110 ∷ 110 ∷ 110 ∷ 110 ∷ 110 ∷ []); handle = 255; role = Receiver; snd_settle_mode = (Some 0); rcv_settle_mode = (Some 0); source = None; target = None; unsettled = None; incomplete_unsettled = None; initial_delivery_count = None; max_message_size = None; offered_capabilities = None; desired_capabilities = None; properties = None }))); payload = ([]) }))
    ∷ ask (Heard (record { channel = 0; body = (Some (heard.Flow (record { next_incoming_id = (Some 0); incoming_window = 4294967295; next_outgoing_id = 2; outgoing_window = 3; handle = (Some 1); delivery_count = None; link_credit = (Some 100); available = None; drain = None; echo = None; properties = None }))); payload = ([]) }))
    ∷ ask (Own (own.Attach (108 ∷ 111 ∷ 110 ∷ 103 ∷ 110 ∷ 110 ∷ 110 ∷ 110 ∷ 110 ∷ 110 ∷ 110 ∷ 110 ∷ 110 ∷ 110 ∷ 110 ∷ 110 ∷ 110 ∷ 110 ∷ 110 ∷ 110 ∷ 110 ∷ 110 ∷ 110 ∷ 110 ∷ 110 ∷ 110 ∷ 110 ∷ 110 ∷ 110 ∷ 110 ∷ 110 ∷ 110 ∷ 110 ∷ 110 ∷ 110 ∷ 110 ∷ 110 ∷ 110 ∷ 110 ∷ 110 ∷ 110 ∷ 110 ∷ 110 ∷ 110 ∷ 110 ∷ 110 ∷ 110 ∷ 110 ∷ 110 ∷ 110 ∷ 110 ∷ 110 ∷ 110 ∷ 110 ∷ 110 ∷ 110 ∷ 110 ∷ 110 ∷ 110 ∷ 110 ∷ 110 ∷ 110 ∷ 110 ∷ 110 ∷ 110 ∷ 110 ∷ 110 ∷ 110 ∷ 110 ∷ 110 ∷ 110 ∷ 110 ∷ 110 ∷ 110 ∷ 110 ∷ 110 ∷ 110 ∷ 110 ∷ 110 ∷ 110 ∷ 110 ∷ 110 ∷ 110 ∷ 110 ∷ 110 ∷ 110 ∷ 110 ∷ 110 ∷ 110 ∷ 110 ∷ 110 ∷ 110 ∷ 110 ∷ 110 ∷ 110 ∷ 110 ∷ 110 ∷ 110 ∷ 110 ∷ 110 ∷ 110 ∷ 110 ∷ 110 ∷ 110 ∷ 110 ∷ 110 ∷ 110 ∷ 110 ∷ 110 ∷ 110 ∷ 110 ∷ 110 ∷ 110 ∷ 110 ∷ 110 ∷ 110 ∷ 110 ∷ 110 ∷ 110 ∷ 110 ∷ 110 ∷ 110 ∷ 110 ∷ 110 ∷ 110 ∷ 110 ∷ 110 ∷ 110 ∷ 110 ∷ 110 ∷ 110 ∷ 110 ∷ 110 ∷ 110 ∷ 110 ∷ 110 ∷ 110 ∷ 110 ∷ 110 ∷ 110 ∷ 110 ∷ 110 ∷ 110 ∷ 110 ∷ 110 ∷ 110 ∷ 110 ∷ 110 ∷ 110 ∷ 110 ∷ 110 ∷ 110 ∷ 110 ∷ 110 ∷ 110 ∷ 110 ∷ 110 ∷ 110 ∷ 110 ∷ 110 ∷ 110 ∷ 110 ∷ 110 ∷ 110 ∷ 110 ∷ 110 ∷ 110 ∷ 110 ∷ 110 ∷ 110 ∷ 110 ∷ 110 ∷ 110 ∷ 110 ∷ 110 ∷ 110 ∷ 110 ∷ 110 ∷ 110 ∷ 110 ∷ 110 ∷ 110 ∷ 110 ∷ 110 ∷ 110 ∷ 110 ∷ 110 ∷ 110 ∷ 110 ∷ 110 ∷ 110 ∷ 110 ∷ 110 ∷ 110 ∷ 110 ∷ 110 ∷ 110 ∷ 110 ∷ 110 ∷ 110 ∷ 110 ∷ 110 ∷ 110 ∷ 110 ∷ 110 ∷ 110 ∷ 110 ∷ 110 ∷ 110 ∷ 110 ∷ 110 ∷ 110 ∷ 110 ∷ 110 ∷ 110 ∷ 110 ∷ 110 ∷ 110 ∷ 110 ∷ 110 ∷ 110 ∷ 110 ∷ 110 ∷ 110 ∷ 110 ∷ 110 ∷ 110 ∷ 110 ∷ 110 ∷ 110 ∷ 110 ∷ 110 ∷ 110 ∷ 110 ∷ 110 ∷ 110 ∷ 110 ∷ 110 ∷ 110 ∷ 110 ∷ 110 ∷ 110 ∷ 110 ∷ 110 ∷ 110 ∷ 110 ∷ 110 ∷ 110 ∷ 110 ∷ 110 ∷ 110 ∷ 110 ∷ 110 ∷ 110 ∷ 110 ∷ 110 ∷ 110 ∷ 110 ∷ 110 ∷ 110 ∷ 110 ∷ 110 ∷ 110 ∷ 110 ∷ 110 ∷ 110 ∷ 110 ∷ 110 ∷ 110 ∷ 110 ∷ 110 ∷ 110 ∷ 110 ∷ 110 ∷ 110 ∷ 110 ∷ 110 ∷ 110 ∷ 110 ∷ 110 ∷ 110 ∷ 110 ∷ 110 ∷ 110 ∷ 110 ∷ 110 ∷ 110 ∷ 110 ∷ 110 ∷ 110 ∷ 110 ∷ 110 ∷ 110 ∷ 110 ∷ 110 ∷ 110 ∷ 110 ∷ 110 ∷ 110 ∷ 110 ∷ 110 ∷ 110 ∷ 110 ∷ 110 ∷ 110 ∷ 110 ∷ 110 ∷ 110 ∷ 110 ∷ 110 ∷ 110 ∷ 110 ∷ 110 ∷ 110 ∷ 110 ∷ 110 ∷ 110 ∷ 110 ∷ 110 ∷ 110 ∷ 110 ∷ 110 ∷ 110 ∷ 110 ∷ 110 ∷ 110 ∷ 110 ∷ 110 ∷ 110 ∷ 110 ∷ 110 ∷ 110 ∷ 110 ∷ 110 ∷ 110 ∷ 110 ∷ 110 ∷ 110 ∷ 110 ∷ 110 ∷ 110 ∷ 110 ∷ 110 ∷ 110 ∷ 110 ∷ 110 ∷ 110 ∷ 110 ∷ 110 ∷ 110 ∷ 110 ∷ 110 ∷ 110 ∷ 110 ∷ 110 ∷ 110 ∷ 110 ∷ 110 ∷ 110 ∷ 110 ∷ 110 ∷ 110 ∷ 110 ∷ 110 ∷ 110 ∷ 110 ∷ 110 ∷ 110 ∷ 110 ∷ 110 ∷ 110 ∷ 110 ∷ 110 ∷ 110 ∷ 110 ∷ 110 ∷ 110 ∷ 110 ∷ 110 ∷ 110 ∷ 110 ∷ 110 ∷ 110 ∷ 110 ∷ 110 ∷ 110 ∷ 110 ∷ 110 ∷ 110 ∷ 110 ∷ 110 ∷ 110 ∷ 110 ∷ 110 ∷ 110 ∷ 110 ∷ 110 ∷ 110 ∷ 110 ∷ 110 ∷ 110 ∷ 110 ∷ 110 ∷ 110 ∷ 110 ∷ 110 ∷ 110 ∷ 110 ∷ 110 ∷ 110 ∷ 110 ∷ 110 ∷ 110 ∷ 110 ∷ 110 ∷ 110 ∷ 110 ∷ 110 ∷ 110 ∷ 110 ∷ 110 ∷ 110 ∷ 110 ∷ 110 ∷ 110 ∷ 110 ∷ 110 ∷ 110 ∷ 110 ∷ 110 ∷ 110 ∷ 110 ∷ 110 ∷ 110 ∷ 110 ∷ 110 ∷ 110 ∷ 110 ∷ 110 ∷ 110 ∷ 110 ∷ 110 ∷ 110 ∷ 110 ∷ 110 ∷ 110 ∷ 110 ∷ 110 ∷ 110 ∷ 110 ∷ 110 ∷ 110 ∷ 110 ∷ 110 ∷ 110 ∷ 110 ∷ 110 ∷ 110 ∷ 110 ∷ 110 ∷ 110 ∷ 110 ∷ 110 ∷ 110 ∷ 110 ∷ 110 ∷ 110 ∷ 110 ∷ 110 ∷ 110 ∷ 110 ∷ 110 ∷ 110 ∷ 110 ∷ 110 ∷ 110 ∷ 110 ∷ 110 ∷ 110 ∷ 110 ∷ 110 ∷ 110 ∷ 110 ∷ 110 ∷ 110 ∷ 110 ∷ 110 ∷ 110 ∷ 110 ∷ 110 ∷ 110 ∷ 110 ∷ 110 ∷ 110 ∷ 110 ∷ 110 ∷ 110 ∷ 110 ∷ 110 ∷ 110 ∷ 110 ∷ 110 ∷ 110 ∷ 110 ∷ 110 ∷ 110 ∷ 110 ∷ 110 ∷ 110 ∷ 110 ∷ 110 ∷ 110 ∷ 110 ∷ 110 ∷ 110 ∷ 110 ∷ 110 ∷ 110 ∷ 110 ∷ 110 ∷ 110 ∷ 110 ∷ 110 ∷ 110 ∷ 110 ∷ 110 ∷ 110 ∷ 110 ∷ 110 ∷ 110 ∷ 110 ∷ 110 ∷ 110 ∷ 110 ∷ 110 ∷ 110 ∷ 110 ∷ 110 ∷ 110 ∷ 110 ∷ 110 ∷ 110 ∷ 110 ∷ 110 ∷ 110 ∷ 110 ∷ 110 ∷ 110 ∷ 110 ∷ 110 ∷ 110 ∷ 110 ∷ 110 ∷ 110 ∷ 110 ∷ 110 ∷ 110 ∷ 110 ∷ 110 ∷ 110 ∷ 110 ∷ 110 ∷ 110 ∷ 110 ∷ 110 ∷ 110 ∷ 110 ∷ 110 ∷ 110 ∷ 110 ∷ 110 ∷ 110 ∷ 110 ∷ 110 ∷ 110 ∷ 110 ∷ 110 ∷ 110 ∷ 110 ∷ 110 ∷ 110 ∷ 110 ∷ 110 ∷ 110 ∷ 110 ∷ 110 ∷ 110 ∷ 110 ∷ 110 ∷ 110 ∷ 110 ∷ 110 ∷ 110 ∷ 110 ∷ 110 ∷ 110 ∷ 110 ∷ 110 ∷ 110 ∷ 110 ∷ 110 ∷ 110 ∷ 110 ∷ 110 ∷ []) Sender 1 0 None None 4294967295 0))
    ∷ ask (Heard (record { channel = 0; body = (Some (heard.Flow (record { next_incoming_id = (Some 0); incoming_window = 2048; next_outgoing_id = 2; outgoing_window = 3; handle = (Some 255); delivery_count = (Some 4294967295); link_credit = None; available = None; drain = None; echo = None; properties = None }))); payload = ([]) }))
    ∷ ask (Heard (record { channel = 0; body = (Some (heard.Transfer (record { handle = 0; delivery_id = (Some 18); delivery_tag = (Some (239 ∷ 101 ∷ [])); message_format = (Some 1); settled = None; more = (Some true); rcv_settle_mode = None; state = None; resume = None; aborted = None; batchable = None }))); payload = (120 ∷ 120 ∷ 120 ∷ 120 ∷ 120 ∷ []) }))
    ∷ ask (Own (own.Grant 0 10 false false))
    ∷ ask_held Sender
    ∷ ask (Own (own.Take 0))
    ∷ ask_windows
    ∷ ask_link 0
    ∷ ask_link 1
    ∷ ask_link 2
    ∷ ask_link 3
    ∷ ask_held Sender
    ∷ ask_held Receiver ∷ [])
    ≡ (held (record { id = 17; link = 0; tag = (152 ∷ 198 ∷ []); second = false; local = None; remote = None } ∷ record { id = 18; link = 0; tag = (239 ∷ 101 ∷ []); second = false; local = None; remote = None } ∷ []) ∷ held ([]) ∷ link None ∷ link (Some (record { role = Sender; phase = phase.Attached; count = 4294967295; credit = 0; drain = false; mid = false; ready = 0 })) ∷ link (Some (record { role = Sender; phase = phase.Offered; count = 0; credit = 100; drain = false; mid = false; ready = 0 })) ∷ link (Some (record { role = Receiver; phase = phase.Attached; count = 7; credit = 10; drain = false; mid = true; ready = 0 })) ∷ windows (record { next_in = (Some 3); incoming = 2048; next_out = 0; remote_in = 2048; remote_out = 2; next_delivery = 0 }) ∷ ok (given.Taken (record { id = 17; link = 0; tag = (152 ∷ 198 ∷ []); format = 1; payload = (120 ∷ 120 ∷ 120 ∷ []); settled = false; second = false })) ([]) ([]) ∷ held ([]) ∷ ok given.Nothing ([]) ([] ∷ []) ∷ ok given.Nothing ([]) ([]) ∷ ok given.Nothing ([]) ([]) ∷ ok (given.Link 2) ([]) ([] ∷ []) ∷ ok given.Nothing ([]) ([]) ∷ ok (given.Offered 2) ([]) ([]) ∷ link (Some (record { role = Sender; phase = phase.Offered; count = 0; credit = 0; drain = false; mid = false; ready = 0 })) ∷ ok (given.Ready 0 17) ([]) ([]) ∷ violated 11 ∷ ok given.Nothing ([]) ([] ∷ []) ∷ ok given.Nothing ([]) ([]) ∷ windows (record { next_in = (Some 1); incoming = 2048; next_out = 0; remote_in = 2048; remote_out = 4294967295; next_delivery = 0 }) ∷ refused 17 ∷ ok (given.Link 0) ([]) ([] ∷ []) ∷ ok given.Nothing ([]) ([] ∷ []) ∷ link (Some (record { role = Sender; phase = phase.Offered; count = 0; credit = 0; drain = false; mid = false; ready = 0 })) ∷ violated 2 ∷ violated 2 ∷ violated 2 ∷ refused 7 ∷ violated 2 ∷ windows (record { next_in = (Some 1); incoming = 2048; next_out = 0; remote_in = 2048; remote_out = 4294967295; next_delivery = 0 }) ∷ refused 4 ∷ held ([]) ∷ ok given.Nothing ([]) ([]) ∷ violated 2 ∷ refused 4 ∷ link (Some (record { role = Receiver; phase = phase.Offered; count = 5; credit = 0; drain = false; mid = false; ready = 0 })) ∷ refused 4 ∷ ok given.Nothing ([]) ([]) ∷ refused 4 ∷ violated 5 ∷ ok (given.Offered 1) ([]) ([]) ∷ refused 4 ∷ ok (given.Offered 0) ([]) ([]) ∷ refused 4 ∷ ok given.Nothing ([]) ([]) ∷ ok given.Nothing ([]) ([]) ∷ [])
unfolding octets_of frame_refused canon spelled class_of is_utf8 chars encode
random_006 = refl

random_007 : short_lines_of (record { first_id = 0; window = 2; journal_limit = 1073741824 })
    (ask (Opened 0)
    ∷ ask (Heard (record { channel = 0; body = (Some (heard.Begin (record { remote_channel = None; next_outgoing_id = 0; incoming_window = 2048; outgoing_window = 0; handle_max = (Some 255); offered_capabilities = None; desired_capabilities = None; properties = None }))); payload = ([]) }))
    ∷ ask (Own (own.Attach (113 ∷ []) Sender 2 0 None None 5 0))
    ∷ ask (Own own.Begin)
    ∷ ask (Heard (record { channel = 0; body = (Some (heard.Attach (record { name = (97 ∷ 195 ∷ 169 ∷ []); handle = 0; role = Sender; snd_settle_mode = (Some 2); rcv_settle_mode = (Some 0); source = None; target = None; unsettled = None; incomplete_unsettled = None; initial_delivery_count = (Some 4294967295); max_message_size = None; offered_capabilities = None; desired_capabilities = None; properties = None }))); payload = ([]) }))
    ∷ ask (Heard (record { channel = 65535; body = (Some (heard.Attach (record { name = (121 ∷ []); handle = 1; role = Receiver; snd_settle_mode = (Some 0); rcv_settle_mode = None; source = None; target = None; unsettled = None; incomplete_unsettled = None; initial_delivery_count = None; max_message_size = None; offered_capabilities = None; desired_capabilities = None; properties = None }))); payload = ([]) }))
    ∷ ask (Heard (record { channel = 0; body = (Some (heard.Attach (record { name = (113 ∷ []); handle = 0; role = Receiver; snd_settle_mode = (Some 2); rcv_settle_mode = (Some 0); source = None; target = None; unsettled = None; incomplete_unsettled = None; initial_delivery_count = None; max_message_size = None; offered_capabilities = None; desired_capabilities = None; properties = None }))); payload = ([]) }))
    ∷ ask (Own (own.Attach (97 ∷ 195 ∷ 169 ∷ []) Receiver 2 0 None None 0 0))
    ∷ ask (Own (own.Attach (113 ∷ []) Receiver 0 2 None None 0 1))
    ∷ ask (Heard (record { channel = 0; body = (Some (heard.Attach (record { name = (113 ∷ []); handle = 2; role = Sender; snd_settle_mode = None; rcv_settle_mode = None; source = None; target = None; unsettled = None; incomplete_unsettled = None; initial_delivery_count = (Some 4294967294); max_message_size = None; offered_capabilities = None; desired_capabilities = None; properties = None }))); payload = ([]) }))
    ∷ ask (Own (own.Grant 0 0 false false))
    ∷ ask (Opened 65536)
    ∷ ask_windows
    ∷ ask (Own (own.Grant 0 2 false false))
    ∷ ask (Heard (record { channel = 0; body = (Some (heard.Transfer (record { handle = 4; delivery_id = (Some 0); delivery_tag = None; message_format = None; settled = (Some true); more = None; rcv_settle_mode = None; state = None; resume = None; aborted = None; batchable = None }))); payload = ([]) }))
    ∷ ask (Heard (record { channel = 0; body = (Some (heard.Transfer (record { handle = 0; delivery_id = (Some 17); delivery_tag = (Some (3 ∷ 3 ∷ 3 ∷ 3 ∷ 3 ∷ 3 ∷ 3 ∷ 3 ∷ 3 ∷ 3 ∷ 3 ∷ 3 ∷ 3 ∷ 3 ∷ 3 ∷ 3 ∷ 3 ∷ 3 ∷ 3 ∷ 3 ∷ 3 ∷ 3 ∷ 3 ∷ 3 ∷ 3 ∷ 3 ∷ 3 ∷ 3 ∷ 3 ∷ 3 ∷ 3 ∷ 3 ∷ [])); message_format = (Some 0); settled = (Some false); more = (Some false); rcv_settle_mode = None; state = None; resume = None; aborted = (Some false); batchable = None }))); payload = (120 ∷ []) }))
    ∷ ask (Heard (record { channel = 0; body = (Some (heard.Transfer (record { handle = 0; delivery_id = (Some 18); delivery_tag = (Some (4 ∷ 5 ∷ [])); message_format = (Some 4294967295); settled = (Some false); more = None; rcv_settle_mode = None; state = None; resume = None; aborted = None; batchable = None }))); payload = (120 ∷ 120 ∷ []) }))
    ∷ ask_windows
    ∷ ask_link 0
    ∷ ask_link 1
    ∷ ask_link 2
    ∷ ask_link 3
    ∷ ask_held Sender
    ∷ ask_held Receiver ∷ [])
    ≡ (held (record { id = 17; link = 0; tag = (3 ∷ 3 ∷ 3 ∷ 3 ∷ 3 ∷ 3 ∷ 3 ∷ 3 ∷ 3 ∷ 3 ∷ 3 ∷ 3 ∷ 3 ∷ 3 ∷ 3 ∷ 3 ∷ 3 ∷ 3 ∷ 3 ∷ 3 ∷ 3 ∷ 3 ∷ 3 ∷ 3 ∷ 3 ∷ 3 ∷ 3 ∷ 3 ∷ 3 ∷ 3 ∷ 3 ∷ 3 ∷ []); second = false; local = None; remote = None } ∷ record { id = 18; link = 0; tag = (4 ∷ 5 ∷ []); second = false; local = None; remote = None } ∷ []) ∷ held ([]) ∷ link None ∷ link (Some (record { role = Receiver; phase = phase.Offered; count = 4294967294; credit = 0; drain = false; mid = false; ready = 0 })) ∷ link (Some (record { role = Sender; phase = phase.Offered; count = 0; credit = 0; drain = false; mid = false; ready = 0 })) ∷ link (Some (record { role = Receiver; phase = phase.Attached; count = 1; credit = 0; drain = false; mid = false; ready = 2 })) ∷ windows (record { next_in = (Some 2); incoming = 0; next_out = 0; remote_in = 2048; remote_out = 0; next_delivery = 0 }) ∷ ok (given.Ready 0 18) ([]) ([]) ∷ ok (given.Ready 0 17) ([]) ([]) ∷ violated 3 ∷ ok given.Nothing ([]) ([] ∷ []) ∷ windows (record { next_in = (Some 0); incoming = 2; next_out = 0; remote_in = 2048; remote_out = 0; next_delivery = 0 }) ∷ ok given.Nothing ([]) ([]) ∷ ok given.Nothing ([]) ([] ∷ []) ∷ ok (given.Offered 2) ([]) ([]) ∷ refused 26 ∷ ok (given.Link 0) ([]) ([] ∷ []) ∷ violated 4 ∷ ok (given.Offered 1) ([]) ([]) ∷ ok (given.Offered 0) ([]) ([]) ∷ ok given.Nothing ([]) ([] ∷ []) ∷ refused 4 ∷ ok given.Nothing ([]) ([]) ∷ ok given.Nothing ([]) ([]) ∷ [])
unfolding octets_of frame_refused canon spelled class_of is_utf8 chars encode
random_007 = refl

random_015 : short_lines_of (record { first_id = 1; window = 2048; journal_limit = 1073741824 })
    (ask (Opened 65536)
    ∷ ask (Own own.Begin)
    ∷ ask (Heard (record { channel = 0; body = (Some (heard.Begin (record { remote_channel = (Some 0); next_outgoing_id = 4294967294; incoming_window = 3; outgoing_window = 2147483647; handle_max = None; offered_capabilities = None; desired_capabilities = None; properties = None }))); payload = ([]) }))
    ∷ ask (Own (own.Attach (121 ∷ []) Receiver 1 1 None None 0 0))
    ∷ ask (Heard (record { channel = 0; body = (Some (heard.Attach (record { name = (121 ∷ []); handle = 0; role = Sender; snd_settle_mode = None; rcv_settle_mode = None; source = None; target = None; unsettled = None; incomplete_unsettled = None; initial_delivery_count = None; max_message_size = None; offered_capabilities = None; desired_capabilities = None; properties = None }))); payload = ([]) }))
    ∷ ask (Own (own.Grant 1 5 false false))
    ∷ ask (Own (own.Attach (113 ∷ []) Receiver 0 0 None None 0 4))
    ∷ ask (Heard (record { channel = 0; body = (Some (heard.Attach (record { name = (113 ∷ []); handle = 0; role = Sender; snd_settle_mode = None; rcv_settle_mode = None; source = None; target = None; unsettled = None; incomplete_unsettled = None; initial_delivery_count = (Some 2147483648); max_message_size = None; offered_capabilities = None; desired_capabilities = None; properties = None }))); payload = ([]) }))
    ∷ ask (Own (own.Grant 1 2 false false))
    ∷ ask_windows
    ∷ ask (Heard (record { channel = 0; body = (Some (heard.Transfer (record { handle = 0; delivery_id = (Some 17); delivery_tag = (Some (4 ∷ 5 ∷ [])); message_format = (Some 0); settled = (Some false); more = (Some true); rcv_settle_mode = None; state = None; resume = None; aborted = None; batchable = None }))); payload = (120 ∷ []) }))
    ∷ ask (Own (own.Dispose Receiver 17 17 true (Some state.Accepted)))
    ∷ ask (Heard (record { channel = 0; body = (Some (heard.Transfer (record { handle = 0; delivery_id = None; delivery_tag = None; message_format = None; settled = (Some false); more = None; rcv_settle_mode = None; state = None; resume = None; aborted = None; batchable = None }))); payload = (120 ∷ 120 ∷ 120 ∷ 120 ∷ 120 ∷ 120 ∷ 120 ∷ 120 ∷ 120 ∷ 120 ∷ 120 ∷ 120 ∷ 120 ∷ 120 ∷ 120 ∷ 120 ∷ 120 ∷ 120 ∷ 120 ∷ 120 ∷ 120 ∷ 120 ∷ 120 ∷ 120 ∷ 120 ∷ 120 ∷ 120 ∷ 120 ∷ 120 ∷ 120 ∷ 120 ∷ 120 ∷ 120 ∷ 120 ∷ 120 ∷ 120 ∷ 120 ∷ 120 ∷ 120 ∷ 120 ∷ 120 ∷ 120 ∷ 120 ∷ 120 ∷ 120 ∷ 120 ∷ 120 ∷ 120 ∷ 120 ∷ 120 ∷ 120 ∷ 120 ∷ 120 ∷ 120 ∷ 120 ∷ 120 ∷ 120 ∷ 120 ∷ 120 ∷ 120 ∷ 120 ∷ 120 ∷ 120 ∷ 120 ∷ 120 ∷ 120 ∷ 120 ∷ 120 ∷ 120 ∷ 120 ∷ 120 ∷ 120 ∷ 120 ∷ 120 ∷ 120 ∷ 120 ∷ 120 ∷ 120 ∷ 120 ∷ 120 ∷ 120 ∷ 120 ∷ 120 ∷ 120 ∷ 120 ∷ 120 ∷ 120 ∷ 120 ∷ 120 ∷ 120 ∷ 120 ∷ 120 ∷ 120 ∷ 120 ∷ 120 ∷ 120 ∷ 120 ∷ 120 ∷ 120 ∷ 120 ∷ 120 ∷ 120 ∷ 120 ∷ 120 ∷ 120 ∷ 120 ∷ 120 ∷ 120 ∷ 120 ∷ 120 ∷ 120 ∷ 120 ∷ 120 ∷ 120 ∷ 120 ∷ 120 ∷ 120 ∷ 120 ∷ 120 ∷ 120 ∷ 120 ∷ 120 ∷ 120 ∷ 120 ∷ 120 ∷ 120 ∷ 120 ∷ 120 ∷ 120 ∷ 120 ∷ 120 ∷ 120 ∷ 120 ∷ 120 ∷ 120 ∷ 120 ∷ 120 ∷ 120 ∷ 120 ∷ 120 ∷ 120 ∷ 120 ∷ 120 ∷ 120 ∷ 120 ∷ 120 ∷ 120 ∷ 120 ∷ 120 ∷ 120 ∷ 120 ∷ 120 ∷ 120 ∷ 120 ∷ 120 ∷ 120 ∷ 120 ∷ 120 ∷ 120 ∷ 120 ∷ 120 ∷ 120 ∷ 120 ∷ 120 ∷ 120 ∷ 120 ∷ 120 ∷ 120 ∷ 120 ∷ 120 ∷ 120 ∷ 120 ∷ 120 ∷ 120 ∷ 120 ∷ 120 ∷ 120 ∷ 120 ∷ 120 ∷ 120 ∷ 120 ∷ 120 ∷ 120 ∷ 120 ∷ 120 ∷ 120 ∷ 120 ∷ 120 ∷ 120 ∷ 120 ∷ 120 ∷ 120 ∷ 120 ∷ 120 ∷ 120 ∷ 120 ∷ 120 ∷ 120 ∷ 120 ∷ 120 ∷ 120 ∷ 120 ∷ 120 ∷ 120 ∷ 120 ∷ 120 ∷ 120 ∷ 120 ∷ 120 ∷ 120 ∷ 120 ∷ 120 ∷ 120 ∷ 120 ∷ 120 ∷ 120 ∷ 120 ∷ 120 ∷ 120 ∷ 120 ∷ 120 ∷ 120 ∷ 120 ∷ 120 ∷ 120 ∷ 120 ∷ 120 ∷ 120 ∷ 120 ∷ 120 ∷ 120 ∷ 120 ∷ 120 ∷ 120 ∷ 120 ∷ 120 ∷ 120 ∷ 120 ∷ 120 ∷ 120 ∷ 120 ∷ 120 ∷ 120 ∷ 120 ∷ 120 ∷ 120 ∷ 120 ∷ 120 ∷ 120 ∷ 120 ∷ 120 ∷ 120 ∷ 120 ∷ 120 ∷ 120 ∷ 120 ∷ 120 ∷ 120 ∷ 120 ∷ 120 ∷ 120 ∷ 120 ∷ 120 ∷ 120 ∷ 120 ∷ 120 ∷ 120 ∷ 120 ∷ 120 ∷ 120 ∷ 120 ∷ 120 ∷ 120 ∷ 120 ∷ 120 ∷ 120 ∷ 120 ∷ 120 ∷ 120 ∷ 120 ∷ 120 ∷ 120 ∷ 120 ∷ 120 ∷ 120 ∷ 120 ∷ 120 ∷ 120 ∷ 120 ∷ 120 ∷ 120 ∷ 120 ∷ 120 ∷ 120 ∷ 120 ∷ 120 ∷ 120 ∷ 120 ∷ 120 ∷ 120 ∷ 120 ∷ 120 ∷ 120 ∷ 120 ∷ 120 ∷ 120 ∷ 120 ∷ 120 ∷ 120 ∷ 120 ∷ 120 ∷ 120 ∷ 120 ∷ 120 ∷ 120 ∷ 120 ∷ 120 ∷ 120 ∷ 120 ∷ 120 ∷ 120 ∷ 120 ∷ 120 ∷ 120 ∷ 120 ∷ 120 ∷ 120 ∷ 120 ∷ 120 ∷ 120 ∷ 120 ∷ 120 ∷ 120 ∷ 120 ∷ 120 ∷ 120 ∷ 120 ∷ 120 ∷ 120 ∷ 120 ∷ 120 ∷ 120 ∷ 120 ∷ 120 ∷ 120 ∷ 120 ∷ 120 ∷ 120 ∷ 120 ∷ 120 ∷ 120 ∷ 120 ∷ 120 ∷ 120 ∷ 120 ∷ 120 ∷ 120 ∷ 120 ∷ 120 ∷ 120 ∷ 120 ∷ 120 ∷ 120 ∷ 120 ∷ 120 ∷ 120 ∷ 120 ∷ 120 ∷ 120 ∷ 120 ∷ 120 ∷ 120 ∷ 120 ∷ 120 ∷ 120 ∷ 120 ∷ 120 ∷ 120 ∷ 120 ∷ 120 ∷ 120 ∷ 120 ∷ 120 ∷ 120 ∷ 120 ∷ 120 ∷ 120 ∷ 120 ∷ 120 ∷ 120 ∷ 120 ∷ 120 ∷ 120 ∷ 120 ∷ 120 ∷ 120 ∷ 120 ∷ 120 ∷ 120 ∷ 120 ∷ 120 ∷ 120 ∷ 120 ∷ 120 ∷ 120 ∷ 120 ∷ 120 ∷ 120 ∷ 120 ∷ 120 ∷ 120 ∷ 120 ∷ 120 ∷ 120 ∷ 120 ∷ 120 ∷ 120 ∷ 120 ∷ 120 ∷ 120 ∷ 120 ∷ 120 ∷ 120 ∷ 120 ∷ 120 ∷ 120 ∷ 120 ∷ 120 ∷ 120 ∷ 120 ∷ 120 ∷ 120 ∷ 120 ∷ 120 ∷ 120 ∷ 120 ∷ 120 ∷ 120 ∷ 120 ∷ 120 ∷ 120 ∷ 120 ∷ 120 ∷ 120 ∷ 120 ∷ 120 ∷ 120 ∷ 120 ∷ 120 ∷ 120 ∷ 120 ∷ 120 ∷ 120 ∷ 120 ∷ 120 ∷ 120 ∷ 120 ∷ 120 ∷ 120 ∷ 120 ∷ 120 ∷ 120 ∷ 120 ∷ 120 ∷ 120 ∷ 120 ∷ 120 ∷ 120 ∷ 120 ∷ 120 ∷ 120 ∷ 120 ∷ 120 ∷ 120 ∷ 120 ∷ 120 ∷ 120 ∷ 120 ∷ 120 ∷ 120 ∷ []) }))
    ∷ ask_link 0
    ∷ ask (Heard (record { channel = 0; body = (Some (heard.Transfer (record { handle = 0; delivery_id = None; delivery_tag = None; message_format = None; settled = None; more = (Some false); rcv_settle_mode = None; state = None; resume = None; aborted = None; batchable = None }))); payload = (120 ∷ 120 ∷ []) }))
    ∷ ask (Heard (record { channel = 0; body = (Some (heard.Transfer (record { handle = 0; delivery_id = (Some 18); delivery_tag = (Some (37 ∷ 226 ∷ [])); message_format = (Some 0); settled = (Some false); more = (Some true); rcv_settle_mode = None; state = None; resume = None; aborted = None; batchable = None }))); payload = (120 ∷ 120 ∷ 120 ∷ 120 ∷ 120 ∷ 120 ∷ 120 ∷ 120 ∷ 120 ∷ 120 ∷ 120 ∷ 120 ∷ 120 ∷ 120 ∷ 120 ∷ 120 ∷ 120 ∷ 120 ∷ 120 ∷ 120 ∷ 120 ∷ 120 ∷ 120 ∷ 120 ∷ 120 ∷ 120 ∷ 120 ∷ 120 ∷ 120 ∷ 120 ∷ 120 ∷ 120 ∷ 120 ∷ 120 ∷ 120 ∷ 120 ∷ 120 ∷ 120 ∷ 120 ∷ 120 ∷ 120 ∷ 120 ∷ 120 ∷ 120 ∷ 120 ∷ 120 ∷ 120 ∷ 120 ∷ 120 ∷ 120 ∷ 120 ∷ 120 ∷ 120 ∷ 120 ∷ 120 ∷ 120 ∷ 120 ∷ 120 ∷ 120 ∷ 120 ∷ 120 ∷ 120 ∷ 120 ∷ 120 ∷ 120 ∷ 120 ∷ 120 ∷ 120 ∷ 120 ∷ 120 ∷ 120 ∷ 120 ∷ 120 ∷ 120 ∷ 120 ∷ 120 ∷ 120 ∷ 120 ∷ 120 ∷ 120 ∷ 120 ∷ 120 ∷ 120 ∷ 120 ∷ 120 ∷ 120 ∷ 120 ∷ 120 ∷ 120 ∷ 120 ∷ 120 ∷ 120 ∷ 120 ∷ 120 ∷ 120 ∷ 120 ∷ 120 ∷ 120 ∷ 120 ∷ 120 ∷ 120 ∷ 120 ∷ 120 ∷ 120 ∷ 120 ∷ 120 ∷ 120 ∷ 120 ∷ 120 ∷ 120 ∷ 120 ∷ 120 ∷ 120 ∷ 120 ∷ 120 ∷ 120 ∷ 120 ∷ 120 ∷ 120 ∷ 120 ∷ 120 ∷ 120 ∷ 120 ∷ 120 ∷ 120 ∷ 120 ∷ 120 ∷ 120 ∷ 120 ∷ 120 ∷ 120 ∷ 120 ∷ 120 ∷ 120 ∷ 120 ∷ 120 ∷ 120 ∷ 120 ∷ 120 ∷ 120 ∷ 120 ∷ 120 ∷ 120 ∷ 120 ∷ 120 ∷ 120 ∷ 120 ∷ 120 ∷ 120 ∷ 120 ∷ 120 ∷ 120 ∷ 120 ∷ 120 ∷ 120 ∷ 120 ∷ 120 ∷ 120 ∷ 120 ∷ 120 ∷ 120 ∷ 120 ∷ 120 ∷ 120 ∷ 120 ∷ 120 ∷ 120 ∷ 120 ∷ 120 ∷ 120 ∷ 120 ∷ 120 ∷ 120 ∷ 120 ∷ 120 ∷ 120 ∷ 120 ∷ 120 ∷ 120 ∷ 120 ∷ 120 ∷ 120 ∷ 120 ∷ 120 ∷ 120 ∷ 120 ∷ 120 ∷ 120 ∷ 120 ∷ 120 ∷ 120 ∷ 120 ∷ 120 ∷ 120 ∷ 120 ∷ 120 ∷ 120 ∷ 120 ∷ 120 ∷ 120 ∷ 120 ∷ 120 ∷ 120 ∷ 120 ∷ 120 ∷ 120 ∷ 120 ∷ 120 ∷ 120 ∷ 120 ∷ 120 ∷ 120 ∷ 120 ∷ 120 ∷ 120 ∷ 120 ∷ 120 ∷ 120 ∷ 120 ∷ 120 ∷ 120 ∷ 120 ∷ 120 ∷ 120 ∷ 120 ∷ 120 ∷ 120 ∷ 120 ∷ 120 ∷ 120 ∷ 120 ∷ 120 ∷ 120 ∷ 120 ∷ 120 ∷ 120 ∷ 120 ∷ 120 ∷ 120 ∷ 120 ∷ 120 ∷ 120 ∷ 120 ∷ 120 ∷ 120 ∷ 120 ∷ 120 ∷ 120 ∷ 120 ∷ 120 ∷ 120 ∷ 120 ∷ 120 ∷ 120 ∷ 120 ∷ 120 ∷ 120 ∷ 120 ∷ 120 ∷ 120 ∷ 120 ∷ 120 ∷ 120 ∷ 120 ∷ 120 ∷ 120 ∷ 120 ∷ 120 ∷ 120 ∷ 120 ∷ 120 ∷ 120 ∷ 120 ∷ 120 ∷ 120 ∷ 120 ∷ 120 ∷ 120 ∷ 120 ∷ 120 ∷ 120 ∷ 120 ∷ 120 ∷ 120 ∷ 120 ∷ 120 ∷ 120 ∷ 120 ∷ 120 ∷ 120 ∷ 120 ∷ 120 ∷ 120 ∷ 120 ∷ 120 ∷ 120 ∷ 120 ∷ 120 ∷ 120 ∷ 120 ∷ []) }))
    ∷ ask (Own (own.Take 1))
    ∷ ask (Heard (record { channel = 0; body = (Some (heard.End (record { error = None }))); payload = ([]) }))
    ∷ ask (Own own.Begin)
    ∷ ask (Heard (record { channel = 0; body = (Some (heard.Begin (record { remote_channel = (Some 0); next_outgoing_id = 4294967294; incoming_window = 2048; outgoing_window = 2147483647; handle_max = (Some 255); offered_capabilities = None; desired_capabilities = None; properties = None }))); payload = ([]) }))
    ∷ ask (Heard (record { channel = 0; body = (Some (heard.Begin (record { remote_channel = (Some 7); next_outgoing_id = 0; incoming_window = 0; outgoing_window = 2147483647; handle_max = (Some 255); offered_capabilities = None; desired_capabilities = None; properties = None }))); payload = ([]) }))
    ∷ ask (Own (own.Offer 2 4294967295))
    ∷ ask (Opened 0)
    ∷ ask_windows
    ∷ ask (Own own.Beat)
    ∷ ask_held Sender
    ∷ ask (Opened 0)
    ∷ ask (Opened 65536)
    ∷ ask_link 3
    ∷ ask (Own own.Begin)
    ∷ ask (Opened 511)
    ∷ ask (Heard (record { channel = 0; body = (Some (heard.Begin (record { remote_channel = (Some 0); next_outgoing_id = 625996068; incoming_window = 2048; outgoing_window = 2147483647; handle_max = (Some 0); offered_capabilities = None; desired_capabilities = None; properties = None }))); payload = ([]) }))
    ∷ ask (Heard (record { channel = 0; body = (Some (heard.Begin (record { remote_channel = (Some 0); next_outgoing_id = 1; incoming_window = 2048; outgoing_window = 2147483647; handle_max = None; offered_capabilities = None; desired_capabilities = None; properties = None }))); payload = ([]) }))
    ∷ ask_windows
    ∷ ask_held Sender
    ∷ ask_windows
    ∷ ask_link 0
    ∷ ask_link 1
    ∷ ask_link 2
    ∷ ask_held Sender
    ∷ ask_held Receiver ∷ [])
    ≡ (held ([]) ∷ held ([]) ∷ link None ∷ link None ∷ link None ∷ windows (record { next_in = (Some 0); incoming = 2046; next_out = 1; remote_in = 3; remote_out = 2147483645; next_delivery = 1 }) ∷ held ([]) ∷ windows (record { next_in = (Some 0); incoming = 2046; next_out = 1; remote_in = 3; remote_out = 2147483645; next_delivery = 1 }) ∷ violated 2 ∷ violated 2 ∷ ok given.Nothing ([]) ([]) ∷ refused 3 ∷ link None ∷ ok given.Nothing ([]) ([]) ∷ ok given.Nothing ([]) ([]) ∷ held ([]) ∷ ok given.Nothing ([]) ([] ∷ []) ∷ windows (record { next_in = (Some 0); incoming = 2046; next_out = 1; remote_in = 3; remote_out = 2147483645; next_delivery = 1 }) ∷ ok given.Nothing ([]) ([]) ∷ refused 4 ∷ violated 2 ∷ violated 2 ∷ refused 3 ∷ ok given.Nothing ([]) ([] ∷ []) ∷ ok (given.Taken (record { id = 17; link = 1; tag = (4 ∷ 5 ∷ []); format = 0; payload = (120 ∷ 120 ∷ 120 ∷ []); settled = false; second = false })) ([]) ([]) ∷ violated 13 ∷ ok (given.Ready 1 17) ([]) ([]) ∷ link (Some (record { role = Receiver; phase = phase.Asked; count = 0; credit = 0; drain = false; mid = false; ready = 0 })) ∷ violated 13 ∷ ok given.Nothing ((Receiver, 17) ∷ []) ([] ∷ []) ∷ ok given.Nothing ([]) ([]) ∷ windows (record { next_in = (Some 4294967294); incoming = 2048; next_out = 1; remote_in = 3; remote_out = 2147483647; next_delivery = 1 }) ∷ ok given.Nothing ([]) ([] ∷ []) ∷ ok (given.Attached 1) ([]) ([]) ∷ ok (given.Link 1) ([]) ([] ∷ []) ∷ refused 5 ∷ violated 8 ∷ ok (given.Link 0) ([]) ([] ∷ []) ∷ ok given.Nothing ([]) ([]) ∷ ok given.Nothing ([]) ([] ∷ []) ∷ ok given.Nothing ([]) ([]) ∷ [])
unfolding octets_of frame_refused canon spelled class_of is_utf8 chars encode
random_015 = refl

random_027 : short_lines_of (record { first_id = 0; window = 2048; journal_limit = 1073741824 })
    (ask (Heard (record { channel = 0; body = (Some (heard.Begin (record { remote_channel = None; next_outgoing_id = 4294967295; incoming_window = 1; outgoing_window = 2147483647; handle_max = None; offered_capabilities = None; desired_capabilities = None; properties = None }))); payload = ([]) }))
    ∷ ask (Own own.Begin)
    ∷ ask (Own (own.Attach (113 ∷ []) Sender 2 0 None None 4294967295 18446744073709551615))
    ∷ ask (Heard (record { channel = 0; body = (Some (heard.Flow (record { next_incoming_id = (Some 0); incoming_window = 1; next_outgoing_id = 4294967295; outgoing_window = 4294967295; handle = None; delivery_count = None; link_credit = None; available = None; drain = None; echo = None; properties = None }))); payload = ([]) }))
    ∷ ask (Own (own.Attach (113 ∷ []) Sender 2 0 None None 4294967295 4))
    ∷ ask (Heard (record { channel = 0; body = (Some (heard.Attach (record { name = (113 ∷ []); handle = 0; role = Receiver; snd_settle_mode = (Some 0); rcv_settle_mode = None; source = None; target = None; unsettled = None; incomplete_unsettled = None; initial_delivery_count = None; max_message_size = (Some 4); offered_capabilities = None; desired_capabilities = None; properties = None }))); payload = ([]) }))
    ∷ ask (Heard (record { channel = 0; body = (Some (heard.Flow (record { next_incoming_id = (Some 0); incoming_window = 1; next_outgoing_id = 4294967295; outgoing_window = 4294967295; handle = (Some 0); delivery_count = (Some 4294967295); link_credit = (Some 100); available = None; drain = (Some true); echo = None; properties = None }))); payload = ([]) }))
    ∷ ask (Own (own.Attach (97 ∷ 195 ∷ 169 ∷ []) Receiver 2 1 None None 0 6))
    ∷ ask (Heard (record { channel = 0; body = (Some (heard.Attach (record { name = (97 ∷ 195 ∷ 169 ∷ []); handle = 1; role = Sender; snd_settle_mode = None; rcv_settle_mode = (Some 0); source = None; target = None; unsettled = None; incomplete_unsettled = None; initial_delivery_count = (Some 2147483648); max_message_size = None; offered_capabilities = None; desired_capabilities = None; properties = None }))); payload = ([]) }))
    ∷ ask (Own (own.Grant 1 0 false false))
    ∷ ask (Own (own.Start 0 (175 ∷ 252 ∷ []) 0 false (120 ∷ 120 ∷ 120 ∷ 120 ∷ 120 ∷ 120 ∷ 120 ∷ 120 ∷ []) false))
    ∷ ask (Own (own.Start 0 (2 ∷ []) 255 false (120 ∷ []) false))
    ∷ ask (Own (own.Grant 1 0 true false))
    ∷ ask_windows
    ∷ ask (Own (own.Grant 1 1 false false))
    ∷ ask (Heard (record { channel = 0; body = (Some (heard.Disposition (record { role = Receiver; first = 0; last = None; settled = (Some true); state = (Some state.Released); batchable = None }))); payload = ([]) }))
    ∷ ask (Own (own.Offer 0 300))
    ∷ ask (Own (own.Grant 1 3 false false))
    ∷ ask (Heard (record { channel = 0; body = (Some (heard.Transfer (record { handle = 1; delivery_id = (Some 0); delivery_tag = (Some (3 ∷ 3 ∷ 3 ∷ 3 ∷ 3 ∷ 3 ∷ 3 ∷ 3 ∷ 3 ∷ 3 ∷ 3 ∷ 3 ∷ 3 ∷ 3 ∷ 3 ∷ 3 ∷ 3 ∷ 3 ∷ 3 ∷ 3 ∷ 3 ∷ 3 ∷ 3 ∷ 3 ∷ 3 ∷ 3 ∷ 3 ∷ 3 ∷ 3 ∷ 3 ∷ 3 ∷ 3 ∷ [])); message_format = None; settled = None; more = None; rcv_settle_mode = None; state = None; resume = None; aborted = None; batchable = None }))); payload = (120 ∷ 120 ∷ 120 ∷ 120 ∷ 120 ∷ 120 ∷ 120 ∷ 120 ∷ 120 ∷ 120 ∷ 120 ∷ 120 ∷ 120 ∷ 120 ∷ 120 ∷ 120 ∷ 120 ∷ 120 ∷ 120 ∷ 120 ∷ 120 ∷ 120 ∷ 120 ∷ 120 ∷ 120 ∷ 120 ∷ 120 ∷ 120 ∷ 120 ∷ 120 ∷ 120 ∷ 120 ∷ 120 ∷ 120 ∷ 120 ∷ 120 ∷ 120 ∷ 120 ∷ 120 ∷ 120 ∷ 120 ∷ 120 ∷ 120 ∷ 120 ∷ 120 ∷ 120 ∷ 120 ∷ 120 ∷ 120 ∷ 120 ∷ 120 ∷ 120 ∷ 120 ∷ 120 ∷ 120 ∷ 120 ∷ 120 ∷ 120 ∷ 120 ∷ 120 ∷ 120 ∷ 120 ∷ 120 ∷ 120 ∷ 120 ∷ 120 ∷ 120 ∷ 120 ∷ 120 ∷ 120 ∷ 120 ∷ 120 ∷ 120 ∷ 120 ∷ 120 ∷ 120 ∷ 120 ∷ 120 ∷ 120 ∷ 120 ∷ 120 ∷ 120 ∷ 120 ∷ 120 ∷ 120 ∷ 120 ∷ 120 ∷ 120 ∷ 120 ∷ 120 ∷ 120 ∷ 120 ∷ 120 ∷ 120 ∷ 120 ∷ 120 ∷ 120 ∷ 120 ∷ 120 ∷ 120 ∷ 120 ∷ 120 ∷ 120 ∷ 120 ∷ 120 ∷ 120 ∷ 120 ∷ 120 ∷ 120 ∷ 120 ∷ 120 ∷ 120 ∷ 120 ∷ 120 ∷ 120 ∷ 120 ∷ 120 ∷ 120 ∷ 120 ∷ 120 ∷ 120 ∷ 120 ∷ 120 ∷ 120 ∷ 120 ∷ 120 ∷ 120 ∷ 120 ∷ 120 ∷ 120 ∷ 120 ∷ 120 ∷ 120 ∷ 120 ∷ 120 ∷ 120 ∷ 120 ∷ 120 ∷ 120 ∷ 120 ∷ 120 ∷ 120 ∷ 120 ∷ 120 ∷ 120 ∷ 120 ∷ 120 ∷ 120 ∷ 120 ∷ 120 ∷ 120 ∷ 120 ∷ 120 ∷ 120 ∷ 120 ∷ 120 ∷ 120 ∷ 120 ∷ 120 ∷ 120 ∷ 120 ∷ 120 ∷ 120 ∷ 120 ∷ 120 ∷ 120 ∷ 120 ∷ 120 ∷ 120 ∷ 120 ∷ 120 ∷ 120 ∷ 120 ∷ 120 ∷ 120 ∷ 120 ∷ 120 ∷ 120 ∷ 120 ∷ 120 ∷ 120 ∷ 120 ∷ 120 ∷ 120 ∷ 120 ∷ 120 ∷ 120 ∷ 120 ∷ 120 ∷ 120 ∷ 120 ∷ 120 ∷ 120 ∷ 120 ∷ 120 ∷ 120 ∷ 120 ∷ 120 ∷ 120 ∷ 120 ∷ 120 ∷ 120 ∷ 120 ∷ 120 ∷ 120 ∷ 120 ∷ 120 ∷ 120 ∷ 120 ∷ 120 ∷ 120 ∷ 120 ∷ 120 ∷ 120 ∷ 120 ∷ 120 ∷ 120 ∷ 120 ∷ 120 ∷ 120 ∷ 120 ∷ 120 ∷ 120 ∷ 120 ∷ 120 ∷ 120 ∷ 120 ∷ 120 ∷ 120 ∷ 120 ∷ 120 ∷ 120 ∷ 120 ∷ 120 ∷ 120 ∷ 120 ∷ 120 ∷ 120 ∷ 120 ∷ 120 ∷ 120 ∷ 120 ∷ 120 ∷ 120 ∷ 120 ∷ 120 ∷ 120 ∷ 120 ∷ 120 ∷ 120 ∷ 120 ∷ 120 ∷ 120 ∷ 120 ∷ 120 ∷ 120 ∷ 120 ∷ 120 ∷ 120 ∷ 120 ∷ 120 ∷ 120 ∷ 120 ∷ 120 ∷ 120 ∷ 120 ∷ 120 ∷ 120 ∷ 120 ∷ 120 ∷ 120 ∷ 120 ∷ 120 ∷ 120 ∷ 120 ∷ 120 ∷ 120 ∷ 120 ∷ 120 ∷ 120 ∷ 120 ∷ 120 ∷ 120 ∷ 120 ∷ 120 ∷ 120 ∷ 120 ∷ 120 ∷ 120 ∷ 120 ∷ 120 ∷ 120 ∷ 120 ∷ 120 ∷ 120 ∷ 120 ∷ 120 ∷ 120 ∷ 120 ∷ 120 ∷ 120 ∷ 120 ∷ 120 ∷ 120 ∷ 120 ∷ 120 ∷ 120 ∷ 120 ∷ 120 ∷ 120 ∷ 120 ∷ 120 ∷ 120 ∷ 120 ∷ 120 ∷ 120 ∷ 120 ∷ 120 ∷ 120 ∷ 120 ∷ 120 ∷ 120 ∷ 120 ∷ 120 ∷ 120 ∷ 120 ∷ 120 ∷ 120 ∷ 120 ∷ 120 ∷ 120 ∷ 120 ∷ 120 ∷ 120 ∷ 120 ∷ 120 ∷ 120 ∷ 120 ∷ 120 ∷ 120 ∷ 120 ∷ 120 ∷ 120 ∷ 120 ∷ 120 ∷ 120 ∷ 120 ∷ 120 ∷ 120 ∷ 120 ∷ 120 ∷ 120 ∷ 120 ∷ 120 ∷ 120 ∷ 120 ∷ 120 ∷ 120 ∷ 120 ∷ 120 ∷ 120 ∷ 120 ∷ 120 ∷ 120 ∷ 120 ∷ 120 ∷ 120 ∷ 120 ∷ 120 ∷ 120 ∷ 120 ∷ 120 ∷ 120 ∷ 120 ∷ 120 ∷ 120 ∷ 120 ∷ 120 ∷ 120 ∷ 120 ∷ 120 ∷ 120 ∷ 120 ∷ 120 ∷ 120 ∷ 120 ∷ 120 ∷ 120 ∷ 120 ∷ 120 ∷ 120 ∷ 120 ∷ 120 ∷ 120 ∷ 120 ∷ 120 ∷ 120 ∷ 120 ∷ 120 ∷ 120 ∷ 120 ∷ 120 ∷ 120 ∷ 120 ∷ 120 ∷ 120 ∷ 120 ∷ 120 ∷ 120 ∷ 120 ∷ 120 ∷ 120 ∷ 120 ∷ 120 ∷ 120 ∷ 120 ∷ 120 ∷ 120 ∷ 120 ∷ 120 ∷ 120 ∷ 120 ∷ 120 ∷ 120 ∷ 120 ∷ 120 ∷ 120 ∷ 120 ∷ 120 ∷ 120 ∷ 120 ∷ 120 ∷ 120 ∷ 120 ∷ 120 ∷ 120 ∷ 120 ∷ 120 ∷ 120 ∷ 120 ∷ 120 ∷ 120 ∷ 120 ∷ 120 ∷ 120 ∷ 120 ∷ 120 ∷ 120 ∷ 120 ∷ 120 ∷ 120 ∷ 120 ∷ 120 ∷ 120 ∷ 120 ∷ 120 ∷ 120 ∷ 120 ∷ 120 ∷ 120 ∷ 120 ∷ 120 ∷ 120 ∷ 120 ∷ 120 ∷ 120 ∷ 120 ∷ 120 ∷ 120 ∷ 120 ∷ 120 ∷ 120 ∷ 120 ∷ 120 ∷ 120 ∷ 120 ∷ 120 ∷ 120 ∷ 120 ∷ 120 ∷ 120 ∷ 120 ∷ 120 ∷ 120 ∷ 120 ∷ 120 ∷ 120 ∷ 120 ∷ 120 ∷ 120 ∷ 120 ∷ 120 ∷ 120 ∷ 120 ∷ 120 ∷ []) }))
    ∷ ask (Heard (record { channel = 0; body = (Some (heard.Transfer (record { handle = 1; delivery_id = (Some 2147483647); delivery_tag = (Some (36 ∷ 183 ∷ [])); message_format = (Some 0); settled = (Some true); more = None; rcv_settle_mode = None; state = None; resume = None; aborted = None; batchable = None }))); payload = (120 ∷ 120 ∷ 120 ∷ 120 ∷ 120 ∷ 120 ∷ 120 ∷ 120 ∷ []) }))
    ∷ ask_held Receiver
    ∷ ask (Own (own.Learn 0))
    ∷ ask_held Receiver
    ∷ ask_windows
    ∷ ask_link 0
    ∷ ask_link 1
    ∷ ask_link 2
    ∷ ask_held Sender
    ∷ ask_held Receiver ∷ [])
    ≡ (held ([]) ∷ held ([]) ∷ link None ∷ link (Some (record { role = Receiver; phase = phase.Attached; count = 2147483648; credit = 3; drain = false; mid = false; ready = 0 })) ∷ link (Some (record { role = Sender; phase = phase.Attached; count = 0; credit = 99; drain = true; mid = false; ready = 0 })) ∷ windows (record { next_in = (Some 4294967295); incoming = 2048; next_out = 1; remote_in = 0; remote_out = 4294967295; next_delivery = 1 }) ∷ held ([]) ∷ ok (given.Learned (record { id = 0; link = 0; tag = (2 ∷ []); state = (Some state.Released); settled = true })) ([]) ([]) ∷ held ([]) ∷ violated 13 ∷ violated 13 ∷ ok given.Nothing ([]) ([] ∷ []) ∷ ok given.Nothing ([]) ([] ∷ []) ∷ ok given.Nothing ((Sender, 0) ∷ []) ([]) ∷ ok given.Nothing ([]) ([] ∷ []) ∷ windows (record { next_in = (Some 4294967295); incoming = 2048; next_out = 1; remote_in = 0; remote_out = 4294967295; next_delivery = 1 }) ∷ ok given.Nothing ([]) ([] ∷ []) ∷ ok (given.Delivery 0) ([]) ([] ∷ []) ∷ refused 16 ∷ ok given.Nothing ([]) ([] ∷ []) ∷ ok (given.Attached 1) ([]) ([]) ∷ ok (given.Link 1) ([]) ([] ∷ []) ∷ ok given.Nothing ([]) ([]) ∷ ok (given.Attached 0) ([]) ([]) ∷ refused 8 ∷ ok given.Nothing ([]) ([]) ∷ ok (given.Link 0) ([]) ([] ∷ []) ∷ ok given.Nothing ([]) ([] ∷ []) ∷ ok given.Nothing ([]) ([]) ∷ [])
unfolding octets_of frame_refused canon spelled class_of is_utf8 chars encode
random_027 = refl

random_029 : short_lines_of (record { first_id = 2158956781; window = 2048; journal_limit = 1073741824 })
    (ask (Opened 65536)
    ∷ ask (Heard (record { channel = 0; body = (Some (heard.Begin (record { remote_channel = (Some 7); next_outgoing_id = 1; incoming_window = 2048; outgoing_window = 2147483647; handle_max = (Some 4294967295); offered_capabilities = None; desired_capabilities = None; properties = None }))); payload = ([]) }))
    ∷ ask (Own own.Begin)
    ∷ ask (Own (own.Attach (97 ∷ 195 ∷ 169 ∷ []) Receiver 2 1 None None 0 0))
    ∷ ask (Heard (record { channel = 0; body = (Some (heard.Attach (record { name = (97 ∷ 195 ∷ 169 ∷ []); handle = 0; role = Sender; snd_settle_mode = (Some 2); rcv_settle_mode = (Some 0); source = None; target = None; unsettled = None; incomplete_unsettled = None; initial_delivery_count = (Some 4294967295); max_message_size = (Some 4); offered_capabilities = None; desired_capabilities = None; properties = None }))); payload = ([]) }))
    ∷ ask (Own (own.Grant 0 5 false false))
    ∷ ask (Own (own.Attach (113 ∷ []) Receiver 2 0 None None 0 0))
    ∷ ask (Heard (record { channel = 0; body = (Some (heard.Flow (record { next_incoming_id = (Some 2158956781); incoming_window = 2048; next_outgoing_id = 1; outgoing_window = 2048; handle = None; delivery_count = None; link_credit = None; available = None; drain = None; echo = None; properties = None }))); payload = ([]) }))
    ∷ ask (Heard (record { channel = 0; body = (Some (heard.Attach (record { name = (113 ∷ []); handle = 1; role = Sender; snd_settle_mode = (Some 0); rcv_settle_mode = (Some 0); source = None; target = None; unsettled = None; incomplete_unsettled = None; initial_delivery_count = (Some 5); max_message_size = None; offered_capabilities = None; desired_capabilities = None; properties = None }))); payload = ([]) }))
    ∷ ask (Own (own.Grant 0 10 false false))
    ∷ ask (Own (own.Attach (121 ∷ []) Sender 2 0 None None 4294967295 0))
    ∷ ask (Heard (record { channel = 0; body = (Some (heard.Flow (record { next_incoming_id = (Some 2158956781); incoming_window = 2048; next_outgoing_id = 1; outgoing_window = 4284481535; handle = None; delivery_count = None; link_credit = None; available = None; drain = None; echo = None; properties = None }))); payload = ([]) }))
    ∷ ask (Heard (record { channel = 0; body = (Some (heard.Transfer (record { handle = 1; delivery_id = (Some 4294967295); delivery_tag = (Some (5 ∷ 229 ∷ [])); message_format = (Some 0); settled = (Some false); more = (Some false); rcv_settle_mode = None; state = None; resume = None; aborted = None; batchable = None }))); payload = (120 ∷ []) }))
    ∷ ask (Heard (record { channel = 0; body = (Some (heard.Transfer (record { handle = 0; delivery_id = (Some 17); delivery_tag = (Some ([])); message_format = None; settled = None; more = (Some true); rcv_settle_mode = None; state = None; resume = None; aborted = (Some true); batchable = None }))); payload = (120 ∷ 120 ∷ 120 ∷ []) }))
    ∷ ask (Own (own.Refresh true))
    ∷ ask (Own (own.Attach (122 ∷ []) Receiver 2 1 None None 4294967294 0))
    ∷ ask (Heard (record { channel = 0; body = (Some (heard.Transfer (record { handle = 0; delivery_id = (Some 18); delivery_tag = (Some (88 ∷ 191 ∷ [])); message_format = None; settled = None; more = None; rcv_settle_mode = None; state = None; resume = None; aborted = (Some true); batchable = None }))); payload = (120 ∷ []) }))
    ∷ ask (Heard (record { channel = 0; body = (Some (heard.Flow (record { next_incoming_id = (Some 2158956781); incoming_window = 3; next_outgoing_id = 3; outgoing_window = 3; handle = None; delivery_count = None; link_credit = None; available = None; drain = None; echo = None; properties = None }))); payload = ([]) }))
    ∷ ask (Heard (record { channel = 0; body = (Some (heard.Transfer (record { handle = 0; delivery_id = (Some 19); delivery_tag = (Some (167 ∷ 78 ∷ [])); message_format = (Some 1); settled = None; more = None; rcv_settle_mode = None; state = (Some state.Accepted); resume = (Some false); aborted = None; batchable = None }))); payload = (120 ∷ []) }))
    ∷ ask (Own (own.Dispose Receiver 19 19 false (Some state.Released)))
    ∷ ask (Own (own.Attach (122 ∷ []) Sender 0 0 None None 0 300))
    ∷ ask (Heard (record { channel = 0; body = (Some (heard.Transfer (record { handle = 0; delivery_id = (Some 20); delivery_tag = (Some (61 ∷ 198 ∷ [])); message_format = None; settled = (Some true); more = (Some true); rcv_settle_mode = None; state = None; resume = None; aborted = None; batchable = None }))); payload = (120 ∷ 120 ∷ 120 ∷ 120 ∷ 120 ∷ []) }))
    ∷ ask (Heard (record { channel = 0; body = (Some (heard.Transfer (record { handle = 0; delivery_id = (Some 20); delivery_tag = None; message_format = None; settled = None; more = None; rcv_settle_mode = None; state = None; resume = None; aborted = None; batchable = None }))); payload = (120 ∷ 120 ∷ 120 ∷ 120 ∷ 120 ∷ 120 ∷ 120 ∷ 120 ∷ []) }))
    ∷ ask_windows
    ∷ ask (Heard (record { channel = 0; body = (Some (heard.Transfer (record { handle = 0; delivery_id = (Some 21); delivery_tag = (Some (1 ∷ 207 ∷ [])); message_format = None; settled = None; more = (Some true); rcv_settle_mode = None; state = None; resume = None; aborted = None; batchable = None }))); payload = (120 ∷ 120 ∷ 120 ∷ 120 ∷ 120 ∷ 120 ∷ 120 ∷ 120 ∷ []) }))
    ∷ ask (Own (own.Dispose Receiver 19 19 true (Some state.Accepted)))
    ∷ ask (Heard (record { channel = 0; body = (Some (heard.Transfer (record { handle = 0; delivery_id = None; delivery_tag = None; message_format = None; settled = None; more = None; rcv_settle_mode = None; state = None; resume = None; aborted = (Some true); batchable = None }))); payload = (120 ∷ 120 ∷ 120 ∷ 120 ∷ 120 ∷ 120 ∷ 120 ∷ 120 ∷ []) }))
    ∷ ask (Own (own.Dispose Receiver 19 19 true None))
    ∷ ask (Own (own.Dispose Receiver 19 19 true (Some state.Accepted)))
    ∷ ask_windows
    ∷ ask_link 0
    ∷ ask_link 1
    ∷ ask_link 2
    ∷ ask_link 3
    ∷ ask_link 4
    ∷ ask_link 5
    ∷ ask_held Sender
    ∷ ask_held Receiver ∷ [])
    ≡ (held (record { id = 19; link = 0; tag = (167 ∷ 78 ∷ []); second = true; local = (Some state.Released); remote = (Some state.Accepted) } ∷ []) ∷ held ([]) ∷ link None ∷ link (Some (record { role = Sender; phase = phase.Asked; count = 0; credit = 0; drain = false; mid = false; ready = 0 })) ∷ link (Some (record { role = Receiver; phase = phase.Asked; count = 0; credit = 0; drain = false; mid = false; ready = 0 })) ∷ link (Some (record { role = Sender; phase = phase.Asked; count = 4294967295; credit = 0; drain = false; mid = false; ready = 0 })) ∷ link (Some (record { role = Receiver; phase = phase.Attached; count = 5; credit = 0; drain = false; mid = false; ready = 0 })) ∷ link (Some (record { role = Receiver; phase = phase.Attached; count = 4; credit = 5; drain = false; mid = false; ready = 2 })) ∷ windows (record { next_in = (Some 8); incoming = 2042; next_out = 2158956781; remote_in = 3; remote_out = 0; next_delivery = 2158956781 }) ∷ refused 23 ∷ refused 23 ∷ ok given.Nothing ((Receiver, 21) ∷ []) ([]) ∷ refused 23 ∷ ok given.Nothing ([]) ([]) ∷ windows (record { next_in = (Some 6); incoming = 2044; next_out = 2158956781; remote_in = 3; remote_out = 0; next_delivery = 2158956781 }) ∷ ok (given.Ready 0 20) ([]) ([]) ∷ ok given.Nothing ([]) ([]) ∷ ok (given.Link 4) ([]) ([] ∷ []) ∷ ok given.Nothing ([]) ([] ∷ []) ∷ ok (given.Ready 0 19) ([]) ([]) ∷ ok given.Nothing ([]) ([]) ∷ ok given.Nothing ([]) ([]) ∷ ok (given.Link 3) ([]) ([] ∷ []) ∷ ok given.Nothing ([]) ([] ∷ []) ∷ ok given.Nothing ([]) ([]) ∷ violated 12 ∷ ok given.Nothing ([]) ([]) ∷ ok (given.Link 2) ([]) ([] ∷ []) ∷ ok given.Nothing ([]) ([] ∷ []) ∷ ok (given.Attached 1) ([]) ([]) ∷ ok given.Nothing ([]) ([]) ∷ ok (given.Link 1) ([]) ([] ∷ []) ∷ ok given.Nothing ([]) ([] ∷ []) ∷ ok (given.Attached 0) ([]) ([]) ∷ ok (given.Link 0) ([]) ([] ∷ []) ∷ ok given.Nothing ([]) ([] ∷ []) ∷ ok given.Nothing ([]) ([]) ∷ ok given.Nothing ([]) ([]) ∷ [])
unfolding octets_of frame_refused canon spelled class_of is_utf8 chars encode
random_029 = refl

random_034 : short_lines_of (record { first_id = 0; window = 2048; journal_limit = 1073741824 })
    (ask (Opened 4294967295)
    ∷ ask (Heard (record { channel = 0; body = (Some (heard.Begin (record { remote_channel = (Some 0); next_outgoing_id = 4294967294; incoming_window = 2048; outgoing_window = 2147483647; handle_max = None; offered_capabilities = None; desired_capabilities = None; properties = None }))); payload = ([]) }))
    ∷ ask (Own own.Begin)
    ∷ ask (Own (own.Attach (122 ∷ []) Receiver 2 0 None None 5 18446744073709551615))
    ∷ ask (Heard (record { channel = 0; body = (Some (heard.Attach (record { name = (122 ∷ []); handle = 0; role = Sender; snd_settle_mode = None; rcv_settle_mode = None; source = None; target = None; unsettled = None; incomplete_unsettled = None; initial_delivery_count = (Some 0); max_message_size = None; offered_capabilities = None; desired_capabilities = None; properties = None }))); payload = ([]) }))
    ∷ ask (Own (own.Grant 0 2 false false))
    ∷ ask (Own (own.Detach 0 None))
    ∷ ask_held Sender
    ∷ ask (Heard (record { channel = 0; body = (Some (heard.Flow (record { next_incoming_id = None; incoming_window = 0; next_outgoing_id = 4294967294; outgoing_window = 4294967295; handle = None; delivery_count = None; link_credit = None; available = None; drain = None; echo = None; properties = None }))); payload = ([]) }))
    ∷ ask_windows
    ∷ ask (Own (own.Attach (121 ∷ []) Receiver 2 0 None None 0 0))
    ∷ ask (Own (own.Grant 7 100 false false))
    ∷ ask (Own (own.Refresh false))
    ∷ ask_windows
    ∷ ask (Heard (record { channel = 0; body = (Some (heard.Attach (record { name = (121 ∷ []); handle = 0; role = Sender; snd_settle_mode = None; rcv_settle_mode = (Some 1); source = None; target = None; unsettled = None; incomplete_unsettled = None; initial_delivery_count = (Some 0); max_message_size = None; offered_capabilities = None; desired_capabilities = None; properties = None }))); payload = ([]) }))
    ∷ ask_link 1
    ∷ ask (Own (own.End None))
    ∷ ask (Own own.Begin)
    ∷ ask_link 2
    ∷ ask (Opened 512)
    ∷ ask (Heard (record { channel = 0; body = (Some (heard.Begin (record { remote_channel = None; next_outgoing_id = 2328915286; incoming_window = 2048; outgoing_window = 0; handle_max = None; offered_capabilities = None; desired_capabilities = None; properties = None }))); payload = ([]) }))
    ∷ ask (Own own.Begin)
    ∷ ask (Heard (record { channel = 0; body = (Some (heard.Begin (record { remote_channel = (Some 0); next_outgoing_id = 1; incoming_window = 2048; outgoing_window = 2147483647; handle_max = None; offered_capabilities = None; desired_capabilities = None; properties = None }))); payload = ([]) }))
    ∷ ask (Heard (record { channel = 0; body = (Some (heard.Begin (record { remote_channel = (Some 7); next_outgoing_id = 4294967294; incoming_window = 2048; outgoing_window = 2147483647; handle_max = (Some 1); offered_capabilities = None; desired_capabilities = None; properties = None }))); payload = ([]) }))
    ∷ ask (Opened 0)
    ∷ ask (Heard (record { channel = 0; body = (Some (heard.Begin (record { remote_channel = (Some 0); next_outgoing_id = 2125267778; incoming_window = 0; outgoing_window = 2147483647; handle_max = None; offered_capabilities = None; desired_capabilities = None; properties = None }))); payload = ([]) }))
    ∷ ask_windows
    ∷ ask (Heard (record { channel = 0; body = (Some (heard.Begin (record { remote_channel = (Some 0); next_outgoing_id = 0; incoming_window = 2048; outgoing_window = 2; handle_max = None; offered_capabilities = None; desired_capabilities = None; properties = None }))); payload = ([]) }))
    ∷ ask (Own own.Begin)
    ∷ ask (Own own.Begin)
    ∷ ask (Own own.Begin)
    ∷ ask (Own (own.Offer 2 4294967295))
    ∷ ask_link 3
    ∷ ask (Own own.Begin)
    ∷ ask (Own own.Begin)
    ∷ ask_link 0
    ∷ ask (Heard (record { channel = 0; body = (Some (heard.Begin (record { remote_channel = (Some 0); next_outgoing_id = 0; incoming_window = 0; outgoing_window = 2147483647; handle_max = None; offered_capabilities = None; desired_capabilities = None; properties = None }))); payload = ([]) }))
    ∷ ask_link 2
    ∷ ask (Heard (record { channel = 0; body = (Some (heard.Begin (record { remote_channel = (Some 0); next_outgoing_id = 1; incoming_window = 2048; outgoing_window = 2147483647; handle_max = (Some 1); offered_capabilities = None; desired_capabilities = None; properties = None }))); payload = ([]) }))
    ∷ ask (Own own.Beat)
    ∷ ask_windows
    ∷ ask_link 0
    ∷ ask_link 1
    ∷ ask_link 2
    ∷ ask_held Sender
    ∷ ask_held Receiver ∷ [])
    ≡ (held ([]) ∷ held ([]) ∷ link None ∷ link None ∷ link None ∷ windows (record { next_in = (Some 4294967294); incoming = 2048; next_out = 0; remote_in = 0; remote_out = 4294967295; next_delivery = 0 }) ∷ ok given.Nothing ([]) ([] ∷ []) ∷ ok given.Nothing ([]) ([]) ∷ link None ∷ ok given.Nothing ([]) ([]) ∷ link None ∷ refused 3 ∷ refused 3 ∷ link None ∷ refused 4 ∷ refused 3 ∷ refused 3 ∷ refused 3 ∷ ok given.Nothing ([]) ([]) ∷ windows (record { next_in = (Some 4294967294); incoming = 2048; next_out = 0; remote_in = 0; remote_out = 4294967295; next_delivery = 0 }) ∷ ok given.Nothing ([]) ([]) ∷ ok given.Nothing ([]) ([]) ∷ ok given.Nothing ([]) ([]) ∷ ok given.Nothing ([]) ([]) ∷ refused 3 ∷ ok given.Nothing ([]) ([]) ∷ ok given.Nothing ([]) ([]) ∷ link None ∷ refused 3 ∷ ok given.Nothing ([]) ([] ∷ []) ∷ link (Some (record { role = Receiver; phase = phase.Asked; count = 0; credit = 0; drain = false; mid = false; ready = 0 })) ∷ violated 4 ∷ windows (record { next_in = (Some 4294967294); incoming = 2048; next_out = 0; remote_in = 0; remote_out = 4294967295; next_delivery = 0 }) ∷ ok given.Nothing ([]) ([] ∷ []) ∷ refused 5 ∷ ok (given.Link 1) ([]) ([] ∷ []) ∷ windows (record { next_in = (Some 4294967294); incoming = 2048; next_out = 0; remote_in = 0; remote_out = 4294967295; next_delivery = 0 }) ∷ ok given.Nothing ([]) ([]) ∷ held ([]) ∷ ok given.Nothing ([]) ([] ∷ []) ∷ ok given.Nothing ([]) ([] ∷ []) ∷ ok (given.Attached 0) ([]) ([]) ∷ ok (given.Link 0) ([]) ([] ∷ []) ∷ ok given.Nothing ([]) ([] ∷ []) ∷ ok given.Nothing ([]) ([]) ∷ ok given.Nothing ([]) ([]) ∷ [])
unfolding octets_of frame_refused canon spelled class_of is_utf8 chars encode
random_034 = refl

random_038 : short_lines_of (record { first_id = 4294967294; window = 3; journal_limit = 1073741824 })
    (ask (Opened 512)
    ∷ ask (Own own.Begin)
    ∷ ask (Own (own.Attach (121 ∷ []) Sender 0 0 None None 4294967294 6))
    ∷ ask (Heard (record { channel = 0; body = (Some (heard.Attach (record { name = (121 ∷ []); handle = 0; role = Receiver; snd_settle_mode = (Some 2); rcv_settle_mode = None; source = None; target = None; unsettled = None; incomplete_unsettled = None; initial_delivery_count = None; max_message_size = (Some 18446744073709551615); offered_capabilities = None; desired_capabilities = None; properties = None }))); payload = ([]) }))
    ∷ ask (Heard (record { channel = 0; body = (Some (heard.Flow (record { next_incoming_id = (Some 4294967294); incoming_window = 0; next_outgoing_id = 0; outgoing_window = 4294967295; handle = None; delivery_count = None; link_credit = None; available = None; drain = None; echo = None; properties = None }))); payload = ([]) }))
    ∷ ask (Heard (record { channel = 0; body = (Some (heard.Begin (record { remote_channel = None; next_outgoing_id = 2715782485; incoming_window = 2048; outgoing_window = 0; handle_max = (Some 4294967295); offered_capabilities = None; desired_capabilities = None; properties = None }))); payload = ([]) }))
    ∷ ask (Own (own.Attach (113 ∷ []) Sender 2 0 None None 0 1))
    ∷ ask (Heard (record { channel = 0; body = (Some (heard.Attach (record { name = (113 ∷ []); handle = 5; role = Receiver; snd_settle_mode = (Some 2); rcv_settle_mode = None; source = None; target = None; unsettled = None; incomplete_unsettled = None; initial_delivery_count = None; max_message_size = None; offered_capabilities = None; desired_capabilities = None; properties = None }))); payload = ([]) }))
    ∷ ask (Heard (record { channel = 0; body = (Some (heard.Flow (record { next_incoming_id = None; incoming_window = 2048; next_outgoing_id = 2715782485; outgoing_window = 2048; handle = (Some 5); delivery_count = (Some 0); link_credit = (Some 2147483648); available = None; drain = (Some true); echo = None; properties = None }))); payload = ([]) }))
    ∷ ask (Heard (record { channel = 0; body = (Some (heard.Attach (record { name = (113 ∷ []); handle = 0; role = Receiver; snd_settle_mode = (Some 0); rcv_settle_mode = (Some 1); source = None; target = None; unsettled = None; incomplete_unsettled = None; initial_delivery_count = None; max_message_size = None; offered_capabilities = None; desired_capabilities = None; properties = None }))); payload = ([]) }))
    ∷ ask (Own (own.Attach (113 ∷ []) Sender 2 0 None None 0 4))
    ∷ ask (Heard (record { channel = 0; body = (Some (heard.Flow (record { next_incoming_id = (Some 4294967294); incoming_window = 4294967295; next_outgoing_id = 2715782485; outgoing_window = 2147483647; handle = (Some 5); delivery_count = (Some 0); link_credit = (Some 2147483648); available = None; drain = None; echo = None; properties = None }))); payload = ([]) }))
    ∷ ask (Own (own.Start 0 (61 ∷ 61 ∷ []) 255 false (120 ∷ 120 ∷ 120 ∷ 120 ∷ 120 ∷ 120 ∷ 120 ∷ 120 ∷ 120 ∷ 120 ∷ 120 ∷ 120 ∷ 120 ∷ 120 ∷ 120 ∷ 120 ∷ 120 ∷ 120 ∷ 120 ∷ 120 ∷ 120 ∷ 120 ∷ 120 ∷ 120 ∷ 120 ∷ 120 ∷ 120 ∷ 120 ∷ 120 ∷ 120 ∷ 120 ∷ 120 ∷ 120 ∷ 120 ∷ 120 ∷ 120 ∷ 120 ∷ 120 ∷ 120 ∷ 120 ∷ 120 ∷ 120 ∷ 120 ∷ 120 ∷ 120 ∷ 120 ∷ 120 ∷ 120 ∷ 120 ∷ 120 ∷ 120 ∷ 120 ∷ 120 ∷ 120 ∷ 120 ∷ 120 ∷ 120 ∷ 120 ∷ 120 ∷ 120 ∷ 120 ∷ 120 ∷ 120 ∷ 120 ∷ 120 ∷ 120 ∷ 120 ∷ 120 ∷ 120 ∷ 120 ∷ 120 ∷ 120 ∷ 120 ∷ 120 ∷ 120 ∷ 120 ∷ 120 ∷ 120 ∷ 120 ∷ 120 ∷ 120 ∷ 120 ∷ 120 ∷ 120 ∷ 120 ∷ 120 ∷ 120 ∷ 120 ∷ 120 ∷ 120 ∷ 120 ∷ 120 ∷ 120 ∷ 120 ∷ 120 ∷ 120 ∷ 120 ∷ 120 ∷ 120 ∷ 120 ∷ 120 ∷ 120 ∷ 120 ∷ 120 ∷ 120 ∷ 120 ∷ 120 ∷ 120 ∷ 120 ∷ 120 ∷ 120 ∷ 120 ∷ 120 ∷ 120 ∷ 120 ∷ 120 ∷ 120 ∷ 120 ∷ 120 ∷ 120 ∷ 120 ∷ 120 ∷ 120 ∷ 120 ∷ 120 ∷ 120 ∷ 120 ∷ 120 ∷ 120 ∷ 120 ∷ 120 ∷ 120 ∷ 120 ∷ 120 ∷ 120 ∷ 120 ∷ 120 ∷ 120 ∷ 120 ∷ 120 ∷ 120 ∷ 120 ∷ 120 ∷ 120 ∷ 120 ∷ 120 ∷ 120 ∷ 120 ∷ 120 ∷ 120 ∷ 120 ∷ 120 ∷ 120 ∷ 120 ∷ 120 ∷ 120 ∷ 120 ∷ 120 ∷ 120 ∷ 120 ∷ 120 ∷ 120 ∷ 120 ∷ 120 ∷ 120 ∷ 120 ∷ 120 ∷ 120 ∷ 120 ∷ 120 ∷ 120 ∷ 120 ∷ 120 ∷ 120 ∷ 120 ∷ 120 ∷ 120 ∷ 120 ∷ 120 ∷ 120 ∷ 120 ∷ 120 ∷ 120 ∷ 120 ∷ 120 ∷ 120 ∷ 120 ∷ 120 ∷ 120 ∷ 120 ∷ 120 ∷ 120 ∷ 120 ∷ 120 ∷ 120 ∷ 120 ∷ 120 ∷ 120 ∷ 120 ∷ 120 ∷ 120 ∷ 120 ∷ 120 ∷ 120 ∷ 120 ∷ 120 ∷ 120 ∷ 120 ∷ 120 ∷ 120 ∷ 120 ∷ 120 ∷ 120 ∷ 120 ∷ 120 ∷ 120 ∷ 120 ∷ 120 ∷ 120 ∷ 120 ∷ 120 ∷ 120 ∷ 120 ∷ 120 ∷ 120 ∷ 120 ∷ 120 ∷ 120 ∷ 120 ∷ 120 ∷ 120 ∷ 120 ∷ 120 ∷ 120 ∷ 120 ∷ 120 ∷ 120 ∷ 120 ∷ 120 ∷ 120 ∷ 120 ∷ 120 ∷ 120 ∷ 120 ∷ 120 ∷ 120 ∷ 120 ∷ 120 ∷ 120 ∷ 120 ∷ 120 ∷ 120 ∷ 120 ∷ 120 ∷ 120 ∷ 120 ∷ 120 ∷ 120 ∷ 120 ∷ 120 ∷ 120 ∷ 120 ∷ 120 ∷ 120 ∷ 120 ∷ 120 ∷ 120 ∷ 120 ∷ 120 ∷ 120 ∷ 120 ∷ 120 ∷ 120 ∷ 120 ∷ 120 ∷ 120 ∷ 120 ∷ 120 ∷ 120 ∷ 120 ∷ 120 ∷ 120 ∷ 120 ∷ 120 ∷ 120 ∷ 120 ∷ 120 ∷ 120 ∷ 120 ∷ 120 ∷ 120 ∷ 120 ∷ 120 ∷ 120 ∷ 120 ∷ 120 ∷ 120 ∷ 120 ∷ 120 ∷ 120 ∷ []) false))
    ∷ ask (Own (own.Start 0 (164 ∷ 93 ∷ []) 0 true (120 ∷ 120 ∷ []) false))
    ∷ ask_link 0
    ∷ ask (Own (own.Start 0 (5 ∷ 221 ∷ []) 255 false (120 ∷ []) true))
    ∷ ask (Heard (record { channel = 0; body = (Some (heard.Flow (record { next_incoming_id = (Some 1); incoming_window = 2048; next_outgoing_id = 2715782486; outgoing_window = 0; handle = (Some 5); delivery_count = (Some 3); link_credit = None; available = None; drain = (Some true); echo = None; properties = None }))); payload = ([]) }))
    ∷ ask_windows
    ∷ ask (Own (own.Offer 0 0))
    ∷ ask (Own (own.Start 0 (3 ∷ 3 ∷ 3 ∷ 3 ∷ 3 ∷ 3 ∷ 3 ∷ 3 ∷ 3 ∷ 3 ∷ 3 ∷ 3 ∷ 3 ∷ 3 ∷ 3 ∷ 3 ∷ 3 ∷ 3 ∷ 3 ∷ 3 ∷ 3 ∷ 3 ∷ 3 ∷ 3 ∷ 3 ∷ 3 ∷ 3 ∷ 3 ∷ 3 ∷ 3 ∷ 3 ∷ 3 ∷ []) 256 false (120 ∷ 120 ∷ 120 ∷ []) true))
    ∷ ask (Heard (record { channel = 0; body = (Some (heard.Flow (record { next_incoming_id = (Some 1); incoming_window = 2048; next_outgoing_id = 2715782486; outgoing_window = 2048; handle = (Some 5); delivery_count = None; link_credit = (Some 100); available = None; drain = None; echo = None; properties = None }))); payload = ([]) }))
    ∷ ask_held Receiver
    ∷ ask (Own (own.Carry 0 ([]) true))
    ∷ ask_windows
    ∷ ask (Own (own.Carry 0 (120 ∷ []) true))
    ∷ ask_held Sender
    ∷ ask (Own (own.Start 2 (3 ∷ 3 ∷ 3 ∷ 3 ∷ 3 ∷ 3 ∷ 3 ∷ 3 ∷ 3 ∷ 3 ∷ 3 ∷ 3 ∷ 3 ∷ 3 ∷ 3 ∷ 3 ∷ 3 ∷ 3 ∷ 3 ∷ 3 ∷ 3 ∷ 3 ∷ 3 ∷ 3 ∷ 3 ∷ 3 ∷ 3 ∷ 3 ∷ 3 ∷ 3 ∷ 3 ∷ 3 ∷ []) 0 true (120 ∷ 120 ∷ 120 ∷ 120 ∷ 120 ∷ 120 ∷ 120 ∷ 120 ∷ 120 ∷ 120 ∷ 120 ∷ 120 ∷ 120 ∷ 120 ∷ 120 ∷ 120 ∷ 120 ∷ 120 ∷ 120 ∷ 120 ∷ 120 ∷ 120 ∷ 120 ∷ 120 ∷ 120 ∷ 120 ∷ 120 ∷ 120 ∷ 120 ∷ 120 ∷ 120 ∷ 120 ∷ 120 ∷ 120 ∷ 120 ∷ 120 ∷ 120 ∷ 120 ∷ 120 ∷ 120 ∷ 120 ∷ 120 ∷ 120 ∷ 120 ∷ 120 ∷ 120 ∷ 120 ∷ 120 ∷ 120 ∷ 120 ∷ 120 ∷ 120 ∷ 120 ∷ 120 ∷ 120 ∷ 120 ∷ 120 ∷ 120 ∷ 120 ∷ 120 ∷ 120 ∷ 120 ∷ 120 ∷ 120 ∷ 120 ∷ 120 ∷ 120 ∷ 120 ∷ 120 ∷ 120 ∷ 120 ∷ 120 ∷ 120 ∷ 120 ∷ 120 ∷ 120 ∷ 120 ∷ 120 ∷ 120 ∷ 120 ∷ 120 ∷ 120 ∷ 120 ∷ 120 ∷ 120 ∷ 120 ∷ 120 ∷ 120 ∷ 120 ∷ 120 ∷ 120 ∷ 120 ∷ 120 ∷ 120 ∷ 120 ∷ 120 ∷ 120 ∷ 120 ∷ 120 ∷ 120 ∷ 120 ∷ 120 ∷ 120 ∷ 120 ∷ 120 ∷ 120 ∷ 120 ∷ 120 ∷ 120 ∷ 120 ∷ 120 ∷ 120 ∷ 120 ∷ 120 ∷ 120 ∷ 120 ∷ 120 ∷ 120 ∷ 120 ∷ 120 ∷ 120 ∷ 120 ∷ 120 ∷ 120 ∷ 120 ∷ 120 ∷ 120 ∷ 120 ∷ 120 ∷ 120 ∷ 120 ∷ 120 ∷ 120 ∷ 120 ∷ 120 ∷ 120 ∷ 120 ∷ 120 ∷ 120 ∷ 120 ∷ 120 ∷ 120 ∷ 120 ∷ 120 ∷ 120 ∷ 120 ∷ 120 ∷ 120 ∷ 120 ∷ 120 ∷ 120 ∷ 120 ∷ 120 ∷ 120 ∷ 120 ∷ 120 ∷ 120 ∷ 120 ∷ 120 ∷ 120 ∷ 120 ∷ 120 ∷ 120 ∷ 120 ∷ 120 ∷ 120 ∷ 120 ∷ 120 ∷ 120 ∷ 120 ∷ 120 ∷ 120 ∷ 120 ∷ 120 ∷ 120 ∷ 120 ∷ 120 ∷ 120 ∷ 120 ∷ 120 ∷ 120 ∷ 120 ∷ 120 ∷ 120 ∷ 120 ∷ 120 ∷ 120 ∷ 120 ∷ 120 ∷ 120 ∷ 120 ∷ 120 ∷ 120 ∷ 120 ∷ 120 ∷ 120 ∷ 120 ∷ 120 ∷ 120 ∷ 120 ∷ 120 ∷ 120 ∷ 120 ∷ 120 ∷ 120 ∷ 120 ∷ 120 ∷ 120 ∷ 120 ∷ 120 ∷ 120 ∷ 120 ∷ 120 ∷ 120 ∷ 120 ∷ 120 ∷ 120 ∷ 120 ∷ 120 ∷ 120 ∷ 120 ∷ 120 ∷ 120 ∷ 120 ∷ 120 ∷ 120 ∷ 120 ∷ 120 ∷ 120 ∷ 120 ∷ 120 ∷ 120 ∷ 120 ∷ 120 ∷ 120 ∷ 120 ∷ 120 ∷ 120 ∷ 120 ∷ 120 ∷ 120 ∷ 120 ∷ 120 ∷ 120 ∷ 120 ∷ 120 ∷ 120 ∷ 120 ∷ 120 ∷ 120 ∷ 120 ∷ 120 ∷ 120 ∷ 120 ∷ 120 ∷ 120 ∷ 120 ∷ 120 ∷ 120 ∷ 120 ∷ 120 ∷ 120 ∷ 120 ∷ 120 ∷ 120 ∷ 120 ∷ 120 ∷ 120 ∷ 120 ∷ 120 ∷ 120 ∷ 120 ∷ 120 ∷ 120 ∷ 120 ∷ 120 ∷ 120 ∷ 120 ∷ 120 ∷ 120 ∷ 120 ∷ 120 ∷ 120 ∷ 120 ∷ 120 ∷ 120 ∷ 120 ∷ 120 ∷ 120 ∷ 120 ∷ 120 ∷ 120 ∷ 120 ∷ 120 ∷ 120 ∷ 120 ∷ 120 ∷ 120 ∷ 120 ∷ 120 ∷ 120 ∷ 120 ∷ 120 ∷ 120 ∷ 120 ∷ 120 ∷ 120 ∷ 120 ∷ 120 ∷ 120 ∷ 120 ∷ 120 ∷ 120 ∷ 120 ∷ 120 ∷ 120 ∷ 120 ∷ 120 ∷ 120 ∷ 120 ∷ 120 ∷ 120 ∷ 120 ∷ 120 ∷ 120 ∷ 120 ∷ 120 ∷ 120 ∷ 120 ∷ 120 ∷ 120 ∷ 120 ∷ 120 ∷ 120 ∷ 120 ∷ 120 ∷ 120 ∷ 120 ∷ 120 ∷ 120 ∷ 120 ∷ 120 ∷ 120 ∷ 120 ∷ 120 ∷ 120 ∷ 120 ∷ 120 ∷ 120 ∷ 120 ∷ 120 ∷ 120 ∷ 120 ∷ 120 ∷ 120 ∷ 120 ∷ 120 ∷ 120 ∷ 120 ∷ 120 ∷ 120 ∷ 120 ∷ 120 ∷ 120 ∷ 120 ∷ 120 ∷ 120 ∷ 120 ∷ 120 ∷ 120 ∷ 120 ∷ 120 ∷ 120 ∷ 120 ∷ 120 ∷ 120 ∷ 120 ∷ 120 ∷ 120 ∷ 120 ∷ 120 ∷ 120 ∷ 120 ∷ 120 ∷ 120 ∷ 120 ∷ 120 ∷ 120 ∷ 120 ∷ 120 ∷ 120 ∷ 120 ∷ 120 ∷ 120 ∷ 120 ∷ 120 ∷ 120 ∷ 120 ∷ 120 ∷ 120 ∷ 120 ∷ 120 ∷ 120 ∷ 120 ∷ 120 ∷ 120 ∷ 120 ∷ 120 ∷ 120 ∷ 120 ∷ 120 ∷ 120 ∷ 120 ∷ 120 ∷ 120 ∷ 120 ∷ 120 ∷ 120 ∷ 120 ∷ 120 ∷ 120 ∷ 120 ∷ 120 ∷ 120 ∷ 120 ∷ 120 ∷ 120 ∷ 120 ∷ 120 ∷ 120 ∷ 120 ∷ 120 ∷ 120 ∷ 120 ∷ 120 ∷ 120 ∷ 120 ∷ 120 ∷ 120 ∷ 120 ∷ 120 ∷ 120 ∷ 120 ∷ 120 ∷ 120 ∷ 120 ∷ 120 ∷ 120 ∷ 120 ∷ 120 ∷ 120 ∷ 120 ∷ 120 ∷ 120 ∷ 120 ∷ 120 ∷ 120 ∷ 120 ∷ 120 ∷ 120 ∷ 120 ∷ 120 ∷ 120 ∷ 120 ∷ 120 ∷ 120 ∷ 120 ∷ 120 ∷ 120 ∷ 120 ∷ 120 ∷ 120 ∷ 120 ∷ 120 ∷ 120 ∷ 120 ∷ 120 ∷ 120 ∷ 120 ∷ 120 ∷ 120 ∷ 120 ∷ 120 ∷ 120 ∷ 120 ∷ 120 ∷ 120 ∷ 120 ∷ 120 ∷ 120 ∷ 120 ∷ 120 ∷ 120 ∷ 120 ∷ 120 ∷ []) true))
    ∷ ask (Own (own.Start 0 (180 ∷ 102 ∷ []) 0 false (120 ∷ []) false))
    ∷ ask (Own (own.Carry 0 (120 ∷ []) false))
    ∷ ask_windows
    ∷ ask (Heard (record { channel = 0; body = (Some (heard.Flow (record { next_incoming_id = (Some 5); incoming_window = 1; next_outgoing_id = 2715782486; outgoing_window = 0; handle = (Some 5); delivery_count = None; link_credit = (Some 5); available = None; drain = (Some false); echo = (Some true); properties = None }))); payload = ([]) }))
    ∷ ask (Heard (record { channel = 65280; body = (Some (heard.Attach (record { name = (122 ∷ []); handle = 0; role = Receiver; snd_settle_mode = (Some 1); rcv_settle_mode = (Some 1); source = None; target = None; unsettled = None; incomplete_unsettled = None; initial_delivery_count = (Some 4294967295); max_message_size = (Some 18446744073709551615); offered_capabilities = None; desired_capabilities = None; properties = None }))); payload = ([]) }))
    ∷ ask_windows
    ∷ ask_link 0
    ∷ ask_link 1
    ∷ ask_link 2
    ∷ ask_held Sender
    ∷ ask_held Receiver ∷ [])
    ≡ (held ([]) ∷ held (record { id = 4294967294; link = 0; tag = (61 ∷ 61 ∷ []); second = false; local = None; remote = None } ∷ record { id = 0; link = 0; tag = (5 ∷ 221 ∷ []); second = false; local = None; remote = None } ∷ []) ∷ link None ∷ link (Some (record { role = Sender; phase = phase.Offered; count = 0; credit = 0; drain = false; mid = false; ready = 0 })) ∷ link (Some (record { role = Sender; phase = phase.Attached; count = 3; credit = 97; drain = false; mid = false; ready = 0 })) ∷ windows (record { next_in = (Some 2715782486); incoming = 3; next_out = 4; remote_in = 2045; remote_out = 2048; next_delivery = 1 }) ∷ ok (given.Offered 1) ([]) ([]) ∷ violated 6 ∷ windows (record { next_in = (Some 2715782486); incoming = 3; next_out = 4; remote_in = 2045; remote_out = 2048; next_delivery = 1 }) ∷ ok given.Nothing ([]) ([] ∷ []) ∷ refused 10 ∷ refused 5 ∷ held (record { id = 4294967294; link = 0; tag = (61 ∷ 61 ∷ []); second = false; local = None; remote = None } ∷ record { id = 0; link = 0; tag = (5 ∷ 221 ∷ []); second = false; local = None; remote = None } ∷ []) ∷ ok given.Nothing ([]) ([] ∷ []) ∷ windows (record { next_in = (Some 2715782486); incoming = 3; next_out = 2; remote_in = 2047; remote_out = 2048; next_delivery = 1 }) ∷ ok given.Nothing ([]) ([] ∷ []) ∷ held ([]) ∷ ok given.Nothing ([]) ([]) ∷ refused 10 ∷ ok given.Nothing ([]) ([] ∷ []) ∷ windows (record { next_in = (Some 2715782486); incoming = 3; next_out = 1; remote_in = 2048; remote_out = 0; next_delivery = 1 }) ∷ ok given.Nothing ([]) ([]) ∷ ok (given.Delivery 0) ([]) ([] ∷ []) ∷ link (Some (record { role = Sender; phase = phase.Attached; count = 2; credit = 2147483646; drain = false; mid = false; ready = 0 })) ∷ ok (given.Delivery 4294967295) ([]) ([] ∷ []) ∷ ok (given.Delivery 4294967294) ([]) ([] ∷ []) ∷ ok given.Nothing ([]) ([]) ∷ refused 8 ∷ violated 5 ∷ ok given.Nothing ([]) ([]) ∷ ok (given.Attached 0) ([]) ([]) ∷ ok (given.Link 0) ([]) ([] ∷ []) ∷ ok given.Nothing ([]) ([]) ∷ violated 2 ∷ violated 2 ∷ refused 4 ∷ ok given.Nothing ([]) ([] ∷ []) ∷ ok given.Nothing ([]) ([]) ∷ [])
unfolding octets_of frame_refused canon spelled class_of is_utf8 chars encode
random_038 = refl

random_041 : short_lines_of (record { first_id = 10; window = 2048; journal_limit = 1073741824 })
    (ask (Opened 1000)
    ∷ ask (Heard (record { channel = 768; body = (Some (heard.Begin (record { remote_channel = (Some 0); next_outgoing_id = 1; incoming_window = 2048; outgoing_window = 2; handle_max = None; offered_capabilities = None; desired_capabilities = None; properties = None }))); payload = ([]) }))
    ∷ ask (Own own.Begin)
    ∷ ask (Own (own.Attach (121 ∷ []) Receiver 2 0 None None 0 4))
    ∷ ask (Heard (record { channel = 0; body = (Some (heard.Flow (record { next_incoming_id = (Some 10); incoming_window = 2048; next_outgoing_id = 1; outgoing_window = 2147483647; handle = None; delivery_count = None; link_credit = None; available = None; drain = None; echo = None; properties = None }))); payload = ([]) }))
    ∷ ask (Heard (record { channel = 0; body = (Some (heard.Attach (record { name = (121 ∷ []); handle = 0; role = Sender; snd_settle_mode = None; rcv_settle_mode = None; source = None; target = None; unsettled = None; incomplete_unsettled = None; initial_delivery_count = None; max_message_size = (Some 18446744073709551615); offered_capabilities = None; desired_capabilities = None; properties = None }))); payload = ([]) }))
    ∷ ask (Own (own.Grant 3 3 true false))
    ∷ ask (Opened 600)
    ∷ ask (Heard (record { channel = 0; body = (Some (heard.Attach (record { name = (97 ∷ 195 ∷ 169 ∷ []); handle = 0; role = Receiver; snd_settle_mode = (Some 2); rcv_settle_mode = (Some 0); source = None; target = None; unsettled = None; incomplete_unsettled = None; initial_delivery_count = None; max_message_size = (Some 18446744073709551615); offered_capabilities = None; desired_capabilities = None; properties = None }))); payload = ([]) }))
    ∷ ask (Heard (record { channel = 0; body = (Some (heard.Flow (record { next_incoming_id = (Some 10); incoming_window = 2; next_outgoing_id = 1; outgoing_window = 2048; handle = (Some 0); delivery_count = (Some 4294967295); link_credit = None; available = None; drain = None; echo = None; properties = None }))); payload = ([]) }))
    ∷ ask (Own (own.Attach (97 ∷ 195 ∷ 169 ∷ []) Sender 2 255 None None 0 300))
    ∷ ask (Heard (record { channel = 0; body = (Some (heard.Flow (record { next_incoming_id = None; incoming_window = 2048; next_outgoing_id = 0; outgoing_window = 2048; handle = None; delivery_count = None; link_credit = None; available = None; drain = None; echo = None; properties = None }))); payload = ([]) }))
    ∷ ask (Own (own.Attach (121 ∷ []) Receiver 2 0 None None 5 18446744073709551615))
    ∷ ask (Heard (record { channel = 0; body = (Some (heard.Flow (record { next_incoming_id = (Some 10); incoming_window = 2048; next_outgoing_id = 0; outgoing_window = 2048; handle = None; delivery_count = None; link_credit = None; available = None; drain = None; echo = (Some true); properties = None }))); payload = ([]) }))
    ∷ ask (Heard (record { channel = 0; body = (Some (heard.Attach (record { name = (121 ∷ []); handle = 1; role = Sender; snd_settle_mode = (Some 2); rcv_settle_mode = None; source = None; target = None; unsettled = None; incomplete_unsettled = None; initial_delivery_count = (Some 0); max_message_size = None; offered_capabilities = None; desired_capabilities = None; properties = None }))); payload = ([]) }))
    ∷ ask (Own (own.Grant 0 3 false false))
    ∷ ask_link 0
    ∷ ask (Heard (record { channel = 0; body = (Some (heard.Transfer (record { handle = 1; delivery_id = (Some 4294967294); delivery_tag = (Some (244 ∷ 207 ∷ [])); message_format = (Some 0); settled = (Some false); more = None; rcv_settle_mode = None; state = (Some (state.Received 0 3)); resume = None; aborted = (Some true); batchable = (Some true) }))); payload = (120 ∷ []) }))
    ∷ ask (Heard (record { channel = 0; body = (Some (heard.Transfer (record { handle = 1; delivery_id = None; delivery_tag = (Some (4 ∷ 5 ∷ [])); message_format = None; settled = (Some false); more = None; rcv_settle_mode = None; state = None; resume = None; aborted = None; batchable = None }))); payload = ([]) }))
    ∷ ask (Own (own.Attach (122 ∷ []) Receiver 1 0 None None 5 4))
    ∷ ask (Heard (record { channel = 0; body = (Some (heard.Attach (record { name = (122 ∷ []); handle = 2; role = Sender; snd_settle_mode = None; rcv_settle_mode = None; source = None; target = None; unsettled = None; incomplete_unsettled = None; initial_delivery_count = (Some 4294967295); max_message_size = (Some 1); offered_capabilities = None; desired_capabilities = None; properties = None }))); payload = ([]) }))
    ∷ ask (Own (own.Grant 0 2 false false))
    ∷ ask (Heard (record { channel = 0; body = (Some (heard.Transfer (record { handle = 1; delivery_id = (Some 4294967295); delivery_tag = (Some (2 ∷ [])); message_format = None; settled = (Some false); more = (Some true); rcv_settle_mode = None; state = None; resume = None; aborted = None; batchable = None }))); payload = (120 ∷ []) }))
    ∷ ask (Heard (record { channel = 0; body = (Some (heard.Transfer (record { handle = 2; delivery_id = (Some 0); delivery_tag = (Some (2 ∷ [])); message_format = (Some 4294967295); settled = (Some true); more = (Some true); rcv_settle_mode = None; state = None; resume = None; aborted = None; batchable = None }))); payload = (120 ∷ []) }))
    ∷ ask (Heard (record { channel = 0; body = (Some (heard.Transfer (record { handle = 2; delivery_id = (Some 0); delivery_tag = (Some ([])); message_format = None; settled = None; more = (Some false); rcv_settle_mode = None; state = None; resume = None; aborted = None; batchable = None }))); payload = (120 ∷ 120 ∷ 120 ∷ 120 ∷ 120 ∷ []) }))
    ∷ ask (Own (own.Dispose Receiver 4294967295 4294967295 false (Some state.Accepted)))
    ∷ ask (Own (own.Dispose Receiver 4294967295 4294967295 false (Some state.Released)))
    ∷ ask_windows
    ∷ ask (Own (own.Start 7 (66 ∷ 152 ∷ []) 1 true ([]) false))
    ∷ ask_windows
    ∷ ask (Own (own.Dispose Receiver 4294967295 4294967295 true None))
    ∷ ask (Own (own.Dispose Receiver 1340645399 1340645399 true (Some state.Released)))
    ∷ ask_windows
    ∷ ask_link 0
    ∷ ask_link 1
    ∷ ask_link 2
    ∷ ask_link 3
    ∷ ask_held Sender
    ∷ ask_held Receiver ∷ [])
    ≡ (held ([]) ∷ held ([]) ∷ link None ∷ link (Some (record { role = Receiver; phase = phase.Attached; count = 4294967295; credit = 0; drain = false; mid = false; ready = 0 })) ∷ link (Some (record { role = Sender; phase = phase.Offered; count = 0; credit = 0; drain = false; mid = false; ready = 0 })) ∷ link (Some (record { role = Receiver; phase = phase.Attached; count = 2; credit = 1; drain = false; mid = true; ready = 0 })) ∷ windows (record { next_in = (Some 2); incoming = 2047; next_out = 10; remote_in = 2048; remote_out = 2046; next_delivery = 10 }) ∷ refused 22 ∷ ok given.Nothing ((Receiver, 4294967295) ∷ []) ([] ∷ []) ∷ windows (record { next_in = (Some 2); incoming = 2047; next_out = 10; remote_in = 2048; remote_out = 2046; next_delivery = 10 }) ∷ refused 5 ∷ windows (record { next_in = (Some 2); incoming = 2047; next_out = 10; remote_in = 2048; remote_out = 2046; next_delivery = 10 }) ∷ refused 24 ∷ ok given.Nothing ([]) ([] ∷ []) ∷ violated 12 ∷ violated 12 ∷ ok given.Nothing ([]) ([]) ∷ ok given.Nothing ([]) ([] ∷ []) ∷ ok (given.Attached 2) ([]) ([]) ∷ ok (given.Link 2) ([]) ([] ∷ []) ∷ violated 8 ∷ ok given.Nothing ([]) ([]) ∷ link (Some (record { role = Receiver; phase = phase.Attached; count = 0; credit = 3; drain = false; mid = false; ready = 0 })) ∷ ok given.Nothing ([]) ([] ∷ []) ∷ ok (given.Attached 0) ([]) ([]) ∷ ok given.Nothing ([]) ([] ∷ []) ∷ refused 8 ∷ ok given.Nothing ([]) ([]) ∷ refused 26 ∷ ok given.Nothing ([]) ([]) ∷ ok (given.Offered 1) ([]) ([]) ∷ ok given.Nothing ([]) ([]) ∷ refused 5 ∷ violated 8 ∷ ok given.Nothing ([]) ([]) ∷ ok (given.Link 0) ([]) ([] ∷ []) ∷ ok given.Nothing ([]) ([] ∷ []) ∷ ok given.Nothing ([]) ([]) ∷ ok given.Nothing ([]) ([]) ∷ [])
unfolding octets_of frame_refused canon spelled class_of is_utf8 chars encode
random_041 = refl

random_046 : short_lines_of (record { first_id = 0; window = 5; journal_limit = 1073741824 })
    (ask (Opened 512)
    ∷ ask (Heard (record { channel = 0; body = (Some (heard.Begin (record { remote_channel = None; next_outgoing_id = 0; incoming_window = 2048; outgoing_window = 0; handle_max = (Some 4294967295); offered_capabilities = None; desired_capabilities = None; properties = None }))); payload = ([]) }))
    ∷ ask (Own (own.Carry 2 (120 ∷ []) true))
    ∷ ask (Own own.Begin)
    ∷ ask (Own (own.Attach (121 ∷ []) Receiver 1 0 None None 2147483647 18446744073709551615))
    ∷ ask (Heard (record { channel = 0; body = (Some (heard.Flow (record { next_incoming_id = (Some 0); incoming_window = 2048; next_outgoing_id = 0; outgoing_window = 2048; handle = None; delivery_count = None; link_credit = None; available = None; drain = None; echo = None; properties = None }))); payload = ([]) }))
    ∷ ask (Heard (record { channel = 1; body = (Some (heard.Attach (record { name = (121 ∷ []); handle = 0; role = Sender; snd_settle_mode = None; rcv_settle_mode = None; source = None; target = None; unsettled = None; incomplete_unsettled = None; initial_delivery_count = (Some 0); max_message_size = None; offered_capabilities = None; desired_capabilities = None; properties = None }))); payload = ([]) }))
    ∷ ask (Own (own.Grant 0 0 false false))
    ∷ ask (Own (own.Grant 0 0 false true))
    ∷ ask (Own (own.Grant 0 1 false false))
    ∷ ask (Own (own.Attach (121 ∷ []) Receiver 2 0 None None 4294967295 6))
    ∷ ask (Heard (record { channel = 0; body = (Some (heard.Attach (record { name = (121 ∷ []); handle = 4; role = Sender; snd_settle_mode = (Some 2); rcv_settle_mode = (Some 0); source = None; target = None; unsettled = None; incomplete_unsettled = None; initial_delivery_count = (Some 2147483648); max_message_size = None; offered_capabilities = None; desired_capabilities = None; properties = None }))); payload = ([]) }))
    ∷ ask (Own (own.Grant 0 100 false false))
    ∷ ask (Heard (record { channel = 0; body = (Some (heard.Transfer (record { handle = 0; delivery_id = (Some 4294967294); delivery_tag = (Some (4 ∷ 5 ∷ [])); message_format = None; settled = (Some false); more = None; rcv_settle_mode = None; state = None; resume = None; aborted = None; batchable = (Some true) }))); payload = ([]) }))
    ∷ ask (Own (own.Take 0))
    ∷ ask (Own (own.Take 0))
    ∷ ask (Heard (record { channel = 0; body = (Some (heard.Transfer (record { handle = 0; delivery_id = (Some 4294967295); delivery_tag = (Some (4 ∷ 5 ∷ [])); message_format = (Some 0); settled = (Some true); more = None; rcv_settle_mode = None; state = None; resume = None; aborted = None; batchable = None }))); payload = (120 ∷ 120 ∷ 120 ∷ []) }))
    ∷ ask_windows
    ∷ ask (Heard (record { channel = 0; body = (Some (heard.Transfer (record { handle = 0; delivery_id = (Some 4294967295); delivery_tag = (Some ([])); message_format = (Some 0); settled = None; more = (Some true); rcv_settle_mode = None; state = None; resume = None; aborted = None; batchable = None }))); payload = ([]) }))
    ∷ ask (Own (own.Attach (113 ∷ []) Receiver 0 1 None None 4294967294 0))
    ∷ ask (Heard (record { channel = 0; body = (Some (heard.Flow (record { next_incoming_id = (Some 0); incoming_window = 4294967295; next_outgoing_id = 2; outgoing_window = 4294967295; handle = None; delivery_count = None; link_credit = None; available = None; drain = None; echo = None; properties = None }))); payload = ([]) }))
    ∷ ask (Heard (record { channel = 0; body = (Some (heard.Attach (record { name = (113 ∷ []); handle = 1; role = Sender; snd_settle_mode = None; rcv_settle_mode = None; source = None; target = None; unsettled = None; incomplete_unsettled = None; initial_delivery_count = (Some 2147483648); max_message_size = None; offered_capabilities = None; desired_capabilities = None; properties = None }))); payload = ([]) }))
    ∷ ask (Heard (record { channel = 0; body = (Some (heard.Transfer (record { handle = 0; delivery_id = None; delivery_tag = None; message_format = None; settled = None; more = None; rcv_settle_mode = None; state = (Some state.Released); resume = None; aborted = None; batchable = None }))); payload = (120 ∷ []) }))
    ∷ ask (Heard (record { channel = 0; body = (Some (heard.Transfer (record { handle = 0; delivery_id = (Some 1); delivery_tag = (Some (25 ∷ 173 ∷ [])); message_format = (Some 0); settled = (Some true); more = None; rcv_settle_mode = None; state = None; resume = None; aborted = None; batchable = None }))); payload = ([]) }))
    ∷ ask (Own (own.Dispose Receiver 4294967294 4294967295 false (Some state.Accepted)))
    ∷ ask_link 0
    ∷ ask (Heard (record { channel = 0; body = (Some (heard.Transfer (record { handle = 0; delivery_id = (Some 0); delivery_tag = (Some (173 ∷ 208 ∷ [])); message_format = (Some 4294967295); settled = None; more = (Some true); rcv_settle_mode = None; state = None; resume = None; aborted = None; batchable = None }))); payload = (120 ∷ 120 ∷ 120 ∷ []) }))
    ∷ ask_link 1
    ∷ ask_windows
    ∷ ask_link 0
    ∷ ask_link 1
    ∷ ask_link 2
    ∷ ask_held Sender
    ∷ ask_held Receiver ∷ [])
    ≡ (held (record { id = 4294967294; link = 0; tag = (4 ∷ 5 ∷ []); second = false; local = (Some state.Accepted); remote = None } ∷ record { id = 4294967295; link = 0; tag = ([]); second = false; local = (Some state.Accepted); remote = (Some state.Released) } ∷ record { id = 0; link = 0; tag = (173 ∷ 208 ∷ []); second = false; local = None; remote = None } ∷ []) ∷ held ([]) ∷ link None ∷ link (Some (record { role = Receiver; phase = phase.Attached; count = 2147483648; credit = 0; drain = false; mid = false; ready = 0 })) ∷ link (Some (record { role = Receiver; phase = phase.Attached; count = 3; credit = 97; drain = false; mid = true; ready = 1 })) ∷ windows (record { next_in = (Some 4); incoming = 1; next_out = 0; remote_in = 4294967295; remote_out = 4294967293; next_delivery = 0 }) ∷ link (Some (record { role = Receiver; phase = phase.Attached; count = 2147483648; credit = 0; drain = false; mid = false; ready = 0 })) ∷ ok given.Nothing ([]) ([]) ∷ link (Some (record { role = Receiver; phase = phase.Attached; count = 2; credit = 98; drain = false; mid = false; ready = 1 })) ∷ ok given.Nothing ([]) ([] ∷ []) ∷ violated 9 ∷ ok (given.Ready 0 4294967295) ([]) ([]) ∷ ok (given.Attached 1) ([]) ([]) ∷ ok given.Nothing ([]) ([]) ∷ ok (given.Link 1) ([]) ([] ∷ []) ∷ ok given.Nothing ([]) ([]) ∷ windows (record { next_in = (Some 1); incoming = 4; next_out = 0; remote_in = 2048; remote_out = 2047; next_delivery = 0 }) ∷ violated 10 ∷ refused 25 ∷ ok (given.Taken (record { id = 4294967294; link = 0; tag = (4 ∷ 5 ∷ []); format = 0; payload = ([]); settled = false; second = false })) ([]) ([]) ∷ ok (given.Ready 0 4294967294) ([]) ([]) ∷ ok given.Nothing ([]) ([] ∷ []) ∷ violated 5 ∷ refused 8 ∷ ok given.Nothing ([]) ([] ∷ []) ∷ ok given.Nothing ([]) ([] ∷ []) ∷ ok given.Nothing ([]) ([] ∷ []) ∷ ok (given.Attached 0) ([]) ([]) ∷ ok given.Nothing ([]) ([]) ∷ ok (given.Link 0) ([]) ([] ∷ []) ∷ ok given.Nothing ([]) ([] ∷ []) ∷ refused 4 ∷ ok given.Nothing ([]) ([]) ∷ ok given.Nothing ([]) ([]) ∷ [])
unfolding octets_of frame_refused canon spelled class_of is_utf8 chars encode
random_046 = refl

random_049 : short_lines_of (record { first_id = 0; window = 5; journal_limit = 1073741824 })
    (ask (Opened 0)
    ∷ ask (Heard (record { channel = 0; body = (Some (heard.Begin (record { remote_channel = (Some 0); next_outgoing_id = 3647424101; incoming_window = 2048; outgoing_window = 2; handle_max = (Some 1); offered_capabilities = None; desired_capabilities = None; properties = None }))); payload = ([]) }))
    ∷ ask (Own (own.Attach (121 ∷ []) Receiver 0 0 None None 0 1))
    ∷ ask (Heard (record { channel = 0; body = (Some (heard.Attach (record { name = (121 ∷ []); handle = 0; role = Sender; snd_settle_mode = None; rcv_settle_mode = None; source = None; target = None; unsettled = None; incomplete_unsettled = None; initial_delivery_count = (Some 4294967294); max_message_size = (Some 4); offered_capabilities = None; desired_capabilities = None; properties = None }))); payload = ([]) }))
    ∷ ask (Own (own.Grant 1 10 false false))
    ∷ ask (Heard (record { channel = 0; body = (Some (heard.Begin (record { remote_channel = (Some 0); next_outgoing_id = 0; incoming_window = 2048; outgoing_window = 2147483647; handle_max = None; offered_capabilities = None; desired_capabilities = None; properties = None }))); payload = ([]) }))
    ∷ ask (Heard (record { channel = 0; body = (Some (heard.Begin (record { remote_channel = (Some 0); next_outgoing_id = 4294967295; incoming_window = 2048; outgoing_window = 2; handle_max = (Some 4294967295); offered_capabilities = None; desired_capabilities = None; properties = None }))); payload = ([]) }))
    ∷ ask (Own own.Begin)
    ∷ ask (Heard (record { channel = 0; body = (Some (heard.Attach (record { name = (121 ∷ []); handle = 1; role = Receiver; snd_settle_mode = None; rcv_settle_mode = None; source = None; target = None; unsettled = None; incomplete_unsettled = None; initial_delivery_count = None; max_message_size = None; offered_capabilities = None; desired_capabilities = None; properties = None }))); payload = ([]) }))
    ∷ ask (Own (own.Detach 7 None))
    ∷ ask (Heard (record { channel = 0; body = (Some (heard.Flow (record { next_incoming_id = (Some 0); incoming_window = 2048; next_outgoing_id = 3647424101; outgoing_window = 4294967295; handle = (Some 1); delivery_count = None; link_credit = (Some 100); available = None; drain = None; echo = None; properties = None }))); payload = ([]) }))
    ∷ ask_windows
    ∷ ask (Own own.Beat)
    ∷ ask (Own (own.Attach (97 ∷ 195 ∷ 169 ∷ []) Sender 2 0 None None 0 0))
    ∷ ask_link 1
    ∷ ask (Own (own.Detach 2 None))
    ∷ ask (Own own.Beat)
    ∷ ask (Heard (record { channel = 0; body = (Some (heard.Begin (record { remote_channel = (Some 0); next_outgoing_id = 4294967295; incoming_window = 2048; outgoing_window = 2147483647; handle_max = None; offered_capabilities = None; desired_capabilities = None; properties = None }))); payload = ([]) }))
    ∷ ask (Heard (record { channel = 0; body = (Some (heard.Flow (record { next_incoming_id = None; incoming_window = 2048; next_outgoing_id = 3647424101; outgoing_window = 3; handle = (Some 1); delivery_count = (Some 0); link_credit = (Some 2147483648); available = None; drain = None; echo = (Some true); properties = None }))); payload = ([]) }))
    ∷ ask (Heard (record { channel = 0; body = (Some (heard.Flow (record { next_incoming_id = None; incoming_window = 2048; next_outgoing_id = 3647424101; outgoing_window = 4294967295; handle = (Some 0); delivery_count = (Some 4294967295); link_credit = None; available = None; drain = None; echo = None; properties = None }))); payload = ([]) }))
    ∷ ask_held Sender
    ∷ ask (Opened 511)
    ∷ ask (Own (own.Detach 7 None))
    ∷ ask_windows
    ∷ ask_link 0
    ∷ ask_link 1
    ∷ ask_link 2
    ∷ ask_link 3
    ∷ ask_held Sender
    ∷ ask_held Receiver ∷ [])
    ≡ (held ([]) ∷ held ([]) ∷ link None ∷ link (Some (record { role = Sender; phase = phase.Asked; count = 0; credit = 0; drain = false; mid = false; ready = 0 })) ∷ link (Some (record { role = Sender; phase = phase.Offered; count = 0; credit = 2147483648; drain = false; mid = false; ready = 0 })) ∷ link (Some (record { role = Receiver; phase = phase.Offered; count = 4294967294; credit = 0; drain = false; mid = false; ready = 0 })) ∷ windows (record { next_in = (Some 3647424101); incoming = 5; next_out = 0; remote_in = 2048; remote_out = 4294967295; next_delivery = 0 }) ∷ refused 5 ∷ ok given.Nothing ([]) ([]) ∷ held ([]) ∷ ok given.Nothing ([]) ([]) ∷ ok given.Nothing ([]) ([] ∷ []) ∷ violated 2 ∷ ok given.Nothing ([]) ([] ∷ []) ∷ refused 6 ∷ link (Some (record { role = Sender; phase = phase.Offered; count = 0; credit = 100; drain = false; mid = false; ready = 0 })) ∷ ok (given.Link 2) ([]) ([] ∷ []) ∷ ok given.Nothing ([]) ([] ∷ []) ∷ windows (record { next_in = (Some 3647424101); incoming = 5; next_out = 0; remote_in = 2048; remote_out = 4294967295; next_delivery = 0 }) ∷ ok given.Nothing ([]) ([]) ∷ refused 5 ∷ ok (given.Offered 1) ([]) ([]) ∷ ok given.Nothing ([]) ([] ∷ []) ∷ violated 2 ∷ violated 2 ∷ refused 4 ∷ ok (given.Offered 0) ([]) ([]) ∷ refused 4 ∷ ok given.Nothing ([]) ([]) ∷ ok given.Nothing ([]) ([]) ∷ [])
unfolding octets_of frame_refused canon spelled class_of is_utf8 chars encode
random_049 = refl

random_050 : short_lines_of (record { first_id = 1; window = 2048; journal_limit = 1073741824 })
    (ask (Opened 65536)
    ∷ ask (Own own.Begin)
    ∷ ask (Heard (record { channel = 0; body = (Some (heard.Begin (record { remote_channel = None; next_outgoing_id = 1; incoming_window = 1; outgoing_window = 2; handle_max = (Some 4294967295); offered_capabilities = None; desired_capabilities = None; properties = None }))); payload = ([]) }))
    ∷ ask (Heard (record { channel = 0; body = (Some (heard.Attach (record { name = (113 ∷ []); handle = 0; role = Sender; snd_settle_mode = (Some 2); rcv_settle_mode = None; source = None; target = None; unsettled = None; incomplete_unsettled = None; initial_delivery_count = (Some 0); max_message_size = (Some 300); offered_capabilities = None; desired_capabilities = None; properties = None }))); payload = ([]) }))
    ∷ ask (Heard (record { channel = 0; body = (Some (heard.Flow (record { next_incoming_id = (Some 1); incoming_window = 2048; next_outgoing_id = 1; outgoing_window = 3; handle = (Some 0); delivery_count = (Some 4294967295); link_credit = None; available = None; drain = None; echo = (Some true); properties = None }))); payload = ([]) }))
    ∷ ask (Own (own.Attach (113 ∷ []) Receiver 2 0 None None 0 18446744073709551615))
    ∷ ask (Own (own.Grant 0 0 true false))
    ∷ ask (Own (own.Grant 0 0 true false))
    ∷ ask (Heard (record { channel = 0; body = (Some (heard.Detach (record { handle = 0; closed = (Some false); error = None }))); payload = ([]) }))
    ∷ ask (Heard (record { channel = 0; body = (Some (heard.Begin (record { remote_channel = None; next_outgoing_id = 4294967295; incoming_window = 2048; outgoing_window = 2147483647; handle_max = None; offered_capabilities = None; desired_capabilities = None; properties = None }))); payload = ([]) }))
    ∷ ask (Heard (record { channel = 0; body = (Some (heard.Attach (record { name = (122 ∷ []); handle = 0; role = Sender; snd_settle_mode = None; rcv_settle_mode = None; source = None; target = None; unsettled = None; incomplete_unsettled = None; initial_delivery_count = (Some 0); max_message_size = (Some 6); offered_capabilities = None; desired_capabilities = None; properties = None }))); payload = ([]) }))
    ∷ ask (Own (own.Refresh false))
    ∷ ask (Own (own.Attach (122 ∷ []) Receiver 2 0 None None 4294967294 0))
    ∷ ask (Heard (record { channel = 0; body = (Some (heard.Flow (record { next_incoming_id = (Some 1); incoming_window = 0; next_outgoing_id = 1; outgoing_window = 2048; handle = None; delivery_count = None; link_credit = None; available = None; drain = None; echo = None; properties = None }))); payload = ([]) }))
    ∷ ask (Heard (record { channel = 0; body = (Some (heard.Attach (record { name = (122 ∷ []); handle = 0; role = Sender; snd_settle_mode = None; rcv_settle_mode = (Some 0); source = None; target = None; unsettled = None; incomplete_unsettled = None; initial_delivery_count = (Some 2147483648); max_message_size = None; offered_capabilities = None; desired_capabilities = None; properties = None }))); payload = ([]) }))
    ∷ ask (Own (own.Grant 1 0 false false))
    ∷ ask (Heard (record { channel = 0; body = (Some (heard.Attach (record { name = (122 ∷ []); handle = 1; role = Receiver; snd_settle_mode = None; rcv_settle_mode = None; source = None; target = None; unsettled = None; incomplete_unsettled = None; initial_delivery_count = (Some 4294967295); max_message_size = None; offered_capabilities = None; desired_capabilities = None; properties = None }))); payload = ([]) }))
    ∷ ask (Heard (record { channel = 0; body = (Some (heard.Attach (record { name = (122 ∷ []); handle = 3; role = Receiver; snd_settle_mode = (Some 2); rcv_settle_mode = None; source = None; target = None; unsettled = None; incomplete_unsettled = None; initial_delivery_count = None; max_message_size = None; offered_capabilities = None; desired_capabilities = None; properties = None }))); payload = ([]) }))
    ∷ ask (Own (own.Grant 1 0 false false))
    ∷ ask (Own (own.Grant 1 10 false false))
    ∷ ask (Heard (record { channel = 0; body = (Some (heard.Attach (record { name = (121 ∷ []); handle = 2; role = Receiver; snd_settle_mode = (Some 2); rcv_settle_mode = None; source = None; target = None; unsettled = None; incomplete_unsettled = None; initial_delivery_count = None; max_message_size = (Some 1); offered_capabilities = None; desired_capabilities = None; properties = None }))); payload = ([]) }))
    ∷ ask (Heard (record { channel = 0; body = (Some (heard.Flow (record { next_incoming_id = (Some 4294967295); incoming_window = 4294967295; next_outgoing_id = 1; outgoing_window = 2147483647; handle = (Some 1); delivery_count = (Some 0); link_credit = (Some 5); available = None; drain = (Some true); echo = None; properties = None }))); payload = ([]) }))
    ∷ ask (Own (own.Attach (121 ∷ []) Sender 2 1 None None 4294967295 0))
    ∷ ask (Heard (record { channel = 0; body = (Some (heard.Flow (record { next_incoming_id = None; incoming_window = 3; next_outgoing_id = 1; outgoing_window = 2147483647; handle = (Some 2); delivery_count = None; link_credit = (Some 1); available = None; drain = (Some true); echo = (Some true); properties = None }))); payload = ([]) }))
    ∷ ask (Heard (record { channel = 0; body = (Some (heard.Flow (record { next_incoming_id = (Some 1); incoming_window = 2048; next_outgoing_id = 1; outgoing_window = 3; handle = None; delivery_count = None; link_credit = None; available = None; drain = None; echo = (Some true); properties = None }))); payload = ([]) }))
    ∷ ask (Heard (record { channel = 0; body = (Some (heard.Flow (record { next_incoming_id = (Some 1); incoming_window = 2048; next_outgoing_id = 1; outgoing_window = 0; handle = (Some 1); delivery_count = (Some 0); link_credit = (Some 5); available = None; drain = (Some false); echo = None; properties = None }))); payload = ([]) }))
    ∷ ask_held Sender
    ∷ ask_windows
    ∷ ask_link 0
    ∷ ask_link 1
    ∷ ask_link 2
    ∷ ask_link 3
    ∷ ask_link 4
    ∷ ask_held Sender
    ∷ ask_held Receiver ∷ [])
    ≡ (held ([]) ∷ held ([]) ∷ link None ∷ link (Some (record { role = Sender; phase = phase.Attached; count = 4294967295; credit = 1; drain = true; mid = false; ready = 0 })) ∷ link (Some (record { role = Sender; phase = phase.Offered; count = 0; credit = 5; drain = false; mid = false; ready = 0 })) ∷ link (Some (record { role = Receiver; phase = phase.Attached; count = 0; credit = 10; drain = false; mid = false; ready = 0 })) ∷ link None ∷ windows (record { next_in = (Some 1); incoming = 2048; next_out = 1; remote_in = 2048; remote_out = 0; next_delivery = 1 }) ∷ held ([]) ∷ ok given.Nothing ([]) ([]) ∷ ok given.Nothing ([]) ([] ∷ []) ∷ ok given.Nothing ([]) ([] ∷ []) ∷ ok (given.Link 3) ([]) ([] ∷ []) ∷ violated 6 ∷ ok (given.Offered 3) ([]) ([]) ∷ ok given.Nothing ([]) ([] ∷ []) ∷ ok given.Nothing ([]) ([] ∷ []) ∷ violated 5 ∷ ok (given.Offered 2) ([]) ([]) ∷ ok given.Nothing ([]) ([] ∷ []) ∷ violated 4 ∷ ok given.Nothing ([]) ([]) ∷ ok (given.Link 1) ([]) ([] ∷ []) ∷ ok given.Nothing ([]) ([] ∷ []) ∷ ok (given.Offered 1) ([]) ([]) ∷ violated 2 ∷ ok (given.Parted 0 (record { name = (113 ∷ []); role = Receiver; items = ([]) })) ([]) ([] ∷ []) ∷ ok given.Nothing ([]) ([] ∷ []) ∷ ok given.Nothing ([]) ([] ∷ []) ∷ ok (given.Link 0) ([]) ([] ∷ []) ∷ ok given.Nothing ([]) ([] ∷ []) ∷ ok (given.Offered 0) ([]) ([]) ∷ ok given.Nothing ([]) ([]) ∷ ok given.Nothing ([]) ([] ∷ []) ∷ ok given.Nothing ([]) ([]) ∷ [])
unfolding octets_of frame_refused canon spelled class_of is_utf8 chars encode
random_050 = refl

random_055 : short_lines_of (record { first_id = 4294967293; window = 5; journal_limit = 1073741824 })
    (ask (Opened 65536)
    ∷ ask (Own own.Begin)
    ∷ ask (Own (own.Attach (113 ∷ []) Receiver 2 0 None None 4294967295 4))
    ∷ ask (Own (own.Attach (122 ∷ []) Receiver 2 1 None None 4294967294 0))
    ∷ ask (Heard (record { channel = 0; body = (Some (heard.Flow (record { next_incoming_id = (Some 4294967293); incoming_window = 2; next_outgoing_id = 0; outgoing_window = 0; handle = None; delivery_count = None; link_credit = None; available = None; drain = None; echo = None; properties = None }))); payload = ([]) }))
    ∷ ask (Heard (record { channel = 0; body = (Some (heard.Attach (record { name = (122 ∷ []); handle = 0; role = Sender; snd_settle_mode = None; rcv_settle_mode = (Some 1); source = None; target = None; unsettled = None; incomplete_unsettled = None; initial_delivery_count = (Some 4294967295); max_message_size = (Some 6); offered_capabilities = None; desired_capabilities = None; properties = None }))); payload = ([]) }))
    ∷ ask (Own (own.Grant 3 0 false false))
    ∷ ask (Own own.Begin)
    ∷ ask (Heard (record { channel = 0; body = (Some (heard.Begin (record { remote_channel = (Some 0); next_outgoing_id = 4294967294; incoming_window = 2048; outgoing_window = 2147483647; handle_max = (Some 4294967295); offered_capabilities = None; desired_capabilities = None; properties = None }))); payload = ([]) }))
    ∷ ask (Heard (record { channel = 0; body = (Some (heard.Detach (record { handle = 9; closed = (Some false); error = None }))); payload = ([]) }))
    ∷ ask (Own (own.Refresh false))
    ∷ ask (Own (own.Detach 3 None))
    ∷ ask (Heard (record { channel = 65535; body = (Some (heard.Attach (record { name = (97 ∷ 195 ∷ 169 ∷ []); handle = 0; role = Sender; snd_settle_mode = (Some 2); rcv_settle_mode = (Some 1); source = None; target = None; unsettled = None; incomplete_unsettled = None; initial_delivery_count = (Some 4294967295); max_message_size = None; offered_capabilities = None; desired_capabilities = None; properties = None }))); payload = ([]) }))
    ∷ ask (Opened 65536)
    ∷ ask (Own (own.Detach 7 None))
    ∷ ask (Heard (record { channel = 0; body = (Some (heard.Flow (record { next_incoming_id = (Some 4294967293); incoming_window = 3; next_outgoing_id = 4294967294; outgoing_window = 4294967295; handle = (Some 0); delivery_count = (Some 4294967293); link_credit = None; available = None; drain = (Some true); echo = None; properties = None }))); payload = ([]) }))
    ∷ ask_windows
    ∷ ask (Heard (record { channel = 0; body = (Some (heard.Flow (record { next_incoming_id = (Some 4294967293); incoming_window = 4294967295; next_outgoing_id = 4294967294; outgoing_window = 0; handle = (Some 0); delivery_count = (Some 4294967295); link_credit = None; available = None; drain = None; echo = None; properties = None }))); payload = ([]) }))
    ∷ ask (Own (own.Attach (121 ∷ []) Sender 2 1 None None 0 18446744073709551615))
    ∷ ask (Heard (record { channel = 0; body = (Some (heard.Attach (record { name = (121 ∷ []); handle = 1; role = Receiver; snd_settle_mode = (Some 2); rcv_settle_mode = None; source = None; target = None; unsettled = None; incomplete_unsettled = None; initial_delivery_count = None; max_message_size = None; offered_capabilities = None; desired_capabilities = None; properties = None }))); payload = ([]) }))
    ∷ ask (Heard (record { channel = 0; body = (Some (heard.Flow (record { next_incoming_id = (Some 4294967293); incoming_window = 2048; next_outgoing_id = 4294967294; outgoing_window = 2048; handle = (Some 1); delivery_count = (Some 2147483648); link_credit = (Some 1); available = None; drain = None; echo = None; properties = None }))); payload = ([]) }))
    ∷ ask (Heard (record { channel = 0; body = (Some (heard.Flow (record { next_incoming_id = (Some 4294967293); incoming_window = 2048; next_outgoing_id = 4294967294; outgoing_window = 3; handle = (Some 0); delivery_count = (Some 4294967294); link_credit = None; available = None; drain = None; echo = (Some true); properties = None }))); payload = ([]) }))
    ∷ ask (Heard (record { channel = 0; body = (Some (heard.Flow (record { next_incoming_id = (Some 4294967293); incoming_window = 2048; next_outgoing_id = 4294967294; outgoing_window = 0; handle = (Some 1); delivery_count = (Some 0); link_credit = (Some 4294967295); available = None; drain = None; echo = (Some false); properties = None }))); payload = ([]) }))
    ∷ ask_windows
    ∷ ask_link 0
    ∷ ask_link 1
    ∷ ask_link 2
    ∷ ask_held Sender
    ∷ ask_held Receiver ∷ [])
    ≡ (held ([]) ∷ held ([]) ∷ link None ∷ link (Some (record { role = Sender; phase = phase.Attached; count = 0; credit = 4294967295; drain = false; mid = false; ready = 0 })) ∷ link (Some (record { role = Receiver; phase = phase.Offered; count = 4294967295; credit = 0; drain = false; mid = false; ready = 0 })) ∷ windows (record { next_in = (Some 4294967294); incoming = 5; next_out = 4294967293; remote_in = 2048; remote_out = 0; next_delivery = 4294967293 }) ∷ ok given.Nothing ([]) ([]) ∷ ok given.Nothing ([]) ([] ∷ []) ∷ violated 6 ∷ ok (given.Attached 1) ([]) ([]) ∷ ok (given.Link 1) ([]) ([] ∷ []) ∷ ok given.Nothing ([]) ([]) ∷ windows (record { next_in = (Some 4294967294); incoming = 5; next_out = 4294967293; remote_in = 3; remote_out = 4294967295; next_delivery = 4294967293 }) ∷ ok given.Nothing ([]) ([]) ∷ refused 5 ∷ ok given.Nothing ([]) ([]) ∷ ok (given.Offered 0) ([]) ([]) ∷ refused 5 ∷ ok given.Nothing ([]) ([] ∷ []) ∷ violated 3 ∷ ok given.Nothing ([]) ([]) ∷ refused 3 ∷ refused 4 ∷ violated 2 ∷ violated 2 ∷ refused 4 ∷ refused 4 ∷ ok given.Nothing ([]) ([] ∷ []) ∷ ok given.Nothing ([]) ([]) ∷ [])
unfolding octets_of frame_refused canon spelled class_of is_utf8 chars encode
random_055 = refl

random_057 : short_lines_of (record { first_id = 1; window = 2048; journal_limit = 1073741824 })
    (ask (Opened 65536)
    ∷ ask (Own own.Begin)
    ∷ ask (Own (own.Abort 7))
    ∷ ask (Heard (record { channel = 0; body = (Some (heard.Begin (record { remote_channel = (Some 7); next_outgoing_id = 1; incoming_window = 1; outgoing_window = 4294967295; handle_max = None; offered_capabilities = None; desired_capabilities = None; properties = None }))); payload = ([]) }))
    ∷ ask (Heard (record { channel = 0; body = (Some (heard.Attach (record { name = (121 ∷ []); handle = 0; role = Sender; snd_settle_mode = None; rcv_settle_mode = None; source = None; target = None; unsettled = None; incomplete_unsettled = None; initial_delivery_count = (Some 0); max_message_size = (Some 18446744073709551615); offered_capabilities = None; desired_capabilities = None; properties = None }))); payload = ([]) }))
    ∷ ask (Own (own.Attach (121 ∷ []) Receiver 0 1 None None 0 300))
    ∷ ask (Own (own.Grant 0 5 false false))
    ∷ ask (Heard (record { channel = 0; body = (Some (heard.Transfer (record { handle = 0; delivery_id = (Some 17); delivery_tag = (Some (2 ∷ [])); message_format = None; settled = (Some true); more = (Some false); rcv_settle_mode = None; state = (Some state.Released); resume = None; aborted = None; batchable = None }))); payload = (120 ∷ 120 ∷ 120 ∷ 120 ∷ 120 ∷ 120 ∷ 120 ∷ 120 ∷ 120 ∷ 120 ∷ 120 ∷ 120 ∷ 120 ∷ 120 ∷ 120 ∷ 120 ∷ 120 ∷ 120 ∷ 120 ∷ 120 ∷ 120 ∷ 120 ∷ 120 ∷ 120 ∷ 120 ∷ 120 ∷ 120 ∷ 120 ∷ 120 ∷ 120 ∷ 120 ∷ 120 ∷ 120 ∷ 120 ∷ 120 ∷ 120 ∷ 120 ∷ 120 ∷ 120 ∷ 120 ∷ 120 ∷ 120 ∷ 120 ∷ 120 ∷ 120 ∷ 120 ∷ 120 ∷ 120 ∷ 120 ∷ 120 ∷ 120 ∷ 120 ∷ 120 ∷ 120 ∷ 120 ∷ 120 ∷ 120 ∷ 120 ∷ 120 ∷ 120 ∷ 120 ∷ 120 ∷ 120 ∷ 120 ∷ 120 ∷ 120 ∷ 120 ∷ 120 ∷ 120 ∷ 120 ∷ 120 ∷ 120 ∷ 120 ∷ 120 ∷ 120 ∷ 120 ∷ 120 ∷ 120 ∷ 120 ∷ 120 ∷ 120 ∷ 120 ∷ 120 ∷ 120 ∷ 120 ∷ 120 ∷ 120 ∷ 120 ∷ 120 ∷ 120 ∷ 120 ∷ 120 ∷ 120 ∷ 120 ∷ 120 ∷ 120 ∷ 120 ∷ 120 ∷ 120 ∷ 120 ∷ 120 ∷ 120 ∷ 120 ∷ 120 ∷ 120 ∷ 120 ∷ 120 ∷ 120 ∷ 120 ∷ 120 ∷ 120 ∷ 120 ∷ 120 ∷ 120 ∷ 120 ∷ 120 ∷ 120 ∷ 120 ∷ 120 ∷ 120 ∷ 120 ∷ 120 ∷ 120 ∷ 120 ∷ 120 ∷ 120 ∷ 120 ∷ 120 ∷ 120 ∷ 120 ∷ 120 ∷ 120 ∷ 120 ∷ 120 ∷ 120 ∷ 120 ∷ 120 ∷ 120 ∷ 120 ∷ 120 ∷ 120 ∷ 120 ∷ 120 ∷ 120 ∷ 120 ∷ 120 ∷ 120 ∷ 120 ∷ 120 ∷ 120 ∷ 120 ∷ 120 ∷ 120 ∷ 120 ∷ 120 ∷ 120 ∷ 120 ∷ 120 ∷ 120 ∷ 120 ∷ 120 ∷ 120 ∷ 120 ∷ 120 ∷ 120 ∷ 120 ∷ 120 ∷ 120 ∷ 120 ∷ 120 ∷ 120 ∷ 120 ∷ 120 ∷ 120 ∷ 120 ∷ 120 ∷ 120 ∷ 120 ∷ 120 ∷ 120 ∷ 120 ∷ 120 ∷ 120 ∷ 120 ∷ 120 ∷ 120 ∷ 120 ∷ 120 ∷ 120 ∷ 120 ∷ 120 ∷ 120 ∷ 120 ∷ 120 ∷ 120 ∷ 120 ∷ 120 ∷ 120 ∷ 120 ∷ 120 ∷ 120 ∷ 120 ∷ 120 ∷ 120 ∷ 120 ∷ 120 ∷ 120 ∷ 120 ∷ 120 ∷ 120 ∷ 120 ∷ 120 ∷ 120 ∷ 120 ∷ 120 ∷ 120 ∷ 120 ∷ 120 ∷ 120 ∷ 120 ∷ 120 ∷ 120 ∷ 120 ∷ 120 ∷ 120 ∷ 120 ∷ 120 ∷ 120 ∷ 120 ∷ 120 ∷ 120 ∷ 120 ∷ 120 ∷ 120 ∷ 120 ∷ 120 ∷ 120 ∷ 120 ∷ 120 ∷ 120 ∷ 120 ∷ 120 ∷ 120 ∷ 120 ∷ 120 ∷ 120 ∷ 120 ∷ 120 ∷ 120 ∷ 120 ∷ 120 ∷ 120 ∷ 120 ∷ 120 ∷ 120 ∷ 120 ∷ 120 ∷ 120 ∷ 120 ∷ 120 ∷ 120 ∷ 120 ∷ 120 ∷ 120 ∷ 120 ∷ 120 ∷ 120 ∷ 120 ∷ 120 ∷ 120 ∷ 120 ∷ 120 ∷ 120 ∷ 120 ∷ 120 ∷ 120 ∷ 120 ∷ 120 ∷ 120 ∷ 120 ∷ 120 ∷ 120 ∷ 120 ∷ 120 ∷ 120 ∷ 120 ∷ 120 ∷ 120 ∷ 120 ∷ 120 ∷ 120 ∷ 120 ∷ 120 ∷ 120 ∷ 120 ∷ 120 ∷ 120 ∷ 120 ∷ 120 ∷ 120 ∷ []) }))
    ∷ ask (Heard (record { channel = 0; body = (Some (heard.End (record { error = None }))); payload = ([]) }))
    ∷ ask_held Receiver
    ∷ ask (Opened 600)
    ∷ ask (Heard (record { channel = 0; body = (Some (heard.Disposition (record { role = Receiver; first = 3025814909; last = None; settled = (Some true); state = None; batchable = None }))); payload = ([]) }))
    ∷ ask (Heard (record { channel = 0; body = (Some (heard.Begin (record { remote_channel = (Some 0); next_outgoing_id = 562492372; incoming_window = 2048; outgoing_window = 0; handle_max = (Some 4294967295); offered_capabilities = None; desired_capabilities = None; properties = None }))); payload = ([]) }))
    ∷ ask (Opened 0)
    ∷ ask (Opened 4294967295)
    ∷ ask_held Sender
    ∷ ask (Own own.Begin)
    ∷ ask_link 7
    ∷ ask (Own (own.Detach 2 None))
    ∷ ask (Heard (record { channel = 0; body = (Some (heard.Begin (record { remote_channel = None; next_outgoing_id = 4294967294; incoming_window = 1; outgoing_window = 0; handle_max = None; offered_capabilities = None; desired_capabilities = None; properties = None }))); payload = ([]) }))
    ∷ ask_held Receiver
    ∷ ask (Own (own.Grant 0 5 false false))
    ∷ ask (Opened 0)
    ∷ ask (Own own.Begin)
    ∷ ask_link 4294967295
    ∷ ask_windows
    ∷ ask_link 0
    ∷ ask_link 1
    ∷ ask_held Sender
    ∷ ask_held Receiver ∷ [])
    ≡ (held ([]) ∷ held ([]) ∷ link None ∷ link None ∷ windows (record { next_in = (Some 2); incoming = 2047; next_out = 1; remote_in = 1; remote_out = 4294967294; next_delivery = 1 }) ∷ link None ∷ refused 3 ∷ ok given.Nothing ([]) ([]) ∷ refused 4 ∷ held ([]) ∷ violated 2 ∷ refused 4 ∷ link None ∷ refused 3 ∷ held ([]) ∷ ok given.Nothing ([]) ([]) ∷ ok given.Nothing ([]) ([]) ∷ violated 2 ∷ violated 2 ∷ ok given.Nothing ([]) ([]) ∷ held ([]) ∷ ok given.Nothing ([]) ([] ∷ []) ∷ ok (given.Ready 0 17) ([]) ([]) ∷ ok given.Nothing ([]) ([] ∷ []) ∷ ok (given.Link 0) ([]) ([] ∷ []) ∷ ok (given.Offered 0) ([]) ([]) ∷ ok given.Nothing ([]) ([]) ∷ refused 4 ∷ ok given.Nothing ([]) ([] ∷ []) ∷ ok given.Nothing ([]) ([]) ∷ [])
unfolding octets_of frame_refused canon spelled class_of is_utf8 chars encode
random_057 = refl

random_063 : short_lines_of (record { first_id = 0; window = 3; journal_limit = 1073741824 })
    (ask (Opened 511)
    ∷ ask (Own own.Begin)
    ∷ ask (Heard (record { channel = 0; body = (Some (heard.Begin (record { remote_channel = None; next_outgoing_id = 0; incoming_window = 0; outgoing_window = 2; handle_max = (Some 255); offered_capabilities = None; desired_capabilities = None; properties = None }))); payload = ([]) }))
    ∷ ask (Heard (record { channel = 0; body = (Some (heard.Attach (record { name = (97 ∷ 195 ∷ 169 ∷ []); handle = 0; role = Receiver; snd_settle_mode = (Some 0); rcv_settle_mode = (Some 0); source = None; target = None; unsettled = None; incomplete_unsettled = None; initial_delivery_count = None; max_message_size = None; offered_capabilities = None; desired_capabilities = None; properties = None }))); payload = ([]) }))
    ∷ ask (Own (own.Attach (97 ∷ 195 ∷ 169 ∷ []) Sender 1 0 None None 5 0))
    ∷ ask (Heard (record { channel = 0; body = (Some (heard.Flow (record { next_incoming_id = (Some 0); incoming_window = 2048; next_outgoing_id = 0; outgoing_window = 2147483647; handle = (Some 0); delivery_count = (Some 5); link_credit = (Some 100); available = None; drain = None; echo = None; properties = None }))); payload = ([]) }))
    ∷ ask (Own (own.Attach (121 ∷ []) Receiver 2 0 None None 4294967294 0))
    ∷ ask (Heard (record { channel = 0; body = (Some (heard.Attach (record { name = (121 ∷ []); handle = 1; role = Sender; snd_settle_mode = (Some 0); rcv_settle_mode = None; source = None; target = None; unsettled = None; incomplete_unsettled = None; initial_delivery_count = (Some 0); max_message_size = None; offered_capabilities = None; desired_capabilities = None; properties = None }))); payload = ([]) }))
    ∷ ask (Own (own.Grant 1 2 false false))
    ∷ ask (Heard (record { channel = 0; body = (Some (heard.Flow (record { next_incoming_id = (Some 0); incoming_window = 2048; next_outgoing_id = 0; outgoing_window = 2048; handle = (Some 1); delivery_count = (Some 1); link_credit = None; available = None; drain = None; echo = (Some true); properties = None }))); payload = ([]) }))
    ∷ ask_held Sender
    ∷ ask (Heard (record { channel = 0; body = (Some (heard.Transfer (record { handle = 1; delivery_id = (Some 0); delivery_tag = (Some (2 ∷ [])); message_format = (Some 1); settled = None; more = (Some true); rcv_settle_mode = None; state = None; resume = None; aborted = None; batchable = None }))); payload = ([]) }))
    ∷ ask (Own (own.Detach 0 None))
    ∷ ask (Own (own.Dispose Receiver 0 0 true (Some state.Released)))
    ∷ ask (Own (own.Grant 1 0 false false))
    ∷ ask (Heard (record { channel = 0; body = (Some (heard.Attach (record { name = (97 ∷ 195 ∷ 169 ∷ []); handle = 0; role = Receiver; snd_settle_mode = (Some 2); rcv_settle_mode = (Some 0); source = None; target = None; unsettled = None; incomplete_unsettled = None; initial_delivery_count = None; max_message_size = (Some 4); offered_capabilities = None; desired_capabilities = None; properties = None }))); payload = ([]) }))
    ∷ ask (Own (own.Detach 1 None))
    ∷ ask (Own (own.Refresh false))
    ∷ ask (Heard (record { channel = 0; body = (Some (heard.Flow (record { next_incoming_id = (Some 0); incoming_window = 5; next_outgoing_id = 1; outgoing_window = 4294967295; handle = None; delivery_count = None; link_credit = None; available = None; drain = None; echo = None; properties = None }))); payload = ([]) }))
    ∷ ask (Own (own.Attach (122 ∷ []) Sender 2 0 None None 5 0))
    ∷ ask (Own (own.Detach 4294967295 None))
    ∷ ask (Heard (record { channel = 0; body = (Some (heard.Flow (record { next_incoming_id = (Some 0); incoming_window = 2048; next_outgoing_id = 1; outgoing_window = 2147483647; handle = (Some 0); delivery_count = (Some 5); link_credit = (Some 0); available = None; drain = None; echo = None; properties = None }))); payload = ([]) }))
    ∷ ask_link 0
    ∷ ask (Heard (record { channel = 0; body = (Some (heard.Flow (record { next_incoming_id = (Some 0); incoming_window = 2; next_outgoing_id = 1; outgoing_window = 2048; handle = (Some 0); delivery_count = (Some 3); link_credit = (Some 5); available = None; drain = (Some false); echo = (Some true); properties = None }))); payload = ([]) }))
    ∷ ask_link 2
    ∷ ask (Own (own.Detach 7 None))
    ∷ ask_windows
    ∷ ask (Heard (record { channel = 0; body = (Some (heard.Flow (record { next_incoming_id = (Some 0); incoming_window = 5; next_outgoing_id = 1; outgoing_window = 0; handle = (Some 1); delivery_count = (Some 2); link_credit = (Some 0); available = None; drain = (Some true); echo = None; properties = None }))); payload = ([]) }))
    ∷ ask_windows
    ∷ ask (Heard (record { channel = 0; body = (Some (heard.Detach (record { handle = 1; closed = (Some true); error = None }))); payload = ([]) }))
    ∷ ask (Own (own.Attach (97 ∷ 195 ∷ 169 ∷ []) Receiver 2 0 None None 4294967295 0))
    ∷ ask_windows
    ∷ ask (Heard (record { channel = 0; body = (Some (heard.Flow (record { next_incoming_id = (Some 0); incoming_window = 2048; next_outgoing_id = 1; outgoing_window = 4294967295; handle = None; delivery_count = None; link_credit = None; available = None; drain = None; echo = None; properties = None }))); payload = ([]) }))
    ∷ ask_held Sender
    ∷ ask (Heard (record { channel = 0; body = (Some (heard.Begin (record { remote_channel = (Some 0); next_outgoing_id = 1; incoming_window = 1; outgoing_window = 2; handle_max = None; offered_capabilities = None; desired_capabilities = None; properties = None }))); payload = ([]) }))
    ∷ ask_windows
    ∷ ask_link 0
    ∷ ask_link 1
    ∷ ask_link 2
    ∷ ask_link 3
    ∷ ask_link 4
    ∷ ask_held Sender
    ∷ ask_held Receiver ∷ [])
    ≡ (held ([]) ∷ held ([]) ∷ link None ∷ link (Some (record { role = Receiver; phase = phase.Asked; count = 0; credit = 0; drain = false; mid = false; ready = 0 })) ∷ link (Some (record { role = Sender; phase = phase.Asked; count = 5; credit = 0; drain = false; mid = false; ready = 0 })) ∷ link None ∷ link (Some (record { role = Sender; phase = phase.Leaving; count = 5; credit = 100; drain = false; mid = false; ready = 0 })) ∷ windows (record { next_in = (Some 1); incoming = 3; next_out = 0; remote_in = 2048; remote_out = 4294967295; next_delivery = 0 }) ∷ violated 2 ∷ held ([]) ∷ ok given.Nothing ([]) ([]) ∷ windows (record { next_in = (Some 1); incoming = 3; next_out = 0; remote_in = 5; remote_out = 0; next_delivery = 0 }) ∷ ok (given.Link 3) ([]) ([] ∷ []) ∷ ok (given.Gone 1) ([]) ([]) ∷ windows (record { next_in = (Some 1); incoming = 3; next_out = 0; remote_in = 5; remote_out = 0; next_delivery = 0 }) ∷ ok given.Nothing ([]) ([]) ∷ windows (record { next_in = (Some 1); incoming = 3; next_out = 0; remote_in = 2; remote_out = 2048; next_delivery = 0 }) ∷ refused 5 ∷ link (Some (record { role = Sender; phase = phase.Asked; count = 5; credit = 0; drain = false; mid = false; ready = 0 })) ∷ ok given.Nothing ([]) ([] ∷ []) ∷ link (Some (record { role = Sender; phase = phase.Leaving; count = 5; credit = 100; drain = false; mid = false; ready = 0 })) ∷ ok given.Nothing ([]) ([]) ∷ refused 5 ∷ ok (given.Link 2) ([]) ([] ∷ []) ∷ ok given.Nothing ([]) ([]) ∷ ok given.Nothing ([]) ([] ∷ []) ∷ ok given.Nothing ([]) ([] ∷ []) ∷ violated 4 ∷ ok given.Nothing ([]) ([] ∷ []) ∷ ok given.Nothing ((Receiver, 0) ∷ []) ([] ∷ []) ∷ ok given.Nothing ([]) ([] ∷ []) ∷ ok given.Nothing ([]) ([]) ∷ held ([]) ∷ ok given.Nothing ([]) ([] ∷ []) ∷ ok given.Nothing ([]) ([] ∷ []) ∷ ok (given.Attached 1) ([]) ([]) ∷ ok (given.Link 1) ([]) ([] ∷ []) ∷ ok given.Nothing ([]) ([]) ∷ ok (given.Link 0) ([]) ([] ∷ []) ∷ ok (given.Offered 0) ([]) ([]) ∷ ok given.Nothing ([]) ([]) ∷ ok given.Nothing ([]) ([] ∷ []) ∷ ok given.Nothing ([]) ([]) ∷ [])
unfolding octets_of frame_refused canon spelled class_of is_utf8 chars encode
random_063 = refl

random_067 : short_lines_of (record { first_id = 4294967293; window = 2147483647; journal_limit = 1073741824 })
    (ask (Opened 1000)
    ∷ ask (Own own.Begin)
    ∷ ask (Heard (record { channel = 0; body = (Some (heard.Begin (record { remote_channel = (Some 0); next_outgoing_id = 0; incoming_window = 2048; outgoing_window = 4294967295; handle_max = None; offered_capabilities = None; desired_capabilities = None; properties = None }))); payload = ([]) }))
    ∷ ask (Heard (record { channel = 0; body = (Some (heard.Attach (record { name = (121 ∷ []); handle = 0; role = Receiver; snd_settle_mode = (Some 1); rcv_settle_mode = (Some 0); source = None; target = None; unsettled = None; incomplete_unsettled = None; initial_delivery_count = None; max_message_size = None; offered_capabilities = None; desired_capabilities = None; properties = None }))); payload = ([]) }))
    ∷ ask (Own (own.Attach (121 ∷ []) Sender 2 1 None None 4294967295 300))
    ∷ ask (Heard (record { channel = 0; body = (Some (heard.Flow (record { next_incoming_id = (Some 4294967293); incoming_window = 2048; next_outgoing_id = 0; outgoing_window = 2147483647; handle = (Some 0); delivery_count = (Some 4294967295); link_credit = None; available = None; drain = (Some true); echo = None; properties = None }))); payload = ([]) }))
    ∷ ask (Heard (record { channel = 0; body = (Some (heard.Flow (record { next_incoming_id = (Some 4294967293); incoming_window = 1; next_outgoing_id = 4294967295; outgoing_window = 3; handle = (Some 0); delivery_count = (Some 4294967295); link_credit = (Some 1); available = None; drain = None; echo = (Some true); properties = None }))); payload = ([]) }))
    ∷ ask (Own (own.Start 0 (1 ∷ []) 1 false ([]) true))
    ∷ ask (Own (own.Attach (121 ∷ []) Receiver 2 0 None None 0 6))
    ∷ ask (Heard (record { channel = 0; body = (Some (heard.Attach (record { name = (121 ∷ []); handle = 1; role = Sender; snd_settle_mode = (Some 2); rcv_settle_mode = (Some 0); source = None; target = None; unsettled = None; incomplete_unsettled = None; initial_delivery_count = (Some 0); max_message_size = None; offered_capabilities = None; desired_capabilities = None; properties = None }))); payload = ([]) }))
    ∷ ask (Own (own.Grant 1 5 true false))
    ∷ ask (Heard (record { channel = 0; body = (Some (heard.Flow (record { next_incoming_id = (Some 4294967294); incoming_window = 2048; next_outgoing_id = 4294967295; outgoing_window = 3; handle = (Some 0); delivery_count = (Some 0); link_credit = (Some 100); available = None; drain = None; echo = None; properties = None }))); payload = ([]) }))
    ∷ ask (Own (own.Carry 0 ([]) false))
    ∷ ask (Heard (record { channel = 0; body = (Some (heard.Flow (record { next_incoming_id = (Some 4294967293); incoming_window = 2; next_outgoing_id = 4294967295; outgoing_window = 3; handle = (Some 0); delivery_count = (Some 0); link_credit = (Some 1); available = None; drain = (Some true); echo = None; properties = None }))); payload = ([]) }))
    ∷ ask_link 0
    ∷ ask (Own (own.Grant 1 6 true false))
    ∷ ask (Heard (record { channel = 0; body = (Some (heard.Disposition (record { role = Receiver; first = 4294967292; last = (Some 2); settled = (Some true); state = (Some state.Released); batchable = None }))); payload = ([]) }))
    ∷ ask (Heard (record { channel = 0; body = (Some (heard.Flow (record { next_incoming_id = (Some 4294967295); incoming_window = 2048; next_outgoing_id = 4294967295; outgoing_window = 2048; handle = (Some 0); delivery_count = (Some 0); link_credit = (Some 4294967295); available = None; drain = None; echo = (Some true); properties = None }))); payload = ([]) }))
    ∷ ask (Own (own.Start 0 (68 ∷ 5 ∷ []) 0 false ([]) true))
    ∷ ask (Own own.Begin)
    ∷ ask (Own (own.Carry 0 (120 ∷ []) true))
    ∷ ask (Own (own.Learn 0))
    ∷ ask (Own (own.Carry 0 (120 ∷ 120 ∷ 120 ∷ 120 ∷ 120 ∷ 120 ∷ 120 ∷ 120 ∷ 120 ∷ 120 ∷ 120 ∷ 120 ∷ 120 ∷ 120 ∷ 120 ∷ 120 ∷ 120 ∷ 120 ∷ 120 ∷ 120 ∷ 120 ∷ 120 ∷ 120 ∷ 120 ∷ 120 ∷ 120 ∷ 120 ∷ 120 ∷ 120 ∷ 120 ∷ 120 ∷ 120 ∷ 120 ∷ 120 ∷ 120 ∷ 120 ∷ 120 ∷ 120 ∷ 120 ∷ 120 ∷ 120 ∷ 120 ∷ 120 ∷ 120 ∷ 120 ∷ 120 ∷ 120 ∷ 120 ∷ 120 ∷ 120 ∷ 120 ∷ 120 ∷ 120 ∷ 120 ∷ 120 ∷ 120 ∷ 120 ∷ 120 ∷ 120 ∷ 120 ∷ 120 ∷ 120 ∷ 120 ∷ 120 ∷ 120 ∷ 120 ∷ 120 ∷ 120 ∷ 120 ∷ 120 ∷ 120 ∷ 120 ∷ 120 ∷ 120 ∷ 120 ∷ 120 ∷ 120 ∷ 120 ∷ 120 ∷ 120 ∷ 120 ∷ 120 ∷ 120 ∷ 120 ∷ 120 ∷ 120 ∷ 120 ∷ 120 ∷ 120 ∷ 120 ∷ 120 ∷ 120 ∷ 120 ∷ 120 ∷ 120 ∷ 120 ∷ 120 ∷ 120 ∷ 120 ∷ 120 ∷ 120 ∷ 120 ∷ 120 ∷ 120 ∷ 120 ∷ 120 ∷ 120 ∷ 120 ∷ 120 ∷ 120 ∷ 120 ∷ 120 ∷ 120 ∷ 120 ∷ 120 ∷ 120 ∷ 120 ∷ 120 ∷ 120 ∷ 120 ∷ 120 ∷ 120 ∷ 120 ∷ 120 ∷ 120 ∷ 120 ∷ 120 ∷ 120 ∷ 120 ∷ 120 ∷ 120 ∷ 120 ∷ 120 ∷ 120 ∷ 120 ∷ 120 ∷ 120 ∷ 120 ∷ 120 ∷ 120 ∷ 120 ∷ 120 ∷ 120 ∷ 120 ∷ 120 ∷ 120 ∷ 120 ∷ 120 ∷ 120 ∷ 120 ∷ 120 ∷ 120 ∷ 120 ∷ 120 ∷ 120 ∷ 120 ∷ 120 ∷ 120 ∷ 120 ∷ 120 ∷ 120 ∷ 120 ∷ 120 ∷ 120 ∷ 120 ∷ 120 ∷ 120 ∷ 120 ∷ 120 ∷ 120 ∷ 120 ∷ 120 ∷ 120 ∷ 120 ∷ 120 ∷ 120 ∷ 120 ∷ 120 ∷ 120 ∷ 120 ∷ 120 ∷ 120 ∷ 120 ∷ 120 ∷ 120 ∷ 120 ∷ 120 ∷ 120 ∷ 120 ∷ 120 ∷ 120 ∷ 120 ∷ 120 ∷ 120 ∷ 120 ∷ 120 ∷ 120 ∷ 120 ∷ 120 ∷ 120 ∷ 120 ∷ 120 ∷ 120 ∷ 120 ∷ 120 ∷ 120 ∷ 120 ∷ 120 ∷ 120 ∷ 120 ∷ 120 ∷ 120 ∷ 120 ∷ 120 ∷ 120 ∷ 120 ∷ 120 ∷ 120 ∷ 120 ∷ 120 ∷ 120 ∷ 120 ∷ 120 ∷ 120 ∷ 120 ∷ 120 ∷ 120 ∷ 120 ∷ 120 ∷ 120 ∷ 120 ∷ 120 ∷ 120 ∷ 120 ∷ 120 ∷ 120 ∷ 120 ∷ 120 ∷ 120 ∷ 120 ∷ 120 ∷ 120 ∷ 120 ∷ 120 ∷ 120 ∷ 120 ∷ 120 ∷ 120 ∷ 120 ∷ 120 ∷ 120 ∷ 120 ∷ 120 ∷ 120 ∷ 120 ∷ 120 ∷ 120 ∷ 120 ∷ 120 ∷ 120 ∷ 120 ∷ 120 ∷ 120 ∷ 120 ∷ 120 ∷ 120 ∷ 120 ∷ 120 ∷ 120 ∷ 120 ∷ 120 ∷ 120 ∷ 120 ∷ 120 ∷ 120 ∷ 120 ∷ 120 ∷ 120 ∷ 120 ∷ 120 ∷ 120 ∷ 120 ∷ 120 ∷ 120 ∷ 120 ∷ 120 ∷ 120 ∷ 120 ∷ 120 ∷ 120 ∷ 120 ∷ 120 ∷ 120 ∷ 120 ∷ 120 ∷ 120 ∷ 120 ∷ 120 ∷ 120 ∷ 120 ∷ 120 ∷ 120 ∷ 120 ∷ 120 ∷ 120 ∷ 120 ∷ 120 ∷ 120 ∷ 120 ∷ 120 ∷ 120 ∷ 120 ∷ 120 ∷ 120 ∷ 120 ∷ 120 ∷ 120 ∷ 120 ∷ 120 ∷ 120 ∷ 120 ∷ 120 ∷ 120 ∷ 120 ∷ 120 ∷ 120 ∷ 120 ∷ 120 ∷ 120 ∷ 120 ∷ 120 ∷ 120 ∷ 120 ∷ 120 ∷ 120 ∷ 120 ∷ 120 ∷ 120 ∷ 120 ∷ 120 ∷ 120 ∷ 120 ∷ 120 ∷ 120 ∷ 120 ∷ 120 ∷ 120 ∷ 120 ∷ 120 ∷ 120 ∷ 120 ∷ 120 ∷ 120 ∷ 120 ∷ 120 ∷ 120 ∷ 120 ∷ 120 ∷ 120 ∷ 120 ∷ 120 ∷ 120 ∷ 120 ∷ 120 ∷ 120 ∷ 120 ∷ 120 ∷ 120 ∷ 120 ∷ 120 ∷ 120 ∷ 120 ∷ 120 ∷ 120 ∷ 120 ∷ 120 ∷ 120 ∷ 120 ∷ 120 ∷ 120 ∷ 120 ∷ 120 ∷ 120 ∷ 120 ∷ 120 ∷ 120 ∷ 120 ∷ 120 ∷ 120 ∷ 120 ∷ 120 ∷ 120 ∷ 120 ∷ 120 ∷ 120 ∷ 120 ∷ 120 ∷ 120 ∷ 120 ∷ 120 ∷ 120 ∷ 120 ∷ 120 ∷ 120 ∷ 120 ∷ 120 ∷ 120 ∷ 120 ∷ 120 ∷ 120 ∷ 120 ∷ 120 ∷ 120 ∷ 120 ∷ 120 ∷ 120 ∷ 120 ∷ 120 ∷ 120 ∷ 120 ∷ 120 ∷ 120 ∷ 120 ∷ 120 ∷ 120 ∷ 120 ∷ 120 ∷ 120 ∷ 120 ∷ 120 ∷ 120 ∷ 120 ∷ 120 ∷ 120 ∷ 120 ∷ 120 ∷ 120 ∷ 120 ∷ 120 ∷ 120 ∷ 120 ∷ 120 ∷ 120 ∷ 120 ∷ 120 ∷ 120 ∷ 120 ∷ 120 ∷ 120 ∷ 120 ∷ 120 ∷ 120 ∷ 120 ∷ 120 ∷ 120 ∷ 120 ∷ 120 ∷ 120 ∷ 120 ∷ 120 ∷ 120 ∷ 120 ∷ 120 ∷ 120 ∷ 120 ∷ 120 ∷ 120 ∷ 120 ∷ 120 ∷ 120 ∷ 120 ∷ 120 ∷ 120 ∷ 120 ∷ 120 ∷ 120 ∷ 120 ∷ 120 ∷ 120 ∷ 120 ∷ 120 ∷ 120 ∷ 120 ∷ 120 ∷ 120 ∷ 120 ∷ 120 ∷ 120 ∷ 120 ∷ 120 ∷ 120 ∷ 120 ∷ 120 ∷ 120 ∷ 120 ∷ 120 ∷ 120 ∷ 120 ∷ 120 ∷ 120 ∷ 120 ∷ 120 ∷ 120 ∷ 120 ∷ 120 ∷ 120 ∷ 120 ∷ 120 ∷ 120 ∷ 120 ∷ 120 ∷ 120 ∷ 120 ∷ 120 ∷ 120 ∷ 120 ∷ 120 ∷ 120 ∷ 120 ∷ 120 ∷ 120 ∷ 120 ∷ 120 ∷ 120 ∷ 120 ∷ 120 ∷ 120 ∷ 120 ∷ 120 ∷ 120 ∷ 120 ∷ 120 ∷ 120 ∷ 120 ∷ 120 ∷ 120 ∷ 120 ∷ 120 ∷ 120 ∷ 120 ∷ 120 ∷ 120 ∷ 120 ∷ 120 ∷ 120 ∷ 120 ∷ 120 ∷ 120 ∷ 120 ∷ 120 ∷ 120 ∷ 120 ∷ 120 ∷ 120 ∷ 120 ∷ 120 ∷ 120 ∷ 120 ∷ 120 ∷ 120 ∷ 120 ∷ 120 ∷ 120 ∷ 120 ∷ 120 ∷ 120 ∷ 120 ∷ 120 ∷ 120 ∷ 120 ∷ 120 ∷ 120 ∷ 120 ∷ 120 ∷ 120 ∷ 120 ∷ 120 ∷ 120 ∷ 120 ∷ 120 ∷ 120 ∷ 120 ∷ 120 ∷ 120 ∷ 120 ∷ 120 ∷ 120 ∷ 120 ∷ 120 ∷ 120 ∷ 120 ∷ 120 ∷ 120 ∷ 120 ∷ 120 ∷ 120 ∷ 120 ∷ 120 ∷ 120 ∷ 120 ∷ 120 ∷ 120 ∷ 120 ∷ 120 ∷ 120 ∷ 120 ∷ 120 ∷ 120 ∷ 120 ∷ 120 ∷ 120 ∷ 120 ∷ 120 ∷ 120 ∷ 120 ∷ 120 ∷ 120 ∷ 120 ∷ 120 ∷ 120 ∷ 120 ∷ 120 ∷ 120 ∷ 120 ∷ 120 ∷ 120 ∷ 120 ∷ 120 ∷ 120 ∷ 120 ∷ 120 ∷ 120 ∷ 120 ∷ 120 ∷ 120 ∷ 120 ∷ 120 ∷ 120 ∷ 120 ∷ 120 ∷ 120 ∷ 120 ∷ 120 ∷ 120 ∷ 120 ∷ 120 ∷ 120 ∷ 120 ∷ 120 ∷ 120 ∷ 120 ∷ 120 ∷ 120 ∷ 120 ∷ 120 ∷ 120 ∷ 120 ∷ 120 ∷ 120 ∷ 120 ∷ 120 ∷ 120 ∷ 120 ∷ 120 ∷ 120 ∷ 120 ∷ 120 ∷ 120 ∷ 120 ∷ 120 ∷ 120 ∷ 120 ∷ 120 ∷ 120 ∷ 120 ∷ 120 ∷ 120 ∷ 120 ∷ 120 ∷ 120 ∷ 120 ∷ 120 ∷ 120 ∷ 120 ∷ 120 ∷ 120 ∷ 120 ∷ 120 ∷ 120 ∷ 120 ∷ 120 ∷ 120 ∷ 120 ∷ 120 ∷ 120 ∷ 120 ∷ 120 ∷ 120 ∷ 120 ∷ 120 ∷ 120 ∷ 120 ∷ 120 ∷ 120 ∷ 120 ∷ 120 ∷ 120 ∷ 120 ∷ 120 ∷ 120 ∷ 120 ∷ 120 ∷ 120 ∷ 120 ∷ 120 ∷ 120 ∷ 120 ∷ 120 ∷ 120 ∷ 120 ∷ 120 ∷ 120 ∷ 120 ∷ 120 ∷ 120 ∷ 120 ∷ 120 ∷ 120 ∷ 120 ∷ 120 ∷ 120 ∷ 120 ∷ 120 ∷ 120 ∷ 120 ∷ 120 ∷ 120 ∷ 120 ∷ 120 ∷ 120 ∷ 120 ∷ 120 ∷ 120 ∷ 120 ∷ 120 ∷ 120 ∷ 120 ∷ 120 ∷ 120 ∷ 120 ∷ 120 ∷ 120 ∷ 120 ∷ 120 ∷ 120 ∷ 120 ∷ 120 ∷ 120 ∷ 120 ∷ 120 ∷ 120 ∷ 120 ∷ 120 ∷ 120 ∷ 120 ∷ 120 ∷ 120 ∷ 120 ∷ 120 ∷ 120 ∷ 120 ∷ 120 ∷ 120 ∷ 120 ∷ 120 ∷ 120 ∷ 120 ∷ 120 ∷ 120 ∷ 120 ∷ 120 ∷ 120 ∷ 120 ∷ 120 ∷ 120 ∷ 120 ∷ 120 ∷ 120 ∷ 120 ∷ 120 ∷ 120 ∷ 120 ∷ 120 ∷ 120 ∷ 120 ∷ 120 ∷ 120 ∷ 120 ∷ 120 ∷ 120 ∷ 120 ∷ 120 ∷ 120 ∷ 120 ∷ 120 ∷ 120 ∷ 120 ∷ 120 ∷ 120 ∷ 120 ∷ 120 ∷ 120 ∷ 120 ∷ 120 ∷ 120 ∷ 120 ∷ 120 ∷ 120 ∷ 120 ∷ 120 ∷ 120 ∷ 120 ∷ 120 ∷ 120 ∷ 120 ∷ 120 ∷ 120 ∷ 120 ∷ 120 ∷ 120 ∷ 120 ∷ 120 ∷ 120 ∷ 120 ∷ 120 ∷ 120 ∷ 120 ∷ 120 ∷ 120 ∷ 120 ∷ 120 ∷ 120 ∷ 120 ∷ 120 ∷ 120 ∷ 120 ∷ 120 ∷ 120 ∷ 120 ∷ 120 ∷ 120 ∷ 120 ∷ 120 ∷ 120 ∷ 120 ∷ 120 ∷ 120 ∷ 120 ∷ 120 ∷ 120 ∷ 120 ∷ 120 ∷ 120 ∷ 120 ∷ 120 ∷ 120 ∷ 120 ∷ 120 ∷ 120 ∷ 120 ∷ 120 ∷ 120 ∷ 120 ∷ 120 ∷ 120 ∷ 120 ∷ 120 ∷ 120 ∷ 120 ∷ 120 ∷ 120 ∷ 120 ∷ 120 ∷ 120 ∷ 120 ∷ 120 ∷ 120 ∷ 120 ∷ 120 ∷ 120 ∷ 120 ∷ 120 ∷ 120 ∷ 120 ∷ 120 ∷ 120 ∷ 120 ∷ 120 ∷ 120 ∷ 120 ∷ 120 ∷ 120 ∷ 120 ∷ 120 ∷ 120 ∷ 120 ∷ 120 ∷ 120 ∷ 120 ∷ 120 ∷ 120 ∷ 120 ∷ 120 ∷ 120 ∷ 120 ∷ 120 ∷ 120 ∷ 120 ∷ 120 ∷ 120 ∷ 120 ∷ 120 ∷ 120 ∷ 120 ∷ 120 ∷ 120 ∷ 120 ∷ 120 ∷ 120 ∷ 120 ∷ 120 ∷ 120 ∷ 120 ∷ 120 ∷ 120 ∷ 120 ∷ 120 ∷ 120 ∷ 120 ∷ 120 ∷ 120 ∷ 120 ∷ 120 ∷ 120 ∷ 120 ∷ 120 ∷ 120 ∷ 120 ∷ 120 ∷ 120 ∷ 120 ∷ 120 ∷ 120 ∷ 120 ∷ 120 ∷ 120 ∷ 120 ∷ 120 ∷ 120 ∷ 120 ∷ 120 ∷ 120 ∷ 120 ∷ 120 ∷ 120 ∷ 120 ∷ 120 ∷ 120 ∷ 120 ∷ 120 ∷ 120 ∷ 120 ∷ 120 ∷ 120 ∷ 120 ∷ 120 ∷ []) true))
    ∷ ask (Heard (record { channel = 0; body = (Some (heard.Flow (record { next_incoming_id = (Some 1); incoming_window = 2048; next_outgoing_id = 4294967295; outgoing_window = 2147483647; handle = (Some 0); delivery_count = (Some 1); link_credit = (Some 5); available = None; drain = (Some true); echo = None; properties = None }))); payload = ([]) }))
    ∷ ask_windows
    ∷ ask_link 0
    ∷ ask_link 1
    ∷ ask_link 2
    ∷ ask_held Sender
    ∷ ask_held Receiver ∷ [])
    ≡ (held ([]) ∷ held (record { id = 4294967294; link = 0; tag = (68 ∷ 5 ∷ []); second = false; local = None; remote = None } ∷ []) ∷ link None ∷ link (Some (record { role = Receiver; phase = phase.Attached; count = 0; credit = 5; drain = true; mid = false; ready = 0 })) ∷ link (Some (record { role = Sender; phase = phase.Attached; count = 1; credit = 5; drain = true; mid = true; ready = 0 })) ∷ windows (record { next_in = (Some 4294967295); incoming = 2147483647; next_out = 2; remote_in = 2047; remote_out = 2147483647; next_delivery = 4294967295 }) ∷ ok given.Nothing ([]) ([]) ∷ ok given.Nothing ([]) ([] ∷ []) ∷ ok (given.Learned (record { id = 4294967293; link = 0; tag = (1 ∷ []); state = (Some state.Released); settled = true })) ([]) ([]) ∷ ok given.Nothing ([]) ([] ∷ []) ∷ refused 3 ∷ ok (given.Delivery 4294967294) ([]) ([] ∷ []) ∷ ok given.Nothing ([]) ([] ∷ []) ∷ ok given.Nothing ((Sender, 4294967293) ∷ []) ([]) ∷ refused 19 ∷ link (Some (record { role = Sender; phase = phase.Attached; count = 0; credit = 1; drain = true; mid = false; ready = 0 })) ∷ ok given.Nothing ([]) ([]) ∷ ok given.Nothing ([]) ([] ∷ []) ∷ ok given.Nothing ([]) ([]) ∷ ok given.Nothing ([]) ([] ∷ []) ∷ ok (given.Attached 1) ([]) ([]) ∷ ok (given.Link 1) ([]) ([] ∷ []) ∷ ok (given.Delivery 4294967293) ([]) ([] ∷ []) ∷ ok given.Nothing ([]) ([] ∷ []) ∷ ok given.Nothing ([]) ([]) ∷ ok (given.Link 0) ([]) ([] ∷ []) ∷ ok (given.Offered 0) ([]) ([]) ∷ ok given.Nothing ([]) ([]) ∷ ok given.Nothing ([]) ([] ∷ []) ∷ ok given.Nothing ([]) ([]) ∷ [])
unfolding octets_of frame_refused canon spelled class_of is_utf8 chars encode
random_067 = refl

random_079 : short_lines_of (record { first_id = 441891572; window = 2048; journal_limit = 1073741824 })
    (ask (Opened 0)
    ∷ ask (Own own.Begin)
    ∷ ask (Heard (record { channel = 0; body = (Some (heard.Begin (record { remote_channel = (Some 7); next_outgoing_id = 0; incoming_window = 2048; outgoing_window = 2; handle_max = (Some 255); offered_capabilities = None; desired_capabilities = None; properties = None }))); payload = ([]) }))
    ∷ ask (Own (own.Attach (122 ∷ []) Receiver 2 0 None None 0 18446744073709551615))
    ∷ ask (Heard (record { channel = 0; body = (Some (heard.Flow (record { next_incoming_id = (Some 441891572); incoming_window = 4294967295; next_outgoing_id = 0; outgoing_window = 2147483647; handle = None; delivery_count = None; link_credit = None; available = (Some 0); drain = None; echo = None; properties = None }))); payload = ([]) }))
    ∷ ask (Heard (record { channel = 0; body = (Some (heard.Attach (record { name = (122 ∷ []); handle = 4294967295; role = Sender; snd_settle_mode = None; rcv_settle_mode = None; source = None; target = None; unsettled = None; incomplete_unsettled = None; initial_delivery_count = (Some 4294967294); max_message_size = None; offered_capabilities = None; desired_capabilities = None; properties = None }))); payload = ([]) }))
    ∷ ask (Own (own.Grant 0 0 true true))
    ∷ ask (Own (own.Refresh false))
    ∷ ask (Own (own.Attach (122 ∷ []) Sender 2 0 None None 0 300))
    ∷ ask (Heard (record { channel = 0; body = (Some (heard.Attach (record { name = (122 ∷ []); handle = 5; role = Receiver; snd_settle_mode = None; rcv_settle_mode = None; source = None; target = None; unsettled = None; incomplete_unsettled = None; initial_delivery_count = None; max_message_size = None; offered_capabilities = None; desired_capabilities = None; properties = None }))); payload = ([]) }))
    ∷ ask (Heard (record { channel = 0; body = (Some (heard.Flow (record { next_incoming_id = (Some 441891572); incoming_window = 2048; next_outgoing_id = 0; outgoing_window = 0; handle = (Some 5); delivery_count = (Some 0); link_credit = None; available = None; drain = None; echo = None; properties = None }))); payload = ([]) }))
    ∷ ask (Heard (record { channel = 0; body = (Some (heard.Flow (record { next_incoming_id = (Some 441891572); incoming_window = 2048; next_outgoing_id = 0; outgoing_window = 2147483647; handle = (Some 5); delivery_count = (Some 0); link_credit = (Some 100); available = None; drain = (Some true); echo = None; properties = None }))); payload = ([]) }))
    ∷ ask (Own own.Beat)
    ∷ ask (Own (own.Grant 0 5 false false))
    ∷ ask (Own (own.Detach 0 None))
    ∷ ask (Own (own.Detach 1 None))
    ∷ ask (Own (own.Attach (113 ∷ []) Sender 2 1 None None 0 18446744073709551615))
    ∷ ask (Heard (record { channel = 0; body = (Some (heard.Attach (record { name = (113 ∷ []); handle = 0; role = Receiver; snd_settle_mode = (Some 1); rcv_settle_mode = None; source = None; target = None; unsettled = None; incomplete_unsettled = None; initial_delivery_count = None; max_message_size = None; offered_capabilities = None; desired_capabilities = None; properties = None }))); payload = ([]) }))
    ∷ ask (Heard (record { channel = 0; body = (Some (heard.Flow (record { next_incoming_id = (Some 441891572); incoming_window = 0; next_outgoing_id = 0; outgoing_window = 2048; handle = (Some 0); delivery_count = (Some 0); link_credit = (Some 2147483648); available = None; drain = None; echo = None; properties = None }))); payload = ([]) }))
    ∷ ask (Heard (record { channel = 0; body = (Some (heard.Flow (record { next_incoming_id = (Some 441891572); incoming_window = 3; next_outgoing_id = 0; outgoing_window = 3; handle = (Some 0); delivery_count = (Some 0); link_credit = (Some 3); available = None; drain = None; echo = None; properties = None }))); payload = ([]) }))
    ∷ ask_windows
    ∷ ask_link 0
    ∷ ask_link 1
    ∷ ask_link 2
    ∷ ask_link 3
    ∷ ask_held Sender
    ∷ ask_held Receiver ∷ [])
    ≡ (held ([]) ∷ held ([]) ∷ link None ∷ link (Some (record { role = Sender; phase = phase.Attached; count = 0; credit = 3; drain = false; mid = false; ready = 0 })) ∷ link (Some (record { role = Sender; phase = phase.Leaving; count = 0; credit = 100; drain = true; mid = false; ready = 0 })) ∷ link (Some (record { role = Receiver; phase = phase.Leaving; count = 4294967294; credit = 5; drain = false; mid = false; ready = 0 })) ∷ windows (record { next_in = (Some 0); incoming = 2048; next_out = 441891572; remote_in = 3; remote_out = 3; next_delivery = 441891572 }) ∷ ok given.Nothing ([]) ([]) ∷ ok given.Nothing ([]) ([]) ∷ ok (given.Attached 2) ([]) ([]) ∷ ok (given.Link 2) ([]) ([] ∷ []) ∷ ok given.Nothing ([]) ([] ∷ []) ∷ ok given.Nothing ([]) ([] ∷ []) ∷ ok given.Nothing ([]) ([] ∷ []) ∷ ok given.Nothing ([]) ([] ∷ []) ∷ ok given.Nothing ([]) ([]) ∷ ok given.Nothing ([]) ([]) ∷ ok (given.Attached 1) ([]) ([]) ∷ ok (given.Link 1) ([]) ([] ∷ []) ∷ ok given.Nothing ([]) ([] ∷ []) ∷ ok given.Nothing ([]) ([] ∷ []) ∷ ok (given.Attached 0) ([]) ([]) ∷ ok given.Nothing ([]) ([]) ∷ ok (given.Link 0) ([]) ([] ∷ []) ∷ ok given.Nothing ([]) ([]) ∷ ok given.Nothing ([]) ([] ∷ []) ∷ ok given.Nothing ([]) ([]) ∷ [])
unfolding octets_of frame_refused canon spelled class_of is_utf8 chars encode
random_079 = refl

random_082 : short_lines_of (record { first_id = 4294967295; window = 2048; journal_limit = 1073741824 })
    (ask (Opened 511)
    ∷ ask (Own own.Begin)
    ∷ ask (Heard (record { channel = 0; body = (Some (heard.Begin (record { remote_channel = None; next_outgoing_id = 1470323519; incoming_window = 2048; outgoing_window = 2147483647; handle_max = (Some 1); offered_capabilities = None; desired_capabilities = None; properties = None }))); payload = ([]) }))
    ∷ ask (Own (own.Attach (97 ∷ 195 ∷ 169 ∷ []) Receiver 2 0 None None 0 0))
    ∷ ask (Heard (record { channel = 0; body = (Some (heard.Attach (record { name = (97 ∷ 195 ∷ 169 ∷ []); handle = 0; role = Sender; snd_settle_mode = (Some 2); rcv_settle_mode = (Some 0); source = None; target = None; unsettled = None; incomplete_unsettled = None; initial_delivery_count = (Some 4294967295); max_message_size = (Some 300); offered_capabilities = None; desired_capabilities = None; properties = None }))); payload = ([]) }))
    ∷ ask (Own (own.Grant 0 5 false false))
    ∷ ask (Heard (record { channel = 0; body = (Some (heard.Attach (record { name = (113 ∷ []); handle = 1; role = Receiver; snd_settle_mode = (Some 2); rcv_settle_mode = None; source = None; target = None; unsettled = None; incomplete_unsettled = (Some true); initial_delivery_count = None; max_message_size = None; offered_capabilities = None; desired_capabilities = None; properties = None }))); payload = ([]) }))
    ∷ ask (Heard (record { channel = 0; body = (Some (heard.Flow (record { next_incoming_id = (Some 4294967295); incoming_window = 2048; next_outgoing_id = 1470323519; outgoing_window = 2048; handle = (Some 1); delivery_count = None; link_credit = (Some 5); available = None; drain = None; echo = None; properties = None }))); payload = ([]) }))
    ∷ ask (Own (own.Attach (113 ∷ []) Sender 2 0 None None 0 18446744073709551615))
    ∷ ask (Heard (record { channel = 0; body = (Some (heard.Flow (record { next_incoming_id = (Some 4294967295); incoming_window = 2048; next_outgoing_id = 1470323519; outgoing_window = 0; handle = (Some 1); delivery_count = (Some 4294967295); link_credit = (Some 100); available = None; drain = None; echo = None; properties = None }))); payload = ([]) }))
    ∷ ask_link 1
    ∷ ask (Heard (record { channel = 0; body = (Some (heard.Detach (record { handle = 0; closed = (Some true); error = None }))); payload = ([]) }))
    ∷ ask (Own (own.Attach (97 ∷ 195 ∷ 169 ∷ []) Receiver 2 0 None None 4294967294 1))
    ∷ ask_windows
    ∷ ask (Own (own.Start 1 (1 ∷ []) 0 false (120 ∷ 120 ∷ 120 ∷ 120 ∷ 120 ∷ 120 ∷ 120 ∷ 120 ∷ 120 ∷ 120 ∷ 120 ∷ 120 ∷ 120 ∷ 120 ∷ 120 ∷ 120 ∷ 120 ∷ 120 ∷ 120 ∷ 120 ∷ 120 ∷ 120 ∷ 120 ∷ 120 ∷ 120 ∷ 120 ∷ 120 ∷ 120 ∷ 120 ∷ 120 ∷ 120 ∷ 120 ∷ 120 ∷ 120 ∷ 120 ∷ 120 ∷ 120 ∷ 120 ∷ 120 ∷ 120 ∷ 120 ∷ 120 ∷ 120 ∷ 120 ∷ 120 ∷ 120 ∷ 120 ∷ 120 ∷ 120 ∷ 120 ∷ 120 ∷ 120 ∷ 120 ∷ 120 ∷ 120 ∷ 120 ∷ 120 ∷ 120 ∷ 120 ∷ 120 ∷ 120 ∷ 120 ∷ 120 ∷ 120 ∷ 120 ∷ 120 ∷ 120 ∷ 120 ∷ 120 ∷ 120 ∷ 120 ∷ 120 ∷ 120 ∷ 120 ∷ 120 ∷ 120 ∷ 120 ∷ 120 ∷ 120 ∷ 120 ∷ 120 ∷ 120 ∷ 120 ∷ 120 ∷ 120 ∷ 120 ∷ 120 ∷ 120 ∷ 120 ∷ 120 ∷ 120 ∷ 120 ∷ 120 ∷ 120 ∷ 120 ∷ 120 ∷ 120 ∷ 120 ∷ 120 ∷ 120 ∷ 120 ∷ 120 ∷ 120 ∷ 120 ∷ 120 ∷ 120 ∷ 120 ∷ 120 ∷ 120 ∷ 120 ∷ 120 ∷ 120 ∷ 120 ∷ 120 ∷ 120 ∷ 120 ∷ 120 ∷ 120 ∷ 120 ∷ 120 ∷ 120 ∷ 120 ∷ 120 ∷ 120 ∷ 120 ∷ 120 ∷ 120 ∷ 120 ∷ 120 ∷ 120 ∷ 120 ∷ 120 ∷ 120 ∷ 120 ∷ 120 ∷ 120 ∷ 120 ∷ 120 ∷ 120 ∷ 120 ∷ 120 ∷ 120 ∷ 120 ∷ 120 ∷ 120 ∷ 120 ∷ 120 ∷ 120 ∷ 120 ∷ 120 ∷ 120 ∷ 120 ∷ 120 ∷ 120 ∷ 120 ∷ 120 ∷ 120 ∷ 120 ∷ 120 ∷ 120 ∷ 120 ∷ 120 ∷ 120 ∷ 120 ∷ 120 ∷ 120 ∷ 120 ∷ 120 ∷ 120 ∷ 120 ∷ 120 ∷ 120 ∷ 120 ∷ 120 ∷ 120 ∷ 120 ∷ 120 ∷ 120 ∷ 120 ∷ 120 ∷ 120 ∷ 120 ∷ 120 ∷ 120 ∷ 120 ∷ 120 ∷ 120 ∷ 120 ∷ 120 ∷ 120 ∷ 120 ∷ 120 ∷ 120 ∷ 120 ∷ 120 ∷ 120 ∷ 120 ∷ 120 ∷ 120 ∷ 120 ∷ 120 ∷ 120 ∷ 120 ∷ 120 ∷ 120 ∷ 120 ∷ 120 ∷ 120 ∷ 120 ∷ 120 ∷ 120 ∷ 120 ∷ 120 ∷ 120 ∷ 120 ∷ 120 ∷ 120 ∷ 120 ∷ 120 ∷ 120 ∷ 120 ∷ 120 ∷ 120 ∷ 120 ∷ 120 ∷ 120 ∷ 120 ∷ 120 ∷ 120 ∷ 120 ∷ 120 ∷ 120 ∷ 120 ∷ 120 ∷ 120 ∷ 120 ∷ 120 ∷ 120 ∷ 120 ∷ 120 ∷ 120 ∷ 120 ∷ 120 ∷ 120 ∷ 120 ∷ 120 ∷ 120 ∷ 120 ∷ 120 ∷ 120 ∷ 120 ∷ 120 ∷ 120 ∷ 120 ∷ 120 ∷ 120 ∷ 120 ∷ 120 ∷ 120 ∷ 120 ∷ 120 ∷ 120 ∷ 120 ∷ 120 ∷ 120 ∷ 120 ∷ 120 ∷ 120 ∷ 120 ∷ 120 ∷ 120 ∷ 120 ∷ 120 ∷ 120 ∷ 120 ∷ 120 ∷ 120 ∷ 120 ∷ 120 ∷ 120 ∷ 120 ∷ 120 ∷ 120 ∷ 120 ∷ 120 ∷ 120 ∷ 120 ∷ 120 ∷ 120 ∷ 120 ∷ 120 ∷ 120 ∷ 120 ∷ 120 ∷ 120 ∷ 120 ∷ 120 ∷ 120 ∷ 120 ∷ 120 ∷ 120 ∷ 120 ∷ 120 ∷ 120 ∷ 120 ∷ 120 ∷ 120 ∷ 120 ∷ 120 ∷ 120 ∷ 120 ∷ 120 ∷ 120 ∷ 120 ∷ 120 ∷ 120 ∷ 120 ∷ 120 ∷ 120 ∷ 120 ∷ 120 ∷ 120 ∷ 120 ∷ 120 ∷ 120 ∷ 120 ∷ 120 ∷ 120 ∷ 120 ∷ 120 ∷ 120 ∷ 120 ∷ 120 ∷ 120 ∷ 120 ∷ 120 ∷ 120 ∷ 120 ∷ 120 ∷ 120 ∷ 120 ∷ 120 ∷ 120 ∷ 120 ∷ 120 ∷ 120 ∷ 120 ∷ 120 ∷ 120 ∷ 120 ∷ 120 ∷ 120 ∷ 120 ∷ 120 ∷ 120 ∷ 120 ∷ 120 ∷ 120 ∷ 120 ∷ 120 ∷ 120 ∷ 120 ∷ 120 ∷ 120 ∷ 120 ∷ 120 ∷ 120 ∷ 120 ∷ 120 ∷ 120 ∷ 120 ∷ 120 ∷ 120 ∷ 120 ∷ 120 ∷ 120 ∷ 120 ∷ 120 ∷ 120 ∷ 120 ∷ 120 ∷ 120 ∷ 120 ∷ 120 ∷ 120 ∷ 120 ∷ 120 ∷ 120 ∷ 120 ∷ 120 ∷ 120 ∷ 120 ∷ 120 ∷ 120 ∷ 120 ∷ 120 ∷ 120 ∷ 120 ∷ 120 ∷ 120 ∷ 120 ∷ 120 ∷ 120 ∷ 120 ∷ 120 ∷ 120 ∷ 120 ∷ 120 ∷ 120 ∷ 120 ∷ 120 ∷ 120 ∷ 120 ∷ 120 ∷ 120 ∷ 120 ∷ 120 ∷ 120 ∷ 120 ∷ 120 ∷ 120 ∷ 120 ∷ 120 ∷ 120 ∷ 120 ∷ 120 ∷ 120 ∷ 120 ∷ 120 ∷ 120 ∷ 120 ∷ 120 ∷ 120 ∷ 120 ∷ 120 ∷ 120 ∷ 120 ∷ 120 ∷ 120 ∷ 120 ∷ 120 ∷ 120 ∷ 120 ∷ 120 ∷ 120 ∷ 120 ∷ 120 ∷ 120 ∷ 120 ∷ 120 ∷ 120 ∷ 120 ∷ 120 ∷ 120 ∷ 120 ∷ 120 ∷ 120 ∷ 120 ∷ 120 ∷ 120 ∷ 120 ∷ 120 ∷ 120 ∷ 120 ∷ 120 ∷ 120 ∷ 120 ∷ 120 ∷ 120 ∷ 120 ∷ 120 ∷ 120 ∷ 120 ∷ 120 ∷ 120 ∷ 120 ∷ 120 ∷ 120 ∷ 120 ∷ 120 ∷ 120 ∷ 120 ∷ 120 ∷ 120 ∷ 120 ∷ 120 ∷ 120 ∷ []) false))
    ∷ ask (Heard (record { channel = 0; body = (Some (heard.Attach (record { name = (122 ∷ []); handle = 0; role = Receiver; snd_settle_mode = (Some 1); rcv_settle_mode = None; source = None; target = None; unsettled = None; incomplete_unsettled = None; initial_delivery_count = None; max_message_size = None; offered_capabilities = None; desired_capabilities = None; properties = None }))); payload = ([]) }))
    ∷ ask (Own (own.Attach (122 ∷ []) Sender 0 0 None None 5 0))
    ∷ ask (Heard (record { channel = 0; body = (Some (heard.Flow (record { next_incoming_id = (Some 0); incoming_window = 2048; next_outgoing_id = 1470323519; outgoing_window = 3; handle = (Some 1); delivery_count = (Some 1); link_credit = (Some 0); available = None; drain = None; echo = None; properties = None }))); payload = ([]) }))
    ∷ ask_windows
    ∷ ask_windows
    ∷ ask_link 0
    ∷ ask_link 1
    ∷ ask_link 2
    ∷ ask_link 3
    ∷ ask_link 4
    ∷ ask_held Sender
    ∷ ask_held Receiver ∷ [])
    ≡ (held ([]) ∷ held (record { id = 4294967295; link = 1; tag = (1 ∷ []); second = false; local = None; remote = None } ∷ []) ∷ link None ∷ link (Some (record { role = Sender; phase = phase.Offered; count = 0; credit = 0; drain = false; mid = false; ready = 0 })) ∷ link (Some (record { role = Receiver; phase = phase.Asked; count = 0; credit = 0; drain = false; mid = false; ready = 0 })) ∷ link (Some (record { role = Sender; phase = phase.Attached; count = 1; credit = 0; drain = false; mid = false; ready = 0 })) ∷ link None ∷ windows (record { next_in = (Some 1470323519); incoming = 2048; next_out = 0; remote_in = 2048; remote_out = 3; next_delivery = 0 }) ∷ windows (record { next_in = (Some 1470323519); incoming = 2048; next_out = 0; remote_in = 2048; remote_out = 3; next_delivery = 0 }) ∷ ok given.Nothing ([]) ([]) ∷ refused 9 ∷ ok (given.Offered 3) ([]) ([]) ∷ ok (given.Delivery 4294967295) ([]) ([] ∷ []) ∷ windows (record { next_in = (Some 1470323519); incoming = 2048; next_out = 4294967295; remote_in = 2048; remote_out = 0; next_delivery = 4294967295 }) ∷ ok (given.Link 2) ([]) ([] ∷ []) ∷ ok (given.Gone 0) ([]) ([] ∷ []) ∷ link (Some (record { role = Sender; phase = phase.Attached; count = 0; credit = 99; drain = false; mid = false; ready = 0 })) ∷ ok given.Nothing ([]) ([]) ∷ ok (given.Link 1) ([]) ([] ∷ []) ∷ ok given.Nothing ([]) ([]) ∷ ok (given.Offered 1) ([]) ([]) ∷ ok given.Nothing ([]) ([] ∷ []) ∷ ok (given.Attached 0) ([]) ([]) ∷ ok (given.Link 0) ([]) ([] ∷ []) ∷ ok given.Nothing ([]) ([]) ∷ ok given.Nothing ([]) ([] ∷ []) ∷ ok given.Nothing ([]) ([]) ∷ [])
unfolding octets_of frame_refused canon spelled class_of is_utf8 chars encode
random_082 = refl

random_089 : short_lines_of (record { first_id = 0; window = 2048; journal_limit = 1073741824 })
    (ask (Opened 65536)
    ∷ ask (Own own.Begin)
    ∷ ask (Heard (record { channel = 0; body = (Some (heard.Begin (record { remote_channel = None; next_outgoing_id = 2171175203; incoming_window = 2048; outgoing_window = 0; handle_max = None; offered_capabilities = None; desired_capabilities = None; properties = None }))); payload = ([]) }))
    ∷ ask (Heard (record { channel = 0; body = (Some (heard.Attach (record { name = (113 ∷ []); handle = 0; role = Sender; snd_settle_mode = None; rcv_settle_mode = None; source = None; target = None; unsettled = None; incomplete_unsettled = None; initial_delivery_count = (Some 5); max_message_size = (Some 18446744073709551615); offered_capabilities = None; desired_capabilities = None; properties = None }))); payload = ([]) }))
    ∷ ask (Own (own.Attach (113 ∷ []) Receiver 1 0 None None 0 1))
    ∷ ask (Own (own.Grant 0 100 true false))
    ∷ ask (Own (own.Attach (113 ∷ []) Sender 2 0 None None 4294967295 0))
    ∷ ask (Heard (record { channel = 0; body = (Some (heard.Attach (record { name = (113 ∷ []); handle = 1; role = Receiver; snd_settle_mode = None; rcv_settle_mode = (Some 0); source = None; target = None; unsettled = None; incomplete_unsettled = None; initial_delivery_count = None; max_message_size = (Some 0); offered_capabilities = None; desired_capabilities = None; properties = None }))); payload = ([]) }))
    ∷ ask (Heard (record { channel = 0; body = (Some (heard.Flow (record { next_incoming_id = (Some 0); incoming_window = 0; next_outgoing_id = 2171175203; outgoing_window = 2048; handle = (Some 1); delivery_count = (Some 4294967295); link_credit = None; available = None; drain = (Some false); echo = None; properties = None }))); payload = ([]) }))
    ∷ ask (Heard (record { channel = 0; body = (Some (heard.Attach (record { name = (122 ∷ []); handle = 2; role = Receiver; snd_settle_mode = (Some 1); rcv_settle_mode = (Some 0); source = None; target = None; unsettled = None; incomplete_unsettled = None; initial_delivery_count = None; max_message_size = None; offered_capabilities = None; desired_capabilities = None; properties = None }))); payload = ([]) }))
    ∷ ask (Own (own.Attach (122 ∷ []) Sender 1 0 None None 4294967295 18446744073709551615))
    ∷ ask (Heard (record { channel = 0; body = (Some (heard.Flow (record { next_incoming_id = (Some 0); incoming_window = 2048; next_outgoing_id = 0; outgoing_window = 3; handle = (Some 2); delivery_count = (Some 4294967295); link_credit = (Some 2); available = None; drain = (Some true); echo = None; properties = None }))); payload = ([]) }))
    ∷ ask (Heard (record { channel = 0; body = (Some (heard.Transfer (record { handle = 0; delivery_id = None; delivery_tag = (Some (251 ∷ 36 ∷ [])); message_format = None; settled = (Some false); more = (Some true); rcv_settle_mode = None; state = None; resume = None; aborted = None; batchable = None }))); payload = ([]) }))
    ∷ ask (Own (own.Start 1 (4 ∷ 5 ∷ []) 256 false (120 ∷ 120 ∷ 120 ∷ []) false))
    ∷ ask (Heard (record { channel = 0; body = (Some (heard.Detach (record { handle = 2; closed = None; error = None }))); payload = ([]) }))
    ∷ ask (Heard (record { channel = 0; body = (Some (heard.Attach (record { name = (113 ∷ []); handle = 2; role = Sender; snd_settle_mode = (Some 0); rcv_settle_mode = None; source = None; target = None; unsettled = None; incomplete_unsettled = None; initial_delivery_count = (Some 4294967294); max_message_size = None; offered_capabilities = None; desired_capabilities = None; properties = None }))); payload = ([]) }))
    ∷ ask (Heard (record { channel = 0; body = (Some (heard.Transfer (record { handle = 9; delivery_id = (Some 0); delivery_tag = (Some (3 ∷ 3 ∷ 3 ∷ 3 ∷ 3 ∷ 3 ∷ 3 ∷ 3 ∷ 3 ∷ 3 ∷ 3 ∷ 3 ∷ 3 ∷ 3 ∷ 3 ∷ 3 ∷ 3 ∷ 3 ∷ 3 ∷ 3 ∷ 3 ∷ 3 ∷ 3 ∷ 3 ∷ 3 ∷ 3 ∷ 3 ∷ 3 ∷ 3 ∷ 3 ∷ 3 ∷ 3 ∷ [])); message_format = None; settled = (Some false); more = None; rcv_settle_mode = None; state = None; resume = None; aborted = None; batchable = None }))); payload = ([]) }))
    ∷ ask (Heard (record { channel = 0; body = (Some (heard.Flow (record { next_incoming_id = (Some 0); incoming_window = 2048; next_outgoing_id = 0; outgoing_window = 0; handle = (Some 1); delivery_count = (Some 2147483647); link_credit = (Some 0); available = None; drain = None; echo = None; properties = None }))); payload = ([]) }))
    ∷ ask (Heard (record { channel = 0; body = (Some (heard.Transfer (record { handle = 0; delivery_id = (Some 4294967295); delivery_tag = (Some (146 ∷ 232 ∷ [])); message_format = None; settled = None; more = None; rcv_settle_mode = None; state = None; resume = None; aborted = None; batchable = None }))); payload = (120 ∷ 120 ∷ []) }))
    ∷ ask (Heard (record { channel = 0; body = (Some (heard.Flow (record { next_incoming_id = (Some 0); incoming_window = 2048; next_outgoing_id = 0; outgoing_window = 0; handle = (Some 0); delivery_count = (Some 5); link_credit = (Some 5); available = (Some 7); drain = None; echo = None; properties = None }))); payload = ([]) }))
    ∷ ask_link 0
    ∷ ask (Own (own.Grant 0 102 false false))
    ∷ ask (Heard (record { channel = 0; body = (Some (heard.Flow (record { next_incoming_id = (Some 0); incoming_window = 1; next_outgoing_id = 0; outgoing_window = 4294967295; handle = (Some 1); delivery_count = (Some 4294967293); link_credit = (Some 1); available = None; drain = (Some true); echo = (Some false); properties = None }))); payload = ([]) }))
    ∷ ask (Own (own.Offer 1 7))
    ∷ ask (Heard (record { channel = 0; body = (Some (heard.Transfer (record { handle = 0; delivery_id = (Some 17); delivery_tag = (Some (1 ∷ [])); message_format = (Some 1); settled = None; more = None; rcv_settle_mode = None; state = None; resume = None; aborted = None; batchable = None }))); payload = (120 ∷ 120 ∷ 120 ∷ 120 ∷ 120 ∷ []) }))
    ∷ ask (Heard (record { channel = 0; body = (Some (heard.Transfer (record { handle = 0; delivery_id = (Some 17); delivery_tag = (Some (3 ∷ 3 ∷ 3 ∷ 3 ∷ 3 ∷ 3 ∷ 3 ∷ 3 ∷ 3 ∷ 3 ∷ 3 ∷ 3 ∷ 3 ∷ 3 ∷ 3 ∷ 3 ∷ 3 ∷ 3 ∷ 3 ∷ 3 ∷ 3 ∷ 3 ∷ 3 ∷ 3 ∷ 3 ∷ 3 ∷ 3 ∷ 3 ∷ 3 ∷ 3 ∷ 3 ∷ 3 ∷ [])); message_format = None; settled = (Some true); more = (Some false); rcv_settle_mode = None; state = None; resume = None; aborted = None; batchable = None }))); payload = (120 ∷ 120 ∷ []) }))
    ∷ ask (Heard (record { channel = 0; body = (Some (heard.Transfer (record { handle = 0; delivery_id = (Some 4294967294); delivery_tag = (Some ([])); message_format = (Some 0); settled = (Some false); more = None; rcv_settle_mode = None; state = None; resume = None; aborted = None; batchable = None }))); payload = (120 ∷ 120 ∷ []) }))
    ∷ ask (Heard (record { channel = 0; body = (Some (heard.Transfer (record { handle = 0; delivery_id = (Some 4294967295); delivery_tag = (Some (145 ∷ 232 ∷ [])); message_format = None; settled = None; more = (Some false); rcv_settle_mode = None; state = None; resume = None; aborted = None; batchable = None }))); payload = (120 ∷ 120 ∷ 120 ∷ 120 ∷ 120 ∷ 120 ∷ 120 ∷ 120 ∷ []) }))
    ∷ ask (Heard (record { channel = 0; body = (Some (heard.Transfer (record { handle = 0; delivery_id = (Some 17); delivery_tag = (Some (172 ∷ 8 ∷ [])); message_format = (Some 1); settled = (Some true); more = None; rcv_settle_mode = (Some 0); state = None; resume = None; aborted = None; batchable = None }))); payload = ([]) }))
    ∷ ask (Heard (record { channel = 65535; body = (Some (heard.Attach (record { name = (97 ∷ 195 ∷ 169 ∷ []); handle = 4294967295; role = Receiver; snd_settle_mode = (Some 2); rcv_settle_mode = None; source = None; target = None; unsettled = None; incomplete_unsettled = None; initial_delivery_count = None; max_message_size = None; offered_capabilities = None; desired_capabilities = None; properties = None }))); payload = ([]) }))
    ∷ ask (Own (own.Attach (97 ∷ 195 ∷ 169 ∷ []) Sender 1 0 None None 0 1))
    ∷ ask (Heard (record { channel = 0; body = (Some (heard.Flow (record { next_incoming_id = (Some 0); incoming_window = 0; next_outgoing_id = 0; outgoing_window = 2048; handle = (Some 4294967295); delivery_count = (Some 0); link_credit = (Some 2147483648); available = None; drain = None; echo = (Some true); properties = None }))); payload = ([]) }))
    ∷ ask (Own (own.Start 1 (255 ∷ 225 ∷ []) 0 false (120 ∷ 120 ∷ 120 ∷ []) false))
    ∷ ask (Own (own.Attach (97 ∷ 195 ∷ 169 ∷ []) Sender 2 0 None None 2147483647 1))
    ∷ ask (Heard (record { channel = 65535; body = (Some (heard.Attach (record { name = (97 ∷ 195 ∷ 169 ∷ []); handle = 2; role = Receiver; snd_settle_mode = None; rcv_settle_mode = (Some 1); source = None; target = None; unsettled = None; incomplete_unsettled = None; initial_delivery_count = None; max_message_size = None; offered_capabilities = None; desired_capabilities = None; properties = None }))); payload = ([]) }))
    ∷ ask (Heard (record { channel = 0; body = (Some (heard.Flow (record { next_incoming_id = (Some 0); incoming_window = 3; next_outgoing_id = 0; outgoing_window = 0; handle = (Some 1); delivery_count = None; link_credit = (Some 3); available = None; drain = (Some true); echo = None; properties = None }))); payload = ([]) }))
    ∷ ask_windows
    ∷ ask_windows
    ∷ ask_link 0
    ∷ ask_link 1
    ∷ ask_link 2
    ∷ ask_link 3
    ∷ ask_link 4
    ∷ ask_held Sender
    ∷ ask_held Receiver ∷ [])
    ≡ (held ([]) ∷ held ([]) ∷ link None ∷ link (Some (record { role = Sender; phase = phase.Attached; count = 0; credit = 2147483648; drain = false; mid = false; ready = 0 })) ∷ link None ∷ link (Some (record { role = Sender; phase = phase.Attached; count = 4294967295; credit = 3; drain = true; mid = false; ready = 0 })) ∷ link (Some (record { role = Receiver; phase = phase.Attached; count = 6; credit = 99; drain = true; mid = false; ready = 1 })) ∷ windows (record { next_in = (Some 0); incoming = 2048; next_out = 0; remote_in = 3; remote_out = 0; next_delivery = 0 }) ∷ windows (record { next_in = (Some 0); incoming = 2048; next_out = 0; remote_in = 3; remote_out = 0; next_delivery = 0 }) ∷ ok given.Nothing ([]) ([]) ∷ violated 5 ∷ refused 8 ∷ refused 14 ∷ ok given.Nothing ([]) ([] ∷ []) ∷ ok (given.Link 3) ([]) ([] ∷ []) ∷ ok (given.Offered 3) ([]) ([]) ∷ ok (given.Ready 0 17) ([]) ([]) ∷ violated 13 ∷ violated 13 ∷ violated 13 ∷ violated 13 ∷ ok given.Nothing ([]) ([] ∷ []) ∷ ok given.Nothing ([]) ([]) ∷ refused 19 ∷ link (Some (record { role = Receiver; phase = phase.Attached; count = 5; credit = 100; drain = true; mid = false; ready = 0 })) ∷ ok given.Nothing ([]) ([]) ∷ violated 13 ∷ violated 6 ∷ violated 3 ∷ violated 5 ∷ ok (given.Parted 2 (record { name = (122 ∷ []); role = Sender; items = ([]) })) ([]) ([] ∷ []) ∷ refused 14 ∷ violated 8 ∷ ok given.Nothing ([]) ([]) ∷ ok (given.Link 2) ([]) ([] ∷ []) ∷ ok (given.Offered 2) ([]) ([]) ∷ ok given.Nothing ([]) ([]) ∷ ok (given.Attached 1) ([]) ([]) ∷ ok (given.Link 1) ([]) ([] ∷ []) ∷ ok given.Nothing ([]) ([] ∷ []) ∷ ok (given.Link 0) ([]) ([] ∷ []) ∷ ok (given.Offered 0) ([]) ([]) ∷ ok given.Nothing ([]) ([]) ∷ ok given.Nothing ([]) ([] ∷ []) ∷ ok given.Nothing ([]) ([]) ∷ [])
unfolding octets_of frame_refused canon spelled class_of is_utf8 chars encode
random_089 = refl

random_092 : short_lines_of (record { first_id = 0; window = 2048; journal_limit = 1073741824 })
    (ask (Opened 65536)
    ∷ ask (Heard (record { channel = 0; body = (Some (heard.Begin (record { remote_channel = (Some 0); next_outgoing_id = 0; incoming_window = 2048; outgoing_window = 2147483647; handle_max = None; offered_capabilities = None; desired_capabilities = None; properties = None }))); payload = ([]) }))
    ∷ ask (Own own.Begin)
    ∷ ask (Own (own.Attach (113 ∷ []) Sender 1 0 None None 0 300))
    ∷ ask (Heard (record { channel = 0; body = (Some (heard.Attach (record { name = (113 ∷ []); handle = 0; role = Receiver; snd_settle_mode = (Some 2); rcv_settle_mode = (Some 0); source = None; target = None; unsettled = None; incomplete_unsettled = None; initial_delivery_count = None; max_message_size = None; offered_capabilities = None; desired_capabilities = None; properties = None }))); payload = ([]) }))
    ∷ ask (Heard (record { channel = 0; body = (Some (heard.Flow (record { next_incoming_id = (Some 0); incoming_window = 4294967295; next_outgoing_id = 0; outgoing_window = 2048; handle = (Some 0); delivery_count = (Some 1); link_credit = None; available = None; drain = None; echo = None; properties = None }))); payload = ([]) }))
    ∷ ask (Own (own.Attach (122 ∷ []) Receiver 2 0 None None 4294967294 0))
    ∷ ask (Heard (record { channel = 0; body = (Some (heard.Flow (record { next_incoming_id = (Some 0); incoming_window = 4294967295; next_outgoing_id = 0; outgoing_window = 4294967295; handle = None; delivery_count = None; link_credit = None; available = None; drain = None; echo = None; properties = None }))); payload = ([]) }))
    ∷ ask (Heard (record { channel = 0; body = (Some (heard.Attach (record { name = (122 ∷ []); handle = 1; role = Sender; snd_settle_mode = (Some 2); rcv_settle_mode = None; source = None; target = None; unsettled = None; incomplete_unsettled = None; initial_delivery_count = (Some 2147483648); max_message_size = None; offered_capabilities = None; desired_capabilities = None; properties = None }))); payload = ([]) }))
    ∷ ask (Own (own.Grant 1 5 false false))
    ∷ ask (Own (own.Attach (122 ∷ []) Sender 2 0 None None 0 18446744073709551615))
    ∷ ask (Heard (record { channel = 0; body = (Some (heard.Attach (record { name = (122 ∷ []); handle = 2; role = Receiver; snd_settle_mode = None; rcv_settle_mode = None; source = None; target = None; unsettled = None; incomplete_unsettled = (Some true); initial_delivery_count = None; max_message_size = None; offered_capabilities = None; desired_capabilities = None; properties = None }))); payload = ([]) }))
    ∷ ask (Heard (record { channel = 0; body = (Some (heard.Flow (record { next_incoming_id = (Some 0); incoming_window = 2; next_outgoing_id = 0; outgoing_window = 0; handle = (Some 0); delivery_count = (Some 0); link_credit = (Some 0); available = None; drain = None; echo = None; properties = None }))); payload = ([]) }))
    ∷ ask (Own (own.Learn 1))
    ∷ ask (Heard (record { channel = 0; body = (Some (heard.Flow (record { next_incoming_id = (Some 0); incoming_window = 1; next_outgoing_id = 0; outgoing_window = 2048; handle = (Some 2); delivery_count = (Some 4294967295); link_credit = (Some 10); available = None; drain = (Some true); echo = (Some true); properties = None }))); payload = ([]) }))
    ∷ ask_held Sender
    ∷ ask (Heard (record { channel = 0; body = (Some (heard.Flow (record { next_incoming_id = (Some 0); incoming_window = 2048; next_outgoing_id = 0; outgoing_window = 0; handle = (Some 0); delivery_count = (Some 0); link_credit = (Some 4294967295); available = None; drain = (Some true); echo = None; properties = None }))); payload = ([]) }))
    ∷ ask (Heard (record { channel = 0; body = (Some (heard.Transfer (record { handle = 1; delivery_id = (Some 4294967295); delivery_tag = (Some (3 ∷ 3 ∷ 3 ∷ 3 ∷ 3 ∷ 3 ∷ 3 ∷ 3 ∷ 3 ∷ 3 ∷ 3 ∷ 3 ∷ 3 ∷ 3 ∷ 3 ∷ 3 ∷ 3 ∷ 3 ∷ 3 ∷ 3 ∷ 3 ∷ 3 ∷ 3 ∷ 3 ∷ 3 ∷ 3 ∷ 3 ∷ 3 ∷ 3 ∷ 3 ∷ 3 ∷ 3 ∷ [])); message_format = None; settled = None; more = (Some true); rcv_settle_mode = None; state = (Some (state.Received 0 3)); resume = None; aborted = None; batchable = None }))); payload = (120 ∷ []) }))
    ∷ ask_windows
    ∷ ask (Heard (record { channel = 0; body = (Some (heard.Transfer (record { handle = 1; delivery_id = (Some 4294967295); delivery_tag = (Some (119 ∷ [])); message_format = None; settled = None; more = (Some true); rcv_settle_mode = None; state = None; resume = None; aborted = None; batchable = None }))); payload = ([]) }))
    ∷ ask_windows
    ∷ ask (Heard (record { channel = 0; body = (Some (heard.Transfer (record { handle = 1; delivery_id = (Some 4294967295); delivery_tag = (Some (119 ∷ [])); message_format = None; settled = (Some true); more = (Some true); rcv_settle_mode = None; state = None; resume = None; aborted = None; batchable = None }))); payload = (120 ∷ []) }))
    ∷ ask_link 2
    ∷ ask (Own (own.Drained 2))
    ∷ ask (Heard (record { channel = 0; body = (Some (heard.Transfer (record { handle = 1; delivery_id = (Some 4294967295); delivery_tag = None; message_format = None; settled = None; more = (Some false); rcv_settle_mode = None; state = None; resume = None; aborted = None; batchable = None }))); payload = (120 ∷ 120 ∷ 120 ∷ []) }))
    ∷ ask (Own (own.Start 2 (93 ∷ 72 ∷ []) 255 false (120 ∷ []) false))
    ∷ ask_windows
    ∷ ask_link 0
    ∷ ask_link 1
    ∷ ask_link 2
    ∷ ask_link 3
    ∷ ask_held Sender
    ∷ ask_held Receiver ∷ [])
    ≡ (held ([]) ∷ held ([]) ∷ link None ∷ link (Some (record { role = Sender; phase = phase.Attached; count = 9; credit = 0; drain = false; mid = false; ready = 0 })) ∷ link (Some (record { role = Receiver; phase = phase.Attached; count = 2147483649; credit = 4; drain = false; mid = false; ready = 1 })) ∷ link (Some (record { role = Sender; phase = phase.Attached; count = 0; credit = 4294967295; drain = true; mid = false; ready = 0 })) ∷ windows (record { next_in = (Some 4); incoming = 2047; next_out = 0; remote_in = 2048; remote_out = 0; next_delivery = 0 }) ∷ refused 14 ∷ ok (given.Ready 1 4294967295) ([]) ([]) ∷ ok given.Nothing ([]) ([] ∷ []) ∷ link (Some (record { role = Sender; phase = phase.Attached; count = 0; credit = 9; drain = true; mid = false; ready = 0 })) ∷ ok given.Nothing ((Receiver, 4294967295) ∷ []) ([]) ∷ windows (record { next_in = (Some 2); incoming = 2046; next_out = 0; remote_in = 2048; remote_out = 0; next_delivery = 0 }) ∷ ok given.Nothing ([]) ([]) ∷ windows (record { next_in = (Some 1); incoming = 2047; next_out = 0; remote_in = 2048; remote_out = 0; next_delivery = 0 }) ∷ ok given.Nothing ([]) ([]) ∷ ok given.Nothing ([]) ([]) ∷ held ([]) ∷ ok given.Nothing ([]) ([] ∷ []) ∷ refused 7 ∷ ok given.Nothing ([]) ([]) ∷ ok (given.Attached 2) ([]) ([]) ∷ ok (given.Link 2) ([]) ([] ∷ []) ∷ ok given.Nothing ([]) ([] ∷ []) ∷ ok (given.Attached 1) ([]) ([]) ∷ ok given.Nothing ([]) ([]) ∷ ok (given.Link 1) ([]) ([] ∷ []) ∷ violated 6 ∷ ok (given.Attached 0) ([]) ([]) ∷ ok (given.Link 0) ([]) ([] ∷ []) ∷ ok given.Nothing ([]) ([] ∷ []) ∷ ok given.Nothing ([]) ([]) ∷ ok given.Nothing ([]) ([]) ∷ [])
unfolding octets_of frame_refused canon spelled class_of is_utf8 chars encode
random_092 = refl

random_097 : short_lines_of (record { first_id = 2147483646; window = 2048; journal_limit = 1073741824 })
    (ask (Opened 0)
    ∷ ask (Own own.Begin)
    ∷ ask (Heard (record { channel = 0; body = (Some (heard.Begin (record { remote_channel = (Some 0); next_outgoing_id = 1; incoming_window = 0; outgoing_window = 0; handle_max = None; offered_capabilities = None; desired_capabilities = None; properties = None }))); payload = ([]) }))
    ∷ ask (Own (own.Attach (121 ∷ []) Sender 2 0 None None 4294967294 1))
    ∷ ask (Heard (record { channel = 0; body = (Some (heard.Flow (record { next_incoming_id = (Some 2147483646); incoming_window = 1; next_outgoing_id = 4294967295; outgoing_window = 2048; handle = None; delivery_count = None; link_credit = None; available = None; drain = None; echo = (Some true); properties = None }))); payload = ([]) }))
    ∷ ask (Heard (record { channel = 0; body = (Some (heard.Attach (record { name = (121 ∷ []); handle = 0; role = Receiver; snd_settle_mode = (Some 1); rcv_settle_mode = (Some 0); source = None; target = None; unsettled = None; incomplete_unsettled = None; initial_delivery_count = None; max_message_size = None; offered_capabilities = None; desired_capabilities = None; properties = None }))); payload = ([]) }))
    ∷ ask (Heard (record { channel = 0; body = (Some (heard.Flow (record { next_incoming_id = (Some 2147483646); incoming_window = 2048; next_outgoing_id = 4294967295; outgoing_window = 0; handle = (Some 0); delivery_count = (Some 4294967294); link_credit = (Some 4294967295); available = None; drain = None; echo = None; properties = None }))); payload = ([]) }))
    ∷ ask (Heard (record { channel = 0; body = (Some (heard.Attach (record { name = (121 ∷ []); handle = 1; role = Sender; snd_settle_mode = (Some 0); rcv_settle_mode = (Some 0); source = None; target = None; unsettled = None; incomplete_unsettled = None; initial_delivery_count = (Some 4294967294); max_message_size = None; offered_capabilities = None; desired_capabilities = None; properties = None }))); payload = ([]) }))
    ∷ ask (Own (own.Grant 0 100 false false))
    ∷ ask (Own (own.Drained 0))
    ∷ ask (Heard (record { channel = 0; body = (Some (heard.Flow (record { next_incoming_id = None; incoming_window = 5; next_outgoing_id = 4294967295; outgoing_window = 4294967295; handle = (Some 0); delivery_count = None; link_credit = (Some 10); available = None; drain = None; echo = None; properties = None }))); payload = ([]) }))
    ∷ ask_link 7
    ∷ ask (Own (own.Start 0 (218 ∷ 51 ∷ []) 0 false (120 ∷ []) true))
    ∷ ask (Own (own.Carry 0 ([]) true))
    ∷ ask (Own (own.Dispose Sender 2147483646 2147483646 true (Some state.Accepted)))
    ∷ ask (Own (own.Offer 0 300))
    ∷ ask_held Receiver
    ∷ ask (Own (own.Carry 0 (120 ∷ []) true))
    ∷ ask_held Sender
    ∷ ask_windows
    ∷ ask_link 0
    ∷ ask_link 1
    ∷ ask_link 2
    ∷ ask_held Sender
    ∷ ask_held Receiver ∷ [])
    ≡ (held ([]) ∷ held ([]) ∷ link None ∷ link (Some (record { role = Receiver; phase = phase.Offered; count = 4294967294; credit = 0; drain = false; mid = false; ready = 0 })) ∷ link (Some (record { role = Sender; phase = phase.Attached; count = 4294967295; credit = 9; drain = false; mid = true; ready = 0 })) ∷ windows (record { next_in = (Some 4294967295); incoming = 2048; next_out = 2147483649; remote_in = 2; remote_out = 4294967295; next_delivery = 2147483647 }) ∷ held ([]) ∷ ok given.Nothing ([]) ([] ∷ []) ∷ held ([]) ∷ ok given.Nothing ([]) ([] ∷ []) ∷ ok given.Nothing ((Sender, 2147483646) ∷ []) ([] ∷ []) ∷ ok given.Nothing ([]) ([] ∷ []) ∷ ok (given.Delivery 2147483646) ([]) ([] ∷ []) ∷ link None ∷ ok given.Nothing ([]) ([]) ∷ refused 20 ∷ refused 7 ∷ ok (given.Offered 1) ([]) ([]) ∷ ok given.Nothing ([]) ([]) ∷ ok (given.Attached 0) ([]) ([]) ∷ ok given.Nothing ([]) ([] ∷ []) ∷ ok (given.Link 0) ([]) ([] ∷ []) ∷ ok given.Nothing ([]) ([]) ∷ ok given.Nothing ([]) ([] ∷ []) ∷ ok given.Nothing ([]) ([]) ∷ [])
unfolding octets_of frame_refused canon spelled class_of is_utf8 chars encode
random_097 = refl

random_103 : short_lines_of (record { first_id = 0; window = 2048; journal_limit = 1073741824 })
    (ask (Opened 600)
    ∷ ask (Own own.Begin)
    ∷ ask (Heard (record { channel = 0; body = (Some (heard.Begin (record { remote_channel = (Some 0); next_outgoing_id = 4294967295; incoming_window = 3; outgoing_window = 0; handle_max = (Some 0); offered_capabilities = None; desired_capabilities = None; properties = None }))); payload = ([]) }))
    ∷ ask (Own (own.Attach (121 ∷ []) Receiver 2 0 None None 0 1))
    ∷ ask (Heard (record { channel = 0; body = (Some (heard.Flow (record { next_incoming_id = (Some 0); incoming_window = 0; next_outgoing_id = 4294967295; outgoing_window = 2048; handle = None; delivery_count = None; link_credit = None; available = None; drain = None; echo = None; properties = None }))); payload = ([]) }))
    ∷ ask (Heard (record { channel = 0; body = (Some (heard.Attach (record { name = (121 ∷ []); handle = 0; role = Sender; snd_settle_mode = (Some 0); rcv_settle_mode = None; source = None; target = None; unsettled = None; incomplete_unsettled = None; initial_delivery_count = (Some 5); max_message_size = None; offered_capabilities = None; desired_capabilities = None; properties = None }))); payload = ([]) }))
    ∷ ask (Own (own.Grant 0 5 false false))
    ∷ ask (Heard (record { channel = 0; body = (Some (heard.Transfer (record { handle = 0; delivery_id = (Some 4294967294); delivery_tag = (Some (43 ∷ 216 ∷ [])); message_format = (Some 4294967295); settled = None; more = None; rcv_settle_mode = (Some 0); state = None; resume = None; aborted = None; batchable = None }))); payload = ([]) }))
    ∷ ask (Heard (record { channel = 0; body = (Some (heard.Transfer (record { handle = 0; delivery_id = (Some 4294967295); delivery_tag = (Some (1 ∷ [])); message_format = None; settled = (Some true); more = None; rcv_settle_mode = None; state = None; resume = None; aborted = None; batchable = None }))); payload = (120 ∷ 120 ∷ 120 ∷ []) }))
    ∷ ask (Heard (record { channel = 0; body = (Some (heard.Flow (record { next_incoming_id = (Some 0); incoming_window = 5; next_outgoing_id = 1; outgoing_window = 3; handle = (Some 0); delivery_count = (Some 4); link_credit = None; available = (Some 0); drain = None; echo = None; properties = None }))); payload = ([]) }))
    ∷ ask_link 0
    ∷ ask (Own (own.Attach (97 ∷ 195 ∷ 169 ∷ []) Receiver 2 0 None None 0 0))
    ∷ ask (Heard (record { channel = 0; body = (Some (heard.Transfer (record { handle = 0; delivery_id = (Some 4294967295); delivery_tag = (Some (210 ∷ 101 ∷ [])); message_format = None; settled = None; more = (Some true); rcv_settle_mode = None; state = None; resume = None; aborted = None; batchable = None }))); payload = (120 ∷ 120 ∷ 120 ∷ 120 ∷ 120 ∷ []) }))
    ∷ ask (Heard (record { channel = 0; body = (Some (heard.Transfer (record { handle = 0; delivery_id = (Some 4294967295); delivery_tag = (Some (56 ∷ 128 ∷ [])); message_format = (Some 1); settled = None; more = None; rcv_settle_mode = None; state = None; resume = None; aborted = None; batchable = None }))); payload = (120 ∷ []) }))
    ∷ ask_link 0
    ∷ ask (Heard (record { channel = 0; body = (Some (heard.Flow (record { next_incoming_id = (Some 0); incoming_window = 2048; next_outgoing_id = 2; outgoing_window = 2048; handle = (Some 0); delivery_count = (Some 6); link_credit = None; available = None; drain = None; echo = None; properties = None }))); payload = ([]) }))
    ∷ ask_link 0
    ∷ ask (Own (own.Dispose Receiver 4294967294 4294967295 false (Some state.Released)))
    ∷ ask (Heard (record { channel = 0; body = (Some (heard.Transfer (record { handle = 0; delivery_id = (Some 4294967295); delivery_tag = (Some (4 ∷ 5 ∷ [])); message_format = (Some 4294967295); settled = None; more = None; rcv_settle_mode = None; state = None; resume = None; aborted = None; batchable = None }))); payload = ([]) }))
    ∷ ask_link 0
    ∷ ask (Heard (record { channel = 0; body = (Some (heard.Transfer (record { handle = 0; delivery_id = (Some 0); delivery_tag = (Some (3 ∷ 3 ∷ 3 ∷ 3 ∷ 3 ∷ 3 ∷ 3 ∷ 3 ∷ 3 ∷ 3 ∷ 3 ∷ 3 ∷ 3 ∷ 3 ∷ 3 ∷ 3 ∷ 3 ∷ 3 ∷ 3 ∷ 3 ∷ 3 ∷ 3 ∷ 3 ∷ 3 ∷ 3 ∷ 3 ∷ 3 ∷ 3 ∷ 3 ∷ 3 ∷ 3 ∷ 3 ∷ [])); message_format = (Some 0); settled = None; more = None; rcv_settle_mode = None; state = None; resume = None; aborted = None; batchable = None }))); payload = (120 ∷ []) }))
    ∷ ask (Own (own.Attach (122 ∷ []) Sender 1 1 None None 0 0))
    ∷ ask (Own (own.Take 0))
    ∷ ask (Own (own.Detach 0 None))
    ∷ ask (Heard (record { channel = 0; body = (Some (heard.Detach (record { handle = 0; closed = (Some true); error = None }))); payload = ([]) }))
    ∷ ask (Own (own.Detach 7 None))
    ∷ ask_link 3
    ∷ ask (Heard (record { channel = 0; body = (Some (heard.Attach (record { name = (97 ∷ 195 ∷ 169 ∷ []); handle = 1; role = Receiver; snd_settle_mode = (Some 2); rcv_settle_mode = (Some 0); source = None; target = None; unsettled = None; incomplete_unsettled = None; initial_delivery_count = None; max_message_size = (Some 6); offered_capabilities = None; desired_capabilities = None; properties = None }))); payload = ([]) }))
    ∷ ask (Own (own.Attach (97 ∷ 195 ∷ 169 ∷ []) Sender 2 0 None None 0 1))
    ∷ ask (Heard (record { channel = 0; body = (Some (heard.Flow (record { next_incoming_id = (Some 0); incoming_window = 2048; next_outgoing_id = 4294967295; outgoing_window = 2147483647; handle = (Some 1); delivery_count = (Some 4294967294); link_credit = (Some 5); available = None; drain = (Some true); echo = (Some true); properties = None }))); payload = ([]) }))
    ∷ ask (Own (own.Refresh false))
    ∷ ask_windows
    ∷ ask (Own (own.Learn 1))
    ∷ ask (Heard (record { channel = 0; body = (Some (heard.Detach (record { handle = 1; closed = (Some false); error = None }))); payload = ([]) }))
    ∷ ask (Own (own.Attach (122 ∷ []) Sender 0 255 None None 2147483647 0))
    ∷ ask (Own (own.Attach (121 ∷ []) Receiver 0 1 None None 0 18446744073709551615))
    ∷ ask_windows
    ∷ ask_link 0
    ∷ ask_link 1
    ∷ ask_link 2
    ∷ ask_link 3
    ∷ ask_held Sender
    ∷ ask_held Receiver ∷ [])
    ≡ (held ([]) ∷ held ([]) ∷ link None ∷ link (Some (record { role = Receiver; phase = phase.Asked; count = 0; credit = 0; drain = false; mid = false; ready = 0 })) ∷ link None ∷ link None ∷ windows (record { next_in = (Some 4294967295); incoming = 2048; next_out = 0; remote_in = 2048; remote_out = 2147483647; next_delivery = 0 }) ∷ ok (given.Link 2) ([]) ([] ∷ []) ∷ refused 26 ∷ ok (given.Parted 1 (record { name = (97 ∷ 195 ∷ 169 ∷ []); role = Sender; items = ([]) })) ([]) ([] ∷ []) ∷ refused 25 ∷ windows (record { next_in = (Some 4294967295); incoming = 2048; next_out = 0; remote_in = 2048; remote_out = 2147483647; next_delivery = 0 }) ∷ ok given.Nothing ([]) ([] ∷ []) ∷ ok given.Nothing ([]) ([] ∷ []) ∷ ok (given.Link 1) ([]) ([] ∷ []) ∷ ok (given.Offered 1) ([]) ([]) ∷ link None ∷ refused 5 ∷ ok (given.Gone 0) ([]) ([]) ∷ ok given.Nothing ((Receiver, 4294967294) ∷ (Receiver, 4294967295) ∷ (Receiver, 0) ∷ []) ([] ∷ []) ∷ ok (given.Taken (record { id = 4294967294; link = 0; tag = (43 ∷ 216 ∷ []); format = 4294967295; payload = ([]); settled = false; second = false })) ([]) ([]) ∷ refused 9 ∷ ok (given.Ready 0 0) ([]) ([]) ∷ link (Some (record { role = Receiver; phase = phase.Attached; count = 7; credit = 3; drain = false; mid = false; ready = 2 })) ∷ violated 9 ∷ ok given.Nothing ([]) ([] ∷ []) ∷ link (Some (record { role = Receiver; phase = phase.Attached; count = 7; credit = 3; drain = false; mid = false; ready = 2 })) ∷ ok given.Nothing ([]) ([]) ∷ link (Some (record { role = Receiver; phase = phase.Attached; count = 7; credit = 3; drain = false; mid = false; ready = 2 })) ∷ ok (given.Ready 0 4294967295) ([]) ([]) ∷ violated 13 ∷ refused 9 ∷ link (Some (record { role = Receiver; phase = phase.Attached; count = 6; credit = 4; drain = false; mid = false; ready = 1 })) ∷ ok given.Nothing ([]) ([]) ∷ violated 11 ∷ ok (given.Ready 0 4294967294) ([]) ([]) ∷ ok given.Nothing ([]) ([] ∷ []) ∷ ok (given.Attached 0) ([]) ([]) ∷ ok given.Nothing ([]) ([]) ∷ ok (given.Link 0) ([]) ([] ∷ []) ∷ ok given.Nothing ([]) ([]) ∷ ok given.Nothing ([]) ([] ∷ []) ∷ ok given.Nothing ([]) ([]) ∷ [])
unfolding octets_of frame_refused canon spelled class_of is_utf8 chars encode
random_103 = refl

random_109 : short_lines_of (record { first_id = 0; window = 1; journal_limit = 1073741824 })
    (ask (Opened 1000)
    ∷ ask (Own own.Begin)
    ∷ ask (Heard (record { channel = 0; body = (Some (heard.Begin (record { remote_channel = (Some 7); next_outgoing_id = 4294967295; incoming_window = 4294967295; outgoing_window = 4294967295; handle_max = (Some 1); offered_capabilities = None; desired_capabilities = None; properties = None }))); payload = ([]) }))
    ∷ ask (Heard (record { channel = 0; body = (Some (heard.Flow (record { next_incoming_id = (Some 0); incoming_window = 2048; next_outgoing_id = 4294967295; outgoing_window = 4294967295; handle = None; delivery_count = None; link_credit = None; available = None; drain = None; echo = (Some true); properties = None }))); payload = ([]) }))
    ∷ ask_windows
    ∷ ask (Own (own.Refresh false))
    ∷ ask (Own (own.Attach (113 ∷ []) Sender 1 1 None None 2147483647 0))
    ∷ ask_link 0
    ∷ ask (Own (own.Attach (113 ∷ []) Receiver 2 0 None None 4294967294 4))
    ∷ ask (Heard (record { channel = 0; body = (Some (heard.Attach (record { name = (113 ∷ []); handle = 255; role = Sender; snd_settle_mode = None; rcv_settle_mode = (Some 1); source = None; target = None; unsettled = None; incomplete_unsettled = None; initial_delivery_count = (Some 4294967294); max_message_size = (Some 1); offered_capabilities = None; desired_capabilities = None; properties = None }))); payload = ([]) }))
    ∷ ask (Own (own.Attach (121 ∷ []) Receiver 2 1 None None 5 0))
    ∷ ask (Own (own.Grant 1 0 false false))
    ∷ ask (Own (own.Grant 1 0 false false))
    ∷ ask (Own (own.Detach 1 None))
    ∷ ask (Own (own.Attach (121 ∷ []) Receiver 0 0 None None 2147483647 0))
    ∷ ask (Heard (record { channel = 65535; body = (Some (heard.Attach (record { name = (121 ∷ []); handle = 0; role = Sender; snd_settle_mode = None; rcv_settle_mode = None; source = None; target = None; unsettled = None; incomplete_unsettled = None; initial_delivery_count = (Some 0); max_message_size = (Some 300); offered_capabilities = None; desired_capabilities = None; properties = None }))); payload = ([]) }))
    ∷ ask (Own (own.Grant 1 0 true false))
    ∷ ask (Own (own.Detach 7 None))
    ∷ ask (Heard (record { channel = 0; body = (Some (heard.Detach (record { handle = 255; closed = (Some true); error = None }))); payload = ([]) }))
    ∷ ask_link 0
    ∷ ask (Heard (record { channel = 0; body = (Some (heard.Attach (record { name = (113 ∷ []); handle = 1; role = Receiver; snd_settle_mode = None; rcv_settle_mode = None; source = None; target = None; unsettled = None; incomplete_unsettled = None; initial_delivery_count = None; max_message_size = (Some 0); offered_capabilities = None; desired_capabilities = None; properties = None }))); payload = ([]) }))
    ∷ ask_link 0
    ∷ ask (Heard (record { channel = 0; body = (Some (heard.Attach (record { name = (97 ∷ 195 ∷ 169 ∷ []); handle = 2; role = Sender; snd_settle_mode = None; rcv_settle_mode = None; source = None; target = None; unsettled = None; incomplete_unsettled = None; initial_delivery_count = (Some 5); max_message_size = None; offered_capabilities = None; desired_capabilities = None; properties = None }))); payload = ([]) }))
    ∷ ask (Own (own.Attach (97 ∷ 195 ∷ 169 ∷ []) Receiver 2 1 None None 4294967294 300))
    ∷ ask (Own (own.Grant 3 1 false false))
    ∷ ask_windows
    ∷ ask (Heard (record { channel = 0; body = (Some (heard.Flow (record { next_incoming_id = None; incoming_window = 2048; next_outgoing_id = 4294967295; outgoing_window = 2048; handle = (Some 1); delivery_count = (Some 2147483647); link_credit = None; available = None; drain = None; echo = None; properties = None }))); payload = ([]) }))
    ∷ ask_held Sender
    ∷ ask (Own (own.Take 0))
    ∷ ask_windows
    ∷ ask (Heard (record { channel = 0; body = (Some (heard.Transfer (record { handle = 2; delivery_id = (Some 2147483647); delivery_tag = (Some (80 ∷ 160 ∷ [])); message_format = (Some 4294967295); settled = (Some false); more = (Some false); rcv_settle_mode = None; state = None; resume = None; aborted = None; batchable = None }))); payload = (120 ∷ 120 ∷ 120 ∷ 120 ∷ 120 ∷ 120 ∷ 120 ∷ 120 ∷ 120 ∷ 120 ∷ 120 ∷ 120 ∷ 120 ∷ 120 ∷ 120 ∷ 120 ∷ 120 ∷ 120 ∷ 120 ∷ 120 ∷ 120 ∷ 120 ∷ 120 ∷ 120 ∷ 120 ∷ 120 ∷ 120 ∷ 120 ∷ 120 ∷ 120 ∷ 120 ∷ 120 ∷ 120 ∷ 120 ∷ 120 ∷ 120 ∷ 120 ∷ 120 ∷ 120 ∷ 120 ∷ 120 ∷ 120 ∷ 120 ∷ 120 ∷ 120 ∷ 120 ∷ 120 ∷ 120 ∷ 120 ∷ 120 ∷ 120 ∷ 120 ∷ 120 ∷ 120 ∷ 120 ∷ 120 ∷ 120 ∷ 120 ∷ 120 ∷ 120 ∷ 120 ∷ 120 ∷ 120 ∷ 120 ∷ 120 ∷ 120 ∷ 120 ∷ 120 ∷ 120 ∷ 120 ∷ 120 ∷ 120 ∷ 120 ∷ 120 ∷ 120 ∷ 120 ∷ 120 ∷ 120 ∷ 120 ∷ 120 ∷ 120 ∷ 120 ∷ 120 ∷ 120 ∷ 120 ∷ 120 ∷ 120 ∷ 120 ∷ 120 ∷ 120 ∷ 120 ∷ 120 ∷ 120 ∷ 120 ∷ 120 ∷ 120 ∷ 120 ∷ 120 ∷ 120 ∷ 120 ∷ 120 ∷ 120 ∷ 120 ∷ 120 ∷ 120 ∷ 120 ∷ 120 ∷ 120 ∷ 120 ∷ 120 ∷ 120 ∷ 120 ∷ 120 ∷ 120 ∷ 120 ∷ 120 ∷ 120 ∷ 120 ∷ 120 ∷ 120 ∷ 120 ∷ 120 ∷ 120 ∷ 120 ∷ 120 ∷ 120 ∷ 120 ∷ 120 ∷ 120 ∷ 120 ∷ 120 ∷ 120 ∷ 120 ∷ 120 ∷ 120 ∷ 120 ∷ 120 ∷ 120 ∷ 120 ∷ 120 ∷ 120 ∷ 120 ∷ 120 ∷ 120 ∷ 120 ∷ 120 ∷ 120 ∷ 120 ∷ 120 ∷ 120 ∷ 120 ∷ 120 ∷ 120 ∷ 120 ∷ 120 ∷ 120 ∷ 120 ∷ 120 ∷ 120 ∷ 120 ∷ 120 ∷ 120 ∷ 120 ∷ 120 ∷ 120 ∷ 120 ∷ 120 ∷ 120 ∷ 120 ∷ 120 ∷ 120 ∷ 120 ∷ 120 ∷ 120 ∷ 120 ∷ 120 ∷ 120 ∷ 120 ∷ 120 ∷ 120 ∷ 120 ∷ 120 ∷ 120 ∷ 120 ∷ 120 ∷ 120 ∷ 120 ∷ 120 ∷ 120 ∷ 120 ∷ 120 ∷ 120 ∷ 120 ∷ 120 ∷ 120 ∷ 120 ∷ 120 ∷ 120 ∷ 120 ∷ 120 ∷ 120 ∷ 120 ∷ 120 ∷ 120 ∷ 120 ∷ 120 ∷ 120 ∷ 120 ∷ 120 ∷ 120 ∷ 120 ∷ 120 ∷ 120 ∷ 120 ∷ 120 ∷ 120 ∷ 120 ∷ 120 ∷ 120 ∷ 120 ∷ 120 ∷ 120 ∷ 120 ∷ 120 ∷ 120 ∷ 120 ∷ 120 ∷ 120 ∷ 120 ∷ 120 ∷ 120 ∷ 120 ∷ 120 ∷ 120 ∷ 120 ∷ 120 ∷ 120 ∷ 120 ∷ 120 ∷ 120 ∷ 120 ∷ 120 ∷ 120 ∷ 120 ∷ 120 ∷ 120 ∷ 120 ∷ 120 ∷ 120 ∷ 120 ∷ 120 ∷ 120 ∷ 120 ∷ 120 ∷ 120 ∷ 120 ∷ 120 ∷ 120 ∷ 120 ∷ 120 ∷ 120 ∷ 120 ∷ 120 ∷ 120 ∷ 120 ∷ 120 ∷ 120 ∷ 120 ∷ 120 ∷ 120 ∷ 120 ∷ 120 ∷ 120 ∷ 120 ∷ 120 ∷ 120 ∷ 120 ∷ 120 ∷ 120 ∷ 120 ∷ 120 ∷ 120 ∷ 120 ∷ 120 ∷ 120 ∷ 120 ∷ 120 ∷ 120 ∷ 120 ∷ 120 ∷ 120 ∷ 120 ∷ 120 ∷ 120 ∷ 120 ∷ 120 ∷ 120 ∷ 120 ∷ 120 ∷ 120 ∷ 120 ∷ 120 ∷ 120 ∷ 120 ∷ 120 ∷ 120 ∷ 120 ∷ 120 ∷ 120 ∷ 120 ∷ 120 ∷ 120 ∷ 120 ∷ 120 ∷ 120 ∷ 120 ∷ 120 ∷ 120 ∷ 120 ∷ 120 ∷ 120 ∷ 120 ∷ 120 ∷ 120 ∷ 120 ∷ 120 ∷ 120 ∷ 120 ∷ 120 ∷ 120 ∷ 120 ∷ 120 ∷ 120 ∷ 120 ∷ 120 ∷ 120 ∷ 120 ∷ 120 ∷ 120 ∷ 120 ∷ 120 ∷ 120 ∷ 120 ∷ 120 ∷ 120 ∷ 120 ∷ 120 ∷ 120 ∷ 120 ∷ 120 ∷ 120 ∷ 120 ∷ 120 ∷ 120 ∷ 120 ∷ 120 ∷ 120 ∷ 120 ∷ 120 ∷ 120 ∷ 120 ∷ 120 ∷ 120 ∷ 120 ∷ 120 ∷ 120 ∷ 120 ∷ 120 ∷ 120 ∷ 120 ∷ 120 ∷ 120 ∷ 120 ∷ 120 ∷ 120 ∷ 120 ∷ 120 ∷ 120 ∷ 120 ∷ 120 ∷ 120 ∷ 120 ∷ 120 ∷ 120 ∷ 120 ∷ 120 ∷ 120 ∷ 120 ∷ 120 ∷ 120 ∷ 120 ∷ 120 ∷ 120 ∷ 120 ∷ 120 ∷ 120 ∷ 120 ∷ 120 ∷ 120 ∷ 120 ∷ 120 ∷ 120 ∷ 120 ∷ 120 ∷ 120 ∷ 120 ∷ 120 ∷ 120 ∷ 120 ∷ 120 ∷ 120 ∷ 120 ∷ 120 ∷ 120 ∷ 120 ∷ 120 ∷ 120 ∷ 120 ∷ 120 ∷ 120 ∷ 120 ∷ 120 ∷ 120 ∷ 120 ∷ 120 ∷ 120 ∷ 120 ∷ 120 ∷ 120 ∷ 120 ∷ 120 ∷ 120 ∷ 120 ∷ 120 ∷ 120 ∷ 120 ∷ 120 ∷ 120 ∷ 120 ∷ 120 ∷ 120 ∷ 120 ∷ 120 ∷ 120 ∷ 120 ∷ 120 ∷ 120 ∷ 120 ∷ 120 ∷ 120 ∷ 120 ∷ 120 ∷ 120 ∷ 120 ∷ 120 ∷ 120 ∷ 120 ∷ 120 ∷ 120 ∷ 120 ∷ 120 ∷ 120 ∷ 120 ∷ 120 ∷ 120 ∷ 120 ∷ 120 ∷ 120 ∷ 120 ∷ 120 ∷ 120 ∷ 120 ∷ 120 ∷ 120 ∷ 120 ∷ 120 ∷ 120 ∷ 120 ∷ 120 ∷ 120 ∷ 120 ∷ 120 ∷ 120 ∷ 120 ∷ 120 ∷ 120 ∷ 120 ∷ 120 ∷ 120 ∷ 120 ∷ 120 ∷ 120 ∷ 120 ∷ 120 ∷ 120 ∷ []) }))
    ∷ ask (Heard (record { channel = 0; body = (Some (heard.Transfer (record { handle = 2; delivery_id = (Some 2147483647); delivery_tag = (Some ([])); message_format = (Some 0); settled = (Some false); more = (Some true); rcv_settle_mode = None; state = None; resume = None; aborted = None; batchable = None }))); payload = (120 ∷ []) }))
    ∷ ask (Heard (record { channel = 0; body = (Some (heard.Attach (record { name = (121 ∷ []); handle = 3; role = Sender; snd_settle_mode = (Some 2); rcv_settle_mode = (Some 0); source = None; target = None; unsettled = None; incomplete_unsettled = None; initial_delivery_count = (Some 0); max_message_size = None; offered_capabilities = None; desired_capabilities = None; properties = None }))); payload = ([]) }))
    ∷ ask_windows
    ∷ ask_link 0
    ∷ ask_link 1
    ∷ ask_link 2
    ∷ ask_link 3
    ∷ ask_link 4
    ∷ ask_held Sender
    ∷ ask_held Receiver ∷ [])
    ≡ (held (record { id = 2147483647; link = 3; tag = ([]); second = true; local = None; remote = None } ∷ []) ∷ held ([]) ∷ link None ∷ link (Some (record { role = Receiver; phase = phase.Attached; count = 6; credit = 0; drain = false; mid = true; ready = 0 })) ∷ link (Some (record { role = Receiver; phase = phase.Offered; count = 0; credit = 0; drain = false; mid = false; ready = 0 })) ∷ link None ∷ link (Some (record { role = Sender; phase = phase.Attached; count = 2147483647; credit = 0; drain = false; mid = false; ready = 0 })) ∷ windows (record { next_in = (Some 0); incoming = 0; next_out = 0; remote_in = 2048; remote_out = 2047; next_delivery = 0 }) ∷ violated 5 ∷ ok given.Nothing ([]) ([]) ∷ violated 13 ∷ windows (record { next_in = (Some 4294967295); incoming = 1; next_out = 0; remote_in = 2048; remote_out = 2048; next_delivery = 0 }) ∷ refused 7 ∷ held ([]) ∷ ok given.Nothing ([]) ([]) ∷ windows (record { next_in = (Some 4294967295); incoming = 1; next_out = 0; remote_in = 2048; remote_out = 4294967295; next_delivery = 0 }) ∷ ok given.Nothing ([]) ([] ∷ []) ∷ ok (given.Link 3) ([]) ([] ∷ []) ∷ ok (given.Offered 3) ([]) ([]) ∷ link (Some (record { role = Sender; phase = phase.Attached; count = 2147483647; credit = 0; drain = false; mid = false; ready = 0 })) ∷ ok (given.Attached 0) ([]) ([]) ∷ link (Some (record { role = Sender; phase = phase.Asked; count = 2147483647; credit = 0; drain = false; mid = false; ready = 0 })) ∷ ok (given.Gone 1) ([]) ([]) ∷ refused 5 ∷ refused 6 ∷ ok (given.Offered 2) ([]) ([]) ∷ refused 9 ∷ ok given.Nothing ([]) ([] ∷ []) ∷ ok given.Nothing ([]) ([] ∷ []) ∷ ok given.Nothing ([]) ([] ∷ []) ∷ refused 9 ∷ ok (given.Attached 1) ([]) ([]) ∷ ok (given.Link 1) ([]) ([] ∷ []) ∷ link (Some (record { role = Sender; phase = phase.Asked; count = 2147483647; credit = 0; drain = false; mid = false; ready = 0 })) ∷ ok (given.Link 0) ([]) ([] ∷ []) ∷ ok given.Nothing ([]) ([] ∷ []) ∷ windows (record { next_in = (Some 4294967295); incoming = 1; next_out = 0; remote_in = 2048; remote_out = 4294967295; next_delivery = 0 }) ∷ ok given.Nothing ([]) ([] ∷ []) ∷ ok given.Nothing ([]) ([]) ∷ ok given.Nothing ([]) ([] ∷ []) ∷ ok given.Nothing ([]) ([]) ∷ [])
unfolding octets_of frame_refused canon spelled class_of is_utf8 chars encode
random_109 = refl

random_111 : short_lines_of (record { first_id = 0; window = 2048; journal_limit = 1073741824 })
    (ask (Opened 0)
    ∷ ask (Heard (record { channel = 0; body = (Some (heard.Begin (record { remote_channel = (Some 7); next_outgoing_id = 4294967295; incoming_window = 2048; outgoing_window = 2147483647; handle_max = (Some 1); offered_capabilities = None; desired_capabilities = None; properties = None }))); payload = ([]) }))
    ∷ ask (Own own.Begin)
    ∷ ask (Own (own.Attach (122 ∷ []) Sender 2 1 None None 2147483647 0))
    ∷ ask (Heard (record { channel = 0; body = (Some (heard.Attach (record { name = (122 ∷ []); handle = 5; role = Receiver; snd_settle_mode = None; rcv_settle_mode = (Some 0); source = None; target = None; unsettled = None; incomplete_unsettled = None; initial_delivery_count = (Some 0); max_message_size = None; offered_capabilities = None; desired_capabilities = None; properties = None }))); payload = ([]) }))
    ∷ ask (Heard (record { channel = 0; body = (Some (heard.Flow (record { next_incoming_id = (Some 0); incoming_window = 2048; next_outgoing_id = 4294967295; outgoing_window = 2147483647; handle = (Some 5); delivery_count = (Some 2147483647); link_credit = (Some 1); available = None; drain = (Some true); echo = None; properties = None }))); payload = ([]) }))
    ∷ ask (Heard (record { channel = 0; body = (Some (heard.Attach (record { name = (113 ∷ []); handle = 0; role = Sender; snd_settle_mode = None; rcv_settle_mode = (Some 0); source = None; target = None; unsettled = None; incomplete_unsettled = None; initial_delivery_count = (Some 4294967295); max_message_size = (Some 6); offered_capabilities = None; desired_capabilities = None; properties = None }))); payload = ([]) }))
    ∷ ask (Heard (record { channel = 0; body = (Some (heard.Flow (record { next_incoming_id = (Some 0); incoming_window = 3; next_outgoing_id = 4294967295; outgoing_window = 0; handle = (Some 0); delivery_count = (Some 4294967295); link_credit = None; available = (Some 7); drain = None; echo = None; properties = None }))); payload = ([]) }))
    ∷ ask (Own (own.Attach (113 ∷ []) Receiver 2 1 None None 4294967294 0))
    ∷ ask (Own (own.Grant 1 1 false true))
    ∷ ask (Heard (record { channel = 0; body = (Some (heard.Transfer (record { handle = 0; delivery_id = (Some 0); delivery_tag = (Some (3 ∷ 3 ∷ 3 ∷ 3 ∷ 3 ∷ 3 ∷ 3 ∷ 3 ∷ 3 ∷ 3 ∷ 3 ∷ 3 ∷ 3 ∷ 3 ∷ 3 ∷ 3 ∷ 3 ∷ 3 ∷ 3 ∷ 3 ∷ 3 ∷ 3 ∷ 3 ∷ 3 ∷ 3 ∷ 3 ∷ 3 ∷ 3 ∷ 3 ∷ 3 ∷ 3 ∷ 3 ∷ [])); message_format = None; settled = (Some true); more = (Some true); rcv_settle_mode = None; state = None; resume = None; aborted = None; batchable = None }))); payload = ([]) }))
    ∷ ask_link 1
    ∷ ask (Heard (record { channel = 0; body = (Some (heard.Detach (record { handle = 5; closed = (Some true); error = None }))); payload = ([]) }))
    ∷ ask (Own own.Begin)
    ∷ ask (Heard (record { channel = 0; body = (Some (heard.Attach (record { name = (113 ∷ []); handle = 1; role = Sender; snd_settle_mode = None; rcv_settle_mode = (Some 0); source = None; target = None; unsettled = None; incomplete_unsettled = None; initial_delivery_count = (Some 4294967295); max_message_size = None; offered_capabilities = None; desired_capabilities = None; properties = None }))); payload = ([]) }))
    ∷ ask_windows
    ∷ ask (Own (own.Refresh false))
    ∷ ask (Own (own.Grant 1 2 true false))
    ∷ ask (Own (own.Attach (97 ∷ 195 ∷ 169 ∷ []) Receiver 2 0 None None 5 0))
    ∷ ask (Heard (record { channel = 0; body = (Some (heard.Attach (record { name = (97 ∷ 195 ∷ 169 ∷ []); handle = 1; role = Sender; snd_settle_mode = (Some 2); rcv_settle_mode = (Some 0); source = None; target = None; unsettled = None; incomplete_unsettled = None; initial_delivery_count = (Some 2147483648); max_message_size = None; offered_capabilities = None; desired_capabilities = None; properties = None }))); payload = ([]) }))
    ∷ ask (Own (own.Grant 1 0 false false))
    ∷ ask (Own (own.Grant 1 4 false false))
    ∷ ask (Heard (record { channel = 0; body = (Some (heard.Transfer (record { handle = 0; delivery_id = None; delivery_tag = None; message_format = None; settled = (Some true); more = None; rcv_settle_mode = None; state = None; resume = None; aborted = None; batchable = None }))); payload = ([]) }))
    ∷ ask_link 2
    ∷ ask (Heard (record { channel = 0; body = (Some (heard.Transfer (record { handle = 0; delivery_id = (Some 0); delivery_tag = (Some (223 ∷ 218 ∷ [])); message_format = (Some 0); settled = None; more = (Some true); rcv_settle_mode = None; state = None; resume = None; aborted = None; batchable = None }))); payload = ([]) }))
    ∷ ask (Own (own.Take 1))
    ∷ ask (Own (own.Attach (113 ∷ []) Receiver 0 1 None None 5 0))
    ∷ ask (Heard (record { channel = 0; body = (Some (heard.Attach (record { name = (113 ∷ []); handle = 255; role = Sender; snd_settle_mode = None; rcv_settle_mode = (Some 0); source = None; target = None; unsettled = None; incomplete_unsettled = None; initial_delivery_count = (Some 5); max_message_size = None; offered_capabilities = None; desired_capabilities = None; properties = None }))); payload = ([]) }))
    ∷ ask (Own (own.Grant 2 5 false false))
    ∷ ask_held Sender
    ∷ ask_windows
    ∷ ask_link 0
    ∷ ask_link 1
    ∷ ask_link 2
    ∷ ask_link 3
    ∷ ask_held Sender
    ∷ ask_held Receiver ∷ [])
    ≡ (held ([]) ∷ held ([]) ∷ link None ∷ link (Some (record { role = Receiver; phase = phase.Attached; count = 2147483648; credit = 5; drain = false; mid = false; ready = 0 })) ∷ link (Some (record { role = Receiver; phase = phase.Attached; count = 0; credit = 2; drain = true; mid = false; ready = 0 })) ∷ link None ∷ windows (record { next_in = (Some 1); incoming = 2048; next_out = 0; remote_in = 3; remote_out = 0; next_delivery = 0 }) ∷ held ([]) ∷ ok given.Nothing ([]) ([] ∷ []) ∷ violated 5 ∷ refused 8 ∷ ok (given.Taken (record { id = 0; link = 1; tag = (3 ∷ 3 ∷ 3 ∷ 3 ∷ 3 ∷ 3 ∷ 3 ∷ 3 ∷ 3 ∷ 3 ∷ 3 ∷ 3 ∷ 3 ∷ 3 ∷ 3 ∷ 3 ∷ 3 ∷ 3 ∷ 3 ∷ 3 ∷ 3 ∷ 3 ∷ 3 ∷ 3 ∷ 3 ∷ 3 ∷ 3 ∷ 3 ∷ 3 ∷ 3 ∷ 3 ∷ 3 ∷ []); format = 0; payload = ([]); settled = true; second = true })) ([]) ([]) ∷ violated 9 ∷ link (Some (record { role = Receiver; phase = phase.Attached; count = 2147483648; credit = 0; drain = false; mid = false; ready = 0 })) ∷ ok (given.Ready 1 0) ([]) ([]) ∷ refused 19 ∷ refused 18 ∷ ok (given.Attached 2) ([]) ([]) ∷ ok (given.Link 2) ([]) ([] ∷ []) ∷ ok given.Nothing ([]) ([] ∷ []) ∷ ok given.Nothing ([]) ([] ∷ []) ∷ windows (record { next_in = (Some 0); incoming = 2047; next_out = 0; remote_in = 3; remote_out = 0; next_delivery = 0 }) ∷ violated 5 ∷ refused 3 ∷ ok (given.Gone 0) ([]) ([] ∷ []) ∷ link (Some (record { role = Receiver; phase = phase.Attached; count = 0; credit = 0; drain = false; mid = true; ready = 0 })) ∷ ok given.Nothing ([]) ([]) ∷ ok given.Nothing ([]) ([] ∷ []) ∷ ok (given.Link 1) ([]) ([] ∷ []) ∷ ok given.Nothing ([]) ([]) ∷ ok (given.Offered 1) ([]) ([]) ∷ ok given.Nothing ([]) ([]) ∷ ok (given.Attached 0) ([]) ([]) ∷ ok (given.Link 0) ([]) ([] ∷ []) ∷ ok given.Nothing ([]) ([] ∷ []) ∷ ok given.Nothing ([]) ([]) ∷ ok given.Nothing ([]) ([]) ∷ [])
unfolding octets_of frame_refused canon spelled class_of is_utf8 chars encode
random_111 = refl

random_113 : short_lines_of (record { first_id = 0; window = 2048; journal_limit = 1073741824 })
    (ask (Opened 65536)
    ∷ ask (Heard (record { channel = 0; body = (Some (heard.Begin (record { remote_channel = (Some 0); next_outgoing_id = 1; incoming_window = 4294967295; outgoing_window = 2; handle_max = (Some 255); offered_capabilities = None; desired_capabilities = None; properties = None }))); payload = ([]) }))
    ∷ ask (Own own.Begin)
    ∷ ask (Heard (record { channel = 0; body = (Some (heard.Attach (record { name = (122 ∷ []); handle = 0; role = Receiver; snd_settle_mode = None; rcv_settle_mode = (Some 0); source = None; target = None; unsettled = None; incomplete_unsettled = None; initial_delivery_count = None; max_message_size = None; offered_capabilities = None; desired_capabilities = None; properties = None }))); payload = ([]) }))
    ∷ ask (Own (own.Attach (122 ∷ []) Sender 1 0 None None 0 6))
    ∷ ask (Heard (record { channel = 0; body = (Some (heard.Flow (record { next_incoming_id = None; incoming_window = 2048; next_outgoing_id = 1; outgoing_window = 4294967295; handle = (Some 0); delivery_count = (Some 0); link_credit = (Some 2147483648); available = None; drain = (Some true); echo = None; properties = None }))); payload = ([]) }))
    ∷ ask (Own (own.Attach (97 ∷ 195 ∷ 169 ∷ []) Sender 2 1 None None 4294967294 4))
    ∷ ask (Heard (record { channel = 0; body = (Some (heard.Attach (record { name = (97 ∷ 195 ∷ 169 ∷ []); handle = 1; role = Receiver; snd_settle_mode = None; rcv_settle_mode = None; source = None; target = None; unsettled = None; incomplete_unsettled = None; initial_delivery_count = None; max_message_size = None; offered_capabilities = None; desired_capabilities = None; properties = None }))); payload = ([]) }))
    ∷ ask (Heard (record { channel = 0; body = (Some (heard.Flow (record { next_incoming_id = (Some 0); incoming_window = 2048; next_outgoing_id = 1; outgoing_window = 4294967295; handle = (Some 0); delivery_count = None; link_credit = None; available = None; drain = None; echo = None; properties = None }))); payload = ([]) }))
    ∷ ask (Own (own.Start 0 (1 ∷ []) 255 true (120 ∷ 120 ∷ 120 ∷ 120 ∷ 120 ∷ 120 ∷ 120 ∷ 120 ∷ []) true))
    ∷ ask (Own (own.Start 0 (3 ∷ 3 ∷ 3 ∷ 3 ∷ 3 ∷ 3 ∷ 3 ∷ 3 ∷ 3 ∷ 3 ∷ 3 ∷ 3 ∷ 3 ∷ 3 ∷ 3 ∷ 3 ∷ 3 ∷ 3 ∷ 3 ∷ 3 ∷ 3 ∷ 3 ∷ 3 ∷ 3 ∷ 3 ∷ 3 ∷ 3 ∷ 3 ∷ 3 ∷ 3 ∷ 3 ∷ 3 ∷ []) 0 false (120 ∷ 120 ∷ 120 ∷ 120 ∷ 120 ∷ []) true))
    ∷ ask (Heard (record { channel = 0; body = (Some (heard.Attach (record { name = (97 ∷ 195 ∷ 169 ∷ []); handle = 2; role = Sender; snd_settle_mode = (Some 0); rcv_settle_mode = (Some 1); source = None; target = None; unsettled = None; incomplete_unsettled = None; initial_delivery_count = (Some 0); max_message_size = None; offered_capabilities = None; desired_capabilities = None; properties = None }))); payload = ([]) }))
    ∷ ask (Own (own.Carry 0 (120 ∷ 120 ∷ 120 ∷ 120 ∷ 120 ∷ []) true))
    ∷ ask_link 0
    ∷ ask (Own (own.Learn 0))
    ∷ ask (Heard (record { channel = 0; body = (Some (heard.Flow (record { next_incoming_id = (Some 2); incoming_window = 2048; next_outgoing_id = 1; outgoing_window = 2048; handle = (Some 0); delivery_count = (Some 1); link_credit = None; available = None; drain = (Some false); echo = None; properties = None }))); payload = ([]) }))
    ∷ ask (Own (own.Start 0 (172 ∷ 163 ∷ []) 256 true (120 ∷ 120 ∷ []) true))
    ∷ ask_link 2
    ∷ ask (Own (own.Start 0 (3 ∷ 37 ∷ []) 255 true ([]) false))
    ∷ ask (Heard (record { channel = 0; body = (Some (heard.Flow (record { next_incoming_id = (Some 2); incoming_window = 2; next_outgoing_id = 1; outgoing_window = 0; handle = (Some 0); delivery_count = (Some 1); link_credit = (Some 2); available = None; drain = None; echo = None; properties = None }))); payload = ([]) }))
    ∷ ask (Heard (record { channel = 0; body = (Some (heard.Attach (record { name = (122 ∷ []); handle = 4; role = Sender; snd_settle_mode = None; rcv_settle_mode = None; source = None; target = None; unsettled = None; incomplete_unsettled = None; initial_delivery_count = (Some 0); max_message_size = None; offered_capabilities = None; desired_capabilities = None; properties = None }))); payload = ([]) }))
    ∷ ask_held Receiver
    ∷ ask (Heard (record { channel = 0; body = (Some (heard.Disposition (record { role = Sender; first = 4294967295; last = (Some 4294967295); settled = (Some true); state = (Some state.Released); batchable = None }))); payload = ([]) }))
    ∷ ask (Own (own.Carry 0 (120 ∷ 120 ∷ 120 ∷ []) false))
    ∷ ask (Own (own.Start 1 (18 ∷ 28 ∷ []) 4294967295 false (120 ∷ []) false))
    ∷ ask (Heard (record { channel = 0; body = (Some (heard.Flow (record { next_incoming_id = (Some 3); incoming_window = 2048; next_outgoing_id = 1650720385; outgoing_window = 4294967295; handle = None; delivery_count = None; link_credit = None; available = None; drain = None; echo = None; properties = None }))); payload = ([]) }))
    ∷ ask (Own (own.Start 1 (37 ∷ 42 ∷ []) 256 false (120 ∷ 120 ∷ []) false))
    ∷ ask (Heard (record { channel = 0; body = (Some (heard.Flow (record { next_incoming_id = (Some 2); incoming_window = 2; next_outgoing_id = 1650720385; outgoing_window = 3; handle = (Some 0); delivery_count = (Some 3); link_credit = (Some 5); available = None; drain = (Some true); echo = None; properties = None }))); payload = ([]) }))
    ∷ ask_link 0
    ∷ ask (Heard (record { channel = 0; body = (Some (heard.Flow (record { next_incoming_id = (Some 2); incoming_window = 4294967295; next_outgoing_id = 1650720385; outgoing_window = 0; handle = (Some 0); delivery_count = (Some 4294967295); link_credit = (Some 10); available = None; drain = (Some true); echo = (Some true); properties = None }))); payload = ([]) }))
    ∷ ask (Own (own.Start 1 (3 ∷ 3 ∷ 3 ∷ 3 ∷ 3 ∷ 3 ∷ 3 ∷ 3 ∷ 3 ∷ 3 ∷ 3 ∷ 3 ∷ 3 ∷ 3 ∷ 3 ∷ 3 ∷ 3 ∷ 3 ∷ 3 ∷ 3 ∷ 3 ∷ 3 ∷ 3 ∷ 3 ∷ 3 ∷ 3 ∷ 3 ∷ 3 ∷ 3 ∷ 3 ∷ 3 ∷ 3 ∷ []) 256 false (120 ∷ []) true))
    ∷ ask (Own (own.Start 1 (4 ∷ 5 ∷ []) 0 true (120 ∷ 120 ∷ 120 ∷ []) false))
    ∷ ask_held Receiver
    ∷ ask (Own (own.Start 1 (119 ∷ 64 ∷ []) 256 false ([]) false))
    ∷ ask (Own (own.Start 1 (2 ∷ []) 1 false (120 ∷ []) false))
    ∷ ask (Own (own.Start 0 (240 ∷ 188 ∷ []) 0 true (120 ∷ 120 ∷ []) false))
    ∷ ask_windows
    ∷ ask (Own (own.Start 0 (167 ∷ 170 ∷ []) 0 true ([]) false))
    ∷ ask_windows
    ∷ ask_link 0
    ∷ ask_link 1
    ∷ ask_link 2
    ∷ ask_link 3
    ∷ ask_link 4
    ∷ ask_held Sender
    ∷ ask_held Receiver ∷ [])
    ≡ (held ([]) ∷ held ([]) ∷ link None ∷ link (Some (record { role = Receiver; phase = phase.Offered; count = 0; credit = 0; drain = false; mid = false; ready = 0 })) ∷ link (Some (record { role = Receiver; phase = phase.Offered; count = 0; credit = 0; drain = false; mid = false; ready = 0 })) ∷ link (Some (record { role = Sender; phase = phase.Attached; count = 4294967294; credit = 0; drain = false; mid = false; ready = 0 })) ∷ link (Some (record { role = Sender; phase = phase.Attached; count = 3; credit = 6; drain = true; mid = false; ready = 0 })) ∷ windows (record { next_in = (Some 1650720385); incoming = 2048; next_out = 5; remote_in = 4294967292; remote_out = 0; next_delivery = 3 }) ∷ ok (given.Delivery 2) ([]) ([] ∷ []) ∷ windows (record { next_in = (Some 1650720385); incoming = 2048; next_out = 4; remote_in = 4294967293; remote_out = 0; next_delivery = 2 }) ∷ ok (given.Delivery 1) ([]) ([] ∷ []) ∷ refused 14 ∷ refused 14 ∷ held ([]) ∷ refused 14 ∷ refused 14 ∷ ok given.Nothing ([]) ([] ∷ []) ∷ link (Some (record { role = Sender; phase = phase.Attached; count = 1; credit = 2; drain = false; mid = false; ready = 0 })) ∷ violated 6 ∷ refused 14 ∷ ok given.Nothing ([]) ([]) ∷ refused 14 ∷ ok given.Nothing ([]) ([] ∷ []) ∷ ok given.Nothing ([]) ([]) ∷ held ([]) ∷ ok (given.Offered 3) ([]) ([]) ∷ ok given.Nothing ([]) ([]) ∷ refused 10 ∷ link (Some (record { role = Receiver; phase = phase.Offered; count = 0; credit = 0; drain = false; mid = false; ready = 0 })) ∷ refused 10 ∷ ok given.Nothing ([]) ([]) ∷ refused 25 ∷ link (Some (record { role = Sender; phase = phase.Attached; count = 1; credit = 2147483647; drain = false; mid = true; ready = 0 })) ∷ ok given.Nothing ([]) ([] ∷ []) ∷ ok (given.Offered 2) ([]) ([]) ∷ refused 10 ∷ ok (given.Delivery 0) ([]) ([] ∷ []) ∷ ok given.Nothing ([]) ([]) ∷ ok (given.Attached 1) ([]) ([]) ∷ ok (given.Link 1) ([]) ([] ∷ []) ∷ ok given.Nothing ([]) ([]) ∷ ok (given.Link 0) ([]) ([] ∷ []) ∷ ok (given.Offered 0) ([]) ([]) ∷ ok given.Nothing ([]) ([] ∷ []) ∷ ok given.Nothing ([]) ([]) ∷ ok given.Nothing ([]) ([]) ∷ [])
unfolding octets_of frame_refused canon spelled class_of is_utf8 chars encode
random_113 = refl
