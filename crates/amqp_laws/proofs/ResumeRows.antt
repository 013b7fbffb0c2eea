-- Links that are rejoined and deliveries that are resumed: what each step answers and leaves, computed.
use Rattle.std.proofs.Common.{◌≡◌, ℕ, Bool, true, false, List, Some, None, [], ◌∷◌, map, refl}
use Rattle.std.specs.Str.{chars, is_utf8}
use lib.Utf8.{encode}
use Rattle.amqp_types.specs.Canon.{canon, spelled}
use Rattle.amqp_types.specs.Codes.{class_of}
use Rattle.amqp_flow.specs.Windows.{unused_windows}
use Rattle.amqp_performatives.specs.declared.bodies.Role.TheVariants.{Sender, Receiver}
use Rattle.amqp_performatives.specs.declared.bodies.TransferBody.{TransferBody}
use Rattle.amqp_performatives.specs.declared.performative.Performative.TheVariants as heard
use Rattle.amqp_performatives.specs.declared.state.DeliveryState.TheVariants as state
use Rattle.amqp_events.specs.Event.{Item}
use Rattle.amqp_waiting.specs.Waiting.{WaitingItem, met, unclear}
use Rattle.amqp_waiting.specs.declared.item.Verdict.TheVariants.{Unclear, Absent, Partial, Held, Outcome}
use Rattle.amqp_waiting.specs.declared.peer.Unsettled.{Unsettled}
use Rattle.amqp_rules.specs.declared.op.Op.{Op}
use Rattle.amqp_rules.specs.declared.op.Op.TheVariants as own
use Rattle.amqp_rules.specs.declared.reply.Given.TheVariants as given
use Rattle.amqp_rules.specs.Sending.{octets_of, frame_refused}
use Rattle.amqp_rules.specs.View.{LinkView, View, initial, new_link}
use Rattle.amqp_rules.specs.Status.{waiting_shown}
use Rattle.amqp_rules.specs.Answer.{own_answer, next_own, body_answer, next_body}
use Rattle.amqp_laws.proofs.Scripts.{Line, heard_told, ok, own_told, refused, violated}

-- # When both attaches are there

abbrev item : List ℕ → WaitingItem
item tag = unclear (record { tag = tag; state = None })

-- of what we sent: what the peer does not tell is absent, or unclear where it did not tell all
met_sender : met Sender (record { told = record { tag = 2 ∷ []; state = Some state.Accepted } ∷ record { tag = 3 ∷ []; state = Some (state.Received 0 5) } ∷ record { tag = 4 ∷ []; state = None } ∷ []; incomplete = false }) (map item ((1 ∷ []) ∷ (2 ∷ []) ∷ (3 ∷ []) ∷ (4 ∷ []) ∷ []))
    ≡ record { tag = 1 ∷ []; state = None; verdict = Absent; theirs = None }
    ∷ record { tag = 2 ∷ []; state = None; verdict = Outcome; theirs = Some state.Accepted }
    ∷ record { tag = 3 ∷ []; state = None; verdict = Partial; theirs = Some (state.Received 0 5) }
    ∷ record { tag = 4 ∷ []; state = None; verdict = Held; theirs = None }
    ∷ []
met_sender = refl

met_in_part : met Sender (record { told = []; incomplete = true }) (item (1 ∷ []) ∷ []) ≡ record { tag = 1 ∷ []; state = None; verdict = Unclear; theirs = None } ∷ []
met_in_part = refl

-- of what we received: what the peer does not tell waits no longer
met_receiver : met Receiver (record { told = record { tag = 2 ∷ []; state = Some state.Accepted } ∷ []; incomplete = false }) (map item ((1 ∷ []) ∷ (2 ∷ []) ∷ [])) ≡ record { tag = 2 ∷ []; state = None; verdict = Held; theirs = Some state.Accepted } ∷ []
met_receiver = refl

-- # Resumes

abbrev line : View → Op → Line
line v op = (own_told (own_answer v op)).line

-- a session that has sent so many transfers, with this link alone
abbrev session : ℕ → LinkView → View
session sent l =
    record (initial (record { first_id = 0; window = 2048; journal_limit = 1073741824 })) {
      steps = 10;
      session = record { begin_sent = true; begin_heard = true; end_sent = false; end_heard = false };
      windows = record (unused_windows 0 2048) { sent = sent; next_incoming = Some 0; remote_incoming = 2046; remote_outgoing = 2147483647 };
      deliveries = sent;
      max_frame = 65536;
      made = 2;
      links = l ∷ [];
    }

-- link 1, with this settle mode and credit, on which one of each verdict waits
abbrev sender : ℕ → ℕ → LinkView
sender mode credit =
    record (new_link 1 Sender (113 ∷ [])) {
      ours = Some (record { handle = 0; snd_mode = mode; rcv_mode = 0; max_message = 0; source = None; target = None });
      theirs = Some (record { handle = 0; snd_mode = 2; rcv_mode = 0; max_message = 0; source = None; target = None });
      credit = record { first_count = 0; passed = 0; credit = credit; drain = false };
      waiting =
          record { tag = 1 ∷ []; state = None; verdict = Absent; theirs = None }
          ∷ record { tag = 2 ∷ []; state = None; verdict = Outcome; theirs = Some state.Accepted }
          ∷ record { tag = 3 ∷ []; state = None; verdict = Partial; theirs = Some (state.Received 0 5) }
          ∷ record { tag = 4 ∷ []; state = Some (state.Received 0 7); verdict = Held; theirs = None }
          ∷ record { tag = 5 ∷ []; state = None; verdict = Unclear; theirs = None }
          ∷ [];
    }

shown_second : waiting_shown (session 2 (sender 2 5)) 1 1 ≡ Some (2 ∷ [], Outcome)
shown_second = refl

shown_past_the_end : waiting_shown (session 2 (sender 2 5)) 1 5 ≡ None
shown_past_the_end = refl

no_credit : line (session 2 (sender 2 0)) (own.Resume 1 (2 ∷ []) true) ≡ refused 14
unfolding octets_of frame_refused canon spelled class_of is_utf8 chars encode
no_credit = refl

tag_waits : line (session 2 (sender 2 5)) (own.Start 1 (1 ∷ []) 0 false (120 ∷ []) false) ≡ refused 12
unfolding octets_of frame_refused canon spelled class_of is_utf8 chars encode
tag_waits = refl

is_unclear : line (session 2 (sender 2 0)) (own.Resume 1 (5 ∷ []) true) ≡ refused 30
unfolding octets_of frame_refused canon spelled class_of is_utf8 chars encode
is_unclear = refl

-- one that the peer does not know wants no credit, and frees its tag
absent : line (session 2 (sender 2 0)) (own.Resume 1 (1 ∷ []) false) ≡ ok (given.Resumed (record { verdict = Absent; id = None; state = None })) [] []
unfolding octets_of frame_refused canon spelled class_of is_utf8 chars encode
absent = refl

abbrev absent_done : View
absent_done = next_own (session 2 (sender 2 5)) (own.Resume 1 (1 ∷ []) false)

absent_gone : line absent_done (own.Resume 1 (1 ∷ []) false) ≡ refused 29
unfolding octets_of frame_refused canon spelled class_of is_utf8 chars encode
absent_gone = refl

absent_unsent : absent_done.deliveries ≡ 2
absent_unsent = refl

-- one with an outcome is told it, and is settled by the transfer
outcome : line absent_done (own.Resume 1 (2 ∷ []) true)
    ≡ ok (given.Resumed (record { verdict = Outcome; id = Some 2; state = Some state.Accepted })) [] ((0 ∷ 0 ∷ 0 ∷ 29 ∷ 2 ∷ 0 ∷ 0 ∷ 0 ∷ 0 ∷ 83 ∷ 20 ∷ 192 ∷ 16 ∷ 9 ∷ 67 ∷ 82 ∷ 2 ∷ 160 ∷ 1 ∷ 2 ∷ 64 ∷ 65 ∷ 64 ∷ 64 ∷ 0 ∷ 83 ∷ 36 ∷ 69 ∷ 65 ∷ []) ∷ [])
unfolding octets_of frame_refused canon spelled class_of is_utf8 chars encode
outcome = refl

outcome_gone : line (next_own absent_done (own.Resume 1 (2 ∷ []) true)) (own.Resume 1 (2 ∷ []) true) ≡ refused 29
unfolding octets_of frame_refused canon spelled class_of is_utf8 chars encode
outcome_gone = refl

-- one that the peer has in part is aborted, whatever the settle mode is, and is not held
partial : line (session 2 (sender 0 5)) (own.Resume 1 (3 ∷ []) true)
    ≡ ok (given.Resumed (record { verdict = Partial; id = Some 2; state = None })) [] ((0 ∷ 0 ∷ 0 ∷ 27 ∷ 2 ∷ 0 ∷ 0 ∷ 0 ∷ 0 ∷ 83 ∷ 20 ∷ 192 ∷ 14 ∷ 10 ∷ 67 ∷ 82 ∷ 2 ∷ 160 ∷ 1 ∷ 3 ∷ 64 ∷ 64 ∷ 64 ∷ 64 ∷ 64 ∷ 65 ∷ 65 ∷ []) ∷ [])
unfolding octets_of frame_refused canon spelled class_of is_utf8 chars encode
partial = refl

partial_unheld : (next_own (session 2 (sender 0 5)) (own.Resume 1 (3 ∷ []) false)).sent ≡ []
partial_unheld = refl

-- one that the peer has without an outcome is held, with the states that both ends told
settle_mode : line (session 2 (sender 0 5)) (own.Resume 1 (4 ∷ []) true) ≡ refused 13
unfolding octets_of frame_refused canon spelled class_of is_utf8 chars encode
settle_mode = refl

held : line (session 2 (sender 0 5)) (own.Resume 1 (4 ∷ []) false)
    ≡ ok (given.Resumed (record { verdict = Held; id = Some 2; state = None })) [] ((0 ∷ 0 ∷ 0 ∷ 26 ∷ 2 ∷ 0 ∷ 0 ∷ 0 ∷ 0 ∷ 83 ∷ 20 ∷ 192 ∷ 13 ∷ 9 ∷ 67 ∷ 82 ∷ 2 ∷ 160 ∷ 1 ∷ 4 ∷ 64 ∷ 64 ∷ 64 ∷ 64 ∷ 64 ∷ 65 ∷ []) ∷ [])
unfolding octets_of frame_refused canon spelled class_of is_utf8 chars encode
held = refl

abbrev held_done : View
held_done = next_own (session 2 (sender 0 5)) (own.Resume 1 (4 ∷ []) false)

held_stands : held_done.sent ≡ record { item = record { id = 2; link = 1; tag = 4 ∷ []; second = false; local = Some (state.Received 0 7); remote = None }; told = false } ∷ []
held_stands = refl

-- the tag is that of an unsettled delivery from then on
held_tag : line held_done (own.Start 1 (4 ∷ []) 0 false (120 ∷ []) false) ≡ refused 12
unfolding octets_of frame_refused canon spelled class_of is_utf8 chars encode
held_tag = refl

-- # A delivery that is brought in

abbrev receiver : LinkView
receiver =
    record (new_link 0 Receiver (113 ∷ [])) {
      ours = Some (record { handle = 0; snd_mode = 2; rcv_mode = 0; max_message = 4; source = None; target = None });
      theirs = Some (record { handle = 0; snd_mode = 2; rcv_mode = 0; max_message = 0; source = None; target = None });
      credit = record { first_count = 0; passed = 0; credit = 2; drain = false };
      waiting = record { tag = 1 ∷ []; state = Some state.Accepted; verdict = Held; theirs = None } ∷ [];
    }

-- a single transfer with this tag, which resumes or does not
abbrev single : ℕ → List ℕ → Bool → TransferBody
single id tag resume =
    record { handle = 0; delivery_id = Some id; delivery_tag = Some tag; message_format = None; settled = None; more = None; rcv_settle_mode = None; state = None; resume = Some resume; aborted = None; batchable = None }

abbrev hears : View → TransferBody → List ℕ → Line
hears v b payload = (heard_told (body_answer v (Some (heard.Transfer b)) payload)).line

-- its payload is ignored, however long it is, and it is not given
brought : hears (session 0 receiver) (single 0 (1 ∷ []) true) (120 ∷ 120 ∷ 120 ∷ 120 ∷ 120 ∷ []) ≡ ok given.Nothing [] []
brought = refl

abbrev brought_done : View
brought_done = next_body (session 0 receiver) (Some (heard.Transfer (single 0 (1 ∷ []) true))) (120 ∷ 120 ∷ 120 ∷ 120 ∷ 120 ∷ [])

brought_held : brought_done.received ≡ record { id = 0; link = 0; tag = 1 ∷ []; second = false; local = Some state.Accepted; remote = None } ∷ []
brought_held = refl

brought_waits_not : waiting_shown brought_done 0 0 ≡ None
brought_waits_not = refl

not_given : line brought_done (own.Take 0) ≡ refused 25
not_given = refl

-- one that does not wait uses an id, and is not held
strange : (next_body (session 0 receiver) (Some (heard.Transfer (single 0 (7 ∷ []) true))) []).received ≡ []
strange = refl

strange_counts : (next_body (session 0 receiver) (Some (heard.Transfer (single 0 (7 ∷ []) true))) []).expected ≡ Some 1
strange_counts = refl

-- a tag that waits is in use for a transfer that does not resume
in_use : hears (session 0 receiver) (single 0 (1 ∷ []) false) [] ≡ violated 10
in_use = refl

-- # A link that is rejoined

abbrev asks : List (List ℕ) → Op
asks tags =
    own.Rejoin (record { name = 113 ∷ []; role = Receiver; snd = 2; rcv = 0; source = None; target = None; count = 0; max_message = 0; items = map (λ tag. record { tag = tag; state = None }) tags })

-- the peer offers the link, and tells one delivery
abbrev offered : View
offered =
    session 0 (
    record (new_link 1 Receiver (113 ∷ [])) {
      theirs = Some (record { handle = 0; snd_mode = 2; rcv_mode = 0; max_message = 0; source = None; target = None });
      offer = record { told = record { tag = 1 ∷ []; state = None } ∷ []; incomplete = false };
    })

tag_twice : line offered (asks ((1 ∷ []) ∷ (2 ∷ []) ∷ (1 ∷ []) ∷ [])) ≡ refused 31
unfolding octets_of frame_refused canon spelled class_of is_utf8 chars encode
tag_twice = refl

-- ours is the second attach, so both are met
rejoined_first : waiting_shown (next_own offered (asks ((1 ∷ []) ∷ (2 ∷ []) ∷ []))) 1 0 ≡ Some (1 ∷ [], Held)
rejoined_first = refl

rejoined_alone : waiting_shown (next_own offered (asks ((1 ∷ []) ∷ (2 ∷ []) ∷ []))) 1 1 ≡ None
rejoined_alone = refl

-- where it is the first, nothing is known of them
asked_first : waiting_shown (next_own (session 0 (sender 2 5)) (asks ((1 ∷ []) ∷ []))) 2 0 ≡ Some (1 ∷ [], Unclear)
asked_first = refl
