-- The fields of the header and properties sections, in order (part 3, 3.2.1 and 3.2.4).
use Rattle.std.specs.Prelude.{IsTrue}
use Rattle.amqp_performatives.specs.Part.{Fields, no_field}
use Rattle.amqp_performatives.specs.Bodies.{boolean, ubyte, uint, optional, ◌▸◌}
use Rattle.amqp_messages.specs.declared.header.Header.{Header}
use Rattle.amqp_messages.specs.declared.properties.Properties.{Properties}
use Rattle.amqp_messages.specs.Fields.{timestamp, lent_string, lent_symbol, lent_binary, lent_any, where_lent}

abbrev pub header_fields : Header → Fields
header_fields h =
    optional boolean h.durable
    ▸ optional ubyte h.priority
    ▸ optional uint h.ttl
    ▸ optional boolean h.first_acquirer
    ▸ optional uint h.delivery_count
    ▸ no_field

abbrev pub properties_fields : Properties → Fields
properties_fields p =
    lent_any p.message_id
    ▸ lent_binary p.user_id
    ▸ lent_any p.to
    ▸ lent_string p.subject
    ▸ lent_any p.reply_to
    ▸ lent_any p.correlation_id
    ▸ lent_symbol p.content_type
    ▸ lent_symbol p.content_encoding
    ▸ optional timestamp p.absolute_expiry_time
    ▸ optional timestamp p.creation_time
    ▸ lent_string p.group_id
    ▸ optional uint p.group_sequence
    ▸ lent_string p.reply_to_group_id
    ▸ no_field

-- no present field is null
abbrev pub IsFairProperties : Properties → Type 0
IsFairProperties p = IsTrue (where_lent p.message_id) × IsTrue (where_lent p.to) × IsTrue (where_lent p.reply_to) × IsTrue (where_lent p.correlation_id)
