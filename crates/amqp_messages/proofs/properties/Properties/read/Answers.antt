use Rattle.amqp_performatives.specs.Part.{Fields, no_field}
use Rattle.amqp_messages.specs.declared.properties.Properties.{Properties}
use Rattle.amqp_performatives.specs.Bodies.{optional, uint, ◌▸◌}
use Rattle.amqp_messages.specs.Fields.{lent_any, lent_binary, lent_string, lent_symbol, timestamp}
use Rattle.amqp_messages.proofs.FieldLaws.{of_any, of_binary, of_string, of_symbol, of_timestamp, of_uint, any_of}
use Rattle.amqp_messages.proofs.properties.Properties.read.Goals as goal

-- the fields behind each
abbrev others13 : Properties → Fields
others13 p = no_field

abbrev others12 : Properties → Fields
others12 p = lent_string p.reply_to_group_id ▸ others13 p

abbrev others11 : Properties → Fields
others11 p = optional uint p.group_sequence ▸ others12 p

abbrev others10 : Properties → Fields
others10 p = lent_string p.group_id ▸ others11 p

abbrev others9 : Properties → Fields
others9 p = optional timestamp p.creation_time ▸ others10 p

abbrev others8 : Properties → Fields
others8 p = optional timestamp p.absolute_expiry_time ▸ others9 p

abbrev others7 : Properties → Fields
others7 p = lent_symbol p.content_encoding ▸ others8 p

abbrev others6 : Properties → Fields
others6 p = lent_symbol p.content_type ▸ others7 p

abbrev others5 : Properties → Fields
others5 p = lent_any p.correlation_id ▸ others6 p

abbrev others4 : Properties → Fields
others4 p = lent_any p.reply_to ▸ others5 p

abbrev others3 : Properties → Fields
others3 p = lent_string p.subject ▸ others4 p

abbrev others2 : Properties → Fields
others2 p = lent_any p.to ▸ others3 p

abbrev others1 : Properties → Fields
others1 p = lent_binary p.user_id ▸ others2 p

pub returns-in_err-message_id : goal.returns-in_err-message_id
returns-in_err-message_id c = rw c.from_residual.ensures (λ p fair fit. c.in_err-message_id.ensures (lent_any p.message_id) (others1 p) (of_any p.message_id fair.0) fit)

pub returns-in_err-user_id : goal.returns-in_err-user_id
returns-in_err-user_id c = rw c.from_residual-in_err-user_id.ensures (λ p fair fit.
    let fit0 = (c.in_ok-message_id.ensures.only (lent_any p.message_id) (others1 p) (of_any p.message_id fair.0) fit).1 in
    c.in_err-user_id.ensures (lent_binary p.user_id) (others2 p) (of_binary p.user_id) fit0)

pub returns-in_err-to : goal.returns-in_err-to
returns-in_err-to c = rw c.from_residual-in_err-to.ensures (λ p fair fit.
    let fit0 = (c.in_ok-message_id.ensures.only (lent_any p.message_id) (others1 p) (of_any p.message_id fair.0) fit).1 in
    let fit1 = (c.in_ok-user_id.ensures.only (lent_binary p.user_id) (others2 p) (of_binary p.user_id) fit0).1 in
    c.in_err-to.ensures (lent_any p.to) (others3 p) (of_any p.to fair.1) fit1)

pub returns-in_err-subject : goal.returns-in_err-subject
returns-in_err-subject c = rw c.from_residual-in_err-subject.ensures (λ p fair fit.
    let fit0 = (c.in_ok-message_id.ensures.only (lent_any p.message_id) (others1 p) (of_any p.message_id fair.0) fit).1 in
    let fit1 = (c.in_ok-user_id.ensures.only (lent_binary p.user_id) (others2 p) (of_binary p.user_id) fit0).1 in
    let fit2 = (c.in_ok-to.ensures.only (lent_any p.to) (others3 p) (of_any p.to fair.1) fit1).1 in
    c.in_err-subject.ensures (lent_string p.subject) (others4 p) (of_string p.subject) fit2)

pub returns-in_err-reply_to : goal.returns-in_err-reply_to
returns-in_err-reply_to c = rw c.from_residual-in_err-reply_to.ensures (λ p fair fit.
    let fit0 = (c.in_ok-message_id.ensures.only (lent_any p.message_id) (others1 p) (of_any p.message_id fair.0) fit).1 in
    let fit1 = (c.in_ok-user_id.ensures.only (lent_binary p.user_id) (others2 p) (of_binary p.user_id) fit0).1 in
    let fit2 = (c.in_ok-to.ensures.only (lent_any p.to) (others3 p) (of_any p.to fair.1) fit1).1 in
    let fit3 = (c.in_ok-subject.ensures.only (lent_string p.subject) (others4 p) (of_string p.subject) fit2).1 in
    c.in_err-reply_to.ensures (lent_any p.reply_to) (others5 p) (of_any p.reply_to fair.2) fit3)

pub returns-in_err-correlation_id : goal.returns-in_err-correlation_id
returns-in_err-correlation_id c = rw c.from_residual-in_err-correlation_id.ensures (λ p fair fit.
    let fit0 = (c.in_ok-message_id.ensures.only (lent_any p.message_id) (others1 p) (of_any p.message_id fair.0) fit).1 in
    let fit1 = (c.in_ok-user_id.ensures.only (lent_binary p.user_id) (others2 p) (of_binary p.user_id) fit0).1 in
    let fit2 = (c.in_ok-to.ensures.only (lent_any p.to) (others3 p) (of_any p.to fair.1) fit1).1 in
    let fit3 = (c.in_ok-subject.ensures.only (lent_string p.subject) (others4 p) (of_string p.subject) fit2).1 in
    let fit4 = (c.in_ok-reply_to.ensures.only (lent_any p.reply_to) (others5 p) (of_any p.reply_to fair.2) fit3).1 in
    c.in_err-correlation_id.ensures (lent_any p.correlation_id) (others6 p) (of_any p.correlation_id fair.3) fit4)

pub returns-in_err-content_type : goal.returns-in_err-content_type
returns-in_err-content_type c = rw c.from_residual-in_err-content_type.ensures (λ p fair fit.
    let fit0 = (c.in_ok-message_id.ensures.only (lent_any p.message_id) (others1 p) (of_any p.message_id fair.0) fit).1 in
    let fit1 = (c.in_ok-user_id.ensures.only (lent_binary p.user_id) (others2 p) (of_binary p.user_id) fit0).1 in
    let fit2 = (c.in_ok-to.ensures.only (lent_any p.to) (others3 p) (of_any p.to fair.1) fit1).1 in
    let fit3 = (c.in_ok-subject.ensures.only (lent_string p.subject) (others4 p) (of_string p.subject) fit2).1 in
    let fit4 = (c.in_ok-reply_to.ensures.only (lent_any p.reply_to) (others5 p) (of_any p.reply_to fair.2) fit3).1 in
    let fit5 = (c.in_ok-correlation_id.ensures.only (lent_any p.correlation_id) (others6 p) (of_any p.correlation_id fair.3) fit4).1 in
    c.in_err-content_type.ensures (lent_symbol p.content_type) (others7 p) (of_symbol p.content_type) fit5)

pub returns-in_err-content_encoding : goal.returns-in_err-content_encoding
returns-in_err-content_encoding c = rw c.from_residual-in_err-content_encoding.ensures (λ p fair fit.
    let fit0 = (c.in_ok-message_id.ensures.only (lent_any p.message_id) (others1 p) (of_any p.message_id fair.0) fit).1 in
    let fit1 = (c.in_ok-user_id.ensures.only (lent_binary p.user_id) (others2 p) (of_binary p.user_id) fit0).1 in
    let fit2 = (c.in_ok-to.ensures.only (lent_any p.to) (others3 p) (of_any p.to fair.1) fit1).1 in
    let fit3 = (c.in_ok-subject.ensures.only (lent_string p.subject) (others4 p) (of_string p.subject) fit2).1 in
    let fit4 = (c.in_ok-reply_to.ensures.only (lent_any p.reply_to) (others5 p) (of_any p.reply_to fair.2) fit3).1 in
    let fit5 = (c.in_ok-correlation_id.ensures.only (lent_any p.correlation_id) (others6 p) (of_any p.correlation_id fair.3) fit4).1 in
    let fit6 = (c.in_ok-content_type.ensures.only (lent_symbol p.content_type) (others7 p) (of_symbol p.content_type) fit5).1 in
    c.in_err-content_encoding.ensures (lent_symbol p.content_encoding) (others8 p) (of_symbol p.content_encoding) fit6)

pub returns-in_err-absolute_expiry_time : goal.returns-in_err-absolute_expiry_time
returns-in_err-absolute_expiry_time c = rw c.from_residual-in_err-absolute_expiry_time.ensures (λ p fair fit.
    let fit0 = (c.in_ok-message_id.ensures.only (lent_any p.message_id) (others1 p) (of_any p.message_id fair.0) fit).1 in
    let fit1 = (c.in_ok-user_id.ensures.only (lent_binary p.user_id) (others2 p) (of_binary p.user_id) fit0).1 in
    let fit2 = (c.in_ok-to.ensures.only (lent_any p.to) (others3 p) (of_any p.to fair.1) fit1).1 in
    let fit3 = (c.in_ok-subject.ensures.only (lent_string p.subject) (others4 p) (of_string p.subject) fit2).1 in
    let fit4 = (c.in_ok-reply_to.ensures.only (lent_any p.reply_to) (others5 p) (of_any p.reply_to fair.2) fit3).1 in
    let fit5 = (c.in_ok-correlation_id.ensures.only (lent_any p.correlation_id) (others6 p) (of_any p.correlation_id fair.3) fit4).1 in
    let fit6 = (c.in_ok-content_type.ensures.only (lent_symbol p.content_type) (others7 p) (of_symbol p.content_type) fit5).1 in
    let fit7 = (c.in_ok-content_encoding.ensures.only (lent_symbol p.content_encoding) (others8 p) (of_symbol p.content_encoding) fit6).1 in
    c.in_err-absolute_expiry_time.ensures (optional timestamp p.absolute_expiry_time) (others9 p) (of_timestamp p.absolute_expiry_time) fit7)

pub returns-in_err-creation_time : goal.returns-in_err-creation_time
returns-in_err-creation_time c = rw c.from_residual-in_err-creation_time.ensures (λ p fair fit.
    let fit0 = (c.in_ok-message_id.ensures.only (lent_any p.message_id) (others1 p) (of_any p.message_id fair.0) fit).1 in
    let fit1 = (c.in_ok-user_id.ensures.only (lent_binary p.user_id) (others2 p) (of_binary p.user_id) fit0).1 in
    let fit2 = (c.in_ok-to.ensures.only (lent_any p.to) (others3 p) (of_any p.to fair.1) fit1).1 in
    let fit3 = (c.in_ok-subject.ensures.only (lent_string p.subject) (others4 p) (of_string p.subject) fit2).1 in
    let fit4 = (c.in_ok-reply_to.ensures.only (lent_any p.reply_to) (others5 p) (of_any p.reply_to fair.2) fit3).1 in
    let fit5 = (c.in_ok-correlation_id.ensures.only (lent_any p.correlation_id) (others6 p) (of_any p.correlation_id fair.3) fit4).1 in
    let fit6 = (c.in_ok-content_type.ensures.only (lent_symbol p.content_type) (others7 p) (of_symbol p.content_type) fit5).1 in
    let fit7 = (c.in_ok-content_encoding.ensures.only (lent_symbol p.content_encoding) (others8 p) (of_symbol p.content_encoding) fit6).1 in
    let fit8 = (c.in_ok-absolute_expiry_time.ensures.only (optional timestamp p.absolute_expiry_time) (others9 p) (of_timestamp p.absolute_expiry_time) fit7).1 in
    c.in_err-creation_time.ensures (optional timestamp p.creation_time) (others10 p) (of_timestamp p.creation_time) fit8)

pub returns-in_err-group_id : goal.returns-in_err-group_id
returns-in_err-group_id c = rw c.from_residual-in_err-group_id.ensures (λ p fair fit.
    let fit0 = (c.in_ok-message_id.ensures.only (lent_any p.message_id) (others1 p) (of_any p.message_id fair.0) fit).1 in
    let fit1 = (c.in_ok-user_id.ensures.only (lent_binary p.user_id) (others2 p) (of_binary p.user_id) fit0).1 in
    let fit2 = (c.in_ok-to.ensures.only (lent_any p.to) (others3 p) (of_any p.to fair.1) fit1).1 in
    let fit3 = (c.in_ok-subject.ensures.only (lent_string p.subject) (others4 p) (of_string p.subject) fit2).1 in
    let fit4 = (c.in_ok-reply_to.ensures.only (lent_any p.reply_to) (others5 p) (of_any p.reply_to fair.2) fit3).1 in
    let fit5 = (c.in_ok-correlation_id.ensures.only (lent_any p.correlation_id) (others6 p) (of_any p.correlation_id fair.3) fit4).1 in
    let fit6 = (c.in_ok-content_type.ensures.only (lent_symbol p.content_type) (others7 p) (of_symbol p.content_type) fit5).1 in
    let fit7 = (c.in_ok-content_encoding.ensures.only (lent_symbol p.content_encoding) (others8 p) (of_symbol p.content_encoding) fit6).1 in
    let fit8 = (c.in_ok-absolute_expiry_time.ensures.only (optional timestamp p.absolute_expiry_time) (others9 p) (of_timestamp p.absolute_expiry_time) fit7).1 in
    let fit9 = (c.in_ok-creation_time.ensures.only (optional timestamp p.creation_time) (others10 p) (of_timestamp p.creation_time) fit8).1 in
    c.in_err-group_id.ensures (lent_string p.group_id) (others11 p) (of_string p.group_id) fit9)

pub returns-in_err-group_sequence : goal.returns-in_err-group_sequence
returns-in_err-group_sequence c = rw c.from_residual-in_err-group_sequence.ensures (λ p fair fit.
    let fit0 = (c.in_ok-message_id.ensures.only (lent_any p.message_id) (others1 p) (of_any p.message_id fair.0) fit).1 in
    let fit1 = (c.in_ok-user_id.ensures.only (lent_binary p.user_id) (others2 p) (of_binary p.user_id) fit0).1 in
    let fit2 = (c.in_ok-to.ensures.only (lent_any p.to) (others3 p) (of_any p.to fair.1) fit1).1 in
    let fit3 = (c.in_ok-subject.ensures.only (lent_string p.subject) (others4 p) (of_string p.subject) fit2).1 in
    let fit4 = (c.in_ok-reply_to.ensures.only (lent_any p.reply_to) (others5 p) (of_any p.reply_to fair.2) fit3).1 in
    let fit5 = (c.in_ok-correlation_id.ensures.only (lent_any p.correlation_id) (others6 p) (of_any p.correlation_id fair.3) fit4).1 in
    let fit6 = (c.in_ok-content_type.ensures.only (lent_symbol p.content_type) (others7 p) (of_symbol p.content_type) fit5).1 in
    let fit7 = (c.in_ok-content_encoding.ensures.only (lent_symbol p.content_encoding) (others8 p) (of_symbol p.content_encoding) fit6).1 in
    let fit8 = (c.in_ok-absolute_expiry_time.ensures.only (optional timestamp p.absolute_expiry_time) (others9 p) (of_timestamp p.absolute_expiry_time) fit7).1 in
    let fit9 = (c.in_ok-creation_time.ensures.only (optional timestamp p.creation_time) (others10 p) (of_timestamp p.creation_time) fit8).1 in
    let fit10 = (c.in_ok-group_id.ensures.only (lent_string p.group_id) (others11 p) (of_string p.group_id) fit9).1 in
    c.in_err-group_sequence.ensures (optional uint p.group_sequence) (others12 p) (of_uint p.group_sequence) fit10)

pub returns-in_err-reply_to_group_id : goal.returns-in_err-reply_to_group_id
returns-in_err-reply_to_group_id c = rw c.from_residual-in_err-reply_to_group_id.ensures (λ p fair fit.
    let fit0 = (c.in_ok-message_id.ensures.only (lent_any p.message_id) (others1 p) (of_any p.message_id fair.0) fit).1 in
    let fit1 = (c.in_ok-user_id.ensures.only (lent_binary p.user_id) (others2 p) (of_binary p.user_id) fit0).1 in
    let fit2 = (c.in_ok-to.ensures.only (lent_any p.to) (others3 p) (of_any p.to fair.1) fit1).1 in
    let fit3 = (c.in_ok-subject.ensures.only (lent_string p.subject) (others4 p) (of_string p.subject) fit2).1 in
    let fit4 = (c.in_ok-reply_to.ensures.only (lent_any p.reply_to) (others5 p) (of_any p.reply_to fair.2) fit3).1 in
    let fit5 = (c.in_ok-correlation_id.ensures.only (lent_any p.correlation_id) (others6 p) (of_any p.correlation_id fair.3) fit4).1 in
    let fit6 = (c.in_ok-content_type.ensures.only (lent_symbol p.content_type) (others7 p) (of_symbol p.content_type) fit5).1 in
    let fit7 = (c.in_ok-content_encoding.ensures.only (lent_symbol p.content_encoding) (others8 p) (of_symbol p.content_encoding) fit6).1 in
    let fit8 = (c.in_ok-absolute_expiry_time.ensures.only (optional timestamp p.absolute_expiry_time) (others9 p) (of_timestamp p.absolute_expiry_time) fit7).1 in
    let fit9 = (c.in_ok-creation_time.ensures.only (optional timestamp p.creation_time) (others10 p) (of_timestamp p.creation_time) fit8).1 in
    let fit10 = (c.in_ok-group_id.ensures.only (lent_string p.group_id) (others11 p) (of_string p.group_id) fit9).1 in
    let fit11 = (c.in_ok-group_sequence.ensures.only (optional uint p.group_sequence) (others12 p) (of_uint p.group_sequence) fit10).1 in
    c.in_err-reply_to_group_id.ensures (lent_string p.reply_to_group_id) (others13 p) (of_string p.reply_to_group_id) fit11)

pub returns-then-not-are_null : goal.returns-then-not-are_null
returns-then-not-are_null c = λ p fair fit.
    let fit0 = (c.in_ok-message_id.ensures.only (lent_any p.message_id) (others1 p) (of_any p.message_id fair.0) fit).1 in
    let fit1 = (c.in_ok-user_id.ensures.only (lent_binary p.user_id) (others2 p) (of_binary p.user_id) fit0).1 in
    let fit2 = (c.in_ok-to.ensures.only (lent_any p.to) (others3 p) (of_any p.to fair.1) fit1).1 in
    let fit3 = (c.in_ok-subject.ensures.only (lent_string p.subject) (others4 p) (of_string p.subject) fit2).1 in
    let fit4 = (c.in_ok-reply_to.ensures.only (lent_any p.reply_to) (others5 p) (of_any p.reply_to fair.2) fit3).1 in
    let fit5 = (c.in_ok-correlation_id.ensures.only (lent_any p.correlation_id) (others6 p) (of_any p.correlation_id fair.3) fit4).1 in
    let fit6 = (c.in_ok-content_type.ensures.only (lent_symbol p.content_type) (others7 p) (of_symbol p.content_type) fit5).1 in
    let fit7 = (c.in_ok-content_encoding.ensures.only (lent_symbol p.content_encoding) (others8 p) (of_symbol p.content_encoding) fit6).1 in
    let fit8 = (c.in_ok-absolute_expiry_time.ensures.only (optional timestamp p.absolute_expiry_time) (others9 p) (of_timestamp p.absolute_expiry_time) fit7).1 in
    let fit9 = (c.in_ok-creation_time.ensures.only (optional timestamp p.creation_time) (others10 p) (of_timestamp p.creation_time) fit8).1 in
    let fit10 = (c.in_ok-group_id.ensures.only (lent_string p.group_id) (others11 p) (of_string p.group_id) fit9).1 in
    let fit11 = (c.in_ok-group_sequence.ensures.only (optional uint p.group_sequence) (others12 p) (of_uint p.group_sequence) fit10).1 in
    let fit12 = (c.in_ok-reply_to_group_id.ensures.only (lent_string p.reply_to_group_id) (others13 p) (of_string p.reply_to_group_id) fit11).1 in
    let q = c.are_null.ensures.1 fit12 in
    cc

pub returns : goal.returns
returns c =
    let p : Properties = record { message_id = c.in_ok-message_id.message_id; user_id = c.in_ok-user_id.user_id; to = c.in_ok-to.to; subject = c.in_ok-subject.subject; reply_to = c.in_ok-reply_to.reply_to; correlation_id = c.in_ok-correlation_id.correlation_id; content_type = c.in_ok-content_type.content_type; content_encoding = c.in_ok-content_encoding.content_encoding; absolute_expiry_time = c.in_ok-absolute_expiry_time.absolute_expiry_time; creation_time = c.in_ok-creation_time.creation_time; group_id = c.in_ok-group_id.group_id; group_sequence = c.in_ok-group_sequence.group_sequence; reply_to_group_id = c.in_ok-reply_to_group_id.reply_to_group_id } in
    ((any_of c.in_ok-message_id.message_id c.in_ok-message_id.ensures.of, any_of c.in_ok-to.to c.in_ok-to.ensures.of, any_of c.in_ok-reply_to.reply_to c.in_ok-reply_to.ensures.of, any_of c.in_ok-correlation_id.correlation_id c.in_ok-correlation_id.ensures.of), c.in_ok-message_id.ensures.there (others1 p) (c.in_ok-user_id.ensures.there (others2 p) (c.in_ok-to.ensures.there (others3 p) (c.in_ok-subject.ensures.there (others4 p) (c.in_ok-reply_to.ensures.there (others5 p) (c.in_ok-correlation_id.ensures.there (others6 p) (c.in_ok-content_type.ensures.there (others7 p) (c.in_ok-content_encoding.ensures.there (others8 p) (c.in_ok-absolute_expiry_time.ensures.there (others9 p) (c.in_ok-creation_time.ensures.there (others10 p) (c.in_ok-group_id.ensures.there (others11 p) (c.in_ok-group_sequence.ensures.there (others12 p) (c.in_ok-reply_to_group_id.ensures.there (others13 p) (c.are_null.ensures.0 c.if-not-are_null.false))))))))))))))
