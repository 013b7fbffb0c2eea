use Rattle.amqp_types.specs.View.{view, views}
use Rattle.amqp_performatives.specs.Part.{Fields, no_field}
use Rattle.amqp_messages.specs.declared.terminus.Target.{Target}
use Rattle.amqp_performatives.specs.Bodies.{optional, uint, boolean, ◌▸◌}
use Rattle.amqp_messages.specs.Fields.{lent_any, lent_symbol, lent_mapping}
use Rattle.amqp_messages.specs.Termini.{target_type, target_fields}
use Rattle.amqp_messages.proofs.FieldLaws.{of_any, of_uint, of_symbol, of_boolean, of_mapping, any_of}
use Rattle.amqp_messages.proofs.Descriptors.{listed}
use Rattle.amqp_messages.proofs.terminus.Target.read.Goals as goal

-- the fields behind each
abbrev others7 : Target → Fields
others7 t = no_field

abbrev others6 : Target → Fields
others6 t = lent_any t.capabilities ▸ others7 t

abbrev others5 : Target → Fields
others5 t = lent_mapping t.dynamic_node_properties ▸ others6 t

abbrev others4 : Target → Fields
others4 t = optional boolean t.dynamic ▸ others5 t

abbrev others3 : Target → Fields
others3 t = optional uint t.timeout ▸ others4 t

abbrev others2 : Target → Fields
others2 t = lent_symbol t.expiry_policy ▸ others3 t

abbrev others1 : Target → Fields
others1 t = optional uint t.durable ▸ others2 t

pub returns-in_err-fields : goal.returns-in_err-fields
returns-in_err-fields c = rw c.from_residual.ensures (λ t fair whole. c.in_err-fields.ensures whole.1 (whole.0, whole.2, whole.4))

pub returns-in_err-address : goal.returns-in_err-address
returns-in_err-address c = rw c.from_residual-in_err-address.ensures (λ t fair whole.
    let fit = listed (target_fields t) target_type (view c.args.value.now) (views c.in_ok-fields.fields.now) c.in_ok-fields.ensures whole in
    c.in_err-address.ensures (lent_any t.address) (others1 t) (of_any t.address fair.0) fit)

pub returns-in_err-durable : goal.returns-in_err-durable
returns-in_err-durable c = rw c.from_residual-in_err-durable.ensures (λ t fair whole.
    let fit = listed (target_fields t) target_type (view c.args.value.now) (views c.in_ok-fields.fields.now) c.in_ok-fields.ensures whole in
    let fit0 = (c.in_ok-address.ensures.only (lent_any t.address) (others1 t) (of_any t.address fair.0) fit).1 in
    c.in_err-durable.ensures (optional uint t.durable) (others2 t) (of_uint t.durable) fit0)

pub returns-in_err-expiry_policy : goal.returns-in_err-expiry_policy
returns-in_err-expiry_policy c = rw c.from_residual-in_err-expiry_policy.ensures (λ t fair whole.
    let fit = listed (target_fields t) target_type (view c.args.value.now) (views c.in_ok-fields.fields.now) c.in_ok-fields.ensures whole in
    let fit0 = (c.in_ok-address.ensures.only (lent_any t.address) (others1 t) (of_any t.address fair.0) fit).1 in
    let fit1 = (c.in_ok-durable.ensures.only (optional uint t.durable) (others2 t) (of_uint t.durable) fit0).1 in
    c.in_err-expiry_policy.ensures (lent_symbol t.expiry_policy) (others3 t) (of_symbol t.expiry_policy) fit1)

pub returns-in_err-timeout : goal.returns-in_err-timeout
returns-in_err-timeout c = rw c.from_residual-in_err-timeout.ensures (λ t fair whole.
    let fit = listed (target_fields t) target_type (view c.args.value.now) (views c.in_ok-fields.fields.now) c.in_ok-fields.ensures whole in
    let fit0 = (c.in_ok-address.ensures.only (lent_any t.address) (others1 t) (of_any t.address fair.0) fit).1 in
    let fit1 = (c.in_ok-durable.ensures.only (optional uint t.durable) (others2 t) (of_uint t.durable) fit0).1 in
    let fit2 = (c.in_ok-expiry_policy.ensures.only (lent_symbol t.expiry_policy) (others3 t) (of_symbol t.expiry_policy) fit1).1 in
    c.in_err-timeout.ensures (optional uint t.timeout) (others4 t) (of_uint t.timeout) fit2)

pub returns-in_err-dynamic : goal.returns-in_err-dynamic
returns-in_err-dynamic c = rw c.from_residual-in_err-dynamic.ensures (λ t fair whole.
    let fit = listed (target_fields t) target_type (view c.args.value.now) (views c.in_ok-fields.fields.now) c.in_ok-fields.ensures whole in
    let fit0 = (c.in_ok-address.ensures.only (lent_any t.address) (others1 t) (of_any t.address fair.0) fit).1 in
    let fit1 = (c.in_ok-durable.ensures.only (optional uint t.durable) (others2 t) (of_uint t.durable) fit0).1 in
    let fit2 = (c.in_ok-expiry_policy.ensures.only (lent_symbol t.expiry_policy) (others3 t) (of_symbol t.expiry_policy) fit1).1 in
    let fit3 = (c.in_ok-timeout.ensures.only (optional uint t.timeout) (others4 t) (of_uint t.timeout) fit2).1 in
    c.in_err-dynamic.ensures (optional boolean t.dynamic) (others5 t) (of_boolean t.dynamic) fit3)

pub returns-in_err-dynamic_node_properties : goal.returns-in_err-dynamic_node_properties
returns-in_err-dynamic_node_properties c = rw c.from_residual-in_err-dynamic_node_properties.ensures (λ t fair whole.
    let fit = listed (target_fields t) target_type (view c.args.value.now) (views c.in_ok-fields.fields.now) c.in_ok-fields.ensures whole in
    let fit0 = (c.in_ok-address.ensures.only (lent_any t.address) (others1 t) (of_any t.address fair.0) fit).1 in
    let fit1 = (c.in_ok-durable.ensures.only (optional uint t.durable) (others2 t) (of_uint t.durable) fit0).1 in
    let fit2 = (c.in_ok-expiry_policy.ensures.only (lent_symbol t.expiry_policy) (others3 t) (of_symbol t.expiry_policy) fit1).1 in
    let fit3 = (c.in_ok-timeout.ensures.only (optional uint t.timeout) (others4 t) (of_uint t.timeout) fit2).1 in
    let fit4 = (c.in_ok-dynamic.ensures.only (optional boolean t.dynamic) (others5 t) (of_boolean t.dynamic) fit3).1 in
    c.in_err-dynamic_node_properties.ensures (lent_mapping t.dynamic_node_properties) (others6 t) (of_mapping t.dynamic_node_properties) fit4)

pub returns-in_err-capabilities : goal.returns-in_err-capabilities
returns-in_err-capabilities c = rw c.from_residual-in_err-capabilities.ensures (λ t fair whole.
    let fit = listed (target_fields t) target_type (view c.args.value.now) (views c.in_ok-fields.fields.now) c.in_ok-fields.ensures whole in
    let fit0 = (c.in_ok-address.ensures.only (lent_any t.address) (others1 t) (of_any t.address fair.0) fit).1 in
    let fit1 = (c.in_ok-durable.ensures.only (optional uint t.durable) (others2 t) (of_uint t.durable) fit0).1 in
    let fit2 = (c.in_ok-expiry_policy.ensures.only (lent_symbol t.expiry_policy) (others3 t) (of_symbol t.expiry_policy) fit1).1 in
    let fit3 = (c.in_ok-timeout.ensures.only (optional uint t.timeout) (others4 t) (of_uint t.timeout) fit2).1 in
    let fit4 = (c.in_ok-dynamic.ensures.only (optional boolean t.dynamic) (others5 t) (of_boolean t.dynamic) fit3).1 in
    let fit5 = (c.in_ok-dynamic_node_properties.ensures.only (lent_mapping t.dynamic_node_properties) (others6 t) (of_mapping t.dynamic_node_properties) fit4).1 in
    c.in_err-capabilities.ensures (lent_any t.capabilities) (others7 t) (of_any t.capabilities fair.1) fit5)

pub returns-then-not-are_null : goal.returns-then-not-are_null
returns-then-not-are_null c = λ t fair whole.
    let fit = listed (target_fields t) target_type (view c.args.value.now) (views c.in_ok-fields.fields.now) c.in_ok-fields.ensures whole in
    let fit0 = (c.in_ok-address.ensures.only (lent_any t.address) (others1 t) (of_any t.address fair.0) fit).1 in
    let fit1 = (c.in_ok-durable.ensures.only (optional uint t.durable) (others2 t) (of_uint t.durable) fit0).1 in
    let fit2 = (c.in_ok-expiry_policy.ensures.only (lent_symbol t.expiry_policy) (others3 t) (of_symbol t.expiry_policy) fit1).1 in
    let fit3 = (c.in_ok-timeout.ensures.only (optional uint t.timeout) (others4 t) (of_uint t.timeout) fit2).1 in
    let fit4 = (c.in_ok-dynamic.ensures.only (optional boolean t.dynamic) (others5 t) (of_boolean t.dynamic) fit3).1 in
    let fit5 = (c.in_ok-dynamic_node_properties.ensures.only (lent_mapping t.dynamic_node_properties) (others6 t) (of_mapping t.dynamic_node_properties) fit4).1 in
    let fit6 = (c.in_ok-capabilities.ensures.only (lent_any t.capabilities) (others7 t) (of_any t.capabilities fair.1) fit5).1 in
    let q = c.are_null.ensures.1 fit6 in
    cc

pub returns : goal.returns
returns c =
    let t : Target = record { address = c.in_ok-address.address; durable = c.in_ok-durable.durable; expiry_policy = c.in_ok-expiry_policy.expiry_policy; timeout = c.in_ok-timeout.timeout; dynamic = c.in_ok-dynamic.dynamic; dynamic_node_properties = c.in_ok-dynamic_node_properties.dynamic_node_properties; capabilities = c.in_ok-capabilities.capabilities } in
    ((any_of c.in_ok-address.address c.in_ok-address.ensures.of, any_of c.in_ok-capabilities.capabilities c.in_ok-capabilities.ensures.of), (c.in_ok-fields.ensures.0, views c.in_ok-fields.fields.now, c.in_ok-fields.ensures.1, c.in_ok-address.ensures.there (others1 t) (c.in_ok-durable.ensures.there (others2 t) (c.in_ok-expiry_policy.ensures.there (others3 t) (c.in_ok-timeout.ensures.there (others4 t) (c.in_ok-dynamic.ensures.there (others5 t) (c.in_ok-dynamic_node_properties.ensures.there (others6 t) (c.in_ok-capabilities.ensures.there (others7 t) (c.are_null.ensures.0 c.if-not-are_null.false))))))), c.in_ok-fields.ensures.2))
