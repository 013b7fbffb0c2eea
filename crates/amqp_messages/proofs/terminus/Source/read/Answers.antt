use Rattle.amqp_types.specs.View.{view, views}
use Rattle.amqp_performatives.specs.Part.{Fields, no_field}
use Rattle.amqp_messages.specs.declared.terminus.Source.{Source}
use Rattle.amqp_performatives.specs.Bodies.{optional, uint, boolean, ◌▸◌}
use Rattle.amqp_messages.specs.Fields.{lent_any, lent_symbol, lent_mapping}
use Rattle.amqp_messages.specs.Termini.{source_type, source_fields}
use Rattle.amqp_messages.proofs.FieldLaws.{of_any, of_uint, of_symbol, of_boolean, of_mapping, any_of}
use Rattle.amqp_messages.proofs.Descriptors.{listed}
use Rattle.amqp_messages.proofs.terminus.Source.read.Goals as goal

-- the fields behind each
abbrev others11 : Source → Fields
others11 s = no_field

abbrev others10 : Source → Fields
others10 s = lent_any s.capabilities ▸ others11 s

abbrev others9 : Source → Fields
others9 s = lent_any s.outcomes ▸ others10 s

abbrev others8 : Source → Fields
others8 s = lent_any s.default_outcome ▸ others9 s

abbrev others7 : Source → Fields
others7 s = lent_mapping s.filter ▸ others8 s

abbrev others6 : Source → Fields
others6 s = lent_symbol s.distribution_mode ▸ others7 s

abbrev others5 : Source → Fields
others5 s = lent_mapping s.dynamic_node_properties ▸ others6 s

abbrev others4 : Source → Fields
others4 s = optional boolean s.dynamic ▸ others5 s

abbrev others3 : Source → Fields
others3 s = optional uint s.timeout ▸ others4 s

abbrev others2 : Source → Fields
others2 s = lent_symbol s.expiry_policy ▸ others3 s

abbrev others1 : Source → Fields
others1 s = optional uint s.durable ▸ others2 s

pub returns-in_err-fields : goal.returns-in_err-fields
returns-in_err-fields c = rw c.from_residual.ensures (λ s fair whole. c.in_err-fields.ensures whole.1 (whole.0, whole.2, whole.4))

pub returns-in_err-address : goal.returns-in_err-address
returns-in_err-address c = rw c.from_residual-in_err-address.ensures (λ s fair whole.
    let fit = listed (source_fields s) source_type (view c.args.value.now) (views c.in_ok-fields.fields.now) c.in_ok-fields.ensures whole in
    c.in_err-address.ensures (lent_any s.address) (others1 s) (of_any s.address fair.0) fit)

pub returns-in_err-durable : goal.returns-in_err-durable
returns-in_err-durable c = rw c.from_residual-in_err-durable.ensures (λ s fair whole.
    let fit = listed (source_fields s) source_type (view c.args.value.now) (views c.in_ok-fields.fields.now) c.in_ok-fields.ensures whole in
    let fit0 = (c.in_ok-address.ensures.only (lent_any s.address) (others1 s) (of_any s.address fair.0) fit).1 in
    c.in_err-durable.ensures (optional uint s.durable) (others2 s) (of_uint s.durable) fit0)

pub returns-in_err-expiry_policy : goal.returns-in_err-expiry_policy
returns-in_err-expiry_policy c = rw c.from_residual-in_err-expiry_policy.ensures (λ s fair whole.
    let fit = listed (source_fields s) source_type (view c.args.value.now) (views c.in_ok-fields.fields.now) c.in_ok-fields.ensures whole in
    let fit0 = (c.in_ok-address.ensures.only (lent_any s.address) (others1 s) (of_any s.address fair.0) fit).1 in
    let fit1 = (c.in_ok-durable.ensures.only (optional uint s.durable) (others2 s) (of_uint s.durable) fit0).1 in
    c.in_err-expiry_policy.ensures (lent_symbol s.expiry_policy) (others3 s) (of_symbol s.expiry_policy) fit1)

pub returns-in_err-timeout : goal.returns-in_err-timeout
returns-in_err-timeout c = rw c.from_residual-in_err-timeout.ensures (λ s fair whole.
    let fit = listed (source_fields s) source_type (view c.args.value.now) (views c.in_ok-fields.fields.now) c.in_ok-fields.ensures whole in
    let fit0 = (c.in_ok-address.ensures.only (lent_any s.address) (others1 s) (of_any s.address fair.0) fit).1 in
    let fit1 = (c.in_ok-durable.ensures.only (optional uint s.durable) (others2 s) (of_uint s.durable) fit0).1 in
    let fit2 = (c.in_ok-expiry_policy.ensures.only (lent_symbol s.expiry_policy) (others3 s) (of_symbol s.expiry_policy) fit1).1 in
    c.in_err-timeout.ensures (optional uint s.timeout) (others4 s) (of_uint s.timeout) fit2)

pub returns-in_err-dynamic : goal.returns-in_err-dynamic
returns-in_err-dynamic c = rw c.from_residual-in_err-dynamic.ensures (λ s fair whole.
    let fit = listed (source_fields s) source_type (view c.args.value.now) (views c.in_ok-fields.fields.now) c.in_ok-fields.ensures whole in
    let fit0 = (c.in_ok-address.ensures.only (lent_any s.address) (others1 s) (of_any s.address fair.0) fit).1 in
    let fit1 = (c.in_ok-durable.ensures.only (optional uint s.durable) (others2 s) (of_uint s.durable) fit0).1 in
    let fit2 = (c.in_ok-expiry_policy.ensures.only (lent_symbol s.expiry_policy) (others3 s) (of_symbol s.expiry_policy) fit1).1 in
    let fit3 = (c.in_ok-timeout.ensures.only (optional uint s.timeout) (others4 s) (of_uint s.timeout) fit2).1 in
    c.in_err-dynamic.ensures (optional boolean s.dynamic) (others5 s) (of_boolean s.dynamic) fit3)

pub returns-in_err-dynamic_node_properties : goal.returns-in_err-dynamic_node_properties
returns-in_err-dynamic_node_properties c = rw c.from_residual-in_err-dynamic_node_properties.ensures (λ s fair whole.
    let fit = listed (source_fields s) source_type (view c.args.value.now) (views c.in_ok-fields.fields.now) c.in_ok-fields.ensures whole in
    let fit0 = (c.in_ok-address.ensures.only (lent_any s.address) (others1 s) (of_any s.address fair.0) fit).1 in
    let fit1 = (c.in_ok-durable.ensures.only (optional uint s.durable) (others2 s) (of_uint s.durable) fit0).1 in
    let fit2 = (c.in_ok-expiry_policy.ensures.only (lent_symbol s.expiry_policy) (others3 s) (of_symbol s.expiry_policy) fit1).1 in
    let fit3 = (c.in_ok-timeout.ensures.only (optional uint s.timeout) (others4 s) (of_uint s.timeout) fit2).1 in
    let fit4 = (c.in_ok-dynamic.ensures.only (optional boolean s.dynamic) (others5 s) (of_boolean s.dynamic) fit3).1 in
    c.in_err-dynamic_node_properties.ensures (lent_mapping s.dynamic_node_properties) (others6 s) (of_mapping s.dynamic_node_properties) fit4)

pub returns-in_err-distribution_mode : goal.returns-in_err-distribution_mode
returns-in_err-distribution_mode c = rw c.from_residual-in_err-distribution_mode.ensures (λ s fair whole.
    let fit = listed (source_fields s) source_type (view c.args.value.now) (views c.in_ok-fields.fields.now) c.in_ok-fields.ensures whole in
    let fit0 = (c.in_ok-address.ensures.only (lent_any s.address) (others1 s) (of_any s.address fair.0) fit).1 in
    let fit1 = (c.in_ok-durable.ensures.only (optional uint s.durable) (others2 s) (of_uint s.durable) fit0).1 in
    let fit2 = (c.in_ok-expiry_policy.ensures.only (lent_symbol s.expiry_policy) (others3 s) (of_symbol s.expiry_policy) fit1).1 in
    let fit3 = (c.in_ok-timeout.ensures.only (optional uint s.timeout) (others4 s) (of_uint s.timeout) fit2).1 in
    let fit4 = (c.in_ok-dynamic.ensures.only (optional boolean s.dynamic) (others5 s) (of_boolean s.dynamic) fit3).1 in
    let fit5 = (c.in_ok-dynamic_node_properties.ensures.only (lent_mapping s.dynamic_node_properties) (others6 s) (of_mapping s.dynamic_node_properties) fit4).1 in
    c.in_err-distribution_mode.ensures (lent_symbol s.distribution_mode) (others7 s) (of_symbol s.distribution_mode) fit5)

pub returns-in_err-filter : goal.returns-in_err-filter
returns-in_err-filter c = rw c.from_residual-in_err-filter.ensures (λ s fair whole.
    let fit = listed (source_fields s) source_type (view c.args.value.now) (views c.in_ok-fields.fields.now) c.in_ok-fields.ensures whole in
    let fit0 = (c.in_ok-address.ensures.only (lent_any s.address) (others1 s) (of_any s.address fair.0) fit).1 in
    let fit1 = (c.in_ok-durable.ensures.only (optional uint s.durable) (others2 s) (of_uint s.durable) fit0).1 in
    let fit2 = (c.in_ok-expiry_policy.ensures.only (lent_symbol s.expiry_policy) (others3 s) (of_symbol s.expiry_policy) fit1).1 in
    let fit3 = (c.in_ok-timeout.ensures.only (optional uint s.timeout) (others4 s) (of_uint s.timeout) fit2).1 in
    let fit4 = (c.in_ok-dynamic.ensures.only (optional boolean s.dynamic) (others5 s) (of_boolean s.dynamic) fit3).1 in
    let fit5 = (c.in_ok-dynamic_node_properties.ensures.only (lent_mapping s.dynamic_node_properties) (others6 s) (of_mapping s.dynamic_node_properties) fit4).1 in
    let fit6 = (c.in_ok-distribution_mode.ensures.only (lent_symbol s.distribution_mode) (others7 s) (of_symbol s.distribution_mode) fit5).1 in
    c.in_err-filter.ensures (lent_mapping s.filter) (others8 s) (of_mapping s.filter) fit6)

pub returns-in_err-default_outcome : goal.returns-in_err-default_outcome
returns-in_err-default_outcome c = rw c.from_residual-in_err-default_outcome.ensures (λ s fair whole.
    let fit = listed (source_fields s) source_type (view c.args.value.now) (views c.in_ok-fields.fields.now) c.in_ok-fields.ensures whole in
    let fit0 = (c.in_ok-address.ensures.only (lent_any s.address) (others1 s) (of_any s.address fair.0) fit).1 in
    let fit1 = (c.in_ok-durable.ensures.only (optional uint s.durable) (others2 s) (of_uint s.durable) fit0).1 in
    let fit2 = (c.in_ok-expiry_policy.ensures.only (lent_symbol s.expiry_policy) (others3 s) (of_symbol s.expiry_policy) fit1).1 in
    let fit3 = (c.in_ok-timeout.ensures.only (optional uint s.timeout) (others4 s) (of_uint s.timeout) fit2).1 in
    let fit4 = (c.in_ok-dynamic.ensures.only (optional boolean s.dynamic) (others5 s) (of_boolean s.dynamic) fit3).1 in
    let fit5 = (c.in_ok-dynamic_node_properties.ensures.only (lent_mapping s.dynamic_node_properties) (others6 s) (of_mapping s.dynamic_node_properties) fit4).1 in
    let fit6 = (c.in_ok-distribution_mode.ensures.only (lent_symbol s.distribution_mode) (others7 s) (of_symbol s.distribution_mode) fit5).1 in
    let fit7 = (c.in_ok-filter.ensures.only (lent_mapping s.filter) (others8 s) (of_mapping s.filter) fit6).1 in
    c.in_err-default_outcome.ensures (lent_any s.default_outcome) (others9 s) (of_any s.default_outcome fair.1) fit7)

pub returns-in_err-outcomes : goal.returns-in_err-outcomes
returns-in_err-outcomes c = rw c.from_residual-in_err-outcomes.ensures (λ s fair whole.
    let fit = listed (source_fields s) source_type (view c.args.value.now) (views c.in_ok-fields.fields.now) c.in_ok-fields.ensures whole in
    let fit0 = (c.in_ok-address.ensures.only (lent_any s.address) (others1 s) (of_any s.address fair.0) fit).1 in
    let fit1 = (c.in_ok-durable.ensures.only (optional uint s.durable) (others2 s) (of_uint s.durable) fit0).1 in
    let fit2 = (c.in_ok-expiry_policy.ensures.only (lent_symbol s.expiry_policy) (others3 s) (of_symbol s.expiry_policy) fit1).1 in
    let fit3 = (c.in_ok-timeout.ensures.only (optional uint s.timeout) (others4 s) (of_uint s.timeout) fit2).1 in
    let fit4 = (c.in_ok-dynamic.ensures.only (optional boolean s.dynamic) (others5 s) (of_boolean s.dynamic) fit3).1 in
    let fit5 = (c.in_ok-dynamic_node_properties.ensures.only (lent_mapping s.dynamic_node_properties) (others6 s) (of_mapping s.dynamic_node_properties) fit4).1 in
    let fit6 = (c.in_ok-distribution_mode.ensures.only (lent_symbol s.distribution_mode) (others7 s) (of_symbol s.distribution_mode) fit5).1 in
    let fit7 = (c.in_ok-filter.ensures.only (lent_mapping s.filter) (others8 s) (of_mapping s.filter) fit6).1 in
    let fit8 = (c.in_ok-default_outcome.ensures.only (lent_any s.default_outcome) (others9 s) (of_any s.default_outcome fair.1) fit7).1 in
    c.in_err-outcomes.ensures (lent_any s.outcomes) (others10 s) (of_any s.outcomes fair.2) fit8)

pub returns-in_err-capabilities : goal.returns-in_err-capabilities
returns-in_err-capabilities c = rw c.from_residual-in_err-capabilities.ensures (λ s fair whole.
    let fit = listed (source_fields s) source_type (view c.args.value.now) (views c.in_ok-fields.fields.now) c.in_ok-fields.ensures whole in
    let fit0 = (c.in_ok-address.ensures.only (lent_any s.address) (others1 s) (of_any s.address fair.0) fit).1 in
    let fit1 = (c.in_ok-durable.ensures.only (optional uint s.durable) (others2 s) (of_uint s.durable) fit0).1 in
    let fit2 = (c.in_ok-expiry_policy.ensures.only (lent_symbol s.expiry_policy) (others3 s) (of_symbol s.expiry_policy) fit1).1 in
    let fit3 = (c.in_ok-timeout.ensures.only (optional uint s.timeout) (others4 s) (of_uint s.timeout) fit2).1 in
    let fit4 = (c.in_ok-dynamic.ensures.only (optional boolean s.dynamic) (others5 s) (of_boolean s.dynamic) fit3).1 in
    let fit5 = (c.in_ok-dynamic_node_properties.ensures.only (lent_mapping s.dynamic_node_properties) (others6 s) (of_mapping s.dynamic_node_properties) fit4).1 in
    let fit6 = (c.in_ok-distribution_mode.ensures.only (lent_symbol s.distribution_mode) (others7 s) (of_symbol s.distribution_mode) fit5).1 in
    let fit7 = (c.in_ok-filter.ensures.only (lent_mapping s.filter) (others8 s) (of_mapping s.filter) fit6).1 in
    let fit8 = (c.in_ok-default_outcome.ensures.only (lent_any s.default_outcome) (others9 s) (of_any s.default_outcome fair.1) fit7).1 in
    let fit9 = (c.in_ok-outcomes.ensures.only (lent_any s.outcomes) (others10 s) (of_any s.outcomes fair.2) fit8).1 in
    c.in_err-capabilities.ensures (lent_any s.capabilities) (others11 s) (of_any s.capabilities fair.3) fit9)

pub returns-then-not-are_null : goal.returns-then-not-are_null
returns-then-not-are_null c = λ s fair whole.
    let fit = listed (source_fields s) source_type (view c.args.value.now) (views c.in_ok-fields.fields.now) c.in_ok-fields.ensures whole in
    let fit0 = (c.in_ok-address.ensures.only (lent_any s.address) (others1 s) (of_any s.address fair.0) fit).1 in
    let fit1 = (c.in_ok-durable.ensures.only (optional uint s.durable) (others2 s) (of_uint s.durable) fit0).1 in
    let fit2 = (c.in_ok-expiry_policy.ensures.only (lent_symbol s.expiry_policy) (others3 s) (of_symbol s.expiry_policy) fit1).1 in
    let fit3 = (c.in_ok-timeout.ensures.only (optional uint s.timeout) (others4 s) (of_uint s.timeout) fit2).1 in
    let fit4 = (c.in_ok-dynamic.ensures.only (optional boolean s.dynamic) (others5 s) (of_boolean s.dynamic) fit3).1 in
    let fit5 = (c.in_ok-dynamic_node_properties.ensures.only (lent_mapping s.dynamic_node_properties) (others6 s) (of_mapping s.dynamic_node_properties) fit4).1 in
    let fit6 = (c.in_ok-distribution_mode.ensures.only (lent_symbol s.distribution_mode) (others7 s) (of_symbol s.distribution_mode) fit5).1 in
    let fit7 = (c.in_ok-filter.ensures.only (lent_mapping s.filter) (others8 s) (of_mapping s.filter) fit6).1 in
    let fit8 = (c.in_ok-default_outcome.ensures.only (lent_any s.default_outcome) (others9 s) (of_any s.default_outcome fair.1) fit7).1 in
    let fit9 = (c.in_ok-outcomes.ensures.only (lent_any s.outcomes) (others10 s) (of_any s.outcomes fair.2) fit8).1 in
    let fit10 = (c.in_ok-capabilities.ensures.only (lent_any s.capabilities) (others11 s) (of_any s.capabilities fair.3) fit9).1 in
    let q = c.are_null.ensures.1 fit10 in
    cc

pub returns : goal.returns
returns c =
    let s : Source = record { address = c.in_ok-address.address; durable = c.in_ok-durable.durable; expiry_policy = c.in_ok-expiry_policy.expiry_policy; timeout = c.in_ok-timeout.timeout; dynamic = c.in_ok-dynamic.dynamic; dynamic_node_properties = c.in_ok-dynamic_node_properties.dynamic_node_properties; distribution_mode = c.in_ok-distribution_mode.distribution_mode; filter = c.in_ok-filter.filter; default_outcome = c.in_ok-default_outcome.default_outcome; outcomes = c.in_ok-outcomes.outcomes; capabilities = c.in_ok-capabilities.capabilities } in
    ((any_of c.in_ok-address.address c.in_ok-address.ensures.of, any_of c.in_ok-default_outcome.default_outcome c.in_ok-default_outcome.ensures.of, any_of c.in_ok-outcomes.outcomes c.in_ok-outcomes.ensures.of, any_of c.in_ok-capabilities.capabilities c.in_ok-capabilities.ensures.of), (c.in_ok-fields.ensures.0, views c.in_ok-fields.fields.now, c.in_ok-fields.ensures.1, c.in_ok-address.ensures.there (others1 s) (c.in_ok-durable.ensures.there (others2 s) (c.in_ok-expiry_policy.ensures.there (others3 s) (c.in_ok-timeout.ensures.there (others4 s) (c.in_ok-dynamic.ensures.there (others5 s) (c.in_ok-dynamic_node_properties.ensures.there (others6 s) (c.in_ok-distribution_mode.ensures.there (others7 s) (c.in_ok-filter.ensures.there (others8 s) (c.in_ok-default_outcome.ensures.there (others9 s) (c.in_ok-outcomes.ensures.there (others10 s) (c.in_ok-capabilities.ensures.there (others11 s) (c.are_null.ensures.0 c.if-not-are_null.false))))))))))), c.in_ok-fields.ensures.2))
