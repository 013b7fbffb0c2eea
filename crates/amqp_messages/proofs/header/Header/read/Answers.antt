use Rattle.amqp_performatives.specs.Part.{Fields, no_field}
use Rattle.amqp_messages.specs.declared.header.Header.{Header}
use Rattle.amqp_performatives.specs.Bodies.{optional, boolean, ubyte, uint, ◌▸◌}
use Rattle.amqp_messages.proofs.FieldLaws.{of_boolean, of_ubyte, of_uint}
use Rattle.amqp_messages.proofs.header.Header.read.Goals as goal

-- the fields behind each
abbrev others5 : Header → Fields
others5 h = no_field

abbrev others4 : Header → Fields
others4 h = optional uint h.delivery_count ▸ others5 h

abbrev others3 : Header → Fields
others3 h = optional boolean h.first_acquirer ▸ others4 h

abbrev others2 : Header → Fields
others2 h = optional uint h.ttl ▸ others3 h

abbrev others1 : Header → Fields
others1 h = optional ubyte h.priority ▸ others2 h

pub returns-in_err-durable : goal.returns-in_err-durable
returns-in_err-durable c = rw c.from_residual.ensures (λ h fit. c.in_err-durable.ensures (optional boolean h.durable) (others1 h) (of_boolean h.durable) fit)

pub returns-in_err-priority : goal.returns-in_err-priority
returns-in_err-priority c = rw c.from_residual-in_err-priority.ensures (λ h fit.
    let fit0 = (c.in_ok-durable.ensures.only (optional boolean h.durable) (others1 h) (of_boolean h.durable) fit).1 in
    c.in_err-priority.ensures (optional ubyte h.priority) (others2 h) (of_ubyte h.priority) fit0)

pub returns-in_err-ttl : goal.returns-in_err-ttl
returns-in_err-ttl c = rw c.from_residual-in_err-ttl.ensures (λ h fit.
    let fit0 = (c.in_ok-durable.ensures.only (optional boolean h.durable) (others1 h) (of_boolean h.durable) fit).1 in
    let fit1 = (c.in_ok-priority.ensures.only (optional ubyte h.priority) (others2 h) (of_ubyte h.priority) fit0).1 in
    c.in_err-ttl.ensures (optional uint h.ttl) (others3 h) (of_uint h.ttl) fit1)

pub returns-in_err-first_acquirer : goal.returns-in_err-first_acquirer
returns-in_err-first_acquirer c = rw c.from_residual-in_err-first_acquirer.ensures (λ h fit.
    let fit0 = (c.in_ok-durable.ensures.only (optional boolean h.durable) (others1 h) (of_boolean h.durable) fit).1 in
    let fit1 = (c.in_ok-priority.ensures.only (optional ubyte h.priority) (others2 h) (of_ubyte h.priority) fit0).1 in
    let fit2 = (c.in_ok-ttl.ensures.only (optional uint h.ttl) (others3 h) (of_uint h.ttl) fit1).1 in
    c.in_err-first_acquirer.ensures (optional boolean h.first_acquirer) (others4 h) (of_boolean h.first_acquirer) fit2)

pub returns-in_err-delivery_count : goal.returns-in_err-delivery_count
returns-in_err-delivery_count c = rw c.from_residual-in_err-delivery_count.ensures (λ h fit.
    let fit0 = (c.in_ok-durable.ensures.only (optional boolean h.durable) (others1 h) (of_boolean h.durable) fit).1 in
    let fit1 = (c.in_ok-priority.ensures.only (optional ubyte h.priority) (others2 h) (of_ubyte h.priority) fit0).1 in
    let fit2 = (c.in_ok-ttl.ensures.only (optional uint h.ttl) (others3 h) (of_uint h.ttl) fit1).1 in
    let fit3 = (c.in_ok-first_acquirer.ensures.only (optional boolean h.first_acquirer) (others4 h) (of_boolean h.first_acquirer) fit2).1 in
    c.in_err-delivery_count.ensures (optional uint h.delivery_count) (others5 h) (of_uint h.delivery_count) fit3)

pub returns-then-not-are_null : goal.returns-then-not-are_null
returns-then-not-are_null c = λ h fit.
    let fit0 = (c.in_ok-durable.ensures.only (optional boolean h.durable) (others1 h) (of_boolean h.durable) fit).1 in
    let fit1 = (c.in_ok-priority.ensures.only (optional ubyte h.priority) (others2 h) (of_ubyte h.priority) fit0).1 in
    let fit2 = (c.in_ok-ttl.ensures.only (optional uint h.ttl) (others3 h) (of_uint h.ttl) fit1).1 in
    let fit3 = (c.in_ok-first_acquirer.ensures.only (optional boolean h.first_acquirer) (others4 h) (of_boolean h.first_acquirer) fit2).1 in
    let fit4 = (c.in_ok-delivery_count.ensures.only (optional uint h.delivery_count) (others5 h) (of_uint h.delivery_count) fit3).1 in
    let q = c.are_null.ensures.1 fit4 in
    cc

pub returns : goal.returns
returns c =
    let h : Header = record { durable = c.in_ok-durable.durable; priority = c.in_ok-priority.priority; ttl = c.in_ok-ttl.ttl; first_acquirer = c.in_ok-first_acquirer.first_acquirer; delivery_count = c.in_ok-delivery_count.delivery_count } in
    c.in_ok-durable.ensures.there (others1 h) (c.in_ok-priority.ensures.there (others2 h) (c.in_ok-ttl.ensures.there (others3 h) (c.in_ok-first_acquirer.ensures.there (others4 h) (c.in_ok-delivery_count.ensures.there (others5 h) (c.are_null.ensures.0 c.if-not-are_null.false)))))
