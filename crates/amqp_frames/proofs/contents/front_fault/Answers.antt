use Rattle.std.proofs.Common.{◌++◌, ◌∙◌, sym, length-append}
use Rattle.amqp_frames.proofs.Cuts.{none_found, transfer_found, whole_found, other_found}
use Rattle.amqp_frames.proofs.contents.front_fault.Goals as goal

pub returns-in_default : goal.returns-in_default
returns-in_default c = none_found c.args.octets.now c.args.others.now c.requires c.in_default.ensures

pub returns-then-found : goal.returns-then-found
returns-then-found c = transfer_found (c.args.octets.now ++ c.args.others.now) c.in-Some.found c.in-Some.ensures c.if-found.true

pub returns-then-found-octets : goal.returns-then-found-octets
returns-then-found-octets c = whole_found (c.args.octets.now ++ c.args.others.now) c.in-Some.found c.in-Some.ensures (c.if-found-octets.true ∙ sym (length-append c.args.octets.now c.args.others.now))

pub returns : goal.returns
returns c = other_found (c.args.octets.now ++ c.args.others.now) c.in-Some.found c.in-Some.ensures c.if-found.false (λ u. c.if-found-octets.false (u ∙ length-append c.args.octets.now c.args.others.now))
