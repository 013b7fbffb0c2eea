use Rattle.std.proofs.Common.{[], sym}
use Rattle.std.proofs.lemmas.List.{append-nil}
use Rattle.amqp_decoder.specs.Borrowed.{datum_in}
use Rattle.amqp_decoder.proofs.SeenValues.{whole_spelled}
use Rattle.amqp_decoder.proofs.borrowed.ValueRef.owned.Goals as goal

pub returns-in-Ok : goal.returns-in-Ok
returns-in-Ok c = let os = c.args.self.octets.now in (c.in-Ok.ensures.only (datum_in os) os [] (whole_spelled os c.args.self.whole) (sym (append-nil os))).0
