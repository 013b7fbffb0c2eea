use Rattle.std.proofs.Common.{ℕ, ◌<◌, drop, get_or, arith, rules}
use Rattle.amqp_frames.proofs.Runs.{header_parts}
use Rattle.amqp_frames.proofs.header.examine.Goals as goal

pub returns : goal.returns
returns c =
    let octets_fit : (i : ℕ) → get_or c.args.octets.now i 0 < 256 = λ i. let fit = c.type_inv.octets i in search rules in
    record {
      size_fits = c.from_be_bytes-size.type_inv;
      octet = octets_fit 4;
      channel = c.from_be_bytes.type_inv;
      low = c.if-doff-lt2.false;
      high = omega arith;
      small = c.if-max-size.false;
      rest = drop 8 c.args.octets.now;
      parts = header_parts c.args.octets.now _ _ octets_fit c.if-octets-lt8.false c.from_be_bytes-size.ensures c.from_be_bytes.ensures c.if-octets-ne0.false;
    }
