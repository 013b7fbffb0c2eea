use Rattle.std.specs.Cmp.Lexicographic.{bytes_decides}
use Rattle.amqp_types.proofs.Equal.{equal_same, same_equal}
use Rattle.amqp_types.proofs.equality.equal_is_same.Goals as goal

pub returns : goal.returns
returns c = record {
  values = λ a b. (equal_same a b, same_equal a b);
  texts = bytes_decides;
  tags = bytes_decides;
}
