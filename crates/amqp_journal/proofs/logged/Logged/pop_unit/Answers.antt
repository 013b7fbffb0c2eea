use Rattle.std.proofs.Common.{◌≡◌, Some, ap, subst}
use Rattle.std.specs.Prelude.{slice_get}
use Rattle.amqp_journal.specs.Log.{Log, popping}
use Rattle.amqp_journal.specs.Units.{units}
use Rattle.amqp_journal.proofs.Keeping.{log_of, kept-popped, popped-first}
use Rattle.amqp_journal.proofs.Counting.{counted-first}
use Rattle.amqp_journal.proofs.logged.Logged.pop_unit.Goals as goal

pub invariant_of-self-2 : goal.invariant_of-self-2
invariant_of-self-2 c =
    let s = c.self.inside in
    let l : Log = log_of s.config s.gone.items s.journal.items s.put.items s.popped s.left.items in
    let bytes = c.in_ok-bytes.bytes in
    let left = c.pop_front.new.self.items in
    let first = c.in_ok-bytes.ensures.items in (
      kept-popped l s.endpoint s.waiting.items left bytes c.self.invariant.0 first,
      counted-first s.octets c.len.result c.saturating_sub-self-inside.result s.waiting.items left bytes c.self.invariant.1 first c.len.ensures c.saturating_sub-self-inside.ensures,
    )

pub returns-clause-some : goal.returns-clause-some
returns-clause-some c =
    let s = c.self.inside in
    let l : Log = log_of s.config s.gone.items s.journal.items s.put.items s.popped s.left.items in
    let bytes = c.in_ok-bytes.bytes in
    let first = c.in_ok-bytes.ensures.items in (
      ap (λ (x : Log). x.popped) c.self.view_is,
      subst (λ (x : Log). slice_get (units x) x.popped ≡ Some bytes) c.self.view_is (popped-first l s.endpoint s.waiting.items c.pop_front.new.self.items bytes c.self.invariant.0 first),
      ap popping c.self.view_is,
    )
