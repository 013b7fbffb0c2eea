use Rattle.std.proofs.Common.{◌≡◌, ◌*◌, suc, true, leb, length, None, ◌∙◌, arith}
use Rattle.std.proofs.lemmas.Bool.{le-leb}
use Rattle.amqp_types.specs.declared.forms.Head.TheVariants as head
use Rattle.amqp_types.specs.Datum.{map, greatest_depth_of}
use Rattle.amqp_types.specs.Canon.{map_draft}
use Rattle.amqp_types.specs.View.{views_of_pairs}
use Rattle.amqp_types.proofs.Spelled.{capped_some, map_drafted, map_head_of, part_len_from}
use Rattle.amqp_types.proofs.within.map_size_within.Goals as goal

pub returns : goal.returns
returns c =
    let s = capped_some _ c.in_ok-size.size c.in_ok-size.ensures in
    let e : leb (suc (greatest_depth_of (views_of_pairs c.args.pairs.now))) c.args.depth ≡ true = le-leb _ _ (omega (arith, c.pairs_are_within.ensures.0 c.if-not-pairs_are_within.false)) in
    rw e (c.spelled_len.ensures ∙ part_len_from (map (views_of_pairs c.args.pairs.now)) (map_draft (2 * length c.args.pairs.now) s.0) (head.Map (2 * length c.args.pairs.now) c.in_ok-size.size) None c.in_ok-size.size
    (map_drafted c.args.pairs.now s.0 s.1) (map_head_of (2 * length c.args.pairs.now) c.in_ok-size.size s.0 s.2) s.2)
