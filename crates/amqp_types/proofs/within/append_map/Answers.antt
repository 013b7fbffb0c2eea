use Rattle.std.proofs.Common.{◌*◌, length, None, sym, ◌∙◌}
use Rattle.std.proofs.lemmas.Result.{err_from_is_err_and}
use Rattle.amqp_types.specs.declared.forms.Head.TheVariants as head
use Rattle.amqp_types.specs.Datum.{map}
use Rattle.amqp_types.specs.Canon.{map_draft, parts_form}
use Rattle.amqp_types.specs.View.{views_of_pairs}
use Rattle.amqp_types.proofs.Spelled.{capped_some, map_drafted, map_head_of, fails_head, put_parts_behind}
use Rattle.amqp_types.proofs.within.append_map.Goals as goal

pub returns-in_err-put_spelled_head : goal.returns-in_err-put_spelled_head
returns-in_err-put_spelled_head c =
    let p = err_from_is_err_and c.from_residual-in_err-put_spelled_head.result c.from_residual-in_err-put_spelled_head.ensures.1 in
    let s = capped_some (parts_form (views_of_pairs c.args.pairs.now) None) c.in_ok-size.size (sym c.in_ok-size.ensures.ok_part ∙ c.pairs_len.ensures) in
    rw (p.1, p.2) (fails_head (map (views_of_pairs c.args.pairs.now)) (map_draft (2 * length c.args.pairs.now) s.0) (head.Map (2 * length c.args.pairs.now) c.in_ok-size.size) None (map_drafted c.args.pairs.now s.0 s.1) (map_head_of (2 * length c.args.pairs.now) c.in_ok-size.size s.0 s.2) c.in_err-put_spelled_head.field-0.0 c.args.out.now.items c.put_spelled_head.new.out.items c.in_err-put_spelled_head.ensures)

pub returns : goal.returns
returns c =
    let s = capped_some (parts_form (views_of_pairs c.args.pairs.now) None) c.in_ok-size.size (sym c.in_ok-size.ensures.ok_part ∙ c.pairs_len.ensures) in
    put_parts_behind (map (views_of_pairs c.args.pairs.now)) (map_draft (2 * length c.args.pairs.now) s.0) (head.Map (2 * length c.args.pairs.now) c.in_ok-size.size) None (map_drafted c.args.pairs.now s.0 s.1) (map_head_of (2 * length c.args.pairs.now) c.in_ok-size.size s.0 s.2) (parts_form (views_of_pairs c.args.pairs.now) None) s.1 c.put_pairs.result c.args.out.now.items c.put_spelled_head.new.out.items c.put_pairs.new.out.items c.in_ok-put_spelled_head.ensures c.put_pairs.ensures
