use Rattle.std.proofs.Common.{◌∙◌, Some, None, ap, sym, find, rules}
use Rattle.amqp_rules.specs.View.{LinkView, has_number}
use Rattle.amqp_endpoint.proofs.endpoint.Endpoint.check_abort.Goals as goal

pub returns-clause-taken : goal.returns-clause-taken
returns-clause-taken c =
    let on : LinkView = c.in-Some.found.link.now in
    let there = ap (λ e. find (has_number c.args.link) e.stores.links.list) c.self-inside.view_is in
    let M = c.marks-marks.ensures in
    rw (← c.self.view_is)
    record {
      taken = record {
        on = on;
        mapped = search rules;
        found = sym (c.in-Some.ensures ∙ there);
        free = search rules;
        handle = c.our_handle.ensures;
        marks = λ i. record on { role = M.role i; left = M.left i; credit = M.credit i; available = M.available i; sending = None };
      };
      size = c.unfinished.inside.size;
      unfinished = sym c.in-Some-sending.ensures ∙ sym (ap (λ x. Some x) c.unfinished.view_is);
    }
