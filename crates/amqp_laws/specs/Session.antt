-- How far a session has begun and ended (part 2, 2.5.5), over its whole past; and its links that are not gone.
use Rattle.std.specs.Prelude.{List, [], cond}
use Rattle.amqp_rules.specs.View.{SessionView, LinkView, is_over}
use Rattle.amqp_laws.specs.declared.entry.Entry.{Entry}
use Rattle.amqp_laws.specs.Past.{some_entry}
use Rattle.amqp_laws.specs.Said.{begins, ends, hears_begin, hears_end}
use Rattle.amqp_laws.specs.Links.{link_pasts, links_there}

abbrev pub session_at : List Entry → SessionView
session_at past =
    record {
      begin_sent = some_entry begins past;
      begin_heard = some_entry hears_begin past;
      end_sent = some_entry ends past;
      end_heard = some_entry hears_end past;
    }

-- all links are gone once an end was sent or heard
abbrev pub links_at : List Entry → List LinkView
links_at past = cond (is_over (session_at past)) [] (links_there (link_pasts past))
