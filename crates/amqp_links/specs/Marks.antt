-- What most steps change of a link.
use Rattle.std.specs.Prelude.{◌≡◌}
use Rattle.amqp_links.specs.declared.marks.Marks.{Marks}
use Rattle.amqp_links.specs.declared.found.Found.{Found}
use Rattle.amqp_rules.specs.View.{LinkView}
use Rattle.amqp_links.specs.Credits.{role_of, credit_in}

-- the link with these marks
abbrev pub with_marks : Marks → LinkView → LinkView
with_marks m l = record l { role = role_of m.credit; left = m.left; credit = credit_in m.credit; available = m.available; sending = m.sending }

-- the link has these marks
pub record IsMarksOf (l : LinkView) (m : Marks) : Type 0 where
  pub role : role_of m.credit ≡ l.role
  pub credit : credit_in m.credit ≡ l.credit
  pub left : m.left ≡ l.left
  pub available : m.available ≡ l.available
  pub sending : m.sending ≡ l.sending

-- the link that was found
abbrev pub found_link : Found → LinkView
found_link f = f.link.now
