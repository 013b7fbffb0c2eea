use Rattle.amqp_pair_laws.proofs.SaidKnown.{hears-said}
use Rattle.amqp_pair_laws.proofs.OwnStates.{has-what-it-said}
use Rattle.amqp_pair_laws.proofs.LearntSaid.{learns-said}
use Rattle.amqp_pair_laws.proofs.TakenFront.{takes-all, takes-ever, takes-on-attached, takes-sent}
use Rattle.amqp_pair_laws.proofs.AllTaken.{next-taken}
use Rattle.amqp_pair_laws.proofs.Opens.{window-is-open}
use Rattle.amqp_pair_laws.proofs.Phases.{phases-known}
use Rattle.amqp_pair_laws.proofs.Over.{behind-lives}
use Rattle.amqp_pair_laws.proofs.Ids.{ids-known}
use Rattle.amqp_pair_laws.proofs.TransferMet.{credit-there, link-there}
use Rattle.amqp_pair_laws.proofs.Expected.{expected-known}
use Rattle.amqp_pair_laws.proofs.Resting.{counts-agree, drains-agree, links-agree, windows-agree}
use Rattle.amqp_pair_laws.proofs.Granted.{credit-is-kept}
use Rattle.amqp_pair_laws.proofs.Reopens.{window-reopens}
use Rattle.amqp_pair_laws.proofs.HearingEnds.{hearing-ends}
use Rattle.amqp_pair_laws.proofs.Unsettled.{unsettled-agree}
use Rattle.amqp_pair_laws.proofs.Ended.{sessions-agree}
use Rattle.amqp_pair_laws.proofs.laws.laws.Goals as goal

pub returns-clause-taken : goal.returns-clause-taken
returns-clause-taken t = λ ca cb n a b f w waits. next-taken ca cb n a b f w waits

pub returns-clause-sent : goal.returns-clause-sent
returns-clause-sent t = λ ca cb n a b name y w found attached. takes-sent ca cb n a b name y w found attached

pub returns-clause-ever : goal.returns-clause-ever
returns-clause-ever t = λ ca cb n a b early name y w tail found attached. takes-ever ca cb n a b early name y w tail found attached

pub returns-clause-only : goal.returns-clause-only
returns-clause-only t = λ ca cb n a b k w. takes-on-attached ca cb n a b k w

pub returns-clause-all : goal.returns-clause-all
returns-clause-all t = λ ca cb n a b name x y w lives fx ours unleft fy unleft'. takes-all ca cb n a b name x y w lives fx ours unleft fy unleft'

pub returns-clause-states : goal.returns-clause-states
returns-clause-states t = λ ca cb n a b w lives. hears-said ca cb n a b w lives

pub returns-clause-own : goal.returns-clause-own
returns-clause-own t = λ ca cb n a b w lives. has-what-it-said ca cb n a b w lives

pub returns-clause-learnt : goal.returns-clause-learnt
returns-clause-learnt t = λ ca cb n a b w. learns-said ca cb n a b w

pub returns-clause-window : goal.returns-clause-window
returns-clause-window t = λ ca cb n a b f b' w waits is lives. window-is-open ca cb n a b f b' w waits is lives

pub returns-clause-begun : goal.returns-clause-begun
returns-clause-begun t = λ ca cb n a b w. (phases-known ca cb n a b w).begun

pub returns-clause-lives : goal.returns-clause-lives
returns-clause-lives t = λ ca cb n a b w lives. behind-lives ca cb n a b w lives

pub returns-clause-ids : goal.returns-clause-ids
returns-clause-ids t = λ ca cb n a b w lives. ids-known ca cb n a b w lives

pub returns-clause-credit : goal.returns-clause-credit
returns-clause-credit t = λ ca cb n a b f b' l w waits is lives found stays first. credit-there ca cb n a b f b' l w waits is lives found stays first

pub returns-clause-expected : goal.returns-clause-expected
returns-clause-expected t = λ ca cb n a b id w lives is. expected-known ca cb n a b w lives id is

pub returns-clause-link : goal.returns-clause-link
returns-clause-link t = λ ca cb n a b f b' w waits is lives. link-there ca cb n a b f b' w waits is lives

pub returns-clause-sessions : goal.returns-clause-sessions
returns-clause-sessions t = λ ca cb n a b r. sessions-agree ca cb n a b r

pub returns-clause-windows : goal.returns-clause-windows
returns-clause-windows t = λ ca cb n a b r mapped. windows-agree ca cb n a b r mapped

pub returns-clause-links : goal.returns-clause-links
returns-clause-links t = λ ca cb n a b r mapped role name x fx. links-agree ca cb n a b r mapped role name x fx

pub returns-clause-counts : goal.returns-clause-counts
returns-clause-counts t = λ ca cb n a b r mapped name x y fx fy ax ay. counts-agree ca cb n a b r mapped name x y fx fy ax ay

pub returns-clause-unsettled : goal.returns-clause-unsettled
returns-clause-unsettled t = λ ca cb n a b r mapped. unsettled-agree ca cb n a b r mapped

pub returns-clause-drains : goal.returns-clause-drains
returns-clause-drains t = λ ca cb n a b r mapped name x y fx fy ax ay open'. drains-agree ca cb n a b r mapped name x y fx fy ax ay open'

pub returns-clause-granted : goal.returns-clause-granted
returns-clause-granted t = λ ca cb n a b r mapped name x y fx fy ax ay. credit-is-kept ca cb n a b r mapped name x y fx fy ax ay

pub returns-clause-reopens : goal.returns-clause-reopens
returns-clause-reopens t = λ ca cb n a b r mapped refreshed. window-reopens ca cb n a b r mapped refreshed

pub returns-clause-ends : goal.returns-clause-ends
returns-clause-ends t = λ ca cb n n' a b late late' k k' w w' on on'. hearing-ends ca cb n n' a b late late' k k' w w' on on'
