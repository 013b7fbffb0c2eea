-- Numbers of 32 bits that a flow or a detach of ours tells (part 2, 2.7.4 and 2.7.7): what steps give, what a session keeps.
use Rattle.std.specs.Prelude.{◌^◌, ◌<◌, Option, Some}
use Rattle.amqp_performatives.specs.declared.performative.Performative.{Performative}
use Rattle.amqp_performatives.specs.declared.performative.Performative.TheVariants as heard
use Rattle.amqp_frames.specs.Brief.{Is32}
use Rattle.amqp_rules.specs.declared.op.Op.{Op}
use Rattle.amqp_rules.specs.declared.op.Op.TheVariants.{Offer}
use Rattle.amqp_rules.specs.View.{View, LinkView, handle_of}
use Rattle.amqp_rules.specs.Sound.{Every}

pub record IsLinkInRange (l : LinkView) : Type 0 where
  pub handle : handle_of l.ours < 2 ^ 32
  pub credit : l.credit.credit < 2 ^ 32
  pub available : l.available < 2 ^ 32

pub record IsInRange (v : View) : Type 0 where
  pub window : v.windows.window < 2 ^ 32
  pub links : Every IsLinkInRange v.links

-- how many messages are available
abbrev pub IsOpInRange : Op → Type 0
IsOpInRange (Offer link available) = available < 2 ^ 32
IsOpInRange _ = Unit {0}

-- the credit that the peer gives
abbrev pub IsBodyInRange : Option Performative → Type 0
IsBodyInRange (Some (heard.Flow b)) = Is32 b.link_credit
IsBodyInRange _ = Unit {0}
