use Rattle.amqp_rules.specs.Limits.{IsWithinLimits}
use Rattle.amqp_pair.specs.Ranges.{IsInRange}
use Rattle.amqp_peer.specs.declared.command_line.Request.{Request}
use Rattle.amqp_peer.specs.declared.command_line.Request.TheVariants.{Script, Conn, Frames, Trace, Explain, Pair, Drivers, Rows, Send, Receive, Serve, Example, Bench}

-- each setting that a command is run with is within its limits
abbrev pub IsAllowed : Request → Type 0
IsAllowed (Script config keep) = IsWithinLimits config
IsAllowed (Conn config) = IsWithinLimits config
IsAllowed Frames = Unit {0}
IsAllowed (Trace direction look is_raw) = Unit {0}
IsAllowed (Explain explained) = Unit {0}
IsAllowed (Pair options) = IsInRange options
IsAllowed (Drivers sockets) = Unit {0}
IsAllowed Rows = Unit {0}
IsAllowed (Send exchange) = Unit {0}
IsAllowed (Receive exchange) = Unit {0}
IsAllowed (Serve serve) = Unit {0}
IsAllowed Example = Unit {0}
IsAllowed (Bench bench) = Unit {0}
