use Rattle.amqp_example.proofs.shared.share.Given as goal

abbrev pub ghosts-talk-N-Ledger : goal.ghosts-talk-N-Ledger
ghosts-talk-N-Ledger g a = record { name = a.seed.name; parts = a.seed.parts }

abbrev pub ghosts-talk-N-Name : goal.ghosts-talk-N-Name
ghosts-talk-N-Name g a = record { ring = a.seed.ring; retention = a.seed.retention }
