use Rattle.amqp_pair.proofs.sender.run_sender.Given as goal

abbrev pub ghosts-send-N-Ledger : goal.ghosts-send-N-Ledger
ghosts-send-N-Ledger g a = record { name = a.seed.name; parts = a.seed.parts }

abbrev pub ghosts-send-N-Name : goal.ghosts-send-N-Name
ghosts-send-N-Name g a = record { ring = a.seed.ring; retention = a.seed.retention }
