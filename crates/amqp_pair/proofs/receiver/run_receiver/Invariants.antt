use Rattle.amqp_pair.proofs.receiver.run_receiver.Given as goal

abbrev pub ghosts-receive-N-Ledger : goal.ghosts-receive-N-Ledger
ghosts-receive-N-Ledger g a = record { name = a.seed.name; parts = a.seed.parts }

abbrev pub ghosts-receive-N-Name : goal.ghosts-receive-N-Name
ghosts-receive-N-Name g a = record { ring = a.seed.ring; retention = a.seed.retention }
