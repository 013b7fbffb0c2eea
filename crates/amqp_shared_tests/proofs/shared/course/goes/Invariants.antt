use Rattle.amqp_shared_tests.proofs.shared.course.goes.Given as goal

abbrev pub ghosts-course-N-Ledger : goal.ghosts-course-N-Ledger
ghosts-course-N-Ledger g a = record { name = a.seed.name; parts = a.seed.parts }

abbrev pub ghosts-course-N-Name : goal.ghosts-course-N-Name
ghosts-course-N-Name g a = record { ring = a.seed.ring; retention = a.seed.retention }
