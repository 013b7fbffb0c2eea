use Rattle.std.proofs.Common.{◌≡◌, ◌+◌, ◌∷◌, ◌-◌, [], length, take, drop, sym, ◌∙◌, ap, rules}
use Rattle.std.proofs.lemmas.List.{take_rest}
use Rattle.amqp_script.specs.Words.{words}
use Rattle.amqp_script.specs.Left.{left}
use Rattle.amqp_script.proofs.Cuts.{words-cut, words-whole}
use Rattle.amqp_script.proofs.words.WordsIterator.next.Goals as goal

-- the words before the call are those of the line that was left
first_word : (c : goal.After-self-in-Some-1) → left c.args.self.now ≡ take c.in-Some.end c.in_ok-rest.rest.now ∷ words (take (length c.in_ok-rest.rest.now - (c.in-Some.end + 1)) (drop (c.in-Some.end + 1) c.in_ok-rest.rest.now))
first_word c =
    rw (c.in_ok-rest.was, take_rest) (words-cut c.in_ok-rest.rest.now c.in-Some.end (sym c.first_space.ensures ∙ c.in-Some.is))

pub returns-in-Some-clause-steps : goal.returns-in-Some-clause-steps
returns-in-Some-clause-steps c = first_word c

pub returns-in-Some-clause-goes : goal.returns-in-Some-clause-goes
returns-in-Some-clause-goes c = let shorter = ap length (first_word c) in search rules

last_word : (c : goal.After-self-in-None-1) → left c.args.self.now ≡ c.in_ok-rest.rest.now ∷ []
last_word c =
    rw c.in_ok-rest.was (words-whole c.in_ok-rest.rest.now (sym c.first_space.ensures ∙ c.in-None.is))

pub returns-in-None-clause-steps : goal.returns-in-None-clause-steps
returns-in-None-clause-steps c = last_word c

pub returns-in-None-clause-goes : goal.returns-in-None-clause-goes
returns-in-None-clause-goes c = let shorter = ap length (last_word c) in search rules
