-- What is left to search gives what the whole search gives, and no number beyond the bound is tried.
use Rattle.contradiction.proofs.TrialLaws.{Searching}
use Rattle.contradiction.proofs.trial.first_alike.Given as goal

abbrev pub invariant-loop : goal.invariant-loop
invariant-loop l = Searching l.listed l.bound l.counter l.n
