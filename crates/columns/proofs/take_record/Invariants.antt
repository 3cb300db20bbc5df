-- `columns::take_record` meets its contract. The invariant is `Taking`: the values so far, and no wildcard among them. Assumes nothing.
use Rattle.query.specs.Encoding.{query_of}
use Rattle.columns.proofs.TakeLoop.{Taking}
use Rattle.columns.proofs.take_record.Given as goal

abbrev pub invariant-loop-i : goal.invariant-loop-i
invariant-loop-i l = Taking (query_of l.asked) l.values l.i
