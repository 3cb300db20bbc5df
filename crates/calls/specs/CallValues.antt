-- The calls of a history as values of the code: which of the rules' calls each stands for, and what running it leaves. Leans on the rules'
-- History. Definitions only. Assumes nothing.
use Rattle.std.specs.Prelude.{true, false, List, ℕ}
use Rattle.query.specs.declared.Range.TheVariants.{None, Between}
use Rattle.rules.specs.Work.{read_of, insert_of, delete_of}
use Rattle.rules.specs.Memory.{Mem}
use Rattle.rules.specs.Outcome.{StepResult, result_with}
use Rattle.rules.specs.History as history
use Rattle.rules.specs.History.{call_result}
use Rattle.calls.specs.declared.Call.{Call}
use Rattle.calls.specs.declared.Call.TheVariants.{BeginRead, BeginCount, BeginReadWithin, BeginCountWithin, BeginInsert, BeginDelete, Step, Abandon, EvictAnswer, EvictNode, Renew}

-- the rules' call: a begin takes the query that is lent beside the value, a step the tray
unfoldable pub call_of : Call → List ℕ → List ℕ → history.Call
call_of (BeginRead d) query tray = history.begin d (read_of false None query)
call_of (BeginCount d) query tray = history.begin d (read_of true None query)
call_of (BeginReadWithin d column lowest highest) query tray = history.begin d (read_of false (Between column lowest highest) query)
call_of (BeginCountWithin d column lowest highest) query tray = history.begin d (read_of true (Between column lowest highest) query)
call_of (BeginInsert d) query tray = history.begin d (insert_of query)
call_of (BeginDelete d) query tray = history.begin d (delete_of query)
call_of (Step d) query tray = history.step d tray
call_of (Abandon d) query tray = history.abandon d
call_of (EvictAnswer i) query tray = history.evict_answer i
call_of (EvictNode i) query tray = history.evict_node i
call_of Renew query tray = history.renew

-- the tray after a call that leaves t in it: "for a step only"; it is as it was after any other
unfoldable pub tray_after : Call → List ℕ → List ℕ → List ℕ
tray_after (BeginRead d) tray t = tray
tray_after (BeginCount d) tray t = tray
tray_after (BeginReadWithin d column lowest highest) tray t = tray
tray_after (BeginCountWithin d column lowest highest) tray t = tray
tray_after (BeginInsert d) tray t = tray
tray_after (BeginDelete d) tray t = tray
tray_after (Step d) tray t = t
tray_after (Abandon d) tray t = tray
tray_after (EvictAnswer i) tray t = tray
tray_after (EvictNode i) tray t = tray
tray_after Renew tray t = tray

unfoldable pub with_tray : Call → List ℕ → StepResult → StepResult
with_tray c tray x = result_with x.out x.mem (tray_after c tray x.tray)

-- what running it leaves: outcome and memories are those of the rules' call
unfoldable pub ran : Mem → List ℕ → Call → List ℕ → StepResult
ran m tray c query = with_tray c tray (call_result m (call_of c query tray))
