-- `tallied::would::abandoned_count` meets its contract: the kind at the desk decides. Assumes nothing.
use Rattle.std.proofs.Common.{◌∙◌}
use Rattle.clients.proofs.ClientMemory.{kind_at}
use Rattle.tallied.proofs.TalliedLaws.{reader_left, writer_left}
use Rattle.tallied.proofs.would.abandoned_count.Goals as goal

pub returns-then-kind-eq-READS : goal.returns-then-kind-eq-READS
returns-then-kind-eq-READS c = λ h l. reader_left _ _ _ (c.in_ok-kind.ensures.lookup.3.1 _ ∙ kind_at _ _) c.if-kind-eq-READS.true

pub returns : goal.returns
returns c = λ h l. writer_left _ _ _ (c.in_ok-kind.ensures.lookup.3.1 _ ∙ kind_at _ _) c.if-kind-eq-READS.false
