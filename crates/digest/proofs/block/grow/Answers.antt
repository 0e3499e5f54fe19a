use Rattle.std.proofs.Common.{◌∙◌, arith, length-set}
use Rattle.digest.proofs.Schedule.{grown_more}
use Rattle.digest.proofs.block.grow.Goals as goal

pub loop-n-preserved : goal.loop-n-preserved
loop-n-preserved g c = (
  length-set c.loop-n.w _ c.next_word.result ∙ c.loop-n.invariant.0,
  λ ws e. grown_more ws c.loop-n.w c.loop-n.n c.next_word.result (omega arith) (c.loop-n.invariant.1 ws e) c.next_word.ensures,
)
