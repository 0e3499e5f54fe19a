use Rattle.std.proofs.Common.{rules}
use Rattle.digest.proofs.Steps.{steps_more, steps_all, five_words}
use Rattle.digest.proofs.round.stepped.Goals as goal

pub loop-word-preserved : goal.loop-word-preserved
loop-word-preserved g c = λ f mixes.
    let m = mixes c.loop-word.b c.loop-word.c c.loop-word.d c.mix.result c.mix.ensures in
    steps_more f g.row.ADDED _ _ _ c.loop-word.word-index _ c.loop-word-test.true (c.loop-word.invariant f mixes) (cc)

pub returns : goal.returns
returns g c = λ f mixes.
    steps_all f g.row.ADDED _ _ _ c.args.schedule.now g.row.FIRST c.loop-word.word-index c.loop-word-test.false
    (five_words c.args.s (search rules)) (c.loop-word.invariant f mixes)
