use Rattle.std.proofs.Common.{◌≡◌, ℕ, List, take, ◌∙◌}
use Rattle.digest.specs.Words.{words_of}
use Rattle.digest.specs.Sha1.{choose, parity, majority, grown}
use Rattle.digest.proofs.Schedule.{grown_none}
use Rattle.digest.proofs.Steps.{rounds-grown}
use Rattle.digest.proofs.block.compressed.Goals as goal

pub returns : goal.returns
returns c =
    let ws : List ℕ = words_of 16 c.args.block.now in
    let one : take 20 c.grow.new.w ≡ grown 4 (words_of 16 c.args.block.now) =
    c.grow.ensures ws (c.loaded-w.ensures ∙ grown_none ws) in
    let two : take 40 c.grow-2.new.w ≡ grown 24 (words_of 16 c.args.block.now) = c.grow-2.ensures ws one in
    let three : take 60 c.grow-3.new.w ≡ grown 44 (words_of 16 c.args.block.now) = c.grow-3.ensures ws two in
    let four : take 80 c.grow-4.new.w ≡ grown 64 (words_of 16 c.args.block.now) = c.grow-4.ensures ws three in
    c.summed.ensures
    ∙ rounds-grown c.args.h c.args.block.now c.grow.new.w c.grow-2.new.w c.grow-3.new.w c.grow-4.new.w
    c.stepped-s.result c.stepped-t.result c.stepped-u.result c.stepped-v.result
    one two three four (c.stepped-s.ensures choose (λ x y z r e. e)) (c.stepped-t.ensures parity (λ x y z r e. e))
    (c.stepped-u.ensures majority (λ x y z r e. e)) (c.stepped-v.ensures parity (λ x y z r e. e))
