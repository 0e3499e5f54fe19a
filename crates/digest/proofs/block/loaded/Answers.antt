use Rattle.std.proofs.Common.{ℕ, ◌+◌, ◌*◌, ◌/◌, List, [], length, get_or, refl, ap, ◌∙◌, arith, length-set}
use Rattle.digest.proofs.Words.{words_none, words_more, word_at-first_chunks}
use Rattle.digest.proofs.block.loaded.Goals as goal

pub loop-i-init : goal.loop-i-init
loop-i-init c = (refl, words_none c.args.block.now)

pub loop-i-preserved : goal.loop-i-preserved
loop-i-preserved c =
    let i = c.loop-i.i in
    let block = c.args.block.now in
    let chunks = c.as_chunks.ensures.front in
    let read : (cs : List (List ℕ)) → ℕ = λ cs. get_or (get_or cs i []) 0 0 * 16777216 + get_or (get_or cs i []) 1 0 * 65536 + get_or (get_or cs i []) 2 0 * 256 + get_or (get_or cs i []) 3 0 in
    let word = c.from_be_bytes.ensures ∙ (ap read chunks ∙ word_at-first_chunks (length block / 4) i block [] (omega arith)) in
    (length-set c.loop-i.w i c.from_be_bytes.result ∙ c.loop-i.invariant.0, words_more block c.loop-i.w i _ (omega arith) c.loop-i.invariant.1 word)
