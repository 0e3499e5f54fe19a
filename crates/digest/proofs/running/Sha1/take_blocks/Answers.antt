use Rattle.std.proofs.Common.{ℕ, List, fold, ap, ◌∙◌, rules}
use Rattle.digest.specs.Sha1.{compress}
use Rattle.digest.proofs.Feeding.{blocks-absorb}
use Rattle.digest.proofs.running.Sha1.take_blocks.Goals as goal

pub returns : goal.returns
returns c =
    let d = c.self.inside in
    let cut = c.as_chunks.ensures in
    let words = c.compressed_all-self-inside in
    blocks-absorb d.words d.block d.total c.args.self (search rules) c.self.view_is c.args.piece.now words.result c.as_chunks.result.1.now c.keep.result
    c.requires (words.ensures ∙ ap (λ (x : List (List ℕ)). fold compress d.words x) cut.front) cut.back c.keep.ensures
