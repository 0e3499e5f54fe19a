use Rattle.std.proofs.Common.{ℕ, List, ap, ◌∙◌, rules}
use Rattle.std.specs.List.{flat_map}
use Rattle.digest.proofs.Words.{flat_map-be32}
use Rattle.digest.proofs.running.bytes.Goals as goal

pub returns : goal.returns
returns c =
    c.copy_from_slice.ensures.after
    ∙ (c.as_flattened.ensures.value
    ∙ (ap (λ (x : List (List ℕ)). flat_map (λ bs. bs) x) c.byte_groups.ensures ∙ flat_map-be32 c.args.words (search rules)))
