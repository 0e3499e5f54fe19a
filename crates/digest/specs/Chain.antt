-- The chain of digests that a register holds.
use Rattle.std.specs.Prelude.{ℕ, List, ◌++◌, replicate, fold}
use Rattle.digest.specs.Sha1.{sha1}

-- a register after one digest more
abbrev pub extended : List ℕ → List ℕ → List ℕ
extended register digest = sha1 (register ++ digest)

-- a register that began at twenty zeros, after these digests in order
unfoldable pub chain : List (List ℕ) → List ℕ
chain digests = fold extended (replicate 20 0) digests
