-- A register's chain, as the code folds its digests.
use Rattle.std.proofs.Common.{◌≡◌, ℕ, List, replicate, fold}
use Rattle.digest.specs.Chain.{extended, chain}

pub chain_folds : (digests : List (List ℕ)) (r : List ℕ) → r ≡ fold extended (replicate 20 0) digests → r ≡ chain digests
unfolding chain
chain_folds digests r e = e
