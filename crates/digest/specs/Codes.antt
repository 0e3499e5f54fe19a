-- What a comparison of two codes looks at.
use Rattle.std.specs.Prelude.{ℕ, List, fold, bit_or, bit_xor}
use Rattle.std.specs.List.{zip}

-- the bits in which two lists of bytes differ, all in one byte
abbrev pub differences : List ℕ → List ℕ → ℕ
differences a b = fold (λ bits p. bit_or bits (bit_xor p.0 p.1)) 0 (zip a b)
