-- Two digests that the checker works out: of "abc", as FIPS 180 prints it, and of the empty message.
use Rattle.std.specs.Prelude.{◌≡◌, ℕ, List, [], ◌++◌, codes}
use Rattle.digest.specs.Words.{be32}
use Rattle.digest.specs.Sha1.{sha1}

-- twenty bytes, written as five words
abbrev pub five : ℕ → ℕ → ℕ → ℕ → ℕ → List ℕ
five a b c d e = be32 a ++ be32 b ++ be32 c ++ be32 d ++ be32 e

abbrev pub abc_digest : List ℕ
abc_digest = five 0xa9993e36 0x4706816a 0xba3e2571 0x7850c26c 0x9cd0d89d

abbrev pub empty_digest : List ℕ
empty_digest = five 0xda39a3ee 0x5e6b4b0d 0x3255bfef 0x95601890 0xafd80709

abbrev pub AbcDigest : Type 0
AbcDigest = sha1 (codes "abc") ≡ abc_digest

abbrev pub EmptyDigest : Type 0
EmptyDigest = sha1 [] ≡ empty_digest
