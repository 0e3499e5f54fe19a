-- The examples, computed.
use Rattle.std.proofs.Common.{refl}
use Rattle.digest.specs.Words.{words_of, bytes_of}
use Rattle.digest.specs.Sha1.{sha1, padding, blocks, compress, schedule, grown}
use Rattle.digest.specs.Examples.{AbcDigest, EmptyDigest}

pub abc_digest_lem : AbcDigest
unfolding sha1 padding blocks compress schedule grown words_of bytes_of
abc_digest_lem = refl

pub empty_digest_lem : EmptyDigest
unfolding sha1 padding blocks compress schedule grown words_of bytes_of
empty_digest_lem = refl
