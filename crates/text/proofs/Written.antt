-- Bytes as they are written, one more each time.
use Rattle.std.proofs.Common.{◌≡◌, ℕ, ◌+◌, ◌<◌, List, [], ◌++◌, length, get_or, take, sym, ap, ◌∙◌}
use Rattle.std.proofs.lemmas.List.{flat_map_more, take_more}
use Rattle.text.specs.Hex.{hex_pair, hex_of}

pub byte_more : (bytes : List ℕ) (i : ℕ) → i < length bytes → hex_of (take i bytes) ++ hex_pair (get_or bytes i 0) ≡ hex_of (take (i + 1) bytes)
byte_more bytes i l =
    flat_map_more hex_pair [] (take i bytes) (get_or bytes i 0)
    ∙ ap (λ (x : List ℕ). hex_of x) (sym (take_more bytes i 0 l))
