-- The line that sha1sum writes for a file: its digest, two spaces, its name.
use Rattle.std.specs.Prelude.{ℕ, Bool, cond, ◌||◌, List, [], ◌++◌, codes, ◌==◌}
use Rattle.std.proofs.Math.Utf8.{encode}
use Rattle.std.specs.List.{flat_map, list_any}
use Rattle.std.specs.Str.{chars}
use Rattle.text.specs.Hex.{hex_of}

-- a backslash, a line feed and a carriage return
abbrev pub is_escaped : ℕ → Bool
is_escaped c = c == 92 || (c == 10 || c == 13)

-- the bytes of a character of a name: each of the three is a backslash and a letter or another backslash
abbrev pub escaped : ℕ → List ℕ
escaped c = cond (c == 92) (codes "\\\\") (cond (c == 10) (codes "\\n") (cond (c == 13) (codes "\\r") (encode c)))

abbrev pub any_escaped : List ℕ → Bool
any_escaped cs = list_any is_escaped cs

abbrev pub escaped_name : List ℕ → List ℕ
escaped_name name = flat_map escaped (chars name)

-- a line with an escaped name begins with a backslash, so that no name can pass for a line of its own
abbrev pub sum_line : List ℕ → List ℕ → List ℕ
sum_line digest name = cond (any_escaped (chars name)) (codes "\\") [] ++ (hex_of digest ++ (codes "  " ++ escaped_name name))
