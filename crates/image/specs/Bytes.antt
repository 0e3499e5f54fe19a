-- Where an image keeps its numbers and values. Both kinds of image begin with two numbers, the first of which is the count of cells; then comes a number for each cell, and then come values.
use Rattle.std.specs.Prelude.{ℕ, ◌+◌, ◌*◌, ◌/◌, ◌%◌, List, [], ◌∷◌, ◌++◌, length, take, drop, replicate, slice_index}
use Rattle.std.specs.List.{repeat}

-- the number in the two bytes from place p on, the high byte first
abbrev pub number_at : List ℕ → ℕ → ℕ
number_at bs p = 256 * slice_index bs p + slice_index bs (p + 1)

abbrev pub number_bytes : ℕ → List ℕ
number_bytes n = n / 256 ∷ n % 256 ∷ []

abbrev pub count_in : List ℕ → ℕ
count_in bs = number_at bs 0

abbrev pub second_in : List ℕ → ℕ
second_in bs = number_at bs 2

-- the number of cell k
abbrev pub number_place : ℕ → ℕ
number_place k = 4 + 2 * k

abbrev pub number : List ℕ → ℕ → ℕ
number bs k = number_at bs (number_place k)

-- value i, behind the numbers of n cells
abbrev pub value_place : ℕ → ℕ → ℕ
value_place n i = 4 + 2 * n + 20 * i

abbrev pub value : List ℕ → ℕ → List ℕ
value bs i = take 20 (drop (value_place (count_in bs) i) bs)

-- the bytes with others laid over them from place p on
unfoldable pub overlay : List ℕ → ℕ → List ℕ → List ℕ
overlay bs p xs = take p bs ++ (xs ++ drop (p + length xs) bs)

-- the image with v as value i and m as the number of cell k
abbrev pub altered : List ℕ → ℕ → ℕ → ℕ → List ℕ → List ℕ
altered bs k m i v = overlay (overlay bs (value_place (count_in bs) i) v) (number_place k) (number_bytes m)

-- an image of n cells with the number m each, and values that are all zeros
abbrev pub blank : ℕ → ℕ → ℕ → ℕ → List ℕ
blank n second m values = (number_bytes n ++ number_bytes second) ++ (repeat n (number_bytes m) ++ replicate (20 * values) 0)
