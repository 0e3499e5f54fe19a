-- An image of zeros: its numbers and values, and its cells.
use Rattle.std.proofs.Common.{◌≡◌, ℕ, zero, suc, ◌+◌, ◌-◌, ◌*◌, ◌/◌, ◌%◌, ◌<◌, ◌≤◌, Bool, true, cond, List, ◌++◌, length, get_or, take, drop, replicate, sym, refl, ap, ◌∙◌, arith}
use Rattle.std.proofs.lemmas.List.{get_or_append_left, get_or-append_right, get_or-replicate, length-append, length-replicate, same_lists}
use Rattle.std.proofs.lemmas.Bool.Decides.{nat_tests}
use Rattle.std.specs.List.{repeat}
use Rattle.store.specs.declared.cell.Cell.{Cell}
use Rattle.store.specs.Cells.{cell}
use Rattle.store.specs.Tables.{table}
use Rattle.image.specs.Bytes.{number_bytes, number, number_place, count_in, second_in, value, value_place, blank}
use Rattle.image.specs.Images.{zeros, used_within, is_cell_image, cell_count, cell_image, is_strip_image, strip_count, strip_value, strip_image}
use Rattle.store.proofs.Tabled.{length-table, get_or-table}
use Rattle.image.proofs.Altered.{part_is}
use Rattle.image.proofs.StripImages.{decides_used, formed, strip_value_none}

length-repeat : (n : ℕ) (xs : List ℕ) → length xs ≡ 2 → length (repeat n xs) ≡ 2 * n
length-repeat zero xs l = refl
length-repeat (suc n) xs l = length-append xs (repeat n xs) ∙ (let e = length-repeat n xs l in omega arith)

get_or-repeat : (n k i : ℕ) (xs : List ℕ) → length xs ≡ 2 → k < n → i < 2 → get_or (repeat n xs) (2 * k + i) 0 ≡ get_or xs i 0
get_or-repeat zero k i xs l h m = absurd (omega arith)
get_or-repeat (suc n) zero i xs l h m = let e : 2 * 0 + i ≡ i = omega arith in ap (λ (j : ℕ). get_or (xs ++ repeat n xs) j 0) e ∙ get_or_append_left xs (repeat n xs) 0 i (omega arith)
get_or-repeat (suc n) (suc k) i xs l h m =
    let d : 2 * suc k + i - 2 ≡ 2 * k + i = omega arith in
    get_or-append_right xs (repeat n xs) 2 (2 * suc k + i) 0 l (omega arith) ∙ ap (λ (j : ℕ). get_or (repeat n xs) j 0) d ∙ get_or-repeat n k i xs l (omega arith) m

module _ (n second m values : ℕ) where
  abbrev bs : List ℕ
  bs = blank n second m values

  abbrev head : List ℕ
  head = number_bytes n ++ number_bytes second

  abbrev numbers : List ℕ
  numbers = repeat n (number_bytes m)

  abbrev rest : List ℕ
  rest = numbers ++ replicate (20 * values) 0

  numbers_length : length numbers ≡ 2 * n
  numbers_length = length-repeat n (number_bytes m) refl

  length-blank : length bs ≡ 4 + 2 * n + 20 * values
  length-blank =
      let a = numbers_length in
      let b = length-append numbers (replicate (20 * values) 0) in
      let c = length-replicate {A = ℕ} (20 * values) 0 in
      length-append head rest ∙ omega arith

  blank_count : count_in bs ≡ n
  blank_count = omega arith

  blank_second : second_in bs ≡ second
  blank_second = omega arith

  past : (i : ℕ) → get_or bs (4 + i) 0 ≡ get_or rest i 0
  past i = let e : 4 + i - 4 ≡ i = omega arith in get_or-append_right head rest 4 (4 + i) 0 refl (omega arith) ∙ ap (λ (j : ℕ). get_or rest j 0) e

  byte : (k i : ℕ) → k < n → i < 2 → get_or bs (4 + (2 * k + i)) 0 ≡ get_or (number_bytes m) i 0
  byte k i h l =
      let a = numbers_length in
      past (2 * k + i) ∙ get_or_append_left numbers (replicate (20 * values) 0) 0 (2 * k + i) (omega arith) ∙ get_or-repeat n k i (number_bytes m) refl h l

  blank_number : (k : ℕ) → k < n → number bs k ≡ m
  blank_number k h =
      let a : number_place k ≡ 4 + (2 * k + 0) = omega arith in
      let b : number_place k + 1 ≡ 4 + (2 * k + 1) = omega arith in
      let x : get_or bs (number_place k) 0 ≡ m / 256 = ap (λ (j : ℕ). get_or bs j 0) a ∙ byte k 0 h (omega arith) in
      let y : get_or bs (number_place k + 1) 0 ≡ m % 256 = ap (λ (j : ℕ). get_or bs j 0) b ∙ byte k 1 h (omega arith) in
      omega arith

  -- beyond the numbers all is zero
  zero_byte : (i : ℕ) → i < 20 * values → get_or bs (4 + (2 * n + i)) 0 ≡ 0
  zero_byte i h =
      let e : 2 * n + i - 2 * n ≡ i = omega arith in
      past (2 * n + i)
      ∙ get_or-append_right numbers (replicate (20 * values) 0) (2 * n) (2 * n + i) 0 numbers_length (omega arith)
      ∙ ap (λ (j : ℕ). get_or (replicate (20 * values) 0) j 0) e
      ∙ get_or-replicate {A = ℕ} (20 * values) i 0 0 h

  blank_value : (i : ℕ) → i < values → value bs i ≡ zeros
  blank_value i h =
      let p = value_place n i in
      let r : p + 20 ≤ length bs = omega (arith, length-blank) in
      ap (λ (x : ℕ). take 20 (drop (value_place x i) bs)) blank_count
      ∙ part_is bs p zeros r (length-replicate {A = ℕ} 20 0)
      (λ j l.
      let e : p + j ≡ 4 + (2 * n + (20 * i + j)) = omega arith in
      ap (λ (x : ℕ). get_or bs x 0) e ∙ zero_byte (20 * i + j) (omega arith) ∙ sym (get_or-replicate {A = ℕ} 20 j 0 0 l))

-- equal cells as a list
table_same : (n : ℕ) (f : ℕ → Cell) (c : Cell) → ((k : ℕ) → k < n → f k ≡ c) → table n f ≡ replicate n c
table_same n f c same =
    same_lists (table n f) (replicate n c) (length-table n f ∙ sym (length-replicate n c))
    (λ k d h. let l : k < n = omega (arith, length-table n f) in get_or-table n f k d l ∙ same k l ∙ sym (get_or-replicate n k c d l))

module _ (n writes values : ℕ) where
  -- values of their own, with the writes left as each cell's number
  module _ (e : values ≡ n) where
    abbrev cells : List ℕ
    cells = blank n 20 writes values

    pub new_cells_are : is_cell_image cells ≡ true
    new_cells_are =
        let l = length-blank n 20 writes values in
        let c = blank_count n 20 writes values in
        let s = blank_second n 20 writes values in
        grind (arith, nat_tests)

    pub new_cells_show : cell_image cells ≡ replicate n (cell zeros writes)
    unfolding cell_image
    new_cells_show =
        let counted : cell_count cells ≡ n = ap (λ (x : Bool). cond x (count_in cells) 0) new_cells_are ∙ blank_count n 20 writes values in
        ap (λ (x : ℕ). table x (λ k. cell (value cells k) (number cells k))) counted
        ∙ table_same n (λ k. cell (value cells k) (number cells k)) (cell zeros writes)
        (λ k h. ap (λ (x : List ℕ). cell x (number cells k)) (blank_value n 20 writes values k (omega arith)) ∙ ap (cell zeros) (blank_number n 20 writes values k h))

  -- strips of so many values as a cell has writes, none of them used
  module _ (e : values ≡ n * writes) where
    abbrev strips : List ℕ
    strips = blank n writes 0 values

    used : (k : ℕ) → k < n → number strips k ≡ 0
    used = blank_number n writes 0 values

    within : used_within strips writes n ≡ true
    within = (decides_used strips writes n).1 (λ k h. omega (arith, used k h))

    pub new_strips_are : is_strip_image strips ≡ true
    new_strips_are =
        ap (λ (x : ℕ). formed x (second_in strips) (length strips) (used_within strips (second_in strips) x)) (blank_count n writes 0 values)
        ∙ ap (λ (x : ℕ). formed n x (length strips) (used_within strips x n)) (blank_second n writes 0 values)
        ∙ (let l = length-blank n writes 0 values in let u = within in grind (arith, nat_tests))

    pub new_strips_show : strip_image strips ≡ replicate n (cell zeros writes)
    unfolding strip_image
    new_strips_show =
        let counted : strip_count strips ≡ n = ap (λ (x : Bool). cond x (count_in strips) 0) new_strips_are ∙ blank_count n writes 0 values in
        ap (λ (x : ℕ). table x (λ k. cell (strip_value strips k) (second_in strips - number strips k))) counted
        ∙ table_same n (λ k. cell (strip_value strips k) (second_in strips - number strips k)) (cell zeros writes)
        (λ k h.
        let left : second_in strips - number strips k ≡ writes = omega (arith, blank_second n writes 0 values, used k h) in
        ap (λ (x : List ℕ). cell x (second_in strips - number strips k)) (strip_value_none strips k (used k h)) ∙ ap (cell zeros) left)

pub ruleset blank_cells = (new_cells_are, new_cells_show)

pub ruleset blank_strips = (new_strips_are, new_strips_show)
