-- An image with one value and one number altered: every other stays.
use Rattle.std.proofs.Common.{◌≡◌, ℕ, ◌+◌, ◌/◌, ◌%◌, ◌<◌, ◌≤◌, ◌⊎◌, List, length, get_or, take, drop, sym, ap, ◌∙◌, inl, inr, arith, length-drop, length-take}
use Rattle.std.proofs.lemmas.List.{ext_get_or, get_or-take, get_or-drop, get_or_past}
use Rattle.std.proofs.lemmas.Bool.{cases_lt}
use Rattle.image.specs.Bytes.{number_at, number_bytes, number_place, number, count_in, second_in, value_place, value, overlay, altered}
use Rattle.image.proofs.Overlays.{length-overlay, overlay_below, overlay_here, overlay_above}

abbrev part : List ℕ → ℕ → List ℕ
part bs p = take 20 (drop p bs)

pub length-part : (bs : List ℕ) (p : ℕ) → p + 20 ≤ length bs → length (part bs p) ≡ 20
length-part bs p h = simp (length-take, length-drop) (omega arith)

get_or-part : (bs : List ℕ) (p i : ℕ) → i < 20 → get_or (part bs p) i 0 ≡ get_or bs (p + i) 0
get_or-part bs p i h = get_or-take 20 (drop p bs) i 0 h ∙ get_or-drop p bs i 0

pub part_bytes : (bs : List ℕ) (p : ℕ) → ((i : ℕ) → get_or bs i 0 < 256) → (i : ℕ) → get_or (part bs p) i 0 < 256
part_bytes bs p small i = elim (cases_lt i 20) [
  | inl h ↦ omega (arith, get_or-part bs p i h, small (p + i))
  | inr h ↦ let l : length (part bs p) ≤ i = simp (length-take, length-drop) (omega arith) in omega (arith, get_or_past (part bs p) i 0 l)
]

-- twenty bytes by what stands at each place
pub part_is : (bs : List ℕ) (p : ℕ) (xs : List ℕ) → p + 20 ≤ length bs → length xs ≡ 20 → ((i : ℕ) → i < 20 → get_or bs (p + i) 0 ≡ get_or xs i 0) → part bs p ≡ xs
part_is bs p xs h l same =
    let n = length-part bs p h in
    ext_get_or 0 (part bs p) xs (n ∙ sym l) (λ i m. get_or-part bs p i (omega arith) ∙ same i (omega arith))

module _ (bs : List ℕ) (k m i : ℕ) (v : List ℕ) (kn : k < count_in bs) (room : value_place (count_in bs) i + 20 ≤ length bs) (lv : length v ≡ 20) where
  abbrev n : ℕ
  n = count_in bs

  abbrev p : ℕ
  p = value_place n i

  abbrev q : ℕ
  q = number_place k

  abbrev mid : List ℕ
  mid = overlay bs p v

  abbrev new : List ℕ
  new = altered bs k m i v

  fits_value : p + length v ≤ length bs
  fits_value = omega arith

  mid_length : length mid ≡ length bs
  mid_length = length-overlay bs p v fits_value

  fits_number : q + 2 ≤ length mid
  fits_number = omega (arith, mid_length)

  pub length-altered : length new ≡ length bs
  length-altered = length-overlay mid q (number_bytes m) fits_number ∙ mid_length

  -- a byte that is neither of the number nor of the value
  other : (j : ℕ) → j < p → (j < q ⊎ q + 2 ≤ j) → get_or new j 0 ≡ get_or bs j 0
  other j h (inl b) = overlay_below mid q (number_bytes m) fits_number j b ∙ overlay_below bs p v fits_value j h
  other j h (inr a) = overlay_above mid q (number_bytes m) fits_number j a ∙ overlay_below bs p v fits_value j h

  above : (j : ℕ) → p ≤ j → get_or new j 0 ≡ get_or mid j 0
  above j h = overlay_above mid q (number_bytes m) fits_number j (omega arith)

  kept_number : (j : ℕ) → j + 1 < p → (j + 1 < q ⊎ q + 2 ≤ j) → number_at new j ≡ number_at bs j
  kept_number j h (inl b) = let x = other j (omega arith) (inl (omega arith)) in let y = other (j + 1) h (inl b) in omega arith
  kept_number j h (inr a) = let x = other j (omega arith) (inr a) in let y = other (j + 1) h (inr (omega arith)) in omega arith

  pub altered_count : count_in new ≡ count_in bs
  altered_count = kept_number 0 (omega arith) (inl (omega arith))

  pub altered_second : second_in new ≡ second_in bs
  altered_second = kept_number 2 (omega arith) (inl (omega arith))

  pub altered_number : number new k ≡ m
  altered_number =
      let z : q ≡ q + 0 = omega arith in
      let x : get_or new q 0 ≡ m / 256 = ap (λ (j : ℕ). get_or new j 0) z ∙ overlay_here mid q (number_bytes m) fits_number 0 (omega arith) in
      let y : get_or new (q + 1) 0 ≡ m % 256 = overlay_here mid q (number_bytes m) fits_number 1 (omega arith) in
      omega arith

  pub altered_number_other : (j : ℕ) → j < n → (j ≡ k → ⊥) → number new j ≡ number bs j
  altered_number_other j h d = elim (cases_lt j k) [
    | inl l ↦ kept_number (number_place j) (omega arith) (inl (omega arith))
    | inr l ↦ let g : k < j = grind arith in kept_number (number_place j) (omega arith) (inr (omega arith))
  ]

  value_of_new : (j : ℕ) → value new j ≡ part new (value_place n j)
  value_of_new j = ap (λ (x : ℕ). part new (value_place x j)) altered_count

  pub altered_value : value new i ≡ v
  altered_value =
      value_of_new i
      ∙ part_is new p v (omega (arith, length-altered)) lv
      (λ j h. above (p + j) (omega arith) ∙ overlay_here bs p v fits_value j (omega arith))

  pub altered_value_other : (j : ℕ) → value_place n j + 20 ≤ length bs → (j ≡ i → ⊥) → value new j ≡ value bs j
  altered_value_other j h d =
      let o = value_place n j in
      value_of_new j
      ∙ part_is new o (part bs o) (omega (arith, length-altered)) (length-part bs o h)
      (λ x l.
      elim (cases_lt j i) [
        | inl g ↦ other (o + x) (omega arith) (inr (omega arith))
        | inr g ↦ let f : i < j = grind arith in above (o + x) (omega arith) ∙ overlay_above bs p v fits_value (o + x) (omega arith)
      ] ∙ sym (get_or-part bs o x l))
