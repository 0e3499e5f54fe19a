-- Bytes with others laid over them: what stands where.
use Rattle.std.proofs.Common.{◌≡◌, ℕ, ◌+◌, ◌-◌, ◌<◌, ◌≤◌, List, ◌++◌, length, get_or, take, drop, sym, refl, ap, ◌∙◌, arith, length-drop}
use borrow.Rule.Slice.PartMut.{put_mid}
use Rattle.std.proofs.lemmas.List.{drop-drop, get_or-take, get_or-drop, get_or_append_left, get_or-append_right, length-append, length-take-le}
use Rattle.image.specs.Bytes.{overlay}

pub overlay_is : (bs xs put : List ℕ) (p : ℕ) → put ≡ xs → put_mid p (p + length xs - p) bs put ≡ overlay bs p xs
unfolding overlay
overlay_is bs xs put p e =
    let n : p + (p + length xs - p) ≡ p + length xs = omega arith in
    ap (λ (x : List ℕ). take p bs ++ (x ++ drop (p + length xs - p) (drop p bs))) e
    ∙ ap (λ (x : List ℕ). take p bs ++ (xs ++ x)) (drop-drop (p + length xs - p) p bs ∙ ap (λ (k : ℕ). drop k bs) n)

module _ (bs : List ℕ) (p : ℕ) (xs : List ℕ) (room : p + length xs ≤ length bs) where
  front : length (take p bs) ≡ p
  front = length-take-le p bs (omega arith)

  pub length-overlay : length (overlay bs p xs) ≡ length bs
  unfolding overlay
  length-overlay = let f = front in simp (length-append, length-drop) (omega arith)

  pub overlay_below : (i : ℕ) → i < p → get_or (overlay bs p xs) i 0 ≡ get_or bs i 0
  unfolding overlay
  overlay_below i h =
      let l : i < length (take p bs) = omega (arith, front) in
      get_or_append_left (take p bs) (xs ++ drop (p + length xs) bs) 0 i l ∙ get_or-take p bs i 0 h

  past : (i : ℕ) → get_or (overlay bs p xs) (p + i) 0 ≡ get_or (xs ++ drop (p + length xs) bs) i 0
  unfolding overlay
  past i =
      let e : p + i - p ≡ i = omega arith in
      get_or-append_right (take p bs) (xs ++ drop (p + length xs) bs) p (p + i) 0 front (omega arith)
      ∙ ap (λ (j : ℕ). get_or (xs ++ drop (p + length xs) bs) j 0) e

  pub overlay_here : (i : ℕ) → i < length xs → get_or (overlay bs p xs) (p + i) 0 ≡ get_or xs i 0
  overlay_here i h = past i ∙ get_or_append_left xs (drop (p + length xs) bs) 0 i h

  pub overlay_above : (i : ℕ) → p + length xs ≤ i → get_or (overlay bs p xs) i 0 ≡ get_or bs i 0
  overlay_above i h =
      let j = i - p in
      let e : p + j ≡ i = omega arith in
      let f : p + length xs + (j - length xs) ≡ i = omega arith in
      ap (λ (n : ℕ). get_or (overlay bs p xs) n 0) (sym e)
      ∙ past j
      ∙ get_or-append_right xs (drop (p + length xs) bs) (length xs) j 0 refl (omega arith)
      ∙ get_or-drop (p + length xs) bs (j - length xs) 0
      ∙ ap (λ (n : ℕ). get_or bs n 0) f
