-- A strip image's cells: how many, which, and after a write.
use Rattle.std.proofs.Common.{◌≡◌, ℕ, ◌+◌, ◌-◌, ◌*◌, ◌/◌, ◌<◌, ◌≤◌, Bool, true, false, cond, ◌&&◌, eqb, leb, List, length, get_or, set, Decides, MatchBool, sym, refl, ap, ◌∙◌, subst, inl, inr, arith}
use Rattle.std.proofs.lemmas.Nat.{mul-add-lt, div-mul-add}
use Rattle.std.proofs.lemmas.List.{length-replicate, get_or-replicate, get_or_past}
use Rattle.std.specs.List.{range_with_len, AllWithin, HoldsAt}
use Rattle.std.proofs.lemmas.List.FromFn.{length-range_with_len, get_or-range_with_len}
use Rattle.std.proofs.lemmas.Bool.{cases_Bool, cases_eq, cases_lt, leb-true, le-leb}
use Rattle.std.proofs.lemmas.Bool.Decides.{nat_tests, Decides-below_and}
use Rattle.store.specs.declared.cell.Cell.{Cell}
use Rattle.store.specs.Cells.{cell, none, at, Sized, Shaped, written, write_cells}
use Rattle.store.specs.Tables.{table}
use Rattle.image.specs.Bytes.{count_in, second_in, number, value, value_place}
use Rattle.image.specs.Images.{zeros, used_within, is_strip_image, strip_count, strip_place, strip_value, strip_image, strip_write}
use Rattle.store.proofs.Calls.{answered_write}
use Rattle.store.proofs.Tabled.{length-table, get_or-table, table-set}
use Rattle.image.proofs.Altered.{length-part, part_bytes, length-altered, altered_count, altered_second, altered_number, altered_number_other, altered_value, altered_value_other}

-- the test of the used counts decides that none is above the width
decides_nat_le : (a b : ℕ) → Decides (leb a b) (a ≤ b)
decides_nat_le a b = (leb-true a b, le-leb a b)

pub decides_used : (bs : List ℕ) (w n : ℕ) → Decides (used_within bs w n) ((k : ℕ) → k < n → number bs k ≤ w)
unfolding used_within
decides_used bs w n = Decides-below_and (λ k. leb (number bs k) w) (λ k. number bs k ≤ w) (used_within bs w) (λ k. decides_nat_le (number bs k) w) refl (λ _. refl) n

used_above : (bs : List ℕ) (w n k : ℕ) → k < n → w < number bs k → false ≡ used_within bs w n
used_above bs w n k h l = elim (cases_Bool (used_within bs w n)) [
  | inl t ↦ absurd (omega (arith, (decides_used bs w n).0 t k h))
  | inr f ↦ sym f
]

-- so does a search through the cells
pub used_by_all : (bs : List ℕ) (w n : ℕ) (r : Bool)
    → MatchBool r (AllWithin (λ k. number bs k ≤ w) (range_with_len 0 n) 0 (length (range_with_len 0 n)))
    ((k : ℕ) × (k < length (range_with_len 0 n)) × HoldsAt (λ k. w < number bs k) (range_with_len 0 n) k)
    → r ≡ used_within bs w n
used_by_all bs w n true m =
    sym ((decides_used bs w n).1 (λ k h.
    let e : get_or (range_with_len 0 n) k 0 ≡ k = get_or-range_with_len 0 n k 0 h ∙ omega arith in
    subst (λ (x : ℕ). number bs x ≤ w) e (m k 0 (omega arith) (omega (arith, length-range_with_len 0 n)))))
used_by_all bs w n false m =
    let h : m.0 < n = omega (arith, length-range_with_len 0 n) in
    let e : get_or (range_with_len 0 n) m.0 0 ≡ m.0 = get_or-range_with_len 0 n m.0 0 h ∙ omega arith in
    used_above bs w n m.0 h (subst (λ (x : ℕ). w < number bs x) e (m.2 0))

-- two places of strips are the same only in the same strip
places_apart : (j a k b w : ℕ) → a < w → b < w → (j ≡ k → ⊥) → j * w + a ≡ k * w + b → ⊥
places_apart j a k b w p q d e = d (sym (div-mul-add j w a p) ∙ ap (λ (x : ℕ). x / w) e ∙ div-mul-add k w b q)

zero_bytes : (i : ℕ) → get_or zeros i 0 < 256
zero_bytes i = elim (cases_lt i 20) [ inl h ↦ omega (arith, get_or-replicate {A = ℕ} 20 i 0 0 h) | inr h ↦ omega (arith, get_or_past zeros i 0 (omega (arith, length-replicate {A = ℕ} 20 0))) ]

abbrev pub formed : ℕ → ℕ → ℕ → Bool → Bool
formed count width len used = eqb len (4 + 2 * count + 20 * (count * width)) && used

abbrev shown : List ℕ → ℕ → Cell
shown bs k = cell (strip_value bs k) (second_in bs - number bs k)

module _ (bs : List ℕ) (k : ℕ) where
  pub strip_value_none : number bs k ≡ 0 → strip_value bs k ≡ zeros
  strip_value_none z = grind (arith, nat_tests)

  pub strip_value_newest : (number bs k ≡ 0 → ⊥) → strip_value bs k ≡ value bs (strip_place bs k (number bs k - 1))
  strip_value_newest l = grind (arith, nat_tests)

module _ (bs : List ℕ) where
  abbrev n : ℕ
  n = count_in bs

  abbrev w : ℕ
  w = second_in bs

  pub strips_length : length (strip_image bs) ≡ strip_count bs
  unfolding strip_image
  strips_length = length-table _ _

  -- what a cell tells of the image
  module _ (k : ℕ) (h : k < length (strip_image bs)) where
    shows : k < strip_count bs
    shows = omega (arith, strips_length)

    strips_at : at (strip_image bs) k ≡ shown bs k
    unfolding strip_image
    strips_at = get_or-table _ _ k none shows

    pub strips_value : (at (strip_image bs) k).value ≡ strip_value bs k
    strips_value = ap (λ (c : Cell). c.value) strips_at

    pub strips_left : (at (strip_image bs) k).left ≡ w - number bs k
    strips_left = ap (λ (c : Cell). c.left) strips_at

    pub strips_among : k < n
    strips_among = let l = shows in grind (arith, nat_tests)

    pub strips_room : length bs ≡ 4 + 2 * n + 20 * (n * w)
    strips_room = let l = shows in grind (arith, nat_tests)

    all_used : used_within bs w n ≡ true
    all_used = let l = shows in grind (arith, nat_tests)

    pub strips_used : (j : ℕ) → j < n → number bs j ≤ w
    strips_used = (decides_used bs w n).0 all_used

    -- a place of a strip lies within the image
    pub strips_fit : (j a : ℕ) → j < n → a < w → value_place n (strip_place bs j a) + 20 ≤ length bs
    strips_fit j a l m = let room = strips_room in omega (arith, mul-add-lt j w a n l m)

    pub strips_used_here : number bs k ≤ w
    strips_used_here = strips_used k strips_among

    pub strips_newest_fits : (number bs k ≡ 0 → ⊥) → value_place n (strip_place bs k (number bs k - 1)) + 20 ≤ length bs
    strips_newest_fits l = strips_fit k (number bs k - 1) strips_among (omega (arith, strips_used_here))

  pub strips_shaped : ((i : ℕ) → get_or bs i 0 < 256) → Shaped (strip_image bs)
  strips_shaped small =
      let e = strips_length in
      let a = small 0 in
      let b = small 1 in
      let few : strip_count bs < 65536 = grind (arith, nat_tests) in
      record {
        few = omega arith;
        each = λ k h.
            let kn = strips_among k h in
            let low : w - number bs k < 65536 = omega (arith, small 2, small 3) in
            let sized : (x : List ℕ) → length x ≡ 20 → ((i : ℕ) → get_or x i 0 < 256) → Sized (cell x (w - number bs k)) = λ x t o. record { twenty = t; bytes = o; low = low } in
            let p = value_place n (strip_place bs k (number bs k - 1)) in
            subst Sized (sym (strips_at k h)) (elim (cases_eq (number bs k) 0) [
              | inl z ↦ subst (λ (x : List ℕ). Sized (cell x (w - number bs k))) (sym (strip_value_none bs k z)) (sized zeros (length-replicate {A = ℕ} 20 0) zero_bytes)
              | inr l ↦
                  let fits = strips_newest_fits k h l in
                  subst (λ (x : List ℕ). Sized (cell x (w - number bs k))) (sym (strip_value_newest bs k l)) (sized _ (length-part bs p fits) (part_bytes bs p small))
            ]);
      }

  module _ (k : ℕ) (v : List ℕ) (h : k < length (strip_image bs)) (lv : length v ≡ 20) (hl : number bs k < w) where
    abbrev new : List ℕ
    new = strip_write bs k v

    abbrev slot : ℕ
    slot = strip_place bs k (number bs k)

    kn : k < n
    kn = strips_among k h

    fits : value_place n slot + 20 ≤ length bs
    fits = strips_fit k h k (number bs k) kn hl

    same_count : count_in new ≡ n
    same_count = altered_count bs k (number bs k + 1) slot v kn fits lv

    same_width : second_in new ≡ w
    same_width = altered_second bs k (number bs k + 1) slot v kn fits lv

    number_here : number new k ≡ number bs k + 1
    number_here = altered_number bs k (number bs k + 1) slot v kn fits lv

    number_there : (j : ℕ) → j < n → (j ≡ k → ⊥) → number new j ≡ number bs j
    number_there = altered_number_other bs k (number bs k + 1) slot v kn fits lv

    used_after : used_within new w n ≡ true
    used_after = (decides_used new w n).1 (λ j l. elim (cases_eq j k) [
      | inl e ↦ omega (arith, ap (number new) e, number_here)
      | inr d ↦ omega (arith, number_there j l d, strips_used k h j l)
    ])

    sound_after : is_strip_image new ≡ is_strip_image bs
    sound_after =
        let len = length-altered bs k (number bs k + 1) slot v kn fits lv in
        let room = strips_room k h in
        let l = shows k h in
        let before : is_strip_image bs ≡ true = grind (arith, nat_tests) in
        let after : formed n w (length new) (used_within new w n) ≡ true = let u = used_after in grind (arith, nat_tests) in
        ap (λ (x : ℕ). formed x (second_in new) (length new) (used_within new (second_in new) x)) same_count
        ∙ ap (λ (x : ℕ). formed n x (length new) (used_within new x n)) same_width
        ∙ after ∙ sym before

    value_here : strip_value new k ≡ v
    value_here =
        let e : number new k - 1 ≡ number bs k = omega (arith, number_here) in
        strip_value_newest new k (λ z. omega (arith, number_here))
        ∙ ap (λ (x : ℕ). value new (k * x + (number new k - 1))) same_width
        ∙ ap (λ (x : ℕ). value new (k * w + x)) e
        ∙ altered_value bs k (number bs k + 1) slot v kn fits lv

    value_there : (j : ℕ) → j < n → (j ≡ k → ⊥) → strip_value new j ≡ strip_value bs j
    value_there j l d =
        let s = number_there j l d in
        elim (cases_eq (number bs j) 0) [
          | inl z ↦ strip_value_none new j (s ∙ z) ∙ sym (strip_value_none bs j z)
          | inr p ↦
              let a = number bs j - 1 in
              let aw : a < w = omega (arith, strips_used k h j l) in
              strip_value_newest new j (λ z. p (sym s ∙ z))
              ∙ ap (λ (x : ℕ). value new (j * x + (number new j - 1))) same_width
              ∙ ap (λ (x : ℕ). value new (j * w + (x - 1))) s
              ∙ altered_value_other bs k (number bs k + 1) slot v kn fits lv (strip_place bs j a) (strips_fit k h j a l aw) (places_apart j a k (number bs k) w aw hl d)
              ∙ sym (strip_value_newest bs j p)
        ]

    strips_set : strip_image new ≡ set (strip_image bs) k (written (at (strip_image bs) k) v)
    unfolding strip_image
    strips_set =
        let counted : strip_count new ≡ strip_count bs =
        ap (λ (x : Bool). cond x (count_in new) 0) sound_after ∙ ap (λ (x : ℕ). cond (is_strip_image bs) x 0) same_count in
        ap (λ (x : ℕ). table x (shown new)) counted
        ∙ table-set (strip_count bs) (shown bs) (shown new) k (written (at (strip_image bs) k) v) (shows k h)
        (let less : second_in new - number new k ≡ w - number bs k - 1 = omega (arith, same_width, number_here) in
        ap (λ (x : List ℕ). cell x (second_in new - number new k)) value_here
        ∙ ap (cell v) less
        ∙ ap (λ (c : Cell). written c v) (sym (strips_at k h)))
        (λ j l d.
        let jn : j < n = strips_among j (omega (arith, strips_length)) in
        let left : second_in new - number new j ≡ w - number bs j = omega (arith, same_width, number_there j jn d) in
        ap (λ (x : List ℕ). cell x (second_in new - number new j)) (value_there j jn d) ∙ ap (cell (strip_value bs j)) left)

    pub strips_written : strip_image new ≡ write_cells (strip_image bs) k v
    strips_written = answered_write (strip_image bs) k h v lv (strip_image new) (omega (arith, strips_left k h)) strips_set

pub ruleset strips = (strips_length, strips_value, strips_left, strips_among, strips_room, strips_used_here, strips_newest_fits, strips_fit, strips_shaped, strips_written)
