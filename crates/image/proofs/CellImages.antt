-- A cell image's cells: how many, which, and after a write.
use Rattle.std.proofs.Common.{◌≡◌, ℕ, ◌+◌, ◌-◌, ◌*◌, ◌<◌, ◌≤◌, cond, ◌&&◌, eqb, List, length, get_or, set, sym, ap, ◌∙◌, subst, arith}
use Rattle.std.proofs.lemmas.Bool.Decides.{nat_tests}
use Rattle.store.specs.declared.cell.Cell.{Cell}
use Rattle.store.specs.Cells.{cell, none, at, Sized, Shaped, written, write_cells}
use Rattle.store.specs.Tables.{table}
use Rattle.image.specs.Bytes.{count_in, second_in, number, number_place, value, value_place}
use Rattle.image.specs.Images.{cell_count, cell_image, cell_write}
use Rattle.store.proofs.Calls.{answered_write}
use Rattle.store.proofs.Tabled.{length-table, get_or-table, table-set}
use Rattle.image.proofs.Altered.{length-part, part_bytes, length-altered, altered_count, altered_second, altered_number, altered_number_other, altered_value, altered_value_other}

abbrev shown : List ℕ → ℕ → Cell
shown bs k = cell (value bs k) (number bs k)

abbrev counted : ℕ → ℕ → ℕ → ℕ
counted n size len = cond (eqb size 20 && eqb len (4 + 22 * n)) n 0

module _ (bs : List ℕ) where
  pub cells_length : length (cell_image bs) ≡ cell_count bs
  unfolding cell_image
  cells_length = length-table _ _

  -- what a cell tells of the image
  module _ (k : ℕ) (h : k < length (cell_image bs)) where
    shows : k < cell_count bs
    shows = omega (arith, cells_length)

    cells_at : at (cell_image bs) k ≡ shown bs k
    unfolding cell_image
    cells_at = get_or-table _ _ k none shows

    pub cells_value : (at (cell_image bs) k).value ≡ value bs k
    cells_value = ap (λ (c : Cell). c.value) cells_at

    pub cells_left : (at (cell_image bs) k).left ≡ number bs k
    cells_left = ap (λ (c : Cell). c.left) cells_at

    pub cells_among : k < count_in bs
    cells_among = let l = shows in grind (arith, nat_tests)

    pub cells_room : length bs ≡ 4 + 22 * count_in bs
    cells_room = let l = shows in grind (arith, nat_tests)

  pub cells_shaped : ((i : ℕ) → get_or bs i 0 < 256) → Shaped (cell_image bs)
  cells_shaped small =
      let e = cells_length in
      let a = small 0 in
      let b = small 1 in
      let few : cell_count bs < 65536 = grind (arith, nat_tests) in
      record {
        few = omega arith;
        each = λ k h.
            let n = cells_among k h in
            let room = cells_room k h in
            let p = value_place (count_in bs) k in
            let fits : p + 20 ≤ length bs = omega arith in
            subst Sized (sym (cells_at k h)) (record {
              twenty = length-part bs p fits;
              bytes = part_bytes bs p small;
              low = omega (arith, small (number_place k), small (number_place k + 1));
            });
      }

  module _ (k : ℕ) (v : List ℕ) (h : k < length (cell_image bs)) (lv : length v ≡ 20) (hl : 0 < number bs k) where
    abbrev new : List ℕ
    new = cell_write bs k v

    kn : k < count_in bs
    kn = cells_among k h

    fits : (j : ℕ) → j < count_in bs → value_place (count_in bs) j + 20 ≤ length bs
    fits j l = let room = cells_room k h in omega arith

    cells_count_after : cell_count new ≡ cell_count bs
    cells_count_after =
        ap (λ (x : ℕ). counted x (second_in new) (length new)) (altered_count bs k (number bs k - 1) k v kn (fits k kn) lv)
        ∙ ap (λ (x : ℕ). counted (count_in bs) x (length new)) (altered_second bs k (number bs k - 1) k v kn (fits k kn) lv)
        ∙ ap (λ (x : ℕ). counted (count_in bs) (second_in bs) x) (length-altered bs k (number bs k - 1) k v kn (fits k kn) lv)

    cells_set : cell_image new ≡ set (cell_image bs) k (written (at (cell_image bs) k) v)
    unfolding cell_image
    cells_set =
        let m = number bs k - 1 in
        ap (λ (x : ℕ). table x (shown new)) cells_count_after
        ∙ table-set (cell_count bs) (shown bs) (shown new) k (written (at (cell_image bs) k) v) (shows k h)
        (let x = altered_value bs k m k v kn (fits k kn) lv in
        let y = altered_number bs k m k v kn (fits k kn) lv in
        let z = cells_at k h in
        ap (λ (w : List ℕ). cell w (number new k)) x ∙ ap (cell v) y ∙ ap (λ (c : Cell). written c v) (sym z))
        (λ j l d.
        let jn : j < count_in bs = cells_among j (omega (arith, cells_length)) in
        ap (λ (w : List ℕ). cell w (number new j)) (altered_value_other bs k m k v kn (fits k kn) lv j (fits j jn) d)
        ∙ ap (cell (value bs j)) (altered_number_other bs k m k v kn (fits k kn) lv j jn d))

    pub cells_written : cell_image new ≡ write_cells (cell_image bs) k v
    cells_written = answered_write (cell_image bs) k h v lv (cell_image new) (omega (arith, cells_left k h)) cells_set

pub ruleset cells = (cells_length, cells_value, cells_left, cells_among, cells_room, cells_shaped, cells_written)
