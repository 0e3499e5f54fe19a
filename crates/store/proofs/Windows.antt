-- A window's cells: how many, which, and after a write.
use Rattle.std.proofs.Common.{◌≡◌, ℕ, ◌+◌, ◌-◌, ◌<◌, min, List, length, take, drop, set, sym, ap, ◌∙◌, subst, arith, length-drop, length-take}
use lib.Seq.{take-set-lt}
use Rattle.std.proofs.lemmas.List.{get_or-take, get_or-drop, drop-set-add}
use Rattle.std.proofs.lemmas.Bool.Decides.{nat_tests}
use Rattle.store.specs.declared.cell.Cell.{Cell}
use Rattle.store.specs.declared.refusal.Place.{Place}
use Rattle.store.specs.Refusals.{deeper}
use Rattle.store.specs.Cells.{none, at, Sized, Shaped, Unmoved, written, write_cells}
use Rattle.store.specs.Layers.{window, window_place}

module _ (f m : ℕ) (cs : List Cell) where
  pub length-window : length (window f m cs) ≡ min m (length cs - f)
  unfolding window
  length-window = simp (length-take, length-drop)

  module _ (k : ℕ) (h : k < min m (length cs - f)) where
    pub at-window : at (window f m cs) k ≡ at cs (f + k)
    unfolding window
    at-window =
        let km : k < m = omega arith in
        get_or-take m (drop f cs) k none km ∙ get_or-drop f cs k none

    window-set : (c : Cell) → window f m (set cs (f + k) c) ≡ set (window f m cs) k c
    unfolding window
    window-set c =
        let km : k < m = omega arith in
        ap (take m) (drop-set-add f cs k c) ∙ take-set-lt m (drop f cs) k c km

    pub window_after : (cs' : List Cell) (v : List ℕ) → cs' ≡ write_cells cs (f + k) v → window f m cs' ≡ write_cells (window f m cs) k v
    window_after cs' v after =
        let e = length-window in
        let a = at-window in
        let s = window-set (written (at cs (f + k)) v) in
        let w = ap (window f m) after in
        grind (arith, nat_tests)

  pub window_shaped : Shaped cs → Shaped (window f m cs)
  window_shaped s =
      let e = length-window in
      record {
        few = omega (arith, s.few);
        each = λ k h. subst Sized (sym (at-window k (omega arith))) (s.each (f + k) (omega arith));
      }

pub window_settled : (f : ℕ) (place place' : ℕ → Place) → Unmoved place place' → Unmoved (window_place f place) (window_place f place')
window_settled f place place' same k = ap deeper (same (f + k))

pub ruleset windows = (length-window, at-window, window_shaped, window_after, window_settled)
