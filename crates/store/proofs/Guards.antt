-- A guard's cells: how many, which, and after a write.
use Rattle.std.proofs.Common.{◌≡◌, ℕ, ◌-◌, ◌<◌, min, List, length, get_or, set, sym, ap, ◌∙◌, subst, inl, inr, arith, length-set}
use Rattle.std.proofs.lemmas.List.{get_or-set_same, get_or-set_other, get_or_past}
use Rattle.std.proofs.lemmas.Bool.{cases_lt, cases_eq}
use Rattle.std.proofs.lemmas.Bool.Decides.{nat_tests}
use Rattle.store.specs.declared.cell.Cell.{Cell}
use Rattle.store.specs.declared.refusal.Place.{Place}
use Rattle.store.specs.Cells.{none, at, Sized, Shaped, Unmoved, written, write_cells}
use Rattle.store.specs.Tables.{table}
use Rattle.store.specs.Layers.{allowed, guard, guard_place, WornIsNamed}
use Rattle.store.proofs.Calls.{answered_write}
use Rattle.store.proofs.Tabled.{length-table, get_or-table, table-set}

-- where a list holds more than the default, there is a place
within : (xs : List ℕ) (k : ℕ) → 0 < get_or xs k 0 → k < length xs
within xs k h = elim (cases_lt k (length xs)) [ inl l ↦ l | inr l ↦ let e = get_or_past xs k 0 l in absurd (omega arith) ]

module _ (rest : List ℕ) (cs : List Cell) where
  pub length-guard : length (guard rest cs) ≡ min 32 (length cs)
  unfolding guard
  length-guard = length-table _ _

  pub at-guard : (k : ℕ) → k < min 32 (length cs) → at (guard rest cs) k ≡ allowed (get_or rest k 0) (at cs k)
  unfolding guard
  at-guard k h = get_or-table _ _ k none h

  pub guard_shaped : Shaped cs → Shaped (guard rest cs)
  guard_shaped s =
      let e = length-guard in
      record {
        few = omega (arith, s.few);
        each = λ k h.
            let a = at-guard k (omega arith) in
            let b = s.each k (omega arith) in
            subst Sized (sym a) (record { twenty = b.twenty; bytes = b.bytes; low = omega (arith, b.low) });
      }

  module _ (k : ℕ) (h : k < min 32 (length cs)) (v : List ℕ) (hr : 0 < get_or rest k 0) where
    -- the allowances and the cells below after a write
    abbrev spent : List ℕ
    spent = set rest k (get_or rest k 0 - 1)

    abbrev below : List Cell
    below = set cs k (written (at cs k) v)

    spent_here : get_or spent k 0 ≡ get_or rest k 0 - 1
    spent_here = get_or-set_same rest k (get_or rest k 0 - 1) 0 (within rest k hr)

    below_here : at below k ≡ written (at cs k) v
    below_here = get_or-set_same cs k (written (at cs k) v) none (omega arith)

    less : (r : ℕ) (c : Cell) → 0 < r → 0 < c.left → allowed (r - 1) (written c v) ≡ written (allowed r c) v
    less r c l m = grind (arith, nat_tests)

    guard-set : 0 < (at cs k).left → guard spent below ≡ set (guard rest cs) k (written (at (guard rest cs) k) v)
    unfolding guard
    guard-set hc =
        let now : ℕ → Cell = λ j. allowed (get_or spent j 0) (at below j) in
        ap (λ (n : ℕ). table n now) (ap (min 32) (length-set cs k _))
        ∙ table-set (min 32 (length cs)) (λ j. allowed (get_or rest j 0) (at cs j)) now k (written (at (guard rest cs) k) v) h
        (ap (λ (x : ℕ). allowed x (at below k)) spent_here
        ∙ ap (λ (x : Cell). allowed (get_or rest k 0 - 1) x) below_here
        ∙ less (get_or rest k 0) (at cs k) hr hc
        ∙ ap (λ (x : Cell). written x v) (sym (at-guard k h)))
        (λ j l q.
        ap (λ (x : ℕ). allowed x (at below j)) (get_or-set_other rest k j _ 0 q)
        ∙ ap (λ (x : Cell). allowed (get_or rest j 0) x) (get_or-set_other cs k j _ none q))

    -- the store below wrote
    module _ (hc : 0 < (at cs k).left) (lv : length v ≡ 20) (rest' : List ℕ) (cs' : List Cell) (er : rest' ≡ spent) (ec : cs' ≡ write_cells cs k v) where
      below_after : cs' ≡ below
      below_after = grind (arith, nat_tests)

      pub guard_after : guard rest' cs' ≡ write_cells (guard rest cs) k v
      guard_after =
          answered_write (guard rest cs) k (omega (arith, length-guard)) v lv (guard rest' cs')
          (omega (arith, ap (λ (c : Cell). c.left) (at-guard k h), hc))
          (ap (λ (x : List ℕ). guard x cs') er ∙ ap (guard spent) below_after ∙ guard-set hc)

      -- where a write is refused does not move, since both numbers fall by one
      pub guard_settled : (place place' : ℕ → Place) → Unmoved place place' → Unmoved (guard_place rest cs place) (guard_place rest' cs' place')
      guard_settled place place' same j =
          let p = same j in
          let r : get_or rest' j 0 ≡ get_or spent j 0 = ap (λ (x : List ℕ). get_or x j 0) er in
          let c : at cs' j ≡ at below j = ap (λ (x : List Cell). at x j) below_after in
          elim (cases_eq j k) [
            | inl q ↦ let s = spent_here in let t = below_here in grind (arith, nat_tests)
            | inr q ↦
                let s = get_or-set_other rest k j (get_or rest k 0 - 1) 0 q in
                let t = get_or-set_other cs k j (written (at cs k) v) none q in
                grind (arith, nat_tests)
          ]

pub worn_is_named_lem : WornIsNamed
worn_is_named_lem rest cs below k = record { by_guard = λ z. grind (arith, nat_tests); by_below = λ l z. grind (arith, nat_tests) }

pub ruleset guards = (length-guard, at-guard, guard_shaped, guard_after, guard_settled)
