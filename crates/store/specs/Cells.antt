-- What a store's cells are, and what each call on them answers and leaves.
use Rattle.std.specs.Prelude.{◌≡◌, ℕ, ◌-◌, ◌<◌, cond, List, [], length, Ok, Err, Result, ◌==◌, nat_lt, slice_index, slice_index_or, slice_set}
use Rattle.store.specs.declared.cell.Cell.{Cell}
use Rattle.store.specs.declared.refusal.Place.{Place}
use Rattle.store.specs.Refusals.{Told, misfit, absent, worn}

abbrev pub cell : List ℕ → ℕ → Cell
cell v n = record { value = v; left = n }

-- what stands where there is no cell
abbrev pub none : Cell
none = cell [] 0

abbrev pub at : List Cell → ℕ → Cell
at cs k = slice_index_or cs k none

-- a value is twenty bytes, and the writes left are at most 65,535
pub record Sized (c : Cell) : Type 0 where
  pub twenty : length c.value ≡ 20
  pub bytes : (i : ℕ) → slice_index c.value i < 256
  pub low : c.left < 65536

-- what the cells of every store keep to
pub record Shaped (cs : List Cell) : Type 0 where
  pub few : length cs < 65536
  pub each : (k : ℕ) → k < length cs → Sized (at cs k)

-- what a call for cell k of n answers: absent, or else what the call itself has to say
abbrev pub present : {X : Type 0} → ℕ → ℕ → Result X Told → Result X Told
present n k r = cond (nat_lt k n) r (Err (absent k))

-- the same with len bytes: misfit comes first
abbrev pub fitted : {X : Type 0} → ℕ → ℕ → ℕ → Result X Told → Result X Told
fitted n k len r = cond (len == 20) (present n k r) (Err (misfit k))

abbrev pub read_answer : List Cell → ℕ → ℕ → Result (Unit {0}) Told
read_answer cs k len = fitted (length cs) k len (Ok tt)

-- what the bytes to read into hold afterwards
abbrev pub read_bytes : List Cell → ℕ → List ℕ → List ℕ
read_bytes cs k into = cond (length into == 20) (cond (nat_lt k (length cs)) (at cs k).value into) into

abbrev pub left_answer : List Cell → ℕ → Result ℕ Told
left_answer cs k = present (length cs) k (Ok (at cs k).left)

abbrev pub write_answer : List Cell → (ℕ → Place) → ℕ → List ℕ → Result (Unit {0}) Told
write_answer cs place k v = fitted (length cs) k (length v) (cond (nat_lt 0 (at cs k).left) (Ok tt) (Err (worn (place k))))

-- a cell that was written
abbrev pub written : Cell → List ℕ → Cell
written c v = cell v (c.left - 1)

-- the cells after a write
abbrev pub write_cells : List Cell → ℕ → List ℕ → List Cell
write_cells cs k v = cond (length v == 20) (cond (nat_lt k (length cs)) (cond (nat_lt 0 (at cs k).left) (slice_set cs k (written (at cs k) v)) cs) cs) cs

-- where writes are refused stays as it was
abbrev pub Unmoved : (ℕ → Place) → (ℕ → Place) → Type 0
Unmoved before after = (k : ℕ) → after k ≡ before k
