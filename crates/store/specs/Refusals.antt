-- What a refusal says: the number of its cause, and where it arose.
use Rattle.std.specs.Prelude.{ℕ, ◌+◌, min, List, ◌++◌, codes, decimal, Ok, Err, Result}
use Rattle.store.specs.declared.refusal.Place.{Place}
use Rattle.store.specs.declared.refusal.Refusal.{Refusal}
use Rattle.store.specs.declared.refusal.Refusal.TheVariants.{Misfit, Absent, Worn}

abbrev pub Told : Type 0
Told = ℕ × Place

-- each case with its number, in the order in which they are tried, and its values: the layers down and the cell there
abbrev pub told : Refusal → Told
told (Misfit p) = (1, p)
told (Absent p) = (2, p)
told (Worn p) = (3, p)

-- a cell of the store that was called
abbrev pub here : ℕ → Place
here k = record { layer = 0; cell = k }

-- the same place as the layer above sees it; 65,535 layers stand for as many or more
abbrev pub deeper : Place → Place
deeper p = record { layer = min (p.layer + 1) 65535; cell = p.cell }

-- every store names itself for the first two
abbrev pub misfit : ℕ → Told
misfit k = (1, here k)

abbrev pub absent : ℕ → Told
absent k = (2, here k)

abbrev pub worn : Place → Told
worn p = (3, p)

-- a refusal as the layer above hands it on
abbrev pub lower : Told → Told
lower t = (t.0, deeper t.1)

-- an answer, with its refusal in numbers
abbrev pub said : {X : Type 0} → Result X Refusal → Result X Told
said (Ok x) = Ok x
said (Err r) = Err (told r)

-- the layers down and the cell there, in decimal
abbrev pub place_text : Place → List ℕ
place_text p = decimal p.layer ++ codes " " ++ decimal p.cell

-- the word for the cause, and the place
abbrev pub refusal_text : Refusal → List ℕ
refusal_text (Misfit p) = codes "misfit " ++ place_text p
refusal_text (Absent p) = codes "absent " ++ place_text p
refusal_text (Worn p) = codes "worn " ++ place_text p
