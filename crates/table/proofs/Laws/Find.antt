-- An id that is none of a table's is unknown, as the last arm of a `match` knows it.
use mathlib.Core.List.{List, [], ◌∷◌}
use mathlib.Core.Path.{◌≡◌, refl}
use Prim.Native.Nat.{ℕ}
use borrow.Author.Tests.{ne_eqb}
use Rattle.table.specs.Table.{Entry, find}
use Rattle.std.specs.Prelude.{None}

abbrev pub Absent : Type 0 → List Entry → ℕ → Type 0
Absent N [] id = N
Absent N (e ∷ es) id = Absent (N × (id ≡ e.id → ⊥)) es id

pub unknown : (N : Type 0) (es : List Entry) (id : ℕ) → Absent N es id → (find id es ≡ None) × N
unknown N [] id h = (refl, h)
unknown N (e ∷ es) id h =
    let r = unknown (N × (id ≡ e.id → ⊥)) es id h in
    (rw (ne_eqb id e.id r.1.1) r.0, r.1.0)
