-- The state of a device or a clock.
use Rattle.std.specs.Prelude.{true, cond, ℕ, ◌%◌, eqb}
use Rattle.board.specs.declared.items.State.{State}

-- bit 0: on; an absent item answers state 2
unfoldable pub state_of : State → ℕ
state_of s = cond s.exists (cond s.on 1 0) 2

-- an absent item answers rate or time 0
unfoldable pub present : State → ℕ → ℕ
present s n = cond s.exists n 0

-- a set takes bit 0 only, and changes no absent item
unfoldable pub switched : ℕ → State → State
switched x s = cond s.exists (record { exists = true; on = eqb (x % 2) 1 }) s
