-- What a tag leaves of its item.
use mathlib.Core.Bool.{Bool, true, false, cond, not, ◌&&◌, ◌||◌, and-eq-true_iff, true≢false}
use mathlib.Core.Path.{◌≡◌, refl, sym, ap, ◌∙◌}
use Prim.Native.Nat.{ℕ, ◌%◌, ◌≤◌}
use native.Mathlib.Omega.{arith}
use borrow.Author.Tests.{leb-true, le-leb}
use lib.Dec.{eqb, leb}
use Rattle.words.proofs.Laws.Clamp.{clamp_least, clamp_most}
use Rattle.words.specs.Clamp.{clamp}
use Rattle.board.specs.Items.{valid_state, valid_device, valid_clock, valid_voltage}
use Rattle.board.specs.declared.items.Clock.{Clock}
use Rattle.board.specs.declared.items.Device.{Device}
use Rattle.board.specs.declared.items.State.{State}
use Rattle.board.specs.declared.items.Voltage.{Voltage}
use Rattle.table.specs.declared.kinds.ClockTag.{ClockTag}
use Rattle.table.specs.declared.kinds.PowerTag.{PowerTag}
use Rattle.table.specs.declared.kinds.VoltageTag.{VoltageTag}
use Rattle.tags.specs.Clock.{settled, clock_after, clock_value}
use Rattle.tags.specs.Power.{power_after, power_value}
use Rattle.tags.specs.State.{switched}
use Rattle.tags.specs.Voltage.{voltage_after, voltage_value}

-- ---- an absent or invalid item is left alone
pub switched_absent : (x : ℕ) (s : State) → s.exists ≡ false → switched x s ≡ s
unfolding switched
switched_absent x s e = rw e

pub power_absent : (t : PowerTag) (x : ℕ) (d : Device) → d.state.exists ≡ false → power_after t x d ≡ d
unfolding power_after
power_absent PowerTag.State x d e = refl
power_absent PowerTag.Timing x d e = refl
power_absent PowerTag.SetState x d e = ap (λ (s : State). record { state = s; timing = d.timing }) (switched_absent x d.state e)

pub clock_absent : (t : ClockTag) (x : ℕ) (c : Clock) → c.state.exists ≡ false → clock_after t x c ≡ c
unfolding clock_after settled
clock_absent ClockTag.SetState x c e = ap (λ (s : State). record { state = s; rate = c.rate; min = c.min; max = c.max }) (switched_absent x c.state e)
clock_absent ClockTag.SetRate x c e = rw e
clock_absent ClockTag.State x c e = refl
clock_absent ClockTag.Rate x c e = refl
clock_absent ClockTag.Max x c e = refl
clock_absent ClockTag.Min x c e = refl

pub voltage_absent : (t : VoltageTag) (x : ℕ) (v : Voltage) → v.valid ≡ false → voltage_after t x v ≡ v
unfolding voltage_after
voltage_absent VoltageTag.Set x v e = rw e
voltage_absent VoltageTag.Get x v e = refl
voltage_absent VoltageTag.Max x v e = refl
voltage_absent VoltageTag.Min x v e = refl

-- ---- a valid item stays valid
pub switched_valid : (x : ℕ) (s : State) → valid_state s ≡ true → valid_state (switched x s) ≡ true
unfolding valid_state switched
switched_valid x s v = go s.exists s.on v
  where
    go : (exists on : Bool) → (exists || not on) ≡ true
        → ((cond exists (record { exists = true; on = eqb (x % 2) 1 }) s).exists || not (cond exists (record { exists = true; on = eqb (x % 2) 1 })
        s).on) ≡ true
    go true on e = refl
    go false on e = v

pub power_valid : (t : PowerTag) (x : ℕ) (d : Device) → valid_device d ≡ true → valid_device (power_after t x d) ≡ true
unfolding power_after valid_device
power_valid PowerTag.State x d v = v
power_valid PowerTag.Timing x d v = v
power_valid PowerTag.SetState x d v = switched_valid x d.state v

switched_exists : (x : ℕ) (s : State) → (switched x s).exists ≡ s.exists
unfolding switched
switched_exists x s = go s.exists refl
  where
    go : (exists : Bool) → s.exists ≡ exists → (cond exists (record { exists = true; on = eqb (x % 2) 1 }) s).exists ≡ s.exists
    go true e = sym e
    go false e = refl

-- a test that asks something only where a flag is set
only_where : (b c : Bool) → (b ≡ true → c ≡ true) → (not b || c) ≡ true
only_where true c h = h refl
only_where false c h = refl

where_set : (b c : Bool) → (not b || c) ≡ true → b ≡ true → c ≡ true
where_set true c e z = e
where_set false c e z = absurd (true≢false cc)

both : (a b : Bool) → a ≡ true → b ≡ true → (a && b) ≡ true
both a b p q = (and-eq-true_iff a b).1 (p, q)

-- what a valid clock is
pub record ClockValid (c : Clock) : Type 0 where
  pub state : valid_state c.state ≡ true
  pub range : c.state.exists ≡ true → (c.min ≤ c.rate) × (c.rate ≤ c.max)

pub clock_is : (c : Clock) → valid_clock c ≡ true → ClockValid c
unfolding valid_clock
clock_is c v =
    let p = (and-eq-true_iff (valid_state c.state) (not c.state.exists || leb c.min c.rate && leb c.rate c.max)).0 v in
    record {
      state = p.0;
      range = λ e. let w = where_set c.state.exists (leb c.min c.rate && leb c.rate c.max) p.1 e in
          let q = (and-eq-true_iff (leb c.min c.rate) (leb c.rate c.max)).0 w in
          (leb-true c.min c.rate q.0, leb-true c.rate c.max q.1);
    }

pub is_clock : (c : Clock) → ClockValid c → valid_clock c ≡ true
unfolding valid_clock
is_clock c v =
    both (valid_state c.state) (not c.state.exists || leb c.min c.rate && leb c.rate c.max) v.state
    (only_where c.state.exists (leb c.min c.rate && leb c.rate c.max)
    (λ e. let r = v.range e in both (leb c.min c.rate) (leb c.rate c.max) (le-leb c.min c.rate r.0) (le-leb c.rate c.max r.1)))

settled_valid : (x : ℕ) (c : Clock) → valid_clock c ≡ true → valid_clock (settled x c) ≡ true
unfolding settled
settled_valid x c v = go c.state.exists refl
  where
    go : (exists : Bool) → c.state.exists ≡ exists
        → valid_clock (cond exists (record { state = c.state; rate = clamp c.min c.max x; min = c.min; max = c.max }) c) ≡ true
    go true e =
        let k = clock_is c v in
        let r = k.range e in
        is_clock (record { state = c.state; rate = clamp c.min c.max x; min = c.min; max = c.max })
        (record { state = k.state; range = λ _. (clamp_least c.min c.max x (omega arith), clamp_most c.min c.max x) })
    go false e = v

pub clock_valid : (t : ClockTag) (x : ℕ) (c : Clock) → valid_clock c ≡ true → valid_clock (clock_after t x c) ≡ true
unfolding clock_after
clock_valid ClockTag.SetState x c v =
    let k = clock_is c v in
    is_clock (record { state = switched x c.state; rate = c.rate; min = c.min; max = c.max })
    (record { state = switched_valid x c.state k.state; range = λ e. k.range (sym (switched_exists x c.state) ∙ e) })
clock_valid ClockTag.SetRate x c v = settled_valid x c v
clock_valid ClockTag.State x c v = v
clock_valid ClockTag.Rate x c v = v
clock_valid ClockTag.Max x c v = v
clock_valid ClockTag.Min x c v = v

pub voltage_valid : (t : VoltageTag) (x : ℕ) (v : Voltage) → valid_voltage v ≡ true → valid_voltage (voltage_after t x v) ≡ true
unfolding voltage_after valid_voltage
voltage_valid VoltageTag.Set x v h = go v.valid refl
  where
    go : (valid : Bool) → v.valid ≡ valid
        → valid_voltage (cond valid (record { valid = v.valid; value = clamp v.min v.max x; min = v.min; max = v.max }) v) ≡ true
    go true e =
        let k = where_set v.valid (leb v.min v.value && leb v.value v.max && leb v.max 10000) h e in
        let ab = (and-eq-true_iff (leb v.min v.value && leb v.value v.max) (leb v.max 10000)).0 k in
        let a = (and-eq-true_iff (leb v.min v.value) (leb v.value v.max)).0 ab.0 in
        let low = leb-true v.min v.value a.0 in
        let high = leb-true v.value v.max a.1 in
        let n = clamp v.min v.max x in
        let least = le-leb v.min n (clamp_least v.min v.max x (omega arith)) in
        let most = le-leb n v.max (clamp_most v.min v.max x) in
        only_where v.valid (leb v.min n && leb n v.max && leb v.max 10000)
        (λ _. both (leb v.min n && leb n v.max) (leb v.max 10000) (both (leb v.min n) (leb n v.max) least most) ab.1)
    go false e = h
voltage_valid VoltageTag.Get x v h = h
voltage_valid VoltageTag.Max x v h = h
voltage_valid VoltageTag.Min x v h = h

-- ---- what a set leaves is what the get then answers
pub power_set_get : (d : Device) → power_value PowerTag.SetState d ≡ power_value PowerTag.State d
unfolding power_value
power_set_get d = refl

pub clock_set_get : (c : Clock)
    → (clock_value ClockTag.SetState c ≡ clock_value ClockTag.State c) × (clock_value ClockTag.SetRate c ≡ clock_value ClockTag.Rate c)
unfolding clock_value
clock_set_get c = (refl, refl)

pub voltage_set_get : (v : Voltage) → voltage_value VoltageTag.Set v ≡ voltage_value VoltageTag.Get v
unfolding voltage_value
voltage_set_get v = refl
