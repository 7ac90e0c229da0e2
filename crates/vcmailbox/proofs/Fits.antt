-- The offsets, counts and cursors that cross fit 32 bits: none is above the largest message, but for a cursor that a refused add gives back.
use mathlib.Core.List.{List}
use mathlib.Core.Path.{◌≡◌, ap}
use Prim.Native.Nat.{ℕ, ◌+◌, ◌≤◌, ◌^◌, ◌-◌}
use native.Mathlib.Omega.{arith}
use mir.Syntax.{w32, w64}
use mir.Val.{Fits}
use Rattle.message.proofs.Laws.Bounds.{listed_inside, start_inside, add_inside, finish_inside}
use Rattle.message.proofs.Laws.Shown.{ReadingWithin, found_inside}
use Rattle.message.specs.Builder.{Call, leaves, started, added, finished}
use Rattle.message.specs.Lister.{listed}
use Rattle.message.specs.Reader.{found}
use Rattle.message.specs.Sizes.{largest}
use Rattle.message.specs.declared.builder.Built.{Built}
use Rattle.message.specs.declared.builder.Cursor.{Cursor}
use Rattle.message.specs.declared.builder.Finished.{Finished}
use Rattle.message.specs.declared.lister.Listed.{Listed}
use Rattle.message.specs.declared.reader.Reading.{Reading}
use Rattle.board.specs.declared.record.Board.{Board}
use Rattle.responder.proofs.Laws.ReplyPlace.{reply_inside}
use Rattle.responder.specs.Reply.{reply}
use Rattle.responder.specs.declared.respond.Served.{Served}

inside_fits : {n k : ℕ} → n ≡ k → k ≤ largest → Fits w32 n
inside_fits e h = record { fits = omega arith }

module _ (m : List ℕ) (i : ℕ) {r : Listed} (e : r ≡ listed m i) where
  pub list_place_fits : Fits w32 r.place
  list_place_fits = inside_fits (ap (λ (x : Listed). x.place) e) (listed_inside m i).0

  pub list_value_fits : Fits w32 r.value
  list_value_fits = inside_fits (ap (λ (x : Listed). x.value) e) (listed_inside m i).1

module _ (m : List ℕ) (id n wanted : ℕ) {r : Reading} (e : r ≡ found m id n wanted) where
  within : ReadingWithin largest (found m id n wanted)
  within = found_inside m largest (λ size w. w.most) id n wanted

  pub read_place_fits : Fits w32 r.place
  read_place_fits = inside_fits (ap (λ (x : Reading). x.place) e) within.place

  pub read_value_fits : Fits w32 r.value
  read_value_fits = let k = within.part in inside_fits (ap (λ (x : Reading). x.value) e) (omega arith)

  pub read_count_fits : Fits w32 r.count
  read_count_fits = let k = within.part in inside_fits (ap (λ (x : Reading). x.count) e) (omega arith)

  -- where the part ends, a sum that the code computes in 64 bits
  pub read_end_fits : Fits w64 (r.value + r.count)
  read_end_fits = let k = within.part in let q = ap (λ (x : Reading). x.value + x.count) e in record { fits = omega arith }

pub start_cursor_fits : (m : List ℕ) {r : Built} → r ≡ started m → Fits w32 r.cursor.at
start_cursor_fits m e = inside_fits (ap (λ (x : Built). x.cursor.at) e) (start_inside m)

pub add_cursor_fits : (m : List ℕ) (c : Cursor) (id size : ℕ) (request : List ℕ) {m₁ : List ℕ} {r : Built} → leaves m₁ r ≡ added m c id size request →
    Fits w32 c.at → Fits w32 r.cursor.at
add_cursor_fits m c id size request {m₁} {r} e f =
    let is : r.cursor.at ≡ (added m c id size request).answer.cursor.at = ap (λ (x : Call Built). x.answer.cursor.at) e in
    let k = add_inside m c id size request {n = 2 ^ 32 - 1} (omega arith) (let w = f.fits in omega arith) in
    record { fits = omega arith }

pub finish_size_fits : (m : List ℕ) (c : Cursor) {m₁ : List ℕ} {r : Finished} → leaves m₁ r ≡ finished m c → Fits w32 r.size
finish_size_fits m c e = inside_fits (ap (λ (x : Call Finished). x.answer.size) e) (finish_inside m c)

pub serve_place_fits : (b : Board) (m : List ℕ) (r : Served) (m₁ : List ℕ) → leaves m₁ r ≡ reply b m → Fits w32 r.place
serve_place_fits b m r m₁ e = inside_fits (ap (λ (x : Call Served). x.answer.place) e) (reply_inside b m)
