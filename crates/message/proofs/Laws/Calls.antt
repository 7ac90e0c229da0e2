-- The functions of the reader as their callers cite them, and a reader that is kept in a local.
use mathlib.Core.Path.{◌≡◌}
use mathlib.Core.List.{[], ◌∷◌}
use lib.Dec.{T as Holds}
use seplogic.Ra.Ura.{Ura}
use mir.Syntax.{erased}
use mir.Val.{Val, has_ty, WT}
use base.Fml.{Lft}
use types.Logic.{Logic}
use denote.Laws.{Is, Copy}
use denote.Signature.{named_lft}
use denote.Struct.Laws as LL
use Rattle.message.proofs.Laws.HandCall.{Promise, CallShape, Slice, question_parameters, of_slice, of_reader}
use Rattle.message.specs.contracts.reader.Reader as T
use Rattle.message.proofs.reader.Reader.TheLaws as T'
use Rattle.message.specs.contracts.reader.Reading as S
use Rattle.message.specs.Reader.{found, view, shown_part}
use Rattle.message.specs.declared.reader.Reader.{Reader}

-- what `read` and `part` promise, as functions and as methods
abbrev pub read_promise : Promise Slice (λ κs. S.the_row) question_parameters
read_promise κs s n r = r ≡ found s.now n.0 n.1.0 n.1.1.0

abbrev pub part_promise : Promise Slice Slice question_parameters
part_promise κs s n r = view r ≡ shown_part s (found s.now n.0 n.1.0 n.1.1.0)

-- `open`, and the methods
abbrev pub open_call : CallShape
open_call = of_slice [] (λ κs. T.the_row (named_lft 1 0 tt κs)) (λ κs s n r. r.bytes ≡ s)

abbrev pub read_call : CallShape
read_call = of_reader question_parameters (λ κs. S.the_row) read_promise

abbrev pub part_call : CallShape
part_call = of_reader question_parameters Slice part_promise

module _ {M : Type 1} {𝓤 : Ura M} (𝓛 : Logic 𝓤) (κ : Lft) where
  -- a reader is Copy
  pub reader_copies : Copy 𝓛 (read_call.Has (κ, tt))
  reader_copies = LL.copy (T.the_type (named_lft 1 0 tt (κ, tt))) (T'.the_copy (named_lft 1 0 tt (κ, tt))) 𝓛

  -- in a local of a body MIR erases the lifetime of its type: it has the type at `erased`, since what it owns does not say the lifetime's name
  pub in_local : (d : Reader) (u : Val) → Is (read_call.Has (κ, tt)) d (u ∷ []) → Holds (has_ty (T'.mir erased) u) × WT u
  in_local d u is =
      ((LL.lawful (T.the_type (record { mir = erased; lft = κ })) (T'.the_laws (record { mir = erased; lft = κ })) 𝓛).typed d _ is).0
