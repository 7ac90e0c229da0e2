-- What tags say that stand apart is written in either order.
use mathlib.Core.List.{List, [], ◌∷◌}
use mathlib.Core.Path.{◌≡◌, refl, sym, ap, ◌∙◌}
use Prim.Native.Nat.{ℕ, ◌+◌, ◌≤◌}
use native.Mathlib.Omega.{arith}
use Rattle.message.proofs.Laws.Follows.{Follows, follows_same}
use Rattle.message.proofs.Laws.Steps.{step_found}
use Rattle.message.specs.Sizes.{tag_header}
use Rattle.message.specs.declared.walk.Ending.{Ending}
use Rattle.message.specs.declared.walk.Tag.{Tag}
use Rattle.answers.proofs.Laws.Answers.{answered_apart}
use Rattle.responder.proofs.Laws.Written.{written_behind}
use Rattle.responder.specs.Reply.{written, write_all}
use Rattle.responder.specs.Turns.{Said, silent, says}

written_apart : (t u : Tag) (s v : Said) (m : List ℕ) → t.at + tag_header + t.size ≤ u.at → written u v (written t s m) ≡ written t s (written u v m)
written_apart t u silent v m h = refl
written_apart t u (says x) silent m h = refl
written_apart t u (says x) (says y) m h = answered_apart t.at t.size x u.at u.size y h m

-- what a tag says, and what is said behind it
pub writes_apart : (t : Tag) (s : Said) (m : List ℕ) (size p : ℕ) (ts : List Tag) (ss : List Said) (e : Ending) → t.at + tag_header + t.size ≤ p
    → Follows m size p ts e
    → write_all ts ss (written t s m) ≡ written t s (write_all ts ss m)
writes_apart t s m size p [] ss e l h = refl
writes_apart t s m size p (u ∷ us) [] e l h = refl
writes_apart t s m size p (u ∷ us) (v ∷ vs) e l h =
    let f = step_found m size p h.1 in
    ap (write_all us vs) (written_apart t u s v m (omega arith))
    ∙ writes_apart t s (written u v m) size h.0 us vs e (omega arith) (follows_same m (written u v m) size h.0 us e (sym (written_behind u v m
    h.0 (omega arith))) h.2)
