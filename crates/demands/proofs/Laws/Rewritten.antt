-- The walk of a message into which answers were written.
use mathlib.Core.List.{List, [], ◌∷◌}
use mathlib.Core.Path.{◌≡◌, sym, ap}
use Prim.Native.Nat.{ℕ, ◌+◌, ◌≤◌}
use native.Mathlib.Omega.{arith}
use lib.ListN.{length}
use Rattle.words.specs.Numbers.{word}
use Rattle.message.proofs.Laws.Follows.{Follows}
use Rattle.message.proofs.Laws.Steps.{step_found}
use Rattle.message.specs.Walk.{word_place, tag_at}
use Rattle.message.specs.declared.walk.Ending.{Ending}
use Rattle.message.specs.declared.walk.Tag.{Tag}
use Rattle.answers.specs.Writing.{answered}
use Rattle.responder.proofs.Laws.Saids.{SaidFits}
use Rattle.responder.proofs.Laws.Turns.{Each}
use Rattle.responder.proofs.Laws.Written.{answered_length, answered_word, rest₁, reworded}
use Rattle.responder.specs.Reply.{write_all}
use Rattle.responder.specs.Turns.{Said, silent, says}
use Rattle.demands.specs.Walked.{tags_after}

pub follows_written : (m : List ℕ) (size p : ℕ) (ts : List Tag) (ss : List Said) (e : Ending) → Follows m size p ts e → Each SaidFits ss
    → size ≤ length m → Follows (write_all ts ss m) size p (tags_after ts ss) e
unfolding tag_at
follows_written m size p [] ss e h k l = h
follows_written m size p (t ∷ ts) [] e h k l = h
follows_written m size p (t ∷ ts) (silent ∷ ss) e h k l =
    let f = step_found m size p h.1 in (
      h.0,
      reworded m size p t h.0 silent ts ss e h.1 h.2 l (sym (ap (λ (x : Tag). x.word) f.is)),
      follows_written m size h.0 ts ss e (rest₁ m size p t h.0 silent ts ss e h.1 h.2 l) k.1 l,
    )
follows_written m size p (t ∷ ts) (says answer ∷ ss) e h k l =
    let f = step_found m size p h.1 in
    let m₁ = answered t.at t.size answer m in
    let w : word m₁ (p + word_place) ≡ 0x8000_0000 + length answer = rw (← f.at) (answered_word t.at t.size answer m k.0 (omega arith)) in
    let n = answered_length t.at t.size answer m in (
      h.0,
      reworded m size p t h.0 (says answer) ts ss e h.1 h.2 l w,
      follows_written m₁ size h.0 ts ss e (rest₁ m size p t h.0 (says answer) ts ss e h.1 h.2 l) k.1 (omega arith),
    )
