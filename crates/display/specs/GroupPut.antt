-- Describes code: the message after `put_group`, which is not given the tag's request: it holds for every request.
use Rattle.std.specs.Prelude.{cond, List, ◌≡◌, ℕ}
use Rattle.table.specs.declared.kinds.FrameTag.{FrameTag}
use Rattle.answers.specs.Writing.{answered}
use Rattle.display.specs.Decision.{group_answer}
use Rattle.display.specs.declared.decision.Decision.{Decision}

abbrev pub FramePut : Decision → FrameTag → (at size : ℕ) → (m m' : List ℕ) → Type 0
FramePut d t at size m m' = (request : List ℕ) → m' ≡ answered at size (group_answer d t request) m

abbrev pub GroupPut : Decision → FrameTag → (at size : ℕ) → (m m' : List ℕ) → Type 0
GroupPut d t at size m m' =
    (request : List ℕ) → m' ≡ cond d.answered (answered at size (group_answer d t request) m) m
