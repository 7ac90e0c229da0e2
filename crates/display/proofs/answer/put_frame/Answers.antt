use mathlib.Core.Path.{◌∙◌}
use Rattle.answers.proofs.Laws.Answers.{none_sized}
use Rattle.display.specs.Decision.{group_answer}
use Rattle.display.proofs.answer.put_frame.Goals as goal

pub returns-in-Release : goal.returns-in-Release
unfolding group_answer
returns-in-Release c = λ _. rw c.in-Release.is (c.put_nothing.ensures ∙ none_sized _ _ _ _)
