use borrow.Author.Rules.{rules}
use Rattle.words.proofs.Laws.Parts.{put_number}
use Rattle.words.proofs.numbers.put_u64.Goals as goal

pub returns : goal.returns
returns c = put_number 8 _ _ _ c.requires (search rules)
