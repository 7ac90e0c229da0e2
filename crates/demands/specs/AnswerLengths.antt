-- Every answer has the length of the table.
use Rattle.std.specs.Prelude.{cond, List, [], ◌∷◌, ◌≡◌, ℕ, min, eqb, length}
use Rattle.board.specs.declared.record.Board.{Board}
use Rattle.table.specs.Table.{Entry, table}
use Rattle.responder.specs.Turns.{says}
use Rattle.demands.specs.Terms.{tag_of, said_at}

-- the MAC address and the command line have as many bytes as the machine's arrays
pub record HasArrays (b : Board) : Type 0 where
  pub mac : length b.facts.mac ≡ 6
  pub line : length b.line ≡ 256

-- the answer length of an entry; the command line, 0x00050001, has its own, at most that of the entry
abbrev pub entry_length : (characters : ℕ) → Entry → ℕ
entry_length characters e = cond (eqb e.id 0x0005_0001) (min characters e.answer) e.answer

-- the answer length that the table has for an id
abbrev pub length_in : (characters id : ℕ) → List Entry → ℕ
length_in characters id [] = 0
length_in characters id (e ∷ es) = cond (eqb id e.id) (entry_length characters e) (length_in characters id es)

-- What a tag says in any message, on any record of the machine, has the length that the table has for its id.
abbrev pub AnswerLengths : Type 0
AnswerLengths =
    (b : Board) (m : List ℕ)
    → HasArrays b
    → (i : ℕ) (answer : List ℕ) → said_at b m i ≡ says answer
    → length answer ≡ length_in b.facts.characters (tag_of m i).id table
