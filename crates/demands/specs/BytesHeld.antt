-- The bytes of GPU memory that are held are those granted minus those released.
use Rattle.std.specs.Prelude.{Bool, false, cond, ◌||◌, List, [], ◌∷◌, ◌≡◌, ℕ, ◌+◌, eqb, length}
use Rattle.words.specs.Numbers.{unle, nth_word}
use Rattle.message.specs.Outcomes.{done, no_end, runs_over, short_request}
use Rattle.board.specs.declared.memory.Block.{Block}
use Rattle.board.specs.declared.record.Board.{Board}
use Rattle.table.specs.declared.kinds.HandleTag.{HandleTag}
use Rattle.table.specs.declared.kinds.Kind.{Kind}
use Rattle.table.specs.declared.kinds.OutsideTag.{OutsideTag}
use Rattle.tags.specs.Memory.{handle_count, block_of}
use Rattle.tags.specs.Place.{id_of}
use Rattle.display.specs.declared.decision.Decision.{Decision}
use Rattle.requests.specs.Requests.{Request, passed, short, asks}
use Rattle.responder.specs.Answers.{turn_of}
use Rattle.responder.specs.Reply.{reply}
use Rattle.responder.specs.Turns.{Said, silent, says}
use Rattle.demands.specs.Memory.{block_at}
use Rattle.demands.specs.Terms.{trail_of, decision_of, answers_of}

-- the bytes held: the sizes of the taken blocks
abbrev pub held : List Block → ℕ
held [] = 0
held (b ∷ bs) = cond b.taken b.size 0 + held bs

-- ---- of a tag, by its request and its answer
-- an allocate that answers a handle is granted the size that it asks for
abbrev pub granted_outside : OutsideTag → (request answer : List ℕ) → ℕ
granted_outside OutsideTag.Allocate request answer = cond (eqb (unle answer) 0) 0 (nth_word request 0)
granted_outside (OutsideTag.Handle t) request answer = 0
granted_outside (OutsideTag.Fact t) request answer = 0
granted_outside (OutsideTag.Power t) request answer = 0
granted_outside (OutsideTag.Clock t) request answer = 0
granted_outside (OutsideTag.Voltage t) request answer = 0
granted_outside (OutsideTag.Temperature t) request answer = 0

abbrev pub granted_by : Request → Said → ℕ
granted_by (asks (Kind.Outside t) request) (says answer) = granted_outside t request answer
granted_by (asks (Kind.Outside t) request) silent = 0
granted_by (asks (Kind.Group t) request) s = 0
granted_by passed s = 0
granted_by short s = 0

-- a release that answers 0 releases the size of the block that its handle names
abbrev pub released_outside : OutsideTag → (request answer : List ℕ) → List Block → ℕ
released_outside (OutsideTag.Handle HandleTag.Release) request answer blocks =
    cond (eqb (unle answer) 0) (block_of blocks (id_of request)).size 0
released_outside (OutsideTag.Handle HandleTag.Lock) request answer blocks = 0
released_outside (OutsideTag.Handle HandleTag.Unlock) request answer blocks = 0
released_outside OutsideTag.Allocate request answer blocks = 0
released_outside (OutsideTag.Fact t) request answer blocks = 0
released_outside (OutsideTag.Power t) request answer blocks = 0
released_outside (OutsideTag.Clock t) request answer blocks = 0
released_outside (OutsideTag.Voltage t) request answer blocks = 0
released_outside (OutsideTag.Temperature t) request answer blocks = 0

abbrev pub released_by : Request → Said → List Block → ℕ
released_by (asks (Kind.Outside t) request) (says answer) blocks = released_outside t request answer blocks
released_by (asks (Kind.Outside t) request) silent blocks = 0
released_by (asks (Kind.Group t) request) s blocks = 0
released_by passed s blocks = 0
released_by short s blocks = 0

-- ---- of the tags in order, each on the record that the last one left
abbrev pub granted_in : List Request → List Said → ℕ
granted_in [] ss = 0
granted_in (r ∷ rs) [] = 0
granted_in (r ∷ rs) (s ∷ ss) = granted_by r s + granted_in rs ss

abbrev pub released_in : Decision → Board → List Request → List Said → ℕ
released_in g b [] ss = 0
released_in g b (r ∷ rs) [] = 0
released_in g b (r ∷ rs) (s ∷ ss) = released_by r s b.blocks + released_in g (turn_of g b r).state rs ss

-- ---- of a message: the tags that the responder carried out, up to the end or the first fault; none of a refused one
abbrev pub is_walked : (outcome : ℕ) → Bool
is_walked outcome = eqb outcome done || (eqb outcome no_end || (eqb outcome runs_over || eqb outcome short_request))

abbrev pub carried_out_of : Board → List ℕ → List Request
carried_out_of b m = cond (is_walked (reply b m).answer.outcome) (trail_of m).requests []

abbrev pub granted : Board → List ℕ → ℕ
granted b m = granted_in (carried_out_of b m) (answers_of b m)

abbrev pub released : Board → List ℕ → ℕ
released b m = released_in (decision_of b m) b (carried_out_of b m) (answers_of b m)

-- ---- of a run of messages, each served on the record that the last one left
abbrev pub last_board : Board → List (List ℕ) → Board
last_board b [] = b
last_board b (m ∷ ms) = last_board (reply b m).answer.board ms

abbrev pub granted_so_far : Board → List (List ℕ) → ℕ
granted_so_far b [] = 0
granted_so_far b (m ∷ ms) = granted b m + granted_so_far (reply b m).answer.board ms

abbrev pub released_so_far : Board → List (List ℕ) → ℕ
released_so_far b [] = 0
released_so_far b (m ∷ ms) = released b m + released_so_far (reply b m).answer.board ms

-- a record without blocks, with the places of the machine's array
pub record WithoutBlocks (b : Board) : Type 0 where
  pub places : length b.blocks ≡ handle_count
  pub all_free : (i : ℕ) → (block_at b i).taken ≡ false

-- After any run from such a record, valid or not, with faults and refusals among its messages: what is held and what
-- was released is what was granted.
abbrev pub BytesHeld : Type 0
BytesHeld =
    (b : Board) → WithoutBlocks b → (ms : List (List ℕ))
    → held (last_board b ms).blocks + released_so_far b ms ≡ granted_so_far b ms
