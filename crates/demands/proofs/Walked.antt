-- The walk of a reply.
use mathlib.Core.List.{List}
use mathlib.Core.Path.{◌≡◌, sym, ap, ◌∙◌}
use Prim.Native.Nat.{ℕ}
use native.Mathlib.Omega.{arith}
use lib.ListN.{length, take}
use Rattle.words.proofs.Laws.Agree.{number_before}
use Rattle.words.proofs.Laws.Put.{take_put, drop_put}
use Rattle.words.specs.Numbers.{le, word}
use Rattle.words.specs.Put.{put}
use Rattle.message.proofs.Laws.Follows.{Follows, follows, follows_walk, follows_same}
use Rattle.message.proofs.Laws.Opening.{GoodSize}
use Rattle.message.specs.Sizes.{header, code_place}
use Rattle.message.specs.Walk.{walk_from}
use Rattle.board.specs.declared.record.Board.{Board}
use Rattle.requests.specs.Requests.{trail}
use Rattle.responder.specs.Answers.{turn_of}
use Rattle.responder.specs.Reply.{write_all, code_of, served, reply}
use Rattle.responder.proofs.Laws.Saids.{saids_fit}
use Rattle.responder.proofs.Laws.Written.{cut_writes, writes_before}
use Rattle.demands.proofs.Laws.Replied.{Replied, untouched, walked, replied, clash}
use Rattle.demands.proofs.Laws.Rewritten.{follows_written}
use Rattle.demands.specs.Terms.{walk_of, trail_of, decision_of, answers_of}
use Rattle.demands.specs.Walked.{tags_after, LeavesTags, Walked}

module _ (b : Board) (m : List ℕ) (g : GoodSize (word m 0) (length m)) where
  -- what is written, and with the code word
  abbrev pub filled : List ℕ
  filled = write_all (walk_of m).tags (answers_of b m) m

  abbrev pub code_bytes : List ℕ
  code_bytes = le 4 (code_of (trail_of m).ending.outcome)

  abbrev pub reply_bytes : List ℕ
  reply_bytes = put code_place code_bytes filled

  pub served_bytes : (served b m (word m 0)).bytes ≡ reply_bytes
  unfolding served trail
  served_bytes =
      ap (put code_place code_bytes)
      (cut_writes (turn_of (decision_of b m)) b m (walk_of m).tags (walk_of m).ending m)

  before : take header filled ≡ take header m
  before = writes_before m (word m 0) header (walk_of m).tags (answers_of b m) (walk_of m).ending (follows m (word m 0) header)

  pub size_same : word reply_bytes 0 ≡ word m 0
  size_same =
      number_before 4 0 code_place reply_bytes filled (omega arith) (take_put code_place code_place code_bytes filled (omega arith)) ∙ number_before 4 0 header
      filled m (omega arith) before

  pub follows_reply : Follows reply_bytes (word m 0) header (tags_after (walk_of m).tags (answers_of b m)) (walk_of m).ending
  follows_reply =
      follows_same filled reply_bytes (word m 0) header (tags_after (walk_of m).tags (answers_of b m)) (walk_of m).ending
      (sym (drop_put code_place code_bytes filled header (omega arith)))
      (follows_written m (word m 0) header (walk_of m).tags (answers_of b m) (walk_of m).ending (follows m (word m 0) header)
      (saids_fit (decision_of b m) b (trail_of m).requests) g.within)

  pub walk_reply : walk_of reply_bytes ≡ record { tags = tags_after (walk_of m).tags (answers_of b m); ending = (walk_of m).ending }
  walk_reply =
      ap (λ (n : ℕ). walk_from reply_bytes n header) size_same
      ∙ follows_walk reply_bytes (word m 0) header (tags_after (walk_of m).tags (answers_of b m)) (walk_of m).ending follows_reply

pub walked_is : Walked
walked_is b m w = go (replied b m)
  where
    go : Replied b m → LeavesTags b m
    go (untouched o e f z) = absurd (clash (reply b m).answer.outcome w o)
    go (walked v g e) = rw (e, served_bytes b m g) (walk_reply b m g)
