-- Describes code: what helpers ask of their callers.
use Rattle.std.specs.Prelude.{List, ◌≡◌, ℕ, ◌+◌, ◌%◌, ◌≤◌, length}
use Rattle.message.specs.Sizes.{header, tag_header, end_word, largest}
use Rattle.message.specs.Walk.{tag_end}

-- p is a place of the walk in a message of `size` bytes that m holds
pub record Walking (m : List ℕ) (size p : ℕ) : Type 0 where
  pub within : p ≤ size
  pub lent : size ≤ length m
  pub most : size ≤ largest
  pub place4 : p % 4 ≡ 0
  pub size4 : size % 4 ≡ 0

-- the tag at `at`, with a value of `size` bytes, lies in the lent bytes
pub record InMessage (lent at size : ℕ) : Type 0 where
  pub within : at + tag_header + size ≤ lent
  pub place : at ≤ largest

-- a tag with `count` request bytes may be written at `at`, up to the place `next`
pub record TagFits (lent at size count next : ℕ) : Type 0 where
  pub next_is : next ≡ tag_end at size
  pub holds : count ≤ size
  pub within : next ≤ lent
  pub most : next ≤ largest

-- the end may be written at `at`, and zeros up to the size
pub record EndFits (lent at size : ℕ) : Type 0 where
  pub behind : at + end_word ≤ size
  pub from_header : header ≤ at
  pub within : size ≤ lent
  pub most : size ≤ largest
