-- The premises of `Finishing` and `Listing` can be met: a release and the settings 640 x 480 at depth 24, built in a buffer of
-- other bytes, with three adds among its own that are refused.
use mathlib.Core.List.{List, [], ◌∷◌, ◌++◌}
use mathlib.Core.Path.{◌≡◌, refl}
use Prim.Native.Nat.{ℕ}
use lib.Dec.{lit<}
use lib.ListN.{replicate}
use Rattle.words.specs.Numbers.{le}
use Rattle.message.specs.Builder.{started, start_outcome, added, add_outcome, good_cursor, tag_bytes}
use Rattle.message.specs.Outcomes.{done}
use Rattle.demands.proofs.Listing.{finishing, listing}
use Rattle.demands.specs.Listing.{Add, AreWords, Lists, run, request_built}

abbrev add_of : (id size : ℕ) → List ℕ → Add
add_of id size bytes = record { id = id; size = size; request = bytes }

abbrev physical : Add
physical = add_of 0x00048003 8 (le 4 640 ++ le 4 480)

abbrev virtual : Add
virtual = add_of 0x00048004 8 (le 4 640 ++ le 4 480)

abbrev depth : Add
depth = add_of 0x00048005 4 (le 4 24)

-- a tag without a value
abbrev release : Add
release = add_of 0x00048001 0 []

-- and an id 0, a request longer than its value, a value with no room
abbrev tried : List Add
tried = physical ∷ add_of 0 4 [] ∷ release ∷ virtual ∷ add_of 0x00048005 2 (le 4 24) ∷ depth ∷ add_of 0x00040001 0xFFFFFFFD [] ∷ []

abbrev buffer : List ℕ
buffer = replicate 80 170

starts : (started buffer).outcome ≡ done
unfolding started start_outcome
starts = refl

taken_are : (run buffer tried).taken ≡ physical ∷ release ∷ virtual ∷ depth ∷ []
unfolding started start_outcome added add_outcome good_cursor tag_bytes
taken_are = refl

are_words : AreWords tried
are_words = (lit< tt, lit< tt, (lit< tt, lit< tt, (lit< tt, lit< tt, (lit< tt, lit< tt, (lit< tt, lit< tt, (lit< tt, lit< tt, (lit< tt, lit< tt, tt)))))))

pub can_finish : (request_built buffer tried).answer.outcome ≡ done
can_finish = finishing buffer tried starts

pub lists_taken : Lists (request_built buffer tried).bytes (physical ∷ release ∷ virtual ∷ depth ∷ [])
lists_taken = rw taken_are at (listing buffer tried are_words starts)
