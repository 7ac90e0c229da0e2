-- Items of a kind, named by ids: where they stand, and what a tag answers and leaves of them.
use Rattle.std.specs.Prelude.{cond, List, ℕ, ◌-◌, leb, ltb, get_or, set, Option, Some, None}
use Rattle.words.specs.Numbers.{nth_word}
use Rattle.answers.specs.Answer.{two_words}

-- the place of an id among `count` items whose ids begin at `lowest`: unlisted below the first and behind the last
unfoldable pub place_of : (id lowest count : ℕ) → Option ℕ
place_of id lowest count =
    cond (ltb id lowest) None (cond (leb count (id - lowest)) None (Some (id - lowest)))

-- the item at a place, or `none` where the id is not listed
abbrev pub item : {A : Type 0} → A → List A → Option ℕ → A
item none xs (Some i) = get_or xs i none
item none xs None = none

-- the items with that at a place changed; an id that is not listed changes nothing
abbrev pub change : {A : Type 0} → A → (A → A) → List A → Option ℕ → List A
change none f xs (Some i) = set xs i (f (get_or xs i none))
change none f xs None = xs

-- ---- a request of power, clocks, voltage and temperature: its first word is the id, its second what a set asks for
abbrev pub id_of : (request : List ℕ) → ℕ
id_of request = nth_word request 0

abbrev pub new_value : (request : List ℕ) → ℕ
new_value request = nth_word request 1

-- each answers the id and one value of its item as it left it. The family gives the item of an id that is not listed,
-- the place of an id, the item that a tag leaves, by what a set asks for, and the value that it answers
abbrev pub item_answer : {A : Type 0}
    → (none : A) (place : ℕ → Option ℕ) (after : ℕ → A → A) (value : A → ℕ)
    → (request : List ℕ) → List A → List ℕ
item_answer none place after value request xs =
    two_words (id_of request) (value (after (new_value request) (item none xs (place (id_of request)))))

-- the items that it leaves: only that of its id can change
abbrev pub items_after : {A : Type 0}
    → (none : A) (place : ℕ → Option ℕ) (after : ℕ → A → A)
    → (request : List ℕ) → List A → List A
items_after none place after request xs = change none (after (new_value request)) xs (place (id_of request))
