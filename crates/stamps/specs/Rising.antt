-- Rising lists of stamps.
use Rattle.std.specs.Prelude.{ℕ, Bool, true, if◌then◌else◌, ◌&&◌, List, [], ◌∷◌, nat_le, nat_lt}

-- A stamp put into a rising list, before the first that is larger.
abbrev pub insert : ℕ → List ℕ → List ℕ
insert a [] = a ∷ []
insert a (b ∷ rest) = if nat_lt a b then a ∷ b ∷ rest else b ∷ insert a rest

-- The stamps of a list, rising.
abbrev pub sorted : List ℕ → List ℕ
sorted [] = []
sorted (a ∷ rest) = insert a (sorted rest)

-- A stamp is at most the first of a list, if there is one.
abbrev pub at_most_first : ℕ → List ℕ → Bool
at_most_first a [] = true
at_most_first a (b ∷ rest) = nat_le a b

-- Each stamp of a list is at most the next.
abbrev pub rising : List ℕ → Bool
rising [] = true
rising (a ∷ rest) = at_most_first a rest && rising rest
