-- Stamps, as people read them.
use Rattle.std.specs.Prelude.{ℕ, List, ◌++◌, codes}
use Rattle.std.specs.List.{flat_map}
use Rattle.std.specs.Fmt.{decimal}

-- Each behind a blank.
abbrev pub stamps_text : List ℕ → List ℕ
stamps_text stamps = flat_map (λ stamp. codes " " ++ decimal stamp) stamps
