-- Intervals of stamps: what lies inside, which are obsolete, and the stamp that keeps one.
use Rattle.std.specs.Prelude.{ℕ, min, Bool, true, if◌then◌else◌, not, ◌&&◌, List, [], ◌∷◌, Some, None, Option, nat_le, nat_lt}
use Rattle.stamps.specs.declared.interval.Interval.{Interval}

-- The interval starts at or before a stamp.
abbrev pub starts_by : ℕ → Interval → Bool
starts_by a i = nat_le i.start a

-- A stamp lies inside [start, end).
abbrev pub inside : ℕ → Interval → Bool
inside a i = starts_by a i && nat_lt a i.end

-- The start is at most the end. Of versions in a list it always is: stamps never rise going down.
abbrev pub ordered : Interval → Bool
ordered i = nat_le i.start i.end

-- The interval ends at or before t.
abbrev pub ends_by : ℕ → Interval → Bool
ends_by t i = nat_le i.end t

-- No stamp of a list lies inside.
abbrev pub none_inside : List ℕ → Interval → Bool
none_inside [] i = true
none_inside (a ∷ rest) i = not (inside a i) && none_inside rest i

-- Obsolete at a cutoff t, with some stamps told: no session at or above t lies inside, since the interval ends by t,
-- and none that is told. Where every session that may still read is one of these, no read wants the version.
abbrev pub obsolete : ℕ → List ℕ → Interval → Bool
obsolete t stamps i = ordered i && (ends_by t i && none_inside stamps i)

-- All others are needed.
abbrev pub needed : ℕ → List ℕ → Interval → Bool
needed t stamps i = not (obsolete t stamps i)

-- The smaller of two stamps, either of which may be absent.
abbrev pub smaller : Option ℕ → Option ℕ → Option ℕ
smaller None b = b
smaller (Some x) None = Some x
smaller (Some x) (Some y) = Some (min x y)

-- A stamp, if it lies inside.
abbrev pub if_inside : ℕ → Interval → Option ℕ
if_inside a i = if inside a i then Some a else None

-- The smallest stamp of a list that lies inside.
abbrev pub smallest_inside : List ℕ → Interval → Option ℕ
smallest_inside [] i = None
smallest_inside (a ∷ rest) i = smaller (if_inside a i) (smallest_inside rest i)
