-- Note, Publish, Advance, Close.
use Rattle.std.specs.Prelude.{ℕ, ◌+◌, Bool, true, false, ◌==◌}
use Rattle.values.specs.declared.Refusal.TheVariants.{SessionStage, OperationStage, ClockAtEnd}
use Rattle.model.specs.State.{Session, State, last_stamp, worker, is_reading, none, noted, published, opened}
use Rattle.model.specs.Changes.{with_clock, with_session}
use Rattle.model.specs.Answers.{Outcome, refuse, again, granted, number}
use Rattle.model.specs.Checks.{known}

-- Note, by the session's stage and whether the clock is at its end: the stage becomes noted with the clock, which is
-- answered.
abbrev pub note_at : {V : Type 0} → State V → ℕ → Session → Bool → Outcome V
note_at s w none true = refuse s ClockAtEnd
note_at s w none false = (number s.clock, with_session s w (noted s.clock))
note_at s w (noted c) at_end = refuse s SessionStage
note_at s w (published c) at_end = refuse s SessionStage
note_at s w (opened c) at_end = refuse s SessionStage

abbrev pub note : {V : Type 0} → State V → ℕ → Outcome V
note s w = known s w (note_at s w (worker s w).session (s.clock == last_stamp))

-- Publish: noted becomes published.
abbrev pub publish_at : {V : Type 0} → State V → ℕ → Session → Outcome V
publish_at s w none = refuse s SessionStage
publish_at s w (noted c) = (granted, with_session s w (published c))
publish_at s w (published c) = refuse s SessionStage
publish_at s w (opened c) = refuse s SessionStage

abbrev pub publish : {V : Type 0} → State V → ℕ → Outcome V
publish s w = known s w (publish_at s w (worker s w).session)

-- Advance, by whether the clock still is c: then it becomes c + 1, and the session is open at c, which is answered.
-- Otherwise the session is none, and the worker starts again.
abbrev pub advance_from : {V : Type 0} → State V → ℕ → ℕ → Bool → Outcome V
advance_from s w c true = (number c, with_clock (with_session s w (opened c)) (c + 1))
advance_from s w c false = (again, with_session s w none)

abbrev pub advance_at : {V : Type 0} → State V → ℕ → Session → Outcome V
advance_at s w none = refuse s SessionStage
advance_at s w (noted c) = refuse s SessionStage
advance_at s w (published c) = advance_from s w c (s.clock == c)
advance_at s w (opened c) = refuse s SessionStage

abbrev pub advance : {V : Type 0} → State V → ℕ → Outcome V
advance s w = known s w (advance_at s w (worker s w).session)

-- Close, by the session's stage and whether the worker is reading.
abbrev pub close_at : {V : Type 0} → State V → ℕ → Session → Bool → Outcome V
close_at s w none b = refuse s SessionStage
close_at s w (noted c) true = refuse s OperationStage
close_at s w (noted c) false = (granted, with_session s w none)
close_at s w (published c) true = refuse s OperationStage
close_at s w (published c) false = (granted, with_session s w none)
close_at s w (opened c) true = refuse s OperationStage
close_at s w (opened c) false = (granted, with_session s w none)

abbrev pub close : {V : Type 0} → State V → ℕ → Outcome V
close s w = known s w (close_at s w (worker s w).session (is_reading (worker s w).operation))
