-- Two reads of one session that answer two values for a cell have no order.
use Rattle.std.proofs.Common.{◌≡◌, ℕ, false, eqb, List, sym, refl, ◌∙◌}
use Rattle.std.proofs.lemmas.Bool.{eqb-false}
use Rattle.model.specs.Answers.{number}
use Rattle.model.specs.Calls.{Advance, step}
use Rattle.model.specs.Runs.{run, log}
use Rattle.laws.specs.Histories.{History, Was}
use Rattle.laws.specs.OneOrder.{Item, session, Reads, Ordered}
use Rattle.cases.specs.WrongStores.{NoOrder, wrong_history, drops_needed, skips_slot, reads_head, frees_early}
use Rattle.cases.proofs.Entries.{reads_by}

two_values : (h : History ℕ) (w c i x u v : ℕ)
    → Was h i (Advance w) (number c) → Reads h i x u → Reads h i x v → eqb u v ≡ false → (o : List (Item ℕ)) → Ordered h 0 o → ⊥
two_values h w c i x u v opens one other apart o ordered =
    let (p, q, at) = ordered.all (session i) (w, (c, opens)) in
    eqb-false u v apart (sym (ordered.reads p q i at x u one) ∙ ordered.reads p q i at x v other)

pub drops_needed_refused : NoOrder drops_needed
unfolding run log step
drops_needed_refused =
    let h = wrong_history drops_needed in
    (refl, two_values h 1 1 12 0 7 0 refl (reads_by h 1 1 0 12 19 21 7 refl refl refl tt tt refl refl) (reads_by h 1 1 0 12 27 29 0 refl refl refl tt tt refl refl) refl)

pub skips_slot_refused : NoOrder skips_slot
unfolding run log step
skips_slot_refused =
    let h = wrong_history skips_slot in
    (refl, two_values h 1 1 12 0 7 0 refl (reads_by h 1 1 0 12 19 21 7 refl refl refl tt tt refl refl) (reads_by h 1 1 0 12 26 28 0 refl refl refl tt tt refl refl) refl)

pub reads_head_refused : NoOrder reads_head
unfolding run log step
reads_head_refused =
    let h = wrong_history reads_head in
    (refl, two_values h 1 1 12 0 7 9 refl (reads_by h 1 1 0 12 19 21 7 refl refl refl tt tt refl refl) (reads_by h 1 1 0 12 22 23 9 refl refl refl tt tt refl refl) refl)

pub frees_early_refused : NoOrder frees_early
unfolding run log step
frees_early_refused =
    let h = wrong_history frees_early in
    (refl, two_values h 1 0 8 0 0 5 refl (reads_by h 1 0 0 8 21 24 0 refl refl refl tt tt refl refl) (reads_by h 1 0 0 8 25 40 5 refl refl refl tt tt refl refl) refl)
