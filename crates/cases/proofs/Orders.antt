-- Each wrong order is refused by one clause of the law.
use Rattle.std.proofs.lemmas.List.Folds.{list_any-append}
use Rattle.std.specs.List.{list_any}
use Rattle.std.proofs.Common.{◌≡◌, ℕ, Bool, true, false, List, [], ◌∷◌, ◌++◌, length, sym, refl, ap, ◌∙◌, arith, lit<, length-append}
use mathlib.Core.Bool.{false≢true}
use Rattle.std.proofs.lemmas.Bool.{or_right, eqb-false}
use Rattle.model.specs.Calls.{WriteStamp, step}
use Rattle.model.specs.Runs.{run, log}
use Rattle.laws.specs.OneOrder.{Item, session, write, Stamped}
use Rattle.cases.specs.Transcripts.{history_of}
use Rattle.cases.specs.Worked.{reader_stamps, writer_stamps}
use Rattle.cases.specs.Orders.{session_then_write, write_above_write, LeftOut, MadeUp, Twice, AgainstTime, AgainstReadOfFirst, AgainstReadOfWritten, AgainstLook}
use Rattle.cases.proofs.Entries.{like, reads_by, looks_by, stamped_by}

abbrev pub is_write : Item ℕ → Bool
is_write (session i) = false
is_write (write i x v) = true

-- Of two items the first stands before the second, and nothing else before anything.
pub of_two : (a b x y : Item ℕ) (p q r : List (Item ℕ)) → x ∷ y ∷ [] ≡ p ++ a ∷ (q ++ b ∷ r) → (x ≡ a) × (y ≡ b)
of_two a b x y [] [] r e = (cc, cc)
of_two a b x y [] (c ∷ q) r e = let two = ap length e in let inner = length-append q (b ∷ r) in absurd (omega arith)
of_two a b x y (c ∷ p) q r e =
    let two = ap length e in
    let outer = length-append p (a ∷ (q ++ b ∷ r)) in
    let inner = length-append q (b ∷ r) in
    absurd (omega arith)

pub the_write : Stamped (history_of session_then_write) 5 0 7
unfolding run log step
the_write = stamped_by (history_of session_then_write) 1 1 0 5 7 9 7 refl refl tt tt refl refl refl

pub left_out : LeftOut
left_out = (
  the_write,
  λ ordered.
      let (p, q, e) = ordered.all (write 5 0 7) the_write in
      false≢true (ap (list_any is_write) e ∙ list_any-append is_write p (write 5 0 7 ∷ q) ∙ or_right (list_any is_write p) true refl),
)

pub made_up : MadeUp
unfolding run log step
made_up ordered =
    let opened = ordered.only (session 2 ∷ write 5 0 7 ∷ []) [] (session 10) refl in
    false≢true (sym (ap (like (WriteStamp 1)) opened.1.1))

pub twice : Twice
twice ordered = ordered.once (write 5 0 7) (write 5 0 7) (session 2 ∷ [], [], [], refl) refl

pub against_time : AgainstTime
unfolding run log step
against_time ordered =
    let (p, q, r, e) = ordered.in_time (session 2) (write 5 0 7) 2 5 (0, (0, refl)) the_write refl refl (lit< tt) in
    false≢true (sym (ap is_write (of_two (session 2) (write 5 0 7) (write 5 0 7) (session 2) p q r e).0))

pub against_read_of_first : AgainstReadOfFirst
unfolding run log step
against_read_of_first ordered =
    eqb-false 7 0 refl
    (ordered.reads (write 0 0 7 ∷ []) [] 5 refl 0 0 (reads_by (history_of reader_stamps) 1 0 0 5 6 10 0 refl refl refl tt tt refl refl))

pub against_read_of_written : AgainstReadOfWritten
unfolding run log step
against_read_of_written ordered =
    eqb-false 0 7 refl
    (ordered.reads [] (write 0 0 7 ∷ []) 6 refl 0 7 (reads_by (history_of writer_stamps) 1 0 0 6 7 10 7 refl refl refl tt tt refl refl))

pub against_look : AgainstLook
unfolding run log step
against_look ordered =
    eqb-false 0 7 refl
    (ordered.looks [] (write 0 0 7 ∷ []) 3 0 8 refl 7 (looks_by (history_of write_above_write) 1 0 3 6 7 refl refl tt refl))
