-- The last of some stamps, turned in before the stamp at a place: what `rotate_right(1)` of the stamps from there on
-- leaves.
use Rattle.std.proofs.Common.{◌≡◌, ℕ, ◌+◌, ◌-◌, ◌≤◌, List, [], ◌∷◌, ◌++◌, length, take, drop, refl, sym, ap, ap₂, ◌∙◌, arith, length-append, length-drop}
use Rattle.std.proofs.lemmas.List.{drop-take, drop-append-le, take-append-le, take-take, length-take-le}
use Rattle.std.proofs.Math.Seq.{drop-append_seam, take-append_seam}
use Rattle.std.proofs.lemmas.Slice.{take-put_mid}
use Rattle.std.specs.List.{insert}
use borrow.Rule.Slice.PartMut.{put_mid, mid_of}

-- What `rotate_right(1)` leaves of a list.
abbrev turned : List ℕ → List ℕ
turned xs = drop (length xs - 1) xs ++ take (length xs - 1) xs

turned_end : (ys : List ℕ) (x : ℕ) → turned (ys ++ x ∷ []) ≡ x ∷ ys
turned_end ys x =
    let shorter : length (ys ++ x ∷ []) - 1 ≡ length ys = omega (arith, length-append ys (x ∷ [])) in
    rw (shorter, drop-append_seam ys (x ∷ []), take-append_seam ys (x ∷ [])) refl

-- The first `count` places hold xs and x behind them; those from `at` on are turned.
pub turned_in : (xs places part : List ℕ) (count at x : ℕ) → at ≤ length xs → count ≤ length places → take count places ≡ xs ++ x ∷ []
    → part ≡ turned (mid_of at (count - at) places) → take count (put_mid at (count - at) places part) ≡ insert xs at x
turned_in xs places part count at x within fits is turn =
    let counted : count ≡ length xs + 1 = sym (length-take-le count places fits) ∙ ap length is ∙ length-append xs (x ∷ []) in
    let split : at + (count - at) ≡ count = omega arith in
    let front : take at places ≡ take at xs = sym (take-take at count places (omega arith)) ∙ ap (take at) is ∙ take-append-le at xs (x ∷ []) within in
    let back : mid_of at (count - at) places ≡ drop at xs ++ x ∷ [] =
    sym (drop-take at (count - at) places) ∙ ap (λ n. drop at (take n places)) split ∙ ap (drop at) is ∙ drop-append-le at xs (x ∷ []) within in
    let new : part ≡ x ∷ drop at xs = turn ∙ ap turned back ∙ turned_end (drop at xs) x in
    take-put_mid at (count - at) places part count (omega (arith, ap length new, length-drop at xs)) (omega arith) ∙ ap₂ ◌++◌ front new
