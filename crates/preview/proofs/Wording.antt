-- Lines of words tell the verdicts: no word holds the end of a line, and no two verdicts have the same words.
use Rattle.std.proofs.Common.{◌≡◌, ℕ, suc, ◌^◌, ◌<◌, Bool, true, not, eqb, List, [], ◌∷◌, ◌++◌, Some, None, codes, refl, sym, ap, ◌∙◌, arith}
use Rattle.std.proofs.lemmas.Bool.Decides.{nat_tests}
use Rattle.std.proofs.lemmas.Fmt.{decimal_by_steps, decimal_injective}
use Rattle.std.proofs.lemmas.List.{append_cancel_left, append_assoc}
use Rattle.std.proofs.lemmas.List.Folds.{list_all-append}
use Rattle.std.specs.Fmt.{decimal}
use Rattle.std.specs.List.{list_all}
use Rattle.preview.specs.Laws.{StampFits, LinesTellVerdicts}
use Rattle.preview.specs.Verdicts.{verdict_text, verdict_lines}
use Rattle.preview.specs.declared.verdict.Verdict.{Verdict}
use Rattle.preview.specs.declared.verdict.Verdict.TheVariants.{Newest, Dropped, Kept}

-- No byte of a text ends a line.
abbrev one_line : List ℕ → Bool
one_line text = list_all (λ b. not (eqb b 10)) text

decimal_one_line : (n : ℕ) → n < 2 ^ 64 → one_line (decimal n) ≡ true
decimal_one_line =
    decimal_by_steps (λ n text. one_line text ≡ true) (λ n small. grind (arith, nat_tests))
    (λ n text small h. list_all-append (λ b. not (eqb b 10)) text _ ∙ grind (arith, nat_tests))

text_one_line : (v : Verdict) → StampFits v → one_line (verdict_text v) ≡ true
text_one_line Newest h = refl
text_one_line Dropped h = refl
text_one_line (Kept (Some stamp)) h = list_all-append (λ b. not (eqb b 10)) (codes "kept for ") (decimal stamp) ∙ decimal_one_line stamp h
text_one_line (Kept None) h = refl

-- Two texts that go on behind the first end of a line are the same up to there, and behind it.
cut_same : (a b r s : List ℕ) → one_line a ≡ true → one_line b ≡ true → a ++ 10 ∷ r ≡ b ++ 10 ∷ s → (a ≡ b) × (r ≡ s)
cut_same [] [] r s ha hb e = (refl, cc)
cut_same [] (y ∷ b) r s ha hb e = grind (arith, nat_tests)
cut_same (x ∷ a) [] r s ha hb e = grind (arith, nat_tests)
cut_same (x ∷ a) (y ∷ b) r s ha hb e =
    let rest : a ++ 10 ∷ r ≡ b ++ 10 ∷ s = cc in
    let first : x ≡ y = cc in
    let ih = cut_same a b r s (grind (arith, nat_tests)) (grind (arith, nat_tests)) rest in
    (cc, ih.1)

not_ended : (a r : List ℕ) → [] ≡ a ++ 10 ∷ r → ⊥
not_ended [] r e = grind arith
not_ended (x ∷ a) r e = grind arith

text_tells : (v w : Verdict) → StampFits v → StampFits w → verdict_text v ≡ verdict_text w → v ≡ w
text_tells Newest Newest hv hw e = refl
text_tells Newest Dropped hv hw e = grind arith
text_tells Newest (Kept (Some n)) hv hw e = grind arith
text_tells Newest (Kept None) hv hw e = grind arith
text_tells Dropped Newest hv hw e = grind arith
text_tells Dropped Dropped hv hw e = refl
text_tells Dropped (Kept (Some n)) hv hw e = grind arith
text_tells Dropped (Kept None) hv hw e = grind arith
text_tells (Kept (Some m)) Newest hv hw e = grind arith
text_tells (Kept (Some m)) Dropped hv hw e = grind arith
text_tells (Kept (Some m)) (Kept (Some n)) hv hw e = ap (λ s. Kept (Some s)) (decimal_injective m n hv hw (append_cancel_left (codes "kept for ") (decimal m) (decimal n) e))
text_tells (Kept (Some m)) (Kept None) hv hw e = grind arith
text_tells (Kept None) Newest hv hw e = grind arith
text_tells (Kept None) Dropped hv hw e = grind arith
text_tells (Kept None) (Kept (Some n)) hv hw e = grind arith
text_tells (Kept None) (Kept None) hv hw e = refl

-- The first line, and those behind it.
first_line : (v : Verdict) (rest : List Verdict) → verdict_lines (v ∷ rest) ≡ verdict_text v ++ 10 ∷ verdict_lines rest
first_line v rest = append_assoc (verdict_text v) (10 ∷ []) (verdict_lines rest)

pub lines_tell_verdicts : LinesTellVerdicts
lines_tell_verdicts [] [] hv hw e = refl
lines_tell_verdicts [] (w ∷ ws) hv hw e = absurd (not_ended (verdict_text w) (verdict_lines ws) (e ∙ first_line w ws))
lines_tell_verdicts (v ∷ vs) [] hv hw e = absurd (not_ended (verdict_text v) (verdict_lines vs) (sym e ∙ first_line v vs))
lines_tell_verdicts (v ∷ vs) (w ∷ ws) hv hw e =
    let nv : StampFits v = hv 0 v (omega arith) in
    let nw : StampFits w = hw 0 w (omega arith) in
    let cut = cut_same (verdict_text v) (verdict_text w) (verdict_lines vs) (verdict_lines ws) (text_one_line v nv) (text_one_line w nw) (sym (first_line v vs) ∙ e ∙ first_line w ws) in
    let first : v ≡ w = text_tells v w nv nw cut.0 in
    let rest : vs ≡ ws = lines_tell_verdicts vs ws (λ k d l. hv (suc k) d (omega arith)) (λ k d l. hw (suc k) d (omega arith)) cut.1 in
    cc
