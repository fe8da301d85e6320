-- One step down the walk, and what is left of it as a chain gives it.
use Rattle.std.proofs.Common.{◌≡◌, ℕ, Bool, true, false, not, List, [], ◌∷◌, map, filter, Some, refl, arith}
use Rattle.std.proofs.lemmas.Grind.{common_steps}
use Rattle.stamps.specs.declared.Interval.{Interval}
use Rattle.preview.specs.declared.decision.Decision.{Decision}
use Rattle.preview.specs.Walk.{walk, newer_below, left}

-- What is left below a newer version: without the next, or with it.
pub left_cases : (P : List ℕ → Type 0) (drops : Interval → Bool) (newer stamp : ℕ) (older : List ℕ)
    → (drops (record { start = stamp; end = newer }) ≡ true → P (left (walk drops (Some newer) older)))
    → (drops (record { start = stamp; end = newer }) ≡ false → P (stamp ∷ left (walk drops (Some stamp) older)))
    → P (left (walk drops (Some newer) (stamp ∷ older)))
left_cases P drops newer stamp older gone kept = by_case (drops (record { start = stamp; end = newer })) refl
  where
    decision : Bool → Decision
    decision b = record { stamp = stamp; newer = Some newer; dropped = b }

    by_case : (b : Bool) → drops (record { start = stamp; end = newer }) ≡ b → P (left (decision b ∷ walk drops (newer_below (decision b)) older))
    by_case true d = gone d
    by_case false d = kept d

-- The stamps of those that are not dropped.
pub left_by_chain : (ds : List Decision) → left ds ≡ map (λ (d : Decision). d.stamp) (filter (λ (d : Decision). not d.dropped) ds)
left_by_chain [] = refl
left_by_chain (d ∷ rest) = let ih = left_by_chain rest in grind (arith, common_steps)
