-- A store keeps its sizes: no step changes how many workers, cells or nodes there are.
use Rattle.std.proofs.Common.{◌≡◌, List, length, refl, ap, ◌∙◌}
use Rattle.std.proofs.lemmas.List.{length-set, length-map}
use Rattle.model.specs.Answers.{Answer}
use Rattle.model.specs.Calls.{Call}
use Rattle.model.specs.Runs.{run}
use Rattle.model.specs.State.{State}
use Rattle.laws.proofs.Places.{by_calls, run_one_more}
use Rattle.laws.proofs.Transitions.{Transition, transition, refuses, loses, notes, publishes, opens, starts_again, closes, read_begins, write_begins, compaction_begins, takes_reading, gives_stamp, reads, reads_on, looks, links, overtakes, stamps, abandons, scans, takes_head, keeps, takes_out, finishes}

pub record SameSizes {V : Type 0} (s t : State V) : Type 0 where
  pub workers_same : length t.workers ≡ length s.workers
  pub heads_same : length t.heads ≡ length s.heads
  pub nodes_same : length t.nodes ≡ length s.nodes

ruleset lengths = (length-set, length-map)

pub same_sizes : {V : Type 0} {s : State V} {c : Call V} {a : Answer V} {s' : State V} → Transition s c a s' → SameSizes s s'
same_sizes (refuses nc) = record { workers_same = refl; heads_same = refl; nodes_same = refl }
same_sizes (loses lo) = record { workers_same = refl; heads_same = refl; nodes_same = refl }
same_sizes (notes i e f) = record { workers_same = simp lengths; heads_same = refl; nodes_same = refl }
same_sizes (publishes i e) = record { workers_same = simp lengths; heads_same = refl; nodes_same = refl }
same_sizes (opens i e f) = record { workers_same = simp lengths; heads_same = refl; nodes_same = refl }
same_sizes (starts_again i e f) = record { workers_same = simp lengths; heads_same = refl; nodes_same = refl }
same_sizes (closes i e f) = record { workers_same = simp lengths; heads_same = refl; nodes_same = refl }
same_sizes (read_begins i l b e) = record { workers_same = simp lengths; heads_same = refl; nodes_same = refl }
same_sizes (write_begins i l b) = record { workers_same = simp lengths; heads_same = refl; nodes_same = refl }
same_sizes (compaction_begins i l b e) = record { workers_same = simp lengths; heads_same = refl; nodes_same = refl }
same_sizes (takes_reading i pt th st he) = record { workers_same = simp lengths; heads_same = refl; nodes_same = refl }
same_sizes (gives_stamp i pt th st he) = record { workers_same = simp lengths; heads_same = refl; nodes_same = simp lengths }
same_sizes (reads i e f st l) = record { workers_same = simp lengths; heads_same = refl; nodes_same = simp lengths }
same_sizes (reads_on i e f st l o) = record { workers_same = simp lengths; heads_same = refl; nodes_same = refl }
same_sizes (looks i e st) = record { workers_same = simp lengths; heads_same = refl; nodes_same = refl }
same_sizes (links i e h f) = record { workers_same = simp lengths; heads_same = simp lengths; nodes_same = simp lengths }
same_sizes (overtakes i e h) = record { workers_same = simp lengths; heads_same = refl; nodes_same = simp lengths }
same_sizes (stamps i e st) = record { workers_same = simp lengths; heads_same = refl; nodes_same = simp lengths }
same_sizes (abandons i e) = record { workers_same = simp lengths; heads_same = refl; nodes_same = simp lengths }
same_sizes (scans i e l) = record { workers_same = simp lengths; heads_same = refl; nodes_same = refl }
same_sizes (takes_head i e l) = record { workers_same = simp lengths; heads_same = refl; nodes_same = refl }
same_sizes (keeps i e st o su d) = record { workers_same = simp lengths; heads_same = refl; nodes_same = refl }
same_sizes (takes_out i e st o su d) = record { workers_same = simp lengths; heads_same = refl; nodes_same = simp lengths }
same_sizes (finishes i e st o) = record { workers_same = simp lengths; heads_same = refl; nodes_same = simp lengths }

-- over a run
pub sizes_run : {V : Type 0} (s : State V) (cs : List (Call V)) → SameSizes s (run s cs)
unfolding run
sizes_run s = by_calls (λ cs. SameSizes s (run s cs)) (record { workers_same = refl; heads_same = refl; nodes_same = refl }) (λ cs c S. more (same_sizes (transition (run s cs) c)) S (run_one_more s cs c))
  where
    more : {V : Type 0} {s t u v : State V} → SameSizes t u → SameSizes s t → v ≡ u → SameSizes s v
    more A B e = record {
      workers_same = ap (λ y. length y.workers) e ∙ A.workers_same ∙ B.workers_same;
      heads_same = ap (λ y. length y.heads) e ∙ A.heads_same ∙ B.heads_same;
      nodes_same = ap (λ y. length y.nodes) e ∙ A.nodes_same ∙ B.nodes_same;
    }
