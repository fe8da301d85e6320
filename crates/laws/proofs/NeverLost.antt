-- No run comes to a situation of which the definitions say so: what an operation refers to holds a version, a read has
-- an open session and finds its version before the list ends, and below another version all are stamped.
use Rattle.std.proofs.Common.{◌≡◌, ℕ, None, subst, inl, arith}
use Rattle.std.proofs.lemmas.Bool.{leb-false}
use Rattle.model.specs.State.{Node, State, node, version, walking}
use Rattle.laws.proofs.CellLists.{KeptFor, older_at}
use Rattle.laws.proofs.Effects.{Seen, works_refers, refers_kept}
use Rattle.laws.proofs.Faithful.{Faithful, with_stamp_version}
use Rattle.laws.proofs.Finding.{Finds, finds_next}
use Rattle.laws.proofs.References.{anchor_at}
use Rattle.laws.proofs.Transitions.{Lost, no_version, no_session, no_older, none_below, bare_below}

kept_holds : {V : Type 0} (u : ℕ) (x : Node V) → KeptFor u x → version x ≡ None → ⊥
kept_holds u x o e = grind arith

pub never_lost : {V : Type 0} (s : State V) (g : Seen V) → Faithful s g → Lost s → ⊥
never_lost s g G (no_version {w} {n} i pt e) =
    kept_holds w (node s n) (refers_kept s.heads s.nodes G.ages w n _ (works_refers pt) (G.anchored.anchors w)) e
never_lost s g G (no_session {w} {x} {p} i e f) = let r = G.reads_find w x p e in f r.d r.is_open
never_lost s g G (no_older {w} {x} {p} {c} {t} {v} i e so st l o) =
    let r = G.reads_find w x p e in
    let ro = r.is_open in
    let d : r.d ≡ c = cc in
    let f = finds_next s.nodes c p t _ v st.here st.has (leb-false t c l) (subst (λ k. Finds s.nodes k p (g.sees x k)) d r.finds) in
    let z = f.1 in
    grind arith
never_lost s g G (none_below {w} {x} {t} {p} {r} {n} {e} {q} {v} i op st o h) =
    let y = anchor_at w (walking x t q p r) op G.anchored in
    kept_holds w (node s n) (inl (G.anchored.well_linked.down_linked p n y.0 (older_at (node s p) v n st.here o))) h
never_lost s g G (bare_below {w} {x} {t} {p} {r} {n} {e} {q} {v} {u} i op st o h b) =
    let y = anchor_at w (walking x t q p r) op G.anchored in
    with_stamp_version (node s n) u h (G.anchored.well_linked.stamped_down w p n (inl y.0) (older_at (node s p) v n st.here o)) b
