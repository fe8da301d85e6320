-- An order that explained the answers so far still does after one more call.
use Rattle.std.proofs.Common.{◌≡◌, ℕ, suc, ◌<◌, ◌≤◌, cond, ◌&&◌, eqb, leb, ◌⊎◌, List, sym, refl, ap, ◌∙◌, subst, ⊎_elim, arith}
use Rattle.std.proofs.lemmas.Bool.{cases_eq}
use Rattle.model.specs.Answers.{Answer, granted, number, value}
use Rattle.model.specs.Calls.{Call, Advance, ReadBegin, ReadStep}
use Rattle.model.specs.Changes.{ended}
use Rattle.model.specs.State.{State}
use Rattle.laws.specs.Histories.{history, Latest, Was, Opens, ReadBegun}
use Rattle.laws.specs.OneOrder.{Reads}
use Rattle.laws.proofs.Answering.{ReadsNow, now_as}
use Rattle.laws.proofs.Effects.{Kind, kind_of, answers, Chronicle, Effect, after}
use Rattle.laws.proofs.Explaining.{StoreShows, ReadingAll, OrderHolds, when}
use Rattle.laws.proofs.Frames.{updated_same, updated_other}
use Rattle.laws.proofs.Orders.{Event, opening, giving, insert, In, in_insert, Sorted, sorted_insert, Distinct, distinct_insert, LooksHold, looks_hold_opening, looks_hold_giving, fed_up_to, fed_opens, fed_hit, fed_miss}
use Rattle.laws.proofs.Origins.{here_at, DatedAll, dated_place, dated_time, Unused}
use Rattle.laws.proofs.Places.{was_one, latest_one}
use Rattle.laws.proofs.Transitions.{Transition}
use Rattle.laws.proofs.Ways.{OrderWay, w_same, w_opens, w_gives, order_way}

-- what is seen after a stamp is given
pub given_seen : {V : Type 0} (x t x' d : ℕ) (v y : V) (z : V) → (x ≡ x' → t ≤ d → v ≡ z) → (((x ≡ x' → ⊥) ⊎ (d < t)) → y ≡ z) → cond (eqb x x' && leb t d) v y ≡ z
given_seen x t x' d v y z f g = grind arith

module _ {V : Type 0} (first : V) (s₀ : State V) (S : StoreShows first s₀) (cs : List (Call V)) where
  pub order_holds_next :
      (k : ℕ) (s : State V) (T : Chronicle V) (K : Kind V) (s' : State V) (T' : Chronicle V) → S.Good s T.seen → DatedAll s₀ cs k T → Unused s₀ cs s T → OrderHolds s₀ cs first T
      → OrderWay k s T K s' T' → OrderHolds s₀ cs first T'
  order_holds_next k s T K s' T' G D U N (w_same p q r f) =
      record {
        sorted = subst Sorted (sym p) N.sorted;
        distinct = subst Distinct (sym p) N.distinct;
        looks_hold = subst (LooksHold (λ y. first)) (sym p) N.looks_hold;
        seen_is = λ x d. ap (λ h. h x d) q ∙ N.seen_is x d ∙ sym (ap (λ o. fed_up_to d (λ y. first) o x) p);
        last_over = λ j x t v u m h. subst (λ g. t ≤ g x) (sym r) (N.last_over j x t v u m (subst (In (giving j x t v u m)) p h));
      }
  order_holds_next k s T K s' T' G D U N (w_opens w d f g p q) =
      record {
        sorted = subst Sorted (sym p) (sorted_insert (opening k d) T.order (λ e h. dated_time s₀ cs k e (D e h)) N.sorted);
        distinct = subst Distinct (sym p) (distinct_insert (opening k d) T.order (λ e h y. let z = dated_place s₀ cs k e (D e h) in omega arith) N.distinct);
        looks_hold = subst (LooksHold (λ y. first)) (sym p) (looks_hold_opening (λ y. first) T.order k d N.looks_hold);
        seen_is = λ x b. ap (λ h. h.sees x b) q ∙ N.seen_is x b ∙ sym (fed_opens b (λ y. first) T.order k d x) ∙ sym (ap (λ o. fed_up_to b (λ y. first) o x) p);
        last_over = λ j x t v u m h. subst (λ g. t ≤ g.last x) (sym q)
            (⊎_elim (λ e. grind arith) (λ h. N.last_over j x t v u m h)
            (in_insert (opening k d) (giving j x t v u m) T.order (subst (In (giving j x t v u m)) p h)));
      }
  order_holds_next k s T K s' T' G D U N (w_gives u n t v l r b he f p q gone z vz st) =
      record {
        sorted = subst Sorted (sym p) (sorted_insert new_event T.order (λ e h. dated_time s₀ cs k e (D e h)) N.sorted);
        distinct = subst Distinct (sym p) (distinct_insert new_event T.order (λ e h y. U n v e b h y) N.distinct);
        looks_hold = subst (LooksHold (λ y. first)) (sym p)
            (looks_hold_giving (T.place n) (T.seen.cell n) t v (T.seen.base n) k (λ y. first) T.order under N.sorted (sym (N.seen_is (T.seen.cell n) t) ∙ over.1) N.looks_hold);
        seen_is = λ x d. ap (λ h. h.sees x d) q
            ∙ given_seen (T.seen.cell n) t x d v (T.seen.sees x d) (fed_up_to d (λ y. first) T'.order x)
            (λ e h. sym (ap (λ o. fed_up_to d (λ y. first) o x) p ∙ ap (fed_up_to d (λ y. first) (insert new_event T.order)) (sym e)
            ∙ fed_hit (T.place n) (T.seen.cell n) t v (T.seen.base n) k d (λ y. first) T.order h under N.sorted))
            (λ h. N.seen_is x d ∙ sym (ap (λ o. fed_up_to d (λ y. first) o x) p ∙ fed_miss (T.place n) (T.seen.cell n) t v (T.seen.base n) k d (λ y. first) T.order x h));
        last_over = λ j x d y i m h. subst (λ g. d ≤ g.last x) (sym q)
            (⊎_elim
            (λ e. let x1 : x ≡ T.seen.cell n = cc in let t1 : t ≡ d = cc in let o = updated_same T.seen.last (T.seen.cell n) t x x1 in omega arith)
            (λ h. ⊎_elim
            (λ e. let o = updated_same T.seen.last (T.seen.cell n) t x e in
            let g = under j d y i m (subst (λ z. In (giving j z d y i m) T.order) e h) in omega arith)
            (λ ne. let o = updated_other T.seen.last (T.seen.cell n) t x ne in let g = N.last_over j x d y i m h in omega arith) (cases_eq x (T.seen.cell n)))
            (in_insert new_event (giving j x d y i m) T.order (subst (In (giving j x d y i m)) p h)));
      }
    where
      new_event : Event V
      new_event = giving (T.place n) (T.seen.cell n) t v (T.seen.base n) k

      over : (T.seen.last (T.seen.cell n) ≤ t) × (T.seen.sees (T.seen.cell n) t ≡ T.seen.base n)
      over = S.gives_over s T.seen G u n t v l r b he

      under : (j d : ℕ) (w i : V) (m : ℕ) → In (giving j (T.seen.cell n) d w i m) T.order → d ≤ t
      under j d w i m h = let z = N.last_over j (T.seen.cell n) d w i m h in let y = over.0 in omega arith

  -- what reads answered is still seen
  abbrev pub ReadsAll : ℕ → State V → Chronicle V → Type 0
  ReadsAll k s T =
      (i x d : ℕ) (v : V) (R : Reads (history s₀ cs) i x v) → R.answered_at < k → Was (history s₀ cs) i (Advance R.by) (number d)
      → (T.seen.sees x d ≡ v) × S.Settled s T.seen x d

  seen_keeps : (k : ℕ) (s : State V) (T : Chronicle V) (K : Kind V) (s' : State V) (T' : Chronicle V) (x d : ℕ) → S.Good s T.seen → S.Settled s T.seen x d → OrderWay k s T K s' T'
      → T'.seen.sees x d ≡ T.seen.sees x d
  seen_keeps k s T K s' T' x d G C (w_same p q r f) = ap (λ h. h x d) q
  seen_keeps k s T K s' T' x d G C (w_opens w b f g p q) = ap (λ h. h.sees x d) q
  seen_keeps k s T K s' T' x d G C (w_gives u n t v l r b he f p q gone z vz st) =
      ap (λ h. h.sees x d) q
      ∙ given_seen (T.seen.cell n) t x d v (T.seen.sees x d) (T.seen.sees x d)
      (λ e h. absurd (let y = S.settled_over s T.seen G x d C u n t v l r b he e in omega arith)) (λ h. refl)

  module _ (k : ℕ) (s : State V) (T : Chronicle V) (c : Call V) (a : Answer V) (s' : State V) (T' : Chronicle V) (W : Was (history s₀ cs) k c a) (tn : Effect k s T c a s' T') where
    reads_now_go : (i x d w : ℕ) (v : V) → S.Good s T.seen → ReadingAll s₀ cs k s → (b : ℕ) → Latest (Opens (history s₀ cs) w) i b → Was (history s₀ cs) b (ReadBegin w x) granted
        → Latest (ReadBegun (history s₀ cs) w) b k → Was (history s₀ cs) i (Advance w) (number d) → ReadsNow s T s' T' w v → (T'.seen.sees x d ≡ v) × S.Settled s' T'.seen x d
    reads_now_go i x d w v G N b is bg of operation r =
        let q = N w r.x r.p r.was_reading in
        let b1 : q.began ≡ b = latest_one (ReadBegun (history s₀ cs) w) q.began b k q.of_read of in
        let b2 = (was_one s₀ cs b (ReadBegin w r.x) (ReadBegin w x) granted granted (subst (λ j. Was (history s₀ cs) j (ReadBegin w r.x) granted) b1 q.begins) bg).0 in
        let x1 : r.x ≡ x = cc in
        let i1 : q.i ≡ i = latest_one (Opens (history s₀ cs) w) q.i i b (subst (λ j. Latest (Opens (history s₀ cs) w) q.i j) b1 q.in_session) is in
        let d2 = (was_one s₀ cs i (Advance w) (Advance w) (number q.d) (number d) (subst (λ j. Was (history s₀ cs) j (Advance w) (number q.d)) i1 q.opened_at) operation).1 in
        let e1 = q.is_open in
        let e2 = r.in_session in
        let d1 : r.d ≡ d = cc in
        let g = S.reads_seen s T.seen G w r.x r.p r.d r.t r.ver r.in_table r.was_reading r.in_session r.stands r.under in
        let T1 : T' ≡ T = r.same_chronicle in (
          ap (λ y. y.seen.sees x d) T1 ∙ ap (λ y. T.seen.sees y d) (sym x1) ∙ ap (T.seen.sees r.x) (sym d1) ∙ g.0 ∙ r.answered,
          subst (λ y. S.Settled s' y.seen x d) (sym T1)
              (subst (λ y. S.Settled y T.seen x d) (sym r.then) (subst (λ y. S.Settled (ended s w) T.seen y d) x1 (subst (λ y. S.Settled (ended s w) T.seen r.x y) d1 g.1))),
        )

    pub reads_on : (m : Transition s c a s') → T'.seen ≡ after m T.seen → S.Good s T.seen → ReadingAll s₀ cs k s → ReadsAll k s T → ReadsAll (suc k) s' T'
    reads_on m e G N A i x d v R l operation =
        when s₀ cs k s T c a s' T' W tn R.answered_at ((T'.seen.sees x d ≡ v) × S.Settled s' T'.seen x d) l
        (λ q. let r = A i x d v R q operation in (
          seen_keeps k s T (kind_of c a) s' T' x d G r.1 (order_way k s T tn) ∙ r.0,
          subst (λ g. S.Settled s' g x d) (sym e) (S.settled_on s c a s' T.seen m G x d r.1),
        ))
        (λ q. let w = R.by in
        let K : kind_of c a ≡ answers w v =
        sym ((here_at s₀ cs k c a W).only (ReadStep w) (value v) (subst (λ j. Was (history s₀ cs) j (ReadStep w) (value v)) q R.answers)) in
        reads_now_go i x d w v G N R.begun_at R.in_session R.begins (subst (λ j. Latest (ReadBegun (history s₀ cs) w) R.begun_at j) q R.of_read) operation (now_as tn K))
