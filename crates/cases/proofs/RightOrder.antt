-- The run of a session that reads and a write that follows has one right order.
use Rattle.std.proofs.Common.{◌≡◌, ℕ, ◌<◌, Bool, false, not, eqb, ◌⊎◌, List, [], ◌∷◌, ◌++◌, length, Some, None, Option, sym, refl, ap, ◌∙◌, subst, inl, inr, arith, lit<, length-append}
use Rattle.std.proofs.lemmas.Map.Keys.{any_passes_from_place}
use mathlib.Core.Bool.{false≢true}
use Rattle.std.proofs.lemmas.Bool.{eqb-true, true_from_ne_false, not_from_false}
use Rattle.model.specs.Answers.{Answer, granted, number, value, content}
use Rattle.model.specs.Calls.{Call, Note, Advance, ReadStep, WriteBegin, WriteLook, WriteOffer, step}
use Rattle.model.specs.Runs.{log}
use Rattle.laws.specs.Histories.{History, Was}
use Rattle.laws.specs.OneOrder.{Item, session, write, place, fed, Happened, Begins, Ends, Before, Ordered}
use Rattle.cases.specs.Transcripts.{history_of}
use Rattle.cases.specs.Orders.{session_then_write, OneRightOrder}
use Rattle.cases.proofs.Entries.{of_kind}
use Rattle.cases.proofs.Places.{only_at}
use Rattle.cases.proofs.Orders.{is_write, of_two, the_write}

abbrev the_run : History ℕ
the_run = history_of session_then_write

abbrev right : List (Item ℕ)
right = session 2 ∷ write 5 0 7 ∷ []

-- Only the session and the write happened.
abbrev OfTheTwo : Item ℕ → Type 0
OfTheTwo a = (a ≡ session 2) ⊎ (a ≡ write 5 0 7)

opened_at : (w c i : ℕ) → Was the_run i (Advance w) (number c) → i ≡ 2
unfolding log step
opened_at w c i was = only_at (of_kind (Advance 0)) 2 the_run.entries refl i (Advance w, number c) was refl

begun_at : (w x i : ℕ) → Was the_run i (WriteBegin w x) granted → i ≡ 5
unfolding log step
begun_at w x i was = only_at (of_kind (WriteBegin 0 0)) 5 the_run.entries refl i (WriteBegin w x, granted) was refl

-- The call of an entry, and what the calls of the write say.
abbrev called : Option (Call ℕ × Answer ℕ) → Call ℕ
called None = Note 0
called (Some entry) = entry.0

same_cell : (w x u y : ℕ) → ◌≡◌ {A = Call ℕ} (WriteBegin w x) (WriteBegin u y) → y ≡ x
same_cell w x u y e = cc

cell_is : (w x : ℕ) → Was the_run 5 (WriteBegin w x) granted → x ≡ 0
unfolding log step
cell_is w x was = same_cell 1 0 w x (ap called was)

linked_at : (w v n i : ℕ) → Was the_run i (WriteOffer w v n) granted → i ≡ 7
unfolding log step
linked_at w v n i was = only_at (of_kind (WriteOffer 0 0 0)) 7 the_run.entries refl i (WriteOffer w v n, granted) was refl

same_value : (w v n u z m : ℕ) → ◌≡◌ {A = Call ℕ} (WriteOffer w v n) (WriteOffer u z m) → z ≡ v
same_value w v n u z m e = cc

value_is : (w v n : ℕ) → Was the_run 7 (WriteOffer w v n) granted → v ≡ 7
unfolding log step
value_is w v n was = same_value 1 7 1 w v n (ap called was)

happened : (a : Item ℕ) → Happened the_run a → OfTheTwo a
happened x h = grind (arith, opened_at, begun_at, linked_at, cell_is, value_is)

-- What was answered, to the read or the look, is the first value.
abbrev another : Option ℕ → Bool
another None = false
another (Some v) = not (eqb v 0)

answered_first : (i : ℕ) (c : Call ℕ) (v : ℕ) → Was the_run i c (value v) → v ≡ 0
unfolding log step
answered_first i c v was =
    eqb-true v 0
    (true_from_ne_false (eqb v 0)
    (λ other. false≢true (any_passes_from_place (λ entry. another (content entry.1).carried) the_run.entries i (c, value v) was (not_from_false (eqb v 0) other))))

-- Where an item stands in the right order, and what is before it.
stands : (p q : List (Item ℕ)) (a : Item ℕ) → right ≡ p ++ a ∷ q → ((p ≡ []) × (session 2 ≡ a)) ⊎ ((p ≡ session 2 ∷ []) × (write 5 0 7 ≡ a))
stands [] q a e = inl (refl, cc)
stands (b ∷ []) q a e = inr (cc, cc)
stands (b ∷ c ∷ p) q a e = let two = ap length e in let more = length-append p (a ∷ q) in absurd (omega arith)

-- Before the session and before the write every cell has the first value.
fed_first : (p q : List (Item ℕ)) (a : Item ℕ) (x : ℕ) → right ≡ p ++ a ∷ q → fed (λ y. 0) p x ≡ 0
fed_first p q a x e = grind (arith, stands)

the_session : Happened the_run (session 2)
unfolding log step
the_session = (0, (0, refl))

only_these : (p q : List (Item ℕ)) (a : Item ℕ) → right ≡ p ++ a ∷ q → Happened the_run a
only_these p q a e = grind (arith, stands, the_session, the_write)

each_stands : (a : Item ℕ) → OfTheTwo a → (p q : List (Item ℕ)) × (right ≡ p ++ a ∷ q)
each_stands a (inl e) = ([], write 5 0 7 ∷ [], cc)
each_stands a (inr e) = (session 2 ∷ [], [], cc)

-- When the session and the write begin and end.
session_begins : (a : Item ℕ) (f : ℕ) → a ≡ session 2 → Begins the_run a f → f < 2
session_begins a f is begins = (subst (λ b. Begins the_run b f) is begins).2.0

session_ends : (a : Item ℕ) (e : ℕ) → a ≡ session 2 → Ends the_run a e → e ≡ 2
session_ends a e is ends = subst (λ b. Ends the_run b e) is ends

write_begins : (a : Item ℕ) (f : ℕ) → a ≡ write 5 0 7 → Begins the_run a f → f ≡ 5
write_begins a f is begins = subst (λ b. Begins the_run b f) is begins

write_ends : (a : Item ℕ) (e : ℕ) → a ≡ write 5 0 7 → Ends the_run a e → 5 < e
write_ends a e is ends = (subst (λ b. Ends the_run b e) is ends).2.0

timely : (a b : Item ℕ) (e f : ℕ) → OfTheTwo a → OfTheTwo b → Ends the_run a e → Begins the_run b f → e < f → Before a b right
timely a b e f (inl s) (inl t) ends begins before =
    let last = session_ends a e s ends in let early = session_begins b f t begins in absurd (omega arith)
timely a b e f (inl s) (inr t) ends begins before = ([], [], [], λ j. sym s j ∷ sym t j ∷ [])
timely a b e f (inr s) (inl t) ends begins before =
    let last = write_ends a e s ends in let early = session_begins b f t begins in absurd (omega arith)
timely a b e f (inr s) (inr t) ends begins before =
    let last = write_ends a e s ends in let early = write_begins b f t begins in absurd (omega arith)

different : (a b : Item ℕ) → Before a b right → place a ≡ place b → ⊥
different a b stand same = grind (arith, of_two)

right_is_right : Ordered the_run 0 right
right_is_right =
    record {
      all = λ a h. each_stands a (happened a h);
      only = only_these;
      once = different;
      in_time = λ a b e f ha hb. timely a b e f (happened a ha) (happened b hb);
      reads = λ p q i at x v r. fed_first p q (session i) x at ∙ sym (answered_first r.answered_at (ReadStep r.by) v r.answers);
      looks = λ p q i x u at v l. fed_first p q (write i x u) x at ∙ sym (answered_first l.answered_at (WriteLook l.by) v l.answers);
    }

-- Every other order is refused.
two_places : (a : Item ℕ) → OfTheTwo a → (place a ≡ 2) ⊎ (place a ≡ 5)
two_places a x = grind arith

settled : (a b : Item ℕ) → OfTheTwo a → OfTheTwo b → Ordered the_run 0 (a ∷ b ∷ []) → a ∷ b ∷ [] ≡ right
settled a b (inl s) (inl t) ordered = absurd (ordered.once a b ([], [], [], refl) (ap place s ∙ sym (ap place t)))
settled a b (inl s) (inr t) ordered = λ j. s j ∷ t j ∷ []
settled a b (inr s) (inl t) ordered =
    let (p, q, r, e) = ordered.in_time (session 2) (write 5 0 7) 2 5 the_session the_write refl refl (lit< tt) in
    absurd (false≢true (sym (ap is_write (of_two (session 2) (write 5 0 7) a b p q r e).0) ∙ ap is_write s))
settled a b (inr s) (inr t) ordered = absurd (ordered.once a b ([], [], [], refl) (ap place s ∙ sym (ap place t)))

alone_in : (a x : Item ℕ) (p q : List (Item ℕ)) → x ∷ [] ≡ p ++ a ∷ q → x ≡ a
alone_in a x [] q e = cc
alone_in a x (b ∷ p) q e = let one = ap length e in let more = length-append p (a ∷ q) in absurd (omega arith)

no_other : (o : List (Item ℕ)) → Ordered the_run 0 o → o ≡ right
no_other [] ordered =
    let (p, q, e) = ordered.all (session 2) the_session in
    let none = ap length e in
    let more = length-append p (session 2 ∷ q) in
    absurd (omega arith)
no_other (a ∷ []) ordered =
    let (p, q, e) = ordered.all (session 2) the_session in
    let (u, v, f) = ordered.all (write 5 0 7) the_write in
    let one = alone_in (session 2) a p q e in
    let other = alone_in (write 5 0 7) a u v f in
    absurd (false≢true (sym (ap is_write one) ∙ ap is_write other))
no_other (a ∷ b ∷ []) ordered =
    settled a b (happened a (ordered.only [] (b ∷ []) a refl)) (happened b (ordered.only (a ∷ []) [] b refl)) ordered
no_other (a ∷ b ∷ c ∷ rest) ordered =
    let first = two_places a (happened a (ordered.only [] (b ∷ c ∷ rest) a refl)) in
    let second = two_places b (happened b (ordered.only (a ∷ []) (c ∷ rest) b refl)) in
    let third = two_places c (happened c (ordered.only (a ∷ b ∷ []) rest c refl)) in
    let one = ordered.once a b ([], [], c ∷ rest, refl) in
    let two = ordered.once a c ([], b ∷ [], rest, refl) in
    let three = ordered.once b c (a ∷ [], [], rest, refl) in
    absurd (omega arith)

pub one_right_order : OneRightOrder
one_right_order = (right_is_right, no_other)
