-- The lists of the cells in shape (`WellLinked`): each starts at a linked node, leaves out none, and gets older going
-- down.
use Rattle.std.proofs.Common.{◌≡◌, ℕ, zero, suc, ◌<◌, ◌≤◌, Bool, true, false, ◌⊎◌, List, [], ◌∷◌, length, get_or, set, Some, None, Option, sym, refl, ap, ◌∙◌, subst, inl, inr, ⊎_elim, arith}
use Rattle.std.proofs.lemmas.Option.{none-some}
use Rattle.std.proofs.lemmas.List.{get_or-set_other, get_or_past, get_or-set_same}
use Rattle.std.proofs.lemmas.Bool.{cases_eq, cases_lt, both_ways}
use Rattle.model.specs.Changes.{stamped, on_version, unmark, waits_or_free}
use Rattle.model.specs.State.{Version, Node, version, any, free, linked, waiting}
use Rattle.laws.proofs.Frames.{updated, set_either}

-- words on slots
abbrev pub IsLinked : {V : Type 0} → Node V → Type 0
IsLinked free = ⊥
IsLinked (linked v) = Unit {0}
IsLinked (waiting v ms) = ⊥

-- it waits with the mark of u
abbrev pub Marked : {V : Type 0} → ℕ → Node V → Type 0
Marked u free = ⊥
Marked u (linked v) = ⊥
Marked u (waiting v ms) = get_or ms u false ≡ true

abbrev pub Present : Option ℕ → Type 0
Present None = ⊥
Present (Some t) = Unit {0}

abbrev pub WithStamp : {V : Type 0} → Node V → Type 0
WithStamp free = ⊥
WithStamp (linked v) = Present v.stamp
WithStamp (waiting v ms) = Present v.stamp

abbrev pub older_of : {V : Type 0} → Node V → Option ℕ
older_of free = None
older_of (linked v) = v.older
older_of (waiting v ms) = v.older

abbrev pub stamp_of : {V : Type 0} → Node V → Option ℕ
stamp_of free = None
stamp_of (linked v) = v.stamp
stamp_of (waiting v ms) = v.stamp

abbrev pub KeptFor : {V : Type 0} → ℕ → Node V → Type 0
KeptFor u x = IsLinked x ⊎ Marked u x

-- a kept node is not free
pub kept_used : {V : Type 0} (u : ℕ) (x : Node V) → KeptFor u x → x ≡ free → ⊥
kept_used u x k e = elim (subst (KeptFor u) e k) [ inl h ↦ h | inr h ↦ h ]

abbrev pub node_in : {V : Type 0} → List (Node V) → ℕ → Node V
node_in N n = get_or N n free

-- of each node, ever used, its cell and its age's rank; and the rank of the next
pub record Ages : Type 0 where
  pub cell : ℕ → ℕ
  pub rank : ℕ → ℕ
  pub next : ℕ

-- node n becomes the newest, in cell x
abbrev pub with_newest : Ages → ℕ → ℕ → Ages
with_newest g x n = record { cell = updated g.cell n x; rank = updated g.rank n g.next; next = suc g.next }

pub record WellLinked {V : Type 0} (H : List ℕ) (N : List (Node V)) (g : Ages) : Type 0 where
  pub head_linked : (x : ℕ) → x < length H → IsLinked (node_in N (get_or H x 0))
  pub head_cell : (x : ℕ) → x < length H → g.cell (get_or H x 0) ≡ x
  pub head_newest : (x n : ℕ) → x < length H → IsLinked (node_in N n) → g.cell n ≡ x → g.rank n ≤ g.rank (get_or H x 0)
  pub same : (n k : ℕ) → IsLinked (node_in N n) → IsLinked (node_in N k) → g.cell n ≡ g.cell k → g.rank n ≡ g.rank k → n ≡ k
  pub down_linked : (n m : ℕ) → IsLinked (node_in N n) → older_of (node_in N n) ≡ Some m → IsLinked (node_in N m)
  pub down_next :
      (n m k : ℕ) → IsLinked (node_in N n) → older_of (node_in N n) ≡ Some m → IsLinked (node_in N k) → g.cell k ≡ g.cell n → g.rank k < g.rank n
      → g.rank k ≤ g.rank m
  pub down_last : (n k : ℕ) → IsLinked (node_in N n) → older_of (node_in N n) ≡ None → IsLinked (node_in N k) → g.cell k ≡ g.cell n → g.rank n ≤ g.rank k
  pub kept_down : (u n m : ℕ) → KeptFor u (node_in N n) → older_of (node_in N n) ≡ Some m → KeptFor u (node_in N m)
  pub stamped_down : (u n m : ℕ) → KeptFor u (node_in N n) → older_of (node_in N n) ≡ Some m → WithStamp (node_in N m)
  pub rank_down : (u n m : ℕ) → KeptFor u (node_in N n) → older_of (node_in N n) ≡ Some m → (g.rank m < g.rank n) × (g.cell m ≡ g.cell n)
  pub small : (u n : ℕ) → KeptFor u (node_in N n) → g.rank n < g.next
  pub in_cell : (n : ℕ) → IsLinked (node_in N n) → g.cell n < length H

-- two linked nodes have not the same next older
pub apart : {V : Type 0} {H : List ℕ} {N : List (Node V)} {g : Ages} → WellLinked H N g → (n k m : ℕ) → IsLinked (node_in N n) → IsLinked (node_in N k)
    → older_of (node_in N n) ≡ Some m → older_of (node_in N k) ≡ Some m → n ≡ k
apart {g} S n k m ln lk on ok' =
    let a = S.rank_down 0 n m (inl ln) on in
    let b = S.rank_down 0 k m (inl lk) ok' in
    let c : g.cell n ≡ g.cell k = omega arith in
    ⊎_elim (λ l. absurd (let d = S.down_next k m n lk ok' ln c l in omega arith))
    (λ l. ⊎_elim (λ l'. absurd (let d = S.down_next n m k ln on lk (sym c) l' in omega arith))
    (λ l'. S.same n k ln lk c (omega arith)) (cases_lt (g.rank k) (g.rank n)))
    (cases_lt (g.rank n) (g.rank k))

-- a change that leaves all but values and stamps, and takes no stamp away
pub record SameLinks {V : Type 0} (x y : Node V) : Type 0 where
  pub back : IsLinked y → IsLinked x
  pub on : IsLinked x → IsLinked y
  pub marked_back : (u : ℕ) → Marked u y → Marked u x
  pub marked_on : (u : ℕ) → Marked u x → Marked u y
  pub older_same : older_of y ≡ older_of x
  pub stamp_on : WithStamp x → WithStamp y

pub kept_back : {V : Type 0} {x y : Node V} → SameLinks x y → (u : ℕ) → KeptFor u y → KeptFor u x
kept_back x u o = grind arith

pub kept_forth : {V : Type 0} {x y : Node V} → SameLinks x y → (u : ℕ) → KeptFor u x → KeptFor u y
kept_forth x u o = grind arith

pub same_links_refl : {V : Type 0} (x : Node V) → SameLinks x x
same_links_refl x = grind arith

pub same_links_given : {V : Type 0} (t : ℕ) (x : Node V) → SameLinks x (on_version (λ v. stamped v t) x)
same_links_given t x = grind arith

pub same_links_set : {V : Type 0} (N : List (Node V)) (n : ℕ) (y : Node V) → SameLinks (node_in N n) y → (j : ℕ) → SameLinks (node_in N j) (node_in (set N n y) j)
same_links_set N n y a j =
    set_either N n j y free (λ z. SameLinks (node_in N j) z) (λ e. subst (λ k. SameLinks (node_in N k) y) (sym e) a) (same_links_refl (node_in N j))

pub well_linked_same : {V : Type 0} {H : List ℕ} {N M : List (Node V)} {g : Ages} → ((j : ℕ) → SameLinks (node_in N j) (node_in M j)) → WellLinked H N g → WellLinked H M g
well_linked_same {N} {M} A S =
    record {
      head_linked = λ x l. (A _).on (S.head_linked x l);
      head_cell = S.head_cell;
      head_newest = λ x n l ln e. S.head_newest x n l ((A n).back ln) e;
      same = λ n k ln lk c r. S.same n k ((A n).back ln) ((A k).back lk) c r;
      down_linked = λ n m ln o. (A m).on (S.down_linked n m ((A n).back ln) (old n m o));
      down_next = λ n m k ln o lk c r. S.down_next n m k ((A n).back ln) (old n m o) ((A k).back lk) c r;
      down_last = λ n k ln o lk c. S.down_last n k ((A n).back ln) (sym (A n).older_same ∙ o) ((A k).back lk) c;
      kept_down = λ u n m kn o. kept_forth (A m) u (S.kept_down u n m (kept_back (A n) u kn) (old n m o));
      stamped_down = λ u n m kn o. (A m).stamp_on (S.stamped_down u n m (kept_back (A n) u kn) (old n m o));
      rank_down = λ u n m kn o. S.rank_down u n m (kept_back (A n) u kn) (old n m o);
      small = λ u n kn. S.small u n (kept_back (A n) u kn);
      in_cell = λ n ln. S.in_cell n ((A n).back ln);
    }
  where
    old : (n m : ℕ) → older_of (node_in M n) ≡ Some m → older_of (node_in N n) ≡ Some m
    old n m o = sym (A n).older_same ∙ o

-- what the end of w's operation makes of a node
pub record MarkTakenOff {V : Type 0} (w : ℕ) (x y : Node V) : Type 0 where
  pub back : IsLinked y → IsLinked x
  pub on : IsLinked x → IsLinked y
  pub marked_back : (u : ℕ) → Marked u y → Marked u x × (u ≡ w → ⊥)
  pub marked_on : (u : ℕ) → (u ≡ w → ⊥) → Marked u x → Marked u y
  pub older_back : (m : ℕ) → older_of y ≡ Some m → older_of x ≡ Some m
  pub none_back : IsLinked y → older_of y ≡ None → older_of x ≡ None
  pub stamp_on : (u : ℕ) → KeptFor u y → WithStamp x → WithStamp y

pub kept_before_end : {V : Type 0} {w : ℕ} {x y : Node V} → MarkTakenOff w x y → (u : ℕ) → KeptFor u y → KeptFor u x
kept_before_end x u o = grind arith

pub kept_after_end : {V : Type 0} {w : ℕ} {x y : Node V} → MarkTakenOff w x y → (u : ℕ) → (u ≡ w → ⊥) → KeptFor u x → KeptFor u y
kept_after_end x u n o = grind arith

cleared : (ms : List Bool) (w : ℕ) → get_or (set ms w false) w false ≡ false
cleared [] w = refl
cleared (m ∷ ms) zero = refl
cleared (m ∷ ms) (suc w) = cleared ms w

pub some_mark : (ms : List Bool) (u : ℕ) → get_or ms u false ≡ true → any (λ b. b) ms ≡ true
some_mark [] u e = e
some_mark (true ∷ ms) u e = refl
some_mark (false ∷ ms) zero e = absurd (both_ways false refl e)
some_mark (false ∷ ms) (suc u) e = some_mark ms u e

freed_not_linked : {V : Type 0} (v : Version V) (ms : List Bool) (b : Bool) → IsLinked (waits_or_free v ms b) → ⊥
freed_not_linked v ms x h = grind arith

freed_marked : {V : Type 0} (v : Version V) (ms : List Bool) (b : Bool) (u : ℕ) → Marked u (waits_or_free v ms b) → get_or ms u false ≡ true
freed_marked v ms x u h = grind arith

freed_older : {V : Type 0} (v : Version V) (ms : List Bool) (b : Bool) (m : ℕ) → older_of (waits_or_free v ms b) ≡ Some m → v.older ≡ Some m
freed_older v ms x m h = grind arith

freed_stamp : {V : Type 0} (v : Version V) (ms : List Bool) (b : Bool) (u : ℕ) → KeptFor u (waits_or_free v ms b) → Present v.stamp → WithStamp (waits_or_free v ms b)
freed_stamp v ms x u o h = grind arith

pub unmark_takes_off : {V : Type 0} (w : ℕ) (x : Node V) → MarkTakenOff w x (unmark w x)
unmark_takes_off w free =
    record { back = λ h. h; on = λ h. h; marked_back = λ u h. absurd h; marked_on = λ u n h. h; older_back = λ m h. h; none_back = λ l h. h; stamp_on = λ u k h. h }
unmark_takes_off w (linked v) =
    record { back = λ h. h; on = λ h. h; marked_back = λ u h. absurd h; marked_on = λ u n h. h; older_back = λ m h. h; none_back = λ l h. h; stamp_on = λ u k h. h }
unmark_takes_off w (waiting v ms) =
    record {
      back = freed_not_linked v (set ms w false) _;
      on = λ h. absurd h;
      marked_back = λ u h. off u (freed_marked v (set ms w false) (any (λ b. b) (set ms w false)) u h);
      marked_on = λ u n h. stays u (get_or-set_other ms w u false false n ∙ h);
      older_back = freed_older v (set ms w false) (any (λ b. b) (set ms w false));
      none_back = λ l h. absurd (freed_not_linked v (set ms w false) _ l);
      stamp_on = freed_stamp v (set ms w false) (any (λ b. b) (set ms w false));
    }
  where
    off : (u : ℕ) → get_or (set ms w false) u false ≡ true → (get_or ms u false ≡ true) × (u ≡ w → ⊥)
    off u h =
        ⊎_elim (λ e. absurd (both_ways true (sym (sym (ap (λ k. get_or (set ms w false) k false) e ∙ cleared ms w) ∙ h) ∙ sym refl) refl))
        (λ n. (sym (get_or-set_other ms w u false false n) ∙ h, n)) (cases_eq u w)

    stays : (u : ℕ) → get_or (set ms w false) u false ≡ true → Marked u (waits_or_free v (set ms w false) (any (λ b. b) (set ms w false)))
    stays u h = subst (λ b. Marked u (waits_or_free v (set ms w false) b)) (sym (some_mark (set ms w false) u h)) h

pub well_linked_unmarked : {V : Type 0} {H : List ℕ} {N M : List (Node V)} {g : Ages} (w : ℕ) → ((j : ℕ) → MarkTakenOff w (node_in N j) (node_in M j)) → WellLinked H N g → WellLinked H M g
well_linked_unmarked {N} {M} w A S =
    record {
      head_linked = λ x l. (A _).on (S.head_linked x l);
      head_cell = S.head_cell;
      head_newest = λ x n l ln e. S.head_newest x n l ((A n).back ln) e;
      same = λ n k ln lk c r. S.same n k ((A n).back ln) ((A k).back lk) c r;
      down_linked = λ n m ln o. (A m).on (S.down_linked n m ((A n).back ln) ((A n).older_back m o));
      down_next = λ n m k ln o lk c r. S.down_next n m k ((A n).back ln) ((A n).older_back m o) ((A k).back lk) c r;
      down_last = λ n k ln o lk c. S.down_last n k ((A n).back ln) ((A n).none_back ln o) ((A k).back lk) c;
      kept_down = kept;
      stamped_down = λ u n m kn o. (A m).stamp_on u (kept u n m kn o) (S.stamped_down u n m (kept_before_end (A n) u kn) ((A n).older_back m o));
      rank_down = λ u n m kn o. S.rank_down u n m (kept_before_end (A n) u kn) ((A n).older_back m o);
      small = λ u n kn. S.small u n (kept_before_end (A n) u kn);
      in_cell = λ n ln. S.in_cell n ((A n).back ln);
    }
  where
    kept : (u n m : ℕ) → KeptFor u (node_in M n) → older_of (node_in M n) ≡ Some m → KeptFor u (node_in M m)
    kept u n m (inl h) o = inl ((A m).on (S.down_linked n m ((A n).back h) ((A n).older_back m o)))
    kept u n m (inr h) o = kept_after_end (A m) u ((A n).marked_back u h).1 (S.kept_down u n m (inr ((A n).marked_back u h).0) ((A n).older_back m o))

pub older_at : {V : Type 0} (x : Node V) (v : Version V) (m : ℕ) → version x ≡ Some v → v.older ≡ Some m → older_of x ≡ Some m
older_at x v m e o = grind arith

pub with_stamp_at : {V : Type 0} (x : Node V) (v : Version V) (t : ℕ) → version x ≡ Some v → v.stamp ≡ Some t → WithStamp x
with_stamp_at x v m e o = grind arith

pub linked_is : {V : Type 0} (x : Node V) (v : Version V) → IsLinked x → version x ≡ Some v → x ≡ linked v
linked_is x v h e = grind arith

pub linked_in : {V : Type 0} (N : List (Node V)) (n : ℕ) → IsLinked (node_in N n) → n < length N
linked_in N n h = ⊎_elim (λ l. l) (λ l. absurd (subst IsLinked (get_or_past N n free l) h)) (cases_lt n (length N))

pub unmark_same : {V : Type 0} (w u : ℕ) (x : Node V) → (u ≡ w → ⊥) → KeptFor u x → (older_of (unmark w x) ≡ older_of x) × (stamp_of (unmark w x) ≡ stamp_of x) × (version (unmark w x) ≡ version x)
unmark_same w u x ne o = grind (arith, some_mark, get_or-set_other)

pub given_older : {V : Type 0} (t : ℕ) (x : Node V) → older_of (on_version (λ v. stamped v t) x) ≡ older_of x
given_older t x = grind arith

pub stamp_at : {V : Type 0} (x : Node V) (v : Version V) → version x ≡ Some v → stamp_of x ≡ v.stamp
stamp_at x v e = grind arith

pub version_in_table : {V : Type 0} (N : List (Node V)) (n : ℕ) (v : Version V) → version (get_or N n free) ≡ Some v → n < length N
version_in_table x n v h = grind (arith, none-some, get_or_past, cases_lt)

pub linked_version : {V : Type 0} (x : Node V) → IsLinked x → (v : Version V) × (version x ≡ Some v) × (older_of x ≡ v.older) × (stamp_of x ≡ v.stamp)
linked_version free l = absurd l
linked_version (linked v) l = (v, refl, refl, refl)
linked_version (waiting v ms) l = absurd l

pub unstamped_not : {V : Type 0} (y : Node V) → stamp_of y ≡ None → WithStamp y → ⊥
unstamped_not x e f = grind arith

-- a change of the version in node n
pub on_version_is : {V : Type 0} (f : Version V → Version V) (x : Node V) (v : Version V) → version x ≡ Some v → version (on_version f x) ≡ Some (f v)
on_version_is f x v h = grind arith

pub on_version_at : {V : Type 0} (f : Version V → Version V) (N : List (Node V)) (n : ℕ) (v : Version V) → version (get_or N n free) ≡ Some v
    → version (get_or (set N n (on_version f (get_or N n free))) n free) ≡ Some (f v)
on_version_at f x n v h = grind (arith, get_or-set_same, version_in_table, on_version_is)
