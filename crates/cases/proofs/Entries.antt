-- Facts of a history from tests that compute: which read, look and write its entries make up.
use Rattle.std.proofs.Common.{◌≡◌, ℕ, suc, ◌-◌, ◌<◌, Bool, true, false, not, ◌&&◌, T, eqb, ltb, is_some, Some, None, Option, sym, refl, ◌∙◌, arith, lit<}
use mathlib.Core.Bool.{false≢true}
use Rattle.std.specs.List.{slice_get, list_all, range_with_len}
use Rattle.std.proofs.lemmas.Bool.{not-true}
use Rattle.model.specs.State.{Version, head, node, version}
use Rattle.model.specs.Answers.{Answer, granted, number, value}
use Rattle.model.specs.Calls.{Call, Note, Publish, Advance, Close, ReadBegin, ReadStep, WriteBegin, WriteLook, WriteOffer, WriteStamp, Abandon, CompactBegin, CompactStep}
use Rattle.laws.specs.Histories.{History, Latest, Was, Opens, ReadBegun, WriteBegun}
use Rattle.laws.specs.OneOrder.{Unstamped, HasStamp, Reads, Looks, Stamped}
use Rattle.cases.proofs.Places.{everywhere}

-- The kind of a call, and the worker that makes it.
abbrev pub kind : Call ℕ → ℕ
kind (Note w) = 0
kind (Publish w) = 1
kind (Advance w) = 2
kind (Close w) = 3
kind (ReadBegin w x) = 4
kind (ReadStep w) = 5
kind (WriteBegin w x) = 6
kind (WriteLook w) = 7
kind (WriteOffer w v n) = 8
kind (WriteStamp w) = 9
kind (Abandon w) = 10
kind (CompactBegin w x) = 11
kind (CompactStep w judge) = 12

abbrev pub caller : Call ℕ → ℕ
caller (Note w) = w
caller (Publish w) = w
caller (Advance w) = w
caller (Close w) = w
caller (ReadBegin w x) = w
caller (ReadStep w) = w
caller (WriteBegin w x) = w
caller (WriteLook w) = w
caller (WriteOffer w v n) = w
caller (WriteStamp w) = w
caller (Abandon w) = w
caller (CompactBegin w x) = w
caller (CompactStep w judge) = w

-- An entry has a call of the same kind; and by the same worker.
abbrev pub of_kind : Call ℕ → Call ℕ × Answer ℕ → Bool
of_kind c entry = eqb (kind c) (kind entry.0)

abbrev pub like : Call ℕ → Option (Call ℕ × Answer ℕ) → Bool
like c None = false
like c (Some entry) = of_kind c entry && eqb (caller c) (caller entry.0)

-- Between places i and k there is none.
abbrev pub none_like : History ℕ → Call ℕ → ℕ → ℕ → Bool
none_like h c i k = list_all (λ j. not (like c (slice_get h.entries j))) (range_with_len (suc i) (k - suc i))

-- A node holds a version without a stamp; a version with one.
abbrev pub is_unstamped : Option (Version ℕ) → Bool
is_unstamped None = false
is_unstamped (Some v) = not (is_some v.stamp)

abbrev pub is_stamped : Option (Version ℕ) → Bool
is_stamped None = false
is_stamped (Some v) = is_some v.stamp

unstamped_from : (o : Option (Version ℕ)) → is_unstamped o ≡ true → Unstamped o
unstamped_from x h = grind arith

stamped_from : (o : Option (Version ℕ)) → is_stamped o ≡ true → HasStamp o
stamped_from x h = grind arith

module _ (h : History ℕ) where
  was_like : (c d : Call ℕ) (a : Answer ℕ) (j : ℕ) → kind c ≡ kind d → caller c ≡ caller d → Was h j d a → like c (slice_get h.entries j) ≡ true
  was_like c d a j k w e = grind arith

  -- The latest place of something that only a call like c does.
  latest : (P : ℕ → Type 0) (c : Call ℕ) → ((j : ℕ) → P j → like c (slice_get h.entries j) ≡ true) → (i k : ℕ) → i < k → P i → none_like h c i k ≡ true → Latest P i k
  latest P c shows i k before here none = (
    before,
    here,
    λ j from to p.
        false≢true (sym (not-true (like c (slice_get h.entries j)) (everywhere (λ m. not (like c (slice_get h.entries m))) (suc i) (k - suc i) none j from (omega arith))) ∙ shows j p),
  )

  pub opened : (w i k : ℕ) → i < k → Opens h w i → none_like h (Advance w) i k ≡ true → Latest (Opens h w) i k
  opened w = latest (Opens h w) (Advance w) (λ j p. was_like (Advance w) (Advance w) (number p.0) j refl refl p.1)

  pub read_begun : (w i k : ℕ) → i < k → ReadBegun h w i → none_like h (ReadBegin w 0) i k ≡ true → Latest (ReadBegun h w) i k
  read_begun w = latest (ReadBegun h w) (ReadBegin w 0) (λ j p. was_like (ReadBegin w 0) (ReadBegin w p.0) granted j refl refl p.1)

  pub write_begun : (w i k : ℕ) → i < k → WriteBegun h w i → none_like h (WriteBegin w 0) i k ≡ true → Latest (WriteBegun h w) i k
  write_begun w = latest (WriteBegun h w) (WriteBegin w 0) (λ j p. was_like (WriteBegin w 0) (WriteBegin w p.0) granted j refl refl p.1)

  -- Worker w opened a session at place i, began a read of cell x at b, and was answered v at k.
  pub reads_by : (w c x i b k v : ℕ)
      → Was h i (Advance w) (number c) → Was h b (ReadBegin w x) granted → Was h k (ReadStep w) (value v)
      → T (ltb i b) → T (ltb b k) → none_like h (Advance w) i b ≡ true → none_like h (ReadBegin w 0) b k ≡ true → Reads h i x v
  reads_by w c x i b k v opens begins answers o y one two = grind (arith, opened, read_begun)

  -- Worker w began a write at place i, and its look was answered v at k.
  pub looks_by : (w x i k v : ℕ)
      → Was h i (WriteBegin w x) granted → Was h k (WriteLook w) (value v) → T (ltb i k) → none_like h (WriteBegin w 0) i k ≡ true → Looks h i v
  looks_by w x i k v begins answers o one = grind (arith, write_begun)

  -- Worker w began a write of cell x at place i and linked v at l; the step at place g gave it its stamp.
  pub stamped_by : (w told x i l g v : ℕ)
      → Was h i (WriteBegin w x) granted → Was h l (WriteOffer w v told) granted → T (ltb i l) → T (ltb l g) → none_like h (WriteBegin w 0) i l ≡ true
      → list_all (λ m. is_unstamped (version (node (h.at m) (head (h.at (suc l)) x)))) (range_with_len (suc l) (g - l)) ≡ true
      → is_stamped (version (node (h.at (suc g)) (head (h.at (suc l)) x))) ≡ true
      → Stamped h i x v
  stamped_by w told x i l g v begins links i<l l<g one waits gets =
      let before : l < g = lit< l<g in
      record {
        by = w;
        told = told;
        linked_at = l;
        given_at = g;
        own = head (h.at (suc l)) x;
        begins = begins;
        of_write = write_begun w i l (lit< i<l) (x, begins) one;
        links = links;
        is_head = refl;
        later = before;
        waits = λ m from to.
            unstamped_from (version (node (h.at m) (head (h.at (suc l)) x)))
            (everywhere (λ k. is_unstamped (version (node (h.at k) (head (h.at (suc l)) x)))) (suc l) (g - l) waits m from (omega arith));
        gets = stamped_from (version (node (h.at (suc g)) (head (h.at (suc l)) x))) gets;
      }
