-- Every step is one of these transitions, with all that is known where it is made. This is the only case analysis of
-- the step definitions: what is proved of steps is proved of each transition.
use Rattle.std.proofs.Common.{◌≡◌, ℕ, suc, ◌+◌, ◌<◌, ◌≤◌, Bool, true, false, eqb, ltb, leb, List, [], length, Some, None, Option, sym, refl, ap, subst, arith}
use Rattle.std.proofs.lemmas.List.{get_or_past}
use Rattle.std.proofs.lemmas.Bool.{ltb-true, ltb-false, eqb-true, eqb-false, cond_both}
use Rattle.values.specs.declared.Refusal.{Refusal}
use Rattle.values.specs.declared.Refusal.TheVariants.{OperationStage}
use Rattle.model.specs.Answers.{Answer, Outcome, refuse, refused, again, overtaken, granted, impossible, number, value, done}
use Rattle.model.specs.Calls.{Call, step, Note, Publish, Advance, Close, ReadBegin, ReadStep, WriteBegin, WriteLook, WriteOffer, WriteStamp, Abandon, CompactBegin, CompactStep}
use Rattle.model.specs.Changes.{with_session, with_operation, with_reading, with_clock, ended, stamp_given, taken_out, linked_above, node_to_take}
use Rattle.model.specs.Checks.{known, in_cells, when_idle, stamping_by, stamping_of, stamping}
use Rattle.model.specs.Compactions.{scanned, interval, compact_begin_at, scan_slot, keep_or_drop, ask_about, ask_below, walk_on, compact_step_at}
use Rattle.model.specs.Judging.{Judge}
use Rattle.model.specs.Reads.{read_begin_at, read_older, read_version, read_in, read_step_at}
use Rattle.model.specs.Sessions.{note_at, publish_at, advance_from, advance_at, close_at}
use Rattle.model.specs.State.{last_stamp, Version, Session, Operation, State, fresh, node, worker, head, version, slot, busy, is_reading, compacts, any, none, noted, published, opened, idle, reading, write_begun, write_looked, write_linked, scanning, walking}
use Rattle.model.specs.Writes.{write_look_at, offer_into, offer_on, write_offer_at, write_stamp_at, abandon_at}
use Rattle.laws.proofs.SpareNodes.{Spare, node_to_take_spare}

-- The node that a call of w works at, by what w does.
pub data WorksAt {V : Type 0} (w n : ℕ) : Operation → Call V → Type 0 where
  by_read : {x : ℕ} → WorksAt w n (reading x n) (ReadStep w)
  by_look : {x : ℕ} → WorksAt w n (write_begun x n) (WriteLook w)
  by_stamp : {x : ℕ} → WorksAt w n (write_linked x n) (WriteStamp w)
  by_compact : {x t r : ℕ} {q : List ℕ} {J : Judge} → WorksAt w n (walking x t q n r) (CompactStep w J)

-- Node n holds the version v, stamped t.
pub record StampedAt {V : Type 0} (s : State V) (n : ℕ) (v : Version V) (t : ℕ) : Type 0 where
  pub here : version (node s n) ≡ Some v
  pub has : v.stamp ≡ Some t

abbrev pub is_compacting : Operation → Bool
is_compacting idle = false
is_compacting (reading x p) = false
is_compacting (write_begun x b) = false
is_compacting (write_looked x b) = false
is_compacting (write_linked x o) = false
is_compacting (scanning x t i q) = true
is_compacting (walking x t q p r) = true

-- The call is a step of a read or of a compaction that is under way.
abbrev pub in_course : {V : Type 0} → State V → Call V → Bool
in_course s (Note w) = false
in_course s (Publish w) = false
in_course s (Advance w) = false
in_course s (Close w) = false
in_course s (ReadBegin w x) = false
in_course s (ReadStep w) = is_reading (worker s w).operation
in_course s (WriteBegin w x) = false
in_course s (WriteLook w) = false
in_course s (WriteOffer w v n) = false
in_course s (WriteStamp w) = false
in_course s (Abandon w) = false
in_course s (CompactBegin w x) = false
in_course s (CompactStep w J) = is_compacting (worker s w).operation

-- The situations of which the definitions say that no run comes to them.
pub data Lost {V : Type 0} (s : State V) : Type 0 where
  no_version : {w n : ℕ} {c : Call V} → w < length s.workers → WorksAt w n (worker s w).operation c → version (node s n) ≡ None → Lost s
  no_session : {w x p : ℕ} → w < length s.workers → (worker s w).operation ≡ reading x p → ((c : ℕ) → (worker s w).session ≡ opened c → ⊥) → Lost s
  no_older :
      {w x p c t : ℕ} {v : Version V} → w < length s.workers → (worker s w).operation ≡ reading x p → (worker s w).session ≡ opened c
      → StampedAt s p v t → leb t c ≡ false → v.older ≡ None → Lost s
  none_below :
      {w x t p r n e : ℕ} {q : List ℕ} {v : Version V} → w < length s.workers → (worker s w).operation ≡ walking x t q p r
      → StampedAt s p v e → v.older ≡ Some n → version (node s n) ≡ None → Lost s
  bare_below :
      {w x t p r n e : ℕ} {q : List ℕ} {v u : Version V} → w < length s.workers → (worker s w).operation ≡ walking x t q p r
      → StampedAt s p v e → v.older ≡ Some n → version (node s n) ≡ Some u → u.stamp ≡ None → Lost s

pub data Transition {V : Type 0} (s : State V) : Call V → Answer V → State V → Type 0 where
  -- a refusal: never of a read or a compaction that is under way
  refuses : {c : Call V} {r : Refusal} → in_course s c ≡ false → Transition s c (refused r) s
  loses : {c : Call V} → Lost s → Transition s c impossible s
  -- sessions
  notes :
      {w : ℕ} → w < length s.workers → (worker s w).session ≡ none → eqb s.clock last_stamp ≡ false
      → Transition s (Note w) (number s.clock) (with_session s w (noted s.clock))
  publishes :
      {w c : ℕ} → w < length s.workers → (worker s w).session ≡ noted c → Transition s (Publish w) granted (with_session s w (published c))
  opens :
      {w c : ℕ} → w < length s.workers → (worker s w).session ≡ published c → s.clock ≡ c
      → Transition s (Advance w) (number c) (with_clock (with_session s w (opened c)) (c + 1))
  starts_again :
      {w c : ℕ} → w < length s.workers → (worker s w).session ≡ published c → (s.clock ≡ c → ⊥)
      → Transition s (Advance w) again (with_session s w none)
  closes :
      {w : ℕ} → w < length s.workers → ((worker s w).session ≡ none → ⊥) → is_reading (worker s w).operation ≡ false
      → Transition s (Close w) granted (with_session s w none)
  -- begins
  read_begins :
      {w x c : ℕ} → w < length s.workers → x < length s.heads → busy (worker s w).operation ≡ false → (worker s w).session ≡ opened c
      → Transition s (ReadBegin w x) granted (with_operation s w (reading x (head s x)))
  write_begins :
      {w x : ℕ} → w < length s.workers → x < length s.heads → busy (worker s w).operation ≡ false
      → Transition s (WriteBegin w x) granted (with_operation s w (write_begun x (head s x)))
  compaction_begins :
      {w x : ℕ} → w < length s.workers → x < length s.heads → busy (worker s w).operation ≡ false
      → any (λ k. compacts x k.operation) s.workers ≡ false
      → Transition s (CompactBegin w x) granted (with_operation s w (scanning x s.clock 0 []))
  -- the stamping rule
  takes_reading :
      {w n : ℕ} {c : Call V} {v : Version V} → w < length s.workers → WorksAt w n (worker s w).operation c
      → version (node s n) ≡ Some v → v.stamp ≡ None → (worker s w).clock_reading ≡ None
      → Transition s c again (with_reading s w s.clock)
  gives_stamp :
      {w n t : ℕ} {c : Call V} {v : Version V} → w < length s.workers → WorksAt w n (worker s w).operation c
      → version (node s n) ≡ Some v → v.stamp ≡ None → (worker s w).clock_reading ≡ Some t
      → Transition s c again (stamp_given s w n t)
  -- reads
  reads :
      {w x p c t : ℕ} {v : Version V} → w < length s.workers → (worker s w).operation ≡ reading x p → (worker s w).session ≡ opened c
      → StampedAt s p v t → leb t c ≡ true
      → Transition s (ReadStep w) (value v.value) (ended s w)
  reads_on :
      {w x p c t q : ℕ} {v : Version V} → w < length s.workers → (worker s w).operation ≡ reading x p → (worker s w).session ≡ opened c
      → StampedAt s p v t → leb t c ≡ false → v.older ≡ Some q
      → Transition s (ReadStep w) again (with_operation s w (reading x q))
  -- writes
  looks :
      {w x b t : ℕ} {v : Version V} → w < length s.workers → (worker s w).operation ≡ write_begun x b → StampedAt s b v t
      → Transition s (WriteLook w) (value v.value) (with_operation s w (write_looked x b))
  links :
      {w x b n m : ℕ} {a : V} → w < length s.workers → (worker s w).operation ≡ write_looked x b → head s x ≡ b → Spare s n
      → Transition s (WriteOffer w a m) granted (with_operation (linked_above s x n b a) w (write_linked x n))
  overtakes :
      {w x b m : ℕ} {a : V} → w < length s.workers → (worker s w).operation ≡ write_looked x b → (head s x ≡ b → ⊥)
      → Transition s (WriteOffer w a m) overtaken (ended s w)
  stamps :
      {w x o t : ℕ} {v : Version V} → w < length s.workers → (worker s w).operation ≡ write_linked x o → StampedAt s o v t
      → Transition s (WriteStamp w) (number t) (ended s w)
  abandons :
      {w : ℕ} → w < length s.workers → busy (worker s w).operation ≡ true → Transition s (Abandon w) granted (ended s w)
  -- compactions
  scans :
      {w x t i : ℕ} {q : List ℕ} {J : Judge} → w < length s.workers → (worker s w).operation ≡ scanning x t i q → i < length s.workers
      → Transition s (CompactStep w J) again (with_operation s w (scanning x t (suc i) (scanned (slot (worker s i).session) q)))
  takes_head :
      {w x t i : ℕ} {q : List ℕ} {J : Judge} → w < length s.workers → (worker s w).operation ≡ scanning x t i q → length s.workers ≤ i
      → Transition s (CompactStep w J) again (with_operation s w (walking x t q (head s x) 0))
  keeps :
      {w x t p r n a e : ℕ} {q : List ℕ} {J : Judge} {v u : Version V} → w < length s.workers → (worker s w).operation ≡ walking x t q p r
      → StampedAt s p v e → v.older ≡ Some n → StampedAt s n u a → J.drops t q (interval a e) ≡ false
      → Transition s (CompactStep w J) again (with_operation s w (walking x t q n r))
  takes_out :
      {w x t p r n a e : ℕ} {q : List ℕ} {J : Judge} {v u : Version V} → w < length s.workers → (worker s w).operation ≡ walking x t q p r
      → StampedAt s p v e → v.older ≡ Some n → StampedAt s n u a → J.drops t q (interval a e) ≡ true
      → Transition s (CompactStep w J) again (with_operation (taken_out s p n u) w (walking x t q p (suc r)))
  finishes :
      {w x t p r e : ℕ} {q : List ℕ} {J : Judge} {v : Version V} → w < length s.workers → (worker s w).operation ≡ walking x t q p r
      → StampedAt s p v e → v.older ≡ None
      → Transition s (CompactStep w J) (done t (length q) r) (ended s w)

-- A transition of that call with that outcome.
abbrev pub Makes : {V : Type 0} → State V → Call V → Outcome V → Type 0
Makes s c r = Transition s c r.0 r.1

module _ {V : Type 0} (s : State V) where
  -- past the last worker nothing is under way
  past_idle : (w : ℕ) → length s.workers ≤ w → (worker s w).operation ≡ idle
  past_idle w l = ap (λ k. k.operation) (get_or_past s.workers w fresh l)

  known_makes : (c : Call V) (w : ℕ) (k : Outcome V) → ((worker s w).operation ≡ idle → in_course s c ≡ false) → (w < length s.workers → Makes s c k) → Makes s c (known s w k)
  known_makes c w k n f = grind (arith, cond_both, ltb-true, refuses, past_idle, ltb-false)

  in_cells_makes : (c : Call V) (x : ℕ) (k : Outcome V) → in_course s c ≡ false → (x < length s.heads → Makes s c k) → Makes s c (in_cells s x k)
  in_cells_makes c x k n f = grind (arith, cond_both, ltb-true, refuses)

  when_idle_makes : (c : Call V) (w : ℕ) (k : Outcome V) → in_course s c ≡ false → (busy (worker s w).operation ≡ false → Makes s c k) → Makes s c (when_idle s w k)
  when_idle_makes c w k n f = cond_both (busy (worker s w).operation) (refuse s OperationStage) k (Makes s c) (λ e. refuses n) f

  module _ (w : ℕ) (i : w < length s.workers) where
    stamping_by_makes :
        (c : Call V) (n : ℕ) (v : Version V) (o h : Option ℕ) (k : ℕ → Outcome V) → WorksAt w n (worker s w).operation c → version (node s n) ≡ Some v
        → v.stamp ≡ o → (worker s w).clock_reading ≡ h → ((t : ℕ) → v.stamp ≡ Some t → Makes s c (k t)) → Makes s c (stamping_by s w n o h k)
    stamping_by_makes c n v None None k pt at st he f = takes_reading i pt at st he
    stamping_by_makes c n v None (Some t) k pt at st he f = gives_stamp i pt at st he
    stamping_by_makes c n v (Some t) h k pt at st he f = f t st

    stamping_of_makes :
        (c : Call V) (n : ℕ) (o : Option (Version V)) (k : Version V → ℕ → Outcome V) → WorksAt w n (worker s w).operation c → version (node s n) ≡ o
        → ((v : Version V) (t : ℕ) → StampedAt s n v t → Makes s c (k v t)) → Makes s c (stamping_of s w n o k)
    stamping_of_makes c n None k pt at f = loses (no_version i pt at)
    stamping_of_makes c n (Some v) k pt at f =
        stamping_by_makes c n v v.stamp (worker s w).clock_reading (k v) pt at refl refl (λ t st. f v t (record { here = at; has = st }))

    stamping_makes :
        (c : Call V) (n : ℕ) (k : Version V → ℕ → Outcome V) → WorksAt w n (worker s w).operation c
        → ((v : Version V) (t : ℕ) → StampedAt s n v t → Makes s c (k v t)) → Makes s c (stamping s w n k)
    stamping_makes c n k pt f = stamping_of_makes c n (version (node s n)) k pt refl f

    note_makes : (q : Session) (b : Bool) → (worker s w).session ≡ q → eqb s.clock last_stamp ≡ b → Makes s (Note w) (note_at s w q b)
    note_makes none true e f = refuses refl
    note_makes none false e f = notes i e f
    note_makes (noted c) b e f = refuses refl
    note_makes (published c) b e f = refuses refl
    note_makes (opened c) b e f = refuses refl

    publish_makes : (q : Session) → (worker s w).session ≡ q → Makes s (Publish w) (publish_at s w q)
    publish_makes none e = refuses refl
    publish_makes (noted c) e = publishes i e
    publish_makes (published c) e = refuses refl
    publish_makes (opened c) e = refuses refl

    advance_from_makes : (c : ℕ) (b : Bool) → (worker s w).session ≡ published c → eqb s.clock c ≡ b → Makes s (Advance w) (advance_from s w c b)
    advance_from_makes c true e f = opens i e (eqb-true s.clock c f)
    advance_from_makes c false e f = starts_again i e (eqb-false s.clock c f)

    advance_makes : (q : Session) → (worker s w).session ≡ q → Makes s (Advance w) (advance_at s w q)
    advance_makes x e = grind (arith, refuses, advance_from_makes)

    close_makes : (q : Session) (b : Bool) → (worker s w).session ≡ q → is_reading (worker s w).operation ≡ b → Makes s (Close w) (close_at s w q b)
    close_makes none b e f = refuses refl
    close_makes (noted c) true e f = refuses refl
    close_makes (noted c) false e f = closes i (λ g. grind arith) f
    close_makes (published c) true e f = refuses refl
    close_makes (published c) false e f = closes i (λ g. grind arith) f
    close_makes (opened c) true e f = refuses refl
    close_makes (opened c) false e f = closes i (λ g. grind arith) f

    read_begin_makes :
        (x : ℕ) → x < length s.heads → busy (worker s w).operation ≡ false → (q : Session) → (worker s w).session ≡ q
        → Makes s (ReadBegin w x) (read_begin_at s w x q)
    read_begin_makes x l b none e = refuses refl
    read_begin_makes x l b (noted c) e = refuses refl
    read_begin_makes x l b (published c) e = refuses refl
    read_begin_makes x l b (opened c) e = read_begins i l b e

    compact_begin_makes :
        (x : ℕ) → x < length s.heads → busy (worker s w).operation ≡ false → (b : Bool) → any (λ k. compacts x k.operation) s.workers ≡ b
        → Makes s (CompactBegin w x) (compact_begin_at s w x b)
    compact_begin_makes x l b true e = refuses refl
    compact_begin_makes x l b false e = compaction_begins i l b e

    read_older_makes :
        (x p c t : ℕ) (v : Version V) → (worker s w).operation ≡ reading x p → (worker s w).session ≡ opened c → StampedAt s p v t → leb t c ≡ false
        → (o : Option ℕ) → v.older ≡ o → Makes s (ReadStep w) (read_older s w x o)
    read_older_makes x p c t v e f st l None g = loses (no_older i e f st l g)
    read_older_makes x p c t v e f st l (Some q) g = reads_on i e f st l g

    read_version_makes :
        (x p c t : ℕ) (v : Version V) → (worker s w).operation ≡ reading x p → (worker s w).session ≡ opened c → StampedAt s p v t
        → (b : Bool) → leb t c ≡ b → Makes s (ReadStep w) (read_version s w x v b)
    read_version_makes x p c t v e f st true l = reads i e f st l
    read_version_makes x p c t v e f st false l = read_older_makes x p c t v e f st l v.older refl

    read_in_makes : (x p : ℕ) → (worker s w).operation ≡ reading x p → (q : Session) → (worker s w).session ≡ q → Makes s (ReadStep w) (read_in s w x p q)
    read_in_makes x p e none f = loses (no_session i e (λ c g. grind arith))
    read_in_makes x p e (noted d) f = loses (no_session i e (λ c g. grind arith))
    read_in_makes x p e (published d) f = loses (no_session i e (λ c g. grind arith))
    read_in_makes x p e (opened c) f =
        stamping_makes (ReadStep w) p (λ v t. read_version s w x v (leb t c)) (subst (λ o. WorksAt {V = V} w p o (ReadStep w)) (sym e) by_read)
        (λ v t st. read_version_makes x p c t v e f st (leb t c) refl)

    read_step_makes : (o : Operation) → (worker s w).operation ≡ o → Makes s (ReadStep w) (read_step_at s w o)
    read_step_makes x e = grind (arith, refuses, read_in_makes)

    look_makes : (o : Operation) → (worker s w).operation ≡ o → Makes s (WriteLook w) (write_look_at s w o)
    look_makes idle e = refuses refl
    look_makes (reading x p) e = refuses refl
    look_makes (write_begun x b) e =
        stamping_makes (WriteLook w) b (λ v t. (value v.value, with_operation s w (write_looked x b)))
        (subst (λ o. WorksAt {V = V} w b o (WriteLook w)) (sym e) by_look) (λ v t st. looks i e st)
    look_makes (write_looked x b) e = refuses refl
    look_makes (write_linked x n) e = refuses refl
    look_makes (scanning x t j q) e = refuses refl
    look_makes (walking x t q p r) e = refuses refl

    offer_into_makes :
        (x b m : ℕ) (a : V) → (worker s w).operation ≡ write_looked x b → head s x ≡ b → (o : Option ℕ) → node_to_take s m ≡ o
        → Makes s (WriteOffer w a m) (offer_into s w x b a o)
    offer_into_makes x b m a e h None f = refuses refl
    offer_into_makes x b m a e h (Some n) f = links i e h (node_to_take_spare s m n f)

    offer_on_makes :
        (x b m : ℕ) (a : V) → (worker s w).operation ≡ write_looked x b → (c : Bool) → eqb (head s x) b ≡ c
        → Makes s (WriteOffer w a m) (offer_on s w x b a m c)
    offer_on_makes x b m a e true f = offer_into_makes x b m a e (eqb-true (head s x) b f) (node_to_take s m) refl
    offer_on_makes x b m a e false f = overtakes i e (eqb-false (head s x) b f)

    offer_makes : (a : V) (m : ℕ) (o : Operation) → (worker s w).operation ≡ o → Makes s (WriteOffer w a m) (write_offer_at s w a m o)
    offer_makes a m x e = grind (arith, refuses, offer_on_makes)

    stamp_makes : (o : Operation) → (worker s w).operation ≡ o → Makes s (WriteStamp w) (write_stamp_at s w o)
    stamp_makes idle e = refuses refl
    stamp_makes (reading x p) e = refuses refl
    stamp_makes (write_begun x b) e = refuses refl
    stamp_makes (write_looked x b) e = refuses refl
    stamp_makes (write_linked x n) e =
        stamping_makes (WriteStamp w) n (λ v t. (number t, ended s w)) (subst (λ o. WorksAt {V = V} w n o (WriteStamp w)) (sym e) by_stamp)
        (λ v t st. stamps i e st)
    stamp_makes (scanning x t j q) e = refuses refl
    stamp_makes (walking x t q p r) e = refuses refl

    abandon_makes : (b : Bool) → busy (worker s w).operation ≡ b → Makes s (Abandon w) (abandon_at s w b)
    abandon_makes true e = abandons i e
    abandon_makes false e = refuses refl

    scan_slot_makes :
        (J : Judge) (x t j : ℕ) (q : List ℕ) → (worker s w).operation ≡ scanning x t j q → (b : Bool) → ltb j (length s.workers) ≡ b
        → Makes s (CompactStep w J) (scan_slot s w x t j q b)
    scan_slot_makes J x t j q e true l = scans i e (ltb-true j (length s.workers) l)
    scan_slot_makes J x t j q e false l = takes_head i e (ltb-false j (length s.workers) l)

    module _ (J : Judge) (x t : ℕ) (q : List ℕ) (p r : ℕ) (walks : (worker s w).operation ≡ walking x t q p r) (v : Version V) (e : ℕ) (st : StampedAt s p v e) where
      keep_or_drop_makes :
          (n : ℕ) (u : Version V) (a : ℕ) → v.older ≡ Some n → StampedAt s n u a → (b : Bool) → J.drops t q (interval a e) ≡ b
          → Makes s (CompactStep w J) (keep_or_drop s w x t q p r n u b)
      keep_or_drop_makes n u a o su true d = takes_out i walks st o su d
      keep_or_drop_makes n u a o su false d = keeps i walks st o su d

      ask_about_makes :
          (n : ℕ) (u : Version V) → v.older ≡ Some n → version (node s n) ≡ Some u → (a : Option ℕ) → u.stamp ≡ a
          → Makes s (CompactStep w J) (ask_about s w J.drops x t q p r e n u a)
      ask_about_makes n u o at None g = loses (bare_below i walks st o at g)
      ask_about_makes n u o at (Some a) g = keep_or_drop_makes n u a o (record { here = at; has = g }) (J.drops t q (interval a e)) refl

      ask_below_makes :
          (n : ℕ) → v.older ≡ Some n → (u : Option (Version V)) → version (node s n) ≡ u
          → Makes s (CompactStep w J) (ask_below s w J.drops x t q p r e n u)
      ask_below_makes n o None g = loses (none_below i walks st o g)
      ask_below_makes n o (Some u) g = ask_about_makes n u o g u.stamp refl

      walk_on_makes : (o : Option ℕ) → v.older ≡ o → Makes s (CompactStep w J) (walk_on s w J.drops x t q p r e o)
      walk_on_makes None g = finishes i walks st g
      walk_on_makes (Some n) g = ask_below_makes n g (version (node s n)) refl

    compact_step_makes : (J : Judge) (o : Operation) → (worker s w).operation ≡ o → Makes s (CompactStep w J) (compact_step_at s w J.drops o)
    compact_step_makes J idle e = refuses (ap is_compacting e)
    compact_step_makes J (reading x p) e = refuses (ap is_compacting e)
    compact_step_makes J (write_begun x b) e = refuses (ap is_compacting e)
    compact_step_makes J (write_looked x b) e = refuses (ap is_compacting e)
    compact_step_makes J (write_linked x n) e = refuses (ap is_compacting e)
    compact_step_makes J (scanning x t j q) e = scan_slot_makes J x t j q e (ltb j (length s.workers)) refl
    compact_step_makes J (walking x t q p r) e =
        stamping_makes (CompactStep w J) p (λ v f. walk_on s w J.drops x t q p r f v.older)
        (subst (λ o. WorksAt {V = V} w p o (CompactStep w J)) (sym e) by_compact) (λ v f st. walk_on_makes J x t q p r e v f st v.older refl)

  pub transition : (c : Call V) → Makes s c (step s c)
  unfolding step
  transition (Note w) = known_makes (Note w) w _ (λ e. refl) (λ i. note_makes w i (worker s w).session (eqb s.clock last_stamp) refl refl)
  transition (Publish w) = known_makes (Publish w) w _ (λ e. refl) (λ i. publish_makes w i (worker s w).session refl)
  transition (Advance w) = known_makes (Advance w) w _ (λ e. refl) (λ i. advance_makes w i (worker s w).session refl)
  transition (Close w) = known_makes (Close w) w _ (λ e. refl) (λ i. close_makes w i (worker s w).session (is_reading (worker s w).operation) refl refl)
  transition (ReadBegin w x) =
      known_makes (ReadBegin w x) w _ (λ e. refl)
      (λ i. in_cells_makes (ReadBegin w x) x _ refl
      (λ l. when_idle_makes (ReadBegin w x) w _ refl (λ b. read_begin_makes w i x l b (worker s w).session refl)))
  transition (ReadStep w) = known_makes (ReadStep w) w _ (ap is_reading) (λ i. read_step_makes w i (worker s w).operation refl)
  transition (WriteBegin w x) =
      known_makes (WriteBegin w x) w _ (λ e. refl)
      (λ i. in_cells_makes (WriteBegin w x) x _ refl (λ l. when_idle_makes (WriteBegin w x) w _ refl (λ b. write_begins i l b)))
  transition (WriteLook w) = known_makes (WriteLook w) w _ (λ e. refl) (λ i. look_makes w i (worker s w).operation refl)
  transition (WriteOffer w a m) = known_makes (WriteOffer w a m) w _ (λ e. refl) (λ i. offer_makes w i a m (worker s w).operation refl)
  transition (WriteStamp w) = known_makes (WriteStamp w) w _ (λ e. refl) (λ i. stamp_makes w i (worker s w).operation refl)
  transition (Abandon w) = known_makes (Abandon w) w _ (λ e. refl) (λ i. abandon_makes w i (busy (worker s w).operation) refl)
  transition (CompactBegin w x) =
      known_makes (CompactBegin w x) w _ (λ e. refl)
      (λ i. in_cells_makes (CompactBegin w x) x _ refl
      (λ l. when_idle_makes (CompactBegin w x) w _ refl (λ b. compact_begin_makes w i x l b (any (λ k. compacts x k.operation) s.workers) refl)))
  transition (CompactStep w J) = known_makes (CompactStep w J) w _ (ap is_compacting) (λ i. compact_step_makes w i J (worker s w).operation refl)
