-- What a step makes of the worker who makes it, by what the log tells of the call.
use Rattle.std.proofs.Common.{◌≡◌, ℕ, ◌<◌, true, false, leb, List, length, get_or, set, Some, None, Option, sym, refl, ap, ◌∙◌, subst, ⊎_elim, arith}
use Rattle.std.proofs.lemmas.Grind.{get_or-set_at}
use Rattle.std.proofs.lemmas.List.{get_or-set_same}
use Rattle.model.specs.Answers.{Answer, again}
use Rattle.model.specs.Calls.{Call, ReadBegin}
use Rattle.model.specs.Changes.{stamped, on_version, ended}
use Rattle.model.specs.State.{Version, Node, Session, Operation, Worker, State, fresh, node, worker, head, version, is_reading, free, linked, opened, idle, reading, write_begun, write_looked, write_linked}
use Rattle.laws.proofs.CellLists.{KeptFor, version_in_table}
use Rattle.laws.proofs.Effects.{Kind, plain, kind_of, kind_silent, begins_write, begins_read, opens_at, stamps_at, looks_at, offers, answers, writes, value_or, Chronicle, Reading, starts, walks, off, Effect, does_nothing, does_record, does_open, does_operation, does_begin, does_look, does_read, does_stamp, does_leave, does_give, does_link}
use Rattle.laws.proofs.Frames.{set_both, updated_same}
use Rattle.laws.proofs.Transitions.{StampedAt}
use Rattle.laws.proofs.Ways.{AwaitsStamp, goes_kind}

-- steps told by the log
pub record LinksNow {V : Type 0} (s : State V) (T : Chronicle V) (s' : State V) (T' : Chronicle V) (w : ℕ) (v : V) : Type 0 where
  pub x : ℕ
  pub b : ℕ
  pub n : ℕ
  pub was_looked : (worker s w).operation ≡ write_looked x b
  pub owns : (worker s' w).operation ≡ write_linked x n
  pub is_top : x < length s.heads → head s' x ≡ n
  pub there : AwaitsStamp s' n v
  pub place_is : T'.place n ≡ T.since w
  pub cell_is : T'.seen.cell n ≡ x

pub record ReadsNow {V : Type 0} (s : State V) (T : Chronicle V) (s' : State V) (T' : Chronicle V) (w : ℕ) (v : V) : Type 0 where
  pub x : ℕ
  pub p : ℕ
  pub d : ℕ
  pub t : ℕ
  pub ver : Version V
  pub in_table : w < length s.workers
  pub was_reading : (worker s w).operation ≡ reading x p
  pub in_session : (worker s w).session ≡ opened d
  pub stands : StampedAt s p ver t
  pub under : leb t d ≡ true
  pub answered : ver.value ≡ v
  pub then : s' ≡ ended s w
  pub same_chronicle : T' ≡ T

pub record LooksNow {V : Type 0} (s s' : State V) (w : ℕ) (v : V) : Type 0 where
  pub x : ℕ
  pub b : ℕ
  pub t : ℕ
  pub ver : Version V
  pub was_begun : (worker s w).operation ≡ write_begun x b
  pub stands : StampedAt s b ver t
  pub answered : ver.value ≡ v
  pub same_nodes : s'.nodes ≡ s.nodes

pub record StampsNow {V : Type 0} (s : State V) (w t : ℕ) : Type 0 where
  pub x : ℕ
  pub n : ℕ
  pub ver : Version V
  pub is_owning : (worker s w).operation ≡ write_linked x n
  pub stands : StampedAt s n ver t

-- by what the log tells of the step
abbrev pub Now : {V : Type 0} → State V → Chronicle V → State V → Chronicle V → Kind V → Type 0
Now s T s' T' plain = Unit {0}
Now s T s' T' (begins_write w x) = Unit {0}
Now s T s' T' (begins_read w x) = Unit {0}
Now s T s' T' (opens_at w d) = Unit {0}
Now s T s' T' (stamps_at w t) = StampsNow s w t
Now s T s' T' (looks_at w v) = LooksNow s s' w v
Now s T s' T' (offers w v) = LinksNow s T s' T' w v
Now s T s' T' (answers w v) = ReadsNow s T s' T' w v

module _ {V : Type 0} {k : ℕ} {s : State V} {T : Chronicle V} where
  pub now : {c : Call V} {a : Answer V} {s' : State V} {T' : Chronicle V} → Effect k s T c a s' T' → Now s T s' T' (kind_of c a)
  now (does_nothing p) = subst (Now s T s T) (sym p) tt
  now (does_record l p o h q r) = subst (Now s T _ T) (sym p) tt
  now (does_open l f g) = tt
  now (does_operation l o r) = ⊎_elim (λ p. subst (Now s T _ T) (sym p) tt) (λ p. subst (Now s T _ T) (sym p.1) tt) (goes_kind r)
  now (does_begin l) = tt
  now (does_look {x = x} {b = b} {t = t} {v = ver} l f st) =
      record { x = x; b = b; t = t; ver = ver; was_begun = f; stands = st; answered = refl; same_nodes = refl }
  now (does_read {x = x} {p = p} {c = d} {t = t} {v = ver} l f g st h M) =
      record {
        x = x;
        p = p;
        d = d;
        t = t;
        ver = ver;
        in_table = l;
        was_reading = f;
        in_session = g;
        stands = st;
        under = h;
        answered = refl;
        then = refl;
        same_chronicle = refl;
      }
  now (does_stamp {x = x} {n = n} {v = ver} l f st M) = record { x = x; n = n; ver = ver; is_owning = f; stands = st }
  now (does_leave u o N l p q r M) = subst (Now s T _ T) (sym p) tt
  now (does_give {c = c} l r h st he) = subst (Now s T _ _) (sym (kind_silent c again refl)) tt
  now (does_link {u = u} {x = x} {b = b} {n = n} {a = a} l f h g) =
      record {
        x = x;
        b = b;
        n = n;
        was_looked = f;
        owns = ap (λ r. r.operation) (get_or-set_same s.workers u (record { session = (worker s u).session; operation = write_linked x n; clock_reading = None }) fresh l);
        is_top = get_or-set_same s.heads x n 0;
        there =
            record {
              ver = record { value = a; stamp = None; older = Some b };
              here = ap version (get_or-set_same s.nodes n (linked (record { value = a; stamp = None; older = Some b })) free g.0);
              bare = refl;
              holds = refl;
            };
        place_is = updated_same T.place n (T.since u) n refl;
        cell_is = updated_same T.seen.cell n x n refl;
      }

  -- told by the log to be of a kind
  pub now_as : {c : Call V} {a : Answer V} {s' : State V} {T' : Chronicle V} {K : Kind V} → Effect k s T c a s' T' → kind_of c a ≡ K → Now s T s' T' K
  now_as {s' = s'} {T' = T'} t e = subst (Now s T s' T') e (now t)

not_writing : (W : List Worker) (u w : ℕ) (r : Worker) → u < length W → writes r.operation ≡ None → (x : ℕ) → writes (get_or (set W u r) w fresh).operation ≡ Some x → w ≡ u → ⊥
not_writing o u w r l e x h p = grind (arith, get_or-set_at)

value_given : {V : Type 0} (t : ℕ) (d : V) (x : Node V) → value_or d (on_version (λ v. stamped v t) x) ≡ value_or d x
value_given t d x = grind arith

module _ {V : Type 0} {k : ℕ} {s : State V} {T : Chronicle V} where
  -- what a writing worker keeps has its value
  pub worth_on : {c : Call V} {a : Answer V} {s' : State V} {T' : Chronicle V} → Effect k s T c a s' T' → (w x : ℕ) → writes (worker s' w).operation ≡ Some x → (n : ℕ) → KeptFor w (node s n)
      → (d : V) → value_or d (node s' n) ≡ value_or d (node s n)
  worth_on (does_nothing p) w x e n h d = refl
  worth_on (does_record l p o y q r) w x e n h d = refl
  worth_on (does_open l f g) w x e n h d = refl
  worth_on (does_operation l o r) w x e n h d = refl
  worth_on (does_begin l) w x e n h d = refl
  worth_on (does_look l f st) w x e n h d = refl
  worth_on (does_read {u = u} l f g st y M) w x e n h d =
      (M n).worth w (not_writing s.workers u w (record { session = (worker s u).session; operation = idle; clock_reading = None }) l refl x e) h d
  worth_on (does_stamp {u = u} l f st M) w x e n h d =
      (M n).worth w (not_writing s.workers u w (record { session = (worker s u).session; operation = idle; clock_reading = None }) l refl x e) h d
  worth_on (does_leave u o N l p q r M) w x e n h d =
      (M n).worth w (not_writing s.workers u w (record { session = (worker s u).session; operation = o; clock_reading = None }) l q x e) h d
  worth_on (does_give {n = j} {t = t} {v = v} l r y st he) w x e n h d =
      set_both s.nodes j n (on_version (λ v. stamped v t) (node s j)) free (λ y. value_or d y ≡ value_or d (node s n)) (version_in_table s.nodes j v y)
      (λ p. value_given t d (node s j) ∙ ap (λ i. value_or d (node s i)) (sym p)) (λ ne. refl)
  worth_on (does_link {b = b} {n = j} {a = a} l f y g) w x e n h d =
      let ff = g in
      set_both s.nodes j n (linked (record { value = a; stamp = None; older = Some b })) free (λ y. value_or d y ≡ value_or d (node s n)) ff.0
      (λ p. absurd (⊎_elim (λ z. z) (λ z. z) (subst (KeptFor w) (ap (node s) p ∙ ff.1) h))) (λ ne. refl)

-- what w's session becomes
pub data SessionWay {V : Type 0} (s : State V) (K : Kind V) (w : ℕ) (q : Session) : Type 0 where
  q_less : ((d : ℕ) → q ≡ opened d → (worker s w).session ≡ opened d) → ((d : ℕ) → K ≡ opens_at w d → ⊥) → SessionWay s K w q
  q_open : (d : ℕ) → K ≡ opens_at w d → q ≡ opened d → SessionWay s K w q

-- what w's read becomes
pub data ReadWay {V : Type 0} (s : State V) (K : Kind V) (w : ℕ) (z : Worker) : Type 0 where
  r_same : z.operation ≡ (worker s w).operation → ((d : ℕ) → is_reading (worker s w).operation ≡ true → (worker s w).session ≡ opened d → z.session ≡ opened d)
      → ((y : ℕ) → K ≡ begins_read w y → ⊥) → ReadWay s K w z
  r_walks : (x p q d t : ℕ) (v : Version V) → (worker s w).operation ≡ reading x p → z.operation ≡ reading x q → z.session ≡ (worker s w).session → ((y : ℕ) → K ≡ begins_read w y → ⊥)
      → (worker s w).session ≡ opened d → StampedAt s p v t → leb t d ≡ false → v.older ≡ Some q → ReadWay s K w z
  r_starts : (x p d : ℕ) → K ≡ begins_read w x → z.operation ≡ reading x p → (worker s w).session ≡ opened d → z.session ≡ opened d → p ≡ head s x → x < length s.heads → ReadWay s K w z
  r_off : is_reading z.operation ≡ false → ReadWay s K w z

module _ {V : Type 0} (s : State V) where
  session_set : (u w : ℕ) (r : Worker) (K : Kind V) → u < length s.workers → (w ≡ u → SessionWay s K w r.session) → ((d : ℕ) → K ≡ opens_at w d → w ≡ u)
      → SessionWay s K w (get_or (set s.workers u r) w fresh).session
  session_set u w r K l f g = set_both s.workers u w r fresh (λ z. SessionWay s K w z.session) l f (λ ne. q_less (λ d e. e) (λ d e. ne (g d e)))

  session_keep : (u w : ℕ) (o : Operation) (h : Option ℕ) (K : Kind V) → u < length s.workers → ((d : ℕ) → K ≡ opens_at w d → ⊥)
      → SessionWay s K w (get_or (set s.workers u (record { session = (worker s u).session; operation = o; clock_reading = h })) w fresh).session
  session_keep u w o h K l n =
      session_set u w (record { session = (worker s u).session; operation = o; clock_reading = h }) K l
      (λ p. q_less (λ d e. ap (λ y. (worker s y).session) p ∙ e) n) (λ d e. absurd (n d e))

  read_set : (u w : ℕ) (r : Worker) (K : Kind V) → u < length s.workers → (w ≡ u → ReadWay s K w r) → ((y : ℕ) → K ≡ begins_read w y → w ≡ u)
      → ReadWay s K w (get_or (set s.workers u r) w fresh)
  read_set u w r K l f g = set_both s.workers u w r fresh (λ z. ReadWay s K w z) l f (λ ne. r_same refl (λ d e q. q) (λ y e. ne (g y e)))

module _ {V : Type 0} (k : ℕ) (s : State V) (T : Chronicle V) where
  pub session_way : {c : Call V} {a : Answer V} {s' : State V} {T' : Chronicle V} → Effect k s T c a s' T' → (w : ℕ) → SessionWay s (kind_of c a) w (worker s' w).session
  session_way (does_nothing p) w = q_less (λ d e. e) (λ d e. grind arith)
  session_way {c} {a} (does_record {u = u} {r = r} l p o h q g) w =
      session_set s u w r (kind_of c a) l (λ y. q_less (λ d e. ap (λ z. (worker s z).session) y ∙ g d e) (λ d e. grind arith))
      (λ d e. grind arith)
  session_way (does_open {u = u} {c = d} l f g) w =
      session_set s u w (record { session = opened d; operation = (worker s u).operation; clock_reading = (worker s u).clock_reading }) (opens_at u d) l
      (λ y. q_open d (ap (λ z. opens_at z d) (sym y)) refl) (λ e f. cc)
  session_way {c} {a} (does_operation {u = u} {o = o} l e r) w =
      session_keep s u w o None (kind_of c a) l
      (λ d e. ⊎_elim (λ p. grind arith) (λ p. let q = p.1 in grind arith) (goes_kind r))
  session_way {c} {a} (does_begin {u = u} {x = x} l) w = session_keep s u w (write_begun x (head s x)) None (kind_of c a) l (λ d e. grind arith)
  session_way {c} {a} (does_look {u = u} {x = x} {b = b} l f st) w = session_keep s u w (write_looked x b) None (kind_of c a) l (λ d e. grind arith)
  session_way {c} {a} (does_read {u = u} l f g st h M) w = session_keep s u w idle None (kind_of c a) l (λ d e. grind arith)
  session_way {c} {a} (does_stamp {u = u} l f st M) w = session_keep s u w idle None (kind_of c a) l (λ d e. grind arith)
  session_way {c} {a} (does_leave u o N l p q r M) w = session_keep s u w o None (kind_of c a) l (λ d e. grind arith)
  session_way {c} {a} (does_give {u = u} l r h st he) w =
      session_keep s u w (worker s u).operation None (kind_of c a) l (λ d e. let f = kind_silent c again refl in grind arith)
  session_way {c} {a} (does_link {u = u} {x = x} {n = n} l f h g) w = session_keep s u w (write_linked x n) None (kind_of c a) l (λ d e. grind arith)

  goes_way : (u w : ℕ) (c : Call V) (a : Answer V) (o : Operation) → w ≡ u → Reading s u c a o → ReadWay s (kind_of c a) w (record { session = (worker s u).session; operation = o; clock_reading = None })
  goes_way u w c a o p (starts {x} {p = j} {d} e f g hd lx) =
      r_starts x j d (ap (λ y. kind_of y a) e ∙ ap (kind_of (ReadBegin u x)) f ∙ ap (λ y. begins_read y x) (sym p)) refl (ap (λ y. (worker s y).session) p ∙ g) g hd lx
  goes_way u w c a o p (walks {x} {p = i} {q = j} {d = d} {t = t} {v = v} e f g st l od) =
      r_walks x i j d t v (ap (λ y. (worker s y).operation) p ∙ f) refl (ap (λ y. (worker s y).session) (sym p)) (λ y g. grind arith)
      (ap (λ y. (worker s y).session) p ∙ g) st l od
  goes_way u w c a o p (off e f) = r_off f

  pub read_way : {c : Call V} {a : Answer V} {s' : State V} {T' : Chronicle V} → Effect k s T c a s' T' → (w : ℕ) → ReadWay s (kind_of c a) w (worker s' w)
  read_way (does_nothing p) w = r_same refl (λ d e q. q) (λ d e. grind arith)
  read_way {c} {a} (does_record {u = u} {r = r} l p o h q g) w =
      read_set s u w r (kind_of c a) l
      (λ y. r_same (o ∙ ap (λ z. (worker s z).operation) (sym y)) (λ d e f. q d (ap (λ z. is_reading (worker s z).operation) (sym y) ∙ e) (ap (λ z. (worker s z).session) (sym y) ∙ f))
      (λ d e. grind arith))
      (λ d e. grind arith)
  read_way (does_open {u = u} {c = d} l f g) w =
      read_set s u w (record { session = opened d; operation = (worker s u).operation; clock_reading = (worker s u).clock_reading }) (opens_at u d) l
      (λ y. r_same (ap (λ z. (worker s z).operation) (sym y))
      (λ b e h. absurd (let i = ap (λ z. (worker s z).session) (sym y) ∙ h in grind arith))
      (λ d e. grind arith))
      (λ d e. grind arith)
  read_way {c} {a} (does_operation {u = u} {o = o} l e r) w =
      read_set s u w (record { session = (worker s u).session; operation = o; clock_reading = None }) (kind_of c a) l (λ y. goes_way u w c a o y r)
      (λ d e. ⊎_elim (λ p. grind arith) (λ p. let q = p.1 in cc) (goes_kind r))
  read_way {c} {a} (does_begin {u = u} {x = x} l) w =
      read_set s u w (record { session = (worker s u).session; operation = write_begun x (head s x); clock_reading = None }) (begins_write u x) l (λ y. r_off refl)
      (λ d e. grind arith)
  read_way {c} {a} (does_look {u = u} {x = x} {b = b} {v = v} l f st) w =
      read_set s u w (record { session = (worker s u).session; operation = write_looked x b; clock_reading = None }) (looks_at u v.value) l (λ y. r_off refl)
      (λ d e. grind arith)
  read_way {c} {a} (does_read {u = u} {v = v} l f g st h M) w =
      read_set s u w (record { session = (worker s u).session; operation = idle; clock_reading = None }) (answers u v.value) l (λ y. r_off refl)
      (λ d e. grind arith)
  read_way {c} {a} (does_stamp {u = u} {t = t} l f st M) w =
      read_set s u w (record { session = (worker s u).session; operation = idle; clock_reading = None }) (stamps_at u t) l (λ y. r_off refl)
      (λ d e. grind arith)
  read_way {c} {a} (does_leave u o N l p q r M) w =
      read_set s u w (record { session = (worker s u).session; operation = o; clock_reading = None }) (kind_of c a) l (λ y. r_off r)
      (λ d e. grind arith)
  read_way {c} {a} (does_give {u = u} l r h st he) w =
      read_set s u w (record { session = (worker s u).session; operation = (worker s u).operation; clock_reading = None }) (kind_of c a) l
      (λ y. r_same (ap (λ z. (worker s z).operation) (sym y)) (λ d e f. ap (λ z. (worker s z).session) (sym y) ∙ f)
      (λ d e. let f = kind_silent c again refl in grind arith))
      (λ d e. absurd (let f = kind_silent c again refl in grind arith))
  read_way {c} (does_link {u = u} {x = x} {n = n} {a = a} l f h g) w =
      read_set s u w (record { session = (worker s u).session; operation = write_linked x n; clock_reading = None }) (offers u a) l (λ y. r_off refl)
      (λ d e. grind arith)
