-- Transcripts: what is done to a store of numbers, entry by entry, each with the reply that is expected.
use Rattle.std.specs.Prelude.{ℕ, Bool, List, [], ◌∷◌, ◌++◌, map, replicate, Some, None, Option}
use Rattle.values.specs.Refusals.{number_of}
use Rattle.values.specs.declared.Refusal.{Refusal}
use Rattle.model.specs.Answers.{Answer, granted, again, number, value, content}
use Rattle.model.specs.Calls.{Call, Note, Publish, Advance, WriteBegin, WriteLook, WriteOffer, WriteStamp, step}
use Rattle.model.specs.Compactions.{interval}
use Rattle.model.specs.Judging.{Judge}
use Rattle.model.specs.Making.{check, counts}
use Rattle.model.specs.State.{State}
use Rattle.laws.specs.Histories.{History, history}

-- A call, a look at how many nodes are free, linked and waiting, a check of sizes, a question to a prepared judge.
pub data Act : Type 0 where
  call : Call ℕ → Act
  count : Act
  check_sizes : (cells workers nodes start : ℕ) → Act
  ask : (judge : Judge) (cutoff : ℕ) (scan : List ℕ) (start end : ℕ) → Act

-- The reply to each of these. A refusal shows its number.
pub data Reply : Type 0 where
  refusal : (number : ℕ) → Reply
  passes : Reply
  answer : Answer ℕ → Reply
  node_counts : (free linked waiting : ℕ) → Reply
  drops : Bool → Reply

abbrev pub reply_of : Answer ℕ → Option ℕ → Reply
reply_of a None = answer a
reply_of a (Some n) = refusal n

abbrev pub reply : Answer ℕ → Reply
reply a = reply_of a (content a).refusal_number

abbrev pub size_reply : Option Refusal → Reply
size_reply None = passes
size_reply (Some r) = refusal (number_of r)

-- What the rules reply to an act, and the state after it.
abbrev pub replied : State ℕ → Act → Reply × State ℕ
replied s (call c) = (reply (step s c).0, (step s c).1)
replied s count = (node_counts (counts s).0 (counts s).1 (counts s).2, s)
replied s (check_sizes cells workers nodes start) = (size_reply (check cells workers nodes start), s)
replied s (ask judge t scan start end) = (drops (judge.drops t scan (interval start end)), s)

abbrev pub replies : State ℕ → List Act → List Reply
replies s [] = []
replies s (a ∷ rest) = (replied s a).0 ∷ replies (replied s a).1 rest

abbrev pub Transcript : Type 0
Transcript = List (Act × Reply)

-- A store, what is done to it, and what is expected. What the rules reply is computed from the acts alone.
pub record Case : Type 0 where
  pub store : State ℕ
  pub transcript : Transcript

abbrev pub computed : Case → List Reply
computed c = replies c.store (map (λ e. e.0) c.transcript)

abbrev pub expected : Case → List Reply
expected c = map (λ e. e.1) c.transcript

-- The calls of a transcript, and the history that they have.
abbrev pub calls_in : Act → List (Call ℕ)
calls_in (call c) = c ∷ []
calls_in count = []
calls_in (check_sizes cells workers nodes start) = []
calls_in (ask judge t scan start end) = []

abbrev pub calls_of : Transcript → List (Call ℕ)
calls_of [] = []
calls_of (e ∷ rest) = calls_in e.0 ++ calls_of rest

abbrev pub history_of : Case → History ℕ
history_of c = history c.store (calls_of c.transcript)

infix 70 ◌answers◌ ◌refuses◌
-- A transcript of one entry: a call with its answer, a call with the number of its refusal, a look at the counts.
abbrev pub ◌answers◌ : Call ℕ → Answer ℕ → Transcript
c answers a = (call c, answer a) ∷ []

abbrev pub ◌refuses◌ : Call ℕ → ℕ → Transcript
c refuses n = (call c, refusal n) ∷ []

abbrev pub counts_are : (free linked waiting : ℕ) → Transcript
counts_are free linked waiting = (count, node_counts free linked waiting) ∷ []

-- A call that is made so many times, and each time answers again.
abbrev pub again_times : ℕ → Call ℕ → Transcript
again_times n c = replicate n (call c, answer again)

-- Worker w opens a session at c.
abbrev pub opens : (w c : ℕ) → Transcript
opens w c = Note w answers number c ++ Publish w answers granted ++ Advance w answers number c

-- Worker w looks at cell x and finds value u; then it links value v, in node n.
abbrev pub links : (w x u v n : ℕ) → Transcript
links w x u v n = WriteBegin w x answers granted ++ WriteLook w answers value u ++ WriteOffer w v n answers granted

-- .. and gives it the stamp t.
abbrev pub writes : (w x u v n t : ℕ) → Transcript
writes w x u v n t = links w x u v n ++ again_times 2 (WriteStamp w) ++ WriteStamp w answers number t
