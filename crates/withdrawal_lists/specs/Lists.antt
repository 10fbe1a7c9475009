-- Lists of withdrawals: "a register made by emptying and any list of `withdraw` alone, with a power cut after any step"
use Rattle.std.specs.Prelude.{ℕ, ◌≤◌, ◌<◌, ◌≡◌, true, List, [], ◌∷◌, length}
use Rattle.loops.specs.Loop.{pick}
use Rattle.register.specs.Layout.{size, valid, count, body_of, Listed, Entry, entry_of}
use Rattle.register.specs.Answers.{emptied_of}
use Rattle.register.specs.Calls.{cut_after, add_to}
use Rattle.withdrawal.specs.Withdrawal.{accepted, withdraw_of, WithdrawnOut, Answered}

-- a whole `withdraw`, and one whose power goes after k steps of adding
pub data Call : Type 0 where
  withdrawing : (t : ℕ) (s : List ℕ) → Call
  cutting : (t : ℕ) (s : List ℕ) (k : ℕ) → Call

-- a tag is two bytes
abbrev pub TagsFit : List Call → Type 0
TagsFit [] = Unit {0}
TagsFit (withdrawing t s ∷ cs) = (t < 65536) × TagsFit cs
TagsFit (cutting t s k ∷ cs) = (t < 65536) × TagsFit cs

-- what stands after a cut: "it is the run of P2's steps"; reading is asked before the first, so a text that it refuses changes nothing
unfoldable pub cut_of : List ℕ → ℕ → List ℕ → ℕ → List ℕ
cut_of r t s k = pick (accepted s) (cut_after r t s k) r

abbrev pub leaves : Call → List ℕ → List ℕ
leaves (withdrawing t s) r = (withdraw_of r t s).register
leaves (cutting t s k) r = cut_of r t s k

unfoldable pub leaves_all : List Call → List ℕ → List ℕ
leaves_all [] r = r
leaves_all (c ∷ cs) r = leaves_all cs (leaves c r)

-- "made by emptying and any list of `withdraw` alone"
abbrev pub made_by : List Call → List ℕ → List ℕ
made_by cs r = leaves_all cs (emptied_of r).register

-- withdrawing on a plain list of entries: an accepted text is added at its end, where there is room
abbrev pub withdraw_to : ℕ → List ℕ → Listed → Listed
withdraw_to t s l = pick (accepted s) (add_to t s l) l

-- "every body is read"
pub record EveryRead (r : List ℕ) : Type 0 where
  pub full : size ≤ length r
  pub right : valid r ≡ true
  pub bodies : (p : ℕ) → p < count r → accepted (body_of r p) ≡ true

-- a right layout lists the entry x
pub record HasEntry (r : List ℕ) (x : Entry) : Type 0 where
  pub right : valid r ≡ true
  pub place : ℕ
  pub below : place < count r
  pub is : entry_of r place ≡ x

-- "the answers are those": what may be answered of the one register may be answered of the other, for every text
pub record SameAnswers (r z : List ℕ) : Type 0 where
  pub forth : (q : List ℕ) (out : WithdrawnOut) → Answered r q out → Answered z q out
  pub back : (q : List ℕ) (out : WithdrawnOut) → Answered z q out → Answered r q out

-- "for the old list or for the new one": the list without its cuts, each of them made whole or left out
pub data Settled : List Call → List Call → Type 0 where
  none : Settled [] []
  whole : {t : ℕ} {s : List ℕ} {cs ds : List Call} → Settled cs ds → Settled (withdrawing t s ∷ cs) (withdrawing t s ∷ ds)
  made : {t : ℕ} {s : List ℕ} {k : ℕ} {cs ds : List Call} → Settled cs ds → Settled (cutting t s k ∷ cs) (withdrawing t s ∷ ds)
  lost : {t : ℕ} {s : List ℕ} {k : ℕ} {cs ds : List Call} → Settled cs ds → Settled (cutting t s k ∷ cs) ds
