-- P2, whole lists of calls: what they tell and leave, and the same on a plain list of entries
use Rattle.std.specs.Prelude.{ℕ, ◌+◌, ◌<◌, ◌≡◌, Bool, ◌&&◌, List, [], ◌∷◌, ◌++◌, length, get_or, take, ltb, leb, Result, Ok, Err, None}
use Rattle.loops.specs.Loop.{pick}
use Rattle.register.specs.declared.RegisterError.{RegisterError}
use Rattle.register.specs.declared.RegisterError.TheVariants.{Invalid, Full}
use Rattle.register.specs.Layout.{size, max_entries, first_body, max_body, Listed, invalid, listed, Entry}
use Rattle.register.specs.Adding.{added_after, new_entry}
use Rattle.register.specs.Answers.{code_of, adding_of, emptied_of, added_of, FoundOut, found_at, found_out, found_of, body_at}

-- a call; `cutting t b k` is an add whose power goes after k steps
pub data Call : Type 0 where
  emptying : Call
  adding : (t : ℕ) (b : List ℕ) → Call
  cutting : (t : ℕ) (b : List ℕ) (k : ℕ) → Call
  reading : (p : ℕ) → Call

-- a tag is two bytes
abbrev pub TagsFit : List Call → Type 0
TagsFit [] = Unit {0}
TagsFit (emptying ∷ cs) = TagsFit cs
TagsFit (adding t b ∷ cs) = (t < 65536) × TagsFit cs
TagsFit (cutting t b k ∷ cs) = (t < 65536) × TagsFit cs
TagsFit (reading p ∷ cs) = TagsFit cs

-- what a call tells: a reading the numbers of the entry and its body, a cut add nothing
pub data Told : Type 0 where
  answer : ℕ → Told
  entry : FoundOut → List ℕ → Told
  nothing : Told

-- on the register: what stands after an add whose power went after k steps
unfoldable pub cut_after : List ℕ → ℕ → List ℕ → ℕ → List ℕ
cut_after r t b k = (adding_of r (length b) (added_after r t b k)).register

abbrev pub leaves : Call → List ℕ → List ℕ
leaves emptying r = (emptied_of r).register
leaves (adding t b) r = (added_of r t b).register
leaves (cutting t b k) r = cut_after r t b k
leaves (reading p) r = r

abbrev pub tells : Call → List ℕ → Told
tells emptying r = answer (emptied_of r).code
tells (adding t b) r = answer (added_of r t b).code
tells (cutting t b k) r = nothing
tells (reading p) r = entry (found_of r p) (body_at r p)

unfoldable pub leaves_all : List Call → List ℕ → List ℕ
leaves_all [] r = r
leaves_all (c ∷ cs) r = leaves_all cs (leaves c r)

unfoldable pub tells_all : List Call → List ℕ → List Told
tells_all [] r = []
tells_all (c ∷ cs) r = tells c r ∷ tells_all cs (leaves c r)

-- on a plain list of entries, `invalid` until the first emptying where the layout breaks a rule
unfoldable pub bytes_of : List Entry → ℕ
bytes_of [] = 0
bytes_of (x ∷ es) = length x.body + bytes_of es

-- all the room of a register: 64 entries, bodies of at most 4,096 bytes, up to byte 32,767
unfoldable pub room_for : List Entry → ℕ → Bool
room_for es m = ltb (length es) max_entries && (leb m max_body && leb (first_body + bytes_of es + m) size)

abbrev pub add_to : ℕ → List ℕ → Listed → Listed
add_to t b invalid = invalid
add_to t b (listed es) = pick (room_for es (length b)) (listed (es ++ (new_entry t b ∷ []))) (listed es)

abbrev pub add_told : Listed → ℕ → Result (Unit {0}) RegisterError
add_told invalid m = Err Invalid
add_told (listed es) m = pick (room_for es m) (Ok tt) (Err Full)

-- entry p of the list; its body starts after those before it
abbrev pub entry_from : List Entry → ℕ → Entry → Told
entry_from es p x = entry (found_at x.tag (first_body + bytes_of (take p es)) (length x.body)) x.body

abbrev pub read_from : Listed → ℕ → Told
read_from invalid p = entry (found_out (Err Invalid)) []
read_from (listed es) p = pick (ltb p (length es)) (entry_from es p (get_or es p (new_entry 0 []))) (entry (found_out (Ok None)) [])

-- calls on the list s tell ts and leave the list z: an add that was cut counts as made or as not made
pub data Plain : Listed → List Call → List Told → Listed → Type 0 where
  done : {s : Listed} → Plain s [] [] s
  emptied : {s n z : Listed} {a : ℕ} {cs : List Call} {ts : List Told} → n ≡ listed [] → a ≡ code_of (Ok tt) → Plain n cs ts z → Plain s (emptying ∷ cs) (answer a ∷ ts) z
  added : {s n z : Listed} {a t : ℕ} {b : List ℕ} {cs : List Call} {ts : List Told} → n ≡ add_to t b s → a ≡ code_of (add_told s (length b)) → Plain n cs ts z → Plain s (adding t b ∷ cs) (answer a ∷ ts) z
  made : {s n z : Listed} {t : ℕ} {b : List ℕ} {k : ℕ} {cs : List Call} {ts : List Told} → n ≡ add_to t b s → Plain n cs ts z → Plain s (cutting t b k ∷ cs) (nothing ∷ ts) z
  lost : {s n z : Listed} {t : ℕ} {b : List ℕ} {k : ℕ} {cs : List Call} {ts : List Told} → n ≡ s → Plain n cs ts z → Plain s (cutting t b k ∷ cs) (nothing ∷ ts) z
  got : {s z : Listed} {p : ℕ} {a : Told} {cs : List Call} {ts : List Told} → a ≡ read_from s p → Plain s cs ts z → Plain s (reading p ∷ cs) (a ∷ ts) z
