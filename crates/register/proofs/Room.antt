-- The room of a register: after emptying all of it is usable, and 18 is told exactly at its edges. Assumes nothing.
use Prim.Native.Nat.{ℕ, ◌+◌, ◌≤◌, ◌<◌}
use native.Mathlib.Omega.{arith}
use mathlib.Core.Path.{◌≡◌, refl, sym, ap, ◌∙◌}
use mathlib.Core.Bool.{true, false}
use mathlib.Core.List.{List, [], ◌∷◌, ◌++◌, append_assoc, append-nil}
use lib.ListN.{length, length-append}
use borrow.Author.Tests.{lt-ltb, le-ltb, le-leb, lt-leb}
use Rattle.loops.specs.Loop.{pick}
use Rattle.std.specs.Prelude.{Ok, Err}
use Rattle.register.specs.declared.RegisterError.TheVariants.{Full}
use Rattle.register.specs.Layout.{size, max_entries, first_body, max_body, Listed, listed, Entry, listed_of}
use Rattle.register.specs.Adding.{steps}
use Rattle.register.specs.Answers.{code_of, emptied_of, added_of}
use Rattle.register.specs.Calls.{bytes_of, room_for, add_to, add_told}
use Rattle.register.proofs.Plain.{bytes-more, add_is, cut-length, added_is, told_is, empty-is, empty-length}

module _ (es : List Entry) (m : ℕ) where
  pub room-yes : length es < max_entries → m ≤ max_body → first_body + bytes_of es + m ≤ size → room_for es m ≡ true
  unfolding room_for
  room-yes a b c = simp (lt-ltb _ _ a, le-leb _ _ b, le-leb _ _ c)

  -- the edges: one entry, one byte of the body, one byte of the register too many
  pub room-entries : max_entries ≤ length es → room_for es m ≡ false
  unfolding room_for
  room-entries a = simp (le-ltb _ _ a)

  pub room-body : length es < max_entries → max_body < m → room_for es m ≡ false
  unfolding room_for
  room-body a b = simp (lt-ltb _ _ a, lt-leb _ _ b)

  pub room-end : length es < max_entries → m ≤ max_body → size < first_body + bytes_of es + m → room_for es m ≡ false
  unfolding room_for
  room-end a b c = simp (lt-ltb _ _ a, le-leb _ _ b, lt-leb _ _ c)

-- entries added one after the other
unfoldable pub add_all : List Entry → Listed → Listed
add_all [] s = s
add_all (x ∷ xs) s = add_all xs (add_to x.tag x.body s)

-- tags of two bytes, bodies of at most 4,096
abbrev pub Entries : List Entry → Type 0
Entries [] = Unit {0}
Entries (x ∷ xs) = (x.tag < 65536) × (length x.body ≤ max_body) × Entries xs

-- up to 64 entries whose bodies reach up to byte 32,767 are all taken
pub all-taken : (xs es : List Entry) → Entries xs → length es + length xs ≤ max_entries → first_body + bytes_of es + bytes_of xs ≤ size → add_all xs (listed es) ≡ listed (es ++ xs)
unfolding add_all bytes_of
all-taken [] es h l c = ap listed (sym (append-nil es))
all-taken (x ∷ xs) es h l c =
    let f : room_for es (length x.body) ≡ true = room-yes es (length x.body) (omega arith) h.1 (omega arith) in
    let a : length (es ++ (x ∷ [])) ≡ length es + 1 = simp length-append in
    let d : bytes_of (es ++ (x ∷ [])) ≡ bytes_of es + length x.body = bytes-more es x in
    rw f (all-taken xs (es ++ (x ∷ [])) h.2 (omega arith) (omega arith) ∙ ap listed (append_assoc es (x ∷ []) xs))

-- the same on a register
unfoldable pub adds_all : List Entry → List ℕ → List ℕ
adds_all [] r = r
adds_all (x ∷ xs) r = adds_all xs (added_of r x.tag x.body).register

added-length : (r : List ℕ) (t : ℕ) (b : List ℕ) → length (added_of r t b).register ≡ length r
added-length r t b = ap length (add_is r t b) ∙ cut-length r t b (steps (length b))

adds-length : (xs : List Entry) (r : List ℕ) → length (adds_all xs r) ≡ length r
unfolding adds_all
adds-length [] r = refl
adds-length (x ∷ xs) r = adds-length xs (added_of r x.tag x.body).register ∙ added-length r x.tag x.body

adds-listed : (xs : List Entry) (r : List ℕ) → size ≤ length r → Entries xs → listed_of (adds_all xs r) ≡ add_all xs (listed_of r)
unfolding add_all adds_all
adds-listed [] r full h = refl
adds-listed (x ∷ xs) r full h =
    adds-listed xs (added_of r x.tag x.body).register (omega (arith, added-length r x.tag x.body)) h.2
    ∙ ap (add_all xs) (added_is r full x.tag x.body h.0)

module _ (xs : List Entry) (r : List ℕ) (full : size ≤ length r) (h : Entries xs) (few : length xs ≤ max_entries) (short : first_body + bytes_of xs ≤ size) where
  -- ALL ROOM IS USABLE after emptying, whatever stood there: up to 64 entries, with bodies up to byte 32,767
  pub all-added : listed_of (adds_all xs (emptied_of r).register) ≡ listed xs
  unfolding bytes_of
  all-added =
      adds-listed xs (emptied_of r).register (omega (arith, empty-length r full)) h
      ∙ ap (add_all xs) (empty-is r full) ∙ all-taken xs [] h (omega arith) (omega arith)

  -- and one more is taken exactly where there is room: else 18
  pub one_more : (t : ℕ) (b : List ℕ) → (added_of (adds_all xs (emptied_of r).register) t b).code ≡ code_of (pick (room_for xs (length b)) (Ok tt) (Err Full))
  one_more t b =
      told_is (adds_all xs (emptied_of r).register) (omega (arith, adds-length xs (emptied_of r).register, empty-length r full)) t b
      ∙ ap (λ s. code_of (add_told s (length b))) all-added
