-- What each answer of writing leaves behind. Assumes nothing.
use Prim.Native.Nat.{ℕ, zero, suc, ◌+◌, ◌-◌, ◌<◌, ◌≤◌}
use native.Mathlib.Omega.{arith}
use mathlib.Core.Path.{◌≡◌, refl, sym, ap, ◌∙◌}
use mathlib.Core.Bool.{Bool, true, false}
use mathlib.Core.List.{List, ◌∷◌, ◌++◌}
use lib.ListN.{length, get_or, take, drop, replicate, length-append, length-drop}
use lib.Seq.{take_at, take-append-le, length-take-le}
use lib.IntN.{ℤ}
use lib.Dec.{leb}
use borrow.Author.Tests.{le-leb, lt-leb, leb-true, leb-false}
use Rattle.loops.specs.Loop.{up_to}
use Rattle.loops.proofs.Loops.{length-up_to}
use Rattle.table.specs.Limits.{max_atoms}
use Rattle.refusal.specs.Code.{code_of}
use Rattle.refusal.specs.declared.Refusal.{Refusal}
use Rattle.refusal.specs.declared.Refusal.TheVariants.{ManyBridges, DeepWriting}
use Rattle.table.specs.Valid.{enough}
use Rattle.table.specs.Sound.{sound}
use Rattle.ids.specs.Limits.{max_text}
use Rattle.writing_walk.specs.Emit.{pre}
use Rattle.writing_walk.specs.Walk.{forest_of, place}
use Rattle.writing.specs.Write.{WriteResult, bond_list, tokens, few_bridges, shallow, text_of, renumbering, write_refused, write_short, filled, write_accepted, write_valid, write_of}
use Rattle.buffer.specs.Buffer.{BufferAt, buffer_at, Wrote}
use Rattle.buffer.proofs.Laws.{Laid, laid, over}
use Rattle.writer.specs.Told.{Said, Unsaid}

-- ---- clearing
pub cleared-all : (r row : List ℕ) → row ≡ take 0 r ++ replicate (length r - 0) 0 → row ≡ replicate (length r) 0
cleared-all r row e = let z : length r - 0 ≡ length r = omega arith in e ∙ rw z

-- the numbers, and zeros after them
pub numbers-cleared : (f : ℕ → ℕ) (n : ℕ) (r r1 r2 : List ℕ) → n ≤ length r → r1 ≡ up_to f 0 n ++ drop n r → r2 ≡ take n r1 ++ replicate (length r1 - n) 0 → length r1 ≡ length r → r2 ≡ up_to f 0 n ++ replicate (length r - n) 0
numbers-cleared f n r r1 r2 h e g l =
    g ∙ ap (λ (x : ℕ). take n r1 ++ replicate (x - n) 0) l ∙ ap (λ (x : List ℕ). x ++ replicate (length r - n) 0) (ap (take n) e ∙ take_at (up_to f 0 n) (drop n r) n (length-up_to f 0 n))

-- ---- the text in the output
module _ (l out part : List ℕ) (at : ℕ) (room : max_text ≤ length out) (w : Wrote l (buffer_at (take max_text out) 0) (buffer_at part at)) where
  long : length (take max_text out) ≡ max_text
  long = length-take-le max_text out room

  laid-here : length l ≤ max_text → Laid l (take max_text out) 0 part at
  laid-here h = laid w (omega (arith, long))

  pub too_long : max_text < at → leb (length l) max_text ≡ false
  too_long h = go (leb (length l) max_text) refl
    where
      go : (t : Bool) → leb (length l) max_text ≡ t → t ≡ false
      go true e = absurd (omega (arith, leb-true (length l) max_text e, (laid-here (leb-true (length l) max_text e)).place))
      go false e = refl

  pub not-long : at ≤ max_text → length l ≤ max_text
  not-long h = go (leb (length l) max_text) refl
    where
      go : (t : Bool) → leb (length l) max_text ≡ t → length l ≤ max_text
      go true e = leb-true (length l) max_text e
      go false e = absurd (omega (arith, long, over w (omega (arith, long)) (omega arith) (omega (arith, long, leb-false (length l) max_text e))))

  -- the text and its length
  pub the-text : length l ≤ max_text → (at ≡ length l) × (take at part ≡ l)
  the-text h =
      let d : Laid l (take max_text out) 0 part at = laid-here h in
      (d.place ∙ omega arith, d.front)

up_to-same : (f g : ℕ → ℕ) (n d k : ℕ) → k + d ≤ n → ((a : ℕ) → a < n → f a ≡ g a) → up_to f k d ≡ up_to g k d
unfolding up_to
up_to-same f g n zero k h e = refl
up_to-same f g n (suc d) k h e = λ i. e k (omega arith) i ∷ up_to-same f g n d (suc k) (omega arith) e i

same_numbers : (ren : List ℕ) (n : ℕ) (f : ℕ → ℕ) (l : List ℕ) (g : ℕ → ℕ) → l ≡ up_to g 0 n → ((a : ℕ) → a < n → f a ≡ g a) → up_to f 0 n ++ replicate (length ren - n) 0 ≡ filled l (length ren)
same_numbers ren n f l g e h =
    let z : up_to f 0 n ≡ l = up_to-same f g n n 0 (omega arith) h ∙ sym e in
    let k : n ≡ length l = sym (ap length e ∙ length-up_to g 0 n) in
    λ i. z i ++ replicate (length ren - k i) 0

renumbering-is : (bonds : List ℤ) (n m : ℕ) → renumbering bonds n m ≡ up_to (place (pre (forest_of n (bond_list bonds m)))) 0 n
unfolding renumbering
renumbering-is bonds n m = refl

-- ---- the answers
pub unsaid-many : {atoms bonds : List ℤ} {n m : ℕ} {flat : Bool} {p q : BufferAt} → Said atoms bonds n m false flat p q → Unsaid bonds n m ManyBridges
unsaid-many s = record { refused = rw (sym s.numbers); code = rw (sym s.numbers) }

pub unsaid-deep : {atoms bonds : List ℤ} {n m : ℕ} {p q : BufferAt} → Said atoms bonds n m true false p q → Unsaid bonds n m DeepWriting
unsaid-deep s = record { refused = rw (sym s.numbers, sym s.depth); code = rw (sym s.numbers) }

-- 14 or 15
pub tells-refused : {bonds : List ℤ} {n m : ℕ} {r : Refusal} → Unsaid bonds n m r → (atoms : List ℤ) (out ren : List ℕ) → write_refused (code_of r) out ren ≡ write_valid atoms bonds n m out ren
unfolding write_valid
tells-refused {bonds} {n} {m} {r} u atoms out ren = go (few_bridges (tokens bonds n m)) refl (shallow (tokens bonds n m)) refl
  where
    go : (a : Bool) → few_bridges (tokens bonds n m) ≡ a → (b : Bool) → shallow (tokens bonds n m) ≡ b → write_refused (code_of r) out ren ≡ write_valid atoms bonds n m out ren
    go false e b f = rw (u.code, e)
    go true e false f = rw (u.code, e, f)
    go true e true f = absurd (let z : true ≡ false = rw (e, f) at u.refused in cc)

module _ {atoms bonds : List ℤ} {n m : ℕ} {few flat : Bool} {p q : BufferAt} (s : Said atoms bonds n m few flat p q) (out ren : List ℕ) where
  pub tells16 : few ≡ true → flat ≡ true → leb (length (text_of atoms bonds n m)) max_text ≡ false → write_refused 16 out ren ≡ write_valid atoms bonds n m out ren
  unfolding write_valid
  tells16 e f g = sym (rw (sym s.numbers ∙ e, sym s.depth ∙ f, g))

  pub tells0 : few ≡ true → flat ≡ true → leb (length (text_of atoms bonds n m)) max_text ≡ true → write_accepted (text_of atoms bonds n m) (renumbering bonds n m) out ren ≡ write_valid atoms bonds n m out ren
  unfolding write_valid
  tells0 e f g = sym (rw (sym s.numbers ∙ e, sym s.depth ∙ f, g))

-- the buffer after its first part came back
pub part-long : (part out : List ℕ) → length part ≡ length (take max_text out) → max_text ≤ length out → length (part ++ drop max_text out) ≡ length out
part-long part out e h = omega (arith, length-append part (drop max_text out), length-drop max_text out, length-take-le max_text out h)

pub zeroed : (c : ℕ) (out ren o1 o2 r2 : List ℕ) → length o1 ≡ length out → o2 ≡ replicate (length o1) 0 → r2 ≡ replicate (length ren) 0
    → ◌≡◌ {A = WriteResult} (record { code = c; size = 0; output = o2; numbers = r2 }) (write_refused c out ren)
zeroed c out ren o1 o2 r2 l e f = λ i. record { code = c; size = 0; output = (e ∙ ap (λ (x : ℕ). replicate x 0) l) i; numbers = f i }

module _ {atoms bonds : List ℤ} {n m : ℕ} {few flat : Bool} (out ren part : List ℕ) (at : ℕ) (room : max_text ≤ length out) (pl : length part ≡ length (take max_text out))
    (s : Said atoms bonds n m few flat (buffer_at (take max_text out) 0) (buffer_at part at)) (e : few ≡ true) (f : flat ≡ true) where
  pub told16 : max_text < at → write_refused 16 out ren ≡ write_valid atoms bonds n m out ren
  told16 h = tells16 s out ren e f (too_long (text_of atoms bonds n m) out part at room (s.text e) h)

  pub told0 : at ≤ max_text → (number o2 r2 : List ℕ) → ((a : ℕ) → a < n → get_or number a 0 ≡ suc (place (pre (forest_of n (bond_list bonds m))) a))
      → o2 ≡ take at (part ++ drop max_text out) ++ replicate (length (part ++ drop max_text out) - at) 0 → r2 ≡ up_to (λ a. get_or number a 0 - 1) 0 n ++ replicate (length ren - n) 0
      → ◌≡◌ {A = WriteResult} (record { code = 0; size = at; output = o2; numbers = r2 }) (write_valid atoms bonds n m out ren)
  told0 h number o2 r2 nu eo er =
      let l = text_of atoms bonds n m in
      let w = s.text e in
      let g = not-long l out part at room w h in
      let t = the-text l out part at room w g in
      let a : at ≤ length part = omega (arith, length-take-le max_text out room) in
      let x : o2 ≡ filled l (length out) = eo ∙ (λ i. (take-append-le at part (drop max_text out) a ∙ t.1) i ++ replicate (part-long part out pl room i - t.0 i) 0) in
      let y : r2 ≡ filled (renumbering bonds n m) (length ren) = er ∙ renumbers number nu in
      (λ i. record { code = 0; size = t.0 i; output = x i; numbers = y i }) ∙ tells0 s out ren e f (le-leb (length l) max_text g)
    where
      renumbers : (number : List ℕ) → ((a : ℕ) → a < n → get_or number a 0 ≡ suc (place (pre (forest_of n (bond_list bonds m))) a))
          → up_to (λ a. get_or number a 0 - 1) 0 n ++ replicate (length ren - n) 0 ≡ filled (renumbering bonds n m) (length ren)
      renumbers number nu = same_numbers ren n (λ a. get_or number a 0 - 1) (renumbering bonds n m) (place (pre (forest_of n (bond_list bonds m)))) (renumbering-is bonds n m) (λ a i. (let q = nu a i in omega arith))

-- ---- 1 and 13
pub short1 : (atoms bonds : List ℤ) (n m : ℕ) (out ren : List ℕ) → enough atoms bonds ≡ false → write_short out ren ≡ write_of atoms bonds n m out ren
unfolding write_of
short1 atoms bonds n m out ren e = sym (rw e)

pub short2 : (atoms bonds : List ℤ) (n m : ℕ) (out ren : List ℕ) → enough atoms bonds ≡ true → length out < max_text → write_short out ren ≡ write_of atoms bonds n m out ren
unfolding write_of
short2 atoms bonds n m out ren e h = sym (rw (e, lt-leb max_text (length out) h))

pub short3 : (atoms bonds : List ℤ) (n m : ℕ) (out ren : List ℕ) → enough atoms bonds ≡ true → max_text ≤ length out → length ren < max_atoms → write_short out ren ≡ write_of atoms bonds n m out ren
unfolding write_of
short3 atoms bonds n m out ren e h g = sym (rw (e, le-leb max_text (length out) h, lt-leb max_atoms (length ren) g))

module _ (atoms bonds : List ℤ) (n m : ℕ) (out ren : List ℕ) (e : enough atoms bonds ≡ true) (h : max_text ≤ length out) (g : max_atoms ≤ length ren) where
  pub told13 : sound atoms bonds n m ≡ false → write_refused 13 out ren ≡ write_of atoms bonds n m out ren
  unfolding write_of
  told13 v = sym (rw (e, le-leb max_text (length out) h, le-leb max_atoms (length ren) g, v))

  pub told-valid : sound atoms bonds n m ≡ true → write_valid atoms bonds n m out ren ≡ write_of atoms bonds n m out ren
  unfolding write_of
  told-valid v = sym (rw (e, le-leb max_text (length out) h, le-leb max_atoms (length ren) g, v))
