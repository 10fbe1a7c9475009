-- LISTS OF WITHDRAWALS: a withdrawal survives every power cut. Assumes nothing.
use Prim.Native.Nat.{ℕ, ◌≤◌, ◌<◌}
use native.Mathlib.Omega.{arith}
use mathlib.Core.Path.{◌≡◌, refl, sym, ap, subst, ◌∙◌}
use mathlib.Core.Bool.{Bool, true, false}
use mathlib.Core.Logic.{◌⊎◌, inl, inr, ⊎_elim}
use mathlib.Core.List.{List, [], ◌∷◌, ◌++◌}
use lib.ListN.{length, get_or, length-append}
use lib.Seq.{get_or-append_seam}
use lib.Dec.{ltb}
use borrow.Author.Tests.{le-ltb}
use Rattle.loops.specs.Loop.{pick}
use Rattle.register.specs.Layout.{size, count, invalid, listed, Listed, Entry, body_of, listed_of}
use Rattle.register.specs.Adding.{new_entry}
use Rattle.std.specs.Prelude.{Ok, Err}
use Rattle.register.specs.declared.RegisterError.TheVariants.{Full}
use Rattle.register.specs.Answers.{code_of, emptied_of, added_of}
use Rattle.register.specs.Calls.{room_for, add_to, add_told}
use Rattle.register.proofs.Plain.{empty-is, empty-length, told_is}
use Rattle.table.proofs.Keys.{never}
use Rattle.folding.specs.Folding.{folded}
use Rattle.drawing_key.specs.Key.{key_of}
use Rattle.withdrawal.specs.Withdrawal.{accepted, Drawings, withdraw_of, WithdrawnOut, Answered, drawn, Open}
use Rattle.withdrawal.proofs.Claims.{never-clear}
use Rattle.withdrawal_lists.specs.Lists.{Call, withdrawing, cutting, TagsFit, cut_of, leaves_all, made_by, withdraw_to, EveryRead, HasEntry, SameAnswers, Settled, none, whole, made, lost}
use Rattle.withdrawal_lists.proofs.Listing.{no_entry, right-listed, entries-length, entries_at, entries-listed}
use Rattle.withdrawal_lists.proofs.Answering.{listed-answers}
use Rattle.withdrawal_lists.proofs.Calls.{whole-list, cut_list, leaves-length, all-length}
use Rattle.withdrawal_lists.proofs.Entries.{list-keeps, ReadList, read_kept, read_at, Has, has_kept}

-- ---- every body is read
read-means-by : (r : List ℕ) → size ≤ length r → (l : Listed) → listed_of r ≡ l → ReadList l → EveryRead r
read-means-by r full invalid e w = absurd w
read-means-by r full (listed es) e w =
    record {
      full = full;
      right = right-listed r es e;
      bodies = λ p h. subst (λ (x : Entry). accepted x.body ≡ true) (ap (λ (xs : List Entry). get_or xs p no_entry) (sym (entries-listed r es e)) ∙ entries_at r p h)
          (read_at es p (omega (arith, h, entries-length r, ap length (entries-listed r es e))) w);
    }

read-means : (r : List ℕ) → size ≤ length r → ReadList (listed_of r) → EveryRead r
read-means r full w = read-means-by r full (listed_of r) refl w

-- the length is what it was
pub made-length : (cs : List Call) (r : List ℕ) → size ≤ length r → length (made_by cs r) ≡ length r
made-length cs r full = all-length cs (emptied_of r).register ∙ empty-length r full

-- IN A REGISTER MADE BY EMPTYING AND ANY LIST OF WITHDRAWALS, the power going after any step of any of them, every body is read
pub withdrawals-read : (cs : List Call) (r : List ℕ) → size ≤ length r → TagsFit cs → EveryRead (made_by cs r)
withdrawals-read cs r full h =
    read-means (made_by cs r) (omega (arith, full, made-length cs r full))
    (list-keeps ReadList read_kept cs (emptied_of r).register (omega (arith, full, empty-length r full)) h (subst ReadList (sym (empty-is r full)) tt))

-- ---- the old list or the new one
module _ (r : List ℕ) (full : size ≤ length r) (t : ℕ) (two : t < 65536) (s : List ℕ) where
  -- A WITHDRAW LISTS the old entries and the new one, if the text is accepted and there is room; else the old ones
  pub withdraw-lists : listed_of (withdraw_of r t s).register ≡ withdraw_to t s (listed_of r)
  withdraw-lists = whole-list r t s full two

  -- A CUT WITHDRAW LISTS what was listed before it, or what the whole one lists
  pub cut-old-or-new : (k : ℕ) → (listed_of (cut_of r t s k) ≡ listed_of r) ⊎ (listed_of (cut_of r t s k) ≡ listed_of (withdraw_of r t s).register)
  cut-old-or-new k = go (cut_list r t s full two k)
    where
      go : (listed_of (cut_of r t s k) ≡ listed_of r) ⊎ (listed_of (cut_of r t s k) ≡ withdraw_to t s (listed_of r)) → (listed_of (cut_of r t s k) ≡ listed_of r) ⊎ (listed_of (cut_of r t s k) ≡ listed_of (withdraw_of r t s).register)
      go (inl e) = inl e
      go (inr e) = inr (e ∙ sym withdraw-lists)

  cut-long : (k : ℕ) → size ≤ length (cut_of r t s k)
  cut-long k = omega (arith, full, leaves-length (cutting t s k) r)

  whole_long : size ≤ length (withdraw_of r t s).register
  whole_long = omega (arith, full, leaves-length (withdrawing t s) r)

  -- AFTER A POWER CUT the answers are those of the old list, or those of the new one
  pub cut-answers : (k : ℕ) → SameAnswers (cut_of r t s k) r ⊎ SameAnswers (cut_of r t s k) (withdraw_of r t s).register
  cut-answers k = go (cut-old-or-new k)
    where
      go : (listed_of (cut_of r t s k) ≡ listed_of r) ⊎ (listed_of (cut_of r t s k) ≡ listed_of (withdraw_of r t s).register) → SameAnswers (cut_of r t s k) r ⊎ SameAnswers (cut_of r t s k) (withdraw_of r t s).register
      go (inl e) = inl (listed-answers (cut_of r t s k) r e (cut-long k) full)
      go (inr e) = inr (listed-answers (cut_of r t s k) (withdraw_of r t s).register e (cut-long k) whole_long)

-- the same of a whole list: its cuts count as made or as not made
abbrev SettledList : List Call → List ℕ → List ℕ → Type 0
SettledList cs r z = (ds : List Call) × Settled cs ds × (listed_of (leaves_all cs r) ≡ listed_of (leaves_all ds z))

settled-list : (cs : List Call) (r z : List ℕ) → size ≤ length r → size ≤ length z → listed_of r ≡ listed_of z → TagsFit cs → SettledList cs r z
unfolding leaves_all
settled-list [] r z full long same h = ([], none, same)
settled-list (withdrawing t s ∷ cs) r z full long same h =
    let e : listed_of (withdraw_of r t s).register ≡ listed_of (withdraw_of z t s).register = whole-list r t s full h.0 ∙ ap (withdraw_to t s) same ∙ sym (whole-list z t s long h.0) in
    let i = settled-list cs (withdraw_of r t s).register (withdraw_of z t s).register (whole_long r full t h.0 s) (whole_long z long t h.0 s) e h.1 in
    (withdrawing t s ∷ i.0, whole i.1, i.2)
settled-list (cutting t s k ∷ cs) r z full long same h =
    ⊎_elim
    (λ e. let i = settled-list cs (cut_of r t s k) z (cut-long r full t h.0 s k) long (e ∙ same) h.1 in (i.0, lost i.1, i.2))
    (λ e. let d = e ∙ ap (withdraw_to t s) same ∙ sym (whole-list z t s long h.0) in
    let i = settled-list cs (cut_of r t s k) (withdraw_of z t s).register (cut-long r full t h.0 s k) (whole_long z long t h.0 s) d h.1 in
    (withdrawing t s ∷ i.0, made i.1, i.2))
    (cut_list r t s full h.0 k)

-- AFTER ANY LIST OF WITHDRAWALS, cuts among them, the answers are those of a list without cuts, each of them made whole or left out
pub settled-answers : (cs : List Call) (r : List ℕ) → size ≤ length r → TagsFit cs → (ds : List Call) × Settled cs ds × SameAnswers (made_by cs r) (made_by ds r)
settled-answers cs r full h =
    let long : size ≤ length (emptied_of r).register = omega (arith, full, empty-length r full) in
    let i = settled-list cs (emptied_of r).register (emptied_of r).register long long refl h in
    (i.0, i.1, listed-answers (made_by cs r) (made_by i.0 r) i.2 (omega (arith, full, made-length cs r full)) (omega (arith, full, made-length i.0 r full)))

-- ---- undecided
undecided-entry : (r : List ℕ) → EveryRead r → (q : List ℕ) (out : WithdrawnOut) → Answered r q out → out.answer ≡ 2 → (b : Bool) → accepted q ≡ b → (out.entry < count r) × Open (body_of r out.entry) q
undecided-entry r w q out a e false f = absurd (omega (arith, e, ap (λ (o : WithdrawnOut). o.answer) (a.unread (le-ltb (length r) size w.full) w.right f)))
undecided-entry r w q out a e true f = (a.judged (le-ltb (length r) size w.full) w.right f).undecided e

-- WHERE EVERY BODY IS READ, undecided names an entry that is read and has the key of the text: none is undecided for want of reading
pub undecided-read : (r : List ℕ) → EveryRead r → (q : List ℕ) (out : WithdrawnOut) → Answered r q out → out.answer ≡ 2
    → (out.entry < count r) × (accepted (body_of r out.entry) ≡ true) × (key_of (folded (drawn (body_of r out.entry))) ≡ key_of (folded (drawn q)))
undecided-read r w q out a e =
    let u = undecided-entry r w q out a e (accepted q) refl in
    let h = w.bodies out.entry u.0 in
    (u.0, h, ⊎_elim (λ n. never (sym n ∙ h)) (λ k. k) u.1)

-- ---- a withdrawal holds
done-has-by : (t : ℕ) (s : List ℕ) (l : Listed) → code_of (add_told l (length s)) ≡ 0 → (p : ℕ) × Has p (new_entry t s) (add_to t s l)
done-has-by t s invalid e = absurd (omega (arith, e))
done-has-by t s (listed es) e = go (room_for es (length s)) e
  where
    go : (b : Bool) → code_of (pick b (Ok tt) (Err Full)) ≡ 0 → (p : ℕ) × Has p (new_entry t s) (pick b (listed (es ++ (new_entry t s ∷ []))) (listed es))
    go true d = (length es, (omega (arith, length-append es (new_entry t s ∷ [])), get_or-append_seam es (new_entry t s) [] no_entry))
    go false d = absurd (omega (arith, d))

has-means-by : (r : List ℕ) (p : ℕ) (x : Entry) (l : Listed) → listed_of r ≡ l → Has p x l → HasEntry r x
has-means-by r p x invalid e w = absurd w
has-means-by r p x (listed es) e w =
    let below : p < count r = omega (arith, w.0, entries-length r, ap length (entries-listed r es e)) in
    record {
      right = right-listed r es e;
      place = p;
      below = below;
      is = sym (entries_at r p below) ∙ ap (λ (xs : List Entry). get_or xs p no_entry) (entries-listed r es e) ∙ w.1;
    }

module _ (r : List ℕ) (full : size ≤ length r) (t : ℕ) (two : t < 65536) (s : List ℕ) (fine : accepted s ≡ true) (done : (withdraw_of r t s).code ≡ 0) where
  code_is : (withdraw_of r t s).code ≡ (added_of r t s).code
  unfolding withdraw_of
  code_is = rw (le-ltb (length r) size full, fine)

  -- A WITHDRAWAL THAT WAS TOLD DONE STAYS LISTED, whatever withdrawals come after it and wherever the power goes in them
  pub withdrawal-stays : (cs : List Call) → TagsFit cs → HasEntry (leaves_all cs (withdraw_of r t s).register) (new_entry t s)
  withdrawal-stays cs h =
      let z = (withdraw_of r t s).register in
      let i = done-has-by t s (listed_of r) (sym (told_is r full t s) ∙ sym code_is ∙ done) in
      let e : add_to t s (listed_of r) ≡ listed_of z = sym (whole-list r t s full two ∙ rw fine) in
      let w = list-keeps (Has i.0 (new_entry t s)) (has_kept i.0 (new_entry t s)) cs z (whole_long r full t two s) h (subst (Has i.0 (new_entry t s)) e i.1) in
      has-means-by (leaves_all cs z) i.0 (new_entry t s) (listed_of (leaves_all cs z)) refl w

-- A WITHDRAWAL HOLDS FOR EVERY DRAWING AND SURVIVES EVERY POWER CUT: once withdrawing a text was told done, no drawing of its compound is clear, whatever withdrawals come after it and wherever the power goes in them
pub withdrawal-holds : (r : List ℕ) → size ≤ length r → (t : ℕ) → t < 65536 → (s q : List ℕ) → (withdraw_of r t s).code ≡ 0 → Drawings s q → (cs : List Call) → TagsFit cs → (out : WithdrawnOut) → Answered (leaves_all cs (withdraw_of r t s).register) q out → out.answer ≡ 0 → ⊥
withdrawal-holds r full t two s q done d cs h out a e =
    let z = leaves_all cs (withdraw_of r t s).register in
    let w = withdrawal-stays r full t two s d.first done cs h in
    let long : ltb (length z) size ≡ false = le-ltb (length z) size (omega (arith, whole_long r full t two s, all-length cs (withdraw_of r t s).register)) in
    never-clear z long w.right q out a w.place w.below (subst (λ (x : Entry). Drawings x.body q) (sym w.is) d) e
