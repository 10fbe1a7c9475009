-- What writing promises, beside its definition: each answer exactly when 01 says, and what a refusal leaves. Assumes nothing.
use mathlib.Core.Path.{◌≡◌, refl, sym, subst, ◌∙◌}
use mathlib.Core.Bool.{Bool, true, false}
use mathlib.Core.Logic.{◌↔◌}
use mathlib.Core.List.{List}
use Prim.Native.Nat.{ℕ}
use native.Mathlib.Omega.{arith}
use lib.Dec.{leb}
use lib.ListN.{length}
use lib.IntN.{ℤ}
use borrow.Author.Tests.{leb-true, leb-false, lt-leb}
use Rattle.loops.specs.Loop.{pick}
use Rattle.table.specs.Sound.{sound}
use Rattle.ids.specs.Limits.{max_text}
use Rattle.writing.specs.Write.{tokens, text_of, renumbering, few_bridges, shallow, WriteResult, write_refused, write_short, write_accepted, write_valid, lent, write_of}
use Rattle.writing.specs.Conditions.{ManyBridges, DeepBranch, LongText, Writes}
use Rattle.writing.proofs.Limits.{many-bridges-open, open-many-bridges, deep_branch, branch-deep}

never : {A : Type 0} {t : Bool} → t ≡ true → t ≡ false → A
never h k = absurd (let z : ◌≡◌ {A = ℕ} 0 1 = cc in omega arith)

module _ (atoms bonds : List ℤ) (n m : ℕ) where
  -- the tests of the definition, and 01's conditions
  few : sound atoms bonds n m ≡ true → ¬ ManyBridges bonds n m → few_bridges (tokens bonds n m) ≡ true
  few v w = go (few_bridges (tokens bonds n m)) refl
    where
      go : (t : Bool) → few_bridges (tokens bonds n m) ≡ t → t ≡ true
      go true e = refl
      go false e = absurd (w (many-bridges-open atoms bonds n m v e))

  flat : ¬ DeepBranch bonds n m → shallow (tokens bonds n m) ≡ true
  flat w = go (shallow (tokens bonds n m)) refl
    where
      go : (t : Bool) → shallow (tokens bonds n m) ≡ t → t ≡ true
      go true e = refl
      go false e = absurd (w (deep_branch (tokens bonds n m) e))

  brief : ¬ LongText atoms bonds n m → leb (length (text_of atoms bonds n m)) max_text ≡ true
  brief w = go (leb (length (text_of atoms bonds n m)) max_text) refl
    where
      go : (t : Bool) → leb (length (text_of atoms bonds n m)) max_text ≡ t → t ≡ true
      go true e = refl
      go false e = absurd (w (leb-false (length (text_of atoms bonds n m)) max_text e))

  module _ (out ren : List ℕ) where
    writes-so : Writes atoms bonds n m out ren (write_of atoms bonds n m out ren)
    unfolding write_of write_valid
    writes-so = split (lent atoms bonds out ren) refl (sound atoms bonds n m) refl (few_bridges (tokens bonds n m)) refl (shallow (tokens bonds n m)) refl (leb (length (text_of atoms bonds n m)) max_text) refl
      where
        split : (a : Bool) → lent atoms bonds out ren ≡ a → (b : Bool) → sound atoms bonds n m ≡ b → (c : Bool) → few_bridges (tokens bonds n m) ≡ c → (d : Bool) → shallow (tokens bonds n m) ≡ d
            → (e : Bool) → leb (length (text_of atoms bonds n m)) max_text ≡ e
            → Writes atoms bonds n m out ren (pick a (pick b (pick c (pick d (pick e (write_accepted (text_of atoms bonds n m) (renumbering bonds n m) out ren) (write_refused 16 out ren)) (write_refused 15 out ren)) (write_refused 14 out ren)) (write_refused 13 out ren)) (write_short out ren))
        split false l b v c f d s e k = Writes.too_short l
        split true l false v c f d s e k = Writes.not_valid l v
        split true l true v false f d s e k = Writes.many_bridges l v (many-bridges-open atoms bonds n m v f)
        split true l true v true f false s e k = Writes.deep_branch l v (λ w. never f (open-many-bridges atoms bonds n m v w)) (deep_branch (tokens bonds n m) s)
        split true l true v true f true s false k =
            Writes.long_text l v (λ w. never f (open-many-bridges atoms bonds n m v w)) (λ w. never s (branch-deep (tokens bonds n m) w)) (leb-false (length (text_of atoms bonds n m)) max_text k)
        split true l true v true f true s true k =
            Writes.writes l v (record {
              bridges = λ w. never f (open-many-bridges atoms bonds n m v w);
              branches = λ w. never s (branch-deep (tokens bonds n m) w);
              bytes = λ w. omega (arith, leb-true (length (text_of atoms bonds n m)) max_text k);
            })

    so-writes : {t : WriteResult} → Writes atoms bonds n m out ren t → write_of atoms bonds n m out ren ≡ t
    unfolding write_of write_valid
    so-writes (Writes.too_short l) = rw l
    so-writes (Writes.not_valid l v) = rw (l, v)
    so-writes (Writes.many_bridges l v w) = rw (l, v, open-many-bridges atoms bonds n m v w)
    so-writes (Writes.deep_branch l v f w) = rw (l, v, few v f, branch-deep (tokens bonds n m) w)
    so-writes (Writes.long_text l v f s w) = rw (l, v, few v f, flat s, lt-leb (length (text_of atoms bonds n m)) max_text w)
    so-writes (Writes.writes l v w) = rw (l, v, few v w.bridges, flat w.branches, brief w.bytes)

    -- THE STATEMENT: writing hands back an answer exactly when 01 says so
    pub written-iff : (t : WriteResult) → (write_of atoms bonds n m out ren ≡ t) ↔ Writes atoms bonds n m out ren t
    written-iff t = (λ e. subst (Writes atoms bonds n m out ren) e writes-so, so-writes)

    -- so only one of them holds
    pub one_answer : {t u : WriteResult} → Writes atoms bonds n m out ren t → Writes atoms bonds n m out ren u → t ≡ u
    one_answer x y = sym (so-writes x) ∙ so-writes y

    -- 1 exactly where a table or an output is too short; by definition it changes nothing
    pub short-iff : ((write_of atoms bonds n m out ren).code ≡ 1) ↔ (lent atoms bonds out ren ≡ false)
    unfolding write_of
    short-iff = (go writes-so, λ e. rw e)
      where
        go : {t : WriteResult} → Writes atoms bonds n m out ren t → t.code ≡ 1 → lent atoms bonds out ren ≡ false
        go (Writes.too_short l) e = l
        go (Writes.not_valid l v) e = absurd (omega arith)
        go (Writes.many_bridges l v w) e = absurd (omega arith)
        go (Writes.deep_branch l v f w) e = absurd (omega arith)
        go (Writes.long_text l v f s w) e = absurd (omega arith)
        go (Writes.writes l v w) e = absurd (omega arith)

    -- every other refusal zeroes the output and the renumbering, and the length is 0
    pub refusal-zeroes : ((write_of atoms bonds n m out ren).code ≡ 0 → ⊥) → ((write_of atoms bonds n m out ren).code ≡ 1 → ⊥) → write_of atoms bonds n m out ren ≡ write_refused (write_of atoms bonds n m out ren).code out ren
    refusal-zeroes = go writes-so
      where
        go : {t : WriteResult} → Writes atoms bonds n m out ren t → (t.code ≡ 0 → ⊥) → (t.code ≡ 1 → ⊥) → t ≡ write_refused t.code out ren
        go (Writes.too_short l) a b = absurd (b refl)
        go (Writes.not_valid l v) a b = refl
        go (Writes.many_bridges l v w) a b = refl
        go (Writes.deep_branch l v f w) a b = refl
        go (Writes.long_text l v f s w) a b = refl
        go (Writes.writes l v w) a b = absurd (a refl)
