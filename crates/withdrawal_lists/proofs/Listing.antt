-- What a register lists: whether its layout is right, how many entries, and each of them. Assumes nothing.
use Prim.Native.Nat.{ℕ, ◌<◌}
use native.Mathlib.Omega.{arith}
use mathlib.Core.Path.{◌≡◌, refl, sym, ap, ◌∙◌}
use mathlib.Core.Bool.{Bool, true, false}
use mathlib.Core.List.{List, []}
use lib.ListN.{length, get_or}
use Rattle.loops.proofs.Loops.{length-up_to, up_to-at}
use Rattle.register.specs.Layout.{count, valid, invalid, listed, Listed, Entry, tag_of, body_of, entry_of, entries_of, listed_of}
use Rattle.register.specs.Adding.{new_entry}
use Rattle.register.proofs.Rules.{listed-valid}

-- no entry: what stands past the end of a list
abbrev pub no_entry : Entry
no_entry = new_entry 0 []

abbrev is_right : Listed → Bool
is_right invalid = false
is_right (listed es) = true

abbrev entries_in : Listed → List Entry
entries_in invalid = []
entries_in (listed es) = es

right_by : (r : List ℕ) (b : Bool) → valid r ≡ b → is_right (listed_of r) ≡ valid r
unfolding listed_of
right_by r true e = rw e
right_by r false e = rw e

right_is : (r : List ℕ) → is_right (listed_of r) ≡ valid r
right_is r = right_by r (valid r) refl

pub right-listed : (r : List ℕ) (es : List Entry) → listed_of r ≡ listed es → valid r ≡ true
right-listed r es e = sym (right_is r) ∙ ap is_right e

-- the entries by their places
pub entries-length : (r : List ℕ) → length (entries_of r) ≡ count r
unfolding entries_of
entries-length r = length-up_to (entry_of r) 0 (count r)

pub entries_at : (r : List ℕ) (p : ℕ) → p < count r → get_or (entries_of r) p no_entry ≡ entry_of r p
unfolding entries_of
entries_at r p l = up_to-at (entry_of r) (count r) p no_entry l

pub entries-listed : (r : List ℕ) (es : List Entry) → listed_of r ≡ listed es → entries_of r ≡ es
entries-listed r es e = ap entries_in (sym (listed-valid r (right-listed r es e)) ∙ e)

-- two registers that list the same
module _ (r z : List ℕ) (same : listed_of r ≡ listed_of z) where
  pub valid-alike : valid r ≡ valid z
  valid-alike = sym (right_is r) ∙ ap is_right same ∙ right_is z

  module _ (right : valid r ≡ true) where
    entries-alike : entries_of r ≡ entries_of z
    entries-alike = ap entries_in (sym (listed-valid r right) ∙ same ∙ listed-valid z (sym valid-alike ∙ right))

    pub count-alike : count r ≡ count z
    count-alike = sym (entries-length r) ∙ ap length entries-alike ∙ entries-length z

    module _ (p : ℕ) (l : p < count r) where
      entry-alike : entry_of r p ≡ entry_of z p
      entry-alike = sym (entries_at r p l) ∙ ap (λ (es : List Entry). get_or es p no_entry) entries-alike ∙ entries_at z p (omega (arith, l, count-alike))

      pub tag-alike : tag_of r p ≡ tag_of z p
      tag-alike = ap (λ (x : Entry). x.tag) entry-alike

      pub body_alike : body_of r p ≡ body_of z p
      body_alike = ap (λ (x : Entry). x.body) entry-alike
