-- What holds of the entries listed after any list of withdrawals: every body is read, and what was listed stays. Assumes nothing.
use Prim.Native.Nat.{ℕ, zero, suc, ◌≤◌, ◌<◌}
use native.Mathlib.Omega.{arith}
use mathlib.Core.Path.{◌≡◌, refl, sym, subst, ◌∙◌}
use mathlib.Core.Bool.{Bool, true, false}
use mathlib.Core.Logic.{◌⊎◌, inl, inr}
use mathlib.Core.List.{List, [], ◌∷◌, ◌++◌}
use lib.ListN.{length, get_or, length-append, get_or-append}
use Rattle.loops.specs.Loop.{pick}
use Rattle.register.specs.Layout.{size, invalid, listed, Listed, Entry, listed_of}
use Rattle.register.specs.Adding.{new_entry}
use Rattle.register.specs.Calls.{room_for, add_to}
use Rattle.withdrawal.specs.Withdrawal.{accepted}
use Rattle.withdrawal_lists.specs.Lists.{Call, withdrawing, cutting, TagsFit, leaves, leaves_all, withdraw_to}
use Rattle.withdrawal_lists.proofs.Listing.{no_entry}
use Rattle.withdrawal_lists.proofs.Calls.{whole-list, cut_list, leaves-length}

-- what a withdraw on a plain list keeps, every list of withdrawals keeps
module _ (P : Listed → Type 0) (keeps : (t : ℕ) (s : List ℕ) (l : Listed) → P l → P (withdraw_to t s l)) where
  cut_keeps : (r z : List ℕ) (t : ℕ) (s : List ℕ) → P (listed_of r) → (listed_of z ≡ listed_of r) ⊎ (listed_of z ≡ withdraw_to t s (listed_of r)) → P (listed_of z)
  cut_keeps r z t s w (inl e) = subst P (sym e) w
  cut_keeps r z t s w (inr e) = subst P (sym e) (keeps t s (listed_of r) w)

  pub list-keeps : (cs : List Call) (r : List ℕ) → size ≤ length r → TagsFit cs → P (listed_of r) → P (listed_of (leaves_all cs r))
  unfolding leaves_all
  list-keeps [] r full h w = w
  list-keeps (withdrawing t s ∷ cs) r full h w =
      list-keeps cs (leaves (withdrawing t s) r) (omega (arith, full, leaves-length (withdrawing t s) r)) h.1
      (subst P (sym (whole-list r t s full h.0)) (keeps t s (listed_of r) w))
  list-keeps (cutting t s k ∷ cs) r full h w =
      list-keeps cs (leaves (cutting t s k) r) (omega (arith, full, leaves-length (cutting t s k) r)) h.1
      (cut_keeps r (leaves (cutting t s k) r) t s w (cut_list r t s full h.0 k))

-- ---- every body is read
abbrev pub AllRead : List Entry → Type 0
AllRead [] = Unit {0}
AllRead (x ∷ es) = (accepted x.body ≡ true) × AllRead es

abbrev pub ReadList : Listed → Type 0
ReadList invalid = ⊥
ReadList (listed es) = AllRead es

read_more : (es : List Entry) (x : Entry) → accepted x.body ≡ true → AllRead es → AllRead (es ++ (x ∷ []))
read_more [] x e w = (e, w)
read_more (y ∷ es) x e w = (w.0, read_more es x e w.1)

read-added : (t : ℕ) (s : List ℕ) → accepted s ≡ true → (l : Listed) → ReadList l → ReadList (add_to t s l)
read-added t s e invalid w = w
read-added t s e (listed es) w = go (room_for es (length s))
  where
    go : (b : Bool) → ReadList (pick b (listed (es ++ (new_entry t s ∷ []))) (listed es))
    go true = read_more es (new_entry t s) e w
    go false = w

pub read_kept : (t : ℕ) (s : List ℕ) (l : Listed) → ReadList l → ReadList (withdraw_to t s l)
read_kept t s l w = go (accepted s) refl
  where
    go : (b : Bool) → accepted s ≡ b → ReadList (pick b (add_to t s l) l)
    go true e = read-added t s e l w
    go false e = w

pub read_at : (es : List Entry) (p : ℕ) → p < length es → AllRead es → accepted (get_or es p no_entry).body ≡ true
read_at [] p l w = absurd (omega arith)
read_at (x ∷ es) zero l w = w.0
read_at (x ∷ es) (suc p) l w = read_at es p (omega arith) w.1

-- ---- what was listed stays, at its place
abbrev pub Has : ℕ → Entry → Listed → Type 0
Has p x invalid = ⊥
Has p x (listed es) = (p < length es) × (get_or es p no_entry ≡ x)

has_more : (p : ℕ) (x y : Entry) (es : List Entry) → Has p x (listed es) → Has p x (listed (es ++ (y ∷ [])))
has_more p x y es w = (omega (arith, w.0, length-append es (y ∷ [])), get_or-append es (y ∷ []) no_entry p w.0 ∙ w.1)

has-added : (p : ℕ) (x : Entry) (t : ℕ) (s : List ℕ) (l : Listed) → Has p x l → Has p x (add_to t s l)
has-added p x t s invalid w = w
has-added p x t s (listed es) w = go (room_for es (length s))
  where
    go : (b : Bool) → Has p x (pick b (listed (es ++ (new_entry t s ∷ []))) (listed es))
    go true = has_more p x (new_entry t s) es w
    go false = w

pub has_kept : (p : ℕ) (x : Entry) (t : ℕ) (s : List ℕ) (l : Listed) → Has p x l → Has p x (withdraw_to t s l)
has_kept p x t s l w = go (accepted s)
  where
    go : (b : Bool) → Has p x (pick b (add_to t s l) l)
    go true = has-added p x t s l w
    go false = w
