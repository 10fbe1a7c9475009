-- auxiliary: the straight walk: the bonds come so that the walk visits the atoms by ascending number (01, Writing)
use Rattle.std.specs.Prelude.{ℕ, suc, ◌<◌, ◌≤◌, ◌≡◌, List, length, get_or}
use Rattle.writing_walk.specs.Token.{Bond}

-- each atom from lo on and before hi has a parent, and its number plus 1 is not below lo: all of them are below the atom lo - 1 in the walk; up: each atom's parent plus 1, 0 for a root
pub record Held (up : List ℕ) (lo hi : ℕ) : Type 0 where
  pub held : (c : ℕ) → lo ≤ c → c < hi → lo ≤ get_or up c 0

-- the atoms before hi have parents before them, and all between an atom and its parent are below that parent
pub record Nested (up : List ℕ) (hi : ℕ) : Type 0 where
  pub before : (c : ℕ) → c < hi → get_or up c 0 ≤ c
  pub held : (c : ℕ) → c < hi → Held up (get_or up c 0) (suc c)

-- the first of b bonds whose second end is the atom c: it comes from the atom p and is of the kind k
pub record Entry (bonds : ℕ → Bond) (b p c k : ℕ) : Type 0 where
  pub at : ℕ
  pub below : at < b
  pub lo : (bonds at).lo ≡ p
  pub hi : (bonds at).hi ≡ c
  pub kind : (bonds at).kind ≡ k
  pub first : (i : ℕ) → i < b → (bonds i).hi ≡ c → at ≤ i

-- b bonds were passed, and by them next atoms have their parents and kinds: second ends ascend, each atom is entered by the first bond that ends there, and each bond comes from an atom above
pub record Passed (bonds : ℕ → Bond) (b next : ℕ) (up kind : List ℕ) : Type 0 where
  pub below : (i : ℕ) → i < b → (bonds i).hi < next
  pub ascending : (i j : ℕ) → i ≤ j → j < b → (bonds i).hi ≤ (bonds j).hi
  pub entries : (c p : ℕ) → c < next → get_or up c 0 ≡ suc p → Entry bonds b p c (get_or kind c 0)
  pub roots : (c : ℕ) → c < next → get_or up c 0 ≡ 0 → get_or kind c 0 ≡ 0
  pub held : (i : ℕ) → i < b → Held up (suc (bonds i).lo) (suc (bonds i).hi)

-- the cells from lo on and before hi were cleared, those before were kept
pub record Cleared (lo hi : ℕ) (x y : List ℕ) : Type 0 where
  pub long : length y ≡ length x
  pub same : (c : ℕ) → c < lo → get_or y c 0 ≡ get_or x c 0
  pub clear : (c : ℕ) → lo ≤ c → c < hi → get_or y c 0 ≡ 0

-- n atoms are visited by ascending number: the atom of each walk number, and each atom's walk number plus 1
pub record InTurn (n : ℕ) (o v : List ℕ) : Type 0 where
  pub order : (a : ℕ) → a < n → get_or o a 0 ≡ a
  pub number : (a : ℕ) → a < n → get_or v a 0 ≡ suc a
