-- auxiliary: the rows of two molecules walked in their order, as the contracts of the walk say it
use Rattle.std.specs.Prelude.{ℕ, ◌*◌, ◌+◌, ◌/◌, ◌%◌, ◌<◌, ◌≤◌, ◌≡◌, Bool, true, false, List, [], length, get_or, take, ℤ, eqb}
use Rattle.loops.specs.Loop.{pick, run}
use Rattle.matching.specs.Enumeration.{Row, passing, matchings, fill, Reply, is_row}
use Rattle.matching.specs.Model.{some?, head_or}
use Rattle.matching.specs.declared.MatchingAnswer.{MatchingAnswer}
use Rattle.matching.specs.declared.MatchingAnswer.TheVariants.{Given, Absent, Refused, Ended}
use Rattle.table_graph.specs.Graph.{matching_of}
use Rattle.same_model.specs.Same.{max_same, image}
use Rattle.same_place.specs.Place.{entry, goods}
use Rattle.same_keys.specs.Keys.{Low, highest}
use Rattle.same_drawing.specs.Drawing.{cells, with_bond, row_sum}
use Rattle.same_open.specs.Open.{Way, Goes, Faces}
use Rattle.same_part.specs.Part.{closed_matrix}

-- what is drawn of a molecule: its bonds, the keys of its atoms, and the matrix of their pairs to which orders are added
pub record Sketch : Type 0 where
  pub base : List ℕ
  pub keys : List ℕ
  pub bonds : List ℤ
  pub n : ℕ
  pub m : ℕ

abbrev pub sketch : List ℕ → List ℕ → List ℤ → ℕ → ℕ → Sketch
sketch base keys bonds n m = record { base = base; keys = keys; bonds = bonds; n = n; m = m }

-- the matrix of the molecule settled by the row, and the sum of the row
unfoldable pub drawn_matrix : Sketch → Row → List ℕ
drawn_matrix y s = run (with_bond y.bonds s) 0 y.m y.base

abbrev pub sum_of : Sketch → Row → ℕ
sum_of y s = row_sum y.bonds y.m y.keys s

-- the renumberings that carry the first's matrix o onto the second molecule settled by the row s; none where its sum is not the first's, z
unfoldable pub ways : List ℕ → ℕ → List ℕ → Sketch → Row → List (List ℕ)
ways o z ok y s = pick (eqb z (sum_of y s)) (goods o (drawn_matrix y s) ok y.n [] y.n) []

-- the rows of the second molecule with which there is one
abbrev pub goes_with : List ℕ → ℕ → List ℕ → Sketch → Row → Bool
goes_with o z ok y s = some? (ways o z ok y s)

abbrev pub matches : List ℤ → Sketch → Row → Bool
matches atoms y = matching_of atoms y.bonds y.n y.m

unfoldable pub seconds : List ℕ → ℕ → List ℕ → List ℤ → Sketch → List Row
seconds o z ok atoms2 y = passing (goes_with o z ok y) (matchings (matches atoms2 y) y.m)

-- the rows of the first molecule with which there is such a row
abbrev pub seconds_for : List ℕ → Sketch → List ℤ → Sketch → Row → List Row
seconds_for ok x atoms2 y r = seconds (drawn_matrix x r) (sum_of x r) ok atoms2 y

abbrev pub has_second : List ℕ → Sketch → List ℤ → Sketch → Row → Bool
has_second ok x atoms2 y r = some? (seconds_for ok x atoms2 y r)

unfoldable pub firsts : List ℕ → List ℤ → Sketch → List ℤ → Sketch → List Row
firsts ok atoms1 x atoms2 y = passing (has_second ok x atoms2 y) (matchings (matches atoms1 x) x.m)

-- the answer is a matching
abbrev pub handed_out : MatchingAnswer → Bool
handed_out Given = true
handed_out Absent = false
handed_out Refused = false
handed_out Ended = false

-- a call hands out what the enumeration does
pub record HandsOut (g : Reply) (r : Bool) (row : Row) : Type 0 where
  pub told : r ≡ handed_out g.answer
  pub wrote : row ≡ g.row

-- a matrix that holds four times the key of each pair
pub record Based (n : ℕ) (base : List ℕ) : Type 0 where
  pub size : length base ≡ cells
  pub key : ℕ → ℕ → ℕ
  pub at : (a b : ℕ) → a < n → b < n → entry base a b ≡ 4 * key a b

-- numbers that are low enough for all sums
pub record Bounded (n : ℕ) (base keys : List ℕ) : Type 0 where
  pub low_base : Low base 40000
  pub low_keys : Low keys (highest 33)
  pub based : Based n base

-- n atoms, and a renumbering with a cell for each
pub record Fewer (n : ℕ) (base keys ren : List ℕ) : Type 0 where
  pub few : n ≤ max_same
  pub room : n ≤ length ren
  pub bounded : Bounded n base keys

-- a cell of the matrix seen from the other side
abbrev pub turned_cell : List ℕ → ℕ → ℕ
turned_cell ok i = get_or ok (max_same * (i % max_same) + i / max_same) 0

-- no renumbering leads from a matrix to where it is allowed to go
abbrev pub Nowhere : List ℕ → List ℕ → List ℕ → ℕ → Type 0
Nowhere p allowed ok n = (t : List ℕ) → ((a : ℕ) → a < n → image t a < n) → Goes ok n t → Faces p allowed n t → ⊥

-- no matching of the first that begins as its row does, up to `to`, has a way to one of the second that begins as its row does
pub record Apart (atoms bonds : List ℤ) (m : ℕ) (row : Row) (to : ℕ) (atoms2 bonds2 : List ℤ) (m2 : ℕ) (row2 : Row) (to2 : ℕ) (ok : List ℕ) (n : ℕ) : Type 0 where
  pub none : (s s2 : Row) → is_row m s ≡ true → matching_of atoms bonds n m s ≡ true → take to s ≡ take to row → is_row m2 s2 ≡ true → matching_of atoms2 bonds2 n m2 s2 ≡ true → take to2 s2 ≡ take to2 row2
      → (t : List ℕ) → Way (closed_matrix bonds s m) (closed_matrix bonds2 s2 m2) n t → Goes ok n t → ⊥

-- the walk over the second molecule's rows: whether one goes with the first's matrix; the first such, and its smallest renumbering
pub record SecondFound (o : List ℕ) (z : ℕ) (ok : List ℕ) (atoms2 : List ℤ) (y : Sketch) (row ren : List ℕ) (r : Bool) (row' ren' : List ℕ) : Type 0 where
  pub long : length row' ≡ length row
  pub size : length ren' ≡ length ren
  pub told : r ≡ some? (seconds o z ok atoms2 y)
  pub wrote : r ≡ true → row' ≡ fill (length row) (head_or [] (seconds o z ok atoms2 y))
  pub placed : r ≡ true → take y.n ren' ≡ head_or [] (ways o z ok y (head_or [] (seconds o z ok atoms2 y)))

-- the walk over the first molecule's rows
pub record FirstFound (ok : List ℕ) (atoms1 : List ℤ) (x : Sketch) (atoms2 : List ℤ) (y : Sketch) (row1 row2 ren : List ℕ) (r : Bool) (row1' row2' ren' : List ℕ) : Type 0 where
  pub long1 : length row1' ≡ length row1
  pub long2 : length row2' ≡ length row2
  pub size : length ren' ≡ length ren
  pub told : r ≡ some? (firsts ok atoms1 x atoms2 y)
  pub wrote1 : r ≡ true → row1' ≡ fill (length row1) (head_or [] (firsts ok atoms1 x atoms2 y))
  pub wrote2 : r ≡ true → row2' ≡ fill (length row2) (head_or [] (seconds_for ok x atoms2 y (head_or [] (firsts ok atoms1 x atoms2 y))))
  pub placed : r ≡ true → (let r1 = head_or [] (firsts ok atoms1 x atoms2 y) in take y.n ren' ≡ head_or [] (ways (drawn_matrix x r1) (sum_of x r1) ok y (head_or [] (seconds_for ok x atoms2 y r1))))
