-- 01, The text: the 118 IUPAC symbols, and the letters inside and outside brackets, as lists of bytes
use Rattle.std.specs.Prelude.{Bool, true, false, List, [], ◌∷◌, ℕ, eqb}
use Rattle.loops.specs.Loop.{pick}

-- the byte stands in the list
unfoldable pub among : ℕ → List ℕ → Bool
among b [] = false
among b (x ∷ l) = pick (eqb b x) true (among b l)

unfoldable pub same_bytes : List ℕ → List ℕ → Bool
same_bytes [] [] = true
same_bytes [] (y ∷ t) = false
same_bytes (x ∷ s) [] = false
same_bytes (x ∷ s) (y ∷ t) = pick (eqb x y) (same_bytes s t) false

-- the word stands in the list
unfoldable pub listed : List ℕ → List (List ℕ) → Bool
listed s [] = false
listed s (t ∷ l) = pick (same_bytes s t) true (listed s l)

-- some word of the list begins with the byte
unfoldable pub starts : ℕ → List (List ℕ) → Bool
starts a [] = false
starts a ([] ∷ l) = starts a l
starts a ((b ∷ t) ∷ l) = pick (eqb a b) true (starts a l)

-- outside brackets, one letter: * B C N O F P S I, and the selected c n o p s
unfoldable pub letters : List ℕ
letters = 42 ∷ 66 ∷ 67 ∷ 78 ∷ 79 ∷ 70 ∷ 80 ∷ 83 ∷ 73 ∷ 99 ∷ 110 ∷ 111 ∷ 112 ∷ 115 ∷ []

-- in brackets, besides the elements: * and the selected c n o p s
unfoldable pub marks : List ℕ
marks = 42 ∷ 99 ∷ 110 ∷ 111 ∷ 112 ∷ 115 ∷ []

-- the 118 symbols, by atomic number
unfoldable pub symbols : List (List ℕ)
symbols =
    (72 ∷ []) ∷ (72 ∷ 101 ∷ []) ∷ (76 ∷ 105 ∷ []) ∷ (66 ∷ 101 ∷ []) ∷ (66 ∷ []) ∷ (67 ∷ []) ∷ (78 ∷ []) ∷ (79 ∷ []) ∷  -- H He Li Be B C N O
    (70 ∷ []) ∷ (78 ∷ 101 ∷ []) ∷ (78 ∷ 97 ∷ []) ∷ (77 ∷ 103 ∷ []) ∷ (65 ∷ 108 ∷ []) ∷ (83 ∷ 105 ∷ []) ∷ (80 ∷ []) ∷ (83 ∷ []) ∷  -- F Ne Na Mg Al Si P S
    (67 ∷ 108 ∷ []) ∷ (65 ∷ 114 ∷ []) ∷ (75 ∷ []) ∷ (67 ∷ 97 ∷ []) ∷ (83 ∷ 99 ∷ []) ∷ (84 ∷ 105 ∷ []) ∷ (86 ∷ []) ∷ (67 ∷ 114 ∷ []) ∷  -- Cl Ar K Ca Sc Ti V Cr
    (77 ∷ 110 ∷ []) ∷ (70 ∷ 101 ∷ []) ∷ (67 ∷ 111 ∷ []) ∷ (78 ∷ 105 ∷ []) ∷ (67 ∷ 117 ∷ []) ∷ (90 ∷ 110 ∷ []) ∷ (71 ∷ 97 ∷ []) ∷ (71 ∷ 101 ∷ []) ∷  -- Mn Fe Co Ni Cu Zn Ga Ge
    (65 ∷ 115 ∷ []) ∷ (83 ∷ 101 ∷ []) ∷ (66 ∷ 114 ∷ []) ∷ (75 ∷ 114 ∷ []) ∷ (82 ∷ 98 ∷ []) ∷ (83 ∷ 114 ∷ []) ∷ (89 ∷ []) ∷ (90 ∷ 114 ∷ []) ∷  -- As Se Br Kr Rb Sr Y Zr
    (78 ∷ 98 ∷ []) ∷ (77 ∷ 111 ∷ []) ∷ (84 ∷ 99 ∷ []) ∷ (82 ∷ 117 ∷ []) ∷ (82 ∷ 104 ∷ []) ∷ (80 ∷ 100 ∷ []) ∷ (65 ∷ 103 ∷ []) ∷ (67 ∷ 100 ∷ []) ∷  -- Nb Mo Tc Ru Rh Pd Ag Cd
    (73 ∷ 110 ∷ []) ∷ (83 ∷ 110 ∷ []) ∷ (83 ∷ 98 ∷ []) ∷ (84 ∷ 101 ∷ []) ∷ (73 ∷ []) ∷ (88 ∷ 101 ∷ []) ∷ (67 ∷ 115 ∷ []) ∷ (66 ∷ 97 ∷ []) ∷  -- In Sn Sb Te I Xe Cs Ba
    (76 ∷ 97 ∷ []) ∷ (67 ∷ 101 ∷ []) ∷ (80 ∷ 114 ∷ []) ∷ (78 ∷ 100 ∷ []) ∷ (80 ∷ 109 ∷ []) ∷ (83 ∷ 109 ∷ []) ∷ (69 ∷ 117 ∷ []) ∷ (71 ∷ 100 ∷ []) ∷  -- La Ce Pr Nd Pm Sm Eu Gd
    (84 ∷ 98 ∷ []) ∷ (68 ∷ 121 ∷ []) ∷ (72 ∷ 111 ∷ []) ∷ (69 ∷ 114 ∷ []) ∷ (84 ∷ 109 ∷ []) ∷ (89 ∷ 98 ∷ []) ∷ (76 ∷ 117 ∷ []) ∷ (72 ∷ 102 ∷ []) ∷  -- Tb Dy Ho Er Tm Yb Lu Hf
    (84 ∷ 97 ∷ []) ∷ (87 ∷ []) ∷ (82 ∷ 101 ∷ []) ∷ (79 ∷ 115 ∷ []) ∷ (73 ∷ 114 ∷ []) ∷ (80 ∷ 116 ∷ []) ∷ (65 ∷ 117 ∷ []) ∷ (72 ∷ 103 ∷ []) ∷  -- Ta W Re Os Ir Pt Au Hg
    (84 ∷ 108 ∷ []) ∷ (80 ∷ 98 ∷ []) ∷ (66 ∷ 105 ∷ []) ∷ (80 ∷ 111 ∷ []) ∷ (65 ∷ 116 ∷ []) ∷ (82 ∷ 110 ∷ []) ∷ (70 ∷ 114 ∷ []) ∷ (82 ∷ 97 ∷ []) ∷  -- Tl Pb Bi Po At Rn Fr Ra
    (65 ∷ 99 ∷ []) ∷ (84 ∷ 104 ∷ []) ∷ (80 ∷ 97 ∷ []) ∷ (85 ∷ []) ∷ (78 ∷ 112 ∷ []) ∷ (80 ∷ 117 ∷ []) ∷ (65 ∷ 109 ∷ []) ∷ (67 ∷ 109 ∷ []) ∷  -- Ac Th Pa U Np Pu Am Cm
    (66 ∷ 107 ∷ []) ∷ (67 ∷ 102 ∷ []) ∷ (69 ∷ 115 ∷ []) ∷ (70 ∷ 109 ∷ []) ∷ (77 ∷ 100 ∷ []) ∷ (78 ∷ 111 ∷ []) ∷ (76 ∷ 114 ∷ []) ∷ (82 ∷ 102 ∷ []) ∷  -- Bk Cf Es Fm Md No Lr Rf
    (68 ∷ 98 ∷ []) ∷ (83 ∷ 103 ∷ []) ∷ (66 ∷ 104 ∷ []) ∷ (72 ∷ 115 ∷ []) ∷ (77 ∷ 116 ∷ []) ∷ (68 ∷ 115 ∷ []) ∷ (82 ∷ 103 ∷ []) ∷ (67 ∷ 110 ∷ []) ∷  -- Db Sg Bh Hs Mt Ds Rg Cn
    (78 ∷ 104 ∷ []) ∷ (70 ∷ 108 ∷ []) ∷ (77 ∷ 99 ∷ []) ∷ (76 ∷ 118 ∷ []) ∷ (84 ∷ 115 ∷ []) ∷ (79 ∷ 103 ∷ []) ∷  -- Nh Fl Mc Lv Ts Og
    []
