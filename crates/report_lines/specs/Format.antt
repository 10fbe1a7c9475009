-- Format of the report (01, the program): its lines as bytes
use Rattle.std.specs.Prelude.{ℕ, zero, suc, ◌+◌, ◌/◌, ◌%◌, List, [], ◌∷◌, ◌++◌, map, eqb, ltb}
use Rattle.loops.specs.Loop.{pick}

-- a number in decimal, in f digits at most
unfoldable pub dec_by : ℕ → ℕ → List ℕ
dec_by zero n = []
dec_by (suc f) n =
    let longer : List ℕ = dec_by f (n / 10) ++ ((48 + n % 10) ∷ []) in
    pick (ltb n 10) ((48 + n) ∷ []) longer

-- a number of 64 bits has at most 20 digits
unfoldable pub dec_of : ℕ → List ℕ
dec_of n = dec_by 20 n

-- a field after a space: a number
abbrev pub field : ℕ → List ℕ
field n = 32 ∷ dec_of n

-- a field after a space: a row or a text; "`-` stands for an empty one"
abbrev pub word : List ℕ → List ℕ
word [] = 32 ∷ 45 ∷ []
word (b ∷ l) = 32 ∷ b ∷ l

-- a matching row as digits `0` and `1`
abbrev pub bit_byte : ℕ → ℕ
bit_byte b = pick (eqb b 0) 48 49

abbrev pub row_text : List ℕ → List ℕ
row_text row = map bit_byte row

-- `balsa report`
abbrev pub header : List ℕ
header = 98 ∷ 97 ∷ 108 ∷ 115 ∷ 97 ∷ 32 ∷ 114 ∷ 101 ∷ 112 ∷ 111 ∷ 114 ∷ 116 ∷ 10 ∷ []

-- `k: 0 atoms bonds overfull row text` (02, P10: "as a fourth number after the bond count")
unfoldable pub accepted_line : ℕ → ℕ → ℕ → ℕ → List ℕ → List ℕ → List ℕ
accepted_line k atoms bonds overfull row text =
    dec_of k ++ ((58 ∷ 32 ∷ 48 ∷ []) ++ (field atoms ++ (field bonds ++ (field overfull ++ (word (row_text row) ++ (word text ++ (10 ∷ [])))))))

-- `k: code place`
unfoldable pub refused_line : ℕ → ℕ → ℕ → List ℕ
refused_line k code place = dec_of k ++ ((58 ∷ []) ++ (field code ++ (field place ++ (10 ∷ []))))

-- `accepted a refused r`
unfoldable pub totals_line : ℕ → ℕ → List ℕ
totals_line accepted refused =
    (97 ∷ 99 ∷ 99 ∷ 101 ∷ 112 ∷ 116 ∷ 101 ∷ 100 ∷ [])
    ++ (field accepted ++ ((32 ∷ 114 ∷ 101 ∷ 102 ∷ 117 ∷ 115 ∷ 101 ∷ 100 ∷ []) ++ (field refused ++ (10 ∷ []))))
