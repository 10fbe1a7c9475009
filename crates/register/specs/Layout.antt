-- P2: what stands where in a register, and the entries that it lists
use Rattle.std.specs.Prelude.{ℕ, zero, suc, ◌+◌, ◌*◌, Bool, ◌&&◌, List, get_or, take, drop, leb, eqb}
use Rattle.loops.specs.Loop.{pick, each, up_to}

-- "a lent 32,768-byte register"
abbrev pub size : ℕ
size = 32768

-- "byte 1 the number of entries"
abbrev pub count : List ℕ → ℕ
count r = get_or r 1 0

-- "0 to 64"
abbrev pub max_entries : ℕ
max_entries = 64

-- "then a table of contents of 64 entries": entry j stands here
abbrev pub entry_at : ℕ → ℕ
entry_at j = 2 + 6 * j

-- "two bytes apiece, low byte first"
unfoldable pub two : List ℕ → ℕ → ℕ
two r i = get_or r i 0 + 256 * get_or r (i + 1) 0

-- "each start (counted from byte 0), length and a tag given by the caller"
abbrev pub start_of : List ℕ → ℕ → ℕ
start_of r j = two r (entry_at j)

abbrev pub length_of : List ℕ → ℕ → ℕ
length_of r j = two r (entry_at j + 2)

abbrev pub tag_of : List ℕ → ℕ → ℕ
tag_of r j = two r (entry_at j + 4)

-- "then, from byte 386, the bodies"
abbrev pub first_body : ℕ
first_body = 386

-- "back to back": where the bodies before entry j end
unfoldable pub end_before : List ℕ → ℕ → ℕ
end_before r zero = first_body
end_before r (suc j) = start_of r j + length_of r j

-- "each of at most 4,096 bytes"
abbrev pub max_body : ℕ
max_body = 4096

-- entry j starts where the bodies before it end, and its body is short enough and within the register
unfoldable pub valid_entry : List ℕ → ℕ → Bool
valid_entry r j = eqb (start_of r j) (end_before r j) && (leb (length_of r j) max_body && leb (start_of r j + length_of r j) size)

-- the rules of the layout: "byte 0 is 1", at most 64 entries, each of them valid
unfoldable pub valid : List ℕ → Bool
valid r = eqb (get_or r 0 0) 1 && (leb (count r) max_entries && each (valid_entry r) 0 (count r))

-- where the used bodies end
abbrev pub used : List ℕ → ℕ
used r = end_before r (count r)

-- an entry: its tag, and the bytes of its body
pub record Entry : Type 0 where
  pub tag : ℕ
  pub body : List ℕ

-- "the body as a part of the register"
abbrev pub part : List ℕ → ℕ → ℕ → List ℕ
part r s n = take n (drop s r)

abbrev pub body_of : List ℕ → ℕ → List ℕ
body_of r j = part r (start_of r j) (length_of r j)

abbrev pub entry_of : List ℕ → ℕ → Entry
entry_of r j = record { tag = tag_of r j; body = body_of r j }

unfoldable pub entries_of : List ℕ → List Entry
entries_of r = up_to (entry_of r) 0 (count r)

-- what a register lists: its entries, or that its layout breaks a rule
pub data Listed : Type 0 where
  invalid : Listed
  listed : List Entry → Listed

unfoldable pub listed_of : List ℕ → Listed
listed_of r = pick (valid r) (listed (entries_of r)) invalid
