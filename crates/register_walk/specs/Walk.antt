-- P12, walking a register: what each step tells, in the paper's numbers, and whole walks
use Rattle.std.specs.Prelude.{ℕ, zero, suc, ◌+◌, List, [], ◌∷◌, ltb, eqb, Result, Ok, Err, Option, None, Some}
use Rattle.loops.specs.Loop.{pick}
use Rattle.register.specs.declared.RegisterError.{RegisterError}
use Rattle.register.specs.declared.RegisterError.TheVariants.{Short, Invalid}
use Rattle.register.specs.Layout.{count, start_of, length_of, tag_of, Entry}
use Rattle.register.specs.Adding.{new_entry}
use Rattle.register.specs.Answers.{error_code, code_of, refusing, body_at}
use Rattle.register_walk.specs.declared.Step as declared

-- the start: "a short register gives 1 and a bad layout 17"
unfoldable pub started_of : List ℕ → ℕ
started_of r = refusing r (code_of (Err Short)) (code_of (Err Invalid)) (code_of (Ok tt))

-- the numbers of a step: an entry's tag, where its body stands, and the next place
pub record WalkOut : Type 0 where
  pub code : ℕ
  pub tag : ℕ
  pub start : ℕ
  pub size : ℕ
  pub next : ℕ

-- nothing is handed out, and the place stays
abbrev pub stays : ℕ → ℕ → WalkOut
stays p c = record { code = c; tag = 0; start = 0; size = 0; next = p }

-- an entry is handed out
abbrev pub hands : ℕ → ℕ → ℕ → ℕ → WalkOut
hands t s n q = record { code = 0; tag = t; start = s; size = n; next = q }

-- an answer to a step from the place p; 255 is "at the end"
abbrev pub walked_out : ℕ → Result (Option declared.Step) RegisterError → WalkOut
walked_out p (Err e) = stays p (error_code e)
walked_out p (Ok None) = stays p 255
walked_out p (Ok (Some x)) = hands x.found.tag x.found.start x.found.length x.next

-- the step from a place: the entry there, and on to the next place; "a place past the last entry is the end"; "neither moves the place"
unfoldable pub walked_of : List ℕ → ℕ → WalkOut
walked_of r p =
    refusing r (walked_out p (Err Short)) (walked_out p (Err Invalid))
    (pick (ltb p (count r)) (hands (tag_of r p) (start_of r p) (length_of r p) (p + 1)) (walked_out p (Ok None)))

-- what a step hands out: its numbers, and the body at its place
pub record Step : Type 0 where
  pub out : WalkOut
  pub body : List ℕ

abbrev pub step_of : List ℕ → ℕ → Step
step_of r p = record { out = walked_of r p; body = body_at r p }

-- a whole walk: n steps from the place p, each from the place that the one before left
unfoldable pub walk : ℕ → List ℕ → ℕ → List Step
walk zero r p = []
walk (suc n) r p = step_of r p ∷ walk n r (walked_of r p).next

-- the entries that steps handed out
abbrev pub with_entry : Step → List Entry → List Entry
with_entry x es = pick (eqb x.out.code 0) (new_entry x.out.tag x.body ∷ es) es

unfoldable pub handed : List Step → List Entry
handed [] = []
handed (x ∷ xs) = with_entry x (handed xs)
