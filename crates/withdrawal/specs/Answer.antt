-- What is answered, in the numbers of the definition
use Rattle.std.specs.Prelude.{ℕ, List, Result, Ok, Err}
use Rattle.refusal.specs.Code as refusal
use Rattle.register.specs.Answers as register
use Rattle.withdrawal.specs.declared.WithdrawError.{WithdrawError}
use Rattle.withdrawal.specs.declared.walk.Withdrawn.{Withdrawn}
use Rattle.withdrawal.specs.Withdrawal.{WithdrawOut, withdrew, WithdrawnOut, refused_with, answers}

-- a refusal's number and place
abbrev pub error_code : WithdrawError → ℕ
error_code (WithdrawError.Register e) = register.error_code e
error_code (WithdrawError.Text r) = refusal.code_of r.refusal

abbrev pub error_place : WithdrawError → ℕ
error_place (WithdrawError.Register e) = 0
error_place (WithdrawError.Text r) = r.at

-- withdrawing in numbers, and the register as it is then
abbrev pub withdrew_out : Result (Unit {0}) WithdrawError → List ℕ → WithdrawOut
withdrew_out (Ok _) r = withdrew 0 0 r
withdrew_out (Err e) r = withdrew (error_code e) (error_place e) r

-- what is said of a text in numbers
abbrev pub said_of : Withdrawn → WithdrawnOut
said_of Withdrawn.Clear = answers 0 0 0
said_of (Withdrawn.Listed t p) = answers 1 t p
said_of (Withdrawn.Undecided p) = answers 2 0 p

-- the answer in numbers
abbrev pub out_of : Result Withdrawn WithdrawError → WithdrawnOut
out_of (Ok w) = said_of w
out_of (Err e) = refused_with (error_code e) (error_place e)
