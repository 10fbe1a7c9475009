-- 01, The book, and When a call says no: what the calls for matchings answer, and the code of each answer
use Rattle.std.specs.Prelude.{ℕ, zero, suc, Bool, false, true, Result, Ok, Err}
use Rattle.refusal.specs.Code.{code_of}
use Rattle.refusal.specs.declared.Refusal.TheVariants.{Unmatchable, NotMatching}
use Rattle.matching.specs.declared.MatchingAnswer.{MatchingAnswer}
use Rattle.matching.specs.declared.MatchingAnswer.TheVariants.{Given as answerGiven, Absent, Refused as answerRefused, Ended}
use Rattle.matching.specs.declared.Call.{Call}
use Rattle.matching.specs.declared.Call.TheVariants.{First, Next}
use Rattle.refusal.specs.declared.Refusal.{Refusal}
use Rattle.kekule_answers.specs.declared.Handed.{Handed}
use Rattle.kekule_answers.specs.declared.Handed.TheVariants.{Given, Ended as noneFollows}

-- what a call for a matching answers: the row is the matching asked for, none follows, or a refusal
abbrev pub Found : Type 0
Found = Result Handed Refusal

-- an answer of the enumeration (01: of the book): 11 without a matching, 12 where the row is none, "end" after the last
abbrev pub found_of : MatchingAnswer → Found
found_of answerGiven = Ok Given
found_of Absent = Err Unmatchable
found_of answerRefused = Err NotMatching
found_of Ended = Ok noneFollows

-- 01's number for each answer: 0 for a matching, 255 for "end" (01 gives it none), else the refusal's
abbrev pub found_code : Found → ℕ
found_code (Ok Given) = 0
found_code (Ok noneFollows) = 255
found_code (Err r) = code_of r

-- the answer is a matching
abbrev pub is_given : Found → Bool
is_given (Ok Given) = true
is_given (Ok noneFollows) = false
is_given (Err r) = false

-- a byte as one of the two calls
abbrev pub call_of : ℕ → Call
call_of zero = First
call_of (suc b) = Next
