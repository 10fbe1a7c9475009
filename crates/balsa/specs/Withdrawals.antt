-- What the exported calls of the withdrawal check hand back
use Rattle.withdrawal.specs.Withdrawal.{WithdrawnOut}
use Rattle.balsa.specs.declared.withdrawal_calls.WithdrawnReply.{WithdrawnReply}

-- the numbers of the header's struct, as the definition has them
abbrev pub withdrawn_out : WithdrawnReply → WithdrawnOut
withdrawn_out r = record { code = r.code; place = r.place; answer = r.answer; tag = r.tag; entry = r.entry }
