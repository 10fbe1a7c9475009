use Rattle.std.proofs.Common.{◌∙◌, refl}
use Rattle.register.specs.Answers.{body_at}
use Rattle.register.proofs.Paths.{found-is, none-is, picks-yes}
use borrow.Author.Tests.{lt-ltb}
use Rattle.register.proofs.body.Goals as goal

pub body-requires : goal.body-requires
body-requires c = found-is _ _ _ (rw c.in-Ok-Some.field-0-is at c.in-Ok-Some.ensures) refl

pub returns-in-Ok-Some : goal.returns-in-Ok-Some
unfolding body_at
returns-in-Ok-Some c = let f = found-is _ _ _ (rw c.in-Ok-Some.field-0-is at c.in-Ok-Some.ensures) refl in
    c.body.ensures ∙ picks-yes _ _ _ _ _ _ f.0 f.1 (lt-ltb _ _ f.2)

pub returns-in-Ok-None : goal.returns-in-Ok-None
returns-in-Ok-None c = none-is _ _ _ (rw c.in-Ok-None.field-0-is at c.in-Ok-None.ensures) refl

pub returns-in-Err : goal.returns-in-Err
returns-in-Err c = none-is _ _ _ c.in-Err.ensures refl
