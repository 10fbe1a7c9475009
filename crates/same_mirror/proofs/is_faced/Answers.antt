use Rattle.same_mirror.proofs.Checking.{faced-again}
use Rattle.same_mirror.proofs.is_faced.Goals as goal

pub is_repeated-requires : goal.is_repeated-requires
is_repeated-requires c = c.requires.i_lt_allowed_masks

pub returns-then-is_repeated : goal.returns-then-is_repeated
returns-then-is_repeated c = λ h. faced-again c.args.like.now (c.is_repeated.ensures c.if-is_repeated.true)

pub is_carried-requires : goal.is_carried-requires
is_carried-requires c = c.requires.n_le_max_same

pub returns : goal.returns
returns c = λ h f. c.is_carried.ensures h
