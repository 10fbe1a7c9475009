use borrow.Author.Tests.{not-false}
use Rattle.same_alike.proofs.mark_like.Goals as goal

pub guess-requires : goal.guess-requires
guess-requires c = (c.requires.prefix.0.few, c.requires.prefix.3, c.requires.prefix.2, c.requires.prefix.4, c.requires.prefix.5)

pub is_like-requires : goal.is_like-requires
is_like-requires c = c.requires.prefix.0

pub returns-then-not-is_like : goal.returns-then-not-is_like
returns-then-not-is_like c = c.requires.hopeless

pub spread-requires : goal.spread-requires
spread-requires c = record { prefix = (c.requires.prefix.0, c.requires.prefix.1); like = c.is_like.ensures (not-false _ c.if-not-is_like.false-raw); hopeless = c.requires.hopeless }

pub returns : goal.returns
returns c = c.spread.ensures
