-- What is proved of two texts joined by a dot (02, P13): specs/Claims.

-- P13: "For two non-empty accepted texts without P5's or P8's marks whose join by a dot is within every limit, prove that the joined text is accepted and that its placements are exactly each row of the first followed by each row of the second, in 01's order. Their number is the product."
pub use Rattle.mixture.proofs.Mixture.{mixture}
-- the same of texts with P5's marks: 20 and 21 look at an atom and its bonds, which the other text does not touch
pub use Rattle.mixture.proofs.Mixture.{any-mixture}
-- `c1ccccc1.c1ccccc1` has four placements, in that order
pub use Rattle.mixture.proofs.Examples.{two-benzenes}
