-- What is proved of two molecules side by side in one pair of tables (specs/Beside).

-- its placements are each row of the first followed by each row of the second, in 01's order; their number is the product; there is one where each has one
pub use Rattle.mixture_rows.proofs.Tables.{matchings-beside, number-beside, matchable-beside}
-- no late check fails where none fails in either
pub use Rattle.mixture_rows.proofs.Late.{late-parts}
-- the same with no chemistry: rows that pass a test of their two parts
pub use Rattle.mixture_rows.proofs.Product.{product, followed-length}
