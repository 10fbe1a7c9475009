-- What reading promises, beside its definition. Each name stands for a demand of 01.

-- the memory of every reading that goes on is sane; an accepted text gives valid and sound tables with their counts
pub use Rattle.reading.proofs.Accepted.{read-sane, read-valid, read-sound}
-- so does every sane memory, between any two bytes once its atoms got their hydrogens, and once their marks are as they are stored; and the test says so
pub use Rattle.reading.proofs.Valid.{sane-between, sane-filled, sane-valid, valid-true}
-- an accepted text: its counts, its rows with 01's hydrogens and P8's stored marks, zeros after them, no open bridge, a matching
pub use Rattle.reading.proofs.Accepted.{read-accepted}
-- what stands in the tables is what was read: complete atoms, letters, the fields before each `]`, bonds
pub use Rattle.reading.proofs.Kept.{atom-kept, letter-kept, first-row, bracket-kept, bond-kept}
-- codes 0, 10 and above only for texts of the grammar; 3 exactly at the grammar's place, unless 4 to 9 came before
pub use Rattle.reading.proofs.Texts.{reads-texts}
-- "given exactly when": each refusal by 01's conditions, the one that is told; and none exactly where a text is accepted
pub use Rattle.reading.proofs.First.{refused-iff, accepted-iff}
-- a late code exactly where the molecule read fails that check first, 20 to 23 in their words; 11 exactly where it passes them and has no matching
pub use Rattle.reading.proofs.Ending.{late-iff, crowded-read, stray-read, loose-read, unfit-read, unmatched-iff}
-- 1 and 2 exactly as said; 1 changes nothing by definition, and every other refusal zeroes both tables and both counts
pub use Rattle.reading.proofs.Refused.{short-iff, long-iff, refusal-zeroes}
