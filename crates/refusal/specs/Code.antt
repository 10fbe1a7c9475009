-- 01, When a call says no: the code ("No.") of each refusal
use Rattle.std.specs.Prelude.{ℕ}
use Rattle.refusal.specs.declared.Refusal.{Refusal}
use Rattle.refusal.specs.declared.Refusal.TheVariants.{Short, LongText, Grammar, ManyAtoms, ManyBonds, DeepBranch, SelfBridge, RepeatedBond, SymbolClash, OpenBridge, Unmatchable, NotMatching, Invalid, ManyBridges, DeepWriting, LongWriting, CrowdedEnd, StrayMark, LooseAtom, UnfitMark}

-- each comment is the line of the table
abbrev pub code_of : Refusal → ℕ
code_of Short = 1  -- a lent table, row or output is shorter than the paper asks
code_of LongText = 2  -- the text is over 16,384 bytes
code_of Grammar = 3  -- grammar
code_of ManyAtoms = 4  -- a 1,001st atom begins
code_of ManyBonds = 5  -- 1,100 bonds stand and another atom is to be bonded, or a bridge closes
code_of DeepBranch = 6  -- a 65th branch opens inside 64
code_of SelfBridge = 7  -- a bridge joins an atom to itself
code_of RepeatedBond = 8  -- a bridge joins two atoms that have a bond
code_of SymbolClash = 9  -- the symbols at a bridge's ends differ
code_of OpenBridge = 10  -- a bridge is open at the end
code_of Unmatchable = 11  -- no matching ("placement") exists
code_of NotMatching = 12  -- the row handed in is not a matching of this molecule
code_of Invalid = 13  -- the tables are not valid ("sound")
code_of ManyBridges = 14  -- the walk needs over 99 bridges open at once
code_of DeepWriting = 15  -- the written branches nest over 64 deep
code_of LongWriting = 16  -- the written text would be over 16,384 bytes
code_of CrowdedEnd = 20  -- 02, P5: two marked neighbours of an end of a double bond lie on the same side
code_of StrayMark = 21  -- 02, P5: a mark touches no bond of kind 2
code_of LooseAtom = 22  -- 02, P6: a selected atom has fewer than two bonds
code_of UnfitMark = 23  -- 02, P8: a tetrahedral mark without four neighbours
