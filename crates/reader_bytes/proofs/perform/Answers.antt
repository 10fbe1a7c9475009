use native.Mathlib.Omega.{arith}
use Rattle.reader_bytes.proofs.Parts.{bridge-bounded, bridge-number, does-keep, does-atom, does-second, does-bridge, does-joint, does-open, does-close, does-tens, does-draft, does-row}
use Rattle.reader_bytes.proofs.perform.Goals as goal

pub bridge-requires : goal.bridge-requires
bridge-requires c = record { bounded = bridge-bounded c.args.h c.args.hubs.now _ c.args.symbols.now _ c.args.outsides.now c.args.keys.now c.args.atoms.now c.args.bonds.now c.requires.bounded; number_lt_bridges = bridge-number c.in-Bridge.is c.requires.numbered; at_le_max_text = omega (arith, c.saturating_sub.ensures) }

pub returns-in-Keep : goal.returns-in-Keep
returns-in-Keep c = does-keep _ _ _ c.in-Keep.is

pub returns-in-Atom : goal.returns-in-Atom
returns-in-Atom c = does-atom _ _ _ c.in-Atom.is (c.begin.ensures _ _ _ _ _)

pub returns-in-Second : goal.returns-in-Second
returns-in-Second c = does-second _ _ _ _ _ _ _ _ _ _ c.requires.bounded.hub _ c.put_atom.ensures c.in-Second.is c.bare.ensures

pub returns-in-Bridge : goal.returns-in-Bridge
returns-in-Bridge c = does-bridge _ _ _ c.in-Bridge.is c.saturating_sub.ensures (c.bridge.ensures _ _ _)

pub returns-in-Joint : goal.returns-in-Joint
returns-in-Joint c = does-joint _ _ _ c.in-Joint.is

pub returns-in-Open : goal.returns-in-Open
returns-in-Open c = does-open _ _ _ c.in-Open.is (c.«open».ensures _ _ _ _ _ _ _)

pub returns-in-Close : goal.returns-in-Close
returns-in-Close c = does-close _ _ _ c.in-Close.is (c.close.ensures _ _ _ _ _ _ _)

pub returns-in-Tens : goal.returns-in-Tens
returns-in-Tens c = does-tens _ _ _ c.in-Tens.is

pub returns-in-Draft : goal.returns-in-Draft
returns-in-Draft c = does-draft _ _ _ c.in-Draft.is

pub returns-in-Row : goal.returns-in-Row
returns-in-Row c = does-row _ _ _ _ _ _ _ _ _ _ c.requires.bounded.hub _ c.put_atom-in-Row.ensures c.in-Row.is c.row_of.ensures
