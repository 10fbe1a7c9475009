use Rattle.reader.proofs.Atoms.{no-room-atom, no-room-bond, enough-room}
use Rattle.reader.proofs.atom.room_for.Goals as goal

pub returns-then-n-ge-MAX_ATOMS : goal.returns-then-n-ge-MAX_ATOMS
returns-then-n-ge-MAX_ATOMS c = no-room-atom _ _ _ _ c.if-n-ge-MAX_ATOMS.true

pub returns-then-bonded-m : goal.returns-then-bonded-m
returns-then-bonded-m c = no-room-bond _ _ _ _ c.if-n-ge-MAX_ATOMS.false c.if-bonded-m.true

pub returns : goal.returns
returns c = enough-room _ _ _ c.args.at c.if-n-ge-MAX_ATOMS.false c.if-bonded-m.false
