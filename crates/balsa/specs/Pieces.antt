-- What the calls for a text in pieces hand back to C: each answer in plain numbers, with the tables as they are then
use Rattle.std.specs.Prelude.{List, ℤ}
use Rattle.reading_pieces.specs.Calls.{Fed}
use Rattle.reader_pieces.specs.declared.Fed as reader
use Rattle.balsa.specs.declared.pieces_call.FedReply.{FedReply}

-- an answer in plain numbers
abbrev pub fed_reply_of : reader.Fed → FedReply
fed_reply_of f = record { code = f.code; place = f.place; atoms = f.atoms; bonds = f.bonds; overfull = f.overfull; state = f.state }

-- the same with both tables, as the definition of the calls tells it
abbrev pub fed_out : FedReply → List ℤ → List ℤ → Fed
fed_out r atoms bonds =
    record {
      result = record { code = r.code; offset = r.place; atom_count = r.atoms; bond_count = r.bonds; overfull = r.overfull; atoms = atoms; bonds = bonds };
      state = r.state;
    }
