-- What the exported call for a key hands back
use Rattle.molecule_key.specs.Keyed.{KeyOut}
use Rattle.balsa.specs.declared.key_call.KeyReply.{KeyReply}

-- the numbers of an answer, as the struct of the header
abbrev pub key_reply : KeyOut → KeyReply
key_reply k = record { code = k.code; key = k.key }
