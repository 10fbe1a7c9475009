-- 01, The text: a bracket's symbol in plain numbers: its bytes, atomic number and whether it is selected; 3 at the byte with which no symbol goes on
use Rattle.std.specs.Prelude.{ℕ}
use Rattle.element.specs.declared.Symbol.{Symbol}
use Rattle.element.specs.declared.Symbol.TheVariants.{Long, Brief, Selected, Half, Nothing}
use Rattle.balsa.specs.declared.symbol.SymbolReply.{SymbolReply}

abbrev pub symbol_found : ℕ → ℕ → ℕ → SymbolReply
symbol_found l e s = record { code = 0; place = 0; length = l; element = e; selected = s }

abbrev pub no_symbol : ℕ → SymbolReply
no_symbol p = record { code = 3; place = p; length = 0; element = 0; selected = 0 }

abbrev pub symbol_reply : Symbol → SymbolReply
symbol_reply (Long e) = symbol_found 2 e 0
symbol_reply (Brief e) = symbol_found 1 e 0
symbol_reply (Selected e) = symbol_found 1 e 1
symbol_reply Half = no_symbol 1
symbol_reply Nothing = no_symbol 0
