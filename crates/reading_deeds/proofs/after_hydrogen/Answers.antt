use mathlib.Core.Path.{sym, ◌∙◌}
use Rattle.reading_fields.proofs.Bytes.{several-digit}
use Rattle.reading_deeds.proofs.Laws.{count-here, count-on}
use Rattle.reading_deeds.proofs.after_hydrogen.Goals as goal

pub value-requires : goal.value-requires
value-requires c = several-digit _ (sym c.is_several.ensures ∙ c.if-is_several.true)

pub returns-then-is_several : goal.returns-then-is_several
returns-then-is_several c = count-here _ (sym c.is_several.ensures ∙ c.if-is_several.true) c.value.ensures.0 c.with_hydrogens.ensures

pub returns : goal.returns
returns c = count-on _ (sym c.is_several.ensures ∙ c.if-is_several.false) c.charging.ensures
