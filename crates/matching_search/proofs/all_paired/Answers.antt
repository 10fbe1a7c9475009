use mathlib.Core.Path.{◌∙◌, ap}
use mathlib.Core.Bool.{not}
use Rattle.matching_search.proofs.Flags.{none-any}
use Rattle.matching_search.proofs.all_paired.Goals as goal

pub returns : goal.returns
returns c = ap not c.contains.ensures.value ∙ none-any c.args.need.now
