use mathlib.Core.Path.{ap, ◌∙◌}
use Rattle.balsa.specs.Releases.{release_reply}
use Rattle.balsa.proofs.lease_calls.balsa_lease_release.Goals as goal

pub returns : goal.returns
returns c = c.from.ensures ∙ ap release_reply c.release.ensures
