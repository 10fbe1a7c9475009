-- What asking the lease hands back to C: each answer in plain numbers
use Rattle.lease.specs.declared.Release.{Release}
use Rattle.lease.specs.declared.Withheld.{Withheld}
use Rattle.lease.specs.declared.Withheld.TheVariants.{Withdrawn, Undecided, Stale, Halted}
use Rattle.std.specs.Prelude.{Result, Ok, Err}
use Rattle.balsa.specs.declared.lease_calls.ReleaseReply.{ReleaseReply}

-- 0 yes, 1 withdrawn, 2 undecided, 3 stale, 4 halted; what an answer does not name is 0
abbrev pub release_reply : Result Release Withheld → ReleaseReply
release_reply (Ok r) = record { answer = 0; held = r.held; age = r.age }
release_reply (Err Withdrawn) = record { answer = 1; held = 0; age = 0 }
release_reply (Err Undecided) = record { answer = 2; held = 0; age = 0 }
release_reply (Err (Stale age)) = record { answer = 3; held = 0; age = age }
release_reply (Err Halted) = record { answer = 4; held = 0; age = 0 }
