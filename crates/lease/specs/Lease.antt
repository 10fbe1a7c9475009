-- The lease of a follower: what each event makes of it, and when it says yes
use Rattle.std.specs.Prelude.{ℕ, ◌+◌, ◌-◌, Bool, ◌&&◌, ◌||◌, eqb, leb, ltb, Result, Ok, Err}
use Rattle.loops.specs.Loop.{pick}
use Rattle.lease.specs.declared.Lease.{Lease}
use Rattle.lease.specs.declared.Release.{Release}
use Rattle.lease.specs.declared.Withheld.{Withheld}
use Rattle.lease.specs.declared.Withheld.TheVariants.{Withdrawn, Undecided, Stale, Halted}

-- everything up to a number is held, and nothing was heard
abbrev pub begun : ℕ → Lease
begun n = record { phase = 0; held = n; head = 0; asked = 0 }

-- after a fault
abbrev pub halted : Lease → Lease
halted s = record { phase = 2; held = s.held; head = s.head; asked = s.asked }

abbrev pub is_halted : Lease → Bool
is_halted s = ltb 1 s.phase

-- "it notes the time, then asks for the head": a head that went back halts
unfoldable pub heard_of : Lease → ℕ → ℕ → Lease
heard_of s asked head =
    pick (is_halted s || (ltb head s.head || ltb head s.held)) (halted s)
    (record { phase = 1; held = s.held; head = head; asked = asked })

-- "numbers are given in commit order without gaps": any number but the next halts
unfoldable pub stored_of : Lease → ℕ → Lease
stored_of s number =
    pick (is_halted s) (halted s)
    (pick (eqb number (s.held + 1)) (record { phase = s.phase; held = number; head = s.head; asked = s.asked }) (halted s))

-- "yes only if it holds everything up to that head and the time since is at most the lease"
unfoldable pub fresh_of : Lease → ℕ → ℕ → Bool
fresh_of s now limit = eqb s.phase 1 && (leb s.head s.held && (leb s.asked now && leb (now - s.asked) limit))

-- a yes with its two numbers
abbrev pub yes : ℕ → ℕ → Result Release Withheld
yes held age = Ok (record { held = held; age = age })

-- the answer, by the verdict of all that is held: 0 clear, 1 withdrawn, any other undecided
unfoldable pub release_of : Lease → ℕ → ℕ → ℕ → Result Release Withheld
release_of s now limit verdict =
    pick (is_halted s) (Err Halted)
    (pick (eqb verdict 1) (Err Withdrawn)
    (pick (eqb verdict 0) (pick (fresh_of s now limit) (yes s.held (now - s.asked)) (Err (Stale (now - s.asked))))
    (Err Undecided)))
