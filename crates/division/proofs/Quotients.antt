-- A division from its two parts.
use Rattle.std.proofs.Common.{◌≡◌, ℕ}
use Rattle.division.specs.declared.Division.{Division}

pub both_parts :
    (d : Division) {q r : ℕ} → d.quotient ≡ q → d.remainder ≡ r → d ≡ record { quotient = q; remainder = r }
both_parts d e f = rw (← e, ← f)
