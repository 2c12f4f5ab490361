-- Machines and arrays determine each other, and words in range are their low bits.
use Prim.Native.Nat.{ℕ, ◌≤◌, ◌%◌, ◌^◌}
use mathlib.Core.Path.{◌≡◌, refl, ◌∙◌}
use mathlib.Core.Bool.{true}
use mathlib.Core.List.{List, [], ◌∷◌}
use native.Mathlib.Nat.{mod-eq_of_lt}
use native.Mathlib.Omega.{arith}
use Rattle.state_word.specs.declared.State.{State}
use Rattle.state_word.specs.State.{state_in_shape}
use Rattle.state_word.proofs.States.{bounds}
use Rattle.simplev_arrays.specs.Layout.{low_bits, ControlBack, Faithful}

control_back : (control : List ℕ) → ControlBack control
control_back (a ∷ b ∷ c ∷ d ∷ e ∷ f ∷ []) h = refl
control_back [] h = absurd (omega arith)
control_back (a ∷ []) h = absurd (omega arith)
control_back (a ∷ b ∷ []) h = absurd (omega arith)
control_back (a ∷ b ∷ c ∷ []) h = absurd (omega arith)
control_back (a ∷ b ∷ c ∷ d ∷ []) h = absurd (omega arith)
control_back (a ∷ b ∷ c ∷ d ∷ e ∷ []) h = absurd (omega arith)
control_back (a ∷ b ∷ c ∷ d ∷ e ∷ f ∷ g ∷ rest) h = absurd (omega arith)

pub faithful : Faithful
faithful = record { machine = λ m. refl; control = control_back }

low_word-number : (n : ℕ) → n ≤ 64 → n % 2 ^ 32 ≡ n
low_word-number n h = mod-eq_of_lt (omega arith)

-- a state in shape is read whole
pub all_bits : {s r : State} → r ≡ low_bits s → state_in_shape s ≡ true → r ≡ s
unfolding low_bits
all_bits {s} e shaped =
    let b = bounds s shaped in
    e ∙ rw (
      low_word-number s.mvl b.mvl_high,
      low_word-number s.vl (omega arith),
      low_word-number s.cfg (omega arith),
      low_word-number s.source (omega arith),
      low_word-number s.destination (omega arith),
    )
