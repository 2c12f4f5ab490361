-- What holds of every reading call.
use mathlib.Core.Path.{refl}
use mathlib.Core.Logic.{inl, inr}
use mathlib.Core.Bool.{Bool, true, true≢false}
use Prim.Native.Nat.{ℕ}
use lib.Dec.{ltb}
use Rattle.answers.specs.declared.Answer.TheVariants.{Done}
use Rattle.answers.specs.Answer.{accepts}
use Rattle.machine.specs.declared.Machine.{Machine}
use Rattle.machine.specs.Calls.{done, guarded}
use Rattle.machine.specs.Reading.{read_register_entry, read_predicate_entry, read_register}
use Rattle.claims_calls.specs.Reading.{Reading, vl, mvl, cfg, register_entry, predicate_entry, register, pc}
use Rattle.claims_calls.specs.Reading.{state_word, read}
use Rattle.claims_calls.specs.Calls.{ReadingSound}
use Rattle.claims_calls.proofs.Guards.{by_value}

one_sound : (m : Machine) (exists : Bool) (value : ℕ) → ReadingSound m (guarded m exists (Done 0) (done m value))
unfolding accepts
one_sound m exists value =
    by_value (ReadingSound m) exists true
    (record { answer = inr (inl refl); machine = refl; refused = λ r. refl })
    (λ p. record { answer = inr (inr (inl refl)); machine = refl; refused = λ r. refl })
    (λ g. absurd (true≢false g))
    (λ h g. record { answer = inl refl; machine = refl; refused = λ r. absurd (r refl) })

pub reading_sound : (m : Machine) (r : Reading) → ReadingSound m (read m r)
unfolding read_register_entry read_predicate_entry read_register
reading_sound m vl = one_sound m true _
reading_sound m mvl = one_sound m true _
reading_sound m cfg = one_sound m true _
reading_sound m pc = one_sound m true _
reading_sound m state_word = one_sound m true _
reading_sound m (register_entry i) = one_sound m (ltb i 16) _
reading_sound m (predicate_entry i) = one_sound m (ltb i 16) _
reading_sound m (register i) = one_sound m (ltb i 128) _
