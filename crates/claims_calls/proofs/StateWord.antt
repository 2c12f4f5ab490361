-- The claims about the state word hold.
use Prim.Native.Nat.{ℕ}
use mathlib.Core.Path.{◌≡◌, refl, sym}
use mathlib.Core.Bool.{true, true≢false}
use native.Mathlib.Omega.{arith}
use Rattle.state_word.specs.State.{of_word, word_of, cut, good_word}
use Rattle.state_word.proofs.States.{word_kept}
use Rattle.state_word.proofs.Words.{of_word_back, cut_same, good_back, mvl_back, vl_back, rest_back, above_back}
use Rattle.machine.specs.declared.Machine.{Machine}
use Rattle.answers.specs.Answer.{accepts}
use Rattle.answers.specs.Verdict.{verdict}
use Rattle.machine.specs.Calls.{done}
use Rattle.machine.specs.Shape.{in_shape}
use Rattle.machine.specs.Update.{with_state}
use Rattle.machine.specs.Setting.{set_state_word}
use Rattle.machine.specs.Reading.{read_state_word}
use Rattle.machine.proofs.Shapes.{parts}
use Rattle.claims_calls.specs.Setting.{Accepted}
use Rattle.claims_calls.specs.StateWord.{StateWordKept}
use Rattle.claims_calls.proofs.Guards.{by_value}
use Rattle.claims_calls.proofs.Settings.{kept}

pub read_is : (m : Machine) → in_shape m ≡ true → read_state_word m ≡ done m (word_of m.state)
unfolding accepts verdict
read_is m h = rw h

pub set_is :
    (m : Machine) (word : ℕ) → in_shape m ≡ true → good_word word ≡ true →
    set_state_word m word ≡ done (with_state m (cut (of_word word))) 0
unfolding set_state_word accepts verdict
set_is m word h g = rw (h, g)

-- the word of one machine in shape, written into any other
pub carried_word :
    (saved host : Machine) → in_shape saved ≡ true → in_shape host ≡ true →
    set_state_word host (word_of saved.state) ≡ done (with_state host saved.state) 0
carried_word saved host h o =
    let k = (parts saved h).state in
    let w = saved.state in rw (set_is host (word_of w) o (good_back w k), of_word_back w k, cut_same w k)

-- an accepted call passed its tests
passed : (m : Machine) (word : ℕ) → Accepted (set_state_word m word) → (in_shape m ≡ true) × (good_word word ≡ true)
unfolding set_state_word accepts
passed m word =
    by_value (λ reply. Accepted reply → (in_shape m ≡ true) × (good_word word ≡ true)) true (good_word word)
    (λ a. absurd (true≢false (sym a))) (λ p. absurd (true≢false p)) (λ g a. absurd (true≢false (sym a)))
    (λ h g a. (h, g))

pub state_word_kept : StateWordKept
state_word_kept = record {
  written_back = λ m h. rw (read_is m h) (carried_word m m h h);
  read_back = λ m word a.
      let t = passed m word a in
      let g = t.1 in
      let after = cut (of_word word) in
      let e = set_is m word t.0 g in
      let k = word_kept word g in
      rw (e, read_is (with_state m after) (kept m _ t.0 (λ s. k) (λ z. z) (λ c. c))) (record {
        answered = unfold accepts in refl;
        mvl = unfold of_word in omega (arith, mvl_back after k);
        vl = unfold of_word in omega (arith, vl_back after k);
        rest = rest_back word g;
        above = omega (arith, above_back after k);
      });
}
