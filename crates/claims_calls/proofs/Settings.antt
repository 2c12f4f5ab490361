-- What holds of every setting call.
use Prim.Native.Nat.{ℕ, ◌+◌}
use mathlib.Core.Path.{◌≡◌, refl, sym, ◌∙◌}
use mathlib.Core.Logic.{inl, inr}
use mathlib.Core.Bool.{Bool, true, false, true≢false}
use lib.Dec.{leb, ltb}
use lib.ListN.{get_or}
use native.Mathlib.Omega.{arith}
use borrow.Author.Tests.{leb-true}
use Rattle.registers.proofs.Writes.{zero_kept}
use Rattle.tables.specs.Entry.{bit0_clear, all_bit0_clear}
use Rattle.state_word.specs.State.{mvl_in_range, cfg_in_range, state_in_shape, good_word}
use Rattle.bits.proofs.Booleans.{and_left, and_right}
use Rattle.tables.proofs.Clear.{clear_set}
use Rattle.state_word.proofs.States.{vl_kept, mvl_kept, cfg_kept, word_kept}
use Rattle.machine.specs.declared.Machine.{Machine}
use Rattle.machine.specs.declared.Reply.{Reply}
use Rattle.answers.specs.declared.Answer.{Answer}
use Rattle.answers.specs.Answer.{number_of, value_of, accepts}
use Rattle.answers.specs.Verdict.{valid}
use Rattle.machine.specs.Calls.{refuse, done, guarded}
use Rattle.machine.specs.Shape.{in_shape}
use Rattle.machine.specs.Setting.{set_vl, set_vl_immediate, set_mvl, set_cfg, set_register_entry, set_predicate_entry}
use Rattle.machine.specs.Setting.{set_register, set_pc, set_state_word}
use Rattle.machine.proofs.Shapes.{parts, in_shape-parts}
use Rattle.claims_calls.specs.Setting.{Setting, vl, vl_immediate, mvl, cfg, register_entry, predicate_entry}
use Rattle.claims_calls.specs.Setting.{register, pc, state_word, set, returned}
use Rattle.bits.specs.Lists.{Among}
use Rattle.claims_calls.specs.Calls.{setting_answers, SettingSound}
use Rattle.claims_calls.proofs.Guards.{by_value}

-- a machine in shape stays so where each of the three parts does
pub kept :
    (m after : Machine) → in_shape m ≡ true →
    (state_in_shape m.state ≡ true → state_in_shape after.state ≡ true) →
    (get_or m.registers 0 0 ≡ 0 → get_or after.registers 0 0 ≡ 0) →
    (all_bit0_clear m.predicate_table ≡ true → all_bit0_clear after.predicate_table ≡ true) →
    in_shape after ≡ true
kept m after h state zero tables =
    let p = parts m h in
    in_shape-parts after
    (record { state = state p.state; zero_register = zero p.zero_register; tables = tables p.tables })

-- a call that comes to its end is accepted
ended :
    {m after : Machine} {s : Setting} {value : ℕ} → in_shape after ≡ true → value ≡ returned s after →
    SettingSound m s (done after value)
unfolding accepts
ended h e = record { answer = inl refl; accepted = λ a. h; value = λ a. e; refused = λ r. absurd (r refl) }

-- the tests refuse, or the rest of the call decides
if_guarded :
    {m : Machine} {s : Setting} {reply : Reply} (exists taken : Bool) →
    (in_shape m ≡ true → taken ≡ true → SettingSound m s reply) → SettingSound m s (guarded m exists (valid taken) reply)
unfolding accepts
if_guarded {m} {s} exists taken =
    by_value (SettingSound m s) exists taken (refuses (inr (inl refl)) refl refl)
    (λ p. refuses (inr (inr (inr (inl refl)))) refl refl) (λ g. refuses (inr (inr (inl refl))) refl refl)
  where
    refuses :
        {a : Answer} → Among (number_of a) setting_answers → accepts a ≡ false → value_of a ≡ 0 →
        SettingSound m s (refuse m a)
    refuses known e zero = record {
      answer = known;
      accepted = λ a. absurd (true≢false (sym a ∙ e));
      value = λ a. absurd (true≢false (sym a ∙ e));
      refused = λ r. record { machine = refl; value = zero };
    }

pub setting_sound : (m : Machine) (s : Setting) → SettingSound m s (set m s)
unfolding set_vl set_vl_immediate set_mvl set_cfg set_register_entry set_predicate_entry set_register set_pc set_state_word
setting_sound m (vl n) =
    if_guarded true (leb 1 n)
    (λ h e. ended (kept m _ h (λ k. vl_kept m.state k n (leb-true 1 n e)) (λ z. z) (λ t. t)) refl)
setting_sound m (vl_immediate n) =
    if_guarded true (leb n 31)
    (λ h e. ended (kept m _ h (λ k. vl_kept m.state k (n + 1) (omega arith)) (λ z. z) (λ t. t)) refl)
setting_sound m (mvl n) =
    if_guarded true (mvl_in_range n)
    (λ h e.
    let low = leb-true 1 n (and_left _ _ e) in
    let high = leb-true n 64 (and_right (leb 1 n) _ e) in
    ended (kept m _ h (λ k. mvl_kept m.state k n low high) (λ z. z) (λ t. t)) refl)
setting_sound m (cfg n) =
    if_guarded true (cfg_in_range n)
    (λ h e. ended (kept m _ h (λ k. cfg_kept m.state k n (leb-true n 31 e)) (λ z. z) (λ t. t)) refl)
setting_sound m (register_entry i entry) =
    if_guarded (ltb i 16) true (λ h e. ended (kept m _ h (λ k. k) (λ z. z) (λ t. t)) refl)
setting_sound m (predicate_entry i entry) =
    if_guarded (ltb i 16) (bit0_clear entry)
    (λ h e. ended (kept m _ h (λ k. k) (λ z. z) (clear_set m.predicate_table i entry e 16)) refl)
setting_sound m (register i value) =
    if_guarded (ltb i 128) true
    (λ h e. ended (kept m _ h (λ k. k) (zero_kept m.registers i value) (λ t. t)) refl)
setting_sound m (pc value) = if_guarded true true (λ h e. ended (kept m _ h (λ k. k) (λ z. z) (λ t. t)) refl)
setting_sound m (state_word word) =
    if_guarded true (good_word word) (λ h e. ended (kept m _ h (λ k. word_kept word e) (λ z. z) (λ t. t)) refl)
