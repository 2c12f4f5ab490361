use Prim.Native.Nat.{ℕ, ◌+◌, ◌-◌, ◌*◌, ◌/◌, ◌<◌, ◌≤◌}
use mathlib.Core.Path.{◌≡◌, refl, ◌∙◌}
use native.Mathlib.Omega.{arith}
use lib.Dec.{eqb}
use lib.ListN.{get_or}
use mathlib.Core.List.{List}
use mathlib.Core.Bool.{false, not, ◌||◌}
use borrow.Author.Tests.{eqb-true, not-false}
use Rattle.bits.proofs.Booleans.{or_false}
use Rattle.tables.proofs.Ranges.{end_low, end_even, first_even, first_low}
use Rattle.tables.specs.Enabled.{enabled_range}
use Rattle.search.specs.Search.{FindsEnabled}
use Rattle.search.proofs.Highest.{held_shorter}
use Rattle.search.proofs.used_range.Goals as goal

empty : (n : ℕ) → not (eqb n 0) ≡ false → n ≡ 0
empty n e = eqb-true n 0 (not-false _ e)

-- the last entry of a range that is empty in both tables is cut off
shorter :
    (cfg : ℕ) (register_table predicate_table : List ℕ) (first end : ℕ) →
    FindsEnabled cfg register_table predicate_table (record { first = first; end = end + 1 }) →
    (not (eqb (get_or register_table end 0) 0) || not (eqb (get_or predicate_table end 0) 0)) ≡ false →
    FindsEnabled cfg register_table predicate_table (record { first = first; end = end })
shorter cfg register_table predicate_table first end was e =
    let low : end ≤ 16 = omega (arith, was.low) in
    let both = or_false _ _ e in
    record {
      low = low;
      registers = λ key. held_shorter _ _ _ _ (empty _ both.0) key ∙ was.registers key;
      predicates = λ key. held_shorter _ _ _ _ (empty _ both.1) key ∙ was.predicates key;
    }

pub loop-pair-init : goal.loop-pair-init
loop-pair-init c =
    let e = c.enabled_range-first.ensures in
    let halves : 2 * ((enabled_range c.args.cfg).end / 2) ≡ (enabled_range c.args.cfg).end =
    omega (arith, end_even c.args.cfg)
    in
    rw (e, halves)
    (first_low c.args.cfg, record { low = end_low _; registers = λ key. refl; predicates = λ key. refl })

-- the pair of entries that a turn looks at ends the range
once :
    (cfg : ℕ) (register_table predicate_table : List ℕ) (first n : ℕ) → 0 < n →
    FindsEnabled cfg register_table predicate_table (record { first = first; end = 2 * n }) →
    FindsEnabled cfg register_table predicate_table (record { first = first; end = 2 * (n - 1) + 1 + 1 })
once cfg register_table predicate_table first n some was =
    let last : 2 * n ≡ 2 * (n - 1) + 1 + 1 = omega arith in rw last at was

pub loop-pair-preserved : goal.loop-pair-preserved
loop-pair-preserved c =
    let even = rw (← c.enabled_range-first.ensures) at (first_even c.args.cfg) in
    let whole = once _ _ _ _ c.loop-pair.pair (omega (arith, c.loop-pair-test.true)) c.loop-pair.invariant.1 in (
      omega (arith, even, c.loop-pair-test.true),
      shorter _ _ _ _ _ (shorter _ _ _ _ _ whole c.if-register_table-i.false) c.if-register_table-i-2.false,
    )

pub returns-then-register_table-i-2 : goal.returns-then-register_table-i-2
returns-then-register_table-i-2 c =
    let whole = once _ _ _ _ c.loop-pair.pair (omega (arith, c.loop-pair-test.true)) c.loop-pair.invariant.1 in
    shorter _ _ _ _ _ whole c.if-register_table-i.false
