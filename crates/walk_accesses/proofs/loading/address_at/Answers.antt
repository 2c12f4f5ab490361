use Rattle.std.proofs.Common.{◌≡◌, ℕ, ◌+◌, ◌%◌, ◌^◌, false, sym, ap, ◌∙◌, add_assoc, rules}
use native.Mathlib.Nat.{add-mod-mod}
use Rattle.walk_operands.specs.declared.place.Place.{Place}
use Rattle.walk_operands.specs.Place.{register_at}
use Rattle.walk_accesses.specs.Loading.{address_at}
use Rattle.walk_accesses.proofs.loading.address_at.Goals as goal

pub returns-then-place : goal.returns-then-place
unfolding address_at
returns-then-place c =
    rw (c.at.ensures, c.if-place.true)

-- every position of a scalar has its register
register_at-scalar : (p : Place) (i : ℕ) → p.vector ≡ false → register_at p i ≡ p.register
unfolding register_at
register_at-scalar p i e = rw e

pub offset_bounds-registers-register : goal.offset_bounds-registers-register
offset_bounds-registers-register c =
    let below = rw (register_at-scalar c.args.place c.args.i c.if-place.false) at c.requires.0 in
    search (rules, below)

pub bounds-registers-register : goal.bounds-registers-register
bounds-registers-register c = rw (register_at-scalar c.args.place c.args.i c.if-place.false) at c.requires.0

-- the sum wraps once, or twice
wraps : (a b d : ℕ) → (a + (b + d) % 2 ^ 64) % 2 ^ 64 ≡ (a + b + d) % 2 ^ 64
wraps a b d = add-mod-mod a (b + d) (2 ^ 64) ∙ ap (λ (x : ℕ). x % 2 ^ 64) (sym (add_assoc a b d))

pub returns : goal.returns
unfolding address_at
returns c =
    rw (
      c.bytes.ensures,
      register_at-scalar c.args.place c.args.i c.if-place.false,
      c.if-place.false,
    )
    (wraps _ _ _)
