-- An operand as it is looked for in a range that finds what the enabled one finds.
use Prim.Native.Nat.{ℕ}
use mathlib.Core.Path.{◌≡◌}
use mathlib.Core.Bool.{true, false, cond}
use mathlib.Core.List.{List}
use Rattle.tables.specs.declared.enabled.Range.{Range}
use Rattle.search.specs.declared.Table.TheVariants.{Register, Predicate}
use Rattle.search.specs.Search.{held_entry, FindsEnabled}
use Rattle.encoding.specs.declared.form.Form.{Form}
use Rattle.decode.specs.Forms.{is_access}
use Rattle.decode.specs.declared.decoded.ResolvedOperand.{ResolvedOperand}
use Rattle.decode.specs.Resolving.{resolved_by, predicate_by, resolved, unmasked}

module _ {cfg : ℕ} {register_table predicate_table : List ℕ} {range : Range}
    (same : FindsEnabled cfg register_table predicate_table range)
    (key : ℕ) {n : ResolvedOperand} {predicate : ℕ}
    (found : n ≡ resolved_by (held_entry Register register_table range key) register_table key predicate)
  where
    pub masked :
        predicate ≡ predicate_by (held_entry Predicate predicate_table range key) predicate_table →
        n ≡ resolved cfg register_table predicate_table key
    unfolding resolved
    masked e = rw (found, e, same.registers key, same.predicates key)

    pub without_mask : predicate ≡ 0 → n ≡ unmasked (resolved cfg register_table predicate_table key)
    unfolding resolved
    without_mask e = rw (found, e, same.registers key)

-- whether the mask of rs1 counts
module _ {form f : Form} (held : ℕ) {predicate : ℕ} (is : form ≡ f) (said : predicate ≡ cond (is_access form) held 0) where
  pub counts : is_access f ≡ true → predicate ≡ held
  counts e = rw (said, is, e)

  pub counts_not : is_access f ≡ false → predicate ≡ 0
  counts_not e = rw (said, is, e)
