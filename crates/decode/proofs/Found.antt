-- A word's operands as they are found, and the word that is put together from them.
use Prim.Native.Nat.{ℕ}
use mathlib.Core.Path.{◌≡◌, sym, ◌∙◌, ap}
use mathlib.Core.Bool.{Bool, true, false, cond}
use mathlib.Core.List.{List}
use Rattle.scalar.specs.declared.operator.Operator.{Operator}
use Rattle.scalar.specs.declared.width.Width.{Width}
use Rattle.tables.specs.declared.enabled.Range.{Range}
use Rattle.search.specs.declared.Table.TheVariants.{Register, Predicate}
use Rattle.search.specs.Search.{held_entry, FindsEnabled}
use Rattle.encoding.specs.declared.form.Form.{Form}
use Rattle.encoding.specs.Fields.{rd, rs1, immediate}
use Rattle.decode.specs.declared.decoded.ResolvedOperand.{ResolvedOperand}
use Rattle.decode.specs.declared.decoded.SecondOperand.{SecondOperand}
use Rattle.decode.specs.declared.decoded.Decoded.{Decoded}
use Rattle.decode.specs.declared.decoded.Decoded.TheVariants.{Operation, Load}
use Rattle.decode.specs.Forms.{first_key, is_access}
use Rattle.decode.specs.Resolving.{resolved_by, predicate_by, resolved, unmasked}
use Rattle.decode.specs.Decoding.{operation_with, load_with, decoded_as, second_unmasked, sources_unmasked}
use Rattle.decode.proofs.Words.{operation_is, load_is}
use Rattle.decode.proofs.Operands.{masked, without_mask, counts, counts_not}

-- the operand of the first key, and that of rs1, whose mask counts in a load or store alone
pub record Found (operand : ℕ → ResolvedOperand) (word : ℕ) (form : Form) (one two : ResolvedOperand) : Type 0 where
  pub first : (f : Form) → form ≡ f → one ≡ operand (first_key f word)
  pub address : (f : Form) → form ≡ f → is_access f ≡ true → two ≡ operand (rs1 word)
  pub source : (f : Form) → form ≡ f → is_access f ≡ false → two ≡ unmasked (operand (rs1 word))

pub found :
    {cfg word key number mask address_mask : ℕ} {register_table predicate_table : List ℕ} {range : Range} {form : Form}
    {one two : ResolvedOperand} → FindsEnabled cfg register_table predicate_table range → number ≡ rs1 word →
    address_mask
    ≡ cond (is_access form) (predicate_by (held_entry Predicate predicate_table range number) predicate_table) 0 →
    key ≡ first_key form word → mask ≡ predicate_by (held_entry Predicate predicate_table range key) predicate_table →
    one ≡ resolved_by (held_entry Register register_table range key) register_table key mask →
    two ≡ resolved_by (held_entry Register register_table range number) register_table number address_mask →
    Found (resolved cfg register_table predicate_table) word form one two
found same n a k m e f = record {
  first = λ g is. rw (← is, ← k) (masked same _ e m);
  address = λ g is access. rw (← n) (masked same _ f (counts _ is a access));
  source = λ g is access. rw (← n) (without_mask same _ f (counts_not _ is a access));
}

module _ {operand : ℕ → ResolvedOperand} {word : ℕ} {form : Form} {one two : ResolvedOperand}
    (operands : Found operand word form one two) (f : Form) (is : form ≡ f)
  where
    -- what the word is, by its form
    pub as_form :
        {d : Decoded} → d ≡ sources_unmasked (decoded_as operand word f) →
        d ≡ sources_unmasked (decoded_as operand word form)
    as_form e = e ∙ ap (λ g. sources_unmasked (decoded_as operand word g)) (sym is)

    pub operation_made :
        (o : Operator) (s : SecondOperand) {b : SecondOperand} {d : Decoded} → is_access f ≡ false →
        first_key f word ≡ rd word → decoded_as operand word f ≡ operation_with operand word o s →
        b ≡ second_unmasked s → d ≡ Operation (record { operator = o; destination = one; first = two; second = b }) →
        d ≡ sources_unmasked (decoded_as operand word form)
    operation_made o s source key by_form second made =
        as_form
        (made
        ∙ operation_is operand word o s (rw key at (operands.first f is)) (operands.source f is source) second
        ∙ ap sources_unmasked (sym by_form))

    pub load_made :
        (w : Width) (s : Bool) {d : Decoded} → is_access f ≡ true → first_key f word ≡ rd word →
        decoded_as operand word f ≡ load_with operand word w s →
        d ≡ Load (record { destination = one; address = two; offset = immediate word; width = w; signed = s }) →
        d ≡ sources_unmasked (decoded_as operand word form)
    load_made w s address key by_form made =
        as_form
        (made
        ∙ load_is operand word w s (rw key at (operands.first f is)) (operands.address f is address)
        ∙ ap sources_unmasked (sym by_form))
