-- Copying a machine out and back gives the machine that was copied, whatever the order.
use mathlib.Core.Path.{◌≡◌, refl, ◌∙◌, ap}
use mathlib.Core.Logic.{inl, inr}
use mathlib.Core.Bool.{true}
use mathlib.Core.List.{List, [], ◌∷◌}
use Rattle.answers.specs.Answer.{accepts}
use Rattle.machine.specs.declared.Machine.{Machine}
use Rattle.machine.specs.Calls.{done}
use Rattle.machine.specs.Shape.{in_shape, Sized}
use Rattle.bits.specs.Lists.{Among}
use Rattle.claims_calls.specs.Copy.{Part, after, restored, IsPart, CopyKept}
use Rattle.claims_calls.proofs.Parts.{Agree, same_machine}
use Rattle.claims_calls.proofs.Steps.{step}

-- what a list of parts leaves
record Copied (ps : List Part) (saved m : Machine) : Type 0 where
  last : Machine
  carries : restored ps saved m ≡ done last 0
  sized : Sized last
  among : (p : Part) → Among p ps → Agree saved p last
  others : (q : Part) → Agree saved q m → Agree saved q last

copied :
    (saved : Machine) → in_shape saved ≡ true → (ps : List Part) → ((p : Part) → Among p ps → IsPart p) →
    (m : Machine) → Sized m → in_shape m ≡ true → Copied ps saved m
unfolding restored accepts
copied saved s [] only m z h =
    record { last = m; carries = refl; sized = z; among = λ p a. absurd a; others = λ q e. e }
copied saved s (p ∷ ps) only m z h =
    let first = step saved m s h z p (only p (inl refl)) in
    let later = copied saved s ps (λ q a. only q (inr a)) first.next first.sized first.shaped in
    record {
      last = later.last;
      carries = ap (λ r. after r (restored ps saved)) first.carries ∙ later.carries;
      sized = later.sized;
      among = λ q a. either later.last q a (later.others p first.there) (later.among q);
      others = λ q e. later.others q (first.others q e);
    }
  where
    either :
        (l : Machine) (q : Part) → Among q (p ∷ ps) → Agree saved p l → (Among q ps → Agree saved q l) → Agree saved q l
    either l q (inl e) here rest = rw e here
    either l q (inr a) here rest = rest a

pub copy_kept : CopyKept
copy_kept ps whole saved host f t s h =
    let c = copied saved s ps whole.only host t h in
    c.carries
    ∙ ap (λ m. done m 0) (same_machine saved c.last f c.sized (λ p l. c.among p (whole.contains p l)))
