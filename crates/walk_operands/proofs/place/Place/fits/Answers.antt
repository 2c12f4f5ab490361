use Rattle.walk_operands.proofs.Fits.{beyond, scalar_fits, vector_fits}
use Rattle.walk_operands.proofs.place.Place.fits.Goals as goal

pub returns-then-self-ge128 : goal.returns-then-self-ge128
returns-then-self-ge128 c = beyond _ _ c.if-self-ge128.true

pub returns-then-self : goal.returns-then-self
returns-then-self c = vector_fits _ _ c.if-self.true c.if-self-ge128.false

pub returns : goal.returns
returns c = scalar_fits _ _ c.if-self.false c.if-self-ge128.false
