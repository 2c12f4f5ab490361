use Rattle.walk_transfers.proofs.sides.Sides.put.Goals as goal

pub returns : goal.returns
returns c = record {
  ran = c.after.ensures;
  registers = rw (← c.register-to.ensures) c.write_within.ensures;
}
