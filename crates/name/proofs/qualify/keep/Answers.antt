-- `name::qualify::keep` meets its contract. Assumes nothing.
use Prim.Native.Nat.{◌<◌, ◌≤◌}
use native.Mathlib.Omega.{arith}
use lib.ListN.{length}
use Rattle.name.proofs.qualify.Kept.{kept_long, kept_short}
use Rattle.name.specs.Full.{kept_limit}
use Rattle.name.proofs.qualify.keep.Goals as goal

pub returns-then-n-gt-LONGEST : goal.returns-then-n-gt-LONGEST
returns-then-n-gt-LONGEST c =
    let h : kept_limit < length c.args.s.now = omega arith in
    kept_long _ _ h

pub returns : goal.returns
returns c =
    let h : length c.args.s.now ≤ kept_limit = omega arith in
    kept_short _ _ _ h c.copy.ensures
